-- What is taken for a request, in the account of a client: what the account keeps of it, and that its clock passes a
-- grant's.
use Rattle.std.proofs.Common.{◌≡◌, ◌≤◌, ℕ, ◌==◌, Bool, true, false, cond, List, [], ◌∷◌, inl, inr, Option, Some, None}
use Rattle.std.proofs.Common.{option_map, refl, sym, ap, ◌∙◌, subst, arith, eq-eqb, eqb-true}
use Rattle.std.specs.Prelude.{is_none}
use Rattle.std.specs.List.{find}
use Rattle.qc_stamp.specs.declared.stamp.TxId.{TxId}
use Rattle.qc_list.specs.Vocabulary.{In}
use Rattle.qc_msg.specs.declared.message.Answer.{Answer}
use Rattle.qc_msg.specs.declared.message.Answer.TheVariants as answers
use Rattle.qc_msg.specs.declared.message.Want.{Want}
use Rattle.qc_msg.specs.declared.message.Want.TheVariants.{Read, Append, Prepare}
use Rattle.qc_msg.specs.declared.payload.Grant.{Grant}
use Rattle.qc_promise.specs.Vocabulary.{Account, ClientRequest, Current, counted, counted_for, granted, is_append}
use Rattle.qc_promise.specs.Vocabulary.{is_open, is_prepare, lived, promised, taken_for, told_by, with_read}
use Rattle.laws_due.proofs.OpenRequests.{IsFound, found}
use Rattle.laws_due.proofs.AdminRequests.{none_taken}
use Rattle.qc_list.proofs.Booleans.{and_first}

-- the name of the begun transaction
abbrev pub name_of : Option Current → Option TxId
name_of o = option_map (λ (t : Current). t.tx) o

-- the request of a number is open
pub record IsOpen (n : ℕ) (qs : List ClientRequest) : Type 0 where
  pub request : ClientRequest
  pub among : In request qs
  pub number : request.number ≡ n
  pub untaken : request.taken ≡ None

-- a begun transaction after an answer that counted: a grant to an Append shows it nothing
pub record IsSame (w : Want) (t now : Current) : Type 0 where
  pub tx : now.tx ≡ t.tx
  pub epoch : now.epoch ≡ t.epoch
  pub ops : now.ops ≡ t.ops
  pub own : now.own ≡ t.own
  pub doomed : now.doomed ≡ t.doomed
  pub grants : is_append w ≡ true → now.read_grants ≡ t.read_grants

abbrev pub AreSame : Want → Option Current → Option Current → Type 0
AreSame w None None = Unit {0}
AreSame w None (Some now) = ⊥
AreSame w (Some t) None = ⊥
AreSame w (Some t) (Some now) = IsSame w t now

pub record IsTold (w : Want) (d e : Account) : Type 0 where
  pub client : e.client ≡ d.client
  pub command : e.command ≡ d.command
  pub requests : e.requests ≡ d.requests
  pub written : e.written ≡ d.written
  pub clock : d.clock ≤ e.clock
  pub current : AreSame w d.current e.current

itself : (w : Want) (t : Current) → IsSame w t t
itself w t = record { tx = refl; epoch = refl; ops = refl; own = refl; doomed = refl; grants = λ is. refl }

all_itself : (w : Want) (o : Option Current) → AreSame w o o
all_itself w None = tt
all_itself w (Some t) = itself w t

changed : (w : Want) (change : Current → Current) → ((t : Current) → IsSame w t (change t)) → (o : Option Current)
    → AreSame w o (option_map change o)
changed w change keeps None = tt
changed w change keeps (Some t) = keeps t

nothing_told : (w : Want) (d : Account) → IsTold w d d
nothing_told w d = record {
  client = refl;
  command = refl;
  requests = refl;
  written = refl;
  clock = (let same : d.clock ≡ d.clock = refl in omega arith);
  current = all_itself w d.current;
}

grant_told : (d : Account) (site : ℕ) (x : Grant) (w : Want) → IsTold w d (granted d site x w)
grant_told d site x (Read read) = record {
  client = refl;
  command = refl;
  requests = refl;
  written = refl;
  clock = omega arith;
  current = changed (Read read) (λ (t : Current). with_read (lived t site x.life) read.object x.log)
      (λ t. record {
        tx = refl;
        epoch = refl;
        ops = refl;
        own = refl;
        doomed = refl;
        grants = λ is. absurd (let never : ⊥ = cc in never);
      }) d.current;
}
grant_told d site x (Append object view own) = record {
  client = refl;
  command = refl;
  requests = refl;
  written = refl;
  clock = omega arith;
  current = changed (Append object view own) (λ (t : Current). lived t site x.life)
      (λ t. record { tx = refl; epoch = refl; ops = refl; own = refl; doomed = refl; grants = λ is. refl }) d.current;
}
grant_told d site x Prepare = nothing_told Prepare d

promise_told : (d : Account) (clock : ℕ) (w : Want) → IsTold w d (promised d clock w)
promise_told d clock (Read read) = nothing_told (Read read) d
promise_told d clock (Append object view own) = nothing_told (Append object view own) d
promise_told d clock Prepare = record {
  client = refl;
  command = refl;
  requests = refl;
  written = refl;
  clock = omega arith;
  current = all_itself Prepare d.current;
}

pub told : (d : Account) (q : ClientRequest) (answer : Option Answer) → IsTold q.want d (told_by d q answer)
told d q None = nothing_told q.want d
told d q (Some (answers.Granted grant)) = grant_told d q.site grant q.want
told d q (Some (answers.Clash holder inv event)) = nothing_told q.want d
told d q (Some (answers.Closed epoch)) =
    record {
      client = refl;
      command = refl;
      requests = refl;
      written = refl;
      clock = (let same : d.clock ≡ d.clock = refl in omega arith);
      current = all_itself q.want d.current;
    }
told d q (Some (answers.Behind epoch)) = nothing_told q.want d
told d q (Some (answers.Restarted life)) = nothing_told q.want d
told d q (Some answers.Stale) = nothing_told q.want d
told d q (Some answers.Fault) = nothing_told q.want d
told d q (Some (answers.Yes clock)) = promise_told d clock q.want
told d q (Some (answers.Shut snapshot)) = nothing_told q.want d
told d q (Some answers.Installed) = nothing_told q.want d
told d q (Some (answers.Answered verdict)) = nothing_told q.want d

-- the other requests stay open

stays_among : (n m : ℕ) (answer : Option Answer) → (m ≡ n → ⊥) → (qs : List ClientRequest) (q : ClientRequest)
    → q.number ≡ m → In q qs → In q (taken_for n answer qs)
stays_among n m answer other [] q is among = among
stays_among n m answer other (p ∷ qs) q is (inl same) = inl (by (is_open n p) refl)
  where
    by : (o : Bool) → is_open n p ≡ o → q ≡ cond o (record p { taken = Some answer }) p
    by true it = absurd (other (sym is ∙ ap (λ (x : ClientRequest). x.number) same
        ∙ eqb-true p.number n (and_first (p.number == n) (is_none p.taken) it)))
    by false it = same
stays_among n m answer other (p ∷ qs) q is (inr later) = inr (stays_among n m answer other qs q is later)

pub stays_open : (n m : ℕ) (answer : Option Answer) → (m ≡ n → ⊥) → (qs : List ClientRequest) → IsOpen m qs
    → IsOpen m (taken_for n answer qs)
stays_open n m answer other qs o = record {
  request = o.request;
  among = stays_among n m answer other qs o.request o.number o.among;
  number = o.number;
  untaken = o.untaken;
}

-- one answer, or that a request is lost

pub record IsCounted (n : ℕ) (d e : Account) : Type 0 where
  pub named : name_of e.current ≡ name_of d.current
  pub written : e.written ≡ d.written
  pub clock : d.clock ≤ e.clock
  pub others : (m : ℕ) → (m ≡ n → ⊥) → IsOpen m d.requests → IsOpen m e.requests

same_name : (w : Want) (o p : Option Current) → AreSame w o p → name_of p ≡ name_of o
same_name w None None same = refl
same_name w None (Some now) same = absurd same
same_name w (Some t) None same = absurd same
same_name w (Some t) (Some now) same = ap (λ (x : TxId). Some x) same.tx

pub counts : (n : ℕ) (d : Account) (answer : Option Answer) → IsCounted n d (counted d n answer)
counts n d answer = by (find (is_open n) d.requests)
  where
    by : (o : Option ClientRequest) → IsCounted n d (counted_for d n answer o)
    by None = record {
      named = refl;
      written = refl;
      clock = (let same : d.clock ≡ d.clock = refl in omega arith);
      others = λ m other o. o;
    }
    by (Some q) =
        let t : IsTold q.want (record d { requests = taken_for n answer d.requests })
        (told_by (record d { requests = taken_for n answer d.requests }) q answer) =
        told (record d { requests = taken_for n answer d.requests }) q answer in
        record {
          named = same_name q.want d.current (told_by
              (record d { requests = taken_for n answer d.requests }) q answer).current t.current;
          written = t.written;
          clock = t.clock;
          others = λ m other o. subst (IsOpen m) (sym t.requests) (stays_open n m answer other d.requests o);
        }

-- an open request is found

pub untaken_is : (q : ClientRequest) → q.taken ≡ None → is_none q.taken ≡ true
untaken_is q is = ap (λ (o : Option (Option Answer)). is_none o) is

open_is : (n : ℕ) (q : ClientRequest) → q.number ≡ n → q.taken ≡ None → is_open n q ≡ true
open_is n q is untaken = rw (eq-eqb q.number n is, untaken_is q untaken) refl

not_found : (n : ℕ) (qs : List ClientRequest) → find (is_open n) qs ≡ None → IsOpen n qs → ⊥
not_found n [] none o = o.among
not_found n (p ∷ qs) none o = by (is_open n p) refl none o.among (not_found n qs)
  where
    by : (b : Bool) → is_open n p ≡ b → cond b (Some p) (find (is_open n) qs) ≡ None → In o.request (p ∷ qs)
        → (find (is_open n) qs ≡ None → IsOpen n qs → ⊥) → ⊥
    by true it e among rest = let never : ⊥ = cc in never
    by false it e (inl same) rest = let yes : is_open n p ≡ true =
        subst (λ (x : ClientRequest). is_open n x ≡ true) same (open_is n o.request o.number o.untaken) in
        let never : ⊥ = cc in never
    by false it e (inr later) rest = rest e (record
        { request = o.request; among = later; number = o.number; untaken = o.untaken })

-- each open request of the number asks a site for something new
abbrev pub AsksForGrants : ℕ → List ClientRequest → Type 0
AsksForGrants n qs = (q : ClientRequest) → In q qs → q.number ≡ n → q.taken ≡ None → is_prepare q.want ≡ false

granted_passes : (d : Account) (site : ℕ) (x : Grant) (w : Want) → is_prepare w ≡ false
    → x.clock ≤ (granted d site x w).clock
granted_passes d site x (Read read) is = omega arith
granted_passes d site x (Append object view own) is = omega arith
granted_passes d site x Prepare is = absurd (let never : ⊥ = cc in never)

-- the clock passes that of a grant which counts
pub passes : (n : ℕ) (d : Account) (x : Grant) → IsOpen n d.requests → AsksForGrants n d.requests
    → x.clock ≤ (counted d n (Some (answers.Granted x))).clock
passes n d x o asks = by (find (is_open n) d.requests) refl
  where
    by : (f : Option ClientRequest) → find (is_open n) d.requests ≡ f
        → x.clock ≤ (counted_for d n (Some (answers.Granted x)) f).clock
    by None none = absurd (not_found n d.requests none o)
    by (Some q) is =
        let f : IsFound n d.requests q = found n d.requests q is in
        granted_passes (record d { requests = taken_for n (Some (answers.Granted x)) d.requests }) q.site x q.want
        (asks q f.among f.number_is (none_taken q.taken f.open_still))

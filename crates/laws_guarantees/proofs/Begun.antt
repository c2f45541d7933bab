-- What an account has of a begun transaction, its client has too; and an input takes nothing from its view.
use Rattle.std.proofs.Common.{◌≡◌, ◌≤◌, ℕ, ◌==◌, Bool, List, [], ◌∷◌, ◌++◌, Option, Some, None, option_map, refl, sym}
use Rattle.std.proofs.Common.{ap, ◌∙◌, subst, arith, slice_get}
use Rattle.std.specs.Prelude.{filter, fold}
use Rattle.std.specs.List.{find}
use Rattle.std.specs.Option.{option_map_or}
use Rattle.std.proofs.lemmas.List.Elements.{filter-append}
use Rattle.std.proofs.lemmas.List.Sums.{fold-append}
use Rattle.qc_list.specs.Vocabulary.{In}
use Rattle.qc_entry.specs.declared.line.Line.{Line}
use Rattle.qc_entry.specs.Vocabulary.{union}
use Rattle.qc_entry.proofs.Union.{in_first}
use Rattle.qc_view.specs.declared.view.View.{View}
use Rattle.qc_decl.specs.declared.declaration.Declaration.{Declaration}
use Rattle.qc_msg.specs.declared.message.Answer.{Answer}
use Rattle.qc_msg.specs.declared.message.Message.{Message}
use Rattle.qc_msg.specs.declared.message.Want.{Want}
use Rattle.qc_msg.specs.declared.message.Want.TheVariants.{Read, Append, Prepare}
use Rattle.qc_msg.specs.declared.payload.Grant.{Grant}
use Rattle.qc_msg.specs.declared.step.Input.{Input}
use Rattle.qc_msg.specs.declared.step.Input.TheVariants as inputs
use Rattle.qc_front.specs.declared.front.Front.{Front}
use Rattle.qc_front.specs.declared.transaction.Transaction.{Transaction}
use Rattle.qc_front.specs.Vocabulary.{view_log}
use Rattle.qc_client.specs.declared.client.Client.{Client}
use Rattle.qc_promise.specs.Vocabulary.{Account, ClientRequest, Current, ReadGrant, account_heard, account_taken}
use Rattle.qc_promise.specs.Vocabulary.{counted, counted_for, granted, is_open, lived, promised, taken_for, told_by}
use Rattle.qc_promise.specs.Vocabulary.{view_of, with_read}
use Rattle.laws_guarantees.proofs.FirstGrants.{KeepsLives, life_added, same_lives}
use Rattle.laws_due.specs.Vocabulary.{AreBegun, IsBegun, Ties, appends, reads, rests, votes}
use Rattle.laws_guarantees.proofs.AccountCases.{heard_cases, told_cases}

-- an input takes nothing from a view

-- the transaction was begun before, with these operations, and its views had no more lines
pub record WasBegun (o : Option Current) (t : Current) : Type 0 where
  pub old : Current
  pub was : o ≡ Some old
  pub tx : t.tx ≡ old.tx
  pub epoch : t.epoch ≡ old.epoch
  pub ops : t.ops ≡ old.ops
  pub view : (object : ℕ) (l : Line) → In l (view_of old object) → In l (view_of t object)
  pub lives : KeepsLives old.lives t.lives

same : (o : Option Current) (t : Current) → o ≡ Some t → WasBegun o t
same o t is = record {
  old = t;
  was = is;
  tx = refl;
  epoch = refl;
  ops = refl;
  view = λ object l among. among;
  lives = same_lives t.lives;
}

abbrev add : List Line → ReadGrant → List Line
add lines g = union lines g.log

stays : (gs : List ReadGrant) (lines : List Line) (l : Line) → In l lines → In l (fold add lines gs)
stays [] lines l among = among
stays (g ∷ gs) lines l among = stays gs (add lines g) l (in_first l lines g.log among)

abbrev is_of : ℕ → ReadGrant → Bool
is_of object g = g.object == object

grows : (xs ys : List ReadGrant) (object : ℕ) (l : Line) → In l (fold add [] (filter (is_of object) xs))
    → In l (fold add [] (filter (is_of object) (xs ++ ys)))
grows xs ys object l among =
    subst (In l) (sym (ap (fold add []) (filter-append (is_of object) xs ys)
    ∙ fold-append add [] (filter (is_of object) xs) (filter (is_of object) ys)))
    (stays (filter (is_of object) ys) (fold add [] (filter (is_of object) xs)) l among)

record Keeps (change : Current → Current) (x : Current) : Type 0 where
  pub tx : (change x).tx ≡ x.tx
  pub epoch : (change x).epoch ≡ x.epoch
  pub ops : (change x).ops ≡ x.ops
  pub view : (object : ℕ) (l : Line) → In l (view_of x object) → In l (view_of (change x) object)
  pub lives : KeepsLives x.lives (change x).lives

changed : (o : Option Current) (change : Current → Current) → ((x : Current) → Keeps change x) → (t : Current)
    → option_map change o ≡ Some t → WasBegun o t
changed None change keeps t is = absurd (let never : ⊥ = cc in never)
changed (Some x) change keeps t is =
    let it : change x ≡ t = cc in
    subst (WasBegun (Some x)) it (record {
      old = x;
      was = refl;
      tx = (keeps x).tx;
      epoch = (keeps x).epoch;
      ops = (keeps x).ops;
      view = (keeps x).view;
      lives = (keeps x).lives;
    })

granted_kept : (d : Account) (site : ℕ) (g : Grant) (w : Want) (t : Current)
    → (granted d site g w).current ≡ Some t → WasBegun d.current t
granted_kept d site g (Read read) t is =
    changed d.current (λ (x : Current). with_read (lived x site g.life) read.object g.log)
    (λ x. record {
      tx = refl;
      epoch = refl;
      ops = refl;
      view = λ o l among. grows x.read_grants (record { object = read.object; log = g.log } ∷ []) o l among;
      lives = life_added x.lives site g.life;
    }) t is
granted_kept d site g (Append object view own) t is =
    changed d.current (λ (x : Current). lived x site g.life)
    (λ x. record {
      tx = refl;
      epoch = refl;
      ops = refl;
      view = λ o l among. among;
      lives = life_added x.lives site g.life;
    }) t is
granted_kept d site g Prepare t is = same d.current t is

promised_kept : (d : Account) (clock : ℕ) (w : Want) (t : Current) → (promised d clock w).current ≡ Some t
    → WasBegun d.current t
promised_kept d clock (Read read) t is = same d.current t is
promised_kept d clock (Append object view own) t is = same d.current t is
promised_kept d clock Prepare t is = same d.current t is

told_kept : (d : Account) (q : ClientRequest) (answer : Option Answer) (t : Current)
    → (told_by d q answer).current ≡ Some t → WasBegun d.current t
told_kept d q answer t is = told_cases d q (λ a e. e.current ≡ Some t → WasBegun d.current t)
    (λ a is. same d.current t is) (λ g is. granted_kept d q.site g q.want t is)
    (λ epoch is. same d.current t is) (λ clock is. promised_kept d clock q.want t is) answer is

counted_kept : (d : Account) (n : ℕ) (answer : Option Answer) (t : Current) → (counted d n answer).current ≡ Some t
    → WasBegun d.current t
counted_kept d n answer t is = by (find (is_open n) d.requests) is
  where
    by : (o : Option ClientRequest) → (counted_for d n answer o).current ≡ Some t → WasBegun d.current t
    by None e = same d.current t e
    by (Some q) e = told_kept (record d { requests = taken_for n answer d.requests }) q answer t e

heard_kept : (d : Account) (m : Message) (t : Current) → (account_heard d m).current ≡ Some t → WasBegun d.current t
heard_kept d m t is = heard_cases d (λ m e. e.current ≡ Some t → WasBegun d.current t) (λ m is. same d.current t is)
    (λ to answer is. counted_kept d to (Some answer) t is) m is

pub taken_kept : (d : Account) (g : Input) (t : Current) → (account_taken d g).current ≡ Some t → WasBegun d.current t
taken_kept d (inputs.Called command) t is = same d.current t is
taken_kept d (inputs.Got envelope) t is = heard_kept d envelope.message t is
taken_kept d (inputs.Lost n) t is = counted_kept d n None t is

-- the client has it

pub record IsKept (d : Account) (c : Client) (t : Current) : Type 0 where
  pub x : Transaction
  pub transaction : c.front.transaction ≡ Some x
  pub begun : IsBegun t x
  pub clock : c.front.clock.value ≤ d.clock

one_current : (o : Option Current) (t u : Current) → o ≡ Some t → o ≡ Some u → u ≡ t
one_current o t u is has = let both : Some u ≡ Some t = sym has ∙ is in cc

pub tied_kept : (decl : Declaration) (d : Account) (c : Client) (t : Current) → Ties decl d c → d.current ≡ Some t
    → IsKept d c t
tied_kept decl d c t (rests r) is = by c.front.transaction refl
    (subst (λ (o : Option Current). AreBegun o c.front.transaction) is r.begun)
  where
    by : (o : Option Transaction) → c.front.transaction ≡ o → AreBegun (Some t) o → IsKept d c t
    by None at begun = absurd begun
    by (Some x) at begun = record {
      x = x;
      transaction = at;
      begun = begun;
      clock = (let clocks : c.front.clock.value ≡ d.clock = ap (λ (f : Front). f.clock.value) r.front in omega arith);
    }
tied_kept decl d c t (reads r) is = record {
  x = r.x;
  transaction = ap (λ (f : Front). f.transaction) r.front;
  begun = subst (λ (y : Current). IsBegun y r.x) (one_current d.current t r.t is r.runs.current) r.begun;
  clock = (let clocks : c.front.clock.value ≡ d.clock = ap (λ (f : Front). f.clock.value) r.front in omega arith);
}
tied_kept decl d c t (appends r) is = record {
  x = r.x;
  transaction = ap (λ (f : Front). f.transaction) r.front;
  begun = subst (λ (y : Current). IsBegun y r.x) (one_current d.current t r.t is r.runs.current) r.begun;
  clock = (let clocks : c.front.clock.value ≡ d.clock = ap (λ (f : Front). f.clock.value) r.front in omega arith);
}
tied_kept decl d c t (votes v) is = record {
  x = v.x;
  transaction = ap (λ (f : Front). f.transaction) v.front;
  begun = subst (λ (y : Current). IsBegun y v.x) (one_current d.current t v.t is v.current) v.begun;
  clock = v.low;
}

-- what a client's view has, the account's has
pub logged : (t : Current) (x : Transaction) → IsBegun t x → (object : ℕ) (l : Line) → In l (view_log x object)
    → In l (view_of t object)
logged t x b object l among = by (slice_get x.views object) refl among
  where
    by : (o : Option View) → slice_get x.views object ≡ o → In l (option_map_or (λ (v : View). v.log) o [])
        → In l (view_of t object)
    by None at never = absurd never
    by (Some v) at there = subst (In l) (b.logs object v at) there

-- An open request of an account was sent, and nothing was taken for it since.
use Rattle.std.proofs.Common.{◌≡◌, ◌⊎◌, ℕ, ◌&&◌, Bool, true, false, cond, List, [], ◌∷◌, inl, inr, Option, Some, None}
use Rattle.std.proofs.Common.{refl, sym, ap, ◌∙◌, subst, eq-eqb}
use Rattle.std.specs.Prelude.{fold, is_none, MatchOption}
use Rattle.std.specs.List.{find, AllByRecursion as Every}
use Rattle.qc_list.specs.Vocabulary.{In}
use Rattle.qc_list.proofs.Members.{In-more}
use Rattle.qc_stamp.specs.declared.stamp.TxId.{TxId}
use Rattle.qc_decl.specs.declared.declaration.Declaration.{Declaration}
use Rattle.qc_msg.specs.declared.message.Answer.{Answer}
use Rattle.qc_msg.specs.declared.message.Message.{Message}
use Rattle.qc_msg.specs.declared.message.Message.TheVariants as messages
use Rattle.qc_msg.specs.declared.record.Record.{Record}
use Rattle.qc_msg.specs.declared.step.Input.TheVariants as inputs
use Rattle.qc_msg.specs.Vocabulary.{Deed, Falls, Rises, Sends, Takes, Tells, Writes, Answered, Requested, answer_in}
use Rattle.qc_promise.specs.Vocabulary.{Account, ClientRequest, account_at, account_heard, account_sent}
use Rattle.qc_promise.specs.Vocabulary.{account_written, counted, counted_for, is_open, new_account, taken_for, told_by}
use Rattle.laws_due.specs.Vocabulary.{IsAnswerTo, IsAwaited, IsNotFor}
use Rattle.laws_due.proofs.AccountCases.{sent_cases, told_cases, written_cases}
use Rattle.std.specs.Option.{option_map_or}

-- what is told of a request leaves the requests

told_requests : (d : Account) (p : ClientRequest) (answer : Option Answer) → (told_by d p answer).requests ≡ d.requests
told_requests d p answer =
    told_cases d p answer (λ (e : Account). e.requests ≡ d.requests) refl (λ clock. refl) (λ clock change same. refl)
    (λ epoch is. refl)

-- one that stays open isn't the one that something is taken for

open_now : (n : ℕ) (q : ClientRequest) → q.taken ≡ None → n ≡ q.number → is_open n q ≡ true
open_now n q untaken same =
    ap (λ (b : Bool). b && is_none q.taken) (eq-eqb q.number n (sym same))
    ∙ ap (λ (o : Option (Option Answer)). is_none o) untaken

none_found : (n : ℕ) (q : ClientRequest) (qs : List ClientRequest) → In q qs → is_open n q ≡ true
    → find (is_open n) qs ≡ None → ⊥
none_found n q [] among is none = among
none_found n q (p ∷ qs) among is none = by (is_open n p) refl none among (none_found n q qs)
  where
    by : (o : Bool) → is_open n p ≡ o → cond o (Some p) (find (is_open n) qs) ≡ None → (q ≡ p) ⊎ In q qs
        → (In q qs → is_open n q ≡ true → find (is_open n) qs ≡ None → ⊥) → ⊥
    by true at e among more = let never : ⊥ = cc in never
    by false at e (inl same) more = let seen : is_open n p ≡ true =
        subst (λ (x : ClientRequest). is_open n x ≡ true) same is in let never : ⊥ = cc in never
    by false at e (inr later) more = more later is e

still_in : (n : ℕ) (answer : Option Answer) (q : ClientRequest) (qs : List ClientRequest) → q.taken ≡ None
    → In q (taken_for n answer qs) → In q qs × (n ≡ q.number → ⊥)
still_in n answer q [] untaken among = absurd among
still_in n answer q (p ∷ qs) untaken among = by (is_open n p) refl among (still_in n answer q qs untaken)
  where
    by : (o : Bool) → is_open n p ≡ o → (q ≡ cond o (record p { taken = Some answer }) p) ⊎ In q (taken_for n answer qs)
        → (In q (taken_for n answer qs) → In q qs × (n ≡ q.number → ⊥))
        → In q (p ∷ qs) × (n ≡ q.number → ⊥)
    by true at (inl same) more = absurd (let was : q.taken ≡ Some answer = ap (λ (x : ClientRequest). x.taken) same in
        let never : ⊥ = cc in never)
    by false at (inl same) more = (
      inl same,
      λ eq. (let seen : is_open n p ≡ true = subst (λ (x : ClientRequest). is_open n x ≡ true) same
          (open_now n q untaken eq) in let never : ⊥ = cc in never),
    )
    by o at (inr later) more = let m : In q qs × (n ≡ q.number → ⊥) = more later in (inr m.0, m.1)

counted_open : (d : Account) (n : ℕ) (answer : Option Answer) (q : ClientRequest) → q.taken ≡ None
    → In q (counted d n answer).requests → In q d.requests × (n ≡ q.number → ⊥)
counted_open d n answer q untaken among = by (find (is_open n) d.requests) refl among
  where
    by : (o : Option ClientRequest) → find (is_open n) d.requests ≡ o → In q (counted_for d n answer o).requests
        → In q d.requests × (n ≡ q.number → ⊥)
    by None is there = (there, λ eq. none_found n q d.requests there (open_now n q untaken eq) is)
    by (Some p) is there = still_in n answer q d.requests untaken
        (subst (In q) (told_requests (record d { requests = taken_for n answer d.requests }) p answer) there)

heard_open : (d : Account) (m : Message) (q : ClientRequest) → q.taken ≡ None → In q (account_heard d m).requests
    → In q d.requests × (IsAnswerTo q.number m → ⊥)
heard_open d m q untaken among = by (answer_in m) among
  where
    by : (o : Option Answered)
        → In q (option_map_or (λ (a : Answered). counted d a.to (Some a.answer)) o d).requests
        → In q d.requests × (MatchOption o ⊥ (λ (a : Answered). a.to ≡ q.number) → ⊥)
    by None there = (there, λ never. never)
    by (Some a) there = counted_open d a.to (Some a.answer) q untaken there

written_open : (d : Account) (w : Record) (q : ClientRequest) → In q (account_written d w).requests → In q d.requests
written_open d w q =
    written_cases d (λ (e : Account). In q e.requests → In q d.requests) (λ among. among) (λ among. among)
    (λ commit among. among) w

-- the deed that sent it
pub record IsSending (x : Deed) (q : ClientRequest) : Type 0 where
  pub tx : TxId
  pub epoch : ℕ
  pub is : x ≡ Sends q.number q.site (messages.Request tx epoch q.life q.want)

module _ (decl : Declaration) where
  sent_open : (d : Account) (n to : ℕ) (m : Message) (q : ClientRequest) → In q (account_sent decl d n to m).requests
      → In q d.requests ⊎ IsSending (Sends n to m) q
  sent_open d n to m q among =
      sent_cases decl d n to
      (λ (m : Message) (e : Account). In q e.requests → In q d.requests ⊎ IsSending (Sends n to m) q) (λ m old. inl old)
      (λ w there. at w (In-more q (record { number = n; site = to; life = w.life; want = w.want; taken = None })
      d.requests there)) m among
    where
      at : (w : Requested)
          → In q d.requests ⊎ (q ≡ record { number = n; site = to; life = w.life; want = w.want; taken = None })
          → In q d.requests ⊎ IsSending (Sends n to (messages.Request w.tx w.epoch w.life w.want)) q
      at w (inl old) = inl old
      at w (inr same) = inr (record {
        tx = w.tx;
        epoch = w.epoch;
        is = ap (λ (p : ClientRequest). Sends p.number p.site (messages.Request w.tx w.epoch p.life p.want))
            (sym same);
      })

  one_open : (d : Account) (x : Deed) (q : ClientRequest) → q.taken ≡ None → In q (account_at decl d x).requests
      → (In q d.requests × IsNotFor q.number x) ⊎ IsSending x q
  one_open d (Takes (inputs.Called command)) q untaken among = absurd among
  one_open d (Takes (inputs.Got envelope)) q untaken among = inl (heard_open d envelope.message q untaken among)
  one_open d (Takes (inputs.Lost n)) q untaken among = inl (counted_open d n None q untaken among)
  one_open d (Writes w) q untaken among = inl (written_open d w q among, tt)
  one_open d (Sends n to m) q untaken among =
      elim (sent_open d n to m q among) [ inl old ↦ inl (old, tt) | inr new ↦ inr new ]
  one_open d (Tells reply) q untaken among = absurd among
  one_open d (Falls cause pending) q untaken among = absurd among
  one_open d (Rises kept) q untaken among = absurd among

  came : (ds : List Deed) (d : Account) (q : ClientRequest) → q.taken ≡ None
      → In q (fold (account_at decl) d ds).requests → (In q d.requests × Every (IsNotFor q.number) ds) ⊎ IsAwaited ds q
  came [] d q untaken among = inl (among, tt)
  came (x ∷ ds) d q untaken among = by (came ds (account_at decl d x) q untaken among)
    where
      by : (In q (account_at decl d x).requests × Every (IsNotFor q.number) ds) ⊎ IsAwaited ds q
          → (In q d.requests × Every (IsNotFor q.number) (x ∷ ds)) ⊎ IsAwaited (x ∷ ds) q
      by (inr w) = inr (record {
        before = x ∷ w.before;
        after = w.after;
        tx = w.tx;
        epoch = w.epoch;
        is = ap (λ (v : List Deed). x ∷ v) w.is;
        untaken = w.untaken;
      })
      by (inl old) = at (one_open d x q untaken old.0)
        where
          at : (In q d.requests × IsNotFor q.number x) ⊎ IsSending x q
              → (In q d.requests × Every (IsNotFor q.number) (x ∷ ds)) ⊎ IsAwaited (x ∷ ds) q
          at (inl still) = inl (still.0, (still.1, old.1))
          at (inr s) = inr (record {
            before = [];
            after = ds;
            tx = s.tx;
            epoch = s.epoch;
            is = ap (λ (v : Deed). v ∷ ds) s.is;
            untaken = old.1;
          })

  pub open_requests_were_sent : (client : ℕ) (ds : List Deed) (q : ClientRequest)
      → In q (fold (account_at decl) (new_account client) ds).requests → q.taken ≡ None → IsAwaited ds q
  open_requests_were_sent client ds q among untaken = by (came ds (new_account client) q untaken among)
    where
      by : (In q (new_account client).requests × Every (IsNotFor q.number) ds) ⊎ IsAwaited ds q → IsAwaited ds q
      by (inl none) = absurd none.0
      by (inr w) = w

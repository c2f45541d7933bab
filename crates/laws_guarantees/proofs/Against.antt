-- No vote that counts says that its site has forgotten, nobody is told so, and a site that is asked remembers.
use Rattle.std.proofs.Common.{◌≡◌, ◌⊎◌, ℕ, Bool, true, false, if◌then◌else◌, List, [], ◌∷◌, inl, inr, Option, Some}
use Rattle.std.proofs.Common.{None, refl, sym, ap, ◌∙◌, subst}
use Rattle.std.specs.List.{find}
use Rattle.std.specs.Option.{option_or}
use Rattle.qc_list.specs.Vocabulary.{In}
use Rattle.qc_list.proofs.Members.{In-passes, In-unfiltered}
use Rattle.qc_decl.specs.declared.declaration.Declaration.{Declaration}
use Rattle.qc_msg.specs.declared.message.Answer.{Answer}
use Rattle.qc_msg.specs.declared.message.Answer.TheVariants as answers
use Rattle.qc_msg.specs.declared.message.Envelope.{Envelope}
use Rattle.qc_msg.specs.declared.message.Message.{Message}
use Rattle.qc_msg.specs.declared.message.Message.TheVariants as messages
use Rattle.qc_msg.specs.declared.message.Want.{Want}
use Rattle.qc_msg.specs.declared.message.Want.TheVariants.{Read, Append, Prepare}
use Rattle.qc_msg.specs.declared.reply.Reply.TheVariants as replies
use Rattle.qc_msg.specs.declared.reply.AbortCause.{AbortCause}
use Rattle.qc_msg.specs.declared.reply.AbortCause.TheVariants as causes
use Rattle.qc_promise.specs.Vocabulary.{Account, ClientRequest, Current, account_heard, against, are_votes_in}
use Rattle.qc_promise.specs.Vocabulary.{commit_row, counted, counted_for, do_row, first_against, is_open, is_prepare}
use Rattle.qc_promise.specs.Vocabulary.{requests_for, running_row, taken_for, vote_row}
use Rattle.laws_guarantees.specs.Vocabulary.{IsOpenVote}
use Rattle.laws_guarantees.proofs.Accounts.{after_taken, open_number, open_untaken, told_requests}
use Rattle.laws_guarantees.proofs.ForgettingAnswers.{Forgets}
use Rattle.laws_guarantees.proofs.RowCases.{do_row_cases, running_cases}
use Rattle.laws_guarantees.proofs.AccountCases.{heard_cases}

-- a request for a promise for which this was taken
abbrev pub IsVote : Account → ClientRequest → Answer → Type 0
IsVote d q x = In q d.requests × (q.want ≡ Prepare) × (q.taken ≡ Some (Some x))

-- one that counts after something is taken counted before, or was open, and this is its answer
pub record IsNewVote (d : Account) (m : Message) (q : ClientRequest) (x : Answer) : Type 0 where
  pub old : ClientRequest
  pub vote : IsOpenVote d old
  pub is : m ≡ messages.Answer old.number x

counted_vote : (d : Account) (n : ℕ) (answer : Option Answer) (q : ClientRequest) (x : Answer)
    → IsVote (counted d n answer) q x → IsVote d q x
    ⊎ ((answer ≡ Some x) × ((old : ClientRequest) × IsOpenVote d old × (old.number ≡ n)))
counted_vote d n answer q x k = by (find (is_open n) d.requests) k
  where
    by : (o : Option ClientRequest) → IsVote (counted_for d n answer o) q x
        → IsVote d q x ⊎ ((answer ≡ Some x) × ((old : ClientRequest) × IsOpenVote d old × (old.number ≡ n)))
    by None v = inl v
    by (Some p) v = elim (after_taken n answer q d.requests
        (subst (In q) (told_requests (record d { requests = taken_for n answer d.requests }) p answer).0 v.0)) [
          | inl old ↦ inl (old, v.1, v.2)
          | inr now ↦ inr (
            (let e : Some answer ≡ Some (Some x) = sym (ap (λ (y : ClientRequest). y.taken) now.is) ∙ v.2 in cc),
            (
              now.old,
              record {
                among = now.among;
                want = sym (ap (λ (y : ClientRequest). y.want) now.is)
                    ∙ v.1;
                untaken = open_untaken n now.old now.open_still;
              },
              open_number n now.old now.open_still,
            ),
          )
        ]

pub taken_vote : (d : Account) (e : Envelope) (q : ClientRequest) (x : Answer) → IsVote (account_heard d e.message) q x
    → IsVote d q x ⊎ IsNewVote d e.message q x
taken_vote d e q x v =
    heard_cases d (λ m a. IsVote a q x → IsVote d q x ⊎ IsNewVote d m q x) (λ m k. inl k)
    (λ to answer k. elim (counted_vote d to (Some answer) q x k) [
      | inl old ↦ inl old
      | inr new ↦ inr (record {
        old = new.1.0;
        vote = new.1.1;
        is = (let same : answer ≡ x = (let e : Some answer ≡ Some x = new.0 in cc) in
            λ i. messages.Answer (sym new.1.2 i) (same i));
      })
    ]) e.message v

-- what counts against a promise because its site has forgotten

against_forgets : (q : ClientRequest) (o : Option (Option Answer)) (site : ℕ) → against q o ≡ Some (causes.Forgot site)
    → (x : Answer) × (o ≡ Some (Some x)) × Forgets x
against_forgets q None site is = absurd (let never : ⊥ = cc in never)
against_forgets q (Some None) site is = absurd
    (let e : causes.NoAnswer q.site ≡ causes.Forgot site = cc in let never : ⊥ = cc in never)
against_forgets q (Some (Some (answers.Granted grant))) site is = (answers.Granted grant, refl, tt)
against_forgets q (Some (Some (answers.Clash holder inv event))) site is = (answers.Clash holder inv event, refl, tt)
against_forgets q (Some (Some (answers.Closed epoch))) site is =
    absurd (let e : causes.Closed epoch q.site ≡ causes.Forgot site = cc in let never : ⊥ = cc in never)
against_forgets q (Some (Some (answers.Behind epoch))) site is = (answers.Behind epoch, refl, tt)
against_forgets q (Some (Some (answers.Restarted life))) site is =
    absurd (let e : causes.Restarted q.site q.life life ≡ causes.Forgot site = cc in let never : ⊥ = cc in never)
against_forgets q (Some (Some answers.Stale)) site is = (answers.Stale, refl, tt)
against_forgets q (Some (Some answers.Fault)) site is =
    absurd (let e : causes.Fault q.site ≡ causes.Forgot site = cc in let never : ⊥ = cc in never)
against_forgets q (Some (Some (answers.Yes clock))) site is = absurd (let never : ⊥ = cc in never)
against_forgets q (Some (Some (answers.Shut snapshot))) site is = (answers.Shut snapshot, refl, tt)
against_forgets q (Some (Some answers.Installed)) site is = (answers.Installed, refl, tt)
against_forgets q (Some (Some (answers.Answered outcome))) site is = (answers.Answered outcome, refl, tt)

-- the first against is that of one of the requests
first_is : (qs : List ClientRequest) (why : AbortCause) → first_against qs ≡ Some why
    → (q : ClientRequest) × In q qs × (against q q.taken ≡ Some why)
first_is [] why is = absurd (let never : ⊥ = cc in never)
first_is (p ∷ qs) why is = by (against p p.taken) refl is (first_is qs why)
  where
    by : (o : Option AbortCause) → against p p.taken ≡ o → option_or o (first_against qs) ≡ Some why
        → (first_against qs ≡ Some why → (q : ClientRequest) × In q qs × (against q q.taken ≡ Some why))
        → (q : ClientRequest) × In q (p ∷ qs) × (against q q.taken ≡ Some why)
    by None at e more = let r : (q : ClientRequest) × In q qs × (against q q.taken ≡ Some why) = more e in
        (r.0, inr r.1, r.2)
    by (Some w) at e more = (p, inl refl, at ∙ e)

-- the reply to a commit

pub is_prepared_want : (w : Want) → is_prepare w ≡ true → w ≡ Prepare
is_prepared_want (Read read) is = absurd (let never : ⊥ = cc in never)
is_prepared_want (Append object view own) is = absurd (let never : ⊥ = cc in never)
is_prepared_want Prepare is = refl

module _ (decl : Declaration) where
  do_why : (d : Account) (t : Current) (object inv : ℕ) (why : AbortCause)
      → do_row decl d t object inv ≡ Some (replies.Aborted why) → ⊥
  do_why d t object inv why = do_row_cases decl d (λ o. o ≡ Some (replies.Aborted why) → ⊥) t object inv
      (λ is. let never : ⊥ = cc in never) (λ is. let never : ⊥ = cc in never) (λ is. let never : ⊥ = cc in never)
      (λ epoch site is. let never : ⊥ = cc in never) (λ tx site is. let never : ⊥ = cc in never)
      (λ half got need is. let never : ⊥ = cc in never) (λ chosen is. let never : ⊥ = cc in never)
      (λ event chosen is. let never : ⊥ = cc in never)

  -- a vote that says that its site has forgotten
  abbrev pub IsForgottenVote : Account → ℕ → Type 0
  IsForgottenVote d site = (q : ClientRequest) × (x : Answer) × IsVote d q x × Forgets x

  commit_why : (d : Account) (t : Current) (site : ℕ)
      → commit_row decl d false t ≡ Some (replies.Aborted (causes.Forgot site))
      → IsForgottenVote d site
  commit_why d t site is = by t.doomed (are_votes_in decl d t) (first_against (requests_for is_prepare d)) refl is
    where
      by : (x y : Bool) (o : Option AbortCause) → first_against (requests_for is_prepare d) ≡ o
          → (if x then Some (replies.Aborted causes.Doomed) else (if y then vote_row d false o else None)) ≡ Some
          (replies.Aborted (causes.Forgot site))
          → (q : ClientRequest) × (x : Answer) × IsVote d q x × Forgets x
      by true y o first is = absurd (let e : causes.Doomed ≡ causes.Forgot site = cc in let never : ⊥ = cc in never)
      by false false o first is = absurd (let never : ⊥ = cc in never)
      by false true None first is = absurd (let never : ⊥ = cc in never)
      by false true (Some why) first is =
          let r : (q : ClientRequest) × In q (requests_for is_prepare d)
          × (against q q.taken ≡ Some why) = first_is (requests_for is_prepare d) why first in
          let a : (x : Answer) × (r.0.taken ≡ Some (Some x))
          × Forgets x = against_forgets r.0 r.0.taken site
          (r.2 ∙ (let w : Some why ≡ Some (causes.Forgot site) = cc in w)) in (
            r.0,
            a.0,
            (
              In-unfiltered (λ (q : ClientRequest). is_prepare q.want) r.0 d.requests r.1,
              is_prepared_want r.0.want (In-passes (λ (q : ClientRequest). is_prepare q.want) r.0 d.requests r.1),
              a.1,
            ),
            a.2,
          )

  pub due_why : (d : Account) (site : ℕ) → running_row decl d false ≡ Some (replies.Aborted (causes.Forgot site))
      → IsForgottenVote d site
  due_why d site is = running_cases decl d
      (λ o. o ≡ Some (replies.Aborted (causes.Forgot site)) → IsForgottenVote d site)
      (λ is. absurd (let never : ⊥ = cc in never)) (λ is. absurd (let never : ⊥ = cc in never))
      (λ is. absurd (let never : ⊥ = cc in never)) (λ other is. absurd (let never : ⊥ = cc in never))
      (λ is. absurd (let never : ⊥ = cc in never))
      (λ t object inv command current is. absurd (do_why d t object inv (causes.Forgot site) is))
      (λ t command current. commit_why d t site) is

-- a loss makes no vote
pub lost_vote : (d : Account) (n : ℕ) (q : ClientRequest) (x : Answer) → IsVote (counted d n None) q x → IsVote d q x
lost_vote d n q x k = elim (counted_vote d n None q x k)
    [ inl old ↦ old | inr new ↦ absurd (let e : None ≡ Some x = new.0 in let never : ⊥ = cc in never) ]

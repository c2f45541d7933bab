-- A Response that is due answers a `do` by the event that its view chooses, and Absent one for which it chooses none.
use Rattle.std.proofs.Common.{◌≡◌, ℕ, Bool, true, false, if◌then◌else◌, Option, Some, None, refl, ap, subst}
use Rattle.std.specs.Prelude.{option_and_then}
use Rattle.qc_decl.specs.declared.declaration.Declaration.{Declaration}
use Rattle.qc_msg.specs.declared.reply.Reply.{Reply}
use Rattle.qc_msg.specs.declared.reply.Reply.TheVariants as replies
use Rattle.qc_msg.specs.declared.reply.AbortCause.{AbortCause}
use Rattle.qc_msg.specs.declared.reply.AbortCause.TheVariants as causes
use Rattle.qc_msg.specs.declared.step.Command.TheVariants as commands
use Rattle.qc_promise.specs.Vocabulary.{Account, Current, answer_of, are_votes_in, commit_row, do_row, first_against}
use Rattle.qc_promise.specs.Vocabulary.{is_prepare, requests_for, resp_of, running_row, vote_row}
use Rattle.laws_guarantees.specs.Vocabulary.{IsAnsweredFrom}
use Rattle.qc_msg.specs.Vocabulary.{response_in}
use Rattle.laws_guarantees.proofs.RowCases.{do_row_cases, running_cases}

-- the reply to a `do` that records: its response, or none
abbrev recorded_by : Option Reply → Option (Option ℕ)
recorded_by o = option_and_then response_in o

none_some : {A : Type 0} (o : Option (Option ℕ)) (resp : Option ℕ) → o ≡ None → o ≡ Some resp → A
none_some o resp none some = absurd (let never : ⊥ = cc in never)

module _ (decl : Declaration) where
  same_inner : (a b : Option ℕ) → Some a ≡ Some b → a ≡ b
  same_inner a b is = cc

  do_recorded : (d : Account) (t : Current) (object inv : ℕ) (r : Option ℕ)
      → recorded_by (do_row decl d t object inv) ≡ Some r → IsAnsweredFrom decl object (answer_of decl t object inv) r
  do_recorded d t object inv r is = do_row_cases decl d
      (λ o. recorded_by o ≡ Some r → IsAnsweredFrom decl object (answer_of decl t object inv) r) t object inv
      (none_some None r refl) (none_some None r refl) (none_some None r refl) (λ epoch site. none_some None r refl)
      (λ tx site. none_some None r refl) (λ half got need. none_some None r refl)
      (λ chosen is. subst (IsAnsweredFrom decl object (answer_of decl t object inv)) (same_inner None r is) chosen)
      (λ event chosen is. subst (IsAnsweredFrom decl object (answer_of decl t object inv))
      (same_inner (Some (resp_of decl object event)) r is) (event, chosen, refl)) is

  commit_recorded : (d : Account) (t : Current) → recorded_by (commit_row decl d false t) ≡ None
  commit_recorded d t = by t.doomed (are_votes_in decl d t) (first_against (requests_for is_prepare d))
    where
      by : (x y : Bool) (o : Option AbortCause)
          → recorded_by (if x then Some (replies.Aborted causes.Doomed) else (if y then vote_row d false o else None))
          ≡ None
      by true y o = refl
      by false false o = refl
      by false true None = refl
      by false true (Some why) = refl

  -- a `do` runs in a begun transaction, and the event was chosen by its view
  pub record IsAnswered (d : Account) (r : Option ℕ) : Type 0 where
    pub t : Current
    pub object : ℕ
    pub inv : ℕ
    pub command : d.command ≡ Some (commands.Do object inv)
    pub current : d.current ≡ Some t
    pub chose : IsAnsweredFrom decl object (answer_of decl t object inv) r

  due_recorded : (d : Account) (r : Option ℕ) → recorded_by (running_row decl d false) ≡ Some r → IsAnswered d r
  due_recorded d r is = running_cases decl d (λ o. recorded_by o ≡ Some r → IsAnswered d r)
      (none_some None r refl) (none_some None r refl) (none_some None r refl) (λ other. none_some None r refl)
      (none_some None r refl)
      (λ t object inv command current is. record {
        t = t;
        object = object;
        inv = inv;
        command = command;
        current = current;
        chose = do_recorded d t object inv r is;
      })
      (λ t command current. none_some (recorded_by (commit_row decl d false t)) r (commit_recorded d t)) is

  pub due_response : (d : Account) (resp : ℕ) → running_row decl d false ≡ Some (replies.Response resp)
      → IsAnswered d (Some resp)
  due_response d resp is = due_recorded d (Some resp) (ap recorded_by is)

  pub due_absent : (d : Account) → running_row decl d false ≡ Some replies.Absent → IsAnswered d None
  due_absent d is = due_recorded d None (ap recorded_by is)

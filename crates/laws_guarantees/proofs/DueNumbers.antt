-- A transaction that begins has the number that comes next.
use Rattle.std.proofs.Common.{◌≡◌, ℕ, ◌+◌, Bool, true, false, if◌then◌else◌, Option, Some, None, refl, sym, ap}
use Rattle.std.specs.Prelude.{option_and_then, option_map}
use Rattle.qc_stamp.specs.declared.stamp.TxId.{TxId}
use Rattle.qc_decl.specs.declared.declaration.Declaration.{Declaration}
use Rattle.qc_msg.specs.declared.reply.Reply.{Reply}
use Rattle.qc_msg.specs.declared.reply.Reply.TheVariants as replies
use Rattle.qc_msg.specs.declared.reply.AbortCause.{AbortCause}
use Rattle.qc_msg.specs.declared.reply.AbortCause.TheVariants as causes
use Rattle.qc_promise.specs.Vocabulary.{Account, Current, are_votes_in, commit_row, do_row, first_against, is_prepare}
use Rattle.qc_promise.specs.Vocabulary.{requests_for, running_row, vote_row}
use Rattle.qc_msg.specs.Vocabulary.{began_in}
use Rattle.laws_guarantees.proofs.RowCases.{do_row_cases, running_cases}

abbrev number_of : Option Reply → Option ℕ
number_of o = option_map (λ (tx : TxId). tx.number) (option_and_then began_in o)

none_some : {A : Type 0} (o : Option ℕ) (number : ℕ) → o ≡ None → o ≡ Some number → A
none_some o number none some = absurd (let never : ⊥ = cc in never)

module _ (decl : Declaration) where
  do_number : (d : Account) (t : Current) (object inv : ℕ) → number_of (do_row decl d t object inv) ≡ None
  do_number d t object inv = do_row_cases decl d (λ o. number_of o ≡ None) t object inv refl refl refl
      (λ epoch site. refl) (λ tx site. refl) (λ half got need. refl) (λ chosen. refl) (λ event chosen. refl)

  commit_number : (d : Account) (t : Current) → number_of (commit_row decl d false t) ≡ None
  commit_number d t = by t.doomed (are_votes_in decl d t) (first_against (requests_for is_prepare d))
    where
      by : (x y : Bool) (o : Option AbortCause)
          → number_of (if x then Some (replies.Aborted causes.Doomed) else (if y then vote_row d false o else None))
          ≡ None
      by true y o = refl
      by false false o = refl
      by false true None = refl
      by false true (Some why) = refl

  pub due_number : (d : Account) (tx : TxId) → running_row decl d false ≡ Some (replies.Began tx)
      → tx.number ≡ d.count + 1
  due_number d tx is = running_cases decl d (λ o. number_of o ≡ Some tx.number → tx.number ≡ d.count + 1)
      (none_some None tx.number refl) (λ began. let same : d.count + 1 ≡ tx.number = cc in sym same)
      (none_some None tx.number refl) (λ other. none_some None tx.number refl) (none_some None tx.number refl)
      (λ t object inv command current. none_some (number_of (do_row decl d t object inv)) tx.number
      (do_number d t object inv))
      (λ t command current. none_some (number_of (commit_row decl d false t)) tx.number (commit_number d t))
      (ap number_of is)

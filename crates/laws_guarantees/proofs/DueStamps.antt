-- A commit that is due has the stamp that comes next.
use Rattle.std.proofs.Common.{◌≡◌, ℕ, Bool, true, false, if◌then◌else◌, Option, Some, None, refl, sym, ap}
use Rattle.std.specs.Prelude.{option_and_then}
use Rattle.qc_stamp.specs.declared.stamp.Stamp.{Stamp}
use Rattle.qc_decl.specs.declared.declaration.Declaration.{Declaration}
use Rattle.qc_msg.specs.declared.reply.Reply.{Reply}
use Rattle.qc_msg.specs.declared.reply.Reply.TheVariants as replies
use Rattle.qc_msg.specs.declared.reply.AbortCause.{AbortCause}
use Rattle.qc_msg.specs.declared.reply.AbortCause.TheVariants as causes
use Rattle.qc_promise.specs.Vocabulary.{Account, Current, are_votes_in, commit_row, do_row, first_against, is_prepare}
use Rattle.qc_promise.specs.Vocabulary.{next_stamp, requests_for, running_row, vote_row}
use Rattle.qc_msg.specs.Vocabulary.{committed_in}
use Rattle.laws_guarantees.proofs.RowCases.{do_row_cases, running_cases}
use Rattle.laws_due.proofs.Unwritten.{none_some}

abbrev pub stamp_of : Option Reply → Option Stamp
stamp_of o = option_and_then committed_in o

module _ (decl : Declaration) where
  pub do_stamp : (d : Account) (t : Current) (object inv : ℕ) → stamp_of (do_row decl d t object inv) ≡ None
  do_stamp d t object inv = do_row_cases decl d (λ o. stamp_of o ≡ None) t object inv refl refl refl
      (λ epoch site. refl) (λ tx site. refl) (λ half got need. refl) (λ chosen. refl) (λ event chosen. refl)

  commit_stamp : (d : Account) (t : Current) (stamp : Stamp) → stamp_of (commit_row decl d false t) ≡ Some stamp
      → stamp ≡ next_stamp d
  commit_stamp d t stamp is = by t.doomed (are_votes_in decl d t) (first_against (requests_for is_prepare d)) is
    where
      by : (x y : Bool) (o : Option AbortCause)
          → stamp_of (if x then Some (replies.Aborted causes.Doomed) else (if y then vote_row d false o else None))
          ≡ Some stamp → stamp ≡ next_stamp d
      by true y o is = none_some None stamp refl is
      by false false o is = none_some None stamp refl is
      by false true None is = let same : next_stamp d ≡ stamp = cc in sym same
      by false true (Some why) is = none_some None stamp refl is

  pub due_stamp : (d : Account) (stamp : Stamp) → running_row decl d false ≡ Some (replies.Committed stamp)
      → stamp ≡ next_stamp d
  due_stamp d stamp is = running_cases decl d (λ o. stamp_of o ≡ Some stamp → stamp ≡ next_stamp d)
      (none_some None stamp refl) (none_some None stamp refl) (none_some None stamp refl)
      (λ other. none_some None stamp refl) (none_some None stamp refl)
      (λ t object inv command current. none_some (stamp_of (do_row decl d t object inv)) stamp
      (do_stamp d t object inv))
      (λ t command current. commit_stamp d t stamp) (ap stamp_of is)

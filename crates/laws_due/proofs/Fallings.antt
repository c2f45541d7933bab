-- An input where none is open, and a fall, leave all that was due as it was.
use Rattle.std.proofs.Common.{[], ◌≡◌, ℕ, ◌-◌, Bool, true, false, List, ◌∷◌, ◌++◌, Option, None, refl, sym, ap, ◌∙◌}
use Rattle.std.proofs.Common.{subst, append_assoc}
use Rattle.std.specs.Prelude.{option_and_then}
use Rattle.qc_core.specs.Vocabulary.{ActorMove, MayTake, is_up, with_record}
use Rattle.qc_msg.specs.Vocabulary.{Deed, Falls, IsByDisk, deeds_as}
use Rattle.qc_decl.specs.declared.declaration.Declaration.{Declaration}
use Rattle.qc_decl.specs.Vocabulary.{is_client}
use Rattle.qc_msg.specs.declared.record.Record.{Record}
use Rattle.qc_msg.specs.declared.step.Fall.{Fall}
use Rattle.qc_msg.specs.declared.step.Fall.TheVariants as causes
use Rattle.qc_msg.specs.declared.step.Input.{Input}
use Rattle.qc_msg.specs.declared.turn.Appended.{Appended}
use Rattle.qc_msg.specs.declared.turn.Appended.TheVariants.{Done, Failed, Stopped}
use Rattle.qc_msg.specs.declared.turn.Turn.{Turn}
use Rattle.qc_promise.specs.Vocabulary.{Account, AreDeedsDue, IsInputDue, due, pending_next, reply_to}
use Rattle.laws_due.proofs.Commands.{free_for}
use Rattle.laws_due.proofs.DuesOfDeeds.{none_due}
use Rattle.laws_due.proofs.Nothing.{tied_none}
use Rattle.laws_due.proofs.Standing.{AreDue, Follows, IsAtRest, IsFallen, Stands, account_is, account_more, actor_more}
use Rattle.laws_due.proofs.Standing.{no_act, up_more}

-- what became of a turn's record is nothing to its deeds
pub as_record : (end : Appended) (n : ℕ) (turn : Turn) → deeds_as end n (with_record turn) ≡ deeds_as end n turn
as_record Done n turn = refl
as_record Failed n turn = refl
as_record Stopped n turn = refl

module _ (decl : Declaration) (a : ℕ) (client : is_client decl a ≡ true) where
  -- an input, where no input is open

  pub input_free : (ds : List Deed) (r : IsAtRest decl a ds) (g : Input) → MayTake ds g
      → IsInputDue (account_is decl a ds) (due decl (account_is decl a ds) false) g
  input_free ds r g may = (by r.up r.stands, free_for decl (a - decl.sites) ds g may)
    where
      by : (up : Bool) → Stands decl a up ds → due decl (account_is decl a ds) false ≡ None
      by true s =
          none_due decl (account_is decl a ds) s.within.up
          (tied_none decl (account_is decl a ds) s.state s.holds s.ties)
      by false s = ap (option_and_then (reply_to decl (account_is decl a ds) false)) s.command

  -- a fall by a line of the script, or one more of who is down

  pub fallen_still : (ds : List Deed) (cause : Fall) (pending : Option Record)
      → IsFallen decl a (ds ++ Falls cause pending ∷ [])
  fallen_still ds cause pending = record {
    actor = ap (λ (m : ActorMove). m.actor) (actor_more decl a ds (Falls cause pending ∷ []));
    up = ap (λ (d : Account). d.up) (account_more decl a ds (Falls cause pending ∷ []));
    command = ap (λ (d : Account). d.command) (account_more decl a ds (Falls cause pending ∷ []));
  }

  falls_alone : (ds : List Deed) (r : IsAtRest decl a ds) (cause : Fall)
      → ((ys : List Deed) → Follows r.up (Falls cause None ∷ ys)) → IsAtRest decl a (ds ++ Falls cause None ∷ [])
  falls_alone ds r cause follows = record {
    up = false;
    is = up_more decl a ds (Falls cause None ∷ []);
    due = λ ys behind dues.
        subst (AreDue decl a) (sym (append_assoc ds (Falls cause None ∷ []) ys))
        (r.due (Falls cause None ∷ ys) (follows ys)
        (tt, subst (λ (d : Account). AreDeedsDue decl d ys) (account_more decl a ds (Falls cause None ∷ [])) dues));
    stands = fallen_still ds cause None;
  }

  pub crashes_rest : (ds : List Deed) → IsAtRest decl a ds → IsAtRest decl a (ds ++ Falls causes.Script None ∷ [])
  crashes_rest ds r = falls_alone ds r causes.Script (λ ys. no_act (Falls causes.Script None ∷ ys) refl r.up)

  pub unopened_rest : (ds : List Deed) (cause : Fall) → IsByDisk cause → is_up ds ≡ false → IsAtRest decl a ds
      → IsAtRest decl a (ds ++ Falls cause None ∷ [])
  unopened_rest ds cause by_disk down r =
      falls_alone ds r cause
      (λ ys. subst (λ (up : Bool). Follows up (Falls cause None ∷ ys)) (sym down ∙ r.is) (by cause by_disk ys))
    where
      by : (x : Fall) → IsByDisk x → (ys : List Deed) → pending_next (Falls x None ∷ ys) ≡ None
      by causes.Script is ys = absurd is
      by causes.Stop is ys = refl
      by causes.Disk is ys = refl

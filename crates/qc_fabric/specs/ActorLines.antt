-- What the calls tell by which control lines of an actor's act: one arms its disk, one crashes it.
use Rattle.std.specs.Prelude.{◌≡◌, ℕ, List, [], ◌∷◌, ◌++◌, None}
use Rattle.qc_decl.specs.Vocabulary.{controller}
use Rattle.qc_decl.specs.declared.declaration.Declaration.{Declaration}
use Rattle.qc_msg.specs.Vocabulary.{Deed, Entry, Falls, deeds, marked}
use Rattle.qc_msg.specs.declared.record.Record.{Record}
use Rattle.qc_msg.specs.declared.step.Fall.TheVariants as causes
use Rattle.qc_msg.specs.declared.step.Step.{Step}
use Rattle.qc_msg.specs.declared.step.Step.TheVariants.{Armed, Fell}
use Rattle.qc_msg.specs.declared.turn.Turn.{Turn}
use Rattle.qc_outside.specs.declared.disk.ArmKind.{ArmKind}
use Rattle.qc_pass.specs.declared.token.Pass.{Pass}
use Rattle.qc_pass.specs.Vocabulary.{mine, number, room, seen}
use Rattle.qc_promise.specs.Vocabulary.{IsOfOthers}
use Rattle.qc_script.specs.Vocabulary.{RunWithFalls}
use Rattle.qc_script.specs.declared.script.Script.{Script}
use Rattle.qc_fabric.specs.Tells.{IsSame}

-- The controller armed the disk of the pass's actor, and the pass saw that at once: what it has seen ends with it
pub record Arms (decl : Declaration) (p q : Pass Step) (old new : List Entry) (kind : ArmKind) (at : ℕ)
    : Type 0 where
  pub pass : IsSame p q
  pub others : List Entry
  pub not_own : IsOfOthers (number p) others
  pub old_is : old ≡ seen p ++ others
  pub new_is : new ≡ old ++ marked (controller decl) (Armed (number p) kind at) ∷ []
  pub seen_is : seen q ≡ new
  pub mine_is : mine q ≡ mine p
  pub does : deeds (number p) [] (seen q) ≡ deeds (number p) [] (seen p)
  pub room_is : room q ≡ room p

-- the pass's actor fell by the control line that was next: what the pass has seen is a run that ends with the fall
pub record FallsByLine (lawful : ℕ → List Deed → Turn → Type 0) (fits : ℕ → List Record → Type 0) (decl : Declaration)
    (script : Script) (p q : Pass Step) (old new : List Entry) : Type 0 where
  pub pass : IsSame p q
  pub others : List Entry
  pub not_own : IsOfOthers (number p) others
  pub old_is : old ≡ seen p ++ others
  pub new_is : new ≡ old ++ marked (number p) (Fell causes.Script None) ∷ []
  pub seen_is : seen q ≡ new
  pub run : RunWithFalls lawful fits decl script (seen q)
  pub mine_is : mine q ≡ mine p ++ Fell causes.Script None ∷ []
  pub does : deeds (number p) [] (seen q) ≡ deeds (number p) [] (seen p) ++ Falls causes.Script None ∷ []
  pub room_is : room q ≡ room p

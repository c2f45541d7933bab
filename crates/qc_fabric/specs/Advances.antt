-- What the controller does next, if anything, in phases up to a last one.
use Rattle.std.specs.Prelude.{◌≡◌, ◌⊎◌, ℕ, Bool, true, false, List, Some}
use Rattle.qc_decl.specs.declared.declaration.Declaration.{Declaration}
use Rattle.qc_msg.specs.Vocabulary.{Deed, Entry}
use Rattle.qc_msg.specs.declared.record.Record.{Record}
use Rattle.qc_msg.specs.declared.step.Control.{Control}
use Rattle.qc_msg.specs.declared.step.Step.{Step}
use Rattle.qc_msg.specs.declared.turn.Turn.{Turn}
use Rattle.qc_pass.specs.Vocabulary.{room, seen}
use Rattle.qc_pass.specs.declared.token.Pass.{Pass}
use Rattle.qc_script.specs.Vocabulary.{RunsWithFalls}
use Rattle.qc_script.specs.declared.script.Script.{Script}
use Rattle.qc_fabric.specs.Controls.{IsControllers, IsUpTo, MayDo}
use Rattle.qc_fabric.specs.Picks.{picked}
use Rattle.qc_fabric.specs.Tells.{Does, Sees}
use Rattle.qc_fabric.specs.declared.picked.Picked.TheVariants as picks

-- it did what it might do
pub record DoesNext (decl : Declaration) (script : Script) (last : ℕ) (p q : Pass Step) (old : List Entry)
    (inputs : List Bool) (new : List Entry) : Type 0 where
  pub control : Control
  pub may : MayDo decl script old inputs control
  pub up_to : IsUpTo last control
  pub does : Does decl p q old new control

-- a line of an actor's comes next, which it leaves to who has that actor's pass, and nothing has changed
pub record LeavesNext (decl : Declaration) (script : Script) (p q : Pass Step) (old : List Entry) (inputs : List Bool)
    (new : List Entry) : Type 0 where
  pub control : Control
  pub may : MayDo decl script old inputs control
  pub not_controllers : IsControllers control → ⊥
  pub same : new ≡ old
  pub pass_is : q ≡ p

-- this might be done next at some time
pub record WasNext (decl : Declaration) (script : Script) (control : Control) : Type 0 where
  pub history : List Entry
  pub inputs : List Bool
  pub may : MayDo decl script history inputs control

module _ (lawful : ℕ → List Deed → Turn → Type 0) (fits : ℕ → List Record → Type 0) (decl : Declaration)
    (script : Script) (last : ℕ) where
  -- there was nothing that it might do, and nothing has changed. Its pass has seen the history, which is a run
  pub record DoesNothing (p q : Pass Step) (old : List Entry) (inputs : List Bool) (new : List Entry) : Type 0 where
    pub none : (control : Control) → IsUpTo last control → MayDo decl script old inputs control → ⊥
    pub same : new ≡ old
    pub saw : Sees p q
    pub seen_is : seen q ≡ old
    pub runs : RunsWithFalls lawful fits decl script (seen q) inputs
    pub room_is : room q ≡ room p

  abbrev pub Advances : Pass Step → Pass Step → List Entry → List Bool → List Entry → Bool → Type 0
  Advances p q old inputs new true =
      DoesNext decl script last p q old inputs new ⊎ LeavesNext decl script p q old inputs new
  Advances p q old inputs new false = DoesNothing p q old inputs new

  -- nothing is left in a run: no limit is reached, nothing is ready, nobody is held, and there is nothing that the
  -- controller may do
  pub record HasNothingLeft (h : List Entry) : Type 0 where
    pub inputs : List Bool
    pub held : List Bool
    pub runs : RunsWithFalls lawful fits decl script h inputs
    pub none : (control : Control) → IsUpTo last control → MayDo decl script h inputs control → ⊥
    pub quiet : picked decl script inputs held h ≡ Some picks.Quiet

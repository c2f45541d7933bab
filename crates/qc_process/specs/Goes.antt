-- How a history goes on as an actor sees it.
use Rattle.std.specs.Prelude.{◌≡◌, ◌≤◌, ℕ, ◌==◌, false, List, [], ◌∷◌, ◌++◌}
use Rattle.qc_msg.specs.Vocabulary.{Entry, by, marked}
use Rattle.qc_msg.specs.declared.step.Step.{Step}
use Rattle.qc_msg.specs.declared.step.Step.TheVariants.{Armed}
use Rattle.qc_outside.specs.declared.disk.ArmKind.{ArmKind}
use Rattle.qc_promise.specs.Vocabulary.{IsOfOthers}

-- others did something, and then the actor took these steps
pub record Goes (a : ℕ) (h : List Entry) (own : List Step) (now : List Entry) : Type 0 where
  pub others : List Entry
  pub not_own : IsOfOthers a others
  pub now_is : now ≡ (h ++ others) ++ by a own

-- others did something, and then another armed a fault for the actor's disk
pub record GoesArmed (a : ℕ) (h : List Entry) (kind : ArmKind) (at : ℕ) (now : List Entry) : Type 0 where
  pub others : List Entry
  pub not_own : IsOfOthers a others
  pub by_whom : ℕ
  pub other : (by_whom == a) ≡ false
  pub some : 1 ≤ at
  pub now_is : now ≡ (h ++ others) ++ marked by_whom (Armed a kind at) ∷ []

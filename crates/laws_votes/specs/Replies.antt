-- Where the entries up to a reply are a run, in which its client has no open input: behind the reply; or behind the
-- fall that follows it, where the client was told Unknown as it fell with a record that wasn't written.
use Rattle.std.specs.Prelude.{◌≡◌, ◌⊎◌, ℕ, Bool, false, List, [], ◌∷◌, ◌++◌, Some, slice_get}
use Rattle.qc_core.specs.Vocabulary.{IsLawfulWithFalls}
use Rattle.qc_decl.specs.declared.declaration.Declaration.{Declaration}
use Rattle.qc_entry.specs.declared.record.Commit.{Commit as CommitRecord}
use Rattle.qc_msg.specs.Vocabulary.{Entry, by, marked}
use Rattle.qc_msg.specs.declared.record.Record.{Record}
use Rattle.qc_msg.specs.declared.record.Record.TheVariants.{Commit}
use Rattle.qc_msg.specs.declared.reply.Reply.{Reply}
use Rattle.qc_msg.specs.declared.reply.Reply.TheVariants.{Unknown}
use Rattle.qc_msg.specs.declared.step.Fall.{Fall}
use Rattle.qc_msg.specs.declared.step.Step.{Step}
use Rattle.qc_msg.specs.declared.step.Step.TheVariants.{Fell, Told}
use Rattle.qc_script.specs.Vocabulary.{RunsWithFalls}
use Rattle.qc_script.specs.declared.script.Script.{Script}

-- the entries are a run, in which the actor has no open input
pub record IsRunWithout (fits : ℕ → List Record → Type 0) (decl : Declaration) (script : Script) (a : ℕ)
    (h : List Entry) : Type 0 where
  pub open_inputs : List Bool
  pub run : RunsWithFalls (IsLawfulWithFalls decl) fits decl script h open_inputs
  pub none : slice_get open_inputs a ≡ Some false

-- the last steps of a client that falls as it writes its commit record
abbrev pub unknown_fall : Fall → CommitRecord → List Step
unknown_fall cause c = Told Unknown ∷ Fell cause (Some (Commit c)) ∷ []

-- the client was told Unknown, and its fall comes right behind, with the record that it was writing
pub record IsToldAtFall (fits : ℕ → List Record → Type 0) (decl : Declaration) (script : Script) (h : List Entry)
    (a : ℕ) (before : List Entry) (reply : Reply) : Type 0 where
  pub unknown : reply ≡ Unknown
  pub cause : Fall
  pub commit : CommitRecord
  pub after : List Entry
  pub stands : h ≡ before ++ (by a (unknown_fall cause commit) ++ after)
  pub ends : IsRunWithout fits decl script a (before ++ by a (unknown_fall cause commit))

-- a reply of the client behind these entries ends its turn, or the client falls behind it
abbrev pub EndsTurn : (ℕ → List Record → Type 0) → Declaration → Script → List Entry → ℕ → List Entry → Reply → Type 0
EndsTurn fits decl script h a before reply =
    IsRunWithout fits decl script a (before ++ marked a (Told reply) ∷ [])
    ⊎ IsToldAtFall fits decl script h a before reply

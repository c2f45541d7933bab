-- The steps of a post, and those of an input: what they are of.
use Rattle.std.proofs.Common.{ℕ, ◌+◌, List, [], ◌∷◌, ◌++◌, Option, Some, None}
use Rattle.std.specs.List.{AllByRecursion as Every}
use Rattle.qc_msg.specs.declared.record.Record.{Record}
use Rattle.qc_msg.specs.declared.reply.Reply.{Reply}
use Rattle.qc_msg.specs.declared.step.Input.{Input}
use Rattle.qc_msg.specs.declared.step.Input.TheVariants as inputs
use Rattle.qc_msg.specs.declared.step.Step.{Step}
use Rattle.qc_msg.specs.declared.step.Step.TheVariants as steps
use Rattle.qc_msg.specs.declared.turn.Appended.{Appended}
use Rattle.qc_msg.specs.declared.turn.Appended.TheVariants.{Done, Failed, Stopped}
use Rattle.qc_msg.specs.declared.turn.Posting.{Posting}
use Rattle.qc_msg.specs.declared.turn.Turn.{Turn}
use Rattle.qc_msg.specs.Vocabulary.{Entry, by, fell, posted_as, sents, step_of, told, wrote, damaged_in, rose_in}
use Rattle.std.specs.Prelude.{MatchOption}
use Rattle.laws_bounds.proofs.StepCases.{kept_cases}

-- steps that an input or a post has: nothing of the controller's, no rise and no damage
abbrev pub IsActing : Step → Type 0
IsActing (steps.Phase k) = ⊥
IsActing (steps.Cut x y) = ⊥
IsActing (steps.Heal x y) = ⊥
IsActing (steps.Armed actor kind at) = ⊥
IsActing (steps.Called command) = Unit {0}
IsActing (steps.Got n) = Unit {0}
IsActing (steps.Lost n) = Unit {0}
IsActing (steps.Wrote written) = Unit {0}
IsActing (steps.Sent n to message) = Unit {0}
IsActing (steps.Told reply) = Unit {0}
IsActing (steps.Fell cause pending) = Unit {0}
IsActing (steps.Rose records) = ⊥
IsActing (steps.Damaged offset) = ⊥

-- none of them rises or finds damage
pub acting_cases : (s : Step) → IsActing s
    → MatchOption (rose_in s) (MatchOption (damaged_in s) (Unit {0}) (λ (offset : ℕ). ⊥)) (λ (rs : List Record). ⊥)
acting_cases =
    kept_cases IsActing (λ (rs : List Record). ⊥) (λ (offset : ℕ). ⊥) (λ rs never. never) (λ offset never. never)

told_acting : (reply : Option Reply) (xs : List Step) → Every IsActing xs → Every IsActing (told reply ++ xs)
told_acting None xs are = are
told_acting (Some reply) xs are = (tt, are)

sents_acting : (n : ℕ) (ps : List Posting) (xs : List Step) → Every IsActing xs → Every IsActing (sents n ps ++ xs)
sents_acting n [] xs are = are
sents_acting n (p ∷ ps) xs are = (tt, sents_acting (n + 1) ps xs are)

told_alone : (reply : Option Reply) → Every IsActing (told reply)
told_alone None = tt
told_alone (Some reply) = (tt, tt)

pub posts_acting : (end : Appended) (n : ℕ) (turn : Turn) → Every IsActing (posted_as end n turn)
posts_acting Done n turn = at turn.write
  where
    at : (w : Option Record) → Every IsActing (wrote w ++ (sents n turn.sends ++ told turn.told))
    at None = sents_acting n turn.sends (told turn.told) (told_alone turn.told)
    at (Some written) = (tt, sents_acting n turn.sends (told turn.told) (told_alone turn.told))
posts_acting Failed n turn =
    sents_acting n turn.failed_sends (told turn.failed_told ++ fell _ turn.write)
    (told_acting turn.failed_told (fell _ turn.write) (tt, tt))
posts_acting Stopped n turn = told_acting turn.failed_told (fell _ turn.write) (tt, tt)

pub input_acting : (g : Input) → IsActing (step_of g)
input_acting (inputs.Called command) = tt
input_acting (inputs.Got envelope) = tt
input_acting (inputs.Lost number) = tt

-- of one actor's steps as entries
pub every_by : (P : Entry → Type 0) (Q : Step → Type 0) (a : ℕ)
    → ((s : Step) → Q s → P (record { actor = a; step = s })) → (xs : List Step) → Every Q xs → Every P (by a xs)
every_by P Q a each [] all = tt
every_by P Q a each (x ∷ xs) all = (each x all.0, every_by P Q a each xs all.1)

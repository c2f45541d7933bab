-- Which actor comes next after a history.
use Rattle.std.specs.Prelude.{ℕ, zero, suc, ◌+◌, ◌==◌, nat_lt, Bool, true, false, if◌then◌else◌, List, Option, Some}
use Rattle.std.specs.Prelude.{None, fold, get_or, option_map}
use Rattle.qc_decl.specs.Vocabulary.{actors}
use Rattle.qc_decl.specs.declared.declaration.Declaration.{Declaration}
use Rattle.qc_msg.specs.declared.step.Input.{Input}
use Rattle.qc_msg.specs.declared.step.Input.TheVariants as inputs
use Rattle.qc_msg.specs.declared.step.Step.{Step}
use Rattle.qc_msg.specs.declared.step.Step.TheVariants as steps
use Rattle.qc_msg.specs.Vocabulary.{Entry}
use Rattle.qc_script.specs.Vocabulary.{ready}
use Rattle.qc_script.specs.declared.script.Script.{Script}
use Rattle.qc_mailbox.specs.declared.input.Candidate.{Candidate}
use Rattle.qc_mailbox.specs.declared.input.Rank.{Rank}
use Rattle.qc_mailbox.specs.declared.input.Rank.TheVariants.{Copy, Lost, Command}

-- how many commands an actor called in this phase

abbrev pub calls_at : ℕ → ℕ → ℕ → Step → ℕ
calls_at a calls by (steps.Phase k) = 0
calls_at a calls by (steps.Cut x y) = calls
calls_at a calls by (steps.Heal x y) = calls
calls_at a calls by (steps.Armed actor kind at) = calls
calls_at a calls by (steps.Called command) = if by == a then calls + 1 else calls
calls_at a calls by (steps.Got n) = calls
calls_at a calls by (steps.Lost n) = calls
calls_at a calls by (steps.Wrote written) = calls
calls_at a calls by (steps.Sent n to message) = calls
calls_at a calls by (steps.Told reply) = calls
calls_at a calls by (steps.Fell cause pending) = calls
calls_at a calls by (steps.Rose records) = calls
calls_at a calls by (steps.Damaged offset) = calls

abbrev pub calls_of : ℕ → List Entry → ℕ
calls_of a h = fold (λ calls e. calls_at a calls e.actor e.step) 0 h

-- how soon an actor comes, by what is ready for it: a copy by its number, a lost request, a command by how many were
-- called

abbrev pub rank_of : ℕ → Input → Rank
rank_of calls (inputs.Called command) = Command calls
rank_of calls (inputs.Got envelope) = Copy envelope.number
rank_of calls (inputs.Lost number) = Lost

-- copies come in the order of their numbers, then lost requests, then commands, the fewest first

abbrev pub comes_before : Rank → Rank → Bool
comes_before (Copy m) (Copy n) = nat_lt m n
comes_before (Copy m) Lost = true
comes_before (Copy m) (Command n) = true
comes_before Lost (Copy n) = false
comes_before Lost Lost = false
comes_before Lost (Command n) = true
comes_before (Command m) (Copy n) = false
comes_before (Command m) Lost = false
comes_before (Command m) (Command n) = nat_lt m n

-- the better of the best candidate of lower actors and this actor: the lower on a tie

abbrev pub sooner : Option Candidate → ℕ → Option Rank → Option Candidate
sooner best a None = best
sooner None a (Some rank) = Some (record { actor = a; rank = rank })
sooner (Some best) a (Some rank) =
    if comes_before rank best.rank then Some (record { actor = a; rank = rank }) else Some best

-- the first of the actors below n
abbrev pub first_of : (ℕ → Option Rank) → ℕ → Option Candidate
first_of ranks zero = None
first_of ranks (suc a) = sooner (first_of ranks a) a (ranks a)

abbrev pub is_held : List Bool → ℕ → Bool
is_held held a = get_or held a false

-- a held actor is passed over
abbrev pub unless_held : Bool → Option Rank → Option Rank
unless_held true rank = None
unless_held false rank = rank

abbrev pub rank_at : Declaration → Script → List Bool → List Entry → ℕ → Option Rank
rank_at decl script held h a =
    unless_held (is_held held a) (option_map (rank_of (calls_of a h)) (ready decl script a h))

abbrev pub picked : Declaration → Script → List Bool → List Entry → Option ℕ
picked decl script held h =
    option_map (λ (c : Candidate). c.actor) (first_of (rank_at decl script held h) (actors decl))

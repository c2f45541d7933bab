-- What an inbox is after a step, case by case: links that are cut or healed, disks that are armed and bytes that are
-- damaged act as lines of control alone.
use Rattle.std.specs.Prelude.{ℕ, Bool, List, Option}
use Rattle.qc_msg.specs.declared.message.Message.{Message}
use Rattle.qc_msg.specs.declared.record.Record.{Record}
use Rattle.qc_msg.specs.declared.reply.Reply.{Reply}
use Rattle.qc_msg.specs.declared.step.Command.{Command}
use Rattle.qc_msg.specs.declared.step.Fall.{Fall}
use Rattle.qc_msg.specs.declared.step.Step.{Step}
use Rattle.qc_msg.specs.declared.step.Step.TheVariants as steps
use Rattle.qc_link.specs.Vocabulary.{with_cut, without_cut}
use Rattle.qc_script.specs.declared.script.Script.{Script}
use Rattle.qc_script.specs.Vocabulary.{Inbox, control_acted, inbox_at}

pub inbox_cases : (script : Script) (a : ℕ) (i : Inbox) (b : ℕ) (P : Step → Inbox → Type 0)
    → ((k : ℕ) → P (steps.Phase k) (inbox_at script a i b (steps.Phase k)))
    → ((step : Step) (cuts : List Bool) → P step (control_acted a (record i { cuts = cuts })))
    → ((command : Command) → P (steps.Called command) (inbox_at script a i b (steps.Called command)))
    → ((n : ℕ) → P (steps.Got n) (inbox_at script a i b (steps.Got n)))
    → ((n : ℕ) → P (steps.Lost n) (inbox_at script a i b (steps.Lost n)))
    → ((written : Record) → P (steps.Wrote written) (inbox_at script a i b (steps.Wrote written)))
    → ((n to : ℕ) (message : Message)
    → P (steps.Sent n to message) (inbox_at script a i b (steps.Sent n to message)))
    → ((reply : Reply) → P (steps.Told reply) (inbox_at script a i b (steps.Told reply)))
    → ((cause : Fall) (pending : Option Record)
    → P (steps.Fell cause pending) (inbox_at script a i b (steps.Fell cause pending)))
    → ((records : List Record) → P (steps.Rose records) i) → (step : Step) → P step (inbox_at script a i b step)
inbox_cases script a i b P phase acts calls gets loses writes sends says falls rises (steps.Phase k) = phase k
inbox_cases script a i b P phase acts calls gets loses writes sends says falls rises (steps.Cut x y) =
    acts (steps.Cut x y) (with_cut i.cuts x y)
inbox_cases script a i b P phase acts calls gets loses writes sends says falls rises (steps.Heal x y) =
    acts (steps.Heal x y) (without_cut i.cuts x y)
inbox_cases script a i b P phase acts calls gets loses writes sends says falls rises (steps.Armed actor kind at) =
    acts (steps.Armed actor kind at) i.cuts
inbox_cases script a i b P phase acts calls gets loses writes sends says falls rises (steps.Called command) =
    calls command
inbox_cases script a i b P phase acts calls gets loses writes sends says falls rises (steps.Got n) = gets n
inbox_cases script a i b P phase acts calls gets loses writes sends says falls rises (steps.Lost n) = loses n
inbox_cases script a i b P phase acts calls gets loses writes sends says falls rises (steps.Wrote written) =
    writes written
inbox_cases script a i b P phase acts calls gets loses writes sends says falls rises (steps.Sent n to message) =
    sends n to message
inbox_cases script a i b P phase acts calls gets loses writes sends says falls rises (steps.Told reply) = says reply
inbox_cases script a i b P phase acts calls gets loses writes sends says falls rises (steps.Fell cause pending) =
    falls cause pending
inbox_cases script a i b P phase acts calls gets loses writes sends says falls rises (steps.Rose records) =
    rises records
inbox_cases script a i b P phase acts calls gets loses writes sends says falls rises (steps.Damaged offset) =
    acts (steps.Damaged offset) i.cuts

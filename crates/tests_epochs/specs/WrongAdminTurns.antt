-- Wrong histories: the administrator doesn't act by turns.
use Rattle.std.specs.Prelude.{List, [], ◌∷◌, ◌++◌, take, Some}
use Rattle.qc_msg.specs.Vocabulary.{Entry, marked}
use Rattle.tests_histories.specs.Words.{line}
use Rattle.qc_msg.specs.declared.step.Step.TheVariants.{Wrote, Sent, Told, Fell}
use Rattle.qc_msg.specs.declared.message.Message.TheVariants as messages
use Rattle.qc_msg.specs.declared.record.Record.TheVariants as records
use Rattle.qc_msg.specs.declared.reply.Reply.TheVariants as replies
use Rattle.qc_msg.specs.declared.step.Fall.TheVariants as falls
use Rattle.qc_msg.specs.Vocabulary.{start_with}
use Rattle.tests_epochs.specs.DecideStops as decide_stops
use Rattle.tests_epochs.specs.MovedOnce as moved_once

-- He falls as he writes his decision, and tells nothing.
abbrev pub fallen_untold : List Entry
fallen_untold =
    take 45 decide_stops.history ++
    marked 6 (Fell falls.Stop (Some (records.Decide (start_with 2 1 (line 1 0 1 1 0 3 ∷ []))))) ∷ []

-- He writes that he rose, and didn't.
abbrev pub life_between : List Entry
life_between =
    take 44 moved_once.history ++
    marked 6 (Wrote records.Life) ∷ []

-- An Install is sent before the decision is written.
abbrev pub installed_first : List Entry
installed_first =
    take 44 moved_once.history ++
    marked 6 (Sent 14 0 (messages.Install (start_with 2 1 (line 1 0 1 1 0 3 ∷ [])))) ∷
    marked 6 (Wrote (records.Decide (start_with 2 1 (line 1 0 1 1 0 3 ∷ [])))) ∷ []

-- He tells that he is down while he is up.
abbrev pub down_while_up : List Entry
down_while_up =
    take 34 moved_once.history ++
    marked 6 (Told replies.Down) ∷ []

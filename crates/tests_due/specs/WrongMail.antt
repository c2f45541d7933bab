-- Wrong histories: messages that reach others than those whom they were sent to.
use Rattle.std.specs.Prelude.{List, [], ◌∷◌}
use Rattle.qc_msg.specs.declared.step.Command.TheVariants as commands
use Rattle.qc_msg.specs.declared.step.Step.TheVariants.{Phase, Called, Got, Lost, Sent}
use Rattle.qc_msg.specs.Vocabulary.{Entry, marked}
use Rattle.tests_due.specs.Orders.{asks, decides, grants}

-- A message has a number that none before it had.
abbrev pub another_number : List Entry
another_number =
    marked 7 (Phase 1) ∷ marked 3 (Called (commands.Do 0 0)) ∷ marked 3 (Sent 1 0 asks) ∷ []

-- Two messages have one number.
abbrev pub a_number_again : List Entry
a_number_again =
    marked 7 (Phase 1) ∷ marked 3 (Called (commands.Do 0 0)) ∷ marked 3 (Sent 0 0 asks) ∷ marked 3 (Sent 0 1 asks) ∷
    []

-- A site takes what was sent to another.
abbrev pub another_copy : List Entry
another_copy =
    marked 7 (Phase 1) ∷ marked 3 (Called (commands.Do 0 0)) ∷ marked 3 (Sent 0 0 asks) ∷ marked 1 (Got 0) ∷ []

-- A site takes what nobody sent.
abbrev pub nothing_sent : List Entry
nothing_sent =
    marked 7 (Phase 1) ∷ marked 0 (Got 0) ∷ []

-- A site answers what another was asked.
abbrev pub strangers_answer : List Entry
strangers_answer =
    marked 7 (Phase 1) ∷ marked 3 (Called (commands.Do 0 0)) ∷ marked 3 (Sent 0 0 asks) ∷
    marked 1 (Sent 1 3 (grants 0)) ∷ marked 3 (Got 1) ∷ []

-- A site answers another client than the one that asked.
abbrev pub answer_to_another : List Entry
answer_to_another =
    marked 7 (Phase 1) ∷ marked 3 (Called (commands.Do 0 0)) ∷ marked 3 (Sent 0 0 asks) ∷ marked 0 (Got 0) ∷
    marked 0 (Sent 1 4 (grants 0)) ∷ marked 4 (Got 1) ∷ []

-- A site answers a Decision.
abbrev pub answer_to_no_request : List Entry
answer_to_no_request =
    marked 7 (Phase 1) ∷ marked 3 (Sent 0 0 decides) ∷ marked 0 (Got 0) ∷ marked 0 (Sent 1 3 (grants 0)) ∷
    marked 3 (Got 1) ∷ []

-- A site answers what nobody sent.
abbrev pub answer_to_nothing : List Entry
answer_to_nothing =
    marked 7 (Phase 1) ∷ marked 3 (Called (commands.Do 0 0)) ∷ marked 3 (Sent 0 0 asks) ∷ marked 0 (Got 0) ∷
    marked 0 (Sent 1 3 (grants 5)) ∷ marked 3 (Got 1) ∷ []

-- A client takes another one's request as lost.
abbrev pub another_loss : List Entry
another_loss =
    marked 7 (Phase 1) ∷ marked 3 (Called (commands.Do 0 0)) ∷ marked 3 (Sent 0 0 asks) ∷ marked 4 (Lost 0) ∷ []

-- A client takes its Decision as lost.
abbrev pub loss_of_no_request : List Entry
loss_of_no_request =
    marked 7 (Phase 1) ∷ marked 3 (Sent 0 0 decides) ∷ marked 3 (Lost 0) ∷ []

-- A client takes as lost what nobody sent.
abbrev pub loss_of_nothing : List Entry
loss_of_nothing =
    marked 7 (Phase 1) ∷ marked 3 (Lost 0) ∷ []

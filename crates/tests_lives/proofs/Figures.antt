-- Acts of a post as numbers, by which two of them are told apart.
use Rattle.std.proofs.Common.{ℕ, suc, List, [], ◌∷◌, length, map, Option, Some, None}
use Rattle.std.specs.Prelude.{get_or}
use Rattle.qc_entry.specs.declared.line.Line.{Line}
use Rattle.qc_msg.specs.declared.message.Answer.{Answer}
use Rattle.qc_msg.specs.declared.message.Answer.TheVariants as answers
use Rattle.qc_msg.specs.declared.message.Message.{Message}
use Rattle.qc_msg.specs.declared.message.Message.TheVariants as messages
use Rattle.qc_msg.specs.declared.record.Record.{Record}
use Rattle.qc_msg.specs.declared.record.Record.TheVariants as journals
use Rattle.qc_promise.specs.Vocabulary.{Act, Fell, Sent, Told, Wrote}

abbrev pub of_record : Record → List ℕ
of_record journals.Life = 1 ∷ []
of_record (journals.Prepare p) = 2 ∷ p.tx.client ∷ length p.locks ∷ length p.own ∷ length p.lines ∷ []
of_record (journals.Done tx clock) = 3 ∷ tx.client ∷ clock ∷ []
of_record (journals.Commit c) = 4 ∷ c.stamp.clock ∷ c.tx.life ∷ c.tx.number ∷ length c.ops ∷ []
of_record _ = 5 ∷ []

abbrev pub of_pending : Option Record → List ℕ
of_pending None = 0 ∷ []
of_pending (Some r) = of_record r

abbrev pub of_answer : Answer → List ℕ
of_answer (answers.Granted grant) =
    1 ∷ grant.life ∷ grant.clock ∷ length grant.log ∷ grant.count ∷ map (λ (l : Line). l.stamp.clock) grant.log
of_answer (answers.Clash holder inv event) = 2 ∷ holder.client ∷ []
of_answer (answers.Restarted life) = 3 ∷ life ∷ []
of_answer answers.Stale = 4 ∷ []
of_answer answers.Fault = 5 ∷ []
of_answer (answers.Yes clock) = 6 ∷ clock ∷ []
of_answer _ = 7 ∷ []

abbrev pub of_message : Message → List ℕ
of_message (messages.Answer to answer) = 1 ∷ to ∷ of_answer answer
of_message (messages.Inquiry tx) = 2 ∷ tx.client ∷ []
of_message _ = 3 ∷ []

abbrev pub of_act : Act → List ℕ
of_act (Wrote written) = 1 ∷ of_record written
of_act (Sent posting) = 2 ∷ posting.to ∷ of_message posting.message
of_act (Told reply) = 3 ∷ []
of_act (Fell cause pending) = 4 ∷ of_pending pending

-- the number at a place of a list, one more, so that none is told apart from each
abbrev pub figure : ℕ → List ℕ → ℕ
figure j ns = get_or (map suc ns) j 0

abbrev pub figure_of : ℕ → ℕ → List Act → ℕ
figure_of i j acts = figure j (get_or (map of_act acts) i [])

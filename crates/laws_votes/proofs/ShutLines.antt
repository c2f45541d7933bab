-- The clock that a site tells as it closes has passed the lines that it tells, through falls.
use Rattle.std.proofs.Common.{◌≡◌, ◌≤◌, ℕ, Bool, List}
use Rattle.qc_core.specs.Vocabulary.{IsLawfulWithFalls}
use Rattle.qc_decl.specs.Vocabulary.{IsAccepted}
use Rattle.qc_decl.specs.declared.declaration.Declaration.{Declaration}
use Rattle.qc_entry.specs.declared.line.Line.{Line}
use Rattle.qc_list.specs.Vocabulary.{In}
use Rattle.qc_msg.specs.declared.message.Answer.TheVariants as answers
use Rattle.qc_msg.specs.declared.message.Envelope.{Envelope}
use Rattle.qc_msg.specs.declared.message.Message.TheVariants as messages
use Rattle.qc_msg.specs.declared.payload.Snapshot.{Snapshot}
use Rattle.qc_msg.specs.declared.record.Record.{Record}
use Rattle.qc_msg.specs.Vocabulary.{Entry, mail}
use Rattle.qc_promise.specs.Vocabulary.{Kept}
use Rattle.qc_script.specs.Vocabulary.{IsScriptFor, RunsWithFalls}
use Rattle.qc_script.specs.declared.script.Script.{Script}
use Rattle.laws_refinement.specs.Vocabulary.{IsShutTo}
use Rattle.laws_votes.proofs.Nets.{backed, net, now}

module _ (fits : ℕ → List Record → Type 0) (decl : Declaration) (script : Script) (h : List Entry)
    (open_inputs : List Bool) (accepted : IsAccepted decl) (sound : IsScriptFor decl script)
    (run : RunsWithFalls (IsLawfulWithFalls decl) fits decl script h open_inputs) (kept : Kept h) where
  pub shuts_pass_their_lines_through_falls : (e : Envelope) (to : ℕ) (snapshot : Snapshot) → In e (mail h)
      → e.message ≡ messages.Answer to (answers.Shut snapshot) → (line : Line) → In line snapshot.log
      → line.stamp.clock ≤ snapshot.clock
  shuts_pass_their_lines_through_falls e to snapshot sent is =
      passed_by (backed fits decl script h open_inputs accepted sound run kept e
      (messages.Answer to (answers.Shut snapshot)) sent is)
    where
      passed_by : IsShutTo decl (now fits decl script h open_inputs accepted sound run kept)
          (net fits decl script h open_inputs accepted sound run kept).mail e.from to snapshot.clock snapshot.log
          snapshot.prepared → (line : Line) → In line snapshot.log → line.stamp.clock ≤ snapshot.clock
      passed_by b = b.told.passed

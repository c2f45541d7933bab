-- A post is refused by each end of the record of the turn that is due.
use Rattle.std.proofs.Common.{◌≡◌, ℕ, List, [], ◌∷◌, length, Some, sym, ap, ◌∙◌}
use Rattle.qc_core.specs.Vocabulary.{actor_after, turn_with_falls, with_record}
use Rattle.qc_decl.specs.declared.declaration.Declaration.{Declaration}
use Rattle.qc_msg.specs.declared.message.Answer.TheVariants as answers
use Rattle.qc_msg.specs.declared.message.Message.TheVariants as messages
use Rattle.qc_msg.specs.declared.record.Record.TheVariants as records
use Rattle.qc_msg.specs.declared.reply.Reply.TheVariants as replies
use Rattle.qc_msg.specs.declared.step.Step.{Step}
use Rattle.qc_msg.specs.declared.step.Step.TheVariants as steps
use Rattle.qc_msg.specs.declared.turn.Appended.{Appended}
use Rattle.qc_msg.specs.declared.turn.Appended.TheVariants.{Done, Failed, Stopped}
use Rattle.qc_msg.specs.declared.turn.Turn.{Turn}
use Rattle.qc_msg.specs.Vocabulary.{Entry, deeds, mail, posted_as}
use Rattle.tests_falls.specs.Refused.{IsNoPost}

-- the turn that the actor's deeds call for
abbrev pub due : Declaration → ℕ → List Entry → Turn
due decl a h = (actor_after decl a (deeds a [] h)).turn

pub refused : (decl : Declaration) (a : ℕ) (h : List Entry) (steps : List Step)
    → turn_with_falls decl a (deeds a [] h) ≡ Some (due decl a h)
    → (posted_as Done (length (mail h)) (due decl a h) ≡ steps → ⊥)
    → (posted_as Failed (length (mail h)) (due decl a h) ≡ steps → ⊥)
    → (posted_as Stopped (length (mail h)) (due decl a h) ≡ steps → ⊥)
    → IsNoPost decl a h steps
refused decl a h steps is done failed stopped turn lawful = by turn.append
  where
    same : Some (due decl a h) ≡ Some (with_record turn)
    same = sym is ∙ lawful.called_for

    here : due decl a h ≡ with_record turn
    here = cc

    by : (end : Appended) → posted_as end (length (mail h)) turn ≡ steps → ⊥
    by Done posts = done (ap (λ (t : Turn). posted_as Done (length (mail h)) t) here ∙ posts)
    by Failed posts = failed (ap (λ (t : Turn). posted_as Failed (length (mail h)) t) here ∙ posts)
    by Stopped posts = stopped (ap (λ (t : Turn). posted_as Stopped (length (mail h)) t) here ∙ posts)

-- what tells posts apart: the life of the transaction that begins, the life that a grant tells, the clock of the stamp
-- that is written

abbrev pub life_begun : List Step → ℕ
life_begun (steps.Told (replies.Began tx) ∷ xs) = tx.life
life_begun _ = 0

abbrev pub life_granted : List Step → ℕ
life_granted (steps.Sent number to (messages.Answer request (answers.Granted grant)) ∷ xs) = grant.life
life_granted _ = 0

abbrev pub clock_written : List Step → ℕ
clock_written (steps.Wrote (records.Commit c) ∷ xs) = c.stamp.clock
clock_written _ = 0

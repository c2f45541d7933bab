-- An account stays up while nobody falls.
use Rattle.std.proofs.Common.{◌≡◌, ℕ, true, List, [], ◌∷◌, Option, Some, None, refl, ◌∙◌}
use Rattle.std.specs.Prelude.{fold}
use Rattle.std.specs.List.{find}
use Rattle.qc_decl.specs.declared.declaration.Declaration.{Declaration}
use Rattle.qc_msg.specs.declared.message.Answer.{Answer}
use Rattle.qc_msg.specs.declared.message.Message.{Message}
use Rattle.qc_msg.specs.declared.record.Record.{Record}
use Rattle.qc_msg.specs.declared.reply.Reply.{Reply}
use Rattle.qc_msg.specs.declared.step.Input.TheVariants as inputs
use Rattle.qc_msg.specs.Vocabulary.{Deed, Falls, Rises, Sends, Takes, Tells, Writes, Answered, answer_in}
use Rattle.qc_core.specs.Vocabulary.{AreSteady, IsSteady}
use Rattle.qc_promise.specs.Vocabulary.{Account, ClientRequest, account_at, account_heard, account_sent}
use Rattle.qc_promise.specs.Vocabulary.{account_told_in, account_written, counted, counted_for, is_open, taken_for}
use Rattle.laws_turns.proofs.ReadingCases.{mapped}
use Rattle.laws_due.proofs.AccountCases.{reply_cases, sent_cases, told_cases, written_cases}

counted_up : (d : Account) (n : ℕ) (answer : Option Answer) → (counted d n answer).up ≡ d.up
counted_up d n answer = by (find (is_open n) d.requests)
  where
    by : (o : Option ClientRequest) → (counted_for d n answer o).up ≡ d.up
    by None = refl
    by (Some q) =
        told_cases (record d { requests = taken_for n answer d.requests }) q answer
        (λ (e : Account). e.up ≡ d.up) refl (λ clock. refl) (λ clock change same. refl) (λ epoch is. refl)

heard_up : (d : Account) (m : Message) → (account_heard d m).up ≡ d.up
heard_up d m =
    mapped (λ (e : Account). e.up ≡ d.up) (λ (a : Answered). counted d a.to (Some a.answer)) d (answer_in m)
    (λ a. counted_up d a.to (Some a.answer)) refl

written_up : (d : Account) (w : Record) → (account_written d w).up ≡ d.up
written_up d w = written_cases d (λ (e : Account). e.up ≡ d.up) refl refl (λ commit. refl) w

module _ (decl : Declaration) where
  sent_up : (d : Account) (n to : ℕ) (m : Message) → (account_sent decl d n to m).up ≡ d.up
  sent_up d n to m =
      sent_cases decl d n to (λ (m : Message) (e : Account). e.up ≡ d.up) (λ m. refl) (λ q. refl) m

  reply_up : (d : Account) (reply : Reply) → (account_told_in decl d reply).up ≡ d.up
  reply_up d reply =
      reply_cases decl d (λ (e : Account). e.up ≡ d.up) refl (λ tx. refl) refl (λ stamp. refl)
      (λ change same. refl) reply

  step_up : (d : Account) (x : Deed) → IsSteady x → (account_at decl d x).up ≡ d.up
  step_up d (Takes (inputs.Called command)) up = refl
  step_up d (Takes (inputs.Got envelope)) up = heard_up d envelope.message
  step_up d (Takes (inputs.Lost number)) up = counted_up d number None
  step_up d (Writes w) up = written_up d w
  step_up d (Sends n to m) up = sent_up d n to m
  step_up d (Tells reply) up = reply_up d reply
  step_up d (Falls cause pending) up = absurd up
  step_up d (Rises kept) up = absurd up

  pub stays_up : (ds : List Deed) (d : Account) → AreSteady ds → d.up ≡ true → (fold (account_at decl) d ds).up ≡ true
  stays_up [] d up is = is
  stays_up (x ∷ ds) d up is = stays_up ds (account_at decl d x) up.1 (step_up d x up.0 ∙ is)

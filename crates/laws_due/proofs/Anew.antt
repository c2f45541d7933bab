-- An account stays that of its client, and begins anew as the client rises.
use Rattle.std.proofs.Common.{◌≡◌, ℕ, ◌++◌, List, [], ◌∷◌, Option, Some, None, refl, ap, ◌∙◌}
use Rattle.std.specs.Prelude.{fold}
use Rattle.std.specs.List.{find}
use Rattle.std.proofs.lemmas.List.Sums.{fold-append}
use Rattle.qc_decl.specs.declared.declaration.Declaration.{Declaration}
use Rattle.qc_msg.specs.declared.message.Answer.{Answer}
use Rattle.qc_msg.specs.declared.message.Message.{Message}
use Rattle.qc_msg.specs.declared.record.Record.{Record}
use Rattle.qc_msg.specs.declared.reply.Reply.{Reply}
use Rattle.qc_msg.specs.declared.step.Input.TheVariants as inputs
use Rattle.qc_msg.specs.Vocabulary.{Deed, Falls, Rises, Sends, Takes, Tells, Writes, Answered, answer_in}
use Rattle.qc_promise.specs.Vocabulary.{Account, ClientRequest, account_at, account_heard, account_of, account_sent}
use Rattle.qc_promise.specs.Vocabulary.{account_told_in, account_with, account_written, counted, counted_for, is_open}
use Rattle.qc_promise.specs.Vocabulary.{new_account, taken_for}
use Rattle.laws_turns.proofs.ReadingCases.{mapped}
use Rattle.laws_due.proofs.AccountCases.{reply_cases, sent_cases, told_cases, written_cases}

counted_client : (d : Account) (n : ℕ) (answer : Option Answer) → (counted d n answer).client ≡ d.client
counted_client d n answer = by (find (is_open n) d.requests)
  where
    by : (o : Option ClientRequest) → (counted_for d n answer o).client ≡ d.client
    by None = refl
    by (Some q) =
        told_cases (record d { requests = taken_for n answer d.requests }) q answer
        (λ (e : Account). e.client ≡ d.client) refl (λ clock. refl) (λ clock change same. refl) (λ epoch is. refl)

heard_client : (d : Account) (m : Message) → (account_heard d m).client ≡ d.client
heard_client d m =
    mapped (λ (e : Account). e.client ≡ d.client) (λ (a : Answered). counted d a.to (Some a.answer)) d (answer_in m)
    (λ a. counted_client d a.to (Some a.answer)) refl

pub written_client : (d : Account) (w : Record) → (account_written d w).client ≡ d.client
written_client d w = written_cases d (λ (e : Account). e.client ≡ d.client) refl refl (λ commit. refl) w

module _ (decl : Declaration) where
  sent_client : (d : Account) (n to : ℕ) (m : Message) → (account_sent decl d n to m).client ≡ d.client
  sent_client d n to m =
      sent_cases decl d n to (λ (m : Message) (e : Account). e.client ≡ d.client) (λ m. refl) (λ q. refl) m

  reply_client : (d : Account) (reply : Reply) → (account_told_in decl d reply).client ≡ d.client
  reply_client d reply =
      reply_cases decl d (λ (e : Account). e.client ≡ d.client) refl (λ tx. refl) refl (λ stamp. refl)
      (λ change same. refl) reply

  step_client : (d : Account) (x : Deed) → (account_at decl d x).client ≡ d.client
  step_client d (Takes (inputs.Called command)) = refl
  step_client d (Takes (inputs.Got envelope)) = heard_client d envelope.message
  step_client d (Takes (inputs.Lost number)) = counted_client d number None
  step_client d (Writes w) = written_client d w
  step_client d (Sends n to m) = sent_client d n to m
  step_client d (Tells reply) = reply_client d reply
  step_client d (Falls cause pending) = refl
  step_client d (Rises kept) = refl

  stays_client : (ds : List Deed) (d : Account) → (fold (account_at decl) d ds).client ≡ d.client
  stays_client [] d = refl
  stays_client (x ∷ ds) d = stays_client ds (account_at decl d x) ∙ step_client d x

  pub accounts_begin_anew : (client : ℕ) (ds : List Deed) (kept : List Record)
      → account_of decl client (ds ++ Rises kept ∷ []) ≡ account_with client kept
  accounts_begin_anew client ds kept =
      fold-append (account_at decl) (new_account client) ds (Rises kept ∷ [])
      ∙ ap (λ (c : ℕ). account_with c kept) (stays_client ds (new_account client))

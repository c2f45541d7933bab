-- What an account has stays as the history goes on; who answered a request of which number.
use Rattle.std.proofs.Common.{[], ◌≡◌, ◌-◌, ◌==◌, ℕ, false, List, ◌∷◌, ◌++◌, ap, ◌∙◌}
use Rattle.std.specs.Prelude.{fold}
use Rattle.std.proofs.lemmas.List.Sums.{fold-append}
use Rattle.qc_list.specs.Vocabulary.{In}
use Rattle.qc_decl.specs.declared.declaration.Declaration.{Declaration}
use Rattle.qc_msg.specs.declared.message.Answer.{Answer}
use Rattle.qc_msg.specs.declared.message.Envelope.{Envelope}
use Rattle.qc_msg.specs.declared.message.Message.TheVariants as messages
use Rattle.qc_msg.specs.declared.step.Input.{Input}
use Rattle.qc_msg.specs.declared.step.Step.{Step}
use Rattle.qc_msg.specs.declared.turn.Turn.{Turn}
use Rattle.qc_msg.specs.Vocabulary.{Entry, Takes, WasSentTo, by as by_actor, deeds, mail, marked, posted, step_of}
use Rattle.qc_msg.specs.Vocabulary.{turn_deeds}
use Rattle.qc_msg.proofs.DeedsGrow.{deeds-other}
use Rattle.qc_msg.proofs.Growth.{deeds-posted, deeds-taken}
use Rattle.qc_promise.specs.Vocabulary.{account, account_at, account_taken, new_account}
use Rattle.laws_turns.proofs.Acted.{deeds-silent}
use Rattle.laws_turns.proofs.Numbered.{IsSilent}

-- an answer to a request of this number was sent
pub record IsAnswered (mail : List Envelope) (number : ℕ) (answer : Answer) : Type 0 where
  pub envelope : Envelope
  pub sent : In envelope mail
  pub is : envelope.message ≡ messages.Answer number answer

module _ (decl : Declaration) where
  -- what stays as the history goes on

  pub account_taken_is : (a : ℕ) (h : List Entry) (g : Input) → WasSentTo a (mail h) g
      → account decl a (h ++ marked a (step_of g) ∷ []) ≡ account_taken (account decl a h) g
  account_taken_is a h g sent =
      ap (fold (account_at decl) (new_account (a - decl.sites))) (deeds-taken a h g sent)
      ∙ fold-append (account_at decl) (new_account (a - decl.sites)) (deeds a [] h) (Takes g ∷ [])

  pub account_posted_is : (a n : ℕ) (h : List Entry) (turn : Turn)
      → account decl a (h ++ by_actor a (posted n turn)) ≡ fold (account_at decl) (account decl a h) (turn_deeds n turn)
  account_posted_is a n h turn =
      ap (fold (account_at decl) (new_account (a - decl.sites))) (deeds-posted a n h turn)
      ∙ fold-append (account_at decl) (new_account (a - decl.sites)) (deeds a [] h) (turn_deeds n turn)

  pub account_other : (b a : ℕ) (h : List Entry) (xs : List Step) → (b == a) ≡ false
      → account decl a (h ++ by_actor b xs) ≡ account decl a h
  account_other b a h xs other =
      ap (fold (account_at decl) (new_account (a - decl.sites))) (deeds-other b a [] h xs other)

  pub account_silent : (a b : ℕ) (h : List Entry) (step : Step) → IsSilent step
      → account decl a (h ++ marked b step ∷ []) ≡ account decl a h
  account_silent a b h step silent =
      ap (fold (account_at decl) (new_account (a - decl.sites))) (deeds-silent a b h step silent)

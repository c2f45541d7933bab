-- Which clocks a client has counted: those of the grants and promises that were the first thing it took for a request.
use Rattle.std.specs.Prelude.{MatchOption, ◌≡◌, ℕ, List, ◌∷◌, ◌++◌, fold, Some}
use Rattle.std.specs.List.{find}
use Rattle.qc_decl.specs.declared.declaration.Declaration.{Declaration}
use Rattle.qc_msg.specs.declared.message.Answer.{Answer as AnswerKind}
use Rattle.qc_msg.specs.declared.message.Envelope.{Envelope}
use Rattle.qc_msg.specs.declared.message.Message.TheVariants.{Answer}
use Rattle.qc_msg.specs.declared.message.Want.{Want}
use Rattle.qc_msg.specs.declared.message.Want.TheVariants.{Read, Append, Prepare}
use Rattle.qc_msg.specs.declared.step.Input.TheVariants.{Got}
use Rattle.qc_msg.specs.Vocabulary.{Deed, Takes, granted_in, promised_in}
use Rattle.qc_msg.specs.declared.payload.Grant.{Grant}
use Rattle.qc_promise.specs.Vocabulary.{ClientRequest, account_at, is_open, new_account}

-- a grant of a Read or an Append, or a promise, tells this clock

abbrev pub GrantTells : ℕ → ℕ → Want → Type 0
GrantTells clock told (Read read) = told ≡ clock
GrantTells clock told (Append object view own) = told ≡ clock
GrantTells clock told Prepare = ⊥

abbrev pub PromiseTells : ℕ → ℕ → Want → Type 0
PromiseTells clock told (Read read) = ⊥
PromiseTells clock told (Append object view own) = ⊥
PromiseTells clock told Prepare = told ≡ clock

abbrev pub Tells : ℕ → Want → AnswerKind → Type 0
Tells clock want answer =
    MatchOption (granted_in answer) (MatchOption (promised_in answer) ⊥ (λ (told : ℕ). PromiseTells clock told want))
    (λ (g : Grant). GrantTells clock g.clock want)

-- among the deeds of this client it took an answer with this clock, for a request that was open then
pub record IsCounted (decl : Declaration) (client : ℕ) (ds : List Deed) (clock : ℕ) : Type 0 where
  pub before : List Deed
  pub after : List Deed
  pub envelope : Envelope
  pub taken : ds ≡ before ++ Takes (Got envelope) ∷ after
  pub number : ℕ
  pub answer : AnswerKind
  pub answers_it : envelope.message ≡ Answer number answer
  pub request : ClientRequest
  pub counts : find (is_open number) (fold (account_at decl) (new_account client) before).requests ≡ Some request
  pub tells : Tells clock request.want answer

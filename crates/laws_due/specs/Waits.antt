-- That a running command waits for a request, and what a `do` comes to that everybody grants.
use Rattle.std.specs.Prelude.{MatchOption, ◌≡◌, ◌≤◌, ℕ, Bool, List, ◌∷◌, ◌++◌, Some, None}
use Rattle.std.specs.List.{AllByRecursion as Every}
use Rattle.qc_list.specs.Vocabulary.{In}
use Rattle.qc_stamp.specs.declared.stamp.TxId.{TxId}
use Rattle.qc_decl.specs.declared.declaration.Declaration.{Declaration}
use Rattle.qc_decl.specs.Vocabulary.{read_need_of}
use Rattle.qc_msg.specs.declared.message.Answer.TheVariants.{Granted}
use Rattle.qc_msg.specs.declared.message.Message.{Message}
use Rattle.qc_msg.specs.declared.message.Message.TheVariants as messages
use Rattle.qc_msg.specs.declared.message.Want.{Want}
use Rattle.qc_msg.specs.declared.step.Input.{Input}
use Rattle.qc_msg.specs.declared.step.Input.TheVariants as inputs
use Rattle.qc_msg.specs.Vocabulary.{Deed, Falls, Rises, Sends, Takes, Tells, Writes, Answered, answer_in}
use Rattle.qc_msg.specs.declared.payload.Grant.{Grant}
use Rattle.qc_plan.specs.Vocabulary.{has_granted, weight}
use Rattle.qc_promise.specs.Vocabulary.{Account, ClientRequest, Current, is_read, round_of, weights_of}
use Rattle.laws_due.specs.Ties.{IsDo}

-- a request of the running command is open: nothing was taken for it
pub record IsWaiting (d : Account) : Type 0 where
  pub request : ClientRequest
  pub among : In request d.requests
  pub open_still : request.taken ≡ None

-- a request was granted
pub record IsGranted (q : ClientRequest) : Type 0 where
  pub grant : Grant
  pub is : q.taken ≡ Some (Some (Granted grant))

-- the sites that granted a half weigh what it needs
abbrev pub IsEnough : Declaration → Account → Current → (Want → Bool) → ℕ → Type 0
IsEnough decl d t half need = need ≤ weight (has_granted (round_of decl d t half need).asked) (weights_of decl t.epoch)

-- a `do` runs whose requests are all granted, and its Reads by sites that weigh what it needs
pub record IsGrantedDo (decl : Declaration) (d : Account) (t : Current) (object inv : ℕ) : Type 0 where
  pub runs : IsDo d t object inv
  pub all : Every IsGranted d.requests
  pub enough : IsEnough decl d t is_read (read_need_of decl t.epoch object inv)

-- an input is the answer to the request of a number, or tells that it is lost

abbrev pub IsAnswerTo : ℕ → Message → Type 0
IsAnswerTo number message = MatchOption (answer_in message) ⊥ (λ (a : Answered). a.to ≡ number)

abbrev pub IsFor : ℕ → Input → Type 0
IsFor number (inputs.Called command) = ⊥
IsFor number (inputs.Got envelope) = IsAnswerTo number envelope.message
IsFor number (inputs.Lost lost) = lost ≡ number

abbrev pub IsNotFor : ℕ → Deed → Type 0
IsNotFor number (Takes given) = IsFor number given → ⊥
IsNotFor number (Writes written) = Unit {0}
IsNotFor number (Sends sent to message) = Unit {0}
IsNotFor number (Tells reply) = Unit {0}
IsNotFor number (Falls cause pending) = Unit {0}
IsNotFor number (Rises records) = Unit {0}

-- a request was sent, and nothing was taken for it since
pub record IsAwaited (ds : List Deed) (q : ClientRequest) : Type 0 where
  pub before : List Deed
  pub after : List Deed
  pub tx : TxId
  pub epoch : ℕ
  pub is : ds ≡ before ++ Sends q.number q.site (messages.Request tx epoch q.life q.want) ∷ after
  pub untaken : Every (IsNotFor q.number) after

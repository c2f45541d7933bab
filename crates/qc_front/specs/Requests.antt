-- Which messages a front end's turns send, and how its requests get their numbers.
use Rattle.std.specs.Prelude.{[], MatchOption, is_some, ◌≡◌, ℕ, ◌+◌, ◌<◌, ◌⊎◌, Bool, false, List, ◌∷◌, ◌++◌, map}
use Rattle.std.specs.Prelude.{Option, Some, None}
use Rattle.std.specs.Option.{option_map_or}
use Rattle.qc_stamp.specs.declared.stamp.TxId.{TxId}
use Rattle.qc_list.specs.Vocabulary.{In}
use Rattle.qc_decl.specs.declared.declaration.Declaration.{Declaration}
use Rattle.qc_msg.specs.declared.begun.Begun.{Begun}
use Rattle.qc_msg.specs.declared.call.Call.{Call}
use Rattle.qc_msg.specs.declared.message.Message.{Message}
use Rattle.qc_msg.specs.declared.message.Outcome.{Outcome}
use Rattle.qc_msg.specs.declared.message.Outcome.TheVariants.{Aborted}
use Rattle.qc_msg.specs.declared.message.Want.{Want}
use Rattle.qc_msg.specs.declared.turn.Posting.{Posting}
use Rattle.qc_msg.specs.Vocabulary.{life_of, Decided, Requested, decision_in, request_in}
use Rattle.qc_plan.specs.Vocabulary.{RoundState}
use Rattle.qc_front.specs.declared.doing.Doing.{Doing}
use Rattle.qc_front.specs.declared.doing.Doing.TheVariants.{Idle, Reading, Appending}
use Rattle.qc_front.specs.declared.front.Front.{Front}
use Rattle.qc_front.specs.declared.transaction.Transaction.{Transaction}
use Rattle.qc_front.specs.Appending.{append_want, read_want, request_of}
use Rattle.qc_front.specs.Conduct.{awaited, requested, sent}
use Rattle.qc_front.specs.Front.{FrontMove}
use Rattle.qc_front.specs.Holds.{IsNumbered, sites_called}

-- what the running `do` wants of a site: a Read names its object and invocation; an Append carries the object's
-- view and
-- all own lines of the object that weigh, the new one last
abbrev pub IsFor : Declaration → Transaction → Doing → ℕ → Want → Type 0
IsFor decl t Idle site want = ⊥
IsFor decl t (Reading object inv calls round) site want = want ≡ read_want object inv site
IsFor decl t (Appending object inv event calls round) site want = want ≡ append_want decl t object event site

-- a request is the running `do`'s. It names its transaction, the transaction's epoch, and the life of the receiver's
-- first grant
pub record IsRequestOf (decl : Declaration) (front : Front) (to : ℕ) (tx : TxId) (epoch life : ℕ) (want : Want)
    : Type 0 where
  pub t : Transaction
  pub begun : front.transaction ≡ Some t
  pub tx_is : tx ≡ t.begun.tx
  pub epoch_is : epoch ≡ t.begun.epoch
  pub life_is : life ≡ life_of t.begun.lives to
  pub wants : IsFor decl t front.doing to want

-- a verdict is that of the transaction that was given up, to a site that it asked
pub record IsVerdictOf (front : Front) (to : ℕ) (tx : TxId) (verdict : Outcome) : Type 0 where
  pub t : Transaction
  pub begun : front.transaction ≡ Some t
  pub tx_is : tx ≡ t.begun.tx
  pub aborted : verdict ≡ Aborted
  pub asked : In to t.begun.asked

-- what a front end sends as it moves: nothing but these
abbrev pub IsSent : Declaration → Front → Front → ℕ → Message → Type 0
IsSent decl before after to message =
    MatchOption (request_in message)
    (MatchOption (decision_in message) ⊥ (λ (v : Decided). IsVerdictOf before to v.tx v.verdict))
    (λ (q : Requested). IsRequestOf decl after to q.tx q.epoch q.life q.want)

abbrev pub AreSent : Declaration → Front → FrontMove → Type 0
AreSent decl before move = (p : Posting) → In p move.turn.sends → IsSent decl before move.front p.to p.message

-- requests are sent where no request is open, and then to all awaited sites at once, in the order of asking

abbrev pub is_request : Message → Bool
is_request message = is_some (request_in message)

abbrev pub AsksNobody : List Posting → Type 0
AsksNobody sends = (p : Posting) → In p sends → is_request p.message ≡ false

abbrev pub AsksAll : Begun → (ℕ → Want) → List Call → RoundState → List Posting → Type 0
AsksAll b want calls round sends =
    ((sends ≡ []) × (sites_called calls ≡ awaited round))
    ⊎ ((calls ≡ []) × (sends ≡ map (request_of b want) (awaited round)))

abbrev pub AsksIn : Declaration → Option Transaction → Doing → List Posting → Type 0
AsksIn decl t Idle sends = AsksNobody sends
AsksIn decl None (Reading object inv calls round) sends = AsksNobody sends
AsksIn decl None (Appending object inv event calls round) sends = AsksNobody sends
AsksIn decl (Some t) (Reading object inv calls round) sends =
    AsksAll t.begun (read_want object inv) calls round sends
AsksIn decl (Some t) (Appending object inv event calls round) sends =
    AsksAll t.begun (append_want decl t object event) calls round sends

-- the messages of a turn get their numbers one after another, from this one on

abbrev pub numbered_one : Front → ℕ → ℕ → Message → Front
numbered_one front number to message =
    option_map_or (λ (x : Requested). requested front number to) (request_in message) front

abbrev pub numbered_all : Front → ℕ → List Posting → Front
numbered_all front first [] = front
numbered_all front first (p ∷ ps) = numbered_all (numbered_one front first p.to p.message) (first + 1) ps

-- a turn asks all at once, and one call of `sent` gives its requests the numbers that they get one after another
pub record AsksAtOnce (decl : Declaration) (move : FrontMove) : Type 0 where
  pub asks : AsksIn decl move.front.transaction move.front.doing move.turn.sends
  pub told : (first : ℕ) → numbered_all move.front first move.turn.sends ≡ sent move.front first
  pub numbered : (first : ℕ) → IsNumbered (sent move.front first).doing

-- a request was sent to the next awaited site that had none, under a later number

pub record IsNextOpen (calls : List Call) (round : RoundState) (number site : ℕ) : Type 0 where
  pub later : (c : Call) → In c calls → c.number < number
  pub more : List ℕ
  pub next : sites_called calls ++ site ∷ more ≡ awaited round

abbrev pub IsNextCall : Doing → ℕ → ℕ → Type 0
IsNextCall Idle number site = Unit {0}
IsNextCall (Reading object inv calls round) number site = IsNextOpen calls round number site
IsNextCall (Appending object inv event calls round) number site = IsNextOpen calls round number site

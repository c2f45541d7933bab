-- What holds of a front end in every run.
use Rattle.std.specs.Prelude.{◌≡◌, ◌≢◌, ℕ, ◌<◌, ◌≤◌, false, List, [], ◌∷◌, ◌++◌, filter, length, map, slice_get, ◌==◌}
use Rattle.std.specs.Prelude.{Option, Some, None}
use Rattle.std.specs.Ordering.{nat_cmp}
use Rattle.qc_list.specs.Vocabulary.{Ascends, In}
use Rattle.qc_decl.specs.declared.declaration.Declaration.{Declaration}
use Rattle.qc_decl.specs.Vocabulary.{append_need_of, first_site, most_transaction_operations, read_need_of}
use Rattle.qc_entry.specs.declared.line.Op.{Op}
use Rattle.qc_entry.specs.declared.line.OwnLine.{OwnLine}
use Rattle.qc_msg.specs.declared.call.Call.{Call}
use Rattle.qc_plan.specs.declared.standing.Asked.{Asked}
use Rattle.qc_plan.specs.Vocabulary.{RoundState, all_noted, start, wanted}
use Rattle.qc_view.specs.declared.view.View.{View}
use Rattle.qc_front.specs.declared.doing.Doing.{Doing}
use Rattle.qc_front.specs.declared.doing.Doing.TheVariants.{Idle, Reading, Appending}
use Rattle.qc_front.specs.declared.front.Front.{Front}
use Rattle.qc_front.specs.declared.transaction.Transaction.{Transaction}
use Rattle.qc_front.specs.Answering.{answer_of}
use Rattle.qc_front.specs.Appending.{weights_of}
use Rattle.qc_front.specs.Conduct.{awaited}

-- rounds

abbrev pub sites_of : List Asked → List ℕ
sites_of asked = map (λ (a : Asked). a.site) asked

-- a round by an epoch's plan, in a client's order of sites, for this need, as far as it may have come
pub record IsRound (decl : Declaration) (client epoch need : ℕ) (round : RoundState) : Type 0 where
  pub weights : round.weights ≡ weights_of decl epoch
  pub need_is : round.need ≡ need
  pub sites : sites_of round.asked ++ round.rest ≡ (start (weights_of decl epoch) (first_site decl client) need).rest

-- a site that it asked isn't noted, and it wants no other yet
pub record IsAwaiting (round : RoundState) : Type 0 where
  pub open_still : all_noted round.asked ≡ false
  pub asked_all : wanted round ≡ []

-- the first numbers of a list, in order
pub record IsPrefix (xs ys : List ℕ) : Type 0 where
  pub more : List ℕ
  pub is : xs ++ more ≡ ys

abbrev pub sites_called : List Call → List ℕ
sites_called calls = map (λ (c : Call). c.site) calls

-- no two are the same
abbrev pub AreApart : List ℕ → Type 0
AreApart [] = Unit {0}
AreApart (x ∷ xs) = ((y : ℕ) → In y xs → x ≢ y) × AreApart xs

-- the open requests have ascending numbers. They went to awaited sites, in the order of asking: as many of them as have
-- their numbers so far
pub record AreOpen (calls : List Call) (round : RoundState) : Type 0 where
  pub numbers : Ascends nat_cmp (map (λ (c : Call). c.number) calls)
  pub sites : IsPrefix (sites_called calls) (awaited round)

-- what is waited for: there is room for the operation, and the round is one for what it needs

pub record ReadingHolds (decl : Declaration) (client : ℕ) (t : Transaction) (object inv : ℕ)
    (calls : List Call) (round : RoundState) : Type 0 where
  pub room : length t.begun.ops < most_transaction_operations
  pub round_is : IsRound decl client t.begun.epoch (read_need_of decl t.begun.epoch object inv) round
  pub awaits : IsAwaiting round
  pub calls_are : AreOpen calls round

pub record AppendingHolds (decl : Declaration) (client : ℕ) (t : Transaction) (object inv event : ℕ)
    (calls : List Call) (round : RoundState) : Type 0 where
  pub room : length t.begun.ops < most_transaction_operations
  -- the event is the view's answer
  pub chosen : answer_of decl t object inv ≡ Some event
  pub round_is : IsRound decl client t.begun.epoch (append_need_of decl t.begun.epoch object event) round
  pub awaits : IsAwaiting round
  pub calls_are : AreOpen calls round

abbrev pub DoingHolds : Declaration → ℕ → Transaction → Doing → Type 0
DoingHolds decl client t Idle = length t.begun.ops ≤ most_transaction_operations
DoingHolds decl client t (Reading object inv calls round) = ReadingHolds decl client t object inv calls round
DoingHolds decl client t (Appending object inv event calls round) =
    AppendingHolds decl client t object inv event calls round

-- a transaction's views, own lines and operations

abbrev pub own_on : List OwnLine → ℕ → List OwnLine
own_on own object = filter (λ (l : OwnLine). l.object == object) own

pub record RecordsHold (decl : Declaration) (views : List View) (own : List OwnLine) (ops : List Op) : Type 0 where
  pub count : length views ≡ length decl.objects
  -- a view's own events are those of the own lines of its object, in order
  pub own_events : (object : ℕ) (v : View) → slice_get views object ≡ Some v
      → v.own ≡ map (λ (l : OwnLine). l.event) (own_on own object)
  -- own lines are numbered as their operations, so their numbers ascend
  pub ascending : Ascends nat_cmp (map (λ (l : OwnLine). l.op) own)
  pub within : (l : OwnLine) → In l own → l.op ≤ length ops

abbrev pub BegunHolds : Declaration → ℕ → Option Transaction → Doing → Type 0
BegunHolds decl client None doing = doing ≡ Idle
BegunHolds decl client (Some t) doing =
    RecordsHold decl t.views t.own t.begun.ops × DoingHolds decl client t doing

abbrev pub FrontHolds : Declaration → Front → Type 0
FrontHolds decl front = BegunHolds decl front.client front.transaction front.doing

-- each awaited site has an open request with its number: so between two inputs
abbrev pub IsNumbered : Doing → Type 0
IsNumbered Idle = Unit {0}
IsNumbered (Reading object inv calls round) = sites_called calls ≡ awaited round
IsNumbered (Appending object inv event calls round) = sites_called calls ≡ awaited round

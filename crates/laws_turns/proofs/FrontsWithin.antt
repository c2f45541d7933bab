-- What a front end becomes and sends stays within a bound that what it takes keeps to, and one more where it begins.
use Rattle.std.proofs.Common.{[], ◌≡◌, ℕ, ◌+◌, ◌≤◌, length, Option, Some, None, refl, sym, subst, arith}
use Rattle.std.specs.Prelude.{slice_get, MatchOption}
use Rattle.std.specs.Option.{option_map_or}
use Rattle.qc_list.proofs.Members.{every-from_In}
use Rattle.qc_decl.specs.declared.declaration.Declaration.{Declaration}
use Rattle.qc_msg.specs.declared.message.Answer.{Answer}
use Rattle.qc_msg.specs.declared.message.Message.{Message}
use Rattle.qc_msg.specs.declared.message.Want.{Want}
use Rattle.qc_msg.specs.declared.step.Command.{Command}
use Rattle.qc_msg.specs.declared.turn.Posting.{Posting}
use Rattle.qc_msg.specs.Vocabulary.{Decided, Requested}
use Rattle.qc_view.specs.declared.view.View.{View}
use Rattle.qc_front.specs.declared.doing.Doing.{Doing}
use Rattle.qc_front.specs.declared.doing.Doing.TheVariants.{Idle, Reading, Appending}
use Rattle.qc_front.specs.declared.front.Front.{Front}
use Rattle.qc_front.specs.declared.transaction.Transaction.{Transaction}
use Rattle.qc_front.specs.Vocabulary.{AreSent, FrontMove, IsFor, IsSent, begins, called, ended, takes, view_log}
use Rattle.qc_front.specs.Vocabulary.{IsRequestOf}
use Rattle.qc_front.proofs.Sending.{called_sent, takes_sent}
use Rattle.qc_front.specs.Requests.{IsVerdictOf}
use Rattle.laws_turns.specs.Vocabulary.{FrontWithin, LinesWithin, MessageWithin, OutcomeWithin, SendsWithin}
use Rattle.laws_turns.specs.Vocabulary.{TransactionWithin, ViewsWithin, WantWithin}
use Rattle.laws_turns.proofs.DesksWithin.{CameWithin}
use Rattle.laws_turns.proofs.FrontBounds.{front-le, no_lines, old-within, granted-clock, takes_in-within, aborts-within}
use Rattle.laws_turns.proofs.FrontBounds.{commits-within, performs-within}
use Rattle.laws_turns.proofs.ClientCases.{front_cases}
use Rattle.laws_turns.proofs.MessageCases.{message_cases}

module _ (bound : ℕ) where
  -- another view of an object
  abbrev ViewWithin : Option View → Type 0
  ViewWithin None = Unit {0}
  ViewWithin (Some v) = LinesWithin bound v.log

  -- what is sent: an Append carries the view of its object

  view_log-within : (t : Transaction) (object : ℕ) → ViewsWithin bound t.views → LinesWithin bound (view_log t object)
  view_log-within t object w =
      by (slice_get t.views object) (old-within bound t.views object (slice_get t.views object) refl w) where
        by : (o : Option View) → ViewWithin o → LinesWithin bound (option_map_or (λ (v : View). v.log) o [])
        by None here = tt
        by (Some v) here = here

  for-within : (decl : Declaration) (t : Transaction) (doing : Doing) (site : ℕ) (want : Want)
      → ViewsWithin bound t.views → IsFor decl t doing site want → WantWithin bound want
  for-within decl t Idle site want w never = absurd never
  for-within decl t (Reading object inv calls round) site want w is = subst (WantWithin bound) (sym is) tt
  for-within decl t (Appending object inv event calls round) site want w is =
      subst (WantWithin bound) (sym is) (view_log-within t object w)

  sent-within : (decl : Declaration) (before : Front) (move : FrontMove)
      → TransactionWithin bound move.front.transaction → AreSent decl before move → SendsWithin bound move.turn.sends
  sent-within decl before move w sent =
      every-from_In (λ (p : Posting). MessageWithin bound p.message) move.turn.sends
      (λ p among. one p.to p.message (sent p among)) where
        asks : (to : ℕ) (want : Want) → (t : Transaction) → move.front.transaction ≡ Some t
            → IsFor decl t move.front.doing to want → WantWithin bound want
        asks to want t begun is =
            for-within decl t move.front.doing to want (subst (TransactionWithin bound) begun w) is

        one : (to : ℕ) (message : Message) → IsSent decl before move.front to message → MessageWithin bound message
        one to message is =
            message_cases
            (λ m r a d i. MatchOption r
            (MatchOption d ⊥ (λ (v : Decided). IsVerdictOf before to v.tx v.verdict))
            (λ (q : Requested). IsRequestOf decl move.front to q.tx q.epoch q.life q.want) → MessageWithin bound m)
            (λ q is. asks to q.want is.t is.begun is.wants) (λ a never. absurd never)
            (λ v is. subst (OutcomeWithin bound) (sym is.aborted) tt) (λ tx never. absurd never)
            (λ m never. absurd never) message is

-- a move

pub record FrontGoes (bound : ℕ) (move : FrontMove) : Type 0 where
  pub front : FrontWithin bound move.front
  pub sends : SendsWithin bound move.turn.sends

begins-within : (bound : ℕ) (decl : Declaration) (front : Front) (t : Option Transaction) → FrontWithin bound front
    → FrontWithin (bound + 1) (begins decl front t).front
begins-within bound decl front (Some t) w = front-le bound (bound + 1) front (omega arith) w
begins-within bound decl front None w =
    let more : FrontWithin (bound + 1) front = front-le bound (bound + 1) front (omega arith) w in
    record {
      clock = more.clock;
      count = (let n : front.count ≤ bound = w.count in omega arith);
      views = no_lines (bound + 1) (length decl.objects);
    }

called-within : (bound : ℕ) (decl : Declaration) (front : Front) (command : Command) → FrontWithin bound front
    → FrontWithin (bound + 1) (called decl front command).front
called-within bound decl front command w =
    let more : FrontWithin (bound + 1) front = front-le bound (bound + 1) front (omega arith) w in
    front_cases decl front (λ command m. FrontWithin (bound + 1) m.front)
    (begins-within bound decl front front.transaction w)
    (λ object inv. performs-within (bound + 1) decl front more front.transaction object inv more.views)
    (commits-within (bound + 1) decl front more front.transaction)
    (aborts-within (bound + 1) decl front more front.transaction) (λ number. more) command

pub called-goes : (bound : ℕ) (decl : Declaration) (front : Front) (command : Command) → FrontWithin bound front
    → FrontGoes (bound + 1) (called decl front command)
called-goes bound decl front command w =
    let next : FrontWithin (bound + 1) (called decl front command).front = called-within bound decl front command w in
    record {
      front = next;
      sends = sent-within (bound + 1) decl front (called decl front command) next.views
          (called_sent decl front command);
    }

pub takes-goes : (bound : ℕ) (decl : Declaration) (front : Front) (number : ℕ) (answer : Option Answer)
    → FrontWithin bound front → CameWithin bound answer → FrontGoes bound (takes decl front number answer)
takes-goes bound decl front number answer w here =
    let next : FrontWithin bound (takes decl front number answer).front =
    takes_in-within bound decl front front.doing front.transaction number answer w w.views here in
    record {
      front = next;
      sends = sent-within bound decl front (takes decl front number answer) next.views
          (takes_sent decl front number answer);
    }

pub ended_within : (bound : ℕ) (front : Front) (clock epoch : ℕ) → FrontWithin bound front → clock ≤ bound
    → FrontWithin bound (ended front clock epoch)
ended_within bound front clock epoch w here =
    record { clock = granted-clock bound front clock w.clock here; count = w.count; views = tt }

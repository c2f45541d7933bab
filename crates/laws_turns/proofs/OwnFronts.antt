-- A front end begins transactions of its own client alone, and what it sends names no stamp.
use Rattle.std.proofs.Common.{◌≡◌, ℕ, nat_le, List, [], length, Option, Some, None, sym, ap, ◌∙◌, subst}
use Rattle.std.proofs.Common.{◌∷◌, ◌++◌, option_map, refl}
use Rattle.std.specs.List.{AllByRecursion as Every, slice_get}
use Rattle.std.specs.Prelude.{MatchOption}
use Rattle.qc_core.specs.Vocabulary.{IsOwnStamp, IsStamped}
use Rattle.qc_decl.specs.declared.declaration.Declaration.{Declaration}
use Rattle.qc_decl.specs.Vocabulary.{append_need_of, most_transaction_operations, read_need_of}
use Rattle.qc_plan.specs.Vocabulary.{RoundState, note, verdict}
use Rattle.qc_plan.specs.declared.standing.Verdict.{Verdict}
use Rattle.qc_plan.specs.declared.standing.Verdict.TheVariants as verdicts
use Rattle.qc_stamp.specs.declared.stamp.TxId.{TxId}
use Rattle.qc_msg.specs.declared.call.Call.{Call}
use Rattle.qc_msg.specs.declared.message.Answer.{Answer}
use Rattle.qc_msg.specs.declared.message.Message.{Message}
use Rattle.qc_msg.specs.declared.message.Outcome.{Outcome}
use Rattle.qc_msg.specs.declared.reply.Reply.TheVariants as replies
use Rattle.qc_msg.specs.declared.reply.AbortCause.TheVariants as causes
use Rattle.qc_msg.specs.declared.step.Command.{Command}
use Rattle.qc_msg.specs.declared.turn.Posting.{Posting}
use Rattle.qc_msg.specs.Vocabulary.{quiet, site_called, telling, without_call, Decided}
use Rattle.qc_front.specs.declared.doing.Doing.{Doing}
use Rattle.qc_front.specs.declared.doing.Doing.TheVariants.{Idle, Reading, Appending}
use Rattle.qc_front.specs.declared.front.Front.{Front}
use Rattle.qc_front.specs.declared.transaction.Transaction.{Transaction}
use Rattle.qc_front.specs.Vocabulary.{AreSent, FrontMove, IsSent, aborts, answer_of, answered, append_by, appended_with}
use Rattle.qc_front.specs.Vocabulary.{appending_takes, begins, called, commits, gives_up, learns, moved, performs}
use Rattle.qc_front.specs.Vocabulary.{read_by, read_with, reading_takes, reads, resp_of, round_for, standing_of, takes}
use Rattle.qc_front.specs.Vocabulary.{takes_in}
use Rattle.qc_front.proofs.Sending.{called_sent, takes_sent}
use Rattle.laws_turns.proofs.ClientCases.{front_cases}
use Rattle.laws_turns.proofs.AnswerCases.{appended_cases, read_cases}
use Rattle.laws_turns.proofs.MessageCases.{message_cases}
use Rattle.qc_list.proofs.Members.{every-from_In}
use Rattle.qc_front.proofs.Learning.{client_kept}
use Rattle.qc_list.proofs.Booleans.{if_two}
use Rattle.qc_view.specs.declared.view.View.{View}
use Rattle.qc_view.specs.Vocabulary.{with_own}
use Rattle.qc_msg.specs.declared.begun.Begun.{Begun}
use Rattle.qc_front.specs.Vocabulary.{next_own}
use Rattle.qc_front.specs.Vocabulary.{with_event}
use Rattle.qc_front.proofs.CommandsKeep.{view_keeps}

pub read-name : (t : Transaction) (site object : ℕ) (answer : Option Answer)
    → (read_with t site object answer).begun.tx ≡ t.begun.tx
read-name t site object answer =
    read_cases t site object (λ (b : Begun). b.tx ≡ t.begun.tx) (λ lives. refl) answer

pub appended-name : (t : Transaction) (site : ℕ) (answer : Option Answer)
    → (appended_with t site answer).begun.tx ≡ t.begun.tx
appended-name t site answer =
    appended_cases t site (λ (u : Transaction). u.begun.tx ≡ t.begun.tx) (λ lives. refl) answer

pub event-name : (t : Transaction) (object inv event resp : ℕ)
    → (with_event t object inv event resp).begun.tx ≡ t.begun.tx
event-name t object inv event resp =
    ap (λ (b : Begun). b.tx)
    (view_keeps (record t { own = t.own ++ next_own t object event ∷ [] }) object
    (option_map (λ (v : View). with_own v event) (slice_get t.views object)))

abbrev pub IsOwnTransaction : ℕ → Option Transaction → Type 0
IsOwnTransaction k None = Unit {0}
IsOwnTransaction k (Some t) = t.begun.tx.client ≡ k

pub record OwnFront (k : ℕ) (front : Front) : Type 0 where
  pub client : front.client ≡ k
  pub begun : IsOwnTransaction k front.transaction

-- the name stays

-- rounds

module _ (decl : Declaration) (k : ℕ) where
  append_own : (next : Front) (t : Transaction) (object inv event : ℕ) (calls : List Call) (round : RoundState)
      (v : Verdict) → next.client ≡ k → t.begun.tx.client ≡ k
      → OwnFront k (append_by decl next t object inv event calls round v).front
  append_own next t object inv event calls round verdicts.Waiting client own = record { client = client; begun = own }
  append_own next t object inv event calls round verdicts.Met client own =
      record {
        client = client;
        begun = ap (λ (tx : TxId). tx.client)
            (event-name t object inv event (resp_of decl object event)) ∙ own;
      }
  append_own next t object inv event calls round (verdicts.Closed epoch site) client own =
      record { client = client; begun = own }
  append_own next t object inv event calls round (verdicts.Clash tx site) client own =
      record { client = client; begun = own }
  append_own next t object inv event calls round (verdicts.Short got need) client own =
      record { client = client; begun = own }

  answered_own : (next : Front) (t : Transaction) (object inv : ℕ) (o : Option ℕ) → next.client ≡ k
      → t.begun.tx.client ≡ k → OwnFront k (answered decl next t object inv o).front
  answered_own next t object inv None client own = record { client = client; begun = own }
  answered_own next t object inv (Some event) client own =
      append_own next t object inv event [] (round_for decl next t (append_need_of decl t.begun.epoch object event))
      (verdict (round_for decl next t (append_need_of decl t.begun.epoch object event))) client own

  read_own : (next : Front) (t : Transaction) (object inv : ℕ) (calls : List Call) (round : RoundState) (v : Verdict)
      → next.client ≡ k → t.begun.tx.client ≡ k → OwnFront k (read_by decl next t object inv calls round v).front
  read_own next t object inv calls round verdicts.Waiting client own = record { client = client; begun = own }
  read_own next t object inv calls round verdicts.Met client own =
      answered_own next t object inv (answer_of decl t object inv) client own
  read_own next t object inv calls round (verdicts.Closed epoch site) client own =
      record { client = client; begun = own }
  read_own next t object inv calls round (verdicts.Clash tx site) client own = record { client = client; begun = own }
  read_own next t object inv calls round (verdicts.Short got need) client own = record { client = client; begun = own }

  -- commands

  performs_own : (front : Front) (o : Option Transaction) (object inv : ℕ) → front.client ≡ k
      → IsOwnTransaction k front.transaction → IsOwnTransaction k o
      → OwnFront k (performs decl front o object inv).front
  performs_own front None object inv client begun own = record { client = client; begun = begun }
  performs_own front (Some t) object inv client begun own =
      if_two (λ (m : FrontMove). OwnFront k m.front) t.begun.doomed (moved front (telling replies.Doomed)) _
      (record { client = client; begun = begun })
      (if_two (λ (m : FrontMove). OwnFront k m.front) (nat_le most_transaction_operations (length t.begun.ops))
      (moved front (telling replies.TooLong)) (reads decl front t object inv []
      (round_for decl front t (read_need_of decl t.begun.epoch object inv)))
      (record { client = client; begun = begun })
      (read_own front t object inv [] (round_for decl front t (read_need_of decl t.begun.epoch object inv))
      (verdict (round_for decl front t (read_need_of decl t.begun.epoch object inv))) client own))

  begins_own : (front : Front) (o : Option Transaction) → OwnFront k front → OwnFront k (begins decl front o).front
  begins_own front None own = record { client = own.client; begun = own.client }
  begins_own front (Some t) own = own

  commits_own : (front : Front) (o : Option Transaction) → OwnFront k front → OwnFront k (commits front o).front
  commits_own front None own = own
  commits_own front (Some t) own = if_two (λ (m : FrontMove). OwnFront k m.front) t.begun.doomed
      (gives_up front t (replies.Aborted causes.Doomed)) (moved front quiet)
      (record { client = own.client; begun = tt }) own

  aborts_own : (front : Front) (o : Option Transaction) → OwnFront k front → OwnFront k (aborts front o).front
  aborts_own front None own = own
  aborts_own front (Some t) own = record { client = own.client; begun = tt }

  pub called_own : (front : Front) (command : Command) → OwnFront k front → OwnFront k (called decl front command).front
  called_own front command own =
      front_cases decl front (λ command m. OwnFront k m.front) (begins_own front front.transaction own)
      (λ object inv. performs_own front front.transaction object inv own.client own.begun own.begun)
      (commits_own front front.transaction own) (aborts_own front front.transaction own) (λ number. own) command

  -- answers, and requests that are lost

  reading_own : (front : Front) (t : Transaction) (object inv : ℕ) (calls : List Call) (round : RoundState) (number : ℕ)
      (answer : Option Answer) (o : Option ℕ) → OwnFront k front → t.begun.tx.client ≡ k
      → OwnFront k (reading_takes decl front t object inv calls round number answer o).front
  reading_own front t object inv calls round number answer None own name = own
  reading_own front t object inv calls round number answer (Some site) own name =
      read_own (learns front answer) (read_with t site object answer) object inv (without_call calls number)
      (note round site (standing_of answer)) (verdict (note round site (standing_of answer)))
      (client_kept front answer ∙ own.client)
      (ap (λ (tx : TxId). tx.client) (read-name t site object answer) ∙ name)

  appending_own : (front : Front) (t : Transaction) (object inv event : ℕ) (calls : List Call) (round : RoundState)
      (number : ℕ) (answer : Option Answer) (o : Option ℕ) → OwnFront k front → t.begun.tx.client ≡ k
      → OwnFront k (appending_takes decl front t object inv event calls round number answer o).front
  appending_own front t object inv event calls round number answer None own name = own
  appending_own front t object inv event calls round number answer (Some site) own name =
      append_own (learns front answer) (appended_with t site answer) object inv event (without_call calls number)
      (note round site (standing_of answer)) (verdict (note round site (standing_of answer)))
      (client_kept front answer ∙ own.client)
      (ap (λ (tx : TxId). tx.client) (appended-name t site answer) ∙ name)

  in_own : (front : Front) (doing : Doing) (o : Option Transaction) (number : ℕ) (answer : Option Answer)
      → OwnFront k front → IsOwnTransaction k o → OwnFront k (takes_in decl front doing o number answer).front
  in_own front doing None number answer own name = own
  in_own front Idle (Some t) number answer own name = own
  in_own front (Reading object inv calls round) (Some t) number answer own name =
      reading_own front t object inv calls round number answer (site_called calls number) own name
  in_own front (Appending object inv event calls round) (Some t) number answer own name =
      appending_own front t object inv event calls round number answer (site_called calls number) own name

  pub takes_own : (front : Front) (number : ℕ) (answer : Option Answer) → OwnFront k front
      → OwnFront k (takes decl front number answer).front
  takes_own front number answer own = in_own front front.doing front.transaction number answer own own.begun

-- what is sent

sent_stamped : (decl : Declaration) (front next : Front) (to : ℕ) (m : Message) → IsSent decl front next to m
    → IsStamped m
sent_stamped decl front next to m is =
    message_cases
    (λ m r a d i. IsSent decl front next to m → MatchOption d (Unit {0}) (λ (v : Decided). IsOwnStamp v.tx v.verdict))
    (λ q is. tt) (λ a is. tt) (λ v is. subst (λ (o : Outcome). IsOwnStamp v.tx o) (sym is.aborted) tt) (λ tx is. tt)
    (λ m is. tt) m is

sends_stamped : (decl : Declaration) (front : Front) (m : FrontMove) → AreSent decl front m
    → Every (λ (p : Posting). IsStamped p.message) m.turn.sends
sends_stamped decl front m sent = every-from_In (λ (p : Posting). IsStamped p.message) m.turn.sends
    (λ p member. sent_stamped decl front m.front p.to p.message (sent p member))

pub called_stamped : (decl : Declaration) (front : Front) (command : Command)
    → Every (λ (p : Posting). IsStamped p.message) (called decl front command).turn.sends
called_stamped decl front command = sends_stamped decl front (called decl front command)
    (called_sent decl front command)

pub takes_stamped : (decl : Declaration) (front : Front) (number : ℕ) (answer : Option Answer)
    → Every (λ (p : Posting). IsStamped p.message) (takes decl front number answer).turn.sends
takes_stamped decl front number answer =
    sends_stamped decl front (takes decl front number answer) (takes_sent decl front number answer)

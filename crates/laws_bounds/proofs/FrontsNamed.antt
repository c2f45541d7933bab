-- A front end whose transaction names declared things goes on so, and sends such messages.
use Rattle.std.proofs.Common.{◌≡◌, ℕ, nat_le, Bool, true, false, cond, List, [], length, Option, Some, None, refl, sym}
use Rattle.std.proofs.Common.{subst}
use Rattle.qc_list.proofs.Members.{every-from_In}
use Rattle.qc_decl.specs.Vocabulary.{IsAccepted, append_need_of, most_transaction_operations, read_need_of}
use Rattle.qc_decl.specs.declared.declaration.Declaration.{Declaration}
use Rattle.qc_fit.specs.Vocabulary.{HasInvocation}
use Rattle.qc_front.specs.declared.doing.Doing.{Doing}
use Rattle.qc_front.specs.declared.doing.Doing.TheVariants.{Idle, Reading, Appending}
use Rattle.qc_front.specs.declared.front.Front.{Front}
use Rattle.qc_front.specs.declared.transaction.Transaction.{Transaction}
use Rattle.qc_front.specs.Vocabulary.{AreSent, FrontMove, IsFor, IsSent, aborts, answer_of, answered, append_by}
use Rattle.qc_front.specs.Vocabulary.{appended_with, appending_takes, begins, called, commits, gives_up, learns, moved}
use Rattle.qc_front.specs.Vocabulary.{performs, read_by, read_with, reading_takes, reads, round_for, standing_of, takes}
use Rattle.qc_front.specs.Vocabulary.{takes_in}
use Rattle.qc_front.proofs.Sending.{called_sent, takes_sent}
use Rattle.qc_msg.specs.declared.call.Call.{Call}
use Rattle.qc_msg.specs.declared.message.Answer.{Answer}
use Rattle.qc_msg.specs.declared.message.Message.{Message}
use Rattle.qc_msg.specs.declared.message.Want.{Want}
use Rattle.qc_msg.specs.declared.reply.Reply.TheVariants as replies
use Rattle.qc_msg.specs.declared.reply.AbortCause.TheVariants as causes
use Rattle.qc_msg.specs.declared.step.Command.{Command}
use Rattle.qc_msg.specs.declared.step.Command.TheVariants as commands
use Rattle.qc_msg.specs.declared.turn.Posting.{Posting}
use Rattle.qc_msg.specs.Vocabulary.{quiet, site_called, telling, without_call, closed_in, granted_in}
use Rattle.qc_plan.specs.Vocabulary.{RoundState, note, verdict}
use Rattle.qc_plan.specs.declared.standing.Verdict.{Verdict}
use Rattle.qc_plan.specs.declared.standing.Verdict.TheVariants as verdicts
use Rattle.laws_bounds.proofs.EventsNamed.{EventNamed, answer_named}
use Rattle.laws_bounds.proofs.Names.{CameNamed, CommandNamed, MessageNamed, SendsNamed, WantNamed}
use Rattle.laws_bounds.proofs.TransactionsNamed.{BegunNamed, TransactionNamed, absent_named, appended_named}
use Rattle.laws_bounds.proofs.TransactionsNamed.{event_named, log_named, no_lines, owns_named, read_named}
use Rattle.std.specs.Prelude.{option_and_then}
use Rattle.laws_bounds.proofs.FrontCases.{sent_cases}
use Rattle.laws_bounds.proofs.Options.{map_each}

module _ (decl : Declaration) where
  abbrev pub DoingNamed : Doing → Type 0
  DoingNamed Idle = Unit {0}
  DoingNamed (Reading object inv calls round) = HasInvocation decl object inv
  DoingNamed (Appending object inv event calls round) = HasInvocation decl object inv × EventNamed decl object event

  pub record FrontNamed (front : Front) : Type 0 where
    pub begun : BegunNamed decl front.transaction
    pub doing : DoingNamed front.doing

  module _ (accepted : IsAccepted decl) (front : Front) (w : FrontNamed front) where
    abbrev Goes : FrontMove → Type 0
    Goes m = FrontNamed m.front

    pub append_goes : (t : Transaction) (object inv event : ℕ) (calls : List Call) (r : RoundState) (v : Verdict)
        → TransactionNamed decl t → HasInvocation decl object inv → EventNamed decl object event
        → Goes (append_by decl front t object inv event calls r v)
    append_goes t object inv event calls r verdicts.Waiting its asked here =
        record { begun = record { views = its.views; own = its.own; ops = its.ops }; doing = (asked, here) }
    append_goes t object inv event calls r verdicts.Met its asked here =
        record { begun = event_named decl t object inv event its asked here; doing = tt }
    append_goes t object inv event calls r (verdicts.Closed epoch site) its asked here =
        record { begun = record { views = its.views; own = its.own; ops = its.ops }; doing = tt }
    append_goes t object inv event calls r (verdicts.Clash tx site) its asked here =
        record { begun = record { views = its.views; own = its.own; ops = its.ops }; doing = tt }
    append_goes t object inv event calls r (verdicts.Short got need) its asked here =
        record { begun = record { views = its.views; own = its.own; ops = its.ops }; doing = tt }

    answered_goes : (t : Transaction) (object inv : ℕ) (o : Option ℕ) → answer_of decl t object inv ≡ o
        → TransactionNamed decl t → HasInvocation decl object inv → Goes (answered decl front t object inv o)
    answered_goes t object inv None is its asked =
        record {
          begun = record { views = its.views; own = its.own; ops = absent_named decl t object inv its asked };
          doing = tt;
        }
    answered_goes t object inv (Some event) is its asked =
        append_goes t object inv event [] (round_for decl front t (append_need_of decl t.begun.epoch object event))
        (verdict (round_for decl front t (append_need_of decl t.begun.epoch object event))) its asked
        (answer_named decl accepted t object inv event is)

    pub read_goes : (t : Transaction) (object inv : ℕ) (calls : List Call) (r : RoundState) (v : Verdict)
        → TransactionNamed decl t → HasInvocation decl object inv → Goes (read_by decl front t object inv calls r v)
    read_goes t object inv calls r verdicts.Waiting its asked =
        record { begun = record { views = its.views; own = its.own; ops = its.ops }; doing = asked }
    read_goes t object inv calls r verdicts.Met its asked =
        answered_goes t object inv (answer_of decl t object inv) refl its asked
    read_goes t object inv calls r (verdicts.Closed epoch site) its asked = record { begun = its; doing = tt }
    read_goes t object inv calls r (verdicts.Clash tx site) its asked = record { begun = its; doing = tt }
    read_goes t object inv calls r (verdicts.Short got need) its asked = record { begun = its; doing = tt }

    performs_goes : (t : Option Transaction) (object inv : ℕ) → BegunNamed decl t → HasInvocation decl object inv
        → Goes (performs decl front t object inv)
    performs_goes None object inv its asked = w
    performs_goes (Some t) object inv its asked =
        by t.begun.doomed (nat_le most_transaction_operations (length t.begun.ops))
      where
        by : (doomed long : Bool)
            → Goes
            (cond doomed (moved front (telling replies.Doomed))
            (cond long (moved front (telling replies.TooLong))
            (reads decl front t object inv [] (round_for decl front t (read_need_of decl t.begun.epoch object inv)))))
        by true long = w
        by false true = w
        by false false =
            read_goes t object inv [] (round_for decl front t (read_need_of decl t.begun.epoch object inv))
            (verdict (round_for decl front t (read_need_of decl t.begun.epoch object inv))) its asked

    commits_goes : (t : Option Transaction) → Goes (commits front t)
    commits_goes None = w
    commits_goes (Some t) = by t.begun.doomed
      where
        by : (doomed : Bool) → Goes (cond doomed (gives_up front t (replies.Aborted causes.Doomed)) (moved front quiet))
        by true = record { begun = tt; doing = tt }
        by false = w

    aborts_goes : (t : Option Transaction) → Goes (aborts front t)
    aborts_goes None = w
    aborts_goes (Some t) = record { begun = tt; doing = tt }

    begins_goes : (t : Option Transaction) → Goes (begins decl front t)
    begins_goes None =
        record { begun = record { views = no_lines decl (length decl.objects); own = tt; ops = tt }; doing = w.doing }
    begins_goes (Some t) = w

    called_goes : (command : Command) → CommandNamed decl command → Goes (called decl front command)
    called_goes commands.Begin here = begins_goes front.transaction
    called_goes (commands.Do object inv) here = performs_goes front.transaction object inv w.begun here
    called_goes commands.Commit here = commits_goes front.transaction
    called_goes commands.Abort here = aborts_goes front.transaction
    called_goes (commands.Epoch number) here = w

  -- what is taken for a request

  learned_named : (front : Front) (answer : Option Answer) → FrontNamed front → FrontNamed (learns front answer)
  learned_named front answer w =
      map_each FrontNamed _ _ (option_and_then granted_in answer)
      (map_each FrontNamed _ _ (option_and_then closed_in answer) w
      (λ epoch. record { begun = w.begun; doing = w.doing }))
      (λ g. record { begun = w.begun; doing = w.doing })

  takes_goes : (accepted : IsAccepted decl) (front : Front) (doing : Doing) (t : Option Transaction) (number : ℕ)
      (answer : Option Answer)
      → FrontNamed front → BegunNamed decl t → DoingNamed doing → CameNamed decl answer
      → FrontNamed (takes_in decl front doing t number answer).front
  takes_goes accepted front doing None number answer w its does here = w
  takes_goes accepted front Idle (Some t) number answer w its does here = w
  takes_goes accepted front (Reading object inv calls round) (Some t) number answer w its does here =
      by (site_called calls number)
    where
      by : (o : Option ℕ) → FrontNamed (reading_takes decl front t object inv calls round number answer o).front
      by None = w
      by (Some site) =
          read_goes accepted (learns front answer) (learned_named front answer w)
          (read_with t site object answer) object inv (without_call calls number) (note round site (standing_of answer))
          (verdict (note round site (standing_of answer)))
          (read_named decl t site object answer its here) does
  takes_goes accepted front (Appending object inv event calls round) (Some t) number answer w its does here =
      by (site_called calls number)
    where
      by : (o : Option ℕ) → FrontNamed (appending_takes decl front t object inv event calls round number answer o).front
      by None = w
      by (Some site) =
          append_goes accepted (learns front answer) (learned_named front answer w)
          (appended_with t site answer) object inv event (without_call calls number)
          (note round site (standing_of answer)) (verdict (note round site (standing_of answer)))
          (appended_named decl t site answer its) does.0 does.1

  -- what is sent

  for_named : (t : Transaction) (doing : Doing) (site : ℕ) (want : Want) → TransactionNamed decl t
      → DoingNamed doing → IsFor decl t doing site want → WantNamed decl want
  for_named t Idle site want w does never = absurd never
  for_named t (Reading object inv calls round) site want w does is = subst (WantNamed decl) (sym is) does
  for_named t (Appending object inv event calls round) site want w does is =
      subst (WantNamed decl) (sym is) (log_named decl t object w, owns_named decl t object event w does.1)

  sent_named : (before : Front) (move : FrontMove) → FrontNamed move.front → AreSent decl before move
      → SendsNamed decl move.turn.sends
  sent_named before move w sent =
      every-from_In (λ (p : Posting). MessageNamed decl p.message) move.turn.sends
      (λ p among. one p.to p.message (sent p among))
    where
      asks : (to : ℕ) (want : Want) (t : Transaction) → move.front.transaction ≡ Some t
          → IsFor decl t move.front.doing to want → WantNamed decl want
      asks to want t begun is = for_named t move.front.doing to want (subst (BegunNamed decl) begun w.begun) w.doing is

      one : (to : ℕ) (message : Message) → IsSent decl before move.front to message → MessageNamed decl message
      one to =
          sent_cases decl before move.front to (MessageNamed decl)
          (λ tx epoch life want is. asks to want is.t is.begun is.wants) (λ tx verdict is. tt)

  pub record FrontMoveNamed (m : FrontMove) : Type 0 where
    pub front : FrontNamed m.front
    pub sends : SendsNamed decl m.turn.sends

  pub called_named : (accepted : IsAccepted decl) (front : Front) (command : Command) → FrontNamed front
      → CommandNamed decl command → FrontMoveNamed (called decl front command)
  called_named accepted front command w here =
      let next : FrontNamed (called decl front command).front = called_goes accepted front w command here in
      record {
        front = next;
        sends = sent_named front (called decl front command) next
            (called_sent decl front command);
      }

  pub takes_named : (accepted : IsAccepted decl) (front : Front) (number : ℕ) (answer : Option Answer)
      → FrontNamed front → CameNamed decl answer → FrontMoveNamed (takes decl front number answer)
  takes_named accepted front number answer w here =
      let next : FrontNamed (takes decl front number answer).front =
      takes_goes accepted front front.doing front.transaction number answer w w.begun w.doing here in
      record {
        front = next;
        sends = sent_named front (takes decl front number answer) next
            (takes_sent decl front number answer);
      }

-- A front end whose transaction is in form goes on so, and sends such messages.
use Rattle.std.proofs.Common.{◌≡◌, ℕ, ◌-◌, ◌^◌, ◌<◌, ◌≤◌, nat_le, Bool, true, false, cond, List, [], length, Option}
use Rattle.std.proofs.Common.{Some, None, refl, arith}
use Rattle.std.proofs.lemmas.Bool.{leb-false}
use Rattle.qc_decl.specs.Vocabulary.{append_need_of, most_transaction_operations, read_need_of}
use Rattle.qc_decl.specs.declared.declaration.Declaration.{Declaration}
use Rattle.qc_front.specs.declared.doing.Doing.{Doing}
use Rattle.qc_front.specs.declared.doing.Doing.TheVariants.{Idle, Reading, Appending}
use Rattle.qc_front.specs.declared.front.Front.{Front}
use Rattle.qc_front.specs.declared.transaction.Transaction.{Transaction}
use Rattle.qc_front.specs.Vocabulary.{FrontMove, aborts, answer_of, answered, append_by, begins, called, commits}
use Rattle.qc_front.specs.Vocabulary.{gives_up, moved, performs, read_by, reads, resp_of, round_for}
use Rattle.qc_msg.specs.declared.call.Call.{Call}
use Rattle.qc_msg.specs.declared.reply.Reply.TheVariants as replies
use Rattle.qc_msg.specs.declared.reply.AbortCause.TheVariants as causes
use Rattle.qc_msg.specs.declared.step.Command.{Command}
use Rattle.qc_msg.specs.declared.step.Command.TheVariants as commands
use Rattle.qc_msg.specs.Vocabulary.{quiet, telling}
use Rattle.qc_plan.specs.Vocabulary.{RoundState, verdict, wanted}
use Rattle.qc_plan.specs.declared.standing.Verdict.{Verdict}
use Rattle.qc_plan.specs.declared.standing.Verdict.TheVariants as verdicts
use Rattle.qc_record.specs.Vocabulary.{IsWithin}
use Rattle.laws_bounds.proofs.Forms.{CommandInForm, EventInForm, InvocationInForm}
use Rattle.laws_bounds.proofs.TransactionsInForm.{TransactionInForm, absent_form, asked_form, doomed_form, event_form}
use Rattle.laws_bounds.proofs.TransactionsInForm.{no_lines, weaker}

-- each answer of a view is an event in form
abbrev pub AnswersInForm : Declaration → Type 0
AnswersInForm decl = (t : Transaction) (object inv event : ℕ) → answer_of decl t object inv ≡ Some event
    → EventInForm object event (resp_of decl object event)

-- while something is waited for there is room for an operation
abbrev pub room : Doing → ℕ
room Idle = 16
room (Reading object inv calls round) = 15
room (Appending object inv event calls round) = 15

abbrev pub OptionInForm : ℕ → Doing → Option Transaction → Type 0
OptionInForm client doing None = Unit {0}
OptionInForm client doing (Some t) = TransactionInForm client (room doing) t

module _ (decl : Declaration) (client : ℕ) where
  abbrev pub DoingInForm : Doing → Type 0
  DoingInForm Idle = Unit {0}
  DoingInForm (Reading object inv calls round) = InvocationInForm object inv
  DoingInForm (Appending object inv event calls round) =
      InvocationInForm object inv × EventInForm object event (resp_of decl object event)

  pub record FrontInForm (front : Front) : Type 0 where
    pub client_is : front.client ≡ client
    pub life : IsWithin 1 (2 ^ 32 - 1) front.life
    pub begun : OptionInForm client front.doing front.transaction
    pub doing : DoingInForm front.doing

  module _ (form : AnswersInForm decl) (front : Front) (w : FrontInForm front) where
    abbrev Goes : FrontMove → Type 0
    Goes m = FrontInForm m.front

    idle : (t : Transaction) (n : ℕ) → n ≤ 16 → TransactionInForm client n t → OptionInForm client Idle (Some t)
    idle t n le its = weaker client n 16 t le its

    pub append_goes : (t : Transaction) (object inv event : ℕ) (calls : List Call) (r : RoundState) (v : Verdict)
        → TransactionInForm client 15 t → InvocationInForm object inv
        → EventInForm object event (resp_of decl object event)
        → Goes (append_by decl front t object inv event calls r v)
    append_goes t object inv event calls r verdicts.Waiting its asked here = record {
      client_is = w.client_is;
      life = w.life;
      begun = asked_form client 15 t (wanted r) its;
      doing = (asked, here);
    }
    append_goes t object inv event calls r verdicts.Met its asked here = record {
      client_is = w.client_is;
      life = w.life;
      begun = event_form client t object inv event (resp_of decl object event) its asked here;
      doing = tt;
    }
    append_goes t object inv event calls r (verdicts.Closed epoch site) its asked here = record {
      client_is = w.client_is;
      life = w.life;
      begun = doomed_form client 16 t (idle t 15 (omega arith) its);
      doing = tt;
    }
    append_goes t object inv event calls r (verdicts.Clash tx site) its asked here = record {
      client_is = w.client_is;
      life = w.life;
      begun = doomed_form client 16 t (idle t 15 (omega arith) its);
      doing = tt;
    }
    append_goes t object inv event calls r (verdicts.Short got need) its asked here = record {
      client_is = w.client_is;
      life = w.life;
      begun = doomed_form client 16 t (idle t 15 (omega arith) its);
      doing = tt;
    }

    answered_goes : (t : Transaction) (object inv : ℕ) (o : Option ℕ) → answer_of decl t object inv ≡ o
        → TransactionInForm client 15 t → InvocationInForm object inv → Goes (answered decl front t object inv o)
    answered_goes t object inv None is its asked = record {
      client_is = w.client_is;
      life = w.life;
      begun = absent_form client t object inv its asked;
      doing = tt;
    }
    answered_goes t object inv (Some event) is its asked =
        append_goes t object inv event [] (round_for decl front t (append_need_of decl t.begun.epoch object event))
        (verdict (round_for decl front t (append_need_of decl t.begun.epoch object event))) its asked
        (form t object inv event is)

    pub read_goes : (t : Transaction) (object inv : ℕ) (calls : List Call) (r : RoundState) (v : Verdict)
        → TransactionInForm client 15 t → InvocationInForm object inv
        → Goes (read_by decl front t object inv calls r v)
    read_goes t object inv calls r verdicts.Waiting its asked = record {
      client_is = w.client_is;
      life = w.life;
      begun = asked_form client 15 t (wanted r) its;
      doing = asked;
    }
    read_goes t object inv calls r verdicts.Met its asked =
        answered_goes t object inv (answer_of decl t object inv) refl its asked
    read_goes t object inv calls r (verdicts.Closed epoch site) its asked =
        record { client_is = w.client_is; life = w.life; begun = idle t 15 (omega arith) its; doing = tt }
    read_goes t object inv calls r (verdicts.Clash tx site) its asked =
        record { client_is = w.client_is; life = w.life; begun = idle t 15 (omega arith) its; doing = tt }
    read_goes t object inv calls r (verdicts.Short got need) its asked =
        record { client_is = w.client_is; life = w.life; begun = idle t 15 (omega arith) its; doing = tt }

    -- a transaction of any number of operations, with few of them
    fewer : (n : ℕ) (t : Transaction) → TransactionInForm client n t → length t.begun.ops < 16
        → TransactionInForm client 15 t
    fewer n t its few =
        record {
          begun =
              record {
                client_is = its.begun.client_is;
                ordinals = its.begun.ordinals;
                ops = its.begun.ops;
                few = omega (arith, few);
              };
          views = its.views;
          own = its.own;
        }

    performs_goes : (t : Option Transaction) (object inv : ℕ) → OptionInForm client front.doing t
        → InvocationInForm object inv → Goes (performs decl front t object inv)
    performs_goes None object inv its asked = w
    performs_goes (Some t) object inv its asked =
        by t.begun.doomed (nat_le most_transaction_operations (length t.begun.ops)) refl
      where
        by : (doomed long : Bool) → nat_le most_transaction_operations (length t.begun.ops) ≡ long
            → Goes
            (cond doomed (moved front (telling replies.Doomed))
            (cond long (moved front (telling replies.TooLong))
            (reads decl front t object inv [] (round_for decl front t (read_need_of decl t.begun.epoch object inv)))))
        by true long is = w
        by false true is = w
        by false false is =
            read_goes t object inv [] (round_for decl front t (read_need_of decl t.begun.epoch object inv))
            (verdict (round_for decl front t (read_need_of decl t.begun.epoch object inv)))
            (fewer (room front.doing) t its (leb-false most_transaction_operations (length t.begun.ops) is)) asked

    commits_goes : (t : Option Transaction) → Goes (commits front t)
    commits_goes None = w
    commits_goes (Some t) = by t.begun.doomed
      where
        by : (doomed : Bool)
            → Goes (cond doomed (gives_up front t (replies.Aborted causes.Doomed)) (moved front quiet))
        by true = record { client_is = w.client_is; life = w.life; begun = tt; doing = tt }
        by false = w

    aborts_goes : (t : Option Transaction) → Goes (aborts front t)
    aborts_goes None = w
    aborts_goes (Some t) = record { client_is = w.client_is; life = w.life; begun = tt; doing = tt }

    begins_goes : front.count < 2 ^ 32 - 1 → (t : Option Transaction) → Goes (begins decl front t)
    begins_goes low None = record {
      client_is = w.client_is;
      life = w.life;
      begun =
          record {
            begun = record {
              client_is = w.client_is;
              ordinals = record { life = w.life; number = (omega arith, omega (arith, low)) };
              ops = tt;
              few = omega arith;
            };
            views = no_lines (length decl.objects);
            own = tt;
          };
      doing = w.doing;
    }
    begins_goes low (Some t) = w

    pub called_goes : front.count < 2 ^ 32 - 1 → (command : Command) → CommandInForm command
        → Goes (called decl front command)
    called_goes low commands.Begin here = begins_goes low front.transaction
    called_goes low (commands.Do object inv) here = performs_goes front.transaction object inv w.begun here
    called_goes low commands.Commit here = commits_goes front.transaction
    called_goes low commands.Abort here = aborts_goes front.transaction
    called_goes low (commands.Epoch number) here = w

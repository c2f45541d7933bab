-- The administrator's decisions are in form, where what he takes is, and a client tells of the transaction that it was
-- asked about.
use Rattle.std.proofs.Common.{◌≡◌, ℕ, true, List, [], ◌∷◌, ◌++◌, Option, Some, subst}
use Rattle.std.specs.Prelude.{option_to_list, MatchOption}
use Rattle.std.specs.List.{AllByRecursion as Every}
use Rattle.qc_list.specs.Vocabulary.{In}
use Rattle.qc_list.proofs.Members.{every-append, every-weaker}
use Rattle.qc_decl.specs.declared.declaration.Declaration.{Declaration}
use Rattle.qc_entry.proofs.Union.{ascending-union, every-union}
use Rattle.qc_epoch.specs.Vocabulary.{Admin, AdminMove, Question, admin_takes, is_number, outcome_in, sent_one}
use Rattle.qc_msg.specs.declared.message.Answer.{Answer}
use Rattle.qc_msg.specs.declared.message.Message.{Message}
use Rattle.qc_msg.specs.declared.message.Outcome.{Outcome}
use Rattle.qc_msg.specs.declared.record.Record.{Record}
use Rattle.qc_msg.specs.declared.record.Record.TheVariants as records
use Rattle.qc_msg.specs.declared.step.Input.{Input}
use Rattle.qc_msg.specs.declared.step.Input.TheVariants as inputs
use Rattle.qc_msg.specs.declared.turn.Posting.{Posting}
use Rattle.qc_record.specs.Vocabulary.{IsWithin}
use Rattle.qc_recover.specs.Vocabulary.{admin_of}
use Rattle.qc_site.proofs.Sorted.{ascending-stamped}
use Rattle.qc_stamp.proofs.Orders.{same_tx_is}
use Rattle.qc_stamp.specs.declared.stamp.TxId.{TxId}
use Rattle.laws_bounds.specs.Vocabulary.{AdminKeeps, AnyNumber, ToldKeeps}
use Rattle.laws_bounds.proofs.AdminKeeps.{RecordKeeps, admin_keeps, admin_risen_keeps, admin_sends_keep}
use Rattle.laws_bounds.proofs.AdminProperties.{AdminMoveKeeps, GivenKeeps, Keeping, Properties, SendKeeps, ShutCame}
use Rattle.laws_bounds.proofs.AdminProperties.{WriteKeeps}
use Rattle.laws_bounds.proofs.AdminQuestions.{questions_in}
use Rattle.laws_bounds.proofs.Forms.{CameInForm, LineInForm, LinesInForm, MessageInForm, PromiseInForm, RecordInForm}
use Rattle.laws_bounds.proofs.Forms.{SendsInForm, TakenInForm, VerdictInForm, WriteInForm}
use Rattle.laws_bounds.proofs.HeldInForm.{lines_form}
use Rattle.qc_msg.specs.Vocabulary.{Answered, answer_in}
use Rattle.laws_bounds.proofs.AdminCases.{given_cases, record_cases, send_cases, shut_keeps, write_cases}

abbrev AnyClock : ℕ → Type 0
AnyClock clock = Unit {0}

abbrev IsEpoch : ℕ → Type 0
IsEpoch epoch = IsWithin 1 8 epoch

-- what it is to be in form
abbrev properties : Properties
properties = record {
  Clock = AnyClock;
  Lines = LinesInForm;
  Promise = PromiseInForm;
  Verdict = VerdictInForm;
  Epoch = IsEpoch;
  Number = AnyNumber;
}

abbrev pub AdminInForm : Admin → Type 0
AdminInForm m = AdminKeeps AnyClock LinesInForm PromiseInForm VerdictInForm IsEpoch AnyNumber m

keeping : Keeping AnyClock LinesInForm PromiseInForm VerdictInForm
keeping = record {
  first = tt;
  later = λ x y here there. tt;
  stamped = λ tx stamp here. tt;
  none = record { each_is = tt; ascend = tt };
  both = λ xs ys here there. record {
    each_is = every-union LineInForm xs ys here.each_is there.each_is;
    ascend = ascending-union xs ys here.ascend there.ascend;
  };
  promised = λ p stamp has here. record {
    each_is = lines_form stamp p.tx p.own here has.tx has.own;
    ascend = ascending-stamped stamp p.tx [] p.own tt;
  };
  agree = λ t u verdict same here. subst (λ (v : TxId). VerdictInForm v verdict) (same_tx_is t u same) here;
}

-- what he takes: what a client tells is of the transaction that it was asked about

abbrev pub ToldForm : TxId → Option Outcome → Type 0
ToldForm tx told = ToldKeeps AnyClock LinesInForm PromiseInForm VerdictInForm IsEpoch AnyNumber tx told

abbrev pub IsToldIn : Admin → ℕ → Option Answer → Type 0
IsToldIn m number answer =
    (q : Question) → In q (questions_in m.doing)
    → is_number number q.number ≡ true
    → ToldForm q.tx (outcome_in answer)

abbrev pub MessageToldIn : Admin → Message → Type 0
MessageToldIn m message = MatchOption (answer_in message) (Unit {0}) (λ (a : Answered). IsToldIn m a.to (Some a.answer))

abbrev pub GivenToldIn : Admin → Input → Type 0
GivenToldIn m (inputs.Called command) = Unit {0}
GivenToldIn m (inputs.Got e) = MessageToldIn m e.message
GivenToldIn m (inputs.Lost number) = Unit {0}

shut_came : (answer : Option Answer) → CameInForm answer → ShutCame properties answer
shut_came = shut_keeps properties CameInForm (λ clock log prepared here. (tt, here.0, here.1))

given_keeps : (m : Admin) (g : Input) → TakenInForm g → GivenToldIn m g → GivenKeeps properties m g
given_keeps m g here told =
    given_cases properties m
    (λ (g : Input). TakenInForm g × GivenToldIn m g) (λ number is. is.0)
    (λ e to answer is. record { shut = shut_came (Some answer) is.0; told = is.1 }) g (here, told)

-- what he sends and writes

send_form : (message : Message) → SendKeeps properties message → MessageInForm message
send_form =
    send_cases properties MessageInForm (λ tx keeps. tt) (λ epoch keeps. keeps)
    (λ epoch clock lines keeps. record { epoch_is = keeps.epoch_is; lines_are = keeps.lines_are })

write_form : (write : Option Record) → WriteKeeps properties write → Every WriteInForm (option_to_list write)
write_form =
    write_cases properties (λ (write : Option Record). Every WriteInForm (option_to_list write)) tt
    (λ epoch clock lines keeps. ((record { epoch_is = keeps.0.epoch_is; lines_are = keeps.0.lines_are }, keeps.1), tt))

pub record AdminMoveInForm (move : AdminMove) : Type 0 where
  pub admin : AdminInForm move.admin
  pub sends : SendsInForm move.turn.sends
  pub write : Every WriteInForm (option_to_list move.turn.write)

pub admin_takes_form : (decl : Declaration) (m : Admin) (g : Input) → AdminInForm m → TakenInForm g → GivenToldIn m g
    → AdminMoveInForm (admin_takes decl m g)
admin_takes_form decl m g w here told = record {
  admin = on.admin;
  sends =
      every-weaker (λ (p : Posting). SendKeeps properties p.message)
      (λ (p : Posting). MessageInForm p.message) (λ p keeps. send_form p.message keeps)
      (admin_takes decl m g).turn.sends
      on.sends;
  write = write_form (admin_takes decl m g).turn.write on.write;
} where
  on : AdminMoveKeeps properties (admin_takes decl m g)
  on = admin_keeps properties keeping decl m w g (given_keeps m g here told)

pub admin_sends_form : (m : Admin) (number to : ℕ) (message : Message) → AdminInForm m
    → AdminInForm (sent_one m number to message)
admin_sends_form m number to message w = admin_sends_keep properties m number to message (λ u is. tt) w

-- as he rises

record_keeps : (r : Record) → RecordInForm r → RecordKeeps properties r
record_keeps =
    record_cases properties RecordInForm
    (λ epoch clock lines here. record { epoch_is = here.epoch_is; clock_is = tt; lines_are = here.lines_are })

pub admin_risen_form : (rs : List Record) → Every RecordInForm rs → AdminInForm (admin_of (rs ++ records.Life ∷ []))
admin_risen_form rs all =
    admin_risen_keeps properties (rs ++ records.Life ∷ [])
    (every-append (RecordKeeps properties) rs (records.Life ∷ [])
    (every-weaker RecordInForm (RecordKeeps properties) record_keeps rs all) (tt, tt))

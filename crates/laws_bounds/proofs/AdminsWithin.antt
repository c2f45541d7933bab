-- What the administrator becomes, sends and writes for one input stays within a bound that what he takes keeps to.
use Rattle.std.proofs.Common.{ℕ, ◌≤◌, List, [], ◌∷◌, Option, Some, None, sym, subst, arith}
use Rattle.std.specs.Prelude.{option_to_list}
use Rattle.std.specs.List.{AllByRecursion as Every}
use Rattle.qc_list.proofs.Members.{every-weaker}
use Rattle.laws_bounds.specs.AdminParts as parts
use Rattle.laws_bounds.specs.Vocabulary.{AdminWithin, AnyEpoch, AnyNumber, AreWithin, ClockWithin, DecidedWithin}
use Rattle.laws_bounds.specs.Vocabulary.{PromiseWithin, TurnWithin, VerdictWithin}
use Rattle.laws_bounds.proofs.AdminKeeps.{admin_keeps, admin_sends_keep}
use Rattle.laws_bounds.proofs.AdminProperties.{AdminMoveKeeps, CameKeeps, GivenKeeps, Keeping, Properties, SendKeeps}
use Rattle.laws_bounds.proofs.AdminProperties.{ShutCame, WriteKeeps}
use Rattle.laws_bounds.proofs.RisenWithin.{stamped_within}
use Rattle.qc_core.proofs.AdminWrites.{admin_written}
use Rattle.qc_decl.specs.declared.declaration.Declaration.{Declaration}
use Rattle.qc_entry.specs.declared.line.Line.{Line}
use Rattle.qc_entry.proofs.Union.{every-union}
use Rattle.qc_epoch.specs.Vocabulary.{Admin, AdminMove, Asking, Closing, Doing, Installing, Question, Resting}
use Rattle.qc_msg.specs.declared.payload.EpochStart.{EpochStart}
use Rattle.qc_epoch.specs.Vocabulary.{ShutSite, admin_takes, outcome_in, sent_one}
use Rattle.laws_turns.proofs.Greater.{lines-le, promises-le}
use Rattle.laws_turns.specs.Vocabulary.{AnswerWithin, GivenWithin, LinesWithin, MessageWithin, OutcomeWithin}
use Rattle.laws_turns.specs.Vocabulary.{SendsWithin}
use Rattle.qc_msg.specs.declared.message.Answer.{Answer}
use Rattle.qc_msg.specs.declared.message.Message.{Message}
use Rattle.qc_msg.specs.declared.message.Outcome.{Outcome}
use Rattle.qc_msg.specs.declared.message.Outcome.TheVariants.{Committed, Aborted, Active}
use Rattle.qc_msg.specs.declared.record.Record.{Record}
use Rattle.qc_msg.specs.declared.step.Input.{Input}
use Rattle.qc_msg.specs.declared.turn.Posting.{Posting}
use Rattle.qc_stamp.specs.declared.stamp.TxId.{TxId}
use Rattle.laws_bounds.proofs.AdminCases.{given_cases, send_cases, shut_keeps, write_cases}
use Rattle.laws_bounds.proofs.Cases.{outcome_cases}

-- a greater bound

module _ (low high : ℕ) (le : low ≤ high) where
  shut_le : (s : ShutSite) → parts.ShutKeeps (ClockWithin low) (LinesWithin low) (PromiseWithin low)
      (VerdictWithin low) AnyEpoch AnyNumber s
      → parts.ShutKeeps (ClockWithin high) (LinesWithin high) (PromiseWithin high)
      (VerdictWithin high) AnyEpoch AnyNumber s
  shut_le s w = record {
    clock = (let c : s.clock ≤ low = w.clock in omega arith);
    log = lines-le low high le s.log w.log;
    prepared = promises-le low high le s.prepared w.prepared;
  }

  shuts_le : (shuts : List ShutSite) → parts.ShutsKeep (ClockWithin low) (LinesWithin low) (PromiseWithin low)
      (VerdictWithin low) AnyEpoch AnyNumber shuts
      → parts.ShutsKeep (ClockWithin high) (LinesWithin high) (PromiseWithin high)
      (VerdictWithin high) AnyEpoch AnyNumber shuts
  shuts_le =
      every-weaker (parts.ShutKeeps (ClockWithin low) (LinesWithin low) (PromiseWithin low)
      (VerdictWithin low) AnyEpoch AnyNumber) (parts.ShutKeeps (ClockWithin high) (LinesWithin high)
      (PromiseWithin high) (VerdictWithin high) AnyEpoch AnyNumber) shut_le

  outcome_le : (verdict : Outcome) → OutcomeWithin low verdict → OutcomeWithin high verdict
  outcome_le (Committed stamp) here = (let c : stamp.clock ≤ low = here in omega arith)
  outcome_le Aborted here = tt
  outcome_le Active here = tt

  taken_le : (tx : TxId) (taken : Option (Option Outcome))
      → parts.TakenKeeps (ClockWithin low) (LinesWithin low) (PromiseWithin low)
      (VerdictWithin low) AnyEpoch AnyNumber tx taken
      → parts.TakenKeeps (ClockWithin high) (LinesWithin high) (PromiseWithin high)
      (VerdictWithin high) AnyEpoch AnyNumber tx taken
  taken_le tx None here = tt
  taken_le tx (Some None) here = tt
  taken_le tx (Some (Some verdict)) here = outcome_le verdict here

  questions_le : (qs : List Question) → parts.QuestionsKeep (ClockWithin low) (LinesWithin low) (PromiseWithin low)
      (VerdictWithin low) AnyEpoch AnyNumber qs
      → parts.QuestionsKeep (ClockWithin high) (LinesWithin high) (PromiseWithin high)
      (VerdictWithin high) AnyEpoch AnyNumber qs
  questions_le =
      every-weaker (parts.QuestionKeeps (ClockWithin low) (LinesWithin low) (PromiseWithin low)
      (VerdictWithin low) AnyEpoch AnyNumber) (parts.QuestionKeeps (ClockWithin high) (LinesWithin high)
      (PromiseWithin high) (VerdictWithin high) AnyEpoch AnyNumber)
      (λ q here. (taken_le q.tx q.taken here.0, here.1))

  decided_le : (o : Option EpochStart) → DecidedWithin low o → DecidedWithin high o
  decided_le None here = tt
  decided_le (Some d) here = record {
    epoch_is = tt;
    clock_is = (let c : d.clock ≤ low = here.clock_is in omega arith);
    lines_are = lines-le low high le d.lines here.lines_are;
  }

  doing_le : (d : Doing) → parts.DoingKeeps (ClockWithin low) (LinesWithin low) (PromiseWithin low)
      (VerdictWithin low) AnyEpoch AnyNumber d
      → parts.DoingKeeps (ClockWithin high) (LinesWithin high) (PromiseWithin high)
      (VerdictWithin high) AnyEpoch AnyNumber d
  doing_le Resting here = tt
  doing_le (Closing epoch calls round shuts) here = (tt, shuts_le shuts here.1)
  doing_le (Asking epoch shuts questions) here = (tt, shuts_le shuts here.1, questions_le questions here.2)
  doing_le (Installing closed awaits calls installed) here = tt

  pub admin_le : (m : Admin) → AdminWithin low m → AdminWithin high m
  admin_le m w = record { decided = decided_le m.decided w.decided; doing = doing_le m.doing w.doing }

module _ (bound : ℕ) where
  -- what it is to be within a bound
  abbrev properties : Properties
  properties = record {
    Clock = ClockWithin bound;
    Lines = LinesWithin bound;
    Promise = PromiseWithin bound;
    Verdict = VerdictWithin bound;
    Epoch = AnyEpoch;
    Number = AnyNumber;
  }

  keeping : Keeping (ClockWithin bound) (LinesWithin bound) (PromiseWithin bound) (VerdictWithin bound)
  keeping = record {
    first = omega arith;
    later = λ x y here there. omega arith;
    stamped = λ tx stamp here. here;
    none = tt;
    both = λ xs ys here there. every-union (λ (l : Line). l.stamp.clock ≤ bound) xs ys here there;
    promised = λ p stamp has here. stamped_within bound stamp p.tx [] p.own here tt;
    agree = λ t u verdict same here. here;
  }

  -- what he takes

  abbrev CameWithin : Option Answer → Type 0
  CameWithin None = Unit {0}
  CameWithin (Some answer) = AnswerWithin bound answer

  shut_came : (answer : Option Answer) → CameWithin answer → ShutCame properties answer
  shut_came = shut_keeps properties CameWithin (λ clock log prepared here. (here.0, here.1, here.2))

  told : (tx : TxId) (answer : Option Answer) → CameWithin answer
      → parts.ToldKeeps (ClockWithin bound) (LinesWithin bound) (PromiseWithin bound)
      (VerdictWithin bound) AnyEpoch AnyNumber tx (outcome_in answer)
  told tx =
      outcome_cases CameWithin (λ (o : Option Outcome). parts.ToldKeeps (ClockWithin bound) (LinesWithin bound)
      (PromiseWithin bound) (VerdictWithin bound) AnyEpoch AnyNumber tx o) tt (λ verdict here. here)

  came : (m : Admin) (number : ℕ) (answer : Option Answer) → CameWithin answer
      → CameKeeps properties m number answer
  came m number answer here = record { shut = shut_came answer here; told = λ q among is. told q.tx answer here }

  given_keeps : (m : Admin) (g : Input) → GivenWithin bound g → GivenKeeps properties m g
  given_keeps m =
      given_cases properties
      m (GivenWithin bound) (λ number here. tt) (λ e to answer here. came m to (Some answer) here)

  -- what he sends and writes

  send_within : (message : Message) → SendKeeps properties message → MessageWithin bound message
  send_within =
      send_cases properties (MessageWithin bound) (λ tx keeps. tt) (λ epoch keeps. tt)
      (λ epoch clock lines keeps. (keeps.clock_is, keeps.lines_are))

  sends_within : (ps : List Posting) → Every
      (λ (p : Posting). SendKeeps properties p.message) ps → SendsWithin bound ps
  sends_within [] all = tt
  sends_within (p ∷ ps) all = (send_within p.message all.0, sends_within ps all.1)

  write_within : (write : Option Record) → WriteKeeps properties write → AreWithin bound (option_to_list write)
  write_within =
      write_cases properties (λ (write : Option Record). AreWithin bound (option_to_list write)) tt
      (λ epoch clock lines keeps. ((keeps.0.clock_is, keeps.0.lines_are), tt))

pub record AdminMoveWithin (bound : ℕ) (move : AdminMove) : Type 0 where
  pub admin : AdminWithin bound move.admin
  pub turn : TurnWithin bound move.turn

pub admin_takes_within : (bound : ℕ) (decl : Declaration) (m : Admin) → AdminWithin bound m → (g : Input)
    → GivenWithin bound g
    → AdminMoveWithin bound (admin_takes decl m g)
admin_takes_within bound decl m w g here = record {
  admin = on.admin;
  turn = record {
    sends = sends_within bound (admin_takes decl m g).turn.sends on.sends;
    failed_sends = subst (SendsWithin bound) (sym (admin_written decl m g).failed_sends) tt;
    write = write_within bound (admin_takes decl m g).turn.write on.write;
  };
} where
  on : AdminMoveKeeps (properties bound) (admin_takes decl m g)
  on = admin_keeps (properties bound) (keeping bound) decl m w g (given_keeps bound m g here)

pub admin_sends_within : (bound : ℕ) (m : Admin) (number to : ℕ) (message : Message) → AdminWithin bound m
    → AdminWithin bound (sent_one m number to message)
admin_sends_within bound m number to message w =
    admin_sends_keep (properties bound) m number to message (λ u is. tt) w

-- The administrator names declared things, and epochs with plans, where what he takes does.
use Rattle.std.proofs.Common.{◌≡◌, ◌<◌, ℕ, List, [], ◌∷◌, ◌++◌, Option, Some, None, subst}
use Rattle.std.specs.Prelude.{option_to_list}
use Rattle.qc_list.proofs.Members.{every-append, every-weaker}
use Rattle.qc_decl.specs.Vocabulary.{administrator}
use Rattle.qc_decl.specs.declared.declaration.Declaration.{Declaration}
use Rattle.qc_entry.proofs.Union.{every-union}
use Rattle.qc_epoch.specs.Vocabulary.{Admin, AdminMove, admin_takes, sent_one}
use Rattle.qc_fit.specs.Vocabulary.{HasPlan}
use Rattle.qc_msg.specs.declared.message.Answer.{Answer}
use Rattle.qc_msg.specs.declared.message.Message.{Message}
use Rattle.qc_msg.specs.declared.message.Outcome.{Outcome}
use Rattle.qc_msg.specs.declared.record.Record.{Record}
use Rattle.qc_msg.specs.declared.record.Record.TheVariants as records
use Rattle.qc_msg.specs.declared.step.Input.{Input}
use Rattle.qc_msg.specs.declared.turn.Posting.{Posting}
use Rattle.qc_recover.specs.Vocabulary.{admin_of}
use Rattle.qc_stamp.specs.declared.stamp.TxId.{TxId}
use Rattle.laws_bounds.specs.Vocabulary.{AdminKeeps, AnyNumber, ToldKeeps}
use Rattle.laws_bounds.proofs.AdminKeeps.{RecordKeeps, admin_keeps, admin_risen_keeps, admin_sends_keep}
use Rattle.laws_bounds.proofs.AdminProperties.{AdminMoveKeeps, CameKeeps, GivenKeeps, Keeping, Properties, SendKeeps}
use Rattle.laws_bounds.proofs.AdminProperties.{ShutCame, WriteKeeps}
use Rattle.laws_bounds.proofs.HeldNamed.{lines_named}
use Rattle.laws_bounds.proofs.Names.{AreNamed, CameNamed, GivenNamed, LineNamed, LinesNamed, MessageNamed}
use Rattle.laws_bounds.proofs.Names.{PromiseNamed, RecordNamed, SendsNamed}
use Rattle.laws_bounds.proofs.AdminCases.{given_cases, record_cases, send_cases, shut_keeps, write_cases}

module _ (decl : Declaration) where
  abbrev AnyClock : ℕ → Type 0
  AnyClock clock = Unit {0}

  abbrev AnyVerdict : TxId → Outcome → Type 0
  AnyVerdict tx verdict = Unit {0}

  -- what it is to name what is declared
  abbrev properties : Properties
  properties = record {
    Clock = AnyClock;
    Lines = LinesNamed decl;
    Promise = PromiseNamed decl;
    Verdict = AnyVerdict;
    Epoch = HasPlan decl;
    Number = AnyNumber;
  }

  abbrev pub AdminNamed : Admin → Type 0
  AdminNamed m = AdminKeeps AnyClock (LinesNamed decl) (PromiseNamed decl) AnyVerdict (HasPlan decl) AnyNumber m

  keeping : Keeping AnyClock (LinesNamed decl) (PromiseNamed decl) AnyVerdict
  keeping = record {
    first = tt;
    later = λ x y here there. tt;
    stamped = λ tx stamp here. tt;
    none = tt;
    both = λ xs ys here there. every-union (LineNamed decl) xs ys here there;
    promised = λ p stamp has here. lines_named decl stamp p.tx p.own has.client has.own;
    agree = λ t u verdict same here. tt;
  }

  -- what he takes

  shut_came : (answer : Option Answer) → CameNamed decl answer → ShutCame properties answer
  shut_came = shut_keeps properties (CameNamed decl) (λ clock log prepared here. (tt, here.0, here.1))

  any_told : (tx : TxId) (told : Option Outcome)
      → ToldKeeps AnyClock (LinesNamed decl) (PromiseNamed decl) AnyVerdict (HasPlan decl) AnyNumber tx told
  any_told tx None = tt
  any_told tx (Some verdict) = tt

  came : (m : Admin) (number : ℕ) (answer : Option Answer) → CameNamed decl answer
      → CameKeeps properties m number answer
  came m number answer here = record { shut = shut_came answer here; told = λ q among is. any_told q.tx _ }

  given_keeps : (m : Admin) (g : Input) → GivenNamed decl g → GivenKeeps properties m g
  given_keeps m =
      given_cases properties m (GivenNamed decl)
      (λ number here. here) (λ e to answer here. came m to (Some answer) here)

  -- what he sends and writes

  send_named : (message : Message) → SendKeeps properties message → MessageNamed decl message
  send_named =
      send_cases properties (MessageNamed decl)
      (λ tx keeps. subst (λ (t : TxId). t.client < decl.clients) keeps.1.0 keeps.1.1.client) (λ epoch keeps. keeps)
      (λ epoch clock lines keeps. (keeps.epoch_is, keeps.lines_are))

  write_named : (a : ℕ) (write : Option Record) → a ≡ administrator decl → WriteKeeps properties write
      → AreNamed decl a (option_to_list write)
  write_named a write is =
      write_cases properties
      (λ (write : Option Record). AreNamed decl a (option_to_list write)) tt
      (λ epoch clock lines keeps. ((is, keeps.0.epoch_is, keeps.0.lines_are), tt)) write

  pub record AdminMoveNamed (a : ℕ) (move : AdminMove) : Type 0 where
    pub admin : AdminNamed move.admin
    pub sends : SendsNamed decl move.turn.sends
    pub write : a ≡ administrator decl → AreNamed decl a (option_to_list move.turn.write)

  pub admin_takes_named : (a : ℕ) (m : Admin) (g : Input) → AdminNamed m → GivenNamed decl g
      → AdminMoveNamed a (admin_takes decl m g)
  admin_takes_named a m g w here = record {
    admin = on.admin;
    sends =
        every-weaker (λ (p : Posting). SendKeeps properties p.message)
        (λ (p : Posting). MessageNamed decl p.message) (λ p keeps. send_named p.message keeps)
        (admin_takes decl m g).turn.sends on.sends;
    write = λ is. write_named a (admin_takes decl m g).turn.write is on.write;
  } where
    on : AdminMoveKeeps properties (admin_takes decl m g)
    on = admin_keeps properties keeping decl m w g (given_keeps m g here)

  pub admin_sends_named : (m : Admin) (number to : ℕ) (message : Message) → AdminNamed m
      → AdminNamed (sent_one m number to message)
  admin_sends_named m number to message w = admin_sends_keep properties m number to message (λ u is. tt) w

  -- as he rises

  record_keeps : (a : ℕ) (r : Record) → RecordNamed decl a r → RecordKeeps properties r
  record_keeps a =
      record_cases properties (RecordNamed decl a)
      (λ epoch clock lines here. record { epoch_is = here.1; clock_is = tt; lines_are = here.2 })

  pub admin_risen_named : (a : ℕ) (rs : List Record) → AreNamed decl a rs
      → AdminNamed (admin_of (rs ++ records.Life ∷ []))
  admin_risen_named a rs all =
      admin_risen_keeps properties (rs ++ records.Life ∷ [])
      (every-append (RecordKeeps properties) rs (records.Life ∷ [])
      (every-weaker (RecordNamed decl a) (RecordKeeps properties) (record_keeps a) rs all) (tt, tt))

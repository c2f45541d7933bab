-- The administrator agrees with what the machine says that was told and decided.
use Rattle.std.specs.Prelude.{◌≡◌, ℕ, suc, nat_le, Bool, false, IsTrue, List, Option, Some, None}
use Rattle.qc_stamp.specs.declared.stamp.TxId.{TxId}
use Rattle.qc_list.specs.Vocabulary.{In}
use Rattle.qc_entry.specs.declared.record.Prepared.{Prepared}
use Rattle.qc_plan.specs.declared.plan.Plan.{Plan}
use Rattle.qc_plan.specs.declared.standing.Asked.{Asked}
use Rattle.qc_plan.specs.declared.standing.Standing.TheVariants as standings
use Rattle.qc_plan.specs.Vocabulary.{Closes as Closing, RoundState, weight}
use Rattle.qc_decl.specs.declared.declaration.Declaration.{Declaration}
use Rattle.qc_decl.specs.Vocabulary.{client_actor, most_record_bytes, plan_in}
use Rattle.qc_msg.specs.Vocabulary.{epoch_length}
use Rattle.qc_msg.specs.declared.call.Call.{Call}
use Rattle.qc_msg.specs.declared.message.Envelope.{Envelope}
use Rattle.qc_msg.specs.declared.message.Message.TheVariants as messages
use Rattle.qc_msg.specs.declared.message.Outcome.{Outcome}
use Rattle.qc_entry.specs.declared.line.Line.{Line}
use Rattle.qc_entry.specs.Vocabulary.{IsAscending}
use Rattle.qc_msg.specs.declared.record.Record.{Record}
use Rattle.qc_msg.specs.declared.record.Record.TheVariants as records
use Rattle.theory_machine.specs.Vocabulary.{Decision, MayDecide, NotBegun, State}
use Rattle.qc_recover.specs.Vocabulary.{epoch_by}
use Rattle.qc_epoch.specs.Vocabulary.{Admin, Asking, Doing, Installing, Question, Resting, ShutSite}
use Rattle.qc_msg.specs.declared.payload.EpochStart.{EpochStart}
use Rattle.qc_epoch.specs.Vocabulary.{close_need}
use Rattle.qc_epoch.specs.Admin as admins
use Rattle.laws_refinement.specs.Messages.{IsMessage, IsSnapshot, IsVerdictBacked}
use Rattle.laws_refinement.specs.Sites.{IsDecided, IsPlanned}

-- each site that told is a snapshot of the machine
abbrev pub AreSnapshots : Declaration → State → ℕ → List ShutSite → Type 0
AreSnapshots decl now k shuts =
    (s : ShutSite) → In s shuts → IsSnapshot decl now s.site k s.clock s.log s.prepared

-- a site that counts as closed has told
abbrev pub HasTold : List ShutSite → ℕ → Type 0
HasTold shuts site = (s : ShutSite) × In s shuts × (s.site ≡ site)

-- the round that closes an epoch
pub record RoundMirrors (decl : Declaration) (epoch : ℕ) (round : RoundState) (shuts : List ShutSite) : Type 0 where
  pub plan : Plan
  pub planned : plan_in decl epoch ≡ Some plan
  pub weights : round.weights ≡ plan.weights
  pub need : round.need ≡ close_need plan
  pub granted : (a : Asked) → In a round.asked → a.standing ≡ Some standings.Granted → HasTold shuts a.site

-- the sites that told close an epoch
pub record AreEnough (decl : Declaration) (epoch : ℕ) (shuts : List ShutSite) : Type 0 where
  pub plan : Plan
  pub planned : plan_in decl epoch ≡ Some plan
  pub sites : ℕ → Bool
  pub closes : Closing plan (weight sites plan.weights)
  pub each : (site : ℕ) → IsTrue (sites site) → HasTold shuts site

-- each promised transaction is asked about
abbrev pub IsCovered : List ShutSite → List Question → Type 0
IsCovered shuts questions = (s : ShutSite) (p : Prepared) → In s shuts → In p s.prepared
    → (q : Question) × In q questions × (q.tx ≡ p.tx)

-- what was taken for a question was told of its transaction
abbrev pub IsTaken : State → TxId → Option (Option Outcome) → Type 0
IsTaken now tx None = Unit {0}
IsTaken now tx (Some None) = Unit {0}
IsTaken now tx (Some (Some verdict)) = IsVerdictBacked now tx verdict

abbrev pub IsNumbered : Declaration → List Envelope → TxId → Option ℕ → Type 0
IsNumbered decl mail tx None = Unit {0}
IsNumbered decl mail tx (Some number) = IsMessage mail number (client_actor decl tx.client) (messages.Ask tx)

pub record QuestionMirrors (decl : Declaration) (now : State) (mail : List Envelope) (q : Question) : Type 0 where
  pub begun : now.status q.tx ≡ NotBegun → ⊥
  pub numbered : IsNumbered decl mail q.tx q.number
  pub taken : IsTaken now q.tx q.taken

abbrev pub DoingMirrors : Declaration → State → List Envelope → ℕ → Doing → Type 0
DoingMirrors decl now mail epoch Resting = Unit {0}
DoingMirrors decl now mail epoch (admins.Closing k calls round shuts) = (k ≡ suc epoch) × IsPlanned decl k
    × ((c : Call) → In c calls → IsMessage mail c.number c.site (messages.Close k))
    × RoundMirrors decl epoch round shuts × AreSnapshots decl now k shuts
DoingMirrors decl now mail epoch (Asking k shuts questions) = (k ≡ suc epoch) × IsPlanned decl k
    × AreEnough decl epoch shuts × AreSnapshots decl now k shuts × IsCovered shuts questions
    × ((q : Question) → In q questions → QuestionMirrors decl now mail q)
DoingMirrors decl now mail epoch (Installing closed awaited calls installed) = Unit {0}

abbrev pub DecidedMirrors : Declaration → State → ℕ → Option EpochStart → Type 0
DecidedMirrors decl now epoch None = Unit {0}
DecidedMirrors decl now epoch (Some d) = (d.epoch ≡ epoch) × IsDecided decl now d.epoch d.clock d.lines

pub record AdminMirrors (decl : Declaration) (now : State) (mail : List Envelope) (m : Admin) : Type 0 where
  pub planned : IsPlanned decl m.epoch
  pub decided : DecidedMirrors decl now m.epoch m.decided
  pub doing : DoingMirrors decl now mail m.epoch m.doing

-- what his records give was decided
pub record RulesMirror (decl : Declaration) (now : State) (k : Option EpochStart) : Type 0 where
  pub planned : IsPlanned decl (epoch_by k)
  pub decided : DecidedMirrors decl now (epoch_by k) k

-- a decision that may stand or not: were it written, the machine would decide it
pub record IsDeciding (decl : Declaration) (now : State) (epoch clock : ℕ) (lines : List Line) : Type 0 where
  pub decision : Decision
  pub may : MayDecide decl now decision
  pub epoch_is : decision.epoch ≡ epoch
  pub clock_is : decision.clock ≡ clock
  pub log_is : decision.log ≡ lines
  pub sorted : IsAscending lines
  pub planned : IsPlanned decl epoch

-- one that may be made, and is too long for a record
pub record IsTooLong (decl : Declaration) (now : State) : Type 0 where
  pub decision : Decision
  pub may : MayDecide decl now decision
  pub sorted : IsAscending decision.log
  pub long : nat_le (epoch_length decision.log) most_record_bytes ≡ false

abbrev pub IsPendingRule : Declaration → State → Option Record → Type 0
IsPendingRule decl now None = Unit {0}
IsPendingRule decl now (Some records.Life) = Unit {0}
IsPendingRule decl now (Some (records.Prepare p)) = ⊥
IsPendingRule decl now (Some (records.Done tx clock)) = ⊥
IsPendingRule decl now (Some (records.Close epoch)) = ⊥
IsPendingRule decl now (Some (records.Install start)) = ⊥
IsPendingRule decl now (Some (records.Commit r)) = ⊥
IsPendingRule decl now (Some (records.Decide start)) = IsDeciding decl now start.epoch start.clock start.lines

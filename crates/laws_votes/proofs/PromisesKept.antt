-- What a site keeps of its promises: their locks are held, and its clock has passed its Dones.
use Rattle.std.proofs.Common.{◌≤◌, max, ℕ, List, [], ◌∷◌, Option, Some, None, arith}
use Rattle.qc_entry.specs.declared.line.Line.{Line}
use Rattle.qc_entry.specs.declared.line.ReadLock.{ReadLock}
use Rattle.qc_entry.specs.declared.record.Prepared.{Prepared}
use Rattle.qc_list.specs.Vocabulary.{In}
use Rattle.qc_lock.specs.Vocabulary.{held_of}
use Rattle.qc_msg.specs.declared.message.Message.{Message}
use Rattle.qc_msg.specs.declared.message.Message.TheVariants as messages
use Rattle.qc_msg.specs.declared.message.Outcome.{Outcome}
use Rattle.qc_msg.specs.declared.message.Outcome.TheVariants as outcomes
use Rattle.qc_msg.specs.declared.message.Want.{Want}
use Rattle.qc_msg.specs.declared.message.Want.TheVariants.{Append, Prepare, Read}
use Rattle.qc_msg.specs.declared.record.Record.{Record}
use Rattle.qc_msg.specs.declared.record.Record.TheVariants as records
use Rattle.qc_site.specs.Vocabulary.{SiteMove, SiteState, clock_after, clock_asked, clock_told, latest}
use Rattle.qc_stamp.specs.declared.stamp.TxId.{TxId}

-- the locks of each promise are held
abbrev pub HoldsLocks : SiteState → Type 0
HoldsLocks s = (p : Prepared) → In p s.prepared → (l : ReadLock) → In l p.locks → In l (held_of s.held p.tx).locks

-- the clock has passed each Done among these records
abbrev pub PassesDones : List Record → ℕ → Type 0
PassesDones rs clock = (tx : TxId) (done : ℕ) → In (records.Done tx done) rs → done ≤ clock

pub record Keeps (rs : List Record) (s : SiteState) : Type 0 where
  pub locks : HoldsLocks s
  pub dones : PassesDones rs s.clock

-- what a turn writes is passed too

abbrev pub IsPassed : Record → ℕ → Type 0
IsPassed records.Life clock = Unit {0}
IsPassed (records.Prepare p) clock = Unit {0}
IsPassed (records.Done tx done) clock = done ≤ clock
IsPassed (records.Close epoch) clock = Unit {0}
IsPassed (records.Install start) clock = Unit {0}
IsPassed (records.Commit commit) clock = Unit {0}
IsPassed (records.Decide start) clock = Unit {0}

abbrev pub WritePasses : Option Record → ℕ → Type 0
WritePasses None clock = Unit {0}
WritePasses (Some r) clock = IsPassed r clock

pub record MoveKeeps (before : SiteState) (move : SiteMove) : Type 0 where
  pub locks : HoldsLocks move.site
  pub rises : before.clock ≤ move.site.clock
  pub writes : WritePasses move.turn.write move.site.clock

-- the clock doesn't fall

latest_up : (lines : List Line) (clock : ℕ) → clock ≤ latest clock lines
latest_up [] clock = omega arith
latest_up (l ∷ lines) clock = let one : max clock l.stamp.clock ≤ latest (max clock l.stamp.clock) lines =
    latest_up lines (max clock l.stamp.clock) in omega arith

asked_up : (w : Want) (clock : ℕ) → clock ≤ clock_asked clock w
asked_up (Read read) clock = omega arith
asked_up (Append object view own) clock = latest_up view clock
asked_up Prepare clock = omega arith

told_up : (verdict : Outcome) (clock : ℕ) → clock ≤ clock_told clock verdict
told_up (outcomes.Committed stamp) clock = omega arith
told_up outcomes.Aborted clock = omega arith
told_up outcomes.Active clock = omega arith

pub clock_up : (m : Message) (clock : ℕ) → clock ≤ clock_after clock m
clock_up (messages.Request tx epoch life want) clock = asked_up want clock
clock_up (messages.Answer to answer) clock = omega arith
clock_up (messages.Decision tx verdict) clock = told_up verdict clock
clock_up (messages.Inquiry tx) clock = omega arith
clock_up (messages.Ask tx) clock = omega arith
clock_up (messages.Close epoch) clock = omega arith
clock_up (messages.Install start) clock = latest_up start.lines clock

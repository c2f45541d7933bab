-- When a record fits its actor, in words: a sentence for each of its parts.
use Rattle.std.specs.Prelude.{◌≡◌, ℕ, ◌<◌, ◌≤◌, Option, Some, None, length}
use Rattle.std.specs.List.{AllByRecursion as Every}
use Rattle.qc_decl.specs.Vocabulary.{administrator, client_actor, plan_in, table_at}
use Rattle.qc_decl.specs.declared.declaration.Declaration.{Declaration}
use Rattle.qc_entry.specs.declared.line.Line.{Line}
use Rattle.qc_entry.specs.declared.line.Op.{Op}
use Rattle.qc_entry.specs.declared.line.OwnLine.{OwnLine}
use Rattle.qc_entry.specs.declared.line.ReadLock.{ReadLock}
use Rattle.qc_fit.specs.Numbers.{greatest_clock, most_records}
use Rattle.qc_fit.specs.Parts.{clients_of, clocks_of, epochs_of, lines_of, locks_of, ops_of, owns_of}
use Rattle.qc_msg.specs.declared.record.Record.{Record}
use Rattle.qc_msg.specs.declared.record.Record.TheVariants as records
use Rattle.qc_plan.specs.declared.plan.Plan.{Plan}
use Rattle.qc_table.specs.Vocabulary.{Rules, events_of}

-- Who writes it. The administrator's number is the highest of those that rise.
abbrev pub IsWriter : Declaration → ℕ → Record → Type 0
IsWriter decl actor records.Life = actor ≤ administrator decl
IsWriter decl actor (records.Prepare p) = actor < decl.sites
IsWriter decl actor (records.Done tx clock) = actor < decl.sites
IsWriter decl actor (records.Close epoch) = actor < decl.sites
IsWriter decl actor (records.Install start) = actor < decl.sites
IsWriter decl actor (records.Commit c) = actor ≡ client_actor decl c.tx.client
IsWriter decl actor (records.Decide start) = actor ≡ administrator decl

abbrev pub HasPlan : Declaration → ℕ → Type 0
HasPlan decl epoch = (plan : Plan) × (plan_in decl epoch ≡ Some plan)

-- the object is declared, and its type has the number, where it has so many of the kind
pub record HasNumber (decl : Declaration) (many : Rules → ℕ) (object number : ℕ) : Type 0 where
  pub table : Rules
  pub declared : table_at decl object ≡ Some table
  pub below : number < many table

abbrev pub HasInvocation : Declaration → ℕ → ℕ → Type 0
HasInvocation decl object inv = HasNumber decl (λ t. t.invs) object inv

abbrev pub HasResponse : Declaration → ℕ → Option ℕ → Type 0
HasResponse decl object None = Unit {0}
HasResponse decl object (Some resp) = HasNumber decl (λ t. t.resps) object resp

abbrev pub HasEvent : Declaration → ℕ → ℕ → Type 0
HasEvent decl object event = HasNumber decl (λ t. length (events_of t.rows)) object event

pub record IsLineDeclared (decl : Declaration) (line : Line) : Type 0 where
  pub clock : line.stamp.clock ≤ greatest_clock
  pub client : line.tx.client < decl.clients
  pub event : HasEvent decl line.object line.event

pub record IsOpDeclared (decl : Declaration) (op : Op) : Type 0 where
  pub inv : HasInvocation decl op.object op.inv
  pub resp : HasResponse decl op.object op.resp

pub record IsFit (decl : Declaration) (actor before : ℕ) (rec : Record) : Type 0 where
  pub few : before < most_records
  pub writer : IsWriter decl actor rec
  pub clients : Every (λ client. client < decl.clients) (clients_of rec)
  pub epochs : Every (HasPlan decl) (epochs_of rec)
  pub clocks : Every (λ clock. clock ≤ greatest_clock) (clocks_of rec)
  pub locks : Every (λ (lock : ReadLock). HasInvocation decl lock.object lock.inv) (locks_of rec)
  pub owns : Every (λ (own : OwnLine). HasEvent decl own.object own.event) (owns_of rec)
  pub lines : Every (IsLineDeclared decl) (lines_of rec)
  pub ops : Every (IsOpDeclared decl) (ops_of rec)

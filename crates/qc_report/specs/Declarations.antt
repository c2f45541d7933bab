-- What is told of a declaration: what it has, or why it is refused, with its status.
use Rattle.std.specs.Prelude.{ℕ, Bool, true, false, List, ◌++◌, codes, decimal, length}
use Rattle.qc_accept.specs.declared.fault.DeclFault.{DeclFault}
use Rattle.qc_accept.specs.declared.fault.DeclFault.TheVariants.{NotToml, Field, Table, Cert, Plan, OutOfMemory}
use Rattle.qc_cert.specs.declared.fault.CertFault.{CertFault}
use Rattle.qc_cert.specs.declared.fault.CertFault.TheVariants as cert
use Rattle.qc_decl.specs.declared.declaration.Declaration.{Declaration}
use Rattle.qc_plan.specs.declared.fault.PlanFault.{PlanFault}
use Rattle.qc_plan.specs.declared.fault.PlanFault.TheVariants as plan
use Rattle.qc_table.specs.declared.fault.TableFault.{TableFault}
use Rattle.qc_table.specs.declared.fault.TableFault.TheVariants as table
use Rattle.qc_decl.specs.Vocabulary.{name_at}

-- so many types, objects and epochs
abbrev pub accepted_line : ℕ → ℕ → ℕ → List ℕ
accepted_line types objects epochs =
    codes "accepted types " ++ (decimal types ++ (codes " objects "
    ++ (decimal objects ++ (codes " epochs " ++ (decimal epochs ++ codes "\n")))))

-- what an accepted declaration has
abbrev pub accepted_text_of : Declaration → List ℕ
accepted_text_of decl = accepted_line (length decl.kinds) (length decl.objects) (length decl.plans)

-- a refused declaration is status 2, and want of memory is status 8 wherever it stands
abbrev pub status_of_table : TableFault → ℕ
status_of_table (table.UnknownName row) = 2
status_of_table (table.DuplicateRow row) = 2
status_of_table table.TooMany = 2
status_of_table table.OutOfMemory = 8

abbrev pub status_of_cert : CertFault → ℕ
status_of_cert cert.NoStart = 2
status_of_cert (cert.Uncovered triple event taken) = 2
status_of_cert (cert.Unequal triple inv resp) = 2
status_of_cert cert.OutOfMemory = 8

abbrev pub status_of_refused : DeclFault → ℕ
status_of_refused NotToml = 2
status_of_refused (Field path) = 2
status_of_refused (Table kind fault names) = status_of_table fault
status_of_refused (Cert kind fault names) = status_of_cert fault
status_of_refused (Plan epoch fault names) = 2
status_of_refused OutOfMemory = 8

abbrev pub no_memory_text : List ℕ
no_memory_text = codes "quorum: out of memory\n"

-- a type, the first of the names, and what is wrong with it
abbrev pub type_text : List (List ℕ) → List ℕ → List ℕ
type_text names wrong = codes "quorum: declaration: type " ++ (name_at names 0 ++ (codes ": " ++ wrong))

-- a row or a triple of a type, by its number from 0, and what is wrong with it
abbrev pub row_text : ℕ → List ℕ → List ℕ
row_text row wrong = codes "row " ++ (decimal row ++ (codes ": " ++ wrong))

abbrev pub triple_text : ℕ → List ℕ → List ℕ
triple_text triple wrong = codes "triple " ++ (decimal triple ++ (codes ": " ++ wrong))

-- an epoch, by its number from 1, and what is wrong with its plan
abbrev pub epoch_text : ℕ → List ℕ → List ℕ
epoch_text epoch wrong = codes "quorum: declaration: epoch " ++ (decimal epoch ++ (codes ": " ++ wrong))

-- rows that are no table: the names are the type's
abbrev pub table_text : TableFault → List (List ℕ) → List ℕ
table_text (table.UnknownName row) names = type_text names (row_text row (codes "unknown name\n"))
table_text (table.DuplicateRow row) names = type_text names (row_text row (codes "repeated\n"))
table_text table.TooMany names = type_text names (codes "too many events\n")
table_text table.OutOfMemory names = no_memory_text

abbrev pub uncovered_text : Bool → List ℕ
uncovered_text true = codes " taken isn't covered\n"
uncovered_text false = codes " left out isn't covered\n"

abbrev pub differs_text : List (List ℕ) → List ℕ
differs_text names = name_at names 1 ++ (codes " " ++ (name_at names 2 ++ codes " differs\n"))

-- triples that don't show a relation exact: the names are the type's, and then an event's, or an invocation's and a
-- response's
abbrev pub cert_text : CertFault → List (List ℕ) → List ℕ
cert_text cert.NoStart names = type_text names (codes "no start triple\n")
cert_text (cert.Uncovered triple event taken) names =
    type_text names (triple_text triple (name_at names 1 ++ uncovered_text taken))
cert_text (cert.Unequal triple inv resp) names = type_text names (triple_text triple (differs_text names))
cert_text cert.OutOfMemory names = no_memory_text

abbrev pub can_miss_text : List (List ℕ) → List ℕ
can_miss_text names = name_at names 0 ++ (codes " "
    ++ (name_at names 1 ++ (codes " can miss " ++ (name_at names 2 ++ codes "\n"))))

-- a plan that isn't admitted: the names are an object's, and then an invocation's and an event's
abbrev pub plan_text : ℕ → PlanFault → List (List ℕ) → List ℕ
plan_text epoch plan.NoWeight names = epoch_text epoch (codes "no weight\n")
plan_text epoch (plan.TooHeavy object) names = epoch_text epoch (name_at names 0 ++ codes " too heavy\n")
plan_text epoch (plan.CanMiss object inv event) names = epoch_text epoch (can_miss_text names)

-- the whole text of a refused declaration
abbrev pub refused_text : DeclFault → List ℕ
refused_text NotToml = codes "quorum: declaration: not toml\n"
refused_text (Field path) = codes "quorum: declaration: field " ++ (path ++ codes "\n")
refused_text (Table kind fault names) = table_text fault names
refused_text (Cert kind fault names) = cert_text fault names
refused_text (Plan epoch fault names) = plan_text epoch fault names
refused_text OutOfMemory = no_memory_text

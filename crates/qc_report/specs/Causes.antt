-- How a call of the program ended: its status, and what is told on standard error.
use Rattle.std.specs.Prelude.{ℕ, Bool, if◌then◌else◌, List, [], ◌++◌, codes, decimal}
use Rattle.qc_outside.specs.declared.rack.RackFault.{RackFault}
use Rattle.qc_outside.specs.declared.rack.RackFault.TheVariants as racks
use Rattle.qc_outside.specs.declared.shelf.ShelfFault.{ShelfFault}
use Rattle.qc_outside.specs.declared.shelf.ShelfFault.TheVariants as faults
use Rattle.qc_report.specs.declared.cause.Cause.{Cause}
use Rattle.qc_report.specs.declared.cause.Cause.TheVariants.{Done, Usage, Shelf, Declaration, Script, Rack, Sink, Full}
use Rattle.qc_report.specs.declared.cause.Cause.TheVariants.{OutOfMemory}
use Rattle.qc_msg.specs.declared.step.Quantity.{Quantity}
use Rattle.qc_msg.specs.declared.step.Quantity.TheVariants.{Steps, Operations, Carried}
use Rattle.qc_report.specs.Declarations.{status_of_refused, refused_text, no_memory_text}
use Rattle.qc_report.specs.Scripts.{status_of_script, script_text}

-- want of memory is status 8 wherever it stands
abbrev pub status_of_shelf : ShelfFault → ℕ
status_of_shelf faults.Missing = 4
status_of_shelf faults.TooLong = 4
status_of_shelf faults.Failed = 4
status_of_shelf faults.OutOfMemory = 8

abbrev pub status_of_rack : RackFault → ℕ
status_of_rack (racks.NotEmpty actor) = 6
status_of_rack (racks.Failed actor) = 6
status_of_rack racks.OutOfMemory = 8

abbrev pub status_of : Cause → ℕ
status_of Done = 0
status_of Usage = 1
status_of (Declaration fault) = status_of_refused fault
status_of (Script fault) = status_of_script fault
status_of (Shelf script fault) = status_of_shelf fault
status_of Sink = 5
status_of (Rack fault) = status_of_rack fault
status_of (Full what number) = 7
status_of OutOfMemory = 8

-- which file it was
abbrev pub file_text : Bool → List ℕ
file_text script = if script then codes "quorum: script file: " else codes "quorum: declaration file: "

abbrev pub shelf_text : Bool → ShelfFault → List ℕ
shelf_text script faults.Missing = file_text script ++ codes "missing\n"
shelf_text script faults.TooLong = file_text script ++ codes "too long\n"
shelf_text script faults.Failed = file_text script ++ codes "failed\n"
shelf_text script faults.OutOfMemory = no_memory_text

-- whose disk it was, by the actor's number
abbrev pub disk_text : ℕ → List ℕ → List ℕ
disk_text actor what = codes "quorum: disk of actor " ++ (decimal actor ++ what)

abbrev pub rack_text : RackFault → List ℕ
rack_text (racks.NotEmpty actor) = disk_text actor (codes ": not empty\n")
rack_text (racks.Failed actor) = disk_text actor (codes ": failed\n")
rack_text racks.OutOfMemory = no_memory_text

abbrev pub what_text : Quantity → List ℕ
what_text Steps = codes "steps "
what_text Operations = codes "operations "
what_text Carried = codes "lines "

-- the whole text of a cause; no word where all was done
abbrev pub cause_text_of : Cause → List ℕ
cause_text_of Done = []
cause_text_of Usage = codes "quorum: usage\n"
cause_text_of (Shelf script fault) = shelf_text script fault
cause_text_of (Declaration fault) = refused_text fault
cause_text_of (Script fault) = script_text fault
cause_text_of (Rack fault) = rack_text fault
cause_text_of Sink = codes "quorum: output failed\n"
cause_text_of (Full what number) = codes "quorum: full: " ++ (what_text what ++ (decimal number ++ codes "\n"))
cause_text_of OutOfMemory = no_memory_text

-- Histories of one site's disk and of what is armed for it, with falls that nothing accounts for, faults that don't
-- come, and such as have neither. The site has one record, or writes it.
use Rattle.std.specs.Prelude.{ℕ, [], ◌∷◌, Some, None}
use Rattle.qc_msg.specs.declared.record.Record.{Record}
use Rattle.qc_msg.specs.declared.record.Record.TheVariants.{Close}
use Rattle.qc_msg.specs.declared.step.Fall.TheVariants as causes
use Rattle.qc_msg.specs.declared.step.Step.TheVariants.{Armed, Damaged, Fell, Rose, Wrote}
use Rattle.qc_msg.specs.Vocabulary.{Entry, marked}
use Rattle.qc_outside.specs.declared.disk.ArmKind.{ArmKind}

abbrev pub one : Record
one = Close 1

-- the controller, actor 9, arms the site's disk: actor 0's
abbrev pub arms : ArmKind → ℕ → Entry
arms kind at = marked 9 (Armed 0 kind at)

-- it arms the disk of another site
abbrev pub arms_other : ArmKind → ℕ → Entry
arms_other kind at = marked 9 (Armed 1 kind at)

-- the site falls: as the script says, and as its disk stops or fails while it writes
abbrev pub crashes : Entry
crashes = marked 0 (Fell causes.Script None)

abbrev pub stops : Entry
stops = marked 0 (Fell causes.Stop (Some one))

abbrev pub fails : Entry
fails = marked 0 (Fell causes.Disk (Some one))

-- its disk stops as its journal is opened
abbrev pub stops_rising : Entry
stops_rising = marked 0 (Fell causes.Stop None)

abbrev pub writes : Entry
writes = marked 0 (Wrote one)

abbrev pub rises : Entry
rises = marked 0 (Rose [])

abbrev pub rises_with_one : Entry
rises_with_one = marked 0 (Rose (one ∷ []))

-- its journal can't be read
abbrev pub damaged : Entry
damaged = marked 0 (Damaged 0)

-- Histories of one site's journal, in which a record is lost, and such in which none is.
use Rattle.std.specs.Prelude.{List, [], ◌∷◌, Some, None}
use Rattle.qc_msg.specs.declared.record.Record.{Record}
use Rattle.qc_msg.specs.declared.record.Record.TheVariants.{Close}
use Rattle.qc_msg.specs.declared.step.Fall.TheVariants.{Disk, Script, Stop}
use Rattle.qc_msg.specs.declared.step.Step.TheVariants.{Damaged, Fell, Rose, Wrote}
use Rattle.qc_msg.specs.Vocabulary.{Entry, marked}

-- two records
abbrev pub first : Record
first = Close 1

abbrev pub second : Record
second = Close 2

-- the steps of the site, which is actor 0

abbrev pub writes : Record → Entry
writes written = marked 0 (Wrote written)

abbrev pub crashes : Entry
crashes = marked 0 (Fell Script None)

-- it stops while it writes this record
abbrev pub stops_at : Record → Entry
stops_at pending = marked 0 (Fell Stop (Some pending))

-- its journal can't be opened
abbrev pub fails_to_rise : Entry
fails_to_rise = marked 0 (Fell Disk None)

abbrev pub rises : List Record → Entry
rises given = marked 0 (Rose given)

-- it rises with these, one record having been written, or two
abbrev pub after_one : List Record → List Entry
after_one given = writes first ∷ crashes ∷ rises given ∷ []

abbrev pub after_two : List Record → List Entry
after_two given = writes first ∷ writes second ∷ crashes ∷ rises given ∷ []

-- it wrote the first record, and stopped while it wrote the second
abbrev pub after_stop : List Record → List Entry
after_stop given = writes first ∷ stops_at second ∷ rises given ∷ []

-- it stopped while it wrote its first record, rose with these, and rises once more
abbrev pub twice : List Record → List Record → List Entry
twice given again = stops_at first ∷ rises given ∷ crashes ∷ rises again ∷ []

-- it rose with its record, wrote another one, and rises once more
abbrev pub later : List Record → List Entry
later given = writes first ∷ crashes ∷ rises (first ∷ []) ∷ writes second ∷ crashes ∷ rises given ∷ []

-- another site wrote the record
abbrev pub elsewhere : List Record → List Entry
elsewhere given = marked 1 (Wrote first) ∷ crashes ∷ rises given ∷ []

-- its journal is none
abbrev pub damaged : List Entry
damaged = writes first ∷ crashes ∷ marked 0 (Damaged 0) ∷ []

-- its journal can't be opened at once
abbrev pub at_last : List Record → List Entry
at_last given = writes first ∷ stops_at second ∷ fails_to_rise ∷ rises given ∷ []

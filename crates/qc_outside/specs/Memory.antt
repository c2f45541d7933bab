-- What a disk in memory tells, by the record of its changes.
use Rattle.std.specs.Prelude.{ℕ, ◌+◌, List, [], ◌∷◌, length, take, drop, replicate}
use Rattle.qc_outside.specs.Images.{Write, Stored, Told, as_read, overwritten, wrote, settled, told_at_first}
use Rattle.qc_outside.specs.declared.tear.Tear.{Tear}
use Rattle.qc_outside.specs.declared.tear.Tear.TheVariants.{Nothing, All, Fill}
use Rattle.qc_outside.specs.declared.mem_disk.Change.{Change}
use Rattle.qc_outside.specs.declared.mem_disk.Change.TheVariants.{Wrote, Synced, Fell}

-- the same range, filled with a byte
abbrev pub blotted : ℕ → Write → Write
blotted byte w = record { at = w.at; bytes = replicate (length w.bytes) byte }

-- what a fall leaves after one write more, where it left these bytes before
abbrev pub torn_by : Tear → List ℕ → Write → List ℕ
torn_by Nothing left w = left
torn_by All left w = overwritten left w
torn_by (Fill byte) left w = overwritten left (blotted byte w)

abbrev pub all_torn : Tear → List ℕ → List Write → List ℕ
all_torn tear synced [] = synced
all_torn tear synced (w ∷ earlier) = torn_by tear (all_torn tear synced earlier) w

-- what a fall leaves
abbrev pub left_by : Tear → Stored → List ℕ
left_by tear s = all_torn tear s.synced s.writes

-- what is held after a change; what it wrote is at the front of the written bytes
abbrev pub after_change : Tear → Stored → Change → List ℕ → Stored
after_change tear s (Wrote at count) written = wrote s (record { at = at; bytes = take count written })
after_change tear s Synced written = settled (as_read s)
after_change tear s Fell written = settled (left_by tear s)

-- how many bytes a change wrote
abbrev pub count_of : Change → ℕ
count_of (Wrote at count) = count
count_of Synced = 0
count_of Fell = 0

abbrev pub counts : List Change → ℕ
counts [] = 0
counts (change ∷ changes) = count_of change + counts changes

-- what is told after one change more
abbrev pub told_next : Tear → Told → Change → List ℕ → Told
told_next tear t change written = record { now = after_change tear t.now change written; past = t.now ∷ t.past }

-- what is told after these changes, the oldest first
abbrev pub told_after : Tear → Told → List Change → List ℕ → Told
told_after tear t [] written = t
told_after tear t (change ∷ changes) written =
    told_after tear (told_next tear t change written) changes (drop (count_of change) written)

abbrev pub told_by : Tear → List Change → List ℕ → Told
told_by tear changes written = told_after tear told_at_first changes written

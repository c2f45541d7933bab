-- Lines in the order in which they joined a site's log, and marks, which say from where on a client lacks them.
use Rattle.std.specs.Prelude.{ℕ, ◌==◌, ◌&&◌, nat_le, Bool, if◌then◌else◌, List, length, drop}
use Rattle.qc_entry.specs.declared.line.Line.{Line}
use Rattle.qc_entry.specs.declared.mark.Mark.{Mark}
use Rattle.qc_entry.specs.Log.{log_of}

-- the mark of who was told nothing: no site is in life 0
abbrev pub no_mark : Mark
no_mark = record { life = 0; epoch = 0; count = 0 }

-- whether a mark is of this life and epoch, and of no more lines than there are
abbrev pub is_current : ℕ → ℕ → ℕ → Mark → Bool
is_current life epoch lines m = (m.life == life) && ((m.epoch == epoch) && nat_le m.count lines)

-- the lines from the count on, or all of them
abbrev pub lines_told : Bool → List Line → ℕ → List Line
lines_told current lines count = if current then drop count lines else lines

-- what a site of this life and epoch tells of these lines of an object to who has the mark
abbrev pub told : ℕ → ℕ → List Line → Mark → List Line
told life epoch lines m = log_of (lines_told (is_current life epoch (length lines) m) lines m.count)

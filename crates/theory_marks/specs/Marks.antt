-- A site's log in the order of arrival; marks, from which on a site tells it; and what a client knows of it.
use Rattle.std.specs.Prelude.{ℕ, ◌==◌, ◌&&◌, if◌then◌else◌, List, [], ◌++◌, length}
use Rattle.qc_entry.specs.declared.line.Line.{Line}
use Rattle.qc_entry.specs.Vocabulary.{of_object, union, without}
use Rattle.qc_entry.specs.Vocabulary.{told as told_from}
pub use Rattle.qc_entry.specs.declared.mark.Mark.{Mark}
pub use Rattle.qc_entry.specs.Vocabulary.{lines_told, log_of, no_mark}

-- A site: its life, the epoch that it has installed, and the lines of its log in the order in which they joined it
-- since it rose or installed, whichever came later. Those that joined in one turn stand in line order.
pub record Arrivals : Type 0 where
  pub life : ℕ
  pub epoch : ℕ
  pub arrived : List Line

-- the lines that the list lacks, which are given in line order, join it in one turn
abbrev pub with_arrivals : List Line → List Line → List Line
with_arrivals arrived lines = arrived ++ without lines arrived

-- the mark of all that a site has of an object
abbrev pub mark_of : Arrivals → ℕ → Mark
mark_of s object = record { life = s.life; epoch = s.epoch; count = length (of_object s.arrived object) }

-- the log of a site's Granted to a Read that carries this mark
abbrev pub told : Arrivals → Mark → ℕ → List Line
told s m object = told_from s.life s.epoch (of_object s.arrived object) m

-- what a client knows of a site's log of an object
pub record KnownLog : Type 0 where
  pub mark : Mark
  pub log : List Line

abbrev pub nothing_known : KnownLog
nothing_known = record { mark = no_mark; log = [] }

-- A Granted to a Read counts, of this life, epoch and count: its log joins what is known, where that is of this life
-- and epoch, and stands in its place otherwise.
abbrev pub learned : KnownLog → ℕ → ℕ → ℕ → List Line → KnownLog
learned k life epoch count log = record {
  mark = record { life = life; epoch = epoch; count = count };
  log = if (k.mark.life == life) && (k.mark.epoch == epoch) then union k.log log else log;
}

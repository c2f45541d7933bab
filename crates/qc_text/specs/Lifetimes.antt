-- An actor's present life as code has it, and what a site is in it.
use Rattle.std.specs.Prelude.{ℕ, ◌++◌, List, fold, map}
use Rattle.std.specs.List.{filter_map}
use Rattle.qc_stamp.specs.Vocabulary.{first_life}
use Rattle.qc_entry.specs.declared.line.Line.{Line}
use Rattle.qc_entry.specs.Vocabulary.{union}
use Rattle.qc_lock.specs.declared.held.Held.{Held}
use Rattle.qc_msg.specs.Vocabulary.{first_epoch, written_in}
use Rattle.qc_promise.specs.Vocabulary.{Lifetime, Lines, epoch_by, last_cut, life_by, lines_from, recorded_by}
use Rattle.qc_text.specs.Deeds.{deed_of}
use Rattle.qc_text.specs.Holdings.{held_by}
use Rattle.qc_text.specs.declared.lifetimes.Lifetime.{Lifetime as Present}

abbrev pub present : Present → Lifetime
present l = record { kept = l.kept.now; since = map deed_of l.since.now }

-- what the promise reads off an actor's deeds, of the life that they end in

abbrev pub life_in : Lifetime → ℕ
life_in l = fold life_by first_life (l.kept ++ filter_map written_in l.since)

abbrev pub epoch_in : Lifetime → ℕ
epoch_in l = fold epoch_by first_epoch (l.kept ++ filter_map written_in l.since)

abbrev pub lines_in : Lifetime → Lines
lines_in l = lines_from (recorded_by l.kept) l.kept l.since

abbrev pub log_in : Lifetime → List Line
log_in l = union (lines_in l).began (lines_in l).since

abbrev pub held_in : Lifetime → List Held
held_in l = held_by l.kept (last_cut l.since)

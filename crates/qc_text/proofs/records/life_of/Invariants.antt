use Rattle.std.proofs.Common.{◌≡◌, ◌≤◌, ◌+◌, drop, length, map}
use Rattle.std.specs.Prelude.{fold}
use Rattle.std.specs.List.{filter_map}
use Rattle.qc_msg.specs.Vocabulary.{written_in}
use Rattle.qc_promise.specs.Vocabulary.{life_by}
use Rattle.qc_text.specs.Vocabulary.{deed_of, life_in, present}
use Rattle.qc_text.proofs.records.life_of.Given as goal

abbrev pub invariant-deeds : goal.invariant-deeds
invariant-deeds l = record {
  shown : fold life_by l.life (filter_map written_in (map deed_of (drop l.deed-index l.current.since.now))) ≡ life_in
      (present l.current);
  few : l.life ≤ length l.current.kept.now + l.deed-index + 1;
}

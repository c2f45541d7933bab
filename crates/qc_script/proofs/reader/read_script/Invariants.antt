use Rattle.std.proofs.Common.{◌≡◌, length}
use Rattle.qc_script.specs.Vocabulary.{lines_of, script_of}
use Rattle.qc_script.proofs.Reading.{IsReadTo}
use Rattle.qc_script.proofs.reader.read_script.Given as goal

abbrev pub invariant-loop-line : goal.invariant-loop-line
invariant-loop-line l = record {
  counted : l.number ≡ length l.yielded;
  read : IsReadTo l.decl (lines_of l.bytes) (length l.yielded) l.draft (script_of l.decl l.bytes);
}

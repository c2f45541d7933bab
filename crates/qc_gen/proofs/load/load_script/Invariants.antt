use Rattle.std.proofs.Common.{◌≡◌, ◌<◌, ◌-◌, ◌++◌}
use Rattle.qc_gen.specs.Vocabulary.{lines_from, load_text, modulus}
use Rattle.qc_script.specs.Vocabulary.{text_of_lines}
use Rattle.qc_gen.proofs.load.load_script.Given as goal

abbrev pub invariant-transactions : goal.invariant-transactions
invariant-transactions l = record {
  state : l.state < modulus;
  text : l.text.items ++ text_of_lines (lines_from (l.count - l.number) l.number l.state) ≡ load_text l.count l.seed;
}

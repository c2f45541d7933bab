use Rattle.qc_script.proofs.WrittenScripts.{line_asks, text_read}
use Rattle.qc_script.proofs.laws.lines_are_read_as_written.Goals as goal

pub returns : goal.returns
returns c = record {
  line = text_read;
  item = line_asks;
}

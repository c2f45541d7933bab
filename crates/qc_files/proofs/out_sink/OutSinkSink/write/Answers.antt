use Rattle.std.proofs.Common.{rules, take}
use Rattle.std.proofs.lemmas.List.{take-append-drop}
use Rattle.std.specs.Prelude.{drop}
use Rattle.qc_files.proofs.out_sink.OutSinkSink.write.Goals as goal

pub returns-clause-content : goal.returns-clause-content
returns-clause-content g c = (
  take c.write_front-count.result c.args.piece.now,
  drop c.write_front-count.result c.args.piece.now,
  take-append-drop c.write_front-count.result c.args.piece.now,
  search rules,
)

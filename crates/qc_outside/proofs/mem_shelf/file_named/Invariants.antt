use Rattle.std.proofs.Common.{◌≡◌, drop}
use Rattle.qc_outside.specs.Vocabulary.{contents, file_named}
use Rattle.qc_outside.proofs.mem_shelf.file_named.Given as goal

abbrev pub invariant-loop-file : goal.invariant-loop-file
invariant-loop-file l = file_named l.name (contents l.files) ≡ file_named l.name (contents (drop l.file-index l.files))

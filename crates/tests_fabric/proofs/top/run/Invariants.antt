use Rattle.std.specs.Prelude.{false}
use Rattle.qc_pass.specs.Vocabulary.{table_of}
use Rattle.tests_fabric.proofs.top.run.Given as goal

-- the declaration and the script that were given, and the table that was just made; no disk is there to tell
abbrev pub ghosts-run_named : goal.ghosts-run_named
ghosts-run_named g a = record {
  declaration = a.decl.now;
  script = a.script;
  table = table_of a.made.passes;
  tells = false;
}

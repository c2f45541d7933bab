use Rattle.std.specs.Prelude.{is_some}
use Rattle.qc_pass.specs.Vocabulary.{table_of}
use Rattle.qc_node.proofs.runs.run_script.Given as goal

-- the declaration and the script that were given, the table that was just made, and whether the rack tells
abbrev pub ghosts-run_named : goal.ghosts-run_named
ghosts-run_named g a = record {
  declaration = a.job.now.decl.now;
  script = a.script;
  table = table_of a.made.passes;
  tells = is_some (g.K.Rack.places a.rack.now);
}

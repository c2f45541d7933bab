-- The worked histories are whole runs of their scripts.
use Rattle.std.specs.Prelude.{[], ◌∷◌, Some}
use Rattle.qc_script.specs.declared.script.Script.{Script}
use Rattle.tests_runs.specs.Words.{link, asks, phase, script}
use Rattle.qc_msg.specs.declared.step.Command.TheVariants as commands
use Rattle.qc_msg.specs.declared.step.Control.TheVariants as controls
use Rattle.qc_link.specs.declared.rule.Rule.TheVariants as rules
use Rattle.qc_outside.specs.declared.disk.ArmKind.TheVariants as arms

abbrev pub restarted_site : Script
restarted_site =
    script (link (Some 3) (Some 1) (Some 1) rules.Again ∷ []) (phase [] (asks 3 commands.Begin ∷ asks 3 (commands.Do 0
    2) ∷ []) ∷ phase ((controls.Crash 1) ∷ (controls.Restart 1) ∷ []) (asks 3 commands.Commit ∷ []) ∷ [])

abbrev pub unknown_commit : Script
unknown_commit =
    script [] (phase ((controls.Armed 3 arms.Stop 3) ∷ []) (asks 3 commands.Begin ∷ asks 3 (commands.Do 0 2) ∷ asks 3
    commands.Commit ∷ []) ∷ phase ((controls.Restart 3) ∷ []) (asks 4 commands.Begin ∷ asks 4 (commands.Do 0 0) ∷ []) ∷
    phase [] (asks 4 (commands.Do 0 0) ∷ asks 4 commands.Commit ∷ []) ∷ [])

abbrev pub lost_decisions : Script
lost_decisions =
    script (link (Some 3) (Some 0) (Some 3) rules.Drop ∷ link (Some 3) (Some 1) (Some 3) rules.Drop ∷ []) (phase []
    (asks 3 commands.Begin ∷ asks 3 (commands.Do 0 2) ∷ asks 3 commands.Commit ∷ []) ∷ phase ((controls.Crash 3) ∷
    (controls.Restart 3) ∷ []) (asks 4 commands.Begin ∷ asks 4 (commands.Do 0 0) ∷ []) ∷ phase [] (asks 4 (commands.Do 0
    0) ∷ asks 4 commands.Commit ∷ []) ∷ [])

abbrev pub faulty_promise : Script
faulty_promise =
    script [] (phase ((controls.Armed 1 arms.Fail 2) ∷ []) (asks 3 commands.Begin ∷ asks 3 (commands.Do 0 0) ∷ asks 3
    commands.Commit ∷ []) ∷ [])

abbrev pub second_lives : Script
second_lives =
    script [] (phase [] (asks 3 commands.Begin ∷ asks 3 (commands.Do 0 2) ∷ asks 3 commands.Commit ∷ []) ∷ phase
    ((controls.Crash 3) ∷ (controls.Restart 3) ∷ []) (asks 3 commands.Begin ∷ asks 3 (commands.Do 0 1) ∷ asks 3
    commands.Commit ∷ []) ∷ phase ((controls.Crash 3) ∷ (controls.Restart 3) ∷ []) (asks 3 commands.Begin ∷ asks 3
    (commands.Do 0 0) ∷ asks 3 commands.Commit ∷ []) ∷ [])

abbrev pub kept_promise : Script
kept_promise =
    script [] (phase ((controls.Armed 3 arms.Stop 3) ∷ []) (asks 3 commands.Begin ∷ asks 3 (commands.Do 0 2) ∷ asks 3
    commands.Commit ∷ []) ∷ phase ((controls.Crash 0) ∷ (controls.Restart 0) ∷ []) (asks 5 commands.Begin ∷ asks 5
    (commands.Do 0 0) ∷ []) ∷ [])

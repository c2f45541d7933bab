-- The scripts of the worked histories.
use Rattle.std.specs.Prelude.{[], ◌∷◌, Some, None}
use Rattle.qc_script.specs.declared.script.Script.{Script}
use Rattle.tests_runs.specs.Words.{link, asks, phase, script}
use Rattle.qc_msg.specs.declared.step.Command.TheVariants as commands
use Rattle.qc_msg.specs.declared.step.Control.TheVariants as controls
use Rattle.qc_link.specs.declared.rule.Rule.TheVariants as rules

abbrev pub read_after_write : Script
read_after_write =
    script [] (phase [] (asks 3 commands.Begin ∷ asks 3 (commands.Do 0 2) ∷ asks 3 (commands.Do 0 0) ∷ asks 3
    commands.Commit ∷ []) ∷ phase [] (asks 4 commands.Begin ∷ asks 4 (commands.Do 0 0) ∷ asks 4 commands.Commit ∷ []) ∷
    [])

abbrev pub read_before_commit : Script
read_before_commit =
    script [] (phase [] (asks 3 commands.Begin ∷ asks 3 (commands.Do 0 2) ∷ []) ∷ phase [] (asks 4 commands.Begin ∷ asks
    4 (commands.Do 0 0) ∷ []) ∷ phase [] (asks 3 commands.Commit ∷ []) ∷ phase [] (asks 4 (commands.Do 0 0) ∷ asks 4
    commands.Commit ∷ []) ∷ [])

abbrev pub blind_writes : Script
blind_writes =
    script [] (phase [] (asks 3 commands.Begin ∷ asks 3 (commands.Do 0 1) ∷ []) ∷ phase [] (asks 4 commands.Begin ∷ asks
    4 (commands.Do 0 2) ∷ []) ∷ phase [] (asks 3 commands.Commit ∷ []) ∷ phase [] (asks 4 commands.Commit ∷ []) ∷ phase
    [] (asks 3 commands.Begin ∷ asks 3 (commands.Do 0 0) ∷ asks 3 commands.Commit ∷ []) ∷ [])

abbrev pub cut_off : Script
cut_off =
    script [] (phase ((controls.Cut 4 0) ∷ (controls.Cut 4 1) ∷ []) (asks 4 commands.Begin ∷ asks 4 (commands.Do 0 0) ∷
    []) ∷ [])

abbrev pub late_copy : Script
late_copy =
    script (link (Some 3) (Some 1) (Some 1) rules.Late ∷ []) (phase [] (asks 3 commands.Begin ∷ asks 3 (commands.Do 0 2)
    ∷ asks 3 commands.Commit ∷ []) ∷ phase [] (asks 4 commands.Begin ∷ asks 4 (commands.Do 0 0) ∷ []) ∷ phase [] (asks 4
    (commands.Do 0 0) ∷ asks 4 commands.Commit ∷ []) ∷ [])

abbrev pub every_message_twice : Script
every_message_twice =
    script (link None None None rules.Twice ∷ []) (phase [] (asks 3 commands.Begin ∷ asks 3 (commands.Do 0 2) ∷ asks 3
    (commands.Do 0 0) ∷ asks 3 commands.Commit ∷ []) ∷ [])

abbrev pub doomed_write : Script
doomed_write =
    script [] (phase [] (asks 3 commands.Begin ∷ asks 3 (commands.Do 0 0) ∷ []) ∷ phase [] (asks 4 commands.Begin ∷ asks
    4 (commands.Do 0 2) ∷ asks 4 commands.Commit ∷ []) ∷ phase [] (asks 3 commands.Commit ∷ []) ∷ [])

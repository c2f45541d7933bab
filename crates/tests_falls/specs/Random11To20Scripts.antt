-- The random histories 11 to 20 are whole runs of their scripts.
use Rattle.std.specs.Prelude.{[], ◌∷◌, Some, None}
use Rattle.qc_script.specs.declared.script.Script.{Script}
use Rattle.tests_runs.specs.Words.{link, asks, phase, script}
use Rattle.qc_msg.specs.declared.step.Command.TheVariants as commands
use Rattle.qc_msg.specs.declared.step.Control.TheVariants as controls
use Rattle.qc_link.specs.declared.rule.Rule.TheVariants as rules
use Rattle.qc_outside.specs.declared.disk.ArmKind.TheVariants as arms

abbrev pub random11 : Script
random11 =
    script [] (phase ((controls.Cut 0 1) ∷ (controls.Crash 1) ∷ []) (asks 1 commands.Begin ∷ asks 1 commands.Commit ∷
    []) ∷ phase [] (asks 1 commands.Begin ∷ asks 1 (commands.Do 0 1) ∷ asks 1 commands.Commit ∷ asks 1 commands.Begin ∷
    asks 1 (commands.Do 0 1) ∷ asks 1 commands.Commit ∷ []) ∷ phase ((controls.Heal 0 1) ∷ (controls.Restart 0) ∷
    (controls.Restart 1) ∷ []) (asks 1 commands.Begin ∷ asks 1 (commands.Do 0 1) ∷ asks 1 (commands.Do 0 2) ∷ asks 1
    commands.Abort ∷ []) ∷ phase ((controls.Restart 2) ∷ []) (asks 1 commands.Begin ∷ asks 1 commands.Commit ∷ []) ∷
    phase ((controls.Restart 0) ∷ (controls.Restart 2) ∷ []) (asks 1 commands.Begin ∷ asks 1 (commands.Do 0 2) ∷ asks 1
    (commands.Do 0 1) ∷ asks 1 (commands.Do 1 0) ∷ asks 1 commands.Commit ∷ []) ∷ phase ((controls.Crash 1) ∷
    (controls.Restart 2) ∷ []) (asks 1 commands.Begin ∷ asks 1 (commands.Do 0 0) ∷ asks 1 commands.Commit ∷ []) ∷ phase
    ((controls.Armed 2 arms.Fail 3) ∷ []) (asks 1 commands.Begin ∷ asks 1 (commands.Do 0 1) ∷ asks 1 (commands.Do 0 1) ∷
    asks 1 commands.Commit ∷ asks 1 commands.Begin ∷ asks 1 (commands.Do 1 0) ∷ asks 1 (commands.Do 0 1) ∷ asks 1
    (commands.Do 0 1) ∷ []) ∷ [])

abbrev pub random12 : Script
random12 =
    script (link (Some 0) (Some 0) (Some 7) rules.Late ∷ []) (phase ((controls.Crash 0) ∷ (controls.Restart 0) ∷
    (controls.Armed 1 arms.Stop 7) ∷ (controls.Restart 2) ∷ []) (asks 1 commands.Begin ∷ asks 1 (commands.Do 0 0) ∷ asks
    1 (commands.Do 0 0) ∷ asks 1 (commands.Do 0 0) ∷ asks 1 commands.Commit ∷ []) ∷ phase ((controls.Restart 2) ∷ [])
    (asks 1 commands.Begin ∷ asks 1 (commands.Do 0 1) ∷ asks 1 (commands.Do 0 0) ∷ asks 1 commands.Commit ∷ []) ∷ [])

abbrev pub random13 : Script
random13 =
    script (link (Some 4) None (Some 4) rules.Again ∷ link (Some 4) None (Some 5) rules.Drop ∷ link (Some 2) (Some 0)
    (Some 1) rules.Late ∷ link (Some 0) (Some 2) (Some 4) rules.Twice ∷ link (Some 4) (Some 3) (Some 6) rules.Drop ∷
    link None (Some 4) (Some 7) rules.Again ∷ []) (phase ((controls.Restart 0) ∷ (controls.Restart 1) ∷ (controls.Crash
    2) ∷ (controls.Restart 4) ∷ []) (asks 2 commands.Begin ∷ asks 2 (commands.Do 0 1) ∷ asks 2 (commands.Do 0 0) ∷ asks
    2 (commands.Do 0 0) ∷ asks 2 (commands.Do 0 1) ∷ asks 2 (commands.Do 0 1) ∷ asks 2 (commands.Do 0 1) ∷ []) ∷ phase
    ((controls.Cut 1 3) ∷ (controls.Restart 2) ∷ (controls.Restart 4) ∷ []) (asks 4 commands.Begin ∷ asks 4 (commands.Do
    0 1) ∷ asks 4 (commands.Do 0 1) ∷ asks 3 commands.Begin ∷ asks 3 commands.Commit ∷ asks 3 commands.Begin ∷ asks 3
    (commands.Do 0 0) ∷ asks 3 (commands.Do 0 0) ∷ asks 3 (commands.Do 0 1) ∷ []) ∷ [])

abbrev pub random14 : Script
random14 =
    script (link (Some 1) (Some 2) (Some 4) rules.Again ∷ []) (phase ((controls.Cut 3 2) ∷ (controls.Restart 1) ∷ [])
    (asks 3 commands.Begin ∷ []) ∷ phase ((controls.Heal 3 2) ∷ (controls.Crash 0) ∷ (controls.Restart 0) ∷
    (controls.Restart 1) ∷ []) (asks 3 (commands.Do 0 0) ∷ asks 3 commands.Commit ∷ []) ∷ phase ((controls.Restart 0) ∷
    (controls.Restart 2) ∷ []) (asks 3 (commands.Do 0 0) ∷ asks 3 commands.Commit ∷ asks 3 commands.Begin ∷ asks 3
    (commands.Do 0 0) ∷ asks 3 (commands.Do 1 0) ∷ asks 3 commands.Commit ∷ []) ∷ phase ((controls.Cut 3 1) ∷
    (controls.Armed 0 arms.Stop 3) ∷ (controls.Restart 1) ∷ (controls.Restart 2) ∷ (controls.Restart 0) ∷
    (controls.Crash 2) ∷ []) (asks 3 (commands.Do 0 0) ∷ asks 3 commands.Commit ∷ []) ∷ phase ((controls.Heal 3 1) ∷
    (controls.Cut 3 1) ∷ (controls.Restart 1) ∷ (controls.Armed 2 arms.Fail 3) ∷ (controls.Crash 1) ∷ (controls.Crash 3)
    ∷ (controls.Crash 3) ∷ []) (asks 3 commands.Begin ∷ asks 3 commands.Commit ∷ asks 3 commands.Begin ∷ asks 3
    (commands.Do 0 0) ∷ asks 3 (commands.Do 1 0) ∷ asks 3 commands.Commit ∷ []) ∷ [])

abbrev pub random15 : Script
random15 =
    script (link (Some 1) None None rules.Drop ∷ []) (phase ((controls.Crash 0) ∷ (controls.Restart 0) ∷
    (controls.Restart 3) ∷ (controls.Restart 4) ∷ (controls.Restart 5) ∷ []) (asks 4 commands.Begin ∷ asks 4
    (commands.Do 0 2) ∷ asks 3 commands.Begin ∷ asks 3 (commands.Do 0 1) ∷ asks 3 commands.Commit ∷ asks 4 (commands.Do
    1 2) ∷ asks 4 commands.Commit ∷ []) ∷ phase ((controls.Cut 4 3) ∷ (controls.Armed 0 arms.Stop 4) ∷ (controls.Restart
    1) ∷ (controls.Restart 2) ∷ (controls.Restart 4) ∷ (controls.Restart 5) ∷ []) (asks 3 commands.Begin ∷ asks 3
    (commands.Do 1 0) ∷ asks 3 commands.Abort ∷ asks 3 commands.Begin ∷ asks 3 (commands.Do 0 2) ∷ asks 3 (commands.Do 0
    1) ∷ asks 3 (commands.Do 1 1) ∷ asks 3 commands.Commit ∷ []) ∷ [])

abbrev pub random16 : Script
random16 =
    script [] (phase ((controls.Restart 0) ∷ (controls.Restart 2) ∷ (controls.Restart 4) ∷ []) (asks 3 commands.Begin ∷
    asks 3 (commands.Do 0 0) ∷ asks 3 commands.Commit ∷ []) ∷ phase ((controls.Armed 0 arms.Fail 1) ∷ (controls.Restart
    1) ∷ (controls.Restart 4) ∷ []) (asks 3 commands.Begin ∷ asks 3 (commands.Do 0 0) ∷ asks 3 commands.Abort ∷ []) ∷
    phase ((controls.Crash 0) ∷ (controls.Restart 0) ∷ (controls.Restart 1) ∷ (controls.Armed 1 arms.Stop 1) ∷
    (controls.Crash 3) ∷ (controls.Crash 3) ∷ (controls.Restart 4) ∷ []) (asks 3 commands.Begin ∷ asks 3 (commands.Do 0
    0) ∷ asks 3 commands.Abort ∷ asks 3 commands.Begin ∷ asks 3 (commands.Do 0 1) ∷ asks 3 commands.Commit ∷ []) ∷ [])

abbrev pub random17 : Script
random17 =
    script (link None (Some 2) (Some 4) rules.Drop ∷ link (Some 1) (Some 2) None rules.Again ∷ link None (Some 0) (Some
    4) rules.Twice ∷ link (Some 1) (Some 2) (Some 1) rules.Drop ∷ []) (phase ((controls.Cut 2 1) ∷ (controls.Crash 0) ∷
    (controls.Restart 0) ∷ (controls.Restart 2) ∷ (controls.Restart 3) ∷ []) (asks 3 commands.Begin ∷ asks 3
    commands.Abort ∷ []) ∷ phase ((controls.Restart 3) ∷ []) (asks 3 commands.Begin ∷ asks 3 (commands.Do 0 2) ∷ asks 3
    (commands.Do 1 1) ∷ asks 3 commands.Commit ∷ asks 3 commands.Begin ∷ asks 3 commands.Commit ∷ []) ∷ phase
    ((controls.Restart 1) ∷ (controls.Restart 2) ∷ (controls.Restart 3) ∷ (controls.Crash 3) ∷ []) (asks 3
    commands.Begin ∷ asks 3 (commands.Do 1 0) ∷ asks 3 (commands.Do 1 2) ∷ asks 3 commands.Commit ∷ asks 3
    commands.Begin ∷ asks 3 (commands.Do 1 2) ∷ asks 3 (commands.Do 0 2) ∷ asks 3 (commands.Do 0 1) ∷ []) ∷ phase
    ((controls.Heal 2 1) ∷ (controls.Restart 0) ∷ (controls.Crash 2) ∷ (controls.Restart 2) ∷ (controls.Restart 3) ∷ [])
    (asks 3 (commands.Do 0 2) ∷ asks 3 commands.Commit ∷ []) ∷ [])

abbrev pub random18 : Script
random18 =
    script (link (Some 0) (Some 3) (Some 8) rules.Drop ∷ link (Some 3) (Some 1) (Some 5) rules.Twice ∷ link (Some 3)
    (Some 2) (Some 1) rules.Late ∷ link (Some 1) (Some 3) (Some 5) rules.Late ∷ link (Some 0) (Some 1) (Some 3)
    rules.Drop ∷ link (Some 3) (Some 3) (Some 2) rules.Late ∷ []) (phase ((controls.Cut 2 0) ∷ (controls.Restart 3) ∷
    []) [] ∷ phase ((controls.Heal 2 0) ∷ (controls.Restart 2) ∷ []) (asks 2 commands.Begin ∷ asks 2 (commands.Do 0 1) ∷
    []) ∷ phase ((controls.Cut 2 0) ∷ (controls.Crash 1) ∷ (controls.Restart 1) ∷ (controls.Restart 3) ∷ []) (asks 2
    (commands.Do 0 2) ∷ asks 2 (commands.Do 0 0) ∷ asks 2 (commands.Do 0 1) ∷ asks 3 commands.Begin ∷ asks 2
    (commands.Do 0 0) ∷ asks 3 commands.Commit ∷ asks 3 commands.Begin ∷ asks 3 (commands.Do 0 0) ∷ asks 3 (commands.Do
    0 2) ∷ []) ∷ phase ((controls.Heal 2 0) ∷ (controls.Cut 3 1) ∷ (controls.Restart 0) ∷ (controls.Crash 2) ∷
    (controls.Restart 2) ∷ (controls.Restart 3) ∷ (controls.Armed 3 arms.Stop 2) ∷ []) (asks 3 (commands.Do 0 0) ∷ asks
    2 (commands.Do 0 0) ∷ asks 3 commands.Abort ∷ []) ∷ [])

abbrev pub random19 : Script
random19 =
    script [] (phase ((controls.Restart 0) ∷ []) (asks 1 commands.Begin ∷ asks 1 (commands.Do 0 0) ∷ asks 1 (commands.Do
    0 1) ∷ asks 1 (commands.Do 0 2) ∷ asks 1 (commands.Do 0 0) ∷ asks 1 commands.Commit ∷ []) ∷ phase ((controls.Restart
    0) ∷ (controls.Restart 1) ∷ []) (asks 1 commands.Begin ∷ asks 1 (commands.Do 0 2) ∷ asks 1 (commands.Do 0 2) ∷ asks
    1 (commands.Do 0 2) ∷ []) ∷ phase ((controls.Restart 1) ∷ []) (asks 1 (commands.Do 0 1) ∷ asks 1 commands.Commit ∷
    []) ∷ phase [] (asks 1 commands.Begin ∷ asks 1 (commands.Do 0 2) ∷ asks 1 commands.Commit ∷ asks 1 commands.Begin ∷
    asks 1 (commands.Do 0 1) ∷ asks 1 (commands.Do 0 2) ∷ []) ∷ [])

abbrev pub random20 : Script
random20 =
    script [] (phase [] (asks 3 commands.Begin ∷ asks 3 (commands.Do 0 1) ∷ asks 3 commands.Commit ∷ []) ∷ phase
    ((controls.Restart 0) ∷ (controls.Restart 1) ∷ (controls.Restart 2) ∷ (controls.Restart 3) ∷ (controls.Restart 4) ∷
    []) (asks 2 commands.Abort ∷ asks 2 commands.Begin ∷ asks 2 (commands.Do 0 1) ∷ asks 2 commands.Abort ∷ asks 2
    commands.Begin ∷ asks 2 (commands.Do 0 0) ∷ asks 2 commands.Commit ∷ asks 3 commands.Abort ∷ asks 3 commands.Begin ∷
    asks 3 (commands.Do 0 0) ∷ asks 3 commands.Commit ∷ asks 3 commands.Begin ∷ asks 3 (commands.Do 0 0) ∷ asks 3
    commands.Commit ∷ []) ∷ [])

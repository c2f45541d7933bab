-- The random histories 1 to 10 are whole runs of their scripts.
use Rattle.std.specs.Prelude.{[], ◌∷◌, Some, None}
use Rattle.qc_script.specs.declared.script.Script.{Script}
use Rattle.tests_runs.specs.Words.{link, asks, phase, script}
use Rattle.qc_msg.specs.declared.step.Command.TheVariants as commands
use Rattle.qc_msg.specs.declared.step.Control.TheVariants as controls
use Rattle.qc_link.specs.declared.rule.Rule.TheVariants as rules
use Rattle.qc_outside.specs.declared.disk.ArmKind.TheVariants as arms

abbrev pub random1 : Script
random1 =
    script [] (phase ((controls.Restart 0) ∷ (controls.Crash 3) ∷ (controls.Restart 3) ∷ (controls.Restart 4) ∷
    (controls.Restart 5) ∷ []) (asks 4 commands.Begin ∷ asks 4 (commands.Do 0 1) ∷ asks 4 commands.Commit ∷ []) ∷ [])

abbrev pub random2 : Script
random2 =
    script (link None (Some 2) (Some 5) rules.Late ∷ link (Some 1) (Some 1) (Some 1) rules.Again ∷ link (Some 3) (Some
    4) (Some 1) rules.Late ∷ link (Some 1) (Some 0) (Some 8) rules.Late ∷ link (Some 0) (Some 0) (Some 2) rules.Drop ∷
    link None None (Some 2) rules.Drop ∷ []) (phase ((controls.Restart 3) ∷ []) (asks 4 commands.Begin ∷ asks 4
    commands.Commit ∷ asks 4 commands.Begin ∷ asks 4 (commands.Do 0 0) ∷ asks 4 commands.Commit ∷ []) ∷ phase
    ((controls.Cut 1 0) ∷ (controls.Restart 0) ∷ (controls.Restart 1) ∷ (controls.Restart 2) ∷ (controls.Crash 4) ∷
    (controls.Restart 4) ∷ []) (asks 4 commands.Begin ∷ asks 4 (commands.Do 0 0) ∷ asks 4 (commands.Do 0 0) ∷ asks 4
    commands.Commit ∷ []) ∷ phase ((controls.Heal 1 0) ∷ (controls.Restart 0) ∷ (controls.Restart 1) ∷ (controls.Crash
    3) ∷ (controls.Restart 3) ∷ []) (asks 4 commands.Begin ∷ asks 4 (commands.Do 0 0) ∷ asks 4 (commands.Do 0 0) ∷ asks
    4 (commands.Do 0 0) ∷ asks 4 commands.Commit ∷ []) ∷ phase ((controls.Armed 1 arms.Stop 8) ∷ (controls.Restart 3) ∷
    (controls.Restart 4) ∷ []) (asks 4 (commands.Do 0 0) ∷ asks 4 commands.Commit ∷ []) ∷ [])

abbrev pub random3 : Script
random3 =
    script (link (Some 2) (Some 1) (Some 7) rules.Late ∷ link None (Some 2) None rules.Twice ∷ link None (Some 1) (Some
    1) rules.Drop ∷ link (Some 2) (Some 1) (Some 1) rules.Twice ∷ link (Some 3) (Some 2) (Some 6) rules.Drop ∷ link
    (Some 3) None None rules.Again ∷ []) (phase ((controls.Crash 0) ∷ (controls.Restart 0) ∷ (controls.Restart 1) ∷
    (controls.Armed 2 arms.Fail 1) ∷ (controls.Restart 3) ∷ []) (asks 2 commands.Begin ∷ asks 2 (commands.Do 1 0) ∷ asks
    2 commands.Commit ∷ asks 2 commands.Begin ∷ []) ∷ phase ((controls.Restart 0) ∷ (controls.Restart 1) ∷
    (controls.Restart 3) ∷ []) (asks 2 commands.Commit ∷ []) ∷ phase ((controls.Restart 0) ∷ (controls.Crash 2) ∷
    (controls.Restart 2) ∷ []) (asks 2 commands.Begin ∷ asks 2 commands.Commit ∷ asks 2 commands.Begin ∷ []) ∷ phase
    ((controls.Crash 2) ∷ (controls.Restart 2) ∷ []) (asks 2 commands.Commit ∷ []) ∷ [])

abbrev pub random4 : Script
random4 =
    script [] (phase ((controls.Restart 2) ∷ []) (asks 1 commands.Begin ∷ asks 1 (commands.Do 0 2) ∷ asks 1
    commands.Commit ∷ []) ∷ phase ((controls.Restart 0) ∷ (controls.Restart 1) ∷ (controls.Restart 2) ∷
    (controls.Restart 1) ∷ (controls.Crash 0) ∷ (controls.Crash 1) ∷ []) (asks 1 commands.Begin ∷ asks 1 (commands.Do 1
    1) ∷ asks 1 (commands.Do 0 0) ∷ asks 1 (commands.Do 0 2) ∷ asks 1 commands.Commit ∷ []) ∷ phase ((controls.Restart
    0) ∷ (controls.Restart 2) ∷ []) (asks 1 commands.Begin ∷ asks 1 (commands.Do 1 0) ∷ asks 1 commands.Begin ∷ asks 1
    commands.Commit ∷ []) ∷ phase ((controls.Cut 0 1) ∷ (controls.Restart 2) ∷ []) (asks 1 commands.Begin ∷ asks 1
    (commands.Do 0 1) ∷ asks 1 commands.Commit ∷ []) ∷ [])

abbrev pub random5 : Script
random5 =
    script (link (Some 4) (Some 1) (Some 6) rules.Twice ∷ []) (phase ((controls.Cut 1 4) ∷ (controls.Crash 2) ∷
    (controls.Restart 2) ∷ (controls.Restart 5) ∷ (controls.Armed 5 arms.Fail 4) ∷ []) (asks 5 commands.Begin ∷ asks 5
    commands.Commit ∷ []) ∷ phase ((controls.Heal 1 4) ∷ (controls.Crash 0) ∷ (controls.Restart 0) ∷ (controls.Crash 3)
    ∷ (controls.Restart 3) ∷ (controls.Restart 4) ∷ (controls.Restart 5) ∷ []) (asks 5 commands.Begin ∷ asks 5
    (commands.Do 0 2) ∷ asks 5 commands.Commit ∷ []) ∷ phase ((controls.Armed 0 arms.Fail 8) ∷ (controls.Restart 1) ∷
    (controls.Restart 3) ∷ []) (asks 5 commands.Begin ∷ asks 5 (commands.Do 0 2) ∷ asks 5 commands.Commit ∷ asks 5
    commands.Begin ∷ asks 5 (commands.Do 0 1) ∷ []) ∷ phase ((controls.Restart 0) ∷ (controls.Restart 1) ∷
    (controls.Restart 3) ∷ (controls.Armed 3 arms.Fail 2) ∷ (controls.Restart 5) ∷ (controls.Armed 5 arms.Stop 8) ∷
    (controls.Restart 5) ∷ (controls.Restart 0) ∷ (controls.Restart 2) ∷ []) [] ∷ [])

abbrev pub random6 : Script
random6 =
    script (link None (Some 0) (Some 5) rules.Again ∷ []) (phase ((controls.Restart 0) ∷ (controls.Restart 1) ∷ [])
    (asks 2 commands.Begin ∷ []) ∷ phase ((controls.Cut 2 1) ∷ (controls.Restart 0) ∷ (controls.Armed 0 arms.Stop 3) ∷
    (controls.Crash 1) ∷ []) (asks 2 (commands.Do 0 0) ∷ asks 2 (commands.Do 0 0) ∷ asks 2 commands.Abort ∷ []) ∷ phase
    ((controls.Heal 2 1) ∷ (controls.Restart 0) ∷ (controls.Crash 0) ∷ (controls.Restart 2) ∷ (controls.Crash 2) ∷
    (controls.Crash 1) ∷ []) (asks 2 commands.Begin ∷ asks 2 (commands.Do 0 0) ∷ asks 2 (commands.Do 0 0) ∷ asks 2
    (commands.Do 0 0) ∷ asks 2 commands.Commit ∷ asks 2 commands.Begin ∷ asks 2 (commands.Do 0 0) ∷ asks 2
    commands.Abort ∷ []) ∷ phase ((controls.Crash 0) ∷ (controls.Restart 0) ∷ (controls.Crash 1) ∷ (controls.Restart 1)
    ∷ []) (asks 2 commands.Begin ∷ asks 2 commands.Commit ∷ []) ∷ [])

abbrev pub random7 : Script
random7 =
    script [] (phase ((controls.Cut 4 0) ∷ (controls.Crash 2) ∷ (controls.Restart 2) ∷ (controls.Restart 3) ∷
    (controls.Restart 4) ∷ (controls.Restart 3) ∷ (controls.Crash 1) ∷ []) (asks 3 commands.Begin ∷ asks 3 (commands.Do
    0 0) ∷ asks 3 commands.Abort ∷ asks 3 commands.Begin ∷ asks 3 (commands.Do 0 0) ∷ asks 3 (commands.Do 0 0) ∷ asks 3
    commands.Commit ∷ []) ∷ [])

abbrev pub random8 : Script
random8 =
    script [] (phase ((controls.Restart 1) ∷ (controls.Crash 2) ∷ (controls.Restart 2) ∷ (controls.Crash 2) ∷ []) (asks
    2 commands.Begin ∷ asks 2 (commands.Do 1 1) ∷ asks 2 (commands.Do 0 2) ∷ asks 2 (commands.Do 0 2) ∷ asks 2
    commands.Commit ∷ []) ∷ phase ((controls.Restart 0) ∷ (controls.Crash 2) ∷ (controls.Restart 2) ∷ []) (asks 2
    commands.Begin ∷ asks 2 (commands.Do 0 1) ∷ asks 2 (commands.Do 1 2) ∷ asks 2 commands.Commit ∷ []) ∷ [])

abbrev pub random9 : Script
random9 =
    script (link None (Some 3) None rules.Again ∷ link None (Some 4) (Some 8) rules.Again ∷ link (Some 3) (Some 4) (Some
    5) rules.Twice ∷ link (Some 6) (Some 2) (Some 8) rules.Late ∷ []) (phase ((controls.Restart 0) ∷ (controls.Restart
    1) ∷ (controls.Restart 4) ∷ (controls.Restart 5) ∷ (controls.Restart 6) ∷ (controls.Restart 2) ∷ []) [] ∷ phase
    ((controls.Restart 1) ∷ (controls.Restart 2) ∷ (controls.Restart 3) ∷ (controls.Armed 4 arms.Stop 4) ∷
    (controls.Restart 6) ∷ []) [] ∷ phase ((controls.Armed 0 arms.Stop 9) ∷ (controls.Crash 1) ∷ (controls.Restart 1) ∷
    (controls.Restart 3) ∷ (controls.Restart 6) ∷ []) (asks 6 commands.Begin ∷ asks 6 (commands.Do 1 1) ∷ asks 6
    commands.Commit ∷ []) ∷ [])

abbrev pub random10 : Script
random10 =
    script (link (Some 1) (Some 0) (Some 8) rules.Twice ∷ link None (Some 3) (Some 7) rules.Again ∷ []) (phase
    ((controls.Restart 4) ∷ []) (asks 1 commands.Begin ∷ asks 1 (commands.Do 1 0) ∷ asks 4 commands.Begin ∷ asks 1
    (commands.Do 1 0) ∷ asks 4 commands.Abort ∷ asks 1 (commands.Do 1 0) ∷ asks 1 commands.Abort ∷ asks 1 commands.Begin
    ∷ asks 1 commands.Commit ∷ []) ∷ phase ((controls.Restart 0) ∷ (controls.Restart 2) ∷ (controls.Crash 4) ∷
    (controls.Crash 0) ∷ (controls.Crash 2) ∷ []) [] ∷ phase ((controls.Restart 0) ∷ (controls.Restart 2) ∷
    (controls.Restart 3) ∷ []) (asks 1 commands.Begin ∷ asks 2 commands.Begin ∷ asks 2 (commands.Do 1 0) ∷ asks 2
    (commands.Do 0 0) ∷ asks 1 (commands.Do 1 0) ∷ asks 1 commands.Commit ∷ []) ∷ [])

-- The random histories 21 to 30 are whole runs of their scripts.
use Rattle.std.specs.Prelude.{[], ◌∷◌, Some, None}
use Rattle.qc_script.specs.declared.script.Script.{Script}
use Rattle.tests_runs.specs.Words.{link, asks, phase, script}
use Rattle.qc_msg.specs.declared.step.Command.TheVariants as commands
use Rattle.qc_msg.specs.declared.step.Control.TheVariants as controls
use Rattle.qc_link.specs.declared.rule.Rule.TheVariants as rules
use Rattle.qc_outside.specs.declared.disk.ArmKind.TheVariants as arms

abbrev pub random21 : Script
random21 =
    script [] (phase ((controls.Cut 0 1) ∷ (controls.Restart 0) ∷ (controls.Armed 1 arms.Fail 9) ∷ (controls.Armed 2
    arms.Fail 9) ∷ []) (asks 2 commands.Begin ∷ asks 2 (commands.Do 0 0) ∷ asks 2 (commands.Do 0 0) ∷ asks 2
    (commands.Do 0 1) ∷ asks 2 commands.Commit ∷ asks 2 commands.Begin ∷ []) ∷ phase ((controls.Heal 0 1) ∷
    (controls.Cut 0 2) ∷ (controls.Crash 0) ∷ (controls.Restart 0) ∷ (controls.Restart 1) ∷ (controls.Crash 2) ∷
    (controls.Restart 2) ∷ (controls.Restart 1) ∷ []) (asks 2 (commands.Do 0 0) ∷ asks 2 commands.Abort ∷ []) ∷ phase
    ((controls.Heal 0 2) ∷ (controls.Restart 0) ∷ (controls.Restart 1) ∷ []) (asks 2 commands.Begin ∷ asks 2
    (commands.Do 0 0) ∷ asks 2 (commands.Do 0 1) ∷ asks 2 (commands.Do 0 0) ∷ []) ∷ [])

abbrev pub random22 : Script
random22 =
    script (link (Some 0) (Some 3) (Some 7) rules.Twice ∷ link (Some 2) (Some 0) (Some 3) rules.Late ∷ []) (phase
    ((controls.Crash 0) ∷ (controls.Restart 0) ∷ (controls.Restart 1) ∷ (controls.Restart 2) ∷ (controls.Armed 2
    arms.Stop 7) ∷ (controls.Restart 3) ∷ (controls.Restart 4) ∷ (controls.Armed 4 arms.Stop 4) ∷ (controls.Restart 5) ∷
    (controls.Restart 6) ∷ []) (asks 6 commands.Begin ∷ asks 5 commands.Begin ∷ asks 6 (commands.Do 0 0) ∷ asks 5
    (commands.Do 0 1) ∷ asks 6 (commands.Do 0 0) ∷ asks 6 (commands.Do 0 1) ∷ asks 6 commands.Commit ∷ []) ∷ phase
    ((controls.Restart 4) ∷ (controls.Restart 5) ∷ (controls.Restart 6) ∷ []) (asks 5 (commands.Do 0 1) ∷ asks 5
    commands.Commit ∷ []) ∷ [])

abbrev pub random23 : Script
random23 =
    script [] (phase ((controls.Cut 0 2) ∷ (controls.Crash 0) ∷ (controls.Restart 0) ∷ (controls.Restart 4) ∷ []) (asks
    3 commands.Begin ∷ asks 4 commands.Begin ∷ asks 4 (commands.Do 0 1) ∷ asks 4 (commands.Do 0 1) ∷ asks 4
    commands.Commit ∷ asks 3 (commands.Do 0 1) ∷ asks 3 commands.Commit ∷ asks 3 commands.Begin ∷ asks 3 (commands.Do 0
    1) ∷ asks 3 commands.Commit ∷ []) ∷ phase ((controls.Heal 0 2) ∷ (controls.Armed 2 arms.Stop 1) ∷ (controls.Restart
    3) ∷ []) (asks 3 commands.Begin ∷ asks 3 (commands.Do 0 1) ∷ asks 4 commands.Begin ∷ asks 3 (commands.Do 0 0) ∷ asks
    4 (commands.Do 0 1) ∷ asks 3 (commands.Do 0 1) ∷ []) ∷ phase ((controls.Restart 0) ∷ (controls.Armed 3 arms.Fail 5)
    ∷ (controls.Crash 0) ∷ (controls.Restart 3) ∷ []) (asks 3 (commands.Do 0 0) ∷ asks 3 commands.Commit ∷ asks 4
    commands.Commit ∷ []) ∷ phase ((controls.Armed 1 arms.Stop 3) ∷ []) (asks 3 commands.Begin ∷ []) ∷ phase
    ((controls.Crash 0) ∷ (controls.Restart 0) ∷ (controls.Restart 4) ∷ []) [] ∷ phase ((controls.Restart 0) ∷
    (controls.Crash 0) ∷ []) (asks 3 (commands.Do 0 1) ∷ asks 3 (commands.Do 0 0) ∷ asks 3 commands.Abort ∷ []) ∷ phase
    ((controls.Restart 2) ∷ (controls.Restart 3) ∷ (controls.Restart 4) ∷ []) (asks 3 commands.Begin ∷ asks 3
    (commands.Do 0 1) ∷ asks 3 commands.Abort ∷ []) ∷ [])

abbrev pub random24 : Script
random24 =
    script [] (phase ((controls.Restart 3) ∷ (controls.Restart 4) ∷ (controls.Armed 4 arms.Stop 1) ∷ (controls.Restart
    5) ∷ (controls.Restart 6) ∷ []) (asks 4 commands.Begin ∷ asks 5 commands.Begin ∷ asks 5 (commands.Do 0 2) ∷ asks 5
    (commands.Do 0 0) ∷ asks 5 commands.Commit ∷ asks 5 commands.Begin ∷ asks 5 commands.Begin ∷ asks 4 (commands.Do 0
    1) ∷ asks 4 (commands.Do 0 0) ∷ asks 4 (commands.Do 0 1) ∷ []) ∷ phase ((controls.Restart 4) ∷ (controls.Restart 0)
    ∷ []) (asks 5 (commands.Do 0 0) ∷ []) ∷ phase ((controls.Crash 0) ∷ (controls.Restart 0) ∷ (controls.Restart 2) ∷
    (controls.Crash 3) ∷ (controls.Restart 4) ∷ []) [] ∷ [])

abbrev pub random25 : Script
random25 =
    script (link (Some 3) None (Some 5) rules.Late ∷ []) (phase ((controls.Crash 2) ∷ []) (asks 1 commands.Begin ∷ asks
    2 commands.Begin ∷ asks 3 commands.Begin ∷ asks 3 (commands.Do 1 0) ∷ asks 3 (commands.Do 1 0) ∷ asks 1 (commands.Do
    1 0) ∷ asks 3 commands.Commit ∷ asks 2 (commands.Do 1 0) ∷ asks 2 commands.Commit ∷ asks 1 (commands.Do 1 0) ∷ asks
    3 commands.Begin ∷ asks 1 (commands.Do 1 0) ∷ asks 1 commands.Commit ∷ asks 3 (commands.Do 0 0) ∷ asks 3
    (commands.Do 1 0) ∷ asks 3 (commands.Do 0 0) ∷ asks 1 commands.Begin ∷ asks 1 (commands.Do 0 0) ∷ []) ∷ phase
    ((controls.Cut 1 0) ∷ (controls.Restart 0) ∷ (controls.Restart 1) ∷ (controls.Restart 2) ∷ (controls.Restart 3) ∷
    []) [] ∷ phase ((controls.Heal 1 0) ∷ (controls.Crash 0) ∷ (controls.Restart 0) ∷ (controls.Armed 1 arms.Fail 1) ∷
    (controls.Restart 3) ∷ []) (asks 3 (commands.Do 0 0) ∷ asks 1 (commands.Do 1 0) ∷ asks 2 commands.Begin ∷ asks 1
    (commands.Do 0 0) ∷ asks 1 commands.Abort ∷ []) ∷ phase ((controls.Restart 1) ∷ (controls.Restart 3) ∷ []) [] ∷
    phase ((controls.Restart 0) ∷ (controls.Restart 2) ∷ (controls.Crash 3) ∷ (controls.Restart 3) ∷ []) (asks 1
    commands.Begin ∷ asks 1 (commands.Do 1 0) ∷ asks 3 (commands.Do 1 0) ∷ asks 3 commands.Commit ∷ asks 3
    commands.Begin ∷ asks 1 (commands.Do 1 0) ∷ asks 1 commands.Commit ∷ asks 3 (commands.Do 1 0) ∷ asks 3 (commands.Do
    0 0) ∷ asks 3 (commands.Do 1 0) ∷ asks 3 commands.Commit ∷ []) ∷ [])

abbrev pub random26 : Script
random26 =
    script (link None None (Some 3) rules.Drop ∷ link None None (Some 7) rules.Late ∷ []) (phase ((controls.Cut 0 1) ∷
    (controls.Restart 0) ∷ (controls.Crash 1) ∷ (controls.Restart 1) ∷ []) (asks 1 commands.Begin ∷ asks 1 (commands.Do
    0 2) ∷ asks 1 (commands.Do 0 1) ∷ []) ∷ phase ((controls.Heal 0 1) ∷ (controls.Restart 1) ∷ (controls.Armed 2
    arms.Fail 5) ∷ []) [] ∷ phase ((controls.Restart 0) ∷ (controls.Restart 1) ∷ (controls.Restart 2) ∷ (controls.Crash
    2) ∷ (controls.Crash 2) ∷ (controls.Restart 0) ∷ (controls.Crash 2) ∷ []) [] ∷ phase [] (asks 1 (commands.Do 0 1) ∷
    asks 2 commands.Begin ∷ asks 1 (commands.Do 0 1) ∷ asks 1 (commands.Do 0 1) ∷ asks 2 (commands.Do 0 1) ∷ asks 1
    commands.Commit ∷ asks 1 commands.Begin ∷ asks 1 (commands.Do 0 0) ∷ asks 1 (commands.Do 0 0) ∷ asks 1
    commands.Commit ∷ []) ∷ phase ((controls.Armed 0 arms.Stop 1) ∷ (controls.Restart 1) ∷ (controls.Restart 2) ∷ [])
    (asks 1 commands.Begin ∷ asks 2 (commands.Do 0 0) ∷ asks 1 commands.Commit ∷ asks 2 commands.Commit ∷ []) ∷ phase
    ((controls.Crash 1) ∷ (controls.Restart 1) ∷ (controls.Restart 2) ∷ []) (asks 1 commands.Begin ∷ asks 1 (commands.Do
    0 1) ∷ asks 2 commands.Begin ∷ asks 1 commands.Commit ∷ []) ∷ [])

abbrev pub random27 : Script
random27 =
    script (link (Some 0) (Some 3) (Some 7) rules.Again ∷ link (Some 2) None (Some 2) rules.Twice ∷ []) (phase
    ((controls.Restart 0) ∷ (controls.Armed 1 arms.Stop 5) ∷ []) (asks 3 commands.Begin ∷ asks 3 (commands.Do 0 0) ∷ [])
    ∷ phase ((controls.Restart 0) ∷ (controls.Armed 0 arms.Fail 3) ∷ (controls.Restart 1) ∷ (controls.Crash 2) ∷ [])
    (asks 3 (commands.Do 1 0) ∷ asks 3 commands.Commit ∷ []) ∷ phase ((controls.Restart 1) ∷ (controls.Armed 1 arms.Stop
    12) ∷ (controls.Crash 3) ∷ []) (asks 3 commands.Begin ∷ asks 3 (commands.Do 0 0) ∷ asks 3 (commands.Do 0 0) ∷ asks 3
    commands.Commit ∷ []) ∷ phase ((controls.Restart 0) ∷ (controls.Restart 2) ∷ []) (asks 3 commands.Begin ∷ asks 3
    (commands.Do 1 0) ∷ asks 3 commands.Commit ∷ []) ∷ phase ((controls.Restart 0) ∷ (controls.Restart 1) ∷
    (controls.Restart 2) ∷ (controls.Armed 3 arms.Stop 8) ∷ []) (asks 3 commands.Begin ∷ asks 3 (commands.Do 0 0) ∷ asks
    3 commands.Abort ∷ []) ∷ phase ((controls.Armed 3 arms.Fail 4) ∷ []) (asks 3 commands.Begin ∷ asks 3 (commands.Do 1
    1) ∷ asks 3 (commands.Do 0 0) ∷ asks 3 (commands.Do 0 0) ∷ asks 3 commands.Abort ∷ []) ∷ phase ((controls.Cut 1 3) ∷
    (controls.Restart 0) ∷ (controls.Restart 3) ∷ []) (asks 3 commands.Begin ∷ asks 3 (commands.Do 1 0) ∷ asks 3
    commands.Commit ∷ asks 3 commands.Begin ∷ asks 3 commands.Commit ∷ []) ∷ [])

abbrev pub random28 : Script
random28 =
    script [] (phase ((controls.Cut 5 4) ∷ (controls.Armed 0 arms.Fail 5) ∷ (controls.Restart 1) ∷ (controls.Restart 2)
    ∷ (controls.Restart 4) ∷ []) (asks 1 commands.Begin ∷ asks 1 commands.Commit ∷ []) ∷ phase ((controls.Restart 3) ∷
    (controls.Restart 4) ∷ (controls.Restart 5) ∷ []) [] ∷ phase ((controls.Crash 2) ∷ (controls.Restart 2) ∷
    (controls.Restart 3) ∷ []) (asks 1 commands.Begin ∷ asks 1 (commands.Do 1 1) ∷ asks 1 (commands.Do 0 0) ∷ asks 3
    commands.Begin ∷ asks 1 commands.Commit ∷ asks 3 (commands.Do 0 1) ∷ asks 2 commands.Begin ∷ asks 2 commands.Begin ∷
    asks 2 (commands.Do 0 2) ∷ asks 2 (commands.Do 0 0) ∷ asks 2 commands.Commit ∷ asks 3 commands.Commit ∷ []) ∷ phase
    ((controls.Restart 0) ∷ (controls.Armed 2 arms.Fail 3) ∷ (controls.Restart 3) ∷ (controls.Restart 5) ∷
    (controls.Restart 4) ∷ (controls.Crash 3) ∷ []) (asks 4 commands.Begin ∷ asks 2 commands.Begin ∷ asks 4 (commands.Do
    1 0) ∷ asks 2 commands.Commit ∷ asks 4 commands.Commit ∷ []) ∷ [])

abbrev pub random29 : Script
random29 =
    script [] (phase ((controls.Crash 1) ∷ (controls.Restart 1) ∷ (controls.Restart 2) ∷ (controls.Restart 5) ∷ [])
    (asks 4 commands.Begin ∷ asks 4 commands.Commit ∷ asks 5 commands.Begin ∷ asks 5 (commands.Do 1 0) ∷ asks 5
    (commands.Do 1 2) ∷ asks 5 (commands.Do 1 1) ∷ asks 5 commands.Commit ∷ []) ∷ phase ((controls.Restart 0) ∷
    (controls.Restart 1) ∷ (controls.Crash 3) ∷ (controls.Restart 3) ∷ (controls.Restart 5) ∷ []) (asks 5 commands.Begin
    ∷ asks 5 (commands.Do 0 2) ∷ asks 5 (commands.Do 1 0) ∷ asks 5 (commands.Do 1 0) ∷ asks 5 commands.Commit ∷ []) ∷
    phase ((controls.Restart 2) ∷ (controls.Restart 3) ∷ (controls.Restart 4) ∷ []) [] ∷ phase ((controls.Restart 0) ∷
    (controls.Armed 2 arms.Fail 9) ∷ (controls.Restart 3) ∷ (controls.Restart 4) ∷ (controls.Restart 6) ∷ []) [] ∷ phase
    ((controls.Crash 1) ∷ (controls.Restart 2) ∷ (controls.Restart 4) ∷ (controls.Restart 6) ∷ (controls.Crash 2) ∷
    (controls.Restart 4) ∷ (controls.Restart 2) ∷ []) (asks 4 commands.Begin ∷ asks 4 (commands.Do 1 0) ∷ asks 5
    commands.Begin ∷ asks 4 commands.Begin ∷ asks 4 (commands.Do 1 1) ∷ asks 5 (commands.Do 0 0) ∷ asks 5
    commands.Commit ∷ []) ∷ phase ((controls.Restart 3) ∷ (controls.Crash 4) ∷ (controls.Restart 4) ∷ (controls.Restart
    5) ∷ (controls.Restart 6) ∷ []) (asks 5 commands.Begin ∷ []) ∷ [])

abbrev pub random30 : Script
random30 =
    script (link (Some 2) (Some 3) None rules.Twice ∷ link (Some 6) None (Some 7) rules.Drop ∷ link None (Some 6) (Some
    1) rules.Late ∷ link (Some 4) (Some 4) (Some 4) rules.Late ∷ link (Some 0) None (Some 3) rules.Again ∷ link (Some 4)
    (Some 5) (Some 5) rules.Twice ∷ []) (phase ((controls.Restart 2) ∷ (controls.Restart 6) ∷ []) (asks 6 commands.Begin
    ∷ asks 4 commands.Begin ∷ asks 6 (commands.Do 1 0) ∷ asks 3 commands.Begin ∷ asks 3 (commands.Do 0 0) ∷ asks 6
    commands.Commit ∷ asks 3 commands.Commit ∷ asks 4 (commands.Do 1 0) ∷ asks 4 (commands.Do 1 0) ∷ asks 3
    commands.Begin ∷ asks 3 (commands.Do 0 0) ∷ asks 4 commands.Commit ∷ asks 3 commands.Commit ∷ []) ∷ phase
    ((controls.Cut 0 2) ∷ (controls.Restart 1) ∷ []) (asks 3 commands.Begin ∷ asks 3 (commands.Do 0 0) ∷ asks 6
    commands.Begin ∷ asks 6 (commands.Do 0 0) ∷ asks 6 commands.Commit ∷ []) ∷ phase ((controls.Heal 0 2) ∷
    (controls.Restart 0) ∷ (controls.Restart 1) ∷ (controls.Restart 2) ∷ (controls.Crash 4) ∷ (controls.Restart 4) ∷ [])
    (asks 6 commands.Begin ∷ asks 3 (commands.Do 1 0) ∷ asks 5 commands.Begin ∷ asks 5 (commands.Do 0 0) ∷ asks 5
    (commands.Do 0 0) ∷ asks 3 commands.Commit ∷ asks 5 (commands.Do 0 0) ∷ asks 6 (commands.Do 0 0) ∷ asks 6
    commands.Commit ∷ asks 3 commands.Begin ∷ asks 3 (commands.Do 1 0) ∷ asks 3 (commands.Do 0 0) ∷ asks 3 (commands.Do
    1 0) ∷ asks 3 commands.Commit ∷ []) ∷ phase ((controls.Cut 4 2) ∷ (controls.Restart 0) ∷ (controls.Crash 1) ∷
    (controls.Restart 1) ∷ (controls.Restart 4) ∷ (controls.Crash 6) ∷ []) (asks 6 commands.Begin ∷ asks 6 (commands.Do
    0 0) ∷ asks 6 commands.Commit ∷ asks 3 commands.Begin ∷ asks 3 commands.Commit ∷ asks 3 commands.Begin ∷ asks 3
    (commands.Do 1 0) ∷ asks 3 (commands.Do 1 0) ∷ asks 3 commands.Commit ∷ []) ∷ phase ((controls.Heal 4 2) ∷
    (controls.Armed 1 arms.Fail 3) ∷ (controls.Crash 6) ∷ []) (asks 5 (commands.Do 0 0) ∷ asks 6 commands.Begin ∷ asks 3
    commands.Begin ∷ asks 6 (commands.Do 0 0) ∷ asks 6 commands.Commit ∷ asks 3 (commands.Do 1 0) ∷ asks 5 (commands.Do
    1 0) ∷ asks 3 commands.Commit ∷ asks 3 commands.Begin ∷ asks 3 (commands.Do 0 0) ∷ asks 3 commands.Commit ∷ asks 5
    commands.Commit ∷ []) ∷ phase ((controls.Restart 1) ∷ (controls.Restart 3) ∷ (controls.Restart 4) ∷ (controls.Crash
    5) ∷ (controls.Restart 5) ∷ (controls.Armed 6 arms.Stop 7) ∷ []) (asks 6 commands.Begin ∷ asks 5 commands.Begin ∷
    asks 5 (commands.Do 1 0) ∷ asks 6 (commands.Do 1 0) ∷ asks 5 commands.Abort ∷ asks 6 commands.Commit ∷ asks 5
    commands.Begin ∷ asks 5 commands.Commit ∷ []) ∷ [])

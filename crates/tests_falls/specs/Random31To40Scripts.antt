-- The random histories 31 to 40 are whole runs of their scripts.
use Rattle.std.specs.Prelude.{[], ◌∷◌, Some, None}
use Rattle.qc_script.specs.declared.script.Script.{Script}
use Rattle.tests_runs.specs.Words.{link, asks, phase, script}
use Rattle.qc_msg.specs.declared.step.Command.TheVariants as commands
use Rattle.qc_msg.specs.declared.step.Control.TheVariants as controls
use Rattle.qc_link.specs.declared.rule.Rule.TheVariants as rules
use Rattle.qc_outside.specs.declared.disk.ArmKind.TheVariants as arms

abbrev pub random31 : Script
random31 =
    script (link None None None rules.Again ∷ link (Some 6) (Some 2) (Some 6) rules.Twice ∷ []) (phase ((controls.Cut 1
    3) ∷ (controls.Crash 6) ∷ (controls.Restart 6) ∷ (controls.Restart 7) ∷ []) (asks 7 commands.Begin ∷ asks 5
    commands.Begin ∷ asks 7 (commands.Do 0 2) ∷ asks 5 (commands.Do 0 2) ∷ asks 6 commands.Begin ∷ asks 6 (commands.Do 0
    1) ∷ asks 7 (commands.Do 0 1) ∷ asks 7 (commands.Do 0 2) ∷ asks 6 (commands.Do 0 1) ∷ asks 7 commands.Commit ∷ asks
    7 commands.Begin ∷ asks 7 (commands.Do 0 0) ∷ asks 6 (commands.Do 0 1) ∷ asks 6 (commands.Do 0 0) ∷ asks 6
    commands.Commit ∷ asks 7 commands.Begin ∷ asks 5 commands.Commit ∷ []) ∷ [])

abbrev pub random32 : Script
random32 =
    script [] (phase ((controls.Restart 0) ∷ (controls.Armed 0 arms.Stop 2) ∷ (controls.Restart 1) ∷ (controls.Restart
    2) ∷ (controls.Armed 2 arms.Fail 4) ∷ (controls.Restart 3) ∷ []) (asks 3 commands.Begin ∷ asks 3 (commands.Do 1 2) ∷
    asks 3 (commands.Do 1 2) ∷ asks 3 (commands.Do 1 1) ∷ asks 3 commands.Commit ∷ []) ∷ phase ((controls.Restart 1) ∷
    (controls.Restart 3) ∷ []) (asks 3 commands.Begin ∷ asks 3 (commands.Do 0 0) ∷ asks 3 commands.Abort ∷ asks 3
    commands.Begin ∷ asks 3 (commands.Do 0 1) ∷ asks 3 (commands.Do 0 2) ∷ []) ∷ phase ((controls.Restart 0) ∷
    (controls.Restart 1) ∷ (controls.Armed 3 arms.Fail 1) ∷ []) [] ∷ phase ((controls.Restart 0) ∷ (controls.Crash 2) ∷
    (controls.Restart 2) ∷ []) (asks 3 (commands.Do 0 1) ∷ asks 3 (commands.Do 0 1) ∷ asks 3 (commands.Do 1 0) ∷ asks 3
    commands.Commit ∷ []) ∷ phase ((controls.Restart 0) ∷ (controls.Restart 1) ∷ (controls.Restart 3) ∷ []) (asks 3
    commands.Begin ∷ asks 3 (commands.Do 0 1) ∷ asks 3 (commands.Do 1 1) ∷ asks 3 (commands.Do 1 2) ∷ []) ∷ [])

abbrev pub random33 : Script
random33 =
    script (link (Some 3) (Some 1) (Some 4) rules.Twice ∷ []) (phase ((controls.Crash 0) ∷ (controls.Restart 0) ∷
    (controls.Restart 1) ∷ (controls.Restart 3) ∷ []) (asks 3 commands.Begin ∷ asks 3 (commands.Do 1 2) ∷ asks 3
    (commands.Do 0 0) ∷ []) ∷ phase ((controls.Restart 1) ∷ []) (asks 3 (commands.Do 0 1) ∷ asks 3 (commands.Do 1 2) ∷
    asks 3 (commands.Do 0 0) ∷ []) ∷ phase ((controls.Restart 0) ∷ (controls.Restart 1) ∷ []) (asks 3 commands.Commit ∷
    asks 3 commands.Begin ∷ asks 3 (commands.Do 1 2) ∷ asks 3 commands.Commit ∷ []) ∷ [])

abbrev pub random34 : Script
random34 =
    script (link (Some 6) (Some 0) (Some 4) rules.Drop ∷ link (Some 5) None (Some 8) rules.Again ∷ link (Some 3) (Some
    0) (Some 1) rules.Drop ∷ link (Some 0) (Some 3) (Some 8) rules.Late ∷ link (Some 2) (Some 4) (Some 8) rules.Again ∷
    link None None (Some 6) rules.Late ∷ []) (phase ((controls.Restart 1) ∷ (controls.Restart 4) ∷ (controls.Restart 5)
    ∷ []) (asks 5 commands.Begin ∷ asks 5 (commands.Do 0 0) ∷ asks 5 commands.Commit ∷ []) ∷ phase ((controls.Crash 0) ∷
    (controls.Restart 0) ∷ (controls.Restart 1) ∷ (controls.Restart 2) ∷ []) (asks 5 (commands.Do 0 0) ∷ asks 5
    (commands.Do 1 0) ∷ []) ∷ phase ((controls.Restart 1) ∷ (controls.Restart 3) ∷ (controls.Restart 4) ∷
    (controls.Restart 5) ∷ []) (asks 5 (commands.Do 1 2) ∷ asks 5 (commands.Do 1 2) ∷ asks 5 commands.Abort ∷ []) ∷
    phase ((controls.Restart 0) ∷ (controls.Restart 1) ∷ (controls.Armed 4 arms.Stop 9) ∷ (controls.Restart 5) ∷
    (controls.Restart 6) ∷ []) (asks 5 commands.Begin ∷ asks 5 (commands.Do 0 2) ∷ asks 5 (commands.Do 1 1) ∷ asks 5
    (commands.Do 0 0) ∷ asks 5 commands.Commit ∷ asks 5 commands.Begin ∷ asks 5 (commands.Do 1 2) ∷ asks 5
    commands.Commit ∷ []) ∷ [])

abbrev pub random35 : Script
random35 =
    script [] (phase ((controls.Cut 3 8) ∷ (controls.Crash 0) ∷ (controls.Restart 0) ∷ (controls.Crash 1) ∷
    (controls.Restart 1) ∷ (controls.Restart 2) ∷ (controls.Crash 3) ∷ (controls.Restart 3) ∷ (controls.Crash 5) ∷
    (controls.Restart 5) ∷ (controls.Restart 6) ∷ (controls.Restart 7) ∷ (controls.Restart 1) ∷ []) (asks 5
    commands.Begin ∷ asks 5 (commands.Do 1 0) ∷ asks 7 commands.Begin ∷ asks 5 (commands.Do 1 2) ∷ asks 7 (commands.Do 0
    0) ∷ asks 8 commands.Begin ∷ asks 8 (commands.Do 1 0) ∷ asks 8 (commands.Do 1 0) ∷ asks 8 (commands.Do 1 0) ∷ asks 8
    commands.Commit ∷ []) ∷ phase ((controls.Heal 3 8) ∷ (controls.Restart 0) ∷ (controls.Restart 1) ∷ (controls.Restart
    2) ∷ (controls.Armed 5 arms.Stop 12) ∷ (controls.Restart 6) ∷ (controls.Crash 7) ∷ (controls.Restart 7) ∷ []) [] ∷
    phase ((controls.Restart 2) ∷ (controls.Restart 3) ∷ (controls.Restart 4) ∷ (controls.Restart 6) ∷ (controls.Restart
    7) ∷ (controls.Restart 8) ∷ (controls.Restart 0) ∷ (controls.Restart 7) ∷ (controls.Crash 4) ∷ []) (asks 7
    (commands.Do 1 1) ∷ asks 8 commands.Begin ∷ asks 7 (commands.Do 1 0) ∷ asks 7 (commands.Do 1 0) ∷ asks 8
    (commands.Do 0 0) ∷ asks 8 commands.Commit ∷ []) ∷ phase ((controls.Restart 1) ∷ (controls.Restart 2) ∷
    (controls.Restart 4) ∷ (controls.Armed 5 arms.Fail 4) ∷ (controls.Restart 6) ∷ (controls.Armed 7 arms.Stop 2) ∷
    (controls.Restart 8) ∷ []) (asks 8 commands.Begin ∷ asks 7 (commands.Do 0 0) ∷ asks 8 (commands.Do 0 0) ∷ asks 7
    (commands.Do 1 2) ∷ asks 7 commands.Commit ∷ []) ∷ [])

abbrev pub random36 : Script
random36 =
    script [] (phase [] (asks 2 commands.Begin ∷ asks 2 (commands.Do 1 0) ∷ asks 2 (commands.Do 1 0) ∷ asks 2
    commands.Commit ∷ []) ∷ phase ((controls.Restart 0) ∷ (controls.Restart 3) ∷ []) (asks 3 commands.Begin ∷ asks 2
    commands.Begin ∷ asks 3 (commands.Do 1 0) ∷ asks 2 commands.Commit ∷ asks 3 (commands.Do 0 1) ∷ asks 3
    commands.Commit ∷ []) ∷ phase ((controls.Crash 3) ∷ (controls.Restart 3) ∷ []) (asks 3 commands.Begin ∷ asks 3
    (commands.Do 0 0) ∷ asks 3 (commands.Do 0 1) ∷ asks 2 commands.Begin ∷ asks 2 (commands.Do 0 0) ∷ asks 2
    commands.Commit ∷ asks 3 commands.Commit ∷ []) ∷ phase ((controls.Restart 1) ∷ (controls.Armed 1 arms.Fail 12) ∷
    (controls.Restart 2) ∷ []) (asks 3 commands.Begin ∷ asks 3 (commands.Do 0 1) ∷ asks 3 (commands.Do 0 0) ∷ asks 3
    commands.Commit ∷ []) ∷ [])

abbrev pub random37 : Script
random37 =
    script (link (Some 1) (Some 0) None rules.Twice ∷ link (Some 2) (Some 3) (Some 8) rules.Late ∷ link (Some 0) (Some
    0) (Some 8) rules.Again ∷ link (Some 2) (Some 1) (Some 2) rules.Twice ∷ []) (phase ((controls.Restart 0) ∷
    (controls.Restart 1) ∷ (controls.Armed 3 arms.Fail 3) ∷ []) (asks 2 commands.Begin ∷ asks 2 (commands.Do 0 1) ∷ asks
    2 (commands.Do 0 2) ∷ asks 2 commands.Commit ∷ []) ∷ phase ((controls.Cut 3 0) ∷ (controls.Armed 1 arms.Fail 4) ∷
    (controls.Armed 2 arms.Stop 4) ∷ (controls.Crash 2) ∷ (controls.Restart 1) ∷ (controls.Restart 1) ∷ []) (asks 3
    commands.Begin ∷ asks 3 (commands.Do 0 2) ∷ asks 3 (commands.Do 0 1) ∷ asks 3 (commands.Do 0 1) ∷ []) ∷ phase
    ((controls.Heal 3 0) ∷ (controls.Restart 1) ∷ (controls.Armed 3 arms.Fail 5) ∷ []) (asks 2 commands.Begin ∷ asks 2
    (commands.Do 0 1) ∷ asks 2 (commands.Do 0 1) ∷ asks 2 (commands.Do 0 0) ∷ asks 2 commands.Commit ∷ []) ∷ phase
    ((controls.Restart 0) ∷ (controls.Crash 2) ∷ (controls.Restart 2) ∷ (controls.Armed 3 arms.Stop 1) ∷ []) (asks 2
    commands.Begin ∷ asks 2 (commands.Do 0 0) ∷ asks 2 (commands.Do 0 2) ∷ asks 2 commands.Commit ∷ []) ∷ phase
    ((controls.Restart 0) ∷ (controls.Armed 3 arms.Fail 8) ∷ []) (asks 2 commands.Begin ∷ asks 2 (commands.Do 0 0) ∷
    asks 3 commands.Commit ∷ asks 3 commands.Begin ∷ asks 3 commands.Commit ∷ asks 2 (commands.Do 0 1) ∷ asks 2
    (commands.Do 0 2) ∷ asks 2 (commands.Do 0 0) ∷ asks 2 commands.Commit ∷ []) ∷ [])

abbrev pub random38 : Script
random38 =
    script (link (Some 5) (Some 2) (Some 8) rules.Late ∷ link None (Some 1) (Some 2) rules.Drop ∷ []) (phase
    ((controls.Crash 2) ∷ (controls.Restart 2) ∷ (controls.Restart 3) ∷ (controls.Restart 5) ∷ []) [] ∷ phase
    ((controls.Armed 0 arms.Stop 2) ∷ (controls.Restart 2) ∷ (controls.Restart 5) ∷ []) (asks 4 commands.Begin ∷ asks 5
    commands.Begin ∷ asks 4 (commands.Do 0 0) ∷ asks 5 (commands.Do 1 1) ∷ asks 5 (commands.Do 0 1) ∷ asks 4
    (commands.Do 0 1) ∷ asks 5 (commands.Do 0 0) ∷ asks 5 (commands.Do 0 2) ∷ asks 4 (commands.Do 1 2) ∷ asks 5
    commands.Abort ∷ asks 4 commands.Commit ∷ []) ∷ phase ((controls.Restart 0) ∷ (controls.Restart 2) ∷ (controls.Armed
    5 arms.Stop 4) ∷ []) (asks 5 commands.Begin ∷ asks 5 (commands.Do 0 1) ∷ asks 4 commands.Begin ∷ asks 5
    commands.Commit ∷ asks 4 commands.Commit ∷ []) ∷ [])

abbrev pub random39 : Script
random39 =
    script (link (Some 0) (Some 1) None rules.Twice ∷ link (Some 3) None (Some 2) rules.Drop ∷ []) (phase
    ((controls.Restart 0) ∷ (controls.Restart 2) ∷ []) (asks 4 commands.Begin ∷ asks 4 (commands.Do 1 2) ∷ asks 4
    (commands.Do 0 1) ∷ asks 4 commands.Commit ∷ asks 4 commands.Begin ∷ asks 4 (commands.Do 0 1) ∷ asks 4 (commands.Do
    1 2) ∷ asks 4 commands.Commit ∷ []) ∷ phase ((controls.Restart 4) ∷ []) (asks 4 commands.Begin ∷ asks 4 (commands.Do
    1 1) ∷ asks 4 commands.Commit ∷ []) ∷ phase ((controls.Crash 2) ∷ (controls.Restart 2) ∷ (controls.Armed 3 arms.Stop
    2) ∷ (controls.Armed 4 arms.Fail 9) ∷ []) (asks 4 commands.Begin ∷ asks 4 (commands.Do 0 0) ∷ []) ∷ phase
    ((controls.Restart 1) ∷ (controls.Armed 2 arms.Fail 1) ∷ (controls.Restart 3) ∷ []) (asks 4 (commands.Do 0 2) ∷ asks
    4 (commands.Do 0 2) ∷ asks 4 (commands.Do 1 0) ∷ []) ∷ phase ((controls.Cut 3 0) ∷ (controls.Restart 0) ∷
    (controls.Restart 3) ∷ []) (asks 4 (commands.Do 0 1) ∷ asks 4 commands.Commit ∷ []) ∷ phase ((controls.Restart 0) ∷
    (controls.Restart 2) ∷ (controls.Restart 4) ∷ []) (asks 4 commands.Begin ∷ asks 4 (commands.Do 1 2) ∷ asks 4
    commands.Commit ∷ []) ∷ [])

abbrev pub random40 : Script
random40 =
    script (link (Some 4) (Some 0) (Some 6) rules.Late ∷ []) (phase ((controls.Crash 1) ∷ (controls.Restart 1) ∷
    (controls.Restart 4) ∷ (controls.Armed 4 arms.Stop 4) ∷ []) (asks 4 commands.Begin ∷ asks 4 (commands.Do 1 1) ∷ asks
    4 (commands.Do 1 0) ∷ asks 4 (commands.Do 0 0) ∷ []) ∷ phase ((controls.Restart 0) ∷ (controls.Armed 0 arms.Stop 12)
    ∷ (controls.Restart 3) ∷ (controls.Armed 4 arms.Fail 4) ∷ []) (asks 3 commands.Begin ∷ asks 3 commands.Commit ∷ [])
    ∷ phase ((controls.Armed 1 arms.Fail 4) ∷ (controls.Restart 2) ∷ (controls.Restart 3) ∷ (controls.Armed 3 arms.Stop
    4) ∷ (controls.Armed 4 arms.Stop 3) ∷ []) (asks 3 commands.Begin ∷ asks 3 (commands.Do 0 1) ∷ asks 3 commands.Commit
    ∷ []) ∷ phase ((controls.Restart 0) ∷ (controls.Restart 1) ∷ (controls.Crash 3) ∷ (controls.Restart 3) ∷
    (controls.Restart 4) ∷ []) (asks 3 commands.Begin ∷ asks 3 commands.Commit ∷ []) ∷ phase ((controls.Cut 1 3) ∷
    (controls.Restart 0) ∷ (controls.Crash 2) ∷ (controls.Restart 2) ∷ []) (asks 4 (commands.Do 1 1) ∷ asks 4
    (commands.Do 0 1) ∷ asks 4 (commands.Do 0 1) ∷ []) ∷ phase ((controls.Restart 1) ∷ []) [] ∷ phase ((controls.Restart
    0) ∷ (controls.Crash 1) ∷ (controls.Restart 1) ∷ (controls.Restart 2) ∷ (controls.Restart 3) ∷ (controls.Restart 4)
    ∷ []) (asks 4 (commands.Do 0 0) ∷ asks 4 (commands.Do 1 1) ∷ asks 3 commands.Begin ∷ asks 4 (commands.Do 0 0) ∷ asks
    3 (commands.Do 1 1) ∷ asks 4 (commands.Do 1 1) ∷ asks 4 (commands.Do 1 1) ∷ asks 4 (commands.Do 0 0) ∷ asks 4
    commands.Commit ∷ []) ∷ [])

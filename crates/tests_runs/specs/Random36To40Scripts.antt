-- The scripts of the random histories 36 to 40.
use Rattle.std.specs.Prelude.{[], ◌∷◌, Some, None}
use Rattle.qc_script.specs.declared.script.Script.{Script}
use Rattle.tests_runs.specs.Words.{link, asks, phase, script}
use Rattle.qc_msg.specs.declared.step.Command.TheVariants as commands
use Rattle.qc_msg.specs.declared.step.Control.TheVariants as controls
use Rattle.qc_link.specs.declared.rule.Rule.TheVariants as rules

abbrev pub random36 : Script
random36 =
    script (link (Some 0) None (Some 6) rules.Late ∷ []) (phase [] (asks 4 commands.Begin ∷ asks 3 commands.Begin ∷ asks
    4 (commands.Do 0 1) ∷ asks 1 commands.Begin ∷ asks 3 (commands.Do 1 2) ∷ asks 1 (commands.Do 0 0) ∷ asks 1
    (commands.Do 1 2) ∷ asks 2 commands.Begin ∷ asks 2 (commands.Do 0 2) ∷ asks 2 (commands.Do 1 2) ∷ asks 2
    commands.Commit ∷ asks 2 commands.Begin ∷ asks 1 commands.Commit ∷ asks 3 (commands.Do 1 0) ∷ asks 3 (commands.Do 1
    2) ∷ []) ∷ phase [] (asks 2 (commands.Do 1 0) ∷ asks 2 commands.Commit ∷ []) ∷ phase [] (asks 3 commands.Abort ∷ [])
    ∷ phase ((controls.Cut 0 2) ∷ []) [] ∷ phase ((controls.Heal 0 2) ∷ []) (asks 1 commands.Begin ∷ asks 3
    commands.Begin ∷ asks 1 (commands.Do 1 2) ∷ asks 1 (commands.Do 0 2) ∷ asks 3 (commands.Do 1 1) ∷ asks 1
    (commands.Do 1 2) ∷ asks 4 (commands.Do 1 2) ∷ asks 4 (commands.Do 0 1) ∷ asks 4 (commands.Do 1 2) ∷ asks 3
    (commands.Do 0 0) ∷ asks 1 (commands.Do 0 1) ∷ asks 3 (commands.Do 0 0) ∷ asks 3 commands.Begin ∷ asks 1
    commands.Commit ∷ asks 4 commands.Commit ∷ []) ∷ phase [] (asks 2 commands.Begin ∷ asks 1 commands.Begin ∷ asks 1
    (commands.Do 1 1) ∷ asks 1 commands.Commit ∷ asks 1 commands.Begin ∷ asks 1 (commands.Do 1 2) ∷ asks 1 (commands.Do
    0 1) ∷ asks 1 (commands.Do 1 1) ∷ asks 1 commands.Commit ∷ []) ∷ phase [] (asks 2 commands.Commit ∷ asks 1
    commands.Begin ∷ asks 2 commands.Begin ∷ asks 2 commands.Commit ∷ asks 1 (commands.Do 1 0) ∷ asks 1 (commands.Do 0
    1) ∷ asks 1 commands.Commit ∷ []) ∷ [])

abbrev pub random37 : Script
random37 =
    script (link None None (Some 3) rules.Again ∷ link (Some 2) (Some 2) (Some 2) rules.Drop ∷ link None (Some 0) (Some
    5) rules.Drop ∷ link None (Some 0) (Some 7) rules.Twice ∷ []) (phase [] (asks 2 commands.Begin ∷ asks 3
    commands.Begin ∷ asks 3 (commands.Do 0 0) ∷ asks 2 (commands.Do 0 0) ∷ asks 1 commands.Begin ∷ asks 3 (commands.Do 0
    0) ∷ asks 3 commands.Commit ∷ asks 1 (commands.Do 0 2) ∷ asks 1 (commands.Do 0 1) ∷ asks 1 (commands.Do 0 1) ∷ asks
    1 commands.Commit ∷ []) ∷ phase [] (asks 2 (commands.Do 0 1) ∷ asks 2 (commands.Do 0 2) ∷ asks 3 commands.Begin ∷
    asks 1 commands.Begin ∷ asks 1 (commands.Do 0 2) ∷ asks 2 commands.Commit ∷ asks 1 (commands.Do 0 1) ∷ []) ∷ phase
    [] (asks 2 commands.Begin ∷ asks 3 (commands.Do 0 1) ∷ asks 1 commands.Commit ∷ asks 1 commands.Begin ∷ asks 2
    (commands.Do 0 1) ∷ asks 2 commands.Commit ∷ asks 3 commands.Commit ∷ asks 3 commands.Begin ∷ asks 1 commands.Commit
    ∷ asks 3 (commands.Do 0 0) ∷ asks 3 commands.Commit ∷ []) ∷ phase ((controls.Cut 0 3) ∷ []) (asks 2 commands.Begin ∷
    asks 2 commands.Commit ∷ []) ∷ phase ((controls.Heal 0 3) ∷ (controls.Cut 1 3) ∷ []) (asks 2 commands.Begin ∷ asks 3
    commands.Begin ∷ asks 3 commands.Commit ∷ asks 1 commands.Begin ∷ asks 2 commands.Begin ∷ asks 1 (commands.Do 0 2) ∷
    asks 1 commands.Commit ∷ asks 1 commands.Begin ∷ asks 1 (commands.Do 0 0) ∷ []) ∷ phase ((controls.Heal 1 3) ∷ [])
    (asks 1 (commands.Do 0 1) ∷ asks 1 commands.Commit ∷ asks 1 commands.Begin ∷ asks 1 (commands.Do 0 1) ∷ asks 1
    (commands.Do 0 2) ∷ asks 1 commands.Commit ∷ []) ∷ phase [] (asks 1 commands.Begin ∷ asks 1 (commands.Do 0 1) ∷ asks
    1 (commands.Do 0 2) ∷ asks 1 (commands.Do 0 1) ∷ asks 1 commands.Commit ∷ []) ∷ [])

abbrev pub random38 : Script
random38 =
    script (link None (Some 6) (Some 4) rules.Drop ∷ link (Some 1) (Some 6) (Some 2) rules.Again ∷ link (Some 5) (Some
    4) None rules.Late ∷ link (Some 7) (Some 1) (Some 1) rules.Again ∷ link None None None rules.Again ∷ link None (Some
    0) (Some 6) rules.Drop ∷ []) (phase [] (asks 6 commands.Begin ∷ asks 7 commands.Begin ∷ asks 7 (commands.Do 0 0) ∷
    asks 4 commands.Begin ∷ asks 6 (commands.Do 0 2) ∷ asks 4 (commands.Do 0 0) ∷ asks 4 (commands.Do 0 0) ∷ asks 7
    (commands.Do 0 1) ∷ asks 7 commands.Commit ∷ asks 7 commands.Begin ∷ asks 7 (commands.Do 0 0) ∷ asks 7 (commands.Do
    0 0) ∷ asks 6 commands.Commit ∷ asks 7 (commands.Do 0 2) ∷ asks 7 commands.Commit ∷ []) ∷ phase [] (asks 6
    commands.Begin ∷ asks 6 (commands.Do 0 2) ∷ asks 6 commands.Commit ∷ []) ∷ [])

abbrev pub random39 : Script
random39 =
    script (link (Some 0) (Some 3) (Some 6) rules.Twice ∷ link (Some 3) (Some 2) (Some 2) rules.Again ∷ link None (Some
    3) (Some 3) rules.Late ∷ link (Some 2) (Some 3) (Some 6) rules.Late ∷ []) (phase [] (asks 5 commands.Begin ∷ asks 6
    commands.Begin ∷ asks 6 (commands.Do 0 1) ∷ asks 5 commands.Abort ∷ asks 5 commands.Begin ∷ asks 5 (commands.Do 1 0)
    ∷ asks 5 (commands.Do 0 1) ∷ []) ∷ phase [] (asks 5 (commands.Do 1 0) ∷ asks 5 (commands.Do 1 0) ∷ asks 5
    (commands.Do 0 0) ∷ asks 5 (commands.Do 1 0) ∷ asks 5 commands.Commit ∷ []) ∷ phase [] (asks 5 commands.Begin ∷ asks
    5 (commands.Do 0 0) ∷ asks 5 (commands.Do 0 1) ∷ asks 5 (commands.Do 0 1) ∷ asks 5 commands.Commit ∷ asks 5
    commands.Begin ∷ asks 5 (commands.Do 0 1) ∷ asks 5 commands.Commit ∷ []) ∷ phase [] [] ∷ phase [] (asks 6
    (commands.Do 1 0) ∷ asks 6 (commands.Do 0 1) ∷ asks 6 (commands.Do 1 0) ∷ asks 6 commands.Commit ∷ []) ∷ [])

abbrev pub random40 : Script
random40 =
    script (link None (Some 1) (Some 1) rules.Twice ∷ link None None (Some 8) rules.Again ∷ []) (phase [] (asks 3
    commands.Begin ∷ asks 5 commands.Begin ∷ asks 5 (commands.Do 1 1) ∷ asks 3 (commands.Do 1 0) ∷ asks 5 (commands.Do 0
    2) ∷ asks 5 (commands.Do 0 0) ∷ asks 5 commands.Commit ∷ asks 5 commands.Begin ∷ asks 5 (commands.Do 1 2) ∷ asks 5
    (commands.Do 1 1) ∷ asks 5 (commands.Do 1 0) ∷ asks 5 commands.Commit ∷ []) ∷ phase [] (asks 5 commands.Begin ∷ asks
    5 (commands.Do 0 0) ∷ asks 5 (commands.Do 0 2) ∷ asks 5 commands.Commit ∷ []) ∷ phase ((controls.Cut 0 3) ∷ [])
    (asks 5 (commands.Do 1 2) ∷ asks 3 (commands.Do 0 0) ∷ asks 5 (commands.Do 1 0) ∷ asks 4 commands.Begin ∷ asks 3
    (commands.Do 0 0) ∷ asks 5 commands.Commit ∷ asks 4 (commands.Do 0 0) ∷ asks 3 (commands.Do 0 2) ∷ []) ∷ phase
    ((controls.Heal 0 3) ∷ []) (asks 4 (commands.Do 0 0) ∷ asks 4 commands.Commit ∷ asks 4 commands.Begin ∷ asks 4
    (commands.Do 0 2) ∷ asks 4 commands.Abort ∷ []) ∷ phase [] (asks 4 commands.Begin ∷ asks 3 (commands.Do 1 0) ∷ asks
    4 (commands.Do 0 2) ∷ asks 3 (commands.Do 0 0) ∷ asks 4 (commands.Do 0 2) ∷ asks 4 (commands.Do 0 1) ∷ asks 4
    commands.Commit ∷ []) ∷ [])

-- The scripts of the random histories 21 to 30.
use Rattle.std.specs.Prelude.{[], ◌∷◌, Some, None}
use Rattle.qc_script.specs.declared.script.Script.{Script}
use Rattle.tests_runs.specs.Words.{link, asks, phase, script}
use Rattle.qc_msg.specs.declared.step.Command.TheVariants as commands
use Rattle.qc_msg.specs.declared.step.Control.TheVariants as controls
use Rattle.qc_link.specs.declared.rule.Rule.TheVariants as rules

abbrev pub random21 : Script
random21 =
    script (link (Some 3) (Some 0) (Some 3) rules.Late ∷ []) (phase [] [] ∷ phase [] (asks 3 commands.Begin ∷ asks 3
    (commands.Do 0 2) ∷ asks 3 (commands.Do 0 1) ∷ asks 3 commands.Commit ∷ asks 3 commands.Begin ∷ asks 3 (commands.Do
    0 2) ∷ asks 3 (commands.Do 0 2) ∷ asks 3 commands.Commit ∷ []) ∷ phase [] (asks 3 commands.Abort ∷ asks 4
    commands.Abort ∷ asks 3 commands.Begin ∷ asks 3 (commands.Do 0 2) ∷ asks 3 commands.Commit ∷ asks 4 commands.Begin ∷
    asks 3 commands.Begin ∷ asks 4 (commands.Do 0 1) ∷ asks 4 commands.Abort ∷ asks 4 commands.Begin ∷ asks 4
    (commands.Do 0 1) ∷ asks 3 (commands.Do 0 0) ∷ asks 4 (commands.Do 0 1) ∷ asks 4 commands.Commit ∷ asks 3
    commands.Commit ∷ asks 3 commands.Begin ∷ asks 3 (commands.Do 0 2) ∷ asks 3 commands.Commit ∷ []) ∷ [])

abbrev pub random22 : Script
random22 =
    script (link (Some 6) (Some 7) None rules.Again ∷ link None (Some 4) (Some 3) rules.Late ∷ link (Some 6) (Some 3)
    (Some 8) rules.Twice ∷ link None (Some 1) (Some 4) rules.Again ∷ []) (phase [] (asks 5 commands.Begin ∷ asks 6
    commands.Begin ∷ asks 6 (commands.Do 1 0) ∷ asks 7 commands.Begin ∷ asks 6 commands.Commit ∷ asks 7 (commands.Do 0
    1) ∷ asks 7 commands.Commit ∷ asks 5 (commands.Do 0 1) ∷ asks 5 commands.Commit ∷ []) ∷ phase [] (asks 7
    commands.Begin ∷ asks 7 (commands.Do 0 1) ∷ asks 5 commands.Begin ∷ asks 5 (commands.Do 0 1) ∷ asks 5 (commands.Do 1
    1) ∷ asks 7 (commands.Do 0 1) ∷ asks 7 (commands.Do 0 1) ∷ asks 7 (commands.Do 0 1) ∷ asks 7 commands.Commit ∷ []) ∷
    [])

abbrev pub random23 : Script
random23 =
    script [] (phase [] (asks 3 commands.Begin ∷ asks 3 (commands.Do 0 2) ∷ asks 3 (commands.Do 0 2) ∷ asks 4
    commands.Begin ∷ asks 3 commands.Commit ∷ asks 2 commands.Begin ∷ asks 2 commands.Abort ∷ asks 4 commands.Commit ∷
    []) ∷ phase [] (asks 3 commands.Begin ∷ asks 2 commands.Begin ∷ asks 5 commands.Begin ∷ asks 3 (commands.Do 0 0) ∷
    asks 2 (commands.Do 0 1) ∷ asks 2 commands.Commit ∷ asks 2 commands.Begin ∷ asks 2 commands.Commit ∷ asks 3
    (commands.Do 0 0) ∷ asks 3 (commands.Do 0 2) ∷ asks 3 commands.Commit ∷ asks 5 (commands.Do 0 1) ∷ asks 3
    commands.Begin ∷ asks 5 (commands.Do 0 0) ∷ asks 5 commands.Commit ∷ asks 3 (commands.Do 0 1) ∷ []) ∷ [])

abbrev pub random24 : Script
random24 =
    script (link (Some 0) None (Some 1) rules.Late ∷ link (Some 2) (Some 5) (Some 2) rules.Drop ∷ link None (Some 1)
    (Some 2) rules.Late ∷ link (Some 2) (Some 4) (Some 1) rules.Late ∷ link (Some 1) (Some 4) (Some 1) rules.Again ∷
    link (Some 6) None (Some 7) rules.Late ∷ []) (phase [] (asks 5 commands.Begin ∷ asks 6 commands.Begin ∷ asks 4
    commands.Begin ∷ asks 6 (commands.Do 0 2) ∷ asks 4 commands.Commit ∷ asks 6 (commands.Do 0 1) ∷ asks 4
    commands.Begin ∷ asks 4 commands.Commit ∷ asks 6 commands.Commit ∷ asks 6 commands.Begin ∷ asks 6 (commands.Do 0 1)
    ∷ asks 6 (commands.Do 0 0) ∷ asks 6 (commands.Do 0 1) ∷ asks 6 commands.Commit ∷ []) ∷ phase [] (asks 5 (commands.Do
    0 1) ∷ asks 5 commands.Abort ∷ asks 6 commands.Begin ∷ asks 4 commands.Begin ∷ asks 4 commands.Commit ∷ asks 6
    (commands.Do 0 0) ∷ asks 6 commands.Commit ∷ []) ∷ [])

abbrev pub random25 : Script
random25 =
    script (link (Some 0) (Some 3) (Some 5) rules.Again ∷ link (Some 1) (Some 4) (Some 1) rules.Late ∷ []) (phase []
    (asks 4 commands.Begin ∷ asks 4 (commands.Do 0 1) ∷ asks 4 (commands.Do 0 0) ∷ asks 4 (commands.Do 0 0) ∷ asks 4
    (commands.Do 0 1) ∷ asks 4 commands.Abort ∷ []) ∷ phase [] (asks 4 commands.Begin ∷ asks 4 (commands.Do 0 0) ∷ asks
    4 commands.Commit ∷ []) ∷ phase ((controls.Cut 0 3) ∷ []) (asks 3 commands.Begin ∷ asks 3 (commands.Do 0 1) ∷ asks 3
    (commands.Do 0 0) ∷ asks 3 (commands.Do 0 1) ∷ asks 3 commands.Commit ∷ []) ∷ [])

abbrev pub random26 : Script
random26 =
    script (link (Some 2) (Some 0) (Some 5) rules.Late ∷ link (Some 2) (Some 1) (Some 4) rules.Drop ∷ link (Some 3)
    (Some 0) (Some 4) rules.Drop ∷ link (Some 3) (Some 1) (Some 3) rules.Drop ∷ []) (phase [] (asks 3 commands.Begin ∷
    asks 3 (commands.Do 0 0) ∷ []) ∷ phase [] (asks 3 commands.Commit ∷ asks 3 commands.Begin ∷ asks 3 (commands.Do 0 0)
    ∷ asks 3 commands.Commit ∷ asks 3 commands.Begin ∷ asks 3 (commands.Do 1 1) ∷ asks 3 commands.Commit ∷ []) ∷ phase
    [] (asks 2 commands.Abort ∷ asks 2 commands.Begin ∷ asks 2 (commands.Do 1 2) ∷ asks 2 commands.Commit ∷ asks 2
    commands.Begin ∷ asks 2 (commands.Do 0 2) ∷ asks 2 commands.Commit ∷ asks 3 commands.Abort ∷ asks 3 commands.Begin ∷
    asks 3 (commands.Do 0 0) ∷ asks 3 commands.Commit ∷ asks 3 commands.Begin ∷ asks 3 (commands.Do 0 1) ∷ asks 3
    commands.Commit ∷ []) ∷ [])

abbrev pub random27 : Script
random27 =
    script [] (phase [] (asks 3 commands.Begin ∷ asks 3 (commands.Do 1 2) ∷ asks 3 (commands.Do 0 1) ∷ asks 3
    (commands.Do 1 1) ∷ asks 3 commands.Commit ∷ asks 3 commands.Begin ∷ asks 3 (commands.Do 0 2) ∷ asks 3
    commands.Begin ∷ []) ∷ phase [] (asks 3 (commands.Do 0 1) ∷ asks 3 (commands.Do 0 2) ∷ asks 3 commands.Commit ∷ [])
    ∷ phase [] (asks 3 commands.Begin ∷ asks 3 (commands.Do 0 0) ∷ []) ∷ phase [] (asks 3 (commands.Do 1 1) ∷ asks 3
    (commands.Do 1 0) ∷ []) ∷ phase [] (asks 3 (commands.Do 0 0) ∷ asks 3 commands.Commit ∷ []) ∷ [])

abbrev pub random28 : Script
random28 =
    script (link (Some 2) (Some 3) (Some 4) rules.Drop ∷ link (Some 5) None (Some 8) rules.Again ∷ link (Some 3) (Some
    0) (Some 1) rules.Drop ∷ link (Some 0) (Some 3) (Some 8) rules.Late ∷ link (Some 2) (Some 4) (Some 8) rules.Again ∷
    link None None (Some 6) rules.Late ∷ []) (phase [] (asks 5 commands.Begin ∷ asks 5 (commands.Do 1 2) ∷ asks 5
    commands.Commit ∷ []) ∷ phase [] (asks 5 commands.Begin ∷ asks 5 (commands.Do 1 0) ∷ asks 5 commands.Commit ∷ []) ∷
    phase [] (asks 5 commands.Begin ∷ asks 5 (commands.Do 1 1) ∷ asks 5 commands.Commit ∷ []) ∷ phase [] (asks 5
    commands.Begin ∷ asks 5 (commands.Do 1 0) ∷ asks 5 (commands.Do 0 0) ∷ []) ∷ [])

abbrev pub random29 : Script
random29 =
    script (link None (Some 8) (Some 7) rules.Drop ∷ []) (phase [] (asks 8 commands.Begin ∷ asks 6 commands.Begin ∷ asks
    6 (commands.Do 1 0) ∷ asks 8 (commands.Do 0 1) ∷ asks 6 commands.Abort ∷ asks 8 commands.Commit ∷ asks 5
    commands.Begin ∷ asks 5 (commands.Do 0 0) ∷ asks 5 commands.Commit ∷ asks 5 commands.Begin ∷ asks 5 (commands.Do 1
    0) ∷ asks 5 commands.Commit ∷ []) ∷ [])

abbrev pub random30 : Script
random30 =
    script (link (Some 0) (Some 3) (Some 3) rules.Late ∷ link None (Some 2) (Some 8) rules.Late ∷ []) (phase
    ((controls.Cut 0 4) ∷ []) (asks 4 commands.Begin ∷ asks 4 commands.Commit ∷ []) ∷ phase [] (asks 4 commands.Begin ∷
    asks 4 (commands.Do 0 0) ∷ asks 4 (commands.Do 0 0) ∷ asks 4 (commands.Do 0 0) ∷ asks 4 commands.Commit ∷ []) ∷
    phase ((controls.Heal 0 4) ∷ []) (asks 4 commands.Begin ∷ asks 4 commands.Commit ∷ asks 4 commands.Begin ∷ asks 4
    (commands.Do 1 0) ∷ asks 4 commands.Commit ∷ []) ∷ phase [] (asks 4 commands.Begin ∷ asks 4 (commands.Do 0 1) ∷ asks
    4 (commands.Do 1 1) ∷ asks 4 commands.Commit ∷ []) ∷ phase [] (asks 4 commands.Begin ∷ asks 4 (commands.Do 1 1) ∷
    asks 4 commands.Commit ∷ []) ∷ phase [] (asks 4 commands.Begin ∷ asks 4 (commands.Do 1 0) ∷ asks 4 commands.Commit ∷
    []) ∷ [])

-- The scripts of the random histories 1 to 10.
use Rattle.std.specs.Prelude.{[], ◌∷◌, Some, None}
use Rattle.qc_script.specs.declared.script.Script.{Script}
use Rattle.tests_runs.specs.Words.{link, asks, phase, script}
use Rattle.qc_msg.specs.declared.step.Command.TheVariants as commands
use Rattle.qc_msg.specs.declared.step.Control.TheVariants as controls
use Rattle.qc_link.specs.declared.rule.Rule.TheVariants as rules

abbrev pub random1 : Script
random1 =
    script [] (phase ((controls.Cut 0 3) ∷ []) [] ∷ phase ((controls.Heal 0 3) ∷ []) [] ∷ phase [] (asks 3
    commands.Begin ∷ asks 3 (commands.Do 0 1) ∷ asks 3 commands.Commit ∷ []) ∷ phase [] [] ∷ phase [] (asks 2
    commands.Begin ∷ asks 2 commands.Begin ∷ []) ∷ [])

abbrev pub random2 : Script
random2 =
    script (link (Some 1) None None rules.Drop ∷ []) (phase [] [] ∷ phase [] (asks 3 commands.Begin ∷ asks 4
    commands.Begin ∷ asks 4 (commands.Do 0 1) ∷ asks 4 commands.Commit ∷ asks 3 (commands.Do 0 2) ∷ asks 3
    commands.Commit ∷ []) ∷ [])

abbrev pub random3 : Script
random3 =
    script (link (Some 0) None (Some 2) rules.Twice ∷ link (Some 1) (Some 0) (Some 3) rules.Late ∷ []) (phase [] (asks 1
    commands.Begin ∷ asks 1 (commands.Do 0 1) ∷ asks 1 (commands.Do 0 1) ∷ asks 1 commands.Commit ∷ []) ∷ phase [] (asks
    1 commands.Begin ∷ asks 1 (commands.Do 0 0) ∷ asks 1 (commands.Do 0 1) ∷ asks 1 commands.Commit ∷ []) ∷ [])

abbrev pub random4 : Script
random4 =
    script (link None (Some 1) None rules.Again ∷ link (Some 1) (Some 0) (Some 3) rules.Twice ∷ link (Some 1) (Some 1)
    (Some 1) rules.Drop ∷ link None None (Some 5) rules.Again ∷ link None (Some 1) None rules.Twice ∷ link None None
    (Some 4) rules.Late ∷ []) (phase [] (asks 1 commands.Begin ∷ []) ∷ phase ((controls.Cut 1 0) ∷ []) (asks 1
    (commands.Do 1 0) ∷ asks 1 commands.Commit ∷ asks 1 commands.Begin ∷ asks 1 (commands.Do 1 1) ∷ asks 1
    commands.Commit ∷ []) ∷ phase ((controls.Heal 1 0) ∷ []) (asks 1 commands.Begin ∷ asks 1 (commands.Do 0 1) ∷ asks 1
    commands.Abort ∷ []) ∷ phase [] (asks 1 commands.Begin ∷ asks 1 (commands.Do 0 2) ∷ asks 1 commands.Abort ∷ []) ∷
    [])

abbrev pub random5 : Script
random5 =
    script [] (phase [] (asks 2 commands.Begin ∷ asks 2 commands.Abort ∷ asks 5 commands.Begin ∷ asks 5 (commands.Do 0
    0) ∷ asks 5 (commands.Do 1 1) ∷ asks 5 (commands.Do 0 1) ∷ asks 5 commands.Commit ∷ asks 5 commands.Begin ∷ asks 5
    (commands.Do 1 0) ∷ []) ∷ phase [] [] ∷ [])

abbrev pub random6 : Script
random6 =
    script [] (phase [] (asks 6 commands.Begin ∷ asks 6 (commands.Do 0 0) ∷ asks 6 (commands.Do 0 0) ∷ asks 6
    commands.Commit ∷ []) ∷ [])

abbrev pub random7 : Script
random7 =
    script (link (Some 1) None None rules.Twice ∷ link (Some 2) (Some 1) (Some 4) rules.Late ∷ []) (phase [] [] ∷ phase
    ((controls.Cut 3 1) ∷ []) (asks 4 commands.Begin ∷ asks 4 commands.Commit ∷ asks 5 commands.Begin ∷ asks 5
    (commands.Do 0 0) ∷ asks 5 (commands.Do 0 0) ∷ asks 5 (commands.Do 0 2) ∷ []) ∷ phase ((controls.Heal 3 1) ∷ []) []
    ∷ [])

abbrev pub random8 : Script
random8 =
    script [] (phase [] (asks 2 commands.Begin ∷ asks 2 (commands.Do 0 2) ∷ asks 2 (commands.Do 0 1) ∷ []) ∷ phase [] []
    ∷ phase [] (asks 1 commands.Begin ∷ asks 1 (commands.Do 0 0) ∷ asks 1 (commands.Do 0 1) ∷ asks 1 (commands.Do 0 0) ∷
    asks 1 (commands.Do 0 2) ∷ asks 1 (commands.Do 0 1) ∷ asks 1 commands.Abort ∷ []) ∷ phase [] [] ∷ phase [] (asks 1
    (commands.Do 0 2) ∷ asks 1 (commands.Do 0 2) ∷ asks 1 (commands.Do 0 1) ∷ asks 1 commands.Abort ∷ []) ∷ phase
    ((controls.Cut 0 2) ∷ []) (asks 2 (commands.Do 0 0) ∷ asks 2 (commands.Do 0 2) ∷ asks 2 (commands.Do 0 1) ∷ asks 2
    (commands.Do 0 2) ∷ []) ∷ phase ((controls.Heal 0 2) ∷ (controls.Cut 0 1) ∷ []) [] ∷ [])

abbrev pub random9 : Script
random9 =
    script (link None (Some 0) (Some 5) rules.Again ∷ []) (phase [] (asks 2 commands.Begin ∷ asks 1 commands.Begin ∷
    asks 2 commands.Abort ∷ asks 1 (commands.Do 0 0) ∷ asks 3 commands.Begin ∷ asks 3 (commands.Do 0 2) ∷ asks 1
    (commands.Do 0 0) ∷ asks 1 (commands.Do 0 2) ∷ asks 3 commands.Begin ∷ []) ∷ phase [] (asks 3 commands.Commit ∷ asks
    2 commands.Begin ∷ asks 2 commands.Commit ∷ asks 2 commands.Begin ∷ asks 2 (commands.Do 0 2) ∷ asks 2 (commands.Do 0
    2) ∷ asks 2 (commands.Do 0 1) ∷ asks 2 commands.Commit ∷ []) ∷ [])

abbrev pub random10 : Script
random10 =
    script [] (phase [] (asks 2 commands.Begin ∷ asks 2 (commands.Do 0 0) ∷ asks 2 commands.Abort ∷ []) ∷ phase
    ((controls.Cut 1 0) ∷ []) (asks 2 commands.Begin ∷ asks 2 (commands.Do 0 1) ∷ asks 2 (commands.Do 0 1) ∷ asks 2
    commands.Commit ∷ []) ∷ phase [] (asks 2 commands.Begin ∷ asks 2 commands.Commit ∷ asks 2 (commands.Do 0 0) ∷ asks 2
    (commands.Do 0 1) ∷ asks 2 (commands.Do 0 0) ∷ []) ∷ phase [] (asks 2 (commands.Do 0 1) ∷ asks 2 commands.Commit ∷
    asks 2 commands.Begin ∷ asks 2 (commands.Do 0 1) ∷ asks 2 (commands.Do 0 1) ∷ []) ∷ [])

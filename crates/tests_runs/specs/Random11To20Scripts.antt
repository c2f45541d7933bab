-- The scripts of the random histories 11 to 20.
use Rattle.std.specs.Prelude.{[], ◌∷◌, Some, None}
use Rattle.qc_script.specs.declared.script.Script.{Script}
use Rattle.tests_runs.specs.Words.{link, asks, phase, script}
use Rattle.qc_msg.specs.declared.step.Command.TheVariants as commands
use Rattle.qc_msg.specs.declared.step.Control.TheVariants as controls
use Rattle.qc_link.specs.declared.rule.Rule.TheVariants as rules

abbrev pub random11 : Script
random11 =
    script [] (phase ((controls.Cut 0 2) ∷ []) (asks 4 commands.Begin ∷ asks 5 commands.Begin ∷ asks 4 (commands.Do 1 1)
    ∷ asks 5 (commands.Do 0 2) ∷ asks 3 commands.Begin ∷ asks 3 commands.Commit ∷ asks 5 (commands.Do 1 1) ∷ asks 4
    commands.Abort ∷ asks 5 (commands.Do 1 2) ∷ asks 5 commands.Commit ∷ []) ∷ phase ((controls.Heal 0 2) ∷ []) (asks 3
    commands.Begin ∷ asks 3 commands.Commit ∷ []) ∷ [])

abbrev pub random12 : Script
random12 =
    script (link (Some 2) (Some 3) (Some 1) rules.Again ∷ link (Some 0) (Some 0) (Some 2) rules.Again ∷ link (Some 2)
    None (Some 2) rules.Late ∷ link (Some 2) (Some 1) (Some 5) rules.Late ∷ []) (phase [] (asks 3 commands.Begin ∷ asks
    3 (commands.Do 0 0) ∷ asks 3 commands.Commit ∷ []) ∷ phase ((controls.Cut 0 1) ∷ []) (asks 2 commands.Begin ∷ asks 2
    (commands.Do 0 2) ∷ asks 2 (commands.Do 0 2) ∷ asks 2 (commands.Do 1 1) ∷ []) ∷ phase ((controls.Heal 0 1) ∷ []) []
    ∷ phase [] (asks 2 (commands.Do 1 1) ∷ asks 2 (commands.Do 1 0) ∷ asks 2 (commands.Do 0 1) ∷ asks 2 commands.Commit
    ∷ []) ∷ [])

abbrev pub random13 : Script
random13 =
    script [] (phase [] (asks 7 commands.Begin ∷ asks 7 (commands.Do 0 1) ∷ asks 7 (commands.Do 0 1) ∷ []) ∷ phase []
    (asks 5 commands.Begin ∷ asks 5 (commands.Do 0 1) ∷ asks 5 commands.Commit ∷ []) ∷ phase [] (asks 5 commands.Begin ∷
    asks 5 (commands.Do 0 0) ∷ asks 5 (commands.Do 0 2) ∷ []) ∷ phase ((controls.Cut 2 3) ∷ []) [] ∷ [])

abbrev pub random14 : Script
random14 =
    script [] (phase ((controls.Cut 0 1) ∷ []) (asks 3 commands.Begin ∷ asks 3 (commands.Do 0 0) ∷ asks 3
    commands.Commit ∷ []) ∷ phase ((controls.Heal 0 1) ∷ []) (asks 3 commands.Begin ∷ asks 3 (commands.Do 0 0) ∷ asks 3
    (commands.Do 0 0) ∷ asks 3 (commands.Do 0 0) ∷ asks 3 commands.Begin ∷ asks 3 commands.Commit ∷ []) ∷ phase [] (asks
    3 commands.Commit ∷ []) ∷ [])

abbrev pub random15 : Script
random15 =
    script (link (Some 0) None (Some 8) rules.Again ∷ link None None (Some 1) rules.Twice ∷ link (Some 0) None (Some 6)
    rules.Again ∷ link (Some 0) (Some 1) (Some 1) rules.Again ∷ link (Some 0) None (Some 8) rules.Again ∷ link (Some 1)
    (Some 1) (Some 4) rules.Twice ∷ []) (phase [] (asks 1 commands.Begin ∷ asks 1 commands.Abort ∷ []) ∷ phase [] (asks
    1 commands.Begin ∷ asks 1 (commands.Do 1 0) ∷ asks 1 commands.Commit ∷ asks 1 commands.Begin ∷ asks 1
    commands.Commit ∷ []) ∷ phase [] (asks 1 commands.Begin ∷ asks 1 (commands.Do 0 1) ∷ asks 1 commands.Commit ∷ asks 1
    commands.Begin ∷ asks 1 (commands.Do 1 1) ∷ []) ∷ phase ((controls.Cut 0 1) ∷ []) (asks 1 commands.Commit ∷ []) ∷
    phase [] (asks 1 commands.Begin ∷ asks 1 (commands.Do 0 1) ∷ asks 1 commands.Commit ∷ asks 1 commands.Begin ∷ []) ∷
    phase [] (asks 1 commands.Commit ∷ asks 1 commands.Begin ∷ asks 1 (commands.Do 1 1) ∷ asks 1 commands.Commit ∷ []) ∷
    phase ((controls.Heal 0 1) ∷ []) (asks 1 commands.Begin ∷ asks 1 (commands.Do 1 1) ∷ asks 1 (commands.Do 1 0) ∷ asks
    1 commands.Begin ∷ []) ∷ [])

abbrev pub random16 : Script
random16 =
    script (link (Some 0) (Some 4) (Some 5) rules.Twice ∷ link None (Some 4) (Some 2) rules.Twice ∷ link (Some 4) None
    (Some 4) rules.Drop ∷ link None (Some 0) None rules.Again ∷ link (Some 2) (Some 2) (Some 1) rules.Again ∷ link (Some
    1) (Some 4) None rules.Late ∷ []) (phase [] (asks 4 commands.Begin ∷ asks 4 (commands.Do 0 1) ∷ asks 4
    commands.Commit ∷ []) ∷ phase [] (asks 4 commands.Begin ∷ asks 4 (commands.Do 0 2) ∷ asks 4 commands.Commit ∷ []) ∷
    phase [] (asks 4 commands.Begin ∷ asks 4 (commands.Do 0 1) ∷ asks 4 (commands.Do 0 2) ∷ asks 4 (commands.Do 0 1) ∷
    asks 4 commands.Commit ∷ []) ∷ phase [] (asks 4 commands.Begin ∷ asks 4 commands.Abort ∷ []) ∷ [])

abbrev pub random17 : Script
random17 =
    script (link (Some 2) None (Some 4) rules.Again ∷ link (Some 2) None (Some 1) rules.Again ∷ link (Some 3) (Some 1)
    (Some 4) rules.Twice ∷ link None None (Some 1) rules.Drop ∷ []) (phase [] (asks 5 commands.Begin ∷ asks 5
    (commands.Do 1 2) ∷ asks 5 commands.Commit ∷ asks 5 commands.Begin ∷ asks 5 commands.Commit ∷ []) ∷ phase [] (asks 5
    commands.Begin ∷ asks 4 commands.Begin ∷ asks 5 (commands.Do 1 1) ∷ asks 5 commands.Commit ∷ []) ∷ phase [] (asks 5
    commands.Begin ∷ asks 4 (commands.Do 1 1) ∷ asks 4 (commands.Do 1 0) ∷ asks 5 (commands.Do 0 2) ∷ asks 4
    commands.Commit ∷ asks 5 commands.Commit ∷ []) ∷ [])

abbrev pub random18 : Script
random18 =
    script [] (phase [] (asks 5 commands.Begin ∷ asks 4 commands.Begin ∷ asks 6 commands.Begin ∷ asks 6 commands.Commit
    ∷ asks 5 (commands.Do 0 0) ∷ asks 5 (commands.Do 0 2) ∷ asks 5 (commands.Do 0 2) ∷ asks 4 (commands.Do 0 2) ∷ asks 5
    commands.Commit ∷ asks 4 commands.Begin ∷ asks 5 commands.Begin ∷ asks 5 (commands.Do 0 0) ∷ asks 5 (commands.Do 0
    2) ∷ asks 5 (commands.Do 0 2) ∷ asks 5 commands.Commit ∷ []) ∷ [])

abbrev pub random19 : Script
random19 =
    script (link (Some 1) (Some 5) (Some 5) rules.Twice ∷ link (Some 3) (Some 0) (Some 3) rules.Drop ∷ link (Some 3)
    (Some 0) (Some 6) rules.Again ∷ link None (Some 2) (Some 4) rules.Again ∷ link (Some 1) (Some 0) (Some 1)
    rules.Again ∷ link (Some 1) (Some 1) (Some 2) rules.Twice ∷ []) (phase ((controls.Cut 1 3) ∷ []) (asks 5
    commands.Begin ∷ asks 4 commands.Begin ∷ asks 5 (commands.Do 0 2) ∷ asks 4 (commands.Do 0 1) ∷ asks 4 (commands.Do 0
    1) ∷ asks 5 commands.Begin ∷ asks 3 commands.Begin ∷ asks 4 (commands.Do 0 0) ∷ asks 4 commands.Commit ∷ asks 3
    (commands.Do 0 0) ∷ asks 3 commands.Commit ∷ asks 4 commands.Begin ∷ asks 4 (commands.Do 0 2) ∷ asks 2
    commands.Begin ∷ asks 2 (commands.Do 0 1) ∷ asks 2 commands.Abort ∷ asks 2 commands.Begin ∷ asks 2 (commands.Do 0 0)
    ∷ []) ∷ phase ((controls.Heal 1 3) ∷ (controls.Cut 5 1) ∷ []) (asks 5 (commands.Do 0 2) ∷ asks 4 (commands.Do 0 0) ∷
    asks 5 commands.Commit ∷ asks 3 commands.Begin ∷ asks 3 (commands.Do 0 0) ∷ asks 3 (commands.Do 0 0) ∷ asks 4
    commands.Abort ∷ []) ∷ phase ((controls.Heal 5 1) ∷ (controls.Cut 5 4) ∷ []) (asks 5 commands.Begin ∷ asks 5
    commands.Commit ∷ []) ∷ [])

abbrev pub random20 : Script
random20 =
    script (link (Some 1) (Some 0) (Some 3) rules.Late ∷ []) (phase [] (asks 1 commands.Begin ∷ asks 1 commands.Commit ∷
    asks 1 commands.Begin ∷ asks 1 commands.Commit ∷ asks 1 commands.Begin ∷ asks 1 commands.Commit ∷ asks 2
    commands.Begin ∷ asks 2 commands.Commit ∷ []) ∷ phase [] (asks 1 commands.Begin ∷ asks 1 (commands.Do 0 1) ∷ asks 1
    commands.Commit ∷ asks 1 commands.Begin ∷ asks 1 (commands.Do 0 1) ∷ []) ∷ phase [] (asks 1 commands.Commit ∷ []) ∷
    phase [] (asks 1 commands.Abort ∷ asks 1 commands.Begin ∷ asks 1 (commands.Do 0 0) ∷ asks 1 commands.Abort ∷ asks 1
    commands.Begin ∷ asks 1 (commands.Do 0 1) ∷ asks 1 commands.Commit ∷ asks 2 commands.Abort ∷ asks 2 commands.Begin ∷
    asks 2 (commands.Do 0 1) ∷ asks 2 (commands.Do 0 2) ∷ asks 2 commands.Abort ∷ asks 2 commands.Begin ∷ asks 2
    (commands.Do 0 0) ∷ asks 2 commands.Commit ∷ []) ∷ [])

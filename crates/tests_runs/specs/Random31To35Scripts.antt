-- The scripts of the random histories 31 to 35.
use Rattle.std.specs.Prelude.{[], ◌∷◌, Some, None}
use Rattle.qc_script.specs.declared.script.Script.{Script}
use Rattle.tests_runs.specs.Words.{link, asks, phase, script}
use Rattle.qc_msg.specs.declared.step.Command.TheVariants as commands
use Rattle.qc_msg.specs.declared.step.Control.TheVariants as controls
use Rattle.qc_link.specs.declared.rule.Rule.TheVariants as rules

abbrev pub random31 : Script
random31 =
    script [] (phase [] (asks 5 commands.Begin ∷ asks 6 commands.Begin ∷ asks 5 commands.Commit ∷ asks 6 commands.Commit
    ∷ []) ∷ phase ((controls.Cut 0 4) ∷ []) (asks 6 commands.Begin ∷ asks 6 (commands.Do 0 0) ∷ asks 5 commands.Begin ∷
    asks 5 (commands.Do 0 2) ∷ asks 7 commands.Begin ∷ asks 5 (commands.Do 0 0) ∷ asks 6 commands.Commit ∷ asks 7
    (commands.Do 0 2) ∷ asks 7 commands.Commit ∷ asks 5 (commands.Do 0 2) ∷ asks 5 commands.Commit ∷ asks 5
    commands.Begin ∷ asks 5 (commands.Do 0 2) ∷ asks 5 (commands.Do 0 2) ∷ asks 5 commands.Commit ∷ []) ∷ [])

abbrev pub random32 : Script
random32 =
    script (link None (Some 1) (Some 1) rules.Again ∷ link (Some 1) (Some 2) (Some 4) rules.Again ∷ link None (Some 1)
    (Some 3) rules.Late ∷ link (Some 1) (Some 3) (Some 3) rules.Again ∷ []) (phase ((controls.Cut 3 1) ∷ []) (asks 3
    commands.Begin ∷ asks 3 (commands.Do 0 1) ∷ asks 3 commands.Abort ∷ asks 4 commands.Begin ∷ asks 4 (commands.Do 0 0)
    ∷ asks 4 commands.Abort ∷ []) ∷ phase ((controls.Heal 3 1) ∷ []) (asks 4 commands.Begin ∷ asks 3 commands.Begin ∷
    asks 4 (commands.Do 0 1) ∷ asks 3 (commands.Do 0 2) ∷ asks 4 commands.Abort ∷ []) ∷ phase [] (asks 4 commands.Begin
    ∷ asks 4 (commands.Do 0 0) ∷ asks 4 commands.Commit ∷ []) ∷ phase [] (asks 4 commands.Begin ∷ asks 4 (commands.Do 0
    2) ∷ asks 4 (commands.Do 0 0) ∷ asks 4 commands.Commit ∷ asks 3 commands.Commit ∷ asks 4 commands.Begin ∷ asks 4
    (commands.Do 0 0) ∷ []) ∷ [])

abbrev pub random33 : Script
random33 =
    script (link None (Some 7) (Some 5) rules.Again ∷ link (Some 1) (Some 0) (Some 1) rules.Again ∷ link (Some 3) None
    (Some 2) rules.Again ∷ link None None (Some 3) rules.Drop ∷ []) (phase [] (asks 5 commands.Begin ∷ asks 5
    (commands.Do 1 2) ∷ asks 5 commands.Abort ∷ asks 6 commands.Begin ∷ asks 7 commands.Begin ∷ asks 6 (commands.Do 1 0)
    ∷ asks 7 (commands.Do 1 2) ∷ asks 7 commands.Commit ∷ asks 6 (commands.Do 0 2) ∷ asks 6 commands.Abort ∷ []) ∷ phase
    [] (asks 5 (commands.Do 1 1) ∷ asks 5 (commands.Do 1 2) ∷ asks 5 (commands.Do 1 0) ∷ asks 5 commands.Commit ∷ []) ∷
    phase ((controls.Cut 4 6) ∷ []) (asks 4 commands.Begin ∷ asks 5 commands.Begin ∷ asks 4 (commands.Do 0 2) ∷ asks 4
    (commands.Do 1 2) ∷ asks 4 (commands.Do 1 1) ∷ asks 5 (commands.Do 0 1) ∷ asks 4 commands.Commit ∷ asks 5
    commands.Commit ∷ asks 5 commands.Begin ∷ asks 5 (commands.Do 0 2) ∷ asks 5 (commands.Do 0 0) ∷ asks 5 (commands.Do
    0 1) ∷ asks 5 commands.Commit ∷ []) ∷ [])

abbrev pub random34 : Script
random34 =
    script (link (Some 4) (Some 4) (Some 8) rules.Drop ∷ link (Some 3) None (Some 1) rules.Late ∷ link (Some 5) None
    None rules.Twice ∷ link (Some 0) (Some 2) (Some 1) rules.Drop ∷ []) (phase [] (asks 5 commands.Begin ∷ asks 5
    (commands.Do 1 1) ∷ asks 5 commands.Commit ∷ []) ∷ phase [] [] ∷ phase [] (asks 3 commands.Begin ∷ asks 3
    (commands.Do 1 1) ∷ asks 3 (commands.Do 0 0) ∷ asks 5 commands.Begin ∷ asks 3 (commands.Do 0 0) ∷ asks 5
    (commands.Do 1 1) ∷ asks 3 commands.Commit ∷ asks 5 (commands.Do 0 0) ∷ asks 4 commands.Begin ∷ asks 3
    commands.Begin ∷ asks 4 (commands.Do 0 0) ∷ asks 5 (commands.Do 0 1) ∷ asks 3 (commands.Do 0 1) ∷ asks 4
    (commands.Do 1 0) ∷ asks 5 commands.Commit ∷ asks 4 (commands.Do 0 1) ∷ asks 4 commands.Commit ∷ []) ∷ [])

abbrev pub random35 : Script
random35 =
    script (link None (Some 0) None rules.Again ∷ link (Some 6) (Some 4) (Some 1) rules.Drop ∷ []) (phase [] (asks 4
    commands.Begin ∷ asks 4 (commands.Do 0 2) ∷ asks 5 commands.Begin ∷ asks 5 (commands.Do 0 1) ∷ asks 5 (commands.Do 0
    2) ∷ asks 5 (commands.Do 0 1) ∷ asks 5 commands.Commit ∷ asks 5 commands.Begin ∷ asks 5 (commands.Do 0 0) ∷ []) ∷
    phase [] (asks 3 commands.Begin ∷ asks 3 (commands.Do 0 0) ∷ asks 3 (commands.Do 0 2) ∷ asks 5 (commands.Do 0 2) ∷
    asks 6 commands.Begin ∷ asks 6 (commands.Do 0 1) ∷ asks 6 (commands.Do 0 0) ∷ asks 5 commands.Commit ∷ asks 6
    commands.Commit ∷ []) ∷ phase [] (asks 6 (commands.Do 0 2) ∷ asks 5 commands.Begin ∷ asks 6 commands.Abort ∷ asks 5
    commands.Commit ∷ []) ∷ [])

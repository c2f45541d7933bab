-- The declarations of the worked histories: three epochs, of one object and of two.
use Rattle.std.specs.Prelude.{[], ◌∷◌}
use Rattle.qc_decl.specs.declared.declaration.Declaration.{Declaration}
use Rattle.qc_decl.specs.Vocabulary.{row}
use Rattle.tests_histories.specs.Words.{declaration, kind, pair, plan}

abbrev pub three_epochs : Declaration
three_epochs =
    declaration 3 3 (kind 2 3 3 0 (row 0 0 0 0 ∷ row 1 0 1 1 ∷ row 0 1 2 0 ∷ row 1 1 2 0 ∷ row 0 2 2 1 ∷ row 1 2 2 1 ∷
    []) (pair 0 2 ∷ pair 0 3 ∷ []) ∷ []) (0 ∷ []) (plan (1 ∷ 1 ∷ 1 ∷ []) ((2 ∷ 0 ∷ 0 ∷ []) ∷ []) ((0 ∷ 0 ∷ 2 ∷ 2 ∷ []) ∷
    []) ∷ plan (1 ∷ 1 ∷ 1 ∷ []) ((1 ∷ 0 ∷ 0 ∷ []) ∷ []) ((0 ∷ 0 ∷ 3 ∷ 3 ∷ []) ∷ []) ∷ plan (1 ∷ 1 ∷ 1 ∷ []) ((2 ∷ 0 ∷ 0
    ∷ []) ∷ []) ((0 ∷ 0 ∷ 2 ∷ 2 ∷ []) ∷ []) ∷ [])

abbrev pub two_objects : Declaration
two_objects =
    declaration 3 3 (kind 2 3 3 0 (row 0 0 0 0 ∷ row 1 0 1 1 ∷ row 0 1 2 0 ∷ row 1 1 2 0 ∷ row 0 2 2 1 ∷ row 1 2 2 1 ∷
    []) (pair 0 2 ∷ pair 0 3 ∷ []) ∷ []) (0 ∷ 0 ∷ []) (plan (1 ∷ 1 ∷ 1 ∷ []) ((2 ∷ 0 ∷ 0 ∷ []) ∷ (2 ∷ 0 ∷ 0 ∷ []) ∷ [])
    ((0 ∷ 0 ∷ 2 ∷ 2 ∷ []) ∷ (0 ∷ 0 ∷ 2 ∷ 2 ∷ []) ∷ []) ∷ plan (1 ∷ 1 ∷ 1 ∷ []) ((1 ∷ 0 ∷ 0 ∷ []) ∷ (1 ∷ 0 ∷ 0 ∷ []) ∷
    []) ((0 ∷ 0 ∷ 3 ∷ 3 ∷ []) ∷ (0 ∷ 0 ∷ 3 ∷ 3 ∷ []) ∷ []) ∷ plan (1 ∷ 1 ∷ 1 ∷ []) ((2 ∷ 0 ∷ 0 ∷ []) ∷ (2 ∷ 0 ∷ 0 ∷ [])
    ∷ []) ((0 ∷ 0 ∷ 2 ∷ 2 ∷ []) ∷ (0 ∷ 0 ∷ 2 ∷ 2 ∷ []) ∷ []) ∷ [])

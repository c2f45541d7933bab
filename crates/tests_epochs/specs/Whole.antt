-- What is due in a whole history: of the administrator, and of one site.
use Rattle.std.specs.Prelude.{ℕ, false, List, []}
use Rattle.qc_decl.specs.declared.declaration.Declaration.{Declaration}
use Rattle.qc_decl.specs.Vocabulary.{administrator}
use Rattle.qc_msg.specs.Vocabulary.{Entry, deeds}
use Rattle.qc_promise.specs.Vocabulary.{AreByTurns, AreDue, IsAdminDue}

abbrev pub IsAdminDueIn : Declaration → List Entry → Type 0
IsAdminDueIn decl h = IsAdminDue decl (deeds (administrator decl) [] h)

abbrev pub AreAdminTurns : Declaration → List Entry → Type 0
AreAdminTurns decl h = AreByTurns false (deeds (administrator decl) [] h)

abbrev pub IsSiteDueIn : Declaration → ℕ → List Entry → Type 0
IsSiteDueIn decl site h = AreDue decl [] (deeds site [] h)

-- Promises that pass the test are of clients that may be declared.
use Rattle.std.proofs.Common.{◌≡◌, true, List, [], ◌∷◌}
use Rattle.std.specs.List.{list_all}
use Rattle.std.proofs.lemmas.Bool.{and_parts, ltb-true}
use Rattle.qc_entry.specs.declared.record.Prepared.{Prepared}
use Rattle.qc_admin.specs.Vocabulary.{AreOfClients}
use Rattle.tests_admin.specs.Promises.{is_of_client}

pub of_clients : (ps : List Prepared) → list_all is_of_client ps ≡ true → AreOfClients ps
of_clients [] all = tt
of_clients (p ∷ ps) all =
    let both = and_parts (is_of_client p) (list_all is_of_client ps) all in
    (ltb-true p.tx.client 16 both.0, of_clients ps both.1)

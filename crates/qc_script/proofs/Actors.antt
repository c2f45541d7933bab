-- An accepted declaration has no more actors than links know.
use Rattle.std.proofs.Common.{◌≤◌, arith}
use Rattle.qc_decl.specs.Vocabulary.{IsAccepted, actors}
use Rattle.qc_decl.specs.declared.declaration.Declaration.{Declaration}
use Rattle.qc_link.specs.Vocabulary.{most_actors}

pub few_actors : (decl : Declaration) → IsAccepted decl → actors decl ≤ most_actors
few_actors decl accepted =
    let sites : decl.sites ≤ 16 = accepted.sites in
    let clients : decl.clients ≤ 16 = accepted.clients in
    omega arith

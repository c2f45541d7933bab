use Rattle.std.proofs.Common.{◌≡◌, ◌++◌, ◌<◌, drop, map}
use Rattle.std.specs.List.{AllByRecursion as Every}
use Rattle.qc_decl.specs.Vocabulary.{most_clients}
use Rattle.qc_admin.specs.Vocabulary.{ask_about}
use Rattle.qc_admin.specs.declared.questions.Query.{Query}
use Rattle.qc_admin.proofs.questions.asks_about.Given as goal

abbrev pub invariant-loop-query : goal.invariant-loop-query
invariant-loop-query l = record {
  rest : l.sends ++ map (ask_about l.decl) (drop l.query-index l.queries) ≡ map (ask_about l.decl) l.queries;
  clients : Every (λ (q : Query). q.tx.client < most_clients) (drop l.query-index l.queries);
}

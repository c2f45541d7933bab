use Rattle.std.proofs.Common.{◌≡◌, Ok, refl}
use Rattle.std.proofs.lemmas.Result.{err_from_is_err_and}
use Rattle.toml.specs.View.{table_view}
use Rattle.qc_accept.specs.Vocabulary.{accepted, all_admitted, all_certified, declared, document_of, draft_in, draft_of}
use Rattle.qc_accept.proofs.CheckedDrafts.{draft_checked, draft_is, draft_planned}
use Rattle.qc_accept.proofs.Accepting.{accepted_declarations_keep_the_rules, accepted_declarations_are_named}
use Rattle.qc_accept.proofs.Told.{then_ok, then_err}
use Rattle.qc_accept.proofs.acceptance.accept.Goals as goal

pub check_types-requires : goal.check_types-requires
check_types-requires c =
    draft_checked (draft_in c.in_ok-draft.draft)
    (draft_is (table_view c.in_ok-table.table) (draft_in c.in_ok-draft.draft) c.in_ok-draft.ensures)

pub check_plans-requires : goal.check_plans-requires
check_plans-requires c =
    draft_planned (draft_in c.in_ok-draft.draft)
    (draft_is (table_view c.in_ok-table.table) (draft_in c.in_ok-draft.draft) c.in_ok-draft.ensures)

pub returns-in_err-table-clause-exact : goal.returns-in_err-table-clause-exact
returns-in_err-table-clause-exact c =
    let told = err_from_is_err_and c.from_residual.result c.from_residual.ensures.1 in
    rw (told.1, told.2) (then_err (document_of c.args.bytes.now) declared _ c.in_err-table.ensures)

pub returns-in_err-draft-clause-exact : goal.returns-in_err-draft-clause-exact
returns-in_err-draft-clause-exact c =
    let told = err_from_is_err_and c.from_residual-in_err-draft.result c.from_residual-in_err-draft.ensures.1 in
    rw (told.1, told.2) (λ apart.
    then_ok (document_of c.args.bytes.now) declared (table_view c.in_ok-table.table) _ c.in_ok-table.ensures
    (then_err (draft_of (table_view c.in_ok-table.table)) _ _ c.in_err-draft.ensures apart))

pub returns-in_err-check_types-clause-exact : goal.returns-in_err-check_types-clause-exact
returns-in_err-check_types-clause-exact c =
    let told = err_from_is_err_and c.from_residual-in_err-check_types.result
    c.from_residual-in_err-check_types.ensures.1 in
    rw (told.1, told.2) (λ apart.
    then_ok (document_of c.args.bytes.now) declared (table_view c.in_ok-table.table) _ c.in_ok-table.ensures
    (then_ok (draft_of (table_view c.in_ok-table.table)) _ (draft_in c.in_ok-draft.draft) _ c.in_ok-draft.ensures
    (then_err (all_certified 0 c.in_ok-draft.draft.decl.kind_names c.in_ok-draft.draft.decl.kinds
    c.in_ok-draft.draft.triples) _ _ c.in_err-check_types.ensures apart)))

pub returns-in_err-check_plans-clause-exact : goal.returns-in_err-check_plans-clause-exact
returns-in_err-check_plans-clause-exact c =
    let told = err_from_is_err_and c.from_residual-in_err-check_plans.result
    c.from_residual-in_err-check_plans.ensures.1 in
    rw (told.1, told.2) (λ apart.
    then_ok (document_of c.args.bytes.now) declared (table_view c.in_ok-table.table) _ c.in_ok-table.ensures
    (then_ok (draft_of (table_view c.in_ok-table.table)) _ (draft_in c.in_ok-draft.draft) _ c.in_ok-draft.ensures
    (then_ok (all_certified 0 c.in_ok-draft.draft.decl.kind_names c.in_ok-draft.draft.decl.kinds
    c.in_ok-draft.draft.triples) _ tt _ c.in_ok-check_types.ensures
    (then_err (all_admitted c.in_ok-draft.draft.decl 1 c.in_ok-draft.draft.decl.plans) _ _ c.in_err-check_plans.ensures
    apart))))

pub returns : goal.returns
returns c =
    let whole : accepted c.args.bytes.now ≡ Ok c.in_ok-draft.draft.decl =
    then_ok (document_of c.args.bytes.now) declared (table_view c.in_ok-table.table) _ c.in_ok-table.ensures
    (then_ok (draft_of (table_view c.in_ok-table.table)) _ (draft_in c.in_ok-draft.draft) _ c.in_ok-draft.ensures
    (then_ok (all_certified 0 c.in_ok-draft.draft.decl.kind_names c.in_ok-draft.draft.decl.kinds
    c.in_ok-draft.draft.triples) _ tt _ c.in_ok-check_types.ensures
    (then_ok (all_admitted c.in_ok-draft.draft.decl 1 c.in_ok-draft.draft.decl.plans) _ tt _ c.in_ok-check_plans.ensures
    refl))) in
    record {
      exact = whole;
      accepted = accepted_declarations_keep_the_rules c.args.bytes.now c.in_ok-draft.draft.decl whole;
      named = accepted_declarations_are_named c.args.bytes.now c.in_ok-draft.draft.decl whole;
    }

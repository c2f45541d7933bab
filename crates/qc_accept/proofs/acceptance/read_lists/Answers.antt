use Rattle.std.proofs.lemmas.Result.{err_from_is_err_and}
use Rattle.qc_accept.specs.Vocabulary.{draft_in, objects_in, path_in, table_in, types_in}
use Rattle.qc_accept.proofs.DraftRead.{draft_read, few_names, fits, no_objects, no_plans, no_types, other_keys}
use Rattle.qc_accept.proofs.Kept.{types_kept}
use Rattle.qc_accept.proofs.acceptance.read_lists.Goals as goal

pub read_objects-requires : goal.read_objects-requires
read_objects-requires c = few_names (path_in c.args.root.now) (table_in c.args.root.now)
    (types_in c.in_ok-types.types) c.in_ok-types.ensures

pub read_plans-requires : goal.read_plans-requires
read_plans-requires c =
    fits (path_in c.args.root.now) (table_in c.args.root.now) c.args.sites (types_in c.in_ok-types.types)
    (objects_in c.in_ok-objects.objects) c.requires c.in_ok-types.ensures c.in_ok-objects.ensures

pub gathered-requires : goal.gathered-requires
gathered-requires c = (types_kept (path_in c.args.root.now) (table_in c.args.root.now)
    (types_in c.in_ok-types.types) c.in_ok-types.ensures).names

pub returns-in_err-types : goal.returns-in_err-types
returns-in_err-types c =
    let told = err_from_is_err_and c.from_residual.result c.from_residual.ensures.1 in
    rw (told.1, told.2) (λ apart. no_types (path_in c.args.root.now)
    (table_in c.args.root.now) _ apart c.args.sites c.args.clients c.in_err-types.ensures)

pub returns-in_err-objects : goal.returns-in_err-objects
returns-in_err-objects c =
    let told = err_from_is_err_and c.from_residual-in_err-objects.result c.from_residual-in_err-objects.ensures.1 in
    rw (told.1, told.2) (λ apart.
    no_objects (path_in c.args.root.now) (table_in c.args.root.now) _ apart c.args.sites c.args.clients
    (types_in c.in_ok-types.types) c.in_ok-types.ensures c.in_err-objects.ensures)

pub returns-in_err-plans : goal.returns-in_err-plans
returns-in_err-plans c =
    let told = err_from_is_err_and c.from_residual-in_err-plans.result c.from_residual-in_err-plans.ensures.1 in
    rw (told.1, told.2) (λ apart.
    no_plans (path_in c.args.root.now) (table_in c.args.root.now) _ apart c.args.sites c.args.clients
    (types_in c.in_ok-types.types) (objects_in c.in_ok-objects.objects)
    c.in_ok-types.ensures c.in_ok-objects.ensures c.in_err-plans.ensures)

pub returns-in_err-no_others : goal.returns-in_err-no_others
returns-in_err-no_others c =
    let told = err_from_is_err_and c.from_residual-in_err-no_others.result c.from_residual-in_err-no_others.ensures.1 in
    rw (told.1, told.2) (λ apart.
    other_keys (path_in c.args.root.now) (table_in c.args.root.now) _ apart c.args.sites c.args.clients
    (types_in c.in_ok-types.types) (objects_in c.in_ok-objects.objects) c.in_ok-plans.plans
    c.in_ok-types.ensures c.in_ok-objects.ensures c.in_ok-plans.ensures c.in_err-no_others.ensures)

pub returns : goal.returns
returns c =
    draft_read (path_in c.args.root.now) (table_in c.args.root.now) c.args.sites c.args.clients
    (types_in c.in_ok-types.types) (objects_in c.in_ok-objects.objects) c.in_ok-plans.plans
    (draft_in c.in_ok-draft.draft)
    c.in_ok-types.ensures c.in_ok-objects.ensures c.in_ok-plans.ensures c.in_ok-no_others.ensures c.in_ok-draft.ensures

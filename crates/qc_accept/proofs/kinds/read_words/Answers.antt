use Rattle.std.proofs.Common.{◌++◌, refl, arith}
use Rattle.std.specs.Prelude.{codes}
use Rattle.std.proofs.lemmas.Result.{err_from_is_err_and}
use Rattle.toml.specs.View.{view}
use Rattle.qc_decl.specs.Vocabulary.{most_invocations, most_responses, most_states}
use Rattle.qc_accept.specs.Vocabulary.{name_among, names, names_in, path_in, required, table_in, told}
use Rattle.qc_accept.proofs.Kept.{named}
use Rattle.qc_accept.proofs.Told.{then_err, then_ok, told_err, told_ok}
use Rattle.qc_accept.proofs.kinds.read_words.Goals as goal

pub name_among-requires : goal.name_among-requires
name_among-requires c =
    omega (
      arith,
      (named (path_in c.args.fields.now) (table_in c.args.fields.now) (codes "states") most_states
          (names_in c.in_ok-states.states) c.in_ok-states.ensures).1,
    )

pub returns-in_err-states : goal.returns-in_err-states
returns-in_err-states c =
    let out = err_from_is_err_and c.from_residual.result c.from_residual.ensures.1 in
    rw (out.1, out.2) (then_err (names (path_in c.args.fields.now) (table_in c.args.fields.now)
    (codes "states") most_states) _ _ c.in_err-states.ensures)

pub returns-in_err-required : goal.returns-in_err-required
returns-in_err-required c =
    let out = err_from_is_err_and c.from_residual-in_err-required.result c.from_residual-in_err-required.ensures.1 in
    rw (out.1, out.2) (λ apart.
    then_ok (names (path_in c.args.fields.now) (table_in c.args.fields.now) (codes "states") most_states) _
    (names_in c.in_ok-states.states) _ c.in_ok-states.ensures
    (then_err (required (path_in c.args.fields.now) (table_in c.args.fields.now) (codes "start")) _ _
    c.in_err-required.ensures apart))

pub returns-in_err-start : goal.returns-in_err-start
returns-in_err-start c =
    let out = err_from_is_err_and c.from_residual-in_err-start.result c.from_residual-in_err-start.ensures.1 in
    rw (out.1, out.2) (λ apart.
    then_ok (names (path_in c.args.fields.now) (table_in c.args.fields.now) (codes "states") most_states) _
    (names_in c.in_ok-states.states) _ c.in_ok-states.ensures
    (then_ok (required (path_in c.args.fields.now) (table_in c.args.fields.now) (codes "start")) _
    (view c.in_ok-required.field-0.now) _ c.in_ok-required.ensures
    (then_err (told (path_in c.args.fields.now ++ codes "start")
    (name_among (names_in c.in_ok-states.states) (view c.in_ok-required.field-0.now))) _ _
    (told_err (λ n. n) (path_in c.args.fields.now ++ codes "start")
    (name_among (names_in c.in_ok-states.states) (view c.in_ok-required.field-0.now)) c.name_among.result _
    c.name_among.ensures c.in_err-start.ensures) apart)))

pub returns-in_err-invs : goal.returns-in_err-invs
returns-in_err-invs c =
    let out = err_from_is_err_and c.from_residual-in_err-invs.result c.from_residual-in_err-invs.ensures.1 in
    rw (out.1, out.2) (λ apart.
    then_ok (names (path_in c.args.fields.now) (table_in c.args.fields.now) (codes "states") most_states) _
    (names_in c.in_ok-states.states) _ c.in_ok-states.ensures
    (then_ok (required (path_in c.args.fields.now) (table_in c.args.fields.now) (codes "start")) _
    (view c.in_ok-required.field-0.now) _ c.in_ok-required.ensures
    (then_ok (told (path_in c.args.fields.now ++ codes "start")
    (name_among (names_in c.in_ok-states.states) (view c.in_ok-required.field-0.now))) _ c.in_ok-start.start _
    (told_ok (λ n. n) (path_in c.args.fields.now ++ codes "start")
    (name_among (names_in c.in_ok-states.states) (view c.in_ok-required.field-0.now)) c.name_among.result
    c.in_ok-start.start c.name_among.ensures c.in_ok-start.ensures)
    (then_err (names (path_in c.args.fields.now) (table_in c.args.fields.now) (codes "invocations") most_invocations) _
    _ c.in_err-invs.ensures apart))))

pub returns-in_err-resps : goal.returns-in_err-resps
returns-in_err-resps c =
    let out = err_from_is_err_and c.from_residual-in_err-resps.result c.from_residual-in_err-resps.ensures.1 in
    rw (out.1, out.2) (λ apart.
    then_ok (names (path_in c.args.fields.now) (table_in c.args.fields.now) (codes "states") most_states) _
    (names_in c.in_ok-states.states) _ c.in_ok-states.ensures
    (then_ok (required (path_in c.args.fields.now) (table_in c.args.fields.now) (codes "start")) _
    (view c.in_ok-required.field-0.now) _ c.in_ok-required.ensures
    (then_ok (told (path_in c.args.fields.now ++ codes "start")
    (name_among (names_in c.in_ok-states.states) (view c.in_ok-required.field-0.now))) _ c.in_ok-start.start _
    (told_ok (λ n. n) (path_in c.args.fields.now ++ codes "start")
    (name_among (names_in c.in_ok-states.states) (view c.in_ok-required.field-0.now)) c.name_among.result
    c.in_ok-start.start c.name_among.ensures c.in_ok-start.ensures)
    (then_ok (names (path_in c.args.fields.now) (table_in c.args.fields.now) (codes "invocations") most_invocations) _
    (names_in c.in_ok-invs.invs) _ c.in_ok-invs.ensures
    (then_err (names (path_in c.args.fields.now) (table_in c.args.fields.now) (codes "responses") most_responses) _ _
    c.in_err-resps.ensures apart)))))

pub returns : goal.returns
returns c =
    then_ok (names (path_in c.args.fields.now) (table_in c.args.fields.now) (codes "states") most_states) _
    (names_in c.in_ok-states.states) _ c.in_ok-states.ensures
    (then_ok (required (path_in c.args.fields.now) (table_in c.args.fields.now) (codes "start")) _
    (view c.in_ok-required.field-0.now) _ c.in_ok-required.ensures
    (then_ok (told (path_in c.args.fields.now ++ codes "start")
    (name_among (names_in c.in_ok-states.states) (view c.in_ok-required.field-0.now))) _ c.in_ok-start.start _
    (told_ok (λ n. n) (path_in c.args.fields.now ++ codes "start")
    (name_among (names_in c.in_ok-states.states) (view c.in_ok-required.field-0.now)) c.name_among.result
    c.in_ok-start.start c.name_among.ensures c.in_ok-start.ensures)
    (then_ok (names (path_in c.args.fields.now) (table_in c.args.fields.now) (codes "invocations") most_invocations) _
    (names_in c.in_ok-invs.invs) _ c.in_ok-invs.ensures
    (then_ok (names (path_in c.args.fields.now) (table_in c.args.fields.now) (codes "responses") most_responses) _
    (names_in c.in_ok-resps.resps) _ c.in_ok-resps.ensures
    refl))))

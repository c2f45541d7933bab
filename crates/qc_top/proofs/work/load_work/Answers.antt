use Rattle.std.proofs.Common.{◌∙◌, Ok}
use Rattle.qc_top.proofs.Loads.{load_made, load_wanting}
use Rattle.qc_top.proofs.Takes.{err_as}
use Rattle.qc_top.specs.Vocabulary.{Gives, load_work}
use Rattle.qc_top.proofs.work.load_work.Goals as goal

pub returns-in_err-script-clause-work : goal.returns-in_err-script-clause-work
returns-in_err-script-clause-work c =
    err_as (λ r. Gives (Ok (load_work c.args.count c.args.seed)) r) c.from_residual-in_err-script.result
    c.in_err-script.field-0.0 c.from_residual-in_err-script.ensures.1
    (load_wanting c.args.count c.args.seed c.in_ok-decl.decl c.as_slice.result.now c.in_ok-decl.ensures.three
    (c.as_slice.ensures.value ∙ c.in-Ok.ensures.text) c.in_err-script.field-0.0 c.in_err-script.ensures.script)

pub returns-clause-work : goal.returns-clause-work
returns-clause-work c =
    load_made c.args.count c.args.seed c.in_ok-decl.decl c.as_slice.result.now c.in_ok-decl.ensures.three
    (c.as_slice.ensures.value ∙ c.in-Ok.ensures.text) c.in_ok-script.script c.in_ok-script.ensures.script

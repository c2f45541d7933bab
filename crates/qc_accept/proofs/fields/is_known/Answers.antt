use Rattle.std.proofs.Common.{rules, ◌∙◌}
use Rattle.std.proofs.lemmas.Iterator.{YieldsList-from_slice}
use Rattle.std.proofs.lemmas.Iterator.Search.{any_from_yields_List}
use Rattle.std.specs.Str.{bytes_eq}
use borrow.Author.Tests.{tests}
use Rattle.qc_accept.proofs.Tables.{any_known}
use Rattle.qc_accept.proofs.fields.is_known.Goals as goal

pub returns : goal.returns
returns c =
    any_from_yields_List (λ k. bytes_eq k.now c.args.key.now) _ _ _ c.any.ensures.ran
    (YieldsList-from_slice c.args.known.now cc) (λ x b q k. search (rules, tests))
    ∙ any_known c.args.key.now c.args.known.now

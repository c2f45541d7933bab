use Rattle.std.proofs.Common.{ap, sym, ◌∙◌, rules}
use Rattle.std.proofs.lemmas.Iterator.{YieldsList-from_slice}
use Rattle.std.proofs.lemmas.Iterator.Search.{all_from_yields_List}
use borrow.Author.Tests.{tests}
use Rattle.qc_decl.specs.Vocabulary.{is_name, is_name_byte}
use Rattle.qc_accept.proofs.Texts.{named}
use Rattle.qc_accept.proofs.words.is_name.Goals as goal

pub returns-then-bytes-le-LONGEST_NAME : goal.returns-then-bytes-le-LONGEST_NAME
returns-then-bytes-le-LONGEST_NAME c =
    all_from_yields_List is_name_byte _ _ _ c.all.ensures.ran (YieldsList-from_slice c.as_bytes-bytes.result.now cc)
    (λ x b q k. search (rules, tests))
    ∙ named c.as_bytes-bytes.result.now (sym c.is_empty.ensures ∙ c.if-bytes-le-LONGEST_NAME.true.0)
    c.if-bytes-le-LONGEST_NAME.true.1
    ∙ ap is_name c.as_bytes-bytes.ensures.value

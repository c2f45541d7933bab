use Rattle.std.proofs.Common.{◌≡◌, true, ap, sym, ◌∙◌, rules}
use Rattle.std.specs.List.{list_all}
use Rattle.std.proofs.lemmas.Iterator.{YieldsList-from_slice}
use Rattle.std.proofs.lemmas.Iterator.Search.{all_from_yields_List}
use borrow.Author.Tests.{tests}
use Rattle.qc_decl.specs.Vocabulary.{is_between}
use Rattle.qc_accept.specs.Vocabulary.{number_in}
use Rattle.qc_accept.proofs.Digits.{read_number}
use Rattle.qc_accept.proofs.words.number.Goals as goal

pub value-requires-clause-digits : goal.value-requires-clause-digits
value-requires-clause-digits c =
    sym (all_from_yields_List (is_between 48 57) _ _ c.all.result c.all.ensures.ran
    (YieldsList-from_slice c.as_bytes-bytes.result.now cc) (λ x b q k. search (rules, tests))) ∙ c.if-not-all.false

pub returns : goal.returns
returns c =
    let all : list_all (is_between 48 57) c.as_bytes-bytes.result.now ≡ true =
    sym (all_from_yields_List (is_between 48 57) _ _ c.all.result c.all.ensures.ran
    (YieldsList-from_slice c.as_bytes-bytes.result.now cc) (λ x b q k. search (rules, tests)))
    ∙ c.if-not-all.false in
    c.ok.ensures.value ∙ read_number c.as_bytes-bytes.result.now c.value.result c.try_from.result
    (sym c.is_empty.ensures ∙ c.if-is_empty.false) c.if-bytes-gt-MOST_DIGITS.false all c.value.ensures.value
    c.try_from.ensures
    ∙ ap number_in c.as_bytes-bytes.ensures.value

use Rattle.std.proofs.Common.{◌≡◌, drop, map}
use Rattle.clap.specs.Simple.{app_of}
use Rattle.qc_words.specs.Vocabulary.{place_rule, texts_of, with_rules}
use Rattle.qc_words.proofs.matching.with_places.Given as goal

abbrev pub invariant-names : goal.invariant-names
invariant-names l =
    with_rules (app_of l.command) (map place_rule (texts_of (drop l.name-index l.names)))
    ≡ with_rules (app_of l.fn.command) (map place_rule (texts_of l.names))

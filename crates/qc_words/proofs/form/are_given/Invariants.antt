use Rattle.std.proofs.Common.{◌≡◌, drop, map}
use Rattle.qc_words.specs.Vocabulary.{are_given, part_in, texts_of}
use Rattle.qc_words.proofs.form.are_given.Given as goal

abbrev pub invariant-names : goal.invariant-names
invariant-names l =
    are_given (texts_of (drop l.name-index l.names)) (map part_in l.parts)
    ≡ are_given (texts_of l.names) (map part_in l.parts)

use Rattle.std.proofs.Common.{◌≡◌, drop}
use Rattle.qc_words.specs.Vocabulary.{is_among, texts_of}
use Rattle.qc_words.proofs.form.is_named.Given as goal

abbrev pub invariant-names : goal.invariant-names
invariant-names l = is_among (texts_of (drop l.one-index l.names)) l.name ≡ is_among (texts_of l.names) l.name

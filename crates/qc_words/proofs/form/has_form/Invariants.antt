use Rattle.std.proofs.Common.{◌≡◌, drop}
use Rattle.qc_words.specs.Vocabulary.{form_in, nothing_read, texts_of, with_words}
use Rattle.qc_words.proofs.form.has_form.Given as goal

abbrev pub invariant-words : goal.invariant-words
invariant-words l =
    with_words (form_in l.form) l.reading (texts_of (drop l.word-index l.words))
    ≡ with_words (form_in l.form) nothing_read (texts_of l.words)

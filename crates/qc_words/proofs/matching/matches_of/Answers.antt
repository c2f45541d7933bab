use Rattle.std.proofs.lemmas.Result.{IfErr-weaker, IfOk-weaker}
use Rattle.clap.specs.Simple.{app_of}
use Rattle.qc_words.specs.Vocabulary.{form_in, texts_of}
use Rattle.qc_words.proofs.Walks.{gives_values, takes_words}
use Rattle.qc_words.proofs.matching.matches_of.Goals as goal

pub returns-clause-ok : goal.returns-clause-ok
returns-clause-ok c =
    IfOk-weaker c.try_get_matches_from.result _ _ (λ m h.
    gives_values (form_in c.args.form) c.requires.form (texts_of c.args.words.now) c.requires.has
    (app_of c.in_ok-command.command) c.in_ok-command.ensures m h)
    c.try_get_matches_from.ensures.matches

pub returns-clause-err : goal.returns-clause-err
returns-clause-err c =
    IfErr-weaker c.try_get_matches_from.result _ _ (λ e h.
    h (takes_words (form_in c.args.form) c.requires.form (texts_of c.args.words.now) c.requires.has
    (app_of c.in_ok-command.command) c.in_ok-command.ensures))
    c.try_get_matches_from.ensures.passes

use Rattle.std.proofs.Common.{◌∙◌, ap}
use Rattle.clap.specs.Simple.{app_of, with_rule}
use Rattle.qc_words.proofs.Commands.{rule_added}
use Rattle.qc_words.specs.Vocabulary.{place_rule}
use Rattle.qc_words.proofs.matching.with_places.Goals as goal

pub names-preserved : goal.names-preserved
names-preserved c =
    let added = c.in_ok-command.ensures.shape c.place.ensures.local in
    rule_added place_rule c.args.names.now c.names.name-index _ (app_of c.args.command) (app_of c.names.command)
    (app_of c.in_ok-command.command)
    c.names-test.true (added ∙ ap (with_rule (app_of c.names.command)) c.place.ensures.rule) c.names.invariant

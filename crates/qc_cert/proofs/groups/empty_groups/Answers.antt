use Rattle.std.proofs.Common.{ap, ◌∙◌, get_or, rules, []}
use Rattle.qc_cert.proofs.Grouped.{empty_more}
use Rattle.qc_cert.specs.Vocabulary.{parts_within}
use Rattle.qc_cert.proofs.groups.empty_groups.Goals as goal

pub groups-preserved : goal.groups-preserved
groups-preserved c = record {
  all = search rules;
  empty = λ place out. ap (λ gs. parts_within (get_or gs place []) out) c.in_ok-push.ensures.items
      ∙ empty_more c.groups.groups.items c.new.result c.groups.invariant.empty c.new.ensures place out;
}

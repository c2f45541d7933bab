use Rattle.std.proofs.Common.{sym}
use Rattle.qc_list.proofs.Order.{ascends-drop}
use Rattle.qc_entry.specs.Vocabulary.{line_cmp}
use Rattle.qc_entry.proofs.Walks.{whole-rest}
use Rattle.qc_entry.proofs.Without.{without-shared}
use Rattle.qc_entry.proofs.slices.rest_of.Goals as goal

pub others_of-requires-clause-first : goal.others_of-requires-clause-first
others_of-requires-clause-first c =
    rw (whole-rest c.args.a.now) (ascends-drop line_cmp c.shared-n.result c.args.a.now c.requires.first)

pub others_of-requires-clause-second : goal.others_of-requires-clause-second
others_of-requires-clause-second c =
    rw (whole-rest c.args.b.now) (ascends-drop line_cmp c.shared-n.result c.args.b.now c.requires.second)

pub returns : goal.returns
returns c =
    rw (
      without-shared c.shared-n.result c.args.a.now c.args.b.now c.requires.first c.requires.second
          c.shared-n.ensures.alike,
      sym (whole-rest c.args.a.now c.shared-n.result),
      sym (whole-rest c.args.b.now c.shared-n.result),
    ) c.others_of.ensures

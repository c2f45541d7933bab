use Rattle.std.proofs.Common.{map, ap, sym, ◌∙◌}
use Rattle.qc_accept.proofs.Tables.{other_of, other_in}
use Rattle.qc_accept.proofs.fields.Fields.no_others.Goals as goal

pub loop-key-init : goal.loop-key-init
loop-key-init c = (
  tt,
  tt,
  sym (other_in (map (λ k. k.now) c.args.known.now) c.args.self.now.table.now.entries)
      ∙ ap (other_of (map (λ k. k.now) c.args.known.now))
      (sym (c.into_iter-key-iterator.ensures.into_iter_gives ∙ c.keys-key-items.ensures.rest)),
)

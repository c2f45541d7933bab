use Rattle.std.proofs.Common.{ℕ, List, sym, ◌∙◌}
use Rattle.std.specs.Borrow.{Bor}
use Rattle.std.specs.Str.{bytes_eq}
use Rattle.qc_accept.proofs.Indexed.{position_seen}
use Rattle.qc_accept.proofs.names.Index.number.Goals as goal

pub returns-in_err-place-clause-number : goal.returns-in_err-place-clause-number
returns-in_err-place-clause-number c = rw c.from_residual.ensures
    (c.in_err-place.ensures.index ∙ sym (position_seen (λ (k : Bor (List ℕ)). k.now)
    (bytes_eq c.args.name.now) c.args.self.now.texts.keys))

pub returns-clause-number : goal.returns-clause-number
returns-clause-number c = c.in_ok-place.ensures.index
    ∙ sym (position_seen (λ (k : Bor (List ℕ)). k.now) (bytes_eq c.args.name.now) c.args.self.now.texts.keys)

use Rattle.std.proofs.Common.{rules, ◌≤◌, ◌++◌, length, ap, sym, ◌∙◌}
use Rattle.std.proofs.lemmas.List.{append-nil}
use Rattle.std.proofs.lemmas.Option.{slice_get_past}
use Rattle.std.specs.Prelude.{option_to_list}
use Rattle.qc_entry.proofs.arrivals.pick.Goals as goal

pub returns-in_default : goal.returns-in_default
returns-in_default c =
    let past : length c.args.lines.now ≤ c.args.place = search rules in
    sym (append-nil _) ∙ ap (λ o. c.args.them.now.items ++ option_to_list o)
    (sym (slice_get_past c.args.lines.now c.args.place past))

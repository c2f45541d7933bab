use Rattle.std.proofs.Common.{◌≡◌, ◌+◌, ◌-◌, ◌<◌, ◌∙◌, ap, arith, drop, length, map, subst, sym}
use Rattle.std.specs.List.{AllByRecursion as Every}
use Rattle.qc_mailbox.specs.Vocabulary.{with_commands, IsPrepared, tray}
use Rattle.qc_mailbox.proofs.Each.{drop_next}
use Rattle.qc_mailbox.proofs.boxes.ask_commands.Goals as goal

pub lines-preserved : goal.lines-preserved
lines-preserved c =
    let within : c.lines.line-index < length c.args.lines.now = omega arith in
    let left : length c.args.lines.now - c.lines.line-index ≡ (length c.args.lines.now - (c.lines.line-index + 1)) + 1 =
    omega arith in
    record {
      trays = ap (λ ts. with_commands ts (drop (c.lines.line-index + 1) c.args.lines.now)) c.ask_command.ensures.trays
          ∙ (sym (ap (λ ls. with_commands (map tray c.lines.boxes.items) ls)
          (drop_next c.args.lines.now c.lines.line-index _ within)) ∙ c.lines.invariant.trays);
      prepared = c.ask_command.ensures.prepared c.args.room (length c.args.lines.now - (c.lines.line-index + 1))
          (subst (λ n. Every (IsPrepared c.args.room n) c.lines.boxes.items) left c.lines.invariant.prepared);
      long = c.ask_command.ensures.length ∙ c.lines.invariant.long;
    }

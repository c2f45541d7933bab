use Rattle.std.proofs.Common.{rules, ◌≡◌, ◌+◌, ◌<◌, ◌≤◌, ℕ, length, List, drop, fold, get_or, sym, ◌∙◌, ap, subst}
use Rattle.std.proofs.Math.ListN.{drop_of_length-le}
use Rattle.qc_entry.specs.declared.line.Line.{Line}
use Rattle.qc_entry.specs.Vocabulary.{IsAscending}
use Rattle.qc_entry.proofs.Walks.{from-place}
use Rattle.qc_list.specs.Vocabulary.{In}
use Rattle.qc_recover.specs.Vocabulary.{log_of, with_line}
use Rattle.qc_recover.proofs.Logs.{log_again, log_moved, one_more}
use Rattle.qc_recover.proofs.lines.LineSet.into_log.Goals as goal
use Rattle.qc_recover.proofs.lines.LineSet.into_log.Goals.{then-not-is_last+in_ok-add, else-not-is_last}

-- one line further
step : (log lines : List Line) (i : ℕ) (d : Line) → i < length lines → fold with_line log (drop i lines) ≡ log_of lines
    → fold with_line (with_line log (get_or lines i d)) (drop (i + 1) lines) ≡ log_of lines
step log lines i d inside rest = ap (fold with_line log) (sym (from-place lines i d inside)) ∙ rest

pub lines-preserved : goal.lines-preserved
lines-preserved c =
    let lines = c.as_slice-line-items.result.now in
    let i = c.lines.line-index in
    let line : Line = get_or lines i (record {
      stamp = record { clock = 0; client = 0 };
      tx = record { client = 0; life = 0; number = 0 };
      op = 0;
      object = 0;
      event = 0;
    }) in
    let whole : fold with_line (with_line c.lines.log line) (drop (i + 1) lines) ≡ log_of lines =
    step c.lines.log lines i _ c.lines-test.true c.lines.invariant.rest in
    elim c.if-not-is_last.branch [
      | then-not-is_last+in_ok-add w ↦
          let is : c.if-not-is_last.log ≡ with_line c.lines.log line = w.log-is ∙ w.in_ok-add.ensures.ok in
          record {
            rest = ap (λ log. fold with_line log (drop (i + 1) lines)) is ∙ whole;
            ascending = subst IsAscending (sym is) (one_more c.lines.log line c.lines.invariant.ascending).ascending;
          }
      | else-not-is_last w ↦
          let there : In line c.lines.log = search rules in
          let is : c.if-not-is_last.log ≡ with_line c.lines.log line =
          w.log-is ∙ log_again c.lines.log line c.lines.invariant.ascending there in
          record {
            rest = ap (λ log. fold with_line log (drop (i + 1) lines)) is ∙ whole;
            ascending = subst IsAscending (sym w.log-is) c.lines.invariant.ascending;
          }
    ]

pub returns : goal.returns
returns c =
    let lines = c.as_slice-line-items.result.now in
    let past : length lines ≤ c.lines.line-index = c.lines-test.false in
    ap (fold with_line c.lines.log) (sym (drop_of_length-le lines past))
    ∙ c.lines.invariant.rest
    ∙ ap log_of c.as_slice-line-items.ensures.value
    ∙ log_moved c.self.inside.lines.items c.sort.new.self.items c.sort.ensures.permutation
    ∙ c.self.view_is

use Rattle.std.proofs.Common.{arith, ◌≡◌, ℕ, false, length, List, get_or, ap, sym, ◌∙◌, refl}
use Rattle.std.proofs.lemmas.List.{length-set}
use Rattle.qc_table.specs.declared.row.Row.{Row}
use Rattle.qc_table.specs.Vocabulary.{has_case}
use Rattle.qc_table.proofs.Seen.{none_seen, seen_more, repeat_later}
use Rattle.qc_table.proofs.rows.first_repeated.Goals as goal

pub loop-place-init : goal.loop-place-init
loop-place-init c = record {
  repeat = refl;
  seen = λ row small. ap (λ cases. has_case cases row) c.in_ok-cases.ensures ∙ none_seen row;
}

pub loop-place-preserved : goal.loop-place-preserved
loop-place-preserved c =
    let rows : List Row = c.args.rows.now in
    let d : Row = record { state = 0; inv = 0; resp = 0; next = 0 } in
    let size : length c.loop-place.cases ≡ 2048 =
    omega (
      arith,
      ap (length {A = ℕ}) c.insert.ensures.added,
      ap (length {A = ℕ}) c.cases.view_is,
      c.cases.invariant,
      length-set {A = ℕ},
    ) in
    let row : Row = get_or rows c.loop-place.place d in
    let none : has_case c.loop-place.cases row ≡ false = grind (arith, c.if-not-insert.ensures) in
    record {
      repeat = sym (repeat_later rows c.loop-place.place d c.loop-place-test.true
          (sym (c.loop-place.invariant.seen row (c.requires.small c.loop-place.place d c.loop-place-test.true)) ∙ none))
          ∙ c.loop-place.invariant.repeat;
      seen = λ other small. ap (λ cases. has_case cases other) c.insert.ensures.added
          ∙ seen_more c.loop-place.cases rows c.loop-place.place d other size c.requires.small c.loop-place-test.true
          small (c.loop-place.invariant.seen other small);
    }

use Rattle.std.proofs.Common.{◌≡◌, ◌≤◌, List, [], fold, length, Option, sym, ap, ◌∙◌}
use Rattle.std.specs.Prelude.{Result, Ok, Err, IfOk}
use Rattle.std.specs.declared.alloc.AllocError.{AllocError}
use Rattle.std.proofs.Math.ListN.{drop_of_length-le}
use Rattle.qc_stamp.specs.declared.stamp.Stamp.{Stamp}
use Rattle.qc_stamp.specs.declared.stamp.TxId.{TxId}
use Rattle.qc_entry.specs.declared.line.Line.{Line}
use Rattle.qc_epoch.specs.Vocabulary.{merged, stamp_of}
use Rattle.qc_admin.specs.Vocabulary.{stamp_at, with_shut_by}
use Rattle.qc_admin.proofs.deciding.merged.Goals as goal

-- functions with the same values are the same
same_values : {A B : Type 0} → (f g : A → B) → ((a : A) → f a ≡ g a) → f ≡ g
same_values f g each = λ i a. each a i

told : (result : Result (List Line) AllocError) (some others : List Line) → some ≡ others
    → IfOk result (λ log. log ≡ some) → IfOk result (λ log. log ≡ others)
told (Ok log) some others same is = is ∙ same
told (Err e) some others same is = tt

pub returns : goal.returns
returns c =
    let stamps = stamp_at c.in_ok-stamps.stamps in
    let shuts = c.items-shut-items.result.now in
    let past : length shuts ≤ c.shuts.shut-index = c.shuts-test.false in
    let same : stamps ≡ stamp_of c.args.questions.now =
    same_values stamps (stamp_of c.args.questions.now) c.in_ok-stamps.ensures in
    told c.into_log.result c.shuts.lines (merged c.args.shuts.now c.args.questions.now)
    (ap (fold (with_shut_by stamps) c.shuts.lines) (sym (drop_of_length-le shuts past))
    ∙ c.shuts.invariant
    ∙ ap (λ (f : TxId → Option Stamp). fold (with_shut_by f) [] c.args.shuts.now) same)
    c.into_log.ensures

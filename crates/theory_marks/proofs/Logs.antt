-- Lists of lines, and the logs that have the same ones.
use Rattle.std.proofs.Common.{◌≡◌, ℕ, ◌≤◌, ◌==◌, Bool, true, false, cond, ◌&&◌, nat_le, List, ◌++◌}
use Rattle.std.proofs.Common.{length, drop, refl, sym, ap, ◌∙◌, subst, eqb-true, le-leb}
use Rattle.qc_entry.specs.declared.line.Line.{Line}
use Rattle.qc_entry.specs.Vocabulary.{of_object, union}
use Rattle.qc_entry.proofs.Logs.{log-append}
use Rattle.theory_marks.specs.Marks.{Arrivals, KnownLog, Mark, learned, lines_told, log_of, mark_of, told}
use Rattle.theory_marks.proofs.Lists.{fronts, of-append}

-- What a counted answer makes known is all that the site had: `then` is the site of the mark, `by` the one that
-- answered.
pub learns_all : (k : KnownLog) (then by : Arrivals) (epoch o : ℕ) (a b : List Line) → k.mark ≡ mark_of then o
    → k.log ≡ log_of (of_object then.arrived o) → by.epoch ≡ epoch
    → (k.mark.life ≡ by.life → k.mark.epoch ≡ by.epoch
    → (then.arrived ++ a ≡ by.arrived ++ b) × (k.mark.count ≤ length (of_object by.arrived o)))
    → (learned k by.life epoch (length (of_object by.arrived o)) (told by k.mark o)).log
    ≡ log_of (of_object by.arrived o)
learns_all k then by epoch o a b mark log same front =
    subst (λ (e : ℕ). (learned k by.life e (length (of_object by.arrived o)) (told by k.mark o)).log
    ≡ log_of (of_object by.arrived o)) same
    (cases (k.mark.life == by.life) (k.mark.epoch == by.epoch) (nat_le k.mark.count (length (of_object by.arrived o)))
    refl refl refl)
  where
    cases : (p q r : Bool) → (k.mark.life == by.life) ≡ p → (k.mark.epoch == by.epoch) ≡ q
        → nat_le k.mark.count (length (of_object by.arrived o)) ≡ r
        → cond (p && q) (union k.log (log_of (lines_told (p && (q && r)) (of_object by.arrived o) k.mark.count)))
        (log_of (lines_told (p && (q && r)) (of_object by.arrived o) k.mark.count))
        ≡ log_of (of_object by.arrived o)
    cases false q r ep eq er = refl
    cases true false r ep eq er = refl
    cases true true false ep eq er =
        let f = front (eqb-true k.mark.life by.life ep) (eqb-true k.mark.epoch by.epoch eq) in
        let t : nat_le k.mark.count (length (of_object by.arrived o)) ≡ true = le-leb _ _ f.1 in
        absurd (let never : ⊥ = cc (t, er) in never)
    cases true true true ep eq er =
        let f = front (eqb-true k.mark.life by.life ep) (eqb-true k.mark.epoch by.epoch eq) in
        let n : k.mark.count ≡ length (of_object then.arrived o) = ap (λ (m : Mark). m.count) mark in
        let split : of_object then.arrived o ++ of_object a o ≡ of_object by.arrived o ++ of_object b o =
        sym (of-append then.arrived a o) ∙ ap (λ (xs : List Line). of_object xs o) f.0 ∙ of-append by.arrived b o in
        let le : length (of_object then.arrived o) ≤ length (of_object by.arrived o) =
        subst (λ (x : ℕ). x ≤ length (of_object by.arrived o)) n f.1 in
        rw (log, n)
        (log-append (of_object then.arrived o) (drop (length (of_object then.arrived o)) (of_object by.arrived o))
        ∙ ap log_of
        (fronts (of_object then.arrived o) (of_object a o) (of_object by.arrived o) (of_object b o) split le))

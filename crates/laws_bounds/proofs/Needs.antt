-- The bounds of each run with falls.
use Rattle.std.proofs.Common.{◌≡◌, ℕ, ◌+◌, Bool, List, [], length, subst, arith}
use Rattle.qc_core.specs.Vocabulary.{IsLawfulWithFalls, actor_after}
use Rattle.qc_decl.specs.declared.declaration.Declaration.{Declaration}
use Rattle.qc_msg.specs.declared.record.Record.{Record}
use Rattle.qc_msg.specs.Vocabulary.{Entry, deeds}
use Rattle.qc_msg.proofs.GrownMail.{length-mail}
use Rattle.qc_promise.specs.Vocabulary.{Kept}
use Rattle.qc_script.specs.Vocabulary.{RunsWithFalls}
use Rattle.qc_script.specs.declared.script.Script.{Script}
use Rattle.laws_bounds.specs.Vocabulary.{IsBoundedWithFalls, LivesWithin, RiseWithin}
use Rattle.laws_bounds.proofs.CountBounds.{history_lives}
use Rattle.laws_bounds.proofs.FewRecords.{kept_rise_few}
use Rattle.laws_bounds.proofs.Histories.{Held, RisesBy, kept_rises_within, rises_within_bound, run_held}

module _ (decl : Declaration) (script : Script) (fits : ℕ → List Record → Type 0) (h : List Entry)
    (open_inputs : List Bool) (run : RunsWithFalls (IsLawfulWithFalls decl) fits decl script h open_inputs) where
  bounded_by : (b : ℕ) → RisesBy b h → IsBoundedWithFalls decl (b + length h) h
  bounded_by b rising =
      let held : Held decl (b + length h) h = run_held decl script fits b h open_inputs run rising in
      record { count = length-mail h; messages = held.messages; actors = held.actors; records = held.puts }

  pub run_bounded : (b : ℕ) → RiseWithin b h → IsBoundedWithFalls decl (b + length h) h
  run_bounded b all = bounded_by b (rises_within_bound b h all)

  pub kept_bounded : Kept h → IsBoundedWithFalls decl (length h) h
  kept_bounded kept =
      subst (λ (n : ℕ). IsBoundedWithFalls decl n h) (let same : 0 + length h ≡ length h = omega arith in same)
      (bounded_by 0 (kept_rises_within h kept))

pub kept_lives : (decl : Declaration) (h : List Entry) (a : ℕ) → Kept h
    → LivesWithin (length h + 2 + length h) (actor_after decl a (deeds a [] h)).actor
kept_lives decl h a kept = history_lives (length h) decl a h (kept_rise_few h kept)

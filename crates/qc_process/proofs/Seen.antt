-- Posts in parts; how many records a store has, and that they are kept.
use Rattle.std.proofs.Common.{◌≡◌, ℕ, ◌+◌, ◌^◌, ◌<◌, ◌≤◌, Bool, List, [], ◌∷◌, ◌++◌, Option, Some, None, IfSome, length}
use Rattle.std.proofs.Common.{refl, sym, ◌∙◌, ap, arith, append_assoc, append-nil}
use Rattle.std.proofs.lemmas.Bool.{eq-eqb}
use Rattle.qc_decl.specs.declared.declaration.Declaration.{Declaration}
use Rattle.qc_msg.specs.Vocabulary.{Entry, by, own}
use Rattle.qc_msg.specs.declared.step.Step.{Step}
use Rattle.qc_msg.proofs.GrownMail.{by-append}
use Rattle.qc_promise.specs.Vocabulary.{IsKeptOrUnfit, Journal, journal_of}
use Rattle.qc_process.specs.Vocabulary.{AreKeptOrUnfit, Goes, HasFewRecords, IsPlaced, IsStored, OpenJournal, StoreView}
use Rattle.qc_process.specs.Vocabulary.{journal_fits}
use Rattle.qc_process.proofs.Own.{own_cut}

pub posts_may_be_seen_in_parts : (a : ℕ) (h now : List Entry) (xs ys : List Step) → Goes a h (xs ++ ys) now
    → (mid : List Entry) × Goes a h xs mid × Goes a mid ys now
posts_may_be_seen_in_parts a h now xs ys goes = (
  (h ++ goes.others) ++ by a xs,
  record { others = goes.others; not_own = goes.not_own; now_is = refl },
  record {
    others = [];
    not_own = tt;
    now_is =
        goes.now_is
        ∙ ap (λ (l : List Entry). (h ++ goes.others) ++ l) (by-append a xs ys)
        ∙ sym (append_assoc (h ++ goes.others) (by a xs) (by a ys))
        ∙ ap (λ (l : List Entry). l ++ by a ys) (sym (append-nil ((h ++ goes.others) ++ by a xs)));
  },
)

few_placed : (s : StoreView) (o : Option OpenJournal) (j : Journal) (n : ℕ) → IsPlaced s.told o j
    → length j.records ≤ 2 ^ 31 + n → n < 2 ^ 31 → IfSome o (λ p. p.records < 2 ^ 32)
few_placed s None j n placed few short = tt
few_placed s (Some o) j n placed few short =
    let same : o.records ≡ length j.records = placed.2 in
    omega (arith, same, few, short)

pub stores_take_one_record_more : (tells : Bool) (decl : Declaration) (a : ℕ) (h : List Entry) (s : StoreView)
    → length h < 2 ^ 31
    → IsStored tells decl a h s → HasFewRecords s
stores_take_one_record_more tells decl a h s short is =
    few_placed s s.journal is.records (length h) is.placed is.told_by.few short

-- from each actor's own steps to the history

pub kept_at : (decl : Declaration) (h : List Entry) → ((a : ℕ) → AreKeptOrUnfit decl a (own a h))
    → (before later : List Entry) (e : Entry) → before ++ e ∷ later ≡ h
    → IsKeptOrUnfit (journal_fits decl e.actor (journal_of (own e.actor before))) (own e.actor before) e.step
kept_at decl h each before later e is =
    each e.actor (own e.actor before) (own e.actor later) e.step
    (sym (own_cut e.actor before later e (eq-eqb e.actor e.actor refl)) ∙ ap (own e.actor) is)

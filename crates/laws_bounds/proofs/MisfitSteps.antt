-- An actor's steps that keep its records but for misfits: they stay such, step by step.
use Rattle.std.proofs.Common.{◌≡◌, ℕ, List, [], ◌∷◌, ◌++◌, fold, sym, ap, ◌∙◌, subst, append-nil}
use Rattle.std.proofs.lemmas.List.Sums.{fold-append}
use Rattle.qc_decl.specs.declared.declaration.Declaration.{Declaration}
use Rattle.qc_msg.specs.Vocabulary.{Entry, by, own}
use Rattle.qc_msg.specs.declared.step.Step.{Step}
use Rattle.qc_msg.proofs.DeedsGrow.{own-append, own-more}
use Rattle.qc_promise.specs.Vocabulary.{AreKept, IsKeptAt, IsOfOthers, Journal, journal_of, journal_with, no_journal}
use Rattle.qc_promise.specs.Vocabulary.{IsGivenBack}
use Rattle.laws_bounds.specs.Vocabulary.{AreKeptOrMisfits, IsKeptOrMisfit, NextAreKeptOrMisfits, JournalFits}
use Rattle.laws_bounds.proofs.Cuts.{CutIn, cut_in, in_first, in_second, none_cut}
use Rattle.laws_bounds.proofs.StepCases.{kept_cases}
use Rattle.qc_promise.proofs.Posts.{own_others}

pub no_misfits : (decl : Declaration) (a : ℕ) → AreKeptOrMisfits decl a []
no_misfits decl a before later s is = absurd (none_cut before later s is)

pub others_on : (decl : Declaration) (a : ℕ) (h more : List Entry) → IsOfOthers a more
    → AreKeptOrMisfits decl a (own a h) → AreKeptOrMisfits decl a (own a (h ++ more))
others_on decl a h more others are =
    let same : own a (h ++ more) ≡ own a h =
    own-append a h more ∙ ap (λ (l : List Step). own a h ++ l) (own_others a more others) ∙ append-nil (own a h) in
    subst (AreKeptOrMisfits decl a) (sym same) are

next_at : (decl : Declaration) (a : ℕ) (j : Journal) (front later : List Step) (s : Step)
    → NextAreKeptOrMisfits decl a j (front ++ s ∷ later) → IsKeptOrMisfit decl a (fold journal_with j front) s
next_at decl a j [] later s next = next.0
next_at decl a j (f ∷ front) later s next = next_at decl a (journal_with j f) front later s next.1

behind : (decl : Declaration) (a : ℕ) (before xs : List Step) → NextAreKeptOrMisfits decl a (journal_of before) xs
    → AreKeptOrMisfits decl a before → AreKeptOrMisfits decl a (before ++ xs)
behind decl a mine xs next are before later s is = from (cut_in mine xs before later s is)
  where
    from : CutIn mine xs before later s → IsKeptOrMisfit decl a (journal_of before) s
    from (in_first rest part) = are before rest s part
    from (in_second front whole part) =
        let journal_is : journal_of before ≡ fold journal_with (journal_of mine) front =
        ap journal_of whole ∙ fold-append journal_with no_journal mine front in
        subst (λ (j : Journal). IsKeptOrMisfit decl a j s) (sym journal_is)
        (next_at decl a (journal_of mine) front later s
        (subst (NextAreKeptOrMisfits decl a (journal_of mine)) (sym part) next))

pub own_on : (decl : Declaration) (a : ℕ) (h : List Entry) (own_steps : List Step)
    → NextAreKeptOrMisfits decl a (journal_of (own a h)) own_steps → AreKeptOrMisfits decl a (own a h)
    → AreKeptOrMisfits decl a (own a (h ++ by a own_steps))
own_on decl a h own_steps next are =
    subst (AreKeptOrMisfits decl a) (sym (own-more a h own_steps)) (behind decl a (own a h) own_steps next are)

kept_is : (decl : Declaration) (a : ℕ) (before : List Step) (s : Step) → IsKeptAt before s
    → IsKeptOrMisfit decl a (journal_of before) s
kept_is decl a before =
    kept_cases (IsKeptAt before) (IsGivenBack (journal_of before))
    (λ (offset : ℕ). JournalFits decl a (journal_of before) → ⊥) (λ rs kept. kept) (λ offset kept. absurd kept)

pub kept_are : (decl : Declaration) (a : ℕ) (own_steps : List Step) → AreKept own_steps
    → AreKeptOrMisfits decl a own_steps
kept_are decl a own_steps kept before later s is = kept_is decl a before s (kept before later s is)

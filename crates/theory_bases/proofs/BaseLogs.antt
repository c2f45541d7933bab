-- The base of a site is the log of its last Install, which is the one decision's of its epoch; in the first epoch it is
-- empty.
use Rattle.std.proofs.Common.{◌≡◌, ℕ, ◌<◌, ◌⊎◌, inl, inr, List, [], ◌∷◌, Some, refl, sym, ap, ◌∙◌, subst}
use Rattle.qc_entry.specs.declared.line.Line.{Line}
use Rattle.qc_decl.specs.declared.declaration.Declaration.{Declaration}
use Rattle.qc_decl.specs.Vocabulary.{IsAccepted, plan_in}
use Rattle.qc_list.specs.Vocabulary.{In}
use Rattle.theory_machine.specs.Vocabulary.{Act, Closes, Decision, Deed, Grants, Installs, IsRun, LearnsAbort}
use Rattle.theory_machine.specs.Vocabulary.{LearnsCommit, Prepares, Rises, epoch_from, site_after, state}
use Rattle.theory_machine.proofs.Keeps.{laws}
use Rattle.theory_bases.specs.Vocabulary.{AreDisciplined, AreShortDeeds, IsAbove, base_from, base_of, short_site_after}
use Rattle.theory_bases.proofs.Above.{epochs_are_decided_once, later_lines_are_above}
use Rattle.theory_bases.proofs.Stands.{short_sites_stand_for_whole_ones}

-- an Install of this epoch and log
record IsInstallOf (ds : List Deed) (k : ℕ) (log : List Line) : Type 0 where
  clock : ℕ
  stands : In (Installs k clock log) ds

later : (d : Deed) (ds : List Deed) (k : ℕ) (log : List Line) → IsInstallOf ds k log → IsInstallOf (d ∷ ds) k log
later d ds k log i = record { clock = i.clock; stands = inr i.stands }

-- nothing is installed, or the base and the epoch are those of an Install
abbrev IsLast : List Deed → ℕ → List Line → Type 0
IsLast ds e base = ((base_from base ds ≡ base) × (epoch_from e ds ≡ e))
    ⊎ IsInstallOf ds (epoch_from e ds) (base_from base ds)

also : (d : Deed) (ds : List Deed) (e : ℕ) (base : List Line) → IsLast ds e base
    → ((base_from base ds ≡ base) × (epoch_from e ds ≡ e)) ⊎ IsInstallOf (d ∷ ds) (epoch_from e ds) (base_from base ds)
also d ds e base (inl none) = inl none
also d ds e base (inr i) = inr (later d ds (epoch_from e ds) (base_from base ds) i)

last : (ds : List Deed) (e : ℕ) (base : List Line) → IsLast ds e base
last [] e base = inl (refl, refl)
last (Grants tx items view ∷ ds) e base = also (Grants tx items view) ds e base (last ds e base)
last (Prepares tx ∷ ds) e base = also (Prepares tx) ds e base (last ds e base)
last (LearnsCommit tx stamp ∷ ds) e base = also (LearnsCommit tx stamp) ds e base (last ds e base)
last (LearnsAbort tx ∷ ds) e base = also (LearnsAbort tx) ds e base (last ds e base)
last (Closes ∷ ds) e base = also Closes ds e base (last ds e base)
last (Installs k clock log ∷ ds) e base = inr (here (last ds k log))
  where
    here : IsLast ds k log → IsInstallOf (Installs k clock log ∷ ds) (epoch_from k ds) (base_from log ds)
    here (inl none) = record {
      clock = clock;
      stands = inl (ap (λ (x : List Line). Installs (epoch_from k ds) clock x) none.0
          ∙ ap (λ (x : ℕ). Installs x clock log) none.1);
    }
    here (inr i) = later (Installs k clock log) ds (epoch_from k ds) (base_from log ds) i
last (Rises ∷ ds) e base = also Rises ds e base (last ds e base)

module _ (decl : Declaration) (acts : List Act) (run : IsRun decl acts) where
  -- the first epoch isn't decided: there is no plan of an epoch before it
  not_first : (d : Decision) → In d (state acts).decided → d.epoch ≡ 1 → ⊥
  not_first d h first = let m = (laws decl acts run).made d h in
      let e : plan_in decl 0 ≡ Some m.plan = m.planned 0 first in let never : ⊥ = cc in never

  pub first_base : (site : ℕ) → epoch_from 1 ((state acts).deeds site) ≡ 1 → base_of ((state acts).deeds site) ≡ []
  first_base site first = by (last ((state acts).deeds site) 1 [])
    where
      by : IsLast ((state acts).deeds site) 1 [] → base_of ((state acts).deeds site) ≡ []
      by (inl none) = none.0
      by (inr i) = let d = (laws decl acts run).installed site (epoch_from 1 ((state acts).deeds site)) i.clock
          (base_of ((state acts).deeds site)) i.stands in absurd (not_first d.by d.stands (d.epoch ∙ first))

  module _ (accepted : IsAccepted decl) (disciplined : AreDisciplined decl acts) where
    pub decided_base : (site : ℕ) (d : Decision) → In d (state acts).decided
        → epoch_from 1 ((state acts).deeds site) ≡ d.epoch → base_of ((state acts).deeds site) ≡ d.log
    decided_base site d h is = by (last ((state acts).deeds site) 1 [])
      where
        by : IsLast ((state acts).deeds site) 1 [] → base_of ((state acts).deeds site) ≡ d.log
        by (inl none) = absurd (not_first d h (sym is ∙ none.1))
        by (inr i) =
            let x = (laws decl acts run).installed site (epoch_from 1 ((state acts).deeds site)) i.clock
            (base_of ((state acts).deeds site)) i.stands in
            sym x.logs ∙ ap (λ (y : Decision). y.log)
            (epochs_are_decided_once decl accepted acts run disciplined x.by d x.stands h (x.epoch ∙ is))

    pub short_logs_are_above_their_bases : (site : ℕ) (short : List Deed)
        → AreShortDeeds ((state acts).deeds site) short
        → ((l : Line) → In l (short_site_after short).volatile → In l (base_of ((state acts).deeds site)) → ⊥)
        → IsAbove (base_of ((state acts).deeds site)) (short_site_after short).volatile
    short_logs_are_above_their_bases site short ok apart m l hm hl = by (last ((state acts).deeds site) 1 [])
      where
        whole : In l (site_after ((state acts).deeds site)).volatile
        whole = (short_sites_stand_for_whole_ones ((state acts).deeds site) short ok).volatile.has_short l hl

        by : IsLast ((state acts).deeds site) 1 [] → m.stamp.clock < l.stamp.clock
        by (inl none) = absurd (subst (λ (ls : List Line). In m ls) none.0 hm)
        by (inr i) =
            let x = (laws decl acts run).installed site (epoch_from 1 ((state acts).deeds site)) i.clock
            (base_of ((state acts).deeds site)) i.stands in
            elim (later_lines_are_above decl accepted acts run disciplined site l m x.by whole x.stands (sym x.epoch)
            (subst (λ (ls : List Line). In m ls) (sym x.logs) hm)) [
              | inl j ↦ absurd (apart l hl (subst (λ (ls : List Line). In l ls) x.logs j))
              | inr f ↦ f.1
            ]

-- What a record adds that was being written as its site fell.
use Rattle.std.proofs.Common.{◌≡◌, ℕ, true, List, refl, ◌∙◌}
use Rattle.qc_list.specs.Vocabulary.{In}
use Rattle.qc_decl.specs.declared.declaration.Declaration.{Declaration}
use Rattle.qc_decl.specs.Vocabulary.{is_site}
use Rattle.theory_machine.specs.Vocabulary.{Act, Granted, IsRun, State, state}
use Rattle.qc_recover.specs.Vocabulary.{Kept}
use Rattle.laws_refinement.specs.Vocabulary.{KeptMirrors}
use Rattle.laws_refinement.proofs.MessagesStay.{keeps_both, keeps_same, later_both, same_state}
use Rattle.laws_refinement.proofs.SiteNets.{AtSite}

module _ (decl : Declaration) where
  pub at_first : (w : State) (a : ℕ) → ((g : Granted) → In g w.granted → is_site decl g.site ≡ true) → AtSite decl w w a
  at_first w a placed =
      record {
        later = same_state w;
        keeps = keeps_same w;
        records = refl;
        placed_at = placed;
        there = λ b other. refl;
        lives = λ b other. refl;
      }

  pub at_both : (w u v : State) (a : ℕ) → AtSite decl w u a → AtSite decl u v a → AtSite decl w v a
  at_both w u v a x y = record {
    later = later_both w u v x.later y.later;
    keeps = λ c. keeps_both w u v c (x.keeps c) (y.keeps c);
    records = y.records ∙ x.records;
    placed_at = y.placed_at;
    there = λ b other. y.there b other ∙ x.there b other;
    lives = λ b other. y.lives b other ∙ x.lives b other;
  }

  -- the machine went so far, and the site's records agree
  pub record SiteMid (w : State) (a : ℕ) (k : Kept) : Type 0 where
    pub acts : List Act
    pub run : IsRun decl acts
    pub at : AtSite decl w (state acts) a
    pub kept : KeptMirrors decl k (state acts).status ((state acts).life a) ((state acts).deeds a)

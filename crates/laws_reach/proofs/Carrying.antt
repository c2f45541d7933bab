-- A commit record that is known after a client's deeds has the operations that the client was told: deed by deed.
use Rattle.std.proofs.Common.{[], ◌≡◌, ◌≤◌, ◌⊎◌, inl, inr, ℕ, Bool, true, fold, List, ◌∷◌, ◌++◌, Option, Some}
use Rattle.std.proofs.Common.{None, option_to_list, refl, sym, ap, ◌∙◌, subst, arith}
use Rattle.std.proofs.lemmas.List.Sums.{fold-append}
use Rattle.qc_list.specs.Vocabulary.{In}
use Rattle.qc_stamp.specs.Vocabulary.{first_life}
use Rattle.qc_decl.specs.declared.declaration.Declaration.{Declaration}
use Rattle.qc_entry.specs.declared.record.Commit.{Commit as CommitRecord}
use Rattle.qc_core.specs.Vocabulary.{journal_at}
use Rattle.qc_msg.specs.declared.record.Record.{Record}
use Rattle.qc_msg.specs.declared.record.Record.TheVariants.{Commit}
use Rattle.qc_msg.specs.declared.step.Fall.{Fall}
use Rattle.qc_msg.specs.Vocabulary.{Deed, Falls, Rises}
use Rattle.qc_promise.specs.Vocabulary.{Account, Dealing, IsGivenBack, Journal, Place, account_at, deal, life_with}
use Rattle.qc_promise.specs.Vocabulary.{pending_next, pending_with}
use Rattle.laws_reach.proofs.Gists.{gist, finished}
use Rattle.laws_reach.proofs.Bases.{Both, both_as, ends, none_some}
use Rattle.laws_reach.proofs.Steps.{risen}
use Rattle.laws_reach.proofs.DealingsTurning.{FellTo, RoseTo, is_failing, is_off}
use Rattle.laws_reach.proofs.CarriedRecords.{life_up, Ongoing}
use Rattle.qc_list.proofs.Booleans.{not_both}

module _ (decl : Declaration) (c : CommitRecord) where
  abbrev Known : Place → Journal → List Deed → Type 0
  Known p j after =
      (In (Commit c) j.records)
      ⊎ ((j.pending ≡ Some (Commit c)) ⊎ ((is_failing p ≡ true) × (pending_next after ≡ Some (Commit c))))

  -- a fall

  pub fallen_known : (p q : Place) (j : Journal) (cause : Fall) (pending : Option Record) (after : List Deed)
      → FellTo p cause pending (Some q) → Known q (journal_at j (Falls cause pending)) after
      → Known p j (Falls cause pending ∷ after)
  fallen_known p q j cause pending after place (inl at) = inl at
  fallen_known p q j cause pending after place (inr (inl at)) = held pending refl at
    where
      held : (o : Option Record) → pending ≡ o → pending_with j.pending o ≡ Some (Commit c)
          → Known p j (Falls cause pending ∷ after)
      held None is at = inr (inl at)
      held (Some r) is at = inr (inr (place.1.1 c after (is ∙ at)))
  fallen_known p q j cause pending after place (inr (inr at)) = absurd (not_both (is_failing q) at.0 place.1.0)

  pub fell : (p q : Place) (d : Account) (x : Dealing) (j : Journal) (cause : Fall) (pending : Option Record)
      (after : List Deed) → FellTo p cause pending (Some q)
      → Ongoing decl c p d x j (Falls cause pending ∷ after)
      → Ongoing decl c q (account_at decl d (Falls cause pending)) (deal c.tx x (Falls cause pending))
      (journal_at j (Falls cause pending)) after
  fell p q d x j cause pending after place s = record {
    both =
        subst (λ (b : Bool). Both c.tx c.ops b (finished (gist d)) (record x { begun = None })
        (Known q (journal_at j (Falls cause pending)) after)) (sym place.0)
        (both_as c.tx c.ops true true (finished (gist d)) (finished (gist d)) (record x { begun = None })
        (Known p j (Falls cause pending ∷ after)) (Known q (journal_at j (Falls cause pending)) after) refl refl
        (fallen_known p q j cause pending after place)
        (ends c.tx c.ops (is_off p) true (gist d) x x.ends (Known p j (Falls cause pending ∷ after)) (inr refl)
        s.both));
    life = s.life;
  }

  -- a rise
  in_either : (xs ys : List Record) → In (Commit c) (xs ++ ys) → In (Commit c) xs ⊎ In (Commit c) ys
  in_either [] ys among = inr among
  in_either (x ∷ xs) ys (inl same) = inl (inl same)
  in_either (x ∷ xs) ys (inr later) = by (in_either xs ys later) where
    by : In (Commit c) xs ⊎ In (Commit c) ys → In (Commit c) (x ∷ xs) ⊎ In (Commit c) ys
    by (inl first) = inl (inr first)
    by (inr second) = inr second

  in_pending : (o : Option Record) → In (Commit c) (option_to_list o) → o ≡ Some (Commit c)
  in_pending None among = absurd among
  in_pending (Some r) (inl same) = ap (λ (e : Record). Some e) (sym same)
  in_pending (Some r) (inr later) = absurd later

  back_known : (p : Place) (j : Journal) (kept : List Record) (before : List Deed) → IsGivenBack j kept
      → In (Commit c) kept → Known p j before
  back_known p j kept before (inl same) among = inl (subst (In (Commit c)) same among)
  back_known p j kept before (inr more) among =
      by (in_either j.records (option_to_list j.pending) (subst (In (Commit c)) more among))
    where
      by : In (Commit c) j.records ⊎ In (Commit c) (option_to_list j.pending) → Known p j before
      by (inl first) = inl first
      by (inr second) = inr (inl (in_pending j.pending second))

  back_up : (j : Journal) (kept : List Record) → IsGivenBack j kept
      → fold life_with first_life j.records ≤ fold life_with first_life kept
  back_up j kept (inl same) =
      subst (λ (rs : List Record). fold life_with first_life j.records ≤ fold life_with first_life rs) (sym same)
      (life_up_none (fold life_with first_life j.records))
    where
      life_up_none : (n : ℕ) → n ≤ n
      life_up_none n = omega arith
  back_up j kept (inr more) =
      subst (λ (n : ℕ). fold life_with first_life j.records ≤ n)
      (sym (ap (fold life_with first_life) more
      ∙ fold-append life_with first_life j.records (option_to_list j.pending)))
      (life_up (fold life_with first_life j.records) (option_to_list j.pending))

  pub risen_known : (p q : Place) (j : Journal) (kept : List Record) (after : List Deed) → RoseTo (is_off p) (Some q)
      → IsGivenBack j kept → Known q (journal_at j (Rises kept)) after → Known p j (Rises kept ∷ after)
  risen_known p q j kept after place back (inl at) = back_known p j kept (Rises kept ∷ after) back at
  risen_known p q j kept after place back (inr (inl at)) = absurd (none_some (Commit c) None refl at)
  risen_known p q j kept after place back (inr (inr at)) = absurd (not_both (is_failing q) at.0 place.1.1)

  -- the life that it rises with is no less
  pub lives_up : (d : Account) (x : Dealing) (p : Place) (j : Journal) (kept : List Record) (before : List Deed)
      → IsGivenBack j kept → Ongoing decl c p d x j before → d.life ≤ fold life_with first_life kept
  lives_up d x p j kept before back s =
      subst (λ (n : ℕ). n ≤ fold life_with first_life kept) (sym s.life) (back_up j kept back)

  pub rose : (p q : Place) (d : Account) (x : Dealing) (j : Journal) (kept : List Record) (after : List Deed)
      → RoseTo (is_off p) (Some q) → IsGivenBack j kept
      → Ongoing decl c p d x j (Rises kept ∷ after)
      → Ongoing decl c q (account_at decl d (Rises kept)) x (journal_at j (Rises kept)) after
  rose p q d x j kept after place back s = record {
    both =
        both_as c.tx c.ops true (is_off q) (gist (account_at decl d (Rises kept)))
        (gist (account_at decl d (Rises kept))) x (Known p j (Rises kept ∷ after))
        (Known q (journal_at j (Rises kept)) after) place.1.0 refl (risen_known p q j kept after place back)
        (risen c.tx c.ops (gist d) x (Known p j (Rises kept ∷ after)) (fold life_with first_life kept)
        (lives_up d x p j kept (Rises kept ∷ after) back s)
        (subst (λ (b : Bool). Both c.tx c.ops b (gist d) x (Known p j (Rises kept ∷ after))) place.0 s.both));
    life = refl;
  }

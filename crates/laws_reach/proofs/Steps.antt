-- What ties a client's account to its dealings in one transaction, whose record may be known: how it stays.
use Rattle.std.proofs.Common.{[], ◌≡◌, ◌<◌, ◌≤◌, ◌⊎◌, inl, inr, ℕ, ◌+◌, Bool, true, false, List, Option, None}
use Rattle.std.proofs.Common.{option_map, refl, ap, ◌∙◌, arith}
use Rattle.qc_stamp.specs.declared.stamp.TxId.{TxId}
use Rattle.qc_entry.specs.declared.line.Op.{Op}
use Rattle.qc_promise.specs.Vocabulary.{Dealing}
use Rattle.laws_reach.proofs.Gists.{Gist, Going}
use Rattle.laws_reach.proofs.Bases.{none_some, Settled, Both}
use Rattle.qc_list.proofs.Booleans.{not_both}

module _ (tx : TxId) (ops : List Op) where
  abbrev IsBehind : Bool → Gist → Type 0
  IsBehind off g =
      (tx.life < g.life) ⊎ (((tx.life ≡ g.life) × (tx.number ≤ g.count)) ⊎ ((tx.life ≤ g.life) × (off ≡ true)))

  -- the transaction is its client's, and no later one has its name
  abbrev IsPast : Bool → Gist → Type 0
  IsPast off g = (tx.client ≡ g.client) × IsBehind off g

  -- the record of a rise is written

  older : (g : Gist) → IsBehind true g → IsBehind false (record g { life = g.life + 1 })
  older g (inl before) = inl (omega arith)
  older g (inr (inl at)) = let is : tx.life ≡ g.life = at.0 in inl (omega arith)
  older g (inr (inr at)) = let low : tx.life ≤ g.life = at.0 in inl (omega arith)

  pub past_life : (g : Gist) → IsPast true g → IsPast false (record g { life = g.life + 1 })
  past_life g past = (past.0, older g past.1)

  pub lives_on : (g : Gist) (x : Dealing) (K : Type 0) → Both tx ops true g x K
      → Both tx ops false (record g { life = g.life + 1 }) x K
  lives_on g x K s = record {
    base = record {
      asked = s.base.asked;
      begun = s.base.begun;
      down = λ is. absurd (not_both false is refl);
      told = λ o is named. absurd (none_some o g.begun (s.base.down refl) is);
      fresh = fresh s.base.fresh;
    };
    known =
        λ k. (let t : Settled tx ops true g x = s.known k in
        record { same = t.same; past = past_life g t.past; quiet = t.quiet });
  }
    where
      fresh : IsPast true g ⊎ (x.ops ≡ []) → IsPast false (record g { life = g.life + 1 }) ⊎ (x.ops ≡ [])
      fresh (inl past) = inl (past_life g past)
      fresh (inr none) = inr none

  -- a rise

  abbrev pub risen_with : Gist → ℕ → Gist
  risen_with g life = record { client = g.client; life = life; count = 0; command = None; written = None; begun = None }

  grown : (g : Gist) (life : ℕ) → g.life ≤ life → IsBehind true g → IsBehind true (risen_with g life)
  grown g life up (inl before) = inr (inr (omega arith, refl))
  grown g life up (inr (inl at)) = let is : tx.life ≡ g.life = at.0 in inr (inr (omega arith, refl))
  grown g life up (inr (inr at)) = let low : tx.life ≤ g.life = at.0 in inr (inr (omega arith, refl))

  pub past_risen : (g : Gist) (life : ℕ) → g.life ≤ life → IsPast true g → IsPast true (risen_with g life)
  past_risen g life up past = (past.0, grown g life up past.1)

  pub risen : (g : Gist) (x : Dealing) (K : Type 0) (life : ℕ) → g.life ≤ life → Both tx ops true g x K
      → Both tx ops true (risen_with g life) x K
  risen g x K life up s = record {
    base = record {
      asked = λ command is. absurd (none_some command None refl is);
      begun = s.base.begun ∙ ap (λ (b : Option Going). option_map (λ (e : Going). e.tx) b) (s.base.down refl);
      down = λ is. refl;
      told = λ o is named. absurd (none_some o None refl is);
      fresh = fresh s.base.fresh;
    };
    known =
        λ k. (let t : Settled tx ops true g x = s.known k in
        record {
          same = t.same;
          past = past_risen g life up t.past;
          quiet = λ o is named. absurd (none_some o None refl is);
        });
  }
    where
      fresh : IsPast true g ⊎ (x.ops ≡ []) → IsPast true (risen_with g life) ⊎ (x.ops ≡ [])
      fresh (inl past) = inl (past_risen g life up past)
      fresh (inr none) = inr none

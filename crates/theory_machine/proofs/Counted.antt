-- What a site did since it granted: each deed more keeps what is known of a grant that the client counted.
-- A counted grant lasts (the held law): its items are held until the transaction is decided, or they are prepared.
use Rattle.std.proofs.Common.{◌≡◌, ◌≢◌, ℕ, suc, ◌≤◌, false, inl, inr, List, [], ◌∷◌, ◌++◌, ap, ◌∙◌, arith, append_assoc}
use Rattle.qc_list.specs.Vocabulary.{In}
use Rattle.theory_machine.specs.Vocabulary.{Aborted, Closes, CountedLaw, Deed, Granted, GrantedLaw, Grants, KeepsLife}
use Rattle.theory_machine.specs.Vocabulary.{Prepares, Rises, Status, YesVote}
use Rattle.theory_machine.proofs.Deeds.{IsCalm, more_calm, IsBorne, more_borne, more_prepared_or_done}
use Rattle.theory_machine.proofs.Deeds.{vote_prepared_or_done, no_rise_more}

-- the split goes on
grown : (ds : List Deed) (g : Granted) (post : List Deed) (d : Deed)
    → ds ≡ g.before ++ Grants g.tx g.items g.view ∷ post
    → ds ++ d ∷ [] ≡ g.before ++ Grants g.tx g.items g.view ∷ (post ++ d ∷ [])
grown ds g post d e = ap (λ (l : List Deed). l ++ d ∷ []) e
    ∙ append_assoc g.before (Grants g.tx g.items g.view ∷ post) (d ∷ [])

pub granted_after : (ds : List Deed) (life : ℕ) (g : Granted) (d : Deed) → KeepsLife (d ∷ []) → GrantedLaw ds life g
    → GrantedLaw (ds ++ d ∷ []) life g
granted_after ds life g d n k = record {
  post = k.post ++ d ∷ [];
  split = grown ds g k.post d k.split;
  calm = λ e. no_rise_more k.post d (k.calm e) n;
  older = k.older;
}

pub granted_rises : (ds : List Deed) (life : ℕ) (g : Granted) → GrantedLaw ds life g
    → GrantedLaw (ds ++ Rises ∷ []) (suc life) g
granted_rises ds life g k = record {
  post = k.post ++ Rises ∷ [];
  split = grown ds g k.post Rises k.split;
  calm = λ e. (let o : g.life ≤ life = k.older in absurd (omega arith));
  older = (let o : g.life ≤ life = k.older in omega arith);
}

pub granted_closes : (ds : List Deed) (life : ℕ) (g : Granted) → GrantedLaw ds life g
    → GrantedLaw (ds ++ Closes ∷ []) (suc life) g
granted_closes ds life g k = record {
  post = k.post ++ Closes ∷ [];
  split = grown ds g k.post Closes k.split;
  calm = λ e. (let o : g.life ≤ life = k.older in absurd (omega arith));
  older = (let o : g.life ≤ life = k.older in omega arith);
}

pub counted_calm : (ds : List Deed) (life : ℕ) (st : Status) (votes : List YesVote) (g : Granted) (d : Deed)
    → (st ≢ Aborted → IsCalm g.tx d) → CountedLaw ds life st votes g → CountedLaw (ds ++ d ∷ []) life st votes g
counted_calm ds life st votes g d calm k = record {
  post = k.post ++ d ∷ [];
  split = grown ds g k.post d k.split;
  fresh = k.fresh;
  unvoted = λ alive e. more_calm g.tx k.post false d (calm alive) (k.unvoted alive e);
  voted = λ alive v. (
    more_calm g.tx k.post false d (calm alive) (k.voted alive v).0,
    more_prepared_or_done g.tx k.post false d (k.voted alive v).1,
  );
}

-- a Done, or a rise, where the vote was given
pub counted_borne : (ds : List Deed) (life : ℕ) (st : Status) (votes : List YesVote) (g : Granted) (d : Deed)
    → IsBorne g.tx d → In (record { tx = g.tx; site = g.site }) votes → CountedLaw ds life st votes g
    → CountedLaw (ds ++ d ∷ []) life st votes g
counted_borne ds life st votes g d b v k = record {
  post = k.post ++ d ∷ [];
  split = grown ds g k.post d k.split;
  fresh = k.fresh;
  unvoted = λ alive e. more_borne g.tx k.post false d b (k.voted alive v).0 (k.voted alive v).1;
  voted = λ alive v2. (
    more_borne g.tx k.post false d b (k.voted alive v).0 (k.voted alive v).1,
    more_prepared_or_done g.tx k.post false d (k.voted alive v).1,
  );
}

pub counted_rises : (ds : List Deed) (life : ℕ) (st : Status) (votes : List YesVote) (g : Granted) → g.life ≤ life
    → CountedLaw ds life st votes g → CountedLaw (ds ++ Rises ∷ []) (suc life) st votes g
counted_rises ds life st votes g older k = record {
  post = k.post ++ Rises ∷ [];
  split = grown ds g k.post Rises k.split;
  fresh = k.fresh;
  unvoted = λ alive e. absurd (omega arith);
  voted = λ alive v. (
    more_borne g.tx k.post false Rises tt (k.voted alive v).0 (k.voted alive v).1,
    more_prepared_or_done g.tx k.post false Rises (k.voted alive v).1,
  );
}

pub counted_closes : (ds : List Deed) (life : ℕ) (st : Status) (votes : List YesVote) (g : Granted) → g.life ≤ life
    → CountedLaw ds life st votes g → CountedLaw (ds ++ Closes ∷ []) (suc life) st votes g
counted_closes ds life st votes g older k = record {
  post = k.post ++ Closes ∷ [];
  split = grown ds g k.post Closes k.split;
  fresh = k.fresh;
  unvoted = λ alive e. absurd (omega arith);
  voted = λ alive v. (
    more_borne g.tx k.post false Closes tt (k.voted alive v).0 (k.voted alive v).1,
    more_prepared_or_done g.tx k.post false Closes (k.voted alive v).1,
  );
}

-- the vote itself
pub counted_vote : (ds : List Deed) (life : ℕ) (st : Status) (votes : List YesVote) (g : Granted) (v : YesVote)
    → life ≡ g.life → CountedLaw ds life st votes g → CountedLaw (ds ++ Prepares g.tx ∷ []) life st (v ∷ votes) g
counted_vote ds life st votes g v same k = record {
  post = k.post ++ Prepares g.tx ∷ [];
  split = grown ds g k.post (Prepares g.tx) k.split;
  fresh = k.fresh;
  unvoted = λ alive e. more_calm g.tx k.post false (Prepares g.tx) tt (k.unvoted alive e);
  voted = λ alive w. (
    more_calm g.tx k.post false (Prepares g.tx) tt (k.unvoted alive same),
    vote_prepared_or_done g.tx k.post false,
  );
}

-- another's vote
pub counted_other : (ds : List Deed) (life : ℕ) (st : Status) (votes : List YesVote) (g : Granted) (v : YesVote)
    → (record { tx = g.tx; site = g.site } ≡ v → ⊥) → CountedLaw ds life st votes g
    → CountedLaw ds life st (v ∷ votes) g
counted_other ds life st votes g v ne k = record {
  post = k.post;
  split = k.split;
  fresh = k.fresh;
  unvoted = k.unvoted;
  voted = λ alive w. elim w [ inl same ↦ absurd (ne same) | inr old ↦ k.voted alive old ];
}

pub restated : (ds : List Deed) (life : ℕ) (old new : Status) (votes : List YesVote) (g : Granted)
    → (new ≢ Aborted → old ≢ Aborted) → CountedLaw ds life old votes g → CountedLaw ds life new votes g
restated ds life old new votes g living k =
    record {
      post = k.post;
      split = k.split;
      fresh = k.fresh;
      unvoted = λ alive e. k.unvoted (living alive) e;
      voted = λ alive v. k.voted (living alive) v;
    }

-- The life that a grant told, and how lives are added to a begun transaction.
use Rattle.std.proofs.Common.{[], ◌≡◌, ◌⊎◌, ℕ, ◌==◌, Bool, true, false, cond, List, ◌∷◌, ◌++◌, inl, inr, Option, Some}
use Rattle.std.proofs.Common.{None, option_map, refl, sym, ap, ◌∙◌, subst, ◌||◌, eqb-true}
use Rattle.std.specs.List.{find}
use Rattle.std.specs.Option.{option_map_or}
use Rattle.qc_stamp.specs.declared.stamp.TxId.{TxId}
use Rattle.qc_list.specs.Vocabulary.{In}
use Rattle.qc_msg.specs.declared.begun.LifeAt.{LifeAt}
use Rattle.qc_msg.specs.Vocabulary.{Deed, has_granted, life_of, with_life}
use Rattle.qc_promise.specs.Vocabulary.{Account, ClientRequest, Current}
use Rattle.qc_msg.specs.declared.message.Answer.TheVariants as answers
use Rattle.qc_msg.specs.declared.message.Want.TheVariants.{Prepare}
use Rattle.qc_msg.specs.declared.payload.Grant.{Grant}
use Rattle.laws_guarantees.proofs.Accounts.{WasSent, WasTaken, sent_more, taken_more}
use Rattle.laws_guarantees.proofs.SiteMoves.{IsFull}

-- a grant told this life of the site, for a request of the transaction that it had been sent
pub record IsToldLife (ds : List Deed) (tx : TxId) (site life : ℕ) : Type 0 where
  pub q : ClientRequest
  pub sent : WasSent ds q tx
  pub at : q.site ≡ site
  pub full : IsFull q.want
  pub grant : Grant
  pub its : grant.life ≡ life
  pub taken : WasTaken ds q.number (answers.Granted grant)

-- the site of the request granted something to the begun transaction, and the request names the life of that
abbrev pub HasParticipant : Option Current → ClientRequest → Type 0
HasParticipant o q =
    (t : Current) × (o ≡ Some t) × (has_granted t.lives q.site ≡ true) × (q.life ≡ life_of t.lives q.site)

pub record HasLifeGrounds (ds : List Deed) (d : Account) : Type 0 where
  pub votes : (q : ClientRequest) → In q d.requests → q.want ≡ Prepare → HasParticipant d.current q
  pub full : (q : ClientRequest) → In q d.requests → IsFull q.want
  pub told : (t : Current) (site : ℕ) → d.current ≡ Some t → has_granted t.lives site ≡ true
      → IsToldLife ds t.tx site (life_of t.lives site)

pub told_more : (ds : List Deed) (x : Deed) (tx : TxId) (site life : ℕ) → IsToldLife ds tx site life
    → IsToldLife (ds ++ x ∷ []) tx site life
told_more ds x tx site life k = record {
  q = k.q;
  sent = sent_more ds x k.q tx k.sent;
  at = k.at;
  full = k.full;
  grant = k.grant;
  its = k.its;
  taken = taken_more ds x k.q.number (answers.Granted k.grant) k.taken;
}

-- what is begun later was begun before, with the same lives, or has none yet

abbrev pub WasBegunWith : Option Current → Current → Type 0
WasBegunWith o t = (old : Current) × (o ≡ Some old) × (t.tx ≡ old.tx) × (t.lives ≡ old.lives)

abbrev pub HaveSameLives : Option Current → Option Current → Type 0
HaveSameLives o p = (t : Current) → p ≡ Some t → WasBegunWith o t ⊎ (t.lives ≡ [])

pub same_now : (o p : Option Current) → p ≡ o → HaveSameLives o p
same_now o p is t at = inl (t, sym is ∙ at, refl, refl)

pub none_now : (o p : Option Current) → p ≡ None → HaveSameLives o p
none_now o p none t at = absurd (let no : None ≡ Some t = sym none ∙ at in let never : ⊥ = cc in never)

pub changed_alike : (o : Option Current) (change : Current → Current)
    → ((x : Current) → ((change x).tx ≡ x.tx) × ((change x).lives ≡ x.lives)) → HaveSameLives o (option_map change o)
changed_alike None change keeps t at = absurd (let never : ⊥ = cc in never)
changed_alike (Some x) change keeps t at =
    let same : t ≡ change x = cc in
    inl (x, refl, ap (λ (y : Current). y.tx) same ∙ (keeps x).0, ap (λ (y : Current). y.lives) same ∙ (keeps x).1)

-- an account that changes so

pub same_told : (ds : List Deed) (x : Deed) (d e : Account) → HaveSameLives d.current e.current → HasLifeGrounds ds d
    → (t : Current) (site : ℕ) → e.current ≡ Some t → has_granted t.lives site ≡ true
    → IsToldLife (ds ++ x ∷ []) t.tx site (life_of t.lives site)
same_told ds x d e alike k t site at has = by (alike t at)
  where
    by : WasBegunWith d.current t ⊎ (t.lives ≡ []) → IsToldLife (ds ++ x ∷ []) t.tx site (life_of t.lives site)
    by (inl (old, was, its, lives)) =
        subst (λ (ls : List LifeAt). IsToldLife (ds ++ x ∷ []) t.tx site (life_of ls site)) (sym lives)
        (subst (λ (tx : TxId). IsToldLife (ds ++ x ∷ []) tx site (life_of old.lives site)) (sym its)
        (told_more ds x old.tx site (life_of old.lives site)
        (k.told old site was (subst (λ (ls : List LifeAt). has_granted ls site ≡ true) lives has))))
    by (inr none) =
        absurd (let no : false ≡ true = subst (λ (ls : List LifeAt). has_granted ls site ≡ true) none has in
        let never : ⊥ = cc in never)

-- with the requests that it had, or with none

pub same_grounds : (ds : List Deed) (x : Deed) (d e : Account) → e.requests ≡ d.requests → e.current ≡ d.current
    → HasLifeGrounds ds d → HasLifeGrounds (ds ++ x ∷ []) e
same_grounds ds x d e requests current k = record {
  votes =
      λ q among want. subst (λ (o : Option Current). HasParticipant o q) (sym current)
      (k.votes q (subst (In q) requests among) want);
  full = λ q among. k.full q (subst (In q) requests among);
  told = same_told ds x d e (same_now d.current e.current current) k;
}

pub bare_grounds : (ds : List Deed) (x : Deed) (d e : Account) → e.requests ≡ [] → HaveSameLives d.current e.current
    → HasLifeGrounds ds d → HasLifeGrounds (ds ++ x ∷ []) e
bare_grounds ds x d e none alike k = record {
  votes = λ q among want. absurd (subst (In q) none among);
  full = λ q among. absurd (subst (In q) none among);
  told = same_told ds x d e alike k;
}

-- an answer that counts

-- a site that has granted nothing yet has the life that is added

abbrev pub added : ℕ → ℕ → List LifeAt
added site life = record { site = site; life = life } ∷ []

pub first_added : (site life s : ℕ) (b : Bool) → (site == s) ≡ b → (b || false) ≡ true
    → (site ≡ s)
    × (option_map_or (λ (x : LifeAt). x.life) (cond b (Some (record { site = site; life = life })) None) 0 ≡ life)
first_added site life s true at is = (eqb-true site s at, refl)
first_added site life s false at is = absurd (let never : ⊥ = cc in never)

pub next_added : (x : LifeAt) (xs : List LifeAt) (site life s : ℕ) (b : Bool) → (b || has_granted xs s) ≡ false
    → (b || has_granted (xs ++ added site life) s) ≡ true
    → (has_granted xs s ≡ false → has_granted (xs ++ added site life) s ≡ true
    → (site ≡ s) × (life_of (xs ++ added site life) s ≡ life))
    → (site ≡ s)
    × (option_map_or (λ (y : LifeAt). y.life)
    (cond b (Some x) (find (λ (y : LifeAt). y.site == s) (xs ++ added site life))) 0 ≡ life)
next_added x xs site life s true none has rest = absurd (let never : ⊥ = cc in never)
next_added x xs site life s false none has rest = rest none has

pub all_added : (xs : List LifeAt) (site life s : ℕ) → has_granted xs s ≡ false
    → has_granted (xs ++ added site life) s ≡ true → (site ≡ s) × (life_of (xs ++ added site life) s ≡ life)
all_added [] site life s none has = first_added site life s (site == s) refl has
all_added (x ∷ xs) site life s none has = next_added x xs site life s (x.site == s) none has (all_added xs site life s)

pub not_yet : (ls : List LifeAt) (site life s : ℕ) → has_granted ls s ≡ false
    → has_granted (with_life ls site life) s ≡ true → (site ≡ s) × (life_of (with_life ls site life) s ≡ life)
not_yet ls site life s none has = by (has_granted ls site) has
  where
    by : (b : Bool) → has_granted (cond b ls (ls ++ added site life)) s ≡ true
        → (site ≡ s) × (life_of (cond b ls (ls ++ added site life)) s ≡ life)
    by true is = absurd (let no : false ≡ true = sym none ∙ is in let never : ⊥ = cc in never)
    by false is = all_added ls site life s none is

-- the transaction has one life more
pub record HasOneMore (o : Option Current) (site life : ℕ) (t : Current) : Type 0 where
  pub old : Current
  pub was : o ≡ Some old
  pub its : t.tx ≡ old.tx
  pub lives : t.lives ≡ with_life old.lives site life

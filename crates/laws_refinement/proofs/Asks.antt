-- The administrator's questions, by members; and how his messages get their numbers.
use Rattle.std.proofs.Common.{◌≡◌, ℕ, zero, suc, ◌+◌, ◌==◌, ◌||◌, Bool, true, false, cond, inl, inr, List, [], ◌∷◌}
use Rattle.std.proofs.Common.{◌++◌, fold, take, Option, Some, None, is_none, option_map, refl, sym, ap, ◌∙◌, subst}
use Rattle.std.proofs.Common.{eqb-true, eq-eqb}
use Rattle.std.specs.List.{find}
use Rattle.qc_stamp.specs.declared.stamp.TxId.{TxId}
use Rattle.qc_stamp.specs.Vocabulary.{same_tx}
use Rattle.qc_stamp.proofs.Orders.{same_tx_is}
use Rattle.qc_list.specs.Vocabulary.{In}
use Rattle.qc_list.proofs.Members.{In-first, In-second, In-either}
use Rattle.qc_entry.specs.declared.record.Prepared.{Prepared}
use Rattle.qc_plan.specs.declared.standing.Asked.{Asked}
use Rattle.qc_msg.specs.declared.call.Call.{Call}
use Rattle.qc_msg.specs.Vocabulary.{site_called}
use Rattle.qc_epoch.specs.Vocabulary.{Question, ShutSite, in_asked_order, is_questioned, numbered_first, questions_of}
use Rattle.qc_epoch.specs.Vocabulary.{shut_at, shut_list, with_question, with_questions}
use Rattle.laws_refinement.specs.Vocabulary.{HasTold, IsCovered}

-- a call that is found
pub record IsCalled (calls : List Call) (number site : ℕ) : Type 0 where
  pub call : Call
  pub among : In call calls
  pub number_is : call.number ≡ number
  pub site_is : call.site ≡ site

pub called : (calls : List Call) (number site : ℕ) → site_called calls number ≡ Some site → IsCalled calls number site
called [] number site e = absurd (let never : ⊥ = cc in never)
called (c ∷ cs) number site e = by (c.number == number) refl (called cs number site) e
  where
    by : (b : Bool) → (c.number == number) ≡ b → (site_called cs number ≡ Some site → IsCalled cs number site)
        → option_map (λ (x : Call). x.site) (cond b (Some c) (find (λ (x : Call). x.number == number) cs)) ≡ Some site
        → IsCalled (c ∷ cs) number site
    by true is rest k = record {
      call = c;
      among = inl refl;
      number_is = eqb-true c.number number is;
      site_is = (let same : c.site ≡ site = cc in same);
    }
    by false is rest k = let r = rest k in record
        { call = r.call; among = inr r.among; number_is = r.number_is; site_is = r.site_is }

-- each promise is asked about, and nothing else

is_in : (qs : List Question) (tx : TxId) → is_questioned qs tx ≡ true → (q : Question) × In q qs × (q.tx ≡ tx)
is_in [] tx e = absurd (let never : ⊥ = cc in never)
is_in (x ∷ qs) tx e = by (same_tx x.tx tx) refl (is_in qs tx) e
  where
    by : (b : Bool) → same_tx x.tx tx ≡ b → (is_questioned qs tx ≡ true → (q : Question) × In q qs × (q.tx ≡ tx))
        → (b || is_questioned qs tx) ≡ true → (q : Question) × In q (x ∷ qs) × (q.tx ≡ tx)
    by true is rest k = (x, inl refl, same_tx_is x.tx tx is)
    by false is rest k = let r = rest k in (r.0, inr r.1, r.2)

-- what stays of a question as another is added
abbrev Covers : List Question → TxId → Type 0
Covers qs tx = (q : Question) × In q qs × (q.tx ≡ tx)

one_keeps : (site : ℕ) (qs : List Question) (p : Prepared) (tx : TxId) → Covers qs tx
    → Covers (with_question site qs p) tx
one_keeps site qs p tx c = by (is_questioned qs p.tx)
  where
    by : (b : Bool) → Covers (cond b qs (qs ++ record { tx = p.tx; site = site; number = None; taken = None } ∷ [])) tx
    by true = c
    by false = (c.0, In-first c.0 qs _ c.1, c.2)

one_covers : (site : ℕ) (qs : List Question) (p : Prepared) → Covers (with_question site qs p) p.tx
one_covers site qs p = by (is_questioned qs p.tx) refl
  where
    by : (b : Bool) → is_questioned qs p.tx ≡ b
        → Covers (cond b qs (qs ++ record { tx = p.tx; site = site; number = None; taken = None } ∷ [])) p.tx
    by true is = is_in qs p.tx is
    by false is = (record { tx = p.tx; site = site; number = None; taken = None }, In-second _ qs _ (inl refl), refl)

many_keep : (site : ℕ) (ps : List Prepared) (qs : List Question) (tx : TxId) → Covers qs tx
    → Covers (fold (with_question site) qs ps) tx
many_keep site [] qs tx c = c
many_keep site (p ∷ ps) qs tx c = many_keep site ps (with_question site qs p) tx (one_keeps site qs p tx c)

many_cover : (site : ℕ) (ps : List Prepared) (qs : List Question) (p : Prepared) → In p ps
    → Covers (fold (with_question site) qs ps) p.tx
many_cover site [] qs p among = absurd among
many_cover site (x ∷ ps) qs p (inl same) =
    subst (λ (y : Prepared). Covers (fold (with_question site) (with_question site qs x) ps) y.tx) (sym same)
    (many_keep site ps (with_question site qs x) x.tx (one_covers site qs x))
many_cover site (x ∷ ps) qs p (inr among) = many_cover site ps (with_question site qs x) p among

all_keep : (ss : List ShutSite) (qs : List Question) (tx : TxId) → Covers qs tx → Covers (fold with_questions qs ss) tx
all_keep [] qs tx c = c
all_keep (s ∷ ss) qs tx c = all_keep ss (with_questions qs s) tx (many_keep s.site s.prepared qs tx c)

all_cover : (ss : List ShutSite) (qs : List Question) (s : ShutSite) (p : Prepared) → In s ss → In p s.prepared
    → Covers (fold with_questions qs ss) p.tx
all_cover [] qs s p among has = absurd among
all_cover (x ∷ ss) qs s p (inl same) has =
    all_keep ss (with_questions qs x) p.tx (many_cover x.site x.prepared qs p
    (subst (λ (y : ShutSite). In p y.prepared) same has))
all_cover (x ∷ ss) qs s p (inr among) has = all_cover ss (with_questions qs x) s p among has

pub questions_cover : (ss : List ShutSite) → IsCovered ss (questions_of ss)
questions_cover ss s p among has = all_cover ss [] s p among has

-- a question is new, and about a promise of a site
abbrev IsNew : List ShutSite → Question → Type 0
IsNew ss q = (q.number ≡ None) × (q.taken ≡ None)
    × ((s : ShutSite) × (p : Prepared) × In s ss × In p s.prepared × (q.tx ≡ p.tx))

one_new : (ss : List ShutSite) (s : ShutSite) (p : Prepared) (qs : List Question) → In s ss → In p s.prepared
    → ((q : Question) → In q qs → IsNew ss q) → (q : Question) → In q (with_question s.site qs p) → IsNew ss q
one_new ss s p qs among has old q = by (is_questioned qs p.tx)
  where
    by : (b : Bool) → In q (cond b qs (qs ++ record { tx = p.tx; site = s.site; number = None; taken = None } ∷ []))
        → IsNew ss q
    by true h = old q h
    by false h = elim (In-either q qs _ h) [
      | inl k ↦ old q k
      | inr k ↦ elim k [
        | inl same ↦ subst (λ (y : Question). IsNew ss y) (sym same) (refl, refl, (s, p, among, has, refl))
        | inr never ↦ absurd never
      ]
    ]

many_new : (ss : List ShutSite) (s : ShutSite) (ps : List Prepared) (qs : List Question) → In s ss
    → ((p : Prepared) → In p ps → In p s.prepared) → ((q : Question) → In q qs → IsNew ss q) → (q : Question)
    → In q (fold (with_question s.site) qs ps) → IsNew ss q
many_new ss s [] qs among has old q h = old q h
many_new ss s (p ∷ ps) qs among has old q h =
    many_new ss s ps (with_question s.site qs p) among (λ x k. has x (inr k))
    (one_new ss s p qs among (has p (inl refl)) old) q h

all_new : (ss ts : List ShutSite) (qs : List Question) → ((s : ShutSite) → In s ts → In s ss)
    → ((q : Question) → In q qs → IsNew ss q) → (q : Question) → In q (fold with_questions qs ts) → IsNew ss q
all_new ss [] qs among old q h = old q h
all_new ss (s ∷ ts) qs among old q h = all_new ss ts (with_questions qs s) (λ x k. among x (inr k))
    (many_new ss s s.prepared qs (among s (inl refl)) (λ p k. k) old) q h

pub questions_new : (ss : List ShutSite) (q : Question) → In q (questions_of ss) → IsNew ss q
questions_new ss q h = all_new ss ss [] (λ s k. k) (λ x never. absurd never) q h

-- the closed sites in asked order are those that told, and each of them that was asked is among them

found_shut : (ss : List ShutSite) (site : ℕ) (s : ShutSite) → shut_at ss site ≡ Some s → In s ss × (s.site ≡ site)
found_shut [] site s e = absurd (let never : ⊥ = cc in never)
found_shut (x ∷ ss) site s e = by (x.site == site) refl (found_shut ss site s) e
  where
    by : (b : Bool) → (x.site == site) ≡ b → (shut_at ss site ≡ Some s → In s ss × (s.site ≡ site))
        → cond b (Some x) (shut_at ss site) ≡ Some s → In s (x ∷ ss) × (s.site ≡ site)
    by true is rest k = let same : s ≡ x = cc in
        (inl same, ap (λ (y : ShutSite). y.site) same ∙ eqb-true x.site site is)
    by false is rest k = let r = rest k in (inr r.0, r.1)

told_found : (ss : List ShutSite) (site : ℕ) → HasTold ss site → (s : ShutSite) × (shut_at ss site ≡ Some s)
told_found [] site t = absurd t.1
told_found (x ∷ ss) site t = by (x.site == site) refl (told_found ss site)
  where
    by : (b : Bool) → (x.site == site) ≡ b → (HasTold ss site → (s : ShutSite) × (shut_at ss site ≡ Some s))
        → (s : ShutSite) × (cond b (Some x) (shut_at ss site) ≡ Some s)
    by true is rest = (x, refl)
    by false is rest = rest (elim t.1 [
      | inl same ↦ absurd (let e : (x.site == site) ≡ true =
          eq-eqb x.site site (ap (λ (y : ShutSite). y.site) (sym same) ∙ t.2) in let never : ⊥ = cc in never)
      | inr h ↦ (t.0, h, t.2)
    ])

pub order_among : (asked : List Asked) (ss : List ShutSite) (s : ShutSite) → In s (in_asked_order asked ss) → In s ss
order_among [] ss s h = absurd h
order_among (a ∷ asked) ss s h = elim (In-either s (shut_list (shut_at ss a.site)) (in_asked_order asked ss) h) [
  | inl k ↦ by (shut_at ss a.site) refl k
  | inr k ↦ order_among asked ss s k
]
  where
    by : (o : Option ShutSite) → shut_at ss a.site ≡ o → In s (shut_list o) → In s ss
    by None e k = absurd k
    by (Some x) e (inl same) = subst (λ (y : ShutSite). In y ss) (sym same) (found_shut ss a.site x e).0
    by (Some x) e (inr never) = absurd never

pub order_told : (asked : List Asked) (ss : List ShutSite) (a : Asked) → In a asked → HasTold ss a.site
    → HasTold (in_asked_order asked ss) a.site
order_told [] ss a among t = absurd among
order_told (x ∷ asked) ss a (inl same) t =
    let f : (s : ShutSite) × (shut_at ss x.site ≡ Some s) =
    told_found ss x.site (subst (λ (y : Asked). HasTold ss y.site) same t) in (
      f.0,
      In-first f.0 (shut_list (shut_at ss x.site)) (in_asked_order asked ss)
          (subst (λ (o : Option ShutSite). In f.0 (shut_list o)) (sym f.1) (inl refl)),
      (found_shut ss x.site f.0 f.1).1
          ∙ ap (λ (y : Asked). y.site) (sym same),
    )
order_told (x ∷ asked) ss a (inr among) t =
    let r : HasTold (in_asked_order asked ss) a.site = order_told asked ss a among t in
    (r.0, In-second r.0 (shut_list (shut_at ss x.site)) (in_asked_order asked ss) r.1, r.2)

-- the first without a number gets one

abbrev pub number_all : List Question → ℕ → List Question → List Question
number_all qs n [] = qs
number_all qs n (t ∷ ts) = number_all (numbered_first qs n) (n + 1) ts

pub number_covers : (qs : List Question) (n : ℕ) (tx : TxId) → Covers qs tx → Covers (numbered_first qs n) tx
number_covers [] n tx c = absurd c.1
number_covers (q ∷ qs) n tx c = by (is_none q.number) c.1 (λ h. number_covers qs n tx (c.0, h, c.2))
  where
    by : (b : Bool) → In c.0 (q ∷ qs) → (In c.0 qs → Covers (numbered_first qs n) tx)
        → Covers (cond b (record q { number = Some n } ∷ qs) (q ∷ numbered_first qs n)) tx
    by true (inl same) rest = (record q { number = Some n }, inl refl, ap (λ (y : Question). y.tx) (sym same) ∙ c.2)
    by true (inr h) rest = (c.0, inr h, c.2)
    by false (inl same) rest = (q, inl refl, ap (λ (y : Question). y.tx) (sym same) ∙ c.2)
    by false (inr h) rest = let r = rest h in (r.0, inr r.1, r.2)

pub numbers_cover : (ts qs : List Question) (n : ℕ) (tx : TxId) → Covers qs tx → Covers (number_all qs n ts) tx
numbers_cover [] qs n tx c = c
numbers_cover (t ∷ ts) qs n tx c = numbers_cover ts (numbered_first qs n) (n + 1) tx (number_covers qs n tx c)

-- the first of a list are its beginning
abbrev pub IsBeginning : List Question → List Question → Type 0
IsBeginning [] qs = Unit {0}
IsBeginning (t ∷ ts) [] = ⊥
IsBeginning (t ∷ ts) (q ∷ qs) = (t ≡ q) × IsBeginning ts qs

pub take_begins : (n : ℕ) (qs : List Question) → IsBeginning (take n qs) qs
take_begins zero qs = tt
take_begins (suc n) [] = tt
take_begins (suc n) (q ∷ qs) = (refl, take_begins n qs)

-- behind those that have a number
pub numbered_after : (done : List Question) (q : Question) (rest : List Question) (n : ℕ)
    → ((x : Question) → In x done → is_none x.number ≡ false) → q.number ≡ None
    → numbered_first (done ++ q ∷ rest) n ≡ (done ++ record q { number = Some n } ∷ []) ++ rest
numbered_after [] q rest n numbered new =
    ap (λ (o : Option ℕ). cond (is_none o) (record q { number = Some n } ∷ rest) (q ∷ numbered_first rest n)) new
numbered_after (x ∷ done) q rest n numbered new =
    rw (numbered x (inl refl)) (ap (λ (qs : List Question). x ∷ qs)
    (numbered_after done q rest n (λ y k. numbered y (inr k)) new))

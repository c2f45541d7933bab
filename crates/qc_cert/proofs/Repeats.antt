-- The triples that stand nowhere before tell of all: what is covered, and the first fault.
use Rattle.std.proofs.Common.{[], ◌≡◌, ℕ, suc, ◌+◌, ◌<◌, Bool, true, false, cond, List, ◌∷◌, ◌++◌, Option, Some, None}
use Rattle.std.proofs.Common.{length, get_or, drop, refl, sym, ap, ◌∙◌, add-one, ◌≤◌}
use Rattle.std.specs.Prelude.{is_some, not, ◌==◌, ◌||◌, option_and_then}
use Rattle.std.specs.Option.{option_or}
use Rattle.std.proofs.lemmas.Bool.{true≢false}
use Rattle.std.proofs.lemmas.List.{drop_more, drop_all}
use Rattle.qc_list.specs.Vocabulary.{first_below}
use Rattle.qc_list.proofs.Search.{none_parts, none_from, none_below, below_none}
use Rattle.qc_table.specs.Vocabulary.{events_of, step_of, with_member}
use Rattle.qc_table.specs.declared.kind.Kind.{Kind}
use Rattle.qc_cert.specs.Vocabulary.{firsts, firsts_after, inv_fault, inv_of, is_allowed, is_among, is_covered, is_free}
use Rattle.qc_cert.specs.Vocabulary.{is_same, left_out_fault, marked_fault, taken_fault, triple, triple_fault}
use Rattle.qc_cert.specs.Vocabulary.{triples_fault, unequal_fault, unless_covered}
use Rattle.qc_cert.specs.declared.fault.CertFault.{CertFault}
use Rattle.qc_cert.specs.declared.fault.CertFault.TheVariants.{Uncovered, Unequal}
use Rattle.qc_cert.specs.declared.triple.Triple.{Triple}
use Rattle.qc_cert.proofs.MarkedTriples.{same_equal, among_more}

-- ---- the first fault: where a triple has none, it has none at any place
no_fault : (list : List Triple) (f g : CertFault) (t : Triple) → unless_covered list f t ≡ None
    → unless_covered list g t ≡ None
no_fault list f g t none = by (is_covered list t) none
  where
    by : (b : Bool) → cond b None (Some f) ≡ None → cond b None (Some g) ≡ None
    by true e = refl
    by false e = absurd (let never : ⊥ = cc in never)

module _ (kind : Kind) (list : List Triple) (p q : ℕ) (t : Triple) where
  left_out_anywhere : (e : ℕ) → left_out_fault kind list p t e ≡ None → left_out_fault kind list q t e ≡ None
  left_out_anywhere e none = by (step_of kind.table.rows t.log e) none
    where
      by : (o : Option ℕ)
          → option_and_then (λ h. unless_covered list (Uncovered p e false) (triple t.view h (with_member t.out e))) o
          ≡ None
          → option_and_then (λ h. unless_covered list (Uncovered q e false) (triple t.view h (with_member t.out e))) o
          ≡ None
      by None e = refl
      by (Some h) n =
          no_fault list (Uncovered p e false) (Uncovered q e false) (triple t.view h (with_member t.out e)) n

  unequal_anywhere : (inv resp : ℕ) → unequal_fault kind p t inv resp ≡ None → unequal_fault kind q t inv resp ≡ None
  unequal_anywhere inv resp none = by (is_allowed kind t.view inv resp) (is_allowed kind t.log inv resp) none
    where
      by : (a b : Bool)
          → cond a (cond b None (Some (Unequal p inv resp))) (cond b (Some (Unequal p inv resp)) None) ≡ None
          → cond a (cond b None (Some (Unequal q inv resp))) (cond b (Some (Unequal q inv resp)) None) ≡ None
      by true true n = refl
      by true false n = absurd (let never : ⊥ = cc in never)
      by false true n = absurd (let never : ⊥ = cc in never)
      by false false n = refl

  taken_anywhere : (inv e : ℕ) → taken_fault kind list p t inv e ≡ None → taken_fault kind list q t inv e ≡ None
  taken_anywhere inv e none =
      by (inv_of kind e == inv) (step_of kind.table.rows t.view e) (step_of kind.table.rows t.log e) none
    where
      by : (b : Bool) (view log : Option ℕ)
          → cond b
          (option_and_then (λ g. option_and_then (λ h. unless_covered list (Uncovered p e true) (triple g h t.out))
          log) view) None ≡ None
          → cond b
          (option_and_then (λ g. option_and_then (λ h. unless_covered list (Uncovered q e true) (triple g h t.out))
          log) view) None ≡ None
      by false view log n = refl
      by true None log n = refl
      by true (Some g) None n = refl
      by true (Some g) (Some h) n = no_fault list (Uncovered p e true) (Uncovered q e true) (triple g h t.out) n

  inv_anywhere : (inv : ℕ) → inv_fault kind list p t inv ≡ None → inv_fault kind list q t inv ≡ None
  inv_anywhere inv none = by (is_free kind inv t.out) none
    where
      responses : ℕ → Option CertFault
      responses place = first_below kind.table.resps (unequal_fault kind place t inv)

      events : ℕ → Option CertFault
      events place = first_below (length (events_of kind.table.rows)) (taken_fault kind list place t inv)

      by : (b : Bool) → cond b (option_or (responses p) (events p)) None ≡ None
          → cond b (option_or (responses q) (events q)) None ≡ None
      by false n = refl
      by true n =
          let both : (responses p ≡ None) × (events p ≡ None) = none_parts (responses p) (events p) n in
          none_from (responses q) (events q)
          (below_none kind.table.resps (unequal_fault kind q t inv)
          (λ resp less. unequal_anywhere inv resp
          (none_below kind.table.resps (unequal_fault kind p t inv) both.0 resp less)))
          (below_none (length (events_of kind.table.rows)) (taken_fault kind list q t inv)
          (λ e less. taken_anywhere inv e
          (none_below (length (events_of kind.table.rows)) (taken_fault kind list p t inv) both.1 e less)))

  pub a_place_makes_no_fault : triple_fault kind list p t ≡ None → triple_fault kind list q t ≡ None
  a_place_makes_no_fault none =
      let both =
      none_parts (first_below (length (events_of kind.table.rows)) (left_out_fault kind list p t))
      (first_below kind.table.invs (inv_fault kind list p t)) none in
      none_from (first_below (length (events_of kind.table.rows)) (left_out_fault kind list q t))
      (first_below kind.table.invs (inv_fault kind list q t))
      (below_none (length (events_of kind.table.rows)) (left_out_fault kind list q t)
      (λ e less. left_out_anywhere e
      (none_below (length (events_of kind.table.rows)) (left_out_fault kind list p t) both.0 e less)))
      (below_none kind.table.invs (inv_fault kind list q t)
      (λ inv less. inv_anywhere inv (none_below kind.table.invs (inv_fault kind list p t) both.1 inv less)))

-- one triple more without a fault
none_more : (kind : Kind) (list before : List Triple) (place : ℕ) (x : Triple)
    → ((t : Triple) → is_among before t ≡ true → triple_fault kind list 0 t ≡ None)
    → triple_fault kind list place x ≡ None → (t : Triple) → is_among (before ++ x ∷ []) t ≡ true
    → triple_fault kind list 0 t ≡ None
none_more kind list before place x none here t among =
    by (is_among before t) (is_same x t) refl refl (sym (among_more before x t) ∙ among)
  where
    by : (b s : Bool) → is_among before t ≡ b → is_same x t ≡ s → (b || s) ≡ true → triple_fault kind list 0 t ≡ None
    by true s old same either = none t old
    by false true old same either =
        ap (triple_fault kind list 0) (sym (same_equal x t same)) ∙ a_place_makes_no_fault kind list place 0 x here
    by false false old same either = absurd (true≢false (sym either))

-- where those before have no fault, the first of the others tell the first fault
fault_after : (kind : Kind) (list before : List Triple) (place : ℕ) (ts : List Triple)
    → ((t : Triple) → is_among before t ≡ true → triple_fault kind list 0 t ≡ None)
    → marked_fault kind list place (firsts_after before ts) ts ≡ triples_fault kind list place ts
fault_after kind list before place [] none = refl
fault_after kind list before place (x ∷ ts) none =
    by (is_among before x) (triple_fault kind list place x) refl refl
    (λ here. fault_after kind list (before ++ x ∷ []) (suc place) ts (none_more kind list before place x none here))
  where
    rest : Option CertFault
    rest = marked_fault kind list (suc place) (firsts_after (before ++ x ∷ []) ts) ts

    by : (b : Bool) (o : Option CertFault) → is_among before x ≡ b → triple_fault kind list place x ≡ o
        → (triple_fault kind list place x ≡ None → rest ≡ triples_fault kind list (suc place) ts)
        → option_or (cond (not b) o None) rest ≡ option_or o (triples_fault kind list (suc place) ts)
    by true None among here more = more here
    by true (Some f) among here more =
        absurd (let nothing : triple_fault kind list place x ≡ None =
        a_place_makes_no_fault kind list 0 place x (none x among) in
        let never : ⊥ = cc in never)
    by false None among here more = more here
    by false (Some f) among here more = refl

-- the first fault of the triples that stand nowhere before is the first fault of all
pub the_first_fault_is_of_a_first : (kind : Kind) (list : List Triple)
    → marked_fault kind list 0 (firsts list) list ≡ triples_fault kind list 0 list
the_first_fault_is_of_a_first kind list = fault_after kind list [] 0 list (λ t among. absurd (true≢false (sym among)))

-- one triple more
pub fault_more : (kind : Kind) (list ts : List Triple) (marks : List Bool) (i : ℕ) (b c : Bool) (x d : Triple)
    → i < length marks → i < length ts → b ≡ get_or marks i c → x ≡ get_or ts i d
    → marked_fault kind list i (drop i marks) (drop i ts)
    ≡ option_or (cond b (triple_fault kind list i x) None)
    (marked_fault kind list (i + 1) (drop (i + 1) marks) (drop (i + 1) ts))
fault_more kind list ts marks i b c x d m l be xe =
    ap (λ ms. marked_fault kind list i ms (drop i ts))
    (drop_more marks i c m ∙ ap (λ y. y ∷ drop (i + 1) marks) (sym be))
    ∙ ap (marked_fault kind list i (b ∷ drop (i + 1) marks))
    (drop_more ts i d l ∙ ap (λ y. y ∷ drop (i + 1) ts) (sym xe))
    ∙ ap
    (λ place. option_or (cond b (triple_fault kind list i x) None)
    (marked_fault kind list place (drop (i + 1) marks) (drop (i + 1) ts))) (sym (add-one i))

-- none is left
pub fault_past : (kind : Kind) (list ts : List Triple) (marks : List Bool) (i : ℕ) → length ts ≤ i
    → marked_fault kind list i (drop i marks) (drop i ts) ≡ None
fault_past kind list ts marks i past =
    ap (marked_fault kind list i (drop i marks)) (drop_all i ts past) ∙ by (drop i marks)
  where
    by : (ms : List Bool) → marked_fault kind list i ms [] ≡ None
    by [] = refl
    by (m ∷ ms) = refl

-- a fault is the first there is, and where there is none the next is
pub found_here : (o p q : Option CertFault) → is_some o ≡ true → o ≡ p → o ≡ option_or p q
found_here None p q some same = absurd (true≢false (sym some))
found_here (Some f) p q some same = ap (λ r. option_or r q) same

pub found_later : (o p q : Option CertFault) → is_some o ≡ false → o ≡ p → q ≡ option_or p q
found_later None p q none same = ap (λ r. option_or r q) same
found_later (Some f) p q none same = absurd (true≢false none)

-- the same of marks and items that are the list's
pub fault_of_firsts : (kind : Kind) (list : List Triple) (marks : List Bool) (items : List Triple) → marks ≡ firsts list
    → items ≡ list
    → marked_fault kind list 0 marks items ≡ triples_fault kind list 0 list
fault_of_firsts kind list marks items m i =
    ap (λ ms. marked_fault kind list 0 ms items) m ∙ ap (marked_fault kind list 0 (firsts list)) i
    ∙ the_first_fault_is_of_a_first kind list

-- How what a log counts goes on by one entry.
use Rattle.std.proofs.Common.{◌≡◌, ℕ, ◌+◌, ◌-◌, ◌^◌, ◌<◌, ◌==◌, Bool, true, false, cond, List, [], ◌∷◌, ◌++◌, get_or}
use Rattle.std.proofs.Common.{length, min, replicate, set, sum_by, refl, sym, subst, ap, ◌∙◌, arith, eqb-true, eq-eqb}
use Rattle.std.proofs.lemmas.List.{append-nil, get_or-replicate, get_or-set_other, get_or-set_same, length-replicate}
use Rattle.std.proofs.lemmas.List.Sums.{sum_by-append, sum_by-cons}
use Rattle.qc_msg.proofs.Growth.{operations-more, standing-more}
use Rattle.qc_msg.specs.Vocabulary.{Entry, answered_at, carried_at, carried_of, operations_of, standing_after, tally_of}
use Rattle.qc_fabric.specs.Vocabulary.{IsLog, counted, named_actors, place_of, places_of, stored}
use Rattle.qc_fabric.proofs.Placed.{places-append}

-- of no entry

no_entry : (n m : ℕ) → IsLog [] n [] m (replicate named_actors 0) 0 0 0
no_entry n m = record {
  places_are = refl;
  each_actor = length-replicate {A = ℕ} named_actors 0;
  standing_are = λ a few. get_or-replicate named_actors a 0 0 few;
  operations_are = refl;
  carried_is = refl;
  entries_fit = omega arith;
  places_fit = omega arith;
}

pub new_log : (entries : List Entry) (places : List ℕ) (n m : ℕ) → entries ≡ [] → places ≡ []
    → IsLog entries n places m (replicate named_actors 0) 0 0 0
new_log entries places n m none nowhere =
    subst (λ (es : List Entry). IsLog es n places m (replicate named_actors 0) 0 0 0) (sym none)
    (subst (λ (ps : List ℕ). IsLog [] n ps m (replicate named_actors 0) 0 0 0) (sym nowhere) (no_entry n m))

-- of one more

weighed : (f : Entry → ℕ) (h : List Entry) (e : Entry) → sum_by f (h ++ e ∷ []) ≡ sum_by f h + f e
weighed f h e = omega (arith, sum_by-append f h (e ∷ []), sum_by-cons f e [])

saturated : (n m total other k : ℕ) → k ≡ total + other → n ≡ counted total → m ≡ counted other
    → min (n + m) (2 ^ 32 - 1) ≡ counted k
saturated n m total other k is one two = omega (arith, is, one, two)

pub operations_more : (h : List Entry) (e : Entry) (n m : ℕ) → n ≡ counted (operations_of h)
    → m ≡ counted (answered_at ((tally_of h).standing e.actor) e.step)
    → min (n + m) (2 ^ 32 - 1) ≡ counted (operations_of (h ++ e ∷ []))
operations_more h e n m one two = saturated n m (operations_of h) (answered_at ((tally_of h).standing e.actor) e.step)
    (operations_of (h ++ e ∷ [])) (operations-more h e) one two

pub carried_more : (h : List Entry) (e : Entry) (n m : ℕ) → n ≡ counted (carried_of h) → m ≡ counted (carried_at e.step)
    → min (n + m) (2 ^ 32 - 1) ≡ counted (carried_of (h ++ e ∷ []))
carried_more h e n m one two = saturated n m (carried_of h) (carried_at e.step) (carried_of (h ++ e ∷ []))
    (weighed (λ (x : Entry). carried_at x.step) h e) one two

-- the number of records that stand at the entry's actor, and at any other

pub standing_more : (h : List Entry) (e : Entry) (numbers : List ℕ) (m : ℕ) → length numbers ≡ named_actors
    → e.actor < named_actors → ((a : ℕ) → a < named_actors → get_or numbers a 0 ≡ stored ((tally_of h).standing a))
    → m ≡ stored (standing_after ((tally_of h).standing e.actor) e.step)
    → (a : ℕ) → a < named_actors → get_or (set numbers e.actor m) a 0 ≡ stored ((tally_of (h ++ e ∷ [])).standing a)
standing_more h e numbers m long named are now a few = by (a == e.actor) refl ∙ ap stored (sym (standing-more h e a))
  where
    here : e.actor < length numbers
    here = subst (λ (k : ℕ). e.actor < k) (sym long) named

    by : (t : Bool) → (a == e.actor) ≡ t → get_or (set numbers e.actor m) a 0 ≡ stored
        (cond t (standing_after ((tally_of h).standing a) e.step) ((tally_of h).standing a))
    by true same =
        let is : a ≡ e.actor = eqb-true a e.actor same in
        ap (λ (k : ℕ). get_or (set numbers e.actor m) k 0) is ∙ get_or-set_same numbers e.actor m 0 here ∙ now
        ∙ ap (λ (b : ℕ). stored (standing_after ((tally_of h).standing b) e.step)) (sym is)
    by false other = get_or-set_other numbers e.actor a m 0
        (λ same. (let t : (a == e.actor) ≡ true = eq-eqb a e.actor same in let never : ⊥ = cc in never)) ∙ are a few

pub standing_at : (h : List Entry) (e : Entry) (numbers : List ℕ) (at m : ℕ) → at ≡ e.actor
    → length numbers ≡ named_actors → e.actor < named_actors
    → ((a : ℕ) → a < named_actors → get_or numbers a 0 ≡ stored ((tally_of h).standing a))
    → m ≡ stored (standing_after ((tally_of h).standing e.actor) e.step)
    → (a : ℕ) → a < named_actors → get_or (set numbers at m) a 0 ≡ stored ((tally_of (h ++ e ∷ [])).standing a)
standing_at h e numbers at m is long named are now a few = ap (λ (k : ℕ). get_or (set numbers k m) a 0) is
    ∙ standing_more h e numbers m long named are now a few

pub places_more : (h : List Entry) (e : Entry) → places_of 0 (h ++ e ∷ []) ≡ places_of 0 h ++ place_of (length h) e.step
places_more h e =
    let at : 0 + length h ≡ length h = omega arith in
    places-append 0 h (e ∷ []) ∙ ap (λ (n : ℕ). places_of 0 h ++ (place_of n e.step ++ [])) at
    ∙ ap (λ (v : List ℕ). places_of 0 h ++ v) (append-nil (place_of (length h) e.step))

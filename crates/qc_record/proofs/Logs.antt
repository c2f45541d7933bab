-- Lines that are read ascend, so a log takes each at its end.
use Rattle.std.proofs.Common.{◌≡◌, ◌⊎◌, inl, inr, ℕ, zero, suc, ◌+◌, ◌<◌, ◌≤◌, Bool, true, false, cond, ◌&&◌, nat_eq}
use Rattle.std.proofs.Common.{nat_le, nat_lt, List, [], ◌∷◌, length, get_or, take, Option, Some, None, Ok, refl, sym}
use Rattle.std.proofs.Common.{ap, ◌∙◌, arith}
use Rattle.std.proofs.lemmas.List.{take_more}
use Rattle.std.proofs.lemmas.Bool.Decides.{nat_tests}
use Rattle.std.specs.List.{AllByRecursion as Every}
use Rattle.std.specs.Ordering.{nat_cmp, ordering_then}
use Rattle.std.specs.declared.cmp.Ordering.{Ordering}
use Rattle.std.specs.declared.cmp.Ordering.TheVariants.{Less, Equal, Greater}
use Rattle.qc_entry.specs.declared.line.Line.{Line}
use Rattle.qc_entry.specs.Vocabulary.{IsAscending, line_cmp, union}
use Rattle.qc_entry.proofs.Orders.{lines_are_ordered}
use Rattle.qc_entry.proofs.Union.{union-after}
use Rattle.qc_list.specs.Vocabulary.{IsBelowAll}
use Rattle.qc_list.proofs.Order.{below_trans}
use Rattle.qc_record.specs.Vocabulary.{IsBytes, climbs, from_client, from_event, from_life, from_number, from_object}
use Rattle.qc_record.specs.Vocabulary.{from_op, is_own_stamp, items_are_legal, line_floor, line_form, line_numbers}
use Rattle.qc_record.specs.Vocabulary.{line_parts, lines_form, tied, within}
use Rattle.qc_record.proofs.Exact.{same_number, lines_exact}
use Rattle.qc_list.proofs.Booleans.{and_parts}
use Rattle.qc_list.proofs.Numbers.{cmp_below, cmp_same}

-- the first number is below, or they tie and the rest holds
abbrev pub Rise : ℕ → ℕ → Type 0 → Type 0
Rise a b P = (a < b) ⊎ ((a ≡ b) × P)

climbs_least : (low high a b : ℕ) (floor : List ℕ) → climbs low high (a ∷ floor) b ≡ true → a ≤ b
climbs_least low high a b floor e = let at : nat_le a b ≡ true = (and_parts (within low high b) (nat_le a b) e).1 in
    grind (arith, nat_tests, at)

rise_by : {P : Type 0} (a b : ℕ) (floor : List ℕ) (test : List ℕ → Bool) (t : Bool) → a ≤ b → nat_eq a b ≡ t
    → test (cond t floor []) ≡ true → (test floor ≡ true → P) → Rise a b P
rise_by a b floor test true least e rest goes = let same : a ≡ b = grind (arith, nat_tests, e) in inr (same, goes rest)
rise_by a b floor test false least e rest goes = let apart : a < b = grind (arith, nat_tests, e, least) in inl apart

pub rise : {P : Type 0} (low high a b : ℕ) (floor : List ℕ) (test : List ℕ → Bool)
    → (climbs low high (a ∷ floor) b && test (tied (a ∷ floor) b)) ≡ true → (test floor ≡ true → P) → Rise a b P
rise low high a b floor test legal goes =
    let l = and_parts (climbs low high (a ∷ floor) b) (test (tied (a ∷ floor) b)) legal in
    rise_by a b floor test (nat_eq a b) (climbs_least low high a b floor l.0) refl l.1 goes

then_less : (a b : ℕ) (o : Ordering) → Rise a b (o ≡ Less) → ordering_then (nat_cmp a b) o ≡ Less
then_less a b o (inl h) = ap (λ x. ordering_then x o) (cmp_below a b h)
then_less a b o (inr h) = ap (λ x. ordering_then x o) (cmp_same a b h.0) ∙ h.1

assoc : (x y z : Ordering) → ordering_then (ordering_then x y) z ≡ ordering_then x (ordering_then y z)
assoc Less y z = refl
assoc Equal y z = refl
assoc Greater y z = refl

rise_map : {P Q : Type 0} (a b : ℕ) → (P → Q) → Rise a b P → Rise a b Q
rise_map a b f (inl h) = inl h
rise_map a b f (inr h) = inr (h.0, f h.1)

-- the client of the stamp, and that of the transaction
twice : (s t a b : ℕ) (o : Ordering) → s ≡ a → t ≡ b → Rise a b (o ≡ Less)
    → ordering_then (nat_cmp s t) (ordering_then (nat_cmp a b) o) ≡ Less
twice s t a b o p q (inl h) = ap (λ x. ordering_then x (ordering_then (nat_cmp a b) o))
    (cmp_below s t (omega (arith, p, q, h)))
twice s t a b o p q (inr h) = ap (λ x. ordering_then x (ordering_then (nat_cmp a b) o)) (cmp_same s t (p ∙ h.0 ∙ sym q))
    ∙ then_less a b o (inr h)

-- the order of lines, number by number
abbrev pub numbers_cmp : Line → Line → Ordering
numbers_cmp a l = ordering_then (nat_cmp a.stamp.clock l.stamp.clock)
    (ordering_then (nat_cmp a.stamp.client l.stamp.client)
    (ordering_then (nat_cmp a.tx.client l.tx.client) (ordering_then (nat_cmp a.tx.life l.tx.life)
    (ordering_then (nat_cmp a.tx.number l.tx.number)
    (ordering_then (nat_cmp a.op l.op) (ordering_then (nat_cmp a.object l.object) (nat_cmp a.event l.event)))))))

pub flat : (a l : Line) → line_cmp a l ≡ numbers_cmp a l
flat a l =
    let oc = nat_cmp a.stamp.clock l.stamp.clock in
    let os = nat_cmp a.stamp.client l.stamp.client in
    let oa = nat_cmp a.tx.client l.tx.client in
    let oi = nat_cmp a.tx.life l.tx.life in
    let on = nat_cmp a.tx.number l.tx.number in
    let oo = nat_cmp a.op l.op in
    let oj = nat_cmp a.object l.object in
    let oe = nat_cmp a.event l.event in
    assoc oc os (ordering_then (ordering_then oa (ordering_then oi on)) (ordering_then oo (ordering_then oj oe)))
    ∙ ap (λ x. ordering_then oc (ordering_then os x))
    (assoc oa (ordering_then oi on) (ordering_then oo (ordering_then oj oe))
    ∙ ap (λ x. ordering_then oa x) (assoc oi on (ordering_then oo (ordering_then oj oe))))

above : (a l : Line) → is_own_stamp a ≡ true → is_own_stamp l ≡ true
    → (line_numbers (line_floor (Some a))).is_legal (line_parts l) ≡ true → line_cmp a l ≡ Less
above a l own_a own_l legal =
    let sa : a.stamp.client ≡ a.tx.client = same_number _ _ own_a in
    let sl : l.stamp.client ≡ l.tx.client = same_number _ _ own_l in
    let e_floor = a.event ∷ [] in
    let j_floor = a.object ∷ e_floor in
    let o_floor = a.op ∷ j_floor in
    let n_floor = a.tx.number ∷ o_floor in
    let i_floor = a.tx.life ∷ n_floor in
    let a_floor = a.tx.client ∷ i_floor in
    flat a l ∙ then_less _ _ _ (rise _ _ a.stamp.clock l.stamp.clock a_floor
    (λ f. (from_client f).is_legal (l.tx.client, (l.tx.life, (l.tx.number, (l.op, (l.object, l.event)))))) legal
    (λ h1.
    twice _ _ a.tx.client l.tx.client _ sa sl
    (rise _ _ a.tx.client l.tx.client i_floor
    (λ f. (from_life f).is_legal (l.tx.life, (l.tx.number, (l.op, (l.object, l.event))))) h1 (λ h2.
    then_less _ _ _ (rise _ _ a.tx.life l.tx.life n_floor
    (λ f. (from_number f).is_legal (l.tx.number, (l.op, (l.object, l.event)))) h2 (λ h3.
    then_less _ _ _ (rise _ _ a.tx.number l.tx.number o_floor (λ f. (from_op f).is_legal (l.op, (l.object, l.event))) h3
    (λ h4.
    then_less _ _ _ (rise _ _ a.op l.op j_floor (λ f. (from_object f).is_legal (l.object, l.event)) h4 (λ h5.
    then_less _ _ _ (rise _ _ a.object l.object e_floor (λ f. (from_event f).is_legal l.event) h5 (λ h6.
    let last : nat_lt a.event l.event ≡ true = (and_parts _ _ h6).1 in
    cmp_below a.event l.event (grind (arith, nat_tests, last))))))))))))))

own_of_legal : (before : Option Line) (l : Line) → (line_form before).is_legal l ≡ true → is_own_stamp l ≡ true
own_of_legal before l legal = (and_parts _ _ legal).0

pub ascends : (before : Option Line) (xs : List Line) → items_are_legal line_form before xs ≡ true → IsAscending xs
ascends before [] legal = tt
ascends before (x ∷ []) legal = (tt, tt)
ascends before (x ∷ y ∷ ys) legal =
    let l = and_parts _ _ legal in
    let m = and_parts _ _ l.1 in
    let rest = ascends (Some x) (y ∷ ys) l.1 in
    let first : line_cmp x y ≡ Less = above x y (own_of_legal before x l.0) (own_of_legal (Some x) y m.0)
    (and_parts _ _ m.0).1 in
    ((first, below_trans line_cmp lines_are_ordered.total x y ys first rest.0), rest)

below_at : (x : Line) (xs : List Line) (i : ℕ) (d : Line) → IsBelowAll line_cmp x xs → i < length xs
    → line_cmp x (get_or xs i d) ≡ Less
below_at x [] i d low inside = absurd (omega arith)
below_at x (y ∷ ys) zero d low inside = low.0
below_at x (y ∷ ys) (suc i) d low inside = below_at x ys i d low.1 (omega (arith, inside))

all_below : (xs : List Line) (i : ℕ) (d : Line) → IsAscending xs → i < length xs
    → Every (λ x. line_cmp x (get_or xs i d) ≡ Less) (take i xs)
all_below [] i d ascending inside = absurd (omega arith)
all_below (x ∷ xs) zero d ascending inside = tt
all_below (x ∷ xs) (suc i) d ascending inside =
    let shorter : i < length xs = omega (arith, inside) in
    (below_at x xs i d ascending.0 shorter, all_below xs i d ascending.1 shorter)

pub added : (xs : List Line) (i : ℕ) (d : Line) → IsAscending xs → i < length xs
    → union (take i xs) (get_or xs i d ∷ []) ≡ take (i + 1) xs
added xs i d ascending inside = union-after (take i xs) (get_or xs i d) [] (all_below xs i d ascending inside)
    ∙ sym (take_more xs i d inside)

pub one_more : (xs : List Line) (i : ℕ) (d : Line) (old new : List Line) → IsAscending xs → i < length xs
    → old ≡ take i xs → new ≡ union old (get_or xs i d ∷ []) → new ≡ take (i + 1) xs
one_more xs i d old new ascending inside so_far add = add ∙ ap (λ t. union t (get_or xs i d ∷ [])) so_far
    ∙ added xs i d ascending inside

-- the lines that a count and its lines give
pub read_ascends : (bytes : List ℕ) (lines : List Line) (rest : List ℕ) → IsBytes bytes
    → lines_form.read bytes ≡ Ok (lines, rest) → IsAscending lines
read_ascends bytes lines rest fits e = ascends None lines
    (and_parts _ _ (lines_exact.taken bytes (lines, rest) fits e).legal).1

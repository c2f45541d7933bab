-- The grammar reads in one way.
use Rattle.std.proofs.Common.{◌≡◌, ◌≢◌, inl, inr, ℕ, ◌≤◌, List, [], ◌∷◌, ◌++◌, length, take, drop, refl, sym, ◌∙◌, ap}
use Rattle.std.proofs.Common.{arith, append_assoc, length-append}
use Rattle.std.proofs.lemmas.List.{take_at, drop_at}
use Rattle.std.proofs.lemmas.Nat.{from_be_bytes-to_be_bytes_4}
use Rattle.std.specs.Int.{w32, to_be_bytes, from_be_bytes}
use Rattle.qc_journal.specs.Vocabulary.{AreRecords, Holds, IsBody, IsJournal, IsNoJournal, counted}

split_counted : (a b p q : List ℕ) → IsBody a → IsBody b → counted a ++ p ≡ counted b ++ q → (a ≡ b) × (p ≡ q)
split_counted a b p q is_a is_b same =
    let whole : to_be_bytes w32 (length a) ++ (a ++ p) ≡ to_be_bytes w32 (length b) ++ (b ++ q) =
    sym (append_assoc (to_be_bytes w32 (length a)) a p) ∙ same ∙ append_assoc (to_be_bytes w32 (length b)) b q in
    let fronts : to_be_bytes w32 (length a) ≡ to_be_bytes w32 (length b) =
    sym (take_at (to_be_bytes w32 (length a)) (a ++ p) 4 refl) ∙ ap (λ (l : List ℕ). take 4 l) whole ∙ take_at
    (to_be_bytes w32 (length b)) (b ++ q) 4 refl in
    let long : length b ≡ length a =
    sym (from_be_bytes-to_be_bytes_4 (length b) (omega (arith, is_b.short))) ∙ ap (λ (l : List ℕ). from_be_bytes w32 l)
    (sym fronts) ∙ from_be_bytes-to_be_bytes_4 (length a) (omega (arith, is_a.short)) in
    let backs : a ++ p ≡ b ++ q =
    sym (drop_at (to_be_bytes w32 (length a)) (a ++ p) 4 refl) ∙ ap (λ (l : List ℕ). drop 4 l) whole ∙ drop_at
    (to_be_bytes w32 (length b)) (b ++ q) 4 refl in (
      sym (take_at a p (length a) refl) ∙ ap (λ (l : List ℕ). take (length a) l) backs ∙ take_at b q (length a) long,
      sym (drop_at a p (length a) refl) ∙ ap (λ (l : List ℕ). drop (length a) l) backs ∙ drop_at b q (length a) long,
    )

-- a record at the front, and what follows
front_record : (gate : ℕ) (a rest front tail : List ℕ) → front ≡ gate ∷ (counted a ++ rest)
    → front ++ tail ≡ gate ∷ (counted a ++ (rest ++ tail))
front_record gate a rest front tail is =
    ap (λ (l : List ℕ). l ++ tail) is ∙ ap (λ (l : List ℕ). gate ∷ l) (append_assoc (counted a) rest tail)

one_front : (news olds : List (List ℕ)) (fa fb ra rb : List ℕ) → AreRecords news fa → AreRecords olds fb
    → fa ++ 0 ∷ ra ≡ fb ++ 0 ∷ rb → news ≡ olds
one_front [] [] fa fb ra rb is_a is_b same = refl
one_front [] (b ∷ olds) fa fb ra rb is_a is_b same =
    let e : 0 ∷ ra ≡ is_b.0 ∷ (counted b ++ (is_b.1 ++ 0 ∷ rb)) =
    ap (λ (l : List ℕ). l ++ 0 ∷ ra) (sym is_a) ∙ same ∙ front_record is_b.0 b is_b.1 fb (0 ∷ rb) is_b.4 in
    let zero_is : 0 ≡ is_b.0 = cc in absurd (is_b.2 (sym zero_is))
one_front (a ∷ news) [] fa fb ra rb is_a is_b same =
    let e : 0 ∷ rb ≡ is_a.0 ∷ (counted a ++ (is_a.1 ++ 0 ∷ ra)) =
    ap (λ (l : List ℕ). l ++ 0 ∷ rb) (sym is_b) ∙ sym same ∙ front_record is_a.0 a is_a.1 fa (0 ∷ ra) is_a.4 in
    let zero_is : 0 ≡ is_a.0 = cc in absurd (is_a.2 (sym zero_is))
one_front (a ∷ news) (b ∷ olds) fa fb ra rb is_a is_b same =
    let e : is_a.0 ∷ (counted a ++ (is_a.1 ++ 0 ∷ ra)) ≡ is_b.0 ∷ (counted b ++ (is_b.1 ++ 0 ∷ rb)) =
    sym (front_record is_a.0 a is_a.1 fa (0 ∷ ra) is_a.4) ∙ same ∙ front_record is_b.0 b is_b.1 fb
    (0 ∷ rb) is_b.4 in
    let tails : counted a ++ (is_a.1 ++ 0 ∷ ra) ≡ counted b ++ (is_b.1 ++ 0 ∷ rb) = cc in
    let parts = split_counted a b (is_a.1 ++ 0 ∷ ra) (is_b.1 ++ 0 ∷ rb) is_a.3 is_b.3 tails in
    ap (λ (x : List ℕ). x ∷ news) parts.0 ∙ ap (λ (xs : List (List ℕ)). b ∷ xs)
    (one_front news olds is_a.1 is_b.1 ra rb is_a.5 is_b.5 parts.1)

not_both : (news olds : List (List ℕ)) (fa fb ra : List ℕ) (gate : ℕ) (rb : List ℕ) → AreRecords news fa
    → AreRecords olds fb → gate ≢ 0
    → ((body : List ℕ) (next : ℕ) (more : List ℕ) → IsBody body → rb ≢ counted body ++ next ∷ more)
    → fa ++ 0 ∷ ra ≡ fb ++ gate ∷ rb → ⊥
not_both [] [] fa fb ra gate rb is_a is_b is_open none same =
    let e : 0 ∷ ra ≡ gate ∷ rb =
    ap (λ (l : List ℕ). l ++ 0 ∷ ra) (sym is_a) ∙ same ∙ ap (λ (l : List ℕ). l ++ gate ∷ rb) is_b in
    let zero_is : 0 ≡ gate = cc in is_open (sym zero_is)
not_both [] (b ∷ olds) fa fb ra gate rb is_a is_b is_open none same =
    let e : 0 ∷ ra ≡ is_b.0 ∷ (counted b ++ (is_b.1 ++ gate ∷ rb)) =
    ap (λ (l : List ℕ). l ++ 0 ∷ ra) (sym is_a) ∙ same ∙ front_record is_b.0 b is_b.1 fb (gate ∷ rb) is_b.4 in
    let zero_is : 0 ≡ is_b.0 = cc in is_b.2 (sym zero_is)
not_both (a ∷ news) [] fa fb ra gate rb is_a is_b is_open none same =
    let e : gate ∷ rb ≡ is_a.0 ∷ (counted a ++ (is_a.1 ++ 0 ∷ ra)) =
    ap (λ (l : List ℕ). l ++ gate ∷ rb) (sym is_b) ∙ sym same ∙ front_record is_a.0 a is_a.1 fa (0 ∷ ra) is_a.4 in
    let tails : rb ≡ counted a ++ (is_a.1 ++ 0 ∷ ra) = cc in
    next_of is_a.1 tails
  where
    next_of : (rest : List ℕ) → rb ≡ counted a ++ (rest ++ 0 ∷ ra) → ⊥
    next_of [] is = none a 0 ra is_a.3 is
    next_of (x ∷ rest) is = none a x (rest ++ 0 ∷ ra) is_a.3 is
not_both (a ∷ news) (b ∷ olds) fa fb ra gate rb is_a is_b is_open none same =
    let e : is_a.0 ∷ (counted a ++ (is_a.1 ++ 0 ∷ ra)) ≡ is_b.0 ∷ (counted b ++ (is_b.1 ++ gate ∷ rb)) =
    sym (front_record is_a.0 a is_a.1 fa (0 ∷ ra) is_a.4) ∙ same ∙ front_record is_b.0 b is_b.1 fb
    (gate ∷ rb) is_b.4 in
    let tails : counted a ++ (is_a.1 ++ 0 ∷ ra) ≡ counted b ++ (is_b.1 ++ gate ∷ rb) = cc in
    let parts = split_counted a b (is_a.1 ++ 0 ∷ ra) (is_b.1 ++ gate ∷ rb) is_a.3 is_b.3 tails in
    not_both news olds is_a.1 is_b.1 ra gate rb is_a.5 is_b.5 is_open none parts.1

pub length_journal : (bodies : List (List ℕ)) (bytes : List ℕ) → IsJournal bodies bytes → length bytes ≤ 1 → bodies ≡ []
length_journal [] bytes j short = refl
length_journal (b ∷ bodies) bytes j short =
    absurd (omega (arith, short, ap length j.closed, length-append j.front (0 ∷ j.rest), ap length j.records.4))

pub one_list : (a b : List (List ℕ)) (bytes : List ℕ) → Holds a bytes → Holds b bytes → a ≡ b
one_list a b bytes (inl x) (inl y) =
    one_front a b x.front y.front x.rest y.rest x.records y.records (sym x.closed ∙ y.closed)
one_list a b bytes (inl x) (inr y) = length_journal a bytes x y.0 ∙ sym y.1
one_list a b bytes (inr x) (inl y) = x.1 ∙ sym (length_journal b bytes y x.0)
one_list a b bytes (inr x) (inr y) = x.1 ∙ sym y.1

pub torn_or_not : (a : List (List ℕ)) (offset : ℕ) (bytes : List ℕ) → Holds a bytes → IsNoJournal offset bytes → ⊥
torn_or_not a offset bytes (inl x) (long, t) =
    not_both a t.bodies x.front t.front x.rest t.gate t.rest x.records t.records t.is_open t.none
    (sym x.closed ∙ t.torn)
torn_or_not a offset bytes (inr x) (long, t) = omega (arith, long, x.0)

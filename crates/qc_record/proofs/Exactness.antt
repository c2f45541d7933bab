-- Each form reads exactly what it spells.
use Rattle.std.proofs.Common.{◌≡◌, ◌⊎◌, inl, inr, ℕ, zero, suc, ◌+◌, ◌^◌, ◌<◌, ◌≤◌, Bool, true, false, cond, nat_lt}
use Rattle.std.proofs.Common.{nat_eq, List, [], ◌∷◌, ◌++◌, length, take, drop, Option, Some, None, Result, Ok, Err}
use Rattle.std.proofs.Common.{refl, sym, ap, subst, ◌∙◌, append_assoc, arith}
use Rattle.std.proofs.lemmas.List.{drop_at, take-append-drop, length-append, get_or-drop, append-nil}
use Rattle.std.proofs.lemmas.Bool.Decides.{nat_tests}
use Rattle.std.proofs.Math.Nat.{mod-eq_of_lt}
use Rattle.byteorder.specs.Endian.{big_number, big_bytes}
use Rattle.byteorder.specs.Numbers.{big_from-bytes, length-bytes_high_first}
use Rattle.qc_record.specs.Vocabulary.{Form, IsBytes, all_of, both, counted, field, items_are_legal, items_at}
use Rattle.qc_record.specs.Vocabulary.{items_spelled, nothing, number_at, shaped, ◌>>=◌}
use Rattle.qc_record.proofs.Cuts.{both_cut, counted_cut, field_cut, shaped_cut}
use Rattle.qc_record.proofs.Numbers.{IsWidth, back}
use Rattle.qc_list.proofs.Booleans.{and_parts}
use Rattle.std.proofs.lemmas.Bool.{and_from}

IsBytes-drop : (n : ℕ) (bytes : List ℕ) → IsBytes bytes → IsBytes (drop n bytes)
IsBytes-drop n bytes h i = rw get_or-drop (h (n + i))

-- the value of a step that did not fail
pub bind_ok : {A B : Type 0} (r : Result A ℕ) (f : A → Result B ℕ) (y : B) → (r >>= f) ≡ Ok y
    → (x : A) × (r ≡ Ok x) × (f x ≡ Ok y)
bind_ok (Ok x) f y e = (x, refl, e)
bind_ok (Err d) f y e = absurd cc

abbrev done : {A : Type 0} → A → Result A ℕ
done x = Ok x

pub ok_is : {A : Type 0} (x y : A) → done x ≡ done y → x ≡ y
ok_is x y e = cc

-- what a reader took from the front
pub record Takes (bytes text rest : List ℕ) : Type 0 where
  pub parts : bytes ≡ text ++ rest
  pub rest_fits : IsBytes rest

then_takes : (a x b y c : List ℕ) → Takes a x b → Takes b y c → Takes a (x ++ y) c
then_takes a x b y c p q = record {
  parts = p.parts ∙ ap (λ (t : List ℕ). x ++ t) q.parts
      ∙ sym (append_assoc x y c);
  rest_fits = q.rest_fits;
}

pub record IsTaken {A : Type 0} (form : Form A) (bytes : List ℕ) (x : A) (rest : List ℕ) : Type 0 where
  pub takes : Takes bytes (form.spelled x) rest
  pub legal : form.is_legal x ≡ true

-- what is read is spelled so; what is spelled is read so, and isn't where it is cut
pub record IsExact {A : Type 0} (form : Form A) : Type 0 where
  pub taken : (bytes : List ℕ) (x : A × List ℕ) → IsBytes bytes → form.read bytes ≡ Ok x → IsTaken form bytes x.0 x.1
  pub again : (x : A) (rest : List ℕ) → form.is_legal x ≡ true → form.read (form.spelled x ++ rest) ≡ Ok (x, rest)
  pub cut : (x : A) (n : ℕ) → form.is_legal x ≡ true → n < length (form.spelled x)
      → form.read (take n (form.spelled x)) ≡ Err 0

-- a number

pub chosen : {X : Type 0} (b : Bool) (x y z : X) → cond b x y ≡ z → ((b ≡ true) × (x ≡ z)) ⊎ ((b ≡ false) × (y ≡ z))
chosen true x y z e = inl (refl, e)
chosen false x y z e = inr (refl, e)

number_taken : (width : ℕ) (legal : ℕ → Bool) → IsWidth width → (bytes : List ℕ) (x : ℕ × List ℕ) → IsBytes bytes
    → number_at width legal bytes ≡ Ok x → IsTaken (field width legal) bytes x.0 x.1
unfolding number_at
number_taken width legal wide bytes x fits e =
    let n = big_number width bytes in
    elim (chosen (nat_lt (length bytes) width) _ _ _ e) [
      | inl short ↦ let no : Err 0 ≡ Ok x = short.1 in absurd cc
      | inr long ↦ elim (chosen (legal n) _ _ _ long.1) [
        | inl lawful ↦
            let inside : width ≤ length bytes = grind (arith, nat_tests, long.0) in
            let whole : bytes ≡ big_bytes width n ++ drop width bytes = sym (take-append-drop width bytes)
            ∙ ap (λ (l : List ℕ). l ++ drop width bytes) (sym (back width bytes wide inside fits)) in
            let made : ℕ × List ℕ = (n, drop width bytes) in
            subst (λ (y : ℕ × List ℕ). IsTaken (field width legal) bytes y.0 y.1) (ok_is made x lawful.1)
            (record { takes = record { parts = whole; rest_fits = IsBytes-drop width bytes fits }; legal = lawful.0 })
        | inr not ↦ let no : Err (length bytes) ≡ Ok x = not.1 in absurd cc
      ]
    ]

number_again : (width : ℕ) (legal : ℕ → Bool) → ((n : ℕ) → legal n ≡ true → n < 256 ^ width) → (n : ℕ) (rest : List ℕ)
    → legal n ≡ true → number_at width legal (big_bytes width n ++ rest) ≡ Ok (n, rest)
unfolding number_at
number_again width legal small n rest lawful =
    let bytes = big_bytes width n ++ rest in
    let long : length bytes ≡ width + length rest = length-append (big_bytes width n) rest
    ∙ ap (λ (k : ℕ). k + length rest) (length-bytes_high_first width n) in
    let whole : nat_lt (length bytes) width ≡ false = grind (arith, nat_tests, long) in
    let number : big_number width bytes ≡ n = big_from-bytes width n rest ∙ mod-eq_of_lt (small n lawful) in
    let behind : drop width bytes ≡ rest = drop_at (big_bytes width n) rest width (length-bytes_high_first width n) in
    rw whole (rw number (rw (lawful, behind) refl))

pub field_exact : (width : ℕ) (legal : ℕ → Bool) → IsWidth width → ((n : ℕ) → legal n ≡ true → n < 256 ^ width)
    → IsExact (field width legal)
field_exact width legal wide small = record
    { taken = number_taken width legal wide; again = number_again width legal small; cut = field_cut width legal }

pub nothing_exact : IsExact nothing
nothing_exact = record {
  taken = λ bytes x fits e. subst (λ (y : Unit {0} × List ℕ). IsTaken nothing bytes y.0 y.1) (ok_is (tt, bytes) x e)
      (record { takes = record { parts = refl; rest_fits = fits }; legal = refl });
  again = λ x rest e. refl;
  cut = λ x n e inside. absurd (omega (arith, inside));
}

-- two parts

both_taken : {A B : Type 0} (first : Form A) (second : A → Form B) → IsExact first → ((x : A) → IsExact (second x))
    → (bytes : List ℕ) (x : (A × B) × List ℕ) → IsBytes bytes → (both first second).read bytes ≡ Ok x
    → IsTaken (both first second) bytes x.0 x.1
both_taken {A = A} {B = B} first second one two bytes x fits e =
    let a = bind_ok (first.read bytes) (λ p. (second p.0).read p.1 >>= λ q. Ok ((p.0, q.0), q.1)) x e in
    let b = bind_ok ((second a.0.0).read a.0.1) (λ q. Ok ((a.0.0, q.0), q.1)) x a.2 in
    let t = one.taken bytes a.0 fits a.1 in
    let u = (two a.0.0).taken a.0.1 b.0 t.takes.rest_fits b.1 in
    let made : (A × B) × List ℕ = ((a.0.0, b.0.0), b.0.1) in
    subst (λ (y : (A × B) × List ℕ). IsTaken (both first second) bytes y.0 y.1) (ok_is made x b.2)
    (record {
      takes = then_takes bytes (first.spelled a.0.0) a.0.1 ((second a.0.0).spelled b.0.0) b.0.1 t.takes u.takes;
      legal = and_from _ _ t.legal u.legal;
    })

both_again : {A B : Type 0} (first : Form A) (second : A → Form B) → IsExact first → ((x : A) → IsExact (second x))
    → (x : A × B) (rest : List ℕ) → (both first second).is_legal x ≡ true
    → (both first second).read ((both first second).spelled x ++ rest) ≡ Ok (x, rest)
both_again first second one two x rest legal =
    let l = and_parts _ _ legal in
    let p : first.read ((first.spelled x.0 ++ (second x.0).spelled x.1) ++ rest) ≡ Ok
    (x.0, (second x.0).spelled x.1 ++ rest) =
    ap first.read (append_assoc (first.spelled x.0) ((second x.0).spelled x.1) rest)
    ∙ one.again x.0 ((second x.0).spelled x.1 ++ rest) l.0 in
    let q = (two x.0).again x.1 rest l.1 in
    ap (λ r. r >>= λ p. (second p.0).read p.1 >>= λ q. Ok ((p.0, q.0), q.1)) p
    ∙ ap (λ r. r >>= λ q. Ok ((x.0, q.0), q.1)) q

pub both_exact : {A B : Type 0} (first : Form A) (second : A → Form B) → IsExact first → ((x : A) → IsExact (second x))
    → IsExact (both first second)
both_exact first second one two = record {
  taken = both_taken first second one two;
  again = both_again first second one two;
  cut = both_cut first second one.again one.cut (λ x. (two x).cut);
}

-- another shape

pub record IsShape {A B : Type 0} (shape : A → B) (parts : B → A) (has_parts : B → Bool) : Type 0 where
  pub there : (a : A) → parts (shape a) ≡ a
  pub has : (a : A) → has_parts (shape a) ≡ true
  pub back : (b : B) → has_parts b ≡ true → shape (parts b) ≡ b

pub shaped_exact : {A B : Type 0} (shape : A → B) (parts : B → A) (has_parts : B → Bool) (form : Form A)
    → IsShape shape parts has_parts → IsExact form → IsExact (shaped shape parts has_parts form)
shaped_exact {A = A} {B = B} shape parts has_parts form same exact = record {
  taken = λ bytes x fits e.
      let a = bind_ok (form.read bytes) (λ p. Ok (shape p.0, p.1)) x e in
      let t = exact.taken bytes a.0 fits a.1 in
      let made : B × List ℕ = (shape a.0.0, a.0.1) in
      let spelling : form.spelled (parts (shape a.0.0)) ≡ form.spelled a.0.0 = ap form.spelled (same.there a.0.0) in
      let lawful : form.is_legal (parts (shape a.0.0)) ≡ true = ap form.is_legal (same.there a.0.0) ∙ t.legal in
      subst (λ (y : B × List ℕ). IsTaken (shaped shape parts has_parts form) bytes y.0 y.1) (ok_is made x a.2)
      (record {
        takes = record {
          parts = t.takes.parts
              ∙ ap (λ (l : List ℕ). l ++ a.0.1) (sym spelling);
          rest_fits = t.takes.rest_fits;
        };
        legal = and_from _ _ (same.has a.0.0) lawful;
      });
  again = λ x rest legal.
      let l = and_parts _ _ legal in
      ap (λ r. r >>= λ p. Ok (shape p.0, p.1)) (exact.again (parts x) rest l.1)
      ∙ ap (λ (b : B). Ok (b, rest)) (same.back x l.0);
  cut = shaped_cut shape parts has_parts form exact.cut;
}

-- items

items_taken : {A : Type 0} (item : Option A → Form A) → ((before : Option A) → IsExact (item before))
    → (before : Option A) (count : ℕ) (bytes : List ℕ) (x : List A × List ℕ) → IsBytes bytes
    → items_at item before count bytes ≡ Ok x
    → Takes bytes (items_spelled item before x.0) x.1 × (length x.0 ≡ count) × (items_are_legal item before x.0 ≡ true)
unfolding items_at
items_taken {A = A} item exact before zero bytes x fits e =
    subst (λ (y : List A × List ℕ). Takes bytes (items_spelled item before y.0) y.1 × (length y.0 ≡ 0)
    × (items_are_legal item before y.0 ≡ true)) (ok_is ([], bytes) x e)
    (record { parts = refl; rest_fits = fits }, refl, refl)
items_taken {A = A} item exact before (suc count) bytes x fits e =
    let a = bind_ok ((item before).read bytes)
    (λ first. items_at item (Some first.0) count first.1 >>= λ others. Ok (first.0 ∷ others.0, others.1)) x e in
    let b = bind_ok (items_at item (Some a.0.0) count a.0.1) (λ others. Ok (a.0.0 ∷ others.0, others.1)) x a.2 in
    let first = (exact before).taken bytes a.0 fits a.1 in
    let second = items_taken item exact (Some a.0.0) count a.0.1 b.0 first.takes.rest_fits b.1 in
    let made : List A × List ℕ = (a.0.0 ∷ b.0.0, b.0.1) in
    subst (λ (y : List A × List ℕ). Takes bytes (items_spelled item before y.0) y.1 × (length y.0 ≡ suc count)
    × (items_are_legal item before y.0 ≡ true)) (ok_is made x b.2) (
      then_takes bytes ((item before).spelled a.0.0) a.0.1
          (items_spelled item (Some a.0.0) b.0.0) b.0.1 first.takes second.0,
      ap suc second.1,
      and_from _ _ first.legal second.2,
    )

items_again : {A : Type 0} (item : Option A → Form A) → ((before : Option A) → IsExact (item before))
    → (before : Option A) (xs : List A) (rest : List ℕ) → items_are_legal item before xs ≡ true
    → items_at item before (length xs) (items_spelled item before xs ++ rest) ≡ Ok (xs, rest)
unfolding items_at
items_again item exact before [] rest legal = refl
items_again item exact before (x ∷ xs) rest legal =
    let l = and_parts _ _ legal in
    let behind = items_spelled item (Some x) xs ++ rest in
    let p : (item before).read (((item before).spelled x ++ items_spelled item (Some x) xs) ++ rest) ≡ Ok (x, behind) =
    ap (item before).read (append_assoc ((item before).spelled x) (items_spelled item (Some x) xs) rest)
    ∙ (exact before).again x behind l.0 in
    ap (λ r. r >>= λ first. items_at item (Some first.0) (length xs) first.1 >>= λ others. Ok
    (first.0 ∷ others.0, others.1)) p
    ∙ ap (λ r. r >>= λ others. Ok (x ∷ others.0, others.1)) (items_again item exact (Some x) xs rest l.1)

pub counted_exact : {A : Type 0} (width : ℕ) (is_count : ℕ → Bool) (item : Option A → Form A)
    → IsExact (field width is_count) → ((before : Option A) → IsExact (item before))
    → IsExact (counted width is_count item)
counted_exact {A = A} width is_count item numbers exact = record {
  taken = λ bytes x fits e.
      let a = bind_ok (number_at width is_count bytes) (λ n. items_at item None n.0 n.1) x e in
      let t = numbers.taken bytes a.0 fits a.1 in
      let u = items_taken item exact None a.0.0 a.0.1 x t.takes.rest_fits a.2 in
      let first : Takes bytes (big_bytes width (length x.0)) a.0.1 =
      subst (λ (n : ℕ). Takes bytes (big_bytes width n) a.0.1) (sym u.1) t.takes in
      record {
        takes = then_takes bytes (big_bytes width (length x.0)) a.0.1
            (items_spelled item None x.0) x.1 first u.0;
        legal = and_from _ _ (ap is_count u.1 ∙ t.legal) u.2;
      };
  again = λ xs rest legal.
      let l = and_parts _ _ legal in
      let behind = items_spelled item None xs ++ rest in
      let p : number_at width is_count ((big_bytes width (length xs) ++ items_spelled item None xs) ++ rest) ≡ Ok
      (length xs, behind) = ap (number_at width is_count)
      (append_assoc (big_bytes width (length xs)) (items_spelled item None xs) rest)
      ∙ numbers.again (length xs) behind l.0 in
      ap (λ r. r >>= λ n. items_at item None n.0 n.1) p ∙ items_again item exact None xs rest l.1;
  cut = counted_cut width is_count item numbers.again (λ before. (exact before).again) (λ before. (exact before).cut);
}

-- all of the bytes

pub all_taken : {A : Type 0} (form : Form A) → IsExact form → (bytes : List ℕ) (x : A) → IsBytes bytes
    → all_of (form.read bytes) ≡ Ok x → (bytes ≡ form.spelled x) × (form.is_legal x ≡ true)
all_taken {A = A} form exact bytes x fits e =
    let a = bind_ok (form.read bytes) (λ p. cond (nat_eq (length p.1) 0) (Ok p.0) (Err (length p.1))) x e in
    let t = exact.taken bytes a.0 fits a.1 in
    elim (chosen (nat_eq (length a.0.1) 0) _ _ _ a.2) [
      | inl none ↦
          let nil : a.0.1 ≡ [] = empty a.0.1 none.0 in
          let whole : bytes ≡ form.spelled a.0.0 = t.takes.parts ∙ ap (λ (l : List ℕ). form.spelled a.0.0 ++ l) nil
          ∙ append-nil (form.spelled a.0.0) in
          subst (λ (y : A). (bytes ≡ form.spelled y) × (form.is_legal y ≡ true)) (ok_is a.0.0 x none.1) (whole, t.legal)
      | inr some ↦ let no : Err (length a.0.1) ≡ Ok x = some.1 in absurd cc
    ]
  where
    empty : (l : List ℕ) → nat_eq (length l) 0 ≡ true → l ≡ []
    empty [] h = refl
    empty (y ∷ l) h = let size : length (y ∷ l) ≡ 0 = grind (arith, nat_tests, h) in absurd (omega (arith, size))

pub all_again : {A : Type 0} (form : Form A) → IsExact form → (x : A) → form.is_legal x ≡ true
    → all_of (form.read (form.spelled x)) ≡ Ok x
all_again form exact x legal =
    ap (λ l. all_of (form.read l)) (sym (append-nil (form.spelled x))) ∙ ap (λ r. all_of r) (exact.again x [] legal)

-- Bytes that are put one behind the other.
use Rattle.std.proofs.Common.{◌≡◌, ℕ, List, ◌++◌, Result, Ok, Err, ap, ◌∙◌, append_assoc}
use Rattle.std.specs.Prelude.{OnOk}
use Rattle.byteorder.specs.Endian.{big_bytes}
use Rattle.qc_record.specs.Vocabulary.{Form}

pub on_ok : {T E P Q : Type 0} (r : Result T E) → (P → Q) → OnOk r P → OnOk r Q
on_ok (Ok x) f h = f h
on_ok (Err e) f h = tt

pub three : (o n1 n2 n3 a b c : List ℕ) → n1 ≡ o ++ a → n2 ≡ n1 ++ b → n3 ≡ n2 ++ c → n3 ≡ o ++ (a ++ (b ++ c))
three o n1 n2 n3 a b c e1 e2 e3 =
    e3 ∙ ap (λ (l : List ℕ). l ++ c) (e2 ∙ ap (λ (l : List ℕ). l ++ b) e1) ∙ append_assoc (o ++ a) b c
    ∙ append_assoc o a (b ++ c)

pub five : (o n1 n2 n3 n4 n5 a b c d e : List ℕ) → n1 ≡ o ++ a → n2 ≡ n1 ++ b → n3 ≡ n2 ++ c → n4 ≡ n3 ++ d
    → n5 ≡ n4 ++ e → n5 ≡ o ++ (a ++ (b ++ (c ++ (d ++ e))))
five o n1 n2 n3 n4 n5 a b c d e e1 e2 e3 e4 e5 =
    three n2 n3 n4 n5 c d e e3 e4 e5 ∙ ap (λ (l : List ℕ). l ++ (c ++ (d ++ e))) (e2 ∙ ap (λ (l : List ℕ). l ++ b) e1)
    ∙ append_assoc (o ++ a) b (c ++ (d ++ e)) ∙ append_assoc o a (b ++ (c ++ (d ++ e)))

pub wide : (a b c rest : List ℕ) → (a ++ (b ++ c)) ++ rest ≡ a ++ (b ++ (c ++ rest))
wide a b c rest = append_assoc a (b ++ c) rest ∙ ap (λ (l : List ℕ). a ++ l) (append_assoc b c rest)

pub as_bytes : (width : ℕ) (o n : List ℕ) (x y : ℕ) → x ≡ y → n ≡ o ++ big_bytes width x → n ≡ o ++ big_bytes width y
as_bytes width o n x y e put = put ∙ ap (λ (k : ℕ). o ++ big_bytes width k) e

pub as_spelled : {A : Type 0} (form : Form A) (o n : List ℕ) (x y : A) → x ≡ y → n ≡ o ++ form.spelled x
    → n ≡ o ++ form.spelled y
as_spelled {A = A} form o n x y e put = put ∙ ap (λ (k : A). o ++ form.spelled k) e

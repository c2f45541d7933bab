-- Frames tell records apart.
use Rattle.std.proofs.Common.{◌≡◌, ℕ, ◌^◌, ◌<◌, ◌≤◌, true, List, [], ◌∷◌, ◌++◌, length, take, drop, refl, sym, ap, ◌∙◌}
use Rattle.std.proofs.Common.{append_assoc, arith}
use Rattle.std.proofs.lemmas.List.{take_at, drop_at, append-nil}
use Rattle.byteorder.specs.Endian.{big_number, big_bytes}
use Rattle.byteorder.specs.Numbers.{big_number-reads_back, length-bytes_high_first}
use Rattle.qc_msg.specs.declared.record.Record.{Record}
use Rattle.qc_record.specs.Vocabulary.{framed, is_legal, most_bytes, record_at, spelled}
use Rattle.qc_record.proofs.Whole.{again, found_is}

pub spellings_are_apart : (a b : Record) → is_legal a ≡ true → is_legal b ≡ true → spelled a ≡ spelled b → a ≡ b
spellings_are_apart a b la lb e = found_is a b (sym (again a la) ∙ ap record_at e ∙ again b lb)

abbrev tail : List ℕ → List ℕ
tail [] = []
tail (x ∷ xs) = xs

pub no_frame_is_a_prefix : (a b : Record) (rest : List ℕ) → is_legal a ≡ true → is_legal b ≡ true
    → length (spelled a) ≤ most_bytes
    → length (spelled b) ≤ most_bytes → framed a ++ rest ≡ framed b → a ≡ b
no_frame_is_a_prefix a b rest la lb sa sb e =
    let na = length (spelled a) in
    let nb = length (spelled b) in
    let behind : (big_bytes 4 na ++ spelled a) ++ rest ≡ big_bytes 4 nb ++ spelled b = ap tail e in
    let parts : big_bytes 4 na ++ (spelled a ++ rest) ≡ big_bytes 4 nb ++ spelled b =
    sym (append_assoc (big_bytes 4 na) (spelled a) rest) ∙ behind in
    let small_a : na < 256 ^ 4 = omega (arith, sa) in
    let small_b : nb < 256 ^ 4 = omega (arith, sb) in
    let same : na ≡ nb = sym (big_number-reads_back 4 na (spelled a ++ rest) small_a) ∙ ap (big_number 4) parts
    ∙ big_number-reads_back 4 nb (spelled b) small_b in
    let bodies : spelled a ++ rest ≡ spelled b =
    sym (drop_at (big_bytes 4 na) (spelled a ++ rest) 4 (length-bytes_high_first 4 na)) ∙ ap (drop 4) parts
    ∙ drop_at (big_bytes 4 nb) (spelled b) 4 (length-bytes_high_first 4 nb) in
    let whole : spelled a ≡ spelled b = sym (take_at (spelled a) rest na refl) ∙ ap (take na) bodies
    ∙ ap (λ (k : ℕ). take k (spelled b)) same ∙ all_of_it (spelled b) in
    spellings_are_apart a b la lb whole
  where
    all_of_it : (l : List ℕ) → take (length l) l ≡ l
    all_of_it l = ap (take (length l)) (sym (append-nil l)) ∙ take_at l [] (length l) refl

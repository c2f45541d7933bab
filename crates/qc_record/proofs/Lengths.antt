-- How long spellings are.
use Rattle.std.proofs.Common.{◌≡◌, refl, ℕ, ◌+◌, ◌*◌, List, [], ◌∷◌, ◌++◌, length, Option, Some, None, ap, arith, ◌∙◌}
use Rattle.std.proofs.lemmas.List.{length-append}
use Rattle.byteorder.specs.Endian.{big_bytes}
use Rattle.byteorder.specs.Numbers.{length-bytes_high_first}
use Rattle.qc_entry.specs.declared.line.Line.{Line}
use Rattle.qc_entry.specs.declared.line.OwnLine.{OwnLine}
use Rattle.qc_entry.specs.declared.line.ReadLock.{ReadLock}
use Rattle.qc_entry.specs.declared.record.Prepared.{Prepared}
use Rattle.qc_msg.specs.Vocabulary.{prepare_length}
use Rattle.qc_msg.specs.declared.record.Record.TheVariants as records
use Rattle.qc_record.specs.Vocabulary.{Form, items_spelled, line_form, lines_form, lock_form, locks_form, own_form}
use Rattle.qc_record.specs.Vocabulary.{owns_form, spelled}

-- items that are each so many bytes long
items_long : {A : Type 0} (item : Option A → Form A) (n : ℕ)
    → ((before : Option A) (x : A) → length ((item before).spelled x) ≡ n)
    → (before : Option A) (xs : List A) → length (items_spelled item before xs) ≡ n * length xs
items_long item n each before [] = omega arith
items_long item n each before (x ∷ xs) =
    let first : length ((item before).spelled x) ≡ n = each before x in
    let rest : length (items_spelled item (Some x) xs) ≡ n * length xs = items_long item n each (Some x) xs in
    let both : length ((item before).spelled x ++ items_spelled item (Some x) xs) ≡ length
    ((item before).spelled x) + length (items_spelled item (Some x) xs) =
    length-append ((item before).spelled x) (items_spelled item (Some x) xs) in
    omega arith

lock_long : (before : Option ReadLock) (l : ReadLock) → length ((lock_form before).spelled l) ≡ 2
lock_long None l = refl
lock_long (Some before) l = refl

own_long : (before : Option OwnLine) (o : OwnLine) → length ((own_form before).spelled o) ≡ 3
own_long None o = refl
own_long (Some before) o = refl

line_long : (before : Option Line) (l : Line) → length ((line_form before).spelled l) ≡ 20
line_long None l = refl
line_long (Some before) l = refl

-- a list behind its count
list_long : {A : Type 0} (item : Option A → Form A) (width n : ℕ)
    → ((before : Option A) (x : A) → length ((item before).spelled x) ≡ n)
    → (xs : List A) → length (big_bytes width (length xs) ++ items_spelled item None xs) ≡ width + n * length xs
list_long item width n each xs =
    length-append (big_bytes width (length xs)) (items_spelled item None xs)
    ∙ ap (λ (k : ℕ). k + length (items_spelled item None xs)) (length-bytes_high_first width (length xs))
    ∙ ap (λ (k : ℕ). width + k) (items_long item n each None xs)

-- a Prepare's spelling is as long as its length says
pub prepares_are_as_long_as_told : (p : Prepared) → length (spelled (records.Prepare p)) ≡ prepare_length p
prepares_are_as_long_as_told p =
    let locks : length (locks_form.spelled p.locks) ≡ 2 + 2 * length p.locks =
    list_long lock_form 2 2 lock_long p.locks in
    let own : length (owns_form.spelled p.own) ≡ 1 + 3 * length p.own = list_long own_form 1 3 own_long p.own in
    let lines : length (lines_form.spelled p.lines) ≡ 4 + 20 * length p.lines =
    list_long line_form 4 20 line_long p.lines in
    let own_on : length (owns_form.spelled p.own ++ lines_form.spelled p.lines) ≡ length
    (owns_form.spelled p.own) + length (lines_form.spelled p.lines) =
    length-append (owns_form.spelled p.own) (lines_form.spelled p.lines) in
    let locks_on : length (locks_form.spelled p.locks ++ (owns_form.spelled p.own ++ lines_form.spelled p.lines))
    ≡ length (locks_form.spelled p.locks) + length (owns_form.spelled p.own ++ lines_form.spelled p.lines) =
    length-append (locks_form.spelled p.locks) (owns_form.spelled p.own ++ lines_form.spelled p.lines) in
    let all : length (spelled (records.Prepare p)) ≡ 1 +
    (9 + (1 + length (locks_form.spelled p.locks ++ (owns_form.spelled p.own ++ lines_form.spelled p.lines)))) =
    omega arith in
    omega arith

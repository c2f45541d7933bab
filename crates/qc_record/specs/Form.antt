-- Forms of bytes: each says which values have a spelling, what it is, and how bytes are read by it.
use Rattle.std.specs.Prelude.{ℕ, zero, suc, Bool, true, ◌&&◌, nat_le, nat_lt, nat_eq, if◌then◌else◌, List, [], ◌∷◌}
use Rattle.std.specs.Prelude.{◌++◌, length, drop, get_or, ◌<◌, Option, Some, None, Result, Ok, Err}
use Rattle.byteorder.specs.Endian.{big_bytes, big_number}

-- A form of values: how a value is read off the front of bytes, with the bytes behind it, or else how many bytes are
-- left from the first fault on; a value's one spelling; and whether it has one.
pub record Form (A : Type 0) : Type 0 where
  pub read : List ℕ → Result (A × List ℕ) ℕ
  pub spelled : A → List ℕ
  pub is_legal : A → Bool

-- bytes, as numbers
abbrev pub IsBytes : List ℕ → Type 0
IsBytes bytes = (i : ℕ) → get_or bytes i 0 < 256

-- what follows, where nothing was at fault before
infixl 10 ◌>>=◌
abbrev pub ◌>>=◌ : {A B : Type 0} → Result A ℕ → (A → Result B ℕ) → Result B ℕ
(Ok x) >>= next = next x
(Err left) >>= next = Err left

-- The number in so many bytes, the highest first. The fault is at the end of the bytes where they end within the
-- number, and at the number's first byte where it isn't legal.
unfoldable pub number_at : ℕ → (ℕ → Bool) → List ℕ → Result (ℕ × List ℕ) ℕ
number_at width is_legal bytes =
    if nat_lt (length bytes) width then Err 0
    else if is_legal (big_number width bytes) then Ok (big_number width bytes, drop width bytes)
    else Err (length bytes)

-- a number of so many bytes
abbrev pub field : ℕ → (ℕ → Bool) → Form ℕ
field width is_legal = record { read = number_at width is_legal; spelled = big_bytes width; is_legal = is_legal }

-- no bytes
abbrev pub nothing : Form (Unit {0})
nothing = record { read = λ bytes. Ok (tt, bytes); spelled = λ _. []; is_legal = λ _. true }

-- a value, and then one whose form it says
abbrev pub both : {A B : Type 0} → Form A → (A → Form B) → Form (A × B)
both first second = record {
  read = λ bytes. first.read bytes >>= λ x. (second x.0).read x.1 >>= λ y. Ok ((x.0, y.0), y.1);
  spelled = λ x. first.spelled x.0 ++ (second x.0).spelled x.1;
  is_legal = λ x. first.is_legal x.0 && (second x.0).is_legal x.1;
}

-- the same values in another shape, of which some have one
abbrev pub shaped : {A B : Type 0} → (A → B) → (B → A) → (B → Bool) → Form A → Form B
shaped shape parts has_parts form = record {
  read = λ bytes. form.read bytes >>= λ x. Ok (shape x.0, x.1);
  spelled = λ x. form.spelled (parts x);
  is_legal = λ x. has_parts x && form.is_legal (parts x);
}

-- Items one after another. The form of each knows the item before it, if there is one.

unfoldable pub items_at : {A : Type 0} → (Option A → Form A) → Option A → ℕ → List ℕ → Result (List A × List ℕ) ℕ
items_at item before zero bytes = Ok ([], bytes)
items_at item before (suc count) bytes = do
  first ← (item before).read bytes
  others ← items_at item (Some first.0) count first.1
  Ok (first.0 ∷ others.0, others.1)

abbrev pub items_spelled : {A : Type 0} → (Option A → Form A) → Option A → List A → List ℕ
items_spelled item before [] = []
items_spelled item before (x ∷ xs) = (item before).spelled x ++ items_spelled item (Some x) xs

abbrev pub items_are_legal : {A : Type 0} → (Option A → Form A) → Option A → List A → Bool
items_are_legal item before [] = true
items_are_legal item before (x ∷ xs) = (item before).is_legal x && items_are_legal item (Some x) xs

-- a count in so many bytes, and so many items
abbrev pub counted : {A : Type 0} → ℕ → (ℕ → Bool) → (Option A → Form A) → Form (List A)
counted width is_count item = record {
  read = λ bytes. number_at width is_count bytes >>= λ n. items_at item None n.0 n.1;
  spelled = λ xs. big_bytes width (length xs) ++ items_spelled item None xs;
  is_legal = λ xs. is_count (length xs) && items_are_legal item None xs;
}

-- Ranges.

abbrev pub within : ℕ → ℕ → ℕ → Bool
within low high n = nat_le low n && nat_le n high

-- Items that ascend do so by their numbers, of which the first that differs decides. A field that still ties with the
-- item before is at least the number there, and the last is above it. A floor is the numbers of the item before in the
-- fields from this one on, or none where the item doesn't tie with it.

abbrev pub is_at_least : List ℕ → ℕ → Bool
is_at_least [] n = true
is_at_least (m ∷ _) n = nat_le m n

abbrev pub is_above : List ℕ → ℕ → Bool
is_above [] n = true
is_above (m ∷ _) n = nat_lt m n

-- the floor of the next field
abbrev pub tied : List ℕ → ℕ → List ℕ
tied [] n = []
tied (m ∷ floor) n = if nat_eq m n then floor else []

abbrev pub climbs : ℕ → ℕ → List ℕ → ℕ → Bool
climbs low high floor n = within low high n && is_at_least floor n

abbrev pub tops : ℕ → ℕ → List ℕ → ℕ → Bool
tops low high floor n = within low high n && is_above floor n

-- a field, and then the fields that follow it
abbrev pub climb : {B : Type 0} → ℕ → ℕ → ℕ → List ℕ → (List ℕ → Form B) → Form (ℕ × B)
climb width low high floor next = both (field width (climbs low high floor)) (λ n. next (tied floor n))

-- the last field that the order looks at
abbrev pub top : ℕ → ℕ → ℕ → List ℕ → Form ℕ
top width low high floor = field width (tops low high floor)

-- All of the bytes: the fault is where bytes stand behind the value.
abbrev pub all_of : {A : Type 0} → Result (A × List ℕ) ℕ → Result A ℕ
all_of read = read >>= λ x. if nat_eq (length x.1) 0 then Ok x.0 else Err (length x.1)

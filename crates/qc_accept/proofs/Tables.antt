-- Fields of a document's tables, as the code looks them up.
use Rattle.std.proofs.Common.{◌≡◌, ℕ, ◌≤◌, ◌<◌, ◌⊎◌, true, false, Bool, List, [], ◌∷◌, Option, Some, None, length, map}
use Rattle.std.proofs.Common.{ap, sym, ◌∙◌, refl, vec_len, String, Vec, Global, arith}
use Rattle.std.proofs.lemmas.Bool.Decides.{nat_tests, same_from_decides, Decides-like}
use Rattle.std.proofs.lemmas.List.{length-map}
use Rattle.std.proofs.lemmas.Slice.Eq.{bytes_eq-Decides}
use Rattle.std.specs.Prelude.{option_and_then, if◌then◌else◌, string_bytes}
use Rattle.std.specs.Borrow.{Bor}
use Rattle.std.specs.List.{list_any}
use Rattle.std.specs.Map.{keys_of}
use Rattle.std.specs.Str.{bytes_eq}
use Rattle.toml.specs.Data.{Data, Items, as_array}
use Rattle.toml.specs.View.{view, items_view, members_view}
use Rattle.toml.specs.declared.value.Value.{Value}
use Rattle.qc_accept.specs.Vocabulary.{first_other, items_between, listed}
use Rattle.qc_decl.specs.Vocabulary.{is_between}

-- an array's items, as a list
pub listed_view : (vs : List Value) → listed (items_view vs) ≡ map view vs
listed_view [] = refl
listed_view (v ∷ vs) = ap (λ (ds : List Data). view v ∷ ds) (listed_view vs)

pub is_within : (least most n : ℕ) → least ≤ n → n ≤ most → is_between least most n ≡ true
is_within least most n low high = grind (arith, nat_tests)

pub is_outside : (least most n : ℕ) → (n < least) ⊎ (most < n) → is_between least most n ≡ false
is_outside least most n out = grind (arith, nat_tests)

-- an array with so many items
pub items_within : (least most : ℕ) (d : Data) (v : Vec Value Global) → Some (items_view v.items) ≡ as_array d
    → least ≤ vec_len v → vec_len v ≤ most
    → items_between least most d ≡ Some (map view v.items)
items_within least most d v is low high =
    let long : length (map view v.items) ≡ vec_len v = length-map v.items view ∙ sym v.ok.0 in
    ap (option_and_then (λ (ds : Items). if is_between least most (length (listed ds)) then Some (listed ds) else None))
    (sym is)
    ∙ ap (λ (ds : List Data). if is_between least most (length ds) then Some ds else None) (listed_view v.items)
    ∙ ap (λ (b : Bool). if b then Some (map view v.items) else None)
    (ap (is_between least most) long ∙ is_within least most (vec_len v) low high)

-- one with fewer or more
pub items_outside : (least most : ℕ) (d : Data) (v : Vec Value Global) → Some (items_view v.items) ≡ as_array d
    → (vec_len v < least) ⊎ (most < vec_len v)
    → items_between least most d ≡ None
items_outside least most d v is out =
    let long : length (map view v.items) ≡ vec_len v = length-map v.items view ∙ sym v.ok.0 in
    ap (option_and_then (λ (ds : Items). if is_between least most (length (listed ds)) then Some (listed ds) else None))
    (sym is)
    ∙ ap (λ (ds : List Data). if is_between least most (length ds) then Some ds else None) (listed_view v.items)
    ∙ ap (λ (b : Bool). if b then Some (map view v.items) else None)
    (ap (is_between least most) long ∙ is_outside least most (vec_len v) out)

-- no array at all
pub items_none : (least most : ℕ) (d : Data) → None ≡ as_array d → items_between least most d ≡ None
items_none least most d is =
    ap (option_and_then (λ (ds : Items). if is_between least most (length (listed ds)) then Some (listed ds) else None))
    (sym is)

-- a key is told apart from the known ones whichever way it is compared
same_either_way : (xs ys : List ℕ) → bytes_eq xs ys ≡ bytes_eq ys xs
same_either_way xs ys = same_from_decides {P = xs ≡ ys} (bytes_eq xs ys) (bytes_eq ys xs) (bytes_eq-Decides xs ys)
    (Decides-like (bytes_eq ys xs) sym sym (bytes_eq-Decides ys xs))

pub any_known : (key : List ℕ) (known : List (Bor (List ℕ)))
    → list_any (λ k. bytes_eq k.now key) known ≡ list_any (bytes_eq key) (map (λ k. k.now) known)
any_known key [] = refl
any_known key (k ∷ known) = rw (same_either_way k.now key, any_known key known)

-- the first of the keys that isn't known
abbrev pub other_of : List (List ℕ) → List (String Global) → Option (List ℕ)
other_of known [] = None
other_of known (k ∷ ks) = if list_any (bytes_eq (string_bytes k)) known then other_of known ks else Some
    (string_bytes k)

pub other_in : (known : List (List ℕ)) (es : List (String Global × Value))
    → other_of known (keys_of es) ≡ first_other known (members_view es)
other_in known [] = refl
other_in known (e ∷ es) = rw (other_in known es)

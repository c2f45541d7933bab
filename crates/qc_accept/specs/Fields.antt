-- Fields of a document's tables: what each has to be, and the path of one that isn't.
use Rattle.std.specs.Prelude.{ℕ, not, ◌&&◌, ℤ, pos, negsuc, List, [], ◌∷◌, ◌++◌, length, Option, Some, None, Ok, Err}
use Rattle.std.specs.Prelude.{if◌then◌else◌, codes, decimal, option_map, option_and_then}
use Rattle.std.specs.List.{list_any}
use Rattle.std.specs.Option.{option_map_or}
use Rattle.std.specs.Str.{bytes_eq}
use Rattle.toml.specs.Data.{Data, Items, no_items, item, Members, no_members, member, get_member, as_str, as_integer}
use Rattle.toml.specs.Data.{as_array, as_table}
use Rattle.qc_accept.specs.declared.fault.DeclFault.TheVariants.{Field}
use Rattle.qc_list.specs.Vocabulary.{◌>>=◌}
use Rattle.qc_accept.specs.Answers.{Answer, read_each}
use Rattle.qc_decl.specs.Vocabulary.{is_between, is_name}
use Rattle.qc_accept.specs.Words.{number_of}

-- A table of the document stands under a path: none for the document itself, `type[0].` for the first item of `type`. A
-- key's field has this path with the key behind it.

-- the path of an item of an array
abbrev pub item_path : List ℕ → ℕ → List ℕ
item_path key place = key ++ (codes "[" ++ (decimal place ++ codes "]"))

-- the path under which its keys stand
abbrev pub keys_path : List ℕ → ℕ → List ℕ
keys_path key place = item_path key place ++ codes "."

-- what was read of a field, which is a fault where it isn't of its form
abbrev pub told : {A : Type 0} → List ℕ → Option A → Answer A
told path (Some value) = Ok value
told path None = Err (Field path)

-- a key that has to be there
abbrev pub required : List ℕ → Members → List ℕ → Answer Data
required path table key = told (path ++ key) (get_member key table)

-- the items of an array as a list
abbrev pub listed : Items → List Data
listed no_items = []
listed (item d ds) = d ∷ listed ds

-- the items of an array, where there are so many
abbrev pub items_between : ℕ → ℕ → Data → Option (List Data)
items_between least most d =
    option_and_then (λ ds. if is_between least most (length (listed ds)) then Some (listed ds) else None) (as_array d)

-- an array that has to be there, with so many items
abbrev pub items : List ℕ → Members → List ℕ → ℕ → ℕ → Answer (List Data)
items path table key least most = required path table key >>= (λ d. told (path ++ key) (items_between least most d))

-- an array that may be missing, which then has no items
abbrev pub optional : List ℕ → Members → List ℕ → Answer (List Data)
optional path table key = told (path ++ key) (option_map_or (λ d. option_map listed (as_array d))
    (get_member key table) (Some []))

-- a whole number between these two
abbrev pub natural : ℤ → Option ℕ
natural (pos n) = Some n
natural (negsuc n) = None

abbrev pub number_between : ℕ → ℕ → Data → Option ℕ
number_between least most d =
    option_and_then (λ n. if is_between least most n then Some n else None) (option_and_then natural (as_integer d))

abbrev pub number : List ℕ → Members → List ℕ → ℕ → ℕ → Answer ℕ
number path table key least most = required path table key >>= (λ d. told (path ++ key) (number_between least most d))

-- names, with the one that a value is: well-formed, and none of them
abbrev pub with_text : List (List ℕ) → List ℕ → Option (List (List ℕ))
with_text names text = if is_name text && not (list_any (bytes_eq text) names) then Some (names ++ text ∷ []) else None

abbrev pub with_name : List (List ℕ) → Data → Option (List (List ℕ))
with_name names d = option_and_then (with_text names) (as_str d)

-- an array of distinct names, at least one
abbrev pub names : List ℕ → Members → List ℕ → ℕ → Answer (List (List ℕ))
names path table key most = items path table key 1 most >>= (λ ds. told (path ++ key) (read_each with_name [] ds))

-- the number of a name that is among these
abbrev pub name_among : List (List ℕ) → Data → Option ℕ
name_among among d = option_and_then (number_of among) (as_str d)

-- the first key that isn't among these; the keys of a table ascend, so it is the least one
abbrev pub first_other : List (List ℕ) → Members → Option (List ℕ)
first_other known no_members = None
first_other known (member key d rest) = if list_any (bytes_eq key) known then first_other known rest else Some key

abbrev pub no_others : List ℕ → Members → List (List ℕ) → Answer (Unit {0})
no_others path table known = option_map_or (λ key. Err (Field (path ++ key))) (first_other known table) (Ok tt)

-- the table that an item of an array is; the item itself has a path too
abbrev pub item_table : List ℕ → ℕ → Data → Answer Members
item_table key place d = told (item_path key place) (as_table d)

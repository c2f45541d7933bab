-- What is defined by a reading has a property where it has it for what is read, and for nothing.
use Rattle.std.proofs.Common.{Option, Some, None}
use Rattle.std.specs.Prelude.{MatchOption}
use Rattle.std.specs.Option.{option_map_or}

-- of a value

pub mapped : {A B : Type 0} (P : B → Type 0) (f : A → B) (d : B) (o : Option A) → ((a : A) → P (f a)) → P d
    → P (option_map_or f o d)
mapped P f d None some none = none
mapped P f d (Some a) some none = some a

pub mapped_by : {A B : Type 0} (P : B → Type 0) (f : A → B) (d : B) (N : Type 0) (H : A → Type 0) (o : Option A)
    → ((a : A) → H a → P (f a)) → (N → P d) → MatchOption o N H → P (option_map_or f o d)
mapped_by P f d N H None some none is = none is
mapped_by P f d N H (Some a) some none is = some a is

-- of a type

pub matched : {A : Type 0} (N : Type 0) (H : A → Type 0) (o : Option A) → ((a : A) → H a) → N → MatchOption o N H
matched N H None some none = none
matched N H (Some a) some none = some a

pub matched_by : {A : Type 0} (N M : Type 0) (H G : A → Type 0) (o : Option A) → ((a : A) → H a → G a) → (N → M)
    → MatchOption o N H → MatchOption o M G
matched_by N M H G None some none is = none is
matched_by N M H G (Some a) some none is = some a is

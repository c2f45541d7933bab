-- What may be there: what holds of a value from it, and what is weaker.
use Rattle.std.specs.Prelude.{MatchOption, Option, Some, None}
use Rattle.std.specs.Option.{option_map_or}

-- a value, by what is known where there is none and where there is one
pub map_on : {A B : Type 0} (T : B → Type 0) (N : Type 0) (P : A → Type 0) (f : A → B) (default : B) (o : Option A)
    → MatchOption o N P → T default → ((x : A) → P x → T (f x)) → T (option_map_or f o default)
map_on T N P f default None here none some = none
map_on T N P f default (Some x) here none some = some x here

pub map_or : {A B : Type 0} (T : B → Type 0) (P : A → Type 0) (f : A → B) (default : B) (o : Option A)
    → MatchOption o (Unit {0}) P → T default → ((x : A) → P x → T (f x)) → T (option_map_or f o default)
map_or T P f default o here none some = map_on T (Unit {0}) P f default o here none some

pub match_weaker : {A : Type 0} (P Q : A → Type 0) (o : Option A) → ((x : A) → P x → Q x)
    → MatchOption o (Unit {0}) P → MatchOption o (Unit {0}) Q
match_weaker P Q None weaker here = tt
match_weaker P Q (Some x) weaker here = weaker x here

pub map_each : {A B : Type 0} (T : B → Type 0) (f : A → B) (default : B) (o : Option A)
    → T default → ((x : A) → T (f x)) → T (option_map_or f o default)
map_each T f default None none some = none
map_each T f default (Some x) none some = some x

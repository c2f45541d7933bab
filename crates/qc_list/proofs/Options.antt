-- What an option has.
use Rattle.std.proofs.Common.{◌≡◌, Some, None, false, Option, refl, true}
use Rattle.std.specs.Prelude.{is_some}

pub none_some : {A : Type 0} (x : A) → None ≡ Some x → ⊥
none_some x h = cc

pub some_same : {A : Type 0} (x y : A) → Some x ≡ Some y → x ≡ y
some_same x y e = cc

pub none_of : {X : Type 0} (o : Option X) → is_some o ≡ false → o ≡ None
none_of None h = refl
none_of (Some x) h = absurd (let never : ⊥ = cc in never)

pub some_of : {X : Type 0} (o : Option X) → is_some o ≡ true → (x : X) × (o ≡ Some x)
some_of None h = absurd (let never : ⊥ = cc in never)
some_of (Some x) h = (x, refl)

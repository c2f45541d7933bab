-- The lines of a log that another lacks.
use Rattle.std.proofs.Common.{◌≡◌, ◌⊎◌, inl, inr, ℕ, zero, suc, take, drop, List, [], ◌∷◌, Some, Bool, true, false}
use Rattle.std.proofs.Common.{◌||◌}
use Rattle.std.proofs.Common.{cond, refl, sym, ap, ◌∙◌, subst}
use Rattle.std.specs.List.{AllByRecursion as Every, slice_get}
use Rattle.std.proofs.lemmas.Cmp.{tied_itself}
use Rattle.std.specs.declared.cmp.Ordering.TheVariants.{Less, Equal, Greater}
use Rattle.std.specs.Prelude.{not}
use Rattle.qc_entry.specs.declared.line.Line.{Line}
use Rattle.qc_entry.specs.Vocabulary.{IsAscending, has_line, line_cmp, without}
use Rattle.qc_list.specs.Vocabulary.{In, IsBelowAll}
use Rattle.qc_list.proofs.Members.{In-filter, In-passes, In-unfiltered}
use Rattle.std.specs.Ordering.{is_eq}
use Rattle.std.specs.declared.cmp.Ordering.{Ordering}
use Rattle.qc_entry.proofs.Orders.{lines_are_ordered, above, below}
use Rattle.qc_list.proofs.Order.{below_trans}

-- a line below all of a list is not among them
pub absent : (x : Line) (ys : List Line) → IsBelowAll line_cmp x ys → has_line ys x ≡ false
absent x [] low = refl
absent x (y ∷ ys) low = rw (below x y low.0) (absent x ys low.1)

-- nothing is taken away by no lines
pub without-nil : (xs : List Line) → without xs [] ≡ xs
without-nil [] = refl
without-nil (x ∷ xs) = ap (λ zs. x ∷ zs) (without-nil xs)

-- a line below all of the first list takes nothing away
pub without-below : (xs : List Line) (y : Line) (ys : List Line) → IsBelowAll line_cmp y xs
    → without xs (y ∷ ys) ≡ without xs ys
without-below [] y ys low = refl
without-below (x ∷ xs) y ys low = rw low.0
    (ap (λ zs. cond (not (has_line ys x)) (x ∷ zs) zs) (without-below xs y ys low.1))

-- the first line stays where it is below all others
pub without-Less : (x : Line) (xs : List Line) (y : Line) (ys : List Line) → line_cmp x y ≡ Less
    → IsBelowAll line_cmp y ys → without (x ∷ xs) (y ∷ ys) ≡ x ∷ without xs (y ∷ ys)
without-Less x xs y ys less low =
    ap (λ has. cond (not has) (x ∷ without xs (y ∷ ys)) (without xs (y ∷ ys)))
    (absent x (y ∷ ys) (less, below_trans line_cmp lines_are_ordered.total x y ys less low))

-- the first line goes where it is the first of the others
pub without-Equal : (x : Line) (xs : List Line) (y : Line) (ys : List Line) → line_cmp x y ≡ Equal
    → IsBelowAll line_cmp x xs → without (x ∷ xs) (y ∷ ys) ≡ without xs ys
without-Equal x xs y ys equal low =
    let same : x ≡ y = lines_are_ordered.apart x y equal in
    let found : line_cmp y x ≡ Equal = subst (λ l. line_cmp l x ≡ Equal) same (tied_itself lines_are_ordered.total x) in
    rw found (without-below xs y ys (subst (λ l. IsBelowAll line_cmp l xs) same low))

-- the first of the others takes nothing away where it is below the first line
pub without-Greater : (x : Line) (xs : List Line) (y : Line) (ys : List Line) → line_cmp x y ≡ Greater
    → IsBelowAll line_cmp x xs → without (x ∷ xs) (y ∷ ys) ≡ without (x ∷ xs) ys
without-Greater x xs y ys greater low =
    let less : line_cmp y x ≡ Less = above x y greater in
    without-below (x ∷ xs) y ys (less, below_trans line_cmp lines_are_ordered.total y x xs less low)

-- what two ascending lists begin with alike brings nothing
pub without-shared : (n : ℕ) (xs ys : List Line) → IsAscending xs → IsAscending ys → take n xs ≡ take n ys
    → without xs ys ≡ without (drop n xs) (drop n ys)
without-shared zero xs ys up other alike = refl
without-shared (suc n) [] [] up other alike = refl
without-shared (suc n) [] (y ∷ ys) up other alike = absurd (let never : ⊥ = cc in never)
without-shared (suc n) (x ∷ xs) [] up other alike = absurd (let never : ⊥ = cc in never)
without-shared (suc n) (x ∷ xs) (y ∷ ys) up other alike =
    let same : x ≡ y = cc in
    let rest : take n xs ≡ take n ys = cc in
    let equal : line_cmp x y ≡ Equal = subst (λ l. line_cmp x l ≡ Equal) same (tied_itself lines_are_ordered.total x) in
    without-Equal x xs y ys equal up.0 ∙ without-shared n xs ys up.1 other.1 rest

-- lines behind all others stay

stays : (xs ys : List Line) → Every (λ z. has_line ys z ≡ false) xs → without xs ys ≡ xs
stays [] ys none = refl
stays (x ∷ xs) ys none = rw none.0 (ap (λ zs. x ∷ zs) (stays xs ys none.1))

absent-behind : (z : Line) (ys : List Line) → Every (λ l. line_cmp l z ≡ Less) ys → has_line ys z ≡ false
absent-behind z [] all = refl
absent-behind z (y ∷ ys) all = rw all.0 (absent-behind z ys all.1)

further : (x z : Line) (ys : List Line) → line_cmp x z ≡ Less → Every (λ l. line_cmp l x ≡ Less) ys
    → Every (λ l. line_cmp l z ≡ Less) ys
further x z [] less all = tt
further x z (y ∷ ys) less all = (lines_are_ordered.total.trans y x z all.0 less, further x z ys less all.1)

none-there : (x : Line) (xs ys : List Line) → IsBelowAll line_cmp x xs → Every (λ l. line_cmp l x ≡ Less) ys
    → Every (λ z. has_line ys z ≡ false) xs
none-there x [] ys low all = tt
none-there x (z ∷ zs) ys low all = (absent-behind z ys (further x z ys low.0 all), none-there x zs ys low.1 all)

pub without-behind : (first : Line) (xs ys : List Line) → IsAscending xs → Some first ≡ slice_get xs 0
    → Every (λ l. line_cmp l first ≡ Less) ys → without xs ys ≡ xs
without-behind first [] ys up at all = refl
without-behind first (x ∷ xs) ys up at all =
    let same : first ≡ x = cc in
    let low : Every (λ l. line_cmp l x ≡ Less) ys = subst (λ y. Every (λ l. line_cmp l y ≡ Less) ys) same all in
    stays (x ∷ xs) ys (absent-behind x ys low, none-there x xs ys up.0 low)

-- a line is among lines just where it is found there

pub has_in : (ys : List Line) (l : Line) → has_line ys l ≡ true → In l ys
has_in [] l h = absurd (let never : ⊥ = cc in never)
has_in (y ∷ ys) l h = by (line_cmp y l) refl h (has_in ys l)
  where
    by : (o : Ordering) → line_cmp y l ≡ o → (is_eq o || has_line ys l) ≡ true → (has_line ys l ≡ true → In l ys)
        → In l (y ∷ ys)
    by Equal e h rest = inl (sym (lines_are_ordered.apart y l e))
    by Less e h rest = inr (rest h)
    by Greater e h rest = inr (rest h)

pub in_has : (ys : List Line) (l : Line) → In l ys → has_line ys l ≡ true
in_has [] l h = absurd h
in_has (y ∷ ys) l h = by (line_cmp y l) refl h (in_has ys l)
  where
    by : (o : Ordering) → line_cmp y l ≡ o → In l (y ∷ ys) → (In l ys → has_line ys l ≡ true)
        → (is_eq o || has_line ys l) ≡ true
    by Equal e h rest = refl
    by Less e (inl same) rest =
        absurd (let t : line_cmp y l ≡ Equal =
        subst (λ (x : Line). line_cmp x l ≡ Equal) same (tied_itself lines_are_ordered.total l) in
        let never : ⊥ = cc (t, e) in never)
    by Less e (inr h) rest = rest h
    by Greater e (inl same) rest =
        absurd (let t : line_cmp y l ≡ Equal =
        subst (λ (x : Line). line_cmp x l ≡ Equal) same (tied_itself lines_are_ordered.total l) in
        let never : ⊥ = cc (t, e) in never)
    by Greater e (inr h) rest = rest h

-- a line is lacked, or had; what is lacked isn't had

pub in_without : (xs ys : List Line) (l : Line) → In l xs → In l (without xs ys) ⊎ In l ys
in_without xs ys l h = by (has_line ys l) refl
  where
    by : (b : Bool) → has_line ys l ≡ b → In l (without xs ys) ⊎ In l ys
    by true e = inr (has_in ys l e)
    by false e = inl (In-filter (λ x. not (has_line ys x)) l xs h (ap not e))

pub lacked : (xs ys : List Line) (l : Line) → In l (without xs ys) → In l ys → ⊥
lacked xs ys l h i =
    let a : not (has_line ys l) ≡ true = In-passes (λ x. not (has_line ys x)) l xs h in
    let b : has_line ys l ≡ true = in_has ys l i in
    let never : ⊥ = cc (a, b) in never

pub in_lacked : (l : Line) (xs ys : List Line) → In l (without xs ys) → In l xs
in_lacked l xs ys h = In-unfiltered (λ x. not (has_line ys x)) l xs h

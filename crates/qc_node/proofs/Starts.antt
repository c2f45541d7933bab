-- Disks are handed out to the actors of a run one by one, or the rack refuses one.
use Rattle.std.proofs.Common.{◌≡◌, ℕ, ◌+◌, ◌<◌, ◌≤◌, ◌==◌, zero, suc, Bool, true, false, List, [], ◌∷◌, ◌++◌, length}
use Rattle.std.proofs.Common.{Option, Some, None, Ok, Err, refl, sym, ap, ◌∙◌, subst, arith}
use Rattle.std.specs.Prelude.{IfSome, IsSome, is_some, slice_get}
use Rattle.std.proofs.lemmas.Bool.{eqb-false, eqb-true}
use Rattle.std.proofs.lemmas.List.Elements.{All-head, All-push, All-rest, All-same}
use Rattle.qc_decl.specs.Vocabulary.{controller}
use Rattle.qc_decl.specs.declared.declaration.Declaration.{Declaration}
use Rattle.qc_outside.specs.Vocabulary.{HoldsNoByte, IsHandedOut, IsPutBack, IsSameAtAll, NamesActor, Place, Places}
use Rattle.qc_outside.specs.Vocabulary.{RackRose, Told, settled}
use Rattle.qc_outside.specs.declared.rack.RackFault.{RackFault}
use Rattle.qc_outside.specs.declared.rack.RackFault.TheVariants.{Failed, NotEmpty, OutOfMemory}
use Rattle.qc_process.specs.Vocabulary.{IsProcess, IsUp, ProcessView}
use Rattle.laws_bounds.specs.Vocabulary.{AreHandedOut, place_of}
use Rattle.laws_bounds.proofs.BackPlaces.{handed_more}
use Rattle.qc_node.specs.Vocabulary.{AreEmpty, AreHandedBelow, AreProcesses, AreStarted, AreUnwritten, AreUp, BothTell}
use Rattle.qc_node.specs.Vocabulary.{IsHandedBelow, IsRefused, IsStarted, IsUnstarted, IsUnwritten}

-- who tells its places still does

pub put_tells : (old new : Option Places) (here : Place) (told : Option Told) → IsPutBack old here told new
    → is_some new ≡ is_some old
put_tells None None here told put = refl
put_tells None (Some new) here told put = absurd put
put_tells (Some old) None here told put = absurd put
put_tells (Some old) (Some new) here told put = refl

pub started_tells : (folder : Option (List ℕ)) (n : ℕ) (old new : Option Places) → IsHandedBelow folder n old new
    → is_some new ≡ is_some old
started_tells folder n None None handed = refl
started_tells folder n None (Some new) handed = absurd handed
started_tells folder n (Some old) None handed = absurd handed
started_tells folder n (Some old) (Some new) handed = refl

-- none, and one more

none_handed : (folder : Option (List ℕ)) (old : Option Places) → IsHandedBelow folder 0 old old
none_handed folder None = tt
none_handed folder (Some old) = record {
  empty = λ a low. absurd (omega (arith, low));
  handed = λ a low. absurd (omega (arith, low));
  same = λ a high. refl;
}

pub none_started : (folder : Option (List ℕ)) (old : Option Places) (before : ℕ)
    → AreStarted folder 0 old before old before
none_started folder old before = record { places = none_handed folder old; later = omega arith }

pub other_place : (folder : Option (List ℕ)) (a b : ℕ) → (a ≡ b → ⊥) → place_of folder a ≡ place_of folder b → ⊥
other_place folder a b other same = other (ap (λ (p : Place). p.actor) same)

module _ (folder : Option (List ℕ)) (n : ℕ) (old mid new : Places) (was : AreHandedBelow folder n old mid)
    (here : IsHandedOut {T = Unit {0}} (Some mid) (place_of folder n) (Ok tt) (Some new)) where
  empty_at : (a : ℕ) → a < n + 1 → (c : Bool) → (n == a) ≡ c → HoldsNoByte (old (place_of folder a))
  empty_at a low true this =
      subst (λ (k : ℕ). HoldsNoByte (old (place_of folder k))) (eqb-true n a this)
      (subst HoldsNoByte (was.same n (omega arith)) here.0)
  empty_at a low false other =
      let apart : n ≡ a → ⊥ = eqb-false n a other in was.empty a (omega (arith, low, apart))

  more_handed : AreHandedOut folder (suc n) new
  more_handed = handed_more {T = Unit {0}} folder n (Some mid) (Some new) tt here was.handed

  one_more_at : AreHandedBelow folder (n + 1) old new
  one_more_at = record {
    empty = λ a low. empty_at a low (n == a) refl;
    handed = λ a low. more_handed a (omega (arith, low));
    same = λ a high.
        here.2 (place_of folder a) (other_place folder a n (λ same. omega (arith, high, same)))
        ∙ was.same a (omega (arith, high));
  }

one_more_handed : (folder : Option (List ℕ)) (n : ℕ) (old mid new : Option Places) → IsHandedBelow folder n old mid
    → IsHandedOut {T = Unit {0}} mid (place_of folder n) (Ok tt) new → IsHandedBelow folder (n + 1) old new
one_more_handed folder n None None None was here = tt
one_more_handed folder n None None (Some new) was here = absurd here
one_more_handed folder n None (Some mid) new was here = absurd was
one_more_handed folder n (Some old) None new was here = absurd was
one_more_handed folder n (Some old) (Some mid) None was here = absurd here
one_more_handed folder n (Some old) (Some mid) (Some new) was here = one_more_at folder n old mid new was here

pub one_more_started : (folder : Option (List ℕ)) (n : ℕ) (old mid new : Option Places) (before then now : ℕ)
    → AreStarted folder n old before mid then → IsStarted folder n mid then new now
    → AreStarted folder (n + 1) old before new now
one_more_started folder n old mid new before then now was one = record {
  places = one_more_handed folder n old mid new was.places one.handed;
  later = omega (arith, was.later, one.later);
}

-- a rack handed a disk out

handed_to : {T : Type 0} (old new : Option Places) (here : Place) (disk : T)
    → IsHandedOut {T = T} old here (Ok disk) new → IsHandedOut {T = Unit {0}} old here (Ok tt) new
handed_to None None here disk handed = tt
handed_to None (Some new) here disk handed = absurd handed
handed_to (Some old) None here disk handed = absurd handed
handed_to (Some old) (Some new) here disk handed = handed

pub one_started : {T : Type 0} (folder : Option (List ℕ)) (a : ℕ) (old new : Option Places) (before now : ℕ) (disk : T)
    → IsHandedOut {T = T} old (place_of folder a) (Ok disk) new → RackRose {T = T} before now (Ok disk)
    → IsStarted folder a old before new now
one_started folder a old new before now disk handed rose =
    record { handed = handed_to old new (place_of folder a) disk handed; later = rose.later }

-- or refused it

refused_at : {T : Type 0} (folder : Option (List ℕ)) (a : ℕ) (old new : Option Places) (before now : ℕ)
    (fault : RackFault) → IsHandedOut {T = T} old (place_of folder a) (Err fault) new → NamesActor a fault
    → RackRose {T = T} before now (Err fault) → IsRefused folder old before now fault
refused_at folder a None new before now (NotEmpty named) handed names rose = tt
refused_at folder a (Some old) None before now (NotEmpty named) handed names rose = absurd handed
refused_at folder a (Some old) (Some new) before now (NotEmpty named) handed names rose =
    subst (λ (k : ℕ). HoldsNoByte (old (place_of folder k)) → ⊥) (sym names) handed.0
refused_at folder a old new before now (Failed named) handed names rose = rose.failed named refl
refused_at folder a old new before now OutOfMemory handed names rose = tt

refused_places : (T : Type 0) (here : Place) (old new : Option Places) (fault : RackFault)
    → IsHandedOut {T = T} old here (Err fault) new → BothTell old new IsSameAtAll
refused_places T here None None fault handed = tt
refused_places T here None (Some new) fault handed = absurd handed
refused_places T here (Some old) None fault handed = absurd handed
refused_places T here (Some old) (Some new) (NotEmpty named) handed = handed.1
refused_places T here (Some old) (Some new) (Failed named) handed = handed
refused_places T here (Some old) (Some new) OutOfMemory handed = handed

pub rack_refused : {T : Type 0} (folder : Option (List ℕ)) (a : ℕ) (old new : Option Places) (before now : ℕ)
    (fault : RackFault) → IsHandedOut {T = T} old (place_of folder a) (Err fault) new → NamesActor a fault
    → RackRose {T = T} before now (Err fault) → IsUnstarted folder a old before new now fault
rack_refused {T} folder a old new before now fault handed names rose = record {
  why = refused_at {T = T} folder a old new before now fault handed names rose;
  named = names;
  later = rose.later;
  places = refused_places T (place_of folder a) old new fault handed;
}

-- all were handed out

pub empty_before : (folder : Option (List ℕ)) (decl : Declaration) (old new : Option Places)
    → IsHandedBelow folder (controller decl) old new → AreEmpty folder decl old
empty_before folder decl None new handed = tt
empty_before folder decl (Some old) None handed = absurd handed
empty_before folder decl (Some old) (Some new) handed = handed.empty

pub all_handed : (folder : Option (List ℕ)) (n : ℕ) (old new : Option Places) → IsHandedBelow folder n old new
    → IfSome new (AreHandedOut folder n)
all_handed folder n old None handed = tt
all_handed folder n None (Some new) handed = absurd handed
all_handed folder n (Some old) (Some new) handed = handed.handed

pub fewer_handed : (folder : Option (List ℕ)) (m n : ℕ) (places : Option Places) → m ≤ n
    → IfSome places (AreHandedOut folder n) → IfSome places (AreHandedOut folder m)
fewer_handed folder m n None few handed = tt
fewer_handed folder m n (Some places) few handed = λ a low. handed a (omega (arith, low, few))

-- a disk that was just handed out is unwritten

pub just_handed : (was now : Bool) (told : Option Told) (count : ℕ) → now ≡ was → (now ≡ true → IsSome told)
    → ((t : Told) → told ≡ Some t → t.now ≡ settled []) → count ≡ 0 → IsUnwritten was told count
just_handed was now told count same tells empty fresh =
    record { still = λ is. tells (same ∙ is); empty = empty; fresh = fresh }

-- unwritten disks: one more; the first, and the others
module _ {D : Type 0} (tells : Bool) (told : D → Option Told) (count : D → ℕ) where
  pub more_unwritten : (xs all : List D) (x : D) → all ≡ xs ++ x ∷ [] → AreUnwritten tells told count xs
      → IsUnwritten tells (told x) (count x) → AreUnwritten tells told count all
  more_unwritten xs all x split each here =
      All-same (λ d. IsUnwritten tells (told d) (count d)) all (xs ++ x ∷ []) split
      (All-push (λ d. IsUnwritten tells (told d) (count d)) xs x each here)

  pub first_unwritten : (xs rest : List D) (x : D) → xs ≡ x ∷ rest → AreUnwritten tells told count xs
      → IsUnwritten tells (told x) (count x)
  first_unwritten xs rest x split each =
      All-head (λ d. IsUnwritten tells (told d) (count d)) x rest
      (All-same (λ d. IsUnwritten tells (told d) (count d)) (x ∷ rest) xs (sym split) each)

  pub rest_unwritten : (xs rest : List D) (x : D) → xs ≡ x ∷ rest → AreUnwritten tells told count xs
      → AreUnwritten tells told count rest
  rest_unwritten xs rest x split each =
      All-rest (λ d. IsUnwritten tells (told d) (count d)) x rest xs split each

  pub still_unwritten : (now : Bool) (xs : List D) → now ≡ tells → AreUnwritten tells told count xs
      → AreUnwritten now told count xs
  still_unwritten now xs same each = subst (λ (b : Bool). AreUnwritten b told count xs) (sym same) each

  pub same_unwritten : (xs ys : List D) → ys ≡ xs → AreUnwritten tells told count xs → AreUnwritten tells told count ys
  same_unwritten xs ys same each = subst (AreUnwritten tells told count) (sym same) each

-- one more in a list, by places

module _ {A : Type 0} (P : ℕ → A → Type 0) where
  more_at : (n : ℕ) (xs : List A) (x : A) (a : ℕ) (y : A) → ((k : ℕ) (z : A) → slice_get xs k ≡ Some z → P (n + k) z)
      → P (n + length xs) x → slice_get (xs ++ x ∷ []) a ≡ Some y → P (n + a) y
  more_at n [] x zero y each here is = let same : x ≡ y = cc is in subst (P (n + 0)) same here
  more_at n [] x (suc a) y each here is = absurd (cc is)
  more_at n (z ∷ xs) x zero y each here is = each 0 y is
  more_at n (z ∷ xs) x (suc a) y each here is =
      let last : n + length (z ∷ xs) ≡ suc n + length xs = omega arith in
      let place : suc n + a ≡ n + suc a = omega arith in
      subst (λ (k : ℕ). P k y) place
      (more_at (suc n) xs x a y
      (λ k w there.
      let further : n + suc k ≡ suc n + k = omega arith in
      subst (λ (i : ℕ). P i w) further (each (suc k) w there))
      (subst (λ (k : ℕ). P k x) last here) is)

  one_more : (xs : List A) (x : A) (n : ℕ) → length xs ≡ n → ((a : ℕ) (y : A) → slice_get xs a ≡ Some y → P a y)
      → P n x → (a : ℕ) (y : A) → slice_get (xs ++ x ∷ []) a ≡ Some y → P a y
  one_more xs x n count each here a y is =
      let from : (k : ℕ) → 0 + k ≡ k = λ k. omega arith in
      subst (λ (k : ℕ). P k y) (from a)
      (more_at 0 xs x a y (λ k z there. subst (λ (i : ℕ). P i z) (sym (from k)) (each k z there))
      (subst (λ (k : ℕ). P k x) (sym count ∙ sym (from (length xs))) here) is)

-- none, and one process more

pub none_each : {A : Type 0} (P : ℕ → A → Type 0) (xs : List A) → xs ≡ [] → (a : ℕ) (y : A) → slice_get xs a ≡ Some y
    → P a y
none_each P [] none a y is = absurd (cc is)
none_each P (x ∷ xs) none a y is = absurd (cc none)

pub more_processes : (tells : Bool) (decl : Declaration) (ps : List ProcessView) (p : ProcessView) (n : ℕ)
    → length ps ≡ n → AreProcesses tells decl ps → IsProcess tells decl n [] p → AreProcesses tells decl (ps ++ p ∷ [])
more_processes tells decl ps p n count each here =
    one_more (λ (a : ℕ) (x : ProcessView). IsProcess tells decl a [] x) ps p n count each here

pub more_up : (ps : List ProcessView) (p : ProcessView) → AreUp ps → IsUp p.store → AreUp (ps ++ p ∷ [])
more_up ps p each here = one_more (λ (a : ℕ) (x : ProcessView). IsUp x.store) ps p (length ps) refl each here

-- Places of disks that come back one by one hold what these held.
use Rattle.std.proofs.Common.{◌≡◌, ℕ, suc, ◌<◌, ◌≤◌, ◌==◌, Bool, true, false, List, [], map, Option, Some, None, refl}
use Rattle.std.proofs.Common.{sym, ap, ◌∙◌, subst, arith, Ok}
use Rattle.std.specs.Prelude.{IfSome, IsSome, option_map}
use Rattle.std.proofs.lemmas.Bool.{eqb-false, eqb-true}
use Rattle.qc_decl.specs.Vocabulary.{controller}
use Rattle.qc_decl.specs.declared.declaration.Declaration.{Declaration}
use Rattle.qc_msg.specs.Vocabulary.{Entry, own}
use Rattle.qc_outside.specs.Vocabulary.{IsHandedOut, IsPutBack, IsSameElsewhere, Place, Places, Told, as_read}
use Rattle.qc_outside.specs.Vocabulary.{held_after}
use Rattle.qc_outside.proofs.Kept.{read_is_image}
use Rattle.qc_promise.specs.Vocabulary.{journal_of}
use Rattle.qc_record.specs.Vocabulary.{spelled}
use Rattle.laws_bounds.specs.Vocabulary.{AreBackSoFar, AreHandedOut, HoldJournals, HoldsJournal, JournalIsOn}
use Rattle.laws_bounds.specs.Vocabulary.{PlaceHolds, nobody, place_of, with_visit}
use Rattle.laws_bounds.proofs.Counted.{visit_other}
use Rattle.qc_store.specs.Vocabulary.{DiskHolds, HoldsBodies}

-- what a place holds after a disk came back to it

holds_then : (was : Option (List ℕ)) (bodies : List (List ℕ)) (pending : Option (List ℕ)) (bytes : List ℕ) → IsSome was
    → HoldsBodies bodies pending bytes → PlaceHolds bodies pending (held_after was bytes)
holds_then None bodies pending bytes handed holds = absurd (let never : ⊥ = cc in never)
holds_then (Some held) bodies pending bytes handed holds = holds

pub here_holds : (old new : Places) (here : Place) (told : Option Told) (bodies : List (List ℕ))
    (pending : Option (List ℕ)) → IsPutBack (Some old) here told (Some new) → IsSome (old here) → IsSome told
    → DiskHolds told bodies pending → PlaceHolds bodies pending (new here)
here_holds old new here None bodies pending put handed tells holds = absurd (let never : ⊥ = cc in never)
here_holds old new here (Some t) bodies pending put handed tells holds =
    subst (PlaceHolds bodies pending) (sym put.0)
    (holds_then (old here) bodies pending (as_read t.now) handed (holds (as_read t.now) (read_is_image t.now)))

some_then : (was : Option (List ℕ)) (bytes : List ℕ) → IsSome was → IsSome (held_after was bytes)
some_then None bytes handed = absurd (let never : ⊥ = cc in never)
some_then (Some held) bytes handed = refl

pub still_handed : (old new : Places) (here : Place) (told : Option Told) → IsPutBack (Some old) here told (Some new)
    → IsSome (old here) → IsSome told → IsSome (new here)
still_handed old new here None put handed tells = absurd (let never : ⊥ = cc in never)
still_handed old new here (Some t) put handed tells =
    subst (λ (o : Option (List ℕ)). IsSome o) (sym put.0) (some_then (old here) (as_read t.now) handed)

pub elsewhere : (old new : Places) (here : Place) (told : Option Told) → IsPutBack (Some old) here told (Some new)
    → IsSameElsewhere here old new
elsewhere old new here None put = put
elsewhere old new here (Some t) put = put.1

pub still_tells : (old new : Option Places) (here : Place) (told : Option Told) → IsPutBack old here told new
    → IsSome old → IsSome new
still_tells None new here told put tells = absurd (let never : ⊥ = cc in never)
still_tells (Some old) None here told put tells = absurd put
still_tells (Some old) (Some new) here told put tells = refl

pub told_before : (old new : Option Places) (here : Place) (told : Option Told) → IsPutBack old here told new
    → IsSome new → IsSome old
told_before old None here told put tells = absurd (let never : ⊥ = cc in never)
told_before None (Some new) here told put tells = absurd put
told_before (Some old) (Some new) here told put tells = refl

-- the places of actors

others_place : (folder : Option (List ℕ)) (a b : ℕ) → (a == b) ≡ false → place_of folder b ≡ place_of folder a → ⊥
others_place folder a b other same = eqb-false a b other (sym (ap (λ (p : Place). p.actor) same))

-- one disk more is handed out

handed_here : (o : Option (List ℕ)) (bytes : List ℕ) → o ≡ Some bytes → IsSome o
handed_here None bytes is = absurd (let never : ⊥ = cc in never)
handed_here (Some held) bytes is = refl

module _ (folder : Option (List ℕ)) (k : ℕ) (old new : Places) (here : new (place_of folder k) ≡ Some [])
    (others : IsSameElsewhere (place_of folder k) old new)
    (so_far : AreHandedOut folder k old) where
  one_handed : AreHandedOut folder (suc k) new
  one_handed a low = by (k == a) refl
    where
      by : (c : Bool) → (k == a) ≡ c → IsSome (new (place_of folder a))
      by true this =
          subst (λ (b : ℕ). IsSome (new (place_of folder b))) (eqb-true k a this)
          (handed_here (new (place_of folder k)) [] here)
      by false other =
          let apart : k ≡ a → ⊥ = eqb-false k a other in
          subst (λ (o : Option (List ℕ)). IsSome o) (sym (others (place_of folder a) (others_place folder k a other)))
          (so_far a (omega (arith, low, apart)))

pub handed_more : {T : Type 0} (folder : Option (List ℕ)) (k : ℕ) (old new : Option Places) (disk : T)
    → IsHandedOut {T = T} old (place_of folder k) (Ok disk) new → IfSome old (AreHandedOut folder k)
    → IfSome new (AreHandedOut folder (suc k))
handed_more folder k old None disk handed so_far = tt
handed_more folder k None (Some new) disk handed so_far = absurd handed
handed_more folder k (Some old) (Some new) disk handed so_far = one_handed folder k old new handed.1 handed.2 so_far

-- disks come back

pub none_back : (folder : Option (List ℕ)) (n : ℕ) (h : List Entry) (places : Option Places)
    → IfSome places (AreHandedOut folder n)
    → IfSome places (AreBackSoFar folder n h nobody)
none_back folder n h None handed = tt
none_back folder n h (Some places) handed =
    record { handed = handed; back = λ a is. absurd (let never : false ≡ true = is in let no : ⊥ = cc in no) }

module _ (folder : Option (List ℕ)) (n a : ℕ) (h : List Entry) (visited : ℕ → Bool) (old new : Places)
    (told : Option Told) (low : a < n)
    (put : IsPutBack (Some old) (place_of folder a) told (Some new)) (on : JournalIsOn (journal_of (own a h)) told)
    (so_far : AreBackSoFar folder n h visited old) where
  same_there : (b : ℕ) → (a == b) ≡ false → new (place_of folder b) ≡ old (place_of folder b)
  same_there b other = elsewhere old new (place_of folder a) told put (place_of folder b)
      (others_place folder a b other)

  handed_at : (b : ℕ) → b < n → (c : Bool) → (a == b) ≡ c → IsSome (new (place_of folder b))
  handed_at b less true this =
      subst (λ (k : ℕ). IsSome (new (place_of folder k))) (eqb-true a b this)
      (still_handed old new (place_of folder a) told put (so_far.handed a low) on.tells)
  handed_at b less false other =
      subst (λ (o : Option (List ℕ)). IsSome o) (sym (same_there b other)) (so_far.handed b less)

  back_at : (b : ℕ) → with_visit visited a b ≡ true → (c : Bool) → (a == b) ≡ c
      → HoldsJournal (journal_of (own b h)) (new (place_of folder b))
  back_at b is true this =
      subst (λ (k : ℕ). HoldsJournal (journal_of (own k h)) (new (place_of folder k))) (eqb-true a b this)
      (here_holds old new (place_of folder a) told (map spelled (journal_of (own a h)).records)
      (option_map spelled (journal_of (own a h)).pending) put (so_far.handed a low) on.tells on.holds)
  back_at b is false other =
      subst (HoldsJournal (journal_of (own b h))) (sym (same_there b other))
      (so_far.back b (sym (visit_other a b visited other) ∙ is))

  one_back_at : AreBackSoFar folder n h (with_visit visited a) new
  one_back_at =
      record { handed = λ b less. handed_at b less (a == b) refl; back = λ b is. back_at b is (a == b) refl }

pub one_back : (folder : Option (List ℕ)) (n a : ℕ) (h : List Entry) (visited : ℕ → Bool) (old new : Option Places)
    (told : Option Told) → a < n
    → IsPutBack old (place_of folder a) told new → (IsSome old → JournalIsOn (journal_of (own a h)) told)
    → IfSome old (AreBackSoFar folder n h visited) → IfSome new (AreBackSoFar folder n h (with_visit visited a))
one_back folder n a h visited old None told low put on so_far = tt
one_back folder n a h visited None (Some new) told low put on so_far = absurd put
one_back folder n a h visited (Some old) (Some new) told low put on so_far =
    one_back_at folder n a h visited old new told low put (on refl) so_far

pub all_back : (folder : Option (List ℕ)) (decl : Declaration) (n : ℕ) (h : List Entry) (visited : ℕ → Bool)
    (places : Option Places)
    → controller decl ≤ n → ((a : ℕ) → a < n → visited a ≡ true) → IfSome places (AreBackSoFar folder n h visited)
    → HoldJournals folder decl h places
all_back folder decl n h visited None few all so_far = tt
all_back folder decl n h visited (Some places) few all so_far = λ a low. so_far.back a (all a (omega (arith, low, few)))

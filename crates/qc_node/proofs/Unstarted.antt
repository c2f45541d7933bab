-- A start is given up, since the rack refused a disk; disks come back, with their journals begun.
use Rattle.std.proofs.Common.{◌≡◌, ◌⊎◌, ℕ, ◌+◌, ◌<◌, ◌≤◌, ◌==◌, Bool, true, false, List, [], ◌∷◌, ◌++◌, Option, Some}
use Rattle.std.proofs.Common.{None, refl, sym, ◌∙◌, subst, arith, inl, inr}
use Rattle.std.specs.Prelude.{IfSome, IsSome, is_some}
use Rattle.std.proofs.lemmas.Bool.{cases_lt, eqb-false, eqb-true}
use Rattle.qc_journal.specs.Vocabulary.{IsJournal}
use Rattle.qc_outside.specs.Vocabulary.{HoldsNoByte, IsKept, IsPutBack, IsSameAtAll, NamesActor, Place, Places, Told}
use Rattle.qc_outside.specs.Vocabulary.{as_read, held_after}
use Rattle.qc_outside.specs.declared.rack.RackFault.{RackFault}
use Rattle.qc_outside.specs.declared.rack.RackFault.TheVariants.{Failed, NotEmpty, OutOfMemory}
use Rattle.qc_outside.proofs.Kept.{read_is_image}
use Rattle.qc_promise.specs.Vocabulary.{no_journal}
use Rattle.laws_bounds.specs.Vocabulary.{AreHandedOut, HoldsJournal, place_of}
use Rattle.laws_bounds.proofs.BackPlaces.{elsewhere}
use Rattle.qc_store.specs.Vocabulary.{DiskHasJournal}
use Rattle.qc_node.specs.Vocabulary.{AreBackBelow, AreBackFrom, AreGivenBack, AreHandedBelow, AreStarted, AreUnstarted}
use Rattle.qc_node.specs.Vocabulary.{BothTell, HasBegun, IsBackFrom, IsGivenBack, IsHandedBelow, IsRefused, IsUnstarted}
use Rattle.qc_node.proofs.Starts.{other_place}

-- who tells its places still does
pub told_alike : (old new : Option Places) (P : Places → Places → Type 0) → BothTell old new P
    → is_some new ≡ is_some old
told_alike None None P both = refl
told_alike None (Some new) P both = absurd both
told_alike (Some old) None P both = absurd both
told_alike (Some old) (Some new) P both = refl

-- begun journals

pub begun_holds : (place : Option (List ℕ)) → HasBegun place → HoldsJournal no_journal place
begun_holds None begun = begun
begun_holds (Some bytes) begun = inl begun

some_byte : (front rest : List ℕ) → front ++ 0 ∷ rest ≡ [] → ⊥
some_byte [] rest is = cc is
some_byte (byte ∷ front) rest is = cc is

pub none_begun : (place : Option (List ℕ)) → HoldsNoByte place → HasBegun place → ⊥
none_begun None empty begun = begun
none_begun (Some bytes) empty begun = some_byte begun.front begun.rest (sym begun.closed ∙ empty)

begun_then : (was : Option (List ℕ)) (bytes : List ℕ) → IsSome was → IsJournal [] bytes
    → HasBegun (held_after was bytes)
begun_then None bytes handed journal = absurd (let never : ⊥ = cc in never)
begun_then (Some held) bytes handed journal = journal

here_begun : (old new : Places) (here : Place) (told : Option Told) → IsPutBack (Some old) here told (Some new)
    → IsSome (old here) → IsSome told → DiskHasJournal told [] → HasBegun (new here)
here_begun old new here None put handed tells has = absurd (let never : ⊥ = cc in never)
here_begun old new here (Some t) put handed tells has =
    subst HasBegun (sym put.0)
    (begun_then (old here) (as_read t.now) handed (has (as_read t.now) (read_is_image t.now)))

-- disks come back: none at first, and then one more

none_back_at : (folder : Option (List ℕ)) (old : Option Places) → BothTell old old (AreBackBelow folder 0)
none_back_at folder None = tt
none_back_at folder (Some old) = record { begun = λ a low. absurd (omega (arith, low)); same = λ a high. refl }

pub none_back : (folder : Option (List ℕ)) (old : Option Places) (before : ℕ)
    → IsGivenBack folder 0 old before old before
none_back folder old before = record { later = omega arith; places = none_back_at folder old }

module _ (folder : Option (List ℕ)) (n : ℕ) (old mid new : Places) (told : Option Told)
    (was : AreBackBelow folder n old mid) (put : IsPutBack (Some mid) (place_of folder n) told (Some new))
    (handed : IsSome (old (place_of folder n))) (tells : IsSome told) (has : DiskHasJournal told []) where
  still_handed : IsSome (mid (place_of folder n))
  still_handed = subst (λ (o : Option (List ℕ)). IsSome o) (sym (was.same n (omega arith))) handed

  same_there : (a : ℕ) → (a ≡ n → ⊥) → new (place_of folder a) ≡ mid (place_of folder a)
  same_there a other = elsewhere mid new (place_of folder n) told put (place_of folder a) (other_place folder a n other)

  begun_at : (a : ℕ) → a < n + 1 → (c : Bool) → (n == a) ≡ c → HasBegun (new (place_of folder a))
  begun_at a low true this =
      subst (λ (k : ℕ). HasBegun (new (place_of folder k))) (eqb-true n a this)
      (here_begun mid new (place_of folder n) told put still_handed tells has)
  begun_at a low false other =
      let apart : n ≡ a → ⊥ = eqb-false n a other in
      subst HasBegun (sym (same_there a (λ same. apart (sym same)))) (was.begun a (omega (arith, low, apart)))

  one_more_at : AreBackBelow folder (n + 1) old new
  one_more_at = record {
    begun = λ a low. begun_at a low (n == a) refl;
    same = λ a high. same_there a (λ same. omega (arith, high, same)) ∙ was.same a (omega (arith, high));
  }

one_more_places : (folder : Option (List ℕ)) (n : ℕ) (old mid new : Option Places) (told : Option Told)
    → BothTell old mid (AreBackBelow folder n) → IsPutBack mid (place_of folder n) told new
    → IfSome old (λ places. IsSome (places (place_of folder n)))
    → (IsSome old → IsSome told) → DiskHasJournal told [] → BothTell old new (AreBackBelow folder (n + 1))
one_more_places folder n None None None told was put handed tells has = tt
one_more_places folder n None None (Some new) told was put handed tells has = absurd put
one_more_places folder n None (Some mid) new told was put handed tells has = absurd was
one_more_places folder n (Some old) None new told was put handed tells has = absurd was
one_more_places folder n (Some old) (Some mid) None told was put handed tells has = absurd put
one_more_places folder n (Some old) (Some mid) (Some new) told was put handed tells has =
    one_more_at folder n old mid new told was put handed (tells refl) has

pub one_more_back : (folder : Option (List ℕ)) (n : ℕ) (old mid new : Option Places) (before then now disk : ℕ)
    (told : Option Told) → IsGivenBack folder n old before mid then → IsPutBack mid (place_of folder n) told new
    → IsKept then disk now → IfSome old (λ places. IsSome (places (place_of folder n)))
    → (IsSome old → IsSome told) → DiskHasJournal told [] → IsGivenBack folder (n + 1) old before new now
one_more_back folder n old mid new before then now disk told was put kept handed tells has = record {
  later = omega (arith, was.later, kept.later);
  places = one_more_places folder n old mid new told was.places put handed tells has;
}

pub handed_at : (folder : Option (List ℕ)) (n a : ℕ) (old : Option Places) → a < n → IfSome old (AreHandedOut folder n)
    → IfSome old (λ places. IsSome (places (place_of folder a)))
handed_at folder n a None low handed = tt
handed_at folder n a (Some old) low handed = handed a low

-- why none began

later_refused : (folder : Option (List ℕ)) (n : ℕ) (old mid : Option Places) (before then now : ℕ) (fault : RackFault)
    → IsHandedBelow folder n old mid → before ≤ then → NamesActor n fault → IsRefused folder mid then now fault
    → IsRefused folder old before now fault
later_refused folder n None mid before then now (NotEmpty named) was later names why = tt
later_refused folder n (Some old) None before then now (NotEmpty named) was later names why = absurd was
later_refused folder n (Some old) (Some mid) before then now (NotEmpty named) was later names why = λ none.
    why (subst HoldsNoByte (sym (was.same named (omega (arith, names)))) none)
later_refused folder n old mid before then now (Failed named) was later names why = omega (arith, why, later)
later_refused folder n old mid before then now OutOfMemory was later names why = tt

back_refused : (folder : Option (List ℕ)) (old : Option Places) (before then now : ℕ) (fault : RackFault) → then ≤ now
    → IsRefused folder old before then fault → IsRefused folder old before now fault
back_refused folder old before then now (NotEmpty named) later why = why
back_refused folder old before then now (Failed named) later why = omega (arith, why, later)
back_refused folder old before then now OutOfMemory later why = tt

-- disks were handed out for those below an actor, whose disk the rack refused, and they came back unwritten

module _ (folder : Option (List ℕ)) (n : ℕ) (old mid last new : Places) (was : AreHandedBelow folder n old mid)
    (un : IsSameAtAll mid last) (back : AreBackFrom folder 0 n last new) where
  same_above : (a : ℕ) → n ≤ a → new (place_of folder a) ≡ old (place_of folder a)
  same_above a high = back.behind a (omega (arith, high)) ∙ (un (place_of folder a) ∙ was.same a high)

  full_by : (a : ℕ) → (HoldsNoByte (old (place_of folder a)) → ⊥) → (a < n) ⊎ (n ≤ a)
      → new (place_of folder a) ≡ old (place_of folder a)
  full_by a full (inl low) = absurd (full (was.empty a low))
  full_by a full (inr high) = same_above a high

  empty_by : (a : ℕ) → HoldsNoByte (old (place_of folder a)) → (a < n) ⊎ (n ≤ a) → HoldsNoByte (new (place_of folder a))
  empty_by a none (inl low) = back.empty a (omega arith) (omega (arith, low))
  empty_by a none (inr high) = subst HoldsNoByte (sym (same_above a high)) none

  refused_back_at : (fault : RackFault) → NamesActor n fault → AreGivenBack folder fault old new
  refused_back_at fault names = record {
    actor = n;
    named = names;
    full = λ a full. full_by a full (cases_lt a n);
    empty = λ a other none. inl (empty_by a none (cases_lt a n));
    back = inl (λ a none. empty_by a none (cases_lt a n));
    unwritten = λ why a none. empty_by a none (cases_lt a n);
  }

refused_back : (folder : Option (List ℕ)) (n : ℕ) (old mid last new : Option Places) (fault : RackFault)
    → IsHandedBelow folder n old mid → BothTell mid last IsSameAtAll → BothTell last new (AreBackFrom folder 0 n)
    → NamesActor n fault → BothTell old new (AreGivenBack folder fault)
refused_back folder n None None None None fault was un back names = tt
refused_back folder n None None None (Some new) fault was un back names = absurd back
refused_back folder n None None (Some last) new fault was un back names = absurd un
refused_back folder n None (Some mid) last new fault was un back names = absurd was
refused_back folder n (Some old) None last new fault was un back names = absurd was
refused_back folder n (Some old) (Some mid) None new fault was un back names = absurd un
refused_back folder n (Some old) (Some mid) (Some last) None fault was un back names = absurd back
refused_back folder n (Some old) (Some mid) (Some last) (Some new) fault was un back names =
    refused_back_at folder n old mid last new was un back fault names

pub rack_gave_up : (folder : Option (List ℕ)) (n m : ℕ) (old mid last new : Option Places) (before then after now : ℕ)
    (fault : RackFault) → AreStarted folder n old before mid then → IsUnstarted folder n mid then last after fault
    → m ≡ n → IsBackFrom folder 0 m last after new now → AreUnstarted folder old before new now fault
rack_gave_up folder n m old mid last new before then after now fault was un count given =
    let back : IsBackFrom folder 0 n last after new now =
    subst (λ (k : ℕ). IsBackFrom folder 0 k last after new now) count given in
    let all : BothTell old new (AreGivenBack folder fault) =
    refused_back folder n old mid last new fault was.places un.places back.places un.named in
    record {
      why =
          back_refused folder old before after now fault back.later
          (later_refused folder n old mid before then after fault was.places was.later un.named un.why);
      later = omega (arith, was.later, un.later, back.later);
      tells = told_alike old new (AreGivenBack folder fault) all;
      back = all;
    }

-- nothing was handed out, since memory was wanting

pub nothing_back : (folder : Option (List ℕ)) (old : Option Places) → BothTell old old (AreGivenBack folder OutOfMemory)
nothing_back folder None = tt
nothing_back folder (Some old) = record {
  actor = 0;
  named = tt;
  full = λ a full. refl;
  empty = λ a other none. inl none;
  back = inl (λ a none. none);
  unwritten = λ why a none. none;
}

pub wanting_unstarted : (folder : Option (List ℕ)) (old : Option Places) (before : ℕ)
    → AreUnstarted folder old before old before OutOfMemory
wanting_unstarted folder old before =
    record { why = tt; later = omega arith; tells = refl; back = nothing_back folder old }

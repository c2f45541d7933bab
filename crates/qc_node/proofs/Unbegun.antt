-- A start is given up, since no journal was begun on one of the disks: all come back.
use Rattle.std.proofs.Common.{◌≡◌, ◌⊎◌, ℕ, ◌+◌, ◌<◌, ◌≤◌, List, [], Option, Some, None, refl, sym, ◌∙◌, subst, arith}
use Rattle.std.proofs.Common.{inl, inr}
use Rattle.std.specs.Prelude.{IsSome, is_some}
use Rattle.std.proofs.lemmas.Bool.{cases_lt, cases_order}
use Rattle.qc_outside.specs.Vocabulary.{HoldsNoByte, IsKept, IsPutBack, NamesActor, Places, Told, settled}
use Rattle.qc_outside.specs.declared.rack.RackFault.{RackFault}
use Rattle.qc_outside.specs.declared.rack.RackFault.TheVariants.{Failed, NotEmpty, OutOfMemory}
use Rattle.qc_process.specs.Vocabulary.{IsStartRefused}
use Rattle.laws_bounds.specs.Vocabulary.{place_of}
use Rattle.laws_bounds.proofs.BackPlaces.{elsewhere}
use Rattle.qc_node.specs.Vocabulary.{AreBackBelow, AreBackBut, AreBackFrom, AreGivenBack, AreHandedBelow, AreStarted}
use Rattle.qc_node.specs.Vocabulary.{AreUnbegun, AreUnstarted, BothTell, HasBegun, IsBackFrom, IsGivenBack}
use Rattle.qc_node.specs.Vocabulary.{IsHandedBelow, IsNotEmpty, IsRefused, IsUnbegun, IsUnwritten}
use Rattle.qc_node.proofs.Starts.{other_place}
use Rattle.qc_node.proofs.Unstarted.{told_alike}

-- why no journal was begun

start_names : (a : ℕ) (told : Option Told) (before now : ℕ) (fault : RackFault)
    → IsStartRefused a told before now fault → NamesActor a fault
start_names a told before now (NotEmpty named) refused = refused.0
start_names a told before now (Failed named) refused = refused.0
start_names a told before now OutOfMemory refused = tt

not_full : (told : Option Told) → IsSome told → ((t : Told) → told ≡ Some t → t.now ≡ settled [])
    → ((t : Told) → told ≡ Some t → t.now ≡ settled [] → ⊥) → ⊥
not_full None is empty full = cc
not_full (Some t) is empty full = full t refl (empty t refl)

-- its count began at 0, and came to the rack
unbegun_why : (a : ℕ) (old : Option Places) (told : Option Told) (before then after now count disk : ℕ)
    (fault : RackFault) → IsUnwritten (is_some old) told count → IsStartRefused a told count disk fault → before ≤ then
    → IsKept then disk after → after ≤ now → IsUnbegun old before now fault
unbegun_why a old told before then after now count disk (NotEmpty named) un refused earlier kept later = λ tells.
    not_full told (un.still tells) un.empty refused.1
unbegun_why a old told before then after now count disk (Failed named) un refused earlier kept later =
    omega (arith, refused.1, un.fresh, earlier, kept.added, kept.later, later)
unbegun_why a old told before then after now count disk OutOfMemory un refused earlier kept later = tt

-- the disks of those before that actor came back with their journals begun, then its own, then those behind it

module _ (folder : Option (List ℕ)) (a k : ℕ) (old mid last new : Places) (told : Option Told)
    (was : AreBackBelow folder a old mid) (put : IsPutBack (Some mid) (place_of folder a) told (Some last))
    (back : AreBackFrom folder (a + 1) k last new) where
  same_there : (b : ℕ) → (b ≡ a → ⊥) → last (place_of folder b) ≡ mid (place_of folder b)
  same_there b other =
      elsewhere mid last (place_of folder a) told put (place_of folder b) (other_place folder b a other)

  begun_still : (b : ℕ) → b < a → HasBegun (new (place_of folder b))
  begun_still b before =
      let same : new (place_of folder b) ≡ mid (place_of folder b) =
      back.before b (omega (arith, before)) ∙ same_there b (λ same. omega (arith, before, same)) in
      subst HasBegun (sym same) (was.begun b before)

  all_but_at : (n : ℕ) → a + 1 + k ≡ n → AreBackBut folder n a old new
  all_but_at n count = record {
    begun = begun_still;
    behind = λ b high low. back.empty b (omega (arith, high)) (omega (arith, low, count));
    same = λ b high.
        back.behind b (omega (arith, high, count))
        ∙ (same_there b (λ same. omega (arith, high, count, same)) ∙ was.same b (omega (arith, high, count)));
  }

all_but : (folder : Option (List ℕ)) (a k n : ℕ) (old mid last new : Option Places) (told : Option Told) → a + 1 + k ≡ n
    → BothTell old mid (AreBackBelow folder a) → IsPutBack mid (place_of folder a) told last
    → BothTell last new (AreBackFrom folder (a + 1) k) → BothTell old new (AreBackBut folder n a)
all_but folder a k n None None None None told count was put back = tt
all_but folder a k n None None None (Some new) told count was put back = absurd back
all_but folder a k n None None (Some last) new told count was put back = absurd put
all_but folder a k n None (Some mid) last new told count was put back = absurd was
all_but folder a k n (Some old) None last new told count was put back = absurd was
all_but folder a k n (Some old) (Some mid) None new told count was put back = absurd put
all_but folder a k n (Some old) (Some mid) (Some last) None told count was put back = absurd back
all_but folder a k n (Some old) (Some mid) (Some last) (Some new) told count was put back =
    all_but_at folder a k old mid last new told was put back n count

pub unbegun : (folder : Option (List ℕ)) (a m k n : ℕ) (old mid last new : Option Places) (first told : Option Told)
    (before then after now count disk : ℕ) (fault : RackFault) → m ≡ a → a + 1 + k ≡ n
    → IsUnwritten (is_some old) first count → IsStartRefused a first count disk fault
    → IsGivenBack folder m old before mid then → IsPutBack mid (place_of folder a) told last → IsKept then disk after
    → IsBackFrom folder (a + 1) k last after new now → AreUnbegun folder n old before new now fault
unbegun folder a m k n old mid last new first told before then after now count disk fault same all un refused given put
    kept back =
    let begun : IsGivenBack folder a old before mid then =
    subst (λ (i : ℕ). IsGivenBack folder i old before mid then) same given in
    record {
      actor = a;
      named = start_names a first count disk fault refused;
      why = unbegun_why a old first before then after now count disk fault un refused begun.later kept back.later;
      later = omega (arith, begun.later, kept.later, back.later);
      places = all_but folder a k n old mid last new told all begun.places put back.places;
    }

-- so no run begins

begun_refused : (folder : Option (List ℕ)) (n : ℕ) (old mid : Option Places) (before then now : ℕ) (fault : RackFault)
    → IsHandedBelow folder n old mid → before ≤ then → IsUnbegun mid then now fault
    → IsRefused folder old before now fault
begun_refused folder n None mid before then now (NotEmpty named) was later why = tt
begun_refused folder n (Some old) None before then now (NotEmpty named) was later why = absurd was
begun_refused folder n (Some old) (Some mid) before then now (NotEmpty named) was later why = absurd (why refl)
begun_refused folder n old mid before then now (Failed named) was later why = omega (arith, why, later)
begun_refused folder n old mid before then now OutOfMemory was later why = tt

was_empty : (mid : Places) (then now : ℕ) (fault : RackFault) → IsUnbegun (Some mid) then now fault
    → IsNotEmpty fault → ⊥
was_empty mid then now (NotEmpty named) why full = why refl
was_empty mid then now (Failed named) why full = full
was_empty mid then now OutOfMemory why full = full

module _ (folder : Option (List ℕ)) (n actor : ℕ) (old mid new : Places) (was : AreHandedBelow folder n old mid)
    (back : AreBackBut folder n actor mid new) where
  same_above : (a : ℕ) → n ≤ a → new (place_of folder a) ≡ old (place_of folder a)
  same_above a high = back.same a high ∙ was.same a high

  full_by : (a : ℕ) → (HoldsNoByte (old (place_of folder a)) → ⊥) → (a < n) ⊎ (n ≤ a)
      → new (place_of folder a) ≡ old (place_of folder a)
  full_by a full (inl low) = absurd (full (was.empty a low))
  full_by a full (inr high) = same_above a high

  back_by : (a : ℕ) → a < n → (a ≡ actor → ⊥) → (a ≡ actor) ⊎ ((a < actor) ⊎ (actor < a))
      → HoldsNoByte (new (place_of folder a)) ⊎ HasBegun (new (place_of folder a))
  back_by a low other (inl same) = absurd (other same)
  back_by a low other (inr (inl before)) = inr (back.begun a before)
  back_by a low other (inr (inr behind)) = inl (back.behind a behind low)

  empty_by : (a : ℕ) → (a ≡ actor → ⊥) → HoldsNoByte (old (place_of folder a)) → (a < n) ⊎ (n ≤ a)
      → HoldsNoByte (new (place_of folder a)) ⊎ HasBegun (new (place_of folder a))
  empty_by a other none (inl low) = back_by a low other (cases_order a actor)
  empty_by a other none (inr high) = inl (subst HoldsNoByte (sym (same_above a high)) none)

  begun_back_at : (fault : RackFault) → NamesActor actor fault → (IsNotEmpty fault → ⊥)
      → AreGivenBack folder fault old new
  begun_back_at fault names empty = record {
    actor = actor;
    named = names;
    full = λ a full. full_by a full (cases_lt a n);
    empty = λ a other none. empty_by a other none (cases_lt a n);
    back = inr back.begun;
    unwritten = λ full a none. absurd (empty full);
  }

begun_back : (folder : Option (List ℕ)) (n actor : ℕ) (old mid new : Option Places) (then now : ℕ) (fault : RackFault)
    → IsHandedBelow folder n old mid → BothTell mid new (AreBackBut folder n actor) → NamesActor actor fault
    → IsUnbegun mid then now fault → BothTell old new (AreGivenBack folder fault)
begun_back folder n actor None None None then now fault was back names why = tt
begun_back folder n actor None None (Some new) then now fault was back names why = absurd back
begun_back folder n actor None (Some mid) new then now fault was back names why = absurd was
begun_back folder n actor (Some old) None new then now fault was back names why = absurd was
begun_back folder n actor (Some old) (Some mid) None then now fault was back names why = absurd back
begun_back folder n actor (Some old) (Some mid) (Some new) then now fault was back names why =
    begun_back_at folder n actor old mid new was back fault names (was_empty mid then now fault why)

pub never_begun : (folder : Option (List ℕ)) (n : ℕ) (old mid new : Option Places) (before then now : ℕ)
    (fault : RackFault) → AreStarted folder n old before mid then → AreUnbegun folder n mid then new now fault
    → AreUnstarted folder old before new now fault
never_begun folder n old mid new before then now fault was un =
    let all : BothTell old new (AreGivenBack folder fault) =
    begun_back folder n un.actor old mid new then now fault was.places un.places un.named un.why in
    record {
      why = begun_refused folder n old mid before then now fault was.places was.later un.why;
      later = omega (arith, was.later, un.later);
      tells = told_alike old new (AreGivenBack folder fault) all;
      back = all;
    }

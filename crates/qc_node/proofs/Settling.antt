-- Disks go back to the rack one by one: none at first, then one more, and in the end all.
use Rattle.std.proofs.Common.{◌≡◌, ℕ, ◌+◌, ◌==◌, Bool, true, false, List, [], Option, Some, None, refl, sym, ap, ◌∙◌}
use Rattle.std.proofs.Common.{subst, arith, inl, inr}
use Rattle.std.specs.Prelude.{◌<◌, IfSome, is_some, slice_get, slice_set}
use Rattle.std.proofs.lemmas.Bool.{eqb-false, eqb-true}
use Rattle.qc_decl.specs.Vocabulary.{controller}
use Rattle.qc_decl.specs.declared.declaration.Declaration.{Declaration}
use Rattle.qc_fabric.specs.Vocabulary.{Sees}
use Rattle.qc_fabric.proofs.Fed.{get_else, get_here}
use Rattle.qc_msg.specs.Vocabulary.{Entry, own}
use Rattle.qc_msg.specs.declared.step.Step.{Step}
use Rattle.qc_outside.specs.Vocabulary.{IsKept, IsPutBack, Places, Told}
use Rattle.qc_pass.specs.declared.token.Pass.{Pass}
use Rattle.qc_pass.specs.Vocabulary.{number, seen}
use Rattle.qc_process.specs.Vocabulary.{Goes, IsOnDisk, IsStored, ProcessView}
use Rattle.qc_process.proofs.GivenUp.{on_disk_past_others, stored_past_others}
use Rattle.qc_promise.specs.Vocabulary.{DiskAccount, IsEverInTime, Journal, disk_account, journal_of}
use Rattle.laws_bounds.specs.Vocabulary.{AreHandedOut, AreKeptOrMisfits, JournalIsOn, nobody, place_of, with_visit}
use Rattle.laws_bounds.proofs.BackPlaces.{none_back, one_back}
use Rattle.laws_bounds.proofs.Counted.{each_visited, none_visited, one_visited, visit_other}
use Rattle.laws_bounds.proofs.Falls.{none_spent, one_spent}
use Rattle.qc_store.specs.Vocabulary.{IsCounted}
use Rattle.qc_node.specs.Vocabulary.{IsKnown, IsLeft, IsSettling}
use Rattle.qc_node.proofs.Misfits.{misfits_of}
use Rattle.qc_node.proofs.ServedStores.{saw_goes}
use Rattle.qc_node.proofs.Starts.{put_tells}
use Rattle.qc_list.proofs.Places.{place_within}

nobody_is : (a : ℕ) → nobody a ≡ true → ⊥
nobody_is a is = cc is

module _ (tells : Bool) (decl : Declaration) (h : List Entry) where
  pub settling_none : (folder : Option (List ℕ)) (rooms : List ℕ) (before : ℕ) (places : Option Places)
      → is_some places ≡ tells
      → IfSome places (AreHandedOut folder (controller decl))
      → IsSettling folder tells decl h rooms 0 before before places
  settling_none folder rooms before places told handed = record {
    visited = nobody;
    counted = none_visited (controller decl);
    roomed = λ a is. absurd (nobody_is a is);
    later = omega arith;
    spent = none_spent (controller decl) h before;
    in_time = λ a is. absurd (nobody_is a is);
    kept = λ on a is. absurd (nobody_is a is);
    told = told;
    back = none_back folder (controller decl) h places handed;
  }

  -- what is known of a process tells what its disk holds once it is handed over, when others went on

  module _ (a : ℕ) (seen : List Entry) (p : ProcessView) (goes : Goes a seen [] h) (told : Option Told) (count : ℕ)
      (stored : IsStored tells decl a h p.store → IsOnDisk tells decl a h told count)
      (left : p.store.journal ≡ None → IsOnDisk tells decl a h p.store.told p.store.fuse.unarmed
      → IsOnDisk tells decl a h told count) where
    left_on_disk : IsLeft tells decl a seen p.store → IsOnDisk tells decl a h told count
    left_on_disk (inl is) = stored (stored_past_others tells decl a seen h p.store goes is)
    left_on_disk (inr is) =
        left is.0 (on_disk_past_others tells decl a seen h p.store.told p.store.fuse.unarmed goes is.1)

    pub known_on_disk : (given_up : Bool) → IsKnown tells decl a seen given_up p → IsOnDisk tells decl a h told count
    known_on_disk true is = left_on_disk is
    known_on_disk false is = stored (stored_past_others tells decl a seen h p.store goes is.stored)

  -- a disk that is known to hold the journal of actor a, and to have counted its falls
  module _ (a : ℕ) (told : Option Told) (disk : ℕ) (on : IsOnDisk tells decl a h told disk) where
    counted : IsCounted (disk_account a h).unarmed disk
    counted = subst (λ (t : DiskAccount). IsCounted t.unarmed disk) (sym on.told_by.store.account_is) on.counted

    journal_on : tells ≡ true → JournalIsOn (journal_of (own a h)) told
    journal_on is =
        subst (λ (j : Journal). JournalIsOn j told) (sym on.told_by.store.journal_is)
        (record { tells = on.still is; holds = on.holds })

    none_and_one : (o : Option ℕ) → o ≡ Some 0 → o ≡ Some 1 → ⊥
    none_and_one None none one = cc none
    none_and_one (Some n) none one =
        let zero_is : n ≡ 0 = cc none in
        let one_is : n ≡ 1 = cc one in omega (arith, zero_is, one_is)

    new_at : (rooms : List ℕ) (visited : ℕ → Bool) → slice_get rooms a ≡ Some 0
        → ((b : ℕ) → visited b ≡ true → slice_get rooms b ≡ Some 1) → (c : Bool) → visited a ≡ c → visited a ≡ false
    new_at rooms visited none roomed true is = absurd (none_and_one (slice_get rooms a) none (roomed a is))
    new_at rooms visited none roomed false is = is

    module _ (folder : Option (List ℕ)) (low : a < controller decl) (rooms : List ℕ) (none : slice_get rooms a ≡ Some 0)
        (now then : ℕ)
        (added : IsKept now disk then) (old new : Option Places) (put : IsPutBack old (place_of folder a) told new)
        (count before : ℕ) (s : IsSettling folder tells decl h rooms count before now old) where
      fresh : s.visited a ≡ false
      fresh = new_at rooms s.visited none s.roomed (s.visited a) refl

      roomed_at : (b : ℕ) → with_visit s.visited a b ≡ true → (c : Bool) → (a == b) ≡ c
          → slice_get (slice_set rooms a 1) b ≡ Some 1
      roomed_at b is true this =
          subst (λ (k : ℕ). slice_get (slice_set rooms a 1) k ≡ Some 1) (eqb-true a b this)
          (get_here rooms a 1 (place_within rooms a 0 none))
      roomed_at b is false other =
          get_else rooms a b 1 (λ e. eqb-false a b other (sym e))
          ∙ s.roomed b (sym (visit_other a b s.visited other) ∙ is)

      pub settling_one : IsSettling folder tells decl h (slice_set rooms a 1) (count + 1) before then new
      settling_one = record {
        visited = with_visit s.visited a;
        counted = one_visited (controller decl) a s.visited low fresh ∙ ap (λ (n : ℕ). n + 1) s.counted;
        roomed = λ b is. roomed_at b is (a == b) refl;
        later = omega (arith, s.later, added.later);
        spent = one_spent (controller decl) a h s.visited before now disk then low fresh counted added s.spent;
        in_time = each_visited (λ (k : ℕ). IsEverInTime k h) s.visited a on.told_by.store.in_time s.in_time;
        kept = λ tell.
            each_visited (λ (k : ℕ). AreKeptOrMisfits decl k (own k h)) s.visited a
            (misfits_of decl a (own a h) (on.told_by.kept tell)) (s.kept tell);
        told = put_tells old new (place_of folder a) told put ∙ s.told;
        back =
            one_back folder (controller decl) a h s.visited old new told low put
            (λ some. journal_on (sym s.told ∙ some)) s.back;
      }

-- a pass was called, and a disk with the journal of its actor went back

module _ (tells : Bool) (decl : Declaration) (h now : List Entry) (rooms more_rooms : List ℕ) (p q : Pass Step)
    (same : now ≡ h) (saw : Sees p q) (seen_is : seen q ≡ now) (first : slice_get rooms (number p) ≡ Some 0)
    (called : more_rooms ≡ slice_set rooms (number p) 1) where
  pub goes_now : Goes (number p) (seen p) [] now
  goes_now = subst (Goes (number p) (seen p) []) seen_is (saw_goes p q saw)

  module _ (folder : Option (List ℕ)) (actor : ℕ) (actor_is : actor ≡ number q) (low : number p < controller decl)
      (told : Option Told)
      (disk : ℕ) (on : IsOnDisk tells decl (number p) now told disk) (faults after : ℕ)
      (kept : IsKept faults disk after)
      (old new : Option Places) (put : IsPutBack old (place_of folder actor) told new) where
    put_here : IsPutBack old (place_of folder (number p)) told new
    put_here = subst (λ (k : ℕ). IsPutBack old (place_of folder k) told new) (actor_is ∙ saw.pass.number_is) put

    pub called_one : (count before : ℕ) → IsSettling folder tells decl h rooms count before faults old
        → IsSettling folder tells decl now more_rooms (count + 1) before after new
    called_one count before s =
        subst (λ (l : List ℕ). IsSettling folder tells decl now l (count + 1) before after new) (sym called)
        (settling_one tells decl now (number p) told disk on folder low rooms first faults after kept old new put_here
        count
        before (subst (λ (l : List Entry). IsSettling folder tells decl l rooms count before faults old) (sym same) s))

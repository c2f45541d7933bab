-- What is known of an actor's store goes on with what others do, with its own steps, and with a fault that is armed.
use Rattle.std.proofs.Common.{◌≡◌, ℕ, ◌<◌, ◌≤◌, ◌==◌, Bool, true, false, List, [], ◌∷◌, ◌++◌, refl, sym, ◌∙◌, ap, subst}
use Rattle.std.proofs.Common.{append_assoc, append-nil, arith, if◌then◌else◌}
use Rattle.std.proofs.lemmas.List.Sums.{fold-append}
use Rattle.std.proofs.lemmas.Bool.{eq-eqb}
use Rattle.qc_msg.specs.Vocabulary.{Entry, by, marked, own}
use Rattle.qc_msg.specs.declared.step.Step.{Step}
use Rattle.qc_msg.specs.declared.step.Step.TheVariants as steps
use Rattle.qc_promise.specs.Vocabulary.{AreKept, AreStoreSteps, DiskAccount, DiskArm, IsInTime, IsKeptAt, IsKeptBy}
use Rattle.qc_promise.specs.Vocabulary.{IsOfOthers, IsStoreOf, Journal, arms_disk, disk_account, disk_account_after}
use Rattle.qc_promise.specs.Vocabulary.{disk_account_with, disk_armed, journal_after, journal_of, journal_with}
use Rattle.qc_promise.specs.Vocabulary.{no_calls, no_disk_account, no_journal}
use Rattle.qc_outside.specs.declared.disk.ArmKind.{ArmKind}
use Rattle.qc_spent.proofs.OwnRecords.{kept_more, own_mine, own_other}
use Rattle.qc_spent.proofs.Whole.{in_time_more}

-- one step more, for the disk's account

account_more : (a : ℕ) (h : List Entry) (e : Entry)
    → disk_account a (h ++ e ∷ []) ≡ disk_account_with a (disk_account a h) e.actor e.step
account_more a h e =
    fold-append (λ (t : DiskAccount) (x : Entry). disk_account_with a t x.actor x.step) no_disk_account h (e ∷ [])

other_account : (a e : ℕ) (t : DiskAccount) (s : Step) → (e == a) ≡ false → arms_disk a s ≡ false
    → disk_account_with a t e s ≡ t
other_account a e t (steps.Phase number) other none = refl
other_account a e t (steps.Cut x y) other none = refl
other_account a e t (steps.Heal x y) other none = refl
other_account a e t (steps.Armed b kind at) other none = ap (λ (c : Bool). if c then disk_armed t kind at else t) none
other_account a e t (steps.Called command) other none = refl
other_account a e t (steps.Got number) other none = refl
other_account a e t (steps.Lost number) other none = refl
other_account a e t (steps.Wrote written) other none = rw other refl
other_account a e t (steps.Sent number to message) other none = refl
other_account a e t (steps.Told reply) other none = refl
other_account a e t (steps.Fell cause pending) other none = rw other refl
other_account a e t (steps.Rose records) other none = rw other refl
other_account a e t (steps.Damaged offset) other none = rw other refl

kept_at : (before : List Step) (s : Step) → IsKeptBy (journal_of before) s → IsKeptAt before s
kept_at before (steps.Phase number) is = tt
kept_at before (steps.Cut x y) is = tt
kept_at before (steps.Heal x y) is = tt
kept_at before (steps.Armed b kind at) is = tt
kept_at before (steps.Called command) is = tt
kept_at before (steps.Got number) is = tt
kept_at before (steps.Lost number) is = tt
kept_at before (steps.Wrote written) is = tt
kept_at before (steps.Sent number to message) is = tt
kept_at before (steps.Told reply) is = tt
kept_at before (steps.Fell cause pending) is = tt
kept_at before (steps.Rose records) is = is
kept_at before (steps.Damaged offset) is = is

one_other : (tells : Bool) (a : ℕ) (h : List Entry) (e : Entry) (j : Journal) (t : DiskAccount) → (e.actor == a) ≡ false
    → arms_disk a e.step ≡ false → IsStoreOf tells a h j t → IsStoreOf tells a (h ++ e ∷ []) j t
one_other tells a h e j t other none is =
    let same : disk_account_with a (disk_account a h) e.actor e.step ≡ disk_account a h =
    other_account a e.actor (disk_account a h) e.step other none in
    record {
      journal_is = ap journal_of (own_other a h e other) ∙ is.journal_is;
      account_is = account_more a h e ∙ same ∙ is.account_is;
      kept = λ yes. subst AreKept (sym (own_other a h e other)) (is.kept yes);
      in_time = in_time_more a h e is.in_time (subst IsInTime (sym same) (is.in_time h [] (append-nil h)));
    }

one_mine : (tells : Bool) (a : ℕ) (h : List Entry) (s : Step) (j : Journal) (t : DiskAccount)
    → (tells ≡ true → IsKeptBy j s) → IsInTime (disk_account_with a t a s) → IsStoreOf tells a h j t
    → IsStoreOf tells a (h ++ marked a s ∷ []) (journal_with j s) (disk_account_with a t a s)
one_mine tells a h s j t keeps soon is =
    record {
      journal_is =
          ap journal_of (own_mine a h s)
          ∙ fold-append journal_with no_journal (own a h) (s ∷ [])
          ∙ ap (λ (k : Journal). journal_with k s) is.journal_is;
      account_is = account_more a h (marked a s) ∙ ap (λ (u : DiskAccount). disk_account_with a u a s) is.account_is;
      kept =
          λ yes. subst AreKept (sym (own_mine a h s))
          (kept_more (own a h) s (is.kept yes)
          (kept_at (own a h) s (subst (λ (k : Journal). IsKeptBy k s) (sym is.journal_is) (keeps yes))));
      in_time =
          in_time_more a h (marked a s) is.in_time
          (subst (λ (u : DiskAccount). IsInTime (disk_account_with a u a s)) (sym is.account_is) soon);
    }

pub others_on : (tells : Bool) (a : ℕ) (h more : List Entry) (j : Journal) (t : DiskAccount) → IsOfOthers a more
    → IsStoreOf tells a h j t → IsStoreOf tells a (h ++ more) j t
others_on tells a h [] j t none is = subst (λ (l : List Entry). IsStoreOf tells a l j t) (sym (append-nil h)) is
others_on tells a h (e ∷ more) j t none is =
    subst (λ (l : List Entry). IsStoreOf tells a l j t) (append_assoc h (e ∷ []) more)
    (others_on tells a (h ++ e ∷ []) more j t none.1 (one_other tells a h e j t none.0.0 none.0.1 is))

pub steps_on : (tells : Bool) (a : ℕ) (h : List Entry) (own : List Step) (j : Journal) (t : DiskAccount)
    → AreStoreSteps tells a j t own → IsStoreOf tells a h j t
    → IsStoreOf tells a (h ++ by a own) (journal_after j own) (disk_account_after a t own)
steps_on tells a h [] j t fine is = subst (λ (l : List Entry). IsStoreOf tells a l j t) (sym (append-nil h)) is
steps_on tells a h (s ∷ own) j t fine is =
    subst (λ (l : List Entry). IsStoreOf tells a l (journal_after (journal_with j s) own)
    (disk_account_after a (disk_account_with a t a s) own)) (append_assoc h (marked a s ∷ []) (by a own))
    (steps_on tells a (h ++ marked a s ∷ []) own (journal_with j s) (disk_account_with a t a s) fine.2
    (one_mine tells a h s j t fine.0 fine.1 is))

-- a fault is armed for the actor
pub arm_on : (tells : Bool) (a c : ℕ) (h : List Entry) (kind : ArmKind) (at : ℕ) (j : Journal) (t : DiskAccount)
    → (c == a) ≡ false → 1 ≤ at → IsStoreOf tells a h j t
    → IsStoreOf tells a (h ++ marked c (steps.Armed a kind at) ∷ []) j (disk_armed t kind at)
arm_on tells a c h kind at j t other some is =
    let e : Entry = marked c (steps.Armed a kind at) in
    let now : disk_account_with a (disk_account a h) c (steps.Armed a kind at) ≡ disk_armed (disk_account a h) kind at =
    ap (λ (b : Bool). if b then disk_armed (disk_account a h) kind at else disk_account a h) (eq-eqb a a refl) in
    record {
      journal_is = ap journal_of (own_other a h e other) ∙ is.journal_is;
      account_is = account_more a h e ∙ now ∙ ap (λ (u : DiskAccount). disk_armed u kind at) is.account_is;
      kept = λ yes. subst AreKept (sym (own_other a h e other)) (is.kept yes);
      in_time = in_time_more a h e is.in_time (subst IsInTime (sym now) (soon (disk_account a h)));
    }
  where
    soon : (u : DiskAccount) → IsInTime (disk_armed u kind at)
    soon u w waits =
        let this : ◌≡◌ {A = DiskArm} (record { kind = kind; at = at; calls = no_calls }) w = cc waits in
        subst (λ (v : DiskArm). v.calls.fewest < v.at) this (omega (arith, some))

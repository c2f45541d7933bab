-- The tally of all disks and the accounts of each agree, step by step.
use Rattle.std.proofs.Common.{◌≡◌, ℕ, ◌+◌, ◌<◌, ◌==◌, Bool, true, false, not, List, [], ◌∷◌, ◌++◌, filter, map, cond}
use Rattle.std.proofs.Common.{append-nil, Option, Some, None, refl, sym, ◌∙◌, ap, subst, if◌then◌else◌}
use Rattle.std.proofs.lemmas.List.Elements.{filter-append}
use Rattle.std.proofs.lemmas.Bool.{eqb-true}
use Rattle.qc_msg.specs.declared.step.Fall.{Fall}
use Rattle.qc_msg.specs.declared.step.Fall.TheVariants as falls
use Rattle.qc_msg.specs.declared.step.Step.{Step}
use Rattle.qc_msg.specs.declared.step.Step.TheVariants as steps
use Rattle.qc_outside.specs.declared.disk.ArmKind.{ArmKind}
use Rattle.qc_outside.specs.declared.disk.ArmKind.TheVariants as kinds
use Rattle.qc_promise.specs.Vocabulary.{Arm, Calls, DiskAccount, DiskArm, IsFallBelow, Tally, armed, called}
use Rattle.qc_promise.specs.Vocabulary.{disk_account_with, disk_armed, disk_called, disk_fell, disk_fell_by}
use Rattle.qc_promise.specs.Vocabulary.{disk_fell_with, fell, more_calls, no_calls, of_fall, of_opening, of_reading}
use Rattle.qc_promise.specs.Vocabulary.{of_record, tally_with, total_below, used, waiting_after, with_calls}
use Rattle.qc_promise.specs.Vocabulary.{without_arm}
use Rattle.qc_spent.proofs.OwnArms.{arms_of, called_arms, called_parts, of_actor, others}
use Rattle.qc_spent.proofs.Sums.{total_more, total_same}
use Rattle.qc_spent.proofs.ActingArms.{Finds, IsUnused, IsUsed, finds}
use Rattle.qc_list.proofs.Numbers.{number_same}

pub record Agrees (n : ℕ) (t : Tally) (accounts : ℕ → DiskAccount) : Type 0 where
  pub arms : (a : ℕ) → filter (of_actor a) t.left ≡ arms_of a (accounts a).waiting
  pub count : t.unarmed ≡ total_below n (λ a. (accounts a).unarmed)

-- a fault is armed

abbrev arm_anew : ℕ → ArmKind → ℕ → Arm
arm_anew b kind at = record { actor = b; kind = kind; at = at; calls = no_calls }

arms_anew : (a b : ℕ) (kind : ArmKind) (at : ℕ) (xs : List Arm) (t : DiskAccount)
    → filter (of_actor a) xs ≡ arms_of a t.waiting
    → filter (of_actor a) (filter (λ (x : Arm). not (x.actor == b)) xs ++ arm_anew b kind at ∷ [])
    ≡ arms_of a (if b == a then disk_armed t kind at else t).waiting
arms_anew a b kind at xs t is =
    filter-append (of_actor a) (filter (λ (x : Arm). not (x.actor == b)) xs) (arm_anew b kind at ∷ [])
    ∙ ap (λ (l : List Arm). l ++ filter (of_actor a) (arm_anew b kind at ∷ [])) (others a b xs)
    ∙ by (b == a) refl
  where
    by : (c : Bool) → (b == a) ≡ c
        → cond c [] (filter (of_actor a) xs) ++ cond c (arm_anew b kind at ∷ []) []
        ≡ arms_of a (if c then disk_armed t kind at else t).waiting
    by true same = ap (λ (k : ℕ). arm_anew k kind at ∷ []) (eqb-true b a same)
    by false apart = append-nil (filter (of_actor a) xs) ∙ is

same_count : (a b : ℕ) (kind : ArmKind) (at : ℕ) (t : DiskAccount)
    → t.unarmed ≡ (if b == a then disk_armed t kind at else t).unarmed
same_count a b kind at t = by (b == a)
  where
    by : (c : Bool) → t.unarmed ≡ (if c then disk_armed t kind at else t).unarmed
    by true = refl
    by false = refl

pub agrees_armed : (n : ℕ) (t : Tally) (accounts : ℕ → DiskAccount) (b : ℕ) (kind : ArmKind) (at : ℕ)
    → Agrees n t accounts
    → Agrees n (armed t (arm_anew b kind at)) (λ a. if b == a then disk_armed (accounts a) kind at else accounts a)
agrees_armed n t accounts b kind at is = record {
  arms = λ a. arms_anew a b kind at t.left (accounts a) (is.arms a);
  count =
      is.count ∙ total_same n (λ a. (accounts a).unarmed)
      (λ a. (if b == a then disk_armed (accounts a) kind at else accounts a).unarmed)
      (λ a. same_count a b kind at (accounts a));
}

-- calls are made

waiting_if : (c : Bool) (t : DiskAccount) (calls : Calls) → arms_of 0 None ≡ []
    → (if c then waiting_after calls t.waiting else t.waiting) ≡ (if c then disk_called t calls else t).waiting
waiting_if true t calls none = refl
waiting_if false t calls none = refl

called_count : (c : Bool) (t : DiskAccount) (calls : Calls) → t.unarmed ≡ (if c then disk_called t calls else t).unarmed
called_count true t calls = refl
called_count false t calls = refl

pub agrees_called : (n : ℕ) (t : Tally) (accounts : ℕ → DiskAccount) (e : ℕ) (calls : Calls) → Agrees n t accounts
    → Agrees n (called t e calls) (λ a. if e == a then disk_called (accounts a) calls else accounts a)
agrees_called n t accounts e calls is = record {
  arms =
      λ a. called_parts a e calls t.left
      ∙ ap (map (with_calls e calls)) (is.arms a)
      ∙ called_arms a e calls (accounts a).waiting
      ∙ ap (arms_of a) (waiting_if (e == a) (accounts a) calls refl);
  count =
      is.count ∙ total_same n (λ a. (accounts a).unarmed)
      (λ a. (if e == a then disk_called (accounts a) calls else accounts a).unarmed)
      (λ a. called_count (e == a) (accounts a) calls);
}

-- a fall that may be of what is armed, or isn't

abbrev fallen_if : Bool → DiskArm → ℕ → Calls → DiskAccount
fallen_if test w u calls =
    if test
    then record { waiting = None; unarmed = u }
    else record { waiting = Some (more_calls calls w); unarmed = u + 1 }

unused_account : (w : Option DiskArm) (u : ℕ) (kind : ArmKind) (calls : Calls) → IsUnused kind calls w
    → disk_fell_with w u kind calls ≡ record { waiting = waiting_after calls w; unarmed = u + 1 }
unused_account None u kind calls un = refl
unused_account (Some w) u kind calls un =
    ap (λ (c : Bool). fallen_if c w u calls) un

used_account : (w : Option DiskArm) (u : ℕ) (kind : ArmKind) (calls : Calls) → IsUsed kind calls w
    → disk_fell_with w u kind calls ≡ record { waiting = None; unarmed = u }
used_account None u kind calls did = absurd did
used_account (Some w) u kind calls did =
    ap (λ (c : Bool). fallen_if c w u calls) did

module _ (n : ℕ) (t : Tally) (accounts : ℕ → DiskAccount) (e : ℕ) (kind : ArmKind) (calls : Calls) where
  abbrev after : ℕ → DiskAccount
  after a = if e == a then disk_fell (accounts a) kind calls else accounts a

  -- where it wasn't used

  unused_arms : Agrees n t accounts → IsUnused kind calls (accounts e).waiting → (a : ℕ) (c : Bool) → (e == a) ≡ c
      → arms_of a (if c then waiting_after calls (accounts a).waiting else (accounts a).waiting)
      ≡ arms_of a (if c then disk_fell (accounts a) kind calls else accounts a).waiting
  unused_arms is un a true same =
      let here : IsUnused kind calls (accounts a).waiting =
      subst (λ (k : ℕ). IsUnused kind calls (accounts k).waiting) (eqb-true e a same) un in
      ap (λ (s : DiskAccount). arms_of a s.waiting)
      (sym (unused_account (accounts a).waiting (accounts a).unarmed kind calls here))
  unused_arms is un a false apart = refl

  at_one : IsUnused kind calls (accounts e).waiting → (after e).unarmed ≡ (accounts e).unarmed + 1
  at_one un =
      ap (λ (c : Bool). (if c then disk_fell (accounts e) kind calls else accounts e).unarmed) (number_same e)
      ∙ ap (λ (s : DiskAccount). s.unarmed) (unused_account (accounts e).waiting (accounts e).unarmed kind calls un)

  elsewhere : (a : ℕ) → (e == a) ≡ false → (after a).unarmed ≡ (accounts a).unarmed
  elsewhere a apart = ap (λ (c : Bool). (if c then disk_fell (accounts a) kind calls else accounts a).unarmed) apart

  unused : e < n → Agrees n t accounts → IsUnused kind calls (accounts e).waiting
      → Agrees n (called (record t { unarmed = t.unarmed + 1 }) e calls) after
  unused below is un = record {
    arms =
        λ a. called_parts a e calls t.left
        ∙ ap (map (with_calls e calls)) (is.arms a)
        ∙ called_arms a e calls (accounts a).waiting
        ∙ unused_arms is un a (e == a) refl;
    count =
        ap (λ (k : ℕ). k + 1) is.count
        ∙ sym (total_more n e (λ a. (accounts a).unarmed) (λ a. (after a).unarmed) below (at_one un) elsewhere);
  }

  -- where it was

  used_arms : Agrees n t accounts → IsUsed kind calls (accounts e).waiting → (a : ℕ) (c : Bool) → (e == a) ≡ c
      → cond c [] (filter (of_actor a) t.left)
      ≡ arms_of a (if c then disk_fell (accounts a) kind calls else accounts a).waiting
  used_arms is did a true same =
      let here : IsUsed kind calls (accounts a).waiting =
      subst (λ (k : ℕ). IsUsed kind calls (accounts k).waiting) (eqb-true e a same) did in
      ap (λ (s : DiskAccount). arms_of a s.waiting)
      (sym (used_account (accounts a).waiting (accounts a).unarmed kind calls here))
  used_arms is did a false apart = is.arms a

  used_count : IsUsed kind calls (accounts e).waiting → (a : ℕ) (c : Bool) → (e == a) ≡ c
      → (accounts a).unarmed ≡ (if c then disk_fell (accounts a) kind calls else accounts a).unarmed
  used_count did a true same =
      let here : IsUsed kind calls (accounts a).waiting =
      subst (λ (k : ℕ). IsUsed kind calls (accounts k).waiting) (eqb-true e a same) did in
      ap (λ (s : DiskAccount). s.unarmed) (sym (used_account (accounts a).waiting (accounts a).unarmed kind calls here))
  used_count did a false apart = refl

  it_was : (left : List Arm) → Agrees n t accounts → IsUsed kind calls (accounts e).waiting
      → ((a : ℕ) → filter (of_actor a) left ≡ cond (e == a) [] (filter (of_actor a) t.left))
      → Agrees n (record t { left = left }) after
  it_was left is did rest = record {
    arms = λ a. rest a ∙ used_arms is did a (e == a) refl;
    count =
        is.count ∙ total_same n (λ a. (accounts a).unarmed) (λ a. (after a).unarmed)
        (λ a. used_count did a (e == a) refl);
  }

  by_found : (r : Option (List Arm)) → e < n → Agrees n t accounts → Finds e kind calls t.left (accounts e).waiting r
      → Agrees n (used t e calls r) after
  by_found None below is found = unused below is found
  by_found (Some left) below is found = it_was left is found.0 found.1

  pub agrees_fell : e < n → Agrees n t accounts → Agrees n (used t e calls (without_arm e kind calls t.left)) after
  agrees_fell below is =
      by_found (without_arm e kind calls t.left) below is (finds e kind calls t.left (accounts e).waiting (is.arms e))

-- a step

agrees_alike : (n : ℕ) (t : Tally) (accounts others : ℕ → DiskAccount) → ((a : ℕ) → accounts a ≡ others a)
    → Agrees n t accounts → Agrees n t others
agrees_alike n t accounts others alike is = record {
  arms = λ a. is.arms a ∙ ap (λ (s : DiskAccount). arms_of a s.waiting) (alike a);
  count =
      is.count ∙ total_same n (λ a. (accounts a).unarmed) (λ a. (others a).unarmed)
      (λ a. ap (λ (s : DiskAccount). s.unarmed) (alike a));
}

either_way : (c : Bool) (t : DiskAccount) → t ≡ (if c then t else t)
either_way true t = refl
either_way false t = refl

agrees_fall : (n : ℕ) (t : Tally) (accounts : ℕ → DiskAccount) (e : ℕ) (cause : Fall) (calls : Calls) → e < n
    → Agrees n t accounts
    → Agrees n (fell t e cause calls) (λ a. if e == a then disk_fell_by (accounts a) cause calls else accounts a)
agrees_fall n t accounts e falls.Script calls below is =
    agrees_alike n t accounts (λ a. if e == a then accounts a else accounts a)
    (λ a. either_way (e == a) (accounts a)) is
agrees_fall n t accounts e falls.Stop calls below is = agrees_fell n t accounts e kinds.Stop calls below is
agrees_fall n t accounts e falls.Disk calls below is = agrees_fell n t accounts e kinds.Fail calls below is

pub agrees_step : (n : ℕ) (t : Tally) (accounts : ℕ → DiskAccount) (e : ℕ) (s : Step) → IsFallBelow n e s
    → Agrees n t accounts → Agrees n (tally_with t e s) (λ a. disk_account_with a (accounts a) e s)
agrees_step n t accounts e (steps.Phase number) below is = is
agrees_step n t accounts e (steps.Cut x y) below is = is
agrees_step n t accounts e (steps.Heal x y) below is = is
agrees_step n t accounts e (steps.Armed b kind at) below is = agrees_armed n t accounts b kind at is
agrees_step n t accounts e (steps.Called command) below is = is
agrees_step n t accounts e (steps.Got number) below is = is
agrees_step n t accounts e (steps.Lost number) below is = is
agrees_step n t accounts e (steps.Wrote written) below is = agrees_called n t accounts e of_record is
agrees_step n t accounts e (steps.Sent number to message) below is = is
agrees_step n t accounts e (steps.Told reply) below is = is
agrees_step n t accounts e (steps.Fell cause pending) below is =
    agrees_fall n t accounts e cause (of_fall pending) below is
agrees_step n t accounts e (steps.Rose records) below is = agrees_called n t accounts e (of_opening records) is
agrees_step n t accounts e (steps.Damaged offset) below is = agrees_called n t accounts e of_reading is

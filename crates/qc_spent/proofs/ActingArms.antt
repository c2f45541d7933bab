-- Which arm acts in an actor's fall: the one that waits in its disk's account, where that may have.
use Rattle.std.proofs.Common.{◌≡◌, ℕ, ◌+◌, ◌==◌, Bool, true, false, ◌&&◌, nat_le, List, [], ◌∷◌, filter, cond, Option}
use Rattle.std.proofs.Common.{Some, None, option_map, refl, sym, ◌∙◌, ap, subst, if◌then◌else◌}
use Rattle.std.proofs.lemmas.Bool.{eqb-true, eqb-false}
use Rattle.qc_outside.specs.declared.disk.ArmKind.{ArmKind}
use Rattle.qc_promise.specs.Vocabulary.{Arm, Calls, DiskArm, may_act, may_have_acted, same_kind, without_arm}
use Rattle.qc_spent.proofs.OwnArms.{arm_of, arms_of, of_actor}
use Rattle.qc_list.proofs.Numbers.{number_same}

abbrev pub IsUnused : ArmKind → Calls → Option DiskArm → Type 0
IsUnused kind calls None = Unit {0}
IsUnused kind calls (Some w) = may_have_acted kind calls w ≡ false

abbrev pub IsUsed : ArmKind → Calls → Option DiskArm → Type 0
IsUsed kind calls None = ⊥
IsUsed kind calls (Some w) = may_have_acted kind calls w ≡ true

abbrev pub Finds : ℕ → ArmKind → Calls → List Arm → Option DiskArm → Option (List Arm) → Type 0
Finds e kind calls xs w None = IsUnused kind calls w
Finds e kind calls xs w (Some left) =
    IsUsed kind calls w × ((a : ℕ) → filter (of_actor a) left ≡ cond (e == a) [] (filter (of_actor a) xs))

-- an arm of another actor stays
passed : (e : ℕ) (kind : ArmKind) (calls : Calls) (x : Arm) (xs : List Arm) (w : Option DiskArm) (r : Option (List Arm))
    → (x.actor == e) ≡ false → Finds e kind calls xs w r
    → Finds e kind calls (x ∷ xs) w (option_map (λ (l : List Arm). x ∷ l) r)
passed e kind calls x xs w None not_e found = found
passed e kind calls x xs w (Some left) not_e found = (found.0, λ a. by a (x.actor == a) (e == a) refl refl)
  where
    by : (a : ℕ) (s t : Bool) → (x.actor == a) ≡ s → (e == a) ≡ t
        → cond s (x ∷ filter (of_actor a) left) (filter (of_actor a) left)
        ≡ cond t [] (cond s (x ∷ filter (of_actor a) xs) (filter (of_actor a) xs))
    by a true true is_a is_e = absurd (eqb-false x.actor e not_e (eqb-true x.actor a is_a ∙ sym (eqb-true e a is_e)))
    by a true false is_a is_e = ap (λ (l : List Arm). x ∷ l) (found.1 a ∙ rw is_e refl)
    by a false true is_a is_e = found.1 a ∙ rw is_e refl
    by a false false is_a is_e = found.1 a ∙ rw is_e refl

-- the arm of the actor that fell, behind which there is none of it
acts_first : (e : ℕ) (kind : ArmKind) (calls : Calls) (x : Arm) (xs : List Arm) (w : DiskArm) → x ≡ arm_of e w
    → filter (of_actor e) xs ≡ [] → may_have_acted kind calls w ≡ true → Finds e kind calls (x ∷ xs) (Some w) (Some xs)
acts_first e kind calls x xs w is rest may = (may, λ a. by a (x.actor == a) (e == a) refl refl)
  where
    actor : x.actor ≡ e
    actor = ap (λ (y : Arm). y.actor) is

    by : (a : ℕ) (s t : Bool) → (x.actor == a) ≡ s → (e == a) ≡ t
        → filter (of_actor a) xs ≡ cond t [] (cond s (x ∷ filter (of_actor a) xs) (filter (of_actor a) xs))
    by a s true is_a is_e = subst (λ (k : ℕ). filter (of_actor k) xs ≡ []) (eqb-true e a is_e) rest
    by a true false is_a is_e = absurd (eqb-false e a is_e (sym actor ∙ eqb-true x.actor a is_a))
    by a false false is_a is_e = refl

stays_first : (e : ℕ) (kind : ArmKind) (calls : Calls) (x : Arm) (xs : List Arm) (w : DiskArm) (r : Option (List Arm))
    → may_have_acted kind calls w ≡ false → Finds e kind calls xs None r
    → Finds e kind calls (x ∷ xs) (Some w) (option_map (λ (l : List Arm). x ∷ l) r)
stays_first e kind calls x xs w None may found = may
stays_first e kind calls x xs w (Some left) may found = absurd found.0

none_of : (e : ℕ) (w : Option DiskArm) → [] ≡ arms_of e w → w ≡ None
none_of e None is = refl
none_of e (Some w) is = absurd (cc is)

may_of : (e : ℕ) (kind : ArmKind) (calls : Calls) (w : DiskArm)
    → may_act e kind calls (arm_of e w) ≡ may_have_acted kind calls w
may_of e kind calls w =
    ap (λ (b : Bool). b && (same_kind w.kind kind && nat_le w.at (w.calls.most + calls.most))) (number_same e)

pub finds : (e : ℕ) (kind : ArmKind) (calls : Calls) (xs : List Arm) (w : Option DiskArm)
    → filter (of_actor e) xs ≡ arms_of e w → Finds e kind calls xs w (without_arm e kind calls xs)
finds e kind calls [] w is = subst (λ (v : Option DiskArm). IsUnused kind calls v) (sym (none_of e w is)) tt
finds e kind calls (x ∷ xs) w is = by (λ v. finds e kind calls xs v) (x.actor == e) refl
  where
    other : (x.actor == e) ≡ false → Finds e kind calls xs w (without_arm e kind calls xs)
        → Finds e kind calls (x ∷ xs) w (without_arm e kind calls (x ∷ xs))
    other not_e found =
        let never : may_act e kind calls x ≡ false =
        ap (λ (b : Bool). b && (same_kind x.kind kind && nat_le x.at (x.calls.most + calls.most))) not_e in
        subst (λ (b : Bool). Finds e kind calls (x ∷ xs) w
        (if b then Some xs else option_map (λ (l : List Arm). x ∷ l) (without_arm e kind calls xs))) (sym never)
        (passed e kind calls x xs w (without_arm e kind calls xs) not_e found)

    first : (v : Option DiskArm) → x ∷ filter (of_actor e) xs ≡ arms_of e v
        → (filter (of_actor e) xs ≡ [] → Finds e kind calls xs None (without_arm e kind calls xs))
        → Finds e kind calls (x ∷ xs) v (without_arm e kind calls (x ∷ xs))
    first None same rest = absurd (cc same)
    first (Some v) same rest =
        let this : x ≡ arm_of e v = cc same in
        let behind : filter (of_actor e) xs ≡ [] = cc same in
        let may : may_act e kind calls x ≡ may_have_acted kind calls v =
        ap (may_act e kind calls) this ∙ may_of e kind calls v in
        subst (λ (b : Bool). Finds e kind calls (x ∷ xs) (Some v)
        (if b then Some xs else option_map (λ (l : List Arm). x ∷ l) (without_arm e kind calls xs))) (sym may)
        (at v this behind (rest behind) (may_have_acted kind calls v) refl)
      where
        at : (v : DiskArm) → x ≡ arm_of e v → filter (of_actor e) xs ≡ []
            → Finds e kind calls xs None (without_arm e kind calls xs) → (b : Bool) → may_have_acted kind calls v ≡ b
            → Finds e kind calls (x ∷ xs) (Some v)
            (if b then Some xs else option_map (λ (l : List Arm). x ∷ l) (without_arm e kind calls xs))
        at v this behind found true may = acts_first e kind calls x xs v this behind may
        at v this behind found false may = stays_first e kind calls x xs v (without_arm e kind calls xs) may found

    by : ((v : Option DiskArm) → filter (of_actor e) xs ≡ arms_of e v
        → Finds e kind calls xs v (without_arm e kind calls xs)) → (b : Bool) → (x.actor == e) ≡ b
        → Finds e kind calls (x ∷ xs) w (without_arm e kind calls (x ∷ xs))
    by ih true is_e =
        first w
        (subst (λ (b : Bool). cond b (x ∷ filter (of_actor e) xs) (filter (of_actor e) xs) ≡ arms_of e w) is_e is)
        (λ none. ih None none)
    by ih false not_e =
        other not_e
        (ih w (subst (λ (b : Bool). cond b (x ∷ filter (of_actor e) xs)
        (filter (of_actor e) xs) ≡ arms_of e w) not_e is))

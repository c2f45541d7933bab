-- The account goes on with calls, falls and arms.
use Rattle.std.proofs.Common.{◌≡◌, ℕ, ◌+◌, ◌-◌, ◌<◌, ◌≤◌, nat_le, Bool, true, false, ◌&&◌, Option, Some, None, inl, inr}
use Rattle.std.proofs.Common.{refl, sym, ◌∙◌, ap, subst, arith, if◌then◌else◌}
use Rattle.std.proofs.lemmas.Bool.{le-leb}
use Rattle.qc_outside.specs.Vocabulary.{Armed, Fuse, HasFaulted, HasPassed, IsArmedAfter, KeepsArm, Rose}
use Rattle.qc_outside.specs.declared.disk.ArmKind.{ArmKind}
use Rattle.qc_outside.specs.declared.disk.ArmKind.TheVariants.{Fail, Stop}
use Rattle.qc_promise.specs.Vocabulary.{Calls, DiskAccount, DiskArm, disk_armed, disk_called, disk_fell, disk_fell_with}
use Rattle.qc_promise.specs.Vocabulary.{may_have_acted, more_calls, same_kind, waiting_after}
use Rattle.qc_store.specs.Vocabulary.{IsAccountOf, IsArmOf, IsArmedBy, IsCounted}

-- counts

more : (n a b : ℕ) → a ≤ b → IsCounted n a → IsCounted n b
more n a b le is = omega (arith, le, is)

one_more : (n a b : ℕ) → Rose a b → IsCounted n a → IsCounted (n + 1) b
one_more n a b rose is = omega (arith, rose, is)

fewer : (n a : ℕ) → IsCounted (n + 1) a → IsCounted n a
fewer n a is = omega (arith, is)

counted_by : (w : Option DiskArm) (n : ℕ) (armed : Armed) (count : ℕ) → IsArmedBy w n armed count → IsCounted n count
counted_by None n None count is = is
counted_by None n (Some arm) count is = fewer n count is
counted_by (Some w) n None count is = absurd is
counted_by (Some w) n (Some arm) count is = is.1

pub counted : (t : DiskAccount) (f : Fuse) → IsAccountOf t f → IsCounted t.unarmed f.unarmed
counted t f is = counted_by t.waiting t.unarmed f.armed f.unarmed is

-- what waits is in time
in_time_by : (o : Option DiskArm) (n : ℕ) (armed : Armed) (count : ℕ) (w : DiskArm) → IsArmedBy o n armed count
    → o ≡ Some w → w.calls.fewest < w.at
in_time_by None n armed count w is waits = absurd (cc waits)
in_time_by (Some v) n None count w is waits = absurd is
in_time_by (Some v) n (Some arm) count w is waits =
    let same : v ≡ w = cc waits in
    subst (λ (u : DiskArm). u.calls.fewest < u.at) same (omega (arith, is.0.later, is.0.some))

pub in_time : (t : DiskAccount) (f : Fuse) (w : DiskArm) → IsAccountOf t f → t.waiting ≡ Some w → w.calls.fewest < w.at
in_time t f w is waits = in_time_by t.waiting t.unarmed f.armed f.unarmed w is waits

-- a fault is armed
pub armed_faults_are_accounted : (t : DiskAccount) (f : Fuse) (kind : ArmKind) (at : ℕ) → 1 ≤ at → IsAccountOf t f
    → IsAccountOf (disk_armed t kind at) (record { armed = Some (kind, at); unarmed = f.unarmed })
armed_faults_are_accounted t f kind at some is = (
  record {
    kind_is = refl;
    later = omega arith;
    sooner = omega arith;
    some = some;
  },
  counted t f is,
)

-- the disk falls
kept_by : (o : Option DiskArm) (n : ℕ) (armed : Armed) (a b : ℕ) → a ≤ b → IsArmedBy o n armed a → IsArmedBy o n armed b
kept_by None n None a b le is = more n a b le is
kept_by None n (Some arm) a b le is = more (n + 1) a b le is
kept_by (Some w) n None a b le is = is
kept_by (Some w) n (Some arm) a b le is = (is.0, more n a b le is.1)

pub falls : (t : DiskAccount) (f g : Fuse) → KeepsArm f g → IsAccountOf t f → IsAccountOf t g
falls t f g fall is =
    subst (λ (o : Armed). IsArmedBy t.waiting t.unarmed o g.unarmed) (sym fall.left)
    (kept_by t.waiting t.unarmed f.armed f.unarmed g.unarmed fall.later is)

-- calls pass
same_after : (w : DiskArm) (arm : ArmKind × ℕ) (calls : ℕ) (c : Calls) → c.fewest ≤ calls → calls ≤ c.most
    → calls < arm.1
    → IsArmOf w arm → IsArmOf (more_calls c w) (arm.0, arm.1 - calls)
same_after w arm calls c some few less is = record {
  kind_is = is.kind_is;
  later = omega (arith, is.later, some, less);
  sooner = omega (arith, is.sooner, few, less);
  some = omega (arith, less);
}

passed_by : (o : Option DiskArm) (n : ℕ) (old new : Armed) (a b calls : ℕ) (c : Calls) → c.fewest ≤ calls
    → calls ≤ c.most → IsArmedAfter calls old new → a ≤ b → IsArmedBy o n old a → IsArmedBy (waiting_after c o) n new b
passed_by None n None new a b calls c some few left le is =
    subst (λ (x : Armed). IsArmedBy None n x b) (sym left) (more n a b le is)
passed_by None n (Some arm) new a b calls c some few left le is =
    subst (λ (x : Armed). IsArmedBy None n x b) (sym left.0) (more (n + 1) a b le is)
passed_by (Some w) n None new a b calls c some few left le is = absurd is
passed_by (Some w) n (Some arm) new a b calls c some few left le is =
    let less : calls < arm.1 = left.1 (omega (arith, is.0.some)) in
    subst (λ (x : Armed). IsArmedBy (Some (more_calls c w)) n x b) (sym left.0)
    (same_after w arm calls c some few less is.0, more n a b le is.1)

pub passes : (t : DiskAccount) (f g : Fuse) (c : Calls) → HasPassed c.fewest c.most f g → IsAccountOf t f
    → IsAccountOf (disk_called t c) g
passes t f g c did is =
    passed_by t.waiting t.unarmed f.armed g.armed f.unarmed g.unarmed did.calls c did.some did.few did.left did.later is

-- a fault comes

same_kinds : (k : ArmKind) → same_kind k k ≡ true
same_kinds Fail = refl
same_kinds Stop = refl

abbrev chosen : Bool → DiskArm → ℕ → Calls → DiskAccount
chosen may w n c =
    if may
    then record { waiting = None; unarmed = n }
    else record { waiting = Some (more_calls c w); unarmed = n + 1 }

acted_by : (o : Option DiskArm) (n at : ℕ) (kind : ArmKind) (a b : ℕ) (c : Calls) → at ≤ c.most → a ≤ b
    → IsArmedBy o n (Some (kind, at)) a
    → IsArmedBy (disk_fell_with o n kind c).waiting (disk_fell_with o n kind c).unarmed None b
acted_by None n at kind a b c soon le is = more (n + 1) a b le is
acted_by (Some w) n at kind a b c soon le is =
    let kinds : same_kind w.kind kind ≡ true =
    ap (λ (k : ArmKind). same_kind k kind) (sym is.0.kind_is) ∙ same_kinds kind in
    let near : nat_le w.at (w.calls.most + c.most) ≡ true =
    le-leb w.at (w.calls.most + c.most) (omega (arith, is.0.sooner, soon)) in
    let may : may_have_acted kind c w ≡ true =
    ap (λ (b : Bool). b && nat_le w.at (w.calls.most + c.most)) kinds ∙ near in
    let P : Bool → Type 0 = λ m. IsArmedBy (chosen m w n c).waiting (chosen m w n c).unarmed None b in
    subst P (sym may) (more n a b le is.1)

failed_by : (o : Option DiskArm) (n : ℕ) (old new : Armed) (kind : ArmKind) (a b calls : ℕ) (c : Calls)
    → c.fewest ≤ calls → calls ≤ c.most → IsArmedAfter calls old new → Rose a b → IsArmedBy o n old a
    → IsArmedBy (disk_fell_with o n kind c).waiting (disk_fell_with o n kind c).unarmed new b
failed_by None n None new kind a b calls c some few left rose is =
    subst (λ (x : Armed). IsArmedBy None (n + 1) x b) (sym left) (one_more n a b rose is)
failed_by None n (Some arm) new kind a b calls c some few left rose is =
    subst (λ (x : Armed). IsArmedBy None (n + 1) x b) (sym left.0) (one_more (n + 1) a b rose is)
failed_by (Some w) n None new kind a b calls c some few left rose is = absurd is
failed_by (Some w) n (Some arm) new kind a b calls c some few left rose is = by (may_have_acted kind c w)
  where
    less : calls < arm.1
    less = left.1 (omega (arith, is.0.some))

    by : (m : Bool) → IsArmedBy (chosen m w n c).waiting (chosen m w n c).unarmed new b
    by true = subst (λ (x : Armed). IsArmedBy None n x b) (sym left.0) (one_more n a b rose is.1)
    by false =
        subst (λ (x : Armed). IsArmedBy (Some (more_calls c w)) (n + 1) x b) (sym left.0)
        (same_after w arm calls c some few less is.0, one_more n a b rose is.1)

pub faults : (t : DiskAccount) (f g : Fuse) (kind : ArmKind) (c : Calls) → HasFaulted c.fewest c.most kind f g
    → IsAccountOf t f
    → IsAccountOf (disk_fell t kind c) g
faults t f g kind c (inl did) is =
    let old : IsArmedBy t.waiting t.unarmed (Some (kind, did.at)) f.unarmed =
    subst (λ (x : Armed). IsArmedBy t.waiting t.unarmed x f.unarmed) did.was is in
    subst (λ (x : Armed). IsArmedBy (disk_fell t kind c).waiting (disk_fell t kind c).unarmed x g.unarmed)
    (sym did.none)
    (acted_by t.waiting t.unarmed did.at kind f.unarmed g.unarmed c did.soon did.later old)
faults t f g kind c (inr did) is =
    failed_by t.waiting t.unarmed f.armed g.armed kind f.unarmed g.unarmed did.calls c did.some did.few did.left
    did.rose is

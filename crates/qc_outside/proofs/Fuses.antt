-- One call after another: what is armed goes on, and an arm acts or a fault of the disk's own comes.
use Rattle.std.proofs.Common.{◌≡◌, ℕ, ◌+◌, ◌-◌, ◌≤◌, Option, Some, None, Result, Ok, Err, inl, inr, refl, sym, ◌∙◌, ap}
use Rattle.std.proofs.Common.{subst, arith, nat_le, true, false, Bool, if◌then◌else◌}
use Rattle.std.proofs.lemmas.Bool.{leb-true, leb-false}
use Rattle.qc_outside.specs.Vocabulary.{Armed, Burns, BurnsMany, BurnsNothing, DiskRose, Fuse, HasActed, HasFailed}
use Rattle.qc_outside.specs.Vocabulary.{HasFaulted, HasPassed, IsArmedAfter, IsBlamed, IsRefused, Rose, acting}
use Rattle.qc_outside.specs.Vocabulary.{armed_after, fault_of}
use Rattle.qc_outside.specs.declared.disk.ArmKind.{ArmKind}
use Rattle.qc_outside.specs.declared.disk.ArmKind.TheVariants.{Fail, Stop}
use Rattle.qc_outside.specs.declared.disk.DiskFault.{DiskFault}
use Rattle.qc_outside.specs.declared.disk.DiskFault.TheVariants.{Failed, Stopped, OutOfMemory}

-- what is left after one call, and after some and then more

left_one : (arm : ArmKind × ℕ) (b : Bool) → nat_le arm.1 1 ≡ b → (new : Armed)
    → new ≡ (if b then None else Some (arm.0, arm.1 - 1)) → (if b then Some arm.0 else None) ≡ None
    → IsArmedAfter 1 (Some arm) new
left_one arm true small new is none = absurd (cc none)
left_one arm false small new is none = (is, λ _. leb-false arm.1 1 small)

burns_left : (old : Armed) (new : Armed) → new ≡ armed_after old → acting old ≡ None → IsArmedAfter 1 old new
burns_left None new is none = is
burns_left (Some arm) new is none = left_one arm (nat_le arm.1 1) refl new is none

-- what acts was armed for this call
acts_now : (arm : ArmKind × ℕ) (kind : ArmKind) (b : Bool) → nat_le arm.1 1 ≡ b → (new : Armed)
    → new ≡ (if b then None else Some (arm.0, arm.1 - 1)) → (if b then Some arm.0 else None) ≡ Some kind
    → (arm.0 ≡ kind) × (arm.1 ≤ 1) × (new ≡ None)
acts_now arm kind true small new is acts = (cc acts, leb-true arm.1 1 small, is)
acts_now arm kind false small new is acts = absurd (cc acts)

arms_alike : (k l : ArmKind) (m n : ℕ) → ◌≡◌ {A = Armed} (Some (k, m)) (Some (l, n)) → (k ≡ l) × (m ≡ n)
arms_alike k l m n is =
    let same : ◌≡◌ {A = ArmKind × ℕ} (k, m) (l, n) = cc is in
    (ap (λ (p : ArmKind × ℕ). p.0) same, ap (λ (p : ArmKind × ℕ). p.1) same)

pub left_more : (a b : ℕ) (x y z : Armed) → IsArmedAfter a x y → IsArmedAfter b y z → IsArmedAfter (a + b) x z
left_more a b None y z first second = more y first second
  where
    more : (y : Armed) → y ≡ None → IsArmedAfter b y z → z ≡ None
    more None is second = second
    more (Some arm) is second = absurd (cc is)
left_more a b (Some arm) y z first second = more y first.0 second
  where
    more : (y : Armed) → y ≡ Some (arm.0, arm.1 - a) → IsArmedAfter b y z → IsArmedAfter (a + b) (Some arm) z
    more None is second = absurd (cc is)
    more (Some next) is second =
        let alike = arms_alike next.0 arm.0 next.1 (arm.1 - a) is in
        let kind : next.0 ≡ arm.0 = alike.0 in
        let left : next.1 ≡ arm.1 - a = alike.1 in
        let less : next.1 - b ≡ arm.1 - (a + b) = omega (arith, left) in (
          second.0 ∙ ap (λ (k : ArmKind). Some (k, next.1 - b)) kind ∙ ap (λ (n : ℕ). Some (arm.0, n)) less,
          λ some. omega (arith, left, first.1 some, second.1 (omega (arith, left, first.1 some))),
        )

pub left_none : (x y : Armed) → y ≡ x → IsArmedAfter 0 x y
left_none None y is = is
left_none (Some arm) y is = (is ∙ ap (λ (n : ℕ). Some (arm.0, n)) (omega arith), λ some. some)

-- one call

error_burns : {T : Type 0} (e : DiskFault) (least fewest most calls : ℕ) (old new : Fuse)
    → IsArmedAfter calls old.armed new.armed → least ≤ calls → calls ≤ most
    → DiskRose {T = T} old.unarmed new.unarmed (Err e) → BurnsMany {T = T} least fewest most old new (Err e)
error_burns Failed least fewest most calls old new left some few rose =
    inr (record { calls = calls; some = some; few = few; left = left; later = rose.later; rose = rose.failed refl })
error_burns Stopped least fewest most calls old new left some few rose =
    inr (record { calls = calls; some = some; few = few; left = left; later = rose.later; rose = rose.stopped refl })
error_burns OutOfMemory least fewest most calls old new left some few rose = rose.later

result_burns : {T : Type 0} (r : Result T DiskFault) (calls : ℕ) (old new : Fuse)
    → IsArmedAfter calls old.armed new.armed → DiskRose old.unarmed new.unarmed r
    → BurnsMany calls calls calls old new r
result_burns (Ok done) calls old new left rose = record {
  calls = calls;
  some = omega arith;
  few = omega arith;
  left = left;
  later = rose.later;
}
result_burns (Err e) calls old new left rose =
    error_burns e calls calls calls calls old new left (omega arith) (omega arith) rose

pub uncounted_burns : {T : Type 0} (r : Result T DiskFault) (old new : Fuse) → BurnsNothing old new r
    → BurnsMany 0 0 0 old new r
uncounted_burns r old new bare = result_burns r 0 old new (left_none old.armed new.armed bare.left) bare.blamed

acts_once : {T : Type 0} (kind : ArmKind) (r : Result T DiskFault) (old new : Fuse) → HasActed 1 kind old new
    → r ≡ Err (fault_of kind) → BurnsMany 1 1 1 old new r
acts_once Fail r old new did is = subst (λ r. BurnsMany 1 1 1 old new r) (sym is) (inl did)
acts_once Stop r old new did is = subst (λ r. BurnsMany 1 1 1 old new r) (sym is) (inl did)

pub one_burns : {T : Type 0} (r : Result T DiskFault) (old new : Fuse) → Burns old new r → BurnsMany 1 1 1 old new r
one_burns {T = T} r old new burns = by (acting old.armed) refl burns.blamed
  where
    did : (kind : ArmKind) → acting old.armed ≡ Some kind → old.unarmed ≤ new.unarmed → (was : Armed) → old.armed ≡ was
        → HasActed 1 kind old new
    did kind acts later None was = absurd (cc (sym acts ∙ ap acting was))
    did kind acts later (Some arm) was =
        let now =
        acts_now arm kind (nat_le arm.1 1) refl new.armed (burns.left ∙ ap armed_after was)
        (ap acting (sym was) ∙ acts) in
        record {
          at = arm.1;
          was = was ∙ ap (λ (k : ArmKind). Some (k, arm.1)) now.0;
          soon = now.1;
          none = now.2;
          later = later;
        }

    by : (a : Option ArmKind) → acting old.armed ≡ a → IsBlamed a old.unarmed new.unarmed r → BurnsMany 1 1 1 old new r
    by None acts blamed = result_burns r 1 old new (burns_left old.armed new.armed burns.left acts) blamed
    by (Some kind) acts blamed = acts_once kind r old new (did kind acts blamed.1 old.armed refl) blamed.0

-- several

pub passed_more : (a b c d : ℕ) (x y z : Fuse) → HasPassed a b x y → HasPassed c d y z → HasPassed (a + c) (b + d) x z
passed_more a b c d x y z first second = record {
  calls = first.calls + second.calls;
  some = omega (arith, first.some, second.some);
  few = omega (arith, first.few, second.few);
  left = left_more first.calls second.calls x.armed y.armed z.armed first.left second.left;
  later = omega (arith, first.later, second.later);
}

acted_more : (a b m : ℕ) (kind : ArmKind) (x y z : Fuse) → HasPassed a b x y → HasActed m kind y z
    → HasActed (b + m) kind x z
acted_more a b m kind x y z first second = by x.armed refl
  where
    by : (was : Armed) → x.armed ≡ was → HasActed (b + m) kind x z
    by None is = absurd (cc (sym second.was ∙ subst (λ (o : Armed). IsArmedAfter first.calls o y.armed) is first.left))
    by (Some arm) is =
        let left = (subst (λ (o : Armed). IsArmedAfter first.calls o y.armed) is first.left).0 in
        let alike = arms_alike arm.0 kind (arm.1 - first.calls) second.at (sym left ∙ second.was) in
        let at : arm.1 - first.calls ≡ second.at = alike.1 in
        record {
          at = arm.1;
          was = is ∙ ap (λ (k : ArmKind). Some (k, arm.1)) alike.0;
          soon = omega (arith, at, second.soon, first.few);
          none = second.none;
          later = omega (arith, first.later, second.later);
        }

failed_more : (a b l m : ℕ) (x y z : Fuse) → HasPassed a b x y → HasFailed l m y z → HasFailed (a + l) (b + m) x z
failed_more a b l m x y z first second = record {
  calls = first.calls + second.calls;
  some = omega (arith, first.some, second.some);
  few = omega (arith, first.few, second.few);
  left = left_more first.calls second.calls x.armed y.armed z.armed first.left second.left;
  later = omega (arith, first.later, second.later);
  rose = risen;
}
  where
    risen : Rose x.unarmed z.unarmed
    risen = omega (arith, second.rose, first.later)

pub faulted_more : (a b l m : ℕ) (kind : ArmKind) (x y z : Fuse) → HasPassed a b x y → HasFaulted l m kind y z
    → HasFaulted (a + l) (b + m) kind x z
faulted_more a b l m kind x y z first (inl did) = inl (acted_more a b m kind x y z first did)
faulted_more a b l m kind x y z first (inr did) = inr (failed_more a b l m x y z first did)

pub refused_more : (e : DiskFault) (a b l m : ℕ) (x y z : Fuse) → HasPassed a b x y → IsRefused l m y z e
    → IsRefused (a + l) (b + m) x z e
refused_more Failed a b l d x y z first second = faulted_more a b l d Fail x y z first second
refused_more Stopped a b l d x y z first second = faulted_more a b l d Stop x y z first second
refused_more OutOfMemory a b l d x y z first second = omega (arith, first.later, second)

pub burns_more : {T : Type 0} (r : Result T DiskFault) (a b l c d : ℕ) (x y z : Fuse) → HasPassed a b x y
    → BurnsMany l c d y z r → BurnsMany (a + l) (a + c) (b + d) x z r
burns_more (Ok done) a b l c d x y z first second = passed_more a b c d x y z first second
burns_more (Err e) a b l c d x y z first second = refused_more e a b l d x y z first second

pub faulted_wider : (l m k n : ℕ) (kind : ArmKind) (x y : Fuse) → k ≤ l → m ≤ n → HasFaulted l m kind x y
    → HasFaulted k n kind x y
faulted_wider l m k n kind x y low high (inl did) = inl (record {
  at = did.at;
  was = did.was;
  soon = omega (arith, did.soon, high);
  none = did.none;
  later = did.later;
})
faulted_wider l m k n kind x y low high (inr did) = inr (record {
  calls = did.calls;
  some = omega (arith, did.some, low);
  few = omega (arith, did.few, high);
  left = did.left;
  later = did.later;
  rose = did.rose;
})

pub passed_wider : (a b c d : ℕ) (x y : Fuse) → c ≤ a → b ≤ d → HasPassed a b x y → HasPassed c d x y
passed_wider a b c d x y low high did = record {
  calls = did.calls;
  some = omega (arith, did.some, low);
  few = omega (arith, did.few, high);
  left = did.left;
  later = did.later;
}

pub refused_wider : (e : DiskFault) (l m k n : ℕ) (x y : Fuse) → k ≤ l → m ≤ n → IsRefused l m x y e
    → IsRefused k n x y e
refused_wider Failed l m k n x y low high did = faulted_wider l m k n Fail x y low high did
refused_wider Stopped l m k n x y low high did = faulted_wider l m k n Stop x y low high did
refused_wider OutOfMemory l m k n x y low high did = did

pub burns_wider : {T : Type 0} (r : Result T DiskFault) (l f m k g n : ℕ) (x y : Fuse) → k ≤ l → g ≤ f → m ≤ n
    → BurnsMany l f m x y r → BurnsMany k g n x y r
burns_wider (Ok done) l f m k g n x y low fewer high did = passed_wider f m g n x y fewer high did
burns_wider (Err e) l f m k g n x y low fewer high did = refused_wider e l m k n x y low high did

-- refusals of one call

pub one_refused : {T : Type 0} (e : DiskFault) (old new : Fuse) → Burns {T = T} old new (Err e)
    → IsRefused 1 1 old new e
one_refused {T = T} e old new burns = one_burns {T = T} (Err e) old new burns

pub uncounted_refused : {T : Type 0} (e : DiskFault) (old new : Fuse) → BurnsNothing {T = T} old new (Err e)
    → IsRefused 0 0 old new e
uncounted_refused {T = T} e old new bare = uncounted_burns {T = T} (Err e) old new bare

-- The accounts of each disk make `Spent` of the whole, and it says no less of each.
use Rattle.std.proofs.Common.{◌≡◌, inl, inr, ℕ, zero, suc, ◌<◌, ◌≤◌, List, [], ◌∷◌, ◌++◌, filter, fold, Option, Some}
use Rattle.std.proofs.Common.{None, refl, sym, ◌∙◌, ap, subst, arith}
use Rattle.std.proofs.lemmas.List.Sums.{fold-append}
use Rattle.std.proofs.lemmas.Bool.{eq-eqb}
use Rattle.qc_list.specs.Vocabulary.{In}
use Rattle.qc_list.proofs.Members.{In-filter, In-unfiltered}
use Rattle.qc_msg.specs.Vocabulary.{Entry}
use Rattle.qc_promise.specs.Vocabulary.{AreFallsBelow, Arm, DiskAccount, DiskArm, IsEverInTime, IsInTime, Spent, Tally}
use Rattle.qc_promise.specs.Vocabulary.{disk_account, disk_account_with, no_disk_account, no_tally, tally, tally_with}
use Rattle.qc_promise.specs.Vocabulary.{total_below}
use Rattle.qc_spent.proofs.Ends.{Front, front as cut_front, all, less}
use Rattle.qc_spent.proofs.OwnArms.{arm_of, arms_of, of_actor}
use Rattle.qc_spent.proofs.Sums.{total_less}
use Rattle.qc_spent.proofs.Agreement.{Agrees, agrees_step}

zeros : (n : ℕ) → 0 ≡ total_below n (λ a. 0)
zeros zero = refl
zeros (suc n) = omega (arith, zeros n)

none_agree : (n : ℕ) → Agrees n no_tally (λ a. no_disk_account)
none_agree n = record { arms = λ a. refl; count = zeros n }

goes_on : (n : ℕ) (t : Tally) (accounts : ℕ → DiskAccount) (h : List Entry) → AreFallsBelow n h → Agrees n t accounts
    → Agrees n (fold (λ s (e : Entry). tally_with s e.actor e.step) t h)
    (λ a. fold (λ s (e : Entry). disk_account_with a s e.actor e.step) (accounts a) h)
goes_on n t accounts [] below is = is
goes_on n t accounts (e ∷ h) below is =
    goes_on n (tally_with t e.actor e.step) (λ a. disk_account_with a (accounts a) e.actor e.step) h below.1
    (agrees_step n t accounts e.actor e.step below.0 is)

pub agree : (n : ℕ) (h : List Entry) → AreFallsBelow n h → Agrees n (tally h) (λ a. disk_account a h)
agree n h below = goes_on n no_tally (λ a. no_disk_account) h below (none_agree n)

front : (n : ℕ) (before later : List Entry) → AreFallsBelow n (before ++ later) → AreFallsBelow n before
front n [] later below = tt
front n (e ∷ before) later below = (below.0, front n before later below.1)

-- an arm that waits is its actor's
arm_in_time : (x : Arm) (w : Option DiskArm) → In x (arms_of x.actor w)
    → ((v : DiskArm) → w ≡ Some v → v.calls.fewest < v.at) → x.calls.fewest < x.at
arm_in_time x None there soon = absurd there
arm_in_time x (Some w) (inl same) soon = subst (λ (y : Arm). y.calls.fewest < y.at) (sym same) (soon w refl)
arm_in_time x (Some w) (inr none) soon = absurd none

pub accounts_make_spent : (h : List Entry) (actors n : ℕ) (counts : ℕ → ℕ) → AreFallsBelow actors h
    → ((a : ℕ) → IsEverInTime a h)
    → ((a : ℕ) → (disk_account a h).unarmed ≤ counts a) → total_below actors counts ≤ n → Spent h n
accounts_make_spent h actors n counts below times few sum = record {
  falls =
      let each : total_below actors (λ a. (disk_account a h).unarmed) ≤ total_below actors counts =
      total_less actors (λ a. (disk_account a h).unarmed) counts few in
      omega (arith, (agree actors h below).count, each, sum);
  in_time = λ before later is x there.
      let fronts = front actors before later (subst (AreFallsBelow actors) (sym is) below) in
      let own : In x (filter (of_actor x.actor) (tally before).left) =
      In-filter (of_actor x.actor) x (tally before).left there (eq-eqb x.actor x.actor refl) in
      arm_in_time x (disk_account x.actor before).waiting
      (subst (λ (l : List Arm). In x l) ((agree actors before fronts).arms x.actor) own)
      (times x.actor before later is);
}

-- the other way round
pub ever_in_time : (h : List Entry) (actors n : ℕ) → AreFallsBelow actors h → Spent h n → (a : ℕ) → IsEverInTime a h
ever_in_time h actors n below is a before later cut w waits =
    let fronts = front actors before later (subst (AreFallsBelow actors) (sym cut) below) in
    let own : filter (of_actor a) (tally before).left ≡ arm_of a w ∷ [] =
    (agree actors before fronts).arms a ∙ ap (arms_of a) waits in
    let there : In (arm_of a w) (filter (of_actor a) (tally before).left) =
    subst (λ (l : List Arm). In (arm_of a w) l) (sym own) (inl refl) in
    is.in_time before later cut (arm_of a w) (In-unfiltered (of_actor a) (arm_of a w) (tally before).left there)

pub few_falls : (h : List Entry) (actors n : ℕ) → AreFallsBelow actors h → Spent h n
    → total_below actors (λ a. (disk_account a h).unarmed) ≤ n
few_falls h actors n below is = omega (arith, (agree actors h below).count, is.falls)

-- one entry more
pub in_time_more : (a : ℕ) (h : List Entry) (e : Entry) → IsEverInTime a h
    → IsInTime (disk_account_with a (disk_account a h) e.actor e.step) → IsEverInTime a (h ++ e ∷ [])
in_time_more a h e ever now before later is = by (cut_front h e before later is)
  where
    by : Front h e before → IsInTime (disk_account a before)
    by (all whole) =
        subst (λ (l : List Entry). IsInTime (disk_account a l)) (sym whole)
        (subst IsInTime
        (sym (fold-append (λ (t : DiskAccount) (x : Entry). disk_account_with a t x.actor x.step) no_disk_account h
        (e ∷ []))) now)
    by (less rest part) = ever before rest part

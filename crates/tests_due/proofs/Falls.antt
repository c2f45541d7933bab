-- Falls that nothing accounts for and faults that don't come are refused, and the right ones are taken.
use Rattle.std.proofs.Common.{◌≡◌, ◌≤◌, ◌<◌, ℕ, List, [], ◌∷◌, ◌++◌, fold, inl, refl, sym, subst, arith}
use Rattle.qc_list.proofs.Members.{every-In}
use Rattle.qc_list.specs.Vocabulary.{In}
use Rattle.qc_msg.specs.Vocabulary.{Entry}
use Rattle.qc_outside.specs.declared.disk.ArmKind.{ArmKind}
use Rattle.qc_outside.specs.declared.disk.ArmKind.TheVariants.{Fail, Stop}
use Rattle.qc_promise.specs.Vocabulary.{Arm, Spent, Tally, no_tally, tally, tally_with}
use Rattle.std.specs.List.{AllByRecursion as Every}
use Rattle.tests_due.specs.Vocabulary.{arms, arms_other, fails, rises_with_one, stops, stops_rising}
use Rattle.tests_due.specs.Disks.{crashes, damaged, rises, writes}

-- more falls than were counted

pub unarmed : Spent (stops ∷ []) 0 → ⊥
unarmed s = let few : 1 ≤ 0 = s.falls in omega arith

pub armed_after : Spent (stops ∷ arms Stop 1 ∷ []) 0 → ⊥
armed_after s = let few : 1 ≤ 0 = s.falls in omega arith

pub armed_another : Spent (arms_other Stop 1 ∷ stops ∷ []) 0 → ⊥
armed_another s = let few : 1 ≤ 0 = s.falls in omega arith

pub armed_to_stop : Spent (arms Stop 2 ∷ fails ∷ []) 0 → ⊥
armed_to_stop s = let few : 1 ≤ 0 = s.falls in omega arith

pub armed_to_fail : Spent (arms Fail 2 ∷ stops ∷ []) 0 → ⊥
armed_to_fail s = let few : 1 ≤ 0 = s.falls in omega arith

pub stops_twice : Spent (arms Stop 1 ∷ stops ∷ rises ∷ stops ∷ []) 0 → ⊥
stops_twice s = let few : 1 ≤ 0 = s.falls in omega arith

pub one_is_kept : Spent (arms Stop 1 ∷ arms Stop 1 ∷ stops ∷ rises ∷ stops ∷ []) 0 → ⊥
one_is_kept s = let few : 1 ≤ 0 = s.falls in omega arith

pub is_replaced : Spent (arms Fail 1 ∷ arms Stop 9 ∷ fails ∷ []) 0 → ⊥
is_replaced s = let few : 1 ≤ 0 = s.falls in omega arith

pub counted_once : Spent (stops ∷ rises ∷ stops ∷ []) 1 → ⊥
counted_once s = let few : 2 ≤ 1 = s.falls in omega arith

pub early_in_record : Spent (arms Stop 5 ∷ stops ∷ []) 0 → ⊥
early_in_record s = let few : 1 ≤ 0 = s.falls in omega arith

pub early_in_second : Spent (arms Stop 9 ∷ writes ∷ stops ∷ []) 0 → ⊥
early_in_second s = let few : 1 ≤ 0 = s.falls in omega arith

pub early_in_opening : Spent (arms Stop 3 ∷ crashes ∷ stops_rising ∷ []) 0 → ⊥
early_in_opening s = let few : 1 ≤ 0 = s.falls in omega arith

pub early_after_reading : Spent (arms Stop 6 ∷ crashes ∷ rises_with_one ∷ stops ∷ []) 0 → ⊥
early_after_reading s = let few : 1 ≤ 0 = s.falls in omega arith

pub early_after_damage : Spent (arms Stop 4 ∷ crashes ∷ damaged ∷ stops_rising ∷ []) 0 → ⊥
early_after_damage s = let few : 1 ≤ 0 = s.falls in omega arith

-- an arm of the site, with the calls since, and one that waits past its call
abbrev waiting : ArmKind → ℕ → ℕ → ℕ → Arm
waiting kind at fewest most = record {
  actor = 0;
  kind = kind;
  at = at;
  calls = record { fewest = fewest; most = most };
}

pub record_passes : (n : ℕ) → Spent (arms Stop 4 ∷ writes ∷ []) n → ⊥
record_passes n s = let late : 4 < 4 = s.in_time (arms Stop 4 ∷ writes ∷ []) [] refl (waiting Stop 4 4 4) (inl refl) in
    omega arith

pub opening_passes : (n : ℕ) → Spent (arms Stop 5 ∷ crashes ∷ rises ∷ writes ∷ []) n → ⊥
opening_passes n s = let late : 5 < 5 = s.in_time (arms Stop 5 ∷ crashes ∷ rises ∷ writes ∷ []) [] refl
    (waiting Stop 5 5 6) (inl refl) in omega arith

pub openings_pass : (n : ℕ) → Spent (arms Stop 2 ∷ crashes ∷ rises ∷ crashes ∷ rises ∷ []) n → ⊥
openings_pass n s = let late : 2 < 2 = s.in_time (arms Stop 2 ∷ crashes ∷ rises ∷ crashes ∷ rises ∷ []) [] refl
    (waiting Stop 2 2 4) (inl refl) in omega arith

pub fall_passes : (n : ℕ) → Spent (arms Stop 1 ∷ fails ∷ []) n → ⊥
fall_passes n s = let late : 1 < 1 = s.in_time (arms Stop 1 ∷ fails ∷ []) [] refl (waiting Stop 1 1 4) (inl refl) in
    omega arith

pub fall_leaves : (n : ℕ) → Spent (arms Stop 9 ∷ stops ∷ rises ∷ writes ∷ writes ∷ []) n → ⊥
fall_leaves n s = let late : 10 < 9 = s.in_time (arms Stop 9 ∷ stops ∷ rises ∷ writes ∷ writes ∷ []) [] refl
    (waiting Stop 9 10 14) (inl refl) in omega arith

-- right ones: at each moment each arm that waits is in time

abbrev InTime : Arm → Type 0
InTime a = a.calls.fewest < a.at

abbrev EachInTime : Tally → List Entry → Type 0
EachInTime t [] = Every InTime t.left
EachInTime t (e ∷ h) = Every InTime t.left × EachInTime (tally_with t e.actor e.step) h

at_start : (t : Tally) (later : List Entry) → EachInTime t later → Every InTime t.left
at_start t [] each = each
at_start t (e ∷ later) each = each.0

abbrev tallied : Tally → List Entry → Tally
tallied t h = fold (λ s (e : Entry). tally_with s e.actor e.step) t h

at_cut : (t : Tally) (before later : List Entry) → EachInTime t (before ++ later) → Every InTime (tallied t before).left
at_cut t [] later each = at_start t later each
at_cut t (e ∷ before) later each = at_cut (tally_with t e.actor e.step) before later each.1

in_time : (h : List Entry) → EachInTime no_tally h → (before later : List Entry) → before ++ later ≡ h → (a : Arm)
    → In a (tally before).left → a.calls.fewest < a.at
in_time h each before later is a waits =
    every-In InTime a (tally before).left (at_cut no_tally before later (subst (EachInTime no_tally) (sym is) each))
    waits

pub armed : Spent (arms Stop 5 ∷ writes ∷ stops ∷ rises_with_one ∷ writes ∷ []) 0
armed = record {
  falls = omega arith;
  in_time =
      in_time (arms Stop 5 ∷ writes ∷ stops ∷ rises_with_one ∷ writes ∷ [])
      (tt, ((omega arith, tt), ((omega arith, tt), (tt, (tt, tt)))));
}

pub armed_over_crash : Spent (arms Stop 6 ∷ crashes ∷ rises ∷ writes ∷ stops ∷ []) 0
armed_over_crash = record {
  falls = omega arith;
  in_time = in_time (arms Stop 6 ∷ crashes ∷ rises ∷ writes ∷ stops ∷ [])
      (tt, ((omega arith, tt), ((omega arith, tt), ((omega arith, tt), ((omega arith, tt), tt)))));
}

pub armed_over_reading : Spent (arms Stop 5 ∷ crashes ∷ rises_with_one ∷ stops ∷ []) 0
armed_over_reading = record {
  falls = omega arith;
  in_time = in_time (arms Stop 5 ∷ crashes ∷ rises_with_one ∷ stops ∷ [])
      (tt, ((omega arith, tt), ((omega arith, tt), ((omega arith, tt), tt))));
}

pub armed_in_opening : Spent (arms Stop 2 ∷ crashes ∷ stops_rising ∷ rises ∷ []) 0
armed_in_opening = record {
  falls = omega arith;
  in_time = in_time (arms Stop 2 ∷ crashes ∷ stops_rising ∷ rises ∷ [])
      (tt, ((omega arith, tt), ((omega arith, tt), (tt, tt))));
}

pub armed_anew : Spent (arms Stop 1 ∷ arms Stop 9 ∷ writes ∷ writes ∷ []) 0
armed_anew = record {
  falls = omega arith;
  in_time = in_time (arms Stop 1 ∷ arms Stop 9 ∷ writes ∷ writes ∷ [])
      (tt, ((omega arith, tt), ((omega arith, tt), ((omega arith, tt), (omega arith, tt)))));
}

pub armed_for_both : Spent (arms Stop 1 ∷ stops ∷ arms Fail 3 ∷ rises ∷ fails ∷ []) 0
armed_for_both = record {
  falls = omega arith;
  in_time = in_time (arms Stop 1 ∷ stops ∷ arms Fail 3 ∷ rises ∷ fails ∷ [])
      (tt, ((omega arith, tt), (tt, ((omega arith, tt), ((omega arith, tt), tt)))));
}

pub another_waits : Spent (arms_other Stop 1 ∷ writes ∷ []) 0
another_waits = record {
  falls = omega arith;
  in_time = in_time (arms_other Stop 1 ∷ writes ∷ []) (tt, ((omega arith, tt), (omega arith, tt)));
}

pub counted : Spent (stops ∷ []) 1
counted = record { falls = omega arith; in_time = in_time (stops ∷ []) (tt, tt) }

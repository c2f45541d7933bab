-- A call that runs nothing: its history has no entry, and the rack is asked for nothing.
use Rattle.std.proofs.Common.{◌≡◌, ◌≤◌, ◌<◌, ◌-◌, ◌^◌, ℕ, List, [], ◌∷◌, ◌++◌, Option, Ok, Err, refl, sym, subst, ap}
use Rattle.std.proofs.Common.{◌∙◌, arith}
use Rattle.std.specs.Prelude.{IsSome}
use Rattle.qc_decl.specs.declared.declaration.Declaration.{Declaration}
use Rattle.qc_list.specs.Vocabulary.{In}
use Rattle.qc_msg.specs.Vocabulary.{Entry}
use Rattle.qc_node.specs.Vocabulary.{AreEmpty, HoldJournals, IsRefused}
use Rattle.qc_outside.specs.Vocabulary.{Places}
use Rattle.qc_outside.specs.declared.rack.RackFault.{RackFault}
use Rattle.qc_outside.specs.declared.rack.RackFault.TheVariants as racks
use Rattle.qc_promise.specs.Vocabulary.{Arm, Kept, Spent, tally}
use Rattle.qc_report.specs.declared.cause.Cause.{Cause}
use Rattle.qc_report.specs.declared.cause.Cause.TheVariants as causes
use Rattle.qc_script.specs.Vocabulary.{phase_of}
use Rattle.qc_top.specs.Vocabulary.{Caused, FillsPlaces, IsNoRack, IsRackBlamed, IsUsed, LeavesRack, cause_of_rack}
use Rattle.qc_top.specs.declared.work.Work.{Work}
use Rattle.qc_top.specs.declared.work.Work.TheVariants as works

-- the history with no entry: records are kept, no fall is to be accounted for, and no phase began

kept_at_first : Kept []
kept_at_first [] later e is = absurd (let never : ⊥ = cc in never)
kept_at_first (x ∷ before) later e is = absurd (let never : ⊥ = cc in never)

pub begun_kept : (h : List Entry) → h ≡ [] → Kept h
begun_kept h none = subst Kept (sym none) kept_at_first

none_waits : (before later : List Entry) → before ++ later ≡ [] → (a : Arm) → In a (tally before).left
    → a.calls.fewest < a.at
none_waits [] later is a waits = absurd waits
none_waits (x ∷ before) later is a waits = absurd (let never : ⊥ = cc in never)

spent_at_first : (n : ℕ) → Spent [] n
spent_at_first n = let none : (tally []).unarmed ≡ 0 = refl in record { falls = omega arith; in_time = none_waits }

pub begun_spent : (h : List Entry) (n : ℕ) → h ≡ [] → Spent h n
begun_spent h n none = subst (λ (k : List Entry). Spent k n) (sym none) (spent_at_first n)

none_began : (h : List Entry) → h ≡ [] → 1 ≤ phase_of h → ⊥
none_began h none began = let first : phase_of h ≡ 0 = ap phase_of none in omega arith

-- what such a call leaves of the rack, whatever it had to do

pub idle_rack : {R : Type 0} (folder : Option (List ℕ)) (told : R → Option Places) (work : Caused Work)
    (before after : R) (h : List Entry) → after ≡ before → h ≡ [] → LeavesRack folder told work before after h
idle_rack folder told (Err why) before after h same none = same
idle_rack folder told (Ok (works.Accept decl)) before after h same none = same
idle_rack folder told (Ok (works.Run decl script output)) before after h same none =
    record { empty = λ began. absurd (none_began h none began); journals = λ began. absurd (none_began h none began) }

pub idle_used : {R : Type 0} (folder : Option (List ℕ)) (faults : R → ℕ) (told : R → Option Places) (rack : R)
    (cause : Cause) (h : List Entry) → h ≡ [] → IsNoRack cause → IsUsed folder faults told rack rack cause h
idle_used folder faults told rack cause h none blameless = record {
  spent = λ below. begun_spent h (faults rack - faults rack) none;
  kept = λ tells. begun_kept h none;
  tells = λ tells. tells;
  later = omega arith;
  blame = λ fault is. absurd (blameless fault is);
}

-- where the rack gave no disk, it alone is asked

abbrev the_rack : RackFault → Cause
the_rack fault = causes.Rack fault

pub refused_so : (folder : Option (List ℕ)) (told : Option Places) (before now : ℕ) (fault : RackFault)
    → IsRefused folder told before now fault → (named : RackFault) → cause_of_rack fault ≡ the_rack named
    → IsRackBlamed folder told before now named
refused_so folder told before now (racks.NotEmpty actor) here named is =
    subst (IsRackBlamed folder told before now) (let same : racks.NotEmpty actor ≡ named = cc in same)
    (here, λ wants. let never : ⊥ = cc in never)
refused_so folder told before now (racks.Failed actor) here named is =
    subst (IsRackBlamed folder told before now) (let same : racks.Failed actor ≡ named = cc in same)
    (here, λ wants. let never : ⊥ = cc in never)
refused_so folder told before now racks.OutOfMemory here named is = absurd (let never : ⊥ = cc in never)

-- what a call leaves of the rack for whose run it gave no disk

pub unbegun_places : (folder : Option (List ℕ)) (decl : Declaration) (before after : Option Places) (h : List Entry)
    → h ≡ [] → FillsPlaces folder decl before after h
unbegun_places folder decl before after h none =
    record { empty = λ began. absurd (none_began h none began); journals = λ began. absurd (none_began h none began) }

pub unbegun_used : {R : Type 0} (folder : Option (List ℕ)) (faults : R → ℕ) (told : R → Option Places)
    (before after : R) (fault : RackFault) (cause : Cause) (h : List Entry) → h ≡ [] → cause ≡ cause_of_rack fault
    → (IsSome (told before) → IsSome (told after)) → faults before ≤ faults after
    → IsRefused folder (told before) (faults before) (faults after) fault
    → IsUsed folder faults told before after cause h
unbegun_used folder faults told before after fault cause h none is tells later refused = record {
  spent = λ below. begun_spent h (faults after - faults before) none;
  kept = λ here. begun_kept h none;
  tells = tells;
  later = later;
  blame = λ named same. refused_so folder (told before) (faults before) (faults after) fault refused named
      (sym is ∙ same);
}

-- and of one that ran

pub ran_used : {R : Type 0} (folder : Option (List ℕ)) (faults : R → ℕ) (told : R → Option Places) (before after : R)
    (cause : Cause) (h ran : List Entry) → h ≡ ran
    → (faults after < 2 ^ 64 - 1 → Spent ran (faults after - faults before))
    → (IsSome (told before) → Kept ran) → (IsSome (told before) → IsSome (told after)) → faults before ≤ faults after
    → IsNoRack cause → IsUsed folder faults told before after cause h
ran_used folder faults told before after cause h ran same spent kept tells later blameless = record {
  spent = λ below. subst (λ (k : List Entry). Spent k (faults after - faults before)) (sym same) (spent below);
  kept = λ here. subst Kept (sym same) (kept here);
  tells = tells;
  later = later;
  blame = λ fault is. absurd (blameless fault is);
}

pub ran_places : (folder : Option (List ℕ)) (decl : Declaration) (before after : Option Places) (h ran : List Entry)
    → h ≡ ran → AreEmpty folder decl before → (1 ≤ phase_of ran → HoldJournals folder decl ran after)
    → FillsPlaces folder decl before after h
ran_places folder decl before after h ran same empty hold = record {
  empty = λ began. empty;
  journals = λ began. subst (λ (k : List Entry). HoldJournals folder decl k after) (sym same)
      (hold (subst (λ (k : List Entry). 1 ≤ phase_of k) same began));
}

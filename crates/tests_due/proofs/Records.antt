-- Histories with a lost or an invented record aren't kept, and those without are.
use Rattle.std.proofs.Common.{◌≡◌, ℕ, ◌+◌, ◌*◌, List, [], ◌∷◌, ◌++◌, option_to_list, inl, inr, refl, sym, ap, subst}
use Rattle.std.proofs.Common.{arith}
use Rattle.std.proofs.lemmas.List.{append-nil, append_assoc}
use Rattle.qc_msg.specs.Vocabulary.{Entry, marked, own}
use Rattle.qc_msg.specs.declared.record.Record.{Record}
use Rattle.qc_msg.specs.declared.record.Record.TheVariants as records
use Rattle.qc_msg.specs.declared.step.Step.TheVariants.{Damaged, Wrote}
use Rattle.qc_promise.specs.Vocabulary.{IsGivenBack, IsKeptAt, Kept, journal_of}
use Rattle.tests_due.specs.Vocabulary.{after_one, after_stop, after_two, at_last, crashes, damaged, elsewhere, first}
use Rattle.tests_due.specs.Vocabulary.{later, rises, second, stops_at, twice, writes}

-- records as the digits of a number, by which lists of the two are told apart

abbrev digit : Record → ℕ
digit records.Life = 0
digit (records.Prepare p) = 0
digit (records.Done tx clock) = 0
digit (records.Close epoch) = epoch
digit (records.Install start) = 0
digit (records.Commit c) = 0
digit (records.Decide start) = 0

abbrev digits : List Record → ℕ
digits [] = 0
digits (r ∷ rs) = digit r + 10 * digits rs

-- a site that rises with neither is refused
refused : (before later : List Entry) (given : List Record)
    → (digits given ≡ digits (journal_of (own 0 before)).records → ⊥)
    → (digits given ≡ digits ((journal_of (own 0 before)).records ++ option_to_list (journal_of (own 0 before)).pending)
    → ⊥) → Kept (before ++ rises given ∷ later) → ⊥
refused before later given without with kept = by (kept before later (rises given) refl)
  where
    by : IsGivenBack (journal_of (own 0 before)) given → ⊥
    by (inl same) = without (ap digits same)
    by (inr same) = with (ap digits same)

-- what was written

pub none_of_one : Kept (after_one []) → ⊥
none_of_one = refused (writes first ∷ crashes ∷ []) [] [] (λ same. let e : 0 ≡ 1 = same in omega arith)
    (λ same. let e : 0 ≡ 1 = same in omega arith)

pub first_of_two : Kept (after_two (first ∷ [])) → ⊥
first_of_two = refused (writes first ∷ writes second ∷ crashes ∷ []) [] (first ∷ [])
    (λ same. let e : 1 ≡ 21 = same in omega arith) (λ same. let e : 1 ≡ 21 = same in omega arith)

pub second_of_two : Kept (after_two (second ∷ [])) → ⊥
second_of_two = refused (writes first ∷ writes second ∷ crashes ∷ []) [] (second ∷ [])
    (λ same. let e : 2 ≡ 21 = same in omega arith) (λ same. let e : 2 ≡ 21 = same in omega arith)

pub not_since : Kept (later (first ∷ [])) → ⊥
not_since = refused (writes first ∷ crashes ∷ rises (first ∷ []) ∷ writes second ∷ crashes ∷ []) [] (first ∷ [])
    (λ same. let e : 1 ≡ 21 = same in omega arith) (λ same. let e : 1 ≡ 21 = same in omega arith)

pub not_before : Kept (later (second ∷ [])) → ⊥
not_before = refused (writes first ∷ crashes ∷ rises (first ∷ []) ∷ writes second ∷ crashes ∷ []) [] (second ∷ [])
    (λ same. let e : 2 ≡ 21 = same in omega arith) (λ same. let e : 2 ≡ 21 = same in omega arith)

pub not_read : Kept damaged → ⊥
not_read kept = kept (writes first ∷ crashes ∷ []) [] (marked 0 (Damaged 0)) refl

pub one_more : Kept (after_one (first ∷ second ∷ [])) → ⊥
one_more = refused (writes first ∷ crashes ∷ []) [] (first ∷ second ∷ []) (λ same. let e : 21 ≡ 1 = same in omega arith)
    (λ same. let e : 21 ≡ 1 = same in omega arith)

pub another_one : Kept (after_one (second ∷ [])) → ⊥
another_one = refused (writes first ∷ crashes ∷ []) [] (second ∷ []) (λ same. let e : 2 ≡ 1 = same in omega arith)
    (λ same. let e : 2 ≡ 1 = same in omega arith)

pub doubled : Kept (after_one (first ∷ first ∷ [])) → ⊥
doubled = refused (writes first ∷ crashes ∷ []) [] (first ∷ first ∷ []) (λ same. let e : 11 ≡ 1 = same in omega arith)
    (λ same. let e : 11 ≡ 1 = same in omega arith)

pub turned : Kept (after_two (second ∷ first ∷ [])) → ⊥
turned = refused (writes first ∷ writes second ∷ crashes ∷ []) [] (second ∷ first ∷ [])
    (λ same. let e : 12 ≡ 21 = same in omega arith) (λ same. let e : 12 ≡ 21 = same in omega arith)

pub of_another : Kept (elsewhere (first ∷ [])) → ⊥
of_another = refused (marked 1 (Wrote first) ∷ crashes ∷ []) [] (first ∷ [])
    (λ same. let e : 1 ≡ 0 = same in omega arith) (λ same. let e : 1 ≡ 0 = same in omega arith)

-- what was being written

pub pending_alone : Kept (after_stop (second ∷ [])) → ⊥
pending_alone = refused (writes first ∷ stops_at second ∷ []) [] (second ∷ [])
    (λ same. let e : 2 ≡ 1 = same in omega arith) (λ same. let e : 2 ≡ 21 = same in omega arith)

pub pending_before : Kept (after_stop (second ∷ first ∷ [])) → ⊥
pending_before = refused (writes first ∷ stops_at second ∷ []) [] (second ∷ first ∷ [])
    (λ same. let e : 12 ≡ 1 = same in omega arith) (λ same. let e : 12 ≡ 21 = same in omega arith)

pub pending_takes : Kept (after_stop []) → ⊥
pending_takes = refused (writes first ∷ stops_at second ∷ []) [] [] (λ same. let e : 0 ≡ 1 = same in omega arith)
    (λ same. let e : 0 ≡ 21 = same in omega arith)

pub pending_doubled : Kept (twice (first ∷ first ∷ []) []) → ⊥
pending_doubled = refused (stops_at first ∷ []) (crashes ∷ rises [] ∷ []) (first ∷ first ∷ [])
    (λ same. let e : 11 ≡ 0 = same in omega arith) (λ same. let e : 11 ≡ 1 = same in omega arith)

pub pending_late : Kept (twice [] (first ∷ [])) → ⊥
pending_late = refused (stops_at first ∷ rises [] ∷ crashes ∷ []) [] (first ∷ [])
    (λ same. let e : 1 ≡ 0 = same in omega arith) (λ same. let e : 1 ≡ 0 = same in omega arith)

pub pending_gone : Kept (twice (first ∷ []) []) → ⊥
pending_gone = refused (stops_at first ∷ rises (first ∷ []) ∷ crashes ∷ []) [] []
    (λ same. let e : 0 ≡ 1 = same in omega arith) (λ same. let e : 0 ≡ 1 = same in omega arith)

-- right ones: each step keeps the records, by the steps before it

abbrev EachKept : List Entry → List Entry → Type 0
EachKept before [] = Unit {0}
EachKept before (e ∷ h) = IsKeptAt (own e.actor before) e.step × EachKept (before ++ e ∷ []) h

at_cut : (past before later : List Entry) (e : Entry) → EachKept past (before ++ e ∷ later)
    → IsKeptAt (own e.actor (past ++ before)) e.step
at_cut past [] later e each = subst (λ (xs : List Entry). IsKeptAt (own e.actor xs) e.step)
    (sym (append-nil past)) each.0
at_cut past (x ∷ before) later e each =
    subst (λ (xs : List Entry). IsKeptAt (own e.actor xs) e.step) (append_assoc past (x ∷ []) before)
    (at_cut (past ++ x ∷ []) before later e each.1)

taken : (h : List Entry) → EachKept [] h → Kept h
taken h each before later e is = at_cut [] before later e (subst (EachKept []) (sym is) each)

pub two_kept : Kept (after_two (first ∷ second ∷ []))
two_kept = taken (after_two (first ∷ second ∷ [])) (tt, (tt, (tt, (inl refl, tt))))

pub later_kept : Kept (later (first ∷ second ∷ []))
later_kept = taken (later (first ∷ second ∷ [])) (tt, (tt, (inl refl, (tt, (tt, (inl refl, tt))))))

pub pending_given : Kept (after_stop (first ∷ second ∷ []))
pending_given = taken (after_stop (first ∷ second ∷ [])) (tt, (tt, (inr refl, tt)))

pub pending_stays : Kept (twice (first ∷ []) (first ∷ []))
pending_stays = taken (twice (first ∷ []) (first ∷ [])) (tt, (inr refl, (tt, (inl refl, tt))))

pub pending_dropped : Kept (after_stop (first ∷ []))
pending_dropped = taken (after_stop (first ∷ [])) (tt, (tt, (inl refl, tt)))

pub pending_away : Kept (twice [] [])
pending_away = taken (twice [] []) (tt, (inl refl, (tt, (inl refl, tt))))

pub given_at_last : Kept (at_last (first ∷ second ∷ []))
given_at_last = taken (at_last (first ∷ second ∷ [])) (tt, (tt, (tt, (inr refl, tt))))

pub not_missed : Kept (elsewhere [])
not_missed = taken (elsewhere []) (tt, (tt, (inl refl, tt)))

-- What is decided by the administrator's questions is what is due by his account: whether all are answered, who is in
-- doubt, and what the next epoch begins with.
use Rattle.std.proofs.Common.{◌≡◌, ℕ, zero, suc, ◌+◌, ◌&&◌, Bool, true, false, cond, List, [], ◌∷◌, map, fold, max}
use Rattle.std.proofs.Common.{Option, Some, None, refl, sym, ap, ◌∙◌, subst, take}
use Rattle.std.specs.Prelude.{is_some, option_and_then, not}
use Rattle.std.specs.List.{filter_map, find, list_all}
use Rattle.std.specs.Option.{option_map_or}
use Rattle.std.proofs.lemmas.List.Folds.{fold-map}
use Rattle.std.proofs.lemmas.List.Sums.{fold-append}
use Rattle.qc_stamp.specs.declared.stamp.Stamp.{Stamp}
use Rattle.qc_stamp.specs.declared.stamp.TxId.{TxId}
use Rattle.qc_entry.specs.declared.line.Line.{Line}
use Rattle.qc_entry.specs.declared.record.Prepared.{Prepared}
use Rattle.qc_entry.specs.Vocabulary.{union}
use Rattle.qc_msg.specs.declared.message.Outcome.{Outcome}
use Rattle.qc_msg.specs.declared.message.Outcome.TheVariants.{Committed, Aborted, Active}
use Rattle.qc_msg.specs.declared.payload.EpochStart.{EpochStart}
use Rattle.qc_promise.specs.Vocabulary.{AdminAccount, AdminRequest, Promised, ToldShut, all_answered, ask_of}
use Rattle.qc_promise.specs.Vocabulary.{decided_epoch, decision_due, first_doubt, lines_of, most_questions}
use Rattle.qc_promise.specs.Vocabulary.{promised_once, shuts_told, verdict_of, with_told}
use Rattle.qc_promise.specs.AdminRounds.{is_final}
use Rattle.qc_promise.specs.AdminRounds as account
use Rattle.qc_epoch.specs.Vocabulary.{Question, ShutSite, all_taken, clock_in, decision, greatest, is_settled}
use Rattle.qc_epoch.specs.Vocabulary.{most_asks, promised_lines, stamp_in, stamp_of, with_promised, with_shut}
use Rattle.qc_epoch.specs.Deciding as deciding
use Rattle.laws_due.proofs.AdminShuts.{to_shut}
use Rattle.laws_due.proofs.AdminAgreements.{Agree, is_taken}
use Rattle.laws_due.proofs.AdminQuestions.{about, heard, outcome_of, stamp_heard}

-- a decision as an account has it

abbrev pub started : EpochStart → EpochStart
started d = record { epoch = d.epoch; clock = d.clock; lines = d.lines }

-- who is in doubt first

abbrev pub SameDoubt : Option Promised → Option Question → Type 0
SameDoubt None None = Unit {0}
SameDoubt None (Some x) = ⊥
SameDoubt (Some p) None = ⊥
SameDoubt (Some p) (Some x) = (x.tx ≡ p.tx) × (x.site ≡ p.site)

settled_heard : (t : Option (Option Outcome)) → is_settled t ≡ option_map_or is_final (heard t) false
settled_heard None = refl
settled_heard (Some None) = refl
settled_heard (Some (Some (Committed stamp))) = refl
settled_heard (Some (Some Aborted)) = refl
settled_heard (Some (Some Active)) = refl

module _ (all : List AdminRequest) where
  abbrev doubtful : Promised → Bool
  doubtful p = not (option_map_or is_final (outcome_of (about all p.tx)) false)

  doubts_agree : (ps : List Promised) (xs : List Question) → Agree all ps xs
      → SameDoubt (find (λ (p : Promised). not (option_map_or is_final (outcome_of (about all p.tx)) false)) ps)
      (deciding.first_doubt xs)
  doubts_agree [] [] agree = tt
  doubts_agree [] (x ∷ xs) agree = absurd agree
  doubts_agree (p ∷ ps) [] agree = absurd agree
  doubts_agree (p ∷ ps) (x ∷ xs) agree =
      subst (λ (b : Bool). SameDoubt (cond (not (option_map_or is_final (outcome_of (about all p.tx)) false)) (Some p)
      (find (λ (q : Promised). not (option_map_or is_final (outcome_of (about all q.tx)) false)) ps))
      (cond b (deciding.first_doubt xs) (Some x)))
      (sym (settled_heard x.taken ∙ ap (λ (o : Option Outcome). option_map_or is_final o false) (agree.0).outcome))
      (by (option_map_or is_final (outcome_of (about all p.tx)) false) (doubts_agree ps xs agree.1))
    where
      by : (b : Bool) → SameDoubt (find (λ (q : Promised). not
          (option_map_or is_final (outcome_of (about all q.tx)) false)) ps) (deciding.first_doubt xs)
          → SameDoubt (cond (not b) (Some p) (find
          (λ (q : Promised). not (option_map_or is_final (outcome_of (about all q.tx)) false)) ps))
          (cond b (deciding.first_doubt xs) (Some x))
      by true more = more
      by false more = ((agree.0).tx, (agree.0).site)

  taken_agree : (n : ℕ) (ps : List Promised) (xs : List Question) → Agree all ps xs
      → list_all (λ (x : Question). is_some x.taken) (take n xs) ≡ list_all
      (λ (p : Promised). is_taken (about all p.tx)) (take n ps)
  taken_agree n [] [] agree = none n
    where
      none : (k : ℕ) → list_all (λ (x : Question). is_some x.taken) (take k []) ≡ list_all
          (λ (p : Promised). is_taken (about all p.tx)) (take k [])
      none zero = refl
      none (suc k) = refl
  taken_agree n [] (x ∷ xs) agree = absurd agree
  taken_agree n (p ∷ ps) [] agree = absurd agree
  taken_agree zero (p ∷ ps) (x ∷ xs) agree = refl
  taken_agree (suc n) (p ∷ ps) (x ∷ xs) agree = λ i. (agree.0).answered i && taken_agree n ps xs agree.1 i

  abbrev told_stamps : List Promised → List Stamp
  told_stamps ps = filter_map (λ (p : Promised). option_and_then account.stamp_in (outcome_of (about all p.tx))) ps

  clocks_agree : (ps : List Promised) (xs : List Question) (clock : ℕ) → Agree all ps xs
      → fold (λ (k : ℕ) (x : Question). clock_in k (stamp_in x.taken)) clock xs ≡ fold max clock
      (map (λ (s : Stamp). s.clock) (told_stamps ps))
  clocks_agree [] [] clock agree = refl
  clocks_agree [] (x ∷ xs) clock agree = absurd agree
  clocks_agree (p ∷ ps) [] clock agree = absurd agree
  clocks_agree (p ∷ ps) (x ∷ xs) clock agree =
      ap (λ (o : Option Stamp). fold (λ (k : ℕ) (y : Question). clock_in k (stamp_in y.taken)) (clock_in clock o) xs)
      (stamp_heard x.taken ∙ ap (option_and_then account.stamp_in) (agree.0).outcome)
      ∙ clocks_agree ps xs (clock_in clock (option_and_then account.stamp_in (outcome_of (about all p.tx)))) agree.1
      ∙ by (option_and_then account.stamp_in (outcome_of (about all p.tx))) refl
    where
      by : (o : Option Stamp) → option_and_then account.stamp_in (outcome_of (about all p.tx)) ≡ o
          → fold max (clock_in clock (option_and_then account.stamp_in (outcome_of (about all p.tx))))
          (map (λ (s : Stamp). s.clock) (told_stamps ps))
          ≡ fold max clock (map (λ (s : Stamp). s.clock) (told_stamps (p ∷ ps)))
      by None is = rw is refl
      by (Some s) is = rw is refl

-- by an account, whose requests about transactions these are

module _ (d : AdminAccount) (qs : List AdminRequest) (same : (tx : TxId) → ask_of d tx ≡ about qs tx) where
  told_is : (tx : TxId) → verdict_of d tx ≡ outcome_of (about qs tx)
  told_is tx = ap outcome_of (same tx)

  pub answered_is : (xs : List Question) → Agree qs (promised_once d) xs → all_taken xs ≡ all_answered d
  answered_is xs agree = taken_agree qs most_asks (promised_once d) xs agree
      ∙ ap (λ (f : TxId → Option AdminRequest). list_all (λ (p : Promised). is_taken (f p.tx))
      (take most_questions (promised_once d))) (λ i tx. sym (same tx) i)

  pub doubt_is : (xs : List Question) → Agree qs (promised_once d) xs
      → SameDoubt (first_doubt d) (deciding.first_doubt xs)
  doubt_is xs agree =
      subst (λ (f : TxId → Option Outcome). SameDoubt
      (find (λ (p : Promised). not (option_map_or is_final (f p.tx) false)) (promised_once d))
      (deciding.first_doubt xs)) (λ i tx. sym (told_is tx) i)
      (doubts_agree qs (promised_once d) xs agree)

  -- what the next epoch begins with

  module _ (xs : List Question) (agree : Agree qs (promised_once d) xs)
      (stamped : (tx : TxId) → stamp_of xs tx ≡ option_and_then account.stamp_in (outcome_of (about qs tx))) where
    stamp_is : (tx : TxId) → stamp_of xs tx ≡ account.stamp_of d tx
    stamp_is tx = stamped tx ∙ ap (option_and_then account.stamp_in) (sym (told_is tx))

    lines_are : (p : Prepared) → promised_lines p (stamp_of xs p.tx) ≡ account.promised_lines d p
    lines_are p = ap (promised_lines p) (stamp_is p.tx) ∙ by (account.stamp_of d p.tx)
      where
        by : (o : Option Stamp) → promised_lines p o ≡ option_map_or (λ (s : Stamp). lines_of s p.tx p.own) o []
        by None = refl
        by (Some s) = refl

    prepared_are : (ps : List Prepared) (lines : List Line)
        → fold (with_promised xs) lines ps ≡ fold (account.with_promised d) lines ps
    prepared_are [] lines = refl
    prepared_are (p ∷ ps) lines =
        ap (λ (more : List Line). fold (with_promised xs) (union lines more) ps) (lines_are p)
        ∙ prepared_are ps (account.with_promised d lines p)

    all_lines : (ts : List ToldShut) (lines : List Line)
        → fold (with_shut xs) lines (map to_shut ts) ≡ fold (with_told d) lines ts
    all_lines [] lines = refl
    all_lines (t ∷ ts) lines =
        ap (λ (v : List Line). fold (with_shut xs) v (map to_shut ts))
        (prepared_are t.told.prepared (union lines t.told.log)) ∙ all_lines ts (with_told d lines t)

    clock_is : greatest (map to_shut (shuts_told d)) xs ≡ account.merged_clock d
    clock_is =
        clocks_agree qs (promised_once d) xs (fold (λ (clock : ℕ) (s : ShutSite). max clock s.clock) 0
        (map to_shut (shuts_told d))) agree
        ∙ (λ i. fold max (first i) (map (λ (s : Stamp). s.clock) (second i)))
        ∙ sym (fold-append max 0 (map (λ (s : ToldShut). s.told.clock) (shuts_told d))
        (map (λ (s : Stamp). s.clock) (account.stamps_of d)))
      where
        first : fold (λ (clock : ℕ) (s : ShutSite). max clock s.clock) 0 (map to_shut (shuts_told d)) ≡ fold max 0
            (map (λ (s : ToldShut). s.told.clock) (shuts_told d))
        first = fold-map (λ (clock : ℕ) (s : ShutSite). max clock s.clock) to_shut 0 (shuts_told d)
            ∙ sym (fold-map max (λ (s : ToldShut). s.told.clock) 0 (shuts_told d))

        second : filter_map (λ (p : Promised). option_and_then account.stamp_in (outcome_of (about qs p.tx)))
            (promised_once d) ≡ account.stamps_of d
        second = ap (λ (f : TxId → Option Outcome). filter_map
            (λ (p : Promised). option_and_then account.stamp_in (f p.tx)) (promised_once d))
            (λ i tx. sym (told_is tx) i)

    pub decision_is : started (decision (decided_epoch d + 1) (map to_shut (shuts_told d)) xs) ≡ decision_due d
    decision_is = λ i. record { epoch = decided_epoch d + 1; clock = clock_is i; lines = all_lines (shuts_told d) [] i }

-- Runs of the machine that break the discipline. That they do is told by what is wrong after them: after a disciplined
-- run it isn't.
use Rattle.std.proofs.Common.{◌≡◌, ◌≢◌, ℕ, ◌<◌, ◌≤◌, true, List, [], ◌∷◌, Option, Some, None, is_some, option_map, inl}
use Rattle.std.proofs.Common.{inr, refl, ap, arith}
use Rattle.qc_entry.specs.declared.line.Line.{Line}
use Rattle.qc_decl.specs.declared.declaration.Declaration.{Declaration}
use Rattle.qc_decl.specs.Vocabulary.{IsAccepted, append_need_of}
use Rattle.qc_list.specs.Vocabulary.{In}
use Rattle.theory_onecopy.specs.Vocabulary.{Executed}
use Rattle.qc_stamp.specs.declared.stamp.TxId.{TxId}
use Rattle.theory_machine.specs.Vocabulary.{Decision, IsRun, State, epoch_from, every_guard, site_after, state}
use Rattle.theory_witnesses.proofs.Accepted.{moving_register_accepted, three_in_two_epochs_accepted}
use Rattle.theory_witnesses.proofs.Allowed.{run_of}
use Rattle.theory_witnesses.proofs.Broken.{or_else}
use Rattle.theory_witnesses.proofs.Finding.{IsFound, at_most, below, both, every, proof_of, same_number, some}
use Rattle.theory_witnesses.specs.Vocabulary.{Move, acts_of, moving_register, third, three_in_two_epochs}
use Rattle.theory_bases.specs.Vocabulary.{AreDisciplined, BelongsNow, HasLaterView, HasMissedLine, HasStrayLine}
use Rattle.theory_bases.specs.Vocabulary.{HasTwoDecisions, IsUndisciplinedRun, IsWrittenIn, appended_without_threshold}
use Rattle.theory_bases.specs.Vocabulary.{decided_twice, decided_with_two_logs, granted_in_another_epoch}
use Rattle.theory_bases.specs.Vocabulary.{seen_in_another_epoch, shared_with_another_epoch}
use Rattle.theory_bases.proofs.Above.{epochs_are_decided_once, sites_have_what_their_epoch_began_with}
use Rattle.theory_bases.proofs.Above.{logs_are_split_by_epochs, views_have_no_later_lines}
use Rattle.theory_bases.proofs.Disciplined.{different}

-- the last two decisions are of one epoch, with different clocks
abbrev two_decisions : (now : State) (ds : List Decision) → ((d : Decision) → In d ds → In d now.decided)
    → Option (HasTwoDecisions now)
two_decisions now (e ∷ d ∷ rest) stand =
    option_map made (both (same_number e.epoch d.epoch) (different e.clock d.clock))
  where
    made : (e.epoch ≡ d.epoch) × (e.clock ≢ d.clock) → HasTwoDecisions now
    made f = record {
      one = e;
      other = d;
      first_stands = stand e (inl refl);
      second_stands = stand d (inr (inl refl));
      epochs = f.0;
      apart = λ same. f.1 (ap (λ (x : Decision). x.clock) same);
    }
two_decisions now (d ∷ []) stand = None
two_decisions now [] stand = None

abbrev not_written : (decl : Declaration) (now : State) (k : ℕ) (l : Line)
    → Option (IsWrittenIn decl now.status now.epoch k l → ⊥)
not_written decl now k l = or_else (option_map by_epoch (different (now.epoch l.tx) k))
    (option_map by_weight (at_most (append_need_of decl k l.object l.event) 0))
  where
    by_epoch : now.epoch l.tx ≢ k → IsWrittenIn decl now.status now.epoch k l → ⊥
    by_epoch f x = f x.writer

    by_weight : append_need_of decl k l.object l.event ≤ 0 → IsWrittenIn decl now.status now.epoch k l → ⊥
    by_weight f x = let w : 0 < append_need_of decl k l.object l.event = x.weighs in omega arith

abbrev not_of : (decl : Declaration) (now : State) (k : ℕ) (l : Line) → Option (BelongsNow decl now k l → ⊥)
not_of decl now k l = option_map made (both (not_written decl now k l)
    (every (λ (d : Decision). d.epoch ≢ k) (λ d. different d.epoch k) now.decided))
  where
    made : (IsWrittenIn decl now.status now.epoch k l → ⊥) × ((d : Decision) → In d now.decided → d.epoch ≢ k)
        → BelongsNow decl now k l → ⊥
    made f (inl x) = f.0 x
    made f (inr x) = f.1 x.decision x.stands x.epoch

abbrev stray_at : (site : ℕ) (decl : Declaration) (now : State) → Option (HasStrayLine decl now)
stray_at site decl now = option_map made
    (some (λ (l : Line). BelongsNow decl now (epoch_from 1 (now.deeds site)) l → ⊥)
    (not_of decl now (epoch_from 1 (now.deeds site))) (site_after (now.deeds site)).volatile)
  where
    made : IsFound (λ (l : Line). BelongsNow decl now (epoch_from 1 (now.deeds site)) l → ⊥)
        (site_after (now.deeds site)).volatile → HasStrayLine decl now
    made f = record { site = site; line = f.item; stands = f.stands; stray = f.holds }

-- of a site without lines, one of a decision of its epoch
abbrev absent : (l : Line) (log : List Line) → Option (In l log → ⊥)
absent l [] = Some (λ h. h)
absent l (x ∷ xs) = None

abbrev Missed : State → ℕ → Decision → Type 0
Missed now site d = (epoch_from 1 (now.deeds site) ≡ d.epoch)
    × IsFound (λ (l : Line). In l (site_after (now.deeds site)).volatile → ⊥) d.log

abbrev missed_at : (site : ℕ) (now : State) → Option (HasMissedLine now)
missed_at site now = option_map made (some (Missed now site)
    (λ d. both (same_number (epoch_from 1 (now.deeds site)) d.epoch)
    (some (λ (l : Line). In l (site_after (now.deeds site)).volatile → ⊥)
    (λ l. absent l (site_after (now.deeds site)).volatile) d.log)) now.decided)
  where
    made : IsFound (Missed now site) now.decided → HasMissedLine now
    made f = record {
      site = site;
      decision = f.item;
      line = f.holds.1.item;
      stands = f.stands;
      epoch = f.holds.0;
      merged = f.holds.1.stands;
      missed = f.holds.1.holds;
    }

-- of an operation's view, a line of a later epoch
abbrev Early : State → TxId → Executed → Type 0
Early now tx b = IsFound (λ (l : Line). now.epoch tx < now.epoch l.tx) b.view

abbrev early_view : (tx : TxId) (now : State) → Option (HasLaterView now)
early_view tx now = option_map made (some (Early now tx)
    (λ b. some (λ (l : Line). now.epoch tx < now.epoch l.tx) (λ l. below (now.epoch tx) (now.epoch l.tx)) b.view)
    (now.executed tx))
  where
    made : IsFound (Early now tx) (now.executed tx) → HasLaterView now
    made f = record {
      tx = tx;
      operation = f.item;
      executed = f.stands;
      line = f.holds.item;
      seen = f.holds.stands;
      later = f.holds.holds;
    }

-- after a disciplined run none of this is so
module _ (decl : Declaration) (story : List Move) (accepted : IsAccepted decl) (run : IsRun decl (acts_of story)) where
  shows_two : HasTwoDecisions (state (acts_of story)) → IsUndisciplinedRun decl story HasTwoDecisions
  shows_two r = record {
    accepted = accepted;
    run = run;
    undisciplined = λ h. r.apart (epochs_are_decided_once decl accepted
        (acts_of story) run h r.one r.other r.first_stands r.second_stands r.epochs);
    broken = r;
  }

  shows_stray : HasStrayLine decl (state (acts_of story)) → IsUndisciplinedRun decl story (HasStrayLine decl)
  shows_stray r = record {
    accepted = accepted;
    run = run;
    undisciplined = λ h. r.stray (logs_are_split_by_epochs decl accepted (acts_of story) run h r.site r.line r.stands);
    broken = r;
  }

  shows_missed : HasMissedLine (state (acts_of story)) → IsUndisciplinedRun decl story HasMissedLine
  shows_missed r = record {
    accepted = accepted;
    run = run;
    undisciplined = λ h. r.missed (sites_have_what_their_epoch_began_with decl accepted
        (acts_of story) run h r.site r.decision r.line r.stands r.epoch r.merged);
    broken = r;
  }

  shows_early : HasLaterView (state (acts_of story)) → IsUndisciplinedRun decl story HasLaterView
  shows_early r = record { accepted = accepted; run = run; undisciplined = never; broken = r }
    where
      never : AreDisciplined decl (acts_of story) → ⊥
      never h =
          let later : (state (acts_of story)).epoch r.tx < (state (acts_of story)).epoch r.line.tx = r.later in
          let older : (state (acts_of story)).epoch r.line.tx ≤ (state (acts_of story)).epoch r.tx =
          views_have_no_later_lines decl accepted (acts_of story) run h r.tx r.operation r.line r.executed r.seen in
          omega arith

runs : (story : List Move) → is_some (run_of every_guard moving_register story) ≡ true
    → IsRun moving_register (acts_of story)
runs story e = proof_of (run_of every_guard moving_register story) e

pub epochs_decided_twice_are_refused : IsUndisciplinedRun moving_register decided_twice HasTwoDecisions
epochs_decided_twice_are_refused =
    shows_two moving_register decided_twice moving_register_accepted (runs decided_twice refl)
    (proof_of (two_decisions (state (acts_of decided_twice)) (state (acts_of decided_twice)).decided (λ d h. h)) refl)

pub epochs_with_two_logs_are_refused : IsUndisciplinedRun three_in_two_epochs decided_with_two_logs HasMissedLine
epochs_with_two_logs_are_refused =
    shows_missed three_in_two_epochs decided_with_two_logs three_in_two_epochs_accepted
    (proof_of (run_of every_guard three_in_two_epochs decided_with_two_logs) refl)
    (proof_of (missed_at 1 (state (acts_of decided_with_two_logs))) refl)

pub grants_of_another_epoch_are_refused : IsUndisciplinedRun moving_register granted_in_another_epoch
    (HasStrayLine moving_register)
grants_of_another_epoch_are_refused = shows_stray moving_register granted_in_another_epoch moving_register_accepted
    (runs granted_in_another_epoch refl) (proof_of
    (stray_at 2 moving_register (state (acts_of granted_in_another_epoch))) refl)

pub shares_of_another_epoch_are_refused : IsUndisciplinedRun moving_register shared_with_another_epoch
    (HasStrayLine moving_register)
shares_of_another_epoch_are_refused = shows_stray moving_register shared_with_another_epoch moving_register_accepted
    (runs shared_with_another_epoch refl) (proof_of
    (stray_at 2 moving_register (state (acts_of shared_with_another_epoch))) refl)

pub lines_without_threshold_are_refused : IsUndisciplinedRun moving_register appended_without_threshold
    (HasStrayLine moving_register)
lines_without_threshold_are_refused = shows_stray moving_register appended_without_threshold moving_register_accepted
    (runs appended_without_threshold refl) (proof_of
    (stray_at 0 moving_register (state (acts_of appended_without_threshold))) refl)

pub views_of_later_epochs_are_refused : IsUndisciplinedRun moving_register seen_in_another_epoch HasLaterView
views_of_later_epochs_are_refused =
    shows_early moving_register seen_in_another_epoch moving_register_accepted (runs seen_in_another_epoch refl)
    (proof_of (early_view third (state (acts_of seen_in_another_epoch))) refl)

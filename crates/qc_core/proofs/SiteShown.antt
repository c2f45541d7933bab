-- The state that a site's deeds show, whole, and what it becomes as the site takes one more input and posts a turn.
use Rattle.std.proofs.Common.{◌≡◌, ℕ, List, ◌++◌, None, refl, ap}
use Rattle.std.specs.Prelude.{fold, option_to_list}
use Rattle.qc_msg.specs.declared.step.Input.{Input}
use Rattle.qc_msg.specs.declared.turn.Turn.{Turn}
use Rattle.qc_msg.specs.Vocabulary.{Deed, first_epoch}
use Rattle.qc_stamp.specs.Vocabulary.{first_life}
use Rattle.qc_promise.specs.Vocabulary.{Lines, all_arrived, clock_shown, closed_by, closed_shown, epoch_by, epoch_shown}
use Rattle.qc_promise.specs.Vocabulary.{held_shown}
use Rattle.qc_promise.specs.Vocabulary.{life_by, life_shown, lines_shown, prepared_shown, recorded_shown, since_shown}
use Rattle.qc_site.specs.Vocabulary.{SiteState}
use Rattle.qc_core.proofs.SiteHolds.{held_then, more_held}
use Rattle.qc_core.proofs.SiteLines.{arrived_then, lines_then, more_arrived, more_lines, more_recorded, recorded_then}
use Rattle.qc_core.proofs.SiteRecorded.{by_records, clock_then, more_clock, more_prepared, posted, prepared_then}

-- states with the same parts are the same
pub same_state : (a b : SiteState) → a.number ≡ b.number → a.life ≡ b.life → a.epoch ≡ b.epoch
    → a.closed_for ≡ b.closed_for → a.began ≡ b.began → a.log ≡ b.log → a.recorded ≡ b.recorded
    → a.arrived ≡ b.arrived → a.held ≡ b.held → a.prepared ≡ b.prepared → a.clock ≡ b.clock → a ≡ b
same_state a b number life epoch closed_for began log recorded arrived held prepared clock = λ i. record {
  number = number i;
  life = life i;
  epoch = epoch i;
  closed_for = closed_for i;
  began = began i;
  log = log i;
  recorded = recorded i;
  arrived = arrived i;
  held = held i;
  prepared = prepared i;
  clock = clock i;
}

-- The state that deeds show. What its epoch began with is read off the log here; its records give the same
-- (`began_shows`).
abbrev pub shown : ℕ → List Deed → SiteState
shown site ds =
    record {
      number = site;
      life = life_shown ds;
      epoch = epoch_shown ds;
      closed_for = closed_shown ds;
      began = (lines_shown ds).began;
      log = since_shown ds;
      recorded = recorded_shown ds;
      arrived = all_arrived ds;
      held = held_shown ds;
      prepared = prepared_shown ds;
      clock = clock_shown ds;
    }

module _ (site : ℕ) (ds : List Deed) (g : Input) (n : ℕ) (turn : Turn) where
  -- the state that the deeds show once the turn is posted
  abbrev pub grown : SiteState
  grown =
      record {
        number = site;
        life = fold life_by (life_shown ds) (option_to_list turn.write);
        epoch = fold epoch_by (epoch_shown ds) (option_to_list turn.write);
        closed_for = fold closed_by (closed_shown ds) (option_to_list turn.write);
        began = (lines_then ds g n turn).began;
        log = (lines_then ds g n turn).since;
        recorded = (recorded_then ds g n turn).since;
        arrived = arrived_then ds g n turn;
        held = held_then ds g n turn;
        prepared = prepared_then ds g n turn;
        clock = clock_then ds g n turn;
      }

  pub shown-more : shown site (ds ++ posted ds g n turn) ≡ grown
  shown-more =
      same_state (shown site (ds ++ posted ds g n turn)) grown refl
      (by_records ds g n turn life_by first_life)
      (by_records ds g n turn epoch_by first_epoch)
      (by_records ds g n turn closed_by None)
      (ap (λ (l : Lines). l.began) (more_lines ds g n turn))
      (ap (λ (l : Lines). l.since) (more_lines ds g n turn))
      (ap (λ (l : Lines). l.since) (more_recorded ds g n turn))
      (more_arrived ds g n turn)
      (more_held ds g n turn)
      (more_prepared ds g n turn)
      (more_clock ds g n turn)

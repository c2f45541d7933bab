-- A site's step for a promise and for a Decision.
use Rattle.std.proofs.Common.{◌≡◌, ℕ, ◌==◌, ◌&&◌, ◌||◌, not, Bool, true, false, cond, List, [], ◌∷◌, ◌++◌, Option, Some}
use Rattle.std.proofs.Common.{None, is_some, refl, sym, ap, ◌∙◌}
use Rattle.std.specs.Prelude.{filter, fold}
use Rattle.std.specs.Option.{option_map_or}
use Rattle.std.proofs.lemmas.List.{append-nil}
use Rattle.qc_stamp.specs.declared.stamp.Stamp.{Stamp}
use Rattle.qc_stamp.specs.declared.stamp.TxId.{TxId}
use Rattle.qc_stamp.specs.Vocabulary.{same_tx}
use Rattle.qc_entry.specs.declared.line.Line.{Line}
use Rattle.qc_entry.specs.declared.record.Prepared.{Prepared}
use Rattle.qc_entry.specs.Vocabulary.{union, without}
use Rattle.qc_entry.proofs.Union.{union-nil}
use Rattle.qc_lock.specs.declared.held.Held.{Held}
use Rattle.qc_lock.specs.Vocabulary.{without_held}
use Rattle.qc_msg.specs.declared.message.Answer.TheVariants as answers
use Rattle.qc_msg.specs.declared.message.Message.TheVariants as messages
use Rattle.qc_msg.specs.declared.message.Outcome.{Outcome}
use Rattle.qc_msg.specs.declared.message.Outcome.TheVariants.{Committed, Aborted, Active}
use Rattle.qc_msg.specs.declared.message.Want.TheVariants.{Prepare}
use Rattle.qc_msg.specs.declared.record.Record.TheVariants as records
use Rattle.qc_msg.specs.declared.step.Input.{Input}
use Rattle.qc_msg.specs.declared.turn.Appended.TheVariants.{Done}
use Rattle.qc_msg.specs.declared.turn.Turn.{Turn}
use Rattle.qc_msg.specs.Vocabulary.{Deed, Finished, Takes, quiet, turn_deeds}
use Rattle.qc_promise.specs.Vocabulary.{Grant, Lines, done_lines, is_ended, is_final, last_cut, learning, lines_of}
use Rattle.qc_promise.specs.Vocabulary.{all_arrived, lines_shown, records_in, standing, unknown, view_in}
use Rattle.qc_promise.specs.Vocabulary.{with_promise}
use Rattle.qc_site.specs.Vocabulary.{SiteState, answering, dropped, finishes, is_prepared, joins, moved, prepared_of}
use Rattle.qc_core.proofs.SiteDrops.{drops, drops_promises}
use Rattle.qc_core.proofs.SiteGrowth.{lasts, stays}
use Rattle.qc_core.proofs.SiteHolds.{hold, remaining, remains}
use Rattle.qc_core.proofs.SiteLines.{began_shows, view_given}
use Rattle.qc_core.proofs.SitePosts.{post_ends}
use Rattle.qc_core.proofs.SitePrepares.{filter_same, last_of, none_prepared}
use Rattle.qc_core.proofs.SiteShown.{grown, same_state, shown, shown-more}
use Rattle.qc_core.proofs.SiteSteps.{IsStep, letter, passed, still}
use Rattle.qc_core.proofs.SiteTalks.{filter_all, stays_held}
use Rattle.qc_list.proofs.Booleans.{and_false, and_true, or_false}
use Rattle.qc_stamp.proofs.Orders.{same_tx_turned}
use Rattle.qc_promise.proofs.Posts.{learning-nil}

-- the turn that writes a promise and tells it
abbrev pub promising : ℕ → ℕ → ℕ → Prepared → Turn
promising from number clock p =
    record {
      write = Some (records.Prepare p);
      sends = answering from number (answers.Yes clock) ∷ [];
      told = None;
      failed_sends = answering from number answers.Fault ∷ [];
      failed_told = None;
      append = Done;
    }

-- the turn that writes that a transaction is done
abbrev pub finishing : TxId → ℕ → Turn
finishing tx clock =
    record {
      write = Some (records.Done tx clock);
      sends = [];
      told = None;
      failed_sends = [];
      failed_told = None;
      append = Done;
    }

module _ (site : ℕ) (ds : List Deed) (n number from to : ℕ) where
  module _ (tx : TxId) (epoch life : ℕ) where
    abbrev preparing : Input
    preparing = letter number from to (messages.Request tx epoch life Prepare)

    -- a promise of a transaction that has none
    pub promise : (clock : ℕ) (p : Prepared) → p.tx ≡ tx → is_prepared (shown site ds).prepared tx ≡ false
        → IsStep site ds (letter number from to (messages.Request tx epoch life Prepare)) n
        (moved (record (passed site ds (messages.Request tx epoch life Prepare))
        { recorded = union (shown site ds).recorded p.lines; prepared = (shown site ds).prepared ++ p ∷ [] })
        (promising from number clock p))
    promise clock p its none =
        sym (shown-more site ds preparing n (promising from number clock p)
        ∙ same_state (grown site ds preparing n (promising from number clock p))
        (record (passed site ds (messages.Request tx epoch life Prepare))
        { recorded = union (shown site ds).recorded p.lines; prepared = (shown site ds).prepared ++ p ∷ [] })
        refl refl refl refl refl
        (ap (λ (l : Lines). l.since) (learning-nil
        (learning (lines_shown ds) (view_given preparing (turn_deeds n (promising from number clock p)))))
        ∙ ap (λ (v : List Line). (learning (lines_shown ds) v).since)
        (none_seen ((number == number) && false || false)) ∙ union-nil (shown site ds).log)
        refl
        (append-nil _ ∙ ap (λ (v : List Line). all_arrived ds ++ unknown (lines_shown ds) v)
        (none_seen ((number == number) && false || false)) ∙ append-nil (all_arrived ds))
        (stays_held ds preparing n (promising from number clock p) (λ t. refl, λ t. refl) []
        (ap (λ (b : Bool). cond ((b || false) && true) (record { tx = tx; want = Prepare } ∷ []) [])
        (and_false (number == number))))
        (ap (λ (v : List Prepared). v ++ p ∷ [])
        (filter_same (lasts (Takes preparing ∷ turn_deeds n (promising from number clock p)))
        (λ (q : Prepared). not (same_tx q.tx tx)) apart (shown site ds).prepared
        ∙ none_prepared (shown site ds).prepared tx none))
        refl)
      where
        none_seen : (b : Bool) → cond b (view_in Prepare) [] ≡ []
        none_seen true = refl
        none_seen false = refl

        apart : (q : Prepared) → lasts (Takes preparing ∷ turn_deeds n (promising from number clock p)) q ≡ not
            (same_tx q.tx tx)
        apart q = ap (λ (b : Bool). not b) (or_false (same_tx p.tx q.tx) ∙ ap (λ (t : TxId). same_tx t q.tx) its
            ∙ same_tx_turned tx q.tx)

  -- Decisions

  abbrev pub deciding : TxId → Outcome → Input
  deciding tx verdict = letter number from to (messages.Decision tx verdict)

  abbrev pub with_clock : TxId → Outcome → SiteState
  with_clock tx verdict = passed site ds (messages.Decision tx verdict)

  pub active : (tx : TxId) → IsStep site ds (deciding tx Active) n (moved (with_clock tx Active) quiet)
  active tx = still site ds n number from to (messages.Decision tx Active) [] None
      (λ t. and_false (same_tx tx t), λ t. and_false (same_tx tx t)) refl refl

  -- what is held once a Decision that ends a transaction is taken
  ended : (tx : TxId) (verdict : Outcome) (turn : Turn) → is_final verdict ≡ true
      → fold hold (fold hold (fold with_promise []
      (filter (remains (Takes (deciding tx verdict) ∷ turn_deeds n turn)) (remaining (last_cut ds))))
      (filter (stays (Takes (deciding tx verdict) ∷ turn_deeds n turn)) (standing (last_cut ds).since))) []
      ≡ without_held (shown site ds).held tx
  ended tx verdict turn final =
      ap (λ (v : List Held). fold hold v (filter (stays done) (standing (last_cut ds).since)))
      (drops_promises tx (remains done) (λ (p : Prepared). others p.tx) [] (remaining (last_cut ds)))
      ∙ drops tx (stays done) (λ (r : Grant). others r.tx) (fold with_promise [] (remaining (last_cut ds)))
      (standing (last_cut ds).since)
    where
      done : List Deed
      done = Takes (deciding tx verdict) ∷ turn_deeds n turn

      others : (t : TxId) → not (is_ended t done) ≡ not (same_tx tx t)
      others t =
          ap (λ (b : Bool). not ((same_tx tx t && b) || is_ended t (turn_deeds n turn))) final
          ∙ ap (λ (b : Bool). not ((same_tx tx t && true) || b)) (post_ends n turn t)
          ∙ ap (λ (b : Bool). not b) (or_false (same_tx tx t && true) ∙ and_true (same_tx tx t))

  pub aborted : (tx : TxId) → IsStep site ds (deciding tx Aborted) n (moved (dropped (with_clock tx Aborted) tx) quiet)
  aborted tx =
      sym (shown-more site ds (deciding tx Aborted) n quiet
      ∙ same_state (grown site ds (deciding tx Aborted) n quiet) (dropped (with_clock tx Aborted) tx)
      refl refl refl refl refl
      (union-nil (shown site ds).log)
      refl
      (append-nil (all_arrived ds))
      (ended tx Aborted quiet refl)
      (append-nil (filter (lasts (Takes (deciding tx Aborted) ∷ [])) (shown site ds).prepared)
      ∙ filter_same (lasts (Takes (deciding tx Aborted) ∷ [])) (λ (q : Prepared). not (same_tx q.tx tx)) apart
      (shown site ds).prepared)
      refl)
    where
      apart : (q : Prepared) → lasts (Takes (deciding tx Aborted) ∷ []) q ≡ not (same_tx q.tx tx)
      apart q = ap (λ (b : Bool). not b) (or_false (same_tx tx q.tx && true) ∙ and_true (same_tx tx q.tx)
          ∙ same_tx_turned tx q.tx)

  pub committed : (tx : TxId) (stamp : Stamp) → stamp.client ≡ tx.client
      → IsStep site ds (deciding tx (Committed stamp)) n
      (finishes (with_clock tx (Committed stamp)) tx (Committed stamp))
  committed tx stamp client = by (prepared_of (shown site ds).prepared tx) refl
    where
      not_aborted : (q : Prepared) → lasts (Takes (deciding tx (Committed stamp)) ∷ []) q ≡ true
      not_aborted q = ap (λ (b : Bool). not (b || false)) (and_false (same_tx tx q.tx))

      apart : (q : Prepared) → lasts (Takes (deciding tx (Committed stamp)) ∷ turn_deeds n (finishing tx stamp.clock)) q
          ≡ not (same_tx q.tx tx)
      apart q = ap (λ (b : Bool). not (b || (same_tx tx q.tx || false))) (and_false (same_tx tx q.tx))
          ∙ ap (λ (b : Bool). not b) (or_false (same_tx tx q.tx) ∙ same_tx_turned tx q.tx)

      done : Finished
      done = record { tx = tx; clock = stamp.clock }

      lines_are : (p : Prepared) → prepared_of (shown site ds).prepared tx ≡ Some p
          → done_lines (records_in ds) done ≡ lines_of stamp tx p.own
      lines_are p is =
          ap (λ (o : Option Prepared). option_map_or
          (λ (q : Prepared). lines_of (record { clock = stamp.clock; client = tx.client }) tx q.own) o [])
          (last_of tx p ds is)
          ∙ ap (λ (c : ℕ). lines_of (record { clock = stamp.clock; client = c }) tx p.own) (sym client)

      by : (o : Option Prepared) → prepared_of (shown site ds).prepared tx ≡ o
          → IsStep site ds (deciding tx (Committed stamp)) n (joins (with_clock tx (Committed stamp)) tx stamp o)
      by None is =
          sym (shown-more site ds (deciding tx (Committed stamp)) n quiet
          ∙ same_state (grown site ds (deciding tx (Committed stamp)) n quiet)
          (dropped (with_clock tx (Committed stamp)) tx)
          refl refl refl refl refl
          (union-nil (shown site ds).log)
          refl
          (append-nil (all_arrived ds))
          (ended tx (Committed stamp) quiet refl)
          (append-nil (filter (lasts (Takes (deciding tx (Committed stamp)) ∷ [])) (shown site ds).prepared)
          ∙ filter_all (lasts (Takes (deciding tx (Committed stamp)) ∷ [])) not_aborted (shown site ds).prepared
          ∙ sym (none_prepared (shown site ds).prepared tx (ap (λ (o : Option Prepared). is_some o) is)))
          refl)
      by (Some p) is =
          sym (shown-more site ds (deciding tx (Committed stamp)) n (finishing tx stamp.clock)
          ∙ same_state (grown site ds (deciding tx (Committed stamp)) n (finishing tx stamp.clock))
          (record (dropped (with_clock tx (Committed stamp)) tx) {
            log = union (shown site ds).log (without (lines_of stamp tx p.own) (shown site ds).began);
            recorded = union (shown site ds).recorded (without (lines_of stamp tx p.own) (shown site ds).began);
            arrived = all_arrived ds ++ unknown (lines_shown ds) (lines_of stamp tx p.own);
          })
          refl refl refl refl refl
          (ap (λ (l : Lines). (learning l (done_lines (records_in ds) done)).since) (learning-nil (lines_shown ds))
          ∙ ap (λ (v : List Line). (learning (lines_shown ds) v).since) (lines_are p is))
          (ap (λ (v : List Line). union (shown site ds).recorded (without (done_lines (records_in ds) done) v))
          (sym (began_shows ds)) ∙ ap (λ (v : List Line). union (shown site ds).recorded
          (without v (shown site ds).began)) (lines_are p is))
          ((λ i. append-nil (all_arrived ds) i
          ++ unknown (learning-nil (lines_shown ds) i) (done_lines (records_in ds) done))
          ∙ ap (λ (v : List Line). all_arrived ds ++ unknown (lines_shown ds) v) (lines_are p is))
          (ended tx (Committed stamp) (finishing tx stamp.clock) refl)
          (append-nil (filter (lasts (Takes (deciding tx (Committed stamp)) ∷ turn_deeds n (finishing tx stamp.clock)))
          (shown site ds).prepared)
          ∙ filter_same (lasts (Takes (deciding tx (Committed stamp)) ∷ turn_deeds n (finishing tx stamp.clock)))
          (λ (q : Prepared). not (same_tx q.tx tx)) apart (shown site ds).prepared)
          refl)

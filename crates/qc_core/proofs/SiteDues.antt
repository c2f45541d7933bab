-- A site's turn for an input is the one that is due.
use Rattle.std.proofs.Common.{◌≡◌, ℕ, ◌+◌, ◌==◌, ◌||◌, not, nat_le, nat_lt, Bool, true, false, cond, List, [], ◌∷◌}
use Rattle.std.proofs.Common.{◌++◌, Option, Some, None, is_some, refl, sym, ap, ◌∙◌, subst}
use Rattle.std.specs.Prelude.{filter, option_map}
use Rattle.std.specs.Option.{option_map_or, option_or}
use Rattle.std.proofs.lemmas.List.{append-nil}
use Rattle.qc_stamp.specs.declared.stamp.Stamp.{Stamp}
use Rattle.qc_stamp.specs.declared.stamp.TxId.{TxId}
use Rattle.qc_stamp.specs.Vocabulary.{same_tx}
use Rattle.qc_entry.specs.declared.line.Line.{Line}
use Rattle.qc_entry.specs.declared.record.Prepared.{Prepared}
use Rattle.qc_entry.specs.Vocabulary.{union}
use Rattle.qc_decl.specs.declared.declaration.Declaration.{Declaration}
use Rattle.qc_decl.specs.Vocabulary.{most_record_bytes}
use Rattle.qc_lock.specs.declared.clash.Clash.{Clash as Conflict}
use Rattle.qc_lock.specs.Vocabulary.{append_clash, is_held, read_clash}
use Rattle.qc_msg.specs.declared.message.Answer.{Answer}
use Rattle.qc_msg.specs.declared.message.Answer.TheVariants as answers
use Rattle.qc_msg.specs.declared.message.Envelope.{Envelope}
use Rattle.qc_msg.specs.declared.message.Message.{Message}
use Rattle.qc_msg.specs.declared.message.Message.TheVariants as messages
use Rattle.qc_msg.specs.declared.message.Outcome.TheVariants.{Committed, Aborted, Active}
use Rattle.qc_msg.specs.declared.message.Want.{Want}
use Rattle.qc_msg.specs.declared.message.Want.TheVariants.{Read, Append, Prepare}
use Rattle.qc_msg.specs.declared.record.Record.TheVariants as records
use Rattle.qc_msg.specs.declared.step.Input.{Input}
use Rattle.qc_msg.specs.declared.step.Input.TheVariants as inputs
use Rattle.qc_msg.specs.declared.turn.Posting.{Posting}
use Rattle.qc_msg.specs.Vocabulary.{Deed, Requested, Takes, epoch_length, quiet, start_with}
use Rattle.qc_promise.specs.Vocabulary.{TurnDue, answers_due, clash_told, closed_refusal, epoch_refusal, fits_record}
use Rattle.qc_promise.specs.Vocabulary.{granting_turn, inquiries_due, is_declared, is_epoch, is_promised}
use Rattle.qc_promise.specs.Vocabulary.{prepared_shown, promise_due, promise_in, promise_turn, quiet_turn}
use Rattle.qc_promise.specs.Vocabulary.{recording_turn, sending, shut_due, telling_turn, turn_due, want_refusal}
use Rattle.qc_site.specs.Vocabulary.{SiteState, answering, answers as answered, appends_by, closed, closed_fault}
use Rattle.qc_site.specs.Vocabulary.{closes, fault_of, grants, installed, installs, is_closed_for, joins, moved}
use Rattle.qc_site.specs.Vocabulary.{names_declared, promise_of, reads_by, recording, relation_at, requested}
use Rattle.qc_site.specs.Vocabulary.{shut_answer, site_at, site_on, site_takes}
use Rattle.qc_core.proofs.SiteDecisions.{promising}
use Rattle.qc_core.proofs.SiteGrowth.{lasts}
use Rattle.qc_core.proofs.SiteShown.{shown, shown-more}
use Rattle.qc_core.proofs.SiteSteps.{ignored, letter, passed, still}
use Rattle.qc_core.proofs.SiteTalks.{filter_all}
use Rattle.qc_core.proofs.SiteFits.{Does}
use Rattle.qc_list.proofs.Booleans.{and_false}

module _ (decl : Declaration) (site : ℕ) (ds : List Deed) (from number : ℕ) (tx : TxId) (epoch life : ℕ) where
  abbrev now : SiteState
  now = shown site ds

  same_names : (want : Want) → names_declared decl tx want ≡ is_declared decl tx want
  same_names (Read read) = refl
  same_names (Append object view own) = refl
  same_names Prepare = refl

  -- the refusals of epoch and life

  same_closed : (o : Option ℕ) → closed_fault now life o ≡ closed_refusal ds life o
  same_closed (Some k) = refl
  same_closed None = refl

  same_fault : fault_of now epoch life ≡ epoch_refusal ds epoch life
  same_fault = ap (λ (o : Option Answer). cond (nat_lt now.epoch epoch) (Some (answers.Behind now.epoch))
      (cond (nat_lt epoch now.epoch) (Some (answers.Closed now.epoch)) o)) (same_closed now.closed_for)

  abbrev AsksNobody : Option Answer → Type 0
  AsksNobody None = Unit {0}
  AsksNobody (Some x) = inquiries_due decl x ≡ []

  fault_asks : AsksNobody (fault_of now epoch life)
  fault_asks = by (nat_lt now.epoch epoch) (nat_lt epoch now.epoch)
    where
      by_life : (x y : Bool) → AsksNobody (cond x None (cond y None (Some (answers.Restarted now.life))))
      by_life true y = tt
      by_life false true = tt
      by_life false false = refl

      by_closed : (o : Option ℕ) → AsksNobody (closed_fault now life o)
      by_closed (Some k) = refl
      by_closed None = by_life (life == 0) (life == now.life)

      by : (x y : Bool) → AsksNobody (cond x (Some (answers.Behind now.epoch))
          (cond y (Some (answers.Closed now.epoch)) (closed_fault now life now.closed_for)))
      by true y = refl
      by false true = refl
      by false false = by_closed now.closed_for

  -- what a request that neither refuses is due

  abbrev asked : Want → Requested
  asked want = record { tx = tx; epoch = epoch; life = life; want = want }

  abbrev sent : Envelope
  sent = record { number = number; from = from; to = site; message = messages.Inquiry tx }

  abbrev due_for : Want → Option Answer → TurnDue
  due_for want refusal = option_map_or (λ (x : Answer). sending (answers_due decl from number x)) refusal
      (granting_turn decl ds sent (asked want))

  grant_does : (want : Want) → Does (grants decl now from number tx want).turn
      (due_for want (want_refusal decl ds tx want))
  grant_does (Read read) = by (read_clash (relation_at decl read.object) now.held tx read.object read.inv)
    where
      by : (o : Option Conflict) → Does (reads_by decl now from number tx read o).turn
          (due_for (Read read) (option_map clash_told o))
      by None = record { same = refl; untold = refl; failed_untold = refl }
      by (Some c) = record { same = refl; untold = refl; failed_untold = refl }
  grant_does (Append object view own) = by (append_clash (relation_at decl object) now.held tx own)
    where
      by : (o : Option Conflict) → Does (appends_by decl now from number tx view own o).turn
          (due_for (Append object view own) (option_map clash_told o))
      by None = record { same = refl; untold = refl; failed_untold = refl }
      by (Some c) = record { same = refl; untold = refl; failed_untold = refl }
  grant_does Prepare = by (is_held now.held tx) (is_promised ds tx) refl (fits_record (promise_due ds tx))
    where
      granting : (p : Bool) → is_promised ds tx ≡ p
          → granting_turn decl ds sent (asked Prepare) ≡ cond (not p) (promise_turn ds from number tx)
          (sending (answers_due decl from number (answers.Yes now.clock)))
      granting p is = ap (λ (b : Bool). cond (not b) (promise_turn ds from number tx)
          (sending (answers_due decl from number (answers.Yes now.clock)))) is

      by : (h p : Bool) → is_promised ds tx ≡ p → (f : Bool)
          → Does (cond (not h) (moved now (answered from number answers.Stale))
          (cond p (moved now (answered from number (answers.Yes now.clock))) (cond f
          (moved (record now {
            recorded = union now.recorded (promise_of now tx).lines;
            prepared = now.prepared ++ promise_of now tx ∷ [];
          })
          (promising from number now.clock (promise_of now tx)))
          (moved now (answered from number answers.Stale))))).turn
          (due_for Prepare (cond (not h) (Some answers.Stale) (cond p None (cond f None (Some answers.Stale)))))
      by false p is f = record { same = refl; untold = refl; failed_untold = refl }
      by true true is f = record { same = sym (granting true is); untold = refl; failed_untold = refl }
      by true false is true = record { same = sym (granting false is); untold = refl; failed_untold = refl }
      by true false is false = record { same = refl; untold = refl; failed_untold = refl }

  pub request_does : (want : Want) → Does (site_at decl now from number (messages.Request tx epoch life want)).turn
      (turn_due decl ds (letter number from site (messages.Request tx epoch life want)))
  request_does want = by_name (names_declared decl tx want) (same_names want)
    where
      by : (o : Option Answer) → AsksNobody o → Does (requested decl now from number tx want o).turn
          (due_for want (option_or o (want_refusal decl ds tx want)))
      by (Some x) nobody = record {
        same = ap (λ (v : List Posting). sending (answering from number x ∷ v))
            (sym nobody);
        untold = refl;
        failed_untold = refl;
      }
      by None nobody = grant_does want

      fault : Does (requested decl now from number tx want (fault_of now epoch life)).turn
          (due_for want (option_or (epoch_refusal ds epoch life) (want_refusal decl ds tx want)))
      fault = subst (λ (o : Option Answer). Does (requested decl now from number tx want (fault_of now epoch life)).turn
          (due_for want (option_or o (want_refusal decl ds tx want)))) same_fault
          (by (fault_of now epoch life) fault_asks)

      by_name : (b : Bool) → b ≡ is_declared decl tx want
          → Does (cond b (requested decl now from number tx want (fault_of now epoch life)) (moved now quiet)).turn
          (cond (is_declared decl tx want) (due_for want
          (option_or (epoch_refusal ds epoch life) (want_refusal decl ds tx want))) quiet_turn)
      by_name true is = rw (sym is) fault
      by_name false is = rw (sym is) (record { same = refl; untold = refl; failed_untold = refl })

module _ (decl : Declaration) (site : ℕ) (ds : List Deed) where
  -- a Decision Committed leaves the promises as they were, until it is written
  prepared_still : (number from to : ℕ) (tx : TxId) (stamp : Stamp)
      → prepared_shown (ds ++ Takes (letter number from to (messages.Decision tx (Committed stamp))) ∷ [])
      ≡ prepared_shown ds
  prepared_still number from to tx stamp =
      ap (λ (s : SiteState). s.prepared) (shown-more site ds
      (letter number from to (messages.Decision tx (Committed stamp))) 0 quiet)
      ∙ append-nil (filter (lasts (Takes (letter number from to (messages.Decision tx (Committed stamp))) ∷ []))
      (prepared_shown ds))
      ∙ filter_all (lasts (Takes (letter number from to (messages.Decision tx (Committed stamp))) ∷ []))
      (λ (q : Prepared). ap (λ (b : Bool). not (b || false)) (and_false (same_tx tx q.tx))) (prepared_shown ds)

  module _ (number from to : ℕ) where
    abbrev after : Message → List Deed
    after m = ds ++ Takes (letter number from to m) ∷ []

    abbrev Answered : Message → Type 0
    Answered m = Does (site_on decl (shown site ds) from number m).turn
        (turn_due decl (after m) (letter number from to m))

    requested_does : (tx : TxId) (epoch life : ℕ) (want : Want) → Answered (messages.Request tx epoch life want)
    requested_does tx epoch life want =
        subst (λ (s : SiteState). Does (site_at decl s from number (messages.Request tx epoch life want)).turn
        (turn_due decl (after (messages.Request tx epoch life want))
        (letter number from to (messages.Request tx epoch life want))))
        (sym (ignored site ds 0 number from to tx epoch life want))
        (request_does decl site (after (messages.Request tx epoch life want)) from number tx epoch life want)

    committed_does : (tx : TxId) (stamp : Stamp) → Answered (messages.Decision tx (Committed stamp))
    committed_does tx stamp =
        subst (λ (ps : List Prepared). Does (site_on decl (shown site ds) from number
        (messages.Decision tx (Committed stamp))).turn
        (cond (is_some (promise_in ps tx)) (record
        { write = Some (records.Done tx stamp.clock); sends = []; failed_sends = [] }) quiet_turn))
        (sym (prepared_still number from to tx stamp))
        (by (promise_in (prepared_shown ds) tx))
      where
        by : (o : Option Prepared) → Does (joins
            (passed site ds (messages.Decision tx (Committed stamp))) tx stamp o).turn
            (cond (is_some o) (record { write = Some (records.Done tx stamp.clock); sends = []; failed_sends = [] })
            quiet_turn)
        by None = record { same = refl; untold = refl; failed_untold = refl }
        by (Some p) = record { same = refl; untold = refl; failed_untold = refl }

    -- by the state that the deeds show with the message taken

    same_shut : (k : ℕ) (o : Option ℕ) → is_closed_for k o ≡ is_epoch k o
    same_shut k None = refl
    same_shut k (Some epoch) = refl

    close_does : (k : ℕ) → Answered (messages.Close k)
    close_does k =
        subst (λ (s : SiteState). Does (closes s from number k).turn
        (turn_due decl (after (messages.Close k)) (letter number from to (messages.Close k))))
        (sym (still site ds 0 number from to (messages.Close k) [] None (λ t. refl, λ t. refl) refl refl))
        (by (nat_lt (s.epoch + 1) k) (nat_le k s.epoch) (is_closed_for k s.closed_for) (same_shut k s.closed_for))
      where
        s : SiteState
        s = shown site (after (messages.Close k))

        e : Envelope
        e = record { number = number; from = from; to = to; message = messages.Close k }

        by : (far past shut : Bool) → shut ≡ is_epoch k s.closed_for
            → Does (cond far (moved s (answered from number (answers.Behind s.epoch)))
            (cond past (moved s (answered from number (answers.Closed s.epoch)))
            (cond shut (moved s (answered from number (shut_answer s)))
            (moved (closed s k) (recording from number (records.Close k) (shut_answer (closed s k))))))).turn
            (cond far (telling_turn e (answers.Behind s.epoch)) (cond past (telling_turn e (answers.Closed s.epoch))
            (cond (is_epoch k s.closed_for) (telling_turn e (shut_due (after (messages.Close k))))
            (recording_turn e (records.Close k) (shut_due (after (messages.Close k)))))))
        by true past shut is = record { same = refl; untold = refl; failed_untold = refl }
        by false true shut is = record { same = refl; untold = refl; failed_untold = refl }
        by false false true is = rw (sym is) (record { same = refl; untold = refl; failed_untold = refl })
        by false false false is = rw (sym is) (record { same = refl; untold = refl; failed_untold = refl })

    install_does : (k clock : ℕ) (lines : List Line) → Answered (messages.Install (start_with k clock lines))
    install_does k clock lines =
        subst (λ (s : SiteState). Does (installs s from number k clock lines).turn
        (turn_due decl (after (messages.Install (start_with k clock lines)))
        (letter number from to (messages.Install (start_with k clock lines)))))
        (sym (still site ds 0 number from to (messages.Install (start_with k clock lines)) [] None
        (λ t. refl, λ t. refl) refl refl))
        (by (nat_le k s.epoch) (nat_le (epoch_length lines) most_record_bytes))
      where
        s : SiteState
        s = shown site (after (messages.Install (start_with k clock lines)))

        e : Envelope
        e = record { number = number; from = from; to = to; message = messages.Install (start_with k clock lines) }

        by : (past short : Bool)
            → Does (cond past (moved s (answered from number answers.Installed))
            (cond short (moved (installed s k clock lines)
            (recording from number (records.Install (start_with k clock lines)) answers.Installed))
            (moved s (answered from number (answers.Behind s.epoch))))).turn
            (cond past (telling_turn e answers.Installed)
            (cond short (recording_turn e (records.Install (start_with k clock lines)) answers.Installed)
            (telling_turn e (answers.Behind s.epoch))))
        by true short = record { same = refl; untold = refl; failed_untold = refl }
        by false true = record { same = refl; untold = refl; failed_untold = refl }
        by false false = record { same = refl; untold = refl; failed_untold = refl }

    heard_does : (m : Message) → Answered m
    heard_does (messages.Request tx epoch life want) = requested_does tx epoch life want
    heard_does (messages.Answer k answer) = record { same = refl; untold = refl; failed_untold = refl }
    heard_does (messages.Decision tx (Committed stamp)) = committed_does tx stamp
    heard_does (messages.Decision tx Aborted) = record { same = refl; untold = refl; failed_untold = refl }
    heard_does (messages.Decision tx Active) = record { same = refl; untold = refl; failed_untold = refl }
    heard_does (messages.Inquiry tx) = record { same = refl; untold = refl; failed_untold = refl }
    heard_does (messages.Ask tx) = record { same = refl; untold = refl; failed_untold = refl }
    heard_does (messages.Close k) = close_does k
    heard_does (messages.Install start) = install_does start.epoch start.clock start.lines

  -- each input
  pub turns_are_due : (g : Input) → Does (site_takes decl (shown site ds) g).turn (turn_due decl (ds ++ Takes g ∷ []) g)
  turns_are_due (inputs.Called command) = record { same = refl; untold = refl; failed_untold = refl }
  turns_are_due (inputs.Got e) = heard_does e.number e.from e.to e.message
  turns_are_due (inputs.Lost number) = record { same = refl; untold = refl; failed_untold = refl }

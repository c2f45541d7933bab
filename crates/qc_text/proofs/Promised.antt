-- The transactions whose promises stand at a site, walked forward, are those that its records and deeds show to be
-- promised; with those that were granted something since, they are as many as hold something.
use Rattle.std.proofs.Common.{◌≡◌, ℕ, ◌==◌, ◌&&◌, ◌||◌, not, Bool, true, false, cond, List, [], ◌∷◌, ◌++◌, Option, Some}
use Rattle.std.proofs.Common.{None, length, map, refl, sym, ap, ◌∙◌, append_assoc}
use Rattle.std.specs.Prelude.{filter, fold, option_and_then, option_to_list}
use Rattle.std.specs.Option.{option_map_or}
use Rattle.std.proofs.lemmas.List.{append-nil, length-map, map-append}
use Rattle.std.proofs.lemmas.List.Sums.{fold-append}
use Rattle.qc_stamp.specs.declared.stamp.TxId.{TxId}
use Rattle.qc_stamp.specs.Vocabulary.{same_tx}
use Rattle.qc_entry.specs.declared.record.Prepared.{Prepared}
use Rattle.qc_lock.specs.declared.held.Held.{Held}
use Rattle.qc_lock.specs.Vocabulary.{held_of, with_locks, with_owns}
use Rattle.qc_msg.specs.declared.message.Message.{Message}
use Rattle.qc_msg.specs.declared.message.Message.TheVariants as messages
use Rattle.qc_msg.specs.declared.message.Outcome.TheVariants.{Committed, Aborted, Active}
use Rattle.qc_msg.specs.declared.message.Want.TheVariants.{Read, Prepare}
use Rattle.qc_msg.specs.declared.record.Record.{Record}
use Rattle.qc_msg.specs.declared.record.Record.TheVariants as records
use Rattle.qc_msg.specs.declared.step.Input.TheVariants as inputs
use Rattle.qc_msg.specs.Vocabulary.{Deed, Falls, Rises, Sends, Takes, Tells, Writes, prepare_in, written_in, first_read}
use Rattle.qc_promise.specs.Vocabulary.{Grant, Holding, frees, held_of_promises, is_ended, is_over, left_of}
use Rattle.qc_promise.specs.Vocabulary.{promises_of, promises_since, standing, unless_over, with_promise}
use Rattle.qc_promise.proofs.Promises.{other_promises, promises_by_record, promises_with}
use Rattle.qc_text.specs.Vocabulary.{held_by, holders_from, holders_with, is_holding, names_some, promised_at}
use Rattle.qc_text.specs.Vocabulary.{promised_in, with_holder, without_holder}
use Rattle.qc_text.proofs.Holding.{all_named, append_named, dropped, hold_tx, is_other, name, stays, walks}
use Rattle.qc_list.proofs.Booleans.{and_false, and_true}
use Rattle.qc_stamp.proofs.Orders.{same_tx_turned}

-- promises, as if what they name had been granted

abbrev as_grant : Prepared → Grant
as_grant p = record { tx = p.tx; want = cond (names_some p) (Read (first_read 0 0)) Prepare }

held_some : (b : Bool) → is_holding (cond b (Read (first_read 0 0)) Prepare) ≡ b
held_some true = refl
held_some false = refl

promise_named : (held : List Held) (p : Prepared)
    → map name (with_promise held p) ≡ hold_tx (map name held) (as_grant p)
promise_named held p =
    append_named held (record {
      tx = p.tx;
      locks = with_locks (held_of held p.tx).locks p.locks;
      own = with_owns (held_of held p.tx).own p.own;
    }) ((length p.locks == 0) && (length p.own == 0))
    ∙ ap (λ (b : Bool). cond b (with_holder (map name held) p.tx) (map name held)) (sym (held_some (names_some p)))

promises_named : (held : List Held) (ps : List Prepared)
    → map name (fold with_promise held ps) ≡ fold hold_tx (map name held) (map as_grant ps)
promises_named held [] = refl
promises_named held (p ∷ ps) = promises_named (with_promise held p) ps
    ∙ ap (λ (v : List TxId). fold hold_tx v (map as_grant ps)) (promise_named held p)

-- those of others, and those that aren't ended

others_granted : (tx : TxId) (ps : List Prepared)
    → filter (is_other tx) (map as_grant ps) ≡ map as_grant (other_promises ps tx)
others_granted tx [] = refl
others_granted tx (p ∷ ps) =
    ap (λ (b : Bool). cond (not b) (as_grant p ∷ filter (is_other tx) (map as_grant ps))
    (filter (is_other tx) (map as_grant ps))) (same_tx_turned tx p.tx)
    ∙ by (same_tx p.tx tx) (others_granted tx ps)
  where
    by : (b : Bool) → filter (is_other tx) (map as_grant ps) ≡ map as_grant (other_promises ps tx)
        → cond (not b) (as_grant p ∷ filter (is_other tx) (map as_grant ps)) (filter (is_other tx) (map as_grant ps))
        ≡ map as_grant (cond (not b) (p ∷ other_promises ps tx) (other_promises ps tx))
    by true rest = rest
    by false rest = ap (λ (v : List Grant). as_grant p ∷ v) rest

stay_granted : (ds : List Deed) (ps : List Prepared)
    → filter (stays ds) (map as_grant ps) ≡ map as_grant (filter (λ (p : Prepared). not (is_ended p.tx ds)) ps)
stay_granted ds [] = refl
stay_granted ds (p ∷ ps) = by (is_ended p.tx ds) (stay_granted ds ps)
  where
    by : (b : Bool) → filter (stays ds) (map as_grant ps) ≡ map as_grant
        (filter (λ (q : Prepared). not (is_ended q.tx ds)) ps)
        → cond (not b) (as_grant p ∷ filter (stays ds) (map as_grant ps)) (filter (stays ds) (map as_grant ps))
        ≡ map as_grant (cond (not b) (p ∷ filter (λ (q : Prepared). not (is_ended q.tx ds)) ps)
        (filter (λ (q : Prepared). not (is_ended q.tx ds)) ps))
    by true rest = rest
    by false rest = ap (λ (v : List Grant). as_grant p ∷ v) rest

-- a record more

abbrev granted_by : List Prepared → List TxId
granted_by ps = fold hold_tx [] (map as_grant ps)

without_promises : (ps : List Prepared) (tx : TxId)
    → without_holder (granted_by ps) tx ≡ granted_by (other_promises ps tx)
without_promises ps tx = dropped tx [] (map as_grant ps) ∙ ap (fold hold_tx []) (others_granted tx ps)

record_more : (ps : List Prepared) (r : Record) → holders_with (granted_by ps) r ≡ granted_by (promises_with ps r)
record_more ps records.Life = refl
record_more ps (records.Prepare p) =
    ap (λ (v : List TxId). cond (names_some p) (with_holder v p.tx) v) (without_promises ps p.tx)
    ∙ ap (λ (b : Bool). cond b (with_holder (granted_by (other_promises ps p.tx)) p.tx)
    (granted_by (other_promises ps p.tx))) (sym (held_some (names_some p)))
    ∙ sym (fold-append hold_tx [] (map as_grant (other_promises ps p.tx)) (as_grant p ∷ []))
    ∙ ap (fold hold_tx []) (sym (map-append as_grant (other_promises ps p.tx) (p ∷ [])))
record_more ps (records.Done tx clock) = without_promises ps tx
record_more ps (records.Close epoch) = refl
record_more ps (records.Install start) = refl
record_more ps (records.Commit commit) = refl
record_more ps (records.Decide start) = refl

records_walked : (ps : List Prepared) (rs : List Record)
    → fold holders_with (granted_by ps) rs ≡ granted_by (fold promises_with ps rs)
records_walked ps [] = refl
records_walked ps (r ∷ rs) = ap (λ (v : List TxId). fold holders_with v rs) (record_more ps r)
    ∙ records_walked (promises_with ps r) rs

-- promises, a deed more: those that it doesn't free, and the one that it writes

abbrev unfreed : Deed → List Prepared → List Prepared
unfreed d ps = filter (λ (p : Prepared). not (frees p.tx d)) ps

abbrev promises_at : List Prepared → Deed → List Prepared
promises_at ps d = unfreed d ps ++ option_to_list (option_and_then prepare_in (written_in d))

left_append : (ds : List Deed) (ps qs : List Prepared) → left_of ds (ps ++ qs) ≡ left_of ds ps ++ left_of ds qs
left_append ds [] qs = refl
left_append ds (p ∷ ps) qs = ap (λ (v : List Prepared). unless_over ds p ++ v) (left_append ds ps qs)
    ∙ sym (append_assoc (unless_over ds p) (left_of ds ps) (left_of ds qs))

left_more : (d : Deed) (ds : List Deed) (ps : List Prepared) → left_of (d ∷ ds) ps ≡ left_of ds (unfreed d ps)
left_more d ds [] = refl
left_more d ds (p ∷ ps) = by (frees p.tx d) (left_more d ds ps)
  where
    by : (b : Bool) → left_of (d ∷ ds) ps ≡ left_of ds (unfreed d ps)
        → cond (b || is_over p.tx ds) [] (p ∷ []) ++ left_of (d ∷ ds) ps ≡ left_of ds
        (cond (not b) (p ∷ unfreed d ps) (unfreed d ps))
    by true rest = rest
    by false rest = ap (λ (v : List Prepared). unless_over ds p ++ v) rest

left_all : (ps : List Prepared) → left_of [] ps ≡ ps
left_all [] = refl
left_all (p ∷ ps) = ap (λ (v : List Prepared). p ∷ v) (left_all ps)

shown_walked : (ps : List Prepared) (ds : List Deed) → left_of ds ps ++ promises_since ds ≡ fold promises_at ps ds
shown_walked ps [] = append-nil (left_of [] ps) ∙ left_all ps
shown_walked ps (d ∷ ds) =
    ap (λ (v : List Prepared). v ++ (option_map_or (unless_over ds) (option_and_then prepare_in (written_in d)) []
    ++ promises_since ds)) (left_more d ds ps)
    ∙ sym (append_assoc (left_of ds (unfreed d ps))
    (option_map_or (unless_over ds) (option_and_then prepare_in (written_in d)) []) (promises_since ds))
    ∙ ap (λ (v : List Prepared). (left_of ds (unfreed d ps) ++ v) ++ promises_since ds)
    (written (option_and_then prepare_in (written_in d)))
    ∙ ap (λ (v : List Prepared). v ++ promises_since ds)
    (sym (left_append ds (unfreed d ps) (option_to_list (option_and_then prepare_in (written_in d)))))
    ∙ shown_walked (promises_at ps d) ds
  where
    written : (o : Option Prepared) → option_map_or (unless_over ds) o [] ≡ left_of ds (option_to_list o)
    written None = refl
    written (Some p) = sym (append-nil (unless_over ds p))

-- a deed that frees none, those of a transaction, or all

kept_as : (d : Deed) (test : Prepared → Bool) → ((p : Prepared) → not (frees p.tx d) ≡ test p) → (ps : List Prepared)
    → unfreed d ps ≡ filter test ps
kept_as d test same [] = refl
kept_as d test same (p ∷ ps) =
    ap (λ (b : Bool). cond b (p ∷ unfreed d ps) (unfreed d ps)) (same p)
    ∙ ap (λ (v : List Prepared). cond (test p) (p ∷ v) v) (kept_as d test same ps)

all_kept : (ps : List Prepared) → filter (λ (p : Prepared). true) ps ≡ ps
all_kept [] = refl
all_kept (p ∷ ps) = ap (λ (v : List Prepared). p ∷ v) (all_kept ps)

none_kept : (ps : List Prepared) → filter (λ (p : Prepared). false) ps ≡ []
none_kept [] = refl
none_kept (p ∷ ps) = none_kept ps

frees_none : (d : Deed) → ((tx : TxId) → frees tx d ≡ false) → (ps : List Prepared) → unfreed d ps ++ [] ≡ ps
frees_none d none ps = append-nil (unfreed d ps) ∙ kept_as d (λ (p : Prepared). true) (λ p. ap not (none p.tx)) ps
    ∙ all_kept ps

frees_one : (d : Deed) (tx : TxId) → ((t : TxId) → frees t d ≡ same_tx t tx) → (ps : List Prepared)
    → unfreed d ps ≡ other_promises ps tx
frees_one d tx one ps = kept_as d (λ (p : Prepared). not (same_tx p.tx tx)) (λ p. ap not (one p.tx)) ps

written_more : (ps : List Prepared) (r : Record) → promises_at ps (Writes r) ≡ promises_with ps r
written_more ps records.Life = frees_none (Writes records.Life) (λ tx. refl) ps
written_more ps (records.Prepare p) = ap (λ (v : List Prepared). v ++ p ∷ [])
    (frees_one (Writes (records.Prepare p)) p.tx (λ t. same_tx_turned p.tx t) ps)
written_more ps (records.Done tx clock) =
    append-nil (unfreed (Writes (records.Done tx clock)) ps)
    ∙ frees_one (Writes (records.Done tx clock)) tx (λ t. same_tx_turned tx t) ps
written_more ps (records.Close epoch) = frees_none (Writes (records.Close epoch)) (λ tx. refl) ps
written_more ps (records.Install start) =
    append-nil (unfreed (Writes (records.Install start)) ps)
    ∙ kept_as (Writes (records.Install start)) (λ (p : Prepared). false) (λ p. refl) ps ∙ none_kept ps
written_more ps (records.Commit commit) = frees_none (Writes (records.Commit commit)) (λ tx. refl) ps
written_more ps (records.Decide start) =
    frees_none (Writes (records.Decide start)) (λ tx. refl) ps

-- by names

abbrev IsWalked : List Prepared → Deed → Type 0
IsWalked ps d = promised_at (granted_by ps) d ≡ granted_by (promises_at ps d)

unchanged : (ps : List Prepared) (d : Deed) → ((tx : TxId) → frees tx d ≡ false)
    → granted_by ps ≡ granted_by (unfreed d ps ++ [])
unchanged ps d none = ap granted_by (sym (frees_none d none ps))

message_more : (ps : List Prepared) (number from to : ℕ) (message : Message)
    → IsWalked ps (Takes (inputs.Got (record { number = number; from = from; to = to; message = message })))
message_more ps number from to message = by message
  where
    got : Message → Deed
    got m = Takes (inputs.Got (record { number = number; from = from; to = to; message = m }))

    by : (m : Message) → IsWalked ps (got m)
    by (messages.Request tx epoch life want) = unchanged ps (got (messages.Request tx epoch life want)) (λ t. refl)
    by (messages.Answer request answer) = unchanged ps (got (messages.Answer request answer)) (λ t. refl)
    by (messages.Decision tx (Committed stamp)) =
        unchanged ps (got (messages.Decision tx (Committed stamp))) (λ t. and_false (same_tx tx t))
    by (messages.Decision tx Aborted) =
        without_promises ps tx
        ∙ ap granted_by (sym (append-nil (unfreed (got (messages.Decision tx Aborted)) ps)
        ∙ frees_one (got (messages.Decision tx Aborted)) tx (λ t. and_true (same_tx tx t) ∙ same_tx_turned tx t) ps))
    by (messages.Decision tx Active) = unchanged ps (got (messages.Decision tx Active)) (λ t. and_false (same_tx tx t))
    by (messages.Inquiry tx) = unchanged ps (got (messages.Inquiry tx)) (λ t. refl)
    by (messages.Ask tx) = unchanged ps (got (messages.Ask tx)) (λ t. refl)
    by (messages.Close epoch) = unchanged ps (got (messages.Close epoch)) (λ t. refl)
    by (messages.Install start) = unchanged ps (got (messages.Install start)) (λ t. refl)

deed_more : (ps : List Prepared) (d : Deed) → IsWalked ps d
deed_more ps (Takes (inputs.Called command)) = unchanged ps (Takes (inputs.Called command)) (λ tx. refl)
deed_more ps (Takes (inputs.Got e)) = message_more ps e.number e.from e.to e.message
deed_more ps (Takes (inputs.Lost number)) = unchanged ps (Takes (inputs.Lost number)) (λ tx. refl)
deed_more ps (Writes written) = record_more ps written ∙ ap granted_by (sym (written_more ps written))
deed_more ps (Sends number to message) = unchanged ps (Sends number to message) (λ tx. refl)
deed_more ps (Tells reply) = unchanged ps (Tells reply) (λ tx. refl)
deed_more ps (Falls cause pending) = unchanged ps (Falls cause pending) (λ tx. refl)
deed_more ps (Rises kept) = unchanged ps (Rises kept) (λ tx. refl)

deeds_walked : (ps : List Prepared) (ds : List Deed)
    → fold promised_at (granted_by ps) ds ≡ granted_by (fold promises_at ps ds)
deeds_walked ps [] = refl
deeds_walked ps (d ∷ ds) = ap (λ (v : List TxId). fold promised_at v ds) (deed_more ps d)
    ∙ deeds_walked (promises_at ps d) ds

-- those that are promised after these records and deeds
promised_walked : (kept : List Record) (ds : List Deed)
    → fold promised_at (fold holders_with [] kept) ds ≡ granted_by (promised_in kept ds)
promised_walked kept ds =
    ap (λ (v : List TxId). fold promised_at v ds)
    (records_walked [] kept ∙ ap granted_by (sym (promises_by_record kept)))
    ∙ deeds_walked (promises_of kept) ds
    ∙ ap granted_by (sym (shown_walked (promises_of kept) ds))

-- as many as hold something
pub holders_counted : (kept : List Record) (h : Holding)
    → length (holders_from (fold promised_at (fold holders_with [] kept) h.before) h.since) ≡ length (held_by kept h)
holders_counted kept h =
    ap (λ (v : List TxId). length (holders_from v h.since)) (promised_walked kept h.before)
    ∙ ap length (walks h.since (map as_grant promised)
    ∙ fold-append hold_tx [] (filter (stays h.since) (map as_grant promised)) (standing h.since)
    ∙ ap (λ (v : List Grant). fold hold_tx (fold hold_tx [] v) (standing h.since)) (stay_granted h.since promised)
    ∙ ap (λ (v : List TxId). fold hold_tx v (standing h.since))
    (sym (promises_named [] (filter (λ (p : Prepared). not (is_ended p.tx h.since)) promised)))
    ∙ sym (all_named (held_of_promises h.since promised) (standing h.since)))
    ∙ length-map (held_by kept h) name
  where
    promised : List Prepared
    promised = promised_in kept h.before

-- A Done is written only for a Decision, with its clock.
use Rattle.std.proofs.Common.{[], ◌≡◌, ℕ, ◌+◌, nat_le, nat_lt, Bool, true, false, cond, List, ◌∷◌, ◌++◌, inl, inr}
use Rattle.std.proofs.Common.{Option, Some, None, refl, sym, ap}
use Rattle.std.specs.Prelude.{map}
use Rattle.std.specs.Option.{option_map_or}
use Rattle.qc_stamp.specs.declared.stamp.Stamp.{Stamp}
use Rattle.qc_stamp.specs.declared.stamp.TxId.{TxId}
use Rattle.qc_list.specs.Vocabulary.{In}
use Rattle.qc_decl.specs.declared.declaration.Declaration.{Declaration}
use Rattle.qc_decl.specs.Vocabulary.{most_record_bytes}
use Rattle.qc_msg.specs.declared.message.Envelope.{Envelope}
use Rattle.qc_msg.specs.declared.message.Message.{Message}
use Rattle.qc_msg.specs.declared.message.Message.TheVariants as messages
use Rattle.qc_msg.specs.declared.message.Outcome.{Outcome}
use Rattle.qc_msg.specs.declared.message.Outcome.TheVariants as outcomes
use Rattle.qc_msg.specs.declared.record.Record.{Record}
use Rattle.qc_msg.specs.declared.record.Record.TheVariants as records
use Rattle.qc_msg.specs.declared.step.Input.{Input}
use Rattle.qc_msg.specs.declared.step.Input.TheVariants as inputs
use Rattle.qc_msg.specs.Vocabulary.{Deed, Requested, Takes, epoch_length}
use Rattle.qc_msg.specs.declared.payload.EpochStart.{EpochStart}
use Rattle.qc_msg.specs.declared.message.Answer.{Answer}
use Rattle.qc_msg.specs.declared.message.Answer.TheVariants as answers
use Rattle.qc_msg.specs.declared.step.Fall.{Fall}
use Rattle.qc_msg.specs.declared.step.Fall.TheVariants as causes
use Rattle.qc_msg.specs.declared.turn.Posting.{Posting}
use Rattle.qc_promise.specs.Vocabulary.{Fell, Sent, TurnDue, Wrote, answers_due, close_turn, closed_shown, done_turn}
use Rattle.qc_promise.specs.Vocabulary.{ends_with, epoch_shown, grant_due, granting_turn, heard_turn, install_turn}
use Rattle.qc_promise.specs.Vocabulary.{is_declared, is_epoch, is_new_promise, is_promised, posted_due, promise_turn}
use Rattle.qc_promise.specs.Vocabulary.{quiet_turn, recording_turn, refusal_due, request_turn, sending, shut_due}
use Rattle.qc_promise.specs.Vocabulary.{telling_turn, turn_due}

-- a Done is written only for a Decision with its clock

-- the Decision that a Done was written for
pub record IsBrought (tx : TxId) (clock : ℕ) (ds : List Deed) : Type 0 where
  pub envelope : Envelope
  pub taken : In (Takes (inputs.Got envelope)) ds
  pub stamp : Stamp
  pub is : envelope.message ≡ messages.Decision tx (outcomes.Committed stamp)
  pub clock_is : clock ≡ stamp.clock

abbrev IsBroughtBy : TxId → ℕ → Message → Type 0
IsBroughtBy tx clock m = (stamp : Stamp) × (m ≡ messages.Decision tx (outcomes.Committed stamp)) × (clock ≡ stamp.clock)

-- a record that is posted is the turn's

pub write_of : (written : Record) (t : TurnDue) (end : Option Fall) → In (Wrote written) (posted_due t end)
    → t.write ≡ Some written
write_of written t end among = by t.write refl among
  where
    unsent : {A : Type 0} (ps : List Posting) → In (Wrote written) (map Sent ps) → A
    unsent [] there = absurd there
    unsent (p ∷ ps) (inl same) = absurd (let never : ⊥ = cc in never)
    unsent (p ∷ ps) (inr there) = unsent ps there

    unfallen : {A : Type 0} (ps : List Posting) (r : Record)
        → In (Wrote written) (map Sent ps ++ Fell causes.Disk (Some r) ∷ []) → A
    unfallen [] r (inl same) = absurd (let never : ⊥ = cc in never)
    unfallen [] r (inr there) = absurd there
    unfallen (p ∷ ps) r (inl same) = absurd (let never : ⊥ = cc in never)
    unfallen (p ∷ ps) r (inr there) = unfallen ps r there

    one : (r : Record) → Wrote written ≡ Wrote r → Some r ≡ Some written
    one r same = let is : written ≡ r = cc in ap (λ (x : Record). Some x) (sym is)

    by_end : (r : Record) (o : Option Fall) → In (Wrote written) (ends_with t r o) → Some r ≡ Some written
    by_end r None (inl same) = one r same
    by_end r None (inr there) = unsent t.sends there
    by_end r (Some causes.Script) (inl same) = one r same
    by_end r (Some causes.Script) (inr there) = unsent t.sends there
    by_end r (Some causes.Stop) (inl same) = absurd (let never : ⊥ = cc in never)
    by_end r (Some causes.Stop) (inr there) = absurd there
    by_end r (Some causes.Disk) there = unfallen t.failed_sends r there

    by : (w : Option Record) → t.write ≡ w
        → In (Wrote written) (option_map_or (λ (r : Record). ends_with t r end) w (map Sent t.sends)) → w ≡ Some written
    by None is there = unsent t.sends there
    by (Some r) is there = by_end r end there

module _ (decl : Declaration) where
  -- no turn of a request writes a Done

  abbrev WritesNoDone : Option Record → Type 0
  WritesNoDone w = (t : TxId) (c : ℕ) → w ≡ Some (records.Done t c) → ⊥

  granting_writes : (ds : List Deed) (e : Envelope) (q : Requested) → WritesNoDone (granting_turn decl ds e q).write
  granting_writes ds e q = by (is_new_promise ds q.tx q.want)
    where
      by : (b : Bool)
          → WritesNoDone
          (cond b (promise_turn ds e.from e.number q.tx)
          (sending (answers_due decl e.from e.number (grant_due ds q.want)))).write
      by true t c is = let never : ⊥ = cc in never
      by false t c is = let never : ⊥ = cc in never

  request_writes : (ds : List Deed) (e : Envelope) (q : Requested) → WritesNoDone (request_turn decl ds e q).write
  request_writes ds e q = by (is_declared decl q.tx q.want) (refusal_due decl ds q.tx q.epoch q.life q.want)
    where
      by : (b : Bool) (o : Option Answer)
          → WritesNoDone
          (cond b
          (option_map_or (λ (a : Answer). sending (answers_due decl e.from e.number a)) o
          (granting_turn decl ds e q)) quiet_turn).write
      by true None t c is = granting_writes ds e q t c is
      by true (Some a) t c is = let never : ⊥ = cc in never
      by false o t c is = let never : ⊥ = cc in never

  close_writes : (ds : List Deed) (e : Envelope) (k : ℕ) → WritesNoDone (close_turn ds e k).write
  close_writes ds e k = by (nat_lt (epoch_shown ds + 1) k) (nat_le k (epoch_shown ds)) (is_epoch k (closed_shown ds))
    where
      by : (far near again : Bool)
          → WritesNoDone
          (cond far (telling_turn e (answers.Behind (epoch_shown ds)))
          (cond near (telling_turn e (answers.Closed (epoch_shown ds)))
          (cond again (telling_turn e (shut_due ds)) (recording_turn e (records.Close k) (shut_due ds))))).write
      by true near again t c is = let never : ⊥ = cc in never
      by false true again t c is = let never : ⊥ = cc in never
      by false false true t c is = let never : ⊥ = cc in never
      by false false false t c is = let never : ⊥ = cc in never

  install_writes : (ds : List Deed) (e : Envelope) (i : EpochStart) → WritesNoDone (install_turn ds e i).write
  install_writes ds e i = by (nat_le i.epoch (epoch_shown ds)) (nat_le (epoch_length i.lines) most_record_bytes)
    where
      by : (is_known fits : Bool)
          → WritesNoDone
          (cond is_known (telling_turn e answers.Installed)
          (cond fits (recording_turn e (records.Install i) answers.Installed)
          (telling_turn e (answers.Behind (epoch_shown ds))))).write
      by true fits t c is = let never : ⊥ = cc in never
      by false true t c is = let never : ⊥ = cc in never
      by false false t c is = let never : ⊥ = cc in never

  outcome_brings : (ds : List Deed) (t tx : TxId) (clock : ℕ) (v : Outcome)
      → (done_turn ds t v).write ≡ Some (records.Done tx clock) → IsBroughtBy tx clock (messages.Decision t v)
  outcome_brings ds t tx clock (outcomes.Committed stamp) is = by (is_promised ds t) is
    where
      by : (b : Bool)
          → (cond b (record { write = Some (records.Done t stamp.clock); sends = []; failed_sends = [] })
          quiet_turn).write ≡ Some (records.Done tx clock)
          → IsBroughtBy tx clock (messages.Decision t (outcomes.Committed stamp))
      by true same =
          let name : tx ≡ t = cc in
          let time : clock ≡ stamp.clock = cc in
          (stamp, ap (λ (u : TxId). messages.Decision u (outcomes.Committed stamp)) (sym name), time)
      by false same = absurd (let never : ⊥ = cc in never)
  outcome_brings ds t tx clock outcomes.Aborted is = absurd (let never : ⊥ = cc in never)
  outcome_brings ds t tx clock outcomes.Active is = absurd (let never : ⊥ = cc in never)

  none_written : {A : Type 0} (tx : TxId) (clock : ℕ) → None ≡ Some (records.Done tx clock) → A
  none_written tx clock is = absurd (let never : ⊥ = cc in never)

  abbrev letter : Envelope → Message → Envelope
  letter e m = record e { message = m }

  message_brings : (ds : List Deed) (tx : TxId) (clock : ℕ) (e : Envelope) (m : Message)
      → (heard_turn decl ds (letter e m)).write ≡ Some (records.Done tx clock) → IsBroughtBy tx clock m
  message_brings ds tx clock e (messages.Request t epoch life want) is =
      absurd (request_writes ds (letter e (messages.Request t epoch life want))
      (record { tx = t; epoch = epoch; life = life; want = want }) tx clock is)
  message_brings ds tx clock e (messages.Answer to answer) is = none_written tx clock is
  message_brings ds tx clock e (messages.Decision t verdict) is = outcome_brings ds t tx clock verdict is
  message_brings ds tx clock e (messages.Inquiry t) is = none_written tx clock is
  message_brings ds tx clock e (messages.Ask t) is = none_written tx clock is
  message_brings ds tx clock e (messages.Close epoch) is =
      absurd (close_writes ds (letter e (messages.Close epoch)) epoch tx clock is)
  message_brings ds tx clock e (messages.Install start) is =
      absurd (install_writes ds (letter e (messages.Install start))
      start tx clock is)

  pub given_brings : (ds : List Deed) (tx : TxId) (clock : ℕ) (g : Input) (more : List Deed)
      → (turn_due decl ds g).write ≡ Some (records.Done tx clock) → IsBrought tx clock (Takes g ∷ more)
  given_brings ds tx clock (inputs.Called command) more is = none_written tx clock is
  given_brings ds tx clock (inputs.Got e) more is =
      let b : IsBroughtBy tx clock e.message = message_brings ds tx clock e e.message is in
      record { envelope = e; taken = inl refl; stamp = b.0; is = b.1; clock_is = b.2 }
  given_brings ds tx clock (inputs.Lost number) more is = none_written tx clock is

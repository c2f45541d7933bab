-- A commit record is written, or stays pending: it has a stamp of its own, and above the clocks of all that was
-- counted.
use Rattle.std.proofs.Common.{◌≡◌, ◌≢◌, ℕ, ◌<◌, ◌≤◌, Bool, true, false, inl, inr, ◌∷◌, refl, sym, ap, ◌∙◌, subst, arith}
use Rattle.qc_stamp.specs.declared.stamp.Stamp.{Stamp}
use Rattle.qc_stamp.specs.declared.stamp.TxId.{TxId}
use Rattle.qc_entry.specs.declared.record.Commit.{Commit as CommitRecord}
use Rattle.qc_decl.specs.declared.declaration.Declaration.{Declaration}
use Rattle.theory_machine.specs.Vocabulary.{Aborted, Committed, HasRecord, IsLive, IsOutcome, IsRecordOf, MayCommit}
use Rattle.theory_machine.specs.Vocabulary.{NotBegun, Pending, State, StateLaws, Status, Voting, put, recover_records}
use Rattle.theory_machine.specs.Vocabulary.{recover_status}
use Rattle.theory_machine.proofs.Names.{put_case, put_here}
use Rattle.theory_machine.proofs.Statuses.{Moves, voting_no_outcome, pending_no_outcome}

module _ (decl : Declaration) where
  new_clocks : (w : State) (c : CommitRecord) → MayCommit w c → (client : ℕ)
      → w.clock client ≤ put w.clock c.tx.client c.stamp.clock client
  new_clocks w c may client = put_case (λ (n : ℕ). w.clock client ≤ n) w.clock c.tx.client c.stamp.clock client
      (λ e. let x : w.clock c.tx.client < c.stamp.clock = may.above in
      let y : w.clock client ≡ w.clock c.tx.client = ap w.clock e in omega arith) (λ ne. omega arith)

  new_record : (w : State) (c : CommitRecord) → MayCommit w c → StateLaws decl w
      → IsRecordOf w.counted w.votes (put w.clock c.tx.client c.stamp.clock c.tx.client) (w.executed c.tx)
      (w.chosen c.tx) c.tx c
  new_record w c may l = record {
    named = refl;
    client = may.client;
    low = (let x : put w.clock c.tx.client c.stamp.clock c.tx.client ≡ c.stamp.clock =
        put_here w.clock c.tx.client c.stamp.clock in omega arith);
    ops = may.ops;
    none_chosen = l.quiet c.tx may.voting;
    agreed = λ g h e.
        let live : IsLive (w.status g.tx) = subst (λ (t : TxId). IsLive (w.status t)) (sym e)
        (subst (λ (s : Status). IsLive s) (sym may.voting) tt) in
        let x : g.clock ≤ w.clock g.tx.client = l.passed g h live in
        let y : w.clock g.tx.client ≡ w.clock c.tx.client = ap (λ (t : TxId). w.clock t.client) e in
        let z : w.clock c.tx.client < c.stamp.clock = may.above in
        -- AllHaveVoted
        (may.votes g h e, omega arith);
  }

  new_apart : (w : State) (c d : CommitRecord) (u : TxId) → MayCommit w c → StateLaws decl w → HasRecord (w.status u) d
      → u ≢ c.tx → c.stamp ≢ d.stamp
  new_apart w c d u may l k ne same =
      let r = l.record_of u d k in
      let clocks : c.stamp.clock ≡ d.stamp.clock = ap (λ (s : Stamp). s.clock) same in
      let clients : u.client ≡ c.tx.client = sym r.client ∙ ap (λ (s : Stamp). s.client) (sym same) ∙ may.client in
      let low : d.stamp.clock ≤ w.clock u.client = r.low in
      let there : w.clock u.client ≡ w.clock c.tx.client = ap w.clock clients in
      let above : w.clock c.tx.client < c.stamp.clock = may.above in
      omega arith

  pub commit_moves : (w : State) (c : CommitRecord) → MayCommit w c → StateLaws decl w
      → Moves decl w c.tx (Committed c) (put w.clock c.tx.client c.stamp.clock) (c ∷ w.records) w.epoch
  commit_moves w c may l = record {
    same_epoch = λ u alive. refl;
    others = λ u ne. refl;
    plans = l.planned c.tx (λ x. (let y : Voting ≡ NotBegun = sym (may.voting) ∙ x in cc));
    right = λ o h. absurd (voting_no_outcome decl o (subst (λ (s : Status). IsOutcome s o) may.voting h));
    preparing = λ h. tt;
    living = λ alive d. (let x : Voting ≡ Aborted = sym may.voting ∙ d in cc);
    clocks = new_clocks w c may;
    live = λ h. absurd h;
    begun = λ x. cc;
    quiet = λ x. absurd (let never : ⊥ = cc in never);
    record_of = λ d h. subst (λ (x : CommitRecord). IsRecordOf w.counted w.votes
        (put w.clock c.tx.client c.stamp.clock c.tx.client) (w.executed c.tx) (w.chosen c.tx) c.tx x) h
        (new_record w c may l);
    apart = λ d e u h k ne. subst (λ (x : CommitRecord). x.stamp ≢ e.stamp) h (new_apart w c e u may l k ne);
    final = λ d f. (let x : Voting ≡ Committed d = sym may.voting ∙ f in absurd (let never : ⊥ = cc in never));
    written = λ d h. elim h [
      | inl same ↦ inr
          (ap (λ (x : CommitRecord). x.tx) same, ap (λ (x : CommitRecord). Committed x) (sym same))
      | inr old ↦ inl old
    ];
    writes = λ d x. inl (cc);
    keeps = λ d h. inr h;
  }

  pub commit_unknown_moves : (w : State) (c : CommitRecord) → MayCommit w c → StateLaws decl w
      → Moves decl w c.tx (Pending c) (put w.clock c.tx.client c.stamp.clock) w.records w.epoch
  commit_unknown_moves w c may l = record {
    same_epoch = λ u alive. refl;
    others = λ u ne. refl;
    plans = l.planned c.tx (λ x. (let y : Voting ≡ NotBegun = sym (may.voting) ∙ x in cc));
    right = λ o h. absurd (voting_no_outcome decl o (subst (λ (s : Status). IsOutcome s o) may.voting h));
    preparing = λ h. tt;
    living = λ alive d. (let x : Voting ≡ Aborted = sym may.voting ∙ d in cc);
    clocks = new_clocks w c may;
    live = λ h. absurd h;
    begun = λ x. cc;
    quiet = λ x. absurd (let never : ⊥ = cc in never);
    record_of = λ d h. subst (λ (x : CommitRecord). IsRecordOf w.counted w.votes
        (put w.clock c.tx.client c.stamp.clock c.tx.client) (w.executed c.tx) (w.chosen c.tx) c.tx x) h
        (new_record w c may l);
    apart = λ d e u h k ne. subst (λ (x : CommitRecord). x.stamp ≢ e.stamp) h (new_apart w c e u may l k ne);
    final = λ d f. (let x : Voting ≡ Committed d = sym may.voting ∙ f in absurd (let never : ⊥ = cc in never));
    written = λ d h. inl h;
    writes = λ d x. absurd (let never : ⊥ = cc in never);
    keeps = λ d h. h;
  }

  pub recover_moves : (w : State) (tx : TxId) (c : CommitRecord) (with_record : Bool) → w.status tx ≡ Pending c
      → StateLaws decl w → Moves decl w tx (recover_status with_record (Pending c)) w.clock
      (recover_records with_record (Pending c) w.records) w.epoch
  recover_moves w tx c true e l = record {
    same_epoch = λ u alive. refl;
    others = λ u ne. refl;
    plans = l.planned tx (λ x. (let y : Pending c ≡ NotBegun = sym (e) ∙ x in cc));
    right = λ o h. absurd (pending_no_outcome decl c o (subst (λ (s : Status). IsOutcome s o) e h));
    preparing = λ h. tt;
    living = λ alive d. (let x : Pending c ≡ Aborted = sym e ∙ d in cc);
    clocks = λ client. (omega arith);
    live = λ h. absurd h;
    begun = λ x. cc;
    quiet = λ x. absurd (let never : ⊥ = cc in never);
    record_of = λ d h. l.record_of tx d (subst (λ (s : Status). HasRecord s d) (sym e) h);
    apart = λ d f u h k ne. l.apart tx u d f (subst (λ (s : Status). HasRecord s d) (sym e) h) k
        (λ same. ne (sym same));
    final = λ d f. (let x : Pending c ≡ Committed d = sym e ∙ f in absurd (let never : ⊥ = cc in never));
    written = λ d h. elim h [
      | inl same ↦ inr (
        ap (λ (x : CommitRecord). x.tx) same
            ∙ (l.record_of tx c (subst (λ (s : Status). HasRecord s c) (sym e) refl)).named,
        ap (λ (x : CommitRecord). Committed x) (sym same),
      )
      | inr old ↦ inl old
    ];
    writes = λ d x. inl (cc);
    keeps = λ d h. inr h;
  }
  recover_moves w tx c false e l = record {
    same_epoch = λ u alive. refl;
    others = λ u ne. refl;
    plans = l.planned tx (λ x. (let y : Pending c ≡ NotBegun = sym (e) ∙ x in cc));
    right = λ o h. absurd (pending_no_outcome decl c o (subst (λ (s : Status). IsOutcome s o) e h));
    preparing = λ h. tt;
    living = λ alive d. alive refl;
    clocks = λ client. (omega arith);
    live = λ h. absurd h;
    begun = λ x. cc;
    quiet = λ x. absurd (let never : ⊥ = cc in never);
    record_of = λ d h. absurd h;
    apart = λ d f u h k ne. absurd h;
    final = λ d f. (let x : Pending c ≡ Committed d = sym e ∙ f in absurd (let never : ⊥ = cc in never));
    written = λ d h. inl h;
    writes = λ d x. absurd (let never : ⊥ = cc in never);
    keeps = λ d h. h;
  }

-- Acts that move the status of a transaction, and what a move must keep: an outcome is final, and commit records stay
-- apart (Lamport 1978: a stamp is above the client's clock, and has the client's number).
use Rattle.std.proofs.Common.{◌≡◌, ◌≢◌, ℕ, ◌≤◌, ◌⊎◌, inl, inr, List, Option, Some, None, refl, sym, ap, ◌∙◌, subst}
use Rattle.std.proofs.Common.{arith}
use Rattle.qc_stamp.specs.declared.stamp.Stamp.{Stamp}
use Rattle.qc_stamp.specs.declared.stamp.TxId.{TxId}
use Rattle.qc_entry.specs.declared.record.Commit.{Commit as CommitRecord}
use Rattle.qc_decl.specs.declared.declaration.Declaration.{Declaration}
use Rattle.qc_list.specs.Vocabulary.{In}
use Rattle.theory_machine.specs.Vocabulary.{Aborted, Active, Committed, CountedLaw, HasRecord, IsLive, IsOutcome}
use Rattle.theory_machine.specs.Vocabulary.{IsRecordOf, MayPrepare, NotBegun, Pending, State, StateLaws, Status, Voting}
use Rattle.theory_machine.specs.Vocabulary.{put_tx}
use Rattle.qc_plan.specs.declared.plan.Plan.{Plan}
use Rattle.qc_decl.specs.Vocabulary.{plan_in}
use Rattle.theory_machine.proofs.Names.{put_tx_case, put_tx_here}
use Rattle.theory_machine.proofs.Counted.{restated}
use Rattle.theory_machine.proofs.Outcomes.{deed_agrees}

module _ (decl : Declaration) where
  abbrev pub moved_state : State → TxId → Status → (ℕ → ℕ) → List CommitRecord → (TxId → ℕ) → State
  moved_state w tx new clock records epoch =
      record w { status = put_tx w.status tx new; clock = clock; records = records; epoch = epoch }

  -- how a status may move
  pub record Moves (w : State) (tx : TxId) (new : Status) (clock : ℕ → ℕ) (records : List CommitRecord)
      (epoch : TxId → ℕ) : Type 0 where
    pub same_epoch : (u : TxId) → w.status u ≢ NotBegun → w.epoch u ≡ epoch u
    pub others : (u : TxId) → (u ≢ tx) → w.epoch u ≡ epoch u
    pub plans : (plan : Plan) × (plan_in decl (epoch tx) ≡ Some plan)
    pub right : (o : Option Stamp) → IsOutcome (w.status tx) o → IsOutcome new o
    pub preparing : MayPrepare (w.status tx) → MayPrepare new
    pub living : new ≢ Aborted → w.status tx ≢ Aborted
    pub clocks : (client : ℕ) → w.clock client ≤ clock client
    pub live : IsLive new → IsLive (w.status tx) ⊎ (w.status tx ≡ NotBegun)
    pub begun : new ≢ NotBegun
    pub quiet : new ≡ Voting → w.chosen tx ≡ None
    pub record_of : (c : CommitRecord) → HasRecord new c
        → IsRecordOf w.counted w.votes (clock tx.client) (w.executed tx) (w.chosen tx) tx c
    pub apart : (c d : CommitRecord) (u : TxId) → HasRecord new c → HasRecord (w.status u) d → u ≢ tx
        → c.stamp ≢ d.stamp
    pub final : (c : CommitRecord) → w.status tx ≡ Committed c → new ≡ Committed c
    pub written : (c : CommitRecord) → In c records → In c w.records ⊎ ((c.tx ≡ tx) × (new ≡ Committed c))
    pub writes : (c : CommitRecord) → new ≡ Committed c → In c records
    pub keeps : (c : CommitRecord) → In c w.records → In c records

  higher : (w : State) (clock : ℕ → ℕ) (tx : TxId) (c : CommitRecord) → w.clock tx.client ≤ clock tx.client
      → IsRecordOf w.counted w.votes (w.clock tx.client) (w.executed tx) (w.chosen tx) tx c
      → IsRecordOf w.counted w.votes (clock tx.client) (w.executed tx) (w.chosen tx) tx c
  higher w clock tx c le r = record {
    named = r.named;
    client = r.client;
    low = (let x : c.stamp.clock ≤ w.clock tx.client = r.low in omega arith);
    ops = r.ops;
    none_chosen = r.none_chosen;
    agreed = r.agreed;
  }

  pub moved : (w : State) (tx : TxId) (new : Status) (clock : ℕ → ℕ) (records : List CommitRecord) (epoch : TxId → ℕ)
      → Moves w tx new clock records epoch → StateLaws decl w
      → StateLaws decl (moved_state w tx new clock records epoch)
  moved w tx new clock records epoch m l = record {
    verdicts = λ t h. put_tx_case (λ (s : Status). IsOutcome s t.stamp) w.status tx new t.tx
        (λ e. m.right t.stamp (subst (λ (x : TxId). IsOutcome (w.status x) t.stamp) e (l.verdicts t h)))
        (λ ne. l.verdicts t h);
    deeds = λ s d h. deed_agrees w.status tx new m.right m.preparing d (l.deeds s d h);
    granted = l.granted;
    facts = l.facts;
    known = l.known;
    counted = λ g h. put_tx_case (λ (s : Status). CountedLaw (w.deeds g.site) (w.life g.site) s w.votes g) w.status tx
        new g.tx
        (λ e. restated (w.deeds g.site) (w.life g.site) (w.status g.tx) new w.votes g
        (λ alive. subst (λ (x : TxId). w.status x ≢ Aborted) (sym e) (m.living alive)) (l.counted g h))
        (λ ne. l.counted g h);
    votes = λ v h. put_tx_case (λ (s : Status). MayPrepare s) w.status tx new v.tx
        (λ e. m.preparing (subst (λ (x : TxId). MayPrepare (w.status x)) e (l.votes v h))) (λ ne. l.votes v h);
    begun = λ g h. put_tx_case (λ (s : Status). s ≢ NotBegun) w.status tx new g.tx (λ e. m.begun) (λ ne. l.begun g h);
    passed = λ g h. put_tx_case (λ (s : Status). IsLive s → g.clock ≤ clock g.tx.client) w.status tx new g.tx
        (λ e live. elim (m.live live) [
          | inl was ↦ let x : g.clock ≤ w.clock g.tx.client =
              l.passed g h (subst (λ (t : TxId). IsLive (w.status t)) (sym e) was) in
              let y : w.clock g.tx.client ≤ clock g.tx.client = m.clocks g.tx.client in omega arith
          | inr not_begun ↦ absurd (l.begun g h (subst (λ (t : TxId). w.status t ≡ NotBegun) (sym e) not_begun))
        ])
        (λ ne live. let x : g.clock ≤ w.clock g.tx.client = l.passed g h live in
        let y : w.clock g.tx.client ≤ clock g.tx.client = m.clocks g.tx.client in omega arith);
    seen_by = λ client g h. (let r = l.seen_by client g h in let x : g.clock ≤ w.clock client = r.1 in
        let y : w.clock client ≤ clock client = m.clocks client in (r.0, omega arith));
    quiet = λ t. put_tx_case (λ (s : Status). s ≡ Voting → w.chosen t ≡ None) w.status tx new t
        (λ e v. subst (λ (x : TxId). w.chosen x ≡ None) (sym e) (m.quiet v)) (λ ne v. l.quiet t v);
    record_of = λ t c. put_tx_case (λ (s : Status). HasRecord s c
        → IsRecordOf w.counted w.votes (clock t.client) (w.executed t) (w.chosen t) t c) w.status tx new t
        (λ e h. subst (λ (x : TxId). IsRecordOf w.counted w.votes (clock x.client) (w.executed x) (w.chosen x) x c)
        (sym e) (m.record_of c h))
        (λ ne h. higher w clock t c (m.clocks t.client) (l.record_of t c h));
    apart = λ t u c d. put_tx_case (λ (s : Status). HasRecord s c → HasRecord (put_tx w.status tx new u) d → t ≢ u
        → c.stamp ≢ d.stamp) w.status tx new t
        (λ e h. put_tx_case (λ (s : Status). HasRecord s d → t ≢ u → c.stamp ≢ d.stamp) w.status tx new u
        (λ f k ne. absurd (ne (e ∙ sym f)))
        (λ nf k ne. m.apart c d u h k nf))
        (λ nt h. put_tx_case (λ (s : Status). HasRecord s d → t ≢ u → c.stamp ≢ d.stamp) w.status tx new u
        (λ f k ne same. m.apart d c t k h nt (sym same))
        (λ nf k ne. l.apart t u c d h k ne));
    written = λ c h. put_tx_case (λ (s : Status). s ≡ Committed c) w.status tx new c.tx
        (λ e. elim (m.written c h) [
          | inl old ↦ m.final c (subst (λ (x : TxId). w.status x ≡ Committed c) e (l.written c old))
          | inr is ↦ is.1
        ])
        (λ ne. elim (m.written c h) [ inl old ↦ l.written c old | inr is ↦ absurd (ne is.0) ]);
    writes = λ t c. put_tx_case (λ (s : Status). s ≡ Committed c → In c records) w.status tx new t (λ e h. m.writes c h)
        (λ ne h. m.keeps c (l.writes t c h));
    counts_epoch = λ g h. l.counts_epoch g h ∙ m.same_epoch g.tx (l.begun g h);
    planned = λ t. put_tx_case (λ (s : Status). s ≢ NotBegun → (plan : Plan) × (plan_in decl (epoch t) ≡ Some plan))
        w.status tx new t
        (λ e alive. subst (λ (x : TxId). (plan : Plan) × (plan_in decl (epoch x) ≡ Some plan)) (sym e) m.plans)
        (λ ne alive. subst (λ (x : ℕ). (plan : Plan) × (plan_in decl x ≡ Some plan)) (m.others t ne)
        (l.planned t alive));
    installed = l.installed;
    rising = l.rising;
    snapped = l.snapped;
    answers = l.answers;
    made = l.made;
  }

  not_begun_no_outcome : (o : Option Stamp) → IsOutcome NotBegun o → ⊥
  not_begun_no_outcome None h = h
  not_begun_no_outcome (Some c) h = h

  active_no_outcome : (o : Option Stamp) → IsOutcome Active o → ⊥
  active_no_outcome None h = h
  active_no_outcome (Some c) h = h

  pub voting_no_outcome : (o : Option Stamp) → IsOutcome Voting o → ⊥
  voting_no_outcome None h = h
  voting_no_outcome (Some c) h = h

  pub pending_no_outcome : (c : CommitRecord) (o : Option Stamp) → IsOutcome (Pending c) o → ⊥
  pending_no_outcome c None h = h
  pending_no_outcome c (Some s) h = h

  pub begin_moves : (w : State) (tx : TxId) (epoch : ℕ) → w.status tx ≡ NotBegun
      → ((plan : Plan) × (plan_in decl epoch ≡ Some plan))
      → Moves w tx Active w.clock w.records (put_tx w.epoch tx epoch)
  begin_moves w tx epoch e plan = record {
    same_epoch = λ u alive. put_tx_case (λ (x : ℕ). w.epoch u ≡ x) w.epoch tx epoch u
        (λ same. absurd (alive (ap w.status same ∙ e))) (λ ne. refl);
    others = λ u ne. put_tx_case (λ (x : ℕ). w.epoch u ≡ x) w.epoch tx epoch u (λ same. absurd (ne same)) (λ x. refl);
    plans = subst (λ (x : ℕ). (p : Plan) × (plan_in decl x ≡ Some p)) (sym (put_tx_here w.epoch tx epoch)) plan;
    right = λ o h. absurd (not_begun_no_outcome o (subst (λ (s : Status). IsOutcome s o) e h));
    preparing = λ h. absurd (subst (λ (s : Status). MayPrepare s) e h);
    living = λ alive d. (let x : NotBegun ≡ Aborted = sym e ∙ d in cc);
    clocks = λ client. (omega arith);
    live = λ h. inr e;
    begun = λ x. cc;
    quiet = λ x. absurd (let never : ⊥ = cc in never);
    record_of = λ c h. absurd h;
    apart = λ c d u h k ne. absurd h;
    final = λ c f. (let x : NotBegun ≡ Committed c = sym e ∙ f in absurd (let never : ⊥ = cc in never));
    written = λ c h. inl h;
    writes = λ c x. absurd (let never : ⊥ = cc in never);
    keeps = λ c h. h;
  }

  pub prepare_moves : (w : State) (tx : TxId) → w.status tx ≡ Active → w.chosen tx ≡ None → StateLaws decl w
      → Moves w tx Voting w.clock w.records w.epoch
  prepare_moves w tx e q l = record {
    same_epoch = λ u alive. refl;
    others = λ u ne. refl;
    plans = l.planned tx (λ x. (let y : Active ≡ NotBegun = sym (e) ∙ x in cc));
    right = λ o h. absurd (active_no_outcome o (subst (λ (s : Status). IsOutcome s o) e h));
    preparing = λ h. tt;
    living = λ alive d. (let x : Active ≡ Aborted = sym e ∙ d in cc);
    clocks = λ client. (omega arith);
    live = λ h. inl (subst (λ (s : Status). IsLive s) (sym e) tt);
    begun = λ x. cc;
    quiet = λ x. q;
    record_of = λ c h. absurd h;
    apart = λ c d u h k ne. absurd h;
    final = λ c f. (let x : Active ≡ Committed c = sym e ∙ f in absurd (let never : ⊥ = cc in never));
    written = λ c h. inl h;
    writes = λ c x. absurd (let never : ⊥ = cc in never);
    keeps = λ c h. h;
  }

  pub abort_moves : (w : State) (tx : TxId) → ((w.status tx ≡ Active) ⊎ (w.status tx ≡ Voting)) → StateLaws decl w
      → Moves w tx Aborted w.clock w.records w.epoch
  abort_moves w tx e l = record {
    same_epoch = λ u alive. refl;
    others = λ u ne. refl;
    plans = l.planned tx (λ x. elim e [
      | inl y ↦ (let z : Active ≡ NotBegun = sym y ∙ x in cc)
      | inr y ↦
          (let z : Voting ≡ NotBegun = sym y ∙ x in cc)
    ]);
    right = λ o h. none o e h;
    preparing = λ h. tt;
    living = λ alive d. alive refl;
    clocks = λ client. (omega arith);
    live = λ h. absurd h;
    begun = λ x. cc;
    quiet = λ x. absurd (let never : ⊥ = cc in never);
    record_of = λ c h. absurd h;
    apart = λ c d u h k ne. absurd h;
    final = λ c f. final c f e;
    written = λ c h. inl h;
    writes = λ c x. absurd (let never : ⊥ = cc in never);
    keeps = λ c h. h;
  }
    where
      none : (o : Option Stamp) → ((w.status tx ≡ Active) ⊎ (w.status tx ≡ Voting)) → IsOutcome (w.status tx) o
          → IsOutcome Aborted o
      none o (inl x) h = absurd (active_no_outcome o (subst (λ (s : Status). IsOutcome s o) x h))
      none o (inr x) h = absurd (voting_no_outcome o (subst (λ (s : Status). IsOutcome s o) x h))

      final : (c : CommitRecord) → w.status tx ≡ Committed c → ((w.status tx ≡ Active) ⊎ (w.status tx ≡ Voting))
          → Aborted ≡ Committed c
      final c f (inl x) = let y : Active ≡ Committed c = sym x ∙ f in absurd (let never : ⊥ = cc in never)
      final c f (inr x) = let y : Voting ≡ Committed c = sym x ∙ f in absurd (let never : ⊥ = cc in never)

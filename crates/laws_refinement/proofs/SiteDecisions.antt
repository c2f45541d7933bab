-- A Decision that a site takes, as an act of the machine.
use Rattle.std.proofs.Common.{[], ◌≡◌, ◌≤◌, ◌⊎◌, inl, inr, ℕ, ◌==◌, ◌∙◌, max, nat_lt, ltb-false, eqb-true, Bool, true}
use Rattle.std.proofs.Common.{false, cond, List, ◌∷◌, ◌++◌, Option, Some, None, not, refl, ap, subst, arith, sym}
use Rattle.qc_stamp.specs.declared.stamp.Stamp.{Stamp}
use Rattle.qc_stamp.specs.declared.stamp.TxId.{TxId}
use Rattle.qc_stamp.specs.Vocabulary.{same_tx}
use Rattle.qc_list.specs.Vocabulary.{In}
use Rattle.qc_entry.specs.declared.record.Prepared.{Prepared}
use Rattle.qc_entry.specs.declared.line.Line.{Line}
use Rattle.qc_entry.specs.Vocabulary.{union, without}
use Rattle.qc_list.proofs.Members.{In-unfiltered}
use Rattle.qc_decl.specs.declared.declaration.Declaration.{Declaration}
use Rattle.qc_decl.specs.Vocabulary.{IsAccepted, is_site}
use Rattle.qc_lock.specs.Vocabulary.{without_held}
use Rattle.qc_msg.specs.declared.message.Outcome.{Outcome}
use Rattle.qc_msg.specs.Vocabulary.{quiet}
use Rattle.theory_machine.specs.Vocabulary.{Aborted, Act, Active, Committed, Deed, DoneRecord, HasRecord, IsOutcome}
use Rattle.theory_machine.specs.Vocabulary.{IsRun, LearnsAbort, LearnsCommit, NotBegun, Pending, Promise, Site, Status}
use Rattle.theory_machine.specs.Vocabulary.{Voting, after_commit, done_record, promise_of, site_after, state}
use Rattle.theory_machine.specs.Vocabulary.{without_tx}
use Rattle.qc_site.specs.Vocabulary.{SiteMove, SiteState, closed_fault, dropped, fault_of, joins, known, lines_of}
use Rattle.qc_site.specs.Vocabulary.{moved, prepared_of, site_on, without_prepared}
use Rattle.laws_refinement.specs.Vocabulary.{AreApart, AreLined, Continues, IsKeptBy, IsPromiseOf, IsVerdictBacked}
use Rattle.laws_refinement.specs.Vocabulary.{KeptMirrors, Mirrors, Net, after_site}
use Rattle.laws_refinement.proofs.Apart.{aparts_dropped}
use Rattle.qc_site.proofs.KnownLines.{learned_in}
use Rattle.laws_refinement.proofs.Promises.{commit_log, commit_logged, commit_passed, commit_promised, commit_sorted}
use Rattle.laws_refinement.proofs.Promises.{dropped_promise}
use Rattle.laws_refinement.proofs.SiteGrants.{stands}
use Rattle.laws_refinement.proofs.SiteActs.{learns_it}
use Rattle.laws_refinement.proofs.SiteSteps.{Stays}
use Rattle.std.specs.Prelude.{option_to_list}
use Rattle.std.specs.Option.{option_map_or}
use Rattle.std.proofs.lemmas.List.{append-nil}
use Rattle.qc_recover.specs.Vocabulary.{Kept, done_stamp, keeps, kept_by}
use Rattle.qc_msg.specs.declared.record.Record.{Record}
use Rattle.theory_machine.proofs.Keeps.{laws}
use Rattle.laws_refinement.proofs.KeptLists.{kept_more, still_promised, undropped_site}
use Rattle.laws_refinement.proofs.KeptDeeds.{leaves_epoch, kept_same}
use Rattle.laws_refinement.proofs.KeptSteps.{kept_finishes}
use Rattle.qc_stamp.proofs.Orders.{same_tx_is}
use Rattle.qc_site.proofs.Votes.{prepared-without, prepared-without_other}
use Rattle.qc_msg.specs.declared.message.Answer.TheVariants as answers
use Rattle.qc_msg.specs.declared.message.Message.TheVariants as messages
use Rattle.qc_msg.specs.declared.message.Outcome.TheVariants as outcomes
use Rattle.qc_msg.specs.declared.record.Record.TheVariants as records

join_drops : (tx : TxId) (stamp : Stamp) (p : Option Promise) (s : Site)
    → (after_commit tx stamp p s).held ≡ without_tx tx s.held
join_drops tx stamp None s = refl
join_drops tx stamp (Some p) s = refl

-- what a decision leaves alone
record JoinKeeps (s : SiteState) (tx : TxId) (move : SiteMove) : Type 0 where
  held : move.site.held ≡ without_held s.held tx
  stays : Stays s move.site
  clock : move.site.clock ≡ s.clock
  sends : move.turn.sends ≡ []

join_apart : (s : SiteState) (tx : TxId) (stamp : Stamp) (q : Option Prepared) → AreApart s.prepared
    → AreApart (joins s tx stamp q).site.prepared
join_apart s tx stamp None a = aparts_dropped tx s.prepared a
join_apart s tx stamp (Some q) a = aparts_dropped tx s.prepared a

join_lined : (s : SiteState) (tx : TxId) (stamp : Stamp) (q : Option Prepared) → AreLined s.prepared (known s)
    → AreLined (joins s tx stamp q).site.prepared (known (joins s tx stamp q).site)
join_lined s tx stamp None h p among l has =
    h p (In-unfiltered (λ (x : Prepared). not (same_tx x.tx tx)) p s.prepared among) l has
join_lined s tx stamp (Some q) h p among l has =
    learned_in l s.began s.log (lines_of stamp tx q.own)
    (inl (h p (In-unfiltered (λ (x : Prepared). not (same_tx x.tx tx)) p s.prepared among) l has))

join_keeps : (s : SiteState) (tx : TxId) (stamp : Stamp) (q : Option Prepared) → JoinKeeps s tx (joins s tx stamp q)
join_keeps s tx stamp None =
    record { held = refl; stays = record { life = refl; epoch = refl; closed_for = refl }; clock = refl; sends = refl }
join_keeps s tx stamp (Some q) =
    record { held = refl; stays = record { life = refl; epoch = refl; closed_for = refl }; clock = refl; sends = refl }

-- a request that nothing refuses by its epoch or life
pub record Passes (s : SiteState) (epoch life : ℕ) : Type 0 where
  pub epoch_is : s.epoch ≡ epoch
  pub unshut : s.closed_for ≡ None
  pub lived : (life ≡ 0) ⊎ (life ≡ s.life)

pub passes : (s : SiteState) (epoch life : ℕ) → fault_of s epoch life ≡ None → Passes s epoch life
passes s epoch life = by (nat_lt s.epoch epoch) (nat_lt epoch s.epoch) refl refl
  where
    life_by : (b c : Bool) → (life == 0) ≡ b → (life == s.life) ≡ c
        → cond b None (cond c None (Some (answers.Restarted s.life))) ≡ None → (life ≡ 0) ⊎ (life ≡ s.life)
    life_by true c p q e = inl (eqb-true life 0 p)
    life_by false true p q e = inr (eqb-true life s.life q)
    life_by false false p q e = absurd (let never : ⊥ = cc in never)

    shut_by : (o : Option ℕ) → s.closed_for ≡ o → s.epoch ≡ epoch → closed_fault s life o ≡ None → Passes s epoch life
    shut_by None unshut same e =
        record { epoch_is = same; unshut = unshut; lived = life_by (life == 0) (life == s.life) refl refl e }
    shut_by (Some k) unshut same e = absurd (let never : ⊥ = cc in never)

    by : (b c : Bool) → nat_lt s.epoch epoch ≡ b → nat_lt epoch s.epoch ≡ c
        → cond b (Some (answers.Behind s.epoch))
        (cond c (Some (answers.Closed s.epoch)) (closed_fault s life s.closed_for)) ≡ None → Passes s epoch life
    by true c p q e = absurd (let never : ⊥ = cc in never)
    by false true p q e = absurd (let never : ⊥ = cc in never)
    by false false p q e =
        let low : epoch ≤ s.epoch = ltb-false s.epoch epoch p in
        let high : s.epoch ≤ epoch = ltb-false epoch s.epoch q in shut_by s.closed_for refl (omega arith) e

-- a site whose records agree still
record Joined (decl : Declaration) (rs : List Record) (status : TxId → Status) (life : ℕ) (ds : List Deed)
    (move : SiteMove) : Type 0 where
  kept : KeptMirrors decl (kept_by (rs ++ option_to_list move.turn.write)) status life ds
  alike : IsKeptBy move.site (kept_by (rs ++ option_to_list move.turn.write))

module _ (decl : Declaration) (accepted : IsAccepted decl) (acts : List Act) (net : Net) (a : ℕ) (run : IsRun decl acts)
    (m : Mirrors decl (state acts) net) (site : is_site decl a ≡ true) (up : net.up a ≡ true) where
  pub decision_case : (tx : TxId) (verdict : Outcome) (from number : ℕ) → IsVerdictBacked (state acts) tx verdict
      → Continues decl acts (after_site net a (site_on decl (net.sites a) from number (messages.Decision tx verdict)))
  decision_case tx (outcomes.Committed stamp) from number backed =
      let clock : ℕ = max (net.sites a).clock stamp.clock in
      let j : JoinKeeps (record (net.sites a) { clock = clock }) tx
      (joins (record (net.sites a) { clock = clock }) tx stamp (prepared_of (net.sites a).prepared tx)) =
      join_keeps (record (net.sites a) { clock = clock }) tx stamp (prepared_of (net.sites a).prepared tx) in
      let joined : Joined decl (net.records a) (state acts).status ((state acts).life a)
      ((state acts).deeds a ++ LearnsCommit tx stamp ∷ [])
      (joins (record (net.sites a) { clock = clock }) tx stamp (prepared_of (net.sites a).prepared tx)) =
      joins_kept clock (promise_of tx k.prepared) (prepared_of (net.sites a).prepared tx) refl refl
      ((m.sites a site up).promised tx) in
      learns_it decl acts net a run m site up clock tx (record { tx = tx; stamp = Some stamp })
      (joins (record (net.sites a) { clock = clock }) tx stamp (prepared_of (net.sites a).prepared tx)) tt backed
      (λ k. join_drops tx stamp (promise_of tx k.prepared) k)
      (λ x is. (let e : x.stamp.clock ≡ stamp.clock = ap (λ (y : DoneRecord). y.stamp.clock) is in omega arith))
      joined.kept joined.alike (omega arith) j.held
      (record { life = j.stays.life; epoch = j.stays.epoch; closed_for = j.stays.closed_for }) j.clock j.sends
      (commit_log (record (net.sites a) { clock = clock }) k (m.sites a site up).log tx stamp (promise_of tx k.prepared)
      (prepared_of (net.sites a).prepared tx) ((m.sites a site up).promised tx))
      (commit_logged (record (net.sites a) { clock = clock }) k (m.sites a site up).logged tx stamp
      (promise_of tx k.prepared) (prepared_of (net.sites a).prepared tx) ((m.sites a site up).promised tx))
      (commit_passed k clock
      (λ l among. (let c : l.stamp.clock ≤ (net.sites a).clock = (m.sites a site up).passed l among in omega arith))
      tx stamp (promise_of tx k.prepared) (omega arith))
      (commit_sorted (record (net.sites a) { clock = clock }) tx stamp (prepared_of (net.sites a).prepared tx)
      (m.sites a site up).sorted)
      (λ u. commit_promised k (record (net.sites a) { clock = clock }) tx stamp u (promise_of tx k.prepared)
      (prepared_of (net.sites a).prepared tx) ((m.sites a site up).promised tx) refl
      ((m.sites a site up).promised u))
      (join_apart (record (net.sites a) { clock = clock }) tx stamp (prepared_of (net.sites a).prepared tx)
      (m.sites a site up).apart)
      (join_lined (record (net.sites a) { clock = clock }) tx stamp (prepared_of (net.sites a).prepared tx)
      (m.sites a site up).lined)
    where
      k : Site
      k = site_after ((state acts).deeds a)

      al : IsKeptBy (net.sites a) (kept_by (net.records a))
      al = m.alike a site up

      -- a record tells the stamp's clock alone: its client is the transaction's
      stamp_is : stamp ≡ done_stamp tx stamp.clock
      stamp_is =
          by ((state acts).status tx) refl
          ((laws decl acts run).verdicts (record { tx = tx; stamp = Some stamp }) backed)
        where
          by : (x : Status) → (state acts).status tx ≡ x → IsOutcome x (Some stamp) → stamp ≡ done_stamp tx stamp.clock
          by (Committed c) is same =
              let own : c.stamp.client ≡ tx.client =
              ((laws decl acts run).record_of tx c (subst (λ (y : Status). HasRecord y c) (sym is) refl)).client in
              let e : stamp.client ≡ tx.client = sym (ap (λ (y : Stamp). y.client) same) ∙ own in
              (λ i. record { clock = stamp.clock; client = e i })
          by NotBegun is same = absurd same
          by Active is same = absurd same
          by Voting is same = absurd same
          by (Pending c) is same = absurd same
          by Aborted is same = absurd same

      fewer : (t : TxId) (q : Prepared) → prepared_of (without_prepared (net.sites a).prepared tx) t ≡ Some q
          → prepared_of (without_prepared (kept_by (net.records a)).promises tx) t ≡ Some q
      fewer t q e = by (same_tx tx t) refl
        where
          by : (b : Bool) → same_tx tx t ≡ b
              → prepared_of (without_prepared (kept_by (net.records a)).promises tx) t ≡ Some q
          by true is =
              absurd (let gone : prepared_of (without_prepared (net.sites a).prepared tx) t ≡ None =
              subst (λ (u : TxId). prepared_of (without_prepared (net.sites a).prepared tx) u ≡ None)
              (same_tx_is tx t is) (prepared-without (net.sites a).prepared tx) in
              let both : Some q ≡ None = sym e ∙ gone in let never : ⊥ = cc in never)
          by false is =
              prepared-without_other (kept_by (net.records a)).promises tx t is
              ∙ al.promises t q (sym (prepared-without_other (net.sites a).prepared tx t is) ∙ e)

      joins_kept : (clock : ℕ) (p : Option Promise) (q : Option Prepared)
          → promise_of tx (site_after ((state acts).deeds a)).prepared ≡ p → prepared_of (net.sites a).prepared tx ≡ q
          → IsPromiseOf p q
          → Joined decl (net.records a) (state acts).status ((state acts).life a)
          ((state acts).deeds a ++ LearnsCommit tx stamp ∷ [])
          (joins (record (net.sites a) { clock = clock }) tx stamp q)
      joins_kept clock None None none free same = record {
        kept =
            subst (λ (rs : List Record). KeptMirrors decl (kept_by rs) (state acts).status ((state acts).life a)
            ((state acts).deeds a ++ LearnsCommit tx stamp ∷ [])) (sym (append-nil (net.records a)))
            (kept_same decl (kept_by (net.records a)) (state acts).status ((state acts).life a) ((state acts).deeds a)
            (LearnsCommit tx stamp) (leaves_epoch ((state acts).deeds a) (LearnsCommit tx stamp) tt) (m.kept a site)
            (ap (λ (o : Option Promise). (after_commit tx stamp o k).stable) none)
            (ap (λ (o : Option Promise). (after_commit tx stamp o k).promises) none)
            (λ x among. absurd (subst (λ (o : Option Promise). In x (done_record tx stamp o ++ [])) none among)));
        alike =
            subst (λ (rs : List Record). IsKeptBy (dropped (record (net.sites a) { clock = clock }) tx) (kept_by rs))
            (sym (append-nil (net.records a)))
            (record {
              began = al.began;
              recorded = al.recorded;
              promises = λ t q e. al.promises t q
                  (subst (λ (ps : List Prepared). prepared_of ps t ≡ Some q)
                  (undropped_site (net.sites a).prepared tx free) e);
            });
      }
      joins_kept clock None (Some q) none free same = absurd same
      joins_kept clock (Some p) None some free same = absurd same
      joins_kept clock (Some p) (Some q) some found same = record {
        kept =
            subst (λ (x : Kept). KeptMirrors decl x (state acts).status ((state acts).life a)
            ((state acts).deeds a ++ LearnsCommit tx stamp ∷ []))
            (sym (kept_more (net.records a) (records.Done tx stamp.clock)))
            (subst (λ (y : Stamp). KeptMirrors decl (keeps (kept_by (net.records a)) (records.Done tx stamp.clock))
            (state acts).status ((state acts).life a) ((state acts).deeds a ++ LearnsCommit tx y ∷ []))
            (sym stamp_is)
            (kept_finishes decl (kept_by (net.records a)) (state acts).status ((state acts).life a)
            ((state acts).deeds a) tx stamp.clock p q (m.kept a site) some (al.promises tx q found) same));
        alike =
            subst (λ (x : Kept). IsKeptBy (joins (record (net.sites a) { clock = clock }) tx stamp (Some q)).site x)
            (sym (kept_more (net.records a) (records.Done tx stamp.clock))) (record {
              began = al.began;
              recorded =
                  ap (λ (ls : List Line). union ls (without (lines_of stamp tx q.own) (net.sites a).began)) al.recorded
                  ∙ ap
                  (λ (ls : List Line). union (kept_by (net.records a)).lines (without (lines_of stamp tx q.own) ls))
                  al.began
                  ∙ ap (λ (ls : List Line). union (kept_by (net.records a)).lines
                  (without ls (kept_by (net.records a)).began))
                  (ap (λ (y : Stamp). lines_of y tx q.own) stamp_is
                  ∙ sym
                  (ap (λ (o : Option Prepared). option_map_or (λ (x : Prepared). lines_of (done_stamp tx stamp.clock) tx
                  x.own) o []) ((m.kept a site).last tx q (al.promises tx q found))));
              promises = fewer;
            });
      }
  decision_case tx outcomes.Aborted from number backed =
      learns_it decl acts net a run m site up (net.sites a).clock tx (record { tx = tx; stamp = None })
      (moved (dropped (net.sites a) tx) quiet) tt backed (λ k. refl) (λ x never. absurd never)
      (subst (λ (rs : List Record). KeptMirrors decl (kept_by rs) (state acts).status ((state acts).life a)
      ((state acts).deeds a ++ LearnsAbort tx ∷ [])) (sym (append-nil (net.records a)))
      (kept_same decl (kept_by (net.records a)) (state acts).status ((state acts).life a) ((state acts).deeds a)
      (LearnsAbort tx) (leaves_epoch ((state acts).deeds a) (LearnsAbort tx) tt) (m.kept a site) refl refl
      (λ x never. absurd never)))
      (subst (λ (rs : List Record). IsKeptBy (dropped (net.sites a) tx) (kept_by rs)) (sym (append-nil (net.records a)))
      (record {
        began = (m.alike a site up).began;
        recorded = (m.alike a site up).recorded;
        promises = λ t q e. (m.alike a site up).promises t q (still_promised (net.sites a).prepared tx t q e);
      }))
      (omega arith) refl
      (record { life = refl; epoch = refl; closed_for = refl }) refl refl
      (m.sites a site up).log (m.sites a site up).logged (m.sites a site up).passed (m.sites a site up).sorted
      (λ u. dropped_promise tx u (site_after ((state acts).deeds a)).prepared (net.sites a).prepared
      ((m.sites a site up).promised u))
      (aparts_dropped tx (net.sites a).prepared (m.sites a site up).apart)
      (λ p among l has. (m.sites a site up).lined p
      (In-unfiltered (λ (q : Prepared). not (same_tx q.tx tx)) p (net.sites a).prepared among) l has)
  decision_case tx outcomes.Active from number backed =
      stands decl acts net a run m site up (net.sites a).clock (moved (net.sites a) quiet) (omega arith) refl refl
      (λ p never. absurd never)

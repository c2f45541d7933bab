-- What a decided log and clock have of the transactions of earlier epochs: the sites that closed an epoch meet each of
-- its quorums, so the log has each committed line on which something depends, or the clock has passed the reader's
-- stamp.
use Rattle.std.proofs.Common.{◌≡◌, ◌≢◌, ℕ, zero, suc, ◌<◌, ◌≤◌, IsTrue, ◌⊎◌, inl, inr, List, [], ◌∷◌, ◌++◌, length}
use Rattle.std.proofs.Common.{Some, IsSome, refl, sym, ap, ◌∙◌, subst, arith}
use Rattle.std.proofs.lemmas.Bool.{cases_eq}
use Rattle.qc_stamp.specs.declared.stamp.Stamp.{Stamp}
use Rattle.qc_stamp.specs.declared.stamp.TxId.{TxId}
use Rattle.qc_entry.specs.declared.line.Line.{Line}
use Rattle.qc_entry.specs.declared.record.Commit.{Commit as CommitRecord}
use Rattle.qc_table.specs.declared.kind.Kind.{Kind}
use Rattle.qc_table.specs.Vocabulary.{events_of}
use Rattle.qc_plan.specs.declared.plan.Plan.{Plan}
use Rattle.qc_plan.specs.Vocabulary.{weight}
use Rattle.qc_decl.specs.declared.declaration.Declaration.{Declaration}
use Rattle.qc_decl.specs.Vocabulary.{IsAccepted, append_need_of, plan_in, read_need_of}
use Rattle.qc_list.specs.Vocabulary.{In}
use Rattle.theory_onecopy.specs.Vocabulary.{Executed, committed_line, depends_at, kind_at, own_line}
use Rattle.qc_list.proofs.Members.{In-first}
use Rattle.theory_machine.specs.Vocabulary.{Act, Committed, Decision, Deed, Grants, HasRisingEpochs, Installs}
use Rattle.theory_machine.specs.Vocabulary.{IsDecisionFrom, IsDependedOn, IsRun, Lock, LogLaws, NotBegun, Own, Site}
use Rattle.theory_machine.specs.Vocabulary.{StateLaws, after_deed, done_records, empty_site, epoch_from, read_lock}
use Rattle.theory_machine.specs.Vocabulary.{site_after, site_from, state, weights_of}
use Rattle.theory_machine.proofs.SiteOrder.{after_append, laws_after, logged_from}
use Rattle.theory_machine.proofs.Epochs.{installed, rising-left}
use Rattle.theory_machine.proofs.Keeps.{laws}
use Rattle.theory_machine.proofs.LogKeeps.{log_laws}
use Rattle.theory_machine.proofs.Grants.{holds_granted, site_laws}
use Rattle.theory_machine.proofs.Order.{first_done_recorded, spared}
use Rattle.theory_machine.proofs.Quorums.{closed_last, closed_read, closing_site, heavy}
use Rattle.theory_machine.proofs.SnapshotGrants.{done_stamp, past, tells, verdict}

pub order : (a b : ℕ) → a < suc b → (a ≡ b) ⊎ (a < b)
order a b l = elim (cases_eq a b) [ inl e ↦ inl e | inr ne ↦ inr (let n = ne in omega arith) ]

pub suc_of : (n : ℕ) → 0 < n → (m : ℕ) × (n ≡ suc m)
suc_of zero l = absurd (omega arith)
suc_of (suc m) l = (m, refl)

module _ (decl : Declaration) (accepted : IsAccepted decl) (acts : List Act) (run : IsRun decl acts) where
  wl : StateLaws decl (state acts)
  wl = laws decl acts run

  ll : LogLaws decl (state acts)
  ll = log_laws decl accepted acts run

  -- what a site has of its epoch's Decide record
  pub record IsOfEpoch (before : List Deed) (k : ℕ) : Type 0 where
    pub by : Decision
    pub stands : In by (state acts).decided
    pub epoch : by.epoch ≡ k
    pub log_stays : (l : Line) → In l by.log → In l (site_after before).volatile
    pub clock : ℕ
    pub log : List Line
    pub deed : In (Installs k clock log) before
    pub clock_is : by.clock ≡ clock

  pub of_epoch : (site k : ℕ) (before later : List Deed) → (state acts).deeds site ≡ before ++ later
      → epoch_from 1 before ≡ k → 1 < k → IsOfEpoch before k
  of_epoch site k before later split epoch less =
      let i =
      installed before empty_site 1 k (record { less = λ l h. h; prepared = λ p h. h })
      (rising-left before later 1 (subst (λ (ds : List Deed). HasRisingEpochs 1 ds) split (wl.rising site)))
      epoch less in
      let d =
      wl.installed site k i.clock i.log
      (subst (λ (ds : List Deed). In (Installs k i.clock i.log) ds) (sym split)
      (In-first (Installs k i.clock i.log) before later i.stands)) in
      record {
        by = d.by;
        stands = d.stands;
        epoch = d.epoch;
        log_stays = λ l h. (site_laws before).less l (i.log_stays l (subst (λ (ls : List Line). In l ls) d.logs h));
        clock = i.clock;
        log = i.log;
        deed = i.stands;
        clock_is = d.clock;
      }

  pub positive : (tx : TxId) → (state acts).status tx ≢ NotBegun → 0 < (state acts).epoch tx
  positive tx begun = by ((state acts).epoch tx) (wl.planned tx begun)
    where
      by : (e : ℕ) → ((plan : Plan) × (plan_in decl e ≡ Some plan)) → 0 < e
      by zero p = absurd (let e = p.1 in let never : ⊥ = cc in never)
      by (suc e) p = omega arith

  begun : (tx : TxId) (c : CommitRecord) → (state acts).status tx ≡ Committed c → (state acts).status tx ≢ NotBegun
  begun tx c e = λ u. let x : Committed c ≡ NotBegun = sym e ∙ u in cc

  -- the lines of earlier epochs on which something depends are in a decided log
  pub kept_lines : (n : ℕ) (d : Decision) → d.epoch ≤ n → In d (state acts).decided
      → (u : TxId) (c : CommitRecord) (a : Executed) → (state acts).status u ≡ Committed c
      → In a ((state acts).executed u) → IsSome a.op.resp
      → IsDependedOn decl a.op.object a.event → (state acts).epoch u < d.epoch
      → In (committed_line c.stamp u (own_line a)) d.log
  kept_lines zero d small hd u c a su ha some dep less = absurd (omega arith)
  kept_lines (suc n) d small hd u c a su ha some dep less = by (suc_of d.epoch (omega arith)) (kept_lines n)
    where
      made : IsDecisionFrom decl (state acts).snapshots (state acts).verdicts d
      made = wl.made d hd

      by : ((m : ℕ) × (d.epoch ≡ suc m))
          → ((e : Decision) → e.epoch ≤ n → In e (state acts).decided → (u : TxId) (c : CommitRecord) (a : Executed)
          → (state acts).status u ≡ Committed c → In a ((state acts).executed u) → IsSome a.op.resp
          → IsDependedOn decl a.op.object a.event → (state acts).epoch u < e.epoch
          → In (committed_line c.stamp u (own_line a)) e.log)
          → In (committed_line c.stamp u (own_line a)) d.log
      by (m, is) ih =
          let planned : plan_in decl m ≡ Some (wl.made d hd).plan = (wl.made d hd).planned m is in
          let h =
          heavy decl accepted m a.op.object dep.inv a.event dep.kind (wl.made d hd).plan planned dep.typed
          dep.low dep.within dep.depends in
          elim (order ((state acts).epoch u) m (omega arith)) [
            | inl now ↦
                let q = ll.written u a ha some in
                let enough : append_need_of decl m a.op.object a.event ≤ weight q.sites (weights_of decl m) =
                subst
                (λ (e : ℕ). append_need_of decl e a.op.object a.event ≤ weight q.sites (weights_of decl e))
                now q.enough in
                let s =
                closed_last decl accepted m a.op.object dep.inv a.event (wl.made d hd).plan (wl.made d hd).sites
                q.sites planned h (wl.made d hd).closes enough in
                let g = q.each s.site s.second in
                let sn = (wl.made d hd).each s.site s.first in
                let se = (wl.made d hd).epochs sn.0 sn.1 in
                let sg : (state acts).status g.grant.tx ≡ Committed c = ap (state acts).status g.its ∙ su in
                let ge : g.grant.epoch ≡ m = wl.counts_epoch g.grant g.counts ∙ ap (state acts).epoch g.its ∙ now in
                let same : suc (epoch_from 1 sn.0.before) ≡ suc m = sym se.1 ∙ is in
                let at_epoch : epoch_from 1 sn.0.before ≡ m = (omega arith) in
                let p =
                past decl accepted acts run g.grant sn.0 g.counts
                (spared decl acts run g.grant c g.counts sg) se.0 (sn.2 ∙ sym g.from)
                (at_epoch ∙ sym ge) in
                elim (tells decl accepted acts run g.grant sn.0 (Own (own_line a)) g.counts g.has p) [
                  | inl t ↦
                      (verdict decl accepted acts run u c d t.by su (t.its ∙ g.its)
                      ((wl.made d hd).resolved sn.0 t.by sn.1 t.stands)).0 (own_line a) t.has
                  | inr done_ ↦
                      let eq : site_after sn.0.before
                      ≡ site_from (after_deed (site_after g.grant.before)
                      (Grants g.grant.tx g.grant.items g.grant.view)) p.since =
                      ap site_after p.is
                      ∙ after_append g.grant.before (Grants g.grant.tx g.grant.items g.grant.view ∷ p.since)
                      empty_site in
                      let log =
                      logged_from p.since g.grant.tx (own_line a)
                      (after_deed (site_after g.grant.before) (Grants g.grant.tx g.grant.items g.grant.view))
                      (laws_after (Grants g.grant.tx g.grant.items g.grant.view ∷ []) (site_after g.grant.before)
                      (site_laws g.grant.before))
                      (holds_granted g.grant (Own (own_line a)) (wl.counted g.grant g.counts).fresh g.has) p.none
                      done_ in
                      let stamps : c.stamp ≡ log.first.stamp =
                      done_stamp decl accepted acts run g.grant c sn.0 sg p log.first in
                      let there : In (committed_line log.first.stamp g.grant.tx (own_line a))
                      (site_after sn.0.before).volatile =
                      subst (λ (x : Site). In (committed_line log.first.stamp g.grant.tx (own_line a)) x.volatile)
                      (sym eq) log.line in
                      (wl.made d hd).logs sn.0 (committed_line c.stamp u (own_line a)) sn.1
                      (subst (λ (l : Line). In l (site_after sn.0.before).volatile)
                      (ap (λ (x : Stamp). committed_line x g.grant.tx (own_line a)) (sym stamps)
                      ∙ ap (λ (t : TxId). committed_line c.stamp t (own_line a)) g.its) there)
                ]
            | inr old ↦
                let s =
                closing_site decl accepted m a.op.object dep.inv a.event (wl.made d hd).plan
                (wl.made d hd).sites planned h (wl.made d hd).closes in
                let sn = (wl.made d hd).each s.0 s.1 in
                let se = (wl.made d hd).epochs sn.0 sn.1 in
                let same : suc (epoch_from 1 sn.0.before) ≡ suc m = sym se.1 ∙ is in
                let at_epoch : epoch_from 1 sn.0.before ≡ m = (omega arith) in
                let pos : 0 < (state acts).epoch u = positive u (begun u c su) in
                let r = wl.snapped sn.0 se.0 in
                let o = of_epoch sn.0.site m sn.0.before r.0 r.1 at_epoch (omega arith) in
                let oe : o.by.epoch ≡ m = o.epoch in
                (wl.made d hd).logs sn.0 (committed_line c.stamp u (own_line a)) sn.1
                (o.log_stays (committed_line c.stamp u (own_line a))
                (ih o.by (omega arith) o.stands u c a su ha some dep (omega arith)))
          ]

  -- and its clock has passed the stamps of those whose operation depends on something
  pub passed_stamps : (n : ℕ) (d : Decision) → d.epoch ≤ n → In d (state acts).decided
      → (v : TxId) (c : CommitRecord) (b : Executed) (number : ℕ) (kind : Kind) → (state acts).status v ≡ Committed c
      → In b ((state acts).executed v)
      → kind_at decl b.op.object ≡ Some kind → b.op.inv < kind.table.invs → number < length (events_of kind.table.rows)
      → IsTrue (depends_at decl b.op.object b.op.inv number)
      → (state acts).epoch v < d.epoch → c.stamp.clock ≤ d.clock
  passed_stamps zero d small hd v c b number kind sv hb typed low within dep less = absurd (omega arith)
  passed_stamps (suc n) d small hd v c b number kind sv hb typed low within dep less =
      by (suc_of d.epoch (omega arith))
      (λ e small' he less'. passed_stamps n e small' he v c b number kind sv hb typed low within dep less')
    where
      by : ((m : ℕ) × (d.epoch ≡ suc m))
          → ((e : Decision) → e.epoch ≤ n → In e (state acts).decided → (state acts).epoch v < e.epoch
          → c.stamp.clock ≤ e.clock) → c.stamp.clock ≤ d.clock
      by (m, is) ih =
          let planned : plan_in decl m ≡ Some (wl.made d hd).plan = (wl.made d hd).planned m is in
          let h =
          heavy decl accepted m b.op.object b.op.inv number kind (wl.made d hd).plan planned typed low within
          dep in
          elim (order ((state acts).epoch v) m (omega arith)) [
            | inl now ↦
                let q = (ll.right v b (inl hb)).met in
                let enough : read_need_of decl m b.op.object b.op.inv ≤ weight q.sites (weights_of decl m) =
                subst (λ (e : ℕ). read_need_of decl e b.op.object b.op.inv ≤ weight q.sites (weights_of decl e))
                now q.enough in
                let s =
                closed_read decl accepted m b.op.object b.op.inv number (wl.made d hd).plan (wl.made d hd).sites
                q.sites planned h (wl.made d hd).closes enough in
                let g = q.each s.site s.second in
                let sn = (wl.made d hd).each s.site s.first in
                let se = (wl.made d hd).epochs sn.0 sn.1 in
                let sg : (state acts).status g.grant.tx ≡ Committed c = ap (state acts).status g.its ∙ sv in
                let ge : g.grant.epoch ≡ m = wl.counts_epoch g.grant g.counts ∙ ap (state acts).epoch g.its ∙ now in
                let same : suc (epoch_from 1 sn.0.before) ≡ suc m = sym se.1 ∙ is in
                let at_epoch : epoch_from 1 sn.0.before ≡ m = (omega arith) in
                let p =
                past decl accepted acts run g.grant sn.0 g.counts
                (spared decl acts run g.grant c g.counts sg) se.0 (sn.2 ∙ sym g.from)
                (at_epoch ∙ sym ge) in
                elim (tells decl accepted acts run g.grant sn.0 (Lock (read_lock b.op)) g.counts g.has p) [
                  | inl t ↦
                      (verdict decl accepted acts run v c d t.by sv (t.its ∙ g.its)
                      ((wl.made d hd).resolved sn.0 t.by sn.1 t.stands)).1
                  | inr done_ ↦
                      let stamps : c.stamp ≡ done_.stamp =
                      done_stamp decl accepted acts run g.grant c sn.0 sg p done_ in
                      let clocks : c.stamp.clock ≡ done_.stamp.clock = ap (λ (x : Stamp). x.clock) stamps in
                      let done_there =
                      first_done_recorded g.grant (Lock (read_lock b.op)) p.since
                      (holds_granted g.grant (Lock (read_lock b.op)) (wl.counted g.grant g.counts).fresh g.has)
                      done_ in
                      let low' : done_.stamp.clock ≤ sn.0.clock =
                      (wl.answers sn.0 se.0).passes_done g.grant.tx done_.stamp
                      (subst (λ (ds : List Deed). In (record { tx = g.grant.tx; stamp = done_.stamp })
                      (done_records empty_site ds)) (sym p.is) done_there) in
                      let high : sn.0.clock ≤ d.clock = (wl.made d hd).clocks sn.0 sn.1 in
                      omega arith
                ]
            | inr old ↦
                let s =
                closing_site decl accepted m b.op.object b.op.inv number (wl.made d hd).plan
                (wl.made d hd).sites planned h (wl.made d hd).closes in
                let sn = (wl.made d hd).each s.0 s.1 in
                let se = (wl.made d hd).epochs sn.0 sn.1 in
                let same : suc (epoch_from 1 sn.0.before) ≡ suc m = sym se.1 ∙ is in
                let at_epoch : epoch_from 1 sn.0.before ≡ m = (omega arith) in
                let pos : 0 < (state acts).epoch v = positive v (begun v c sv) in
                let r = wl.snapped sn.0 se.0 in
                let o = of_epoch sn.0.site m sn.0.before r.0 r.1 at_epoch (omega arith) in
                let oe : o.by.epoch ≡ m = o.epoch in
                let first : c.stamp.clock ≤ o.by.clock = ih o.by (omega arith) o.stands (omega arith) in
                let ck : o.by.clock ≡ o.clock = o.clock_is in
                let low' : o.clock ≤ sn.0.clock = (wl.answers sn.0 se.0).passes_installs m o.clock o.log o.deed in
                let high : sn.0.clock ≤ d.clock = (wl.made d hd).clocks sn.0 sn.1 in
                omega arith
          ]

-- The ordering lemma: of two committed operations one of which depends on the other, the view has the other, or its
-- stamp is greater. Quorums of a dependent pair meet (Gifford 1979, Herlihy 1986): in one epoch at a shared site,
-- across epochs in the log that was decided.
use Rattle.std.proofs.Common.{◌≡◌, ◌≢◌, ℕ, ◌<◌, ◌≤◌, IsTrue, ◌⊎◌, ◌↔◌, inl, inr, List, ◌∷◌, IsSome, sym, ap, ◌∙◌, subst}
use Rattle.std.proofs.Common.{arith}
use Rattle.std.proofs.lemmas.Bool.{cases_eq}
use Rattle.qc_stamp.specs.declared.stamp.Stamp.{Stamp}
use Rattle.qc_stamp.specs.declared.stamp.TxId.{TxId}
use Rattle.qc_entry.specs.declared.line.Line.{Line}
use Rattle.qc_entry.specs.declared.record.Commit.{Commit as CommitRecord}
use Rattle.qc_plan.specs.Vocabulary.{weight}
use Rattle.qc_decl.specs.declared.declaration.Declaration.{Declaration}
use Rattle.qc_decl.specs.Vocabulary.{IsAccepted, append_need_of, read_need_of}
use Rattle.theory_onecopy.specs.Vocabulary.{IsOrdered, IsStampedBefore, Placed, committed_line, depends_at, line_of}
use Rattle.theory_onecopy.specs.Vocabulary.{own_line}
use Rattle.qc_list.specs.Vocabulary.{In}
use Rattle.theory_machine.specs.Vocabulary.{Act, Grants, IsDependedOn, IsRun, placed, read_lock, site_after, state}
use Rattle.theory_machine.specs.Vocabulary.{weights_of}
use Rattle.theory_machine.proofs.Order.{ordering}
use Rattle.theory_machine.proofs.Places.{above}
use Rattle.theory_machine.proofs.Quorums.{heavy, needed, read_needed, shared, some_site}
use Rattle.theory_machine.proofs.Decided.{kept_lines, of_epoch, passed_stamps, positive}
use Rattle.theory_machine.proofs.PlacedOperations.{IsOf, le_cases}
use Rattle.theory_machine.proofs.CommittedViews.{wl, ll, whose, status_is, same_stamp, right, clock_below, depended}
use Rattle.theory_machine.proofs.CommittedViews.{plan_of}

module _ (decl : Declaration) (accepted : IsAccepted decl) (acts : List Act) (run : IsRun decl acts)
    (L : List CommitRecord) (rising : IsOrdered IsStampedBefore L)
    (all : (c : CommitRecord) → In c L ↔ In c (state acts).records) where
  -- in one epoch: the ordering lemma
  in_epoch : (a b : Placed) (ka : IsOf (state acts).executed L a) (kb : IsOf (state acts).executed L b)
      → (state acts).epoch a.tx ≡ (state acts).epoch b.tx → a.stamp ≢ b.stamp
      → a.operation.op.object ≡ b.operation.op.object → IsSome a.operation.op.resp
      → IsTrue (depends_at decl b.operation.op.object b.operation.op.inv a.operation.event)
      → In (line_of a) b.operation.view ⊎ (b.stamp.clock < a.stamp.clock)
  unfolding depended
  in_epoch a b ka kb epochs ne object s dep =
      let d = depended decl accepted acts run L rising all a b ka kb object s dep in
      let e = (state acts).epoch b.tx in
      let p = plan_of decl accepted acts run L rising all b kb in
      let h = heavy decl accepted ((state acts).epoch b.tx) b.operation.op.object b.operation.op.inv a.operation.event
      d.kind p.0 p.1 d.typed d.low d.within dep in
      let reads = (right decl accepted acts run L rising all b kb).met in
      let writes = (ll decl accepted acts run L rising all).written a.tx a.operation ka.operation s in
      let enough : append_need_of decl ((state acts).epoch b.tx) b.operation.op.object a.operation.event ≤ weight
      writes.sites (weights_of decl ((state acts).epoch b.tx)) =
      subst (λ (o : ℕ). append_need_of decl ((state acts).epoch b.tx) o a.operation.event ≤ weight writes.sites
      (weights_of decl ((state acts).epoch b.tx))) object
      (subst (λ (x : ℕ). append_need_of decl x a.operation.op.object a.operation.event ≤ weight writes.sites
      (weights_of decl x)) epochs writes.enough) in
      let site = shared decl accepted ((state acts).epoch b.tx) b.operation.op.object b.operation.op.inv
      a.operation.event reads.sites writes.sites h reads.enough enough in
      let v = reads.each site.site site.first in
      let u = writes.each site.site site.second in
      let apart : u.grant.tx ≢ v.grant.tx = λ x. ne
      (same_stamp decl accepted acts run L rising all a b ka kb (sym u.its ∙ x ∙ v.its)) in
      let one_epoch : v.grant.epoch ≡ u.grant.epoch =
      (wl decl accepted acts run L rising all).counts_epoch v.grant v.counts ∙ ap (state acts).epoch v.its
      ∙ sym epochs ∙ ap (state acts).epoch (sym u.its)
      ∙ sym ((wl decl accepted acts run L rising all).counts_epoch u.grant u.counts) in
      elim (ordering decl acts run v.grant u.grant (read_lock b.operation.op)
      (own_line a.operation) kb.commit ka.commit v.counts u.counts (v.from ∙ sym u.from) one_epoch apart
      (ap (state acts).status v.its ∙ status_is decl accepted acts run L rising all b kb)
      (ap (state acts).status u.its ∙ status_is decl accepted acts run L rising all a ka) v.has u.has (sym object)
      (subst (λ (o : ℕ). IsTrue (depends_at decl o b.operation.op.inv a.operation.event)) (sym object) dep)) [
        | inl r ↦ inl (v.seen (line_of a) (record {
          stands = subst (λ (l : Line). In l (site_after v.grant.before).volatile)
              (ap (λ (x : Stamp). committed_line x u.grant.tx (own_line a.operation)) (sym ka.stamp)
              ∙ ap (λ (x : TxId). committed_line a.stamp x (own_line a.operation)) u.its) r.0;
          lock = read_lock b.operation.op;
          granted = v.has;
          on = sym object;
        }) object)
        | inr less ↦ inr (subst (λ (x : Stamp). x.clock < a.stamp.clock) (sym kb.stamp)
            (subst (λ (x : Stamp). kb.commit.stamp.clock < x.clock) (sym ka.stamp) less))
      ]

  -- a's epoch is before b's: b's sites have installed a log that has the line
  before_epoch : (a b : Placed) (ka : IsOf (state acts).executed L a) (kb : IsOf (state acts).executed L b)
      → (state acts).epoch a.tx < (state acts).epoch b.tx → a.operation.op.object ≡ b.operation.op.object
      → IsSome a.operation.op.resp
      → IsTrue (depends_at decl b.operation.op.object b.operation.op.inv a.operation.event)
      → In (line_of a) b.operation.view
  unfolding depended
  before_epoch a b ka kb less object s dep =
      let d = depended decl accepted acts run L rising all a b ka kb object s dep in
      let p = plan_of decl accepted acts run L rising all b kb in
      let h = heavy decl accepted ((state acts).epoch b.tx) b.operation.op.object b.operation.op.inv a.operation.event
      d.kind p.0 p.1 d.typed d.low d.within dep in
      let reads = (right decl accepted acts run L rising all b kb).met in
      let need = read_needed decl accepted ((state acts).epoch b.tx) b.operation.op.object b.operation.op.inv
      a.operation.event h in
      let enough : read_need_of decl ((state acts).epoch b.tx) b.operation.op.object b.operation.op.inv ≤ weight
      reads.sites (weights_of decl ((state acts).epoch b.tx)) = reads.enough in
      let site = some_site decl accepted (weights_of decl ((state acts).epoch b.tx)) reads.sites (omega arith) in
      let v = reads.each site.0 site.1 in
      let k = (wl decl accepted acts run L rising all).counted v.grant v.counts in
      let ve : v.grant.epoch ≡ (state acts).epoch b.tx =
      (wl decl accepted acts run L rising all).counts_epoch v.grant v.counts ∙ ap (state acts).epoch v.its in
      let pos = positive decl accepted acts run a.tx
      ((ll decl accepted acts run L rising all).begun a.tx a.operation (inl ka.operation)) in
      let o = of_epoch decl accepted acts run v.grant.site ((state acts).epoch b.tx) v.grant.before
      (Grants v.grant.tx v.grant.items v.grant.view ∷ k.post) k.split
      (((wl decl accepted acts run L rising all).facts v.grant
      ((wl decl accepted acts run L rising all).known v.grant v.counts)).current ∙ ve) (omega arith) in
      let oe : o.by.epoch ≡ (state acts).epoch b.tx = o.epoch in
      let line = kept_lines decl accepted acts run o.by.epoch o.by (omega arith) o.stands a.tx ka.commit a.operation
      (status_is decl accepted acts run L rising all a ka) ka.operation s
      (subst (λ (x : ℕ). IsDependedOn decl x a.operation.event) (sym object) d) (omega arith) in
      v.seen (line_of a) (record {
        stands = o.log_stays (line_of a) (subst (λ (x : Stamp). In
            (committed_line x a.tx (own_line a.operation)) o.by.log) (sym ka.stamp) line);
        lock = read_lock b.operation.op;
        granted = v.has;
        on = sym object;
      }) object

  -- b's epoch is before a's: a's sites have installed a clock that has passed b's stamp
  after_epoch : (a b : Placed) (ka : IsOf (state acts).executed L a) (kb : IsOf (state acts).executed L b)
      → (state acts).epoch b.tx < (state acts).epoch a.tx → a.operation.op.object ≡ b.operation.op.object
      → IsSome a.operation.op.resp
      → IsTrue (depends_at decl b.operation.op.object b.operation.op.inv a.operation.event)
      → b.stamp.clock < a.stamp.clock
  unfolding depended
  after_epoch a b ka kb less object s dep =
      let d = depended decl accepted acts run L rising all a b ka kb object s dep in
      let p = plan_of decl accepted acts run L rising all a ka in
      let h = heavy decl accepted ((state acts).epoch a.tx) b.operation.op.object b.operation.op.inv a.operation.event
      d.kind p.0 p.1 d.typed d.low d.within dep in
      let writes = (ll decl accepted acts run L rising all).written a.tx a.operation ka.operation s in
      let need : 0 < append_need_of decl ((state acts).epoch a.tx) a.operation.op.object a.operation.event =
      subst (λ (x : ℕ). 0 < append_need_of decl ((state acts).epoch a.tx) x a.operation.event) (sym object)
      (needed decl accepted ((state acts).epoch a.tx) b.operation.op.object b.operation.op.inv a.operation.event h)
      in
      let enough : append_need_of decl ((state acts).epoch a.tx) a.operation.op.object a.operation.event ≤ weight
      writes.sites (weights_of decl ((state acts).epoch a.tx)) = writes.enough in
      let site = some_site decl accepted (weights_of decl ((state acts).epoch a.tx)) writes.sites (omega arith) in
      let u = writes.each site.0 site.1 in
      let k = (wl decl accepted acts run L rising all).counted u.grant u.counts in
      let ue : u.grant.epoch ≡ (state acts).epoch a.tx =
      (wl decl accepted acts run L rising all).counts_epoch u.grant u.counts ∙ ap (state acts).epoch u.its in
      let pos = positive decl accepted acts run b.tx
      ((ll decl accepted acts run L rising all).begun b.tx b.operation (inl kb.operation)) in
      let o = of_epoch decl accepted acts run u.grant.site ((state acts).epoch a.tx) u.grant.before
      (Grants u.grant.tx u.grant.items u.grant.view ∷ k.post) k.split
      (((wl decl accepted acts run L rising all).facts u.grant
      ((wl decl accepted acts run L rising all).known u.grant u.counts)).current ∙ ue) (omega arith) in
      let oe : o.by.epoch ≡ (state acts).epoch a.tx = o.epoch in
      let first : kb.commit.stamp.clock ≤ o.by.clock =
      passed_stamps decl accepted acts run o.by.epoch o.by
      (omega arith) o.stands b.tx kb.commit b.operation a.operation.event d.kind
      (status_is decl accepted acts run L rising all b kb) kb.operation d.typed d.low d.within dep (omega arith) in
      let second : o.by.clock ≡ o.clock = o.clock_is in
      let third : o.clock ≤ u.grant.clock = ((wl decl accepted acts run L rising all).facts u.grant
      ((wl decl accepted acts run L rising all).known u.grant u.counts)).passes_installs
      ((state acts).epoch a.tx) o.clock o.log o.deed in
      let fourth : u.grant.clock < a.stamp.clock =
      clock_below decl accepted acts run L rising all a ka u.grant u.counts u.its in
      let bs : b.stamp.clock ≡ kb.commit.stamp.clock = ap (λ (x : Stamp). x.clock) kb.stamp in
      omega arith

  pub ordered : (a b : Placed) → In a (placed (state acts).executed L) → In b (placed (state acts).executed L)
      → a.stamp ≢ b.stamp → a.operation.op.object ≡ b.operation.op.object → IsSome a.operation.op.resp
      → IsTrue (depends_at decl b.operation.op.object b.operation.op.inv a.operation.event)
      → In (line_of a) b.operation.view ⊎ (b.stamp.clock < a.stamp.clock)
  ordered a b ha hb ne object s dep =
      let ka = whose decl accepted acts run L rising all a ha in
      let kb = whose decl accepted acts run L rising all b hb in
      elim (cases_eq ((state acts).epoch a.tx) ((state acts).epoch b.tx)) [
        | inl same ↦ in_epoch a b ka kb same ne object s dep
        | inr apart ↦ elim (le_cases ((state acts).epoch a.tx) ((state acts).epoch b.tx)) [
          | inl below ↦ inl (before_epoch a b ka kb (let n = apart in omega arith) object s dep)
          | inr above ↦ inr (after_epoch a b ka kb (let n = apart in omega arith) object s dep)
        ]
      ]

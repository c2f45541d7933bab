-- An epoch is decided: an act of the machine.
use Rattle.std.proofs.Common.{◌≡◌, ◌≤◌, ℕ, suc, ◌⊎◌, inl, inr, List, [], ◌∷◌, Some, None, refl, sym, ap, ◌∙◌, subst}
use Rattle.std.proofs.Common.{arith}
use Rattle.qc_stamp.specs.declared.stamp.Stamp.{Stamp}
use Rattle.qc_stamp.specs.declared.stamp.TxId.{TxId}
use Rattle.qc_list.specs.Vocabulary.{In}
use Rattle.qc_entry.specs.declared.line.Line.{Line}
use Rattle.qc_entry.specs.declared.line.OwnLine.{OwnLine}
use Rattle.qc_entry.specs.declared.record.Prepared.{Prepared}
use Rattle.qc_decl.specs.declared.declaration.Declaration.{Declaration}
use Rattle.qc_decl.specs.Vocabulary.{plan_in}
use Rattle.theory_onecopy.specs.Vocabulary.{committed_line}
use Rattle.qc_msg.specs.declared.message.Envelope.{Envelope}
use Rattle.theory_machine.specs.Vocabulary.{Decision, IsMerged, IsResolved, MayDecide, Own, Promise, Snapshot, State}
use Rattle.theory_machine.specs.Vocabulary.{Verdict, epoch_from, site_after}
use Rattle.qc_site.specs.Vocabulary.{stamped}
use Rattle.qc_epoch.specs.Vocabulary.{Question, ShutSite, first_doubt, greatest, merged}
use Rattle.laws_refinement.specs.Vocabulary.{AreEnough, AreSnapshots, HasTold, IsCovered, IsSnapshot, QuestionMirrors}
use Rattle.laws_refinement.proofs.BothPromises.{Before, Behind, before, behind}
use Rattle.laws_refinement.proofs.Machine.{single_found}
use Rattle.laws_refinement.proofs.Merged.{IsEnded, IsFrom, IsFromOne, IsLineOf, all_settled, ended, greatest_shut}
use Rattle.laws_refinement.proofs.Merged.{greatest_stamp, merged_from, merged_into, stamp_told}

module _ (decl : Declaration) (w : State) (k : ℕ) where
  -- what a site told is this snapshot
  abbrev pub Tells : ShutSite → Snapshot → Type 0
  Tells s x = (h : IsSnapshot decl w s.site k s.clock s.log s.prepared) × (h.snapshot ≡ x)

  -- the snapshots of all that told
  pub record Collected (shuts : List ShutSite) : Type 0 where
    pub list : List Snapshot
    pub each : (s : ShutSite) → In s shuts → (x : Snapshot) × In x list × Tells s x
    pub back : (x : Snapshot) → In x list → (s : ShutSite) × In s shuts × Tells s x

  with_one : (s : ShutSite) (ss : List ShutSite) → IsSnapshot decl w s.site k s.clock s.log s.prepared → Collected ss
      → Collected (s ∷ ss)
  with_one s ss told rest = record {
    list = told.snapshot ∷ rest.list;
    each = λ t among. elim among [
      | inl same ↦ (told.snapshot, inl refl, subst (λ (y : ShutSite). Tells y told.snapshot) (sym same) (told, refl))
      | inr h ↦ (let r = rest.each t h in (r.0, inr r.1, r.2))
    ];
    back = λ y among. elim among [
      | inl same ↦ (s, inl refl, (told, sym same))
      | inr h ↦ (let r = rest.back y h in (r.0, inr r.1, r.2))
    ];
  }

  pub collect : (shuts : List ShutSite) → AreSnapshots decl w k shuts → Collected shuts
  collect [] told = record { list = []; each = λ s never. absurd never; back = λ x never. absurd never }
  collect (s ∷ ss) told = with_one s ss (told s (inl refl)) (collect ss (λ t among. told t (inr among)))

  module _ (ms : List Envelope) (epoch : ℕ) (shuts : List ShutSite) (questions : List Question) (next : k ≡ suc epoch)
      (enough : AreEnough decl epoch shuts) (told : AreSnapshots decl w k shuts)
      (covered : IsCovered shuts questions) (each : (q : Question) → In q questions → QuestionMirrors decl w ms q)
      (none : first_doubt questions ≡ None) where
    abbrev pub all : Collected shuts
    all = collect shuts told

    abbrev pub decision_of : Decision
    decision_of = record {
      epoch = k;
      clock = greatest shuts questions;
      log = merged shuts questions;
      snapshots = all.list;
    }

    resolved : (x : Snapshot) (p : Promise) → In x all.list → In p (site_after x.before).prepared
        → IsResolved w.verdicts decision_of p
    resolved x p counts stands =
        let b : (s : ShutSite) × In s shuts × Tells s x = all.back x counts in
        by b.0 b.1 (b.2).0 (subst (λ (y : Snapshot). In p (site_after y.before).prepared) (sym (b.2).1) stands)
      where
        by : (s : ShutSite) → In s shuts → (h : IsSnapshot decl w s.site k s.clock s.log s.prepared)
            → In p (site_after h.snapshot.before).prepared → IsResolved w.verdicts decision_of p
        by s among h on =
            let f : Before s.prepared p = before (site_after h.snapshot.before).prepared s.prepared p h.promised
            (single_found p (site_after h.snapshot.before).prepared h.single on) in
            let c : (q : Question) × In q questions × (q.tx ≡ f.prepared.tx) = covered s f.prepared among f.stands in
            go f (ended w questions f.prepared.tx (all_settled questions none) (λ q i. (each q i).taken) c.0 c.1 c.2)
          where
            go : (f : Before s.prepared p) → IsEnded w questions f.prepared.tx → IsResolved w.verdicts decision_of p
            go f (inr aborted) = inr (subst (λ (t : TxId). In {X = Verdict}
                (record { tx = t; stamp = None }) w.verdicts) f.its aborted)
            go f (inl m) = inl (
              m.stamp,
              subst (λ (t : TxId). In {X = Verdict} (record { tx = t; stamp = Some m.stamp }) w.verdicts) f.its
                  m.verdict,
              (λ o among_items. merged_into shuts questions (committed_line m.stamp p.tx o) s among (inr (
                f.prepared,
                f.stands,
                record {
                  stamp = m.stamp;
                  told = m.told;
                  own = o;
                  has = f.has (Own o) among_items;
                  is = ap (λ (t : TxId). stamped m.stamp t o) (sym f.its);
                },
              ))),
              greatest_stamp shuts questions m.question m.stamp m.among m.its,
            )

    came : (l : Line) → IsFromOne shuts questions l → IsMerged w.verdicts decision_of l
    came l r = by r.0 r.1 r.2
      where
        by : (s : ShutSite) → In s shuts → IsFrom questions s l → IsMerged w.verdicts decision_of l
        by s among from =
            let e : (x : Snapshot) × In x all.list × Tells s x = all.each s among in
            record {
              snapshot = e.0;
              counts = e.1;
              from = subst (λ (y : Snapshot). In l (site_after y.before).volatile
                  ⊎ ((p : Promise) × (o : OwnLine) × (stamp : Stamp) × In p (site_after y.before).prepared
                  × In (Own o) p.items × In {X = Verdict} (record { tx = p.tx; stamp = Some stamp }) w.verdicts
                  × (l ≡ committed_line stamp p.tx o))) (e.2).1 (of (e.2).0 from);
            }
          where
            of : (h : IsSnapshot decl w s.site k s.clock s.log s.prepared) → IsFrom questions s l
                → In l (site_after h.snapshot.before).volatile
                ⊎ ((p : Promise) × (o : OwnLine) × (stamp : Stamp) × In p (site_after h.snapshot.before).prepared
                × In (Own o) p.items × In {X = Verdict} (record { tx = p.tx; stamp = Some stamp }) w.verdicts
                × (l ≡ committed_line stamp p.tx o))
            of h (inl log) = inl (h.only l log)
            of h (inr r) =
                let q : Prepared = r.0 in
                let i : IsLineOf questions q l = r.2 in
                let b : Behind (site_after h.snapshot.before).prepared q =
                behind (site_after h.snapshot.before).prepared s.prepared q h.promised h.apart r.1 in
                inr (
                  b.promise,
                  i.own,
                  i.stamp,
                  b.stands,
                  b.own i.own i.has,
                  subst (λ (t : TxId). In {X = Verdict} (record { tx = t; stamp = Some i.stamp }) w.verdicts)
                      (sym b.its) (stamp_told w questions q.tx i.stamp (λ x k. (each x k).taken) i.told),
                  i.is ∙ ap (λ (t : TxId). stamped i.stamp t i.own) (sym b.its),
                )

    pub may_decide : MayDecide decl w decision_of
    may_decide = record {
      plan = enough.plan;
      planned = λ e is. (let same : e ≡ epoch = omega arith in
          subst (λ (n : ℕ). plan_in decl n ≡ Some enough.plan) (sym same) enough.planned);
      epochs = λ x counts. (let b : (s : ShutSite) × In s shuts × Tells s x = all.back x counts in (
        subst (λ (y : Snapshot). In y w.snapshots) (b.2).1 ((b.2).0).taken,
        ((b.2).0).next
            ∙ ap (λ (y : Snapshot). suc (epoch_from 1 y.before)) (b.2).1,
      ));
      sites = enough.sites;
      closes = enough.closes;
      each = λ site is. (let t : HasTold shuts site = enough.each site is in let e : (x : Snapshot) × In x all.list
          × Tells t.0 x = all.each t.0 t.1 in
          (e.0, e.1, ap (λ (y : Snapshot). y.site) (sym (e.2).1) ∙ ((e.2).0).of ∙ t.2));
      resolved = resolved;
      logs = λ x l counts on. (let b : (s : ShutSite) × In s shuts × Tells s x = all.back x counts in
          merged_into shuts questions l b.0 b.1 (inl
          (((b.2).0).lines l (subst (λ (y : Snapshot). In l (site_after y.before).volatile) (sym (b.2).1) on))));
      merged = λ l among. came l (merged_from shuts questions l among);
      clocks = λ x counts. (let b : (s : ShutSite) × In s shuts × Tells s x = all.back x counts in
          let e : x.clock ≡ (b.0).clock = ap (λ (y : Snapshot). y.clock) (sym (b.2).1) ∙ ((b.2).0).clock_is in
          let g : (b.0).clock ≤ greatest shuts questions = greatest_shut shuts questions b.0 b.1 in
          omega arith);
    }

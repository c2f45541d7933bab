-- Each act of a disciplined run keeps the laws of epochs.
use Rattle.std.proofs.Common.{◌≡◌, ◌≢◌, inl, inr, ℕ, ◌<◌, ◌≤◌, Bool, List, [], ◌∷◌, ◌++◌, Option, Some, None, refl, sym}
use Rattle.std.proofs.Common.{ap, ◌∙◌, ◌⊎◌, subst}
use Rattle.qc_stamp.specs.declared.stamp.Stamp.{Stamp}
use Rattle.qc_stamp.specs.declared.stamp.TxId.{TxId}
use Rattle.qc_entry.specs.declared.line.Line.{Line}
use Rattle.qc_entry.specs.declared.line.OwnLine.{OwnLine}
use Rattle.qc_entry.specs.declared.record.Commit.{Commit as CommitRecord}
use Rattle.qc_decl.specs.declared.declaration.Declaration.{Declaration}
use Rattle.qc_decl.specs.Vocabulary.{IsAccepted, append_need_of}
use Rattle.qc_list.specs.Vocabulary.{In}
use Rattle.theory_onecopy.specs.Vocabulary.{Executed}
use Rattle.theory_machine.specs.Vocabulary.{Abort, Aborted, Act, Active, Announce, AppendRequest, Begin, Choose, Close}
use Rattle.theory_machine.specs.Vocabulary.{Closes, Commit, CommitUnknown, Committed, Count, Decide, Decision, Deed}
use Rattle.theory_machine.specs.Vocabulary.{Execute, ExecuteAbsent, Grant, Granted, Grants, Install, Installs}
use Rattle.theory_machine.specs.Vocabulary.{IsAllowed, IsRequested, IsRun, Item, Learn, Lock, LogLaws, NotBegun, Own}
use Rattle.theory_machine.specs.Vocabulary.{Pending, Prepare, PrepareLost, Prepares, Recover, Rise, RiseClient, Rises}
use Rattle.theory_machine.specs.Vocabulary.{SendAppend, Site, Snapshot, State, StateLaws, Status, TakeSnapshot, Vote}
use Rattle.theory_machine.specs.Vocabulary.{Voting, after_act, deed_of, deed_of_outcome, empty_site, epoch_from, put}
use Rattle.theory_machine.specs.Vocabulary.{put_tx, recover_status, site_after, state}
use Rattle.theory_machine.proofs.Names.{put_case, put_tx_case}
use Rattle.theory_machine.proofs.SiteOrder.{after_append}
use Rattle.theory_machine.proofs.Epochs.{epoch-append, upward}
use Rattle.theory_machine.proofs.Grants.{site_laws}
use Rattle.theory_machine.proofs.Keeps.{laws}
use Rattle.theory_machine.proofs.LogKeeps.{log_laws}
use Rattle.theory_bases.specs.Vocabulary.{AreDisciplined, BelongsTo, EpochLaws, EpochLawsOf, IsAppendOfEpoch}
use Rattle.theory_bases.specs.Vocabulary.{IsDisciplined, IsGrantOfEpoch, IsLineOfDecision, IsShareOfEpoch}
use Rattle.theory_bases.specs.Vocabulary.{IsSiteOfEpoch, IsSnapshotOfEpoch, WasLogInEpoch}
use Rattle.theory_bases.proofs.Growing.{GoesOn, belongs_still, site_still, append_still, snapshot_still, decision_still}
use Rattle.theory_bases.proofs.Growing.{laws_still}
use Rattle.theory_machine.proofs.Merges.{recovered_begun}
use Rattle.theory_bases.proofs.Decides.{decision_is}
use Rattle.theory_bases.proofs.Deeds.{Brings, deed_keeps}

module _ (decl : Declaration) where
  -- a transaction's status moves on
  put_later : (w : State) (tx : TxId) (new : Status) → new ≢ NotBegun
      → GoesOn w.status (put_tx w.status tx new) w.epoch w.epoch w.decided w.decided
  put_later w tx new some = record {
    begun = λ t h. put_tx_case (λ (s : Status). s ≢ NotBegun) w.status tx new t (λ e. some) (λ ne. h);
    epochs = λ t h. refl;
    stands = λ d i. i;
  }

  status_keeps : (w : State) (tx : TxId) (new : Status) → new ≢ NotBegun → EpochLawsOf decl w
      → EpochLaws decl (put_tx w.status tx new) w.epoch w.deeds w.appends w.granted w.snapshots w.decided
  status_keeps w tx new some h = laws_still decl w.status (put_tx w.status tx new) w.epoch w.epoch w.decided
      (put_later w tx new some) w.deeds w.appends w.granted w.snapshots h

  -- one more deed of a site
  site_keeps : (w : State) (n : ℕ) (d : Deed) → Brings decl w.status w.epoch w.decided (epoch_from 1 (w.deeds n)) d
      → EpochLawsOf decl w
      → EpochLaws decl w.status w.epoch (put w.deeds n (w.deeds n ++ d ∷ [])) w.appends w.granted w.snapshots w.decided
  site_keeps w n d ok h = record {
    sites = λ m. put_case (λ (ds : List Deed). IsSiteOfEpoch decl w.status w.epoch w.decided (epoch_from 1 ds)
        (site_after ds)) w.deeds n (w.deeds n ++ d ∷ []) m
        (λ e. subst (λ (k : ℕ). IsSiteOfEpoch decl w.status w.epoch w.decided k (site_after (w.deeds n ++ d ∷ [])))
        (sym (epoch-append (w.deeds n) (d ∷ []) 1))
        (subst (λ (s : Site). IsSiteOfEpoch decl w.status w.epoch w.decided
        (epoch_from (epoch_from 1 (w.deeds n)) (d ∷ [])) s) (sym (after_append (w.deeds n) (d ∷ []) empty_site))
        (deed_keeps decl w.status w.epoch w.decided (epoch_from 1 (w.deeds n)) (site_after (w.deeds n)) d ok
        (site_laws (w.deeds n)) (h.sites n))))
        (λ ne. h.sites m);
    grants = h.grants;
    requests = h.requests;
    closings = h.closings;
    decisions = h.decisions;
    one = h.one;
  }

  -- an Append is sent: its view was shown by grants that its transaction counted, which are of its epoch
  append_is : (w : State) (s : AppendRequest) → IsAllowed decl w (SendAppend s) → StateLaws decl w → LogLaws decl w
      → EpochLawsOf decl w
      → IsAppendOfEpoch decl w.status w.epoch w.decided s
  append_is w s ok l logs h =
      let d : Executed = ok.0 in
      let right = logs.right s.tx ok.0 (inr ok.1) in
      record {
        begun = logs.begun s.tx ok.0 (inr ok.1);
        lines = λ x i.
            let sh = (right.shown x (subst (λ (xs : List Line). In x xs) (ok.2).view i)).1 in
            let e : sh.grant.epoch ≡ w.epoch s.tx = l.counts_epoch sh.grant sh.counts ∙ ap w.epoch sh.its in
            subst (λ (k : ℕ). BelongsTo decl w.status w.epoch w.decided k x) e
            (h.grants sh.grant x (l.known sh.grant sh.counts) (sh.shows).stands);
      }

  -- a share brings lines of its epoch, and holds nothing
  share_brings : (w : State) (g : Granted) → IsShareOfEpoch w g → EpochLawsOf decl w → (k : ℕ) → k ≡ g.epoch
      → Brings decl w.status w.epoch w.decided k (Grants g.tx g.items g.view)
  share_brings w g share h k e = (
    subst (λ (n : ℕ). (l : Line) → In l g.view → BelongsTo decl w.status w.epoch w.decided n l) (sym e)
        (belong share.brings),
    λ o i. absurd (subst (λ (xs : List Item). In (Own o) xs) share.none i),
  )
    where
      Belong : ℕ → List Line → Type 0
      Belong n log = (l : Line) → In l log → BelongsTo decl w.status w.epoch w.decided n l

      belong : (g.view ≡ []) ⊎ WasLogInEpoch w g.epoch g.view → Belong g.epoch g.view
      belong (inl none) = λ l i. absurd (subst (λ (xs : List Line). In l xs) none i)
      belong (inr (inl x)) =
          subst (Belong g.epoch) (sym x.3)
          (subst (λ (n : ℕ). Belong n (site_after x.0.before).volatile) x.2 (λ l i. h.grants x.0 l x.1 i))
      belong (inr (inr x)) =
          subst (Belong g.epoch) (sym x.3)
          (subst (λ (n : ℕ). Belong n (site_after x.0.before).volatile) x.2 (h.closings x.0 x.1).site.lines)

  -- so does what was requested
  requested_brings : (w : State) (g : Granted) → IsGrantOfEpoch decl w g → IsRequested w.appends g → EpochLawsOf decl w
      → (k : ℕ) → k ≡ w.epoch g.tx → Brings decl w.status w.epoch w.decided k (Grants g.tx g.items g.view)
  requested_brings w g own (inl read) h k e = (
    λ l i. absurd (subst (λ (xs : List Line). In l xs) (read.2) i),
    λ o i. absurd (none o (subst (λ (xs : List Item). In (Own o) xs) (read.1) i)),
  )
    where
      none : (o : OwnLine) → In (Own o) (Lock read.0 ∷ []) → ⊥
      none o (inl e) = let never : ⊥ = cc in never
      none o (inr e) = e
  requested_brings w g own (inr asked) h k e =
      let a = h.requests (record { tx = g.tx; items = g.items; view = g.view }) asked in (
        λ l i. subst (λ (x : ℕ). BelongsTo decl w.status w.epoch w.decided x l) (sym e) (a.lines l i),
        λ o i. record {
          begun = a.begun;
          writer = sym e;
          weighs = subst (λ (x : ℕ). 0 < append_need_of decl x o.object o.event) (own.epoch ∙ sym e) (own.weighs o i);
        },
      )

  -- a site grants
  grant_brings : (w : State) (g : Granted) → IsDisciplined decl w (Grant g) → EpochLawsOf decl w → (k : ℕ)
      → k ≡ g.epoch → Brings decl w.status w.epoch w.decided k (Grants g.tx g.items g.view)
  grant_brings w g (inl share) h k e = share_brings w g share h k e
  grant_brings w g (inr own) h k e = requested_brings w g own.1 own.0 h k (e ∙ own.1.epoch)

  grant_keeps : (w : State) (g : Granted) → IsAllowed decl w (Grant g) → IsDisciplined decl w (Grant g)
      → EpochLawsOf decl w → EpochLawsOf decl (after_act w (Grant g))
  grant_keeps w g ok disciplined h =
      let k : epoch_from 1 (w.deeds g.site) ≡ g.epoch = ap (epoch_from 1) (sym ok.0) ∙ (ok.2).current in
      let m = site_keeps w g.site (Grants g.tx g.items g.view)
      (grant_brings w g disciplined h (epoch_from 1 (w.deeds g.site)) k) h in
      record {
        sites = m.sites;
        grants = λ x l i. elim i [
          | inl e ↦ λ j. subst (λ (y : Granted). In l (site_after y.before).volatile
              → BelongsTo decl w.status w.epoch w.decided y.epoch l) (sym e)
              (λ q. subst (λ (y : ℕ). BelongsTo decl w.status w.epoch w.decided y l) k
              ((h.sites g.site).lines l (subst (λ (ds : List Deed). In l (site_after ds).volatile) ok.0 q))) j
          | inr r ↦ h.grants x l r
        ];
        requests = m.requests;
        closings = m.closings;
        decisions = m.decisions;
        one = m.one;
      }

  -- a snapshot is taken
  snapshot_is : (w : State) (s : Snapshot) → IsAllowed decl w (TakeSnapshot s) → StateLaws decl w → EpochLawsOf decl w
      → IsSnapshotOfEpoch decl w.status w.epoch w.decided s
  snapshot_is w s ok l h = record {
    site = subst (λ (ds : List Deed). IsSiteOfEpoch decl w.status w.epoch w.decided (epoch_from 1 ds) (site_after ds))
        (sym ok.0) (h.sites s.site);
    from_first = subst (λ (ds : List Deed). 1 ≤ epoch_from 1 ds) (sym ok.0)
        (upward (w.deeds s.site) 1 (l.rising s.site));
  }

  snapshots_with : (w : State) (s : Snapshot) → IsAllowed decl w (TakeSnapshot s) → StateLaws decl w
      → EpochLawsOf decl w → EpochLawsOf decl (after_act w (TakeSnapshot s))
  snapshots_with w s ok l h = record {
    sites = h.sites;
    grants = h.grants;
    requests = h.requests;
    closings = λ x i. elim i [
      | inl e ↦ subst (λ (y : Snapshot). IsSnapshotOfEpoch decl w.status w.epoch w.decided y)
          (sym e) (snapshot_is w s ok l h)
      | inr r ↦ h.closings x r
    ];
    decisions = h.decisions;
    one = h.one;
  }

  appends_with : (w : State) (s : AppendRequest) → IsAllowed decl w (SendAppend s) → StateLaws decl w → LogLaws decl w
      → EpochLawsOf decl w → EpochLawsOf decl (after_act w (SendAppend s))
  appends_with w s ok l logs h = record {
    sites = h.sites;
    grants = h.grants;
    requests = λ x i. elim i [
      | inl e ↦ subst (λ (y : AppendRequest). IsAppendOfEpoch decl w.status w.epoch w.decided y)
          (sym e) (append_is w s ok l logs h)
      | inr r ↦ h.requests x r
    ];
    closings = h.closings;
    decisions = h.decisions;
    one = h.one;
  }

  decide_later : (w : State) (d : Decision) → GoesOn w.status w.status w.epoch w.epoch w.decided (d ∷ w.decided)
  decide_later w d = record { begun = λ t h. h; epochs = λ t h. refl; stands = λ e i. inr i }

  decided_with : (w : State) (d : Decision) → IsAllowed decl w (Decide d) → IsDisciplined decl w (Decide d)
      → EpochLawsOf decl w → EpochLawsOf decl (after_act w (Decide d))
  decided_with w d ok disciplined h = record {
    sites = λ n. site_still decl w.status w.status w.epoch w.epoch w.decided (d ∷ w.decided) (decide_later w d)
        (epoch_from 1 (w.deeds n)) (site_after (w.deeds n)) (h.sites n);
    grants = λ x y i j. belongs_still decl w.status w.status w.epoch w.epoch w.decided (d ∷ w.decided)
        (decide_later w d) x.epoch y (h.grants x y i j);
    requests = λ s i. append_still decl w.status w.status w.epoch w.epoch w.decided (d ∷ w.decided) (decide_later w d) s
        (h.requests s i);
    closings = λ s i. snapshot_still decl w.status w.status w.epoch w.epoch w.decided (d ∷ w.decided)
        (decide_later w d) s (h.closings s i);
    decisions = λ e x i j. elim i [
      | inl same ↦ subst
          (λ (y : Decision). In x y.log → IsLineOfDecision decl w.status w.epoch (d ∷ w.decided) y x) (sym same)
          (λ q. decision_still decl w.status w.status w.epoch w.epoch w.decided (d ∷ w.decided) (decide_later w d) d x
          (decision_is decl w d ok h x q)) j
      | inr r ↦ decision_still decl w.status w.status w.epoch w.epoch w.decided
          (d ∷ w.decided) (decide_later w d) e x (h.decisions e x r j)
    ];
    one = one;
  }
    where
      one : (e f : Decision) → In e (d ∷ w.decided) → In f (d ∷ w.decided) → e.epoch ≡ f.epoch → e ≡ f
      one e f (inl a) (inl b) same = a ∙ sym b
      one e f (inl a) (inr b) same = absurd (disciplined f b (sym same ∙ ap (λ (x : Decision). x.epoch) a))
      one e f (inr a) (inl b) same = absurd (disciplined e a (same ∙ ap (λ (x : Decision). x.epoch) b))
      one e f (inr a) (inr b) same = h.one e f a b same

  begin_later : (w : State) (tx : TxId) (k : ℕ) → w.status tx ≡ NotBegun
      → GoesOn w.status (put_tx w.status tx Active) w.epoch (put_tx w.epoch tx k) w.decided w.decided
  begin_later w tx k new = record {
    begun = λ t h. put_tx_case (λ (s : Status). s ≢ NotBegun) w.status tx Active t (λ e x. let never : ⊥ = cc in never)
        (λ ne. h);
    epochs = λ t h. put_tx_case (λ (x : ℕ). x ≡ w.epoch t) w.epoch tx k t (λ e. absurd (h (ap w.status e ∙ new)))
        (λ ne. refl);
    stands = λ d i. i;
  }

  recovered_some : (b : Bool) (s : Status) (c : CommitRecord) → s ≡ Pending c → recover_status b s ≢ NotBegun
  recovered_some b s c e = subst (λ (x : Status). recover_status b x ≢ NotBegun) (sym e) (recovered_begun decl b c)

  learn_brings : (w : State) (k : ℕ) (tx : TxId) (o : Option Stamp)
      → Brings decl w.status w.epoch w.decided k (deed_of_outcome tx o)
  learn_brings w k tx (Some stamp) = tt
  learn_brings w k tx None = tt

  keeps : (w : State) (a : Act) → IsAllowed decl w a → IsDisciplined decl w a → StateLaws decl w → LogLaws decl w
      → EpochLawsOf decl w → EpochLawsOf decl (after_act w a)
  keeps w (Begin tx epoch) ok disciplined l logs h =
      laws_still decl w.status (put_tx w.status tx Active) w.epoch (put_tx w.epoch tx epoch) w.decided
      (begin_later w tx epoch ok.0) w.deeds w.appends w.granted w.snapshots h
  keeps w (Choose tx operation) ok disciplined l logs h = h
  keeps w (SendAppend s) ok disciplined l logs h = appends_with w s ok l logs h
  keeps w (Execute tx) ok disciplined l logs h = h
  keeps w (ExecuteAbsent tx operation) ok disciplined l logs h = h
  keeps w (Grant g) ok disciplined l logs h = grant_keeps w g ok disciplined h
  keeps w (Count g) ok disciplined l logs h = h
  keeps w (Prepare tx) ok disciplined l logs h = status_keeps w tx Voting (λ x. let never : ⊥ = cc in never) h
  keeps w (Vote site tx) ok disciplined l logs h = site_keeps w site (Prepares tx) tt h
  keeps w (PrepareLost site tx) ok disciplined l logs h = site_keeps w site (Prepares tx) tt h
  keeps w (Commit c) ok disciplined l logs h = status_keeps w c.tx (Committed c) (λ x. let never : ⊥ = cc in never) h
  keeps w (CommitUnknown c) ok disciplined l logs h =
      status_keeps w c.tx (Pending c) (λ x. let never : ⊥ = cc in never) h
  keeps w (Recover tx with_record) ok disciplined l logs h =
      status_keeps w tx (recover_status with_record (w.status tx))
      (recovered_some with_record (w.status tx) ok.0 ok.1) h
  keeps w (Abort tx) ok disciplined l logs h = status_keeps w tx Aborted (λ x. let never : ⊥ = cc in never) h
  keeps w (RiseClient client clock) ok disciplined l logs h = h
  keeps w (Announce tx) ok disciplined l logs h = h
  keeps w (Learn site v) ok disciplined l logs h =
      site_keeps w site (deed_of v) (learn_brings w (epoch_from 1 (w.deeds site)) v.tx v.stamp) h
  keeps w (Rise site) ok disciplined l logs h = site_keeps w site Rises tt h
  keeps w (Close site) ok disciplined l logs h = site_keeps w site Closes tt h
  keeps w (TakeSnapshot s) ok disciplined l logs h = snapshots_with w s ok l h
  keeps w (Decide d) ok disciplined l logs h = decided_with w d ok disciplined h
  keeps w (Install site d) ok disciplined l logs h =
      site_keeps w site (Installs d.epoch d.clock d.log)
      (λ x i. record { decision = d; stands = ok.0; epoch = refl; merged = i }) h

  pub epoch_laws : IsAccepted decl → (acts : List Act) → IsRun decl acts → AreDisciplined decl acts
      → EpochLawsOf decl (state acts)
  epoch_laws accepted [] run disciplined = record {
    sites = λ n. record { lines = λ l i. absurd i; held = λ t o i. absurd i; promised = λ p o i. absurd i };
    grants = λ g l i. absurd i;
    requests = λ s i. absurd i;
    closings = λ s i. absurd i;
    decisions = λ d l i. absurd i;
    one = λ d e i. absurd i;
  }
  epoch_laws accepted (a ∷ older) run disciplined =
      keeps (state older) a run.0 disciplined.0 (laws decl older run.1) (log_laws decl accepted older run.1)
      (epoch_laws accepted older run.1 disciplined.1)

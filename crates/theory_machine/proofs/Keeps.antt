-- Each act keeps the laws of the state, so every run does.
use Rattle.std.proofs.Common.{◌≡◌, ◌≢◌, ℕ, ◌≤◌, inl, inr, List, [], ◌∷◌, ◌++◌, Some, None, refl, sym, ◌∙◌, subst}
use Rattle.std.proofs.Common.{append-nil}
use Rattle.qc_stamp.specs.declared.stamp.TxId.{TxId}
use Rattle.qc_decl.specs.declared.declaration.Declaration.{Declaration}
use Rattle.qc_list.specs.Vocabulary.{In}
use Rattle.qc_list.proofs.Members.{In-second, In-either}
use Rattle.theory_machine.specs.Vocabulary.{Abort, Aborted, Act, Active, Announce, Begin, Choose, Close, Commit}
use Rattle.theory_machine.specs.Vocabulary.{CommitUnknown, Committed, Count, Decide, Decision, Deed, Execute}
use Rattle.theory_machine.specs.Vocabulary.{ExecuteAbsent, Grant, Granted, Install, Installs, IsAllowed, IsDecisionFrom}
use Rattle.theory_machine.specs.Vocabulary.{IsOutcome, IsRun, Learn, MaySnapshot, Pending, Prepare, PrepareLost}
use Rattle.theory_machine.specs.Vocabulary.{Prepares, Recover, Rise, RiseClient, SendAppend, Snapshot, State, StateLaws}
use Rattle.theory_machine.specs.Vocabulary.{Status, TakeSnapshot, Vote, Voting, after_act, chosen_list, put, put_tx}
use Rattle.theory_machine.specs.Vocabulary.{recover_records, recover_status, state, verdict_of}
use Rattle.theory_machine.proofs.Names.{put_case, put_tx_case}
use Rattle.theory_machine.proofs.Outcomes.{verdict_is}
use Rattle.theory_machine.proofs.Installed.{made_more}
use Rattle.theory_machine.proofs.Statuses.{Moves, moved, begin_moves, prepare_moves, abort_moves}
use Rattle.theory_machine.proofs.Commits.{commit_moves, commit_unknown_moves, recover_moves}
use Rattle.theory_machine.proofs.AtSites.{granted_more, counted_more, at_sites, grant_keeps, vote_keeps, learn_keeps}
use Rattle.theory_machine.proofs.AtSites.{rise_keeps, close_keeps}
use Rattle.theory_machine.proofs.AtClients.{active_under_way, chosen_under_way, count_keeps, executes}

module _ (decl : Declaration) where
  put_other : {A : Type 0} (f : TxId → A) (k : TxId) (v : A) (t : TxId) → (t ≢ k) → f t ≡ put_tx f k v t
  put_other {A = A} f k v t ne = put_tx_case (λ (x : A). f t ≡ x) f k v t (λ same. absurd (ne same)) (λ x. refl)

  pub keeps : (w : State) (a : Act) → IsAllowed decl w a → StateLaws decl w → StateLaws decl (after_act w a)
  keeps w (Begin tx epoch) ok l = moved decl w tx Active w.clock w.records (put_tx w.epoch tx epoch)
      (begin_moves decl w tx epoch ok.0 ok.1) l
  keeps w (Choose tx operation) ok l = executes decl w tx w.executed (put_tx w.chosen tx (Some operation)) w.appends
      (active_under_way (w.status tx) ok.0) (λ t ne. refl) (put_other w.chosen tx (Some operation)) l
  keeps w (SendAppend s) ok l = record {
    verdicts = l.verdicts;
    deeds = l.deeds;
    granted = l.granted;
    facts = l.facts;
    known = l.known;
    counted = l.counted;
    votes = l.votes;
    begun = l.begun;
    passed = l.passed;
    seen_by = l.seen_by;
    quiet = l.quiet;
    record_of = l.record_of;
    apart = l.apart;
    written = l.written;
    writes = l.writes;
    counts_epoch = l.counts_epoch;
    planned = l.planned;
    installed = l.installed;
    rising = l.rising;
    snapped = l.snapped;
    answers = l.answers;
    made = l.made;
  }
  keeps w (Execute tx) ok l = executes decl w tx (put_tx w.executed tx (w.executed tx ++ chosen_list (w.chosen tx)))
      (put_tx w.chosen tx None) w.appends (chosen_under_way decl w tx ok.0 ok.1 l)
      (put_other w.executed tx (w.executed tx ++ chosen_list (w.chosen tx))) (put_other w.chosen tx None) l
  keeps w (ExecuteAbsent tx operation) ok l =
      executes decl w tx (put_tx w.executed tx (w.executed tx ++ operation ∷ [])) (put_tx w.chosen tx None) w.appends
      (active_under_way (w.status tx) ok.0) (put_other w.executed tx (w.executed tx ++ operation ∷ []))
      (put_other w.chosen tx None) l
  keeps w (Grant g) ok l = grant_keeps decl w g ok l
  keeps w (Count g) ok l = count_keeps decl w g ok l
  keeps w (Prepare tx) ok l = moved decl w tx Voting w.clock w.records w.epoch (prepare_moves decl w tx ok.0 ok.1 l) l
  keeps w (Vote site tx) ok l = vote_keeps decl w site tx ok l
  keeps w (PrepareLost site tx) ok l = at_sites decl w site (Prepares tx) w.life w.granted w.votes tt ok
      (granted_more decl w site (Prepares tx) tt l) l.facts
      (λ g h. counted_more decl w site (Prepares tx) l g h (λ same alive. tt)) l.votes (λ h i. i) (λ v i. i) l
  keeps w (Commit c) ok l = moved decl w c.tx (Committed c) (put w.clock c.tx.client c.stamp.clock)
      (c ∷ w.records) w.epoch (commit_moves decl w c ok l) l
  keeps w (CommitUnknown c) ok l = moved decl w c.tx (Pending c)
      (put w.clock c.tx.client c.stamp.clock) w.records w.epoch (commit_unknown_moves decl w c ok l) l
  keeps w (Recover tx with_record) ok l = moved decl w tx (recover_status with_record (w.status tx)) w.clock
      (recover_records with_record (w.status tx) w.records) w.epoch
      (subst (λ (s : Status). Moves decl w tx (recover_status with_record s) w.clock
      (recover_records with_record s w.records) w.epoch) (sym ok.1)
      (recover_moves decl w tx ok.0 with_record ok.1 l)) l
  keeps w (Abort tx) ok l = moved decl w tx Aborted w.clock w.records w.epoch (abort_moves decl w tx ok l) l
  keeps w (RiseClient client clock) ok l = record {
    verdicts = l.verdicts;
    deeds = l.deeds;
    granted = l.granted;
    facts = l.facts;
    known = l.known;
    counted = l.counted;
    votes = l.votes;
    begun = l.begun;
    passed = λ g h live. put_case (λ (n : ℕ). g.clock ≤ n) w.clock client clock g.tx.client
        (λ e. absurd (ok.0 g.tx e live)) (λ ne. l.passed g h live);
    seen_by = λ k g. put_case (λ (gs : List Granted). In g gs → In g w.granted × (g.clock ≤ put w.clock client clock k))
        w.seen_by client [] k (λ e i. absurd i)
        (λ ne i. (
          (l.seen_by k g i).0,
          put_case (λ (n : ℕ). g.clock ≤ n) w.clock client clock k (λ e. absurd (ne e))
              (λ x. (l.seen_by k g i).1),
        ));
    quiet = l.quiet;
    record_of = λ tx c h. (let r = l.record_of tx c h in record {
      named = r.named;
      client = r.client;
      low = put_case (λ (n : ℕ). c.stamp.clock ≤ n) w.clock client clock tx.client (λ e. ok.1 tx c e h) (λ ne. r.low);
      ops = r.ops;
      none_chosen = r.none_chosen;
      agreed = r.agreed;
    });
    apart = l.apart;
    written = l.written;
    writes = l.writes;
    counts_epoch = l.counts_epoch;
    planned = l.planned;
    installed = l.installed;
    rising = l.rising;
    snapped = l.snapped;
    answers = l.answers;
    made = l.made;
  }
  keeps w (Announce tx) ok l = record {
    verdicts = λ t h. elim (In-either t (verdict_of tx (w.status tx)) w.verdicts h) [
      | inl new ↦ let i = verdict_is tx (w.status tx) t new in
          subst (λ (x : TxId). IsOutcome (w.status x) t.stamp) (sym i.0) i.1
      | inr old ↦ l.verdicts t old
    ];
    deeds = l.deeds;
    granted = l.granted;
    facts = l.facts;
    known = l.known;
    counted = l.counted;
    votes = l.votes;
    begun = l.begun;
    passed = l.passed;
    seen_by = l.seen_by;
    quiet = l.quiet;
    record_of = l.record_of;
    apart = l.apart;
    written = l.written;
    writes = l.writes;
    counts_epoch = l.counts_epoch;
    planned = l.planned;
    installed = l.installed;
    rising = l.rising;
    snapped = l.snapped;
    answers = l.answers;
    made = λ d h. made_more decl w.snapshots w.verdicts w.snapshots (verdict_of tx (w.status tx) ++ w.verdicts) d
        (λ s i. i) (λ v i. In-second v (verdict_of tx (w.status tx)) w.verdicts i) (l.made d h);
  }
  keeps w (Learn site t) ok l = learn_keeps decl w site t ok l
  keeps w (Rise site) ok l = rise_keeps decl w site l
  keeps w (Close site) ok l = close_keeps decl w site l
  keeps w (TakeSnapshot s) ok l = record {
    verdicts = l.verdicts;
    deeds = l.deeds;
    granted = l.granted;
    facts = l.facts;
    known = l.known;
    counted = l.counted;
    votes = l.votes;
    begun = l.begun;
    passed = l.passed;
    seen_by = l.seen_by;
    quiet = l.quiet;
    record_of = l.record_of;
    apart = l.apart;
    written = l.written;
    writes = l.writes;
    counts_epoch = l.counts_epoch;
    planned = l.planned;
    installed = l.installed;
    rising = l.rising;
    snapped = λ t h. elim h [
      | inl same ↦ subst
          (λ (x : Snapshot). (later : List Deed) × (w.deeds x.site ≡ x.before ++ later)) (sym same)
          ([], sym ok.0 ∙ sym (append-nil s.before))
      | inr old ↦ l.snapped t old
    ];
    answers = λ t h. elim h [ inl same ↦ subst MaySnapshot (sym same) ok.1 | inr old ↦ l.answers t old ];
    made = λ d h. made_more decl w.snapshots w.verdicts (s ∷ w.snapshots) w.verdicts d (λ t i. inr i) (λ v i. i)
        (l.made d h);
  }
  keeps w (Decide d) ok l = record {
    verdicts = l.verdicts;
    deeds = l.deeds;
    granted = l.granted;
    facts = l.facts;
    known = l.known;
    counted = l.counted;
    votes = l.votes;
    begun = l.begun;
    passed = l.passed;
    seen_by = l.seen_by;
    quiet = l.quiet;
    record_of = l.record_of;
    apart = l.apart;
    written = l.written;
    writes = l.writes;
    counts_epoch = l.counts_epoch;
    planned = l.planned;
    installed = λ s k c log h. (let r = l.installed s k c log h in
        record { by = r.by; stands = inr r.stands; epoch = r.epoch; clock = r.clock; logs = r.logs });
    rising = l.rising;
    snapped = l.snapped;
    answers = l.answers;
    made = λ e h. elim h [
      | inl same ↦ subst (λ (x : Decision). IsDecisionFrom decl w.snapshots w.verdicts x) (sym same)
          (record {
            plan = ok.plan;
            planned = ok.planned;
            epochs = ok.epochs;
            sites = ok.sites;
            closes = ok.closes;
            each = ok.each;
            resolved = ok.resolved;
            logs = ok.logs;
            clocks = ok.clocks;
          })
      | inr old ↦ l.made e old
    ];
  }
  keeps w (Install site d) ok l = at_sites decl w site (Installs d.epoch d.clock d.log) w.life w.granted w.votes
      (record { by = d; stands = ok.0; epoch = refl; clock = refl; logs = refl }, ok.1) tt
      (granted_more decl w site (Installs d.epoch d.clock d.log) tt l) l.facts
      (λ g h. counted_more decl w site (Installs d.epoch d.clock d.log) l g h (λ same alive. tt)) l.votes (λ h i. i)
      (λ v i. i) l

  pub laws : (acts : List Act) → IsRun decl acts → StateLaws decl (state acts)
  laws [] ok = record {
    verdicts = λ t h. absurd h;
    deeds = λ s d h. absurd h;
    granted = λ g h. absurd h;
    facts = λ g h. absurd h;
    known = λ g h. absurd h;
    counted = λ g h. absurd h;
    votes = λ v h. absurd h;
    begun = λ g h. absurd h;
    passed = λ g h. absurd h;
    seen_by = λ c g h. absurd h;
    quiet = λ tx h. refl;
    record_of = λ tx c h. absurd h;
    apart = λ tx u c d h. absurd h;
    written = λ c h. absurd h;
    writes = λ tx c h. absurd (let never : ⊥ = cc in never);
    counts_epoch = λ g h. absurd h;
    planned = λ tx h. absurd (h refl);
    installed = λ s k c log h. absurd h;
    rising = λ s. tt;
    snapped = λ s h. absurd h;
    answers = λ s h. absurd h;
    made = λ d h. absurd h;
  }
  laws (a ∷ older) ok = keeps (state older) a ok.0 (laws older ok.1)

-- A site falls in a turn whose record isn't written: the record may stand all the same, and the machine can go on so.
use Rattle.std.proofs.Common.{◌≡◌, inl, inr, ℕ, suc, ◌+◌, ◌<◌, ◌≤◌, nat_lt, nat_le, ltb-false, leb-false, arith, max}
use Rattle.std.proofs.Common.{true, false, List, [], ◌∷◌, Option, Some, None, is_some, refl, sym, ap, ◌∙◌, subst}
use Rattle.qc_stamp.specs.declared.stamp.Stamp.{Stamp}
use Rattle.qc_stamp.specs.declared.stamp.TxId.{TxId}
use Rattle.qc_list.specs.Vocabulary.{In}
use Rattle.qc_entry.specs.declared.line.Line.{Line}
use Rattle.qc_entry.specs.declared.record.Prepared.{Prepared}
use Rattle.qc_decl.specs.declared.declaration.Declaration.{Declaration}
use Rattle.qc_decl.specs.Vocabulary.{is_site}
use Rattle.qc_lock.specs.Vocabulary.{held_of}
use Rattle.qc_msg.specs.declared.message.Envelope.{Envelope}
use Rattle.qc_msg.specs.declared.message.Message.{Message}
use Rattle.qc_msg.specs.declared.message.Message.TheVariants as messages
use Rattle.qc_msg.specs.declared.message.Outcome.{Outcome}
use Rattle.qc_msg.specs.declared.message.Outcome.TheVariants as outcomes
use Rattle.qc_msg.specs.declared.message.Want.{Want}
use Rattle.qc_msg.specs.declared.message.Want.TheVariants.{Read, Append, Prepare}
use Rattle.qc_msg.specs.declared.record.Record.{Record}
use Rattle.qc_msg.specs.declared.record.Record.TheVariants as records
use Rattle.qc_msg.specs.declared.step.Input.{Input}
use Rattle.qc_msg.specs.declared.step.Input.TheVariants.{Called, Got, Lost}
use Rattle.qc_msg.specs.declared.turn.Posting.{Posting}
use Rattle.theory_machine.specs.Vocabulary.{Aborted, Act, Active, Committed, HasRecord, IsOutcome, IsRun, Item, Lock}
use Rattle.theory_machine.specs.Vocabulary.{MayPrepare, NotBegun, Own, Pending, Promise, Status, Voting, promise_of}
use Rattle.theory_machine.specs.Vocabulary.{site_after, state}
use Rattle.theory_machine.proofs.Keeps.{laws}
use Rattle.qc_site.specs.Vocabulary.{SiteMove, answering, closes, grants, installs, is_prepared, joins, latest, passed}
use Rattle.qc_site.specs.Vocabulary.{prepared_of, prepares, site_on, site_takes}
use Rattle.qc_site.specs.Promise as sites
use Rattle.qc_site.proofs.RequestCases.{append_cases, close_cases, prepare_cases, read_cases, request_cases}
use Rattle.qc_site.proofs.Cases.{install_cases}
use Rattle.qc_msg.specs.declared.message.Answer.TheVariants as answers
use Rattle.qc_msg.specs.Vocabulary.{start_with}
use Rattle.qc_recover.specs.Vocabulary.{done_stamp, kept_by}
use Rattle.laws_refinement.specs.Vocabulary.{Backed, IsDecided, IsFinishing, IsHeld, IsPendingAt, IsPlanned}
use Rattle.laws_refinement.specs.Vocabulary.{IsPreparing, IsPromiseOf, IsPromised, IsVerdictBacked, MayCome, Mirrors}
use Rattle.laws_refinement.specs.Vocabulary.{Net}
use Rattle.qc_site.proofs.Sorted.{ascending-without}
use Rattle.laws_refinement.proofs.Known.{promised_known, unrecorded}
use Rattle.laws_refinement.proofs.MessageCases.{site_cases}

module _ (decl : Declaration) (acts : List Act) (net : Net) (a : ℕ) (run : IsRun decl acts)
    (m : Mirrors decl (state acts) net) (site : is_site decl a ≡ true) (up : net.up a ≡ true) where
  -- the record that a turn would write is backed, and so is what is sent where it isn't written
  abbrev Fails : SiteMove → Type 0
  Fails move = (r : Record) → move.turn.write ≡ Some r
      → IsPendingAt decl (state acts) (kept_by (net.records a)) ((state acts).deeds a) (Some r)
      × ((p : Posting) → In p move.turn.failed_sends → Backed decl (state acts) net.mail a p.to p.message)

  fresh : (tx : TxId) → is_prepared (net.sites a).prepared tx ≡ false
      → promise_of tx (site_after ((state acts).deeds a)).prepared ≡ None
  fresh tx is = by (promise_of tx (site_after ((state acts).deeds a)).prepared) (prepared_of (net.sites a).prepared tx)
      ((m.sites a site up).promised tx) is
    where
      by : (p : Option Promise) (q : Option Prepared) → IsPromiseOf p q → is_some q ≡ false → p ≡ None
      by None q same none = refl
      by (Some p) None same none = absurd same
      by (Some p) (Some q) same none = absurd (let never : ⊥ = cc in never)

  preparing : (clock : ℕ) (tx : TxId) → MayPrepare ((state acts).status tx)
      → is_prepared (net.sites a).prepared tx ≡ false
      → IsPreparing (state acts) (kept_by (net.records a)) ((state acts).deeds a)
      (sites.promise_of (record (net.sites a) { clock = clock }) tx)
  preparing clock tx asked is = record {
    asked = asked;
    fresh = fresh tx is;
    same = (
      (λ x among. has x ((m.sites a site up).held tx x among)),
      (λ o among. (m.sites a site up).owned tx o among),
    );
    whole = λ l among. unrecorded (net.sites a) (kept_by (net.records a)) (m.alike a site up) l
        ((m.sites a site up).log l among);
    lines = λ l among. (m.sites a site up).logged l (promised_known (net.sites a) l among);
    ascends = ascending-without (net.sites a).log (net.sites a).recorded (m.sites a site up).sorted.1;
  }
    where
      has : (x : Item) → IsHeld (held_of (net.sites a).held tx) x
          → IsPromised (sites.promise_of (record (net.sites a) { clock = clock }) tx) x
      has (Lock l) h = h
      has (Own o) h = h

  prepare_fails : (clock from number : ℕ) (tx : TxId) → MayPrepare ((state acts).status tx)
      → Fails (prepares (record (net.sites a) { clock = clock }) from number tx)
  prepare_fails clock from number tx asked = prepare_cases Fails (record (net.sites a) { clock = clock }) from number tx
      (λ r wrote. absurd (let never : ⊥ = cc in never))
      (λ held is r wrote. absurd (let never : ⊥ = cc in never))
      (λ held is r wrote. (let e : records.Prepare (sites.promise_of (record (net.sites a) { clock = clock }) tx) ≡ r =
      cc in (
        subst (λ (x : Record). IsPendingAt decl (state acts) (kept_by (net.records a)) ((state acts).deeds a) (Some x))
            e (preparing clock tx asked is),
        (λ p among. elim among [
          | inl same ↦ subst (λ (x : Posting). Backed decl (state acts) net.mail a x.to x.message)
              (sym same) tt
          | inr never ↦ absurd never
        ]),
      )))

  decision_fails : (tx : TxId) (verdict : Outcome) (from number : ℕ) → IsVerdictBacked (state acts) tx verdict
      → Fails (site_on decl (net.sites a) from number (messages.Decision tx verdict))
  decision_fails tx outcomes.Aborted from number backed r wrote = absurd (let never : ⊥ = cc in never)
  decision_fails tx outcomes.Active from number backed r wrote = absurd (let never : ⊥ = cc in never)
  decision_fails tx (outcomes.Committed stamp) from number backed r wrote =
      by (promise_of tx (site_after ((state acts).deeds a)).prepared) (prepared_of (net.sites a).prepared tx) refl refl
      ((m.sites a site up).promised tx) wrote
    where
      clock : ℕ
      clock = max (net.sites a).clock stamp.clock

      stamp_is : stamp ≡ done_stamp tx stamp.clock
      stamp_is = at ((state acts).status tx) refl
          ((laws decl acts run).verdicts (record { tx = tx; stamp = Some stamp }) backed)
        where
          at : (x : Status) → (state acts).status tx ≡ x → IsOutcome x (Some stamp) → stamp ≡ done_stamp tx stamp.clock
          at (Committed c) is same =
              let own : c.stamp.client ≡ tx.client = ((laws decl acts run).record_of tx c
              (subst (λ (y : Status). HasRecord y c) (sym is) refl)).client in
              let e : stamp.client ≡ tx.client = sym (ap (λ (y : Stamp). y.client) same) ∙ own in
              (λ i. record { clock = stamp.clock; client = e i })
          at NotBegun is same = absurd same
          at Active is same = absurd same
          at Voting is same = absurd same
          at (Pending c) is same = absurd same
          at Aborted is same = absurd same

      by : (p : Option Promise) (q : Option Prepared) → promise_of tx (site_after ((state acts).deeds a)).prepared ≡ p
          → prepared_of (net.sites a).prepared tx ≡ q → IsPromiseOf p q
          → (joins (record (net.sites a) { clock = max (net.sites a).clock stamp.clock }) tx stamp q).turn.write
          ≡ Some r
          → IsPendingAt decl (state acts) (kept_by (net.records a)) ((state acts).deeds a) (Some r)
          × ((p : Posting) → In p (joins (record (net.sites a) { clock = max (net.sites a).clock stamp.clock }) tx
          stamp q).turn.failed_sends → Backed decl (state acts) net.mail a p.to p.message)
      by p None some found same w = absurd (let never : ⊥ = cc in never)
      by None (Some q) some found same w = absurd same
      by (Some p) (Some q) some found same w =
          let e : records.Done tx stamp.clock ≡ r = cc in
          let finishing : IsFinishing (state acts) (kept_by (net.records a)) ((state acts).deeds a) tx stamp.clock =
          record {
            told = subst (λ (y : Stamp). In (record { tx = tx; stamp = Some y }) (state acts).verdicts) stamp_is backed;
            promise = p;
            promised = some;
            prepared = q;
            kept = (m.alike a site up).promises tx q found;
            same = same;
          } in (
            subst (λ (x : Record). IsPendingAt decl (state acts) (kept_by (net.records a)) ((state acts).deeds a)
                (Some x)) e finishing,
            (λ x never. absurd never),
          )

  want_fails : (from to number epoch life : ℕ) (tx : TxId) (w : Want)
      → Backed decl (state acts) net.mail from to (messages.Request tx epoch life w)
      → Fails (grants decl (passed (net.sites a) (messages.Request tx epoch life w)) from number tx w)
  want_fails from to number epoch life tx (Read read) b =
      read_cases Fails decl (passed (net.sites a) (messages.Request tx epoch life (Read read))) from number tx
      read
      (λ free r wrote. absurd (let never : ⊥ = cc in never)) (λ c clash r wrote. absurd (let never : ⊥ = cc in never))
  want_fails from to number epoch life tx (Append object view own) b =
      append_cases Fails decl (passed (net.sites a) (messages.Request tx epoch life (Append object view own))) from
      number tx object view own
      (λ free r wrote. absurd (let never : ⊥ = cc in never)) (λ c clash r wrote. absurd (let never : ⊥ = cc in never))
  want_fails from to number epoch life tx Prepare b = prepare_fails (net.sites a).clock from number tx (b.3).0

  epoch_kept : (net.sites a).epoch ≡ (kept_by (net.records a)).epoch
  epoch_kept = sym (m.sites a site up).epoch ∙ (m.kept a site).epoch

  -- that it can't be written is told
  faulted : (from number : ℕ) (p : Posting) → In p (answering from number answers.Fault ∷ [])
      → Backed decl (state acts) net.mail a p.to p.message
  faulted from number p (inl same) = subst (λ (x : Posting). Backed decl (state acts) net.mail a x.to x.message)
      (sym same) tt
  faulted from number p (inr never) = absurd never

  close_fails : (from number k : ℕ) → IsPlanned decl k → Fails (closes (net.sites a) from number k)
  close_fails from number k planned = close_cases Fails (net.sites a) from number k
      (λ answer r wrote. absurd (let never : ⊥ = cc in never))
      (λ near later r wrote. (let e : records.Close k ≡ r = cc in (
        subst (λ (x : Record). IsPendingAt decl (state acts) (kept_by (net.records a)) ((state acts).deeds a) (Some x))
            e (next near later ∙ ap (λ (n : ℕ). suc n) epoch_kept, planned),
        faulted from number,
      )))
    where
      next : nat_lt ((net.sites a).epoch + 1) k ≡ false → nat_le k (net.sites a).epoch ≡ false
          → k ≡ suc (net.sites a).epoch
      next far here = let low : k ≤ (net.sites a).epoch + 1 = ltb-false ((net.sites a).epoch + 1) k far in
          let high : (net.sites a).epoch < k = leb-false k (net.sites a).epoch here in omega arith

  install_fails : (from number k clock : ℕ) (log : List Line) → IsDecided decl (state acts) k clock log
      → Fails (installs (record (net.sites a) { clock = latest (net.sites a).clock log }) from number k clock log)
  install_fails from number k clock log d =
      install_cases Fails (record (net.sites a) { clock = latest (net.sites a).clock log }) from number k clock log
      (λ answer r wrote. absurd (let never : ⊥ = cc in never))
      (λ later fits r wrote. (let e : records.Install (start_with k clock log) ≡ r = cc in (
        subst (λ (x : Record). IsPendingAt decl (state acts) (kept_by (net.records a)) ((state acts).deeds a) (Some x))
            e (d, subst (λ (n : ℕ). n < k) epoch_kept (leb-false k (net.sites a).epoch later)),
        faulted from number,
      )))

  message_fails : (e : Envelope) → In e net.mail → Fails (site_on decl (net.sites a) e.from e.number e.message)
  message_fails e among = by e.message refl
    where
      back : (message : Message) → e.message ≡ message → Backed decl (state acts) net.mail e.from e.to message
      back message same =
          subst (λ (x : Message). Backed decl (state acts) net.mail e.from e.to x) same (m.mail e among)

      by : (message : Message) → e.message ≡ message → Fails (site_on decl (net.sites a) e.from e.number message)
      by =
          site_cases decl (net.sites a) e.from e.number (λ message move. e.message ≡ message → Fails move)
          (λ q same. request_cases Fails decl (passed (net.sites a) (messages.Request q.tx q.epoch q.life q.want))
          e.from e.number q.tx q.epoch q.life q.want (λ r wrote. absurd (let never : ⊥ = cc in never))
          (λ refusal is r wrote. absurd (let never : ⊥ = cc in never))
          (λ is. want_fails e.from e.to e.number q.epoch q.life q.tx q.want
          (back (messages.Request q.tx q.epoch q.life q.want) same)))
          (λ v same. decision_fails v.tx v.verdict e.from e.number (back (messages.Decision v.tx v.verdict) same))
          (λ epoch same. close_fails e.from e.number epoch (back (messages.Close epoch) same))
          (λ start same. install_fails e.from e.number start.epoch start.clock start.lines
          (back (messages.Install start) same))
          (λ message same r wrote. absurd (let never : ⊥ = cc in never))

  pub take_fails : (given : Input) → MayCome net a given → Fails (site_takes decl (net.sites a) given)
  take_fails (Got e) came = message_fails e came.0
  take_fails (Called command) came = λ r wrote. absurd (let never : ⊥ = cc in never)
  take_fails (Lost number) came = λ r wrote. absurd (let never : ⊥ = cc in never)

-- A transaction that is safe and hasn't aborted ends before the next epoch is decided: a site that closed its epoch had
-- a counted grant of it, and told that it was prepared there, or had its Done record; a decision waits for the verdict
-- on what is prepared, so the transaction has committed.
use Rattle.std.proofs.Common.{◌≡◌, ◌≢◌, ℕ, zero, suc, ◌<◌, ◌≤◌, ◌⊎◌, false, inl, inr, List, ◌∷◌, ◌++◌, Some, None, refl}
use Rattle.std.proofs.Common.{sym, ap, ◌∙◌, subst, arith}
use Rattle.qc_stamp.specs.declared.stamp.Stamp.{Stamp}
use Rattle.qc_stamp.specs.declared.stamp.TxId.{TxId}
use Rattle.qc_list.specs.Vocabulary.{In}
use Rattle.qc_list.proofs.Members.{In-first, In-second}
use Rattle.qc_entry.specs.declared.record.Commit.{Commit as CommitRecord}
use Rattle.qc_decl.specs.declared.declaration.Declaration.{Declaration}
use Rattle.qc_decl.specs.Vocabulary.{IsAccepted, plan_in}
use Rattle.theory_machine.specs.Vocabulary.{Aborted, Act, Committed, CountedLaw, Decision, Deed, Granted, Grants}
use Rattle.theory_machine.specs.Vocabulary.{IsDecisionFrom, IsDependedOn, IsOutcome, IsResolved, IsRun, Item}
use Rattle.theory_machine.specs.Vocabulary.{LearnsCommit, Promise, Snapshot, SparesUntilDone, StateLaws, Status}
use Rattle.theory_machine.specs.Vocabulary.{YesVote, epoch_from, state}
use Rattle.theory_machine.specs.State as machine
use Rattle.theory_machine.proofs.Decided.{of_epoch, order, suc_of}
use Rattle.theory_machine.proofs.Keeps.{laws}
use Rattle.theory_machine.proofs.Order.{ended}
use Rattle.theory_machine.proofs.Quorums.{closing_site, heavy}
use Rattle.theory_machine.proofs.SnapshotGrants.{IsPast, past, tells}
use Rattle.theory_machine.proofs.Outcomes.{outcome_aborted}

-- a transaction is safe where each site whose grant it counted is in the grant's life, or has voted for it: whatever
-- falls then, what it was granted is held until it ends
abbrev pub IsSafe : List Act → TxId → Type 0
IsSafe acts tx = (g : Granted) → In g (state acts).counted → g.tx ≡ tx
    → ((state acts).life g.site ≡ g.life) ⊎ In {X = YesVote} (record { tx = g.tx; site = g.site }) (state acts).votes

-- what an outcome says of the status

committed_by : (s : Status) (stamp : Stamp) → IsOutcome s (Some stamp) → (c : CommitRecord) × (s ≡ Committed c)
committed_by machine.NotBegun stamp o = absurd o
committed_by machine.Active stamp o = absurd o
committed_by machine.Voting stamp o = absurd o
committed_by (machine.Pending c) stamp o = absurd o
committed_by (machine.Committed c) stamp o = (c, refl)
committed_by machine.Aborted stamp o = absurd o

module _ (decl : Declaration) (accepted : IsAccepted decl) (acts : List Act) (run : IsRun decl acts) where
  wl : StateLaws decl (state acts)
  wl = laws decl acts run

  -- what its site did since a counted grant spares the transaction
  pub spares : (g : Granted) → In g (state acts).counted → (state acts).status g.tx ≢ Aborted → IsSafe acts g.tx
      → (k : CountedLaw ((state acts).deeds g.site) ((state acts).life g.site) ((state acts).status g.tx)
      (state acts).votes g) → SparesUntilDone g.tx false k.post
  spares g h alive safe k = elim (safe g h refl)
      [ inl same ↦ k.unvoted alive same | inr voted ↦ (k.voted alive voted).0 ]

  abbrev pub HasCommitted : TxId → Type 0
  HasCommitted tx = (c : CommitRecord) × ((state acts).status tx ≡ Committed c)

  -- the verdict on what a snapshot has prepared
  resolved : (tx : TxId) (d : Decision) (p : Promise) → (state acts).status tx ≢ Aborted → p.tx ≡ tx
      → IsResolved (state acts).verdicts d p → HasCommitted tx
  resolved tx d p alive its (inl r) = committed_by ((state acts).status tx) r.0
      (subst (λ (t : TxId). IsOutcome ((state acts).status t) (Some r.0)) its
      (wl.verdicts (record { tx = p.tx; stamp = Some r.0 }) r.1))
  resolved tx d p alive its (inr r) = absurd
      (alive (outcome_aborted ((state acts).status tx)
      (subst (λ (t : TxId). IsOutcome ((state acts).status t) None) its
      (wl.verdicts (record { tx = p.tx; stamp = None }) r))))

  -- a decision of the next epoch was made from a snapshot of the site of a grant
  pub settled : (d : Decision) (m : ℕ) → In d (state acts).decided → d.epoch ≡ suc m → (g : Granted) (item : Item)
      → In g (state acts).counted → In item g.items → g.epoch ≡ m → (state acts).status g.tx ≢ Aborted
      → IsSafe acts g.tx
      → (sn : Snapshot) → In sn d.snapshots → sn.site ≡ g.site → HasCommitted g.tx
  settled d m hd is g item counted has epoch alive safe sn among site =
      by (past decl accepted acts run g sn counted (spares g counted alive safe) taken.0 site (at_epoch ∙ sym epoch))
    where
      made : IsDecisionFrom decl (state acts).snapshots (state acts).verdicts d
      made = wl.made d hd

      taken : In sn (state acts).snapshots × (d.epoch ≡ suc (epoch_from 1 sn.before))
      taken = made.epochs sn among

      at_epoch : epoch_from 1 sn.before ≡ m
      at_epoch = let one : d.epoch ≡ suc (epoch_from 1 sn.before) = taken.1 in let two : d.epoch ≡ suc m = is in
          omega arith

      by : IsPast decl accepted acts run g sn → HasCommitted g.tx
      by p = elim (tells decl accepted acts run g sn item counted has p) [
        | inl t ↦ resolved g.tx d t.by alive t.its (made.resolved sn t.by among t.stands)
        | inr done_ ↦
            let there : In (LearnsCommit g.tx done_.stamp) ((state acts).deeds g.site) =
            subst (In (LearnsCommit g.tx done_.stamp)) (sym (p.within ∙ ap (λ (ds : List Deed). ds ++ p.later) p.is))
            (In-first (LearnsCommit g.tx done_.stamp) (g.before ++ Grants g.tx g.items g.view ∷ p.since) p.later
            (In-second (LearnsCommit g.tx done_.stamp) g.before (Grants g.tx g.items g.view ∷ p.since)
            (inr (ended decl acts run p.since g.tx done_)))) in
            committed_by ((state acts).status g.tx) done_.stamp (wl.deeds g.site (LearnsCommit g.tx done_.stamp) there)
      ]

  -- each epoch between was decided, where something depends on something
  pub decided_next : (n : ℕ) (d : Decision) → d.epoch ≤ n → In d (state acts).decided → (e : ℕ) → 0 < e → e < d.epoch
      → (object number : ℕ) → IsDependedOn decl object number
      → (x : Decision) × In x (state acts).decided × (x.epoch ≡ suc e)
  decided_next zero d small hd e some less object number dep = absurd (omega arith)
  decided_next (suc n) d small hd e some less object number dep =
      by (suc_of d.epoch (omega arith)) (λ x low among between. decided_next n x low among e some between object number
      dep)
    where
      by : ((m : ℕ) × (d.epoch ≡ suc m)) → ((x : Decision) → x.epoch ≤ n → In x (state acts).decided → e < x.epoch
          → (y : Decision) × In y (state acts).decided × (y.epoch ≡ suc e))
          → (x : Decision) × In x (state acts).decided × (x.epoch ≡ suc e)
      by (m, is) ih = elim (order e m (omega arith)) [
        | inl now ↦ (d, hd, is ∙ ap suc (sym now))
        | inr below ↦
            let made : IsDecisionFrom decl (state acts).snapshots (state acts).verdicts d = wl.made d hd in
            let planned : plan_in decl m ≡ Some made.plan = made.planned m is in
            let h = heavy decl accepted m object dep.inv number dep.kind made.plan planned dep.typed dep.low dep.within
            dep.depends in
            let s = closing_site decl accepted m object dep.inv number made.plan made.sites planned h made.closes in
            let sn = made.each s.0 s.1 in
            let se = made.epochs sn.0 sn.1 in
            let same : suc (epoch_from 1 sn.0.before) ≡ suc m = sym se.1 ∙ is in
            let at_epoch : epoch_from 1 sn.0.before ≡ m = (omega arith) in
            let r = wl.snapped sn.0 se.0 in
            let o = of_epoch decl accepted acts run sn.0.site m sn.0.before r.0 r.1 at_epoch (omega arith) in
            let oe : o.by.epoch ≡ m = o.epoch in
            ih o.by (omega arith) o.stands (omega arith)
      ]

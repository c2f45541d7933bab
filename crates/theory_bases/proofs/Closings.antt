-- What a snapshot tells of a committed transaction to which its site gave a counted grant of the epoch that it closed:
-- that it is prepared there, or its Done record.
use Rattle.std.proofs.Common.{◌≡◌, ◌⊎◌, inl, inr, List, ◌∷◌, ◌++◌, sym, ap, ◌∙◌, subst}
use Rattle.qc_stamp.specs.declared.stamp.Stamp.{Stamp}
use Rattle.qc_entry.specs.declared.record.Commit.{Commit as CommitRecord}
use Rattle.qc_decl.specs.declared.declaration.Declaration.{Declaration}
use Rattle.qc_decl.specs.Vocabulary.{IsAccepted}
use Rattle.qc_list.specs.Vocabulary.{In}
use Rattle.qc_list.proofs.Members.{In-first, In-second}
use Rattle.theory_machine.specs.Vocabulary.{Act, Committed, Deed, Granted, Grants, IsRun, Item, LearnsCommit, Promise}
use Rattle.theory_machine.specs.Vocabulary.{Snapshot, StateLaws, done_records, empty_site, epoch_from, site_after}
use Rattle.theory_machine.specs.Vocabulary.{state}
use Rattle.theory_machine.proofs.SnapshotGrants.{IsPast, past, tells}
use Rattle.theory_machine.proofs.Keeps.{laws}
use Rattle.theory_machine.proofs.Grants.{holds_granted}
use Rattle.theory_machine.proofs.Order.{ended, first_done_recorded, spared, stamp_of}

module _ (decl : Declaration) (accepted : IsAccepted decl) (acts : List Act) (run : IsRun decl acts) where
  state_laws : StateLaws decl (state acts)
  state_laws = laws decl acts run

  -- it is prepared, or its Done record stands
  abbrev pub TellsEnd : Granted → CommitRecord → Snapshot → Type 0
  TellsEnd g c s = ((p : Promise) × In p (site_after s.before).prepared × (p.tx ≡ g.tx))
      ⊎ In (record { tx = g.tx; stamp = c.stamp }) (done_records empty_site s.before)

  pub tells_end : (g : Granted) (c : CommitRecord) (s : Snapshot) (item : Item) → In g (state acts).counted
      → In item g.items → (state acts).status g.tx ≡ Committed c → In s (state acts).snapshots → s.site ≡ g.site
      → epoch_from 1 s.before ≡ g.epoch → TellsEnd g c s
  tells_end g c s item counted has committed taken site epoch =
      by (past decl accepted acts run g s counted (spared decl acts run g c counted committed) taken site epoch)
    where
      by : IsPast decl accepted acts run g s → TellsEnd g c s
      by p =
          let holds = holds_granted g item (state_laws.counted g counted).fresh has in
          elim (tells decl accepted acts run g s item counted has p) [
            | inl t ↦ inl (t.by, t.stands, t.its)
            | inr d ↦
                let stamp : c.stamp ≡ d.stamp = stamp_of decl acts run g.tx c committed g.site d.stamp
                (subst (λ (ds : List Deed). In (LearnsCommit g.tx d.stamp) ds)
                (sym (p.within ∙ ap (λ (ds : List Deed). ds ++ p.later) p.is))
                (In-first (LearnsCommit g.tx d.stamp) (g.before ++ Grants g.tx g.items g.view ∷ p.since) p.later
                (In-second (LearnsCommit g.tx d.stamp) g.before (Grants g.tx g.items g.view ∷ p.since)
                (inr (ended decl acts run p.since g.tx d))))) in
                inr (subst (λ (x : Stamp). In (record { tx = g.tx; stamp = x }) (done_records empty_site s.before))
                (sym stamp)
                (subst (λ (ds : List Deed). In (record { tx = g.tx; stamp = d.stamp }) (done_records empty_site ds))
                (sym p.is) (first_done_recorded g item p.since holds d)))
          ]

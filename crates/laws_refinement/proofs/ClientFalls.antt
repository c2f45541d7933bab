-- A client falls: what it ran is given up, unless its record was being written.
use Rattle.std.proofs.Common.{◌≡◌, ◌≢◌, ◌<◌, ℕ, ◌+◌, ◌-◌, Bool, true, false, ◌⊎◌, inl, inr, List, [], ◌∷◌, Option, Some}
use Rattle.std.proofs.Common.{None, refl, sym, ◌∙◌, subst, arith}
use Rattle.qc_stamp.specs.declared.stamp.TxId.{TxId}
use Rattle.qc_stamp.specs.Vocabulary.{same_tx}
use Rattle.qc_stamp.proofs.Orders.{same_tx_is}
use Rattle.qc_list.specs.Vocabulary.{In}
use Rattle.qc_entry.specs.declared.record.Commit.{Commit as CommitRecord}
use Rattle.qc_decl.specs.declared.declaration.Declaration.{Declaration}
use Rattle.qc_decl.specs.Vocabulary.{client_actor, is_client}
use Rattle.qc_msg.specs.declared.record.Record.{Record}
use Rattle.qc_msg.specs.declared.record.Record.TheVariants as records
use Rattle.theory_machine.specs.Vocabulary.{Abort, Aborted, Act, IsRun, MayCommit, NotBegun, State, put, state}
use Rattle.theory_machine.proofs.Keeps.{laws}
use Rattle.theory_machine.proofs.Names.{put_here}
use Rattle.qc_commit.specs.Vocabulary.{record_of}
use Rattle.qc_front.specs.declared.transaction.Transaction.{Transaction}
use Rattle.qc_client.specs.declared.client.Client.{Client}
use Rattle.qc_recover.specs.Clients.{Kept, kept_by}
use Rattle.laws_refinement.specs.Vocabulary.{ClientMirrors, FallenMirrors, IsClientKeptBy, IsPlanned, Net, OwnMirrors}
use Rattle.laws_refinement.specs.Vocabulary.{Refines, after_fall}
use Rattle.laws_refinement.proofs.ClientEnding.{Ending, ending_of, ends_mine, own_put, mid_abort}
use Rattle.laws_refinement.proofs.ClientSteps.{Mid, mid_first}
use Rattle.laws_refinement.proofs.Machine.{put_other}
use Rattle.laws_refinement.proofs.Nets.{AtClient, Settles, client_net}
use Rattle.laws_refinement.proofs.ClientRecords.{ArePassed, passed}

module _ (decl : Declaration) (planned : IsPlanned decl 1) where
  -- the client that is down, by what it was
  own_fallen : (v : State) (a : ℕ) (c : Client) (k : Kept) → OwnMirrors decl v a c None → IsClientKeptBy c k
      → ArePassed k → FallenMirrors v c.front.client k None
  own_fallen v a c k own kept low = record {
    to_come = λ t its later. own.lives_to_come t its (subst (λ (n : ℕ). n < t.life) (sym kept.life) later);
    committed = λ r among. own.committed r (kept.commits r among);
    passed = low;
    ended = λ t its born none. inl (own.aborted t its born refl (kept.none t none));
    pends = tt;
  }

  -- and with its record pending
  pub own_pending : (v : State) (a : ℕ) (c : Client) (t : Transaction) (k : Kept) (r : CommitRecord)
      → OwnMirrors decl v a c (Some t) → IsClientKeptBy c k → ArePassed k → MayCommit v r → r.tx ≡ t.begun.tx
      → r.tx.client ≡ c.front.client
      → FallenMirrors v c.front.client k (Some (records.Commit r))
  own_pending v a c t k r own kept low may its mine = record {
    to_come = λ u of later. own.lives_to_come u of (subst (λ (n : ℕ). n < u.life) (sym kept.life) later);
    committed = λ x among. own.committed x (kept.commits x among);
    passed = low;
    ended = λ u of born none. by u of born none (same_tx t.begun.tx u) refl;
    pends = (may, mine);
  }
    where
      by : (u : TxId) → u.client ≡ c.front.client → v.status u ≢ NotBegun → record_of k.commits u ≡ None → (b : Bool)
          → same_tx t.begun.tx u ≡ b → (v.status u ≡ Aborted) ⊎ (u ≡ r.tx)
      by u of born none true is = inr (sym (same_tx_is t.begun.tx u is) ∙ sym its)
      by u of born none false is = inl (own.aborted u of born is (kept.none u none))

  pub at_client : (w : State) (acts : List Act) (n : ℕ) → Mid decl w acts n → AtClient decl w (state acts) n
  at_client w acts n m = record {
    later = m.later;
    keeps = m.keeps;
    granted = m.granted;
    deeds = m.deeds;
    lives = m.alive;
  }

  module _ (net : Net) (h : Refines decl net) (a : ℕ) (client : is_client decl a ≡ true) where
    number_is : (n : ℕ) → a ≡ client_actor decl n → a - decl.sites ≡ n
    number_is n at = let e : a ≡ decl.sites + n = at in omega arith

    -- what the records show where none is new
    same_records : (acts : List Act) → IsRun decl acts → (next : Net) → next.written ≡ net.written
        → (state acts).records ≡ (state h.acts).records → Settles decl (state acts) next
    same_records acts run next same records = record {
      records = λ r among. subst (λ (rs : List CommitRecord). In r rs) (sym records)
          (h.agrees.records r (subst (λ (rs : List CommitRecord). In r rs) same among));
      written = λ r among. subst (λ (rs : List CommitRecord). In r rs) (sym same)
          (h.agrees.written r (subst (λ (rs : List CommitRecord). In r rs) records among));
      of_client = λ r among. h.agrees.of_client r (subst (λ (rs : List CommitRecord). In r rs) records among);
      settled = (laws decl acts run).writes;
    }

    falls_so : (acts : List Act) (n : ℕ) (pending : Option Record) → a ≡ client_actor decl n
        → Mid decl (state h.acts) acts n → (state acts).records ≡ (state h.acts).records
        → FallenMirrors (state acts) n (kept_by (net.records a)) pending
        → Refines decl (after_fall net a pending [])
    falls_so acts n pending at mid records fallen = record {
      acts = acts;
      run = mid.run;
      agrees = client_net decl (state h.acts) (state acts) net (after_fall net a pending []) a n [] h.agrees client at
          (record {
            sites = λ b other. refl;
            clients = λ b other. refl;
            up = λ b other. put_other net.up a false b other;
            records = λ b other. refl;
            pending = λ b other. put_other net.pending a pending b other;
            admin = λ other. refl;
            mail = refl;
          })
          (at_client (state h.acts) acts n mid)
          (record {
            mirrors = λ u. absurd (let e : put net.up a false a ≡ false = put_here net.up a false in
                let never : ⊥ = cc in never);
            fallen = λ d. subst (λ (o : Option Record). FallenMirrors (state acts) (a - decl.sites)
                (kept_by (net.records a)) o) (sym (put_here net.pending a pending))
                (subst (λ (x : ℕ). FallenMirrors (state acts) x (kept_by (net.records a)) pending)
                (sym (number_is n at)) fallen);
          })
          (same_records acts mid.run (after_fall net a pending []) refl records)
          (λ p never. absurd never);
    }

    -- it falls: what it ran is given up
    pub client_falls : net.up a ≡ true → IsClientKeptBy (net.clients a) (kept_by (net.records a))
        → Refines decl (after_fall net a None [])
    client_falls up kept = by (net.clients a).front.transaction refl
      where
        m : ClientMirrors decl (state h.acts) net.mail a (net.clients a)
        m = h.agrees.clients a client up

        n : ℕ
        n = (net.clients a).front.client

        by : (o : Option Transaction) → (net.clients a).front.transaction ≡ o → Refines decl (after_fall net a None [])
        by None is = falls_so h.acts n None m.own.actor (mid_first decl h.acts n h.run) refl
            (own_fallen (state h.acts) a (net.clients a) (kept_by (net.records a))
            (subst (λ (o : Option Transaction). OwnMirrors decl (state h.acts) a (net.clients a) o) is m.own) kept
            (passed (net.records a)))
        by (Some t) is =
            let e : Ending decl (state h.acts) a (net.clients a) t =
            (ending_of decl (state h.acts) net.mail a (net.clients a) t m is).0 in
            falls_so (Abort t.begun.tx ∷ h.acts) n None m.own.actor
            (mid_abort decl (state h.acts) h.acts n (mid_first decl h.acts n h.run) t.begun.tx
            (ends_mine decl (state h.acts) a (net.clients a) t e) e.live) refl
            (own_fallen (state (Abort t.begun.tx ∷ h.acts)) a (net.clients a) (kept_by (net.records a))
            (own_put decl (state h.acts) (state (Abort t.begun.tx ∷ h.acts)) a (net.clients a)
            (net.clients a) t Aborted None e refl
            (record {
              client = refl;
              life = refl;
              count = refl;
              epoch = e.own.epoch;
              desk = refl;
              desk_epoch = e.own.desk_epoch;
            }) e.own.clock (λ r among. inl among) (λ u same other none. refl)
            (λ u none. none))
            kept (passed (net.records a)))

    -- it falls as it writes its record
    pub client_fails : (acts : List Act) (c : Client) (t : Transaction) (r : CommitRecord)
        → a ≡ client_actor decl c.front.client → Mid decl (state h.acts) acts c.front.client
        → (state acts).records ≡ (state h.acts).records
        → OwnMirrors decl (state acts) a c (Some t) → IsClientKeptBy c (kept_by (net.records a))
        → MayCommit (state acts) r → r.tx ≡ t.begun.tx → r.tx.client ≡ c.front.client
        → Refines decl (after_fall net a (Some (records.Commit r)) [])
    client_fails acts c t r at mid same own kept may its mine =
        falls_so acts c.front.client (Some (records.Commit r)) at mid same
        (own_pending (state acts) a c t (kept_by (net.records a)) r own kept (passed (net.records a)) may its mine)

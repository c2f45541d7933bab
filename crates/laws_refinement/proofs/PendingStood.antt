-- A client that rises: the record that was pending stands, or its transaction aborts.
use Rattle.std.specs.Prelude.{option_to_list}
use Rattle.std.proofs.Common.{◌≡◌, ◌≢◌, ◌<◌, ℕ, ◌-◌, not, Bool, true, false, inl, inr, List, [], ◌∷◌, ◌++◌, Option}
use Rattle.std.proofs.Common.{Some, None, filter, refl, sym, ap, ◌∙◌, subst, arith}
use Rattle.std.proofs.lemmas.List.{append-nil}
use Rattle.qc_stamp.specs.declared.stamp.TxId.{TxId}
use Rattle.qc_stamp.specs.Vocabulary.{same_tx}
use Rattle.qc_stamp.proofs.Orders.{same_tx_is, same_tx_test}
use Rattle.qc_list.specs.Vocabulary.{In}
use Rattle.qc_list.proofs.Members.{In-unfiltered, In-either}
use Rattle.qc_entry.specs.declared.record.Commit.{Commit as CommitRecord}
use Rattle.qc_decl.specs.declared.declaration.Declaration.{Declaration}
use Rattle.qc_decl.specs.Vocabulary.{is_client}
use Rattle.qc_msg.specs.declared.record.Record.{Record}
use Rattle.qc_msg.specs.declared.record.Record.TheVariants as records
use Rattle.theory_machine.specs.Vocabulary.{Abort, Aborted, Act, Commit, Committed, IsLive, NotBegun, State, Voting}
use Rattle.theory_machine.specs.Vocabulary.{put_tx, state}
use Rattle.theory_machine.proofs.Names.{put_tx_here}
use Rattle.qc_commit.specs.Vocabulary.{record_of}
use Rattle.qc_recover.specs.Clients.{Kept, keeps, kept_by}
use Rattle.laws_refinement.specs.Vocabulary.{FallenMirrors, IsGivenBack, IsPendingOf, IsPlanned, Net, Refines}
use Rattle.laws_refinement.specs.Vocabulary.{commits_in}
use Rattle.laws_refinement.proofs.ClientEnding.{mid_abort, mid_commit}
use Rattle.laws_refinement.proofs.ClientSteps.{Mid, mid_first, put_tx_other}
use Rattle.laws_refinement.proofs.PendingCases.{client_pends}
use Rattle.laws_refinement.proofs.ClientRecords.{client_kept_more, found_with, passes_one}

module _ (decl : Declaration) (planned : IsPlanned decl 1) where
  module _ (net : Net) (h : Refines decl net) (a : ℕ) (client : is_client decl a ≡ true) where
    module _ (back : Option Record) (down : net.up a ≡ false) (given : IsGivenBack net a back) where
      fallen : FallenMirrors (state h.acts) (a - decl.sites) (kept_by (net.records a)) (net.pending a)
      fallen = h.agrees.fallen a client down

      -- the machine once it is known whether the pending record stands
      pub record Stood : Type 0 where
        pub acts : List Act
        pub mid : Mid decl (state h.acts) acts (a - decl.sites)
        pub fallen : FallenMirrors (state acts) (a - decl.sites) (kept_by (net.records a ++ option_to_list back)) None
        pub records : (state acts).records ≡ commits_in back ++ (state h.acts).records

      -- nothing was pending, or it was the record of a rise
      as_it_was : (k : Kept) (o : Option Record) → FallenMirrors (state h.acts) (a - decl.sites) k o
          → ((t : TxId) → IsPendingOf t o → ⊥) → FallenMirrors (state h.acts) (a - decl.sites) k None
      as_it_was k o f none = record {
        to_come = f.to_come;
        committed = f.committed;
        passed = f.passed;
        ended =
            λ t its born unrecorded. elim (f.ended t its born unrecorded)
            [ inl dead ↦ inl dead | inr waits ↦ absurd (none t waits) ];
        pends = tt;
      }

      -- the record doesn't stand: its transaction aborts
      not_stood : (r : CommitRecord)
          → FallenMirrors (state h.acts) (a - decl.sites) (kept_by (net.records a)) (Some (records.Commit r))
          → back ≡ None → Stood
      not_stood r f none = record {
        acts = Abort r.tx ∷ h.acts;
        mid =
            mid_abort decl (state h.acts) h.acts (a - decl.sites) (mid_first decl h.acts (a - decl.sites) h.run) r.tx
            f.pends.1 (subst IsLive (sym f.pends.0.voting) tt);
        fallen =
            subst (λ (o : Option Record). FallenMirrors (state (Abort r.tx ∷ h.acts)) (a - decl.sites)
            (kept_by (net.records a ++ option_to_list o)) None) (sym none)
            (subst
            (λ (rs : List Record). FallenMirrors (state (Abort r.tx ∷ h.acts)) (a - decl.sites) (kept_by rs) None)
            (sym (append-nil (net.records a))) (record {
              to_come =
                  λ t its later. other_status t
                  (λ same. unborn t its later (ap (state h.acts).status same ∙ f.pends.0.voting))
                  ∙ f.to_come t its later;
              committed =
                  λ x among. (
                    (f.committed x among).0,
                    other_status x.tx
                        (λ same. (let e : Committed x ≡ Voting =
                        sym (f.committed x among).1 ∙ ap (state h.acts).status same ∙ f.pends.0.voting in
                        let never : ⊥ = cc in never)) ∙ (f.committed x among).1,
                  );
              passed = f.passed;
              ended = λ t its born unrecorded. inl (by t its born unrecorded (same_tx t r.tx) refl);
              pends = tt;
            }));
        records =
            subst (λ (o : Option Record). (state h.acts).records ≡ commits_in o ++ (state h.acts).records) (sym none)
            refl;
      }
        where
          other_status : (t : TxId) → t ≢ r.tx → put_tx (state h.acts).status r.tx Aborted t ≡ (state h.acts).status t
          other_status t other = put_tx_other (state h.acts).status r.tx Aborted t other

          unborn : (t : TxId) → t.client ≡ a - decl.sites → (kept_by (net.records a)).life < t.life
              → (state h.acts).status t ≡ Voting → ⊥
          unborn t its later e =
              let k : NotBegun ≡ Voting = sym (f.to_come t its later) ∙ e in
              let never : ⊥ = cc in never

          by : (t : TxId) → t.client ≡ a - decl.sites → put_tx (state h.acts).status r.tx Aborted t ≢ NotBegun
              → record_of (kept_by (net.records a)).commits t ≡ None → (b : Bool) → same_tx t r.tx ≡ b
              → put_tx (state h.acts).status r.tx Aborted t ≡ Aborted
          by t its born unrecorded true is =
              subst (λ (u : TxId). put_tx (state h.acts).status r.tx Aborted u ≡ Aborted) (sym (same_tx_is t r.tx is))
              (put_tx_here (state h.acts).status r.tx Aborted)
          by t its born unrecorded false is =
              let other : t ≢ r.tx =
              (λ same. (let k : same_tx t r.tx ≡ true = same_tx_test t r.tx same in let never : ⊥ = cc in never)) in
              elim (f.ended t its (λ e. born (other_status t other ∙ e)) unrecorded) [
                | inl dead ↦ other_status t other ∙ dead
                | inr same ↦ absurd (other same)
              ]

      -- it stands: its transaction commits
      stands_so : (r : CommitRecord)
          → FallenMirrors (state h.acts) (a - decl.sites) (kept_by (net.records a)) (Some (records.Commit r))
          → back ≡ Some (records.Commit r) → Stood
      stands_so r f some = record {
        acts = Commit r ∷ h.acts;
        mid =
            mid_commit decl (state h.acts) h.acts (a - decl.sites) (mid_first decl h.acts (a - decl.sites) h.run) r
            f.pends.1 f.pends.0;
        fallen =
            subst (λ (o : Option Record). FallenMirrors (state (Commit r ∷ h.acts)) (a - decl.sites)
            (kept_by (net.records a ++ option_to_list o)) None) (sym some)
            (subst (λ (k : Kept). FallenMirrors (state (Commit r ∷ h.acts)) (a - decl.sites) k None)
            (sym (client_kept_more (net.records a) (records.Commit r))) (record {
              to_come =
                  λ t its later. other_status t
                  (λ same. (let k : NotBegun ≡ Voting =
                  sym (f.to_come t its later) ∙ ap (state h.acts).status same ∙ f.pends.0.voting in
                  let never : ⊥ = cc in never)) ∙ f.to_come t its later;
              committed =
                  λ x among. elim (In-either x
                  (filter (λ (y : CommitRecord). not (same_tx y.tx r.tx)) (kept_by (net.records a)).commits) (r ∷ [])
                  among) [
                    | inl old ↦
                        old_one x
                        (In-unfiltered (λ (y : CommitRecord). not (same_tx y.tx r.tx)) x
                        (kept_by (net.records a)).commits old)
                    | inr new ↦ elim new [
                      | inl same ↦ (
                        ap (λ (y : CommitRecord). y.tx.client) same ∙ f.pends.1,
                        ap (λ (y : CommitRecord). put_tx (state h.acts).status r.tx (Committed r) y.tx) same
                            ∙ put_tx_here (state h.acts).status r.tx (Committed r) ∙ ap Committed (sym same),
                      )
                      | inr never ↦ absurd never
                    ]
                  ];
              passed = passes_one (kept_by (net.records a)) (records.Commit r) f.passed;
              ended = λ t its born unrecorded.
                  (let d : (record_of (kept_by (net.records a)).commits t ≡ None) × (same_tx r.tx t ≡ false) =
                  found_with (kept_by (net.records a)).commits r t unrecorded in
                  let other : t ≢ r.tx =
                  (λ same. (let k : same_tx r.tx t ≡ true = same_tx_test r.tx t (sym same) in
                  let never : ⊥ = cc in never)) in
                  elim (f.ended t its (λ e. born (other_status t other ∙ e)) d.0) [
                    | inl dead ↦ inl (other_status t other ∙ dead)
                    | inr same ↦ absurd (other same)
                  ]);
              pends = tt;
            }));
        records =
            subst (λ (o : Option Record). r ∷ (state h.acts).records ≡ commits_in o ++ (state h.acts).records)
            (sym some) refl;
      }
        where
          other_status : (t : TxId) → t ≢ r.tx
              → put_tx (state h.acts).status r.tx (Committed r) t ≡ (state h.acts).status t
          other_status t other = put_tx_other (state h.acts).status r.tx (Committed r) t other

          old_one : (x : CommitRecord) → In x (kept_by (net.records a)).commits
              → (x.tx.client ≡ a - decl.sites) × (put_tx (state h.acts).status r.tx (Committed r) x.tx ≡ Committed x)
          old_one x among = (
            (f.committed x among).0,
            other_status x.tx
                (λ same. (let e : Committed x ≡ Voting =
                sym (f.committed x among).1 ∙ ap (state h.acts).status same ∙ f.pends.0.voting in
                let never : ⊥ = cc in never)) ∙ (f.committed x among).1,
          )

      nothing_new : (o : Option Record) → FallenMirrors (state h.acts) (a - decl.sites) (kept_by (net.records a)) o
          → ((t : TxId) → IsPendingOf t o → ⊥) → back ≡ None → Stood
      nothing_new o f none is = record {
        acts = h.acts;
        mid = mid_first decl h.acts (a - decl.sites) h.run;
        fallen =
            subst (λ (o : Option Record). FallenMirrors (state h.acts) (a - decl.sites)
            (kept_by (net.records a ++ option_to_list o)) None) (sym is)
            (subst (λ (rs : List Record). FallenMirrors (state h.acts) (a - decl.sites) (kept_by rs) None)
            (sym (append-nil (net.records a))) (as_it_was (kept_by (net.records a)) o f none));
        records = subst (λ (o : Option Record). (state h.acts).records ≡ commits_in o ++ (state h.acts).records)
            (sym is) refl;
      }

      -- the record of a rise that came to stand begins another life
      a_life : FallenMirrors (state h.acts) (a - decl.sites) (kept_by (net.records a)) (Some records.Life)
          → back ≡ Some records.Life → Stood
      a_life f is = record {
        acts = h.acts;
        mid = mid_first decl h.acts (a - decl.sites) h.run;
        fallen =
            subst (λ (o : Option Record). FallenMirrors (state h.acts) (a - decl.sites)
            (kept_by (net.records a ++ option_to_list o)) None) (sym is)
            (subst (λ (k : Kept). FallenMirrors (state h.acts) (a - decl.sites) k None)
            (sym (client_kept_more (net.records a) records.Life))
            (next_life (state h.acts) (kept_by (net.records a))
            (as_it_was (kept_by (net.records a)) (Some records.Life) f (λ t never. never))));
        records = subst (λ (o : Option Record). (state h.acts).records ≡ commits_in o ++ (state h.acts).records)
            (sym is) refl;
      }
        where
          next_life : (v : State) (k : Kept) → FallenMirrors v (a - decl.sites) k None
              → FallenMirrors v (a - decl.sites) (keeps k records.Life) None
          next_life v k f =
              record {
                to_come = λ t its later. f.to_come t its (omega arith);
                committed = f.committed;
                passed = f.passed;
                ended = f.ended;
                pends = tt;
              }

      pub stood : Stood
      stood = client_pends (state h.acts) (a - decl.sites) (λ (o : Option Record). net.pending a ≡ o
          → FallenMirrors (state h.acts) (a - decl.sites) (kept_by (net.records a)) o → Stood)
          (λ is f. nothing_new None f (λ t h. h) (elim given [ inl none ↦ none | inr same ↦ same ∙ is ]))
          (λ is f. elim given [ inl n ↦ nothing_new (Some records.Life) f (λ t h. h) n | inr e ↦ a_life f (e ∙ is) ])
          (λ r may is f. elim given [ inl none ↦ not_stood r f none | inr same ↦ stands_so r f (same ∙ is) ])
          (net.pending a) fallen.pends refl fallen

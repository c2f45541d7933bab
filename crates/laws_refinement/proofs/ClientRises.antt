-- A client rises past its records, once its pending record stands or its transaction aborts.
use Rattle.std.specs.Prelude.{option_to_list}
use Rattle.std.proofs.Common.{◌≡◌, ◌≢◌, ◌≤◌, ℕ, ◌-◌, true, false, ◌⊎◌, inl, inr, List, [], ◌∷◌, ◌++◌, Option, Some}
use Rattle.std.proofs.Common.{None, refl, sym, ap, ◌∙◌, subst, arith}
use Rattle.std.proofs.lemmas.List.{append-nil}
use Rattle.qc_stamp.specs.declared.stamp.TxId.{TxId}
use Rattle.qc_list.specs.Vocabulary.{In}
use Rattle.qc_list.proofs.Members.{In-first, In-second, In-either}
use Rattle.qc_entry.specs.declared.record.Commit.{Commit as CommitRecord}
use Rattle.qc_decl.specs.declared.declaration.Declaration.{Declaration}
use Rattle.qc_decl.specs.Vocabulary.{client_actor, is_client}
use Rattle.qc_msg.specs.declared.record.Record.{Record}
use Rattle.qc_msg.specs.declared.record.Record.TheVariants as records
use Rattle.theory_machine.specs.Vocabulary.{Aborted, Act, Active, Committed, HasRecord, IsLive, IsRun, NotBegun}
use Rattle.theory_machine.specs.Vocabulary.{Pending, RiseClient, State, Status, Voting, put, state}
use Rattle.theory_machine.proofs.Keeps.{laws}
use Rattle.theory_machine.proofs.Names.{put_here}
use Rattle.qc_commit.specs.Vocabulary.{record_of}
use Rattle.qc_client.specs.declared.client.Client.{Client}
use Rattle.qc_recover.specs.Vocabulary.{client_by, client_rises}
use Rattle.qc_recover.specs.Clients.{Kept, keeps, kept_by}
use Rattle.laws_refinement.specs.Vocabulary.{ClientMirrors, FallenMirrors, IsGivenBack, IsPlanned, Net, Refines}
use Rattle.laws_refinement.specs.Vocabulary.{after_client_rise, after_vain_rise, commits_in}
use Rattle.laws_refinement.proofs.ClientSteps.{Mid, mid_more}
use Rattle.laws_refinement.proofs.Kepts.{client_place}
use Rattle.laws_refinement.proofs.Machine.{put_other}
use Rattle.laws_refinement.proofs.Nets.{Settles, client_net}
use Rattle.laws_refinement.proofs.ClientRecords.{client_kept_more, find_some}
use Rattle.laws_refinement.proofs.ClientFalls.{at_client}
use Rattle.laws_refinement.proofs.PendingStood as pending
use Rattle.laws_refinement.proofs.Lives.{same_or}

module _ (decl : Declaration) (planned : IsPlanned decl 1) where
  module _ (net : Net) (h : Refines decl net) (a : ℕ) (client : is_client decl a ≡ true) where
    module _ (back : Option Record) (down : net.up a ≡ false) (given : IsGivenBack net a back) where
      at : a ≡ client_actor decl (a - decl.sites)
      at = client_place decl a client

      stood : pending.Stood decl planned net h a client back down given
      stood = pending.stood decl planned net h a client back down given

      -- what is written is the machine's
      settles : (acts : List Act) → IsRun decl acts → (next : Net)
          → next.written ≡ net.written ++ commits_in back
          → (state acts).records ≡ commits_in back ++ (state h.acts).records
          → ((t : TxId) (r : CommitRecord) → t.client ≢ a - decl.sites
          → (state acts).status t ≡ (state h.acts).status t) → Settles decl (state acts) next
      settles acts run next same records others = record {
        records = λ r among. subst (λ (rs : List CommitRecord). In r rs) (sym records)
            (elim (In-either r net.written (commits_in back) (subst (λ (rs : List CommitRecord). In r rs) same among)) [
              | inl old ↦ In-second r (commits_in back) (state h.acts).records (h.agrees.records r old)
              | inr new ↦ In-first r (commits_in back) (state h.acts).records new
            ]);
        written = λ r among. subst (λ (rs : List CommitRecord). In r rs) (sym same)
            (elim (In-either r (commits_in back) (state h.acts).records
            (subst (λ (rs : List CommitRecord). In r rs) records among)) [
              | inl new ↦ In-second r net.written (commits_in back) new
              | inr old ↦ In-first r net.written (commits_in back) (h.agrees.written r old)
            ]);
        of_client = λ r among. of_client r among (same_or r.tx.client (a - decl.sites));
        settled = (laws decl acts run).writes;
      }
        where
          of_client : (r : CommitRecord) → In r (state acts).records
              → (r.tx.client ≡ a - decl.sites) ⊎ (r.tx.client ≢ a - decl.sites)
              → is_client decl (client_actor decl r.tx.client) ≡ true
          of_client r among (inl mine) =
              subst (λ (x : ℕ). is_client decl x ≡ true)
              (client_place decl a client ∙ ap (client_actor decl) (sym mine)) client
          of_client r among (inr other) =
              h.agrees.of_client r
              (h.agrees.settled r.tx r (sym (others r.tx r other) ∙ (laws decl acts run).written r among))

      -- it rises, and falls before the record of that stands
      pub client_rises_in_vain : Refines decl (after_vain_rise net a back)
      client_rises_in_vain = record {
        acts = stood.acts;
        run = stood.mid.run;
        agrees =
            client_net decl (state h.acts) (state stood.acts) net (after_vain_rise net a back) a (a - decl.sites) []
            h.agrees client at
            (record {
              sites = λ b other. refl;
              clients = λ b other. refl;
              up = λ b other. refl;
              records = λ b other. put_other net.records a (net.records a ++ option_to_list back) b other;
              pending = λ b other. put_other net.pending a (Some records.Life) b other;
              admin = λ other. refl;
              mail = sym (append-nil net.mail);
            })
            (at_client decl planned (state h.acts) stood.acts (a - decl.sites) stood.mid)
            (record {
              mirrors = λ u. absurd (let e : net.up a ≡ false = down in let never : ⊥ = cc in never);
              fallen =
                  λ d. subst (λ (o : Option Record). FallenMirrors (state stood.acts) (a - decl.sites)
                  (kept_by (put net.records a (net.records a ++ option_to_list back) a)) o)
                  (sym (put_here net.pending a (Some records.Life)))
                  (subst (λ (rs : List Record). FallenMirrors (state stood.acts) (a - decl.sites) (kept_by rs)
                  (Some records.Life)) (sym (put_here net.records a (net.records a ++ option_to_list back)))
                  (record {
                    to_come = stood.fallen.to_come;
                    committed = stood.fallen.committed;
                    passed = stood.fallen.passed;
                    ended = λ t its born none. elim (stood.fallen.ended t its born none)
                        [ inl dead ↦ inl dead | inr never ↦ absurd never ];
                    pends = tt;
                  }));
            })
            (settles stood.acts stood.mid.run (after_vain_rise net a back) refl stood.records
            (λ t r other. (stood.mid.keeps t.client other).status t refl))
            (λ p never. absurd never);
      }

      -- it rises
      k : Kept
      k = kept_by (net.records a ++ option_to_list back)

      none_lives : (t : TxId) → t.client ≡ a - decl.sites → IsLive ((state stood.acts).status t) → ⊥
      none_lives t its live = by (record_of (kept_by (net.records a ++ option_to_list back)).commits t) refl
        where
          born : (state stood.acts).status t ≢ NotBegun
          born e = subst IsLive e live

          by : (o : Option CommitRecord) → record_of (kept_by (net.records a ++ option_to_list back)).commits t ≡ o → ⊥
          by None e = elim (stood.fallen.ended t its born e) [ inl dead ↦ subst IsLive dead live | inr never ↦ never ]
          by (Some r) e = elim (find_some (kept_by (net.records a ++ option_to_list back)).commits t (Some r) e) [
            | inl never ↦ (let none_is : ⊥ = cc in none_is)
            | inr f ↦
                (let is : (state stood.acts).status t ≡ Committed f.0 =
                ap (state stood.acts).status (sym f.2) ∙ (stood.fallen.committed f.0 f.1).1 in
                subst IsLive is live)
          ]

      has_passed : (t : TxId) (c : CommitRecord) → t.client ≡ a - decl.sites → HasRecord ((state stood.acts).status t) c
          → c.stamp.clock ≤ (kept_by (net.records a ++ option_to_list back)).clock
      has_passed t c its has = by ((state stood.acts).status t) refl has
        where
          by : (s : Status) → (state stood.acts).status t ≡ s → HasRecord s c
              → c.stamp.clock ≤ (kept_by (net.records a ++ option_to_list back)).clock
          by NotBegun is never = absurd never
          by Active is never = absurd never
          by Voting is never = absurd never
          by Aborted is never = absurd never
          by (Pending d) is same = absurd (pending_none d is)
            where
              pending_none : (d : CommitRecord) → (state stood.acts).status t ≡ Pending d → ⊥
              pending_none d e =
                  elim (find_some (kept_by (net.records a ++ option_to_list back)).commits t
                  (record_of (kept_by (net.records a ++ option_to_list back)).commits t) refl) [
                    | inl none ↦
                        elim (stood.fallen.ended t its
                        (λ x. (let y : Pending d ≡ NotBegun = sym e ∙ x in let none_is : ⊥ = cc in none_is)) none) [
                          | inl dead ↦ (let y : Pending d ≡ Aborted = sym e ∙ dead in let none_is : ⊥ = cc in none_is)
                          | inr never ↦ never
                        ]
                    | inr f ↦
                        (let y : Pending d ≡ Committed f.0 =
                        sym e ∙ ap (state stood.acts).status (sym f.2) ∙ (stood.fallen.committed f.0 f.1).1 in
                        let none_is : ⊥ = cc in none_is)
                  ]
          by (Committed d) is same =
              elim (find_some (kept_by (net.records a ++ option_to_list back)).commits t
              (record_of (kept_by (net.records a ++ option_to_list back)).commits t) refl) [
                | inl none ↦
                    elim (stood.fallen.ended t its
                    (λ x. (let y : Committed d ≡ NotBegun = sym is ∙ x in let none_is : ⊥ = cc in none_is)) none) [
                      | inl dead ↦
                          absurd
                          (let y : Committed d ≡ Aborted = sym is ∙ dead in let none_is : ⊥ = cc in none_is)
                      | inr never ↦ absurd never
                    ]
                | inr f ↦
                    (let y : Committed d ≡ Committed f.0 =
                    sym is ∙ ap (state stood.acts).status (sym f.2) ∙ (stood.fallen.committed f.0 f.1).1 in
                    let one : d ≡ f.0 = cc in
                    subst (λ (x : CommitRecord). x.stamp.clock ≤ (kept_by (net.records a ++ option_to_list back)).clock)
                    (sym one ∙ same) (stood.fallen.passed f.0 f.1))
              ]

      risen : Mid decl (state h.acts)
          (RiseClient (a - decl.sites) (kept_by (net.records a ++ option_to_list back)).clock ∷ stood.acts)
          (a - decl.sites)
      risen =
          mid_more decl (state h.acts) stood.acts (a - decl.sites)
          (RiseClient (a - decl.sites) (kept_by (net.records a ++ option_to_list back)).clock) stood.mid
          (none_lives, has_passed) tt
          (λ d other. record {
            status = λ t x. refl;
            epoch = λ t x. refl;
            executed = λ t x. refl;
            chosen = λ t x. refl;
            clock = put_other (state stood.acts).clock (a - decl.sites)
                (kept_by (net.records a ++ option_to_list back)).clock d other;
            counted = λ g its x. x;
            more = λ g x. x;
            votes = λ y x. x;
            appends = λ s x. x;
          })

      -- the client of its records
      rises_mirror : (v : State)
          → FallenMirrors v (a - decl.sites) (kept_by (net.records a ++ option_to_list back)) None
          → v.clock (a - decl.sites) ≤ (kept_by (net.records a ++ option_to_list back)).clock
          → ClientMirrors decl v net.mail a
          (client_by (a - decl.sites) (keeps (kept_by (net.records a ++ option_to_list back)) records.Life))
      rises_mirror v f clock = record {
        own = record {
          actor = at;
          desk = refl;
          epoch = planned;
          desk_epoch = planned;
          clock = clock;
          to_come = λ number later. f.to_come _ refl (omega arith);
          lives_to_come = λ t its later. f.to_come t its (omega arith);
          committed = f.committed;
          aborted =
              λ t its born other none. elim (f.ended t its born none) [ inl dead ↦ dead | inr never ↦ absurd never ];
        };
        begun = record { doing = refl; voting = refl };
      }

      pub client_rises_up : Refines decl (after_client_rise decl net a back)
      client_rises_up = record {
        acts = RiseClient (a - decl.sites) (kept_by (net.records a ++ option_to_list back)).clock ∷ stood.acts;
        run = risen.run;
        agrees =
            client_net decl (state h.acts) v net (after_client_rise decl net a back) a (a - decl.sites) [] h.agrees
            client at
            (record {
              sites = λ b other. refl;
              clients =
                  λ b other. put_other net.clients a
                  (client_rises (a - decl.sites) (net.records a ++ option_to_list back)).client b other;
              up = λ b other. put_other net.up a true b other;
              records =
                  λ b other. put_other net.records a ((net.records a ++ option_to_list back) ++ records.Life ∷ []) b
                  other;
              pending = λ b other. put_other net.pending a None b other;
              admin = λ other. refl;
              mail = sym (append-nil net.mail);
            })
            (at_client decl planned (state h.acts)
            (RiseClient (a - decl.sites) (kept_by (net.records a ++ option_to_list back)).clock ∷ stood.acts)
            (a - decl.sites) risen)
            (record {
              mirrors =
                  λ u. subst (λ (c : Client). ClientMirrors decl v net.mail a c)
                  (sym (put_here net.clients a
                  (client_rises (a - decl.sites) (net.records a ++ option_to_list back)).client))
                  (subst (λ (x : Kept). ClientMirrors decl v net.mail a (client_by (a - decl.sites) x))
                  (sym (client_kept_more (net.records a ++ option_to_list back) records.Life))
                  (rises_mirror v
                  (record {
                    to_come = stood.fallen.to_come;
                    committed = stood.fallen.committed;
                    passed = stood.fallen.passed;
                    ended = stood.fallen.ended;
                    pends = tt;
                  })
                  (let e : put (state stood.acts).clock (a - decl.sites)
                  (kept_by (net.records a ++ option_to_list back)).clock (a - decl.sites)
                  ≡ (kept_by (net.records a ++ option_to_list back)).clock =
                  put_here (state stood.acts).clock (a - decl.sites)
                  (kept_by (net.records a ++ option_to_list back)).clock in
                  omega arith)));
              fallen =
                  λ d. absurd
                  (let e : put net.up a true a ≡ true = put_here net.up a true in let never : ⊥ = cc in never);
            })
            (settles (RiseClient (a - decl.sites) (kept_by (net.records a ++ option_to_list back)).clock ∷ stood.acts)
            risen.run (after_client_rise decl net a back) refl stood.records
            (λ t r other. (stood.mid.keeps t.client other).status t refl))
            (λ p never. absurd never);
      }
        where
          v : State
          v = state (RiseClient (a - decl.sites) (kept_by (net.records a ++ option_to_list back)).clock ∷ stood.acts)

-- A site falls and rises: the machine's site rises, and what was pending at its fall came before, or never.
use Rattle.std.proofs.Common.{◌≡◌, ◌≢◌, ℕ, zero, suc, Bool, true, false, inl, inr, List, [], ◌∷◌, ◌++◌, Option, Some}
use Rattle.std.proofs.Common.{None, map, take, refl, sym, ap, ◌∙◌, subst}
use Rattle.std.specs.Prelude.{option_to_list}
use Rattle.std.proofs.lemmas.List.{append-nil}
use Rattle.qc_stamp.specs.declared.stamp.TxId.{TxId}
use Rattle.qc_list.specs.Vocabulary.{In}
use Rattle.qc_lock.specs.Vocabulary.{is_held}
use Rattle.qc_site.specs.Vocabulary.{SiteState, in_order}
use Rattle.theory_onecopy.proofs.Lists.{Mapped, map_in}
use Rattle.qc_entry.specs.declared.record.Prepared.{Prepared}
use Rattle.qc_entry.specs.declared.record.Commit.{Commit as CommitRecord}
use Rattle.qc_decl.specs.declared.declaration.Declaration.{Declaration}
use Rattle.qc_decl.specs.Vocabulary.{IsAccepted, is_site}
use Rattle.qc_msg.specs.declared.record.Record.{Record}
use Rattle.qc_msg.specs.declared.record.Record.TheVariants as records
use Rattle.qc_msg.specs.declared.turn.Posting.{Posting}
use Rattle.theory_machine.specs.Vocabulary.{Deed, NotBegun, Own, Rises, items_of, put, site_after, state}
use Rattle.theory_machine.proofs.Holdings.{held_lines_are_one_an_operation}
use Rattle.theory_machine.proofs.Names.{put_here}
use Rattle.qc_site.proofs.InOrder.{In_order_is}
use Rattle.qc_recover.specs.Vocabulary.{Kept, inquiry, keeps, kept_by, most_inquiries, site_by, site_of, site_rises}
use Rattle.laws_refinement.specs.Vocabulary.{Backed, IsGivenBack, IsKeptBy, IsPendingAt, KeptMirrors, Net, Refines}
use Rattle.laws_refinement.specs.Vocabulary.{SiteMirrors, after_fall, after_site_rise, after_vain_rise, commits_in}
use Rattle.laws_refinement.proofs.KeptLists.{kept_more}
use Rattle.laws_refinement.proofs.Machine.{put_other}
use Rattle.laws_refinement.proofs.SiteNets.{site_net}
use Rattle.laws_refinement.proofs.Risen.{risen_holders, risen_mirrors}
use Rattle.laws_refinement.proofs.PendingRecords.{SiteMid, at_both, at_first}
use Rattle.laws_refinement.proofs.PendingActs.{pending_act, rises_act, unwritten}

-- a net of which one actor's flag or place changes

put_false : (f : ℕ → Bool) (a : ℕ) → put f a false a ≡ true → ⊥
put_false f a h = let e : put f a false a ≡ false = put_here f a false in let never : ⊥ = cc in never

put_true : (f : ℕ → Bool) (a : ℕ) → put f a true a ≡ false → ⊥
put_true f a h = let e : put f a true a ≡ true = put_here f a true in let never : ⊥ = cc in never

module _ (decl : Declaration) where
  module _ (accepted : IsAccepted decl) (net : Net) (h : Refines decl net) (a : ℕ) (site : is_site decl a ≡ true) where
    -- it falls, and nothing that it told or holds is more than it was
    pub site_falls : (pending : Option Record) (sends : List Posting)
        → IsPendingAt decl (state h.acts) (kept_by (net.records a)) ((state h.acts).deeds a) pending
        → ((p : Posting) → In p sends → Backed decl (state h.acts) net.mail a p.to p.message)
        → Refines decl (after_fall net a pending sends)
    site_falls pending sends backed turn = record {
      acts = h.acts;
      run = h.run;
      agrees = site_net decl (state h.acts) (state h.acts) net (after_fall net a pending sends) a sends h.agrees site
          (record {
            sites = λ b other. refl;
            clients = λ b other. refl;
            up = λ b other. put_other net.up a false b other;
            records = λ b other. refl;
            pending = λ b other. put_other net.pending a pending b other;
            admin = λ other. refl;
            mail = refl;
          }) refl (at_first decl (state h.acts) a h.agrees.placed)
          (record {
            kept = h.agrees.kept a site;
            mirrors = λ u. absurd (put_false net.up a u);
            alike = λ u. absurd (put_false net.up a u);
            holders = λ u. absurd (put_false net.up a u);
            pends = λ d. subst (λ (o : Option Record). IsPendingAt decl (state h.acts) (kept_by (net.records a))
                ((state h.acts).deeds a) o) (sym (put_here net.pending a pending)) backed;
          }) turn;
    }

    module _ (back : Option Record) (down : net.up a ≡ false) (given : IsGivenBack net a back) where
      backed : IsPendingAt decl (state h.acts) (kept_by (net.records a)) ((state h.acts).deeds a) back
      backed = elim given [
        | inl none ↦ subst (λ (o : Option Record). IsPendingAt decl (state h.acts) (kept_by (net.records a))
            ((state h.acts).deeds a) o) (sym none) tt
        | inr same ↦ subst (λ (o : Option Record). IsPendingAt decl (state h.acts) (kept_by (net.records a))
            ((state h.acts).deeds a) o) (sym same) (h.agrees.pends a site down)
      ]

      -- its records, and with them what it is given back
      stood : SiteMid decl (state h.acts) a (kept_by (net.records a ++ option_to_list back))
      stood = by back backed
        where
          by : (o : Option Record) → IsPendingAt decl (state h.acts) (kept_by (net.records a))
              ((state h.acts).deeds a) o → SiteMid decl (state h.acts) a (kept_by (net.records a ++ option_to_list o))
          by None b = record {
            acts = h.acts;
            run = h.run;
            at = at_first decl (state h.acts) a h.agrees.placed;
            kept = subst (λ (rs : List Record). KeptMirrors decl (kept_by rs) (state h.acts).status
                ((state h.acts).life a) ((state h.acts).deeds a)) (sym (append-nil (net.records a)))
                (h.agrees.kept a site);
          }
          by (Some r) b = subst (λ (k : Kept). SiteMid decl (state h.acts) a k) (sym (kept_more (net.records a) r))
              (pending_act decl h.acts h.run h.agrees.placed a (kept_by (net.records a)) r (h.agrees.kept a site) b)

      no_commits : net.written ++ commits_in back ≡ net.written
      no_commits = ap (λ (cs : List CommitRecord). net.written ++ cs)
          (unwritten decl (state h.acts) (kept_by (net.records a)) ((state h.acts).deeds a) back backed)
          ∙ append-nil net.written

      -- it rises, and falls before the record of that stands
      pub site_rises_in_vain : Refines decl (after_vain_rise net a back)
      site_rises_in_vain = record {
        acts = stood.acts;
        run = stood.run;
        agrees = site_net decl (state h.acts) (state stood.acts) net (after_vain_rise net a back) a [] h.agrees site
            (record {
              sites = λ b other. refl;
              clients = λ b other. refl;
              up = λ b other. refl;
              records = λ b other. put_other net.records a (net.records a ++ option_to_list back) b other;
              pending = λ b other. put_other net.pending a (Some records.Life) b other;
              admin = λ other. refl;
              mail = sym (append-nil net.mail);
            }) no_commits stood.at
            (record {
              kept = subst (λ (rs : List Record). KeptMirrors decl (kept_by rs) (state stood.acts).status
                  ((state stood.acts).life a) ((state stood.acts).deeds a))
                  (sym (put_here net.records a (net.records a ++ option_to_list back))) stood.kept;
              mirrors = λ u. absurd (up_and_down u);
              alike = λ u. absurd (up_and_down u);
              holders = λ u. absurd (up_and_down u);
              pends = λ d. subst (λ (o : Option Record). IsPendingAt decl (state stood.acts)
                  (kept_by (put net.records a (net.records a ++ option_to_list back) a)) ((state stood.acts).deeds a) o)
                  (sym (put_here net.pending a (Some records.Life))) tt;
            }) (λ p never. absurd never);
      }
        where
          up_and_down : net.up a ≡ true → ⊥
          up_and_down u = let e : net.up a ≡ false = down in let never : ⊥ = cc in never

      -- it rises
      abbrev risen : SiteMid decl (state stood.acts) a
          (keeps (kept_by (net.records a ++ option_to_list back)) records.Life)
      risen = rises_act decl stood.acts stood.run stood.at.placed_at a
          (kept_by (net.records a ++ option_to_list back)) stood.kept

      deeds_then : (state risen.acts).deeds a ≡ (state stood.acts).deeds a ++ Rises ∷ []
      deeds_then = put_here (state stood.acts).deeds a ((state stood.acts).deeds a ++ Rises ∷ [])

      rises_mirror : SiteMirrors decl (site_of a ((net.records a ++ option_to_list back) ++ records.Life ∷ []))
          ((state risen.acts).deeds a) ((state risen.acts).life a)
      rises_mirror =
          subst (λ (k : Kept). SiteMirrors decl (site_by a k) ((state risen.acts).deeds a) ((state risen.acts).life a))
          (sym (kept_more (net.records a ++ option_to_list back) records.Life))
          (subst (λ (n : ℕ). SiteMirrors decl (site_by a
          (keeps (kept_by (net.records a ++ option_to_list back)) records.Life)) ((state risen.acts).deeds a) n)
          (sym (put_here (state stood.acts).life a (suc ((state stood.acts).life a))))
          (subst (λ (ds : List Deed). SiteMirrors decl
          (site_by a (keeps (kept_by (net.records a ++ option_to_list back)) records.Life)) ds
          (suc ((state stood.acts).life a))) (sym deeds_then)
          (risen_mirrors decl a (kept_by (net.records a ++ option_to_list back)) (state stood.acts).status
          ((state stood.acts).life a) ((state stood.acts).deeds a) stood.kept
          (λ t x y in_x in_y same. held_lines_are_one_an_operation decl accepted risen.acts risen.run a t x y
          (subst (λ (ds : List Deed). In (Own x) (items_of t (site_after ds).held)) (sym deeds_then) in_x)
          (subst (λ (ds : List Deed). In (Own y) (items_of t (site_after ds).held)) (sym deeds_then) in_y) same))))

      kept_then : KeptMirrors decl (kept_by ((net.records a ++ option_to_list back) ++ records.Life ∷ []))
          (state risen.acts).status ((state risen.acts).life a) ((state risen.acts).deeds a)
      kept_then = subst (λ (k : Kept). KeptMirrors decl k (state risen.acts).status ((state risen.acts).life a)
          ((state risen.acts).deeds a)) (sym (kept_more (net.records a ++ option_to_list back) records.Life)) risen.kept

      pub site_rises_up : Refines decl (after_site_rise decl net a back)
      site_rises_up = record {
        acts = risen.acts;
        run = risen.run;
        agrees = site_net decl (state h.acts) (state risen.acts) net (after_site_rise decl net a back) a
            (site_rises decl a (net.records a ++ option_to_list back)).turn.sends h.agrees site
            (record {
              sites = λ b other. put_other net.sites a
                  (site_rises decl a (net.records a ++ option_to_list back)).site b other;
              clients = λ b other. refl;
              up = λ b other. put_other net.up a true b other;
              records = λ b other. put_other net.records a
                  ((net.records a ++ option_to_list back) ++ records.Life ∷ []) b other;
              pending = λ b other. put_other net.pending a None b other;
              admin = λ other. refl;
              mail = refl;
            }) refl (at_both decl (state h.acts) (state stood.acts) (state risen.acts) a stood.at risen.at)
            (record {
              kept = subst (λ (rs : List Record). KeptMirrors decl (kept_by rs) (state risen.acts).status
                  ((state risen.acts).life a) ((state risen.acts).deeds a)) (sym here) kept_then;
              mirrors = λ u. subst (λ (s : SiteState). SiteMirrors decl s ((state risen.acts).deeds a)
                  ((state risen.acts).life a)) (sym there) rises_mirror;
              alike = λ u. subst (λ (s : SiteState). IsKeptBy s
                  (kept_by (put net.records a ((net.records a ++ option_to_list back) ++ records.Life ∷ []) a)))
                  (sym there)
                  (subst (λ (rs : List Record). IsKeptBy (site_of a
                  ((net.records a ++ option_to_list back) ++ records.Life ∷ [])) (kept_by rs)) (sym here)
                  (record { began = refl; recorded = refl; promises = λ t p e. e }));
              holders = λ u t is. risen_holders decl a
                  (kept_by ((net.records a ++ option_to_list back) ++ records.Life ∷ [])) (state risen.acts).status
                  ((state risen.acts).life a) ((state risen.acts).deeds a) kept_then t
                  (subst (λ (s : SiteState). is_held s.held t ≡ true) there is);
              pends = λ d. absurd (put_true net.up a d);
            })
            (λ p among. asks (take most_inquiries (in_order
            (map (λ (q : Prepared). q.tx) (kept_by (net.records a ++ option_to_list back)).promises))) p among
            (λ tx tx_in. begun tx
            ((In_order_is tx (map (λ (q : Prepared). q.tx)
            (kept_by (net.records a ++ option_to_list back)).promises)).0
            (first most_inquiries (in_order (map (λ (q : Prepared). q.tx)
            (kept_by (net.records a ++ option_to_list back)).promises)) tx tx_in))));
      }
        where
          here : put net.records a ((net.records a ++ option_to_list back) ++ records.Life ∷ []) a ≡
              (net.records a ++ option_to_list back) ++ records.Life ∷ []
          here = put_here net.records a ((net.records a ++ option_to_list back) ++ records.Life ∷ [])

          there : put net.sites a (site_rises decl a (net.records a ++ option_to_list back)).site a ≡ site_of a
              ((net.records a ++ option_to_list back) ++ records.Life ∷ [])
          there = put_here net.sites a (site_rises decl a (net.records a ++ option_to_list back)).site

          first : (n : ℕ) (txs : List TxId) (tx : TxId) → In tx (take n txs) → In tx txs
          first zero txs tx h = absurd h
          first (suc n) [] tx h = h
          first (suc n) (t ∷ ts) tx (inl same) = inl same
          first (suc n) (t ∷ ts) tx (inr rest) = inr (first n ts tx rest)

          begun : (tx : TxId) → In tx (map (λ (q : Prepared). q.tx)
              (kept_by (net.records a ++ option_to_list back)).promises) → (state risen.acts).status tx ≢ NotBegun
          begun tx among =
              let r : Mapped (λ (q : Prepared). q.tx) tx (kept_by (net.records a ++ option_to_list back)).promises =
              map_in (λ (q : Prepared). q.tx) tx (kept_by (net.records a ++ option_to_list back)).promises among in
              subst (λ (u : TxId). (state risen.acts).status u ≢ NotBegun) (sym r.is) (stood.kept.begun r.from r.listed)

          asks : (txs : List TxId) (p : Posting) → In p (map (inquiry decl) txs)
              → ((tx : TxId) → In tx txs → (state risen.acts).status tx ≢ NotBegun)
              → Backed decl (state risen.acts) net.mail a p.to p.message
          asks [] p among born = absurd among
          asks (tx ∷ txs) p (inl same) born = subst
              (λ (x : Posting). Backed decl (state risen.acts) net.mail a x.to x.message) (sym same)
              (refl, born tx (inl refl))
          asks (tx ∷ txs) p (inr rest) born = asks txs p rest (λ t t_in. born t (inr t_in))

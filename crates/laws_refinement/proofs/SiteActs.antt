-- What a site does for a message, as an act of the machine: it grants, votes, learns a verdict, or nothing happens.
use Rattle.std.proofs.Common.{[], ◌≡◌, ◌≢◌, ◌≤◌, ℕ, true, inl, inr, List, ◌∷◌, ◌++◌, refl, sym, ◌∙◌, subst, arith}
use Rattle.qc_stamp.specs.declared.stamp.TxId.{TxId}
use Rattle.qc_list.specs.Vocabulary.{In}
use Rattle.qc_entry.specs.declared.line.Line.{Line}
use Rattle.qc_entry.specs.declared.record.Prepared.{Prepared}
use Rattle.qc_entry.specs.Vocabulary.{IsAscending}
use Rattle.qc_decl.specs.declared.declaration.Declaration.{Declaration}
use Rattle.qc_decl.specs.Vocabulary.{is_site}
use Rattle.qc_lock.specs.declared.held.Held.{Held}
use Rattle.qc_lock.specs.Vocabulary.{held_of, is_held, without_held}
use Rattle.qc_msg.specs.declared.message.Answer.TheVariants as answers
use Rattle.qc_msg.specs.declared.message.Message.TheVariants as messages
use Rattle.qc_msg.specs.declared.message.Want.TheVariants.{Prepare}
use Rattle.qc_msg.specs.declared.turn.Posting.{Posting}
use Rattle.theory_machine.specs.Vocabulary.{Act, Deed, DoneRecord, Granted, IsRun, Learn, MayPrepare, NotBegun, Own}
use Rattle.theory_machine.specs.Vocabulary.{Prepares, Site, State, Verdict, Vote, after_act, after_deed, after_prepare}
use Rattle.theory_machine.specs.Vocabulary.{deed_of, items_of, promise_of, site_after, state, without_tx}
use Rattle.theory_machine.specs.Site as machine
use Rattle.theory_machine.proofs.Names.{put_here}
use Rattle.qc_site.specs.Vocabulary.{SiteMove, SiteState, known, prepared_of}
use Rattle.laws_refinement.specs.Vocabulary.{AreApart, AreLined, Continues, IsHeld, IsKeptBy, IsPromiseOf, IsRequest}
use Rattle.laws_refinement.specs.Vocabulary.{KeptMirrors, Mirrors, Net, SiteMirrors, after_site}
use Rattle.std.specs.Prelude.{option_to_list}
use Rattle.qc_recover.specs.Vocabulary.{kept_by}
use Rattle.laws_refinement.proofs.Held.{dropped_held}
use Rattle.laws_refinement.proofs.Machine.{IsDoneOf, LeavesEpoch, put_other}
use Rattle.laws_refinement.proofs.Nets.{site_goes}
use Rattle.laws_refinement.proofs.SiteSteps.{Stays, mirrors_more, one_answer}
use Rattle.laws_refinement.proofs.SiteGrants.{same_held, same_log, without_has, without_owns}

module _ (decl : Declaration) (acts : List Act) (net : Net) (a : ℕ) (run : IsRun decl acts)
    (m : Mirrors decl (state acts) net) (site : is_site decl a ≡ true) (up : net.up a ≡ true) where
  -- the site votes: it holds what it held
  pub votes_it : (clock from number : ℕ) (tx : TxId) (move : SiteMove) → (net.sites a).clock ≤ clock
      → IsRequest net.mail number a tx Prepare → MayPrepare ((state acts).status tx)
      → ((g : Granted) → In g (state acts).counted → g.tx ≡ tx → g.site ≡ a → g.life ≡ (net.sites a).life)
      → KeptMirrors decl (kept_by (net.records a ++ option_to_list move.turn.write)) (state acts).status
      ((state acts).life a) ((state acts).deeds a ++ Prepares tx ∷ [])
      → IsKeptBy move.site (kept_by (net.records a ++ option_to_list move.turn.write))
      → (ps : List Prepared) (rs : List Line)
      → move.site ≡ record (net.sites a) { clock = clock; prepared = ps; recorded = rs }
      → ((t : TxId)
      → IsPromiseOf
      (promise_of t
      (after_prepare tx (promise_of tx (site_after ((state acts).deeds a)).prepared)
      (site_after ((state acts).deeds a))).prepared) (prepared_of ps t)) → AreApart ps
      → AreLined ps (known (net.sites a))
      → move.turn.sends ≡ record { to = from; message = messages.Answer number (answers.Yes clock) } ∷ []
      → Continues decl acts (after_site net a move)
  votes_it clock from number tx move more request asked lived kept alike ps rs same promised apart lined sends =
      record {
        more = Vote a tx ∷ [];
        refines = record {
          run = ((asked, (λ g among its by. lived g among its by ∙ ms.life)), run);
          agrees = site_goes decl w v net a move m site up (record {
            later =
                record {
                  born = λ t h. h;
                  epoch = λ t h. refl;
                  asked = λ t h. h;
                  counted = λ x h asked. h;
                  granted = λ x h. h;
                  votes = λ x h. inr h;
                  verdicts = λ t h. h;
                  appends = λ s h. h;
                  snapshots = λ s h. h;
                  decided = λ d h. h;
                };
            keeps =
                λ c. record {
                  status = λ t h. refl;
                  epoch = λ t h. refl;
                  executed = λ t h. refl;
                  chosen = λ t h. refl;
                  clock = refl;
                  counted = λ x its h. h;
                  more = λ x h. h;
                  votes = λ x h. inr h;
                  appends = λ x h. h;
                };
            records = refl;
            placed_at = m.placed;
            kept =
                subst (λ (ds : List Deed). KeptMirrors decl (kept_by (net.records a ++ option_to_list move.turn.write))
                w.status (w.life a) ds) (sym (put_here w.deeds a (w.deeds a ++ Prepares tx ∷ []))) kept;
            alike = alike;
            here =
                subst (λ (ds : List Deed). SiteMirrors decl move.site ds (w.life a))
                (sym (put_here w.deeds a (w.deeds a ++ Prepares tx ∷ [])))
                (subst (λ (s : SiteState). SiteMirrors decl s (w.deeds a ++ Prepares tx ∷ []) (w.life a)) (sym same)
                (mirrors_more decl (w.life a) (net.sites a)
                (record (net.sites a) { clock = clock; prepared = ps; recorded = rs }) (w.deeds a) (Prepares tx) tt ms
                (record { life = refl; epoch = refl; closed_for = refl }) more
                (λ t x among. ms.held t x
                (subst (λ (h : List machine.Held). In x (items_of t h)) (same_held k tx (promise_of tx k.prepared))
                among))
                (λ t o among. subst (λ (h : List machine.Held). In (Own o) (items_of t h))
                (sym (same_held k tx (promise_of tx k.prepared))) (ms.owned t o among))
                (λ x never. absurd never)
                (λ l among.
                (let c : l.stamp.clock ≤ (net.sites a).clock =
                ms.passed l
                (subst (λ (ls : List Line). In l ls) (same_log k tx (promise_of tx k.prepared)) among) in
                omega arith))
                (λ l among. ms.log l
                (subst (λ (ls : List Line). In l ls) (same_log k tx (promise_of tx k.prepared)) among))
                (λ l among. subst (λ (ls : List Line). In l ls) (sym (same_log k tx (promise_of tx k.prepared)))
                (ms.logged l among)) ms.sorted promised apart lined));
            there = λ b other. put_other w.deeds a _ b other;
            alive = λ b other. refl;
            holders = λ t is. m.holders a t site up (subst (λ (s : SiteState). is_held s.held t ≡ true) same is);
            turn =
                λ p among. one_answer decl v net.mail a from number (answers.Yes clock)
                (record { tx = tx; request = request; vote = inl refl }) p
                (subst (λ (xs : List Posting). In p xs) sends among);
          });
        };
      }
    where
      w : State
      w = state acts

      v : State
      v = after_act (state acts) (Vote a tx)

      k : Site
      k = site_after ((state acts).deeds a)

      ms : SiteMirrors decl (net.sites a) ((state acts).deeds a) ((state acts).life a)
      ms = m.sites a site up

  -- the site takes a verdict that was announced: what the transaction holds is dropped
  pub learns_it : (clock : ℕ) (tx : TxId) (t : Verdict) (move : SiteMove) → LeavesEpoch (deed_of t)
      → In t (state acts).verdicts
      → ((s : Site) → (after_deed s (deed_of t)).held ≡ without_tx tx s.held)
      → ((x : DoneRecord) → IsDoneOf (deed_of t) x → x.stamp.clock ≤ clock)
      → KeptMirrors decl (kept_by (net.records a ++ option_to_list move.turn.write)) (state acts).status
      ((state acts).life a) ((state acts).deeds a ++ deed_of t ∷ [])
      → IsKeptBy move.site (kept_by (net.records a ++ option_to_list move.turn.write))
      → (net.sites a).clock ≤ clock → move.site.held ≡ without_held (net.sites a).held tx
      → Stays (net.sites a) move.site → move.site.clock ≡ clock → move.turn.sends ≡ []
      → ((l : Line) → In l (after_deed (site_after ((state acts).deeds a)) (deed_of t)).volatile
      → In l (known move.site))
      → ((l : Line) → In l (known move.site)
      → In l (after_deed (site_after ((state acts).deeds a)) (deed_of t)).volatile)
      →
      ((l : Line) → In l (after_deed (site_after ((state acts).deeds a)) (deed_of t)).volatile
      → l.stamp.clock ≤ clock) → IsAscending move.site.began × IsAscending move.site.log
      → ((u : TxId)
      → IsPromiseOf (promise_of u (after_deed (site_after ((state acts).deeds a)) (deed_of t)).prepared)
      (prepared_of move.site.prepared u)) → AreApart move.site.prepared
      → AreLined move.site.prepared (known move.site)
      → Continues decl acts (after_site net a move)
  learns_it clock tx t move leaves told drops done kept alike more held stays at sends log logged passed sorted promised
      apart lined = record {
        more = Learn a t ∷ [];
        refines = record {
          run = (told, run);
          agrees = site_goes decl w v net a move m site up (record {
            later =
                record {
                  born = λ u h. h;
                  epoch = λ u h. refl;
                  asked = λ u h. h;
                  counted = λ x h asked. h;
                  granted = λ x h. h;
                  votes = λ x h. h;
                  verdicts = λ x h. h;
                  appends = λ s h. h;
                  snapshots = λ s h. h;
                  decided = λ d h. h;
                };
            keeps =
                λ c. record {
                  status = λ t h. refl;
                  epoch = λ t h. refl;
                  executed = λ t h. refl;
                  chosen = λ t h. refl;
                  clock = refl;
                  counted = λ x its h. h;
                  more = λ x h. h;
                  votes = λ x h. h;
                  appends = λ x h. h;
                };
            records = refl;
            placed_at = m.placed;
            kept =
                subst (λ (ds : List Deed). KeptMirrors decl (kept_by (net.records a ++ option_to_list move.turn.write))
                w.status (w.life a) ds) (sym (put_here w.deeds a (w.deeds a ++ deed_of t ∷ []))) kept;
            alike = alike;
            here =
                subst (λ (ds : List Deed). SiteMirrors decl move.site ds (w.life a))
                (sym (put_here w.deeds a (w.deeds a ++ deed_of t ∷ [])))
                (mirrors_more decl (w.life a) (net.sites a) move.site (w.deeds a) (deed_of t) leaves ms stays
                (let c : move.site.clock ≡ clock = at in omega arith)
                (λ u x among. subst (λ (h : List Held). IsHeld (held_of h u) x) (sym held)
                (without_has (net.sites a) tx (w.deeds a) u x ms.held
                (subst (λ (h : List machine.Held). In x (items_of u h)) (drops (site_after (w.deeds a))) among)))
                (λ u o among. subst (λ (h : List machine.Held). In (Own o) (items_of u h))
                (sym (drops (site_after (w.deeds a))))
                (without_owns (net.sites a) tx (w.deeds a) u o ms.owned
                (subst (λ (h : List Held). In o (held_of h u).own) held among)))
                (λ x is. (let c : move.site.clock ≡ clock = at in
                let k : x.stamp.clock ≤ clock = done x is in omega arith))
                (λ l among. (let c : move.site.clock ≡ clock = at in
                let k : l.stamp.clock ≤ clock = passed l among in omega arith)) log logged sorted promised
                apart lined);
            there = λ b other. put_other w.deeds a _ b other;
            alive = λ b other. refl;
            holders =
                λ u is. dropped_held (λ (n : TxId). w.status n ≢ NotBegun) (net.sites a).held tx
                (λ k h. m.holders a k site up h) u (subst (λ (h : List Held). is_held h u ≡ true) held is);
            turn = λ p among. absurd (subst (λ (ps : List Posting). In p ps) sends among);
          });
        };
      }
    where
      w : State
      w = state acts

      v : State
      v = after_act (state acts) (Learn a t)

      ms : SiteMirrors decl (net.sites a) ((state acts).deeds a) ((state acts).life a)
      ms = m.sites a site up

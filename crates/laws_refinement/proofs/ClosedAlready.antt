-- What a site holds at its Close; one that has closed already tells it again.
use Rattle.std.proofs.Common.{◌≡◌, ◌≢◌, ℕ, suc, true, false, inl, inr, List, [], ◌∷◌, Option, Some, refl, sym, ap, ◌∙◌}
use Rattle.std.proofs.Common.{subst}
use Rattle.qc_stamp.specs.declared.stamp.TxId.{TxId}
use Rattle.qc_list.specs.Vocabulary.{In}
use Rattle.qc_entry.specs.declared.record.Prepared.{Prepared}
use Rattle.qc_decl.specs.declared.declaration.Declaration.{Declaration}
use Rattle.qc_decl.specs.Vocabulary.{IsAccepted, is_site}
use Rattle.qc_msg.specs.declared.message.Message.TheVariants as messages
use Rattle.theory_machine.specs.Vocabulary.{Act, Deed, IsRun, MayPrepare, NotBegun, Prepares, Snapshot, State}
use Rattle.theory_machine.specs.Vocabulary.{TakeSnapshot, after_act, promise_of, shut_from, site_after, state}
use Rattle.theory_machine.proofs.Keeps.{laws}
use Rattle.qc_site.specs.Vocabulary.{answers as answers_with, moved, prepared_of, promises_in_order, shut_answer}
use Rattle.laws_refinement.specs.Vocabulary.{Continues, IsKeptBy, IsMessage, IsPromiseOf, KeptMirrors, Mirrors, Net}
use Rattle.laws_refinement.specs.Vocabulary.{SiteMirrors, after_site}
use Rattle.laws_refinement.proofs.Apart.{apart_found, found_in, order_apart, order_found}
use Rattle.std.proofs.lemmas.List.{append-nil}
use Rattle.qc_msg.specs.declared.record.Record.{Record}
use Rattle.qc_recover.specs.Vocabulary.{kept_by}
use Rattle.laws_refinement.proofs.Nets.{site_goes}
use Rattle.laws_refinement.proofs.SiteSteps.{one_answer}
use Rattle.laws_refinement.proofs.BothPromises.{Behind, asked_begun, behind, was_asked}
use Rattle.qc_site.proofs.KnownLines.{known_ascends}

module _ (decl : Declaration) (accepted : IsAccepted decl) (acts : List Act) (net : Net) (a : ℕ) (run : IsRun decl acts)
    (m : Mirrors decl (state acts) net) (site : is_site decl a ≡ true) (up : net.up a ≡ true) where
  w : State
  w = state acts

  ms : SiteMirrors decl (net.sites a) ((state acts).deeds a) ((state acts).life a)
  ms = m.sites a site up

  pub epoch_kept : (b : ℕ) → is_site decl b ≡ true → net.up b ≡ true
      → (net.sites b).epoch ≡ (kept_by (net.records b)).epoch
  epoch_kept b is u = sym (m.sites b is u).epoch ∙ (m.kept b is).epoch

  -- what a site has promised was begun
  pub promised_begun : (q : Prepared) → In q (net.sites a).prepared → (state acts).status q.tx ≢ NotBegun
  promised_begun q among =
      let b : Behind (site_after ((state acts).deeds a)).prepared q =
      behind (site_after ((state acts).deeds a)).prepared (net.sites a).prepared q ms.promised ms.apart among in
      let may : MayPrepare ((state acts).status b.promise.tx) =
      (laws decl acts run).deeds a (Prepares b.promise.tx)
      (was_asked ((state acts).deeds a) b.promise b.stands) in
      subst (λ (t : TxId). (state acts).status t ≢ NotBegun) b.its (asked_begun ((state acts).status b.promise.tx) may)

  pub in_ordered : (q : Prepared) → In q (promises_in_order (net.sites a).prepared) → In q (net.sites a).prepared
  in_ordered q among =
      let e : prepared_of (promises_in_order (net.sites a).prepared) q.tx ≡ Some q =
      apart_found q (promises_in_order (net.sites a).prepared) (order_apart (net.sites a).prepared ms.apart)
      among in
      (found_in q.tx (net.sites a).prepared q (sym (order_found (net.sites a).prepared q.tx ms.apart) ∙ e)).0

  abbrev pub snap : List Deed → Snapshot
  snap ds = record { site = a; clock = (net.sites a).clock; before = ds }

  -- it has closed already, and tells what it has
  pub again : (from number k : ℕ) → IsMessage net.mail number a (messages.Close k) → k ≡ suc (net.sites a).epoch
      → shut_from false ((state acts).deeds a) ≡ true
      → Continues decl acts
      (after_site net a (moved (net.sites a) (answers_with from number (shut_answer (net.sites a)))))
  again from number k asked next shut = record {
    more = TakeSnapshot (snap ((state acts).deeds a)) ∷ [];
    refines = record {
      run = (
        (
          refl,
          record {
            shut = shut;
            passes_done = λ u stamp among. ms.done (record { tx = u; stamp = stamp }) among;
            passes_installs = ms.installs;
          },
        ),
        run,
      );
      agrees =
          site_goes decl (state acts) v net a
          (moved (net.sites a) (answers_with from number (shut_answer (net.sites a)))) m site up (record {
            later =
                record {
                  born = λ t h. h;
                  epoch = λ t h. refl;
                  asked = λ t h. h;
                  counted = λ x h asked. h;
                  granted = λ x h. h;
                  votes = λ x h. h;
                  verdicts = λ t h. h;
                  appends = λ s h. h;
                  snapshots = λ s h. inr h;
                  decided = λ d h. h;
                };
            keeps =
                λ c. record {
                  status = λ t h. refl;
                  epoch = λ t h. refl;
                  executed = λ t h. refl;
                  chosen = λ t h. refl;
                  clock = refl;
                  counted = λ x its h. h;
                  more = λ x h. h;
                  votes = λ x h. h;
                  appends = λ x h. h;
                };
            records = refl;
            placed_at = m.placed;
            kept =
                subst (λ (rs : List Record). KeptMirrors decl (kept_by rs) (state acts).status ((state acts).life a)
                ((state acts).deeds a)) (sym (append-nil (net.records a))) (m.kept a site);
            alike =
                subst (λ (rs : List Record). IsKeptBy (net.sites a) (kept_by rs)) (sym (append-nil (net.records a)))
                (m.alike a site up);
            here = ms;
            there = λ b other. refl;
            alive = λ b other. refl;
            holders = λ t held. m.holders a t site up held;
            turn = one_answer decl v net.mail a from number (shut_answer (net.sites a)) (record {
              epoch = k;
              asked = asked;
              told = record {
                snapshot = snap ((state acts).deeds a);
                taken = inl refl;
                of = refl;
                clock_is = refl;
                next = next ∙ ap (λ (n : ℕ). suc n) (sym ms.epoch);
                lines = ms.log;
                only = ms.logged;
                passed = λ l among. ms.passed l (ms.logged l among);
                sorted = known_ascends (net.sites a).began (net.sites a).log ms.sorted;
                promised =
                    λ t. subst (λ (o : Option Prepared). IsPromiseOf (promise_of t
                    (site_after ((state acts).deeds a)).prepared) o)
                    (sym (order_found (net.sites a).prepared t ms.apart))
                    (ms.promised t);
                apart = order_apart (net.sites a).prepared ms.apart;
                lined = λ p among l has. ms.lined p (in_ordered p among) l has;
                single = ms.single;
                begun = λ p among. promised_begun p (in_ordered p among);
              };
            });
          });
    };
  }
    where
      v : State
      v = after_act (state acts) (TakeSnapshot (snap ((state acts).deeds a)))

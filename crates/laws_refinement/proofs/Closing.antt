-- A site closes its epoch: it tells what it has, and holds just what it promised.
use Rattle.std.proofs.Common.{◌≡◌, ◌≢◌, ◌≤◌, ◌<◌, ℕ, suc, ◌+◌, nat_le, nat_lt, Bool, true, false, cond, inl, inr, List}
use Rattle.std.proofs.Common.{[], ◌∷◌, ◌++◌, Option, Some, None, is_some, refl, sym, ap, ◌∙◌, subst, ltb-false}
use Rattle.std.proofs.Common.{leb-false, arith}
use Rattle.qc_stamp.specs.declared.stamp.TxId.{TxId}
use Rattle.qc_list.specs.Vocabulary.{In}
use Rattle.qc_entry.specs.declared.line.Line.{Line}
use Rattle.qc_entry.specs.declared.record.Prepared.{Prepared}
use Rattle.qc_decl.specs.declared.declaration.Declaration.{Declaration}
use Rattle.qc_decl.specs.Vocabulary.{IsAccepted, is_site}
use Rattle.qc_entry.specs.declared.line.OwnLine.{OwnLine}
use Rattle.qc_lock.specs.Vocabulary.{is_held}
use Rattle.qc_msg.specs.declared.message.Answer.TheVariants as answers
use Rattle.qc_msg.specs.declared.message.Message.TheVariants as messages
use Rattle.qc_msg.specs.declared.record.Record.TheVariants as records
use Rattle.theory_machine.specs.Vocabulary.{Act, Close, Closes, Deed, DoneRecord, Installs, IsRun, NotBegun, Own, Site}
use Rattle.theory_machine.specs.Vocabulary.{State, TakeSnapshot, after_act, done_records, empty_site, held_by_promises}
use Rattle.theory_machine.specs.Vocabulary.{items_of, promise_of, shut_from, site_after, state}
use Rattle.theory_machine.proofs.Holdings.{held_lines_are_one_an_operation}
use Rattle.theory_machine.proofs.Names.{put_here}
use Rattle.qc_site.specs.Vocabulary.{answers as answers_with, closed, closes, held_by, is_closed_for, moved}
use Rattle.qc_site.specs.Vocabulary.{prepared_of, recording, shut_answer}
use Rattle.laws_refinement.specs.Vocabulary.{Continues, IsKeptBy, IsMessage, IsPlanned, IsPromiseOf, KeptMirrors}
use Rattle.laws_refinement.specs.Vocabulary.{Mirrors, Net, SiteMirrors, after_site}
use Rattle.laws_refinement.proofs.Apart.{order_apart, order_found}
use Rattle.qc_recover.specs.Vocabulary.{Kept, kept_by}
use Rattle.laws_refinement.proofs.KeptLists.{kept_more}
use Rattle.laws_refinement.proofs.KeptSteps.{kept_closes}
use Rattle.laws_refinement.proofs.Machine.{done_last, put_other, single_more, site_more}
use Rattle.laws_refinement.proofs.Nets.{site_goes}
use Rattle.laws_refinement.proofs.SiteGrants.{says}
use Rattle.laws_refinement.proofs.SiteSteps.{one_answer}
use Rattle.laws_refinement.proofs.HeldByPromises.{by_promises_held, by_promises_holder, by_promises_owned}
use Rattle.qc_site.proofs.KnownLines.{known_ascends}
use Rattle.laws_refinement.proofs.ClosedAlready.{again, epoch_kept, in_ordered, promised_begun, snap}
use Rattle.theory_machine.proofs.Epochs.{epoch-append, shut-append}
use Rattle.qc_list.proofs.Members.{In-either}

module _ (decl : Declaration) (accepted : IsAccepted decl) (acts : List Act) (net : Net) (a : ℕ) (run : IsRun decl acts)
    (m : Mirrors decl (state acts) net) (site : is_site decl a ≡ true) (up : net.up a ≡ true) where
  ms : SiteMirrors decl (net.sites a) ((state acts).deeds a) ((state acts).life a)
  ms = m.sites a site up

  -- it closes, and tells what it has
  shuts : (from number k : ℕ) → IsMessage net.mail number a (messages.Close k) → IsPlanned decl k
      → k ≡ suc (net.sites a).epoch
      → Continues decl acts
      (after_site net a
      (moved (closed (net.sites a) k)
      (recording from number (records.Close k) (shut_answer (closed (net.sites a) k)))))
  shuts from number k asked planned next = record {
    more = TakeSnapshot (snap decl accepted acts net a run m site up more) ∷ Close a ∷ [];
    refines = record {
      run = (
        (
          sym (put_here (state acts).deeds a more),
          record {
            shut = shut;
            passes_done = λ u stamp among. passes (record { tx = u; stamp = stamp }) among;
            passes_installs = passes_installs;
          },
        ),
        (tt, run),
      );
      agrees =
          site_goes decl (state acts) v net a
          (moved (closed (net.sites a) k)
          (recording from number (records.Close k) (shut_answer (closed (net.sites a) k)))) m site up (record {
            later =
                record {
                  born = λ t h. h;
                  epoch = λ t h. refl;
                  asked = λ t h. h;
                  counted = λ x h asked. h;
                  granted = λ x h. h;
                  votes = λ x h. h;
                  verdicts = λ t h. h;
                  appends = λ s h. h;
                  snapshots = λ s h. inr h;
                  decided = λ d h. h;
                };
            keeps =
                λ c. record {
                  status = λ t h. refl;
                  epoch = λ t h. refl;
                  executed = λ t h. refl;
                  chosen = λ t h. refl;
                  clock = refl;
                  counted = λ x its h. h;
                  more = λ x h. h;
                  votes = λ x h. h;
                  appends = λ x h. h;
                };
            records = refl;
            placed_at = m.placed;
            kept =
                subst (λ (n : ℕ). KeptMirrors decl (kept_by (net.records a ++ records.Close k ∷ [])) (state acts).status
                n (v.deeds a)) (sym (put_here (state acts).life a (suc ((state acts).life a))))
                (subst (λ (ds : List Deed). KeptMirrors decl (kept_by (net.records a ++ records.Close k ∷ []))
                (state acts).status (suc ((state acts).life a)) ds) (sym (put_here (state acts).deeds a more))
                (subst (λ (x : Kept). KeptMirrors decl x (state acts).status (suc ((state acts).life a))
                ((state acts).deeds a ++ Closes ∷ [])) (sym (kept_more (net.records a) (records.Close k)))
                (kept_closes decl (kept_by (net.records a)) (state acts).status ((state acts).life a)
                ((state acts).deeds a) k (m.kept a site) (
                  next ∙ ap (λ (n : ℕ). suc n) (epoch_kept decl accepted acts net a run m site up a site up),
                  planned,
                ))));
            alike =
                subst (λ (x : Kept). IsKeptBy (closed (net.sites a) k) x)
                (sym (kept_more (net.records a) (records.Close k)))
                (record {
                  began = (m.alike a site up).began;
                  recorded = (m.alike a site up).recorded;
                  promises = (m.alike a site up).promises;
                });
            here =
                subst (λ (n : ℕ). SiteMirrors decl (closed (net.sites a) k) (v.deeds a) n)
                (sym (put_here (state acts).life a (suc ((state acts).life a))))
                (subst (λ (ds : List Deed). SiteMirrors decl (closed (net.sites a) k) ds (suc ((state acts).life a)))
                (sym (put_here (state acts).deeds a more)) here);
            there = λ b other. put_other (state acts).deeds a more b other;
            alive = λ b other. put_other (state acts).life a (suc ((state acts).life a)) b other;
            holders = holders;
            turn = one_answer decl v net.mail a from number (shut_answer (closed (net.sites a) k)) (record {
              epoch = k;
              asked = asked;
              told = record {
                snapshot = snap decl accepted acts net a run m site up more;
                taken = inl refl;
                of = refl;
                clock_is = refl;
                next = next ∙ ap (λ (n : ℕ). suc n) (sym here.epoch);
                lines = here.log;
                only = here.logged;
                passed = λ l among. here.passed l (here.logged l among);
                sorted = known_ascends (net.sites a).began (net.sites a).log ms.sorted;
                promised =
                    λ t. subst (λ (o : Option Prepared). IsPromiseOf (promise_of t (site_after more).prepared) o)
                    (sym (order_found (net.sites a).prepared t ms.apart)) (here.promised t);
                apart = order_apart (net.sites a).prepared ms.apart;
                lined = λ p among l has. ms.lined p (in_ordered decl accepted acts net a run m site up p among) l has;
                single = here.single;
                begun =
                    λ p among. promised_begun decl accepted acts net a run m site up p
                    (in_ordered decl accepted acts net a run m site up p among);
              };
            });
          });
    };
  }
    where
      more : List Deed
      more = (state acts).deeds a ++ Closes ∷ []

      v : State
      v =
          after_act (after_act (state acts) (Close a))
          (TakeSnapshot (snap decl accepted acts net a run m site up ((state acts).deeds a ++ Closes ∷ [])))

      k0 : Site
      k0 = site_after ((state acts).deeds a)

      shut : shut_from false more ≡ true
      shut = shut-append ((state acts).deeds a) (Closes ∷ []) false

      passes : (x : DoneRecord) → In x (done_records empty_site ((state acts).deeds a ++ Closes ∷ []))
          → x.stamp.clock ≤ (net.sites a).clock
      passes x among =
          elim (done_last ((state acts).deeds a) Closes empty_site x among)
          [ inl old ↦ ms.done x old | inr never ↦ absurd never ]

      passes_installs : (n c : ℕ) (log : List Line) → In (Installs n c log) ((state acts).deeds a ++ Closes ∷ [])
          → c ≤ (net.sites a).clock
      passes_installs n c log among = elim (In-either (Installs n c log) ((state acts).deeds a) (Closes ∷ []) among) [
        | inl old ↦ ms.installs n c log old
        | inr new ↦ elim new [ inl same ↦ absurd (let never : ⊥ = cc in never) | inr never ↦ absurd never ]
      ]

      -- own lines of one operation are one, as the machine's site has closed
      one : (t : TxId) (x y : OwnLine)
          → In (Own x) (items_of t (held_by_promises (site_after ((state acts).deeds a)).prepared))
          → In (Own y) (items_of t (held_by_promises (site_after ((state acts).deeds a)).prepared)) → x.op ≡ y.op
          → x ≡ y
      one t x y in_x in_y same =
          held_lines_are_one_an_operation decl accepted (Close a ∷ acts) (tt, run) a t x y (closed_has t x in_x)
          (closed_has t y in_y) same
        where
          closed_has : (t : TxId) (x : OwnLine)
              → In (Own x) (items_of t (held_by_promises (site_after ((state acts).deeds a)).prepared))
              → In (Own x) (items_of t (site_after ((state (Close a ∷ acts)).deeds a)).held)
          closed_has t x among =
              subst (λ (ds : List Deed). In (Own x) (items_of t (site_after ds).held))
              (sym (put_here (state acts).deeds a ((state acts).deeds a ++ Closes ∷ [])))
              (subst (λ (s : Site). In (Own x) (items_of t s.held)) (sym (site_more ((state acts).deeds a) Closes))
              among)

      here : SiteMirrors decl (closed (net.sites a) k) ((state acts).deeds a ++ Closes ∷ []) (suc ((state acts).life a))
      here = record {
        life = (let e : (net.sites a).life ≡ (state acts).life a = ms.life in omega arith);
        some = omega arith;
        epoch = epoch-append ((state acts).deeds a) (Closes ∷ []) 1 ∙ ms.epoch;
        planned = ms.planned;
        shut = shut;
        closing = (next, planned);
        held =
            λ t x among. by_promises_held (site_after ((state acts).deeds a)).prepared (net.sites a).prepared ms.single
            ms.apart ms.promised one t x
            (subst (λ (s : Site). In x (items_of t s.held)) (site_more ((state acts).deeds a) Closes) among);
        owned =
            λ t o among. subst (λ (s : Site). In (Own o) (items_of t s.held))
            (sym (site_more ((state acts).deeds a) Closes))
            (by_promises_owned (site_after ((state acts).deeds a)).prepared (net.sites a).prepared ms.single ms.apart
            ms.promised one t o among);
        installs = passes_installs;
        done = passes;
        passed =
            λ l among. ms.passed l
            (subst (λ (s : Site). In l s.volatile) (site_more ((state acts).deeds a) Closes) among);
        log =
            λ l among. ms.log l (subst (λ (s : Site). In l s.volatile) (site_more ((state acts).deeds a) Closes) among);
        logged =
            λ l among. subst (λ (s : Site). In l s.volatile) (sym (site_more ((state acts).deeds a) Closes))
            (ms.logged l among);
        sorted = ms.sorted;
        promised =
            λ t. subst (λ (s : Site). IsPromiseOf (promise_of t s.prepared) (prepared_of (net.sites a).prepared t))
            (sym (site_more ((state acts).deeds a) Closes)) (ms.promised t);
        apart = ms.apart;
        lined = ms.lined;
        single = single_more ((state acts).deeds a) Closes (λ is. (let never : ⊥ = cc in never)) ms.single;
      }

      holders : (t : TxId) → is_held (held_by (net.sites a).prepared) t ≡ true → (state acts).status t ≢ NotBegun
      holders t is =
          by_promises_holder (λ (u : TxId). (state acts).status u ≢ NotBegun) (net.sites a).prepared
          (promised_begun decl accepted acts net a run m site up) t is

  -- a Close
  pub close_case : (from number k : ℕ) → IsPlanned decl k → IsMessage net.mail number a (messages.Close k)
      → Continues decl acts (after_site net a (closes (net.sites a) from number k))
  close_case from number k planned asked =
      by (nat_lt ((net.sites a).epoch + 1) k) (nat_le k (net.sites a).epoch) (is_closed_for k (net.sites a).closed_for)
      refl refl refl
    where
      next : nat_lt ((net.sites a).epoch + 1) k ≡ false → nat_le k (net.sites a).epoch ≡ false
          → k ≡ suc (net.sites a).epoch
      next far here =
          let low : k ≤ (net.sites a).epoch + 1 = ltb-false ((net.sites a).epoch + 1) k far in
          let high : (net.sites a).epoch < k = leb-false k (net.sites a).epoch here in
          omega arith

      shut_by : (o : Option ℕ) → is_closed_for k o ≡ true → is_some o ≡ true
      shut_by None is = absurd (let never : ⊥ = cc in never)
      shut_by (Some n) is = refl

      by : (b c d : Bool) → nat_lt ((net.sites a).epoch + 1) k ≡ b → nat_le k (net.sites a).epoch ≡ c
          → is_closed_for k (net.sites a).closed_for ≡ d
          → Continues decl acts
          (after_site net a
          (cond b (moved (net.sites a) (answers_with from number (answers.Behind (net.sites a).epoch)))
          (cond c (moved (net.sites a) (answers_with from number (answers.Closed (net.sites a).epoch)))
          (cond d (moved (net.sites a) (answers_with from number (shut_answer (net.sites a))))
          (moved (closed (net.sites a) k)
          (recording from number (records.Close k) (shut_answer (closed (net.sites a) k))))))))
      by true c d p q r =
          says decl acts net a run m site up (net.sites a).clock from number (answers.Behind (net.sites a).epoch)
          (omega arith) tt
      by false true d p q r =
          says decl acts net a run m site up (net.sites a).clock from number (answers.Closed (net.sites a).epoch)
          (omega arith) ms.planned
      by false false true p q r =
          again decl accepted acts net a run m site up from number k asked (next p q)
          (ms.shut ∙ shut_by (net.sites a).closed_for r)
      by false false false p q r = shuts from number k asked planned (next p q)

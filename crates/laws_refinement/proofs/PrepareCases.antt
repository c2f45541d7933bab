-- A site takes a Prepare: it votes by the promise that it has, promises what the transaction holds, or says that it has
-- forgotten.
use Rattle.std.proofs.Common.{◌≡◌, ◌≤◌, inl, inr, ℕ, ◌∙◌, Bool, true, false, List, [], ◌∷◌, ◌++◌, Option, Some, None}
use Rattle.std.proofs.Common.{is_some, refl, ap, subst, ◌≢◌, sym}
use Rattle.qc_stamp.specs.declared.stamp.TxId.{TxId}
use Rattle.qc_stamp.specs.Vocabulary.{same_tx}
use Rattle.qc_list.specs.Vocabulary.{In}
use Rattle.qc_entry.specs.declared.record.Prepared.{Prepared}
use Rattle.qc_entry.specs.declared.line.Line.{Line}
use Rattle.qc_entry.specs.Vocabulary.{union}
use Rattle.qc_decl.specs.declared.declaration.Declaration.{Declaration}
use Rattle.qc_decl.specs.Vocabulary.{IsAccepted, is_site}
use Rattle.qc_lock.specs.Vocabulary.{held_of}
use Rattle.qc_msg.specs.declared.message.Want.TheVariants.{Prepare}
use Rattle.theory_machine.specs.Vocabulary.{Act, Granted, IsRun, Item, Lock, MayPrepare, NotBegun, Own, Prepares}
use Rattle.theory_machine.specs.Vocabulary.{Promise, Site, after_prepare, items_of, promise_of, site_after, state}
use Rattle.qc_site.specs.Vocabulary.{SiteMove, answers as answers_with, is_prepared, known, moved, prepared_of}
use Rattle.qc_site.specs.Vocabulary.{prepares, promised, votes, without_prepared}
use Rattle.qc_site.proofs.RequestCases.{prepare_cases}
use Rattle.laws_refinement.specs.Vocabulary.{AreLined, Continues, IsHeld, IsKeptBy, IsPromiseOf, IsPromised, IsRequest}
use Rattle.laws_refinement.specs.Vocabulary.{KeptMirrors, Mirrors, Net, SiteMirrors, after_site}
use Rattle.laws_refinement.proofs.Apart.{apart_more}
use Rattle.laws_refinement.proofs.Promises.{more_promise, found_last, found_other}
use Rattle.laws_refinement.proofs.SiteGrants.{says}
use Rattle.laws_refinement.proofs.SiteActs.{votes_it}
use Rattle.std.proofs.lemmas.List.{append-nil}
use Rattle.qc_recover.specs.Vocabulary.{Kept, kept_by, with_promise}
use Rattle.qc_msg.specs.declared.record.Record.{Record}
use Rattle.qc_site.proofs.Sorted.{ascending-without}
use Rattle.laws_refinement.proofs.KeptLists.{kept_more}
use Rattle.laws_refinement.proofs.Known.{promised_known, unrecorded}
use Rattle.laws_refinement.proofs.KeptDeeds.{leaves_epoch, kept_prepares, kept_same}
use Rattle.qc_stamp.proofs.Orders.{same_tx_is}
use Rattle.qc_site.proofs.Votes.{prepared-without, prepared-without_other}
use Rattle.qc_msg.specs.declared.message.Answer.TheVariants as answers
use Rattle.qc_site.specs.Promise as sites
use Rattle.qc_msg.specs.declared.record.Record.TheVariants as records
use Rattle.qc_list.proofs.Members.{In-either}

module _ (decl : Declaration) (accepted : IsAccepted decl) (acts : List Act) (net : Net) (a : ℕ) (run : IsRun decl acts)
    (m : Mirrors decl (state acts) net) (site : is_site decl a ≡ true) (up : net.up a ≡ true) where
  -- a Prepare

  pub prepare_case : (clock from number : ℕ) (tx : TxId) → (net.sites a).clock ≤ clock
      → IsRequest net.mail number a tx Prepare → MayPrepare ((state acts).status tx)
      → ((g : Granted) → In g (state acts).counted → g.tx ≡ tx → g.site ≡ a → g.life ≡ (net.sites a).life)
      → Continues decl acts (after_site net a (prepares (record (net.sites a) { clock = clock }) from number tx))
  prepare_case clock from number tx more request asked lived =
      prepare_cases (λ (move : SiteMove). Continues decl acts (after_site net a move))
      (record (net.sites a) { clock = clock }) from number tx
      (says decl acts net a run m site up clock from number answers.Stale more tt)
      (λ held is. votes_it decl acts net a run m site up clock from number tx
      (moved (record (net.sites a) { clock = clock }) (answers_with from number (answers.Yes clock))) more request
      asked lived
      (subst (λ (rs : List Record). KeptMirrors decl (kept_by rs) (state acts).status ((state acts).life a)
      ((state acts).deeds a ++ Prepares tx ∷ [])) (sym (append-nil (net.records a)))
      (kept_same decl (kept_by (net.records a)) (state acts).status ((state acts).life a) ((state acts).deeds a)
      (Prepares tx) (leaves_epoch ((state acts).deeds a) (Prepares tx) tt) (m.kept a site)
      (ap (λ (k : Site). k.stable) (standing is)) (ap (λ (k : Site). k.promises) (standing is))
      (λ x never. absurd never)))
      (subst (λ (rs : List Record). IsKeptBy (record (net.sites a) { clock = clock }) (kept_by rs))
      (sym (append-nil (net.records a))) (record {
        began = (m.alike a site up).began;
        recorded = (m.alike a site up).recorded;
        promises = (m.alike a site up).promises;
      }))
      (net.sites a).prepared (net.sites a).recorded refl (stood is) (m.sites a site up).apart
      (m.sites a site up).lined refl)
      (λ held is. votes_it decl acts net a run m site up clock from number tx
      (moved (promised (record (net.sites a) { clock = clock }) (promise clock tx))
      (votes (record (net.sites a) { clock = clock }) from number (promise clock tx)))
      more request asked lived
      (subst (λ (k : Kept). KeptMirrors decl k (state acts).status ((state acts).life a)
      ((state acts).deeds a ++ Prepares tx ∷ []))
      (sym (kept_more (net.records a) (records.Prepare (promise clock tx))))
      (kept_prepares decl (kept_by (net.records a)) (state acts).status ((state acts).life a) ((state acts).deeds a)
      (promise clock tx) (m.kept a site) (fresh tx is)
      ((λ x among. has x (ms.held tx x among)), (λ o among. ms.owned tx o among))
      (λ l among. unrecorded (net.sites a) (kept_by (net.records a)) (m.alike a site up) l (ms.log l among))
      (λ l among. ms.logged l (promised_known (net.sites a) l among))
      (ascending-without (net.sites a).log (net.sites a).recorded ms.sorted.1) (born asked)))
      (subst (λ (k : Kept). IsKeptBy (promised (record (net.sites a) { clock = clock }) (promise clock tx)) k)
      (sym (kept_more (net.records a) (records.Prepare (promise clock tx)))) (record {
        began = (m.alike a site up).began;
        recorded = ap (λ (ls : List Line). union ls (promise clock tx).lines) (m.alike a site up).recorded;
        promises = λ t q e. promised_still t q e (is_none is);
      }))
      ((net.sites a).prepared ++ promise clock tx ∷ [])
      (union (net.sites a).recorded (promise clock tx).lines) refl (made is)
      (apart_more (promise clock tx) (net.sites a).prepared is (m.sites a site up).apart) lined refl)
    where
      promise : ℕ → TxId → Prepared
      promise clock tx = sites.promise_of (record (net.sites a) { clock = clock }) tx

      ms : SiteMirrors decl (net.sites a) ((state acts).deeds a) ((state acts).life a)
      ms = m.sites a site up

      has : (x : Item) → IsHeld (held_of (net.sites a).held tx) x
          → IsPromised (sites.promise_of (record (net.sites a) { clock = clock }) tx) x
      has (Lock l) h = h
      has (Own o) h = h

      born : MayPrepare ((state acts).status tx) → (state acts).status tx ≢ NotBegun
      born may e = subst MayPrepare e may

      is_none : is_prepared (net.sites a).prepared tx ≡ false → prepared_of (net.sites a).prepared tx ≡ None
      is_none is = by (prepared_of (net.sites a).prepared tx) is
        where
          by : (o : Option Prepared) → is_some o ≡ false → o ≡ None
          by None e = refl
          by (Some q) e = absurd (let never : ⊥ = cc in never)

      -- the machine's site has no promise, where this one has none
      fresh : (u : TxId) → is_prepared (net.sites a).prepared u ≡ false
          → promise_of u (site_after ((state acts).deeds a)).prepared ≡ None
      fresh u is = by (promise_of u (site_after ((state acts).deeds a)).prepared) (prepared_of (net.sites a).prepared u)
          (ms.promised u) is
        where
          by : (p : Option Promise) (q : Option Prepared) → IsPromiseOf p q → is_some q ≡ false → p ≡ None
          by None q same none = refl
          by (Some p) None same none = absurd same
          by (Some p) (Some q) same none = absurd (let never : ⊥ = cc in never)

      standing : is_prepared (net.sites a).prepared tx ≡ true
          → after_prepare tx (promise_of tx (site_after ((state acts).deeds a)).prepared)
          (site_after ((state acts).deeds a)) ≡ site_after ((state acts).deeds a)
      standing is = by (promise_of tx (site_after ((state acts).deeds a)).prepared)
          (prepared_of (net.sites a).prepared tx) (ms.promised tx) is
        where
          by : (p : Option Promise) (q : Option Prepared) → IsPromiseOf p q → is_some q ≡ true
              → after_prepare tx p (site_after ((state acts).deeds a)) ≡ site_after ((state acts).deeds a)
          by (Some p) q same some = refl
          by None None same some = absurd (let never : ⊥ = cc in never)
          by None (Some q) same some = absurd same

      -- each promise of the site is one of the records
      promised_still : (t : TxId) (q : Prepared)
          → prepared_of ((net.sites a).prepared ++ promise clock tx ∷ []) t ≡ Some q
          → prepared_of (net.sites a).prepared tx ≡ None
          → prepared_of (with_promise (kept_by (net.records a)).promises (promise clock tx)) t ≡ Some q
      promised_still t q e none = by (same_tx tx t) refl
        where
          by : (b : Bool) → same_tx tx t ≡ b → prepared_of
              (with_promise (kept_by (net.records a)).promises (promise clock tx)) t ≡ Some q
          by true is =
              let at : tx ≡ t = same_tx_is tx t is in
              let one : prepared_of ((net.sites a).prepared ++ promise clock tx ∷ []) tx ≡ Some (promise clock tx) =
              found_last tx (promise clock tx) (net.sites a).prepared refl none in
              let two : prepared_of (with_promise (kept_by (net.records a)).promises (promise clock tx)) tx ≡ Some
              (promise clock tx) = found_last tx (promise clock tx)
              (without_prepared (kept_by (net.records a)).promises tx) refl
              (prepared-without (kept_by (net.records a)).promises tx) in
              subst (λ (u : TxId). prepared_of (with_promise (kept_by (net.records a)).promises (promise clock tx)) u
              ≡ Some q) at (two ∙ sym one ∙ subst (λ (u : TxId). prepared_of
              ((net.sites a).prepared ++ promise clock tx ∷ []) u ≡ Some q) (sym at) e)
          by false is =
              found_other t (promise clock tx) (without_prepared (kept_by (net.records a)).promises tx) is
              ∙ prepared-without_other (kept_by (net.records a)).promises tx t is
              ∙ (m.alike a site up).promises t q (sym (found_other t (promise clock tx) (net.sites a).prepared is) ∙ e)

      -- the lines that it promises are those that it has
      lined : AreLined ((net.sites a).prepared ++ sites.promise_of (record (net.sites a) { clock = clock }) tx ∷ [])
          (known (net.sites a))
      lined p among l has = elim (In-either p (net.sites a).prepared
          (sites.promise_of (record (net.sites a) { clock = clock }) tx ∷ []) among) [
            | inl old ↦ ms.lined p old l has
            | inr new ↦ elim new [
              | inl same ↦ promised_known (net.sites a) l
                  (subst (λ (q : Prepared). In l q.lines) same has)
              | inr never ↦ absurd never
            ]
          ]

      -- it is prepared already
      stood : is_prepared (net.sites a).prepared tx ≡ true → (t : TxId)
          → IsPromiseOf (promise_of t (after_prepare tx (promise_of tx (site_after ((state acts).deeds a)).prepared)
          (site_after ((state acts).deeds a))).prepared) (prepared_of (net.sites a).prepared t)
      stood is t = by (promise_of tx (site_after ((state acts).deeds a)).prepared)
          (prepared_of (net.sites a).prepared tx) (ms.promised tx) is
        where
          by : (p : Option Promise) (q : Option Prepared) → IsPromiseOf p q → is_some q ≡ true
              → IsPromiseOf (promise_of t (after_prepare tx p (site_after ((state acts).deeds a))).prepared)
              (prepared_of (net.sites a).prepared t)
          by (Some p) q same some = ms.promised t
          by None None same some = absurd (let never : ⊥ = cc in never)
          by None (Some q) same some = absurd same

      -- it promises what it holds
      made : is_prepared (net.sites a).prepared tx ≡ false
          → (t : TxId) → IsPromiseOf (promise_of t
          (after_prepare tx (promise_of tx (site_after ((state acts).deeds a)).prepared)
          (site_after ((state acts).deeds a))).prepared)
          (prepared_of ((net.sites a).prepared ++ sites.promise_of (record (net.sites a) { clock = clock }) tx ∷ []) t)
      made is t = by (promise_of tx (site_after ((state acts).deeds a)).prepared)
          (prepared_of (net.sites a).prepared tx) refl (ms.promised tx) is
        where
          has : (x : Item) → IsHeld (held_of (net.sites a).held tx) x
              → IsPromised (sites.promise_of (record (net.sites a) { clock = clock }) tx) x
          has (Lock l) h = h
          has (Own o) h = h

          by : (p : Option Promise) (q : Option Prepared) → prepared_of (net.sites a).prepared tx ≡ q → IsPromiseOf p q
              → is_some q ≡ false
              → IsPromiseOf (promise_of t (after_prepare tx p (site_after ((state acts).deeds a))).prepared)
              (prepared_of ((net.sites a).prepared ++ sites.promise_of (record (net.sites a) { clock = clock }) tx
              ∷ []) t)
          by None None none same some =
              more_promise tx t (record { tx = tx; items = items_of tx (site_after ((state acts).deeds a)).held })
              (sites.promise_of (record (net.sites a) { clock = clock }) tx)
              (site_after ((state acts).deeds a)).prepared (net.sites a).prepared refl refl none
              ((λ x among. has x (ms.held tx x among)), (λ o among. ms.owned tx o among)) (ms.promised t)
          by (Some p) None none same some = absurd same
          by p (Some q) none same some = absurd (let never : ⊥ = cc in never)
          -- a Decision

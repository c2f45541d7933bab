-- The held law at one site: what is granted stays held while the deeds spare the transaction.
use Rattle.std.proofs.Common.{◌≡◌, ◌≢◌, Bool, true, false, cond, ◌||◌, inl, inr, List, [], ◌∷◌, Option, Some, None}
use Rattle.std.proofs.Common.{refl, sym, ◌∙◌, subst, true≢false}
use Rattle.qc_list.specs.Vocabulary.{In}
use Rattle.qc_stamp.specs.declared.stamp.Stamp.{Stamp}
use Rattle.qc_stamp.specs.declared.stamp.TxId.{TxId}
use Rattle.qc_list.proofs.Members.{In-first, In-second}
use Rattle.qc_stamp.specs.Vocabulary.{same_tx}
use Rattle.qc_stamp.proofs.Orders.{same_tx_is, same_tx_test}
use Rattle.theory_machine.specs.Vocabulary.{Closes, Deed, Grants, Held, Holds, Installs, IsPromiseWith, Item}
use Rattle.theory_machine.specs.Vocabulary.{LearnsAbort, LearnsCommit, Phase, Prepares, Promise, Rises, Site, Spares}
use Rattle.theory_machine.specs.Vocabulary.{after_commit, after_deed, after_prepare, each_held, held_by_promises}
use Rattle.theory_machine.specs.Vocabulary.{is_prepared_after, items_of, promise_of, site_from, without_promise}
use Rattle.theory_machine.specs.Vocabulary.{without_tx}
use Rattle.theory_machine.proofs.SiteLists.{items_of-append, items_of-each_held, items_of-kept, in_dropped, dropped_in}
use Rattle.theory_machine.proofs.SiteLists.{not_found}

not_same : (u tx : TxId) → (u ≢ tx) → same_tx u tx ≡ false
not_same u tx ne = by (same_tx u tx) refl
  where
    by : (b : Bool) → same_tx u tx ≡ b → b ≡ false
    by true e = absurd (ne (same_tx_is u tx e))
    by false e = refl

not_same_back : (u tx : TxId) → (u ≢ tx) → same_tx tx u ≡ false
not_same_back u tx ne = not_same tx u (λ e. ne (sym e))

-- a prepared transaction holds its record's items
held_by : (tx : TxId) (item : Item) (p : Promise) (ps : List Promise) → In p ps → p.tx ≡ tx → In item p.items
    → In item (items_of tx (held_by_promises ps))
held_by tx item p [] h e i = absurd h
held_by tx item p (q ∷ qs) (inl same) e i =
    let its : q.tx ≡ tx = subst (λ (x : Promise). x.tx ≡ tx) same e in
    let there : In item q.items = subst (λ (x : Promise). In item x.items) same i in
    subst (λ (xs : List Item). In item xs) (sym (items_of-append tx (each_held q.tx q.items) (held_by_promises qs)))
    (In-first item (items_of tx (each_held q.tx q.items)) (items_of tx (held_by_promises qs))
    (subst (λ (t : TxId). In item (items_of t (each_held q.tx q.items))) its
    (subst (λ (xs : List Item). In item xs) (sym (items_of-each_held q.tx q.items)) there)))
held_by tx item p (q ∷ qs) (inr h) e i =
    subst (λ (xs : List Item). In item xs) (sym (items_of-append tx (each_held q.tx q.items) (held_by_promises qs)))
    (In-second item (items_of tx (each_held q.tx q.items)) (items_of tx (held_by_promises qs))
    (held_by tx item p qs h e i))

still_held : (tx u : TxId) (item : Item) (hs : List Held) → (u ≢ tx) → In item (items_of tx hs)
    → In item (items_of tx (without_tx u hs))
still_held tx u item hs ne h = subst (λ (xs : List Item). In item xs)
    (sym (items_of-kept u tx hs (not_same_back u tx ne))) h

other_dropped : (tx u : TxId) (ps : List Promise) → (u ≢ tx) → promise_of tx ps ≡ None
    → promise_of tx (without_promise u ps) ≡ None
other_dropped tx u [] ne e = refl
other_dropped tx u (p ∷ ps) ne e = by (same_tx tx p.tx) (same_tx u p.tx) refl e (other_dropped tx u ps ne)
  where
    by : (a b : Bool) → same_tx tx p.tx ≡ a → cond a (Some p) (promise_of tx ps) ≡ None
        → (promise_of tx ps ≡ None → promise_of tx (without_promise u ps) ≡ None)
        → promise_of tx (cond b (without_promise u ps) (p ∷ without_promise u ps)) ≡ None
    by true b a e ih = absurd (cc)
    by false true a e ih = ih e
    by false false a e ih = rw a (ih e)

prepared_drop : (tx u : TxId) (item : Item) (prepared promises : List Promise) → (u ≢ tx)
    → IsPromiseWith tx item prepared promises
    → IsPromiseWith tx item (without_promise u prepared) (without_promise u promises)
prepared_drop tx u item prepared promises ne w =
    let other : same_tx u w.by.tx ≡ false = subst (λ (x : TxId). same_tx u x ≡ false) (sym w.its) (not_same u tx ne) in
    record {
      by = w.by;
      stands = dropped_in w.by u prepared w.stands other;
      its = w.its;
      on_record = dropped_in w.by u promises w.on_record other;
      each = λ p h e. w.each p (in_dropped p u promises h).0 e;
    }

-- a Drop leaves the records
prepared_lost : (tx u : TxId) (item : Item) (prepared promises : List Promise) → (u ≢ tx)
    → IsPromiseWith tx item prepared promises → IsPromiseWith tx item (without_promise u prepared) promises
prepared_lost tx u item prepared promises ne w =
    let other : same_tx u w.by.tx ≡ false = subst (λ (x : TxId). same_tx u x ≡ false) (sym w.its) (not_same u tx ne) in
    record {
      by = w.by;
      stands = dropped_in w.by u prepared w.stands other;
      its = w.its;
      on_record = w.on_record;
      each = w.each;
    }

phase_drop : (is : Bool) (tx u : TxId) (item : Item) (prepared promises : List Promise) → (u ≢ tx)
    → Phase is tx item prepared promises → Phase is tx item (without_promise u prepared) (without_promise u promises)
phase_drop true tx u item prepared promises ne w = prepared_drop tx u item prepared promises ne w
phase_drop false tx u item prepared promises ne w = other_dropped tx u prepared ne w

phase_lost : (is : Bool) (tx u : TxId) (item : Item) (prepared promises : List Promise) → (u ≢ tx)
    → Phase is tx item prepared promises → Phase is tx item (without_promise u prepared) promises
phase_lost true tx u item prepared promises ne w = prepared_lost tx u item prepared promises ne w
phase_lost false tx u item prepared promises ne w = other_dropped tx u prepared ne w

-- a new record of u, where u wasn't prepared
phase_new : (is b : Bool) (tx u : TxId) (item : Item) (items : List Item) (prepared promises : List Promise)
    → same_tx tx u ≡ b → promise_of u prepared ≡ None → (tx ≡ u → In item items) → Phase is tx item prepared promises
    → Phase (is || b) tx item (record { tx = u; items = items } ∷ prepared)
    (record { tx = u; items = items } ∷ without_promise u promises)
phase_new true true tx u item items prepared promises e none its w =
    let same : w.by.tx ≡ u = w.its ∙ same_tx_is tx u e in
    absurd (true≢false (sym (same_tx_test u w.by.tx (sym same)) ∙ not_found u prepared none w.by w.stands))
phase_new true false tx u item items prepared promises e none its w =
    let other : same_tx u w.by.tx ≡ false = not_found u prepared none w.by w.stands in
    record {
      by = w.by;
      stands = inr w.stands;
      its = w.its;
      on_record = inr (dropped_in w.by u promises w.on_record other);
      each = λ p h t. elim h [
        | inl same ↦ let ut : u ≡ tx = subst (λ (x : Promise). x.tx ≡ tx) same t in
            absurd (true≢false (sym (same_tx_test tx u (sym ut)) ∙ e))
        | inr old ↦ w.each p (in_dropped p u promises old).0 t
      ];
    }
phase_new false true tx u item items prepared promises e none its w =
    let same : tx ≡ u = same_tx_is tx u e in
    record {
      by = record { tx = u; items = items };
      stands = inl refl;
      its = sym same;
      on_record = inl refl;
      each = λ p h t. elim h [
        | inl is ↦ subst (λ (x : Promise). In item x.items) (sym is) (its same)
        | inr old ↦ absurd (true≢false (sym (same_tx_test u p.tx (sym (t ∙ same))) ∙ (in_dropped p u promises old).1))
      ];
    }
phase_new false false tx u item items prepared promises e none its w = rw e w

-- an old record of u stays
phase_same : (is b : Bool) (tx u : TxId) (item : Item) (prepared promises : List Promise) (p : Promise)
    → same_tx tx u ≡ b → promise_of u prepared ≡ Some p → Phase is tx item prepared promises
    → Phase (is || b) tx item prepared promises
phase_same true b tx u item prepared promises p e some w = w
phase_same false true tx u item prepared promises p e some w = let same : tx ≡ u = same_tx_is tx u e in
    let none : promise_of u prepared ≡ None = subst (λ (t : TxId). promise_of t prepared ≡ None) same w in absurd (cc)
phase_same false false tx u item prepared promises p e some w = w

holds_after_prepare : (is : Bool) (tx u : TxId) (item : Item) (s : Site) (o : Option Promise)
    → promise_of u s.prepared ≡ o → Holds is tx item s → Holds (is || same_tx tx u) tx item (after_prepare u o s)
holds_after_prepare is tx u item s (Some p) e w =
    record { held = w.held; phase = phase_same is (same_tx tx u) tx u item s.prepared s.promises p refl e w.phase }
holds_after_prepare is tx u item s None e w = record {
  held = w.held;
  phase = phase_new is (same_tx tx u) tx u item (items_of u s.held) s.prepared s.promises refl e
      (λ same. subst (λ (t : TxId). In item (items_of t s.held)) same w.held) w.phase;
}

holds_after_commit : (is : Bool) (tx u : TxId) (stamp : Stamp) (item : Item) (s : Site) (o : Option Promise) → (u ≢ tx)
    → Holds is tx item s → Holds is tx item (after_commit u stamp o s)
holds_after_commit is tx u stamp item s None ne w =
    record { held = still_held tx u item s.held ne w.held; phase = w.phase }
holds_after_commit is tx u stamp item s (Some p) ne w =
    record {
      held = still_held tx u item s.held ne w.held;
      phase = phase_drop is tx u item s.prepared s.promises ne w.phase;
    }

pub held_after : (ds : List Deed) (is : Bool) (tx : TxId) (item : Item) (s : Site) → Holds is tx item s
    → Spares tx is ds → Holds (is_prepared_after tx is ds) tx item (site_from s ds)
held_after [] is tx item s w sp = w
held_after (Grants u items view ∷ ds) is tx item s w sp =
    held_after ds is tx item (after_deed s (Grants u items view)) (record {
      held = subst (λ (xs : List Item). In item xs) (sym (items_of-append tx (each_held u items) s.held))
          (In-second item (items_of tx (each_held u items)) (items_of tx s.held) w.held);
      phase = w.phase;
    }) sp
held_after (Prepares u ∷ ds) is tx item s w sp =
    held_after ds (is || same_tx tx u) tx item (after_deed s (Prepares u))
    (holds_after_prepare is tx u item s (promise_of u s.prepared) refl w) sp
held_after (LearnsCommit u stamp ∷ ds) is tx item s w sp =
    held_after ds is tx item (after_deed s (LearnsCommit u stamp))
    (holds_after_commit is tx u stamp item s (promise_of u s.prepared) sp.0 w) sp.1
held_after (LearnsAbort u ∷ ds) is tx item s w sp =
    held_after ds is tx item (after_deed s (LearnsAbort u))
    (record {
      held = still_held tx u item s.held sp.0 w.held;
      phase = phase_lost is tx u item s.prepared s.promises sp.0 w.phase;
    }) sp.1
held_after (Closes ∷ ds) true tx item s w sp =
    held_after ds true tx item (after_deed s Closes)
    (record {
      held = held_by tx item w.phase.by s.prepared w.phase.stands w.phase.its
          (w.phase.each w.phase.by w.phase.on_record w.phase.its);
      phase = w.phase;
    }) sp
held_after (Closes ∷ ds) false tx item s w sp = absurd sp
held_after (Installs k c log ∷ ds) is tx item s w sp = absurd sp
held_after (Rises ∷ ds) true tx item s w sp =
    held_after ds true tx item (after_deed s Rises) (record {
      held = held_by tx item w.phase.by s.promises w.phase.on_record w.phase.its
          (w.phase.each w.phase.by w.phase.on_record w.phase.its);
      phase = record {
        by = w.phase.by;
        stands = w.phase.on_record;
        its = w.phase.its;
        on_record = w.phase.on_record;
        each = w.phase.each;
      };
    }) sp
held_after (Rises ∷ ds) false tx item s w sp = absurd sp

pub held_law : (ds : List Deed) (is : Bool) (tx : TxId) (item : Item) (s : Site) → Holds is tx item s → Spares tx is ds
    → In item (items_of tx (site_from s ds).held)
held_law ds is tx item s w sp = (held_after ds is tx item s w sp).held

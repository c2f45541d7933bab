-- The machine's site holds all items of the promises by which it is prepared.
use Rattle.std.proofs.Common.{◌≡◌, false, List, [], ◌∷◌, ◌++◌, inl, inr, Option, Some, None, refl, sym, subst}
use Rattle.qc_list.specs.Vocabulary.{In}
use Rattle.qc_list.proofs.Members.{In-first, In-second}
use Rattle.theory_machine.proofs.SiteLists.{in_dropped, items_of-append, items_of-each_held, items_of-kept, not_found}
use Rattle.theory_machine.specs.Vocabulary.{Closes, Deed, Grants, Held, Installs, Item, LearnsAbort, LearnsCommit}
use Rattle.theory_machine.specs.Vocabulary.{Prepares, Promise, Rises, Site, after_commit, after_deed, after_prepare}
use Rattle.theory_machine.specs.Vocabulary.{each_held, empty_site, held_by_promises, items_of, promise_of, site_after}
use Rattle.theory_machine.specs.Vocabulary.{site_from, without_promise, without_tx}
use Rattle.qc_stamp.proofs.Orders.{other_tx_sym}
use Rattle.qc_stamp.specs.Vocabulary.{same_tx}
use Rattle.qc_stamp.specs.declared.stamp.Stamp.{Stamp}
use Rattle.qc_stamp.specs.declared.stamp.TxId.{TxId}

abbrev HaveItems : List Promise → List Held → Type 0
HaveItems ps held = (p : Promise) → In p ps → (x : Item) → In x p.items → In x (items_of p.tx held)

more_held : (ps : List Promise) (new held : List Held) → HaveItems ps held → HaveItems ps (new ++ held)
more_held ps new held old p among x there =
    subst (In x) (sym (items_of-append p.tx new held))
    (In-second x (items_of p.tx new) (items_of p.tx held) (old p among x there))

all_promised : (ps : List Promise) → HaveItems ps (held_by_promises ps)
all_promised [] p among x there = absurd among
all_promised (q ∷ ps) p (inl same) x there =
    subst (λ (r : Promise). In x r.items → In x (items_of r.tx (each_held q.tx q.items ++ held_by_promises ps)))
    (sym same)
    (λ here. subst (In x) (sym (items_of-append q.tx (each_held q.tx q.items) (held_by_promises ps)))
    (In-first x (items_of q.tx (each_held q.tx q.items)) (items_of q.tx (held_by_promises ps))
    (subst (In x) (sym (items_of-each_held q.tx q.items)) here))) there
all_promised (q ∷ ps) p (inr later) x there =
    more_held ps (each_held q.tx q.items) (held_by_promises ps) (all_promised ps) p later x there

dropped_held : (tx : TxId) (ps : List Promise) (held : List Held) → ((p : Promise) → In p ps → same_tx tx p.tx ≡ false)
    → HaveItems ps held → HaveItems ps (without_tx tx held)
dropped_held tx ps held others old p among x there =
    subst (In x) (sym (items_of-kept tx p.tx held (other_tx_sym tx p.tx (others p among)))) (old p among x there)

prepared_more : (tx : TxId) (o : Option Promise) (s : Site) → HaveItems s.prepared s.held
    → HaveItems (after_prepare tx o s).prepared (after_prepare tx o s).held
prepared_more tx (Some q) s old p among x there = old p among x there
prepared_more tx None s old p (inl same) x there =
    subst (λ (r : Promise). In x r.items → In x (items_of r.tx s.held)) (sym same) (λ here. here) there
prepared_more tx None s old p (inr later) x there = old p later x there

committed : (tx : TxId) (stamp : Stamp) (o : Option Promise) (s : Site) → promise_of tx s.prepared ≡ o
    → HaveItems s.prepared s.held → HaveItems (after_commit tx stamp o s).prepared (after_commit tx stamp o s).held
committed tx stamp (Some q) s is old = dropped_held tx (without_promise tx s.prepared) s.held
    (λ p among. (in_dropped p tx s.prepared among).1) (λ p among. old p (in_dropped p tx s.prepared among).0)
committed tx stamp None s is old = dropped_held tx s.prepared s.held (not_found tx s.prepared is) old

deed_has : (s : Site) (d : Deed) → HaveItems s.prepared s.held
    → HaveItems (after_deed s d).prepared (after_deed s d).held
deed_has s (Grants tx items view) old = more_held s.prepared (each_held tx items) s.held old
deed_has s (Prepares tx) old = prepared_more tx (promise_of tx s.prepared) s old
deed_has s (LearnsCommit tx stamp) old = committed tx stamp (promise_of tx s.prepared) s refl old
deed_has s (LearnsAbort tx) old = dropped_held tx (without_promise tx s.prepared) s.held
    (λ p among. (in_dropped p tx s.prepared among).1) (λ p among. old p (in_dropped p tx s.prepared among).0)
deed_has s Closes old = all_promised s.prepared
deed_has s (Installs epoch clock log) old = λ p never. absurd never
deed_has s Rises old = all_promised s.promises

all_have : (s : Site) (ds : List Deed) → HaveItems s.prepared s.held
    → HaveItems (site_from s ds).prepared (site_from s ds).held
all_have s [] old = old
all_have s (d ∷ ds) old = all_have (after_deed s d) ds (deed_has s d old)

pub items_held : (ds : List Deed) (p : Promise) → In p (site_after ds).prepared → (x : Item) → In x p.items
    → In x (items_of p.tx (site_after ds).held)
items_held ds = all_have empty_site ds (λ p never. absurd never)

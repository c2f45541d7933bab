-- What a transaction holds of what is left of all that is held, of its own grant, and of promises.
use Rattle.std.proofs.Common.{◌≡◌, Bool, true, false, inl, inr, List, [], ◌∷◌, refl, sym, ap, ◌∙◌, subst}
use Rattle.qc_stamp.specs.declared.stamp.TxId.{TxId}
use Rattle.qc_stamp.specs.Vocabulary.{same_tx}
use Rattle.qc_stamp.proofs.Orders.{same_tx_is}
use Rattle.qc_list.specs.Vocabulary.{In}
use Rattle.theory_machine.specs.Vocabulary.{Held, Item, Promise, each_held, held_by_promises, items_of, without_tx}
use Rattle.theory_machine.proofs.SiteLists.{items_of-append, items_of-each_held, items_of-other, items_of-dropped}
use Rattle.theory_machine.proofs.SiteLists.{items_of-kept}
use Rattle.qc_list.proofs.Members.{In-either}

-- what is still held was held
pub left_over : (tx u : TxId) (x : Item) (hs : List Held) → In x (items_of u (without_tx tx hs)) → In x (items_of u hs)
left_over tx u x hs h = by (same_tx u tx) refl
  where
    by : (b : Bool) → same_tx u tx ≡ b → In x (items_of u hs)
    by false e = subst (λ (xs : List Item). In x xs) (items_of-kept tx u hs e) h
    by true e =
        let same : u ≡ tx = same_tx_is u tx e in
        absurd (subst (λ (xs : List Item). In x xs)
        (ap (λ (t : TxId). items_of t (without_tx tx hs)) same ∙ items_of-dropped tx hs) h)

-- what one transaction holds of what is held for another
pub of_each : (tx u : TxId) (x : Item) (items : List Item) → In x (items_of u (each_held tx items))
    → (u ≡ tx) × In x items
of_each tx u x items h = by (same_tx u tx) refl
  where
    by : (b : Bool) → same_tx u tx ≡ b → (u ≡ tx) × In x items
    by false e = absurd (subst (λ (xs : List Item). In x xs) (items_of-other u tx items e) h)
    by true e =
        let same : u ≡ tx = same_tx_is u tx e in (
          same,
          subst (λ (xs : List Item). In x xs)
              (ap (λ (t : TxId). items_of t (each_held tx items)) same ∙ items_of-each_held tx items) h,
        )

pub record IsPromised (ps : List Promise) (tx : TxId) (x : Item) : Type 0 where
  pub by : Promise
  pub listed : In by ps
  pub its : by.tx ≡ tx
  pub has : In x by.items

pub of_promises : (ps : List Promise) (u : TxId) (x : Item) → In x (items_of u (held_by_promises ps))
    → IsPromised ps u x
of_promises [] u x h = absurd h
of_promises (p ∷ ps) u x h = elim (In-either x (items_of u (each_held p.tx p.items)) (items_of u (held_by_promises ps))
    (subst (λ (xs : List Item). In x xs) (items_of-append u (each_held p.tx p.items) (held_by_promises ps)) h)) [
      | inl a ↦ let e = of_each p.tx u x p.items a in record { by = p; listed = inl refl; its = sym e.0; has = e.1 }
      | inr b ↦ let r = of_promises ps u x b in record { by = r.by; listed = inr r.listed; its = r.its; has = r.has }
    ]

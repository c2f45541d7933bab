-- A site that a transaction waits for a vote of hasn't forgotten what it granted, whatever epochs came.
use Rattle.std.proofs.Common.{◌≡◌, ◌≤◌, ◌<◌, ◌⊎◌, inl, inr, ℕ, true, List, ◌∷◌, None, sym, ap, ◌∙◌, subst, arith}
use Rattle.qc_stamp.specs.declared.stamp.TxId.{TxId}
use Rattle.qc_list.specs.Vocabulary.{In}
use Rattle.qc_decl.specs.Vocabulary.{IsAccepted, is_site}
use Rattle.qc_decl.specs.declared.declaration.Declaration.{Declaration}
use Rattle.qc_lock.specs.Vocabulary.{held_of}
use Rattle.qc_msg.specs.declared.message.Envelope.{Envelope}
use Rattle.qc_msg.specs.declared.message.Message.{Message}
use Rattle.qc_msg.specs.declared.message.Message.TheVariants as messages
use Rattle.qc_msg.specs.declared.message.Want.TheVariants.{Prepare}
use Rattle.theory_machine.specs.Vocabulary.{Act, CountedLaw, Deed, Granted, Grants, HasRisingEpochs, Item, StateLaws}
use Rattle.theory_machine.specs.Vocabulary.{Voting, epoch_from, items_of, site_after, state}
use Rattle.theory_machine.proofs.Epochs.{epoch-append, rising-right, upward}
use Rattle.theory_machine.proofs.Holdings.{granted_items_are_held}
use Rattle.theory_machine.proofs.Keeps.{laws}
use Rattle.qc_site.specs.Vocabulary.{fault_of}
use Rattle.laws_refinement.specs.Vocabulary.{Backed, IsHeld, Net, RefinesBy, SiteMirrors}
use Rattle.laws_refinement.proofs.SiteDecisions.{Passes, passes}

module _ (decl : Declaration) (accepted : IsAccepted decl) (acts : List Act) (net : Net) (r : RefinesBy decl acts net)
    (a : ℕ) (site : is_site decl a ≡ true) (up : net.up a ≡ true) (e : Envelope) (sent : In e net.mail) (to : e.to ≡ a)
    (tx : TxId) (epoch life : ℕ) (is : e.message ≡ messages.Request tx epoch life Prepare)
    (voting : (state acts).status tx ≡ Voting) (g : Granted) (counts : In g (state acts).counted) (its : g.tx ≡ tx)
    (at : g.site ≡ a) where
  l : StateLaws decl (state acts)
  l = laws decl acts r.run

  ms : SiteMirrors decl (net.sites a) ((state acts).deeds a) ((state acts).life a)
  ms = r.agrees.sites a site up

  backed : Backed decl (state acts) net.mail e.from a (messages.Request tx epoch life Prepare)
  backed = subst (λ (n : ℕ). Backed decl (state acts) net.mail e.from n (messages.Request tx epoch life Prepare)) to
      (subst (λ (x : Message). Backed decl (state acts) net.mail e.from e.to x) is (r.agrees.mail e sent))

  -- the request's epoch is the grant's
  same_epoch : g.epoch ≡ epoch
  same_epoch = l.counts_epoch g counts ∙ ap (state acts).epoch its ∙ sym backed.2

  -- the site isn't behind
  pub not_behind : epoch ≤ (net.sites a).epoch
  not_behind =
      let k : CountedLaw ((state acts).deeds g.site) ((state acts).life g.site) ((state acts).status g.tx)
      (state acts).votes g = l.counted g counts in
      let current : epoch_from 1 g.before ≡ g.epoch = (l.facts g (l.known g counts)).current in
      let rising : HasRisingEpochs (epoch_from 1 g.before) (Grants g.tx g.items g.view ∷ k.post) =
      rising-right g.before (Grants g.tx g.items g.view ∷ k.post) 1
      (subst (λ (ds : List Deed). HasRisingEpochs 1 ds) k.split (l.rising g.site)) in
      let upwards : epoch_from 1 g.before ≤ epoch_from (epoch_from 1 g.before) (Grants g.tx g.items g.view ∷ k.post) =
      upward (Grants g.tx g.items g.view ∷ k.post) (epoch_from 1 g.before) rising in
      let now : epoch_from 1 ((state acts).deeds g.site) ≡ epoch_from (epoch_from 1 g.before)
      (Grants g.tx g.items g.view ∷ k.post) = ap (λ (ds : List Deed). epoch_from 1 ds) k.split
      ∙ epoch-append g.before (Grants g.tx g.items g.view ∷ k.post) 1 in
      let mirror : epoch_from 1 ((state acts).deeds a) ≡ (net.sites a).epoch = ms.epoch in
      let here : epoch_from 1 ((state acts).deeds g.site) ≡ epoch_from 1 ((state acts).deeds a) =
      ap (λ (n : ℕ). epoch_from 1 ((state acts).deeds n)) at in
      let e1 : g.epoch ≡ epoch = same_epoch in
      omega arith

  -- where it isn't refused by its epoch or life, the transaction holds what was granted
  pub remembers : fault_of (net.sites a) epoch life ≡ None → (item : Item) → In item g.items
      → IsHeld (held_of (net.sites a).held tx) item
  remembers free item has =
      let p : Passes (net.sites a) epoch life = passes (net.sites a) epoch life free in
      ms.held tx item (subst (λ (t : TxId). In item (items_of t (site_after ((state acts).deeds a)).held)) its
      (subst (λ (n : ℕ). In item (items_of g.tx (site_after ((state acts).deeds n)).held)) at
      (granted_items_are_held decl accepted acts r.run g item counts has (ap (state acts).status its ∙ voting)
      (ap (state acts).life at ∙ sym ms.life ∙ sym (named p.lived) ∙ sym ((backed.3).2 g counts its at))
      (ap (λ (n : ℕ). epoch_from 1 ((state acts).deeds n)) at ∙ ms.epoch ∙ p.epoch_is ∙ sym same_epoch))))
    where
      named : (life ≡ 0) ⊎ (life ≡ (net.sites a).life) → life ≡ (net.sites a).life
      named (inl none) = let some : 0 < life = (backed.3).1 in omega arith
      named (inr same) = same

-- What a site has promised it holds, through falls, and its clock has passed what is done.
use Rattle.std.proofs.Common.{◌≡◌, ◌≤◌, ℕ, Bool, true, false, List, [], inl, Some, slice_get, refl, sym, ap, ◌∙◌, subst}
use Rattle.std.proofs.Common.{arith, ltb-true}
use Rattle.qc_core.proofs.LivesLaws.{journal}
use Rattle.qc_core.specs.Vocabulary.{IsLawfulWithFalls, IsShown, Serves, is_up}
use Rattle.qc_decl.specs.Vocabulary.{IsAccepted, actors, is_site}
use Rattle.qc_decl.specs.declared.declaration.Declaration.{Declaration}
use Rattle.qc_entry.specs.declared.line.OwnLine.{OwnLine}
use Rattle.qc_entry.specs.declared.line.ReadLock.{ReadLock}
use Rattle.qc_entry.specs.declared.record.Prepared.{Prepared}
use Rattle.laws_votes.proofs.Nets.{net, now, reached}
use Rattle.laws_votes.proofs.PromisedItems.{items_held}
use Rattle.laws_votes.proofs.PromisedLocks.{Stands, stands}
use Rattle.laws_votes.proofs.SiteClocks.{mirrors, shown}
use Rattle.laws_votes.specs.Vocabulary.{HasPromisedItems, IsLastPromise, IsPromisedStill}
use Rattle.qc_link.specs.Vocabulary.{most_actors}
use Rattle.qc_list.specs.Vocabulary.{In}
use Rattle.laws_turns.proofs.FallKept.{clients_rise_with_own_stamps_where_records_are_kept}
use Rattle.laws_turns.proofs.FallServed.{sites_serve_with_falls}
use Rattle.qc_lock.specs.Vocabulary.{held_of}
use Rattle.qc_lock.specs.declared.held.Held.{Held}
use Rattle.qc_msg.specs.Vocabulary.{Deed, Entry, deeds, own}
use Rattle.qc_msg.specs.declared.record.Record.{Record}
use Rattle.qc_msg.specs.declared.record.Record.TheVariants.{Done}
use Rattle.laws_refinement.proofs.BothPromises.{Behind, behind}
use Rattle.laws_refinement.specs.Vocabulary.{SiteMirrors}
use Rattle.qc_promise.specs.Vocabulary.{Journal, Kept, clock_shown, held_shown, journal_of, lifetime, records_in}
use Rattle.theory_machine.specs.Vocabulary.{Own, items_of, site_after}
use Rattle.laws_reach.proofs.Stood.{in_site}
use Rattle.qc_script.specs.Vocabulary.{IsScriptFor, RunsWithFalls}
use Rattle.qc_script.specs.declared.script.Script.{Script}
use Rattle.qc_site.specs.Vocabulary.{SiteState}
use Rattle.qc_stamp.specs.declared.stamp.TxId.{TxId}
use Rattle.laws_votes.proofs.StandingPromises.{among_promises, records_are}
use Rattle.laws_reach.proofs.RunLaws.{same_site}

module _ (fits : ℕ → List Record → Type 0) (decl : Declaration) (script : Script) (h : List Entry)
    (open_inputs : List Bool) (accepted : IsAccepted decl) (sound : IsScriptFor decl script)
    (run : RunsWithFalls (IsLawfulWithFalls decl) fits decl script h open_inputs) (kept : Kept h) (site : ℕ)
    (is : is_site decl site ≡ true) (free : slice_get open_inputs site ≡ Some false)
    (up : is_up (deeds site [] h) ≡ true) where
  few : actors decl ≤ most_actors
  few = let s = accepted.sites in let c = accepted.clients in omega arith

  abbrev ds : List Deed
  ds = deeds site [] h

  abbrev s : SiteState
  s = (net fits decl script h open_inputs accepted sound run kept).sites site

  sh : IsShown ds s
  sh = shown fits decl script h open_inputs accepted sound run kept site is free up

  mir : SiteMirrors decl s ((now fits decl script h open_inputs accepted sound run kept).deeds site)
      ((now fits decl script h open_inputs accepted sound run kept).life site)
  mir = mirrors fits decl script h open_inputs accepted sound run kept site is free up

  its : Stands decl site is ds
  its = stands decl site is ds true (subst (Serves decl site ds) up
      (sites_serve_with_falls decl script fits few h open_inputs run
      (clients_rise_with_own_stamps_where_records_are_kept decl script fits few h open_inputs run kept) site
      (ltb-true site decl.sites is) free)) refl

  same : its.s ≡ s
  same = same_site its.s s (sym its.at ∙ (reached fits decl script h open_inputs accepted sound run kept).actors_are
      site (inl is) up free ∙ in_site decl (net fits decl script h open_inputs accepted sound run kept) site is)

  pub records_here : (journal_of (own site h)).records ≡ records_in ds
  records_here = ap (λ (j : Journal). j.records) (sym (journal site h)) ∙ records_are ds

  pub promised_items_are_held_through_falls : (p : Prepared) → IsPromisedStill h site p
      → HasPromisedItems (held_of (held_shown ds) p.tx) p
  promised_items_are_held_through_falls p still =
      subst (λ (held : List Held). HasPromisedItems (held_of held p.tx) p) sh.held
      (record { locks = locks; own = owned })
    where
      among : In p s.prepared
      among = subst (In p) (sym sh.prepared) (among_promises p (lifetime ds).kept (lifetime ds).since
          (subst (λ (rs : List Record). IsLastPromise rs p) records_here still.last) still.unaborted)

      locks : (l : ReadLock) → In l p.locks → In l (held_of s.held p.tx).locks
      locks = subst (λ (x : SiteState). In p x.prepared → (l : ReadLock) → In l p.locks
          → In l (held_of x.held p.tx).locks) same (its.keeps.locks p) among

      b : Behind (site_after ((now fits decl script h open_inputs accepted sound run kept).deeds site)).prepared p
      b = behind (site_after ((now fits decl script h open_inputs accepted sound run kept).deeds site)).prepared
          s.prepared p mir.promised mir.apart among

      owned : (o : OwnLine) → In o p.own → In o (held_of s.held p.tx).own
      owned o there = mir.held p.tx (Own o)
          (subst (λ (tx : TxId). In (Own o) (items_of tx
          (site_after ((now fits decl script h open_inputs accepted sound run kept).deeds site)).held)) b.its
          (items_held ((now fits decl script h open_inputs accepted sound run kept).deeds site) b.promise b.stands
          (Own o) (b.own o there)))

  pub sites_clocks_pass_their_dones_through_falls : (tx : TxId) (clock : ℕ)
      → In (Done tx clock) (journal_of (own site h)).records → clock ≤ clock_shown ds
  sites_clocks_pass_their_dones_through_falls tx clock among =
      let low : clock ≤ its.s.clock = its.keeps.dones tx clock
      (subst (λ (j : Journal). In (Done tx clock) j.records) (sym (journal site h)) among) in
      let one : its.s.clock ≡ s.clock = ap (λ (x : SiteState). x.clock) same in
      let shows : s.clock ≡ clock_shown ds = sh.clock in
      omega arith

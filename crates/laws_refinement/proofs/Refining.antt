-- Every net that may come about is what a run of the machine may look like.
use Rattle.std.proofs.Common.{[], ◌≡◌, ◌++◌, ℕ, true, List, Some, None, sym, ◌∙◌, subst, ap, inl, inr}
use Rattle.qc_decl.specs.declared.declaration.Declaration.{Declaration}
use Rattle.qc_decl.specs.Vocabulary.{IsAccepted, administrator, is_client}
use Rattle.theory_machine.specs.Vocabulary.{Act, state}
use Rattle.qc_commit.specs.Vocabulary.{record_of}
use Rattle.laws_refinement.proofs.AdminFalls.{admin_falls, admin_rises_in_vain, admin_rises_up}
use Rattle.laws_refinement.specs.Vocabulary.{Continues, IsClientKeptBy, Net, Reaches, Refines, after_fall}
use Rattle.laws_refinement.proofs.AdminCases.{admin_case}
use Rattle.laws_refinement.proofs.SiteCases.{serve_case}
use Rattle.laws_refinement.proofs.HaveArrived.{sites_have_arrived}
use Rattle.laws_refinement.proofs.Standing.{front_ends_stand}
use Rattle.qc_stamp.specs.declared.stamp.TxId.{TxId}
use Rattle.qc_list.specs.Vocabulary.{In}
use Rattle.qc_entry.specs.declared.record.Commit.{Commit as CommitRecord}
use Rattle.qc_msg.specs.declared.record.Record.{Record}
use Rattle.qc_msg.specs.declared.turn.Posting.{Posting}
use Rattle.qc_front.specs.declared.front.Front.{Front}
use Rattle.qc_recover.specs.Clients.{kept_by}
use Rattle.laws_refinement.proofs.ClientEnds.{Pends}
use Rattle.laws_refinement.proofs.ClientFalls.{client_falls, client_fails}
use Rattle.laws_refinement.proofs.ClientRises.{client_rises_in_vain, client_rises_up}
use Rattle.laws_refinement.proofs.ClientKeeps.{clients_kept}
use Rattle.laws_refinement.proofs.SiteFails.{take_fails as site_take_fails}
use Rattle.laws_refinement.proofs.SiteFalls.{site_falls, site_rises_in_vain, site_rises_up}
use Rattle.laws_refinement.specs.Net as nets
use Rattle.laws_refinement.proofs.RefiningTurns.{at_first, first_plan, take_case, take_fails}

module _ (decl : Declaration) (accepted : IsAccepted decl) where
  client_pends : (net : Net) (h : Refines decl net) (a : ℕ) → is_client decl a ≡ true → net.up a ≡ true
      → IsClientKeptBy (net.clients a) (kept_by (net.records a)) → (r : Record) → Pends decl (state h.acts) net a r
      → Refines decl (after_fall net a (Some r) [])
  client_pends net h a client up kept r p =
      subst (λ (x : Record). Refines decl (after_fall net a (Some x) [])) (sym p.is)
      (client_fails decl (first_plan decl accepted) net h a client p.acts p.client p.transaction p.commit p.own.actor
      p.mid p.records
      p.own
      (record {
        life = ap (λ (f : Front). f.life) p.front ∙ kept.life;
        commits = λ x among. subst (λ (cs : List CommitRecord). In x cs) (sym p.commits) (kept.commits x among);
        none =
            λ t none. subst (λ (cs : List CommitRecord). record_of cs t ≡ None) (sym p.commits) (kept.none t none);
      })
      p.may p.its (ap (λ (u : TxId). u.client) p.its ∙ p.mine))

  any : (net : Net) (acts : List Act) → Continues decl acts net → Refines decl net
  any net acts c = record { acts = c.more ++ acts; run = c.refines.run; agrees = c.refines.agrees }

  pub nets_refine : (net : Net) → Reaches decl net → Refines decl net
  nets_refine net nets.begins =
      record { acts = []; run = tt; agrees = at_first decl accepted (first_plan decl accepted) }
  nets_refine net (nets.serves a given before r site up came) =
      let h : Refines decl before = nets_refine before r in
      any net h.acts
      (serve_case decl accepted h.acts before a h.run h.agrees site up (sites_have_arrived decl before r a) given
      came)
  nets_refine net (nets.takes a given before r client up came ready) =
      let h : Refines decl before = nets_refine before r in
      take_case decl accepted h.acts before a h.run h.agrees client up (front_ends_stand decl before r a) given came
      ready
  nets_refine net (nets.site_falls a before r site up) =
      site_falls decl accepted before (nets_refine before r) a site None [] tt (λ p never. absurd never)
  nets_refine net (nets.client_falls a before r client up) =
      client_falls decl (first_plan decl accepted) before (nets_refine before r) a client up
      (clients_kept decl before r a client up)
  nets_refine net (nets.site_fails a given written sends before r site up came wrote failed) =
      let h : Refines decl before = nets_refine before r in
      let f = site_take_fails decl h.acts before a h.run h.agrees site up given came written wrote in
      site_falls decl accepted before h a site (Some written) sends f.0 (λ p among. elim failed [
        | inl same ↦ f.1 p (subst (λ (ps : List Posting). In p ps) same among)
        | inr none ↦ absurd (subst (λ (ps : List Posting). In p ps) none among)
      ])
  nets_refine net (nets.client_fails a given written sends before r client up came ready wrote failed) =
      let h : Refines decl before = nets_refine before r in
      let p = take_fails decl accepted h.acts before a h.run h.agrees client up given came ready written wrote in
      let none : sends ≡ [] = elim failed [ inl same ↦ same ∙ p.1 | inr empty ↦ empty ] in
      subst (λ (ps : List Posting). Refines decl (after_fall before a (Some written) ps)) (sym none)
      (client_pends before h a client up (clients_kept decl before r a client up) written p.0)
  nets_refine net (nets.site_rises_up a back before r site down given) =
      site_rises_up decl accepted before (nets_refine before r) a site back down given
  nets_refine net (nets.client_rises_up a back before r client down given) =
      client_rises_up decl (first_plan decl accepted) before (nets_refine before r) a client back down given
  nets_refine net (nets.site_rises_in_vain a back before r site down given) =
      site_rises_in_vain decl accepted before (nets_refine before r) a site back down given
  nets_refine net (nets.client_rises_in_vain a back before r client down given) =
      client_rises_in_vain decl (first_plan decl accepted) before (nets_refine before r) a client back down given
  nets_refine net (nets.administers given before r up came named) =
      let h : Refines decl before = nets_refine before r in
      any net h.acts (admin_case decl h.acts before h.run h.agrees up given came named).0
  nets_refine net (nets.admin_falls before r up) = admin_falls decl before (nets_refine before r) None tt
  nets_refine net (nets.admin_fails given written sends before r up came named wrote failed) =
      let h : Refines decl before = nets_refine before r in
      let p = (admin_case decl h.acts before h.run h.agrees up given came named).1 written wrote in
      let none : sends ≡ [] = elim failed [ inl same ↦ same ∙ p.1 | inr empty ↦ empty ] in
      subst (λ (ps : List Posting). Refines decl (after_fall before (administrator decl) (Some written) ps)) (sym none)
      (admin_falls decl before h (Some written) p.0)
  nets_refine net (nets.admin_rises_up back before r down given) =
      admin_rises_up decl before (nets_refine before r) back down given
  nets_refine net (nets.admin_rises_in_vain back before r down given) =
      admin_rises_in_vain decl before (nets_refine before r) back down given

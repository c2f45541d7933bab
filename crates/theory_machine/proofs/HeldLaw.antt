-- The held law and the clock law, in every state that a run reaches.
use Rattle.std.proofs.Common.{◌≡◌, ◌≢◌, ℕ, ◌<◌, ◌≤◌, inl, inr, false, List, [], ◌∷◌, refl, sym, ap, ◌∙◌, subst, arith}
use Rattle.std.proofs.lemmas.List.{append_cancel_left}
use Rattle.qc_entry.specs.declared.line.Line.{Line}
use Rattle.qc_entry.specs.declared.record.Commit.{Commit as CommitRecord}
use Rattle.qc_decl.specs.declared.declaration.Declaration.{Declaration}
use Rattle.qc_list.specs.Vocabulary.{In}
use Rattle.theory_machine.specs.Vocabulary.{Aborted, Act, AreBeforeDone, Closes, Deed, Granted, Grants, HasPassed}
use Rattle.theory_machine.specs.Vocabulary.{HaveNoInstall, Installs, IsBound, IsRun, IsSince, Item, LearnsAbort}
use Rattle.theory_machine.specs.Vocabulary.{LearnsCommit, Prepares, Rises, Site, SparesUntilDone, StateLaws, after_deed}
use Rattle.theory_machine.specs.Vocabulary.{empty_site, items_of, site_after, site_from, state}
use Rattle.theory_machine.proofs.Keeps.{laws}
use Rattle.theory_machine.proofs.Grants.{holds_granted}
use Rattle.theory_machine.proofs.Order.{ended}
use Rattle.theory_machine.proofs.Outcomes.{committed_record}
use Rattle.theory_machine.proofs.SiteOrder.{after_append, held_or_done}

no_install : (ds : List Deed) → ((epoch clock : ℕ) (log : List Line) → In (Installs epoch clock log) ds → ⊥)
    → HaveNoInstall ds
no_install [] none = tt
no_install (Grants t items view ∷ ds) none = no_install ds (λ e c log h. none e c log (inr h))
no_install (Prepares t ∷ ds) none = no_install ds (λ e c log h. none e c log (inr h))
no_install (LearnsCommit t stamp ∷ ds) none = no_install ds (λ e c log h. none e c log (inr h))
no_install (LearnsAbort t ∷ ds) none = no_install ds (λ e c log h. none e c log (inr h))
no_install (Closes ∷ ds) none = no_install ds (λ e c log h. none e c log (inr h))
no_install (Installs k c log ∷ ds) none = none k c log (inl refl)
no_install (Rises ∷ ds) none = no_install ds (λ e c log h. none e c log (inr h))

module _ (decl : Declaration) (acts : List Act) (run : IsRun decl acts) where
  wl : StateLaws decl (state acts)
  wl = laws decl acts run

  -- what the client counted is held until the first Done or the next Install
  pub counted_grants_are_held : (g : Granted) (item : Item) (since : List Deed) → In g (state acts).counted
      → In item g.items → (state acts).status g.tx ≢ Aborted → IsBound (state acts) g
      → IsSince (state acts) g since → AreBeforeDone g.tx since
      → In item (items_of g.tx (site_after ((state acts).deeds g.site)).held)
  counted_grants_are_held g item since hg hi alive bound split free =
      let k = wl.counted g hg in
      let both : Grants g.tx g.items g.view ∷ k.post ≡ Grants g.tx g.items g.view ∷ since =
      append_cancel_left g.before (Grants g.tx g.items g.view ∷ k.post) (Grants g.tx g.items g.view ∷ since)
      (sym k.split ∙ split) in
      let same : k.post ≡ since = cc in
      let eq : site_after ((state acts).deeds g.site) ≡ site_from
      (after_deed (site_after g.before) (Grants g.tx g.items g.view)) k.post = ap site_after k.split
      ∙ after_append g.before (Grants g.tx g.items g.view ∷ k.post) empty_site in
      let spares : SparesUntilDone g.tx false k.post =
      elim bound [ inl life ↦ k.unvoted alive life | inr vote ↦ (k.voted alive vote).0 ] in
      let none : HaveNoInstall k.post = no_install k.post
      (λ e c log h. free.installs e c log (subst (λ (ds : List Deed). In (Installs e c log) ds) same h)) in
      elim (held_or_done k.post g.tx item (after_deed (site_after g.before) (Grants g.tx g.items g.view))
      (holds_granted g item k.fresh hi) spares none) [
        | inl held ↦ subst (λ (x : Site). In item (items_of g.tx x.held)) (sym eq) held
        | inr d ↦ absurd (free.done d.stamp (subst (λ (ds : List Deed). In (LearnsCommit g.tx d.stamp) ds) same
            (ended decl acts run k.post g.tx d)))
      ]

  -- a stamp has passed all that its transaction counted
  pub stamps_pass_what_was_counted : (c : CommitRecord) (g : Granted) → In c (state acts).records
      → In g (state acts).counted → g.tx ≡ c.tx → HasPassed c.stamp.clock g
  stamps_pass_what_was_counted c g hc hg its =
      let r = wl.record_of c.tx c (committed_record ((state acts).status c.tx) c (wl.written c hc)) in
      let high : g.clock < c.stamp.clock = (r.agreed g hg its).1 in
      let f = wl.facts g (wl.known g hg) in
      record {
        grant = high;
        lines = λ l h. (let low : l.stamp.clock ≤ g.clock = f.passes_lines l h in omega arith);
        done = λ d h. (let low : d.stamp.clock ≤ g.clock = f.passes_done d.tx d.stamp h in omega arith);
        installs = λ e at log h. (let low : at ≤ g.clock = f.passes_installs e at log h in omega arith);
      }

-- A site's clock has passed the lines that it knows, through falls.
use Rattle.std.proofs.Common.{◌≡◌, ◌≤◌, ℕ, Bool, true, false, List, [], inl, Some, slice_get, sym, ◌∙◌, subst, arith}
use Rattle.std.proofs.Common.{ltb-true}
use Rattle.qc_core.specs.Vocabulary.{IsLawfulWithFalls, IsShown, is_up}
use Rattle.qc_core.proofs.SiteLines.{began_shows}
use Rattle.qc_decl.specs.Vocabulary.{IsAccepted, actors, is_site}
use Rattle.qc_decl.specs.declared.declaration.Declaration.{Declaration}
use Rattle.qc_entry.specs.Vocabulary.{union}
use Rattle.qc_entry.specs.declared.line.Line.{Line}
use Rattle.laws_votes.proofs.Nets.{net, now, reached, refined}
use Rattle.qc_link.specs.Vocabulary.{most_actors}
use Rattle.qc_list.specs.Vocabulary.{In}
use Rattle.laws_turns.proofs.FallKept.{clients_rise_with_own_stamps_where_records_are_kept}
use Rattle.laws_turns.proofs.FallServed.{sites_are_what_their_steps_show_with_falls}
use Rattle.qc_msg.specs.Vocabulary.{Entry, deeds}
use Rattle.qc_msg.specs.declared.record.Record.{Record}
use Rattle.laws_refinement.specs.Vocabulary.{SiteMirrors}
use Rattle.qc_promise.specs.Vocabulary.{Kept, clock_shown, log_shown}
use Rattle.laws_reach.proofs.Stood.{in_site}
use Rattle.qc_script.specs.Vocabulary.{IsScriptFor, RunsWithFalls}
use Rattle.qc_script.specs.declared.script.Script.{Script}
use Rattle.laws_reach.proofs.RunLaws.{same_site}

module _ (fits : ℕ → List Record → Type 0) (decl : Declaration) (script : Script) (h : List Entry)
    (open_inputs : List Bool) (accepted : IsAccepted decl) (sound : IsScriptFor decl script)
    (run : RunsWithFalls (IsLawfulWithFalls decl) fits decl script h open_inputs) (kept : Kept h) where
  few : actors decl ≤ most_actors
  few = let s = accepted.sites in let c = accepted.clients in omega arith

  module _ (site : ℕ) (is : is_site decl site ≡ true) (free : slice_get open_inputs site ≡ Some false)
      (up : is_up (deeds site [] h) ≡ true) where
    -- the net's site is what its deeds show
    pub shown : IsShown (deeds site [] h) ((net fits decl script h open_inputs accepted sound run kept).sites site)
    shown =
        let s = sites_are_what_their_steps_show_with_falls decl script fits few h open_inputs run
        (clients_rise_with_own_stamps_where_records_are_kept decl script fits few h open_inputs run kept) site
        (ltb-true site decl.sites is) free up in
        subst (IsShown (deeds site [] h)) (same_site s.0
        ((net fits decl script h open_inputs accepted sound run kept).sites site)
        (sym s.1 ∙ (reached fits decl script h open_inputs accepted sound run kept).actors_are site (inl is) up free
        ∙ in_site decl (net fits decl script h open_inputs accepted sound run kept) site is)) s.2

    pub mirrors : SiteMirrors decl ((net fits decl script h open_inputs accepted sound run kept).sites site)
        ((now fits decl script h open_inputs accepted sound run kept).deeds site)
        ((now fits decl script h open_inputs accepted sound run kept).life site)
    mirrors = (refined fits decl script h open_inputs accepted sound run kept).agrees.sites site is
        ((reached fits decl script h open_inputs accepted sound run kept).up_is site (inl is) ∙ up)

    pub sites_clocks_pass_their_lines_through_falls : (line : Line) → In line (log_shown (deeds site [] h))
        → line.stamp.clock ≤ clock_shown (deeds site [] h)
    sites_clocks_pass_their_lines_through_falls line among =
        let low : line.stamp.clock ≤ ((net fits decl script h open_inputs accepted sound run kept).sites site).clock =
        mirrors.passed line (mirrors.logged line
        (subst (In line) (λ i. union ((began_shows (deeds site [] h) ∙ sym shown.began) i) (sym shown.log i))
        among)) in
        let same : ((net fits decl script h open_inputs accepted sound run kept).sites site).clock ≡ clock_shown
        (deeds site [] h) = shown.clock in
        omega arith

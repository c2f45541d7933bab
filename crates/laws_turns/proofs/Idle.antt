-- In a run in which nobody falls no turn is lawful but a site's or a client's: the administrator takes inputs at most,
-- and does nothing.
use Rattle.std.proofs.Common.{◌≡◌, ◌≤◌, ℕ, nat_lt, Bool, true, false, cond, List, [], ◌∷◌, ◌-◌, Some, None, slice_get}
use Rattle.std.proofs.Common.{refl, sym, subst}
use Rattle.std.specs.List.{AllByRecursion as Every}
use Rattle.std.proofs.lemmas.Bool.{ltb-false, ltb-true}
use Rattle.qc_core.proofs.ByNumber.{past_no_client, past_no_site}
use Rattle.qc_core.specs.Vocabulary.{Acts, IsLawful}
use Rattle.qc_core.specs.Acts as acts
use Rattle.qc_client.specs.Vocabulary.{client_after}
use Rattle.qc_decl.specs.Vocabulary.{actors, administrator, is_client, is_site}
use Rattle.qc_decl.specs.declared.declaration.Declaration.{Declaration}
use Rattle.qc_list.proofs.Members.{every-append}
use Rattle.qc_msg.specs.declared.turn.Turn.{Turn}
use Rattle.qc_msg.specs.Vocabulary.{Deed, Entry, Falls, Rises, Sends, Takes, Tells, Writes, deeds}
use Rattle.qc_script.specs.Vocabulary.{Runs}
use Rattle.qc_script.specs.declared.script.Script.{Script}
use Rattle.qc_site.specs.Vocabulary.{site_after}
use Rattle.laws_turns.specs.Vocabulary.{ActsIn}
use Rattle.laws_turns.proofs.Acted.{has_entry, others_do_nothing, actors_take_and_post_by_turns}

abbrev pub IsInput : Deed → Type 0
IsInput (Takes given) = Unit {0}
IsInput (Writes written) = ⊥
IsInput (Sends number to message) = ⊥
IsInput (Tells reply) = ⊥
IsInput (Falls cause pending) = ⊥
IsInput (Rises records) = ⊥

module _ (decl : Declaration) (a : ℕ) (past : administrator decl ≤ a) where
  pub no_turn : (ds : List Deed) (turn : Turn) → IsLawful decl a ds turn → ⊥
  no_turn ds turn law = by (is_site decl a) (is_client decl a) (past_no_site decl a past)
      (past_no_client decl a past) law
    where
      by : (s c : Bool) → s ≡ false → c ≡ false
          → cond s (Some (site_after decl a ds).turn) (cond c (Some (client_after decl (a - decl.sites) ds).turn) None)
          ≡ Some turn → ⊥
      by true c none no_client called = let no : ⊥ = cc in no
      by false true none no_client called = let no : ⊥ = cc in no
      by false false none no_client called = let no : ⊥ = cc in no

  acts_idle : (ds : List Deed) (t : Bool) (n : ℕ) → Acts decl a ds t n → Every IsInput ds
  acts_idle ds t n acts.starts = tt
  acts_idle ds t n (acts.takes before given m first may) =
      every-append IsInput before (Takes given ∷ []) (acts_idle before false m first) (tt, tt)
  acts_idle ds t n (acts.posts before turn m first done low law) = absurd (no_turn before turn law)

  pub idle : (script : Script) (h : List Entry) (open_inputs : List Bool)
      → Runs (IsLawful decl) decl script h open_inputs → Every IsInput (deeds a [] h)
  idle script h open_inputs run = by (nat_lt a (actors decl)) refl
    where
      at : (t : Bool) × (slice_get open_inputs a ≡ Some t) → Every IsInput (deeds a [] h)
      at place =
          let r : ActsIn decl a h place.0 =
          actors_take_and_post_by_turns decl script h open_inputs run a place.0 place.1 in
          acts_idle (deeds a [] h) place.0 r.above r.acts

      by : (t : Bool) → nat_lt a (actors decl) ≡ t → Every IsInput (deeds a [] h)
      by true low = at (has_entry (IsLawful decl) decl script h open_inputs run a (ltb-true a (actors decl) low))
      by false high =
          subst (λ (ds : List Deed). Every IsInput ds)
          (sym (others_do_nothing (IsLawful decl) decl script h open_inputs run a (ltb-false a (actors decl) high)))
          tt

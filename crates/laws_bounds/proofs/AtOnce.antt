-- In each run with falls one call with the number of the first message of a turn gives what its messages give one after
-- another.
use Rattle.std.proofs.Common.{◌≡◌, ℕ, Bool, true, false, List, [], ◌∷◌, ◌++◌, fold, Some, slice_get, refl, sym, ap}
use Rattle.std.proofs.Common.{◌∙◌}
use Rattle.std.proofs.lemmas.List.Sums.{fold-append}
use Rattle.qc_admin.specs.Vocabulary.{IsNumberedAtOnce}
use Rattle.qc_admin.proofs.AtOnce.{takes_now}
use Rattle.qc_epoch.specs.Vocabulary.{Admin, admin_takes}
use Rattle.qc_client.specs.declared.client.Client.{Client}
use Rattle.qc_client.specs.Vocabulary.{client_takes}
use Rattle.qc_core.specs.declared.actor.Actor.{Actor}
use Rattle.qc_core.specs.declared.actor.Actor.TheVariants as actors_of
use Rattle.qc_core.specs.Vocabulary.{ActorMove, IsLawfulWithFalls, MayTake, actor_after, actor_does, actor_rises}
use Rattle.qc_core.specs.Vocabulary.{actor_sent, actor_takes, down_takes, is_running}
use Rattle.qc_core.proofs.PostsByTurns.{called_turn}
use Rattle.qc_core.proofs.ClientLands.{lands}
use Rattle.qc_core.proofs.ClientStands.{Lands}
use Rattle.qc_core.proofs.LivesOfActors.{rises as after_rises}
use Rattle.qc_decl.specs.Vocabulary.{IsAccepted, is_client, is_site}
use Rattle.qc_decl.specs.declared.declaration.Declaration.{Declaration}
use Rattle.qc_msg.specs.declared.record.Record.{Record}
use Rattle.qc_msg.specs.declared.step.Input.{Input}
use Rattle.qc_msg.specs.declared.turn.Turn.{Turn}
use Rattle.qc_msg.specs.Vocabulary.{Deed, Entry, Rises, deeds, turn_deeds}
use Rattle.qc_recover.specs.Vocabulary.{site_rises}
use Rattle.qc_script.specs.Vocabulary.{RunsWithFalls}
use Rattle.qc_script.specs.declared.script.Script.{Script}
use Rattle.qc_site.specs.Vocabulary.{site_takes}
use Rattle.laws_bounds.specs.Vocabulary.{AllRiseFit}
use Rattle.laws_bounds.proofs.Calling.{known_at}
use Rattle.laws_bounds.proofs.Standing.{IsOpen, IsReady}
use Rattle.qc_core.proofs.ByNumber.{rises_by}
use Rattle.laws_bounds.proofs.TurnsPosted.{admin_turn, client_turn, down_turn, site_turn}
use Rattle.qc_core.proofs.ActorLaws.{input as after_takes}

module _ (decl : Declaration) (a : ℕ) where
  -- an input

  input_sent : (accepted : IsAccepted decl) (v : Actor) (ds : List Deed) (g : Input) (first : ℕ)
      → IsReady decl (is_running ds) v → MayTake ds g
      → (fold (actor_does decl a) (actor_takes decl v g) (turn_deeds first (actor_takes decl v g).turn)).actor
      ≡ actor_sent (actor_takes decl v g).actor first
  input_sent accepted (actors_of.Site s) ds g first ready may =
      ap (λ (m : ActorMove). m.actor) (site_turn decl a (site_takes decl s g) first (site_takes decl s g).turn)
  input_sent accepted (actors_of.Client c) ds g first ready may =
      let on : Lands decl _ first (client_takes decl c g) =
      lands decl ds c g first accepted.has_site accepted.sites ready.stands may in
      ap (λ (m : ActorMove). m.actor) (client_turn decl a (client_takes decl c g) first (client_takes decl c g).turn)
      ∙ ap (λ (d : Client). actors_of.Client d) on.once
  input_sent accepted (actors_of.Admin m) ds g first ready may =
      let on : IsNumberedAtOnce decl (admin_takes decl m g) = takes_now decl m g accepted ready.holds in
      ap (λ (m : ActorMove). m.actor) (admin_turn decl a (admin_takes decl m g) first (admin_takes decl m g).turn)
      ∙ ap (λ (d : Admin). actors_of.Admin d) (on.told first)
  input_sent accepted actors_of.Down ds g first ready may =
      ap (λ (m : ActorMove). m.actor) (down_turn decl a (down_takes g) first (down_takes g))

  -- a turn of this input, or rise

  posted : (ds : List Deed) (turn : Turn) (first : ℕ) (m : ActorMove) → actor_after decl a ds ≡ m
      → IsLawfulWithFalls decl a ds turn
      → (fold (actor_does decl a) m (turn_deeds first m.turn)).actor ≡ actor_sent m.actor first
      → (actor_after decl a (ds ++ turn_deeds first turn)).actor ≡ actor_sent (actor_after decl a ds).actor first
  posted ds turn first m is law sent =
      ap (λ (n : ActorMove). n.actor) (fold-append (actor_does decl a) _ ds (turn_deeds first turn))
      ∙ ap (λ (n : ActorMove). (fold (actor_does decl a) n (turn_deeds first turn)).actor) is
      ∙ ap (λ (t : Turn). (fold (actor_does decl a) m (turn_deeds first t)).actor)
      (sym (ap (λ (n : ActorMove). n.turn) (sym is) ∙ called_turn decl a ds turn law))
      ∙ sent
      ∙ ap (λ (n : ActorMove). actor_sent n.actor first) (sym is)

  rise_sent : (rs : List Record) (first : ℕ)
      → (fold (actor_does decl a) (actor_rises decl a rs) (turn_deeds first (actor_rises decl a rs).turn)).actor
      ≡ actor_sent (actor_rises decl a rs).actor first
  rise_sent rs first = by (is_site decl a) (is_client decl a)
    where
      by : (site client : Bool)
          →
          (fold (actor_does decl a) (rises_by decl a rs site client)
          (turn_deeds first (rises_by decl a rs site client).turn)).actor
          ≡ actor_sent (rises_by decl a rs site client).actor first
      by true client =
          ap (λ (m : ActorMove). m.actor) (site_turn decl a (site_rises decl a rs) first (site_rises decl a rs).turn)
      by false true = refl
      by false false = refl

  pub risen_sent : (ds : List Deed) (rs : List Record) (turn : Turn) (first : ℕ)
      → IsLawfulWithFalls decl a (ds ++ Rises rs ∷ []) turn
      → (actor_after decl a ((ds ++ Rises rs ∷ []) ++ turn_deeds first turn)).actor ≡ actor_sent
      (actor_after decl a (ds ++ Rises rs ∷ [])).actor first
  risen_sent ds rs turn first law =
      posted (ds ++ Rises rs ∷ []) turn first (actor_rises decl a rs) (after_rises decl a ds rs) law
      (rise_sent rs first)

pub run_sent : (decl : Declaration) (script : Script) (fits : ℕ → List Record → Type 0) (h : List Entry)
    (open_inputs : List Bool)
    → RunsWithFalls (IsLawfulWithFalls decl) fits decl script h open_inputs → IsAccepted decl → AllRiseFit decl h
    → (a : ℕ) (turn : Turn) (first : ℕ)
    → slice_get open_inputs a ≡ Some true → IsLawfulWithFalls decl a (deeds a [] h) turn
    → (actor_after decl a (deeds a [] h ++ turn_deeds first turn)).actor ≡ actor_sent
    (actor_after decl a (deeds a [] h)).actor first
run_sent decl script fits h open_inputs run accepted fit a turn first taken law =
    let o : IsOpen decl accepted a (deeds a [] h) =
    known_at decl script fits h open_inputs run accepted fit a true taken in
    posted decl a (deeds a [] h) turn first (actor_takes decl (actor_after decl a o.before).actor o.input)
    (ap (actor_after decl a) o.is ∙ after_takes decl a o.before o.input) law
    (input_sent decl a accepted (actor_after decl a o.before).actor o.before o.input first o.ready o.may)

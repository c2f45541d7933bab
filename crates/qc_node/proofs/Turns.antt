-- A turn in a run: what an actor's calls ask as it takes an input, and what it is once its turn was posted.
use Rattle.std.proofs.Common.{◌≡◌, ℕ, ◌<◌, Bool, true, false, List, [], ◌++◌, length, Some, None, refl, ap, ◌∙◌, cond}
use Rattle.std.proofs.Common.{inl, inr, slice_get, arith, eq-eqb}
use Rattle.std.proofs.lemmas.Bool.{cases_lt}
use Rattle.laws_bounds.specs.Vocabulary.{AllRiseFit, IsFailedShort, IsTurnShort}
use Rattle.laws_bounds.proofs.AtOnce.{run_sent}
use Rattle.laws_bounds.proofs.Calling.{actor_asks_few, actor_fits, promises, turn_failed, turn_short}
use Rattle.laws_bounds.proofs.Rising.{run_rises_fit}
use Rattle.laws_bounds.proofs.RunsFit.{messages_fit}
use Rattle.qc_core.specs.Vocabulary.{ActorFits, AsksFew, IsLawfulWithFalls, actor_after, actor_sent, turn_with_falls}
use Rattle.qc_core.specs.Vocabulary.{with_record}
use Rattle.qc_core.proofs.ActorLaws.{other_client}
use Rattle.qc_decl.specs.Vocabulary.{IsAccepted, actors, administrator, is_administrator, is_client, is_site}
use Rattle.qc_decl.specs.Vocabulary.{most_steps}
use Rattle.qc_decl.specs.declared.declaration.Declaration.{Declaration}
use Rattle.qc_mailbox.proofs.FallMail.{ready_messages_were_sent_through_falls}
use Rattle.qc_msg.specs.declared.step.Input.{Input}
use Rattle.qc_msg.specs.declared.step.Input.TheVariants as given
use Rattle.qc_msg.specs.declared.turn.Turn.{Turn}
use Rattle.qc_msg.specs.Vocabulary.{Deed, Entry, MayEnd, WasSentTo, deeds, mail, turn_deeds}
use Rattle.qc_script.specs.Vocabulary.{RunsWithFalls, ready}
use Rattle.qc_script.specs.declared.script.Script.{Script}
use Rattle.qc_process.specs.Vocabulary.{IsReadable}
use Rattle.qc_node.specs.Vocabulary.{fits_of}
use Rattle.qc_list.proofs.Members.{In-at}

-- every actor has a turn for its last input, whatever becomes of the turn's record

has_turn : (decl : Declaration) (a : ℕ) (ds : List Deed) → a < actors decl
    → turn_with_falls decl a ds ≡ Some (actor_after decl a ds).turn
has_turn decl a ds low = by (is_site decl a) (is_client decl a) (is_administrator decl a) refl refl refl
  where
    turn : Turn
    turn = (actor_after decl a ds).turn

    at_last : is_client decl a ≡ false → is_site decl a ≡ false → is_administrator decl a ≡ false → ⊥
    at_last none no_site no_admin = elim (cases_lt a (administrator decl)) [
      | inl before ↦ (let is : is_client decl a ≡ true = other_client decl a before no_site in let no : ⊥ = cc in no)
      | inr past ↦ (let same : a ≡ administrator decl = omega arith in
          let is : is_administrator decl a ≡ true = eq-eqb a (administrator decl) same in let no : ⊥ = cc in no)
    ]

    by : (s c m : Bool) → is_site decl a ≡ s → is_client decl a ≡ c → is_administrator decl a ≡ m
        → cond s (Some turn) (cond c (Some turn) (cond m (Some turn) None)) ≡ Some turn
    by true c m site client admin = refl
    by false true m site client admin = refl
    by false false true site client admin = refl
    by false false false site client admin = absurd (at_last client site admin)

pub turn_is_lawful : (decl : Declaration) (a : ℕ) (ds : List Deed) (turn : Turn) → a < actors decl
    → (actor_after decl a ds).turn ≡ with_record turn → MayEnd turn.write turn.append → IsLawfulWithFalls decl a ds turn
turn_is_lawful decl a ds turn low is may = record {
  called_for = has_turn decl a ds low ∙ ap (λ (t : Turn). Some t) is;
  may_end = may;
}

module _ (decl : Declaration) (script : Script) (accepted : IsAccepted decl) (a : ℕ) (h : List Entry)
    (inputs : List Bool) (run : RunsWithFalls (IsLawfulWithFalls decl) (fits_of decl) decl script h inputs) where
  pub rises_fit : AllRiseFit decl h
  rises_fit = run_rises_fit decl script (fits_of decl) (λ b rs fit. fit.0) h inputs run

  -- before the input

  pub fits : length h < most_steps → slice_get inputs a ≡ Some false
      → ActorFits (actor_after decl a (deeds a [] h)).actor
  fits short free = actor_fits decl script (fits_of decl) h inputs run accepted rises_fit a short free

  readable_if : length h < most_steps → (g : Input) → WasSentTo a (mail h) g → IsReadable g
  readable_if short (given.Called command) is = tt
  readable_if short (given.Got e) is = (
    promises decl script (fits_of decl) h inputs run e rises_fit short (In-at (mail h) e.number e is.0),
    messages_fit decl script (fits_of decl) accepted h inputs run rises_fit e (In-at (mail h) e.number e is.0),
  )
  readable_if short (given.Lost n) is = tt

  pub readable : length h < most_steps → (g : Input) → ready decl script a h ≡ Some g → IsReadable g
  readable short g is =
      readable_if short g
      (ready_messages_were_sent_through_falls (IsLawfulWithFalls decl) (fits_of decl) decl script h inputs run a g
      is)

  -- after it: what is posted is lawful, and goes to actors; and the actor's call that numbers its messages

  module _ (taken : slice_get inputs a ≡ Some true) (turn : Turn)
      (lawful : IsLawfulWithFalls decl a (deeds a [] h) turn) where
    pub short_turn : IsTurnShort turn
    short_turn = turn_short decl script (fits_of decl) h inputs run accepted rises_fit a turn taken lawful

    pub short_failed : IsFailedShort turn
    short_failed = turn_failed decl script (fits_of decl) h inputs run accepted rises_fit a turn taken lawful

    pub asks_few : AsksFew (actor_after decl a (deeds a [] h)).actor
    asks_few = actor_asks_few decl script (fits_of decl) h inputs run accepted rises_fit a taken

    pub numbered : (first : ℕ) → (actor_after decl a (deeds a [] h ++ turn_deeds first turn)).actor
        ≡ actor_sent (actor_after decl a (deeds a [] h)).actor first
    numbered first =
        run_sent decl script (fits_of decl) h inputs run accepted rises_fit a turn first taken lawful

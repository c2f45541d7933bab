-- All deeds of a client are due, and its account and it are tied where it has no open input.
use Rattle.std.proofs.Common.{◌≡◌, ℕ, ◌-◌, Bool, true, false, List, [], ◌∷◌, ◌++◌, refl, sym, ap, ◌∙◌, subst, arith}
use Rattle.std.specs.Prelude.{fold}
use Rattle.std.proofs.lemmas.List.Sums.{fold-append}
use Rattle.qc_decl.specs.declared.declaration.Declaration.{Declaration}
use Rattle.qc_decl.specs.Vocabulary.{is_client}
use Rattle.qc_core.specs.Vocabulary.{Acts, AreSteady, IsLawful, MayTake, posts, starts, takes}
use Rattle.qc_client.specs.Vocabulary.{ClientMove, client_after, client_does, client_takes, moved, new_client}
use Rattle.qc_msg.specs.declared.step.Input.{Input}
use Rattle.qc_msg.specs.declared.turn.Turn.{Turn}
use Rattle.qc_msg.specs.Vocabulary.{Deed, Takes, quiet, turn_deeds}
use Rattle.qc_promise.specs.Vocabulary.{Account, IsInputDue, account_at, account_taken, new_account, running_row}
use Rattle.laws_due.specs.Vocabulary.{AreByRows, Goes, Holds, Ties, rests}
use Rattle.laws_due.proofs.Asks.{due_more}
use Rattle.laws_due.proofs.Commands.{lawful_turn, may_give}
use Rattle.laws_due.proofs.Fits.{takes_fit}
use Rattle.laws_due.proofs.Nothing.{tied_none}
use Rattle.laws_due.proofs.Step.{inputs_are_answered_as_is_due}
use Rattle.qc_core.proofs.Steady.{acts_steady}

module _ (decl : Declaration) (a : ℕ) (client : is_client decl a ≡ true) where
  abbrev pub account_of : List Deed → Account
  account_of ds = fold (account_at decl) (new_account (a - decl.sites)) ds

  abbrev pub move_of : List Deed → ClientMove
  move_of ds = client_after decl (a - decl.sites) ds

  pub record IsAtRest (ds : List Deed) : Type 0 where
    pub due : AreByRows decl (new_account (a - decl.sites)) ds
    pub ties : Ties decl (account_of ds) (move_of ds).client
    pub holds : Holds decl (move_of ds).client

  pub record IsAtInput (ds : List Deed) : Type 0 where
    pub before : List Deed
    pub given : Input
    pub is : ds ≡ before ++ Takes given ∷ []
    pub rest : IsAtRest before
    pub up : AreSteady before
    pub may : MayTake before given

  abbrev pub IsAt : List Deed → Bool → Type 0
  IsAt ds true = IsAtInput ds
  IsAt ds false = IsAtRest ds

  at_first : IsAtRest []
  at_first = record {
    due = tt;
    ties = rests (record {
      command = tt;
      requests = refl;
      written = refl;
      begun = tt;
      front = refl;
      desk = record { client = refl; clock = omega arith; epoch = omega arith; voting = refl };
    });
    holds = record { front = refl; numbered = tt };
  }

  after_take : (ds : List Deed) (g : Input) → move_of (ds ++ Takes g ∷ []) ≡ client_takes decl (move_of ds).client g
  after_take ds g = fold-append (client_does decl) (moved (new_client (a - decl.sites)) quiet) ds (Takes g ∷ [])

  account_take : (ds : List Deed) (g : Input) → account_of (ds ++ Takes g ∷ []) ≡ account_taken (account_of ds) g
  account_take ds g = fold-append (account_at decl) (new_account (a - decl.sites)) ds (Takes g ∷ [])

  input_due : (ds : List Deed) (g : Input) → IsAtRest ds → AreSteady ds → MayTake ds g
      → IsInputDue (account_of ds) (running_row decl (account_of ds) false) g
  input_due ds g r up may = (
    tied_none decl (account_of ds) (move_of ds).client r.holds r.ties,
    may_give decl (a - decl.sites) ds up g may,
  )

  at_turn : (ds : List Deed) (g : Input) (first : ℕ) → IsAtRest ds → AreSteady ds → MayTake ds g
      → IsAtRest ((ds ++ Takes g ∷ []) ++ turn_deeds first (client_takes decl (move_of ds).client g).turn)
  at_turn ds g first r up may = record {
    due = due_more decl (new_account (a - decl.sites)) (ds ++ Takes g ∷ []) (turn_deeds first move.turn)
        (due_more decl (new_account (a - decl.sites)) ds (Takes g ∷ []) r.due (input_due ds g r up may, tt))
        (subst (λ (d : Account). AreByRows decl d (turn_deeds first move.turn)) (sym (account_take ds g)) goes.due);
    ties = subst (λ (d : Account). Ties decl d (move_of ((ds ++ Takes g ∷ []) ++ turn_deeds first move.turn)).client)
        (sym (fold-append (account_at decl) (new_account (a - decl.sites)) (ds ++ Takes g ∷ [])
        (turn_deeds first move.turn) ∙ ap (λ (d : Account). fold (account_at decl) d (turn_deeds first move.turn))
        (account_take ds g)))
        (subst (λ (m : ClientMove). Ties decl (fold (account_at decl) (account_taken (account_of ds) g)
        (turn_deeds first move.turn)) m.client) (sym moves) goes.ties);
    holds = subst (λ (m : ClientMove). Holds decl m.client) (sym moves)
        (takes_fit decl first (move_of ds).client g r.holds);
  }
    where
      move : ClientMove
      move = client_takes decl (move_of ds).client g

      moves : move_of ((ds ++ Takes g ∷ []) ++ turn_deeds first (client_takes decl (move_of ds).client g).turn)
          ≡ fold (client_does decl) (client_takes decl (move_of ds).client g)
          (turn_deeds first (client_takes decl (move_of ds).client g).turn)
      moves =
          fold-append (client_does decl) (moved (new_client (a - decl.sites)) quiet) (ds ++ Takes g ∷ [])
          (turn_deeds first (client_takes decl (move_of ds).client g).turn)
          ∙ ap (λ (m : ClientMove). fold (client_does decl) m
          (turn_deeds first (client_takes decl (move_of ds).client g).turn)) (after_take ds g)

      goes : Goes decl first (account_taken (account_of ds) g) (client_takes decl (move_of ds).client g)
      goes = inputs_are_answered_as_is_due decl first (account_of ds) (move_of ds).client r.holds g
          (may_give decl (a - decl.sites) ds up g may) r.ties

  pub client_acts : (ds : List Deed) (b : Bool) (n : ℕ) → Acts decl a ds b n → IsAt ds b
  client_acts ds b n starts = at_first
  client_acts ds b n (takes older g m acts may) =
      record {
        before = older;
        given = g;
        is = refl;
        rest = client_acts older false m acts;
        up = acts_steady decl a older false m acts;
        may = may;
      }
  client_acts ds b n (posts older turn m first acts low law) = by (client_acts older true m acts)
    where
      by : IsAtInput older → IsAtRest (older ++ turn_deeds first turn)
      by at =
          subst (λ (v : List Deed). IsAtRest (v ++ turn_deeds first turn)) (sym at.is)
          (subst (λ (t : Turn). IsAtRest ((at.before ++ Takes at.given ∷ []) ++ turn_deeds first t))
          (sym (lawful_turn decl a older turn client law ∙ ap (λ (v : List Deed). (move_of v).turn) at.is
          ∙ ap (λ (m : ClientMove). m.turn) (after_take at.before at.given)))
          (at_turn at.before at.given first at.rest at.up at.may))

  pub deeds_of_clients_are_by_rows : (ds : List Deed) (b : Bool) (n : ℕ) → Acts decl a ds b n
      → AreByRows decl (new_account (a - decl.sites)) ds
  deeds_of_clients_are_by_rows ds b n acts = by b (client_acts ds b n acts)
    where
      by : (z : Bool) → IsAt ds z → AreByRows decl (new_account (a - decl.sites)) ds
      by false at = at.due
      by true at = subst (AreByRows decl (new_account (a - decl.sites))) (sym at.is)
          (due_more decl (new_account (a - decl.sites)) at.before (Takes at.given ∷ []) at.rest.due
          (input_due at.before at.given at.rest at.up at.may, tt))

  pub accounts_are_their_clients : (ds : List Deed) (n : ℕ) → Acts decl a ds false n
      → Ties decl (account_of ds) (move_of ds).client
  accounts_are_their_clients ds n acts = (client_acts ds false n acts).ties

  pub clients_hold : (ds : List Deed) (n : ℕ) → Acts decl a ds false n → Holds decl (move_of ds).client
  clients_hold ds n acts = (client_acts ds false n acts).holds

  pub turns_tell_their_rows : (ds : List Deed) (n : ℕ) (turn : Turn) → Acts decl a ds true n → IsLawful decl a ds turn
      → turn.told ≡ running_row decl (account_of ds) false
  turns_tell_their_rows ds n turn acts law =
      let at : IsAtInput ds = client_acts ds true n acts in
      ap (λ (t : Turn). t.told) (lawful_turn decl a ds turn client law ∙ ap (λ (v : List Deed). (move_of v).turn) at.is
      ∙ ap (λ (m : ClientMove). m.turn) (after_take at.before at.given))
      ∙ (inputs_are_answered_as_is_due decl 0 (account_of at.before) (move_of at.before).client at.rest.holds at.given
      (may_give decl (a - decl.sites) at.before at.up at.given at.may) at.rest.ties).tells
      ∙ sym (ap (λ (v : List Deed). running_row decl (account_of v) false) at.is
      ∙ ap (λ (d : Account). running_row decl d false) (account_take at.before at.given))

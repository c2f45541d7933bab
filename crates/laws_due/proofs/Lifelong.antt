-- All that a client does through its falls and rises is due, where what comes to it is declared.
use Rattle.std.proofs.Common.{◌≡◌, ℕ, ◌-◌, Bool, true, false, List, [], ◌∷◌, ◌++◌, refl, sym, ap, ◌∙◌, subst}
use Rattle.std.specs.List.{AllByRecursion as Every}
use Rattle.std.proofs.lemmas.List.{append-nil}
use Rattle.qc_core.specs.declared.actor.Actor.{Actor}
use Rattle.qc_core.specs.Vocabulary.{ActorMove, IsLawfulWithFalls, Lives, MayReach, MayTake, actor_takes, is_up}
use Rattle.qc_core.specs.Vocabulary.{with_record}
use Rattle.qc_core.specs.Acts as acts
use Rattle.qc_core.specs.Lives as lives
use Rattle.qc_core.proofs.ActorLaws.{at_client}
use Rattle.qc_client.specs.Vocabulary.{new_client}
use Rattle.qc_decl.specs.declared.declaration.Declaration.{Declaration}
use Rattle.qc_decl.specs.Vocabulary.{is_client}
use Rattle.qc_msg.specs.declared.step.Input.{Input}
use Rattle.qc_msg.specs.declared.step.Input.TheVariants as inputs
use Rattle.qc_msg.specs.declared.turn.Turn.{Turn}
use Rattle.qc_msg.specs.Vocabulary.{Deed, MayEnd, Rises, Takes, deeds_as, first_epoch}
use Rattle.qc_promise.specs.Vocabulary.{AreRepliesDue}
use Rattle.laws_due.specs.Vocabulary.{Declares, IsDeclaredDeed, IsPlanned}
use Rattle.laws_due.proofs.Commands.{no_site}
use Rattle.laws_due.proofs.Courses.{clients_hold, accounts_are_their_clients}
use Rattle.laws_due.proofs.Fallings.{as_record, crashes_rest, input_free, unopened_rest}
use Rattle.laws_due.proofs.Happenings.{down_as, posted_as, rises_rest, takes_to}
use Rattle.laws_due.proofs.Standing.{AreDue, IsAt, IsAtInput, IsAtRest, IsFallen, IsTied, Stands, actor_more, no_act}
use Rattle.laws_due.proofs.Standing.{turn_is}
use Rattle.laws_due.proofs.Telling.{first_all, rest_all}

module _ (decl : Declaration) (a : ℕ) (client : is_client decl a ≡ true) (planned : IsPlanned decl first_epoch) where
  first_rest : IsAtRest decl a []
  first_rest = record {
    up = true;
    is = refl;
    due = λ ys behind dues. dues;
    stands = record {
      state = new_client (a - decl.sites);
      actor = ap (λ (m : ActorMove). m.actor) (at_client decl a [] tt (no_site decl a client) client);
      ties = accounts_are_their_clients decl a client [] 0 acts.starts;
      holds = clients_hold decl a client [] 0 acts.starts;
      within = record { up = refl; known = planned; current = tt; command = tt };
    };
  }

  -- the turn for an input, where the client is up, and where it is down

  posted_rest : (before : List Deed) (r : IsAtRest decl a before) → r.up ≡ true → IsTied decl a before → (g : Input)
      → MayTake before g → IsDeclaredDeed decl (Takes g)
      → (turn : Turn) (first : ℕ) → IsLawfulWithFalls decl a (before ++ Takes g ∷ []) turn
      → IsAtRest decl a ((before ++ Takes g ∷ []) ++ deeds_as turn.append first (with_record turn))
  posted_rest before r same s g may declared turn first law =
      subst (λ (t : Turn). MayEnd t.write turn.append
      → IsAtRest decl a ((before ++ Takes g ∷ []) ++ deeds_as turn.append first t))
      (sym (ap (λ (m : ActorMove). m.turn) (takes_to decl a client before r same s g may declared))
      ∙ turn_is decl a client (before ++ Takes g ∷ []) turn law)
      (posted_as decl a client before r same s g may declared turn.append first) law.may_end

  fallen_rest : (before : List Deed) (r : IsAtRest decl a before) → r.up ≡ false → IsFallen decl a before → (g : Input)
      → MayTake before g → MayReach (is_up before) g
      → (turn : Turn) (first : ℕ) → IsLawfulWithFalls decl a (before ++ Takes g ∷ []) turn
      → IsAtRest decl a ((before ++ Takes g ∷ []) ++ deeds_as turn.append first (with_record turn))
  fallen_rest before r same s (inputs.Called command) may reach turn first law =
      subst (λ (t : Turn). MayEnd t.write turn.append
      → IsAtRest decl a ((before ++ Takes (inputs.Called command) ∷ []) ++ deeds_as turn.append first t))
      (sym (ap (λ (m : ActorMove). m.turn) (actor_more decl a before (Takes (inputs.Called command) ∷ [])
      ∙ ap (λ (v : Actor). actor_takes decl v (inputs.Called command)) s.actor))
      ∙ turn_is decl a client (before ++ Takes (inputs.Called command) ∷ []) turn law)
      (down_as decl a client before r same s command may turn.append first) law.may_end
  fallen_rest before r same s (inputs.Got envelope) may reach turn first law =
      absurd (let no : true ≡ false = sym reach ∙ r.is ∙ same in let never : ⊥ = cc in never)
  fallen_rest before r same s (inputs.Lost number) may reach turn first law =
      absurd (let no : true ≡ false = sym reach ∙ r.is ∙ same in let never : ⊥ = cc in never)

  turn_rest : (before : List Deed) (r : IsAtRest decl a before) (g : Input) → MayTake before g
      → MayReach (is_up before) g → IsDeclaredDeed decl (Takes g)
      → (turn : Turn) (first : ℕ) → IsLawfulWithFalls decl a (before ++ Takes g ∷ []) turn
      → IsAtRest decl a ((before ++ Takes g ∷ []) ++ deeds_as turn.append first turn)
  turn_rest before r g may reach declared turn first law =
      subst (λ (v : List Deed). IsAtRest decl a ((before ++ Takes g ∷ []) ++ v)) (as_record turn.append first turn)
      (by r.up refl r.stands)
    where
      by : (up : Bool) → r.up ≡ up → Stands decl a up before
          → IsAtRest decl a ((before ++ Takes g ∷ []) ++ deeds_as turn.append first (with_record turn))
      by true same s = posted_rest before r same s g may declared turn first law
      by false same s = fallen_rest before r same s g may reach turn first law

  -- over all its deeds

  pub client_lives : (ds : List Deed) (b : Bool) (n : ℕ) → Lives decl a ds b n → Every (IsDeclaredDeed decl) ds
      → IsAt decl a ds b
  client_lives ds b n lives.starts all = first_rest
  client_lives ds b n (lives.takes older g m life may reach) all =
      record {
        before = older;
        given = g;
        is = refl;
        rest = client_lives older false m life (first_all (IsDeclaredDeed decl) older (Takes g ∷ []) all);
        may = may;
        reach = reach;
      }
  client_lives ds b n (lives.posts older turn m first life low law) all =
      by (client_lives older true m life (first_all (IsDeclaredDeed decl) older (deeds_as turn.append first turn) all))
    where
      by : IsAtInput decl a older → IsAtRest decl a (older ++ deeds_as turn.append first turn)
      by at =
          subst (λ (v : List Deed). IsAtRest decl a (v ++ deeds_as turn.append first turn)) (sym at.is)
          (turn_rest at.before at.rest at.given at.may at.reach
          (rest_all (IsDeclaredDeed decl) at.before (Takes at.given ∷ [])
          (subst (Every (IsDeclaredDeed decl)) at.is
          (first_all (IsDeclaredDeed decl) older (deeds_as turn.append first turn) all))).0
          turn first (subst (λ (v : List Deed). IsLawfulWithFalls decl a v turn) at.is law))
  client_lives ds b n (lives.crashes older m life up) all =
      crashes_rest decl a client older (client_lives older false m life (first_all (IsDeclaredDeed decl) older _ all))
  client_lives ds b n (lives.rises older kept turn m first life down low law) all =
      rises_rest decl a client planned older
      (client_lives older false m life (first_all (IsDeclaredDeed decl) older (Rises kept ∷ [])
      (first_all (IsDeclaredDeed decl) (older ++ Rises kept ∷ []) (deeds_as turn.append first turn) all)))
      kept turn first law
  client_lives ds b n (lives.unopened older cause m life down by_disk) all =
      unopened_rest decl a client older cause by_disk down
      (client_lives older false m life (first_all (IsDeclaredDeed decl) older _ all))

pub lives_of_clients_are_due : (decl : Declaration) (a : ℕ) → is_client decl a ≡ true
    → (ds : List Deed) (b : Bool) (n : ℕ)
    → Lives decl a ds b n → Declares decl ds → AreRepliesDue decl (a - decl.sites) ds
lives_of_clients_are_due decl a client ds b n life are =
    by b (client_lives decl a client are.first ds b n life are.deeds)
  where
    by : (z : Bool) → IsAt decl a ds z → AreRepliesDue decl (a - decl.sites) ds
    by false r = subst (AreDue decl a) (append-nil ds) (r.due [] (no_act [] refl r.up) tt)
    by true at =
        subst (AreDue decl a) (sym at.is)
        (at.rest.due (Takes at.given ∷ []) (no_act (Takes at.given ∷ []) refl at.rest.up)
        (input_free decl a client at.before at.rest at.given at.may, tt))

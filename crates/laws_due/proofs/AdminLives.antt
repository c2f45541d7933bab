-- All that the administrator does through his falls and rises is due, whatever the records that he rises with.
use Rattle.std.proofs.Common.{[], ◌≡◌, ◌≤◌, ℕ, ◌+◌, ◌==◌, Bool, true, false, List, ◌∷◌, ◌++◌, length, None, refl, sym}
use Rattle.std.proofs.Common.{ap, ◌∙◌, subst}
use Rattle.std.proofs.lemmas.List.{append-nil}
use Rattle.qc_core.specs.declared.actor.Actor.{Actor}
use Rattle.qc_core.specs.Vocabulary.{ActorMove, IsLawfulWithFalls, Lives, MayReach, MayTake, actor_takes, is_up}
use Rattle.qc_core.specs.Vocabulary.{with_record}
use Rattle.qc_core.specs.Lives as lives
use Rattle.qc_decl.specs.Vocabulary.{administrator}
use Rattle.qc_decl.specs.declared.declaration.Declaration.{Declaration}
use Rattle.qc_msg.specs.declared.step.Fall.TheVariants as causes
use Rattle.qc_msg.specs.declared.step.Input.{Input}
use Rattle.qc_msg.specs.declared.step.Input.TheVariants as inputs
use Rattle.qc_msg.specs.declared.turn.Appended.{Appended}
use Rattle.qc_msg.specs.declared.turn.Appended.TheVariants.{Done, Failed, Stopped}
use Rattle.qc_msg.specs.declared.turn.Turn.{Turn}
use Rattle.qc_msg.specs.Vocabulary.{Deed, Falls, MayEnd, Takes, deeds_as, sends_as}
use Rattle.qc_promise.specs.Vocabulary.{IsAdminDue}
use Rattle.laws_due.proofs.Standing.{no_act}
use Rattle.laws_due.proofs.Fallings.{as_record}
use Rattle.laws_due.proofs.AdminRest.{IsAtRest, IsFallen, IsTied, Stands, actor_more, input_due}
use Rattle.laws_due.proofs.AdminRises.{falls_alone, first_rest, rises_rest, turn_is, unopened_rest}
use Rattle.laws_due.proofs.AdminInputs.{down_as, posted_as, takes_to}

module _ (decl : Declaration) (some : (decl.sites == 0) ≡ false) where
  -- the turn for an input

  posted_rest : (n first : ℕ) → n ≤ first → (before : List Deed) (r : IsAtRest decl n before) → r.up ≡ true
      → IsTied decl n before → (g : Input) → MayTake before g
      → (turn : Turn) → IsLawfulWithFalls decl (administrator decl) (before ++ Takes g ∷ []) turn
      → IsAtRest decl (first + length (sends_as turn.append (with_record turn)))
      ((before ++ Takes g ∷ []) ++ deeds_as turn.append first (with_record turn))
  posted_rest n first low before r same s g may turn law =
      subst (λ (t : Turn). MayEnd t.write turn.append
      → IsAtRest decl (first + length (sends_as turn.append t))
      ((before ++ Takes g ∷ []) ++ deeds_as turn.append first t))
      (sym (ap (λ (m : ActorMove). m.turn) (takes_to decl some n first low before r same s g may))
      ∙ turn_is decl (before ++ Takes g ∷ []) turn law)
      (posted_as decl some n first low before r same s g may turn.append) law.may_end

  fallen_rest : (n first k : ℕ) (before : List Deed) (r : IsAtRest decl n before) → r.up ≡ false → IsFallen decl before
      → (g : Input) → MayTake before g → MayReach (is_up before) g
      → (turn : Turn) → IsLawfulWithFalls decl (administrator decl) (before ++ Takes g ∷ []) turn
      → IsAtRest decl k ((before ++ Takes g ∷ []) ++ deeds_as turn.append first (with_record turn))
  fallen_rest n first k before r same s (inputs.Called command) may reach turn law =
      subst (λ (t : Turn). MayEnd t.write turn.append
      → IsAtRest decl k ((before ++ Takes (inputs.Called command) ∷ []) ++ deeds_as turn.append first t))
      (sym (ap (λ (m : ActorMove). m.turn)
      (actor_more decl before (Takes (inputs.Called command) ∷ [])
      ∙ ap (λ (v : Actor). actor_takes decl v (inputs.Called command)) s.actor))
      ∙ turn_is decl (before ++ Takes (inputs.Called command) ∷ []) turn law)
      (down_as decl some n before r same s command may k turn.append first) law.may_end
  fallen_rest n first k before r same s (inputs.Got envelope) may reach turn law =
      absurd (let no : true ≡ false = sym reach ∙ r.is ∙ same in let never : ⊥ = cc in never)
  fallen_rest n first k before r same s (inputs.Lost number) may reach turn law =
      absurd (let no : true ≡ false = sym reach ∙ r.is ∙ same in let never : ⊥ = cc in never)

  sends_record : (end : Appended) (turn : Turn) → length (sends_as end (with_record turn)) ≡ length (sends_as end turn)
  sends_record Done turn = refl
  sends_record Failed turn = refl
  sends_record Stopped turn = refl

  turn_rest : (n first : ℕ) → n ≤ first → (before : List Deed) (r : IsAtRest decl n before) (g : Input)
      → MayTake before g → MayReach (is_up before) g
      → (turn : Turn) → IsLawfulWithFalls decl (administrator decl) (before ++ Takes g ∷ []) turn
      → IsAtRest decl (first + length (sends_as turn.append turn))
      ((before ++ Takes g ∷ []) ++ deeds_as turn.append first turn)
  turn_rest n first low before r g may reach turn law =
      subst (λ (v : List Deed). IsAtRest decl (first + length (sends_as turn.append turn))
      ((before ++ Takes g ∷ []) ++ v)) (as_record turn.append first turn)
      (subst (λ (k : ℕ). IsAtRest decl (first + k)
      ((before ++ Takes g ∷ []) ++ deeds_as turn.append first (with_record turn))) (sends_record turn.append turn)
      (by r.up refl r.stands))
    where
      by : (up : Bool) → r.up ≡ up → Stands decl up n before
          → IsAtRest decl (first + length (sends_as turn.append (with_record turn)))
          ((before ++ Takes g ∷ []) ++ deeds_as turn.append first (with_record turn))
      by true same s = posted_rest n first low before r same s g may turn law
      by false same s =
          fallen_rest n first (first + length (sends_as turn.append (with_record turn))) before r same s g may reach
          turn law

  -- over all his deeds

  pub record IsAtInput (n : ℕ) (ds : List Deed) : Type 0 where
    pub before : List Deed
    pub given : Input
    pub is : ds ≡ before ++ Takes given ∷ []
    pub rest : IsAtRest decl n before
    pub may : MayTake before given
    pub reach : MayReach (is_up before) given

  abbrev pub IsAt : ℕ → List Deed → Bool → Type 0
  IsAt n ds true = IsAtInput n ds
  IsAt n ds false = IsAtRest decl n ds

  pub admin_lives : (ds : List Deed) (b : Bool) (n : ℕ) → Lives decl (administrator decl) ds b n → IsAt n ds b
  admin_lives ds b n lives.starts = first_rest decl
  admin_lives ds b n (lives.takes older g m life may reach) =
      record { before = older; given = g; is = refl; rest = admin_lives older false m life; may = may; reach = reach }
  admin_lives ds b n (lives.posts older turn m first life low law) = by (admin_lives older true m life)
    where
      by : IsAtInput m older
          → IsAtRest decl (first + length (sends_as turn.append turn)) (older ++ deeds_as turn.append first turn)
      by at =
          subst (λ (v : List Deed). IsAtRest decl (first + length (sends_as turn.append turn))
          (v ++ deeds_as turn.append first turn)) (sym at.is)
          (turn_rest m first low at.before at.rest at.given at.may at.reach turn
          (subst (λ (v : List Deed). IsLawfulWithFalls decl (administrator decl) v turn) at.is law))
  admin_lives ds b n (lives.crashes older m life up) = by (admin_lives older false m life)
    where
      by : IsAtRest decl m older → IsAtRest decl m (older ++ Falls causes.Script None ∷ [])
      by r = falls_alone decl m older r causes.Script (λ ys. no_act (Falls causes.Script None ∷ ys) refl r.up)
  admin_lives ds b n (lives.rises older kept turn m first life down low law) =
      rises_rest decl m older (admin_lives older false m life) kept turn first
      (first + length (sends_as turn.append turn)) law
  admin_lives ds b n (lives.unopened older cause m life down by_disk) =
      unopened_rest decl m older cause by_disk down (admin_lives older false m life)

  pub admin_due_in : (ds : List Deed) (b : Bool) (n : ℕ) → Lives decl (administrator decl) ds b n → IsAdminDue decl ds
  admin_due_in ds b n life = by b (admin_lives ds b n life)
    where
      by : (z : Bool) → IsAt n ds z → IsAdminDue decl ds
      by false r = subst (IsAdminDue decl) (append-nil ds) (r.due [] (no_act [] refl r.up) tt)
      by true at =
          subst (IsAdminDue decl) (sym at.is)
          ((at.rest).due (Takes at.given ∷ []) (no_act (Takes at.given ∷ []) refl (at.rest).up)
          (input_due decl n at.before at.rest at.given at.may, tt))

-- What each event of a client's life keeps, all its deeds keep, through its falls and rises.
use Rattle.std.proofs.Common.{◌≡◌, ℕ, ◌-◌, Bool, true, false, List, [], ◌∷◌, ◌++◌, None, refl, sym, ap, ◌∙◌, subst}
use Rattle.std.specs.List.{AllByRecursion as Every}
use Rattle.qc_core.specs.declared.actor.Actor.{Actor}
use Rattle.qc_core.specs.declared.actor.Actor.TheVariants as actors
use Rattle.qc_client.specs.Vocabulary.{client_takes}
use Rattle.qc_core.specs.Vocabulary.{ActorMove, IsLawfulWithFalls, Lives, MayReach, MayTake, actor_after, actor_takes}
use Rattle.qc_core.specs.Vocabulary.{by_client, is_up, with_record}
use Rattle.qc_core.proofs.ByNumber.{client_risen}
use Rattle.qc_core.specs.Lives as lives
use Rattle.qc_decl.specs.Vocabulary.{is_client}
use Rattle.qc_decl.specs.declared.declaration.Declaration.{Declaration}
use Rattle.qc_msg.specs.declared.record.Record.{Record}
use Rattle.qc_msg.specs.declared.step.Command.{Command}
use Rattle.qc_msg.specs.declared.step.Fall.{Fall}
use Rattle.qc_msg.specs.declared.step.Fall.TheVariants as causes
use Rattle.qc_msg.specs.declared.step.Input.{Input}
use Rattle.qc_msg.specs.declared.step.Input.TheVariants as inputs
use Rattle.qc_msg.specs.declared.turn.Appended.{Appended}
use Rattle.qc_msg.specs.declared.turn.Appended.TheVariants.{Done, Failed, Stopped}
use Rattle.qc_msg.specs.declared.turn.Turn.{Turn}
use Rattle.qc_msg.specs.Vocabulary.{Deed, Falls, MayEnd, Rises, Takes, Tells, deeds_as, first_epoch, telling}
use Rattle.qc_msg.specs.declared.reply.Reply.TheVariants as replies
use Rattle.qc_recover.specs.Vocabulary.{client_rises, rising}
use Rattle.laws_due.specs.Vocabulary.{IsDeclaredDeed, IsPlanned}
use Rattle.laws_due.proofs.Fallings.{as_record}
use Rattle.laws_due.proofs.Happenings.{takes_to}
use Rattle.laws_due.proofs.Lifelong.{client_lives}
use Rattle.laws_due.proofs.Standing.{IsAtRest, IsFallen, IsTied, Stands, actor_more, turn_is}
use Rattle.laws_due.proofs.Telling.{first_all, rest_all}

-- what it becomes as it rises
pub rises_to : (decl : Declaration) (a : ℕ) → is_client decl a ≡ true → (ds : List Deed) (kept : List Record)
    → actor_after decl a (ds ++ Rises kept ∷ []) ≡ by_client (client_rises (a - decl.sites) kept)
rises_to decl a client ds kept =
    actor_more decl a ds (Rises kept ∷ []) ∙ client_risen decl a client kept

-- What a client's life keeps through each event: at first, over a turn as far as it got, a command while it is down, a
-- crash, a rise, and where its journal isn't opened.
pub record Lasts (decl : Declaration) (a : ℕ) (Keeps : List Deed → Type 0) : Type 0 where
  pub new : Keeps []
  pub turn : (ds : List Deed) (r : IsAtRest decl a ds) → r.up ≡ true
      → (t : IsTied decl a ds) (g : Input) (end : Appended) (first : ℕ)
      → MayEnd (client_takes decl t.state g).turn.write end
      → Keeps ds → Keeps ((ds ++ Takes g ∷ []) ++ deeds_as end first (client_takes decl t.state g).turn)
  pub called : (ds : List Deed) → is_up ds ≡ false → (command : Command) → Keeps ds
      → Keeps ((ds ++ Takes (inputs.Called command) ∷ []) ++ Tells replies.Down ∷ [])
  pub crashed : (ds : List Deed) (r : IsAtRest decl a ds) → r.up ≡ true → IsTied decl a ds → Keeps ds
      → Keeps (ds ++ Falls causes.Script None ∷ [])
  pub risen : (ds : List Deed) → is_up ds ≡ false → (kept : List Record) (end : Appended) (first : ℕ) → Keeps ds
      → Keeps ((ds ++ Rises kept ∷ []) ++ deeds_as end first (rising []))
  pub unopened : (ds : List Deed) → is_up ds ≡ false → (cause : Fall) → Keeps ds → Keeps (ds ++ Falls cause None ∷ [])

module _ (decl : Declaration) (a : ℕ) (client : is_client decl a ≡ true) (planned : IsPlanned decl first_epoch)
    (Keeps : List Deed → Type 0) (lasts : Lasts decl a Keeps) where
  -- at an input, and without one

  pub record AtInput (ds : List Deed) : Type 0 where
    pub before : List Deed
    pub given : Input
    pub is : ds ≡ before ++ Takes given ∷ []
    pub there : IsAtRest decl a before
    pub rest : Keeps before
    may : MayTake before given
    reach : MayReach (is_up before) given
    declared : IsDeclaredDeed decl (Takes given)

  abbrev pub IsNow : List Deed → Bool → Type 0
  IsNow ds true = AtInput ds
  IsNow ds false = Keeps ds

  -- the turn for an input

  module _ (ds : List Deed) (r : IsAtRest decl a ds) (rest : Keeps ds) (g : Input) (may : MayTake ds g)
      (reach : MayReach (is_up ds) g) (declared : IsDeclaredDeed decl (Takes g)) (turn : Turn) (first : ℕ)
      (law : IsLawfulWithFalls decl a (ds ++ Takes g ∷ []) turn) where
    abbrev IsAfter : Turn → Type 0
    IsAfter t = Keeps ((ds ++ Takes g ∷ []) ++ deeds_as turn.append first t)

    up_turn : r.up ≡ true → IsTied decl a ds → IsAfter (with_record turn)
    up_turn same t =
        subst (λ (x : Turn). MayEnd x.write turn.append → IsAfter x)
        (sym (ap (λ (m : ActorMove). m.turn) (takes_to decl a client ds r same t g may declared))
        ∙ turn_is decl a client (ds ++ Takes g ∷ []) turn law)
        (λ ends. lasts.turn ds r same t g turn.append first ends rest) law.may_end

    told_down : (command : Command) (end : Appended) → is_up ds ≡ false → MayEnd None end
        → Keeps ((ds ++ Takes (inputs.Called command) ∷ []) ++ deeds_as end first (telling replies.Down))
    told_down command Done down ends = lasts.called ds down command rest
    told_down command Failed down ends = absurd ends
    told_down command Stopped down ends = absurd ends

    down_turn : r.up ≡ false → IsFallen decl a ds → (x : Input) → g ≡ x → MayReach (is_up ds) x
        → IsAfter (with_record turn)
    down_turn same f (inputs.Called command) is reaches =
        subst (λ (x : Turn). MayEnd x.write turn.append → IsAfter x)
        (ap (λ (x : Input). (actor_takes decl actors.Down x).turn) (sym is)
        ∙ sym (ap (λ (m : ActorMove). m.turn) (actor_more decl a ds (Takes g ∷ [])
        ∙ ap (λ (v : Actor). actor_takes decl v g) f.actor)) ∙ turn_is decl a client (ds ++ Takes g ∷ []) turn law)
        (subst (λ (x : Input). MayEnd None turn.append
        → Keeps ((ds ++ Takes x ∷ []) ++ deeds_as turn.append first (telling replies.Down))) (sym is)
        (told_down command turn.append (r.is ∙ same))) law.may_end
    down_turn same f (inputs.Got envelope) is reaches =
        absurd (let no : true ≡ false = sym reaches ∙ r.is ∙ same in let never : ⊥ = cc in never)
    down_turn same f (inputs.Lost number) is reaches =
        absurd (let no : true ≡ false = sym reaches ∙ r.is ∙ same in let never : ⊥ = cc in never)

    input_keeps : IsAfter turn
    input_keeps = subst (λ (v : List Deed). Keeps ((ds ++ Takes g ∷ []) ++ v)) (as_record turn.append first turn)
        (by r.up refl r.stands)
      where
        by : (up : Bool) → r.up ≡ up → Stands decl a up ds → IsAfter (with_record turn)
        by true same t = up_turn same t
        by false same f = down_turn same f g refl reach

  crash : (ds : List Deed) (r : IsAtRest decl a ds) → is_up ds ≡ true → Keeps ds
      → Keeps (ds ++ Falls causes.Script None ∷ [])
  crash ds r up rest = by r.up refl r.stands
    where
      by : (b : Bool) → r.up ≡ b → Stands decl a b ds → Keeps (ds ++ Falls causes.Script None ∷ [])
      by true same t = lasts.crashed ds r same t rest
      by false same f = absurd (let no : true ≡ false = sym up ∙ r.is ∙ same in let never : ⊥ = cc in never)

  -- over all its deeds

  pub course : (ds : List Deed) (b : Bool) (n : ℕ) → Lives decl a ds b n → Every (IsDeclaredDeed decl) ds → IsNow ds b
  course ds b n lives.starts all = lasts.new
  course ds b n (lives.takes older g m life may reach) all =
      let declared : Every (IsDeclaredDeed decl) older = first_all (IsDeclaredDeed decl) older (Takes g ∷ []) all in
      record {
        before = older;
        given = g;
        is = refl;
        there = client_lives decl a client planned older false m life declared;
        rest = course older false m life declared;
        may = may;
        reach = reach;
        declared = (rest_all (IsDeclaredDeed decl) older (Takes g ∷ []) all).0;
      }
  course ds b n (lives.posts older turn m first life low law) all =
      by (course older true m life (first_all (IsDeclaredDeed decl) older (deeds_as turn.append first turn) all))
    where
      by : AtInput older → Keeps (older ++ deeds_as turn.append first turn)
      by at =
          subst (λ (v : List Deed). Keeps (v ++ deeds_as turn.append first turn)) (sym at.is)
          (input_keeps at.before at.there at.rest at.given at.may at.reach at.declared turn first
          (subst (λ (v : List Deed). IsLawfulWithFalls decl a v turn) at.is law))
  course ds b n (lives.crashes older m life up) all =
      let declared : Every (IsDeclaredDeed decl) older =
      first_all (IsDeclaredDeed decl) older (Falls causes.Script None ∷ []) all in
      crash older (client_lives decl a client planned older false m life declared) up
      (course older false m life declared)
  course ds b n (lives.rises older kept turn m first life down low law) all =
      subst (λ (v : List Deed). Keeps ((older ++ Rises kept ∷ []) ++ v)) (as_record turn.append first turn)
      (subst (λ (t : Turn). Keeps ((older ++ Rises kept ∷ []) ++ deeds_as turn.append first t))
      (sym (ap (λ (m : ActorMove). m.turn) (rises_to decl a client older kept))
      ∙ turn_is decl a client (older ++ Rises kept ∷ []) turn law)
      (lasts.risen older down kept turn.append first
      (course older false m life (first_all (IsDeclaredDeed decl) older (Rises kept ∷ [])
      (first_all (IsDeclaredDeed decl) (older ++ Rises kept ∷ []) (deeds_as turn.append first turn) all)))))
  course ds b n (lives.unopened older cause m life down by_disk) all =
      lasts.unopened older down cause (course older false m life
      (first_all (IsDeclaredDeed decl) older (Falls cause None ∷ []) all))

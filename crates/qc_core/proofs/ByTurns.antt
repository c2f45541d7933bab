-- Who lives goes by turns: what stands in one place of this order, after each thing that an actor does.
use Rattle.std.proofs.Common.{[], ◌≡◌, ℕ, ◌-◌, Bool, true, false, cond, List, ◌∷◌, ◌++◌, fold, ◌&&◌, Option, Some}
use Rattle.std.proofs.Common.{None, is_some, refl, sym, ap, ◌∙◌, subst}
use Rattle.qc_decl.specs.declared.declaration.Declaration.{Declaration}
use Rattle.qc_decl.specs.Vocabulary.{is_client, is_site}
use Rattle.qc_msg.specs.declared.record.Record.{Record}
use Rattle.qc_msg.specs.declared.reply.Reply.TheVariants as replies
use Rattle.qc_msg.specs.declared.step.Fall.{Fall}
use Rattle.qc_msg.specs.declared.step.Fall.TheVariants as causes
use Rattle.qc_msg.specs.declared.step.Input.{Input}
use Rattle.qc_msg.specs.declared.step.Input.TheVariants as inputs
use Rattle.qc_msg.specs.declared.turn.Appended.{Appended}
use Rattle.qc_msg.specs.declared.turn.Appended.TheVariants.{Done, Failed, Stopped}
use Rattle.qc_msg.specs.declared.turn.Posting.{Posting}
use Rattle.qc_msg.specs.declared.turn.Turn.{Turn}
use Rattle.qc_msg.specs.Vocabulary.{Deed, Falls, IsByDisk, Rises, Takes, Tells, command_in, deeds_as, telling}
use Rattle.qc_msg.specs.declared.step.Command.{Command}
use Rattle.qc_promise.specs.Vocabulary.{AreByTurns, Called, Failing, Fallen, Faulted, Idle, Open, Place, Rising}
use Rattle.qc_promise.specs.Vocabulary.{Sending, Written, place_after}
use Rattle.qc_recover.specs.Vocabulary.{admin_rises, client_rises, rising, site_rises}
use Rattle.qc_core.specs.declared.actor.Actor.{Actor}
use Rattle.qc_core.specs.Vocabulary.{ActorMove, AreUncommanded, IsLawfulWithFalls, IsUncommanded, Lives, MayReach}
use Rattle.qc_core.specs.Vocabulary.{actor_after, actor_rises, actor_takes, by_admin, by_client, by_site, down_takes}
use Rattle.qc_core.specs.Vocabulary.{is_up, up_at, with_record}
use Rattle.qc_core.specs.Lives as lives
use Rattle.qc_core.proofs.LivesOfActors.{down, rises, up}
use Rattle.qc_core.proofs.OpenedInputs.{Opened, opened, up_more, post_up}
use Rattle.qc_core.proofs.ActorKinds.{kind_after}
use Rattle.qc_core.proofs.RestingPlaces.{after, along, is_resting, Fits, still_up, rising_post}
use Rattle.qc_core.proofs.PostsByTurns.{called_turn, taken_post, down_post}
use Rattle.qc_core.proofs.ActorLaws.{input}
use Rattle.qc_list.proofs.Members.{every-front, every-back}

-- who lives

module _ (decl : Declaration) (a : ℕ) where
  abbrev Commanded : List Deed → Type 0
  Commanded ds = is_site decl a ≡ true → AreUncommanded ds

  earlier : (ds more : List Deed) → Commanded (ds ++ more) → Commanded ds
  earlier ds more none site = every-front IsUncommanded ds more (none site)

  abbrev IsPlaced : List Deed → Bool → Type 0
  IsPlaced ds b = Fits (is_up ds) b (place_after (is_site decl a) ds)

  -- along more deeds
  moves : (ds more : List Deed) (u b : Bool) → fold up_at (is_up ds) more ≡ u
      → Fits u b (after (is_site decl a) (place_after (is_site decl a) ds) more) → IsPlaced (ds ++ more) b
  moves ds more u b is fits =
      subst (λ (x : Bool). Fits x b (place_after (is_site decl a) (ds ++ more))) (sym (up_more ds more ∙ is))
      (subst (Fits u b) (sym (along (is_site decl a) ds more)) fits)

  let_in : (site : Bool) (g : Input) → (site ≡ true → command_in g ≡ None) → (place : Place)
      → cond (site && is_some (command_in g)) None (Some place) ≡ Some place
  let_in false g none place = refl
  let_in true g none place = ap (λ (o : Option Command). cond (is_some o) None (Some place)) (none refl)

  comes_up : (site : Bool) (at : Option Place) (g : Input) → (site ≡ true → command_in g ≡ None) → is_resting at ≡ true
      → after site at (Takes g ∷ []) ≡ Some Open
  comes_up site None g none rests = absurd (let never : ⊥ = cc in never)
  comes_up site (Some Idle) g none rests = let_in site g none Open
  comes_up site (Some Open) g none rests = let_in site g none Open
  comes_up site (Some Rising) g none rests = absurd (let never : ⊥ = cc in never)
  comes_up site (Some Sending) g none rests = let_in site g none Open
  comes_up site (Some Written) g none rests = let_in site g none Open
  comes_up site (Some Failing) g none rests = absurd (let never : ⊥ = cc in never)
  comes_up site (Some Faulted) g none rests = let_in site g none Open
  comes_up site (Some Fallen) g none rests = absurd (let never : ⊥ = cc in never)
  comes_up site (Some Called) g none rests = absurd (let never : ⊥ = cc in never)

  comes_down : (site : Bool) (at : Option Place) (g : Input) → (site ≡ true → command_in g ≡ None) → MayReach false g
      → at ≡ Some Fallen → after site at (Takes g ∷ []) ≡ Some Called
  comes_down true at (inputs.Called command) none reach is =
      absurd (let no : Some command ≡ None = none refl in let never : ⊥ = cc in never)
  comes_down false at (inputs.Called command) none reach is =
      ap (λ (o : Option Place). after false o (Takes (inputs.Called command) ∷ [])) is
  comes_down site at (inputs.Got e) none reach is =
      absurd (let no : false ≡ true = reach in let never : ⊥ = cc in never)
  comes_down site at (inputs.Lost number) none reach is =
      absurd (let no : false ≡ true = reach in let never : ⊥ = cc in never)

  comes : (u site : Bool) (at : Option Place) (g : Input) → (site ≡ true → command_in g ≡ None) → MayReach u g
      → Fits u false at → Fits u true (after site at (Takes g ∷ []))
  comes true site at g none reach fits = comes_up site at g none fits
  comes false site at g none reach fits = comes_down site at g none reach fits

  crashed : (site : Bool) (at : Option Place) → is_resting at ≡ true
      → after site at (Falls causes.Script None ∷ []) ≡ Some Fallen
  crashed site None rests = absurd (let never : ⊥ = cc in never)
  crashed site (Some Idle) rests = refl
  crashed site (Some Open) rests = refl
  crashed site (Some Rising) rests = absurd (let never : ⊥ = cc in never)
  crashed site (Some Sending) rests = refl
  crashed site (Some Written) rests = refl
  crashed site (Some Failing) rests = absurd (let never : ⊥ = cc in never)
  crashed site (Some Faulted) rests = refl
  crashed site (Some Fallen) rests = absurd (let never : ⊥ = cc in never)
  crashed site (Some Called) rests = absurd (let never : ⊥ = cc in never)

  stays_shut : (site : Bool) (cause : Fall) → IsByDisk cause
      → after site (Some Fallen) (Falls cause None ∷ []) ≡ Some Fallen
  stays_shut site causes.Script never = absurd never
  stays_shut site causes.Stop is = refl
  stays_shut site causes.Disk is = refl

  -- the post of an open input
  commanded : (g : Input) → MayReach false g → command_in g ≡ None → ⊥
  commanded (inputs.Called command) reach none = let no : Some command ≡ None = none in let never : ⊥ = cc in never
  commanded (inputs.Got e) reach none = let no : false ≡ true = reach in let never : ⊥ = cc in never
  commanded (inputs.Lost number) reach none = let no : false ≡ true = reach in let never : ⊥ = cc in never

  no_site : (ds : List Deed) (o : Opened ds) → Commanded ds → MayReach false o.given → is_site decl a ≡ false
  no_site ds o none reach = by (is_site decl a) refl
    where
      by : (x : Bool) → is_site decl a ≡ x → x ≡ false
      by true is = absurd (commanded o.given reach
          (every-back IsUncommanded o.before (Takes o.given ∷ []) (subst AreUncommanded o.is (none is))).0)
      by false is = refl

  posts_placed : (ds : List Deed) (turn : Turn) (first : ℕ) (o : Opened ds) → Commanded ds
      → IsLawfulWithFalls decl a ds turn → (u : Bool) → is_up ds ≡ u → Fits u true (place_after (is_site decl a) ds)
      → IsPlaced (ds ++ deeds_as turn.append first turn) false
  posts_placed ds turn first o none lawful true is fits =
      moves ds (deeds_as turn.append first turn) (still_up turn.append) false
      (post_up (is_up ds) turn.append first turn ∙ ap (λ (u : Bool). u && still_up turn.append) is)
      (subst (λ (at : Option Place). Fits (still_up turn.append) false
      (after (is_site decl a) at (deeds_as turn.append first turn))) (sym fits)
      (taken_post decl (is_site decl a) (actor_after decl a o.before).actor o.given turn first
      (kind_after decl a o.before)
      (up decl a o.before (still o.is is))
      (ap (λ (m : ActorMove). m.turn) (sym (input decl a o.before o.given) ∙ ap (actor_after decl a) (sym o.is))
      ∙ called_turn decl a ds turn lawful) lawful.may_end))
    where
      still : ds ≡ o.before ++ Takes o.given ∷ [] → is_up ds ≡ true → is_up o.before ≡ true
      still same up_now = sym (up_more o.before (Takes o.given ∷ [])) ∙ ap is_up (sym same) ∙ up_now
  posts_placed ds turn first o none lawful false is fits =
      moves ds (deeds_as turn.append first turn) false false
      (post_up (is_up ds) turn.append first turn ∙ ap (λ (u : Bool). u && still_up turn.append) is)
      (subst (λ (more : List Deed). after (is_site decl a) (place_after (is_site decl a) ds) more ≡ Some Fallen)
      (sym both.1)
      (subst (λ (at : Option Place). after (is_site decl a) at (Tells replies.Down ∷ []) ≡ Some Fallen) (sym fits)
      (told (is_site decl a) (no_site ds o none (subst (λ (u : Bool). MayReach u o.given) before_down o.reach)))))
    where
      before_down : is_up o.before ≡ false
      before_down = sym (up_more o.before (Takes o.given ∷ [])) ∙ ap is_up (sym o.is) ∙ is

      turn_is : (g : Input) → MayReach false g → down_takes g ≡ telling replies.Down
      turn_is (inputs.Called command) reach = refl
      turn_is (inputs.Got e) reach = absurd (let no : false ≡ true = reach in let never : ⊥ = cc in never)
      turn_is (inputs.Lost number) reach = absurd (let no : false ≡ true = reach in let never : ⊥ = cc in never)

      both : (turn.append ≡ Done) × (deeds_as turn.append first turn ≡ Tells replies.Down ∷ [])
      both =
          down_post turn first
          (sym (turn_is o.given (subst (λ (u : Bool). MayReach u o.given) before_down o.reach))
          ∙ sym (ap (λ (v : Actor). (actor_takes decl v o.given).turn) (down decl a o.before before_down))
          ∙ ap (λ (m : ActorMove). m.turn) (sym (input decl a o.before o.given)
          ∙ ap (actor_after decl a) (sym o.is)) ∙ called_turn decl a ds turn lawful)
          lawful.may_end

      told : (site : Bool) → site ≡ false → after site (Some Called) (Tells replies.Down ∷ []) ≡ Some Fallen
      told true fails = absurd (let never : ⊥ = cc in never)
      told false is_other = refl

  -- the post of a rise

  rises_turn : (rs : List Record) → (sends : List Posting) × ((actor_rises decl a rs).turn ≡ rising sends)
  rises_turn rs = by (is_site decl a) (is_client decl a)
    where
      by : (x y : Bool) → (sends : List Posting)
          × ((cond x (by_site (site_rises decl a rs))
          (cond y (by_client (client_rises (a - decl.sites) rs)) (by_admin (admin_rises rs)))).turn ≡ rising sends)
      by true y = ((site_rises decl a rs).turn.sends, refl)
      by false true = ((client_rises (a - decl.sites) rs).turn.sends, refl)
      by false false = ((admin_rises rs).turn.sends, refl)

  same_deeds : (end : Appended) (n : ℕ) (t : Turn) → deeds_as end n (with_record t) ≡ deeds_as end n t
  same_deeds Done n t = refl
  same_deeds Failed n t = refl
  same_deeds Stopped n t = refl

  rises_placed : (ds : List Deed) (rs : List Record) (turn : Turn) (first : ℕ)
      → IsLawfulWithFalls decl a (ds ++ Rises rs ∷ []) turn → place_after (is_site decl a) ds ≡ Some Fallen
      → IsPlaced ((ds ++ Rises rs ∷ []) ++ deeds_as turn.append first turn) false
  rises_placed ds rs turn first lawful is =
      moves (ds ++ Rises rs ∷ []) (deeds_as turn.append first turn) (still_up turn.append) false
      (ap (λ (u : Bool). fold up_at u (deeds_as turn.append first turn)) (up_more ds (Rises rs ∷ []))
      ∙ post_up true turn.append first turn)
      (subst (λ (at : Option Place). Fits (still_up turn.append) false
      (after (is_site decl a) at (deeds_as turn.append first turn))) (sym place)
      (subst (λ (more : List Deed). Fits (still_up turn.append) false (after (is_site decl a) (Some Rising) more))
      deeds_are
      (rising_post (is_site decl a) turn.append first (rises_turn rs).0)))
    where
      place : place_after (is_site decl a) (ds ++ Rises rs ∷ []) ≡ Some Rising
      place = along (is_site decl a) ds (Rises rs ∷ [])
          ∙ ap (λ (at : Option Place). after (is_site decl a) at (Rises rs ∷ [])) is

      turn_is : rising (rises_turn rs).0 ≡ with_record turn
      turn_is = sym (rises_turn rs).1 ∙ ap (λ (m : ActorMove). m.turn) (sym (rises decl a ds rs))
          ∙ called_turn decl a (ds ++ Rises rs ∷ []) turn lawful

      deeds_are : deeds_as turn.append first (rising (rises_turn rs).0) ≡ deeds_as turn.append first turn
      deeds_are = ap (deeds_as turn.append first) turn_is ∙ same_deeds turn.append first turn

  place_lives : (ds : List Deed) (b : Bool) (n : ℕ) → Lives decl a ds b n → Commanded ds → IsPlaced ds b
  place_lives ds b n lives.starts none = refl
  place_lives ds b n (lives.takes before g m life may reach) none =
      moves before (Takes g ∷ []) (is_up before) true refl
      (comes (is_up before) (is_site decl a) (place_after (is_site decl a) before) g
      (λ site. (every-back IsUncommanded before (Takes g ∷ []) (none site)).0) reach
      (place_lives before false m life (earlier before (Takes g ∷ []) none)))
  place_lives ds b n (lives.posts before turn m first life above lawful) none =
      posts_placed before turn first (opened decl a before true m life refl)
      (earlier before (deeds_as turn.append first turn) none) lawful (is_up before) refl
      (place_lives before true m life (earlier before (deeds_as turn.append first turn) none))
  place_lives ds b n (lives.crashes before m life up_now) none =
      moves before (Falls causes.Script None ∷ []) false false refl
      (crashed (is_site decl a) (place_after (is_site decl a) before)
      (subst (λ (u : Bool). Fits u false (place_after (is_site decl a) before)) up_now
      (place_lives before false m life (earlier before (Falls causes.Script None ∷ []) none))))
  place_lives ds b n (lives.rises before records turn m first life down_now above lawful) none =
      rises_placed before records turn first lawful
      (subst (λ (u : Bool). Fits u false (place_after (is_site decl a) before)) down_now
      (place_lives before false m life (earlier before (Rises records ∷ [])
      (earlier (before ++ Rises records ∷ []) (deeds_as turn.append first turn) none))))
  place_lives ds b n (lives.unopened before cause m life down_now by_disk) none =
      moves before (Falls cause None ∷ []) false false refl
      (subst (λ (at : Option Place). after (is_site decl a) at (Falls cause None ∷ []) ≡ Some Fallen)
      (sym (subst (λ (u : Bool). Fits u false (place_after (is_site decl a) before)) down_now
      (place_lives before false m life (earlier before (Falls cause None ∷ []) none))))
      (stays_shut (is_site decl a) cause by_disk))

  somewhere : (u b : Bool) (at : Option Place) → Fits u b at → is_some at ≡ true
  somewhere true true at is = ap is_some is
  somewhere true false None is = is
  somewhere true false (Some place) is = refl
  somewhere false true at is = ap is_some is
  somewhere false false at is = ap is_some is

  pub who_lives_goes_by_turns : (ds : List Deed) (b : Bool) (n : ℕ) → Lives decl a ds b n
      → (is_site decl a ≡ true → AreUncommanded ds)
      → AreByTurns (is_site decl a) ds
  who_lives_goes_by_turns ds b n life none =
      somewhere (is_up ds) b (place_after (is_site decl a) ds) (place_lives ds b n life none)

-- In each run a site serves: it is what its steps show, and all that it posts is due.
use Rattle.std.proofs.Common.{◌≡◌, ℕ, ◌+◌, ◌-◌, ◌<◌, Bool, true, false, if◌then◌else◌, List, [], ◌∷◌, ◌++◌, Some, None}
use Rattle.std.proofs.Common.{slice_get, refl, sym, ap, ◌∙◌, subst, arith, append_assoc}
use Rattle.std.proofs.lemmas.Bool.{lt-ltb, ltb-true}
use Rattle.qc_core.proofs.SiteLaws.{answers_of_sites_are_due, sites_are_read_off_their_steps}
use Rattle.qc_core.specs.Vocabulary.{ActorMove, Acts, AreSteady, IsInput, IsLawful, IsLawfulWithFalls, IsShown, Serves}
use Rattle.qc_core.specs.Vocabulary.{actor_after, posts, starts, stays_up, takes}
use Rattle.qc_core.proofs.ActorLaws.{at_site}
use Rattle.qc_core.proofs.LivesLaws.{lawful_still, written}
use Rattle.qc_core.proofs.Steady.{acts_steady}
use Rattle.qc_core.specs.declared.actor.Actor.TheVariants.{Site}
use Rattle.qc_msg.specs.declared.turn.Appended.{Appended}
use Rattle.qc_msg.specs.declared.turn.Appended.TheVariants.{Done}
use Rattle.qc_site.specs.Vocabulary.{SiteState, site_after}
use Rattle.qc_core.specs.Sites as serving
use Rattle.qc_decl.specs.declared.declaration.Declaration.{Declaration}
use Rattle.qc_decl.specs.Vocabulary.{actors, is_client, is_site}
use Rattle.qc_client.specs.Vocabulary.{client_after}
use Rattle.qc_msg.specs.declared.step.Input.{Input}
use Rattle.qc_msg.specs.declared.turn.Turn.{Turn}
use Rattle.qc_msg.specs.Vocabulary.{Deed, Entry, Falls, Rises, Sends, Takes, Tells, Writes, deeds, deeds_as, turn_deeds}
use Rattle.qc_promise.specs.Vocabulary.{AreDue, IsDueAt, IsDueOrOpen, IsPostOf, TurnDue, turn_due}
use Rattle.qc_promise.specs.SiteDue.{rising_turn}
use Rattle.qc_promise.proofs.Posts.{post_less, post_more}
use Rattle.qc_script.specs.Vocabulary.{Runs}
use Rattle.qc_script.specs.declared.script.Script.{Script}
use Rattle.laws_turns.specs.Vocabulary.{ActsIn}
use Rattle.laws_turns.proofs.Acted.{has_entry, actors_take_and_post_by_turns}
use Rattle.laws_turns.proofs.Mailed.{AreInputs, IsInputDeed, deeds_inputs, decisions_name_stamps_of_their_clients}
use Rattle.qc_list.proofs.Members.{every-front, every-back}

-- what was posted before an input stays due, whatever comes after the input

module _ (decl : Declaration) where
  post_cut : (t : TurnDue) (xs ys : List Deed) (g : Input) → IsPostOf t (xs ++ Takes g ∷ ys)
      → IsPostOf t (xs ++ Takes g ∷ [])
  post_cut t xs ys g due = post_more t xs (Takes g ∷ []) refl (post_less t xs (Takes g ∷ ys) refl due)

  take_cut : (before : List Deed) (other : Input) (xs ys : List Deed) (g : Input)
      → IsDueOrOpen decl before other (xs ++ Takes g ∷ ys) → IsDueOrOpen decl before other (xs ++ Takes g ∷ [])
  take_cut before other [] ys g due = due
  take_cut before other (x ∷ xs) ys g due = post_cut (turn_due decl before other) (x ∷ xs) ys g due

  deed_cut : (before : List Deed) (d : Deed) (xs ys : List Deed) (g : Input)
      → IsDueAt decl before d (xs ++ Takes g ∷ ys) → IsDueAt decl before d (xs ++ Takes g ∷ [])
  deed_cut before (Takes other) xs ys g due = take_cut (before ++ Takes other ∷ []) other xs ys g due
  deed_cut before (Writes written) xs ys g due = tt
  deed_cut before (Sends number to message) xs ys g due = tt
  deed_cut before (Tells reply) xs ys g due = tt
  deed_cut before (Falls cause pending) xs ys g due = tt
  deed_cut before (Rises records) xs ys g due = post_cut (rising_turn decl (before ++ Rises records ∷ [])) xs ys g due

  pub due_cut : (before xs ys : List Deed) (g : Input) → AreDue decl before (xs ++ Takes g ∷ ys)
      → AreDue decl before (xs ++ Takes g ∷ [])
  due_cut before [] ys g due = (tt, tt)
  due_cut before (d ∷ xs) ys g due = (deed_cut before d xs ys g due.0, due_cut (before ++ d ∷ []) xs ys g due.1)

  module _ (a : ℕ) where
    -- an input is open behind deeds of a site that serves
    pub record IsServing (ds : List Deed) : Type 0 where
      pub before : List Deed
      pub taken : Input
      pub is : ds ≡ before ++ Takes taken ∷ []
      pub served : Serves decl a before true
      pub input : IsInput taken

    abbrev pub ServesAt : List Deed → Bool → Type 0
    ServesAt ds false = Serves decl a ds true
    ServesAt ds true = IsServing ds

    pub lawful_site : is_site decl a ≡ true → (ds : List Deed) (turn : Turn) → IsLawful decl a ds turn
        → turn ≡ (site_after decl a ds).turn
    lawful_site site ds turn law = by (is_site decl a) site law
      where
        by : (t : Bool) → t ≡ true → (if t then Some (site_after decl a ds).turn else
            (if is_client decl a then Some (client_after decl (a - decl.sites) ds).turn else None)) ≡ Some turn
            → turn ≡ (site_after decl a ds).turn
        by true same is = let it : turn ≡ (site_after decl a ds).turn = cc in it
        by false same is = absurd (let never : ⊥ = cc in never)

    post_serves : (ds : List Deed) (turn : Turn) (first : ℕ) → AreSteady ds → IsLawful decl a ds turn → IsServing ds
        → Serves decl a (ds ++ turn_deeds first turn) true
    post_serves ds turn first steady law s =
        let done : turn.append ≡ Done = written decl a ds turn steady law in
        let lawful : IsLawfulWithFalls decl a (s.before ++ Takes s.taken ∷ []) turn =
        subst (λ (v : List Deed). IsLawfulWithFalls decl a v turn) s.is (lawful_still decl a ds turn steady law) in
        subst (λ (v : List Deed). Serves decl a v true)
        (sym (ap (λ (v : List Deed). v ++ turn_deeds first turn) s.is
        ∙ append_assoc s.before (Takes s.taken ∷ []) (turn_deeds first turn)))
        (subst (λ (end : Appended). Serves decl a (s.before ++ Takes s.taken ∷ deeds_as end first turn) (stays_up end))
        done (serving.serves s.before s.taken turn first s.served s.input lawful))

    pub acts_serve : is_site decl a ≡ true → (ds : List Deed) (t : Bool) (n : ℕ) → Acts decl a ds t n → AreInputs ds
        → ServesAt ds t
    acts_serve site ds t n starts inputs = serving.starts
    acts_serve site ds t n (takes older taken m acts may) inputs =
        record {
          before = older;
          taken = taken;
          is = refl;
          served = acts_serve site older false m acts (every-front IsInputDeed older (Takes taken ∷ []) inputs);
          input = (every-back IsInputDeed older (Takes taken ∷ []) inputs).0;
        }
    acts_serve site ds t n (posts older turn m first acts low law) inputs =
        post_serves older turn first (acts_steady decl a older true m acts) law
        (acts_serve site older true m acts (every-front IsInputDeed older (turn_deeds first turn) inputs))

    -- whatever it posts for its open input, what it posted before is due

    its_turn : is_site decl a ≡ true → (ds : List Deed) → IsLawful decl a ds (site_after decl a ds).turn
    its_turn site ds = ap (λ (b : Bool). if b then Some (site_after decl a ds).turn else
        (if is_client decl a then Some (client_after decl (a - decl.sites) ds).turn else None)) site

    serving_due : is_site decl a ≡ true → (ds : List Deed) → AreSteady ds → IsServing ds → AreDue decl [] ds
    serving_due site ds steady s =
        subst (AreDue decl []) (sym s.is)
        (due_cut [] s.before (turn_deeds 0 (site_after decl a ds).turn) s.taken
        (subst (AreDue decl []) (ap (λ (v : List Deed). v ++ turn_deeds 0 (site_after decl a ds).turn) s.is
        ∙ append_assoc s.before (Takes s.taken ∷ []) (turn_deeds 0 (site_after decl a ds).turn))
        (answers_of_sites_are_due decl a (ds ++ turn_deeds 0 (site_after decl a ds).turn) true
        (ltb-true a decl.sites site)
        (post_serves ds (site_after decl a ds).turn 0 steady (its_turn site ds) s))))

    serves_due : is_site decl a ≡ true → (ds : List Deed) → AreSteady ds → (t : Bool) → ServesAt ds t
        → AreDue decl [] ds
    serves_due site ds steady false served = answers_of_sites_are_due decl a ds true (ltb-true a decl.sites site) served
    serves_due site ds steady true s = serving_due site ds steady s

-- in each run

module _ (decl : Declaration) (script : Script) (h : List Entry) (open_inputs : List Bool)
    (run : Runs (IsLawful decl) decl script h open_inputs) (site : ℕ) (within : site < decl.sites) where
  a_site : is_site decl site ≡ true
  a_site = lt-ltb site decl.sites within

  serves_at : (t : Bool) → slice_get open_inputs site ≡ Some t → ServesAt decl site (deeds site [] h) t
  serves_at t is =
      let r : ActsIn decl site h t = actors_take_and_post_by_turns decl script h open_inputs run site t is in
      acts_serve decl site a_site (deeds site [] h) t r.above r.acts
      (deeds_inputs site [] h tt (decisions_name_stamps_of_their_clients decl script h open_inputs run))

  pub sites_serve : slice_get open_inputs site ≡ Some false → Serves decl site (deeds site [] h) true
  sites_serve free = serves_at false free

  steady : (t : Bool) → slice_get open_inputs site ≡ Some t → AreSteady (deeds site [] h)
  steady t is =
      let r : ActsIn decl site h t = actors_take_and_post_by_turns decl script h open_inputs run site t is in
      acts_steady decl site (deeds site [] h) t r.above r.acts

  pub sites_are_what_their_steps_show : slice_get open_inputs site ≡ Some false
      → IsShown (deeds site [] h) (site_after decl site (deeds site [] h)).site
  sites_are_what_their_steps_show free =
      let it : (s : SiteState) × ((actor_after decl site (deeds site [] h)).actor ≡ Site s)
      × IsShown (deeds site [] h) s =
      sites_are_read_off_their_steps decl site (deeds site [] h) within (sites_serve free) in
      let at : Site (site_after decl site (deeds site [] h)).site ≡ Site it.0 =
      sym (ap (λ (m : ActorMove). m.actor) (at_site decl site (deeds site [] h) (steady false free) a_site))
      ∙ it.1 in
      let same : it.0 ≡ (site_after decl site (deeds site [] h)).site = cc in
      subst (IsShown (deeds site [] h)) same it.2

  pub what_sites_post_is_due : AreDue decl [] (deeds site [] h)
  what_sites_post_is_due = by (has_entry (IsLawful decl) decl script h open_inputs run site
      (let all : decl.sites + decl.clients + 1 ≡ actors decl = refl in omega arith))
    where
      by : (t : Bool) × (slice_get open_inputs site ≡ Some t) → AreDue decl [] (deeds site [] h)
      by place = serves_due decl site a_site (deeds site [] h) (steady place.0 place.1) place.0
          (serves_at place.0 place.1)

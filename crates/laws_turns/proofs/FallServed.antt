-- In each run with falls all mail is stamped, where clients rise with their own stamps; so a site serves, is what its
-- steps show, and all that it posts is due.
use Rattle.std.proofs.Common.{◌≡◌, ℕ, ◌+◌, ◌<◌, ◌≤◌, Bool, true, false, if◌then◌else◌, List, [], ◌∷◌, ◌++◌, length}
use Rattle.std.proofs.Common.{Option, Some, None, slice_get, refl, sym, ap, ◌∙◌, subst, arith, append_assoc}
use Rattle.std.specs.List.{AllByRecursion as Every}
use Rattle.std.proofs.lemmas.Bool.{lt-ltb}
use Rattle.qc_core.specs.declared.actor.Actor.TheVariants.{Site}
use Rattle.qc_core.specs.Vocabulary.{AreUncommanded, IsInput, IsLawfulWithFalls, IsShown, IsSiteDeed, IsSiteInput}
use Rattle.qc_core.specs.Vocabulary.{IsStamped, IsUncommanded, Lives, Serves, actor_after, is_up, with_record}
use Rattle.qc_core.specs.Lives as lives
use Rattle.qc_core.proofs.OpenedInputs.{Opened, opened}
use Rattle.qc_core.proofs.SiteLaws.{answers_of_sites_are_due, sites_are_read_off_their_steps}
use Rattle.qc_core.proofs.SiteLives.{sites_that_live_serve}
use Rattle.qc_core.proofs.Written.{after_written}
use Rattle.qc_decl.specs.declared.declaration.Declaration.{Declaration}
use Rattle.qc_decl.specs.Vocabulary.{actors, controller, is_administrator, is_client, is_site}
use Rattle.qc_link.specs.Vocabulary.{most_actors}
use Rattle.qc_msg.specs.declared.message.Envelope.{Envelope}
use Rattle.qc_msg.specs.declared.record.Record.{Record}
use Rattle.qc_msg.specs.declared.reply.Reply.{Reply}
use Rattle.qc_msg.specs.declared.step.Fall.TheVariants as causes
use Rattle.qc_msg.specs.declared.step.Input.{Input}
use Rattle.qc_msg.specs.declared.step.Input.TheVariants as given
use Rattle.qc_msg.specs.declared.step.Step.TheVariants as steps
use Rattle.qc_msg.specs.declared.turn.Posting.{Posting}
use Rattle.qc_msg.specs.declared.turn.Turn.{Turn}
use Rattle.qc_msg.specs.Vocabulary.{Deed, Entry, Falls, MayEnd, Rises, Sends, Takes, Tells, Writes, by, deeds, deeds_as}
use Rattle.qc_msg.specs.Vocabulary.{envelopes, mail, marked, posted_as, sends_as, sends_of, step_of, tells_of}
use Rattle.qc_msg.specs.Vocabulary.{turn_deeds, writes_of}
use Rattle.qc_msg.proofs.GrownMail.{mail-append, mail-taken}
use Rattle.qc_msg.proofs.DeedsGrow.{deeds-append}
use Rattle.qc_msg.proofs.Growth.{mail-posted_as}
use Rattle.qc_promise.specs.Vocabulary.{AreDue}
use Rattle.qc_script.specs.Vocabulary.{RunsWithFalls, begins, control, damaged, falls, phase, phase_of, posts, rises}
use Rattle.qc_script.specs.Vocabulary.{takes, unopened}
use Rattle.qc_script.specs.declared.script.Script.{Script}
use Rattle.laws_turns.proofs.Commanded.{uncommanded}
use Rattle.laws_turns.proofs.Mailed.{AreInputs, IsMailStamped, deeds_inputs, envelopes_stamped}
use Rattle.laws_turns.proofs.Numbered.{mail-silent, phase_silent}
use Rattle.laws_turns.proofs.StampsOwn.{AreStamped}
use Rattle.laws_turns.proofs.Served.{due_cut}
use Rattle.qc_mailbox.proofs.Keeping.{same_mail}
use Rattle.laws_turns.specs.Vocabulary.{GivesOwn, LivesIn, RiseWithOwn}
use Rattle.laws_turns.proofs.ByMailWithFalls.{run_delivered}
use Rattle.laws_turns.proofs.FallStamps.{lawful_stamped}
use Rattle.laws_turns.proofs.LivedMoves.{line_silent}
use Rattle.laws_turns.proofs.Lived.{actors_live_in_runs_with_falls, run_long}
use Rattle.qc_list.proofs.Members.{every-append, every-front}
use Rattle.qc_list.proofs.Places.{some_at}

-- of a longer history, and of a shorter one

pub given_first : (decl : Declaration) (h k : List Entry) → RiseWithOwn decl (h ++ k) → RiseWithOwn decl h
given_first decl h k given a client = every-front GivesOwn (deeds a [] h) (deeds a (mail h) k)
    (subst (Every GivesOwn) (deeds-append a [] h k) (given a client))

more_stamped : (h k : List Entry) (ms : List Envelope) → mail k ≡ ms → IsMailStamped (mail h) → IsMailStamped ms
    → IsMailStamped (mail (h ++ k))
more_stamped h k ms same old new =
    subst IsMailStamped (sym (mail-append h k ∙ ap (λ (v : List Envelope). mail h ++ v) same))
    (every-append (λ (e : Envelope). IsStamped e.message) (mail h) ms old new)

post_stamped : (a : ℕ) (h : List Entry) (turn : Turn) → AreStamped (sends_as turn.append turn) → IsMailStamped (mail h)
    → IsMailStamped (mail (h ++ by a (posted_as turn.append (length (mail h)) turn)))
post_stamped a h turn are old =
    more_stamped h (by a (posted_as turn.append (length (mail h)) turn))
    (envelopes a (length (mail h)) (sends_as turn.append turn))
    (mail-posted_as turn.append a (length (mail h)) turn) old
    (envelopes_stamped a (length (mail h)) (sends_as turn.append turn) are)

rise_stamped : (a : ℕ) (h : List Entry) (records : List Record) (turn : Turn) → AreStamped (sends_as turn.append turn)
    → IsMailStamped (mail h) → IsMailStamped
    (mail (h ++ by a (steps.Rose records ∷ posted_as turn.append (length (mail h)) turn)))
rise_stamped a h records turn are old =
    more_stamped h (by a (steps.Rose records ∷ posted_as turn.append (length (mail h)) turn))
    (envelopes a (length (mail h)) (sends_as turn.append turn))
    (mail-posted_as turn.append a (length (mail h)) turn) old
    (envelopes_stamped a (length (mail h)) (sends_as turn.append turn) are)

-- what a site takes is a site's input

site_deeds : (ds : List Deed) → AreInputs ds → AreUncommanded ds → Every IsSiteDeed ds
site_deeds [] inputs free = tt
site_deeds (Takes g ∷ ds) inputs free = (input g inputs.0 free.0, site_deeds ds inputs.1 free.1)
  where
    input : (g : Input) → IsInput g → IsUncommanded (Takes g) → IsSiteInput g
    input (given.Called command) is none = absurd (let never : ⊥ = cc in never)
    input (given.Got e) is none = is
    input (given.Lost number) is none = tt
site_deeds (Writes written ∷ ds) inputs free = (tt, site_deeds ds inputs.1 free.1)
site_deeds (Sends number to message ∷ ds) inputs free = (tt, site_deeds ds inputs.1 free.1)
site_deeds (Tells reply ∷ ds) inputs free = (tt, site_deeds ds inputs.1 free.1)
site_deeds (Falls cause pending ∷ ds) inputs free = (tt, site_deeds ds inputs.1 free.1)
site_deeds (Rises records ∷ ds) inputs free = (tt, site_deeds ds inputs.1 free.1)

-- a post takes nothing

sends_take_nothing : (n : ℕ) (ps : List Posting) → Every IsSiteDeed (sends_of n ps)
sends_take_nothing n [] = tt
sends_take_nothing n (p ∷ ps) = (tt, sends_take_nothing (n + 1) ps)

tells_take_nothing : (told : Option Reply) → Every IsSiteDeed (tells_of told)
tells_take_nothing None = tt
tells_take_nothing (Some reply) = (tt, tt)

writes_take_nothing : (w : Option Record) → Every IsSiteDeed (writes_of w)
writes_take_nothing None = tt
writes_take_nothing (Some written) = (tt, tt)

post_takes_nothing : (n : ℕ) (turn : Turn) → Every IsSiteDeed (turn_deeds n turn)
post_takes_nothing n turn =
    every-append IsSiteDeed (writes_of turn.write) (sends_of n turn.sends ++ tells_of turn.told)
    (writes_take_nothing turn.write)
    (every-append IsSiteDeed (sends_of n turn.sends) (tells_of turn.told) (sends_take_nothing n turn.sends)
    (tells_take_nothing turn.told))

-- what a site that lives posted is due; whatever it posts for its open input, what it posted before is

module _ (decl : Declaration) (a : ℕ) (within : a < decl.sites) where
  lawful_next : (ds : List Deed) → IsLawfulWithFalls decl a ds (actor_after decl a ds).turn
  lawful_next ds = record {
    called_for = called;
    may_end = subst (MayEnd (actor_after decl a ds).turn.write) (sym (after_written decl a ds)) tt;
  }
    where
      called : (if is_site decl a then Some (actor_after decl a ds).turn else
          (if is_client decl a then Some (actor_after decl a ds).turn else
          (if is_administrator decl a then Some (actor_after decl a ds).turn else None))) ≡ Some
          (with_record (actor_after decl a ds).turn)
      called =
          ap (λ (t : Bool). if t then Some (actor_after decl a ds).turn else
          (if is_client decl a then Some (actor_after decl a ds).turn else
          (if is_administrator decl a then Some (actor_after decl a ds).turn else None)))
          (lt-ltb a decl.sites within)
          ∙ ap (λ (end : _). Some (record (actor_after decl a ds).turn { append = end })) (after_written decl a ds)

  served_due : (ds : List Deed) (n : ℕ) → Lives decl a ds false n → Every IsSiteDeed ds → AreDue decl [] ds
  served_due ds n life inputs =
      answers_of_sites_are_due decl a ds (is_up ds) within (sites_that_live_serve decl a ds n life inputs)

  lives_due : (ds : List Deed) (t : Bool) (n : ℕ) → Lives decl a ds t n → Every IsSiteDeed ds → AreDue decl [] ds
  lives_due ds false n life inputs = served_due ds n life inputs
  lives_due ds true n life inputs =
      subst (AreDue decl []) (sym o.is)
      (due_cut decl [] o.before (turn_deeds n turn) o.given
      (subst (AreDue decl []) (ap (λ (v : List Deed). v ++ turn_deeds n turn) o.is
      ∙ append_assoc o.before (Takes o.given ∷ []) (turn_deeds n turn)) whole))
    where
      turn : Turn
      turn = (actor_after decl a ds).turn

      o : Opened ds
      o = opened decl a ds true n life refl

      posted : Lives decl a (ds ++ turn_deeds n turn) false (n + length turn.sends)
      posted = subst (λ (end : _). Lives decl a (ds ++ deeds_as end n turn) false (n + length (sends_as end turn)))
          (after_written decl a ds) (lives.posts ds turn n n life (omega arith) (lawful_next ds))

      whole : AreDue decl [] (ds ++ turn_deeds n turn)
      whole = served_due (ds ++ turn_deeds n turn) (n + length turn.sends) posted
          (every-append IsSiteDeed ds (turn_deeds n turn) inputs (post_takes_nothing n turn))

module _ (decl : Declaration) (script : Script) (fits : ℕ → List Record → Type 0)
    (few : actors decl ≤ most_actors) where
  abbrev IsRun : List Entry → List Bool → Type 0
  IsRun h open_inputs = RunsWithFalls (IsLawfulWithFalls decl) fits decl script h open_inputs

  pub decisions_name_stamps_of_their_clients_with_falls : (h : List Entry) (open_inputs : List Bool)
      → IsRun h open_inputs → RiseWithOwn decl h
      → IsMailStamped (mail h)
  decisions_name_stamps_of_their_clients_with_falls h open_inputs begins given = tt
  decisions_name_stamps_of_their_clients_with_falls h open_inputs (takes a g before older run free rdy) given =
      subst IsMailStamped (sym (mail-taken older a g))
      (decisions_name_stamps_of_their_clients_with_falls older before run
      (given_first decl older (marked a (step_of g) ∷ []) given))
  decisions_name_stamps_of_their_clients_with_falls h open_inputs (posts a turn before older run taken law) given =
      let past : RiseWithOwn decl older = given_first decl older
      (by a (posted_as turn.append (length (mail older)) turn)) given in
      post_stamped a older turn (lawful_stamped decl a (deeds a [] older) turn law (past a))
      (decisions_name_stamps_of_their_clients_with_falls older before run past)
  decisions_name_stamps_of_their_clients_with_falls h open_inputs (phase before older run none done quiet more) given =
      subst IsMailStamped (sym (mail-silent older (controller decl) (steps.Phase (phase_of older + 1))
      (phase_silent (phase_of older + 1))))
      (decisions_name_stamps_of_their_clients_with_falls older before run (given_first decl older
      (marked (controller decl) (steps.Phase (phase_of older + 1)) ∷ []) given))
  decisions_name_stamps_of_their_clients_with_falls h open_inputs (control line lines step before older run left is)
      given =
      subst IsMailStamped (sym (mail-silent older (controller decl) step (line_silent line step is)))
      (decisions_name_stamps_of_their_clients_with_falls older before run
      (given_first decl older (marked (controller decl) step ∷ []) given))
  decisions_name_stamps_of_their_clients_with_falls h open_inputs (falls a lines before older run left) given =
      subst IsMailStamped (sym (same_mail older (marked a (steps.Fell causes.Script None)) refl))
      (decisions_name_stamps_of_their_clients_with_falls older before run
      (given_first decl older (marked a (steps.Fell causes.Script None) ∷ []) given))
  decisions_name_stamps_of_their_clients_with_falls h open_inputs
      (rises a records turn lines before older run left fit has law) given =
      rise_stamped a older records turn
      (lawful_stamped decl a (deeds a [] (older ++ marked a (steps.Rose records) ∷ [])) turn law
      (given_first decl (older ++ marked a (steps.Rose records) ∷ [])
      (by a (posted_as turn.append (length (mail older)) turn))
      (subst (RiseWithOwn decl) (sym (append_assoc older (marked a (steps.Rose records) ∷ [])
      (by a (posted_as turn.append (length (mail older)) turn)))) given) a))
      (decisions_name_stamps_of_their_clients_with_falls older before run (given_first decl older
      (by a (steps.Rose records ∷ posted_as turn.append (length (mail older)) turn)) given))
  decisions_name_stamps_of_their_clients_with_falls h open_inputs (damaged a offset lines before older run left) given =
      subst IsMailStamped (sym (same_mail older (marked a (steps.Damaged offset)) refl))
      (decisions_name_stamps_of_their_clients_with_falls older before run
      (given_first decl older (marked a (steps.Damaged offset) ∷ []) given))
  decisions_name_stamps_of_their_clients_with_falls h open_inputs (unopened a cause lines before older run left disk)
      given =
      subst IsMailStamped (sym (same_mail older (marked a (steps.Fell cause None)) refl))
      (decisions_name_stamps_of_their_clients_with_falls older before run
      (given_first decl older (marked a (steps.Fell cause None) ∷ []) given))

  module _ (h : List Entry) (open_inputs : List Bool) (run : IsRun h open_inputs) (given : RiseWithOwn decl h)
      (site : ℕ) (within : site < decl.sites) where
    pub sites_take_site_inputs_with_falls : Every IsSiteDeed (deeds site [] h)
    sites_take_site_inputs_with_falls =
        site_deeds (deeds site [] h)
        (deeds_inputs site [] h tt (decisions_name_stamps_of_their_clients_with_falls h open_inputs run given))
        (uncommanded decl site [] h (lt-ltb site decl.sites within)
        (run_delivered decl script fits few h open_inputs run).called)

    pub sites_serve_with_falls : slice_get open_inputs site ≡ Some false
        → Serves decl site (deeds site [] h) (is_up (deeds site [] h))
    sites_serve_with_falls free =
        let lived : LivesIn decl site h false =
        actors_live_in_runs_with_falls decl script fits few h open_inputs run site false free in
        sites_that_live_serve decl site (deeds site [] h) lived.above lived.lives sites_take_site_inputs_with_falls

    pub sites_are_what_their_steps_show_with_falls : slice_get open_inputs site ≡ Some false
        → is_up (deeds site [] h) ≡ true
        → (s : _) × ((actor_after decl site (deeds site [] h)).actor ≡ Site s) × IsShown (deeds site [] h) s
    sites_are_what_their_steps_show_with_falls free up =
        sites_are_read_off_their_steps decl site (deeds site [] h) within
        (subst (Serves decl site (deeds site [] h)) up (sites_serve_with_falls free))

    pub what_sites_post_is_due_with_falls : AreDue decl [] (deeds site [] h)
    what_sites_post_is_due_with_falls =
        let long : length open_inputs ≡ actors decl = run_long decl script fits few h open_inputs run in
        let place : (t : Bool) × (slice_get open_inputs site ≡ Some t) =
        some_at open_inputs site (omega arith) in
        let lived : LivesIn decl site h place.0 =
        actors_live_in_runs_with_falls decl script fits few h open_inputs run site place.0 place.1 in
        lives_due decl site within (deeds site [] h) place.0 lived.above lived.lives sites_take_site_inputs_with_falls

-- In each run with falls nobody commands a site, and a site tells nothing: so its deeds are in order too.
use Rattle.std.proofs.Common.{◌≡◌, ℕ, ◌+◌, ◌<◌, ◌≤◌, ◌&&◌, Bool, true, false, List, [], ◌∷◌, ◌++◌, length, Option, Some}
use Rattle.std.proofs.Common.{None, refl, sym, subst, arith}
use Rattle.std.specs.Prelude.{fold, slice_get}
use Rattle.std.specs.List.{AllByRecursion as Every}
use Rattle.std.proofs.lemmas.Bool.{lt-ltb, ltb-false, le-leb}
use Rattle.qc_core.proofs.ByNumber.{site_new, site_risen}
use Rattle.qc_core.specs.declared.actor.Actor.{Actor}
use Rattle.qc_core.specs.declared.actor.Actor.TheVariants as actor
use Rattle.qc_core.specs.Vocabulary.{ActorMove, AreUncommanded, IsLawfulWithFalls, Lives, actor_does, actor_rises}
use Rattle.qc_core.specs.Vocabulary.{actor_sends, actor_takes, is_running, moved, new_actor, with_record}
use Rattle.qc_core.specs.Lives as lives
use Rattle.qc_core.proofs.PostsByTurns.{called_turn}
use Rattle.qc_core.proofs.Written.{IsSiteTurn, site_written}
use Rattle.qc_decl.specs.Vocabulary.{IsAccepted, actors, administrator, is_site}
use Rattle.qc_decl.specs.declared.declaration.Declaration.{Declaration}
use Rattle.laws_turns.specs.Vocabulary.{AsksDeclared, LivesIn, calls_of, replies_of}
use Rattle.laws_turns.proofs.Commanded.{uncommanded}
use Rattle.qc_link.specs.Vocabulary.{most_actors}
use Rattle.laws_turns.proofs.ByMailWithFalls.{run_delivered}
use Rattle.laws_turns.proofs.Lived.{actors_live_in_runs_with_falls, run_long}
use Rattle.qc_msg.specs.declared.record.Record.{Record}
use Rattle.qc_msg.specs.declared.reply.Reply.{Reply}
use Rattle.qc_msg.specs.declared.step.Fall.TheVariants as causes
use Rattle.qc_msg.specs.declared.step.Input.{Input}
use Rattle.qc_msg.specs.declared.step.Input.TheVariants as inputs
use Rattle.qc_msg.specs.declared.turn.Appended.{Appended}
use Rattle.qc_msg.specs.declared.turn.Appended.TheVariants.{Done, Failed, Stopped}
use Rattle.qc_msg.specs.declared.turn.Posting.{Posting}
use Rattle.qc_msg.specs.declared.turn.Turn.{Turn}
use Rattle.qc_msg.specs.Vocabulary.{Deed, Entry, Falls, Rises, Sends, Takes, Tells, Writes, command_in, deeds, deeds_as}
use Rattle.qc_msg.specs.Vocabulary.{quiet, sends_of, tells_of, writes_of}
use Rattle.qc_script.specs.Vocabulary.{RunsWithFalls}
use Rattle.qc_script.specs.declared.script.Script.{Script}
use Rattle.laws_due.specs.Vocabulary.{AreInOrder}
use Rattle.laws_due.proofs.Ordered.{all_counted, open_commands, run_ordered}
use Rattle.laws_due.proofs.Telling.{first_all}
use Rattle.qc_list.proofs.Members.{every-append}
use Rattle.qc_list.proofs.Places.{some_at}
use Rattle.qc_script.proofs.Actors.{few_actors}

-- deeds that tell nothing

abbrev IsMute : Deed → Type 0
IsMute (Takes given) = Unit {0}
IsMute (Writes written) = Unit {0}
IsMute (Sends number to message) = Unit {0}
IsMute (Tells reply) = ⊥
IsMute (Falls cause pending) = Unit {0}
IsMute (Rises records) = Unit {0}

abbrev AreMute : List Deed → Type 0
AreMute ds = Every IsMute ds

mute_ordered : (ds : List Deed) → AreMute ds → AreUncommanded ds → AreInOrder false ds
mute_ordered [] mute calls = tt
mute_ordered (Takes (inputs.Called command) ∷ ds) mute calls =
    absurd (let none : Some command ≡ None = calls.0 in let never : ⊥ = cc in never)
mute_ordered (Takes (inputs.Got envelope) ∷ ds) mute calls = (tt, mute_ordered ds mute.1 calls.1)
mute_ordered (Takes (inputs.Lost number) ∷ ds) mute calls = (tt, mute_ordered ds mute.1 calls.1)
mute_ordered (Writes written ∷ ds) mute calls = (tt, mute_ordered ds mute.1 calls.1)
mute_ordered (Sends number to message ∷ ds) mute calls = (tt, mute_ordered ds mute.1 calls.1)
mute_ordered (Tells reply ∷ ds) mute calls = absurd mute.0
mute_ordered (Falls cause pending ∷ ds) mute calls = (refl, mute_ordered ds mute.1 calls.1)
mute_ordered (Rises records ∷ ds) mute calls = (refl, mute_ordered ds mute.1 calls.1)

sends_mute : (n : ℕ) (ps : List Posting) (rest : List Deed) → AreMute rest → AreMute (sends_of n ps ++ rest)
sends_mute n [] rest after = after
sends_mute n (p ∷ ps) rest after = (tt, sends_mute (n + 1) ps rest after)

told_mute : (told : Option Reply) (rest : List Deed) → told ≡ None → AreMute rest → AreMute (tells_of told ++ rest)
told_mute None rest is after = after
told_mute (Some reply) rest is after = absurd (let never : ⊥ = cc in never)

last_mute : (told : Option Reply) → told ≡ None → AreMute (tells_of told)
last_mute None is = tt
last_mute (Some reply) is = absurd (let never : ⊥ = cc in never)

record Says (t : Turn) : Type 0 where
  told : t.told ≡ None
  failed : t.failed_told ≡ None

post_mute : (n : ℕ) (t : Turn) (end : Appended) → Says t → AreMute (deeds_as end n t)
post_mute n t Done says = at t.write
  where
    at : (w : Option Record) → AreMute (writes_of w ++ (sends_of n t.sends ++ tells_of t.told))
    at None = sends_mute n t.sends (tells_of t.told) (last_mute t.told says.told)
    at (Some written) = (tt, sends_mute n t.sends (tells_of t.told) (last_mute t.told says.told))
post_mute n t Failed says = sends_mute n t.failed_sends (tells_of t.failed_told ++ Falls causes.Disk t.write ∷ [])
    (told_mute t.failed_told (Falls causes.Disk t.write ∷ []) says.failed (tt, tt))
post_mute n t Stopped says = told_mute t.failed_told (Falls causes.Stop t.write ∷ []) says.failed (tt, tt)

module _ (decl : Declaration) (a : ℕ) (site : is_site decl a ≡ true) where
  -- a site over its deeds

  abbrev IsSites : Actor → Type 0
  IsSites (actor.Site s) = Unit {0}
  IsSites (actor.Client c) = ⊥
  IsSites (actor.Admin m) = ⊥
  IsSites actor.Down = Unit {0}

  record Quiets (m : ActorMove) : Type 0 where
    state : IsSites m.actor
    says : Says m.turn

  takes_quiet : (v : Actor) (g : Input) → command_in g ≡ None → IsSites v → Quiets (actor_takes decl v g)
  takes_quiet (actor.Site s) g none is = let t : IsSiteTurn g _ = site_written decl s g in
      record { state = tt; says = record { told = t.told; failed = t.failed } }
  takes_quiet (actor.Client c) g none never = absurd never
  takes_quiet (actor.Admin m) g none never = absurd never
  takes_quiet actor.Down (inputs.Called command) none is = absurd (let never : ⊥ = cc in never)
  takes_quiet actor.Down (inputs.Got e) none is = record { state = tt; says = record { told = refl; failed = refl } }
  takes_quiet actor.Down (inputs.Lost n) none is = record { state = tt; says = record { told = refl; failed = refl } }

  sends_state : (v : Actor) (n to : ℕ) (message : _) → IsSites v → IsSites (actor_sends v n to message)
  sends_state (actor.Site s) n to message is = tt
  sends_state (actor.Client c) n to message never = never
  sends_state (actor.Admin m) n to message never = never
  sends_state actor.Down n to message is = tt

  rises_quiet : (kept : List Record) → Quiets (actor_rises decl a kept)
  rises_quiet kept =
      subst Quiets (sym (site_risen decl a site kept))
      (record { state = tt; says = record { told = refl; failed = refl } })

  all_quiet : (ds : List Deed) (m : ActorMove) → AreUncommanded ds → Quiets m → Quiets (fold (actor_does decl a) m ds)
  all_quiet [] m calls q = q
  all_quiet (Takes g ∷ ds) m calls q = all_quiet ds (actor_takes decl m.actor g) calls.1
      (takes_quiet m.actor g calls.0 q.state)
  all_quiet (Writes written ∷ ds) m calls q = all_quiet ds m calls.1 q
  all_quiet (Sends n to message ∷ ds) m calls q =
      all_quiet ds (record m { actor = actor_sends m.actor n to message }) calls.1
      (record { state = sends_state m.actor n to message q.state; says = q.says })
  all_quiet (Tells reply ∷ ds) m calls q = all_quiet ds m calls.1 q
  all_quiet (Falls cause pending ∷ ds) m calls q =
      all_quiet ds (moved actor.Down quiet) calls.1
      (record { state = tt; says = record { told = refl; failed = refl } })
  all_quiet (Rises kept ∷ ds) m calls q = all_quiet ds (actor_rises decl a kept) calls.1 (rises_quiet kept)

  new_quiet : IsSites (new_actor decl a)
  new_quiet = subst IsSites (sym (site_new decl a site)) tt

  lawful_says : (ds : List Deed) (turn : Turn) → AreUncommanded ds → IsLawfulWithFalls decl a ds turn → Says turn
  lawful_says ds turn calls law =
      whole (subst Says (called_turn decl a ds turn law)
      (all_quiet ds (moved (new_actor decl a) quiet) calls
      (record { state = new_quiet; says = record { told = refl; failed = refl } })).says)
    where
      whole : Says (with_record turn) → Says turn
      whole s = record { told = s.told; failed = s.failed }

  site_mute : (ds : List Deed) (b : Bool) (n : ℕ) → Lives decl a ds b n → AreUncommanded ds → AreMute ds
  site_mute ds b n lives.starts calls = tt
  site_mute ds b n (lives.takes older g m life may reach) calls =
      every-append IsMute older (Takes g ∷ []) (site_mute older false m life (first_all _ older (Takes g ∷ []) calls))
      (tt, tt)
  site_mute ds b n (lives.posts older turn m first life low law) calls =
      every-append IsMute older (deeds_as turn.append first turn)
      (site_mute older true m life (first_all _ older (deeds_as turn.append first turn) calls))
      (post_mute first turn turn.append (lawful_says older turn
      (first_all _ older (deeds_as turn.append first turn) calls) law))
  site_mute ds b n (lives.crashes older m life up) calls =
      every-append IsMute older (Falls causes.Script None ∷ [])
      (site_mute older false m life (first_all _ older (Falls causes.Script None ∷ []) calls)) (tt, tt)
  site_mute ds b n (lives.rises older kept turn m first life down low law) calls =
      let front : AreUncommanded (older ++ Rises kept ∷ []) =
      first_all _ (older ++ Rises kept ∷ []) (deeds_as turn.append first turn) calls in
      every-append IsMute (older ++ Rises kept ∷ []) (deeds_as turn.append first turn)
      (every-append IsMute older (Rises kept ∷ [])
      (site_mute older false m life (first_all _ older (Rises kept ∷ []) front)) (tt, tt))
      (post_mute first turn turn.append (lawful_says (older ++ Rises kept ∷ []) turn front law))
  site_mute ds b n (lives.unopened older cause m life down by_disk) calls =
      every-append IsMute older (Falls cause None ∷ [])
      (site_mute older false m life (first_all _ older (Falls cause None ∷ []) calls)) (tt, tt)

module _ (decl : Declaration) (script : Script) (accepted : IsAccepted decl) (asks : AsksDeclared decl script)
    (fits : ℕ → List Record → Type 0) (h : List Entry) (open_inputs : List Bool)
    (run : RunsWithFalls (IsLawfulWithFalls decl) fits decl script h open_inputs) (a : ℕ)
    (within : a < administrator decl) where
  few : actors decl ≤ most_actors
  few = few_actors decl accepted

  site_ordered : is_site decl a ≡ true → AreInOrder false (deeds a [] h)
  site_ordered site = at (some_at open_inputs a
      (let long : length open_inputs ≡ actors decl = run_long decl script fits few h open_inputs run in omega arith))
    where
      calls : AreUncommanded (deeds a [] h)
      calls = uncommanded decl a [] h site (run_delivered decl script fits few h open_inputs run).called

      at : (t : Bool) × (slice_get open_inputs a ≡ Some t) → AreInOrder false (deeds a [] h)
      at place =
          let lived : LivesIn decl a h place.0 =
          actors_live_in_runs_with_falls decl script fits few h open_inputs run a place.0 place.1 in
          mute_ordered (deeds a [] h) (site_mute decl a site (deeds a [] h) place.0 lived.above lived.lives calls) calls

  pub replies_answer_commands_with_falls : AreInOrder false (deeds a [] h)
  replies_answer_commands_with_falls = by (is_site decl a) refl
    where
      by : (t : Bool) → is_site decl a ≡ t → AreInOrder false (deeds a [] h)
      by true site = site_ordered site
      by false other =
          let past : decl.sites ≤ a = ltb-false a decl.sites other in
          run_ordered decl script accepted asks fits a
          (λ i. le-leb decl.sites a past i && lt-ltb a (administrator decl) within i) h open_inputs run

  pub calls_are_replied_with_falls : length (calls_of a h)
      ≡ length (replies_of a h) + open_commands (is_running (deeds a [] h))
  calls_are_replied_with_falls = all_counted (deeds a [] h) replies_answer_commands_with_falls

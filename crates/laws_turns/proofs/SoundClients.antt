-- A client that is asked what the script asks has a sound front end and desk.
use Rattle.std.proofs.Common.{[], ◌≡◌, ℕ, zero, suc, ◌%◌, ◌<◌, ◌==◌, ◌&&◌, Bool, true, false, cond, if◌then◌else◌}
use Rattle.std.proofs.Common.{List, ◌∷◌, map, length, take, Option, Some, None, is_some, refl, sym, subst, arith}
use Rattle.std.proofs.Common.{eqb-true}
use Rattle.std.specs.List.{AllByRecursion as Every, filter, filter_map, fold}
use Rattle.std.proofs.lemmas.Bool.{lt-ltb}
use Rattle.qc_core.specs.Vocabulary.{IsLawful}
use Rattle.qc_decl.specs.declared.declaration.Declaration.{Declaration}
use Rattle.qc_decl.specs.Vocabulary.{IsAccepted, first_site}
use Rattle.qc_msg.specs.declared.begun.Begun.{Begun}
use Rattle.qc_msg.specs.declared.message.Answer.{Answer}
use Rattle.qc_msg.specs.declared.message.Message.{Message}
use Rattle.qc_msg.specs.declared.message.Outcome.TheVariants as outcomes
use Rattle.qc_msg.specs.declared.reply.AbortCause.{AbortCause}
use Rattle.qc_msg.specs.declared.step.Command.{Command}
use Rattle.qc_msg.specs.declared.step.Command.TheVariants as commands
use Rattle.qc_msg.specs.declared.step.Input.{Input}
use Rattle.qc_msg.specs.declared.step.Input.TheVariants as inputs
use Rattle.qc_msg.specs.Vocabulary.{Deed, Entry, Falls, Rises, Sends, Takes, Tells, Writes, deeds, has_granted, quiet}
use Rattle.qc_msg.specs.Vocabulary.{site_called}
use Rattle.qc_plan.specs.Vocabulary.{cyclic}
use Rattle.qc_commit.specs.declared.desk.Desk.{Desk}
use Rattle.qc_commit.specs.declared.desk.Voting.{Voting}
use Rattle.qc_commit.specs.Conduct as desks
use Rattle.qc_commit.specs.Vocabulary.{DeskMove, are_cast, cast, first_against, participants, prepares, vote_of}
use Rattle.qc_front.specs.declared.transaction.Transaction.{Transaction}
use Rattle.qc_front.specs.Conduct as fronts
use Rattle.qc_front.specs.Vocabulary.{FrontMove, ended}
use Rattle.qc_client.specs.declared.client.Client.{Client}
use Rattle.qc_client.specs.Vocabulary.{ClientMove, answered, answered_by, by_desk, by_front, called, client_after}
use Rattle.qc_client.specs.Vocabulary.{client_does, client_takes, commits, heard, moved, new_client, sent_one}
use Rattle.qc_front.specs.declared.doing.Doing.{Doing}
use Rattle.qc_front.specs.declared.doing.Doing.TheVariants.{Idle, Reading, Appending}
use Rattle.qc_script.specs.Vocabulary.{Runs, commands_for, inbox, phase_of}
use Rattle.qc_script.specs.declared.script.CommandLine.{CommandLine}
use Rattle.qc_script.specs.declared.script.PhaseLines.{PhaseLines}
use Rattle.qc_script.specs.declared.script.Script.{Script}
use Rattle.laws_turns.specs.Vocabulary.{AreAskable, AsksDeclared, IsAskable, asked_in_all, call_in, calls_of}
use Rattle.laws_turns.proofs.Calling.{calls_are_asked}
use Rattle.laws_turns.proofs.DeclaredSites.{AreSites, sites_cyclic, sites_filter}
use Rattle.laws_turns.proofs.OwnFronts.{OwnFront}
use Rattle.laws_turns.proofs.OwnFronts as own_fronts
use Rattle.laws_turns.proofs.Rounds.{AreProper, IsGood, IsSited, called_good, decisions_proper, takes_good}
use Rattle.laws_turns.proofs.ClientCases.{called_cases, heard_cases, sent_cases}
use Rattle.qc_list.proofs.Members.{every-append, every-front}
use Rattle.qc_list.proofs.Booleans.{if_two}

-- what a client is asked is what the script asks

pub asked_line : (decl : Declaration) (a : ℕ) (lines : List CommandLine) → AreAskable decl lines
    → Every (IsAskable decl a) (commands_for a lines)
asked_line decl a [] all = tt
asked_line decl a (l ∷ lines) all = at (l.actor == a) refl (asked_line decl a lines all.1)
  where
    at : (t : Bool) → (l.actor == a) ≡ t → Every (IsAskable decl a) (commands_for a lines)
        → Every (IsAskable decl a)
        (map (λ (x : CommandLine). x.command)
        (cond t (l ∷ filter (λ (x : CommandLine). x.actor == a) lines)
        (filter (λ (x : CommandLine). x.actor == a) lines)))
    at true same rest = (subst (λ (k : ℕ). IsAskable decl k l.command) (eqb-true l.actor a same) all.0, rest)
    at false other rest = rest

asked_phases : (decl : Declaration) (a : ℕ) (phases : List PhaseLines) (k : ℕ)
    → Every (λ (p : PhaseLines). AreAskable decl p.commands) phases
    → Every (IsAskable decl a) (asked_in_all a (take k phases))
asked_phases decl a [] zero all = tt
asked_phases decl a [] (suc k) all = tt
asked_phases decl a (p ∷ phases) zero all = tt
asked_phases decl a (p ∷ phases) (suc k) all =
    every-append (IsAskable decl a) (commands_for a p.commands) (asked_in_all a (take k phases))
    (asked_line decl a p.commands all.0) (asked_phases decl a phases k all.1)

abbrev pub IsAskableGiven : Declaration → ℕ → Input → Type 0
IsAskableGiven decl a (inputs.Called command) = IsAskable decl a command
IsAskableGiven decl a (inputs.Got envelope) = Unit {0}
IsAskableGiven decl a (inputs.Lost number) = Unit {0}

abbrev pub IsAskableDeed : Declaration → ℕ → Deed → Type 0
IsAskableDeed decl a (Takes g) = IsAskableGiven decl a g
IsAskableDeed decl a (Writes written) = Unit {0}
IsAskableDeed decl a (Sends number to message) = Unit {0}
IsAskableDeed decl a (Tells reply) = Unit {0}
IsAskableDeed decl a (Falls cause pending) = Unit {0}
IsAskableDeed decl a (Rises records) = Unit {0}

askable_deeds : (decl : Declaration) (a : ℕ) (ds : List Deed) → Every (IsAskable decl a) (filter_map call_in ds)
    → Every (IsAskableDeed decl a) ds
askable_deeds decl a [] all = tt
askable_deeds decl a (Takes (inputs.Called command) ∷ ds) all = (all.0, askable_deeds decl a ds all.1)
askable_deeds decl a (Takes (inputs.Got envelope) ∷ ds) all = (tt, askable_deeds decl a ds all)
askable_deeds decl a (Takes (inputs.Lost number) ∷ ds) all = (tt, askable_deeds decl a ds all)
askable_deeds decl a (Writes written ∷ ds) all = (tt, askable_deeds decl a ds all)
askable_deeds decl a (Sends number to message ∷ ds) all = (tt, askable_deeds decl a ds all)
askable_deeds decl a (Tells reply ∷ ds) all = (tt, askable_deeds decl a ds all)
askable_deeds decl a (Falls cause pending ∷ ds) all = (tt, askable_deeds decl a ds all)
askable_deeds decl a (Rises records ∷ ds) all = (tt, askable_deeds decl a ds all)

pub run_askable : (decl : Declaration) (script : Script) (a : ℕ) (h : List Entry) (open_inputs : List Bool)
    → AsksDeclared decl script → Runs (IsLawful decl) decl script h open_inputs
    → Every (IsAskableDeed decl a) (deeds a [] h)
run_askable decl script a h open_inputs asks run =
    askable_deeds decl a (deeds a [] h) (every-front (IsAskable decl a) (calls_of a h) (inbox script a h).commands
    (subst (Every (IsAskable decl a)) (sym (calls_are_asked decl script a h open_inputs run))
    (asked_phases decl a script.phases (phase_of h) asks)))

-- a client

pub record Sound (decl : Declaration) (k : ℕ) (c : Client) : Type 0 where
  pub front : OwnFront k c.front
  pub sited : IsSited decl c.front.doing

pub record SoundMove (decl : Declaration) (k : ℕ) (m : ClientMove) : Type 0 where
  pub sound : Sound decl k m.client
  pub sends : AreProper decl m.turn.sends

module _ (decl : Declaration) (accepted : IsAccepted decl) (a k : ℕ) (within : k < decl.clients) where
  front_sound : (c : Client) (m : FrontMove) → OwnFront k m.front → IsGood decl m → SoundMove decl k (by_front c m)
  front_sound c m own good = record { sound = record { front = own; sited = good.doing }; sends = good.sends }

  called_front : (c : Client) (command : Command) → IsAskable decl a command → Sound decl k c
      → SoundMove decl k (by_front c (fronts.called decl c.front command))
  called_front c command is s =
      front_sound c (fronts.called decl c.front command) (own_fronts.called_own decl k c.front command s.front)
      (called_good decl accepted k within a c.front command is s.front s.sited)

  takes_front : (c : Client) (number : ℕ) (answer : Option Answer) → Sound decl k c
      → SoundMove decl k (by_front c (fronts.takes decl c.front number answer))
  takes_front c number answer s =
      front_sound c (fronts.takes decl c.front number answer)
      (own_fronts.takes_own decl k c.front number answer s.front)
      (takes_good decl accepted k within c.front number answer s.sited s.front)

  -- the desk

  desk_sound : (c : Client) (m : DeskMove) → Sound decl k c → AreProper decl m.turn.sends
      → SoundMove decl k (by_desk c m)
  desk_sound c m s sends = record { sound = at (is_some m.turn.told); sends = sends }
    where
      at : (t : Bool)
          → Sound decl k
          (record { front = if t then ended c.front m.desk.clock.value m.desk.epoch else c.front; desk = m.desk })
      at true = record { front = record { client = s.front.client; begun = tt }; sited = tt }
      at false = record { front = s.front; sited = s.sited }

  prepares_proper : (b : Begun) (sites : List ℕ) → b.tx.client ≡ k → AreSites decl sites
      → AreProper decl (map (prepares b) sites)
  prepares_proper b [] own all = tt
  prepares_proper b (s ∷ sites) own all = (
    (all.0, (λ i. lt-ltb b.tx.client decl.clients (subst (λ (n : ℕ). n < decl.clients) (sym own) within) i && true)),
    prepares_proper b sites own all.1,
  )

  participants_sites : (client : ℕ) (b : Begun) → AreSites decl (participants decl client b)
  participants_sites client b =
      let some : 0 < decl.sites = accepted.has_site in
      sites_filter decl (has_granted b.lives) (cyclic decl.sites (first_site decl client))
      (sites_cyclic decl decl.sites (first_site decl client) (omega arith)
      (let low : client % decl.sites < decl.sites = omega arith in omega arith))

  prepare_proper : (desk : Desk) (b : Begun) (clock : ℕ) → b.tx.client ≡ k
      → AreProper decl (desks.prepare decl desk b clock).turn.sends
  prepare_proper desk b clock own =
      if_two (λ (m : DeskMove). AreProper decl m.turn.sends) (length (participants decl desk.client b) == 0)
      (desks.decides (desks.passed desk clock) b) _
      (decisions_proper decl b (outcomes.Committed (desks.next_stamp (desks.passed desk clock))))
      (prepares_proper b (participants decl desk.client b) own (participants_sites desk.client b))

  counted_proper : (desk : Desk) (b : Begun) (o : Option AbortCause)
      → AreProper decl (desks.counted_out desk b o).turn.sends
  counted_proper desk b None = decisions_proper decl b (outcomes.Committed (desks.next_stamp desk))
  counted_proper desk b (Some why) = decisions_proper decl b outcomes.Aborted

  votes_proper : (desk : Desk) (v : Voting) (number : ℕ) (answer : Option Answer) (o : Option ℕ)
      → AreProper decl (desks.votes_at desk v number answer o).turn.sends
  votes_proper desk v number answer None = tt
  votes_proper desk v number answer (Some site) =
      if_two (λ (m : DeskMove). AreProper decl m.turn.sends)
      (are_cast (cast v.ballots site (vote_of v.begun site answer)))
      (desks.counted_out (desks.learns desk answer) v.begun
      (first_against (cast v.ballots site (vote_of v.begun site answer)))) _
      (counted_proper (desks.learns desk answer) v.begun
      (first_against (cast v.ballots site (vote_of v.begun site answer)))) tt

  vote_proper : (desk : Desk) (o : Option Voting) (number : ℕ) (answer : Option Answer)
      → AreProper decl (desks.votes_in desk o number answer).turn.sends
  vote_proper desk None number answer = tt
  vote_proper desk (Some v) number answer = votes_proper desk v number answer (site_called v.calls number)

  -- each input

  commits_sound : (c : Client) (o : Option Transaction) → c.front.transaction ≡ o → Sound decl k c
      → SoundMove decl k (commits decl c o)
  commits_sound c None is s = called_front c commands.Commit tt s
  commits_sound c (Some t) is s =
      if_two (SoundMove decl k) t.begun.doomed (by_front c (fronts.called decl c.front commands.Commit))
      (by_desk c (desks.prepare decl c.desk t.begun c.front.clock.value)) (called_front c commands.Commit tt s)
      (desk_sound c (desks.prepare decl c.desk t.begun c.front.clock.value) s
      (prepare_proper c.desk t.begun c.front.clock.value (subst (own_fronts.IsOwnTransaction k) is s.front.begun)))

  called_sound : (c : Client) (command : Command) → IsAskable decl a command → Sound decl k c
      → SoundMove decl k (called decl c command)
  called_sound c command is s =
      called_cases decl c (λ command m. IsAskable decl a command → SoundMove decl k m)
      (λ command is. called_front c command is s) (λ is. commits_sound c c.front.transaction refl s) command is

  answered_sound : (c : Client) (number : ℕ) (answer : Option Answer) → Sound decl k c
      → SoundMove decl k (answered decl c number answer)
  answered_sound c number answer s = at c.desk.voting
    where
      at : (o : Option Voting) → SoundMove decl k (answered_by decl c o number answer)
      at None = takes_front c number answer s
      at (Some v) = desk_sound c (desks.vote c.desk number answer) s (vote_proper c.desk c.desk.voting number answer)

  heard_sound : (c : Client) (from number : ℕ) (m : Message) → Sound decl k c
      → SoundMove decl k (heard decl c from number m)
  heard_sound c from number m s =
      heard_cases decl c from number (λ m move. SoundMove decl k move) (λ m none. record { sound = s; sends = tt })
      (λ to answer. answered_sound c to (Some answer) s) (λ tx. record { sound = s; sends = (tt, tt) })
      (λ tx. record { sound = s; sends = (tt, tt) }) m

  pub takes_sound : (c : Client) (g : Input) → IsAskableGiven decl a g → Sound decl k c
      → SoundMove decl k (client_takes decl c g)
  takes_sound c (inputs.Called command) is s = called_sound c command is s
  takes_sound c (inputs.Got envelope) is s = heard_sound c envelope.from envelope.number envelope.message s
  takes_sound c (inputs.Lost number) is s = answered_sound c number None s

  asked_sited : (doing : Doing) (number site : ℕ) → IsSited decl doing
      → IsSited decl (fronts.requested_in doing number site)
  asked_sited Idle number site is = tt
  asked_sited (Reading object inv calls round) number site is = is
  asked_sited (Appending object inv event calls round) number site is = is

  pub sent_sound : (c : Client) (number to : ℕ) (m : Message) → Sound decl k c → Sound decl k (sent_one c number to m)
  sent_sound c number to m s =
      sent_cases c number to (Sound decl k)
      (record {
        front = record { client = s.front.client; begun = s.front.begun };
        sited = asked_sited c.front.doing number to s.sited;
      })
      (record { front = s.front; sited = s.sited }) s m

  does_sound : (m : ClientMove) (d : Deed) → IsAskableDeed decl a d → SoundMove decl k m
      → SoundMove decl k (client_does decl m d)
  does_sound m (Takes g) is s = takes_sound m.client g is s.sound
  does_sound m (Writes written) is s = s
  does_sound m (Sends number to message) is s =
      record { sound = sent_sound m.client number to message s.sound; sends = s.sends }
  does_sound m (Tells reply) is s = s
  does_sound m (Falls cause pending) is s = s
  does_sound m (Rises records) is s = s

  all_sound : (ds : List Deed) (m : ClientMove) → Every (IsAskableDeed decl a) ds → SoundMove decl k m
      → SoundMove decl k (fold (client_does decl) m ds)
  all_sound [] m are s = s
  all_sound (d ∷ ds) m are s = all_sound ds (client_does decl m d) are.1 (does_sound m d are.0 s)

  pub client_proper : (ds : List Deed) → Every (IsAskableDeed decl a) ds
      → AreProper decl (client_after decl k ds).turn.sends
  client_proper ds are =
      (all_sound ds (moved (new_client k) quiet) are
      (record { sound = record { front = record { client = refl; begun = tt }; sited = tt }; sends = tt })).sends

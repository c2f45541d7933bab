-- An actor's state: a site's, a client's, or the administrator's, or none while it is down. What it becomes and does
-- for each input and as it rises, and over all its deeds.
use Rattle.std.specs.Prelude.{ℕ, ◌-◌, ◌^◌, ◌<◌, ◌≤◌, if◌then◌else◌, List, fold, length}
use Rattle.std.specs.List.{AllByRecursion as Every}
use Rattle.qc_decl.specs.declared.declaration.Declaration.{Declaration}
use Rattle.qc_admin.specs.Vocabulary.{AdminFits, sent as admin_sent}
use Rattle.qc_decl.specs.Vocabulary.{is_client, is_site, most_sites}
use Rattle.qc_commit.specs.Fits as votes
use Rattle.qc_front.specs.Fits as rounds
use Rattle.qc_client.specs.Vocabulary.{ClientFits, ClientMove, new_client}
use Rattle.qc_client.specs.Conduct as clients
use Rattle.qc_epoch.specs.Vocabulary.{AdminMove, new_admin}
use Rattle.qc_epoch.specs.Conduct as admins
use Rattle.qc_msg.specs.declared.message.Message.{Message}
use Rattle.qc_msg.specs.declared.record.Record.{Record}
use Rattle.qc_msg.specs.declared.reply.Reply.TheVariants as replies
use Rattle.qc_msg.specs.declared.step.Input.{Input}
use Rattle.qc_msg.specs.declared.step.Input.TheVariants as inputs
use Rattle.qc_msg.specs.declared.turn.Posting.{Posting}
use Rattle.qc_msg.specs.declared.turn.Turn.{Turn}
use Rattle.qc_msg.specs.Vocabulary.{Deed, Falls, Rises, Sends, Takes, Tells, Writes, quiet, telling}
use Rattle.qc_recover.specs.Vocabulary.{admin_rises, client_rises, site_rises}
use Rattle.qc_site.specs.Vocabulary.{SiteMove, new_site, site_on, site_takes}
use Rattle.qc_core.specs.declared.actor.Actor.{Actor}
use Rattle.qc_core.specs.declared.actor.Actor.TheVariants.{Site, Client, Admin, Down}
use Rattle.qc_link.specs.Vocabulary.{most_actors}

-- what an actor becomes, and what it does
pub record ActorMove : Type 0 where
  pub actor : Actor
  pub turn : Turn

abbrev pub moved : Actor → Turn → ActorMove
moved actor turn = record { actor = actor; turn = turn }

abbrev pub by_site : SiteMove → ActorMove
by_site move = moved (Site move.site) move.turn

abbrev pub by_client : ClientMove → ActorMove
by_client move = moved (Client move.client) move.turn

abbrev pub by_admin : AdminMove → ActorMove
by_admin move = moved (Admin move.admin) move.turn

-- an actor that has done nothing: sites are numbered first, then clients, then the administrator
abbrev pub new_actor : Declaration → ℕ → Actor
new_actor decl a =
    if is_site decl a then Site (new_site a)
    else (if is_client decl a then Client (new_client (a - decl.sites)) else Admin new_admin)

-- while it is down it tells so for a command, and nothing else comes to it
abbrev pub down_takes : Input → Turn
down_takes (inputs.Called command) = telling replies.Down
down_takes (inputs.Got envelope) = quiet
down_takes (inputs.Lost number) = quiet

-- what it takes
abbrev pub actor_takes : Declaration → Actor → Input → ActorMove
actor_takes decl (Site s) given = by_site (site_takes decl s given)
actor_takes decl (Client c) given = by_client (clients.client_takes decl c given)
actor_takes decl (Admin m) given = by_admin (admins.admin_takes decl m given)
actor_takes decl Down given = moved Down (down_takes given)

-- the same of a message of this sender and number
abbrev pub actor_hears : Declaration → Actor → ℕ → ℕ → Message → ActorMove
actor_hears decl (Site s) from number message = by_site (site_on decl s from number message)
actor_hears decl (Client c) from number message = by_client (clients.heard decl c from number message)
actor_hears decl (Admin m) from number message = by_admin (admins.heard decl m message)
actor_hears decl Down from number message = moved Down quiet

-- what it is by these records, with the one of its rise, and its rising turn
abbrev pub actor_rises : Declaration → ℕ → List Record → ActorMove
actor_rises decl a records =
    if is_site decl a then by_site (site_rises decl a records)
    else (if is_client decl a then by_client (client_rises (a - decl.sites) records)
    else by_admin (admin_rises records))

-- a message of its own was sent under this number; a site keeps none, nor does an actor that is down
abbrev pub actor_sends : Actor → ℕ → ℕ → Message → Actor
actor_sends (Site s) number to message = Site s
actor_sends (Client c) number to message = Client (clients.sent_one c number to message)
actor_sends (Admin m) number to message = Admin (admins.sent_one m number to message)
actor_sends Down number to message = Down

-- the messages of its last turn have the numbers from this one on
abbrev pub actor_sent : Actor → ℕ → Actor
actor_sent (Site s) first = Site s
actor_sent (Client c) first = Client (clients.sent c first)
actor_sent (Admin m) first = Admin (admin_sent m first)
actor_sent Down first = Down

-- an actor over its deeds. After an input, or a rise, it is what it becomes where the turn's record is written: where
-- it isn't, a fall follows at once, so that nobody sees it

abbrev pub actor_does : Declaration → ℕ → ActorMove → Deed → ActorMove
actor_does decl a move (Takes given) = actor_takes decl move.actor given
actor_does decl a move (Writes written) = move
actor_does decl a move (Sends number to message) = record move { actor = actor_sends move.actor number to message }
actor_does decl a move (Tells reply) = move
actor_does decl a move (Falls cause pending) = moved Down quiet
actor_does decl a move (Rises records) = actor_rises decl a records

-- what an actor is after these deeds, and its turn for the last input or rise
abbrev pub actor_after : Declaration → ℕ → List Deed → ActorMove
actor_after decl a deeds = fold (actor_does decl a) (moved (new_actor decl a) quiet) deeds

-- What holds of an actor, and of what it takes, in every run of fewer steps than the limit, and its calls rely on. A
-- site can count one life more; the calls of an actor that is down rely on nothing.

abbrev pub ActorFits : Actor → Type 0
ActorFits (Site s) = s.life < 2 ^ 32 - 1
ActorFits (Client c) = ClientFits c
ActorFits (Admin m) = AdminFits m
ActorFits Down = Unit {0}

-- the life of a site, and the count and the clocks of a client, are at most this; the administrator counts nothing
abbrev pub ActorWithin : ℕ → Actor → Type 0
ActorWithin n (Site s) = s.life ≤ n
ActorWithin n (Client c) = (c.front.count ≤ n) × (c.front.clock.value ≤ n) × (c.desk.clock.value ≤ n)
ActorWithin n (Admin m) = Unit {0}
ActorWithin n Down = Unit {0}

-- the actor has asked few sites, so that it can number what it asked; the administrator fits
abbrev pub AsksFew : Actor → Type 0
AsksFew (Site s) = Unit {0}
AsksFew (Client c) = votes.AsksFew c.desk.voting × rounds.AsksFew c.front.doing
AsksFew (Admin m) = AdminFits m
AsksFew Down = Unit {0}

-- a message comes from an actor; actors are numbered below the most actors
abbrev pub IsFrom : Input → Type 0
IsFrom (inputs.Called command) = Unit {0}
IsFrom (inputs.Got envelope) = envelope.from < most_actors
IsFrom (inputs.Lost number) = Unit {0}

abbrev pub IsFromActor : Deed → Type 0
IsFromActor (Takes given) = IsFrom given
IsFromActor (Writes written) = Unit {0}
IsFromActor (Sends number to message) = Unit {0}
IsFromActor (Tells reply) = Unit {0}
IsFromActor (Falls cause pending) = Unit {0}
IsFromActor (Rises records) = Unit {0}

-- a turn goes to actors, and has few messages: at most one for each site
pub record IsShort (turn : Turn) : Type 0 where
  pub receivers : Every (λ (p : Posting). p.to < most_actors) turn.sends
  pub few : length turn.sends ≤ most_sites

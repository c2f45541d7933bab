-- What holds of him, and of what he takes, in every run, and his calls rely on.
use Rattle.std.specs.Prelude.{[], MatchOption, option_and_then, ◌≡◌, ℕ, ◌+◌, ◌^◌, ◌<◌, ◌≤◌, List, ◌++◌, length, map}
use Rattle.std.specs.Prelude.{Option, Some}
use Rattle.std.specs.List.{AllByRecursion as Every}
use Rattle.qc_decl.specs.Vocabulary.{most_clients, most_sites}
use Rattle.qc_entry.specs.declared.record.Prepared.{Prepared}
use Rattle.qc_msg.specs.declared.message.Answer.{Answer}
use Rattle.qc_msg.specs.declared.message.Message.{Message}
use Rattle.qc_msg.specs.declared.step.Input.{Input}
use Rattle.qc_msg.specs.declared.step.Input.TheVariants as inputs
use Rattle.qc_msg.specs.declared.turn.Posting.{Posting}
use Rattle.qc_msg.specs.declared.turn.Turn.{Turn}
use Rattle.qc_plan.specs.Vocabulary.{RoundState}
use Rattle.qc_front.specs.Vocabulary.{sites_called, sites_of}
use Rattle.qc_epoch.specs.Vocabulary.{Admin, Asking, Closing, Doing, Installing, Resting, ShutSite, most_asks, site_set}
use Rattle.qc_msg.specs.Vocabulary.{Answered, answer_in, shut_in}
use Rattle.qc_msg.specs.declared.payload.Snapshot.{Snapshot}

-- few sites, which are a set of 16 bits
pub record AreSites (sites : List ℕ) : Type 0 where
  pub few : length sites ≤ most_sites
  pub set : site_set sites < 2 ^ 16

-- the sites that a round has asked, or may ask
abbrev pub sites_in : RoundState → List ℕ
sites_in round = sites_of round.asked ++ round.rest

-- what is promised is of clients below the most clients

abbrev pub AreOfClients : List Prepared → Type 0
AreOfClients prepared = Every (λ (p : Prepared). p.tx.client < most_clients) prepared

abbrev pub ShutsFit : List ShutSite → Type 0
ShutsFit shuts = Every (λ (s : ShutSite). AreOfClients s.prepared) shuts

-- where nothing is open, nothing is installed: the Installs have no numbers yet
pub record InstallsFit (closed sites : List ℕ) (asked installed : List ℕ) : Type 0 where
  pub closed_set : site_set closed < 2 ^ 16
  pub sites_are : AreSites sites
  pub told : site_set installed + site_set asked < 2 ^ 16
  pub none : asked ≡ [] → installed ≡ []

abbrev pub DoingFits : Doing → Type 0
DoingFits Resting = Unit {0}
DoingFits (Closing epoch calls round shuts) = AreSites (sites_in round) × ShutsFit shuts
DoingFits (Asking epoch shuts questions) = site_set (map (λ (s : ShutSite). s.site) shuts) < 2 ^ 16
DoingFits (Installing closed sites calls installed) = InstallsFit closed sites (sites_called calls) installed

abbrev pub AdminFits : Admin → Type 0
AdminFits m = DoingFits m.doing

-- what he takes

abbrev pub AnswerFits : Option Answer → Type 0
AnswerFits answer = MatchOption (option_and_then shut_in answer) (Unit {0}) (λ (z : Snapshot). AreOfClients z.prepared)

abbrev pub MessageFits : Message → Type 0
MessageFits message = MatchOption (answer_in message) (Unit {0}) (λ (a : Answered). AnswerFits (Some a.answer))

abbrev pub GivenFits : Input → Type 0
GivenFits (inputs.Called command) = Unit {0}
GivenFits (inputs.Got envelope) = MessageFits envelope.message
GivenFits (inputs.Lost number) = Unit {0}

-- a turn goes to sites and clients, and has few messages: at most one for each site, or one for each question that is
-- asked
pub record GoesToActors (turn : Turn) : Type 0 where
  pub receivers : Every (λ (p : Posting). p.to < most_sites + most_clients) turn.sends
  pub few : length turn.sends ≤ most_asks

-- A site by its conduct: it takes an input and posts the turn that this calls for, again and again; it falls, and rises
-- from its records. And what is promised of it: all that it is, its own steps show.
use Rattle.std.specs.Prelude.{[], MatchOption, ◌≡◌, ℕ, Bool, true, false, List, ◌∷◌, ◌++◌, None}
use Rattle.qc_stamp.specs.declared.stamp.TxId.{TxId}
use Rattle.qc_decl.specs.declared.declaration.Declaration.{Declaration}
use Rattle.qc_msg.specs.declared.message.Message.{Message}
use Rattle.qc_msg.specs.declared.message.Outcome.{Outcome}
use Rattle.qc_msg.specs.declared.message.Outcome.TheVariants.{Committed, Aborted, Active}
use Rattle.qc_msg.specs.declared.step.Input.{Input}
use Rattle.qc_msg.specs.declared.step.Input.TheVariants as inputs
use Rattle.qc_msg.specs.declared.record.Record.{Record}
use Rattle.qc_msg.specs.declared.step.Fall.{Fall}
use Rattle.qc_msg.specs.declared.step.Fall.TheVariants.{Script}
use Rattle.qc_msg.specs.declared.turn.Appended.{Appended}
use Rattle.qc_msg.specs.declared.turn.Appended.TheVariants.{Done, Failed, Stopped}
use Rattle.qc_msg.specs.declared.turn.Turn.{Turn}
use Rattle.qc_msg.specs.Vocabulary.{Deed, Falls, Rises, Sends, Takes, Tells, Writes, deeds_as, Decided, decision_in}
use Rattle.qc_promise.specs.Vocabulary.{all_arrived, began_shown, clock_shown, closed_shown, epoch_shown, held_shown}
use Rattle.qc_promise.specs.Vocabulary.{life_shown}
use Rattle.qc_promise.specs.Vocabulary.{prepared_shown, recorded_shown, since_shown}
use Rattle.qc_site.specs.Vocabulary.{SiteState}
use Rattle.qc_core.specs.Conduct.{IsLawfulWithFalls}

-- a Decision Committed names a stamp of the transaction's own client: a site's record tells the stamp's clock alone

abbrev pub IsOwnStamp : TxId → Outcome → Type 0
IsOwnStamp tx (Committed stamp) = stamp.client ≡ tx.client
IsOwnStamp tx Aborted = Unit {0}
IsOwnStamp tx Active = Unit {0}

abbrev pub IsStamped : Message → Type 0
IsStamped message = MatchOption (decision_in message) (Unit {0}) (λ (v : Decided). IsOwnStamp v.tx v.verdict)

abbrev pub IsInput : Input → Type 0
IsInput (inputs.Called command) = Unit {0}
IsInput (inputs.Got envelope) = IsStamped envelope.message
IsInput (inputs.Lost number) = Unit {0}

-- what a site takes in a run: messages, and that a request is lost; nobody commands it

abbrev pub IsSiteInput : Input → Type 0
IsSiteInput (inputs.Called command) = ⊥
IsSiteInput (inputs.Got envelope) = IsStamped envelope.message
IsSiteInput (inputs.Lost number) = Unit {0}

abbrev pub IsSiteDeed : Deed → Type 0
IsSiteDeed (Takes given) = IsSiteInput given
IsSiteDeed (Writes written) = Unit {0}
IsSiteDeed (Sends number to message) = Unit {0}
IsSiteDeed (Tells reply) = Unit {0}
IsSiteDeed (Falls cause pending) = Unit {0}
IsSiteDeed (Rises records) = Unit {0}

-- it stays up where the record of its turn is written, or there is none
abbrev pub stays_up : Appended → Bool
stays_up Done = true
stays_up Failed = false
stays_up Stopped = false

-- The deeds of a site, and whether it is up. While it is up it takes inputs, and posts its turn after each, its
-- messages numbered from any number; where the turn's record isn't written it falls. It falls by a line of the script,
-- too. It rises with whatever records it is given, and posts its rising turn; or its journal isn't opened, which is one
-- more fall.
pub data Serves (decl : Declaration) (site : ℕ) : List Deed → Bool → Type 0 where
  starts : Serves decl site [] true
  serves : (ds : List Deed) (given : Input) (turn : Turn) (first : ℕ)
      → Serves decl site ds true
      → IsInput given
      → IsLawfulWithFalls decl site (ds ++ Takes given ∷ []) turn
      → Serves decl site (ds ++ Takes given ∷ deeds_as turn.append first turn) (stays_up turn.append)
  crashes : (ds : List Deed)
      → Serves decl site ds true
      → Serves decl site (ds ++ Falls Script None ∷ []) false
  rises : (ds : List Deed) (records : List Record) (turn : Turn) (first : ℕ)
      → Serves decl site ds false
      → IsLawfulWithFalls decl site (ds ++ Rises records ∷ []) turn
      → Serves decl site (ds ++ Rises records ∷ deeds_as turn.append first turn) (stays_up turn.append)
  unopened : (ds : List Deed) (cause : Fall)
      → Serves decl site ds false
      → Serves decl site (ds ++ Falls cause None ∷ []) false

-- a site is what its deeds show
pub record IsShown (ds : List Deed) (s : SiteState) : Type 0 where
  pub life : s.life ≡ life_shown ds
  pub epoch : s.epoch ≡ epoch_shown ds
  pub closed_for : s.closed_for ≡ closed_shown ds
  pub began : s.began ≡ began_shown ds
  pub log : s.log ≡ since_shown ds
  pub recorded : s.recorded ≡ recorded_shown ds
  pub arrived : s.arrived ≡ all_arrived ds
  pub held : s.held ≡ held_shown ds
  pub prepared : s.prepared ≡ prepared_shown ds
  pub clock : s.clock ≡ clock_shown ds

-- What comes to an actor in a run with falls, and what it posts, as far as its calls rely on it.
use Rattle.std.specs.Prelude.{[], MatchOption, ◌≡◌, ◌<◌, ◌≤◌, List, length}
use Rattle.std.specs.List.{AllByRecursion as Every}
use Rattle.qc_admin.specs.Vocabulary.{GivenFits}
use Rattle.qc_core.specs.Vocabulary.{IsFrom}
use Rattle.qc_decl.specs.Vocabulary.{actors, most_clients}
use Rattle.qc_decl.specs.declared.declaration.Declaration.{Declaration}
use Rattle.qc_epoch.specs.Vocabulary.{most_asks}
use Rattle.qc_link.specs.Vocabulary.{most_actors}
use Rattle.qc_msg.specs.declared.record.Record.{Record}
use Rattle.qc_msg.specs.declared.turn.Posting.{Posting}
use Rattle.qc_msg.specs.declared.turn.Turn.{Turn}
use Rattle.qc_msg.specs.Vocabulary.{Deed, Falls, Rises, Sends, Takes, Tells, Writes, prepare_in}
use Rattle.qc_recover.specs.Vocabulary.{most_inquiries}
use Rattle.qc_entry.specs.declared.record.Prepared.{Prepared}

-- what a record promises is of a client below the most
abbrev pub IsOfClient : Record → Type 0
IsOfClient written = MatchOption (prepare_in written) (Unit {0}) (λ (p : Prepared). p.tx.client < most_clients)

-- a message that is taken comes from an actor, and tells promises of such clients; what rises is of such, too
abbrev pub IsSound : Deed → Type 0
IsSound (Takes given) = IsFrom given × GivenFits given
IsSound (Writes written) = Unit {0}
IsSound (Sends number to message) = Unit {0}
IsSound (Tells reply) = Unit {0}
IsSound (Falls cause pending) = Unit {0}
IsSound (Rises records) = Every IsOfClient records

-- what a record promises is of a declared client
abbrev pub PromisesDeclared : Declaration → Record → Type 0
PromisesDeclared decl written =
    MatchOption (prepare_in written) (Unit {0}) (λ (p : Prepared). p.tx.client < decl.clients)

-- a rising turn has at most as many messages as records rose, and no more than a fixed number, which go to actors;
-- where its record isn't written it has none
pub record IsRisingShort (decl : Declaration) (rs : List Record) (turn : Turn) : Type 0 where
  pub few : length turn.sends ≤ length rs
  pub bounded : length turn.sends ≤ most_inquiries
  pub receivers : Every (λ (p : Posting). p.to < actors decl) turn.sends
  pub failed_sends : turn.failed_sends ≡ []

-- what is sent for an input: it goes to actors, and is at most one message for each site, or, of the administrator, one
-- for each transaction that he asks about
pub record IsTurnShort (turn : Turn) : Type 0 where
  pub receivers : Every (λ (p : Posting). p.to < most_actors) turn.sends
  pub few : length turn.sends ≤ most_asks

-- what is sent where a turn's record isn't written, for an input: at most one message, which goes to an actor
pub record IsFailedShort (turn : Turn) : Type 0 where
  pub few : length turn.failed_sends ≤ 1
  pub receivers : Every (λ (p : Posting). p.to < most_actors) turn.failed_sends

-- Every clock and count in a history is at most its number of steps.
use Rattle.std.specs.Prelude.{ℕ, ◌≤◌, ◌-◌, [], List, length}
use Rattle.qc_client.specs.Vocabulary.{client_after}
use Rattle.qc_client.specs.declared.client.Client.{Client}
use Rattle.qc_decl.specs.declared.declaration.Declaration.{Declaration}
use Rattle.qc_msg.specs.Vocabulary.{Entry, deeds, mail}
use Rattle.laws_turns.specs.Within.{ClientMoveWithin, MailWithin, SiteMoveWithin}
use Rattle.qc_site.specs.Vocabulary.{site_after}

-- of every actor: what it is as a site, and what it is as a client, after what it did
pub record IsBounded (decl : Declaration) (bound : ℕ) (h : List Entry) : Type 0 where
  -- there are at most as many messages
  pub count : length (mail h) ≤ bound
  -- the clocks of all messages
  pub messages : MailWithin bound (mail h)
  -- the clocks of every site, and of its last turn
  pub sites : (a : ℕ) → SiteMoveWithin bound (site_after decl a (deeds a [] h))
  -- the clocks and counts of every client, and of its last turn
  pub clients : (a : ℕ) → ClientMoveWithin bound (client_after decl (a - decl.sites) (deeds a [] h))

-- a client's count of transactions, and its clocks
pub record ClockBounds (bound : ℕ) (c : Client) : Type 0 where
  pub count : c.front.count ≤ bound
  pub front : c.front.clock.value ≤ bound
  pub desk : c.desk.clock.value ≤ bound

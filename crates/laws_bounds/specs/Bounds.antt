-- Bounds of a history with falls: on all clocks, on the number of messages, on counts and lives.
use Rattle.std.specs.Prelude.{ℕ, ◌≤◌, [], List, length}
use Rattle.std.specs.List.{AllByRecursion as Every}
use Rattle.qc_core.specs.declared.actor.Actor.{Actor}
use Rattle.qc_core.specs.declared.actor.Actor.TheVariants.{Site, Client, Admin, Down}
use Rattle.qc_core.specs.Vocabulary.{actor_after}
use Rattle.qc_decl.specs.declared.declaration.Declaration.{Declaration}
use Rattle.qc_msg.specs.Vocabulary.{Entry, deeds, mail}
use Rattle.laws_turns.specs.Vocabulary.{MailWithin}
use Rattle.laws_bounds.specs.Records.{risen_at}
use Rattle.laws_bounds.specs.Within.{MoveWithin, PutWithin}

pub record IsBoundedWithFalls (decl : Declaration) (bound : ℕ) (h : List Entry) : Type 0 where
  -- there are at most as many messages as steps
  pub count : length (mail h) ≤ length h
  -- the clocks of all messages
  pub messages : MailWithin bound (mail h)
  -- the clocks of every actor, and of its last turn
  pub actors : (a : ℕ) → MoveWithin bound (actor_after decl a (deeds a [] h))
  -- the clocks of all records that were written, that were being written at a fall, and that rose
  pub records : PutWithin bound h

-- how many transactions a client that is up has begun, and an actor's life: the administrator counts neither

abbrev pub CountsWithin : ℕ → Actor → Type 0
CountsWithin bound (Site s) = Unit {0}
CountsWithin bound (Client c) = c.front.count ≤ bound
CountsWithin bound (Admin m) = Unit {0}
CountsWithin bound Down = Unit {0}

abbrev pub LivesWithin : ℕ → Actor → Type 0
LivesWithin bound (Site s) = s.life ≤ bound
LivesWithin bound (Client c) = c.front.life ≤ bound
LivesWithin bound (Admin m) = Unit {0}
LivesWithin bound Down = Unit {0}

-- each rise gives at most so many records
abbrev pub RiseWithFew : ℕ → List Entry → Type 0
RiseWithFew most h = Every (λ (e : Entry). length (risen_at e.step) ≤ most) h

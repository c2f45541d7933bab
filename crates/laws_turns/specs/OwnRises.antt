-- What clients are given as they rise: commit records that name stamps of their transactions' own clients.
use Rattle.std.specs.Prelude.{[], MatchOption, ◌≡◌, ℕ, true, List}
use Rattle.std.specs.List.{AllByRecursion as Every}
use Rattle.qc_decl.specs.declared.declaration.Declaration.{Declaration}
use Rattle.qc_decl.specs.Vocabulary.{is_client}
use Rattle.qc_msg.specs.declared.record.Record.{Record}
use Rattle.qc_entry.specs.declared.record.Commit.{Commit}
use Rattle.qc_msg.specs.Vocabulary.{Deed, Entry, Falls, Rises, Sends, Takes, Tells, Writes, deeds, commit_of}

abbrev pub IsOwnRecord : Record → Type 0
IsOwnRecord written =
    MatchOption (commit_of written) (Unit {0}) (λ (commit : Commit). commit.stamp.client ≡ commit.tx.client)

abbrev pub GivesOwn : Deed → Type 0
GivesOwn (Takes given) = Unit {0}
GivesOwn (Writes written) = Unit {0}
GivesOwn (Sends number to message) = Unit {0}
GivesOwn (Tells reply) = Unit {0}
GivesOwn (Falls cause pending) = Unit {0}
GivesOwn (Rises records) = Every IsOwnRecord records

-- each client rises with such records alone
abbrev pub RiseWithOwn : Declaration → List Entry → Type 0
RiseWithOwn decl h = (a : ℕ) → is_client decl a ≡ true → Every GivesOwn (deeds a [] h)

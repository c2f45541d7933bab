-- The sites that a client's transaction asked: ascending, each a site.
use Rattle.std.specs.Prelude.{ℕ, ◌<◌, List, Option, Some, None}
use Rattle.std.specs.List.{AllByRecursion as Every}
use Rattle.std.specs.Ordering.{nat_cmp}
use Rattle.qc_client.specs.declared.client.Client.{Client}
use Rattle.qc_commit.specs.declared.desk.Voting.{Voting}
use Rattle.qc_decl.specs.declared.declaration.Declaration.{Declaration}
use Rattle.qc_front.specs.declared.transaction.Transaction.{Transaction}
use Rattle.qc_list.specs.Vocabulary.{Ascends}

pub record AreSites (decl : Declaration) (sites : List ℕ) : Type 0 where
  pub ascending : Ascends nat_cmp sites
  pub declared : Every (λ site. site < decl.sites) sites

-- those of the begun transaction, and of the one whose votes the desk waits for

abbrev pub AskedSites : Declaration → Option Transaction → Type 0
AskedSites decl None = Unit {0}
AskedSites decl (Some t) = AreSites decl t.begun.asked

abbrev pub VotedSites : Declaration → Option Voting → Type 0
VotedSites decl None = Unit {0}
VotedSites decl (Some v) = AreSites decl v.begun.asked

pub record AsksSites (decl : Declaration) (c : Client) : Type 0 where
  pub front : AskedSites decl c.front.transaction
  pub desk : VotedSites decl c.desk.voting

-- Who holds something, and what.
use Rattle.std.specs.Prelude.{◌≡◌, ◌⊎◌, ℕ, ◌<◌, List, [], ◌∷◌}
use Rattle.std.specs.List.{AllByRecursion as Every}
use Rattle.qc_decl.specs.Vocabulary.{most_clients}
use Rattle.qc_entry.specs.declared.line.OwnLine.{OwnLine}
use Rattle.qc_entry.specs.declared.record.Prepared.{Prepared}
use Rattle.qc_lock.specs.declared.held.Held.{Held}

-- the transactions that hold something are of clients below the most, who can be asked by their number
abbrev pub AreOfClients : List Held → Type 0
AreOfClients [] = Unit {0}
AreOfClients (h ∷ hs) = (h.tx.client < most_clients) × AreOfClients hs

-- and so are those that are promised
abbrev pub AreByClients : List Prepared → Type 0
AreByClients promises = Every (λ (p : Prepared). p.tx.client < most_clients) promises

-- an own line is of this operation
abbrev pub HasOperation : ℕ → List OwnLine → Type 0
HasOperation op [] = ⊥
HasOperation op (o ∷ os) = (o.op ≡ op) ⊎ HasOperation op os

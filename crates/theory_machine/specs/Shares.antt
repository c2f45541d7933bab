-- What sites share with each other of their logs (anti-entropy): no transaction asks for it, and nothing is held by it.
use Rattle.std.specs.Prelude.{◌≡◌, Bool, ◌⊎◌, List, []}
use Rattle.qc_entry.specs.declared.line.Line.{Line}
use Rattle.qc_list.specs.Vocabulary.{In}
use Rattle.theory_machine.specs.Asked.{Guard, Asked, SharesLogsOfSites, every_guard}
use Rattle.theory_machine.specs.Site.{site_after}
use Rattle.theory_machine.specs.State.{Granted, Snapshot, State}

-- some site had this log, as it granted or in a snapshot
abbrev pub WasLogOfSite : State → List Line → Type 0
WasLogOfSite now log = ((h : Granted) × In h now.granted × (log ≡ (site_after h.before).volatile))
    ⊎ ((s : Snapshot) × In s now.snapshots × (log ≡ (site_after s.before).volatile))

-- A share is a grant of nothing: what it brings is nothing, so that the site is shown as it is, or a log
-- that some site had.
abbrev pub IsShareBy : (Guard → Bool) → State → Granted → Type 0
IsShareBy ask now g = (g.items ≡ [])
    × ((g.view ≡ []) ⊎ Asked (ask SharesLogsOfSites) (WasLogOfSite now g.view))

abbrev pub IsShare : State → Granted → Type 0
IsShare = IsShareBy every_guard

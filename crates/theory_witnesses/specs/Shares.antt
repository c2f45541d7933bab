-- Moves by which sites share their logs.
use Rattle.std.specs.Prelude.{ℕ, Bool, true, false, ◌==◌, ◌&&◌, List, [], ◌∷◌}
use Rattle.qc_stamp.specs.declared.stamp.TxId.{TxId}
use Rattle.qc_entry.specs.declared.line.Line.{Line}
use Rattle.theory_machine.specs.Vocabulary.{Grant, Granted, State, site_after}
use Rattle.theory_witnesses.specs.Moves.{Move, first_where, grant_of}

-- whether there are none
abbrev pub is_empty : {A : Type 0} → List A → Bool
is_empty [] = true
is_empty (x ∷ xs) = false

-- a site's grant of nothing, which shows its log: what it shares
abbrev pub share_of : TxId → ℕ → State → Granted
share_of tx site now = grant_of tx site [] [] now

-- the site shares its log
abbrev pub shares : TxId → ℕ → Move
shares tx site now = Grant (share_of tx site now)

-- the log that a site shared last
abbrev pub shared_log : ℕ → State → List Line
shared_log site now =
    (site_after (first_where (λ (g : Granted). (g.site == site) && is_empty g.items)
    (share_of (record { client = 0; life = 1; number = 1 }) site now) now.granted).before).volatile

-- a site takes the log that another one shared last
abbrev pub takes_share : TxId → ℕ → ℕ → Move
takes_share tx site from now = Grant (grant_of tx site [] (shared_log from now) now)

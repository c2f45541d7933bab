-- The deeds of a life, parted where what is held begins anew, as code has them; and what is held then.
use Rattle.std.specs.Prelude.{Bool, ◌||◌, ◌++◌, List, fold, is_some, map}
use Rattle.qc_entry.specs.declared.record.Prepared.{Prepared}
use Rattle.qc_lock.specs.declared.held.Held.{Held}
use Rattle.qc_msg.specs.Vocabulary.{Deed, close_in, install_in}
use Rattle.qc_msg.specs.declared.record.Record.{Record}
use Rattle.qc_promise.specs.Vocabulary.{Grant, Holding, held_of_promises, holding, left_of, promises_of, promises_since}
use Rattle.qc_promise.specs.Vocabulary.{standing}
use Rattle.qc_text.specs.Deeds.{deed_of}
use Rattle.qc_text.specs.declared.holdings.Holding.{Holding as Parts}

abbrev pub parted : Parts → Holding
parted h = record { before = map deed_of h.before.now; since = map deed_of h.since.now }

-- whether what is held begins anew with a record
abbrev pub cut_by : Record → Bool
cut_by r = is_some (close_in r) || is_some (install_in r)

-- what is promised after these records and deeds
abbrev pub promised_in : List Record → List Deed → List Prepared
promised_in kept ds = left_of ds (promises_of kept) ++ promises_since ds

-- what is held by who rose with these records and did this since
abbrev pub held_by : List Record → Holding → List Held
held_by kept h =
    fold (λ (held : List Held) (g : Grant). holding held g.tx g.want)
    (held_of_promises h.since (promised_in kept h.before)) (standing h.since)

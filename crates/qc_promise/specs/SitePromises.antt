-- What a site has promised to keep: each Prepare that it wrote and that isn't over (presumed abort). It rises with
-- those that stand in its records, one that a Decision Aborted had ended too: nothing was written then.
use Rattle.std.specs.Prelude.{cond, Bool, List, [], ◌∷◌, ◌++◌, is_some, Option, option_and_then}
use Rattle.std.specs.List.{find, list_any}
use Rattle.std.specs.Option.{option_map_or}
use Rattle.qc_stamp.specs.declared.stamp.TxId.{TxId}
use Rattle.qc_stamp.specs.Vocabulary.{same_tx}
use Rattle.qc_entry.specs.declared.record.Prepared.{Prepared}
use Rattle.qc_msg.specs.declared.record.Record.{Record}
use Rattle.qc_msg.specs.Vocabulary.{Deed, prepare_in, written_in}
use Rattle.qc_promise.specs.Lifetimes.{lifetime}
use Rattle.qc_promise.specs.SiteEnds.{is_over, redeems}

-- the promises among records that no later one redeems, in their order

abbrev pub unless_redeemed : List Record → Prepared → List Prepared
unless_redeemed later p = cond (list_any (redeems p.tx) later) [] (p ∷ [])

abbrev pub promises_of : List Record → List Prepared
promises_of [] = []
promises_of (r ∷ rs) = option_map_or (unless_redeemed rs) (prepare_in r) [] ++ promises_of rs

-- those that aren't over after these deeds; and those that are written among deeds and aren't over after them

abbrev pub unless_over : List Deed → Prepared → List Prepared
unless_over after p = cond (is_over p.tx after) [] (p ∷ [])

abbrev pub left_of : List Deed → List Prepared → List Prepared
left_of after [] = []
left_of after (p ∷ ps) = unless_over after p ++ left_of after ps

abbrev pub promises_since : List Deed → List Prepared
promises_since [] = []
promises_since (d ∷ ds) =
    option_map_or (unless_over ds) (option_and_then prepare_in (written_in d)) [] ++ promises_since ds

-- what is promised, in the order of the promises
abbrev pub prepared_shown : List Deed → List Prepared
prepared_shown ds = left_of (lifetime ds).since (promises_of (lifetime ds).kept) ++ promises_since (lifetime ds).since

-- the promise of a transaction, if there is one

abbrev pub promise_in : List Prepared → TxId → Option Prepared
promise_in prepared tx = find (λ (p : Prepared). same_tx p.tx tx) prepared

abbrev pub is_promised : List Deed → TxId → Bool
is_promised ds tx = is_some (promise_in (prepared_shown ds) tx)

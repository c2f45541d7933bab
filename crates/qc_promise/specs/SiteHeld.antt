-- What unfinished transactions hold at a site. At a rise, as an epoch is closed and as one is installed it holds what
-- it has promised then, and no more. Since then what stands in a request that was granted is held too. A Decision that
-- ends the transaction ends both (Herlihy 1986).
use Rattle.std.specs.Prelude.{ℕ, ◌==◌, ◌&&◌, ◌||◌, not, Bool, false, cond, List, [], ◌∷◌, ◌++◌, filter, fold, is_some}
use Rattle.std.specs.List.{list_any}
use Rattle.std.specs.Option.{option_map_or}
use Rattle.qc_stamp.specs.declared.stamp.TxId.{TxId}
use Rattle.qc_entry.specs.declared.record.Prepared.{Prepared}
use Rattle.qc_lock.specs.declared.held.Held.{Held}
use Rattle.qc_lock.specs.Vocabulary.{with_held}
use Rattle.qc_msg.specs.declared.message.Envelope.{Envelope}
use Rattle.qc_msg.specs.declared.message.Message.{Message}
use Rattle.qc_msg.specs.declared.message.Want.{Want}
use Rattle.qc_msg.specs.declared.message.Want.TheVariants.{Read, Append, Prepare}
use Rattle.qc_msg.specs.declared.record.Record.{Record}
use Rattle.qc_msg.specs.declared.turn.Posting.{Posting}
use Rattle.qc_msg.specs.Vocabulary.{Answered, Deed, Requested, answer_in, close_in, got_in, granted_in, install_in}
use Rattle.qc_msg.specs.Vocabulary.{request_in, risen_in, written_in}
use Rattle.qc_promise.specs.Posts.{sent_next}
use Rattle.qc_promise.specs.SiteEnds.{is_ended}
use Rattle.qc_promise.specs.SitePromises.{prepared_shown}

-- a Read or an Append is granted where what is posted next answers its number by Granted

abbrev pub grants : ℕ → Message → Bool
grants number m =
    option_map_or (λ (a : Answered). (a.to == number) && is_some (granted_in a.answer)) (answer_in m) false

abbrev pub is_granted : ℕ → List Deed → Bool
is_granted number after = list_any (λ (p : Posting). grants number p.message) (sent_next after)

-- what a transaction was granted
pub record Grant : Type 0 where
  pub tx : TxId
  pub want : Want

-- a request of this number stands among the deeds after it: it is granted, and its transaction isn't ended
abbrev pub stands : ℕ → TxId → List Deed → Bool
stands number tx after = is_granted number after && not (is_ended tx after)

abbrev pub standing_as : ℕ → List Deed → Requested → List Grant
standing_as number after q = cond (stands number q.tx after) (record { tx = q.tx; want = q.want } ∷ []) []

abbrev pub standing_by : List Deed → Envelope → List Grant
standing_by after e = option_map_or (standing_as e.number after) (request_in e.message) []

-- the requests that stand, in the order in which they came
abbrev pub standing : List Deed → List Grant
standing [] = []
standing (d ∷ ds) = option_map_or (standing_by ds) (got_in d) [] ++ standing ds

-- a Read's transaction holds its lock, an Append's its own lines, in place of those of it with their numbers; a
-- promised one all that its promise names

abbrev pub holding : List Held → TxId → Want → List Held
holding held tx (Read read) = with_held held tx (record { object = read.object; inv = read.inv } ∷ []) []
holding held tx (Append object view own) = with_held held tx [] own
holding held tx Prepare = held

abbrev pub with_promise : List Held → Prepared → List Held
with_promise held p = with_held held p.tx p.locks p.own

-- the deeds up to the last rise, Close or Install of a site, with it, and its deeds since
pub record Holding : Type 0 where
  pub before : List Deed
  pub since : List Deed

abbrev pub cuts : Deed → Bool
cuts d =
    is_some (risen_in d)
    || option_map_or (λ (r : Record). is_some (close_in r) || is_some (install_in r)) (written_in d) false

abbrev pub with_cut : Holding → Deed → Holding
with_cut h d =
    cond (cuts d) (record { before = h.before ++ h.since ++ d ∷ []; since = [] })
    (record h { since = h.since ++ d ∷ [] })

abbrev pub last_cut : List Deed → Holding
last_cut ds = fold with_cut (record { before = []; since = [] }) ds

-- what it holds of what was promised then, these deeds later
abbrev pub held_of_promises : List Deed → List Prepared → List Held
held_of_promises since ps = fold with_promise [] (filter (λ (p : Prepared). not (is_ended p.tx since)) ps)

-- what is held
abbrev pub held_shown : List Deed → List Held
held_shown ds =
    fold (λ (held : List Held) (g : Grant). holding held g.tx g.want)
    (held_of_promises (last_cut ds).since (prepared_shown (last_cut ds).before)) (standing (last_cut ds).since)

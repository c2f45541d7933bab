-- The transactions that hold something at a site, one deed after another.
use Rattle.std.specs.Prelude.{[], ◌≡◌, ℕ, ◌==◌, ◌&&◌, not, Bool, true, false, if◌then◌else◌, List, ◌∷◌, ◌++◌, filter}
use Rattle.std.specs.Prelude.{length}
use Rattle.std.specs.Option.{option_map_or}
use Rattle.std.specs.List.{list_any}
use Rattle.std.specs.BTreeMap.{is_at}
use Rattle.qc_stamp.specs.Vocabulary.{same_tx, tx_cmp}
use Rattle.qc_stamp.specs.declared.stamp.TxId.{TxId}
use Rattle.qc_entry.specs.declared.record.Prepared.{Prepared}
use Rattle.qc_msg.specs.declared.message.Message.{Message}
use Rattle.qc_msg.specs.declared.message.Want.{Want}
use Rattle.qc_msg.specs.declared.message.Want.TheVariants.{Read, Append, Prepare}
use Rattle.qc_msg.specs.declared.record.Record.{Record}
use Rattle.qc_msg.specs.declared.record.Record.TheVariants as records
use Rattle.qc_msg.specs.declared.step.Input.{Input}
use Rattle.qc_msg.specs.declared.step.Input.TheVariants as inputs
use Rattle.qc_msg.specs.Vocabulary.{Deed, Falls, Rises, Sends, Takes, Tells, Writes, Decided, Finished}
use Rattle.qc_msg.specs.declared.payload.EpochStart.{EpochStart}
use Rattle.qc_msg.specs.Vocabulary.{Requested, decision_in, done_in, install_in, prepare_in, request_in}
use Rattle.qc_promise.specs.Vocabulary.{grants, is_final, is_granted}

-- whether a post ends before or with a deed, and whether this sends the grant of the request of this number

abbrev pub ends_post : Deed → Bool
ends_post (Takes given) = true
ends_post (Writes written) = false
ends_post (Sends number to message) = false
ends_post (Tells reply) = false
ends_post (Falls cause pending) = true
ends_post (Rises records) = true

abbrev pub sends_grant : ℕ → Deed → Bool
sends_grant number (Takes given) = false
sends_grant number (Writes written) = false
sends_grant number (Sends n to message) = grants number message
sends_grant number (Tells reply) = false
sends_grant number (Falls cause pending) = false
sends_grant number (Rises records) = false

-- whether a transaction that is granted this holds something
abbrev pub is_holding : Want → Bool
is_holding (Read read) = true
is_holding (Append object view own) = not (length own == 0)
is_holding Prepare = false

abbrev pub is_holder : List TxId → TxId → Bool
is_holder txs tx = list_any (λ t. same_tx t tx) txs

abbrev pub with_holder : List TxId → TxId → List TxId
with_holder txs tx = if is_holder txs tx then txs else txs ++ tx ∷ []

abbrev pub without_holder : List TxId → TxId → List TxId
without_holder txs tx = filter (λ t. not (same_tx t tx)) txs

-- a record more: what a promise names is held, until a later record redeems it

abbrev pub names_some : Prepared → Bool
names_some p = not ((length p.locks == 0) && (length p.own == 0))

abbrev pub holders_with : List TxId → Record → List TxId
holders_with txs written =
    option_map_or (λ (prepared : Prepared). if names_some prepared then with_holder (without_holder txs prepared.tx)
    prepared.tx else without_holder txs prepared.tx) (prepare_in written)
    (option_map_or (λ (f : Finished). without_holder txs f.tx) (done_in written)
    (option_map_or (λ (x : EpochStart). []) (install_in written) txs))

-- each transaction is there once
abbrev pub AreOnce : List TxId → Type 0
AreOnce [] = Unit {0}
AreOnce (tx ∷ txs) = (is_holder txs tx ≡ false) × AreOnce txs

-- the keys of a set are these transactions, each of which is there once, in whatever order
pub record IsSetOf (txs keys : List TxId) : Type 0 where
  pub members : (tx : TxId) → list_any (is_at (tx_cmp tx)) keys ≡ is_holder txs tx
  pub count : length keys ≡ length txs
  pub once : AreOnce txs

-- the holders after a message of this number is taken, the deeds after it being these
abbrev pub holders_by : List TxId → ℕ → Message → List Deed → List TxId
holders_by txs number message after =
    option_map_or
    (λ (q : Requested). if is_holding q.want && is_granted number after then with_holder txs q.tx else txs)
    (request_in message)
    (option_map_or (λ (v : Decided). if is_final v.verdict then without_holder txs v.tx else txs) (decision_in message)
    txs)

abbrev pub holders_given : List TxId → Input → List Deed → List TxId
holders_given txs (inputs.Called command) after = txs
holders_given txs (inputs.Got envelope) after = holders_by txs envelope.number envelope.message after
holders_given txs (inputs.Lost number) after = txs

abbrev pub holders_at : List TxId → Deed → List Deed → List TxId
holders_at txs (Takes given) after = holders_given txs given after
holders_at txs (Writes written) after = txs
holders_at txs (Sends number to message) after = txs
holders_at txs (Tells reply) after = txs
holders_at txs (Falls cause pending) after = txs
holders_at txs (Rises records) after = txs

abbrev pub holders_from : List TxId → List Deed → List TxId
holders_from txs [] = txs
holders_from txs (d ∷ ds) = holders_from (holders_at txs d ds) ds

-- A message that asks for an answer is a request, an Ask, a Close or an Install; of a Prepare, the desk's request.
use Rattle.std.proofs.Common.{◌≡◌, ℕ, true}
use Rattle.qc_stamp.specs.declared.stamp.TxId.{TxId}
use Rattle.qc_commit.proofs.Moves.{IsPrepare, IsPromiseWanted}
use Rattle.qc_msg.specs.declared.message.Message.{Message}
use Rattle.qc_msg.specs.declared.message.Message.TheVariants as messages
use Rattle.qc_msg.specs.declared.message.Want.{Want}
use Rattle.qc_msg.specs.declared.message.Want.TheVariants.{Read, Append, Prepare}
use Rattle.qc_msg.specs.declared.payload.EpochStart.{EpochStart}
use Rattle.qc_msg.specs.Vocabulary.{Requested}
use Rattle.qc_script.specs.Vocabulary.{is_request}

pub asking_cases : (P : Message → Type 0) → ((q : Requested) → P (messages.Request q.tx q.epoch q.life q.want))
    → ((tx : TxId) → P (messages.Ask tx)) → ((epoch : ℕ) → P (messages.Close epoch))
    → ((start : EpochStart) → P (messages.Install start)) → (m : Message) → is_request m ≡ true → P m
asking_cases P request ask close install (messages.Request tx epoch life want) is =
    request (record { tx = tx; epoch = epoch; life = life; want = want })
asking_cases P request ask close install (messages.Answer to answer) is = absurd (let never : ⊥ = cc in never)
asking_cases P request ask close install (messages.Decision tx verdict) is = absurd (let never : ⊥ = cc in never)
asking_cases P request ask close install (messages.Inquiry tx) is = absurd (let never : ⊥ = cc in never)
asking_cases P request ask close install (messages.Ask tx) is = ask tx
asking_cases P request ask close install (messages.Close epoch) is = close epoch
asking_cases P request ask close install (messages.Install start) is = install start

pub prepare_cases : (P : Message → Type 0)
    → ((tx : TxId) (epoch life : ℕ) → P (messages.Request tx epoch life Prepare)) → (m : Message) → IsPrepare m → P m
prepare_cases P prepares (messages.Answer to answer) is = absurd is
prepare_cases P prepares (messages.Decision tx verdict) is = absurd is
prepare_cases P prepares (messages.Inquiry tx) is = absurd is
prepare_cases P prepares (messages.Ask tx) is = absurd is
prepare_cases P prepares (messages.Close epoch) is = absurd is
prepare_cases P prepares (messages.Install start) is = absurd is
prepare_cases P prepares (messages.Request tx epoch life want) is = by want is
  where
    by : (w : Want) → IsPromiseWanted w → P (messages.Request tx epoch life w)
    by (Read read) never = absurd never
    by (Append object view own) never = absurd never
    by Prepare so = prepares tx epoch life

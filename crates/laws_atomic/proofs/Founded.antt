-- What a client's deeds have to rest on: the lines that it was granted have records, and it asked for no promise by the
-- requests that were granted.
use Rattle.std.proofs.Common.{◌≡◌, ℕ, false, List, ◌++◌}
use Rattle.qc_stamp.specs.declared.stamp.TxId.{TxId}
use Rattle.qc_list.specs.Vocabulary.{In}
use Rattle.qc_list.proofs.Members.{In-first}
use Rattle.qc_entry.specs.declared.line.Line.{Line}
use Rattle.qc_entry.specs.declared.record.Commit.{Commit}
use Rattle.qc_msg.specs.declared.message.Answer.TheVariants.{Granted}
use Rattle.qc_msg.specs.declared.message.Envelope.{Envelope}
use Rattle.qc_msg.specs.declared.message.Message.TheVariants.{Answer, Request}
use Rattle.qc_msg.specs.declared.message.Want.{Want}
use Rattle.qc_msg.specs.declared.payload.Grant.{Grant}
use Rattle.qc_msg.specs.declared.record.Record.TheVariants as records
use Rattle.qc_msg.specs.declared.step.Input.TheVariants as inputs
use Rattle.qc_msg.specs.Vocabulary.{Deed, Sends, Takes, Writes}
use Rattle.qc_promise.specs.Vocabulary.{is_prepare}
use Rattle.laws_atomic.proofs.Seeing.{IsUpTo}

pub record AreFounded (commits : List Commit) (ds : List Deed) : Type 0 where
  pub wrote : (c : Commit) → In (Writes (records.Commit c)) ds → In c commits
  pub lines : (e : Envelope) → In (Takes (inputs.Got e)) ds → (to : ℕ) (x : Grant)
      → e.message ≡ Answer to (Granted x)
      → (l : Line) → In l x.log → IsUpTo commits l.tx x.clock
  pub asked : (e : Envelope) → In (Takes (inputs.Got e)) ds → (to : ℕ) (x : Grant)
      → e.message ≡ Answer to (Granted x)
      → (site : ℕ) (tx : TxId) (epoch at : ℕ) (want : Want) → In (Sends to site (Request tx epoch at want)) ds
      → is_prepare want ≡ false

pub founded-first : (commits : List Commit) (xs ys : List Deed) → AreFounded commits (xs ++ ys) → AreFounded commits xs
founded-first commits xs ys f = record {
  wrote = λ c among. f.wrote c (In-first (Writes (records.Commit c)) xs ys among);
  lines = λ e among. f.lines e (In-first (Takes (inputs.Got e)) xs ys among);
  asked = λ e among to x is site tx epoch at want sent. f.asked e
      (In-first (Takes (inputs.Got e)) xs ys among) to x is site tx epoch at want
      (In-first (Sends to site (Request tx epoch at want)) xs ys sent);
}

-- What stands behind a Yes.
use Rattle.std.specs.Prelude.{◌≡◌, ℕ, true, false, [], ◌∷◌, Some}
use Rattle.qc_stamp.specs.declared.stamp.TxId.{TxId}
use Rattle.qc_lock.specs.Vocabulary.{is_held}
use Rattle.qc_msg.specs.declared.message.Answer.TheVariants.{Fault}
use Rattle.qc_msg.specs.declared.record.Record.TheVariants.{Prepare}
use Rattle.qc_site.specs.Promise.{is_prepared, prepared_of, promise_of}
use Rattle.qc_site.specs.Site.{SiteMove, SiteState, answering}

-- the transaction holds something, and is promised from now on. Where it wasn't promised before, the record of all that
-- it holds is written first, and that it can't be written is told instead
pub record IsBacked (s : SiteState) (from number : ℕ) (tx : TxId) (move : SiteMove) : Type 0 where
  pub held : is_held s.held tx ≡ true
  pub promised : is_prepared move.site.prepared tx ≡ true
  pub kept : is_prepared s.prepared tx ≡ false → prepared_of move.site.prepared tx ≡ Some (promise_of s tx)
  pub written : is_prepared s.prepared tx ≡ false → move.turn.write ≡ Some (Prepare (promise_of s tx))
  pub fault : is_prepared s.prepared tx ≡ false → move.turn.failed_sends ≡ answering from number Fault ∷ []

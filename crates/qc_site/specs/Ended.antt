-- Which message ends a transaction at a site: a decision on it, unless that says that it is active.
use Rattle.std.specs.Option.{option_map_or}
use Rattle.std.specs.Prelude.{Bool, false, ◌&&◌}
use Rattle.qc_stamp.specs.declared.stamp.TxId.{TxId}
use Rattle.qc_stamp.specs.Vocabulary.{same_tx}
use Rattle.qc_msg.specs.declared.message.Message.{Message}
use Rattle.qc_msg.specs.Vocabulary.{Decided, decision_in}
pub use Rattle.qc_msg.specs.Vocabulary.{is_final}

abbrev pub ends : Message → TxId → Bool
ends message tx = option_map_or (λ (v : Decided). is_final v.verdict && same_tx v.tx tx) (decision_in message) false

-- What proofs, and other crates, name of this crate's definitions.
pub use Rattle.qc_text.specs.Asked.{asked}
pub use Rattle.qc_text.specs.Deeds.{deed_of, deeds_at, envelope_in}
pub use Rattle.qc_text.specs.Holders.{AreOnce, IsSetOf, ends_post, holders_from, holders_with, is_holder, is_holding}
pub use Rattle.qc_text.specs.Holders.{names_some, sends_grant, with_holder, without_holder}
pub use Rattle.qc_text.specs.Holdings.{held_by, parted, promised_in}
pub use Rattle.qc_text.specs.Keys.{commit_of}
pub use Rattle.qc_text.specs.Lifetimes.{epoch_in, held_in, life_in, lines_in, present}
pub use Rattle.qc_text.specs.Log.{commit_line, log_text, op_text, ops_text}
pub use Rattle.qc_text.specs.Parts.{member_text}
pub use Rattle.qc_text.specs.Pieces.{pieces_text, piece_text}
pub use Rattle.qc_text.specs.Prepares.{AreLast}
pub use Rattle.qc_text.specs.Promises.{promised_at}
pub use Rattle.qc_text.specs.Records.{epoch_at, life_at}
pub use Rattle.qc_text.specs.Replies.{replies_text, reply_by, reply_in, reply_line, reply_lines, told_of}
pub use Rattle.qc_text.specs.Sites.{down_after, down_by, is_down, site_line, sites_text}
pub use Rattle.qc_text.specs.States.{state_line, states_text}
pub use Rattle.qc_text.specs.Summary.{greatest_stamp, number_line, ops_of, summary_of, tells_aborted, with_stamp}
pub use Rattle.qc_text.specs.Text.{text_of}
pub use Rattle.qc_text.specs.Views.{view_asked}

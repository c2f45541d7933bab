-- What proofs, and other crates, name of this crate's definitions.
pub use Rattle.qc_client.specs.Client.{ClientMove, by_desk, by_front, is_begun, moved, new_client, outcome_by}
pub use Rattle.qc_client.specs.Client.{outcome_of}
pub use Rattle.qc_client.specs.Conduct.{answered, answered_by, called, client_after, client_does, client_takes, commits}
pub use Rattle.qc_client.specs.Conduct.{heard, requested, sent, sent_by, sent_one}
pub use Rattle.qc_client.specs.Fits.{ClientFits, promise_in}
pub use Rattle.qc_client.specs.Inputs.{AreReady, IsFree, IsReady, NumberedInput, TellsOutcome, after_input}
pub use Rattle.qc_client.specs.Inputs.{after_inputs, name_of}

-- What proofs, and other crates, name of this crate's definitions.
pub use Rattle.qc_admin.specs.Fits.{AdminFits, AnswerFits, AreOfClients, AreSites, DoingFits, GivenFits, GoesToActors}
pub use Rattle.qc_admin.specs.Fits.{InstallsFit, MessageFits, ShutsFit, sites_in}
pub use Rattle.qc_admin.specs.Holds.{AdminHolds, ClosingHolds, DoingHolds, IsNumberedAtOnce}
pub use Rattle.qc_admin.specs.Merging.{stamp_at, with_promised_by, with_shut_by}
pub use Rattle.qc_admin.specs.Next.{becomes, begun}
pub use Rattle.qc_admin.specs.Queries.{ask_about, asked_from, in_doubt, is_open, latest_of, number_at, open_at}
pub use Rattle.qc_admin.specs.Queries.{open_place, question_of, shown, unasked, waiting_in}
pub use Rattle.qc_admin.specs.Sent.{is_unasked, numbered, numbered_all, sent, sent_each, with_numbers}
pub use Rattle.qc_admin.specs.Shown.{asking_of, closing_of, doing_of, installing_of}
pub use Rattle.qc_admin.specs.Shuts.{shut_in, with_last}

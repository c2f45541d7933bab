-- What proofs, and other crates, name of this crate's definitions.
pub use Rattle.theory_witnesses.specs.Guarantees.{Guarantee, Holds, LastRecordFollowsSeen, LogsHoldOperations}
pub use Rattle.theory_witnesses.specs.Guarantees.{OperationsAreOrdered, RecordsAreApart, RecordsAreOneCopy}
pub use Rattle.theory_witnesses.specs.Guarantees.{VerdictsAgree}
pub use Rattle.theory_witnesses.specs.Moves.{Move, aborts, acts_from, acts_of, announces, append_grant, append_of}
pub use Rattle.theory_witnesses.specs.Moves.{begins, chooses, chosen_append, closes, commits, counts, decides, decision}
pub use Rattle.theory_witnesses.specs.Moves.{executes, finds_absent, grant_of, grants_append, grants_read, installs}
pub use Rattle.theory_witnesses.specs.Moves.{operation, prepares, prepares_unheard, read_grant, record_of, rises}
pub use Rattle.theory_witnesses.specs.Moves.{rises_at, sends, snapshot, tells, votes}
pub use Rattle.theory_witnesses.specs.Needed.{IsNeeded, every_guard_but, guards, place_of}
pub use Rattle.theory_witnesses.specs.Settings.{extra_kind, extra_store, latch, latch_kind, latch_names, latch_store}
pub use Rattle.theory_witnesses.specs.Settings.{moving_register, store, three_in_two_epochs, ticket, ticket_kind}
pub use Rattle.theory_witnesses.specs.Settings.{ticket_names, ticket_store, two_registers}
pub use Rattle.theory_witnesses.specs.Shares.{shares, takes_share}
pub use Rattle.theory_witnesses.specs.Stories.{appends_at, arms, asks_the_unknown, commits_at, ends_at, fires, first}
pub use Rattle.theory_witnesses.specs.Stories.{first_again, first_line, invented_line, locks, looks_unfired, moves_to}
pub use Rattle.theory_witnesses.specs.Stories.{operates, reads, reads_one, reads_only, reads_zero, second, second_again}
pub use Rattle.theory_witnesses.specs.Stories.{second_line, stamp_of, takes, takes_none, third, writes, writes_one}
pub use Rattle.theory_witnesses.specs.Stories.{writes_zero}
pub use Rattle.theory_witnesses.specs.Witnesses.{Brings, Commits, IsRefused, conflict, log_at, missed_write, one_epoch}
pub use Rattle.theory_witnesses.specs.Witnesses.{one_epoch_records, read_under_way, shared_write, two_epochs}
pub use Rattle.theory_witnesses.specs.Witnesses.{two_epochs_records, write_under_way, written_line}

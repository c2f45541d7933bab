-- What proofs, and other crates, name of this crate's definitions.
pub use Rattle.qc_site.specs.Arrived.{HasArrived}
pub use Rattle.qc_site.specs.Brought.{brought, lines_promised, stamps_at, stamps_given, stamps_in, stamps_of}
pub use Rattle.qc_site.specs.Brought.{stamps_taken, stamps_told, view_in}
pub use Rattle.qc_site.specs.Conduct.{clock_after, clock_asked, clock_told, latest, passed, site_after, site_at}
pub use Rattle.qc_site.specs.Conduct.{site_does, site_on, site_takes}
pub use Rattle.qc_site.specs.Ended.{ends, is_final}
pub use Rattle.qc_site.specs.Epochs.{closed, closes, held_by, holds, in_order, installed, installs, is_closed_for}
pub use Rattle.qc_site.specs.Epochs.{promise_cmp, promises_in_order, shut_answer}
pub use Rattle.qc_site.specs.Holders.{AreByClients, AreOfClients, HasOperation}
pub use Rattle.qc_site.specs.Promise.{dropped, finishes, is_prepared, joins, lines_of, prepare_length, prepared_of}
pub use Rattle.qc_site.specs.Promise.{prepares, promise_of, promised, promises, records_done, stamped, votes}
pub use Rattle.qc_site.specs.Promise.{with_stamped, without_prepared}
pub use Rattle.qc_site.specs.Requests.{appends, appends_by, clashing, closed_fault, fault_of, grants, life_fault}
pub use Rattle.qc_site.specs.Requests.{arrived_of, grant_told, names_declared, names_object, reads, reads_by}
pub use Rattle.qc_site.specs.Requests.{relation_at}
pub use Rattle.qc_site.specs.Requests.{requested}
pub use Rattle.qc_site.specs.Site.{SiteMove, SiteState, answering, answers, arriving, fresh, known, learned, moved}
pub use Rattle.qc_site.specs.Site.{new_site}
pub use Rattle.qc_site.specs.Site.{recording}
pub use Rattle.qc_site.specs.Sorted.{AreDeedsSorted, ArePromisesSorted, IsGivenSorted, IsMessageSorted, IsSiteSorted}
pub use Rattle.qc_site.specs.Told.{answer_of, closes_in, grants_in, installs_in, is_grant, is_vote, refuses_in}
pub use Rattle.qc_site.specs.Told.{votes_in}
pub use Rattle.qc_site.specs.Vote.{IsBacked}

-- What proofs, and other crates, name of this crate's definitions.
pub use Rattle.qc_recover.specs.Admins.{admin_by, admin_of, admin_rises, epoch_by}
pub use Rattle.qc_recover.specs.Clients.{client_by, client_of, client_rises, front_by, with_commit}
pub use Rattle.qc_recover.specs.Gathered.{last_of, log_of, with_line}
pub use Rattle.qc_recover.specs.Sites.{Kept, done_lines, done_stamp, inquiries, inquiry, keeps, kept_by, most_inquiries}
pub use Rattle.qc_recover.specs.Sites.{nothing_kept, rising, site_by, site_of, site_rises, with_promise}
pub use Rattle.qc_recover.specs.Words.{IsRecordSorted, begins_life, clocks_in, clocks_of, is_rise}

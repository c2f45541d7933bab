-- What proofs, and other crates, name of this crate's definitions.
pub use Rattle.qc_epoch.specs.Admin.{Admin, AdminMove, Asking, Closing, Doing, Installing, Question, Resting}
pub use Rattle.qc_epoch.specs.Admin.{ShutSite, moved, new_admin}
pub use Rattle.qc_epoch.specs.Answers.{is_number, outcome_in, standing_of, taken_for, with_installed, with_shut_of}
pub use Rattle.qc_epoch.specs.Conduct.{admin_takes, again, all_sites, answered, answered_in, ask_of, asking_takes, asks}
pub use Rattle.qc_epoch.specs.Conduct.{called, close_need, close_of, close_round, close_round_by, closes, closes_by}
pub use Rattle.qc_epoch.specs.Conduct.{closing_takes, decide_turn, decides, doing, goes_on, heard, install_of}
pub use Rattle.qc_epoch.specs.Conduct.{install_sends, installing, installing_takes, moves_to, numbered_first}
pub use Rattle.qc_epoch.specs.Conduct.{replies_with, requested, sent_one, settles, settles_by, site_set}
pub use Rattle.qc_epoch.specs.Deciding.{all_taken, clock_in, decision, first_doubt, greatest, in_asked_order}
pub use Rattle.qc_epoch.specs.Deciding.{is_questioned, is_settled, merged, most_asks, promised_lines, questions_of}
pub use Rattle.qc_epoch.specs.Deciding.{shut_at, shut_list, stamp_in, stamp_of, with_promised, with_question}
pub use Rattle.qc_epoch.specs.Deciding.{with_questions, with_shut}

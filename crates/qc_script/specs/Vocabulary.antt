-- What proofs, and other crates, name of this crate's definitions.
pub use Rattle.qc_script.specs.Answers.{IsTold}
pub use Rattle.qc_script.specs.Cut.{cut_off, words_behind}
pub use Rattle.qc_script.specs.Forms.{actor_of, client_in, client_of, end_of, has_leading_zero, index_of, name_of}
pub use Rattle.qc_script.specs.Forms.{ordinal_of, rule_of}
pub use Rattle.qc_script.specs.Grammar.{Refusal, empty_script, item_in, numbered, placed, read_words, script_of, tested}
pub use Rattle.qc_script.specs.Grammar.{with_line, with_lines, with_words}
pub use Rattle.qc_script.specs.Inbox.{Inbox, acting, actor_fell, answers_by, comes, comes_at_once, comes_with}
pub use Rattle.qc_script.specs.Inbox.{command_called, commands_for, control_acted, copies_at_once, copy_taken, count_of}
pub use Rattle.qc_script.specs.Inbox.{does_nothing, emptied, empty_inbox, everybody, fell_by, goes, goes_with, if_up}
pub use Rattle.qc_script.specs.Inbox.{inbox, inbox_at, is_by_line, is_request, is_up, late_copies, loss_taken, one_more}
pub use Rattle.qc_script.specs.Inbox.{opened, opened_by, phase_begun, reply_told, request_answered, request_sent}
pub use Rattle.qc_script.specs.Inbox.{with_copies, wrote_record}
pub use Rattle.qc_script.specs.Items.{actor_in, end_in, item_of}
pub use Rattle.qc_script.specs.Lines.{command_line, line_of, link_of, pair_of, verb_of}
unfoldable pub use Rattle.qc_script.specs.Lines.{other_line}
pub use Rattle.qc_script.specs.Options.{◌>>=◌}
pub use Rattle.qc_script.specs.Places.{empty_phase, has_place, is_at_controls, is_before_commands, is_in_phase, on_last}
pub use Rattle.qc_script.specs.Places.{with_command, with_control, with_item}
pub use Rattle.qc_script.specs.Ranges.{is_control_in_range, is_in_range, is_ordinal, most_number}
pub use Rattle.qc_script.specs.Ready.{after_controls, command_in, controller_step, controls_left, first_command}
pub use Rattle.qc_script.specs.Ready.{first_copy, first_lost, phase_at, phase_of, ready, ready_in, step_of_control}
pub use Rattle.qc_script.specs.Ready.{takes_commands}
pub use Rattle.qc_script.specs.Refused.{IsFirstRefused}
pub use Rattle.qc_script.specs.Requests.{SentRequest, has_number, has_request, request_numbers, requests_to}
pub use Rattle.qc_script.specs.Requests.{requests_to_others, with_lost, with_number, without_number, without_request}
pub use Rattle.qc_script.specs.Runs.{Runs}
pub use Rattle.qc_script.specs.RunsWithFalls.{RunWithFalls, RunsWithFalls, begins, control, damaged, falls, phase}
pub use Rattle.qc_script.specs.RunsWithFalls.{posts, rises, takes, unopened}
pub use Rattle.qc_script.specs.Sound.{IsActor, IsAskedFor, IsCommandFor, IsControlFor, IsEnd, IsInv, IsLinkFor}
pub use Rattle.qc_script.specs.Sound.{IsObject, IsOrdinal, IsPhaseFor, IsScriptFor}
pub use Rattle.qc_script.specs.Steady.{LeavesUp}
pub use Rattle.qc_script.specs.Text.{is_skipped, lines_of, without_cr, words_of}
pub use Rattle.qc_script.specs.Written.{AreWritable, HasFewDigits, IsWritable, IsWritableActor, IsWritableEnd}
pub use Rattle.qc_script.specs.Written.{IsWritableName, IsWritableOrdinal, IsWritableVerb, actor_word, arm_word}
pub use Rattle.qc_script.specs.Written.{end_word, is_plain, ordinal_word, rule_word, text_of_line, text_of_lines}
pub use Rattle.qc_script.specs.Written.{verb_words, with_written, words_in}

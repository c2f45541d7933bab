-- What proofs, and other crates, name of this crate's definitions.
pub use Rattle.qc_top.specs.Answers.{AreAnswers, IsAnswerFor, IsCounted, IsShort, decl_file, is_built_in}
pub use Rattle.qc_top.specs.Answers.{most_declaration_bytes, most_script_bytes, script_file}
pub use Rattle.qc_top.specs.Racks.{FillsPlaces, IsRackBlamed, IsUsed, LeavesRack, cause_of_rack}
pub use Rattle.qc_top.specs.Source.{GivesSource}
pub use Rattle.qc_top.specs.Top.{AreStatesKnown, IsEnd, IsFullCause, IsNoRack, IsNoShelf, IsNotFull, IsRan, IsRight}
pub use Rattle.qc_top.specs.Top.{IsRunnable, IsTold, Leaves, LeavesAsked, LeavesRun, LeavesWords, OnPrinted, PrintsBetween}
pub use Rattle.qc_top.specs.Top.{cause_of_words, output_of}
pub use Rattle.qc_top.specs.Words.{folder_in, folder_of}
pub use Rattle.qc_top.specs.Work.{Caused, Gives, IsBlamed, IsRefusal, accept_work, bytes_of, load_work, run_of}
pub use Rattle.qc_top.specs.Work.{script_work, spelled_in, unless_a_line_is, unless_refused, work_of, ◌>>=◌}

-- The worked histories are whole runs of their scripts.
use Rattle.std.proofs.Common.{◌≡◌, Some, refl}
use Rattle.qc_decl.specs.Vocabulary.{three}
use Rattle.tests_histories.specs.ReadAfterWrite as read_after_write
use Rattle.tests_histories.specs.ReadBeforeCommit as read_before_commit
use Rattle.tests_histories.specs.BlindWrites as blind_writes
use Rattle.tests_histories.specs.CutOff as cut_off
use Rattle.tests_histories.specs.LateCopy as late_copy
use Rattle.tests_histories.specs.EveryMessageTwice as every_message_twice
use Rattle.tests_histories.specs.DoomedWrite as doomed_write
use Rattle.tests_runs.specs.Perform.{run_by}
use Rattle.tests_runs.specs.WorkedScripts as scripts

pub read_after_write_computed : run_by three scripts.read_after_write read_after_write.moves
    ≡ Some read_after_write.history
read_after_write_computed = refl

pub read_before_commit_computed : run_by three scripts.read_before_commit read_before_commit.moves
    ≡ Some read_before_commit.history
read_before_commit_computed = refl

pub blind_writes_computed : run_by three scripts.blind_writes blind_writes.moves ≡ Some blind_writes.history
blind_writes_computed = refl

pub cut_off_computed : run_by three scripts.cut_off cut_off.moves ≡ Some cut_off.history
cut_off_computed = refl

pub late_copy_computed : run_by three scripts.late_copy late_copy.moves ≡ Some late_copy.history
late_copy_computed = refl

pub every_message_twice_computed : run_by three scripts.every_message_twice every_message_twice.moves
    ≡ Some every_message_twice.history
every_message_twice_computed = refl

pub doomed_write_computed : run_by three scripts.doomed_write doomed_write.moves ≡ Some doomed_write.history
doomed_write_computed = refl

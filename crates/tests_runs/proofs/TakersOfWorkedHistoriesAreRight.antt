-- In the worked histories those that may take an input are the model's.
use Rattle.std.proofs.Common.{◌≡◌, refl}
use Rattle.qc_decl.specs.Vocabulary.{three}
use Rattle.tests_histories.specs.ReadAfterWrite as read_after_write
use Rattle.tests_histories.specs.ReadBeforeCommit as read_before_commit
use Rattle.tests_histories.specs.BlindWrites as blind_writes
use Rattle.tests_histories.specs.CutOff as cut_off
use Rattle.tests_histories.specs.LateCopy as late_copy
use Rattle.tests_histories.specs.EveryMessageTwice as every_message_twice
use Rattle.tests_histories.specs.DoomedWrite as doomed_write
use Rattle.tests_runs.specs.Perform.{all_takers}
use Rattle.tests_runs.specs.WorkedScripts as scripts
use Rattle.tests_runs.specs.WorkedTakers as takers

pub read_after_write_computed : all_takers three scripts.read_after_write read_after_write.moves
    ≡ takers.read_after_write
read_after_write_computed = refl

pub read_before_commit_computed : all_takers three scripts.read_before_commit read_before_commit.moves
    ≡ takers.read_before_commit
read_before_commit_computed = refl

pub blind_writes_computed : all_takers three scripts.blind_writes blind_writes.moves ≡ takers.blind_writes
blind_writes_computed = refl

pub cut_off_computed : all_takers three scripts.cut_off cut_off.moves ≡ takers.cut_off
cut_off_computed = refl

pub late_copy_computed : all_takers three scripts.late_copy late_copy.moves ≡ takers.late_copy
late_copy_computed = refl

pub every_message_twice_computed : all_takers three scripts.every_message_twice every_message_twice.moves
    ≡ takers.every_message_twice
every_message_twice_computed = refl

pub doomed_write_computed : all_takers three scripts.doomed_write doomed_write.moves ≡ takers.doomed_write
doomed_write_computed = refl

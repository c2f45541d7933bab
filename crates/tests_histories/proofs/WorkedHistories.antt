-- The worked histories, computed.
use Rattle.std.proofs.Common.{◌≡◌, Some, refl}
use Rattle.qc_decl.specs.Vocabulary.{three}
use Rattle.tests_histories.specs.Play.{performed}
use Rattle.tests_histories.specs.ReadAfterWrite as read_after_write
use Rattle.tests_histories.specs.ReadBeforeCommit as read_before_commit
use Rattle.tests_histories.specs.BlindWrites as blind_writes
use Rattle.tests_histories.specs.CutOff as cut_off
use Rattle.tests_histories.specs.LateCopy as late_copy
use Rattle.tests_histories.specs.EveryMessageTwice as every_message_twice
use Rattle.tests_histories.specs.DoomedWrite as doomed_write

pub read_after_write_performed : performed three read_after_write.moves ≡ Some read_after_write.history
read_after_write_performed = refl

pub read_before_commit_performed : performed three read_before_commit.moves ≡ Some read_before_commit.history
read_before_commit_performed = refl

pub blind_writes_performed : performed three blind_writes.moves ≡ Some blind_writes.history
blind_writes_performed = refl

pub cut_off_performed : performed three cut_off.moves ≡ Some cut_off.history
cut_off_performed = refl

pub late_copy_performed : performed three late_copy.moves ≡ Some late_copy.history
late_copy_performed = refl

pub every_message_twice_performed : performed three every_message_twice.moves ≡ Some every_message_twice.history
every_message_twice_performed = refl

pub doomed_write_performed : performed three doomed_write.moves ≡ Some doomed_write.history
doomed_write_performed = refl

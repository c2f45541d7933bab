-- What becomes of him, as it is built before anything is replaced.
use Rattle.std.specs.Prelude.{Some}
use Rattle.qc_msg.specs.declared.reply.Reply.{Reply}
use Rattle.qc_msg.specs.Vocabulary.{quiet, telling}
use Rattle.qc_epoch.specs.Vocabulary.{Admin, AdminMove, Doing as Runs, doing, moved}
use Rattle.qc_admin.specs.declared.doing.Doing.{Doing}
use Rattle.qc_admin.specs.declared.doing.Doing.TheVariants.{Resting}
use Rattle.qc_admin.specs.declared.next.Next.{Next}
use Rattle.qc_admin.specs.declared.next.Next.TheVariants as nexts
use Rattle.qc_admin.specs.Shown.{doing_of}

-- what he becomes, where this runs
abbrev pub becomes : Admin → Runs → Next → AdminMove
becomes m runs (nexts.GoesOn turn) = moved (doing m runs) turn
becomes m runs (nexts.Runs other turn) = moved (doing m (doing_of other)) turn
becomes m runs (nexts.Decides d other turn) =
    moved (record { epoch = d.epoch; decided = Some d; doing = doing_of other }) turn

-- nothing is done
abbrev pub stays : Next
stays = nexts.GoesOn quiet

-- the command ends with this reply
abbrev pub told : Reply → Next
told reply = nexts.Runs Resting (telling reply)

-- what goes on has just begun
abbrev pub begun : Doing → Next → Next
begun other (nexts.GoesOn turn) = nexts.Runs other turn
begun other (nexts.Runs more turn) = nexts.Runs more turn
begun other (nexts.Decides d more turn) = nexts.Decides d more turn

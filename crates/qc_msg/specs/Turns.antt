-- Turns without a record: what is sent, then what is told.
use Rattle.std.specs.Prelude.{List, [], Option, Some, None}
use Rattle.qc_msg.specs.declared.reply.Reply.{Reply}
use Rattle.qc_msg.specs.declared.turn.Appended.TheVariants.{Done}
use Rattle.qc_msg.specs.declared.turn.Posting.{Posting}
use Rattle.qc_msg.specs.declared.turn.Turn.{Turn}

-- messages, then a reply
abbrev pub says : List Posting → Option Reply → Turn
says sends told =
    record { write = None; sends = sends; told = told; failed_sends = []; failed_told = None; append = Done }

-- nothing is done
abbrev pub quiet : Turn
quiet = says [] None

-- a reply alone
abbrev pub telling : Reply → Turn
telling reply = says [] (Some reply)

-- messages alone
abbrev pub sending : List Posting → Turn
sending sends = says sends None

-- messages, and then a reply
abbrev pub ending : List Posting → Reply → Turn
ending sends reply = says sends (Some reply)

-- Deeds of a site, right ones and wrong ones.
use Rattle.std.specs.Prelude.{List, [], ◌∷◌, ◌++◌}
use Rattle.qc_stamp.specs.declared.stamp.TxId.{TxId}
use Rattle.qc_entry.specs.declared.line.OwnLine.{OwnLine}
use Rattle.qc_lock.specs.declared.held.Held.{Held}
use Rattle.qc_msg.specs.declared.message.Answer.TheVariants.{Clash, Granted}
use Rattle.qc_msg.specs.declared.message.Message.TheVariants.{Answer, Decision, Request}
use Rattle.qc_msg.specs.declared.message.Outcome.TheVariants.{Aborted}
use Rattle.qc_msg.specs.declared.message.Want.TheVariants.{Read}
use Rattle.qc_msg.specs.declared.step.Input.TheVariants.{Got}
use Rattle.qc_msg.specs.Vocabulary.{Deed, Sends, Takes}
use Rattle.qc_msg.specs.Vocabulary.{first_read, whole_grant}

abbrev pub tx : TxId
tx = record { client = 0; life = 1; number = 1 }

-- a Read of object 0 by invocation 0, a message of client 1 to site 0
abbrev pub asks : Deed
asks = Takes (Got (record { number = 0; from = 1; to = 0; message = Request tx 1 0 (Read (first_read 0 0)) }))

-- it is granted, or refused, in the turn behind it

abbrev pub granted : List Deed
granted = asks ∷ Sends 1 1 (Answer 0 (Granted (whole_grant 1 0 []))) ∷ []

abbrev pub refused : List Deed
refused = asks ∷ Sends 1 1 (Answer 0 (Clash tx 0 0)) ∷ []

-- it was granted, and its transaction aborted since
abbrev pub ended : List Deed
ended = granted ++ Takes (Got (record { number = 2; from = 1; to = 0; message = Decision tx Aborted })) ∷ []

-- an own line, and an entry with a lock alone

abbrev pub line : OwnLine
line = record { op = 1; object = 0; event = 0 }

abbrev pub locked : Held
locked = record { tx = tx; locks = record { object = 0; inv = 0 } ∷ []; own = [] }

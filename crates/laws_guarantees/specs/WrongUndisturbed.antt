-- Histories of one site and two clients: some that the definitions refuse, and one that they take.
use Rattle.std.specs.Prelude.{ℕ, List, [], ◌∷◌, ◌++◌}
use Rattle.qc_decl.specs.declared.declaration.Declaration.{Declaration}
use Rattle.qc_msg.specs.declared.reply.Half.TheVariants.{Read}
use Rattle.qc_msg.specs.declared.reply.Reply.{Reply}
use Rattle.qc_msg.specs.declared.reply.Reply.TheVariants as replies
use Rattle.qc_msg.specs.declared.reply.AbortCause.TheVariants as causes
use Rattle.qc_msg.specs.declared.step.Command.{Command}
use Rattle.qc_msg.specs.declared.step.Command.TheVariants as commands
use Rattle.qc_msg.specs.declared.step.Step.TheVariants as steps
use Rattle.qc_msg.specs.Vocabulary.{Entry, marked}
use Rattle.qc_stamp.specs.declared.stamp.TxId.{TxId}

-- site 0, clients with the actors' numbers 1 and 2, and the controller 4
abbrev pub two_clients : Declaration
two_clients =
    record { sites = 1; clients = 2; kinds = []; objects = []; plans = []; kind_names = []; object_names = [] }

-- the first transactions of the two clients
abbrev pub mine : TxId
mine = record { client = 0; life = 1; number = 1 }

abbrev pub others : TxId
others = record { client = 1; life = 1; number = 1 }

abbrev pub calls : ℕ → Command → Entry
calls a command = marked a (steps.Called command)

abbrev pub tells : ℕ → Reply → Entry
tells a reply = marked a (steps.Told reply)

abbrev pub phase : ℕ → Entry
phase k = marked 4 (steps.Phase k)

-- a client begins
abbrev pub begins : ℕ → TxId → List Entry
begins a tx = calls a commands.Begin ∷ tells a (replies.Began tx) ∷ []

-- the first client's `do` has this reply
abbrev pub does : Reply → List Entry
does reply = calls 1 (commands.Do 0 0) ∷ tells 1 reply ∷ []

-- it is refused for the other's transaction, which was begun in an earlier phase
abbrev pub refused : List Entry
refused =
    phase 1 ∷ (begins 2 others
    ++ phase 2 ∷ (begins 1 mine
    ++ does (replies.Conflict others 0)))

-- for one that has ended
abbrev pub refused_for_ended : List Entry
refused_for_ended =
    phase 1 ∷ (begins 2 others
    ++ (calls 2 commands.Abort ∷ tells 2 replies.Dropped ∷ phase 2 ∷ (begins 1 mine
    ++ does (replies.Conflict others 0))))

-- for one that was begun in the same phase
abbrev pub refused_for_new : List Entry
refused_for_new = phase 1 ∷ (begins 2 others ++ (begins 1 mine ++ does (replies.Conflict others 0)))

-- for its own
abbrev pub refused_for_own : List Entry
refused_for_own = phase 1 ∷ (begins 1 mine ++ (phase 2 ∷ does (replies.Conflict mine 0)))

-- for want of weight
abbrev pub short : List Entry
short = phase 1 ∷ (begins 1 mine ++ does (replies.Quorum Read 0 1))

-- a commit that doesn't
abbrev pub aborted : List Entry
aborted =
    phase 1 ∷ (begins 1 mine ++ (calls 1 commands.Commit ∷ tells 1 (replies.Aborted (causes.Forgot 0)) ∷ []))

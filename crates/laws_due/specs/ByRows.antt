-- What a client's deeds follow from, by the rows alone: each reply and each record is that of the running command's
-- row, no input comes where one has a reply, and each request is one that the command asks for.
use Rattle.std.specs.Prelude.{[], MatchOption, ◌≡◌, ℕ, true, false, List, ◌∷◌}
use Rattle.qc_decl.specs.declared.declaration.Declaration.{Declaration}
use Rattle.qc_msg.specs.declared.message.Message.{Message}
use Rattle.qc_msg.specs.Vocabulary.{Deed, Falls, Rises, Sends, Takes, Tells, Writes, Requested, request_in}
use Rattle.qc_promise.specs.Vocabulary.{Account, IsInputDue, IsRecordDue, IsReplyDue, account_at, is_asked_for}
use Rattle.qc_promise.specs.Vocabulary.{running_row}

-- a request goes to the site that is next, and asks what the running command calls for
abbrev pub IsSendDue : Declaration → Account → ℕ → Message → Type 0
IsSendDue decl d to message =
    MatchOption (request_in message) (Unit {0})
    (λ (q : Requested). is_asked_for decl d to q.tx q.epoch q.life q.want ≡ true)

-- one deed, the account of those before it being d; of one life: nobody falls or rises
abbrev pub IsByRow : Declaration → Account → Deed → Type 0
IsByRow decl d (Takes given) = IsInputDue d (running_row decl d false) given
IsByRow decl d (Writes written) = IsRecordDue d (running_row decl d false) written
IsByRow decl d (Sends number to message) = IsSendDue decl d to message
IsByRow decl d (Tells reply) = IsReplyDue d (running_row decl d false) [] reply
IsByRow decl d (Falls cause pending) = ⊥
IsByRow decl d (Rises kept) = ⊥

abbrev pub AreByRows : Declaration → Account → List Deed → Type 0
AreByRows decl d [] = Unit {0}
AreByRows decl d (deed ∷ ds) = IsByRow decl d deed × AreByRows decl (account_at decl d deed) ds

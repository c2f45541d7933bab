-- What a client was told in a transaction, from its begin to its end: the reply that ends it, or the client's fall.
use Rattle.std.specs.Prelude.{[], ℕ, Bool, false, if◌then◌else◌, List, ◌∷◌, ◌++◌, Option, Some, None, fold}
use Rattle.std.specs.Option.{option_map_or}
use Rattle.qc_decl.specs.Vocabulary.{client_actor}
use Rattle.qc_decl.specs.declared.declaration.Declaration.{Declaration}
use Rattle.qc_entry.specs.declared.line.Op.{Op}
use Rattle.qc_msg.specs.Vocabulary.{Deed, Entry, Falls, Rises, Sends, Takes, Tells, Writes, deeds, Invocation, do_in}
use Rattle.qc_msg.specs.Vocabulary.{began_in, response_in, is_end}
use Rattle.qc_msg.specs.declared.reply.Reply.{Reply}
use Rattle.qc_msg.specs.declared.step.Command.{Command}
use Rattle.qc_msg.specs.declared.step.Input.{Input}
use Rattle.qc_msg.specs.declared.step.Input.TheVariants as inputs
use Rattle.qc_stamp.specs.Vocabulary.{same_tx}
use Rattle.qc_stamp.specs.declared.stamp.TxId.{TxId}

-- a client's dealings in one transaction, so far
pub record Dealing : Type 0 where
  -- the command that it called last
  pub asked : Option Command
  -- the transaction that it has begun and that hasn't ended
  pub begun : Option TxId
  -- the operations that it was told while the one transaction was begun
  pub ops : List Op
  -- the replies that ended the one transaction
  pub ends : List Reply

abbrev pub is_begun : TxId → Option TxId → Bool
is_begun tx None = false
is_begun tx (Some other) = same_tx other tx

-- the operation of a `do`, with its response or none; other commands have none

abbrev pub operation_of : Command → Option ℕ → List Op
operation_of command resp =
    option_map_or (λ (i : Invocation). record { object = i.object; inv = i.inv; resp = resp } ∷ []) (do_in command) []

abbrev pub operation : Option Command → Option ℕ → List Op
operation None resp = []
operation (Some command) resp = operation_of command resp

abbrev pub dealt : TxId → Dealing → Option ℕ → Dealing
dealt tx d resp = record d { ops = d.ops ++ (if is_begun tx d.begun then operation d.asked resp else []) }

abbrev pub ended : TxId → Dealing → Reply → Dealing
ended tx d reply = record d { begun = None; ends = d.ends ++ (if is_begun tx d.begun then reply ∷ [] else []) }

abbrev pub deal_told : TxId → Dealing → Reply → Dealing
deal_told tx d reply =
    option_map_or (λ (other : TxId). record d { begun = Some other }) (began_in reply)
    (option_map_or (dealt tx d) (response_in reply) (if is_end reply then ended tx d reply else d))

abbrev pub deal_taken : Dealing → Input → Dealing
deal_taken d (inputs.Called command) = record d { asked = Some command }
deal_taken d (inputs.Got envelope) = d
deal_taken d (inputs.Lost number) = d

-- one deed more; a fall ends the transaction, and no reply does
abbrev pub deal : TxId → Dealing → Deed → Dealing
deal tx d (Takes given) = deal_taken d given
deal tx d (Writes written) = d
deal tx d (Sends number to message) = d
deal tx d (Tells reply) = deal_told tx d reply
deal tx d (Falls cause pending) = record d { begun = None }
deal tx d (Rises kept) = d

abbrev pub no_dealing : Dealing
no_dealing = record { asked = None; begun = None; ops = []; ends = [] }

-- a client's dealings in a transaction, by its deeds
abbrev pub dealing_in : List Deed → TxId → Dealing
dealing_in ds tx = fold (deal tx) no_dealing ds

-- the operations that a transaction's client was told for it, from its begin to its end
abbrev pub deals : Declaration → List Entry → TxId → List Op
deals decl h tx = (dealing_in (deeds (client_actor decl tx.client) [] h) tx).ops

-- the replies that ended a transaction, as this client was told
abbrev pub endings : Declaration → List Entry → ℕ → TxId → List Reply
endings decl h client tx = (dealing_in (deeds (client_actor decl client) [] h) tx).ends

-- The log that a Read is granted is closed.
use Rattle.std.proofs.Common.{◌≡◌, ℕ, Bool, List, Some, slice_get, refl, sym, ◌∙◌, subst}
use Rattle.qc_stamp.specs.declared.stamp.TxId.{TxId}
use Rattle.qc_list.specs.Vocabulary.{In}
use Rattle.qc_entry.specs.declared.line.Line.{Line}
use Rattle.qc_entry.specs.declared.record.Commit.{Commit as CommitRecord}
use Rattle.qc_core.specs.Vocabulary.{IsLawful}
use Rattle.qc_decl.specs.declared.declaration.Declaration.{Declaration}
use Rattle.qc_decl.specs.Vocabulary.{IsAccepted}
use Rattle.qc_msg.specs.declared.message.Answer.TheVariants.{Granted}
use Rattle.qc_msg.specs.declared.message.Envelope.{Envelope}
use Rattle.qc_msg.specs.declared.message.Message.{Message}
use Rattle.qc_msg.specs.declared.message.Message.TheVariants as messages
use Rattle.qc_msg.specs.declared.message.Want.TheVariants.{Read}
use Rattle.qc_msg.specs.declared.payload.Grant.{Grant}
use Rattle.qc_msg.specs.Vocabulary.{Entry, first_read, mail, written}
use Rattle.theory_onecopy.specs.Vocabulary.{IsClosedLog, IsLogged}
use Rattle.theory_machine.specs.Vocabulary.{OfGrant, site_after, state}
use Rattle.theory_machine.proofs.ClaimLaws as claims
use Rattle.qc_script.specs.Vocabulary.{IsScriptFor, Runs}
use Rattle.qc_script.specs.declared.script.Script.{Script}
use Rattle.laws_refinement.specs.Vocabulary.{Backed, IsGrantTo, IsRequest}
use Rattle.laws_guarantees.proofs.Voted.{mirror, one_request, stood}

module _ (decl : Declaration) (script : Script) (accepted : IsAccepted decl) (sound : IsScriptFor decl script)
    (h : List Entry) (open_inputs : List Bool) (run : Runs (IsLawful decl) decl script h open_inputs) where
  machine_logged : (l : Line) → IsLogged decl (written h) l
      → IsLogged decl (state (mirror decl script accepted sound h open_inputs run).acts).records l
  machine_logged l k = record {
    commit = k.commit;
    listed = (mirror decl script accepted sound h open_inputs run).agrees.records k.commit
        (subst (λ (cs : List CommitRecord). In k.commit cs)
        (sym (stood decl script accepted sound h open_inputs run).written_is) k.listed);
    stamped = k.stamped;
    named = k.named;
    operation = k.operation;
  }

  pub granted_logs_are_closed : (request answer : Envelope) (tx : TxId) (number epoch named object inv : ℕ)
      (grant : Grant) → slice_get (mail h) number ≡ Some request
      → request.message ≡ messages.Request tx epoch named (Read (first_read object inv))
      → In answer (mail h) → answer.message ≡ messages.Answer number (Granted grant)
      → IsClosedLog decl (written h) grant.log
  granted_logs_are_closed request answer tx number epoch named object inv grant found asked sent is l m among committed
      same before depends =
      by (subst (λ (x : Message). Backed decl (state (mirror decl script accepted sound h open_inputs run).acts)
      (stood decl script accepted sound h open_inputs run).net.mail answer.from answer.to x) is
      ((mirror decl script accepted sound h open_inputs run).agrees.mail answer
      (subst (λ (ms : List Envelope). In answer ms)
      (sym (stood decl script accepted sound h open_inputs run).mail_is) sent)))
    where
      by : IsGrantTo decl (state (mirror decl script accepted sound h open_inputs run).acts)
          (stood decl script accepted sound h open_inputs run).net.mail answer.from number grant → In m grant.log
      by b =
          let r : IsRequest (mail h) number request.to tx (Read (first_read object inv)) =
          record { epoch = epoch; life = named; is = (request, found, refl, asked) } in
          let one : (answer.from ≡ request.to) × (b.tx ≡ tx)
          × (b.want ≡ Read (first_read object inv)) =
          one_request decl script accepted sound h open_inputs run number answer.from
          request.to b.tx tx b.want (Read (first_read object inv))
          (subst (λ (ms : List Envelope). IsRequest ms number answer.from b.tx b.want)
          (stood decl script accepted sound h open_inputs run).mail_is
          (record { epoch = b.epoch; life = b.named; is = b.request })) r in
          b.grant.whole object inv one.2 m
          (claims.logs_are_closed decl accepted (mirror decl script accepted sound h open_inputs run).acts
          (mirror decl script accepted sound h open_inputs run).run (site_after b.grant.grant.before).volatile
          (OfGrant b.grant.grant b.grant.given refl)
          l m (b.grant.lines l among) (machine_logged m committed) same before depends)
          (same ∙ b.grant.shown object inv one.2 l among)

-- The log that a Read is granted is closed, through falls.
use Rattle.std.proofs.Common.{◌≡◌, ℕ, Bool, List, Some, slice_get, refl, ◌∙◌, subst}
use Rattle.qc_core.specs.Vocabulary.{IsLawfulWithFalls}
use Rattle.qc_decl.specs.Vocabulary.{IsAccepted}
use Rattle.qc_decl.specs.declared.declaration.Declaration.{Declaration}
use Rattle.qc_entry.specs.declared.line.Line.{Line}
use Rattle.qc_list.specs.Vocabulary.{In}
use Rattle.qc_msg.specs.declared.message.Answer.TheVariants.{Granted}
use Rattle.qc_msg.specs.declared.message.Envelope.{Envelope}
use Rattle.qc_msg.specs.declared.message.Message.TheVariants as messages
use Rattle.qc_msg.specs.declared.message.Want.TheVariants.{Read}
use Rattle.qc_msg.specs.declared.payload.Grant.{Grant}
use Rattle.qc_msg.specs.declared.record.Record.{Record}
use Rattle.qc_msg.specs.Vocabulary.{Entry, mail}
use Rattle.qc_msg.specs.Vocabulary.{first_read}
use Rattle.laws_refinement.specs.Vocabulary.{IsGrantTo, IsRequest}
use Rattle.theory_onecopy.specs.Vocabulary.{IsClosedLog, IsLogged}
use Rattle.qc_promise.specs.Vocabulary.{Kept, committed}
use Rattle.theory_machine.specs.Vocabulary.{OfGrant, site_after}
use Rattle.theory_machine.proofs.ClaimLaws as claims
use Rattle.qc_script.specs.Vocabulary.{IsScriptFor, RunsWithFalls}
use Rattle.qc_script.specs.declared.script.Script.{Script}
use Rattle.qc_stamp.specs.declared.stamp.TxId.{TxId}
use Rattle.laws_votes.proofs.Nets.{backed, net, now, of_machine, one_request, reached, refined}

module _ (fits : ℕ → List Record → Type 0) (decl : Declaration) (script : Script) (h : List Entry)
    (open_inputs : List Bool) (accepted : IsAccepted decl) (sound : IsScriptFor decl script)
    (run : RunsWithFalls (IsLawfulWithFalls decl) fits decl script h open_inputs) (kept : Kept h) where
  machine_logged : (l : Line) → IsLogged decl (committed decl h) l
      → IsLogged decl (now fits decl script h open_inputs accepted sound run kept).records l
  machine_logged l k = record {
    commit = k.commit;
    listed = of_machine fits decl script h open_inputs accepted sound run kept k.commit k.listed;
    stamped = k.stamped;
    named = k.named;
    operation = k.operation;
  }

  pub granted_logs_are_closed_through_falls : (request answer : Envelope) (tx : TxId)
      (number epoch named object inv : ℕ) (grant : Grant) → slice_get (mail h) number ≡ Some request
      → request.message ≡ messages.Request tx epoch named (Read (first_read object inv))
      → In answer (mail h) → answer.message ≡ messages.Answer number (Granted grant)
      → IsClosedLog decl (committed decl h) grant.log
  granted_logs_are_closed_through_falls request answer tx number epoch named object inv grant found asked sent is l m
      among is_committed same before depends =
      by (backed fits decl script h open_inputs accepted sound run kept answer
      (messages.Answer number (Granted grant)) sent is)
    where
      by : IsGrantTo decl (now fits decl script h open_inputs accepted sound run kept)
          (net fits decl script h open_inputs accepted sound run kept).mail answer.from number grant → In m grant.log
      by b =
          let r : IsRequest (mail h) number request.to tx (Read (first_read object inv)) =
          record { epoch = epoch; life = named; is = (request, found, refl, asked) } in
          let one : (answer.from ≡ request.to) × (b.tx ≡ tx)
          × (b.want ≡ Read (first_read object inv)) =
          one_request fits decl script h open_inputs accepted sound run kept number
          answer.from request.to b.tx tx b.want (Read (first_read object inv))
          (subst (λ (ms : List Envelope). IsRequest ms number answer.from b.tx b.want)
          (reached fits decl script h open_inputs accepted sound run kept).mail_is
          (record { epoch = b.epoch; life = b.named; is = b.request })) r in
          b.grant.whole object inv one.2 m
          (claims.logs_are_closed decl accepted (refined fits decl script h open_inputs accepted sound run kept).acts
          (refined fits decl script h open_inputs accepted sound run kept).run
          (site_after b.grant.grant.before).volatile (OfGrant b.grant.grant b.grant.given refl)
          l m (b.grant.lines l among) (machine_logged m is_committed) same before depends)
          (same ∙ b.grant.shown object inv one.2 l among)

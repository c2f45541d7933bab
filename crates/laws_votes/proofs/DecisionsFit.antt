-- What an epoch begins with fits a record, within twice the limit of committed operations: each of its lines is one of
-- these. So the administrator finds no decision too long, and no site an Install.
use Rattle.std.proofs.Common.{◌*◌, ◌≡◌, ◌≤◌, ℕ, nat_le, Bool, true, false, List, [], inr, length, Some, slice_get, sym}
use Rattle.std.proofs.Common.{ap, ◌∙◌, subst, arith}
use Rattle.std.specs.Prelude.{sum_by}
use Rattle.std.proofs.lemmas.Bool.{le-leb}
use Rattle.laws_atomic.proofs.Stood.{may_come}
use Rattle.qc_core.specs.Vocabulary.{IsLawfulWithFalls, actor_after, actor_takes, is_up}
use Rattle.qc_core.specs.declared.actor.Actor.{Actor}
use Rattle.qc_core.specs.declared.actor.Actor.TheVariants.{Admin}
use Rattle.qc_decl.specs.Vocabulary.{IsAccepted, administrator, most_committed_operations, most_record_bytes}
use Rattle.qc_decl.specs.declared.declaration.Declaration.{Declaration}
use Rattle.qc_entry.specs.Vocabulary.{IsAscending}
use Rattle.qc_entry.specs.declared.line.Line.{Line}
use Rattle.qc_entry.specs.declared.record.Commit.{Commit as CommitRecord}
use Rattle.laws_guarantees.proofs.Lengths.{log_count}
use Rattle.qc_list.specs.Vocabulary.{In}
use Rattle.qc_msg.specs.Vocabulary.{Entry, WasSentTo, answered, deeds, epoch_length, mail, operations_of}
use Rattle.qc_msg.specs.declared.message.Envelope.{Envelope}
use Rattle.qc_msg.specs.declared.message.Message.{Message}
use Rattle.qc_msg.specs.declared.message.Message.TheVariants.{Install}
use Rattle.qc_msg.specs.declared.record.Record.{Record}
use Rattle.qc_msg.specs.declared.reply.Reply.TheVariants.{Fault}
use Rattle.qc_msg.specs.Vocabulary.{start_with}
use Rattle.laws_refinement.proofs.AdminCases.{admin_case}
use Rattle.laws_refinement.proofs.NetLaws.{deciding_lines, message_lines}
use Rattle.laws_refinement.specs.Vocabulary.{IsDecided, IsTooLong, lines_in}
use Rattle.theory_onecopy.specs.Vocabulary.{IsLogged}
use Rattle.qc_promise.specs.Vocabulary.{Kept, committed}
use Rattle.laws_reach.proofs.Stood.{in_admin}
use Rattle.laws_reach.specs.Vocabulary.{HasTaken}
use Rattle.qc_script.specs.Vocabulary.{IsScriptFor, RunsWithFalls}
use Rattle.qc_script.specs.declared.script.Script.{Script}
use Rattle.laws_votes.proofs.Laws.{few}
use Rattle.laws_votes.proofs.Nets.{backed, listed, logged_by, net, now, reached, refined}

module _ (fits : ℕ → List Record → Type 0) (decl : Declaration) (script : Script) (h : List Entry)
    (open_inputs : List Bool) (accepted : IsAccepted decl) (sound : IsScriptFor decl script)
    (run : RunsWithFalls (IsLawfulWithFalls decl) fits decl script h open_inputs) (kept : Kept h)
    (counted : operations_of h ≤ 2 * most_committed_operations) where
  -- lines of what was written, each once
  lines_few : (log : List Line) → IsAscending log
      → ((l : Line) → In l log → IsLogged decl (net fits decl script h open_inputs accepted sound run kept).written l)
      → epoch_length log ≤ most_record_bytes
  lines_few log sorted logged =
      let most : sum_by (λ (c : CommitRecord). answered c.ops) (committed decl h) ≤ 2 * most_committed_operations =
      few fits decl script h open_inputs accepted sound run kept counted in
      let lines : length log ≤ sum_by (λ (c : CommitRecord). answered c.ops) (committed decl h) =
      log_count decl (committed decl h) log sorted
      (λ l among. logged_by fits decl script h open_inputs accepted sound run kept (committed decl h)
      (λ c has. (listed fits decl script h open_inputs accepted sound run kept c).1 has) l (logged l among)) in
      omega arith

  -- an Install
  pub installs_fit_records_through_falls : (e : Envelope) (epoch clock : ℕ) (log : List Line) → In e (mail h)
      → e.message ≡ Install (start_with epoch clock log) → epoch_length log ≤ most_record_bytes
  installs_fit_records_through_falls e epoch clock log sent is =
      let d : IsDecided decl (now fits decl script h open_inputs accepted sound run kept) epoch clock log =
      backed fits decl script h open_inputs accepted sound run kept e (Install (start_with epoch clock log)) sent is in
      lines_few log d.sorted (λ l among. message_lines decl accepted
      (net fits decl script h open_inputs accepted sound run kept)
      (reached fits decl script h open_inputs accepted sound run kept).reached e l
      (subst (In e) (sym (reached fits decl script h open_inputs accepted sound run kept).mail_is) sent)
      (subst (λ (x : Message). In l (lines_in x)) (sym is) among))

  -- the turn of the administrator's open input
  module _ (taken : slice_get open_inputs (administrator decl) ≡ Some true)
      (up : is_up (deeds (administrator decl) [] h) ≡ true) where
    x : HasTaken decl (net fits decl script h open_inputs accepted sound run kept) (administrator decl) h
    x = (reached fits decl script h open_inputs accepted sound run kept).actors_were (administrator decl)
        (inr (inr (λ i. administrator decl))) up taken

    too_long : (actor_takes decl (Admin (net fits decl script h open_inputs accepted sound run kept).admin)
        x.given).turn.told ≡ Some Fault → IsTooLong decl (now fits decl script h open_inputs accepted sound run kept)
    too_long told =
        (admin_case decl (refined fits decl script h open_inputs accepted sound run kept).acts
        (net fits decl script h open_inputs accepted sound run kept)
        (refined fits decl script h open_inputs accepted sound run kept).run
        (refined fits decl script h open_inputs accepted sound run kept).agrees
        ((reached fits decl script h open_inputs accepted sound run kept).up_is (administrator decl)
        (inr (inr (λ i. administrator decl))) ∙ up) x.given
        (may_come (net fits decl script h open_inputs accepted sound run kept) (administrator decl) x.given
        (subst (λ (ms : List Envelope). WasSentTo (administrator decl) ms x.given)
        (sym (reached fits decl script h open_inputs accepted sound run kept).mail_is) x.sent))
        (x.may_admin (λ i. administrator decl))).3 told

    never : IsTooLong decl (now fits decl script h open_inputs accepted sound run kept) → ⊥
    never k =
        let short : nat_le (epoch_length k.decision.log) most_record_bytes ≡ true =
        le-leb (epoch_length k.decision.log) most_record_bytes (lines_few k.decision.log k.sorted
        (deciding_lines decl accepted (net fits decl script h open_inputs accepted sound run kept)
        (reached fits decl script h open_inputs accepted sound run kept).reached
        (refined fits decl script h open_inputs accepted sound run kept) k.decision k.may)) in
        let long : nat_le (epoch_length k.decision.log) most_record_bytes ≡ false = k.long in
        let no : ⊥ = cc in
        no

    pub decisions_fit_records_through_falls :
        (actor_after decl (administrator decl) (deeds (administrator decl) [] h)).turn.told ≡ Some Fault → ⊥
    decisions_fit_records_through_falls told =
        never (too_long (sym (ap (λ (m : _). m.turn.told)
        (x.is ∙ ap (λ (v : Actor). actor_takes decl v x.given)
        (in_admin decl (net fits decl script h open_inputs accepted sound run kept)))) ∙ told))

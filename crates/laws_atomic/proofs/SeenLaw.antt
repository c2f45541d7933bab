-- In every run each record comes after all that its client had seen, and so the run is atomic.
use Rattle.std.proofs.Common.{◌≡◌, ◌≤◌, ℕ, Bool, true, false, List, [], inr, Some, slice_get, refl, sym, ap, ◌∙◌, subst}
use Rattle.std.proofs.Common.{arith}
use Rattle.qc_stamp.specs.declared.stamp.Stamp.{Stamp}
use Rattle.qc_stamp.specs.declared.stamp.TxId.{TxId}
use Rattle.qc_list.specs.Vocabulary.{In}
use Rattle.qc_core.specs.Vocabulary.{IsLawful}
use Rattle.qc_decl.specs.Vocabulary.{IsAccepted, client_actor, is_client}
use Rattle.qc_decl.specs.declared.declaration.Declaration.{Declaration}
use Rattle.qc_entry.specs.declared.line.Line.{Line}
use Rattle.qc_entry.specs.declared.record.Commit.{Commit}
use Rattle.laws_turns.proofs.Acted.{actors_take_and_post_by_turns}
use Rattle.laws_turns.specs.Vocabulary.{ActsIn}
use Rattle.qc_msg.specs.declared.message.Answer.TheVariants.{Granted}
use Rattle.qc_msg.specs.declared.message.Envelope.{Envelope}
use Rattle.qc_msg.specs.declared.message.Message.{Message}
use Rattle.qc_msg.specs.declared.message.Message.TheVariants.{Answer, Request}
use Rattle.qc_msg.specs.declared.message.Want.{Want}
use Rattle.qc_msg.specs.declared.payload.Grant.{Grant}
use Rattle.qc_msg.specs.declared.step.Input.TheVariants as inputs
use Rattle.qc_msg.specs.Vocabulary.{Entry, Sends, Takes, deeds, written}
use Rattle.laws_refinement.specs.Vocabulary.{IsGrantTo, IsGrantable, Refines, lines_in}
use Rattle.laws_refinement.proofs.Refining.{nets_refine}
use Rattle.theory_onecopy.specs.Vocabulary.{IsLogged, OneCopy, sorted}
use Rattle.qc_promise.specs.Vocabulary.{Atomic, IsAfterSeen, committed, is_prepare, records}
use Rattle.theory_machine.specs.Vocabulary.{state}
use Rattle.qc_script.specs.Vocabulary.{IsScriptFor, Runs}
use Rattle.qc_script.specs.declared.script.Script.{Script}
use Rattle.laws_turns.proofs.DecisionLaws.{transactions_move_on}
use Rattle.laws_turns.proofs.InRuns.{HasPlace, client_low, run_place}
use Rattle.laws_turns.proofs.RecordLaws.{apart, records_are_what_was_told, in_listed, clients_are_told, wrote_own}
use Rattle.laws_turns.proofs.WrittenDeeds.{written_listed}
use Rattle.laws_atomic.specs.Vocabulary.{IsReached}
use Rattle.laws_atomic.proofs.Runs as runs
use Rattle.laws_atomic.proofs.Courses.{clients_see}
use Rattle.laws_atomic.proofs.Founded.{AreFounded}
use Rattle.laws_atomic.proofs.Grants.{granted, lines_passed, no_promise}
use Rattle.laws_atomic.proofs.Heard.{sent_mailed, took_sent}
use Rattle.laws_atomic.proofs.Records.{none_write, clients_alone_write_records}
use Rattle.laws_atomic.proofs.Seeing.{IsUpTo}
use Rattle.laws_atomic.proofs.Written.{all_wrote, deed_written, written_deed}

module _ (decl : Declaration) (script : Script) (h : List Entry) (open_inputs : List Bool) (accepted : IsAccepted decl)
    (sound : IsScriptFor decl script) (run : Runs (IsLawful decl) decl script h open_inputs) where
  net : IsReached decl h open_inputs
  net = runs.runs_are_nets decl script h open_inputs accepted sound run

  same_records : records decl h ≡ written h
  same_records = clients_alone_write_records decl script h open_inputs run

  listed : (c : Commit) → In c (written h) → In c (committed decl h)
  listed c among = in_listed decl script h open_inputs accepted run c (subst (In c) (sym same_records) among)

  -- a message that was heard is in the net's mail
  in_net : (a : ℕ) (e : Envelope) → In (Takes (inputs.Got e)) (deeds a [] h) → In e net.net.mail
  in_net a e among = subst (In e) (sym net.mail_is) (took_sent a [] h e among)

  line_up : (a : ℕ) (e : Envelope) → In (Takes (inputs.Got e)) (deeds a [] h) → (to : ℕ) (x : Grant)
      → e.message ≡ Answer to (Granted x) → (l : Line) → In l x.log → IsUpTo (committed decl h) l.tx x.clock
  line_up a e among to x is l in_log =
      let k : IsLogged decl (written h) l = runs.message_lines decl script h open_inputs accepted sound run e l
      (took_sent a [] h e among) (subst (λ (m : Message). In l (lines_in m)) (sym is) in_log) in
      let low : l.stamp.clock ≤ x.clock = lines_passed decl accepted net.net net.reached e
      (in_net a e among) to x is l in_log in
      let same : l.stamp.clock ≡ k.commit.stamp.clock = ap (λ (s : Stamp). s.clock) k.stamped in
      record { commit = k.commit; listed = listed k.commit k.listed; named = sym k.named; low = omega arith }

  was_asked : (a : ℕ) (e : Envelope) → In (Takes (inputs.Got e)) (deeds a [] h) → (to : ℕ) (x : Grant)
      → e.message ≡ Answer to (Granted x)
      → (site : ℕ) (tx : TxId) (epoch at : ℕ) (want : Want)
      → In (Sends to site (Request tx epoch at want)) (deeds a [] h) → is_prepare want ≡ false
  was_asked a e among to x is site tx epoch at want sent =
      let r : Refines decl net.net = nets_refine decl accepted net.net net.reached in
      let g : IsGrantTo decl (state r.acts) net.net.mail e.from to x =
      granted decl net.net r e (in_net a e among) to x is in
      let there : slice_get net.net.mail to ≡ Some
      (record { number = to; from = a; to = site; message = Request tx epoch at want }) =
      r.agrees.numbered (record { number = to; from = a; to = site; message = Request tx epoch at want })
      (subst (In (record { number = to; from = a; to = site; message = Request tx epoch at want }))
      (sym net.mail_is) (sent_mailed a [] h to site (Request tx epoch at want) sent)) in
      let both : Some g.request.0 ≡ Some (record
      { number = to; from = a; to = site; message = Request tx epoch at want }) = sym g.request.1 ∙ there in
      let message : Request g.tx g.epoch g.named g.want ≡ Request tx epoch at want = sym g.request.3
      ∙ (let same : g.request.0.message ≡ Request tx epoch at want = cc in same) in
      let wants : g.want ≡ want = cc in
      no_promise want (subst IsGrantable wants g.grant.asks)

  founded : (a : ℕ) → is_client decl a ≡ true → AreFounded (committed decl h) (deeds a [] h)
  founded a client = record {
    wrote = λ c among. in_listed decl script h open_inputs accepted run c
        (written_listed decl [] h c a client (deed_written (deeds a [] h) c among));
    lines = line_up a;
    asked = was_asked a;
  }

  -- a record's actor is a client
  of_client : (c : Commit) → In c (committed decl h) → (b : Bool) → is_client decl (client_actor decl c.tx.client) ≡ b
      → is_client decl (client_actor decl c.tx.client) ≡ true
  of_client c among true is = is
  of_client c among false is = absurd (none_write decl script h open_inputs run (client_actor decl c.tx.client) is c
      (written_deed (deeds (client_actor decl c.tx.client) [] h) c
      (wrote_own decl script h open_inputs accepted run c among)))

  pub records_follow_what_was_seen : IsAfterSeen decl (committed decl h) h
  records_follow_what_was_seen c tx among in_seen other =
      let a : ℕ = client_actor decl c.tx.client in
      let client : is_client decl (client_actor decl c.tx.client) ≡ true =
      of_client c among (is_client decl (client_actor decl c.tx.client)) refl in
      let place : HasPlace open_inputs (client_actor decl c.tx.client) =
      run_place decl script h open_inputs run (client_actor decl c.tx.client)
      (client_low decl (client_actor decl c.tx.client) client) in
      let turns : ActsIn decl (client_actor decl c.tx.client) h place.is_open =
      actors_take_and_post_by_turns decl script h open_inputs run (client_actor decl c.tx.client) place.is_open place.at
      in
      let w = clients_see decl (client_actor decl c.tx.client) client (committed decl h) c.tx
      (deeds (client_actor decl c.tx.client) [] h) place.is_open turns.above turns.acts
      (founded (client_actor decl c.tx.client) client)
      (transactions_move_on decl script h open_inputs accepted run (client_actor decl c.tx.client) client c.tx) in
      w.before c (all_wrote (deeds (client_actor decl c.tx.client) [] h) c []
      (inr (wrote_own decl script h open_inputs accepted run c among))) refl tx in_seen other

  pub runs_are_atomic : Atomic decl h
  runs_are_atomic = record {
    apart = apart decl script h open_inputs accepted run;
    one_copy = subst (λ (cs : List Commit). OneCopy decl (sorted cs)) (sym same_records)
        (runs.one_copy decl script h open_inputs accepted sound run);
    dealt = records_are_what_was_told decl script h open_inputs accepted run;
    seen = records_follow_what_was_seen;
    told = clients_are_told decl script h open_inputs accepted run;
  }

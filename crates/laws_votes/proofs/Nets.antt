-- Of a run with falls whose records are kept: its net, the machine's run that this is, and what stands behind its mail.
use Rattle.std.proofs.Common.{◌≡◌, ◌↔◌, ℕ, Bool, List, Some, slice_get, sym, ap, ◌∙◌, subst, inl, inr}
use Rattle.qc_core.specs.Vocabulary.{IsLawfulWithFalls}
use Rattle.qc_decl.specs.Vocabulary.{IsAccepted}
use Rattle.qc_decl.specs.declared.declaration.Declaration.{Declaration}
use Rattle.qc_entry.specs.declared.line.Line.{Line}
use Rattle.qc_entry.specs.declared.record.Commit.{Commit as CommitRecord}
use Rattle.qc_list.specs.Vocabulary.{In}
use Rattle.qc_msg.specs.declared.message.Envelope.{Envelope}
use Rattle.qc_msg.specs.declared.message.Message.{Message}
use Rattle.qc_msg.specs.declared.record.Record.{Record}
use Rattle.qc_msg.specs.Vocabulary.{Entry, mail}
use Rattle.qc_msg.specs.declared.message.Want.{Want}
use Rattle.laws_refinement.specs.Vocabulary.{Backed, IsRequest, Net, Refines}
use Rattle.laws_refinement.proofs.Refining.{nets_refine}
use Rattle.theory_onecopy.proofs.Committed.{records_are_sorted}
use Rattle.theory_onecopy.specs.Vocabulary.{IsLogged}
use Rattle.qc_promise.specs.Vocabulary.{Kept, committed, records}
use Rattle.theory_machine.specs.Vocabulary.{State, state}
use Rattle.qc_script.specs.Vocabulary.{IsScriptFor, RunsWithFalls}
use Rattle.qc_script.specs.declared.script.Script.{Script}
use Rattle.qc_stamp.specs.declared.stamp.TxId.{TxId}
use Rattle.laws_guarantees.proofs.NetMessages.{same_request}
use Rattle.laws_reach.specs.Vocabulary.{AreStanding, IsOfClient, IsReachedWithFalls, records_of}
use Rattle.laws_reach.proofs.Committing.{committed_records_stand}
use Rattle.laws_reach.proofs.Reaching.{runs_with_falls_reach_nets}
use Rattle.laws_reach.proofs.RunLaws.{apart}
use Rattle.laws_reach.proofs.Written.{Agree, written_are}
use Rattle.qc_msg.specs.declared.record.Record.TheVariants as journals

module _ (fits : ℕ → List Record → Type 0) (decl : Declaration) (script : Script) (h : List Entry)
    (open_inputs : List Bool) (accepted : IsAccepted decl) (sound : IsScriptFor decl script)
    (run : RunsWithFalls (IsLawfulWithFalls decl) fits decl script h open_inputs) (kept : Kept h) where
  pub reached : IsReachedWithFalls decl h open_inputs
  reached = runs_with_falls_reach_nets fits decl script h open_inputs accepted sound run kept

  abbrev pub net : Net
  net = reached.net

  pub refined : Refines decl net
  refined = nets_refine decl accepted net reached.reached

  abbrev pub now : State
  now = state refined.acts

  -- what was sent is backed, and stands at its number
  pub backed : (e : Envelope) (m : Message) → In e (mail h) → e.message ≡ m → Backed decl now net.mail e.from e.to m
  backed e m sent is = subst (λ (x : Message). Backed decl now net.mail e.from e.to x) is
      (refined.agrees.mail e (subst (In e) (sym reached.mail_is) sent))

  pub at_number : (e : Envelope) → In e (mail h) → slice_get (mail h) e.number ≡ Some e
  at_number e sent = subst (λ (ms : List Envelope). In e ms → slice_get ms e.number ≡ Some e) reached.mail_is
      (refined.agrees.numbered e) sent

  -- two requests of one number are one
  pub one_request : (n s t : ℕ) (tx u : TxId) (want wish : Want) → IsRequest (mail h) n s tx want
      → IsRequest (mail h) n t u wish → (s ≡ t) × (tx ≡ u) × (want ≡ wish)
  one_request n s t tx u want wish r k =
      let same : r.is.0 ≡ k.is.0 = (let both_are : Some r.is.0 ≡ Some k.is.0 = sym r.is.1 ∙ k.is.1 in cc) in
      let parts : (tx ≡ u) × (want ≡ wish) = same_request tx u r.epoch r.life k.epoch k.life want wish
      (sym r.is.3 ∙ ap (λ (e : Envelope). e.message) same ∙ k.is.3) in
      (sym r.is.2 ∙ ap (λ (e : Envelope). e.to) same ∙ k.is.2, parts.0, parts.1)

  -- the committed records are the machine's

  stand : AreStanding decl h (records decl h)
  stand = committed_records_stand decl h kept

  pub listed : (c : CommitRecord) → In c (committed decl h) ↔ In c (records decl h)
  listed c = (records_are_sorted (records decl h)
      (apart fits decl script h open_inputs accepted sound run kept (records decl h) stand).stamps).1 c

  pub of_machine : (c : CommitRecord) → In c (committed decl h) → In c now.records
  of_machine c among =
      let is : IsOfClient decl (records_of h) c = stand.each c ((listed c).0 among) in
      let agree : Agree decl net.records net.written = written_are decl accepted net reached.reached in
      refined.agrees.records c (agree.all c (record {
        actor = is.actor;
        client = is.client;
        listed =
            subst (In (journals.Commit c)) (sym (reached.records_are is.actor (inr (inl is.client)))) is.listed;
      }))

  -- a line of what the net has written is one of any records that have all that were committed
  pub logged_by : (commits : List CommitRecord) → ((c : CommitRecord) → In c (records decl h) → In c commits)
      → (l : Line) → IsLogged decl net.written l → IsLogged decl commits l
  logged_by commits all l k =
      let agree : Agree decl net.records net.written = written_are decl accepted net reached.reached in
      let of : IsOfClient decl net.records k.commit = agree.each k.commit k.listed in
      record {
        commit = k.commit;
        listed = all k.commit (stand.all k.commit
            (record {
              actor = of.actor;
              client = of.client;
              listed = subst (In (journals.Commit k.commit))
                  (reached.records_are of.actor (inr (inl of.client))) of.listed;
            }));
        stamped = k.stamped;
        named = k.named;
        operation = k.operation;
      }

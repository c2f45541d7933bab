-- The laws of the machine, of every net that may come about.
use Rattle.std.specs.Option.{option_map_or}
use Rattle.std.proofs.Common.{◌≡◌, ◌≤◌, ◌↔◌, ℕ, true, inl, inr, List, [], ◌∷◌, ◌++◌, Option, Some, None, refl, sym}
use Rattle.std.proofs.Common.{subst}
use Rattle.qc_stamp.specs.declared.stamp.Stamp.{Stamp}
use Rattle.qc_stamp.specs.declared.stamp.TxId.{TxId}
use Rattle.qc_list.specs.Vocabulary.{In}
use Rattle.qc_site.specs.Vocabulary.{known, view_in}
use Rattle.qc_entry.specs.declared.line.Line.{Line}
use Rattle.qc_entry.specs.declared.record.Prepared.{Prepared}
use Rattle.qc_entry.specs.declared.record.Commit.{Commit as CommitRecord}
use Rattle.qc_decl.specs.declared.declaration.Declaration.{Declaration}
use Rattle.qc_decl.specs.Vocabulary.{IsAccepted, is_site}
use Rattle.qc_msg.specs.declared.message.Answer.{Answer}
use Rattle.qc_msg.specs.declared.payload.EpochStart.{EpochStart}
use Rattle.qc_msg.specs.declared.payload.Grant.{Grant}
use Rattle.qc_msg.specs.declared.payload.Snapshot.{Snapshot}
use Rattle.qc_msg.specs.Vocabulary.{Answered, Requested}
use Rattle.qc_msg.specs.declared.message.Envelope.{Envelope}
use Rattle.qc_msg.specs.declared.message.Answer.TheVariants as answers
use Rattle.qc_msg.specs.declared.message.Message.{Message}
use Rattle.qc_msg.specs.declared.message.Message.TheVariants as messages
use Rattle.qc_msg.specs.declared.message.Outcome.{Outcome}
use Rattle.qc_msg.specs.declared.message.Outcome.TheVariants as outcomes
use Rattle.qc_msg.specs.declared.message.Want.{Want}
use Rattle.qc_msg.specs.declared.message.Want.TheVariants.{Read, Append, Prepare}
use Rattle.theory_onecopy.specs.Vocabulary.{AreApart, IsLogged, IsOrdered, IsStampedBefore, OneCopy, sorted}
use Rattle.theory_onecopy.proofs.Committed.{records_are_sorted}
use Rattle.theory_machine.specs.Vocabulary.{Decide, Decision, IsVerdictOf, MayDecide, OfAppend, OfDecision, OfGrant}
use Rattle.theory_machine.specs.Vocabulary.{OfSite, OfSnapshot, site_after, state}
use Rattle.theory_machine.proofs.ClaimLaws as claims
use Rattle.theory_machine.proofs.OneCopyLaw.{records_in_order_are_one_copy}
use Rattle.laws_refinement.specs.Vocabulary.{Backed, IsDecided, IsSnapshot, IsTrueVerdict, Net, Reaches, Refines}
use Rattle.laws_refinement.specs.Vocabulary.{lines_in, lines_promised, own_items}
use Rattle.laws_refinement.specs.Lines.{lines_answered}
use Rattle.laws_refinement.proofs.AnswerCases.{answer_cases}
use Rattle.laws_refinement.proofs.MessageCases.{message_cases}
use Rattle.laws_refinement.proofs.OpenRequests.{AnswerBacked}
use Rattle.laws_refinement.proofs.Refining.{nets_refine}
use Rattle.qc_list.proofs.Members.{In-either}

of_promise : (l : Line) (ps : List Prepared) → In l (lines_promised ps) → (p : Prepared) × In p ps × In l p.lines
of_promise l [] among = absurd among
of_promise l (p ∷ ps) among = elim (In-either l p.lines (lines_promised ps) among) [
  | inl here ↦ (p, inl refl, here)
  | inr rest ↦ (let k : (q : Prepared) × In q ps × In l q.lines = of_promise l ps rest in (k.0, inr k.1, k.2))
]

module _ (decl : Declaration) (accepted : IsAccepted decl) (net : Net) (reached : Reaches decl net) where
  mirrored : Refines decl net
  mirrored = nets_refine decl accepted net reached

  -- the machine's records are those that were written
  same_records : (c : CommitRecord) → In c net.written ↔ In c (state mirrored.acts).records
  same_records c = ((λ among. mirrored.agrees.records c among), (λ among. mirrored.agrees.written c among))

  all_apart : AreApart (state mirrored.acts).records
  all_apart = claims.records_are_apart decl accepted mirrored.acts mirrored.run

  in_order : IsOrdered IsStampedBefore (sorted net.written)
      × ((d : CommitRecord) → In d (sorted net.written) ↔ In d net.written)
  in_order = records_are_sorted net.written
      (λ c d hc hd same. all_apart.stamps c d ((same_records c).0 hc) ((same_records d).0 hd) same)

  listed : (c : CommitRecord) → In c (sorted net.written) ↔ In c (state mirrored.acts).records
  listed c = (
    (λ among. (same_records c).0 ((in_order.1 c).0 among)),
    (λ among. (in_order.1 c).1 ((same_records c).1 among)),
  )

  pub nets_are_one_copy : OneCopy decl (sorted net.written)
  nets_are_one_copy = records_in_order_are_one_copy decl accepted mirrored.acts mirrored.run
      (sorted net.written) in_order.0 listed

  pub apart : AreApart net.written
  apart = record {
    stamps = λ c d hc hd same. all_apart.stamps c d ((same_records c).0 hc) ((same_records d).0 hd) same;
    transactions = λ c d hc hd same. all_apart.transactions c d ((same_records c).0 hc) ((same_records d).0 hd) same;
  }

  logged : (l : Line) → IsLogged decl (state mirrored.acts).records l → IsLogged decl net.written l
  logged l k = record {
    commit = k.commit;
    listed = (same_records k.commit).1 k.listed;
    stamped = k.stamped;
    named = k.named;
    operation = k.operation;
  }

  pub site_lines : (a : ℕ) (l : Line) → is_site decl a ≡ true → net.up a ≡ true → In l (known (net.sites a))
      → IsLogged decl net.written l
  site_lines a l site up among =
      logged l (claims.logs_hold_operations decl accepted mirrored.acts mirrored.run
      (site_after ((state mirrored.acts).deeds a)).volatile (OfSite a refl) l
      ((mirrored.agrees.sites a site up).logged l among))

  snapshot_lines : (site epoch clock : ℕ) (log : List Line) (prepared : List Prepared) (l : Line)
      → IsSnapshot decl (state mirrored.acts) site epoch clock log prepared → In l log → IsLogged decl net.written l
  snapshot_lines site epoch clock log prepared l s among =
      logged l (claims.logs_hold_operations decl accepted mirrored.acts mirrored.run
      (site_after s.snapshot.before).volatile (OfSnapshot s.snapshot s.taken refl) l (s.only l among))

  decision_lines : (epoch clock : ℕ) (log : List Line) (l : Line) → IsDecided decl (state mirrored.acts) epoch clock log
      → In l log → IsLogged decl net.written l
  decision_lines epoch clock log l d among =
      logged l (claims.logs_hold_operations decl accepted mirrored.acts mirrored.run d.decision.log
      (OfDecision d.decision d.decided refl) l (subst (λ (ls : List Line). In l ls) (sym d.log_is) among))

  -- and so are those of a decision that may be made
  pub deciding_lines : (r : Refines decl net) (d : Decision) → MayDecide decl (state r.acts) d → (l : Line) → In l d.log
      → IsLogged decl net.written l
  deciding_lines r d may l among =
      let k : IsLogged decl (state r.acts).records l =
      claims.logs_hold_operations decl accepted (Decide d ∷ r.acts) (may, r.run) d.log
      (OfDecision d (inl refl) refl) l among in
      record {
        commit = k.commit;
        listed = r.agrees.written k.commit k.listed;
        stamped = k.stamped;
        named = k.named;
        operation = k.operation;
      }

  answer_lines : (from number : ℕ) (answer : Answer) (l : Line)
      → Backed decl (state mirrored.acts) net.mail from from (messages.Answer number answer)
      → In l (lines_in (messages.Answer number answer)) → IsLogged decl net.written l
  answer_lines from number answer l =
      answer_cases (λ x grant closed promised shut verdict.
      AnswerBacked decl (state mirrored.acts) net.mail from number x → In l (option_map_or (λ (g : Grant). g.log) grant
      (option_map_or (λ (z : Snapshot). z.log ++ lines_promised z.prepared) shut [])) → IsLogged decl net.written l)
      (λ grant b among. logged l (claims.logs_hold_operations decl accepted mirrored.acts mirrored.run
      (site_after b.grant.grant.before).volatile (OfGrant b.grant.grant b.grant.given refl) l (b.grant.lines l among)))
      (λ epoch b among. absurd among) (λ clock b among. absurd among)
      (λ snapshot b among. elim (In-either l snapshot.log (lines_promised snapshot.prepared) among) [
        | inl told ↦ snapshot_lines from b.epoch snapshot.clock snapshot.log snapshot.prepared l b.told told
        | inr brought ↦
            (let p : (p : Prepared) × In p snapshot.prepared × In l p.lines = of_promise l snapshot.prepared brought in
            snapshot_lines from b.epoch snapshot.clock snapshot.log snapshot.prepared l b.told
            (b.told.lined p.0 p.1 l p.2))
      ])
      (λ verdict b among. absurd among) (λ x plain b among. absurd among) (Some answer)

  request_lines : (from to : ℕ) (tx : TxId) (epoch life : ℕ) (want : Want) (l : Line)
      → Backed decl (state mirrored.acts) net.mail from to (messages.Request tx epoch life want)
      → In l (lines_in (messages.Request tx epoch life want)) → IsLogged decl net.written l
  request_lines from to tx epoch life (Read read) l b among = absurd among
  request_lines from to tx epoch life (Append object view own) l b among =
      logged l (claims.logs_hold_operations decl accepted mirrored.acts mirrored.run view
      (OfAppend (record { tx = tx; items = own_items own; view = view }) b.3.0 refl) l among)
  request_lines from to tx epoch life Prepare l b among = absurd among

  lines_of : (from to : ℕ) (message : Message) (l : Line) → Backed decl (state mirrored.acts) net.mail from to message
      → In l (lines_in message) → IsLogged decl net.written l
  lines_of from to message l =
      message_cases (λ x q a v start. Backed decl (state mirrored.acts) net.mail from to x
      → In l (option_map_or (λ (r : Requested). view_in r.want) q
      (option_map_or (λ (y : Answered). lines_answered y.answer) a
      (option_map_or (λ (i : EpochStart). i.lines) start []))) → IsLogged decl net.written l)
      (λ q. request_lines from to q.tx q.epoch q.life q.want l) (λ a. answer_lines from a.to a.answer l)
      (λ v b among. absurd among) (λ start. decision_lines start.epoch start.clock start.lines l)
      (λ x b among. absurd among) message

  pub message_lines : (e : Envelope) (l : Line) → In e net.mail → In l (lines_in e.message)
      → IsLogged decl net.written l
  message_lines e l sent among = lines_of e.from e.to e.message l (mirrored.agrees.mail e sent) among

  verdict_of : (tx : TxId) (stamp : Option Stamp) → IsVerdictOf (state mirrored.acts).records tx stamp
      → IsVerdictOf net.written tx stamp
  verdict_of tx (Some stamp) k = (k.0, (same_records k.0).1 k.1, k.2, k.3)
  verdict_of tx None k = λ c among its. k c ((same_records c).0 among) its

  told_of : (e : Envelope) (tx : TxId) (verdict : Outcome)
      → Backed decl (state mirrored.acts) net.mail e.from e.to (messages.Decision tx verdict)
      → IsTrueVerdict net.written tx verdict
  told_of e tx (outcomes.Committed stamp) b =
      verdict_of tx (Some stamp) (claims.verdicts_agree decl accepted mirrored.acts mirrored.run
      (record { tx = tx; stamp = Some stamp }) b)
  told_of e tx outcomes.Aborted b = verdict_of tx None
      (claims.verdicts_agree decl accepted mirrored.acts mirrored.run (record { tx = tx; stamp = None }) b)
  told_of e tx outcomes.Active b = tt

  pub decisions_agree_with_records : (e : Envelope) (tx : TxId) (verdict : Outcome) → In e net.mail
      → e.message ≡ messages.Decision tx verdict → IsTrueVerdict net.written tx verdict
  decisions_agree_with_records e tx verdict sent is =
      told_of e tx verdict (subst (λ (x : Message). Backed decl (state mirrored.acts) net.mail e.from e.to x) is
      (mirrored.agrees.mail e sent))

  passed_of : (e : Envelope) (to : ℕ) (snapshot : Snapshot)
      → Backed decl (state mirrored.acts) net.mail e.from e.to (messages.Answer to (answers.Shut snapshot))
      → (l : Line) → In l snapshot.log → l.stamp.clock ≤ snapshot.clock
  passed_of e to snapshot b = b.told.passed

  pub closed_sites_pass_their_lines : (e : Envelope) (to : ℕ) (snapshot : Snapshot) → In e net.mail
      → e.message ≡ messages.Answer to (answers.Shut snapshot) → (l : Line) → In l snapshot.log
      → l.stamp.clock ≤ snapshot.clock
  closed_sites_pass_their_lines e to snapshot sent is =
      passed_of e to snapshot
      (subst (λ (x : Message). Backed decl (state mirrored.acts) net.mail e.from e.to x) is
      (mirrored.agrees.mail e sent))

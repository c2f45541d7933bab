-- The lines that the messages of a run carry: each message at most one for each committed operation.
use Rattle.std.proofs.Common.{◌≡◌, ℕ, ◌+◌, ◌*◌, ◌≤◌, ◌==◌, Bool, true, false, cond, inl, List, [], ◌∷◌, length, sum_by}
use Rattle.std.proofs.Common.{refl, sym, ap, ◌∙◌, subst, arith, eqb-true}
use Rattle.std.specs.List.{AllByRecursion as Every, cons_option}
use Rattle.std.proofs.Math.Nat.{mul-add, mul-le-mul_left, mul_comm}
use Rattle.std.proofs.lemmas.List.Sums.{sum_by-cons}
use Rattle.qc_list.specs.Vocabulary.{In}
use Rattle.qc_list.proofs.Members.{every-In, every-at}
use Rattle.qc_core.specs.Vocabulary.{IsLawful}
use Rattle.qc_decl.specs.Vocabulary.{IsAccepted}
use Rattle.qc_decl.specs.declared.declaration.Declaration.{Declaration}
use Rattle.qc_entry.specs.declared.line.Line.{Line}
use Rattle.qc_entry.specs.declared.record.Commit.{Commit as CommitRecord}
use Rattle.qc_entry.specs.declared.record.Prepared.{Prepared}
use Rattle.qc_entry.specs.Vocabulary.{IsAscending}
use Rattle.qc_msg.specs.declared.message.Answer.{Answer}
use Rattle.qc_msg.specs.declared.message.Answer.TheVariants as answers
use Rattle.qc_msg.specs.declared.message.Envelope.{Envelope}
use Rattle.qc_msg.specs.declared.message.Message.{Message}
use Rattle.qc_msg.specs.declared.message.Message.TheVariants as messages
use Rattle.qc_msg.specs.declared.message.Want.{Want}
use Rattle.qc_msg.specs.declared.message.Want.TheVariants.{Read, Append, Prepare}
use Rattle.qc_msg.specs.declared.step.Step.{Step}
use Rattle.qc_msg.specs.declared.step.Step.TheVariants as steps
use Rattle.qc_msg.specs.Counts.{lines_in}
use Rattle.qc_msg.specs.Vocabulary.{Entry, IsNoRise, answered, carried_at, carried_of, envelope_at, envelope_of, mail}
use Rattle.qc_msg.specs.Vocabulary.{operations_of, written}
use Rattle.theory_onecopy.specs.Vocabulary.{IsLogged}
use Rattle.theory_machine.specs.Vocabulary.{state}
use Rattle.qc_script.specs.Vocabulary.{IsScriptFor, Runs}
use Rattle.qc_script.specs.declared.script.Script.{Script}
use Rattle.qc_stamp.specs.declared.stamp.TxId.{TxId}
use Rattle.laws_turns.proofs.Proper.{run_proper}
use Rattle.laws_turns.proofs.SiteReplies.{IsMailProper, IsProperFrom}
use Rattle.laws_due.proofs.AccountDeclared.{scripts_ask_what_is_declared}
use Rattle.laws_refinement.specs.Vocabulary.{Backed, IsShutTo, Refines, lines_in as lines_of}
use Rattle.laws_refinement.proofs.Refining.{nets_refine}
use Rattle.laws_atomic.specs.Vocabulary.{IsReached}
use Rattle.laws_atomic.proofs.Runs.{message_lines, runs_are_nets}
use Rattle.laws_guarantees.proofs.Lengths.{log_count}
use Rattle.laws_guarantees.proofs.NeverRisen.{never_risen, operations_written}
use Rattle.laws_room.specs.Vocabulary.{IsPlain, dos_of}
use Rattle.laws_room.proofs.Counts.{operations_are_few}
use Rattle.laws_room.proofs.LinePrices.{carries, in_messages, message_budget, messages_fair}
use Rattle.laws_room.proofs.OperationPrices.{dos_paid}
use Rattle.laws_room.proofs.Costs.{cost_of, script_budget, step_cost}
use Rattle.laws_room.proofs.Paid.{run_paid}
use Rattle.laws_guarantees.proofs.Mailed.{cons_rest}

-- where each message carries at most so many lines, all carry as many for each that carries some

module _ (most : ℕ) where
  one_carries : (m : Message) → lines_in m ≤ most → lines_in m ≤ carries m * most
  one_carries m few = by (lines_in m == 0) refl
    where
      by : (t : Bool) → (lines_in m == 0) ≡ t → lines_in m ≤ cond t 0 1 * most
      by true is = let none : lines_in m ≡ 0 = eqb-true (lines_in m) 0 is in omega arith
      by false is = omega arith

  step_carries : (a : ℕ) (s : Step) (ms : List Envelope) → IsNoRise s
      → ((x : Envelope) → In x (cons_option (envelope_at a s) ms) → lines_in x.message ≤ most)
      → carried_at s ≤ step_cost in_messages s * most
  step_carries a (steps.Sent n to message) ms none few =
      one_carries message (few (record { number = n; from = a; to = to; message = message }) (inl refl))
  step_carries a (steps.Rose records) ms none few = absurd none
  step_carries a other ms none few = omega arith

  sum_two : (x y k : ℕ) → (x + y) * k ≡ x * k + y * k
  sum_two x y k =
      let a : (x + y) * k ≡ k * (x + y) = mul_comm (x + y) k in
      let b : x * k ≡ k * x = mul_comm x k in
      let c : y * k ≡ k * y = mul_comm y k in
      a ∙ mul-add k x y ∙ sym (ap (λ (n : ℕ). n + y * k) b ∙ ap (λ (n : ℕ). k * x + n) c)

  carried_few : (h : List Entry) → Every (λ (e : Entry). IsNoRise e.step) h
      → ((x : Envelope) → In x (mail h) → lines_in x.message ≤ most) → carried_of h ≤ cost_of in_messages h * most
  carried_few [] none few = omega arith
  carried_few (e ∷ h) none few =
      let rest : carried_of h ≤ cost_of in_messages h * most =
      carried_few h none.1 (λ x among. few x (cons_rest (envelope_of e) x (mail h) among)) in
      let here : carried_at e.step ≤ step_cost in_messages e.step * most =
      step_carries e.actor e.step (mail h) none.0 few in
      let a : carried_of (e ∷ h) ≡ carried_at e.step + carried_of h =
      sum_by-cons (λ (e : Entry). carried_at e.step) e h in
      let b : cost_of in_messages (e ∷ h) * most ≡ (step_cost in_messages e.step + cost_of in_messages h) * most =
      ap (λ (n : ℕ). n * most) (sum_by-cons (λ (e : Entry). step_cost in_messages e.step) e h) in
      let c : (step_cost in_messages e.step + cost_of in_messages h) * most
      ≡ step_cost in_messages e.step * most + cost_of in_messages h * most =
      sum_two (step_cost in_messages e.step) (cost_of in_messages h) most in
      omega arith

-- each message carries at most one line for each committed operation

module _ (decl : Declaration) (script : Script) (accepted : IsAccepted decl) (sound : IsScriptFor decl script)
    (h : List Entry) (open_inputs : List Bool) (run : Runs (IsLawful decl) decl script h open_inputs) where
  net : IsReached decl h open_inputs
  net = runs_are_nets decl script h open_inputs accepted sound run

  mirror : Refines decl net.net
  mirror = nets_refine decl accepted net.net net.reached

  backed : (e : Envelope) → In e (mail h) → (m : Message) → e.message ≡ m
      → Backed decl (state mirror.acts) net.net.mail e.from e.to m
  backed e sent m is =
      subst (λ (m : Message). Backed decl (state mirror.acts) net.net.mail e.from e.to m) is
      (mirror.agrees.mail e (subst (λ (ms : List Envelope). In e ms) (sym net.mail_is) sent))

  counted : (log : List Line) → IsAscending log → ((l : Line) → In l log → IsLogged decl (written h) l)
      → length log ≤ operations_of h
  counted log order logged =
      let few : length log ≤ sum_by (λ (c : CommitRecord). answered c.ops) (written h) =
      log_count decl (written h) log order logged in
      let same : operations_of h ≡ sum_by (λ (c : CommitRecord). answered c.ops) (written h) =
      operations_written (IsLawful decl) decl script h open_inputs run in
      omega arith

  -- nobody closes an epoch, or begins one
  all_proper : IsMailProper decl (mail h)
  all_proper =
      run_proper decl script accepted (scripts_ask_what_is_declared decl script accepted sound) h open_inputs run

  proper : (e : Envelope) → In e (mail h) → IsProperFrom decl e.from e.to e.message
  proper e sent = every-In (λ (e : Envelope). IsProperFrom decl e.from e.to e.message) e (mail h) all_proper sent

  unasked : {site number clock : ℕ} {log : List Line} {prepared : List Prepared}
      → IsShutTo decl (state mirror.acts) net.net.mail site number clock log prepared → ⊥
  unasked {number = number} shut =
      subst (λ (m : Message). IsProperFrom decl shut.asked.0.from shut.asked.0.to m) shut.asked.3
      (every-at (λ (e : Envelope). IsProperFrom decl e.from e.to e.message) net.net.mail number shut.asked.0
      (subst (IsMailProper decl) (sym net.mail_is) all_proper) shut.asked.1)

  pub message_few : (e : Envelope) → In e (mail h) → lines_in e.message ≤ operations_of h
  message_few e sent = by e.message refl
    where
      logged : (m : Message) → e.message ≡ m → (l : Line) → In l (lines_of m) → IsLogged decl (written h) l
      logged m is l among =
          message_lines decl script h open_inputs accepted sound run e l sent
          (subst (λ (m : Message). In l (lines_of m)) (sym is) among)

      asked : (tx : TxId) (epoch life : ℕ) (want : Want) → e.message ≡ messages.Request tx epoch life want
          → lines_in (messages.Request tx epoch life want) ≤ operations_of h
      asked tx epoch life (Read read) is = omega arith
      asked tx epoch life (Append object view own) is =
          counted view (backed e sent (messages.Request tx epoch life (Append object view own)) is).3.1
          (logged (messages.Request tx epoch life (Append object view own)) is)
      asked tx epoch life Prepare is = omega arith

      told : (number : ℕ) (answer : Answer) → e.message ≡ messages.Answer number answer
          → lines_in (messages.Answer number answer) ≤ operations_of h
      told number (answers.Granted grant) is =
          counted grant.log (backed e sent (messages.Answer number (answers.Granted grant)) is).grant.sorted
          (logged (messages.Answer number (answers.Granted grant)) is)
      told number (answers.Shut snapshot) is =
          absurd (unasked (backed e sent (messages.Answer number (answers.Shut snapshot)) is))
      told number other is = omega arith

      by : (m : Message) → e.message ≡ m → lines_in m ≤ operations_of h
      by (messages.Request tx epoch life want) is = asked tx epoch life want is
      by (messages.Answer number answer) is = told number answer is
      by (messages.Install start) is =
          absurd (subst (λ (m : Message). IsProperFrom decl e.from e.to m) is (proper e sent))
      by other is = omega arith

-- the bounds

pub carried_lines_are_few : (decl : Declaration) (script : Script) → IsAccepted decl → IsScriptFor decl script
    → IsPlain script → (h : List Entry) (open_inputs : List Bool) → Runs (IsLawful decl) decl script h open_inputs
    → carried_of h ≤ 2 * decl.sites * dos_of script * dos_of script
carried_lines_are_few decl script accepted sound plain h open_inputs run =
    let paid : cost_of in_messages h ≤ script_budget in_messages decl.sites script.phases =
    run_paid decl accepted in_messages messages_fair script plain.lossless h open_inputs run in
    let all : script_budget in_messages decl.sites script.phases ≡ dos_of script * (2 * decl.sites) =
    dos_paid in_messages decl.sites (2 * decl.sites) script (message_budget decl.sites) in
    let carried : carried_of h ≤ cost_of in_messages h * operations_of h =
    carried_few (operations_of h) h (never_risen (IsLawful decl) decl script h open_inputs run)
    (message_few decl script accepted sound h open_inputs run) in
    let sent : cost_of in_messages h ≤ dos_of script * (2 * decl.sites) = omega (arith, paid, all) in
    let dos : operations_of h ≤ dos_of script = operations_are_few decl script accepted plain h open_inputs run in
    let more : cost_of in_messages h * operations_of h ≤ cost_of in_messages h * dos_of script =
    mul-le-mul_left (cost_of in_messages h) dos in
    let turned : cost_of in_messages h * dos_of script ≡ dos_of script * cost_of in_messages h =
    mul_comm (cost_of in_messages h) (dos_of script) in
    let grown : dos_of script * cost_of in_messages h ≤ dos_of script * (dos_of script * (2 * decl.sites)) =
    mul-le-mul_left (dos_of script) sent in
    let back : dos_of script * (dos_of script * (2 * decl.sites)) ≡ (dos_of script * (2 * decl.sites)) * dos_of script =
    mul_comm (dos_of script) (dos_of script * (2 * decl.sites)) in
    let first : (dos_of script * (2 * decl.sites)) * dos_of script ≡ 2 * decl.sites * dos_of script * dos_of script =
    ap (λ (n : ℕ). n * dos_of script) (mul_comm (dos_of script) (2 * decl.sites)) in
    omega arith

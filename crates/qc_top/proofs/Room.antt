-- A script with room comes to no limit, where no disk failed of itself.
use Rattle.std.proofs.Common.{◌≡◌, ◌∙◌, ◌<◌, ◌≤◌, ℕ, List, Option, length, sym, subst, arith}
use Rattle.laws_room.proofs.Below.{steps_below, operations_below, lines_below}
use Rattle.laws_room.proofs.Loads.{loads_have_room}
use Rattle.laws_room.specs.Vocabulary.{HasRoom}
use Rattle.qc_core.specs.Vocabulary.{IsLawfulWithFalls}
use Rattle.qc_decl.specs.Vocabulary.{most_carried_lines, most_committed_operations, most_steps, three}
use Rattle.qc_decl.specs.declared.declaration.Declaration.{Declaration}
use Rattle.qc_fabric.specs.Vocabulary.{HasReached, counted}
use Rattle.qc_gen.specs.Vocabulary.{load_of}
use Rattle.qc_msg.specs.Vocabulary.{Entry, carried_of, operations_of}
use Rattle.qc_msg.specs.declared.step.Quantity.{Quantity}
use Rattle.qc_msg.specs.declared.step.Quantity.TheVariants.{Steps, Operations, Carried}
use Rattle.qc_node.specs.Vocabulary.{fits_of}
use Rattle.qc_promise.specs.Vocabulary.{Spent}
use Rattle.qc_report.specs.declared.cause.Cause.{Cause}
use Rattle.qc_report.specs.declared.cause.Cause.TheVariants as causes
use Rattle.qc_script.specs.Vocabulary.{RunWithFalls}
use Rattle.qc_script.specs.declared.script.Script.{Script}
use Rattle.qc_top.specs.Vocabulary.{IsFullCause, IsNotFull, IsRunnable, Leaves, LeavesRun, cause_of_words, work_of}
use Rattle.qc_top.specs.declared.answers.Answers.{Answers}
use Rattle.qc_top.specs.declared.work.Output.TheVariants.{Summary}
use Rattle.qc_words.specs.Vocabulary.{AskedOf, IsAskable, IsLoad, Load}
use Rattle.qc_words.specs.declared.fault.WordsFault.{WordsFault}
use Rattle.qc_words.specs.declared.fault.WordsFault.TheVariants as words_faults

module _ (decl : Declaration) (script : Script) (ready : IsRunnable decl script) (h : List Entry)
    (run : RunWithFalls (IsLawfulWithFalls decl) (fits_of decl) decl script h) (room : HasRoom decl script)
    (spent : Spent h 0) where
  reached : (what : Quantity) (number : ℕ) → HasReached what number h → ⊥
  reached Steps number r =
      let low : length h < most_steps =
      steps_below (fits_of decl) decl script ready.accepted ready.declared room h run.0 run.1 spent in
      let is : number ≡ length h = r.number_is in
      let past : most_steps ≤ number = r.limit in
      omega arith
  reached Operations number r =
      let low : operations_of h < most_committed_operations =
      operations_below (fits_of decl) decl script ready.accepted ready.declared room h run.0 run.1 spent in
      let is : number ≡ counted (operations_of h) = r.number_is in
      let past : most_committed_operations ≤ number = r.limit in
      omega arith
  reached Carried number r =
      let low : carried_of h < most_carried_lines =
      lines_below (fits_of decl) decl script ready.accepted ready.declared room h run.0 run.1 spent in
      let is : number ≡ counted (carried_of h) = r.number_is in
      let past : most_carried_lines ≤ number = r.limit in
      omega arith

  pub room_left : (cause : Cause) → IsFullCause cause h → IsNotFull cause
  room_left cause full = λ what number is. reached what number (subst (λ (c : Cause). IsFullCause c h) is full)

-- so no load comes to a limit
pub load_left : (a : AskedOf) (count seed workers : ℕ) → a ≡ Load count seed workers → IsAskable a → (answers : Answers)
    (old : Option (List ℕ)) (cause : Cause) (new : Option (List ℕ)) (h : List Entry)
    → Leaves (work_of a answers) old cause new h → Spent h 0 → IsNotFull cause
load_left a count seed workers is askable answers old cause new h leaves spent =
    let load : IsLoad count seed workers = subst IsAskable is askable in
    let ran : LeavesRun three (load_of count seed) (Summary count seed) old cause new h =
    subst (λ (a : AskedOf). Leaves (work_of a answers) old cause new h) is leaves in
    ran.room (loads_have_room count seed load.most) spent

-- nor does a call whose words weren't read
pub unread_not_full : (fault : WordsFault) (cause : Cause) → cause ≡ cause_of_words fault → IsNotFull cause
unread_not_full words_faults.Usage cause is = λ what number same.
    absurd (let both : causes.Usage ≡ causes.Full what number = sym is ∙ same in let never : ⊥ = cc in never)
unread_not_full words_faults.OutOfMemory cause is = λ what number same.
    absurd (let both : causes.OutOfMemory ≡ causes.Full what number = sym is ∙ same in let never : ⊥ = cc in never)

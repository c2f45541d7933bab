-- In a run with falls each message is found under its number; so what is ready was sent.
use Rattle.std.proofs.Common.{◌≡◌, ℕ, ◌+◌, Bool, List, [], ◌∷◌, ◌++◌, length, Some, None, refl, ap, sym, subst, ◌∙◌}
use Rattle.std.proofs.Common.{append_assoc, length-append}
use Rattle.std.proofs.lemmas.List.{append-nil}
use Rattle.qc_decl.specs.Vocabulary.{controller}
use Rattle.qc_decl.specs.declared.declaration.Declaration.{Declaration}
use Rattle.qc_msg.specs.declared.message.Envelope.{Envelope}
use Rattle.qc_msg.specs.declared.record.Record.{Record}
use Rattle.qc_msg.specs.declared.step.Control.{Control}
use Rattle.qc_msg.specs.declared.step.Control.TheVariants as controls
use Rattle.qc_msg.specs.declared.step.Input.{Input}
use Rattle.qc_msg.specs.declared.step.Step.{Step}
use Rattle.qc_msg.specs.declared.step.Step.TheVariants as steps
use Rattle.qc_msg.specs.declared.turn.Appended.{Appended}
use Rattle.qc_msg.specs.declared.turn.Posting.{Posting}
use Rattle.qc_msg.specs.declared.turn.Turn.{Turn}
use Rattle.qc_msg.specs.Vocabulary.{Deed, Entry, WasSentTo, by, envelope_of, envelopes, mail, marked, posted_as}
use Rattle.qc_msg.specs.Vocabulary.{sends_as}
use Rattle.qc_msg.proofs.GrownMail.{mail-append, mail-taken}
use Rattle.qc_msg.proofs.Growth.{mail-posted_as}
use Rattle.qc_script.specs.Vocabulary.{RunsWithFalls, begins, control, controller_step, damaged, falls, phase, phase_of}
use Rattle.qc_script.specs.Vocabulary.{posts, ready, rises, takes, unopened}
use Rattle.qc_script.specs.declared.script.Script.{Script}
use Rattle.qc_mailbox.specs.Vocabulary.{AreNumbered}
use Rattle.qc_mailbox.proofs.Among.{sent_ready}
use Rattle.qc_mailbox.proofs.Keeping.{numbered_more, same_mail}

envelopes_numbered : (a n : ℕ) (ps : List Posting) (ms : List Envelope) → length ms ≡ n → AreNumbered ms
    → AreNumbered (ms ++ envelopes a n ps)
envelopes_numbered a n [] ms long are = subst AreNumbered (sym (append-nil ms)) are
envelopes_numbered a n (p ∷ ps) ms long are =
    let e : Envelope = record { number = n; from = a; to = p.to; message = p.message } in
    subst AreNumbered (append_assoc ms (e ∷ []) (envelopes a (n + 1) ps))
    (envelopes_numbered a (n + 1) ps (ms ++ e ∷ []) (length-append ms (e ∷ []) ∙ ap (λ (k : ℕ). k + 1) long)
    (numbered_more ms e are (sym long)))

posted_numbered : (end : Appended) (a : ℕ) (h : List Entry) (turn : Turn) → AreNumbered (mail h)
    → AreNumbered (mail (h ++ by a (posted_as end (length (mail h)) turn)))
posted_numbered end a h turn are =
    subst AreNumbered (sym (mail-append h (by a (posted_as end (length (mail h)) turn))
    ∙ ap (λ (v : List Envelope). mail h ++ v) (mail-posted_as end a (length (mail h)) turn)))
    (envelopes_numbered a (length (mail h)) (sends_as end turn) (mail h) refl are)

risen_numbered : (end : Appended) (a : ℕ) (h : List Entry) (records : List Record) (turn : Turn) → AreNumbered (mail h)
    → AreNumbered (mail (h ++ by a (steps.Rose records ∷ posted_as end (length (mail h)) turn)))
risen_numbered end a h records turn are =
    subst AreNumbered (sym (mail-append h (by a (steps.Rose records ∷ posted_as end (length (mail h)) turn))
    ∙ ap (λ (v : List Envelope). mail h ++ v) (mail-posted_as end a (length (mail h)) turn)))
    (envelopes_numbered a (length (mail h)) (sends_as end turn) (mail h) refl are)

step_numbered : (h : List Entry) (a : ℕ) (step : Step) → envelope_of (marked a step) ≡ None → AreNumbered (mail h)
    → AreNumbered (mail (h ++ marked a step ∷ []))
step_numbered h a step none are = subst AreNumbered (sym (same_mail h (marked a step) none)) are

control_sends_nothing : (a : ℕ) (line : Control) (step : Step) → controller_step line ≡ Some step
    → envelope_of (marked a step) ≡ None
control_sends_nothing a (controls.Phase k) step is = absurd (let never : ⊥ = cc in never)
control_sends_nothing a (controls.Cut x y) step is = let e : steps.Cut x y ≡ step = cc in
    subst (λ (s : Step). envelope_of (marked a s) ≡ None) e refl
control_sends_nothing a (controls.Heal x y) step is = let e : steps.Heal x y ≡ step = cc in
    subst (λ (s : Step). envelope_of (marked a s) ≡ None) e refl
control_sends_nothing a (controls.Armed actor kind n) step is = let e : steps.Armed actor kind n ≡ step = cc in
    subst (λ (s : Step). envelope_of (marked a s) ≡ None) e refl
control_sends_nothing a (controls.Crash x) step is = absurd (let never : ⊥ = cc in never)
control_sends_nothing a (controls.Restart x) step is = absurd (let never : ⊥ = cc in never)

module _ (lawful : ℕ → List Deed → Turn → Type 0) (fits : ℕ → List Record → Type 0) (decl : Declaration)
    (script : Script) where
  pub run_numbered : (h : List Entry) (inputs : List Bool) → RunsWithFalls lawful fits decl script h inputs
      → AreNumbered (mail h)
  run_numbered h inputs begins = λ n e found. absurd (let never : ⊥ = cc in never)
  run_numbered h inputs (takes a g before older run free rdy) =
      subst AreNumbered (sym (mail-taken older a g)) (run_numbered older before run)
  run_numbered h inputs (posts a turn before older run taken law) =
      posted_numbered turn.append a older turn (run_numbered older before run)
  run_numbered h inputs (phase before older run none left quiet more) =
      step_numbered older (controller decl) (steps.Phase (phase_of older + 1)) refl (run_numbered older before run)
  run_numbered h inputs (control line lines step before older run left is) =
      step_numbered older (controller decl) step (control_sends_nothing (controller decl) line step is)
      (run_numbered older before run)
  run_numbered h inputs (falls a lines before older run left) =
      step_numbered older a _ refl (run_numbered older before run)
  run_numbered h inputs (rises a records turn lines before older run left fit has law) =
      risen_numbered turn.append a older records turn (run_numbered older before run)
  run_numbered h inputs (damaged a offset lines before older run left) =
      step_numbered older a (steps.Damaged offset) refl (run_numbered older before run)
  run_numbered h inputs (unopened a cause lines before older run left disk) =
      step_numbered older a (steps.Fell cause None) refl (run_numbered older before run)

  pub ready_messages_were_sent_through_falls : (h : List Entry) (inputs : List Bool)
      → RunsWithFalls lawful fits decl script h inputs
      → (a : ℕ) (g : Input) → ready decl script a h ≡ Some g → WasSentTo a (mail h) g
  ready_messages_were_sent_through_falls h inputs run a g is =
      sent_ready decl script h a g (run_numbered h inputs run) is

-- Where a command runs, the actor's inbox knows it, in each history; so a command that is ready may be taken.
use Rattle.std.proofs.Common.{◌≡◌, ℕ, ◌==◌, Bool, true, false, cond, List, [], ◌∷◌, ◌++◌, fold, Some, option_to_list}
use Rattle.std.proofs.Common.{slice_get, refl, sym, ap, ◌∙◌, subst}
use Rattle.std.proofs.lemmas.List.Sums.{fold-append}
use Rattle.qc_core.specs.Vocabulary.{AreSteady, MayTake, is_running, runs_at}
use Rattle.qc_decl.specs.declared.declaration.Declaration.{Declaration}
use Rattle.laws_turns.proofs.Running.{busy_step, not_busy}
use Rattle.qc_msg.specs.declared.message.Envelope.{Envelope}
use Rattle.qc_msg.specs.declared.step.Input.{Input}
use Rattle.qc_msg.specs.declared.step.Input.TheVariants as inputs
use Rattle.qc_msg.specs.declared.step.Step.{Step}
use Rattle.qc_msg.specs.declared.step.Step.TheVariants as steps
use Rattle.qc_msg.specs.Vocabulary.{Deed, Entry, Falls, Rises, Sends, Takes, Tells, Writes, deed_at, deeds, envelope_of}
use Rattle.qc_script.specs.Vocabulary.{Inbox, empty_inbox, inbox, inbox_at, ready}
use Rattle.qc_script.specs.declared.script.Script.{Script}
use Rattle.laws_turns.proofs.Up.{heard_up}

abbrev Covers : Bool → Bool → Type 0
Covers busy running = running ≡ true → busy ≡ true

covers_deed : (u running : Bool) (d : Deed) → Covers u running → Covers (runs_at u d) (runs_at running d)
covers_deed u running (Takes (inputs.Called command)) covers = λ is. refl
covers_deed u running (Takes (inputs.Got e)) covers = covers
covers_deed u running (Takes (inputs.Lost number)) covers = covers
covers_deed u running (Writes written) covers = covers
covers_deed u running (Sends number to message) covers = covers
covers_deed u running (Tells reply) covers = λ is. is
covers_deed u running (Falls cause pending) covers = λ is. is
covers_deed u running (Rises records) covers = λ is. is

covers_deeds : (u running : Bool) (ds : List Deed) → Covers u running
    → Covers (fold runs_at u ds) (fold runs_at running ds)
covers_deeds u running [] covers = covers
covers_deeds u running (d ∷ ds) covers =
    covers_deeds (runs_at u d) (runs_at running d) ds (covers_deed u running d covers)

-- a step

pub mine_up : (mine : Bool) (ds : List Deed) → AreSteady ds → AreSteady (cond mine ds [])
mine_up true ds up = up
mine_up false ds up = tt

covers_up : (script : Script) (a : ℕ) (i : Inbox) (b : ℕ) (ms : List Envelope) (step : Step) (running : Bool)
    → AreSteady (cond (b == a) (deed_at ms step) []) → Covers i.busy running
    → Covers (inbox_at script a i b step).busy (fold runs_at running (cond (b == a) (deed_at ms step) []))
covers_up script a i b ms step running up covers is = busy_step script a i b ms step up
    ∙ covers_deeds i.busy running (cond (b == a) (deed_at ms step) []) covers is

-- of an actor that falls or rises no command runs
covers_none : (script : Script) (a : ℕ) (i : Inbox) (b : ℕ) (ms : List Envelope) (step : Step) (running : Bool)
    → fold runs_at running (deed_at ms step) ≡ false → Covers i.busy running
    → Covers (inbox_at script a i b step).busy (fold runs_at running (cond (b == a) (deed_at ms step) []))
covers_none script a i b ms step running none covers = by (b == a) refl
  where
    by : (mine : Bool) → (b == a) ≡ mine → Covers (inbox_at script a i b step).busy
        (fold runs_at running (cond (b == a) (deed_at ms step) []))
    by true same is =
        let never : true ≡ false = sym is ∙ ap (λ (x : Bool). fold runs_at running (cond x (deed_at ms step) [])) same
        ∙ none in
        absurd (let no : ⊥ = cc in no)
    by false other is = covers_up script a i b ms step running
        (subst (λ (x : Bool). AreSteady (cond x (deed_at ms step) [])) (sym other) tt) covers is

covers_step : (script : Script) (a : ℕ) (i : Inbox) (b : ℕ) (ms : List Envelope) (step : Step) (running : Bool)
    → Covers i.busy running
    → Covers (inbox_at script a i b step).busy (fold runs_at running (cond (b == a) (deed_at ms step) []))
covers_step script a i b ms (steps.Phase k) running covers =
    covers_up script a i b ms (steps.Phase k) running (mine_up (b == a) [] tt) covers
covers_step script a i b ms (steps.Cut x y) running covers =
    covers_up script a i b ms (steps.Cut x y) running (mine_up (b == a) [] tt) covers
covers_step script a i b ms (steps.Heal x y) running covers =
    covers_up script a i b ms (steps.Heal x y) running (mine_up (b == a) [] tt) covers
covers_step script a i b ms (steps.Armed x kind at) running covers =
    covers_up script a i b ms (steps.Armed x kind at) running (mine_up (b == a) [] tt) covers
covers_step script a i b ms (steps.Called command) running covers =
    covers_up script a i b ms (steps.Called command) running
    (mine_up (b == a) (deed_at ms (steps.Called command)) (tt, tt)) covers
covers_step script a i b ms (steps.Got n) running covers =
    covers_up script a i b ms (steps.Got n) running
    (mine_up (b == a) (deed_at ms (steps.Got n)) (heard_up (slice_get ms n))) covers
covers_step script a i b ms (steps.Lost n) running covers =
    covers_up script a i b ms (steps.Lost n) running (mine_up (b == a) (deed_at ms (steps.Lost n)) (tt, tt)) covers
covers_step script a i b ms (steps.Wrote written) running covers =
    covers_up script a i b ms (steps.Wrote written) running
    (mine_up (b == a) (deed_at ms (steps.Wrote written)) (tt, tt)) covers
covers_step script a i b ms (steps.Sent n to message) running covers =
    covers_up script a i b ms (steps.Sent n to message) running
    (mine_up (b == a) (deed_at ms (steps.Sent n to message)) (tt, tt)) covers
covers_step script a i b ms (steps.Told reply) running covers =
    covers_up script a i b ms (steps.Told reply) running
    (mine_up (b == a) (deed_at ms (steps.Told reply)) (tt, tt)) covers
covers_step script a i b ms (steps.Fell cause pending) running covers =
    covers_none script a i b ms (steps.Fell cause pending) running refl covers
covers_step script a i b ms (steps.Rose records) running covers =
    covers_none script a i b ms (steps.Rose records) running refl covers
covers_step script a i b ms (steps.Damaged offset) running covers =
    covers_up script a i b ms (steps.Damaged offset) running (mine_up (b == a) [] tt) covers

covers_all : (script : Script) (a : ℕ) (h : List Entry) (i : Inbox) (ms : List Envelope) (running : Bool)
    → Covers i.busy running
    → Covers (fold (λ (i : Inbox) (e : Entry). inbox_at script a i e.actor e.step) i h).busy
    (fold runs_at running (deeds a ms h))
covers_all script a [] i ms running covers is = covers is
covers_all script a (e ∷ h) i ms running covers is =
    let mine : List Deed = cond (e.actor == a) (deed_at ms e.step) [] in
    covers_all script a h (inbox_at script a i e.actor e.step) (ms ++ option_to_list (envelope_of e))
    (fold runs_at running mine) (covers_step script a i e.actor ms e.step running covers)
    (sym (fold-append runs_at running mine (deeds a (ms ++ option_to_list (envelope_of e)) h)) ∙ is)

running_is_busy : (script : Script) (a : ℕ) (h : List Entry)
    → Covers (inbox script a h).busy (is_running (deeds a [] h))
running_is_busy script a h = covers_all script a h empty_inbox [] false (λ is. is)

not_running : (busy running : Bool) → Covers busy running → busy ≡ false → running ≡ false
not_running busy false covers free = refl
not_running busy true covers free = let never : true ≡ false = sym (covers refl)
    ∙ free in absurd (let no : ⊥ = cc in no)

pub may_take : (decl : Declaration) (script : Script) (a : ℕ) (h : List Entry) (taken : Input)
    → ready decl script a h ≡ Some taken → MayTake (deeds a [] h) taken
may_take decl script a h (inputs.Called command) is =
    not_running (inbox script a h).busy (is_running (deeds a [] h)) (running_is_busy script a h)
    (not_busy decl a (inbox script a h) command is)
may_take decl script a h (inputs.Got envelope) is = tt
may_take decl script a h (inputs.Lost number) is = tt

-- What the calls on what is kept require holds: calls are few, and control lines name actors.
use Rattle.std.proofs.Common.{◌≡◌, ℕ, ◌+◌, ◌-◌, ◌<◌, ◌≤◌, ◌==◌, Bool, true, false, if◌then◌else◌, List, [], ◌∷◌, length}
use Rattle.std.proofs.Common.{Option, Some, None, refl, ap, sym, subst, arith}
use Rattle.std.specs.Prelude.{drop, set, slice_get}
use Rattle.std.specs.List.{AllByRecursion as Every, fold}
use Rattle.std.specs.Option.{IfSome, option_map_or}
use Rattle.qc_decl.specs.Vocabulary.{administrator}
use Rattle.qc_decl.specs.declared.declaration.Declaration.{Declaration}
use Rattle.qc_list.proofs.Members.{every-at, every-weaker}
use Rattle.qc_msg.specs.declared.step.Control.{Control}
use Rattle.qc_msg.specs.declared.step.Control.TheVariants as controls
use Rattle.qc_msg.specs.declared.step.Step.{Step}
use Rattle.qc_msg.specs.declared.step.Step.TheVariants as steps
use Rattle.qc_msg.specs.Vocabulary.{Entry}
use Rattle.qc_link.specs.Vocabulary.{most_actors, with_cut, without_cut}
use Rattle.qc_script.specs.Vocabulary.{Inbox, IsControlFor, IsPhaseFor, IsScriptFor, acting, actor_fell, control_acted}
use Rattle.qc_script.specs.Vocabulary.{controls_left, does_nothing, emptied, empty_inbox, inbox, inbox_at, is_by_line}
use Rattle.qc_script.specs.Vocabulary.{is_up, opened, opened_by, phase_begun, requests_to, requests_to_others}
use Rattle.qc_script.specs.Vocabulary.{with_lost}
use Rattle.qc_script.specs.declared.script.PhaseLines.{PhaseLines}
use Rattle.qc_script.specs.declared.script.Script.{Script}
use Rattle.qc_mailbox.specs.Vocabulary.{Inboxes, IsKept, IsWithin, Shows, Tray, calls_at, calls_of, tray_at}
use Rattle.qc_mailbox.proofs.Sent.{sends_count}
use Rattle.qc_script.proofs.InboxesSend.{by_test}

-- an actor calls no more commands than there are steps

one_call : (a calls by : ℕ) (step : Step) → calls_at a calls by step ≤ calls + 1
one_call a calls by (steps.Phase k) = omega arith
one_call a calls by (steps.Cut x y) = omega arith
one_call a calls by (steps.Heal x y) = omega arith
one_call a calls by (steps.Armed actor kind at) = omega arith
one_call a calls by (steps.Called command) = choice (by == a)
  where
    choice : (t : Bool) → (if t then calls + 1 else calls) ≤ calls + 1
    choice true = omega arith
    choice false = omega arith
one_call a calls by (steps.Got n) = omega arith
one_call a calls by (steps.Lost n) = omega arith
one_call a calls by (steps.Wrote written) = omega arith
one_call a calls by (steps.Sent n to message) = omega arith
one_call a calls by (steps.Told reply) = omega arith
one_call a calls by (steps.Fell cause pending) = omega arith
one_call a calls by (steps.Rose records) = omega arith
one_call a calls by (steps.Damaged offset) = omega arith

few_calls : (a : ℕ) (h : List Entry) (calls : ℕ)
    → fold (λ (n : ℕ) (e : Entry). calls_at a n e.actor e.step) calls h ≤ calls + length h
few_calls a [] calls = omega arith
few_calls a (e ∷ h) calls =
    let one : calls_at a calls e.actor e.step ≤ calls + 1 = one_call a calls e.actor e.step in
    let rest : fold (λ (n : ℕ) (x : Entry). calls_at a n x.actor x.step)
    (calls_at a calls e.actor e.step) h ≤ calls_at a calls e.actor e.step + length h =
    few_calls a h (calls_at a calls e.actor e.step) in
    omega arith

pub calls_few : (script : Script) (h : List Entry) (kept : Inboxes) (a : ℕ) → IsKept script h kept → a < most_actors
    → (tray_at kept.trays a).calls ≤ length h
calls_few script h kept a is within =
    let shows : Shows kept a (calls_of a h) (inbox script a h) = is.inboxes a within in
    let calls : (tray_at kept.trays a).calls ≡ calls_of a h = ap (λ (t : Tray). t.calls) shows.tray in
    let few : calls_of a h ≤ 0 + length h = few_calls a h 0 in
    omega arith

-- the control lines left

pub trays_show_controls : (script : Script) (h : List Entry) (kept : Inboxes) → IsKept script h kept
    → kept.controls ≡ controls_left script h
trays_show_controls script h kept is = let shows : Shows kept 0 (calls_of 0 h) (inbox script 0 h) =
    is.inboxes 0 (omega arith) in sym shows.controls

within : (decl : Declaration) → administrator decl < most_actors → (c : Control) → IsControlFor decl c → IsWithin c
within decl few (controls.Phase k) is = tt
within decl few (controls.Cut a b) is = (
  let low : a ≤ administrator decl = is.0 in omega arith,
  let low : b ≤ administrator decl = is.1 in omega arith,
)
within decl few (controls.Heal a b) is =
    (let low : a ≤ administrator decl = is.0 in omega arith, let low : b ≤ administrator decl = is.1 in omega arith)
within decl few (controls.Armed actor kind at) is = tt
within decl few (controls.Crash a) is = tt
within decl few (controls.Restart a) is = tt

abbrev AllWithin : Inbox → Type 0
AllWithin i = Every IsWithin i.controls

along : (cs ds : List Control) → ds ≡ cs → Every IsWithin cs → Every IsWithin ds
along cs ds same all = subst (λ (x : List Control). Every IsWithin x) (sym same) all

one_less : (cs : List Control) → Every IsWithin cs → Every IsWithin (drop 1 cs)
one_less [] all = tt
one_less (c ∷ cs) all = all.1

opened_by_controls : (a : ℕ) (cs : List Control) (i : Inbox) → (opened_by a cs i).controls ≡ i.controls
opened_by_controls a [] i = refl
opened_by_controls a (c ∷ cs) i = refl

acting_within : (up : List Bool) (cs : List Control) → Every IsWithin cs → Every IsWithin (acting up cs)
acting_within up [] all = tt
acting_within up (c ∷ cs) all = by (does_nothing up c) (acting_within up cs all.1)
  where
    by : (t : Bool) → Every IsWithin (acting up cs) → Every IsWithin (if t then acting up cs else c ∷ cs)
    by true rest = rest
    by false rest = all

opened_within : (a : ℕ) (i : Inbox) → AllWithin i → AllWithin (opened a i)
opened_within a i all = along _ _ (opened_by_controls a (acting i.up i.controls) _) (acting_within i.up i.controls all)

acted_within : (a : ℕ) (i : Inbox) → AllWithin i → AllWithin (control_acted a i)
acted_within a i all = opened_within a _ (one_less i.controls all)

fell_within : (a : ℕ) (i : Inbox) (r : ℕ) → AllWithin i → AllWithin (actor_fell a i r)
fell_within a i r all = by (r == a)
  where
    by : (t : Bool) → AllWithin (emptied t (record i {
      up = set i.up r false;
      unanswered = requests_to_others r i.unanswered;
      lost = with_lost (requests_to r i.unanswered) i.lost;
    }))
    by true = all
    by false = all

begun_within : (decl : Declaration) (script : Script) → administrator decl < most_actors → IsScriptFor decl script
    → (a n : ℕ) (i : Inbox) (o : Option PhaseLines) → slice_get script.phases n ≡ o
    → AllWithin i → AllWithin (option_map_or (phase_begun a i) o i)
begun_within decl script few sound a n i None is all = all
begun_within decl script few sound a n i (Some phase) is all =
    let there : IsPhaseFor decl phase = every-at (IsPhaseFor decl) script.phases n phase sound.phases is in
    opened_within a _ (every-weaker (IsControlFor decl) IsWithin (within decl few) phase.controls there.0)

step_within : (decl : Declaration) (script : Script) → administrator decl < most_actors → IsScriptFor decl script
    → (a : ℕ) (i : Inbox) (by : ℕ) (step : Step) → AllWithin i → AllWithin (inbox_at script a i by step)
step_within decl script few sound a i by (steps.Phase k) all =
    begun_within decl script few sound a (k - 1) i (slice_get script.phases (k - 1)) refl all
step_within decl script few sound a i by (steps.Cut x y) all =
    acted_within a (record i { cuts = with_cut i.cuts x y }) all
step_within decl script few sound a i by (steps.Heal x y) all =
    acted_within a (record i { cuts = without_cut i.cuts x y }) all
step_within decl script few sound a i by (steps.Armed actor kind at) all = acted_within a i all
step_within decl script few sound a i by (steps.Called command) all = by_test AllWithin (by == a) _ i all all
step_within decl script few sound a i by (steps.Got n) all = by_test AllWithin (by == a) _ i all all
step_within decl script few sound a i by (steps.Lost n) all = by_test AllWithin (by == a) _ i all all
step_within decl script few sound a i by (steps.Wrote written) all =
    by_test AllWithin (is_up i.up by) i _ all (acted_within a (record i { up = set i.up by true }) all)
step_within decl script few sound a i by (steps.Sent n to message) all =
    along i.controls _ (sends_count script.links a i
    (record { number = n; from = by; to = to; message = message })).controls all
step_within decl script few sound a i by (steps.Told reply) all = by_test AllWithin (by == a) _ i all all
step_within decl script few sound a i by (steps.Fell cause pending) all =
    by_test AllWithin (is_by_line (is_up i.up by) cause) (control_acted a (actor_fell a i by)) (actor_fell a i by)
    (acted_within a _ (fell_within a i by all)) (fell_within a i by all)
step_within decl script few sound a i by (steps.Rose records) all = all
step_within decl script few sound a i by (steps.Damaged offset) all = acted_within a i all

steps_within : (decl : Declaration) (script : Script) → administrator decl < most_actors → IsScriptFor decl script
    → (a : ℕ) (h : List Entry) (i : Inbox) → AllWithin i
    → AllWithin (fold (λ (i : Inbox) (e : Entry). inbox_at script a i e.actor e.step) i h)
steps_within decl script few sound a [] i all = all
steps_within decl script few sound a (e ∷ h) i all =
    steps_within decl script few sound a h (inbox_at script a i e.actor e.step)
    (step_within decl script few sound a i e.actor e.step all)

first_within : (cs : List Control) → Every IsWithin cs → IfSome (slice_get cs 0) IsWithin
first_within [] all = tt
first_within (c ∷ cs) all = all.0

pub controls_within : (decl : Declaration) (script : Script) (h : List Entry) (kept : Inboxes) → IsKept script h kept
    → IsScriptFor decl script → administrator decl < most_actors
    → IfSome (slice_get kept.controls 0) IsWithin
controls_within decl script h kept is sound few =
    subst (λ (cs : List Control). IfSome (slice_get cs 0) IsWithin) (sym (trays_show_controls script h kept is))
    (first_within (controls_left script h) (steps_within decl script few sound 0 h empty_inbox tt))

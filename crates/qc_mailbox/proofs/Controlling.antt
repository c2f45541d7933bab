-- The controller's steps keep what is kept: phases that begin, and control lines that act.
use Rattle.std.proofs.Common.{◌≡◌, ℕ, zero, suc, ◌+◌, ◌-◌, ◌<◌, ◌==◌, Bool, true, false, cond, List, [], ◌∷◌, ◌++◌}
use Rattle.std.proofs.Common.{filter, length, map, set, Option, Some, refl, ap, sym, subst, ◌∙◌, append_assoc, arith}
use Rattle.std.specs.Prelude.{drop, slice_get}
use Rattle.std.specs.Option.{option_map_or}
use Rattle.std.proofs.lemmas.Bool.{eqb-false, eqb-true}
use Rattle.std.proofs.lemmas.List.{append-nil, get_or-set_other, get_or-set_same, length-set}
use Rattle.qc_link.specs.Vocabulary.{most_actors, with_cut, without_cut}
use Rattle.qc_msg.specs.declared.step.Control.{Control}
use Rattle.qc_msg.specs.declared.step.Control.TheVariants as controls
use Rattle.qc_msg.specs.declared.step.Step.{Step}
use Rattle.qc_msg.specs.declared.step.Step.TheVariants.{Armed, Cut, Damaged, Heal, Phase}
use Rattle.qc_msg.specs.Vocabulary.{Entry, marked}
use Rattle.qc_script.proofs.InboxesSend as opens
use Rattle.qc_script.specs.Vocabulary.{Inbox, acting, commands_for, control_acted, controller_step, count_of, if_up}
use Rattle.qc_script.specs.Vocabulary.{inbox, is_up, opened, opened_by, phase_begun}
use Rattle.qc_script.specs.declared.script.CommandLine.{CommandLine}
use Rattle.qc_script.specs.declared.script.PhaseLines.{PhaseLines}
use Rattle.qc_script.specs.declared.script.Script.{Script}
use Rattle.qc_mailbox.specs.Vocabulary.{Inboxes, IsKept, Shows, Tally, Tray, after_control, after_phase, calls_of}
use Rattle.qc_mailbox.specs.Vocabulary.{count, each_by_up, empty_tray, none_left, tray_asked, tray_at, tray_begun}
use Rattle.qc_mailbox.specs.Vocabulary.{tray_of, tray_opened, with_command, with_commands, with_control_gone}
use Rattle.qc_mailbox.proofs.Keeping.{kept_step}
use Rattle.qc_mailbox.proofs.Shown.{numbers-append}

-- each tray is changed, by whether its actor is up

pub each_tray : (change : Bool → Tray → Tray) (up : List Bool) (trays : List Tray) (a : ℕ) → a < length trays
    → tray_at (each_by_up change up trays) a ≡ change (is_up up a) (tray_at trays a)
each_tray change up [] a within = absurd (omega (arith, within))
each_tray change [] (t ∷ ts) zero within = refl
each_tray change [] (t ∷ ts) (suc a) within = each_tray change [] ts a (omega (arith, within))
each_tray change (u ∷ us) (t ∷ ts) zero within = refl
each_tray change (u ∷ us) (t ∷ ts) (suc a) within = each_tray change us ts a (omega (arith, within))

pub length-each : (change : Bool → Tray → Tray) (up : List Bool) (trays : List Tray)
    → length (each_by_up change up trays) ≡ length trays
length-each change up [] = refl
length-each change [] (t ∷ ts) = ap suc (length-each change [] ts)
length-each change (u ∷ us) (t ∷ ts) = ap suc (length-each change us ts)

-- late copies that are ready

some_left : (c : Control) (cs : List Control) → none_left (c ∷ cs) ≡ false
some_left c cs = by (none_left (c ∷ cs)) refl
  where
    by : (t : Bool) → none_left (c ∷ cs) ≡ t → t ≡ false
    by true is = let none : length (c ∷ cs) ≡ 0 = eqb-true (length (c ∷ cs)) 0 is in absurd (omega arith)
    by false is = refl

opened_by_shown : (a calls : ℕ) (cs : List Control) (i : Inbox)
    → tray_of calls (opened_by a cs i) ≡ tray_opened (none_left cs) (is_up i.up a) (tray_of calls i)
opened_by_shown a calls [] i = by (is_up i.up a)
  where
    by : (t : Bool) → tray_of calls (record i { copies = if_up t i.opening ++ i.copies; opening = [] })
        ≡ tray_opened true t (tray_of calls i)
    by true = λ j. record (tray_of calls i) { copies = numbers-append i.opening i.copies j; opening = [] }
    by false = refl
opened_by_shown a calls (c ∷ cs) i = ap (λ (t : Bool). tray_opened t (is_up i.up a) (tray_of calls i))
    (sym (some_left c cs))

opened_shown : (a calls : ℕ) (i : Inbox)
    → tray_of calls (opened a i) ≡ tray_opened (none_left (acting i.up i.controls)) (is_up i.up a) (tray_of calls i)
opened_shown a calls i = opened_by_shown a calls (acting i.up i.controls)
    (record i { controls = acting i.up i.controls })

opened_keeps : (a : ℕ) (i : Inbox) → opens.Keeps (record i { controls = acting i.up i.controls }) (opened a i)
opened_keeps a i = opens.opened_keeps a (acting i.up i.controls) (record i { controls = acting i.up i.controls })

-- what is kept shows an inbox, where it has the same counts
pub shown_after : (old new : Inboxes) (a m n : ℕ) (i j : Inbox) → Shows old a m i → j.from_each ≡ i.from_each
    → j.to_each ≡ i.to_each → new.counts ≡ old.counts
    → j.cuts ≡ new.cuts → j.up ≡ new.up → j.controls ≡ new.controls → tray_at new.trays a ≡ tray_of n j
    → Shows new a n j
shown_after old new a m n i j shows from to counts cuts up lines tray = record {
  cuts = cuts;
  up = up;
  controls = lines;
  from_each = λ b within. ap (λ (c : List ℕ). count_of c b) from
      ∙ (shows.from_each b within ∙ ap (λ (t : Tally). count t b a) (sym counts));
  to_each = λ b within. ap (λ (c : List ℕ). count_of c b) to
      ∙ (shows.to_each b within ∙ ap (λ (t : Tally). count t a b) (sym counts));
  from_length = ap (λ (c : List ℕ). length c) from ∙ shows.from_length;
  to_length = ap (λ (c : List ℕ). length c) to ∙ shows.to_length;
  tray = tray;
}

-- control lines

acting_shown : (kept : Inboxes) (a calls : ℕ) (i : Inbox) (cut : List Control → List Control) → Shows kept a calls i
    → acting i.up (cut i.controls) ≡ acting kept.up (cut kept.controls)
acting_shown kept a calls i cut shows =
    ap (λ (up : List Bool). acting up (cut i.controls)) shows.up
    ∙ ap (λ (cs : List Control). acting kept.up (cut cs)) shows.controls

pub gone_shown : (kept : Inboxes) (a calls : ℕ) (i : Inbox) → length kept.trays ≡ most_actors → a < most_actors
    → Shows kept a calls i → Shows (with_control_gone kept) a calls (control_acted a i)
gone_shown kept a calls i long within shows =
    let keeps : opens.Keeps (record i { controls = acting i.up (drop 1 i.controls) }) (control_acted a i) =
    opened_keeps a (record i { controls = drop 1 i.controls }) in
    let lines : acting i.up (drop 1 i.controls) ≡ acting kept.up (drop 1 kept.controls) =
    acting_shown kept a calls i (λ cs. drop 1 cs) shows in
    shown_after kept (with_control_gone kept) a calls calls i
    (control_acted a i) shows keeps.from_each keeps.to_each refl
    (keeps.cuts ∙ shows.cuts)
    (keeps.up ∙ shows.up)
    (keeps.controls ∙ lines)
    (each_tray (tray_opened (none_left (acting kept.up (drop 1 kept.controls)))) kept.up kept.trays a
    (subst (λ (n : ℕ). a < n) (sym long) within)
    ∙ (ap (λ (t : Tray). tray_opened (none_left (acting kept.up (drop 1 kept.controls))) (is_up kept.up a) t) shows.tray
    ∙ (ap (λ (up : List Bool). tray_opened (none_left (acting kept.up (drop 1 kept.controls))) (is_up up a)
    (tray_of calls i)) (sym shows.up)
    ∙ (ap (λ (cs : List Control). tray_opened (none_left cs) (is_up i.up a) (tray_of calls i)) (sym lines)
    ∙ sym (opened_shown a calls (record i { controls = drop 1 i.controls }))))))

cut_shown : (kept : Inboxes) (a calls : ℕ) (i : Inbox) (cuts : List Bool → List Bool) → Shows kept a calls i
    → Shows (record kept { cuts = cuts kept.cuts }) a calls (record i { cuts = cuts i.cuts })
cut_shown kept a calls i cuts shows =
    shown_after kept (record kept { cuts = cuts kept.cuts }) a calls calls i
    (record i { cuts = cuts i.cuts }) shows refl refl refl (ap cuts shows.cuts) shows.up shows.controls shows.tray

some_step : (x y : Step) → Some x ≡ Some y → x ≡ y
some_step x y e = cc

pub length-gone : (kept : Inboxes) → length kept.trays ≡ most_actors
    → length (with_control_gone kept).trays ≡ most_actors
length-gone kept long = length-each (tray_opened (none_left (acting kept.up (drop 1 kept.controls)))) kept.up kept.trays
    ∙ long

pub controls_keep_trays : (script : Script) (h : List Entry) (old : Inboxes) (line : Control) (step : Step)
    (controller : ℕ)
    → IsKept script h old → controller_step line ≡ Some step
    → IsKept script (h ++ marked controller step ∷ []) (after_control old line)
controls_keep_trays script h old (controls.Phase k) step controller kept is = absurd (let never : ⊥ = cc in never)
controls_keep_trays script h old (controls.Cut x y) step controller kept is =
    let said : Cut x y ≡ step = some_step (Cut x y) step is in
    subst (λ (s : Step). IsKept script (h ++ marked controller s ∷ []) (after_control old (controls.Cut x y))) said
    (kept_step script h (marked controller (Cut x y)) old
    (after_control old (controls.Cut x y)) kept refl refl refl kept.ups (length-gone old kept.trays)
    (λ a within shows. gone_shown (record old { cuts = with_cut old.cuts x y }) a (calls_of a h) _ kept.trays within
    (cut_shown old a (calls_of a h) (inbox script a h) (λ (cuts : List Bool). with_cut cuts x y) shows)))
controls_keep_trays script h old (controls.Heal x y) step controller kept is =
    let said : Heal x y ≡ step = some_step (Heal x y) step is in
    subst (λ (s : Step). IsKept script (h ++ marked controller s ∷ []) (after_control old (controls.Heal x y))) said
    (kept_step script h (marked controller (Heal x y)) old
    (after_control old (controls.Heal x y)) kept refl refl refl kept.ups (length-gone old kept.trays)
    (λ a within shows. gone_shown (record old { cuts = without_cut old.cuts x y }) a (calls_of a h) _ kept.trays within
    (cut_shown old a (calls_of a h) (inbox script a h) (λ (cuts : List Bool). without_cut cuts x y) shows)))
controls_keep_trays script h old (controls.Armed actor kind at) step controller kept is =
    let said : Armed actor kind at ≡ step = some_step (Armed actor kind at) step is in
    subst (λ (s : Step). IsKept script (h ++ marked controller s ∷ [])
    (after_control old (controls.Armed actor kind at))) said
    (kept_step script h (marked controller (Armed actor kind at)) old
    (after_control old (controls.Armed actor kind at)) kept refl refl refl kept.ups (length-gone old kept.trays)
    (λ a within shows. gone_shown old a (calls_of a h) (inbox script a h) kept.trays within shows))
controls_keep_trays script h old (controls.Crash a) step controller kept is = absurd (let never : ⊥ = cc in never)
controls_keep_trays script h old (controls.Restart a) step controller kept is = absurd (let never : ⊥ = cc in never)

-- a journal that is damaged: its actor stays down, and the line has acted
pub damaged_journals_keep_trays : (script : Script) (h : List Entry) (old : Inboxes) (a offset : ℕ)
    → IsKept script h old
    → IsKept script (h ++ marked a (Damaged offset) ∷ []) (with_control_gone old)
damaged_journals_keep_trays script h old a offset kept =
    kept_step script h (marked a (Damaged offset)) old (with_control_gone old) kept refl refl refl kept.ups
    (length-gone old kept.trays)
    (λ b within shows. gone_shown old b (calls_of b h) (inbox script b h) kept.trays within shows)

-- the commands of a phase

pub length-with_commands : (trays : List Tray) (ls : List CommandLine) → length (with_commands trays ls) ≡ length trays
length-with_commands trays [] = refl
length-with_commands trays (l ∷ ls) = length-with_commands (with_command trays l) ls ∙ length-set trays l.actor _

asked_tray : (trays : List Tray) (a : ℕ) (ls : List CommandLine) → a < length trays
    → tray_at (with_commands trays ls) a ≡ record
    (tray_at trays a) { commands = (tray_at trays a).commands ++ commands_for a ls }
asked_tray trays a [] within = λ j. record
    (tray_at trays a) { commands = sym (append-nil (tray_at trays a).commands) j }
asked_tray trays a (l ∷ ls) within = asked_tray (with_command trays l) a ls
    (subst (λ (n : ℕ). a < n) (sym (length-set trays l.actor _)) within) ∙ by (l.actor == a) refl
  where
    by : (t : Bool) → (l.actor == a) ≡ t
        → record (tray_at (with_command trays l) a)
        { commands = (tray_at (with_command trays l) a).commands ++ commands_for a ls }
        ≡ record (tray_at trays a) {
          commands = (tray_at trays a).commands ++ map (λ (x : CommandLine). x.command)
              (cond t (l ∷ filter (λ (x : CommandLine). x.actor == a) ls)
              (filter (λ (x : CommandLine). x.actor == a) ls));
        }
    by true is =
        let here : l.actor ≡ a = eqb-true l.actor a is in
        let at : tray_at (with_command trays l) a ≡ tray_asked (tray_at trays a) l.command =
        subst (λ (k : ℕ). tray_at (set trays k (tray_asked (tray_at trays k) l.command)) a ≡ tray_asked
        (tray_at trays a) l.command) (sym here)
        (get_or-set_same trays a (tray_asked (tray_at trays a) l.command) empty_tray within) in
        ap (λ (t : Tray). record t { commands = t.commands ++ commands_for a ls }) at
        ∙ (λ j. record (tray_at trays a) {
          commands =
              append_assoc (tray_at trays a).commands (l.command ∷ []) (commands_for a ls) j;
        })
    by false is =
        let at : tray_at (with_command trays l) a ≡ tray_at trays a =
        get_or-set_other trays l.actor a (tray_asked (tray_at trays l.actor) l.command) empty_tray
        (λ e. eqb-false l.actor a is (sym e)) in
        ap (λ (t : Tray). record t { commands = t.commands ++ commands_for a ls }) at

-- phases

begun_shown : (a calls : ℕ) (i : Inbox) (phase : PhaseLines)
    → tray_begun (none_left (acting i.up phase.controls)) (is_up i.up a)
    (record (tray_of calls i) { commands = i.commands ++ commands_for a phase.commands }) ≡ tray_of 0
    (phase_begun a i phase)
begun_shown a calls i phase =
    (λ j. tray_opened (none_left (acting i.up phase.controls)) (is_up i.up a)
    (record (tray_of 0 i) {
      opening = sym (numbers-append i.opening i.late) j;
      late = [];
      commands = i.commands ++ commands_for a phase.commands;
    }))
    ∙ sym (opened_shown a 0 (record i {
      opening = i.opening ++ i.late;
      late = [];
      controls = phase.controls;
      commands = i.commands ++ commands_for a phase.commands;
    }))

phase_shown : (kept : Inboxes) (a calls : ℕ) (i : Inbox) (phase : PhaseLines) → length kept.trays ≡ most_actors
    → a < most_actors → Shows kept a calls i
    → Shows (after_phase kept phase) a 0 (phase_begun a i phase)
phase_shown kept a calls i phase long within shows =
    let keeps : opens.Keeps (record i {
      opening = i.opening ++ i.late;
      late = [];
      controls = acting i.up phase.controls;
      commands = i.commands ++ commands_for a phase.commands;
    }) (phase_begun a i phase) = opened_keeps a _ in
    let lines : acting i.up phase.controls ≡ acting kept.up phase.controls =
    ap (λ (up : List Bool). acting up phase.controls) shows.up in
    let among : a < length (with_commands kept.trays phase.commands) =
    subst (λ (n : ℕ). a < n) (sym (length-with_commands kept.trays phase.commands ∙ long)) within in
    shown_after kept (after_phase kept phase) a calls 0 i
    (phase_begun a i phase) shows keeps.from_each keeps.to_each refl (keeps.cuts ∙ shows.cuts) (keeps.up ∙ shows.up)
    (keeps.controls ∙ lines)
    (each_tray (tray_begun (none_left (acting kept.up phase.controls))) kept.up
    (with_commands kept.trays phase.commands) a among
    ∙ (ap (λ (t : Tray). tray_begun (none_left (acting kept.up phase.controls)) (is_up kept.up a) t)
    (asked_tray kept.trays a phase.commands (subst (λ (n : ℕ). a < n) (sym long) within))
    ∙ (ap (λ (t : Tray). tray_begun (none_left (acting kept.up phase.controls)) (is_up kept.up a)
    (record t { commands = t.commands ++ commands_for a phase.commands })) shows.tray
    ∙ (ap (λ (up : List Bool). tray_begun (none_left (acting up phase.controls)) (is_up up a)
    (record (tray_of calls i) { commands = i.commands ++ commands_for a phase.commands })) (sym shows.up)
    ∙ begun_shown a calls i phase))))

pub phases_keep_trays : (script : Script) (h : List Entry) (old : Inboxes) (n : ℕ) (phase : PhaseLines) (controller : ℕ)
    → IsKept script h old → slice_get script.phases n ≡ Some phase
    → IsKept script (h ++ marked controller (Phase (n + 1)) ∷ []) (after_phase old phase)
phases_keep_trays script h old n phase controller kept is =
    kept_step script h (marked controller (Phase (n + 1))) old (after_phase old phase) kept refl refl refl kept.ups
    (length-each (tray_begun (none_left (acting old.up phase.controls))) old.up (with_commands old.trays phase.commands)
    ∙ (length-with_commands old.trays phase.commands ∙ kept.trays))
    (λ a within shows.
    subst (λ (o : Option PhaseLines). Shows (after_phase old phase) a 0
    (option_map_or (phase_begun a (inbox script a h)) o (inbox script a h))) (sym there)
    (phase_shown old a (calls_of a h) (inbox script a h) phase kept.trays within shows))
  where
    there : slice_get script.phases ((n + 1) - 1) ≡ Some phase
    there = let back : (n + 1) - 1 ≡ n = omega arith in ap (λ (k : ℕ). slice_get script.phases k) back ∙ is

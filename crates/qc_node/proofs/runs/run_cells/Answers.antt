use Rattle.std.specs.Prelude.{option_copied}
use Rattle.std.proofs.Common.{◌≡◌, ◌∙◌, ◌-◌, List, None, subst, sym}
use Rattle.qc_core.specs.Vocabulary.{IsLawfulWithFalls}
use Rattle.qc_fabric.specs.Vocabulary.{before_last_event, full_of}
use Rattle.qc_msg.specs.Vocabulary.{Entry}
use Rattle.qc_promise.specs.Vocabulary.{Kept, Spent}
use Rattle.qc_script.specs.Vocabulary.{RunsWithFalls}
use Rattle.laws_bounds.specs.Vocabulary.{HoldJournals}
use Rattle.qc_node.specs.Vocabulary.{HasEnded, IsScriptEnd, fits_of}
use Rattle.qc_node.proofs.Settled.{settled_kept, settled_places, settled_spent}
use Rattle.qc_node.proofs.runs.run_cells.Goals as goal

pub returns-clause-ended : goal.returns-clause-ended
returns-clause-ended g c =
    let decl = g.N.RunName.declaration in
    let script = g.N.RunName.script in
    let state = c.drive_script-state.result.0 in
    let end = c.drive_script-state.result.1 in
    let same : c.from_vec.result ≡ c.roll-roll.result.history =
    c.from_vec.ensures ∙ (c.end-script.ensures.history ∙ c.settle.ensures.history) in
    subst (λ (h : List Entry). HasEnded decl script h end) (sym same) (record {
      inputs = state.open_inputs;
      opens = c.roll-roll.ensures.inputs;
      runs = c.roll-roll.ensures.runs;
      ended =
          subst (λ (h : List Entry). IsScriptEnd decl script h state.open_inputs end)
          (sym c.roll-roll.ensures.history) c.drive_script-state.ensures;
      below = c.roll-roll.ensures.below;
    })

pub returns-clause-spent : goal.returns-clause-spent
returns-clause-spent g c before less short =
    let decl = g.N.RunName.declaration in
    let script = g.N.RunName.script in
    let inputs = c.drive_script-state.result.0.open_inputs in
    let h = c.settle.new.roll.history in
    let run : RunsWithFalls (IsLawfulWithFalls decl) (fits_of decl) decl script h inputs =
    subst (λ (l : List Entry). RunsWithFalls (IsLawfulWithFalls decl) (fits_of decl) decl script l inputs)
    (sym c.settle.ensures.history) c.roll-roll.ensures.runs in
    let same : c.from_vec.result ≡ h = c.from_vec.ensures ∙ c.end-script.ensures.history in
    subst (λ (l : List Entry). Spent l (g.K.Rack.faults c.settle.new.rack - before)) (sym same)
    (settled_spent (option_copied c.args.job.now.dir) g.N.RunName.tells decl script h inputs run c.requires.runnable
    c.settle.new.roll.rooms
    (g.K.Rack.faults c.args.rack.now) (g.K.Rack.faults c.settle.new.rack) (g.K.Rack.places c.settle.new.rack)
    c.settle.ensures.settled before less short)

pub returns-clause-kept : goal.returns-clause-kept
returns-clause-kept g c tell =
    let decl = g.N.RunName.declaration in
    let script = g.N.RunName.script in
    let inputs = c.drive_script-state.result.0.open_inputs in
    let h = c.settle.new.roll.history in
    let run : RunsWithFalls (IsLawfulWithFalls decl) (fits_of decl) decl script h inputs =
    subst (λ (l : List Entry). RunsWithFalls (IsLawfulWithFalls decl) (fits_of decl) decl script l inputs)
    (sym c.settle.ensures.history) c.roll-roll.ensures.runs in
    let below : full_of (before_last_event h) ≡ None =
    subst (λ (l : List Entry). full_of (before_last_event l) ≡ None) (sym c.settle.ensures.history)
    c.roll-roll.ensures.below in
    let same : c.from_vec.result ≡ h = c.from_vec.ensures ∙ c.end-script.ensures.history in
    subst Kept (sym same)
    (settled_kept (option_copied c.args.job.now.dir) g.N.RunName.tells decl script h inputs run c.requires.runnable
    c.settle.new.roll.rooms
    (g.K.Rack.faults c.args.rack.now) (g.K.Rack.faults c.settle.new.rack) (g.K.Rack.places c.settle.new.rack)
    c.settle.ensures.settled below tell)

pub returns-clause-places : goal.returns-clause-places
returns-clause-places g c =
    let decl = g.N.RunName.declaration in
    let script = g.N.RunName.script in
    let inputs = c.drive_script-state.result.0.open_inputs in
    let h = c.settle.new.roll.history in
    let run : RunsWithFalls (IsLawfulWithFalls decl) (fits_of decl) decl script h inputs =
    subst (λ (l : List Entry). RunsWithFalls (IsLawfulWithFalls decl) (fits_of decl) decl script l inputs)
    (sym c.settle.ensures.history) c.roll-roll.ensures.runs in
    let same : c.from_vec.result ≡ h = c.from_vec.ensures ∙ c.end-script.ensures.history in
    subst (λ (l : List Entry). HoldJournals (option_copied c.args.job.now.dir) decl l
    (g.K.Rack.places c.settle.new.rack)) (sym same)
    (settled_places (option_copied c.args.job.now.dir) g.N.RunName.tells decl script h inputs run c.requires.runnable
    c.settle.new.roll.rooms
    (g.K.Rack.faults c.args.rack.now) (g.K.Rack.faults c.settle.new.rack) (g.K.Rack.places c.settle.new.rack)
    c.settle.ensures.settled)

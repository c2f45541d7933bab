-- What is ready, and what is kept.
use Rattle.std.proofs.Common.{◌≡◌, ℕ, ◌<◌, List, ap, ◌∙◌, sym}
use Rattle.std.specs.Prelude.{option_map}
use Rattle.qc_decl.specs.declared.declaration.Declaration.{Declaration}
use Rattle.qc_msg.specs.declared.step.Control.{Control}
use Rattle.qc_msg.specs.Vocabulary.{Entry}
use Rattle.qc_script.specs.Vocabulary.{inbox, ready, takes_commands}
use Rattle.qc_script.specs.declared.script.Script.{Script}
use Rattle.qc_mailbox.specs.Vocabulary.{Inboxes, IsKept, Shows, Tray, after_controls, calls_of, input_in, input_of}
use Rattle.qc_mailbox.specs.Vocabulary.{next_in, tray_of}
use Rattle.qc_mailbox.proofs.Taking.{ready_shown}
use Rattle.qc_link.specs.Vocabulary.{most_actors}

pub trays_show_what_is_ready : (decl : Declaration) (script : Script) (h : List Entry) (kept : Inboxes) (a : ℕ)
    → IsKept script h kept
    → a < most_actors
    → option_map input_of (ready decl script a h) ≡ input_in decl a kept
trays_show_what_is_ready decl script h kept a is within =
    let shows : Shows kept a (calls_of a h) (inbox script a h) = is.inboxes a within in
    ready_shown decl a (calls_of a h) (inbox script a h)
    ∙ (ap (λ (cs : List Control). after_controls cs
    (next_in (takes_commands decl a) (tray_of (calls_of a h) (inbox script a h)))) shows.controls
    ∙ ap (λ (t : Tray). after_controls kept.controls (next_in (takes_commands decl a) t)) (sym shows.tray))

-- Which actor comes next, as it is read off what is kept.
use Rattle.std.specs.Prelude.{ℕ, List, Bool, Option, option_map}
use Rattle.qc_decl.specs.Vocabulary.{actors}
use Rattle.qc_decl.specs.declared.declaration.Declaration.{Declaration}
use Rattle.qc_mailbox.specs.Inboxes.{Inboxes}
use Rattle.qc_mailbox.specs.Inputs.{input_in}
use Rattle.qc_mailbox.specs.Picks.{first_of, is_held, unless_held}
use Rattle.qc_mailbox.specs.Rooms.{tray_at}
use Rattle.qc_mailbox.specs.declared.input.Candidate.{Candidate}
use Rattle.qc_mailbox.specs.declared.input.ReadyInput.{ReadyInput}
use Rattle.qc_mailbox.specs.declared.input.ReadyInput.TheVariants as inputs
use Rattle.qc_mailbox.specs.declared.input.Rank.{Rank}
use Rattle.qc_mailbox.specs.declared.input.Rank.TheVariants.{Copy, Lost, Command}

abbrev pub input_rank : ℕ → ReadyInput → Rank
input_rank calls (inputs.Copy number) = Copy number
input_rank calls (inputs.Lost number) = Lost
input_rank calls (inputs.Command command) = Command calls

abbrev pub rank_in : Declaration → List Bool → Inboxes → ℕ → Option Rank
rank_in decl held i a =
    unless_held (is_held held a) (option_map (input_rank (tray_at i.trays a).calls) (input_in decl a i))

abbrev pub picked_in : Declaration → List Bool → Inboxes → Option ℕ
picked_in decl held i = option_map (λ (c : Candidate). c.actor) (first_of (rank_in decl held i) (actors decl))

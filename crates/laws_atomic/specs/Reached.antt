-- A history has a net: what was sent and written there, and what each actor is that has no open input.
use Rattle.std.specs.Prelude.{◌≡◌, ℕ, ◌-◌, Bool, true, false, List, [], Some, slice_get}
use Rattle.qc_list.specs.Vocabulary.{In}
use Rattle.qc_decl.specs.Vocabulary.{is_client, is_site}
use Rattle.qc_decl.specs.declared.declaration.Declaration.{Declaration}
use Rattle.qc_msg.specs.Vocabulary.{Entry, deeds, mail, written}
use Rattle.qc_script.specs.declared.script.CommandLine.{CommandLine}
use Rattle.qc_script.specs.declared.script.PhaseLines.{PhaseLines}
use Rattle.qc_script.specs.declared.script.Script.{Script}
use Rattle.qc_client.specs.Vocabulary.{client_after}
use Rattle.qc_site.specs.Vocabulary.{site_after}
use Rattle.laws_refinement.specs.Vocabulary.{IsNamed, Net, Reaches}

-- each `do` of a script names a declared object, and an invocation of its type, and each `epoch` one that is declared
abbrev pub AreNamed : Declaration → Script → Type 0
AreNamed decl script = (phase : PhaseLines) (line : CommandLine) → In phase script.phases → In line phase.commands
    → IsNamed decl line.command

-- the net of a history, some of whose inputs are open
pub record IsReached (decl : Declaration) (h : List Entry) (open_inputs : List Bool) : Type 0 where
  pub net : Net
  pub reached : Reaches decl net
  pub mail_is : net.mail ≡ mail h
  pub written_is : net.written ≡ written h
  pub sites_are : (a : ℕ) → is_site decl a ≡ true → slice_get open_inputs a ≡ Some false
      → net.sites a ≡ (site_after decl a (deeds a [] h)).site
  pub clients_are : (a : ℕ) → is_client decl a ≡ true → slice_get open_inputs a ≡ Some false
      → net.clients a ≡ (client_after decl (a - decl.sites) (deeds a [] h)).client

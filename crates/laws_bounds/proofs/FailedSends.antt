-- Where a turn's record isn't written at most one message is sent, to who sent what was taken.
use Rattle.std.proofs.Common.{ℕ, ◌<◌, ◌≤◌, List, length, sym, subst, arith}
use Rattle.std.specs.List.{AllByRecursion as Every}
use Rattle.qc_core.specs.declared.actor.Actor.{Actor}
use Rattle.qc_core.specs.declared.actor.Actor.TheVariants.{Site, Client, Admin, Down}
use Rattle.qc_core.specs.Vocabulary.{IsFrom, actor_takes}
use Rattle.qc_core.proofs.AdminWrites.{admin_written}
use Rattle.qc_core.proofs.Written.{client_written}
use Rattle.qc_decl.specs.declared.declaration.Declaration.{Declaration}
use Rattle.qc_link.specs.Vocabulary.{most_actors}
use Rattle.qc_msg.specs.declared.message.Message.{Message}
use Rattle.qc_msg.specs.declared.message.Outcome.{Outcome}
use Rattle.qc_msg.specs.declared.message.Outcome.TheVariants.{Committed, Aborted, Active}
use Rattle.qc_msg.specs.declared.message.Want.{Want}
use Rattle.qc_msg.specs.declared.message.Want.TheVariants.{Read, Append, Prepare}
use Rattle.qc_msg.specs.declared.step.Input.{Input}
use Rattle.qc_msg.specs.declared.step.Input.TheVariants as inputs
use Rattle.qc_msg.specs.declared.turn.Posting.{Posting}
use Rattle.qc_site.specs.Vocabulary.{SiteMove, SiteState, finishes, grants, passed, site_at, site_takes, moved}
use Rattle.qc_site.proofs.RequestCases.{append_cases, close_rows, install_rows, join_cases, prepare_cases, read_cases}
use Rattle.qc_site.proofs.RequestCases.{request_cases}
use Rattle.qc_stamp.specs.declared.stamp.TxId.{TxId}
use Rattle.laws_bounds.specs.Vocabulary.{IsFailedShort}
use Rattle.qc_msg.specs.Vocabulary.{quiet}
use Rattle.laws_bounds.proofs.SiteCases.{site_cases}

module _ (decl : Declaration) (s : SiteState) (from number : ℕ) (low : from < most_actors) where
  abbrev Short : SiteMove → Type 0
  Short m = IsFailedShort m.turn

  granted : (tx : TxId) (want : Want) → Short (grants decl s from number tx want)
  granted tx (Read read) =
      read_cases Short decl s from number tx read (λ free. record { few = omega arith; receivers = tt })
      (λ c clash. record { few = omega arith; receivers = tt })
  granted tx (Append object view own) =
      append_cases Short decl s from number tx object view own (λ free. record { few = omega arith; receivers = tt })
      (λ c clash. record { few = omega arith; receivers = tt })
  granted tx Prepare =
      prepare_cases Short s from number tx (record { few = omega arith; receivers = tt })
      (λ held stands. record { few = omega arith; receivers = tt })
      (λ held made. record { few = omega arith; receivers = (low, tt) })

  finished : (tx : TxId) (verdict : Outcome) → Short (finishes s tx verdict)
  finished tx (Committed stamp) =
      join_cases Short s tx stamp (λ none. record { few = omega arith; receivers = tt })
      (λ p some. record { few = omega arith; receivers = tt })
  finished tx Aborted = record { few = omega arith; receivers = tt }
  finished tx Active = record { few = omega arith; receivers = tt }

  silent : Short (moved s quiet)
  silent = record { few = omega arith; receivers = tt }

  at : (message : Message) → Short (site_at decl s from number message)
  at =
      site_cases decl s from number (λ message move. Short move) (λ message. silent)
      (λ tx epoch life want.
      request_cases Short decl s from number tx epoch life want silent
      (λ fault is. record { few = omega arith; receivers = tt }) (λ is. granted tx want)) finished
      (λ k.
      close_rows Short s from number k (record { few = omega arith; receivers = tt })
      (record { few = omega arith; receivers = tt }) (record { few = omega arith; receivers = tt })
      (record { few = omega arith; receivers = (low, tt) }))
      (λ k clock lines.
      install_rows Short s from number k clock lines (record { few = omega arith; receivers = tt })
      (record { few = omega arith; receivers = tt }) (record { few = omega arith; receivers = (low, tt) }))

site_short : (decl : Declaration) (s : SiteState) (g : Input) → IsFrom g → IsFailedShort (site_takes decl s g).turn
site_short decl s (inputs.Called command) from = record { few = omega arith; receivers = tt }
site_short decl s (inputs.Got e) from = at decl (passed s e.message) e.from e.number from e.message
site_short decl s (inputs.Lost number) from = record { few = omega arith; receivers = tt }

pub failed_short : (decl : Declaration) (v : Actor) (g : Input) → IsFrom g → IsFailedShort (actor_takes decl v g).turn
failed_short decl (Site s) g from = site_short decl s g from
failed_short decl (Client c) g from = record {
  few = subst (λ (ps : List Posting). length ps ≤ 1) (sym (client_written decl c g).failed_sends) (omega arith);
  receivers =
      subst (λ (ps : List Posting). Every (λ (p : Posting). p.to < most_actors) ps)
      (sym (client_written decl c g).failed_sends) tt;
}
failed_short decl (Admin m) g from = record {
  few = subst (λ (ps : List Posting). length ps ≤ 1) (sym (admin_written decl m g).failed_sends) (omega arith);
  receivers =
      subst (λ (ps : List Posting). Every (λ (p : Posting). p.to < most_actors) ps)
      (sym (admin_written decl m g).failed_sends) tt;
}
failed_short decl Down (inputs.Called command) from = record { few = omega arith; receivers = tt }
failed_short decl Down (inputs.Got e) from = record { few = omega arith; receivers = tt }
failed_short decl Down (inputs.Lost number) from = record { few = omega arith; receivers = tt }

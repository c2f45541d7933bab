-- What a site writes, and what it sends where that isn't written, stays within a bound that what it takes keeps to.
use Rattle.std.proofs.Common.{ℕ, ◌≤◌, not}
use Rattle.std.specs.Prelude.{option_to_list}
use Rattle.qc_list.proofs.Members.{every-filter}
use Rattle.qc_decl.specs.declared.declaration.Declaration.{Declaration}
use Rattle.qc_entry.specs.Vocabulary.{has_line}
use Rattle.qc_entry.specs.declared.line.Line.{Line}
use Rattle.qc_msg.specs.declared.message.Message.{Message}
use Rattle.qc_msg.specs.declared.message.Outcome.{Outcome}
use Rattle.qc_msg.specs.declared.message.Outcome.TheVariants.{Committed, Aborted, Active}
use Rattle.qc_msg.specs.declared.message.Want.{Want}
use Rattle.qc_msg.specs.declared.message.Want.TheVariants.{Read, Append, Prepare}
use Rattle.qc_msg.specs.declared.step.Input.{Input}
use Rattle.qc_msg.specs.declared.step.Input.TheVariants as inputs
use Rattle.qc_msg.specs.declared.turn.Turn.{Turn}
use Rattle.qc_site.specs.Vocabulary.{SiteMove, SiteState, finishes, grants, passed, site_at, site_takes, moved}
use Rattle.qc_site.proofs.RequestCases.{append_cases, close_rows, install_rows, join_cases, prepare_cases, read_cases}
use Rattle.qc_site.proofs.RequestCases.{request_cases}
use Rattle.qc_stamp.specs.declared.stamp.TxId.{TxId}
use Rattle.laws_turns.specs.Vocabulary.{GivenWithin, LinesWithin, MessageWithin, OutcomeWithin, SendsWithin, SiteWithin}
use Rattle.laws_bounds.specs.Vocabulary.{AreWithin}
use Rattle.qc_msg.specs.Vocabulary.{quiet}
use Rattle.laws_bounds.proofs.SiteCases.{site_cases}

pub record WritesWithin (bound : ℕ) (turn : Turn) : Type 0 where
  pub failed_sends : SendsWithin bound turn.failed_sends
  pub write : AreWithin bound (option_to_list turn.write)

module _ (bound : ℕ) (decl : Declaration) (s : SiteState) (from number : ℕ) (log : LinesWithin bound s.log) where
  abbrev Writes : SiteMove → Type 0
  Writes m = WritesWithin bound m.turn

  granted : (tx : TxId) (want : Want) → Writes (grants decl s from number tx want)
  granted tx (Read read) =
      read_cases Writes decl s from number tx read (λ free. record { failed_sends = tt; write = tt })
      (λ c clash. record { failed_sends = tt; write = tt })
  granted tx (Append object view own) =
      append_cases Writes decl s from number tx object view own (λ free. record { failed_sends = tt; write = tt })
      (λ c clash. record { failed_sends = tt; write = tt })
  granted tx Prepare =
      prepare_cases Writes s from number tx (record { failed_sends = tt; write = tt })
      (λ held stands. record { failed_sends = tt; write = tt })
      (λ held made. record {
        failed_sends = (tt, tt);
        write = (
          every-filter (λ (l : Line). l.stamp.clock ≤ bound)
              (λ (l : Line). not (has_line s.recorded l)) s.log log,
          tt,
        );
      })

  finished : (tx : TxId) (verdict : Outcome) → OutcomeWithin bound verdict → Writes (finishes s tx verdict)
  finished tx (Committed stamp) here =
      join_cases Writes s tx stamp (λ none. record { failed_sends = tt; write = tt })
      (λ p some. record { failed_sends = tt; write = (here, tt) })
  finished tx Aborted here = record { failed_sends = tt; write = tt }
  finished tx Active here = record { failed_sends = tt; write = tt }

  silent : Writes (moved s quiet)
  silent = record { failed_sends = tt; write = tt }

  at : (message : Message) → MessageWithin bound message → Writes (site_at decl s from number message)
  at =
      site_cases decl s from number (λ message move. MessageWithin bound message → Writes move) (λ message here. silent)
      (λ tx epoch life want here.
      request_cases Writes decl s from number tx epoch life want silent
      (λ fault is. record { failed_sends = tt; write = tt }) (λ is. granted tx want)) finished
      (λ k here.
      close_rows Writes s from number k (record { failed_sends = tt; write = tt })
      (record { failed_sends = tt; write = tt })
      (record { failed_sends = tt; write = tt }) (record { failed_sends = (tt, tt); write = (tt, tt) }))
      (λ k clock lines here.
      install_rows Writes s from number k clock lines (record { failed_sends = tt; write = tt })
      (record { failed_sends = tt; write = tt }) (record { failed_sends = (tt, tt); write = (here, tt) }))

-- one input
pub site_writes_within : (bound : ℕ) (decl : Declaration) (s : SiteState) (g : Input) → SiteWithin bound s
    → GivenWithin bound g → WritesWithin bound (site_takes decl s g).turn
site_writes_within bound decl s (inputs.Called command) w here = record { failed_sends = tt; write = tt }
site_writes_within bound decl s (inputs.Got e) w here =
    at bound decl (passed s e.message) e.from e.number w.log e.message here
site_writes_within bound decl s (inputs.Lost number) w here = record { failed_sends = tt; write = tt }

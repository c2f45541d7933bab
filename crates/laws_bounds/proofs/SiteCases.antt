-- What a site does for each message: silent, or by a request, a Decision, a Close or an Install.
use Rattle.std.specs.Prelude.{ℕ, List}
use Rattle.qc_decl.specs.declared.declaration.Declaration.{Declaration}
use Rattle.qc_entry.specs.declared.line.Line.{Line}
use Rattle.qc_msg.specs.declared.message.Message.{Message}
use Rattle.qc_msg.specs.declared.message.Message.TheVariants as messages
use Rattle.qc_msg.specs.declared.message.Outcome.{Outcome}
use Rattle.qc_msg.specs.declared.message.Want.{Want}
use Rattle.qc_msg.specs.Vocabulary.{quiet}
use Rattle.qc_msg.specs.Vocabulary.{start_with}
use Rattle.qc_site.specs.Vocabulary.{SiteMove, SiteState, moved, site_at}
use Rattle.qc_stamp.specs.declared.stamp.TxId.{TxId}

pub site_cases : (decl : Declaration) (s : SiteState) (from number : ℕ) (P : Message → SiteMove → Type 0)
    → ((m : Message) → P m (moved s quiet))
    → ((tx : TxId) (epoch life : ℕ) (want : Want) → P (messages.Request tx epoch life want)
    (site_at decl s from number (messages.Request tx epoch life want)))
    → ((tx : TxId) (verdict : Outcome) → P (messages.Decision tx verdict)
    (site_at decl s from number (messages.Decision tx verdict)))
    → ((epoch : ℕ) → P (messages.Close epoch) (site_at decl s from number (messages.Close epoch)))
    → ((epoch clock : ℕ) (lines : List Line) → P (messages.Install (start_with epoch clock lines))
    (site_at decl s from number (messages.Install (start_with epoch clock lines))))
    → (m : Message) → P m (site_at decl s from number m)
site_cases decl s from number P silent request decision close install (messages.Request tx epoch life want) =
    request tx epoch life want
site_cases decl s from number P silent request decision close install (messages.Answer to answer) = silent _
site_cases decl s from number P silent request decision close install (messages.Decision tx verdict) =
    decision tx verdict
site_cases decl s from number P silent request decision close install (messages.Inquiry tx) = silent _
site_cases decl s from number P silent request decision close install (messages.Ask tx) = silent _
site_cases decl s from number P silent request decision close install (messages.Close epoch) = close epoch
site_cases decl s from number P silent request decision close install (messages.Install start) =
    install start.epoch start.clock start.lines

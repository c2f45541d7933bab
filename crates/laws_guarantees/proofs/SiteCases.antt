-- What a site becomes and does for a message, each read once: nothing for an answer and for a question.
use Rattle.std.proofs.Common.{ℕ, List}
use Rattle.qc_stamp.specs.declared.stamp.TxId.{TxId}
use Rattle.qc_entry.specs.declared.line.Line.{Line}
use Rattle.qc_decl.specs.declared.declaration.Declaration.{Declaration}
use Rattle.qc_msg.specs.declared.message.Message.{Message}
use Rattle.qc_msg.specs.declared.message.Message.TheVariants as messages
use Rattle.qc_msg.specs.declared.message.Outcome.{Outcome}
use Rattle.qc_msg.specs.declared.message.Want.{Want}
use Rattle.qc_msg.specs.Vocabulary.{quiet}
use Rattle.qc_msg.specs.Vocabulary.{start_with}
use Rattle.qc_site.specs.Vocabulary.{SiteMove, SiteState, closes, finishes, installs, moved, site_at}

pub site_cases : (decl : Declaration) (s : SiteState) (from number : ℕ) (P : Message → SiteMove → Type 0)
    → ((m : Message) → P m (moved s quiet))
    → ((tx : TxId) (epoch life : ℕ) (want : Want)
    → P (messages.Request tx epoch life want) (site_at decl s from number (messages.Request tx epoch life want)))
    → ((tx : TxId) (verdict : Outcome) → P (messages.Decision tx verdict) (finishes s tx verdict))
    → ((epoch : ℕ) → P (messages.Close epoch) (closes s from number epoch))
    → ((epoch clock : ℕ) (log : List Line)
    → P (messages.Install (start_with epoch clock log)) (installs s from number epoch clock log)) → (m : Message)
    → P m (site_at decl s from number m)
site_cases decl s from number P same request finish close install (messages.Request tx epoch life want) =
    request tx epoch life want
site_cases decl s from number P same request finish close install (messages.Answer to answer) = same _
site_cases decl s from number P same request finish close install (messages.Decision tx verdict) = finish tx verdict
site_cases decl s from number P same request finish close install (messages.Inquiry tx) = same _
site_cases decl s from number P same request finish close install (messages.Ask tx) = same _
site_cases decl s from number P same request finish close install (messages.Close epoch) = close epoch
site_cases decl s from number P same request finish close install (messages.Install start) =
    install start.epoch start.clock start.lines

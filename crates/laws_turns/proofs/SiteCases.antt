-- What a site does for a message, case by case: it answers requests, Closes and Installs, and ends what is decided.
use Rattle.std.specs.Prelude.{ℕ, List}
use Rattle.qc_stamp.specs.declared.stamp.TxId.{TxId}
use Rattle.qc_entry.specs.declared.line.Line.{Line}
use Rattle.qc_decl.specs.declared.declaration.Declaration.{Declaration}
use Rattle.qc_msg.specs.declared.message.Message.{Message}
use Rattle.qc_msg.specs.declared.message.Message.TheVariants as messages
use Rattle.qc_msg.specs.declared.message.Outcome.{Outcome}
use Rattle.qc_msg.specs.Vocabulary.{Requested, quiet}
use Rattle.qc_msg.specs.Vocabulary.{start_with}
use Rattle.qc_site.specs.Vocabulary.{SiteMove, SiteState, closes, finishes, installs, moved, site_at}

pub site_cases : (decl : Declaration) (s : SiteState) (from number : ℕ) (P : Message → SiteMove → Type 0)
    → ((m : Message) → P m (moved s quiet))
    → ((q : Requested)
    → P (messages.Request q.tx q.epoch q.life q.want)
    (site_at decl s from number (messages.Request q.tx q.epoch q.life q.want)))
    → ((tx : TxId) (verdict : Outcome) → P (messages.Decision tx verdict) (finishes s tx verdict))
    → ((k : ℕ) → P (messages.Close k) (closes s from number k))
    → ((k clock : ℕ) (lines : List Line)
    → P (messages.Install (start_with k clock lines)) (installs s from number k clock lines))
    → (m : Message) → P m (site_at decl s from number m)
site_cases decl s from number P silent asked decided closed installed (messages.Request tx epoch life want) =
    asked (record { tx = tx; epoch = epoch; life = life; want = want })
site_cases decl s from number P silent asked decided closed installed (messages.Answer to answer) =
    silent (messages.Answer to answer)
site_cases decl s from number P silent asked decided closed installed (messages.Decision tx verdict) =
    decided tx verdict
site_cases decl s from number P silent asked decided closed installed (messages.Inquiry tx) =
    silent (messages.Inquiry tx)
site_cases decl s from number P silent asked decided closed installed (messages.Ask tx) = silent (messages.Ask tx)
site_cases decl s from number P silent asked decided closed installed (messages.Close k) = closed k
site_cases decl s from number P silent asked decided closed installed (messages.Install start) =
    installed start.epoch start.clock start.lines

-- What is read of a message, case by case, and what a site does for one.
use Rattle.std.proofs.Common.{ℕ, Option, Some, None}
use Rattle.qc_decl.specs.declared.declaration.Declaration.{Declaration}
use Rattle.qc_msg.specs.declared.message.Message.{Message}
use Rattle.qc_msg.specs.declared.message.Message.TheVariants as messages
use Rattle.qc_msg.specs.declared.payload.EpochStart.{EpochStart}
use Rattle.qc_msg.specs.Vocabulary.{Answered, Decided, Requested, answer_in, decision_in, installing_in, quiet}
use Rattle.qc_msg.specs.Vocabulary.{request_in}
use Rattle.qc_site.specs.Vocabulary.{SiteMove, SiteState, closes, installs, latest, moved, site_on}

-- a request, an answer, a Decision or an Install, or none of these
pub message_cases : (P : Message → Option Requested → Option Answered → Option Decided → Option EpochStart → Type 0)
    → ((q : Requested) → P (messages.Request q.tx q.epoch q.life q.want) (Some q) None None None)
    → ((a : Answered) → P (messages.Answer a.to a.answer) None (Some a) None None)
    → ((v : Decided) → P (messages.Decision v.tx v.verdict) None None (Some v) None)
    → ((start : EpochStart) → P (messages.Install start) None None None (Some start))
    → ((m : Message) → P m None None None None) → (m : Message)
    → P m (request_in m) (answer_in m) (decision_in m) (installing_in m)
message_cases P requests answers decides installs rest (messages.Request tx epoch life want) =
    requests (record { tx = tx; epoch = epoch; life = life; want = want })
message_cases P requests answers decides installs rest (messages.Answer to answer) =
    answers (record { to = to; answer = answer })
message_cases P requests answers decides installs rest (messages.Decision tx verdict) =
    decides (record { tx = tx; verdict = verdict })
message_cases P requests answers decides installs rest (messages.Inquiry tx) = rest (messages.Inquiry tx)
message_cases P requests answers decides installs rest (messages.Ask tx) = rest (messages.Ask tx)
message_cases P requests answers decides installs rest (messages.Close epoch) = rest (messages.Close epoch)
message_cases P requests answers decides installs rest (messages.Install start) = installs start

-- a site does nothing for an answer, an Inquiry or an Ask
pub site_cases : (decl : Declaration) (s : SiteState) (from number : ℕ) (P : Message → SiteMove → Type 0)
    → ((q : Requested)
    → P (messages.Request q.tx q.epoch q.life q.want)
    (site_on decl s from number (messages.Request q.tx q.epoch q.life q.want)))
    → ((v : Decided)
    → P (messages.Decision v.tx v.verdict) (site_on decl s from number (messages.Decision v.tx v.verdict)))
    → ((epoch : ℕ) → P (messages.Close epoch) (closes s from number epoch))
    → ((start : EpochStart)
    → P (messages.Install start)
    (installs (record s { clock = latest s.clock start.lines }) from number start.epoch start.clock start.lines))
    → ((m : Message) → P m (moved s quiet)) → (m : Message) → P m (site_on decl s from number m)
site_cases decl s from number P asked decided closed installed rest (messages.Request tx epoch life want) =
    asked (record { tx = tx; epoch = epoch; life = life; want = want })
site_cases decl s from number P asked decided closed installed rest (messages.Answer to answer) =
    rest (messages.Answer to answer)
site_cases decl s from number P asked decided closed installed rest (messages.Decision tx verdict) =
    decided (record { tx = tx; verdict = verdict })
site_cases decl s from number P asked decided closed installed rest (messages.Inquiry tx) = rest (messages.Inquiry tx)
site_cases decl s from number P asked decided closed installed rest (messages.Ask tx) = rest (messages.Ask tx)
site_cases decl s from number P asked decided closed installed rest (messages.Close epoch) = closed epoch
site_cases decl s from number P asked decided closed installed rest (messages.Install start) = installed start

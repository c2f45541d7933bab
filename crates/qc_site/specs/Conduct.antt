-- What a site becomes and does for each input, and over all its deeds.
use Rattle.std.specs.Option.{option_map_or}
use Rattle.std.specs.Prelude.{ℕ, max, if◌then◌else◌, List, fold}
use Rattle.qc_stamp.specs.declared.stamp.TxId.{TxId}
use Rattle.qc_entry.specs.declared.line.Line.{Line}
use Rattle.qc_decl.specs.declared.declaration.Declaration.{Declaration}
use Rattle.qc_msg.specs.declared.message.Message.{Message}
use Rattle.qc_msg.specs.declared.message.Message.TheVariants as messages
use Rattle.qc_msg.specs.declared.message.Outcome.{Outcome}
use Rattle.qc_msg.specs.declared.message.Outcome.TheVariants.{Committed, Aborted, Active}
use Rattle.qc_msg.specs.declared.message.Want.{Want}
use Rattle.qc_msg.specs.declared.message.Want.TheVariants.{Read, Append, Prepare}
use Rattle.qc_msg.specs.declared.step.Input.{Input}
use Rattle.qc_msg.specs.declared.step.Input.TheVariants as inputs
use Rattle.qc_msg.specs.Vocabulary.{Deed, Falls, Rises, Sends, Takes, Tells, Writes, quiet, Decided}
use Rattle.qc_msg.specs.declared.payload.EpochStart.{EpochStart}
use Rattle.qc_msg.specs.Vocabulary.{Requested, decision_in, installing_in, request_in}
use Rattle.qc_site.specs.Site.{SiteState, SiteMove, moved, new_site}
use Rattle.qc_site.specs.Epochs.{closes, installs}
use Rattle.qc_site.specs.Promise.{finishes}
use Rattle.qc_site.specs.Requests.{fault_of, names_declared, requested}

-- the clock passes the stamp of each line and decision that comes, whatever becomes of the message (Lamport 1978)

abbrev pub latest : ℕ → List Line → ℕ
latest clock lines = fold (λ c l. max c l.stamp.clock) clock lines

abbrev pub clock_asked : ℕ → Want → ℕ
clock_asked clock (Read read) = clock
clock_asked clock (Append object view own) = latest clock view
clock_asked clock Prepare = clock

abbrev pub clock_told : ℕ → Outcome → ℕ
clock_told clock (Committed stamp) = max clock stamp.clock
clock_told clock Aborted = clock
clock_told clock Active = clock

abbrev pub clock_after : ℕ → Message → ℕ
clock_after clock message =
    option_map_or (λ (q : Requested). clock_asked clock q.want) (request_in message)
    (option_map_or (λ (v : Decided). clock_told clock v.verdict) (decision_in message)
    (option_map_or (λ (i : EpochStart). latest clock i.lines) (installing_in message) clock))

-- what the site does for a message once its clock has passed. Nobody sends it an answer, an Inquiry or an Ask
abbrev pub site_at : Declaration → SiteState → ℕ → ℕ → Message → SiteMove
site_at decl s from number (messages.Request tx epoch life want) =
    if names_declared decl tx want
    then requested decl s from number tx want (fault_of s epoch life)
    else moved s quiet
site_at decl s from number (messages.Answer to answer) = moved s quiet
site_at decl s from number (messages.Decision tx verdict) = finishes s tx verdict
site_at decl s from number (messages.Inquiry tx) = moved s quiet
site_at decl s from number (messages.Ask tx) = moved s quiet
site_at decl s from number (messages.Close epoch) = closes s from number epoch
site_at decl s from number (messages.Install start) = installs s from number start.epoch start.clock start.lines

-- the site once its clock has passed
abbrev pub passed : SiteState → Message → SiteState
passed s message = record s { clock = clock_after s.clock message }

-- what the site becomes and does as the message of this sender and number comes
abbrev pub site_on : Declaration → SiteState → ℕ → ℕ → Message → SiteMove
site_on decl s from number message = site_at decl (passed s message) from number message

-- the same of a request, and of a decision

abbrev pub request_on : Declaration → SiteState → ℕ → ℕ → TxId → ℕ → ℕ → Want → SiteMove
request_on decl s from number tx epoch life want = site_on decl s from number (messages.Request tx epoch life want)

abbrev pub decision_on : Declaration → SiteState → ℕ → ℕ → TxId → Outcome → SiteMove
decision_on decl s from number tx verdict = site_on decl s from number (messages.Decision tx verdict)

-- what it takes; it isn't commanded, and it waits for no answer
abbrev pub site_takes : Declaration → SiteState → Input → SiteMove
site_takes decl s (inputs.Called command) = moved s quiet
site_takes decl s (inputs.Got envelope) = site_on decl s envelope.from envelope.number envelope.message
site_takes decl s (inputs.Lost number) = moved s quiet

-- a site over its deeds

abbrev pub site_does : Declaration → SiteMove → Deed → SiteMove
site_does decl move (Takes given) = site_takes decl move.site given
site_does decl move (Writes written) = move
site_does decl move (Sends number to message) = move
site_does decl move (Tells reply) = move
site_does decl move (Falls cause pending) = move
site_does decl move (Rises records) = move

-- what a site is after these deeds, and its turn for the last input
abbrev pub site_after : Declaration → ℕ → List Deed → SiteMove
site_after decl number deeds = fold (site_does decl) (moved (new_site number) quiet) deeds

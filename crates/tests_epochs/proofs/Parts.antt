-- Parts by which replies, decisions and posts are told apart.
use Rattle.std.proofs.Common.{ℕ, zero, suc, ◌+◌, ◌*◌, List, [], ◌∷◌, ◌++◌, length, Option, Some, None}
use Rattle.std.specs.Prelude.{option_and_then, option_map}
use Rattle.std.specs.List.{filter_map}
use Rattle.qc_entry.specs.declared.record.Prepared.{Prepared}
use Rattle.qc_msg.specs.declared.message.Answer.{Answer}
use Rattle.qc_msg.specs.declared.message.Answer.TheVariants as answers
use Rattle.qc_msg.specs.declared.record.Record.{Record}
use Rattle.qc_msg.specs.declared.record.Record.TheVariants as records
use Rattle.qc_msg.specs.declared.reply.Reply.{Reply}
use Rattle.qc_msg.specs.declared.reply.Reply.TheVariants as replies
use Rattle.qc_msg.specs.declared.payload.EpochStart.{EpochStart}
use Rattle.qc_promise.specs.Vocabulary.{Act, Wrote}
use Rattle.tests_due.proofs.SitePlaces.{first_answer}

-- a reply of the administrator

abbrev pub sites_closed : Option Reply → ℕ
sites_closed (Some (replies.Moved closed installed)) = closed
sites_closed _ = 0

abbrev pub sites_installed : Option Reply → ℕ
sites_installed (Some (replies.Moved closed installed)) = installed
sites_installed _ = 0

abbrev pub half_need : Option Reply → ℕ
half_need (Some (replies.Quorum half got need)) = need
half_need _ = 0

-- the transaction's client, and the site
abbrev pub doubt_told : Option Reply → ℕ
doubt_told (Some (replies.InDoubt tx site)) = tx.client * 16 + site
doubt_told _ = 0

-- a decision

abbrev pub clock_decided : Option EpochStart → ℕ
clock_decided (Some i) = i.clock
clock_decided None = 0

abbrev pub lines_decided : Option EpochStart → ℕ
lines_decided (Some i) = length i.lines
lines_decided None = 0

abbrev pub lines_pending : Option Record → ℕ
lines_pending (Some (records.Decide start)) = length start.lines
lines_pending _ = 0

-- the answer in the first message that a site posts

abbrev told_closed : Option Answer → ℕ
told_closed (Some (answers.Closed epoch)) = 1
told_closed _ = 0

abbrev pub is_closed_told : List Act → ℕ
is_closed_told acts = told_closed (first_answer acts)

abbrev life_in : Option Answer → ℕ
life_in (Some (answers.Granted grant)) = grant.life
life_in _ = 0

abbrev pub life_granted : List Act → ℕ
life_granted acts = life_in (first_answer acts)

abbrev told_clash : Option Answer → ℕ
told_clash (Some (answers.Clash holder inv event)) = 1
told_clash _ = 0

abbrev pub is_clash_told : List Act → ℕ
is_clash_told acts = told_clash (first_answer acts)

-- a Shut

abbrev shut_lines : Option Answer → ℕ
shut_lines (Some (answers.Shut snapshot)) = length snapshot.log
shut_lines _ = 0

abbrev pub lines_told : List Act → ℕ
lines_told acts = shut_lines (first_answer acts)

abbrev shut_clock : Option Answer → ℕ
shut_clock (Some (answers.Shut snapshot)) = snapshot.clock
shut_clock _ = 0

abbrev pub clock_told : List Act → ℕ
clock_told acts = shut_clock (first_answer acts)

abbrev promises_in : Option Answer → List Prepared
promises_in (Some (answers.Shut snapshot)) = snapshot.prepared
promises_in _ = []

abbrev pub promises_told : List Act → ℕ
promises_told acts = length (promises_in (first_answer acts))

abbrev client_of : List Prepared → ℕ
client_of [] = 0
client_of (p ∷ ps) = p.tx.client

abbrev pub first_promise : List Act → ℕ
first_promise acts = client_of (promises_in (first_answer acts))

-- the record that it writes first

abbrev installed_by : Record → ℕ
installed_by (records.Install start) = length start.lines
installed_by _ = 0

abbrev pub lines_installed : List Act → ℕ
lines_installed [] = 0
lines_installed (Wrote written ∷ acts) = installed_by written
lines_installed _ = 0

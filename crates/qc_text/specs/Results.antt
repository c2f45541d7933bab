-- The result of a command: a line for each kind of reply. What was refused begins with `!`.
use Rattle.std.specs.Prelude.{[], ℕ, List, ◌++◌, codes, decimal}
use Rattle.std.specs.Option.{option_map_or}
use Rattle.qc_stamp.specs.declared.stamp.TxId.{TxId}
use Rattle.qc_decl.specs.declared.declaration.Declaration.{Declaration}
use Rattle.qc_msg.specs.declared.reply.Half.{Half}
use Rattle.qc_msg.specs.declared.reply.Half.TheVariants as halves
use Rattle.qc_msg.specs.declared.reply.Reply.{Reply}
use Rattle.qc_msg.specs.declared.reply.Reply.TheVariants as replies
use Rattle.qc_msg.specs.declared.reply.AbortCause.{AbortCause}
use Rattle.qc_msg.specs.declared.reply.AbortCause.TheVariants as whys
use Rattle.qc_msg.specs.declared.step.Command.{Command}
use Rattle.qc_text.specs.Names.{response_name}
use Rattle.qc_text.specs.Parts.{set_text, site_text, stamp_text, transaction_text}
use Rattle.qc_msg.specs.Vocabulary.{Invocation, do_in}

-- a response's name, by the object of the command
abbrev pub response_text : Declaration → Command → ℕ → List ℕ
response_text decl command resp =
    option_map_or (λ (i : Invocation). response_name decl i.object resp) (do_in command) []

abbrev pub half_text : Half → List ℕ
half_text halves.Read = codes "read"
half_text halves.Append = codes "append"
half_text halves.Close = codes "close"

-- the weight that was got, and the one that is needed
abbrev pub quorum_text : Half → ℕ → ℕ → List ℕ
quorum_text half got need =
    codes "! quorum " ++ (half_text half ++ (codes " " ++ (decimal got ++ (codes " of " ++ decimal need))))

-- a site that told a closed epoch, with the epoch that it told
abbrev pub closed_text : ℕ → ℕ → List ℕ
closed_text epoch site = codes "! closed " ++ (decimal epoch ++ (codes " " ++ site_text site))

-- a transaction that is in the way, or whose end isn't known, and the site that tells it
abbrev pub conflict_text : TxId → ℕ → List ℕ
conflict_text tx site = codes "! conflict " ++ (transaction_text tx ++ (codes " " ++ site_text site))

abbrev pub in_doubt_text : TxId → ℕ → List ℕ
in_doubt_text tx site = codes "! in doubt " ++ (transaction_text tx ++ (codes " " ++ site_text site))

-- a site's life in its first grant, and the one that it is in
abbrev pub restarted_text : ℕ → ℕ → ℕ → List ℕ
restarted_text site old new =
    codes "! restarted " ++ (site_text site ++ (codes " " ++ (decimal old ++ (codes " " ++ decimal new))))

-- why a transaction was aborted
abbrev pub why_text : AbortCause → List ℕ
why_text whys.Doomed = codes "! doomed"
why_text (whys.Restarted site old new) = restarted_text site old new
why_text (whys.Closed epoch site) = closed_text epoch site
why_text (whys.Fault site) = codes "! fault " ++ site_text site
why_text (whys.NoAnswer site) = codes "! no answer " ++ site_text site
why_text (whys.Forgot site) = codes "! forgot " ++ site_text site

-- the sites that closed their epoch, and those that installed the next one
abbrev pub moved_text : ℕ → ℕ → List ℕ
moved_text closed installed = codes "closed" ++ (set_text closed ++ (codes " installed" ++ set_text installed))

abbrev pub reply_text : Declaration → Command → Reply → List ℕ
reply_text decl command replies.Down = codes "! down"
reply_text decl command (replies.Already tx) = codes "! already " ++ transaction_text tx
reply_text decl command (replies.Began tx) = transaction_text tx
reply_text decl command replies.NoTransaction = codes "! no transaction"
reply_text decl command replies.Doomed = codes "! doomed"
reply_text decl command replies.TooLong = codes "! too long"
reply_text decl command (replies.Closed epoch site) = closed_text epoch site
reply_text decl command (replies.Conflict tx site) = conflict_text tx site
reply_text decl command (replies.Quorum half got need) = quorum_text half got need
reply_text decl command replies.Absent = codes "! absent"
reply_text decl command (replies.Response resp) = response_text decl command resp
reply_text decl command (replies.Aborted why) = why_text why
reply_text decl command replies.Unknown = codes "?"
reply_text decl command (replies.Committed stamp) = stamp_text stamp
reply_text decl command replies.Dropped = codes "ok"
reply_text decl command (replies.Order current) = codes "! order " ++ decimal current
reply_text decl command (replies.InDoubt tx site) = in_doubt_text tx site
reply_text decl command replies.Fault = codes "! fault"
reply_text decl command (replies.Moved closed installed) = moved_text closed installed

-- What is printed of the run of a load: seven lines, each a word and numbers. What an operation asked and what it got
-- are known by the names that the declaration gives them.
use Rattle.std.specs.Prelude.{ℕ, ◌&&◌, ◌||◌, Bool, true, false, List, ◌++◌, Option, Some, None, codes, decimal, fold}
use Rattle.std.specs.Prelude.{count_by, flat_map, is_some, length}
use Rattle.std.specs.Option.{option_map_or}
use Rattle.std.specs.Ordering.{ord_max}
use Rattle.std.specs.Str.{bytes_eq}
use Rattle.qc_decl.specs.declared.declaration.Declaration.{Declaration}
use Rattle.qc_entry.specs.declared.line.Op.{Op}
use Rattle.qc_entry.specs.declared.record.Commit.{Commit}
use Rattle.qc_msg.specs.Vocabulary.{Entry}
use Rattle.qc_msg.specs.declared.reply.Reply.{Reply}
use Rattle.qc_msg.specs.declared.reply.Reply.TheVariants as replies
use Rattle.qc_promise.specs.Vocabulary.{committed}
use Rattle.qc_stamp.specs.Vocabulary.{stamp_cmp}
use Rattle.qc_stamp.specs.declared.stamp.Stamp.{Stamp}
use Rattle.qc_text.specs.Names.{invocation_name, response_name}
use Rattle.qc_text.specs.Parts.{stamp_text}
use Rattle.qc_text.specs.Replies.{reply_in}

-- whether a reply says that a transaction aborted
abbrev pub is_aborted : Reply → Bool
is_aborted replies.Down = false
is_aborted (replies.Already tx) = false
is_aborted (replies.Began tx) = false
is_aborted replies.NoTransaction = false
is_aborted replies.Doomed = false
is_aborted replies.TooLong = false
is_aborted (replies.Closed epoch site) = false
is_aborted (replies.Conflict tx site) = false
is_aborted (replies.Quorum half got need) = false
is_aborted replies.Absent = false
is_aborted (replies.Response resp) = false
is_aborted (replies.Aborted why) = true
is_aborted replies.Unknown = false
is_aborted (replies.Committed stamp) = false
is_aborted replies.Dropped = false
is_aborted (replies.Order current) = false
is_aborted (replies.InDoubt tx site) = false
is_aborted replies.Fault = false
is_aborted (replies.Moved closed installed) = false

-- whether an actor tells it
abbrev pub tells_aborted : Entry → Bool
tells_aborted e = option_map_or is_aborted (reply_in e.step) false

-- the operations of transactions
abbrev pub ops_of : List Commit → List Op
ops_of commits = flat_map (λ c. c.ops) commits

abbrev pub has_response : Op → Bool
has_response op = is_some op.resp

-- whether an invocation has this name
abbrev pub is_asked : Declaration → List ℕ → Op → Bool
is_asked decl name op = bytes_eq (invocation_name decl op.object op.inv) name

-- whether a response has this name
abbrev pub is_answered : Declaration → List ℕ → Op → Bool
is_answered decl name op = option_map_or (λ resp. bytes_eq (response_name decl op.object resp) name) op.resp false

-- W0 and W1 write a bit
abbrev pub is_write : Declaration → Op → Bool
is_write decl op = has_response op && (is_asked decl (codes "W0") op || is_asked decl (codes "W1") op)

-- R read a 1
abbrev pub is_one : Declaration → Op → Bool
is_one decl op = is_asked decl (codes "R") op && is_answered decl (codes "1") op

-- the greatest stamp so far, with one more transaction
abbrev pub with_stamp : Option Stamp → Commit → Option Stamp
with_stamp None c = Some c.stamp
with_stamp (Some stamp) c = Some (ord_max stamp_cmp stamp c.stamp)

-- the greatest stamp of transactions
abbrev pub greatest_stamp : List Commit → Option Stamp
greatest_stamp commits = fold with_stamp None commits

-- a line of a word and a number
abbrev pub number_line : List ℕ → ℕ → List ℕ
number_line word number = word ++ (decimal number ++ codes "\n")

abbrev pub load_line : ℕ → ℕ → List ℕ
load_line count seed = codes "load " ++ (decimal count ++ (codes " " ++ (decimal seed ++ codes "\n")))

-- `-` where there is none
abbrev pub last_line : Option Stamp → List ℕ
last_line None = codes "last -\n"
last_line (Some stamp) = codes "last " ++ (stamp_text stamp ++ codes "\n")

-- how many operations have a response, how many of these are writes, and how many reads of a 1
abbrev pub operations_text : Declaration → List Op → List ℕ
operations_text decl ops =
    number_line (codes "operations ") (count_by has_response ops)
    ++ (number_line (codes "writes ") (count_by (is_write decl) ops)
    ++ number_line (codes "ones ") (count_by (is_one decl) ops))

-- the summary of a history: what was asked, how many transactions committed and how many were told aborted, the
-- operations of those that committed, and the greatest stamp
abbrev pub summary_of : Declaration → ℕ → ℕ → List Entry → List ℕ
summary_of decl count seed h =
    load_line count seed
    ++ (number_line (codes "committed ") (length (committed decl h))
    ++ (number_line (codes "aborted ") (count_by tells_aborted h)
    ++ (operations_text decl (ops_of (committed decl h))
    ++ last_line (greatest_stamp (committed decl h)))))

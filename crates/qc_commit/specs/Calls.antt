-- A desk over any calls of it, in any order.
use Rattle.std.specs.Prelude.{◌≡◌, ◌<◌, ◌≤◌, ℕ, List, [], ◌∷◌, fold, Option, Some, None}
use Rattle.std.specs.List.{filter_map}
use Rattle.qc_stamp.specs.declared.stamp.TxId.{TxId}
use Rattle.qc_decl.specs.declared.declaration.Declaration.{Declaration}
use Rattle.qc_decl.specs.Vocabulary.{most_sites}
use Rattle.qc_msg.specs.declared.begun.Begun.{Begun}
use Rattle.qc_msg.specs.declared.message.Answer.{Answer}
use Rattle.qc_msg.specs.Vocabulary.{quiet}
use Rattle.qc_commit.specs.declared.desk.Desk.{Desk}
use Rattle.qc_commit.specs.declared.desk.Known.TheVariants.{Uncommitted}
use Rattle.qc_commit.specs.Conduct.{prepare, prepared, sent, vote}
use Rattle.qc_commit.specs.Desk.{DeskMove, known, moved}

-- a call: a commit begins; something is taken; the messages of the last turn are numbered from one on; one of them is
pub data DeskCall : Type 0 where
  Prepares : (decl : Declaration) (begun : Begun) (clock : ℕ) → DeskCall
  Votes : (number : ℕ) (answer : Option Answer) → DeskCall
  Numbers : (first : ℕ) → DeskCall
  Sends : (number site : ℕ) → DeskCall

abbrev pub move_of : Desk → DeskCall → DeskMove
move_of desk (Prepares decl begun clock) = prepare decl desk begun clock
move_of desk (Votes number answer) = vote desk number answer
move_of desk (Numbers first) = moved (sent desk first) quiet
move_of desk (Sends number site) = moved (prepared desk number site) quiet

-- the desk after one call, and after calls

abbrev pub after_call : Desk → DeskCall → Desk
after_call desk call = (move_of desk call).desk

abbrev pub after_calls : Desk → List DeskCall → Desk
after_calls desk calls = fold after_call desk calls

-- the transactions that are handed in, in order

abbrev pub handed_by : DeskCall → Option TxId
handed_by (Prepares decl begun clock) = Some begun.tx
handed_by (Votes number answer) = None
handed_by (Numbers first) = None
handed_by (Sends number site) = None

abbrev pub handed : List DeskCall → List TxId
handed calls = filter_map handed_by calls

-- no transaction is handed in that has a record

abbrev pub IsNewTo : Desk → DeskCall → Type 0
IsNewTo desk (Prepares decl begun clock) = known desk begun.tx ≡ Uncommitted
IsNewTo desk (Votes number answer) = Unit {0}
IsNewTo desk (Numbers first) = Unit {0}
IsNewTo desk (Sends number site) = Unit {0}

abbrev pub AreNewTo : Desk → List DeskCall → Type 0
AreNewTo desk [] = Unit {0}
AreNewTo desk (call ∷ calls) = IsNewTo desk call × AreNewTo (after_call desk call) calls

-- there are at most 16 sites, and one at least
abbrev pub HasFew : DeskCall → Type 0
HasFew (Prepares decl begun clock) = (0 < decl.sites) × (decl.sites ≤ most_sites)
HasFew (Votes number answer) = Unit {0}
HasFew (Numbers first) = Unit {0}
HasFew (Sends number site) = Unit {0}

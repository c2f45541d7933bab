-- The questions as they are kept: without numbers, but for the first one. The Ask at a place has the first number and
-- its place, as far as Asks go out.
use Rattle.std.specs.Prelude.{◌≡◌, ℕ, ◌+◌, ◌-◌, ◌&&◌, nat_le, nat_lt, Bool, true, false, if◌then◌else◌, List, [], ◌∷◌}
use Rattle.std.specs.Prelude.{count_by, fold, map, take, slice_get, Option, Some, None, is_none}
use Rattle.std.specs.List.{AllByRecursion}
use Rattle.std.specs.BTreeSet.{BTreeSet, contains}
use Rattle.qc_stamp.specs.declared.stamp.TxId.{TxId}
use Rattle.qc_stamp.specs.Vocabulary.{tx_cmp}
use Rattle.qc_decl.specs.declared.declaration.Declaration.{Declaration}
use Rattle.qc_decl.specs.Vocabulary.{client_actor}
use Rattle.qc_msg.specs.declared.message.Answer.{Answer}
use Rattle.qc_msg.specs.declared.message.Answer.TheVariants as answers
use Rattle.qc_msg.specs.declared.message.Message.TheVariants as messages
use Rattle.qc_msg.specs.declared.reply.Reply.{Reply}
use Rattle.qc_msg.specs.declared.reply.Reply.TheVariants as replies
use Rattle.qc_msg.specs.declared.turn.Posting.{Posting}
use Rattle.qc_epoch.specs.Vocabulary.{Question, clock_in, is_questioned, most_asks, stamp_in}
use Rattle.qc_admin.specs.declared.questions.Query.{Query}
use Rattle.qc_msg.specs.Vocabulary.{has_installed}
use Rattle.std.specs.Option.{option_map_or}

abbrev pub question_of : Option ℕ → Query → Question
question_of number q = record { tx = q.tx; site = q.site; number = number; taken = q.taken }

-- before they are asked
abbrev pub unasked : List Query → List Question
unasked queries = map (question_of None) queries

-- once they are, from a place on: the Ask at a place, and the first one's number

abbrev pub number_at : ℕ → ℕ → Option ℕ
number_at first place = if nat_lt place most_asks then Some (first + place) else None

abbrev pub asked_from : ℕ → ℕ → List Query → List Question
asked_from first place [] = []
asked_from first place (q ∷ qs) = question_of (number_at first place) q ∷ asked_from first (place + 1) qs

-- the questions, and the number of the first Ask, once they are sent
abbrev pub shown : Option ℕ → List Query → List Question
shown None queries = unasked queries
shown (Some first) queries = asked_from first 0 queries

-- the Ask about a transaction
abbrev pub ask_about : Declaration → Query → Posting
ask_about decl q = record { to = client_actor decl q.tx.client; message = messages.Ask q.tx }

-- how many Asks have nothing taken for them
abbrev pub waiting_in : List Query → ℕ
waiting_in queries = count_by (λ (q : Query). is_none q.taken) (take most_asks queries)

-- the place of the Ask of this number, where nothing was taken for it

abbrev pub is_open : Option Query → Bool
is_open None = false
is_open (Some q) = is_none q.taken

abbrev pub open_place : List Query → ℕ → Option ℕ
open_place queries place = if nat_lt place most_asks && is_open (slice_get queries place) then Some place else None

abbrev pub open_at : Option ℕ → List Query → ℕ → Option ℕ
open_at None queries number = None
open_at (Some first) queries number = if nat_le first number then open_place queries (number - first) else None

-- nothing is asked yet, and the set has just the transactions of the questions
pub record IsDraft (queries : List Query) (txs : BTreeSet TxId) : Type 0 where
  pub fresh : AllByRecursion (λ (q : Query). q.taken ≡ None) queries
  pub known : (tx : TxId) → contains tx_cmp txs tx ≡ is_questioned (unasked queries) tx

-- what is told of a question in doubt
abbrev pub in_doubt : Question → Reply
in_doubt q = replies.InDoubt q.tx q.site

-- the greatest of a clock and those of the stamps
abbrev pub latest_of : ℕ → List Question → ℕ
latest_of clock questions = fold (λ (most : ℕ) (q : Question). clock_in most (stamp_in q.taken)) clock questions

-- whether the answer to an Install tells that the site is in the epoch
abbrev pub is_installed : Option Answer → Bool
is_installed answer = option_map_or has_installed answer false

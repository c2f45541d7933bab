-- What is due of a site's post for one input, and parts by which posts are told apart.
use Rattle.std.proofs.Common.{ℕ, zero, suc, List, [], ◌∷◌, ◌++◌, length, Option, Some, None}
use Rattle.std.specs.Prelude.{option_map}
use Rattle.std.specs.List.{filter_map}
use Rattle.qc_decl.specs.declared.declaration.Declaration.{Declaration}
use Rattle.qc_msg.specs.declared.message.Answer.{Answer}
use Rattle.qc_msg.specs.declared.message.Answer.TheVariants as answers
use Rattle.qc_msg.specs.declared.record.Record.{Record}
use Rattle.qc_msg.specs.declared.record.Record.TheVariants as records
use Rattle.qc_msg.specs.declared.turn.Posting.{Posting}
use Rattle.qc_msg.specs.Vocabulary.{Answered, Deed, answer_in}
use Rattle.qc_promise.specs.Vocabulary.{Act, AreDue, IsDueAt, Wrote, sent_by}

-- what is due of the deed at this place
abbrev pub DueAt : ℕ → Declaration → List Deed → List Deed → Type 0
DueAt k decl before [] = Unit {0}
DueAt zero decl before (d ∷ after) = IsDueAt decl before d after
DueAt (suc k) decl before (d ∷ after) = DueAt k decl (before ++ d ∷ []) after

pub site_due_at : (k : ℕ) (decl : Declaration) (before ds : List Deed) → AreDue decl before ds → DueAt k decl before ds
site_due_at k decl before [] all = tt
site_due_at zero decl before (d ∷ after) all = all.0
site_due_at (suc k) decl before (d ∷ after) all = site_due_at k decl (before ++ d ∷ []) after all.1

-- messages and records of a post

abbrev sends_in : List Act → List Posting
sends_in acts = filter_map sent_by acts

abbrev record_in : Act → Option Record
record_in (Wrote written) = Some written
record_in _ = None

abbrev records_in : List Act → List Record
records_in acts = filter_map record_in acts

abbrev pub count_sends : List Act → ℕ
count_sends acts = length (sends_in acts)

abbrev pub count_records : List Act → ℕ
count_records acts = length (records_in acts)

-- the answer in the first message

abbrev first_of : List Posting → Option Answer
first_of [] = None
first_of (p ∷ ps) = option_map (λ (a : Answered). a.answer) (answer_in p.message)

abbrev pub first_answer : List Act → Option Answer
first_answer acts = first_of (sends_in acts)

abbrev holder_in : Option Answer → ℕ
holder_in (Some (answers.Clash holder inv event)) = holder.client
holder_in _ = 0

abbrev pub holder_told : List Act → ℕ
holder_told acts = holder_in (first_answer acts)

abbrev lines_in : Option Answer → ℕ
lines_in (Some (answers.Granted grant)) = length grant.log
lines_in _ = 0

abbrev pub lines_granted : List Act → ℕ
lines_granted acts = lines_in (first_answer acts)

abbrev clock_in : Option Answer → ℕ
clock_in (Some (answers.Granted grant)) = grant.clock
clock_in _ = 0

abbrev pub clock_granted : List Act → ℕ
clock_granted acts = clock_in (first_answer acts)

-- what the first record promises

abbrev own_in : Record → ℕ
own_in (records.Prepare prepared) = length prepared.own
own_in _ = 0

abbrev own_of : List Record → ℕ
own_of [] = 0
own_of (r ∷ rs) = own_in r

abbrev pub own_promised : List Act → ℕ
own_promised acts = own_of (records_in acts)

-- How far a command of the administrator has come: the round of Closes, what the closed sites told, the transactions
-- that these have promised with what their clients told of them, and what is decided of it.
use Rattle.std.specs.Prelude.{ℕ, ◌+◌, max, if◌then◌else◌, Bool, false, not, List, [], ◌∷◌, ◌++◌, drop, fold}
use Rattle.std.specs.Prelude.{length, map, take, Option, Some, None, is_some, option_and_then, option_map}
use Rattle.std.specs.List.{filter_map, find, flat_map, list_all, list_any}
use Rattle.std.specs.Option.{option_map_or}
use Rattle.qc_stamp.specs.declared.stamp.Stamp.{Stamp}
use Rattle.qc_stamp.specs.declared.stamp.TxId.{TxId}
use Rattle.qc_stamp.specs.Vocabulary.{same_tx}
use Rattle.qc_entry.specs.declared.line.Line.{Line}
use Rattle.qc_entry.specs.declared.record.Prepared.{Prepared}
use Rattle.qc_entry.specs.Vocabulary.{union}
use Rattle.qc_plan.specs.declared.plan.Plan.{Plan}
use Rattle.qc_plan.specs.declared.standing.Asked.{Asked}
use Rattle.qc_plan.specs.declared.standing.Standing.{Standing}
use Rattle.qc_plan.specs.declared.standing.Standing.TheVariants as standings
use Rattle.qc_plan.specs.Vocabulary.{RoundState, closing_needs, start, total}
use Rattle.qc_decl.specs.declared.declaration.Declaration.{Declaration}
use Rattle.qc_decl.specs.Vocabulary.{plan_in}
use Rattle.qc_msg.specs.declared.message.Answer.{Answer}
use Rattle.qc_msg.specs.declared.message.Outcome.{Outcome}
use Rattle.qc_msg.specs.declared.message.Outcome.TheVariants.{Committed, Aborted, Active}
use Rattle.qc_msg.specs.Vocabulary.{shut_in, verdict_in}
use Rattle.qc_msg.specs.declared.payload.EpochStart.{EpochStart}
use Rattle.qc_msg.specs.declared.payload.Snapshot.{Snapshot}
use Rattle.qc_promise.specs.AdminAccount.{AdminAccount, AdminRequest, answer_to, closes, decided_epoch, is_ask_of}
use Rattle.qc_promise.specs.SiteLogs.{lines_of}
pub use Rattle.qc_msg.specs.Vocabulary.{is_final}

-- the round of Closes: by the plan of the epoch that is closed, in the order of the sites, for the weight that meets
-- each quorum of it. A site that tells that it is closed counts, each other one that answered or was lost is missing

abbrev pub close_weight : Plan → ℕ
close_weight plan =
    max (closing_needs (total plan.weights) plan.initial) (closing_needs (total plan.weights) plan.last)

abbrev pub fresh_round : Declaration → ℕ → RoundState
fresh_round decl epoch =
    option_map_or (λ (p : Plan). start p.weights 0 (close_weight p)) (plan_in decl epoch) (start [] 0 0)

abbrev pub standing_for : Option Answer → Standing
standing_for answer =
    option_map_or (λ (s : Snapshot). standings.Granted) (option_and_then shut_in answer) standings.Missing

abbrev pub close_asked : AdminRequest → Asked
close_asked q = record { site = q.to; standing = option_map standing_for q.taken }

abbrev pub close_round : Declaration → AdminAccount → RoundState
close_round decl d =
    let fresh : RoundState = fresh_round decl (decided_epoch d) in
    record fresh { asked = map close_asked (closes d); rest = drop (length (closes d)) fresh.rest }

-- what the closed sites told, in asked order

pub record ToldShut : Type 0 where
  pub site : ℕ
  pub told : Snapshot

abbrev pub told_shut : AdminRequest → Option ToldShut
told_shut q =
    option_map (λ (s : Snapshot). record { site = q.to; told = s }) (option_and_then shut_in (answer_to q))

abbrev pub shuts_told : AdminAccount → List ToldShut
shuts_told d = filter_map told_shut (closes d)

-- the transactions that they have promised, each with the first site that told of it: by site, then by transaction

pub record Promised : Type 0 where
  pub tx : TxId
  pub site : ℕ

abbrev pub promised_at : ToldShut → List Promised
promised_at s = map (λ (p : Prepared). record { tx = p.tx; site = s.site }) s.told.prepared

abbrev pub is_among : List Promised → TxId → Bool
is_among ps tx = list_any (λ (p : Promised). same_tx p.tx tx) ps

abbrev pub unless_among : List Promised → Promised → List Promised
unless_among before p = if is_among before p.tx then before else before ++ p ∷ []

abbrev pub promised_once : AdminAccount → List Promised
promised_once d = fold unless_among [] (flat_map promised_at (shuts_told d))

-- what its client told of a transaction: nothing yet, or that it committed, aborted or is active, or that the question
-- is lost

abbrev pub ask_of : AdminAccount → TxId → Option AdminRequest
ask_of d tx = find (λ (q : AdminRequest). is_ask_of tx q.want) d.requests

abbrev pub verdict_of : AdminAccount → TxId → Option Outcome
verdict_of d tx = option_and_then verdict_in (option_and_then answer_to (ask_of d tx))

abbrev pub is_in_doubt : AdminAccount → Promised → Bool
is_in_doubt d p = not (option_map_or is_final (verdict_of d p.tx) false)

abbrev pub first_doubt : AdminAccount → Option Promised
first_doubt d = find (is_in_doubt d) (promised_once d)

-- each of the first 65,536 was asked about, and each of these questions is answered or lost

abbrev pub most_questions : ℕ
most_questions = 65536

abbrev pub is_answered : AdminAccount → Promised → Bool
is_answered d p = option_map_or (λ (q : AdminRequest). is_some q.taken) (ask_of d p.tx) false

abbrev pub all_answered : AdminAccount → Bool
all_answered d = list_all (is_answered d) (take most_questions (promised_once d))

-- What the next epoch begins with: all lines of the closed sites' logs, and of each committed transaction all own lines
-- that any of them has promised, with its stamp; and a clock that has passed the clocks of these sites and these
-- stamps.

abbrev pub stamp_in : Outcome → Option Stamp
stamp_in (Committed stamp) = Some stamp
stamp_in Aborted = None
stamp_in Active = None

abbrev pub stamp_of : AdminAccount → TxId → Option Stamp
stamp_of d tx = option_and_then stamp_in (verdict_of d tx)

abbrev pub promised_lines : AdminAccount → Prepared → List Line
promised_lines d p = option_map_or (λ (s : Stamp). lines_of s p.tx p.own) (stamp_of d p.tx) []

abbrev pub with_promised : AdminAccount → List Line → Prepared → List Line
with_promised d lines p = union lines (promised_lines d p)

abbrev pub with_told : AdminAccount → List Line → ToldShut → List Line
with_told d lines s = fold (with_promised d) (union lines s.told.log) s.told.prepared

abbrev pub merged_lines : AdminAccount → List Line
merged_lines d = fold (with_told d) [] (shuts_told d)

abbrev pub stamps_of : AdminAccount → List Stamp
stamps_of d = filter_map (λ (p : Promised). stamp_of d p.tx) (promised_once d)

abbrev pub merged_clock : AdminAccount → ℕ
merged_clock d =
    fold max 0
    (map (λ (s : ToldShut). s.told.clock) (shuts_told d) ++ map (λ (s : Stamp). s.clock) (stamps_of d))

abbrev pub decision_due : AdminAccount → EpochStart
decision_due d =
    record { epoch = decided_epoch d + 1; clock = merged_clock d; lines = merged_lines d }

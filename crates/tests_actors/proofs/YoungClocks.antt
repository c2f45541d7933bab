-- The clocks of a client's front end and of its desk stay within a bound on them and on what they are told; the
-- desk's passes it by one at most as it prepares or counts votes.
use Rattle.std.proofs.Common.{◌≡◌, ℕ, ◌+◌, ◌≤◌, ◌==◌, Bool, true, false, cond, List, [], length, Option, Some, None}
use Rattle.std.proofs.Common.{refl, sym, subst, arith}
use Rattle.qc_decl.specs.declared.declaration.Declaration.{Declaration}
use Rattle.qc_decl.specs.Vocabulary.{append_need_of}
use Rattle.qc_stamp.specs.declared.clock.Clock.{Clock}
use Rattle.qc_plan.specs.declared.standing.Verdict.{Verdict}
use Rattle.qc_plan.specs.declared.standing.Verdict.TheVariants as verdicts
use Rattle.qc_plan.specs.Vocabulary.{RoundState, note, verdict}
use Rattle.qc_msg.specs.declared.begun.Begun.{Begun}
use Rattle.qc_msg.specs.declared.call.Call.{Call}
use Rattle.qc_msg.specs.declared.message.Answer.{Answer}
use Rattle.qc_msg.specs.declared.message.Answer.TheVariants as answers
use Rattle.qc_msg.specs.declared.reply.AbortCause.{AbortCause}
use Rattle.qc_msg.specs.Vocabulary.{site_called, without_call}
use Rattle.qc_commit.specs.declared.ballot.Ballot.{Ballot}
use Rattle.qc_commit.specs.declared.desk.Desk.{Desk}
use Rattle.qc_commit.specs.declared.desk.Voting.{Voting}
use Rattle.qc_commit.specs.Vocabulary.{DeskMove, are_cast, cast, first_against, participants, vote_of}
use Rattle.qc_commit.specs.Conduct as desks
use Rattle.qc_front.specs.declared.doing.Doing.{Doing}
use Rattle.qc_front.specs.declared.doing.Doing.TheVariants.{Idle, Reading, Appending}
use Rattle.qc_front.specs.declared.front.Front.{Front}
use Rattle.qc_front.specs.declared.transaction.Transaction.{Transaction}
use Rattle.qc_front.specs.Vocabulary.{answer_of, answered, append_by, appended_with, learns, read_by, read_with}
use Rattle.qc_front.specs.Vocabulary.{round_for, standing_of}
use Rattle.qc_front.specs.Conduct as fronts
use Rattle.tests_actors.specs.Young.{told}

-- the front end's clock after what comes of a request

append-clock : (decl : Declaration) (front : Front) (t : Transaction) (object inv event : ℕ) (calls : List Call)
    (r : RoundState) (v : Verdict) → (append_by decl front t object inv event calls r v).front.clock ≡ front.clock
append-clock decl front t object inv event calls r verdicts.Waiting = refl
append-clock decl front t object inv event calls r verdicts.Met = refl
append-clock decl front t object inv event calls r (verdicts.Closed epoch site) = refl
append-clock decl front t object inv event calls r (verdicts.Clash tx site) = refl
append-clock decl front t object inv event calls r (verdicts.Short got need) = refl

answered-clock : (decl : Declaration) (front : Front) (t : Transaction) (object inv : ℕ) (event : Option ℕ)
    → (answered decl front t object inv event).front.clock ≡ front.clock
answered-clock decl front t object inv None = refl
answered-clock decl front t object inv (Some event) =
    append-clock decl front t object inv event []
    (round_for decl front t (append_need_of decl t.begun.epoch object event))
    (verdict (round_for decl front t (append_need_of decl t.begun.epoch object event)))

read-clock : (decl : Declaration) (front : Front) (t : Transaction) (object inv : ℕ) (calls : List Call)
    (r : RoundState) (v : Verdict) → (read_by decl front t object inv calls r v).front.clock ≡ front.clock
read-clock decl front t object inv calls r verdicts.Waiting = refl
read-clock decl front t object inv calls r verdicts.Met =
    answered-clock decl front t object inv (answer_of decl t object inv)
read-clock decl front t object inv calls r (verdicts.Closed epoch site) = refl
read-clock decl front t object inv calls r (verdicts.Clash tx site) = refl
read-clock decl front t object inv calls r (verdicts.Short got need) = refl

learned-clock : (front : Front) (answer : Option Answer) (bound : ℕ) → front.clock.value ≤ bound → told answer ≤ bound
    → (learns front answer).clock.value ≤ bound
learned-clock front None bound low small = low
learned-clock front (Some (answers.Granted grant)) bound low small = omega arith
learned-clock front (Some (answers.Clash holder inv event)) bound low small = low
learned-clock front (Some (answers.Closed epoch)) bound low small = low
learned-clock front (Some (answers.Behind epoch)) bound low small = low
learned-clock front (Some (answers.Restarted life)) bound low small = low
learned-clock front (Some answers.Stale) bound low small = low
learned-clock front (Some answers.Fault) bound low small = low
learned-clock front (Some (answers.Yes clock)) bound low small = low
learned-clock front (Some (answers.Shut snapshot)) bound low small = low
learned-clock front (Some answers.Installed) bound low small = low
learned-clock front (Some (answers.Answered verdict)) bound low small = low

pub along : (a b : Clock) (bound : ℕ) → a ≡ b → b.value ≤ bound → a.value ≤ bound
along a b bound same low = subst (λ (k : Clock). k.value ≤ bound) (sym same) low

pub takes-clock : (decl : Declaration) (front : Front) (number : ℕ) (answer : Option Answer) (bound : ℕ)
    → front.clock.value ≤ bound → told answer ≤ bound
    → (fronts.takes decl front number answer).front.clock.value ≤ bound
takes-clock decl front number answer bound low small = by front.doing front.transaction where
  reading : (t : Transaction) (object inv : ℕ) (calls : List Call) (round : RoundState) (o : Option ℕ)
      → (fronts.reading_takes decl front t object inv calls round number answer o).front.clock.value ≤ bound
  reading t object inv calls round None = low
  reading t object inv calls round (Some site) =
      along _ _ bound
      (read-clock decl (learns front answer) (read_with t site object answer) object inv (without_call calls number)
      (note round site (standing_of answer)) (verdict (note round site (standing_of answer))))
      (learned-clock front answer bound low small)

  appending : (t : Transaction) (object inv event : ℕ) (calls : List Call) (round : RoundState) (o : Option ℕ)
      → (fronts.appending_takes decl front t object inv event calls round number answer o).front.clock.value ≤ bound
  appending t object inv event calls round None = low
  appending t object inv event calls round (Some site) =
      along _ _ bound
      (append-clock decl (learns front answer) (appended_with t site answer) object inv event
      (without_call calls number) (note round site (standing_of answer))
      (verdict (note round site (standing_of answer))))
      (learned-clock front answer bound low small)

  by : (doing : Doing) (o : Option Transaction)
      → (fronts.takes_in decl front doing o number answer).front.clock.value ≤ bound
  by Idle None = low
  by (Reading object inv calls round) None = low
  by (Appending object inv event calls round) None = low
  by Idle (Some t) = low
  by (Reading object inv calls round) (Some t) = reading t object inv calls round (site_called calls number)
  by (Appending object inv event calls round) (Some t) =
      appending t object inv event calls round (site_called calls number)

-- the desk's clock

pub prepare-clock : (decl : Declaration) (desk : Desk) (b : Begun) (clock bound : ℕ) → desk.clock.value ≤ bound
    → clock ≤ bound → (desks.prepare decl desk b clock).desk.clock.value ≤ bound + 1
prepare-clock decl desk b clock bound low handed =
    by (length (participants decl desk.client b) == 0) _ (omega arith) where
      by : (t : Bool) (m : DeskMove) → m.desk.clock.value ≤ bound + 1
          → (cond t (desks.decides (desks.passed desk clock) b) m).desk.clock.value ≤ bound + 1
      by true m is = omega arith
      by false m is = is

desk-learned : (desk : Desk) (answer : Option Answer) (bound : ℕ) → desk.clock.value ≤ bound → told answer ≤ bound
    → (desks.learns desk answer).clock.value ≤ bound
desk-learned desk None bound low small = low
desk-learned desk (Some (answers.Granted grant)) bound low small = low
desk-learned desk (Some (answers.Clash holder inv event)) bound low small = low
desk-learned desk (Some (answers.Closed epoch)) bound low small = low
desk-learned desk (Some (answers.Behind epoch)) bound low small = low
desk-learned desk (Some (answers.Restarted life)) bound low small = low
desk-learned desk (Some answers.Stale) bound low small = low
desk-learned desk (Some answers.Fault) bound low small = low
desk-learned desk (Some (answers.Yes clock)) bound low small = omega arith
desk-learned desk (Some (answers.Shut snapshot)) bound low small = low
desk-learned desk (Some answers.Installed) bound low small = low
desk-learned desk (Some (answers.Answered verdict)) bound low small = low

pub vote-clock : (desk : Desk) (number : ℕ) (answer : Option Answer) (bound : ℕ) → desk.clock.value ≤ bound
    → told answer ≤ bound → (desks.vote desk number answer).desk.clock.value ≤ bound + 1
vote-clock desk number answer bound low small = by desk.voting where
  out : (learned : Desk) (b : Begun) (o : Option AbortCause) → learned.clock.value ≤ bound
      → (desks.counted_out learned b o).desk.clock.value ≤ bound + 1
  out learned b (Some why) is = omega arith
  out learned b None is = omega arith

  counted : (learned : Desk) (b : Begun) (calls : List Call) (ballots : List Ballot) → learned.clock.value ≤ bound
      → (desks.counts learned b calls ballots).desk.clock.value ≤ bound + 1
  counted learned b calls ballots is = on (are_cast ballots) _ (omega arith) where
    on : (t : Bool) (m : DeskMove) → m.desk.clock.value ≤ bound + 1
        → (cond t (desks.counted_out learned b (first_against ballots)) m).desk.clock.value ≤ bound + 1
    on true m last = out learned b (first_against ballots) is
    on false m last = last

  at : (v : Voting) (o : Option ℕ) → (desks.votes_at desk v number answer o).desk.clock.value ≤ bound + 1
  at v None = omega arith
  at v (Some site) =
      counted (desks.learns desk answer) v.begun (without_call v.calls number)
      (cast v.ballots site (vote_of v.begun site answer)) (desk-learned desk answer bound low small)

  by : (o : Option Voting) → (desks.votes_in desk o number answer).desk.clock.value ≤ bound + 1
  by None = omega arith
  by (Some v) = at v (site_called v.calls number)

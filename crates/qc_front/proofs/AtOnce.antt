-- A turn asks sites only where no request is open, and then all that the round wants.
use Rattle.std.proofs.Common.{◌≡◌, ℕ, ◌≤◌, ◌==◌, nat_le, Bool, true, false, cond, ◌⊎◌, inl, inr, List, [], ◌∷◌, ◌++◌}
use Rattle.std.proofs.Common.{length, map, Option, Some, None, refl, sym, ap, ◌∙◌, subst}
use Rattle.std.proofs.lemmas.List.{append-nil}
use Rattle.qc_list.specs.Vocabulary.{In}
use Rattle.qc_decl.specs.declared.declaration.Declaration.{Declaration}
use Rattle.qc_decl.specs.Vocabulary.{append_need_of, most_transaction_operations, read_need_of}
use Rattle.qc_msg.specs.declared.begun.Begun.{Begun}
use Rattle.qc_msg.specs.declared.call.Call.{Call}
use Rattle.qc_msg.specs.declared.message.Answer.{Answer}
use Rattle.qc_msg.specs.declared.message.Answer.TheVariants as answers
use Rattle.qc_msg.specs.declared.message.Message.TheVariants as messages
use Rattle.qc_msg.specs.declared.message.Outcome.TheVariants.{Aborted}
use Rattle.qc_msg.specs.declared.message.Want.{Want}
use Rattle.qc_msg.specs.declared.reply.Reply.{Reply}
use Rattle.qc_msg.specs.declared.reply.Reply.TheVariants as replies
use Rattle.qc_msg.specs.declared.reply.AbortCause.TheVariants as causes
use Rattle.qc_msg.specs.declared.step.Command.{Command}
use Rattle.qc_msg.specs.declared.step.Command.TheVariants as commands
use Rattle.qc_msg.specs.declared.turn.Posting.{Posting}
use Rattle.qc_msg.specs.Vocabulary.{decisions, quiet, site_called, telling, without_call}
use Rattle.qc_plan.specs.declared.standing.Verdict.{Verdict}
use Rattle.qc_plan.specs.declared.standing.Verdict.TheVariants as verdicts
use Rattle.qc_plan.specs.Vocabulary.{RoundState, all_noted, asking_all, note, verdict, wanted}
use Rattle.qc_front.specs.declared.doing.Doing.{Doing}
use Rattle.qc_front.specs.declared.doing.Doing.TheVariants.{Idle, Reading, Appending}
use Rattle.qc_front.specs.declared.front.Front.{Front}
use Rattle.qc_front.specs.declared.transaction.Transaction.{Transaction}
use Rattle.qc_front.specs.Vocabulary.{AppendingHolds, AreOpen, AsksAll, AsksAtOnce, AsksIn, AsksNobody, BegunHolds}
use Rattle.qc_front.specs.Vocabulary.{FrontHolds, FrontMove, IsAwaiting, IsNumbered, IsRound, ReadingHolds, aborts}
use Rattle.qc_front.specs.Vocabulary.{answer_of, answered, append_by, append_counts, append_want, appended_with}
use Rattle.qc_front.specs.Vocabulary.{appending_takes, appends, awaited, begins, called, commits, fresh, gives_up}
use Rattle.qc_front.specs.Vocabulary.{is_request, learns, moved, next_tx, performs, read_by, read_counts, read_want}
use Rattle.qc_front.specs.Vocabulary.{read_with, reading_takes, reads, request_of, round_for, sites_called, sites_of}
use Rattle.qc_front.specs.Vocabulary.{standing_of, takes, takes_in}
use Rattle.qc_front.proofs.Apart.{AreApart}
use Rattle.qc_front.proofs.Awaited.{asking_awaits, unnoted}
use Rattle.qc_front.proofs.CommandsKeep.{commands_keep_hold}
use Rattle.qc_front.proofs.Keeping.{answers_keep_hold}
use Rattle.qc_front.proofs.Learning.{append_learns, learned, read_learns}
use Rattle.qc_front.proofs.NotedRounds.{note_wants, round_apart}
use Rattle.qc_front.proofs.Noting.{no_calls, note_numbered, noted_awaits}
use Rattle.qc_front.proofs.Numbering.{asks_numbered, asks_told}

-- each awaited site has an open request, and while one is awaited nobody else is wanted
pub record IsFull (calls : List Call) (r : RoundState) : Type 0 where
  pub full : sites_called calls ≡ awaited r
  pub calm : all_noted r.asked ≡ false → wanted r ≡ []

abbrev pub MoveAsks : Declaration → FrontMove → Type 0
MoveAsks decl move = AsksIn decl move.front.transaction move.front.doing move.turn.sends

asks_all : (b : Begun) (want : ℕ → Want) (calls : List Call) (r : RoundState) → IsFull calls r
    → AsksAll b want calls (asking_all r (wanted r)) (map (request_of b want) (wanted r))
asks_all b want calls r f = by (all_noted r.asked) refl
  where
    by : (t : Bool) → all_noted r.asked ≡ t → AsksAll b want calls (asking_all r (wanted r))
        (map (request_of b want) (wanted r))
    by true is =
        let none : awaited r ≡ [] = noted_awaits r.asked is in
        inr (
          no_calls calls (f.full ∙ none),
          ap (map (request_of b want))
              (sym (asking_awaits r ∙ ap (λ (ss : List ℕ). ss ++ wanted r) none)),
        )
    by false is =
        let none : wanted r ≡ [] = f.calm is in
        inl (
          ap (map (request_of b want)) none,
          f.full
              ∙ sym (asking_awaits r ∙ ap (λ (ss : List ℕ). awaited r ++ ss) none ∙ append-nil (awaited r)),
        )

abbrev nobody : (p : Posting) → In p [] → is_request p.message ≡ false
nobody p among = absurd among

full_at_start : (r : RoundState) → r.asked ≡ [] → IsFull [] r
full_at_start r none = record {
  full = sym (ap unnoted none);
  calm = λ open_still. absurd (let never : true ≡ false = sym (ap all_noted none)
      ∙ open_still in let no_way : ⊥ = cc in no_way);
}

append_by_asks : (decl : Declaration) (front : Front) (t : Transaction) (object inv event : ℕ) (calls : List Call)
    (r : RoundState) (v : Verdict) → IsFull calls r → MoveAsks decl (append_by decl front t object inv event calls r v)
append_by_asks decl front t object inv event calls r verdicts.Waiting f =
    asks_all t.begun (append_want decl t object event) calls r f
append_by_asks decl front t object inv event calls r verdicts.Met f = nobody
append_by_asks decl front t object inv event calls r (verdicts.Closed epoch site) f = nobody
append_by_asks decl front t object inv event calls r (verdicts.Clash tx site) f = nobody
append_by_asks decl front t object inv event calls r (verdicts.Short got need) f = nobody

answered_asks : (decl : Declaration) (front : Front) (t : Transaction) (object inv : ℕ) (event : Option ℕ)
    → MoveAsks decl (answered decl front t object inv event)
answered_asks decl front t object inv None = nobody
answered_asks decl front t object inv (Some event) =
    let r : RoundState = round_for decl front t (append_need_of decl t.begun.epoch object event) in
    append_by_asks decl front t object inv event []
    (round_for decl front t (append_need_of decl t.begun.epoch object event))
    (verdict (round_for decl front t (append_need_of decl t.begun.epoch object event)))
    (full_at_start (round_for decl front t (append_need_of decl t.begun.epoch object event)) refl)

read_by_asks : (decl : Declaration) (front : Front) (t : Transaction) (object inv : ℕ) (calls : List Call)
    (r : RoundState) (v : Verdict) → IsFull calls r → MoveAsks decl (read_by decl front t object inv calls r v)
read_by_asks decl front t object inv calls r verdicts.Waiting f = asks_all t.begun (read_want object inv) calls r f
read_by_asks decl front t object inv calls r verdicts.Met f =
    answered_asks decl front t object inv (answer_of decl t object inv)
read_by_asks decl front t object inv calls r (verdicts.Closed epoch site) f = nobody
read_by_asks decl front t object inv calls r (verdicts.Clash tx site) f = nobody
read_by_asks decl front t object inv calls r (verdicts.Short got need) f = nobody

-- where nothing is done

stays_asks : (decl : Declaration) (t : Option Transaction) (doing : Doing) → IsNumbered doing → AsksIn decl t doing []
stays_asks decl t Idle full = nobody
stays_asks decl None (Reading object inv calls round) full = nobody
stays_asks decl None (Appending object inv event calls round) full = nobody
stays_asks decl (Some t) (Reading object inv calls round) full = inl (refl, full)
stays_asks decl (Some t) (Appending object inv event calls round) full = inl (refl, full)

-- commands

performs_asks : (decl : Declaration) (front : Front) (t : Option Transaction) (object inv : ℕ)
    → MoveAsks decl (moved front quiet) → MoveAsks decl (performs decl front t object inv)
performs_asks decl front None object inv same = same
performs_asks decl front (Some t) object inv same =
    by t.begun.doomed (nat_le most_transaction_operations (length t.begun.ops))
  where
    by : (doomed long : Bool) → MoveAsks decl
        (cond doomed (moved front (telling replies.Doomed))
        (cond long (moved front (telling replies.TooLong))
        (reads decl front t object inv [] (round_for decl front t (read_need_of decl t.begun.epoch object inv)))))
    by true long = same
    by false true = same
    by false false =
        read_by_asks decl front t object inv [] (round_for decl front t (read_need_of decl t.begun.epoch object inv))
        (verdict (round_for decl front t (read_need_of decl t.begun.epoch object inv)))
        (full_at_start (round_for decl front t (read_need_of decl t.begun.epoch object inv)) refl)

begins_asks : (decl : Declaration) (front : Front) (t : Option Transaction) → BegunHolds decl front.client t front.doing
    → MoveAsks decl (moved front quiet) → MoveAsks decl (begins decl front t)
begins_asks decl front (Some t) h same = same
begins_asks decl front None h same = subst
    (λ (d : Doing). AsksIn decl (Some (fresh decl (next_tx front) front.epoch)) d []) (sym h) nobody

decisions_ask : (b : Begun) (sites : List ℕ)
    → AsksNobody (map (λ (site : ℕ). record { to = site; message = messages.Decision b.tx Aborted }) sites)
decisions_ask b [] p among = absurd among
decisions_ask b (s ∷ sites) p (inl same) = ap (λ (q : Posting). is_request q.message) same
decisions_ask b (s ∷ sites) p (inr later) = decisions_ask b sites p later

commits_asks : (decl : Declaration) (front : Front) (t : Option Transaction) → MoveAsks decl (moved front quiet)
    → MoveAsks decl (commits front t)
commits_asks decl front None same = same
commits_asks decl front (Some t) same = by t.begun.doomed
  where
    by : (doomed : Bool) → MoveAsks decl (cond doomed (gives_up front t (replies.Aborted causes.Doomed))
        (moved front quiet))
    by true = decisions_ask t.begun t.begun.asked
    by false = same

aborts_asks : (decl : Declaration) (front : Front) (t : Option Transaction) → MoveAsks decl (moved front quiet)
    → MoveAsks decl (aborts front t)
aborts_asks decl front None same = same
aborts_asks decl front (Some t) same = decisions_ask t.begun t.begun.asked

called_asks : (decl : Declaration) (front : Front) (command : Command) → FrontHolds decl front → IsNumbered front.doing
    → MoveAsks decl (called decl front command)
called_asks decl front commands.Begin h full =
    begins_asks decl front front.transaction h (stays_asks decl front.transaction front.doing full)
called_asks decl front (commands.Do object inv) h full =
    performs_asks decl front front.transaction object inv (stays_asks decl front.transaction front.doing full)
called_asks decl front commands.Commit h full =
    commits_asks decl front front.transaction (stays_asks decl front.transaction front.doing full)
called_asks decl front commands.Abort h full =
    aborts_asks decl front front.transaction (stays_asks decl front.transaction front.doing full)
called_asks decl front (commands.Epoch number) h full = stays_asks decl front.transaction front.doing full

-- answers

learns_asks : (decl : Declaration) (answer : Option Answer) (move : FrontMove) → MoveAsks decl move
    → MoveAsks decl (learned answer move)
learns_asks decl None move h = h
learns_asks decl (Some (answers.Granted grant)) move h = h
learns_asks decl (Some (answers.Clash holder inv event)) move h = h
learns_asks decl (Some (answers.Closed epoch)) move h = h
learns_asks decl (Some (answers.Behind epoch)) move h = h
learns_asks decl (Some (answers.Restarted life)) move h = h
learns_asks decl (Some answers.Stale) move h = h
learns_asks decl (Some answers.Fault) move h = h
learns_asks decl (Some (answers.Yes clock)) move h = h
learns_asks decl (Some (answers.Shut snapshot)) move h = h
learns_asks decl (Some answers.Installed) move h = h
learns_asks decl (Some (answers.Answered verdict)) move h = h

full_after : (calls : List Call) (r : RoundState) (number site : ℕ) (answer : Option Answer)
    → site_called calls number ≡ Some site → AreOpen calls r → IsAwaiting r → AreApart (sites_of r.asked)
    → sites_called calls ≡ awaited r
    → IsFull (without_call calls number) (note r site (standing_of answer))
full_after calls r number site answer called o awaits apart full = record {
  full = note_numbered calls r number site (standing_of answer) o called apart full;
  calm = note_wants r site (standing_of answer) awaits;
}

takes_in_asks : (decl : Declaration) (front : Front) (doing : Doing) (t : Option Transaction) (number : ℕ)
    (answer : Option Answer) → BegunHolds decl front.client t doing → IsNumbered doing
    → MoveAsks decl (moved front quiet)
    → MoveAsks decl (takes_in decl front doing t number answer)
takes_in_asks decl front doing None number answer h full same = same
takes_in_asks decl front Idle (Some t) number answer h full same = same
takes_in_asks decl front (Reading object inv calls round) (Some t) number answer h full same =
    by (site_called calls number) refl
  where
    by : (o : Option ℕ) → site_called calls number ≡ o
        → MoveAsks decl (reading_takes decl front t object inv calls round number answer o)
    by None is = same
    by (Some site) is =
        subst (MoveAsks decl) (sym (read_learns decl front answer (read_with t site object answer) object inv
        (without_call calls number) (note round site (standing_of answer))))
        (learns_asks decl answer (reads decl front (read_with t site object answer) object inv
        (without_call calls number) (note round site (standing_of answer)))
        (read_by_asks decl front (read_with t site object answer) object inv (without_call calls number)
        (note round site (standing_of answer)) (verdict (note round site (standing_of answer)))
        (full_after calls round number site answer is h.1.calls_are h.1.awaits
        (round_apart decl front.client t.begun.epoch
        (read_need_of decl t.begun.epoch object inv) round h.1.round_is) full)))
takes_in_asks decl front (Appending object inv event calls round) (Some t) number answer h full same =
    by (site_called calls number) refl
  where
    by : (o : Option ℕ) → site_called calls number ≡ o
        → MoveAsks decl (appending_takes decl front t object inv event calls round number answer o)
    by None is = same
    by (Some site) is =
        subst (MoveAsks decl) (sym (append_learns decl front answer (appended_with t site answer) object inv event
        (without_call calls number) (note round site (standing_of answer))))
        (learns_asks decl answer (appends decl front (appended_with t site answer) object inv event
        (without_call calls number) (note round site (standing_of answer)))
        (append_by_asks decl front (appended_with t site answer) object inv event (without_call calls number)
        (note round site (standing_of answer)) (verdict (note round site (standing_of answer)))
        (full_after calls round number site answer is h.1.calls_are h.1.awaits
        (round_apart decl front.client t.begun.epoch
        (append_need_of decl t.begun.epoch object event) round h.1.round_is) full)))

takes_asks : (decl : Declaration) (front : Front) (number : ℕ) (answer : Option Answer) → FrontHolds decl front
    → IsNumbered front.doing → MoveAsks decl (takes decl front number answer)
takes_asks decl front number answer h full =
    takes_in_asks decl front front.doing front.transaction number answer h full
    (stays_asks decl front.transaction front.doing full)

-- so one call gives them their numbers

at_once : (decl : Declaration) (move : FrontMove) → FrontHolds decl move.front → MoveAsks decl move
    → AsksAtOnce decl move
at_once decl move h asks = record {
  asks = asks;
  told = λ first. asks_told decl move.front.client move.front.transaction move.front.doing move.front first
      move.turn.sends refl h asks;
  numbered = λ first. asks_numbered decl move.front.client move.front.transaction move.front.doing first move.turn.sends
      h asks;
}

pub commands_ask_at_once : (decl : Declaration) (front : Front) (command : Command) → FrontHolds decl front
    → IsNumbered front.doing → AsksAtOnce decl (called decl front command)
commands_ask_at_once decl front command h full =
    at_once decl (called decl front command) (commands_keep_hold decl front command h)
    (called_asks decl front command h full)

pub answers_ask_at_once : (decl : Declaration) (front : Front) (number : ℕ) (answer : Option Answer)
    → FrontHolds decl front
    → IsNumbered front.doing → AsksAtOnce decl (takes decl front number answer)
answers_ask_at_once decl front number answer h full =
    at_once decl (takes decl front number answer) (answers_keep_hold decl front number answer h)
    (takes_asks decl front number answer h full)

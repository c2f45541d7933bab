-- A front end's turns go to sites, and are short: it asks sites, and tells a verdict to those that it asked.
use Rattle.std.proofs.Common.{◌≡◌, ℕ, ◌<◌, ◌≤◌, nat_le, Bool, true, false, cond, List, [], ◌∷◌, ◌++◌, length, map}
use Rattle.std.proofs.Common.{Option, Some, None, option_map, refl, sym, ap, subst, arith}
use Rattle.std.specs.Prelude.{slice_get}
use Rattle.std.specs.List.{AllByRecursion as Every}
use Rattle.std.proofs.lemmas.List.{length-map}
use Rattle.qc_decl.specs.declared.declaration.Declaration.{Declaration}
use Rattle.qc_decl.specs.Vocabulary.{IsAccepted, append_need_of, most_transaction_operations, read_need_of}
use Rattle.qc_plan.specs.declared.standing.Verdict.{Verdict}
use Rattle.qc_plan.specs.declared.standing.Verdict.TheVariants as verdicts
use Rattle.qc_plan.specs.Vocabulary.{RoundState, note, verdict, wanted}
use Rattle.qc_view.specs.declared.view.View.{View}
use Rattle.qc_view.specs.Vocabulary.{with_log, with_own}
use Rattle.qc_msg.specs.declared.begun.Begun.{Begun}
use Rattle.qc_msg.specs.declared.call.Call.{Call}
use Rattle.qc_msg.specs.declared.message.Answer.{Answer}
use Rattle.qc_msg.specs.declared.message.Answer.TheVariants as answers
use Rattle.qc_msg.specs.declared.message.Message.TheVariants as messages
use Rattle.qc_msg.specs.declared.message.Outcome.{Outcome}
use Rattle.qc_msg.specs.declared.message.Outcome.TheVariants.{Aborted}
use Rattle.qc_msg.specs.declared.message.Want.{Want}
use Rattle.qc_msg.specs.declared.reply.Reply.{Reply}
use Rattle.qc_msg.specs.declared.reply.Reply.TheVariants as replies
use Rattle.qc_msg.specs.declared.reply.AbortCause.TheVariants as causes
use Rattle.qc_msg.specs.declared.step.Command.{Command}
use Rattle.qc_msg.specs.declared.step.Command.TheVariants as commands
use Rattle.qc_msg.specs.declared.turn.Posting.{Posting}
use Rattle.qc_msg.specs.declared.turn.Turn.{Turn}
use Rattle.qc_msg.specs.Vocabulary.{decisions, quiet, site_called, telling, without_call}
use Rattle.qc_front.specs.declared.doing.Doing.{Doing}
use Rattle.qc_front.specs.declared.doing.Doing.TheVariants.{Idle, Reading, Appending}
use Rattle.qc_front.specs.declared.front.Front.{Front}
use Rattle.qc_front.specs.declared.transaction.Transaction.{Transaction}
use Rattle.qc_front.specs.Vocabulary.{BegunHolds, FrontHolds, FrontMove, aborts, answer_of, answered, append_by}
use Rattle.qc_front.specs.Vocabulary.{append_want, appended_with, appending_takes, begins, called, commits, gives_up}
use Rattle.qc_front.specs.Vocabulary.{goes_on, learns, lived, moved, next_own, performs, read_by, read_want, read_with}
use Rattle.qc_front.specs.Vocabulary.{reading_takes, reads, request_of, resp_of, round_for, standing_of, takes}
use Rattle.qc_front.specs.Vocabulary.{takes_in, with_event}
use Rattle.qc_core.proofs.FewSites.{AreSites, few_sites, more_sites}
use Rattle.qc_core.proofs.RoundSites.{RestFits, round_fits, start_fits, wanted_below, wanted_few}
use Rattle.qc_front.proofs.CommandsKeep.{view_keeps}

-- a move sends few messages, to sites; and the sites that its transaction asked are sites

abbrev pub asked_in : Option Transaction → List ℕ
asked_in None = []
asked_in (Some t) = t.begun.asked

pub record Reaches (n : ℕ) (m : FrontMove) : Type 0 where
  pub sends : Every (λ (p : Posting). p.to < n) m.turn.sends
  pub few : length m.turn.sends ≤ n
  pub asked : AreSites n (asked_in m.front.transaction)

tells : (n : ℕ) (front : Front) (turn : Turn) → turn.sends ≡ [] → AreSites n (asked_in front.transaction)
    → Reaches n (moved front turn)
tells n front turn none asked = record {
  sends = subst (Every (λ (p : Posting). p.to < n)) (sym none) tt;
  few = subst (λ (ps : List Posting). length ps ≤ n) (sym none) (omega arith);
  asked = asked;
}

requests_reach : (n : ℕ) (b : Begun) (want : ℕ → Want) (sites : List ℕ) → Every (λ site. site < n) sites
    → Every (λ (p : Posting). p.to < n) (map (request_of b want) sites)
requests_reach n b want [] low = tt
requests_reach n b want (site ∷ sites) low = (low.0, requests_reach n b want sites low.1)

pub verdicts_reach : (n : ℕ) (b : Begun) (v : Outcome) (sites : List ℕ) → Every (λ site. site < n) sites
    → Every (λ (p : Posting). p.to < n) (map (λ site. record { to = site; message = messages.Decision b.tx v }) sites)
verdicts_reach n b v [] low = tt
verdicts_reach n b v (site ∷ sites) low = (low.0, verdicts_reach n b v sites low.1)

pub verdicts_few : (n : ℕ) (b : Begun) (v : Outcome) → AreSites n b.asked → length (decisions b v) ≤ n
verdicts_few n b v are =
    let same : length (decisions b v) ≡ length b.asked =
    length-map b.asked (λ site. record { to = site; message = messages.Decision b.tx v }) in
    let few : length b.asked ≤ n = few_sites n b.asked are in
    omega arith

goes_reaches : (n : ℕ) (front : Front) (t : Transaction) (doing : RoundState → Doing) (want : ℕ → Want) (r : RoundState)
    → AreSites n t.begun.asked → RestFits n r → Reaches n (goes_on front t doing want r)
goes_reaches n front t doing want r are f = record {
  sends = requests_reach n t.begun want (wanted r) (wanted_below n r f);
  few =
      let same : length (map (request_of t.begun want) (wanted r)) ≡ length (wanted r) =
      length-map (wanted r) (request_of t.begun want) in
      let few : length (wanted r) ≤ n = wanted_few n r f in
      omega arith;
  asked = more_sites n t.begun.asked (wanted r) are (wanted_below n r f);
}

gives_reaches : (n : ℕ) (front : Front) (t : Transaction) (reply : Reply) → AreSites n t.begun.asked
    → Reaches n (gives_up front t reply)
gives_reaches n front t reply are = record {
  sends = verdicts_reach n t.begun Aborted t.begun.asked are.below;
  few = verdicts_few n t.begun Aborted are;
  asked = record { below = tt; ascends = tt };
}

-- the asked sites stay, whatever joins the transaction

event_asked : (t : Transaction) (object inv event resp : ℕ)
    → (with_event t object inv event resp).begun.asked ≡ t.begun.asked
event_asked t object inv event resp =
    ap (λ (b : Begun). b.asked) (view_keeps (record t { own = t.own ++ next_own t object event ∷ [] }) object
    (option_map (λ (v : View). with_own v event) (slice_get t.views object)))

read_asked : (t : Transaction) (site object : ℕ) (answer : Option Answer)
    → (read_with t site object answer).begun.asked ≡ t.begun.asked
read_asked t site object None = refl
read_asked t site object (Some (answers.Granted grant)) =
    ap (λ (b : Begun). b.asked) (view_keeps (lived t site grant.life) object
    (option_map (λ (v : View). with_log v grant.log) (slice_get t.views object)))
read_asked t site object (Some (answers.Clash holder inv event)) = refl
read_asked t site object (Some (answers.Closed epoch)) = refl
read_asked t site object (Some (answers.Behind epoch)) = refl
read_asked t site object (Some (answers.Restarted life)) = refl
read_asked t site object (Some answers.Stale) = refl
read_asked t site object (Some answers.Fault) = refl
read_asked t site object (Some (answers.Yes clock)) = refl
read_asked t site object (Some (answers.Shut snapshot)) = refl
read_asked t site object (Some answers.Installed) = refl
read_asked t site object (Some (answers.Answered verdict)) = refl

appended_asked : (t : Transaction) (site : ℕ) (answer : Option Answer)
    → (appended_with t site answer).begun.asked ≡ t.begun.asked
appended_asked t site None = refl
appended_asked t site (Some (answers.Granted grant)) = refl
appended_asked t site (Some (answers.Clash holder inv event)) = refl
appended_asked t site (Some (answers.Closed epoch)) = refl
appended_asked t site (Some (answers.Behind epoch)) = refl
appended_asked t site (Some (answers.Restarted life)) = refl
appended_asked t site (Some answers.Stale) = refl
appended_asked t site (Some answers.Fault) = refl
appended_asked t site (Some (answers.Yes clock)) = refl
appended_asked t site (Some (answers.Shut snapshot)) = refl
appended_asked t site (Some answers.Installed) = refl
appended_asked t site (Some (answers.Answered verdict)) = refl

-- rounds

module _ (decl : Declaration) (accepted : IsAccepted decl) where
  append_reaches : (front : Front) (t : Transaction) (object inv event : ℕ) (calls : List Call) (r : RoundState)
      (v : Verdict) → AreSites decl.sites t.begun.asked → RestFits decl.sites r
      → Reaches decl.sites (append_by decl front t object inv event calls r v)
  append_reaches front t object inv event calls r verdicts.Waiting are f =
      goes_reaches decl.sites front t (Appending object inv event calls) (append_want decl t object event) r are f
  append_reaches front t object inv event calls r verdicts.Met are f =
      tells decl.sites _ (telling (replies.Response (resp_of decl object event))) refl
      (subst (AreSites decl.sites) (sym (event_asked t object inv event (resp_of decl object event))) are)
  append_reaches front t object inv event calls r (verdicts.Closed epoch site) are f = tells decl.sites _ _ refl are
  append_reaches front t object inv event calls r (verdicts.Clash tx site) are f = tells decl.sites _ _ refl are
  append_reaches front t object inv event calls r (verdicts.Short got need) are f = tells decl.sites _ _ refl are

  answered_reaches : (front : Front) (t : Transaction) (object inv : ℕ) (event : Option ℕ)
      → AreSites decl.sites t.begun.asked → Reaches decl.sites (answered decl front t object inv event)
  answered_reaches front t object inv None are = tells decl.sites _ _ refl are
  answered_reaches front t object inv (Some event) are =
      append_reaches front t object inv event []
      (round_for decl front t (append_need_of decl t.begun.epoch object event))
      (verdict (round_for decl front t (append_need_of decl t.begun.epoch object event))) are
      (start_fits decl front.client t.begun.epoch (append_need_of decl t.begun.epoch object event) accepted)

  read_reaches : (front : Front) (t : Transaction) (object inv : ℕ) (calls : List Call) (r : RoundState) (v : Verdict)
      → AreSites decl.sites t.begun.asked → RestFits decl.sites r
      → Reaches decl.sites (read_by decl front t object inv calls r v)
  read_reaches front t object inv calls r verdicts.Waiting are f =
      goes_reaches decl.sites front t (Reading object inv calls) (read_want object inv) r are f
  read_reaches front t object inv calls r verdicts.Met are f =
      answered_reaches front t object inv (answer_of decl t object inv) are
  read_reaches front t object inv calls r (verdicts.Closed epoch site) are f = tells decl.sites _ _ refl are
  read_reaches front t object inv calls r (verdicts.Clash tx site) are f = tells decl.sites _ _ refl are
  read_reaches front t object inv calls r (verdicts.Short got need) are f = tells decl.sites _ _ refl are

  -- commands

  performs_reaches : (front : Front) (o : Option Transaction) (object inv : ℕ)
      → AreSites decl.sites (asked_in front.transaction) → AreSites decl.sites (asked_in o)
      → Reaches decl.sites (performs decl front o object inv)
  performs_reaches front None object inv same are = tells decl.sites front _ refl same
  performs_reaches front (Some t) object inv same are =
      by t.begun.doomed (nat_le most_transaction_operations (length t.begun.ops))
    where
      by : (dead long : Bool) → Reaches decl.sites
          (cond dead (moved front (telling replies.Doomed))
          (cond long (moved front (telling replies.TooLong))
          (reads decl front t object inv [] (round_for decl front t (read_need_of decl t.begun.epoch object inv)))))
      by true long = tells decl.sites front _ refl same
      by false true = tells decl.sites front _ refl same
      by false false =
          read_reaches front t object inv [] (round_for decl front t (read_need_of decl t.begun.epoch object inv))
          (verdict (round_for decl front t (read_need_of decl t.begun.epoch object inv))) are
          (start_fits decl front.client t.begun.epoch (read_need_of decl t.begun.epoch object inv) accepted)

  begins_reaches : (front : Front) (o : Option Transaction) → AreSites decl.sites (asked_in front.transaction)
      → Reaches decl.sites (begins decl front o)
  begins_reaches front None same = tells decl.sites _ _ refl (record { below = tt; ascends = tt })
  begins_reaches front (Some t) same = tells decl.sites front _ refl same

  commits_reaches : (front : Front) (o : Option Transaction) → AreSites decl.sites (asked_in front.transaction)
      → AreSites decl.sites (asked_in o) → Reaches decl.sites (commits front o)
  commits_reaches front None same are = tells decl.sites front _ refl same
  commits_reaches front (Some t) same are = by t.begun.doomed
    where
      by : (dead : Bool) → Reaches decl.sites (cond dead (gives_up front t (replies.Aborted causes.Doomed))
          (moved front quiet))
      by true = gives_reaches decl.sites front t (replies.Aborted causes.Doomed) are
      by false = tells decl.sites front quiet refl same

  aborts_reaches : (front : Front) (o : Option Transaction) → AreSites decl.sites (asked_in front.transaction)
      → AreSites decl.sites (asked_in o) → Reaches decl.sites (aborts front o)
  aborts_reaches front None same are = tells decl.sites front _ refl same
  aborts_reaches front (Some t) same are = gives_reaches decl.sites front t replies.Dropped are

  pub called_reaches : (front : Front) (command : Command) → AreSites decl.sites (asked_in front.transaction)
      → Reaches decl.sites (called decl front command)
  called_reaches front commands.Begin are = begins_reaches front front.transaction are
  called_reaches front (commands.Do object inv) are = performs_reaches front front.transaction object inv are are
  called_reaches front commands.Commit are = commits_reaches front front.transaction are are
  called_reaches front commands.Abort are = aborts_reaches front front.transaction are are
  called_reaches front (commands.Epoch number) are = tells decl.sites front quiet refl are

  -- answers

  takes_in_reaches : (front : Front) (doing : Doing) (o : Option Transaction) (number : ℕ) (answer : Option Answer)
      → BegunHolds decl front.client o doing → AreSites decl.sites (asked_in front.transaction)
      → AreSites decl.sites (asked_in o)
      → Reaches decl.sites (takes_in decl front doing o number answer)
  takes_in_reaches front doing None number answer h same are = tells decl.sites front quiet refl same
  takes_in_reaches front Idle (Some t) number answer h same are = tells decl.sites front quiet refl same
  takes_in_reaches front (Reading object inv calls round) (Some t) number answer h same are =
      by (site_called calls number)
    where
      by : (o : Option ℕ) → Reaches decl.sites (reading_takes decl front t object inv calls round number answer o)
      by None = tells decl.sites front quiet refl same
      by (Some site) =
          read_reaches (learns front answer) (read_with t site object answer) object inv (without_call calls number)
          (note round site (standing_of answer)) (verdict (note round site (standing_of answer)))
          (subst (AreSites decl.sites) (sym (read_asked t site object answer)) are)
          (record {
            below = (round_fits decl front.client t.begun.epoch
                (read_need_of decl t.begun.epoch object inv) round accepted h.1.round_is).below;
            few = (round_fits decl front.client t.begun.epoch
                (read_need_of decl t.begun.epoch object inv) round accepted h.1.round_is).few;
          })
  takes_in_reaches front (Appending object inv event calls round) (Some t) number answer h same are =
      by (site_called calls number)
    where
      by : (o : Option ℕ) → Reaches decl.sites
          (appending_takes decl front t object inv event calls round number answer o)
      by None = tells decl.sites front quiet refl same
      by (Some site) =
          append_reaches (learns front answer) (appended_with t site answer) object inv event
          (without_call calls number) (note round site (standing_of answer))
          (verdict (note round site (standing_of answer)))
          (subst (AreSites decl.sites) (sym (appended_asked t site answer)) are)
          (record {
            below = (round_fits decl front.client t.begun.epoch
                (append_need_of decl t.begun.epoch object event) round accepted h.1.round_is).below;
            few = (round_fits decl front.client t.begun.epoch
                (append_need_of decl t.begun.epoch object event) round accepted h.1.round_is).few;
          })

  pub takes_reaches : (front : Front) (number : ℕ) (answer : Option Answer) → FrontHolds decl front
      → AreSites decl.sites (asked_in front.transaction) → Reaches decl.sites (takes decl front number answer)
  takes_reaches front number answer h are = takes_in_reaches front front.doing front.transaction number answer h are are

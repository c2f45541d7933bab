-- Requests go to sites and name what is declared: of a front end, whatever it takes.
use Rattle.std.proofs.Common.{◌≡◌, ℕ, ◌-◌, ◌%◌, ◌<◌, ◌≤◌, ◌==◌, ◌&&◌, nat_le, nat_lt, Bool, true, false, cond, List, []}
use Rattle.std.proofs.Common.{◌∷◌, map, length, Option, Some, None, is_some, slice_get, refl, sym, ap, ◌∙◌, subst}
use Rattle.std.proofs.Common.{arith}
use Rattle.std.specs.List.{AllByRecursion as Every}
use Rattle.std.specs.Option.{option_map_or}
use Rattle.std.specs.Prelude.{MatchOption}
use Rattle.std.specs.Bool.{MatchBool}
use Rattle.std.proofs.lemmas.Bool.{lt-ltb}
use Rattle.qc_decl.specs.declared.declaration.Declaration.{Declaration}
use Rattle.qc_decl.specs.Vocabulary.{IsAccepted, append_need_of, first_site, kind_at, most_transaction_operations}
use Rattle.qc_decl.specs.Vocabulary.{plan_in, read_need_of}
use Rattle.qc_plan.specs.declared.plan.Plan.{Plan}
use Rattle.qc_plan.specs.Vocabulary.{RoundState, cyclic, note, verdict, wanted}
use Rattle.qc_plan.specs.declared.standing.Verdict.{Verdict}
use Rattle.qc_plan.specs.declared.standing.Verdict.TheVariants as verdicts
use Rattle.qc_stamp.specs.declared.stamp.TxId.{TxId}
use Rattle.qc_msg.specs.declared.begun.Begun.{Begun}
use Rattle.qc_msg.specs.declared.call.Call.{Call}
use Rattle.qc_msg.specs.declared.message.Answer.{Answer}
use Rattle.qc_msg.specs.declared.message.Message.{Message}
use Rattle.qc_msg.specs.declared.message.Message.TheVariants as messages
use Rattle.qc_msg.specs.declared.message.Outcome.{Outcome}
use Rattle.qc_msg.specs.declared.message.Outcome.TheVariants.{Aborted}
use Rattle.qc_msg.specs.declared.message.Want.{Want}
use Rattle.qc_msg.specs.declared.reply.Reply.{Reply}
use Rattle.qc_msg.specs.declared.reply.Reply.TheVariants as replies
use Rattle.qc_msg.specs.declared.reply.AbortCause.TheVariants as causes
use Rattle.qc_msg.specs.declared.step.Command.{Command}
use Rattle.qc_msg.specs.declared.turn.Posting.{Posting}
use Rattle.qc_msg.specs.Vocabulary.{decisions, quiet, site_called, telling, without_call, Requested, request_in}
use Rattle.qc_msg.specs.Vocabulary.{wants_answer}
use Rattle.qc_front.specs.declared.doing.Doing.{Doing}
use Rattle.qc_front.specs.declared.doing.Doing.TheVariants.{Idle, Reading, Appending}
use Rattle.qc_front.specs.declared.front.Front.{Front}
use Rattle.qc_front.specs.declared.transaction.Transaction.{Transaction}
use Rattle.qc_front.specs.Vocabulary.{FrontMove, aborts, answer_of, answered, append_by, append_want, appended_with}
use Rattle.qc_front.specs.Vocabulary.{begins, gives_up, learns, moved as front_moved, performs, read_by, read_want}
use Rattle.qc_front.specs.Vocabulary.{read_with, reads, request_of, round_for, standing_of, weights_of}
use Rattle.qc_front.specs.Conduct as fronts
use Rattle.qc_site.specs.Vocabulary.{names_declared}
use Rattle.laws_turns.proofs.DeclaredSites.{AreSites, asking_rest, sites_cyclic, sites_filter, wanted_sites}
use Rattle.laws_turns.proofs.OwnFronts.{IsOwnTransaction, OwnFront}
use Rattle.laws_turns.specs.Vocabulary.{IsAskable}
use Rattle.laws_turns.proofs.ClientCases.{front_cases}
use Rattle.laws_turns.proofs.OwnFronts.{read-name, appended-name}
use Rattle.qc_list.proofs.Booleans.{if_two}

-- a request goes to a site, and names a client and an object that are declared; nobody sends an Ask, a Close, an
-- Install
abbrev pub IsProper : Declaration → ℕ → Message → Type 0
IsProper decl to m =
    MatchOption (request_in m) (MatchBool (wants_answer m) ⊥ (Unit {0}))
    (λ (q : Requested). (to < decl.sites) × (names_declared decl q.tx q.want ≡ true))

abbrev pub AreProper : Declaration → List Posting → Type 0
AreProper decl ps = Every (λ (p : Posting). IsProper decl p.to p.message) ps

pub decisions_proper : (decl : Declaration) (b : Begun) (v : Outcome) → AreProper decl (decisions b v)
decisions_proper decl b v = over b.asked
  where
    over : (asked : List ℕ) → AreProper decl
        (map (λ (site : ℕ). record { to = site; message = messages.Decision b.tx v }) asked)
    over [] = tt
    over (site ∷ asked) = (tt, over asked)

-- what runs is asked of sites, of a declared object
abbrev pub IsSited : Declaration → Doing → Type 0
IsSited decl Idle = Unit {0}
IsSited decl (Reading object inv calls round) = (is_some (kind_at decl object) ≡ true) × AreSites decl round.rest
IsSited decl (Appending object inv event calls round) = (is_some (kind_at decl object) ≡ true)
    × AreSites decl round.rest

pub record IsGood (decl : Declaration) (m : FrontMove) : Type 0 where
  pub doing : IsSited decl m.front.doing
  pub sends : AreProper decl m.turn.sends

module _ (decl : Declaration) (accepted : IsAccepted decl) (k : ℕ) (within : k < decl.clients) where
  few_weights : (epoch : ℕ) (o : Option Plan) → plan_in decl epoch ≡ o
      → length (option_map_or (λ (p : Plan). p.weights) o []) ≤ decl.sites
  few_weights epoch None is = omega arith
  few_weights epoch (Some p) is = at (epoch == 0) is
    where
      at : (t : Bool) → cond t None (slice_get decl.plans (epoch - 1)) ≡ Some p → length p.weights ≤ decl.sites
      at true never = absurd (let no : ⊥ = cc in no)
      at false there = let same : length p.weights ≡ decl.sites = (accepted.good (epoch - 1) p there).weights in
          omega arith

  round_sites : (front : Front) (t : Transaction) (need : ℕ) → AreSites decl (round_for decl front t need).rest
  round_sites front t need =
      let some : 0 < decl.sites = accepted.has_site in
      sites_filter decl _ (cyclic (length (weights_of decl t.begun.epoch)) (first_site decl front.client))
      (sites_cyclic decl (length (weights_of decl t.begun.epoch)) (first_site decl front.client)
      (few_weights t.begun.epoch (plan_in decl t.begun.epoch) refl)
      (let low : front.client % decl.sites < decl.sites = omega arith in omega arith))

  -- requests

  names_both : (tx : TxId) (t : Bool) → tx.client ≡ k → t ≡ true → (nat_lt tx.client decl.clients && t) ≡ true
  names_both tx t own is = λ i. lt-ltb tx.client decl.clients (subst (λ (n : ℕ). n < decl.clients) (sym own) within) i
      && is i

  requests_proper : (b : Begun) (want : ℕ → Want) (sites : List ℕ)
      → ((site : ℕ) → names_declared decl b.tx (want site) ≡ true) → AreSites decl sites
      → AreProper decl (map (request_of b want) sites)
  requests_proper b want [] names all = tt
  requests_proper b want (s ∷ sites) names all = ((all.0, names s), requests_proper b want sites names all.1)

  -- rounds

  append_good : (next : Front) (t : Transaction) (object inv event : ℕ) (calls : List Call) (round : RoundState)
      (v : Verdict) → t.begun.tx.client ≡ k → is_some (kind_at decl object) ≡ true → AreSites decl round.rest
      → IsGood decl (append_by decl next t object inv event calls round v)
  append_good next t object inv event calls round verdicts.Waiting own is rest = record {
    doing = (is, asking_rest decl round (wanted round) rest);
    sends = requests_proper t.begun (append_want decl t object event) (wanted round)
        (λ site. names_both t.begun.tx (is_some (kind_at decl object)) own is) (wanted_sites decl round rest);
  }
  append_good next t object inv event calls round verdicts.Met own is rest = record { doing = tt; sends = tt }
  append_good next t object inv event calls round (verdicts.Closed epoch site) own is rest =
      record { doing = tt; sends = tt }
  append_good next t object inv event calls round (verdicts.Clash tx site) own is rest =
      record { doing = tt; sends = tt }
  append_good next t object inv event calls round (verdicts.Short got need) own is rest =
      record { doing = tt; sends = tt }

  answered_good : (next : Front) (t : Transaction) (object inv : ℕ) (o : Option ℕ) → t.begun.tx.client ≡ k
      → is_some (kind_at decl object) ≡ true → IsGood decl (answered decl next t object inv o)
  answered_good next t object inv None own is = record { doing = tt; sends = tt }
  answered_good next t object inv (Some event) own is =
      append_good next t object inv event [] (round_for decl next t (append_need_of decl t.begun.epoch object event))
      (verdict (round_for decl next t (append_need_of decl t.begun.epoch object event))) own is
      (round_sites next t (append_need_of decl t.begun.epoch object event))

  read_good : (next : Front) (t : Transaction) (object inv : ℕ) (calls : List Call) (round : RoundState) (v : Verdict)
      → t.begun.tx.client ≡ k → is_some (kind_at decl object) ≡ true → AreSites decl round.rest
      → IsGood decl (read_by decl next t object inv calls round v)
  read_good next t object inv calls round verdicts.Waiting own is rest = record {
    doing = (is, asking_rest decl round (wanted round) rest);
    sends = requests_proper t.begun (read_want object inv) (wanted round)
        (λ site. names_both t.begun.tx (is_some (kind_at decl object)) own is) (wanted_sites decl round rest);
  }
  read_good next t object inv calls round verdicts.Met own is rest =
      answered_good next t object inv (answer_of decl t object inv) own is
  read_good next t object inv calls round (verdicts.Closed epoch site) own is rest = record { doing = tt; sends = tt }
  read_good next t object inv calls round (verdicts.Clash tx site) own is rest = record { doing = tt; sends = tt }
  read_good next t object inv calls round (verdicts.Short got need) own is rest = record { doing = tt; sends = tt }

  -- commands

  stays : (front : Front) (turn_told : Reply) → IsSited decl front.doing
      → IsGood decl (front_moved front (telling turn_told))
  stays front turn_told sited = record { doing = sited; sends = tt }

  performs_good : (front : Front) (o : Option Transaction) (object inv : ℕ) → IsOwnTransaction k o
      → is_some (kind_at decl object) ≡ true → IsSited decl front.doing → IsGood decl (performs decl front o object inv)
  performs_good front None object inv own is sited = stays front replies.NoTransaction sited
  performs_good front (Some t) object inv own is sited =
      if_two (IsGood decl) t.begun.doomed (front_moved front (telling replies.Doomed)) _
      (stays front replies.Doomed sited)
      (if_two (IsGood decl) (nat_le most_transaction_operations (length t.begun.ops))
      (front_moved front (telling replies.TooLong))
      (reads decl front t object inv [] (round_for decl front t (read_need_of decl t.begun.epoch object inv)))
      (stays front replies.TooLong sited)
      (read_good front t object inv [] (round_for decl front t (read_need_of decl t.begun.epoch object inv))
      (verdict (round_for decl front t (read_need_of decl t.begun.epoch object inv))) own is
      (round_sites front t (read_need_of decl t.begun.epoch object inv))))

  begins_good : (front : Front) (o : Option Transaction) → IsSited decl front.doing → IsGood decl (begins decl front o)
  begins_good front None sited = record { doing = sited; sends = tt }
  begins_good front (Some t) sited = record { doing = sited; sends = tt }

  gives_good : (front : Front) (t : Transaction) (reply : Reply) → IsGood decl (gives_up front t reply)
  gives_good front t reply = record { doing = tt; sends = decisions_proper decl t.begun Aborted }

  commits_good : (front : Front) (o : Option Transaction) → IsSited decl front.doing
      → IsGood decl (fronts.commits front o)
  commits_good front None sited = stays front replies.NoTransaction sited
  commits_good front (Some t) sited = if_two (IsGood decl) t.begun.doomed
      (gives_up front t (replies.Aborted causes.Doomed)) (front_moved front quiet)
      (gives_good front t (replies.Aborted causes.Doomed)) (record { doing = sited; sends = tt })

  aborts_good : (front : Front) (o : Option Transaction) → IsSited decl front.doing → IsGood decl (aborts front o)
  aborts_good front None sited = record { doing = sited; sends = tt }
  aborts_good front (Some t) sited = gives_good front t replies.Dropped

  pub called_good : (a : ℕ) (front : Front) (command : Command) → IsAskable decl a command → OwnFront k front
      → IsSited decl front.doing → IsGood decl (fronts.called decl front command)
  called_good a front command is own sited =
      front_cases decl front (λ command m. IsAskable decl a command → IsGood decl m)
      (λ is. begins_good front front.transaction sited)
      (λ object inv is. performs_good front front.transaction object inv own.begun is sited)
      (λ is. commits_good front front.transaction sited) (λ is. aborts_good front front.transaction sited)
      (λ number is. record { doing = sited; sends = tt }) command is

  -- answers, and requests that are lost

  module _ (front : Front) (number : ℕ) (answer : Option Answer) (sited : IsSited decl front.doing) where
    aside : IsGood decl (front_moved front quiet)
    aside = record { doing = sited; sends = tt }

    reading_good : (t : Transaction) (object inv : ℕ) (calls : List Call) (round : RoundState) (o : Option ℕ)
        → t.begun.tx.client ≡ k → is_some (kind_at decl object) ≡ true → AreSites decl round.rest
        → IsGood decl (fronts.reading_takes decl front t object inv calls round number answer o)
    reading_good t object inv calls round None own is rest = aside
    reading_good t object inv calls round (Some site) own is rest =
        read_good (learns front answer) (read_with t site object answer) object inv (without_call calls number)
        (note round site (standing_of answer)) (verdict (note round site (standing_of answer)))
        (ap (λ (tx : TxId). tx.client) (read-name t site object answer) ∙ own) is rest

    appending_good : (t : Transaction) (object inv event : ℕ) (calls : List Call) (round : RoundState) (o : Option ℕ)
        → t.begun.tx.client ≡ k → is_some (kind_at decl object) ≡ true → AreSites decl round.rest
        → IsGood decl (fronts.appending_takes decl front t object inv event calls round number answer o)
    appending_good t object inv event calls round None own is rest = aside
    appending_good t object inv event calls round (Some site) own is rest =
        append_good (learns front answer) (appended_with t site answer) object inv event (without_call calls number)
        (note round site (standing_of answer)) (verdict (note round site (standing_of answer)))
        (ap (λ (tx : TxId). tx.client) (appended-name t site answer) ∙ own) is rest

    in_good : (doing : Doing) (o : Option Transaction) → IsOwnTransaction k o → IsSited decl doing
        → IsGood decl (fronts.takes_in decl front doing o number answer)
    in_good doing None own is = aside
    in_good Idle (Some t) own is = aside
    in_good (Reading object inv calls round) (Some t) own is =
        reading_good t object inv calls round (site_called calls number) own is.0 is.1
    in_good (Appending object inv event calls round) (Some t) own is =
        appending_good t object inv event calls round (site_called calls number) own is.0 is.1

    pub takes_good : OwnFront k front → IsGood decl (fronts.takes decl front number answer)
    takes_good own = in_good front.doing front.transaction own.begun sited

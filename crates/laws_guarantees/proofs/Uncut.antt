-- In a run without falls no site closes an epoch or begins one: so all that it holds was granted since its first day.
use Rattle.std.proofs.Common.{◌≡◌, ◌≤◌, ◌<◌, ◌||◌, ℕ, ◌+◌, ◌-◌, nat_lt, arith, Bool, true, false, List, [], ◌∷◌, ◌++◌}
use Rattle.std.proofs.Common.{Option, Some, None, slice_get, refl, sym, ap, ◌∙◌, subst, ltb-true}
use Rattle.std.specs.Prelude.{fold, is_some}
use Rattle.std.specs.List.{AllByRecursion as Every}
use Rattle.std.specs.Option.{option_map_or}
use Rattle.std.proofs.lemmas.Bool.{ltb-false}
use Rattle.std.proofs.lemmas.List.Sums.{fold-append}
use Rattle.qc_stamp.specs.declared.stamp.TxId.{TxId}
use Rattle.qc_list.specs.Vocabulary.{In}
use Rattle.qc_list.proofs.Members.{every-In, every-from_In, every-front, every-back}
use Rattle.qc_core.specs.Vocabulary.{Acts, AreSteady, IsLawful, IsSteady, posts, starts, takes}
use Rattle.qc_core.proofs.SiteHolds.{AreNoCuts, uncut}
use Rattle.qc_decl.specs.Vocabulary.{IsAccepted, actors, administrator, client_actor, is_site}
use Rattle.qc_decl.specs.declared.declaration.Declaration.{Declaration}
use Rattle.qc_lock.specs.declared.held.Held.{Held}
use Rattle.qc_msg.specs.declared.message.Envelope.{Envelope}
use Rattle.qc_msg.specs.declared.message.Message.{Message}
use Rattle.qc_msg.specs.declared.message.Message.TheVariants as messages
use Rattle.qc_msg.specs.declared.message.Outcome.{Outcome}
use Rattle.qc_msg.specs.declared.message.Outcome.TheVariants.{Committed, Aborted, Active}
use Rattle.qc_msg.specs.declared.message.Want.{Want}
use Rattle.qc_msg.specs.declared.message.Want.TheVariants.{Read, Append, Prepare}
use Rattle.qc_msg.specs.declared.record.Record.{Record}
use Rattle.qc_msg.specs.declared.record.Record.TheVariants as records
use Rattle.qc_msg.specs.declared.reply.Reply.{Reply}
use Rattle.qc_msg.specs.declared.step.Input.{Input}
use Rattle.qc_msg.specs.declared.step.Input.TheVariants as inputs
use Rattle.qc_msg.specs.declared.turn.Posting.{Posting}
use Rattle.qc_msg.specs.declared.turn.Turn.{Turn}
use Rattle.qc_msg.specs.Vocabulary.{Deed, Entry, Falls, Rises, Sends, Takes, Tells, Writes, close_in, deeds, install_in}
use Rattle.qc_msg.specs.Vocabulary.{mail, quiet, sends_of, tells_of, turn_deeds}
use Rattle.qc_promise.specs.Vocabulary.{Account, AreDeedsDue, AreRepliesDue, Grant, Holding, IsDeedDue, account_at}
use Rattle.qc_promise.specs.Vocabulary.{cuts, held_of_promises, held_shown, holding, new_account, prepared_shown}
use Rattle.qc_promise.specs.Vocabulary.{standing}
use Rattle.qc_script.specs.Vocabulary.{IsScriptFor, Runs}
use Rattle.qc_script.specs.declared.script.Script.{Script}
use Rattle.qc_site.proofs.RequestCases.{append_cases, join_cases, prepare_cases, read_cases, request_cases}
use Rattle.qc_site.specs.Vocabulary.{SiteMove, SiteState, finishes, grants, moved, new_site, passed, site_after}
use Rattle.qc_site.specs.Vocabulary.{site_at, site_does, site_takes}
use Rattle.laws_turns.specs.Vocabulary.{ActsIn, AsksDeclared}
use Rattle.laws_turns.proofs.Acted.{has_entry, actors_take_and_post_by_turns}
use Rattle.laws_turns.proofs.Idle.{IsInput, idle}
use Rattle.laws_turns.proofs.Proper.{run_proper}
use Rattle.laws_turns.proofs.Served.{lawful_site}
use Rattle.laws_turns.proofs.SiteReplies.{IsProperFrom}
use Rattle.laws_turns.proofs.Up.{run_up}
use Rattle.laws_due.proofs.AccountDeclared.{scripts_ask_what_is_declared}
use Rattle.laws_due.proofs.Whole.{runs_are_due}
use Rattle.laws_atomic.proofs.FirstSites.{IsCalmGiven, IsCalmMessage, TakesCalm}
use Rattle.laws_atomic.proofs.Stood.{heard_calm}
use Rattle.laws_guarantees.proofs.Opened.{IsAtTake, at_take}
use Rattle.laws_guarantees.proofs.SiteCases.{site_cases}
use Rattle.laws_atomic.proofs.Heard.{took_sent}

-- a record that neither closes an epoch nor begins one

abbrev IsNoCut : Option Record → Type 0
IsNoCut w = option_map_or (λ (r : Record). is_some (close_in r) || is_some (install_in r)) w false ≡ false

more_uncut : (xs ys : List Deed) → AreNoCuts xs → AreNoCuts ys → AreNoCuts (xs ++ ys)
more_uncut [] ys first second = second
more_uncut (x ∷ xs) ys first second = (first.0, more_uncut xs ys first.1 second)

told_uncut : (reply : Option Reply) → AreNoCuts (tells_of reply)
told_uncut None = tt
told_uncut (Some reply) = (refl, tt)

sends_uncut : (n : ℕ) (ps : List Posting) (more : List Deed) → AreNoCuts more → AreNoCuts (sends_of n ps ++ more)
sends_uncut n [] more rest = rest
sends_uncut n (p ∷ ps) more rest = (refl, sends_uncut (n + 1) ps more rest)

turn_uncut : (n : ℕ) (turn : Turn) → IsNoCut turn.write → AreNoCuts (turn_deeds n turn)
turn_uncut n turn none = by turn.write none
  where
    talk : AreNoCuts (sends_of n turn.sends ++ tells_of turn.told)
    talk = sends_uncut n turn.sends (tells_of turn.told) (told_uncut turn.told)

    by : (w : Option Record) → IsNoCut w → AreNoCuts (turn_deeds n (record turn { write = w }))
    by None none = talk
    by (Some r) none = (none, talk)

module _ (decl : Declaration) where
  -- the turn of a site for an input that is neither a Close nor an Install

  abbrev HasNoCut : SiteMove → Type 0
  HasNoCut m = IsNoCut m.turn.write

  request_uncut : (s : SiteState) (from number : ℕ) (tx : TxId) (epoch life : ℕ) (want : Want)
      → HasNoCut (site_at decl s from number (messages.Request tx epoch life want))
  request_uncut s from number tx epoch life want =
      request_cases HasNoCut decl s from number tx epoch life want refl (λ fault is. refl) (λ is. by want)
    where
      by : (w : Want) → HasNoCut (grants decl s from number tx w)
      by (Read read) = read_cases HasNoCut decl s from number tx read (λ free. refl) (λ c clash. refl)
      by (Append object view own) = append_cases HasNoCut decl s from number tx object view own (λ free. refl)
          (λ c clash. refl)
      by Prepare = prepare_cases HasNoCut s from number tx refl (λ held stands. refl) (λ held made. refl)

  outcome_uncut : (s : SiteState) (tx : TxId) (verdict : Outcome) → HasNoCut (finishes s tx verdict)
  outcome_uncut s tx (Committed stamp) = join_cases HasNoCut s tx stamp (λ none. refl) (λ p some. refl)
  outcome_uncut s tx Aborted = refl
  outcome_uncut s tx Active = refl

  message_uncut : (s : SiteState) (from number : ℕ) (m : Message) → IsCalmMessage m
      → HasNoCut (site_at decl s from number m)
  message_uncut s from number m = site_cases decl s from number (λ m move. IsCalmMessage m → HasNoCut move)
      (λ m calm. refl) (λ tx epoch life want calm. request_uncut s from number tx epoch life want)
      (λ tx verdict calm. outcome_uncut s tx verdict) (λ epoch calm. absurd calm)
      (λ epoch clock log calm. absurd calm) m

  input_uncut : (s : SiteState) (g : Input) → IsCalmGiven g → HasNoCut (site_takes decl s g)
  input_uncut s (inputs.Called command) calm = refl
  input_uncut s (inputs.Got e) calm = message_uncut (passed s e.message) e.from e.number e.message calm
  input_uncut s (inputs.Lost number) calm = refl

  module _ (a : ℕ) (site : is_site decl a ≡ true) where
    open_uncut : (ds : List Deed) → Every TakesCalm ds → IsAtTake decl a ds → HasNoCut (site_after decl a ds)
    open_uncut ds calm t =
        subst HasNoCut (sym (ap (site_after decl a) t.is
        ∙ fold-append (site_does decl) (moved (new_site a) quiet) t.before (Takes t.given ∷ [])))
        (input_uncut (site_after decl a t.before).site t.given
        (every-back TakesCalm t.before (Takes t.given ∷ []) (subst (Every TakesCalm) t.is calm)).0)

    acts_uncut : (ds : List Deed) (is_open : Bool) (n : ℕ) → Acts decl a ds is_open n → Every TakesCalm ds
        → AreNoCuts ds
    acts_uncut ds is_open n starts calm = tt
    acts_uncut ds is_open n (takes older g m acts may) calm =
        more_uncut older (Takes g ∷ [])
        (acts_uncut older false m acts (every-front TakesCalm older (Takes g ∷ []) calm))
        (refl, tt)
    acts_uncut ds is_open n (posts older turn m first acts low law) calm =
        let before : Every TakesCalm older = every-front TakesCalm older (turn_deeds first turn) calm in
        more_uncut older (turn_deeds first turn) (acts_uncut older true m acts before)
        (turn_uncut first turn
        (subst (λ (t : Turn). IsNoCut t.write) (sym (lawful_site decl a site older turn law))
        (open_uncut older before (at_take decl a older true m acts))))

  -- the deeds of a client that are due

  deed_uncut : (d : Account) (x : Deed) (after : List Deed) → IsSteady x → IsDeedDue decl d x after → cuts x ≡ false
  deed_uncut d (Takes g) after steady due = refl
  deed_uncut d (Writes records.Life) after steady due = refl
  deed_uncut d (Writes (records.Prepare prepared)) after steady due = absurd due
  deed_uncut d (Writes (records.Done tx clock)) after steady due = absurd due
  deed_uncut d (Writes (records.Close epoch)) after steady due = absurd due
  deed_uncut d (Writes (records.Install start)) after steady due = absurd due
  deed_uncut d (Writes (records.Commit commit)) after steady due = refl
  deed_uncut d (Writes (records.Decide start)) after steady due = absurd due
  deed_uncut d (Sends number to message) after steady due = refl
  deed_uncut d (Tells reply) after steady due = refl
  deed_uncut d (Falls cause pending) after steady due = absurd steady
  deed_uncut d (Rises kept) after steady due = absurd steady

  due_uncut : (d : Account) (ds : List Deed) → AreSteady ds → AreDeedsDue decl d ds → AreNoCuts ds
  due_uncut d [] steady due = tt
  due_uncut d (x ∷ ds) steady due = (
    deed_uncut d x ds steady.0 due.0,
    due_uncut (account_at decl d x) ds steady.1 due.1,
  )

module _ (decl : Declaration) (script : Script) (accepted : IsAccepted decl) (asks : AsksDeclared decl script)
    (h : List Entry) (open_inputs : List Bool) (run : Runs (IsLawful decl) decl script h open_inputs) where
  calm_deed : (a : ℕ) (d : Deed) → In d (deeds a [] h) → TakesCalm d
  calm_deed a (Takes (inputs.Called command)) among = tt
  calm_deed a (Takes (inputs.Got e)) among =
      heard_calm decl e.from e.to e.message
      (every-In (λ (x : Envelope). IsProperFrom decl x.from x.to x.message) e (mail h)
      (run_proper decl script accepted asks h open_inputs run) (took_sent a [] h e among))
  calm_deed a (Takes (inputs.Lost number)) among = tt
  calm_deed a (Writes written) among = tt
  calm_deed a (Sends number to message) among = tt
  calm_deed a (Tells reply) among = tt
  calm_deed a (Falls cause pending) among = tt
  calm_deed a (Rises kept) among = tt

  -- no input of a run without falls is a Close or an Install
  pub calm_deeds : (a : ℕ) → Every TakesCalm (deeds a [] h)
  calm_deeds a = every-from_In TakesCalm (deeds a [] h) (λ d among. calm_deed a d among)

module _ (decl : Declaration) (script : Script) (accepted : IsAccepted decl) (sound : IsScriptFor decl script)
    (h : List Entry) (open_inputs : List Bool) (run : Runs (IsLawful decl) decl script h open_inputs) where
  site_uncut : (a : ℕ) → is_site decl a ≡ true → AreNoCuts (deeds a [] h)
  site_uncut a site = on (has_entry (IsLawful decl) decl script h open_inputs run a low)
    where
      low : a < actors decl
      low = let within : a < decl.sites = ltb-true a decl.sites site in omega arith

      on : (t : Bool) × (slice_get open_inputs a ≡ Some t) → AreNoCuts (deeds a [] h)
      on place =
          let acts : ActsIn decl a h place.0 =
          actors_take_and_post_by_turns decl script h open_inputs run a place.0 place.1 in
          acts_uncut decl a site (deeds a [] h) place.0 acts.above acts.acts
          (calm_deeds decl script accepted (scripts_ask_what_is_declared decl script accepted sound) h open_inputs run
          a)

  client_uncut : (a : ℕ) → decl.sites ≤ a → a < administrator decl → AreNoCuts (deeds a [] h)
  client_uncut a high low =
      let place : client_actor decl (a - decl.sites) ≡ a = omega arith in
      let within : a - decl.sites < decl.clients = omega arith in
      let due : AreRepliesDue decl (a - decl.sites) (deeds (client_actor decl (a - decl.sites)) [] h) =
      (runs_are_due decl script h open_inputs run accepted
      (scripts_ask_what_is_declared decl script accepted sound)).replies
      (a - decl.sites) within in
      due_uncut decl (new_account (a - decl.sites)) (deeds a [] h)
      (run_up (IsLawful decl) decl script h open_inputs run a)
      (subst (λ (k : ℕ). AreDeedsDue decl (new_account (a - decl.sites)) (deeds k [] h)) place due)

  idle_uncut : (ds : List Deed) → Every IsInput ds → AreNoCuts ds
  idle_uncut [] all = tt
  idle_uncut (Takes given ∷ ds) all = (refl, idle_uncut ds all.1)
  idle_uncut (Writes written ∷ ds) all = absurd all.0
  idle_uncut (Sends number to message ∷ ds) all = absurd all.0
  idle_uncut (Tells reply ∷ ds) all = absurd all.0
  idle_uncut (Falls cause pending ∷ ds) all = absurd all.0
  idle_uncut (Rises kept ∷ ds) all = absurd all.0

  never_cut : (a : ℕ) → AreNoCuts (deeds a [] h)
  never_cut a = by (nat_lt a (administrator decl)) (is_site decl a) refl refl
    where
      by : (low site : Bool) → nat_lt a (administrator decl) ≡ low → is_site decl a ≡ site → AreNoCuts (deeds a [] h)
      by true true low site = site_uncut a site
      by true false low other = client_uncut a (ltb-false a decl.sites other) (ltb-true a (administrator decl) low)
      by false site past is = idle_uncut (deeds a [] h)
          (idle decl a (ltb-false a (administrator decl) past) script h open_inputs run)

  -- what is held was granted since the first day
  pub held_from_first : (a : ℕ) → held_shown (deeds a [] h) ≡ fold
      (λ (held : List Held) (k : Grant). holding held k.tx k.want) [] (standing (deeds a [] h))
  held_from_first a =
      ap (λ (c : Holding). fold (λ (held : List Held) (k : Grant). holding held k.tx k.want)
      (held_of_promises c.since (prepared_shown c.before)) (standing c.since))
      (uncut (record { before = []; since = [] }) (deeds a [] h) (never_cut a))

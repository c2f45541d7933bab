-- Only a transaction's own client asks for it and tells its end. So what is open at a site by the mail is begun.
use Rattle.std.proofs.Common.{◌≡◌, ℕ, ◌+◌, ◌-◌, ◌<◌, ◌≤◌, ◌==◌, ◌&&◌, nat_le, nat_lt, Bool, true, false, cond, List, []}
use Rattle.std.proofs.Common.{◌∷◌, ◌++◌, fold, Option, Some, None, slice_get, refl, sym, ap, ◌∙◌, subst, arith, eq-eqb}
use Rattle.std.specs.Prelude.{option_to_list, MatchOption}
use Rattle.std.specs.List.{AllByRecursion as Every, cons_option}
use Rattle.std.proofs.lemmas.Bool.{le-leb, ltb-true, ltb-false, lt-ltb}
use Rattle.std.proofs.lemmas.List.Sums.{fold-append}
use Rattle.qc_list.specs.Vocabulary.{In}
use Rattle.qc_list.proofs.Members.{every-In, every-from_In}
use Rattle.qc_stamp.specs.declared.stamp.TxId.{TxId}
use Rattle.qc_stamp.specs.Vocabulary.{same_tx}
use Rattle.qc_decl.specs.Vocabulary.{IsAccepted, administrator, client_actor, is_client}
use Rattle.qc_decl.specs.declared.declaration.Declaration.{Declaration}
use Rattle.qc_msg.specs.declared.message.Envelope.{Envelope}
use Rattle.qc_msg.specs.declared.message.Message.{Message}
use Rattle.qc_msg.specs.declared.message.Message.TheVariants as messages
use Rattle.qc_msg.specs.declared.message.Outcome.{Outcome}
use Rattle.qc_msg.specs.declared.message.Outcome.TheVariants as outcomes
use Rattle.qc_msg.specs.declared.step.Step.{Step}
use Rattle.qc_msg.specs.Vocabulary.{Deed, Entry, Sends, deed_at, deeds, envelope_at, envelope_of, heard, mail, Decided}
use Rattle.qc_msg.specs.Vocabulary.{Requested, decision_in, request_in, Falls, Rises, Takes, Tells, Writes}
use Rattle.qc_promise.specs.Vocabulary.{Committed, Dead, Status, Unborn, is_final, status}
use Rattle.qc_core.specs.Vocabulary.{IsLawful}
use Rattle.qc_script.specs.Vocabulary.{Runs}
use Rattle.qc_script.specs.declared.script.Script.{Script}
use Rattle.laws_turns.specs.Vocabulary.{ActsIn, AsksDeclared}
use Rattle.laws_turns.proofs.Acted.{actors_take_and_post_by_turns}
use Rattle.laws_turns.proofs.Idle.{IsInput, idle}
use Rattle.laws_guarantees.proofs.IdleDeeds.{idle_open}
use Rattle.laws_turns.proofs.Proper.{run_proper}
use Rattle.laws_turns.proofs.SiteReplies.{IsProperFrom}
use Rattle.laws_turns.proofs.DecisionLaws.{transactions_move_on, mail_deed}
use Rattle.laws_turns.proofs.InRuns.{HasPlace, client_low, client_no_site, client_number, run_place}
use Rattle.laws_turns.proofs.Lasting.{Came, request_born, verdict_came}
use Rattle.laws_turns.proofs.Moving.{Good, IsFromClient, IsMail}
use Rattle.laws_turns.proofs.RunsGood.{all_good}
use Rattle.laws_turns.proofs.StatusActs.{HasPage, pages}
use Rattle.laws_guarantees.proofs.Mailed.{message_of, step_cases}
use Rattle.laws_guarantees.specs.Vocabulary.{asks_to_hold, begun_by, is_open_at, open_said, sent_to}
use Rattle.laws_guarantees.proofs.SitesTold.{open_sent}
use Rattle.laws_guarantees.proofs.OpenDeeds.{open_did, open_done, open_named}
use Rattle.std.specs.Option.{option_map_or}
use Rattle.qc_stamp.proofs.Orders.{same_tx_is}

-- a message that changes whether a transaction is open

abbrev pub Concerns : TxId → Message → Type 0
Concerns x m = MatchOption (request_in m)
    (MatchOption (decision_in m) ⊥ (λ (v : Decided). same_tx v.tx x ≡ true)) (λ (q : Requested). same_tx q.tx x ≡ true)

unconcerned : (x : TxId) (before : Bool) (m : Message) → (Concerns x m → ⊥) → open_said x before m ≡ before
unconcerned x before m = by (request_in m) (decision_in m)
  where
    test : (tx : TxId) (becomes holds t : Bool) → (same_tx tx x ≡ true → ⊥) → same_tx tx x ≡ t
        → cond (t && holds) becomes before ≡ before
    test tx becomes holds true none same = absurd (none same)
    test tx becomes holds false none other = refl

    by : (o : Option Requested) (v : Option Decided)
        → (MatchOption o (MatchOption v ⊥ (λ (v : Decided). same_tx v.tx x ≡ true))
        (λ (q : Requested). same_tx q.tx x ≡ true) → ⊥)
        → option_map_or (λ (q : Requested). cond (same_tx q.tx x && asks_to_hold q.want) true before) o
        (option_map_or (λ (v : Decided). cond (same_tx v.tx x && is_final v.verdict) false before) v before) ≡ before
    by (Some q) v none = test q.tx true (asks_to_hold q.want) (same_tx q.tx x) none refl
    by None (Some v) none = test v.tx false (is_final v.verdict) (same_tx v.tx x) none refl
    by None None none = refl

abbrev pub IsOwn : ℕ → TxId → Envelope → Type 0
IsOwn c x e = Concerns x e.message → e.from ≡ c

-- mail and deeds tell the same

module _ (s : ℕ) (x : TxId) (c : ℕ) where
  abbrev open_env : Bool → Envelope → Bool
  open_env before e = open_sent s x before e.to e.message

  filtered : (before : Bool) (ms : List Envelope)
      → fold (λ (was : Bool) (e : Envelope). open_said x was e.message) before (sent_to s ms)
      ≡ fold (λ (was : Bool) (e : Envelope). open_sent s x was e.to e.message) before ms
  filtered before [] = refl
  filtered before (e ∷ ms) = by (e.to == s) (λ was. filtered was ms)
    where
      by : (t : Bool)
          → ((was : Bool)
          → fold (λ (was : Bool) (e : Envelope). open_said x was e.message) was (sent_to s ms)
          ≡ fold (λ (was : Bool) (e : Envelope). open_sent s x was e.to e.message) was ms)
          → fold (λ (was : Bool) (e : Envelope). open_said x was e.message) before
          (cond t (e ∷ sent_to s ms) (sent_to s ms))
          ≡ fold (λ (was : Bool) (e : Envelope). open_sent s x was e.to e.message)
          (cond t (open_said x before e.message) before) ms
      by true rest = rest (open_said x before e.message)
      by false rest = rest before

  nothing_done : (before mine : Bool) (d : Deed) → open_did s x before d ≡ before
      → fold (open_did s x) before (cond mine (d ∷ []) []) ≡ before
  nothing_done before true d same = same
  nothing_done before false d same = refl

  no_deed : (before mine : Bool) → fold (open_did s x) before (cond mine [] []) ≡ before
  no_deed before true = refl
  no_deed before false = refl

  hears : (before mine : Bool) (o : Option Envelope) → fold (open_did s x) before (cond mine (heard o) []) ≡ before
  hears before true None = refl
  hears before true (Some e) = refl
  hears before false o = refl

  sent_same : (b n to : ℕ) (m : Message) (before : Bool)
      → IsOwn c x (record { number = n; from = b; to = to; message = m })
      → fold (open_did s x) before (cond (b == c) (Sends n to m ∷ []) []) ≡ open_sent s x before to m
  sent_same b n to m before own = by (b == c) refl
    where
      quiet : (b == c) ≡ false → (t : Bool) → before ≡ cond t (open_said x before m) before
      quiet other true =
          sym (unconcerned x before m
          (λ concerns. let same : b ≡ c = own concerns in let here : (b == c)
          ≡ true = eq-eqb b c same in let never : ⊥ = cc in never))
      quiet other false = refl

      by : (t : Bool) → (b == c) ≡ t
          → fold (open_did s x) before (cond t (Sends n to m ∷ []) []) ≡ open_sent s x before to m
      by true is = refl
      by false other = quiet other (to == s)

  unsent_same : (a : ℕ) (before : Bool) (d : Deed) → message_of a d ≡ None → open_did s x before d ≡ before
  unsent_same a before (Takes given) unsent = refl
  unsent_same a before (Writes written) unsent = refl
  unsent_same a before (Sends n to m) unsent = absurd (let never : ⊥ = cc in never)
  unsent_same a before (Tells reply) unsent = refl
  unsent_same a before (Falls cause pending) unsent = refl
  unsent_same a before (Rises records) unsent = refl

  step_same : (b : ℕ) (ms : List Envelope) (step : Step) (before : Bool)
      → Every (IsOwn c x) (option_to_list (envelope_at b step))
      → fold (open_did s x) before (cond (b == c) (deed_at ms step) [])
      ≡ fold (λ (was : Bool) (e : Envelope). open_sent s x was e.to e.message) before
      (option_to_list (envelope_at b step))
  step_same b ms step before = step_cases ms b
      (λ ds o. Every (IsOwn c x) (option_to_list o) → fold (open_did s x) before (cond (b == c) ds [])
      ≡ fold (λ (was : Bool) (e : Envelope). open_sent s x was e.to e.message) before (option_to_list o))
      (λ own. no_deed before (b == c))
      (λ d unsent untaken own. nothing_done before (b == c) d (unsent_same b before d unsent))
      (λ n own. hears before (b == c) (slice_get ms n)) (λ n to m own. sent_same b n to m before own.0) step

  first_own : (o : Option Envelope) (es : List Envelope) → Every (IsOwn c x) (cons_option o es)
      → Every (IsOwn c x) (option_to_list o)
  first_own None es all = tt
  first_own (Some e) es all = (all.0, tt)

  rest_own : (o : Option Envelope) (es : List Envelope) → Every (IsOwn c x) (cons_option o es) → Every (IsOwn c x) es
  rest_own None es all = all
  rest_own (Some e) es all = all.1

  split_mail : (o : Option Envelope) (es : List Envelope) (before : Bool)
      → fold (λ (was : Bool) (e : Envelope). open_sent s x was e.to e.message) before (cons_option o es)
      ≡ fold (λ (was : Bool) (e : Envelope). open_sent s x was e.to e.message)
      (fold (λ (was : Bool) (e : Envelope). open_sent s x was e.to e.message) before (option_to_list o)) es
  split_mail None es before = refl
  split_mail (Some e) es before = refl

  mail_tells : (ms : List Envelope) (h : List Entry) (before : Bool) → Every (IsOwn c x) (mail h)
      → fold (open_did s x) before (deeds c ms h)
      ≡ fold (λ (was : Bool) (e : Envelope). open_sent s x was e.to e.message) before (mail h)
  mail_tells ms [] before own = refl
  mail_tells ms (e ∷ h) before own =
      fold-append (open_did s x) before (cond (e.actor == c) (deed_at ms e.step) [])
      (deeds c (ms ++ option_to_list (envelope_of e)) h)
      ∙ ap (λ (was : Bool). fold (open_did s x) was (deeds c (ms ++ option_to_list (envelope_of e)) h))
      (step_same e.actor ms e.step before (first_own (envelope_of e) (mail h) own))
      ∙ mail_tells (ms ++ option_to_list (envelope_of e)) h
      (fold (λ (was : Bool) (e : Envelope). open_sent s x was e.to e.message) before
      (option_to_list (envelope_of e))) (rest_own (envelope_of e) (mail h) own)
      ∙ sym (split_mail (envelope_of e) (mail h) before)

-- in each run

module _ (decl : Declaration) (script : Script) (accepted : IsAccepted decl) (asks : AsksDeclared decl script)
    (h : List Entry) (open_inputs : List Bool) (run : Runs (IsLawful decl) decl script h open_inputs) where
  good : Good decl h
  good = all_good decl script accepted h open_inputs run

  place : (a : ℕ) → is_client decl a ≡ true → HasPlace open_inputs a
  place a named = run_place decl script h open_inputs run a (client_low decl a named)

  turns : (a : ℕ) (named : is_client decl a ≡ true) → ActsIn decl a h (place a named).is_open
  turns a named =
      actors_take_and_post_by_turns decl script h open_inputs run a (place a named).is_open (place a named).at

  -- who sends something is a site or a client

  pub client_is : (a : ℕ) → decl.sites ≤ a → a < administrator decl → is_client decl a ≡ true
  client_is a above low =
      by (nat_le decl.sites a) (nat_lt a (administrator decl)) (le-leb decl.sites a above)
      (lt-ltb a (administrator decl) low)
    where
      by : (t u : Bool) → t ≡ true → u ≡ true → (t && u) ≡ true
      by true u is now = now
      by false u is now = absurd (let never : ⊥ = cc in never)

  sender_is : (e : Envelope) → In e (mail h) → decl.sites ≤ e.from → is_client decl e.from ≡ true
  sender_is e among above = by (nat_lt e.from (administrator decl)) refl
    where
      by : (t : Bool) → nat_lt e.from (administrator decl) ≡ t → is_client decl e.from ≡ true
      by true low = client_is e.from above (ltb-true e.from (administrator decl) low)
      by false past =
          absurd (every-In IsInput (Sends e.number e.to e.message) (deeds e.from [] h)
          (idle decl e.from (ltb-false e.from (administrator decl) past) script h open_inputs run)
          (mail_deed [] h e among))

  born_own : (a : ℕ) (named : is_client decl a ≡ true) (x : TxId) → (status (deeds a [] h) x ≡ Unborn → ⊥)
      → a ≡ client_actor decl x.client
  born_own a named x born =
      let p : HasPage decl accepted a (client_no_site decl a named) named x (deeds a [] h) =
      pages decl accepted a (client_no_site decl a named) named x (deeds a [] h) (place a named).is_open
      (turns a named).above (turns a named).acts (good.known a named x) in
      let mine : x.client ≡ a - decl.sites = p.is.mine born ∙ p.client in
      sym (ap (λ (n : ℕ). decl.sites + n) mine ∙ client_number decl a named)

  ended_born : (x : TxId) (v : Outcome) (st : Status) → Came x v st → st ≡ Unborn → ⊥
  ended_born x (outcomes.Committed stamp) st came is =
      let e : Committed stamp ≡ Unborn = sym came ∙ is in let never : ⊥ = cc in never
  ended_born x outcomes.Aborted st came is = let e : Dead ≡ Unborn = sym came ∙ is in let never : ⊥ = cc in never
  ended_born x outcomes.Active st came is = came is

  own_word : (x : TxId) (e : Envelope) → In e (mail h) → IsOwn (client_actor decl x.client) x e
  own_word x e among = by e.message refl
    where
      sent : (m : Message) → e.message ≡ m → In (Sends e.number e.to m) (deeds e.from [] h)
      sent m is = subst (λ (m : Message). In (Sends e.number e.to m) (deeds e.from [] h)) is (mail_deed [] h e among)

      proper : IsProperFrom decl e.from e.to e.message
      proper =
          every-In (λ (e : Envelope). IsProperFrom decl e.from e.to e.message) e (mail h)
          (run_proper decl script accepted asks h open_inputs run) among

      by : (m : Message) → e.message ≡ m → Concerns x m → e.from ≡ client_actor decl x.client
      by (messages.Request tx epoch life want) is same =
          let p : IsProperFrom decl e.from e.to (messages.Request tx epoch life want) =
          subst (IsProperFrom decl e.from e.to) is proper in
          let named : is_client decl e.from ≡ true = sender_is e among p.0 in
          let its : tx ≡ x = same_tx_is tx x same in
          born_own e.from named x (request_born x Unborn (deeds e.from [] h) e.number e.to epoch life want
          (transactions_move_on decl script h open_inputs accepted run e.from named x)
          (subst (λ (t : TxId). In (Sends e.number e.to (messages.Request t epoch life want)) (deeds e.from [] h)) its
          (sent (messages.Request tx epoch life want) is)))
      by (messages.Answer to answer) is never = absurd never
      by (messages.Decision tx verdict) is same =
          let w : IsMail decl h e = every-In (IsMail decl h) e (mail h) good.mail_is among in
          let named : is_client decl e.from ≡ true = subst (IsFromClient decl e.from) is w.from in
          let its : tx ≡ x = same_tx_is tx x same in
          born_own e.from named x (ended_born x verdict (status (deeds e.from [] h) x)
          (verdict_came x Unborn (deeds e.from [] h) e.number e.to verdict
          (transactions_move_on decl script h open_inputs accepted run e.from named x)
          (subst (λ (t : TxId). In (Sends e.number e.to (messages.Decision t verdict)) (deeds e.from [] h)) its
          (sent (messages.Decision tx verdict) is))))
      by (messages.Inquiry tx) is never = absurd never
      by (messages.Ask tx) is never = absurd never
      by (messages.Close epoch) is never = absurd never
      by (messages.Install start) is never = absurd never

  -- what is open at a site by the mail is open by its client's deeds, and so the begun one
  pub open_begun : (s : ℕ) (x : TxId) → is_open_at s x (mail h) ≡ true
      → begun_by decl (client_actor decl x.client) h ≡ Some x
  open_begun s x is = by (is_client decl (client_actor decl x.client)) refl
    where
      c : ℕ
      c = client_actor decl x.client

      done : open_done s x (deeds (client_actor decl x.client) [] h) ≡ true
      done =
          mail_tells s x (client_actor decl x.client) [] h false
          (every-from_In (IsOwn (client_actor decl x.client) x) (mail h) (own_word x))
          ∙ sym (filtered s x (client_actor decl x.client) false (mail h)) ∙ is

      above : decl.sites ≤ client_actor decl x.client
      above = omega arith

      by : (t : Bool) → is_client decl (client_actor decl x.client) ≡ t
          → begun_by decl (client_actor decl x.client) h ≡ Some x
      by true named =
          open_named decl accepted (client_actor decl x.client) (client_no_site decl (client_actor decl x.client) named)
          named s x (deeds (client_actor decl x.client) [] h) (place (client_actor decl x.client) named).is_open
          (turns (client_actor decl x.client) named).above (turns (client_actor decl x.client) named).acts done
      by false other = at (nat_lt (client_actor decl x.client) (administrator decl)) refl
        where
          at : (u : Bool) → nat_lt (client_actor decl x.client) (administrator decl) ≡ u
              → begun_by decl (client_actor decl x.client) h ≡ Some x
          at true low =
              absurd (let yes : is_client decl (client_actor decl x.client) ≡ true =
              client_is (client_actor decl x.client) above
              (ltb-true (client_actor decl x.client) (administrator decl) low) in
              let never : ⊥ = cc in never)
          at false past =
              let shut : open_done s x (deeds (client_actor decl x.client) [] h) ≡ false =
              idle_open s x (deeds (client_actor decl x.client) [] h) false
              (idle decl (client_actor decl x.client)
              (ltb-false (client_actor decl x.client) (administrator decl) past) script h open_inputs run) in
              let opened : open_done s x (deeds (client_actor decl x.client) [] h) ≡ true = done in
              absurd (let never : ⊥ = cc in never)

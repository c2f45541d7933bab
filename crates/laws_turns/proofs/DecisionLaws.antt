-- In every run transactions move on as they may, and each Decision that is sent agrees with the records.
use Rattle.std.proofs.Common.{◌≡◌, ℕ, ◌+◌, ◌-◌, ◌==◌, Bool, true, cond, List, [], ◌∷◌, ◌++◌, Option, Some, None}
use Rattle.std.proofs.Common.{option_to_list, inl, inr, ◌⊎◌, refl, sym, ap, ◌∙◌, subst, eq-eqb}
use Rattle.std.specs.List.{cons_option}
use Rattle.std.specs.Prelude.{MatchOption, option_and_then}
use Rattle.qc_list.specs.Vocabulary.{In}
use Rattle.qc_list.proofs.Members.{In-first, In-second, every-In}
use Rattle.qc_stamp.specs.declared.stamp.TxId.{TxId}
use Rattle.qc_decl.specs.Vocabulary.{IsAccepted, client_actor, is_client}
use Rattle.qc_decl.specs.declared.declaration.Declaration.{Declaration}
use Rattle.qc_msg.specs.declared.message.Envelope.{Envelope}
use Rattle.qc_msg.specs.declared.message.Message.{Message}
use Rattle.qc_msg.specs.declared.message.Message.TheVariants as messages
use Rattle.qc_msg.specs.declared.message.Outcome.{Outcome}
use Rattle.qc_msg.specs.declared.message.Outcome.TheVariants as outcomes
use Rattle.qc_msg.specs.declared.step.Step.{Step}
use Rattle.qc_msg.specs.declared.step.Step.TheVariants as steps
use Rattle.qc_msg.specs.Vocabulary.{Entry, Sends, deed_at, deeds, envelope_at, envelope_of, mail, Decided, Mailed}
use Rattle.qc_script.specs.Vocabulary.{Runs}
use Rattle.qc_script.specs.declared.script.Script.{Script}
use Rattle.qc_core.specs.Vocabulary.{IsLawful}
use Rattle.laws_turns.specs.Vocabulary.{ActsIn, written_in}
use Rattle.laws_turns.proofs.Acted.{actors_take_and_post_by_turns}
use Rattle.qc_promise.specs.Vocabulary.{AreRight, Committed, Dead, DecisionAgrees, Unborn, VerdictAgrees, committed}
use Rattle.qc_promise.specs.Vocabulary.{status}
use Rattle.laws_turns.proofs.DealingParts.{HasRecord}
use Rattle.laws_turns.proofs.InRuns.{HasPlace, client_low, client_no_site, client_number, run_place}
use Rattle.laws_turns.proofs.Lasting.{Came, verdict_came}
use Rattle.laws_turns.proofs.Moving.{Good, IsFromClient, IsMail}
use Rattle.laws_turns.proofs.RunsGood.{all_good}
use Rattle.laws_turns.proofs.RecordLaws.{in_listed, wrote_own}
use Rattle.laws_turns.proofs.StatusActs.{HasPage, pages, rights}
use Rattle.laws_turns.proofs.WrittenDeeds.{written_listed}
use Rattle.laws_turns.proofs.MessageCases.{message_cases}
use Rattle.laws_turns.proofs.StepCases.{deed_cases}

-- a message is a deed of its sender

step_sent : (a : ℕ) (ms : List Envelope) (step : Step) (e : Envelope) → In e (option_to_list (envelope_at a step))
    → (e.from ≡ a) × (deed_at ms step ≡ Sends e.number e.to e.message ∷ [])
step_sent a ms step e among =
    deed_cases ms
    (λ step ds. In e (option_to_list (envelope_at a step)) → (e.from ≡ a) × (ds ≡ Sends e.number e.to e.message ∷ []))
    (λ step w m r its. absurd (subst (λ (o : Option Mailed). In e (option_to_list (option_and_then
    (λ (x : Mailed). Some (record { number = x.number; from = a; to = x.to; message = x.message })) o))) m its))
    (λ command never. absurd never) (λ n never. absurd never) (λ n never. absurd never)
    (λ written never. absurd never) (λ n to message its. sent n to message its) (λ reply never. absurd never)
    (λ cause pending never. absurd never) (λ records never. absurd never) step among
  where
    sent : (n to : ℕ) (message : Message) → In e (option_to_list (envelope_at a (steps.Sent n to message)))
        → (e.from ≡ a) × (Sends n to message ∷ [] ≡ Sends e.number e.to e.message ∷ [])
    sent n to message (inl same) = (
      ap (λ (x : Envelope). x.from) same,
      ap (λ (x : Envelope). Sends x.number x.to x.message ∷ []) (sym same),
    )
    sent n to message (inr never) = absurd never

pub in_cons : (e : Envelope) (o : Option Envelope) (es : List Envelope) → In e (cons_option o es)
    → In e (option_to_list o) ⊎ In e es
in_cons e None es among = inr among
in_cons e (Some d) es (inl same) = inl (inl same)
in_cons e (Some d) es (inr later) = inr later

pub mail_deed : (ms : List Envelope) (h : List Entry) (e : Envelope) → In e (mail h)
    → In (Sends e.number e.to e.message) (deeds e.from ms h)
mail_deed ms [] e among = absurd among
mail_deed ms (x ∷ h) e among = by (in_cons e (envelope_of x) (mail h) among)
    (mail_deed (ms ++ option_to_list (envelope_of x)) h e) where
      here : (e.from ≡ x.actor) × (deed_at ms x.step ≡ Sends e.number e.to e.message ∷ [])
          → In (Sends e.number e.to e.message)
          (cond (x.actor == e.from) (deed_at ms x.step) [])
      here s =
          let own : (x.actor == e.from) ≡ true = eq-eqb x.actor e.from (sym s.0) in
          subst (λ (t : Bool). In (Sends e.number e.to e.message) (cond t (deed_at ms x.step) [])) (sym own)
          (subst (In (Sends e.number e.to e.message)) (sym s.1) (inl refl))

      by : In e (option_to_list (envelope_of x)) ⊎ In e (mail h)
          → (In e (mail h) → In (Sends e.number e.to e.message) (deeds e.from (ms ++ option_to_list (envelope_of x)) h))
          → In (Sends e.number e.to e.message) (deeds e.from ms (x ∷ h))
      by (inl first) rest = In-first (Sends e.number e.to e.message) (cond (x.actor == e.from) (deed_at ms x.step) [])
          (deeds e.from (ms ++ option_to_list (envelope_of x)) h) (here (step_sent x.actor ms x.step e first))
      by (inr later) rest = In-second (Sends e.number e.to e.message) (cond (x.actor == e.from) (deed_at ms x.step) [])
          (deeds e.from (ms ++ option_to_list (envelope_of x)) h) (rest later)

module _ (decl : Declaration) (script : Script) (h : List Entry) (open_inputs : List Bool) (accepted : IsAccepted decl)
    (run : Runs (IsLawful decl) decl script h open_inputs) where
  good : Good decl h
  good = all_good decl script accepted h open_inputs run

  place : (a : ℕ) → is_client decl a ≡ true → HasPlace open_inputs a
  place a named = run_place decl script h open_inputs run a (client_low decl a named)

  turns : (a : ℕ) (named : is_client decl a ≡ true) → ActsIn decl a h (place a named).is_open
  turns a named =
      actors_take_and_post_by_turns decl script h open_inputs run a (place a named).is_open (place a named).at

  -- each deed of a client is right
  pub transactions_move_on : (a : ℕ) → is_client decl a ≡ true → (tx : TxId) → AreRight tx (deeds a [] h)
  transactions_move_on a named tx = rights decl accepted a (client_no_site decl a named) named tx (deeds a [] h)
      (place a named).is_open (turns a named).above (turns a named).acts (good.known a named tx)

  page : (a : ℕ) (named : is_client decl a ≡ true) (tx : TxId)
      → HasPage decl accepted a (client_no_site decl a named) named tx (deeds a [] h)
  page a named tx = pages decl accepted a (client_no_site decl a named) named tx (deeds a [] h) (place a named).is_open
      (turns a named).above (turns a named).acts (good.known a named tx)

  -- what a verdict came to agrees with the records
  came_agrees : (a : ℕ) → is_client decl a ≡ true → (tx : TxId) (v : Outcome) → Came tx v (status (deeds a [] h) tx)
      → VerdictAgrees (committed decl h) tx v
  came_agrees a named tx (outcomes.Committed stamp) came =
      let p : HasPage decl accepted a (client_no_site decl a named) named tx (deeds a [] h) = page a named tx in
      let r : HasRecord p.page.commits tx stamp = p.is.is_committed stamp came in
      let wrote : In r.commit (written_in (deeds a [] h)) = subst (In r.commit) p.commits r.listed in
      record {
        commit = r.commit;
        listed = in_listed decl script h open_inputs accepted run r.commit
            (written_listed decl [] h r.commit a named wrote);
        named = r.named;
        stamped = r.stamped;
      }
  came_agrees a named tx outcomes.Aborted came = λ c among same. (
      let p : HasPage decl accepted a (client_no_site decl a named) named tx (deeds a [] h) = page a named tx in
      let mine : tx.client ≡ a - decl.sites = p.is.mine
      (λ e. let d : Dead ≡ Unborn = sym came ∙ e in let no : ⊥ = cc in no) ∙ p.client in
      let actor : client_actor decl c.tx.client ≡ a = ap (λ (t : TxId). client_actor decl t.client) same
      ∙ ap (λ (n : ℕ). decl.sites + n) mine ∙ client_number decl a named in
      let wrote : In c (written_in (deeds a [] h)) =
      subst (λ (k : ℕ). In c (written_in (deeds k [] h))) actor
      (wrote_own decl script h open_inputs accepted run c among) in
      let done : status (deeds a [] h) tx ≡ Committed c.stamp =
      p.is.committed c (subst (In c) (sym p.commits) wrote) same in
      let e : Dead ≡ Committed c.stamp = sym came ∙ done in
      let no : ⊥ = cc in no)
  came_agrees a named tx outcomes.Active came = tt

  -- each Decision that is sent agrees with the records
  pub decisions_agree_with_records : (e : Envelope) → In e (mail h) → DecisionAgrees (committed decl h) e.message
  decisions_agree_with_records e among = by e.message refl where
    w : IsMail decl h e
    w = every-In (IsMail decl h) e (mail h) good.mail_is among

    by : (m : Message) → e.message ≡ m → DecisionAgrees (committed decl h) m
    by m is =
        message_cases
        (λ m r a d i. e.message ≡ m → MatchOption d (Unit {0})
        (λ (v : Decided). VerdictAgrees (committed decl h) v.tx v.verdict))
        (λ q is. tt) (λ a is. tt)
        (λ v is.
        let named : is_client decl e.from ≡ true = subst (IsFromClient decl e.from) is w.from in
        let sent : In (Sends e.number e.to (messages.Decision v.tx v.verdict)) (deeds e.from [] h) =
        subst (λ (m : Message). In (Sends e.number e.to m) (deeds e.from [] h)) is (mail_deed [] h e among) in
        came_agrees e.from named v.tx v.verdict (verdict_came v.tx Unborn (deeds e.from [] h) e.number e.to v.verdict
        (transactions_move_on e.from named v.tx) sent))
        (λ tx is. tt) (λ m is. tt) m is

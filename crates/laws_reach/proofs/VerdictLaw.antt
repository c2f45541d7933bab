-- In every run with falls whose records are kept a client's deeds are right.
use Rattle.std.proofs.Common.{◌≡◌, ◌↔◌, ◌-◌, ◌≢◌, ◌≤◌, ◌<◌, ℕ, ◌+◌, ◌==◌, Bool, true, false, List, [], ◌∷◌, ◌++◌}
use Rattle.std.proofs.Common.{length, Some, None, slice_get, refl, sym, ap, ◌∙◌, subst, arith, append_assoc, eqb-true}
use Rattle.std.proofs.lemmas.List.Sums.{fold-append}
use Rattle.qc_decl.proofs.Clients.{client_past, client_within}
use Rattle.qc_core.specs.Vocabulary.{IsLawfulWithFalls, journal_after}
use Rattle.qc_msg.specs.Vocabulary.{Deed, Entry, Falls, Rises, Sends, Takes, WasSentTo, by, deeds, deeds_as, mail}
use Rattle.qc_msg.specs.Vocabulary.{marked, posted_as, step_of}
use Rattle.qc_decl.specs.Vocabulary.{IsAccepted, actors, client_actor, controller, is_client}
use Rattle.qc_decl.specs.declared.declaration.Declaration.{Declaration}
use Rattle.qc_mailbox.proofs.FallMail.{ready_messages_were_sent_through_falls}
use Rattle.laws_turns.proofs.Acted.{deeds-silent}
use Rattle.laws_turns.proofs.Numbered.{IsSilent, phase_silent}
use Rattle.qc_list.specs.Vocabulary.{In}
use Rattle.qc_list.proofs.Members.{every-at}
use Rattle.laws_turns.specs.Vocabulary.{LivesIn}
use Rattle.laws_turns.proofs.LivedMoves.{deeds-fall, line_silent}
use Rattle.laws_turns.proofs.Lived.{actors_live_in_runs_with_falls, run_long}
use Rattle.qc_msg.specs.declared.message.Envelope.{Envelope}
use Rattle.qc_msg.specs.declared.message.Message.{Message}
use Rattle.qc_msg.specs.declared.message.Message.TheVariants as messages
use Rattle.qc_msg.specs.declared.record.Record.{Record}
use Rattle.qc_msg.specs.declared.step.Fall.TheVariants as causes
use Rattle.qc_msg.specs.declared.step.Input.{Input}
use Rattle.qc_msg.specs.declared.step.Input.TheVariants as inputs
use Rattle.qc_msg.specs.declared.step.Step.{Step}
use Rattle.qc_msg.specs.declared.step.Step.TheVariants as steps
use Rattle.qc_msg.specs.declared.turn.Turn.{Turn}
use Rattle.qc_msg.proofs.DeedsGrow.{deeds-other, deeds-rise}
use Rattle.qc_msg.proofs.Growth.{deeds-posted_as, deeds-taken}
use Rattle.laws_refinement.specs.Vocabulary.{Backed, Refines}
use Rattle.laws_refinement.proofs.Refining.{nets_refine}
use Rattle.qc_promise.specs.Vocabulary.{AreRight, Begun, Committed, Dead, HasEnded, Kept, Status, Unborn, status}
use Rattle.qc_promise.specs.Vocabulary.{status_at}
use Rattle.theory_machine.specs.Vocabulary.{state}
use Rattle.laws_turns.proofs.KnownDeeds.{IsKnown, IsKnownIn, KnownFrom, known-append, known-posts, known-second}
use Rattle.laws_turns.proofs.Lasting.{HasEnd, ended_on, request_born}
use Rattle.laws_turns.proofs.SitesAsk.{Tells}
use Rattle.qc_script.specs.Vocabulary.{IsScriptFor, RunsWithFalls, begins, control, damaged, falls, phase, phase_of}
use Rattle.qc_script.specs.Vocabulary.{posts, rises, takes, unopened}
use Rattle.qc_script.specs.declared.script.Script.{Script}
use Rattle.qc_stamp.specs.declared.stamp.Stamp.{Stamp}
use Rattle.qc_stamp.specs.declared.stamp.TxId.{TxId}
use Rattle.qc_stamp.specs.Vocabulary.{same_tx}
use Rattle.qc_stamp.proofs.Orders.{same_tx_is, same_tx_itself}
use Rattle.laws_due.specs.Vocabulary.{Declares}
use Rattle.laws_due.proofs.AccountDeclared.{scripts_ask_what_is_declared}
use Rattle.laws_due.proofs.Declared.{run_declares}
use Rattle.laws_due.proofs.KeptPlanned.{what_rises_is_planned_where_records_are_kept}
use Rattle.laws_reach.specs.Vocabulary.{IsReachedWithFalls, IsRecorded}
use Rattle.laws_reach.proofs.Reaching.{runs_with_falls_reach_nets}
use Rattle.laws_reach.proofs.Rightly.{Shows, course_shows}
use Rattle.qc_core.proofs.KeptBack.{rises_give_back_journals_where_records_are_kept}
use Rattle.laws_reach.proofs.Questions.{Asked, IsRequested, run_asked}
use Rattle.laws_reach.proofs.SitesAsk.{asked_of}
use Rattle.laws_reach.proofs.VerdictPosts.{post_posts, few}
use Rattle.laws_turns.proofs.DecisionLaws.{mail_deed}
use Rattle.laws_atomic.proofs.Courses.{right-second}
use Rattle.qc_list.proofs.Places.{some_at}
use Rattle.qc_promise.proofs.Posts.{kept_part}

module _ (decl : Declaration) (script : Script) (fits : ℕ → List Record → Type 0) (accepted : IsAccepted decl)
    (sound : IsScriptFor decl script) where
  abbrev IsRun : List Entry → List Bool → Type 0
  IsRun h open_inputs = RunsWithFalls (IsLawfulWithFalls decl) fits decl script h open_inputs

  -- where it is asked about begun transactions alone

  abbrev AreKnown : List Entry → Type 0
  AreKnown h = (a : ℕ) → is_client decl a ≡ true → (tx : TxId) → KnownFrom tx Unborn (deeds a [] h)

  pub declares : (h : List Entry) (open_inputs : List Bool) → IsRun h open_inputs → Kept h → (a : ℕ)
      → Declares decl (deeds a [] h)
  declares h open_inputs run kept a =
      run_declares decl script fits accepted (scripts_ask_what_is_declared decl script accepted sound) h open_inputs run
      (what_rises_is_planned_where_records_are_kept decl script fits accepted
      (scripts_ask_what_is_declared decl script accepted sound) h open_inputs
      run kept) a

  pub record Lived (h : List Entry) (open_inputs : List Bool) (a : ℕ) : Type 0 where
    pub is_open : Bool
    pub in_run : LivesIn decl a h is_open

  pub lived : (h : List Entry) (open_inputs : List Bool) → IsRun h open_inputs → (a : ℕ) → is_client decl a ≡ true
      → Lived h open_inputs a
  lived h open_inputs run a client =
      let low : a < actors decl = client_within decl a client in
      let long : length open_inputs ≡ actors decl =
      run_long decl script fits (few decl script fits accepted sound) h open_inputs run in
      let place : (t : Bool) × (slice_get open_inputs a ≡ Some t) = some_at open_inputs a (omega arith) in
      record {
        is_open = place.0;
        in_run =
            actors_live_in_runs_with_falls decl script fits (few decl script fits accepted sound) h open_inputs run a
            place.0 place.1;
      }

  module _ (h : List Entry) (open_inputs : List Bool) (run : IsRun h open_inputs) (kept : Kept h)
      (known : AreKnown h) where
    shows : (a : ℕ) (client : is_client decl a ≡ true) (tx : TxId) → Shows decl a client tx (deeds a [] h)
    shows a client tx =
        let l : Lived h open_inputs a = lived h open_inputs run a client in
        let d : Declares decl (deeds a [] h) = declares h open_inputs run kept a in
        course_shows decl a client tx d.first (deeds a [] h) l.is_open l.in_run.above l.in_run.lives d.deeds
        (rises_give_back_journals_where_records_are_kept h kept a) (known a client tx)

    -- one that was asked for was begun
    asked_born : (a : ℕ) → is_client decl a ≡ true → (tx : TxId) → a ≡ client_actor decl tx.client
        → IsRequested (mail h) tx → status (deeds a [] h) tx ≢ Unborn
    asked_born a client tx its r =
        let net : IsReachedWithFalls decl h open_inputs =
        runs_with_falls_reach_nets fits decl script h open_inputs accepted sound run kept in
        let m : Refines decl net.net = nets_refine decl accepted net.net net.reached in
        let backed : Backed decl (state m.acts) net.net.mail r.request.from r.request.to
        (messages.Request tx r.epoch r.life r.want) =
        subst (Backed decl (state m.acts) net.net.mail r.request.from r.request.to) r.is
        (m.agrees.mail r.request (subst (In r.request) (sym net.mail_is) r.sent)) in
        let from : r.request.from ≡ a = backed.0 ∙ sym its in
        let sent : In (Sends r.request.number r.request.to r.request.message) (deeds a [] h) =
        subst (λ (b : ℕ). In (Sends r.request.number r.request.to r.request.message) (deeds b [] h)) from
        (mail_deed [] h r.request r.sent) in
        request_born tx Unborn (deeds a [] h) r.request.number r.request.to r.epoch r.life r.want
        (shows a client tx).right
        (subst (λ (x : Message). In (Sends r.request.number r.request.to x) (deeds a [] h)) r.is sent)

    -- so what it takes next is so too

    known_in : (a : ℕ) → is_client decl a ≡ true → (tx : TxId) (to : ℕ) (m : Message) → to ≡ a
        → Tells decl (IsRequested (mail h)) to m → IsKnownIn tx (status (deeds a [] h) tx) m
    known_in a client tx to m at tells =
        asked_of decl (IsRequested (mail h)) (λ (x : TxId). same_tx x tx ≡ true → status (deeds a [] h) tx ≢ Unborn)
        to m (λ other mine its same. (let is : other ≡ tx = same_tx_is other tx same in
        asked_born a client tx (sym at ∙ mine ∙ ap (λ (t : TxId). client_actor decl t.client) is)
        (subst (IsRequested (mail h)) is its))) tells

    known_given : (a : ℕ) → is_client decl a ≡ true → (tx : TxId) (g : Input) → WasSentTo a (mail h) g
        → IsKnown tx (status (deeds a [] h) tx) g
    known_given a client tx (inputs.Called command) was = tt
    known_given a client tx (inputs.Got e) was =
        let asked : Asked decl h = run_asked decl script fits h open_inputs run kept in
        known_in a client tx e.to e.message was.1
        (every-at (λ (d : Envelope). Tells decl (IsRequested (mail h)) d.to d.message) (mail h) e.number e asked.all
        was.0)
    known_given a client tx (inputs.Lost number) was = tt

  -- an event by one actor, for each

  by_actor : (b a : ℕ) (tx : TxId) (h : List Entry) (xs : List Step) (ds : List Deed)
      → deeds b [] (h ++ by b xs) ≡ deeds b [] h ++ ds → KnownFrom tx Unborn (deeds a [] h)
      → (b ≡ a → KnownFrom tx (status (deeds b [] h) tx) ds) → KnownFrom tx Unborn (deeds a [] (h ++ by b xs))
  by_actor b a tx h xs ds is old new = at (b == a) refl
    where
      at : (t : Bool) → (b == a) ≡ t → KnownFrom tx Unborn (deeds a [] (h ++ by b xs))
      at true same =
          let e : b ≡ a = eqb-true b a same in
          subst (λ (k : ℕ). KnownFrom tx Unborn (deeds k [] (h ++ by b xs))) e
          (subst (KnownFrom tx Unborn) (sym is)
          (known-append tx Unborn (deeds b [] h) ds
          (subst (λ (k : ℕ). KnownFrom tx Unborn (deeds k [] h)) (sym e) old) (new e)))
      at false other = subst (KnownFrom tx Unborn) (sym (deeds-other b a [] h xs other)) old

  silent : (a b : ℕ) (tx : TxId) (h : List Entry) (step : Step) → IsSilent step → KnownFrom tx Unborn (deeds a [] h)
      → KnownFrom tx Unborn (deeds a [] (h ++ marked b step ∷ []))
  silent a b tx h step is old = subst (KnownFrom tx Unborn) (sym (deeds-silent a b h step is)) old

  risen : (b : ℕ) (h : List Entry) (kept : List Record) (turn : Turn)
      → deeds b [] (h ++ by b (steps.Rose kept ∷ posted_as turn.append (length (mail h)) turn))
      ≡ deeds b [] h ++ (Rises kept ∷ deeds_as turn.append (length (mail h)) turn)
  risen b h kept turn =
      ap (deeds b [])
      (sym (append_assoc h (marked b (steps.Rose kept) ∷ []) (by b (posted_as turn.append (length (mail h)) turn))))
      ∙ deeds-posted_as turn.append b (length (mail h)) (h ++ marked b (steps.Rose kept) ∷ []) turn
      ∙ ap (λ (ds : List Deed). ds ++ deeds_as turn.append (length (mail h)) turn) (deeds-rise b h kept)
      ∙ append_assoc (deeds b [] h) (Rises kept ∷ []) (deeds_as turn.append (length (mail h)) turn)

  all_known : (h : List Entry) (open_inputs : List Bool) → IsRun h open_inputs → Kept h → AreKnown h
  all_known h open_inputs begins kept a client tx = tt
  all_known h open_inputs (takes b g before older run free rdy) kept a client tx =
      let known : AreKnown older = all_known older before run (kept_part older _ kept) in
      let was : WasSentTo b (mail older) g =
      ready_messages_were_sent_through_falls (IsLawfulWithFalls decl) fits decl script older before run b g rdy in
      by_actor b a tx older (step_of g ∷ []) (Takes g ∷ []) (deeds-taken b older g was) (known a client tx)
      (λ same. (
        known_given older before run (kept_part older _ kept) known b (ap (is_client decl) same ∙ client) tx g
            was,
        tt,
      ))
  all_known h open_inputs (posts b turn before older run taken law) kept a client tx =
      by_actor b a tx older (posted_as turn.append (length (mail older)) turn)
      (deeds_as turn.append (length (mail older)) turn)
      (deeds-posted_as turn.append b (length (mail older)) older turn)
      (all_known older before run (kept_part older _ kept) a client tx)
      (λ same. known-posts tx (status (deeds b [] older) tx) (deeds_as turn.append (length (mail older)) turn)
      (post_posts turn.append (length (mail older)) turn))
  all_known h open_inputs (phase before older run none done quiet more) kept a client tx =
      silent a (controller decl) tx older (steps.Phase (phase_of older + 1)) (phase_silent (phase_of older + 1))
      (all_known older before run (kept_part older _ kept) a client tx)
  all_known h open_inputs (control line lines step before older run left is) kept a client tx =
      silent a (controller decl) tx older step (line_silent line step is)
      (all_known older before run (kept_part older _ kept) a client tx)
  all_known h open_inputs (falls b lines before older run left) kept a client tx =
      by_actor b a tx older (steps.Fell causes.Script None ∷ []) (Falls causes.Script None ∷ [])
      (deeds-fall b older causes.Script) (all_known older before run (kept_part older _ kept) a client tx)
      (λ same. tt)
  all_known h open_inputs (rises b back turn lines before older run left fit has law) kept a client tx =
      by_actor b a tx older (steps.Rose back ∷ posted_as turn.append (length (mail older)) turn)
      (Rises back ∷ deeds_as turn.append (length (mail older)) turn) (risen b older back turn)
      (all_known older before run (kept_part older _ kept) a client tx)
      (λ same. known-posts tx (status (deeds b [] older) tx)
      (Rises back ∷ deeds_as turn.append (length (mail older)) turn)
      (tt, post_posts turn.append (length (mail older)) turn))
  all_known h open_inputs (damaged b offset lines before older run left) kept a client tx =
      silent a b tx older (steps.Damaged offset) (record { sends = λ x. refl; deeds = λ ms. refl })
      (all_known older before run (kept_part older _ kept) a client tx)
  all_known h open_inputs (unopened b cause lines before older run left disk) kept a client tx =
      by_actor b a tx older (steps.Fell cause None ∷ []) (Falls cause None ∷ []) (deeds-fall b older cause)
      (all_known older before run (kept_part older _ kept) a client tx) (λ same. tt)

  -- each deed is right

  all_shows : (h : List Entry) (open_inputs : List Bool) → IsRun h open_inputs → Kept h
      → (a : ℕ) (client : is_client decl a ≡ true) (tx : TxId) → Shows decl a client tx (deeds a [] h)
  all_shows h open_inputs run kept = shows h open_inputs run kept (all_known h open_inputs run kept)

  pub transactions_move_on_through_falls : (h : List Entry) (open_inputs : List Bool) → IsRun h open_inputs → Kept h
      → (a : ℕ) → is_client decl a ≡ true → (tx : TxId) → AreRight tx (deeds a [] h)
  transactions_move_on_through_falls h open_inputs run kept a client tx =
      (all_shows h open_inputs run kept a client tx).right

  pub transactions_are_committed_by_their_records_through_falls : (h : List Entry) (open_inputs : List Bool)
      → IsRun h open_inputs → Kept h → (a : ℕ) → is_client decl a ≡ true → (tx : TxId) (stamp : Stamp)
      → (status (deeds a [] h) tx ≡ Committed stamp) ↔ IsRecorded tx stamp (journal_after (deeds a [] h)).records
  transactions_are_committed_by_their_records_through_falls h open_inputs run kept a client tx stamp =
      let w : Shows decl a client tx (deeds a [] h) = all_shows h open_inputs run kept a client tx in
      (w.recorded stamp, w.told stamp)

  pub clients_begin_their_own_through_falls : (h : List Entry) (open_inputs : List Bool) → IsRun h open_inputs → Kept h
      → (a : ℕ) → is_client decl a ≡ true → (tx : TxId) → status (deeds a [] h) tx ≢ Unborn
      → client_actor decl tx.client ≡ a
  clients_begin_their_own_through_falls h open_inputs run kept a client tx born =
      let mine : tx.client ≡ a - decl.sites = (all_shows h open_inputs run kept a client tx).own born in
      let low : decl.sites ≤ a = client_past decl a client in
      omega arith

  -- what has ended stays so

  as_end : (tx : TxId) (s : Status) → HasEnded s → HasEnd tx s
  as_end tx Unborn never = never
  as_end tx Begun never = never
  as_end tx (Committed stamp) ends = tt
  as_end tx Dead ends = tt

  pub ended_transactions_stay_so_through_falls : (h : List Entry) (open_inputs : List Bool) → IsRun h open_inputs
      → Kept h → (a : ℕ) → is_client decl a ≡ true → (tx : TxId) (before later : List Deed)
      → before ++ later ≡ deeds a [] h → HasEnded (status before tx) → status (deeds a [] h) tx ≡ status before tx
  ended_transactions_stay_so_through_falls h open_inputs run kept a client tx before later is ended =
      let right : AreRight tx (before ++ later) =
      subst (AreRight tx) (sym is) (transactions_move_on_through_falls h open_inputs run kept a client tx) in
      subst (λ (ds : List Deed). status ds tx ≡ status before tx) is
      (fold-append (status_at tx) Unborn before later
      ∙ ended_on tx (status before tx) later (as_end tx (status before tx) ended)
      (right-second tx Unborn before later right))

  -- a client is asked about begun transactions alone
  pub clients_are_asked_about_begun_ones_through_falls : (h : List Entry) (open_inputs : List Bool)
      → IsRun h open_inputs → Kept h → (a : ℕ) → is_client decl a ≡ true
      → (before later : List Deed) (e : Envelope) (tx : TxId)
      → before ++ Takes (inputs.Got e) ∷ later ≡ deeds a [] h → e.message ≡ messages.Inquiry tx
      → status before tx ≢ Unborn
  clients_are_asked_about_begun_ones_through_falls h open_inputs run kept a client before later e tx is asks =
      let known : KnownFrom tx Unborn (before ++ Takes (inputs.Got e) ∷ later) =
      subst (KnownFrom tx Unborn) (sym is) (all_known h open_inputs run kept a client tx) in
      subst (IsKnownIn tx (status before tx)) asks
      (known-second tx Unborn before (Takes (inputs.Got e) ∷ later) known).0 (same_tx_itself tx)

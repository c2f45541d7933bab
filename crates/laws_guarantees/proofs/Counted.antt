-- So of each run: no vote that counts says that its site has forgotten, and nobody is told so; and a site that is asked
-- remembers.
use Rattle.std.proofs.Common.{[], ◌*◌, ◌≡◌, ◌≤◌, ◌-◌, ℕ, nat_le, Bool, true, false, List, length, Some, slice_get, sym}
use Rattle.std.proofs.Common.{ap, ◌∙◌, subst, ltb-true}
use Rattle.std.specs.Prelude.{slice_set}
use Rattle.qc_stamp.specs.declared.stamp.TxId.{TxId}
use Rattle.qc_list.specs.Vocabulary.{In}
use Rattle.qc_list.proofs.Members.{In-first}
use Rattle.qc_core.specs.Vocabulary.{IsLawful, IsShown}
use Rattle.qc_decl.specs.declared.declaration.Declaration.{Declaration}
use Rattle.qc_decl.specs.Vocabulary.{IsAccepted, is_client, is_site, most_committed_operations, most_record_bytes}
use Rattle.qc_entry.specs.declared.record.Prepared.{Prepared}
use Rattle.qc_entry.specs.Vocabulary.{without}
use Rattle.qc_lock.specs.declared.held.Held.{Held}
use Rattle.qc_lock.specs.Vocabulary.{held_of, is_held}
use Rattle.qc_msg.specs.declared.message.Message.TheVariants as messages
use Rattle.qc_msg.specs.declared.message.Want.TheVariants.{Prepare}
use Rattle.qc_msg.specs.Vocabulary.{Deed, Entry, Sends, deeds, mail, operations_of, turn_deeds}
use Rattle.qc_msg.proofs.Growth.{deeds-posted}
use Rattle.qc_promise.specs.Vocabulary.{ClientRequest, Current, account, fits_record, held_shown, promise_due}
use Rattle.qc_script.specs.Vocabulary.{IsScriptFor, Runs}
use Rattle.qc_script.specs.declared.script.Script.{Script}
use Rattle.qc_site.specs.Vocabulary.{SiteState, prepare_length, promise_of, site_after}
use Rattle.laws_turns.proofs.Served.{sites_are_what_their_steps_show}
use Rattle.laws_guarantees.specs.Vocabulary.{IsOpenVote, IsRemembered}
use Rattle.laws_due.specs.Vocabulary.{Votes}
use Rattle.qc_client.specs.Vocabulary.{client_after}
use Rattle.laws_guarantees.proofs.Accounts.{WasSent}
use Rattle.laws_guarantees.proofs.RequestGrounds.{has_grounds}
use Rattle.laws_guarantees.proofs.Stale.{client_slot, later, later_closed, later_few, later_run, same_deeds, same_slot}
use Rattle.laws_guarantees.proofs.Stale.{still, turn}
use Rattle.laws_guarantees.proofs.Voted.{asked, one_request, place, request_sent, site_has_room, site_holds, stood, tie}

module _ (decl : Declaration) (script : Script) (accepted : IsAccepted decl) (sound : IsScriptFor decl script) where
  -- a site without an open input that a client waits for

  module _ (h : List Entry) (open_inputs : List Bool) (run : Runs (IsLawful decl) decl script h open_inputs)
      (few : operations_of h ≤ 2 * most_committed_operations) where
    shown : (site : ℕ) → is_site decl site ≡ true → slice_get open_inputs site ≡ Some false
        → IsShown (deeds site [] h) (site_after decl site (deeds site [] h)).site
    shown site is free =
        sites_are_what_their_steps_show decl script h open_inputs run site (ltb-true site decl.sites is) free

    closed_remembers : (a : ℕ) (q : ClientRequest) (t : Current) (client : is_client decl a ≡ true)
        → (account decl a h).current ≡ Some t
        → (k : IsOpenVote (account decl a h) q) (free : slice_get open_inputs a ≡ Some false)
        → slice_get open_inputs q.site ≡ Some false → IsRemembered (deeds q.site [] h) t.tx
    closed_remembers a q t client current k free at_rest = record {
      held = subst (λ (tx : TxId). is_held (held_shown (deeds q.site [] h)) tx ≡ true) name
          (ap (λ (hs : List Held). is_held hs (tie decl script accepted sound h open_inputs run a client free q k).t.tx)
          (sym s.held)
          ∙ ap
          (λ (x : SiteState). is_held x.held
          (tie decl script accepted sound h open_inputs run a client free q k).t.tx) (sym here)
          ∙ site_holds decl script accepted sound h open_inputs run a client free q k);
      fits = subst (λ (tx : TxId). fits_record (promise_due (deeds q.site [] h) tx) ≡ true) name
          (ap (λ (p : Prepared). nat_le (prepare_length p) most_record_bytes) (sym same_promise)
          ∙ ap
          (λ (x : SiteState). nat_le (prepare_length (promise_of x
          (tie decl script accepted sound h open_inputs run a client free q k).t.tx)) most_record_bytes)
          (sym here)
          ∙ site_has_room decl script accepted sound h open_inputs run a client free q k few);
    }
      where
        here : (stood decl script accepted sound h open_inputs run).net.sites q.site
            ≡ (site_after decl q.site (deeds q.site [] h)).site
        here =
            ((stood decl script accepted sound h open_inputs run).sites_are q.site
            (place decl script accepted sound h open_inputs run a client free q k)).closed at_rest

        s : IsShown (deeds q.site [] h) (site_after decl q.site (deeds q.site [] h)).site
        s = shown q.site (place decl script accepted sound h open_inputs run a client free q k) at_rest

        same_promise : promise_of (site_after decl q.site (deeds q.site [] h)).site
            (tie decl script accepted sound h open_inputs run a client free q k).t.tx
            ≡ promise_due (deeds q.site [] h) (tie decl script accepted sound h open_inputs run a client free q k).t.tx
        same_promise i = record {
          tx = (tie decl script accepted sound h open_inputs run a client free q k).t.tx;
          epoch = s.epoch i;
          locks = (held_of (s.held i) (tie decl script accepted sound h open_inputs run a client free q k).t.tx).locks;
          own = (held_of (s.held i) (tie decl script accepted sound h open_inputs run a client free q k).t.tx).own;
          lines = without (s.log i) (s.recorded i);
        }

        name : (tie decl script accepted sound h open_inputs run a client free q k).t.tx ≡ t.tx
        name =
            let both_are : Some (tie decl script accepted sound h open_inputs run a client free q k).t ≡ Some t =
            sym (tie decl script accepted sound h open_inputs run a client free q k).current ∙ current in
            let same : (tie decl script accepted sound h open_inputs run a client free q k).t ≡ t = cc in
            ap (λ (x : Current). x.tx) same

  pub asked_sites_remember : (h : List Entry) (open_inputs : List Bool)
      (run : Runs (IsLawful decl) decl script h open_inputs) → operations_of h ≤ 2 * most_committed_operations
      → (a : ℕ) (q : ClientRequest) (t : Current) → is_client decl a ≡ true → (account decl a h).current ≡ Some t
      → IsOpenVote (account decl a h) q
      → slice_get open_inputs q.site ≡ Some false → IsRemembered (deeds q.site [] h) t.tx
  asked_sites_remember h open_inputs run few a q t client current k at_rest =
      by (client_slot decl script accepted sound h open_inputs run a client)
    where
      later_remembers : slice_get open_inputs a ≡ Some true → IsRemembered (deeds q.site [] h) t.tx
      later_remembers opened =
          subst (λ (ds : List Deed). IsRemembered ds t.tx)
          (same_deeds decl script accepted sound h open_inputs run a client q k opened q.site site)
          (subst (IsRemembered
          (deeds q.site [] (later decl script accepted sound h open_inputs run a client q k opened))) name
          (closed_remembers (later decl script accepted sound h open_inputs run a client q k opened)
          (slice_set open_inputs a false) run_after
          (later_few decl script accepted sound h open_inputs run a client q k opened few) a q it.t client
          it.current vote free
          (same_slot decl script accepted sound h open_inputs run a client q k opened q.site site ∙ at_rest)))
        where
          run_after : Runs (IsLawful decl) decl script
              (later decl script accepted sound h open_inputs run a client q k opened) (slice_set open_inputs a false)
          run_after = later_run decl script accepted sound h open_inputs run a client q k opened

          vote : IsOpenVote (account decl a (later decl script accepted sound h open_inputs run a client q k opened)) q
          vote = still decl script accepted sound h open_inputs run a client q k opened

          free : slice_get (slice_set open_inputs a false) a ≡ Some false
          free = later_closed decl script accepted sound h open_inputs run a client q k opened

          it : Votes decl (account decl a (later decl script accepted sound h open_inputs run a client q k opened))
              (client_after decl (a - decl.sites)
              (deeds a [] (later decl script accepted sound h open_inputs run a client q k opened))).client
          it =
              tie decl script accepted sound (later decl script accepted sound h open_inputs run a client q k opened)
              (slice_set open_inputs a false) run_after a client free q vote

          site : is_site decl q.site ≡ true
          site =
              place decl script accepted sound (later decl script accepted sound h open_inputs run a client q k opened)
              (slice_set open_inputs a false) run_after a client free q vote

          sent : WasSent (deeds a [] h) q t.tx
          sent =
              let s : (u : Current) × ((account decl a h).current ≡ Some u) × WasSent (deeds a [] h) q u.tx =
              (has_grounds decl (a - decl.sites) (deeds a [] h)).sent q k.among in
              let same : s.0 ≡ t = (let both_are : Some s.0 ≡ Some t = sym s.1 ∙ current in cc) in
              subst (λ (u : Current). WasSent (deeds a [] h) q u.tx) same s.2

          name : it.t.tx ≡ t.tx
          name = (one_request decl script accepted sound
              (later decl script accepted sound h open_inputs run a client q k opened) (slice_set open_inputs a false)
              run_after q.number q.site q.site it.t.tx t.tx Prepare q.want
              (asked decl script accepted sound (later decl script accepted sound h open_inputs run a client q k opened)
              (slice_set open_inputs a false) run_after a client free q vote)
              (request_sent decl script accepted sound
              (later decl script accepted sound h open_inputs run a client q k opened)
              (slice_set open_inputs a false) run_after a q.number q.site t.tx sent.epoch q.life q.want
              (subst
              (λ (ds : List Deed). In (Sends q.number q.site (messages.Request t.tx sent.epoch q.life q.want)) ds)
              (sym (deeds-posted a (length (mail h)) h
              (turn decl script accepted sound h open_inputs run a client q k opened)))
              (In-first (Sends q.number q.site (messages.Request t.tx sent.epoch q.life q.want)) (deeds a [] h)
              (turn_deeds (length (mail h)) (turn decl script accepted sound h open_inputs run a client q k opened))
              sent.is)))).1

      by : (b : Bool) × (slice_get open_inputs a ≡ Some b) → IsRemembered (deeds q.site [] h) t.tx
      by (true, opened) = later_remembers opened
      by (false, free) = closed_remembers h open_inputs run few a q t client current k free at_rest

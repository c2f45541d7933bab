-- So a site that is asked for a promise remembers, and no vote that counts says that its site has forgotten, within
-- twice the limit of committed operations.
use Rattle.std.proofs.Common.{◌*◌, ◌≡◌, ◌≤◌, ◌-◌, ℕ, Bool, true, false, List, [], ◌∷◌, ◌++◌, Some, slice_get, sym, ◌∙◌}
use Rattle.std.proofs.Common.{subst}
use Rattle.std.proofs.lemmas.List.{append-nil}
use Rattle.laws_votes.proofs.CountedOnce.{committed_operations_are_counted}
use Rattle.laws_votes.proofs.Fitting.{promise_fits, seen_before, seen_free, taken_before}
use Rattle.laws_votes.proofs.Told.{never_told}
use Rattle.laws_votes.proofs.Unforgotten.{AreAll, post_remembers}
use Rattle.laws_votes.proofs.Counted.{votes_remember}
use Rattle.laws_votes.specs.Vocabulary.{committed_operations}
use Rattle.qc_core.specs.Vocabulary.{IsLawfulWithFalls, is_up}
use Rattle.qc_decl.specs.Vocabulary.{IsAccepted, is_client, is_site, most_committed_operations}
use Rattle.qc_decl.specs.declared.declaration.Declaration.{Declaration}
use Rattle.laws_guarantees.proofs.ForgettingAnswers.{Forgets}
use Rattle.laws_guarantees.specs.Vocabulary.{IsOpenVote, IsRemembered}
use Rattle.laws_votes.proofs.Nets.{listed, net}
use Rattle.qc_list.specs.Vocabulary.{In}
use Rattle.qc_msg.specs.Vocabulary.{Deed, Entry, Takes, Tells, deeds, operations_of, sends_as}
use Rattle.qc_msg.specs.declared.message.Answer.{Answer}
use Rattle.qc_msg.specs.declared.message.Message.TheVariants as messages
use Rattle.qc_msg.specs.declared.message.Want.TheVariants.{Prepare}
use Rattle.qc_msg.specs.declared.record.Record.{Record}
use Rattle.qc_msg.specs.declared.reply.Reply.TheVariants.{Aborted}
use Rattle.qc_msg.specs.declared.reply.AbortCause.TheVariants.{Forgot}
use Rattle.qc_msg.specs.declared.step.Input.{Input}
use Rattle.qc_msg.specs.declared.turn.Posting.{Posting}
use Rattle.qc_msg.specs.declared.turn.Turn.{Turn}
use Rattle.laws_votes.proofs.Splits.{snoc_same}
use Rattle.qc_promise.specs.Vocabulary.{ClientRequest, Current, Kept, account, committed, epoch_shown, fits_record}
use Rattle.qc_promise.specs.Vocabulary.{life_shown, promise_due}
use Rattle.laws_reach.specs.Vocabulary.{HasTaken}
use Rattle.qc_script.specs.Vocabulary.{IsScriptFor, RunsWithFalls}
use Rattle.qc_script.specs.declared.script.Script.{Script}
use Rattle.laws_votes.proofs.Holding.{asked_sites_hold_through_falls, granted}
use Rattle.laws_votes.proofs.LifeGrounds.{has_life_grounds}
use Rattle.laws_votes.proofs.LivesAdded.{HasParticipant}

module _ (fits : ℕ → List Record → Type 0) (decl : Declaration) (script : Script) (h : List Entry)
    (open_inputs : List Bool) (accepted : IsAccepted decl) (sound : IsScriptFor decl script)
    (run : RunsWithFalls (IsLawfulWithFalls decl) fits decl script h open_inputs) (kept : Kept h)
    (counted : operations_of h ≤ 2 * most_committed_operations) where
  pub few : committed_operations decl h ≤ 2 * most_committed_operations
  few = subst (λ (n : ℕ). n ≤ 2 * most_committed_operations)
      (sym (committed_operations_are_counted fits decl script h open_inputs accepted sound run kept)) counted

  all : AreAll fits decl script accepted sound (committed decl h) few h
  all c among = (listed fits decl script h open_inputs accepted sound run kept c).1 among

  module _ (a : ℕ) (client : is_client decl a ≡ true) (t : Current) (begun : (account decl a h).current ≡ Some t)
      (site : ℕ) (is : is_site decl site ≡ true) (up : is_up (deeds site [] h) ≡ true) where
    pub fits_free : slice_get open_inputs site ≡ Some false → fits_record (promise_due (deeds site [] h) t.tx) ≡ true
    fits_free free =
        promise_fits fits decl script h open_inputs accepted sound run kept site is up
        (committed decl h) all few a client t begun (deeds site [] h)
        (seen_free fits decl script h open_inputs accepted sound run kept site is up free)

    pub fits_taken : slice_get open_inputs site ≡ Some true → (before : List Deed) (input : Input)
        → deeds site [] h ≡ before ++ Takes input ∷ [] → fits_record (promise_due before t.tx) ≡ true
    fits_taken taken before input same =
        let x : HasTaken decl (net fits decl script h open_inputs accepted sound run kept) site h =
        taken_before fits decl script h open_inputs accepted sound run kept site is up taken in
        subst (λ (ds : List Deed). fits_record (promise_due ds t.tx) ≡ true)
        (snoc_same x.before before (Takes x.given) (Takes input) (sym x.deeds_are ∙ same)).0
        (promise_fits fits decl script h open_inputs accepted sound run kept site is up
        (committed decl h) all few a client t begun x.before
        (seen_before fits decl script h open_inputs accepted sound run kept site is up x))

  module _ (a : ℕ) (client : is_client decl a ≡ true) where
    pub asked_sites_have_room_through_falls : (t : Current) → (account decl a h).current ≡ Some t → (q : ClientRequest)
        → IsOpenVote (account decl a h) q → slice_get open_inputs q.site ≡ Some false → is_up (deeds q.site [] h) ≡ true
        → q.life ≡ life_shown (deeds q.site [] h) → t.epoch ≡ epoch_shown (deeds q.site [] h)
        → IsRemembered (deeds q.site [] h) t.tx
    asked_sites_have_room_through_falls t begun q vote free up life epoch =
        let part : HasParticipant (account decl a h).current q =
        (has_life_grounds decl (a - decl.sites) (deeds a [] h)).votes q vote.among vote.want in
        record {
          held = asked_sites_hold_through_falls fits decl script h open_inputs accepted sound run kept a client t begun
              q vote free up life epoch;
          fits = fits_free a client t begun q.site
              (granted fits decl script h open_inputs accepted sound run kept a client part.0 part.1 q.site
              part.2).place up free;
        }

    pub never_posted : (q : ClientRequest) → IsOpenVote (account decl a h) q → (site : ℕ)
        → slice_get open_inputs site ≡ Some true → (turn : Turn) → IsLawfulWithFalls decl site (deeds site [] h) turn
        → (p : Posting) → In p (sends_as turn.append turn) → (x : Answer) → p.message ≡ messages.Answer q.number x
        → Forgets x → ⊥
    never_posted q vote site taken turn law p among x is forgets =
        post_remembers fits decl script accepted sound
        (committed decl h) few h open_inputs run kept all site turn taken law a client q vote p x among is forgets

    pub never_counted : (q : ClientRequest) → In q (account decl a h).requests → q.want ≡ Prepare → (x : Answer)
        → q.taken ≡ Some (Some x) → Forgets x → ⊥
    never_counted q among want x taken forgets =
        votes_remember fits decl script accepted sound (committed decl h) few h open_inputs run kept all a client
        (deeds a [] h) [] (sym (append-nil (deeds a [] h))) q x (among, want, taken) forgets

  pub never_said : (a site : ℕ) → In (Tells (Aborted (Forgot site))) (deeds a [] h) → ⊥
  never_said a site told = never_told fits decl script accepted sound
      (committed decl h) few h open_inputs run kept all a site told

-- So what every net keeps, every run with falls keeps whose records are kept.
use Rattle.std.proofs.Common.{◌≡◌, ℕ, Bool, true, false, List, [], Some, slice_get, inl, inr, refl, sym, ◌∙◌, subst}
use Rattle.std.specs.Prelude.{MatchOption}
use Rattle.qc_core.specs.declared.actor.Actor.TheVariants as actor
use Rattle.qc_core.specs.Vocabulary.{IsLawfulWithFalls, actor_after, is_up}
use Rattle.qc_decl.specs.Vocabulary.{IsAccepted, is_site}
use Rattle.qc_decl.specs.declared.declaration.Declaration.{Declaration}
use Rattle.qc_entry.specs.declared.line.Line.{Line}
use Rattle.qc_entry.specs.declared.line.OwnLine.{OwnLine}
use Rattle.qc_entry.specs.declared.record.Commit.{Commit as CommitRecord}
use Rattle.qc_list.specs.Vocabulary.{In}
use Rattle.qc_msg.specs.declared.message.Answer.TheVariants.{Yes}
use Rattle.qc_msg.specs.declared.message.Envelope.{Envelope}
use Rattle.qc_msg.specs.declared.message.Message.{Message}
use Rattle.qc_msg.specs.declared.message.Message.TheVariants.{Answer, Decision, Request}
use Rattle.qc_msg.specs.declared.message.Outcome.{Outcome}
use Rattle.qc_msg.specs.declared.message.Outcome.TheVariants as outcomes
use Rattle.qc_msg.specs.declared.message.Want.TheVariants.{Append}
use Rattle.qc_msg.specs.declared.record.Record.{Record}
use Rattle.qc_msg.specs.declared.record.Record.TheVariants as records
use Rattle.qc_msg.specs.Vocabulary.{Decided, Entry, deeds, mail}
use Rattle.laws_refinement.specs.Vocabulary.{IsRecorded, IsTrueVerdict, Refines, lines_in}
use Rattle.laws_refinement.proofs.Refining.{nets_refine}
use Rattle.laws_refinement.proofs.NetLaws as nets
use Rattle.laws_refinement.proofs.VotesKept.{votes_stand_on_records}
use Rattle.theory_onecopy.specs.Vocabulary.{AreApart, IsClosedLog, IsLogged, OneCopy, sorted}
use Rattle.theory_onecopy.proofs.Committed.{records_are_sorted}
use Rattle.qc_promise.specs.Vocabulary.{DecisionAgrees, Kept, VerdictAgrees, committed, records as written_in}
use Rattle.qc_script.specs.Vocabulary.{IsScriptFor, RunsWithFalls}
use Rattle.qc_script.specs.declared.script.Script.{Script}
use Rattle.qc_site.specs.Vocabulary.{SiteState, known}
use Rattle.qc_stamp.specs.declared.stamp.TxId.{TxId}
use Rattle.laws_atomic.proofs.Closed as closed_logs
use Rattle.laws_turns.proofs.MessageCases.{message_cases}
use Rattle.laws_reach.specs.Vocabulary.{AreStanding, IsOfClient, IsPromiseRecorded, IsReachedWithFalls, records_of}
use Rattle.laws_reach.proofs.Committing.{committed_records_stand}
use Rattle.laws_reach.proofs.Reaching.{runs_with_falls_reach_nets}
use Rattle.laws_reach.proofs.Sorted.{apart_too, sorted_alike}
use Rattle.laws_reach.proofs.Stood.{in_site}
use Rattle.laws_reach.proofs.Written.{Agree, written_are}

pub same_site : (s t : SiteState) → actor.Site s ≡ actor.Site t → s ≡ t
same_site s t is = let same : s ≡ t = cc in same

module _ (fits : ℕ → List Record → Type 0) (decl : Declaration) (script : Script) (h : List Entry)
    (open_inputs : List Bool) (accepted : IsAccepted decl) (sound : IsScriptFor decl script)
    (run : RunsWithFalls (IsLawfulWithFalls decl) fits decl script h open_inputs) (kept : Kept h) where
  r : IsReachedWithFalls decl h open_inputs
  r = runs_with_falls_reach_nets fits decl script h open_inputs accepted sound run kept

  agree : Agree decl r.net.records r.net.written
  agree = written_are decl accepted r.net r.reached

  site_log : (a : ℕ) (s : SiteState) → is_site decl a ≡ true → is_up (deeds a [] h) ≡ true
      → slice_get open_inputs a ≡ Some false → (actor_after decl a (deeds a [] h)).actor ≡ actor.Site s
      → r.net.sites a ≡ s
  site_log a s site up closed is = sym (same_site s (r.net.sites a)
      (sym is ∙ r.actors_are a (inl site) up closed ∙ in_site decl r.net a site))

  -- it is a run of the machine
  pub refined : (r : IsReachedWithFalls decl h open_inputs) × Refines decl r.net
  refined = (r, nets_refine decl accepted r.net r.reached)

  -- a vote
  pub votes_of_runs_stand_on_records : (e : Envelope) (to clock : ℕ) → In e (mail h) → is_site decl e.from ≡ true
      → e.message ≡ Answer to (Yes clock) → IsPromiseRecorded h e.from to
  votes_of_runs_stand_on_records e to clock sent site is =
      let v : IsRecorded r.net e.from to = votes_stand_on_records decl accepted r.net r.reached e
      (subst (In e) (sym r.mail_is) sent) site to clock is in
      record {
        promise = v.promise;
        stands = subst (In (records.Prepare v.promise)) (r.records_are e.from (inl site)) v.stands;
        request = v.request;
        sent = subst (In v.request) r.mail_is v.sent;
        numbered = v.numbered;
        epoch = v.epoch;
        life = v.life;
        named = v.named;
      }

  -- the commit records that stand

  pub listed : (commits : List CommitRecord) × AreStanding decl h commits
  listed = (
    r.net.written,
    record {
      each = λ c among. (let is : IsOfClient decl r.net.records c = agree.each c among in
          record {
            actor = is.actor;
            client = is.client;
            listed = subst (In (records.Commit c)) (r.records_are is.actor (inr (inl is.client))) is.listed;
          });
      all = λ c is. agree.all c (record {
        actor = is.actor;
        client = is.client;
        listed = subst (In (records.Commit c)) (sym (r.records_are is.actor (inr (inl is.client)))) is.listed;
      });
    },
  )

  module _ (commits : List CommitRecord) (committed_records_stand : AreStanding decl h commits) where
    of_net : (c : CommitRecord) → In c commits → In c r.net.written
    of_net c among =
        let is : IsOfClient decl (records_of h) c = committed_records_stand.each c among in
        agree.all c (record {
          actor = is.actor;
          client = is.client;
          listed = subst (In (records.Commit c)) (sym (r.records_are is.actor (inr (inl is.client)))) is.listed;
        })

    to_them : (c : CommitRecord) → In c r.net.written → In c commits
    to_them c among =
        let is : IsOfClient decl r.net.records c = agree.each c among in
        committed_records_stand.all c (record {
          actor = is.actor;
          client = is.client;
          listed = subst (In (records.Commit c)) (r.records_are is.actor (inr (inl is.client))) is.listed;
        })

    net_apart : AreApart r.net.written
    net_apart = nets.apart decl accepted r.net r.reached

    pub apart : AreApart commits
    apart = apart_too r.net.written commits of_net net_apart

    pub one_copy : OneCopy decl (sorted commits)
    one_copy = subst (OneCopy decl) (sorted_alike r.net.written commits net_apart to_them of_net)
        (nets.nets_are_one_copy decl accepted r.net r.reached)

    -- lines

    logged : (l : Line) → IsLogged decl r.net.written l → IsLogged decl commits l
    logged l k = record {
      commit = k.commit;
      listed = to_them k.commit k.listed;
      stamped = k.stamped;
      named = k.named;
      operation = k.operation;
    }

    net_logged : (l : Line) → IsLogged decl commits l → IsLogged decl r.net.written l
    net_logged l k = record {
      commit = k.commit;
      listed = of_net k.commit k.listed;
      stamped = k.stamped;
      named = k.named;
      operation = k.operation;
    }

    closed_too : (log : List Line) → IsClosedLog decl r.net.written log → IsClosedLog decl commits log
    closed_too log closed l m among committed same before depends =
        closed l m among (net_logged m committed) same before depends

    pub site_lines : (a : ℕ) (s : SiteState) (line : Line) → is_site decl a ≡ true → is_up (deeds a [] h) ≡ true
        → slice_get open_inputs a ≡ Some false → (actor_after decl a (deeds a [] h)).actor ≡ actor.Site s
        → In line (known s) → IsLogged decl commits line
    site_lines a s line site up closed is among =
        logged line (nets.site_lines decl accepted r.net r.reached a line site (r.up_is a (inl site) ∙ up)
        (subst (λ (t : SiteState). In line (known t)) (sym (site_log a s site up closed is)) among))

    pub message_lines : (e : Envelope) (line : Line) → In e (mail h) → In line (lines_in e.message)
        → IsLogged decl commits line
    message_lines e line sent among = logged line
        (nets.message_lines decl accepted r.net r.reached e line (subst (In e) (sym r.mail_is) sent) among)

    pub site_closed : (a : ℕ) (s : SiteState) → is_site decl a ≡ true → is_up (deeds a [] h) ≡ true
        → slice_get open_inputs a ≡ Some false → (actor_after decl a (deeds a [] h)).actor ≡ actor.Site s
        → IsClosedLog decl commits (known s)
    site_closed a s site up closed is =
        subst (λ (t : SiteState). IsClosedLog decl commits (known t)) (site_log a s site up closed is)
        (closed_too (known (r.net.sites a)) (closed_logs.site_closed decl accepted r.net r.reached a site
        (r.up_is a (inl site) ∙ up)))

    pub view_closed : (e : Envelope) (tx : TxId) (epoch life object : ℕ) (view : List Line) (own : List OwnLine)
        → In e (mail h) → e.message ≡ Request tx epoch life (Append object view own) → IsClosedLog decl commits view
    view_closed e tx epoch life object view own sent is =
        closed_too view (closed_logs.view_closed decl accepted r.net r.reached e tx epoch life object view own
        (subst (In e) (sym r.mail_is) sent) is)

    -- decisions

    verdict_too : (tx : TxId) (verdict : Outcome) → IsTrueVerdict r.net.written tx verdict
        → IsTrueVerdict commits tx verdict
    verdict_too tx (outcomes.Committed stamp) is = (is.0, to_them is.0 is.1, is.2, is.3)
    verdict_too tx outcomes.Aborted is = λ c among named. is c (of_net c among) named
    verdict_too tx outcomes.Active is = tt

    pub decisions_tell_records_that_stand : (e : Envelope) (tx : TxId) (verdict : Outcome) → In e (mail h)
        → e.message ≡ Decision tx verdict → IsTrueVerdict commits tx verdict
    decisions_tell_records_that_stand e tx verdict sent is =
        verdict_too tx verdict (nets.decisions_agree_with_records decl accepted r.net r.reached e tx verdict
        (subst (In e) (sym r.mail_is) sent) is)

  -- those that clients wrote or rose with

  pub committed_apart : AreApart (committed decl h)
  committed_apart = apart_too (written_in decl h) (committed decl h)
      (λ c. ((records_are_sorted (written_in decl h) there.stamps).1 c).0) there
    where
      there : AreApart (written_in decl h)
      there = apart (written_in decl h) (committed_records_stand decl h kept)

  pub committed_records_are_one_copy_through_falls : OneCopy decl (committed decl h)
  committed_records_are_one_copy_through_falls = one_copy (written_in decl h) (committed_records_stand decl h kept)

  -- a Decision agrees with the committed transactions
  verdict_agrees : (tx : TxId) (verdict : Outcome) → IsTrueVerdict (written_in decl h) tx verdict
      → VerdictAgrees (committed decl h) tx verdict
  verdict_agrees tx (outcomes.Committed stamp) is =
      record {
        commit = is.0;
        listed = ((records_are_sorted (written_in decl h)
            (apart (written_in decl h) (committed_records_stand decl h kept)).stamps).1 is.0).1 is.1;
        named = is.2;
        stamped = is.3;
      }
  verdict_agrees tx outcomes.Aborted is =
      λ c among. is c (((records_are_sorted (written_in decl h)
      (apart (written_in decl h) (committed_records_stand decl h kept)).stamps).1 c).0 among)
  verdict_agrees tx outcomes.Active is = tt

  agrees : (m : Message) → ((tx : TxId) (verdict : Outcome) → m ≡ Decision tx verdict
      → IsTrueVerdict (written_in decl h) tx verdict) → DecisionAgrees (committed decl h) m
  agrees m true_one =
      message_cases
      (λ m request answer decision question. ((tx : TxId) (verdict : Outcome) → m ≡ Decision tx verdict
      → IsTrueVerdict (written_in decl h) tx verdict)
      → MatchOption decision (Unit {0}) (λ (v : Decided). VerdictAgrees (committed decl h) v.tx v.verdict))
      (λ q its. tt) (λ a its. tt) (λ v its. verdict_agrees v.tx v.verdict (its v.tx v.verdict refl)) (λ tx its. tt)
      (λ m its. tt) m true_one

  pub decisions_agree_with_committed_through_falls : (e : Envelope) → In e (mail h)
      → DecisionAgrees (committed decl h) e.message
  decisions_agree_with_committed_through_falls e sent =
      agrees e.message (λ tx verdict is. decisions_tell_records_that_stand (written_in decl h)
      (committed_records_stand decl h kept) e tx verdict sent is)

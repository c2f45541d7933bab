-- In each run with falls of an accepted declaration whose script names declared objects, an unanswered request of a
-- client is at its site.
use Rattle.std.proofs.Common.{◌≡◌, ℕ, ◌<◌, ◌≤◌, Bool, true, List, [], ◌∷◌, refl, sym, subst, arith}
use Rattle.std.proofs.lemmas.Bool.{lt-ltb}
use Rattle.qc_list.specs.Vocabulary.{In}
use Rattle.qc_list.proofs.Members.{every-In}
use Rattle.qc_core.specs.declared.actor.Actor.{Actor}
use Rattle.qc_core.specs.declared.actor.Actor.TheVariants as actor
use Rattle.qc_core.specs.Vocabulary.{IsLawfulWithFalls, actor_after, actor_takes}
use Rattle.qc_core.specs.Lives as lives
use Rattle.qc_decl.specs.Vocabulary.{IsAccepted, actors, is_client}
use Rattle.qc_decl.specs.declared.declaration.Declaration.{Declaration}
use Rattle.laws_turns.specs.Vocabulary.{AsksDeclared, IsAtReceiver}
use Rattle.laws_turns.proofs.Rounds.{AreProper, IsProper}
use Rattle.laws_turns.proofs.SiteReplies.{IsReply}
use Rattle.qc_link.specs.Vocabulary.{most_actors}
use Rattle.qc_msg.specs.declared.message.Envelope.{Envelope}
use Rattle.qc_msg.specs.declared.message.Message.{Message}
use Rattle.qc_msg.specs.declared.record.Record.{Record}
use Rattle.qc_msg.specs.declared.step.Input.TheVariants as inputs
use Rattle.qc_msg.specs.declared.turn.Posting.{Posting}
use Rattle.qc_msg.specs.Vocabulary.{Deed, Entry, mail, sends_as}
use Rattle.qc_script.specs.declared.script.Script.{Script}
use Rattle.qc_script.specs.Vocabulary.{RunsWithFalls, inbox, is_request, request_numbers}
use Rattle.qc_site.specs.Vocabulary.{SiteState, passed, site_at}
use Rattle.laws_due.proofs.Places.{client_past, client_within}
use Rattle.laws_due.proofs.Proper.{IsOwnProper, post_sends, rise_sends, run_proper}
use Rattle.laws_due.proofs.Somewhere.{AreToOthers, IsOther}
use Rattle.laws_due.proofs.SiteTurns.{IsDeclared, declared_request, site_up}
use Rattle.laws_due.proofs.Taken.{AreReplied, IsReplied, RepliesTo}
use Rattle.laws_due.proofs.Reached.{unanswered_at_receiver}
use Rattle.laws_due.proofs.AskingCases.{asking_cases}
use Rattle.qc_list.proofs.Numbers.{numbers_apart}
use Rattle.qc_script.proofs.Actors.{few_actors}

module _ (decl : Declaration) (script : Script) (accepted : IsAccepted decl) (asks : AsksDeclared decl script)
    (fits : ℕ → List Record → Type 0) (a : ℕ) (client : is_client decl a ≡ true) where
  few : actors decl ≤ most_actors
  few = few_actors decl accepted

  a_low : a < most_actors
  a_low = let all : actors decl ≤ most_actors = few in let within : a < actors decl = client_within decl a client in
      omega arith

  past : decl.sites ≤ a
  past = client_past decl a client

  site_other : (to : ℕ) → to < decl.sites → IsOther a to
  site_other to low = (
    (let high : decl.sites ≤ a = past in let lower : a < most_actors = a_low in omega arith),
    numbers_apart to a (λ same. (let less : to < decl.sites = low in let high : decl.sites ≤ a = past in
        let is : to ≡ a = same in omega arith)),
  )

  to_site : (to : ℕ) (m : Message) → IsProper decl to m → is_request m ≡ true → IsOther a to
  to_site to m is request =
      asking_cases (λ (x : Message). IsProper decl to x → IsOther a to) (λ q proper. site_other to proper.0)
      (λ tx never. absurd never) (λ epoch never. absurd never) (λ start never. absurd never) m request is

  to_sites : (ps : List Posting) → AreProper decl ps → AreToOthers a ps
  to_sites [] are = tt
  to_sites (p ∷ ps) are = (to_site p.to p.message are.0, to_sites ps are.1)

  -- each request in the mail is declared
  declared_at : (h : List Entry) (open_inputs : List Bool)
      → RunsWithFalls (IsLawfulWithFalls decl) fits decl script h open_inputs → (e : Envelope) → In e (mail h)
      → e.from ≡ a → is_request e.message ≡ true → IsDeclared decl e
  declared_at h open_inputs run e member from request =
      declared_request decl e e.message refl request
      (every-In (IsOwnProper decl accepted a client) e (mail h)
      (run_proper decl accepted a client script asks fits h open_inputs run) member from)

  site_replies : (e : Envelope) → IsDeclared decl e → IsReplied decl a e
  site_replies e d = record { other = site_other e.to d.site; replies = at }
    where
      at : (ds : List Deed) → lives.is_up ds ≡ true
          → RepliesTo e (actor_takes decl (actor_after decl e.to ds).actor (inputs.Got e)).turn
      at ds up =
          let state : (s : SiteState) × ((actor_after decl e.to ds).actor ≡ actor.Site s) =
          site_up decl e.to (lt-ltb e.to decl.sites d.site) ds up in
          let reply : IsReply e.from e.number (site_at decl (passed state.0 e.message) e.from e.number e.message) =
          d.replies (passed state.0 e.message) in
          subst (λ (v : Actor). RepliesTo e (actor_takes decl v (inputs.Got e)).turn) (sym state.1)
          (record { answer = reply.answer; rest = reply.rest; sends = reply.sends })

  pub client_replied : AreReplied decl script fits a
  client_replied = record {
    replied = λ h open_inputs run e member from request. site_replies e
        (declared_at h open_inputs run e member from request);
    posts = λ older before after run b turn whole law is. to_sites (sends_as turn.append turn)
        (post_sends decl accepted a client script asks fits older before run b turn law is);
    rises = λ older before after run b kept turn whole law is. to_sites (sends_as turn.append turn)
        (rise_sends decl accepted a client script asks fits older before run b kept turn law is);
  }

  pub unanswered_requests_are_at_their_sites_with_falls : (h : List Entry) (open_inputs : List Bool)
      → RunsWithFalls (IsLawfulWithFalls decl) fits decl script h open_inputs → (n : ℕ)
      → In n (request_numbers (inbox script a h).unanswered) → IsAtReceiver script h open_inputs a n
  unanswered_requests_are_at_their_sites_with_falls h open_inputs run n member =
      unanswered_at_receiver decl script fits few a a_low client_replied h open_inputs run n member

  pub receiver_is_site : (h : List Entry) (open_inputs : List Bool)
      → RunsWithFalls (IsLawfulWithFalls decl) fits decl script h open_inputs → (e : Envelope) → In e (mail h)
      → e.from ≡ a → is_request e.message ≡ true → e.to < decl.sites
  receiver_is_site h open_inputs run e member from request = (declared_at h open_inputs run e member from request).site

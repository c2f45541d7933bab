-- What a site and a client say of a transaction, as the answer to an Ask about it.
use Rattle.std.proofs.Common.{[], ◌≡◌, ◌≤◌, ℕ, ◌-◌, false, List, ◌∷◌, Some, None, slice_get, refl, sym, ap, subst}
use Rattle.std.proofs.Common.{arith}
use Rattle.std.specs.List.{AllByRecursion as Every}
use Rattle.qc_client.specs.declared.client.Client.{Client}
use Rattle.qc_client.specs.Vocabulary.{is_begun}
use Rattle.qc_client.specs.Conduct as clients
use Rattle.qc_commit.specs.Vocabulary.{known}
use Rattle.qc_core.specs.declared.actor.Actor.{Actor}
use Rattle.qc_core.specs.declared.actor.Actor.TheVariants as actors_of
use Rattle.qc_core.specs.Vocabulary.{actor_takes}
use Rattle.qc_core.proofs.AdminTurns.{no_answers}
use Rattle.qc_core.proofs.AdminWrites.{admin_written}
use Rattle.qc_core.proofs.SiteWrites.{IsAnsweredTo, IsAnswerTo}
use Rattle.qc_core.proofs.Written.{NoAnswer, client_answers, client_written}
use Rattle.qc_decl.specs.declared.declaration.Declaration.{Declaration}
use Rattle.qc_entry.specs.declared.record.Prepared.{Prepared}
use Rattle.qc_msg.specs.Vocabulary.{WasSentTo, answer_in, quiet, Answered, verdict_in}
use Rattle.qc_msg.specs.declared.message.Envelope.{Envelope}
use Rattle.qc_msg.specs.declared.message.Message.{Message}
use Rattle.qc_msg.specs.declared.step.Input.{Input}
use Rattle.qc_msg.specs.declared.step.Input.TheVariants as inputs
use Rattle.qc_msg.specs.declared.turn.Posting.{Posting}
use Rattle.qc_promise.specs.Vocabulary.{asks_answer}
use Rattle.qc_site.specs.Vocabulary.{AreByClients, site_takes}
use Rattle.laws_bounds.proofs.ActorsInForm.{StateInForm}
use Rattle.laws_bounds.proofs.AdminsAsked.{admin_takes_asked}
use Rattle.laws_bounds.proofs.ClientsInForm.{ClientInForm, known_form, verdict_form}
use Rattle.laws_bounds.proofs.Forms.{PromiseInForm}
use Rattle.laws_bounds.proofs.MailFits.{SaysTurn, SiteSays, site_says, SiteAnswers, unasked_none, unheard_none}
use Rattle.laws_bounds.proofs.AnswersToAsks.{MessageTold, SendsTold, TurnTold, ActorAsked, ActorTold, AnswerTold}
use Rattle.laws_bounds.proofs.AnswersToAsks.{VerdictTold}
use Rattle.std.specs.Prelude.{MatchOption, Option}
use Rattle.qc_msg.specs.declared.message.Outcome.{Outcome}
use Rattle.laws_bounds.proofs.Options.{match_weaker}
use Rattle.qc_client.proofs.HeardCases.{heard_cases}

-- what is said

module _ (ms : List Envelope) where
  pub quiet_told : TurnTold ms quiet
  quiet_told = record { sends = tt; failed_sends = tt }

  abbrev Told : Answered → Type 0
  Told a = AnswerTold ms a.to a.answer

  no_answer_told : (m : Message) → answer_in m ≡ None → MessageTold ms m
  no_answer_told m none = subst (λ (o : Option Answered). MatchOption o (Unit {0}) Told) (sym none) tt

  pub unanswering_told : (ps : List Posting) → Every NoAnswer ps → SendsTold ms ps
  unanswering_told [] none = tt
  unanswering_told (p ∷ ps) none = (no_answer_told p.message none.0, unanswering_told ps none.1)

  -- a site

  says_told : (m : Message) → SiteSays m → MessageTold ms m
  says_told m says =
      match_weaker (λ (a : Answered). SiteAnswers a.answer) Told (answer_in m)
      (λ a said. match_weaker (λ (verdict : Outcome). ⊥) (VerdictTold ms a.to) (verdict_in a.answer)
      (λ verdict never. absurd never) said.1) says

  all_says_told : (ps : List Posting) → Every (λ (p : Posting). SiteSays p.message) ps → SendsTold ms ps
  all_says_told [] all = tt
  all_says_told (p ∷ ps) all = (says_told p.message all.0, all_says_told ps all.1)

  by_clients : (ps : List Prepared) → Every PromiseInForm ps → AreByClients ps
  by_clients [] all = tt
  by_clients (p ∷ ps) all = ((let low : p.tx.client ≤ 15 = all.0.tx.client in omega arith), by_clients ps all.1)

  -- a client

  unheard_told : (to : ℕ) (m : Message) → IsAnsweredTo None to (answer_in m) → MessageTold ms m
  unheard_told to m is = unheard_none Told to (answer_in m) is

  unheard : (ps : List Posting) → Every (λ (p : Posting). IsAnsweredTo None p.to (answer_in p.message)) ps
      → SendsTold ms ps
  unheard [] all = tt
  unheard (p ∷ ps) all = (unheard_told p.to p.message all.0, unheard ps all.1)

  unasked_told : (e : Envelope) → asks_answer e.message ≡ false → (to : ℕ) (m : Message)
      → IsAnsweredTo (Some e) to (answer_in m) → MessageTold ms m
  unasked_told e none to m is = unasked_none Told e none to (answer_in m) is

  unasked : (e : Envelope) → asks_answer e.message ≡ false → (ps : List Posting) → Every (IsAnswerTo (inputs.Got e)) ps
      → SendsTold ms ps
  unasked e none [] all = tt
  unasked e none (p ∷ ps) all = (unasked_told e none p.to p.message all.0, unasked e none ps all.1)

  module _ (decl : Declaration) where
    abbrev Heard : Client → Envelope → Message → Type 0
    Heard c e m = SendsTold ms (clients.heard decl c e.from e.number m).turn.sends

    heard_told : (k : ℕ) (c : Client) → ClientInForm decl k c → (e : Envelope) → slice_get ms e.number ≡ Some e
        → Heard c e e.message
    heard_told k c w e sent =
        heard_cases decl c e.from e.number (λ m move. e.message ≡ m → SendsTold ms move.turn.sends) (λ m is. tt)
        (λ to answer is. subst (Heard c e) is (unasked e (ap asks_answer is) _ (client_answers decl c (inputs.Got e))))
        (λ tx is. (tt, tt))
        (λ tx is. (
          (
            tx,
            (e, sent, is),
            verdict_form tx (known c.desk tx) (is_begun tx c.front.transaction)
                (known_form tx c.desk.commits w.desk.commits),
          ),
          tt,
        )) e.message refl

    sends_told : (k a : ℕ) (c : Client) (g : Input) → ClientInForm decl k c → WasSentTo a ms g
        → SendsTold ms (clients.client_takes decl c g).turn.sends
    sends_told k a c (inputs.Called command) w sent = unheard _ (client_answers decl c (inputs.Called command))
    sends_told k a c (inputs.Got e) w sent = heard_told k c w e sent.0
    sends_told k a c (inputs.Lost number) w sent = unheard _ (client_answers decl c (inputs.Lost number))

    -- each actor

    pub takes_told : (a : ℕ) (v : Actor) (g : Input) → StateInForm decl a v → WasSentTo a ms g → ActorAsked ms v
        → ActorTold ms (actor_takes decl v g)
    takes_told a (actors_of.Site s) g w sent asked =
        let says : SaysTurn (site_takes decl s g).turn = site_says decl s g (by_clients s.prepared w.form.prepared) in
        record {
          turn = record { sends = all_says_told _ says.sends; failed_sends = all_says_told _ says.failed_sends };
          asked = tt;
        }
    takes_told a (actors_of.Client c) g w sent asked = record {
      turn = record {
        sends = sends_told (a - decl.sites) a c g w.1 sent;
        failed_sends = subst (SendsTold ms) (sym (client_written decl c g).failed_sends) tt;
      };
      asked = tt;
    }
    takes_told a (actors_of.Admin m) g w sent asked = record {
      turn = record {
        sends = unanswering_told _ (no_answers _ (admin_written decl m g).sends);
        failed_sends = subst (SendsTold ms) (sym (admin_written decl m g).failed_sends) tt;
      };
      asked = (admin_takes_asked ms decl m g asked).admin;
    }
    takes_told a actors_of.Down (inputs.Called command) w sent asked =
        record { turn = record { sends = tt; failed_sends = tt }; asked = tt }
    takes_told a actors_of.Down (inputs.Got e) w sent asked = record { turn = quiet_told; asked = tt }
    takes_told a actors_of.Down (inputs.Lost number) w sent asked = record { turn = quiet_told; asked = tt }

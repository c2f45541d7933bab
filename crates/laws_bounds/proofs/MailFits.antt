-- What is sent tells promises of clients alone: those that a site tells as it closes. So what the administrator takes
-- fits.
use Rattle.std.proofs.Common.{◌≡◌, ℕ, true, false, List, [], ◌∷◌, fold, Option, Some, None, refl, sym, ap, subst}
use Rattle.std.specs.List.{AllByRecursion as Every}
use Rattle.std.specs.declared.cmp.Ordering.{Ordering}
use Rattle.std.specs.declared.cmp.Ordering.TheVariants.{Less, Equal, Greater}
use Rattle.qc_list.specs.Vocabulary.{by_order, inserted}
use Rattle.qc_admin.specs.Vocabulary.{AnswerFits, MessageFits}
use Rattle.qc_client.specs.declared.client.Client.{Client}
use Rattle.qc_client.specs.Conduct as clients
use Rattle.qc_core.proofs.AdminTurns.{no_answers}
use Rattle.qc_core.proofs.AdminWrites.{admin_written}
use Rattle.qc_core.proofs.SiteReaches.{IsOfClients}
use Rattle.qc_core.proofs.SiteWrites.{IsAnsweredTo, IsAnswerTo}
use Rattle.qc_core.proofs.Written.{NoAnswer, client_answers, client_written}
use Rattle.qc_decl.specs.declared.declaration.Declaration.{Declaration}
use Rattle.qc_entry.specs.declared.record.Prepared.{Prepared}
use Rattle.qc_epoch.specs.Vocabulary.{Admin}
use Rattle.qc_epoch.specs.Conduct as admins
use Rattle.qc_msg.specs.declared.message.Answer.{Answer}
use Rattle.qc_msg.specs.declared.message.Envelope.{Envelope}
use Rattle.qc_msg.specs.declared.message.Message.{Message}
use Rattle.qc_msg.specs.declared.message.Outcome.{Outcome}
use Rattle.qc_msg.specs.declared.message.Outcome.TheVariants.{Committed, Aborted, Active}
use Rattle.qc_msg.specs.declared.message.Want.{Want}
use Rattle.qc_msg.specs.declared.message.Want.TheVariants.{Read, Append, Prepare}
use Rattle.qc_msg.specs.declared.step.Input.{Input}
use Rattle.qc_msg.specs.declared.step.Input.TheVariants as inputs
use Rattle.qc_msg.specs.declared.turn.Posting.{Posting}
use Rattle.qc_msg.specs.declared.turn.Turn.{Turn}
use Rattle.qc_msg.specs.Vocabulary.{answer_in, Answered, shut_in, verdict_in, quiet}
use Rattle.qc_msg.specs.declared.payload.Snapshot.{Snapshot}
use Rattle.qc_promise.specs.Vocabulary.{asks_answer}
use Rattle.qc_site.specs.Vocabulary.{AreByClients, SiteMove, SiteState, answers as answered_with, finishes, grants}
use Rattle.qc_site.specs.Vocabulary.{moved, passed, promise_cmp, site_at, site_takes}
use Rattle.qc_site.proofs.RequestCases.{append_cases, close_rows, fault_is, install_rows, join_cases, prepare_cases}
use Rattle.qc_site.proofs.RequestCases.{read_cases, request_cases}
use Rattle.qc_stamp.specs.declared.stamp.TxId.{TxId}
use Rattle.std.specs.Prelude.{MatchOption}
use Rattle.laws_bounds.proofs.Options.{match_weaker}
use Rattle.laws_bounds.proofs.SiteCases.{site_cases}
use Rattle.qc_client.proofs.HeardCases.{heard_cases}

abbrev pub SendsFit : List Posting → Type 0
SendsFit ps = Every (λ (p : Posting). MessageFits p.message) ps

pub record TurnFits (turn : Turn) : Type 0 where
  pub sends : SendsFit turn.sends
  pub failed_sends : SendsFit turn.failed_sends

-- no answer, where nothing is heard, or what is heard asks none

pub unheard_none : (Q : Answered → Type 0) (to : ℕ) (o : Option Answered) → IsAnsweredTo None to o
    → MatchOption o (Unit {0}) Q
unheard_none Q to None is = tt
unheard_none Q to (Some a) is = absurd is

pub unasked_none : (Q : Answered → Type 0) (e : Envelope) → asks_answer e.message ≡ false → (to : ℕ)
    (o : Option Answered) → IsAnsweredTo (Some e) to o → MatchOption o (Unit {0}) Q
unasked_none Q e none to None is = tt
unasked_none Q e none to (Some a) is =
    absurd (let asks : asks_answer e.message ≡ true = is.1.1 in let never : ⊥ = cc in never)

-- what is no answer fits

no_answer_fits : (m : Message) → answer_in m ≡ None → MessageFits m
no_answer_fits m none =
    subst (λ (o : Option Answered). MatchOption o (Unit {0}) (λ (a : Answered). AnswerFits (Some a.answer)))
    (sym none) tt

pub unanswering_fit : (ps : List Posting) → Every NoAnswer ps → SendsFit ps
unanswering_fit [] none = tt
unanswering_fit (p ∷ ps) none = (no_answer_fits p.message none.0, unanswering_fit ps none.1)

-- promises in order are those that were ordered

ordered_one : (ps : List Prepared) (p : Prepared) → AreByClients ps → AreByClients (p ∷ [])
    → AreByClients (inserted promise_cmp ps p)
ordered_one [] p each here = here
ordered_one (q ∷ qs) p each here = by (promise_cmp p q) (ordered_one qs p each.1 here)
  where
    by : (o : Ordering) → AreByClients (inserted promise_cmp qs p)
        → AreByClients (by_order o (p ∷ q ∷ qs) (p ∷ qs) (q ∷ inserted promise_cmp qs p))
    by Less rest = (here.0, each)
    by Equal rest = (here.0, each.1)
    by Greater rest = (each.0, rest)

ordered_all : (before ps : List Prepared) → AreByClients before → AreByClients ps
    → AreByClients (fold (inserted promise_cmp) before ps)
ordered_all before [] first each = first
ordered_all before (p ∷ ps) first each =
    ordered_all (inserted promise_cmp before p) ps (ordered_one before p first (each.0, tt)) each.1

-- a site: how a transaction stands is no answer of its

abbrev pub SiteAnswers : Answer → Type 0
SiteAnswers answer =
    MatchOption (shut_in answer) (Unit {0}) (λ (z : Snapshot). AreByClients z.prepared)
    × MatchOption (verdict_in answer) (Unit {0}) (λ (verdict : Outcome). ⊥)

abbrev pub SiteSays : Message → Type 0
SiteSays m = MatchOption (answer_in m) (Unit {0}) (λ (a : Answered). SiteAnswers a.answer)

pub record SaysTurn (turn : Turn) : Type 0 where
  pub sends : Every (λ (p : Posting). SiteSays p.message) turn.sends
  pub failed_sends : Every (λ (p : Posting). SiteSays p.message) turn.failed_sends

module _ (decl : Declaration) (s : SiteState) (from number : ℕ) (each : AreByClients s.prepared) where
  abbrev Fits : SiteMove → Type 0
  Fits m = SaysTurn m.turn

  told : AreByClients (fold (inserted promise_cmp) [] s.prepared)
  told = ordered_all [] s.prepared tt each

  granted : (tx : TxId) (want : Want) → Fits (grants decl s from number tx want)
  granted tx (Read read) =
      read_cases Fits decl s from number tx read
      (λ free. record { sends = ((tt, tt), tt); failed_sends = tt })
      (λ c clash. record { sends = ((tt, tt), (tt, tt)); failed_sends = tt })
  granted tx (Append object view own) =
      append_cases Fits decl s from number tx object view own
      (λ free. record { sends = ((tt, tt), tt); failed_sends = tt })
      (λ c clash. record { sends = ((tt, tt), (tt, tt)); failed_sends = tt })
  granted tx Prepare =
      prepare_cases Fits s from number tx (record { sends = ((tt, tt), tt); failed_sends = tt })
      (λ held stands. record { sends = ((tt, tt), tt); failed_sends = tt })
      (λ held made. record { sends = ((tt, tt), tt); failed_sends = ((tt, tt), tt) })

  finished : (tx : TxId) (verdict : Outcome) → Fits (finishes s tx verdict)
  finished tx (Committed stamp) =
      join_cases Fits s tx stamp (λ none. record { sends = tt; failed_sends = tt })
      (λ p some. record { sends = tt; failed_sends = tt })
  finished tx Aborted = record { sends = tt; failed_sends = tt }
  finished tx Active = record { sends = tt; failed_sends = tt }

  silent : Fits (moved s quiet)
  silent = record { sends = tt; failed_sends = tt }

  at : (message : Message) → Fits (site_at decl s from number message)
  at =
      site_cases decl s from number (λ message move. Fits move) (λ message. silent)
      (λ tx epoch life want.
      request_cases Fits decl s from number tx epoch life want silent
      (fault_is (λ (a : Answer). Fits (moved s (answered_with from number a))) s epoch life
      (record { sends = ((tt, tt), tt); failed_sends = tt })
      (λ other. record { sends = ((tt, tt), tt); failed_sends = tt })
      (record { sends = ((tt, tt), tt); failed_sends = tt }))
      (λ is. granted tx want)) finished
      (λ k.
      close_rows Fits s from number k (record { sends = ((tt, tt), tt); failed_sends = tt })
      (record { sends = ((tt, tt), tt); failed_sends = tt }) (record { sends = ((told, tt), tt); failed_sends = tt })
      (record { sends = ((told, tt), tt); failed_sends = ((tt, tt), tt) }))
      (λ k clock lines.
      install_rows Fits s from number k clock lines (record { sends = ((tt, tt), tt); failed_sends = tt })
      (record { sends = ((tt, tt), tt); failed_sends = tt })
      (record { sends = ((tt, tt), tt); failed_sends = ((tt, tt), tt) }))

pub site_says : (decl : Declaration) (s : SiteState) (g : Input) → AreByClients s.prepared
    → SaysTurn (site_takes decl s g).turn
site_says decl s (inputs.Called command) each = record { sends = tt; failed_sends = tt }
site_says decl s (inputs.Got e) each = at decl (passed s e.message) e.from e.number each e.message
site_says decl s (inputs.Lost number) each = record { sends = tt; failed_sends = tt }

says_fits : (m : Message) → SiteSays m → MessageFits m
says_fits m says =
    match_weaker (λ (a : Answered). SiteAnswers a.answer) (λ (a : Answered). AnswerFits (Some a.answer)) (answer_in m)
    (λ a fits. fits.0) says

all_fit : (ps : List Posting) → Every (λ (p : Posting). SiteSays p.message) ps → SendsFit ps
all_fit [] all = tt
all_fit (p ∷ ps) all = (says_fits p.message all.0, all_fit ps all.1)

pub site_fits : (decl : Declaration) (s : SiteState) (g : Input) → IsOfClients s → TurnFits (site_takes decl s g).turn
site_fits decl s g w =
    let says : SaysTurn (site_takes decl s g).turn = site_says decl s g w.prepared in
    record { sends = all_fit _ says.sends; failed_sends = all_fit _ says.failed_sends }

-- a client answers how a transaction stands, and nothing else

unheard_fits : (to : ℕ) (m : Message) → IsAnsweredTo None to (answer_in m) → MessageFits m
unheard_fits to m is = unheard_none (λ (a : Answered). AnswerFits (Some a.answer)) to (answer_in m) is

unheard : (ps : List Posting) → Every (λ (p : Posting). IsAnsweredTo None p.to (answer_in p.message)) ps → SendsFit ps
unheard [] all = tt
unheard (p ∷ ps) all = (unheard_fits p.to p.message all.0, unheard ps all.1)

module _ (e : Envelope) (none : asks_answer e.message ≡ false) where
  unasked_fits : (to : ℕ) (m : Message) → IsAnsweredTo (Some e) to (answer_in m) → MessageFits m
  unasked_fits to m is = unasked_none (λ (a : Answered). AnswerFits (Some a.answer)) e none to (answer_in m) is

  unasked : (ps : List Posting) → Every (IsAnswerTo (inputs.Got e)) ps → SendsFit ps
  unasked [] all = tt
  unasked (p ∷ ps) all = (unasked_fits p.to p.message all.0, unasked ps all.1)

module _ (decl : Declaration) (c : Client) where
  abbrev Heard : Envelope → Message → Type 0
  Heard e m = SendsFit (clients.heard decl c e.from e.number m).turn.sends

  heard_fits : (e : Envelope) → SendsFit (clients.heard decl c e.from e.number e.message).turn.sends
  heard_fits e =
      heard_cases decl c e.from e.number (λ m move. e.message ≡ m → SendsFit move.turn.sends) (λ m is. tt)
      (λ to answer is. subst (Heard e) is (unasked e (ap asks_answer is) _ (client_answers decl c (inputs.Got e))))
      (λ tx is. (tt, tt)) (λ tx is. (tt, tt)) e.message refl

  sends_fit : (g : Input) → SendsFit (clients.client_takes decl c g).turn.sends
  sends_fit (inputs.Called command) = unheard _ (client_answers decl c (inputs.Called command))
  sends_fit (inputs.Got e) = heard_fits e
  sends_fit (inputs.Lost number) = unheard _ (client_answers decl c (inputs.Lost number))

  pub client_fits : (g : Input) → TurnFits (clients.client_takes decl c g).turn
  client_fits g =
      record { sends = sends_fit g; failed_sends = subst SendsFit (sym (client_written decl c g).failed_sends) tt }

-- the administrator answers nothing

pub admin_fits : (decl : Declaration) (m : Admin) (g : Input) → TurnFits (admins.admin_takes decl m g).turn
admin_fits decl m g = record {
  sends = unanswering_fit _ (no_answers _ (admin_written decl m g).sends);
  failed_sends = subst SendsFit (sym (admin_written decl m g).failed_sends) tt;
}

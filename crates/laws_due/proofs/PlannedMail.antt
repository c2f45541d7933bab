-- So all that is sent in a run tells of epochs with plans, and what an actor takes is of it.
use Rattle.std.proofs.Common.{◌≡◌, ℕ, ◌+◌, ◌-◌, ◌==◌, Bool, true, false, cond, if◌then◌else◌, List, [], ◌∷◌, ◌++◌}
use Rattle.std.proofs.Common.{length, Option, Some, None, slice_get, refl, sym, ap, ◌∙◌, subst}
use Rattle.std.specs.Prelude.{option_to_list}
use Rattle.std.specs.List.{AllByRecursion as Every}
use Rattle.qc_decl.specs.declared.declaration.Declaration.{Declaration}
use Rattle.qc_decl.specs.Vocabulary.{controller, is_client, is_site}
use Rattle.qc_msg.specs.declared.message.Envelope.{Envelope}
use Rattle.qc_msg.specs.declared.step.Step.{Step}
use Rattle.qc_msg.specs.declared.step.Step.TheVariants as steps
use Rattle.qc_msg.specs.declared.turn.Posting.{Posting}
use Rattle.qc_msg.specs.declared.turn.Turn.{Turn}
use Rattle.qc_msg.specs.Vocabulary.{Deed, Entry, by, deed_at, deeds, envelope_of, envelopes, first_epoch, heard, mail}
use Rattle.qc_msg.specs.Vocabulary.{posted, quiet}
use Rattle.qc_msg.proofs.GrownMail.{mail-append, mail-posted, mail-taken}
use Rattle.qc_client.specs.Vocabulary.{client_after, moved as client_moved, new_client}
use Rattle.qc_core.specs.Vocabulary.{IsLawful}
use Rattle.qc_script.specs.Vocabulary.{Runs, phase_of}
use Rattle.qc_script.specs.Runs.{begins, takes, posts, phase, control}
use Rattle.qc_script.specs.declared.script.Script.{Script}
use Rattle.qc_site.specs.Vocabulary.{moved, new_site, site_after}
use Rattle.laws_turns.proofs.Mailed.{first_all, rest_all}
use Rattle.laws_turns.proofs.Numbered.{control_silent, mail-silent, phase_silent}
use Rattle.laws_due.proofs.Epochs.{DeedPlanned, TellPlanned, TellsPlanned, folded_planned, says_nothing}
use Rattle.laws_due.proofs.ClientEpochs.{client_planned}
use Rattle.laws_due.specs.Vocabulary.{IsPlanned}
use Rattle.laws_turns.proofs.StepCases.{deed_cases}
use Rattle.qc_list.proofs.Members.{every-append, every-at}

-- the mail, and what an actor takes of it

abbrev pub IsMailPlanned : Declaration → List Envelope → Type 0
IsMailPlanned decl ms = Every (λ (e : Envelope). TellsPlanned decl e.message) ms

pub envelopes_planned : (decl : Declaration) (a n : ℕ) (ps : List Posting) → TellPlanned decl ps
    → IsMailPlanned decl (envelopes a n ps)
envelopes_planned decl a n [] are = tt
envelopes_planned decl a n (p ∷ ps) are = (are.0, envelopes_planned decl a (n + 1) ps are.1)

got_planned : (decl : Declaration) (ms : List Envelope) (n : ℕ) (o : Option Envelope) → IsMailPlanned decl ms
    → slice_get ms n ≡ o → Every (DeedPlanned decl) (heard o)
got_planned decl ms n None first is = tt
got_planned decl ms n (Some e) first is = (every-at (λ (x : Envelope). TellsPlanned decl x.message) ms n e first is, tt)

step_planned : (decl : Declaration) (ms : List Envelope) (step : Step) → IsMailPlanned decl ms
    → Every (DeedPlanned decl) (deed_at ms step)
step_planned decl ms step first =
    deed_cases ms (λ (s : Step) (ds : List Deed). Every (DeedPlanned decl) ds) (λ s w m r. tt) (λ command. (tt, tt))
    (λ n. got_planned decl ms n (slice_get ms n) first refl) (λ n. (tt, tt)) (λ written. (tt, tt))
    (λ n to message. (tt, tt)) (λ reply. (tt, tt)) (λ cause pending. (tt, tt)) (λ records. (tt, tt)) step

mine_planned : (decl : Declaration) (mine : Bool) (ms : List Envelope) (step : Step) → IsMailPlanned decl ms
    → Every (DeedPlanned decl) (cond mine (deed_at ms step) [])
mine_planned decl true ms step first = step_planned decl ms step first
mine_planned decl false ms step first = tt

pub deeds_planned : (decl : Declaration) (a : ℕ) (ms : List Envelope) (h : List Entry) → IsMailPlanned decl ms
    → IsMailPlanned decl (mail h) → Every (DeedPlanned decl) (deeds a ms h)
deeds_planned decl a ms [] first all = tt
deeds_planned decl a ms (e ∷ h) first all =
    every-append (DeedPlanned decl) (cond (e.actor == a) (deed_at ms e.step) [])
    (deeds a (ms ++ option_to_list (envelope_of e)) h)
    (mine_planned decl (e.actor == a) ms e.step first)
    (deeds_planned decl a (ms ++ option_to_list (envelope_of e)) h
    (every-append (λ (x : Envelope). TellsPlanned decl x.message) ms (option_to_list (envelope_of e)) first
    (first_all (λ (x : Envelope). TellsPlanned decl x.message) (envelope_of e) (mail h) all))
    (rest_all (λ (x : Envelope). TellsPlanned decl x.message) (envelope_of e) (mail h) all))

-- so it is of each lawful turn, and of all that is sent

module _ (decl : Declaration) (first : IsPlanned decl first_epoch) where
  lawful_planned : (a : ℕ) (ds : List Deed) (turn : Turn) → Every (DeedPlanned decl) ds → IsLawful decl a ds turn
      → TellPlanned decl turn.sends
  lawful_planned a ds turn all law = at (is_site decl a) (is_client decl a) law
    where
      from : (t : Turn) → TellPlanned decl t.sends → Some t ≡ Some turn → TellPlanned decl turn.sends
      from t planned is = subst (λ (v : Turn). TellPlanned decl v.sends) (let same : t ≡ turn = cc in same) planned

      at : (s c : Bool) → (if s then Some (site_after decl a ds).turn else
          (if c then Some (client_after decl (a - decl.sites) ds).turn else None)) ≡ Some turn
          → TellPlanned decl turn.sends
      at true c is = from (site_after decl a ds).turn
          (folded_planned decl ds (moved (new_site a) quiet) all (record { epoch = first; closed = tt })
          (says_nothing decl)).sends is
      at false true is = from (client_after decl (a - decl.sites) ds).turn
          (client_planned decl ds (client_moved (new_client (a - decl.sites)) quiet) tt) is
      at false false is = absurd (let never : ⊥ = cc in never)

  pub run_planned : (script : Script) (h : List Entry) (open_inputs : List Bool)
      → Runs (IsLawful decl) decl script h open_inputs → IsMailPlanned decl (mail h)
  run_planned script h open_inputs begins = tt
  run_planned script h open_inputs (takes a taken before older run free ready) =
      subst (IsMailPlanned decl) (sym (mail-taken older a taken)) (run_planned script older before run)
  run_planned script h open_inputs (posts a turn before older run taken law) =
      subst (IsMailPlanned decl) (sym (mail-append older (by a (posted (length (mail older)) turn))
      ∙ ap (λ (v : List Envelope). mail older ++ v) (mail-posted a (length (mail older)) turn)))
      (every-append (λ (e : Envelope). TellsPlanned decl e.message) (mail older)
      (envelopes a (length (mail older)) turn.sends) (run_planned script older before run)
      (envelopes_planned decl a (length (mail older)) turn.sends
      (lawful_planned a (deeds a [] older) turn
      (deeds_planned decl a [] older tt (run_planned script older before run)) law)))
  run_planned script h open_inputs (phase before older run none done all_quiet more) =
      subst (IsMailPlanned decl) (sym (mail-silent older (controller decl) (steps.Phase (phase_of older + 1))
      (phase_silent (phase_of older + 1)))) (run_planned script older before run)
  run_planned script h open_inputs (control line lines step before older run left is) =
      subst (IsMailPlanned decl) (sym (mail-silent older (controller decl) step (control_silent line step is)))
      (run_planned script older before run)

-- What an actor takes is of the mail: what holds of each message that was sent holds of each that it took.
use Rattle.std.proofs.Common.{◌≡◌, ℕ, ◌==◌, Bool, true, false, cond, List, [], ◌∷◌, ◌++◌, Option, Some, None, slice_get}
use Rattle.std.proofs.Common.{refl}
use Rattle.std.specs.Prelude.{MatchOption, option_to_list}
use Rattle.std.specs.List.{AllByRecursion as Every, cons_option}
use Rattle.qc_list.proofs.Members.{every-append, every-at}
use Rattle.qc_msg.specs.declared.message.Envelope.{Envelope}
use Rattle.qc_msg.specs.declared.step.Input.{Input}
use Rattle.qc_msg.specs.declared.step.Step.{Step}
use Rattle.qc_msg.specs.Vocabulary.{Deed, Entry, Takes, deed_at, deeds, envelope_of, heard, mail}
use Rattle.laws_guarantees.specs.Vocabulary.{message_in, taken_by}
use Rattle.laws_turns.proofs.StepCases.{deed_cases}

module _ (P : Envelope → Type 0) where
  -- a message that is taken has the property, if one is
  abbrev pub IfMessage : Input → Type 0
  IfMessage g = MatchOption (message_in g) (Unit {0}) P

  abbrev pub IfTaken : Deed → Type 0
  IfTaken d = MatchOption (taken_by d) (Unit {0}) P

  abbrev pub EachTaken : List Deed → Type 0
  EachTaken ds = Every IfTaken ds

  abbrev Each : List Envelope → Type 0
  Each ms = Every P ms

  got : (ms : List Envelope) (n : ℕ) (o : Option Envelope) → Each ms → slice_get ms n ≡ o → EachTaken (heard o)
  got ms n None all is = tt
  got ms n (Some e) all is = (every-at P ms n e all is, tt)

  of_step : (ms : List Envelope) (step : Step) → Each ms → EachTaken (deed_at ms step)
  of_step ms step all =
      deed_cases ms (λ (s : Step) (ds : List Deed). EachTaken ds) (λ s w m r. tt) (λ command. (tt, tt))
      (λ n. got ms n (slice_get ms n) all refl) (λ n. (tt, tt)) (λ written. (tt, tt)) (λ n to message. (tt, tt))
      (λ reply. (tt, tt)) (λ cause pending. (tt, tt)) (λ records. (tt, tt)) step

  mine : (is_mine : Bool) (ms : List Envelope) (step : Step) → Each ms
      → EachTaken (cond is_mine (deed_at ms step) [])
  mine true ms step all = of_step ms step all
  mine false ms step all = tt

  first_of_all : (o : Option Envelope) (xs : List Envelope) → Each (cons_option o xs) → Each (option_to_list o)
  first_of_all None xs all = tt
  first_of_all (Some x) xs all = (all.0, tt)

  rest_of_all : (o : Option Envelope) (xs : List Envelope) → Each (cons_option o xs) → Each xs
  rest_of_all None xs all = all
  rest_of_all (Some x) xs all = all.1

  taken_from : (a : ℕ) (ms : List Envelope) (h : List Entry) → Each ms → Each (mail h) → EachTaken (deeds a ms h)
  taken_from a ms [] first all = tt
  taken_from a ms (e ∷ h) first all =
      every-append IfTaken (cond (e.actor == a) (deed_at ms e.step) [])
      (deeds a (ms ++ option_to_list (envelope_of e)) h) (mine (e.actor == a) ms e.step first)
      (taken_from a (ms ++ option_to_list (envelope_of e)) h
      (every-append P ms (option_to_list (envelope_of e)) first (first_of_all (envelope_of e) (mail h) all))
      (rest_of_all (envelope_of e) (mail h) all))

  pub each_taken : (a : ℕ) (h : List Entry) → Each (mail h) → EachTaken (deeds a [] h)
  each_taken a h all = taken_from a [] h tt all

  pub last_taken : (ds : List Deed) (g : Input) → EachTaken (ds ++ Takes g ∷ []) → IfMessage g
  last_taken [] g all = all.0
  last_taken (d ∷ ds) g all = last_taken ds g all.1

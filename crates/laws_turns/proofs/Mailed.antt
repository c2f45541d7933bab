-- In each run all mail is stamped, and so is all that an actor takes.
use Rattle.std.proofs.Common.{◌≡◌, ℕ, ◌+◌, ◌==◌, Bool, true, false, cond, List, [], ◌∷◌, ◌++◌, length, Option, Some}
use Rattle.std.proofs.Common.{None, slice_get, refl, sym, ap, ◌∙◌, subst}
use Rattle.std.specs.Prelude.{option_to_list}
use Rattle.std.specs.List.{AllByRecursion as Every, cons_option}
use Rattle.qc_core.specs.Vocabulary.{IsInput, IsLawful, IsStamped}
use Rattle.qc_decl.specs.declared.declaration.Declaration.{Declaration}
use Rattle.qc_decl.specs.Vocabulary.{controller}
use Rattle.qc_msg.specs.declared.message.Envelope.{Envelope}
use Rattle.qc_msg.specs.declared.step.Step.{Step}
use Rattle.qc_msg.specs.declared.step.Step.TheVariants as steps
use Rattle.qc_msg.specs.declared.turn.Posting.{Posting}
use Rattle.qc_msg.specs.Vocabulary.{Deed, Entry, Falls, Rises, Sends, Takes, Tells, Writes, by, deed_at, deeds}
use Rattle.qc_msg.specs.Vocabulary.{envelope_of, envelopes, heard, mail, posted}
use Rattle.qc_msg.proofs.GrownMail.{mail-append, mail-posted, mail-taken}
use Rattle.qc_script.specs.Vocabulary.{Runs, phase_of}
use Rattle.qc_script.specs.Runs.{begins, takes, posts, phase, control}
use Rattle.qc_script.specs.declared.script.Script.{Script}
use Rattle.laws_turns.proofs.Numbered.{control_silent, mail-silent, phase_silent}
use Rattle.laws_turns.proofs.StampsOwn.{AreStamped}
use Rattle.laws_turns.proofs.Stamped.{lawful_stamped}
use Rattle.laws_turns.proofs.StepCases.{deed_cases}
use Rattle.qc_list.proofs.Members.{every-append, every-at}

abbrev pub IsMailStamped : List Envelope → Type 0
IsMailStamped ms = Every (λ (e : Envelope). IsStamped e.message) ms

pub envelopes_stamped : (a n : ℕ) (ps : List Posting) → AreStamped ps → IsMailStamped (envelopes a n ps)
envelopes_stamped a n [] are = tt
envelopes_stamped a n (p ∷ ps) are = (are.0, envelopes_stamped a (n + 1) ps are.1)

pub decisions_name_stamps_of_their_clients : (decl : Declaration) (script : Script) (h : List Entry)
    (open_inputs : List Bool)
    → Runs (IsLawful decl) decl script h open_inputs → IsMailStamped (mail h)
decisions_name_stamps_of_their_clients decl script h open_inputs begins = tt
decisions_name_stamps_of_their_clients decl script h open_inputs (takes a taken before older run free ready) =
    subst IsMailStamped (sym (mail-taken older a taken))
    (decisions_name_stamps_of_their_clients decl script older before run)
decisions_name_stamps_of_their_clients decl script h open_inputs (posts a turn before older run taken law) =
    subst IsMailStamped (sym (mail-append older (by a (posted (length (mail older)) turn))
    ∙ ap (λ (v : List Envelope). mail older ++ v) (mail-posted a (length (mail older)) turn)))
    (every-append (λ (e : Envelope). IsStamped e.message) (mail older) (envelopes a (length (mail older)) turn.sends)
    (decisions_name_stamps_of_their_clients decl script older before run)
    (envelopes_stamped a (length (mail older)) turn.sends (lawful_stamped decl a (deeds a [] older) turn law)))
decisions_name_stamps_of_their_clients decl script h open_inputs (phase before older run none done quiet more) =
    subst IsMailStamped (sym (mail-silent older (controller decl) (steps.Phase (phase_of older + 1))
    (phase_silent (phase_of older + 1)))) (decisions_name_stamps_of_their_clients decl script older before run)
decisions_name_stamps_of_their_clients decl script h open_inputs (control line lines step before older run left is) =
    subst IsMailStamped (sym (mail-silent older (controller decl) step (control_silent line step is)))
    (decisions_name_stamps_of_their_clients decl script older before run)

-- what is taken is of the mail

abbrev pub IsInputDeed : Deed → Type 0
IsInputDeed (Takes g) = IsInput g
IsInputDeed (Writes written) = Unit {0}
IsInputDeed (Sends number to message) = Unit {0}
IsInputDeed (Tells reply) = Unit {0}
IsInputDeed (Falls cause pending) = Unit {0}
IsInputDeed (Rises records) = Unit {0}

abbrev pub AreInputs : List Deed → Type 0
AreInputs ds = Every IsInputDeed ds

heard_input : (ms : List Envelope) (n : ℕ) (o : Option Envelope) → IsMailStamped ms → slice_get ms n ≡ o
    → AreInputs (heard o)
heard_input ms n None stamped is = tt
heard_input ms n (Some e) stamped is = (every-at (λ (x : Envelope). IsStamped x.message) ms n e stamped is, tt)

step_inputs : (ms : List Envelope) (step : Step) → IsMailStamped ms → AreInputs (deed_at ms step)
step_inputs ms step stamped =
    deed_cases ms (λ step ds. AreInputs ds) (λ step w m r. tt) (λ command. (tt, tt))
    (λ n. heard_input ms n (slice_get ms n) stamped refl) (λ n. (tt, tt)) (λ written. (tt, tt))
    (λ n to message. (tt, tt)) (λ reply. (tt, tt)) (λ cause pending. (tt, tt)) (λ records. (tt, tt)) step

mine_inputs : (mine : Bool) (ms : List Envelope) (step : Step) → IsMailStamped ms
    → AreInputs (cond mine (deed_at ms step) [])
mine_inputs true ms step stamped = step_inputs ms step stamped
mine_inputs false ms step stamped = tt

pub first_all : {A : Type 0} (P : A → Type 0) (o : Option A) (xs : List A) → Every P (cons_option o xs)
    → Every P (option_to_list o)
first_all P None xs all = tt
first_all P (Some x) xs all = (all.0, tt)

pub rest_all : {A : Type 0} (P : A → Type 0) (o : Option A) (xs : List A) → Every P (cons_option o xs) → Every P xs
rest_all P None xs all = all
rest_all P (Some x) xs all = all.1

pub deeds_inputs : (a : ℕ) (ms : List Envelope) (h : List Entry) → IsMailStamped ms → IsMailStamped (mail h)
    → AreInputs (deeds a ms h)
deeds_inputs a ms [] stamped all = tt
deeds_inputs a ms (e ∷ h) stamped all =
    every-append IsInputDeed (cond (e.actor == a) (deed_at ms e.step) [])
    (deeds a (ms ++ option_to_list (envelope_of e)) h)
    (mine_inputs (e.actor == a) ms e.step stamped)
    (deeds_inputs a (ms ++ option_to_list (envelope_of e)) h
    (every-append (λ (x : Envelope). IsStamped x.message) ms (option_to_list (envelope_of e)) stamped
    (first_all (λ (x : Envelope). IsStamped x.message) (envelope_of e) (mail h) all))
    (rest_all (λ (x : Envelope). IsStamped x.message) (envelope_of e) (mail h) all))

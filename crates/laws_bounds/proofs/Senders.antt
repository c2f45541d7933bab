-- In each run with falls messages come from actors, and so does what an actor takes.
use Rattle.std.proofs.Common.{◌≡◌, ℕ, ◌+◌, ◌<◌, ◌==◌, Bool, true, false, cond, List, [], ◌∷◌, ◌++◌, length, Option}
use Rattle.std.proofs.Common.{Some, None, slice_get, refl, sym, subst, eqb-true, arith}
use Rattle.std.specs.Prelude.{option_to_list}
use Rattle.std.specs.List.{AllByRecursion as Every}
use Rattle.std.proofs.lemmas.Bool.{ltb-true}
use Rattle.qc_list.proofs.Members.{every-append, every-at}
use Rattle.qc_admin.specs.Vocabulary.{MessageFits}
use Rattle.qc_core.specs.Vocabulary.{IsLawfulWithFalls, actor_after, with_record}
use Rattle.qc_decl.proofs.Clients.{client_within}
use Rattle.qc_decl.specs.Vocabulary.{actors, administrator, controller, is_administrator, is_client, is_site}
use Rattle.qc_decl.specs.declared.declaration.Declaration.{Declaration}
use Rattle.qc_mailbox.proofs.Keeping.{same_mail}
use Rattle.laws_turns.proofs.Numbered.{mail-silent}
use Rattle.qc_link.specs.Vocabulary.{most_actors}
use Rattle.laws_turns.proofs.LivedMoves.{line_silent}
use Rattle.qc_msg.specs.declared.message.Envelope.{Envelope}
use Rattle.qc_msg.specs.declared.record.Record.{Record}
use Rattle.qc_msg.specs.declared.step.Fall.TheVariants as causes
use Rattle.qc_msg.specs.declared.step.Step.{Step}
use Rattle.qc_msg.specs.declared.step.Step.TheVariants as steps
use Rattle.qc_msg.specs.declared.turn.Posting.{Posting}
use Rattle.qc_msg.specs.declared.turn.Turn.{Turn}
use Rattle.qc_msg.specs.Vocabulary.{Deed, Entry, by, deed_at, deeds, envelope_of, envelopes, heard, mail, marked}
use Rattle.qc_msg.specs.Vocabulary.{posted_as, sends_as, Takes, Writes, Sends, Tells, Falls, Rises, got_in, risen_in}
use Rattle.qc_msg.proofs.GrownMail.{mail-append, mail-taken, mail-cons}
use Rattle.qc_msg.proofs.Growth.{mail-posted_as}
use Rattle.qc_script.specs.Vocabulary.{RunsWithFalls, begins, control, damaged, falls, phase, phase_of, posts, rises}
use Rattle.qc_script.specs.Vocabulary.{takes, unopened}
use Rattle.qc_script.specs.declared.script.Script.{Script}
use Rattle.laws_bounds.specs.Vocabulary.{IsOfClient, IsSound, risen_at}
use Rattle.qc_msg.specs.declared.step.Input.TheVariants as inputs
use Rattle.laws_bounds.proofs.StepCases.{deed_cases}

abbrev pub AreFrom : ℕ → List Envelope → Type 0
AreFrom n ms = Every (λ (e : Envelope). e.from < n) ms

envelopes_from : (limit a n : ℕ) (ps : List Posting) → a < limit → AreFrom limit (envelopes a n ps)
envelopes_from limit a n [] low = tt
envelopes_from limit a n (p ∷ ps) low = (low, envelopes_from limit a (n + 1) ps low)

-- only sites, clients and the administrator have lawful turns
pub lawful_actor : (decl : Declaration) (a : ℕ) (ds : List Deed) (turn : Turn) → IsLawfulWithFalls decl a ds turn
    → a < actors decl
lawful_actor decl a ds turn law =
    by (is_site decl a) (is_client decl a) (is_administrator decl a) refl refl refl law.called_for
  where
    its : Option Turn
    its = Some (actor_after decl a ds).turn

    by : (s c m : Bool) → is_site decl a ≡ s → is_client decl a ≡ c → is_administrator decl a ≡ m
        → cond s its (cond c its (cond m its None)) ≡ Some (with_record turn) → a < actors decl
    by true c m site client admin is = (let low : a < decl.sites = ltb-true a decl.sites site in omega arith)
    by false true m site client admin is = client_within decl a client
    by false false true site client admin is =
        (let same : a ≡ administrator decl = eqb-true a (administrator decl) admin in omega arith)
    by false false false site client admin is = absurd (let never : ⊥ = cc in never)

module _ (decl : Declaration) (script : Script) (fits : ℕ → List Record → Type 0) where
  abbrev IsRun : List Entry → List Bool → Type 0
  IsRun h open_inputs = RunsWithFalls (IsLawfulWithFalls decl) fits decl script h open_inputs

  still : (h : List Entry) (e : Entry) → envelope_of e ≡ None → AreFrom (actors decl) (mail h)
      → AreFrom (actors decl) (mail (h ++ e ∷ []))
  still h e none from = subst (AreFrom (actors decl)) (sym (same_mail h e none)) from

  posted : (a n : ℕ) (h : List Entry) (turn : Turn) → a < actors decl → AreFrom (actors decl) (mail h)
      → AreFrom (actors decl) (mail h ++ mail (by a (posted_as turn.append n turn)))
  posted a n h turn low from =
      every-append (λ (e : Envelope). e.from < actors decl) (mail h) (mail (by a (posted_as turn.append n turn))) from
      (subst (AreFrom (actors decl)) (sym (mail-posted_as turn.append a n turn))
      (envelopes_from (actors decl) a n (sends_as turn.append turn) low))

  pub run_from : (h : List Entry) (open_inputs : List Bool) → IsRun h open_inputs → AreFrom (actors decl) (mail h)
  run_from h open_inputs begins = tt
  run_from h open_inputs (takes a g before older run free rdy) =
      subst (AreFrom (actors decl)) (sym (mail-taken older a g)) (run_from older before run)
  run_from h open_inputs (posts a turn before older run taken law) =
      subst (AreFrom (actors decl)) (sym (mail-append older (by a (posted_as turn.append (length (mail older)) turn))))
      (posted a (length (mail older)) older turn (lawful_actor decl a (deeds a [] older) turn law)
      (run_from older before run))
  run_from h open_inputs (phase before older run none done calm more) =
      still older (marked (controller decl) (steps.Phase (phase_of older + 1))) refl (run_from older before run)
  run_from h open_inputs (control line lines step before older run left is) =
      subst (AreFrom (actors decl)) (sym (mail-silent older (controller decl) step (line_silent line step is)))
      (run_from older before run)
  run_from h open_inputs (falls a lines before older run left) =
      still older (marked a (steps.Fell causes.Script None)) refl (run_from older before run)
  run_from h open_inputs (rises a rs turn lines before older run left fit has law) =
      subst (AreFrom (actors decl))
      (sym (mail-append older (by a (steps.Rose rs ∷ posted_as turn.append (length (mail older)) turn))))
      (posted a (length (mail older)) older turn
      (lawful_actor decl a (deeds a [] (older ++ marked a (steps.Rose rs) ∷ [])) turn law) (run_from older before run))
  run_from h open_inputs (damaged a offset lines before older run left) =
      still older (marked a (steps.Damaged offset)) refl (run_from older before run)
  run_from h open_inputs (unopened a cause lines before older run left disk) =
      still older (marked a (steps.Fell cause None)) refl (run_from older before run)

-- what is taken comes from them, and what rises is of clients

abbrev pub IsSoundMessage : Envelope → Type 0
IsSoundMessage e = (e.from < most_actors) × MessageFits e.message

abbrev pub AreSound : List Envelope → Type 0
AreSound ms = Every IsSoundMessage ms

heard_sound : (o : Option Envelope) → ((e : Envelope) → o ≡ Some e → IsSoundMessage e) → Every IsSound (heard o)
heard_sound None low = tt
heard_sound (Some e) low = (low e refl, tt)

plain_sound : (d : Deed) → risen_in d ≡ None → got_in d ≡ None → IsSound d
plain_sound (Takes (inputs.Called command)) risen got = (tt, tt)
plain_sound (Takes (inputs.Got e)) risen got = absurd (let never : ⊥ = cc in never)
plain_sound (Takes (inputs.Lost number)) risen got = (tt, tt)
plain_sound (Writes written) risen got = tt
plain_sound (Sends number to message) risen got = tt
plain_sound (Tells reply) risen got = tt
plain_sound (Falls cause pending) risen got = tt
plain_sound (Rises rs) risen got = absurd (let never : ⊥ = cc in never)

deed_sound : (ms : List Envelope) (step : Step) → AreSound ms → Every IsOfClient (risen_at step)
    → Every IsSound (deed_at ms step)
deed_sound ms step from risen =
    deed_cases ms (λ s ds. Every IsOfClient (risen_at s) → Every IsSound ds) (λ s risen. tt)
    (λ n risen. heard_sound (slice_get ms n) (λ e is. every-at IsSoundMessage ms n e from is))
    (λ rs risen. (risen, tt)) (λ s d none got risen. (plain_sound d none got, tt)) step risen

part_from : (xs ys : List Envelope) → AreSound (xs ++ ys) → AreSound xs × AreSound ys
part_from [] ys all = (tt, all)
part_from (x ∷ xs) ys all = let rest = part_from xs ys all.1 in ((all.0, rest.0), rest.1)

own_sound : (b : Bool) (ds : List Deed) → Every IsSound ds → Every IsSound (cond b ds [])
own_sound true ds all = all
own_sound false ds all = tt

pub deeds_sound : (a : ℕ) (ms : List Envelope) (h : List Entry) → AreSound ms → AreSound (mail h)
    → Every (λ (e : Entry). Every IsOfClient (risen_at e.step)) h → Every IsSound (deeds a ms h)
deeds_sound a ms [] from more risen = tt
deeds_sound a ms (e ∷ h) from more risen =
    let both = part_from (option_to_list (envelope_of e)) (mail h) (subst AreSound (mail-cons e h) more) in
    every-append IsSound (cond (e.actor == a) (deed_at ms e.step) []) (deeds a (ms ++ option_to_list (envelope_of e)) h)
    (own_sound (e.actor == a) (deed_at ms e.step) (deed_sound ms e.step from risen.0))
    (deeds_sound a (ms ++ option_to_list (envelope_of e)) h
    (every-append IsSoundMessage ms
    (option_to_list (envelope_of e)) from both.0) both.1 risen.1)

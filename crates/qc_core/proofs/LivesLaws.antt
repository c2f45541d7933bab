-- An actor through its falls and rises: who is down has no state; who never falls lives as it acts; what it puts into
-- its journal its steps put there.
use Rattle.std.proofs.Common.{[], ◌≡◌, ℕ, ◌+◌, ◌==◌, Bool, true, false, cond, List, ◌∷◌, ◌++◌, fold, length}
use Rattle.std.proofs.Common.{filter, map, Option, Some, None, option_to_list, slice_get, append_assoc, refl, sym, ap}
use Rattle.std.proofs.Common.{◌∙◌, subst}
use Rattle.std.proofs.lemmas.List.Sums.{fold-append}
use Rattle.qc_decl.specs.declared.declaration.Declaration.{Declaration}
use Rattle.qc_decl.specs.Vocabulary.{is_administrator, is_client, is_site}
use Rattle.qc_msg.specs.declared.message.Envelope.{Envelope}
use Rattle.qc_msg.specs.declared.record.Record.{Record}
use Rattle.qc_msg.specs.declared.step.Fall.{Fall}
use Rattle.qc_msg.specs.declared.step.Fall.TheVariants as causes
use Rattle.qc_msg.specs.declared.step.Step.{Step}
use Rattle.qc_msg.specs.declared.step.Step.TheVariants as steps
use Rattle.qc_msg.specs.declared.turn.Appended.{Appended}
use Rattle.qc_msg.specs.declared.turn.Appended.TheVariants.{Done, Failed, Stopped}
use Rattle.qc_msg.specs.declared.turn.Turn.{Turn}
use Rattle.qc_msg.specs.Vocabulary.{Deed, Entry, Falls, MayEnd, Rises, Sends, Takes, Tells, Writes, deed_at, deeds}
use Rattle.qc_msg.specs.Vocabulary.{deeds_as, envelope_of, heard, own, sends_as, sends_of, tells_of, turn_deeds}
use Rattle.qc_promise.specs.Vocabulary.{Journal, journal_of, journal_with, no_journal}
use Rattle.qc_core.specs.Vocabulary.{Acts, AreSteady, IsLawful, IsLawfulWithFalls, Lives, actor_after, is_up}
use Rattle.qc_core.specs.Vocabulary.{journal_after, journal_at, turn_with_falls, up_at}
use Rattle.qc_core.specs.Acts as acts
use Rattle.qc_core.specs.Lives as lives
use Rattle.qc_core.proofs.Steady.{acts_steady, turn_steady}
use Rattle.qc_core.proofs.Written.{after_written}
use Rattle.qc_core.proofs.LivesOfActors.{reaches, turn_by, same_turn, who_acts}

-- any turn that it calls for has its record written
pub called_written : (decl : Declaration) (a : ℕ) (ds : List Deed) (turn : Turn) → turn_with_falls decl a ds ≡ Some turn
    → turn.append ≡ Done
called_written decl a ds turn = by (is_site decl a) (is_client decl a) (is_administrator decl a)
  where
    here : Some (actor_after decl a ds).turn ≡ Some turn → turn.append ≡ Done
    here is =
        let same : (actor_after decl a ds).turn ≡ turn = cc in
        sym (ap (λ (t : Turn). t.append) same) ∙ after_written decl a ds

    by : (x y z : Bool) → turn_by x y z (actor_after decl a ds).turn ≡ Some turn → turn.append ≡ Done
    by true y z is = here is
    by false true z is = here is
    by false false true is = here is
    by false false false is = absurd (let no : ⊥ = cc in no)

pub written : (decl : Declaration) (a : ℕ) (ds : List Deed) (turn : Turn) → AreSteady ds → IsLawful decl a ds turn
    → turn.append ≡ Done
written decl a ds turn steady lawful =
    called_written decl a ds turn (same_turn decl a ds steady (who_acts decl a ds turn lawful) ∙ lawful)

pub lawful_still : (decl : Declaration) (a : ℕ) (ds : List Deed) (turn : Turn) → AreSteady ds → IsLawful decl a ds turn
    → IsLawfulWithFalls decl a ds turn
lawful_still decl a ds turn steady lawful =
    let done : turn.append ≡ Done = written decl a ds turn steady lawful in
    record {
      called_for =
          same_turn decl a ds steady (who_acts decl a ds turn lawful) ∙ lawful
          ∙ ap (λ (x : Appended). Some (record turn { append = x })) done;
      may_end = subst (MayEnd turn.write) (sym done) tt;
    }

pub act_lives : (decl : Declaration) (a : ℕ) (ds : List Deed) (b : Bool) (n : ℕ) → Acts decl a ds b n
    → Lives decl a ds b n
act_lives decl a ds b n acts.starts = lives.starts
act_lives decl a ds b n (acts.takes before g m act may) =
    lives.takes before g m (act_lives decl a before false m act) may
    (reaches before g (acts_steady decl a before false m act))
act_lives decl a ds b n (acts.posts before turn m first act above lawful) =
    subst (λ (x : Appended). Lives decl a (before ++ deeds_as x first turn) false (first + length (sends_as x turn)))
    (written decl a before turn (acts_steady decl a before true m act) lawful)
    (lives.posts before turn m first (act_lives decl a before true m act) above
    (lawful_still decl a before turn (acts_steady decl a before true m act) lawful))

-- journals

own_journal : (j : Journal) (a : ℕ) (ms : List Envelope) (h : List Entry)
    → fold journal_at j (deeds a ms h) ≡ fold journal_with j (own a h)
own_journal j a ms [] = refl
own_journal j a ms (e ∷ h) = by (e.actor == a) (own_journal (journal_with j e.step) a more h) (own_journal j a more h)
  where
    more : List Envelope
    more = ms ++ option_to_list (envelope_of e)

    one : (k : Step) → fold journal_at j (deed_at ms k) ≡ journal_with j k
    one (steps.Phase number) = refl
    one (steps.Cut x y) = refl
    one (steps.Heal x y) = refl
    one (steps.Armed x kind at) = refl
    one (steps.Called command) = refl
    one (steps.Got n) = got (slice_get ms n)
      where
        got : (o : Option Envelope) → fold journal_at j (heard o) ≡ j
        got None = refl
        got (Some envelope) = refl
    one (steps.Lost n) = refl
    one (steps.Wrote written) = refl
    one (steps.Sent n to message) = refl
    one (steps.Told reply) = refl
    one (steps.Fell cause pending) = refl
    one (steps.Rose records) = refl
    one (steps.Damaged offset) = refl

    by : (x : Bool)
        → fold journal_at (journal_with j e.step) (deeds a more h) ≡ fold journal_with (journal_with j e.step) (own a h)
        → fold journal_at j (deeds a more h) ≡ fold journal_with j (own a h)
        → fold journal_at j (cond x (deed_at ms e.step) [] ++ deeds a more h)
        ≡ fold journal_with j
        (map (λ (k : Entry). k.step)
        (cond x (e ∷ filter (λ (k : Entry). k.actor == a) h) (filter (λ (k : Entry). k.actor == a) h)))
    by true mine other =
        fold-append journal_at j (deed_at ms e.step) (deeds a more h)
        ∙ ap (λ (v : Journal). fold journal_at v (deeds a more h)) (one e.step)
        ∙ mine
    by false mine other = other

pub journal : (a : ℕ) (h : List Entry) → journal_after (deeds a [] h) ≡ journal_of (own a h)
journal a h = own_journal no_journal a [] h

-- while an actor is up no record is pending

abbrev IsClear : Bool → Journal → Type 0
IsClear u j = u ≡ true → j.pending ≡ None

clear_from : (u : Bool) (j : Journal) (ds : List Deed) → IsClear u j → AreSteady ds
    → IsClear (fold up_at u ds) (fold journal_at j ds)
clear_from u j [] clear steady = clear
clear_from u j (Takes g ∷ ds) clear steady = clear_from u j ds clear steady.1
clear_from u j (Writes written ∷ ds) clear steady = clear_from u (journal_at j (Writes written)) ds clear steady.1
clear_from u j (Sends number to message ∷ ds) clear steady = clear_from u j ds clear steady.1
clear_from u j (Tells reply ∷ ds) clear steady = clear_from u j ds clear steady.1
clear_from u j (Falls cause pending ∷ ds) clear steady = absurd steady.0
clear_from u j (Rises records ∷ ds) clear steady = absurd steady.0

-- deeds that end with a fall leave their actor down
fallen : (ds : List Deed) (cause : Fall) (pending : Option Record)
    → IsClear (is_up (ds ++ Falls cause pending ∷ [])) (journal_after (ds ++ Falls cause pending ∷ []))
fallen ds cause pending is =
    absurd (let no : true ≡ false = sym is ∙ fold-append up_at true ds (Falls cause pending ∷ []) in
    let none : ⊥ = cc in none)

clear_more : (ds more : List Deed) → IsClear (is_up ds) (journal_after ds) → AreSteady more
    → IsClear (is_up (ds ++ more)) (journal_after (ds ++ more))
clear_more ds more clear steady =
    subst (λ (u : Bool). IsClear u (journal_after (ds ++ more))) (sym (fold-append up_at true ds more))
    (subst (IsClear (fold up_at (is_up ds) more)) (sym (fold-append journal_at no_journal ds more))
    (clear_from (is_up ds) (journal_after ds) more clear steady))

clear_post : (ds : List Deed) (end : Appended) (first : ℕ) (turn : Turn) → IsClear (is_up ds) (journal_after ds)
    → IsClear (is_up (ds ++ deeds_as end first turn)) (journal_after (ds ++ deeds_as end first turn))
clear_post ds Done first turn clear = clear_more ds (turn_deeds first turn) clear (turn_steady first turn)
clear_post ds Failed first turn clear =
    subst (λ (v : List Deed). IsClear (is_up v) (journal_after v)) (inner ∙ ap (λ (v : List Deed). ds ++ v) outer)
    (fallen (ds ++ (sends_of first turn.failed_sends ++ tells_of turn.failed_told)) causes.Disk turn.write)
  where
    inner : (ds ++ (sends_of first turn.failed_sends ++ tells_of turn.failed_told)) ++ Falls causes.Disk turn.write ∷ []
        ≡ ds ++ ((sends_of first turn.failed_sends ++ tells_of turn.failed_told) ++ Falls causes.Disk turn.write ∷ [])
    inner =
        append_assoc ds (sends_of first turn.failed_sends ++ tells_of turn.failed_told)
        (Falls causes.Disk turn.write ∷ [])

    outer : (sends_of first turn.failed_sends ++ tells_of turn.failed_told) ++ Falls causes.Disk turn.write ∷ []
        ≡ deeds_as Failed first turn
    outer =
        append_assoc (sends_of first turn.failed_sends) (tells_of turn.failed_told) (Falls causes.Disk turn.write ∷ [])
clear_post ds Stopped first turn clear =
    subst (λ (v : List Deed). IsClear (is_up v) (journal_after v))
    (append_assoc ds (tells_of turn.failed_told) (Falls causes.Stop turn.write ∷ []))
    (fallen (ds ++ tells_of turn.failed_told) causes.Stop turn.write)

pub who_is_up_has_no_pending_record : (decl : Declaration) (a : ℕ) (ds : List Deed) (b : Bool) (n : ℕ)
    → Lives decl a ds b n → is_up ds ≡ true
    → (journal_after ds).pending ≡ None
who_is_up_has_no_pending_record decl a ds b n lives.starts = λ is. refl
who_is_up_has_no_pending_record decl a ds b n (lives.takes before g m life may comes) =
    clear_more before (Takes g ∷ []) (who_is_up_has_no_pending_record decl a before false m life) (tt, tt)
who_is_up_has_no_pending_record decl a ds b n (lives.posts before turn m first life above lawful) =
    clear_post before turn.append first turn (who_is_up_has_no_pending_record decl a before true m life)
who_is_up_has_no_pending_record decl a ds b n (lives.crashes before m life is) = fallen before _ _
who_is_up_has_no_pending_record decl a ds b n (lives.rises before records turn m first life is above lawful) =
    clear_post (before ++ Rises records ∷ []) turn.append first turn
    (subst (λ (j : Journal). IsClear (is_up (before ++ Rises records ∷ [])) j)
    (sym (fold-append journal_at no_journal before (Rises records ∷ []))) (λ up_now. refl))
who_is_up_has_no_pending_record decl a ds b n (lives.unopened before cause m life is by_disk) = fallen before _ _

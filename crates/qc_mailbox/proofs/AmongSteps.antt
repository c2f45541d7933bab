-- Messages that wait for an actor were sent to it: so after each step.
use Rattle.std.proofs.Common.{[], ◌≡◌, ℕ, ◌+◌, ◌-◌, ◌==◌, ◌&&◌, Bool, true, false, if◌then◌else◌, List, ◌∷◌, ◌++◌}
use Rattle.std.proofs.Common.{Option, Some, None, refl, sym, subst}
use Rattle.std.specs.Prelude.{drop}
use Rattle.std.specs.List.{AllByRecursion as Every}
use Rattle.std.specs.Option.{option_map_or}
use Rattle.std.proofs.lemmas.Bool.{eqb-true}
use Rattle.qc_link.specs.Vocabulary.{fate}
use Rattle.qc_link.specs.declared.plan.Link.{Link}
use Rattle.qc_link.specs.declared.rule.Fate.{Fate}
use Rattle.qc_link.specs.declared.rule.Fate.TheVariants as fates
use Rattle.qc_list.specs.Vocabulary.{In}
use Rattle.qc_list.proofs.Members.{In-first, In-last, every-append, every-weaker}
use Rattle.qc_msg.specs.declared.message.Envelope.{Envelope}
use Rattle.qc_msg.specs.declared.message.Message.{Message}
use Rattle.qc_msg.specs.declared.message.Message.TheVariants as messages
use Rattle.qc_msg.specs.declared.step.Control.{Control}
use Rattle.qc_script.specs.Vocabulary.{Inbox, acting, answers_by, comes, comes_at_once, comes_with, commands_for}
use Rattle.qc_script.specs.Vocabulary.{control_acted, copies_at_once, count_of, goes, goes_with, has_request, if_up}
use Rattle.qc_script.specs.Vocabulary.{is_request, is_up, late_copies, one_more, opened, opened_by, phase_begun}
use Rattle.qc_script.specs.Vocabulary.{request_answered, request_sent, with_copies}
use Rattle.qc_script.specs.declared.script.PhaseLines.{PhaseLines}
use Rattle.qc_script.proofs.InboxesSend.{by_test}

-- an envelope is one of some messages, and for actor a
abbrev pub IsSentTo : List Envelope → ℕ → Envelope → Type 0
IsSentTo ms a e = In e ms × (e.to ≡ a)

-- so are all that wait
pub record Waits (ms : List Envelope) (a : ℕ) (i : Inbox) : Type 0 where
  pub copies : Every (IsSentTo ms a) i.copies
  pub opening : Every (IsSentTo ms a) i.opening
  pub late : Every (IsSentTo ms a) i.late

-- where the same waits
record SameWaits (i j : Inbox) : Type 0 where
  copies : j.copies ≡ i.copies
  opening : j.opening ≡ i.opening
  late : j.late ≡ i.late

same_waits : (i : Inbox) → SameWaits i i
same_waits i = record { copies = refl; opening = refl; late = refl }

waits_along : (ms : List Envelope) (a : ℕ) (i j : Inbox) → SameWaits i j → Waits ms a i → Waits ms a j
waits_along ms a i j same waits = record {
  copies = subst (λ (es : List Envelope). Every (IsSentTo ms a) es) (sym same.copies) waits.copies;
  opening = subst (λ (es : List Envelope). Every (IsSentTo ms a) es) (sym same.opening) waits.opening;
  late = subst (λ (es : List Envelope). Every (IsSentTo ms a) es) (sym same.late) waits.late;
}

-- more messages
pub waits_more : (ms ns : List Envelope) (a : ℕ) (i : Inbox) → Waits ms a i → Waits (ms ++ ns) a i
waits_more ms ns a i waits = record {
  copies = every-weaker (IsSentTo ms a) (IsSentTo (ms ++ ns) a) weaker i.copies waits.copies;
  opening = every-weaker (IsSentTo ms a) (IsSentTo (ms ++ ns) a) weaker i.opening waits.opening;
  late = every-weaker (IsSentTo ms a) (IsSentTo (ms ++ ns) a) weaker i.late waits.late;
}
  where
    weaker : (e : Envelope) → IsSentTo ms a e → IsSentTo (ms ++ ns) a e
    weaker e sent = (In-first e ms ns sent.0, sent.1)

-- a message that is sent

answered_waits : (i : Inbox) (number : ℕ) (f : Fate) → SameWaits i (request_answered i number f)
answered_waits i number f =
    by_test (SameWaits i) (has_request i.unanswered number) _ i (record { copies = refl; opening = refl; late = refl })
    (same_waits i)

answers_wait : (i : Inbox) (m : Message) (f : Fate) → SameWaits i (answers_by i m f)
answers_wait i (messages.Request tx epoch life want) f = same_waits i
answers_wait i (messages.Answer to answer) f = answered_waits i to f
answers_wait i (messages.Decision tx verdict) f = same_waits i
answers_wait i (messages.Inquiry tx) f = same_waits i
answers_wait i (messages.Ask tx) f = same_waits i
answers_wait i (messages.Close epoch) f = same_waits i
answers_wait i (messages.Install start) f = same_waits i

every_copy : (P : Envelope → Type 0) (f : Fate) (e : Envelope) → P e → Every P (copies_at_once f e)
every_copy P fates.Pass e is = (is, tt)
every_copy P fates.Drop e is = tt
every_copy P fates.Twice e is = (is, (is, tt))
every_copy P fates.Late e is = tt
every_copy P fates.Again e is = (is, tt)

every_late : (P : Envelope → Type 0) (f : Fate) (e : Envelope) → P e → Every P (late_copies f e)
every_late P fates.Pass e is = tt
every_late P fates.Drop e is = tt
every_late P fates.Twice e is = tt
every_late P fates.Late e is = (is, tt)
every_late P fates.Again e is = (is, tt)

every_up : (P : Envelope → Type 0) (up : Bool) (es : List Envelope) → Every P es → Every P (if_up up es)
every_up P true es all = all
every_up P false es all = tt

comes_wait : (ms : List Envelope) (a : ℕ) (up : Bool) (i : Inbox) (e : Envelope) (f : Fate) → IsSentTo ms a e
    → Waits ms a i → Waits ms a (comes_with up i e f)
comes_wait ms a up i e f sent waits =
    waits_along ms a (with_copies up i e f) (comes_with up i e f)
    (answers_wait (with_copies up i e f) e.message f) (record {
      copies =
          every-append (IsSentTo ms a) i.copies (if_up up (copies_at_once f e)) waits.copies
          (every_up (IsSentTo ms a) up _ (every_copy (IsSentTo ms a) f e sent));
      opening = waits.opening;
      late = every-append (IsSentTo ms a) i.late (late_copies f e) waits.late (every_late (IsSentTo ms a) f e sent);
    })

goes_wait : (i : Inbox) (e : Envelope) (f : Fate) → SameWaits i (goes_with i e f)
goes_wait i e f =
    by_test (SameWaits i) (is_request e.message)
    (request_sent (record i { to_each = one_more i.to_each e.to }) e.number e.to f)
    (record i { to_each = one_more i.to_each e.to })
    (by_test (SameWaits i) (comes_at_once f && is_up i.up e.to) _ _
    (record { copies = refl; opening = refl; late = refl }) (record { copies = refl; opening = refl; late = refl }))
    (record { copies = refl; opening = refl; late = refl })

pub sends_wait : (links : List Link) (ms : List Envelope) (a : ℕ) (i : Inbox) (e : Envelope) → Waits ms a i
    → Waits (ms ++ e ∷ []) a (goes links a (comes links a i e) e)
sends_wait links ms a i e waits =
    waits_along (ms ++ e ∷ []) a (comes links a i e) (goes links a (comes links a i e) e)
    (by_test (SameWaits (comes links a i e)) (e.from == a)
    (goes_with (comes links a i e) e
    (fate links (comes links a i e).cuts e.from e.to (count_of (comes links a i e).to_each e.to + 1)))
    (comes links a i e)
    (goes_wait (comes links a i e) e _) (same_waits (comes links a i e)))
    (by (e.to == a) refl)
  where
    more : Waits (ms ++ e ∷ []) a i
    more = waits_more ms (e ∷ []) a i waits

    by : (t : Bool) → (e.to == a) ≡ t
        → Waits (ms ++ e ∷ []) a
        (if t then comes_with (is_up i.up a) i e (fate links i.cuts e.from e.to (count_of i.from_each e.from + 1))
        else i)
    by true is = comes_wait (ms ++ e ∷ []) a (is_up i.up a) i e _ (In-last e ms, eqb-true e.to a is) more
    by false is = more

-- each step

opened_by_wait : (ms : List Envelope) (a : ℕ) (cs : List Control) (i : Inbox) → Waits ms a i
    → Waits ms a (opened_by a cs i)
opened_by_wait ms a [] i waits =
    record {
      copies = every-append (IsSentTo ms a) (if_up (is_up i.up a) i.opening) i.copies
          (every_up (IsSentTo ms a) (is_up i.up a) i.opening waits.opening) waits.copies;
      opening = tt;
      late = waits.late;
    }
opened_by_wait ms a (c ∷ cs) i waits = waits

opened_wait : (ms : List Envelope) (a : ℕ) (i : Inbox) → Waits ms a i → Waits ms a (opened a i)
opened_wait ms a i waits =
    opened_by_wait ms a (acting i.up i.controls) _
    (record { copies = waits.copies; opening = waits.opening; late = waits.late })

pub begun_wait : (ms : List Envelope) (a : ℕ) (i : Inbox) (o : Option PhaseLines) → Waits ms a i
    → Waits ms a (option_map_or (phase_begun a i) o i)
begun_wait ms a i None waits = waits
begun_wait ms a i (Some phase) waits =
    opened_wait ms a
    (record i {
      opening = i.opening ++ i.late;
      late = [];
      controls = phase.controls;
      commands = i.commands ++ commands_for a phase.commands;
    })
    (record {
      copies = waits.copies;
      opening = every-append (IsSentTo ms a) i.opening i.late waits.opening waits.late;
      late = tt;
    })

pub acted_wait : (ms : List Envelope) (a : ℕ) (i : Inbox) → Waits ms a i → Waits ms a (control_acted a i)
acted_wait ms a i waits =
    opened_wait ms a (record i { controls = drop 1 i.controls })
    (record { copies = waits.copies; opening = waits.opening; late = waits.late })

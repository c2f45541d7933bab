-- An actor's inputs and turns keep what is kept.
use Rattle.std.proofs.Common.{◌≡◌, ℕ, ◌+◌, ◌<◌, ◌==◌, Bool, true, false, if◌then◌else◌, List, [], ◌∷◌, ◌++◌, length}
use Rattle.std.proofs.Common.{set, Option, Some, None, refl, ap, sym, subst, ◌∙◌, append_assoc}
use Rattle.std.specs.List.{AllByRecursion as Every}
use Rattle.std.proofs.lemmas.Bool.{eqb-false, eqb-true}
use Rattle.std.proofs.lemmas.List.{append-nil, get_or-set_other, get_or-set_same, length-set}
use Rattle.qc_decl.specs.declared.declaration.Declaration.{Declaration}
use Rattle.qc_msg.specs.declared.record.Record.{Record}
use Rattle.qc_msg.specs.declared.reply.Reply.{Reply}
use Rattle.qc_msg.specs.declared.step.Input.{Input}
use Rattle.qc_msg.specs.declared.step.Input.TheVariants as inputs
use Rattle.qc_msg.specs.declared.step.Step.TheVariants.{Sent, Told, Wrote}
use Rattle.qc_msg.specs.declared.turn.Posting.{Posting}
use Rattle.qc_msg.specs.declared.turn.Turn.{Turn}
use Rattle.qc_msg.specs.Vocabulary.{Entry, by, envelope_of, mail, marked, posted, sents, step_of, told, wrote}
use Rattle.qc_msg.proofs.GrownMail.{by-posted}
use Rattle.qc_script.specs.Vocabulary.{Inbox, command_called, control_acted, copy_taken, count_of, inbox, inbox_at}
use Rattle.qc_script.specs.Vocabulary.{is_up, loss_taken, ready, reply_told, wrote_record}
use Rattle.qc_script.specs.declared.script.Script.{Script}
use Rattle.qc_mailbox.specs.Vocabulary.{Inboxes, IsKept, MayWrite, Shows, Tray, after_reply, after_send, after_sends}
use Rattle.qc_mailbox.specs.Vocabulary.{after_take, after_turn, calls_at, calls_of, empty_tray, tray_at, tray_of}
use Rattle.qc_mailbox.specs.Vocabulary.{tray_taken, tray_told}
use Rattle.qc_mailbox.proofs.Keeping.{kept_send, kept_step, shows_along}
use Rattle.qc_mailbox.proofs.Sent.{Keeps, same}
use Rattle.qc_mailbox.proofs.Taking.{taken_shown}
use Rattle.qc_link.specs.Vocabulary.{most_actors}
use Rattle.qc_script.proofs.InboxesSend.{by_test}

-- the trays, where one of them is changed
pub own_tray : (trays : List Tray) (a b : ℕ) (change : Tray → Tray) (old new : Tray) → a < length trays
    → tray_at trays b ≡ old
    → ((a == b) ≡ true → change old ≡ new) → ((a == b) ≡ false → old ≡ new)
    → tray_at (set trays a (change (tray_at trays a))) b ≡ new
own_tray trays a b change old new within shown mine other = by (a == b) refl
  where
    by : (t : Bool) → (a == b) ≡ t → tray_at (set trays a (change (tray_at trays a))) b ≡ new
    by true is =
        let here : a ≡ b = eqb-true a b is in
        subst (λ (k : ℕ). tray_at (set trays a (change (tray_at trays a))) k ≡ new) here
        (get_or-set_same trays a (change (tray_at trays a)) empty_tray within
        ∙ (ap (λ (k : ℕ). change (tray_at trays k)) here ∙ (ap change shown ∙ mine is)))
    by false is =
        get_or-set_other trays a b (change (tray_at trays a)) empty_tray (λ e. eqb-false a b is (sym e))
        ∙ (shown ∙ other is)

-- what is kept shows an inbox still, where only what waits has changed
still_shown : (old : Inboxes) (trays : List Tray) (a m n : ℕ) (i j : Inbox) → Shows old a m i → Keeps i j
    → tray_at trays a ≡ tray_of n j
    → Shows (record old { trays = trays }) a n j
still_shown old trays a m n i j shows keeps tray = record {
  cuts = keeps.cuts ∙ shows.cuts;
  up = keeps.up ∙ shows.up;
  controls = keeps.controls ∙ shows.controls;
  from_each = λ b within. ap (λ (c : List ℕ). count_of c b) keeps.from_each ∙ shows.from_each b within;
  to_each = λ b within. ap (λ (c : List ℕ). count_of c b) keeps.to_each ∙ shows.to_each b within;
  from_length = ap (λ (c : List ℕ). length c) keeps.from_each ∙ shows.from_length;
  to_length = ap (λ (c : List ℕ). length c) keeps.to_each ∙ shows.to_length;
  tray = tray;
}

-- inputs

pub input_keeps : (script : Script) (b : ℕ) (i : Inbox) (a : ℕ) (g : Input)
    → Keeps i (inbox_at script b i a (step_of g))
input_keeps script b i a (inputs.Called command) =
    by_test (Keeps i) (a == b) (command_called i) i
    (record { cuts = refl; up = refl; controls = refl; from_each = refl; to_each = refl }) (same i)
input_keeps script b i a (inputs.Got envelope) =
    by_test (Keeps i) (a == b) (copy_taken i) i
    (record { cuts = refl; up = refl; controls = refl; from_each = refl; to_each = refl }) (same i)
input_keeps script b i a (inputs.Lost number) =
    by_test (Keeps i) (a == b) (loss_taken i) i
    (record { cuts = refl; up = refl; controls = refl; from_each = refl; to_each = refl }) (same i)

other_input : (script : Script) (b calls : ℕ) (i : Inbox) (a : ℕ) (g : Input) → (a == b) ≡ false
    → tray_of calls i ≡ tray_of (calls_at b calls a (step_of g)) (inbox_at script b i a (step_of g))
other_input script b calls i a (inputs.Called command) other =
    sym (ap (λ (t : Bool). tray_of (if t then calls + 1 else calls) (if t then command_called i else i)) other)
other_input script b calls i a (inputs.Got envelope) other =
    sym (ap (λ (t : Bool). tray_of calls (if t then copy_taken i else i)) other)
other_input script b calls i a (inputs.Lost number) other =
    sym (ap (λ (t : Bool). tray_of calls (if t then loss_taken i else i)) other)

input_sends_nothing : (a : ℕ) (g : Input) → envelope_of (marked a (step_of g)) ≡ None
input_sends_nothing a (inputs.Called command) = refl
input_sends_nothing a (inputs.Got envelope) = refl
input_sends_nothing a (inputs.Lost number) = refl

pub inputs_keep_trays : (decl : Declaration) (script : Script) (h : List Entry) (old : Inboxes) (a : ℕ) (g : Input)
    → IsKept script h old → a < most_actors → ready decl script a h ≡ Some g
    → IsKept script (h ++ marked a (step_of g) ∷ []) (after_take old a)
inputs_keep_trays decl script h old a g kept within is =
    kept_step script h (marked a (step_of g)) old (after_take old a) kept (input_sends_nothing a g) refl refl kept.ups
    (length-set old.trays a _ ∙ kept.trays)
    (λ b b_within shows.
    still_shown old _ b (calls_of b h) _ (inbox script b h) _ shows (input_keeps script b (inbox script b h) a g)
    (own_tray old.trays a b tray_taken (tray_of (calls_of b h) (inbox script b h)) _
    (subst (λ (n : ℕ). a < n) (sym kept.trays) within) shows.tray
    (mine b) (other_input script b (calls_of b h) (inbox script b h) a g)))
  where
    mine : (b : ℕ) → (a == b) ≡ true
        → tray_taken (tray_of (calls_of b h) (inbox script b h)) ≡ tray_of (calls_at b (calls_of b h) a (step_of g))
        (inbox_at script b (inbox script b h) a (step_of g))
    mine b here =
        subst (λ (k : ℕ). tray_taken (tray_of (calls_of k h) (inbox script k h)) ≡ tray_of
        (calls_at k (calls_of k h) a (step_of g)) (inbox_at script k (inbox script k h) a (step_of g)))
        (eqb-true a b here) (sym (taken_shown script decl a (calls_of a h) (inbox script a h) g is))

-- turns

written : (script : Script) (h : List Entry) (old : Inboxes) (a : ℕ) (write : Option Record) → IsKept script h old
    → MayWrite (is_up old.up a) write → IsKept script (h ++ by a (wrote write)) old
written script h old a None kept may = subst (λ (x : List Entry). IsKept script x old) (sym (append-nil h)) kept
written script h old a (Some record_) kept may =
    kept_step script h (marked a (Wrote record_)) old old kept refl refl refl kept.ups kept.trays
    (λ b within shows. shows_along old b _ _ _ _ refl (sym (same_inbox b (inbox script b h) shows)) shows)
  where
    same_inbox : (b : ℕ) (i : Inbox) → Shows old b (calls_of b h) i → wrote_record b i a ≡ i
    same_inbox b i shows =
        ap (λ (t : Bool). if t then i else control_acted b (record i { up = set i.up a true }))
        (ap (λ (up : List Bool). is_up up a) shows.up ∙ may)

pub sent : (script : Script) (h : List Entry) (old : Inboxes) (a : ℕ) (ps : List Posting) → IsKept script h old
    → a < most_actors → Every (λ (p : Posting). p.to < most_actors) ps
    → IsKept script (h ++ by a (sents old.counts.all ps)) (after_sends old a ps)
sent script h old a [] kept within receivers = subst (λ (x : List Entry). IsKept script x old) (sym (append-nil h)) kept
sent script h old a (p ∷ ps) kept within receivers =
    subst (λ (x : List Entry). IsKept script x (after_sends (after_send old a p) a ps))
    (append_assoc h (marked a (Sent old.counts.all p.to p.message) ∷ []) (by a (sents (old.counts.all + 1) ps)))
    (sent script (h ++ marked a (Sent old.counts.all p.to p.message) ∷ []) (after_send old a p) a ps
    (kept_send script h old a p kept within receivers.0) within receivers.1)

pub replied : (script : Script) (h : List Entry) (old : Inboxes) (a : ℕ) (reply : Option Reply) → IsKept script h old
    → a < most_actors → IsKept script (h ++ by a (told reply)) (after_reply old a reply)
replied script h old a None kept within = subst (λ (x : List Entry). IsKept script x old) (sym (append-nil h)) kept
replied script h old a (Some reply) kept within =
    kept_step script h (marked a (Told reply)) old (after_reply old a (Some reply)) kept refl refl refl kept.ups
    (length-set old.trays a _ ∙ kept.trays)
    (λ b b_within shows.
    still_shown old _ b (calls_of b h) (calls_of b h) (inbox script b h) _ shows
    (by_test (Keeps (inbox script b h)) (a == b) (reply_told (inbox script b h)) (inbox script b h)
    (record { cuts = refl; up = refl; controls = refl; from_each = refl; to_each = refl })
    (same (inbox script b h)))
    (own_tray old.trays a b tray_told (tray_of (calls_of b h) (inbox script b h)) _
    (subst (λ (n : ℕ). a < n) (sym kept.trays) within) shows.tray
    (λ here. sym (ap (λ (t : Bool). tray_of (calls_of b h)
    (if t then reply_told (inbox script b h) else inbox script b h)) here))
    (λ other. sym (ap (λ (t : Bool). tray_of (calls_of b h)
    (if t then reply_told (inbox script b h) else inbox script b h)) other))))

pub turns_keep_trays : (script : Script) (h : List Entry) (old : Inboxes) (a : ℕ) (turn : Turn) → IsKept script h old
    → a < most_actors → Every (λ (p : Posting). p.to < most_actors) turn.sends
    → MayWrite (is_up old.up a) turn.write
    → IsKept script (h ++ by a (posted (length (mail h)) turn)) (after_turn old a turn)
turns_keep_trays script h old a turn kept within receivers may =
    subst (λ (n : ℕ). IsKept script (h ++ by a (posted n turn)) (after_turn old a turn)) kept.sent
    (subst (λ (x : List Entry). IsKept script x (after_turn old a turn)) whole
    (replied script ((h ++ by a (wrote turn.write)) ++ by a (sents old.counts.all turn.sends))
    (after_sends old a turn.sends) a turn.told
    (sent script (h ++ by a (wrote turn.write)) old a turn.sends
    (written script h old a turn.write kept may) within receivers) within))
  where
    whole : ((h ++ by a (wrote turn.write)) ++ by a (sents old.counts.all turn.sends)) ++ by a (told turn.told) ≡ h
        ++ by a (posted old.counts.all turn)
    whole =
        append_assoc (h ++ by a (wrote turn.write)) (by a (sents old.counts.all turn.sends)) (by a (told turn.told))
        ∙ (append_assoc h (by a (wrote turn.write)) (by a (sents old.counts.all turn.sends) ++ by a (told turn.told))
        ∙ ap (λ (x : List Entry). h ++ x) (sym (by-posted a old.counts.all turn)))

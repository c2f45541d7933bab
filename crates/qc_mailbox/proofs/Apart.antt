-- Which inboxes a step leaves as they are, and what all of them have in common.
use Rattle.std.proofs.Common.{◌≡◌, ℕ, ◌+◌, ◌<◌, ◌==◌, Bool, false, if◌then◌else◌, List, [], ◌∷◌, ◌++◌, ap, ◌∙◌}
use Rattle.qc_link.specs.Vocabulary.{fate, most_actors}
use Rattle.qc_link.specs.declared.plan.Link.{Link}
use Rattle.qc_msg.specs.declared.message.Envelope.{Envelope}
use Rattle.qc_msg.specs.declared.message.Message.{Message}
use Rattle.qc_msg.specs.declared.reply.Reply.{Reply}
use Rattle.qc_msg.specs.declared.step.Input.{Input}
use Rattle.qc_msg.specs.declared.step.Input.TheVariants as inputs
use Rattle.qc_msg.specs.declared.step.Step.TheVariants.{Sent, Told}
use Rattle.qc_msg.specs.Vocabulary.{Entry, marked, step_of}
use Rattle.qc_script.specs.Vocabulary.{Inbox, comes, comes_with, command_called, copy_taken, count_of, goes, goes_with}
use Rattle.qc_script.specs.Vocabulary.{inbox, inbox_at, is_up, loss_taken, reply_told}
use Rattle.qc_script.specs.declared.script.Script.{Script}
use Rattle.qc_script.proofs.InboxesSend.{InCommon}
use Rattle.qc_script.proofs.Inboxes.{inboxes_have_in_common}
use Rattle.qc_mailbox.proofs.Keeping.{inbox_after}

-- an inbox that a test leaves as it is
left : (t : Bool) (i j : Inbox) → t ≡ false → (if t then i else j) ≡ j
left t i j is = ap (λ (x : Bool). if x then i else j) is

send_left : (links : List Link) (a : ℕ) (i : Inbox) (e : Envelope) → (e.from == a) ≡ false → (e.to == a) ≡ false
    → goes links a (comes links a i e) e ≡ i
send_left links a i e from to =
    left (e.from == a) (goes_with (comes links a i e) e
    (fate links (comes links a i e).cuts e.from e.to (count_of (comes links a i e).to_each e.to + 1)))
    (comes links a i e) from
    ∙ left (e.to == a) (comes_with (is_up i.up a) i e (fate links i.cuts e.from e.to (count_of i.from_each e.from + 1)))
    i to

pub other_send : (script : Script) (h : List Entry) (a from n to : ℕ) (message : Message) → (from == a) ≡ false
    → (to == a) ≡ false
    → inbox script a (h ++ marked from (Sent n to message) ∷ []) ≡ inbox script a h
other_send script h a from n to message apart away =
    inbox_after script a h (marked from (Sent n to message))
    ∙ send_left script.links a (inbox script a h)
    (record { number = n; from = from; to = to; message = message }) apart away

input_left : (script : Script) (a : ℕ) (i : Inbox) (b : ℕ) (g : Input) → (b == a) ≡ false
    → inbox_at script a i b (step_of g) ≡ i
input_left script a i b (inputs.Called command) other = left (b == a) (command_called i) i other
input_left script a i b (inputs.Got envelope) other = left (b == a) (copy_taken i) i other
input_left script a i b (inputs.Lost number) other = left (b == a) (loss_taken i) i other

pub other_input : (script : Script) (h : List Entry) (a b : ℕ) (g : Input) → (b == a) ≡ false
    → inbox script a (h ++ marked b (step_of g) ∷ []) ≡ inbox script a h
other_input script h a b g other = inbox_after script a h (marked b (step_of g))
    ∙ input_left script a (inbox script a h) b g other

pub other_reply : (script : Script) (h : List Entry) (a b : ℕ) (reply : Reply) → (b == a) ≡ false
    → inbox script a (h ++ marked b (Told reply) ∷ []) ≡ inbox script a h
other_reply script h a b reply other = inbox_after script a h (marked b (Told reply))
    ∙ left (b == a) (reply_told (inbox script a h)) (inbox script a h) other

pub one_cuts : (script : Script) (h : List Entry) (a b : ℕ) → a < most_actors → b < most_actors
    → (inbox script a h).cuts ≡ (inbox script b h).cuts
one_cuts script h a b a_within b_within = let common : InCommon a b (inbox script a h) (inbox script b h) =
    inboxes_have_in_common script a b h a_within b_within in common.cuts

pub one_controls : (script : Script) (h : List Entry) (a b : ℕ) → a < most_actors → b < most_actors
    → (inbox script a h).controls ≡ (inbox script b h).controls
one_controls script h a b a_within b_within = let common : InCommon a b (inbox script a h) (inbox script b h) =
    inboxes_have_in_common script a b h a_within b_within in common.controls

pub one_count : (script : Script) (h : List Entry) (a b : ℕ) → a < most_actors → b < most_actors
    → count_of (inbox script a h).from_each b ≡ count_of (inbox script b h).to_each a
one_count script h a b a_within b_within = let common : InCommon a b (inbox script a h) (inbox script b h) =
    inboxes_have_in_common script a b h a_within b_within in common.count

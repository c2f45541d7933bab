-- What the inboxes of two actors have in common: cuts, who is up, control lines, and the number of messages from the
-- one to the other. So a message has one fate, for its sender and for its receiver.
use Rattle.std.proofs.Common.{[], ◌≡◌, ℕ, ◌+◌, ◌-◌, ◌<◌, ◌==◌, Bool, true, false, if◌then◌else◌, List, ◌∷◌, length}
use Rattle.std.proofs.Common.{refl, ap, sym, ◌∙◌}
use Rattle.std.specs.Prelude.{drop, set, slice_get}
use Rattle.std.specs.List.{fold}
use Rattle.std.proofs.lemmas.List.{get_or-replicate}
use Rattle.qc_link.specs.Vocabulary.{fate, most_actors, with_cut, without_cut}
use Rattle.qc_link.specs.declared.plan.Link.{Link}
use Rattle.qc_msg.specs.declared.message.Envelope.{Envelope}
use Rattle.qc_msg.specs.declared.step.Control.{Control}
use Rattle.qc_msg.specs.declared.step.Fall.{Fall}
use Rattle.qc_msg.specs.declared.step.Step.{Step}
use Rattle.qc_msg.specs.declared.step.Step.TheVariants as steps
use Rattle.qc_msg.specs.Vocabulary.{Entry}
use Rattle.qc_script.specs.declared.script.Script.{Script}
use Rattle.qc_script.specs.Vocabulary.{Inbox, actor_fell, comes, command_called, control_acted, copy_taken, count_of}
use Rattle.qc_script.specs.Vocabulary.{empty_inbox, fell_by, goes, inbox, inbox_at, is_by_line, is_up, loss_taken}
use Rattle.qc_script.specs.Vocabulary.{one_more, reply_told, requests_to, requests_to_others, with_lost, wrote_record}
use Rattle.qc_script.proofs.InboxesSend.{Keeps, same, by_test, emptied_keeps, InCommon, kept, Sends, sends_does}
use Rattle.qc_script.proofs.InboxesSend.{length_more, one_count, opened_both, phases_both}

-- a control line acts
acted_both : (a b : ℕ) (i j : Inbox) → InCommon a b i j → InCommon a b (control_acted a i) (control_acted b j)
acted_both a b i j common =
    opened_both a b _ _
    (record {
      cuts = common.cuts;
      up = common.up;
      controls = ap (λ (lines : List Control). drop 1 lines) common.controls;
      from_length = common.from_length;
      to_length = common.to_length;
      count = common.count;
    })

cuts_both : (a b : ℕ) (i j : Inbox) (change : List Bool → List Bool) → InCommon a b i j
    → InCommon a b (control_acted a (record i { cuts = change i.cuts }))
    (control_acted b (record j { cuts = change j.cuts }))
cuts_both a b i j change common =
    acted_both a b _ _
    (record {
      cuts = ap change common.cuts;
      up = common.up;
      controls = common.controls;
      from_length = common.from_length;
      to_length = common.to_length;
      count = common.count;
    })

-- who is up decides in both

either_both : (a b : ℕ) (i j k l : Inbox) (s t : Bool) → s ≡ t → InCommon a b k l → InCommon a b i j
    → InCommon a b (if s then k else i) (if t then l else j)
either_both a b i j k l true true e first second = first
either_both a b i j k l false false e first second = second
either_both a b i j k l true false e first second = absurd (let never : ⊥ = cc in never)
either_both a b i j k l false true e first second = absurd (let never : ⊥ = cc in never)

fallen_both : (a b : ℕ) (i j : Inbox) (r : ℕ) → InCommon a b i j → InCommon a b (actor_fell a i r) (actor_fell b j r)
fallen_both a b i j r common =
    kept a b _ _ (actor_fell a i r) (actor_fell b j r)
    (record {
      cuts = common.cuts;
      up = ap (λ (up : List Bool). set up r false) common.up;
      controls = common.controls;
      from_length = common.from_length;
      to_length = common.to_length;
      count = common.count;
    })
    (emptied_keeps (r == a)
    (record i {
      up = set i.up r false;
      unanswered = requests_to_others r i.unanswered;
      lost = with_lost (requests_to r i.unanswered) i.lost;
    }))
    (emptied_keeps (r == b)
    (record j {
      up = set j.up r false;
      unanswered = requests_to_others r j.unanswered;
      lost = with_lost (requests_to r j.unanswered) j.lost;
    }))

fell_both : (a b : ℕ) (i j : Inbox) (r : ℕ) (cause : Fall) → InCommon a b i j
    → InCommon a b (fell_by a i r cause) (fell_by b j r cause)
fell_both a b i j r cause common =
    let fallen : InCommon a b (actor_fell a i r) (actor_fell b j r) = fallen_both a b i j r common in
    either_both a b _ _ _ _ (is_by_line (is_up i.up r) cause) (is_by_line (is_up j.up r) cause)
    (ap (λ (up : List Bool). is_by_line (is_up up r) cause) common.up)
    (acted_both a b _ _ fallen) fallen

wrote_both : (a b : ℕ) (i j : Inbox) (r : ℕ) → InCommon a b i j → InCommon a b (wrote_record a i r) (wrote_record b j r)
wrote_both a b i j r common =
    either_both a b _ _ i j (is_up i.up r) (is_up j.up r) (ap (λ (up : List Bool). is_up up r) common.up) common
    (acted_both a b _ _
    (record {
      cuts = common.cuts;
      up = ap (λ (up : List Bool). set up r true) common.up;
      controls = common.controls;
      from_length = common.from_length;
      to_length = common.to_length;
      count = common.count;
    }))

-- an actor's own step changes nothing of it
own_both : (a b : ℕ) (i j k l : Inbox) (s t : Bool) → InCommon a b i j → Keeps i k → Keeps j l
    → InCommon a b (if s then k else i) (if t then l else j)
own_both a b i j k l s t common first second =
    kept a b i j (if s then k else i) (if t then l else j) common (by_test (Keeps i) s k i first (same i))
    (by_test (Keeps j) t l j second (same j))

sends_both : (links : List Link) (a b : ℕ) (i j : Inbox) (e : Envelope) → a < most_actors → b < most_actors
    → InCommon a b i j
    → InCommon a b (goes links a (comes links a i e) e) (goes links b (comes links b j e) e)
sends_both links a b i j e a_within b_within common =
    let first : Sends i (goes links a (comes links a i e) e)
    (if e.to == a then one_more i.from_each e.from else i.from_each)
    (if e.from == a then one_more i.to_each e.to else i.to_each) = sends_does links a i e in
    let second : Sends j (goes links b (comes links b j e) e)
    (if e.to == b then one_more j.from_each e.from else j.from_each)
    (if e.from == b then one_more j.to_each e.to else j.to_each) = sends_does links b j e in
    record {
      cuts = first.cuts ∙ (common.cuts ∙ sym second.cuts);
      up = first.up ∙ (common.up ∙ sym second.up);
      controls = first.controls ∙ (common.controls ∙ sym second.controls);
      from_length =
          ap (λ (c : List ℕ). length c) first.from_each
          ∙ length_more (e.to == a) i.from_each e.from most_actors common.from_length;
      to_length =
          ap (λ (c : List ℕ). length c) second.to_each
          ∙ length_more (e.from == b) j.to_each e.to most_actors common.to_length;
      count =
          ap (λ (c : List ℕ). count_of c b) first.from_each
          ∙ (one_count a b e.to e.from i.from_each j.to_each a_within b_within common.from_length common.to_length
          common.count
          ∙ ap (λ (c : List ℕ). count_of c a) (sym second.to_each));
    }

unchanged : (i j : Inbox) → j.cuts ≡ i.cuts → j.up ≡ i.up → j.controls ≡ i.controls → j.from_each ≡ i.from_each
    → j.to_each ≡ i.to_each → Keeps i j
unchanged i j cuts up controls from_each to_each =
    record { cuts = cuts; up = up; controls = controls; from_each = from_each; to_each = to_each }

step_both : (script : Script) (a b : ℕ) (i j : Inbox) (by : ℕ) (step : Step) → a < most_actors → b < most_actors
    → InCommon a b i j → InCommon a b (inbox_at script a i by step) (inbox_at script b j by step)
step_both script a b i j by (steps.Phase k) a_within b_within common =
    phases_both a b i j (slice_get script.phases (k - 1)) common
step_both script a b i j by (steps.Cut x y) a_within b_within common =
    cuts_both a b i j (λ cuts. with_cut cuts x y) common
step_both script a b i j by (steps.Heal x y) a_within b_within common =
    cuts_both a b i j (λ cuts. without_cut cuts x y) common
step_both script a b i j by (steps.Armed actor kind at) a_within b_within common = acted_both a b i j common
step_both script a b i j by (steps.Called command) a_within b_within common =
    own_both a b i j _ _ (by == a) (by == b) common (unchanged i (command_called i) refl refl refl refl refl)
    (unchanged j (command_called j) refl refl refl refl refl)
step_both script a b i j by (steps.Got n) a_within b_within common =
    own_both a b i j _ _ (by == a) (by == b) common (unchanged i (copy_taken i) refl refl refl refl refl)
    (unchanged j (copy_taken j) refl refl refl refl refl)
step_both script a b i j by (steps.Lost n) a_within b_within common =
    own_both a b i j _ _ (by == a) (by == b) common (unchanged i (loss_taken i) refl refl refl refl refl)
    (unchanged j (loss_taken j) refl refl refl refl refl)
step_both script a b i j by (steps.Wrote written) a_within b_within common = wrote_both a b i j by common
step_both script a b i j by (steps.Sent n to message) a_within b_within common =
    sends_both script.links a b i j (record { number = n; from = by; to = to; message = message }) a_within b_within
    common
step_both script a b i j by (steps.Told reply) a_within b_within common =
    own_both a b i j _ _ (by == a) (by == b) common (unchanged i (reply_told i) refl refl refl refl refl)
    (unchanged j (reply_told j) refl refl refl refl refl)
step_both script a b i j by (steps.Fell cause pending) a_within b_within common = fell_both a b i j by cause common
step_both script a b i j by (steps.Rose written) a_within b_within common = common
step_both script a b i j by (steps.Damaged offset) a_within b_within common = acted_both a b i j common

steps_both : (script : Script) (a b : ℕ) (h : List Entry) (i j : Inbox) → a < most_actors → b < most_actors
    → InCommon a b i j
    → InCommon a b (fold (λ i e. inbox_at script a i e.actor e.step) i h)
    (fold (λ i e. inbox_at script b i e.actor e.step) j h)
steps_both script a b [] i j a_within b_within common = common
steps_both script a b (e ∷ h) i j a_within b_within common =
    steps_both script a b h (inbox_at script a i e.actor e.step) (inbox_at script b j e.actor e.step) a_within b_within
    (step_both script a b i j e.actor e.step a_within b_within common)

pub inboxes_have_in_common : (script : Script) (a b : ℕ) (h : List Entry) → a < most_actors → b < most_actors
    → InCommon a b (inbox script a h) (inbox script b h)
inboxes_have_in_common script a b h a_within b_within =
    steps_both script a b h empty_inbox empty_inbox a_within b_within
    (record {
      cuts = refl;
      up = refl;
      controls = refl;
      from_length = refl;
      to_length = refl;
      count = get_or-replicate most_actors b 0 0 b_within ∙ sym (get_or-replicate most_actors a 0 0 a_within);
    })

-- a message from b to a has the fate for its receiver that it has for its sender
pub one_fate : (script : Script) (a b : ℕ) (h : List Entry) → a < most_actors → b < most_actors
    → fate script.links (inbox script a h).cuts b a (count_of (inbox script a h).from_each b + 1)
    ≡ fate script.links (inbox script b h).cuts b a (count_of (inbox script b h).to_each a + 1)
one_fate script a b h a_within b_within =
    let common : InCommon a b (inbox script a h) (inbox script b h) =
    inboxes_have_in_common script a b h a_within b_within in
    ap (λ (cuts : List Bool). fate script.links cuts b a (count_of (inbox script a h).from_each b + 1)) common.cuts
    ∙ ap (λ (n : ℕ). fate script.links (inbox script b h).cuts b a (n + 1)) common.count

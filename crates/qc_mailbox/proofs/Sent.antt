-- What a message changes in an inbox beside what waits: the counts.
use Rattle.std.proofs.Common.{◌≡◌, ℕ, ◌+◌, ◌==◌, ◌&&◌, Bool, true, false, if◌then◌else◌, List, refl, ap, ◌∙◌}
use Rattle.qc_link.specs.Vocabulary.{fate}
use Rattle.qc_link.specs.declared.plan.Link.{Link}
use Rattle.qc_link.specs.declared.rule.Fate.{Fate}
use Rattle.qc_msg.specs.declared.message.Envelope.{Envelope}
use Rattle.qc_msg.specs.declared.message.Message.{Message}
use Rattle.qc_msg.specs.declared.message.Message.TheVariants as messages
use Rattle.qc_script.specs.Vocabulary.{Inbox, answers_by, comes, comes_at_once, comes_with, count_of, goes, goes_with}
use Rattle.qc_script.specs.Vocabulary.{has_request, is_request, is_up, one_more, request_answered, request_sent}
use Rattle.qc_script.specs.Vocabulary.{with_copies}
use Rattle.qc_script.proofs.InboxesSend.{by_test}

-- the same but for what waits, with these counts
pub record Counts (i j : Inbox) (from_now to_now : List ℕ) : Type 0 where
  pub cuts : j.cuts ≡ i.cuts
  pub up : j.up ≡ i.up
  pub controls : j.controls ≡ i.controls
  pub from_each : j.from_each ≡ from_now
  pub to_each : j.to_each ≡ to_now

abbrev pub Keeps : Inbox → Inbox → Type 0
Keeps i j = Counts i j i.from_each i.to_each

pub same : (i : Inbox) → Keeps i i
same i = record { cuts = refl; up = refl; controls = refl; from_each = refl; to_each = refl }

answered_keeps : (i : Inbox) (number : ℕ) (f : Fate) → Keeps i (request_answered i number f)
answered_keeps i number f = by_test (Keeps i) (has_request i.unanswered number) _ i
    (record { cuts = refl; up = refl; controls = refl; from_each = refl; to_each = refl }) (same i)

answers_keep : (i : Inbox) (m : Message) (f : Fate) → Keeps i (answers_by i m f)
answers_keep i (messages.Request tx epoch life want) f = same i
answers_keep i (messages.Answer to answer) f = answered_keeps i to f
answers_keep i (messages.Decision tx verdict) f = same i
answers_keep i (messages.Inquiry tx) f = same i
answers_keep i (messages.Ask tx) f = same i
answers_keep i (messages.Close epoch) f = same i
answers_keep i (messages.Install start) f = same i

sent_keeps : (i : Inbox) (number to : ℕ) (f : Fate) → Keeps i (request_sent i number to f)
sent_keeps i number to f =
    by_test (Keeps i) (comes_at_once f && is_up i.up to) _ _
    (record { cuts = refl; up = refl; controls = refl; from_each = refl; to_each = refl })
    (record { cuts = refl; up = refl; controls = refl; from_each = refl; to_each = refl })

comes_with_counts : (up : Bool) (i : Inbox) (e : Envelope) (f : Fate)
    → Counts i (comes_with up i e f) (one_more i.from_each e.from) i.to_each
comes_with_counts up i e f =
    let after : Keeps (with_copies up i e f) (answers_by (with_copies up i e f) e.message f) =
    answers_keep (with_copies up i e f) e.message f in
    record {
      cuts = after.cuts;
      up = after.up;
      controls = after.controls;
      from_each = after.from_each;
      to_each = after.to_each;
    }

pub comes_counts : (links : List Link) (a : ℕ) (i : Inbox) (e : Envelope)
    → Counts i (comes links a i e) (if e.to == a then one_more i.from_each e.from else i.from_each) i.to_each
comes_counts links a i e = by (e.to == a)
  where
    by : (t : Bool) → Counts i (if t then comes_with (is_up i.up a) i e
        (fate links i.cuts e.from e.to (count_of i.from_each e.from + 1)) else i)
        (if t then one_more i.from_each e.from else i.from_each) i.to_each
    by true = comes_with_counts (is_up i.up a) i e (fate links i.cuts e.from e.to (count_of i.from_each e.from + 1))
    by false = same i

goes_with_counts : (i : Inbox) (e : Envelope) (f : Fate)
    → Counts i (goes_with i e f) i.from_each (one_more i.to_each e.to)
goes_with_counts i e f = by (is_request e.message)
  where
    by : (t : Bool) → Counts i (if t then request_sent
        (record i { to_each = one_more i.to_each e.to }) e.number e.to f else
        (record i { to_each = one_more i.to_each e.to })) i.from_each (one_more i.to_each e.to)
    by true =
        let after : Keeps (record i { to_each = one_more i.to_each e.to })
        (request_sent (record i { to_each = one_more i.to_each e.to }) e.number e.to f) =
        sent_keeps (record i { to_each = one_more i.to_each e.to }) e.number e.to f in
        record {
          cuts = after.cuts;
          up = after.up;
          controls = after.controls;
          from_each = after.from_each;
          to_each = after.to_each;
        }
    by false = record { cuts = refl; up = refl; controls = refl; from_each = refl; to_each = refl }

goes_counts : (links : List Link) (a : ℕ) (i : Inbox) (e : Envelope)
    → Counts i (goes links a i e) i.from_each (if e.from == a then one_more i.to_each e.to else i.to_each)
goes_counts links a i e = by (e.from == a)
  where
    by : (t : Bool) → Counts i (if t then goes_with i e
        (fate links i.cuts e.from e.to (count_of i.to_each e.to + 1)) else i) i.from_each
        (if t then one_more i.to_each e.to else i.to_each)
    by true = goes_with_counts i e (fate links i.cuts e.from e.to (count_of i.to_each e.to + 1))
    by false = same i

pub sends_count : (links : List Link) (a : ℕ) (i : Inbox) (e : Envelope)
    → Counts i (goes links a (comes links a i e) e) (if e.to == a then one_more i.from_each e.from else i.from_each)
    (if e.from == a then one_more i.to_each e.to else i.to_each)
sends_count links a i e =
    let first : Counts i (comes links a i e)
    (if e.to == a then one_more i.from_each e.from else i.from_each) i.to_each = comes_counts links a i e in
    let second : Counts (comes links a i e) (goes links a (comes links a i e) e) (comes links a i e).from_each
    (if e.from == a then one_more (comes links a i e).to_each e.to else (comes links a i e).to_each) =
    goes_counts links a (comes links a i e) e in
    record {
      cuts = second.cuts ∙ first.cuts;
      up = second.up ∙ first.up;
      controls = second.controls ∙ first.controls;
      from_each = second.from_each ∙ first.from_each;
      to_each = second.to_each ∙ ap (λ (c : List ℕ). if e.from == a then one_more c e.to else c) first.to_each;
    }

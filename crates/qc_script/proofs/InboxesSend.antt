-- What the inboxes of two actors have in common, as messages are sent.
use Rattle.std.proofs.Common.{[], ◌≡◌, ℕ, ◌+◌, ◌-◌, ◌<◌, ◌==◌, ◌&&◌, Bool, true, false, if◌then◌else◌, List, ◌∷◌}
use Rattle.std.proofs.Common.{length, Option, Some, None, refl, ap, sym, subst, ◌∙◌}
use Rattle.std.specs.Option.{option_map_or}
use Rattle.std.proofs.lemmas.Bool.{eqb-false, eqb-true}
use Rattle.std.proofs.lemmas.List.{get_or-set_other, get_or-set_same, length-set}
use Rattle.qc_link.specs.Vocabulary.{fate, most_actors}
use Rattle.qc_link.specs.declared.plan.Link.{Link}
use Rattle.qc_link.specs.declared.rule.Fate.{Fate}
use Rattle.qc_msg.specs.declared.message.Envelope.{Envelope}
use Rattle.qc_msg.specs.declared.message.Message.{Message}
use Rattle.qc_msg.specs.declared.message.Message.TheVariants as messages
use Rattle.qc_msg.specs.declared.step.Control.{Control}
use Rattle.qc_script.specs.declared.script.PhaseLines.{PhaseLines}
use Rattle.qc_script.specs.Vocabulary.{Inbox, acting, answers_by, comes, comes_at_once, comes_with, count_of, emptied}
use Rattle.qc_script.specs.Vocabulary.{goes, goes_with, has_request, is_request, is_up, one_more, opened, opened_by}
use Rattle.qc_script.specs.Vocabulary.{phase_begun, request_answered, request_sent, with_copies}

-- another inbox with the same cuts, control lines and counts
pub record Keeps (i j : Inbox) : Type 0 where
  pub cuts : j.cuts ≡ i.cuts
  pub up : j.up ≡ i.up
  pub controls : j.controls ≡ i.controls
  pub from_each : j.from_each ≡ i.from_each
  pub to_each : j.to_each ≡ i.to_each

pub same : (i : Inbox) → Keeps i i
same i = record { cuts = refl; up = refl; controls = refl; from_each = refl; to_each = refl }

-- which of two inboxes, by a test
pub by_test : (P : Inbox → Type 0) (t : Bool) (i j : Inbox) → P i → P j → P (if t then i else j)
by_test P true i j here there = here
by_test P false i j here there = there

answered_keeps : (i : Inbox) (number : ℕ) (f : Fate) → Keeps i (request_answered i number f)
answered_keeps i number f =
    by_test (Keeps i) (has_request i.unanswered number) _ i
    (record { cuts = refl; up = refl; controls = refl; from_each = refl; to_each = refl }) (same i)

answers_keep : (i : Inbox) (m : Message) (f : Fate) → Keeps i (answers_by i m f)
answers_keep i (messages.Request tx epoch life want) f = same i
answers_keep i (messages.Answer to answer) f = answered_keeps i to f
answers_keep i (messages.Decision tx verdict) f = same i
answers_keep i (messages.Inquiry tx) f = same i
answers_keep i (messages.Ask tx) f = same i
answers_keep i (messages.Close epoch) f = same i
answers_keep i (messages.Install start) f = same i

sent_keeps : (i : Inbox) (number to : ℕ) (f : Fate) → Keeps i (request_sent i number to f)
sent_keeps i number to f =
    by_test (Keeps i) (comes_at_once f && is_up i.up to) _ _
    (record { cuts = refl; up = refl; controls = refl; from_each = refl; to_each = refl })
    (record { cuts = refl; up = refl; controls = refl; from_each = refl; to_each = refl })

pub opened_keeps : (a : ℕ) (lines : List Control) (i : Inbox) → Keeps i (opened_by a lines i)
opened_keeps a [] i = record { cuts = refl; up = refl; controls = refl; from_each = refl; to_each = refl }
opened_keeps a (line ∷ lines) i = same i

pub emptied_keeps : (t : Bool) (i : Inbox) → Keeps i (emptied t i)
emptied_keeps true i = record { cuts = refl; up = refl; controls = refl; from_each = refl; to_each = refl }
emptied_keeps false i = same i

-- the inbox of a, and that of b, as far as they have in common; b sends to a
pub record InCommon (a b : ℕ) (i j : Inbox) : Type 0 where
  pub cuts : i.cuts ≡ j.cuts
  pub up : i.up ≡ j.up
  pub controls : i.controls ≡ j.controls
  pub from_length : length i.from_each ≡ most_actors
  pub to_length : length j.to_each ≡ most_actors
  pub count : count_of i.from_each b ≡ count_of j.to_each a

-- what keeps each of the two keeps what they have in common
pub kept : (a b : ℕ) (i j k l : Inbox) → InCommon a b i j → Keeps i k → Keeps j l → InCommon a b k l
kept a b i j k l common first second = record {
  cuts = first.cuts ∙ (common.cuts ∙ sym second.cuts);
  up = first.up ∙ (common.up ∙ sym second.up);
  controls = first.controls ∙ (common.controls ∙ sym second.controls);
  from_length = ap (λ (c : List ℕ). length c) first.from_each ∙ common.from_length;
  to_length = ap (λ (c : List ℕ). length c) second.to_each ∙ common.to_length;
  count =
      ap (λ (c : List ℕ). count_of c b) first.from_each
      ∙ (common.count ∙ ap (λ (c : List ℕ). count_of c a) (sym second.to_each));
}

-- a message that is sent: its receiver counts it by its sender, its sender by its receiver

pub record Sends (i j : Inbox) (from_now to_now : List ℕ) : Type 0 where
  pub cuts : j.cuts ≡ i.cuts
  pub up : j.up ≡ i.up
  pub controls : j.controls ≡ i.controls
  pub from_each : j.from_each ≡ from_now
  pub to_each : j.to_each ≡ to_now

comes_with_does : (up : Bool) (i : Inbox) (e : Envelope) (f : Fate)
    → Sends i (comes_with up i e f) (one_more i.from_each e.from) i.to_each
comes_with_does up i e f =
    let after : Keeps (with_copies up i e f) (answers_by (with_copies up i e f) e.message f) =
    answers_keep (with_copies up i e f) e.message f in
    record {
      cuts = after.cuts;
      up = after.up;
      controls = after.controls;
      from_each = after.from_each;
      to_each = after.to_each;
    }

comes_does : (links : List Link) (a : ℕ) (i : Inbox) (e : Envelope)
    → Sends i (comes links a i e) (if e.to == a then one_more i.from_each e.from else i.from_each) i.to_each
comes_does links a i e = by (e.to == a)
  where
    by : (t : Bool)
        → Sends i
        (if t then comes_with (is_up i.up a) i e (fate links i.cuts e.from e.to (count_of i.from_each e.from + 1))
        else i) (if t then one_more i.from_each e.from else i.from_each) i.to_each
    by true = comes_with_does (is_up i.up a) i e (fate links i.cuts e.from e.to (count_of i.from_each e.from + 1))
    by false = record { cuts = refl; up = refl; controls = refl; from_each = refl; to_each = refl }

goes_with_does : (i : Inbox) (e : Envelope) (f : Fate) → Sends i (goes_with i e f) i.from_each (one_more i.to_each e.to)
goes_with_does i e f = by (is_request e.message)
  where
    by : (t : Bool)
        → Sends i
        (if t then request_sent (record i { to_each = one_more i.to_each e.to }) e.number e.to f else
        (record i { to_each = one_more i.to_each e.to })) i.from_each (one_more i.to_each e.to)
    by true =
        let after : Keeps (record i { to_each = one_more i.to_each e.to })
        (request_sent (record i { to_each = one_more i.to_each e.to }) e.number e.to f) =
        sent_keeps (record i { to_each = one_more i.to_each e.to }) e.number e.to f in
        record {
          cuts = after.cuts;
          up = after.up;
          controls = after.controls;
          from_each = after.from_each;
          to_each = after.to_each;
        }
    by false = record { cuts = refl; up = refl; controls = refl; from_each = refl; to_each = refl }

goes_does : (links : List Link) (a : ℕ) (i : Inbox) (e : Envelope)
    → Sends i (goes links a i e) i.from_each (if e.from == a then one_more i.to_each e.to else i.to_each)
goes_does links a i e = by (e.from == a)
  where
    by : (t : Bool)
        → Sends i (if t then goes_with i e (fate links i.cuts e.from e.to (count_of i.to_each e.to + 1)) else i)
        i.from_each (if t then one_more i.to_each e.to else i.to_each)
    by true = goes_with_does i e (fate links i.cuts e.from e.to (count_of i.to_each e.to + 1))
    by false = record { cuts = refl; up = refl; controls = refl; from_each = refl; to_each = refl }

pub sends_does : (links : List Link) (a : ℕ) (i : Inbox) (e : Envelope)
    → Sends i (goes links a (comes links a i e) e) (if e.to == a then one_more i.from_each e.from else i.from_each)
    (if e.from == a then one_more i.to_each e.to else i.to_each)
sends_does links a i e =
    let first : Sends i (comes links a i e) (if e.to == a then one_more i.from_each e.from else i.from_each) i.to_each =
    comes_does links a i e in
    let second : Sends (comes links a i e) (goes links a (comes links a i e) e) (comes links a i e).from_each
    (if e.from == a then one_more (comes links a i e).to_each e.to else (comes links a i e).to_each) =
    goes_does links a (comes links a i e) e in
    record {
      cuts = second.cuts ∙ first.cuts;
      up = second.up ∙ first.up;
      controls = second.controls ∙ first.controls;
      from_each = second.from_each ∙ first.from_each;
      to_each = second.to_each ∙ ap (λ (c : List ℕ). if e.from == a then one_more c e.to else c) first.to_each;
    }

-- counts with one message more

count_same : (xs : List ℕ) (k : ℕ) → k < length xs → count_of (one_more xs k) k ≡ count_of xs k + 1
count_same xs k within = get_or-set_same xs k (count_of xs k + 1) 0 within

count_other : (xs : List ℕ) (k j : ℕ) → (j ≡ k → ⊥) → count_of (one_more xs k) j ≡ count_of xs j
count_other xs k j differs = get_or-set_other xs k j (count_of xs k + 1) 0 differs

pub length_more : (t : Bool) (xs : List ℕ) (k n : ℕ) → length xs ≡ n → length (if t then one_more xs k else xs) ≡ n
length_more true xs k n is = length-set xs k (count_of xs k + 1) ∙ is
length_more false xs k n is = is

pub one_count : (a b to from : ℕ) (xs ys : List ℕ) → a < most_actors → b < most_actors → length xs ≡ most_actors
    → length ys ≡ most_actors → count_of xs b ≡ count_of ys a
    → count_of (if to == a then one_more xs from else xs) b ≡ count_of (if from == b then one_more ys to else ys) a
one_count a b to from xs ys a_within b_within xs_long ys_long count = by (to == a) (from == b) refl refl
  where
    by : (s t : Bool) → (to == a) ≡ s → (from == b) ≡ t
        → count_of (if s then one_more xs from else xs) b ≡ count_of (if t then one_more ys to else ys) a
    by false false there other = count
    by true false here other = count_other xs from b (λ e. eqb-false from b other (sym e)) ∙ count
    by false true there mine = count ∙ sym (count_other ys to a (λ e. eqb-false to a there (sym e)))
    by true true here mine =
        let to_is : to ≡ a = eqb-true to a here in
        let from_is : from ≡ b = eqb-true from b mine in
        subst (λ (k : ℕ). count_of (one_more xs k) b ≡ count_of (one_more ys to) a) (sym from_is)
        (subst (λ (k : ℕ). count_of (one_more xs b) b ≡ count_of (one_more ys k) a) (sym to_is)
        (count_same xs b (subst (λ (n : ℕ). b < n) (sym xs_long) b_within)
        ∙ (ap (λ (n : ℕ). n + 1) count ∙ sym (count_same ys a (subst (λ (n : ℕ). a < n) (sym ys_long) a_within)))))

-- each step

settled_both : (a b : ℕ) (i j : Inbox) → InCommon a b i j
    → InCommon a b (record i { controls = acting i.up i.controls }) (record j { controls = acting j.up j.controls })
settled_both a b i j common = record {
  cuts = common.cuts;
  up = common.up;
  controls = λ k. acting (common.up k) (common.controls k);
  from_length = common.from_length;
  to_length = common.to_length;
  count = common.count;
}

pub opened_both : (a b : ℕ) (i j : Inbox) → InCommon a b i j → InCommon a b (opened a i) (opened b j)
opened_both a b i j common =
    kept a b _ _ (opened a i) (opened b j) (settled_both a b i j common)
    (opened_keeps a (acting i.up i.controls) (record i { controls = acting i.up i.controls }))
    (opened_keeps b (acting j.up j.controls) (record j { controls = acting j.up j.controls }))

pub phases_both : (a b : ℕ) (i j : Inbox) (phase : Option PhaseLines) → InCommon a b i j
    → InCommon a b (option_map_or (phase_begun a i) phase i) (option_map_or (phase_begun b j) phase j)
phases_both a b i j None common = common
phases_both a b i j (Some phase) common =
    opened_both a b _ _
    (record {
      cuts = common.cuts;
      up = common.up;
      controls = refl;
      from_length = common.from_length;
      to_length = common.to_length;
      count = common.count;
    })

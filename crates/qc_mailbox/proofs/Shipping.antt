-- A message that is sent: what is kept shows each inbox after it.
use Rattle.std.proofs.Common.{◌*◌, ◌≡◌, ℕ, ◌+◌, ◌<◌, ◌==◌, Bool, true, false, if◌then◌else◌, List, length, set, refl}
use Rattle.std.proofs.Common.{ap, sym, subst, ◌∙◌}
use Rattle.std.proofs.lemmas.Bool.{eqb-true}
use Rattle.std.proofs.lemmas.List.{length-set}
use Rattle.qc_link.specs.Vocabulary.{fate, most_actors}
use Rattle.qc_link.specs.declared.rule.Fate.{Fate}
use Rattle.qc_msg.specs.declared.message.Envelope.{Envelope}
use Rattle.qc_msg.specs.declared.turn.Posting.{Posting}
use Rattle.qc_script.specs.Vocabulary.{Inbox, comes, comes_with, count_of, goes, goes_with, is_up, one_more}
use Rattle.qc_mailbox.specs.Vocabulary.{Inboxes, Shows, Tray, after_send, count, empty_tray, tray_at, tray_comes}
use Rattle.qc_mailbox.specs.Vocabulary.{tray_goes, tray_of, with_coming, with_going}
use Rattle.qc_mailbox.proofs.Counting.{at_set, count_more, more_of}
use Rattle.qc_mailbox.proofs.Sent.{Counts, comes_counts, sends_count}
use Rattle.qc_mailbox.proofs.Shown.{comes_shown, goes_shown}

abbrev envelope : ℕ → ℕ → Posting → Envelope
envelope n from p = record { number = n; from = from; to = p.to; message = p.message }

-- the fate that what is kept gives
abbrev fate_in : Inboxes → ℕ → Posting → Fate
fate_in kept from p = fate kept.links kept.cuts from p.to (count kept.counts from p.to + 1)

pub tray_set : (trays : List Tray) (k a : ℕ) (t : Tray) → k < length trays
    → tray_at (set trays k t) a ≡ (if k == a then t else tray_at trays a)
tray_set trays k a t within = at_set trays k a t empty_tray within

-- the tray of an actor to which it may come

coming_tray : (kept : Inboxes) (a calls : ℕ) (i : Inbox) (from : ℕ) (p : Posting) (n : ℕ) → Shows kept a calls i
    → from < most_actors → p.to < length kept.trays
    → tray_at (with_coming (is_up kept.up p.to) kept.trays p.to n p.message (fate_in kept from p)) a ≡ tray_of calls
    (comes kept.links a i (envelope n from p))
coming_tray kept a calls i from p n shows from_within within =
    tray_set kept.trays p.to a (tray_comes (is_up kept.up p.to) (tray_at kept.trays p.to) n p.message
    (fate_in kept from p)) within ∙ by (p.to == a) refl
  where
    one : p.to ≡ a → fate_in kept from p ≡ fate kept.links i.cuts from p.to (count_of i.from_each from + 1)
    one here =
        ap (λ (cuts : List Bool). fate kept.links cuts from p.to (count kept.counts from p.to + 1)) (sym shows.cuts)
        ∙ ap (λ (k : ℕ). fate kept.links i.cuts from p.to (count kept.counts from k + 1)) here
        ∙ ap (λ (k : ℕ). fate kept.links i.cuts from p.to (k + 1)) (sym (shows.from_each from from_within))

    by : (t : Bool) → (p.to == a) ≡ t
        → (if t then tray_comes (is_up kept.up p.to) (tray_at kept.trays p.to) n p.message
        (fate_in kept from p) else tray_at kept.trays a)
        ≡ tray_of calls (if t then comes_with (is_up i.up a) i (envelope n from p)
        (fate kept.links i.cuts from p.to (count_of i.from_each from + 1)) else i)
    by true is =
        let here : p.to ≡ a = eqb-true p.to a is in
        ap (λ (k : ℕ). tray_comes (is_up kept.up k) (tray_at kept.trays k) n p.message (fate_in kept from p)) here
        ∙ ap (λ (t : Tray). tray_comes (is_up kept.up a) t n p.message (fate_in kept from p)) shows.tray
        ∙ ap (λ (up : List Bool). tray_comes (is_up up a) (tray_of calls i) n p.message (fate_in kept from p))
        (sym shows.up)
        ∙ ap (λ (f : Fate). tray_comes (is_up i.up a) (tray_of calls i) n p.message f) (one here)
        ∙ sym (comes_shown calls (is_up i.up a) i (envelope n from p)
        (fate kept.links i.cuts from p.to (count_of i.from_each from + 1)))
    by false is = shows.tray

-- the tray of an actor from which it may go

going_tray : (kept : Inboxes) (trays : List Tray) (a calls : ℕ) (j : Inbox) (from : ℕ) (p : Posting) (n : ℕ)
    → tray_at trays a ≡ tray_of calls j
    → j.cuts ≡ kept.cuts → j.up ≡ kept.up → count_of j.to_each p.to ≡ count kept.counts a p.to → from < length trays
    → tray_at (with_going (is_up kept.up p.to) trays from n p.to p.message (fate_in kept from p)) a ≡ tray_of calls
    (goes kept.links a j (envelope n from p))
going_tray kept trays a calls j from p n shown cuts up counted within =
    tray_set trays from a (tray_goes (is_up kept.up p.to) (tray_at trays from) n p.to p.message (fate_in kept from p))
    within ∙ by (from == a) refl
  where
    one : from ≡ a → fate_in kept from p ≡ fate kept.links j.cuts from p.to (count_of j.to_each p.to + 1)
    one here =
        ap (λ (x : List Bool). fate kept.links x from p.to (count kept.counts from p.to + 1)) (sym cuts)
        ∙ ap (λ (k : ℕ). fate kept.links j.cuts from p.to (count kept.counts k p.to + 1)) here
        ∙ ap (λ (k : ℕ). fate kept.links j.cuts from p.to (k + 1)) (sym counted)

    by : (t : Bool) → (from == a) ≡ t
        → (if t then tray_goes (is_up kept.up p.to) (tray_at trays from) n p.to p.message
        (fate_in kept from p) else tray_at trays a)
        ≡ tray_of calls (if t then goes_with j (envelope n from p)
        (fate kept.links j.cuts from p.to (count_of j.to_each p.to + 1)) else j)
    by true is =
        let here : from ≡ a = eqb-true from a is in
        ap (λ (k : ℕ). tray_goes (is_up kept.up p.to) (tray_at trays k) n p.to p.message (fate_in kept from p)) here
        ∙ ap (λ (t : Tray). tray_goes (is_up kept.up p.to) t n p.to p.message (fate_in kept from p)) shown
        ∙ ap (λ (v : List Bool). tray_goes (is_up v p.to) (tray_of calls j) n p.to p.message (fate_in kept from p))
        (sym up)
        ∙ ap (λ (f : Fate). tray_goes (is_up j.up p.to) (tray_of calls j) n p.to p.message f) (one here)
        ∙ sym (goes_shown calls j (envelope n from p) (fate kept.links j.cuts from p.to (count_of j.to_each p.to + 1)))
    by false is = shown

-- counts

from_counts : (t u : Bool) (n : ℕ) → (if t then (if u then n + 1 else n) else n) ≡
    (if (if u then t else false) then n + 1 else n)
from_counts true true n = refl
from_counts true false n = refl
from_counts false true n = refl
from_counts false false n = refl

to_counts : (t u : Bool) (n : ℕ) → (if t then (if u then n + 1 else n) else n) ≡
    (if (if t then u else false) then n + 1 else n)
to_counts true true n = refl
to_counts true false n = refl
to_counts false true n = refl
to_counts false false n = refl

count_if : (t : Bool) (xs : List ℕ) (k b : ℕ) → k < length xs
    → count_of (if t then one_more xs k else xs) b ≡
    (if t then (if k == b then count_of xs b + 1 else count_of xs b) else count_of xs b)
count_if true xs k b within = more_of xs k b within
count_if false xs k b within = refl

pub length_if : (t : Bool) (xs : List ℕ) (k : ℕ) → length xs ≡ most_actors
    → length (if t then one_more xs k else xs) ≡ most_actors
length_if true xs k is = length-set xs k (count_of xs k + 1) ∙ is
length_if false xs k is = is

-- all of it
pub sending_shown : (kept : Inboxes) (a calls : ℕ) (i : Inbox) (from : ℕ) (p : Posting) → Shows kept a calls i
    → a < most_actors → from < most_actors → p.to < most_actors
    → length kept.trays ≡ most_actors → length kept.counts.each ≡ most_actors * most_actors
    → Shows (after_send kept from p) a calls
    (goes kept.links a (comes kept.links a i (envelope kept.counts.all from p)) (envelope kept.counts.all from p))
sending_shown kept a calls i from p shows a_within from_within to_within long counted = record {
  cuts = all.cuts ∙ shows.cuts;
  up = all.up ∙ shows.up;
  controls = all.controls ∙ shows.controls;
  from_each = λ b b_within.
      ap (λ (xs : List ℕ). count_of xs b) all.from_each
      ∙ (count_if (p.to == a) i.from_each from b (subst (λ (n : ℕ). from < n) (sym shows.from_length) from_within)
      ∙ (ap (λ (n : ℕ). if p.to == a then (if from == b then n + 1 else n) else n) (shows.from_each b b_within)
      ∙ (from_counts (p.to == a) (from == b) (count kept.counts b a)
      ∙ sym (count_more kept.counts from p.to b a counted from_within to_within a_within))));
  to_each = λ b b_within.
      ap (λ (xs : List ℕ). count_of xs b) all.to_each
      ∙ (count_if (from == a) i.to_each p.to b (subst (λ (n : ℕ). p.to < n) (sym shows.to_length) to_within)
      ∙ (ap (λ (n : ℕ). if from == a then (if p.to == b then n + 1 else n) else n) (shows.to_each b b_within)
      ∙ (to_counts (from == a) (p.to == b) (count kept.counts a b)
      ∙ sym (count_more kept.counts from p.to a b counted from_within to_within b_within))));
  from_length = ap (λ (xs : List ℕ). length xs) all.from_each
      ∙ length_if (p.to == a) i.from_each from shows.from_length;
  to_length = ap (λ (xs : List ℕ). length xs) all.to_each ∙ length_if (from == a) i.to_each p.to shows.to_length;
  tray = going_tray kept (with_coming (is_up kept.up p.to) kept.trays p.to kept.counts.all p.message
      (fate_in kept from p)) a calls (comes kept.links a i (envelope kept.counts.all from p)) from p kept.counts.all
      (coming_tray kept a calls i from p kept.counts.all shows from_within
      (subst (λ (k : ℕ). p.to < k) (sym long) to_within))
      (first.cuts ∙ shows.cuts)
      (first.up ∙ shows.up)
      (ap (λ (xs : List ℕ). count_of xs p.to) first.to_each ∙ shows.to_each p.to to_within)
      (subst (λ (k : ℕ). from < k) (sym (length-set kept.trays p.to _ ∙ long)) from_within);
}
  where
    first : Counts i (comes kept.links a i (envelope kept.counts.all from p))
        (if p.to == a then one_more i.from_each from else i.from_each) i.to_each
    first = comes_counts kept.links a i (envelope kept.counts.all from p)

    all : Counts i (goes kept.links a (comes kept.links a i (envelope kept.counts.all from p))
        (envelope kept.counts.all from p)) (if p.to == a then one_more i.from_each from else i.from_each)
        (if from == a then one_more i.to_each p.to else i.to_each)
    all = sends_count kept.links a i (envelope kept.counts.all from p)

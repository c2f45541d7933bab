-- The events that texts are, and the sets of them.
use Rattle.std.proofs.Common.{◌≡◌, ℕ, Bool, false, cond, List, Option, Some, None, codes, sym, ap, ◌∙◌}
use Rattle.std.specs.Prelude.{◌==◌, option_and_then}
use Rattle.std.specs.List.{slice_split}
use Rattle.std.specs.Str.{bytes_eq}
use Rattle.qc_table.specs.Vocabulary.{event, event_number}
use Rattle.qc_table.specs.declared.row.Event.{Event}
use Rattle.qc_accept.specs.Vocabulary.{WordsOf, cut, event_of_text, number_of, out_in, read_each, with_new}

-- the event of a text that was cut
abbrev event_of_cut : WordsOf → List Event → Option (List ℕ × List ℕ) → Option ℕ
event_of_cut w events parts =
    option_and_then (λ (p : List ℕ × List ℕ).
    option_and_then (λ (inv : ℕ).
    option_and_then (λ (resp : ℕ). event_number events (event inv resp)) (number_of w.resps p.1))
    (number_of w.invs p.0)) parts

-- the event of an invocation and a response that may be unknown
abbrev event_of_both : List Event → Option ℕ → Option ℕ → Option ℕ
event_of_both events i r = option_and_then
    (λ (inv : ℕ). option_and_then (λ (resp : ℕ). event_number events (event inv resp)) r) i

-- a text without a colon is none
pub event_uncut : (w : WordsOf) (events : List Event) (text : List ℕ) → None ≡ cut 58 text
    → None ≡ event_of_text w events text
event_uncut w events text e = ap (event_of_cut w events) e

-- one with a colon is that of its parts
pub event_cut : (w : WordsOf) (events : List Event) (text first second : List ℕ) (i r : Option ℕ)
    → Some (first, second) ≡ cut 58 text
    → i ≡ number_of w.invs first → r ≡ number_of w.resps second → event_of_both events i r ≡ event_of_text w events text
event_cut w events text first second i r e is_inv is_resp =
    (λ j. event_of_both events (is_inv j) (is_resp j)) ∙ ap (event_of_cut w events) e

-- where only the invocation is asked, it is unknown
pub event_unknown : (w : WordsOf) (events : List Event) (text first second : List ℕ)
    → Some (first, second) ≡ cut 58 text
    → None ≡ number_of w.invs first → None ≡ event_of_text w events text
event_unknown w events text first second e is_inv =
    ap (λ (i : Option ℕ). event_of_both events i (number_of w.resps second)) is_inv ∙ ap (event_of_cut w events) e

-- a set with the event that a text is
abbrev pub with_event_of : WordsOf → List Event → ℕ → List ℕ → Option ℕ
with_event_of w events set part = option_and_then (with_new set) (event_of_text w events part)

-- the event that a part is joins the set, or there is none
pub joined : (w : WordsOf) (events : List Event) (set : ℕ) (part : List ℕ) (e : ℕ) (next : Option ℕ)
    → Some e ≡ event_of_text w events part → next ≡ with_new set e
    → with_event_of w events set part ≡ next
joined w events set part e next is joins = ap (option_and_then (with_new set)) (sym is) ∙ sym joins

pub no_event : (w : WordsOf) (events : List Event) (set : ℕ) (part : List ℕ) → None ≡ event_of_text w events part
    → with_event_of w events set part ≡ None
no_event w events set part is = ap (option_and_then (with_new set)) (sym is)

-- a text that isn't `-` is the set of its parts
pub parted : (w : WordsOf) (events : List Event) (text : List ℕ) → bytes_eq text (codes "-") ≡ false
    → out_in w events text ≡ read_each (with_event_of w events) 0 (slice_split (λ b. b == 44) text)
parted w events text is = ap (λ (b : Bool). cond b (Some 0)
    (read_each (with_event_of w events) 0 (slice_split (λ b. b == 44) text))) is

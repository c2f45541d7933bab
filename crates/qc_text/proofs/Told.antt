-- What each actor has told, one step of a history on.
use Rattle.std.proofs.Common.{◌≡◌, ◌≢◌, ℕ, ◌+◌, ◌<◌, Bool, true, false, cond, List, [], ◌∷◌, ◌++◌, Some, None, length}
use Rattle.std.proofs.Common.{get_or, set, take, sym, ap, refl, ◌∙◌, arith}
use Rattle.std.specs.Prelude.{◌==◌}
use Rattle.std.specs.List.{cons_option}
use Rattle.std.proofs.lemmas.Bool.{eqb-true, eq-eqb}
use Rattle.std.proofs.lemmas.List.{append-nil, get_or-set_same, get_or-set_other}
use Rattle.std.proofs.lemmas.List.Elements.{filter_map-append}
use Rattle.qc_msg.specs.declared.reply.Reply.{Reply}
use Rattle.qc_msg.specs.declared.step.Step.{Step}
use Rattle.qc_msg.specs.Vocabulary.{Entry}
use Rattle.qc_text.specs.Vocabulary.{reply_by, reply_in, told_of}
use Rattle.qc_text.proofs.More.{more}

pub told_more : (a : ℕ) (h : List Entry) (i : ℕ) (x d : Entry) → i < length h → x ≡ get_or h i d
    → told_of a (take (i + 1) h) ≡ told_of a (take i h) ++ cons_option (reply_by a x) []
told_more a h i x d l e = ap (told_of a) (more h i x d l e) ∙ filter_map-append (reply_by a) (take i h) (x ∷ [])

-- different numbers
pub others : (a b : ℕ) → (a == b) ≡ false → b ≢ a
others a b t e = absurd (cc (eq-eqb a b (sym e), t))

told_here : (queues : List (List Reply)) (actor a : ℕ) (reply : Reply) (told : List Reply) → actor ≡ a
    → actor < length queues → get_or queues a [] ≡ told
    → get_or (set queues actor (get_or queues actor [] ++ reply ∷ [])) a [] ≡ told ++ reply ∷ []
told_here queues actor a reply told same l q =
    ap (λ k. get_or (set queues actor (get_or queues actor [] ++ reply ∷ [])) k []) (sym same)
    ∙ get_or-set_same queues actor (get_or queues actor [] ++ reply ∷ []) [] l
    ∙ ap (λ k. get_or queues k [] ++ reply ∷ []) same
    ∙ ap (λ t. t ++ reply ∷ []) q

told_by : (b : Bool) (queues : List (List Reply)) (actor a : ℕ) (step : Step) (reply : Reply) (told : List Reply)
    → (actor == a) ≡ b → reply_in step ≡ Some reply → actor < length queues → get_or queues a [] ≡ told
    → get_or (set queues actor (get_or queues actor [] ++ reply ∷ [])) a [] ≡ told ++ cons_option
    (cond b (reply_in step) None) []
told_by true queues actor a step reply told t r l q =
    rw r (told_here queues actor a reply told (eqb-true actor a t) l q)
told_by false queues actor a step reply told t r l q =
    get_or-set_other queues actor a (get_or queues actor [] ++ reply ∷ []) [] (others actor a t) ∙ q
    ∙ sym (append-nil told)

-- a reply is told
pub told_reply : (queues : List (List Reply)) (h : List Entry) (i : ℕ) (x d : Entry) (reply : Reply) → i < length h
    → x ≡ get_or h i d
    → length queues ≡ 256 → x.actor < 256 → reply_in x.step ≡ Some reply
    → ((a : ℕ) → a < 256 → get_or queues a [] ≡ told_of a (take i h))
    → (a : ℕ) → a < 256 → get_or (set queues x.actor (get_or queues x.actor [] ++ reply ∷ [])) a [] ≡ told_of a
    (take (i + 1) h)
told_reply queues h i x d reply l e all fits r told a la =
    let within : x.actor < length queues = omega arith in
    told_by (x.actor == a) queues x.actor a x.step reply (told_of a (take i h)) refl r within (told a la)
    ∙ sym (told_more a h i x d l e)

none_by : (b : Bool) (step : Step) (told : List Reply) → reply_in step ≡ None
    → told ≡ told ++ cons_option (cond b (reply_in step) None) []
none_by true step told r = rw r (sym (append-nil told))
none_by false step told r = sym (append-nil told)

-- another step
pub told_nothing : (queues : List (List Reply)) (h : List Entry) (i : ℕ) (x d : Entry) → i < length h → x ≡ get_or h i d
    → reply_in x.step ≡ None
    → ((a : ℕ) → a < 256 → get_or queues a [] ≡ told_of a (take i h))
    → (a : ℕ) → a < 256 → get_or queues a [] ≡ told_of a (take (i + 1) h)
told_nothing queues h i x d l e r told a la = told a la ∙ none_by (x.actor == a) x.step (told_of a (take i h)) r
    ∙ sym (told_more a h i x d l e)

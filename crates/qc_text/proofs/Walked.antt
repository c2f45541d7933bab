-- Along a history, one entry on: whether an actor is down, and its deeds.
use Rattle.std.proofs.Common.{◌≡◌, ℕ, ◌+◌, ◌<◌, Bool, true, false, List, ◌∷◌, ◌++◌, length, get_or, drop, sym, ap, refl}
use Rattle.std.proofs.Common.{◌∙◌, append_assoc}
use Rattle.std.specs.Prelude.{◌==◌, fold, option_to_list}
use Rattle.qc_msg.specs.declared.message.Envelope.{Envelope}
use Rattle.qc_msg.specs.Vocabulary.{Deed, Entry, deeds, envelope_of, own}
use Rattle.qc_text.specs.Vocabulary.{deeds_at, down_after, down_by}
use Rattle.qc_list.proofs.Places.{drop_at}

-- falls

down_one : (b : Bool) (down : Bool) (a : ℕ) (e : Entry) (h : List Entry) → (e.actor == a) ≡ b
    → fold down_after down (own a (e ∷ h)) ≡ fold down_after (down_by down a e) (own a h)
down_one true down a e h is = rw is refl
down_one false down a e h is = rw is refl

pub down_more : (a : ℕ) (h : List Entry) (i : ℕ) (x d : Entry) (down after all : Bool) → i < length h → x ≡ get_or h i d
    → after ≡ down_by down a x
    → fold down_after down (own a (drop i h)) ≡ all → fold down_after after (own a (drop (i + 1) h)) ≡ all
down_more a h i x d down after all l e is known =
    ap (λ (v : Bool). fold down_after v (own a (drop (i + 1) h))) is
    ∙ sym (down_one (x.actor == a) down a x (drop (i + 1) h) refl)
    ∙ ap (λ (v : List Entry). fold down_after down (own a v)) (sym (drop_at h i x d l e))
    ∙ known

-- deeds

pub deeds_more : (a : ℕ) (h : List Entry) (i : ℕ) (x d : Entry) (ds ds' all : List Deed) (ms ms' : List Envelope)
    → i < length h → x ≡ get_or h i d
    → ds' ≡ ds ++ deeds_at a ms x
    → ms' ≡ ms ++ option_to_list (envelope_of x)
    → ds ++ deeds a ms (drop i h) ≡ all
    → ds' ++ deeds a ms' (drop (i + 1) h) ≡ all
deeds_more a h i x d ds ds' all ms ms' l e more_ds more_ms known =
    ap (λ (v : List Deed). v ++ deeds a ms' (drop (i + 1) h)) more_ds
    ∙ append_assoc ds (deeds_at a ms x) (deeds a ms' (drop (i + 1) h))
    ∙ ap (λ (v : List Envelope). ds ++ (deeds_at a ms x ++ deeds a v (drop (i + 1) h))) more_ms
    ∙ ap (λ (v : List Entry). ds ++ deeds a ms v) (sym (drop_at h i x d l e))
    ∙ known

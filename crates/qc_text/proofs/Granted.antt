-- Grants, one deed on, and the views that join by them.
use Rattle.std.proofs.Common.{◌≡◌, ℕ, ◌+◌, ◌<◌, ◌||◌, Bool, true, false, List, [], ◌∷◌, Option, Some, None, length}
use Rattle.std.proofs.Common.{get_or, map, drop, sym, ap, refl, ◌∙◌, cond}
use Rattle.std.specs.Option.{option_map_or}
use Rattle.qc_entry.specs.declared.line.Line.{Line}
use Rattle.qc_msg.specs.declared.message.Envelope.{Envelope}
use Rattle.qc_msg.specs.declared.step.Fall.TheVariants as causes
use Rattle.qc_msg.specs.Vocabulary.{Deed, Falls, Requested, Rises, Sends, Takes, Tells, Writes, request_in}
use Rattle.qc_promise.specs.Vocabulary.{Lines, is_granted, learning, view_by, view_in}
use Rattle.qc_text.specs.Vocabulary.{deed_of, ends_post, sends_grant, view_asked}
use Rattle.qc_text.specs.declared.deeds.Deed.{Deed as Found}
use Rattle.qc_text.proofs.Found.{found_rest}
use Rattle.qc_text.proofs.Recorded.{learn_none}

-- grants

granted_taken : (number : ℕ) (d : Deed) (ds : List Deed) → ends_post d ≡ true → is_granted number (d ∷ ds) ≡ false
granted_taken number (Takes given) ds t = refl
granted_taken number (Writes written) ds t = absurd (let never : ⊥ = cc in never)
granted_taken number (Sends n to message) ds t = absurd (let never : ⊥ = cc in never)
granted_taken number (Tells reply) ds t = absurd (let never : ⊥ = cc in never)
granted_taken number (Falls causes.Script pending) ds t = refl
granted_taken number (Falls causes.Stop pending) ds t = refl
granted_taken number (Falls causes.Disk pending) ds t = refl
granted_taken number (Rises records) ds t = refl

granted_other : (number : ℕ) (d : Deed) (ds : List Deed) → ends_post d ≡ false
    → is_granted number (d ∷ ds) ≡ (sends_grant number d || is_granted number ds)
granted_other number (Takes given) ds t = absurd (let never : ⊥ = cc in never)
granted_other number (Writes written) ds t = refl
granted_other number (Sends n to message) ds t = refl
granted_other number (Tells reply) ds t = refl
granted_other number (Falls cause pending) ds t = absurd (let never : ⊥ = cc in never)
granted_other number (Rises records) ds t = absurd (let never : ⊥ = cc in never)

pub not_granted : (number : ℕ) (xs : List Found) (i : ℕ) (x d : Found) (all : Bool) → i < length xs → x ≡ get_or xs i d
    → ends_post (deed_of x) ≡ true
    → is_granted number (map deed_of (drop i xs)) ≡ all → false ≡ all
not_granted number xs i x d all l e t known =
    sym (granted_taken number (deed_of x) (map deed_of (drop (i + 1) xs)) t)
    ∙ ap (is_granted number) (sym (found_rest xs i x d l e)) ∙ known

granted_by : (b : Bool) (number : ℕ) (xs : List Found) (i : ℕ) (x d : Found) (all : Bool) → i < length xs
    → x ≡ get_or xs i d → ends_post (deed_of x) ≡ false
    → sends_grant number (deed_of x) ≡ b
    → is_granted number (map deed_of (drop i xs)) ≡ all → (b || is_granted number (map deed_of (drop (i + 1) xs))) ≡ all
granted_by b number xs i x d all l e t g known =
    ap (λ (v : Bool). v || is_granted number (map deed_of (drop (i + 1) xs))) (sym g)
    ∙ sym (granted_other number (deed_of x) (map deed_of (drop (i + 1) xs)) t)
    ∙ ap (is_granted number) (sym (found_rest xs i x d l e)) ∙ known

pub granted_now : (number : ℕ) (xs : List Found) (i : ℕ) (x d : Found) (all : Bool) → i < length xs → x ≡ get_or xs i d
    → ends_post (deed_of x) ≡ false
    → sends_grant number (deed_of x) ≡ true
    → is_granted number (map deed_of (drop i xs)) ≡ all → true ≡ all
granted_now number xs i x d all l e t g known = granted_by true number xs i x d all l e t g known

pub granted_later : (number : ℕ) (xs : List Found) (i : ℕ) (x d : Found) (all : Bool) → i < length xs
    → x ≡ get_or xs i d → ends_post (deed_of x) ≡ false
    → sends_grant number (deed_of x) ≡ false
    → is_granted number (map deed_of (drop i xs)) ≡ all → is_granted number (map deed_of (drop (i + 1) xs)) ≡ all
granted_later number xs i x d all l e t g known = granted_by false number xs i x d all l e t g known

-- a view joins where it is granted

abbrev none : List Line
none = []

view_asked_of : (b : Bool) → cond b none none ≡ none
view_asked_of true = refl
view_asked_of false = refl

view_cond : (e : Envelope) (after : List Deed)
    → view_by after e ≡ cond (is_granted e.number after) (view_asked e.message) []
view_cond e after = by (request_in e.message)
  where
    by : (o : Option Requested) → option_map_or
        (λ (q : Requested). cond (is_granted e.number after) (view_in q.want) []) o [] ≡ cond
        (is_granted e.number after) (option_map_or (λ (q : Requested). view_in q.want) o []) []
    by None = sym (view_asked_of (is_granted e.number after))
    by (Some q) = refl

pub joins : (e : Envelope) (after : List Deed) (l : Lines) (view : List Line) → view_asked e.message ≡ view
    → is_granted e.number after ≡ true
    → learning l view ≡ learning l (view_by after e)
joins e after l view v g =
    ap (learning l) (sym v)
    ∙ ap (λ (b : Bool). learning l (cond b (view_asked e.message) [])) (sym g)
    ∙ ap (learning l) (sym (view_cond e after))

pub joins_nothing : (e : Envelope) (after : List Deed) (l : Lines) → is_granted e.number after ≡ false
    → l ≡ learning l (view_by after e)
joins_nothing e after l g =
    sym (learn_none l)
    ∙ ap (λ (b : Bool). learning l (cond b (view_asked e.message) [])) (sym g)
    ∙ ap (learning l) (sym (view_cond e after))

pub joins_no_view : (e : Envelope) (after : List Deed) (l : Lines) → view_asked e.message ≡ []
    → l ≡ learning l (view_by after e)
joins_no_view e after l v =
    sym (learn_none l)
    ∙ ap (learning l) (sym (view_asked_of (is_granted e.number after)))
    ∙ ap (λ (w : List Line). learning l (cond (is_granted e.number after) w [])) (sym v)
    ∙ ap (learning l) (sym (view_cond e after))

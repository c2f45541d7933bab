-- Where a message's entry stands.
use Rattle.std.proofs.Common.{◌≡◌, ℕ, zero, suc, ◌+◌, ◌<◌, ◌⊎◌, inl, inr, List, [], ◌∷◌, ◌++◌, length, get_or, Option}
use Rattle.std.proofs.Common.{Some, None, option_to_list, refl, ap, sym, subst, ◌∙◌, arith, slice_get, append_assoc}
use Rattle.qc_msg.specs.declared.message.Envelope.{Envelope}
use Rattle.qc_msg.specs.declared.step.Step.{Step}
use Rattle.qc_msg.specs.declared.step.Step.TheVariants as steps
use Rattle.qc_msg.specs.Vocabulary.{Entry, envelope_at, envelope_of, mail}
use Rattle.qc_fabric.specs.Vocabulary.{place_of, places_of}
use Rattle.qc_list.proofs.Places.{place_within}
use Rattle.qc_msg.proofs.GrownMail.{mail-cons}

-- more entries

pub places-append : (place : ℕ) (h k : List Entry)
    → places_of place (h ++ k) ≡ places_of place h ++ places_of (place + length h) k
places-append place [] k = ap (λ (n : ℕ). places_of n k) (omega arith)
places-append place (e ∷ h) k =
    ap (λ (v : List ℕ). place_of place e.step ++ v)
    (places-append (place + 1) h k ∙ ap (λ (n : ℕ). places_of (place + 1) h ++ places_of n k) (omega arith))
    ∙ sym (append_assoc (place_of place e.step) (places_of (place + 1) h) (places_of (place + suc (length h)) k))

-- an entry sends no message, or one

pub record Sends (place a : ℕ) (step : Step) : Type 0 where
  pub envelope : Envelope
  pub sent : envelope_at a step ≡ Some envelope
  pub stands : place_of place step ≡ place ∷ []

pub record SendsNone (place a : ℕ) (step : Step) : Type 0 where
  pub sent : envelope_at a step ≡ None
  pub stands : place_of place step ≡ []

pub kind_of : (place a : ℕ) (step : Step) → SendsNone place a step ⊎ Sends place a step
kind_of place a (steps.Phase number) = inl (record { sent = refl; stands = refl })
kind_of place a (steps.Cut x y) = inl (record { sent = refl; stands = refl })
kind_of place a (steps.Heal x y) = inl (record { sent = refl; stands = refl })
kind_of place a (steps.Armed actor kind at) = inl (record { sent = refl; stands = refl })
kind_of place a (steps.Called command) = inl (record { sent = refl; stands = refl })
kind_of place a (steps.Got number) = inl (record { sent = refl; stands = refl })
kind_of place a (steps.Lost number) = inl (record { sent = refl; stands = refl })
kind_of place a (steps.Wrote written) = inl (record { sent = refl; stands = refl })
kind_of place a (steps.Sent number to message) =
    inr (record {
      envelope = record { number = number; from = a; to = to; message = message };
      sent = refl;
      stands = refl;
    })
kind_of place a (steps.Told reply) = inl (record { sent = refl; stands = refl })
kind_of place a (steps.Fell cause pending) = inl (record { sent = refl; stands = refl })
kind_of place a (steps.Rose records) = inl (record { sent = refl; stands = refl })
kind_of place a (steps.Damaged offset) = inl (record { sent = refl; stands = refl })

pub length-places : (place : ℕ) (h : List Entry) → length (places_of place h) ≡ length (mail h)
length-places place [] = refl
length-places place (e ∷ h) = by (kind_of place e.actor e.step) (length-places (place + 1) h)
  where
    by : SendsNone place e.actor e.step ⊎ Sends place e.actor e.step
        → length (places_of (place + 1) h) ≡ length (mail h) → length (places_of place (e ∷ h)) ≡ length (mail (e ∷ h))
    by (inl n) rest =
        ap (λ (v : List ℕ). length (v ++ places_of (place + 1) h)) n.stands ∙ rest
        ∙ sym (ap length (mail-cons e h ∙ ap (λ (o : Option Envelope). option_to_list o ++ mail h) n.sent))
    by (inr s) rest =
        ap (λ (v : List ℕ). length (v ++ places_of (place + 1) h)) s.stands ∙ ap suc rest
        ∙ sym (ap length (mail-cons e h ∙ ap (λ (o : Option Envelope). option_to_list o ++ mail h) s.sent))

-- the entry of the message of this number, in a history whose first entry stands at this place
pub record IsPlaced (place : ℕ) (h : List Entry) (number : ℕ) : Type 0 where
  pub at : ℕ
  pub entry : Entry
  pub stands : get_or (places_of place h) number 0 ≡ place + at
  pub there : slice_get h at ≡ Some entry
  pub is : envelope_of entry ≡ slice_get (mail h) number

pub placed : (place : ℕ) (h : List Entry) (number : ℕ) → number < length (mail h) → IsPlaced place h number
placed place [] number below = absurd (omega arith)
placed place (e ∷ h) number below = by (kind_of place e.actor e.step) number below
    (λ k n places mails low. later k n places mails (placed (place + 1) h k low))
  where
    later : (k n : ℕ) → get_or (places_of place (e ∷ h)) n 0 ≡ get_or (places_of (place + 1) h) k 0
        → slice_get (mail (e ∷ h)) n ≡ slice_get (mail h) k → IsPlaced (place + 1) h k → IsPlaced place (e ∷ h) n
    later k n places mails p = record {
      at = suc p.at;
      entry = p.entry;
      stands = places ∙ p.stands ∙ omega arith;
      there = p.there;
      is = p.is ∙ sym mails;
    }

    by : SendsNone place e.actor e.step ⊎ Sends place e.actor e.step → (n : ℕ) → n < length (mail (e ∷ h))
        → ((k m : ℕ) → get_or (places_of place (e ∷ h)) m 0 ≡ get_or (places_of (place + 1) h) k 0
        → slice_get (mail (e ∷ h)) m ≡ slice_get (mail h) k → k < length (mail h) → IsPlaced place (e ∷ h) m)
        → IsPlaced place (e ∷ h) n
    by (inl none) n low on =
        let same : mail (e ∷ h) ≡ mail h = mail-cons e h
        ∙ ap (λ (o : Option Envelope). option_to_list o ++ mail h) none.sent in
        on n n (ap (λ (v : List ℕ). get_or (v ++ places_of (place + 1) h) n 0) none.stands)
        (ap (λ (ms : List Envelope). slice_get ms n) same) (subst (λ (ms : List Envelope). n < length ms) same low)
    by (inr s) zero low on = record {
      at = 0;
      entry = e;
      stands = ap (λ (v : List ℕ). get_or (v ++ places_of (place + 1) h) 0 0) s.stands ∙ omega arith;
      there = refl;
      is = s.sent ∙ sym (ap (λ (ms : List Envelope). slice_get ms 0)
          (mail-cons e h ∙ ap (λ (o : Option Envelope). option_to_list o ++ mail h) s.sent));
    }
    by (inr s) (suc n) low on =
        let same : mail (e ∷ h) ≡ s.envelope ∷ mail h = mail-cons e h
        ∙ ap (λ (o : Option Envelope). option_to_list o ++ mail h) s.sent in
        let less : suc n < suc (length (mail h)) = subst (λ (ms : List Envelope). suc n < length ms) same low in
        on n (suc n) (ap (λ (v : List ℕ). get_or (v ++ places_of (place + 1) h) (suc n) 0) s.stands)
        (ap (λ (ms : List Envelope). slice_get ms (suc n)) same) (omega arith)

pub get-same : {A : Type 0} (xs : List A) (n : ℕ) (x other : A) → slice_get xs n ≡ Some x → get_or xs n other ≡ x
get-same [] n x other is = absurd (let no : ⊥ = cc in no)
get-same (y ∷ ys) zero x other is = cc
get-same (y ∷ ys) (suc n) x other is = get-same ys n x other is

-- of a history from its first entry on
pub entry_there : (h : List Entry) (number : ℕ) → number < length (mail h) → get_or (places_of 0 h) number 0 < length h
entry_there h number low =
    let p : IsPlaced 0 h number = placed 0 h number low in
    let below : p.at < length h = place_within h p.at p.entry p.there in
    let stands : get_or (places_of 0 h) number 0 ≡ 0 + p.at = p.stands in
    omega arith

pub entry_is : (h : List Entry) (number : ℕ) (e : Entry) → number < length (mail h)
    → e ≡ get_or h (get_or (places_of 0 h) number 0) e → envelope_of e ≡ slice_get (mail h) number
entry_is h number e low same =
    let p : IsPlaced 0 h number = placed 0 h number low in
    let at : get_or (places_of 0 h) number 0 ≡ p.at = p.stands ∙ omega arith in
    ap envelope_of (same ∙ ap (λ (n : ℕ). get_or h n e) at ∙ get-same h p.at p.entry e p.there) ∙ p.is

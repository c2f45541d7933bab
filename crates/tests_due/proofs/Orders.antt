-- Actors go by turns, and messages reach their receivers, where that computes to true.
use Rattle.std.proofs.Common.{◌≡◌, ℕ, zero, suc, ◌<◌, ◌==◌, ◌&&◌, Bool, true, false, List, [], ◌∷◌, ◌++◌, length}
use Rattle.std.proofs.Common.{Option, Some, None, is_some, option_to_list, slice_get, refl, subst, sym, arith}
use Rattle.std.proofs.lemmas.Bool.{eqb-false, eqb-true}
use Rattle.qc_decl.specs.declared.declaration.Declaration.{Declaration}
use Rattle.qc_decl.specs.Vocabulary.{is_site}
use Rattle.qc_msg.specs.declared.message.Envelope.{Envelope}
use Rattle.qc_msg.specs.declared.step.Step.{Step}
use Rattle.qc_msg.specs.declared.step.Step.TheVariants as steps
use Rattle.qc_msg.specs.Vocabulary.{Answered, Entry, answer_in, deeds, envelope_of}
use Rattle.qc_promise.specs.Vocabulary.{AreByTurns, IsAnswerOf, IsMailStep, IsMailed, IsReceived, IsRequestOf}
use Rattle.qc_promise.specs.Vocabulary.{IsRequestTo, asks_answer, place_after}

-- two tests, one after the other

both_true : (x y : Bool) → x && y ≡ true → (x ≡ true) × (y ≡ true)
both_true true y is = (refl, is)
both_true false y is = absurd (let never : ⊥ = cc in never)

-- the actors below a number

abbrev pub all_placed : Declaration → List Entry → ℕ → Bool
all_placed decl h zero = true
all_placed decl h (suc k) = is_some (place_after (is_site decl k) (deeds k [] h)) && all_placed decl h k

pub by_turns_where_placed : (decl : Declaration) (h : List Entry) (n : ℕ) → all_placed decl h n ≡ true → (a : ℕ) → a < n
    → AreByTurns (is_site decl a) (deeds a [] h)
by_turns_where_placed decl h zero all a below = absurd (omega arith)
by_turns_where_placed decl h (suc k) all a below =
    by (a == k) refl (both_true (is_some (place_after (is_site decl k) (deeds k [] h))) (all_placed decl h k) all).0
    (by_turns_where_placed decl h k
    (both_true (is_some (place_after (is_site decl k) (deeds k [] h))) (all_placed decl h k) all).1 a)
  where
    by : (t : Bool) → (a == k) ≡ t → AreByTurns (is_site decl k) (deeds k [] h)
        → (a < k → AreByTurns (is_site decl a) (deeds a [] h)) → AreByTurns (is_site decl a) (deeds a [] h)
    by true here mine rest =
        subst (λ (x : ℕ). AreByTurns (is_site decl x) (deeds x [] h)) (sym (eqb-true a k here)) mine
    by false other mine rest = let differs : a ≡ k → ⊥ = eqb-false a k other in rest (omega (arith, differs))

-- messages

abbrev request_of : ℕ → Option Envelope → Bool
request_of from None = false
request_of from (Some e) = (e.from == from) && asks_answer e.message

abbrev request_to : ℕ → Option Envelope → Bool
request_to to None = false
request_to to (Some e) = e.to == to

abbrev answer_of : List Envelope → ℕ → ℕ → Option Answered → Bool
answer_of ms from to None = true
answer_of ms from to (Some a) = request_of to (slice_get ms a.to) && request_to from (slice_get ms a.to)

abbrev received : List Envelope → ℕ → Option Envelope → Bool
received ms a None = false
received ms a (Some e) = (e.to == a) && answer_of ms e.from a (answer_in e.message)

abbrev mail_step : List Envelope → ℕ → Step → Bool
mail_step ms a (steps.Phase k) = true
mail_step ms a (steps.Cut x y) = true
mail_step ms a (steps.Heal x y) = true
mail_step ms a (steps.Armed actor kind at) = true
mail_step ms a (steps.Called command) = true
mail_step ms a (steps.Got n) = received ms a (slice_get ms n)
mail_step ms a (steps.Lost n) = request_of a (slice_get ms n)
mail_step ms a (steps.Wrote written) = true
mail_step ms a (steps.Sent n to message) = n == length ms
mail_step ms a (steps.Told reply) = true
mail_step ms a (steps.Fell cause pending) = true
mail_step ms a (steps.Rose records) = true
mail_step ms a (steps.Damaged offset) = true

abbrev pub all_mailed : List Envelope → List Entry → Bool
all_mailed ms [] = true
all_mailed ms (e ∷ h) = mail_step ms e.actor e.step && all_mailed (ms ++ option_to_list (envelope_of e)) h

request_of_is : (from : ℕ) (o : Option Envelope) → request_of from o ≡ true → IsRequestOf from o
request_of_is from None is = absurd (let never : ⊥ = cc in never)
request_of_is from (Some e) is =
    let parts : ((e.from == from) ≡ true) × (asks_answer e.message ≡ true) =
    both_true (e.from == from) (asks_answer e.message) is in
    (eqb-true e.from from parts.0, parts.1)

request_to_is : (to : ℕ) (o : Option Envelope) → request_to to o ≡ true → IsRequestTo to o
request_to_is to None is = absurd (let never : ⊥ = cc in never)
request_to_is to (Some e) is = eqb-true e.to to is

answer_is : (ms : List Envelope) (from to : ℕ) (o : Option Answered) → answer_of ms from to o ≡ true
    → IsAnswerOf ms from to o
answer_is ms from to None is = tt
answer_is ms from to (Some a) is =
    let parts : (request_of to (slice_get ms a.to) ≡ true) × (request_to from (slice_get ms a.to) ≡ true) =
    both_true (request_of to (slice_get ms a.to)) (request_to from (slice_get ms a.to)) is in
    (request_of_is to (slice_get ms a.to) parts.0, request_to_is from (slice_get ms a.to) parts.1)

received_is : (ms : List Envelope) (a : ℕ) (o : Option Envelope) → received ms a o ≡ true → IsReceived ms a o
received_is ms a None is = absurd (let never : ⊥ = cc in never)
received_is ms a (Some e) is =
    let parts : ((e.to == a) ≡ true) × (answer_of ms e.from a (answer_in e.message) ≡ true) =
    both_true (e.to == a) (answer_of ms e.from a (answer_in e.message)) is in
    (eqb-true e.to a parts.0, answer_is ms e.from a (answer_in e.message) parts.1)

step_is : (ms : List Envelope) (a : ℕ) (step : Step) → mail_step ms a step ≡ true → IsMailStep ms a step
step_is ms a (steps.Phase k) is = tt
step_is ms a (steps.Cut x y) is = tt
step_is ms a (steps.Heal x y) is = tt
step_is ms a (steps.Armed actor kind at) is = tt
step_is ms a (steps.Called command) is = tt
step_is ms a (steps.Got n) is = received_is ms a (slice_get ms n) is
step_is ms a (steps.Lost n) is = request_of_is a (slice_get ms n) is
step_is ms a (steps.Wrote written) is = tt
step_is ms a (steps.Sent n to message) is = eqb-true n (length ms) is
step_is ms a (steps.Told reply) is = tt
step_is ms a (steps.Fell cause pending) is = tt
step_is ms a (steps.Rose records) is = tt
step_is ms a (steps.Damaged offset) is = tt

pub mailed_where_shown : (ms : List Envelope) (h : List Entry) → all_mailed ms h ≡ true → IsMailed ms h
mailed_where_shown ms [] is = tt
mailed_where_shown ms (e ∷ h) is =
    let parts : (mail_step ms e.actor e.step ≡ true) × (all_mailed (ms ++ option_to_list (envelope_of e)) h ≡ true) =
    both_true (mail_step ms e.actor e.step) (all_mailed (ms ++ option_to_list (envelope_of e)) h) is in
    (step_is ms e.actor e.step parts.0, mailed_where_shown (ms ++ option_to_list (envelope_of e)) h parts.1)

-- what is said of the message step at a place

abbrev pub MailAt : ℕ → List Envelope → List Entry → Type 0
MailAt k ms [] = Unit {0}
MailAt zero ms (e ∷ h) = IsMailStep ms e.actor e.step
MailAt (suc k) ms (e ∷ h) = MailAt k (ms ++ option_to_list (envelope_of e)) h

pub mail_at : (k : ℕ) (ms : List Envelope) (h : List Entry) → IsMailed ms h → MailAt k ms h
mail_at k ms [] all = tt
mail_at zero ms (e ∷ h) all = all.0
mail_at (suc k) ms (e ∷ h) all = mail_at k (ms ++ option_to_list (envelope_of e)) h all.1

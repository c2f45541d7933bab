-- A history before its last phase, as somebody acts.
use Rattle.std.proofs.Common.{◌≡◌, ℕ, ◌+◌, List, [], ◌∷◌, ◌++◌, fold, Option, Some, None, refl, sym, ap, ◌∙◌}
use Rattle.std.proofs.lemmas.List.{append-nil, append_assoc}
use Rattle.std.proofs.lemmas.List.Sums.{fold-append}
use Rattle.qc_msg.specs.declared.reply.Reply.{Reply}
use Rattle.qc_msg.specs.declared.step.Input.{Input}
use Rattle.qc_msg.specs.declared.step.Input.TheVariants as inputs
use Rattle.qc_msg.specs.declared.step.Step.{Step}
use Rattle.qc_msg.specs.declared.step.Step.TheVariants as steps
use Rattle.qc_msg.specs.declared.turn.Posting.{Posting}
use Rattle.qc_msg.specs.declared.record.Record.{Record}
use Rattle.qc_msg.specs.declared.turn.Turn.{Turn}
use Rattle.qc_msg.specs.Vocabulary.{Entry, by, marked, posted, sents, step_of, told, wrote}
use Rattle.qc_msg.proofs.GrownMail.{by-posted}
use Rattle.laws_guarantees.specs.Vocabulary.{Parts, before_phase, goes_on, no_parts, parts, parts_by}

-- the parts of a history

parts_then : (h : List Entry) (e : Entry) → parts (h ++ e ∷ []) ≡ parts_by (parts h) e e.step
parts_then h e = fold-append (λ (p : Parts) (e : Entry). parts_by p e e.step) no_parts h (e ∷ [])

-- one step more: the whole is the history
whole_by : (p : Parts) (e : Entry) (step : Step) → (parts_by p e step).whole ≡ p.whole ++ e ∷ []
whole_by p e (steps.Phase k) = refl
whole_by p e (steps.Cut a b) = refl
whole_by p e (steps.Heal a b) = refl
whole_by p e (steps.Armed actor kind at) = refl
whole_by p e (steps.Called command) = refl
whole_by p e (steps.Got n) = refl
whole_by p e (steps.Lost n) = refl
whole_by p e (steps.Wrote written) = refl
whole_by p e (steps.Sent n to message) = refl
whole_by p e (steps.Told reply) = refl
whole_by p e (steps.Fell cause pending) = refl
whole_by p e (steps.Rose records) = refl
whole_by p e (steps.Damaged offset) = refl

wholes : (h : List Entry) (p : Parts) → (fold (λ (p : Parts) (e : Entry). parts_by p e e.step) p h).whole ≡ p.whole ++ h
wholes [] p = sym (append-nil p.whole)
wholes (e ∷ h) p = wholes h (parts_by p e e.step) ∙ ap (λ (v : List Entry). v ++ h) (whole_by p e e.step)
    ∙ append_assoc p.whole (e ∷ []) h

pub whole_is : (h : List Entry) → (parts h).whole ≡ h
whole_is h = wholes h no_parts

pub phase_parts : (h : List Entry) (a k : ℕ) → before_phase (h ++ marked a (steps.Phase k) ∷ []) ≡ h
phase_parts h a k = ap (λ (p : Parts). p.earlier) (parts_then h (marked a (steps.Phase k))) ∙ whole_is h

taken_step : (p : Parts) (e : Entry) (g : Input) → (parts_by p e (step_of g)).earlier ≡ p.earlier
taken_step p e (inputs.Called command) = refl
taken_step p e (inputs.Got envelope) = refl
taken_step p e (inputs.Lost number) = refl

pub taken_parts : (h : List Entry) (a : ℕ) (g : Input) → before_phase (h ++ marked a (step_of g) ∷ []) ≡ before_phase h
taken_parts h a g = ap (λ (p : Parts). p.earlier) (parts_then h (marked a (step_of g)))
    ∙ taken_step (parts h) (marked a (step_of g)) g

abbrev rest_of : Parts → List Entry → List Entry
rest_of p k = (fold (λ (p : Parts) (e : Entry). parts_by p e e.step) p k).earlier

pub wrote_parts : (a : ℕ) (write : Option Record) (p : Parts) → rest_of p (by a (wrote write)) ≡ p.earlier
wrote_parts a None p = refl
wrote_parts a (Some w) p = refl

pub sents_parts : (a n : ℕ) (ps : List Posting) (p : Parts) → rest_of p (by a (sents n ps)) ≡ p.earlier
sents_parts a n [] p = refl
sents_parts a n (q ∷ ps) p = sents_parts a (n + 1) ps (goes_on p (marked a (steps.Sent n q.to q.message)))

told_parts : (a : ℕ) (reply : Option Reply) (p : Parts) → rest_of p (by a (told reply)) ≡ p.earlier
told_parts a None p = refl
told_parts a (Some r) p = refl

pub parts_more : (h k : List Entry) → before_phase (h ++ k) ≡ rest_of (parts h) k
parts_more h k = ap (λ (p : Parts). p.earlier)
    (fold-append (λ (p : Parts) (e : Entry). parts_by p e e.step) no_parts h k)

rest_more : (p : Parts) (k l : List Entry)
    → rest_of p (k ++ l) ≡ rest_of (fold (λ (p : Parts) (e : Entry). parts_by p e e.step) p k) l
rest_more p k l = ap (λ (q : Parts). q.earlier) (fold-append (λ (p : Parts) (e : Entry). parts_by p e e.step) p k l)

pub posted_parts : (h : List Entry) (a n : ℕ) (turn : Turn) → before_phase (h ++ by a (posted n turn)) ≡ before_phase h
posted_parts h a n turn =
    parts_more h (by a (posted n turn)) ∙ ap (rest_of (parts h)) (by-posted a n turn)
    ∙ rest_more (parts h) (by a (wrote turn.write)) (by a (sents n turn.sends) ++ by a (told turn.told))
    ∙ rest_more (fold (λ (p : Parts) (e : Entry). parts_by p e e.step) (parts h) (by a (wrote turn.write)))
    (by a (sents n turn.sends)) (by a (told turn.told))
    ∙ told_parts a turn.told _
    ∙ sents_parts a n turn.sends (fold (λ (p : Parts) (e : Entry). parts_by p e e.step) (parts h)
    (by a (wrote turn.write)))
    ∙ wrote_parts a turn.write (parts h)

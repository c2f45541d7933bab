-- How what is read off a history grows, as the history does.
use Rattle.std.proofs.Common.{[], ◌≡◌, ℕ, ◌+◌, ◌==◌, ◌≤◌, Bool, true, false, cond, List, ◌∷◌, ◌++◌, map, filter, sum_by}
use Rattle.std.proofs.Common.{Option, Some, None, option_to_list, refl, ap, subst, sym, ◌∙◌, arith}
use Rattle.std.specs.List.{AllByRecursion as Every, cons_option}
use Rattle.std.specs.Prelude.{fold}
use Rattle.std.proofs.lemmas.List.{append-nil}
use Rattle.std.proofs.lemmas.List.Sums.{fold-append, sum_by-cons}
use Rattle.qc_msg.specs.declared.message.Envelope.{Envelope}
use Rattle.qc_msg.specs.declared.step.Fall.TheVariants as causes
use Rattle.qc_msg.specs.declared.step.Input.{Input}
use Rattle.qc_msg.specs.declared.step.Input.TheVariants as inputs
use Rattle.qc_msg.specs.declared.step.Step.{Step}
use Rattle.qc_msg.specs.declared.step.Step.TheVariants as steps
use Rattle.qc_msg.specs.declared.step.Step.TheVariants.{Fell, Rose, Wrote, Sent, Told}
use Rattle.qc_msg.specs.declared.turn.Appended.{Appended}
use Rattle.qc_msg.specs.declared.turn.Appended.TheVariants.{Done, Failed, Stopped}
use Rattle.qc_msg.specs.declared.turn.Turn.{Turn}
use Rattle.qc_msg.specs.Vocabulary.{Deed, Entry, IsNoRise, Takes, Tally, WasSentTo, answered, answered_at, answered_in}
use Rattle.qc_msg.specs.Vocabulary.{by, commit_in, deed_at, deeds, deeds_as, envelope_of, envelopes, fell, heard, mail}
use Rattle.qc_msg.specs.Vocabulary.{marked, no_tally, operations_of, own, posted, posted_as, sends_as, sents}
use Rattle.qc_msg.specs.Vocabulary.{standing_after, step_of, tally_of, tally_with, told, turn_deeds, written}
use Rattle.qc_entry.specs.declared.record.Commit.{Commit}
use Rattle.qc_msg.proofs.GrownMail.{by-append, mail-append, mail-sents, mail-told, mail-posted}
use Rattle.qc_msg.proofs.DeedsGrow.{own-append, deeds-append, deeds-by_same, deeds-as_same}
use Rattle.qc_list.proofs.Numbers.{number_same}

-- the actor's deeds go on by its post
pub deeds-posted_as : (end : Appended) (a n : ℕ) (h : List Entry) (turn : Turn)
    → deeds a [] (h ++ by a (posted_as end n turn)) ≡ deeds a [] h ++ deeds_as end n turn
deeds-posted_as end a n h turn =
    deeds-append a [] h (by a (posted_as end n turn))
    ∙ ap (λ (v : List Deed). deeds a [] h ++ v) (deeds-as_same end a n (mail h) turn)

mail-two : (a : ℕ) (xs ys : List Step) (es fs : List Envelope) → mail (by a xs) ≡ es → mail (by a ys) ≡ fs
    → mail (by a (xs ++ ys)) ≡ es ++ fs
mail-two a xs ys es fs first second =
    ap mail (by-append a xs ys) ∙ mail-append (by a xs) (by a ys)
    ∙ ap (λ (v : List Envelope). v ++ mail (by a ys)) first ∙ ap (λ (v : List Envelope). es ++ v) second

-- what a post sends
pub mail-posted_as : (end : Appended) (a n : ℕ) (turn : Turn)
    → mail (by a (posted_as end n turn)) ≡ envelopes a n (sends_as end turn)
mail-posted_as Done a n turn = mail-posted a n turn
mail-posted_as Failed a n turn =
    mail-two a (sents n turn.failed_sends) (told turn.failed_told ++ fell causes.Disk turn.write)
    (envelopes a n turn.failed_sends) [] (mail-sents a n turn.failed_sends)
    (mail-two a (told turn.failed_told) (fell causes.Disk turn.write) [] [] (mail-told a turn.failed_told) refl)
    ∙ append-nil (envelopes a n turn.failed_sends)
mail-posted_as Stopped a n turn =
    mail-two a (told turn.failed_told) (fell causes.Stop turn.write) [] [] (mail-told a turn.failed_told) refl

-- what an input does
pub deed_at-given : (a : ℕ) (ms : List Envelope) (input : Input) → WasSentTo a ms input
    → deed_at ms (step_of input) ≡ Takes input ∷ []
deed_at-given a ms (inputs.Called command) sent = refl
deed_at-given a ms (inputs.Got envelope) sent = ap heard sent.0
deed_at-given a ms (inputs.Lost number) sent = refl

deeds-input : (a : ℕ) (ms : List Envelope) (input : Input) → WasSentTo a ms input
    → deeds a ms (marked a (step_of input) ∷ []) ≡ Takes input ∷ []
deeds-input a ms input sent =
    ap (λ (v : Bool). cond v (deed_at ms (step_of input)) [] ++ []) (number_same a)
    ∙ ap (λ (v : List Deed). v ++ []) (deed_at-given a ms input sent)

-- the actor's own deeds go on by its input
pub deeds-taken : (a : ℕ) (h : List Entry) (input : Input) → WasSentTo a (mail h) input
    → deeds a [] (h ++ marked a (step_of input) ∷ []) ≡ deeds a [] h ++ Takes input ∷ []
deeds-taken a h input sent =
    deeds-append a [] h (marked a (step_of input) ∷ [])
    ∙ ap (λ (v : List Deed). deeds a [] h ++ v) (deeds-input a (mail h) input sent)

-- and by its turn
pub deeds-posted : (a n : ℕ) (h : List Entry) (turn : Turn)
    → deeds a [] (h ++ by a (posted n turn)) ≡ deeds a [] h ++ turn_deeds n turn
deeds-posted a n h turn =
    deeds-append a [] h (by a (posted n turn))
    ∙ ap (λ (v : List Deed). deeds a [] h ++ v) (deeds-by_same a n (mail h) turn)

-- an actor whose own steps stay has the deeds that it had
pub deeds-none_own : (a : ℕ) (ms : List Envelope) (k : List Entry) → own a k ≡ [] → deeds a ms k ≡ []
deeds-none_own a ms [] none = refl
deeds-none_own a ms (e ∷ k) none =
    by_actor (e.actor == a) none (deeds-none_own a (ms ++ option_to_list (envelope_of e)) k)
  where
    by_actor : (mine : Bool)
        → map (λ (x : Entry). x.step)
        (cond mine (e ∷ filter (λ (x : Entry). x.actor == a) k) (filter (λ (x : Entry). x.actor == a) k)) ≡ []
        → (own a k ≡ [] → deeds a (ms ++ option_to_list (envelope_of e)) k ≡ [])
        → cond mine (deed_at ms e.step) [] ++ deeds a (ms ++ option_to_list (envelope_of e)) k ≡ []
    by_actor true h rest = absurd (let never : ⊥ = cc in never)
    by_actor false h rest = rest h

-- an actor that makes no step keeps its deeds: runs over several actors will say so of all that don't move
pub same_deeds : (a : ℕ) (ms : List Envelope) (h k : List Entry) → own a (h ++ k) ≡ own a h
    → deeds a ms (h ++ k) ≡ deeds a ms h
same_deeds a ms h k same =
    let none : own a k ≡ [] = nothing_more (own a h) (own a k) (sym (own-append a h k) ∙ same) in
    deeds-append a ms h k ∙ ap (λ (v : List Deed). deeds a ms h ++ v) (deeds-none_own a (ms ++ mail h) k none)
    ∙ append-nil (deeds a ms h)
  where
    nothing_more : (xs ys : List Step) → xs ++ ys ≡ xs → ys ≡ []
    nothing_more [] ys h = h
    nothing_more (x ∷ xs) ys h = nothing_more xs ys (cc)

-- what is counted goes on

pub tally-more : (h : List Entry) (e : Entry) → tally_of (h ++ e ∷ []) ≡ tally_with (tally_of h) e
tally-more h e = fold-append tally_with no_tally h (e ∷ [])

pub operations-more : (h : List Entry) (e : Entry)
    → operations_of (h ++ e ∷ []) ≡ operations_of h + answered_at ((tally_of h).standing e.actor) e.step
operations-more h e = ap (λ (t : Tally). t.operations) (tally-more h e)

pub standing-more : (h : List Entry) (e : Entry) (a : ℕ)
    → (tally_of (h ++ e ∷ [])).standing a
    ≡ cond (a == e.actor) (standing_after ((tally_of h).standing a) e.step) ((tally_of h).standing a)
standing-more h e a = ap (λ (t : Tally). t.standing a) (tally-more h e)

tally_grows : (t : Tally) (k : List Entry) → t.operations ≤ (fold tally_with t k).operations
tally_grows t [] = omega arith
tally_grows t (e ∷ k) = omega (arith, tally_grows (tally_with t e) k)

pub operations-grow : (h k : List Entry) → operations_of h ≤ operations_of (h ++ k)
operations-grow h k =
    subst (λ (t : Tally). operations_of h ≤ t.operations) (sym (fold-append tally_with no_tally h k))
    (tally_grows (tally_of h) k)

-- without rises the committed operations are those of the records that were written

abbrev answered_by : Commit → ℕ
answered_by c = answered c.ops

operations-cons : (o : Option Commit) (cs : List Commit)
    → answered_in o + sum_by answered_by cs ≡ sum_by answered_by (cons_option o cs)
operations-cons None cs = omega arith
operations-cons (Some c) cs = sym (sum_by-cons answered_by c cs)

answered_written : (n : ℕ) (step : Step) → IsNoRise step → answered_at n step ≡ answered_in (commit_in step)
answered_written n (steps.Phase k) none = refl
answered_written n (steps.Cut a b) none = refl
answered_written n (steps.Heal a b) none = refl
answered_written n (steps.Armed actor kind at) none = refl
answered_written n (steps.Called command) none = refl
answered_written n (steps.Got number) none = refl
answered_written n (steps.Lost number) none = refl
answered_written n (steps.Wrote record_written) none = refl
answered_written n (steps.Sent number to message) none = refl
answered_written n (steps.Told reply) none = refl
answered_written n (steps.Fell cause pending) none = refl
answered_written n (steps.Rose records) never = absurd never
answered_written n (steps.Damaged offset) none = refl

tally_written : (t : Tally) (h : List Entry) → Every (λ (e : Entry). IsNoRise e.step) h
    → (fold tally_with t h).operations ≡ t.operations + sum_by answered_by (written h)
tally_written t [] none = let nothing : sum_by answered_by [] ≡ 0 = refl in omega arith
tally_written t (e ∷ h) none =
    let rest : (fold tally_with (tally_with t e) h).operations
    ≡ (t.operations + answered_at (t.standing e.actor) e.step) + sum_by answered_by (written h) =
    tally_written (tally_with t e) h none.1 in
    let one : answered_at (t.standing e.actor) e.step ≡ answered_in (commit_in e.step) =
    answered_written (t.standing e.actor) e.step none.0 in
    let all : answered_in (commit_in e.step) + sum_by answered_by (written h) ≡ sum_by answered_by (written (e ∷ h)) =
    operations-cons (commit_in e.step) (written h) in
    omega arith

pub operations_are_those_of_records : (h : List Entry) → Every (λ (e : Entry). IsNoRise e.step) h
    → operations_of h ≡ sum_by answered_by (written h)
operations_are_those_of_records h none =
    let all : operations_of h ≡ 0 + sum_by answered_by (written h) = tally_written no_tally h none in
    omega arith

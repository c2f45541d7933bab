-- The mail of a history that goes on.
use Rattle.std.proofs.Common.{◌≡◌, ℕ, suc, ◌+◌, ◌==◌, ◌≤◌, Bool, true, false, cond, List, [], ◌∷◌, ◌++◌, map, filter}
use Rattle.std.proofs.Common.{length, sum_by, Option, Some, None, option_to_list, refl, ap, subst, sym, ◌∙◌, arith}
use Rattle.std.proofs.Common.{append_assoc}
use Rattle.std.specs.List.{AllByRecursion as Every, cons_option}
use Rattle.std.specs.Prelude.{fold}
use Rattle.std.proofs.lemmas.Bool.{eq-eqb}
use Rattle.std.proofs.lemmas.List.{append-nil, map-append}
use Rattle.std.proofs.lemmas.List.Elements.{filter-append, filter_map-append}
use Rattle.std.proofs.lemmas.List.Sums.{fold-append, sum_by-cons}
use Rattle.qc_msg.specs.declared.message.Envelope.{Envelope}
use Rattle.qc_msg.specs.declared.record.Record.{Record}
use Rattle.qc_msg.specs.declared.reply.Reply.{Reply}
use Rattle.qc_msg.specs.declared.step.Fall.{Fall}
use Rattle.qc_msg.specs.declared.step.Input.{Input}
use Rattle.qc_msg.specs.declared.step.Step.{Step}
use Rattle.qc_msg.specs.declared.step.Step.TheVariants.{Fell, Rose, Wrote, Sent, Told}
use Rattle.qc_msg.specs.declared.turn.Appended.{Appended}
use Rattle.qc_msg.specs.declared.turn.Appended.TheVariants.{Done, Failed, Stopped}
use Rattle.qc_msg.specs.declared.turn.Posting.{Posting}
use Rattle.qc_msg.specs.declared.turn.Turn.{Turn}
use Rattle.qc_msg.specs.Vocabulary.{Deed, Entry, Falls, IsNoRise, Rises, Sends, Takes, Tally, WasSentTo, answered}
use Rattle.qc_msg.specs.Vocabulary.{answered_at, answered_in, by, commit_in, deed_at, deeds, deeds_as, envelope_of}
use Rattle.qc_msg.specs.Vocabulary.{envelopes, fell, heard, mail, marked, no_tally, operations_of, own, posted}
use Rattle.qc_msg.specs.Vocabulary.{posted_as, sends_as, sends_of, sents, standing_after, step_of, tally_of, tally_with}
use Rattle.qc_msg.specs.Vocabulary.{tells_of, told, turn_deeds, writes_of, written, wrote}
use Rattle.qc_entry.specs.declared.record.Commit.{Commit}
use Rattle.qc_msg.specs.declared.step.Fall.TheVariants as causes
use Rattle.qc_msg.specs.declared.step.Input.TheVariants as inputs
use Rattle.qc_msg.specs.declared.step.Step.TheVariants as steps

-- an actor's steps, as entries

pub by-append : (a : ℕ) (xs ys : List Step) → by a (xs ++ ys) ≡ by a xs ++ by a ys
by-append a [] ys = refl
by-append a (x ∷ xs) ys = ap (λ (v : List Entry). marked a x ∷ v) (by-append a xs ys)

-- the entries of a turn: its record, its messages, its reply
pub by-posted : (a n : ℕ) (turn : Turn) → by a (posted n turn) ≡ by a (wrote turn.write) ++
    (by a (sents n turn.sends) ++ by a (told turn.told))
by-posted a n turn =
    by-append a (wrote turn.write) (sents n turn.sends ++ told turn.told)
    ∙ ap (λ (v : List Entry). by a (wrote turn.write) ++ v) (by-append a (sents n turn.sends) (told turn.told))

-- messages

pub mail-append : (h k : List Entry) → mail (h ++ k) ≡ mail h ++ mail k
mail-append h k = filter_map-append envelope_of h k

mail-wrote : (a : ℕ) (write : Option Record) → mail (by a (wrote write)) ≡ []
mail-wrote a None = refl
mail-wrote a (Some written) = refl

pub mail-sents : (a n : ℕ) (ps : List Posting) → mail (by a (sents n ps)) ≡ envelopes a n ps
mail-sents a n [] = refl
mail-sents a n (p ∷ ps) = ap (λ (v : List Envelope). record { number = n; from = a; to = p.to; message = p.message }
    ∷ v) (mail-sents a (n + 1) ps)

pub mail-told : (a : ℕ) (reply : Option Reply) → mail (by a (told reply)) ≡ []
mail-told a None = refl
mail-told a (Some reply) = refl

-- what a turn sends
pub mail-posted : (a n : ℕ) (turn : Turn) → mail (by a (posted n turn)) ≡ envelopes a n turn.sends
mail-posted a n turn =
    let w : List Entry = by a (wrote turn.write) in
    let s : List Entry = by a (sents n turn.sends) in
    let t : List Entry = by a (told turn.told) in
    ap mail (by-posted a n turn)
    ∙ mail-append w (s ++ t)
    ∙ ap (λ (v : List Envelope). v ++ mail (s ++ t)) (mail-wrote a turn.write)
    ∙ mail-append s t
    ∙ ap (λ (v : List Envelope). v ++ mail t) (mail-sents a n turn.sends)
    ∙ ap (λ (v : List Envelope). envelopes a n turn.sends ++ v) (mail-told a turn.told)
    ∙ append-nil (envelopes a n turn.sends)

mail-input : (a : ℕ) (input : Input) (h : List Entry) → mail (marked a (step_of input) ∷ h) ≡ mail h
mail-input a (inputs.Called command) h = refl
mail-input a (inputs.Got envelope) h = refl
mail-input a (inputs.Lost number) h = refl

-- an input sends nothing
pub mail-taken : (h : List Entry) (a : ℕ) (input : Input) → mail (h ++ marked a (step_of input) ∷ []) ≡ mail h
mail-taken h a input =
    mail-append h (marked a (step_of input) ∷ [])
    ∙ ap (λ (v : List Envelope). mail h ++ v) (mail-input a input [])
    ∙ append-nil (mail h)

length-cons_option : (o : Option Envelope) (es : List Envelope) → length (cons_option o es) ≤ length es + 1
length-cons_option None es = omega arith
length-cons_option (Some e) es = omega arith

-- no more messages than steps
pub length-mail : (h : List Entry) → length (mail h) ≤ length h
length-mail [] = omega arith
length-mail (e ∷ h) = omega (arith, length-cons_option (envelope_of e) (mail h), length-mail h)

pub length-envelopes : (a n : ℕ) (ps : List Posting) → length (envelopes a n ps) ≡ length ps
length-envelopes a n [] = refl
length-envelopes a n (p ∷ ps) = ap (λ (v : ℕ). suc v) (length-envelopes a (n + 1) ps)

pub mail-cons : (e : Entry) (h : List Entry) → mail (e ∷ h) ≡ option_to_list (envelope_of e) ++ mail h
mail-cons e h = by (envelope_of e) refl
  where
    by : (o : Option Envelope) → envelope_of e ≡ o → mail (e ∷ h) ≡ option_to_list (envelope_of e) ++ mail h
    by None is = rw is refl
    by (Some envelope) is = rw is refl

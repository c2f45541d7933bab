use Rattle.std.proofs.Common.{◌≡◌, ◌∙◌, ◌⊎◌, Option, Some, None, inl, inr, refl, subst, sym, arith}
use Rattle.qc_report.specs.declared.cause.Cause.TheVariants as causes
use Rattle.std.specs.Prelude.{option_and_then}
use Rattle.qc_top.proofs.Blame.{blame_rose}
use Rattle.qc_top.proofs.Ends.{unread_due, unread_full, unread_no_rack, unread_no_shelf, unread_no_sink, unread_usage}
use Rattle.qc_promise.specs.Vocabulary.{Spent}
use Rattle.qc_top.proofs.Idle.{begun_kept, begun_spent}
use Rattle.qc_top.proofs.Room.{load_left, unread_not_full}
use Rattle.qc_top.proofs.Runs.{begun_below}
use Rattle.qc_top.proofs.Takes.{answers_short}
use Rattle.qc_top.specs.Vocabulary.{IsRackBlamed, folder_of}
use Rattle.qc_words.proofs.Askable.{words_ask_within_limits}
use Rattle.qc_words.specs.Vocabulary.{AskedOf, Load, asked, asked_in, texts_of}
use Rattle.qc_top.proofs.top.quorum_words.Goals as goal

-- words that were read

pub perform-requires-clause-askable : goal.perform-requires-clause-askable
perform-requires-clause-askable g c = λ _ _. words_ask_within_limits (texts_of c.args.words.now)
    (asked_in c.in-Ok.asked) c.in-Ok.ensures

pub perform-requires-clause-short : goal.perform-requires-clause-short
perform-requires-clause-short g c = λ _ _.
    answers_short g.F.Shelf.gives (g.F.Shelf.files c.args.shelf.now) (asked_in c.in-Ok.asked) c.args.shelf.now
    c.answers_for-answers.new.shelf c.answers_for-answers.result c.answers_for-answers.ensures.answers

pub returns-in-Ok-clause-leaves : goal.returns-in-Ok-clause-leaves
returns-in-Ok-clause-leaves g c = inr (
  asked_in c.in-Ok.asked,
  c.in-Ok.ensures,
  record {
    answers = c.answers_for-answers.result;
    given = c.answers_for-answers.ensures.answers;
    leaves = c.perform.ensures.leaves;
    rack = c.perform.ensures.rack;
    blame = c.perform.ensures.blame;
  },
)

pub returns-in-Ok-clause-words : goal.returns-in-Ok-clause-words
returns-in-Ok-clause-words g c = λ none. absurd
    (let both : Some (asked_in c.in-Ok.asked) ≡ None = sym c.in-Ok.ensures ∙ none in let never : ⊥ = cc in never)

pub returns-in-Ok-clause-usage : goal.returns-in-Ok-clause-usage
returns-in-Ok-clause-usage g c = λ is. absurd (c.perform.ensures.asked is)

pub returns-in-Ok-clause-shelf : goal.returns-in-Ok-clause-shelf
returns-in-Ok-clause-shelf g c = λ script same.
    blame_rose (asked_in c.in-Ok.asked) c.answers_for-answers.result script (g.F.Shelf.faults c.args.shelf.now)
    (g.F.Shelf.faults c.answers_for-answers.new.shelf) (c.perform.ensures.blame script same)
    c.answers_for-answers.ensures.count

pub returns-in-Ok-clause-rack : goal.returns-in-Ok-clause-rack
returns-in-Ok-clause-rack g c = λ fault is.
    subst
    (λ (a : Option AskedOf). IsRackBlamed (option_and_then folder_of a) (g.R.Rack.places c.args.rack.now)
    (g.R.Rack.faults c.args.rack.now) (g.R.Rack.faults c.perform.new.rack) fault) (sym c.in-Ok.ensures)
    (c.perform.ensures.used.blame fault is)

pub returns-in-Ok-clause-kept : goal.returns-in-Ok-clause-kept
returns-in-Ok-clause-kept g c = c.perform.ensures.used.kept

pub returns-in-Ok-clause-spent : goal.returns-in-Ok-clause-spent
returns-in-Ok-clause-spent g c = c.perform.ensures.used.spent

pub returns-in-Ok-clause-loads : goal.returns-in-Ok-clause-loads
returns-in-Ok-clause-loads g c = λ count seed workers asks few same.
    load_left (asked_in c.in-Ok.asked) count seed workers
    (let is : Some (asked_in c.in-Ok.asked) ≡ Some (Load count seed workers) = sym c.in-Ok.ensures ∙ asks in cc)
    (words_ask_within_limits (texts_of c.args.words.now) (asked_in c.in-Ok.asked) c.in-Ok.ensures)
    c.answers_for-answers.result _ c.perform.result.cause _ c.perform.result.history c.perform.ensures.leaves
    (subst (Spent c.perform.result.history) (omega (arith, same)) (c.perform.ensures.used.spent few))

pub returns-in-Ok-clause-later : goal.returns-in-Ok-clause-later
returns-in-Ok-clause-later g c = c.perform.ensures.used.later

pub returns-in-Ok-clause-tells : goal.returns-in-Ok-clause-tells
returns-in-Ok-clause-tells g c = c.perform.ensures.used.tells

-- and words that weren't

pub returns-in-Err-clause-leaves : goal.returns-in-Err-clause-leaves
returns-in-Err-clause-leaves g c = inl (record {
  due =
      unread_due (texts_of c.args.words.now) c.in-Err.fault c.without_run.result.cause
      (c.without_run.ensures.cause ∙ c.words_cause.ensures) c.in-Err.ensures;
  history = c.without_run.ensures.history;
  text = refl;
  shelf = refl;
  rack = refl;
})

pub returns-in-Err-clause-words : goal.returns-in-Err-clause-words
returns-in-Err-clause-words g c = λ none.
    by (unread_due (texts_of c.args.words.now) c.in-Err.fault c.without_run.result.cause
    (c.without_run.ensures.cause ∙ c.words_cause.ensures) c.in-Err.ensures)
  where
    by : ((c.without_run.result.cause ≡ causes.Usage) × (asked (texts_of c.args.words.now) ≡ None))
        ⊎ (c.without_run.result.cause ≡ causes.OutOfMemory)
        → (c.without_run.result.cause ≡ causes.Usage) ⊎ (c.without_run.result.cause ≡ causes.OutOfMemory)
    by (inl due) = inl due.0
    by (inr wanting) = inr wanting

pub returns-in-Err-clause-usage : goal.returns-in-Err-clause-usage
returns-in-Err-clause-usage g c = λ is.
    unread_usage (texts_of c.args.words.now) c.in-Err.fault c.without_run.result.cause
    (c.without_run.ensures.cause ∙ c.words_cause.ensures) c.in-Err.ensures is

pub returns-in-Err-clause-full : goal.returns-in-Err-clause-full
returns-in-Err-clause-full g c =
    unread_full c.in-Err.fault c.without_run.result.cause c.without_run.result.history
    (c.without_run.ensures.cause ∙ c.words_cause.ensures) c.without_run.ensures.history

pub returns-in-Err-clause-loads : goal.returns-in-Err-clause-loads
returns-in-Err-clause-loads g c = λ count seed workers asks few same.
    unread_not_full c.in-Err.fault c.without_run.result.cause (c.without_run.ensures.cause ∙ c.words_cause.ensures)

pub returns-in-Err-clause-before : goal.returns-in-Err-clause-before
returns-in-Err-clause-before g c = begun_below c.without_run.result.history c.without_run.ensures.history

pub returns-in-Err-clause-shelf : goal.returns-in-Err-clause-shelf
returns-in-Err-clause-shelf g c = λ script is.
    absurd (unread_no_shelf c.in-Err.fault c.without_run.result.cause
    (c.without_run.ensures.cause ∙ c.words_cause.ensures) script is)

pub returns-in-Err-clause-sink : goal.returns-in-Err-clause-sink
returns-in-Err-clause-sink g c = λ is.
    absurd (unread_no_sink c.in-Err.fault c.without_run.result.cause
    (c.without_run.ensures.cause ∙ c.words_cause.ensures) is)

pub returns-in-Err-clause-rack : goal.returns-in-Err-clause-rack
returns-in-Err-clause-rack g c = λ fault is.
    absurd (unread_no_rack c.in-Err.fault c.without_run.result.cause
    (c.without_run.ensures.cause ∙ c.words_cause.ensures) fault is)

pub returns-in-Err-clause-kept : goal.returns-in-Err-clause-kept
returns-in-Err-clause-kept g c = λ _. begun_kept c.without_run.result.history c.without_run.ensures.history

pub returns-in-Err-clause-spent : goal.returns-in-Err-clause-spent
returns-in-Err-clause-spent g c = λ _. begun_spent c.without_run.result.history _ c.without_run.ensures.history

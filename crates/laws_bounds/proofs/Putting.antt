-- The records that a history puts into journals: those of a post; those that a journal has; and those that rise, where
-- records are kept.
use Rattle.std.proofs.Common.{◌≡◌, ℕ, ◌+◌, ◌==◌, eqb-true, Bool, true, false, cond, List, [], ◌∷◌, ◌++◌, filter, map}
use Rattle.std.proofs.Common.{Option, Some, None, inl, inr, refl, sym, subst}
use Rattle.std.specs.Prelude.{fold, option_to_list}
use Rattle.std.specs.List.{AllByRecursion as Every}
use Rattle.qc_list.proofs.Members.{every-append}
use Rattle.qc_msg.specs.declared.record.Record.{Record}
use Rattle.qc_msg.specs.declared.reply.Reply.{Reply}
use Rattle.qc_msg.specs.declared.step.Control.{Control}
use Rattle.qc_msg.specs.declared.step.Fall.TheVariants as causes
use Rattle.qc_msg.specs.declared.step.Input.{Input}
use Rattle.qc_msg.specs.declared.step.Input.TheVariants as inputs
use Rattle.qc_msg.specs.declared.step.Step.{Step}
use Rattle.qc_msg.specs.declared.step.Step.TheVariants as steps
use Rattle.qc_msg.specs.declared.turn.Appended.{Appended}
use Rattle.qc_msg.specs.declared.turn.Appended.TheVariants.{Done, Failed, Stopped}
use Rattle.qc_msg.specs.declared.turn.Posting.{Posting}
use Rattle.qc_msg.specs.declared.turn.Turn.{Turn}
use Rattle.qc_msg.specs.Vocabulary.{Entry, by, fell, marked, own, posted_as, sents, step_of, told, wrote}
use Rattle.qc_promise.specs.Vocabulary.{IsGivenBack, Journal, journal_of, journal_with, no_journal, pending_with}
use Rattle.qc_script.specs.Vocabulary.{controller_step}
use Rattle.laws_bounds.specs.Vocabulary.{AllPut, AllRisen, records_at}
use Rattle.laws_bounds.proofs.StepCases.{line_cases, journal_cases}

module _ (P : ℕ → Record → Type 0) where
  -- a post puts its turn's record there, or leaves it pending

  sents_put : (a n : ℕ) (ps : List Posting) (rest : List Step) → AllPut P (by a rest)
      → AllPut P (by a (sents n ps ++ rest))
  sents_put a n [] rest after = after
  sents_put a n (p ∷ ps) rest after = (tt, sents_put a (n + 1) ps rest after)

  told_puts : (a : ℕ) (reply : Option Reply) (rest : List Step) → AllPut P (by a rest)
      → AllPut P (by a (told reply ++ rest))
  told_puts a None rest after = after
  told_puts a (Some reply) rest after = (tt, after)

  last_puts : (a : ℕ) (reply : Option Reply) → AllPut P (by a (told reply))
  last_puts a None = tt
  last_puts a (Some reply) = (tt, tt)

  pub post_puts : (a n : ℕ) (end : Appended) (t : Turn) → Every (P a) (option_to_list t.write)
      → AllPut P (by a (posted_as end n t))
  post_puts a n Done t writes = at t.write writes
    where
      at : (w : Option Record) → Every (P a) (option_to_list w)
          → AllPut P (by a (wrote w ++ (sents n t.sends ++ told t.told)))
      at None all = sents_put a n t.sends (told t.told) (last_puts a t.told)
      at (Some written) all = (all, sents_put a n t.sends (told t.told) (last_puts a t.told))
  post_puts a n Failed t writes =
      sents_put a n t.failed_sends (told t.failed_told ++ fell causes.Disk t.write)
      (told_puts a t.failed_told (fell causes.Disk t.write) (writes, tt))
  post_puts a n Stopped t writes = told_puts a t.failed_told (fell causes.Stop t.write) (writes, tt)

  -- no other step puts any

  pub input_puts : (a : ℕ) (g : Input) → AllPut P (by a (step_of g ∷ []))
  input_puts a (inputs.Called command) = (tt, tt)
  input_puts a (inputs.Got e) = (tt, tt)
  input_puts a (inputs.Lost n) = (tt, tt)

  pub line_puts : (a : ℕ) (line : Control) (step : Step) → controller_step line ≡ Some step
      → AllPut P (by a (step ∷ []))
  line_puts a =
      line_cases (λ line step. AllPut P (by a (step ∷ []))) (λ x y. (tt, tt)) (λ x y. (tt, tt))
      (λ actor kind at. (tt, tt))

  pub puts_both : (h k : List Entry) → AllPut P h → AllPut P k → AllPut P (h ++ k)
  puts_both h k first second = every-append (λ (e : Entry). Every (P e.actor) (records_at e.step)) h k first second

  -- what rises

  pub risen_part : (h k : List Entry) → AllRisen P (h ++ k) → AllRisen P h
  risen_part [] k all = tt
  risen_part (e ∷ h) k all = (all.0, risen_part h k all.1)

  pub risen_all : (before later : List Entry) (a : ℕ) (rs : List Record)
      → AllRisen P (before ++ marked a (steps.Rose rs) ∷ later)
      → Every (P a) rs
  risen_all [] later a rs all = all.0
  risen_all (e ∷ before) later a rs all = risen_all before later a rs all.1

-- a journal, and what is given back of it

pub record JournalHas (P : Record → Type 0) (j : Journal) : Type 0 where
  pub records : Every P j.records
  pub pending : Every P (option_to_list j.pending)

step_has : (P : Record → Type 0) (j : Journal) (step : Step) → Every P (records_at step) → JournalHas P j
    → JournalHas P (journal_with j step)
step_has P j step puts its =
    journal_cases (λ (s : Step). Every P (records_at s)) (JournalHas P) j its
    (λ written puts.
    record { records = every-append P j.records (written ∷ []) its.records puts; pending = its.pending })
    (λ cause pending puts. record { records = its.records; pending = at pending puts })
    (λ rs puts. record { records = puts; pending = tt }) step puts
  where
    at : (o : Option Record) → Every P (option_to_list o) → Every P (option_to_list (pending_with j.pending o))
    at None all = its.pending
    at (Some written) all = all

module _ (P : ℕ → Record → Type 0) (a : ℕ) where
  journal_has : (j : Journal) (h : List Entry) → AllPut P h → JournalHas (P a) j
      → JournalHas (P a) (fold journal_with j (own a h))
  journal_has j [] puts its = its
  journal_has j (e ∷ h) puts its =
      at (e.actor == a) refl (journal_has j h puts.1 its) (λ more. journal_has (journal_with j e.step) h puts.1 more)
    where
      at : (t : Bool) → (e.actor == a) ≡ t → JournalHas (P a) (fold journal_with j (own a h))
          →
          (JournalHas (P a) (journal_with j e.step) → JournalHas (P a)
          (fold journal_with (journal_with j e.step) (own a h)))
          → JournalHas (P a)
          (fold journal_with j
          (map (λ (k : Entry). k.step)
          (cond t (e ∷ filter (λ (k : Entry). k.actor == a) h) (filter (λ (k : Entry). k.actor == a) h))))
      at true same other mine =
          mine
          (step_has (P a) j e.step
          (subst (λ (k : ℕ). Every (P k) (records_at e.step)) (eqb-true e.actor a same) puts.0) its)
      at false elsewhere other mine = other

  pub own_journal_has : (h : List Entry) → AllPut P h → JournalHas (P a) (journal_of (own a h))
  own_journal_has h puts = journal_has no_journal h puts (record { records = tt; pending = tt })

  pub back_has : (h : List Entry) (rs : List Record) → AllPut P h → IsGivenBack (journal_of (own a h)) rs
      → Every (P a) rs
  back_has h rs puts (inl same) = subst (Every (P a)) (sym same) (own_journal_has h puts).records
  back_has h rs puts (inr more) =
      let its : JournalHas (P a) (journal_of (own a h)) = own_journal_has h puts in
      subst (Every (P a)) (sym more)
      (every-append (P a) (journal_of (own a h)).records
      (option_to_list (journal_of (own a h)).pending) its.records its.pending)

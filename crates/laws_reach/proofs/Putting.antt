-- The records that steps put into journals: where these are kept, and all that are written or were being written are
-- such, so are all that rise.
use Rattle.std.proofs.Common.{ℕ, ◌+◌, ◌==◌, inl, inr, Bool, true, false, cond, List, [], ◌∷◌, ◌++◌, filter, fold, map}
use Rattle.std.proofs.Common.{Option, Some, None, option_to_list, sym, subst}
use Rattle.std.specs.Prelude.{MatchOption}
use Rattle.std.specs.List.{AllByRecursion as Every}
use Rattle.qc_list.proofs.Members.{every-append, every-weaker}
use Rattle.qc_msg.specs.declared.record.Record.{Record}
use Rattle.qc_msg.specs.declared.reply.Reply.{Reply}
use Rattle.qc_msg.specs.declared.step.Fall.TheVariants as causes
use Rattle.qc_msg.specs.declared.step.Input.{Input}
use Rattle.qc_msg.specs.declared.step.Input.TheVariants as inputs
use Rattle.qc_msg.specs.declared.step.Step.{Step}
use Rattle.qc_msg.specs.declared.turn.Appended.{Appended}
use Rattle.qc_msg.specs.declared.turn.Appended.TheVariants.{Done, Failed, Stopped}
use Rattle.qc_msg.specs.declared.turn.Posting.{Posting}
use Rattle.qc_msg.specs.declared.turn.Turn.{Turn}
use Rattle.qc_msg.specs.Vocabulary.{Entry, Fallen, by, fell, fell_in, own, posted_as, rose_in, sents, step_of, told}
use Rattle.qc_msg.specs.Vocabulary.{wrote, wrote_in}
use Rattle.qc_promise.specs.Vocabulary.{IsGivenBack, Journal, journal_of, journal_with, no_journal, pending_with}
use Rattle.laws_reach.proofs.JournalCases.{journal_by, journal_cases}

module _ (P : Record → Type 0) where
  abbrev pub PutsBy : Option Record → Option Fallen → Option (List Record) → Type 0
  PutsBy wrote fell rose =
      MatchOption wrote
      (MatchOption fell (MatchOption rose (Unit {0}) (λ (kept : List Record). Every P kept))
      (λ (f : Fallen). Every P (option_to_list f.pending))) P

  abbrev pub Puts : Step → Type 0
  Puts step = PutsBy (wrote_in step) (fell_in step) (rose_in step)

  abbrev pub AllPut : List Entry → Type 0
  AllPut h = Every (λ (e : Entry). Puts e.step) h

  -- so an actor's journal has none but such, and so has what is given back of it

  record IsSuch (j : Journal) : Type 0 where
    records : Every P j.records
    pending : Every P (option_to_list j.pending)

  step_puts : (j : Journal) (step : Step) → Puts step → IsSuch j → IsSuch (journal_with j step)
  step_puts j step puts its =
      journal_cases (λ step wrote fell rose. PutsBy wrote fell rose → IsSuch (journal_by j wrote fell rose))
      (λ written puts. record {
        records = every-append P j.records (written ∷ []) its.records (puts, tt);
        pending = its.pending;
      })
      (λ f puts. record { records = its.records; pending = at f.pending puts })
      (λ kept puts. record { records = puts; pending = tt }) (λ step puts. its) step puts
    where
      at : (o : Option Record) → Every P (option_to_list o) → Every P (option_to_list (pending_with j.pending o))
      at None all = its.pending
      at (Some written) all = all

  journal_such : (j : Journal) (ss : List Step) → Every Puts ss → IsSuch j → IsSuch (fold journal_with j ss)
  journal_such j [] puts its = its
  journal_such j (step ∷ ss) puts its = journal_such (journal_with j step) ss puts.1 (step_puts j step puts.0 its)

  own_puts : (a : ℕ) (h : List Entry) → AllPut h → Every Puts (own a h)
  own_puts a [] puts = tt
  own_puts a (e ∷ h) puts = at (e.actor == a) (own_puts a h puts.1)
    where
      at : (t : Bool) → Every Puts (own a h) → Every Puts
          (map (λ (k : Entry). k.step) (cond t (e ∷ filter (λ (k : Entry). k.actor == a) h)
          (filter (λ (k : Entry). k.actor == a) h)))
      at true rest = (puts.0, rest)
      at false rest = rest

  back_such : (j : Journal) (kept : List Record) → IsSuch j → IsGivenBack j kept → Every P kept
  back_such j kept its (inl same) = subst (Every P) (sym same) its.records
  back_such j kept its (inr more) = subst (Every P) (sym more)
      (every-append P j.records (option_to_list j.pending) its.records its.pending)

  pub given_such : (a : ℕ) (h : List Entry) (kept : List Record) → AllPut h → IsGivenBack (journal_of (own a h)) kept
      → Every P kept
  given_such a h kept puts back = back_such (journal_of (own a h)) kept
      (journal_such no_journal (own a h) (own_puts a h puts) (record { records = tt; pending = tt })) back

  -- an input puts nothing, a post its record

  pub input_puts : (g : Input) → Puts (step_of g)
  input_puts (inputs.Called command) = tt
  input_puts (inputs.Got e) = tt
  input_puts (inputs.Lost n) = tt

  sents_put : (a n : ℕ) (ps : List Posting) (rest : List Step) → AllPut (by a rest) → AllPut (by a (sents n ps ++ rest))
  sents_put a n [] rest after = after
  sents_put a n (p ∷ ps) rest after = (tt, sents_put a (n + 1) ps rest after)

  told_puts : (a : ℕ) (reply : Option Reply) (rest : List Step) → AllPut (by a rest)
      → AllPut (by a (told reply ++ rest))
  told_puts a None rest after = after
  told_puts a (Some reply) rest after = (tt, after)

  last_puts : (a : ℕ) (reply : Option Reply) → AllPut (by a (told reply))
  last_puts a None = tt
  last_puts a (Some reply) = (tt, tt)

  pub post_puts : (a n : ℕ) (end : Appended) (t : Turn) → Every P (option_to_list t.write)
      → AllPut (by a (posted_as end n t))
  post_puts a n Done t writes = at t.write writes
    where
      at : (w : Option Record) → Every P (option_to_list w)
          → AllPut (by a (wrote w ++ (sents n t.sends ++ told t.told)))
      at None all = sents_put a n t.sends (told t.told) (last_puts a t.told)
      at (Some written) all = (all.0, sents_put a n t.sends (told t.told) (last_puts a t.told))
  post_puts a n Failed t writes = sents_put a n t.failed_sends (told t.failed_told ++ fell causes.Disk t.write)
      (told_puts a t.failed_told (fell causes.Disk t.write) (writes, tt))
  post_puts a n Stopped t writes = told_puts a t.failed_told (fell causes.Stop t.write) (writes, tt)

-- of records that are such, those that are less are so too
puts_weaker : (P Q : Record → Type 0) → ((r : Record) → P r → Q r) → (step : Step) → Puts P step → Puts Q step
puts_weaker P Q weaker step puts =
    journal_cases (λ step wrote fell rose. PutsBy P wrote fell rose → PutsBy Q wrote fell rose)
    (λ written puts. weaker written puts) (λ f puts. every-weaker P Q weaker (option_to_list f.pending) puts)
    (λ kept puts. every-weaker P Q weaker kept puts) (λ step puts. tt) step puts

pub all_weaker : (P Q : Record → Type 0) → ((r : Record) → P r → Q r) → (h : List Entry) → AllPut P h → AllPut Q h
all_weaker P Q weaker h puts = every-weaker (λ (e : Entry). Puts P e.step) (λ (e : Entry). Puts Q e.step)
    (λ e. puts_weaker P Q weaker e.step) h puts

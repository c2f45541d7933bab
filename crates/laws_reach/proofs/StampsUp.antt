-- A client's clock has passed its records; what pends is above it, whether it is up, down, or rises.
use Rattle.std.proofs.Common.{[], ◌≡◌, ◌<◌, ℕ, List, ◌∷◌, ◌++◌, inl, inr, Option, None, option_to_list, sym, ◌∙◌}
use Rattle.std.proofs.Common.{subst}
use Rattle.std.specs.List.{AllByRecursion as Every}
use Rattle.std.proofs.lemmas.List.{append-nil}
use Rattle.qc_entry.specs.declared.record.Commit.{Commit}
use Rattle.qc_msg.specs.declared.record.Record.{Record}
use Rattle.qc_msg.specs.declared.record.Record.TheVariants as records
use Rattle.qc_promise.specs.Vocabulary.{IsGivenBack, Journal}
use Rattle.laws_reach.proofs.RisingStamps.{IsUpTo, Rise, commits_more, commits_of, rise_first, rise_more}

-- while it is up its clock has passed its records, and none is pending; while it is down the pending one is above them

pub record UpTo (j : Journal) (n : ℕ) : Type 0 where
  pub passed : Every (IsUpTo n) (commits_of j.records)
  pub rise : Rise (commits_of j.records)
  pub none : j.pending ≡ None

abbrev pub WithPending : Journal → Type 0
WithPending j = Rise (commits_of (j.records ++ option_to_list j.pending))

-- it falls, with none pending, or with one above its clock

pub none_pending : (j : Journal) (n : ℕ) → UpTo j n → WithPending j
none_pending j n u =
    subst (λ (o : Option Record). Rise (commits_of (j.records ++ option_to_list o))) (sym u.none)
    (subst (λ (rs : List Record). Rise (commits_of rs)) (sym (append-nil j.records)) u.rise)

pub one_above : (j : Journal) (n : ℕ) → UpTo j n → (c : Commit) → n < c.stamp.clock
    → Rise (commits_of (j.records ++ records.Commit c ∷ []))
one_above j n u c above =
    subst Rise (sym (commits_more j.records (records.Commit c ∷ [])))
    (rise_more n (commits_of j.records) c u.rise u.passed above)

-- what rises of it
pub back_rise : (j : Journal) (kept : List Record) → IsGivenBack j kept → WithPending j → Rise (commits_of kept)
back_rise j kept (inl same) up =
    subst (λ (rs : List Record). Rise (commits_of rs)) (sym same)
    (rise_first (commits_of j.records) (commits_of (option_to_list j.pending))
    (subst Rise (commits_more j.records (option_to_list j.pending)) up))
back_rise j kept (inr more) up = subst (λ (rs : List Record). Rise (commits_of rs)) (sym more) up

pub with_life : (kept : List Record) → commits_of (kept ++ records.Life ∷ []) ≡ commits_of kept
with_life kept = commits_more kept (records.Life ∷ []) ∙ append-nil (commits_of kept)

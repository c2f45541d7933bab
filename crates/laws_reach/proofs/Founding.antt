-- What a client's deeds through falls and rises have to rest on; and so have those before them.
use Rattle.std.proofs.Common.{List, ◌++◌, sym, subst}
use Rattle.std.proofs.lemmas.List.Sums.{fold-append}
use Rattle.qc_list.specs.Vocabulary.{In}
use Rattle.qc_core.specs.Vocabulary.{AreGivenBack, journal_after, journal_at}
use Rattle.qc_entry.specs.declared.record.Commit.{Commit}
use Rattle.qc_msg.specs.declared.record.Record.TheVariants as records
use Rattle.qc_msg.specs.Vocabulary.{Deed}
use Rattle.qc_promise.specs.Vocabulary.{Journal, no_journal}
use Rattle.laws_atomic.proofs.Founded.{AreFounded, founded-first}
use Rattle.qc_core.proofs.KeptBack.{back_first, back_second}
use Rattle.laws_reach.proofs.Making.{all_stay}

-- grants that are founded, rises that give back its journal, whose commit records are among
-- those of all clients
pub record IsFounded (commits : List Commit) (ds : List Deed) : Type 0 where
  pub grants : AreFounded commits ds
  pub back : AreGivenBack no_journal ds
  pub kept : (c : Commit) → In (records.Commit c) (journal_after ds).records → In c commits

pub first_founded : (commits : List Commit) (xs ys : List Deed) → IsFounded commits (xs ++ ys) → IsFounded commits xs
first_founded commits xs ys f = record {
  grants = founded-first commits xs ys f.grants;
  back = back_first no_journal xs ys f.back;
  kept = λ c among. f.kept c
      (subst (λ (j : Journal). In (records.Commit c) j.records) (sym (fold-append journal_at no_journal xs ys))
      (all_stay (records.Commit c) (journal_after xs) ys (back_second no_journal xs ys f.back) among));
}

-- Where records are kept, a run with falls counts just the operations of its committed transactions.
use Rattle.std.proofs.Common.{◌≡◌, ◌≤◌, ◌<◌, ◌+◌, ◌==◌, ℕ, Bool, true, List, refl, sym, subst, arith, eq-eqb, le-leb}
use Rattle.std.proofs.Common.{lt-ltb}
use Rattle.std.specs.Prelude.{sum_by, ◌&&◌}
use Rattle.laws_votes.proofs.Brought.{brought, counted_brought, home, in_journal}
use Rattle.laws_votes.proofs.Distinct.{Differ, answers_of, distinct_by, ordered_within, rising_distinct}
use Rattle.laws_votes.specs.Vocabulary.{committed_operations}
use Rattle.laws_bounds.proofs.HistoriesNamed.{run_named}
use Rattle.laws_bounds.proofs.Names.{RecordNamed}
use Rattle.laws_bounds.proofs.Putting.{own_journal_has}
use Rattle.laws_bounds.specs.Vocabulary.{AllPut}
use Rattle.qc_core.proofs.LivesLaws.{journal}
use Rattle.qc_core.specs.Vocabulary.{IsLawfulWithFalls}
use Rattle.qc_decl.specs.Vocabulary.{IsAccepted, administrator, is_client}
use Rattle.qc_decl.specs.declared.declaration.Declaration.{Declaration}
use Rattle.qc_entry.specs.declared.record.Commit.{Commit as CommitRecord}
use Rattle.qc_list.proofs.Members.{In-filter, In-unfiltered, every-In}
use Rattle.qc_list.specs.Vocabulary.{In}
use Rattle.qc_msg.specs.Vocabulary.{Entry, no_tally, operations_of}
use Rattle.qc_msg.specs.declared.record.Record.{Record}
use Rattle.qc_msg.specs.declared.record.Record.TheVariants.{Commit}
use Rattle.theory_onecopy.proofs.Committed.{records_are_sorted}
use Rattle.theory_onecopy.specs.Vocabulary.{AreApart, IsOrdered, IsStampedBefore}
use Rattle.qc_promise.specs.Vocabulary.{Journal, Kept, committed, records}
use Rattle.laws_reach.proofs.Committing.{committed_records_stand}
use Rattle.laws_reach.proofs.RunLaws.{apart}
use Rattle.laws_reach.proofs.Written.{among_is, is_among}
use Rattle.laws_reach.specs.Vocabulary.{IsOfClient, records_of}
use Rattle.qc_script.specs.Vocabulary.{IsScriptFor, RunsWithFalls}
use Rattle.qc_script.specs.declared.script.Script.{Script}
use Rattle.laws_reach.proofs.RisingStamps.{commits_of}
use Rattle.laws_reach.proofs.RecordsRise.{records_rise}
use Rattle.std.specs.List.{AllPairs}
use Rattle.laws_reach.proofs.Sorted.{never_itself}

named_client : (decl : Declaration) (n : ℕ) → n < decl.clients → is_client decl (decl.sites + n) ≡ true
named_client decl n few =
    let low : decl.sites ≤ decl.sites + n = omega arith in
    let high : decl.sites + n < administrator decl = omega arith in
    λ i. (le-leb decl.sites (decl.sites + n) low i) && (lt-ltb (decl.sites + n) (administrator decl) high i)

module _ (fits : ℕ → List Record → Type 0) (decl : Declaration) (script : Script) (h : List Entry)
    (open_inputs : List Bool) (accepted : IsAccepted decl) (sound : IsScriptFor decl script)
    (run : RunsWithFalls (IsLawfulWithFalls decl) fits decl script h open_inputs) (kept : Kept h) where
  named : AllPut (RecordNamed decl) h
  named = (run_named decl accepted script sound fits h open_inputs run kept).puts

  abbrev all : List CommitRecord
  all = brought no_tally h

  of_client : (a : ℕ) (c : CommitRecord) → In (Commit c) (records_of h a) → RecordNamed decl a (Commit c)
  of_client a c among = every-In (RecordNamed decl a) (Commit c) (records_of h a)
      (own_journal_has (RecordNamed decl) a h named).records among

  -- it is in its client's journal
  listed : (c : CommitRecord) → In c all → In (Commit c) (records_of h (home decl c))
  listed c among = is_among c (records_of h (home decl c))
      (subst (In c) (in_journal decl h kept named (home decl c))
      (In-filter (λ (d : CommitRecord). home decl d == home decl c) c all among
      (eq-eqb (home decl c) (home decl c) refl)))

  is_of_client : (c : CommitRecord) → In c all → is_client decl (home decl c) ≡ true
  is_of_client c among = named_client decl c.tx.client (of_client (home decl c) c (listed c among)).1

  to_records : (c : CommitRecord) → In c all → In c (records decl h)
  to_records c among = (committed_records_stand decl h kept).all c
      (record { actor = home decl c; client = is_of_client c among; listed = listed c among })

  from_records : (c : CommitRecord) → In c (records decl h) → In c all
  from_records c among =
      let is : IsOfClient decl (records_of h) c = (committed_records_stand decl h kept).each c among in
      In-unfiltered (λ (d : CommitRecord). home decl d == is.actor) c all
      (subst (In c) (sym (in_journal decl h kept named is.actor)) (among_is c (records_of h is.actor) is.listed))

  -- and there once
  distinct : IsOrdered Differ all
  distinct = distinct_by (home decl) all (λ x among. subst (IsOrdered Differ)
      (sym (in_journal decl h kept named (home decl x)))
      (rising_distinct (commits_of (records_of h (home decl x)))
      (subst (λ (j : Journal). AllPairs (λ (c d : CommitRecord). c.stamp.clock < d.stamp.clock) (commits_of j.records))
      (journal (home decl x) h)
      (records_rise decl script fits accepted sound h open_inputs run kept (home decl x) (is_of_client x among)))))

  pub committed_operations_are_counted : committed_operations decl h ≡ operations_of h
  committed_operations_are_counted =
      let separate : AreApart (records decl h) =
      apart fits decl script h open_inputs accepted sound run kept (records decl h)
      (committed_records_stand decl h kept) in
      let order = records_are_sorted (records decl h) separate.stamps in
      let less : sum_by answers_of (committed decl h) ≤ sum_by answers_of all =
      ordered_within IsStampedBefore never_itself (committed decl h) all order.0
      (λ c among. from_records c ((order.1 c).0 among)) in
      let more : sum_by answers_of all ≤ sum_by answers_of (committed decl h) =
      ordered_within Differ (λ c differs. differs refl) all (committed decl h) distinct
      (λ c among. (order.1 c).1 (to_records c among)) in
      let counted : operations_of h ≡ sum_by answers_of all = counted_brought h in
      omega arith

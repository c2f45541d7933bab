-- In every run with falls whose records are kept, the stamps of a client's records rise, with the one that is pending.
use Rattle.std.proofs.Common.{◌≡◌, ◌<◌, ℕ, Bool, true, List, [], ◌++◌, option_to_list, subst}
use Rattle.std.specs.List.{AllPairs, filter_map}
use Rattle.qc_core.specs.Vocabulary.{IsLawfulWithFalls, journal_after}
use Rattle.qc_entry.specs.declared.record.Commit.{Commit}
use Rattle.qc_msg.specs.Vocabulary.{Entry, commit_of, deeds}
use Rattle.qc_decl.specs.Vocabulary.{IsAccepted, is_client}
use Rattle.qc_decl.specs.declared.declaration.Declaration.{Declaration}
use Rattle.qc_msg.specs.declared.record.Record.{Record}
use Rattle.qc_promise.specs.Vocabulary.{Journal, Kept}
use Rattle.qc_script.specs.Vocabulary.{IsScriptFor, RunsWithFalls}
use Rattle.qc_script.specs.declared.script.Script.{Script}
use Rattle.laws_due.specs.Vocabulary.{Declares}
use Rattle.qc_core.proofs.KeptBack.{rises_give_back_journals_where_records_are_kept}
use Rattle.laws_reach.proofs.RisingStamps.{Rise, commits_more, commits_of, rise_first, rise_pairs}
use Rattle.laws_reach.proofs.StampsUp.{WithPending}
use Rattle.laws_reach.proofs.Stamped.{course_rises}
use Rattle.laws_reach.proofs.VerdictLaw.{Lived, declares, lived}

module _ (decl : Declaration) (script : Script) (fits : ℕ → List Record → Type 0) (accepted : IsAccepted decl)
    (sound : IsScriptFor decl script) where
  abbrev IsRun : List Entry → List Bool → Type 0
  IsRun h open_inputs = RunsWithFalls (IsLawfulWithFalls decl) fits decl script h open_inputs

  journal_rises : (h : List Entry) (open_inputs : List Bool) → IsRun h open_inputs → Kept h → (a : ℕ)
      → is_client decl a ≡ true → WithPending (journal_after (deeds a [] h))
  journal_rises h open_inputs run kept a client =
      let l : Lived decl script fits accepted sound h open_inputs a =
      lived decl script fits accepted sound h open_inputs run a client in
      let d : Declares decl (deeds a [] h) = declares decl script fits accepted sound h open_inputs run kept a in
      course_rises decl a client d.first (deeds a [] h) l.is_open l.in_run.above l.in_run.lives d.deeds
      (rises_give_back_journals_where_records_are_kept h kept a)

  pub pending_rise : (h : List Entry) (open_inputs : List Bool) → IsRun h open_inputs → Kept h → (a : ℕ)
      → is_client decl a ≡ true
      → AllPairs (λ (c d : Commit). c.stamp.clock < d.stamp.clock)
      (filter_map commit_of
      ((journal_after (deeds a [] h)).records ++ option_to_list (journal_after (deeds a [] h)).pending))
  pending_rise h open_inputs run kept a client = rise_pairs _ (journal_rises h open_inputs run kept a client)

  pub records_rise : (h : List Entry) (open_inputs : List Bool) → IsRun h open_inputs → Kept h → (a : ℕ)
      → is_client decl a ≡ true
      → AllPairs (λ (c d : Commit). c.stamp.clock < d.stamp.clock)
      (filter_map commit_of (journal_after (deeds a [] h)).records)
  records_rise h open_inputs run kept a client =
      let j : Journal = journal_after (deeds a [] h) in
      rise_pairs (commits_of j.records)
      (rise_first (commits_of j.records) (commits_of (option_to_list j.pending))
      (subst Rise (commits_more j.records (option_to_list j.pending))
      (journal_rises h open_inputs run kept a client)))

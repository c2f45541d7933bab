-- Each run with falls whose records are kept is atomic: its five sentences, each a law of its own.
use Rattle.std.proofs.Common.{ℕ, Bool, List}
use Rattle.laws_turns.specs.Vocabulary.{OfEachKeptRun}
use Rattle.laws_reach.proofs.RunLaws.{committed_apart, committed_records_are_one_copy_through_falls}
use Rattle.laws_reach.proofs.SightLaw.{records_follow_what_was_seen_through_falls}
use Rattle.laws_reach.proofs.ToldRunLaws.{dealt, told}
use Rattle.qc_decl.specs.declared.declaration.Declaration.{Declaration}
use Rattle.qc_msg.specs.Vocabulary.{Entry}
use Rattle.qc_msg.specs.declared.record.Record.{Record}
use Rattle.qc_promise.specs.Vocabulary.{Atomic}
use Rattle.qc_script.specs.declared.script.Script.{Script}

pub runs_with_falls_are_atomic_where_records_are_kept : (fits : ℕ → List Record → Type 0)
    → OfEachKeptRun fits
    (λ (decl : Declaration) (script : Script) (h : List Entry) (open_inputs : List Bool). Atomic decl h)
runs_with_falls_are_atomic_where_records_are_kept fits decl script h open_inputs accepted sound run kept =
    record {
      apart = committed_apart fits decl script h open_inputs accepted sound run kept;
      one_copy = committed_records_are_one_copy_through_falls fits decl script h open_inputs accepted sound run kept;
      dealt = dealt fits decl script h open_inputs accepted sound run kept;
      seen = records_follow_what_was_seen_through_falls fits decl script h open_inputs accepted sound run kept;
      told = told fits decl script h open_inputs accepted sound run kept;
    }

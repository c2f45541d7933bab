-- Of the net of a run in which nobody falls and no epoch is closed: each transaction is safe, since each site is in the
-- life in which it granted.
use Rattle.std.proofs.Common.{Bool, inl, List}
use Rattle.qc_stamp.specs.declared.stamp.TxId.{TxId}
use Rattle.qc_core.specs.Vocabulary.{IsLawful}
use Rattle.qc_decl.specs.declared.declaration.Declaration.{Declaration}
use Rattle.qc_decl.specs.Vocabulary.{IsAccepted}
use Rattle.qc_msg.specs.Vocabulary.{Entry}
use Rattle.theory_machine.proofs.Keeps.{laws}
use Rattle.qc_script.specs.Vocabulary.{IsScriptFor, Runs}
use Rattle.qc_script.specs.declared.script.Script.{Script}
use Rattle.laws_refinement.specs.Vocabulary.{Refines}
use Rattle.laws_atomic.proofs.CalmGrants.{is_of_its_life}
use Rattle.laws_atomic.proofs.Stood.{Stood}
use Rattle.laws_guarantees.proofs.Live.{mirror, stood}
use Rattle.laws_guarantees.proofs.Settled.{IsSafe}

module _ (decl : Declaration) (script : Script) (accepted : IsAccepted decl) (sound : IsScriptFor decl script)
    (h : List Entry) (open_inputs : List Bool) (run : Runs (IsLawful decl) decl script h open_inputs) where
  abbrev s : Stood decl h open_inputs
  s = stood decl script accepted sound h open_inputs run

  abbrev m : Refines decl s.net
  m = mirror decl script accepted sound h open_inputs run

  pub safe_in_first_lives : (tx : TxId) → IsSafe m.acts tx
  safe_in_first_lives tx g counts its = inl
      (is_of_its_life decl s.net s.calm m.acts m.run m.agrees g ((laws decl m.acts m.run).known g counts))

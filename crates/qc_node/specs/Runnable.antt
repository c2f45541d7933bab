-- What is run: a script over a declaration that was accepted, which names what is declared.
use Rattle.qc_decl.specs.Vocabulary.{IsAccepted}
use Rattle.qc_decl.specs.declared.declaration.Declaration.{Declaration}
use Rattle.qc_script.specs.Vocabulary.{IsScriptFor}
use Rattle.qc_script.specs.declared.script.Script.{Script}

pub record IsRunnable (decl : Declaration) (script : Script) : Type 0 where
  pub accepted : IsAccepted decl
  pub declared : IsScriptFor decl script

-- A script that is run names what is declared.
use Rattle.qc_decl.specs.Vocabulary.{IsAccepted}
use Rattle.qc_decl.specs.declared.declaration.Declaration.{Declaration}
use Rattle.qc_script.specs.Vocabulary.{IsScriptFor}
use Rattle.qc_script.specs.declared.script.Script.{Script}
use Rattle.qc_node.specs.Vocabulary.{IsRunnable}

pub runnable : (decl : Declaration) (script : Script) → IsAccepted decl → IsScriptFor decl script
    → IsRunnable decl script
runnable decl script accepted declared = record { accepted = accepted; declared = declared }

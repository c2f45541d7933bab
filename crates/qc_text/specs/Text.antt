-- The whole text of a run.
use Rattle.std.specs.Prelude.{ℕ, List, ◌++◌}
use Rattle.qc_decl.specs.declared.declaration.Declaration.{Declaration}
use Rattle.qc_msg.specs.Vocabulary.{Entry}
use Rattle.theory_onecopy.specs.Vocabulary.{replay}
use Rattle.qc_promise.specs.Vocabulary.{committed}
use Rattle.qc_script.specs.declared.script.Script.{Script}
use Rattle.qc_text.specs.Log.{log_text}
use Rattle.qc_text.specs.Replies.{replies_text}
use Rattle.qc_text.specs.Sites.{sites_text}
use Rattle.qc_text.specs.States.{states_text}

-- four sections: the replies, the log of what committed, the states after its replay, and the sites
abbrev pub text_of : Declaration → Script → List Entry → List ℕ
text_of decl script h =
    replies_text decl script h
    ++ (log_text decl (committed decl h)
    ++ (states_text decl (replay decl (committed decl h))
    ++ sites_text decl h))

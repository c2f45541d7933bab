-- The section of the log: one line for each committed transaction.
use Rattle.std.specs.Prelude.{ℕ, List, [], ◌∷◌, ◌++◌, Option, Some, None, codes, flat_map}
use Rattle.qc_entry.specs.declared.line.Op.{Op}
use Rattle.qc_entry.specs.declared.record.Commit.{Commit}
use Rattle.qc_decl.specs.declared.declaration.Declaration.{Declaration}
use Rattle.qc_text.specs.Names.{object_name, invocation_name, response_name}
use Rattle.qc_text.specs.Parts.{stamp_text, transaction_text}

abbrev pub outcome_text : Declaration → ℕ → Option ℕ → List ℕ
outcome_text decl object None = codes "absent"
outcome_text decl object (Some resp) = response_name decl object resp

-- an operation as object, invocation and response, after the text before it
abbrev pub op_text : Declaration → List ℕ → Op → List ℕ
op_text decl before op =
    before ++ (object_name decl op.object ++ (codes " "
    ++ (invocation_name decl op.object op.inv ++ (codes " " ++ outcome_text decl op.object op.resp))))

-- operations, the first of them after the text before it and each other one after a comma
abbrev pub ops_text : Declaration → List ℕ → List Op → List ℕ
ops_text decl before [] = []
ops_text decl before (op ∷ ops) = op_text decl before op ++ ops_text decl (codes ", ") ops

abbrev pub commit_line : Declaration → Commit → List ℕ
commit_line decl c = stamp_text c.stamp ++ (codes " "
    ++ (transaction_text c.tx ++ (ops_text decl (codes " ") c.ops ++ codes "\n")))

abbrev pub log_text : Declaration → List Commit → List ℕ
log_text decl commits = codes "log\n" ++ flat_map (commit_line decl) commits

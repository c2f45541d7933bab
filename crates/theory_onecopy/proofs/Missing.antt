-- A step that is missing stays missing.
use Rattle.std.proofs.Common.{◌≡◌, ℕ, ◌+◌, ◌<◌, List, [], ◌∷◌, Some, None, length, get_or, drop, ap, refl, ◌∙◌}
use Rattle.std.specs.Prelude.{Option, fold}
use Rattle.qc_entry.specs.declared.line.Op.{Op}
use Rattle.qc_entry.specs.declared.record.Commit.{Commit}
use Rattle.qc_decl.specs.declared.declaration.Declaration.{Declaration}
use Rattle.theory_onecopy.specs.Vocabulary.{replay_commit, replayed, states_after}
use Rattle.qc_list.proofs.Places.{drop_at}

pub no_ops : (decl : Declaration) (ops : List Op) → fold (replayed decl) None ops ≡ None
no_ops decl [] = refl
no_ops decl (op ∷ ops) = no_ops decl ops

pub no_commits : (decl : Declaration) (commits : List Commit) → fold (replay_commit decl) None commits ≡ None
no_commits decl [] = refl
no_commits decl (c ∷ cs) = ap (λ (s : Option (List ℕ)). fold (replay_commit decl) s cs) (no_ops decl c.ops)
    ∙ no_commits decl cs

-- an operation without a step
pub op_missing : (decl : Declaration) (states : List ℕ) (ops : List Op) (i : ℕ) (op d : Op) → i < length ops
    → op ≡ get_or ops i d → states_after decl states op ≡ None
    → fold (replayed decl) (Some states) (drop i ops) ≡ None
op_missing decl states ops i op d l e m =
    ap (fold (replayed decl) (Some states)) (drop_at ops i op d l e)
    ∙ ap (λ (s : Option (List ℕ)). fold (replayed decl) s (drop (i + 1) ops)) m
    ∙ no_ops decl (drop (i + 1) ops)

-- a transaction with such an operation
pub commit_missing : (decl : Declaration) (states : List ℕ) (commits : List Commit) (i : ℕ) (c d : Commit)
    → i < length commits → c ≡ get_or commits i d
    → fold (replayed decl) (Some states) c.ops ≡ None
    → fold (replay_commit decl) (Some states) (drop i commits) ≡ None
commit_missing decl states commits i c d l e m =
    ap (fold (replay_commit decl) (Some states)) (drop_at commits i c d l e)
    ∙ ap (λ (s : Option (List ℕ)). fold (replay_commit decl) s (drop (i + 1) commits)) m
    ∙ no_commits decl (drop (i + 1) commits)

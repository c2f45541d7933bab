-- The last phase of a script.
use Rattle.std.proofs.Common.{◌≡◌, ℕ, ◌-◌, ◌<◌, ◌==◌, List, [], ◌∷◌, length, get_or, set, refl, ap, sym, ◌∙◌, arith}
use Rattle.std.proofs.Common.{rules}
use native.Mathlib.Numerals.{unary_clauses}
use Rattle.qc_script.specs.Vocabulary.{is_at_controls, is_before_commands, on_last}
use Rattle.qc_script.specs.declared.script.CommandLine.{CommandLine}
use Rattle.qc_link.specs.declared.plan.Link.{Link}
use Rattle.qc_script.specs.declared.script.PhaseLines.{PhaseLines}
use Rattle.qc_script.specs.declared.script.Script.{Script}

-- a change of the last phase, by its place
pub last_changed : (change : PhaseLines → PhaseLines) (phases : List PhaseLines) (d : PhaseLines) → 0 < length phases
    → on_last change phases ≡ set phases (length phases - 1) (change (get_or phases (length phases - 1) d))
last_changed change [] d some = absurd (omega arith)
last_changed change (p ∷ []) d some = refl
last_changed change (p ∷ q ∷ phases) d some =
    simp unary_clauses (simp unary_clauses at
    (ap (λ (rest : List PhaseLines). p ∷ rest) (last_changed change (q ∷ phases) d (omega arith))))

-- the same by the phase that was changed
pub changed_at : (change : PhaseLines → PhaseLines) (phases : List PhaseLines) (n : ℕ) (p q : PhaseLines)
    → n ≡ length phases → 0 < n
    → p ≡ get_or phases (n - 1) p → change p ≡ q → set phases (n - 1) q ≡ on_last change phases
changed_at change phases n p q long some last changed =
    sym (last_changed change phases p (omega arith)
    ∙ ap (λ (k : ℕ). set phases (k - 1) (change (get_or phases (k - 1) p))) (sym long)
    ∙ ap (λ (x : PhaseLines). set phases (n - 1) x) (ap change (sym last) ∙ changed))

-- whether the last phase has no command, by its place
pub at_controls : (phases : List PhaseLines) (p : PhaseLines) → 0 < length phases
    → p ≡ get_or phases (length phases - 1) p
    → is_at_controls phases ≡ is_before_commands p.commands
at_controls [] p some last = absurd (omega arith)
at_controls (x ∷ []) p some last = ap (λ (phase : PhaseLines). is_before_commands phase.commands) (sym last)
at_controls (x ∷ y ∷ phases) p some last =
    at_controls (y ∷ phases) p (omega arith) (simp unary_clauses (simp unary_clauses at last))

pub no_command : (lines : List CommandLine) → (length lines == 0) ≡ is_before_commands lines
no_command [] = refl
no_command (line ∷ lines) = search rules

-- a script whose last phase is changed
pub script_changed : (change : PhaseLines → PhaseLines) (script : Script) (links : List Link) (phases : List PhaseLines)
    (n : ℕ) (p q : PhaseLines)
    → (let seen : Script = record { links = links; phases = phases } in seen ≡ script) → n ≡ length phases → 0 < n
    → p ≡ get_or phases (n - 1) p → change p ≡ q
    → (let now : Script = record { links = links; phases = set phases (n - 1) q } in
    now ≡ record { links = script.links; phases = on_last change script.phases })
script_changed change script links phases n p q seen long some last changed =
    ap (λ (ps : List PhaseLines). let s : Script = record { links = links; phases = ps } in s)
    (changed_at change phases n p q long some last changed)
    ∙ ap (λ (s : Script). let t : Script = record { links = s.links; phases = on_last change s.phases } in t) seen

-- How a load is read over `@three`, command by command.
use Rattle.std.proofs.Common.{◌≡◌, ◌∙◌, ◌+◌, ◌%◌, ◌++◌, ◌==◌, ℕ, zero, suc, refl, sym, ap, arith, List, [], ◌∷◌, Bool}
use Rattle.std.proofs.Common.{true, false, Some, Ok, codes, nat_lt, if◌then◌else◌, append-nil, lt-ltb}
use Rattle.std.proofs.Math.Nat.{mod-lt}
use Rattle.std.proofs.lemmas.List.{append_assoc}
use Rattle.qc_decl.specs.Vocabulary.{three}
use Rattle.qc_gen.specs.Vocabulary.{client_of, command_of, lines_from, next_state, phase_of, phases_from}
use Rattle.qc_gen.specs.Vocabulary.{transaction_lines, write_number, write_of}
use Rattle.qc_msg.specs.declared.step.Command.{Command}
use Rattle.qc_msg.specs.declared.step.Command.TheVariants as commands
use Rattle.qc_script.specs.Items.{command_in}
use Rattle.qc_script.specs.Vocabulary.{empty_phase, is_in_phase, on_last, with_command, with_written}
use Rattle.qc_script.specs.declared.line.ScriptLine.{ScriptLine}
use Rattle.qc_script.specs.declared.line.ScriptLine.TheVariants.{Command as Asks}
use Rattle.qc_script.specs.declared.line.Verb.{Verb}
use Rattle.qc_script.specs.declared.line.Verb.TheVariants.{Begin, Do, Commit}
use Rattle.qc_script.specs.declared.script.PhaseLines.{PhaseLines}
use Rattle.qc_script.specs.declared.script.Script.{Script}

abbrev with_phases : List PhaseLines → Script
with_phases ps = record { links = []; phases = ps }

last_is_phase : (ps : List PhaseLines) (p : PhaseLines) → is_in_phase (ps ++ p ∷ []) ≡ true
last_is_phase [] p = refl
last_is_phase (q ∷ ps) p = refl

last_changes : (f : PhaseLines → PhaseLines) (ps : List PhaseLines) (p : PhaseLines)
    → on_last f (ps ++ p ∷ []) ≡ ps ++ f p ∷ []
last_changes f [] p = refl
last_changes f (q ∷ []) p = refl
last_changes f (q ∷ r ∷ ps) p = ap (λ qs. q ∷ qs) (last_changes f (r ∷ ps) p)

-- a line that asks a transaction's client adds its command to the last phase
asked : (n number : ℕ) (ps : List PhaseLines) (p : PhaseLines) (verb : Verb) (command : Command)
    (more : List ScriptLine)
    → nat_lt (client_of number) 3 ≡ true → command_in three verb ≡ Some command
    → with_written three n (with_phases (ps ++ p ∷ [])) (Asks (client_of number) verb ∷ more)
    ≡ with_written three (n + 1) (with_phases (ps ++ with_command (command_of number command) p ∷ [])) more
asked n number ps p verb command more below means =
    rw (below, means, last_is_phase ps p, last_changes (with_command (command_of number command)) ps p) refl

write_means : (state : ℕ)
    → command_in three (Do (codes "x") (write_of state)) ≡ Some (commands.Do 0 (write_number state))
write_means state = go (state % 2 == 1)
  where
    go : (bit : Bool) → command_in three (Do (codes "x") (if bit then codes "W1" else codes "W0"))
        ≡ Some (commands.Do 0 (if bit then 2 else 1))
    go true = refl
    go false = refl

-- the lines of a transaction add its phase
transaction_read : (n number state : ℕ) (ps : List PhaseLines) (more : List ScriptLine)
    → with_written three n (with_phases ps) (transaction_lines number state ++ more)
    ≡ with_written three (n + 1 + 1 + 1 + 1 + 1) (with_phases (ps ++ phase_of number state ∷ [])) more
transaction_read n number state ps more =
    let client = client_of number in
    let below : nat_lt client 3 ≡ true = lt-ltb client 3 (mod-lt number (omega arith)) in
    let with_begin = with_command (command_of number commands.Begin) empty_phase in
    let written : Command = commands.Do 0 (write_number state) in
    let with_write = with_command (command_of number written) with_begin in
    let with_read = with_command (command_of number (commands.Do 0 0)) with_write in
    let commits = Asks client Commit ∷ more in
    let reads = Asks client (Do (codes "x") (codes "R")) ∷ commits in
    let writes = Asks client (Do (codes "x") (write_of state)) ∷ reads in
    asked (n + 1) number ps empty_phase Begin commands.Begin writes below refl
    ∙ asked (n + 1 + 1) number ps with_begin (Do (codes "x") (write_of state)) written reads below (write_means state)
    ∙ asked (n + 1 + 1 + 1) number ps with_write (Do (codes "x") (codes "R")) (commands.Do 0 0) commits below refl
    ∙ asked (n + 1 + 1 + 1 + 1) number ps with_read Commit commands.Commit more below refl

-- behind phases that were read, the lines of more transactions add theirs
pub load_read : (count number state n : ℕ) (ps : List PhaseLines)
    → with_written three n (with_phases ps) (lines_from count number state)
    ≡ Ok (with_phases (ps ++ phases_from count number state))
load_read zero number state n ps = ap (λ qs. Ok (with_phases qs)) (sym (append-nil ps))
load_read (suc count) number state n ps =
    let next = next_state state in
    let later = phases_from count (suc number) next in
    transaction_read n number next ps (lines_from count (suc number) next)
    ∙ load_read count (suc number) next _ (ps ++ phase_of number next ∷ [])
    ∙ ap (λ qs. Ok (with_phases qs)) (append_assoc ps (phase_of number next ∷ []) later)

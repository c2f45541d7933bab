-- A guard is needed, as a story shows: a run without the guard, after which a guarantee is broken.
use Rattle.std.proofs.Common.{◌≡◌, true, List, Option, is_some}
use Rattle.qc_decl.specs.Vocabulary.{IsAccepted}
use Rattle.qc_decl.specs.declared.declaration.Declaration.{Declaration}
use Rattle.theory_machine.specs.Vocabulary.{Act, Guard}
use Rattle.theory_witnesses.proofs.Allowed.{run_of}
use Rattle.theory_witnesses.proofs.Finding.{proof_of}
use Rattle.theory_witnesses.specs.Vocabulary.{Guarantee, Holds, IsNeeded, Move, acts_of, every_guard_but}

pub shows_need : (guard : Guard) (guarantee : Guarantee) (decl : Declaration) → IsAccepted decl
    → (broken : (d : Declaration) (acts : List Act) → Option (Holds guarantee d acts → ⊥)) (story : List Move)
    → is_some (run_of (every_guard_but guard) decl story) ≡ true → is_some (broken decl (acts_of story)) ≡ true
    → IsNeeded guard guarantee
shows_need guard guarantee decl accepted broken story run shown =
    record {
      decl = decl;
      accepted = accepted;
      acts = acts_of story;
      run = proof_of (run_of (every_guard_but guard) decl story) run;
      broken = proof_of (broken decl (acts_of story)) shown;
    }

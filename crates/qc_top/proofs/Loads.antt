-- What becomes of a load's script: it is read over `@three`, as the load.
use Rattle.std.proofs.Common.{◌≡◌, ◌∙◌, ◌⊎◌, ℕ, List, Ok, Err, inl, inr, sym, ap}
use Rattle.qc_decl.specs.Vocabulary.{three}
use Rattle.qc_decl.specs.declared.declaration.Declaration.{Declaration}
use Rattle.qc_gen.proofs.Loads.{loads_read}
use Rattle.qc_gen.specs.Vocabulary.{load_of, load_text}
use Rattle.qc_report.specs.declared.cause.Cause.{Cause}
use Rattle.qc_report.specs.declared.cause.Cause.TheVariants as causes
use Rattle.qc_script.specs.Vocabulary.{script_of}
use Rattle.qc_script.specs.declared.script.Script.{Script}
use Rattle.qc_top.proofs.Right.{inner}
use Rattle.qc_top.specs.Vocabulary.{Caused, load_work, unless_a_line_is}
use Rattle.qc_top.specs.declared.work.Work.{Work}
use Rattle.qc_top.specs.declared.work.Work.TheVariants.{Run}
use Rattle.qc_top.specs.declared.work.Output.TheVariants.{Summary}

abbrev the_decl : Declaration → Caused Declaration
the_decl decl = Ok decl

abbrev the_script : Script → Caused Script
the_script script = Ok script

abbrev the_work : Work → Caused Work
the_work work = Ok work

module _ (count seed : ℕ) (decl : Declaration) (text : List ℕ) (three_is : the_decl three ≡ Ok decl)
    (text_is : text ≡ load_text count seed) where
  same_decl : three ≡ decl
  same_decl = inner three decl three_is

  read_as : unless_a_line_is (script_of decl text) ≡ Ok (load_of count seed)
  read_as =
      ap (λ (d : Declaration). unless_a_line_is (script_of d text)) (sym same_decl)
      ∙ ap (λ (t : List ℕ). unless_a_line_is (script_of three t)) text_is
      ∙ ap unless_a_line_is (loads_read count seed)

  pub load_made : (script : Script) → unless_a_line_is (script_of decl text) ≡ Ok script
      → the_work (load_work count seed) ≡ Ok (Run decl script (Summary count seed))
  load_made script is =
      let same : load_of count seed ≡ script = inner (load_of count seed) script (sym read_as ∙ is) in
      ap (λ (d : Declaration). the_work (Run d (load_of count seed) (Summary count seed))) same_decl
      ∙ ap (λ (s : Script). the_work (Run decl s (Summary count seed))) same

  -- so where it isn't read memory was wanting
  pub load_wanting : (cause : Cause)
      → (unless_a_line_is (script_of decl text) ≡ Err cause) ⊎ (cause ≡ causes.OutOfMemory)
      → (the_work (load_work count seed) ≡ Err cause) ⊎ (cause ≡ causes.OutOfMemory)
  load_wanting cause (inl is) =
      absurd (let never : the_script (load_of count seed) ≡ Err cause = sym read_as ∙ is in let no : ⊥ = cc in no)
  load_wanting cause (inr wanting) = inr wanting

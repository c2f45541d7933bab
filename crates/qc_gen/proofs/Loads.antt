-- A load's text is read over `@three` as the load.
use Rattle.std.proofs.Common.{◌≡◌, ◌∙◌, ℕ, [], Ok}
use Rattle.qc_decl.specs.Vocabulary.{three}
use Rattle.qc_gen.proofs.Reading.{load_read}
use Rattle.qc_gen.proofs.Writable.{are_writable}
use Rattle.qc_gen.specs.Vocabulary.{lines_from, load_of, load_text}
use Rattle.qc_script.proofs.WrittenScripts.{scripts_are_read_as_written}
use Rattle.qc_script.specs.Vocabulary.{script_of}

pub loads_read : (count seed : ℕ) → script_of three (load_text count seed) ≡ Ok (load_of count seed)
loads_read count seed =
    scripts_are_read_as_written three (lines_from count 0 seed) (are_writable count 0 seed)
    ∙ load_read count 0 seed 1 []

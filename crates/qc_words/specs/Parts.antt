-- Code's words, forms, parts and options, as the definitions have them, and what it did to a reading.
use Rattle.std.specs.Prelude.{◌≡◌, Bool, List, map, Option, Some, None, option_map, if◌then◌else◌}
use Rattle.std.specs.Borrow.{Bor}
use Rattle.qc_words.specs.Forms.{Form as FormOf, Part as PartOf, Reading, Text}
use Rattle.qc_words.specs.declared.form.Form.{Form}
use Rattle.qc_words.specs.declared.form.Part.{Part}

abbrev pub texts_of : List (Bor Text) → List Text
texts_of words = map (λ w. w.now) words

abbrev pub form_in : Form → FormOf
form_in f = record { places = texts_of f.places.now; options = texts_of f.options.now }

abbrev pub part_in : Part → PartOf
part_in p = record { name = p.name.now; value = p.value.now }

abbrev pub option_in : Bor Text × Option (Bor Text) → Text × Option Text
option_in f = (f.0.now, option_map (λ v. v.now) f.1)

-- a step that was taken or not
abbrev pub Took : Bool → Reading → Option Reading → Type 0
Took ok now step = step ≡ (if ok then Some now else None)

-- What the program's words ask. Its own name isn't among them.
--
--     check DECL
--     run DECL SCRIPT [--workers N] [--dir D]
--     load COUNT SEED [--workers N]
--
-- COUNT is 1 to 500, SEED is 0 to 65,536, and N is 1 to 8, or 1 where it isn't given.
use Rattle.std.specs.Prelude.{ℕ, if◌then◌else◌, List, [], ◌∷◌, codes, Option, Some, None, option_and_then, option_map}
use Rattle.std.specs.Option.{option_map_or}
use Rattle.std.specs.Str.{bytes_eq}
use Rattle.qc_words.specs.Forms.{Form, Text, Values, values_of}
use Rattle.qc_words.specs.Limits.{greatest_seed, most_transactions, most_workers}
use Rattle.qc_words.specs.Numbers.{number_within}

-- the second where the first is there, for `do`
infixl 10 ◌>>=◌
abbrev pub ◌>>=◌ : {A B : Type 0} → Option A → (A → Option B) → Option B
given >>= next = option_and_then next given

pub data AskedOf : Type 0 where
  -- whether the declaration of this name is accepted
  Check : Text → AskedOf
  -- the run of a script, by its name, over a declaration: the declaration, the script, how many workers, and the
  -- folder of the disks where one is named
  Run : Text → Text → ℕ → Option Text → AskedOf
  -- a load: how many transactions, the generator's seed, and how many workers
  Load : ℕ → ℕ → ℕ → AskedOf

abbrev pub check_form : Form
check_form = record { places = codes "DECL" ∷ []; options = [] }

abbrev pub run_form : Form
run_form = record { places = codes "DECL" ∷ codes "SCRIPT" ∷ []; options = codes "workers" ∷ codes "dir" ∷ [] }

abbrev pub load_form : Form
load_form = record { places = codes "COUNT" ∷ codes "SEED" ∷ []; options = codes "workers" ∷ [] }

-- one worker where none is said
abbrev pub workers_of : Values → Option ℕ
workers_of values = option_map_or (number_within 1 most_workers) (values (codes "workers")) (Some 1)

abbrev pub check_of : Values → Option AskedOf
check_of values = option_map Check (values (codes "DECL"))

abbrev pub run_of : Values → Option AskedOf
run_of values = do
  decl ← values (codes "DECL")
  script ← values (codes "SCRIPT")
  workers ← workers_of values
  Some (Run decl script workers (values (codes "dir")))

abbrev pub load_of : Values → Option AskedOf
load_of values = do
  count_word ← values (codes "COUNT")
  seed_word ← values (codes "SEED")
  count ← number_within 1 most_transactions count_word
  seed ← number_within 0 greatest_seed seed_word
  workers ← workers_of values
  Some (Load count seed workers)

abbrev pub asked_behind : Text → List Text → Option AskedOf
asked_behind command words =
    if bytes_eq command (codes "check") then values_of check_form words >>= check_of
    else (if bytes_eq command (codes "run") then values_of run_form words >>= run_of
    else (if bytes_eq command (codes "load") then values_of load_form words >>= load_of
    else None))

abbrev pub asked : List Text → Option AskedOf
asked [] = None
asked (command ∷ words) = asked_behind command words

-- What code says that words ask, and tells where it doesn't, as the definition has it.
use Rattle.std.specs.Prelude.{◌≡◌, Option, None, option_map}
use Rattle.qc_words.specs.Words.{AskedOf, Check, Run, Load}
use Rattle.qc_words.specs.declared.asked.Errand.{Errand}
use Rattle.qc_words.specs.declared.asked.Errand.TheVariants as asks
use Rattle.qc_words.specs.declared.fault.WordsFault.{WordsFault}
use Rattle.qc_words.specs.declared.fault.WordsFault.TheVariants.{Usage, OutOfMemory}

abbrev pub asked_in : Errand → AskedOf
asked_in (asks.Check decl) = Check decl.now
asked_in (asks.Run decl script workers dir) = Run decl.now script.now workers (option_map (λ d. d.now) dir)
asked_in (asks.Load count seed workers) = Load count seed workers

-- usage is told exactly where nothing is asked; want of memory may come in place of anything
abbrev pub IsTold : WordsFault → Option AskedOf → Type 0
IsTold Usage said = said ≡ None
IsTold OutOfMemory said = Unit {0}

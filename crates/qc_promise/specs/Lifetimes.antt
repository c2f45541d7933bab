-- An actor in its present life: the records that it rose with, and its deeds since.
use Rattle.std.specs.Prelude.{List, [], ◌∷◌, ◌++◌, fold}
use Rattle.std.specs.Option.{option_map_or}
use Rattle.std.specs.List.{filter_map}
use Rattle.qc_msg.specs.declared.record.Record.{Record}
use Rattle.qc_msg.specs.Vocabulary.{Deed, risen_in, written_in}

pub record Lifetime : Type 0 where
  -- what its last rise gave it, or nothing
  pub kept : List Record
  -- its deeds since then, or from its begin
  pub since : List Deed

abbrev pub begun_with : List Record → Lifetime
begun_with kept = record { kept = kept; since = [] }

abbrev pub with_deed : Lifetime → Deed → Lifetime
with_deed l d = option_map_or begun_with (risen_in d) (record l { since = l.since ++ d ∷ [] })

abbrev pub lifetime : List Deed → Lifetime
lifetime ds = fold with_deed (begun_with []) ds

-- its records: those that it rose with, and those that it wrote since
abbrev pub records_in : List Deed → List Record
records_in ds = (lifetime ds).kept ++ filter_map written_in (lifetime ds).since

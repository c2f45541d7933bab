-- What a request asks for, in the words of the protocol's machine.
use Rattle.std.specs.Prelude.{List, [], ◌∷◌, map}
use Rattle.qc_entry.specs.declared.line.OwnLine.{OwnLine}
use Rattle.qc_msg.specs.declared.message.Want.{Want}
use Rattle.qc_msg.specs.declared.message.Want.TheVariants.{Read, Append, Prepare}
use Rattle.theory_machine.specs.Vocabulary.{Item, Lock, Own}

abbrev pub own_item : OwnLine → Item
own_item own = Own own

-- own lines as items
abbrev pub own_items : List OwnLine → List Item
own_items own = map own_item own

-- a Read asks for its lock, an Append for its own lines, a Prepare for nothing new
abbrev pub items_wanted : Want → List Item
items_wanted (Read read) = Lock (record { object = read.object; inv = read.inv }) ∷ []
items_wanted (Append object view own) = own_items own
items_wanted Prepare = []

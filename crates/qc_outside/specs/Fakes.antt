-- The outside in memory, as contracts see it.
use Rattle.std.specs.Prelude.{ℕ, List, Result, Ok, Err}
use Rattle.qc_outside.specs.Calls.{CallsMade, after_fault, after_call}
use Rattle.qc_outside.specs.Shelf.{Files}
use Rattle.qc_outside.specs.declared.shelf.ShelfFault.{ShelfFault}
use Rattle.qc_outside.specs.declared.shelf.ShelfFault.TheVariants.{Missing, TooLong, Failed, OutOfMemory}
use Rattle.qc_outside.specs.declared.sink.SinkFault.{SinkFault}
use Rattle.qc_outside.specs.declared.sink.SinkFault.TheVariants.{Failed as SinkFailed, OutOfMemory as SinkWants}

-- a shelf: its files, and the calls so far
pub record ShelfInMemory : Type 0 where
  pub files : Files
  pub calls : CallsMade

-- a sink: the bytes that it took, and the calls so far
pub record SinkInMemory : Type 0 where
  pub bytes : List ℕ
  pub calls : CallsMade

-- a call of the shelf is counted, but not where memory was wanting
abbrev pub shelf_calls_after : {T : Type 0} → Result T ShelfFault → CallsMade → CallsMade
shelf_calls_after (Ok bytes) calls = after_call calls
shelf_calls_after (Err Missing) calls = after_call calls
shelf_calls_after (Err TooLong) calls = after_call calls
shelf_calls_after (Err Failed) calls = after_fault calls
shelf_calls_after (Err OutOfMemory) calls = calls

-- a call of the sink is counted, but not where memory was wanting
abbrev pub sink_calls_after : Result (Unit {0}) SinkFault → CallsMade → CallsMade
sink_calls_after (Ok done) calls = after_call calls
sink_calls_after (Err SinkFailed) calls = after_fault calls
sink_calls_after (Err SinkWants) calls = calls

-- What proofs, and other crates, name of this crate's definitions.
pub use Rattle.qc_fabric.specs.ActorLines.{Arms, FallsByLine}
pub use Rattle.qc_fabric.specs.Advances.{WasNext}
pub use Rattle.qc_fabric.specs.Controls.{ComesNext, IsUpTo, MayDo, control_step}
pub use Rattle.qc_fabric.specs.Events.{before_last_event, begins_event, has_event}
pub use Rattle.qc_fabric.specs.FabricStates.{IsFabricState, Shown, most_history}
pub use Rattle.qc_fabric.specs.Feeds.{CanWrite, HasGrown, HasWritten, HasWrittenPart}
pub use Rattle.qc_fabric.specs.Gains.{ArmsNone, ArmsNoneBehind}
pub use Rattle.qc_fabric.specs.Inputs.{IsInputFor, IsThere, given_by}
pub use Rattle.qc_fabric.specs.Limits.{HasReached, IsBelow}
pub use Rattle.qc_fabric.specs.Logs.{IsLog, Logged, counted, full_of, named_actors, stored}
pub use Rattle.qc_fabric.specs.Picks.{IsStopped, has_any, next_actor}
pub use Rattle.qc_fabric.specs.Places.{place_of, places_of}
pub use Rattle.qc_fabric.specs.Risings.{IsRising, RisesAs, RisesToActors, after_rising, deeds_of_rising}
pub use Rattle.qc_fabric.specs.Risings.{sends_of_rising, size_of_rising, steps_of_rising}
pub use Rattle.qc_fabric.specs.Rolls.{IsRoll}
pub use Rattle.qc_fabric.specs.Tells.{Does, Fed, GoesToActors, HasNext, HasNone, IsSame, Posts, Sees, Takes, Waits}
pub use Rattle.qc_fabric.specs.Tells.{size_of}

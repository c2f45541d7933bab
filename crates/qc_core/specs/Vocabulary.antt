-- What proofs, and other crates, name of this crate's definitions.
pub use Rattle.qc_core.specs.Actors.{ActorFits, ActorMove, ActorWithin, AsksFew, IsFrom, IsFromActor, IsShort}
pub use Rattle.qc_core.specs.Actors.{actor_after, actor_does, actor_hears, actor_rises, actor_sends, actor_sent}
pub use Rattle.qc_core.specs.Actors.{actor_takes, by_admin, by_client, by_site, down_takes, moved, new_actor}
pub use Rattle.qc_core.specs.Acts.{Acts, MayTake, is_running, posts, runs_at, runs_given, starts, takes}
pub use Rattle.qc_core.specs.Conduct.{IsLawful, IsLawfulWithFalls, turn_after, turn_with_falls, with_record}
pub use Rattle.qc_core.specs.GivenBack.{AreGivenBack, IsGivenBackAt}
pub use Rattle.qc_core.specs.Journals.{journal_after, journal_at}
pub use Rattle.qc_core.specs.Lives.{AreSteady, AreUncommanded, IsSteady, IsUncommanded, Lives, MayReach, is_up, up_at}
pub use Rattle.qc_core.specs.Sites.{IsInput, IsOwnStamp, IsShown, IsSiteDeed, IsSiteInput, IsStamped, Serves, crashes}
pub use Rattle.qc_core.specs.Sites.{rises, serves, stays_up, unopened}

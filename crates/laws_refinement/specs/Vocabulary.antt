-- What proofs, and other crates, name of this crate's definitions.
pub use Rattle.laws_refinement.specs.Admins.{AdminMirrors, AreEnough, AreSnapshots, DecidedMirrors, DoingMirrors}
pub use Rattle.laws_refinement.specs.Admins.{HasTold, IsCovered, IsDeciding, IsNumbered, IsPendingRule, IsTaken}
pub use Rattle.laws_refinement.specs.Admins.{IsTooLong, QuestionMirrors, RoundMirrors, RulesMirror}
pub use Rattle.laws_refinement.specs.Clients.{AreCounted, AreVotes, BegunMirrors, ClientMirrors, FallenMirrors}
pub use Rattle.laws_refinement.specs.Clients.{IsAskedBy, IsChosen, IsClientKeptBy, IsPendingBy, IsPendingOf}
pub use Rattle.laws_refinement.specs.Clients.{IsRoundCounted, OwnMirrors, RunningMirrors, TransactionMirrors}
pub use Rattle.laws_refinement.specs.Clients.{VotesMirror, absent_of, append_of, chosen_of, name_at, status_by}
pub use Rattle.laws_refinement.specs.Items.{items_wanted, own_item, own_items}
pub use Rattle.laws_refinement.specs.Lines.{IsTrueVerdict, lines_in, lines_promised}
pub use Rattle.laws_refinement.specs.Lives.{LivesMirror}
pub use Rattle.laws_refinement.specs.Messages.{Backed, IsAnswerBacked, IsGrant, IsGrantTo, IsGrantable, IsMessage}
pub use Rattle.laws_refinement.specs.Messages.{IsRequest, IsShutTo, IsSnapshot, IsVerdictBacked, IsVoteTo, IsWanted}
pub use Rattle.laws_refinement.specs.Mirrors.{Continues, FrontStands, Mirrors, Refines, RefinesBy}
pub use Rattle.laws_refinement.specs.Net.{IsGivenBack, IsNamed, IsNamedAt, MayAdminister, MayCome, MayCommand, Net}
pub use Rattle.laws_refinement.specs.Net.{Reaches, after_admin, after_admin_rise, after_client, after_client_rise}
pub use Rattle.laws_refinement.specs.Net.{after_fall, after_site, after_site_rise, after_vain_rise, all_sent}
pub use Rattle.laws_refinement.specs.Net.{commits_in, first_net, sent_all}
pub use Rattle.laws_refinement.specs.Requests.{calls_voting, open_requests}
pub use Rattle.laws_refinement.specs.Rules.{AreInTurn, IsNextRule, rule_after}
pub use Rattle.laws_refinement.specs.Sites.{AreApart, AreLined, AreSingle, IsApart, IsClosing, IsDecided, IsFinishing}
pub use Rattle.laws_refinement.specs.Sites.{IsHeld, IsKeptBy, IsPendingAt, IsPlanned, IsPreparing, IsPromiseOf}
pub use Rattle.laws_refinement.specs.Sites.{IsPromised, IsSingle, KeptMirrors, SiteMirrors, kept_lines}
pub use Rattle.laws_refinement.specs.Steps.{IsLater, IsNamedLater, Step}
pub use Rattle.laws_refinement.specs.Votes.{IsRecorded}

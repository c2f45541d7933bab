-- What is in order at a site: its lines, all that is held, and each promise.
use Rattle.std.specs.Prelude.{[], MatchOption, List, ◌∷◌}
use Rattle.qc_list.specs.Vocabulary.{Ascends}
use Rattle.qc_entry.specs.declared.record.Prepared.{Prepared}
use Rattle.qc_entry.specs.Vocabulary.{IsAscending}
use Rattle.qc_lock.specs.Vocabulary.{IsSound, lock_cmp, own_cmp}
use Rattle.qc_msg.specs.declared.message.Message.{Message}
use Rattle.qc_msg.specs.declared.step.Input.{Input}
use Rattle.qc_msg.specs.declared.step.Input.TheVariants as inputs
use Rattle.qc_msg.specs.Vocabulary.{Deed, Falls, Rises, Sends, Takes, Tells, Writes, Requested}
use Rattle.qc_msg.specs.declared.payload.EpochStart.{EpochStart}
use Rattle.qc_msg.specs.Vocabulary.{installing_in, request_in}
use Rattle.qc_site.specs.Brought.{view_in}
use Rattle.qc_site.specs.Site.{SiteState}

-- the locks, own lines and lines of each promise
abbrev pub ArePromisesSorted : List Prepared → Type 0
ArePromisesSorted [] = Unit {0}
ArePromisesSorted (p ∷ ps) = Ascends lock_cmp p.locks × Ascends own_cmp p.own × IsAscending p.lines
    × ArePromisesSorted ps

pub record IsSiteSorted (s : SiteState) : Type 0 where
  pub began : IsAscending s.began
  pub log : IsAscending s.log
  pub recorded : IsAscending s.recorded
  pub held : IsSound s.held
  pub prepared : ArePromisesSorted s.prepared

-- the lines that a message brings, and each that was taken

abbrev pub IsMessageSorted : Message → Type 0
IsMessageSorted message =
    MatchOption (request_in message)
    (MatchOption (installing_in message) (Unit {0}) (λ (i : EpochStart). IsAscending i.lines))
    (λ (q : Requested). IsAscending (view_in q.want))

abbrev pub IsGivenSorted : Input → Type 0
IsGivenSorted (inputs.Called command) = Unit {0}
IsGivenSorted (inputs.Got envelope) = IsMessageSorted envelope.message
IsGivenSorted (inputs.Lost number) = Unit {0}

abbrev pub AreDeedsSorted : List Deed → Type 0
AreDeedsSorted [] = Unit {0}
AreDeedsSorted (Takes given ∷ deeds) = IsGivenSorted given × AreDeedsSorted deeds
AreDeedsSorted (Writes written ∷ deeds) = AreDeedsSorted deeds
AreDeedsSorted (Sends number to message ∷ deeds) = AreDeedsSorted deeds
AreDeedsSorted (Tells reply ∷ deeds) = AreDeedsSorted deeds
AreDeedsSorted (Falls cause pending ∷ deeds) = AreDeedsSorted deeds
AreDeedsSorted (Rises records ∷ deeds) = AreDeedsSorted deeds

-- What a site has promised and not let go of, by its disk: the last record of a promise of a transaction, behind which
-- there is none that it is done. A Decision that it aborted, taken since, lets it go till the next rise alone, since
-- nothing is written then.
use Rattle.std.specs.Prelude.{◌≡◌, ℕ, false, List, [], ◌∷◌, ◌++◌}
use Rattle.std.specs.List.{list_any}
use Rattle.qc_entry.specs.declared.line.OwnLine.{OwnLine}
use Rattle.qc_entry.specs.declared.line.ReadLock.{ReadLock}
use Rattle.qc_entry.specs.declared.record.Prepared.{Prepared}
use Rattle.qc_list.specs.Vocabulary.{In}
use Rattle.qc_lock.specs.declared.held.Held.{Held}
use Rattle.qc_msg.specs.Vocabulary.{Deed, Entry, Takes, Writes, deeds}
use Rattle.qc_msg.specs.declared.message.Envelope.{Envelope}
use Rattle.qc_msg.specs.declared.message.Message.TheVariants.{Decision}
use Rattle.qc_msg.specs.declared.message.Outcome.TheVariants.{Aborted}
use Rattle.qc_msg.specs.declared.record.Record.{Record}
use Rattle.qc_msg.specs.declared.record.Record.TheVariants.{Prepare}
use Rattle.qc_msg.specs.declared.step.Input.TheVariants.{Got}
use Rattle.qc_promise.specs.Vocabulary.{lifetime, redeems}
use Rattle.laws_reach.specs.Vocabulary.{records_of}

-- the record of the promise stands among these, and none behind it is a promise of the same transaction or says that it
-- is done
pub record IsLastPromise (rs : List Record) (p : Prepared) : Type 0 where
  pub before : List Record
  pub after : List Record
  pub stands : rs ≡ before ++ Prepare p ∷ after
  pub unredeemed : list_any (redeems p.tx) after ≡ false

-- each Decision Aborted on its transaction that was taken among these deeds came before the promise was written
abbrev pub IsUnaborted : List Deed → Prepared → Type 0
IsUnaborted ds p = (x y : List Deed) (e : Envelope) → ds ≡ x ++ Takes (Got e) ∷ y → e.message ≡ Decision p.tx Aborted
    → In (Writes (Prepare p)) y

-- the promise stands on the site's disk, and no Decision Aborted was taken since it was written and since the site rose
pub record IsPromisedStill (h : List Entry) (site : ℕ) (p : Prepared) : Type 0 where
  pub last : IsLastPromise (records_of h site) p
  pub unaborted : IsUnaborted (lifetime (deeds site [] h)).since p

-- what a transaction holds has all locks and all own lines of the promise
pub record HasPromisedItems (held : Held) (p : Prepared) : Type 0 where
  pub locks : (l : ReadLock) → In l p.locks → In l held.locks
  pub own : (o : OwnLine) → In o p.own → In o held.own

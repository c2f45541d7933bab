-- By turns: an actor takes an input, or rises, and posts for it, its record first; while it is down it is called and
-- tells that it is down. What one place of this order leads to, deed by deed.
use Rattle.std.specs.Prelude.{◌≡◌, ◌&&◌, Bool, true, false, List, fold, cond, Option, Some, None, is_some}
use Rattle.std.specs.Prelude.{option_and_then}
use Rattle.qc_msg.specs.declared.record.Record.{Record}
use Rattle.qc_msg.specs.declared.reply.Reply.{Reply}
use Rattle.qc_msg.specs.declared.reply.Reply.TheVariants as replies
use Rattle.qc_msg.specs.declared.step.Fall.{Fall}
use Rattle.qc_msg.specs.declared.step.Fall.TheVariants as causes
use Rattle.qc_msg.specs.declared.step.Input.{Input}
use Rattle.qc_msg.specs.Vocabulary.{Deed, Falls, Rises, Sends, Takes, Tells, Writes, command_in, is_life}

pub data Place : Type 0 where
  -- up, and nothing is open: at its begin, and once its reply is told
  Idle : Place
  -- it took an input and posted nothing for it yet; or it rose, and its record isn't written
  Open : Place
  Rising : Place
  -- it posted messages, without a record; or its record is written
  Sending : Place
  Written : Place
  -- it told that its record isn't written, and has to fall
  Failing : Place
  -- it told a fault: its record isn't written, and it falls, or was too long, and it goes on
  Faulted : Place
  -- down; and down with a command called
  Fallen : Place
  Called : Place

-- an input: nothing but a command comes to one that is down, and no command to a site

abbrev pub comes_at : Place → Input → Option Place
comes_at Idle given = Some Open
comes_at Open given = Some Open
comes_at Rising given = None
comes_at Sending given = Some Open
comes_at Written given = Some Open
comes_at Failing given = None
comes_at Faulted given = Some Open
comes_at Fallen given = cond (is_some (command_in given)) (Some Called) None
comes_at Called given = None

abbrev pub takes_at : Bool → Place → Input → Option Place
takes_at site place given = cond (site && is_some (command_in given)) None (comes_at place given)

-- the record of a rise is written as it rises, and then alone
abbrev pub writes_at : Place → Record → Option Place
writes_at Idle written = None
writes_at Open written = cond (is_life written) None (Some Written)
writes_at Rising written = cond (is_life written) (Some Written) None
writes_at Sending written = None
writes_at Written written = None
writes_at Failing written = None
writes_at Faulted written = None
writes_at Fallen written = None
writes_at Called written = None

abbrev pub sends_at : Place → Option Place
sends_at Idle = None
sends_at Open = Some Sending
sends_at Rising = None
sends_at Sending = Some Sending
sends_at Written = Some Written
sends_at Failing = None
sends_at Faulted = None
sends_at Fallen = None
sends_at Called = None

-- what a reply says of its actor: that it is down, that its record isn't written, that it isn't or was too long, or
-- none of these
pub data Saying : Type 0 where
  SaysDown : Saying
  SaysUnwritten : Saying
  SaysFault : Saying
  SaysNeither : Saying

abbrev pub saying_of : Reply → Saying
saying_of replies.Down = SaysDown
saying_of (replies.Already tx) = SaysNeither
saying_of (replies.Began tx) = SaysNeither
saying_of replies.NoTransaction = SaysNeither
saying_of replies.Doomed = SaysNeither
saying_of replies.TooLong = SaysNeither
saying_of (replies.Closed epoch site) = SaysNeither
saying_of (replies.Conflict tx site) = SaysNeither
saying_of (replies.Quorum half got need) = SaysNeither
saying_of replies.Absent = SaysNeither
saying_of (replies.Response resp) = SaysNeither
saying_of (replies.Aborted why) = SaysNeither
saying_of replies.Unknown = SaysUnwritten
saying_of (replies.Committed stamp) = SaysNeither
saying_of replies.Dropped = SaysNeither
saying_of (replies.Order current) = SaysNeither
saying_of (replies.InDoubt tx site) = SaysNeither
saying_of replies.Fault = SaysFault
saying_of (replies.Moved closed installed) = SaysNeither

-- that a record isn't written is told alone, and the fall follows; so is a fault, and the fall may follow; that one is
-- down is told while it is, and then alone

abbrev pub told_first : Saying → Option Place
told_first SaysDown = None
told_first SaysUnwritten = Some Failing
told_first SaysFault = Some Faulted
told_first SaysNeither = Some Idle

abbrev pub told_last : Saying → Option Place
told_last SaysDown = None
told_last SaysUnwritten = None
told_last SaysFault = None
told_last SaysNeither = Some Idle

abbrev pub told_down : Saying → Option Place
told_down SaysDown = Some Fallen
told_down SaysUnwritten = None
told_down SaysFault = None
told_down SaysNeither = None

abbrev pub tells_at : Place → Saying → Option Place
tells_at Idle saying = None
tells_at Open saying = told_first saying
tells_at Rising saying = None
tells_at Sending saying = told_last saying
tells_at Written saying = told_last saying
tells_at Failing saying = None
tells_at Faulted saying = None
tells_at Fallen saying = None
tells_at Called saying = told_down saying

-- a fall by a line of the script has no record pending, and one that is down doesn't fall so; a disk falls as it
-- writes: a site's once it sent what it sends then, and nothing where the disk stopped; another's once it told so; and
-- with nothing pending where the journal of one that is down isn't opened

abbrev pub crashes_at : Place → Option Record → Option Place
crashes_at place (Some written) = None
crashes_at Idle None = Some Fallen
crashes_at Open None = Some Fallen
crashes_at Rising None = None
crashes_at Sending None = Some Fallen
crashes_at Written None = Some Fallen
crashes_at Failing None = None
crashes_at Faulted None = Some Fallen
crashes_at Fallen None = None
crashes_at Called None = None

-- the record that is pending then is one that the place lets the actor write
abbrev pub fallen_with : Bool → Option Place
fallen_with lets = cond lets (Some Fallen) None

abbrev pub other : Record → Bool
other written = cond (is_life written) false true

abbrev pub stops_at : Bool → Place → Record → Option Place
stops_at site Idle written = None
stops_at site Open written = fallen_with (site && other written)
stops_at site Rising written = fallen_with (is_life written)
stops_at site Sending written = None
stops_at site Written written = None
stops_at site Failing written = fallen_with (other written)
stops_at site Faulted written = fallen_with (other written)
stops_at site Fallen written = None
stops_at site Called written = None

abbrev pub fails_at : Bool → Place → Record → Option Place
fails_at site Idle written = None
fails_at site Open written = fallen_with (site && other written)
fails_at site Rising written = fallen_with (is_life written)
fails_at site Sending written = fallen_with (site && other written)
fails_at site Written written = None
fails_at site Failing written = fallen_with (other written)
fails_at site Faulted written = fallen_with (other written)
fails_at site Fallen written = None
fails_at site Called written = None

abbrev pub opens_not : Place → Option Place
opens_not Idle = None
opens_not Open = None
opens_not Rising = None
opens_not Sending = None
opens_not Written = None
opens_not Failing = None
opens_not Faulted = None
opens_not Fallen = Some Fallen
opens_not Called = None

abbrev pub disk_stops_at : Bool → Place → Option Record → Option Place
disk_stops_at site place None = opens_not place
disk_stops_at site place (Some written) = stops_at site place written

abbrev pub disk_fails_at : Bool → Place → Option Record → Option Place
disk_fails_at site place None = opens_not place
disk_fails_at site place (Some written) = fails_at site place written

abbrev pub falls_at : Bool → Place → Fall → Option Record → Option Place
falls_at site place causes.Script pending = crashes_at place pending
falls_at site place causes.Stop pending = disk_stops_at site place pending
falls_at site place causes.Disk pending = disk_fails_at site place pending

abbrev pub rises_at : Place → Option Place
rises_at Idle = None
rises_at Open = None
rises_at Rising = None
rises_at Sending = None
rises_at Written = None
rises_at Failing = None
rises_at Faulted = None
rises_at Fallen = Some Rising
rises_at Called = None

-- one deed more, if it may stand there; a site has nobody to tell a reply
abbrev pub goes : Bool → Place → Deed → Option Place
goes site place (Takes given) = takes_at site place given
goes site place (Writes written) = writes_at place written
goes site place (Sends number to message) = sends_at place
goes site place (Tells reply) = cond site None (tells_at place (saying_of reply))
goes site place (Falls cause pending) = falls_at site place cause pending
goes site place (Rises records) = rises_at place

abbrev pub goes_on : Bool → Option Place → Deed → Option Place
goes_on site at d = option_and_then (λ (p : Place). goes site p d) at

abbrev pub place_after : Bool → List Deed → Option Place
place_after site ds = fold (goes_on site) (Some Idle) ds

-- the deeds of a site, or of another actor, are by turns
abbrev pub AreByTurns : Bool → List Deed → Type 0
AreByTurns site ds = is_some (place_after site ds) ≡ true

-- The places of a client, deed by deed: where it is down or has just risen, and where a record of its may be pending.
use Rattle.std.proofs.Common.{◌≡◌, Bool, true, false, cond, List, ◌∷◌, Option, Some, None, is_some, refl, ◌∙◌}
use Rattle.qc_entry.specs.declared.record.Commit.{Commit as CommitRecord}
use Rattle.qc_msg.specs.declared.record.Record.{Record}
use Rattle.qc_msg.specs.declared.record.Record.TheVariants.{Life, Commit}
use Rattle.qc_msg.specs.declared.step.Fall.{Fall}
use Rattle.qc_msg.specs.declared.step.Fall.TheVariants as causes
use Rattle.qc_msg.specs.declared.step.Input.{Input}
use Rattle.qc_msg.specs.Vocabulary.{Deed, Falls, command_in, is_life}
use Rattle.qc_promise.specs.Vocabulary.{Called, Failing, Fallen, Faulted, Idle, Open, Place, Rising, Saying, SaysDown}
use Rattle.qc_promise.specs.Vocabulary.{SaysFault, SaysNeither, SaysUnwritten, Sending, Written, comes_at, falls_at}
use Rattle.qc_promise.specs.Vocabulary.{pending_next, rises_at, sends_at, tells_at, writes_at, fallen_with, other}
use Rattle.laws_reach.proofs.RecordCases.{record_cases}

abbrev pub is_off : Place → Bool
is_off Idle = false
is_off Open = false
is_off Rising = true
is_off Sending = false
is_off Written = false
is_off Failing = false
is_off Faulted = false
is_off Fallen = true
is_off Called = true

abbrev pub is_failing : Place → Bool
is_failing Idle = false
is_failing Open = false
is_failing Rising = false
is_failing Sending = false
is_failing Written = false
is_failing Failing = true
is_failing Faulted = true
is_failing Fallen = false
is_failing Called = false

-- an input, or a message sent

abbrev pub CameTo : Bool → Option Place → Type 0
CameTo off None = Unit {0}
CameTo off (Some q) = (is_off q ≡ off) × (is_failing q ≡ false)

pub comes : (p : Place) (g : Input) → CameTo (is_off p) (comes_at p g)
comes Idle g = (refl, refl)
comes Open g = (refl, refl)
comes Rising g = tt
comes Sending g = (refl, refl)
comes Written g = (refl, refl)
comes Failing g = tt
comes Faulted g = (refl, refl)
comes Fallen g = by (is_some (command_in g))
  where
    by : (b : Bool) → CameTo true (cond b (Some Called) None)
    by true = (refl, refl)
    by false = tt
comes Called g = tt

pub sends : (p : Place) → CameTo (is_off p) (sends_at p)
sends Idle = tt
sends Open = (refl, refl)
sends Rising = tt
sends Sending = (refl, refl)
sends Written = (refl, refl)
sends Failing = tt
sends Faulted = tt
sends Fallen = tt
sends Called = tt

-- a record: that of the rise, and no other, where it rises

abbrev pub WroteTo : Bool → Bool → Option Place → Type 0
WroteTo life off None = Unit {0}
WroteTo life off (Some q) = (is_off q ≡ false) × ((is_failing q ≡ false) × (off ≡ life))

pub writes : (p : Place) (r : Record) → WroteTo (is_life r) (is_off p) (writes_at p r)
writes Idle r = tt
writes Open r = by (is_life r)
  where
    by : (b : Bool) → WroteTo b false (cond b None (Some Written))
    by true = tt
    by false = (refl, (refl, refl))
writes Rising r = by (is_life r)
  where
    by : (b : Bool) → WroteTo b true (cond b (Some Written) None)
    by true = (refl, (refl, refl))
    by false = tt
writes Sending r = tt
writes Written r = tt
writes Failing r = tt
writes Faulted r = tt
writes Fallen r = tt
writes Called r = tt

-- a reply: one that is down tells so, and nothing else

abbrev pub IsSaid : Bool → Saying → Type 0
IsSaid false SaysDown = ⊥
IsSaid false SaysUnwritten = Unit {0}
IsSaid false SaysFault = Unit {0}
IsSaid false SaysNeither = Unit {0}
IsSaid true SaysDown = Unit {0}
IsSaid true SaysUnwritten = ⊥
IsSaid true SaysFault = ⊥
IsSaid true SaysNeither = ⊥

abbrev pub ToldTo : Bool → Saying → Option Place → Type 0
ToldTo off saying None = Unit {0}
ToldTo off saying (Some q) = (is_off q ≡ off) × IsSaid off saying

pub tells : (p : Place) (s : Saying) → ToldTo (is_off p) s (tells_at p s)
tells Idle s = tt
tells Open SaysDown = tt
tells Open SaysUnwritten = (refl, tt)
tells Open SaysFault = (refl, tt)
tells Open SaysNeither = (refl, tt)
tells Rising s = tt
tells Sending SaysDown = tt
tells Sending SaysUnwritten = tt
tells Sending SaysFault = tt
tells Sending SaysNeither = (refl, tt)
tells Written SaysDown = tt
tells Written SaysUnwritten = tt
tells Written SaysFault = tt
tells Written SaysNeither = (refl, tt)
tells Failing s = tt
tells Faulted s = tt
tells Fallen s = tt
tells Called SaysDown = (refl, tt)
tells Called SaysUnwritten = tt
tells Called SaysFault = tt
tells Called SaysNeither = tt

-- a fall: with a commit record pending where the client has to fall, alone

abbrev pub FellTo : Place → Fall → Option Record → Option Place → Type 0
FellTo p cause pending None = Unit {0}
FellTo p cause pending (Some q) = (is_off q ≡ true) × ((is_failing q ≡ false)
    × ((c : CommitRecord) (after : List Deed) → pending ≡ Some (Commit c)
    → (is_failing p ≡ true) × (pending_next (Falls cause pending ∷ after) ≡ Some (Commit c))))

abbrev NoneTo : Place → Fall → Option Record → Type 0
NoneTo p cause pending = (c : CommitRecord) (after : List Deed) → pending ≡ Some (Commit c)
    → (is_failing p ≡ true) × (pending_next (Falls cause pending ∷ after) ≡ Some (Commit c))

none_to : (p : Place) (cause : Fall) → NoneTo p cause None
none_to p cause c after is = absurd (let never : ⊥ = cc in never)

life_to : (p : Place) (cause : Fall) → NoneTo p cause (Some Life)
life_to p cause c after is = absurd (let never : ⊥ = cc in never)

crashes : (p : Place) (pending : Option Record)
    → FellTo p causes.Script pending (falls_at false p causes.Script pending)
crashes p (Some r) = tt
crashes Idle None = (refl, (refl, none_to Idle causes.Script))
crashes Open None = (refl, (refl, none_to Open causes.Script))
crashes Rising None = tt
crashes Sending None = (refl, (refl, none_to Sending causes.Script))
crashes Written None = (refl, (refl, none_to Written causes.Script))
crashes Failing None = tt
crashes Faulted None = (refl, (refl, none_to Faulted causes.Script))
crashes Fallen None = tt
crashes Called None = tt

unopened_stops : (p : Place) → FellTo p causes.Stop None (falls_at false p causes.Stop None)
unopened_stops Idle = tt
unopened_stops Open = tt
unopened_stops Rising = tt
unopened_stops Sending = tt
unopened_stops Written = tt
unopened_stops Failing = tt
unopened_stops Faulted = tt
unopened_stops Fallen = (refl, (refl, none_to Fallen causes.Stop))
unopened_stops Called = tt

unopened_fails : (p : Place) → FellTo p causes.Disk None (falls_at false p causes.Disk None)
unopened_fails Idle = tt
unopened_fails Open = tt
unopened_fails Rising = tt
unopened_fails Sending = tt
unopened_fails Written = tt
unopened_fails Failing = tt
unopened_fails Faulted = tt
unopened_fails Fallen = (refl, (refl, none_to Fallen causes.Disk))
unopened_fails Called = tt

-- the record of the rise may be pending as it rises, and another one where it fails

risen_to : (cause : Fall) (r : Record) → FellTo Rising cause (Some r) (fallen_with (is_life r))
risen_to cause r =
    record_cases (λ r life o. FellTo Rising cause (Some r) (fallen_with life)) (refl, (refl, life_to Rising cause))
    (λ c. tt) (λ r none. tt) r

failing_to : (p : Place) (cause : Fall) (r : Record) → is_failing p ≡ true
    → ((after : List Deed) → pending_next (Falls cause (Some r) ∷ after) ≡ Some r)
    → FellTo p cause (Some r) (fallen_with (other r))
failing_to p cause r fails next = by (other r)
  where
    by : (b : Bool) → FellTo p cause (Some r) (fallen_with b)
    by true = (refl, (refl, λ c after is. (fails, next after ∙ is)))
    by false = tt

pub falls : (p : Place) (cause : Fall) (pending : Option Record)
    → FellTo p cause pending (falls_at false p cause pending)
falls p causes.Script pending = crashes p pending
falls p causes.Stop None = unopened_stops p
falls Idle causes.Stop (Some r) = tt
falls Open causes.Stop (Some r) = tt
falls Rising causes.Stop (Some r) = risen_to causes.Stop r
falls Sending causes.Stop (Some r) = tt
falls Written causes.Stop (Some r) = tt
falls Failing causes.Stop (Some r) = failing_to Failing causes.Stop r refl (λ after. refl)
falls Faulted causes.Stop (Some r) = failing_to Faulted causes.Stop r refl (λ after. refl)
falls Fallen causes.Stop (Some r) = tt
falls Called causes.Stop (Some r) = tt
falls p causes.Disk None = unopened_fails p
falls Idle causes.Disk (Some r) = tt
falls Open causes.Disk (Some r) = tt
falls Rising causes.Disk (Some r) = risen_to causes.Disk r
falls Sending causes.Disk (Some r) = tt
falls Written causes.Disk (Some r) = tt
falls Failing causes.Disk (Some r) = failing_to Failing causes.Disk r refl (λ after. refl)
falls Faulted causes.Disk (Some r) = failing_to Faulted causes.Disk r refl (λ after. refl)
falls Fallen causes.Disk (Some r) = tt
falls Called causes.Disk (Some r) = tt

-- a rise

abbrev pub RoseTo : Bool → Option Place → Type 0
RoseTo off None = Unit {0}
RoseTo off (Some q) = (off ≡ true) × ((is_off q ≡ true) × (is_failing q ≡ false))

pub rises : (p : Place) → RoseTo (is_off p) (rises_at p)
rises Idle = tt
rises Open = tt
rises Rising = tt
rises Sending = tt
rises Written = tt
rises Failing = tt
rises Faulted = tt
rises Fallen = (refl, (refl, refl))
rises Called = tt

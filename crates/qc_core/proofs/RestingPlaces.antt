-- Where an actor rests that is up and has no open input, and in what places a turn's deeds leave it.
use Rattle.std.proofs.Common.{◌≡◌, ℕ, ◌+◌, Bool, true, false, cond, List, [], ◌∷◌, ◌++◌, fold}
use Rattle.std.proofs.Common.{Option, Some, None, refl, sym, ap, ◌∙◌, subst, ◌⊎◌, inl, inr}
use Rattle.std.proofs.lemmas.List.Sums.{fold-append}
use Rattle.qc_msg.specs.declared.record.Record.{Record}
use Rattle.qc_msg.specs.declared.reply.Reply.{Reply}
use Rattle.qc_msg.specs.declared.step.Fall.TheVariants as causes
use Rattle.qc_msg.specs.declared.turn.Appended.{Appended}
use Rattle.qc_msg.specs.declared.turn.Appended.TheVariants.{Done, Failed, Stopped}
use Rattle.qc_msg.specs.declared.turn.Posting.{Posting}
use Rattle.qc_msg.specs.declared.turn.Turn.{Turn}
use Rattle.qc_msg.specs.Vocabulary.{Deed, Falls, HasRecord, MayEnd, Tells}
use Rattle.qc_msg.specs.Vocabulary.{deeds_as, is_life, sends_of, tells_of, writes_of}
use Rattle.qc_promise.specs.Vocabulary.{Called, Failing, Fallen, Faulted, Idle, Open, Place, Rising, Saying}
use Rattle.qc_promise.specs.Vocabulary.{SaysDown, SaysFault, SaysNeither, SaysUnwritten, Sending, Written, fallen_with}
use Rattle.qc_promise.specs.Vocabulary.{goes_on, other, place_after, saying_of, told_first, told_last}
use Rattle.qc_recover.specs.Vocabulary.{rising}
use Rattle.qc_core.proofs.AdminTurns.{FaultsAlone, TellsNone, no_life}
use Rattle.qc_core.proofs.FrontWrites.{FailsAlone, says_neither, says_unwritten, tells_neither}
use Rattle.qc_core.proofs.SiteWrites.{writes_no_life}

-- deed by deed

abbrev pub after : Bool → Option Place → List Deed → Option Place
after site at ds = fold (goes_on site) at ds

pub along : (site : Bool) (ds more : List Deed) → place_after site (ds ++ more) ≡ after site (place_after site ds) more
along site ds more = fold-append (goes_on site) (Some Idle) ds more

-- where an actor rests that is up and has no open input

abbrev pub is_resting : Option Place → Bool
is_resting None = false
is_resting (Some Idle) = true
is_resting (Some Open) = true
is_resting (Some Rising) = false
is_resting (Some Sending) = true
is_resting (Some Written) = true
is_resting (Some Failing) = false
is_resting (Some Faulted) = true
is_resting (Some Fallen) = false
is_resting (Some Called) = false

-- by whether it is up, and whether it has an open input

abbrev pub Fits : Bool → Bool → Option Place → Type 0
Fits true true at = at ≡ Some Open
Fits true false at = is_resting at ≡ true
Fits false true at = at ≡ Some Called
Fits false false at = at ≡ Some Fallen

abbrev AreResting : Bool → Place → List Deed → Type 0
AreResting site place more = is_resting (after site (Some place) more) ≡ true

-- messages and a reply, where they may stand

abbrev IsPosting : Place → Type 0
IsPosting Idle = ⊥
IsPosting Open = Unit {0}
IsPosting Rising = ⊥
IsPosting Sending = Unit {0}
IsPosting Written = Unit {0}
IsPosting Failing = ⊥
IsPosting Faulted = ⊥
IsPosting Fallen = ⊥
IsPosting Called = ⊥

abbrev MayTell : Bool → Option Reply → Type 0
MayTell true told = told ≡ None
MayTell false told = tells_neither told ≡ true

first_rests : (s : Saying) → says_neither s ≡ true → is_resting (told_first s) ≡ true
first_rests SaysDown fails = absurd (let never : ⊥ = cc in never)
first_rests SaysUnwritten fails = absurd (let never : ⊥ = cc in never)
first_rests SaysFault fails = absurd (let never : ⊥ = cc in never)
first_rests SaysNeither holds = refl

last_rests : (s : Saying) → says_neither s ≡ true → is_resting (told_last s) ≡ true
last_rests SaysDown fails = absurd (let never : ⊥ = cc in never)
last_rests SaysUnwritten fails = absurd (let never : ⊥ = cc in never)
last_rests SaysFault fails = absurd (let never : ⊥ = cc in never)
last_rests SaysNeither holds = refl

reply_rests : (place : Place) → IsPosting place → (reply : Reply) → says_neither (saying_of reply) ≡ true
    → AreResting false place (Tells reply ∷ [])
reply_rests Idle never reply holds = absurd never
reply_rests Open is reply holds = first_rests (saying_of reply) holds
reply_rests Rising never reply holds = absurd never
reply_rests Sending is reply holds = last_rests (saying_of reply) holds
reply_rests Written is reply holds = last_rests (saying_of reply) holds
reply_rests Failing never reply holds = absurd never
reply_rests Faulted never reply holds = absurd never
reply_rests Fallen never reply holds = absurd never
reply_rests Called never reply holds = absurd never

place_rests : (site : Bool) (place : Place) → IsPosting place → AreResting site place []
place_rests site Idle never = absurd never
place_rests site Open is = refl
place_rests site Rising never = absurd never
place_rests site Sending is = refl
place_rests site Written is = refl
place_rests site Failing never = absurd never
place_rests site Faulted never = absurd never
place_rests site Fallen never = absurd never
place_rests site Called never = absurd never

told_rests : (site : Bool) (place : Place) → IsPosting place → (told : Option Reply) → MayTell site told
    → AreResting site place (tells_of told)
told_rests site place is None may = place_rests site place is
told_rests true place is (Some reply) may = absurd (let none : Some reply ≡ None = may in let never : ⊥ = cc in never)
told_rests false place is (Some reply) may = reply_rests place is reply may

tail_rests : (site : Bool) (place : Place) → IsPosting place → (n : ℕ) (ps : List Posting) (told : Option Reply)
    → MayTell site told → AreResting site place (sends_of n ps ++ tells_of told)
tail_rests site place is n [] told may = told_rests site place is told may
tail_rests site Idle never n (p ∷ ps) told may = absurd never
tail_rests site Open is n (p ∷ ps) told may = tail_rests site Sending tt (n + 1) ps told may
tail_rests site Rising never n (p ∷ ps) told may = absurd never
tail_rests site Sending is n (p ∷ ps) told may = tail_rests site Sending tt (n + 1) ps told may
tail_rests site Written is n (p ∷ ps) told may = tail_rests site Written tt (n + 1) ps told may
tail_rests site Failing never n (p ∷ ps) told may = absurd never
tail_rests site Faulted never n (p ∷ ps) told may = absurd never
tail_rests site Fallen never n (p ∷ ps) told may = absurd never
tail_rests site Called never n (p ∷ ps) told may = absurd never

-- a post whose record is written, or that has none

done_rests : (site : Bool) (w : Option Record) (n : ℕ) (ps : List Posting) (told : Option Reply)
    → writes_no_life w ≡ true → MayTell site told
    → AreResting site Open (writes_of w ++ (sends_of n ps ++ tells_of told))
done_rests site None n ps told no_life may = tail_rests site Open tt n ps told may
done_rests site (Some written) n ps told no_life may = by (is_life written) no_life
  where
    by : (l : Bool) → cond l false true ≡ true
        → is_resting (after site (cond l None (Some Written)) (sends_of n ps ++ tells_of told)) ≡ true
    by true fails = absurd (let never : ⊥ = cc in never)
    by false holds = tail_rests site Written tt n ps told may

-- a post whose record isn't written: a site's, and another's

site_fails : (written : Record) (place : Place) → (place ≡ Open) ⊎ (place ≡ Sending) → (n : ℕ) (ps : List Posting)
    → other written ≡ true → after true (Some place) (sends_of n ps ++ Falls causes.Disk (Some written) ∷ [])
    ≡ Some Fallen
site_fails written place (inl is) n [] holds =
    subst (λ (p : Place). after true (Some p) (Falls causes.Disk (Some written) ∷ []) ≡ Some Fallen) (sym is)
    (ap fallen_with holds)
site_fails written place (inr is) n [] holds =
    subst (λ (p : Place). after true (Some p) (Falls causes.Disk (Some written) ∷ []) ≡ Some Fallen) (sym is)
    (ap fallen_with holds)
site_fails written place (inl is) n (p ∷ ps) holds =
    subst (λ (v : Place). after true (Some v) (sends_of n (p ∷ ps) ++ Falls causes.Disk (Some written) ∷ [])
    ≡ Some Fallen) (sym is) (site_fails written Sending (inr refl) (n + 1) ps holds)
site_fails written place (inr is) n (p ∷ ps) holds =
    subst (λ (v : Place). after true (Some v) (sends_of n (p ∷ ps) ++ Falls causes.Disk (Some written) ∷ [])
    ≡ Some Fallen) (sym is) (site_fails written Sending (inr refl) (n + 1) ps holds)

site_failed : (w : Option Record) (n : ℕ) (ps : List Posting) (told : Option Reply) → HasRecord w
    → writes_no_life w ≡ true → told ≡ None → after true (Some Open)
    (sends_of n ps ++ (tells_of told ++ Falls causes.Disk w ∷ [])) ≡ Some Fallen
site_failed None n ps told never no_life none = absurd never
site_failed (Some written) n ps None has no_life none = site_fails written Open (inl refl) n ps no_life
site_failed (Some written) n ps (Some reply) has no_life none =
    absurd (let same : Some reply ≡ None = none in let never : ⊥ = cc in never)

site_stopped : (w : Option Record) (told : Option Reply) → HasRecord w → writes_no_life w ≡ true → told ≡ None
    → after true (Some Open) (tells_of told ++ Falls causes.Stop w ∷ []) ≡ Some Fallen
site_stopped None told never no_life none = absurd never
site_stopped (Some written) None has no_life none = ap fallen_with no_life
site_stopped (Some written) (Some reply) has no_life none =
    absurd (let same : Some reply ≡ None = none in let never : ⊥ = cc in never)

client_fails : (written : Record) (s : Saying) → other written ≡ true → says_unwritten s ≡ true
    → after false (told_first s) (Falls causes.Disk (Some written) ∷ []) ≡ Some Fallen
client_fails written SaysDown holds fails = absurd (let never : ⊥ = cc in never)
client_fails written SaysUnwritten holds is = ap fallen_with holds
client_fails written SaysFault holds fails = absurd (let never : ⊥ = cc in never)
client_fails written SaysNeither holds fails = absurd (let never : ⊥ = cc in never)

client_stops : (written : Record) (s : Saying) → other written ≡ true → says_unwritten s ≡ true
    → after false (told_first s) (Falls causes.Stop (Some written) ∷ []) ≡ Some Fallen
client_stops written SaysDown holds fails = absurd (let never : ⊥ = cc in never)
client_stops written SaysUnwritten holds is = ap fallen_with holds
client_stops written SaysFault holds fails = absurd (let never : ⊥ = cc in never)
client_stops written SaysNeither holds fails = absurd (let never : ⊥ = cc in never)

client_failed : (w : Option Record) (n : ℕ) (ps : List Posting) (told : Option Reply) → HasRecord w
    → writes_no_life w ≡ true → FailsAlone w ps told
    → after false (Some Open) (sends_of n ps ++ (tells_of told ++ Falls causes.Disk w ∷ [])) ≡ Some Fallen
client_failed None n ps told never no_life alone = absurd never
client_failed (Some written) n (p ∷ ps) told has no_life alone =
    absurd (let none : p ∷ ps ≡ [] = alone.0 in let never : ⊥ = cc in never)
client_failed (Some written) n [] None has no_life alone =
    absurd (let no : false ≡ true = alone.1 in let never : ⊥ = cc in never)
client_failed (Some written) n [] (Some reply) has no_life alone =
    client_fails written (saying_of reply) no_life alone.1

client_stopped : (w : Option Record) (ps : List Posting) (told : Option Reply) → HasRecord w → writes_no_life w ≡ true
    → FailsAlone w ps told → after false (Some Open) (tells_of told ++ Falls causes.Stop w ∷ []) ≡ Some Fallen
client_stopped None ps told never no_life alone = absurd never
client_stopped (Some written) ps None has no_life alone =
    absurd (let no : false ≡ true = alone.1 in let never : ⊥ = cc in never)
client_stopped (Some written) ps (Some reply) has no_life alone = client_stops written (saying_of reply) no_life alone.1

-- a whole post, from each place that may post

abbrev pub still_up : Appended → Bool
still_up Done = true
still_up Failed = false
still_up Stopped = false

pub site_post : (end : Appended) (n : ℕ) (t : Turn) → t.told ≡ None → t.failed_told ≡ None
    → writes_no_life t.write ≡ true → MayEnd t.write end
    → Fits (still_up end) false (after true (Some Open) (deeds_as end n t))
site_post Done n t told failed no_life may = done_rests true t.write n t.sends t.told no_life told
site_post Failed n t told failed no_life may = site_failed t.write n t.failed_sends t.failed_told may no_life failed
site_post Stopped n t told failed no_life may = site_stopped t.write t.failed_told may no_life failed

pub client_post : (end : Appended) (n : ℕ) (t : Turn) → tells_neither t.told ≡ true
    → FailsAlone t.write t.failed_sends t.failed_told → writes_no_life t.write ≡ true → MayEnd t.write end
    → Fits (still_up end) false (after false (Some Open) (deeds_as end n t))
client_post Done n t told alone no_life may = done_rests false t.write n t.sends t.told no_life told
client_post Failed n t told alone no_life may = client_failed t.write n t.failed_sends t.failed_told may no_life alone
client_post Stopped n t told alone no_life may = client_stopped t.write t.failed_sends t.failed_told may no_life alone

-- the administrator's: what isn't written is told as a fault, and so is what is too long for a record

admin_done : (n : ℕ) (w : Option Record) (ps : List Posting) (told : Option Reply) → TellsNone w ps told
    → writes_no_life w ≡ true → AreResting false Open (writes_of w ++ (sends_of n ps ++ tells_of told))
admin_done n w ps told (inl neither) no_life = done_rests false w n ps told no_life neither
admin_done n w ps told (inr fault) no_life =
    subst (λ (x : Option Record). AreResting false Open (writes_of x ++ (sends_of n ps ++ tells_of told))) (sym fault.0)
    (subst (λ (x : List Posting). AreResting false Open (sends_of n x ++ tells_of told)) (sym fault.1)
    (subst (λ (x : Option Reply). AreResting false Open (tells_of x)) (sym fault.2) refl))

admin_failed : (w : Option Record) (n : ℕ) (ps : List Posting) (told : Option Reply) → HasRecord w
    → writes_no_life w ≡ true → ps ≡ [] → FaultsAlone w told
    → after false (Some Open) (sends_of n ps ++ (tells_of told ++ Falls causes.Disk w ∷ [])) ≡ Some Fallen
admin_failed None n ps told never no_life none alone = absurd never
admin_failed (Some written) n ps told has no_life none alone =
    ap (λ (x : List Posting). after false (Some Open)
    (sends_of n x ++ (tells_of told ++ Falls causes.Disk (Some written) ∷ []))) none
    ∙ ap (λ (x : Option Reply). after false (Some Open) (tells_of x ++ Falls causes.Disk (Some written) ∷ [])) alone
    ∙ ap fallen_with no_life

admin_stopped : (w : Option Record) (told : Option Reply) → HasRecord w → writes_no_life w ≡ true → FaultsAlone w told
    → after false (Some Open) (tells_of told ++ Falls causes.Stop w ∷ []) ≡ Some Fallen
admin_stopped None told never no_life alone = absurd never
admin_stopped (Some written) told has no_life alone =
    ap (λ (x : Option Reply). after false (Some Open) (tells_of x ++ Falls causes.Stop (Some written) ∷ [])) alone
    ∙ ap fallen_with no_life

pub admin_post : (end : Appended) (n : ℕ) (t : Turn) → TellsNone t.write t.sends t.told
    → FaultsAlone t.write t.failed_told → t.failed_sends ≡ [] → writes_no_life t.write ≡ true → MayEnd t.write end
    → Fits (still_up end) false (after false (Some Open) (deeds_as end n t))
admin_post Done n t told alone none no_life may = admin_done n t.write t.sends t.told told no_life
admin_post Failed n t told alone none no_life may =
    admin_failed t.write n t.failed_sends t.failed_told may no_life none alone
admin_post Stopped n t told alone none no_life may = admin_stopped t.write t.failed_told may no_life alone

pub rising_post : (site : Bool) (end : Appended) (n : ℕ) (sends : List Posting)
    → Fits (still_up end) false (after site (Some Rising) (deeds_as end n (rising sends)))
rising_post true Done n sends = tail_rests true Written tt n sends None refl
rising_post false Done n sends = tail_rests false Written tt n sends None refl
rising_post site Failed n sends = refl
rising_post site Stopped n sends = refl

-- What waits for an actor after a history: copies of messages, requests of its own that are lost, and commands. Links
-- drop, repeat and delay messages; a fall takes away what waits for the actor that falls, and each request to it that
-- has no answer is lost.
use Rattle.std.specs.Prelude.{[], ℕ, ◌+◌, ◌-◌, ◌==◌, ◌&&◌, Bool, true, false, not, if◌then◌else◌, List, ◌∷◌, ◌++◌, drop}
use Rattle.std.specs.Prelude.{filter, fold, get_or, map, replicate, set, slice_get}
use Rattle.std.specs.Option.{option_map_or}
use Rattle.qc_link.specs.Vocabulary.{fate, most_actors, no_cuts, with_cut, without_cut}
use Rattle.qc_link.specs.declared.plan.Link.{Link}
use Rattle.qc_link.specs.declared.rule.Fate.{Fate}
use Rattle.qc_link.specs.declared.rule.Fate.TheVariants.{Pass, Drop, Twice, Late, Again}
use Rattle.qc_msg.specs.declared.message.Envelope.{Envelope}
use Rattle.qc_msg.specs.declared.message.Message.{Message}
use Rattle.qc_msg.specs.declared.message.Message.TheVariants as messages
use Rattle.qc_msg.specs.declared.step.Command.{Command}
use Rattle.qc_msg.specs.declared.step.Control.{Control}
use Rattle.qc_msg.specs.declared.step.Control.TheVariants as controls
use Rattle.qc_msg.specs.declared.step.Fall.{Fall}
use Rattle.qc_msg.specs.declared.step.Fall.TheVariants as causes
use Rattle.qc_msg.specs.declared.step.Step.{Step}
use Rattle.qc_msg.specs.declared.step.Step.TheVariants as steps
use Rattle.qc_msg.specs.Vocabulary.{Entry, Answered, answer_in, wants_answer}
use Rattle.qc_script.specs.Requests.{SentRequest, has_request, requests_to, requests_to_others, with_lost, with_number}
use Rattle.qc_script.specs.Requests.{without_request}
use Rattle.qc_script.specs.declared.script.CommandLine.{CommandLine}
use Rattle.qc_script.specs.declared.script.PhaseLines.{PhaseLines}
use Rattle.qc_script.specs.declared.script.Script.{Script}

pub record Inbox : Type 0 where
  -- which actors are cut from each other; by actor, which are up: each inbox knows it of all
  pub cuts : List Bool
  pub up : List Bool
  -- by actor: how many messages came from it to this one so far, and went from this one to it, dropped ones too
  pub from_each : List ℕ
  pub to_each : List ℕ
  -- the copies that are ready, in the order of their numbers
  pub copies : List Envelope
  -- late copies: those that are ready once the control lines of this phase have acted, and those that are in the next
  pub opening : List Envelope
  pub late : List Envelope
  -- the actor's requests that made a copy at once and have no answer yet; those that are lost, ascending, until it
  -- takes that they are
  pub unanswered : List SentRequest
  pub lost : List ℕ
  -- the control lines of the phase that haven't acted
  pub controls : List Control
  -- the commands of the phases so far that it hasn't called; whether it has called one and not told its reply
  pub commands : List Command
  pub busy : Bool

-- how many messages there were from each actor, or to each; actors are numbered below the most actors

abbrev pub no_counts : List ℕ
no_counts = replicate most_actors 0

abbrev pub count_of : List ℕ → ℕ → ℕ
count_of counts a = get_or counts a 0

abbrev pub one_more : List ℕ → ℕ → List ℕ
one_more counts a = set counts a (count_of counts a + 1)

-- who is up; at first everybody is

abbrev pub everybody : List Bool
everybody = replicate most_actors true

abbrev pub is_up : List Bool → ℕ → Bool
is_up up a = get_or up a true

abbrev pub empty_inbox : Inbox
empty_inbox =
    record {
      cuts = no_cuts;
      up = everybody;
      from_each = no_counts;
      to_each = no_counts;
      copies = [];
      opening = [];
      late = [];
      unanswered = [];
      lost = [];
      controls = [];
      commands = [];
      busy = false;
    }

-- the copies that a fate makes at once, and those that come as the next phase begins

abbrev pub copies_at_once : Fate → Envelope → List Envelope
copies_at_once Pass e = e ∷ []
copies_at_once Drop e = []
copies_at_once Twice e = e ∷ e ∷ []
copies_at_once Late e = []
copies_at_once Again e = e ∷ []

abbrev pub late_copies : Fate → Envelope → List Envelope
late_copies Pass e = []
late_copies Drop e = []
late_copies Twice e = []
late_copies Late e = e ∷ []
late_copies Again e = e ∷ []

abbrev pub comes_at_once : Fate → Bool
comes_at_once Pass = true
comes_at_once Drop = false
comes_at_once Twice = true
comes_at_once Late = false
comes_at_once Again = true

-- a message to the actor: its copies, of which those that come at once are gone where the actor is down; the first
-- answer to a request of the actor's ends the wait for it, and where it makes no copy at once, the request is lost

abbrev pub if_up : Bool → List Envelope → List Envelope
if_up true es = es
if_up false es = []

abbrev pub with_copies : Bool → Inbox → Envelope → Fate → Inbox
with_copies up i e f =
    record i {
      from_each = one_more i.from_each e.from;
      copies = i.copies ++ if_up up (copies_at_once f e);
      late = i.late ++ late_copies f e;
    }

abbrev pub request_answered : Inbox → ℕ → Fate → Inbox
request_answered i number f =
    if has_request i.unanswered number
    then record i {
      unanswered = without_request i.unanswered number;
      lost = if comes_at_once f then i.lost else with_number i.lost number;
    }
    else i

abbrev pub answers_by : Inbox → Message → Fate → Inbox
answers_by i message f = option_map_or (λ (a : Answered). request_answered i a.to f) (answer_in message) i

abbrev pub comes_with : Bool → Inbox → Envelope → Fate → Inbox
comes_with up i e f = answers_by (with_copies up i e f) e.message f

-- a message of the actor's: a request that makes no copy at once is lost, though a late copy comes; so is one to an
-- actor that is down

abbrev pub is_request : Message → Bool
is_request m = wants_answer m

abbrev pub request_sent : Inbox → ℕ → ℕ → Fate → Inbox
request_sent i number to f =
    if comes_at_once f && is_up i.up to
    then record i { unanswered = i.unanswered ++ record { number = number; to = to } ∷ [] }
    else record i { lost = with_number i.lost number }

abbrev pub goes_with : Inbox → Envelope → Fate → Inbox
goes_with i e f =
    let counted : Inbox = record i { to_each = one_more i.to_each e.to } in
    if is_request e.message then request_sent counted e.number e.to f else counted

-- its fate is decided as it is sent, by the cuts, the rules and its number among the messages from its sender to its
-- receiver

abbrev pub comes : List Link → ℕ → Inbox → Envelope → Inbox
comes links a i e =
    if e.to == a
    then comes_with (is_up i.up a) i e (fate links i.cuts e.from e.to (count_of i.from_each e.from + 1))
    else i

abbrev pub goes : List Link → ℕ → Inbox → Envelope → Inbox
goes links a i e =
    if e.from == a then goes_with i e (fate links i.cuts e.from e.to (count_of i.to_each e.to + 1)) else i

-- a line that crashes an actor that is down, or restarts one that is up, acts without a step once those before it have

abbrev pub does_nothing : List Bool → Control → Bool
does_nothing up (controls.Phase k) = false
does_nothing up (controls.Cut x y) = false
does_nothing up (controls.Heal x y) = false
does_nothing up (controls.Armed actor kind at) = false
does_nothing up (controls.Crash r) = not (is_up up r)
does_nothing up (controls.Restart r) = is_up up r

abbrev pub acting : List Bool → List Control → List Control
acting up [] = []
acting up (c ∷ cs) = if does_nothing up c then acting up cs else c ∷ cs

-- late copies are ready once the phase's control lines have acted; they are gone where the actor is down then

abbrev pub opened_by : ℕ → List Control → Inbox → Inbox
opened_by a [] i = record i { copies = if_up (is_up i.up a) i.opening ++ i.copies; opening = [] }
opened_by a (c ∷ cs) i = i

abbrev pub opened : ℕ → Inbox → Inbox
opened a i =
    let lines : List Control = acting i.up i.controls in
    opened_by a lines (record i { controls = lines })

abbrev pub control_acted : ℕ → Inbox → Inbox
control_acted a i = opened a (record i { controls = drop 1 i.controls })

-- the commands of a phase that an actor is asked

abbrev pub commands_for : ℕ → List CommandLine → List Command
commands_for a lines = map (λ (l : CommandLine). l.command) (filter (λ (l : CommandLine). l.actor == a) lines)

abbrev pub phase_begun : ℕ → Inbox → PhaseLines → Inbox
phase_begun a i phase =
    opened a (record i {
      opening = i.opening ++ i.late;
      late = [];
      controls = phase.controls;
      commands = i.commands ++ commands_for a phase.commands;
    })

-- what an actor's own input takes away, and what its reply does

abbrev pub command_called : Inbox → Inbox
command_called i = record i { commands = drop 1 i.commands; busy = true }

abbrev pub copy_taken : Inbox → Inbox
copy_taken i = record i { copies = drop 1 i.copies }

abbrev pub loss_taken : Inbox → Inbox
loss_taken i = record i { lost = drop 1 i.lost }

abbrev pub reply_told : Inbox → Inbox
reply_told i = record i { busy = false }

-- actor r falls: nothing waits for it any more, and what others asked it and has no answer is lost. Late copies that
-- aren't ready yet stay

abbrev pub emptied : Bool → Inbox → Inbox
emptied true i = record i { copies = []; unanswered = []; lost = [] }
emptied false i = i

abbrev pub actor_fell : ℕ → Inbox → ℕ → Inbox
actor_fell a i r =
    emptied (r == a) (record i {
      up = set i.up r false;
      unanswered = requests_to_others r i.unanswered;
      lost = with_lost (requests_to r i.unanswered) i.lost;
    })

-- A fall ends a post, but for two that control lines call for: where the script is its cause, and where the actor was
-- down. That one was to restart, and its journal wasn't opened, or the record of its rise wasn't written

abbrev pub is_by_line : Bool → Fall → Bool
is_by_line up causes.Script = true
is_by_line up causes.Stop = not up
is_by_line up causes.Disk = not up

abbrev pub fell_by : ℕ → Inbox → ℕ → Fall → Inbox
fell_by a i r cause =
    if is_by_line (is_up i.up r) cause then control_acted a (actor_fell a i r) else actor_fell a i r

-- an actor that rises is up once it has written the record of its rise; the control line that restarts it has acted
-- then
abbrev pub wrote_record : ℕ → Inbox → ℕ → Inbox
wrote_record a i r = if is_up i.up r then i else control_acted a (record i { up = set i.up r true })

-- what a step of an actor changes in the inbox of actor a; one whose journal is damaged stays down
abbrev pub inbox_at : Script → ℕ → Inbox → ℕ → Step → Inbox
inbox_at script a i by (steps.Phase k) = option_map_or (phase_begun a i) (slice_get script.phases (k - 1)) i
inbox_at script a i by (steps.Cut x y) = control_acted a (record i { cuts = with_cut i.cuts x y })
inbox_at script a i by (steps.Heal x y) = control_acted a (record i { cuts = without_cut i.cuts x y })
inbox_at script a i by (steps.Armed actor kind at) = control_acted a i
inbox_at script a i by (steps.Called command) = if by == a then command_called i else i
inbox_at script a i by (steps.Got n) = if by == a then copy_taken i else i
inbox_at script a i by (steps.Lost n) = if by == a then loss_taken i else i
inbox_at script a i by (steps.Wrote written) = wrote_record a i by
inbox_at script a i by (steps.Sent n to message) =
    let e : Envelope = record { number = n; from = by; to = to; message = message } in
    goes script.links a (comes script.links a i e) e
inbox_at script a i by (steps.Told reply) = if by == a then reply_told i else i
inbox_at script a i by (steps.Fell cause pending) = fell_by a i by cause
inbox_at script a i by (steps.Rose records) = i
inbox_at script a i by (steps.Damaged offset) = control_acted a i

abbrev pub inbox : Script → ℕ → List Entry → Inbox
inbox script a h = fold (λ i e. inbox_at script a i e.actor e.step) empty_inbox h

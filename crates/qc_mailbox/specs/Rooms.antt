-- What is kept of all inboxes, and what changes in it as actors and the controller act.
use Rattle.std.specs.Prelude.{ℕ, ◌+◌, ◌==◌, Bool, true, false, List, [], ◌∷◌, Option, Some, None, drop, get_or, length}
use Rattle.std.specs.Prelude.{map, replicate, set}
use Rattle.qc_link.specs.Vocabulary.{fate, most_actors, no_cuts, with_cut, without_cut}
use Rattle.qc_link.specs.declared.rule.Fate.{Fate}
use Rattle.qc_msg.specs.declared.message.Message.{Message}
use Rattle.qc_msg.specs.declared.reply.Reply.{Reply}
use Rattle.qc_msg.specs.declared.step.Control.{Control}
use Rattle.qc_msg.specs.declared.step.Control.TheVariants as controls
use Rattle.qc_msg.specs.declared.turn.Appended.{Appended}
use Rattle.qc_msg.specs.declared.turn.Appended.TheVariants.{Done, Failed, Stopped}
use Rattle.qc_msg.specs.declared.turn.Posting.{Posting}
use Rattle.qc_msg.specs.declared.turn.Turn.{Turn}
use Rattle.qc_script.specs.Vocabulary.{acting, everybody, is_up}
use Rattle.qc_script.specs.declared.script.CommandLine.{CommandLine}
use Rattle.qc_script.specs.declared.script.PhaseLines.{PhaseLines}
use Rattle.qc_script.specs.declared.script.Script.{Script}
use Rattle.qc_mailbox.specs.Inboxes.{Inboxes, Tray}
use Rattle.qc_mailbox.specs.Tallies.{count, no_messages, one_message_more}
use Rattle.qc_mailbox.specs.Trays.{empty_tray, tray_asked, tray_begun, tray_comes, tray_emptied, tray_goes, tray_losing}
use Rattle.qc_mailbox.specs.Trays.{tray_opened, tray_taken, tray_told}

abbrev pub tray_at : List Tray → ℕ → Tray
tray_at trays a = get_or trays a empty_tray

-- whether no control line is left
abbrev pub none_left : List Control → Bool
none_left lines = length lines == 0

-- before the first step
abbrev pub empty_inboxes : Script → Inboxes
empty_inboxes script =
    record {
      links = script.links;
      cuts = no_cuts;
      up = everybody;
      counts = no_messages;
      controls = [];
      trays = replicate most_actors empty_tray;
    }

-- a message comes to an actor, and goes out from one, where its receiver is up or down

abbrev pub with_coming : Bool → List Tray → ℕ → ℕ → Message → Fate → List Tray
with_coming up trays to n message f = set trays to (tray_comes up (tray_at trays to) n message f)

abbrev pub with_going : Bool → List Tray → ℕ → ℕ → ℕ → Message → Fate → List Tray
with_going up trays from n to message f = set trays from (tray_goes up (tray_at trays from) n to message f)

-- an actor sends a message: its number is that of all messages before it, and its fate is decided at once
abbrev pub after_send : Inboxes → ℕ → Posting → Inboxes
after_send i from p =
    let f : Fate = fate i.links i.cuts from p.to (count i.counts from p.to + 1) in
    let up : Bool = is_up i.up p.to in
    record i {
      counts = one_message_more i.counts from p.to;
      trays = with_going up (with_coming up i.trays p.to i.counts.all p.message f) from i.counts.all p.to p.message f;
    }

abbrev pub after_sends : Inboxes → ℕ → List Posting → Inboxes
after_sends i from [] = i
after_sends i from (p ∷ ps) = after_sends (after_send i from p) from ps

-- an actor tells a reply
abbrev pub after_reply : Inboxes → ℕ → Option Reply → Inboxes
after_reply i from None = i
after_reply i from (Some reply) = record i { trays = set i.trays from (tray_told (tray_at i.trays from)) }

-- an actor posts a turn whose record is written, or that has none
abbrev pub after_turn : Inboxes → ℕ → Turn → Inboxes
after_turn i from turn = after_reply (after_sends i from turn.sends) from turn.told

-- an actor takes what is ready first for it
abbrev pub after_take : Inboxes → ℕ → Inboxes
after_take i a = record i { trays = set i.trays a (tray_taken (tray_at i.trays a)) }

-- the next phase begins

abbrev pub with_command : List Tray → CommandLine → List Tray
with_command trays l = set trays l.actor (tray_asked (tray_at trays l.actor) l.command)

abbrev pub with_commands : List Tray → List CommandLine → List Tray
with_commands trays [] = trays
with_commands trays (l ∷ ls) = with_commands (with_command trays l) ls

-- each tray is changed, by whether its actor is up
abbrev pub each_by_up : (Bool → Tray → Tray) → List Bool → List Tray → List Tray
each_by_up change up [] = []
each_by_up change [] (t ∷ ts) = change true t ∷ each_by_up change [] ts
each_by_up change (u ∷ us) (t ∷ ts) = change u t ∷ each_by_up change us ts

-- with these control lines, of which those at the front that have nothing to do are passed over
abbrev pub after_phase : Inboxes → PhaseLines → Inboxes
after_phase i phase =
    let lines : List Control = acting i.up phase.controls in
    record i {
      controls = lines;
      trays = each_by_up (tray_begun (none_left lines)) i.up (with_commands i.trays phase.commands);
    }

-- the first control line left has acted, and so have those behind it that have nothing to do
abbrev pub with_control_gone : Inboxes → Inboxes
with_control_gone i =
    let lines : List Control = acting i.up (drop 1 i.controls) in
    record i { controls = lines; trays = each_by_up (tray_opened (none_left lines)) i.up i.trays }

-- a control line acts that is the controller's own. One that crashes an actor, or restarts it, acts as that actor falls
-- or rises
abbrev pub after_control : Inboxes → Control → Inboxes
after_control i (controls.Phase k) = i
after_control i (controls.Cut a b) = with_control_gone (record i { cuts = with_cut i.cuts a b })
after_control i (controls.Heal a b) = with_control_gone (record i { cuts = without_cut i.cuts a b })
after_control i (controls.Armed actor kind at) = with_control_gone i
after_control i (controls.Crash a) = i
after_control i (controls.Restart a) = i

abbrev pub after_first : Inboxes → List Control → Inboxes
after_first i [] = i
after_first i (c ∷ cs) = after_control i c

-- an actor falls: what others asked it and has no answer is lost, and nothing waits for it any more
abbrev pub with_fall : List Tray → ℕ → List Tray
with_fall trays r = set trays r (tray_emptied (tray_at trays r))

abbrev pub after_fall : Inboxes → ℕ → Inboxes
after_fall i r = record i { up = set i.up r false; trays = with_fall (map (tray_losing r) i.trays) r }

-- it falls, or stays down, by the control line that is next: the line crashes it, or restarts it and its journal isn't
-- opened
abbrev pub after_fall_by_line : Inboxes → ℕ → Inboxes
after_fall_by_line i r = with_control_gone (after_fall i r)

-- it rises, by the control line that is next
abbrev pub after_rise : Inboxes → ℕ → Inboxes
after_rise i r = with_control_gone (record i { up = set i.up r true })

-- an actor that is up posts a turn, by what became of its record: where that isn't written, the actor falls
abbrev pub after_post_as : Appended → Inboxes → ℕ → Turn → Inboxes
after_post_as Done i from turn = after_turn i from turn
after_post_as Failed i from turn =
    after_fall (after_reply (after_sends i from turn.failed_sends) from turn.failed_told) from
after_post_as Stopped i from turn = after_fall (after_reply i from turn.failed_told) from

-- an actor rises and posts its rising turn, by what became of the record of its rise: where that isn't written, it rose
-- in vain
abbrev pub after_rising_as : Appended → Inboxes → ℕ → Turn → Inboxes
after_rising_as Done i from turn = after_turn (after_rise i from) from turn
after_rising_as Failed i from turn = with_control_gone (after_post_as Failed i from turn)
after_rising_as Stopped i from turn = with_control_gone (after_post_as Stopped i from turn)

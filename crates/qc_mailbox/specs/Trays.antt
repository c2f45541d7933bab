-- What changes in an actor's tray. What all inboxes have in common, cuts, who is up, counts and control lines, stands
-- beside the trays.
use Rattle.std.specs.Prelude.{[], ℕ, ◌+◌, ◌&&◌, Bool, true, false, if◌then◌else◌, List, ◌∷◌, ◌++◌, drop}
use Rattle.std.specs.Option.{option_map_or}
use Rattle.qc_link.specs.declared.rule.Fate.{Fate}
use Rattle.qc_link.specs.declared.rule.Fate.TheVariants.{Pass, Drop, Twice, Late, Again}
use Rattle.qc_msg.specs.declared.message.Message.{Message}
use Rattle.qc_msg.specs.declared.step.Command.{Command}
use Rattle.qc_script.specs.Vocabulary.{comes_at_once, has_request, is_request, requests_to, requests_to_others}
use Rattle.qc_script.specs.Vocabulary.{with_lost, with_number, without_request}
use Rattle.qc_mailbox.specs.Inboxes.{Tray}
use Rattle.qc_msg.specs.Vocabulary.{Answered, answer_in}

abbrev pub empty_tray : Tray
empty_tray =
    record {
      copies = [];
      opening = [];
      late = [];
      unanswered = [];
      lost = [];
      commands = [];
      busy = false;
      calls = 0;
    }

-- the copies that a fate makes of the message of a number, where the actor is up, and where it is down: those that come
-- at once are gone then
abbrev pub tray_with_copies : Bool → Tray → ℕ → Fate → Tray
tray_with_copies true t n Pass = record t { copies = t.copies ++ n ∷ [] }
tray_with_copies true t n Drop = t
tray_with_copies true t n Twice = record t { copies = (t.copies ++ n ∷ []) ++ n ∷ [] }
tray_with_copies true t n Late = record t { late = t.late ++ n ∷ [] }
tray_with_copies true t n Again = record t { copies = t.copies ++ n ∷ []; late = t.late ++ n ∷ [] }
tray_with_copies false t n Pass = t
tray_with_copies false t n Drop = t
tray_with_copies false t n Twice = t
tray_with_copies false t n Late = record t { late = t.late ++ n ∷ [] }
tray_with_copies false t n Again = record t { late = t.late ++ n ∷ [] }

-- the actor's request of a number is lost, unless a copy came at once
abbrev pub tray_lost_unless : Bool → Tray → ℕ → Tray
tray_lost_unless true t n = t
tray_lost_unless false t n = record t { lost = with_number t.lost n }

-- an answer to the request of a number comes with a fate
abbrev pub tray_answered : Tray → ℕ → Fate → Tray
tray_answered t n f =
    if has_request t.unanswered n
    then tray_lost_unless (comes_at_once f) (record t { unanswered = without_request t.unanswered n }) n
    else t

abbrev pub tray_answered_by : Tray → Message → Fate → Tray
tray_answered_by t message f = option_map_or (λ (a : Answered). tray_answered t a.to f) (answer_in message) t

-- a message comes to the actor, which is up or down
abbrev pub tray_comes : Bool → Tray → ℕ → Message → Fate → Tray
tray_comes up t n message f = tray_answered_by (tray_with_copies up t n f) message f

-- a request of the actor's goes out, and is lost at once or isn't
abbrev pub tray_asks : Bool → Tray → ℕ → ℕ → Tray
tray_asks true t n to = record t { unanswered = t.unanswered ++ record { number = n; to = to } ∷ [] }
tray_asks false t n to = record t { lost = with_number t.lost n }

-- a message of the actor's goes out, to an actor that is up or down
abbrev pub tray_goes : Bool → Tray → ℕ → ℕ → Message → Fate → Tray
tray_goes up t n to message f = if is_request message then tray_asks (comes_at_once f && up) t n to else t

-- late copies are ready once no control line is left; they are gone where the actor is down then
abbrev pub tray_opened : Bool → Bool → Tray → Tray
tray_opened true true t = record t { copies = t.opening ++ t.copies; opening = [] }
tray_opened true false t = record t { opening = [] }
tray_opened false up t = t

-- the next phase begins, with no control line or some
abbrev pub tray_begun : Bool → Bool → Tray → Tray
tray_begun none_left up t = tray_opened none_left up (record t { opening = t.opening ++ t.late; late = []; calls = 0 })

-- another actor falls: what this one asked it and has no answer is lost
abbrev pub tray_losing : ℕ → Tray → Tray
tray_losing r t =
    record t { unanswered = requests_to_others r t.unanswered; lost = with_lost (requests_to r t.unanswered) t.lost }

-- the actor falls: nothing waits for it any more but commands, and late copies that aren't ready yet
abbrev pub tray_emptied : Tray → Tray
tray_emptied t = record t { copies = []; unanswered = []; lost = [] }

-- the actor is asked a command more
abbrev pub tray_asked : Tray → Command → Tray
tray_asked t command = record t { commands = t.commands ++ command ∷ [] }

-- the first copy, the first lost request, the first command is taken

abbrev pub tray_got : Tray → Tray
tray_got t = record t { copies = drop 1 t.copies }

abbrev pub tray_lost : Tray → Tray
tray_lost t = record t { lost = drop 1 t.lost }

abbrev pub tray_called : Tray → Tray
tray_called t = record t { commands = drop 1 t.commands; busy = true; calls = t.calls + 1 }

-- what is ready first is taken

abbrev pub lost_or_called : List ℕ → Tray → Tray
lost_or_called [] t = tray_called t
lost_or_called (n ∷ ns) t = tray_lost t

abbrev pub got_or_other : List ℕ → Tray → Tray
got_or_other [] t = lost_or_called t.lost t
got_or_other (n ∷ ns) t = tray_got t

abbrev pub tray_taken : Tray → Tray
tray_taken t = got_or_other t.copies t

-- the reply to the command that the actor called is told
abbrev pub tray_told : Tray → Tray
tray_told t = record t { busy = false }

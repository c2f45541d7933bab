-- The section of replies: one line for each command in the script's order.
use Rattle.std.specs.Prelude.{ℕ, ◌==◌, if◌then◌else◌, List, [], ◌∷◌, ◌++◌, Option, Some, None, codes, slice_get}
use Rattle.std.specs.List.{filter_map}
use Rattle.qc_decl.specs.declared.declaration.Declaration.{Declaration}
use Rattle.qc_msg.specs.declared.reply.Reply.{Reply}
use Rattle.qc_msg.specs.declared.step.Step.{Step}
use Rattle.qc_msg.specs.declared.step.Step.TheVariants as steps
use Rattle.qc_msg.specs.Vocabulary.{Entry, replied_in}
use Rattle.qc_script.specs.declared.script.CommandLine.{CommandLine}
use Rattle.qc_script.specs.declared.script.Script.{Script}
use Rattle.qc_text.specs.Asked.{asked, command_text, commands_of}
use Rattle.qc_text.specs.Parts.{actor_text}
use Rattle.qc_text.specs.Results.{reply_text}

-- what an actor told, oldest first

abbrev pub reply_in : Step → Option Reply
reply_in step = replied_in step

abbrev pub reply_by : ℕ → Entry → Option Reply
reply_by a e = if e.actor == a then reply_in e.step else None

abbrev pub told_of : ℕ → List Entry → List Reply
told_of a h = filter_map (reply_by a) h

-- a command's line, as soon as it has its reply
abbrev pub reply_line : Declaration → CommandLine → Option Reply → List ℕ
reply_line decl line None = []
reply_line decl line (Some reply) =
    actor_text decl line.actor ++ (codes " " ++ (command_text decl line.command
    ++ (codes " " ++ (reply_text decl line.command reply ++ codes "\n"))))

-- the lines of commands that come after these earlier ones: an actor's k-th command has the actor's k-th reply
abbrev pub reply_lines : Declaration → List Entry → List CommandLine → List CommandLine → List ℕ
reply_lines decl h earlier [] = []
reply_lines decl h earlier (line ∷ lines) =
    reply_line decl line (slice_get (told_of line.actor h) (asked line.actor earlier))
    ++ reply_lines decl h (earlier ++ line ∷ []) lines

abbrev pub replies_text : Declaration → Script → List Entry → List ℕ
replies_text decl script h = codes "replies\n" ++ reply_lines decl h [] (commands_of script)

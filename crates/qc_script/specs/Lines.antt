-- What the words of a line say, if they have one of its forms.
--
--     phase
--     link FROM TO ORDINAL RULE
--     cut ACTOR ACTOR          heal ACTOR ACTOR
--     crash ACTOR              restart ACTOR
--     stop ACTOR at NUMBER     fail ACTOR at NUMBER
--     cN begin                 cN do OBJECT INV          cN commit          cN abort
--     admin epoch NUMBER
use Rattle.std.specs.Prelude.{ℕ, if◌then◌else◌, List, [], ◌∷◌, codes, Option, Some, None}
use Rattle.std.specs.Str.{bytes_eq}
use Rattle.qc_outside.specs.declared.disk.ArmKind.{ArmKind}
use Rattle.qc_outside.specs.declared.disk.ArmKind.TheVariants.{Stop, Fail}
use Rattle.qc_script.specs.Forms.{actor_of, client_of, end_of, name_of, ordinal_of, rule_of}
use Rattle.qc_number.specs.Vocabulary.{number_of}
use Rattle.qc_script.specs.Options.{◌>>=◌}
use Rattle.qc_script.specs.declared.actor.ActorName.{ActorName}
use Rattle.qc_script.specs.declared.line.ScriptLine.{ScriptLine}
use Rattle.qc_script.specs.declared.line.ScriptLine.TheVariants as lines
use Rattle.qc_script.specs.declared.line.Verb.{Verb}
use Rattle.qc_script.specs.declared.line.Verb.TheVariants.{Begin, Do, Commit, Abort}

-- each form by the words behind its first one

abbrev pub phase_line : List (List ℕ) → Option ScriptLine
phase_line [] = Some lines.Phase
phase_line _ = None

abbrev pub link_of : List ℕ → List ℕ → List ℕ → List ℕ → Option ScriptLine
link_of from to ordinal rule = do
  sender ← end_of from
  receiver ← end_of to
  which ← ordinal_of ordinal
  what ← rule_of rule
  Some (lines.Link sender receiver which what)

abbrev pub link_line : List (List ℕ) → Option ScriptLine
link_line (from ∷ to ∷ ordinal ∷ rule ∷ []) = link_of from to ordinal rule
link_line _ = None

-- two actors
abbrev pub pair_of : List (List ℕ) → Option (ActorName × ActorName)
pair_of (first ∷ second ∷ []) = do
  a ← actor_of first
  b ← actor_of second
  Some (a, b)
pair_of _ = None

abbrev pub cut_line : List (List ℕ) → Option ScriptLine
cut_line words = do
  pair ← pair_of words
  Some (lines.Cut pair.0 pair.1)

abbrev pub heal_line : List (List ℕ) → Option ScriptLine
heal_line words = do
  pair ← pair_of words
  Some (lines.Heal pair.0 pair.1)

-- one actor
abbrev pub single_of : List (List ℕ) → Option ActorName
single_of (word ∷ []) = actor_of word
single_of _ = None

abbrev pub crash_line : List (List ℕ) → Option ScriptLine
crash_line words = do
  actor ← single_of words
  Some (lines.Crash actor)

abbrev pub restart_line : List (List ℕ) → Option ScriptLine
restart_line words = do
  actor ← single_of words
  Some (lines.Restart actor)

-- an actor, `at` and a number
abbrev pub armed_line : ArmKind → List (List ℕ) → Option ScriptLine
armed_line kind (actor ∷ at ∷ number ∷ []) = if bytes_eq at (codes "at") then (do
  who ← actor_of actor
  when ← number_of number
  Some (lines.Armed who kind when)) else None
armed_line kind _ = None

-- `epoch` and a number
abbrev pub epoch_line : List (List ℕ) → Option ScriptLine
epoch_line (epoch ∷ number ∷ []) = if bytes_eq epoch (codes "epoch") then (do
  which ← number_of number
  Some (lines.Epoch which)) else None
epoch_line _ = None

-- what a client is asked: a word alone, or `do` with an object and an invocation
abbrev pub alone_of : List ℕ → Option Verb
alone_of word =
    if bytes_eq word (codes "begin") then Some Begin
    else (if bytes_eq word (codes "commit") then Some Commit
    else (if bytes_eq word (codes "abort") then Some Abort else None))

abbrev pub do_of : List ℕ → List ℕ → List ℕ → Option Verb
do_of word object inv = if bytes_eq word (codes "do") then (do
  of ← name_of object
  what ← name_of inv
  Some (Do of what)) else None

abbrev pub verb_of : List (List ℕ) → Option Verb
verb_of (word ∷ []) = alone_of word
verb_of (word ∷ object ∷ inv ∷ []) = do_of word object inv
verb_of _ = None

abbrev pub command_line : List ℕ → List (List ℕ) → Option ScriptLine
command_line word words = do
  client ← client_of word
  verb ← verb_of words
  Some (lines.Command client verb)

-- a line that tells of an actor's fall or rise, of a disk, or of what is asked
unfoldable pub other_line : List ℕ → List (List ℕ) → Option ScriptLine
other_line word words =
    if bytes_eq word (codes "crash") then crash_line words
    else (if bytes_eq word (codes "restart") then restart_line words
    else (if bytes_eq word (codes "stop") then armed_line Stop words
    else (if bytes_eq word (codes "fail") then armed_line Fail words
    else (if bytes_eq word (codes "admin") then epoch_line words
    else command_line word words))))

-- the line that words are
abbrev pub line_of : List (List ℕ) → Option ScriptLine
line_of [] = None
line_of (word ∷ words) =
    if bytes_eq word (codes "phase") then phase_line words
    else (if bytes_eq word (codes "link") then link_line words
    else (if bytes_eq word (codes "cut") then cut_line words
    else (if bytes_eq word (codes "heal") then heal_line words
    else other_line word words)))

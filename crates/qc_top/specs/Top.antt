-- What the top call leaves: a run of the words' script and its text, a word on a declaration, or a cause that is due.
use Rattle.std.specs.Prelude.{◌≡◌, ℕ, Bool, ◌++◌, List, [], Option, Some, None, Ok, Err, IsSome, ◌⊎◌}
use Rattle.qc_promise.specs.Vocabulary.{Atomic, Due, Kept, Spent, committed}
use Rattle.qc_core.specs.Vocabulary.{IsLawfulWithFalls}
use Rattle.laws_due.specs.Vocabulary.{IsWholeWithFalls}
use Rattle.laws_room.specs.Vocabulary.{HasRoom}
use Rattle.theory_onecopy.specs.Vocabulary.{replay}
use Rattle.qc_decl.specs.Vocabulary.{IsAccepted}
use Rattle.qc_decl.specs.declared.declaration.Declaration.{Declaration}
use Rattle.qc_msg.specs.Vocabulary.{Entry}
use Rattle.qc_msg.specs.declared.step.Quantity.{Quantity}
use Rattle.qc_outside.specs.Vocabulary.{Answer, Files, Places}
use Rattle.qc_outside.specs.declared.rack.RackFault.{RackFault}
use Rattle.qc_outside.specs.declared.rack.RackFault.TheVariants as racks
use Rattle.qc_outside.specs.declared.shelf.ShelfFault.TheVariants as faults
use Rattle.qc_report.specs.Vocabulary.{accepted_text_of}
use Rattle.qc_report.specs.declared.cause.Cause.{Cause}
use Rattle.qc_report.specs.declared.cause.Cause.TheVariants as causes
use Rattle.qc_text.specs.Vocabulary.{summary_of, text_of}
use Rattle.qc_script.specs.Vocabulary.{RunWithFalls}
use Rattle.qc_script.specs.declared.script.Script.{Script}
use Rattle.qc_fabric.specs.Vocabulary.{HasReached, IsBelow}
pub use Rattle.qc_node.specs.Runnable.{IsRunnable}
use Rattle.qc_node.specs.Vocabulary.{fits_of}
use Rattle.qc_node.specs.declared.ends.DriveEnd.{DriveEnd}
use Rattle.qc_node.specs.declared.ends.DriveEnd.TheVariants as ends
use Rattle.qc_top.specs.Answers.{AreAnswers}
use Rattle.qc_top.specs.Racks.{LeavesRack}
use Rattle.qc_top.specs.Words.{folder_of}
use Rattle.qc_top.specs.Work.{Caused, IsBlamed, work_of}
use Rattle.qc_top.specs.declared.answers.Answers.{Answers}
use Rattle.qc_top.specs.declared.work.Work.{Work}
use Rattle.qc_top.specs.declared.work.Work.TheVariants as works
use Rattle.qc_top.specs.declared.work.Output.{Output}
use Rattle.qc_top.specs.declared.work.Output.TheVariants as outputs
use Rattle.qc_words.specs.Vocabulary.{AskedOf, Text, asked}
use Rattle.qc_words.specs.declared.fault.WordsFault.{WordsFault}
use Rattle.qc_words.specs.declared.fault.WordsFault.TheVariants as words_faults

-- how a run ended, by its history: a limit is told exactly where it was reached, and want of memory only below
abbrev pub IsEnd : DriveEnd → List Entry → Type 0
IsEnd ends.Quiet h = IsBelow h
IsEnd (ends.Full full) h = HasReached full.what full.number h
IsEnd ends.OutOfMemory h = IsBelow h

-- the same by the cause that is told
abbrev pub IsFullCause : Cause → List Entry → Type 0
IsFullCause (causes.Full what number) h = HasReached what number h
IsFullCause causes.Done h = IsBelow h
IsFullCause causes.Sink h = IsBelow h
IsFullCause (causes.Shelf script fault) h = h ≡ []
IsFullCause (causes.Declaration fault) h = h ≡ []
IsFullCause (causes.Script fault) h = h ≡ []
IsFullCause (causes.Rack fault) h = h ≡ []
IsFullCause causes.Usage h = h ≡ []
IsFullCause causes.OutOfMemory h = IsBelow h

-- what a telling sink took: the whole text where all was done, a part of it where the sink failed, and else nothing

abbrev pub IsPrefixOf : List ℕ → List ℕ → List ℕ → Type 0
IsPrefixOf old text new = (front : List ℕ) × (back : List ℕ) × (front ++ back ≡ text) × (new ≡ old ++ front)

abbrev pub Printed : List ℕ → List ℕ → Cause → List ℕ → Type 0
Printed text old causes.Done new = new ≡ old ++ text
Printed text old causes.Sink new = IsPrefixOf old text new
Printed text old causes.OutOfMemory new = new ≡ old
Printed text old causes.Usage new = new ≡ old
Printed text old (causes.Shelf script fault) new = new ≡ old
Printed text old (causes.Declaration fault) new = new ≡ old
Printed text old (causes.Script fault) new = new ≡ old
Printed text old (causes.Rack fault) new = new ≡ old
Printed text old (causes.Full what number) new = new ≡ old

abbrev pub PrintsBetween : List ℕ → Option (List ℕ) → Cause → Option (List ℕ) → Type 0
PrintsBetween text (Some old) cause (Some new) = Printed text old cause new
PrintsBetween text None cause None = Unit {0}
PrintsBetween text None cause (Some new) = ⊥
PrintsBetween text (Some old) cause None = ⊥

-- where a text was printed, or a part of it
abbrev pub OnPrinted : Cause → Type 0 → Type 0
OnPrinted causes.Done P = P
OnPrinted causes.Sink P = P
OnPrinted causes.OutOfMemory P = Unit {0}
OnPrinted causes.Usage P = Unit {0}
OnPrinted (causes.Shelf script fault) P = Unit {0}
OnPrinted (causes.Declaration fault) P = Unit {0}
OnPrinted (causes.Script fault) P = Unit {0}
OnPrinted (causes.Rack fault) P = Unit {0}
OnPrinted (causes.Full what number) P = Unit {0}

-- the causes with which a call may end that tells of a declaration
abbrev pub IsTold : Cause → Type 0
IsTold causes.Done = Unit {0}
IsTold causes.Sink = Unit {0}
IsTold causes.OutOfMemory = Unit {0}
IsTold causes.Usage = ⊥
IsTold (causes.Shelf script fault) = ⊥
IsTold (causes.Declaration fault) = ⊥
IsTold (causes.Script fault) = ⊥
IsTold (causes.Rack fault) = ⊥
IsTold (causes.Full what number) = ⊥

-- the causes with which a call may end that runs a script, or for whose run the rack gave no disk
abbrev pub IsRan : Cause → Type 0
IsRan (causes.Rack (racks.NotEmpty actor)) = Unit {0}
IsRan (causes.Rack (racks.Failed actor)) = Unit {0}
IsRan (causes.Rack racks.OutOfMemory) = ⊥
IsRan (causes.Full what number) = Unit {0}
IsRan causes.Done = Unit {0}
IsRan causes.Sink = Unit {0}
IsRan causes.OutOfMemory = Unit {0}
IsRan causes.Usage = ⊥
IsRan (causes.Shelf script fault) = ⊥
IsRan (causes.Declaration fault) = ⊥
IsRan (causes.Script fault) = ⊥

-- it isn't told that a limit was reached
abbrev pub IsNotFull : Cause → Type 0
IsNotFull cause = (what : Quantity) (number : ℕ) → cause ≡ causes.Full what number → ⊥

-- What a call leaves that had nothing to do, for this cause: nothing happened, and nothing was printed. Memory may be
-- wanting before the cause is known.
pub record LeavesNothing (why : Cause) (old : Option (List ℕ)) (cause : Cause) (new : Option (List ℕ))
    (h : List Entry) : Type 0 where
  pub due : (cause ≡ why) ⊎ (cause ≡ causes.OutOfMemory)
  pub history : h ≡ []
  pub text : new ≡ old

-- What a call leaves that tells of a declaration: it is accepted, and this is printed.
pub record LeavesWord (decl : Declaration) (old : Option (List ℕ)) (cause : Cause) (new : Option (List ℕ))
    (h : List Entry) : Type 0 where
  pub accepted : IsAccepted decl
  pub due : IsTold cause
  pub history : h ≡ []
  pub text : PrintsBetween (accepted_text_of decl) old cause new

-- each state that is printed of a history is known: every committed operation has its step on one copy
abbrev pub AreStatesKnown : Declaration → List Entry → Type 0
AreStatesKnown decl h = IsSome (replay decl (committed decl h))

-- what is printed of a run: its text, or the summary of the load that it is
abbrev pub output_of : Output → Declaration → Script → List Entry → List ℕ
output_of outputs.Text decl script h = text_of decl script h
output_of (outputs.Summary count seed) decl script h = summary_of decl count seed h

-- What a call leaves that runs a script over a declaration.
pub record LeavesRun (decl : Declaration) (script : Script) (output : Output) (old : Option (List ℕ)) (cause : Cause)
    (new : Option (List ℕ)) (h : List Entry) : Type 0 where
  pub accepted : IsAccepted decl
  pub due : IsRan cause
  -- what happened is a run of the script, in which disks may fail, and actors fall and rise
  pub run : RunWithFalls (IsLawfulWithFalls decl) (fits_of decl) decl script h
  -- where something is printed of it, it is a whole one: each input that was taken has its turn, all that the script
  -- asks was done, and nothing is left to do
  pub whole : OnPrinted cause (IsWholeWithFalls (fits_of decl) decl script h)
  -- where the script has room, and no disk failed of itself, it comes to no limit
  pub room : HasRoom decl script → Spent h 0 → IsNotFull cause
  -- what is printed is the text, or the summary, of just this history
  pub text : PrintsBetween (output_of output decl script h) old cause new
  -- and each state in it is known, where actors keep their records
  pub states : OnPrinted cause (Kept h → AreStatesKnown decl h)
  -- each reply, each commit record and all that sites post is due
  pub replies : Due decl h
  -- the history is atomic, where its actors keep their records
  pub atomic : Kept h → Atomic decl h

abbrev pub Leaves : Caused Work → Option (List ℕ) → Cause → Option (List ℕ) → List Entry → Type 0
Leaves (Err why) old cause new h = LeavesNothing why old cause new h
Leaves (Ok (works.Accept decl)) old cause new h = LeavesWord decl old cause new h
Leaves (Ok (works.Run decl script output)) old cause new h = LeavesRun decl script output old cause new h

-- What a call leaves whose words ask this, over any shelf and rack: there are the answers that the shelf gave, and all
-- is said of these bytes and faults.
pub record LeavesAsked {S R : Type 0} (gives : S → List ℕ → ℕ → Answer → S → Type 0) (files : Option Files)
    (told : R → Option Places) (asked : AskedOf) (before after : S) (first last : R) (old : Option (List ℕ))
    (cause : Cause) (new : Option (List ℕ)) (h : List Entry) : Type 0 where
  pub answers : Answers
  pub given : AreAnswers gives files asked before after answers
  pub leaves : Leaves (work_of asked answers) old cause new h
  pub rack : LeavesRack (folder_of asked) told (work_of asked answers) first last h
  pub blame : (script : Bool) → cause ≡ causes.Shelf script faults.Failed → IsBlamed asked answers script

-- the cause for words that aren't read
abbrev pub cause_of_words : WordsFault → Cause
cause_of_words words_faults.Usage = causes.Usage
cause_of_words words_faults.OutOfMemory = causes.OutOfMemory

-- What a call leaves whose words weren't read: they ask nothing, or memory was wanting. Nothing is taken from the shelf
-- and the rack, nothing happens, and nothing is printed.
pub record LeavesUnread {S R : Type 0} (words : List Text) (before after : S) (first last : R) (old : Option (List ℕ))
    (cause : Cause) (new : Option (List ℕ)) (h : List Entry) : Type 0 where
  pub due : ((cause ≡ causes.Usage) × (asked words ≡ None)) ⊎ (cause ≡ causes.OutOfMemory)
  pub history : h ≡ []
  pub text : new ≡ old
  pub shelf : after ≡ before
  pub rack : last ≡ first

-- What a call leaves, by its words.
abbrev pub LeavesWords : {S R : Type 0} → (S → List ℕ → ℕ → Answer → S → Type 0) → Option Files
    → (R → Option Places) → List Text → S → S → R → R → Option (List ℕ) → Cause → Option (List ℕ) → List Entry
    → Type 0
LeavesWords gives files told words before after first last old cause new h =
    LeavesUnread words before after first last old cause new h
    ⊎ ((a : AskedOf) × (asked words ≡ Some a)
    × LeavesAsked gives files told a before after first last old cause new h)

-- work that can be done: what the words come to is such work
abbrev pub IsRight : Work → Type 0
IsRight (works.Accept decl) = IsAccepted decl
IsRight (works.Run decl script output) = IsRunnable decl script

-- the shelf isn't blamed for a failure
abbrev pub IsNoShelf : Cause → Type 0
IsNoShelf cause = (script : Bool) → cause ≡ causes.Shelf script faults.Failed → ⊥

-- the rack isn't blamed
abbrev pub IsNoRack : Cause → Type 0
IsNoRack cause = (fault : RackFault) → cause ≡ causes.Rack fault → ⊥

-- What a call of the program leaves: by its words, what was handed over for its files, and what standard output took.
use Rattle.std.specs.Prelude.{◌≡◌, ◌⊎◌, ℕ, ◌<◌, ◌-◌, ◌^◌, Bool, List, [], ◌∷◌, ◌++◌, Option, None, Some, Ok, Err}
use Rattle.qc_decl.specs.declared.declaration.Declaration.{Declaration}
use Rattle.qc_fabric.specs.Vocabulary.{IsBelow, before_last_event}
use Rattle.qc_files.specs.Handed.{HandedOver}
use Rattle.qc_msg.specs.Vocabulary.{Entry}
use Rattle.qc_outside.specs.Vocabulary.{Answer}
use Rattle.qc_outside.specs.declared.shelf.ShelfFault.TheVariants as faults
use Rattle.qc_promise.specs.Vocabulary.{Atomic, Due, Kept, Spent}
use Rattle.qc_report.specs.Vocabulary.{status_of}
use Rattle.qc_outside.specs.declared.rack.RackFault.{RackFault}
use Rattle.qc_report.specs.declared.cause.Cause.{Cause}
use Rattle.qc_report.specs.declared.cause.Cause.TheVariants as causes
use Rattle.qc_top.specs.Vocabulary.{AreStatesKnown, Caused, IsBlamed, IsFullCause, IsNoRack, IsRackBlamed, Leaves}
use Rattle.qc_top.specs.Vocabulary.{OnPrinted, decl_file, folder_in, most_declaration_bytes, most_script_bytes}
use Rattle.qc_top.specs.Vocabulary.{script_file, work_of}
use Rattle.qc_top.specs.declared.answers.Answers.{Answers}
use Rattle.qc_top.specs.declared.work.Work.{Work}
use Rattle.qc_top.specs.declared.work.Work.TheVariants as works
use Rattle.qc_words.specs.Vocabulary.{AskedOf, Text, asked}

-- what is handed over for a file, where one is asked for
abbrev pub for_file : Option (List ℕ) → ℕ → Answer → List HandedOver
for_file None limit answer = []
for_file (Some name) limit answer = (name, (limit, answer)) ∷ []

-- the declaration's file, and then the script's
abbrev pub handed_for : AskedOf → Answers → List HandedOver
handed_for asked answers =
    for_file (decl_file asked) most_declaration_bytes answers.decl
    ++ for_file (script_file asked answers.decl) most_script_bytes answers.script

-- A run over disks that keep records: each reply, each commit record and all that sites post is due, the history is
-- atomic, and each state that is printed is known.
pub record IsKeptRun (decl : Declaration) (cause : Cause) (h : List Entry) : Type 0 where
  pub due : Due decl h
  pub atomic : Atomic decl h
  pub states : OnPrinted cause (AreStatesKnown decl h)

-- the same of what there was to do
abbrev pub IsKeptWork : Caused Work → Cause → List Entry → Type 0
IsKeptWork (Err why) cause h = Unit {0}
IsKeptWork (Ok (works.Accept decl)) cause h = Unit {0}
IsKeptWork (Ok (works.Run decl script output)) cause h = IsKeptRun decl cause h

-- A call whose words ask this.
pub record IsCallFor (asked : AskedOf) (handed : List HandedOver) (cause : Cause) (taken : List ℕ) (h : List Entry)
    : Type 0 where
  -- just these bytes and faults were handed over, each for its file and within its limit
  pub answers : Answers
  pub files : handed ≡ handed_for asked answers
  -- and of them all is said: what is to be done, what happened, and that just its text was taken, or a part of it, or
  -- nothing
  pub leaves : Leaves (work_of asked answers) (Some []) cause (Some taken) h
  pub keeps : Kept h → IsKeptWork (work_of asked answers) cause h
  pub blame : (script : Bool) → cause ≡ causes.Shelf script faults.Failed → IsBlamed asked answers script

-- A call whose words weren't read: they ask nothing, or memory was wanting. No file is asked for, nothing happens, and
-- nothing is taken.
pub record IsNoCall (words : List Text) (handed : List HandedOver) (cause : Cause) (taken : List ℕ) (h : List Entry)
    : Type 0 where
  pub files : handed ≡ []
  pub due : ((cause ≡ causes.Usage) × (asked words ≡ None)) ⊎ (cause ≡ causes.OutOfMemory)
  pub history : h ≡ []
  pub text : taken ≡ []

-- A call with these words, over files as they were handed over and an output that took just this.
pub record IsCall (words : List Text) (handed : List HandedOver) (status : ℕ) (cause : Cause) (taken : List ℕ)
    (h : List Entry) : Type 0 where
  pub by_words : IsNoCall words handed cause taken h
      ⊎ ((a : AskedOf) × (asked words ≡ Some a) × IsCallFor a handed cause taken h)
  pub told : status ≡ status_of cause
  -- a limit is told exactly where it was reached
  pub full : IsFullCause cause h
  pub before : IsBelow (before_last_event h)

-- The same over disks in memory: records are kept; what falls by disks there are was armed; and no disk is missing.
pub record IsCallInMemory (words : List Text) (handed : List HandedOver) (status : ℕ) (cause : Cause) (taken : List ℕ)
    (h : List Entry) : Type 0 where
  pub call : IsCall words handed status cause taken h
  pub kept : Kept h
  pub spent : Spent h 0
  pub disks : IsNoRack cause

-- The same over the files of a folder, of which nothing is told but how many of their calls failed: these are the falls
-- by disks that weren't armed, as long as 64 bits count them, and a disk that failed is told only where there are some.
pub record IsCallInFolder (words : List Text) (handed : List HandedOver) (faults status : ℕ) (cause : Cause)
    (taken : List ℕ) (h : List Entry) : Type 0 where
  pub call : IsCall words handed status cause taken h
  pub spent : faults < 2 ^ 64 - 1 → Spent h faults
  pub disks : (fault : RackFault) → cause ≡ causes.Rack fault → IsRackBlamed (folder_in words) None 0 faults fault

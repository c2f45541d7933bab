-- A call over the system's files and a writer: what the shelf handed over is just what all is said of.
use Rattle.std.proofs.Common.{◌≡◌, ◌≤◌, ℕ, List, [], ◌∷◌, ◌++◌, Option, None, Some, Ok, Err, refl, sym, subst, ap, ◌∙◌}
use Rattle.std.proofs.Common.{◌⊎◌, inl, inr, arith}
use Rattle.std.proofs.lemmas.List.{append-nil}
use Rattle.std.specs.Option.{option_map_or}
use Rattle.qc_fabric.specs.Vocabulary.{IsBelow, before_last_event}
use Rattle.qc_files.specs.Outside.{ShelfOfFiles}
use Rattle.qc_msg.specs.Vocabulary.{Entry}
use Rattle.qc_outside.specs.Vocabulary.{Answer, HoldsNoByte, Places, held}
use Rattle.qc_node.specs.Vocabulary.{place_of}
use Rattle.qc_outside.specs.declared.mem_rack.Kept.{Kept as KeptPlace}
use Rattle.qc_outside.specs.declared.rack.RackFault.{RackFault}
use Rattle.qc_outside.specs.declared.rack.RackFault.TheVariants as racks
use Rattle.qc_promise.specs.Vocabulary.{Kept}
use Rattle.qc_report.specs.Vocabulary.{status_of}
use Rattle.qc_report.specs.declared.cause.Cause.{Cause}
use Rattle.qc_report.specs.declared.cause.Cause.TheVariants as causes
use Rattle.qc_top.specs.Vocabulary.{AreStatesKnown, Caused, IsAnswerFor, IsFullCause, IsNoRack, IsRackBlamed, Leaves}
use Rattle.qc_top.specs.Vocabulary.{LeavesAsked, LeavesWords, OnPrinted, decl_file, most_declaration_bytes}
use Rattle.qc_top.specs.Vocabulary.{most_script_bytes, script_file, work_of}
use Rattle.qc_words.specs.Vocabulary.{AskedOf, asked}
use Rattle.qc_top.specs.declared.work.Work.{Work}
use Rattle.qc_top.specs.declared.work.Work.TheVariants as works
use Rattle.quorum.specs.Call.{IsCall, IsCallFor, IsKeptWork, IsNoCall, for_file}

-- what a call of the shelf of files keeps
abbrev pub keeps : ShelfOfFiles → List ℕ → ℕ → Answer → ShelfOfFiles → Type 0
keeps old name limit answer new = new.handed ≡ old.handed ++ (name, (limit, answer)) ∷ []

pub file_handed : (name : Option (List ℕ)) (limit : ℕ) (before after : ShelfOfFiles) (answer : Answer)
    → IsAnswerFor keeps None name limit before after answer → after.handed ≡ before.handed ++ for_file name limit answer
file_handed None limit before after answer given =
    ap (λ (s : ShelfOfFiles). s.handed) given.0 ∙ sym (append-nil before.handed)
file_handed (Some name) limit before after answer given = given.given

-- what is printed of a run is known where records are kept
printed_then : (cause : Cause) (P Q : Type 0) → (P → Q) → OnPrinted cause P → OnPrinted cause Q
printed_then causes.Done P Q then here = then here
printed_then causes.Sink P Q then here = then here
printed_then causes.OutOfMemory P Q then here = tt
printed_then causes.Usage P Q then here = tt
printed_then (causes.Shelf script fault) P Q then here = tt
printed_then (causes.Declaration fault) P Q then here = tt
printed_then (causes.Script fault) P Q then here = tt
printed_then (causes.Rack fault) P Q then here = tt
printed_then (causes.Full what number) P Q then here = tt

kept_work : (work : Caused Work) (cause : Cause) (taken : List ℕ) (h : List Entry)
    → Leaves work (Some []) cause (Some taken) h → Kept h → IsKeptWork work cause h
kept_work (Err why) cause taken h left kept = tt
kept_work (Ok (works.Accept decl)) cause taken h left kept = tt
kept_work (Ok (works.Run decl script output)) cause taken h left kept = record {
  due = left.replies;
  atomic = left.atomic kept;
  states = printed_then cause (Kept h → AreStatesKnown decl h) (AreStatesKnown decl h)
      (λ known. known kept) left.states;
}

-- nobody blames a new rack in memory: none of its places holds a byte, and it counts no fault
pub unblamed : (folder : Option (List ℕ)) (kept : List KeptPlace) → kept ≡ [] → (cause : Cause)
    → ((fault : RackFault) → cause ≡ causes.Rack fault → IsRackBlamed folder (Some (held kept)) 0 0 fault)
    → IsNoRack cause
unblamed folder kept none cause blame = λ fault is. by fault (blame fault is)
  where
    by : (fault : RackFault) → IsRackBlamed folder (Some (held kept)) 0 0 fault → ⊥
    by (racks.NotEmpty actor) blamed =
        blamed.0 (subst (λ (k : List KeptPlace). HoldsNoByte (held k (place_of folder actor))) (sym none) tt)
    by (racks.Failed actor) blamed = let never : 1 ≤ 0 = blamed.0 in omega arith
    by racks.OutOfMemory blamed = blamed.1 refl

module _ {R : Type 0} (told : R → Option Places) (before after : ShelfOfFiles) (first last : R) (cause : Cause)
    (taken : List ℕ) (h : List Entry) where
  call_for : (a : AskedOf) → before.handed ≡ []
      → LeavesAsked keeps None told a before after first last (Some []) cause (Some taken) h
      → IsCallFor a after.handed cause taken h
  call_for a unread left =
      let between : ShelfOfFiles = left.given.between in
      let one : between.handed ≡ for_file (decl_file a) most_declaration_bytes left.answers.decl =
      file_handed (decl_file a) most_declaration_bytes before between left.answers.decl left.given.decl
      ∙ ap (λ l. l ++ for_file (decl_file a) most_declaration_bytes left.answers.decl) unread in
      record {
        answers = left.answers;
        files =
            file_handed (script_file a left.answers.decl) most_script_bytes between after left.answers.script
            left.given.script
            ∙ ap (λ l. l ++ for_file (script_file a left.answers.decl) most_script_bytes left.answers.script) one;
        leaves = left.leaves;
        keeps = kept_work (work_of a left.answers) cause taken h left.leaves;
        blame = left.blame;
      }

  -- by whether the words were read
  by_words : (words : List (List ℕ)) → before.handed ≡ []
      → LeavesWords keeps None told words before after first last (Some []) cause (Some taken) h
      → IsNoCall words after.handed cause taken h
      ⊎ ((a : AskedOf) × (asked words ≡ Some a) × IsCallFor a after.handed cause taken h)
  by_words words unread (inl left) = inl (record {
    files = ap (λ (s : ShelfOfFiles). s.handed) left.shelf ∙ unread;
    due = left.due;
    history = left.history;
    text = ap (λ (o : Option (List ℕ)). option_map_or (λ text. text) o []) left.text;
  })
  by_words words unread (inr (a, is, left)) = inr (a, is, call_for a unread left)

  pub is_call : (words : List (List ℕ)) (old : List ℕ) (status : ℕ) → before.handed ≡ [] → old ≡ []
      → LeavesWords keeps None told words before after first last (Some old) cause (Some taken) h
      → status ≡ status_of cause → IsFullCause cause h → IsBelow (before_last_event h)
      → IsCall words after.handed status cause taken h
  is_call words old status unread unwritten left told_is full below =
      let fresh : LeavesWords keeps None told words before after first last (Some []) cause (Some taken) h =
      subst (λ l. LeavesWords keeps None told words before after first last (Some l) cause (Some taken) h)
      unwritten left in
      record { by_words = by_words words unread fresh; told = told_is; full = full; before = below }

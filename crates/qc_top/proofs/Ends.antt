-- How a call ends: with a run of its script and its text, with a word on its declaration, or with a cause that is due.
use Rattle.std.proofs.Common.{◌≡◌, ◌⊎◌, ◌∙◌, ℕ, false, List, [], Option, Some, None, Result, Ok, Err, inl, inr, refl}
use Rattle.std.proofs.Common.{sym, subst, arith}
use Rattle.std.specs.Prelude.{replicate}
use Rattle.qc_core.specs.Vocabulary.{IsLawfulWithFalls}
use Rattle.laws_due.specs.Vocabulary.{IsWholeWithFalls}
use Rattle.qc_decl.specs.Vocabulary.{actors}
use Rattle.qc_decl.specs.declared.declaration.Declaration.{Declaration}
use Rattle.qc_msg.specs.Vocabulary.{Entry}
use Rattle.qc_node.specs.Vocabulary.{fits_of}
use Rattle.qc_outside.specs.declared.rack.RackFault.{RackFault}
use Rattle.qc_outside.specs.declared.rack.RackFault.TheVariants as racks
use Rattle.qc_report.specs.declared.cause.Cause.{Cause}
use Rattle.qc_report.specs.declared.cause.Cause.TheVariants as causes
use Rattle.qc_outside.specs.declared.shelf.ShelfFault.TheVariants as faults
use Rattle.qc_promise.specs.Vocabulary.{Kept}
use Rattle.qc_script.specs.Vocabulary.{RunWithFalls, begins}
use Rattle.qc_script.specs.declared.script.Script.{Script}
use Rattle.qc_top.proofs.Right.{work_is}
use Rattle.qc_fabric.specs.Vocabulary.{IsBelow}
use Rattle.qc_top.proofs.Room.{room_left}
use Rattle.qc_top.proofs.Runs.{run_atomic, run_due, run_known}
use Rattle.qc_top.specs.Vocabulary.{AreStatesKnown, Caused, Gives, IsFullCause, IsNoRack, IsNoShelf, IsRan, IsRefusal}
use Rattle.qc_top.specs.Vocabulary.{IsRight, IsRunnable, IsTold, Leaves, LeavesRun, OnPrinted, PrintsBetween}
use Rattle.qc_top.specs.Vocabulary.{cause_of_rack, cause_of_words, output_of, work_of}
use Rattle.qc_words.specs.Vocabulary.{AskedOf, IsTold as IsToldOf, asked}
use Rattle.qc_words.specs.declared.fault.WordsFault.{WordsFault}
use Rattle.qc_words.specs.declared.fault.WordsFault.TheVariants as words_faults
use Rattle.qc_top.specs.declared.work.Output.{Output}
use Rattle.qc_top.specs.declared.answers.Answers.{Answers}
use Rattle.qc_top.specs.declared.work.Work.{Work}
use Rattle.qc_top.specs.declared.work.Work.TheVariants as works

abbrev pub the_err : Cause → Result Work Cause
the_err cause = Err cause

-- the empty history is a run of every script
empty_run : (decl : Declaration) (script : Script) → RunWithFalls (IsLawfulWithFalls decl) (fits_of decl) decl script []
empty_run decl script = (replicate (actors decl) false, begins)

-- what holds in each case holds where a text is printed
on_printed : (cause : Cause) (P : Type 0) → P → OnPrinted cause P
on_printed causes.Done P here = here
on_printed causes.Sink P here = here
on_printed causes.OutOfMemory P here = tt
on_printed causes.Usage P here = tt
on_printed (causes.Shelf script fault) P here = tt
on_printed (causes.Declaration fault) P here = tt
on_printed (causes.Script fault) P here = tt
on_printed (causes.Rack fault) P here = tt
on_printed (causes.Full what number) P here = tt

-- limits, where nothing ran

below_at_first : (h : List Entry) → h ≡ [] → IsBelow h
below_at_first h none =
    subst IsBelow (sym none) (record { steps = omega arith; operations = omega arith; carried = omega arith })

pub unbegun_full : (fault : RackFault) (h : List Entry) → h ≡ [] → IsFullCause (cause_of_rack fault) h
unbegun_full (racks.NotEmpty actor) h none = none
unbegun_full (racks.Failed actor) h none = none
unbegun_full racks.OutOfMemory h none = below_at_first h none

-- what a run leaves
pub leaves_run : (decl : Declaration) (script : Script) (output : Output) (h : List Entry) (old : Option (List ℕ))
    (cause : Cause) (new : Option (List ℕ)) → IsRunnable decl script
    → RunWithFalls (IsLawfulWithFalls decl) (fits_of decl) decl script h → IsRan cause
    → OnPrinted cause (IsWholeWithFalls (fits_of decl) decl script h) → IsFullCause cause h
    → PrintsBetween (output_of output decl script h) old cause new → LeavesRun decl script output old cause new h
leaves_run decl script output h old cause new ready run ran whole full text = record {
  accepted = ready.accepted;
  due = ran;
  run = run;
  whole = whole;
  room = λ room spent. room_left decl script ready h run room spent cause full;
  text = text;
  states = on_printed cause (Kept h → AreStatesKnown decl h) (run_known decl script ready h run);
  replies = run_due decl script ready h run;
  atomic = run_atomic decl script ready h run;
}

-- for want of memory nothing is printed
pub want_between : (text : List ℕ) (taken : Option (List ℕ)) → PrintsBetween text taken causes.OutOfMemory taken
want_between text None = tt
want_between text (Some old) = refl

leaves_want : (work : Caused Work) (taken : Option (List ℕ)) → ((w : Work) → work ≡ Ok w → IsRight w)
    → Leaves work taken causes.OutOfMemory taken []
leaves_want (Err why) taken right = record { due = inr refl; history = refl; text = refl }
leaves_want (Ok (works.Accept decl)) taken right = record {
  accepted = right (works.Accept decl) refl;
  due = tt;
  history = refl;
  text = want_between _ taken;
}
leaves_want (Ok (works.Run decl script output)) taken right =
    leaves_run decl script output [] taken causes.OutOfMemory taken (right (works.Run decl script output) refl)
    (empty_run decl script) tt tt (below_at_first [] refl) (want_between (output_of output decl script []) taken)

-- the run that didn't begin, since the rack gave no disk, or for want of memory

unbegun_ran : (fault : RackFault) → IsRan (cause_of_rack fault)
unbegun_ran (racks.NotEmpty actor) = tt
unbegun_ran (racks.Failed actor) = tt
unbegun_ran racks.OutOfMemory = tt

unbegun_printed : (fault : RackFault) (P : Type 0) → OnPrinted (cause_of_rack fault) P
unbegun_printed (racks.NotEmpty actor) P = tt
unbegun_printed (racks.Failed actor) P = tt
unbegun_printed racks.OutOfMemory P = tt

unbegun_between : (fault : RackFault) (text : List ℕ) (taken : Option (List ℕ))
    → PrintsBetween text taken (cause_of_rack fault) taken
unbegun_between (racks.NotEmpty actor) text None = tt
unbegun_between (racks.NotEmpty actor) text (Some old) = refl
unbegun_between (racks.Failed actor) text None = tt
unbegun_between (racks.Failed actor) text (Some old) = refl
unbegun_between racks.OutOfMemory text taken = want_between text taken

pub leaves_unbegun : (decl : Declaration) (script : Script) (output : Output) (taken : Option (List ℕ))
    (fault : RackFault) (cause : Cause) (h : List Entry) → IsRunnable decl script → h ≡ [] → cause ≡ cause_of_rack fault
    → LeavesRun decl script output taken cause taken h
leaves_unbegun decl script output taken fault cause h ready none is =
    subst (λ (c : Cause). LeavesRun decl script output taken c taken h) (sym is)
    (subst (λ (k : List Entry). LeavesRun decl script output taken (cause_of_rack fault) taken k) (sym none)
    (leaves_run decl script output [] taken (cause_of_rack fault) taken ready (empty_run decl script)
    (unbegun_ran fault) (unbegun_printed fault (IsWholeWithFalls (fits_of decl) decl script []))
    (unbegun_full fault [] refl)
    (unbegun_between fault (output_of output decl script []) taken)))

-- nothing was to be done, for this cause
pub leaves_refused : (asked : AskedOf) (answers : Answers) (taken : Option (List ℕ)) (cause : Cause)
    → Gives (work_of asked answers) (the_err cause) → Leaves (work_of asked answers) taken cause taken []
leaves_refused asked answers taken cause (inl is) =
    subst (λ (w : Caused Work). Leaves w taken cause taken []) (sym is)
    (record { due = inl refl; history = refl; text = refl })
leaves_refused asked answers taken cause (inr wanting) =
    subst (λ (c : Cause). Leaves (work_of asked answers) taken c taken []) (sym wanting)
    (leaves_want (work_of asked answers) taken (λ w is. work_is asked answers w is))

-- words that weren't read

pub unread_due : (words : List (List ℕ)) (fault : WordsFault) (cause : Cause) → cause ≡ cause_of_words fault
    → IsToldOf fault (asked words)
    → ((cause ≡ causes.Usage) × (asked words ≡ None)) ⊎ (cause ≡ causes.OutOfMemory)
unread_due words words_faults.Usage cause is told = inl (is, told)
unread_due words words_faults.OutOfMemory cause is told = inr is

pub unread_no_rack : (fault : WordsFault) (cause : Cause) → cause ≡ cause_of_words fault → IsNoRack cause
unread_no_rack words_faults.Usage cause is =
    λ rack same. absurd (let both : causes.Usage ≡ causes.Rack rack = sym is ∙ same in let never : ⊥ = cc in never)
unread_no_rack words_faults.OutOfMemory cause is =
    λ rack same. absurd (let both : causes.OutOfMemory ≡ causes.Rack rack = sym is
    ∙ same in let never : ⊥ = cc in never)

pub unread_no_shelf : (fault : WordsFault) (cause : Cause) → cause ≡ cause_of_words fault → IsNoShelf cause
unread_no_shelf words_faults.Usage cause is =
    λ script same. absurd (let both : causes.Usage ≡ causes.Shelf script faults.Failed = sym is
    ∙ same in let never : ⊥ = cc in never)
unread_no_shelf words_faults.OutOfMemory cause is =
    λ script same. absurd (let both : causes.OutOfMemory ≡ causes.Shelf script faults.Failed = sym is
    ∙ same in let never : ⊥ = cc in never)

pub unread_no_sink : (fault : WordsFault) (cause : Cause) → cause ≡ cause_of_words fault → cause ≡ causes.Sink → ⊥
unread_no_sink words_faults.Usage cause is same = let both : causes.Usage ≡ causes.Sink = sym is ∙ same in cc
unread_no_sink words_faults.OutOfMemory cause is same = let both : causes.OutOfMemory ≡ causes.Sink = sym is
    ∙ same in cc

pub unread_usage : (words : List (List ℕ)) (fault : WordsFault) (cause : Cause) → cause ≡ cause_of_words fault
    → IsToldOf fault (asked words) → cause ≡ causes.Usage → asked words ≡ None
unread_usage words words_faults.Usage cause is told same = told
unread_usage words words_faults.OutOfMemory cause is told same =
    absurd (let both : causes.OutOfMemory ≡ causes.Usage = sym is ∙ same in let never : ⊥ = cc in never)

-- the causes with which words were read

pub told_no_usage : (cause : Cause) → IsTold cause → cause ≡ causes.Usage → ⊥
told_no_usage cause told is = subst IsTold is told

pub ran_no_usage : (cause : Cause) → IsRan cause → cause ≡ causes.Usage → ⊥
ran_no_usage cause ran is = subst IsRan is ran

pub refused_no_usage : (cause : Cause) → IsRefusal cause → cause ≡ causes.Usage → ⊥
refused_no_usage cause refusal is = subst IsRefusal is refusal

-- limits by the causes with which nothing ran

pub told_full : (cause : Cause) (h : List Entry) → IsTold cause → h ≡ [] → IsFullCause cause h
told_full causes.Done h told none = below_at_first h none
told_full causes.Sink h told none = below_at_first h none
told_full (causes.Shelf script fault) h told none = none
told_full (causes.Declaration fault) h told none = none
told_full (causes.Script fault) h told none = none
told_full (causes.Rack fault) h told none = none
told_full causes.Usage h told none = none
told_full causes.OutOfMemory h told none = below_at_first h none
told_full (causes.Full what number) h told none = absurd told

pub refused_full : (cause : Cause) (h : List Entry) → IsRefusal cause → h ≡ [] → IsFullCause cause h
refused_full (causes.Shelf script fault) h refusal none = none
refused_full (causes.Declaration fault) h refusal none = none
refused_full (causes.Script fault) h refusal none = none
refused_full causes.Usage h refusal none = none
refused_full causes.OutOfMemory h refusal none = below_at_first h none
refused_full causes.Done h refusal none = absurd refusal
refused_full causes.Sink h refusal none = absurd refusal
refused_full (causes.Rack fault) h refusal none = absurd refusal
refused_full (causes.Full what number) h refusal none = absurd refusal

pub unread_full : (fault : WordsFault) (cause : Cause) (h : List Entry) → cause ≡ cause_of_words fault → h ≡ []
    → IsFullCause cause h
unread_full words_faults.Usage cause h is none = subst (λ (c : Cause). IsFullCause c h) (sym is) none
unread_full words_faults.OutOfMemory cause h is none =
    subst (λ (c : Cause). IsFullCause c h) (sym is) (below_at_first h none)

-- the causes with which the rack isn't blamed: those that tell, and those for which there is nothing to do

pub told_no_rack : (cause : Cause) → IsTold cause → IsNoRack cause
told_no_rack cause told = λ fault is. absurd (subst IsTold is told)

pub refused_no_rack : (cause : Cause) → IsRefusal cause → IsNoRack cause
refused_no_rack cause refusal = λ fault is. absurd (subst IsRefusal is refusal)

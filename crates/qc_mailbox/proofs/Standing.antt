-- What stands at each event of a run with falls, in the inbox of an actor b; and how each event keeps it.
use Rattle.std.proofs.Common.{◌≡◌, ℕ, Bool, true, false, not, if◌then◌else◌, List, [], ◌∷◌, ◌++◌, length, Option, Some}
use Rattle.std.proofs.Common.{None, refl, ap, sym, subst, ◌∙◌}
use Rattle.std.specs.Prelude.{drop, set, slice_get}
use Rattle.std.specs.Option.{option_map_or}
use Rattle.std.proofs.lemmas.List.{length-set}
use Rattle.std.proofs.lemmas.List.Sums.{fold-append}
use Rattle.qc_link.specs.Vocabulary.{most_actors}
use Rattle.qc_msg.specs.declared.step.Control.{Control}
use Rattle.qc_msg.specs.declared.step.Fall.{Fall}
use Rattle.qc_msg.specs.declared.step.Fall.TheVariants as causes
use Rattle.qc_msg.specs.declared.step.Step.{Step}
use Rattle.qc_msg.specs.declared.turn.Appended.TheVariants.{Failed, Stopped}
use Rattle.qc_msg.specs.declared.turn.Turn.{Turn}
use Rattle.qc_msg.specs.Vocabulary.{Entry, IsByDisk, by, deeds, fell, posted_as, sents, told}
use Rattle.qc_msg.proofs.GrownMail.{by-append}
use Rattle.qc_script.specs.Vocabulary.{Inbox, acting, actor_fell, commands_for, control_acted, does_nothing, fell_by}
use Rattle.qc_script.specs.Vocabulary.{inbox_at, is_by_line, is_up, opened, phase_begun, wrote_record}
use Rattle.qc_script.specs.declared.script.PhaseLines.{PhaseLines}
use Rattle.qc_script.specs.declared.script.Script.{Script}
use Rattle.qc_script.proofs.InboxesSend.{opened_keeps}
use Rattle.qc_mailbox.specs.Vocabulary.{IsEmptied, is_down}
use Rattle.qc_mailbox.proofs.Downs.{AreTied, tied_on, up_other, up_same}
use Rattle.qc_mailbox.proofs.Emptied.{Passes, after, fell_controls, fell_emptied, fell_up, opened_emptied, sents_pass}
use Rattle.qc_mailbox.proofs.Emptied.{told_passes}

-- the first line that is left isn't one that acts without a step
abbrev pub IsSettled : List Bool → List Control → Type 0
IsSettled up [] = Unit {0}
IsSettled up (line ∷ lines) = does_nothing up line ≡ false

abbrev pub NoneOpen : List Bool → Type 0
NoneOpen inputs = (a : ℕ) → slice_get inputs a ≡ Some true → ⊥

-- while a line is left, no input is open
abbrev pub ClosedWhile : List Control → List Bool → Type 0
ClosedWhile [] inputs = Unit {0}
ClosedWhile (line ∷ lines) inputs = NoneOpen inputs

pub record Stands (b : ℕ) (h : List Entry) (inputs : List Bool) (i : Inbox) : Type 0 where
  pub long : length i.up ≡ most_actors
  pub settled : IsSettled i.up i.controls
  pub closed : ClosedWhile i.controls inputs
  pub tied : AreTied i.up h
  pub emptied : is_up i.up b ≡ false → IsEmptied i

settles : (up : List Bool) (lines : List Control) → IsSettled up (acting up lines)
settles up [] = tt
settles up (line ∷ lines) = at (does_nothing up line) refl (settles up lines)
  where
    at : (t : Bool) → does_nothing up line ≡ t → IsSettled up (acting up lines)
        → IsSettled up (if t then acting up lines else line ∷ lines)
    at true is rest = rest
    at false is rest = is

pub closes : (lines : List Control) (inputs : List Bool) → NoneOpen inputs → ClosedWhile lines inputs
closes [] inputs none = tt
closes (line ∷ lines) inputs none = none

pub none_left : (lines : List Control) (inputs : List Bool) (a : ℕ) → ClosedWhile lines inputs
    → slice_get inputs a ≡ Some true → lines ≡ []
none_left [] inputs a closed is = refl
none_left (line ∷ lines) inputs a closed is = absurd (closed a is)

-- a line has acted, or a phase began

module _ (b : ℕ) where
  pub opened_up : (i : Inbox) → (opened b i).up ≡ i.up
  opened_up i = (opened_keeps b (acting i.up i.controls) (record i { controls = acting i.up i.controls })).up

  pub opened_controls : (i : Inbox) → (opened b i).controls ≡ acting i.up i.controls
  opened_controls i = (opened_keeps b (acting i.up i.controls)
      (record i { controls = acting i.up i.controls })).controls

  pub opened_settled : (i : Inbox) → IsSettled (opened b i).up (opened b i).controls
  opened_settled i =
      subst (λ (up : List Bool). IsSettled up (opened b i).controls) (sym (opened_up i))
      (subst (λ (lines : List Control). IsSettled i.up lines) (sym (opened_controls i)) (settles i.up i.controls))

  -- an inbox that opens, where no input is open
  pub opens : (h : List Entry) (inputs : List Bool) (i : Inbox) → length i.up ≡ most_actors → NoneOpen inputs
      → AreTied i.up h → (is_up i.up b ≡ false → IsEmptied i) → Stands b h inputs (opened b i)
  opens h inputs i long none tied emptied = record {
    long = ap (λ (up : List Bool). length up) (opened_up i) ∙ long;
    settled = opened_settled i;
    closed = closes (opened b i).controls inputs none;
    tied = subst (λ (up : List Bool). AreTied up h) (sym (opened_up i)) tied;
    emptied = λ down. (let before : is_up i.up b ≡ false = ap (λ (up : List Bool). is_up up b) (sym (opened_up i))
        ∙ down in opened_emptied b i before (emptied before));
  }

  pub acts : (h : List Entry) (inputs : List Bool) (i : Inbox) → length i.up ≡ most_actors → NoneOpen inputs
      → AreTied i.up h → (is_up i.up b ≡ false → IsEmptied i) → Stands b h inputs (control_acted b i)
  acts h inputs i long none tied emptied =
      opens h inputs (record i { controls = drop 1 i.controls }) long none tied
      (λ down. record {
        copies = (emptied down).copies;
        unanswered = (emptied down).unanswered;
        lost = (emptied down).lost;
      })

  pub begins_phase : (h : List Entry) (inputs : List Bool) (i : Inbox) (o : Option PhaseLines)
      → length i.up ≡ most_actors → NoneOpen inputs → AreTied i.up h → IsSettled i.up i.controls
      → (is_up i.up b ≡ false → IsEmptied i)
      → Stands b h inputs (option_map_or (phase_begun b i) o i)
  begins_phase h inputs i None long none tied settled emptied =
      record { long = long; settled = settled; closed = closes i.controls inputs none; tied = tied; emptied = emptied }
  begins_phase h inputs i (Some p) long none tied settled emptied =
      opens h inputs (record i {
        opening = i.opening ++ i.late;
        late = [];
        controls = p.controls;
        commands = i.commands ++ commands_for b p.commands;
      }) long none tied
      (λ down. record {
        copies = (emptied down).copies;
        unanswered = (emptied down).unanswered;
        lost = (emptied down).lost;
      })

-- an actor r falls

module _ (script : Script) (b r : ℕ) (h : List Entry) (xs : List Step) (i j : Inbox) (passes : Passes script b r i j)
    (long : length i.up ≡ most_actors) (tied : AreTied i.up h)
    (emptied : is_up i.up b ≡ false → IsEmptied i) (down : is_down (deeds r [] (h ++ by r xs)) ≡ true) where
  fallen_up : (actor_fell b j r).up ≡ set i.up r false
  fallen_up = fell_up b j r ∙ ap (λ (up : List Bool). set up r false) passes.up

  pub fallen_long : length (actor_fell b j r).up ≡ most_actors
  fallen_long = ap (λ (up : List Bool). length up) fallen_up ∙ (length-set i.up r false ∙ long)

  pub fallen_tied : AreTied (actor_fell b j r).up (h ++ by r xs)
  fallen_tied =
      subst (λ (up : List Bool). AreTied up (h ++ by r xs)) (sym fallen_up)
      (tied_on i.up (set i.up r false) h r xs tied (λ a other. up_other i.up r a false other)
      (λ within. up_same i.up r false long within ∙ sym (ap not down)))

  pub fallen_emptied : is_up (actor_fell b j r).up b ≡ false → IsEmptied (actor_fell b j r)
  fallen_emptied now =
      fell_emptied b j r (λ other. (let before : is_up i.up b ≡ false = sym (up_other i.up r b false other)
      ∙ (ap (λ (up : List Bool). is_up up b) (sym fallen_up) ∙ now) in
      passes.emptied other before (emptied before)))

  -- in a post, while no line is left
  pub falls_in_post : (inputs : List Bool) → i.controls ≡ [] → Stands b (h ++ by r xs) inputs (actor_fell b j r)
  falls_in_post inputs none =
      let left : (actor_fell b j r).controls ≡ [] = fell_controls b j r ∙ (passes.controls ∙ none) in
      record {
        long = fallen_long;
        settled = subst (λ (lines : List Control). IsSettled (actor_fell b j r).up lines) (sym left) tt;
        closed = subst (λ (lines : List Control). ClosedWhile lines inputs) (sym left) tt;
        tied = fallen_tied;
        emptied = fallen_emptied;
      }

  -- by a line
  pub falls_by_line : (inputs : List Bool) → NoneOpen inputs
      → Stands b (h ++ by r xs) inputs (control_acted b (actor_fell b j r))
  falls_by_line inputs none = acts b (h ++ by r xs) inputs
      (actor_fell b j r) fallen_long none fallen_tied fallen_emptied

-- the steps of posts

module _ (script : Script) (b r : ℕ) where
  passes_both : (i j k : Inbox) → Passes script b r i j → Passes script b r j k → Passes script b r i k
  passes_both i j k first second = record {
    up = second.up ∙ first.up;
    controls = second.controls ∙ first.controls;
    emptied = λ other down is. second.emptied other (ap (λ (up : List Bool). is_up up b) first.up ∙ down)
        (first.emptied other down is);
  }

  after_both : (i : Inbox) (xs ys : List Step)
      → after script b i (by r (xs ++ ys)) ≡ after script b (after script b i (by r xs)) (by r ys)
  after_both i xs ys =
      ap (λ (k : List Entry). after script b i k) (by-append r xs ys)
      ∙ fold-append (λ (i : Inbox) (e : Entry). inbox_at script b i e.actor e.step) i (by r xs) (by r ys)

  pub record Goes (i : Inbox) (xs : List Step) : Type 0 where
    pub inbox : Inbox
    pub passes : Passes script b r i inbox
    pub is : after script b i (by r xs) ≡ inbox

  pub tail_goes : (i : Inbox) (n : ℕ) (turn : Turn) → Goes i (sents n turn.sends ++ told turn.told)
  tail_goes i n turn = record {
    inbox = after script b (after script b i (by r (sents n turn.sends))) (by r (told turn.told));
    passes = passes_both i (after script b i (by r (sents n turn.sends))) _ (sents_pass script b r n i turn.sends)
        (told_passes script b r (after script b i (by r (sents n turn.sends))) turn.told);
    is = after_both i (sents n turn.sends) (told turn.told);
  }

  -- a post whose record isn't written ends with a fall
  pub record Breaks (i : Inbox) (xs : List Step) : Type 0 where
    pub inbox : Inbox
    pub passes : Passes script b r i inbox
    pub cause : Fall
    pub by_disk : IsByDisk cause
    pub is : after script b i (by r xs) ≡ fell_by b inbox r cause

  pub failed_breaks : (i : Inbox) (n : ℕ) (turn : Turn) → Breaks i (posted_as Failed n turn)
  failed_breaks i n turn =
      let first : Inbox = after script b i (by r (sents n turn.failed_sends)) in
      record {
        inbox = after script b first (by r (told turn.failed_told));
        passes = passes_both i first _ (sents_pass script b r n i turn.failed_sends)
            (told_passes script b r first turn.failed_told);
        cause = causes.Disk;
        by_disk = tt;
        is = after_both i (sents n turn.failed_sends) (told turn.failed_told ++ fell causes.Disk turn.write)
            ∙ after_both first (told turn.failed_told) (fell causes.Disk turn.write);
      }

  pub stopped_breaks : (i : Inbox) (n : ℕ) (turn : Turn) → Breaks i (posted_as Stopped n turn)
  stopped_breaks i n turn = record {
    inbox = after script b i (by r (told turn.failed_told));
    passes = told_passes script b r i turn.failed_told;
    cause = causes.Stop;
    by_disk = tt;
    is = after_both i (told turn.failed_told) (fell causes.Stop turn.write);
  }

-- whether such a fall is a line's

pub disk_by_line : (up : Bool) (cause : Fall) → IsByDisk cause → is_by_line up cause ≡ not up
disk_by_line up causes.Script disk = absurd disk
disk_by_line up causes.Stop disk = refl
disk_by_line up causes.Disk disk = refl

pub fell_in_post : (b : ℕ) (j : Inbox) (r : ℕ) (cause : Fall) → IsByDisk cause → is_up j.up r ≡ true
    → fell_by b j r cause ≡ actor_fell b j r
fell_in_post b j r cause disk up =
    ap (λ (t : Bool). if t then control_acted b (actor_fell b j r) else actor_fell b j r)
    (disk_by_line (is_up j.up r) cause disk ∙ ap not up)

pub fell_by_line : (b : ℕ) (j : Inbox) (r : ℕ) (cause : Fall) → IsByDisk cause → is_up j.up r ≡ false
    → fell_by b j r cause ≡ control_acted b (actor_fell b j r)
fell_by_line b j r cause disk down =
    ap (λ (t : Bool). if t then control_acted b (actor_fell b j r) else actor_fell b j r)
    (disk_by_line (is_up j.up r) cause disk ∙ ap not down)

pub wrote_where_up : (b : ℕ) (i : Inbox) (r : ℕ) → is_up i.up r ≡ true → wrote_record b i r ≡ i
wrote_where_up b i r up = ap (λ (t : Bool). if t then i else control_acted b (record i { up = set i.up r true })) up

pub wrote_where_down : (b : ℕ) (i : Inbox) (r : ℕ) → is_up i.up r ≡ false
    → wrote_record b i r ≡ control_acted b (record i { up = set i.up r true })
wrote_where_down b i r down = ap (λ (t : Bool). if t then i else control_acted b (record i { up = set i.up r true }))
    down

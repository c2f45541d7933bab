-- A commit record is in a client's journal or pending: a post makes known what was known, or its turn's record.
use Rattle.std.proofs.Common.{[], ◌≡◌, ◌⊎◌, ◌==◌, ℕ, Bool, true, false, List, ◌∷◌, ◌++◌, inl, inr, Option, Some}
use Rattle.std.proofs.Common.{None, option_to_list, refl, sym, ap, subst}
use Rattle.qc_core.specs.Vocabulary.{IsLawfulWithFalls}
use Rattle.qc_decl.specs.Vocabulary.{IsAccepted}
use Rattle.qc_decl.specs.declared.declaration.Declaration.{Declaration}
use Rattle.qc_entry.specs.declared.record.Commit.{Commit as CommitRecord}
use Rattle.laws_votes.specs.Vocabulary.{AreWriting}
use Rattle.qc_list.specs.Vocabulary.{In}
use Rattle.qc_msg.specs.Vocabulary.{Entry, by, own, posted_as, sents, step_of, told}
use Rattle.qc_msg.specs.Steps as post
use Rattle.qc_msg.specs.declared.record.Record.{Record}
use Rattle.qc_msg.specs.declared.record.Record.TheVariants.{Commit}
use Rattle.qc_msg.specs.declared.reply.Reply.TheVariants.{Unknown}
use Rattle.qc_msg.specs.declared.step.Control.{Control}
use Rattle.qc_msg.specs.declared.step.Control.TheVariants as controls
use Rattle.qc_msg.specs.declared.step.Fall.TheVariants as causes
use Rattle.qc_msg.specs.declared.step.Input.{Input}
use Rattle.qc_msg.specs.declared.step.Input.TheVariants as given
use Rattle.qc_msg.specs.declared.step.Step.{Step}
use Rattle.qc_msg.specs.declared.step.Step.TheVariants as steps
use Rattle.qc_msg.specs.declared.turn.Appended.{Appended}
use Rattle.qc_msg.specs.declared.turn.Appended.TheVariants as ends
use Rattle.qc_msg.specs.declared.turn.Turn.{Turn}
use Rattle.qc_promise.specs.Vocabulary.{IsGivenBack, Journal, journal_of, journal_with}
use Rattle.laws_reach.proofs.Growing.{ended_journal}
use Rattle.qc_script.specs.Vocabulary.{IsScriptFor, RunsWithFalls, controller_step}
use Rattle.qc_script.specs.declared.script.Script.{Script}
use Rattle.laws_reach.proofs.Committing.{journal_next}
use Rattle.qc_list.proofs.Members.{In-either}

-- it is in the journal, or pending there
abbrev pub IsKnown : CommitRecord → Journal → Type 0
IsKnown c j = In (Commit c) j.records ⊎ (j.pending ≡ Some (Commit c))

only : (o : Option Record) (c : CommitRecord) → In (Commit c) (option_to_list o) → o ≡ Some (Commit c)
only None c among = absurd among
only (Some r) c (inl same) = ap Some (sym same)
only (Some r) c (inr never) = absurd never

-- what a post makes known was known before, or is the turn's record
pub posted_known : (c : CommitRecord) (end : Appended) (write : Option Record) (j : Journal)
    → IsKnown c (ended_journal end write j) → IsKnown c j ⊎ (write ≡ Some (Commit c))
posted_known c ends.Done write j (inl among) =
    elim (In-either (Commit c) j.records (option_to_list write) among)
    [ inl old ↦ inl (inl old) | inr new ↦ inr (only write c new) ]
posted_known c ends.Done write j (inr is) = inl (inr is)
posted_known c ends.Failed None j known = inl known
posted_known c ends.Failed (Some r) j (inl among) = inl (inl among)
posted_known c ends.Failed (Some r) j (inr is) = inr is
posted_known c ends.Stopped None j known = inl known
posted_known c ends.Stopped (Some r) j (inl among) = inl (inl among)
posted_known c ends.Stopped (Some r) j (inr is) = inr is

-- what is given back was known
pub back_known : (c : CommitRecord) (j : Journal) (given : List Record) → IsGivenBack j given → In (Commit c) given
    → IsKnown c j
back_known c j given (inl same) among = inl (subst (In (Commit c)) same among)
back_known c j given (inr more) among =
    elim (In-either (Commit c) j.records (option_to_list j.pending) (subst (In (Commit c)) more among))
    [ inl old ↦ inl old | inr new ↦ inr (only j.pending c new) ]

pub given_known : (c : CommitRecord) (given : List Record) → IsKnown c (record { records = given; pending = None })
    → In (Commit c) given
given_known c given (inl among) = among
given_known c given (inr is) = absurd (let never : ⊥ = cc in never)

-- steps that put nothing into a journal

pub taken_same : (c : CommitRecord) (j : Journal) (g : Input) → IsKnown c (journal_with j (step_of g)) → IsKnown c j
taken_same c j (given.Called command) known = known
taken_same c j (given.Got envelope) known = known
taken_same c j (given.Lost number) known = known

pub controlled_same : (c : CommitRecord) (j : Journal) (line : Control) (step : Step) → controller_step line ≡ Some step
    → IsKnown c (journal_with j step) → IsKnown c j
controlled_same c j (controls.Phase k) step is known = absurd (let never : ⊥ = cc in never)
controlled_same c j (controls.Cut a b) step is known =
    subst (λ (x : Step). IsKnown c (journal_with j x)) (let same : step ≡ steps.Cut a b = cc in same) known
controlled_same c j (controls.Heal a b) step is known =
    subst (λ (x : Step). IsKnown c (journal_with j x)) (let same : step ≡ steps.Heal a b = cc in same) known
controlled_same c j (controls.Armed actor kind at) step is known =
    subst (λ (x : Step). IsKnown c (journal_with j x)) (let same : step ≡ steps.Armed actor kind at = cc in same) known
controlled_same c j (controls.Crash a) step is known = absurd (let never : ⊥ = cc in never)
controlled_same c j (controls.Restart a) step is known = absurd (let never : ⊥ = cc in never)

-- an entry of such a step
pub entry_same : (c : CommitRecord) (a : ℕ) (h : List Entry) (e : Entry)
    → ((j : Journal) → IsKnown c (journal_with j e.step) → IsKnown c j) → IsKnown c (journal_of (own a (h ++ e ∷ [])))
    → IsKnown c (journal_of (own a h))
entry_same c a h e silent known = by (e.actor == a) refl
  where
    by : (t : Bool) → (e.actor == a) ≡ t → IsKnown c (journal_of (own a h))
    by true same = silent (journal_of (own a h)) (subst (IsKnown c) (journal_next a h e true same) known)
    by false other = subst (IsKnown c) (journal_next a h e false other) known

-- a commit turn's steps, for each end of its record

pub first_post : (a n : ℕ) (turn : Turn) (c : CommitRecord) (end : Appended) → turn.write ≡ Some (Commit c)
    → turn.failed_sends ≡ [] → turn.failed_told ≡ Some Unknown
    → (xs : List Step) × (rest : List Entry) × AreWriting xs c × (by a (posted_as end n turn) ≡ by a xs ++ rest)
first_post a n turn c ends.Done wrote none says = (
  steps.Wrote (Commit c) ∷ [],
  by a (sents n turn.sends ++ told turn.told),
  inl refl,
  λ i. by a (post.wrote (wrote i) ++ (sents n turn.sends ++ told turn.told)),
)
first_post a n turn c ends.Failed wrote none says = (
  steps.Told Unknown ∷ steps.Fell causes.Disk (Some (Commit c)) ∷ [],
  [],
  inr (causes.Disk, refl),
  λ i. by a (sents n (none i) ++ (told (says i) ++ steps.Fell causes.Disk (wrote i) ∷ [])),
)
first_post a n turn c ends.Stopped wrote none says = (
  steps.Told Unknown ∷ steps.Fell causes.Stop (Some (Commit c)) ∷ [],
  [],
  inr (causes.Stop, refl),
  λ i. by a (told (says i) ++ steps.Fell causes.Stop (wrote i) ∷ []),
)

module _ (fits : ℕ → List Record → Type 0) (decl : Declaration) (script : Script) (accepted : IsAccepted decl)
    (sound : IsScriptFor decl script) where
  abbrev pub IsRun : List Entry → List Bool → Type 0
  IsRun h inputs = RunsWithFalls (IsLawfulWithFalls decl) fits decl script h inputs

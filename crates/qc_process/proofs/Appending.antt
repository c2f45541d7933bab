-- What a store's record came to, and its actor's post.
use Rattle.std.proofs.Common.{◌≡◌, ℕ, ◌+◌, Bool, true, List, [], ◌∷◌, ◌++◌, Option, Some, None, refl, sym, ◌∙◌, ap}
use Rattle.std.proofs.Common.{subst, append_assoc, option_map}
use Rattle.qc_decl.specs.declared.declaration.Declaration.{Declaration}
use Rattle.qc_journal.specs.Vocabulary.{Rests}
use Rattle.qc_msg.specs.Vocabulary.{Entry, fell, posted, posted_as, sents, told, wrote}
use Rattle.qc_msg.specs.declared.record.Record.{Record}
use Rattle.qc_msg.specs.declared.step.Fall.TheVariants as falls
use Rattle.qc_msg.specs.declared.step.Step.{Step}
use Rattle.qc_msg.specs.declared.step.Step.TheVariants as steps
use Rattle.qc_msg.specs.declared.turn.Turn.{Turn}
use Rattle.qc_outside.specs.Vocabulary.{Fuse, Told}
use Rattle.qc_outside.specs.declared.disk.ArmKind.{ArmKind}
use Rattle.qc_outside.specs.declared.disk.ArmKind.TheVariants as kinds
use Rattle.qc_promise.specs.Vocabulary.{DiskAccount, disk_called, disk_fell, disk_fell_by, of_fall, of_record}
use Rattle.qc_record.specs.Vocabulary.{is_legal, spelled}
use Rattle.qc_store.specs.Vocabulary.{DiskHolds, IsAccountOf, StillTells, of_broken_record}
use Rattle.qc_process.specs.Vocabulary.{Goes, IsLegalPending, IsStored, OpenJournal, Spells, StoreView, appended_by}
use Rattle.qc_process.specs.Vocabulary.{fall_by}
use Rattle.qc_process.proofs.Going.{broken_on, plain_on, written_on}
use Rattle.qc_process.proofs.Plain.{is_plain, plain_said, plain_told}
use Rattle.std.specs.List.{AllByRecursion as Every}

-- a view, by its parts
pub record Shows (s : StoreView) (told_then : Option Told) (fuse_then : Fuse) (journal_then : Option OpenJournal)
    : Type 0 where
  pub told_is : s.told ≡ told_then
  pub fuse_is : s.fuse ≡ fuse_then
  pub journal_is : s.journal ≡ journal_then

-- the record that was spelled

spelled_none : (w : Option Record) → option_map spelled w ≡ None → w ≡ None
spelled_none None is = refl
spelled_none (Some r) is = absurd (cc is)

pub record IsRecord (turn : Turn) (body : List ℕ) : Type 0 where
  pub written : Record
  pub write_is : turn.write ≡ Some written
  pub legal : is_legal written ≡ true
  pub body_is : body ≡ spelled written

spelled_some : (turn : Turn) (w : Option Record) (body : List ℕ) → turn.write ≡ w → option_map spelled w ≡ Some body
    → IsLegalPending w → IsRecord turn body
spelled_some turn None body same is legal = absurd (cc is)
spelled_some turn (Some r) body same is legal =
    record { written = r; write_is = same; legal = legal; body_is = sym (cc is) }

pub record_of : (turn : Turn) (s : StoreView) (body : List ℕ) → Spells turn s → s.spelling ≡ Some body
    → IsRecord turn body
record_of turn s body spells is =
    spelled_some turn turn.write body refl (sym spells.spelling_is ∙ is) spells.legal

-- what is posted of it

broken_fell : (kind : ArmKind) (r : Record) (t : DiskAccount)
    → disk_fell_by t (fall_by kind) (of_fall (Some r)) ≡ disk_fell t kind of_broken_record
broken_fell kinds.Fail r t = refl
broken_fell kinds.Stop r t = refl

abbrev said_before : ArmKind → ℕ → Turn → List Step
said_before kinds.Fail first turn = sents first turn.failed_sends ++ told turn.failed_told
said_before kinds.Stop first turn = told turn.failed_told

module _ (tells : Bool) (decl : Declaration) (a : ℕ) (h now : List Entry) (turn : Turn) (first : ℕ) (s new : StoreView)
  where
    pub none_appended : s.spelling ≡ None → new.told ≡ s.told → new.fuse ≡ s.fuse → new.journal ≡ s.journal
        → Spells turn s → Goes a h (posted first turn) now → IsStored tells decl a h s → IsStored tells decl a now new
    none_appended none same_told same_fuse same_journal spells goes is =
        let nothing : turn.write ≡ None = spelled_none turn.write (sym spells.spelling_is ∙ none) in
        let steps_are : posted first turn ≡ sents first turn.sends ++ told turn.told =
        ap (λ (w : Option Record). wrote w ++ (sents first turn.sends ++ told turn.told)) nothing in
        plain_on tells decl a h now (sents first turn.sends ++ told turn.told) s new
        (plain_said first turn.sends turn.told) same_told same_fuse same_journal
        (subst (λ (l : List Step). Goes a h l now) steps_are goes) is

    module _ (o : OpenJournal) (body : List ℕ) (old_told new_told : Option Told) (f g : Fuse)
        (shows : Shows s old_told f (Some o)) (is_body : s.spelling ≡ Some body) (spells : Spells turn s)
        (tells_on : (bodies : List (List ℕ)) → Rests old_told o.end bodies → StillTells old_told new_told) where
      it : IsRecord turn body
      it = record_of turn s body spells is_body

      tells_here : new.told ≡ new_told → (bodies : List (List ℕ)) → Rests s.told o.end bodies
          → StillTells s.told new.told
      tells_here same bodies rests =
          rw (shows.told_is, same)
          (tells_on bodies (subst (λ (t : Option Told). Rests t o.end bodies) shows.told_is rests))

      pub done_appended : (p : OpenJournal) → Shows new new_told g (Some p)
          → ((bodies : List (List ℕ)) → Rests old_told o.end bodies → Rests new_told p.end (bodies ++ body ∷ []))
          → p.records ≡ o.records + 1
          → ((t : DiskAccount) → IsAccountOf t f → IsAccountOf (disk_called t of_record) g)
          → Goes a h (posted first turn) now → IsStored tells decl a h s → IsStored tells decl a now new
      done_appended p shows_new written one_more accounts goes is =
          let behind : List Step = sents first turn.sends ++ told turn.told in
          let steps_are : posted first turn ≡ steps.Wrote it.written ∷ behind =
          ap (λ (w : Option Record). wrote w ++ behind) it.write_is in
          written_on tells decl a h now s new o shows.journal_is is it.written behind p shows_new.journal_is it.legal
          (plain_said first turn.sends turn.told) (subst (λ (l : List Step). Goes a h l now) steps_are goes)
          (λ bodies rests. subst (λ (t : Option Told). Rests t p.end (bodies ++ spelled it.written ∷ []))
          (sym shows_new.told_is) (subst (λ (b : List ℕ). Rests new_told p.end (bodies ++ b ∷ [])) it.body_is
          (written bodies (subst (λ (t : Option Told). Rests t o.end bodies) shows.told_is rests))))
          (tells_here shows_new.told_is) one_more
          (λ t is_of. subst (IsAccountOf (disk_called t of_record)) (sym shows_new.fuse_is)
          (accounts t (subst (IsAccountOf t) shows.fuse_is is_of)))

      fell_steps : (kind : ArmKind) → posted_as (appended_by kind) first turn
          ≡ said_before kind first turn ++ steps.Fell (fall_by kind) (Some it.written) ∷ []
      fell_steps kinds.Fail =
          ap (λ (w : Option Record). sents first turn.failed_sends ++ (told turn.failed_told ++ fell falls.Disk w))
          it.write_is
          ∙ sym (append_assoc (sents first turn.failed_sends) (told turn.failed_told)
          (steps.Fell falls.Disk (Some it.written) ∷ []))
      fell_steps kinds.Stop =
          ap (λ (w : Option Record). told turn.failed_told ++ fell falls.Stop w) it.write_is

      pub broken_appended : (kind : ArmKind) → Shows new new_told g None
          → ((bodies : List (List ℕ)) → Rests old_told o.end bodies → DiskHolds new_told bodies (Some body))
          → ((t : DiskAccount) → IsAccountOf t f → IsAccountOf (disk_fell t kind of_broken_record) g)
          → Goes a h (posted_as (appended_by kind) first turn) now → IsStored tells decl a h s
          → IsStored tells decl a now new
      broken_appended kind shows_new holds accounts goes is =
          broken_on tells decl a h now s new o shows.journal_is is it.written (said_before kind first turn)
          (fall_by kind)
          kind shows_new.journal_is it.legal (plain kind) (broken_fell kind it.written)
          (subst (λ (l : List Step). Goes a h l now) (fell_steps kind) goes)
          (λ bodies rests. subst (λ (t : Option Told). DiskHolds t bodies (Some (spelled it.written)))
          (sym shows_new.told_is) (subst (λ (b : List ℕ). DiskHolds new_told bodies (Some b)) it.body_is
          (holds bodies (subst (λ (t : Option Told). Rests t o.end bodies) shows.told_is rests))))
          (tells_here shows_new.told_is)
          (λ t is_of. subst (IsAccountOf (disk_fell t kind of_broken_record)) (sym shows_new.fuse_is)
          (accounts t (subst (IsAccountOf t) shows.fuse_is is_of)))
        where
          plain : (k : ArmKind) → Every (λ (x : Step). is_plain x ≡ true) (said_before k first turn)
          plain kinds.Fail = plain_said first turn.failed_sends turn.failed_told
          plain kinds.Stop = plain_told turn.failed_told

-- A store's journal is opened again, and given up.
use Rattle.std.proofs.Common.{◌≡◌, ℕ, ◌+◌, ◌≤◌, Bool, true, false, ◌&&◌, List, [], ◌∷◌, ◌++◌, Option, Some, None}
use Rattle.std.proofs.Common.{IsSome, inl, inr, length, option_to_list, refl, sym, ◌∙◌, subst, arith}
use Rattle.qc_decl.specs.declared.declaration.Declaration.{Declaration}
use Rattle.qc_fit.specs.Vocabulary.{fits}
use Rattle.qc_journal.specs.Vocabulary.{Holds, Rests}
use Rattle.qc_list.proofs.Members.{every-append}
use Rattle.qc_msg.specs.Vocabulary.{Entry}
use Rattle.qc_msg.specs.declared.record.Record.{Record}
use Rattle.qc_msg.specs.declared.step.Step.{Step}
use Rattle.qc_msg.specs.declared.step.Step.TheVariants as steps
use Rattle.qc_outside.specs.Vocabulary.{Tells, Told}
use Rattle.qc_outside.specs.declared.disk.ArmKind.{ArmKind}
use Rattle.qc_outside.specs.declared.disk.ArmKind.TheVariants as kinds
use Rattle.qc_promise.specs.Vocabulary.{Calls, DiskAccount, IsInTime, Journal, disk_account_with, disk_called}
use Rattle.qc_promise.specs.Vocabulary.{disk_fell, disk_fell_by, of_fall, of_reading}
use Rattle.qc_record.specs.Vocabulary.{is_legal}
use Rattle.qc_store.specs.Vocabulary.{AreGiven, DiskHolds, IsAccountOf, IsCounted, StillTells, of_bodies}
use Rattle.qc_store.specs.Vocabulary.{of_broken_opening}
use Rattle.qc_store.proofs.Accounts.{counted as account_counted}
use Rattle.qc_process.specs.Vocabulary.{AreLegal, AreUnfit, Goes, IsLegalPending, IsOnDisk, IsOpened, IsPlaced}
use Rattle.qc_process.specs.Vocabulary.{IsStored, IsTold, OpenJournal, StoreView, all_fit, bodies_of, body_of, fall_by}
use Rattle.qc_process.specs.Vocabulary.{journal_fits}
use Rattle.qc_process.proofs.Going.{bodies_more, own_account, soon_by}
use Rattle.qc_process.proofs.Told.{told_around}

-- what a disk holds that holds these bodies

more_held : (told : Option Told) (bodies : List (List ℕ)) (pending : Option (List ℕ)) → DiskHolds told bodies None
    → DiskHolds told bodies pending
more_held None bodies pending is = tt
more_held (Some t) bodies None is = is
more_held (Some t) bodies (Some body) is = λ image left. inl (is image left)

given_held : (told : Option Told) (bodies found : List (List ℕ)) (pending : Option (List ℕ))
    → AreGiven bodies pending found → DiskHolds told found None → DiskHolds told bodies pending
given_held None bodies found pending given is = tt
given_held (Some t) bodies found None given is = subst (λ (l : List (List ℕ)). DiskHolds (Some t) l None) given is
given_held (Some t) bodies found (Some body) (inl same) is =
    more_held (Some t) bodies (Some body) (subst (λ (l : List (List ℕ)). DiskHolds (Some t) l None) same is)
given_held (Some t) bodies found (Some body) (inr more) is =
    λ image left. inr (subst (λ (l : List (List ℕ)). Holds l image) more (is image left))

-- where the disk didn't tell before its fall, it holds whatever bodies there are, and else what it gave
fallen_held : (old new : Option Told) (end : ℕ) (bodies found : List (List ℕ)) (pending : Option (List ℕ))
    → (IsSome old → AreGiven bodies pending found)
    → ((l : List (List ℕ)) → Rests old end l → DiskHolds new l None) → Rests old end found
    → DiskHolds new bodies pending
fallen_held None new end bodies found pending given holds rests = more_held new bodies pending (holds bodies tt)
fallen_held (Some t) new end bodies found pending given holds rests =
    given_held new bodies found pending (given refl) (holds found rests)

-- records that spell bodies that don't fit

fit_front : (decl : Declaration) (a n : ℕ) (rs more : List Record) → all_fit decl a n rs ≡ false
    → all_fit decl a n (rs ++ more) ≡ false
fit_front decl a n [] more is = absurd (cc is)
fit_front decl a n (r ∷ rs) more is = by_test (fits decl a n r) (λ rest. fit_front decl a (n + 1) rs more rest) is
  where
    by_test : (b : Bool)
        → (all_fit decl a (n + 1) rs ≡ false → all_fit decl a (n + 1) (rs ++ more) ≡ false)
        → (b && all_fit decl a (n + 1) rs) ≡ false → (b && all_fit decl a (n + 1) (rs ++ more)) ≡ false
    by_test true rest is = rest is
    by_test false rest is = refl

unfit_journal : (decl : Declaration) (a : ℕ) (j : Journal) (bodies : List (List ℕ)) → AreLegal j.records
    → IsLegalPending j.pending → AreUnfit decl a bodies → AreGiven (bodies_of j.records) (body_of j.pending) bodies
    → journal_fits decl a j ≡ false
unfit_journal decl a j bodies legal legal_pending unfit given = by_pending j.pending legal_pending given
  where
    by_pending : (p : Option Record) → IsLegalPending p → AreGiven (bodies_of j.records) (body_of p) bodies
        → all_fit decl a 0 (j.records ++ option_to_list p) ≡ false
    by_pending None pending same = fit_front decl a 0 j.records [] (unfit j.records legal same)
    by_pending (Some r) pending (inl same) = fit_front decl a 0 j.records (r ∷ []) (unfit j.records legal same)
    by_pending (Some r) pending (inr more) =
        unfit (j.records ++ r ∷ [])
        (every-append (λ (x : Record). is_legal x ≡ true) j.records (r ∷ []) legal (pending, tt))
        (more ∙ sym (bodies_more j.records r))

of_some : (decl : Declaration) (a : ℕ) (bodies : List (List ℕ)) → AreUnfit decl a bodies
    → of_bodies bodies ≡ of_reading
of_some decl a [] unfit = absurd (cc (unfit [] tt refl))
of_some decl a (body ∷ bodies) unfit = refl

some_told : (o : Option Told) → IsSome o → (t : Told) × (o ≡ Some t)
some_told None some = absurd (cc some)
some_told (Some t) some = (t, refl)

told_before : (P : Told → Told → Type 0) (old new : Option Told) → Tells old new P → IsSome new → IsSome old
told_before P None None tells some = some
told_before P None (Some n) tells some = absurd tells
told_before P (Some o) new tells some = refl

pub said_of_old : (P : Told → Type 0) (old new : Option Told) (t : Told) → Tells old new (λ x y. P x) → old ≡ Some t
    → P t
said_of_old P None new t tells is = absurd (cc is)
said_of_old P (Some o) None t tells is = absurd tells
said_of_old P (Some o) (Some n) t tells is = subst P (cc is) tells

fell_is : (kind : ArmKind) (t : DiskAccount) → disk_fell_by t (fall_by kind) (of_fall None)
    ≡ disk_fell t kind of_broken_opening
fell_is kinds.Fail t = refl
fell_is kinds.Stop t = refl

module _ (tells : Bool) (decl : Declaration) (a : ℕ) (h : List Entry) (s new : StoreView) where
  placed_down : (is : IsStored tells decl a h s) → s.journal ≡ None
      → DiskHolds s.told (bodies_of is.records.records) (body_of is.records.pending)
  placed_down is is_down = subst (λ (x : Option OpenJournal). IsPlaced s.told x is.records) is_down is.placed

  -- an opening that gave bodies
  pub opened_on : (P : Told → Told → Type 0) (o : OpenJournal) (found : List (List ℕ)) → s.journal ≡ None
      → new.journal ≡ Some o → Tells s.told new.told P
      → ((bodies : List (List ℕ)) (pending : Option (List ℕ)) (t : Told) → s.told ≡ Some t
      → DiskHolds s.told bodies pending → AreGiven bodies pending found)
      → StillTells s.told new.told → Rests new.told o.end found → o.records ≡ length found
      → ((t : DiskAccount) → IsAccountOf t s.fuse → IsAccountOf (disk_called t (of_bodies found)) new.fuse)
      → IsStored tells decl a h s → IsOpened tells decl a h found new
  opened_on P o found is_down is_open opened given tells_on rests counted accounts is = record {
    records = is.records;
    account = is.account;
    told_by = is.told_by;
    still = λ yes. tells_on (is.still yes);
    given = λ some. (
        let old = some_told s.told (told_before P s.told new.told opened some) in
        given (bodies_of is.records.records) (body_of is.records.pending) old.0 old.1 (placed_down is is_down)
        );
    accounted = accounts is.account is.accounted;
    open_journal = o;
    is_open = is_open;
    rests = rests;
    counted = counted;
  }

  -- one that wanted memory
  pub wanted_on : s.journal ≡ None → StillTells s.told new.told
      → ((bodies : List (List ℕ)) (pending : Option (List ℕ)) → DiskHolds s.told bodies pending
      → DiskHolds new.told bodies pending)
      → s.fuse.unarmed ≤ new.fuse.unarmed → IsStored tells decl a h s
      → IsOnDisk tells decl a h new.told new.fuse.unarmed
  wanted_on is_down tells_on holds later is = record {
    records = is.records;
    account = is.account;
    told_by = is.told_by;
    still = λ yes. tells_on (is.still yes);
    holds = holds (bodies_of is.records.records) (body_of is.records.pending) (placed_down is is_down);
    counted =
        let before : IsCounted is.account.unarmed s.fuse.unarmed = account_counted is.account s.fuse is.accounted in
        omega (arith, before, later);
  }

  -- one that gave bodies, and then was given up
  pub given_up : (bodies : List (List ℕ)) (count : ℕ) (told : Option Told)
      → StillTells s.told told
      → ((o : OpenJournal) → s.journal ≡ Some o → (l : List (List ℕ)) → Rests s.told o.end l → DiskHolds told l None)
      → ((t : DiskAccount) → IsAccountOf t s.fuse → IsCounted t.unarmed count) → IsOpened tells decl a h bodies s
      → IsOnDisk tells decl a h told count
  given_up bodies count told tells_on holds counts is = record {
    records = is.records;
    account = is.account;
    told_by = is.told_by;
    still = λ yes. tells_on (is.still yes);
    holds =
        fallen_held s.told told is.open_journal.end (bodies_of is.records.records) bodies (body_of is.records.pending)
        is.given (holds is.open_journal is.is_open) is.rests;
    counted = counts (disk_called is.account (of_bodies bodies)) is.accounted;
  }

  module _ (now : List Entry) where
    -- an opening in which the disk failed or stopped
    pub unopened_on : (kind : ArmKind) → s.journal ≡ None → new.journal ≡ None → StillTells s.told new.told
        → ((bodies : List (List ℕ)) (pending : Option (List ℕ)) → DiskHolds s.told bodies pending
        → DiskHolds new.told bodies pending)
        → ((t : DiskAccount) → IsAccountOf t s.fuse → IsAccountOf (disk_fell t kind of_broken_opening) new.fuse)
        → Goes a h (steps.Fell (fall_by kind) None ∷ []) now → IsStored tells decl a h s
        → IsStored tells decl a now new
    unopened_on kind is_down stays_down tells_on holds accounts goes is =
        let j : Journal = is.records in
        let t : DiskAccount = is.account in
        let s1 : Step = steps.Fell (fall_by kind) None in
        let u : DiskAccount = disk_fell t kind of_broken_opening in
        let account_is : disk_account_with a t a s1 ≡ u =
        own_account a t (disk_fell_by t (fall_by kind) (of_fall None)) ∙ fell_is kind t in
        let fallen : IsAccountOf u new.fuse = accounts t is.accounted in
        record {
          records = j;
          account = u;
          told_by =
              subst (IsTold tells decl a now j) account_is
              (told_around tells decl a h now j t [] [] s1 tt tt goes
              (subst IsInTime (sym account_is) (soon_by u new fallen)) (λ yes. tt) is.told_by.legal
              is.told_by.legal_pending (omega (arith, is.told_by.few)) is.told_by);
          still = λ yes. tells_on (is.still yes);
          accounted = fallen;
          placed =
              subst (λ (x : Option OpenJournal). IsPlaced new.told x j) (sym stays_down)
              (holds (bodies_of j.records) (body_of j.pending) (placed_down is is_down));
        }

    -- damage, in a journal that doesn't fit
    damaged_as : (j : Journal) (t : DiskAccount) (offset : ℕ) → new.journal ≡ None
        → (tells ≡ true → journal_fits decl a j ≡ false) → (tells ≡ true → IsSome new.told)
        → DiskHolds new.told (bodies_of j.records) (body_of j.pending)
        → IsAccountOf (disk_called t of_reading) new.fuse → Goes a h (steps.Damaged offset ∷ []) now
        → IsTold tells decl a h j t → IsStored tells decl a now new
    damaged_as j t offset stays_down unfit still holds called goes is =
        let u : DiskAccount = disk_called t of_reading in
        let account_is : disk_account_with a t a (steps.Damaged offset) ≡ u = own_account a t u in
        record {
          records = j;
          account = u;
          told_by =
              subst (IsTold tells decl a now j) account_is
              (told_around tells decl a h now j t [] [] (steps.Damaged offset) tt tt goes
              (subst IsInTime (sym account_is) (soon_by u new called)) unfit is.legal is.legal_pending
              (omega (arith, is.few)) is);
          still = still;
          accounted = called;
          placed = subst (λ (x : Option OpenJournal). IsPlaced new.told x j) (sym stays_down) holds;
        }

    -- the bytes are no journal: then the disk doesn't tell
    pub torn_on : (offset : ℕ) → s.journal ≡ None → new.journal ≡ None → StillTells s.told new.told
        → ((bodies : List (List ℕ)) (pending : Option (List ℕ)) (t : Told) → s.told ≡ Some t
        → DiskHolds s.told bodies pending → ⊥)
        → ((bodies : List (List ℕ)) (pending : Option (List ℕ)) → DiskHolds s.told bodies pending
        → DiskHolds new.told bodies pending)
        → ((t : DiskAccount) → IsAccountOf t s.fuse → IsAccountOf (disk_called t of_reading) new.fuse)
        → Goes a h (steps.Damaged offset ∷ []) now → IsStored tells decl a h s → IsStored tells decl a now new
    torn_on offset is_down stays_down tells_on never holds accounts goes is =
        let j : Journal = is.records in
        damaged_as j is.account offset stays_down
        (λ yes.
        let old = some_told s.told (is.still yes) in
        absurd (never (bodies_of j.records) (body_of j.pending) old.0 old.1 (placed_down is is_down)))
        (λ yes. tells_on (is.still yes)) (holds (bodies_of j.records) (body_of j.pending) (placed_down is is_down))
        (accounts is.account is.accounted) goes is.told_by

    -- records were given that don't fit
    pub unfit_on : (bodies : List (List ℕ)) (offset : ℕ) → new.journal ≡ None → StillTells s.told new.told
        → ((o : OpenJournal) → s.journal ≡ Some o → (l : List (List ℕ)) → Rests s.told o.end l
        → DiskHolds new.told l None)
        → ((t : DiskAccount) → IsAccountOf t s.fuse → IsAccountOf t new.fuse) → AreUnfit decl a bodies
        → Goes a h (steps.Damaged offset ∷ []) now → IsOpened tells decl a h bodies s
        → IsStored tells decl a now new
    unfit_on bodies offset stays_down tells_on holds accounts unfit goes is =
        let j : Journal = is.records in
        let t : DiskAccount = is.account in
        damaged_as j t offset stays_down
        (λ yes. unfit_journal decl a j bodies is.told_by.legal is.told_by.legal_pending unfit (is.given (is.still yes)))
        (λ yes. tells_on (is.still yes))
        (fallen_held s.told new.told is.open_journal.end (bodies_of j.records) bodies (body_of j.pending) is.given
        (holds is.open_journal is.is_open) is.rests)
        (accounts (disk_called t of_reading)
        (subst (λ (c : Calls). IsAccountOf (disk_called t c) s.fuse) (of_some decl a bodies unfit) is.accounted)) goes
        is.told_by

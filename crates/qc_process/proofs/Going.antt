-- A store goes on with the steps that its actor posts.
use Rattle.std.proofs.Common.{◌≡◌, ℕ, ◌+◌, ◌==◌, Bool, true, List, [], ◌∷◌, ◌++◌, Option, Some, None, IsSome, length}
use Rattle.std.proofs.Common.{refl, sym, ◌∙◌, ap, subst, arith, length-append, if◌then◌else◌}
use Rattle.std.proofs.lemmas.Bool.{eq-eqb}
use Rattle.qc_decl.specs.declared.declaration.Declaration.{Declaration}
use Rattle.qc_journal.specs.Vocabulary.{Rests}
use Rattle.qc_list.proofs.Members.{every-append}
use Rattle.qc_msg.specs.Vocabulary.{Entry}
use Rattle.qc_msg.specs.declared.record.Record.{Record}
use Rattle.qc_msg.specs.declared.step.Fall.{Fall}
use Rattle.qc_msg.specs.declared.step.Fall.TheVariants as falls
use Rattle.qc_msg.specs.declared.step.Step.{Step}
use Rattle.qc_msg.specs.declared.step.Step.TheVariants as steps
use Rattle.qc_outside.specs.Vocabulary.{Told}
use Rattle.qc_outside.specs.declared.disk.ArmKind.{ArmKind}
use Rattle.qc_promise.specs.Vocabulary.{DiskAccount, IsInTime, Journal, disk_account_with, disk_called, disk_fell}
use Rattle.qc_promise.specs.Vocabulary.{disk_fell_by, journal_with, of_fall, of_record}
use Rattle.qc_record.specs.Vocabulary.{is_legal, spelled}
use Rattle.qc_store.specs.Vocabulary.{DiskHolds, IsAccountOf, StillTells, of_broken_record}
use Rattle.qc_store.proofs.Accounts.{in_time as counted_in_time}
use Rattle.qc_process.specs.Vocabulary.{Goes, IsPlaced, IsStored, IsTold, OpenJournal, StoreView, bodies_of, body_of}
use Rattle.qc_process.proofs.Plain.{ArePlain}
use Rattle.qc_process.proofs.Told.{told_around, told_plain}

pub bodies_more : (rs : List Record) (r : Record) → bodies_of (rs ++ r ∷ []) ≡ bodies_of rs ++ spelled r ∷ []
bodies_more [] r = refl
bodies_more (x ∷ rs) r = ap (λ (l : List (List ℕ)). spelled x ∷ l) (bodies_more rs r)

pub soon_by : (t : DiskAccount) (s : StoreView) → IsAccountOf t s.fuse → IsInTime t
soon_by t s is w waits = counted_in_time t s.fuse w is waits

-- of a step of its own, the account of its disk

pub own_account : (a : ℕ) (t u : DiskAccount) → (if a == a then u else t) ≡ u
own_account a t u = ap (λ (c : Bool). if c then u else t) (eq-eqb a a refl)

module _ (tells : Bool) (decl : Declaration) (a : ℕ) (h now : List Entry) where
  -- plain steps, and a store that is as it was but for the spelling
  pub plain_on : (xs : List Step) (s new : StoreView) → ArePlain xs → new.told ≡ s.told → new.fuse ≡ s.fuse
      → new.journal ≡ s.journal → Goes a h xs now → IsStored tells decl a h s → IsStored tells decl a now new
  plain_on xs s new plain same_told same_fuse same_journal goes is = record {
    records = is.records;
    account = is.account;
    told_by = told_plain tells decl a h now is.records is.account xs plain goes is.told_by;
    still = λ yes. subst (λ (o : Option Told). IsSome o) (sym same_told) (is.still yes);
    accounted = rw same_fuse is.accounted;
    placed = rw (same_told, same_journal) is.placed;
  }

  module _ (s new : StoreView) (o : OpenJournal) (is_open : s.journal ≡ Some o) (is : IsStored tells decl a h s) where
    placed : IsPlaced s.told (Some o) is.records
    placed = subst (λ (x : Option OpenJournal). IsPlaced s.told x is.records) is_open is.placed

    -- a record was written
    pub written_on : (r : Record) (behind : List Step) (p : OpenJournal) → new.journal ≡ Some p
        → is_legal r ≡ true → ArePlain behind → Goes a h (steps.Wrote r ∷ behind) now
        → ((bodies : List (List ℕ)) → Rests s.told o.end bodies → Rests new.told p.end (bodies ++ spelled r ∷ []))
        → ((bodies : List (List ℕ)) → Rests s.told o.end bodies → StillTells s.told new.told)
        → p.records ≡ o.records + 1
        → ((t : DiskAccount) → IsAccountOf t s.fuse → IsAccountOf (disk_called t of_record) new.fuse)
        → IsStored tells decl a now new
    written_on r behind p new_open legal plain goes written tells_on one_more accounts =
        let j : Journal = is.records in
        let t : DiskAccount = is.account in
        let k : Journal = journal_with j (steps.Wrote r) in
        let u : DiskAccount = disk_called t of_record in
        let account_is : disk_account_with a t a (steps.Wrote r) ≡ u = own_account a t u in
        let called : IsAccountOf u new.fuse = accounts t is.accounted in
        let longer : length k.records ≡ length j.records + 1 = omega (arith, length-append j.records (r ∷ [])) in
        record {
          records = k;
          account = u;
          told_by =
              subst (IsTold tells decl a now k) account_is
              (told_around tells decl a h now j t [] behind (steps.Wrote r) tt plain goes
              (subst IsInTime (sym account_is) (soon_by u new called)) (λ yes. tt)
              (every-append (λ (x : Record). is_legal x ≡ true) j.records (r ∷ []) is.told_by.legal (legal, tt))
              is.told_by.legal_pending (omega (arith, longer, is.told_by.few)) is.told_by);
          still = λ yes. tells_on (bodies_of j.records) placed.0 (is.still yes);
          accounted = called;
          placed =
              subst (λ (x : Option OpenJournal). IsPlaced new.told x k) (sym new_open) (
                subst (Rests new.told p.end) (sym (bodies_more j.records r)) (written (bodies_of j.records) placed.0),
                placed.1,
                omega (arith, one_more, placed.2, longer),
              );
        }

    -- the disk failed or stopped as a record was being written
    pub broken_on : (r : Record) (said : List Step) (cause : Fall) (kind : ArmKind) → new.journal ≡ None
        → is_legal r ≡ true → ArePlain said
        → ((t : DiskAccount) → disk_fell_by t cause (of_fall (Some r)) ≡ disk_fell t kind of_broken_record)
        → Goes a h (said ++ steps.Fell cause (Some r) ∷ []) now
        → ((bodies : List (List ℕ)) → Rests s.told o.end bodies → DiskHolds new.told bodies (Some (spelled r)))
        → ((bodies : List (List ℕ)) → Rests s.told o.end bodies → StillTells s.told new.told)
        → ((t : DiskAccount) → IsAccountOf t s.fuse → IsAccountOf (disk_fell t kind of_broken_record) new.fuse)
        → IsStored tells decl a now new
    broken_on r said cause kind is_down legal plain fell_is goes holds tells_on accounts =
        let j : Journal = is.records in
        let t : DiskAccount = is.account in
        let k : Journal = journal_with j (steps.Fell cause (Some r)) in
        let u : DiskAccount = disk_fell t kind of_broken_record in
        let account_is : disk_account_with a t a (steps.Fell cause (Some r)) ≡ u =
        own_account a t (disk_fell_by t cause (of_fall (Some r))) ∙ fell_is t in
        let fallen : IsAccountOf u new.fuse = accounts t is.accounted in
        record {
          records = k;
          account = u;
          told_by =
              subst (IsTold tells decl a now k) account_is
              (told_around tells decl a h now j t said [] (steps.Fell cause (Some r)) plain tt goes
              (subst IsInTime (sym account_is) (soon_by u new fallen)) (λ yes. tt) is.told_by.legal legal
              (omega (arith, is.told_by.few)) is.told_by);
          still = λ yes. tells_on (bodies_of j.records) placed.0 (is.still yes);
          accounted = fallen;
          placed =
              subst (λ (x : Option OpenJournal). IsPlaced new.told x k) (sym is_down)
              (holds (bodies_of j.records) placed.0);
        }

    -- a line of the script lets it fall
    pub crashed_on : new.journal ≡ None → Goes a h (steps.Fell falls.Script None ∷ []) now
        → StillTells s.told new.told
        → ((bodies : List (List ℕ)) → Rests s.told o.end bodies → DiskHolds new.told bodies None)
        → ((t : DiskAccount) → IsAccountOf t s.fuse → IsAccountOf t new.fuse) → IsStored tells decl a now new
    crashed_on is_down goes tells_on holds accounts =
        let j : Journal = is.records in
        let t : DiskAccount = is.account in
        let account_is : disk_account_with a t a (steps.Fell falls.Script None) ≡ t = own_account a t t in
        let there : IsAccountOf t new.fuse = accounts t is.accounted in
        record {
          records = j;
          account = t;
          told_by =
              subst (IsTold tells decl a now j) account_is
              (told_around tells decl a h now j t [] [] (steps.Fell falls.Script None) tt tt goes
              (subst IsInTime (sym account_is) (soon_by t new there)) (λ yes. tt) is.told_by.legal
              is.told_by.legal_pending (omega (arith, is.told_by.few)) is.told_by);
          still = λ yes. tells_on (is.still yes);
          accounted = there;
          placed =
              subst (λ (x : Option OpenJournal). IsPlaced new.told x j) (sym is_down)
              (subst (λ (p : Option Record). DiskHolds new.told (bodies_of j.records) (body_of p)) (sym placed.1)
              (holds (bodies_of j.records) placed.0));
        }

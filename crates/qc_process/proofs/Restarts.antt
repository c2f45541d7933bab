-- A journal that was opened gives its actor, or is given up.
use Rattle.std.proofs.Common.{◌≡◌, inl, inr, ℕ, ◌-◌, ◌^◌, ◌≤◌, ◌<◌, Bool, true, false, List, [], ◌∷◌, ◌++◌, Option}
use Rattle.std.proofs.Common.{Some, None, IsSome, Result, Ok, Err, Vec, IfOk, OnErr, IfSome, length, option_to_list}
use Rattle.std.proofs.Common.{refl, sym, ◌∙◌, ap, subst, arith}
use Rattle.std.specs.declared.alloc.AllocError.{AllocError}
use Rattle.std.specs.declared.alloc.Global.{Global}
use Rattle.qc_core.proofs.ByNumber.{rises_by}
use Rattle.qc_core.specs.Vocabulary.{ActorMove, actor_rises, moved}
use Rattle.qc_core.specs.declared.actor.Actor.{Actor}
use Rattle.qc_core.specs.declared.actor.Actor.TheVariants.{Down}
use Rattle.qc_decl.specs.Vocabulary.{is_client, is_site}
use Rattle.qc_decl.specs.declared.declaration.Declaration.{Declaration}
use Rattle.qc_fit.specs.Vocabulary.{most_records}
use Rattle.qc_journal.specs.Vocabulary.{Holds, IsNoJournal, Rests, lists}
use Rattle.qc_list.proofs.Members.{every-append}
use Rattle.qc_msg.specs.Vocabulary.{Entry, IsByDisk}
use Rattle.qc_msg.specs.declared.record.Record.{Record}
use Rattle.qc_msg.specs.declared.record.Record.TheVariants.{Life}
use Rattle.qc_msg.specs.declared.step.Step.TheVariants as steps
use Rattle.qc_msg.specs.declared.turn.Turn.{Turn}
use Rattle.qc_outside.specs.Vocabulary.{Told, as_read}
use Rattle.qc_outside.specs.declared.disk.ArmKind.{ArmKind}
use Rattle.qc_outside.specs.declared.disk.ArmKind.TheVariants as kinds
use Rattle.qc_promise.specs.Vocabulary.{Calls, DiskAccount, IsGivenBack, IsInTime, Journal, disk_account_with}
use Rattle.qc_promise.specs.Vocabulary.{disk_called, of_opening}
use Rattle.qc_record.specs.Vocabulary.{is_legal}
use Rattle.qc_record.proofs.Frames.{spellings_are_apart}
use Rattle.qc_store.specs.Vocabulary.{AreGiven, IsAccountOf, of_bodies}
use Rattle.qc_store.specs.declared.store.RiseFault.{RiseFault}
use Rattle.qc_store.specs.declared.store.RiseFault.TheVariants as faults
use Rattle.qc_process.specs.Vocabulary.{AreLegal, FoundAs, Goes, GoesOn, HasFewRecords, HasRisen, IsGivenUp}
use Rattle.qc_process.specs.Vocabulary.{IsLegalPending, IsNotOpened, IsOpened, IsPlaced, IsRiseOrFall, IsSameStore}
use Rattle.qc_process.specs.Vocabulary.{IsStored, IsTold, IsUp, MayWrite, OpenJournal, OpensAs, ReadsFit, StaysOnDisk}
use Rattle.qc_process.specs.Vocabulary.{StoreView, bodies_of, body_of, fall_by, process_of}
use Rattle.qc_process.specs.declared.opened.Opened.{Opened}
use Rattle.qc_process.specs.declared.opened.Opened.TheVariants as opens
use Rattle.qc_process.specs.declared.restart.Found.{Found}
use Rattle.qc_process.specs.declared.restart.Found.TheVariants as found
use Rattle.qc_process.proofs.Fit.{few, length_bodies}
use Rattle.qc_process.proofs.Going.{bodies_more, own_account, soon_by}
use Rattle.qc_process.proofs.Reopened.{length_lists}
use Rattle.qc_process.proofs.Told.{told_around}

-- what rises

-- whatever its kind, it writes that it lives, and is up
module _ (decl : Declaration) (a : ℕ) (rs : List Record) where
  writes_by : (site client : Bool) → (rises_by decl a rs site client).turn.write ≡ Some Life
  writes_by true client = refl
  writes_by false true = refl
  writes_by false false = refl

  up_by : (site client : Bool) → (rises_by decl a rs site client).actor ≡ Down → ⊥
  up_by true client same = cc same
  up_by false true same = cc same
  up_by false false same = cc same

rise_writes : (decl : Declaration) (a : ℕ) (rs : List Record) → (actor_rises decl a rs).turn.write ≡ Some Life
rise_writes decl a rs = writes_by decl a rs (is_site decl a) (is_client decl a)

pub life_waits : (decl : Declaration) (a : ℕ) (rs : List Record) (actor : Actor) (turn : Turn)
    → actor_rises decl a rs ≡ moved actor turn → turn.write ≡ Some Life
life_waits decl a rs actor turn is = sym (ap (λ (m : ActorMove). m.turn.write) is) ∙ rise_writes decl a rs

rise_is_up : (decl : Declaration) (a : ℕ) (rs : List Record) → (actor_rises decl a rs).actor ≡ Down → ⊥
rise_is_up decl a rs is = up_by decl a rs (is_site decl a) (is_client decl a) is

pub risen_is_up : (decl : Declaration) (a : ℕ) (rs : List Record) (actor : Actor) (turn : Turn)
    → actor_rises decl a rs ≡ moved actor turn → actor ≡ Down → ⊥
risen_is_up decl a rs actor turn is down = rise_is_up decl a rs (ap (λ (m : ActorMove). m.actor) is ∙ down)

-- the record of its new life may be written

few_in : (o : Option OpenJournal) (n : ℕ) → IfSome o (λ p. p.records ≡ n) → n ≤ most_records
    → IfSome o (λ p. p.records < 2 ^ 32)
few_in None n is low = tt
few_in (Some p) n is low = omega (arith, is, low)

pub life_may_wait : (s : StoreView) (w : Option Record) (n : ℕ) → w ≡ Some Life → IsUp s
    → IfSome s.journal (λ o. o.records ≡ n) → n ≤ most_records → MayWrite w s
life_may_wait s w n is is_up counted low =
    subst (λ (o : Option Record). MayWrite o s) (sym is)
    (record { legal = refl; short = omega arith }, is_up, few_in s.journal n counted low)

pub life_few : (s : StoreView) (n : ℕ) → IfSome s.journal (λ o. o.records ≡ n) → n ≤ most_records
    → HasFewRecords s
life_few s n counted low = few_in s.journal n counted low

-- What was opened are bodies of legal records: then these are the actor's, with the pending one or without it.

legal_alike : (rs qs : List Record) → AreLegal rs → AreLegal qs → bodies_of rs ≡ bodies_of qs → rs ≡ qs
legal_alike [] [] legal others same = refl
legal_alike [] (q ∷ qs) legal others same = absurd (cc same)
legal_alike (r ∷ rs) [] legal others same = absurd (cc same)
legal_alike (r ∷ rs) (q ∷ qs) legal others same =
    let one : r ≡ q = spellings_are_apart r q legal.0 others.0 (cc same) in
    ap (λ (x : Record). x ∷ rs) one ∙ ap (λ (l : List Record). q ∷ l) (legal_alike rs qs legal.1 others.1 (cc same))

given_back : (j : Journal) (rs : List Record) → AreLegal j.records → IsLegalPending j.pending → AreLegal rs
    → AreGiven (bodies_of j.records) (body_of j.pending) (bodies_of rs) → IsGivenBack j rs
given_back j rs legal pending legal_rs one = by_pending j.pending refl pending one
  where
    by_pending : (o : Option Record) → j.pending ≡ o → IsLegalPending o
        → AreGiven (bodies_of j.records) (body_of o) (bodies_of rs) → IsGivenBack j rs
    by_pending None is legal_one same = inl (legal_alike rs j.records legal_rs legal same)
    by_pending (Some r) is legal_one (inl same) = inl (legal_alike rs j.records legal_rs legal same)
    by_pending (Some r) is legal_one (inr more) =
        let with_one : rs ≡ j.records ++ r ∷ [] =
        legal_alike rs (j.records ++ r ∷ []) legal_rs
        (every-append (λ (x : Record). is_legal x ≡ true) j.records (r ∷ []) legal (legal_one, tt))
        (more ∙ sym (bodies_more j.records r)) in
        inr (with_one ∙ ap (λ (o : Option Record). j.records ++ option_to_list o) (sym is))

opening_calls : (rs : List Record) → of_bodies (bodies_of rs) ≡ of_opening rs
opening_calls [] = refl
opening_calls (r ∷ rs) = refl

pub few_bodies : (decl : Declaration) (a : ℕ) (bodies : List (Vec ℕ Global)) (rs : List Record)
    → ReadsFit decl a (lists bodies) rs → length bodies ≤ most_records
few_bodies decl a bodies rs reads =
    let low : length rs ≤ most_records = few decl a rs reads.fit in
    let same : length (lists bodies) ≡ length (bodies_of rs) = ap length reads.spell in
    omega (arith, low, same, length_lists bodies, length_bodies rs)

-- the actor rises with the records that were opened
rose_on : (tells : Bool) (decl : Declaration) (a : ℕ) (h now : List Entry) (s new : StoreView)
    (bodies : List (List ℕ)) (rs : List Record) → IsSameStore s new → bodies ≡ bodies_of rs → AreLegal rs
    → length rs ≤ most_records → Goes a h (steps.Rose rs ∷ []) now → IsOpened tells decl a h bodies s
    → IsStored tells decl a now new
rose_on tells decl a h now s new bodies rs same spell legal low goes is =
    let j : Journal = is.records in
    let t : DiskAccount = is.account in
    let k : Journal = record { records = rs; pending = None } in
    let u : DiskAccount = disk_called t (of_opening rs) in
    let account_is : disk_account_with a t a (steps.Rose rs) ≡ u = own_account a t u in
    let calls : of_bodies bodies ≡ of_opening rs = ap of_bodies spell ∙ opening_calls rs in
    let called : IsAccountOf u new.fuse =
    subst (IsAccountOf u) (sym same.fuse) (subst
    (λ (c : Calls). IsAccountOf (disk_called t c) s.fuse) calls is.accounted)
    in
    let o : OpenJournal = is.open_journal in
    let is_open : new.journal ≡ Some o = same.journal ∙ is.is_open in
    let counted : o.records ≡ length rs = is.counted ∙ ap length spell ∙ length_bodies rs in
    let some : tells ≡ true → IsSome s.told = is.still in
    record {
      records = k;
      account = u;
      told_by =
          subst (IsTold tells decl a now k) account_is
          (told_around tells decl a h now j t [] [] (steps.Rose rs) tt tt goes
          (subst IsInTime (sym account_is) (soon_by u new called))
          (λ yes. given_back j rs is.told_by.legal is.told_by.legal_pending legal
          (subst (AreGiven (bodies_of j.records) (body_of j.pending)) spell (is.given (some yes)))) legal tt
          (omega (arith, low)) is.told_by);
      still = λ yes. subst (λ (x : Option Told). IsSome x) (sym same.told) (some yes);
      accounted = called;
      placed =
          subst (λ (x : Option OpenJournal). IsPlaced new.told x k) (sym is_open) (
            subst (λ (x : Option Told). Rests x o.end (bodies_of rs)) (sym same.told)
                (subst (Rests s.told o.end) spell is.rests),
            refl,
            counted,
          );
    }

opened_same : (tells : Bool) (decl : Declaration) (a : ℕ) (h : List Entry) (bodies : List (List ℕ))
    (s new : StoreView) → IsSameStore s new → IsOpened tells decl a h bodies s → IsOpened tells decl a h bodies new
opened_same tells decl a h bodies s new same is = record {
  records = is.records;
  account = is.account;
  told_by = is.told_by;
  still = λ yes. subst (λ (x : Option Told). IsSome x) (sym same.told) (is.still yes);
  given = λ some. is.given (subst (λ (x : Option Told). IsSome x) same.told some);
  accounted = subst (IsAccountOf (disk_called is.account (of_bodies bodies))) (sym same.fuse) is.accounted;
  open_journal = is.open_journal;
  is_open = same.journal ∙ is.is_open;
  rests = subst (λ (x : Option Told). Rests x is.open_journal.end bodies) (sym same.told) is.rests;
  counted = is.counted;
}

module _ (decl : Declaration) (number : ℕ) (old opened mid new : StoreView) (bodies : List (List ℕ))
    (opens_as : (tells : Bool) (d : Declaration) (a : ℕ) (h : List Entry) → IsStored tells d a h old
    → IsOpened tells d a h bodies opened)
    (held : (t : Told) → old.told ≡ Some t → Holds bodies (as_read t.now)) (is_up : IsUp opened)
    (same : IsSameStore opened mid) where
  pub opens_ok : (f : Result Found AllocError) (result : Result (Actor × Opened) AllocError)
      → IfOk f (λ x. FoundAs decl number bodies mid x) → IsRiseOrFall mid new f result
      → IfOk result (λ r. OpensAs decl (process_of number Down old) (process_of number r.0 new) r.1)
  opens_ok (Ok (found.Risen actor records turn)) result rises is =
      subst (λ (r : Result (Actor × Opened) AllocError).
      IfOk r (λ x. OpensAs decl (process_of number Down old) (process_of number x.0 new) x.1)) (sym is.0)
      (subst (λ (n : StoreView).
      HasRisen decl (process_of number Down old) (process_of number actor n) records turn) (sym is.1) (record {
        number_is = refl;
        rises = rises.rises;
        fit = rises.reads.fit;
        legal = rises.reads.legal;
        write_is = rises.write_is;
        waits = rises.waits;
        is_up = rises.is_up;
        few = rises.few;
        opened = λ tells a h stored.
            subst (λ (bs : List (List ℕ)). IsOpened tells decl a h bs mid) rises.reads.spell
            (opened_same tells decl a h bodies opened mid same (opens_as tells decl a h stored));
        goes = λ tells h now goes stored.
            rose_on tells decl number h now opened mid bodies records same rises.reads.spell rises.reads.legal
            (few decl number records rises.reads.fit) goes (opens_as tells decl number h stored);
      }))
  opens_ok (Ok (found.Unfit offset)) result rises is =
      subst (λ (r : Result (Actor × Opened) AllocError).
      IfOk r (λ x. OpensAs decl (process_of number Down old) (process_of number x.0 new) x.1)) (sym is.0) (
        record {
          number_is = refl;
          actor_is = refl;
          is_down = is.1.is_down;
          goes = λ tells h now goes stored.
              is.1.damaged tells decl number h now bodies offset
              (opened_same tells decl number h bodies opened mid same (opens_as tells decl number h stored)) rises.0
              goes;
        },
        λ t told. inr (bodies, held t told, rises.1),
      )
  opens_ok (Err error) result rises is =
      subst (λ (r : Result (Actor × Opened) AllocError).
      IfOk r (λ x. OpensAs decl (process_of number Down old) (process_of number x.0 new) x.1)) (sym is.0) tt

  on_disk : IsGivenUp mid new → (new.journal ≡ None) × StaysOnDisk decl old new
  on_disk is = (
    is.is_down,
    λ tells a h stored. is.on_disk tells decl a h bodies
        (opened_same tells decl a h bodies opened mid same (opens_as tells decl a h stored)),
  )

  pub opens_err : (f : Result Found AllocError) (result : Result (Actor × Opened) AllocError)
      → IsRiseOrFall mid new f result → OnErr result ((new.journal ≡ None) × StaysOnDisk decl old new)
  opens_err (Ok (found.Risen actor records turn)) result is =
      subst (λ (r : Result (Actor × Opened) AllocError). OnErr r ((new.journal ≡ None) × StaysOnDisk decl old new))
      (sym is.0) tt
  opens_err (Ok (found.Unfit offset)) result is =
      subst (λ (r : Result (Actor × Opened) AllocError). OnErr r ((new.journal ≡ None) × StaysOnDisk decl old new))
      (sym is.0) tt
  opens_err (Err error) result is =
      subst (λ (r : Result (Actor × Opened) AllocError). OnErr r ((new.journal ≡ None) × StaysOnDisk decl old new))
      (sym is.0) (on_disk is.1)

-- a journal that wasn't opened

by_disk : (kind : ArmKind) → IsByDisk (fall_by kind)
by_disk kinds.Fail = tt
by_disk kinds.Stop = tt

module _ (decl : Declaration) (number : ℕ) (old new : StoreView) (is_down : new.journal ≡ None) where
  pub not_opened : (fault : RiseFault) (opened : Opened) → IsNotOpened fault (Ok opened)
      → ((kind : ArmKind) (d : Declaration) (a : ℕ) → fault ≡ faults.Fell kind
      → GoesOn d a old (steps.Fell (fall_by kind) None ∷ []) new)
      → ((offset : ℕ) (d : Declaration) (a : ℕ) → fault ≡ faults.Torn offset
      → GoesOn d a old (steps.Damaged offset ∷ []) new)
      → ((offset : ℕ) (t : Told) → fault ≡ faults.Torn offset → old.told ≡ Some t → IsNoJournal offset (as_read t.now))
      → OpensAs decl (process_of number Down old) (process_of number Down new) opened
  not_opened (faults.Fell kind) opened is fell torn no_journal =
      let same : opened ≡ opens.NotOpened (fall_by kind) = cc is in
      subst (OpensAs decl (process_of number Down old) (process_of number Down new)) (sym same) (
        record { number_is = refl; actor_is = refl; is_down = is_down; goes = fell kind decl number refl },
        by_disk kind,
      )
  not_opened (faults.Torn offset) opened is fell torn no_journal =
      let same : opened ≡ opens.Damaged offset = cc is in
      subst (OpensAs decl (process_of number Down old) (process_of number Down new)) (sym same) (
        record { number_is = refl; actor_is = refl; is_down = is_down; goes = torn offset decl number refl },
        λ t told. inl (no_journal offset t refl told),
      )
  not_opened faults.OutOfMemory opened is fell torn no_journal = absurd (cc is.1)

pub not_opened_err : (fault : RiseFault) (error : AllocError) → IsNotOpened fault (Err error)
    → fault ≡ faults.OutOfMemory
not_opened_err (faults.Fell kind) error is = absurd (cc is)
not_opened_err (faults.Torn offset) error is = absurd (cc is)
not_opened_err faults.OutOfMemory error is = refl

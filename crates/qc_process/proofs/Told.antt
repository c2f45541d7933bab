-- What an actor's history tells goes on with what others did and with its own steps.
use Rattle.std.proofs.Common.{◌≡◌, ℕ, ◌+◌, ◌^◌, ◌≤◌, Bool, true, false, List, [], ◌∷◌, ◌++◌, length, sym, ◌∙◌, ap}
use Rattle.std.proofs.Common.{append-nil, arith, length-append, subst}
use Rattle.qc_decl.specs.declared.declaration.Declaration.{Declaration}
use Rattle.qc_msg.specs.Vocabulary.{Entry, marked, own}
use Rattle.qc_msg.specs.declared.step.Step.{Step}
use Rattle.qc_msg.specs.declared.step.Step.TheVariants as steps
use Rattle.qc_outside.specs.declared.disk.ArmKind.{ArmKind}
use Rattle.qc_promise.specs.Vocabulary.{AreStoreSteps, DiskAccount, IsGivenBack, IsInTime, IsKeptOrUnfit, IsStoreOf}
use Rattle.qc_promise.specs.Vocabulary.{Journal, disk_account_after, disk_account_with, disk_armed, journal_after}
use Rattle.qc_promise.specs.Vocabulary.{journal_of, journal_with}
use Rattle.qc_spent.proofs.Stores.{arm_on, others_on, steps_on}
use Rattle.qc_process.specs.Vocabulary.{AreKeptOrUnfit, AreLegal, Goes, GoesArmed, IsLegalPending, IsTold, journal_fits}
use Rattle.qc_process.proofs.Own.{AreFine, kept_on, longer, own_goes, own_others}
use Rattle.qc_process.proofs.Plain.{ArePlain, account_past, fine_past, journal_of_more, journal_past, plain_then}
use Rattle.qc_process.proofs.Own.{own_other}

pub in_time : (tells : Bool) (decl : Declaration) (a : ℕ) (h : List Entry) (j : Journal) (t : DiskAccount)
    → IsTold tells decl a h j t → IsInTime t
in_time tells decl a h j t is = subst IsInTime is.store.account_is (is.store.in_time h [] (append-nil h))

-- whether a step leaves the records of this journal, or finds damage where one doesn't fit
abbrev pub IsFine : Bool → Journal → Step → Type 0
IsFine fit j (steps.Phase number) = Unit {0}
IsFine fit j (steps.Cut x y) = Unit {0}
IsFine fit j (steps.Heal x y) = Unit {0}
IsFine fit j (steps.Armed b kind at) = Unit {0}
IsFine fit j (steps.Called command) = Unit {0}
IsFine fit j (steps.Got number) = Unit {0}
IsFine fit j (steps.Lost number) = Unit {0}
IsFine fit j (steps.Wrote written) = Unit {0}
IsFine fit j (steps.Sent number to message) = Unit {0}
IsFine fit j (steps.Told reply) = Unit {0}
IsFine fit j (steps.Fell cause pending) = Unit {0}
IsFine fit j (steps.Rose records) = IsGivenBack j records
IsFine fit j (steps.Damaged offset) = fit ≡ false

fine_step : (fit : Bool) (own : List Step) (s : Step) → IsFine fit (journal_of own) s → IsKeptOrUnfit fit own s
fine_step fit own (steps.Phase number) is = tt
fine_step fit own (steps.Cut x y) is = tt
fine_step fit own (steps.Heal x y) is = tt
fine_step fit own (steps.Armed b kind at) is = tt
fine_step fit own (steps.Called command) is = tt
fine_step fit own (steps.Got number) is = tt
fine_step fit own (steps.Lost number) is = tt
fine_step fit own (steps.Wrote written) is = tt
fine_step fit own (steps.Sent number to message) is = tt
fine_step fit own (steps.Told reply) is = tt
fine_step fit own (steps.Fell cause pending) is = tt
fine_step fit own (steps.Rose records) is = is
fine_step fit own (steps.Damaged offset) is = is

module _ (tells : Bool) (decl : Declaration) (a : ℕ) (h : List Entry) (now : List Entry) (j : Journal) (t : DiskAccount)
  where
    goes_on : (own_steps : List Step) → Goes a h own_steps now → AreStoreSteps false a j t own_steps
        → (tells ≡ true → AreFine decl a (own a h) own_steps) → AreLegal (journal_after j own_steps).records
        → IsLegalPending (journal_after j own_steps).pending
        → length (journal_after j own_steps).records ≤ 2 ^ 31 + length now → IsTold tells decl a h j t
        → IsTold tells decl a now (journal_after j own_steps) (disk_account_after a t own_steps)
    goes_on own_steps goes steps_are fine legal pending few is = record {
      store =
          subst (λ (l : List Entry).
          IsStoreOf false a l (journal_after j own_steps) (disk_account_after a t own_steps)) (sym goes.now_is)
          (steps_on false a (h ++ goes.others) own_steps j t steps_are
          (others_on false a h goes.others j t goes.not_own is.store));
      kept =
          λ yes. subst (AreKeptOrUnfit decl a) (sym (own_goes a h own_steps now goes))
          (kept_on decl a (own a h) own_steps (is.kept yes) (fine yes));
      legal = legal;
      legal_pending = pending;
      few = few;
    }

    -- plain steps leave all as it is
    pub told_plain : (xs : List Step) → ArePlain xs → Goes a h xs now → IsTold tells decl a h j t
        → IsTold tells decl a now j t
    told_plain xs plain goes is =
        let whole : xs ++ [] ≡ xs = append-nil xs in
        let same_journal : journal_after j xs ≡ j = ap (journal_after j) (sym whole) ∙ journal_past j xs [] plain in
        let same_account : disk_account_after a t xs ≡ t =
        ap (disk_account_after a t) (sym whole) ∙ account_past a t xs [] plain in
        let more : length h + length xs ≤ length now = longer a h xs now goes in
        subst (λ (k : Journal). IsTold tells decl a now k t) same_journal
        (subst (λ (u : DiskAccount). IsTold tells decl a now (journal_after j xs) u) same_account
        (goes_on xs goes
        (subst (AreStoreSteps false a j t) whole
        (plain_then a j t xs [] plain (in_time tells decl a h j t is) tt))
        (λ yes. subst (AreFine decl a (own a h)) whole (fine_past decl a (own a h) xs [] plain tt))
        (subst (λ (k : Journal). AreLegal k.records) (sym same_journal) is.legal)
        (subst (λ (k : Journal). IsLegalPending k.pending) (sym same_journal) is.legal_pending)
        (subst (λ (k : Journal). length k.records ≤ 2 ^ 31 + length now) (sym same_journal)
        (omega (arith, more, is.few))) is))

    -- one step that isn't, between plain ones
    pub told_around : (xs ys : List Step) (s : Step) → ArePlain xs → ArePlain ys → Goes a h (xs ++ s ∷ ys) now
        → IsInTime (disk_account_with a t a s) → (tells ≡ true → IsFine (journal_fits decl a j) j s)
        → AreLegal (journal_with j s).records → IsLegalPending (journal_with j s).pending
        → length (journal_with j s).records ≤ 2 ^ 31 + (length h + 1) → IsTold tells decl a h j t
        → IsTold tells decl a now (journal_with j s) (disk_account_with a t a s)
    told_around xs ys s plain behind goes soon fine legal pending few is =
        let whole : ys ++ [] ≡ ys = append-nil ys in
        let k : Journal = journal_with j s in
        let u : DiskAccount = disk_account_with a t a s in
        let own_steps : List Step = xs ++ s ∷ ys in
        let journal_is : journal_after j own_steps ≡ k =
        journal_past j xs (s ∷ ys) plain ∙ ap (journal_after k) (sym whole) ∙ journal_past k ys [] behind in
        let account_is : disk_account_after a t own_steps ≡ u =
        account_past a t xs (s ∷ ys) plain ∙ ap (disk_account_after a u) (sym whole) ∙ account_past a u ys [] behind in
        let more : length h + length own_steps ≤ length now = longer a h own_steps now goes in
        let long : length own_steps ≡ length xs + length (s ∷ ys) = length-append xs (s ∷ ys) in
        let there : journal_of (own a h ++ xs) ≡ j =
        journal_of_more (own a h) xs
        ∙ ap (journal_after (journal_of (own a h))) (sym (append-nil xs))
        ∙ journal_past (journal_of (own a h)) xs [] plain
        ∙ is.store.journal_is in
        let mid : AreStoreSteps false a j t (s ∷ ys) = (
          λ no. absurd (cc no),
          soon,
          subst (AreStoreSteps false a k u) whole (plain_then a k u ys [] behind soon tt),
        ) in
        let fine_here : (tells ≡ true → AreFine decl a (own a h ++ xs) (s ∷ ys)) = λ yes. (
          fine_step (journal_fits decl a (journal_of (own a h ++ xs))) (own a h ++ xs) s
              (subst (λ (l : Journal). IsFine (journal_fits decl a l) l s) (sym there) (fine yes)),
          subst (AreFine decl a ((own a h ++ xs) ++ s ∷ [])) whole
              (fine_past decl a ((own a h ++ xs) ++ s ∷ []) ys [] behind tt),
        ) in
        subst (λ (l : Journal). IsTold tells decl a now l u) journal_is
        (subst (λ (v : DiskAccount). IsTold tells decl a now (journal_after j own_steps) v) account_is
        (goes_on own_steps goes (plain_then a j t xs (s ∷ ys) plain (in_time tells decl a h j t is) mid)
        (λ yes. fine_past decl a (own a h) xs (s ∷ ys) plain (fine_here yes))
        (subst (λ (l : Journal). AreLegal l.records) (sym journal_is) legal)
        (subst (λ (l : Journal). IsLegalPending l.pending) (sym journal_is) pending)
        (subst (λ (l : Journal). length l.records ≤ 2 ^ 31 + length now) (sym journal_is)
        (omega (arith, more, long, few))) is))

    -- a fault is armed
    pub told_armed : (kind : ArmKind) (at : ℕ) → GoesArmed a h kind at now → IsTold tells decl a h j t
        → IsTold tells decl a now j (disk_armed t kind at)
    told_armed kind at goes is =
        let e : Entry = marked goes.by_whom (steps.Armed a kind at) in
        let same : own a ((h ++ goes.others) ++ e ∷ []) ≡ own a h =
        own_other a (h ++ goes.others) e goes.other ∙ own_others a h goes.others goes.not_own in
        let whole : length now ≡ length ((h ++ goes.others) ++ e ∷ []) = ap length goes.now_is in
        record {
          store =
              subst (λ (l : List Entry). IsStoreOf false a l j (disk_armed t kind at)) (sym goes.now_is)
              (arm_on false a goes.by_whom (h ++ goes.others) kind at j t goes.other goes.some
              (others_on false a h goes.others j t goes.not_own is.store));
          kept = λ yes. subst (AreKeptOrUnfit decl a) (sym (ap (own a) goes.now_is ∙ same)) (is.kept yes);
          legal = is.legal;
          legal_pending = is.legal_pending;
          few =
              omega (
                arith,
                whole,
                length-append (h ++ goes.others) (e ∷ []),
                length-append h goes.others,
                is.few,
              );
        }

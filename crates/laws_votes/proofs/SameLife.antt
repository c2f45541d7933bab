-- A client that is up at two moments, with as many rises among its records, has neither fallen nor risen between them.
use Rattle.std.proofs.Common.{◌≡◌, ◌⊎◌, ◌≤◌, ◌+◌, ℕ, true, false, List, [], ◌∷◌, ◌++◌, inl, inr, fold, Option, Some}
use Rattle.std.proofs.Common.{None, option_to_list, refl, sym, ap, ◌∙◌, subst, arith}
use Rattle.std.proofs.lemmas.List.Sums.{fold-append}
use Rattle.qc_core.specs.Vocabulary.{AreGivenBack, AreSteady, IsGivenBackAt, journal_at, up_at}
use Rattle.qc_decl.specs.declared.declaration.Declaration.{Declaration}
use Rattle.qc_msg.specs.Vocabulary.{Deed, Falls, Rises, Sends, Takes, Tells, Writes}
use Rattle.qc_msg.specs.declared.record.Record.{Record}
use Rattle.qc_msg.specs.declared.record.Record.TheVariants as records
use Rattle.qc_msg.specs.declared.step.Fall.{Fall}
use Rattle.qc_msg.specs.declared.step.Fall.TheVariants as causes
use Rattle.qc_promise.specs.Vocabulary.{Account, Act, AreDeedsDue, Fell, IsGivenBack, Journal, Sent, Told, Wrote}
use Rattle.qc_promise.specs.Vocabulary.{account_at, fallen_in, posted_due, posted_next, rising_turn}
use Rattle.qc_recover.specs.Clients.{Kept, keeps, kept_by, nothing_kept}
use Rattle.laws_reach.proofs.StatusFalls.{grows}

abbrev pub life_of : List Record → ℕ
life_of rs = (kept_by rs).life

-- a life is no less with more records

life_one : (k : Kept) (r : Record) → k.life ≤ (keeps k r).life
life_one k records.Life = omega arith
life_one k (records.Prepare p) = omega arith
life_one k (records.Done tx clock) = omega arith
life_one k (records.Close epoch) = omega arith
life_one k (records.Install start) = omega arith
life_one k (records.Commit commit) = omega arith
life_one k (records.Decide start) = omega arith

life_append : (rs more : List Record) → life_of rs ≤ life_of (rs ++ more)
life_append rs more = subst (λ (k : Kept). life_of rs ≤ k.life) (sym (fold-append keeps nothing_kept rs more))
    (grows (kept_by rs) more)

life_same : (rs : List Record) → life_of rs ≤ life_of rs
life_same rs = omega arith

life_back : (j : Journal) (given : List Record) → IsGivenBack j given → life_of j.records ≤ life_of given
life_back j given (inl same) = subst (λ (rs : List Record). life_of j.records ≤ life_of rs) (sym same)
    (life_same j.records)
life_back j given (inr more) = subst (λ (rs : List Record). life_of j.records ≤ life_of rs) (sym more)
    (life_append j.records (option_to_list j.pending))

deed_life : (j : Journal) (x : Deed) → IsGivenBackAt j x → life_of j.records ≤ life_of (journal_at j x).records
deed_life j (Takes g) back = life_same j.records
deed_life j (Writes w) back = life_append j.records (w ∷ [])
deed_life j (Sends n to m) back = life_same j.records
deed_life j (Tells reply) back = life_same j.records
deed_life j (Falls cause pending) back = life_same j.records
deed_life j (Rises kept) back = life_back j kept back

all_life : (ds : List Deed) (j : Journal) → AreGivenBack j ds
    → life_of j.records ≤ life_of (fold journal_at j ds).records
all_life [] j back = life_same j.records
all_life (x ∷ ds) j back = let one : life_of j.records ≤ life_of (journal_at j x).records = deed_life j x back.0 in
    let more : life_of (journal_at j x).records ≤ life_of (fold journal_at (journal_at j x) ds).records =
    all_life ds (journal_at j x) back.1 in omega arith

pub back_behind : (xs ys : List Deed) (j : Journal) → AreGivenBack j (xs ++ ys) → AreGivenBack (fold journal_at j xs) ys
back_behind [] ys j back = back
back_behind (x ∷ xs) ys j back = back_behind xs ys (journal_at j x) back.1

-- as it rises a client writes so, or falls

risen_post : (f : Option Fall) → (posted_due rising_turn f ≡ Wrote records.Life ∷ [])
    ⊎ ((cause : Fall) × (posted_due rising_turn f ≡ Fell cause (Some records.Life) ∷ []))
risen_post None = inl refl
risen_post (Some causes.Script) = inl refl
risen_post (Some causes.Stop) = inr (causes.Stop, refl)
risen_post (Some causes.Disk) = inr (causes.Disk, refl)

abbrev IsNoPost : List Act → Type 0
IsNoPost [] = Unit {0}
IsNoPost (Wrote written ∷ acts) = ⊥
IsNoPost (Sent posting ∷ acts) = Unit {0}
IsNoPost (Told reply ∷ acts) = Unit {0}
IsNoPost (Fell cause pending ∷ acts) = ⊥

no_post : (acts : List Act) (f : Option Fall) → IsNoPost acts → acts ≡ posted_due rising_turn f → ⊥
no_post acts f none is = elim (risen_post f) [
  | inl wrote ↦ subst IsNoPost (is ∙ wrote) none
  | inr fell ↦ subst IsNoPost (is ∙ fell.1) none
]

abbrev first_written : List Act → Option Record
first_written [] = None
first_written (Wrote written ∷ acts) = Some written
first_written (Sent posting ∷ acts) = None
first_written (Told reply ∷ acts) = None
first_written (Fell cause pending ∷ acts) = None

writes_life : (w : Record) (acts : List Act) (f : Option Fall) → Wrote w ∷ acts ≡ posted_due rising_turn f
    → w ≡ records.Life
writes_life w acts f is = elim (risen_post f) [
  | inl wrote ↦ (let both : Some w ≡ Some records.Life = ap first_written (is ∙ wrote) in cc)
  | inr fell ↦ absurd (let both : Some w ≡ None = ap first_written (is ∙ fell.1) in let never : ⊥ = cc in never)
]

life_next : (rs : List Record) → life_of (rs ++ records.Life ∷ []) ≡ life_of rs + 1
life_next rs = ap (λ (k : Kept). k.life) (fold-append keeps nothing_kept rs (records.Life ∷ []))

module _ (decl : Declaration) where
  -- one that is down and is up in the end has one life more

  down_grows : (ds : List Deed) (d : Account) (j : Journal) → fold up_at false ds ≡ true → AreGivenBack j ds
      → AreDeedsDue decl d ds → life_of j.records + 1 ≤ life_of (fold journal_at j ds).records
  down_grows [] d j up back due = absurd (let never : ⊥ = cc in never)
  down_grows (Takes g ∷ ds) d j up back due = down_grows ds (account_at decl d (Takes g)) j up back.1 due.1
  down_grows (Writes w ∷ ds) d j up back due =
      let one : life_of j.records ≤ life_of (j.records ++ w ∷ []) = life_append j.records (w ∷ []) in
      let more : life_of (j.records ++ w ∷ []) + 1 ≤ life_of (fold journal_at (journal_at j (Writes w)) ds).records =
      down_grows ds (account_at decl d (Writes w)) (journal_at j (Writes w)) up back.1 due.1 in
      omega arith
  down_grows (Sends n to m ∷ ds) d j up back due = down_grows ds (account_at decl d (Sends n to m)) j up back.1 due.1
  down_grows (Tells reply ∷ ds) d j up back due = down_grows ds (account_at decl d (Tells reply)) j up back.1 due.1
  down_grows (Falls cause pending ∷ ds) d j up back due =
      down_grows ds (account_at decl d (Falls cause pending)) (journal_at j (Falls cause pending)) up back.1 due.1
  down_grows (Rises kept ∷ []) d j up back due = absurd (no_post [] None tt due.0)
  down_grows (Rises kept ∷ Takes g ∷ ds) d j up back due = absurd (no_post [] None tt due.0)
  down_grows (Rises kept ∷ Writes w ∷ ds) d j up back due =
      let is : w ≡ records.Life = writes_life w (posted_next ds) (fallen_in (posted_next ds)) due.0 in
      let one : life_of j.records ≤ life_of kept = life_back j kept back.0 in
      let next : life_of (kept ++ w ∷ []) ≡ life_of kept + 1 = ap (λ (r : Record). life_of (kept ++ r ∷ [])) is
      ∙ life_next kept in
      let more : life_of (kept ++ w ∷ []) ≤ life_of
      (fold journal_at (journal_at (journal_at j (Rises kept)) (Writes w)) ds).records =
      all_life ds (journal_at (journal_at j (Rises kept)) (Writes w)) back.1.1 in
      omega arith
  down_grows (Rises kept ∷ Sends n to m ∷ ds) d j up back due =
      absurd (no_post (posted_next (Sends n to m ∷ ds)) (fallen_in (posted_next (Sends n to m ∷ ds))) tt due.0)
  down_grows (Rises kept ∷ Tells reply ∷ ds) d j up back due =
      absurd (no_post (posted_next (Tells reply ∷ ds)) (fallen_in (posted_next (Tells reply ∷ ds))) tt due.0)
  down_grows (Rises kept ∷ Falls cause pending ∷ ds) d j up back due =
      let one : life_of j.records ≤ life_of kept = life_back j kept back.0 in
      let more : life_of kept + 1 ≤ life_of (fold journal_at
      (journal_at (journal_at j (Rises kept)) (Falls cause pending)) ds).records =
      down_grows ds (account_at decl (account_at decl d (Rises kept)) (Falls cause pending))
      (journal_at (journal_at j (Rises kept)) (Falls cause pending)) up back.1.1 due.1.1 in
      omega arith
  down_grows (Rises kept ∷ Rises again ∷ ds) d j up back due = absurd (no_post [] None tt due.0)

  -- so one of the same life has neither fallen nor risen
  pub steady_life : (ds : List Deed) (d : Account) (j : Journal) → fold up_at true ds ≡ true → AreGivenBack j ds
      → AreDeedsDue decl d ds → life_of (fold journal_at j ds).records ≤ life_of j.records → AreSteady ds
  steady_life [] d j up back due same = tt
  steady_life (Takes g ∷ ds) d j up back due same =
      (tt, steady_life ds (account_at decl d (Takes g)) j up back.1 due.1 same)
  steady_life (Writes w ∷ ds) d j up back due same =
      let one : life_of j.records ≤ life_of (j.records ++ w ∷ []) = life_append j.records (w ∷ []) in
      (tt, steady_life ds (account_at decl d (Writes w)) (journal_at j (Writes w)) up back.1 due.1 (omega arith))
  steady_life (Sends n to m ∷ ds) d j up back due same =
      (tt, steady_life ds (account_at decl d (Sends n to m)) j up back.1 due.1 same)
  steady_life (Tells reply ∷ ds) d j up back due same =
      (tt, steady_life ds (account_at decl d (Tells reply)) j up back.1 due.1 same)
  steady_life (Falls cause pending ∷ ds) d j up back due same =
      absurd (let more : life_of j.records + 1 ≤ life_of
      (fold journal_at (journal_at j (Falls cause pending)) ds).records =
      down_grows ds (account_at decl d (Falls cause pending))
      (journal_at j (Falls cause pending)) up back.1 due.1 in let never : ⊥ = omega arith in never)
  steady_life (Rises kept ∷ ds) d j up back due same =
      absurd (let more : life_of j.records + 1 ≤ life_of (fold journal_at j (Rises kept ∷ ds)).records =
      down_grows (Rises kept ∷ ds) d j up back due in let never : ⊥ = omega arith in never)

-- The operations of the committed records, each with its stamp and its transaction, in the order of the stamps.
use Rattle.std.proofs.Common.{◌≡◌, ℕ, suc, ◌<◌, ◌≤◌, Bool, true, false, cond, ◌⊎◌, inl, inr, List, [], ◌∷◌, ◌++◌, map}
use Rattle.std.proofs.Common.{length, Option, Some, None, IsSome, refl, sym, ap, subst, arith}
use Rattle.std.specs.Prelude.{nat_le}
use Rattle.std.proofs.lemmas.Bool.Decides.{nat_tests}
use Rattle.std.proofs.lemmas.List.{length-append}
use Rattle.std.specs.declared.cmp.Ordering.TheVariants.{Less}
use Rattle.qc_stamp.specs.declared.stamp.Stamp.{Stamp}
use Rattle.qc_stamp.specs.declared.stamp.TxId.{TxId}
use Rattle.qc_stamp.specs.Vocabulary.{stamp_cmp}
use Rattle.qc_entry.specs.declared.line.OwnLine.{OwnLine}
use Rattle.qc_entry.specs.declared.record.Commit.{Commit as CommitRecord}
use Rattle.qc_decl.specs.declared.declaration.Declaration.{Declaration}
use Rattle.theory_onecopy.specs.Vocabulary.{Executed, IsEarlier, IsOrdered, IsOwnBefore, IsStampedBefore, Placed}
use Rattle.theory_onecopy.specs.Vocabulary.{own_line}
use Rattle.qc_list.specs.Vocabulary.{In}
use Rattle.theory_onecopy.proofs.Lists.{map_in, ordered-append}
use Rattle.qc_list.proofs.Members.{In-first, In-second, In-either, In-map}
use Rattle.theory_machine.specs.Vocabulary.{AreInOrder, own_on, place, placed}
use Rattle.theory_machine.proofs.OwnLines.{own_of}
use Rattle.theory_machine.proofs.Places.{above}

-- whose operation it is
pub record IsOf (executed : TxId → List Executed) (L : List CommitRecord) (p : Placed) : Type 0 where
  pub commit : CommitRecord
  pub listed : In commit L
  pub stamp : p.stamp ≡ commit.stamp
  pub tx : p.tx ≡ commit.tx
  pub operation : In p.operation (executed p.tx)

pub of_placed : (executed : TxId → List Executed) (L : List CommitRecord) (p : Placed) → In p (placed executed L)
    → IsOf executed L p
of_placed executed [] p h = absurd h
of_placed executed (c ∷ cs) p h = elim (In-either p (map (λ (d : Executed). place c d) (executed c.tx))
    (placed executed cs) h) [
      | inl here ↦
          let m = map_in (λ (d : Executed). place c d) p (executed c.tx) here in
          subst (λ (x : Placed). IsOf executed (c ∷ cs) x) (sym m.is)
          (record { commit = c; listed = inl refl; stamp = refl; tx = refl; operation = m.listed })
      | inr there ↦ let r = of_placed executed cs p there in
          record { commit = r.commit; listed = inr r.listed; stamp = r.stamp; tx = r.tx; operation = r.operation }
    ]

pub placed_of : (executed : TxId → List Executed) (L : List CommitRecord) (c : CommitRecord) (d : Executed) → In c L
    → In d (executed c.tx) → In (place c d) (placed executed L)
placed_of executed [] c d h i = absurd h
placed_of executed (e ∷ es) c d (inl same) i =
    subst (λ (x : CommitRecord). In (place c d)
    (map (λ (y : Executed). place x y) (executed x.tx) ++ placed executed es)) same
    (In-first (place c d) (map (λ (y : Executed). place c y) (executed c.tx)) (placed executed es)
    (In-map (λ (y : Executed). place c y) d (executed c.tx) i))
placed_of executed (e ∷ es) c d (inr h) i =
    In-second (place c d) (map (λ (y : Executed). place e y) (executed e.tx)) (placed executed es)
    (placed_of executed es c d h i)

-- they stand in order
one_ordered : (c : CommitRecord) (ds earlier : List Executed) → AreInOrder earlier ds
    → IsOrdered IsEarlier (map (λ (d : Executed). place c d) ds)
one_ordered c [] earlier o = tt
one_ordered c (d ∷ ds) earlier o = (
  λ p h. (let m = map_in (λ (x : Executed). place c x) p ds h in
      subst (λ (x : Placed). IsEarlier (place c d) x) (sym m.is) (inr (refl, refl, after d m.from earlier o m.listed))),
  one_ordered c ds (earlier ++ d ∷ []) o.1,
)
  where
    after : (d e : Executed) (earlier : List Executed) → AreInOrder earlier (d ∷ ds) → In e ds → d.number < e.number
    after d e earlier o h = let x : length (earlier ++ d ∷ []) < e.number = above ds (earlier ++ d ∷ []) o.1 e h in
        let y : d.number ≡ suc (length earlier) = o.0.numbered in let z = length-append earlier (d ∷ []) in omega arith

pub placed_ordered : (executed : TxId → List Executed) (L : List CommitRecord)
    → ((tx : TxId) → AreInOrder [] (executed tx)) → IsOrdered IsStampedBefore L
    → IsOrdered IsEarlier (placed executed L)
placed_ordered executed [] o r = tt
placed_ordered executed (c ∷ cs) o r =
    ordered-append IsEarlier (map (λ (d : Executed). place c d) (executed c.tx)) (placed executed cs)
    (one_ordered c (executed c.tx) [] (o c.tx)) (placed_ordered executed cs o r.1) (λ x y hx hy.
    let m = map_in (λ (d : Executed). place c d) x (executed c.tx) hx in
    let k = of_placed executed cs y hy in
    subst (λ (z : Placed). IsEarlier z y) (sym m.is)
    (inl (subst (λ (s : Stamp). stamp_cmp c.stamp s ≡ Less) (sym k.stamp) (r.0 k.commit k.listed))))

pub own_ordered : (decl : Declaration) (ds earlier : List Executed) (object : ℕ) → AreInOrder earlier ds
    → IsOrdered IsOwnBefore (own_on ds object)
own_ordered decl [] earlier object o = tt
own_ordered decl (d ∷ ds) earlier object o =
    ordered-append IsOwnBefore _ (own_on ds object) (one _) (own_ordered decl ds (earlier ++ d ∷ []) object o.1)
    (λ x y hx hy.
    let f = own_of decl ds object y hy in
    let a : length (earlier ++ d ∷ []) < f.operation.number = above ds (earlier ++ d ∷ []) o.1 f.operation f.listed in
    let e : y.op ≡ f.operation.number = ap (λ (z : OwnLine). z.op) f.is in
    let k : d.number ≡ suc (length earlier) = o.0.numbered in
    let l = length-append earlier (d ∷ []) in
    let m : x.op ≡ d.number = mine _ x hx in
    omega arith)
  where
    one : (t : Bool) → IsOrdered IsOwnBefore (cond t (own_line d ∷ []) [])
    one true = (λ y h. absurd h, tt)
    one false = tt

    mine : (t : Bool) (x : OwnLine) → In x (cond t (own_line d ∷ []) []) → x.op ≡ d.number
    mine true x (inl same) = ap (λ (z : OwnLine). z.op) same
    mine true x (inr h) = absurd h
    mine false x h = absurd h

pub some_resp : (r : Option ℕ) → IsSome r → (x : ℕ) × (r ≡ Some x)
some_resp None h = absurd (let never : ⊥ = cc in never)
some_resp (Some x) h = (x, refl)

pub le_cases : (a b : ℕ) → (a ≤ b) ⊎ (b ≤ a)
le_cases a b = by (nat_le a b) refl
  where
    by : (t : Bool) → nat_le a b ≡ t → (a ≤ b) ⊎ (b ≤ a)
    by true e = inl (grind (arith, nat_tests))
    by false e = inr (grind (arith, nat_tests))

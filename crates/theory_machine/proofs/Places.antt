-- The operations of a transaction, by their numbers.
use Rattle.std.proofs.Common.{◌≡◌, ℕ, suc, ◌<◌, ◌≤◌, ◌==◌, Bool, true, cond, inl, inr, List, [], ◌∷◌, ◌++◌, length}
use Rattle.std.proofs.Common.{Option, Some, None, IsSome, refl, sym, ap, subst, arith, append_assoc, append-nil, eq-eqb}
use Rattle.std.specs.Prelude.{◌&&◌, is_some}
use Rattle.std.proofs.lemmas.List.{length-append}
use Rattle.qc_list.specs.Vocabulary.{In}
use Rattle.theory_onecopy.specs.Vocabulary.{Executed, own_line}
use Rattle.qc_list.proofs.Members.{In-first, In-second, In-either}
use Rattle.theory_machine.specs.Vocabulary.{AreInOrder, IsNextOperation, own_on}

one_more : (earlier : List Executed) (d : Executed) → length (earlier ++ d ∷ []) ≡ suc (length earlier)
one_more earlier d = let e = length-append earlier (d ∷ []) in omega arith

-- numbers go up from the operations before
pub above : (ds earlier : List Executed) → AreInOrder earlier ds → (d : Executed) → In d ds → length earlier < d.number
above [] earlier o d h = absurd h
above (e ∷ es) earlier o d (inl same) = let n : e.number ≡ suc (length earlier) = o.0.numbered in
    let m : d.number ≡ e.number = ap (λ (x : Executed). x.number) same in omega arith
above (e ∷ es) earlier o d (inr h) = let a : length (earlier ++ e ∷ []) < d.number =
    above es (earlier ++ e ∷ []) o.1 d h in let b = one_more earlier e in omega arith

-- one more operation in order
pub order_more : (earlier ds : List Executed) (d : Executed) → AreInOrder earlier ds → IsNextOperation (earlier ++ ds) d
    → AreInOrder earlier (ds ++ d ∷ [])
order_more earlier [] d o n = (subst (λ (l : List Executed). IsNextOperation l d) (append-nil earlier) n, tt)
order_more earlier (e ∷ es) d o n = (
  o.0,
  order_more (earlier ++ e ∷ []) es d o.1 (subst (λ (l : List Executed). IsNextOperation l d)
      (sym (append_assoc earlier (e ∷ []) es)) n),
)

-- an operation's place
pub record IsAt (ds : List Executed) (d : Executed) : Type 0 where
  pub before : List Executed
  pub next : IsNextOperation before d
  pub order : AreInOrder [] before
  pub listed : (a : Executed) → In a before → In a ds × (a.number < d.number)
  pub all : (a : Executed) → In a ds → a.number < d.number → In a before
  pub one : (a : Executed) → In a ds → a.number ≡ d.number → a ≡ d

at_from : (ds earlier : List Executed) → AreInOrder earlier ds → AreInOrder [] earlier
    → ((a : Executed) → In a earlier → a.number ≤ length earlier) → (d : Executed) → In d ds → IsAt (earlier ++ ds) d
at_from [] earlier o front small d h = absurd h
at_from (e ∷ es) earlier o front small d (inl same) =
    subst (λ (x : Executed). IsAt (earlier ++ e ∷ es) x) (sym same) (record {
      before = earlier;
      next = o.0;
      order = front;
      listed = λ a h. (
        In-first a earlier (e ∷ es) h,
        (let x : a.number ≤ length earlier = small a h in let y : e.number ≡ suc (length earlier) = o.0.numbered in
            omega arith),
      );
      all = λ a h l. elim (In-either a earlier (e ∷ es) h) [
        | inl there ↦ there
        | inr here ↦ elim here [
          | inl is ↦ let x : a.number ≡ e.number = ap (λ (y : Executed). y.number) is in absurd (omega arith)
          | inr later ↦ let x : length (earlier ++ e ∷ []) < a.number = above es (earlier ++ e ∷ []) o.1 a later in
              let y = one_more earlier e in
              let z : e.number ≡ suc (length earlier) = o.0.numbered in absurd (omega arith)
        ]
      ];
      one = λ a h l. elim (In-either a earlier (e ∷ es) h) [
        | inl there ↦ let x : a.number ≤ length earlier = small a there in
            let y : e.number ≡ suc (length earlier) = o.0.numbered in absurd (omega arith)
        | inr here ↦ elim here [
          | inl is ↦ is
          | inr later ↦ let x : length (earlier ++ e ∷ []) < a.number = above es (earlier ++ e ∷ []) o.1 a later in
              let y = one_more earlier e in
              let z : e.number ≡ suc (length earlier) = o.0.numbered in absurd (omega arith)
        ]
      ];
    })
at_from (e ∷ es) earlier o front small d (inr h) =
    subst (λ (ds : List Executed). IsAt ds d) (append_assoc earlier (e ∷ []) es)
    (at_from es (earlier ++ e ∷ []) o.1 (order_more [] earlier e front o.0)
    (λ a i. elim (In-either a earlier (e ∷ []) i) [
      | inl there ↦ let x : a.number ≤ length earlier = small a there in let y = one_more earlier e in omega arith
      | inr here ↦ elim here [
        | inl is ↦ let x : a.number ≡ e.number = ap (λ (z : Executed). z.number) is in let y = one_more earlier e in
            let z : e.number ≡ suc (length earlier) = o.0.numbered in omega arith
        | inr never ↦ absurd never
      ]
    ]) d h)

pub at : (ds : List Executed) → AreInOrder [] ds → (d : Executed) → In d ds → IsAt ds d
at ds o d h = at_from ds [] o tt (λ a i. absurd i) d h

is_some_of : (o : Option ℕ) → IsSome o → is_some o ≡ true
is_some_of None s = absurd (let never : ⊥ = cc in never)
is_some_of (Some x) s = refl

-- the own line of an operation with a response is one of its object's
pub own_in : (ds : List Executed) (a : Executed) (object : ℕ) → In a ds → a.op.object ≡ object → IsSome a.op.resp
    → In (own_line a) (own_on ds object)
own_in [] a object h e s = absurd h
own_in (d ∷ ds) a object (inl same) e s =
    let t : (a.op.object == object) ≡ true = eq-eqb a.op.object object e in
    let u : is_some a.op.resp ≡ true = is_some_of a.op.resp s in
    subst (λ (x : Executed). In (own_line a)
    (cond ((x.op.object == object) && is_some x.op.resp) (own_line x ∷ []) [] ++ own_on ds object)) same
    (In-first (own_line a) (cond ((a.op.object == object) && is_some a.op.resp) (own_line a ∷ []) []) (own_on ds object)
    (subst (λ (b : Bool). In (own_line a) (cond (b && is_some a.op.resp) (own_line a ∷ []) [])) (sym t)
    (subst (λ (b : Bool). In (own_line a) (cond b (own_line a ∷ []) [])) (sym u) (inl refl))))
own_in (d ∷ ds) a object (inr h) e s = In-second (own_line a)
    (cond ((d.op.object == object) && is_some d.op.resp) (own_line d ∷ []) []) (own_on ds object)
    (own_in ds a object h e s)

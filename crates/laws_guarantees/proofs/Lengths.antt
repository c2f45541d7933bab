-- How long lists may be: lines of one log, locks and own lines of one transaction.
use Rattle.std.proofs.Common.{◌≡◌, ◌≤◌, ◌<◌, ◌+◌, ◌-◌, ◌*◌, ◌⊎◌, ℕ, zero, suc, cond, List, [], ◌∷◌, ◌++◌, inl, inr}
use Rattle.std.proofs.Common.{Option, Some, None, is_some, unwrap_or, slice_get, length, length-append, refl, sym, ap}
use Rattle.std.proofs.Common.{◌∙◌, subst, arith}
use Rattle.std.specs.Prelude.{sum_by}
use Rattle.std.specs.List.{flat_map}
use Rattle.std.proofs.lemmas.List.Sums.{sum_by-cons}
use Rattle.std.specs.declared.cmp.Ordering.{Ordering}
use Rattle.std.specs.declared.cmp.Ordering.TheVariants.{Less, Equal}
use Rattle.std.specs.Ordering.{nat_cmp}
use Rattle.qc_list.specs.Vocabulary.{Ascends, In, IsBelowAll}
use Rattle.qc_list.proofs.Members.{In-first, In-second}
use Rattle.qc_entry.specs.declared.line.OwnLine.{OwnLine}
use Rattle.qc_entry.specs.declared.line.ReadLock.{ReadLock}
use Rattle.qc_entry.specs.declared.line.Line.{Line}
use Rattle.qc_entry.specs.declared.line.Op.{Op}
use Rattle.qc_entry.specs.declared.record.Commit.{Commit as CommitRecord}
use Rattle.qc_entry.specs.Vocabulary.{IsAscending, line_cmp}
use Rattle.qc_entry.proofs.Members.{not_below}
use Rattle.qc_decl.specs.declared.declaration.Declaration.{Declaration}
use Rattle.qc_lock.specs.Vocabulary.{lock_cmp, own_cmp}
use Rattle.qc_msg.specs.Vocabulary.{answered}
use Rattle.theory_onecopy.specs.Vocabulary.{IsLogged, IsOperation, event_at}
use Rattle.qc_stamp.specs.declared.stamp.Stamp.{Stamp}
use Rattle.qc_stamp.specs.declared.stamp.TxId.{TxId}
use Rattle.qc_stamp.proofs.Orders.{nat_apart}
use Rattle.theory_onecopy.proofs.Orders.{then_less}
use Rattle.qc_site.proofs.Ascending.{below_In}
use Rattle.qc_list.proofs.Numbers.{below_from_cmp}

-- a list without one of its members
pub record IsWithout {A : Type 0} (x : A) (ys : List A) : Type 0 where
  pub rest : List A
  pub count : length ys ≡ length rest + 1
  pub others : (y : A) → In y ys → (y ≡ x) ⊎ In y rest

cut : {A : Type 0} (x : A) (ys : List A) → In x ys → IsWithout x ys
cut x [] among = absurd among
cut x (y ∷ ys) (inl same) = record {
  rest = ys;
  count = omega arith;
  others = λ z among. elim among [ inl here ↦ inl (here ∙ sym same) | inr there ↦ inr there ];
}
cut x (y ∷ ys) (inr there) =
    let w : IsWithout x ys = cut x ys there in
    let c : length ys ≡ length w.rest + 1 = w.count in
    record {
      rest = y ∷ w.rest;
      count = omega arith;
      others = λ z among. elim among [
        | inl here ↦ inr (inl here)
        | inr more ↦ elim
            (w.others z more) [ inl is ↦ inl is | inr left ↦ inr (inr left) ]
      ];
    }

-- an ascending list is no longer than any list that has its members
pub ascends_within : {A : Type 0} (cmp : A → A → Ordering) → ((x : A) → cmp x x ≡ Less → ⊥) → (xs ys : List A)
    → Ascends cmp xs → ((x : A) → In x xs → In x ys) → length xs ≤ length ys
ascends_within cmp apart [] ys order among = omega arith
ascends_within {A = A} cmp apart (x ∷ xs) ys order among =
    let w : IsWithout x ys = cut x ys (among x (inl refl)) in
    let c : length ys ≡ length w.rest + 1 = w.count in
    let l : length xs ≤ length w.rest = ascends_within cmp apart xs w.rest order.1
    (λ y there. elim (w.others y (among y (inr there))) [
      | inl same ↦ absurd (apart x (subst (λ (z : A). cmp x z ≡ Less) same (below_In cmp x y xs order.0 there)))
      | inr left ↦ left
    ]) in
    omega arith

-- numbers in a list that ascends

below_own : (o : OwnLine) (os : List OwnLine) (x : OwnLine) → IsBelowAll own_cmp o os → In x os → o.op < x.op
below_own o os x low among = below_from_cmp o.op x.op (below_In own_cmp o x os low among)

-- own lines whose operations have numbers between these two
pub own_count : (own : List OwnLine) (low most : ℕ) → Ascends own_cmp own
    → ((o : OwnLine) → In o own → (low ≤ o.op) × (o.op ≤ most)) → length own ≤ (most + 1) - low
own_count [] low most order within = omega arith
own_count (o ∷ os) low most order within =
    let rest : length os ≤ (most + 1) - (o.op + 1) =
    own_count os (o.op + 1) most order.1 (λ x among.
    (let l : o.op < x.op = below_own o os x order.0 among in (omega arith, (within x (inr among)).1))) in
    let l : low ≤ o.op = (within o (inl refl)).0 in
    let m : o.op ≤ most = (within o (inl refl)).1 in
    omega arith

-- the place of a lock among those of at most 32 invocations an object
abbrev pub key : ReadLock → ℕ
key l = l.object * 32 + l.inv

key_less : (a b : ReadLock) → a.inv < 32 → lock_cmp a b ≡ Less → key a < key b
key_less a b low is = by (then_less (nat_cmp a.object b.object) (nat_cmp a.inv b.inv) is)
  where
    by : (nat_cmp a.object b.object ≡ Less) ⊎ ((nat_cmp a.object b.object ≡ Equal) × (nat_cmp a.inv b.inv ≡ Less))
        → a.object * 32 + a.inv < b.object * 32 + b.inv
    by (inl l) = let o : a.object < b.object = below_from_cmp a.object b.object l in omega arith
    by (inr e) = let o : a.object ≡ b.object = nat_apart a.object b.object e.0 in
        let i : a.inv < b.inv = below_from_cmp a.inv b.inv e.1 in omega arith

-- locks of at most 16 objects with at most 32 invocations each
pub lock_count : (locks : List ReadLock) (low : ℕ) → Ascends lock_cmp locks
    → ((l : ReadLock) → In l locks → (low ≤ key l) × (l.object < 16) × (l.inv < 32)) → length locks ≤ 512 - low
lock_count [] low order within = omega arith
lock_count (x ∷ xs) low order within =
    let rest : length xs ≤ 512 - (key x + 1) =
    lock_count xs (key x + 1) order.1 (λ y among.
    (let l : key x < key y = key_less x y (within x (inl refl)).2 (below_In lock_cmp x y xs order.0 among) in
    (omega arith, (within y (inr among)).1, (within y (inr among)).2))) in
    let l : low ≤ x.object * 32 + x.inv = (within x (inl refl)).0 in
    let o : x.object < 16 = (within x (inl refl)).1 in
    let i : x.inv < 32 = (within x (inl refl)).2 in
    omega arith

-- lines of committed operations

-- the line that an operation with a response has
abbrev line_for : Declaration → Stamp → TxId → ℕ → Op → Option ℕ → List Line
line_for decl stamp tx number op None = []
line_for decl stamp tx number op (Some resp) =
    record {
      stamp = stamp;
      tx = tx;
      op = number;
      object = op.object;
      event = unwrap_or (event_at decl op.object op.inv resp) 0;
    } ∷ []

abbrev lines_for : Declaration → Stamp → TxId → ℕ → List Op → List Line
lines_for decl stamp tx number [] = []
lines_for decl stamp tx number (op ∷ ops) =
    line_for decl stamp tx number op op.resp ++ lines_for decl stamp tx (number + 1) ops

abbrev lines_by : Declaration → CommitRecord → List Line
lines_by decl c = lines_for decl c.stamp c.tx 1 c.ops

one_count : (decl : Declaration) (stamp : Stamp) (tx : TxId) (number : ℕ) (op : Op)
    → length (line_for decl stamp tx number op op.resp) ≡ cond (is_some op.resp) 1 0
one_count decl stamp tx number op = by op.resp
  where
    by : (o : Option ℕ) → length (line_for decl stamp tx number op o) ≡ cond (is_some o) 1 0
    by None = refl
    by (Some resp) = refl

count_lines : (decl : Declaration) (stamp : Stamp) (tx : TxId) (number : ℕ) (ops : List Op)
    → length (lines_for decl stamp tx number ops) ≡ answered ops
count_lines decl stamp tx number [] = refl
count_lines decl stamp tx number (op ∷ ops) =
    let sum : length (line_for decl stamp tx number op op.resp ++ lines_for decl stamp tx (number + 1) ops) ≡ length
    (line_for decl stamp tx number op op.resp) + length (lines_for decl stamp tx (number + 1) ops) =
    length-append (line_for decl stamp tx number op op.resp) (lines_for decl stamp tx (number + 1) ops) in
    let first : length (line_for decl stamp tx number op op.resp) ≡ cond (is_some op.resp) 1 0 =
    one_count decl stamp tx number op in
    let rest : length (lines_for decl stamp tx (number + 1) ops) ≡ answered ops =
    count_lines decl stamp tx (number + 1) ops in
    let all : answered (op ∷ ops) ≡ cond (is_some op.resp) 1 0 + answered ops =
    sum_by-cons (λ (o : Op). cond (is_some o.resp) 1 0) op ops in
    sum ∙ ap (λ (n : ℕ). n + length (lines_for decl stamp tx (number + 1) ops)) first
    ∙ ap (λ (n : ℕ). cond (is_some op.resp) 1 0 + n) rest ∙ sym all

-- a committed line is one of them

line_in : (decl : Declaration) (stamp : Stamp) (tx : TxId) (ops : List Op) (number place resp event : ℕ) (op : Op)
    → slice_get ops place ≡ Some op → op.resp ≡ Some resp → event_at decl op.object op.inv resp ≡ Some event
    → In {X = Line} (record { stamp = stamp; tx = tx; op = number + place; object = op.object; event = event })
    (lines_for decl stamp tx number ops)
line_in decl stamp tx [] number place resp event op found responded is = absurd (let never : ⊥ = cc in never)
line_in decl stamp tx (x ∷ xs) number zero resp event op found responded is =
    let same : op ≡ x = cc in
    In-first (record { stamp = stamp; tx = tx; op = number + 0; object = op.object; event = event })
    (line_for decl stamp tx number x x.resp) (lines_for decl stamp tx (number + 1) xs)
    (subst (λ (y : Op). In {X = Line} (record
    { stamp = stamp; tx = tx; op = number + 0; object = op.object; event = event })
    (line_for decl stamp tx number y y.resp)) same
    (subst (λ (o : Option ℕ). In {X = Line} (record
    { stamp = stamp; tx = tx; op = number + 0; object = op.object; event = event })
    (line_for decl stamp tx number op o)) (sym responded)
    (inl (let n : number + 0 ≡ number = omega arith in
    let e : event ≡ unwrap_or (event_at decl op.object op.inv resp) 0 =
    ap (λ (o : Option ℕ). unwrap_or o 0) (sym is) in
    λ i. record { stamp = stamp; tx = tx; op = n i; object = op.object; event = e i }))))
line_in decl stamp tx (x ∷ xs) number (suc place) resp event op found responded is =
    let n : (number + 1) + place ≡ number + suc place = omega arith in
    In-second (record { stamp = stamp; tx = tx; op = number + suc place; object = op.object; event = event })
    (line_for decl stamp tx number x x.resp) (lines_for decl stamp tx (number + 1) xs)
    (subst (λ (k : ℕ). In {X = Line} (record { stamp = stamp; tx = tx; op = k; object = op.object; event = event })
    (lines_for decl stamp tx (number + 1) xs)) n
    (line_in decl stamp tx xs (number + 1) place resp event op found responded is))

in_flat : {A B : Type 0} (f : A → List B) (x : A) (y : B) (xs : List A) → In x xs → In y (f x) → In y (flat_map f xs)
in_flat f x y [] among has = absurd among
in_flat f x y (z ∷ zs) (inl same) has = In-first y (f z) (flat_map f zs) (subst (λ (w : _). In y (f w)) same has)
in_flat f x y (z ∷ zs) (inr there) has = In-second y (f z) (flat_map f zs) (in_flat f x y zs there has)

logged_in : (decl : Declaration) (cs : List CommitRecord) (l : Line) → IsLogged decl cs l
    → In l (flat_map (lines_by decl) cs)
logged_in decl cs l k =
    let o : IsOperation decl k.commit.ops l.op l.object l.event = k.operation in
    in_flat (lines_by decl) k.commit l cs k.listed (subst (λ (y : Line). In y (lines_by decl k.commit)) same
    (line_in decl k.commit.stamp k.commit.tx k.commit.ops 1 o.place o.resp l.event o.operation o.found o.responded
    o.is_event))
  where
    same : ◌≡◌ {A = Line} (record {
      stamp = k.commit.stamp;
      tx = k.commit.tx;
      op = 1 + k.operation.place;
      object = k.operation.operation.object;
      event = l.event;
    }) l
    same =
        let n : 1 + k.operation.place ≡ l.op = (let e : l.op ≡ k.operation.place + 1 = k.operation.numbered in
        omega arith) in
        λ i. record {
          stamp = sym k.stamped i;
          tx = sym k.named i;
          op = n i;
          object = k.operation.on i;
          event = l.event;
        }

count_records : (decl : Declaration) (cs : List CommitRecord)
    → length (flat_map (lines_by decl) cs) ≡ sum_by (λ (c : CommitRecord). answered c.ops) cs
count_records decl [] = refl
count_records decl (c ∷ cs) =
    length-append (lines_by decl c) (flat_map (lines_by decl) cs)
    ∙ ap (λ (n : ℕ). n + length (flat_map (lines_by decl) cs)) (count_lines decl c.stamp c.tx 1 c.ops)
    ∙ ap (λ (n : ℕ). answered c.ops + n) (count_records decl cs)
    ∙ sym (sum_by-cons (λ (x : CommitRecord). answered x.ops) c cs)

-- a log of committed lines has at most as many as there are committed operations with a response
pub log_count : (decl : Declaration) (cs : List CommitRecord) (log : List Line) → IsAscending log
    → ((l : Line) → In l log → IsLogged decl cs l) → length log ≤ sum_by (λ (c : CommitRecord). answered c.ops) cs
log_count decl cs log order logged =
    subst (λ (n : ℕ). length log ≤ n) (count_records decl cs)
    (ascends_within line_cmp not_below log (flat_map (lines_by decl) cs) order
    (λ l among. logged_in decl cs l (logged l among)))

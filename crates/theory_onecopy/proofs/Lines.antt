-- The lines of operations on an object, in their order.
use Rattle.std.proofs.Common.{◌≡◌, ℕ, zero, suc, ◌==◌, Bool, true, false, cond, inl, inr, List, [], ◌∷◌, ◌++◌, map}
use Rattle.std.proofs.Common.{slice_get, Option, Some, None, IsSome, refl, sym, ap, ◌∙◌, subst, append_assoc, eq-eqb}
use Rattle.std.proofs.Common.{eqb-true}
use Rattle.qc_entry.specs.declared.line.Line.{Line}
use Rattle.qc_table.specs.declared.kind.Kind.{Kind}
use Rattle.qc_table.specs.Vocabulary.{depends, event, event_number, events_of}
use Rattle.qc_cert.specs.Vocabulary.{inv_of}
use Rattle.qc_decl.specs.declared.declaration.Declaration.{Declaration}
use Rattle.theory_onecopy.specs.Vocabulary.{IsEarlier, IsLineBefore, IsOrdered, Placed, depends_at, kind_at, line_of}
use Rattle.theory_onecopy.specs.Vocabulary.{lines_of, lines_on}
use Rattle.qc_list.specs.Vocabulary.{In}
use Rattle.theory_onecopy.proofs.Lists.{ordered-append}
use Rattle.qc_list.proofs.Members.{In-first, In-second, In-either}
use Rattle.theory_onecopy.proofs.Orders.{earlier_line}
use Rattle.theory_onecopy.proofs.Runs.{inv_is}

pub record IsFrom (o : ℕ) (bs : List Placed) (l : Line) : Type 0 where
  pub by : Placed
  pub listed : In by bs
  pub object : by.operation.op.object ≡ o
  pub some : IsSome by.operation.op.resp
  pub is : l ≡ line_of by

pub from_one : (o : ℕ) (b : Placed) (l : Line) (t : Bool) → (b.operation.op.object == o) ≡ t
    → In l (cond t (lines_of b.operation.op.resp (line_of b)) [])
    → (b.operation.op.object ≡ o) × IsSome b.operation.op.resp × (l ≡ line_of b)
from_one o b l false e h = absurd h
from_one o b l true e h = by b.operation.op.resp h
  where
    by : (r : Option ℕ) → In l (lines_of r (line_of b)) → (b.operation.op.object ≡ o) × IsSome r × (l ≡ line_of b)
    by None h = absurd h
    by (Some r) (inl same) = (eqb-true b.operation.op.object o e, refl, same)
    by (Some r) (inr h) = absurd h

pub line_from : (o : ℕ) (bs : List Placed) (l : Line) → In l (lines_on o bs) → IsFrom o bs l
line_from o [] l h = absurd h
line_from o (b ∷ bs) l h = elim (In-either l
    (cond (b.operation.op.object == o) (lines_of b.operation.op.resp (line_of b)) []) (lines_on o bs) h) [
      | inl here ↦ let f = from_one o b l (b.operation.op.object == o) refl here in
          record { by = b; listed = inl refl; object = f.0; some = f.1; is = f.2 }
      | inr there ↦ let f = line_from o bs l there in
          record { by = f.by; listed = inr f.listed; object = f.object; some = f.some; is = f.is }
    ]

in_lines : (r : Option ℕ) (l : Line) → IsSome r → In l (lines_of r l)
in_lines None l h = absurd (let never : ⊥ = cc in never)
in_lines (Some r) l h = inl refl

pub line_in : (o : ℕ) (bs : List Placed) (b : Placed) → In b bs → b.operation.op.object ≡ o → IsSome b.operation.op.resp
    → In (line_of b) (lines_on o bs)
line_in o [] b h e s = absurd h
line_in o (c ∷ cs) b (inl same) e s =
    let there : (c.operation.op.object == o) ≡ true =
    eq-eqb c.operation.op.object o (subst (λ (x : Placed). x.operation.op.object ≡ o) same e) in
    subst (λ (x : Placed). In (line_of x) (lines_on o (c ∷ cs))) (sym same)
    (In-first (line_of c) (cond (c.operation.op.object == o) (lines_of c.operation.op.resp (line_of c)) [])
    (lines_on o cs)
    (subst (λ (t : Bool). In (line_of c) (cond t (lines_of c.operation.op.resp (line_of c)) [])) (sym there)
    (in_lines c.operation.op.resp (line_of c) (subst (λ (x : Placed). IsSome x.operation.op.resp) same s))))
line_in o (c ∷ cs) b (inr h) e s = In-second (line_of b)
    (cond (c.operation.op.object == o) (lines_of c.operation.op.resp (line_of c)) []) (lines_on o cs)
    (line_in o cs b h e s)

pub lines_on-append : (o : ℕ) (xs ys : List Placed) → lines_on o (xs ++ ys) ≡ lines_on o xs ++ lines_on o ys
lines_on-append o [] ys = refl
lines_on-append o (b ∷ bs) ys =
    ap (λ (l : List Line). cond (b.operation.op.object == o) (lines_of b.operation.op.resp (line_of b)) [] ++ l)
    (lines_on-append o bs ys)
    ∙ sym (append_assoc (cond (b.operation.op.object == o) (lines_of b.operation.op.resp (line_of b)) [])
    (lines_on o bs) (lines_on o ys))

-- an object's lines stand in order
one_ordered : (t : Bool) (r : Option ℕ) (l : Line) → IsOrdered IsLineBefore (cond t (lines_of r l) [])
one_ordered true None l = tt
one_ordered true (Some r) l = (λ y h. absurd h, tt)
one_ordered false r l = tt

pub lines_ordered : (o : ℕ) (bs : List Placed) → IsOrdered IsEarlier bs → IsOrdered IsLineBefore (lines_on o bs)
lines_ordered o [] ord = tt
lines_ordered o (b ∷ bs) ord =
    ordered-append IsLineBefore (cond (b.operation.op.object == o) (lines_of b.operation.op.resp (line_of b)) [])
    (lines_on o bs)
    (one_ordered (b.operation.op.object == o) b.operation.op.resp (line_of b)) (lines_ordered o bs ord.1) (λ x y hx hy.
    let f = from_one o b x (b.operation.op.object == o) refl hx in
    let g = line_from o bs y hy in
    subst (λ (l : Line). IsLineBefore l y) (sym f.2)
    (subst (λ (l : Line). IsLineBefore (line_of b) l) (sym g.is) (earlier_line b g.by (ord.0 g.by g.listed))))

pub number_of_line : (kind : Kind) (inv number : ℕ) (r : Option ℕ) → IsSome r
    → ((resp : ℕ) → r ≡ Some resp → event_number (events_of kind.table.rows) (event inv resp) ≡ Some number)
    → inv_of kind number ≡ inv
number_of_line kind inv number None s h = absurd (let never : ⊥ = cc in never)
number_of_line kind inv number (Some resp) s h = inv_is kind inv resp number (h resp refl)

pub depends_is : (decl : Declaration) (object : ℕ) (kind : Kind) (inv number : ℕ) → kind_at decl object ≡ Some kind
    → depends_at decl object inv number ≡ depends kind.relation inv number
depends_is decl object kind inv number typed = rw typed refl

-- an item of a mapped list comes from an item
pub from_map : (xs : List Line) (k : ℕ) (e : ℕ) → slice_get (map (λ (l : Line). l.event) xs) k ≡ Some e
    → (x : Line) × (slice_get xs k ≡ Some x) × (x.event ≡ e)
from_map [] k e is = absurd (let never : ⊥ = cc in never)
from_map (x ∷ xs) zero e is = (x, refl, cc)
from_map (x ∷ xs) (suc k) e is = from_map xs k e is

-- What a client answers is what its view and its own lines allow.
use Rattle.std.proofs.Common.{◌≡◌, ℕ, zero, suc, true, false, inl, inr, List, [], ◌∷◌, ◌++◌, map, length, Option, Some}
use Rattle.std.proofs.Common.{None, IsSome, is_some, refl, sym, ap, ◌∙◌, subst, arith}
use Rattle.std.specs.Prelude.{option_and_then, option_map, slice_get, unwrap_or}
use Rattle.std.specs.Option.{option_map_or}
use Rattle.std.specs.declared.cmp.Ordering.TheVariants.{Less}
use Rattle.qc_list.specs.Vocabulary.{In, IsBelowAll}
use Rattle.qc_entry.specs.declared.line.Line.{Line}
use Rattle.qc_entry.specs.declared.line.OwnLine.{OwnLine}
use Rattle.qc_entry.specs.Vocabulary.{IsAscending, line_cmp}
use Rattle.qc_table.specs.declared.kind.Kind.{Kind}
use Rattle.qc_table.specs.declared.row.Event.{Event}
use Rattle.qc_table.specs.Vocabulary.{Rules, after, event, event_number, events_of, first_of, lowest_in, next_in}
use Rattle.qc_table.specs.Vocabulary.{step_of}
use Rattle.qc_table.proofs.Lowest.{lowest_legal, none_legal}
use Rattle.qc_table.proofs.Numbered.{first_some, number_is}
use Rattle.qc_cert.specs.Vocabulary.{allows}
use Rattle.qc_decl.specs.declared.declaration.Declaration.{Declaration}
use Rattle.qc_decl.specs.Vocabulary.{kind_at, table_at}
use Rattle.qc_view.specs.declared.view.View.{View}
use Rattle.qc_view.specs.Vocabulary.{answer_in, events_in}
use Rattle.theory_onecopy.specs.Vocabulary.{IsAnswered, IsLineBefore, IsOrdered}
use Rattle.qc_front.specs.declared.transaction.Transaction.{Transaction}
use Rattle.qc_front.specs.Vocabulary.{RecordsHold, answer_of, own_on, resp_of, view_log}
use Rattle.laws_refinement.specs.Vocabulary.{absent_of, chosen_of}

below_in : (x : Line) (ys : List Line) → IsBelowAll line_cmp x ys → (y : Line) → In y ys → line_cmp x y ≡ Less
below_in x [] b y among = absurd among
below_in x (z ∷ zs) b y (inl same) = subst (λ (k : Line). line_cmp x k ≡ Less) (sym same) b.0
below_in x (z ∷ zs) b y (inr rest) = below_in x zs b.1 y rest

-- ascending lines are ordered
ordered_lines : (xs : List Line) → IsAscending xs → IsOrdered IsLineBefore xs
ordered_lines [] a = tt
ordered_lines (x ∷ xs) a = (below_in x xs a.0, ordered_lines xs a.1)

table_is : (decl : Declaration) (object : ℕ) (kind : Kind) → kind_at decl object ≡ Some kind
    → table_at decl object ≡ Some kind.table
table_is decl object kind = by (slice_get decl.objects object)
  where
    by : (o : Option ℕ) → option_and_then (slice_get decl.kinds) o ≡ Some kind
        → option_and_then (λ (n : ℕ). option_map (λ (k : Kind). k.table) (slice_get decl.kinds n)) o ≡ Some kind.table
    by None e = absurd (let never : ⊥ = cc in never)
    by (Some n) e = ap (λ (o : Option Kind). option_map (λ (k : Kind). k.table) o) e

-- a declared object has a view

at_same_place : {A B : Type 0} (xs : List A) (ys : List B) (n : ℕ) (y : B) → length xs ≡ length ys
    → slice_get ys n ≡ Some y → (x : A) × (slice_get xs n ≡ Some x)
at_same_place xs [] n y same is = absurd (let never : ⊥ = cc in never)
at_same_place [] (y ∷ ys) n z same is = absurd (omega arith)
at_same_place (x ∷ xs) (y ∷ ys) zero z same is = (x, refl)
at_same_place (x ∷ xs) (y ∷ ys) (suc n) z same is = at_same_place xs ys n z (omega arith) is

pub view_at : (decl : Declaration) (t : Transaction) (object : ℕ) (kind : Kind)
    → RecordsHold decl t.views t.own t.begun.ops → kind_at decl object ≡ Some kind
    → (v : View) × (slice_get t.views object ≡ Some v)
view_at decl t object kind holds = by (slice_get decl.objects object) refl
  where
    by : (o : Option ℕ) → slice_get decl.objects object ≡ o → option_and_then (slice_get decl.kinds) o ≡ Some kind
        → (v : View) × (slice_get t.views object ≡ Some v)
    by None is e = absurd (let never : ⊥ = cc in never)
    by (Some n) is e = at_same_place t.views decl.objects object n holds.count is

abbrev resp_at : Rules → ℕ → ℕ
resp_at rules number = unwrap_or (option_map (λ (e : Event). e.resp) (slice_get (events_of rules.rows) number)) 0

record IsRight (kind : Kind) (events : List ℕ) (inv number : ℕ) : Type 0 where
  numbered : event_number (events_of kind.table.rows) (event inv (resp_at kind.table number)) ≡ Some number
  allowed : allows kind events inv (resp_at kind.table number) ≡ true

some_true : {A : Type 0} (o : Option A) → IsSome o → is_some o ≡ true
some_true o h = h

right : (kind : Kind) (events : List ℕ) (inv number : ℕ) (st : Option ℕ)
    → after (step_of kind.table.rows) kind.table.start events ≡ st
    → option_and_then (λ (s : ℕ). first_of kind.table.rows s inv) st ≡ Some number → IsRight kind events inv number
right kind events inv number None is e = absurd (let never : ⊥ = cc in never)
right kind events inv number (Some s) is e = by (lowest_in kind.table.rows s inv) refl e
  where
    by : (l : Option ℕ) → lowest_in kind.table.rows s inv ≡ l
        → option_and_then (λ (r : ℕ). event_number (events_of kind.table.rows) (event inv r)) l ≡ Some number
        → IsRight kind events inv number
    by None lo e = absurd (let never : ⊥ = cc in never)
    by (Some r) lo e =
        let same : resp_at kind.table number ≡ r =
        ap (λ (o : Option Event). unwrap_or (option_map (λ (v : Event). v.resp) o) 0)
        (number_is (events_of kind.table.rows) (event inv r) number e) in
        record {
          numbered = ap (λ (v : ℕ). event_number (events_of kind.table.rows) (event inv v)) same ∙ e;
          allowed = ap (λ (v : ℕ). allows kind events inv v) same
              ∙ ap (λ (o : Option ℕ). is_some (option_and_then (λ (t : ℕ). next_in kind.table.rows t (event inv r)) o))
              is ∙ some_true (next_in kind.table.rows s (event inv r)) (lowest_legal kind.table.rows s inv r lo);
        }

none_allowed : (kind : Kind) (events : List ℕ) (inv : ℕ) (st : Option ℕ)
    → after (step_of kind.table.rows) kind.table.start events ≡ st
    → option_and_then (λ (s : ℕ). first_of kind.table.rows s inv) st ≡ None → (resp : ℕ)
    → allows kind events inv resp ≡ false
none_allowed kind events inv None is e resp =
    ap (λ (o : Option ℕ). is_some (option_and_then (λ (t : ℕ). next_in kind.table.rows t (event inv resp)) o)) is
none_allowed kind events inv (Some s) is e resp = by (lowest_in kind.table.rows s inv) refl e
  where
    by : (l : Option ℕ) → lowest_in kind.table.rows s inv ≡ l
        → option_and_then (λ (r : ℕ). event_number (events_of kind.table.rows) (event inv r)) l ≡ None
        → allows kind events inv resp ≡ false
    by None lo e = ap (λ (o : Option ℕ). is_some
        (option_and_then (λ (t : ℕ). next_in kind.table.rows t (event inv resp)) o)) is
        ∙ ap (λ (o : Option ℕ). is_some o) (none_legal kind.table.rows s inv lo resp)
    by (Some r) lo e = absurd (first_some kind.table.rows s inv r lo e)

module _ (decl : Declaration) (t : Transaction) (object inv : ℕ) (kind : Kind)
    (holds : RecordsHold decl t.views t.own t.begun.ops) (typed : kind_at decl object ≡ Some kind)
    (sorted : IsAscending (view_log t object)) where
  -- the events that the view and the own lines give
  abbrev seen : List ℕ
  seen = map (λ (l : Line). l.event) (view_log t object) ++ map (λ (o : OwnLine). o.event) (own_on t.own object)

  seen_is : (v : View) → slice_get t.views object ≡ Some v → events_in v ≡ seen
  seen_is v is =
      ap (λ (os : List ℕ). map (λ (l : Line). l.event) v.log ++ os) (holds.own_events object v is)
      ∙ ap (λ (ls : List Line). map (λ (l : Line). l.event) ls ++ map (λ (o : OwnLine). o.event) (own_on t.own object))
      (sym (ap (λ (o : Option View). option_map_or (λ (x : View). x.log) o []) is))

  -- the answer, found in the table after these events
  found : (answer : Option ℕ) → answer_of decl t object inv ≡ answer
      → option_and_then (λ (s : ℕ). first_of kind.table.rows s inv)
      (after (step_of kind.table.rows) kind.table.start seen) ≡ answer
  found answer is =
      let v : (v : View) × (slice_get t.views object ≡ Some v) = view_at decl t object kind holds typed in
      ap (λ (es : List ℕ). option_and_then (λ (s : ℕ). first_of kind.table.rows s inv)
      (after (step_of kind.table.rows) kind.table.start es)) (sym (seen_is v.0 v.1))
      ∙ sym (ap (λ (o : Option View). option_and_then (λ (x : View). answer_in kind.table x inv) o) v.1)
      ∙ sym (ap (λ (o : Option Rules). option_and_then
      (λ (rules : Rules). option_and_then (λ (x : View). answer_in rules x inv) (slice_get t.views object)) o)
      (table_is decl object kind typed))
      ∙ is

  pub chosen_answered : (number : ℕ) → answer_of decl t object inv ≡ Some number
      → IsAnswered decl (chosen_of decl t object inv number)
  chosen_answered number is =
      let resp : resp_of decl object number ≡ resp_at kind.table number =
      ap (λ (o : Option Rules). unwrap_or (option_and_then
      (λ (rules : Rules). option_map (λ (e : Event). e.resp) (slice_get (events_of rules.rows) number)) o) 0)
      (table_is decl object kind typed) in
      let r : IsRight kind seen inv number = right kind seen inv number
      (after (step_of kind.table.rows) kind.table.start seen) refl (found (Some number) is) in
      record {
        kind = kind;
        typed = typed;
        numbered = λ k e. (let same : resp_of decl object number ≡ k = cc in
            ap (λ (v : ℕ). event_number (events_of kind.table.rows) (event inv v)) (sym same ∙ resp) ∙ r.numbered);
        replies = ap (λ (v : ℕ). allows kind seen inv v) resp ∙ r.allowed;
        sorted = ordered_lines (view_log t object) sorted;
      }

  pub absent_answered : answer_of decl t object inv ≡ None → IsAnswered decl (absent_of t object inv)
  absent_answered is = record {
    kind = kind;
    typed = typed;
    numbered = λ k e. absurd (let never : ⊥ = cc in never);
    replies = none_allowed kind seen inv (after (step_of kind.table.rows) kind.table.start seen) refl (found None is);
    sorted = ordered_lines (view_log t object) sorted;
  }

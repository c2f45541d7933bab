-- The begun transaction as the account tells it: the view's answer, its lines, and what a grant and an event change.
use Rattle.std.proofs.Common.{◌≡◌, ◌≢◌, ℕ, zero, suc, ◌==◌, Bool, true, false, cond, List, [], ◌∷◌, ◌++◌, length, map}
use Rattle.std.proofs.Common.{filter, Option, Some, None, option_map, refl, sym, ap, ◌∙◌, eq-eqb, eqb-true, arith}
use Rattle.std.specs.Prelude.{fold, option_and_then, slice_get, slice_set}
use Rattle.std.specs.Option.{option_map_or}
use Rattle.std.proofs.lemmas.List.Elements.{filter-append}
use Rattle.std.proofs.lemmas.List.Sums.{fold-append}
use Rattle.qc_table.specs.Vocabulary.{Rules, after, first_of, step_of}
use Rattle.qc_table.specs.declared.kind.Kind.{Kind}
use Rattle.qc_decl.specs.declared.declaration.Declaration.{Declaration}
use Rattle.qc_decl.specs.Vocabulary.{table_at}
use Rattle.qc_entry.specs.declared.line.Line.{Line}
use Rattle.qc_entry.specs.Vocabulary.{union}
use Rattle.qc_view.specs.declared.view.View.{View}
use Rattle.qc_view.specs.Vocabulary.{answer_in, with_log, with_own}
use Rattle.qc_front.specs.Answering as fronts
use Rattle.qc_front.specs.Vocabulary.{RecordsHold, view_log, with_event, with_granted, with_view}
use Rattle.qc_front.proofs.Recording.{get_set, get_other}
use Rattle.qc_promise.specs.Vocabulary.{Current, ReadGrant, answer_by, answer_of, resp_of, view_of, with_read}
use Rattle.qc_promise.specs.Vocabulary.{with_response}
use Rattle.laws_due.specs.Vocabulary.{IsBegun, transaction_of}

-- lists of one length have items at the same places

pub record Has {A : Type 0} (xs : List A) (i : ℕ) : Type 0 where
  pub item : A
  pub at : slice_get xs i ≡ Some item

has_too : {A B : Type 0} (xs : List A) (ys : List B) (i : ℕ) (x : A) → slice_get xs i ≡ Some x → length xs ≡ length ys
    → Has ys i
has_too [] ys i x is same = absurd (let never : ⊥ = cc in never)
has_too (z ∷ xs) [] i x is same = absurd (omega arith)
has_too (z ∷ xs) (y ∷ ys) zero x is same = record { item = y; at = refl }
has_too (z ∷ xs) (y ∷ ys) (suc i) x is same = let h : Has ys i = has_too xs ys i x is (omega arith) in
    record { item = h.item; at = h.at }

-- the logs of views
abbrev pub LogsAre : (ℕ → List Line) → List View → Type 0
LogsAre logs views = (object : ℕ) (v : View) → slice_get views object ≡ Some v → v.log ≡ logs object

-- the object of an answer is declared
declared : (decl : Declaration) (t : Current) (object inv event : ℕ) (views : List View)
    → length views ≡ length decl.objects → answer_of decl t object inv ≡ Some event → Has views object
declared decl t object inv event views same chosen = by (slice_get decl.objects object) refl chosen
  where
    by : (o : Option ℕ) → slice_get decl.objects object ≡ o
        → option_and_then (answer_by t object inv)
        (option_and_then (λ kind. option_map (λ (k : Kind). k.table) (slice_get decl.kinds kind)) o) ≡ Some event
        → Has views object
    by None is never = absurd (let no_way : ⊥ = cc in no_way)
    by (Some kind) is some = has_too decl.objects views object kind is (sym same)

pub answer_same : (decl : Declaration) (t : Current) (asked : List ℕ) (views : List View) (object inv : ℕ)
    → RecordsHold decl views t.own t.ops → LogsAre (view_of t) views
    → fronts.answer_of decl (transaction_of t asked views) object inv ≡ answer_of decl t object inv
answer_same decl t asked views object inv records logs = by (slice_get decl.objects object) refl
  where
    tables : Option ℕ → Option Rules
    tables o = option_and_then (λ kind. option_map (λ (k : Kind). k.table) (slice_get decl.kinds kind)) o

    seen : (v : View) → slice_get views object ≡ Some v → (rules : Rules)
        → option_and_then (λ (w : View). answer_in rules w inv) (slice_get views object) ≡ answer_by t object inv rules
    seen v at rules =
        ap (λ (o : Option View). option_and_then (λ (w : View). answer_in rules w inv) o) at
        ∙ (λ i. option_and_then (λ (state : ℕ). first_of rules.rows state inv)
        (after (step_of rules.rows) rules.start (map (λ (l : Line). l.event) (logs object v at i)
        ++ records.own_events object v at i)))

    by : (o : Option ℕ) → slice_get decl.objects object ≡ o
        → option_and_then (λ (rules : Rules). option_and_then (λ (w : View). answer_in rules w inv)
        (slice_get views object)) (table_at decl object) ≡ option_and_then (answer_by t object inv)
        (table_at decl object)
    by None is =
        ap (λ (o : Option ℕ). option_and_then (λ (rules : Rules). option_and_then (λ (w : View). answer_in rules w inv)
        (slice_get views object)) (option_and_then
        (λ kind. option_map (λ (k : Kind). k.table) (slice_get decl.kinds kind)) o)) is
        ∙ sym (ap (λ (o : Option ℕ). option_and_then (answer_by t object inv)
        (option_and_then (λ kind. option_map (λ (k : Kind). k.table) (slice_get decl.kinds kind)) o)) is)
    by (Some kind) is =
        let h : Has views object = has_too decl.objects views object kind is (sym records.count) in
        at_table (table_at decl object) h
      where
        at_table : (o : Option Rules) → Has views object
            → option_and_then (λ (rules : Rules). option_and_then (λ (w : View). answer_in rules w inv)
            (slice_get views object)) o ≡ option_and_then (answer_by t object inv) o
        at_table None h = refl
        at_table (Some rules) h = seen h.item h.at rules

pub view_same : (decl : Declaration) (t : Current) (asked : List ℕ) (views : List View) (object inv event : ℕ)
    → RecordsHold decl views t.own t.ops → LogsAre (view_of t) views → answer_of decl t object inv ≡ Some event
    → view_log (transaction_of t asked views) object ≡ view_of t object
view_same decl t asked views object inv event records logs chosen =
    let h : Has views object = declared decl t object inv event views records.count chosen in
    ap (λ (o : Option View). option_map_or (λ (v : View). v.log) o []) h.at ∙ logs object h.item h.at

-- the view of one object changes

set_logs : (views : List View) (asked : List ℕ) (t : Current) (object : ℕ) (change : View → View)
    (old new : ℕ → List Line) → LogsAre old views
    → ((w : View) → w.log ≡ old object → (change w).log ≡ new object)
    → ((k : ℕ) → (object == k) ≡ false → old k ≡ new k)
    → LogsAre new (with_view (transaction_of t asked views) object (option_map change (slice_get views object))).views
set_logs views asked t object change old new logs here there = by (slice_get views object) refl
  where
    apart : (k : ℕ) → k ≢ object → (object == k) ≡ false
    apart k other = at (object == k) refl
      where
        at : (b : Bool) → (object == k) ≡ b → b ≡ false
        at true same = absurd (other (sym (eqb-true object k same)))
        at false same = refl

    by : (o : Option View) → slice_get views object ≡ o
        → LogsAre new (with_view (transaction_of t asked views) object (option_map change o)).views
    by None is k v at = logs k v at ∙ there k
        (apart k (λ same. (let has : None ≡ Some v = sym is ∙ ap (slice_get views) (sym same)
        ∙ at in let never : ⊥ = cc in never)))
    by (Some w) is k v at = at_place (k == object) refl
      where
        at_place : (b : Bool) → (k == object) ≡ b → v.log ≡ new k
        at_place true eq =
            let same : k ≡ object = eqb-true k object eq in
            let first : slice_get (slice_set views object (change w)) k ≡ Some (change w) =
            ap (slice_get (slice_set views object (change w))) same ∙ get_set views object w (change w) is in
            let view : v ≡ change w = cc in
            ap (λ (u : View). u.log) view ∙ here w (logs object w is) ∙ ap new (sym same)
        at_place false eq =
            let other : k ≢ object = (λ same. (let never : false ≡ true = sym eq
            ∙ eq-eqb k object same in let no_way : ⊥ = cc in no_way)) in
            logs k v (sym (get_other views object k (change w) other) ∙ at) ∙ there k (apart k other)

-- a grant to a Read

view_more : (t : Current) (object : ℕ) (log : List Line) (k : ℕ)
    → view_of (with_read t object log) k ≡ cond (object == k) (union (view_of t k) log) (view_of t k)
view_more t object log k =
    ap (λ (gs : List ReadGrant). fold (λ (lines : List Line) (g : ReadGrant). union lines g.log) [] gs)
    (filter-append (λ (g : ReadGrant). g.object == k) t.read_grants (record { object = object; log = log } ∷ []))
    ∙ fold-append (λ (lines : List Line) (g : ReadGrant). union lines g.log) []
    (filter (λ (g : ReadGrant). g.object == k) t.read_grants)
    (filter (λ (g : ReadGrant). g.object == k) (record { object = object; log = log } ∷ []))
    ∙ by (object == k)
  where
    by : (b : Bool) → fold (λ (lines : List Line) (g : ReadGrant). union lines g.log) (view_of t k)
        (cond b (record { object = object; log = log } ∷ []) []) ≡ cond b (union (view_of t k) log) (view_of t k)
    by true = refl
    by false = refl

pub granted_begun : (t : Current) (asked : List ℕ) (views : List View) (object : ℕ) (log : List Line)
    → LogsAre (view_of t) views
    → IsBegun (with_read t object log) (with_granted (transaction_of t asked views) object log)
granted_begun t asked views object log logs = record {
  is = by (slice_get views object);
  logs = set_logs views asked t object (λ (v : View). with_log v log) (view_of t)
      (view_of (with_read t object log)) logs
      (λ w is. ap (λ (lines : List Line). union lines log) is
      ∙ sym (view_more t object log object ∙ ap
      (λ (b : Bool). cond b (union (view_of t object) log) (view_of t object)) (eq-eqb object object refl)))
      (λ k other. sym (view_more t object log k
      ∙ ap (λ (b : Bool). cond b (union (view_of t k) log) (view_of t k)) other));
}
  where
    by : (o : Option View) → with_view (transaction_of t asked views) object
        (option_map (λ (v : View). with_log v log) o)
        ≡ transaction_of (with_read t object log)
        (with_view (transaction_of t asked views) object (option_map (λ (v : View). with_log v log) o)).begun.asked
        (with_view (transaction_of t asked views) object (option_map (λ (v : View). with_log v log) o)).views
    by None = refl
    by (Some v) = refl

-- an operation with its event

pub event_begun : (decl : Declaration) (t : Current) (asked : List ℕ) (views : List View) (object inv event : ℕ)
    → LogsAre (view_of t) views
    → IsBegun (with_response decl t object inv (Some event))
    (with_event (transaction_of t asked views) object inv event (resp_of decl object event))
event_begun decl t asked views object inv event logs = by (slice_get views object) refl
  where
    later : Current
    later = with_response decl t object inv (Some event)

    changed : LogsAre (view_of t) (with_view (transaction_of t asked views) object
        (option_map (λ (v : View). with_own v event) (slice_get views object))).views
    changed = set_logs views asked t object (λ (v : View). with_own v event) (view_of t) (view_of t) logs (λ w is. is)
        (λ k other. refl)

    by : (o : Option View) → slice_get views object ≡ o
        → IsBegun (with_response decl t object inv (Some event))
        (with_event (transaction_of t asked views) object inv event (resp_of decl object event))
    by None is = rw is (record { is = refl; logs = rw is at changed })
    by (Some v) is = rw is (record { is = refl; logs = rw is at changed })

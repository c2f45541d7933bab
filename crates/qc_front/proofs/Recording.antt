-- A transaction's views, own lines and operations stay together as it goes on.
use Rattle.std.proofs.Common.{◌≡◌, ◌≢◌, ℕ, zero, suc, ◌+◌, ◌<◌, ◌≤◌, ◌==◌, Bool, true, false, cond, ◌⊎◌, inl, inr, List}
use Rattle.std.proofs.Common.{[], ◌∷◌, ◌++◌, map, length, replicate, Option, Some, None, option_map, refl, sym, ap, ◌∙◌}
use Rattle.std.proofs.Common.{subst, eq-eqb, eqb-true, arith}
use Rattle.std.specs.Prelude.{slice_get, slice_set}
use Rattle.std.specs.Ordering.{nat_cmp}
use Rattle.std.proofs.lemmas.List.{append-nil, length-append, length-replicate, length-set, map-append}
use Rattle.std.proofs.lemmas.List.Elements.{filter-append}
use Rattle.qc_list.specs.Vocabulary.{Ascends, In, IsBelowAll}
use Rattle.qc_list.proofs.Members.{In-more}
use Rattle.qc_decl.specs.declared.declaration.Declaration.{Declaration}
use Rattle.qc_entry.specs.declared.line.Line.{Line}
use Rattle.qc_entry.specs.declared.line.Op.{Op}
use Rattle.qc_entry.specs.declared.line.OwnLine.{OwnLine}
use Rattle.qc_msg.specs.declared.message.Answer.{Answer}
use Rattle.qc_msg.specs.declared.message.Answer.TheVariants as answers
use Rattle.qc_view.specs.declared.view.View.{View}
use Rattle.qc_view.specs.Vocabulary.{empty_view, with_log, with_own}
use Rattle.qc_front.specs.declared.transaction.Transaction.{Transaction}
use Rattle.qc_front.specs.Vocabulary.{RecordsHold, lived, next_own, own_on, read_with, with_event, with_granted}
use Rattle.qc_front.specs.Vocabulary.{with_view}
use Rattle.qc_list.proofs.Numbers.{cmp_below}
use Rattle.qc_list.proofs.Places.{replicate_at}

-- an item at a place, after a write

pub get_set : {A : Type 0} (xs : List A) (i : ℕ) (x y : A) → slice_get xs i ≡ Some x
    → slice_get (slice_set xs i y) i ≡ Some y
get_set [] i x y is = let never : ⊥ = cc in absurd never
get_set (z ∷ zs) zero x y is = refl
get_set (z ∷ zs) (suc i) x y is = get_set zs i x y is

pub get_other : {A : Type 0} (xs : List A) (i j : ℕ) (y : A) → j ≢ i → slice_get (slice_set xs i y) j ≡ slice_get xs j
get_other [] i j y apart = refl
get_other (z ∷ zs) zero zero y apart = absurd (apart refl)
get_other (z ∷ zs) zero (suc j) y apart = refl
get_other (z ∷ zs) (suc i) zero y apart = refl
get_other (z ∷ zs) (suc i) (suc j) y apart = get_other zs i j y (λ same. apart (ap (λ (n : ℕ). suc n) same))

-- one more at the end of ascending numbers

below_last : (x n : ℕ) (ys : List ℕ) → x < n → IsBelowAll nat_cmp x ys → IsBelowAll nat_cmp x (ys ++ n ∷ [])
below_last x n [] low below = (cmp_below x n low, tt)
below_last x n (y ∷ ys) low below = (below.0, below_last x n ys low below.1)

pub below_one : (x : ℕ) (ys : List ℕ) → ((y : ℕ) → In y ys → x < y) → IsBelowAll nat_cmp x ys
below_one x [] low = tt
below_one x (y ∷ ys) low = (cmp_below x y (low y (inl refl)), below_one x ys (λ z among. low z (inr among)))

pub ascends_last : (xs : List ℕ) (n : ℕ) → Ascends nat_cmp xs → ((x : ℕ) → In x xs → x < n)
    → Ascends nat_cmp (xs ++ n ∷ [])
ascends_last [] n ascends low = (tt, tt)
ascends_last (x ∷ xs) n ascends low = (
  below_last x n xs (low x (inl refl)) ascends.0,
  ascends_last xs n ascends.1 (λ y among. low y (inr among)),
)

-- one operation more

pushed : {A : Type 0} (xs : List A) (x : A) → length (xs ++ x ∷ []) ≡ length xs + 1
pushed xs x = length-append xs (x ∷ [])

pub op_recorded : (decl : Declaration) (views : List View) (own : List OwnLine) (ops : List Op) (op : Op)
    → RecordsHold decl views own ops → RecordsHold decl views own (ops ++ op ∷ [])
op_recorded decl views own ops op h = record {
  count = h.count;
  own_events = h.own_events;
  ascending = h.ascending;
  within = λ l among. (let low : l.op ≤ length ops = h.within l among in
      let more : length (ops ++ op ∷ []) ≡ length ops + 1 = pushed ops op in omega arith);
}

-- one own line more

own_numbers : (own : List OwnLine) (next : OwnLine) (many : ℕ) → ((l : OwnLine) → In l own → l.op ≤ many)
    → next.op ≡ many + 1 → Ascends nat_cmp (map (λ (l : OwnLine). l.op) own)
    → Ascends nat_cmp (map (λ (l : OwnLine). l.op) (own ++ next ∷ []))
own_numbers own next many within is ascends =
    subst (λ (ns : List ℕ). Ascends nat_cmp ns) (sym (map-append (λ (l : OwnLine). l.op) own (next ∷ [])))
    (ascends_last (map (λ (l : OwnLine). l.op) own) next.op ascends (λ x among. low x own within among))
  where
    low : (x : ℕ) (ls : List OwnLine) → ((l : OwnLine) → In l ls → l.op ≤ many) → In x (map (λ (l : OwnLine). l.op) ls)
        → x < next.op
    low x [] all among = absurd among
    low x (l ∷ ls) all (inl same) = (let few : l.op ≤ many = all l (inl refl) in let eq : x ≡ l.op = same in
        omega arith)
    low x (l ∷ ls) all (inr later) = low x ls (λ k k_in. all k (inr k_in)) later

own_within : (own : List OwnLine) (next : OwnLine) (ops : List Op) (op : Op)
    → ((l : OwnLine) → In l own → l.op ≤ length ops) → next.op ≡ length ops + 1
    → (l : OwnLine) → In l (own ++ next ∷ []) → l.op ≤ length (ops ++ op ∷ [])
own_within own next ops op within is l among = by (In-more l next own among)
  where
    more : length (ops ++ op ∷ []) ≡ length ops + 1
    more = pushed ops op

    by : In l own ⊎ (l ≡ next) → l.op ≤ length (ops ++ op ∷ [])
    by (inl old) = (let few : l.op ≤ length ops = within l old in
        let size : length (ops ++ op ∷ []) ≡ length ops + 1 = more in omega arith)
    by (inr same) = (let eq : l.op ≡ next.op = ap (λ (k : OwnLine). k.op) same in
        let size : length (ops ++ op ∷ []) ≡ length ops + 1 = more in omega arith)

-- the own lines of an object, with one more of an object

abbrev events_on : List OwnLine → ℕ → List ℕ
events_on own object = map (λ (l : OwnLine). l.event) (own_on own object)

one_more : (own : List OwnLine) (next : OwnLine) (object : ℕ)
    → events_on (own ++ next ∷ []) object ≡ events_on own object ++ cond (next.object == object) (next.event ∷ []) []
one_more own next object =
    ap (λ (ls : List OwnLine). map (λ (l : OwnLine). l.event) ls)
    (filter-append (λ (l : OwnLine). l.object == object) own (next ∷ []))
    ∙ map-append (λ (l : OwnLine). l.event) (own_on own object) (own_on (next ∷ []) object)
    ∙ ap (λ (es : List ℕ). events_on own object ++ es) (by (next.object == object))
  where
    by : (t : Bool) → map (λ (l : OwnLine). l.event) (cond t (next ∷ []) []) ≡ cond t (next.event ∷ []) []
    by true = refl
    by false = refl

own_here : (own : List OwnLine) (next : OwnLine) (object : ℕ) → next.object ≡ object
    → events_on (own ++ next ∷ []) object ≡ events_on own object ++ next.event ∷ []
own_here own next object same = one_more own next object
    ∙ ap (λ (t : Bool). events_on own object ++ cond t (next.event ∷ []) []) (eq-eqb next.object object same)

own_there : (own : List OwnLine) (next : OwnLine) (object : ℕ) → (next.object ≡ object → ⊥)
    → events_on (own ++ next ∷ []) object ≡ events_on own object
own_there own next object apart = one_more own next object ∙ by (next.object == object) refl
  where
    by : (t : Bool) → (next.object == object) ≡ t
        → events_on own object ++ cond t (next.event ∷ []) [] ≡ events_on own object
    by true is = absurd (apart (eqb-true next.object object is))
    by false is = append-nil (events_on own object)

-- one operation more, with its event
pub event_recorded : (decl : Declaration) (t : Transaction) (object inv event resp : ℕ)
    → RecordsHold decl t.views t.own t.begun.ops
    → RecordsHold decl (with_event t object inv event resp).views (with_event t object inv event resp).own
    (with_event t object inv event resp).begun.ops
event_recorded decl t object inv event resp h = by (slice_get t.views object) refl
  where
    next : OwnLine
    next = next_own t object event

    op : Op
    op = record { object = object; inv = inv; resp = Some resp }

    by : (o : Option View) → slice_get t.views object ≡ o
        → RecordsHold decl (with_view (record t { own = t.own ++ next_own t object event ∷ [] }) object
        (option_map (λ (v : View). with_own v event) o)).views
        (with_view (record t { own = t.own ++ next_own t object event ∷ [] }) object
        (option_map (λ (v : View). with_own v event) o)).own
        ((with_view (record t { own = t.own ++ next_own t object event ∷ [] }) object
        (option_map (λ (v : View). with_own v event) o)).begun.ops
        ++ record { object = object; inv = inv; resp = Some resp } ∷ [])
    by None is = record {
      count = h.count;
      own_events = λ k v at.
          h.own_events k v at ∙ sym (own_there t.own (next_own t object event) k
          (λ same. (let has : None ≡ Some v = sym is ∙ ap (slice_get t.views) same
          ∙ at in let never : ⊥ = cc in never)));
      ascending = own_numbers t.own (next_own t object event) (length t.begun.ops) h.within refl h.ascending;
      within = own_within t.own (next_own t object event) t.begun.ops
          (record { object = object; inv = inv; resp = Some resp }) h.within refl;
    }
    by (Some w) is = record {
      count = length-set t.views object (with_own w event) ∙ h.count;
      own_events = λ k v at. at_place k v at (k == object) refl;
      ascending = own_numbers t.own (next_own t object event) (length t.begun.ops) h.within refl h.ascending;
      within = own_within t.own (next_own t object event) t.begun.ops
          (record { object = object; inv = inv; resp = Some resp }) h.within refl;
    }
      where
        at_place : (k : ℕ) (v : View) → slice_get (slice_set t.views object (with_own w event)) k ≡ Some v → (b : Bool)
            → (k == object) ≡ b → v.own ≡ events_on (t.own ++ next_own t object event ∷ []) k
        at_place k v at true eq =
            let same : k ≡ object = eqb-true k object eq in
            let here : slice_get (slice_set t.views object (with_own w event)) k ≡ Some (with_own w event) =
            ap (slice_get (slice_set t.views object (with_own w event))) same
            ∙ get_set t.views object w (with_own w event) is in
            let view : v ≡ with_own w event = cc in
            ap (λ (u : View). u.own) view
            ∙ ap (λ (es : List ℕ). es ++ event ∷ []) (h.own_events object w is ∙ ap (events_on t.own) (sym same))
            ∙ sym (own_here t.own (next_own t object event) k (sym same))
        at_place k v at false eq =
            let apart : k ≢ object = (λ same. (let never : false ≡ true = sym eq
            ∙ eq-eqb k object same in let no_way : ⊥ = cc in no_way)) in
            h.own_events k v (sym (get_other t.views object k (with_own w event) apart) ∙ at)
            ∙ sym (own_there t.own (next_own t object event) k (λ same. apart (sym same)))

-- a log joins a view
pub granted_recorded : (decl : Declaration) (t : Transaction) (object : ℕ) (log : List Line)
    → RecordsHold decl t.views t.own t.begun.ops
    → RecordsHold decl (with_granted t object log).views (with_granted t object log).own
    (with_granted t object log).begun.ops
granted_recorded decl t object log h = by (slice_get t.views object) refl
  where
    by : (o : Option View) → slice_get t.views object ≡ o
        → RecordsHold decl (with_view t object (option_map (λ (v : View). with_log v log) o)).views
        (with_view t object (option_map (λ (v : View). with_log v log) o)).own
        (with_view t object (option_map (λ (v : View). with_log v log) o)).begun.ops
    by None is = h
    by (Some w) is = record {
      count = length-set t.views object (with_log w log) ∙ h.count;
      own_events = λ k v at. at_place k v at (k == object) refl;
      ascending = h.ascending;
      within = h.within;
    }
      where
        at_place : (k : ℕ) (v : View) → slice_get (slice_set t.views object (with_log w log)) k ≡ Some v → (b : Bool)
            → (k == object) ≡ b → v.own ≡ events_on t.own k
        at_place k v at true eq =
            let same : k ≡ object = eqb-true k object eq in
            let here : slice_get (slice_set t.views object (with_log w log)) k ≡ Some (with_log w log) =
            ap (slice_get (slice_set t.views object (with_log w log))) same
            ∙ get_set t.views object w (with_log w log) is in
            let view : v ≡ with_log w log = cc in
            ap (λ (u : View). u.own) view ∙ h.own_events object w is ∙ ap (events_on t.own) (sym same)
        at_place k v at false eq =
            let apart : k ≢ object = (λ same. (let never : false ≡ true = sym eq
            ∙ eq-eqb k object same in let no_way : ⊥ = cc in no_way)) in
            h.own_events k v (sym (get_other t.views object k (with_log w log) apart) ∙ at)

-- what came of a request
pub read_recorded : (decl : Declaration) (t : Transaction) (site object : ℕ) (answer : Option Answer)
    → RecordsHold decl t.views t.own t.begun.ops
    → RecordsHold decl (read_with t site object answer).views (read_with t site object answer).own
    (read_with t site object answer).begun.ops
read_recorded decl t site object None h = h
read_recorded decl t site object (Some (answers.Granted grant)) h =
    granted_recorded decl (lived t site grant.life) object grant.log h
read_recorded decl t site object (Some (answers.Clash holder inv event)) h = h
read_recorded decl t site object (Some (answers.Closed epoch)) h = h
read_recorded decl t site object (Some (answers.Behind epoch)) h = h
read_recorded decl t site object (Some (answers.Restarted life)) h = h
read_recorded decl t site object (Some answers.Stale) h = h
read_recorded decl t site object (Some answers.Fault) h = h
read_recorded decl t site object (Some (answers.Yes clock)) h = h
read_recorded decl t site object (Some (answers.Shut snapshot)) h = h
read_recorded decl t site object (Some answers.Installed) h = h
read_recorded decl t site object (Some (answers.Answered verdict)) h = h

-- a transaction at its beginning
pub fresh_recorded : (decl : Declaration) → RecordsHold decl (replicate (length decl.objects) empty_view) [] []
fresh_recorded decl = record {
  count = length-replicate (length decl.objects) empty_view;
  own_events = λ object v at. ap (λ (u : View). u.own) (replicate_at (length decl.objects) object empty_view v at);
  ascending = tt;
  within = λ l among. absurd among;
}

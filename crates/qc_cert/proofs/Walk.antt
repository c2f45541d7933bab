-- A walk over a history: after each event some triple has the view's state and the log's, and leaves out only what the
-- view does.
use Rattle.std.proofs.Common.{◌≡◌, ℕ, suc, Bool, true, false, IsTrue, ◌⊎◌, inl, inr, ⊎_elim, List, [], ◌∷◌, Option}
use Rattle.std.proofs.Common.{Some, None, slice_get, refl, sym, ap, ◌∙◌, subst, suc-le-suc, zero-lt-suc}
use Rattle.std.specs.Prelude.{is_some, IsSome, ◌||◌, ◌==◌, option_and_then}
use Rattle.std.proofs.lemmas.Nat.Bits.{bit_at-zero}
use Rattle.std.proofs.lemmas.Bool.{eqb-true, false_from_ne_true, true≢false}
use Rattle.qc_table.proofs.Related.{has_with}
use Rattle.qc_table.proofs.Runs.{reached_none}
use Rattle.qc_table.specs.Vocabulary.{depends, event, events_of, has, next_in, reached, step_of, with_member}
use Rattle.qc_table.specs.declared.kind.Kind.{Kind}
use Rattle.qc_table.specs.declared.row.Event.{Event}
use Rattle.qc_cert.specs.Vocabulary.{IsAccountedFor, IsClosed, IsCovered, IsExact, IsFree, IsInductive, IsLegalFor}
use Rattle.qc_cert.specs.Vocabulary.{StandsOutside, inv_of, is_allowed, picked, state_after, triple}
use Rattle.qc_cert.specs.declared.triple.Triple.{Triple}

some_of : {A : Type 0} (o : Option A) → IsSome o → (x : A) × (o ≡ Some x)
some_of None h = absurd (let never : ⊥ = cc in never)
some_of (Some x) h = (x, refl)

-- what steps has a number, and its event is allowed there
pub record IsStep (kind : Kind) (state e next : ℕ) : Type 0 where
  pub resp : ℕ
  pub numbered : slice_get (events_of kind.table.rows) e ≡ Some (event (inv_of kind e) resp)
  pub goes : next_in kind.table.rows state (event (inv_of kind e) resp) ≡ Some next

pub step_is : (kind : Kind) (state e next : ℕ) → step_of kind.table.rows state e ≡ Some next → IsStep kind state e next
step_is kind state e next s = by (slice_get (events_of kind.table.rows) e) refl s
  where
    by : (o : Option Event) → slice_get (events_of kind.table.rows) e ≡ o
        → option_and_then (next_in kind.table.rows state) o ≡ Some next → IsStep kind state e next
    by None at s = absurd (let never : ⊥ = cc in never)
    by (Some x) at s =
        let inv : inv_of kind e ≡ x.inv = rw at in
        let same : x ≡ event (inv_of kind e) x.resp = ap (λ i. event i x.resp) (sym inv) in
        record {
          resp = x.resp;
          numbered = at ∙ ap Some same;
          goes = subst (λ (y : Event). next_in kind.table.rows state y ≡ Some next) same s;
        }

-- where the log takes an event and the view allows what the log does, the view takes it too
pub steps_too : (kind : Kind) (view log e next : ℕ)
    → ((resp : ℕ) → is_allowed kind view (inv_of kind e) resp ≡ is_allowed kind log (inv_of kind e) resp)
    → step_of kind.table.rows log e ≡ Some next → (g : ℕ) × (step_of kind.table.rows view e ≡ Some g)
steps_too kind view log e next same s =
    let i : IsStep kind log e next = step_is kind log e next s in
    let allowed : is_allowed kind view (inv_of kind e) i.resp ≡ true = same i.resp ∙ ap is_some i.goes in
    let g : (x : ℕ) × (next_in kind.table.rows view (event (inv_of kind e) i.resp) ≡ Some x) =
    some_of (next_in kind.table.rows view (event (inv_of kind e) i.resp)) allowed in
    (g.0, ap (option_and_then (next_in kind.table.rows view)) i.numbered ∙ g.1)

-- the members of a set with one more are that one and those that it had
added : (out e f : ℕ) → IsTrue (has (with_member out e) f) → IsTrue (has out f) ⊎ (e ≡ f)
added out e f h = by (has out f) refl (sym (has_with out e f) ∙ h)
  where
    by : (b : Bool) → has out f ≡ b → (b || (e == f)) ≡ true → IsTrue (has out f) ⊎ (e ≡ f)
    by true here h = inl here
    by false here h = inr (eqb-true e f h)

-- a test that passes and fails
clash : {A : Type 0} {b : Bool} → b ≡ true → b ≡ false → A
clash t f = absurd (true≢false (sym t ∙ f))

-- where the first event is picked, and where it isn't
goes_in : (step : ℕ → ℕ → Option ℕ) (set : ℕ → Bool) (e : ℕ) (es : List ℕ) (view next end : ℕ) → set 0 ≡ true
    → step view e ≡ Some next
    → reached step (Some next) (picked (λ p. set (suc p)) es) ≡ Some end
    → reached step (Some view) (picked set (e ∷ es)) ≡ Some end
goes_in step set e es view next end b s run =
    rw b (subst (λ (o : Option ℕ). reached step o (picked (λ p. set (suc p)) es) ≡ Some end) (sym s) run)

goes_by : (step : ℕ → ℕ → Option ℕ) (set : ℕ → Bool) (e : ℕ) (es : List ℕ) (view end : ℕ) → set 0 ≡ false
    → reached step (Some view) (picked (λ p. set (suc p)) es) ≡ Some end
    → reached step (Some view) (picked set (e ∷ es)) ≡ Some end
goes_by step set e es view end b run = rw b run

module _ (kind : Kind) (list : List Triple) (ind : IsInductive kind list) where
  abbrev step : ℕ → ℕ → Option ℕ
  step = step_of kind.table.rows

  -- what a triple becomes by a history, of which the view takes the picked events
  record Reaches (t : Triple) (history : List ℕ) (set : ℕ → Bool) (log : ℕ) : Type 0 where
    place : ℕ
    by : Triple
    listed : slice_get list place ≡ Some by
    view : reached step (Some t.view) (picked set history) ≡ Some by.view
    same : by.log ≡ log
    out : (f : ℕ) → IsTrue (has by.out f) → IsTrue (has t.out f) ⊎ StandsOutside history set f

  -- the invocation at each position of the set depends on nothing that the triple leaves out
  abbrev IsFreeOf : Triple → List ℕ → (ℕ → Bool) → Type 0
  IsFreeOf t history set = (p e : ℕ) → slice_get history p ≡ Some e → IsTrue (set p) → IsFree kind (inv_of kind e) t.out

  abbrev WalksOver : List ℕ → Type 0
  WalksOver history =
      (set : ℕ → Bool) (place : ℕ) (t : Triple) (log : ℕ) → slice_get list place ≡ Some t → IsClosed kind history set
      → IsFreeOf t history set
      → reached step (Some t.log) history ≡ Some log → Reaches t history set log

  walk_none : WalksOver []
  walk_none set place t log at closed free run = record {
    place = place;
    by = t;
    listed = at;
    view = refl;
    same = cc;
    out = λ f o. inl o;
  }

  walk_more : (e : ℕ) (es : List ℕ) → WalksOver es → WalksOver (e ∷ es)
  walk_more e es walks set place t log at closed free run = stepped (step t.log e) refl run
    where
      later : ℕ → Bool
      later p = set (suc p)

      stepped : (o : Option ℕ) → step t.log e ≡ o → reached step o es ≡ Some log → Reaches t (e ∷ es) set log
      stepped None s r = absurd (let none : reached step None es ≡ None = reached_none step es in let never : ⊥ = cc in
          never)
      stepped (Some h) s r = chosen (set 0) refl
        where
          -- the rest of the walk, from a triple that covers what e makes of this one
          rest : (became : Triple) → became.log ≡ h → (c : IsCovered list became) → IsFreeOf c.by es later
              → Reaches c.by es later log
          rest became same c free = walks later c.place c.by log c.listed
              (λ p q x y ap aq less. closed (suc p) (suc q) x y ap aq (suc-le-suc less)) free
              (subst (λ (x : ℕ). reached step (Some x) es ≡ Some log) (sym (c.covers.log ∙ same)) r)

          chosen : (b : Bool) → set 0 ≡ b → Reaches t (e ∷ es) set log
          chosen false b =
              let c : IsCovered list (triple t.view h (with_member t.out e)) = ind.left_out place t e h at s in
              let m : Reaches c.by es later log = rest (triple t.view h (with_member t.out e)) refl c
              (λ p f pf here g og. ⊎_elim
              (λ (o : IsTrue (has t.out g)). free (suc p) f pf here g o)
              (λ (same : e ≡ g). false_from_ne_true (depends kind.relation (inv_of kind f) g) (λ d.
              clash (closed (suc p) 0 f e pf refl (zero-lt-suc p) here
              (subst (λ (x : ℕ). IsTrue (depends kind.relation (inv_of kind f) x)) (sym same) d)) b))
              (added t.out e g (c.covers.out g og))) in
              record {
                place = m.place;
                by = m.by;
                listed = m.listed;
                view = goes_by step set e es t.view m.by.view b
                    (subst (λ (x : ℕ). reached step (Some x) (picked later es) ≡ Some m.by.view) c.covers.view m.view);
                same = m.same;
                out = λ f o. ⊎_elim
                    (λ (here : IsTrue (has c.by.out f)). ⊎_elim (λ (old : IsTrue (has t.out f)). inl old)
                    (λ (same : e ≡ f). inr (record { position = 0; stands = ap Some same; outside = b }))
                    (added t.out e f (c.covers.out f here)))
                    (λ (x : StandsOutside es later f). inr (record
                    { position = suc x.position; stands = x.stands; outside = x.outside }))
                    (m.out f o);
              }
          chosen true b =
              let free_0 : IsFree kind (inv_of kind e) t.out = free 0 e refl b in
              let g : (x : ℕ) × (step t.view e ≡ Some x) =
              steps_too kind t.view t.log e h (λ resp. ind.equal place t (inv_of kind e) resp at free_0) s in
              let c : IsCovered list (triple g.0 h t.out) = ind.taken place t e g.0 h at free_0 g.1 s in
              let m : Reaches c.by es later log = rest (triple g.0 h t.out) refl c
              (λ p f pf here k ok. free (suc p) f pf here k (c.covers.out k ok)) in
              record {
                place = m.place;
                by = m.by;
                listed = m.listed;
                view = goes_in step set e es t.view g.0 m.by.view b g.1
                    (subst (λ (x : ℕ). reached step (Some x) (picked later es) ≡ Some m.by.view) c.covers.view m.view);
                same = m.same;
                out = λ f o. ⊎_elim
                    (λ (here : IsTrue (has c.by.out f)). inl (c.covers.out f here))
                    (λ (x : StandsOutside es later f). inr (record
                    { position = suc x.position; stands = x.stands; outside = x.outside }))
                    (m.out f o);
              }

  walk : (history : List ℕ) → WalksOver history
  walk [] = walk_none
  walk (e ∷ es) = walk_more e es (walk es)

  -- from the start, where nothing is left out
  pub accounted : (history : List ℕ) (set : ℕ → Bool) → IsLegalFor kind history → IsClosed kind history set
      → IsAccountedFor kind list history set
  accounted history set legal closed =
      let c : IsCovered list (triple kind.table.start kind.table.start 0) = ind.begun in
      let h : (x : ℕ) × (state_after kind history ≡ Some x) = some_of (state_after kind history) legal in
      let none : (f : ℕ) → IsTrue (has c.by.out f)
      → ⊥ = λ f o. clash (c.covers.out f o) (ap (λ b. b == 1) (bit_at-zero f)) in
      let m : Reaches c.by history set h.0 = walk history set c.place c.by h.0 c.listed closed
      (λ p e at here f o. absurd (none f o))
      (subst (λ (x : ℕ). reached step (Some x) history ≡ Some h.0) (sym c.covers.log) h.1) in
      record {
        place = m.place;
        by = m.by;
        listed = m.listed;
        view = subst (λ (x : ℕ). reached step (Some x) (picked set history) ≡ Some m.by.view) c.covers.view m.view;
        log = h.1 ∙ ap Some (sym m.same);
        out = λ f o. ⊎_elim (λ (old : IsTrue (has c.by.out f)). absurd (none f old))
            (λ (x : StandsOutside history set f). x) (m.out f o);
      }

  -- an inductive list makes the relation exact
  pub inductive_lists_make_relations_exact : IsExact kind
  inductive_lists_make_relations_exact history inv set legal view =
      let a : IsAccountedFor kind list history set = accounted history set legal view.closed in
      let free : IsFree kind inv a.by.out = λ f o. false_from_ne_true (depends kind.relation inv f)
      (λ d. clash (view.complete (a.out f o).position f (a.out f o).stands d) (a.out f o).outside) in
      record {
        legal = rw a.view refl;
        same = λ resp. rw (a.view, a.log) (ind.equal a.place a.by inv resp a.listed free);
      }

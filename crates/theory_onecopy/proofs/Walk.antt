-- Operations that were answered from views, under exact relations, walk one copy of each object.
use Rattle.std.proofs.Common.{◌≡◌, ℕ, ◌==◌, Bool, true, false, cond, List, [], ◌∷◌, ◌++◌, map, Option, Some, None, refl}
use Rattle.std.proofs.Common.{sym, ap, ◌∙◌, subst, append_assoc, append-nil, eq-eqb, eqb-true}
use Rattle.std.specs.Option.{option_map_or}
use Rattle.std.proofs.lemmas.List.{map-append}
use Rattle.qc_entry.specs.declared.line.Line.{Line}
use Rattle.qc_entry.specs.declared.line.Op.{Op}
use Rattle.qc_table.specs.declared.kind.Kind.{Kind}
use Rattle.qc_table.specs.Vocabulary.{Rules, event, event_number, events_of, next_in}
use Rattle.qc_cert.specs.Vocabulary.{IsExact, IsView, allows, state_after}
use Rattle.qc_decl.specs.declared.declaration.Declaration.{Declaration}
use Rattle.std.specs.Prelude.{IsSome, is_some}
use Rattle.theory_onecopy.specs.Vocabulary.{AreFromViews, Goes, IsAnswered, Placed, Replies, Walks, events_seen}
use Rattle.theory_onecopy.specs.Vocabulary.{kind_at, line_of, lines_of, lines_on, start_at, updated}
use Rattle.theory_onecopy.proofs.Seen.{answers_are_from_views, listed}
use Rattle.theory_onecopy.proofs.Runs.{allows_step, state_more, step_is, table_is}
use Rattle.theory_onecopy.proofs.Lines.{lines_on-append}
use Rattle.qc_list.proofs.Options.{none_of, some_of}

module _ (decl : Declaration) (exact : (object : ℕ) (kind : Kind) → kind_at decl object ≡ Some kind → IsExact kind)
    (all : List Placed) (v : AreFromViews decl all) where
  -- the whole history allows what the reply says
  replies_alike : (pre : List Placed) (b : Placed) (post : List Placed) (split : pre ++ b ∷ post ≡ all) (kind : Kind)
      → kind_at decl b.operation.op.object ≡ Some kind
      → (state : ℕ) → state_after kind (map (λ (l : Line). l.event) (lines_on b.operation.op.object pre)) ≡ Some state
      → (resp : ℕ) → allows kind (events_seen b.operation) b.operation.op.inv resp ≡ is_some
      (next_in kind.table.rows state (event b.operation.op.inv resp))
  replies_alike pre b post split kind typed state run resp =
      let seen = answers_are_from_views decl all v pre b post split in
      let kinds : Some seen.kind ≡ Some kind = sym seen.typed ∙ typed in
      let same : seen.kind ≡ kind = cc in
      let view : IsView kind (map (λ (l : Line). l.event) (lines_on b.operation.op.object pre)) b.operation.op.inv
      seen.set = subst (λ (k : Kind). IsView k
      (map (λ (l : Line). l.event) (lines_on b.operation.op.object pre)) b.operation.op.inv seen.set) same seen.view
      in
      let f = exact b.operation.op.object kind typed
      (map (λ (l : Line). l.event) (lines_on b.operation.op.object pre)) b.operation.op.inv seen.set
      (subst (λ (s : Option ℕ). IsSome s) (sym run) refl) view in
      ap (λ (h : List ℕ). allows kind h b.operation.op.inv resp) (sym seen.picks) ∙ f.same resp
      ∙ allows_step kind (map (λ (l : Line). l.event) (lines_on b.operation.op.object pre)) state b.operation.op.inv
      resp run

  -- the states of the objects after some operations
  abbrev Stands : (ℕ → ℕ) → List Placed → Type 0
  Stands states pre = (o : ℕ) (kind : Kind) → kind_at decl o ≡ Some kind
      → state_after kind (map (λ (l : Line). l.event) (lines_on o pre)) ≡ Some (states o)

  abbrev op_of : Placed → Op
  op_of p = p.operation.op

  lines_more : (o : ℕ) (pre : List Placed) (b : Placed)
      → lines_on o (pre ++ b ∷ []) ≡ lines_on o pre ++ cond (b.operation.op.object == o)
      (lines_of b.operation.op.resp (line_of b)) []
  lines_more o pre b = lines_on-append o pre (b ∷ [])
      ∙ ap (λ (l : List Line). lines_on o pre ++ l)
      (append-nil (cond (b.operation.op.object == o) (lines_of b.operation.op.resp (line_of b)) []))

  -- an operation without a response leaves the states
  stands_absent : (states : ℕ → ℕ) (pre : List Placed) (b : Placed) → b.operation.op.resp ≡ None → Stands states pre
      → Stands states (pre ++ b ∷ [])
  stands_absent states pre b none st o kind typed =
      subst (λ (l : List Line). state_after kind (map (λ (x : Line). x.event) l) ≡ Some (states o))
      (sym (lines_more o pre b ∙ ap (λ (l : List Line). lines_on o pre ++ l) (empty (b.operation.op.object == o))
      ∙ append-nil (lines_on o pre))) (st o kind typed)
    where
      empty : (t : Bool) → cond t (lines_of b.operation.op.resp (line_of b)) [] ≡ []
      empty true = rw none refl
      empty false = refl

  -- one with a response moves its object's
  stands_moved : (states : ℕ → ℕ) (pre : List Placed) (b : Placed) (k : Kind) (resp next : ℕ)
      → b.operation.op.resp ≡ Some resp → kind_at decl b.operation.op.object ≡ Some k
      → event_number (events_of k.table.rows) (event b.operation.op.inv resp) ≡ Some b.operation.event
      → next_in k.table.rows (states b.operation.op.object) (event b.operation.op.inv resp) ≡ Some next
      → Stands states pre → Stands (updated states b.operation.op.object next) (pre ++ b ∷ [])
  stands_moved states pre b k resp next some typed' numbered goes st o kind typed =
      by (b.operation.op.object == o) refl (o == b.operation.op.object) refl
    where
      by : (t : Bool) → (b.operation.op.object == o) ≡ t → (u : Bool) → (o == b.operation.op.object) ≡ u
          → state_after kind (map (λ (x : Line). x.event) (lines_on o (pre ++ b ∷ []))) ≡ Some (cond u next (states o))
      by true e true f =
          let same : b.operation.op.object ≡ o = eqb-true b.operation.op.object o e in
          let kinds : Some k ≡ Some kind = sym typed' ∙ ap (kind_at decl) same ∙ typed in
          let same_kind : k ≡ kind = cc in
          let is : lines_on o (pre ++ b ∷ []) ≡ lines_on o pre ++ line_of b ∷ [] =
          lines_more o pre b ∙ ap (λ (t : Bool). lines_on o pre ++ cond t (lines_of b.operation.op.resp (line_of b)) [])
          e ∙ ap (λ (r : Option ℕ). lines_on o pre ++ lines_of r (line_of b)) some in
          subst (λ (es : List ℕ). state_after kind es ≡ Some next)
          (sym (ap (map (λ (x : Line). x.event)) is
          ∙ map-append (λ (x : Line). x.event) (lines_on o pre) (line_of b ∷ [])))
          (state_more kind (map (λ (x : Line). x.event) (lines_on o pre))
          (states o) b.operation.op.inv resp b.operation.event next (st o kind typed)
          (subst (λ (c : Kind). event_number (events_of c.table.rows) (event b.operation.op.inv resp)
          ≡ Some b.operation.event) same_kind numbered)
          (subst (λ (c : Kind). next_in c.table.rows (states o) (event b.operation.op.inv resp) ≡ Some next) same_kind
          (subst (λ (z : ℕ). next_in k.table.rows (states z) (event b.operation.op.inv resp) ≡ Some next) same
          goes)))
      by true e false f = let same : b.operation.op.object ≡ o = eqb-true b.operation.op.object o e in
          let t : (o == b.operation.op.object) ≡ true = eq-eqb o b.operation.op.object (sym same) in
          absurd (let never : ⊥ = cc in never)
      by false e true f = let same : o ≡ b.operation.op.object = eqb-true o b.operation.op.object f in
          let t : (b.operation.op.object == o) ≡ true = eq-eqb b.operation.op.object o (sym same) in
          absurd (let never : ⊥ = cc in never)
      by false e false f =
          subst (λ (l : List Line). state_after kind (map (λ (x : Line). x.event) l) ≡ Some (states o))
          (sym (lines_more o pre b ∙ ap (λ (t : Bool). lines_on o pre ++ cond t
          (lines_of b.operation.op.resp (line_of b)) []) e ∙ append-nil (lines_on o pre))) (st o kind typed)

  walk_more : (b : Placed) (post pre : List Placed) (split : pre ++ b ∷ post ≡ all) (states : ℕ → ℕ) → Stands states pre
      → ((next : ℕ → ℕ) → Stands next (pre ++ b ∷ []) → Walks decl next (map (λ (p : Placed). p.operation.op) post))
      → Walks decl states (map (λ (p : Placed). p.operation.op) (b ∷ post))
  walk_more b post pre split states st on = by b.operation.op.resp refl (answers.replies)
    where
      answers : IsAnswered decl b.operation
      answers = v.answered b (listed decl all v pre b post split)

      run : state_after answers.kind (map (λ (l : Line). l.event) (lines_on b.operation.op.object pre)) ≡ Some
          (states b.operation.op.object)
      run = st b.operation.op.object answers.kind answers.typed

      by : (r : Option ℕ) → b.operation.op.resp ≡ r
          → Replies answers.kind (events_seen b.operation) b.operation.op.inv r
          → Goes decl states b.operation.op.object b.operation.op.inv r
          (λ after. Walks decl after (map (λ (p : Placed). p.operation.op) post))
      by None is none = (
        λ resp. step_is decl b.operation.op.object answers.kind (states b.operation.op.object)
            (event b.operation.op.inv resp) answers.typed
            ∙ none_of (next_in answers.kind.table.rows (states b.operation.op.object) (event b.operation.op.inv resp))
            (sym (replies_alike pre b post split answers.kind answers.typed (states b.operation.op.object) run resp)
            ∙ none resp),
        on states (stands_absent states pre b is st),
      )
      by (Some resp) is legal =
          let s = some_of (next_in answers.kind.table.rows (states b.operation.op.object)
          (event b.operation.op.inv resp)) (sym (replies_alike pre b post split answers.kind answers.typed
          (states b.operation.op.object) run resp) ∙ legal) in (
            s.0,
            step_is decl b.operation.op.object answers.kind (states b.operation.op.object)
                (event b.operation.op.inv resp) answers.typed ∙ s.1,
            on (updated states b.operation.op.object s.0)
                (stands_moved states pre b answers.kind resp s.0 is answers.typed (answers.numbered resp is) s.1 st),
          )

  walk : (post pre : List Placed) → pre ++ post ≡ all → (states : ℕ → ℕ) → Stands states pre
      → Walks decl states (map (λ (p : Placed). p.operation.op) post)
  walk [] pre split states st = tt
  walk (b ∷ post) pre split states st = walk_more b post pre split states st
      (λ next after. walk post (pre ++ b ∷ []) (append_assoc pre (b ∷ []) post ∙ split) next after)

  pub views_are_one_copy : Walks decl (start_at decl) (map (λ (p : Placed). p.operation.op) all)
  views_are_one_copy = walk all [] refl (start_at decl) (λ o kind typed. starts o kind typed)
    where
      starts : (o : ℕ) (kind : Kind) → kind_at decl o ≡ Some kind → Some kind.table.start ≡ Some (start_at decl o)
      starts o kind typed = ap (λ (t : Option Rules). Some (option_map_or (λ (rules : Rules). rules.start) t 0))
          (sym (table_is decl o kind typed))

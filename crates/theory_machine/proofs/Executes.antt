-- A chosen operation is executed: its Append round is met.
use Rattle.std.proofs.Common.{◌≡◌, ◌≢◌, ◌⊎◌, inl, inr, List, [], ◌∷◌, ◌++◌, Option, Some, None, IsSome, sym, ap, ◌∙◌}
use Rattle.std.proofs.Common.{subst}
use Rattle.qc_stamp.specs.declared.stamp.TxId.{TxId}
use Rattle.qc_entry.specs.declared.line.Line.{Line}
use Rattle.qc_decl.specs.declared.declaration.Declaration.{Declaration}
use Rattle.qc_decl.specs.Vocabulary.{append_need_of}
use Rattle.qc_list.specs.Vocabulary.{In}
use Rattle.theory_onecopy.specs.Vocabulary.{Executed, own_line}
use Rattle.qc_list.proofs.Members.{In-first, In-second, In-either}
use Rattle.theory_machine.specs.Vocabulary.{AreInOrder, HasQuorum, IsAnsweredFromQuorum, IsClosedAt, IsExecutedOrChosen}
use Rattle.theory_machine.specs.Vocabulary.{IsNextOperation, LogLaws, NotBegun, Own, State, put_tx}
use Rattle.theory_machine.proofs.Names.{put_tx_case, put_tx_here}
use Rattle.theory_machine.proofs.Places.{order_more}
use Rattle.theory_machine.proofs.Grows.{Grows, closed_at_more, carry}

module _ (decl : Declaration) where
  -- an operation is new_executed
  pub execute_keeps : (w : State) (tx : TxId) (operation : Executed) → w.status tx ≢ NotBegun
      → ((d : Executed) → w.chosen tx ≡ Some d → d ≡ operation) → IsNextOperation (w.executed tx) operation
      → IsAnsweredFromQuorum decl (w.epoch tx) w.counted tx operation
      → (IsSome operation.op.resp → HasQuorum decl (w.epoch tx) w.counted tx (Own (own_line operation))
      (append_need_of decl (w.epoch tx) operation.op.object operation.event))
      → ((m : Line) → In m operation.view → IsClosedAt decl w.status w.executed operation.view m)
      → LogLaws decl w → LogLaws decl (record w
      { executed = put_tx w.executed tx (w.executed tx ++ operation ∷ []); chosen = put_tx w.chosen tx None })
  execute_keeps w tx operation begun only next right met views l =
      carry decl w w.status (put_tx w.executed tx (w.executed tx ++ operation ∷ []))
      (put_tx w.chosen tx None) w.clock w.seen_by w.records w.counted w.epoch g
      order still (λ t d h. elim (was t d h) [
        | inl k ↦ l.begun t d k
        | inr is ↦
            (λ e. begun (ap w.status (sym is.0) ∙ e))
      ]) (λ t d h. rights t d (was t d h)) written
      (λ t d m h i. closed_at_more decl w.status w.status w.executed
      (put_tx w.executed tx (w.executed tx ++ operation ∷ [])) w.chosen (put_tx w.chosen tx None) g d.view m
      (seen t d m (was t d h) i)) l
    where
      new_executed : TxId → List Executed
      new_executed = put_tx w.executed tx (w.executed tx ++ operation ∷ [])

      stays : (t : TxId) (d : Executed) → In d (w.executed t)
          → In d (put_tx w.executed tx (w.executed tx ++ operation ∷ []) t)
      stays t d h = put_tx_case (λ (ds : List Executed). In d ds) w.executed tx (w.executed tx ++ operation ∷ []) t
          (λ e. In-first d (w.executed tx) (operation ∷ []) (subst (λ (x : TxId). In d (w.executed x)) e h)) (λ ne. h)

      g : Grows w.status w.status w.executed (put_tx w.executed tx (w.executed tx ++ operation ∷ [])) w.chosen
          (put_tx w.chosen tx None)
      g = record {
        committed = λ t c h. h;
        stays = λ t d h. stays t d h;
        known = λ t d h. elim h [
          | inl k ↦ inl (stays t d k)
          | inr k ↦ put_tx_both t (λ ds o. IsExecutedOrChosen ds o d)
              (λ e. inl (In-second d (w.executed tx) (operation ∷ [])
              (inl (only d (subst (λ (x : TxId). w.chosen x ≡ Some d) e k)))))
              (λ ne. inr k)
        ];
      }
        where
          put_tx_both : (t : TxId) (P : List Executed → Option Executed → Type 0)
              → (t ≡ tx → P (w.executed tx ++ operation ∷ []) None) → ((t ≢ tx) → P (w.executed t) (w.chosen t))
              → P (put_tx w.executed tx (w.executed tx ++ operation ∷ []) t) (put_tx w.chosen tx None t)
          put_tx_both t P here there = put_tx_case
              (λ (ds : List Executed). P ds (put_tx w.chosen tx None t)) w.executed tx
              (w.executed tx ++ operation ∷ []) t
              (λ e. put_tx_case (λ (o : Option Executed). P (w.executed tx ++ operation ∷ []) o) w.chosen tx None t
              (λ f. here e) (λ ne. absurd (ne e)))
              (λ ne. put_tx_case (λ (o : Option Executed). P (w.executed t) o) w.chosen tx None t (λ f. absurd (ne f))
              (λ nf. there ne))

      -- where a known operation was before
      was : (t : TxId) (d : Executed) → IsExecutedOrChosen (put_tx w.executed tx (w.executed tx ++ operation ∷ []) t)
          (put_tx w.chosen tx None t) d → IsExecutedOrChosen (w.executed t) (w.chosen t) d
          ⊎ ((t ≡ tx) × (d ≡ operation))
      was t d (inl h) = put_tx_case (λ (ds : List Executed). In d ds
          → IsExecutedOrChosen (w.executed t) (w.chosen t) d ⊎ ((t ≡ tx) × (d ≡ operation))) w.executed tx
          (w.executed tx ++ operation ∷ []) t
          (λ e i. elim (In-either d (w.executed tx) (operation ∷ []) i) [
            | inl old ↦ inl (inl (subst (λ (x : TxId). In d (w.executed x)) (sym e) old))
            | inr new ↦ elim new [ inl is ↦ inr (e, is) | inr never ↦ absurd never ]
          ])
          (λ ne i. inl (inl i)) h
      was t d (inr h) = put_tx_case (λ (o : Option Executed). o ≡ Some d
          → IsExecutedOrChosen (w.executed t) (w.chosen t) d ⊎ ((t ≡ tx) × (d ≡ operation))) w.chosen tx None t
          (λ e i. absurd (let never : ⊥ = cc in never)) (λ ne i. inl (inr i)) h

      order : (t : TxId) → AreInOrder [] (put_tx w.executed tx (w.executed tx ++ operation ∷ []) t)
      order t = put_tx_case (λ (ds : List Executed). AreInOrder [] ds) w.executed tx (w.executed tx ++ operation ∷ []) t
          (λ e. order_more [] (w.executed tx) operation (l.order tx) next) (λ ne. l.order t)

      still : (t : TxId) (d : Executed) → put_tx w.chosen tx None t ≡ Some d
          → IsNextOperation (put_tx w.executed tx (w.executed tx ++ operation ∷ []) t) d × IsSome d.op.resp
      still t d h = put_tx_case (λ (ds : List Executed). IsNextOperation ds d × IsSome d.op.resp) w.executed tx
          (w.executed tx ++ operation ∷ []) t
          (λ e. let x : put_tx w.chosen tx None tx ≡ None = put_tx_here w.chosen tx None in
          let y : None ≡ Some d = sym x ∙ ap (put_tx w.chosen tx None) (sym e)
          ∙ h in absurd (let never : ⊥ = cc in never))
          (λ ne. l.next t d (put_tx_case (λ (o : Option Executed). o ≡ Some d → w.chosen t ≡ Some d) w.chosen tx None t
          (λ e i. absurd (ne e)) (λ x i. i) h))

      rights : (t : TxId) (d : Executed) → IsExecutedOrChosen (w.executed t) (w.chosen t) d
          ⊎ ((t ≡ tx) × (d ≡ operation)) → IsAnsweredFromQuorum decl (w.epoch t) w.counted t d
      rights t d (inl k) = l.right t d k
      rights t d (inr is) = subst (λ (x : Executed). IsAnsweredFromQuorum decl (w.epoch t) w.counted t x) (sym is.1)
          (subst (λ (x : TxId). IsAnsweredFromQuorum decl (w.epoch x) w.counted x operation) (sym is.0) right)

      seen : (t : TxId) (d : Executed) (m : Line)
          → IsExecutedOrChosen (w.executed t) (w.chosen t) d ⊎ ((t ≡ tx) × (d ≡ operation)) → In m d.view
          → IsClosedAt decl w.status w.executed d.view m
      seen t d m (inl k) i = l.views t d m k i
      seen t d m (inr is) i = subst (λ (x : Executed). In m x.view → IsClosedAt decl w.status w.executed x.view m)
          (sym is.1) (views m) i

      written : (t : TxId) (d : Executed) → In d (put_tx w.executed tx (w.executed tx ++ operation ∷ []) t)
          → IsSome d.op.resp → HasQuorum decl (w.epoch t) w.counted t (Own (own_line d))
          (append_need_of decl (w.epoch t) d.op.object d.event)
      written t d h s = put_tx_case (λ (ds : List Executed). In d ds
          → HasQuorum decl (w.epoch t) w.counted t (Own (own_line d))
          (append_need_of decl (w.epoch t) d.op.object d.event)) w.executed tx (w.executed tx ++ operation ∷ []) t
          (λ e i. elim (In-either d (w.executed tx) (operation ∷ []) i) [
            | inl old ↦ l.written t d (subst (λ (x : TxId). In d (w.executed x)) (sym e) old) s
            | inr new ↦ elim new [
              | inl is ↦ subst (λ (x : TxId). HasQuorum decl (w.epoch x) w.counted x (Own (own_line d))
                  (append_need_of decl (w.epoch x) d.op.object d.event)) (sym e)
                  (subst (λ (x : Executed). IsSome x.op.resp
                  → HasQuorum decl (w.epoch tx) w.counted tx (Own (own_line x))
                  (append_need_of decl (w.epoch tx) x.op.object x.event)) (sym is) met s)
              | inr never ↦ absurd never
            ]
          ])
          (λ ne i. l.written t d i s) h

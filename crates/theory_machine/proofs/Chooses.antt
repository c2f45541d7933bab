-- An operation is chosen, and its Append brings a closed log: its view, and each own line on which something depends.
use Rattle.std.proofs.Common.{◌≡◌, ◌≢◌, ℕ, ◌<◌, ◌⊎◌, inl, inr, List, [], Option, Some, None, IsSome, sym, ap, ◌∙◌}
use Rattle.std.proofs.Common.{subst}
use Rattle.qc_stamp.specs.declared.stamp.TxId.{TxId}
use Rattle.qc_entry.specs.declared.line.Line.{Line}
use Rattle.qc_entry.specs.declared.line.OwnLine.{OwnLine}
use Rattle.qc_decl.specs.declared.declaration.Declaration.{Declaration}
use Rattle.qc_decl.specs.Vocabulary.{IsAccepted, append_need_of}
use Rattle.qc_list.specs.Vocabulary.{In}
use Rattle.theory_onecopy.specs.Vocabulary.{Executed, own_line}
use Rattle.theory_machine.specs.Vocabulary.{Active, AppendRequest, Choose, IsAllowed, IsAnsweredFromQuorum}
use Rattle.theory_machine.specs.Vocabulary.{IsAppendClosed, IsAppendOf, IsClosedAt, IsDependedOn, IsExecutedOrChosen}
use Rattle.theory_machine.specs.Vocabulary.{IsNextOperation, IsOwnClosedAt, LogLaws, NotBegun, Own, SendAppend, State}
use Rattle.theory_machine.specs.Vocabulary.{StateLaws, after_act, own_on, put_tx}
use Rattle.theory_machine.proofs.Names.{put_tx_case}
use Rattle.theory_machine.proofs.Quorums.{heavy, needed}
use Rattle.theory_machine.proofs.Grows.{Grows, carry}
use Rattle.theory_machine.proofs.Answered.{next_operation, answered_from_quorum, view_closed}
use Rattle.theory_machine.proofs.OwnLines.{own_of, own_among}

module _ (decl : Declaration) where
  pub send : IsAccepted decl → (w : State) (s : AppendRequest) → IsAllowed decl w (SendAppend s) → StateLaws decl w
      → LogLaws decl w → IsAppendClosed decl w.status w.executed w.chosen s.tx s.items s.view
  send accepted w s ok wl l = record {
    closed_at = λ m h. subst (λ (v : List Line). IsClosedAt decl w.status w.executed v m) (sym k.view)
        (l.views s.tx d m (inr ok.1) (subst (λ (v : List Line). In m v) k.view h));
    own_closed = λ o h. (let i = k.items (Own o) h in by o i.0 i.1 i.2);
  }
    where
      d : Executed
      d = ok.0

      k : IsAppendOf decl (w.epoch s.tx) ok.0 s
      k = ok.2

      n : IsNextOperation (w.executed s.tx) ok.0 × IsSome ok.0.op.resp
      n = l.next s.tx ok.0 ok.1

      -- what something depends on needs weight
      weighs : (q : OwnLine) → IsDependedOn decl q.object q.event
          → 0 < append_need_of decl (w.epoch s.tx) q.object q.event
      weighs q dep =
          let p = wl.planned s.tx (l.begun s.tx ok.0 (inr ok.1)) in
          needed decl accepted (w.epoch s.tx) q.object dep.inv q.event
          (heavy decl accepted (w.epoch s.tx) q.object dep.inv q.event dep.kind p.0 p.1 dep.typed dep.low dep.within
          dep.depends)

      in_view : (m : Line) → In m ok.0.view → In m s.view
      in_view m h = subst (λ (v : List Line). In m v) (sym (ok.2).view) h

      by : (o p : OwnLine) → Own o ≡ Own p → ((p ≡ own_line ok.0) ⊎ In p ok.0.own)
          → IsOwnClosedAt decl w.executed w.chosen s.tx s.view s.items o
      by o p e (inl is) = let same : o ≡ p = cc in
          record {
            operation = ok.0;
            known = inr ok.1;
            some = n.1;
            is = same
                ∙ is;
            view = in_view;
            own = λ q i dep. (ok.2).whole q i (weighs q dep);
          }
      by o p e (inr mine) =
          let same : o ≡ p = cc in
          let f = own_of decl (w.executed s.tx) ok.0.op.object p
          (subst (λ (os : List OwnLine). In p os) n.0.own mine) in
          record {
            operation = f.operation;
            known = inl f.listed;
            some = f.some;
            is = same ∙ f.is;
            view = λ m h. in_view m (n.0.grows f.operation m f.listed f.object_is h);
            own = λ q i dep. (ok.2).whole q (subst (λ (os : List OwnLine). In q os) (sym n.0.own)
                (subst (λ (x : ℕ). In q (own_on (w.executed s.tx) x)) f.object_is
                (own_among decl (w.executed s.tx) [] f.operation q (l.order s.tx) f.listed i))) (weighs q dep);
          }

  pub choose_keeps : (w : State) (tx : TxId) (operation : Executed) → IsAllowed decl w (Choose tx operation)
      → StateLaws decl w → LogLaws decl w → LogLaws decl (after_act w (Choose tx operation))
  choose_keeps w tx operation ok wl l = carry decl w w.status w.executed
      (put_tx w.chosen tx (Some operation)) w.clock w.seen_by w.records w.counted w.epoch g l.order next begun right
      l.written views l
    where
      g : Grows w.status w.status w.executed w.executed w.chosen (put_tx w.chosen tx (Some operation))
      g = record {
        committed = λ t c h. h;
        stays = λ t d h. h;
        known = λ t d h. elim h [
          | inl past ↦ inl past
          | inr was ↦ inr (put_tx_case (λ (o : Option Executed). o ≡ Some d) w.chosen tx (Some operation) t
              (λ e. let x : None ≡ Some d = sym ok.1 ∙ ap w.chosen (sym e)
              ∙ was in absurd (let never : ⊥ = cc in never)) (λ ne. was))
        ];
      }

      -- what is chosen now
      now : (t : TxId) (d : Executed) → put_tx w.chosen tx (Some operation) t ≡ Some d
          → ((t ≡ tx) × (d ≡ operation)) ⊎ (w.chosen t ≡ Some d)
      now t d = put_tx_case (λ (o : Option Executed). o ≡ Some d → ((t ≡ tx) × (d ≡ operation)) ⊎ (w.chosen t ≡ Some d))
          w.chosen tx (Some operation) t (λ e h. inl (e, cc)) (λ ne h. inr h)

      next : (t : TxId) (d : Executed) → put_tx w.chosen tx (Some operation) t ≡ Some d
          → IsNextOperation (w.executed t) d × IsSome d.op.resp
      next t d h = elim (now t d h) [
        | inl is ↦ subst (λ (x : Executed). IsNextOperation (w.executed t) x × IsSome x.op.resp) (sym is.1)
            (subst (λ (x : TxId). IsNextOperation (w.executed x) operation × IsSome operation.op.resp) (sym is.0)
            (next_operation decl w tx operation ok.2 l, ok.3))
        | inr was ↦ l.next t d was
      ]

      begun : (t : TxId) (d : Executed) → IsExecutedOrChosen (w.executed t) (put_tx w.chosen tx (Some operation) t) d
          → w.status t ≢ NotBegun
      begun t d (inl past) = l.begun t d (inl past)
      begun t d (inr h) = elim (now t d h) [
        | inl is ↦ (λ e. let x : Active ≡ NotBegun = sym ok.0 ∙ ap w.status (sym is.0) ∙ e in cc)
        | inr was ↦ l.begun t d (inr was)
      ]

      right : (t : TxId) (d : Executed) → IsExecutedOrChosen (w.executed t) (put_tx w.chosen tx (Some operation) t) d
          → IsAnsweredFromQuorum decl (w.epoch t) w.counted t d
      right t d (inl past) = l.right t d (inl past)
      right t d (inr h) = elim (now t d h) [
        | inl is ↦ subst (λ (x : Executed). IsAnsweredFromQuorum decl (w.epoch t) w.counted t x) (sym is.1)
            (subst (λ (x : TxId). IsAnsweredFromQuorum decl (w.epoch x) w.counted x operation) (sym is.0)
            (answered_from_quorum decl w tx operation ok.2))
        | inr was ↦ l.right t d (inr was)
      ]

      views : (t : TxId) (d : Executed) (m : Line)
          → IsExecutedOrChosen (w.executed t) (put_tx w.chosen tx (Some operation) t) d → In m d.view
          → IsClosedAt decl w.status w.executed d.view m
      views t d m (inl past) i = l.views t d m (inl past) i
      views t d m (inr h) i = elim (now t d h) [
        | inl is ↦ subst (λ (x : Executed). In m x.view → IsClosedAt decl w.status w.executed x.view m) (sym is.1)
            (view_closed decl w tx operation ok.2 wl l m) i
        | inr was ↦ l.views t d m (inr was) i
      ]

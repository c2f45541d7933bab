-- What an operation was answered from is a view, in the sense of certificates, of the lines of its object before it:
-- the log that it saw is among them, is closed, and has each on which it depends (Herlihy 1986).
use Rattle.std.proofs.Common.{◌≡◌, ℕ, ◌<◌, ◌≤◌, Bool, IsTrue, ◌⊎◌, inl, inr, List, [], ◌∷◌, ◌++◌, map, Some, IsSome}
use Rattle.std.proofs.Common.{refl, sym, ap, ◌∙◌, subst, arith, append_assoc}
use Rattle.std.proofs.lemmas.List.{map-append}
use Rattle.std.specs.declared.cmp.Ordering.TheVariants.{Less}
use Rattle.qc_stamp.specs.declared.stamp.Stamp.{Stamp}
use Rattle.qc_stamp.specs.Vocabulary.{stamp_cmp}
use Rattle.qc_entry.specs.declared.line.Line.{Line}
use Rattle.qc_entry.specs.declared.line.OwnLine.{OwnLine}
use Rattle.qc_table.specs.Vocabulary.{depends}
use Rattle.qc_cert.specs.Vocabulary.{IsView, inv_of, picked}
use Rattle.qc_decl.specs.declared.declaration.Declaration.{Declaration}
use Rattle.theory_onecopy.specs.Vocabulary.{AreFromViews, IsAnswered, IsEarlier, IsFromView, IsLineBefore, IsNext}
use Rattle.theory_onecopy.specs.Vocabulary.{IsOrdered, IsOwnBefore, Placed, committed_line, depends_at, events_seen}
use Rattle.theory_onecopy.specs.Vocabulary.{kind_at, line_of, lines_on, own_line}
use Rattle.qc_list.specs.Vocabulary.{In}
use Rattle.theory_onecopy.proofs.Lists.{compared, map_in, ordered-append, ordered_across, ordered_left}
use Rattle.qc_list.proofs.Members.{In-first, In-second, In-either, In-at, In-map}
use Rattle.theory_onecopy.proofs.Orders.{clock_less, earlier_clocks, earlier_line, line_trans, not_stamp_less, op_first}
use Rattle.theory_onecopy.proofs.Orders.{stamp_first}
use Rattle.qc_entry.proofs.Members.{not_below}
use Rattle.theory_onecopy.proofs.Sorted.{Picks, ordered_at, picked-map, picks}
use Rattle.theory_onecopy.proofs.Lines.{line_from, line_in, lines_ordered, number_of_line, depends_is, from_map}

module _ (decl : Declaration) (all : List Placed) (v : AreFromViews decl all) where
  -- one operation, and those before it
  module _ (pre : List Placed) (b : Placed) (post : List Placed) (split : pre ++ b ∷ post ≡ all) where
    pub listed : In b all
    listed = subst (λ (l : List Placed). In b l) split (In-second b pre (b ∷ post) (inl refl))

    order : IsOrdered IsEarlier (pre ++ b ∷ post)
    order = subst (λ (l : List Placed). IsOrdered IsEarlier l) (sym split) v.ordered

    earlier : (c : Placed) → In c pre → In c all × IsEarlier c b
    earlier c h = (
      subst (λ (l : List Placed). In c l) split (In-first c pre (b ∷ post) h),
      ordered_across IsEarlier pre (b ∷ post) order c b h (inl refl),
    )

    -- what comes before it stands in front of it
    in_front : (c : Placed) → In c all → IsLineBefore (line_of c) (line_of b) → In c pre
    in_front c h l = elim (In-either c pre (b ∷ post) (subst (λ (x : List Placed). In c x) (sym split) h)) [
      | inl here ↦ here
      | inr there ↦ elim there [
        | inl same ↦ absurd (not_below (line_of b)
            (subst (λ (x : Placed). IsLineBefore (line_of x) (line_of b)) same l))
        | inr later ↦
            let m : IsLineBefore (line_of b) (line_of c) =
            earlier_line b c (ordered_across IsEarlier (pre ++ b ∷ []) post
            (subst (λ (x : List Placed). IsOrdered IsEarlier x) (sym (append_assoc pre (b ∷ []) post)) order) b c
            (In-second b pre (b ∷ []) (inl refl)) later) in
            absurd (not_below (line_of c) (line_trans (line_of c) (line_of b) (line_of c) l m))
      ]
    ]

    o : ℕ
    o = b.operation.op.object

    own : List Line
    own = map (λ (x : OwnLine). committed_line b.stamp b.tx x) b.operation.own

    log : List Line
    log = b.operation.view ++ map (λ (x : OwnLine). committed_line b.stamp b.tx x) b.operation.own

    a : IsAnswered decl b.operation
    a = v.answered b listed

    -- where a line of the log comes from
    pub record Origin (l : Line) : Type 0 where
      pub by : Placed
      pub listed : In by pre
      pub object : by.operation.op.object ≡ b.operation.op.object
      pub some : IsSome by.operation.op.resp
      pub is : l ≡ line_of by
      pub whose : In (line_of by) b.operation.view ⊎ IsNext by b

    origin : (l : Line) → In l (b.operation.view ++ map
        (λ (x : OwnLine). committed_line b.stamp b.tx x) b.operation.own) → Origin l
    origin l h = elim (In-either l b.operation.view
        (map (λ (x : OwnLine). committed_line b.stamp b.tx x) b.operation.own) h) [
          | inl seen ↦
              let s = v.smaller b l listed seen in
              record {
                by = s.by;
                listed = in_front s.by s.listed (stamp_first (line_of s.by) (line_of b)
                    (clock_less s.by.stamp b.stamp s.before));
                object = s.object;
                some = s.some;
                is = s.is;
                whose = inl (subst (λ (x : Line). In x b.operation.view) s.is seen);
              }
          | inr mine ↦
              let m = map_in (λ (x : OwnLine). committed_line b.stamp b.tx x) l b.operation.own mine in
              let s = v.own b m.from listed m.listed in
              let is : l ≡ line_of s.by = m.is ∙ ap (λ (x : OwnLine). committed_line b.stamp b.tx x) s.is
              ∙ ap (λ x. committed_line x b.tx (own_line s.by.operation)) (sym s.next.stamp)
              ∙ ap (λ x. committed_line s.by.stamp x (own_line s.by.operation)) (sym s.next.tx) in
              record {
                by = s.by;
                listed =
                    in_front s.by s.listed (op_first (line_of s.by) (line_of b) s.next.stamp s.next.tx s.next.number);
                object = s.next.object;
                some = s.some;
                is = is;
                whose = inr s.next;
              }
        ]

    -- an earlier own line stands in the log
    own_in : (c : Placed) → In c pre → IsNext c b → IsSome c.operation.op.resp
        → In (line_of c) (b.operation.view ++ map (λ (x : OwnLine). committed_line b.stamp b.tx x) b.operation.own)
    own_in c h n s =
        let there = In-map (λ (x : OwnLine). committed_line b.stamp b.tx x) (own_line c.operation) b.operation.own
        (v.own_all c b (earlier c h).0 listed n s) in
        let is : committed_line b.stamp b.tx (own_line c.operation) ≡ line_of c =
        ap (λ x. committed_line x b.tx (own_line c.operation)) (sym n.stamp)
        ∙ ap (λ x. committed_line c.stamp x (own_line c.operation)) (sym n.tx) in
        In-second (line_of c) b.operation.view (map (λ (x : OwnLine). committed_line b.stamp b.tx x) b.operation.own)
        (subst (λ (l : Line). In l (map (λ (x : OwnLine). committed_line b.stamp b.tx x) b.operation.own)) is there)

    own_ordered : (os : List OwnLine) → IsOrdered IsOwnBefore os
        → IsOrdered IsLineBefore (map (λ (x : OwnLine). committed_line b.stamp b.tx x) os)
    own_ordered [] ord = tt
    own_ordered (x ∷ xs) ord = (
      λ y h. (let m = map_in (λ (z : OwnLine). committed_line b.stamp b.tx z) y xs h in
          subst (λ (l : Line). IsLineBefore (committed_line b.stamp b.tx x) l) (sym m.is)
          (op_first (committed_line b.stamp b.tx x) (committed_line b.stamp b.tx m.from) refl refl
          (ord.0 m.from m.listed))),
      own_ordered xs ord.1,
    )

    log_ordered : IsOrdered IsLineBefore (b.operation.view ++ map
        (λ (x : OwnLine). committed_line b.stamp b.tx x) b.operation.own)
    log_ordered = ordered-append IsLineBefore b.operation.view
        (map (λ (x : OwnLine). committed_line b.stamp b.tx x) b.operation.own) a.sorted
        (own_ordered b.operation.own (v.own_sorted b listed)) (λ x y hx hy.
        let s = v.smaller b x listed hx in
        let m = map_in (λ (z : OwnLine). committed_line b.stamp b.tx z) y b.operation.own hy in
        let cx : x.stamp ≡ s.by.stamp = ap (λ (l : Line). l.stamp) s.is in
        let cy : y.stamp ≡ b.stamp = ap (λ (l : Line). l.stamp) m.is in
        stamp_first x y (subst (λ (z : Stamp). stamp_cmp z y.stamp ≡ Less) (sym cx)
        (subst (λ (z : Stamp). stamp_cmp s.by.stamp z ≡ Less) (sym cy) (clock_less s.by.stamp b.stamp s.before))))

    -- an earlier line on which its invocation depends stands in the log
    seen : (c : Placed) → In c pre → c.operation.op.object ≡ b.operation.op.object → IsSome c.operation.op.resp
        → IsTrue (depends_at decl b.operation.op.object b.operation.op.inv c.operation.event)
        → In (line_of c) (b.operation.view ++ map (λ (x : OwnLine). committed_line b.stamp b.tx x) b.operation.own)
    seen c h e s d = by (earlier c h).1
      where
        by : IsEarlier c b → In (line_of c) (b.operation.view ++ map
            (λ (x : OwnLine). committed_line b.stamp b.tx x) b.operation.own)
        by (inl less) = elim (v.ordering c b (earlier c h).0 listed
            (λ same. not_stamp_less b.stamp (subst (λ (z : Stamp). stamp_cmp z b.stamp ≡ Less) same less)) e s d) [
              | inl there ↦ In-first (line_of c) b.operation.view
                  (map (λ (x : OwnLine). committed_line b.stamp b.tx x) b.operation.own) there
              | inr wrong ↦
                  let le : c.stamp.clock ≤ b.stamp.clock = earlier_clocks c b (inl less) in
                  absurd (omega arith)
            ]
        by (inr mine) = own_in c h (record { stamp = mine.0; tx = mine.1; number = mine.2; object = e }) s

    -- and so does an earlier line on which the invocation of one of the log's lines depends
    closed : (c y : Placed) → In c pre → In y pre → (In (line_of y) b.operation.view ⊎ IsNext y b)
        → y.operation.op.object ≡ b.operation.op.object → c.operation.op.object ≡ b.operation.op.object
        → IsSome c.operation.op.resp → IsEarlier c y
        → IsTrue (depends_at decl y.operation.op.object y.operation.op.inv c.operation.event)
        → In (line_of c) (b.operation.view ++ map (λ (x : OwnLine). committed_line b.stamp b.tx x) b.operation.own)
    closed c y hc hy whose ey ec s (inr mine) d =
        let n : IsNext c y = record { stamp = mine.0; tx = mine.1; number = mine.2; object = ec ∙ sym ey } in
        elim whose [
          | inl there ↦ In-first (line_of c) b.operation.view
              (map (λ (x : OwnLine). committed_line b.stamp b.tx x) b.operation.own)
              (v.closed_own c y b (earlier c hc).0 (earlier y hy).0 listed there n s d)
          | inr next ↦
              let m : c.operation.number < y.operation.number = mine.2 in
              let k : y.operation.number < b.operation.number = next.number in
              own_in c hc (record {
                stamp = mine.0 ∙ next.stamp;
                tx = mine.1
                    ∙ next.tx;
                number = omega arith;
                object = ec;
              }) s
        ]
    closed c y hc hy whose ey ec s (inl less) d =
        elim (v.ordering c y (earlier c hc).0 (earlier y hy).0
        (λ same. not_stamp_less y.stamp (subst (λ (z : Stamp). stamp_cmp z y.stamp ≡ Less) same less))
        (ec ∙ sym ey) s d) [
          | inr wrong ↦ let le : c.stamp.clock ≤ y.stamp.clock = earlier_clocks c y (inl less) in absurd (omega arith)
          | inl there ↦ elim whose [
            | inl inside ↦ In-first (line_of c) b.operation.view
                (map (λ (x : OwnLine). committed_line b.stamp b.tx x) b.operation.own)
                (v.closed y b (line_of c) (earlier y hy).0 listed inside there)
            | inr next ↦ In-first (line_of c) b.operation.view
                (map (λ (x : OwnLine). committed_line b.stamp b.tx x) b.operation.own)
                (v.grows y b (line_of c) (earlier y hy).0 listed next there)
          ]
        ]

    front : IsOrdered IsEarlier pre
    front = ordered_left IsEarlier pre (b ∷ post) order

    chosen : Picks IsLineBefore not_below line_trans (lines_on b.operation.op.object pre)
        (b.operation.view ++ map (λ (x : OwnLine). committed_line b.stamp b.tx x) b.operation.own)
    chosen = picks IsLineBefore not_below line_trans (lines_on b.operation.op.object pre)
        (b.operation.view ++ map (λ (x : OwnLine). committed_line b.stamp b.tx x) b.operation.own)
        (lines_ordered b.operation.op.object pre front) log_ordered
        (λ l h. let r = origin l h in subst (λ (x : Line). In x (lines_on b.operation.op.object pre)) (sym r.is)
        (line_in b.operation.op.object pre r.by r.listed r.object r.some))

    history : List ℕ
    history = map (λ (l : Line). l.event) (lines_on b.operation.op.object pre)

    -- the order of two operations by the order of their lines
    in_order : (c y : Placed) → In c pre → In y pre → IsLineBefore (line_of c) (line_of y) → IsEarlier c y
    in_order c y hc hy l = elim (compared IsEarlier pre front c y hc hy) [
      | inl same ↦ absurd (not_below (line_of y) (subst (λ (x : Placed). IsLineBefore (line_of x) (line_of y)) same l))
      | inr rest ↦ elim rest [
        | inl is ↦ is
        | inr back ↦ absurd (not_below (line_of c)
            (line_trans (line_of c) (line_of y) (line_of c) l (earlier_line y c back)))
      ]
    ]

    view : IsView a.kind (map (λ (l : Line). l.event) (lines_on b.operation.op.object pre)) b.operation.op.inv
        chosen.set
    view = record {
      closed = λ p q e f pe qf l here d.
          let y = from_map (lines_on b.operation.op.object pre) p e pe in
          let x = from_map (lines_on b.operation.op.object pre) q f qf in
          let ry = origin y.0 (chosen.holds p y.0 y.1 here) in
          let rx = line_from b.operation.op.object pre x.0 (In-at (lines_on b.operation.op.object pre) q x.0 x.1) in
          let before : IsLineBefore x.0 y.0 = ordered_at IsLineBefore not_below line_trans
          (lines_on b.operation.op.object pre) (lines_ordered b.operation.op.object pre front) q p x.0 y.0 x.1 y.1 l
          in
          let here_before : IsLineBefore (line_of rx.by) (line_of ry.by) =
          subst (λ (z : Line). IsLineBefore z (line_of ry.by)) rx.is
          (subst (λ (z : Line). IsLineBefore x.0 z) ry.is before) in
          let ay = v.answered ry.by (earlier ry.by ry.listed).0 in
          let kinds : Some a.kind ≡ Some ay.kind = sym a.typed ∙ sym (ap (kind_at decl) ry.object) ∙ ay.typed in
          let number : e ≡ ry.by.operation.event = sym y.2 ∙ ap (λ (z : Line). z.event) ry.is in
          let other : f ≡ rx.by.operation.event = sym x.2 ∙ ap (λ (z : Line). z.event) rx.is in
          let same_kind : a.kind ≡ ay.kind = cc in
          let inv : inv_of ay.kind ry.by.operation.event ≡ ry.by.operation.op.inv =
          number_of_line ay.kind ry.by.operation.op.inv ry.by.operation.event ry.by.operation.op.resp ry.some
          ay.numbered in
          let inv' : inv_of a.kind e ≡ ry.by.operation.op.inv = ap (λ k. inv_of k e) same_kind
          ∙ ap (inv_of ay.kind) number ∙ inv in
          let dep : IsTrue (depends a.kind.relation ry.by.operation.op.inv rx.by.operation.event) =
          subst (λ (z : ℕ). IsTrue (depends a.kind.relation ry.by.operation.op.inv z)) other
          (subst (λ (z : ℕ). IsTrue (depends a.kind.relation z f)) inv' d) in
          let dep' : IsTrue (depends_at decl ry.by.operation.op.object ry.by.operation.op.inv rx.by.operation.event) =
          subst (λ (t : Bool). IsTrue t) (sym (depends_is decl ry.by.operation.op.object a.kind ry.by.operation.op.inv
          rx.by.operation.event (ap (kind_at decl) ry.object ∙ a.typed))) dep in
          chosen.back q x.0 x.1 (subst (λ (z : Line). In z
          (b.operation.view ++ map (λ (w : OwnLine). committed_line b.stamp b.tx w) b.operation.own)) (sym rx.is)
          (closed rx.by ry.by rx.listed ry.listed ry.whose ry.object rx.object rx.some
          (in_order rx.by ry.by rx.listed ry.listed here_before) dep'));
      complete = λ q f qf d.
          let x = from_map (lines_on b.operation.op.object pre) q f qf in
          let rx = line_from b.operation.op.object pre x.0 (In-at (lines_on b.operation.op.object pre) q x.0 x.1) in
          let other : f ≡ rx.by.operation.event = sym x.2 ∙ ap (λ (z : Line). z.event) rx.is in
          let dep : IsTrue (depends_at decl b.operation.op.object b.operation.op.inv rx.by.operation.event) =
          subst (λ (t : Bool). IsTrue t) (sym (depends_is decl b.operation.op.object a.kind b.operation.op.inv
          rx.by.operation.event a.typed)) (subst (λ (z : ℕ). IsTrue (depends a.kind.relation b.operation.op.inv z))
          other d) in
          chosen.back q x.0 x.1 (subst (λ (z : Line). In z
          (b.operation.view ++ map (λ (w : OwnLine). committed_line b.stamp b.tx w) b.operation.own)) (sym rx.is)
          (seen rx.by rx.listed rx.object rx.some dep));
    }

    picked_is : picked chosen.set (map (λ (l : Line). l.event) (lines_on b.operation.op.object pre))
        ≡ events_seen b.operation
    picked_is =
        picked-map (λ (l : Line). l.event) chosen.set (lines_on b.operation.op.object pre)
        ∙ ap (map (λ (l : Line). l.event)) chosen.is
        ∙ map-append (λ (l : Line). l.event) b.operation.view
        (map (λ (x : OwnLine). committed_line b.stamp b.tx x) b.operation.own)
        ∙ ap (λ (es : List ℕ). map (λ (l : Line). l.event) b.operation.view ++ es) (own_events b.operation.own)
      where
        own_events : (os : List OwnLine) → map (λ (l : Line). l.event)
            (map (λ (x : OwnLine). committed_line b.stamp b.tx x) os) ≡ map (λ (x : OwnLine). x.event) os
        own_events [] = refl
        own_events (x ∷ xs) = ap (λ (es : List ℕ). x.event ∷ es) (own_events xs)

    pub answers_are_from_views : IsFromView decl pre b
    answers_are_from_views = record { kind = a.kind; typed = a.typed; set = chosen.set; view = view; picks = picked_is }

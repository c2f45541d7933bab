-- An operation is answered from a met Read round, and its view is closed: a line stands in it with all that the line
-- was answered from.
use Rattle.std.proofs.Common.{◌≡◌, ℕ, ◌==◌, Bool, true, false, cond, inl, inr, List, [], ◌∷◌, ◌++◌, refl, sym, ap, ◌∙◌}
use Rattle.std.proofs.Common.{subst, eqb-true}
use Rattle.std.specs.Prelude.{◌&&◌, is_some}
use Rattle.qc_stamp.specs.declared.stamp.TxId.{TxId}
use Rattle.qc_entry.specs.declared.line.Line.{Line}
use Rattle.qc_entry.specs.declared.line.OwnLine.{OwnLine}
use Rattle.qc_decl.specs.declared.declaration.Declaration.{Declaration}
use Rattle.qc_list.specs.Vocabulary.{In}
use Rattle.theory_onecopy.specs.Vocabulary.{Executed, committed_line, own_line}
use Rattle.theory_machine.specs.Vocabulary.{AreInOrder, IsAnsweredFromQuorum, IsClosedAt, IsExecutedFrom}
use Rattle.theory_machine.specs.Vocabulary.{IsNextOperation, LogLaws, State, StateLaws, own_on, site_after}
use Rattle.theory_machine.proofs.Grows.{same}
use Rattle.qc_list.proofs.Members.{In-either}

module _ (decl : Declaration) where
  -- what an operation that was answered is
  pub next_operation : (w : State) (tx : TxId) (d : Executed)
      → IsExecutedFrom decl (w.epoch tx) w.counted (w.executed tx) tx d → LogLaws decl w
      → IsNextOperation (w.executed tx) d
  next_operation w tx d k l = record {
    numbered = k.numbered;
    own = k.own;
    grows = λ b m h e i. (let r = (l.right tx b (inl h)).shown m i in k.whole m r.1 (r.0 ∙ e));
  }

  pub answered_from_quorum : (w : State) (tx : TxId) (d : Executed)
      → IsExecutedFrom decl (w.epoch tx) w.counted (w.executed tx) tx d
      → IsAnsweredFromQuorum decl (w.epoch tx) w.counted tx d
  answered_from_quorum w tx d k = record {
    answered = k.answered;
    known = k.known;
    shown = k.shown;
    met = record {
      sites = k.met.sites;
      enough = k.met.enough;
      each = λ s t. (let a = k.met.each s t in record {
        grant = a.grant;
        counts = a.counts;
        its = a.its;
        from = a.from;
        has = a.has;
        seen = λ l shows on. k.whole l (record { grant = a.grant; counts = a.counts; its = a.its; shows = shows }) on;
      });
    };
  }

  -- a view is closed: what a line of it was answered from stands in the log that showed the line, and is of the object
  pub view_closed : (w : State) (tx : TxId) (d : Executed)
      → IsExecutedFrom decl (w.epoch tx) w.counted (w.executed tx) tx d → StateLaws decl w → LogLaws decl w → (l : Line)
      → In l d.view → IsClosedAt decl w.status w.executed d.view l
  view_closed w tx d k wl l line h =
      let s = k.shown line h in
      let site = l.granted s.1.grant (wl.known s.1.grant s.1.counts) in
      let f = site.volatile line s.1.shows.stands in
      let object : line.object ≡ f.operation.op.object = ap (λ (x : Line). x.object) f.is in
      let on : f.operation.op.object ≡ d.op.object = sym object ∙ s.0 in
      let whole : (m : Line) → In m (site_after s.1.grant.before).volatile → m.object ≡ d.op.object
      → In m d.view = λ m i e.
      k.whole m (record {
        grant = s.1.grant;
        counts = s.1.counts;
        its = s.1.its;
        shows = record {
          stands = i;
          lock = s.1.shows.lock;
          granted = s.1.shows.granted;
          on = s.1.shows.on ∙ s.0
              ∙ sym e;
        };
      }) e in
      record {
        commit = f.commit;
        committed = f.committed;
        operation = f.operation;
        listed = f.listed;
        some = f.some;
        is = f.is;
        view = λ m i. whole m (f.view m i) (((l.right line.tx f.operation (inl f.listed)).shown m i).0 ∙ on);
        own = λ o i n. whole (committed_line line.stamp line.tx o) (f.own o i n)
            (own_object w line.tx f.operation o i f.listed l ∙ on);
      }
    where
      own_object : (w : State) (t : TxId) (b : Executed) (o : OwnLine) → In o b.own → In b (w.executed t)
          → LogLaws decl w → o.object ≡ b.op.object
      own_object w t b o i h l = own_is (w.executed t) [] (l.order t) h
        where
          on_object : (ds : List Executed) (object : ℕ) → In o (own_on ds object) → o.object ≡ object
          on_object [] object h = absurd h
          on_object (e ∷ es) object h = elim (In-either o
              (cond ((e.op.object == object) && is_some e.op.resp) (own_line e ∷ []) []) (own_on es object) h) [
                | inl here ↦ one ((e.op.object == object)) refl (is_some e.op.resp) here
                | inr there ↦ on_object es object there
              ]
            where
              one : (t : Bool) → (e.op.object == object) ≡ t → (u : Bool) → In o (cond (t && u) (own_line e ∷ []) [])
                  → o.object ≡ object
              one true eq true (inl same) = ap (λ (x : OwnLine). x.object) same ∙ eqb-true e.op.object object eq
              one true eq true (inr never) = absurd never
              one true eq false h = absurd h
              one false eq u h = absurd h

          own_is : (ds earlier : List Executed) → AreInOrder earlier ds → In b ds → o.object ≡ b.op.object
          own_is [] earlier ord h = absurd h
          own_is (e ∷ es) earlier ord (inl same) =
              on_object earlier b.op.object (subst (λ (os : List OwnLine). In o os)
              (ap (λ (x : Executed). x.own) same ∙ ord.0.own
              ∙ ap (λ (x : Executed). own_on earlier x.op.object) (sym same)) i)
          own_is (e ∷ es) earlier ord (inr h) = own_is es (earlier ++ e ∷ []) ord.1 h

-- A site serves a request.
use Rattle.std.proofs.Common.{◌≡◌, ℕ, ◌+◌, ◌≤◌, inl, inr, List, [], ◌++◌, length, refl, sym, ap, ◌∙◌, subst, arith}
use Rattle.std.proofs.Common.{append-nil, length-append}
use Rattle.qc_entry.specs.declared.line.Line.{Line}
use Rattle.qc_entry.specs.Vocabulary.{of_object, without}
use Rattle.qc_list.proofs.Members.{In-first, In-second}
use Rattle.theory_marks.specs.Acts.{Allowed, MayServe, ServeAppend, ServeRead, after, joins, with_site}
use Rattle.theory_marks.specs.Laws.{ExchangeLaws, HasBeen, IsAppendGrant, IsReadGrant, IsServed, IsTrueMark}
use Rattle.theory_marks.proofs.Now.{is_now}
use Rattle.theory_machine.specs.Vocabulary.{put}
use Rattle.theory_marks.proofs.SiteActs.{site_act}
use Rattle.theory_marks.proofs.Lists.{of-append}
use Rattle.theory_marks.specs.Exchange.{AppendGrant, AppendRequest, Exchange, ReadGrant, ReadRequest}
use Rattle.theory_marks.proofs.Sites.{Moves, periods_with, present_there}
use Rattle.theory_machine.proofs.Names.{put_here}
use Rattle.theory_marks.specs.Marks.{Arrivals, Mark}
use Rattle.qc_entry.proofs.Without.{in_without}

-- a Read is served

mark_low : (w : Exchange) → ExchangeLaws w → (n o : ℕ) (m : Mark) → IsTrueMark w.periods (w.sites n) n o m
    → m.life ≡ (w.sites n).life → m.epoch ≡ (w.sites n).epoch
    → m.count ≤ length (of_object (w.sites n).arrived o)
mark_low w l n o m t el ee =
    let a : t.then.life ≡ (w.sites n).life = sym (ap (λ (x : Mark). x.life) t.is) ∙ el in
    let b : t.then.epoch ≡ (w.sites n).epoch = sym (ap (λ (x : Mark). x.epoch) t.is) ∙ ee in
    let front : (w.sites n).arrived ≡ t.then.arrived ++ t.was.more =
    sym (l.present n) ∙ sym (ap (λ (x : ℕ). w.periods n x (w.sites n).epoch) a)
    ∙ sym (ap (λ (x : ℕ). w.periods n t.then.life x) b) ∙ t.was.front in
    let both : of_object (w.sites n).arrived o ≡ of_object t.then.arrived o ++ of_object t.was.more o =
    ap (λ (xs : List Line). of_object xs o) front ∙ of-append t.then.arrived t.was.more o in
    let long : length (of_object (w.sites n).arrived o)
    ≡ length (of_object t.then.arrived o) + length (of_object t.was.more o) =
    ap length both ∙ length-append (of_object t.then.arrived o) (of_object t.was.more o) in
    let count : m.count ≡ length (of_object t.then.arrived o) = ap (λ (x : Mark). x.count) t.is in
    omega arith

served_now : (w : Exchange) → ExchangeLaws w → (n epoch life : ℕ) → MayServe (w.sites n) epoch life
    → IsServed (w.sites n) epoch life
served_now w l n epoch life s = record { alive = l.alive n; epoch_is = sym s.current; life_is = s.named }

pub serve_read_keeps : (w : Exchange) (r : ReadRequest) → ExchangeLaws w → Allowed w (ServeRead r)
    → ExchangeLaws (after w (ServeRead r))
serve_read_keeps w r l ok = record {
  present = l.present;
  alive = l.alive;
  reads = l.reads;
  appends = l.appends;
  one_read = l.one_read;
  one_append = l.one_append;
  granted = λ g i. elim i [
    | inl e ↦ subst (λ (x : ReadGrant). IsReadGrant w.periods w.sites w.reads x) (sym e) (record {
      asked = ok.0;
      was = is_now w l r.site;
      served = served_now w l r.site r.epoch r.life ok.1;
      mark = mark_low w l r.site r.object r.mark (l.reads r ok.0).1;
    })
    | inr h ↦ l.granted g h
  ];
  agreed = l.agreed;
  clients = l.clients;
}

-- lines join

pub join_moves : (s : Arrivals) (lines : List Line) → Moves s (joins s lines)
join_moves s lines = record { life = omega arith; epoch = omega arith; how = inl (without lines s.arrived, refl) }

pub serve_append_keeps : (w : Exchange) (a : AppendRequest) → ExchangeLaws w → Allowed w (ServeAppend a)
    → ExchangeLaws (after w (ServeAppend a))
serve_append_keeps w a l ok = record {
  present = m.present;
  alive = m.alive;
  reads = m.reads;
  appends = m.appends;
  one_read = m.one_read;
  one_append = m.one_append;
  granted = m.granted;
  agreed = λ g i. elim i [
    | inl e ↦
        subst (λ (x : AppendGrant). IsAppendGrant (periods_with w.periods a.site (joins (w.sites a.site) a.lines))
        (put w.sites a.site (joins (w.sites a.site) a.lines)) w.appends x) (sym e) (record {
          asked = ok.0;
          was =
              subst (λ (x : Arrivals). HasBeen (periods_with w.periods a.site (joins (w.sites a.site) a.lines)) x a.site
              (joins (w.sites a.site) a.lines)) (sym (put_here w.sites a.site (joins (w.sites a.site) a.lines)))
              (record {
                life = omega arith;
                epoch = omega arith;
                more = [];
                front = present_there w.periods a.site (joins (w.sites a.site) a.lines)
                    ∙ sym (append-nil (joins (w.sites a.site) a.lines).arrived);
              });
          served = record { alive = l.alive a.site; epoch_is = sym (ok.1).current; life_is = (ok.1).named };
          lines = λ line h. elim (in_without a.lines (w.sites a.site).arrived line h) [
            | inl x ↦ In-second line (w.sites a.site).arrived (without a.lines (w.sites a.site).arrived) x
            | inr x ↦ In-first line (w.sites a.site).arrived (without a.lines (w.sites a.site).arrived) x
          ];
        })
    | inr h ↦ m.agreed g h
  ];
  clients = m.clients;
}
  where
    m : ExchangeLaws (with_site w a.site (joins (w.sites a.site) a.lines))
    m = site_act w a.site (joins (w.sites a.site) a.lines) l (join_moves (w.sites a.site) a.lines) (l.alive a.site)

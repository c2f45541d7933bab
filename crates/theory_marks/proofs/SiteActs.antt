-- What a site's acts leave as it was: all that was true of the sites that once were.
use Rattle.std.proofs.Common.{◌≡◌, ◌≢◌, ℕ, ◌==◌, inl, inr, Bool, true, false, refl, sym, ap, ◌∙◌, eqb-true}
use Rattle.theory_marks.proofs.Sites.{Moves, been_stays, line_stays, mark_stays, periods_with, present_there}
use Rattle.theory_marks.proofs.Sites.{true_stays}
use Rattle.theory_machine.specs.Vocabulary.{put}
use Rattle.theory_marks.specs.Exchange.{AppendRequest, Client, Exchange, had}
use Rattle.theory_machine.proofs.Names.{put_case, put_here}
use Rattle.theory_marks.specs.Laws.{ClientLaws, ExchangeLaws, IsShort}
use Rattle.theory_marks.proofs.Witnessed.{whole}
use Rattle.theory_marks.specs.Marks.{Arrivals}
use Rattle.theory_marks.specs.Acts.{with_site}

-- a site goes on, and all else stays

client_stays : (w : Exchange) (n : ℕ) (s : Arrivals) → ExchangeLaws w → Moves (w.sites n) s → (c : ℕ) (k : Client)
    → ClientLaws w.periods w.sites w.reads w.appends c k
    → ClientLaws (periods_with w.periods n s) (put w.sites n s) w.reads w.appends c k
client_stays w n s l moves c k h = record {
  known =
      λ m o. true_stays w.periods (periods_with w.periods n s) (w.sites m) (put w.sites n s m) m
      (been_stays w n s (l.present n) moves m) o (k.known m o) (h.known m o);
  waits = h.waits;
  had =
      λ m o line i. line_stays w.periods (periods_with w.periods n s) (w.sites m) (put w.sites n s m) m
      (been_stays w n s (l.present n) moves m) (k.lives m) k.epoch line (h.had m o line i);
  views = h.views;
}

short_stays : (w : Exchange) (n : ℕ) (s : Arrivals) → ExchangeLaws w → Moves (w.sites n) s → (a : AppendRequest)
    → IsShort w.periods w.sites a → IsShort (periods_with w.periods n s) (put w.sites n s) a
short_stays w n s l moves a h = record {
  view = h.view;
  lines = h.lines;
  less = h.less;
  whole = λ line i. elim (h.whole line i) [
    | inl x ↦ inl x
    | inr x ↦
        inr (line_stays w.periods (periods_with w.periods n s) (w.sites a.site) (put w.sites n s a.site) a.site
        (been_stays w n s (l.present n) moves a.site) a.life a.epoch line x)
  ];
}

pub site_act : (w : Exchange) (n : ℕ) (s : Arrivals) → ExchangeLaws w → Moves (w.sites n) s → s.life ≢ 0
    → ExchangeLaws (with_site w n s)
site_act w n s l moves alive = record {
  present = λ m. by m (m == n) refl;
  alive = λ m. put_case (λ (x : Arrivals). x.life ≢ 0) w.sites n s m (λ e. alive) (λ ne. l.alive m);
  reads =
      λ r i. (
        (l.reads r i).0,
        mark_stays w.periods (periods_with w.periods n s) (w.sites r.site) (put w.sites n s r.site) r.site
            (been_stays w n s (l.present n) moves r.site) r.object r.mark (l.reads r i).1,
      );
  appends = λ a i. ((l.appends a i).0, short_stays w n s l moves a (l.appends a i).1);
  one_read = l.one_read;
  one_append = l.one_append;
  granted =
      λ g i. (let x = l.granted g i in
      record {
        asked = x.asked;
        was = been_stays w n s (l.present n) moves g.request.site g.by x.was;
        served = x.served;
        mark = x.mark;
      });
  agreed =
      λ g i. (let x = l.agreed g i in
      record {
        asked = x.asked;
        was = been_stays w n s (l.present n) moves g.request.site g.by x.was;
        served = x.served;
        lines = x.lines;
      });
  clients = λ c. client_stays w n s l moves c (w.clients c) (l.clients c);
}
  where
    by : (m : ℕ) (b : Bool) → (m == n) ≡ b
        → periods_with w.periods n s m (put w.sites n s m).life (put w.sites n s m).epoch ≡ (put w.sites n s m).arrived
    by m false e = rw e (l.present m)
    by m true e =
        let same : m ≡ n = eqb-true m n e in
        let p : periods_with w.periods n s m s.life s.epoch ≡ s.arrived =
        ap (λ (k : ℕ). periods_with w.periods n s k s.life s.epoch) same ∙ present_there w.periods n s in
        let q : put w.sites n s m ≡ s = ap (λ (k : ℕ). put w.sites n s k) same ∙ put_here w.sites n s in
        ap (λ (x : Arrivals). periods_with w.periods n s m x.life x.epoch) q ∙ p
        ∙ sym (ap (λ (x : Arrivals). x.arrived) q)

-- A client counts a grant of an Append.
use Rattle.std.proofs.Common.{◌≡◌, ℕ, ◌+◌, ◌==◌, inl, inr, Bool, true, false, cond, if◌then◌else◌, [], ◌++◌, Option}
use Rattle.std.proofs.Common.{Some, None, refl, sym, ◌∙◌, subst, eqb-true}
use Rattle.qc_entry.specs.declared.line.Line.{Line}
use Rattle.qc_list.specs.Vocabulary.{In}
use Rattle.qc_list.proofs.Members.{In-first, In-second, In-either}
use Rattle.theory_marks.specs.Acts.{Allowed, CountAppend, counts_append, first_life}
use Rattle.theory_marks.proofs.Clients.{first_other, first_same, had_with, other_waits, put_other}
use Rattle.theory_machine.specs.Vocabulary.{put}
use Rattle.theory_marks.specs.Laws.{ClientLaws, ExchangeLaws, HadLine, IsWaiting}
use Rattle.theory_marks.specs.Exchange.{AppendGrant, Client, Exchange, Request, had}
use Rattle.theory_marks.proofs.Now.{counted_append}
use Rattle.theory_machine.proofs.Names.{put_case}

-- a client counts a grant of an Append

module _ (w : Exchange) (g : AppendGrant) (l : ExchangeLaws w) (ok : Allowed w (CountAppend g)) where
  abbrev ka : Client
  ka = w.clients g.request.client

  abbrev na : ℕ
  na = g.request.site

  lives_kept : (o : ℕ) (line : Line) → In line (had ka na o)
      → HadLine w.periods (w.sites na) na (first_life (ka.lives na) g.by.life) ka.epoch line
  lives_kept o line i =
      let h = (l.clients g.request.client).had na o line i in
      had_with (first_same (ka.lives na) g.by.life h.named) h

  lines_had : (line : Line) → In line g.request.lines
      → HadLine w.periods (w.sites na) na (first_life (ka.lives na) g.by.life) ka.epoch line
  lines_had line i =
      let x = l.agreed g ok.0 in
      let y = counted_append w g l ok.0 (ka.waits na) refl ok.1 in
      let e : first_life (ka.lives na) g.by.life ≡ g.by.life =
      first_other (ka.lives na) g.by.life g.request.life y.life x.served.life_is in
      record {
        named = λ z. x.served.alive (sym e ∙ z);
        then = g.by;
        was = x.was;
        life_is = sym e;
        epoch_is = x.served.epoch_is ∙ y.epoch;
        line = x.lines line i;
      }

  given_object : (o : ℕ) (line : Line) (b : Bool) → (o == g.request.object) ≡ b
      → In line
      ((if ka.read na o then (ka.known na o).log else [])
      ++ cond b (g.request.lines ++ ka.given na g.request.object) (ka.given na o))
      → HadLine w.periods (w.sites na) na (first_life (ka.lives na) g.by.life) ka.epoch line
  given_object o line false e i = lives_kept o line i
  given_object o line true e i =
      elim (In-either line (if ka.read na o then (ka.known na o).log else [])
      (g.request.lines ++ ka.given na g.request.object) i) [
        | inl a ↦ lives_kept o line (In-first line (if ka.read na o then (ka.known na o).log else []) (ka.given na o) a)
        | inr b ↦ elim (In-either line g.request.lines (ka.given na g.request.object) b) [
          | inl a ↦ lines_had line a
          | inr c ↦
              lives_kept g.request.object line
              (In-second line (if ka.read na g.request.object then (ka.known na g.request.object).log else [])
              (ka.given na g.request.object) c)
        ]
      ]

  given_site : (m o : ℕ) (line : Line) (b : Bool) → (m == na) ≡ b
      → In line
      ((if ka.read m o then (ka.known m o).log else [])
      ++ cond b (put (ka.given na) g.request.object (g.request.lines ++ ka.given na g.request.object))
      (ka.given m) o)
      → HadLine w.periods (w.sites m) m (cond b (first_life (ka.lives na) g.by.life) (ka.lives m)) ka.epoch line
  given_site m o line false e i = (l.clients g.request.client).had m o line i
  given_site m o line true e i =
      let same : m ≡ na = eqb-true m na e in
      subst (λ (x : ℕ). HadLine w.periods (w.sites x) x (first_life (ka.lives na) g.by.life) ka.epoch line) (sym same)
      (given_object o line (o == g.request.object) refl
      (subst (λ (x : ℕ). In line
      ((if ka.read x o then (ka.known x o).log else [])
      ++ put (ka.given na) g.request.object (g.request.lines ++ ka.given na g.request.object) o)) same i))

  pub counts_append_keeps : ClientLaws w.periods w.sites w.reads w.appends g.request.client (counts_append ka g)
  counts_append_keeps = record {
    known = (l.clients g.request.client).known;
    waits =
        λ m q. put_case (λ (x : Option Request). x ≡ Some q
        → IsWaiting w.reads w.appends g.request.client m (counts_append ka g) q) ka.waits na None m
        (λ e is. absurd (let never : ⊥ = cc in never))
        (λ ne is. other_waits w g.request.client ka (counts_append ka g) m q refl
        (put_other ka.lives na (first_life (ka.lives na) g.by.life) m ne) (λ o. refl)
        ((l.clients g.request.client).waits m q is));
    had = λ m o line i. given_site m o line (m == na) refl i;
    views = (l.clients g.request.client).views;
  }

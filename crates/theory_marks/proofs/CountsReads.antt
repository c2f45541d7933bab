-- A client counts a grant of a Read.
use Rattle.std.proofs.Common.{◌≡◌, ℕ, ◌+◌, ◌==◌, inl, inr, Bool, true, false, cond, if◌then◌else◌, List, [], ◌++◌}
use Rattle.std.proofs.Common.{Option, Some, None, refl, sym, ap, ◌∙◌, subst, eqb-true}
use Rattle.qc_entry.specs.declared.line.Line.{Line}
use Rattle.qc_entry.specs.Vocabulary.{IsAscending, of_object, union}
use Rattle.qc_list.specs.Vocabulary.{In}
use Rattle.qc_list.proofs.Members.{In-second, In-unfiltered, In-either}
use Rattle.qc_entry.proofs.Union.{ascending-union}
use Rattle.theory_marks.specs.Laws.{ClientLaws, ExchangeLaws, HadLine, IsTrueLog, IsWaiting}
use Rattle.qc_entry.proofs.Logs.{ascending-log, of_log}
use Rattle.theory_marks.specs.Acts.{Allowed, CountRead, counts_read, first_life, known_after}
use Rattle.theory_marks.specs.Exchange.{Client, Exchange, ReadGrant, Request, count_of, had}
use Rattle.theory_marks.proofs.Clients.{first_other, first_same, had_with, other_waits, put_other}
use Rattle.theory_machine.specs.Vocabulary.{put}
use Rattle.theory_marks.specs.Marks.{KnownLog}
use Rattle.theory_marks.proofs.Now.{counted, knows_all}
use Rattle.theory_machine.proofs.Names.{put_case}

-- a client counts a grant of a Read

module _ (w : Exchange) (g : ReadGrant) (l : ExchangeLaws w) (ok : Allowed w (CountRead g)) where
  abbrev k : Client
  k = w.clients g.request.client

  abbrev n : ℕ
  n = g.request.site

  abbrev object : ℕ
  object = g.request.object

  fresh_true : IsTrueLog w.periods (w.sites n) n object (known_after k g)
  fresh_true = record {
    then = g.by;
    was = (l.granted g ok.0).was;
    mark =
        let x = l.granted g ok.0 in
        let y = counted w g l ok.0 (k.waits n) refl ok.1 in
        let e : k.epoch ≡ g.by.epoch = sym (x.served.epoch_is ∙ y.epoch) in
        ap (λ (i : ℕ). record { life = g.by.life; epoch = i; count = count_of g }) e;
    log = knows_all w g l ok;
  }

  -- its lines are had in the life of the grant
  fresh_had : (line : Line) → In line (known_after k g).log
      → HadLine w.periods (w.sites n) n (first_life (k.lives n) g.by.life) k.epoch line
  fresh_had line i =
      let x = l.granted g ok.0 in
      let y = counted w g l ok.0 (k.waits n) refl ok.1 in
      let e : first_life (k.lives n) g.by.life ≡ g.by.life =
      first_other (k.lives n) g.by.life g.request.life y.life x.served.life_is in
      record {
        named = λ z. x.served.alive (sym e ∙ z);
        then = g.by;
        was = x.was;
        life_is = sym e;
        epoch_is = x.served.epoch_is ∙ y.epoch;
        line = In-unfiltered _ line g.by.arrived (of_log line (of_object g.by.arrived object)
            (subst (λ (xs : List Line). In line xs) (knows_all w g l ok) i));
      }

  -- what was had stays had
  kept_had : (o : ℕ) (line : Line) → In line (had k n o)
      → HadLine w.periods (w.sites n) n (first_life (k.lives n) g.by.life) k.epoch line
  kept_had o line i =
      let h = (l.clients g.request.client).had n o line i in
      had_with (first_same (k.lives n) g.by.life h.named) h

  had_object : (o : ℕ) (line : Line) (b : Bool) → (o == object) ≡ b
      → In line ((if cond b true (k.read n o) then (cond b (known_after k g) (k.known n o)).log else []) ++ k.given n o)
      → HadLine w.periods (w.sites n) n (first_life (k.lives n) g.by.life) k.epoch line
  had_object o line false e i = kept_had o line i
  had_object o line true e i = elim (In-either line (known_after k g).log (k.given n o) i) [
    | inl a ↦ fresh_had line a
    | inr b ↦ kept_had o line (In-second line (if k.read n o then (k.known n o).log else []) (k.given n o) b)
  ]

  had_site : (m o : ℕ) (line : Line) (b : Bool) → (m == n) ≡ b
      → In line
      ((if cond b (put (k.read n) object true) (k.read m) o then
      (cond b (put (k.known n) object (known_after k g)) (k.known m) o).log else []) ++ k.given m o)
      → HadLine w.periods (w.sites m) m (cond b (first_life (k.lives n) g.by.life) (k.lives m)) k.epoch line
  had_site m o line false e i = (l.clients g.request.client).had m o line i
  had_site m o line true e i =
      let same : m ≡ n = eqb-true m n e in
      subst (λ (x : ℕ). HadLine w.periods (w.sites x) x (first_life (k.lives n) g.by.life) k.epoch line) (sym same)
      (had_object o line (o == object) refl
      (subst (λ (x : ℕ). In line
      ((if put (k.read n) object true o then (put (k.known n) object (known_after k g) o).log else [])
      ++ k.given x o)) same i))

  known_site : (m o : ℕ) (b : Bool) → (m == n) ≡ b
      → IsTrueLog w.periods (w.sites m) m o (cond b (put (k.known n) object (known_after k g)) (k.known m) o)
  known_site m o false e = (l.clients g.request.client).known m o
  known_site m o true e =
      let same : m ≡ n = eqb-true m n e in
      subst (λ (x : ℕ). IsTrueLog w.periods (w.sites x) x o (put (k.known n) object (known_after k g) o)) (sym same)
      (put_case (λ (x : KnownLog). IsTrueLog w.periods (w.sites n) n o x) (k.known n) object (known_after k g) o
      (λ e. subst (λ (y : ℕ). IsTrueLog w.periods (w.sites n) n y (known_after k g)) (sym e) fresh_true)
      (λ ne. (l.clients g.request.client).known n o))

  pub counts_read_keeps : ClientLaws w.periods w.sites w.reads w.appends g.request.client (counts_read k g)
  counts_read_keeps = record {
    known = λ m o. known_site m o (m == n) refl;
    waits =
        λ m q. put_case (λ (x : Option Request). x ≡ Some q
        → IsWaiting w.reads w.appends g.request.client m (counts_read k g) q) k.waits n None m
        (λ e is. absurd (let never : ⊥ = cc in never))
        (λ ne is. other_waits w g.request.client k (counts_read k g) m q refl
        (put_other k.lives n (first_life (k.lives n) g.by.life) m ne)
        (λ o. ap (λ (f : ℕ → KnownLog). f o) (put_other k.known n (put (k.known n) object (known_after k g)) m ne))
        ((l.clients g.request.client).waits m q is));
    had = λ m o line i. had_site m o line (m == n) refl i;
    views = λ o. put_case IsAscending k.view object (union (k.view object) (known_after k g).log) o
        (λ e. ascending-union (k.view object) (known_after k g).log ((l.clients g.request.client).views object)
        (subst IsAscending (sym (knows_all w g l ok)) (ascending-log (of_object g.by.arrived object))))
        (λ ne. (l.clients g.request.client).views o);
  }

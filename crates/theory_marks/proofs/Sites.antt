-- What a site had stays known as it goes on: its lines only grow in one life and epoch, and a new life or epoch has a
-- place of its own.
use Rattle.std.proofs.Common.{◌≡◌, ℕ, ◌<◌, ◌≤◌, ◌==◌, ◌⊎◌, inl, inr, Bool, true, false, List, ◌++◌, refl, sym, ap, ◌∙◌}
use Rattle.std.proofs.Common.{subst, arith, eqb-true, append_assoc}
use Rattle.qc_entry.specs.declared.line.Line.{Line}
use Rattle.theory_marks.specs.Laws.{HadLine, HasBeen, IsTrueLog, IsTrueMark}
use Rattle.theory_machine.specs.Vocabulary.{put}
use Rattle.theory_marks.specs.Marks.{Arrivals, KnownLog, Mark}
use Rattle.theory_machine.proofs.Names.{put_here}
use Rattle.theory_marks.specs.Exchange.{Exchange}

-- a site goes on: in its life and epoch with more lines, or in a later one
pub record Moves (now s : Arrivals) : Type 0 where
  pub life : now.life ≤ s.life
  pub epoch : now.epoch ≤ s.epoch
  pub how : ((added : List Line) × (s.arrived ≡ now.arrived ++ added)) ⊎ ((now.life < s.life) ⊎ (now.epoch < s.epoch))

abbrev pub periods_with : (ℕ → ℕ → ℕ → List Line) → ℕ → Arrivals → ℕ → ℕ → ℕ → List Line
periods_with p n s = put p n (put (p n) s.life (put (p n s.life) s.epoch s.arrived))

pub present_there : (p : ℕ → ℕ → ℕ → List Line) (n : ℕ) (s : Arrivals) → periods_with p n s n s.life s.epoch ≡ s.arrived
present_there p n s =
    ap (λ (f : ℕ → ℕ → List Line). f s.life s.epoch)
    (put_here p n (put (p n) s.life (put (p n s.life) s.epoch s.arrived)))
    ∙ ap (λ (f : ℕ → List Line). f s.epoch) (put_here (p n) s.life (put (p n s.life) s.epoch s.arrived))
    ∙ put_here (p n s.life) s.epoch s.arrived

-- at the site itself
been_here : (p : ℕ → ℕ → ℕ → List Line) (now s : Arrivals) (n : ℕ) → p n now.life now.epoch ≡ now.arrived → Moves now s
    → (t : Arrivals) → HasBeen p now n t
    → HasBeen (λ m. put (p n) s.life (put (p n s.life) s.epoch s.arrived)) s n t
been_here p now s n present moves t was = by (t.life == s.life) (t.epoch == s.epoch) refl refl
  where
    Front : List Line → Type 0
    Front x = (more : List Line) × (x ≡ t.arrived ++ more)

    made : Front (put (p n) s.life (put (p n s.life) s.epoch s.arrived) t.life t.epoch)
        → HasBeen (λ m. put (p n) s.life (put (p n s.life) s.epoch s.arrived)) s n t
    made f = record {
      life = let a : t.life ≤ now.life = was.life in let b : now.life ≤ s.life = moves.life in omega arith;
      epoch = let a : t.epoch ≤ now.epoch = was.epoch in let b : now.epoch ≤ s.epoch = moves.epoch in omega arith;
      more = f.0;
      front = f.1;
    }

    grown : t.life ≡ s.life → t.epoch ≡ s.epoch
        → ((added : List Line) × (s.arrived ≡ now.arrived ++ added)) ⊎ ((now.life < s.life) ⊎ (now.epoch < s.epoch))
        → Front s.arrived
    grown el ee (inr (inl less)) =
        absurd (let a : t.life ≤ now.life = was.life in
        let e : t.life ≡ s.life = el in let l : now.life < s.life = less in omega arith)
    grown el ee (inr (inr less)) =
        absurd (let a : t.epoch ≤ now.epoch = was.epoch in
        let e : t.epoch ≡ s.epoch = ee in let l : now.epoch < s.epoch = less in omega arith)
    grown el ee (inl more) =
        let a : t.life ≤ now.life = was.life in
        let b : now.life ≤ s.life = moves.life in
        let c : t.epoch ≤ now.epoch = was.epoch in
        let d : now.epoch ≤ s.epoch = moves.epoch in
        let e : t.life ≡ s.life = el in
        let f : t.epoch ≡ s.epoch = ee in
        let same_life : t.life ≡ now.life = omega arith in
        let same_epoch : t.epoch ≡ now.epoch = omega arith in
        let front : now.arrived ≡ t.arrived ++ was.more =
        sym present ∙ sym (ap (λ (x : ℕ). p n x now.epoch) same_life)
        ∙ sym (ap (λ (x : ℕ). p n t.life x) same_epoch) ∙ was.front in (
          was.more ++ more.0,
          more.1 ∙ ap (λ (xs : List Line). xs ++ more.0) front ∙ append_assoc t.arrived was.more more.0,
        )

    by : (b c : Bool) → (t.life == s.life) ≡ b → (t.epoch == s.epoch) ≡ c
        → HasBeen (λ m. put (p n) s.life (put (p n s.life) s.epoch s.arrived)) s n t
    by false c el ee = made (rw el (was.more, was.front))
    by true false el ee =
        made (rw (el, ee)
        (was.more, subst (λ (x : ℕ). p n x t.epoch ≡ t.arrived ++ was.more) (eqb-true t.life s.life el) was.front))
    by true true el ee = made (rw (el, ee) (grown (eqb-true t.life s.life el) (eqb-true t.epoch s.epoch ee) moves.how))

pub been_stays : (w : Exchange) (n : ℕ) (s : Arrivals)
    → w.periods n (w.sites n).life (w.sites n).epoch ≡ (w.sites n).arrived → Moves (w.sites n) s
    → (m : ℕ) (t : Arrivals)
    → HasBeen w.periods (w.sites m) m t → HasBeen (periods_with w.periods n s) (put w.sites n s m) m t
been_stays w n s present moves m t was = by (m == n) refl
  where
    here : m ≡ n → HasBeen (λ k. put (w.periods n) s.life (put (w.periods n s.life) s.epoch s.arrived)) s m t
    here e =
        let x =
        been_here w.periods (w.sites n) s n present moves t
        (subst (λ (k : ℕ). HasBeen w.periods (w.sites k) k t) e was) in
        record { life = x.life; epoch = x.epoch; more = x.more; front = x.front }

    by : (b : Bool) → (m == n) ≡ b → HasBeen (periods_with w.periods n s) (put w.sites n s m) m t
    by false e = rw e (record { life = was.life; epoch = was.epoch; more = was.more; front = rw e was.front })
    by true e =
        let x = here (eqb-true m n e) in
        rw e (record { life = x.life; epoch = x.epoch; more = x.more; front = rw e x.front })

module _ (p p' : ℕ → ℕ → ℕ → List Line) (now now' : Arrivals) (n : ℕ)
    (stays : (t : Arrivals) → HasBeen p now n t → HasBeen p' now' n t) where
  pub mark_stays : (o : ℕ) (m : Mark) → IsTrueMark p now n o m → IsTrueMark p' now' n o m
  mark_stays o m l = record { then = l.then; was = stays l.then l.was; is = l.is }

  pub true_stays : (o : ℕ) (k : KnownLog) → IsTrueLog p now n o k → IsTrueLog p' now' n o k
  true_stays o k l = record { then = l.then; was = stays l.then l.was; mark = l.mark; log = l.log }

  pub line_stays : (life epoch : ℕ) (l : Line) → HadLine p now n life epoch l → HadLine p' now' n life epoch l
  line_stays life epoch l h =
      record {
        named = h.named;
        then = h.then;
        was = stays h.then h.was;
        life_is = h.life_is;
        epoch_is = h.epoch_is;
        line = h.line;
      }

-- What a site has now, and what a grant that names an open request says of it.
use Rattle.std.proofs.Common.{◌≡◌, ℕ, ◌+◌, ◌≤◌, ◌⊎◌, inl, inr, List, [], ◌++◌, length, Option, Some, None, refl, sym}
use Rattle.std.proofs.Common.{ap, ◌∙◌, subst, arith, append-nil}
use Rattle.qc_entry.specs.declared.line.Line.{Line}
use Rattle.qc_entry.specs.Vocabulary.{of_object}
use Rattle.qc_list.specs.Vocabulary.{In}
use Rattle.qc_list.proofs.Members.{In-first}
use Rattle.theory_marks.specs.Exchange.{AppendGrant, AppendRequest, Appends, Client, Exchange, ReadGrant, ReadRequest}
use Rattle.theory_marks.specs.Exchange.{Reads, Request, count_of}
use Rattle.theory_marks.specs.Acts.{Allowed, CountRead, IsOpenAppend, IsOpenRead, MayServe, known_after}
use Rattle.theory_marks.specs.Laws.{ExchangeLaws, HadLine, HasBeen}
use Rattle.theory_marks.specs.Marks.{Mark, learned, log_of, told, with_arrivals}
use Rattle.theory_marks.proofs.Logs.{learns_all}
use Rattle.theory_marks.proofs.Witnessed.{whole}
use Rattle.theory_marks.proofs.Members.{fewer_join_alike}

-- the site as it is now

pub is_now : (w : Exchange) → ExchangeLaws w → (n : ℕ) → HasBeen w.periods (w.sites n) n (w.sites n)
is_now w l n =
    record {
      life = omega arith;
      epoch = omega arith;
      more = [];
      front = l.present n ∙ sym (append-nil (w.sites n).arrived);
    }

-- a site that was in the life and epoch of now has each of its lines still
still_has : (w : Exchange) → ExchangeLaws w → (n life epoch : ℕ) (line : Line)
    → HadLine w.periods (w.sites n) n life epoch line → life ≡ (w.sites n).life → epoch ≡ (w.sites n).epoch
    → In line (w.sites n).arrived
still_has w l n life epoch line h el ee =
    let a : h.then.life ≡ (w.sites n).life = h.life_is ∙ el in
    let b : h.then.epoch ≡ (w.sites n).epoch = h.epoch_is ∙ ee in
    let front : (w.sites n).arrived ≡ h.then.arrived ++ h.was.more =
    sym (l.present n) ∙ sym (ap (λ (x : ℕ). w.periods n x (w.sites n).epoch) a)
    ∙ sym (ap (λ (x : ℕ). w.periods n h.then.life x) b) ∙ h.was.front in
    subst (λ (xs : List Line). In line xs) (sym front) (In-first line h.then.arrived h.was.more h.line)

-- an Append that is served brings all lines of its view that the site lacks
pub brings_all : (w : Exchange) (a : AppendRequest) → ExchangeLaws w → In a w.appends
    → MayServe (w.sites a.site) a.epoch a.life
    → with_arrivals (w.sites a.site).arrived a.lines ≡ with_arrivals (w.sites a.site).arrived a.view
brings_all w a l asked serve =
    let s = (l.appends a asked).1 in
    fewer_join_alike (w.sites a.site).arrived a.lines a.view s.lines s.view s.less (λ line h. elim (s.whole line h) [
      | inl x ↦ inl x
      | inr x ↦ inr (still_has w l a.site a.life a.epoch line x (named x serve.named) serve.current)
    ])
  where
    named : {line : Line} → HadLine w.periods (w.sites a.site) a.site a.life a.epoch line
        → (a.life ≡ 0) ⊎ (a.life ≡ (w.sites a.site).life) → a.life ≡ (w.sites a.site).life
    named x (inl none) = absurd (x.named none)
    named x (inr e) = e

-- an open Read, and the grant that names its number

pub record Counted (w : Exchange) (g : ReadGrant) (k : Client) : Type 0 where
  pub life : g.request.life ≡ k.lives g.request.site
  pub epoch : g.request.epoch ≡ k.epoch
  pub mark : g.request.mark ≡ (k.known g.request.site g.request.object).mark

pub counted : (w : Exchange) (g : ReadGrant) → ExchangeLaws w → In g w.granted → (q : Option Request)
    → (w.clients g.request.client).waits g.request.site ≡ q → IsOpenRead q g.request.number
    → Counted w g (w.clients g.request.client)
counted w g l asked None is h = absurd h
counted w g l asked (Some (Appends a)) is h = absurd h
counted w g l asked (Some (Reads r)) is h =
    let x = (l.clients g.request.client).waits g.request.site (Reads r) is in
    let same : r ≡ g.request = l.one_read r g.request x.0 (l.granted g asked).asked h in
    let k : Client = w.clients g.request.client in
    record {
      life = sym (ap (λ (y : ReadRequest). y.life) same) ∙ x.3;
      epoch = sym (ap (λ (y : ReadRequest). y.epoch) same) ∙ x.4;
      mark =
          sym (ap (λ (y : ReadRequest). y.mark) same) ∙ x.5
          ∙ ap (λ (o : ℕ). (k.known g.request.site o).mark) (ap (λ (y : ReadRequest). y.object) same);
    }

pub record CountedAppend (g : AppendGrant) (k : Client) : Type 0 where
  pub life : g.request.life ≡ k.lives g.request.site
  pub epoch : g.request.epoch ≡ k.epoch

pub counted_append : (w : Exchange) (g : AppendGrant) → ExchangeLaws w → In g w.agreed → (q : Option Request)
    → (w.clients g.request.client).waits g.request.site ≡ q → IsOpenAppend q g.request.number
    → CountedAppend g (w.clients g.request.client)
counted_append w g l asked None is h = absurd h
counted_append w g l asked (Some (Reads r)) is h = absurd h
counted_append w g l asked (Some (Appends a)) is h =
    let x = (l.clients g.request.client).waits g.request.site (Appends a) is in
    let same : a ≡ g.request = l.one_append a g.request x.0 (l.agreed g asked).asked h in
    record {
      life = sym (ap (λ (y : AppendRequest). y.life) same) ∙ x.3;
      epoch = sym (ap (λ (y : AppendRequest). y.epoch) same) ∙ x.4;
    }

-- The law: what is known after a counted Granted is all that the site had of the object as it granted.
pub knows_all : (w : Exchange) (g : ReadGrant) → ExchangeLaws w → Allowed w (CountRead g)
    → (known_after (w.clients g.request.client) g).log ≡ log_of (of_object g.by.arrived g.request.object)
knows_all w g l ok =
    let k : Client = w.clients g.request.client in
    let x = l.granted g ok.0 in
    let c = counted w g l ok.0 (k.waits g.request.site) refl ok.1 in
    let t = (l.clients g.request.client).known g.request.site g.request.object in
    let e : g.by.epoch ≡ k.epoch = x.served.epoch_is ∙ c.epoch in
    subst (λ (m : Mark). (learned (k.known g.request.site g.request.object) g.by.life k.epoch (count_of g)
    (told g.by m g.request.object)).log ≡ log_of (of_object g.by.arrived g.request.object)) (sym c.mark)
    (learns_all (k.known g.request.site g.request.object) t.then g.by k.epoch g.request.object t.was.more x.was.more
    t.mark t.log e
    (λ el ee.
    let tl : t.then.life ≡ g.by.life = sym (ap (λ (m : Mark). m.life) t.mark) ∙ el in
    let te : t.then.epoch ≡ g.by.epoch = sym (ap (λ (m : Mark). m.epoch) t.mark) ∙ ee in (
      sym t.was.front ∙ ap (λ (y : ℕ). w.periods g.request.site y t.then.epoch) tl
          ∙ ap (λ (y : ℕ). w.periods g.request.site g.by.life y) te ∙ x.was.front,
      subst (λ (m : Mark). m.count ≤ length (of_object g.by.arrived g.request.object)) c.mark
          (x.mark (ap (λ (m : Mark). m.life) c.mark ∙ el) (ap (λ (m : Mark). m.epoch) c.mark ∙ ee)),
    )))

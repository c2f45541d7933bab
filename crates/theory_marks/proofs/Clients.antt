-- Clients: their acts leave the sites as they are; requests that are open no more; what a new one knows.
use Rattle.std.proofs.Common.{◌≡◌, ◌≢◌, ℕ, ◌==◌, ◌⊎◌, inl, inr, Bool, true, false, cond, List, [], Option, Some, None}
use Rattle.std.proofs.Common.{refl, sym, ap, ◌∙◌, subst, arith, eqb-true, eq-eqb}
use Rattle.qc_entry.specs.declared.line.Line.{Line}
use Rattle.theory_marks.specs.Laws.{ClientLaws, ExchangeLaws, HadLine, IsTrueLog, IsWaiting}
use Rattle.theory_marks.specs.Acts.{begins, first_life, waiting, with_client}
use Rattle.theory_machine.specs.Vocabulary.{put}
use Rattle.theory_marks.specs.Marks.{Arrivals, KnownLog, nothing_known}
use Rattle.theory_marks.specs.Exchange.{Appends, Client, Exchange, Reads, Request, had, new_client}
use Rattle.theory_machine.proofs.Names.{put_case}

pub client_act : (w : Exchange) (c : ℕ) (k : Client) → ExchangeLaws w
    → ClientLaws w.periods w.sites w.reads w.appends c k → ExchangeLaws (with_client w c k)
client_act w c k l h = record {
  present = l.present;
  alive = l.alive;
  reads = l.reads;
  appends = l.appends;
  one_read = l.one_read;
  one_append = l.one_append;
  granted = l.granted;
  agreed = l.agreed;
  clients = λ d. put_case (λ (x : Client). ClientLaws w.periods w.sites w.reads w.appends d x) w.clients c k d
      (λ e. subst (λ (x : ℕ). ClientLaws w.periods w.sites w.reads w.appends x k) (sym e) h) (λ ne. l.clients d);
}

-- the life of the first counted grant

pub first_same : (life by : ℕ) → life ≢ 0 → first_life life by ≡ life
first_same life by h = cases (life == 0) refl
  where
    cases : (b : Bool) → (life == 0) ≡ b → cond b by life ≡ life
    cases true e = absurd (h (eqb-true life 0 e))
    cases false e = refl

pub first_other : (life by named : ℕ) → named ≡ life → (named ≡ 0) ⊎ (named ≡ by) → first_life life by ≡ by
first_other life by named e how = cases (life == 0) refl how
  where
    cases : (b : Bool) → (life == 0) ≡ b → (named ≡ 0) ⊎ (named ≡ by) → cond b by life ≡ by
    cases true t h = refl
    cases false t (inr s) = sym e ∙ s
    cases false t (inl z) =
        absurd (let q : (life == 0) ≡ true = eq-eqb life 0 (sym e ∙ z) in let never : ⊥ = cc (q, t) in never)

-- a request is open no more, or another one is

pub waits_after : (w : Exchange) (c : ℕ) (k : Client) (n : ℕ) → ClientLaws w.periods w.sites w.reads w.appends c k
    → ClientLaws w.periods w.sites w.reads w.appends c (waiting k n None)
waits_after w c k n h = record {
  known = h.known;
  waits =
      λ m q. put_case (λ (x : Option Request). x ≡ Some q → IsWaiting w.reads w.appends c m k q) k.waits n None m
      (λ e is. absurd (let never : ⊥ = cc in never)) (λ ne is. h.waits m q is);
  had = h.had;
  views = h.views;
}

pub begun : (w : Exchange) (c : ℕ) (k : Client) (epoch : ℕ) → ClientLaws w.periods w.sites w.reads w.appends c k
    → ClientLaws w.periods w.sites w.reads w.appends c (begins k epoch)
begun w c k epoch h =
    record {
      known = h.known;
      waits = λ n q is. absurd (let never : ⊥ = cc in never);
      had = λ n o l i. absurd i;
      views = λ o. tt;
    }

-- nothing is known: the site had nothing in life 0

new_known : (p : ℕ → ℕ → ℕ → List Line) (now : Arrivals) (n o : ℕ) → IsTrueLog p now n o nothing_known
new_known p now n o = record {
  then = record { life = 0; epoch = 0; arrived = [] };
  was = record { life = omega arith; epoch = omega arith; more = p n 0 0; front = refl };
  mark = refl;
  log = refl;
}

pub new_laws : (w : Exchange) (c : ℕ) → ClientLaws w.periods w.sites w.reads w.appends c new_client
new_laws w c =
    record {
      known = λ n o. new_known w.periods (w.sites n) n o;
      waits = λ n q is. absurd (let never : ⊥ = cc in never);
      had = λ n o l i. absurd i;
      views = λ o. tt;
    }

-- at another site all stays; at this one a site that had granted before keeps its life

pub other_waits : (w : Exchange) (c : ℕ) (k k' : Client) (m : ℕ) (q : Request) → k'.epoch ≡ k.epoch
    → k'.lives m ≡ k.lives m → ((o : ℕ) → k'.known m o ≡ k.known m o)
    → IsWaiting w.reads w.appends c m k q → IsWaiting w.reads w.appends c m k' q
other_waits w c k k' m (Reads r) ee le ke h =
    (h.0, h.1, h.2, h.3 ∙ sym le, h.4 ∙ sym ee, h.5 ∙ sym (ap (λ (x : KnownLog). x.mark) (ke r.object)))
other_waits w c k k' m (Appends a) ee le ke h = (h.0, h.1, h.2, h.3 ∙ sym le, h.4 ∙ sym ee, tt)

pub had_with : {p : ℕ → ℕ → ℕ → List Line} {now : Arrivals} {n : ℕ} {life other epoch : ℕ} {l : Line} → other ≡ life
    → HadLine p now n life epoch l → HadLine p now n other epoch l
had_with e h =
    record {
      named = λ z. h.named (sym e ∙ z);
      then = h.then;
      was = h.was;
      life_is = h.life_is ∙ sym e;
      epoch_is = h.epoch_is;
      line = h.line;
    }

pub put_other : {A : Type 0} (f : ℕ → A) (k : ℕ) (v : A) (n : ℕ) → (n ≢ k) → put f k v n ≡ f n
put_other {A = A} f k v n ne = put_case (λ (x : A). x ≡ f n) f k v n (λ e. absurd (ne e)) (λ x. refl)

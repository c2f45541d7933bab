-- A client sends a request.
use Rattle.std.proofs.Common.{◌≡◌, ℕ, suc, ◌<◌, inl, inr, List, ◌∷◌, Option, Some, refl, sym, ap, ◌∙◌, subst, arith}
use Rattle.qc_entry.specs.Vocabulary.{line_cmp}
use Rattle.qc_list.specs.Vocabulary.{In}
use Rattle.qc_list.proofs.Members.{In-unfiltered}
use Rattle.qc_list.proofs.Order.{ascends-filter}
use Rattle.theory_marks.specs.Laws.{ClientLaws, ExchangeLaws, IsShort, IsTrueMark, IsWaiting}
use Rattle.theory_marks.specs.Acts.{AskAppend, AskRead, after, append_of, read_of, waiting}
use Rattle.theory_marks.specs.Exchange.{AppendRequest, Appends, Client, Exchange, ReadRequest, Reads, Request, had}
use Rattle.theory_marks.proofs.Witnessed.{whole}
use Rattle.theory_machine.proofs.Names.{put_case}
use Rattle.qc_entry.proofs.Without.{in_without}

-- more requests were sent

asked_more : (w : Exchange) (c : ℕ) (k : Client) (reads : List ReadRequest) (appends : List AppendRequest)
    → ((r : ReadRequest) → In r w.reads → In r reads) → ((a : AppendRequest) → In a w.appends → In a appends)
    → ClientLaws w.periods w.sites w.reads w.appends c k → ClientLaws w.periods w.sites reads appends c k
asked_more w c k reads appends first second h =
    record { known = h.known; waits = λ n q is. more n q (h.waits n q is); had = h.had; views = h.views }
  where
    more : (n : ℕ) (q : Request) → IsWaiting w.reads w.appends c n k q → IsWaiting reads appends c n k q
    more n (Reads r) x = (first r x.0, x.1, x.2, x.3, x.4, x.5)
    more n (Appends a) x = (second a x.0, x.1, x.2, x.3, x.4, tt)

-- a new open request

waits_for : (w : Exchange) (c : ℕ) (k : Client) (n : ℕ) (q : Request) (reads : List ReadRequest)
    (appends : List AppendRequest)
    → IsWaiting reads appends c n k q → ClientLaws w.periods w.sites reads appends c k
    → ClientLaws w.periods w.sites reads appends c (waiting k n (Some q))
waits_for w c k n q reads appends new h = record {
  known = h.known;
  waits = λ m x. put_case (λ (y : Option Request). y ≡ Some x → IsWaiting reads appends c m k x) k.waits n (Some q) m
      (λ e is. subst (λ (i : ℕ). IsWaiting reads appends c i k x) (sym e)
      (subst (λ (y : Request). IsWaiting reads appends c n k y) (cc) new))
      (λ ne is. h.waits m x is);
  had = h.had;
  views = h.views;
}

pub ask_read_keeps : (w : Exchange) (c n o : ℕ) → ExchangeLaws w → ExchangeLaws (after w (AskRead c n o))
ask_read_keeps w c n o l = record {
  present = l.present;
  alive = l.alive;
  reads = λ q i. elim i [
    | inl e ↦ (
      subst (λ (x : ReadRequest). x.number < suc w.next) (sym e) (omega arith),
      subst (λ (x : ReadRequest). IsTrueMark w.periods (w.sites x.site) x.site x.object x.mark) (sym e) own,
    )
    | inr h ↦ (let b : q.number < w.next = (l.reads q h).0 in omega arith, (l.reads q h).1)
  ];
  appends = λ a i. (let b : a.number < w.next = (l.appends a i).0 in omega arith, (l.appends a i).1);
  one_read = one;
  one_append = l.one_append;
  granted =
      λ g i. (let x = l.granted g i in record { asked = inr x.asked; was = x.was; served = x.served; mark = x.mark });
  agreed = l.agreed;
  clients =
      λ d. put_case (λ (x : Client). ClientLaws w.periods w.sites (read_of w c n o ∷ w.reads) w.appends d x) w.clients c
      (waiting (w.clients c) n (Some (Reads (read_of w c n o)))) d
      (λ e. subst (λ (x : ℕ). ClientLaws w.periods w.sites (read_of w c n o ∷ w.reads) w.appends x
      (waiting (w.clients c) n (Some (Reads (read_of w c n o))))) (sym e)
      (waits_for w c (w.clients c) n (Reads (read_of w c n o)) (read_of w c n o ∷ w.reads) w.appends
      (inl refl, refl, refl, refl, refl, refl)
      (asked_more w c (w.clients c) (read_of w c n o ∷ w.reads) w.appends (λ x. inr) (λ a i. i) (l.clients c))))
      (λ ne. asked_more w d (w.clients d) (read_of w c n o ∷ w.reads) w.appends (λ x. inr) (λ a i. i) (l.clients d));
}
  where
    own : IsTrueMark w.periods (w.sites n) n o ((w.clients c).known n o).mark
    own = let t = (l.clients c).known n o in record { then = t.then; was = t.was; is = t.mark }

    one : (x y : ReadRequest) → In x (read_of w c n o ∷ w.reads) → In y (read_of w c n o ∷ w.reads)
        → x.number ≡ y.number → x ≡ y
    one x y (inl a) (inl b) e = a ∙ sym b
    one x y (inl a) (inr b) e =
        absurd (let p : y.number < w.next = (l.reads y b).0 in
        let q : x.number ≡ w.next = ap (λ (z : ReadRequest). z.number) a in
        let s : x.number ≡ y.number = e in omega arith)
    one x y (inr a) (inl b) e =
        absurd (let p : x.number < w.next = (l.reads x a).0 in
        let q : y.number ≡ w.next = ap (λ (z : ReadRequest). z.number) b in
        let s : x.number ≡ y.number = e in omega arith)
    one x y (inr a) (inr b) e = l.one_read x y a b e

short_now : (w : Exchange) (c n o : ℕ) → ExchangeLaws w → IsShort w.periods w.sites (append_of w c n o)
short_now w c n o l = record {
  view = (l.clients c).views o;
  lines = ascends-filter line_cmp _ ((w.clients c).view o) ((l.clients c).views o);
  less = λ line i. In-unfiltered _ line ((w.clients c).view o) i;
  whole =
      λ line i. elim (in_without ((w.clients c).view o) (had (w.clients c) n o) line i)
      [ inl a ↦ inl a | inr b ↦ inr ((l.clients c).had n o line b) ];
}

pub ask_append_keeps : (w : Exchange) (c n o : ℕ) → ExchangeLaws w → ExchangeLaws (after w (AskAppend c n o))
ask_append_keeps w c n o l = record {
  present = l.present;
  alive = l.alive;
  reads = λ q i. (let b : q.number < w.next = (l.reads q i).0 in omega arith, (l.reads q i).1);
  appends = λ q i. elim i [
    | inl e ↦ (
      subst (λ (x : AppendRequest). x.number < suc w.next) (sym e) (omega arith),
      subst (λ (x : AppendRequest). IsShort w.periods w.sites x) (sym e) (short_now w c n o l),
    )
    | inr h ↦ (let b : q.number < w.next = (l.appends q h).0 in omega arith, (l.appends q h).1)
  ];
  one_read = l.one_read;
  one_append = one;
  granted = l.granted;
  agreed =
      λ g i. (let x = l.agreed g i in record { asked = inr x.asked; was = x.was; served = x.served; lines = x.lines });
  clients =
      λ d. put_case (λ (x : Client). ClientLaws w.periods w.sites w.reads (append_of w c n o ∷ w.appends) d x) w.clients
      c (waiting (w.clients c) n (Some (Appends (append_of w c n o)))) d
      (λ e. subst (λ (x : ℕ). ClientLaws w.periods w.sites w.reads (append_of w c n o ∷ w.appends) x
      (waiting (w.clients c) n (Some (Appends (append_of w c n o))))) (sym e)
      (waits_for w c (w.clients c) n (Appends (append_of w c n o)) w.reads (append_of w c n o ∷ w.appends)
      (inl refl, refl, refl, refl, refl, tt)
      (asked_more w c (w.clients c) w.reads (append_of w c n o ∷ w.appends) (λ x i. i) (λ x. inr) (l.clients c))))
      (λ ne. asked_more w d (w.clients d) w.reads (append_of w c n o ∷ w.appends) (λ x i. i) (λ x. inr) (l.clients d));
}
  where
    one : (x y : AppendRequest) → In x (append_of w c n o ∷ w.appends) → In y (append_of w c n o ∷ w.appends)
        → x.number ≡ y.number → x ≡ y
    one x y (inl a) (inl b) e = a ∙ sym b
    one x y (inl a) (inr b) e =
        absurd (let p : y.number < w.next = (l.appends y b).0 in
        let q : x.number ≡ w.next = ap (λ (z : AppendRequest). z.number) a in
        let s : x.number ≡ y.number = e in omega arith)
    one x y (inr a) (inl b) e =
        absurd (let p : x.number < w.next = (l.appends x a).0 in
        let q : y.number ≡ w.next = ap (λ (z : AppendRequest). z.number) b in
        let s : x.number ≡ y.number = e in omega arith)
    one x y (inr a) (inr b) e = l.one_append x y a b e

-- What a client takes keeps its sight and the account of its deeds in agreement.
use Rattle.std.proofs.Common.{[], ◌≡◌, ◌≢◌, ℕ, ◌==◌, ◌||◌, not, Bool, true, false, cond, List, ◌∷◌, ◌++◌, ◌⊎◌, inl}
use Rattle.std.proofs.Common.{inr, filter, map, Some, None, refl, sym, ap, ◌∙◌, subst, eq-eqb, eqb-true}
use Rattle.std.specs.List.{list_any}
use Rattle.qc_stamp.specs.declared.stamp.TxId.{TxId}
use Rattle.qc_list.specs.Vocabulary.{In}
use Rattle.qc_list.proofs.Members.{In-passes, In-unfiltered, In-either}
use Rattle.qc_entry.specs.declared.line.Line.{Line}
use Rattle.qc_entry.specs.declared.record.Commit.{Commit}
use Rattle.qc_msg.specs.declared.message.Answer.{Answer}
use Rattle.qc_msg.specs.declared.message.Answer.TheVariants as answers
use Rattle.qc_msg.specs.declared.step.Command.{Command}
use Rattle.qc_msg.specs.declared.payload.Grant.{Grant}
use Rattle.qc_promise.specs.Vocabulary.{Account, HasBefore, Sight, Status, answered, counted, is_begun, sees, waits}
use Rattle.qc_promise.specs.Seen.{granted}
use Rattle.laws_atomic.proofs.Counted.{AsksForGrants, IsCounted, IsOpen, counts, passes}
use Rattle.laws_atomic.proofs.Seeing.{IsUpTo, Sees, higher}

-- an answer is taken, or that a request is lost

not_waited : (n : ℕ) (ns : List ℕ) → list_any (λ (m : ℕ). m == n) ns ≡ false → (m : ℕ) → In m ns → m ≢ n
not_waited n [] is m among = absurd among
not_waited n (k ∷ ns) is m among = by (k == n) refl is among (not_waited n ns)
  where
    by : (b : Bool) → (k == n) ≡ b → (b || list_any (λ (m : ℕ). m == n) ns) ≡ false → In m (k ∷ ns)
        → (list_any (λ (m : ℕ). m == n) ns ≡ false → (m : ℕ) → In m ns → m ≢ n) → m ≢ n
    by true e is among rest = absurd (let never : ⊥ = cc in never)
    by false e is (inl same) rest =
        λ other. (let yes : (k == n) ≡ true = eq-eqb k n (sym same ∙ other) in let never : ⊥ = cc in never)
    by false e is (inr later) rest = rest is m later

waited : (n : ℕ) (ns : List ℕ) → list_any (λ (m : ℕ). m == n) ns ≡ true → In n ns
waited n [] is = absurd (let never : ⊥ = cc in never)
waited n (k ∷ ns) is = by (k == n) refl is (waited n ns)
  where
    by : (b : Bool) → (k == n) ≡ b → (b || list_any (λ (m : ℕ). m == n) ns) ≡ true
        → (list_any (λ (m : ℕ). m == n) ns ≡ true → In n ns) → In n (k ∷ ns)
    by true e is rest = inl (sym (eqb-true k n e))
    by false e is rest = inr (rest is)

other_number : (n m : ℕ) (ns : List ℕ) → In m (filter (λ (k : ℕ). not (k == n)) ns) → m ≢ n
other_number n m ns among same =
    let passes : not (m == n) ≡ true = In-passes (λ (k : ℕ). not (k == n)) m ns among in
    let yes : (m == n) ≡ true = eq-eqb m n same in
    let no : not (m == n) ≡ false = ap not yes in
    let never : ⊥ = cc in never

module _ (commits : List Commit) (tx : TxId) (d : Account) (s : Sight) (wrote : List Commit) (st : Status)
    (w : Sees commits tx d s wrote st) where
  module _ (n : ℕ) (e : Account) (c : IsCounted n d e) where
    up : (t : TxId) → IsUpTo commits t d.clock → IsUpTo commits t e.clock
    up t u = higher commits t d.clock e.clock c.clock u

    -- nothing was waited for
    skipped : ((m : ℕ) → In m s.waiting → m ≢ n) → Sees commits tx e s wrote st
    skipped others = record {
      begun = w.begun ∙ sym c.named;
      waiting = λ m among. c.others m (others m among) (w.waiting m among);
      shown = λ t among. up t (w.shown t among);
      committed = λ t among. up t (w.committed t among);
      seen = λ is t among. up t (w.seen is t among);
      before = w.before;
      ended = w.ended;
      stands = λ r among its is. c.written ∙ w.stands r among its is;
      listed = λ r is. w.listed r (sym c.written ∙ is);
    }

    pub lost_sees : Sees commits tx e (answered s n) wrote st
    lost_sees = record {
      begun = w.begun ∙ sym c.named;
      waiting =
          λ m among. c.others m (other_number n m s.waiting among)
          (w.waiting m (In-unfiltered (λ (k : ℕ). not (k == n)) m s.waiting among));
      shown = λ t among. up t (w.shown t among);
      committed = λ t among. up t (w.committed t among);
      seen = λ is t among. up t (w.seen is t among);
      before = w.before;
      ended = w.ended;
      stands = λ r among its is. c.written ∙ w.stands r among its is;
      listed = λ r is. w.listed r (sym c.written ∙ is);
    }

    -- it was, and the lines of the answer are seen
    shown : d.written ≡ None → (lines : List Line)
        → ((t : TxId) → In t (map (λ (l : Line). l.tx) lines) → IsUpTo commits t e.clock)
        → Sees commits tx e (sees tx (answered s n) lines) wrote st
    shown unwritten lines new = record {
      begun = w.begun ∙ sym c.named;
      waiting =
          λ m among. c.others m (other_number n m s.waiting among)
          (w.waiting m (In-unfiltered (λ (k : ℕ). not (k == n)) m s.waiting among));
      shown = λ t among. either t s.shown (w.shown t) (In-either t s.shown (map (λ (l : Line). l.tx) lines) among);
      committed = λ t among. up t (w.committed t among);
      seen =
          λ is t among. either t s.seen (w.seen is t)
          (In-either t s.seen (map (λ (l : Line). l.tx) lines)
          (subst (λ (b : Bool). In t (cond b (s.seen ++ map (λ (l : Line). l.tx) lines) s.seen)) is among));
      before = λ r among its. on_seen r among its (is_begun tx s.begun) refl;
      ended = w.ended;
      stands = λ r among its is. c.written ∙ w.stands r among its is;
      listed = λ r is. w.listed r (sym c.written ∙ is);
    }
      where
        either : (t : TxId) (xs : List TxId) → (In t xs → IsUpTo commits t d.clock)
            → In t xs ⊎ In t (map (λ (l : Line). l.tx) lines) → IsUpTo commits t e.clock
        either t xs old (inl among) = up t (old among)
        either t xs old (inr among) = new t among

        on_seen : (r : Commit) → In r wrote → r.tx ≡ tx → (b : Bool) → is_begun tx s.begun ≡ b → (t : TxId)
            → In t (cond b (s.seen ++ map (λ (l : Line). l.tx) lines) s.seen) → t ≢ tx → HasBefore commits t r.stamp
        on_seen r among its true is t in_seen other =
            absurd (let wrote_it : d.written ≡ Some r = w.stands r among its is in let never : ⊥ = cc in never)
        on_seen r among its false is t in_seen other = w.before r among its t in_seen other

  -- a grant's lines have records that its clock has passed, and none of its requests was for a promise
  pub record IsFounded (n : ℕ) (answer : Answer) : Type 0 where
    pub lines : (x : Grant) → answer ≡ answers.Granted x → (l : Line) → In l x.log → IsUpTo commits l.tx x.clock
    pub asked : (x : Grant) → answer ≡ answers.Granted x → AsksForGrants n d.requests

  of_lines : (clock : ℕ) (log : List Line) → ((l : Line) → In l log → IsUpTo commits l.tx clock) → (t : TxId)
      → In t (map (λ (l : Line). l.tx) log) → IsUpTo commits t clock
  of_lines clock [] all t among = absurd among
  of_lines clock (l ∷ log) all t (inl same) = subst (λ (x : TxId). IsUpTo commits x clock) (sym same) (all l (inl refl))
  of_lines clock (l ∷ log) all t (inr later) = of_lines clock log (λ k there. all k (inr there)) t later

  of_answer : (n : ℕ) (answer : Answer) → IsFounded n answer → IsOpen n d.requests → (t : TxId)
      → In t (map (λ (l : Line). l.tx) (granted answer)) → IsUpTo commits t (counted d n (Some answer)).clock
  of_answer n (answers.Granted grant) f o t among =
      higher commits t grant.clock (counted d n (Some (answers.Granted grant))).clock
      (passes n d grant o (f.asked grant refl))
      (of_lines grant.clock grant.log (f.lines grant refl) t among)
  of_answer n (answers.Clash holder inv event) f o t among = absurd among
  of_answer n (answers.Closed epoch) f o t among = absurd among
  of_answer n (answers.Behind epoch) f o t among = absurd among
  of_answer n (answers.Restarted life) f o t among = absurd among
  of_answer n answers.Stale f o t among = absurd among
  of_answer n answers.Fault f o t among = absurd among
  of_answer n (answers.Yes clock) f o t among = absurd among
  of_answer n (answers.Shut snapshot) f o t among = absurd among
  of_answer n answers.Installed f o t among = absurd among
  of_answer n (answers.Answered verdict) f o t among = absurd among

  pub answer_sees : d.written ≡ None → (n : ℕ) (answer : Answer) → IsFounded n answer
      → Sees commits tx (counted d n (Some answer)) (cond (waits s n) (sees tx (answered s n) (granted answer)) s) wrote
      st
  answer_sees unwritten n answer f = by (waits s n) refl
    where
      by : (b : Bool) → waits s n ≡ b
          → Sees commits tx (counted d n (Some answer)) (cond b (sees tx (answered s n) (granted answer)) s) wrote st
      by true is =
          shown n (counted d n (Some answer)) (counts n d (Some answer)) unwritten (granted answer)
          (of_answer n answer f (w.waiting n (waited n s.waiting is)))
      by false is = skipped n (counted d n (Some answer)) (counts n d (Some answer)) (not_waited n s.waiting is)

  -- a command is called where nothing is waited for
  pub called_sees : (command : Command) → ((n : ℕ) → In n s.waiting → ⊥) → d.written ≡ None
      → Sees commits tx (record d { command = Some command; requests = []; written = None }) s wrote st
  called_sees command free unwritten = record {
    begun = w.begun;
    waiting = λ n among. absurd (free n among);
    shown = w.shown;
    committed = w.committed;
    seen = w.seen;
    before = w.before;
    ended = w.ended;
    stands =
        λ r among its is. absurd
        (let wrote_it : d.written ≡ Some r = w.stands r among its is in let never : ⊥ = cc in never);
    listed = λ r is. absurd (let never : ⊥ = cc in never);
  }

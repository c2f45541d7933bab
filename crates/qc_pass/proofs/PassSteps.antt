-- The word is made, the right makes a pass, and a pass takes the right over: each keeps the pass rule.
use Rattle.std.proofs.Common.{[], ◌≡◌, ℕ, zero, suc, ◌+◌, ◌==◌, ◌%◌, ◌^◌, ◌≢◌, true, false, cond, List, ◌∷◌, ◌++◌}
use Rattle.std.proofs.Common.{length, set, refl, ap, sym, ◌∙◌, subst, arith, length-append, eq-eqb, ne_eqb, Some}
use Rattle.std.proofs.Common.{slice_get}
use Rattle.std.proofs.Math.Nat.{mod-add-mod}
use Rattle.atomic_table.specs.Table.{opening, Splits, Joins}
use Rattle.qc_list.specs.declared.marked.Marked.{Marked}
use Rattle.qc_pass.specs.declared.view.View.{View}
use Rattle.qc_pass.specs.Vocabulary.{IsOneHistory, IsPassOf, IsRightTo, joined, next_pass, pass_view, right_view, spent}
use Rattle.qc_pass.specs.Vocabulary.{with_pass}
use Rattle.qc_pass.proofs.Places.{got, at_inside, set_here, set_else, at_longer, at_last, set_fact, end_fact}

pub counted : (n k : ℕ) → n ≡ k % 2 ^ 64 → (n + 1) % 2 ^ 64 ≡ (k + 1) % 2 ^ 64
counted n k e = rw e (mod-add-mod k (2 ^ 64) 1)

module _ {E : Type 0} where
  abbrev pub first_view : View E
  first_view = right_view [] [] []

  -- the word is made, with the right as its first seat
  pub opens : IsOneHistory (opening (0 ∷ []) [] (first_view))
  opens = record {
    history = [];
    rooms = [];
    ends = [];
    seats = λ n. 0;
    holder = 0;
    view = first_view;
    there = refl;
    holds = refl;
    word = refl;
    as_many = refl;
    unmade = λ n le. refl;
    right = first_right;
    pass = first_pass;
  }
    where
      first_right : (k : ℕ) (v : View E) → slice_get (first_view ∷ []) k ≡ Some v → v.has_right ≡ true
          → IsRightTo [] [] [] 0 k v
      first_right zero v e f =
          let s : first_view ≡ v = cc e in
          subst (λ (u : View E). IsRightTo [] [] [] 0 0 u) s record
          { own_seat = refl; all_is = refl; rooms_is = refl; ends_is = refl }
      first_right (suc k) v e f = absurd (cc e)

      first_pass : (k : ℕ) (v : View E) → slice_get (first_view ∷ []) k ≡ Some v → v.is_pass ≡ true
          → IsPassOf [] [] [] (λ n. 0) k v
      first_pass zero v e f =
          let s : first_view ≡ v = cc e in
          let t : false ≡ true = ap (λ (u : View E). u.is_pass) s ∙ f in absurd (cc t)
      first_pass (suc k) v e f = absurd (cc e)

  -- the right makes a pass
  pub makes : (id : ℕ) (all : List (Marked E)) (rooms ends : List ℕ)
      → Splits IsOneHistory id (right_view all rooms ends) (with_pass (right_view all rooms ends))
      (next_pass (right_view all rooms ends))
  makes id all rooms ends s h here =
      let v : View E = right_view all rooms ends in
      let at : slice_get s.views id ≡ Some v = got s.views id v here in
      let r : IsRightTo h.history h.rooms h.ends h.holder id v = h.right id v at refl in
      let rooms' : List ℕ = h.rooms ++ 0 ∷ [] in
      let ends' : List ℕ = h.ends ++ 0 ∷ [] in
      let views' : List (View E) = set s.views id (with_pass v) in
      let seats' : ℕ → ℕ = λ n. cond (n == length h.rooms) (length views') (h.seats n) in
      record {
        history = h.history;
        rooms = rooms';
        ends = ends';
        seats = seats';
        holder = id;
        view = with_pass v;
        there =
            at_longer views' (next_pass v ∷ []) id (with_pass v)
            (set_here s.views id (with_pass v) (at_inside s.views id v at));
        holds = refl;
        word = h.word;
        as_many =
            length-append h.ends (0 ∷ []) ∙ (ap (λ (n : ℕ). n + 1) h.as_many ∙ sym (length-append h.rooms (0 ∷ [])));
        unmade = λ n le. h.unmade n (omega (arith, length-append h.rooms (0 ∷ []), le));
        right =
            end_fact (λ k u. u.has_right ≡ true → IsRightTo h.history rooms' ends' id k u) views' (next_pass v)
            (λ f. absurd (cc f))
            (set_fact (λ k u. u.has_right ≡ true → IsRightTo h.history rooms' ends' id k u) s.views id (with_pass v)
            (λ f. record {
              own_seat = refl;
              all_is = r.all_is;
              rooms_is = ap (λ (l : List ℕ). l ++ 0 ∷ []) r.rooms_is;
              ends_is = ap (λ (l : List ℕ). l ++ 0 ∷ []) r.ends_is;
            })
            (λ k u ne e f. absurd (ne ((h.right k u e f).own_seat ∙ sym r.own_seat))));
        pass = end_fact (λ k u. u.is_pass ≡ true → IsPassOf h.history rooms' ends' seats' k u) views' (next_pass v)
            (λ f. record {
              own_seat = rw (ap length r.rooms_is, eq-eqb (length h.rooms) (length h.rooms) refl) refl;
              made = rw (ap length r.rooms_is) (omega (arith, length-append h.rooms (0 ∷ [])));
              part = rw (ap length r.rooms_is) (h.unmade (length h.rooms) (omega arith));
              begins = (h.history, refl);
              had_room = at_last h.rooms 0 (length rooms) (sym (ap length r.rooms_is));
              had_end = at_last h.ends 0 (length rooms) (h.as_many ∙ sym (ap length r.rooms_is));
            })
            (set_fact (λ k u. u.is_pass ≡ true → IsPassOf h.history rooms' ends' seats' k u) s.views id (with_pass v)
            (λ f. absurd (cc f))
            (λ k u ne e f. let p : IsPassOf h.history h.rooms h.ends h.seats k u = h.pass k u e f in record {
              own_seat = rw (ne_eqb u.number (length h.rooms) (λ q. omega (arith, p.made, q))) p.own_seat;
              made = omega (arith, p.made, length-append h.rooms (0 ∷ []));
              part = p.part;
              begins = p.begins;
              had_room = at_longer h.rooms (0 ∷ []) u.number u.room p.had_room;
              had_end = at_longer h.ends (0 ∷ []) u.number (length u.seen) p.had_end;
            }));
      }

  -- a pass takes the right over
  pub joins : (id n : ℕ) (seen : List (Marked E)) (mine : List E) (room other : ℕ) (all : List (Marked E))
      (rooms ends : List ℕ)
      → Joins IsOneHistory id (pass_view n seen mine room) other (right_view all rooms ends)
      (joined (pass_view n seen mine room) (right_view all rooms ends)) spent
  joins id n seen mine room other all rooms ends s h here ne there' =
      let v : View E = pass_view n seen mine room in
      let w : View E = right_view all rooms ends in
      let j : View E = joined v w in
      let at : slice_get s.views id ≡ Some v = got s.views id v here in
      let there : slice_get s.views other ≡ Some w =
      sym (set_else s.views id other j ne) ∙ got (set s.views id j) other w there' in
      let r : IsRightTo h.history h.rooms h.ends h.holder other w = h.right other w there refl in
      let p : IsPassOf h.history h.rooms h.ends h.seats id v = h.pass id v at refl in
      record {
        history = h.history;
        rooms = h.rooms;
        ends = h.ends;
        seats = h.seats;
        holder = id;
        view = j;
        there =
            set_else (set s.views id j) other id spent (λ e. ne (sym e))
            ∙ set_here s.views id j (at_inside s.views id v at);
        holds = refl;
        word = h.word;
        as_many = h.as_many;
        unmade = h.unmade;
        right =
            set_fact (λ k u. u.has_right ≡ true → IsRightTo h.history h.rooms h.ends id k u) (set s.views id j) other
            spent (λ f. absurd (cc f))
            (λ k u away e. set_fact (λ k u. k ≢ other → u.has_right ≡ true → IsRightTo h.history h.rooms h.ends id k u)
            s.views id j
            (λ _ f. record { own_seat = refl; all_is = r.all_is; rooms_is = r.rooms_is; ends_is = r.ends_is })
            (λ k u ne e away f. absurd (away ((h.right k u e f).own_seat ∙ sym r.own_seat))) k u e away);
        pass =
            set_fact (λ k u. u.is_pass ≡ true → IsPassOf h.history h.rooms h.ends h.seats k u) (set s.views id j) other
            spent (λ f. absurd (cc f))
            (λ k u away e. set_fact (λ k u. u.is_pass ≡ true → IsPassOf h.history h.rooms h.ends h.seats k u) s.views id
            j
            (λ f. record {
              own_seat = p.own_seat;
              made = p.made;
              part = p.part;
              begins = p.begins;
              had_room = p.had_room;
              had_end = p.had_end;
            })
            (λ k u ne e f. h.pass k u e f) k u e);
      }

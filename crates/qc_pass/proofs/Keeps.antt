-- Each kind of step keeps the pass rule.
use Rattle.std.proofs.Common.{[], ◌≡◌, ℕ, ◌+◌, ◌%◌, ◌^◌, ◌≢◌, true, List, ◌∷◌, ◌++◌, length, set, refl, ap, sym, ◌∙◌}
use Rattle.std.proofs.Common.{arith, length-append, length-set, Option, Some, slice_get}
use Rattle.std.specs.Prelude.{slice_index}
use mathlib.Core.Option.{none}
use lib.Seq.{set-get_or}
use Rattle.atomic_table.specs.Table.{State, Me, step, keeps, Allows, Splits}
use Rattle.atomic_table.proofs.Lists.{set_again}
use Rattle.qc_list.specs.declared.marked.Marked.{Marked}
use Rattle.qc_pass.specs.declared.view.View.{View}
use Rattle.qc_pass.specs.Vocabulary.{Adds, IsJoined, IsOneHistory, IsPassOf, IsRightTo, Knows, Loads, joined, marked}
use Rattle.qc_pass.specs.Vocabulary.{pass_apart, right_apart, with_entry}
use Rattle.qc_pass.proofs.Places.{got, at_inside, set_here, set_else, at_last, set_fact, end_fact, prefix_more}
use Rattle.qc_pass.proofs.Places.{prefix_all}
use Rattle.qc_pass.proofs.Owns.{own_mine, own_other}
use Rattle.qc_pass.proofs.PassSteps.{counted}

module _ {E : Type 0} where
  -- what a pass that has the right knows
  knows : (s : State (Unit {0}) (View E)) (h : IsOneHistory s) (id : ℕ) (v : View E) → slice_get s.views id ≡ Some v
      → v.is_pass ≡ true → v.has_right ≡ true → Knows v
  knows s h id v at is has =
      let r : IsRightTo h.history h.rooms h.ends h.holder id v = h.right id v at has in
      let p : IsPassOf h.history h.rooms h.ends h.seats id v = h.pass id v at is in
      record {
        made = rw r.rooms_is p.made;
        part = rw r.all_is p.part;
        begins = rw r.all_is p.begins;
        had_room = rw r.rooms_is p.had_room;
        had_end = rw r.ends_is p.had_end;
      }

  -- it reads the word
  loads_view : (slots id : ℕ) (v : View E) → v.is_pass ≡ true → v.has_right ≡ true
      → Allows IsOneHistory slots id (v, []) 0 (λ n. n) (Loads (step slots 0 0 0 none) (v, []))
  loads_view slots id v is has s h len here small =
      let at : slice_get s.views id ≡ Some v = got s.views id v here in
      let same : set s.words 0 (slice_index s.words 0) ≡ s.words = set-get_or s.words 0 0 in
      let kept : IsOneHistory record { words = s.words; homes = s.homes; views = set s.views id v } =
      rw (set_again s.views id v here) h in
      (v, keeps, tt, rw same kept, (knows s h id v at is has, refl))

  pub loads : (slots id : ℕ) (me : Me (Unit {0}) (View E)) → IsJoined me
      → Allows IsOneHistory slots id me 0 (λ n. n) (Loads (step slots 0 0 0 none) me)
  loads slots id me joined = rw joined.2 (loads_view slots id me.0 joined.0 joined.1)

  -- it adds an entry
  adds_view : (slots id : ℕ) (v : View E) (picked : Option E) (e : E) → picked ≡ Some e → v.is_pass ≡ true
      → v.has_right ≡ true
      → Allows IsOneHistory slots id (v, []) 0 (λ n. (n + 1) % 2 ^ 64) (Adds picked (step slots 0 1 0 none) (v, []))
  adds_view slots id v picked e is_picked is has s h len here small =
      let at : slice_get s.views id ≡ Some v = got s.views id v here in
      let r : IsRightTo h.history h.rooms h.ends h.holder id v = h.right id v at has in
      let p : IsPassOf h.history h.rooms h.ends h.seats id v = h.pass id v at is in
      let history' : List (Marked E) = h.history ++ marked v.number e ∷ [] in
      let now : slice_index s.words 0 ≡ length h.history % 2 ^ 64 = ap (λ (ws : List ℕ). slice_index ws 0) h.word in (
        with_entry v e,
        keeps,
        tt,
        record {
          history = history';
          rooms = h.rooms;
          ends = h.ends;
          seats = h.seats;
          holder = id;
          view = with_entry v e;
          there = set_here s.views id (with_entry v e) (at_inside s.views id v at);
          holds = refl;
          word = ap (λ (ws : List ℕ). set ws 0 ((slice_index s.words 0 + 1) % 2 ^ 64)) h.word
              ∙ ap (λ (n : ℕ). n ∷ [])
              (counted (slice_index s.words 0) (length h.history) now
              ∙ ap (λ (n : ℕ). n % 2 ^ 64) (sym (length-append h.history (marked v.number e ∷ []))));
          as_many = h.as_many;
          unmade = λ n le. own_other n v.number h.history e (λ q. omega (arith, p.made, le, q)) ∙ h.unmade n le;
          right =
              set_fact (λ k u. u.has_right ≡ true → IsRightTo history' h.rooms h.ends id k u) s.views id
              (with_entry v e)
              (λ f. record {
                own_seat = refl;
                all_is = ap (λ (l : List (Marked E)). l ++ marked v.number e ∷ []) r.all_is;
                rooms_is = r.rooms_is;
                ends_is = r.ends_is;
              })
              (λ k u ne at' f. absurd (ne ((h.right k u at' f).own_seat ∙ sym r.own_seat)));
          pass =
              set_fact (λ k u. u.is_pass ≡ true → IsPassOf history' h.rooms h.ends h.seats k u) s.views id
              (with_entry v e)
              (λ f. record {
                own_seat = p.own_seat;
                made = p.made;
                part = own_mine v.number h.history e ∙ ap (λ (l : List E). l ++ e ∷ []) p.part;
                begins = prefix_more v.seen h.history (marked v.number e ∷ []) p.begins;
                had_room = p.had_room;
                had_end = p.had_end;
              })
              (λ k u ne at' f. let q : IsPassOf h.history h.rooms h.ends h.seats k u = h.pass k u at' f in
              let apart : v.number ≢ u.number =
              λ same. ne (sym q.own_seat ∙ (ap h.seats (sym same) ∙ p.own_seat)) in record {
                own_seat = q.own_seat;
                made = q.made;
                part = own_other u.number v.number h.history e apart ∙ q.part;
                begins = prefix_more u.seen h.history (marked v.number e ∷ []) q.begins;
                had_room = q.had_room;
                had_end = q.had_end;
              });
        },
        (
          knows s h id v at is has,
          λ x also. let same : e ≡ x = cc (is_picked, also) in ap (λ (y : E). (with_entry v y, [])) same,
        ),
      )

  pub adds : (slots id : ℕ) (me : Me (Unit {0}) (View E)) (picked : Option E) (e : E) → picked ≡ Some e → IsJoined me
      → Allows IsOneHistory slots id me 0 (λ n. (n + 1) % 2 ^ 64) (Adds picked (step slots 0 1 0 none) me)
  adds slots id me picked e is_picked joined =
      rw joined.2 (adds_view slots id me.0 picked e is_picked joined.0 joined.1)

  -- it gives the right off
  pub gives : (id : ℕ) (v : View E) (room : ℕ) → v.is_pass ≡ true → v.has_right ≡ true
      → Splits IsOneHistory id v (pass_apart room v) (right_apart room v)
  gives id v room is has s h here =
      let at : slice_get s.views id ≡ Some v = got s.views id v here in
      let r : IsRightTo h.history h.rooms h.ends h.holder id v = h.right id v at has in
      let p : IsPassOf h.history h.rooms h.ends h.seats id v = h.pass id v at is in
      let rooms' : List ℕ = set h.rooms v.number room in
      let ends' : List ℕ = set h.ends v.number (length v.all) in
      let views' : List (View E) = set s.views id (pass_apart room v) in
      record {
        history = h.history;
        rooms = rooms';
        ends = ends';
        seats = h.seats;
        holder = length views';
        view = right_apart room v;
        there = at_last views' (right_apart room v) (length views') refl;
        holds = refl;
        word = h.word;
        as_many = length-set h.ends v.number (length v.all) ∙ (h.as_many ∙ sym (length-set h.rooms v.number room));
        unmade = λ n le. h.unmade n (omega (arith, length-set h.rooms v.number room, le));
        right =
            end_fact (λ k u. u.has_right ≡ true → IsRightTo h.history rooms' ends' (length views') k u) views'
            (right_apart room v)
            (λ f. record {
              own_seat = refl;
              all_is = r.all_is;
              rooms_is = ap (λ (l : List ℕ). set l v.number room) r.rooms_is;
              ends_is = ap (λ (l : List ℕ). set l v.number (length v.all)) r.ends_is;
            })
            (set_fact (λ k u. u.has_right ≡ true → IsRightTo h.history rooms' ends' (length views') k u) s.views id
            (pass_apart room v) (λ f. absurd (cc f))
            (λ k u ne e f. absurd (ne ((h.right k u e f).own_seat ∙ sym r.own_seat))));
        pass =
            end_fact (λ k u. u.is_pass ≡ true → IsPassOf h.history rooms' ends' h.seats k u) views' (right_apart room v)
            (λ f. absurd (cc f))
            (set_fact (λ k u. u.is_pass ≡ true → IsPassOf h.history rooms' ends' h.seats k u) s.views id
            (pass_apart room v)
            (λ f. record {
              own_seat = p.own_seat;
              made = omega (arith, p.made, length-set h.rooms v.number room);
              part = p.part;
              begins = prefix_all v.all h.history r.all_is;
              had_room = set_here h.rooms v.number room p.made;
              had_end = set_here h.ends v.number (length v.all) (omega (arith, p.made, h.as_many));
            })
            (λ k u ne e f. let q : IsPassOf h.history h.rooms h.ends h.seats k u = h.pass k u e f in
            let apart : u.number ≢ v.number = λ same. ne (sym q.own_seat ∙ (ap h.seats same ∙ p.own_seat)) in record {
              own_seat = q.own_seat;
              made = omega (arith, q.made, length-set h.rooms v.number room);
              part = q.part;
              begins = q.begins;
              had_room = set_else h.rooms v.number u.number room apart ∙ q.had_room;
              had_end = set_else h.ends v.number u.number (length v.all) apart ∙ q.had_end;
            }));
      }

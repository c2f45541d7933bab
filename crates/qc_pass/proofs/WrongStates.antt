-- States that the pass rule refuses, and one that it allows.
use Rattle.std.proofs.Common.{◌≡◌, ℕ, zero, suc, ◌%◌, ◌^◌, ◌<◌, ◌≤◌, true, false, List, [], ◌∷◌, length, refl, ap, sym}
use Rattle.std.proofs.Common.{◌∙◌, subst, arith}
use Rattle.std.specs.Prelude.{slice_get, slice_index, Option, Some}
use Rattle.qc_list.specs.declared.marked.Marked.{Marked}
use Rattle.qc_pass.specs.declared.view.View.{View}
use Rattle.qc_pass.specs.Vocabulary.{IsOneHistory, IsPassOf, IsRightTo, marked, own, pass_view, right_view, word_of}
use Rattle.qc_pass.proofs.Owns.{own_other}

module _ {E : Type 0} where
  pub no_right : IsOneHistory {E = E} (word_of 0 (pass_view 0 [] [] 0 ∷ [])) → ⊥
  no_right h = at h.holder h.view h.there h.holds
    where
      at : (k : ℕ) (v : View E) → slice_get (pass_view 0 [] [] 0 ∷ []) k ≡ Some v → v.has_right ≡ true → ⊥
      at zero v e f = let s : pass_view 0 [] [] 0 ≡ v = cc e in
          let t : false ≡ true = ap (λ (u : View E). u.has_right) s ∙ f in absurd (cc t)
      at (suc k) v e f = absurd (cc e)

  pub second_right : IsOneHistory {E = E} (word_of 0 (right_view [] [] [] ∷ right_view [] [] [] ∷ [])) → ⊥
  second_right h =
      let a : 0 ≡ h.holder = (h.right 0 (right_view [] [] []) refl refl).own_seat in
      let b : 1 ≡ h.holder = (h.right 1 (right_view [] [] []) refl refl).own_seat in
      omega (arith, a, b)

  pub counts_none : IsOneHistory {E = E} (word_of 1 (right_view [] [] [] ∷ [])) → ⊥
  counts_none h =
      let r = h.right 0 (right_view [] [] []) refl refl in
      let none_there : 0 ≡ length h.history = ap length r.all_is in
      let w : ◌≡◌ {A = List ℕ} (1 ∷ []) (0 ∷ []) = h.word ∙ ap (λ (n : ℕ). n % 2 ^ 64 ∷ []) (sym none_there) in
      let n : 1 ≡ 0 = ap (λ (l : List ℕ). slice_index l 0) w in
      omega (arith, n)

  pub counts_twice : (e : E) → IsOneHistory
      (word_of 2 (right_view (marked 0 e ∷ []) (0 ∷ []) (1 ∷ []) ∷ pass_view 0 (marked 0 e ∷ []) (e ∷ []) 0 ∷ [])) → ⊥
  counts_twice e h =
      let r = h.right 0 (right_view (marked 0 e ∷ []) (0 ∷ []) (1 ∷ [])) refl refl in
      let one_there : 1 ≡ length h.history = ap length r.all_is in
      let w : ◌≡◌ {A = List ℕ} (2 ∷ []) (1 ∷ []) = h.word ∙ ap (λ (n : ℕ). n % 2 ^ 64 ∷ []) (sym one_there) in
      let n : 2 ≡ 1 = ap (λ (l : List ℕ). slice_index l 0) w in
      omega (arith, n)

  pub second_pass : IsOneHistory {E = E} (word_of 0
      (right_view [] (0 ∷ []) (0 ∷ []) ∷ pass_view 0 [] [] 0 ∷ pass_view 0 [] [] 0 ∷ [])) → ⊥
  second_pass h =
      let a : h.seats 0 ≡ 1 = (h.pass 1 (pass_view 0 [] [] 0) refl refl).own_seat in
      let b : h.seats 0 ≡ 2 = (h.pass 2 (pass_view 0 [] [] 0) refl refl).own_seat in
      omega (arith, a, b)

  pub pass_not_made : IsOneHistory {E = E} (word_of 0 (right_view [] [] [] ∷ pass_view 0 [] [] 0 ∷ [])) → ⊥
  pass_not_made h =
      let r = h.right 0 (right_view [] [] []) refl refl in
      let m : 0 < length h.rooms = (h.pass 1 (pass_view 0 [] [] 0) refl refl).made in
      let none_made : 0 ≡ length h.rooms = ap length r.rooms_is in
      omega (arith, m, none_made)

  pub entry_not_made : (e : E) → IsOneHistory
      (word_of 1 (right_view (marked 1 e ∷ []) (0 ∷ []) (0 ∷ []) ∷ pass_view 0 [] [] 0 ∷ [])) → ⊥
  entry_not_made e h =
      let r = h.right 0 (right_view (marked 1 e ∷ []) (0 ∷ []) (0 ∷ [])) refl refl in
      let one_made : 1 ≡ length h.rooms = ap length r.rooms_is in
      let none_of : own 1 h.history ≡ [] = h.unmade 1 (omega (arith, one_made)) in
      let found : e ∷ [] ≡ [] = ap (λ (l : List (Marked E)). own 1 l) r.all_is ∙ none_of in
      absurd (cc found)

  pub own_lost : (e : E) → IsOneHistory (word_of 1
      (right_view (marked 0 e ∷ []) (0 ∷ []) (1 ∷ []) ∷ pass_view 0 (marked 0 e ∷ []) [] 0 ∷ [])) → ⊥
  own_lost e h =
      let r = h.right 0 (right_view (marked 0 e ∷ []) (0 ∷ []) (1 ∷ [])) refl refl in
      let p = h.pass 1 (pass_view 0 (marked 0 e ∷ []) [] 0) refl refl in
      let found : e ∷ [] ≡ [] = ap (λ (l : List (Marked E)). own 0 l) r.all_is ∙ p.part in
      absurd (cc found)

  pub own_made_up : (e : E) → IsOneHistory
      (word_of 0 (right_view [] (0 ∷ []) (0 ∷ []) ∷ pass_view 0 [] (e ∷ []) 0 ∷ [])) → ⊥
  own_made_up e h =
      let r = h.right 0 (right_view [] (0 ∷ []) (0 ∷ [])) refl refl in
      let p = h.pass 1 (pass_view 0 [] (e ∷ []) 0) refl refl in
      let found : ◌≡◌ {A = List E} [] (e ∷ []) = ap (λ (l : List (Marked E)). own 0 l) r.all_is ∙ p.part in
      absurd (cc found)

  pub own_twice : (e : E) → IsOneHistory (word_of 1
      (right_view (marked 0 e ∷ []) (0 ∷ []) (1 ∷ []) ∷ pass_view 0 (marked 0 e ∷ []) (e ∷ e ∷ []) 0 ∷ [])) → ⊥
  own_twice e h =
      let r = h.right 0 (right_view (marked 0 e ∷ []) (0 ∷ []) (1 ∷ [])) refl refl in
      let p = h.pass 1 (pass_view 0 (marked 0 e ∷ []) (e ∷ e ∷ []) 0) refl refl in
      let found : e ∷ [] ≡ e ∷ e ∷ [] = ap (λ (l : List (Marked E)). own 0 l) r.all_is ∙ p.part in
      let rest : [] ≡ e ∷ [] = cc found in
      absurd (cc rest)

  pub seen_made_up : (e : E) → IsOneHistory
      (word_of 0 (right_view [] (0 ∷ 0 ∷ []) (1 ∷ 0 ∷ []) ∷ pass_view 0 (marked 1 e ∷ []) [] 0 ∷ pass_view 1 [] [] 0
      ∷ [])) → ⊥
  seen_made_up e h =
      let r = h.right 0 (right_view [] (0 ∷ 0 ∷ []) (1 ∷ 0 ∷ [])) refl refl in
      let p = h.pass 1 (pass_view 0 (marked 1 e ∷ []) [] 0) refl refl in
      let begins : marked 1 e ∷ p.begins.0 ≡ [] = p.begins.1 ∙ sym r.all_is in
      absurd (cc begins)

  pub seen_without_first : (d e : E) → IsOneHistory
      (word_of 2 (right_view (marked 0 d ∷ marked 1 e ∷ []) (0 ∷ 0 ∷ []) (1 ∷ 1 ∷ []) ∷ pass_view 0 (marked 0 d ∷ [])
      (d ∷ []) 0 ∷ pass_view 1 (marked 1 e ∷ []) (e ∷ []) 0 ∷ [])) → ⊥
  seen_without_first d e h =
      let r = h.right 0 (right_view (marked 0 d ∷ marked 1 e ∷ []) (0 ∷ 0 ∷ []) (1 ∷ 1 ∷ [])) refl refl in
      let p = h.pass 2 (pass_view 1 (marked 1 e ∷ []) (e ∷ []) 0) refl refl in
      let begins : marked 1 e ∷ p.begins.0 ≡ marked 0 d ∷ marked 1 e ∷ [] = p.begins.1 ∙ sym r.all_is in
      let first : marked 1 e ≡ marked 0 d = cc begins in
      let number : 1 ≡ 0 = ap (λ (m : Marked E). m.actor) first in
      omega (arith, number)

  pub other_room : IsOneHistory {E = E} (word_of 0 (right_view [] (2 ∷ []) (0 ∷ []) ∷ pass_view 0 [] [] 3 ∷ [])) → ⊥
  other_room h =
      let r = h.right 0 (right_view [] (2 ∷ []) (0 ∷ [])) refl refl in
      let p = h.pass 1 (pass_view 0 [] [] 3) refl refl in
      let found : ◌≡◌ {A = Option ℕ} (Some 2) (Some 3) = ap (λ (l : List ℕ). slice_get l 0) r.rooms_is ∙ p.had_room in
      let same : ◌≡◌ {A = ℕ} 2 3 = cc found in
      omega (arith, same)

  pub other_end : (e : E) → IsOneHistory (word_of 1
      (right_view (marked 0 e ∷ []) (0 ∷ []) (0 ∷ []) ∷ pass_view 0 (marked 0 e ∷ []) (e ∷ []) 0 ∷ [])) → ⊥
  other_end e h =
      let r = h.right 0 (right_view (marked 0 e ∷ []) (0 ∷ []) (0 ∷ [])) refl refl in
      let p = h.pass 1 (pass_view 0 (marked 0 e ∷ []) (e ∷ []) 0) refl refl in
      let found : ◌≡◌ {A = Option ℕ} (Some 0) (Some 1) = ap (λ (l : List ℕ). slice_get l 0) r.ends_is ∙ p.had_end in
      let same : ◌≡◌ {A = ℕ} 0 1 = cc found in
      omega (arith, same)

  -- two actors added an entry each, and one has seen both
  module _ (d e : E) where
    abbrev both : List (Marked E)
    both = marked 0 d ∷ marked 1 e ∷ []

    abbrev views : List (View E)
    views = right_view both (3 ∷ 0 ∷ []) (1 ∷ 2 ∷ []) ∷ pass_view 0 (marked 0 d ∷ []) (d ∷ []) 3 ∷ pass_view 1 both
        (e ∷ []) 0 ∷ []

    stand_right : (k : ℕ) (v : View E) → slice_get views k ≡ Some v → v.has_right ≡ true
        → IsRightTo both (3 ∷ 0 ∷ []) (1 ∷ 2 ∷ []) 0 k v
    stand_right zero v at f = let s : right_view both (3 ∷ 0 ∷ []) (1 ∷ 2 ∷ []) ≡ v = cc at in
        subst (λ (u : View E). IsRightTo both (3 ∷ 0 ∷ []) (1 ∷ 2 ∷ []) 0 0 u) s record
        { own_seat = refl; all_is = refl; rooms_is = refl; ends_is = refl }
    stand_right (suc zero) v at f = let s : pass_view 0 (marked 0 d ∷ []) (d ∷ []) 3 ≡ v = cc at in
        let t : false ≡ true = ap (λ (u : View E). u.has_right) s ∙ f in absurd (cc t)
    stand_right (suc (suc zero)) v at f = let s : pass_view 1 both (e ∷ []) 0 ≡ v = cc at in
        let t : false ≡ true = ap (λ (u : View E). u.has_right) s ∙ f in absurd (cc t)
    stand_right (suc (suc (suc k))) v at f = absurd (cc at)

    stand_pass : (k : ℕ) (v : View E) → slice_get views k ≡ Some v → v.is_pass ≡ true
        → IsPassOf both (3 ∷ 0 ∷ []) (1 ∷ 2 ∷ []) suc k v
    stand_pass zero v at f = let s : right_view both (3 ∷ 0 ∷ []) (1 ∷ 2 ∷ []) ≡ v = cc at in
        let t : false ≡ true = ap (λ (u : View E). u.is_pass) s ∙ f in absurd (cc t)
    stand_pass (suc zero) v at f = let s : pass_view 0 (marked 0 d ∷ []) (d ∷ []) 3 ≡ v = cc at in
        subst (λ (u : View E). IsPassOf both (3 ∷ 0 ∷ []) (1 ∷ 2 ∷ []) suc 1 u) s
        record {
          own_seat = refl;
          made = omega arith;
          part = refl;
          begins = (marked 1 e ∷ [], refl);
          had_room = refl;
          had_end = refl;
        }
    stand_pass (suc (suc zero)) v at f = let s : pass_view 1 both (e ∷ []) 0 ≡ v = cc at in
        subst (λ (u : View E). IsPassOf both (3 ∷ 0 ∷ []) (1 ∷ 2 ∷ []) suc 2 u) s
        record {
          own_seat = refl;
          made = omega arith;
          part = refl;
          begins = ([], refl);
          had_room = refl;
          had_end = refl;
        }
    stand_pass (suc (suc (suc k))) v at f = absurd (cc at)

    stand_unmade : (n : ℕ) → 2 ≤ n → own n both ≡ []
    stand_unmade n le = own_other n 1 (marked 0 d ∷ []) e (λ q. omega (arith, le, q))
        ∙ own_other n 0 [] d (λ q. omega (arith, le, q))

    pub two_entries_stand : IsOneHistory (word_of 2 views)
    two_entries_stand = record {
      history = both;
      rooms = 3 ∷ 0 ∷ [];
      ends = 1 ∷ 2 ∷ [];
      seats = suc;
      holder = 0;
      view = right_view both (3 ∷ 0 ∷ []) (1 ∷ 2 ∷ []);
      there = refl;
      holds = refl;
      word = refl;
      as_many = refl;
      unmade = stand_unmade;
      right = stand_right;
      pass = stand_pass;
    }

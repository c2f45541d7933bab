-- Passes gain what others did, and nothing that arms an actor's disk stands behind what its pass has seen.
use Rattle.std.proofs.Common.{◌≡◌, ◌⊎◌, ℕ, zero, suc, ◌==◌, Bool, true, false, List, [], ◌∷◌, ◌++◌, length, drop}
use Rattle.std.proofs.Common.{filter, map, cond, slice_get, Some, refl, sym, ◌∙◌, ap, subst, arith, inl, inr}
use Rattle.std.proofs.Common.{length-append, slice_set}
use Rattle.std.specs.List.{AllByRecursion as Every}
use Rattle.std.proofs.lemmas.List.{append-nil, drop_at}
use mathlib.Core.Logic.{dite}
use native.Mathlib.Decide.{ℕ_discrete}
use Rattle.qc_list.proofs.Members.{every-append}
use Rattle.qc_msg.specs.Vocabulary.{Entry, by, deeds, own}
use Rattle.qc_msg.specs.declared.step.Step.{Step}
use Rattle.qc_msg.proofs.DeedsGrow.{own-append}
use Rattle.qc_pass.specs.declared.token.Pass.{Pass}
use Rattle.qc_pass.specs.declared.token.Right.{Right}
use Rattle.qc_pass.specs.Vocabulary.{Met, all, ends, mine, number, seen}
use Rattle.qc_promise.specs.Vocabulary.{IsOfOthers, arms_disk}
use Rattle.qc_fabric.specs.Vocabulary.{ArmsNone, ArmsNoneBehind, Sees}
use Rattle.qc_fabric.proofs.Fed.{deeds_of_front, get_else}

nothing_more : (xs ys : List Step) → xs ++ ys ≡ xs → ys ≡ []
nothing_more xs [] same = refl
nothing_more xs (y ∷ ys) same = absurd (omega (arith, ap length same, length-append xs (y ∷ ys)))

-- entries none of which is the actor's
none_own : (a : ℕ) (h : List Entry) → own a h ≡ [] → Every (λ (e : Entry). (e.actor == a) ≡ false) h
none_own a [] none = tt
none_own a (x ∷ h) none = one (λ rest. none_own a h rest) (x.actor == a) refl
  where
    one : (own a h ≡ [] → Every (λ (e : Entry). (e.actor == a) ≡ false) h) → (c : Bool) → (x.actor == a) ≡ c
        → Every (λ (e : Entry). (e.actor == a) ≡ false) (x ∷ h)
    one ih true is =
        let some : x.step ∷ own a h ≡ [] = subst
        (λ (c : Bool). map (λ (y : Entry). y.step)
        (cond c (x ∷ filter (λ (y : Entry). y.actor == a) h) (filter (λ (y : Entry). y.actor == a) h)) ≡ []) is none
        in
        absurd (cc some)
    one ih false is = (
      is,
      ih (subst (λ (c : Bool). map (λ (y : Entry). y.step)
          (cond c (x ∷ filter (λ (y : Entry). y.actor == a) h) (filter (λ (y : Entry). y.actor == a) h)) ≡ []) is none),
    )

both_ways : (a : ℕ) (h : List Entry) → Every (λ (e : Entry). (e.actor == a) ≡ false) h → ArmsNone a h → IsOfOthers a h
both_ways a [] others unarmed = tt
both_ways a (x ∷ h) others unarmed = ((others.0, unarmed.0), both_ways a h others.1 unarmed.1)

-- what a pass gains as it meets the right, before its own entries
pub record Gain (p : Pass Step) (r : Right Step) : Type 0 where
  pub others : List Entry
  pub not_own : IsOfOthers (number p) others
  pub whole : seen p ++ others ≡ all r

pub gain : (p q : Pass Step) (r t : Right Step) (added : List Step) (kept : ℕ) → Met p r q t added kept
    → ArmsNoneBehind (ends r) (all r) → Gain p r
gain p q r t added kept met unarmed =
    let a = number p in
    let rest = met.begins.0 in
    let whole : seen p ++ rest ≡ all r = met.begins.1 in
    let behind : drop (length (seen p)) (all r) ≡ rest = ap (λ (l : List Entry). drop (length (seen p)) l) (sym whole)
    ∙ drop_at (seen p) rest (length (seen p)) refl in
    let none : own a rest ≡ [] = nothing_more (own a (seen p)) (own a rest)
    (sym (own-append a (seen p) rest) ∙ ap (λ (l : List Entry). own a l) whole ∙ met.part ∙ sym p.part) in
    record {
      others = rest;
      not_own = both_ways a rest (none_own a rest none)
          (subst (λ (l : List Entry). ArmsNone a l) behind (unarmed a (length (seen p)) met.had_end));
      whole = whole;
    }

-- what stands behind a place

every_drop : (P : Entry → Type 0) (n : ℕ) (ys : List Entry) → Every P ys → Every P (drop n ys)
every_drop P zero ys each = each
every_drop P (suc n) [] each = tt
every_drop P (suc n) (y ∷ ys) each = every_drop P n ys each.1

drop_more : (P : Entry → Type 0) (n : ℕ) (xs ys : List Entry) → Every P (drop n xs) → Every P ys
    → Every P (drop n (xs ++ ys))
drop_more P zero xs ys before after = every-append P xs ys before after
drop_more P (suc n) [] ys before after = every_drop P (suc n) ys after
drop_more P (suc n) (x ∷ xs) ys before after = drop_more P n xs ys before after

drop_all : (P : Entry → Type 0) (xs : List Entry) → Every P (drop (length xs) xs)
drop_all P [] = tt
drop_all P (x ∷ xs) = drop_all P xs

-- where the views end, after a pass and the right met

set_here : (l : List ℕ) (i x end : ℕ) → slice_get (slice_set l i x) i ≡ Some end → end ≡ x
set_here [] i x end at = absurd (let no : ⊥ = cc in no)
set_here (y ∷ l) zero x end at = let same : x ≡ end = cc in sym same
set_here (y ∷ l) (suc i) x end at = set_here l i x end at

module _ (p q : Pass Step) (r t : Right Step) (added : List Step) (kept : ℕ) (met : Met p r q t added kept) where
  pub end_here : (b end : ℕ) → b ≡ number p → slice_get (ends t) b ≡ Some end → end ≡ length (all t)
  end_here b end is at = set_here (ends r) (number p) (length (all t)) end
      (ap (λ (l : List ℕ). slice_get l (number p)) (sym met.ends_are)
      ∙ (ap (λ (n : ℕ). slice_get (ends t) n) (sym is) ∙ at))

  pub end_else : (b : ℕ) → (b ≡ number p → ⊥) → slice_get (ends t) b ≡ slice_get (ends r) b
  end_else b other = ap (λ (l : List ℕ). slice_get l b) met.ends_are
      ∙ get_else (ends r) (number p) b (length (all t)) other

-- each view ends where it did, and what was added arms nothing for it; or it ends where the history does
pub unarmed_on : (before after : List ℕ) (old new added : List Entry) → new ≡ old ++ added
    → ((b end : ℕ) → slice_get after b ≡ Some end
    → (end ≡ length new) ⊎ ((slice_get before b ≡ Some end) × ArmsNone b added))
    → ArmsNoneBehind before old → ArmsNoneBehind after new
unarmed_on before after old new added new_is each unarmed a end at = by (each a end at)
  where
    by : (end ≡ length new) ⊎ ((slice_get before a ≡ Some end) × ArmsNone a added) → ArmsNone a (drop end new)
    by (inl is) = subst (λ (n : ℕ). ArmsNone a (drop n new)) (sym is)
        (drop_all (λ (e : Entry). arms_disk a e.step ≡ false) new)
    by (inr stays) = subst (λ (l : List Entry). ArmsNone a (drop end l)) (sym new_is)
        (drop_more (λ (e : Entry). arms_disk a e.step ≡ false) end old added (unarmed a end stays.0) stays.1)

-- one pass alone moved, and it has seen all
pub unarmed_by : (a : ℕ) (before after : List ℕ) (old new added : List Entry) → new ≡ old ++ added
    → ((b end : ℕ) → b ≡ a → slice_get after b ≡ Some end → end ≡ length new)
    → ((b : ℕ) → (b ≡ a → ⊥) → slice_get after b ≡ slice_get before b)
    → ((b : ℕ) → ArmsNone b added) → ArmsNoneBehind before old → ArmsNoneBehind after new
unarmed_by a before after old new added new_is here else_is calm unarmed =
    unarmed_on before after old new added new_is
    (λ b end at. dite (ℕ_discrete b a) (λ is. inl (here b end is at))
    (λ other. inr (sym (else_is b other) ∙ at, calm b)))
    unarmed

pub met_unarmed : (p q : Pass Step) (r t : Right Step) (added : List Step) (kept : ℕ) → Met p r q t added kept
    → all t ≡ all r ++ by (number p) added
    → ((b : ℕ) → ArmsNone b (by (number p) added)) → ArmsNoneBehind (ends r) (all r) → ArmsNoneBehind (ends t) (all t)
met_unarmed p q r t added kept met more calm unarmed =
    unarmed_by (number p) (ends r) (ends t) (all r) (all t) (by (number p) added) more (end_here p q r t added kept met)
    (end_else p q r t added kept met) calm unarmed

pub look_unarmed : (p q : Pass Step) (r t : Right Step) (kept : ℕ) → Met p r q t [] kept → all t ≡ all r
    → ArmsNoneBehind (ends r) (all r) → ArmsNoneBehind (ends t) (all t)
look_unarmed p q r t kept met same unarmed =
    met_unarmed p q r t [] kept met (same ∙ sym (append-nil (all r))) (λ b. tt) unarmed

pub saw : (p q : Pass Step) (r t : Right Step) (kept : ℕ) → Met p r q t [] kept → all t ≡ all r
    → ArmsNoneBehind (ends r) (all r) → Sees p q
saw p q r t kept m a unarmed =
    let g : Gain p r = gain p q r t [] kept m unarmed in
    record {
      pass = record { table_is = m.same_table; number_is = m.same_number };
      others = g.others;
      not_own = g.not_own;
      seen_is = m.seen_is ∙ (a ∙ sym g.whole);
      mine_is = m.mine_is ∙ append-nil (mine p);
      does = ap (λ (l : List Entry). deeds (number p) [] l) (m.seen_is ∙ a)
          ∙ deeds_of_front (number p) (seen p) (all r) (p.part ∙ sym m.part) m.begins;
    }

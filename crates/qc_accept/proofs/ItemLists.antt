-- Lists that are read item by item.
use Rattle.std.proofs.Common.{◌≡◌, ℕ, zero, suc, List, [], ◌∷◌, ◌++◌, length, map, Option, Some, Ok, refl, sym, ap, ◌∙◌}
use Rattle.std.proofs.Common.{subst}
use Rattle.std.specs.Prelude.{◌&&◌, not, codes, slice_get, option_and_then}
use Rattle.std.specs.List.{list_any}
use Rattle.std.specs.Str.{bytes_eq}
use Rattle.std.proofs.lemmas.List.{append-nil, append_assoc}
use Rattle.std.proofs.lemmas.Option.{cond_some}
use Rattle.toml.specs.Data.{Data, Members, as_str, as_table, get_member}
use Rattle.qc_plan.specs.declared.plan.Plan.{Plan}
use Rattle.qc_decl.proofs.Places.{place_at}
use Rattle.qc_decl.specs.Vocabulary.{greatest_weight, is_name, most_clients, most_epochs, most_objects, most_sites}
use Rattle.qc_decl.specs.Vocabulary.{most_types}
use Rattle.qc_decl.specs.declared.declaration.Declaration.{Declaration}
use Rattle.qc_accept.specs.declared.epochs.Side.TheVariants.{Initial, Final}
use Rattle.qc_accept.specs.Vocabulary.{Answer, AreListed, DraftOf, IsDeclared, IsSpelled, ObjectsOf, StoreOf, TypeOf}
use Rattle.qc_accept.specs.Vocabulary.{TypesOf, accepted, all_admitted, all_certified, array_at, declared, document_of}
use Rattle.qc_accept.specs.Vocabulary.{draft, draft_of, each, epoch_keys, item_path, item_table, items, keys, keys_path}
use Rattle.qc_accept.specs.Vocabulary.{name_among, name_at, needs, no_others, number, number_between, number_of}
use Rattle.qc_accept.specs.Vocabulary.{object_keys, objects_of, plan_in, plan_of, plans_of, read_each, required}
use Rattle.qc_accept.specs.Vocabulary.{text_at, told, type_of, types_of, weights, with_name, with_object, with_plan}
use Rattle.qc_accept.specs.Vocabulary.{with_text, with_type, with_weight}
use Rattle.qc_accept.proofs.Answered.{Came, came, found, mapped, same_ok, told_some}
use Rattle.qc_accept.proofs.Listing.{plan_listed}
use Rattle.qc_accept.proofs.Spelling.{in_order, items_are, types_are_their_texts}

pub record Adds {A B C : Type 0} (list : A → List C) (From : B → C → Type 0) (a : A) (b : B) (next : A) : Type 0 where
  pub one : C
  pub grown : list a ++ one ∷ [] ≡ list next
  pub from : From b one

pub record IsFrom {B C : Type 0} (From : B → C → Type 0) (bs : List B) (k : ℕ) (c : C) : Type 0 where
  pub item : B
  pub at : slice_get bs k ≡ Some item
  pub from : From item c

pub record AreFrom {B C : Type 0} (From : B → C → Type 0) (bs : List B) (all : List C) : Type 0 where
  pub long : length all ≡ length bs
  pub each_is : (k : ℕ) (c : C) → slice_get all k ≡ Some c → IsFrom From bs k c

pub record Grown {A B C : Type 0} (list : A → List C) (From : B → C → Type 0) (a : A) (bs : List B)
    (last : A) : Type 0 where
  pub all : List C
  pub whole : list a ++ all ≡ list last
  pub are : AreFrom From bs all

module _ {A B C : Type 0} (add : A → B → Answer A) (list : A → List C) (From : B → C → Type 0)
    (step : (a : A) (b : B) (next : A) → add a b ≡ Ok next → Adds list From a b next) where
  one_more_from : (b : B) (bs : List B) (c : C) (all : List C) → From b c → AreFrom From bs all
      → AreFrom From (b ∷ bs) (c ∷ all)
  one_more_from b bs c all from are = record { long = ap suc are.long; each_is = each_is }
    where
      each_is : (k : ℕ) (x : C) → slice_get (c ∷ all) k ≡ Some x → IsFrom From (b ∷ bs) k x
      each_is zero x is = record { item = b; at = refl; from = subst (From b) (let same : c ≡ x = cc in same) from }
      each_is (suc k) x is = let f : IsFrom From bs k x = are.each_is k x is in
          record { item = f.item; at = f.at; from = f.from }

  none_from : AreFrom From [] []
  none_from = record { long = refl; each_is = λ k c is. absurd (let never : ⊥ = cc in never) }

  grows : (a : A) (bs : List B) (last : A) → each add a bs ≡ Ok last → Grown list From a bs last
  grows a [] last is = record { all = []; whole = append-nil (list a) ∙ ap list (same_ok a last is); are = none_from }
  grows a (b ∷ bs) last is =
      let c : Came (add a b) (λ next. each add next bs) last = came (add a b) (λ next. each add next bs) last is in
      let s : Adds list From a b c.value = step a b c.value c.first in
      let g : Grown list From c.value bs last = grows c.value bs last c.rest in
      record {
        all = s.one ∷ g.all;
        whole = sym (append_assoc (list a) (s.one ∷ []) g.all) ∙ ap (λ (xs : List C). xs ++ g.all) s.grown ∙ g.whole;
        are = one_more_from b bs s.one g.all s.from g.are;
      }

  -- from nothing on, the list is what came from the items
  pub all_from : (a : A) (bs : List B) (last : A) → list a ≡ [] → each add a bs ≡ Ok last → AreFrom From bs (list last)
  all_from a bs last none is =
      let g : Grown list From a bs last = grows a bs last is in
      subst (AreFrom From bs) (ap (λ (xs : List C). xs ++ g.all) (sym none) ∙ g.whole) g.are

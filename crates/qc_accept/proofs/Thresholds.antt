-- Thresholds as a map has them, and as the definition lists them.
use Rattle.std.proofs.Common.{◌≡◌, ℕ, Bool, true, false, cond, List, [], ◌∷◌, ◌++◌, Option, Some, None, is_some, map}
use Rattle.std.proofs.Common.{refl, sym, ap, ◌∙◌}
use Rattle.std.specs.Prelude.{◌==◌, ◌&&◌, ◌||◌, not, if◌then◌else◌, find, unwrap_or}
use Rattle.std.specs.List.{list_any}
use Rattle.std.specs.Map.{lookup}
use Rattle.std.specs.Option.{option_map_or}
use Rattle.std.proofs.lemmas.Cmp.{nat_eq_equiv}
use Rattle.std.proofs.lemmas.List.{map-append}
use Rattle.indexmap.specs.IndexMap.{insert_entry}
use Rattle.qc_accept.specs.Vocabulary.{EntryOf, entry_at, is_at, threshold_of, with_entry}

-- whether a key is of this object and place
abbrev pub is_key : ℕ → ℕ → ℕ × ℕ → Bool
is_key object place key = (object == key.0) && (place == key.1)

abbrev pub same_keys : ℕ × ℕ → ℕ × ℕ → Bool
same_keys a b = is_key a.0 a.1 b

same_key : (object place : ℕ) (key : ℕ × ℕ) → is_key object place key ≡ ((key.0 == object) && (key.1 == place))
same_key object place key = λ j. (nat_eq_equiv).symm object key.0 j && (nat_eq_equiv).symm place key.1 j

module _ (object place : ℕ) where
  -- a look-up finds the threshold
  pub threshold_found : (entries : List ((ℕ × ℕ) × ℕ))
      → unwrap_or (lookup (is_key object place) entries) 0 ≡ threshold_of (map entry_at entries) object place
  threshold_found [] = refl
  threshold_found (e ∷ entries) =
      by (is_key object place e.0) (lookup (is_key object place) entries)
      (find (is_at object place) (map entry_at entries)) (threshold_found entries)
      ∙ ap (λ (b : Bool). option_map_or (λ (x : EntryOf). x.threshold)
      (cond b (Some (entry_at e)) (find (is_at object place) (map entry_at entries))) 0) (same_key object place e.0)
    where
      by : (b : Bool) (o : Option ℕ) (f : Option EntryOf)
          → unwrap_or o 0 ≡ option_map_or (λ (x : EntryOf). x.threshold) f 0
          → unwrap_or (cond b (Some e.1) o) 0 ≡ option_map_or (λ (x : EntryOf). x.threshold)
          (cond b (Some (entry_at e)) f) 0
      by true o f h = refl
      by false o f h = h

  -- and whether there is one
  any_found : (entries : List ((ℕ × ℕ) × ℕ))
      → list_any (is_at object place) (map entry_at entries) ≡ is_some (lookup (is_key object place) entries)
  any_found [] = refl
  any_found (e ∷ entries) =
      ap (λ (b : Bool). b || list_any (is_at object place) (map entry_at entries)) (sym (same_key object place e.0))
      ∙ by (is_key object place e.0) (any_found entries)
    where
      by : (b : Bool) → list_any (is_at object place) (map entry_at entries) ≡ is_some
          (lookup (is_key object place) entries)
          → (b || list_any (is_at object place) (map entry_at entries)) ≡ is_some
          (cond b (Some e.1) (lookup (is_key object place) entries))
      by true h = refl
      by false h = h

  -- a new key goes last
  inserted : (t : ℕ) (entries : List ((ℕ × ℕ) × ℕ)) → lookup (is_key object place) entries ≡ None
      → insert_entry same_keys entries (object, place) t ≡ entries ++ ((object, place), t) ∷ []
  inserted t [] none = refl
  inserted t (e ∷ entries) none = by (is_key object place e.0) none (inserted t entries)
    where
      by : (b : Bool) → cond b (Some e.1) (lookup (is_key object place) entries) ≡ None
          → (lookup (is_key object place) entries ≡ None
          → insert_entry same_keys entries (object, place) t ≡ entries ++ ((object, place), t) ∷ [])
          → cond b ((e.0, t) ∷ entries) (e ∷ insert_entry same_keys entries (object, place) t) ≡ e ∷
          (entries ++ ((object, place), t) ∷ [])
      by true none more = absurd (let never : ⊥ = cc in never)
      by false none more = ap (λ (es : List ((ℕ × ℕ) × ℕ)). e ∷ es) (more none)

  -- an entry that is inserted is one more where its key is new
  pub entry_added : (t : ℕ) (entries new : List ((ℕ × ℕ) × ℕ)) (before : Option ℕ) (is_new : Bool)
      → before ≡ lookup (is_key object place) entries
      → new ≡ insert_entry same_keys entries (object, place) t → is_some before ≡ not is_new
      → with_entry (map entry_at entries) (record { object = object; place = place; threshold = t }) ≡
      (if is_new then Some (map entry_at new) else None)
  entry_added t entries new None true was is told =
      let fresh : new ≡ entries ++ ((object, place), t) ∷ [] = is ∙ inserted t entries (sym was) in
      ap (λ (b : Bool). if b then None else Some (map entry_at entries ++ entry_at ((object, place), t) ∷ []))
      (any_found entries ∙ ap is_some (sym was))
      ∙ ap Some (sym (ap (map entry_at) fresh ∙ map-append entry_at entries (((object, place), t) ∷ [])))
  entry_added t entries new (Some before) false was is told =
      ap (λ (b : Bool). if b then None else Some (map entry_at entries ++ entry_at ((object, place), t) ∷ []))
      (any_found entries ∙ ap is_some (sym was))
  entry_added t entries new None false was is told = absurd (let never : ⊥ = cc in never)
  entry_added t entries new (Some before) true was is told = absurd (let never : ⊥ = cc in never)

-- Sorting what was read of the types.
use Rattle.std.proofs.Common.{◌≡◌, ℕ, ◌+◌, ◌<◌, ◌≤◌, List, [], ◌∷◌, ◌++◌, length, map, take, get_or, refl, sym, ap, ◌∙◌}
use Rattle.std.proofs.Common.{arith}
use Rattle.std.proofs.lemmas.List.{map-append, take_all, take_more}
use Rattle.std.specs.List.{zip}
use Rattle.qc_cert.specs.declared.triple.Triple.{Triple}
use Rattle.qc_table.specs.declared.kind.Kind.{Kind}
use Rattle.qc_decl.specs.declared.declaration.KindNames.{KindNames}
use Rattle.qc_accept.specs.declared.kinds.TypeRead.{TypeRead}
use Rattle.qc_accept.specs.Vocabulary.{TypeOf, all_names, kind_names, type_in}

-- what is kept of a type and its name
abbrev pub kind_in : TypeRead × List ℕ → Kind
kind_in p = p.0.kind

abbrev pub triples_in : TypeRead × List ℕ → List Triple
triples_in p = p.0.triples

abbrev pub names_in_pair : TypeRead × List ℕ → KindNames
names_in_pair p = kind_names p.1 (type_in p.0)

pub kinds_sorted : (ts : List TypeRead) (names : List (List ℕ)) → length names ≡ length ts
    → map kind_in (zip ts names) ≡ map (λ (t : TypeOf). t.kind) (map type_in ts)
kinds_sorted [] names long = refl
kinds_sorted (t ∷ ts) [] long = absurd (omega arith)
kinds_sorted (t ∷ ts) (n ∷ names) long = ap (λ (ks : List Kind). t.kind ∷ ks) (kinds_sorted ts names (omega arith))

pub triples_sorted : (ts : List TypeRead) (names : List (List ℕ)) → length names ≡ length ts
    → map triples_in (zip ts names) ≡ map (λ (t : TypeOf). t.triples) (map type_in ts)
triples_sorted [] names long = refl
triples_sorted (t ∷ ts) [] long = absurd (omega arith)
triples_sorted (t ∷ ts) (n ∷ names) long =
    ap (λ (ks : List (List Triple)). t.triples ∷ ks) (triples_sorted ts names (omega arith))

pub names_sorted : (ts : List TypeRead) (names : List (List ℕ)) → length names ≡ length ts
    → map names_in_pair (zip ts names) ≡ all_names names (map type_in ts)
names_sorted [] [] long = refl
names_sorted [] (n ∷ names) long = absurd (omega arith)
names_sorted (t ∷ ts) [] long = absurd (omega arith)
names_sorted (t ∷ ts) (n ∷ names) long =
    ap (λ (ks : List KindNames). kind_names n (type_in t) ∷ ks) (names_sorted ts names (omega arith))

-- one item more is kept of each
pub kept_more : {A B : Type 0} (keep : A → B) (items : List A) (n : ℕ) (item : A) (before after : List B)
    → (n < length items) × (item ≡ get_or items n item)
    → before ≡ map keep (take n items) → after ≡ before ++ keep item ∷ [] → after ≡ map keep (take (n + 1) items)
kept_more {A} {B} keep items n item before after is so_far pushed =
    pushed ∙ ap (λ (bs : List B). bs ++ keep item ∷ []) so_far
    ∙ sym (map-append keep (take n items) (item ∷ []))
    ∙ ap (λ (a : A). map keep (take n items ++ a ∷ [])) is.1
    ∙ sym (ap (map keep) (take_more items n item is.0))

-- and at the end of all
pub kept_all : {A B : Type 0} (keep : A → B) (items : List A) (n : ℕ) (before : List B) → n ≡ length items
    → before ≡ map keep (take n items) → before ≡ map keep items
kept_all keep items n before all so_far = so_far
    ∙ ap (map keep) (let past : length items ≤ n = omega arith in take_all n items past)

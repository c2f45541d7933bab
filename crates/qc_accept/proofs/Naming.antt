-- Names that are read: well formed, and no two the same.
use Rattle.std.proofs.Common.{◌≡◌, ◌≢◌, ℕ, suc, ◌+◌, ◌<◌, true, false, ◌&&◌, not, List, [], ◌∷◌, ◌++◌, length, Some, Ok}
use Rattle.std.proofs.Common.{get_or, refl, sym, ap, ◌∙◌, subst, arith}
use Rattle.std.specs.List.{list_any}
use Rattle.std.specs.Str.{bytes_eq}
use Rattle.std.proofs.lemmas.List.{length-append}
use Rattle.std.proofs.lemmas.List.Folds.{list_all-append, list_any_at}
use Rattle.std.proofs.lemmas.List.Quantifiers.{all_pairs_push}
use Rattle.std.proofs.lemmas.Option.{cond_some}
use Rattle.std.proofs.lemmas.Slice.Eq.{bytes_eq-Decides}
use Rattle.toml.specs.Data.{Data, Members, as_str}
use Rattle.qc_decl.specs.Vocabulary.{AreNames, is_name}
use Rattle.qc_accept.specs.Vocabulary.{items, names, read_each, told, with_name, with_text}
use Rattle.qc_accept.proofs.Answered.{came, found, read_each_keeps, told_some}
use Rattle.qc_list.proofs.Booleans.{and_parts}

-- none yet
pub no_names : AreNames 0 []
no_names = record { count = refl; formed = refl; distinct = λ i j d before within. absurd (omega arith) }

-- a new name differs from each before it
differs : (known : List (List ℕ)) (name : List ℕ) → not (list_any (bytes_eq name) known) ≡ true → (k : ℕ) (d : List ℕ)
    → k < length known → get_or known k d ≢ name
differs known name new k d within same =
    let there : list_any (bytes_eq name) known ≡ true =
    list_any_at (bytes_eq name) known k d within ((bytes_eq-Decides name (get_or known k d)).1 (sym same)) in
    let never : true ≡ false = sym new ∙ ap not there in
    absurd (let no : ⊥ = cc in no)

-- a name more
pub names_more : (n : ℕ) (known : List (List ℕ)) (d : Data) (next : List (List ℕ)) → AreNames n known
    → with_name known d ≡ Some next → AreNames (suc n) next
names_more n known d next are is =
    let f = found (as_str d) (with_text known) next is in
    let t = cond_some (is_name f.value && not (list_any (bytes_eq f.value) known))
    (known ++ f.value ∷ []) next f.rest in
    let p : (is_name f.value ≡ true) × (not (list_any (bytes_eq f.value) known) ≡ true) =
    and_parts (is_name f.value) (not (list_any (bytes_eq f.value) known)) t.0 in
    let long : length (known ++ f.value ∷ []) ≡ length known + 1 = length-append known (f.value ∷ []) in
    let before : length known ≡ n = are.count in
    let counted : length (known ++ f.value ∷ []) ≡ suc n = omega arith in
    subst (AreNames (suc n)) t.1 (record {
      count = counted;
      formed = list_all-append is_name known (f.value ∷ []) ∙ ap (λ b. b && (is_name f.value && true)) are.formed
          ∙ ap (λ b. b && true) p.0;
      distinct = all_pairs_push (λ a b. a ≢ b) known f.value are.distinct (differs known f.value p.1);
    })

-- so many as there are
pub all_named : (n : ℕ) (ns : List (List ℕ)) → AreNames n ns → AreNames (length ns) ns
all_named n ns are = record { count = refl; formed = are.formed; distinct = are.distinct }

-- the names of an array
pub names_are : (path : List ℕ) (table : Members) (key : List ℕ) (most : ℕ) (ns : List (List ℕ))
    → names path table key most ≡ Ok ns → AreNames (length ns) ns
names_are path table key most ns is =
    let c = came (items path table key 1 most) (λ ds. told (path ++ key) (read_each with_name [] ds)) ns is in
    all_named (0 + length c.value) ns
    (read_each_keeps AreNames with_name names_more 0 [] c.value ns no_names
    (told_some (path ++ key) (read_each with_name [] c.value) ns c.rest))

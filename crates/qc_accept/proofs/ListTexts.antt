-- Reading the texts of an array, each as an item of a list.
use Rattle.std.proofs.Common.{◌≡◌, ℕ, ◌+◌, ◌<◌, ◌++◌, List, [], ◌∷◌, Option, Some, None, length, get_or, drop, sym, ap}
use Rattle.std.proofs.Common.{◌∙◌}
use Rattle.std.specs.Prelude.{option_map, option_and_then}
use Rattle.toml.specs.Data.{as_str}
use Rattle.toml.specs.View.{view}
use Rattle.toml.specs.declared.value.Value.{Value}
use Rattle.qc_accept.specs.Vocabulary.{data_of, read_each, with_read}
use Rattle.qc_accept.proofs.Reading.{reads_on, reads_none, item_seen}

-- a list with an item, where there is one
abbrev more : {A : Type 0} → List A → Option A → Option (List A)
more so_far item = option_map (λ a. so_far ++ a ∷ []) item

-- a value's text says an item
pub takes : {A : Type 0} (read : List ℕ → Option A) (so_far next : List A) (values : List Value) (i : ℕ) (value : Value)
    (text : List ℕ) (item : A) (whole : Option (List A))
    → i < length values → value ≡ get_or values i value → as_str (view value) ≡ Some text → read text ≡ Some item
    → next ≡ so_far ++ item ∷ []
    → whole ≡ read_each (with_read read) so_far (drop i (data_of values))
    → whole ≡ read_each (with_read read) next (drop (i + 1) (data_of values))
takes {A} read so_far next values i value text item whole within at is_text is_item grown before =
    reads_on (with_read read) so_far next (data_of values) i (view value) whole
    (item_seen view values i value within at)
    (ap (λ (o : Option (List ℕ)). more so_far (option_and_then read o)) is_text ∙ ap (more so_far) is_item
    ∙ ap Some (sym grown)) before

-- a value is no text
pub no_text : {A : Type 0} (read : List ℕ → Option A) (so_far : List A) (values : List Value) (i : ℕ) (value : Value)
    (whole : Option (List A))
    → i < length values → value ≡ get_or values i value → as_str (view value) ≡ None
    → whole ≡ read_each (with_read read) so_far (drop i (data_of values)) → whole ≡ None
no_text {A} read so_far values i value whole within at is_text before =
    reads_none (with_read read) so_far (data_of values) i (view value) whole (item_seen view values i value within at)
    (ap (λ (o : Option (List ℕ)). more so_far (option_and_then read o)) is_text) before

-- a value's text says nothing
pub no_item : {A : Type 0} (read : List ℕ → Option A) (so_far : List A) (values : List Value) (i : ℕ) (value : Value)
    (text : List ℕ) (whole : Option (List A))
    → i < length values → value ≡ get_or values i value → as_str (view value) ≡ Some text → read text ≡ None
    → whole ≡ read_each (with_read read) so_far (drop i (data_of values)) → whole ≡ None
no_item {A} read so_far values i value text whole within at is_text is_item before =
    reads_none (with_read read) so_far (data_of values) i (view value) whole (item_seen view values i value within at)
    (ap (λ (o : Option (List ℕ)). more so_far (option_and_then read o)) is_text ∙ ap (more so_far) is_item) before

-- The document that bytes are.
use Rattle.std.proofs.Common.{◌≡◌, ℕ, Bool, true, false, List, Option, Some, None, Ok, Err, refl, ap, ◌∙◌}
use Rattle.std.specs.Prelude.{if◌then◌else◌}
use Rattle.std.specs.Option.{option_map_or}
use Rattle.std.specs.Str.{IsUtf8, is_utf8}
use Rattle.std.proofs.lemmas.Str.{IsUtf8-from_is_utf8, is_utf8-from_IsUtf8}
use Rattle.toml.specs.Data.{Members}
use Rattle.toml.specs.Parse.{parse_document}
use Rattle.qc_accept.specs.declared.fault.DeclFault.TheVariants.{NotToml}
use Rattle.qc_accept.specs.Vocabulary.{Answer, document_of}

-- what is parsed, or the fault
abbrev parsed : Option Members → Answer Members
parsed found = option_map_or (λ t. Ok t) found (Err NotToml)

-- UTF-8 that is TOML
pub document_read : (bytes : List ℕ) (table : Members) → IsUtf8 bytes → parse_document bytes ≡ Some table
    → document_of bytes ≡ Ok table
document_read bytes table utf8 is =
    ap (λ (b : Bool). let answer : Answer Members = if b then parsed (parse_document bytes) else Err NotToml in answer)
    (is_utf8-from_IsUtf8 bytes utf8) ∙ ap parsed is

-- bytes that aren't
pub no_document : (bytes : List ℕ) → (IsUtf8 bytes → parse_document bytes ≡ None) → document_of bytes ≡ Err NotToml
no_document bytes none = by (is_utf8 bytes) refl
  where
    by : (t : Bool) → is_utf8 bytes ≡ t → document_of bytes ≡ Err NotToml
    by true is =
        ap (λ (b : Bool). let answer : Answer Members = if b then parsed (parse_document bytes) else Err NotToml in
        answer) is
        ∙ ap parsed (none (IsUtf8-from_is_utf8 bytes is))
    by false is = ap (λ (b : Bool). let answer : Answer Members =
        if b then parsed (parse_document bytes) else Err NotToml in answer) is

-- What a script that is read names is declared, and its numbers are in range.
use Rattle.std.proofs.Common.{◌≡◌, ℕ, ◌+◌, Bool, true, false, cond, List, [], ◌∷◌, ◌++◌, Option, Some, None, Result, Ok}
use Rattle.std.proofs.Common.{Err, refl, subst}
use Rattle.std.specs.Prelude.{ok_or}
use Rattle.std.specs.List.{AllByRecursion as Every}
use Rattle.qc_list.specs.Vocabulary.{◌>>=◌}
use Rattle.qc_decl.specs.declared.declaration.Declaration.{Declaration}
use Rattle.qc_msg.specs.declared.step.Command.TheVariants as commands
use Rattle.qc_script.proofs.SoundItems.{IsItemFor, item_named, item_ranged}
use Rattle.qc_script.specs.Vocabulary.{IsCommandFor, IsControlFor, IsLinkFor, IsPhaseFor, IsScriptFor, empty_phase}
use Rattle.qc_script.specs.Vocabulary.{empty_script, has_place, is_in_range, is_skipped, item_in, item_of, line_of}
use Rattle.qc_script.specs.Vocabulary.{lines_of, numbered, on_last, placed, read_words, script_of, tested, with_command}
use Rattle.qc_script.specs.Vocabulary.{with_control, with_item, with_line, with_lines, with_words, without_cr, words_of}
use Rattle.qc_script.specs.declared.item.Item.{Item}
use Rattle.qc_script.specs.declared.item.Item.TheVariants as items
use Rattle.qc_script.specs.declared.line.ScriptLine.{ScriptLine}
use Rattle.qc_script.specs.declared.script.CommandLine.{CommandLine}
use Rattle.qc_script.specs.declared.script.LineKind.{LineKind}
use Rattle.qc_script.specs.declared.script.LineKind.TheVariants.{Words, Name, Number, Place}
use Rattle.qc_script.specs.declared.script.PhaseLines.{PhaseLines}
use Rattle.qc_script.specs.declared.script.Script.{Script}
use Rattle.qc_list.proofs.Members.{every-append}

-- an item's kind is one that a script may have

every_more : {X : Type 0} (P : X → Type 0) (xs : List X) (x : X) → Every P xs → P x → Every P (xs ++ x ∷ [])
every_more P xs x every more = every-append P xs (x ∷ []) every (more, tt)

every_last : (decl : Declaration) (change : PhaseLines → PhaseLines) (phases : List PhaseLines)
    → ((phase : PhaseLines) → IsPhaseFor decl phase → IsPhaseFor decl (change phase))
    → Every (IsPhaseFor decl) phases → Every (IsPhaseFor decl) (on_last change phases)
every_last decl change [] each before = tt
every_last decl change (phase ∷ []) each before = (each phase before.0, tt)
every_last decl change (phase ∷ next ∷ phases) each before =
    (before.0, every_last decl change (next ∷ phases) each before.1)

command_more : (decl : Declaration) (script : Script) (line : CommandLine) → IsScriptFor decl script
    → IsCommandFor decl line
    → Every (IsPhaseFor decl) (on_last (with_command line) script.phases)
command_more decl script line before asked =
    every_last decl (with_command line) script.phases
    (λ phase h. (h.0, every_more (IsCommandFor decl) phase.commands line h.1 asked)) before.phases

item_more : (decl : Declaration) (script : Script) (item : Item) → IsScriptFor decl script → IsItemFor decl item
    → IsScriptFor decl (with_item script item)
item_more decl script items.Phase before is =
    record {
      links = before.links;
      phases = every_more (IsPhaseFor decl) script.phases empty_phase before.phases
          (tt, tt);
    }
item_more decl script (items.Link link) before is =
    record { links = every_more (IsLinkFor decl) script.links link before.links is; phases = before.phases }
item_more decl script (items.Control control) before is = record {
  links = before.links;
  phases = every_last decl (with_control control) script.phases
      (λ phase h. (every_more (IsControlFor decl) phase.controls control h.0 is, h.1)) before.phases;
}
item_more decl script (items.Command line) before is =
    record { links = before.links; phases = command_more decl script line before is }
item_more decl script (items.Epoch actor number) before is =
    record {
      links = before.links;
      phases = command_more decl script
          (record { actor = actor; command = commands.Epoch number }) before is;
    }

-- what is read is one of these

tested_is : {A : Type 0} (b : Bool) (kind : LineKind) (x y : A) → tested b kind x ≡ Ok y → (b ≡ true) × (x ≡ y)
tested_is true kind x y is = (refl, cc)
tested_is false kind x y is = absurd (let never : ⊥ = cc in never)

words_read : (decl : Declaration) (words : List (List ℕ)) (item : Item) → read_words decl words ≡ Ok item
    → IsItemFor decl item
words_read decl words item is = by_line (line_of words) is where
  by_item : (line : ScriptLine) (o : Option Item) → item_of decl line ≡ o
      → (ok_or o Name >>= (λ i. tested (is_in_range decl i) Number i)) ≡ Ok item → IsItemFor decl item
  by_item line None none is = absurd (let never : ⊥ = cc in never)
  by_item line (Some i) some is =
      let t = tested_is (is_in_range decl i) Number i item is in
      subst (IsItemFor decl) t.1 (item_ranged decl i (item_named decl line i some) t.0)

  by_line : (o : Option ScriptLine) → (ok_or o Words >>= item_in decl) ≡ Ok item → IsItemFor decl item
  by_line None is = absurd (let never : ⊥ = cc in never)
  by_line (Some line) is = by_item line (item_of decl line) refl is

line_more : (decl : Declaration) (script next : Script) (line : List ℕ) → IsScriptFor decl script
    → with_line decl script line ≡ Ok next → IsScriptFor decl next
line_more decl script next line before is = by (is_skipped line) is where
  by_words : (r : Result Item LineKind) → read_words decl (words_of line) ≡ r → (r >>= placed script) ≡ Ok next
      → IsScriptFor decl next
  by_words (Ok item) read is =
      let t = tested_is (has_place script item) Place (with_item script item) next is in
      subst (IsScriptFor decl) t.1 (item_more decl script item before (words_read decl (words_of line) item read))
  by_words (Err kind) read is = absurd (let never : ⊥ = cc in never)

  by : (b : Bool) → cond b (Ok script) (with_words decl script (words_of line)) ≡ Ok next → IsScriptFor decl next
  by true is = let same : script ≡ next = cc in subst (IsScriptFor decl) same before
  by false is = by_words (read_words decl (words_of line)) refl is

lines_more : (decl : Declaration) (number : ℕ) (script whole : Script) (lines : List (List ℕ)) → IsScriptFor decl script
    → with_lines decl number script lines ≡ Ok whole → IsScriptFor decl whole
lines_more decl number script whole [] before is = let same : script ≡ whole = cc in
    subst (IsScriptFor decl) same before
lines_more decl number script whole (line ∷ lines) before is =
    by (with_line decl script (without_cr line)) refl is (λ next h. lines_more decl (number + 1) next whole lines h)
  where
    by : (r : Result Script LineKind) → with_line decl script (without_cr line) ≡ r
        → (numbered number r >>= (λ next. with_lines decl (number + 1) next lines)) ≡ Ok whole
        → ((next : Script) → IsScriptFor decl next → with_lines decl (number + 1) next lines ≡ Ok whole
        → IsScriptFor decl whole) → IsScriptFor decl whole
    by (Ok next) adds is later = later next (line_more decl script next (without_cr line) before adds) is
    by (Err kind) stops is later = absurd (let never : ⊥ = cc in never)

pub scripts_name_what_is_declared : (decl : Declaration) (bytes : List ℕ) (script : Script)
    → script_of decl bytes ≡ Ok script
    → IsScriptFor decl script
scripts_name_what_is_declared decl bytes script is = lines_more decl 1 empty_script script (lines_of bytes)
    (record { links = tt; phases = tt }) is

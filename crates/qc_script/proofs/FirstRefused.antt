-- A script that is refused has a first line that is.
use Rattle.std.proofs.Common.{◌≡◌, ℕ, suc, ◌+◌, List, [], ◌∷◌, ◌++◌, Result, Ok, Err, length, refl, sym, ap, ◌∙◌, arith}
use Rattle.qc_list.specs.Vocabulary.{◌>>=◌}
use Rattle.qc_decl.specs.declared.declaration.Declaration.{Declaration}
use Rattle.qc_script.specs.Vocabulary.{IsFirstRefused, Refusal, empty_script, lines_of, numbered, script_of, with_line}
use Rattle.qc_script.specs.Vocabulary.{with_lines, without_cr}
use Rattle.qc_script.specs.declared.script.LineKind.{LineKind}
use Rattle.qc_script.specs.declared.script.Script.{Script}

-- the first of these lines that is refused, behind a script, the first of the lines having this number
pub record IsRefusedIn (decl : Declaration) (number : ℕ) (script : Script) (lines : List (List ℕ))
    (refusal : Refusal) : Type 0 where
  pub before : List (List ℕ)
  pub line : List ℕ
  pub after : List (List ℕ)
  pub so_far : Script
  pub cut : lines ≡ before ++ line ∷ after
  pub at : refusal.number ≡ length before + number
  pub fine : with_lines decl number script before ≡ Ok so_far
  pub refused : with_line decl so_far (without_cr line) ≡ Err refusal.kind

find : (decl : Declaration) (number : ℕ) (script : Script) (lines : List (List ℕ)) (refusal : Refusal)
    → with_lines decl number script lines ≡ Err refusal → IsRefusedIn decl number script lines refusal
find decl number script [] refusal is = absurd (let never : ⊥ = cc in never)
find decl number script (line ∷ lines) refusal is =
    by (with_line decl script (without_cr line)) refl is (λ next. find decl (number + 1) next lines refusal)
  where
    by : (r : Result Script LineKind) → with_line decl script (without_cr line) ≡ r
        → (numbered number r >>= (λ more. with_lines decl (number + 1) more lines)) ≡ Err refusal
        → ((next : Script) → with_lines decl (number + 1) next lines ≡ Err refusal
        → IsRefusedIn decl (number + 1) next lines refusal)
        → IsRefusedIn decl number script (line ∷ lines) refusal
    by (Ok next) adds is later =
        let found = later next is in
        let at = found.at in
        record {
          before = line ∷ found.before;
          line = found.line;
          after = found.after;
          so_far = found.so_far;
          cut = ap (λ (ls : List (List ℕ)). line ∷ ls) found.cut;
          at = omega arith;
          fine = ap (λ (r : Result Script LineKind). numbered number r >>=
              (λ more. with_lines decl (number + 1) more found.before)) adds ∙ found.fine;
          refused = found.refused;
        }
    by (Err kind) stops is later =
        let here : Refusal = record { number = number; kind = kind } in
        let same : here ≡ refusal = cc in
        record {
          before = [];
          line = line;
          after = lines;
          so_far = script;
          cut = refl;
          at = sym (ap (λ (r : Refusal). r.number) same) ∙ (let n : number ≡ 0 + number = omega arith in n);
          fine = refl;
          refused = stops ∙ ap (λ (r : Refusal). let e : Result Script LineKind = Err r.kind in e) same;
        }

-- lines behind others
behind : (decl : Declaration) (number : ℕ) (script so_far : Script) (before more : List (List ℕ))
    → with_lines decl number script before ≡ Ok so_far
    → with_lines decl number script (before ++ more) ≡ with_lines decl (length before + number) so_far more
behind decl number script so_far [] more fine =
    let same : script ≡ so_far = cc in
    let n : number ≡ 0 + number = omega arith in
    ap (λ (s : Script). with_lines decl number s more) same ∙ ap (λ (k : ℕ). with_lines decl k so_far more) n
behind decl number script so_far (line ∷ before) more fine =
    by (numbered number (with_line decl script (without_cr line))) fine
    (λ next. behind decl (number + 1) next so_far before more)
  where
    by : (r : Result Script Refusal) → (r >>= (λ next. with_lines decl (number + 1) next before)) ≡ Ok so_far
        → ((next : Script) → with_lines decl (number + 1) next before ≡ Ok so_far
        → with_lines decl (number + 1) next (before ++ more) ≡ with_lines decl
        (length before + (number + 1)) so_far more)
        → (r >>= (λ next. with_lines decl (number + 1) next (before ++ more))) ≡ with_lines decl
        (suc (length before) + number) so_far more
    by (Ok next) fine later =
        let n : length before + (number + 1) ≡ suc (length before) + number = omega arith in
        later next fine ∙ ap (λ (k : ℕ). with_lines decl k so_far more) n
    by (Err refusal) fine later = absurd (let never : ⊥ = cc in never)

pub has_first : (decl : Declaration) (bytes : List ℕ) (refusal : Refusal) → script_of decl bytes ≡ Err refusal
    → IsFirstRefused decl bytes refusal
has_first decl bytes refusal is =
    let found = find decl 1 empty_script (lines_of bytes) refusal is in
    record {
      before = found.before;
      line = found.line;
      after = found.after;
      so_far = found.so_far;
      lines = found.cut;
      number = found.at;
      fine = found.fine;
      refused = found.refused;
    }

pub only_first : (decl : Declaration) (bytes : List ℕ) (refusal : Refusal) → IsFirstRefused decl bytes refusal
    → script_of decl bytes ≡ Err refusal
only_first decl bytes refusal h =
    ap (with_lines decl 1 empty_script) h.lines
    ∙ behind decl 1 empty_script h.so_far h.before (h.line ∷ h.after) h.fine
    ∙ ap (λ (r : Result Script LineKind). numbered (length h.before + 1) r >>=
    (λ more. with_lines decl (length h.before + 1 + 1) more h.after)) h.refused
    ∙ ap (λ (k : ℕ). let e : Result Script Refusal = Err (record { number = k; kind = refusal.kind }) in e)
    (sym h.number)

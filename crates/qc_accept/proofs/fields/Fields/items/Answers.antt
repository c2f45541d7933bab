use Rattle.std.proofs.Common.{◌≡◌, ◌++◌, Vec, Global, List, map, None, Ok, Err, ap, sym, ◌∙◌, inl, inr, arith}
use Rattle.std.specs.Prelude.{option_map}
use Rattle.std.specs.Borrow.{Bor}
use Rattle.toml.specs.Data.{Data}
use Rattle.toml.specs.View.{view, array_view}
use Rattle.toml.specs.declared.value.Value.{Value}
use Rattle.qc_accept.specs.declared.fault.DeclFault.{DeclFault}
use Rattle.qc_list.specs.Vocabulary.{and_then}
use Rattle.qc_accept.specs.Vocabulary.{Answer, items_between, path_in, told}
use Rattle.qc_accept.proofs.Tables.{items_within, items_outside, items_none}
use Rattle.qc_accept.proofs.fields.Fields.items.Goals as goal
use Rattle.qc_accept.proofs.fields.Fields.items.Goals.{in_default-via-in-Some+then-least-len+else-len-most}
use Rattle.qc_accept.proofs.fields.Fields.items.Goals.{in_default-via-in-Some+else-least-len, in_default-via-in_default}

pub returns-in-Some : goal.returns-in-Some
returns-in-Some c =
    ap (and_then (λ (d : Data). told (path_in c.args.self.now ++ c.args.key.now)
    (items_between c.args.least c.args.most d))) c.in_ok-required.ensures
    ∙ ap (told (path_in c.args.self.now ++ c.args.key.now))
    (items_within c.args.least c.args.most _ c.in-Some.items.now
    (sym (ap (option_map (λ (v : Bor (Vec Value Global)). array_view v.now)) c.in-Some.is) ∙ c.as_array.ensures)
    (omega (arith, c.len.ensures)) (omega arith))
    ∙ ap (λ (vs : List Value). let answer : Answer (List Data) = Ok (map view vs) in answer)
    (sym c.as_slice.ensures.value)

pub returns-in_default : goal.returns-in_default
returns-in_default c = λ known.
    let none : items_between c.args.least c.args.most (view c.in_ok-required.field-0.now) ≡ None =
    elim c.in_default.branch [
      | in_default-via-in-Some+then-least-len+else-len-most w ↦
          items_outside c.args.least c.args.most _ w.in-Some.items.now
          (sym (ap (option_map (λ (v : Bor (Vec Value Global)). array_view v.now)) w.in-Some.is) ∙ c.as_array.ensures)
          (inr (omega arith))
      | in_default-via-in-Some+else-least-len w ↦
          items_outside c.args.least c.args.most _ w.in-Some.items.now
          (sym (ap (option_map (λ (v : Bor (Vec Value Global)). array_view v.now)) w.in-Some.is) ∙ c.as_array.ensures)
          (inl (omega (arith, w.len.ensures)))
      | in_default-via-in_default w ↦
          items_none c.args.least c.args.most _
          (sym (ap (option_map (λ (v : Bor (Vec Value Global)). array_view v.now)) w.in_default.is)
          ∙ c.as_array.ensures)
    ] in
    ap (and_then (λ (d : Data). told (path_in c.args.self.now ++ c.args.key.now)
    (items_between c.args.least c.args.most d))) c.in_ok-required.ensures
    ∙ ap (told (path_in c.args.self.now ++ c.args.key.now)) none
    ∙ ap (λ (e : DeclFault). Err e) (sym (c.fault.ensures known))

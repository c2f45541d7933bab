-- When nothing is left to do in a phase.
use Rattle.std.specs.Prelude.{is_some, not}
use Rattle.std.proofs.Common.{◌≡◌, ℕ, zero, suc, ◌≤◌, Bool, true, false, ◌||◌, List, [], ◌∷◌, Option, Some, None, refl}
use Rattle.std.proofs.Common.{sym, ap, ◌∙◌, slice_get}
use Rattle.qc_decl.specs.Vocabulary.{actors}
use Rattle.qc_decl.specs.declared.declaration.Declaration.{Declaration}
use Rattle.qc_mailbox.specs.Vocabulary.{Inboxes, IsKept, picked_in, either}
use Rattle.qc_mailbox.specs.Picks as inboxes
use Rattle.qc_mailbox.proofs.Bounds.{trays_show_controls}
use Rattle.qc_mailbox.proofs.Picking.{none_picked, none_ready, picks_are_made_by_trays}
use Rattle.qc_mailbox.proofs.Passing.{held_either}
use Rattle.qc_msg.specs.declared.step.Control.{Control}
use Rattle.qc_msg.specs.Vocabulary.{Entry}
use Rattle.qc_script.specs.declared.script.Script.{Script}
use Rattle.qc_fabric.specs.Vocabulary.{IsStopped, has_any}
use Rattle.qc_link.specs.Vocabulary.{most_actors}

any_cons : (b : Bool) (bits : List Bool) → has_any (b ∷ bits) ≡ false → (b ≡ false) × (has_any bits ≡ false)
any_cons true bits e = absurd (let no : ⊥ = cc in no)
any_cons false bits e = (refl, e)

none_set : (bits : List Bool) → has_any bits ≡ false → (a : ℕ) → inboxes.is_held bits a ≡ false
none_set [] e a = refl
none_set (b ∷ bits) e zero = (any_cons b bits e).0
none_set (b ∷ bits) e (suc a) = none_set bits (any_cons b bits e).1 a

none_open : (bits : List Bool) → has_any bits ≡ false → (a : ℕ) → slice_get bits a ≡ Some true → ⊥
none_open [] e a is = absurd (let no : ⊥ = cc in no)
none_open (b ∷ bits) e zero is = let f : b ≡ false = (any_cons b bits e).0 in absurd (let no : ⊥ = cc in no)
none_open (b ∷ bits) e (suc a) is = none_open bits (any_cons b bits e).1 a is

no_bit : (bits : List Bool) → ((a : ℕ) → slice_get bits a ≡ Some true → ⊥) → has_any bits ≡ false
no_bit [] f = refl
no_bit (true ∷ bits) f = absurd (f 0 refl)
no_bit (false ∷ bits) f = no_bit bits (λ a is. f (suc a) is)

none_passed : (bits : List Bool) → has_any bits ≡ false → (a : ℕ) → inboxes.is_held (either bits bits) a ≡ false
none_passed bits e a =
    let clear : inboxes.is_held bits a ≡ false = none_set bits e a in
    held_either bits bits a ∙ (λ i. (clear i) || (clear i))

nothing_first : (cs : List Control) → slice_get cs 0 ≡ None → cs ≡ []
nothing_first [] e = refl
nothing_first (c ∷ cs) e = absurd (let no : ⊥ = cc in no)

pub stops : (decl : Declaration) (script : Script) (h : List Entry) (inputs : List Bool) (kept : Inboxes)
    → IsKept script h kept → actors decl ≤ most_actors
    → has_any inputs ≡ false → slice_get kept.controls 0 ≡ None → picked_in decl (either inputs inputs) kept ≡ None
    → IsStopped decl script h inputs
stops decl script h inputs kept is few none control picks =
    let nobody : inboxes.picked decl script (either inputs inputs) h ≡ None =
    sym (picks_are_made_by_trays decl script (either inputs inputs) h kept is few) ∙ picks in
    record {
      none_open = none_open inputs none;
      none_left = sym (trays_show_controls script h kept is) ∙ nothing_first kept.controls control;
      none_ready = λ a low. none_ready decl script (either inputs inputs) h nobody a low (none_passed inputs none a);
    }

pub stopped_inputs : (decl : Declaration) (script : Script) (h : List Entry) (inputs : List Bool)
    → IsStopped decl script h inputs → has_any inputs ≡ false
stopped_inputs decl script h inputs s = no_bit inputs s.none_open

pub stopped_controls : (decl : Declaration) (script : Script) (h : List Entry) (inputs : List Bool) (kept : Inboxes)
    → IsKept script h kept → IsStopped decl script h inputs → slice_get kept.controls 0 ≡ None
stopped_controls decl script h inputs kept is s =
    ap (λ (cs : List Control). slice_get cs 0) (trays_show_controls script h kept is ∙ s.none_left)

pub stopped_picks : (decl : Declaration) (script : Script) (h : List Entry) (inputs : List Bool) (kept : Inboxes)
    → IsKept script h kept → actors decl ≤ most_actors → IsStopped decl script h inputs
    → picked_in decl (either inputs inputs) kept ≡ None
stopped_picks decl script h inputs kept is few s =
    picks_are_made_by_trays decl script (either inputs inputs) h kept is few
    ∙ none_picked decl script (either inputs inputs) h (λ a low clear. s.none_ready a low)

-- tests of options

pub is_nothing : {A : Type 0} (o : Option A) (b : Bool) → is_some o ≡ not b → b ≡ true → o ≡ None
is_nothing None b e is = refl
is_nothing (Some x) b e is = let f : true ≡ not true = e ∙ ap not is in absurd (let no : ⊥ = cc in no)

pub was_nothing : {A : Type 0} (o : Option A) (b : Bool) → is_some o ≡ not b → o ≡ None → b ≡ true
was_nothing o true e is = refl
was_nothing o false e is = let f : false ≡ true = sym (ap is_some is) ∙ e in absurd (let no : ⊥ = cc in no)

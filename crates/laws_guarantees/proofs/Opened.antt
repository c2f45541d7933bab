-- An actor with an open input: its last deed is that it took it.
use Rattle.std.proofs.Common.{◌≡◌, ℕ, Bool, true, false, List, [], ◌∷◌, ◌++◌, Some, slice_get, refl}
use Rattle.qc_core.specs.Vocabulary.{Acts, IsLawful, MayTake, posts, starts, takes}
use Rattle.qc_decl.specs.declared.declaration.Declaration.{Declaration}
use Rattle.qc_msg.specs.declared.step.Input.{Input}
use Rattle.qc_msg.specs.Vocabulary.{Deed, Entry, Takes, deeds}
use Rattle.qc_script.specs.Vocabulary.{Runs}
use Rattle.qc_script.specs.declared.script.Script.{Script}
use Rattle.laws_turns.specs.Vocabulary.{ActsIn}
use Rattle.laws_turns.proofs.Acted.{actors_take_and_post_by_turns}

pub record IsAtTake (decl : Declaration) (a : ℕ) (ds : List Deed) : Type 0 where
  pub before : List Deed
  pub given : Input
  pub is : ds ≡ before ++ Takes given ∷ []
  pub above : ℕ
  pub acts : Acts decl a before false above
  pub may : MayTake before given

abbrev At : Declaration → ℕ → List Deed → Bool → Type 0
At decl a ds true = IsAtTake decl a ds
At decl a ds false = Unit {0}

pub at_take : (decl : Declaration) (a : ℕ) (ds : List Deed) (b : Bool) (n : ℕ) → Acts decl a ds b n → At decl a ds b
at_take decl a ds b n starts = tt
at_take decl a ds b n (takes before g m done may) =
    record { before = before; given = g; is = refl; above = m; acts = done; may = may }
at_take decl a ds b n (posts before turn m first done above lawful) = tt

pub opened : (decl : Declaration) (script : Script) (h : List Entry) (open_inputs : List Bool)
    → Runs (IsLawful decl) decl script h open_inputs → (a : ℕ) → slice_get open_inputs a ≡ Some true
    → IsAtTake decl a (deeds a [] h)
opened decl script h open_inputs run a is =
    let r : ActsIn decl a h true = actors_take_and_post_by_turns decl script h open_inputs run a true is in
    at_take decl a (deeds a [] h) true r.above r.acts

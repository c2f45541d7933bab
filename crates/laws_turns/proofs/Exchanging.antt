-- Where commands and replies are in order, nobody falls and no command runs in the end, each command is answered.
use Rattle.std.proofs.Common.{◌≡◌, Bool, true, false, List, [], ◌∷◌, ◌++◌, Option, Some, None, is_some, refl, ap}
use Rattle.std.proofs.Common.{◌∙◌}
use Rattle.std.specs.Prelude.{fold, option_to_list}
use Rattle.std.specs.List.{filter_map}
use Rattle.std.proofs.lemmas.List.Sums.{fold-append}
use Rattle.qc_core.specs.Vocabulary.{AreSteady, is_running, runs_at}
use Rattle.qc_msg.specs.declared.step.Command.{Command}
use Rattle.qc_msg.specs.declared.step.Input.TheVariants as inputs
use Rattle.qc_msg.specs.Vocabulary.{Deed, Falls, Rises, Sends, Takes, Tells, Writes}
use Rattle.laws_turns.specs.Vocabulary.{AreAnswered, AreInOrder, call_in, exchanges, exchanges_from}

one_more : (before : List Deed) (d : Deed) (running : Bool) → is_running before ≡ running
    → is_running (before ++ d ∷ []) ≡ runs_at running d
one_more before d running is = fold-append runs_at false before (d ∷ []) ∙ ap (λ (r : Bool). runs_at r d) is

none_both : {A : Type 0} (r : Bool) → r ≡ true → r ≡ false → A
none_both r is not = absurd (let never : ⊥ = cc in never)

answered_from : (before : List Deed) (running : Option Command) (ds : List Deed) → is_running before ≡ is_some running
    → AreInOrder before ds → AreSteady ds
    → fold runs_at (is_some running) ds ≡ false
    → AreAnswered (option_to_list running ++ filter_map call_in ds) (exchanges_from running ds)
answered_from before None [] is order up idle = tt
answered_from before (Some c) [] is order up idle = absurd (let never : ⊥ = cc in never)
answered_from before None (Takes (inputs.Called command) ∷ ds) is order up idle =
    answered_from (before ++ Takes (inputs.Called command) ∷ []) (Some command) ds
    (one_more before (Takes (inputs.Called command)) false is) order.1 up.1 idle
answered_from before (Some c) (Takes (inputs.Called command) ∷ ds) is order up idle =
    none_both (is_running before) is order.0
answered_from before running (Takes (inputs.Got envelope) ∷ ds) is order up idle =
    answered_from (before ++ Takes (inputs.Got envelope) ∷ []) running ds
    (one_more before (Takes (inputs.Got envelope)) (is_some running) is) order.1 up.1 idle
answered_from before running (Takes (inputs.Lost number) ∷ ds) is order up idle =
    answered_from (before ++ Takes (inputs.Lost number) ∷ []) running ds
    (one_more before (Takes (inputs.Lost number)) (is_some running) is) order.1 up.1 idle
answered_from before running (Writes written ∷ ds) is order up idle =
    answered_from (before ++ Writes written ∷ []) running ds
    (one_more before (Writes written) (is_some running) is) order.1 up.1 idle
answered_from before running (Sends number to message ∷ ds) is order up idle =
    answered_from (before ++ Sends number to message ∷ []) running ds
    (one_more before (Sends number to message) (is_some running) is) order.1 up.1 idle
answered_from before None (Tells reply ∷ ds) is order up idle = none_both (is_running before) order.0 is
answered_from before (Some c) (Tells reply ∷ ds) is order up idle = (
  (reply, refl),
  answered_from (before ++ Tells reply ∷ []) None ds
      (one_more before (Tells reply) true is) order.1 up.1 idle,
)
answered_from before running (Falls cause pending ∷ ds) is order up idle = absurd up.0
answered_from before running (Rises records ∷ ds) is order up idle = absurd up.0

pub answered : (ds : List Deed) → AreInOrder [] ds → AreSteady ds → is_running ds ≡ false
    → AreAnswered (filter_map call_in ds) (exchanges ds)
answered ds order up idle = answered_from [] None ds refl order up idle

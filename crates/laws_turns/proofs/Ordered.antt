-- In each run the commands and the replies of each actor are in order, and each command has its reply but the one that
-- runs.
use Rattle.std.proofs.Common.{◌≡◌, ℕ, ◌+◌, nat_lt, Bool, true, false, List, [], length, Some, slice_get, refl, sym}
use Rattle.std.proofs.Common.{subst}
use Rattle.std.proofs.lemmas.Bool.{ltb-false, ltb-true}
use Rattle.qc_core.specs.Vocabulary.{IsLawful, is_running}
use Rattle.qc_decl.specs.declared.declaration.Declaration.{Declaration}
use Rattle.qc_decl.specs.Vocabulary.{actors}
use Rattle.qc_msg.specs.Vocabulary.{Deed, Entry, deeds}
use Rattle.qc_script.specs.Vocabulary.{Runs}
use Rattle.qc_script.specs.declared.script.Script.{Script}
use Rattle.laws_turns.specs.Vocabulary.{ActsIn, AreInOrder, calls_of, replies_of}
use Rattle.laws_turns.proofs.Acted.{has_entry, others_do_nothing, actors_take_and_post_by_turns}
use Rattle.laws_turns.proofs.Replying.{acts_ordered, all_counted, open_commands}
use Rattle.laws_turns.proofs.Up.{run_up}

module _ (decl : Declaration) (script : Script) (h : List Entry) (open_inputs : List Bool)
    (run : Runs (IsLawful decl) decl script h open_inputs) (a : ℕ) where
  pub replies_answer_commands : AreInOrder [] (deeds a [] h)
  replies_answer_commands = by (nat_lt a (actors decl)) refl
    where
      at : (t : Bool) × (slice_get open_inputs a ≡ Some t) → AreInOrder [] (deeds a [] h)
      at place =
          let r : ActsIn decl a h place.0 =
          actors_take_and_post_by_turns decl script h open_inputs run a place.0 place.1 in
          acts_ordered decl a (deeds a [] h) place.0 r.above r.acts

      by : (t : Bool) → nat_lt a (actors decl) ≡ t → AreInOrder [] (deeds a [] h)
      by true is = at (has_entry (IsLawful decl) decl script h open_inputs run a (ltb-true a (actors decl) is))
      by false is = subst (λ (ds : List Deed). AreInOrder [] ds)
          (sym (others_do_nothing (IsLawful decl) decl script h open_inputs run a (ltb-false a (actors decl) is))) tt

  pub calls_are_replied : length (calls_of a h) ≡ length (replies_of a h) + open_commands (is_running (deeds a [] h))
  calls_are_replied =
      all_counted (deeds a [] h) replies_answer_commands (run_up (IsLawful decl) decl script h open_inputs run a)

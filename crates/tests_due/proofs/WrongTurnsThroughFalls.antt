-- None of these is by turns: falls and rises.
use Rattle.std.proofs.Common.{◌≡◌, true, false, []}
use Rattle.qc_decl.specs.Vocabulary.{is_site, three}
use Rattle.qc_msg.specs.Vocabulary.{deeds}
use Rattle.qc_promise.specs.Vocabulary.{AreByTurns}
use Rattle.tests_due.specs.WrongTurnsThroughFalls as wrong_turns_through_falls

pub takes_while_down_refused : AreByTurns (is_site three 0) (deeds 0 [] wrong_turns_through_falls.takes_while_down) → ⊥
takes_while_down_refused is = let fails : false ≡ true = is in let never : ⊥ = cc in never

pub loses_while_down_refused : AreByTurns (is_site three 3) (deeds 3 [] wrong_turns_through_falls.loses_while_down) → ⊥
loses_while_down_refused is = let fails : false ≡ true = is in let never : ⊥ = cc in never

pub writes_while_down_refused : AreByTurns (is_site three 0) (deeds 0 [] wrong_turns_through_falls.writes_while_down)
    → ⊥
writes_while_down_refused is = let fails : false ≡ true = is in let never : ⊥ = cc in never

pub sends_while_down_refused : AreByTurns (is_site three 0) (deeds 0 [] wrong_turns_through_falls.sends_while_down) → ⊥
sends_while_down_refused is = let fails : false ≡ true = is in let never : ⊥ = cc in never

pub tells_while_down_refused : AreByTurns (is_site three 3) (deeds 3 [] wrong_turns_through_falls.tells_while_down) → ⊥
tells_while_down_refused is = let fails : false ≡ true = is in let never : ⊥ = cc in never

pub begins_while_down_refused : AreByTurns (is_site three 3) (deeds 3 [] wrong_turns_through_falls.begins_while_down)
    → ⊥
begins_while_down_refused is = let fails : false ≡ true = is in let never : ⊥ = cc in never

pub falls_within_its_post_refused : AreByTurns (is_site three 0)
    (deeds 0 [] wrong_turns_through_falls.falls_within_its_post) → ⊥
falls_within_its_post_refused is = let fails : false ≡ true = is in let never : ⊥ = cc in never

pub stops_once_it_sent_refused : AreByTurns (is_site three 0) (deeds 0 [] wrong_turns_through_falls.stops_once_it_sent)
    → ⊥
stops_once_it_sent_refused is = let fails : false ≡ true = is in let never : ⊥ = cc in never

pub falls_untold_refused : AreByTurns (is_site three 3) (deeds 3 [] wrong_turns_through_falls.falls_untold) → ⊥
falls_untold_refused is = let fails : false ≡ true = is in let never : ⊥ = cc in never

pub falls_though_committed_refused : AreByTurns (is_site three 3)
    (deeds 3 [] wrong_turns_through_falls.falls_though_committed) → ⊥
falls_though_committed_refused is = let fails : false ≡ true = is in let never : ⊥ = cc in never

pub falls_with_nothing_to_write_refused : AreByTurns (is_site three 0)
    (deeds 0 [] wrong_turns_through_falls.falls_with_nothing_to_write) → ⊥
falls_with_nothing_to_write_refused is = let fails : false ≡ true = is in let never : ⊥ = cc in never

pub falls_with_a_rise_refused : AreByTurns (is_site three 0) (deeds 0 [] wrong_turns_through_falls.falls_with_a_rise)
    → ⊥
falls_with_a_rise_refused is = let fails : false ≡ true = is in let never : ⊥ = cc in never

pub crashes_with_a_record_refused : AreByTurns (is_site three 0)
    (deeds 0 [] wrong_turns_through_falls.crashes_with_a_record) → ⊥
crashes_with_a_record_refused is = let fails : false ≡ true = is in let never : ⊥ = cc in never

pub crashes_while_down_refused : AreByTurns (is_site three 0) (deeds 0 [] wrong_turns_through_falls.crashes_while_down)
    → ⊥
crashes_while_down_refused is = let fails : false ≡ true = is in let never : ⊥ = cc in never

pub rises_while_up_refused : AreByTurns (is_site three 0) (deeds 0 [] wrong_turns_through_falls.rises_while_up) → ⊥
rises_while_up_refused is = let fails : false ≡ true = is in let never : ⊥ = cc in never

pub rises_once_called_refused : AreByTurns (is_site three 3) (deeds 3 [] wrong_turns_through_falls.rises_once_called)
    → ⊥
rises_once_called_refused is = let fails : false ≡ true = is in let never : ⊥ = cc in never

pub life_twice_refused : AreByTurns (is_site three 0) (deeds 0 [] wrong_turns_through_falls.life_twice) → ⊥
life_twice_refused is = let fails : false ≡ true = is in let never : ⊥ = cc in never

pub life_never_refused : AreByTurns (is_site three 0) (deeds 0 [] wrong_turns_through_falls.life_never) → ⊥
life_never_refused is = let fails : false ≡ true = is in let never : ⊥ = cc in never

pub rises_with_another_record_refused : AreByTurns (is_site three 0)
    (deeds 0 [] wrong_turns_through_falls.rises_with_another_record) → ⊥
rises_with_another_record_refused is = let fails : false ≡ true = is in let never : ⊥ = cc in never

pub unknown_after_a_message_refused : AreByTurns (is_site three 3)
    (deeds 3 [] wrong_turns_through_falls.unknown_after_a_message) → ⊥
unknown_after_a_message_refused is = let fails : false ≡ true = is in let never : ⊥ = cc in never

pub unknown_after_a_record_refused : AreByTurns (is_site three 3)
    (deeds 3 [] wrong_turns_through_falls.unknown_after_a_record) → ⊥
unknown_after_a_record_refused is = let fails : false ≡ true = is in let never : ⊥ = cc in never

-- None of these is by turns, and nobody falls; and no client is told a fault.
use Rattle.std.proofs.Common.{◌≡◌, true, false, [], Option, Some}
use Rattle.qc_decl.specs.Vocabulary.{is_site, three}
use Rattle.qc_msg.specs.declared.reply.Reply.{Reply}
use Rattle.qc_msg.specs.declared.reply.Reply.TheVariants as replies
use Rattle.qc_msg.specs.Vocabulary.{deeds}
use Rattle.qc_promise.specs.Vocabulary.{AreByTurns, AreRepliesDue}
use Rattle.tests_due.proofs.Places.{due_at}
use Rattle.tests_due.specs.WrongTurns as wrong_turns

pub posts_before_an_input_refused : AreByTurns (is_site three 0) (deeds 0 [] wrong_turns.posts_before_an_input) → ⊥
posts_before_an_input_refused is = let fails : false ≡ true = is in let never : ⊥ = cc in never

pub record_after_its_message_refused : AreByTurns (is_site three 0) (deeds 0 [] wrong_turns.record_after_its_message)
    → ⊥
record_after_its_message_refused is = let fails : false ≡ true = is in let never : ⊥ = cc in never

pub record_after_its_decision_refused : AreByTurns (is_site three 3) (deeds 3 [] wrong_turns.record_after_its_decision)
    → ⊥
record_after_its_decision_refused is = let fails : false ≡ true = is in let never : ⊥ = cc in never

pub two_records_refused : AreByTurns (is_site three 0) (deeds 0 [] wrong_turns.two_records) → ⊥
two_records_refused is = let fails : false ≡ true = is in let never : ⊥ = cc in never

pub life_unrisen_refused : AreByTurns (is_site three 0) (deeds 0 [] wrong_turns.life_unrisen) → ⊥
life_unrisen_refused is = let fails : false ≡ true = is in let never : ⊥ = cc in never

pub reply_twice_refused : AreByTurns (is_site three 3) (deeds 3 [] wrong_turns.reply_twice) → ⊥
reply_twice_refused is = let fails : false ≡ true = is in let never : ⊥ = cc in never

pub posts_after_its_reply_refused : AreByTurns (is_site three 3) (deeds 3 [] wrong_turns.posts_after_its_reply) → ⊥
posts_after_its_reply_refused is = let fails : false ≡ true = is in let never : ⊥ = cc in never

pub unknown_without_a_fall_refused : AreByTurns (is_site three 3) (deeds 3 [] wrong_turns.unknown_without_a_fall) → ⊥
unknown_without_a_fall_refused is = let fails : false ≡ true = is in let never : ⊥ = cc in never

fault_differs : ◌≡◌ {A = Option Reply} (Some replies.NoTransaction) (Some replies.Fault) → ⊥
fault_differs e = let never : ⊥ = cc in never

pub fault_without_a_fall_refused : AreRepliesDue three 0 (deeds 3 [] wrong_turns.fault_without_a_fall) → ⊥
fault_without_a_fall_refused all = fault_differs (due_at 1 three 0 (deeds 3 [] wrong_turns.fault_without_a_fall) all).0

pub posts_after_a_fault_refused : AreByTurns (is_site three 6) (deeds 6 [] wrong_turns.posts_after_a_fault) → ⊥
posts_after_a_fault_refused is = let fails : false ≡ true = is in let never : ⊥ = cc in never

pub down_while_up_refused : AreByTurns (is_site three 3) (deeds 3 [] wrong_turns.down_while_up) → ⊥
down_while_up_refused is = let fails : false ≡ true = is in let never : ⊥ = cc in never

pub site_is_commanded_refused : AreByTurns (is_site three 0) (deeds 0 [] wrong_turns.site_is_commanded) → ⊥
site_is_commanded_refused is = let fails : false ≡ true = is in let never : ⊥ = cc in never

pub site_tells_a_reply_refused : AreByTurns (is_site three 0) (deeds 0 [] wrong_turns.site_tells_a_reply) → ⊥
site_tells_a_reply_refused is = let fails : false ≡ true = is in let never : ⊥ = cc in never

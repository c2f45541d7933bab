-- None of these is mailed.
use Rattle.std.proofs.Common.{◌≡◌, ℕ, Bool, true, false, []}
use Rattle.qc_promise.specs.Vocabulary.{IsMailed}
use Rattle.tests_due.proofs.Orders.{mail_at}
use Rattle.tests_due.specs.WrongMail as wrong_mail

pub another_number_refused : IsMailed [] wrong_mail.another_number → ⊥
another_number_refused all =
    let fails : ◌≡◌ {A = ℕ} 1 0 = mail_at 2 [] wrong_mail.another_number all in
    let never : ⊥ = cc in never

pub a_number_again_refused : IsMailed [] wrong_mail.a_number_again → ⊥
a_number_again_refused all =
    let fails : ◌≡◌ {A = ℕ} 0 1 = mail_at 3 [] wrong_mail.a_number_again all in
    let never : ⊥ = cc in never

pub another_copy_refused : IsMailed [] wrong_mail.another_copy → ⊥
another_copy_refused all =
    let fails : ◌≡◌ {A = ℕ} 0 1 = (mail_at 3 [] wrong_mail.another_copy all).0 in
    let never : ⊥ = cc in never

pub nothing_sent_refused : IsMailed [] wrong_mail.nothing_sent → ⊥
nothing_sent_refused all = mail_at 1 [] wrong_mail.nothing_sent all

pub strangers_answer_refused : IsMailed [] wrong_mail.strangers_answer → ⊥
strangers_answer_refused all =
    let fails : ◌≡◌ {A = ℕ} 0 1 = (mail_at 4 [] wrong_mail.strangers_answer all).1.1 in
    let never : ⊥ = cc in never

pub answer_to_another_refused : IsMailed [] wrong_mail.answer_to_another → ⊥
answer_to_another_refused all =
    let fails : ◌≡◌ {A = ℕ} 3 4 = (mail_at 5 [] wrong_mail.answer_to_another all).1.0.0 in
    let never : ⊥ = cc in never

pub answer_to_no_request_refused : IsMailed [] wrong_mail.answer_to_no_request → ⊥
answer_to_no_request_refused all =
    let fails : ◌≡◌ {A = Bool} false true = (mail_at 4 [] wrong_mail.answer_to_no_request all).1.0.1 in
    let never : ⊥ = cc in never

pub answer_to_nothing_refused : IsMailed [] wrong_mail.answer_to_nothing → ⊥
answer_to_nothing_refused all = (mail_at 5 [] wrong_mail.answer_to_nothing all).1.0

pub another_loss_refused : IsMailed [] wrong_mail.another_loss → ⊥
another_loss_refused all =
    let fails : ◌≡◌ {A = ℕ} 3 4 = (mail_at 3 [] wrong_mail.another_loss all).0 in
    let never : ⊥ = cc in never

pub loss_of_no_request_refused : IsMailed [] wrong_mail.loss_of_no_request → ⊥
loss_of_no_request_refused all =
    let fails : ◌≡◌ {A = Bool} false true = (mail_at 2 [] wrong_mail.loss_of_no_request all).1 in
    let never : ⊥ = cc in never

pub loss_of_nothing_refused : IsMailed [] wrong_mail.loss_of_nothing → ⊥
loss_of_nothing_refused all = mail_at 1 [] wrong_mail.loss_of_nothing all

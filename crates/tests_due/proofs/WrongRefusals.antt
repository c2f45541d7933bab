-- None of these is due: sites that refuse what they are to grant, or grant what they are to refuse.
use Rattle.std.proofs.Common.{◌≡◌, ℕ, [], Option, Some, ap}
use Rattle.qc_decl.specs.Vocabulary.{three}
use Rattle.qc_msg.specs.declared.message.Answer.{Answer}
use Rattle.qc_msg.specs.Vocabulary.{deeds}
use Rattle.qc_promise.specs.Vocabulary.{AreDue}
use Rattle.tests_histories.specs.Words.{tx}
use Rattle.tests_due.proofs.SitePlaces.{count_sends, first_answer, holder_told, site_due_at}
use Rattle.qc_msg.specs.declared.message.Answer.TheVariants as answers
use Rattle.qc_msg.specs.Vocabulary.{whole_grant}
use Rattle.tests_due.specs.WrongRefusals as wrong_refusals

stale_differs : ◌≡◌ {A = Option Answer} (Some answers.Stale) (Some (answers.Yes 0)) → ⊥
stale_differs e = let never : ⊥ = cc in never

pub stale_refused : AreDue three [] (deeds 0 [] wrong_refusals.stale) → ⊥
stale_refused all = stale_differs (ap first_answer (site_due_at 2 three [] (deeds 0 [] wrong_refusals.stale) all))

held_off_differs : ◌≡◌ {A = Option Answer} (Some (answers.Clash (tx 1 1) 0 3))
    (Some (answers.Granted (whole_grant 1 0 []))) → ⊥
held_off_differs e = let never : ⊥ = cc in never

pub held_off_refused : AreDue three [] (deeds 0 [] wrong_refusals.held_off) → ⊥
held_off_refused all =
    held_off_differs (ap first_answer (site_due_at 0 three [] (deeds 0 [] wrong_refusals.held_off) all))

lets_in_differs : ◌≡◌ {A = Option Answer} (Some (answers.Granted (whole_grant 1 0 [])))
    (Some (answers.Clash (tx 0 1) 0 3)) → ⊥
lets_in_differs e = let never : ⊥ = cc in never

pub lets_in_refused : AreDue three [] (deeds 1 [] wrong_refusals.lets_in) → ⊥
lets_in_refused all = lets_in_differs (ap first_answer (site_due_at 2 three [] (deeds 1 [] wrong_refusals.lets_in) all))

lets_append_in_differs : ◌≡◌ {A = Option Answer} (Some (answers.Granted (whole_grant 1 0 [])))
    (Some (answers.Clash (tx 0 1) 0 3)) → ⊥
lets_append_in_differs e = let never : ⊥ = cc in never

pub lets_append_in_refused : AreDue three [] (deeds 1 [] wrong_refusals.lets_append_in) → ⊥
lets_append_in_refused all =
    lets_append_in_differs (ap first_answer (site_due_at 2 three [] (deeds 1 [] wrong_refusals.lets_append_in) all))

keeps_out_differs : ◌≡◌ {A = Option Answer} (Some (answers.Clash (tx 0 1) 0 3))
    (Some (answers.Granted (whole_grant 1 0 []))) → ⊥
keeps_out_differs e = let never : ⊥ = cc in never

pub keeps_out_refused : AreDue three [] (deeds 1 [] wrong_refusals.keeps_out) → ⊥
keeps_out_refused all =
    keeps_out_differs (ap first_answer (site_due_at 3 three [] (deeds 1 [] wrong_refusals.keeps_out) all))

other_holder_differs : ◌≡◌ {A = ℕ} 2 0 → ⊥
other_holder_differs e = let never : ⊥ = cc in never

pub other_holder_refused : AreDue three [] (deeds 1 [] wrong_refusals.other_holder) → ⊥
other_holder_refused all =
    other_holder_differs (ap holder_told (site_due_at 2 three [] (deeds 1 [] wrong_refusals.other_holder) all))

asks_nobody_differs : ◌≡◌ {A = ℕ} 1 2 → ⊥
asks_nobody_differs e = let never : ⊥ = cc in never

pub asks_nobody_refused : AreDue three [] (deeds 1 [] wrong_refusals.asks_nobody) → ⊥
asks_nobody_refused all =
    asks_nobody_differs (ap count_sends (site_due_at 2 three [] (deeds 1 [] wrong_refusals.asks_nobody) all))

closed_differs : ◌≡◌ {A = Option Answer} (Some (answers.Closed 2)) (Some (answers.Granted (whole_grant 1 0 []))) → ⊥
closed_differs e = let never : ⊥ = cc in never

pub closed_refused : AreDue three [] (deeds 0 [] wrong_refusals.closed) → ⊥
closed_refused all = closed_differs (ap first_answer (site_due_at 0 three [] (deeds 0 [] wrong_refusals.closed) all))

behind_differs : ◌≡◌ {A = Option Answer} (Some (answers.Behind 0)) (Some (answers.Granted (whole_grant 1 0 []))) → ⊥
behind_differs e = let never : ⊥ = cc in never

pub behind_refused : AreDue three [] (deeds 0 [] wrong_refusals.behind) → ⊥
behind_refused all = behind_differs (ap first_answer (site_due_at 0 three [] (deeds 0 [] wrong_refusals.behind) all))

restarted_differs : ◌≡◌ {A = Option Answer} (Some (answers.Restarted 2)) (Some (answers.Yes 0)) → ⊥
restarted_differs e = let never : ⊥ = cc in never

pub restarted_refused : AreDue three [] (deeds 0 [] wrong_refusals.restarted) → ⊥
restarted_refused all =
    restarted_differs (ap first_answer (site_due_at 2 three [] (deeds 0 [] wrong_refusals.restarted) all))

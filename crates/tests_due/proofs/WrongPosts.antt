-- None of these is due: sites that answer or write something else than is due.
use Rattle.std.proofs.Common.{◌≡◌, ℕ, [], Option, Some, ap}
use Rattle.qc_decl.specs.Vocabulary.{three}
use Rattle.qc_msg.specs.declared.message.Answer.{Answer}
use Rattle.qc_msg.specs.Vocabulary.{deeds}
use Rattle.qc_promise.specs.Vocabulary.{AreDue}
use Rattle.tests_due.proofs.SitePlaces.{clock_granted, count_records, count_sends, first_answer, lines_granted}
use Rattle.tests_due.proofs.SitePlaces.{own_promised, site_due_at}
use Rattle.qc_msg.specs.declared.message.Answer.TheVariants as answers
use Rattle.qc_msg.specs.Vocabulary.{whole_grant}
use Rattle.tests_due.specs.WrongPosts as wrong_posts

promises_to_a_read_differs : ◌≡◌ {A = Option Answer} (Some (answers.Yes 0)) (Some (answers.Granted (whole_grant 1 0 [])))
    → ⊥
promises_to_a_read_differs e = let never : ⊥ = cc in never

pub promises_to_a_read_refused : AreDue three [] (deeds 0 [] wrong_posts.promises_to_a_read) → ⊥
promises_to_a_read_refused all =
    promises_to_a_read_differs
    (ap first_answer (site_due_at 0 three [] (deeds 0 [] wrong_posts.promises_to_a_read) all))

lines_left_out_differs : ◌≡◌ {A = ℕ} 0 1 → ⊥
lines_left_out_differs e = let never : ⊥ = cc in never

pub lines_left_out_refused : AreDue three [] (deeds 1 [] wrong_posts.lines_left_out) → ⊥
lines_left_out_refused all =
    lines_left_out_differs (ap lines_granted (site_due_at 7 three [] (deeds 1 [] wrong_posts.lines_left_out) all))

clock_left_behind_differs : ◌≡◌ {A = ℕ} 0 1 → ⊥
clock_left_behind_differs e = let never : ⊥ = cc in never

pub clock_left_behind_refused : AreDue three [] (deeds 1 [] wrong_posts.clock_left_behind) → ⊥
clock_left_behind_refused all =
    clock_left_behind_differs (ap clock_granted (site_due_at 7 three [] (deeds 1 [] wrong_posts.clock_left_behind) all))

answers_nobody_differs : ◌≡◌ {A = ℕ} 0 1 → ⊥
answers_nobody_differs e = let never : ⊥ = cc in never

pub answers_nobody_refused : AreDue three [] (deeds 0 [] wrong_posts.answers_nobody) → ⊥
answers_nobody_refused all =
    answers_nobody_differs (ap count_sends (site_due_at 0 three [] (deeds 0 [] wrong_posts.answers_nobody) all))

answers_twice_differs : ◌≡◌ {A = ℕ} 2 1 → ⊥
answers_twice_differs e = let never : ⊥ = cc in never

pub answers_twice_refused : AreDue three [] (deeds 0 [] wrong_posts.answers_twice) → ⊥
answers_twice_refused all =
    answers_twice_differs (ap count_sends (site_due_at 0 three [] (deeds 0 [] wrong_posts.answers_twice) all))

unkept_differs : ◌≡◌ {A = ℕ} 0 1 → ⊥
unkept_differs e = let never : ⊥ = cc in never

pub unkept_refused : AreDue three [] (deeds 0 [] wrong_posts.unkept) → ⊥
unkept_refused all = unkept_differs (ap count_records (site_due_at 2 three [] (deeds 0 [] wrong_posts.unkept) all))

kept_without_its_line_differs : ◌≡◌ {A = ℕ} 0 1 → ⊥
kept_without_its_line_differs e = let never : ⊥ = cc in never

pub kept_without_its_line_refused : AreDue three [] (deeds 0 [] wrong_posts.kept_without_its_line) → ⊥
kept_without_its_line_refused all =
    kept_without_its_line_differs
    (ap own_promised (site_due_at 2 three [] (deeds 0 [] wrong_posts.kept_without_its_line) all))

done_without_a_record_differs : ◌≡◌ {A = ℕ} 0 1 → ⊥
done_without_a_record_differs e = let never : ⊥ = cc in never

pub done_without_a_record_refused : AreDue three [] (deeds 0 [] wrong_posts.done_without_a_record) → ⊥
done_without_a_record_refused all =
    done_without_a_record_differs
    (ap count_records (site_due_at 5 three [] (deeds 0 [] wrong_posts.done_without_a_record) all))

done_though_aborted_differs : ◌≡◌ {A = ℕ} 1 0 → ⊥
done_though_aborted_differs e = let never : ⊥ = cc in never

pub done_though_aborted_refused : AreDue three [] (deeds 0 [] wrong_posts.done_though_aborted) → ⊥
done_though_aborted_refused all =
    done_though_aborted_differs
    (ap count_records (site_due_at 2 three [] (deeds 0 [] wrong_posts.done_though_aborted) all))

-- None of these is due: responses after Appends that lack what they are to carry.
use Rattle.std.proofs.Common.{◌≡◌, [], Option, Some, None}
use Rattle.qc_decl.specs.Vocabulary.{three}
use Rattle.qc_msg.specs.declared.reply.Reply.{Reply}
use Rattle.qc_msg.specs.Vocabulary.{deeds}
use Rattle.qc_promise.specs.Vocabulary.{AreRepliesDue}
use Rattle.tests_due.proofs.Places.{due_at}
use Rattle.qc_msg.specs.declared.reply.Reply.TheVariants as replies
use Rattle.tests_due.specs.WrongAppends as wrong_appends

new_line_left_out_differs : ◌≡◌ {A = Option Reply} None (Some (replies.Response 2)) → ⊥
new_line_left_out_differs e = let never : ⊥ = cc in never

pub new_line_left_out_refused : AreRepliesDue three 0 (deeds 3 [] wrong_appends.new_line_left_out) → ⊥
new_line_left_out_refused all =
    new_line_left_out_differs (due_at 7 three 0 (deeds 3 [] wrong_appends.new_line_left_out) all).0

earlier_line_left_out_differs : ◌≡◌ {A = Option Reply} None (Some (replies.Response 2)) → ⊥
earlier_line_left_out_differs e = let never : ⊥ = cc in never

pub earlier_line_left_out_refused : AreRepliesDue three 0 (deeds 3 [] wrong_appends.earlier_line_left_out) → ⊥
earlier_line_left_out_refused all =
    earlier_line_left_out_differs (due_at 13 three 0 (deeds 3 [] wrong_appends.earlier_line_left_out) all).0

view_left_out_differs : ◌≡◌ {A = Option Reply} None (Some (replies.Response 2)) → ⊥
view_left_out_differs e = let never : ⊥ = cc in never

pub view_left_out_refused : AreRepliesDue three 1 (deeds 4 [] wrong_appends.view_left_out) → ⊥
view_left_out_refused all = view_left_out_differs (due_at 13 three 1 (deeds 4 [] wrong_appends.view_left_out) all).0

one_append_granted_differs : ◌≡◌ {A = Option Reply} None (Some (replies.Response 2)) → ⊥
one_append_granted_differs e = let never : ⊥ = cc in never

pub one_append_granted_refused : AreRepliesDue three 0 (deeds 3 [] wrong_appends.one_append_granted) → ⊥
one_append_granted_refused all =
    one_append_granted_differs (due_at 5 three 0 (deeds 3 [] wrong_appends.one_append_granted) all).0

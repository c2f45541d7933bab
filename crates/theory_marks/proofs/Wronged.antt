-- They are computed.
use Rattle.std.proofs.Common.{◌≡◌, [], ◌∷◌, refl}
use Rattle.theory_marks.specs.Wrong.{in_line_order, line, overlapping, same_life, short_after_a_fall}

pub overlapping_reads_lose_lines : overlapping.log ≡ line 2 ∷ []
overlapping_reads_lose_lines = refl

pub marks_without_lives_lose_lines : same_life.log ≡ line 1 ∷ line 2 ∷ []
marks_without_lives_lose_lines = refl

pub counts_in_line_order_lose_lines : in_line_order.log ≡ line 2 ∷ line 3 ∷ []
counts_in_line_order_lose_lines = refl

pub short_appends_without_lives_lose_lines : short_after_a_fall ≡ line 2 ∷ []
short_appends_without_lives_lose_lines = refl

-- The run is one, and its messages are short.
use Rattle.std.proofs.Common.{◌≡◌, inl, inr, [], ◌∷◌, refl}
use Rattle.theory_marks.specs.Acts.{IsRun}
use Rattle.theory_marks.specs.Witnesses.{second_grant, short_append, three_reads, two_reads}
use Rattle.theory_marks.specs.Exchange.{log_granted}
use Rattle.theory_marks.specs.Wrong.{line}

two_run : IsRun two_reads
two_run = (
  (inl refl, refl),
  (
    (inl refl, record { current = refl; named = inr refl }),
    (
      refl,
      (
        (tt, tt),
        (
          (inl refl, refl),
          ((inl refl, record { current = refl; named = inl refl }), (refl, ((tt, tt), tt))),
        ),
      ),
    ),
  ),
)

pub reads_run : IsRun three_reads
reads_run = ((inl refl, refl), ((inl refl, record { current = refl; named = inl refl }), (refl, ((tt, tt), two_run))))

pub a_second_read_brings_one_line : log_granted second_grant ≡ line 2 ∷ []
a_second_read_brings_one_line = refl

pub lacked : short_append.lines ≡ line 3 ∷ []
lacked = refl

pub whole : short_append.view ≡ line 1 ∷ line 2 ∷ line 3 ∷ []
whole = refl

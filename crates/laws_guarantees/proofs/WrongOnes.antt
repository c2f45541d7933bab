-- The wrong histories are refused, each at its last reply.
use Rattle.std.proofs.Common.{◌≡◌, Some, None, refl, arith}
use Rattle.laws_guarantees.specs.Vocabulary.{CommitsSucceed, DosSucceed, IsOpenElsewhere, aborted, mine, others}
use Rattle.laws_guarantees.specs.Vocabulary.{refused, refused_for_ended, refused_for_new, refused_for_own, short}
use Rattle.laws_guarantees.specs.Vocabulary.{two_clients}

pub takes_refused : DosSucceed two_clients refused
takes_refused = (
  tt,
  (
    tt,
    (
      tt,
      (
        tt,
        (
          tt,
          (
            tt,
            (
              tt,
              (
                λ live room. record
                    { elsewhere = λ is. let never : ⊥ = cc in never; still = refl; earlier = refl },
                tt,
              ),
            ),
          ),
        ),
      ),
    ),
  ),
)

pub refuses_ended : DosSucceed two_clients refused_for_ended → ⊥
refuses_ended p =
    let e : IsOpenElsewhere two_clients 1 _ others = p.1.1.1.1.1.1.1.1.1.0 refl (omega arith) in
    let gone : None ≡ Some others = e.still in
    let never : ⊥ = cc in never

pub refuses_new : DosSucceed two_clients refused_for_new → ⊥
refuses_new p =
    let e : IsOpenElsewhere two_clients 1 _ others = p.1.1.1.1.1.1.0 refl (omega arith) in
    let late : None ≡ Some others = e.earlier in
    let never : ⊥ = cc in never

pub refuses_own : DosSucceed two_clients refused_for_own → ⊥
refuses_own p = let e : IsOpenElsewhere two_clients 1 _ mine = p.1.1.1.1.1.0 refl (omega arith) in e.elsewhere refl

pub refuses_short : DosSucceed two_clients short → ⊥
refuses_short p = p.1.1.1.1.0 refl (omega arith)

pub wrong_endings_are_refused : CommitsSucceed two_clients aborted → ⊥
wrong_endings_are_refused p = p.1.1.1.1.0 refl

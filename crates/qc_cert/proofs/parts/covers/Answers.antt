use Rattle.std.proofs.Common.{◌≡◌, ◌<◌, ◌^◌, ◌*◌, ◌/◌, ◌%◌, ℕ, Bool, true, false, refl, sym, ◌∙◌, arith}
use Rattle.qc_cert.specs.Vocabulary.{parts_within}
use Rattle.qc_cert.proofs.Shared.{none_looked}
use Rattle.qc_cert.proofs.parts.covers.Goals as goal

pub returns-else-covers_among : goal.returns-else-covers_among
returns-else-covers_among c = by c.covers_among-else-covers_among.result refl
  where
    high : ℕ
    high = 18446744073709551615 * 2 ^ (c.args.out * 11400714819323198485 % 18446744073709551616 / 4294967296 % 64) %
        18446744073709551616

    by : (b : Bool) → c.covers_among-else-covers_among.result ≡ b
        → c.covers_among-else-covers_among.result ≡ parts_within c.args.parts.now c.args.out
    by true e = e ∙ sym (c.covers_among-else-covers_among.ensures.some e)
    by false e =
        let fits : high < 2 ^ 64 = omega arith in
        e ∙ sym (none_looked c.args.parts.now c.args.out high c.requires c.ranges.out.fits fits
        (c.covers_among.ensures.none c.if-covers_among.false) (c.covers_among-else-covers_among.ensures.none e))

use Rattle.std.proofs.Common.{◌^◌, ◌<◌, get_or, arith}
use Rattle.qc_epoch.specs.Vocabulary.{site_set}
use Rattle.qc_admin.proofs.Bits.{below_16, bits_from}
use Rattle.qc_admin.proofs.installing.site_set.Goals as goal

pub overflow_shl-set : goal.overflow_shl-set
overflow_shl-set c =
    let sites = c.items-site-items.result.now in
    let more = bits_from sites c.loop-site.site-index 0 c.loop-site-test.true in
    let so_far = c.loop-site.invariant in
    let whole : site_set c.args.sites.now < 2 ^ 16 = c.requires in
    below_16 (get_or sites c.loop-site.site-index 0) (omega (arith, more, so_far, whole))

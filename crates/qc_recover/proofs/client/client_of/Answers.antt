use Rattle.std.proofs.Common.{ap, arith}
use Rattle.qc_recover.specs.Clients.{Kept, nothing_kept}
use Rattle.qc_recover.proofs.Lives.{client_lives}
use Rattle.qc_recover.proofs.client.client_of.Goals as goal

pub keep-requires : goal.keep-requires
keep-requires c =
    let lives = client_lives nothing_kept c.args.records.now in
    let is = ap (λ (k : Kept). k.life) c.in_ok-kept.ensures in
    omega arith

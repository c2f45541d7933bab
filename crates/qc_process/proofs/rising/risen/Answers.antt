use Rattle.std.proofs.Common.{◌≤◌, length, arith}
use Rattle.qc_fit.specs.Vocabulary.{most_records}
use Rattle.qc_process.proofs.Fit.{clients, few}
use Rattle.qc_process.proofs.rising.risen.Goals as goal

pub site_of-requires-clause-few : goal.site_of-requires-clause-few
site_of-requires-clause-few c =
    let low : length c.args.records.now ≤ most_records =
    few c.args.decl.now c.args.actor c.args.records.now c.requires.fit in
    omega (arith, low)

pub site_of-requires-clause-clients : goal.site_of-requires-clause-clients
site_of-requires-clause-clients c p there =
    clients c.args.decl.now c.args.actor c.args.records.now p c.requires.accepted c.requires.fit there

pub client_of-requires : goal.client_of-requires
client_of-requires c =
    let low : length c.args.records.now ≤ most_records =
    few c.args.decl.now c.args.actor c.args.records.now c.requires.fit in
    omega (arith, low)

use Rattle.std.proofs.Common.{◌≡◌, drop, fold}
use Rattle.qc_recover.specs.Admins.{keeps, kept_by}
use Rattle.qc_admin.proofs.rising.kept_by.Given as goal

abbrev pub invariant-records : goal.invariant-records
invariant-records l = fold keeps l.kept (drop l.rec-index l.records) ≡ kept_by l.records

use Rattle.std.proofs.Common.{◌<◌, ◌^◌}
use Rattle.qc_cert.proofs.parts.looks.Given as goal

abbrev pub invariant-turns : goal.invariant-turns
invariant-turns l = l.rest < 2 ^ 64

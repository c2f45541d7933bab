use Rattle.std.proofs.Common.{refl}
use Rattle.qc_client.proofs.Outcomes.{committed-stays, stands-aborted, stands-active, stands-committed}
use Rattle.qc_client.proofs.laws.outcomes_are_told.Goals as goal

pub returns : goal.returns
returns c = record {
  inquiry = λ decl c from number tx. refl;
  ask = λ decl c from number tx. refl;
  committed = stands-committed;
  active = stands-active;
  aborted = stands-aborted;
  stays = committed-stays;
}

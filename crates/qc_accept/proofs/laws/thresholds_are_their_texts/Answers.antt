use Rattle.qc_accept.proofs.Listing.{plan_listed}
use Rattle.qc_accept.proofs.laws.thresholds_are_their_texts.Goals as goal

pub returns : goal.returns
returns c = record {
  initial = λ path table store plan is. (plan_listed path table store plan is).0;
  last = λ path table store plan is. (plan_listed path table store plan is).1;
}

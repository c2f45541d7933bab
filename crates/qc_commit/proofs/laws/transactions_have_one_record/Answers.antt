use Rattle.qc_commit.proofs.Names.{all-named, names-new}
use Rattle.qc_commit.proofs.laws.transactions_have_one_record.Goals as goal

pub returns : goal.returns
returns c = record {
  unknown = all-named;
  named = λ client calls apart. all-named client calls (names-new client calls apart);
}

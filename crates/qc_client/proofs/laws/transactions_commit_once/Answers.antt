use Rattle.qc_client.proofs.Names.{all-well}
use Rattle.qc_client.proofs.laws.transactions_commit_once.Goals as goal

pub returns : goal.returns
returns c = record {
  apart = λ decl number inputs ready. (all-well decl number inputs ready).apart;
  begun = λ decl number inputs tx ready is. (all-well decl number inputs ready).unknown tx is;
}

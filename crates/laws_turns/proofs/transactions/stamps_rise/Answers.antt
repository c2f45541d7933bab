use Rattle.laws_turns.proofs.RecordLaws.{stamps_rise}
use Rattle.laws_turns.proofs.transactions.stamps_rise.Goals as goal

pub returns : goal.returns
returns c = stamps_rise

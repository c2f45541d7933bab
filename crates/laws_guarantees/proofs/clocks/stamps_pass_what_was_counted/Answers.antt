use Rattle.laws_guarantees.proofs.ClockLaw.{stamps_pass_what_was_counted}
use Rattle.laws_guarantees.proofs.clocks.stamps_pass_what_was_counted.Goals as goal

pub returns : goal.returns
returns f decl script h open_inputs a before after c clock run client is counted =
    stamps_pass_what_was_counted decl script h open_inputs run a client before after c clock is counted

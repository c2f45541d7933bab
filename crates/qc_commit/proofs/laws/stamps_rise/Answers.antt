use Rattle.qc_commit.specs.Vocabulary.{after_calls, new_desk}
use Rattle.qc_commit.proofs.Rising.{all-rise, clock-rises, stamps-apart}
use Rattle.qc_commit.proofs.laws.stamps_rise.Goals as goal

pub returns : goal.returns
returns c = record {
  rise = λ client calls. (all-rise client calls).rising;
  apart = λ client calls. stamps-apart (after_calls (new_desk client) calls).commits
      (after_calls (new_desk client) calls).clock.value client (all-rise client calls);
  clients = λ client calls. (all-rise client calls).clients;
  clock = clock-rises;
}

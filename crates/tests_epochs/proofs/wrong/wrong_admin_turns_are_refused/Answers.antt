use Rattle.tests_epochs.proofs.WrongAdminTurns as lemmas
use Rattle.tests_epochs.proofs.wrong.wrong_admin_turns_are_refused.Goals as goal

pub returns : goal.returns
returns c = record {
  fallen_untold = lemmas.fallen_untold_refused;
  life_between = lemmas.life_between_refused;
  installed_first = lemmas.installed_first_refused;
  down_while_up = lemmas.down_while_up_refused;
}

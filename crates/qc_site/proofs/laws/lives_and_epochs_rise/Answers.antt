use Rattle.qc_site.proofs.Rows.{closing_stays, epoch_rises, epoch_stays, life_rises, life_stays, number_stays}
use Rattle.qc_site.proofs.laws.lives_and_epochs_rise.Goals as goal

pub returns : goal.returns
returns c = record {
  number = number_stays;
  lives = life_rises;
  epochs = epoch_rises;
  life = λ decl s from number message closes installs. life_stays decl s from number message (closes, installs);
  epoch = λ decl s from number message closes installs. epoch_stays decl s from number message (closes, installs);
  closed_for = λ decl s from number message closes installs. closing_stays decl s from number message
      (closes, installs);
}

-- What runs, as the definitions of the administrator have it.
use Rattle.qc_epoch.specs.Admin as admins
use Rattle.qc_epoch.specs.Vocabulary.{Doing as Runs}
use Rattle.qc_admin.specs.declared.asking.Asking.{Asking as Asks}
use Rattle.qc_admin.specs.declared.closing.Closing.{Closing as Closes}
use Rattle.qc_admin.specs.declared.doing.Doing.{Doing}
use Rattle.qc_admin.specs.declared.doing.Doing.TheVariants.{Resting, Closing, Asking, Installing}
use Rattle.qc_admin.specs.declared.installing.Installing.{Installing as Installs}

abbrev pub closing_of : Closes → Runs
closing_of c = admins.Closing c.epoch c.calls c.round c.shuts

abbrev pub asking_of : Asks → Runs
asking_of a = admins.Asking a.epoch a.shuts a.questions

abbrev pub installing_of : Installs → Runs
installing_of i = admins.Installing i.closed i.awaited i.calls i.installed

abbrev pub doing_of : Doing → Runs
doing_of Resting = admins.Resting
doing_of (Closing c) = closing_of c
doing_of (Asking a) = asking_of a
doing_of (Installing i) = installing_of i

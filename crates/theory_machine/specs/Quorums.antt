-- What counted grants show of the sites' logs, and where they are of sites that weigh enough (weighted voting, Gifford
-- 1979).
use Rattle.std.specs.Prelude.{◌≡◌, ℕ, ◌≤◌, Bool, IsTrue, ◌==◌, ◌&&◌, if◌then◌else◌, List, [], ◌∷◌, ◌++◌, is_some}
use Rattle.qc_stamp.specs.declared.stamp.TxId.{TxId}
use Rattle.qc_entry.specs.declared.line.Line.{Line}
use Rattle.qc_entry.specs.declared.line.Op.{Op}
use Rattle.qc_entry.specs.declared.line.OwnLine.{OwnLine}
use Rattle.qc_entry.specs.declared.line.ReadLock.{ReadLock}
use Rattle.qc_plan.specs.Vocabulary.{weight}
use Rattle.qc_decl.specs.declared.declaration.Declaration.{Declaration}
pub use Rattle.qc_decl.specs.Vocabulary.{weights_of}
use Rattle.qc_list.specs.Vocabulary.{In}
use Rattle.theory_onecopy.specs.Vocabulary.{Executed, own_line}
use Rattle.theory_machine.specs.Site.{Item, Lock, site_after}
use Rattle.theory_machine.specs.State.{Granted}

-- what a grant shows its client: the site's lines of the objects on which it has a read lock
pub record Shows (g : Granted) (l : Line) : Type 0 where
  pub stands : In l (site_after g.before).volatile
  pub lock : ReadLock
  pub granted : In (Lock lock) g.items
  pub on : lock.object ≡ l.object

-- a line that a counted grant of tx shows
pub record IsShown (counted : List Granted) (tx : TxId) (l : Line) : Type 0 where
  pub grant : Granted
  pub counts : In grant counted
  pub its : grant.tx ≡ tx
  pub shows : Shows grant l

-- a counted grant of tx from a site, with the item
pub record HasGranted (counted : List Granted) (tx : TxId) (site : ℕ) (item : Item) : Type 0 where
  pub grant : Granted
  pub counts : In grant counted
  pub its : grant.tx ≡ tx
  pub from : grant.site ≡ site
  pub has : In item grant.items

-- sites that weigh enough granted the item to tx, and were counted
pub record HasQuorum (decl : Declaration) (epoch : ℕ) (counted : List Granted) (tx : TxId) (item : Item)
    (need : ℕ) : Type 0 where
  pub sites : ℕ → Bool
  pub enough : need ≤ weight sites (weights_of decl epoch)
  pub each : (site : ℕ) → IsTrue (sites site) → HasGranted counted tx site item

-- what a Read asks for
abbrev pub read_lock : Op → ReadLock
read_lock op = record { object = op.object; inv = op.inv }

-- the own lines of the operations with responses on an object
abbrev pub own_on : List Executed → ℕ → List OwnLine
own_on [] object = []
own_on (d ∷ ds) object =
    (if (d.op.object == object) && is_some d.op.resp then own_line d ∷ [] else []) ++ own_on ds object

-- What a site's deeds do to one transaction.
use Rattle.std.specs.Prelude.{◌≡◌, ◌≢◌, Bool, true, false, ◌||◌, List, [], ◌∷◌, ◌++◌, None}
use Rattle.qc_stamp.specs.declared.stamp.Stamp.{Stamp}
use Rattle.qc_stamp.specs.declared.stamp.TxId.{TxId}
use Rattle.qc_entry.specs.declared.line.Line.{Line}
use Rattle.qc_entry.specs.declared.line.OwnLine.{OwnLine}
use Rattle.qc_list.specs.Vocabulary.{In}
use Rattle.theory_onecopy.specs.Vocabulary.{committed_line}
use Rattle.qc_stamp.specs.Vocabulary.{same_tx}
use Rattle.theory_machine.specs.Site.{Item, Promise, Deed, Grants, Prepares, LearnsCommit, LearnsAbort, Closes}
use Rattle.theory_machine.specs.Site.{Installs, Rises, Site, items_of, promise_of, site_from}

-- records give what stands in the log, and a promise by which a transaction is prepared is kept
pub record SiteLaws (s : Site) : Type 0 where
  pub less : (l : Line) → In l s.stable → In l s.volatile
  pub prepared : (p : Promise) → In p s.prepared → In p s.promises

-- tx is spared by the deeds, where `is` says whether it is prepared: the held law's premises
abbrev pub Spares : TxId → Bool → List Deed → Type 0
Spares tx is [] = Unit {0}
Spares tx is (Grants u items view ∷ ds) = Spares tx is ds
Spares tx is (Prepares u ∷ ds) = Spares tx (is || same_tx tx u) ds
Spares tx is (LearnsCommit u stamp ∷ ds) = (u ≢ tx) × Spares tx is ds
Spares tx is (LearnsAbort u ∷ ds) = (u ≢ tx) × Spares tx is ds
Spares tx true (Closes ∷ ds) = Spares tx true ds
Spares tx false (Closes ∷ ds) = ⊥
Spares tx is (Installs k c log ∷ ds) = ⊥
Spares tx true (Rises ∷ ds) = Spares tx true ds
Spares tx false (Rises ∷ ds) = ⊥

-- the same, but a Done of tx may come once it is prepared, and then all is free
abbrev pub SparesUntilDone : TxId → Bool → List Deed → Type 0
SparesUntilDone tx is [] = Unit {0}
SparesUntilDone tx is (Grants u items view ∷ ds) = SparesUntilDone tx is ds
SparesUntilDone tx is (Prepares u ∷ ds) = SparesUntilDone tx (is || same_tx tx u) ds
SparesUntilDone tx true (LearnsCommit u stamp ∷ ds) = (u ≢ tx) → SparesUntilDone tx true ds
SparesUntilDone tx false (LearnsCommit u stamp ∷ ds) = (u ≢ tx) × SparesUntilDone tx false ds
SparesUntilDone tx is (LearnsAbort u ∷ ds) = (u ≢ tx) × SparesUntilDone tx is ds
SparesUntilDone tx true (Closes ∷ ds) = SparesUntilDone tx true ds
SparesUntilDone tx false (Closes ∷ ds) = ⊥
SparesUntilDone tx is (Installs k c log ∷ ds) = Unit {0}
SparesUntilDone tx true (Rises ∷ ds) = SparesUntilDone tx true ds
SparesUntilDone tx false (Rises ∷ ds) = ⊥

abbrev pub HaveNoInstall : List Deed → Type 0
HaveNoInstall [] = Unit {0}
HaveNoInstall (Installs k c log ∷ ds) = ⊥
HaveNoInstall (_ ∷ ds) = HaveNoInstall ds

-- whether tx is prepared after deeds that spare it
abbrev pub is_prepared_after : TxId → Bool → List Deed → Bool
is_prepared_after tx is [] = is
is_prepared_after tx is (Prepares u ∷ ds) = is_prepared_after tx (is || same_tx tx u) ds
is_prepared_after tx is (_ ∷ ds) = is_prepared_after tx is ds

-- the first Done of tx, after deeds that spare it
pub record HasDone (tx : TxId) (is : Bool) (ds : List Deed) : Type 0 where
  pub before : List Deed
  pub stamp : Stamp
  pub after : List Deed
  pub split : ds ≡ before ++ LearnsCommit tx stamp ∷ after
  pub spares : Spares tx is before
  pub prepared : is_prepared_after tx is before ≡ true

-- tx is prepared, and each Prepare record of it that counts has the item
pub record IsPromiseWith (tx : TxId) (item : Item) (prepared promises : List Promise) : Type 0 where
  pub by : Promise
  pub stands : In by prepared
  pub its : by.tx ≡ tx
  pub on_record : In by promises
  pub each : (p : Promise) → In p promises → p.tx ≡ tx → In item p.items

abbrev pub Phase : Bool → TxId → Item → List Promise → List Promise → Type 0
Phase false tx item prepared promises = promise_of tx prepared ≡ None
Phase true tx item prepared promises = IsPromiseWith tx item prepared promises

-- tx holds the item, and isn't prepared or is prepared with it
pub record Holds (is : Bool) (tx : TxId) (item : Item) (s : Site) : Type 0 where
  pub held : In item (items_of tx s.held)
  pub phase : Phase is tx item s.prepared s.promises

-- the first Done of tx stands in the deeds, and then the line is in the log
pub record IsLoggedAtDone (tx : TxId) (own : OwnLine) (ds : List Deed) (s : Site) : Type 0 where
  pub first : HasDone tx false ds
  pub line : In (committed_line first.stamp tx own) (site_from s ds).volatile

-- a Prepare record by which tx is prepared now, with the item
pub record IsPreparedWith (tx : TxId) (item : Item) (s : Site) : Type 0 where
  pub by : Promise
  pub stands : In by s.prepared
  pub its : by.tx ≡ tx
  pub has : In item by.items

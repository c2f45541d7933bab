-- The held law and the clock law: what a site owes to a grant that was counted, and what a stamp has passed
-- (two-phase locking, with locks that outlive falls once they are prepared; Lamport 1978 on clocks).
use Rattle.std.specs.Prelude.{◌≡◌, ℕ, ◌<◌, ◌⊎◌, List, ◌∷◌, ◌++◌}
use Rattle.qc_stamp.specs.declared.stamp.Stamp.{Stamp}
use Rattle.qc_stamp.specs.declared.stamp.TxId.{TxId}
use Rattle.qc_entry.specs.declared.line.Line.{Line}
use Rattle.qc_list.specs.Vocabulary.{In}
use Rattle.theory_machine.specs.Site.{Deed, DoneRecord, Grants, Installs, LearnsCommit, done_records, empty_site}
use Rattle.theory_machine.specs.Site.{site_after}
use Rattle.theory_machine.specs.State.{Granted, State, YesVote}

-- these are the deeds of its site since a grant
abbrev pub IsSince : State → Granted → List Deed → Type 0
IsSince now g since = now.deeds g.site ≡ g.before ++ Grants g.tx g.items g.view ∷ since

-- the site has the life of the grant still, or it has voted
abbrev pub IsBound : State → Granted → Type 0
IsBound now g = (now.life g.site ≡ g.life) ⊎ In {X = YesVote} (record { tx = g.tx; site = g.site }) now.votes

-- among these deeds is no verdict that the transaction committed, and no Install
pub record AreBeforeDone (tx : TxId) (since : List Deed) : Type 0 where
  pub done : (stamp : Stamp) → In (LearnsCommit tx stamp) since → ⊥
  pub installs : (epoch clock : ℕ) (log : List Line) → In (Installs epoch clock log) since → ⊥

-- a stamp's clock has passed a grant: its clock, and those of all lines, Done and Install records that its site had
pub record HasPassed (clock : ℕ) (g : Granted) : Type 0 where
  pub grant : g.clock < clock
  pub lines : (l : Line) → In l (site_after g.before).volatile → l.stamp.clock < clock
  pub done : (d : DoneRecord) → In d (done_records empty_site g.before) → d.stamp.clock < clock
  pub installs : (epoch at : ℕ) (log : List Line) → In (Installs epoch at log) g.before → at < clock

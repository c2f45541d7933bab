-- The net agrees with a state of the protocol's machine, and is thereby what a run of the machine may look like.
use Rattle.std.specs.Prelude.{◌≡◌, ◌≢◌, ℕ, ◌-◌, true, false, List, ◌++◌, Some, slice_get}
use Rattle.qc_stamp.specs.declared.stamp.TxId.{TxId}
use Rattle.qc_list.specs.Vocabulary.{In}
use Rattle.qc_entry.specs.declared.record.Commit.{Commit as CommitRecord}
use Rattle.qc_decl.specs.Vocabulary.{administrator, client_actor, is_client, is_site}
use Rattle.qc_decl.specs.declared.declaration.Declaration.{Declaration}
use Rattle.qc_lock.specs.Vocabulary.{is_held}
use Rattle.qc_msg.specs.declared.message.Envelope.{Envelope}
use Rattle.qc_front.specs.Vocabulary.{FrontHolds, IsNumbered}
use Rattle.theory_machine.specs.Vocabulary.{Act, Committed, Granted, IsRun, NotBegun, State, state}
use Rattle.qc_recover.specs.Admins as admin_records
use Rattle.qc_recover.specs.Clients as client_records
use Rattle.qc_recover.specs.Sites as site_records
use Rattle.laws_refinement.specs.Admins.{AdminMirrors, IsPendingRule, RulesMirror}
use Rattle.laws_refinement.specs.Clients.{ClientMirrors, FallenMirrors}
use Rattle.laws_refinement.specs.Messages.{Backed}
use Rattle.laws_refinement.specs.Net.{Net}
use Rattle.laws_refinement.specs.Sites.{IsKeptBy, IsPendingAt, KeptMirrors, SiteMirrors}

pub record Mirrors (decl : Declaration) (now : State) (net : Net) : Type 0 where
  -- only sites grant
  pub placed : (g : Granted) → In g now.granted → is_site decl g.site ≡ true
  -- each site that is up
  pub sites : (a : ℕ) → is_site decl a ≡ true → net.up a ≡ true
      → SiteMirrors decl (net.sites a) (now.deeds a) (now.life a)
  pub alike : (a : ℕ) → is_site decl a ≡ true → net.up a ≡ true
      → IsKeptBy (net.sites a) (site_records.kept_by (net.records a))
  -- what holds something at a site was begun
  pub holders : (a : ℕ) (t : TxId) → is_site decl a ≡ true → net.up a ≡ true → is_held (net.sites a).held t ≡ true
      → now.status t ≢ NotBegun
  -- the records of each site, and what is pending at one that is down
  pub kept : (a : ℕ) → is_site decl a ≡ true
      → KeptMirrors decl (site_records.kept_by (net.records a)) now.status (now.life a) (now.deeds a)
  pub pends : (a : ℕ) → is_site decl a ≡ true → net.up a ≡ false
      → IsPendingAt decl now (site_records.kept_by (net.records a)) (now.deeds a) (net.pending a)
  -- each client that is up, and each that is down
  pub clients : (a : ℕ) → is_client decl a ≡ true → net.up a ≡ true
      → ClientMirrors decl now net.mail a (net.clients a)
  pub fallen : (a : ℕ) → is_client decl a ≡ true → net.up a ≡ false
      → FallenMirrors now (a - decl.sites) (client_records.kept_by (net.records a)) (net.pending a)
  -- the administrator, if he is up; his records, and what is pending if he is down
  pub admin : net.up (administrator decl) ≡ true → AdminMirrors decl now net.mail net.admin
  pub rules : RulesMirror decl now (admin_records.kept_by (net.records (administrator decl)))
  pub decides : net.up (administrator decl) ≡ false → IsPendingRule decl now (net.pending (administrator decl))
  -- each message is backed, and stands at its number
  pub mail : (e : Envelope) → In e net.mail → Backed decl now net.mail e.from e.to e.message
  pub numbered : (e : Envelope) → In e net.mail → slice_get net.mail e.number ≡ Some e
  -- the records that were written are the machine's
  pub records : (r : CommitRecord) → In r net.written → In r now.records
  pub written : (r : CommitRecord) → In r now.records → In r net.written
  -- each is a client's, of a transaction that committed by it
  pub of_client : (r : CommitRecord) → In r now.records → is_client decl (client_actor decl r.tx.client) ≡ true
  pub settled : (t : TxId) (r : CommitRecord) → now.status t ≡ Committed r → In r now.records

-- acts of the machine whose state agrees with the net
pub record RefinesBy (decl : Declaration) (acts : List Act) (net : Net) : Type 0 where
  pub run : IsRun decl acts
  pub agrees : Mirrors decl (state acts) net

-- after some acts more, or none, the machine agrees with the net
pub record Continues (decl : Declaration) (acts : List Act) (net : Net) : Type 0 where
  pub more : List Act
  pub refines : RefinesBy decl (more ++ acts) net

-- some run of the machine agrees with the net
pub record Refines (decl : Declaration) (net : Net) : Type 0 where
  pub acts : List Act
  pub run : IsRun decl acts
  pub agrees : Mirrors decl (state acts) net

-- what holds of each front end between two of its steps
pub record FrontStands (decl : Declaration) (net : Net) (a : ℕ) : Type 0 where
  pub holds : FrontHolds decl (net.clients a).front
  pub numbered : IsNumbered (net.clients a).front.doing

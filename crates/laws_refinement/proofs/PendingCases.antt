-- What a site's journal gives with one record more, and what may stand in a journal as an actor is down, of a site, a
-- client or the administrator, case by case.
use Rattle.std.proofs.Common.{◌≡◌, ◌<◌, ℕ, List, Option, Some, None}
use Rattle.qc_stamp.specs.declared.stamp.TxId.{TxId}
use Rattle.qc_entry.specs.declared.record.Commit.{Commit as CommitRecord}
use Rattle.qc_entry.specs.declared.record.Prepared.{Prepared}
use Rattle.qc_decl.specs.declared.declaration.Declaration.{Declaration}
use Rattle.qc_msg.specs.declared.payload.EpochStart.{EpochStart}
use Rattle.qc_msg.specs.declared.record.Record.{Record}
use Rattle.qc_msg.specs.declared.record.Record.TheVariants as records
use Rattle.theory_machine.specs.Vocabulary.{Deed, MayCommit, State}
use Rattle.qc_recover.specs.Vocabulary.{Kept, keeps}
use Rattle.laws_refinement.specs.Vocabulary.{IsClosing, IsDecided, IsDeciding, IsFinishing, IsPendingAt, IsPendingBy}
use Rattle.laws_refinement.specs.Vocabulary.{IsPendingRule, IsPreparing}

pub kept_cases : (k : Kept) (P : Record → Kept → Type 0) → P records.Life (keeps k records.Life)
    → ((p : Prepared) → P (records.Prepare p) (keeps k (records.Prepare p)))
    → ((tx : TxId) (clock : ℕ) → P (records.Done tx clock) (keeps k (records.Done tx clock)))
    → ((epoch : ℕ) → P (records.Close epoch) (keeps k (records.Close epoch)))
    → ((start : EpochStart) → P (records.Install start) (keeps k (records.Install start)))
    → ((r : Record) → P r k) → (r : Record) → P r (keeps k r)
kept_cases k P rose prepares finishes closes installs rest records.Life = rose
kept_cases k P rose prepares finishes closes installs rest (records.Prepare p) = prepares p
kept_cases k P rose prepares finishes closes installs rest (records.Done tx clock) = finishes tx clock
kept_cases k P rose prepares finishes closes installs rest (records.Close epoch) = closes epoch
kept_cases k P rose prepares finishes closes installs rest (records.Install start) = installs start
kept_cases k P rose prepares finishes closes installs rest (records.Commit commit) = rest (records.Commit commit)
kept_cases k P rose prepares finishes closes installs rest (records.Decide start) = rest (records.Decide start)

pub site_pends : (decl : Declaration) (w : State) (k : Kept) (ds : List Deed) (P : Option Record → Type 0)
    → P None → P (Some records.Life)
    → ((p : Prepared) → IsPreparing w k ds p → P (Some (records.Prepare p)))
    → ((tx : TxId) (clock : ℕ) → IsFinishing w k ds tx clock → P (Some (records.Done tx clock)))
    → ((epoch : ℕ) → IsClosing decl k.epoch (Some epoch) → P (Some (records.Close epoch)))
    → ((start : EpochStart) → IsDecided decl w start.epoch start.clock start.lines × (k.epoch < start.epoch)
    → P (Some (records.Install start)))
    → (o : Option Record) → IsPendingAt decl w k ds o → P o
site_pends decl w k ds P none rose prepares finishes closes installs None h = none
site_pends decl w k ds P none rose prepares finishes closes installs (Some records.Life) h = rose
site_pends decl w k ds P none rose prepares finishes closes installs (Some (records.Prepare p)) h = prepares p h
site_pends decl w k ds P none rose prepares finishes closes installs (Some (records.Done tx clock)) h =
    finishes tx clock h
site_pends decl w k ds P none rose prepares finishes closes installs (Some (records.Close epoch)) h = closes epoch h
site_pends decl w k ds P none rose prepares finishes closes installs (Some (records.Install start)) h =
    installs start h
site_pends decl w k ds P none rose prepares finishes closes installs (Some (records.Commit commit)) h = absurd h
site_pends decl w k ds P none rose prepares finishes closes installs (Some (records.Decide start)) h = absurd h

pub client_pends : (w : State) (n : ℕ) (P : Option Record → Type 0) → P None → P (Some records.Life)
    → ((r : CommitRecord) → MayCommit w r × (r.tx.client ≡ n) → P (Some (records.Commit r)))
    → (o : Option Record) → IsPendingBy w n o → P o
client_pends w n P none rose commits None h = none
client_pends w n P none rose commits (Some records.Life) h = rose
client_pends w n P none rose commits (Some (records.Prepare p)) h = absurd h
client_pends w n P none rose commits (Some (records.Done tx clock)) h = absurd h
client_pends w n P none rose commits (Some (records.Close epoch)) h = absurd h
client_pends w n P none rose commits (Some (records.Install start)) h = absurd h
client_pends w n P none rose commits (Some (records.Commit r)) h = commits r h
client_pends w n P none rose commits (Some (records.Decide start)) h = absurd h

pub admin_pends : (decl : Declaration) (w : State) (P : Option Record → Type 0) → P None → P (Some records.Life)
    → ((start : EpochStart) → IsDeciding decl w start.epoch start.clock start.lines
    → P (Some (records.Decide start)))
    → (o : Option Record) → IsPendingRule decl w o → P o
admin_pends decl w P none rose decides None h = none
admin_pends decl w P none rose decides (Some records.Life) h = rose
admin_pends decl w P none rose decides (Some (records.Prepare p)) h = absurd h
admin_pends decl w P none rose decides (Some (records.Done tx clock)) h = absurd h
admin_pends decl w P none rose decides (Some (records.Close epoch)) h = absurd h
admin_pends decl w P none rose decides (Some (records.Install start)) h = absurd h
admin_pends decl w P none rose decides (Some (records.Commit commit)) h = absurd h
admin_pends decl w P none rose decides (Some (records.Decide start)) h = decides start h

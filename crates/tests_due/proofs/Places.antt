-- What is due of one deed of a client, and parts by which replies and records are told apart.
use Rattle.std.proofs.Common.{ℕ, zero, suc, List, [], ◌∷◌, length, Option, Some, None}
use Rattle.qc_decl.specs.declared.declaration.Declaration.{Declaration}
use Rattle.qc_entry.specs.declared.record.Commit.{Commit}
use Rattle.qc_msg.specs.declared.reply.Reply.{Reply}
use Rattle.qc_msg.specs.declared.reply.Reply.TheVariants as replies
use Rattle.qc_msg.specs.Vocabulary.{Deed}
use Rattle.qc_promise.specs.Vocabulary.{Account, AreDeedsDue, AreRepliesDue, IsDeedDue, account_at, new_account}

-- what is due of the deed at this place
abbrev DeedAt : ℕ → Declaration → Account → List Deed → Type 0
DeedAt k decl d [] = Unit {0}
DeedAt zero decl d (x ∷ after) = IsDeedDue decl d x after
DeedAt (suc k) decl d (x ∷ after) = DeedAt k decl (account_at decl d x) after

deed_at : (k : ℕ) (decl : Declaration) (d : Account) (ds : List Deed) → AreDeedsDue decl d ds → DeedAt k decl d ds
deed_at k decl d [] all = tt
deed_at zero decl d (x ∷ after) all = all.0
deed_at (suc k) decl d (x ∷ after) all = deed_at k decl (account_at decl d x) after all.1

abbrev pub DueAt : ℕ → Declaration → ℕ → List Deed → Type 0
DueAt k decl client ds = DeedAt k decl (new_account client) ds

pub due_at : (k : ℕ) (decl : Declaration) (client : ℕ) (ds : List Deed) → AreRepliesDue decl client ds
    → DueAt k decl client ds
due_at k decl client ds all = deed_at k decl (new_account client) ds all

abbrev pub client_named : Option Reply → ℕ
client_named (Some (replies.Conflict tx site)) = tx.client
client_named _ = 0

abbrev pub number_begun : Option Reply → ℕ
number_begun (Some (replies.Began tx)) = tx.number
number_begun _ = 0

abbrev pub clock_told : Option Reply → ℕ
clock_told (Some (replies.Committed stamp)) = stamp.clock
clock_told _ = 0

abbrev pub count_written : Option Commit → ℕ
count_written None = 0
count_written (Some commit) = length commit.ops

-- What is due of one deed of the administrator.
use Rattle.std.proofs.Common.{ℕ, zero, suc, List, [], ◌∷◌}
use Rattle.qc_decl.specs.declared.declaration.Declaration.{Declaration}
use Rattle.qc_msg.specs.Vocabulary.{Deed}
use Rattle.qc_promise.specs.Vocabulary.{AdminAccount, AreAdminDeedsDue, IsAdminDeedDue, IsAdminDue, admin_account_at}
use Rattle.qc_promise.specs.Vocabulary.{new_admin_account}

-- what is due of the deed at this place
abbrev DeedAt : ℕ → Declaration → AdminAccount → List Deed → Type 0
DeedAt k decl d [] = Unit {0}
DeedAt zero decl d (x ∷ after) = IsAdminDeedDue decl d x after
DeedAt (suc k) decl d (x ∷ after) = DeedAt k decl (admin_account_at decl d x) after

deed_at : (k : ℕ) (decl : Declaration) (d : AdminAccount) (ds : List Deed) → AreAdminDeedsDue decl d ds
    → DeedAt k decl d ds
deed_at k decl d [] all = tt
deed_at zero decl d (x ∷ after) all = all.0
deed_at (suc k) decl d (x ∷ after) all = deed_at k decl (admin_account_at decl d x) after all.1

abbrev pub DueAt : ℕ → Declaration → List Deed → Type 0
DueAt k decl ds = DeedAt k decl new_admin_account ds

pub admin_due_at : (k : ℕ) (decl : Declaration) (ds : List Deed) → IsAdminDue decl ds → DueAt k decl ds
admin_due_at k decl ds all = deed_at k decl new_admin_account ds all

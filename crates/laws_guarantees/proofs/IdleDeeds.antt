-- Who takes inputs and does nothing begins no transaction, and has none open at a site.
use Rattle.std.proofs.Common.{◌≡◌, ℕ, Bool, List, [], ◌∷◌, fold, refl, ◌∙◌}
use Rattle.std.specs.List.{AllByRecursion as Every}
use Rattle.qc_decl.specs.declared.declaration.Declaration.{Declaration}
use Rattle.laws_turns.proofs.Idle.{IsInput}
use Rattle.qc_msg.specs.Vocabulary.{Deed, Falls, Rises, Sends, Takes, Tells, Writes}
use Rattle.qc_promise.specs.Vocabulary.{Account, account_at}
use Rattle.qc_stamp.specs.declared.stamp.TxId.{TxId}
use Rattle.laws_guarantees.specs.Vocabulary.{name_of}
use Rattle.laws_guarantees.proofs.Names.{taken_named}
use Rattle.laws_guarantees.proofs.OpenDeeds.{open_did}

pub idle_named : (decl : Declaration) (ds : List Deed) (d : Account) → Every IsInput ds
    → name_of (fold (account_at decl) d ds) ≡ name_of d
idle_named decl [] d all = refl
idle_named decl (Takes given ∷ ds) d all = idle_named decl ds (account_at decl d (Takes given)) all.1
    ∙ taken_named d given
idle_named decl (Writes written ∷ ds) d all = absurd all.0
idle_named decl (Sends number to message ∷ ds) d all = absurd all.0
idle_named decl (Tells reply ∷ ds) d all = absurd all.0
idle_named decl (Falls cause pending ∷ ds) d all = absurd all.0
idle_named decl (Rises records ∷ ds) d all = absurd all.0

pub idle_open : (s : ℕ) (x : TxId) (ds : List Deed) (before : Bool) → Every IsInput ds
    → fold (open_did s x) before ds ≡ before
idle_open s x [] before all = refl
idle_open s x (Takes given ∷ ds) before all = idle_open s x ds before all.1
idle_open s x (Writes written ∷ ds) before all = absurd all.0
idle_open s x (Sends number to message ∷ ds) before all = absurd all.0
idle_open s x (Tells reply ∷ ds) before all = absurd all.0
idle_open s x (Falls cause pending ∷ ds) before all = absurd all.0
idle_open s x (Rises records ∷ ds) before all = absurd all.0

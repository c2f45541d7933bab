-- A machine's site holds an item on, as long as the transaction doesn't end, and the site neither rises nor closes nor
-- installs.
use Rattle.std.proofs.Common.{◌≡◌, Bool, true, false, List, [], ◌∷◌, inl, inr, Option, Some, None, refl, sym, subst}
use Rattle.qc_list.specs.Vocabulary.{In}
use Rattle.qc_list.proofs.Members.{In-second}
use Rattle.theory_machine.proofs.SiteLists.{items_of-append, items_of-kept}
use Rattle.theory_machine.specs.Vocabulary.{Closes, Deed, Grants, HaveNoInstall, Installs, Item, KeepsLife, LearnsAbort}
use Rattle.theory_machine.specs.Vocabulary.{LearnsCommit, Prepares, Promise, Rises, Site, after_commit, after_deed}
use Rattle.theory_machine.specs.Vocabulary.{after_prepare, each_held, items_of, promise_of, site_from}
use Rattle.qc_stamp.proofs.Orders.{same_tx_is}
use Rattle.qc_stamp.specs.Vocabulary.{same_tx}
use Rattle.qc_stamp.specs.declared.stamp.Stamp.{Stamp}
use Rattle.qc_stamp.specs.declared.stamp.TxId.{TxId}

-- no verdict on the transaction is learnt
abbrev pub NeverEnds : TxId → List Deed → Type 0
NeverEnds tx ds = ((stamp : Stamp) → In (LearnsCommit tx stamp) ds → ⊥) × (In (LearnsAbort tx) ds → ⊥)

another : (tx u : TxId) → (u ≡ tx → ⊥) → same_tx tx u ≡ false
another tx u apart = by (same_tx tx u) refl
  where
    by : (b : Bool) → same_tx tx u ≡ b → same_tx tx u ≡ false
    by false is = is
    by true is = absurd (apart (sym (same_tx_is tx u is)))

prepared_holds : (tx u : TxId) (x : Item) (o : Option Promise) (s : Site) → In x (items_of tx s.held)
    → In x (items_of tx (after_prepare u o s).held)
prepared_holds tx u x (Some p) s held = held
prepared_holds tx u x None s held = held

committed_holds : (tx u : TxId) (stamp : Stamp) (x : Item) (o : Option Promise) (s : Site) → (u ≡ tx → ⊥)
    → In x (items_of tx s.held) → In x (items_of tx (after_commit u stamp o s).held)
committed_holds tx u stamp x (Some p) s apart held =
    subst (In x) (sym (items_of-kept u tx s.held (another tx u apart))) held
committed_holds tx u stamp x None s apart held =
    subst (In x) (sym (items_of-kept u tx s.held (another tx u apart))) held

pub holds_on : (ds : List Deed) (s : Site) (tx : TxId) (x : Item) → In x (items_of tx s.held) → KeepsLife ds
    → HaveNoInstall ds → NeverEnds tx ds → In x (items_of tx (site_from s ds).held)
holds_on [] s tx x held calm none never = held
holds_on (Grants u items view ∷ ds) s tx x held calm none never =
    holds_on ds (after_deed s (Grants u items view)) tx x
    (subst (In x) (sym (items_of-append tx (each_held u items) s.held))
    (In-second x (items_of tx (each_held u items)) (items_of tx s.held) held)) calm none
    ((λ stamp among. never.0 stamp (inr among)), (λ among. never.1 (inr among)))
holds_on (Prepares u ∷ ds) s tx x held calm none never =
    holds_on ds (after_deed s (Prepares u)) tx x (prepared_holds tx u x (promise_of u s.prepared) s held) calm none
    ((λ stamp among. never.0 stamp (inr among)), (λ among. never.1 (inr among)))
holds_on (LearnsCommit u stamp ∷ ds) s tx x held calm none never =
    holds_on ds (after_deed s (LearnsCommit u stamp)) tx x
    (committed_holds tx u stamp x (promise_of u s.prepared) s
    (λ same. never.0 stamp (inl (λ i. LearnsCommit (sym same i) stamp))) held) calm none
    ((λ other among. never.0 other (inr among)), (λ among. never.1 (inr among)))
holds_on (LearnsAbort u ∷ ds) s tx x held calm none never =
    holds_on ds (after_deed s (LearnsAbort u)) tx x
    (subst (In x)
    (sym (items_of-kept u tx s.held (another tx u (λ same. never.1 (inl (λ i. LearnsAbort (sym same i))))))) held)
    calm none
    ((λ stamp among. never.0 stamp (inr among)), (λ among. never.1 (inr among)))
holds_on (Closes ∷ ds) s tx x held calm none never = absurd calm
holds_on (Installs k c log ∷ ds) s tx x held calm none never = absurd none
holds_on (Rises ∷ ds) s tx x held calm none never = absurd calm

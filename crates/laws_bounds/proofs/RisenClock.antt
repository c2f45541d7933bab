-- A client that rises with a commit record isn't within a lesser bound than that record's clock.
use Rattle.std.proofs.Common.{◌≡◌, ℕ, ◌-◌, ◌≤◌, max, true, List, [], ◌∷◌, ◌++◌, ◌∙◌, subst, arith}
use Rattle.qc_core.specs.Vocabulary.{actor_after, by_client}
use Rattle.qc_core.proofs.ByNumber.{client_risen}
use Rattle.qc_core.proofs.LivesOfActors.{rises as after_rises}
use Rattle.qc_decl.specs.Vocabulary.{is_client}
use Rattle.qc_decl.specs.declared.declaration.Declaration.{Declaration}
use Rattle.qc_entry.specs.declared.record.Commit.{Commit}
use Rattle.qc_msg.specs.declared.record.Record.TheVariants as records
use Rattle.qc_msg.specs.Vocabulary.{Deed, Rises}
use Rattle.qc_recover.specs.Vocabulary.{client_rises}
use Rattle.laws_bounds.specs.Vocabulary.{MoveWithin}

pub bounds_are_on_what_rises : (decl : Declaration) (a : ℕ) (ds : List Deed) (c : Commit) (bound : ℕ)
    → is_client decl a ≡ true
    → MoveWithin bound (actor_after decl a (ds ++ Rises (records.Commit c ∷ []) ∷ [])) → c.stamp.clock ≤ bound
bounds_are_on_what_rises decl a ds c bound client within =
    by (subst (MoveWithin bound) (after_rises decl a ds (records.Commit c ∷ [])
    ∙ client_risen decl a client (records.Commit c ∷ [])) within)
  where
    by : MoveWithin bound (by_client (client_rises (a - decl.sites) (records.Commit c ∷ []))) → c.stamp.clock ≤ bound
    by its = (let passed : max 0 c.stamp.clock ≤ bound = its.state.front.clock in omega arith)

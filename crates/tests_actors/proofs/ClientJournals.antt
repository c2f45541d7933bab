-- A client that rises from records with small clocks is young.
use Rattle.std.proofs.Common.{arith, ◌≡◌, ◌<◌, ◌≤◌, ℕ, Bool, true, false, List, [], ◌∷◌, ◌++◌, inl, inr, sym, subst}
use Rattle.std.proofs.Common.{refl}
use Rattle.std.specs.List.{list_all}
use Rattle.std.specs.Prelude.{◌&&◌, nat_le}
use Rattle.std.proofs.lemmas.Bool.{and_parts}
use Rattle.std.proofs.lemmas.Bool.Decides.{nat_tests}
use Rattle.qc_decl.specs.declared.declaration.Declaration.{Declaration}
use Rattle.qc_entry.specs.declared.record.Commit.{Commit}
use Rattle.qc_list.specs.Vocabulary.{In}
use Rattle.qc_msg.specs.declared.record.Record.{Record}
use Rattle.qc_msg.specs.declared.record.Record.TheVariants as records
use Rattle.qc_recover.specs.Vocabulary.{client_rises}
use Rattle.qc_recover.specs.Clients.{Kept, kept_by, nothing_kept}
use Rattle.qc_recover.proofs.ClientLaws.{IsReached, clocks_reached, kept_more}
use Rattle.tests_actors.specs.ClientJournals.{is_small}
use Rattle.tests_actors.specs.Young.{IsYoung, most_told}

below : (n : ℕ) → nat_le n most_told ≡ true → n ≤ most_told
below n test = grind (arith, nat_tests)

small : (rs : List Record) → list_all is_small rs ≡ true → (c : Commit) → In (records.Commit c) rs
    → c.stamp.clock ≤ most_told
small [] all c member = absurd member
small (r ∷ rs) all c member = by (and_parts (is_small r) (list_all is_small rs) all) member (small rs) where
  by : (is_small r ≡ true) × (list_all is_small rs ≡ true) → In (records.Commit c) (r ∷ rs)
      → (list_all is_small rs ≡ true → (d : Commit) → In (records.Commit d) rs → d.stamp.clock ≤ most_told)
      → c.stamp.clock ≤ most_told
  by both (inl same) rest = below c.stamp.clock (subst (λ (s : Record). is_small s ≡ true) (sym same) both.0)
  by both (inr later) rest = rest both.1 c later

clock : (rs : List Record) → list_all is_small rs ≡ true → (kept_by (rs ++ records.Life ∷ [])).clock ≤ most_told
clock rs all =
    subst (λ (k : Kept). k.clock ≤ most_told) (sym (kept_more rs (records.Life ∷ [])))
    (by (clocks_reached nothing_kept rs)) where
      by : IsReached nothing_kept.clock rs (kept_by rs).clock → (kept_by rs).clock ≤ most_told
      by (inl none) = omega arith
      by (inr (c, member, is)) = let bound = small rs all c member in omega arith

pub risen_young : (decl : Declaration) (client : ℕ) (rs : List Record) → list_all is_small rs ≡ true
    → IsYoung decl (client_rises client rs).client 0
risen_young decl client rs all =
    let bound = clock rs all in
    record { holds = refl; count = omega arith; clock = omega arith; desk = omega arith; few = tt }

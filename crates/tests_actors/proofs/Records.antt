-- Of records that pass the test, each Prepare is of a client that may be declared.
use Rattle.std.proofs.Common.{arith, ◌≡◌, ◌<◌, ℕ, Bool, true, false, List, [], ◌∷◌, inl, inr, sym, subst}
use Rattle.std.specs.List.{list_all}
use Rattle.std.specs.Prelude.{◌&&◌, nat_lt}
use Rattle.std.proofs.lemmas.Bool.{and_parts}
use Rattle.std.proofs.lemmas.Bool.Decides.{nat_tests}
use Rattle.qc_entry.specs.declared.record.Prepared.{Prepared}
use Rattle.qc_list.specs.Vocabulary.{In}
use Rattle.qc_msg.specs.declared.record.Record.{Record}
use Rattle.qc_msg.specs.declared.record.Record.TheVariants as records
use Rattle.tests_actors.specs.Records.{is_of_client}

below : (n : ℕ) → nat_lt n 16 ≡ true → n < 16
below n test = grind (arith, nat_tests)

pub of_clients : (rs : List Record) → list_all is_of_client rs ≡ true → (p : Prepared) → In (records.Prepare p) rs
    → p.tx.client < 16
of_clients [] all p member = absurd member
of_clients (r ∷ rs) all p member =
    by (and_parts (is_of_client r) (list_all is_of_client rs) all) member (of_clients rs) where
      by : (is_of_client r ≡ true) × (list_all is_of_client rs ≡ true) → In (records.Prepare p) (r ∷ rs)
          → (list_all is_of_client rs ≡ true → (q : Prepared) → In (records.Prepare q) rs → q.tx.client < 16)
          → p.tx.client < 16
      by both (inl same) rest = below p.tx.client (subst (λ (s : Record). is_of_client s ≡ true) (sym same) both.0)
      by both (inr later) rest = rest both.1 p later

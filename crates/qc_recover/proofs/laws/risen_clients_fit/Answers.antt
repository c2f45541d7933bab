use Rattle.std.proofs.Common.{arith, ◌<◌, ◌^◌, ◌∷◌, [], ◌++◌, List, inl, inr, sym, subst}
use Rattle.qc_entry.specs.declared.record.Commit.{Commit}
use Rattle.qc_list.specs.Vocabulary.{In}
use Rattle.qc_msg.specs.declared.record.Record.{Record}
use Rattle.qc_msg.specs.declared.record.Record.TheVariants as records
use Rattle.qc_recover.specs.Clients.{Kept, kept_by, nothing_kept}
use Rattle.qc_recover.proofs.ClientLaws.{IsReached, clocks_reached, kept_more}
use Rattle.qc_recover.proofs.laws.risen_clients_fit.Goals as goal

-- the clock after a rise's own record
far : (rs : List Record) → ((c : Commit) → In (records.Commit c) rs → c.stamp.clock < 2 ^ 63)
    → (kept_by (rs ++ records.Life ∷ [])).clock < 2 ^ 63
far rs each = subst (λ (k : Kept). k.clock < 2 ^ 63) (sym (kept_more rs (records.Life ∷ [])))
    (by (clocks_reached nothing_kept rs)) where
      by : IsReached nothing_kept.clock rs (kept_by rs).clock → (kept_by rs).clock < 2 ^ 63
      by (inl none) = omega arith
      by (inr (c, member, is)) = let bound = each c member in omega arith

pub returns : goal.returns
returns c = λ client rs each.
    let clock = far rs each in
    record {
      front = record { count = omega arith; room = tt; few = tt };
      clock = clock;
      desk = record { clock = clock; few = tt };
    }

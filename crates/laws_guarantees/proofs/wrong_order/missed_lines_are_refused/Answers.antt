use Rattle.std.proofs.Common.{◌≡◌, inl, inr, refl, ap, arith}
use Rattle.qc_stamp.specs.declared.stamp.TxId.{TxId}
use Rattle.laws_guarantees.specs.Vocabulary.{name, write, writes}
use Rattle.laws_guarantees.proofs.wrong_order.missed_lines_are_refused.Goals as goal

differ : (name 0).client ≡ (name 1).client → ⊥
differ same = omega arith

apart : name 0 ≡ name 1 → ⊥
apart same = differ (ap (λ (x : TxId). x.client) same)

pub returns-clause-depends : goal.returns-clause-depends
returns-clause-depends c = record {
  operation = inl refl;
  logged = record {
    commit = writes;
    listed = inl refl;
    stamped = refl;
    named = refl;
    operation = record {
      place = 0;
      numbered = refl;
      operation = write;
      found = refl;
      on = refl;
      resp = 2;
      responded = refl;
      is_event = refl;
    };
  };
  apart = apart;
  on = refl;
  depends = refl;
}

pub returns-clause-begun : goal.returns-clause-begun
returns-clause-begun c = refl

pub returns-clause-refused : goal.returns-clause-refused
returns-clause-refused c (inl seen) = seen.seen
returns-clause-refused c (inr later) = omega arith

pub returns-clause-informed : goal.returns-clause-informed
returns-clause-informed c = inl (record { seen = inl refl; before = omega arith })

pub returns-clause-first : goal.returns-clause-first
returns-clause-first c = inr (omega arith)

-- Dependences across epochs are found in a run by evaluation.
use Rattle.std.proofs.Common.{◌≡◌, ℕ, IsTrue, IsSome, Option, Some, None, option_map, refl}
use Rattle.qc_entry.specs.declared.record.Commit.{Commit as CommitRecord}
use Rattle.qc_decl.specs.declared.declaration.Declaration.{Declaration}
use Rattle.theory_onecopy.specs.Vocabulary.{Executed, depends_at}
use Rattle.theory_machine.specs.Vocabulary.{State, every_guard, state}
use Rattle.theory_witnesses.proofs.Accepted.{moving_register_accepted}
use Rattle.theory_witnesses.proofs.Allowed.{run_of}
use Rattle.theory_witnesses.proofs.Finding.{IsFound, below, both, is_true, proof_of, same_number, some}
use Rattle.theory_witnesses.specs.Vocabulary.{acts_of, moving_register}
use Rattle.theory_bases.specs.Vocabulary.{HasDependence, IsDisciplinedRun, WritesAfter, WritesBefore}
use Rattle.theory_bases.specs.Vocabulary.{read_and_written_in_both}
use Rattle.theory_bases.proofs.Disciplined.{disciplined_of}

abbrev is_told : (o : Option ℕ) → Option (IsSome o)
is_told None = None
is_told (Some r) = Some refl

module _ (decl : Declaration) (now : State) (Ordered : ℕ → ℕ → Type 0) (look : (a b : ℕ) → Option (Ordered a b)) where
  abbrev Depends : CommitRecord → CommitRecord → Executed → Executed → Type 0
  Depends c d a b = (a.op.object ≡ b.op.object)
      × (IsSome a.op.resp × (IsTrue (depends_at decl b.op.object b.op.inv a.event)
      × Ordered (now.epoch c.tx) (now.epoch d.tx)))

  abbrev ReadBy : CommitRecord → CommitRecord → Executed → Type 0
  ReadBy c d a = IsFound (Depends c d a) (now.executed d.tx)

  abbrev OfReader : CommitRecord → CommitRecord → Type 0
  OfReader c d = IsFound (ReadBy c d) (now.executed c.tx)

  abbrev OfWriter : CommitRecord → Type 0
  OfWriter c = IsFound (OfReader c) now.records

  abbrev depends : (c d : CommitRecord) (a b : Executed) → Option (Depends c d a b)
  depends c d a b = both (same_number a.op.object b.op.object)
      (both (is_told a.op.resp) (both (is_true (depends_at decl b.op.object b.op.inv a.event))
      (look (now.epoch c.tx) (now.epoch d.tx))))

  abbrev pub dependence : Option (HasDependence decl now Ordered)
  dependence = option_map made (some OfWriter
      (λ c. some (OfReader c) (λ d. some (ReadBy c d) (λ a. some (Depends c d a) (depends c d a) (now.executed d.tx))
      (now.executed c.tx)) now.records) now.records)
    where
      made : IsFound OfWriter now.records → HasDependence decl now Ordered
      made f = record {
        writer = f.item;
        reader = f.holds.item;
        write = f.holds.holds.item;
        read = f.holds.holds.holds.item;
        writer_stands = f.stands;
        reader_stands = f.holds.stands;
        writes = f.holds.holds.stands;
        reads = f.holds.holds.holds.stands;
        object = (f.holds.holds.holds.holds).0;
        some = ((f.holds.holds.holds.holds).1).0;
        depends = (((f.holds.holds.holds.holds).1).1).0;
        ordered = (((f.holds.holds.holds.holds).1).1).1;
      }

pub both_ways : IsDisciplinedRun moving_register read_and_written_in_both
both_ways = record {
  accepted = moving_register_accepted;
  run = proof_of (run_of every_guard moving_register read_and_written_in_both) refl;
  disciplined = proof_of (disciplined_of moving_register (acts_of read_and_written_in_both)) refl;
}

pub on_earlier : HasDependence moving_register (state (acts_of read_and_written_in_both)) WritesBefore
on_earlier = proof_of (dependence moving_register (state (acts_of read_and_written_in_both)) WritesBefore below) refl

pub on_later : HasDependence moving_register (state (acts_of read_and_written_in_both)) WritesAfter
on_later = proof_of (dependence moving_register (state (acts_of read_and_written_in_both)) WritesAfter
    (λ writer reader. below reader writer)) refl

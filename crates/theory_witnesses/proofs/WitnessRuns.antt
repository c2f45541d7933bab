-- The two runs are runs, with their records, and the conflict of the first is refused.
use Rattle.std.proofs.Common.{[], ◌∷◌, ◌≡◌, ℕ, refl, ◌++◌, inl, ap, arith}
use Rattle.qc_decl.proofs.BuiltInRules.{three_accepted}
use Rattle.qc_decl.specs.Vocabulary.{three}
use Rattle.theory_machine.specs.Vocabulary.{Lock, Own, every_guard}
use Rattle.qc_stamp.specs.declared.stamp.TxId.{TxId}
use Rattle.theory_witnesses.proofs.Accepted.{three_in_two_epochs_accepted}
use Rattle.theory_witnesses.proofs.Allowed.{run_of}
use Rattle.theory_witnesses.proofs.Finding.{proof_of}
use Rattle.theory_witnesses.specs.Vocabulary.{Brings, Commits, IsRefused, conflict, first, first_line, missed_write}
use Rattle.theory_witnesses.specs.Vocabulary.{one_epoch, shared_write, written_line}
use Rattle.theory_witnesses.specs.Vocabulary.{one_epoch_records, read_under_way, second, three_in_two_epochs}
use Rattle.theory_witnesses.specs.Vocabulary.{two_epochs, two_epochs_records, write_under_way}

pub one_epoch_commits : Commits three one_epoch one_epoch_records
one_epoch_commits = record {
  accepted = three_accepted;
  run = proof_of (run_of every_guard three one_epoch) refl;
  committed = refl;
}

pub two_epochs_commit : Commits three_in_two_epochs two_epochs two_epochs_records
two_epochs_commit = record {
  accepted = three_in_two_epochs_accepted;
  run = proof_of (run_of every_guard three_in_two_epochs two_epochs) refl;
  committed = refl;
}

pub shares_bring_what_was_missed : Brings three missed_write shared_write 2 (written_line ∷ [])
shares_bring_what_was_missed = record {
  accepted = three_accepted;
  run = proof_of (run_of every_guard three shared_write) refl;
  missed = refl;
  brought = refl;
}

pub conflict_is_refused : IsRefused three (write_under_way ++ read_under_way) conflict
conflict_is_refused h = (h.2).free first (Lock (record { object = 0; inv = 0 })) (Own first_line) (inl refl)
    (inl refl) other (refl, refl)
  where
    apart : ◌≡◌ {A = ℕ} 0 1 → ⊥
    apart e = omega arith

    other : first ≡ second → ⊥
    other e = apart (ap (λ (t : TxId). t.client) e)

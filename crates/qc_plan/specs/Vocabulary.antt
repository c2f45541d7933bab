-- What proofs, and other crates, name of this crate's definitions.
pub use Rattle.qc_plan.specs.Admitted.{Closes, IsAdmitted, IsCloseWeight}
pub use Rattle.qc_plan.specs.Close.{closing, closing_list, closing_needs}
pub use Rattle.qc_plan.specs.Faults.{can_miss, fault_of, heavy_fault, is_heavy, kind_fault, object_fault, pair_fault}
pub use Rattle.qc_plan.specs.Need.{need_of}
pub use Rattle.qc_plan.specs.Round.{RoundState, all_noted, asking_all, asking_first, asking_in_turn, asking_next}
pub use Rattle.qc_plan.specs.Round.{asking_on, clash_at, closed_at, cyclic, first, first_clash, first_closed}
pub use Rattle.qc_plan.specs.Round.{has_granted, is_asked, is_granted, is_waiting, may_ask, next_site, note, note_in}
pub use Rattle.qc_plan.specs.Round.{place_in, prefix, refusal, settled, start, verdict, wanted, weighing, weight_at}
pub use Rattle.qc_plan.specs.Weights.{IsShared, total, weight}

use Rattle.std.proofs.Common.{◌≡◌, [], length, drop}
use Rattle.qc_accept.specs.Vocabulary.{data_of, each, store_in, with_plan}
use Rattle.qc_accept.proofs.epochs.read_plans.Given as goal

abbrev pub invariant-loop-item : goal.invariant-loop-item
invariant-loop-item l = record {
  reads : each (with_plan (store_in l.store)) [] (data_of l.items) ≡ each (with_plan (store_in l.store)) l.plans
      (drop l.item-index (data_of l.items));
  many : length l.plans ≡ l.item-index;
}

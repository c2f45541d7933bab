-- Of the machine's transactions that are safe and haven't aborted: of two operations of which one depends on the other,
-- the reader's view has the line of the writer, which committed, or the reader committed and a grant that the writer
-- counted has passed its stamp. In one epoch a site that both quorums share tells; of two, the earlier transaction had
-- committed before the next epoch was decided.
use Rattle.std.proofs.Common.{◌≡◌, ◌≢◌, IsTrue, ◌⊎◌, inl, inr, List, IsSome, arith}
use Rattle.std.proofs.lemmas.Bool.{cases_eq}
use Rattle.qc_stamp.specs.declared.stamp.TxId.{TxId}
use Rattle.qc_list.specs.Vocabulary.{In}
use Rattle.qc_decl.specs.declared.declaration.Declaration.{Declaration}
use Rattle.qc_decl.specs.Vocabulary.{IsAccepted}
use Rattle.theory_onecopy.specs.Vocabulary.{Executed, depends_at}
use Rattle.theory_machine.specs.Vocabulary.{Aborted, Act, IsRun, state}
use Rattle.theory_machine.proofs.PlacedOperations.{le_cases}
use Rattle.laws_guarantees.proofs.Paired.{ArePaired, IsPassed, IsSeen, paired}
use Rattle.laws_guarantees.proofs.OneEpoch.{in_one_epoch}
use Rattle.laws_guarantees.proofs.EpochsApart.{reader_sees_it, writer_passes_it}
use Rattle.laws_guarantees.proofs.Settled.{IsSafe}

module _ (decl : Declaration) (accepted : IsAccepted decl) (acts : List Act) (run : IsRun decl acts) where
  -- two operations of which one depends on the other, of transactions that are safe and haven't aborted
  module _ (v u : TxId) (dv du : Executed) (hv : In dv ((state acts).executed v)) (hu : In du ((state acts).executed u))
      (some : IsSome du.op.resp) (object : du.op.object ≡ dv.op.object) (ne : u ≢ v)
      (av : (state acts).status v ≢ Aborted) (au : (state acts).status u ≢ Aborted) (sv : IsSafe acts v)
      (su : IsSafe acts u) (dep : IsTrue (depends_at decl dv.op.object dv.op.inv du.event)) where
    pair : ArePaired decl accepted acts v u dv du
    pair = paired decl accepted acts run v u dv du hv hu some object ne av au sv su dep

    pub ordered_now : IsSeen decl accepted acts run v u dv du ⊎ IsPassed decl accepted acts run v u
    ordered_now = elim (cases_eq ((state acts).epoch u) ((state acts).epoch v)) [
      | inl same ↦ in_one_epoch decl accepted acts run v u dv du pair same
      | inr apart ↦ elim (le_cases ((state acts).epoch u) ((state acts).epoch v)) [
        | inl below ↦ inl (reader_sees_it decl accepted acts run v u dv du pair (let n = apart in omega arith))
        | inr above ↦ inr (writer_passes_it decl accepted acts run v u dv du pair (let n = apart in omega arith))
      ]
    ]

-- The transactions that acts are of: of any other nothing has begun.
use Rattle.std.proofs.Common.{◌≡◌, ◌⊎◌, inl, inr, List, [], ◌∷◌, refl}
use Rattle.qc_stamp.specs.declared.stamp.TxId.{TxId}
use Rattle.qc_list.specs.Vocabulary.{In}
use Rattle.theory_machine.proofs.Names.{put_tx_case}
use Rattle.theory_machine.specs.Vocabulary.{Abort, Aborted, Act, Active, Announce, Begin, Choose, Close, Commit}
use Rattle.theory_machine.specs.Vocabulary.{CommitUnknown, Committed, Count, Decide, Execute, ExecuteAbsent, Grant}
use Rattle.theory_machine.specs.Vocabulary.{Install, Learn, NotBegun, Pending, Prepare, PrepareLost, Recover, Rise}
use Rattle.theory_machine.specs.Vocabulary.{RiseClient, SendAppend, Status, TakeSnapshot, Vote, Voting, put_tx}
use Rattle.theory_machine.specs.Vocabulary.{recover_status, state}

-- each act that changes a status, with its transaction
abbrev pub begun : List Act → List TxId
begun [] = []
begun (Begin tx epoch ∷ older) = tx ∷ begun older
begun (Prepare tx ∷ older) = tx ∷ begun older
begun (Commit c ∷ older) = c.tx ∷ begun older
begun (CommitUnknown c ∷ older) = c.tx ∷ begun older
begun (Recover tx with_record ∷ older) = tx ∷ begun older
begun (Abort tx ∷ older) = tx ∷ begun older
begun (_ ∷ older) = begun older

abbrev pub IsNewOrBegun : List Act → TxId → Type 0
IsNewOrBegun acts tx = ((state acts).status tx ≡ NotBegun) ⊎ In tx (begun acts)

pub one_more : (older : List Act) (k : TxId) (s : Status) (tx : TxId) → IsNewOrBegun older tx
    → (put_tx (state older).status k s tx ≡ NotBegun) ⊎ In tx (k ∷ begun older)
one_more older k s tx known =
    put_tx_case (λ (x : Status). (x ≡ NotBegun) ⊎ In tx (k ∷ begun older)) (state older).status k s tx
    (λ e. inr (inl e)) (λ ne. elim known [ inl new ↦ inl new | inr h ↦ inr (inr h) ])

pub new_or_begun : (acts : List Act) (tx : TxId) → IsNewOrBegun acts tx
new_or_begun [] tx = inl refl
new_or_begun (Begin k epoch ∷ older) tx = one_more older k Active tx (new_or_begun older tx)
new_or_begun (Prepare k ∷ older) tx = one_more older k Voting tx (new_or_begun older tx)
new_or_begun (Commit c ∷ older) tx = one_more older c.tx (Committed c) tx (new_or_begun older tx)
new_or_begun (CommitUnknown c ∷ older) tx = one_more older c.tx (Pending c) tx (new_or_begun older tx)
new_or_begun (Recover k b ∷ older) tx = one_more older k (recover_status b ((state older).status k)) tx
    (new_or_begun older tx)
new_or_begun (Abort k ∷ older) tx = one_more older k Aborted tx (new_or_begun older tx)
new_or_begun (Choose t d ∷ older) tx = new_or_begun older tx
new_or_begun (SendAppend s ∷ older) tx = new_or_begun older tx
new_or_begun (Execute t ∷ older) tx = new_or_begun older tx
new_or_begun (ExecuteAbsent t d ∷ older) tx = new_or_begun older tx
new_or_begun (Grant g ∷ older) tx = new_or_begun older tx
new_or_begun (Count g ∷ older) tx = new_or_begun older tx
new_or_begun (Vote site t ∷ older) tx = new_or_begun older tx
new_or_begun (PrepareLost site t ∷ older) tx = new_or_begun older tx
new_or_begun (RiseClient client clock ∷ older) tx = new_or_begun older tx
new_or_begun (Announce t ∷ older) tx = new_or_begun older tx
new_or_begun (Learn site v ∷ older) tx = new_or_begun older tx
new_or_begun (Rise site ∷ older) tx = new_or_begun older tx
new_or_begun (Close site ∷ older) tx = new_or_begun older tx
new_or_begun (TakeSnapshot s ∷ older) tx = new_or_begun older tx
new_or_begun (Decide d ∷ older) tx = new_or_begun older tx
new_or_begun (Install site d ∷ older) tx = new_or_begun older tx

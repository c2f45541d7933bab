-- A verdict that was sent stays sent, whatever happens next.
use Rattle.std.proofs.Common.{List, [], ◌∷◌, ◌++◌}
use Rattle.qc_list.specs.Vocabulary.{In}
use Rattle.qc_list.proofs.Members.{In-second}
use Rattle.theory_machine.specs.Vocabulary.{Abort, Act, Announce, Begin, Choose, Close, Commit, CommitUnknown, Count}
use Rattle.theory_machine.specs.Vocabulary.{Decide, Execute, ExecuteAbsent, Grant, Install, Learn, Prepare, PrepareLost}
use Rattle.theory_machine.specs.Vocabulary.{Recover, Rise, RiseClient, SendAppend, State, TakeSnapshot, Verdict, Vote}
use Rattle.theory_machine.specs.Vocabulary.{after_act, state, verdict_of}

one_more : (now : State) (a : Act) (v : Verdict) → In v now.verdicts → In v (after_act now a).verdicts
one_more now (Begin tx epoch) v h = h
one_more now (Choose tx operation) v h = h
one_more now (SendAppend s) v h = h
one_more now (Execute tx) v h = h
one_more now (ExecuteAbsent tx operation) v h = h
one_more now (Grant g) v h = h
one_more now (Count g) v h = h
one_more now (Prepare tx) v h = h
one_more now (Vote site tx) v h = h
one_more now (PrepareLost site tx) v h = h
one_more now (Commit c) v h = h
one_more now (CommitUnknown c) v h = h
one_more now (Recover tx with_record) v h = h
one_more now (Abort tx) v h = h
one_more now (RiseClient client clock) v h = h
one_more now (Announce tx) v h = In-second v (verdict_of tx (now.status tx)) now.verdicts h
one_more now (Learn site t) v h = h
one_more now (Rise site) v h = h
one_more now (Close site) v h = h
one_more now (TakeSnapshot s) v h = h
one_more now (Decide d) v h = h
one_more now (Install site d) v h = h

pub stays : (later acts : List Act) (v : Verdict) → In v (state acts).verdicts → In v (state (later ++ acts)).verdicts
stays [] acts v h = h
stays (a ∷ later) acts v h = one_more (state (later ++ acts)) a v (stays later acts v h)

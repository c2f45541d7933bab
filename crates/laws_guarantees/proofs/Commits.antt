-- In each undisturbed run each commit of a transaction that may commit does: each vote is a promise, since none is
-- Stale.
use Rattle.std.proofs.Common.{◌≡◌, inl, inr, ℕ, ◌≤◌, ◌*◌, Bool, true, false, cond, List, [], ◌∷◌, ◌++◌, length, Option}
use Rattle.std.proofs.Common.{Some, None, slice_get, refl, sym, ap, ◌∙◌, subst, arith}
use Rattle.std.specs.Prelude.{option_and_then}
use Rattle.std.specs.Option.{option_or}
use Rattle.qc_list.specs.Vocabulary.{In}
use Rattle.qc_list.proofs.Members.{In-passes, In-unfiltered}
use Rattle.qc_core.specs.Vocabulary.{IsLawful}
use Rattle.qc_decl.specs.Vocabulary.{IsAccepted, is_client, most_committed_operations}
use Rattle.qc_decl.specs.declared.declaration.Declaration.{Declaration}
use Rattle.qc_msg.specs.declared.message.Answer.{Answer}
use Rattle.qc_msg.specs.declared.message.Answer.TheVariants as answers
use Rattle.qc_msg.specs.declared.message.Want.{Want}
use Rattle.qc_msg.specs.declared.message.Want.TheVariants.{Prepare}
use Rattle.qc_msg.specs.declared.reply.Reply.{Reply}
use Rattle.qc_msg.specs.declared.reply.Reply.TheVariants as replies
use Rattle.qc_msg.specs.declared.reply.AbortCause.{AbortCause}
use Rattle.qc_msg.specs.declared.reply.AbortCause.TheVariants as causes
use Rattle.qc_msg.specs.declared.step.Command.{Command}
use Rattle.qc_msg.specs.declared.step.Command.TheVariants as commands
use Rattle.qc_msg.specs.declared.turn.Turn.{Turn}
use Rattle.qc_msg.specs.Vocabulary.{Entry, by, deeds, mail, operations_of, posted}
use Rattle.qc_msg.proofs.Growth.{operations-grow}
use Rattle.qc_script.specs.Vocabulary.{IsScriptFor, Runs}
use Rattle.qc_script.specs.declared.script.Script.{Script}
use Rattle.laws_turns.specs.Vocabulary.{ActsIn, AsksDeclared}
use Rattle.laws_turns.proofs.Acted.{actors_take_and_post_by_turns}
use Rattle.qc_promise.specs.Vocabulary.{Account, ClientRequest, Current, account, against, are_votes_in, commit_row}
use Rattle.qc_promise.specs.Vocabulary.{first_against, is_prepare, next_stamp, requests_for, row_of, running_row}
use Rattle.qc_promise.specs.Vocabulary.{vote_row}
use Rattle.laws_due.proofs.Courses.{turns_tell_their_rows}
use Rattle.laws_due.proofs.AccountDeclared.{scripts_ask_what_is_declared}
use Rattle.laws_guarantees.proofs.Remembered.{counted_remembered}
use Rattle.laws_guarantees.specs.Vocabulary.{CommitOf, CommitSucceeds, CommitsSucceed, EachReply, IsCommitted}
use Rattle.laws_guarantees.specs.Vocabulary.{IsUndisturbed, OfRunning}
use Rattle.laws_guarantees.proofs.UndisturbedCounted.{GoodTaken, taken_good}
use Rattle.laws_guarantees.proofs.Dos.{post_stays}
use Rattle.laws_guarantees.proofs.Each.{run_each, untold}
use Rattle.laws_guarantees.proofs.Names.{Stays}
use Rattle.laws_guarantees.proofs.Against.{is_prepared_want}

-- of each request for a promise of a running commit, what counts isn't Stale
abbrev pub NoneStale : Declaration → List Entry → Type 0
NoneStale decl h = (a : ℕ) → is_client decl a ≡ true → (q : ClientRequest) → In q (account decl a h).requests
    → q.want ≡ Prepare → q.taken ≡ Some (Some answers.Stale) → ⊥

none_against : (decl : Declaration) (a : ℕ) (h : List Entry) (q : ClientRequest)
    → (q.taken ≡ Some (Some answers.Stale) → ⊥) → (o : Option (Option Answer)) → q.taken ≡ o
    → GoodTaken decl a h Prepare o → against q o ≡ None
none_against decl a h q fresh None is good = refl
none_against decl a h q fresh (Some None) is never = absurd never
none_against decl a h q fresh (Some (Some (answers.Granted grant))) is never = absurd never
none_against decl a h q fresh (Some (Some (answers.Clash holder inv event))) is never = absurd never
none_against decl a h q fresh (Some (Some (answers.Closed epoch))) is never = absurd never
none_against decl a h q fresh (Some (Some (answers.Behind epoch))) is never = absurd never
none_against decl a h q fresh (Some (Some (answers.Restarted life))) is never = absurd never
none_against decl a h q fresh (Some (Some answers.Stale)) is good = absurd (fresh is)
none_against decl a h q fresh (Some (Some answers.Fault)) is never = absurd never
none_against decl a h q fresh (Some (Some (answers.Yes clock))) is good = refl
none_against decl a h q fresh (Some (Some (answers.Shut snapshot))) is never = absurd never
none_against decl a h q fresh (Some (Some answers.Installed)) is never = absurd never
none_against decl a h q fresh (Some (Some (answers.Answered verdict))) is never = absurd never

nobody_against : (qs : List ClientRequest) → ((q : ClientRequest) → In q qs → against q q.taken ≡ None)
    → first_against qs ≡ None
nobody_against [] all = refl
nobody_against (q ∷ qs) all = ap (λ (o : Option AbortCause). option_or o (first_against qs)) (all q (inl refl))
    ∙ nobody_against qs (λ p among. all p (inr among))

committed_row : (d : Account) (r : Reply) (votes : Bool) (o : Option AbortCause) → o ≡ None
    → cond votes (vote_row d false o) None ≡ Some r → IsCommitted r
committed_row d r false o free is = absurd (let never : ⊥ = cc in never)
committed_row d r true None free is = subst IsCommitted
    (let same : replies.Committed (next_stamp d) ≡ r = cc in same) tt
committed_row d r true (Some why) free is = absurd (let never : ⊥ = cc in never)

module _ (decl : Declaration) (script : Script) (accepted : IsAccepted decl) (asks : AsksDeclared decl script)
    (calm : IsUndisturbed script) (Q : List Entry → Type 0) (shorter : (h k : List Entry) → Q (h ++ k) → Q h)
    (fresh : (h : List Entry) (open_inputs : List Bool) → Runs (IsLawful decl) decl script h open_inputs → Q h
    → NoneStale decl h) where
  commit_succeeds : (older : List Entry) (before : List Bool) → Runs (IsLawful decl) decl script older before → (b : ℕ)
      → is_client decl b ≡ true → (turn : Turn) → slice_get before b ≡ Some true
      → IsLawful decl b (deeds b [] older) turn → Q older
      → (r : Reply) → turn.told ≡ Some r → CommitSucceeds decl
      (older ++ by b (posted (length (mail older)) (untold turn))) b r
  commit_succeeds older before run b named turn is_opened lawful within r told =
      let s : Stays (account decl b older) (account decl b (older ++ by b (posted (length (mail older)) (untold turn))))
      = post_stays decl script accepted asks calm older b turn in
      subst (λ (o : Option Current). OfRunning (CommitOf r) o
      (account decl b (older ++ by b (posted (length (mail older)) (untold turn)))).command) (sym s.current)
      (subst (λ (c : Option Command). OfRunning (CommitOf r) (account decl b older).current c) (sym s.command)
      (at (account decl b older).current refl (account decl b older).command refl))
    where
      acts : ActsIn decl b older true
      acts = actors_take_and_post_by_turns decl script older before run b true is_opened

      due_now : running_row decl (account decl b older) false ≡ Some r
      due_now = sym (turns_tell_their_rows decl b named (deeds b [] older) acts.above turn acts.acts lawful) ∙ told

      free : first_against (requests_for is_prepare (account decl b older)) ≡ None
      free = nobody_against (requests_for is_prepare (account decl b older)) (λ q among.
          let there : In q (account decl b older).requests =
          In-unfiltered (λ (q : ClientRequest). is_prepare q.want) q (account decl b older).requests among in
          let want : q.want ≡ Prepare = is_prepared_want q.want
          (In-passes (λ (q : ClientRequest). is_prepare q.want) q (account decl b older).requests among) in
          none_against decl b older q (fresh older before run within b named q there want) q.taken refl
          (subst (λ (w : Want). GoodTaken decl b older w q.taken) want
          (taken_good decl script accepted asks calm older before run b named q there)))

      at : (o : Option Current) → (account decl b older).current ≡ o → (c : Option Command)
          → (account decl b older).command ≡ c → OfRunning (CommitOf r) o c
      at None current c command = tt
      at (Some t) current None command = tt
      at (Some t) current (Some commands.Begin) command = tt
      at (Some t) current (Some (commands.Do object inv)) command = tt
      at (Some t) current (Some commands.Commit) command = λ live.
          let row : commit_row decl (account decl b older) false t ≡ Some r =
          (λ i. option_and_then (row_of decl (account decl b older) false (sym current i)) (sym command i))
          ∙ due_now in
          let voted : cond (are_votes_in decl (account decl b older) t)
          (vote_row (account decl b older) false (first_against (requests_for is_prepare (account decl b older))))
          None ≡ Some r =
          ap (λ (x : Bool). cond x (Some (replies.Aborted causes.Doomed))
          (cond (are_votes_in decl (account decl b older) t)
          (vote_row (account decl b older) false (first_against (requests_for is_prepare (account decl b older))))
          None)) (sym live) ∙ row in
          committed_row (account decl b older) r (are_votes_in decl (account decl b older) t)
          (first_against (requests_for is_prepare (account decl b older))) free voted
      at (Some t) current (Some commands.Abort) command = tt
      at (Some t) current (Some (commands.Epoch number)) command = tt

  pub run_commits : (h : List Entry) (open_inputs : List Bool) → Runs (IsLawful decl) decl script h open_inputs → Q h
      → EachReply (CommitSucceeds decl) [] h
  run_commits h open_inputs run within = run_each
      (CommitSucceeds decl) Q shorter decl script commit_succeeds h open_inputs run within

-- below twice the limit of committed operations no vote is Stale

abbrev IsFew : List Entry → Type 0
IsFew h = operations_of h ≤ 2 * most_committed_operations

few_before : (h k : List Entry) → IsFew (h ++ k) → IsFew h
few_before h k few = let less : operations_of h ≤ operations_of (h ++ k) = operations-grow h k in omega arith

pub undisturbed_commits_succeed : (decl : Declaration) (script : Script) → IsAccepted decl → IsScriptFor decl script
    → IsUndisturbed script → (h : List Entry) (open_inputs : List Bool) → Runs (IsLawful decl) decl script h open_inputs
    → operations_of h ≤ 2 * most_committed_operations → CommitsSucceed decl h
undisturbed_commits_succeed decl script accepted sound calm h open_inputs run few =
    run_commits decl script accepted (scripts_ask_what_is_declared decl script accepted sound) calm IsFew few_before
    (λ older before its_run within a named q among want taken. counted_remembered decl script accepted sound older
    before its_run within a q answers.Stale named (among, want, taken) tt) h open_inputs run few

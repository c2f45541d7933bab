-- What a client writes is a commit record that it keeps, so its clock stays within a bound of those; where it isn't
-- written it sends nothing.
use Rattle.std.proofs.Common.{◌≡◌, ◌⊎◌, ℕ, ◌≤◌, Bool, true, false, cond, Option, Some, None, inl, inr, refl, sym, ap}
use Rattle.std.proofs.Common.{subst}
use Rattle.std.specs.Prelude.{option_to_list}
use Rattle.qc_list.specs.Vocabulary.{In}
use Rattle.qc_list.proofs.Members.{In-last, every-In}
use Rattle.qc_client.specs.declared.client.Client.{Client}
use Rattle.qc_client.specs.Vocabulary.{ClientMove, answered, answered_by, by_desk, by_front, called, client_takes}
use Rattle.qc_client.specs.Vocabulary.{commits, heard}
use Rattle.qc_commit.specs.declared.desk.Voting.{Voting}
use Rattle.qc_commit.specs.Conduct as desks
use Rattle.qc_commit.specs.Vocabulary.{DeskMove}
use Rattle.qc_commit.proofs.Moves.{IsMove, prepare-moves, tx_of, vote-moves}
use Rattle.qc_core.proofs.Written.{client_written}
use Rattle.qc_decl.specs.declared.declaration.Declaration.{Declaration}
use Rattle.qc_entry.specs.declared.record.Commit.{Commit}
use Rattle.qc_front.specs.declared.transaction.Transaction.{Transaction}
use Rattle.qc_front.specs.Conduct as fronts
use Rattle.qc_front.proofs.Unwritten.{front_called, front_takes}
use Rattle.qc_msg.specs.declared.message.Answer.{Answer}
use Rattle.qc_msg.specs.declared.message.Message.{Message}
use Rattle.qc_msg.specs.declared.record.Record.{Record}
use Rattle.qc_msg.specs.declared.record.Record.TheVariants as records
use Rattle.qc_msg.specs.declared.step.Command.{Command}
use Rattle.qc_msg.specs.declared.step.Command.TheVariants as commands
use Rattle.qc_msg.specs.declared.step.Input.{Input}
use Rattle.qc_msg.specs.declared.step.Input.TheVariants as inputs
use Rattle.qc_msg.specs.declared.turn.Turn.{Turn}
use Rattle.qc_stamp.specs.declared.stamp.TxId.{TxId}
use Rattle.laws_turns.specs.Vocabulary.{ClientWithin, SendsWithin}
use Rattle.laws_bounds.specs.Vocabulary.{AreWithin}
use Rattle.laws_bounds.proofs.SiteWrites.{WritesWithin}
use Rattle.laws_turns.proofs.ClientCases.{called_cases}
use Rattle.qc_client.proofs.HeardCases.{heard_cases}

-- what is written is one of the commit records that the client keeps then
abbrev WritesKept : ClientMove → Type 0
WritesKept m = (c : Commit) → m.turn.write ≡ Some (records.Commit c) → In c m.client.desk.commits

-- and nothing else is
abbrev WritesCommit : Option Record → Type 0
WritesCommit w = (w ≡ None) ⊎ ((c : Commit) × (w ≡ Some (records.Commit c)))

record KeepsWrites (m : ClientMove) : Type 0 where
  commit : WritesCommit m.turn.write
  kept : WritesKept m

none_writes : (m : ClientMove) → m.turn.write ≡ None → KeepsWrites m
none_writes m none = record { commit = inl none; kept = λ c is. absurd (let never : ⊥ = cc in never) }

desk_writes : (c : Client) (hand : Option TxId) (m : DeskMove) → IsMove c.desk hand m → KeepsWrites (by_desk c m)
desk_writes c hand m (inl w) = none_writes (by_desk c m) w.write
desk_writes c hand m (inr (inl r)) = record {
  commit = inr (desks.commit_of r.stamp r.begun, ap (λ (t : Turn). t.write) r.turn);
  kept =
      λ k is.
      (let written : m.turn.write ≡ Some (records.Commit (desks.commit_of r.stamp r.begun)) = ap
      (λ (t : Turn). t.write) r.turn in
      let same : desks.commit_of r.stamp r.begun ≡ k = cc in
      subst (λ (v : Commit). In v m.desk.commits) same
      (subst (In (desks.commit_of r.stamp r.begun)) (sym r.commits)
      (In-last (desks.commit_of r.stamp r.begun) c.desk.commits)));
}
desk_writes c hand m (inr (inr a)) = none_writes (by_desk c m) (ap (λ (t : Turn). t.write) a.turn)

module _ (decl : Declaration) (c : Client) where
  fronted : (command : Command) → KeepsWrites (by_front c (fronts.called decl c.front command))
  fronted command = none_writes _ (front_called decl c.front command).write

  commit_writes : (o : Option Transaction) → KeepsWrites (commits decl c o)
  commit_writes None = fronted commands.Commit
  commit_writes (Some t) = by t.begun.doomed
    where
      by : (dead : Bool) → KeepsWrites (cond dead (by_front c (fronts.called decl c.front commands.Commit))
          (by_desk c (desks.prepare decl c.desk t.begun c.front.clock.value)))
      by true = fronted commands.Commit
      by false =
          desk_writes c (Some t.begun.tx) (desks.prepare decl c.desk t.begun c.front.clock.value)
          (prepare-moves decl c.desk t.begun c.front.clock.value)

  called_writes : (command : Command) → KeepsWrites (called decl c command)
  called_writes = called_cases decl c (λ command move. KeepsWrites move) fronted (commit_writes c.front.transaction)

  answer_writes : (number : ℕ) (answer : Option Answer) → KeepsWrites (answered decl c number answer)
  answer_writes number answer = by c.desk.voting
    where
      by : (o : Option Voting) → KeepsWrites (answered_by decl c o number answer)
      by None = none_writes _ (front_takes decl c.front number answer).write
      by (Some v) =
          desk_writes c (tx_of c.desk.voting) (desks.vote c.desk number answer) (vote-moves c.desk number answer)

  heard_writes : (from number : ℕ) (message : Message) → KeepsWrites (heard decl c from number message)
  heard_writes from number =
      heard_cases decl c from number (λ message move. KeepsWrites move) (λ message. none_writes _ refl)
      (λ to answer. answer_writes to (Some answer)) (λ tx. none_writes _ refl) (λ tx. none_writes _ refl)

  takes_writes : (g : Input) → KeepsWrites (client_takes decl c g)
  takes_writes (inputs.Called command) = called_writes command
  takes_writes (inputs.Got e) = heard_writes e.from e.number e.message
  takes_writes (inputs.Lost number) = answer_writes number None

  -- one input
  pub client_writes_within : (bound : ℕ) (g : Input) → ClientWithin bound (client_takes decl c g).client
      → WritesWithin bound (client_takes decl c g).turn
  client_writes_within bound g w = record {
    failed_sends = subst (SendsWithin bound) (sym (client_written decl c g).failed_sends) tt;
    write = by (takes_writes g).commit;
  } where
    by : WritesCommit (client_takes decl c g).turn.write
        → AreWithin bound (option_to_list (client_takes decl c g).turn.write)
    by (inl none) = subst (λ (o : Option Record). AreWithin bound (option_to_list o)) (sym none) tt
    by (inr one) =
        subst (λ (o : Option Record). AreWithin bound (option_to_list o)) (sym one.1) (
          every-In (λ (k : Commit). k.stamp.clock ≤ bound) one.0
              (client_takes decl c g).client.desk.commits w.desk.commits
              ((takes_writes g).kept one.0 one.1),
          tt,
        )

-- A client's turn writes nothing, or one commit record that its desk then has.
use Rattle.std.proofs.Common.{[], ◌≡◌, ℕ, ◌==◌, Bool, true, false, cond, List, ◌∷◌, ◌++◌, Option, Some, None, is_some}
use Rattle.std.proofs.Common.{length, map, refl, sym, subst}
use Rattle.qc_entry.specs.declared.record.Commit.{Commit as CommitRecord}
use Rattle.qc_decl.specs.declared.declaration.Declaration.{Declaration}
use Rattle.qc_msg.specs.declared.begun.Begun.{Begun}
use Rattle.qc_msg.specs.declared.message.Answer.{Answer}
use Rattle.qc_msg.specs.declared.message.Message.{Message}
use Rattle.qc_msg.specs.declared.record.Record.{Record}
use Rattle.qc_msg.specs.declared.record.Record.TheVariants as records
use Rattle.qc_msg.specs.declared.reply.AbortCause.{AbortCause}
use Rattle.qc_msg.specs.declared.step.Command.{Command}
use Rattle.qc_msg.specs.declared.step.Command.TheVariants as commands
use Rattle.qc_msg.specs.declared.step.Input.{Input}
use Rattle.qc_msg.specs.declared.step.Input.TheVariants.{Called, Got, Lost}
use Rattle.qc_msg.specs.Vocabulary.{quiet, sending, site_called, without_call}
use Rattle.qc_commit.specs.declared.desk.Desk.{Desk}
use Rattle.qc_commit.specs.declared.desk.Voting.{Voting}
use Rattle.qc_commit.specs.Conduct as desks
use Rattle.qc_commit.specs.Vocabulary.{DeskMove, are_cast, blank, cast, first_against, moved as desk_moved}
use Rattle.qc_commit.specs.Vocabulary.{participants, prepares, vote_of}
use Rattle.qc_commit.proofs.Learned.{learned-commits}
use Rattle.qc_front.specs.declared.transaction.Transaction.{Transaction}
use Rattle.qc_front.specs.Conduct as fronts
use Rattle.qc_front.specs.Vocabulary.{FrontMove, ended}
use Rattle.qc_client.specs.Vocabulary.{ClientMove, answered_by, by_desk, by_front, called, client_takes, commits, heard}
use Rattle.qc_client.specs.declared.client.Client.{Client}
use Rattle.qc_front.proofs.Unwritten.{IsCalm, front_called, front_takes}
use Rattle.laws_refinement.proofs.ClientCases.{called_cases}
use Rattle.qc_client.proofs.HeardCases.{heard_cases}

-- a turn writes nothing, or one commit record that its desk then has
pub data IsKept (before after : List CommitRecord) : Option Record → Type 0 where
  nothing : after ≡ before → IsKept before after None
  commits_one : (r : CommitRecord) → after ≡ before ++ r ∷ [] → IsKept before after (Some (records.Commit r))

pub record Keeping (c : Client) (move : ClientMove) : Type 0 where
  pub life : move.client.front.life ≡ c.front.life
  pub kept : IsKept c.desk.commits move.client.desk.commits move.turn.write

module _ (decl : Declaration) where
  front_keeps : (c : Client) (move : FrontMove) → IsCalm c.front move → Keeping c (by_front c move)
  front_keeps c move calm =
      record {
        life = calm.life;
        kept = subst (λ (o : Option Record). IsKept c.desk.commits c.desk.commits o) (sym calm.write) (nothing refl);
      }

  desk_keeps : (c : Client) (move : DeskMove) → IsKept c.desk.commits move.desk.commits move.turn.write
      → Keeping c (by_desk c move)
  desk_keeps c move kept = record { life = by (is_some move.turn.told); kept = kept }
    where
      by : (b : Bool) → (cond b (ended c.front move.desk.clock.value move.desk.epoch) c.front).life ≡ c.front.life
      by true = refl
      by false = refl

  prepare_keeps : (desk : Desk) (b : Begun) (clock : ℕ)
      → IsKept desk.commits (desks.prepare decl desk b clock).desk.commits (desks.prepare decl desk b clock).turn.write
  prepare_keeps desk b clock = by (length (participants decl desk.client b) == 0)
    where
      by : (t : Bool)
          → IsKept desk.commits
          (cond t (desks.decides (desks.passed desk clock) b)
          (desk_moved (desks.with_voting (desks.passed desk clock)
          (Some (record { begun = b; calls = []; ballots = blank (participants decl desk.client b) })))
          (sending (map (prepares b) (participants decl desk.client b))))).desk.commits
          (cond t (desks.decides (desks.passed desk clock) b)
          (desk_moved (desks.with_voting (desks.passed desk clock)
          (Some (record { begun = b; calls = []; ballots = blank (participants decl desk.client b) })))
          (sending (map (prepares b) (participants decl desk.client b))))).turn.write
      by true = commits_one _ refl
      by false = nothing refl

  out_keeps : (desk : Desk) (b : Begun) (why : Option AbortCause)
      → IsKept desk.commits (desks.counted_out desk b why).desk.commits (desks.counted_out desk b why).turn.write
  out_keeps desk b None = commits_one _ refl
  out_keeps desk b (Some why) = nothing refl

  vote_keeps : (desk : Desk) (number : ℕ) (answer : Option Answer)
      → IsKept desk.commits (desks.vote desk number answer).desk.commits (desks.vote desk number answer).turn.write
  vote_keeps desk number answer = by desk.voting
    where
      by : (o : Option Voting)
          → IsKept desk.commits (desks.votes_in desk o number answer).desk.commits
          (desks.votes_in desk o number answer).turn.write
      by None = nothing refl
      by (Some v) = at (site_called v.calls number)
        where
          at : (s : Option ℕ)
              → IsKept desk.commits (desks.votes_at desk v number answer s).desk.commits
              (desks.votes_at desk v number answer s).turn.write
          at None = nothing refl
          at (Some site) =
              subst (λ (cs : List CommitRecord). IsKept cs
              (desks.votes_at desk v number answer (Some site)).desk.commits
              (desks.votes_at desk v number answer (Some site)).turn.write) (learned-commits desk answer)
              (all (are_cast (cast v.ballots site (vote_of v.begun site answer))))
            where
              all : (t : Bool)
                  → IsKept (desks.learns desk answer).commits
                  (cond t
                  (desks.counted_out (desks.learns desk answer) v.begun
                  (first_against (cast v.ballots site (vote_of v.begun site answer))))
                  (desk_moved (desks.with_voting (desks.learns desk answer)
                  (Some (record {
                    begun = v.begun;
                    calls = without_call v.calls number;
                    ballots = cast v.ballots site (vote_of v.begun site answer);
                  }))) quiet)).desk.commits
                  (cond t
                  (desks.counted_out (desks.learns desk answer) v.begun
                  (first_against (cast v.ballots site (vote_of v.begun site answer))))
                  (desk_moved (desks.with_voting (desks.learns desk answer)
                  (Some (record {
                    begun = v.begun;
                    calls = without_call v.calls number;
                    ballots = cast v.ballots site (vote_of v.begun site answer);
                  }))) quiet)).turn.write
              all true =
                  out_keeps (desks.learns desk answer) v.begun
                  (first_against (cast v.ballots site (vote_of v.begun site answer)))
              all false = nothing refl

  commit_keeps : (c : Client) (t : Option Transaction) → Keeping c (commits decl c t)
  commit_keeps c None =
      front_keeps c (fronts.called decl c.front commands.Commit) (front_called decl c.front commands.Commit)
  commit_keeps c (Some t) = by t.begun.doomed
    where
      by : (b : Bool)
          → Keeping c
          (cond b (by_front c (fronts.called decl c.front commands.Commit))
          (by_desk c (desks.prepare decl c.desk t.begun c.front.clock.value)))
      by true = front_keeps c (fronts.called decl c.front commands.Commit) (front_called decl c.front commands.Commit)
      by false =
          desk_keeps c (desks.prepare decl c.desk t.begun c.front.clock.value)
          (prepare_keeps c.desk t.begun c.front.clock.value)

  call_keeps : (c : Client) (command : Command) → Keeping c (called decl c command)
  call_keeps c =
      called_cases decl c (Keeping c)
      (λ command. front_keeps c (fronts.called decl c.front command) (front_called decl c.front command))
      (commit_keeps c c.front.transaction)

  answer_keeps : (c : Client) (o : Option Voting) (number : ℕ) (answer : Option Answer)
      → Keeping c (answered_by decl c o number answer)
  answer_keeps c None number answer =
      front_keeps c (fronts.takes decl c.front number answer) (front_takes decl c.front number answer)
  answer_keeps c (Some v) number answer =
      desk_keeps c (desks.vote c.desk number answer) (vote_keeps c.desk number answer)

  hear_keeps : (c : Client) (from number : ℕ) (message : Message) → Keeping c (heard decl c from number message)
  hear_keeps c from number =
      heard_cases decl c from number (λ message move. Keeping c move)
      (λ message. record { life = refl; kept = nothing refl })
      (λ to answer. answer_keeps c c.desk.voting to (Some answer))
      (λ tx. record { life = refl; kept = nothing refl }) (λ tx. record { life = refl; kept = nothing refl })

  pub take_keeps : (c : Client) (given : Input) → Keeping c (client_takes decl c given)
  take_keeps c (Called command) = call_keeps c command
  take_keeps c (Got envelope) = hear_keeps c envelope.from envelope.number envelope.message
  take_keeps c (Lost number) = answer_keeps c c.desk.voting number None

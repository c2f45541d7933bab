-- The same of a client's input: what is open at a site stays the begun transaction, which knows that it asked the site.
use Rattle.std.proofs.Common.{◌≡◌, ℕ, ◌==◌, ◌&&◌, Bool, true, false, cond, List, [], ◌∷◌, map, length, Option, Some}
use Rattle.std.proofs.Common.{None, refl, sym, ap, ◌∙◌, subst}
use Rattle.qc_stamp.specs.declared.stamp.TxId.{TxId}
use Rattle.qc_stamp.specs.Vocabulary.{same_tx}
use Rattle.qc_decl.specs.declared.declaration.Declaration.{Declaration}
use Rattle.qc_msg.specs.declared.begun.Begun.{Begun}
use Rattle.qc_msg.specs.declared.message.Answer.{Answer}
use Rattle.qc_msg.specs.declared.message.Answer.TheVariants as answers
use Rattle.qc_msg.specs.declared.message.Message.{Message}
use Rattle.qc_msg.specs.declared.message.Message.TheVariants as messages
use Rattle.qc_msg.specs.declared.message.Outcome.TheVariants.{Aborted, Committed}
use Rattle.qc_msg.specs.declared.reply.AbortCause.{AbortCause}
use Rattle.qc_msg.specs.declared.step.Command.{Command}
use Rattle.qc_msg.specs.declared.step.Command.TheVariants as commands
use Rattle.qc_msg.specs.declared.step.Input.{Input}
use Rattle.qc_msg.specs.declared.step.Input.TheVariants as inputs
use Rattle.qc_msg.specs.Vocabulary.{quiet, sending, site_called, without_call}
use Rattle.qc_front.specs.declared.transaction.Transaction.{Transaction}
use Rattle.qc_front.specs.Conduct as fronts
use Rattle.qc_commit.specs.declared.desk.Desk.{Desk}
use Rattle.qc_commit.specs.declared.desk.Voting.{Voting}
use Rattle.qc_commit.specs.Conduct as desks
use Rattle.qc_commit.specs.Vocabulary.{are_cast, blank, cast, first_against, participants, prepares, vote_of}
use Rattle.qc_commit.specs.Desk as desk_moves
use Rattle.qc_client.specs.declared.client.Client.{Client}
use Rattle.qc_client.specs.Vocabulary.{ClientMove, answered_by, by_desk, by_front, called, client_takes, commits, heard}
use Rattle.qc_client.specs.Vocabulary.{outcome_of}
use Rattle.laws_turns.specs.Vocabulary.{begun_in}
use Rattle.laws_turns.proofs.DealtCommands.{IsInHand}
use Rattle.laws_guarantees.specs.Vocabulary.{open_said}
use Rattle.laws_guarantees.proofs.SitesTold.{Keeps, decision_less, ends, open_posted, silent, spoken}
use Rattle.laws_guarantees.proofs.AskedSites.{called_keeps, takes_keeps}
use Rattle.laws_guarantees.proofs.ClientCases.{called_cases, heard_cases}

module _ (s : ℕ) (x : TxId) where
  module _ (decl : Declaration) (c : Client) where
    abbrev Client_keeps : ClientMove → Type 0
    Client_keeps m = Keeps s x c.front.transaction m.client.front.transaction m.turn.sends

    -- the desk's: it asks for promises, or waits, or tells an end
    promises : (b : Begun) (sites : List ℕ) (before : Bool) → open_posted s x before (map (prepares b) sites) ≡ before
    promises b [] before = refl
    promises b (site ∷ sites) before = ap (λ (was : Bool). open_posted s x was (map (prepares b) sites))
        (one (site == s)) ∙ promises b sites before
      where
        one : (t : Bool) → cond t (cond (same_tx b.tx x && false) true before) before ≡ before
        one false = refl
        one true = by (same_tx b.tx x)
          where
            by : (u : Bool) → cond (u && false) true before ≡ before
            by true = refl
            by false = refl

    decides_keeps : (desk : Desk) (b : Begun) → begun_in c.front.transaction ≡ Some b
        → Client_keeps (by_desk c (desks.decides desk b))
    decides_keeps desk b is = ends s x b (Committed (desks.next_stamp desk)) c.front.transaction None is refl

    out_keeps : (desk : Desk) (b : Begun) (o : Option AbortCause) → begun_in c.front.transaction ≡ Some b
        → Client_keeps (by_desk c (desks.counted_out desk b o))
    out_keeps desk b (Some why) is = ends s x b Aborted c.front.transaction None is refl
    out_keeps desk b None is = decides_keeps desk b is

    prepare_keeps : (b : Begun) (clock : ℕ) → begun_in c.front.transaction ≡ Some b
        → Client_keeps (by_desk c (desks.prepare decl c.desk b clock))
    prepare_keeps b clock is = by (length (participants decl c.desk.client b) == 0)
      where
        by : (t : Bool) → Client_keeps (by_desk c (cond t (desks.decides (desks.passed c.desk clock) b)
            (desk_moves.moved (desks.with_voting (desks.passed c.desk clock)
            (Some (record { begun = b; calls = []; ballots = blank (participants decl c.desk.client b) })))
            (sending (map (prepares b) (participants decl c.desk.client b))))))
        by true = decides_keeps (desks.passed c.desk clock) b is
        by false = λ before has now. has (sym (promises b (participants decl c.desk.client b) before) ∙ now)

    vote_keeps : (v : Voting) (number : ℕ) (answer : Option Answer) → c.desk.voting ≡ Some v
        → begun_in c.front.transaction ≡ Some v.begun → Client_keeps (by_desk c (desks.vote c.desk number answer))
    vote_keeps v number answer is hand = subst
        (λ (o : Option Voting). Client_keeps (by_desk c (desks.votes_in c.desk o number answer))) (sym is)
        (at (site_called v.calls number))
      where
        by : (site : ℕ) (t : Bool) → Client_keeps
            (by_desk c (cond t (desks.counted_out (desks.learns c.desk answer) v.begun
            (first_against (cast v.ballots site (vote_of v.begun site answer))))
            (desk_moves.moved (desks.with_voting (desks.learns c.desk answer)
            (Some (record {
              begun = v.begun;
              calls = without_call v.calls number;
              ballots = cast v.ballots site (vote_of v.begun site answer);
            }))) quiet)))
        by site true = out_keeps (desks.learns c.desk answer) v.begun
            (first_against (cast v.ballots site (vote_of v.begun site answer))) hand
        by site false = silent s x c.front.transaction c.front.transaction [] refl (λ h. h)

        at : (o : Option ℕ) → Client_keeps (by_desk c (desks.votes_at c.desk v number answer o))
        at None = silent s x c.front.transaction c.front.transaction [] refl (λ h. h)
        at (Some site) = by site (are_cast (cast v.ballots site (vote_of v.begun site answer)))

    fronted : (command : Command) → Client_keeps (by_front c (fronts.called decl c.front command))
    fronted command = called_keeps s x decl c.front command

    committing : (o : Option Transaction) → c.front.transaction ≡ o → Client_keeps (commits decl c o)
    committing None is = fronted commands.Commit
    committing (Some t) is = by t.begun.doomed
      where
        by : (dead : Bool) → Client_keeps (cond dead (by_front c (fronts.called decl c.front commands.Commit))
            (by_desk c (desks.prepare decl c.desk t.begun c.front.clock.value)))
        by true = fronted commands.Commit
        by false = prepare_keeps t.begun c.front.clock.value (ap begun_in is)

    calls_keep : (command : Command) → Client_keeps (called decl c command)
    calls_keep command = called_cases decl c Client_keeps fronted (committing c.front.transaction refl) command

    comes_keep : IsInHand c.desk.voting c.front.transaction → (number : ℕ) (answer : Option Answer)
        → Client_keeps (answered_by decl c c.desk.voting number answer)
    comes_keep hand number answer = by c.desk.voting refl hand
      where
        by : (o : Option Voting) → c.desk.voting ≡ o → IsInHand o c.front.transaction
            → Client_keeps (answered_by decl c o number answer)
        by None is has = takes_keeps s x decl c.front c.front.doing c.front.transaction number answer refl
        by (Some v) is has = vote_keeps v number answer is has

    nothing : Keeps s x c.front.transaction c.front.transaction []
    nothing = silent s x c.front.transaction c.front.transaction [] refl (λ h. h)

    said : (to : ℕ) (m : Message) → ((before : Bool) → open_said x before m ≡ true → before ≡ true)
        → Keeps s x c.front.transaction c.front.transaction (record { to = to; message = m } ∷ [])
    said to m less before has now = has (spoken s x before to m (less before) now)

    hears : IsInHand c.desk.voting c.front.transaction → (from number : ℕ) (m : Message)
        → Client_keeps (heard decl c from number m)
    hears hand from number m = heard_cases decl c from number (λ m move. Client_keeps move) (λ m. nothing)
        (λ to answer. comes_keep hand to (Some answer))
        (λ y. said from (messages.Decision y (outcome_of c y)) (λ before. decision_less s x before y (outcome_of c y)))
        (λ y. said from (messages.Answer number (answers.Answered (outcome_of c y))) (λ before is. is)) m

    -- one input
    pub input_keeps : IsInHand c.desk.voting c.front.transaction → (g : Input) → Client_keeps (client_takes decl c g)
    input_keeps hand (inputs.Called command) = calls_keep command
    input_keeps hand (inputs.Got e) = hears hand e.from e.number e.message
    input_keeps hand (inputs.Lost number) = comes_keep hand number None

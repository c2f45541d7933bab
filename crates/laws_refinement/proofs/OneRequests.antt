-- No two open requests of a client are for one site. A round asks each site once, and so does a vote; while a commit
-- waits for votes, no round runs.
use Rattle.std.proofs.Common.{◌≡◌, ℕ, ◌+◌, ◌==◌, not, Bool, true, false, cond, List, [], ◌∷◌, ◌++◌, map, length}
use Rattle.std.proofs.Common.{Option, Some, None, refl, sym, ap, ◌∙◌, subst, append_assoc}
use Rattle.std.specs.Prelude.{is_none}
use Rattle.std.proofs.lemmas.List.{append-nil, map-append}
use Rattle.qc_decl.specs.declared.declaration.Declaration.{Declaration}
use Rattle.qc_msg.specs.declared.begun.Begun.{Begun}
use Rattle.qc_msg.specs.declared.call.Call.{Call}
use Rattle.qc_msg.specs.declared.message.Answer.{Answer}
use Rattle.qc_msg.specs.declared.message.Message.{Message}
use Rattle.qc_msg.specs.declared.message.Message.TheVariants as messages
use Rattle.qc_msg.specs.declared.message.Want.{Want}
use Rattle.qc_msg.specs.declared.message.Want.TheVariants.{Read, Append, Prepare}
use Rattle.qc_msg.specs.declared.reply.AbortCause.{AbortCause}
use Rattle.qc_msg.specs.declared.step.Command.{Command}
use Rattle.qc_msg.specs.declared.step.Command.TheVariants as commands
use Rattle.qc_msg.specs.declared.turn.Posting.{Posting}
use Rattle.qc_msg.specs.Vocabulary.{quiet, sending, site_called, with_call, without_call}
use Rattle.qc_plan.specs.declared.standing.Asked.{Asked}
use Rattle.qc_plan.specs.Vocabulary.{RoundState}
use Rattle.qc_commit.specs.declared.ballot.Ballot.{Ballot}
use Rattle.qc_commit.specs.declared.desk.Desk.{Desk}
use Rattle.qc_commit.specs.declared.desk.Voting.{Voting}
use Rattle.qc_commit.specs.Vocabulary.{DeskMove, are_cast, blank, cast, counted_out, decides, first_against, gives_up}
use Rattle.qc_commit.specs.Vocabulary.{learns, moved, participants, passed, prepare, prepared_in, prepares, vote_of}
use Rattle.qc_commit.specs.Vocabulary.{votes_at, votes_in, with_voting}
use Rattle.qc_front.specs.declared.doing.Doing.{Doing}
use Rattle.qc_front.specs.declared.doing.Doing.TheVariants.{Idle}
use Rattle.qc_front.specs.declared.front.Front.{Front}
use Rattle.qc_front.specs.declared.transaction.Transaction.{Transaction}
use Rattle.qc_front.specs.Conduct as fronts
use Rattle.qc_front.specs.Vocabulary.{AreApart, FrontMove, IsPrefix, IsRound, awaited, sites_called}
use Rattle.qc_front.proofs.Apart.{apart_first}
use Rattle.qc_front.proofs.NotedRounds.{round_apart}
use Rattle.qc_client.specs.Vocabulary.{IsFree, by_desk, by_front, called, commits, requested, sent_one}
use Rattle.qc_client.specs.declared.client.Client.{Client}
use Rattle.laws_refinement.specs.Vocabulary.{sent_all}
use Rattle.laws_refinement.proofs.Different.{kept_different, participants_different}

-- a round

abbrev site_of : Asked → ℕ
site_of a = a.site

round_different : (decl : Declaration) (client epoch need : ℕ) (calls : List Call) (r : RoundState)
    → IsRound decl client epoch need r → IsPrefix (sites_called calls) (awaited r)
    → AreApart (sites_called calls)
round_different decl client epoch need calls r is prefix =
    apart_first (sites_called calls) prefix.more
    (subst AreApart (sym prefix.is)
    (kept_different site_of (λ (a : Asked). is_none a.standing) r.asked (round_apart decl client epoch need r is)))

-- a vote: nothing of the front end is open, and its requests are for different sites

abbrev pub VotesStand : Doing → Option Voting → Type 0
VotesStand doing None = Unit {0}
VotesStand doing (Some v) = (doing ≡ Idle) × AreApart (sites_called v.calls)

abbrev pub Stands : Client → Type 0
Stands c = VotesStand c.front.doing c.desk.voting

unvoted : (c : Client) → c.desk.voting ≡ None → Stands c
unvoted c none = subst (λ (o : Option Voting). VotesStand c.front.doing o) (sym none) tt

-- where no commit waits, messages change nothing of that

prepared_none : (desk : Desk) (o : Option Voting) (n to : ℕ) → o ≡ None → desk.voting ≡ None
    → (prepared_in desk o n to).voting ≡ None
prepared_none desk None n to is none = none
prepared_none desk (Some v) n to is none = absurd (let never : ⊥ = cc in never)

want_none : (c : Client) (n to : ℕ) (want : Want) → c.desk.voting ≡ None → (requested c n to want).desk.voting ≡ None
want_none c n to (Read read) none = none
want_none c n to (Append object view own) none = none
want_none c n to Prepare none = prepared_none c.desk c.desk.voting n to none none

one_none : (c : Client) (n to : ℕ) (message : Message) → c.desk.voting ≡ None
    → (sent_one c n to message).desk.voting ≡ None
one_none c n to (messages.Request tx epoch life want) none = want_none c n to want none
one_none c n to (messages.Answer number answer) none = none
one_none c n to (messages.Decision tx verdict) none = none
one_none c n to (messages.Inquiry tx) none = none
one_none c n to (messages.Ask tx) none = none
one_none c n to (messages.Close epoch) none = none
one_none c n to (messages.Install start) none = none

all_none : (c : Client) (n : ℕ) (ps : List Posting) → c.desk.voting ≡ None → (sent_all c n ps).desk.voting ≡ None
all_none c n [] none = none
all_none c n (p ∷ ps) none = all_none (sent_one c n p.to p.message) (n + 1) ps (one_none c n p.to p.message none)

ends : (c : Client) (n : ℕ) (ps : List Posting) → c.desk.voting ≡ None → Stands (sent_all c n ps)
ends c n ps none = unvoted (sent_all c n ps) (all_none c n ps none)

-- Prepares are sent to different sites

asks : (front : Front) (desk : Desk) (v : Voting) (b : Begun) (sites : List ℕ) (n : ℕ) → front.doing ≡ Idle
    → AreApart (sites_called v.calls ++ sites)
    → Stands (sent_all (record { front = front; desk = with_voting desk (Some v) }) n (map (prepares b) sites))
asks front desk v b [] n idle different = (idle, subst AreApart (append-nil (sites_called v.calls)) different)
asks front desk v b (site ∷ sites) n idle different =
    asks front desk (record v { calls = with_call v.calls n site }) b sites (n + 1) idle
    (subst AreApart
    (sym (ap (λ (ss : List ℕ). ss ++ sites)
    (map-append (λ (c : Call). c.site) v.calls (record { number = n; site = site } ∷ []))
    ∙ append_assoc (sites_called v.calls) (site ∷ []) sites)) different)

module _ (decl : Declaration) where
  pub front_turn : (c : Client) (move : FrontMove) (n : ℕ) → c.desk.voting ≡ None
      → Stands (sent_all (by_front c move).client n (by_front c move).turn.sends)
  front_turn c move n none = ends (by_front c move).client n (by_front c move).turn.sends none

  -- a commit begins, and waits for votes or ends at once
  abbrev begins : Client → Begun → Bool → DeskMove
  begins c b t =
      cond t (decides (passed c.desk c.front.clock.value) b)
      (moved (with_voting (passed c.desk c.front.clock.value)
      (Some (record { begun = b; calls = []; ballots = blank (participants decl c.desk.client b) })))
      (sending (map (prepares b) (participants decl c.desk.client b))))

  prepare_stands : (c : Client) (b : Begun) (n : ℕ) → IsFree c
      → Stands (sent_all (by_desk c (prepare decl c.desk b c.front.clock.value)).client n
      (by_desk c (prepare decl c.desk b c.front.clock.value)).turn.sends)
  prepare_stands c b n free = by (length (participants decl c.desk.client b) == 0)
    where
      by : (t : Bool) → Stands (sent_all (by_desk c (begins c b t)).client n (by_desk c (begins c b t)).turn.sends)
      by true = ends (by_desk c (begins c b true)).client n (by_desk c (begins c b true)).turn.sends refl
      by false = asks c.front (passed c.desk c.front.clock.value)
          (record { begun = b; calls = []; ballots = blank (participants decl c.desk.client b) }) b
          (participants decl c.desk.client b) n free.doing
          (participants_different decl c.desk.client b)

  commit_stands : (c : Client) (o : Option Transaction) (n : ℕ) → IsFree c
      → Stands (sent_all (commits decl c o).client n (commits decl c o).turn.sends)
  commit_stands c None n free = front_turn c (fronts.called decl c.front commands.Commit) n free.voting
  commit_stands c (Some t) n free = by t.begun.doomed
    where
      by : (b : Bool) → Stands (sent_all (cond b (by_front c (fronts.called decl c.front commands.Commit))
          (by_desk c (prepare decl c.desk t.begun c.front.clock.value))).client n
          (cond b (by_front c (fronts.called decl c.front commands.Commit))
          (by_desk c (prepare decl c.desk t.begun c.front.clock.value))).turn.sends)
      by true = front_turn c (fronts.called decl c.front commands.Commit) n free.voting
      by false = prepare_stands c t.begun n free

  pub called_stands : (c : Client) (command : Command) (n : ℕ) → IsFree c
      → Stands (sent_all (called decl c command).client n (called decl c command).turn.sends)
  called_stands c commands.Begin n free = front_turn c (fronts.called decl c.front commands.Begin) n free.voting
  called_stands c (commands.Do object inv) n free =
      front_turn c (fronts.called decl c.front (commands.Do object inv)) n free.voting
  called_stands c commands.Commit n free = commit_stands c c.front.transaction n free
  called_stands c commands.Abort n free = front_turn c (fronts.called decl c.front commands.Abort) n free.voting
  called_stands c (commands.Epoch number) n free =
      front_turn c (fronts.called decl c.front (commands.Epoch number)) n free.voting

  -- a vote comes

  counted_stands : (c : Client) (desk : Desk) (b : Begun) (o : Option AbortCause) (n : ℕ)
      → Stands (sent_all (by_desk c (counted_out desk b o)).client n (by_desk c (counted_out desk b o)).turn.sends)
  counted_stands c desk b (Some why) n =
      ends (by_desk c (gives_up desk b why)).client n (by_desk c (gives_up desk b why)).turn.sends refl
  counted_stands c desk b None n =
      ends (by_desk c (decides desk b)).client n (by_desk c (decides desk b)).turn.sends refl

  -- with these ballots, and whether all are cast
  abbrev counts_by : Desk → Voting → ℕ → Option Answer → List Ballot → Bool → DeskMove
  counts_by desk v number answer ballots t =
      cond t (counted_out (learns desk answer) v.begun (first_against ballots))
      (moved (with_voting (learns desk answer)
      (Some (record { begun = v.begun; calls = without_call v.calls number; ballots = ballots }))) quiet)

  voted_stands : (c : Client) (v : Voting) (number : ℕ) (answer : Option Answer) (n : ℕ) (o : Option ℕ)
      → c.desk.voting ≡ Some v → VotesStand c.front.doing (Some v)
      → Stands (sent_all (by_desk c (votes_at c.desk v number answer o)).client n
      (by_desk c (votes_at c.desk v number answer o)).turn.sends)
  voted_stands c v number answer n None is s =
      subst (λ (o : Option Voting). VotesStand c.front.doing o) (sym is) s
  voted_stands c v number answer n (Some site) is s =
      by (cast v.ballots site (vote_of v.begun site answer))
      (are_cast (cast v.ballots site (vote_of v.begun site answer)))
    where
      by : (ballots : List Ballot) (t : Bool)
          → Stands (sent_all (by_desk c (counts_by c.desk v number answer ballots t)).client n
          (by_desk c (counts_by c.desk v number answer ballots t)).turn.sends)
      by ballots true = counted_stands c (learns c.desk answer) v.begun (first_against ballots) n
      by ballots false =
          (s.0, kept_different (λ (k : Call). k.site) (λ (k : Call). not (k.number == number)) v.calls s.1)

  pub vote_stands : (c : Client) (o : Option Voting) (number : ℕ) (answer : Option Answer) (n : ℕ) → c.desk.voting ≡ o
      → VotesStand c.front.doing o
      → Stands (sent_all (by_desk c (votes_in c.desk o number answer)).client n
      (by_desk c (votes_in c.desk o number answer)).turn.sends)
  vote_stands c None number answer n is s = subst (λ (o : Option Voting). VotesStand c.front.doing o) (sym is) s
  vote_stands c (Some v) number answer n is s = voted_stands c v number answer n (site_called v.calls number) is s

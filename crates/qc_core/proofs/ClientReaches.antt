-- A client's turns go to actors, and are short.
use Rattle.std.proofs.Common.{◌≡◌, ℕ, zero, suc, ◌+◌, ◌-◌, ◌%◌, ◌<◌, ◌≤◌, ◌==◌, Bool, true, false, cond, List, [], ◌∷◌}
use Rattle.std.proofs.Common.{length, map, Option, Some, None, is_some, refl, sym, ap, subst, arith}
use Rattle.std.specs.List.{AllByRecursion as Every, range_with_len}
use Rattle.std.proofs.lemmas.List.{length-map}
use Rattle.qc_list.proofs.Members.{every-append, every-filter, length-filter}
use Rattle.qc_decl.specs.declared.declaration.Declaration.{Declaration}
use Rattle.qc_decl.specs.Vocabulary.{IsAccepted, first_site}
use Rattle.qc_plan.specs.Vocabulary.{cyclic}
use Rattle.qc_commit.specs.declared.ballot.Ballot.{Ballot}
use Rattle.qc_commit.specs.declared.desk.Desk.{Desk}
use Rattle.qc_commit.specs.declared.desk.Voting.{Voting}
use Rattle.qc_commit.specs.Conduct as desks
use Rattle.qc_commit.specs.Vocabulary.{DeskMove, are_cast, blank, cast, first_against, moved as desk_moved}
use Rattle.qc_commit.specs.Vocabulary.{participants, prepares, vote_of}
use Rattle.qc_front.specs.declared.transaction.Transaction.{Transaction}
use Rattle.qc_front.specs.Conduct as fronts
use Rattle.qc_front.specs.Vocabulary.{FrontHolds, FrontMove, ended}
use Rattle.qc_msg.specs.declared.begun.Begun.{Begun}
use Rattle.qc_msg.specs.declared.message.Answer.{Answer}
use Rattle.qc_msg.specs.declared.message.Message.{Message}
use Rattle.qc_msg.specs.declared.message.Message.TheVariants as messages
use Rattle.qc_msg.specs.declared.message.Outcome.{Outcome}
use Rattle.qc_msg.specs.declared.message.Outcome.TheVariants as outcomes
use Rattle.qc_msg.specs.declared.reply.Reply.{Reply}
use Rattle.qc_msg.specs.declared.reply.AbortCause.{AbortCause}
use Rattle.qc_msg.specs.declared.step.Command.{Command}
use Rattle.qc_msg.specs.declared.step.Command.TheVariants as commands
use Rattle.qc_msg.specs.declared.step.Input.{Input}
use Rattle.qc_msg.specs.declared.step.Input.TheVariants as inputs
use Rattle.qc_msg.specs.declared.turn.Posting.{Posting}
use Rattle.qc_msg.specs.declared.turn.Turn.{Turn}
use Rattle.qc_msg.specs.Vocabulary.{decisions, has_granted, quiet, sending, site_called, without_call}
use Rattle.qc_client.specs.declared.client.Client.{Client}
use Rattle.qc_client.specs.Vocabulary.{ClientMove, answered, answered_by, by_desk, by_front, called, client_takes}
use Rattle.qc_client.specs.Vocabulary.{commits, heard, moved, new_client, sent, sent_by}
use Rattle.qc_core.specs.Vocabulary.{IsFrom, IsShort}
use Rattle.qc_core.proofs.FewSites.{AreSites}
use Rattle.qc_core.proofs.FrontReaches.{Reaches, asked_in, called_reaches, takes_reaches, verdicts_few, verdicts_reach}
use Rattle.qc_link.specs.Vocabulary.{most_actors}
use Rattle.qc_plan.proofs.Rounds.{length-cyclic}

-- the sites that a client's transactions asked are sites

abbrev pub asked_voting : Option Voting → List ℕ
asked_voting None = []
asked_voting (Some v) = v.begun.asked

pub record AskedFit (n : ℕ) (c : Client) : Type 0 where
  pub front : AreSites n (asked_in c.front.transaction)
  pub voting : AreSites n (asked_voting c.desk.voting)

abbrev pub no_sites : (n : ℕ) → AreSites n []
no_sites n = record { below = tt; ascends = tt }

pub record ClientReach (n : ℕ) (m : ClientMove) : Type 0 where
  pub turn : IsShort m.turn
  pub asked : AskedFit n m.client

lower : (n : ℕ) → n ≤ 16 → (ps : List Posting) → Every (λ (p : Posting). p.to < n) ps
    → Every (λ (p : Posting). p.to < most_actors) ps
lower n few [] all = tt
lower n few (p ∷ ps) all = (let low : p.to < n = all.0 in omega arith, lower n few ps all.1)

pub quiet_short : IsShort quiet
quiet_short = record { receivers = tt; few = omega arith }

quiet_reach : (n : ℕ) (c : Client) → AskedFit n c → ClientReach n (moved c quiet)
quiet_reach n c are = record { turn = quiet_short; asked = are }

pub one_short : (to : ℕ) (m : Message) → to < most_actors → IsShort (sending (record { to = to; message = m } ∷ []))
one_short to m low = record { receivers = (low, tt); few = omega arith }

front_reach : (n : ℕ) (c : Client) (m : FrontMove) → n ≤ 16 → AskedFit n c → Reaches n m → ClientReach n (by_front c m)
front_reach n c m few are r = record {
  turn = record {
    receivers = lower n few m.turn.sends r.sends;
    few = let least : length m.turn.sends ≤ n = r.few in
        omega arith;
  };
  asked = record { front = r.asked; voting = are.voting };
}

-- a desk's move

after_desk : (n : ℕ) (c : Client) (desk : Desk) (o : Option Reply) → AskedFit n c
    → AreSites n (asked_voting desk.voting) → AskedFit n
    (record { front = cond (is_some o) (ended c.front desk.clock.value desk.epoch) c.front; desk = desk })
after_desk n c desk None are voting = record { front = are.front; voting = voting }
after_desk n c desk (Some reply) are voting = record { front = no_sites n; voting = voting }

desk_reach : (n : ℕ) (c : Client) (m : DeskMove) → AskedFit n c → IsShort m.turn
    → AreSites n (asked_voting m.desk.voting) → ClientReach n (by_desk c m)
desk_reach n c m are short voting = record { turn = short; asked = after_desk n c m.desk m.turn.told are voting }

verdicts_short : (n : ℕ) (b : Begun) (v : Outcome) (turn : Turn) → n ≤ 16 → AreSites n b.asked
    → turn.sends ≡ decisions b v → IsShort turn
verdicts_short n b v turn few are is = record {
  receivers = subst (Every (λ (p : Posting). p.to < most_actors)) (sym is)
      (lower n few (decisions b v) (verdicts_reach n b v b.asked are.below));
  few = subst (λ (ps : List Posting). length ps ≤ 16) (sym is)
      (let least : length (decisions b v) ≤ n = verdicts_few n b v are in omega arith);
}

range_below : (from count n : ℕ) → from + count ≤ n → Every (λ x. x < n) (range_with_len from count)
range_below from zero n low = tt
range_below from (suc count) n low = (omega arith, range_below (from + 1) count n (omega arith))

cyclic_below : (n from : ℕ) → from ≤ n → Every (λ x. x < n) (cyclic n from)
cyclic_below n from low = every-append (λ x. x < n) (range_with_len from (n - from)) (range_with_len 0 from)
    (range_below from (n - from) n (omega arith)) (range_below 0 from n (omega arith))

prepares_below : (n : ℕ) (b : Begun) (sites : List ℕ) → Every (λ x. x < n) sites
    → Every (λ (p : Posting). p.to < n) (map (prepares b) sites)
prepares_below n b [] all = tt
prepares_below n b (site ∷ sites) all = (all.0, prepares_below n b sites all.1)

module _ (decl : Declaration) (accepted : IsAccepted decl) where
  first_low : (client : ℕ) → first_site decl client ≤ decl.sites
  first_low client = let some : 0 < decl.sites = accepted.has_site in
      let low : client % decl.sites < decl.sites = omega arith in omega arith

  prepares_short : (client : ℕ) (b : Begun) → IsShort (sending (map (prepares b) (participants decl client b)))
  prepares_short client b = record {
    receivers = lower decl.sites accepted.sites _ (prepares_below decl.sites b (participants decl client b)
        (every-filter (λ x. x < decl.sites) (has_granted b.lives) (cyclic decl.sites (first_site decl client))
        (cyclic_below decl.sites (first_site decl client) (first_low client))));
    few =
        let same : length (map (prepares b) (participants decl client b)) ≡ length (participants decl client b) =
        length-map (participants decl client b) (prepares b) in
        let fewer : length (participants decl client b) ≤ length (cyclic decl.sites (first_site decl client)) =
        length-filter (has_granted b.lives) (cyclic decl.sites (first_site decl client)) in
        let whole : length (cyclic decl.sites (first_site decl client)) ≡ decl.sites =
        length-cyclic decl.sites (first_site decl client) (first_low client) in
        let most : decl.sites ≤ 16 = accepted.sites in
        omega arith;
  }

  prepare_reach : (c : Client) (b : Begun) (clock : ℕ) → AskedFit decl.sites c → AreSites decl.sites b.asked
      → ClientReach decl.sites (by_desk c (desks.prepare decl c.desk b clock))
  prepare_reach c b clock are asked = by (length (participants decl c.desk.client b) == 0)
    where
      by : (x : Bool) → ClientReach decl.sites (by_desk c (cond x (desks.decides (desks.passed c.desk clock) b)
          (desk_moved (desks.with_voting (desks.passed c.desk clock)
          (Some (record { begun = b; calls = []; ballots = blank (participants decl c.desk.client b) })))
          (sending (map (prepares b) (participants decl c.desk.client b))))))
      by true = desk_reach decl.sites c (desks.decides (desks.passed c.desk clock) b) are
          (verdicts_short decl.sites b (outcomes.Committed (desks.next_stamp (desks.passed c.desk clock)))
          (desks.decides (desks.passed c.desk clock) b).turn accepted.sites asked refl) (no_sites decl.sites)
      by false = desk_reach decl.sites c _ are (prepares_short c.desk.client b) asked

  vote_reach : (c : Client) (v : Voting) (number : ℕ) (answer : Option Answer) → AskedFit decl.sites c
      → AreSites decl.sites v.begun.asked → (o : Option ℕ)
      → ClientReach decl.sites (by_desk c (desks.votes_at c.desk v number answer o))
  vote_reach c v number answer are asked None = quiet_reach decl.sites c are
  vote_reach c v number answer are asked (Some site) = counted (are_cast ballots)
    where
      ballots : List Ballot
      ballots = cast v.ballots site (vote_of v.begun site answer)

      learned : Desk
      learned = desks.learns c.desk answer

      out : (o : Option AbortCause) → ClientReach decl.sites (by_desk c (desks.counted_out learned v.begun o))
      out (Some why) = desk_reach decl.sites c (desks.gives_up learned v.begun why) are
          (verdicts_short decl.sites v.begun outcomes.Aborted (desks.abort_turn v.begun why) accepted.sites asked refl)
          (no_sites decl.sites)
      out None = desk_reach decl.sites c (desks.decides learned v.begun) are
          (verdicts_short decl.sites v.begun (outcomes.Committed (desks.next_stamp learned))
          (desks.decides learned v.begun).turn accepted.sites asked refl) (no_sites decl.sites)

      counted : (x : Bool) → ClientReach decl.sites
          (by_desk c (cond x (desks.counted_out learned v.begun (first_against ballots))
          (desk_moved (desks.with_voting learned (Some
          (record { begun = v.begun; calls = without_call v.calls number; ballots = ballots }))) quiet)))
      counted true = out (first_against ballots)
      counted false = desk_reach decl.sites c _ are quiet_short asked

  answered_reach : (c : Client) (number : ℕ) (answer : Option Answer) → FrontHolds decl c.front → AskedFit decl.sites c
      → ClientReach decl.sites (answered decl c number answer)
  answered_reach c number answer h are = by c.desk.voting refl
    where
      by : (o : Option Voting) → c.desk.voting ≡ o → ClientReach decl.sites (answered_by decl c o number answer)
      by None is = front_reach decl.sites c (fronts.takes decl c.front number answer) accepted.sites are
          (takes_reaches decl accepted c.front number answer h are.front)
      by (Some v) is =
          subst (λ (m : DeskMove). ClientReach decl.sites (by_desk c m))
          (ap (λ (o : Option Voting). desks.votes_in c.desk o number answer) (sym is))
          (vote_reach c v number answer are (subst
          (λ (o : Option Voting). AreSites decl.sites (asked_voting o)) is are.voting) (site_called v.calls number))

  heard_reach : (c : Client) (from number : ℕ) (m : Message) → from < most_actors → FrontHolds decl c.front
      → AskedFit decl.sites c → ClientReach decl.sites (heard decl c from number m)
  heard_reach c from number (messages.Request tx epoch life want) low h are = quiet_reach decl.sites c are
  heard_reach c from number (messages.Answer to answer) low h are = answered_reach c to (Some answer) h are
  heard_reach c from number (messages.Decision tx verdict) low h are = quiet_reach decl.sites c are
  heard_reach c from number (messages.Inquiry tx) low h are = record { turn = one_short from _ low; asked = are }
  heard_reach c from number (messages.Ask tx) low h are = record { turn = one_short from _ low; asked = are }
  heard_reach c from number (messages.Close epoch) low h are = quiet_reach decl.sites c are
  heard_reach c from number (messages.Install start) low h are = quiet_reach decl.sites c are

  front_command : (c : Client) (command : Command) → AskedFit decl.sites c
      → ClientReach decl.sites (by_front c (fronts.called decl c.front command))
  front_command c command are = front_reach decl.sites c (fronts.called decl c.front command) accepted.sites are
      (called_reaches decl accepted c.front command are.front)

  commits_reach : (c : Client) (o : Option Transaction) → AskedFit decl.sites c → AreSites decl.sites (asked_in o)
      → ClientReach decl.sites (commits decl c o)
  commits_reach c None are asked = front_command c commands.Commit are
  commits_reach c (Some t) are asked = by t.begun.doomed
    where
      by : (dead : Bool) → ClientReach decl.sites
          (cond dead (by_front c (fronts.called decl c.front commands.Commit))
          (by_desk c (desks.prepare decl c.desk t.begun c.front.clock.value)))
      by true = front_command c commands.Commit are
      by false = prepare_reach c t.begun c.front.clock.value are asked

  called_reach : (c : Client) (command : Command) → AskedFit decl.sites c
      → ClientReach decl.sites (called decl c command)
  called_reach c commands.Begin are = front_command c commands.Begin are
  called_reach c (commands.Do object inv) are = front_command c (commands.Do object inv) are
  called_reach c commands.Commit are = commits_reach c c.front.transaction are are.front
  called_reach c commands.Abort are = front_command c commands.Abort are
  called_reach c (commands.Epoch number) are = front_command c (commands.Epoch number) are

  pub client_reach : (c : Client) (g : Input) → IsFrom g → FrontHolds decl c.front → AskedFit decl.sites c
      → ClientReach decl.sites (client_takes decl c g)
  client_reach c (inputs.Called command) from h are = called_reach c command are
  client_reach c (inputs.Got e) from h are = heard_reach c e.from e.number e.message from h are
  client_reach c (inputs.Lost number) from h are = answered_reach c number None h are

pub new_asked : (n k : ℕ) → AskedFit n (new_client k)
new_asked n k = record { front = no_sites n; voting = no_sites n }

pub sent_asked : (n : ℕ) (c : Client) (first : ℕ) → AskedFit n c → AskedFit n (sent c first)
sent_asked n c first are = by c.desk.voting refl
  where
    by : (o : Option Voting) → c.desk.voting ≡ o → AskedFit n (sent_by c o first)
    by None is = record { front = are.front; voting = are.voting }
    by (Some v) is = record { front = are.front; voting = voting c.desk.voting are.voting }
      where
        voting : (p : Option Voting) → AreSites n (asked_voting p)
            → AreSites n (asked_voting (desks.sent_in c.desk p first).voting)
        voting None old = are.voting
        voting (Some w) old = old

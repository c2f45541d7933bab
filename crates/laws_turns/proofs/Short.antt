-- Turns are short: a site answers with at most two messages, a client asks or tells each site once.
use Rattle.std.proofs.Common.{ℕ, ◌-◌, ◌≤◌, Bool, true, false, cond, List, [], ◌∷◌, fold, length, Option, Some, None}
use Rattle.std.proofs.Common.{is_some, sym, subst, arith}
use Rattle.std.specs.List.{AllByRecursion as Every}
use Rattle.std.proofs.lemmas.List.Sums.{fold-append}
use Rattle.qc_decl.specs.Vocabulary.{IsAccepted}
use Rattle.qc_decl.specs.declared.declaration.Declaration.{Declaration}
use Rattle.qc_msg.specs.declared.message.Answer.{Answer}
use Rattle.qc_msg.specs.declared.message.Message.{Message}
use Rattle.qc_msg.specs.declared.message.Message.TheVariants as messages
use Rattle.qc_msg.specs.declared.message.Outcome.TheVariants.{Committed, Aborted, Active}
use Rattle.qc_msg.specs.declared.message.Want.TheVariants.{Append, Prepare, Read}
use Rattle.qc_msg.specs.declared.step.Command.{Command}
use Rattle.qc_msg.specs.declared.step.Command.TheVariants as commands
use Rattle.qc_msg.specs.declared.step.Input.{Input}
use Rattle.qc_msg.specs.declared.step.Input.TheVariants as inputs
use Rattle.qc_msg.specs.Vocabulary.{Deed, Falls, Rises, Sends, Takes, Tells, Writes, quiet, turn_deeds, Requested}
use Rattle.qc_msg.specs.declared.message.Want.{Want}
use Rattle.qc_msg.specs.declared.message.Outcome.{Outcome}
use Rattle.qc_commit.specs.declared.desk.Voting.{Voting}
use Rattle.qc_commit.specs.Conduct as desks
use Rattle.qc_commit.specs.Vocabulary.{AsksFew, DeskMove}
use Rattle.qc_front.specs.declared.transaction.Transaction.{Transaction}
use Rattle.qc_front.specs.Conduct as fronts
use Rattle.qc_front.specs.Vocabulary.{FrontHolds, FrontMove, ended}
use Rattle.qc_client.specs.declared.client.Client.{Client}
use Rattle.qc_client.specs.Vocabulary.{ClientMove, answered, answered_by, by_desk, by_front, called, client_after}
use Rattle.qc_client.specs.Vocabulary.{client_does, client_takes, commits, heard, moved, new_client, sent_one}
use Rattle.qc_core.specs.Vocabulary.{Acts, posts, starts, takes}
use Rattle.qc_site.specs.Vocabulary.{SiteMove, SiteState, moved as site_moved, new_site, passed, site_after, site_at}
use Rattle.qc_site.specs.Vocabulary.{site_does, site_takes, finishes}
use Rattle.qc_site.proofs.RequestCases.{append_cases, close_cases, join_cases, prepare_cases, read_cases, request_cases}
use Rattle.qc_site.proofs.Cases.{install_cases}
use Rattle.qc_stamp.specs.declared.stamp.TxId.{TxId}
use Rattle.laws_turns.specs.Vocabulary.{AskedSites, AsksSites, VotedSites}
use Rattle.laws_turns.proofs.AskedMoves.{IsShort, called-short, takes_short}
use Rattle.laws_turns.proofs.Bounding.{turn-posts}
use Rattle.laws_turns.proofs.ClientsWithin.{IsPost}
use Rattle.laws_turns.proofs.DesksShort.{IsDeskShort, prepare_short, vote_short}
use Rattle.laws_turns.proofs.ClientCases.{called_cases, heard_cases, sent_cases}
use Rattle.laws_turns.proofs.SiteCases.{site_cases}

-- a site

abbrev FewSent : SiteMove → Type 0
FewSent m = length m.turn.sends ≤ 2

site_short : (decl : Declaration) (s : SiteState) (from number : ℕ) (message : Message)
    → FewSent (site_at decl s from number message)
site_short decl s from number message =
    site_cases decl s from number (λ m move. FewSent move) (λ m. omega arith) (λ q. asked q q.want) ended
    (λ k. close_cases FewSent s from number k (λ answer. omega arith) (λ near later. omega arith))
    (λ k clock lines. install_cases FewSent s from number k clock lines (λ answer. omega arith)
    (λ later fits. omega arith)) message
  where
    asked : (q : Requested) (want : Want)
        → FewSent (site_at decl s from number (messages.Request q.tx q.epoch q.life want))
    asked q (Read read) =
        request_cases FewSent decl s from number q.tx q.epoch q.life (Read read) (omega arith)
        (λ fault is. omega arith)
        (λ is. read_cases FewSent decl s from number q.tx read (λ free. omega arith)
        (λ c clash. omega arith))
    asked q (Append object view own) =
        request_cases FewSent decl s from number q.tx q.epoch q.life (Append object view own) (omega arith)
        (λ fault is. omega arith)
        (λ is. append_cases FewSent decl s from number q.tx object view own (λ free. omega arith)
        (λ c clash. omega arith))
    asked q Prepare =
        request_cases FewSent decl s from number q.tx q.epoch q.life Prepare (omega arith) (λ fault is. omega arith)
        (λ is. prepare_cases FewSent s from number q.tx (omega arith) (λ held stands. omega arith)
        (λ held made. omega arith))

    ended : (tx : TxId) (verdict : Outcome) → FewSent (finishes s tx verdict)
    ended tx (Committed stamp) = join_cases FewSent s tx stamp (λ none. omega arith) (λ p some. omega arith)
    ended tx Aborted = omega arith
    ended tx Active = omega arith

site_takes_short : (decl : Declaration) (s : SiteState) (g : Input) → FewSent (site_takes decl s g)
site_takes_short decl s (inputs.Called command) = omega arith
site_takes_short decl s (inputs.Got e) = site_short decl (passed s e.message) e.from e.number e.message
site_takes_short decl s (inputs.Lost number) = omega arith

sites_fold : (decl : Declaration) (m : SiteMove) (ds : List Deed) → FewSent m → FewSent (fold (site_does decl) m ds)
sites_fold decl m [] few = few
sites_fold decl m (Takes g ∷ ds) few = sites_fold decl (site_takes decl m.site g) ds (site_takes_short decl m.site g)
sites_fold decl m (Writes written ∷ ds) few = sites_fold decl m ds few
sites_fold decl m (Sends number to message ∷ ds) few = sites_fold decl m ds few
sites_fold decl m (Tells reply ∷ ds) few = sites_fold decl m ds few
sites_fold decl m (Falls cause pending ∷ ds) few = sites_fold decl m ds few
sites_fold decl m (Rises records ∷ ds) few = sites_fold decl m ds few

-- whatever it took
pub sites_short : (decl : Declaration) (number : ℕ) (ds : List Deed) → length (site_after decl number ds).turn.sends ≤ 2
sites_short decl number ds = sites_fold decl (site_moved (new_site number) quiet) ds (omega arith)

-- a client

pub record IsClientShort (decl : Declaration) (m : ClientMove) : Type 0 where
  pub asks : AsksSites decl m.client
  pub few : length m.turn.sends ≤ 16

-- what a client's calls rely on between two inputs
pub record IsReadyFor (decl : Declaration) (c : Client) : Type 0 where
  pub front : FrontHolds decl c.front
  pub few : AsksFew c.desk.voting

module _ (decl : Declaration) (accepted : IsAccepted decl) (c : Client) (asks : AsksSites decl c)
    (ready : IsReadyFor decl c) where
  silent : IsClientShort decl (moved c quiet)
  silent = record { asks = asks; few = omega arith }

  front_short : (m : FrontMove) → IsShort decl m → IsClientShort decl (by_front c m)
  front_short m short = record { asks = record { front = short.asked; desk = asks.desk }; few = short.few }

  desk_short : (m : DeskMove) → IsDeskShort decl m → IsClientShort decl (by_desk c m)
  desk_short m short = record {
    asks = record { front = by (is_some m.turn.told); desk = short.asked };
    few = short.few;
  } where
    by : (t : Bool) → AskedSites decl (cond t (ended c.front m.desk.clock.value m.desk.epoch) c.front).transaction
    by true = tt
    by false = asks.front

  fronted : (command : Command) → IsClientShort decl (by_front c (fronts.called decl c.front command))
  fronted command = front_short (fronts.called decl c.front command)
      (called-short decl c.front command accepted asks.front ready.front)

  committed : (o : Option Transaction) → AskedSites decl o → IsClientShort decl (commits decl c o)
  committed None are = fronted commands.Commit
  committed (Some t) are = by t.begun.doomed where
    by : (dead : Bool) → IsClientShort decl (cond dead (by_front c (fronts.called decl c.front commands.Commit))
        (by_desk c (desks.prepare decl c.desk t.begun c.front.clock.value)))
    by true = fronted commands.Commit
    by false = desk_short (desks.prepare decl c.desk t.begun c.front.clock.value)
        (prepare_short decl accepted c.desk t.begun c.front.clock.value ready.few are)

  calls : (command : Command) → IsClientShort decl (called decl c command)
  calls command =
      called_cases decl c (λ command m. IsClientShort decl m) fronted (committed c.front.transaction asks.front) command

  comes : (number : ℕ) (answer : Option Answer) → IsClientShort decl (answered decl c number answer)
  comes number answer = by c.desk.voting where
    by : (o : Option Voting) → IsClientShort decl (answered_by decl c o number answer)
    by None = front_short (fronts.takes decl c.front number answer)
        (takes_short decl c.front number answer accepted asks.front ready.front)
    by (Some v) = desk_short (desks.vote c.desk number answer) (vote_short decl accepted c.desk number answer asks.desk)

  hears : (from number : ℕ) (message : Message) → IsClientShort decl (heard decl c from number message)
  hears from number message =
      heard_cases decl c from number (λ m move. IsClientShort decl move) (λ m none. silent)
      (λ to answer. comes to (Some answer)) (λ tx. record { asks = asks; few = omega arith })
      (λ tx. record { asks = asks; few = omega arith }) message

  -- one input
  pub client_short : (g : Input) → IsClientShort decl (client_takes decl c g)
  client_short (inputs.Called command) = calls command
  client_short (inputs.Got e) = hears e.from e.number e.message
  client_short (inputs.Lost number) = comes number None

-- the numbers of its messages change nothing of it

sent_asks : (decl : Declaration) (c : Client) (number to : ℕ) (message : Message) → AsksSites decl c
    → AsksSites decl (sent_one c number to message)
sent_asks decl c number to message asks =
    sent_cases c number to (AsksSites decl) (record { front = asks.front; desk = asks.desk })
    (record { front = asks.front; desk = by c.desk.voting asks.desk }) asks message
  where
    by : (o : Option Voting) → VotedSites decl o → VotedSites decl (desks.prepared_in c.desk o number to).voting
    by None are = asks.desk
    by (Some v) are = are

posts_asks : (decl : Declaration) (m : ClientMove) (ds : List Deed) → Every IsPost ds → IsClientShort decl m
    → IsClientShort decl (fold (client_does decl) m ds)
posts_asks decl m [] all short = short
posts_asks decl m (Takes g ∷ ds) all short = absurd all.0
posts_asks decl m (Writes written ∷ ds) all short = posts_asks decl m ds all.1 short
posts_asks decl m (Sends number to message ∷ ds) all short =
    posts_asks decl (record m { client = sent_one m.client number to message }) ds all.1
    (record { asks = sent_asks decl m.client number to message short.asks; few = short.few })
posts_asks decl m (Tells reply ∷ ds) all short = posts_asks decl m ds all.1 short
posts_asks decl m (Falls cause pending ∷ ds) all short = posts_asks decl m ds all.1 short
posts_asks decl m (Rises records ∷ ds) all short = posts_asks decl m ds all.1 short

-- over all that a client does by turns, where between two inputs it has what its calls rely on
pub clients_short : (decl : Declaration) (a : ℕ) → IsAccepted decl
    → ((before : List Deed) (n : ℕ) → Acts decl a before false n
    → IsReadyFor decl (client_after decl (a - decl.sites) before).client)
    → (ds : List Deed) (open_input : Bool) (n : ℕ) → Acts decl a ds open_input n
    → IsClientShort decl (client_after decl (a - decl.sites) ds)
clients_short decl a accepted ready ds open_input n starts =
    record { asks = record { front = tt; desk = tt }; few = omega arith }
clients_short decl a accepted ready ds open_input n (takes before g m acts may) =
    let short : IsClientShort decl (client_after decl (a - decl.sites) before) =
    clients_short decl a accepted ready before false m acts in
    subst (IsClientShort decl) (sym (fold-append (client_does decl) (moved (new_client (a - decl.sites)) quiet) before
    (Takes g ∷ [])))
    (client_short decl accepted (client_after decl (a - decl.sites) before).client short.asks (ready before m acts) g)
clients_short decl a accepted ready ds open_input n (posts before turn m first acts above lawful) =
    subst (IsClientShort decl) (sym (fold-append (client_does decl) (moved (new_client (a - decl.sites)) quiet) before
    (turn_deeds first turn)))
    (posts_asks decl (client_after decl (a - decl.sites) before) (turn_deeds first turn) (turn-posts first turn)
    (clients_short decl a accepted ready before true m acts))

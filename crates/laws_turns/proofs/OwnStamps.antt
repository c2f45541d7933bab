-- A client's Decisions Committed name stamps of its own: it tells of its own transactions alone, by its own records.
use Rattle.std.proofs.Common.{[], ◌≡◌, ℕ, List, ◌∷◌, Option, Some, None, refl, ap, ◌∙◌, subst}
use Rattle.std.specs.List.{fold}
use Rattle.qc_decl.specs.declared.declaration.Declaration.{Declaration}
use Rattle.qc_stamp.specs.declared.stamp.TxId.{TxId}
use Rattle.qc_msg.specs.declared.message.Answer.{Answer}
use Rattle.qc_msg.specs.declared.message.Message.{Message}
use Rattle.qc_msg.specs.declared.step.Command.{Command}
use Rattle.qc_msg.specs.declared.step.Command.TheVariants as commands
use Rattle.qc_msg.specs.declared.step.Input.{Input}
use Rattle.qc_msg.specs.declared.step.Input.TheVariants as inputs
use Rattle.qc_msg.specs.Vocabulary.{Deed, Falls, Rises, Sends, Takes, Tells, Writes, quiet}
use Rattle.qc_commit.specs.declared.desk.Voting.{Voting}
use Rattle.qc_commit.specs.Conduct as desks
use Rattle.qc_commit.proofs.Moves.{prepare-moves, tx_of, vote-moves}
use Rattle.qc_front.specs.declared.transaction.Transaction.{Transaction}
use Rattle.qc_front.specs.Conduct as fronts
use Rattle.qc_client.specs.declared.client.Client.{Client}
use Rattle.qc_client.specs.Vocabulary.{ClientMove, answered, answered_by, by_desk, by_front, called, client_after}
use Rattle.qc_client.specs.Vocabulary.{client_does, client_takes, commits, heard, moved, new_client, sent_one}
use Rattle.laws_turns.proofs.OwnFronts.{IsOwnTransaction}
use Rattle.laws_turns.proofs.StampsOwn.{AreStamped, unwritten, Own, OwnMove, front_called, front_takes, desk_own}
use Rattle.laws_turns.proofs.StampsOwn.{outcome_own}
use Rattle.laws_turns.proofs.ClientCases.{called_cases, heard_cases, sent_cases}
use Rattle.qc_list.proofs.Booleans.{if_two}

-- each input of a client

commits_own : (decl : Declaration) (k : ℕ) (c : Client) (o : Option Transaction) → c.front.transaction ≡ o → Own k c
    → OwnMove k (commits decl c o)
commits_own decl k c None is own = front_called decl k c commands.Commit own
commits_own decl k c (Some t) is own =
    if_two (OwnMove k) t.begun.doomed (by_front c (fronts.called decl c.front commands.Commit))
    (by_desk c (desks.prepare decl c.desk t.begun c.front.clock.value))
    (front_called decl k c commands.Commit own)
    (desk_own k c (Some t.begun.tx) (desks.prepare decl c.desk t.begun c.front.clock.value) own
    (λ tx same. ap (λ (x : TxId). x.client) (let it : tx ≡ t.begun.tx = cc in it)
    ∙ subst (IsOwnTransaction k) is own.front.begun) (prepare-moves decl c.desk t.begun c.front.clock.value))

called_own : (decl : Declaration) (k : ℕ) (c : Client) (command : Command) → Own k c → OwnMove k (called decl c command)
called_own decl k c command own =
    called_cases decl c (λ command m. OwnMove k m) (λ command. front_called decl k c command own)
    (commits_own decl k c c.front.transaction refl own) command

answered_own : (decl : Declaration) (k : ℕ) (c : Client) (number : ℕ) (answer : Option Answer) → Own k c
    → OwnMove k (answered decl c number answer)
answered_own decl k c number answer own = by c.desk.voting
  where
    by : (o : Option Voting) → OwnMove k (answered_by decl c o number answer)
    by None = front_takes decl k c number answer own
    by (Some v) =
        desk_own k c (tx_of c.desk.voting) (desks.vote c.desk number answer) own own.hand
        (vote-moves c.desk number answer)

heard_own : (decl : Declaration) (k : ℕ) (c : Client) (from number : ℕ) (m : Message) → Own k c
    → OwnMove k (heard decl c from number m)
heard_own decl k c from number m own =
    heard_cases decl c from number (λ m move. OwnMove k move)
    (λ m none. record { own = own; sends = tt; writes = unwritten None refl })
    (λ to answer. answered_own decl k c to (Some answer) own)
    (λ tx. record { own = own; sends = (outcome_own k c tx own, tt); writes = unwritten None refl })
    (λ tx. record { own = own; sends = (tt, tt); writes = unwritten None refl }) m

pub takes_own : (decl : Declaration) (k : ℕ) (c : Client) (g : Input) → Own k c → OwnMove k (client_takes decl c g)
takes_own decl k c (inputs.Called command) own = called_own decl k c command own
takes_own decl k c (inputs.Got envelope) own = heard_own decl k c envelope.from envelope.number envelope.message own
takes_own decl k c (inputs.Lost number) own = answered_own decl k c number None own

-- what it sent

prepared_own : (k : ℕ) (c : Client) (number site : ℕ) → Own k c
    → Own k (record c { desk = desks.prepared c.desk number site })
prepared_own k c number site own = by c.desk.voting refl
  where
    by : (o : Option Voting) → c.desk.voting ≡ o → Own k (record c { desk = desks.prepared_in c.desk o number site })
    by None is = own
    by (Some v) is =
        record {
          front = own.front;
          desk = own.desk;
          commits = own.commits;
          hand = λ tx same. own.hand tx (ap tx_of is ∙ same);
        }

pub sent_own : (k : ℕ) (c : Client) (number to : ℕ) (m : Message) → Own k c → Own k (sent_one c number to m)
sent_own k c number to m own =
    sent_cases c number to (Own k)
    (record {
      front = record { client = own.front.client; begun = own.front.begun };
      desk = own.desk;
      commits = own.commits;
      hand = own.hand;
    })
    (prepared_own k c number to own) own m

does_own : (decl : Declaration) (k : ℕ) (m : ClientMove) (d : Deed) → OwnMove k m → OwnMove k (client_does decl m d)
does_own decl k m (Takes g) own = takes_own decl k m.client g own.own
does_own decl k m (Writes written) own = own
does_own decl k m (Sends number to message) own =
    record { own = sent_own k m.client number to message own.own; sends = own.sends; writes = own.writes }
does_own decl k m (Tells reply) own = own
does_own decl k m (Falls cause pending) own = own
does_own decl k m (Rises records) own = own

folded_own : (decl : Declaration) (k : ℕ) (ds : List Deed) (m : ClientMove) → OwnMove k m
    → OwnMove k (fold (client_does decl) m ds)
folded_own decl k [] m own = own
folded_own decl k (d ∷ ds) m own = folded_own decl k ds (client_does decl m d) (does_own decl k m d own)

-- after any deeds, what a client's turn sends is stamped
pub client_stamped : (decl : Declaration) (k : ℕ) (ds : List Deed) → AreStamped (client_after decl k ds).turn.sends
client_stamped decl k ds =
    (folded_own decl k ds (moved (new_client k) quiet) (record {
      own =
          record {
            front = record { client = refl; begun = tt };
            desk = refl;
            commits = tt;
            hand = λ tx none. absurd (let never : ⊥ = cc in never);
          };
      sends = tt;
      writes = unwritten None refl;
    })).sends

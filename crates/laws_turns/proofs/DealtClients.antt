-- A client's inputs, and what it was told of a transaction then.
use Rattle.std.proofs.Common.{[], ◌≡◌, ℕ, ◌+◌, List, ◌∷◌, ◌++◌, fold, Option, Some, None, refl, sym, subst}
use Rattle.std.proofs.Common.{Bool, true, false, cond}
use Rattle.std.specs.List.{AllByRecursion as Every}
use Rattle.std.specs.Option.{option_map_or}
use Rattle.qc_stamp.specs.declared.stamp.TxId.{TxId}
use Rattle.qc_decl.specs.declared.declaration.Declaration.{Declaration}
use Rattle.qc_msg.specs.declared.message.Message.{Message}
use Rattle.qc_msg.specs.declared.record.Record.{Record}
use Rattle.qc_msg.specs.declared.reply.Reply.{Reply}
use Rattle.qc_msg.specs.declared.step.Command.{Command}
use Rattle.qc_msg.specs.declared.step.Input.{Input}
use Rattle.qc_msg.specs.declared.step.Input.TheVariants as inputs
use Rattle.qc_msg.specs.declared.turn.Posting.{Posting}
use Rattle.qc_msg.specs.declared.turn.Turn.{Turn}
use Rattle.qc_msg.specs.Vocabulary.{Deed, Falls, Rises, Sends, Takes, Tells, Writes, sends_of, tells_of, turn_deeds}
use Rattle.qc_msg.specs.Vocabulary.{writes_of, began_in, is_end, response_in}
use Rattle.qc_commit.specs.declared.desk.Voting.{Voting}
use Rattle.qc_commit.specs.Conduct as desks
use Rattle.qc_front.specs.declared.doing.Doing.{Doing}
use Rattle.qc_front.specs.declared.doing.Doing.TheVariants.{Idle, Reading, Appending}
use Rattle.qc_front.specs.Conduct as fronts
use Rattle.qc_client.specs.declared.client.Client.{Client}
use Rattle.qc_client.specs.Vocabulary.{ClientMove, IsReady, client_does, client_takes, sent_one}
use Rattle.laws_turns.specs.Vocabulary.{book_of}
use Rattle.qc_promise.specs.Vocabulary.{Dealing, deal, deal_taken, deal_told, dealt, ended}
use Rattle.laws_turns.proofs.ClientsWithin.{IsPost}
use Rattle.laws_turns.proofs.DealingParts.{as_asked}
use Rattle.laws_turns.proofs.DealtOperations.{AskedFor, told_deal}
use Rattle.laws_turns.proofs.DealtCommands.{IsInHand, Keeps, IsAfter, calls-keep, comes-keep, hears-keep}
use Rattle.laws_turns.proofs.ReadingCases.{mapped}
use Rattle.laws_turns.proofs.ClientCases.{sent_cases}

-- one input
pub taken-keeps : (k : ℕ) (tx : TxId) (d : Dealing) (c : Client) (g : Input) → Keeps k tx d d c → IsReady c g
    → Keeps k tx (deal_taken d g) (deal_taken d g) c
taken-keeps k tx d c (inputs.Called command) w free = record {
  own = w.own;
  desk = w.desk;
  dealing = as_asked tx d (book_of c) (Some command) w.dealing;
  book = w.book;
  asked_for = subst (AskedFor (Some command)) (sym free.doing) tt;
  hand = w.hand;
}
taken-keeps k tx d c (inputs.Got e) w ready = w
taken-keeps k tx d c (inputs.Lost number) w ready = w

pub input-keeps : (decl : Declaration) (k : ℕ) (tx : TxId) (d : Dealing) (c : Client) (g : Input) → Keeps k tx d d c
    → IsReady c g → IsAfter k tx (deal_taken d g) c (client_takes decl c g)
input-keeps decl k tx d c (inputs.Called command) w free =
    calls-keep decl k tx (record d { asked = Some command }) c (taken-keeps k tx d c (inputs.Called command) w free)
    command free refl
input-keeps decl k tx d c (inputs.Got e) w ready = hears-keep decl k tx d c w e.from e.number e.message
input-keeps decl k tx d c (inputs.Lost number) w ready = comes-keep decl k tx d c w number None

-- and as its turn is posted

asked_with : (asked : Option Command) (doing : Doing) (number site : ℕ) → AskedFor asked doing
    → AskedFor asked (fronts.requested_in doing number site)
asked_with asked Idle number site h = h
asked_with asked (Reading object inv calls round) number site h = h
asked_with asked (Appending object inv event calls round) number site h = h

sent-keeps : (k : ℕ) (tx : TxId) (told asked : Dealing) (c : Client) (number to : ℕ) (message : Message)
    → Keeps k tx told asked c → Keeps k tx told asked (sent_one c number to message)
sent-keeps k tx told asked c number to message w =
    sent_cases c number to (Keeps k tx told asked)
    (record {
      own = w.own;
      desk = w.desk;
      dealing = w.dealing;
      book = w.book;
      asked_for = asked_with asked.asked c.front.doing number to w.asked_for;
      hand = w.hand;
    })
    (by c.desk.voting w.hand) w message
  where
    by : (o : Option Voting) → IsInHand o c.front.transaction
        → Keeps k tx told asked (record c { desk = desks.prepared_in c.desk o number to })
    by None hand = w
    by (Some v) hand =
        record { own = w.own; desk = w.desk; dealing = w.dealing; book = w.book; asked_for = w.asked_for; hand = hand }

pub posts-keep : (decl : Declaration) (k : ℕ) (tx : TxId) (told asked : Dealing) (m : ClientMove) (ds : List Deed)
    → Every IsPost ds → Keeps k tx told asked m.client → Keeps k tx told asked (fold (client_does decl) m ds).client
posts-keep decl k tx told asked m [] all w = w
posts-keep decl k tx told asked m (Takes g ∷ ds) all w = absurd all.0
posts-keep decl k tx told asked m (Writes written ∷ ds) all w = posts-keep decl k tx told asked m ds all.1 w
posts-keep decl k tx told asked m (Sends number to message ∷ ds) all w =
    posts-keep decl k tx told asked (record m { client = sent_one m.client number to message }) ds all.1
    (sent-keeps k tx told asked m.client number to message w)
posts-keep decl k tx told asked m (Tells reply ∷ ds) all w = posts-keep decl k tx told asked m ds all.1 w
posts-keep decl k tx told asked m (Falls cause pending ∷ ds) all w = posts-keep decl k tx told asked m ds all.1 w
posts-keep decl k tx told asked m (Rises records ∷ ds) all w = posts-keep decl k tx told asked m ds all.1 w

-- what is told over a turn's deeds

pub turn_told : (tx : TxId) (d : Dealing) (n : ℕ) (turn : Turn)
    → fold (deal tx) d (turn_deeds n turn) ≡ told_deal tx d turn.told
turn_told tx d n turn = by turn.write where
  talk : (n : ℕ) (ps : List Posting) (told : Option Reply)
      → fold (deal tx) d (sends_of n ps ++ tells_of told) ≡ told_deal tx d told
  talk n [] None = refl
  talk n [] (Some reply) = refl
  talk n (p ∷ ps) told = talk (n + 1) ps told

  by : (o : Option Record)
      → fold (deal tx) d (writes_of o ++ (sends_of n turn.sends ++ tells_of turn.told)) ≡ told_deal tx d turn.told
  by None = talk n turn.sends turn.told
  by (Some written) = talk n turn.sends turn.told

-- no reply changes what was asked

pub told_asked : (tx : TxId) (d : Dealing) (reply : Reply) → (deal_told tx d reply).asked ≡ d.asked
told_asked tx d reply =
    mapped (λ (x : Dealing). x.asked ≡ d.asked) (λ (other : TxId). record d { begun = Some other })
    (option_map_or (dealt tx d) (response_in reply) (cond (is_end reply) (ended tx d reply) d)) (began_in reply)
    (λ other. refl)
    (mapped (λ (x : Dealing). x.asked ≡ d.asked) (dealt tx d) (cond (is_end reply) (ended tx d reply) d)
    (response_in reply) (λ resp. refl) (by (is_end reply)))
  where
    by : (t : Bool) → (cond t (ended tx d reply) d).asked ≡ d.asked
    by true = refl
    by false = refl

told_same : (tx : TxId) (d : Dealing) (o : Option Reply) → (told_deal tx d o).asked ≡ d.asked
told_same tx d None = refl
told_same tx d (Some reply) = told_asked tx d reply

pub at_rest : (k : ℕ) (tx : TxId) (d : Dealing) (o : Option Reply) (c : Client) → Keeps k tx (told_deal tx d o) d c
    → Keeps k tx (told_deal tx d o) (told_deal tx d o) c
at_rest k tx d o c w =
    record {
      own = w.own;
      desk = w.desk;
      dealing = w.dealing;
      book = w.book;
      asked_for = subst (λ (a : Option Command). AskedFor a c.front.doing) (sym (told_same tx d o)) w.asked_for;
      hand = w.hand;
    }

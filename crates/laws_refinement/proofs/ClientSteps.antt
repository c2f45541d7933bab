-- A client's turn as acts of the machine: what each act keeps, and what is left to show.
use Rattle.std.proofs.Common.{◌≡◌, ◌≢◌, ℕ, Bool, true, false, cond, List, ◌∷◌, ◌++◌, Option, Some, None, refl, sym, ap}
use Rattle.std.proofs.Common.{◌∙◌}
use Rattle.qc_stamp.specs.declared.stamp.TxId.{TxId}
use Rattle.qc_stamp.specs.Vocabulary.{same_tx}
use Rattle.qc_stamp.proofs.Orders.{same_tx_is}
use Rattle.qc_list.specs.Vocabulary.{In}
use Rattle.qc_decl.specs.declared.declaration.Declaration.{Declaration}
use Rattle.qc_decl.specs.Vocabulary.{client_actor, is_client}
use Rattle.qc_msg.specs.declared.call.Call.{Call}
use Rattle.qc_msg.specs.declared.message.Envelope.{Envelope}
use Rattle.qc_msg.specs.declared.turn.Posting.{Posting}
use Rattle.theory_machine.specs.Vocabulary.{Act, Active, IsAllowed, IsRun, NotBegun, State, Status, put_tx, state}
use Rattle.theory_machine.proofs.Keeps.{laws}
use Rattle.qc_commit.specs.declared.desk.Voting.{Voting}
use Rattle.qc_front.specs.declared.doing.Doing.{Doing}
use Rattle.qc_front.specs.declared.doing.Doing.TheVariants.{Idle}
use Rattle.qc_front.specs.declared.transaction.Transaction.{Transaction}
use Rattle.qc_front.specs.Vocabulary.{calls_in, turned}
use Rattle.qc_client.specs.Vocabulary.{ClientMove}
use Rattle.qc_client.specs.declared.client.Client.{Client}
use Rattle.laws_refinement.specs.Vocabulary.{AreVotes, Backed, ClientMirrors, IsAskedBy, IsChosen, IsRoundCounted}
use Rattle.laws_refinement.specs.Vocabulary.{Mirrors, Net, OwnMirrors, Refines, TransactionMirrors, after_client}
use Rattle.laws_refinement.specs.Vocabulary.{commits_in, status_by}
use Rattle.laws_refinement.proofs.RequestsSent.{IsAsking}
use Rattle.laws_refinement.proofs.ClientPosts.{ClientGoes, client_goes}
use Rattle.laws_refinement.proofs.ClientLater.{IsOfClient, client_later, client_stays}
use Rattle.laws_refinement.proofs.MessagesStay.{Keeps, Later, keeps_both, keeps_same, later_both, same_state}

pub put_tx_other : {A : Type 0} (f : TxId → A) (k : TxId) (v : A) (n : TxId) → n ≢ k → put_tx f k v n ≡ f n
put_tx_other {A = A} f k v n other = by (same_tx n k) refl
  where
    by : (b : Bool) → same_tx n k ≡ b → cond b v (f n) ≡ f n
    by true e = absurd (other (same_tx_is n k e))
    by false e = refl

-- another client's transaction is another
pub elsewhere : {A : Type 0} (f : TxId → A) (tx : TxId) (v : A) (t : TxId) (c d : ℕ) → tx.client ≡ c → t.client ≡ d
    → d ≢ c → put_tx f tx v t ≡ f t
elsewhere f tx v t c d mine its other = put_tx_other f tx v t
    (λ same. other (sym its ∙ ap (λ (u : TxId). u.client) same ∙ mine))

module _ (decl : Declaration) where
  -- a state on the way of a turn of client n
  pub record Mid (w : State) (acts : List Act) (n : ℕ) : Type 0 where
    pub run : IsRun decl acts
    pub later : Later w (state acts)
    pub keeps : (d : ℕ) → d ≢ n → Keeps w (state acts) d
    pub granted : (state acts).granted ≡ w.granted
    pub deeds : (state acts).deeds ≡ w.deeds
    pub alive : (state acts).life ≡ w.life

  pub mid_first : (acts : List Act) (n : ℕ) → IsRun decl acts → Mid (state acts) acts n
  mid_first acts n run = record {
    run = run;
    later = same_state (state acts);
    keeps = λ d other. keeps_same (state acts) d;
    granted = refl;
    deeds = refl;
    alive = refl;
  }

  pub mid_more : (w : State) (acts : List Act) (n : ℕ) (act : Act) → Mid w acts n → IsAllowed decl (state acts) act
      → IsOfClient act → ((d : ℕ) → d ≢ n → Keeps (state acts) (state (act ∷ acts)) d) → Mid w (act ∷ acts) n
  mid_more w acts n act m allowed its keeps = record {
    run = (allowed, m.run);
    later = later_both w (state acts) (state (act ∷ acts)) m.later (client_later decl (state acts) act its allowed);
    keeps = λ d other. keeps_both w (state acts) (state (act ∷ acts)) d (m.keeps d other) (keeps d other);
    granted = (client_stays (state acts) act its).granted ∙ m.granted;
    deeds = (client_stays (state acts) act its).deeds ∙ m.deeds;
    alive = (client_stays (state acts) act its).life ∙ m.alive;
  }

  -- a turn that the machine went along with
  pub record Turned (w : State) (net : Net) (a : ℕ) (move : ClientMove) : Type 0 where
    pub acts : List Act
    pub run : IsRun decl acts
    pub goes : ClientGoes decl w (state acts) net.mail a (net.clients a).front.client move

  pub turns : (w : State) (net : Net) (a : ℕ) (move : ClientMove) (acts : List Act)
      → Mid w acts (net.clients a).front.client → (state acts).records ≡ commits_in move.turn.write ++ w.records
      → ClientMirrors decl (state acts) net.mail a move.client
      → ((p : Posting) → In p move.turn.sends → Backed decl (state acts) net.mail a p.to p.message)
      → ((p : Posting) → In p move.turn.sends → IsAsking decl move.client p.to p.message) → Turned w net a move
  turns w net a move acts m records here turn asking = record {
    acts = acts;
    run = m.run;
    goes = record {
      later = m.later;
      keeps = m.keeps;
      records = records;
      granted = m.granted;
      deeds = m.deeds;
      alive = m.alive;
      here = here;
      turn = turn;
      asking = asking;
    };
  }

  pub refined : (w : State) (net : Net) (a : ℕ) (move : ClientMove) → Mirrors decl w net → is_client decl a ≡ true
      → net.up a ≡ true → Turned w net a move → Refines decl (after_client net a move)
  refined w net a move m client up t = record {
    acts = t.acts;
    run = t.run;
    agrees = client_goes decl w (state t.acts) net a move m client up t.goes
        (laws decl t.acts t.run).written (laws decl t.acts t.run).writes;
  }

  -- an active transaction, and whatever its client does
  pub record Core (w : State) (a : ℕ) (c : Client) (t : Transaction) : Type 0 where
    pub own : OwnMirrors decl w a c (Some t)
    pub begun : TransactionMirrors w c.front t
    pub active : w.status t.begun.tx ≡ Active
    pub voting : c.desk.voting ≡ None

  pub mine : (w : State) (a : ℕ) (c : Client) (t : Transaction) → Core w a c t → t.begun.tx.client ≡ c.front.client
  mine w a c t k = ap (λ (u : TxId). u.client) k.begun.named

  pub actor : (w : State) (a : ℕ) (c : Client) (t : Transaction) → Core w a c t
      → a ≡ client_actor decl t.begun.tx.client
  actor w a c t k = k.own.actor ∙ ap (λ (n : ℕ). client_actor decl n) (sym (mine w a c t k))

  pub born : (s : Status) → s ≡ Active → s ≢ NotBegun
  born s e k = let never : ⊥ = cc in never

  -- what an active transaction's client does
  pub record Does (w : State) (ms : List Envelope) (t : Transaction) (d : Doing) : Type 0 where
    pub chosen : IsChosen decl w t d
    pub counted : IsRoundCounted decl w t d
    pub calls : (call : Call) → In call (calls_in d) → IsAskedBy decl ms t d call

  no_votes : (w : State) (ms : List Envelope) (c : Client) (t : Transaction) (o : Option Voting) → o ≡ None
      → AreVotes w ms c t o
  no_votes w ms c t None is = tt
  no_votes w ms c t (Some v) is = absurd (let never : ⊥ = cc in never)

  -- the client of a core that does something
  pub client_of : (w : State) (ms : List Envelope) (a : ℕ) (c : Client) (t : Transaction) (d : Doing) → Core w a c t
      → Does w ms t d → ClientMirrors decl w ms a (record c { front = turned c.front (Some t) d })
  client_of w ms a c t d k does = record {
    own = record {
      actor = k.own.actor;
      desk = k.own.desk;
      lives_to_come = k.own.lives_to_come;
      epoch = k.own.epoch;
      desk_epoch = k.own.desk_epoch;
      clock = k.own.clock;
      to_come = k.own.to_come;
      committed = k.own.committed;
      aborted = k.own.aborted;
    };
    begun = (
      record {
        named = k.begun.named;
        epoch = k.begun.epoch;
        lives = k.begun.lives;
        ops = k.begun.ops;
        own = k.begun.own;
        sorted = k.begun.sorted;
        shown = k.begun.shown;
        whole = k.begun.whole;
      },
      record {
        status_is = k.active ∙ sym (ap (λ (o : Option Voting). status_by o) k.voting);
        chosen = does.chosen;
        counted = does.counted;
        calls = does.calls;
        votes = no_votes w ms (record c { front = turned c.front (Some t) d }) t c.desk.voting k.voting;
      },
    );
  }

  -- the sites that it asked, and whether it is doomed, are nothing to the machine
  pub core_asked : (w : State) (a : ℕ) (c : Client) (t : Transaction) (sites : List ℕ) (dooms : Bool) → Core w a c t
      → Core w a c (record t { begun = record t.begun { asked = sites; doomed = dooms } })
  core_asked w a c t sites dooms k = record {
    own = record {
      actor = k.own.actor;
      desk = k.own.desk;
      lives_to_come = k.own.lives_to_come;
      epoch = k.own.epoch;
      desk_epoch = k.own.desk_epoch;
      clock = k.own.clock;
      to_come = k.own.to_come;
      committed = k.own.committed;
      aborted = k.own.aborted;
    };
    begun = record {
      named = k.begun.named;
      epoch = k.begun.epoch;
      lives = k.begun.lives;
      ops = k.begun.ops;
      own = k.begun.own;
      sorted = k.begun.sorted;
      shown = k.begun.shown;
      whole = k.begun.whole;
    };
    active = k.active;
    voting = k.voting;
  }

  pub idle_does : (w : State) (ms : List Envelope) (t : Transaction)
      → (t.begun.doomed ≡ false → w.chosen t.begun.tx ≡ None) → Does w ms t Idle
  idle_does w ms t chosen = record { chosen = chosen; counted = tt; calls = λ call never. absurd never }

-- A client's records name stamps of their transactions' own clients; so does what a front end and a desk do.
use Rattle.std.proofs.Common.{[], ◌≡◌, ℕ, ◌==◌, ◌&&◌, Bool, true, false, if◌then◌else◌, List, ◌∷◌, map, Option, Some}
use Rattle.std.proofs.Common.{None, is_some, inl, inr, refl, sym, ap, ◌∙◌, subst, eqb-true}
use Rattle.std.specs.List.{AllByRecursion as Every}
use Rattle.std.specs.Prelude.{MatchOption}
use Rattle.qc_list.proofs.Members.{every-append, every-weaker}
use Rattle.qc_core.specs.Vocabulary.{IsOwnStamp, IsStamped}
use Rattle.qc_decl.specs.declared.declaration.Declaration.{Declaration}
use Rattle.qc_stamp.specs.declared.stamp.Stamp.{Stamp}
use Rattle.qc_stamp.specs.declared.stamp.TxId.{TxId}
use Rattle.qc_stamp.specs.Vocabulary.{same_tx}
use Rattle.qc_entry.specs.declared.record.Commit.{Commit}
use Rattle.qc_msg.specs.declared.begun.Begun.{Begun}
use Rattle.qc_msg.specs.declared.message.Answer.{Answer}
use Rattle.qc_msg.specs.declared.message.Message.{Message}
use Rattle.qc_msg.specs.declared.message.Message.TheVariants as messages
use Rattle.qc_msg.specs.declared.message.Outcome.{Outcome}
use Rattle.qc_msg.specs.declared.message.Outcome.TheVariants.{Committed, Aborted}
use Rattle.qc_msg.specs.declared.record.Record.{Record}
use Rattle.qc_msg.specs.declared.record.Record.TheVariants as records
use Rattle.qc_msg.specs.declared.step.Command.{Command}
use Rattle.qc_msg.specs.declared.turn.Posting.{Posting}
use Rattle.qc_msg.specs.declared.turn.Turn.{Turn}
use Rattle.qc_msg.specs.Vocabulary.{decisions, Decided}
use Rattle.qc_commit.specs.declared.desk.Desk.{Desk}
use Rattle.qc_commit.specs.declared.desk.Known.{Known}
use Rattle.qc_commit.specs.declared.desk.Known.TheVariants as knowns
use Rattle.qc_commit.specs.Vocabulary.{DeskMove, commit_of, known, known_by, record_of}
use Rattle.qc_commit.proofs.Moves.{IsMove, IsPrepare, tx_of}
use Rattle.qc_front.specs.Conduct as fronts
use Rattle.qc_front.proofs.Unwritten as calm
use Rattle.qc_front.specs.Vocabulary.{FrontMove, ended}
use Rattle.qc_client.specs.declared.client.Client.{Client}
use Rattle.qc_client.specs.Vocabulary.{ClientMove, by_desk, by_front, commits, is_begun, outcome_by, outcome_of}
use Rattle.laws_turns.proofs.OwnFronts.{OwnFront}
use Rattle.laws_turns.proofs.OwnFronts as own_fronts
use Rattle.laws_turns.proofs.MessageCases.{message_cases}
use Rattle.qc_list.proofs.Booleans.{and_first}

abbrev pub AreStamped : List Posting → Type 0
AreStamped ps = Every (λ (p : Posting). IsStamped p.message) ps

-- a client's records, which name stamps of their transactions' own clients, and its own transactions

abbrev pub IsOwnCommit : Commit → Type 0
IsOwnCommit r = r.stamp.client ≡ r.tx.client

-- what is written is such a record
abbrev pub IsOwnWrite : Option Record → Type 0
IsOwnWrite w = (c : Commit) → w ≡ Some (records.Commit c) → IsOwnCommit c

pub unwritten : (w : Option Record) → w ≡ None → IsOwnWrite w
unwritten w none c is = absurd (let never : ⊥ = cc in never)

pub record Own (k : ℕ) (c : Client) : Type 0 where
  pub front : OwnFront k c.front
  pub desk : c.desk.client ≡ k
  pub commits : Every IsOwnCommit c.desk.commits
  pub hand : (tx : TxId) → tx_of c.desk.voting ≡ Some tx → tx.client ≡ k

pub record OwnMove (k : ℕ) (m : ClientMove) : Type 0 where
  pub own : Own k m.client
  pub sends : AreStamped m.turn.sends
  pub writes : IsOwnWrite m.turn.write

-- the front end moves
front_own : (k : ℕ) (c : Client) (m : FrontMove) → Own k c → OwnFront k m.front → AreStamped m.turn.sends
    → m.turn.write ≡ None → OwnMove k (by_front c m)
front_own k c m own front sends none = record {
  own = record { front = front; desk = own.desk; commits = own.commits; hand = own.hand };
  sends = sends;
  writes = unwritten m.turn.write none;
}

pub front_called : (decl : Declaration) (k : ℕ) (c : Client) (command : Command) → Own k c
    → OwnMove k (by_front c (fronts.called decl c.front command))
front_called decl k c command own =
    front_own k c (fronts.called decl c.front command) own (own_fronts.called_own decl k c.front command own.front)
    (own_fronts.called_stamped decl c.front command) (calm.front_called decl c.front command).write

pub front_takes : (decl : Declaration) (k : ℕ) (c : Client) (number : ℕ) (answer : Option Answer) → Own k c
    → OwnMove k (by_front c (fronts.takes decl c.front number answer))
front_takes decl k c number answer own =
    front_own k c (fronts.takes decl c.front number answer) own
    (own_fronts.takes_own decl k c.front number answer own.front) (own_fronts.takes_stamped decl c.front number answer)
    (calm.front_takes decl c.front number answer).write

-- the desk moves

desk_front : (k : ℕ) (c : Client) (d : Desk) (t : Bool) → Own k c → d.client ≡ k → Every IsOwnCommit d.commits
    → ((tx : TxId) → tx_of d.voting ≡ Some tx → tx.client ≡ k)
    → Own k (record { front = if t then ended c.front d.clock.value d.epoch else c.front; desk = d })
desk_front k c d true own is commits hand =
    record { front = record { client = own.front.client; begun = tt }; desk = is; commits = commits; hand = hand }
desk_front k c d false own is commits hand = record { front = own.front; desk = is; commits = commits; hand = hand }

prepare_stamped : (m : Message) → IsPrepare m → IsStamped m
prepare_stamped m is =
    message_cases
    (λ m r a d i. IsPrepare m → MatchOption d (Unit {0}) (λ (v : Decided). IsOwnStamp v.tx v.verdict))
    (λ q is. tt) (λ a is. tt) (λ v is. absurd is) (λ tx is. tt) (λ m is. tt) m is

decisions_stamped : (b : Begun) (v : Outcome) → IsOwnStamp b.tx v → AreStamped (decisions b v)
decisions_stamped b v is = over b.asked
  where
    over : (asked : List ℕ)
        → AreStamped (map (λ (site : ℕ). record { to = site; message = messages.Decision b.tx v }) asked)
    over [] = tt
    over (site ∷ asked) = (is, over asked)

no_hand : (k : ℕ) (d : Desk) → d.voting ≡ None → (tx : TxId) → tx_of d.voting ≡ Some tx → tx.client ≡ k
no_hand k d none tx is = absurd (let gone : tx_of d.voting ≡ None = ap tx_of none in let never : ⊥ = cc in never)

pub desk_own : (k : ℕ) (c : Client) (hand : Option TxId) (m : DeskMove) → Own k c
    → ((tx : TxId) → hand ≡ Some tx → tx.client ≡ k) → IsMove c.desk hand m → OwnMove k (by_desk c m)
desk_own k c hand m own held (inl w) = record {
  own =
      desk_front k c m.desk (is_some m.turn.told) own (w.client ∙ own.desk)
      (subst (Every IsOwnCommit) (sym w.commits) own.commits) (λ tx is. held tx (sym w.voting ∙ is));
  sends =
      every-weaker (λ (p : Posting). IsPrepare p.message) (λ (p : Posting). IsStamped p.message)
      (λ p is. prepare_stamped p.message is) m.turn.sends w.sends;
  writes = unwritten m.turn.write w.write;
}
desk_own k c hand m own held (inr (inl r)) =
    let stamp_is : r.stamp.client ≡ k = r.stamped ∙ own.desk in
    let tx_is : r.begun.tx.client ≡ k = held r.begun.tx r.handed in
    record {
      own =
          desk_front k c m.desk (is_some m.turn.told) own (r.client ∙ own.desk)
          (subst (Every IsOwnCommit) (sym r.commits)
          (every-append IsOwnCommit c.desk.commits (commit_of r.stamp r.begun ∷ []) own.commits
          (stamp_is ∙ sym tx_is, tt))) (no_hand k m.desk r.voting);
      sends =
          subst (λ (t : Turn). AreStamped t.sends) (sym r.turn)
          (decisions_stamped r.begun (Committed r.stamp) (stamp_is ∙ sym tx_is));
      writes =
          subst (λ (t : Turn). IsOwnWrite t.write) (sym r.turn)
          (λ c is. (let same : commit_of r.stamp r.begun ≡ c = cc in subst IsOwnCommit same (stamp_is ∙ sym tx_is)));
    }
desk_own k c hand m own held (inr (inr a)) = record {
  own =
      desk_front k c m.desk (is_some m.turn.told) own (a.client ∙ own.desk)
      (subst (Every IsOwnCommit) (sym a.commits) own.commits) (no_hand k m.desk a.voting);
  sends = subst (λ (t : Turn). AreStamped t.sends) (sym a.turn) (decisions_stamped a.begun Aborted tt);
  writes = subst (λ (t : Turn). IsOwnWrite t.write) (sym a.turn) (unwritten None refl);
}

-- a transaction is told by a record of it

pub same_client : (x y : TxId) → same_tx x y ≡ true → x.client ≡ y.client
same_client x y same =
    eqb-true x.client y.client (and_first (x.client == y.client) ((x.life == y.life) && (x.number == y.number)) same)

known_own : (tx : TxId) (stamp : Stamp) (rs : List Commit) → Every IsOwnCommit rs
    → known_by (record_of rs tx) ≡ knowns.Committed stamp → stamp.client ≡ tx.client
known_own tx stamp [] own is = absurd (let never : ⊥ = cc in never)
known_own tx stamp (r ∷ rs) own is = by (same_tx r.tx tx) refl (known_own tx stamp rs own.1) is
  where
    by : (t : Bool) → same_tx r.tx tx ≡ t
        → (known_by (record_of rs tx) ≡ knowns.Committed stamp → stamp.client ≡ tx.client)
        → known_by (if t then Some r else record_of rs tx) ≡ knowns.Committed stamp → stamp.client ≡ tx.client
    by true same later told =
        let it : r.stamp ≡ stamp = cc in
        ap (λ (s : Stamp). s.client) (sym it) ∙ (own.0 ∙ same_client r.tx tx same)
    by false same later told = later told

pub outcome_own : (k : ℕ) (c : Client) (tx : TxId) → Own k c → IsOwnStamp tx (outcome_of c tx)
outcome_own k c tx own = by (known c.desk tx) (is_begun tx c.front.transaction) refl
  where
    by : (o : Known) (t : Bool) → known c.desk tx ≡ o → IsOwnStamp tx (outcome_by o t)
    by (knowns.Committed stamp) t is = known_own tx stamp c.desk.commits own.commits is
    by knowns.Uncommitted true is = tt
    by knowns.Uncommitted false is = tt

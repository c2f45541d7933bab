-- Over its inputs a client's records are of different transactions, and the one that is begun has none.
use Rattle.std.proofs.Common.{◌≡◌, ℕ, ◌+◌, ◌<◌, ◌≤◌, ◌⊎◌, ◌==◌, ◌&&◌, Bool, true, false, cond, List, [], ◌∷◌, ◌++◌}
use Rattle.std.proofs.Common.{length, get_or, Option, Some, None, option_map, is_some, inl, inr, refl, sym, ap, ◌∙◌}
use Rattle.std.proofs.Common.{subst, arith}
use Rattle.std.specs.List.{All, AllPairs}
use Rattle.std.proofs.lemmas.Bool.{ne_eqb}
use Rattle.std.proofs.lemmas.List.Elements.{All-head, All-nil, All-push, All-tail, All-weaker}
use Rattle.std.proofs.lemmas.List.Quantifiers.{all_pairs_push}
use Rattle.qc_decl.specs.declared.declaration.Declaration.{Declaration}
use Rattle.qc_stamp.specs.declared.stamp.TxId.{TxId}
use Rattle.qc_stamp.specs.Vocabulary.{same_tx}
use Rattle.qc_entry.specs.declared.record.Commit.{Commit}
use Rattle.qc_commit.specs.declared.desk.Desk.{Desk}
use Rattle.qc_commit.specs.declared.desk.Known.TheVariants.{Uncommitted}
use Rattle.qc_commit.specs.declared.desk.Voting.{Voting}
use Rattle.qc_commit.specs.Conduct as desks
use Rattle.qc_commit.specs.Vocabulary.{DeskMove, commit_of, known, known_by, record_of}
use Rattle.qc_commit.proofs.Moves.{Aborts, Commits, IsMove, Waits, prepare-moves, tx_of, vote-moves}
use Rattle.qc_commit.proofs.Names.{unknown-apart}
use Rattle.qc_front.specs.declared.front.Front.{Front}
use Rattle.qc_front.specs.declared.transaction.Transaction.{Transaction}
use Rattle.qc_front.specs.Conduct as fronts
use Rattle.qc_front.specs.Vocabulary.{FrontMove, ended, next_tx}
use Rattle.qc_msg.specs.declared.message.Answer.{Answer}
use Rattle.qc_msg.specs.declared.message.Answer.TheVariants as answers
use Rattle.qc_msg.specs.declared.turn.Turn.{Turn}
use Rattle.qc_msg.specs.declared.message.Message.{Message}
use Rattle.qc_msg.specs.declared.message.Message.TheVariants as messages
use Rattle.qc_msg.specs.declared.step.Command.{Command}
use Rattle.qc_msg.specs.declared.step.Command.TheVariants as commands
use Rattle.qc_msg.specs.declared.step.Input.{Input}
use Rattle.qc_msg.specs.declared.step.Input.TheVariants as given
use Rattle.qc_client.specs.declared.client.Client.{Client}
use Rattle.qc_client.specs.Vocabulary.{AreReady, ClientMove, IsFree, IsReady, NumberedInput, after_input, after_inputs}
use Rattle.qc_client.specs.Vocabulary.{answered, answered_by, by_desk, by_front, called, client_takes, commits, heard}
use Rattle.qc_client.specs.Vocabulary.{moved, name_of, new_client, sent, sent_by}
use Rattle.qc_client.proofs.FrontSends.{IsFrontMove, IsNamed}
use Rattle.qc_client.proofs.Fronts.{called-goes, takes-goes}

-- of what a client has: its records, what the front end has begun and counted, the transaction that the desk has in
-- hand
pub record AreNamed (commits : List Commit) (count : ℕ) (begun hand : Option TxId) : Type 0 where
  pub numbers : All (λ (c : Commit). c.tx.number ≤ count) commits
  pub apart : AllPairs (λ (c d : Commit). same_tx c.tx d.tx ≡ false) commits
  pub number : (tx : TxId) → begun ≡ Some tx → tx.number ≤ count
  pub unknown : (tx : TxId) → begun ≡ Some tx → known_by (record_of commits tx) ≡ Uncommitted
  pub held : (tx : TxId) → hand ≡ Some tx → begun ≡ Some tx

abbrev pub IsWell : Client → Type 0
IsWell c = AreNamed c.desk.commits c.front.count (name_of c.front.transaction) (tx_of c.desk.voting)

-- a name with a number above those of all records has none

above-apart : (a b : TxId) → a.number < b.number → same_tx a b ≡ false
above-apart a b low = last (a.client == b.client) (a.life == b.life) (a.number == b.number)
    (ne_eqb a.number b.number (λ e. omega arith)) where
      last : (x y z : Bool) → z ≡ false → (x && (y && z)) ≡ false
      last true true z other = other
      last true false z other = refl
      last false y z other = refl

above-unknown : (commits : List Commit) (n : ℕ) (tx : TxId) → All (λ (c : Commit). c.tx.number ≤ n) commits
    → n < tx.number → known_by (record_of commits tx) ≡ Uncommitted
above-unknown [] n tx numbers above = refl
above-unknown (c ∷ cs) n tx numbers above =
    let low : c.tx.number ≤ n = All-head (λ (d : Commit). d.tx.number ≤ n) c cs numbers in
    rw (above-apart c.tx tx (omega arith)) (above-unknown cs n tx
    (All-tail (λ (d : Commit). d.tx.number ≤ n) c cs numbers) above)

-- a front end's move, while the desk has nothing in hand
front-named : (c : Client) (m : FrontMove) → IsFrontMove c.front m → tx_of c.desk.voting ≡ None → IsWell c
    → IsWell (by_front c m).client
front-named c m goes idle named = record {
  numbers = All-weaker (λ (r : Commit). r.tx.number ≤ c.front.count) (λ (r : Commit). r.tx.number ≤ m.front.count)
      (λ r low. let more : c.front.count ≤ m.front.count = goes.count in omega arith) c.desk.commits named.numbers;
  apart = named.apart;
  number = λ tx is. number goes.named tx is;
  unknown = λ tx is. unknown goes.named tx is;
  held = λ tx is. absurd (let no : ⊥ = cc in no);
} where
  number : IsNamed c.front m.front → (tx : TxId) → name_of m.front.transaction ≡ Some tx → tx.number ≤ m.front.count
  number (inl none) tx is = absurd (let no : ⊥ = cc in no)
  number (inr (inl same)) tx is = let low : tx.number ≤ c.front.count = named.number tx (sym same ∙ is) in
      let more : c.front.count ≤ m.front.count = goes.count in omega arith
  number (inr (inr next)) tx is = let it : next_tx c.front ≡ tx =
      (let first : name_of m.front.transaction ≡ Some (next_tx c.front) = next.0 in cc) in
      let count : m.front.count ≡ c.front.count + 1 = next.1 in
      let number : c.front.count + 1 ≡ tx.number = ap (λ (t : TxId). t.number) it in omega arith

  unknown : IsNamed c.front m.front → (tx : TxId) → name_of m.front.transaction ≡ Some tx
      → known_by (record_of c.desk.commits tx) ≡ Uncommitted
  unknown (inl none) tx is = absurd (let no : ⊥ = cc in no)
  unknown (inr (inl same)) tx is = named.unknown tx (sym same ∙ is)
  unknown (inr (inr next)) tx is =
      let it : next_tx c.front ≡ tx = (let first : name_of m.front.transaction ≡ Some (next_tx c.front) = next.0 in cc)
      in
      let number : c.front.count + 1 ≡ tx.number = ap (λ (t : TxId). t.number) it in
      above-unknown c.desk.commits c.front.count tx named.numbers (omega arith)

-- a desk's move, of the transaction that is begun
desk-named : (c : Client) (m : DeskMove) (hand : Option TxId) → IsMove c.desk hand m
    → ((tx : TxId) → hand ≡ Some tx → name_of c.front.transaction ≡ Some tx) → IsWell c → IsWell (by_desk c m).client
desk-named c m hand (inl w) begun named =
    subst (λ told. AreNamed m.desk.commits (cond (is_some told)
    (ended c.front m.desk.clock.value m.desk.epoch) c.front).count
    (name_of (cond (is_some told) (ended c.front m.desk.clock.value m.desk.epoch) c.front).transaction)
    (tx_of m.desk.voting)) (sym w.told)
    (subst (λ cs. AreNamed cs c.front.count (name_of c.front.transaction) (tx_of m.desk.voting)) (sym w.commits)
    (record {
      numbers = named.numbers;
      apart = named.apart;
      number = named.number;
      unknown = named.unknown;
      held = λ tx is. begun tx (sym w.voting ∙ is);
    }))
desk-named c m hand (inr (inl r)) begun named =
    subst (λ told. AreNamed m.desk.commits (cond (is_some told)
    (ended c.front m.desk.clock.value m.desk.epoch) c.front).count
    (name_of (cond (is_some told) (ended c.front m.desk.clock.value m.desk.epoch) c.front).transaction)
    (tx_of m.desk.voting)) (sym (ap (λ (t : Turn). t.told) r.turn))
    (subst (λ cs. AreNamed cs c.front.count None (tx_of m.desk.voting)) (sym r.commits)
    (record {
      numbers = All-push (λ (k : Commit). k.tx.number ≤ c.front.count) c.desk.commits
          (commit_of r.stamp r.begun) named.numbers (named.number r.begun.tx (begun r.begun.tx r.handed));
      apart = all_pairs_push (λ (k l : Commit). same_tx k.tx l.tx ≡ false) c.desk.commits
          (commit_of r.stamp r.begun) named.apart
          (λ k d l. unknown-apart c.desk.commits r.begun.tx
          (named.unknown r.begun.tx (begun r.begun.tx r.handed)) k d l);
      number = λ tx is. absurd (let no : ⊥ = cc in no);
      unknown = λ tx is. absurd (let no : ⊥ = cc in no);
      held = λ tx is. absurd (let none : tx_of m.desk.voting ≡ None = ap tx_of r.voting in let no : ⊥ = cc in no);
    }))
desk-named c m hand (inr (inr a)) begun named =
    subst (λ told. AreNamed m.desk.commits (cond (is_some told)
    (ended c.front m.desk.clock.value m.desk.epoch) c.front).count
    (name_of (cond (is_some told) (ended c.front m.desk.clock.value m.desk.epoch) c.front).transaction)
    (tx_of m.desk.voting)) (sym (ap (λ (t : Turn). t.told) a.turn))
    (subst (λ cs. AreNamed cs c.front.count None (tx_of m.desk.voting)) (sym a.commits)
    (record {
      numbers = named.numbers;
      apart = named.apart;
      number = λ tx is. absurd (let no : ⊥ = cc in no);
      unknown = λ tx is. absurd (let no : ⊥ = cc in no);
      held = λ tx is. absurd (let none : tx_of m.desk.voting ≡ None = ap tx_of a.voting in let no : ⊥ = cc in no);
    }))

-- each input

pub answered-well : (decl : Declaration) (c : Client) (number : ℕ) (answer : Option Answer) → IsWell c
    → IsWell (answered decl c number answer).client
answered-well decl c number answer well = by c.desk.voting refl where
  by : (o : Option Voting) → c.desk.voting ≡ o → IsWell (answered_by decl c o number answer).client
  by None is = front-named c (fronts.takes decl c.front number answer) (takes-goes decl c.front number answer)
      (ap tx_of is) well
  by (Some v) is = desk-named c (desks.vote c.desk number answer) (tx_of c.desk.voting)
      (vote-moves c.desk number answer) well.held well

commits-well : (decl : Declaration) (c : Client) (o : Option Transaction) → c.front.transaction ≡ o
    → tx_of c.desk.voting ≡ None → IsWell c → IsWell (commits decl c o).client
commits-well decl c None is free well = front-named c (fronts.called decl c.front commands.Commit)
    (called-goes decl c.front commands.Commit) free well
commits-well decl c (Some t) is free well = by t.begun.doomed where
  by : (dead : Bool) → IsWell (cond dead (by_front c (fronts.called decl c.front commands.Commit))
      (by_desk c (desks.prepare decl c.desk t.begun c.front.clock.value))).client
  by true = front-named c (fronts.called decl c.front commands.Commit)
      (called-goes decl c.front commands.Commit) free well
  by false = desk-named c (desks.prepare decl c.desk t.begun c.front.clock.value) (Some t.begun.tx)
      (prepare-moves decl c.desk t.begun c.front.clock.value) (λ tx same. ap name_of is ∙ same) well

called-well : (decl : Declaration) (c : Client) (command : Command) → tx_of c.desk.voting ≡ None → IsWell c
    → IsWell (called decl c command).client
called-well decl c commands.Begin free well =
    front-named c (fronts.called decl c.front commands.Begin) (called-goes decl c.front commands.Begin) free well
called-well decl c (commands.Do object inv) free well =
    front-named c (fronts.called decl c.front (commands.Do object inv))
    (called-goes decl c.front (commands.Do object inv)) free well
called-well decl c commands.Commit free well = commits-well decl c c.front.transaction refl free well
called-well decl c commands.Abort free well =
    front-named c (fronts.called decl c.front commands.Abort) (called-goes decl c.front commands.Abort) free well
called-well decl c (commands.Epoch number) free well =
    front-named c (fronts.called decl c.front (commands.Epoch number))
    (called-goes decl c.front (commands.Epoch number)) free well

heard-well : (decl : Declaration) (c : Client) (from number : ℕ) (message : Message) → IsWell c
    → IsWell (heard decl c from number message).client
heard-well decl c from number (messages.Request tx epoch life want) well = well
heard-well decl c from number (messages.Answer to answer) well = answered-well decl c to (Some answer) well
heard-well decl c from number (messages.Decision tx verdict) well = well
heard-well decl c from number (messages.Inquiry tx) well = well
heard-well decl c from number (messages.Ask tx) well = well
heard-well decl c from number (messages.Close epoch) well = well
heard-well decl c from number (messages.Install start) well = well

pub takes-well : (decl : Declaration) (c : Client) (g : Input) → IsReady c g → IsWell c
    → IsWell (client_takes decl c g).client
takes-well decl c (given.Called command) free well = called-well decl c command (ap tx_of free.voting) well
takes-well decl c (given.Got envelope) ready well =
    heard-well decl c envelope.from envelope.number envelope.message well
takes-well decl c (given.Lost number) ready well = answered-well decl c number None well

sent-well : (c : Client) (first : ℕ) → IsWell c → IsWell (sent c first)
sent-well c first well = by c.desk.voting refl where
  by : (o : Option Voting) → c.desk.voting ≡ o → IsWell (sent_by c o first)
  by None is = well
  by (Some v) is = on c.desk.voting refl where
    on : (p : Option Voting) → c.desk.voting ≡ p → IsWell (record c { desk = desks.sent_in c.desk p first })
    on None is = well
    on (Some w) is = record {
      numbers = well.numbers;
      apart = well.apart;
      number = well.number;
      unknown = well.unknown;
      held = λ tx same. well.held tx (ap tx_of is ∙ same);
    }

inputs-well : (decl : Declaration) (c : Client) (inputs : List NumberedInput) → AreReady decl c inputs → IsWell c
    → IsWell (after_inputs decl c inputs)
inputs-well decl c [] ready well = well
inputs-well decl c (i ∷ inputs) ready well =
    inputs-well decl (after_input decl c i) inputs ready.1
    (sent-well (client_takes decl c i.given).client i.first (takes-well decl c i.given ready.0 well))

-- over all inputs that a client takes
pub all-well : (decl : Declaration) (number : ℕ) (inputs : List NumberedInput)
    → AreReady decl (new_client number) inputs → IsWell (after_inputs decl (new_client number) inputs)
all-well decl number inputs ready = inputs-well decl (new_client number) inputs ready (record {
  numbers = All-nil (λ (c : Commit). c.tx.number ≤ 0);
  apart = λ i j d l m. absurd (omega arith);
  number = λ tx is. absurd (let no : ⊥ = cc in no);
  unknown = λ tx is. refl;
  held = λ tx is. is;
})

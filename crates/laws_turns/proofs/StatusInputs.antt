-- What an input of a client does to the status of its transaction: each deed is right.
use Rattle.std.proofs.Common.{[], ◌≡◌, ◌≢◌, ℕ, ◌+◌, inl, inr, Bool, true, false, cond, List, ◌∷◌, Option, Some}
use Rattle.std.proofs.Common.{None, is_some, refl, sym, ap, subst}
use Rattle.std.specs.List.{AllByRecursion as Every}
use Rattle.qc_list.specs.Vocabulary.{In}
use Rattle.qc_stamp.specs.declared.stamp.TxId.{TxId}
use Rattle.qc_stamp.specs.Vocabulary.{same_tx}
use Rattle.qc_stamp.proofs.Orders.{same_tx_is, same_tx_itself}
use Rattle.qc_decl.specs.declared.declaration.Declaration.{Declaration}
use Rattle.qc_entry.specs.declared.record.Commit.{Commit}
use Rattle.qc_msg.specs.declared.begun.Begun.{Begun as BegunTransaction}
use Rattle.qc_msg.specs.declared.message.Answer.{Answer}
use Rattle.qc_msg.specs.declared.message.Message.{Message}
use Rattle.qc_msg.specs.declared.message.Message.TheVariants as messages
use Rattle.qc_msg.specs.declared.reply.Reply.{Reply}
use Rattle.qc_msg.specs.declared.reply.Reply.TheVariants as replies
use Rattle.qc_msg.specs.declared.step.Command.{Command}
use Rattle.qc_msg.specs.declared.step.Command.TheVariants as commands
use Rattle.qc_msg.specs.declared.step.Input.{Input}
use Rattle.qc_msg.specs.declared.step.Input.TheVariants as inputs
use Rattle.qc_msg.specs.declared.turn.Posting.{Posting}
use Rattle.qc_msg.specs.declared.turn.Turn.{Turn}
use Rattle.qc_msg.specs.Vocabulary.{quiet}
use Rattle.qc_commit.specs.declared.desk.Voting.{Voting}
use Rattle.qc_commit.specs.Conduct as desks
use Rattle.qc_commit.specs.Vocabulary.{DeskMove, commit_of, known_by, record_of}
use Rattle.qc_front.specs.declared.transaction.Transaction.{Transaction}
use Rattle.qc_front.specs.Conduct as fronts
use Rattle.qc_front.specs.Vocabulary.{FrontMove, ended, next_tx}
use Rattle.qc_client.specs.declared.client.Client.{Client}
use Rattle.qc_client.specs.Vocabulary.{ClientMove, answered, answered_by, by_desk, by_front, called, client_takes}
use Rattle.qc_client.specs.Vocabulary.{commits, heard, is_begun, moved, outcome_by, outcome_of}
use Rattle.laws_turns.specs.Vocabulary.{begun_in}
use Rattle.qc_promise.specs.Vocabulary.{Begun, Committed, Dead, Status, Unborn}
use Rattle.laws_turns.proofs.DealingParts.{HasRecord, begun_tx}
use Rattle.laws_turns.proofs.DealtCommands.{IsInHand}
use Rattle.laws_turns.proofs.HandMoves.{IsHandMove, prepare-it, vote-it}
use Rattle.laws_turns.proofs.FrontGoesOn.{FrontKind, IsRequestFor, ToldNeutral, name_in}
use Rattle.laws_turns.proofs.FrontKinds.{called-kind, takes-kind}
use Rattle.laws_turns.proofs.TurnsGoOn.{TurnRight, goes_right}
use Rattle.laws_turns.proofs.RightTurns.{IsExact, begins_right, commits_right, gives_right, verdict_right}
use Rattle.laws_turns.proofs.Statuses.{IsStatus, Page}
use Rattle.laws_turns.proofs.KnownDeeds.{IsKnown, IsKnownIn}
use Rattle.laws_turns.proofs.ClientCases.{called_cases, heard_cases}

abbrev pub page_of : Client → Page
page_of c =
    record {
      client = c.front.client;
      life = c.front.life;
      count = c.front.count;
      commits = c.desk.commits;
      name = name_in c.front;
    }

-- what a record of a transaction tells

found_in : (commits : List Commit) (tx : TxId) (r : Commit) → record_of commits tx ≡ Some r → In r commits × (r.tx ≡ tx)
found_in [] tx r is = absurd (let no : ⊥ = cc in no)
found_in (c ∷ cs) tx r is = by (same_tx c.tx tx) refl is (found_in cs tx r) where
  by : (t : Bool) → same_tx c.tx tx ≡ t → cond t (Some c) (record_of cs tx) ≡ Some r
      → (record_of cs tx ≡ Some r → In r cs × (r.tx ≡ tx)) → In r (c ∷ cs) × (r.tx ≡ tx)
  by true same now rest =
      (let e : c ≡ r = cc in (inl (sym e), subst (λ (x : Commit). x.tx ≡ tx) e (same_tx_is c.tx tx same)))
  by false other now rest = (let r = rest now in (inr r.0, r.1))

none_in : (commits : List Commit) (tx : TxId) (r : Commit) → record_of commits tx ≡ None → In r commits → r.tx ≡ tx → ⊥
none_in [] tx r is among its = among
none_in (c ∷ cs) tx r is among its = by (same_tx c.tx tx) refl is among (none_in cs tx r) where
  by : (t : Bool) → same_tx c.tx tx ≡ t → cond t (Some c) (record_of cs tx) ≡ None → In r (c ∷ cs)
      → (record_of cs tx ≡ None → In r cs → r.tx ≡ tx → ⊥) → ⊥
  by true same now member rest = let no : ⊥ = cc in no
  by false other now (inl first) rest =
      let yes : same_tx c.tx tx ≡ true =
      subst (λ (x : Commit). same_tx x.tx tx ≡ true) first
      (subst (λ (t : TxId). same_tx r.tx t ≡ true) its (same_tx_itself r.tx)) in
      let no : ⊥ = cc in no
  by false other now (inr later) rest = rest now later its

module _ (decl : Declaration) (tx : TxId) (s : Status) (c : Client) (w : IsStatus tx s (page_of c))
    (hand : IsInHand c.desk.voting c.front.transaction) where
  abbrev Right : ClientMove → Type 0
  Right m = TurnRight tx s m.turn (page_of m.client)

  silent : (turn : Turn) → turn.write ≡ None → turn.sends ≡ [] → turn.told ≡ None → Right (moved c turn)
  silent turn unwritten unsent untold =
      goes_right tx s turn (page_of c) w unwritten
      (subst (λ (ps : List Posting). Every (λ (q : Posting). IsRequestFor (name_in c.front) q.message) ps)
      (sym unsent) tt) (subst (ToldNeutral (name_in c.front)) (sym untold) tt)

  front_right : (m : FrontMove) → FrontKind c.front m → Right (by_front c m)
  front_right m (inl g) =
      subst (TurnRight tx s m.turn) same (goes_right tx s m.turn (page_of c) w g.write g.sends g.told) where
        same : page_of c ≡ page_of (by_front c m).client
        same =
            λ i. record {
              client = sym g.counts.client i;
              life = sym g.counts.life i;
              count = sym g.counts.count i;
              commits = c.desk.commits;
              name = sym g.named i;
            }
  front_right m (inr (inl b)) =
      subst (TurnRight tx s m.turn) same
      (begins_right tx s m.turn (page_of c) (next_tx c.front) w b.free refl (ap (λ (t : Turn). t.write) b.turn)
      (ap (λ (t : Turn). t.sends) b.turn) (ap (λ (t : Turn). t.told) b.turn))
    where
      same : record {
        client = c.front.client;
        life = c.front.life;
        count = c.front.count + 1;
        commits = c.desk.commits;
        name = Some (next_tx c.front);
      } ≡ page_of (by_front c m).client
      same =
          λ i. record {
            client = sym b.client i;
            life = sym b.life i;
            count = sym b.count i;
            commits = c.desk.commits;
            name = sym b.named i;
          }
  front_right m (inr (inr g)) =
      subst (TurnRight tx s m.turn) same
      (gives_right tx s m.turn (page_of c) g.begun g.reply w (ap begun_tx g.is) g.aborts g.write g.sends g.told)
    where
      same : record
          { client = c.front.client; life = c.front.life; count = c.front.count; commits = c.desk.commits; name = None }
          ≡ page_of (by_front c m).client
      same =
          λ i. record {
            client = sym g.counts.client i;
            life = sym g.counts.life i;
            count = sym g.counts.count i;
            commits = c.desk.commits;
            name = sym g.ended i;
          }

  desk_right : (b : BegunTransaction) (m : DeskMove) → begun_in c.front.transaction ≡ Some b → IsHandMove c.desk b m
      → Right (by_desk c m)
  desk_right b m is (inl v) =
      subst (λ (o : Option Reply). TurnRight tx s m.turn
      (page_of (record {
        front = cond (is_some o) (ended c.front m.desk.clock.value m.desk.epoch) c.front;
        desk = m.desk;
      }))) (sym v.told)
      (subst (λ (cs : List Commit). TurnRight tx s m.turn
      (record {
        client = c.front.client;
        life = c.front.life;
        count = c.front.count;
        commits = cs;
        name = name_in c.front;
      })) (sym v.commits)
      (goes_right tx s m.turn (page_of c) w v.write
      (subst (λ (n : Option TxId). Every (λ (q : Posting). IsRequestFor n q.message) m.turn.sends)
      (sym (ap begun_tx is)) v.sends)
      (subst (ToldNeutral (name_in c.front)) (sym v.told) tt)))
  desk_right b m is (inr (inl r)) =
      subst (λ (o : Option Reply). TurnRight tx s m.turn
      (page_of (record {
        front = cond (is_some o) (ended c.front m.desk.clock.value m.desk.epoch) c.front;
        desk = m.desk;
      }))) (sym (ap (λ (t : Turn). t.told) r.turn))
      (subst (λ (cs : List Commit). TurnRight tx s m.turn
      (record { client = c.front.client; life = c.front.life; count = c.front.count; commits = cs; name = None }))
      (sym r.commits)
      (commits_right tx s m.turn (page_of c) (commit_of r.stamp b) b.asked w (ap begun_tx is)
      (ap (λ (t : Turn). t.write) r.turn) (ap (λ (t : Turn). t.sends) r.turn) (ap (λ (t : Turn). t.told) r.turn)))
  desk_right b m is (inr (inr a)) =
      subst (λ (o : Option Reply). TurnRight tx s m.turn
      (page_of (record {
        front = cond (is_some o) (ended c.front m.desk.clock.value m.desk.epoch) c.front;
        desk = m.desk;
      }))) (sym (ap (λ (t : Turn). t.told) a.turn))
      (subst (λ (cs : List Commit). TurnRight tx s m.turn
      (record { client = c.front.client; life = c.front.life; count = c.front.count; commits = cs; name = None }))
      (sym a.commits)
      (gives_right tx s m.turn (page_of c) b (replies.Aborted a.why) w (ap begun_tx is) tt
      (ap (λ (t : Turn). t.write) a.turn) (ap (λ (t : Turn). t.sends) a.turn) (ap (λ (t : Turn). t.told) a.turn)))

  fronted : (command : Command) → Right (by_front c (fronts.called decl c.front command))
  fronted command = front_right (fronts.called decl c.front command) (called-kind decl c.front command)

  committing : (o : Option Transaction) → c.front.transaction ≡ o → Right (commits decl c o)
  committing None is = fronted commands.Commit
  committing (Some t) is = by t.begun.doomed where
    by : (dead : Bool)
        → Right
        (cond dead (by_front c (fronts.called decl c.front commands.Commit))
        (by_desk c (desks.prepare decl c.desk t.begun c.front.clock.value)))
    by true = fronted commands.Commit
    by false =
        desk_right t.begun (desks.prepare decl c.desk t.begun c.front.clock.value) (ap begun_in is)
        (prepare-it decl c.desk t.begun c.front.clock.value)

  calls : (command : Command) → Right (called decl c command)
  calls command = called_cases decl c (λ command m. Right m) fronted (committing c.front.transaction refl) command

  comes : (number : ℕ) (answer : Option Answer) → Right (answered decl c number answer)
  comes number answer = by c.desk.voting refl hand where
    by : (o : Option Voting) → c.desk.voting ≡ o → IsInHand o c.front.transaction
        → Right (answered_by decl c o number answer)
    by None is has = front_right (fronts.takes decl c.front number answer) (takes-kind decl c.front number answer)
    by (Some v) is has = desk_right v.begun (desks.vote c.desk number answer) has (vote-it c.desk v number answer is)

  -- how the transaction stands
  begun_named : (o : Option Transaction) → begun_tx (begun_in o) ≡ Some tx → is_begun tx o ≡ true
  begun_named None is = absurd (let no : ⊥ = cc in no)
  begun_named (Some t) is =
      (let e : t.begun.tx ≡ tx = cc in subst (λ (x : TxId). same_tx t.begun.tx x ≡ true) e (same_tx_itself t.begun.tx))

  named_begun : (o : Option Transaction) → is_begun tx o ≡ true → begun_tx (begun_in o) ≡ Some tx
  named_begun None is = absurd (let no : ⊥ = cc in no)
  named_begun (Some t) is = ap (λ (x : TxId). Some x) (same_tx_is t.begun.tx tx is)

  exact : s ≢ Unborn → IsExact s (outcome_of c tx)
  exact born = by (record_of c.desk.commits tx) refl (is_begun tx c.front.transaction) refl where
    dead : (v : Status) → s ≡ v → record_of c.desk.commits tx ≡ None → is_begun tx c.front.transaction ≡ false
        → s ≡ Dead
    dead Unborn is none free = absurd (born is)
    dead Begun is none free =
        absurd (let yes : is_begun tx c.front.transaction ≡ true = begun_named c.front.transaction (w.is_begun is) in
        let no : ⊥ = cc in no)
    dead (Committed stamp) is none free =
        absurd (let r : HasRecord c.desk.commits tx stamp = w.is_committed stamp is in
        none_in c.desk.commits tx r.commit none r.listed r.named)
    dead Dead is none free = is

    by : (o : Option Commit) → record_of c.desk.commits tx ≡ o → (b : Bool) → is_begun tx c.front.transaction ≡ b
        → IsExact s (outcome_by (known_by o) b)
    by (Some r) is b begun =
        (let f : In r c.desk.commits × (r.tx ≡ tx) = found_in c.desk.commits tx r is in w.committed r f.0 f.1)
    by None is true begun = w.begun (named_begun c.front.transaction begun)
    by None is false begun = dead s refl is begun

  asked_right : (from number : ℕ) (x : TxId) → (same_tx x tx ≡ true → s ≢ Unborn)
      → Right (heard decl c from number (messages.Inquiry x))
  asked_right from number x known =
      verdict_right tx s (heard decl c from number (messages.Inquiry x)).turn (page_of c) x from (outcome_of c x) w refl
      refl refl
      (λ same. let e : x
      ≡ tx = same_tx_is x tx same in subst (λ (t : TxId). IsExact s (outcome_of c t)) (sym e) (exact (known same)))

  answers_right : (from number : ℕ) (x : TxId) → Right (heard decl c from number (messages.Ask x))
  answers_right from number x = record { asks = (tt, tt); right = λ n. (tt, tt); status = λ n. w }

  hears : (from number : ℕ) (message : Message) → IsKnownIn tx s message → Right (heard decl c from number message)
  hears from number message known =
      heard_cases decl c from number (λ m move. IsKnownIn tx s m → Right move)
      (λ m none is. silent quiet refl refl refl) (λ to answer is. comes to (Some answer)) (asked_right from number)
      (λ other is. answers_right from number other) message known

  -- one input
  pub input_right : (g : Input) → IsKnown tx s g
      → TurnRight tx s (client_takes decl c g).turn (page_of (client_takes decl c g).client)
  input_right (inputs.Called command) known = calls command
  input_right (inputs.Got e) known = hears e.from e.number e.message known
  input_right (inputs.Lost number) known = comes number None

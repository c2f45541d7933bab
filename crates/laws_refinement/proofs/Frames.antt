-- What stands behind messages stays there as the machine goes on and more is sent.
use Rattle.std.proofs.Common.{◌≡◌, ℕ, List, ◌++◌, Option, Some, None, map, arith, ◌≤◌, ap, sym, ◌∙◌, subst}
use Rattle.qc_stamp.specs.declared.stamp.TxId.{TxId}
use Rattle.qc_list.specs.Vocabulary.{In}
use Rattle.laws_refinement.specs.Vocabulary.{AreCounted, AreVotes, BegunMirrors, ClientMirrors, IsAskedBy, IsChosen}
use Rattle.laws_refinement.specs.Vocabulary.{IsRoundCounted, OwnMirrors, RunningMirrors, TransactionMirrors, name_at}
use Rattle.qc_client.specs.declared.client.Client.{Client}
use Rattle.qc_front.specs.declared.transaction.Transaction.{Transaction}
use Rattle.qc_front.specs.declared.front.Front.{Front}
use Rattle.qc_front.specs.declared.doing.Doing.TheVariants.{Idle, Reading, Appending}
use Rattle.qc_front.specs.declared.doing.Doing.{Doing as FrontDoing}
use Rattle.qc_commit.specs.declared.desk.Voting.{Voting}
use Rattle.theory_machine.specs.Vocabulary.{Granted, IsShown, Item, State, op_of, own_on}
use Rattle.theory_onecopy.specs.Vocabulary.{Executed}
use Rattle.qc_msg.specs.declared.call.Call.{Call}
use Rattle.qc_plan.specs.declared.standing.Asked.{Asked}
use Rattle.qc_entry.specs.declared.line.Line.{Line}
use Rattle.qc_decl.specs.declared.declaration.Declaration.{Declaration}
use Rattle.qc_msg.specs.declared.message.Envelope.{Envelope}
use Rattle.qc_msg.specs.declared.message.Message.TheVariants as messages
use Rattle.qc_msg.specs.declared.message.Want.TheVariants.{Prepare}
use Rattle.qc_msg.specs.Vocabulary.{life_of}
use Rattle.laws_refinement.proofs.MessagesStay.{Keeps, message_later, request_later}

module _ (decl : Declaration) where
  -- a client's part

  pub asked_later : (ms more : List Envelope) (t : Transaction) (doing : FrontDoing) (c : Call)
      → IsAskedBy decl ms t doing c → IsAskedBy decl (ms ++ more) t doing c
  asked_later ms more t doing c h = (
    h.0,
    message_later ms more c.number c.site
        (messages.Request t.begun.tx t.begun.epoch (life_of t.begun.lives c.site) h.0) h.1,
    h.2,
  )

  pub counted_later : (counted more : List Granted) (tx : TxId) (item : Item) (xs : List Asked)
      → ((g : Granted) → In g counted → In g more) → AreCounted counted tx item xs → AreCounted more tx item xs
  counted_later counted more tx item xs grows h x among is =
      let c = h x among is in
      record { grant = c.grant; counts = grows c.grant c.counts; its = c.its; from = c.from; has = c.has }

  module _ (w v : State) (n : ℕ) (k : Keeps w v n) where
    keep_votes : (ms more : List Envelope) (c : Client) (t : Transaction) (voting : Option Voting) → c.front.client ≡ n
        → t.begun.tx.client ≡ n → AreVotes w ms c t voting → AreVotes v (ms ++ more) c t voting
    keep_votes ms more c t None mine its h = tt
    keep_votes ms more c t (Some x) mine its h = record {
      begun = h.begun;
      idle = h.idle;
      clock =
          (let e : v.clock c.front.client ≡ w.clock c.front.client =
          subst (λ (m : ℕ). v.clock m ≡ w.clock m) (sym mine) k.clock in
          let l : w.clock c.front.client ≤ c.desk.clock.value = h.clock in omega arith);
      each = λ g among is. h.each g (k.counted g (ap (λ (u : TxId). u.client) is ∙ its) among) is;
      voted = λ b among aye. k.votes _ (h.voted b among aye);
      calls = λ call among. request_later ms more call.number call.site t.begun.tx Prepare (h.calls call among);
    }

    keep_counted : (t : Transaction) (d : FrontDoing) → IsRoundCounted decl w t d → IsRoundCounted decl v t d
    keep_counted t Idle h = tt
    keep_counted t (Reading object inv calls round) h =
        (h.0, counted_later w.counted v.counted t.begun.tx _ round.asked k.more h.1)
    keep_counted t (Appending object inv event calls round) h =
        counted_later w.counted v.counted t.begun.tx _ round.asked k.more h

    keep_chosen : (t : Transaction) (d : FrontDoing) → t.begun.tx.client ≡ n → IsChosen decl w t d → IsChosen decl v t d
    keep_chosen t Idle its h = λ e. k.chosen t.begun.tx its ∙ h e
    keep_chosen t (Reading object inv calls round) its h = k.chosen t.begun.tx its ∙ h
    keep_chosen t (Appending object inv event calls round) its h = (k.chosen t.begun.tx its ∙ h.0, k.appends _ h.1)

    pub keep_shown : (tx : TxId) (l : Line) → IsShown w.counted tx l → IsShown v.counted tx l
    keep_shown tx l s = record { grant = s.grant; counts = k.more s.grant s.counts; its = s.its; shows = s.shows }

    keep_transaction : (f : Front) (t : Transaction) → f.client ≡ n → TransactionMirrors w f t
        → TransactionMirrors v f t
    keep_transaction f t its m =
        let mine : t.begun.tx.client ≡ n = ap (λ (u : TxId). u.client) m.named ∙ its in
        record {
          named = m.named;
          epoch = m.epoch ∙ sym (k.epoch t.begun.tx mine);
          lives = record {
            participants =
                λ g among is. m.lives.participants g (k.counted g (ap (λ (u : TxId). u.client) is ∙ mine) among) is;
            each = λ g among is. m.lives.each g (k.counted g (ap (λ (u : TxId). u.client) is ∙ mine) among) is;
            positive = m.lives.positive;
          };
          ops = m.ops ∙ ap (λ (ds : List Executed). map op_of ds) (sym (k.executed t.begun.tx mine));
          own =
              λ object. m.own object ∙ ap (λ (ds : List Executed). own_on ds object) (sym (k.executed t.begun.tx mine));
          sorted = m.sorted;
          shown = λ object l among. ((m.shown object l among).0, keep_shown t.begun.tx l (m.shown object l among).1);
          whole =
              λ l s. m.whole l
              (record {
                grant = s.grant;
                counts = k.counted s.grant (ap (λ (u : TxId). u.client) s.its ∙ mine) s.counts;
                its = s.its;
                shows = s.shows;
              });
        }

    pub keep_running : (ms more : List Envelope) (c : Client) (t : Transaction) → c.front.client ≡ n
        → t.begun.tx.client ≡ n → RunningMirrors decl w ms c t → RunningMirrors decl v (ms ++ more) c t
    keep_running ms more c t its mine m = record {
      status_is = k.status t.begun.tx mine ∙ m.status_is;
      chosen = keep_chosen t c.front.doing mine m.chosen;
      counted = keep_counted t c.front.doing m.counted;
      calls = λ x among. asked_later ms more t c.front.doing x (m.calls x among);
      votes = keep_votes ms more c t c.desk.voting its mine m.votes;
    }

    keep_begun : (ms more : List Envelope) (c : Client) (t : Option Transaction) → c.front.client ≡ n
        → BegunMirrors decl w ms c t → BegunMirrors decl v (ms ++ more) c t
    keep_begun ms more c None its h = h
    keep_begun ms more c (Some t) its h = (
      keep_transaction c.front t its h.0,
      keep_running ms more c t its (ap (λ (u : TxId). u.client) h.0.named ∙ its) h.1,
    )

    pub keep_own : (a : ℕ) (c : Client) (t : Option Transaction) → c.front.client ≡ n → OwnMirrors decl w a c t
        → OwnMirrors decl v a c t
    keep_own a c b its m = record {
      actor = m.actor;
      desk = m.desk;
      epoch = m.epoch;
      desk_epoch = m.desk_epoch;
      clock =
          (let e : v.clock c.front.client ≡ w.clock c.front.client =
          subst (λ (m : ℕ). v.clock m ≡ w.clock m) (sym its) k.clock in
          let l : w.clock c.front.client ≤ c.front.clock.value = m.clock in omega arith);
      to_come = λ i later. k.status (name_at c.front i) its ∙ m.to_come i later;
      lives_to_come = λ u mine later. k.status u (mine ∙ its) ∙ m.lives_to_come u mine later;
      committed =
          λ x among. ((m.committed x among).0, k.status x.tx ((m.committed x among).0 ∙ its) ∙ (m.committed x among).1);
      aborted =
          λ t mine born other none. k.status t (mine ∙ its)
          ∙ m.aborted t mine (λ e. born (k.status t (mine ∙ its) ∙ e)) other none;
    }

    pub keep_client : (ms more : List Envelope) (a : ℕ) (c : Client) → c.front.client ≡ n → ClientMirrors decl w ms a c
        → ClientMirrors decl v (ms ++ more) a c
    keep_client ms more a c its m =
        record {
          own = keep_own a c c.front.transaction its m.own;
          begun = keep_begun ms more c c.front.transaction its m.begun;
        }

-- a function that changes at one number

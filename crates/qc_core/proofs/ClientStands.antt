-- What holds of a client in a run between two inputs, and that it holds again where the front end or the desk has
-- moved: one call numbers all messages of a turn.
use Rattle.std.proofs.Common.{◌≡◌, ℕ, ◌+◌, Bool, true, false, cond, List, [], ◌∷◌, map, Option, Some, None, is_some}
use Rattle.std.proofs.Common.{inl, inr, refl, sym, ap, ◌∙◌, subst}
use Rattle.qc_decl.specs.declared.declaration.Declaration.{Declaration}
use Rattle.qc_stamp.specs.declared.stamp.TxId.{TxId}
use Rattle.qc_commit.specs.declared.desk.Desk.{Desk}
use Rattle.qc_commit.specs.declared.desk.Voting.{Voting}
use Rattle.qc_commit.specs.Conduct as desks
use Rattle.qc_commit.specs.Vocabulary.{AsksFew, DeskMove}
use Rattle.qc_commit.proofs.Numbering.{IsSettled, settled-sent}
use Rattle.qc_front.specs.declared.doing.Doing.{Doing}
use Rattle.qc_front.specs.declared.doing.Doing.TheVariants.{Idle, Reading, Appending}
use Rattle.qc_front.specs.declared.front.Front.{Front}
use Rattle.qc_front.specs.declared.transaction.Transaction.{Transaction}
use Rattle.qc_front.specs.Conduct as fronts
use Rattle.qc_front.specs.Vocabulary.{AreSent, AsksAtOnce, FrontHolds, FrontMove, IsFor, IsNumbered, IsRequestOf}
use Rattle.qc_front.specs.Vocabulary.{IsSent, ended, numbered_all, numbered_one}
use Rattle.qc_front.proofs.AtOnce.{commands_ask_at_once}
use Rattle.qc_front.proofs.Keeping.{ended_holds, new_holds}
use Rattle.qc_front.proofs.Numbering.{sent_holds}
use Rattle.qc_list.specs.Vocabulary.{In}
use Rattle.qc_msg.specs.declared.begun.Begun.{Begun}
use Rattle.qc_msg.specs.declared.message.Message.{Message}
use Rattle.qc_msg.specs.declared.message.Message.TheVariants as messages
use Rattle.qc_msg.specs.declared.message.Outcome.{Outcome}
use Rattle.qc_msg.specs.declared.message.Want.{Want}
use Rattle.qc_msg.specs.declared.message.Want.TheVariants.{Read, Append, Prepare}
use Rattle.qc_msg.specs.declared.reply.Reply.{Reply}
use Rattle.qc_msg.specs.declared.step.Command.TheVariants as commands
use Rattle.qc_msg.specs.declared.turn.Posting.{Posting}
use Rattle.qc_msg.specs.declared.turn.Turn.{Turn}
use Rattle.qc_msg.specs.Vocabulary.{quiet}
use Rattle.qc_client.specs.declared.client.Client.{Client}
use Rattle.qc_client.specs.Vocabulary.{ClientMove, IsFree, by_desk, by_front, moved, new_client, requested, sent}
use Rattle.qc_client.specs.Vocabulary.{sent_by, sent_one}

-- whether a command runs after a turn
abbrev pub runs_told : Bool → Option Reply → Bool
runs_told running None = running
runs_told running (Some reply) = false

pub record Stands (decl : Declaration) (running : Bool) (c : Client) : Type 0 where
  pub front : FrontHolds decl c.front
  pub numbered : IsNumbered c.front.doing
  pub settled : IsSettled c.desk
  pub few : AsksFew c.desk.voting
  pub free : running ≡ false → IsFree c

pub new_stands : (decl : Declaration) (k : ℕ) → Stands decl false (new_client k)
new_stands decl k = record {
  front = new_holds decl k;
  numbered = tt;
  settled = inl refl;
  few = tt;
  free = λ is. record { voting = refl; doing = refl };
}

-- the messages of a turn, numbered one after another
abbrev pub sends_all : Client → ℕ → List Posting → Client
sends_all c first [] = c
sends_all c first (p ∷ ps) = sends_all (sent_one c first p.to p.message) (first + 1) ps

-- what a move leaves, and that one call numbers its messages
pub record Lands (decl : Declaration) (running : Bool) (first : ℕ) (m : ClientMove) : Type 0 where
  pub stands : Stands decl (runs_told running m.turn.told) (sent m.client first)
  pub once : sends_all m.client first m.turn.sends ≡ sent m.client first

-- a client that does nothing: its numbers stay

front_still : (decl : Declaration) (front : Front) (first : ℕ) → FrontHolds decl front → IsNumbered front.doing
    → front ≡ fronts.sent front first
front_still decl front first h n = (commands_ask_at_once decl front (commands.Epoch 0) h n).told first

still : (decl : Declaration) (running : Bool) (c : Client) (first : ℕ) → Stands decl running c → c ≡ sent c first
still decl running c first st = by c.desk.voting
  where
    by : (o : Option Voting) → c ≡ sent_by c o first
    by None = ap (λ (f : Front). record c { front = f }) (front_still decl c.front first st.front st.numbered)
    by (Some v) = ap (λ (d : Desk). record c { desk = d }) (sym (settled-sent c.desk first st.settled))

-- it does nothing, and tells nothing of a command
pub stays : (decl : Declaration) (running : Bool) (c : Client) (first : ℕ) → Stands decl running c
    → Lands decl running first (moved c quiet)
stays decl running c first st = record {
  stands = subst (Stands decl running) (still decl running c first st) st;
  once = still decl running c first st;
}

-- it sends one message that is no request
pub tells_one : (decl : Declaration) (running : Bool) (c : Client) (first : ℕ) (turn : Turn) → Stands decl running c
    → turn.told ≡ None → ((n : ℕ) → sends_all c n turn.sends ≡ c) → Lands decl running first (moved c turn)
tells_one decl running c first turn st none same = record {
  stands = subst (λ (o : Option Reply). Stands decl (runs_told running o) (sent c first)) (sym none)
      (subst (Stands decl running) (still decl running c first st) st);
  once = same first ∙ still decl running c first st;
}

-- the front end moves, while no commit waits

-- the front end asks sites to read and append, and never to prepare
no_prepare : (decl : Declaration) (t : Transaction) (d : Doing) (site : ℕ) → IsFor decl t d site Prepare → ⊥
no_prepare decl t Idle site never = never
no_prepare decl t (Reading object inv calls round) site is = let no : ⊥ = cc in no
no_prepare decl t (Appending object inv event calls round) site is = let no : ⊥ = cc in no

front_sends : (decl : Declaration) (c : Client) (before next front : Front) (first : ℕ) (ps : List Posting)
    → ((p : Posting) → In p ps → IsSent decl before next p.to p.message)
    → sends_all (record c { front = front }) first ps ≡ record c { front = numbered_all front first ps }
front_sends decl c before next front first [] all = refl
front_sends decl c before next front first (p ∷ ps) all =
    ap (λ (v : Client). sends_all v (first + 1) ps) (one p.message (all p (inl refl)))
    ∙ front_sends decl c before next (numbered_one front first p.to p.message) (first + 1) ps
    (λ q among. all q (inr among))
  where
    wants : (tx : TxId) (epoch life : ℕ) (want : Want) → IsRequestOf decl next p.to tx epoch life want
        → requested (record c { front = front }) first p.to want
        ≡ record c { front = fronts.requested front first p.to }
    wants tx epoch life (Read read) is = refl
    wants tx epoch life (Append object view own) is = refl
    wants tx epoch life Prepare is = absurd (no_prepare decl is.t next.doing p.to is.wants)

    one : (m : Message) → IsSent decl before next p.to m
        → sent_one (record c { front = front }) first p.to m ≡ record c { front = numbered_one front first p.to m }
    one (messages.Request tx epoch life want) is = wants tx epoch life want is
    one (messages.Answer to answer) never = absurd never
    one (messages.Decision tx verdict) is = refl
    one (messages.Inquiry tx) never = absurd never
    one (messages.Ask tx) never = absurd never
    one (messages.Close epoch) never = absurd never
    one (messages.Install start) never = absurd never

pub front_lands : (decl : Declaration) (running : Bool) (c : Client) (first : ℕ) (m : FrontMove) → c.desk.voting ≡ None
    → AreSent decl c.front m → FrontHolds decl m.front → AsksAtOnce decl m
    → (runs_told running m.turn.told ≡ false → m.front.doing ≡ Idle) → Lands decl running first (by_front c m)
front_lands decl running c first m none told holds asks free = record {
  stands = subst (Stands decl (runs_told running m.turn.told)) (sym here) (record {
    front = sent_holds decl m.front first holds;
    numbered = asks.numbered first;
    settled = inl none;
    few = subst AsksFew (sym none) tt;
    free = λ is. record { voting = none; doing = ap (λ (d : Doing). fronts.numbered d first) (free is) };
  });
  once = front_sends decl c c.front m.front m.front first m.turn.sends told
      ∙ ap (λ (f : Front). record c { front = f }) (asks.told first) ∙ sym here;
} where
  here : sent (by_front c m).client first ≡ record c { front = fronts.sent m.front first }
  here = ap (λ (o : Option Voting). sent_by (by_front c m).client o first) none

-- the desk moves: it waits, or the transaction has ended

desk_sends : (c : Client) (first : ℕ) (b : Begun) (v : Outcome) (sites : List ℕ)
    → sends_all c first (map (λ site. record { to = site; message = messages.Decision b.tx v }) sites) ≡ c
desk_sends c first b v [] = refl
desk_sends c first b v (site ∷ sites) = desk_sends c (first + 1) b v sites

-- the reply is told, and no commit waits any more
pub ended_lands : (decl : Declaration) (running : Bool) (c : Client) (first : ℕ) (desk : Desk) (turn : Turn) (b : Begun)
    (v : Outcome) (reply : Reply) → FrontHolds decl c.front → desk.voting ≡ None
    → turn.told ≡ Some reply → turn.sends ≡ map
    (λ site. record { to = site; message = messages.Decision b.tx v }) b.asked
    → Lands decl running first (by_desk c (record { desk = desk; turn = turn }))
ended_lands decl running c first desk turn b v reply holds none told sends = record {
  stands = subst (λ (o : Option Reply). Stands decl (runs_told running o)
      (sent (record { front = cond (is_some o) (ended c.front desk.clock.value desk.epoch) c.front; desk = desk })
      first)) (sym told)
      (subst (Stands decl false) (sym here) (record {
        front = ended_holds decl c.front desk.clock.value desk.epoch;
        numbered = tt;
        settled = inl none;
        few = subst AsksFew (sym none) tt;
        free = λ is. record { voting = none; doing = refl };
      }));
  once = (λ i. sends_all (record {
    front = cond (is_some (told i)) (ended c.front desk.clock.value desk.epoch) c.front;
    desk = desk;
  }) first (sends i))
      ∙ desk_sends over first b v b.asked ∙ sym here
      ∙ (λ i. sent (record {
        front = cond (is_some (sym told i)) (ended c.front desk.clock.value desk.epoch) c.front;
        desk = desk;
      }) first);
} where
  over : Client
  over = record { front = ended c.front desk.clock.value desk.epoch; desk = desk }

  here : sent over first ≡ over
  here = ap (λ (o : Option Voting). sent_by over o first) none

-- it waits on
pub waits_lands : (decl : Declaration) (running : Bool) (c : Client) (first : ℕ) (m : DeskMove) → Stands decl running c
    → running ≡ true → m.turn.told ≡ None → is_some m.desk.voting ≡ true
    → IsSettled (desks.sent m.desk first) → AsksFew (desks.sent m.desk first).voting
    → sends_all (record c { desk = m.desk }) first m.turn.sends ≡ record c { desk = desks.sent m.desk first }
    → Lands decl running first (by_desk c m)
waits_lands decl running c first m st runs none waits settled few sends = record {
  stands = subst (λ (o : Option Reply). Stands decl (runs_told running o)
      (sent (record { front = cond (is_some o) (ended c.front m.desk.clock.value m.desk.epoch) c.front; desk = m.desk })
      first)) (sym none)
      (subst (Stands decl running) (sym (here m.desk.voting waits)) (record {
        front = st.front;
        numbered = st.numbered;
        settled = settled;
        few = few;
        free = λ is. absurd (let never : true ≡ false = sym runs ∙ is in let no : ⊥ = cc in no);
      }));
  once = (λ i. sends_all (record {
    front =
        cond (is_some (none i)) (ended c.front m.desk.clock.value m.desk.epoch) c.front;
    desk = m.desk;
  }) first
      m.turn.sends)
      ∙ sends ∙ sym (here m.desk.voting waits)
      ∙ (λ i. sent (record {
        front = cond (is_some (sym none i))
            (ended c.front m.desk.clock.value m.desk.epoch) c.front;
        desk = m.desk;
      }) first);
} where
  here : (o : Option Voting) → is_some o ≡ true
      → sent_by (record c { desk = m.desk }) o first ≡ record c { desk = desks.sent m.desk first }
  here None never = absurd (let no : ⊥ = cc in no)
  here (Some v) is = refl

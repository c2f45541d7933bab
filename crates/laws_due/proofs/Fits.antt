-- What holds of a client between two inputs holds after each of its turns.
use Rattle.std.proofs.Common.{◌≡◌, ℕ, ◌+◌, Bool, true, false, cond, inl, inr, List, [], ◌∷◌, ◌++◌, map, Option, Some}
use Rattle.std.proofs.Common.{None, is_some, refl, sym, ap, ◌∙◌, subst}
use Rattle.std.specs.Prelude.{fold, MatchOption}
use Rattle.std.specs.List.{AllByRecursion as Every}
use Rattle.qc_list.proofs.Members.{every-from_In, every-weaker}
use Rattle.qc_stamp.specs.declared.stamp.TxId.{TxId}
use Rattle.qc_decl.specs.declared.declaration.Declaration.{Declaration}
use Rattle.qc_commit.specs.declared.desk.Voting.{Voting}
use Rattle.qc_commit.specs.Conduct as desks
use Rattle.qc_commit.specs.Vocabulary.{DeskMove}
use Rattle.qc_commit.proofs.Moves.{IsMove, IsPrepare, prepare-moves, tx_of, vote-moves}
use Rattle.qc_front.specs.declared.doing.Doing.{Doing}
use Rattle.qc_front.specs.declared.doing.Doing.TheVariants.{Idle, Reading, Appending}
use Rattle.qc_front.specs.declared.front.Front.{Front}
use Rattle.qc_front.specs.declared.transaction.Transaction.{Transaction}
use Rattle.qc_front.specs.Vocabulary.{AsksAll, AsksAtOnce, AsksIn, AsksNobody, FrontHolds, FrontMove, IsNumbered}
use Rattle.qc_front.specs.Vocabulary.{append_want, ended, is_request, numbered_all, numbered_one, read_want, request_of}
use Rattle.qc_front.specs.Conduct as fronts
use Rattle.qc_front.proofs.AtOnce.{commands_ask_at_once, answers_ask_at_once}
use Rattle.qc_front.proofs.CommandsKeep.{commands_keep_hold}
use Rattle.qc_front.proofs.Keeping.{ended_holds, answers_keep_hold}
use Rattle.qc_front.proofs.Numbering.{sent_holds}
use Rattle.qc_client.specs.declared.client.Client.{Client}
use Rattle.qc_client.specs.Vocabulary.{ClientMove, answered, answered_by, by_desk, by_front, called, client_does}
use Rattle.qc_client.specs.Vocabulary.{client_takes, commits, heard, moved, sent_one, requested}
use Rattle.qc_msg.specs.declared.begun.Begun.{Begun}
use Rattle.qc_msg.specs.declared.call.Call.{Call}
use Rattle.qc_msg.specs.declared.message.Answer.{Answer}
use Rattle.qc_msg.specs.declared.message.Message.{Message}
use Rattle.qc_msg.specs.declared.message.Message.TheVariants as messages
use Rattle.qc_msg.specs.declared.message.Outcome.{Outcome}
use Rattle.qc_msg.specs.declared.message.Outcome.TheVariants as outcomes
use Rattle.qc_msg.specs.declared.message.Want.{Want}
use Rattle.qc_msg.specs.declared.message.Want.TheVariants.{Read, Append, Prepare}
use Rattle.qc_msg.specs.declared.record.Record.{Record}
use Rattle.qc_msg.specs.declared.reply.Reply.{Reply}
use Rattle.qc_msg.specs.declared.step.Command.{Command}
use Rattle.qc_msg.specs.declared.step.Command.TheVariants as commands
use Rattle.qc_msg.specs.declared.step.Input.{Input}
use Rattle.qc_msg.specs.declared.step.Input.TheVariants as inputs
use Rattle.qc_msg.specs.declared.turn.Posting.{Posting}
use Rattle.qc_msg.specs.declared.turn.Turn.{Turn}
use Rattle.qc_msg.specs.Vocabulary.{sends_of, tells_of, turn_deeds, writes_of, Requested, request_in}
use Rattle.qc_plan.specs.Vocabulary.{RoundState}
use Rattle.laws_due.specs.Vocabulary.{Holds}
use Rattle.laws_turns.proofs.ClientCases.{called_cases, heard_cases}
use Rattle.laws_due.proofs.AskingCases.{prepare_cases}
use Rattle.std.specs.Option.{option_map_or}

-- a turn's record and reply are nothing to the client

told_client : (decl : Declaration) (move : ClientMove) (n : ℕ) (ps : List Posting) (told : Option Reply)
    → fold (client_does decl) move (sends_of n ps ++ tells_of told) ≡ fold (client_does decl) move (sends_of n ps)
told_client decl move n [] None = refl
told_client decl move n [] (Some reply) = refl
told_client decl move n (p ∷ ps) told = told_client decl
    (record move { client = sent_one move.client n p.to p.message }) (n + 1) ps told

turn_client : (decl : Declaration) (move : ClientMove) (n : ℕ) (turn : Turn)
    → fold (client_does decl) move (turn_deeds n turn) ≡ fold (client_does decl) move (sends_of n turn.sends)
turn_client decl move n turn = by turn.write
  where
    by : (w : Option Record) → fold (client_does decl) move
        (writes_of w ++ (sends_of n turn.sends ++ tells_of turn.told)) ≡ fold (client_does decl) move
        (sends_of n turn.sends)
    by None = told_client decl move n turn.sends turn.told
    by (Some w) = told_client decl move n turn.sends turn.told

-- a front end asks for no promise

abbrev NoPromise : Want → Type 0
NoPromise (Read read) = Unit {0}
NoPromise (Append object view own) = Unit {0}
NoPromise Prepare = ⊥

abbrev IsFrontal : Message → Type 0
IsFrontal m = MatchOption (request_in m) (Unit {0}) (λ (q : Requested). NoPromise q.want)

one_frontal : (c : Client) (n to : ℕ) (m : Message) → IsFrontal m
    → sent_one c n to m ≡ record c { front = numbered_one c.front n to m }
one_frontal c n to m is = by (request_in m) is
  where
    at : (q : Requested) (w : Want) → NoPromise w
        → requested c n to w ≡ record c { front = fronts.requested c.front n to }
    at q (Read read) ok = refl
    at q (Append object view own) ok = refl
    at q Prepare ok = absurd ok

    by : (o : Option Requested) → MatchOption o (Unit {0}) (λ (q : Requested). NoPromise q.want)
        → option_map_or (λ (q : Requested). requested c n to q.want) o c
        ≡ record c { front = option_map_or (λ (x : Requested). fronts.requested c.front n to) o c.front }
    by None ok = refl
    by (Some q) ok = at q q.want ok

all_frontal : (decl : Declaration) (move : ClientMove) (n : ℕ) (ps : List Posting)
    → Every (λ (p : Posting). IsFrontal p.message) ps
    → (fold (client_does decl) move (sends_of n ps)).client.front ≡ numbered_all move.client.front n ps
all_frontal decl move n [] all = refl
all_frontal decl move n (p ∷ ps) all =
    all_frontal decl (record move { client = sent_one move.client n p.to p.message }) (n + 1) ps all.1
    ∙ ap (λ (c : Client). numbered_all c.front (n + 1) ps) (one_frontal move.client n p.to p.message all.0)

requests_frontal : (b : Begun) (want : ℕ → Want) → ((site : ℕ) → NoPromise (want site)) → (sites : List ℕ)
    → Every (λ (p : Posting). IsFrontal p.message) (map (request_of b want) sites)
requests_frontal b want ok [] = tt
requests_frontal b want ok (s ∷ sites) = (ok s, requests_frontal b want ok sites)

no_request : (m : Message) → is_request m ≡ false → IsFrontal m
no_request m is = by (request_in m) is
  where
    by : (o : Option Requested) → is_some o ≡ false → MatchOption o (Unit {0}) (λ (q : Requested). NoPromise q.want)
    by None none = tt
    by (Some q) some = absurd (let never : ⊥ = cc in never)

nobody_frontal : (sends : List Posting) → AsksNobody sends → Every (λ (p : Posting). IsFrontal p.message) sends
nobody_frontal sends none = every-from_In (λ (p : Posting). IsFrontal p.message) sends
    (λ p among. no_request p.message (none p among))

asks_frontal : (b : Begun) (want : ℕ → Want) (calls : List Call) (round : RoundState) (sends : List Posting)
    → ((site : ℕ) → NoPromise (want site)) → AsksAll b want calls round sends
    → Every (λ (p : Posting). IsFrontal p.message) sends
asks_frontal b want calls round sends ok (inl quiet) =
    subst (λ (ps : List Posting). Every (λ (p : Posting). IsFrontal p.message) ps) (sym quiet.0) tt
asks_frontal b want calls round sends ok (inr asks) =
    subst (λ (ps : List Posting). Every (λ (p : Posting). IsFrontal p.message) ps) (sym asks.1)
    (requests_frontal b want ok (fronts.awaited round))

move_frontal : (decl : Declaration) (t : Option Transaction) (doing : Doing) (sends : List Posting)
    → AsksIn decl t doing sends → Every (λ (p : Posting). IsFrontal p.message) sends
move_frontal decl t Idle sends asks = nobody_frontal sends asks
move_frontal decl None (Reading object inv calls round) sends asks = nobody_frontal sends asks
move_frontal decl None (Appending object inv event calls round) sends asks = nobody_frontal sends asks
move_frontal decl (Some t) (Reading object inv calls round) sends asks =
    asks_frontal t.begun (read_want object inv) calls round sends (λ site. tt) asks
move_frontal decl (Some t) (Appending object inv event calls round) sends asks =
    asks_frontal t.begun (append_want decl t object event) calls round sends (λ site. tt) asks

-- what holds after a turn
abbrev pub HoldsAfter : Declaration → ℕ → ClientMove → Type 0
HoldsAfter decl n move = Holds decl (fold (client_does decl) move (turn_deeds n move.turn)).client

front_holds : (decl : Declaration) (n : ℕ) (c : Client) (move : FrontMove) → FrontHolds decl move.front
    → AsksAtOnce decl move → HoldsAfter decl n (by_front c move)
front_holds decl n c move holds at_once = record {
  front = subst (FrontHolds decl) (sym front_is) (sent_holds decl move.front n holds);
  numbered = subst (λ (f : Front). IsNumbered f.doing) (sym front_is) (at_once.numbered n);
}
  where
    front_is : (fold (client_does decl) (by_front c move) (turn_deeds n move.turn)).client.front
        ≡ fronts.sent move.front n
    front_is =
        ap (λ (m : ClientMove). m.client.front) (turn_client decl (by_front c move) n move.turn)
        ∙ all_frontal decl (by_front c move) n move.turn.sends
        (move_frontal decl move.front.transaction move.front.doing move.turn.sends at_once.asks)
        ∙ at_once.told n

-- a desk asks for promises alone

abbrev NoHalf : Want → Type 0
NoHalf (Read read) = ⊥
NoHalf (Append object view own) = ⊥
NoHalf Prepare = Unit {0}

abbrev IsDeskly : Message → Type 0
IsDeskly m = MatchOption (request_in m) (Unit {0}) (λ (q : Requested). NoHalf q.want)

one_deskly : (c : Client) (n to : ℕ) (m : Message) → IsDeskly m → (sent_one c n to m).front ≡ c.front
one_deskly c n to m is = by (request_in m) is
  where
    at : (w : Want) → NoHalf w → (requested c n to w).front ≡ c.front
    at (Read read) ok = absurd ok
    at (Append object view own) ok = absurd ok
    at Prepare ok = refl

    by : (o : Option Requested) → MatchOption o (Unit {0}) (λ (q : Requested). NoHalf q.want)
        → (option_map_or (λ (q : Requested). requested c n to q.want) o c).front ≡ c.front
    by None ok = refl
    by (Some q) ok = at q.want ok

all_deskly : (decl : Declaration) (move : ClientMove) (n : ℕ) (ps : List Posting)
    → Every (λ (p : Posting). IsDeskly p.message) ps
    → (fold (client_does decl) move (sends_of n ps)).client.front ≡ move.client.front
all_deskly decl move n [] all = refl
all_deskly decl move n (p ∷ ps) all = all_deskly decl (record move { client = sent_one move.client n p.to p.message })
    (n + 1) ps all.1 ∙ one_deskly move.client n p.to p.message all.0

deskly_prepare : (m : Message) → IsPrepare m → IsDeskly m
deskly_prepare m is = prepare_cases IsDeskly (λ tx epoch life. tt) m is

decisions_deskly : (b : Begun) (o : Outcome) (sites : List ℕ)
    → Every (λ (p : Posting). IsDeskly p.message)
    (map (λ site. record { to = site; message = messages.Decision b.tx o }) sites)
decisions_deskly b o [] = tt
decisions_deskly b o (s ∷ sites) = (tt, decisions_deskly b o sites)

still_holds : (decl : Declaration) (n : ℕ) (c : Client) (turn : Turn)
    → Every (λ (p : Posting). IsDeskly p.message) turn.sends → Holds decl c → HoldsAfter decl n (moved c turn)
still_holds decl n c turn all h =
    let same : (fold (client_does decl) (moved c turn) (turn_deeds n turn)).client.front ≡ c.front =
    ap (λ (m : ClientMove). m.client.front) (turn_client decl (moved c turn) n turn)
    ∙ all_deskly decl (moved c turn) n turn.sends all in
    record {
      front = subst (FrontHolds decl) (sym same) h.front;
      numbered = subst (λ (f : Front). IsNumbered f.doing) (sym same) h.numbered;
    }

desk_holds : (decl : Declaration) (n : ℕ) (c : Client) (m : DeskMove) (hand : Option TxId) → IsMove c.desk hand m
    → Holds decl c → HoldsAfter decl n (by_desk c m)
desk_holds decl n c m hand is h = still_holds decl n (by_desk c m).client m.turn (sends is) (ends (is_some m.turn.told))
  where
    ends : (b : Bool) → Holds decl (record {
      front = cond b (ended c.front m.desk.clock.value m.desk.epoch) c.front;
      desk = m.desk;
    })
    ends true = record { front = ended_holds decl c.front m.desk.clock.value m.desk.epoch; numbered = tt }
    ends false = record { front = h.front; numbered = h.numbered }

    sends : IsMove c.desk hand m → Every (λ (p : Posting). IsDeskly p.message) m.turn.sends
    sends (inl w) = every-weaker (λ (p : Posting). IsPrepare p.message) (λ (p : Posting). IsDeskly p.message)
        (λ p. deskly_prepare p.message) m.turn.sends w.sends
    sends (inr (inl r)) = subst (λ (t : Turn). Every (λ (p : Posting). IsDeskly p.message) t.sends) (sym r.turn)
        (decisions_deskly r.begun (outcomes.Committed r.stamp) r.begun.asked)
    sends (inr (inr a)) = subst (λ (t : Turn). Every (λ (p : Posting). IsDeskly p.message) t.sends) (sym a.turn)
        (decisions_deskly a.begun outcomes.Aborted a.begun.asked)

-- each input

answered_holds : (decl : Declaration) (n : ℕ) (c : Client) (number : ℕ) (answer : Option Answer) → Holds decl c
    → HoldsAfter decl n (answered decl c number answer)
answered_holds decl n c number answer h = by c.desk.voting
  where
    by : (o : Option Voting) → HoldsAfter decl n (answered_by decl c o number answer)
    by None = front_holds decl n c (fronts.takes decl c.front number answer)
        (answers_keep_hold decl c.front number answer h.front)
        (answers_ask_at_once decl c.front number answer h.front h.numbered)
    by (Some v) = desk_holds decl n c (desks.vote c.desk number answer) (tx_of c.desk.voting)
        (vote-moves c.desk number answer) h

command_holds : (decl : Declaration) (n : ℕ) (c : Client) (command : Command) → Holds decl c
    → HoldsAfter decl n (by_front c (fronts.called decl c.front command))
command_holds decl n c command h = front_holds decl n c (fronts.called decl c.front command)
    (commands_keep_hold decl c.front command h.front) (commands_ask_at_once decl c.front command h.front h.numbered)

commits_holds : (decl : Declaration) (n : ℕ) (c : Client) (o : Option Transaction) → Holds decl c
    → HoldsAfter decl n (commits decl c o)
commits_holds decl n c None h = command_holds decl n c commands.Commit h
commits_holds decl n c (Some t) h = by t.begun.doomed
  where
    by : (dead : Bool) → HoldsAfter decl n (cond dead (by_front c (fronts.called decl c.front commands.Commit))
        (by_desk c (desks.prepare decl c.desk t.begun c.front.clock.value)))
    by true = command_holds decl n c commands.Commit h
    by false = desk_holds decl n c (desks.prepare decl c.desk t.begun c.front.clock.value) (Some t.begun.tx)
        (prepare-moves decl c.desk t.begun c.front.clock.value) h

called_fits : (decl : Declaration) (n : ℕ) (c : Client) (command : Command) → Holds decl c
    → HoldsAfter decl n (called decl c command)
called_fits decl n c command h =
    called_cases decl c (λ (x : Command) (move : ClientMove). HoldsAfter decl n move)
    (λ x. command_holds decl n c x h) (commits_holds decl n c c.front.transaction h) command

heard_fits : (decl : Declaration) (n : ℕ) (c : Client) (from number : ℕ) (m : Message) → Holds decl c
    → HoldsAfter decl n (heard decl c from number m)
heard_fits decl n c from number m h =
    heard_cases decl c from number (λ (x : Message) (move : ClientMove). HoldsAfter decl n move) (λ x none. h)
    (λ to answer. answered_holds decl n c to (Some answer) h)
    (λ tx. record { front = h.front; numbered = h.numbered })
    (λ tx. record { front = h.front; numbered = h.numbered }) m

pub takes_fit : (decl : Declaration) (n : ℕ) (c : Client) (g : Input) → Holds decl c
    → HoldsAfter decl n (client_takes decl c g)
takes_fit decl n c (inputs.Called command) h = called_fits decl n c command h
takes_fit decl n c (inputs.Got envelope) h = heard_fits decl n c envelope.from envelope.number envelope.message h
takes_fit decl n c (inputs.Lost number) h = answered_holds decl n c number None h

-- What holds of each front end in every net that may come about.
use Rattle.std.proofs.Common.{◌≡◌, ℕ, ◌+◌, ◌-◌, Bool, true, false, cond, inl, inr, List, [], ◌∷◌, ◌++◌, map, length}
use Rattle.std.proofs.Common.{is_some, Option, Some, None, refl, sym, ap, ◌∙◌, subst}
use Rattle.qc_stamp.specs.declared.stamp.TxId.{TxId}
use Rattle.qc_list.specs.Vocabulary.{In}
use Rattle.qc_list.proofs.Members.{every-In}
use Rattle.qc_decl.specs.declared.declaration.Declaration.{Declaration}
use Rattle.qc_msg.specs.declared.message.Answer.{Answer}
use Rattle.qc_msg.specs.declared.message.Message.{Message}
use Rattle.qc_msg.specs.declared.message.Message.TheVariants as messages
use Rattle.qc_msg.specs.declared.message.Outcome.{Outcome}
use Rattle.qc_msg.specs.declared.message.Want.{Want}
use Rattle.qc_msg.specs.declared.message.Want.TheVariants.{Read, Append, Prepare}
use Rattle.qc_msg.specs.declared.step.Command.{Command}
use Rattle.qc_msg.specs.declared.step.Command.TheVariants as commands
use Rattle.qc_msg.specs.declared.step.Input.{Input}
use Rattle.qc_msg.specs.declared.step.Input.TheVariants.{Called, Got, Lost}
use Rattle.qc_msg.specs.declared.turn.Posting.{Posting}
use Rattle.qc_msg.specs.declared.turn.Turn.{Turn}
use Rattle.qc_msg.specs.Vocabulary.{Decided, Requested, decision_in, request_in}
use Rattle.qc_commit.specs.declared.desk.Desk.{Desk}
use Rattle.qc_commit.specs.declared.desk.Voting.{Voting}
use Rattle.qc_commit.specs.Vocabulary.{DeskMove}
use Rattle.qc_commit.specs.Conduct as desks
use Rattle.qc_commit.proofs.Moves.{IsMove, IsPrepare, IsPromiseWanted, prepare-moves, vote-moves}
use Rattle.qc_front.specs.declared.doing.Doing.{Doing}
use Rattle.qc_front.specs.declared.doing.Doing.TheVariants.{Idle, Reading, Appending}
use Rattle.qc_front.specs.declared.front.Front.{Front}
use Rattle.qc_front.specs.declared.transaction.Transaction.{Transaction}
use Rattle.qc_front.specs.Conduct as fronts
use Rattle.qc_front.specs.Vocabulary.{AreSent, AsksAtOnce, FrontHolds, FrontMove, IsFor, IsNumbered, IsSent, ended}
use Rattle.qc_front.specs.Vocabulary.{numbered_all, numbered_one, requested}
use Rattle.qc_front.specs.Requests.{IsRequestOf, IsVerdictOf}
use Rattle.qc_front.proofs.AtOnce.{commands_ask_at_once, answers_ask_at_once}
use Rattle.qc_front.proofs.CommandsKeep.{commands_keep_hold}
use Rattle.qc_front.proofs.Keeping.{ended_holds, new_holds, answers_keep_hold}
use Rattle.qc_front.proofs.Numbering.{sent_holds}
use Rattle.qc_front.proofs.Sending.{called_sent, takes_sent}
use Rattle.qc_client.specs.Vocabulary.{answered_by, by_desk, by_front, called, client_takes, commits, heard, sent_one}
use Rattle.qc_client.specs.Vocabulary.{requested as client_requested}
use Rattle.qc_client.specs.declared.client.Client.{Client}
use Rattle.std.specs.Prelude.{MatchOption, option_to_list}
use Rattle.std.specs.Option.{option_map_or}
use Rattle.qc_recover.specs.Vocabulary.{client_rises}
use Rattle.laws_refinement.specs.Vocabulary.{FrontStands, Net, Reaches, sent_all}
use Rattle.laws_refinement.specs.Net as nets
use Rattle.laws_refinement.proofs.ClientCases.{called_cases}
use Rattle.laws_refinement.proofs.Machine.{put_one}
use Rattle.laws_refinement.proofs.MessageCases.{message_cases}
use Rattle.qc_client.proofs.HeardCases.{heard_cases}

-- a front end that stands
record Stands (decl : Declaration) (front : Front) : Type 0 where
  holds : FrontHolds decl front
  numbered : IsNumbered front.doing

-- requests of rounds are numbered at the front end, and nothing else is

abbrev IsRoundWant : Want → Type 0
IsRoundWant (Read read) = Unit {0}
IsRoundWant (Append object view own) = Unit {0}
IsRoundWant Prepare = ⊥

abbrev IsFrontMessage : Message → Type 0
IsFrontMessage message = MatchOption (request_in message) (Unit {0}) (λ (q : Requested). IsRoundWant q.want)

one_numbered : (c : Client) (n to : ℕ) (message : Message) → IsFrontMessage message
    → (sent_one c n to message).front ≡ numbered_one c.front n to message
one_numbered c n to message = by (request_in message)
  where
    asked : (want : Want) → IsRoundWant want → (client_requested c n to want).front ≡ requested c.front n to
    asked (Read read) is = refl
    asked (Append object view own) is = refl
    asked Prepare is = absurd is

    by : (o : Option Requested) → MatchOption o (Unit {0}) (λ (q : Requested). IsRoundWant q.want)
        → (option_map_or (λ (q : Requested). client_requested c n to q.want) o c).front
        ≡ option_map_or (λ (q : Requested). requested c.front n to) o c.front
    by None is = refl
    by (Some q) is = asked q.want is

all_numbered : (c : Client) (n : ℕ) (ps : List Posting) → ((p : Posting) → In p ps → IsFrontMessage p.message)
    → (sent_all c n ps).front ≡ numbered_all c.front n ps
all_numbered c n [] are = refl
all_numbered c n (p ∷ ps) are =
    all_numbered (sent_one c n p.to p.message) (n + 1) ps (λ q among. are q (inr among))
    ∙ ap (λ (f : Front). numbered_all f (n + 1) ps) (one_numbered c n p.to p.message (are p (inl refl)))

-- messages that leave the front end as it is

abbrev IsDeskMessage : Message → Type 0
IsDeskMessage message = MatchOption (request_in message) (Unit {0}) (λ (q : Requested). IsPromiseWanted q.want)

one_left : (c : Client) (n to : ℕ) (message : Message) → IsDeskMessage message
    → (sent_one c n to message).front ≡ c.front
one_left c n to message = by (request_in message)
  where
    asked : (want : Want) → IsPromiseWanted want → (client_requested c n to want).front ≡ c.front
    asked (Read read) is = absurd is
    asked (Append object view own) is = absurd is
    asked Prepare is = refl

    by : (o : Option Requested) → MatchOption o (Unit {0}) (λ (q : Requested). IsPromiseWanted q.want)
        → (option_map_or (λ (q : Requested). client_requested c n to q.want) o c).front ≡ c.front
    by None is = refl
    by (Some q) is = asked q.want is

all_left : (c : Client) (n : ℕ) (ps : List Posting) → ((p : Posting) → In p ps → IsDeskMessage p.message)
    → (sent_all c n ps).front ≡ c.front
all_left c n [] are = refl
all_left c n (p ∷ ps) are = all_left (sent_one c n p.to p.message) (n + 1) ps (λ q among. are q (inr among))
    ∙ one_left c n p.to p.message (are p (inl refl))

prepare_left : (message : Message) → IsPrepare message → IsDeskMessage message
prepare_left =
    message_cases (λ message q a v i. IsPrepare message
    → MatchOption q (Unit {0}) (λ (x : Requested). IsPromiseWanted x.want))
    (λ q is. is) (λ a is. tt) (λ v is. tt) (λ start is. tt) (λ message is. tt)

decision_left : (tx : TxId) (outcome : Outcome) (sites : List ℕ) (p : Posting)
    → In p (map (λ (site : ℕ). record { to = site; message = messages.Decision tx outcome }) sites)
    → IsDeskMessage p.message
decision_left tx outcome [] p among = absurd among
decision_left tx outcome (site ∷ sites) p (inl same) = subst (λ (x : Posting). IsDeskMessage x.message) (sym same) tt
decision_left tx outcome (site ∷ sites) p (inr rest) = decision_left tx outcome sites p rest

module _ (decl : Declaration) where
  -- a turn of the front end

  round_want : (t : Transaction) (d : Doing) (site : ℕ) (want : Want) → IsFor decl t d site want → IsRoundWant want
  round_want t Idle site want for = absurd for
  round_want t (Reading object inv calls round) site want for = subst IsRoundWant (sym for) tt
  round_want t (Appending object inv event calls round) site want for = subst IsRoundWant (sym for) tt

  sent_by_front : (before after : Front) (to : ℕ) (message : Message) → IsSent decl before after to message
      → IsFrontMessage message
  sent_by_front before after to message = by (request_in message)
    where
      by : (o : Option Requested)
          → MatchOption o
          (MatchOption (decision_in message) ⊥ (λ (v : Decided). IsVerdictOf before to v.tx v.verdict))
          (λ (q : Requested). IsRequestOf decl after to q.tx q.epoch q.life q.want)
          → MatchOption o (Unit {0}) (λ (q : Requested). IsRoundWant q.want)
      by None s = tt
      by (Some q) s = round_want s.t after.doing to q.want s.wants

  front_turn : (c : Client) (move : FrontMove) (n : ℕ) → FrontHolds decl move.front → AreSent decl c.front move
      → AsksAtOnce decl move → Stands decl (sent_all (by_front c move).client n (by_front c move).turn.sends).front
  front_turn c move n holds sent once =
      let same : (sent_all (by_front c move).client n move.turn.sends).front ≡ fronts.sent move.front n =
      all_numbered (by_front c move).client n move.turn.sends
      (λ p among. sent_by_front c.front move.front p.to p.message (sent p among)) ∙ once.told n in
      subst (λ (f : Front). Stands decl f) (sym same)
      (record { holds = sent_holds decl move.front n holds; numbered = once.numbered n })

  -- a turn of the desk

  ended_front : (c : Client) (move : DeskMove) (b : Bool) → Stands decl c.front
      → Stands decl (cond b (ended c.front move.desk.clock.value move.desk.epoch) c.front)
  ended_front c move true s = record {
    holds = ended_holds decl c.front move.desk.clock.value move.desk.epoch;
    numbered = tt;
  }
  ended_front c move false s = s

  desk_turn : (c : Client) (move : DeskMove) (n : ℕ) → Stands decl c.front
      → ((p : Posting) → In p move.turn.sends → IsDeskMessage p.message)
      → Stands decl (sent_all (by_desk c move).client n (by_desk c move).turn.sends).front
  desk_turn c move n s are = subst (λ (f : Front). Stands decl f)
      (sym (all_left (by_desk c move).client n move.turn.sends are)) (ended_front c move (is_some move.turn.told) s)

  desk_sends : (desk : Desk) (hand : Option TxId) (move : DeskMove) → IsMove desk hand move → (p : Posting)
      → In p move.turn.sends → IsDeskMessage p.message
  desk_sends desk hand move (inl waits) p among =
      prepare_left p.message (every-In (λ (q : Posting). IsPrepare q.message) p move.turn.sends waits.sends among)
  desk_sends desk hand move (inr (inl done)) p among =
      decision_left _ _ done.begun.asked p (subst (λ (turn : Turn). In p turn.sends) done.turn among)
  desk_sends desk hand move (inr (inr given)) p among =
      decision_left _ _ given.begun.asked p (subst (λ (turn : Turn). In p turn.sends) given.turn among)

  -- each input

  command_stands : (c : Client) (command : Command) (n : ℕ) → Stands decl c.front
      → Stands decl (sent_all (by_front c (fronts.called decl c.front command)).client n
      (by_front c (fronts.called decl c.front command)).turn.sends).front
  command_stands c command n s = front_turn c (fronts.called decl c.front command) n
      (commands_keep_hold decl c.front command s.holds) (called_sent decl c.front command)
      (commands_ask_at_once decl c.front command s.holds s.numbered)

  commit_stands : (c : Client) (t : Option Transaction) (n : ℕ) → Stands decl c.front
      → Stands decl (sent_all (commits decl c t).client n (commits decl c t).turn.sends).front
  commit_stands c None n s = command_stands c commands.Commit n s
  commit_stands c (Some t) n s = by t.begun.doomed
    where
      by : (b : Bool) → Stands decl (sent_all (cond b (by_front c (fronts.called decl c.front commands.Commit))
          (by_desk c (desks.prepare decl c.desk t.begun c.front.clock.value))).client n
          (cond b (by_front c (fronts.called decl c.front commands.Commit))
          (by_desk c (desks.prepare decl c.desk t.begun c.front.clock.value))).turn.sends).front
      by true = command_stands c commands.Commit n s
      by false = desk_turn c (desks.prepare decl c.desk t.begun c.front.clock.value) n s
          (desk_sends c.desk (Some t.begun.tx) (desks.prepare decl c.desk t.begun c.front.clock.value)
          (prepare-moves decl c.desk t.begun c.front.clock.value))

  called_stands : (c : Client) (command : Command) (n : ℕ) → Stands decl c.front
      → Stands decl (sent_all (called decl c command).client n (called decl c command).turn.sends).front
  called_stands c command n s =
      called_cases decl c (λ move. Stands decl (sent_all move.client n move.turn.sends).front)
      (λ given. command_stands c given n s) (commit_stands c c.front.transaction n s) command

  answered_stands : (c : Client) (number : ℕ) (answer : Option Answer) (n : ℕ) (o : Option Voting) → Stands decl c.front
      → Stands decl (sent_all (answered_by decl c o number answer).client n
      (answered_by decl c o number answer).turn.sends).front
  answered_stands c number answer n None s =
      front_turn c (fronts.takes decl c.front number answer) n (answers_keep_hold decl c.front number answer s.holds)
      (takes_sent decl c.front number answer) (answers_ask_at_once decl c.front number answer s.holds s.numbered)
  answered_stands c number answer n (Some v) s =
      desk_turn c (desks.vote c.desk number answer) n s
      (desk_sends c.desk _ (desks.vote c.desk number answer) (vote-moves c.desk number answer))

  heard_stands : (c : Client) (from number : ℕ) (message : Message) (n : ℕ) → Stands decl c.front
      → Stands decl (sent_all (heard decl c from number message).client n
      (heard decl c from number message).turn.sends).front
  heard_stands c from number message n s =
      heard_cases decl c from number (λ x move. Stands decl (sent_all move.client n move.turn.sends).front) (λ x. s)
      (λ to answer. answered_stands c to (Some answer) n c.desk.voting s) (λ tx. s) (λ tx. s) message

  takes_stands : (c : Client) (given : Input) (n : ℕ) → Stands decl c.front
      → Stands decl (sent_all (client_takes decl c given).client n (client_takes decl c given).turn.sends).front
  takes_stands c (Called command) n s = called_stands c command n s
  takes_stands c (Got envelope) n s = heard_stands c envelope.from envelope.number envelope.message n s
  takes_stands c (Lost number) n s = answered_stands c number None n c.desk.voting s

  each_stands : (net : Net) → Reaches decl net → (a : ℕ) → Stands decl (net.clients a).front
  each_stands net nets.begins a = record { holds = new_holds decl (a - decl.sites); numbered = tt }
  each_stands net (nets.serves b given before r site up came) a = each_stands before r a
  each_stands net (nets.site_falls b before r site up) a = each_stands before r a
  each_stands net (nets.client_falls b before r client up) a = each_stands before r a
  each_stands net (nets.site_fails b given written sends before r site up came wrote failed) a = each_stands before r a
  each_stands net (nets.client_fails b given written sends before r client up came ready wrote failed) a =
      each_stands before r a
  each_stands net (nets.site_rises_up b back before r site down given) a = each_stands before r a
  each_stands net (nets.client_rises_up b back before r client down given) a =
      put_one (λ (k : ℕ) (c : Client). Stands decl c.front) before.clients b
      (client_rises (b - decl.sites) (before.records b ++ option_to_list back)).client a
      (record { holds = refl; numbered = tt }) (λ other. each_stands before r a)
  each_stands net (nets.site_rises_in_vain b back before r site down given) a = each_stands before r a
  each_stands net (nets.client_rises_in_vain b back before r client down given) a = each_stands before r a
  each_stands net (nets.takes b given before r client up came ready) a =
      put_one (λ (k : ℕ) (c : Client). Stands decl c.front) before.clients b
      (sent_all (client_takes decl (before.clients b) given).client (length before.mail)
      (client_takes decl (before.clients b) given).turn.sends) a
      (takes_stands (before.clients b) given (length before.mail) (each_stands before r b))
      (λ other. each_stands before r a)
  each_stands net (nets.administers given before r up came named) a = each_stands before r a
  each_stands net (nets.admin_falls before r up) a = each_stands before r a
  each_stands net (nets.admin_fails given written sends before r up came named wrote failed) a = each_stands before r a
  each_stands net (nets.admin_rises_up back before r down given) a = each_stands before r a
  each_stands net (nets.admin_rises_in_vain back before r down given) a = each_stands before r a

  pub front_ends_stand : (net : Net) → Reaches decl net → (a : ℕ) → FrontStands decl net a
  front_ends_stand net r a = let s : Stands decl (net.clients a).front = each_stands net r a in
      record { holds = s.holds; numbered = s.numbered }

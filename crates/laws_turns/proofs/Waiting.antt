-- A client waits for something just while it goes on with a command: it tells the reply as it ceases to wait.
use Rattle.std.proofs.Common.{◌≡◌, ℕ, ◌||◌, not, Bool, true, false, if◌then◌else◌, Option, Some, None, is_some, inl}
use Rattle.std.proofs.Common.{inr, refl, sym, ap, ◌∙◌, subst, MatchOption}
use Rattle.qc_decl.specs.declared.declaration.Declaration.{Declaration}
use Rattle.qc_stamp.specs.declared.stamp.TxId.{TxId}
use Rattle.qc_msg.specs.declared.message.Answer.{Answer}
use Rattle.qc_msg.specs.declared.message.Message.{Message}
use Rattle.qc_msg.specs.declared.reply.Reply.{Reply}
use Rattle.qc_msg.specs.declared.reply.Reply.TheVariants as replies
use Rattle.qc_msg.specs.declared.reply.AbortCause.TheVariants as causes
use Rattle.qc_msg.specs.declared.step.Command.{Command}
use Rattle.qc_msg.specs.declared.step.Command.TheVariants as commands
use Rattle.qc_msg.specs.declared.step.Input.{Input}
use Rattle.qc_msg.specs.declared.step.Input.TheVariants as inputs
use Rattle.qc_msg.specs.declared.turn.Turn.{Turn}
use Rattle.qc_msg.specs.Vocabulary.{quiet, telling, epoch_in}
use Rattle.qc_commit.specs.declared.desk.Desk.{Desk}
use Rattle.qc_commit.specs.declared.desk.Voting.{Voting}
use Rattle.qc_commit.specs.Conduct as desks
use Rattle.qc_commit.specs.Vocabulary.{DeskMove}
use Rattle.qc_commit.proofs.Moves.{IsMove, prepare-moves, tx_of, vote-moves}
use Rattle.qc_front.specs.declared.doing.Doing.{Doing}
use Rattle.qc_front.specs.declared.doing.Doing.TheVariants.{Idle, Reading, Appending}
use Rattle.qc_front.specs.declared.front.Front.{Front}
use Rattle.qc_front.specs.declared.transaction.Transaction.{Transaction}
use Rattle.qc_front.specs.Conduct as fronts
use Rattle.qc_front.specs.Vocabulary.{FrontMove, GoesOn, aborts, begins, ended, gives_up, is_idle, moved as front_moved}
use Rattle.qc_front.proofs.Goes.{do_goes, takes_goes}
use Rattle.qc_client.specs.declared.client.Client.{Client}
use Rattle.laws_turns.specs.Vocabulary.{is_waiting, waits}
use Rattle.laws_turns.proofs.ClientCases.{heard_cases, sent_cases}
use Rattle.qc_client.specs.Vocabulary.{ClientMove, answered, answered_by, by_desk, by_front, called, client_takes}
use Rattle.qc_client.specs.Vocabulary.{commits, heard, sent_one}
use Rattle.qc_list.proofs.Booleans.{not_false}

-- it tells a reply just where it doesn't wait any more
abbrev pub Ends : ClientMove → Type 0
Ends m = is_some m.turn.told ≡ not (is_waiting m.client)

-- it tells none, and doesn't wait
pub record Rests (m : ClientMove) : Type 0 where
  pub told : m.turn.told ≡ None
  pub still : is_waiting m.client ≡ false

-- nothing is waited for

no_votes : (voting : Option Voting) (doing : Doing) → waits voting doing ≡ false → voting ≡ None
no_votes None doing is = refl
no_votes (Some v) doing is = absurd (let never : ⊥ = cc in never)

no_round : (voting : Option Voting) (doing : Doing) → waits voting doing ≡ false → is_idle doing ≡ true
no_round None doing is = not_false (is_idle doing) is
no_round (Some v) doing is = absurd (let never : ⊥ = cc in never)

pub votes_none : (c : Client) → is_waiting c ≡ false → c.desk.voting ≡ None
votes_none c still = no_votes c.desk.voting c.front.doing still

pub round_none : (c : Client) → is_waiting c ≡ false → is_idle c.front.doing ≡ true
round_none c still = no_round c.desk.voting c.front.doing still

twice : (t : Bool) → t ≡ not (not t)
twice true = refl
twice false = refl

-- the front end moves, while no votes are waited for

front_ends : (c : Client) (m : FrontMove) → c.desk.voting ≡ None → GoesOn m → Ends (by_front c m)
front_ends c m none goes = goes ∙ twice (is_idle m.front.doing)
    ∙ ap (λ (v : Option Voting). not (waits v m.front.doing)) (sym none)

front_tells : (c : Client) (m : FrontMove) (reply : Reply) → m.turn.told ≡ Some reply → is_idle m.front.doing ≡ true
    → c.desk.voting ≡ None → Ends (by_front c m)
front_tells c m reply told idle none = front_ends c m none (ap is_some told ∙ sym idle)

-- an answer, or that a request is lost, changes nothing where no round runs
idle_takes : (decl : Declaration) (front : Front) (doing : Doing) (o : Option Transaction) (number : ℕ)
    (answer : Option Answer) → is_idle doing ≡ true
    → fronts.takes_in decl front doing o number answer ≡ front_moved front quiet
idle_takes decl front doing None number answer idle = refl
idle_takes decl front Idle (Some t) number answer idle = refl
idle_takes decl front (Reading object inv calls round) (Some t) number answer idle =
    absurd (let never : ⊥ = cc in never)
idle_takes decl front (Appending object inv event calls round) (Some t) number answer idle =
    absurd (let never : ⊥ = cc in never)

-- the desk moves

told_front : (c : Client) (d : Desk) (told : Option Reply) → is_some told ≡ true
    → is_idle (if is_some told then ended c.front d.clock.value d.epoch else c.front).doing ≡ true
told_front c d told is = ap (λ (t : Bool). is_idle (if t then ended c.front d.clock.value d.epoch else c.front).doing)
    is

waits_some : (voting : Option Voting) (doing : Doing) (tx : TxId) → tx_of voting ≡ Some tx → waits voting doing ≡ true
waits_some None doing tx is = absurd (let never : ⊥ = cc in never)
waits_some (Some v) doing tx is = refl

desk_told : (c : Client) (m : DeskMove) → m.desk.voting ≡ None → is_some m.turn.told ≡ true → Ends (by_desk c m)
desk_told c m none told =
    told ∙ twice true ∙ ap (λ (t : Bool). not (not t)) (sym (told_front c m.desk m.turn.told told))
    ∙ ap (λ (v : Option Voting). not (waits v
    (if is_some m.turn.told then ended c.front m.desk.clock.value m.desk.epoch else c.front).doing)) (sym none)

desk_ends : (c : Client) (hand : Option TxId) (tx : TxId) (m : DeskMove) → hand ≡ Some tx → IsMove c.desk hand m
    → Ends (by_desk c m)
desk_ends c hand tx m handed (inl w) = ap is_some w.told
    ∙ ap not (sym (waits_some m.desk.voting (by_desk c m).client.front.doing tx (w.voting ∙ handed)))
desk_ends c hand tx m handed (inr (inl r)) = desk_told c m r.voting (ap (λ (t : Turn). is_some t.told) r.turn)
desk_ends c hand tx m handed (inr (inr a)) = desk_told c m a.voting (ap (λ (t : Turn). is_some t.told) a.turn)

-- a command, while nothing is waited for

begins_ends : (decl : Declaration) (c : Client) (o : Option Transaction) → c.desk.voting ≡ None
    → is_idle c.front.doing ≡ true → Ends (by_front c (begins decl c.front o))
begins_ends decl c None none idle = front_ends c (begins decl c.front None) none (sym idle)
begins_ends decl c (Some t) none idle = front_ends c (begins decl c.front (Some t)) none (sym idle)

aborts_ends : (c : Client) (o : Option Transaction) → c.desk.voting ≡ None → is_idle c.front.doing ≡ true
    → Ends (by_front c (aborts c.front o))
aborts_ends c None none idle = front_ends c (aborts c.front None) none (sym idle)
aborts_ends c (Some t) none idle = front_ends c (aborts c.front (Some t)) none refl

commit_called : (c : Client) (o : Option Transaction) (t : Transaction) → o ≡ Some t → t.begun.doomed ≡ true
    → fronts.commits c.front o ≡ gives_up c.front t (replies.Aborted causes.Doomed)
commit_called c o t is doomed =
    ap (λ (v : Option Transaction). fronts.commits c.front v) is
    ∙ ap (λ (b : Bool). if b then gives_up c.front t (replies.Aborted causes.Doomed) else front_moved c.front quiet)
    doomed

commits_ends : (decl : Declaration) (c : Client) (o : Option Transaction) → c.front.transaction ≡ o
    → c.desk.voting ≡ None → is_idle c.front.doing ≡ true → Ends (commits decl c o)
commits_ends decl c None is none idle =
    subst (λ (m : FrontMove). Ends (by_front c m)) (sym (ap (λ (v : Option Transaction). fronts.commits c.front v) is))
    (front_ends c (front_moved c.front (telling replies.NoTransaction)) none (sym idle))
commits_ends decl c (Some t) is none idle = by t.begun.doomed refl
  where
    by : (b : Bool) → t.begun.doomed ≡ b → Ends
        (if b then by_front c (fronts.called decl c.front commands.Commit) else by_desk c
        (desks.prepare decl c.desk t.begun c.front.clock.value))
    by true doomed = subst (λ (m : FrontMove). Ends (by_front c m))
        (sym (commit_called c c.front.transaction t is doomed))
        (front_ends c (gives_up c.front t (replies.Aborted causes.Doomed)) none refl)
    by false sound = desk_ends c (Some t.begun.tx) t.begun.tx
        (desks.prepare decl c.desk t.begun c.front.clock.value) refl
        (prepare-moves decl c.desk t.begun c.front.clock.value)

-- nobody asks a client to move an epoch
abbrev pub IsClients : Command → Type 0
IsClients command = MatchOption (epoch_in command) (Unit {0}) (λ (number : ℕ). ⊥)

pub are_clients : (command : Command) → epoch_in command ≡ None → IsClients command
are_clients command none = subst (λ (o : Option ℕ). MatchOption o (Unit {0}) (λ (number : ℕ). ⊥)) (sym none) tt

pub called_ends : (decl : Declaration) (c : Client) (command : Command) → IsClients command → is_waiting c ≡ false
    → Ends (called decl c command)
called_ends decl c commands.Begin is still =
    begins_ends decl c c.front.transaction (votes_none c still) (round_none c still)
called_ends decl c (commands.Do object inv) is still =
    front_ends c (fronts.called decl c.front (commands.Do object inv)) (votes_none c still)
    (do_goes decl c.front object inv (round_none c still))
called_ends decl c commands.Commit is still =
    commits_ends decl c c.front.transaction refl (votes_none c still) (round_none c still)
called_ends decl c commands.Abort is still = aborts_ends c c.front.transaction (votes_none c still) (round_none c still)
called_ends decl c (commands.Epoch number) is still = absurd is

pub epoch_rests : (decl : Declaration) (c : Client) (number : ℕ) → is_waiting c ≡ false
    → Rests (called decl c (commands.Epoch number))
epoch_rests decl c number still = record { told = refl; still = still }

-- an answer, or that a request is lost

answered_rests : (decl : Declaration) (c : Client) (number : ℕ) (answer : Option Answer) → is_waiting c ≡ false
    → Rests (answered decl c number answer)
answered_rests decl c number answer still =
    subst (λ (o : Option Voting). Rests (answered_by decl c o number answer)) (sym (votes_none c still))
    (subst (λ (m : FrontMove). Rests (by_front c m))
    (sym (idle_takes decl c.front c.front.doing c.front.transaction number answer (round_none c still)))
    (record { told = refl; still = still }))

answered_ends : (decl : Declaration) (c : Client) (number : ℕ) (answer : Option Answer) → is_waiting c ≡ true
    → Ends (answered decl c number answer)
answered_ends decl c number answer busy = by c.desk.voting refl
  where
    running : (t : Bool) → not t ≡ true → t ≡ false
    running true is = absurd (let never : ⊥ = cc in never)
    running false is = refl

    by : (o : Option Voting) → c.desk.voting ≡ o → Ends (answered_by decl c o number answer)
    by None none = front_ends c (fronts.takes decl c.front number answer) none
        (takes_goes decl c.front number answer (running (is_idle c.front.doing)
        (ap (λ (v : Option Voting). waits v c.front.doing) (sym none) ∙ busy)))
    by (Some v) is = desk_ends c (tx_of c.desk.voting) v.begun.tx (desks.vote c.desk number answer) (ap tx_of is)
        (vote-moves c.desk number answer)

-- what is taken that is no command

abbrev pub IsNoCall : Input → Type 0
IsNoCall (inputs.Called command) = ⊥
IsNoCall (inputs.Got envelope) = Unit {0}
IsNoCall (inputs.Lost number) = Unit {0}

heard_rests : (decl : Declaration) (c : Client) (from number : ℕ) (m : Message) → is_waiting c ≡ false
    → Rests (heard decl c from number m)
heard_rests decl c from number m still =
    heard_cases decl c from number (λ m move. Rests move) (λ m none. record { told = refl; still = still })
    (λ to answer. answered_rests decl c to (Some answer) still) (λ tx. record { told = refl; still = still })
    (λ tx. record { told = refl; still = still }) m

heard_ends : (decl : Declaration) (c : Client) (from number : ℕ) (m : Message) → is_waiting c ≡ true
    → Ends (heard decl c from number m)
heard_ends decl c from number m busy =
    heard_cases decl c from number (λ m move. Ends move) (λ m none. sym (ap not busy))
    (λ to answer. answered_ends decl c to (Some answer) busy) (λ tx. sym (ap not busy)) (λ tx. sym (ap not busy)) m

pub takes_rests : (decl : Declaration) (c : Client) (g : Input) → IsNoCall g → is_waiting c ≡ false
    → Rests (client_takes decl c g)
takes_rests decl c (inputs.Called command) none still = absurd none
takes_rests decl c (inputs.Got envelope) none still =
    heard_rests decl c envelope.from envelope.number envelope.message still
takes_rests decl c (inputs.Lost number) none still = answered_rests decl c number None still

pub takes_ends : (decl : Declaration) (c : Client) (g : Input) → IsNoCall g → is_waiting c ≡ true
    → Ends (client_takes decl c g)
takes_ends decl c (inputs.Called command) none busy = absurd none
takes_ends decl c (inputs.Got envelope) none busy =
    heard_ends decl c envelope.from envelope.number envelope.message busy
takes_ends decl c (inputs.Lost number) none busy = answered_ends decl c number None busy

-- what it sent changes nothing of it

idle_asked : (doing : Doing) (number site : ℕ) → is_idle (fronts.requested_in doing number site) ≡ is_idle doing
idle_asked Idle number site = refl
idle_asked (Reading object inv calls round) number site = refl
idle_asked (Appending object inv event calls round) number site = refl

votes_asked : (desk : Desk) (o : Option Voting) (number site : ℕ) → desk.voting ≡ o
    → is_some (desks.prepared_in desk o number site).voting ≡ is_some desk.voting
votes_asked desk None number site is = refl
votes_asked desk (Some v) number site is = sym (ap is_some is)

pub sent_waits : (c : Client) (number to : ℕ) (m : Message) → is_waiting (sent_one c number to m) ≡ is_waiting c
sent_waits c number to m =
    sent_cases c number to (λ (d : Client). is_waiting d ≡ is_waiting c)
    (ap (λ (t : Bool). is_some c.desk.voting || not t) (idle_asked c.front.doing number to))
    (ap (λ (t : Bool). t || not (is_idle c.front.doing)) (votes_asked c.desk c.desk.voting number to refl)) refl m

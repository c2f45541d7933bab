-- A client stands again after each input that it may take: a command where none runs, and whatever comes of a request.
use Rattle.std.proofs.Common.{◌≡◌, ℕ, ◌+◌, ◌<◌, ◌≤◌, ◌==◌, Bool, true, false, cond, List, [], ◌∷◌, map, length, Option}
use Rattle.std.proofs.Common.{Some, None, is_some, refl, sym, ap, ◌∙◌, subst}
use Rattle.qc_decl.specs.declared.declaration.Declaration.{Declaration}
use Rattle.qc_decl.specs.Vocabulary.{most_sites}
use Rattle.qc_commit.specs.declared.ballot.Ballot.{Ballot}
use Rattle.qc_commit.specs.declared.desk.Desk.{Desk}
use Rattle.qc_commit.specs.declared.desk.Voting.{Voting}
use Rattle.qc_commit.specs.Vocabulary.{AsksFew, DeskMove, Numbers, Prepares, Votes, are_cast, blank, cast}
use Rattle.qc_commit.specs.Vocabulary.{first_against, moved as desk_moved, participants, prepares, sent_each, vote_of}
use Rattle.qc_commit.specs.Conduct as desks
use Rattle.qc_commit.proofs.Aside.{few_sites_are_asked}
use Rattle.qc_commit.proofs.Numbering.{IsSettled, each-sent, settled-prepare, settled-sent, settled-vote}
use Rattle.qc_front.specs.declared.doing.Doing.{Doing}
use Rattle.qc_front.specs.declared.doing.Doing.TheVariants.{Idle, Reading, Appending}
use Rattle.qc_front.specs.declared.front.Front.{Front}
use Rattle.qc_front.specs.declared.transaction.Transaction.{Transaction}
use Rattle.qc_front.specs.Conduct as fronts
use Rattle.qc_front.specs.Vocabulary.{aborts, begins, gives_up, is_idle, moved as front_moved}
use Rattle.qc_front.proofs.AtOnce.{commands_ask_at_once, answers_ask_at_once}
use Rattle.qc_front.proofs.Goes.{do_goes, takes_goes}
use Rattle.qc_front.proofs.CommandsKeep.{commands_keep_hold}
use Rattle.qc_front.proofs.Keeping.{answers_keep_hold}
use Rattle.qc_front.proofs.Sending.{called_sent, takes_sent}
use Rattle.qc_msg.specs.declared.begun.Begun.{Begun}
use Rattle.qc_msg.specs.declared.message.Answer.{Answer}
use Rattle.qc_msg.specs.declared.message.Message.{Message}
use Rattle.qc_msg.specs.declared.message.Message.TheVariants as messages
use Rattle.qc_msg.specs.declared.message.Outcome.TheVariants as outcomes
use Rattle.qc_msg.specs.declared.reply.Reply.{Reply}
use Rattle.qc_msg.specs.declared.reply.Reply.TheVariants as replies
use Rattle.qc_msg.specs.declared.reply.AbortCause.{AbortCause}
use Rattle.qc_msg.specs.declared.reply.AbortCause.TheVariants as causes
use Rattle.qc_msg.specs.declared.step.Command.{Command}
use Rattle.qc_msg.specs.declared.step.Command.TheVariants as commands
use Rattle.qc_msg.specs.declared.step.Input.{Input}
use Rattle.qc_msg.specs.declared.step.Input.TheVariants as inputs
use Rattle.qc_msg.specs.Vocabulary.{Deed, quiet, sending, site_called, without_call}
use Rattle.qc_client.specs.declared.client.Client.{Client}
use Rattle.qc_client.specs.Vocabulary.{answered, answered_by, by_desk, by_front, called, client_takes, commits, heard}
use Rattle.qc_core.specs.Vocabulary.{MayTake, is_running, runs_given}
use Rattle.qc_core.proofs.ClientStands.{Lands, Stands, ended_lands, front_lands, runs_told, sends_all, stays, tells_one}
use Rattle.qc_core.proofs.ClientStands.{waits_lands}

-- a commit begins

prepares_sent : (c : Client) (desk : Desk) (first : ℕ) (b : Begun) (sites : List ℕ)
    → sends_all (record c { desk = desk }) first (map (prepares b) sites)
    ≡ record c { desk = sent_each desk first sites }
prepares_sent c desk first b [] = refl
prepares_sent c desk first b (site ∷ sites) = prepares_sent c (desks.prepared desk first site) (first + 1) b sites

prepare_lands : (decl : Declaration) (c : Client) (first : ℕ) (b : Begun) (clock : ℕ) → 0 < decl.sites
    → decl.sites ≤ most_sites → Stands decl false c
    → Lands decl true first (by_desk c (desks.prepare decl c.desk b clock))
prepare_lands decl c first b clock some most st = by (length (participants decl c.desk.client b) == 0) refl
  where
    sites : List ℕ
    sites = participants decl c.desk.client b

    begins : Bool → DeskMove
    begins x =
        cond x (desks.decides (desks.passed c.desk clock) b)
        (desk_moved (desks.with_voting (desks.passed c.desk clock)
        (Some (record { begun = b; calls = []; ballots = blank sites }))) (sending (map (prepares b) sites)))

    going : Stands decl true c
    going = record {
      front = st.front;
      numbered = st.numbered;
      settled = st.settled;
      few = st.few;
      free = λ is. absurd (let no : ⊥ = cc in no);
    }

    by : (x : Bool) → (length sites == 0) ≡ x → Lands decl true first (by_desk c (desks.prepare decl c.desk b clock))
    by true none = subst (λ (x : Bool). Lands decl true first (by_desk c (begins x))) (sym none)
        (ended_lands decl true c first (begins true).desk (begins true).turn b
        (outcomes.Committed (desks.next_stamp (desks.passed c.desk clock)))
        (replies.Committed (desks.next_stamp (desks.passed c.desk clock))) st.front refl refl refl)
    by false asks = subst (λ (x : Bool). Lands decl true first (by_desk c (begins x))) (sym asks)
        (waits_lands decl true c first (begins false) going refl refl refl
        (subst (λ (x : Bool). IsSettled (desks.sent (begins x).desk first)) asks
        (settled-prepare decl c.desk b clock first some))
        (few_sites_are_asked (begins false).desk (Numbers first) tt
        (subst (λ (x : Bool). AsksFew (begins x).desk.voting) asks
        (few_sites_are_asked c.desk (Prepares decl b clock) (some, most) st.few)))
        (prepares_sent c (begins false).desk first b sites
        ∙ ap (λ (d : Desk). record c { desk = d })
        (subst (λ (x : Bool). sent_each (begins x).desk first sites ≡ desks.sent (begins x).desk first) asks
        (each-sent decl c.desk b clock first asks))))

-- something comes of a request

idle_is : (d : Doing) → is_idle d ≡ true → d ≡ Idle
idle_is Idle is = refl
idle_is (Reading object inv calls round) never = absurd (let no : ⊥ = cc in no)
idle_is (Appending object inv event calls round) never = absurd (let no : ⊥ = cc in no)

idle_takes : (decl : Declaration) (front : Front) (d : Doing) (t : Option Transaction) (number : ℕ)
    (answer : Option Answer) → is_idle d ≡ true → (fronts.takes_in decl front d t number answer).front ≡ front
idle_takes decl front d None number answer is = refl
idle_takes decl front Idle (Some t) number answer is = refl
idle_takes decl front (Reading object inv calls round) (Some t) number answer never = absurd (let no : ⊥ = cc in no)
idle_takes decl front (Appending object inv event calls round) (Some t) number answer never =
    absurd (let no : ⊥ = cc in no)

-- where the reply is told nothing is waited for
told_idle : (running : Bool) (o : Option Reply) (d : Doing) → is_some o ≡ is_idle d → (running ≡ false → ⊥)
    → runs_told running o ≡ false → d ≡ Idle
told_idle running None d goes never is = absurd (never is)
told_idle running (Some reply) d goes never is = idle_is d (sym goes)

takes_lands : (decl : Declaration) (running : Bool) (c : Client) (first number : ℕ) (answer : Option Answer)
    → c.desk.voting ≡ None → Stands decl running c
    → Lands decl running first (by_front c (fronts.takes decl c.front number answer))
takes_lands decl running c first number answer none st =
    front_lands decl running c first (fronts.takes decl c.front number answer) none
    (takes_sent decl c.front number answer) (answers_keep_hold decl c.front number answer st.front)
    (answers_ask_at_once decl c.front number answer st.front st.numbered) (free (is_idle c.front.doing) refl)
  where
    free : (x : Bool) → is_idle c.front.doing ≡ x
        → runs_told running (fronts.takes decl c.front number answer).turn.told ≡ false
        → (fronts.takes decl c.front number answer).front.doing ≡ Idle
    free true idle is = ap (λ (f : Front). f.doing)
        (idle_takes decl c.front c.front.doing c.front.transaction number answer idle) ∙ idle_is c.front.doing idle
    free false runs is = told_idle running (fronts.takes decl c.front number answer).turn.told
        (fronts.takes decl c.front number answer).front.doing (takes_goes decl c.front number answer runs)
        (λ not_running. let idle : c.front.doing ≡ Idle = (st.free not_running).doing in
        let is_so : is_idle c.front.doing ≡ true = ap is_idle idle in let no : ⊥ = cc in no) is

vote_lands : (decl : Declaration) (running : Bool) (c : Client) (v : Voting) (first number : ℕ) (answer : Option Answer)
    → c.desk.voting ≡ Some v → Stands decl running c → (o : Option ℕ)
    → IsSettled (desks.votes_at c.desk v number answer o).desk
    → AsksFew (desks.votes_at c.desk v number answer o).desk.voting
    → Lands decl running first (by_desk c (desks.votes_at c.desk v number answer o))
vote_lands decl running c v first number answer is st None settled few = stays decl running c first st
vote_lands decl running c v first number answer is st (Some site) settled few = counted (are_cast ballots) settled few
  where
    ballots : List Ballot
    ballots = cast v.ballots site (vote_of v.begun site answer)

    learned : Desk
    learned = desks.learns c.desk answer

    waiting : Voting
    waiting = record { begun = v.begun; calls = without_call v.calls number; ballots = ballots }

    runs : (r : Bool) → running ≡ r → running ≡ true
    runs true same = same
    runs false same = absurd (let none : c.desk.voting ≡ None = (st.free same).voting in let no : ⊥ = cc in no)

    out : (o : Option AbortCause) → Lands decl running first (by_desk c (desks.counted_out learned v.begun o))
    out (Some why) = ended_lands decl running c first (desks.with_voting learned None)
        (desks.abort_turn v.begun why) v.begun outcomes.Aborted (replies.Aborted why) st.front refl refl refl
    out None = ended_lands decl running c first (desks.decides learned v.begun).desk
        (desks.decides learned v.begun).turn v.begun (outcomes.Committed (desks.next_stamp learned))
        (replies.Committed (desks.next_stamp learned)) st.front refl refl refl

    counted : (x : Bool) → IsSettled (cond x (desks.counted_out learned v.begun (first_against ballots))
        (desk_moved (desks.with_voting learned (Some waiting)) quiet)).desk
        → AsksFew (cond x (desks.counted_out learned v.begun (first_against ballots))
        (desk_moved (desks.with_voting learned (Some waiting)) quiet)).desk.voting
        → Lands decl running first (by_desk c (cond x (desks.counted_out learned v.begun (first_against ballots))
        (desk_moved (desks.with_voting learned (Some waiting)) quiet)))
    counted true set less = out (first_against ballots)
    counted false set less =
        waits_lands decl running c first (desk_moved (desks.with_voting learned (Some waiting)) quiet) st
        (runs running refl) refl refl
        (subst IsSettled (sym same) set) (subst (λ (d : Desk). AsksFew d.voting) (sym same) less)
        (ap (λ (d : Desk). record c { desk = d }) (sym same))
      where
        same : desks.sent (desks.with_voting learned (Some waiting)) first ≡ desks.with_voting learned (Some waiting)
        same = settled-sent (desks.with_voting learned (Some waiting)) first set

answered_lands : (decl : Declaration) (running : Bool) (c : Client) (first number : ℕ) (answer : Option Answer)
    → Stands decl running c → Lands decl running first (answered decl c number answer)
answered_lands decl running c first number answer st =
    by c.desk.voting refl (settled-vote c.desk number answer st.settled)
    (few_sites_are_asked c.desk (Votes number answer) tt st.few)
  where
    by : (o : Option Voting) → c.desk.voting ≡ o → IsSettled (desks.votes_in c.desk o number answer).desk
        → AsksFew (desks.votes_in c.desk o number answer).desk.voting
        → Lands decl running first (answered_by decl c o number answer)
    by None is settled few = takes_lands decl running c first number answer is st
    by (Some v) is settled few =
        subst (λ (m : DeskMove). Lands decl running first (by_desk c m))
        (ap (λ (o : Option Voting). desks.votes_in c.desk o number answer) (sym is))
        (vote_lands decl running c v first number answer is st (site_called v.calls number) settled few)

heard_lands : (decl : Declaration) (running : Bool) (c : Client) (first from number : ℕ) (m : Message)
    → Stands decl running c → Lands decl running first (heard decl c from number m)
heard_lands decl running c first from number (messages.Request tx epoch life want) st = stays decl running c first st
heard_lands decl running c first from number (messages.Answer to answer) st =
    answered_lands decl running c first to (Some answer) st
heard_lands decl running c first from number (messages.Decision tx verdict) st = stays decl running c first st
heard_lands decl running c first from number (messages.Inquiry tx) st =
    tells_one decl running c first (heard decl c from number (messages.Inquiry tx)).turn st refl (λ n. refl)
heard_lands decl running c first from number (messages.Ask tx) st =
    tells_one decl running c first (heard decl c from number (messages.Ask tx)).turn st refl (λ n. refl)
heard_lands decl running c first from number (messages.Close epoch) st = stays decl running c first st
heard_lands decl running c first from number (messages.Install start) st = stays decl running c first st

-- a command, where none runs

begins_doing : (decl : Declaration) (front : Front) (t : Option Transaction)
    → (begins decl front t).front.doing ≡ front.doing
begins_doing decl front None = refl
begins_doing decl front (Some t) = refl

commits_doing : (front : Front) (t : Option Transaction) → front.doing ≡ Idle
    → (fronts.commits front t).front.doing ≡ Idle
commits_doing front None idle = idle
commits_doing front (Some t) idle = by t.begun.doomed
  where
    by : (x : Bool) → (cond x (gives_up front t (replies.Aborted causes.Doomed)) (front_moved front quiet)).front.doing
        ≡ Idle
    by true = refl
    by false = idle

aborts_doing : (front : Front) (t : Option Transaction) → front.doing ≡ Idle → (aborts front t).front.doing ≡ Idle
aborts_doing front None idle = idle
aborts_doing front (Some t) idle = refl

command_idle : (decl : Declaration) (front : Front) (command : Command) → front.doing ≡ Idle
    → runs_told true (fronts.called decl front command).turn.told ≡ false
    → (fronts.called decl front command).front.doing ≡ Idle
command_idle decl front commands.Begin idle is = begins_doing decl front front.transaction ∙ idle
command_idle decl front (commands.Do object inv) idle is =
    told_idle true (fronts.called decl front (commands.Do object inv)).turn.told
    (fronts.called decl front (commands.Do object inv)).front.doing
    (do_goes decl front object inv (ap is_idle idle)) (λ never. let no : ⊥ = cc in no) is
command_idle decl front commands.Commit idle is = commits_doing front front.transaction idle
command_idle decl front commands.Abort idle is = aborts_doing front front.transaction idle
command_idle decl front (commands.Epoch number) idle is = idle

front_command : (decl : Declaration) (c : Client) (first : ℕ) (command : Command) → Stands decl false c
    → Lands decl true first (by_front c (fronts.called decl c.front command))
front_command decl c first command st =
    front_lands decl true c first (fronts.called decl c.front command) (st.free refl).voting
    (called_sent decl c.front command) (commands_keep_hold decl c.front command st.front)
    (commands_ask_at_once decl c.front command st.front st.numbered)
    (command_idle decl c.front command (st.free refl).doing)

commits_lands : (decl : Declaration) (c : Client) (first : ℕ) → 0 < decl.sites → decl.sites ≤ most_sites
    → Stands decl false c → (o : Option Transaction) → Lands decl true first (commits decl c o)
commits_lands decl c first some most st None = front_command decl c first commands.Commit st
commits_lands decl c first some most st (Some t) = by t.begun.doomed
  where
    by : (x : Bool) → Lands decl true first (cond x (by_front c (fronts.called decl c.front commands.Commit))
        (by_desk c (desks.prepare decl c.desk t.begun c.front.clock.value)))
    by true = front_command decl c first commands.Commit st
    by false = prepare_lands decl c first t.begun c.front.clock.value some most st

called_lands : (decl : Declaration) (c : Client) (first : ℕ) (command : Command) → 0 < decl.sites
    → decl.sites ≤ most_sites → Stands decl false c → Lands decl true first (called decl c command)
called_lands decl c first commands.Begin some most st = front_command decl c first commands.Begin st
called_lands decl c first (commands.Do object inv) some most st = front_command decl c first (commands.Do object inv) st
called_lands decl c first commands.Commit some most st = commits_lands decl c first some most st c.front.transaction
called_lands decl c first commands.Abort some most st = front_command decl c first commands.Abort st
called_lands decl c first (commands.Epoch number) some most st = front_command decl c first (commands.Epoch number) st

-- each input that it may take
pub lands : (decl : Declaration) (ds : List Deed) (c : Client) (g : Input) (first : ℕ) → 0 < decl.sites
    → decl.sites ≤ most_sites → Stands decl (is_running ds) c → MayTake ds g
    → Lands decl (runs_given (is_running ds) g) first (client_takes decl c g)
lands decl ds c (inputs.Called command) first some most st may =
    called_lands decl c first command some most (subst (λ (r : Bool). Stands decl r c) may st)
lands decl ds c (inputs.Got e) first some most st may =
    heard_lands decl (is_running ds) c first e.from e.number e.message st
lands decl ds c (inputs.Lost number) first some most st may = answered_lands decl (is_running ds) c first number None st

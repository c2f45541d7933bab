-- Commands, which come where nothing runs.
use Rattle.std.proofs.Common.{◌≡◌, ◌≤◌, ℕ, ◌+◌, ◌==◌, ◌&&◌, nat_le, Bool, true, false, cond, List, [], length, map, max}
use Rattle.std.proofs.Common.{Option, Some, None, refl, sym, ap, ◌∙◌, subst, arith}
use Rattle.qc_stamp.specs.declared.stamp.TxId.{TxId}
use Rattle.qc_decl.specs.declared.declaration.Declaration.{Declaration}
use Rattle.qc_decl.specs.Vocabulary.{most_transaction_operations, read_need_of}
use Rattle.qc_view.specs.declared.view.View.{View}
use Rattle.qc_view.specs.Vocabulary.{empty_view}
use Rattle.qc_commit.specs.declared.desk.Desk.{Desk}
use Rattle.qc_commit.specs.Conduct as desks
use Rattle.qc_commit.specs.Vocabulary.{DeskMove, blank, moved as desk_moved, participants as desk_participants}
use Rattle.qc_commit.specs.Vocabulary.{prepares}
use Rattle.qc_front.specs.declared.doing.Doing.TheVariants.{Idle}
use Rattle.qc_front.specs.declared.transaction.Transaction.{Transaction}
use Rattle.qc_front.specs.Vocabulary.{RecordsHold, fresh, gives_up, moved as front_moved, performs, reads, round_for}
use Rattle.qc_front.specs.Conduct as fronts
use Rattle.qc_client.specs.declared.client.Client.{Client}
use Rattle.qc_client.specs.Vocabulary.{by_desk, by_front}
use Rattle.qc_client.specs.Conduct as clients
use Rattle.qc_msg.specs.declared.message.Outcome.TheVariants as outcomes
use Rattle.qc_msg.specs.declared.reply.Reply.{Reply}
use Rattle.qc_msg.specs.declared.reply.Reply.TheVariants as replies
use Rattle.qc_msg.specs.declared.reply.AbortCause.TheVariants as causes
use Rattle.qc_msg.specs.declared.step.Command.{Command}
use Rattle.qc_msg.specs.declared.step.Command.TheVariants as commands
use Rattle.qc_msg.specs.Vocabulary.{quiet, sending, telling}
use Rattle.qc_plan.specs.Vocabulary.{verdict}
use Rattle.qc_promise.specs.Vocabulary.{Account, Current, is_read, new_current, participants, read_row, running_row}
use Rattle.qc_promise.specs.Vocabulary.{view_of, vote_row}
use Rattle.laws_due.specs.Vocabulary.{Goes, IsIdleDesk, Ties, begun_of, rests, transaction_of}
use Rattle.laws_due.proofs.VotesCome.{decides_go, voting_desk}
use Rattle.laws_due.proofs.Commits.{votes_start}
use Rattle.laws_due.proofs.DoRows.{run}
use Rattle.laws_due.proofs.DoReads.{reads_go}
use Rattle.laws_due.proofs.Halves.{round_at}
use Rattle.laws_due.proofs.Turns.{client_at, ends_goes, none_ties, rest_ties, still_goes, tells_goes}
use Rattle.laws_due.proofs.Views.{LogsAre}
use Rattle.qc_list.proofs.Places.{replicate_at}

-- the account once a command is called
abbrev pub called_at : Account → Option Current → Command → Account
called_at d t command = record d { command = Some command; requests = []; written = None; current = t }

module _ (decl : Declaration) (number : ℕ) (d : Account) (desk : Desk) (k : IsIdleDesk d desk) where
  abbrev free : Client
  free = client_at d desk None Idle

  -- with no transaction

  pub begins_go : Goes decl number (called_at d None commands.Begin) (clients.called decl free commands.Begin)
  begins_go =
      tells_goes decl number (called_at d None commands.Begin) (replies.Began next)
      (client_at (record d { count = d.count + 1 }) desk (Some (fresh decl next d.known)) Idle) (refl, refl, refl)
      (rest_ties decl (record d { count = d.count + 1 }) desk (new_current next d.known) (fresh decl next d.known)
      (record { client = k.client; clock = k.clock; epoch = k.epoch; voting = k.voting })
      (record {
        is = refl;
        logs = λ object v at. ap (λ (w : View). w.log)
            (replicate_at (length decl.objects) object empty_view v at);
      }))
    where
      next : TxId
      next = record { client = d.client; life = d.life; number = d.count + 1 }

  none_go : (command : Command) → running_row decl (called_at d None command) false ≡ Some replies.NoTransaction
      → Goes decl number (called_at d None command)
      (by_front free (front_moved free.front (telling replies.NoTransaction)))
  none_go command is = tells_goes decl number (called_at d None command) replies.NoTransaction free (is, refl, refl)
      (none_ties decl d desk k)

  pub without_go : (command : Command) → Goes decl number (called_at d None command) (clients.called decl free command)
  without_go commands.Begin = begins_go
  without_go (commands.Do object inv) = none_go (commands.Do object inv) refl
  without_go commands.Commit = none_go commands.Commit refl
  without_go commands.Abort = none_go commands.Abort refl
  without_go (commands.Epoch n) = still_goes decl number (called_at d None (commands.Epoch n)) free refl
      (rests (record {
        command = tt;
        requests = refl;
        written = refl;
        begun = tt;
        front = refl;
        desk = record { client = k.client; clock = k.clock; epoch = k.epoch; voting = k.voting };
      }))

  -- with one

  module _ (t : Current) (asked : List ℕ) (views : List View) (records : RecordsHold decl views t.own t.ops)
      (logs : LogsAre (view_of t) views) where
    abbrev x : Transaction
    x = transaction_of t asked views

    abbrev idle : Client
    idle = client_at d desk (Some x) Idle

    abbrev first_row : ℕ → ℕ → Option Reply
    first_row object inv = read_row decl (run d t object inv []) t object inv
        (verdict (round_at decl d t is_read (read_need_of decl t.epoch object inv) []))

    same_go : (command : Command) (reply : Reply)
        → Ties decl (record d { command = None; requests = []; written = None; current = Some t }) idle
    same_go command reply = rest_ties decl d desk t x k (record { is = refl; logs = logs })

    already_go : Goes decl number (called_at d (Some t) commands.Begin) (clients.called decl idle commands.Begin)
    already_go = tells_goes decl number (called_at d (Some t) commands.Begin) (replies.Already t.tx) idle
        (refl, refl, refl) (same_go commands.Begin (replies.Already t.tx))

    performs_go : (object inv : ℕ) → Goes decl number (called_at d (Some t) (commands.Do object inv))
        (by_front idle (performs decl idle.front (Some x) object inv))
    performs_go object inv = by t.doomed refl (nat_le most_transaction_operations (length t.ops)) refl
      where
        by : (z : Bool) → t.doomed ≡ z → (w : Bool) → nat_le most_transaction_operations (length t.ops) ≡ w
            → Goes decl number (called_at d (Some t) (commands.Do object inv))
            (by_front idle (cond z (front_moved idle.front (telling replies.Doomed))
            (cond w (front_moved idle.front (telling replies.TooLong))
            (reads decl idle.front x object inv [] (round_for decl idle.front x
            (read_need_of decl t.epoch object inv))))))
        by true is w is_w = tells_goes decl number (called_at d (Some t) (commands.Do object inv)) replies.Doomed idle (
          ap (λ (z : Bool). cond z (Some replies.Doomed)
              (cond (nat_le most_transaction_operations (length t.ops)) (Some replies.TooLong)
              (first_row object inv))) is,
          refl,
          refl,
        ) (same_go (commands.Do object inv) replies.Doomed)
        by false is true is_w = tells_goes decl number
            (called_at d (Some t) (commands.Do object inv)) replies.TooLong idle (
              ap (λ (z : Bool). cond z (Some replies.Doomed)
                  (cond (nat_le most_transaction_operations (length t.ops)) (Some replies.TooLong)
                  (first_row object inv)))
                  is
                  ∙ ap (λ (w : Bool). cond w (Some replies.TooLong) (first_row object inv)) is_w,
              refl,
              refl,
            ) (same_go (commands.Do object inv) replies.TooLong)
        by false is false is_w = reads_go decl number d desk t asked views object inv
            (record { live = is; room = is_w; records = records; logs = logs; desk_is = k }) [] idle.front
            (Some x) Idle tt

    aborts_go : Goes decl number (called_at d (Some t) commands.Abort) (clients.called decl idle commands.Abort)
    aborts_go = ends_goes decl number (called_at d (Some t) commands.Abort)
        (begun_of t asked) outcomes.Aborted replies.Dropped free (refl, refl, refl) (none_ties decl d desk k)

    -- a commit

    abbrev prepared : List ℕ → Desk → ℕ → DeskMove
    prepared sites q m =
        cond (length sites == 0) (desks.decides (record q { clock = record { value = m } }) (begun_of t asked))
        (desk_moved (desks.with_voting (record q { clock = record { value = m } })
        (Some (record { begun = begun_of t asked; calls = []; ballots = blank sites })))
        (sending (map (prepares (begun_of t asked)) sites)))

    commits_go : Goes decl number (called_at d (Some t) commands.Commit) (clients.commits decl idle (Some x))
    commits_go = by t.doomed refl
      where
        desk_is : (record desk { client = d.client; voting = None }) ≡ desk
        desk_is = λ i. record desk { client = sym k.client i; voting = sym k.voting i }

        ready : t.doomed ≡ false → (z : Bool) → (length (participants decl d t) == 0) ≡ z
            → Goes decl number (called_at d (Some t) commands.Commit)
            (by_desk idle (cond z (desks.decides (voting_desk d desk.epoch desk.commits None) (begun_of t asked))
            (desk_moved (voting_desk d desk.epoch desk.commits
            (Some (record { begun = begun_of t asked; calls = []; ballots = blank (participants decl d t) })))
            (sending (map (prepares (begun_of t asked)) (participants decl d t))))))
        ready live true none =
            decides_go decl number d t asked views d.clock d.known desk.epoch desk.commits live logs
            (let same : d.clock ≡ d.clock = refl in omega arith)
            (let low : desk.epoch ≤ d.known = k.epoch in omega arith) desk [] None
            (ap (λ (z : Bool). cond z (Some (replies.Aborted causes.Doomed))
            (cond ((length (participants decl d t) == 0) && true)
            (vote_row (called_at d (Some t) commands.Commit) false None) None)) live
            ∙ ap (λ (z : Bool). cond (z && true) (vote_row (called_at d (Some t) commands.Commit) false None) None)
            none)
        ready live false some =
            votes_start decl number d t asked views d.clock d.known desk.epoch desk.commits live logs
            (let same : d.clock ≡ d.clock = refl in omega arith)
            (let low : desk.epoch ≤ d.known = k.epoch in omega arith) desk some

        highest : d.clock ≡ max desk.clock.value d.clock
        highest = (let low : desk.clock.value ≤ d.clock = k.clock in omega arith)

        sites_are : participants decl d t ≡ desk_participants decl desk.client (begun_of t asked)
        sites_are = ap (λ (c : ℕ). desk_participants decl c (begun_of t asked)) (sym k.client)

        same : prepared (participants decl d t) (record desk { client = d.client; voting = None }) d.clock
            ≡ desks.prepare decl desk (begun_of t asked) d.clock
        same = λ i. prepared (sites_are i) (desk_is i) (highest i)

        by : (z : Bool) → t.doomed ≡ z → Goes decl number (called_at d (Some t) commands.Commit)
            (cond z (by_front idle (fronts.called decl idle.front commands.Commit))
            (by_desk idle (desks.prepare decl desk (begun_of t asked) d.clock)))
        by true is =
            subst (λ (z : Bool). Goes decl number (called_at d (Some t) commands.Commit)
            (by_front idle (cond z (gives_up idle.front x (replies.Aborted causes.Doomed))
            (front_moved idle.front quiet)))) (sym is)
            (ends_goes decl number (called_at d (Some t) commands.Commit) (begun_of t asked) outcomes.Aborted
            (replies.Aborted causes.Doomed) free (
              ap (λ (z : Bool). cond z (Some (replies.Aborted causes.Doomed))
                  (cond ((length (participants decl d t) == 0) && true)
                  (vote_row (called_at d (Some t) commands.Commit) false None) None)) is,
              refl,
              refl,
            )
            (none_ties decl d desk k))
        by false is = subst (λ (m : DeskMove). Goes decl number (called_at d (Some t) commands.Commit) (by_desk idle m))
            same (ready is (length (participants decl d t) == 0) refl)

    pub within_go : (command : Command) → Goes decl number (called_at d (Some t) command)
        (clients.called decl idle command)
    within_go commands.Begin = already_go
    within_go (commands.Do object inv) = performs_go object inv
    within_go commands.Commit = commits_go
    within_go commands.Abort = aborts_go
    within_go (commands.Epoch n) = still_goes decl number (called_at d (Some t) (commands.Epoch n)) idle refl
        (rests (record {
          command = tt;
          requests = refl;
          written = refl;
          begun = record { is = refl; logs = logs };
          front = refl;
          desk = record { client = k.client; clock = k.clock; epoch = k.epoch; voting = k.voting };
        }))

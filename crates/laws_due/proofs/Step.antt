-- One input of a client: its turn is due, and the tie holds after it.
use Rattle.std.proofs.Common.{[], ◌≡◌, ℕ, List, map, filter, Option, Some, None, refl, sym, ap, ◌∙◌, subst}
use Rattle.std.specs.List.{find}
use Rattle.qc_decl.specs.declared.declaration.Declaration.{Declaration}
use Rattle.qc_decl.specs.Vocabulary.{append_need_of, first_site, read_need_of}
use Rattle.qc_plan.specs.Vocabulary.{RoundState, cyclic}
use Rattle.qc_commit.specs.declared.desk.Voting.{Voting}
use Rattle.qc_front.specs.declared.doing.Doing.{Doing}
use Rattle.qc_front.specs.declared.doing.Doing.TheVariants.{Idle, Reading, Appending}
use Rattle.qc_front.specs.declared.front.Front.{Front}
use Rattle.qc_front.specs.declared.transaction.Transaction.{Transaction}
use Rattle.qc_front.specs.Conduct as fronts
use Rattle.qc_front.specs.Vocabulary.{AppendingHolds, FrontHolds, FrontMove, ReadingHolds, RecordsHold}
use Rattle.qc_front.specs.Vocabulary.{moved as front_moved}
use Rattle.qc_front.proofs.Apart.{apart_filter, apart_cyclic}
use Rattle.qc_front.proofs.NotedRounds.{round_apart}
use Rattle.qc_front.proofs.Noting.{ascends_apart}
use Rattle.qc_client.specs.declared.client.Client.{Client}
use Rattle.qc_client.specs.Vocabulary.{answered, answered_by, by_front, called, client_takes, heard, ClientMove, moved}
use Rattle.qc_msg.specs.declared.call.Call.{Call}
use Rattle.qc_msg.specs.declared.message.Answer.{Answer}
use Rattle.qc_msg.specs.declared.message.Message.{Message}
use Rattle.qc_msg.specs.declared.step.Command.{Command}
use Rattle.qc_msg.specs.declared.step.Command.TheVariants as commands
use Rattle.qc_msg.specs.declared.step.Input.{Input}
use Rattle.qc_msg.specs.declared.step.Input.TheVariants as inputs
use Rattle.qc_msg.specs.Vocabulary.{has_granted, quiet, Answered}
use Rattle.qc_promise.specs.Vocabulary.{Account, ClientRequest, Current, IsFreeFor, account_taken, counted, counted_for}
use Rattle.qc_promise.specs.Vocabulary.{is_append, is_open, is_read, round_of, account_heard}
use Rattle.laws_due.specs.Vocabulary.{Appends, AreApart, AreBegun, Goes, Holds, Reads, Rests, Ties, Votes, appends}
use Rattle.laws_due.specs.Vocabulary.{ballot_of, calls_in, front_of, reads, rests, transaction_of, votes}
use Rattle.laws_due.proofs.VotesCome.{commit_at, voting_desk, voting_front}
use Rattle.laws_due.proofs.DoRows.{run}
use Rattle.laws_due.proofs.Ends.{called_at, within_go, without_go}
use Rattle.laws_due.proofs.HearsReads.{reading_goes}
use Rattle.laws_due.proofs.Hears.{appending_goes}
use Rattle.laws_due.proofs.Nothing.{tied_none}
use Rattle.laws_due.proofs.Turns.{client_at, still_goes}
use Rattle.laws_due.proofs.VotesIn.{voting_goes}
use Rattle.laws_due.proofs.AnswersDue.{asked_sites}
use Rattle.laws_turns.proofs.ClientCases.{heard_cases}
use Rattle.std.specs.Option.{option_map_or}

module _ (decl : Declaration) (number : ℕ) (d : Account) (c : Client) (h : Holds decl c) where
  -- nothing waits for an answer

  idle_takes : (front : Front) (doing : Doing) (tr : Option Transaction) (n : ℕ) (answer : Option Answer) → doing ≡ Idle
      → fronts.takes_in decl front doing tr n answer ≡ front_moved front quiet
  idle_takes front doing tr n answer is = ap (λ (v : Doing). fronts.takes_in decl front v tr n answer) is ∙ by tr
    where
      by : (o : Option Transaction) → fronts.takes_in decl front Idle o n answer ≡ front_moved front quiet
      by None = refl
      by (Some x) = refl

  rests_answer : (n : ℕ) (answer : Option Answer) → Rests d c
      → Goes decl number (counted d n answer) (answered decl c n answer)
  rests_answer n answer r =
      subst (λ (qs : List ClientRequest). Goes decl number (counted_for d n answer (find (is_open n) qs))
      (answered decl c n answer)) (sym r.requests)
      (subst (λ (o : Option Voting). Goes decl number d (answered_by decl c o n answer)) (sym r.desk.voting)
      (subst (λ (m : FrontMove). Goes decl number d (by_front c m))
      (sym (idle_takes c.front c.front.doing c.front.transaction n answer (ap (λ (f : Front). f.doing) r.front)))
      (still_goes decl number d c (tied_none decl d c h (rests r)) (rests r))))

  reads_answer : (n : ℕ) (answer : Option Answer) → Reads decl d c
      → Goes decl number (counted d n answer) (answered decl c n answer)
  reads_answer n answer r =
      subst (λ (o : Option Voting). Goes decl number (counted d n answer) (answered_by decl c o n answer))
      (sym r.desk.voting)
      (subst (λ (f : Front). Goes decl number (counted d n answer)
      (by_front (record { front = f; desk = c.desk }) (fronts.takes decl f n answer))) (sym front_is)
      (subst (λ (e : Account). Goes decl number (counted e n answer)
      (by_front (record { front = shown; desk = c.desk }) (fronts.takes decl shown n answer))) account_is
      (reading_goes decl number d c.desk r.t r.x.begun.asked r.x.views r.object r.inv
      (record { live = r.runs.live; room = r.runs.room; records = held.0; logs = r.begun.logs; desk_is = r.desk })
      d.requests r.reads
      (subst AreApart (asked_sites (filter (λ (q : ClientRequest). is_read q.want) d.requests))
      (round_apart decl d.client r.t.epoch (read_need_of decl r.t.epoch r.object r.inv) round held.1.round_is))
      (ascends_apart (map (λ (k : Call). k.number) (calls_in d.requests)) held.1.calls_are.numbers)
      held.1.awaits.open_still n answer)))
    where
      round : RoundState
      round = round_of decl d r.t is_read (read_need_of decl r.t.epoch r.object r.inv)

      shown : Front
      shown =
          front_of d (Some (transaction_of r.t r.x.begun.asked r.x.views))
          (Reading r.object r.inv (calls_in d.requests)
          (round_of decl d r.t is_read (read_need_of decl r.t.epoch r.object r.inv)))

      front_is : c.front
          ≡ front_of d (Some (transaction_of r.t r.x.begun.asked r.x.views))
          (Reading r.object r.inv (calls_in d.requests)
          (round_of decl d r.t is_read (read_need_of decl r.t.epoch r.object r.inv)))
      front_is =
          r.front
          ∙ ap
          (λ (x : Transaction). front_of d (Some x)
          (Reading r.object r.inv (calls_in d.requests)
          (round_of decl d r.t is_read (read_need_of decl r.t.epoch r.object r.inv)))) r.begun.is

      held : RecordsHold decl r.x.views r.t.own r.t.ops
          × ReadingHolds decl d.client (transaction_of r.t r.x.begun.asked r.x.views) r.object r.inv
          (calls_in d.requests) (round_of decl d r.t is_read (read_need_of decl r.t.epoch r.object r.inv))
      held = subst (FrontHolds decl) front_is h.front

      account_is : run d r.t r.object r.inv d.requests ≡ d
      account_is =
          λ i. record d
          { command = sym r.runs.command i; written = sym r.runs.written i; current = sym r.runs.current i }

  appends_answer : (n : ℕ) (answer : Option Answer) → Appends decl d c
      → Goes decl number (counted d n answer) (answered decl c n answer)
  appends_answer n answer r =
      subst (λ (o : Option Voting). Goes decl number (counted d n answer) (answered_by decl c o n answer))
      (sym r.desk.voting)
      (subst (λ (f : Front). Goes decl number (counted d n answer)
      (by_front (record { front = f; desk = c.desk }) (fronts.takes decl f n answer))) (sym front_is)
      (subst (λ (e : Account). Goes decl number (counted e n answer)
      (by_front (record { front = shown; desk = c.desk }) (fronts.takes decl shown n answer))) account_is
      (appending_goes decl number d c.desk r.t r.x.begun.asked r.x.views r.object r.inv r.event
      (record { live = r.runs.live; room = r.runs.room; records = held.0; logs = r.begun.logs; desk_is = r.desk })
      r.chosen
      d.requests r.met r.appends
      (subst AreApart (asked_sites (filter (λ (q : ClientRequest). is_append q.want) d.requests))
      (round_apart decl d.client r.t.epoch (append_need_of decl r.t.epoch r.object r.event) round held.1.round_is))
      (ascends_apart (map (λ (k : Call). k.number) (calls_in d.requests)) held.1.calls_are.numbers)
      held.1.awaits.open_still n answer)))
    where
      round : RoundState
      round = round_of decl d r.t is_append (append_need_of decl r.t.epoch r.object r.event)

      shown : Front
      shown =
          front_of d (Some (transaction_of r.t r.x.begun.asked r.x.views))
          (Appending r.object r.inv r.event (calls_in d.requests)
          (round_of decl d r.t is_append (append_need_of decl r.t.epoch r.object r.event)))

      front_is : c.front
          ≡ front_of d (Some (transaction_of r.t r.x.begun.asked r.x.views))
          (Appending r.object r.inv r.event (calls_in d.requests)
          (round_of decl d r.t is_append (append_need_of decl r.t.epoch r.object r.event)))
      front_is =
          r.front
          ∙ ap
          (λ (x : Transaction). front_of d (Some x)
          (Appending r.object r.inv r.event (calls_in d.requests)
          (round_of decl d r.t is_append (append_need_of decl r.t.epoch r.object r.event)))) r.begun.is

      held : RecordsHold decl r.x.views r.t.own r.t.ops
          × AppendingHolds decl d.client (transaction_of r.t r.x.begun.asked r.x.views) r.object r.inv r.event
          (calls_in d.requests) (round_of decl d r.t is_append (append_need_of decl r.t.epoch r.object r.event))
      held = subst (FrontHolds decl) front_is h.front

      account_is : run d r.t r.object r.inv d.requests ≡ d
      account_is =
          λ i. record d
          { command = sym r.runs.command i; written = sym r.runs.written i; current = sym r.runs.current i }

  votes_answer : (n : ℕ) (answer : Option Answer) → Votes decl d c
      → Goes decl number (counted d n answer) (answered decl c n answer)
  votes_answer n answer r =
      subst (λ (e : Client). Goes decl number (counted d n answer) (answered decl e n answer)) (sym client_is)
      (subst (λ (e : Account). Goes decl number (counted e n answer) (answered decl shown n answer)) account_is
      (voting_goes decl number d r.t r.x.begun.asked r.x.views c.front.clock.value c.front.epoch c.desk.epoch
      c.desk.commits r.live r.begun.logs r.low r.known
      d.requests r.prepares r.sites
      (subst AreApart (sym r.sites)
      (apart_filter (has_granted r.t.lives) (cyclic decl.sites (first_site decl d.client))
      (apart_cyclic decl.sites (first_site decl d.client))))
      r.numbers r.waits n answer))
    where
      shown_at : Transaction → Client
      shown_at x = record {
        front = voting_front d x c.front.clock.value c.front.epoch;
        desk =
            voting_desk d c.desk.epoch c.desk.commits
            (Some
            (record { begun = x.begun; calls = calls_in d.requests; ballots = map (ballot_of x.begun) d.requests }));
      }

      shown : Client
      shown = record {
        front = voting_front d (transaction_of r.t r.x.begun.asked r.x.views) c.front.clock.value c.front.epoch;
        desk =
            voting_desk d c.desk.epoch c.desk.commits
            (Some (record {
              begun = (transaction_of r.t r.x.begun.asked r.x.views).begun;
              calls = calls_in d.requests;
              ballots = map (ballot_of (transaction_of r.t r.x.begun.asked r.x.views).begun) d.requests;
            }));
      }

      client_is : c ≡ record {
        front = voting_front d (transaction_of r.t r.x.begun.asked r.x.views) c.front.clock.value c.front.epoch;
        desk =
            voting_desk d c.desk.epoch c.desk.commits
            (Some (record {
              begun = (transaction_of r.t r.x.begun.asked r.x.views).begun;
              calls = calls_in d.requests;
              ballots = map (ballot_of (transaction_of r.t r.x.begun.asked r.x.views).begun) d.requests;
            }));
      }
      client_is =
          (λ i. record { front = r.front i; desk = r.desk i })
          ∙ ap (λ (x : Transaction). record {
            front = voting_front d x c.front.clock.value c.front.epoch;
            desk =
                voting_desk d c.desk.epoch c.desk.commits
                (Some (record {
                  begun = x.begun;
                  calls = calls_in d.requests;
                  ballots = map (ballot_of x.begun) d.requests;
                }));
          }) r.begun.is

      account_is : commit_at d r.t d.requests ≡ d
      account_is = λ i. record d { command = sym r.command i; written = sym r.written i; current = sym r.current i }

  answers_go : (n : ℕ) (answer : Option Answer) → Ties decl d c
      → Goes decl number (counted d n answer) (answered decl c n answer)
  answers_go n answer (rests r) = rests_answer n answer r
  answers_go n answer (reads r) = reads_answer n answer r
  answers_go n answer (appends r) = appends_answer n answer r
  answers_go n answer (votes r) = votes_answer n answer r

  -- commands

  rests_command : (command : Command) → Rests d c
      → Goes decl number (record d { command = Some command; requests = []; written = None }) (called decl c command)
  rests_command command r =
      subst (λ (e : Client). Goes decl number (called_at d d.current command) (called decl e command))
      (λ i. record { front = sym r.front i; desk = c.desk })
      (by d.current refl c.front.transaction r.begun held)
    where
      held : FrontHolds decl (front_of d c.front.transaction Idle)
      held = subst (FrontHolds decl) r.front h.front

      by : (o : Option Current) → d.current ≡ o → (tr : Option Transaction) → AreBegun o tr
          → FrontHolds decl (front_of d tr Idle)
          → Goes decl number (called_at d o command) (called decl (client_at d c.desk tr Idle) command)
      by None is None b f = without_go decl number d c.desk r.desk command
      by None is (Some x) b f = absurd b
      by (Some t) is None b f = absurd b
      by (Some t) is (Some x) b f =
          subst (λ (y : Transaction). Goes decl number (called_at d (Some t) command)
          (called decl (client_at d c.desk (Some y) Idle) command)) (sym b.is)
          (within_go decl number d c.desk r.desk t x.begun.asked x.views
          (subst (λ (y : Transaction). RecordsHold decl y.views y.own y.begun.ops) b.is f.0) b.logs command)

  commands_go : (command : Command) → d.command ≡ None → Ties decl d c
      → Goes decl number (record d { command = Some command; requests = []; written = None }) (called decl c command)
  commands_go command free (rests r) = rests_command command r
  commands_go command free (reads r) =
      absurd (let is : d.command ≡ Some (commands.Do r.object r.inv) = r.runs.command in let never : ⊥ = cc in never)
  commands_go command free (appends r) =
      absurd (let is : d.command ≡ Some (commands.Do r.object r.inv) = r.runs.command in let never : ⊥ = cc in never)
  commands_go command free (votes r) =
      absurd (let is : d.command ≡ Some commands.Commit = r.command in let never : ⊥ = cc in never)

  heard_go : (from n : ℕ) (m : Message) → Ties decl d c
      → Goes decl number (account_taken d (inputs.Got (record { number = n; from = from; to = 0; message = m })))
      (heard decl c from n m)
  heard_go from n m ties =
      heard_cases decl c from n (λ (x : Message) (move : ClientMove). Goes decl number (account_heard d x) move)
      (λ x none. subst (λ (o : Option Answered). Goes decl number
      (option_map_or (λ (a : Answered). counted d a.to (Some a.answer)) o d) (moved c quiet)) (sym none)
      (still_goes decl number d c (tied_none decl d c h ties) ties)) (λ to answer. answers_go to (Some answer) ties)
      (λ tx. record { tells = sym (tied_none decl d c h ties); due = (tt, tt); ties = ties })
      (λ tx. record { tells = sym (tied_none decl d c h ties); due = (tt, tt); ties = ties }) m

  pub inputs_are_answered_as_is_due : (g : Input) → IsFreeFor d g → Ties decl d c
      → Goes decl number (account_taken d g) (client_takes decl c g)
  inputs_are_answered_as_is_due (inputs.Called command) may ties = commands_go command may ties
  inputs_are_answered_as_is_due (inputs.Got envelope) may ties =
      heard_go envelope.from envelope.number envelope.message ties
  inputs_are_answered_as_is_due (inputs.Lost n) may ties = answers_go n None ties

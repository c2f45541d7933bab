-- A young client stays young over any input, and its calls ask no more.
use Rattle.std.proofs.Common.{◌≡◌, ℕ, ◌+◌, ◌^◌, ◌<◌, ◌≤◌, Bool, true, false, cond, Option, Some, None, is_some, Result}
use Rattle.std.proofs.Common.{Ok, Err, IfOk, OnOk, refl, sym, subst, arith}
use Rattle.qc_decl.specs.declared.declaration.Declaration.{Declaration}
use Rattle.qc_decl.specs.Vocabulary.{IsAccepted}
use Rattle.qc_msg.specs.declared.message.Answer.{Answer}
use Rattle.qc_msg.specs.declared.message.Answer.TheVariants as answers
use Rattle.qc_msg.specs.declared.message.Message.{Message}
use Rattle.qc_msg.specs.declared.message.Message.TheVariants as messages
use Rattle.qc_msg.specs.declared.step.Command.{Command}
use Rattle.qc_msg.specs.declared.step.Command.TheVariants as commands
use Rattle.qc_msg.specs.declared.turn.Turn.{Turn}
use Rattle.qc_commit.specs.declared.desk.Voting.{Voting}
use Rattle.qc_commit.specs.Vocabulary.{AsksFew, DeskMove, Numbers, Prepares, Votes}
use Rattle.qc_commit.specs.Conduct as desks
use Rattle.qc_commit.proofs.Aside.{few_sites_are_asked}
use Rattle.qc_front.specs.declared.transaction.Transaction.{Transaction}
use Rattle.qc_front.specs.Vocabulary.{FrontHolds, FrontMove, ended}
use Rattle.qc_front.specs.Conduct as fronts
use Rattle.qc_front.proofs.ClockMoves.{called_clock, called_count}
use Rattle.qc_front.proofs.Clocks.{takes_count}
use Rattle.qc_front.proofs.Fitting.{front_ends_fit}
use Rattle.qc_front.proofs.CommandsKeep.{commands_keep_hold}
use Rattle.qc_front.proofs.Keeping.{answers_keep_hold, new_holds, ended_holds}
use Rattle.qc_front.proofs.Numbering.{sent_holds}
use Rattle.qc_client.specs.declared.client.Client.{Client}
use Rattle.qc_client.specs.Vocabulary.{ClientFits, ClientMove, by_desk, by_front, new_client, promise_in}
use Rattle.qc_client.specs.Conduct as clients
use Rattle.tests_actors.proofs.YoungClocks.{along, prepare-clock, takes-clock, vote-clock}
use Rattle.tests_actors.specs.Young.{IsYoung, most_told, told, told_in}

-- a client by its parts

front-young : (decl : Declaration) (c : Client) (age : ℕ) (m : FrontMove) → IsYoung decl c age → FrontHolds decl m.front
    → m.front.count ≤ c.front.count + 1 → m.front.clock.value ≤ most_told + age
    → IsYoung decl (by_front c m).client (age + 1)
front-young decl c age m young holds count clock = record {
  holds = holds;
  count = let old : c.front.count ≤ age = young.count in omega arith;
  clock = omega arith;
  desk = let old : c.desk.clock.value ≤ most_told + age = young.desk in omega arith;
  few = young.few;
}

desk-young : (decl : Declaration) (c : Client) (age : ℕ) (m : DeskMove) → IsYoung decl c age
    → m.desk.clock.value ≤ most_told + age + 1 → AsksFew m.desk.voting → IsYoung decl (by_desk c m).client (age + 1)
desk-young decl c age m young clock few = by (is_some m.turn.told) where
  old : c.front.count ≤ age
  old = young.count

  before : c.front.clock.value ≤ most_told + age
  before = young.clock

  by : (t : Bool)
      → IsYoung decl (record { front = cond t (ended c.front m.desk.clock.value m.desk.epoch) c.front; desk = m.desk })
      (age + 1)
  by true =
      record {
        holds = ended_holds decl c.front m.desk.clock.value m.desk.epoch;
        count = omega arith;
        clock = omega arith;
        desk = omega arith;
        few = few;
      }
  by false = record { holds = young.holds; count = omega arith; clock = omega arith; desk = omega arith; few = few }

older : (decl : Declaration) (c : Client) (age : ℕ) → IsYoung decl c age → IsYoung decl c (age + 1)
older decl c age young = record {
  holds = young.holds;
  count = let old : c.front.count ≤ age = young.count in omega arith;
  clock = let old : c.front.clock.value ≤ most_told + age = young.clock in omega arith;
  desk = let old : c.desk.clock.value ≤ most_told + age = young.desk in omega arith;
  few = young.few;
}

-- inputs

called-young : (decl : Declaration) (c : Client) (age : ℕ) (command : Command) → IsAccepted decl → IsYoung decl c age
    → IsYoung decl (clients.called decl c command).client (age + 1)
called-young decl c age command accepted young = by command where
  front : (command : Command) → IsYoung decl (by_front c (fronts.called decl c.front command)).client (age + 1)
  front command =
      front-young decl c age (fronts.called decl c.front command) young
      (commands_keep_hold decl c.front command young.holds) (called_count decl c.front command)
      (along (fronts.called decl c.front command).front.clock c.front.clock (most_told + age)
      (called_clock decl c.front command) young.clock)

  on : (t : Transaction) (doomed : Bool)
      → IsYoung decl
      (cond doomed (by_front c (fronts.called decl c.front commands.Commit))
      (by_desk c (desks.prepare decl c.desk t.begun c.front.clock.value))).client (age + 1)
  on t true = front commands.Commit
  on t false = desk-young decl c age (desks.prepare decl c.desk t.begun c.front.clock.value) young
      (prepare-clock decl c.desk t.begun c.front.clock.value (most_told + age) young.desk young.clock)
      (few_sites_are_asked c.desk (Prepares decl t.begun c.front.clock.value) (accepted.has_site, accepted.sites)
      young.few)

  commit : (o : Option Transaction) → IsYoung decl (clients.commits decl c o).client (age + 1)
  commit None = front commands.Commit
  commit (Some t) = on t t.begun.doomed

  by : (command : Command) → IsYoung decl (clients.called decl c command).client (age + 1)
  by commands.Begin = front commands.Begin
  by (commands.Do object inv) = front (commands.Do object inv)
  by commands.Commit = commit c.front.transaction
  by commands.Abort = front commands.Abort
  by (commands.Epoch number) = front (commands.Epoch number)

answered-young : (decl : Declaration) (c : Client) (age number : ℕ) (answer : Option Answer) → told answer ≤ most_told
    → IsYoung decl c age → IsYoung decl (clients.answered decl c number answer).client (age + 1)
answered-young decl c age number answer small young = by c.desk.voting where
  low : told answer ≤ most_told + age
  low = omega arith

  by : (o : Option Voting) → IsYoung decl (clients.answered_by decl c o number answer).client (age + 1)
  by None =
      front-young decl c age (fronts.takes decl c.front number answer) young
      (answers_keep_hold decl c.front number answer young.holds)
      (let same : (fronts.takes decl c.front number answer).front.count ≡ c.front.count =
      takes_count decl c.front number answer in
      omega arith)
      (takes-clock decl c.front number answer (most_told + age) young.clock low)
  by (Some v) =
      desk-young decl c age (desks.vote c.desk number answer) young
      (vote-clock c.desk number answer (most_told + age) young.desk low)
      (few_sites_are_asked c.desk (Votes number answer) tt young.few)

heard-young : (decl : Declaration) (c : Client) (age from number : ℕ) (message : Message) → told_in message ≤ most_told
    → IsYoung decl c age → IsYoung decl (clients.heard decl c from number message).client (age + 1)
heard-young decl c age from number (messages.Request tx epoch life want) small young = older decl c age young
heard-young decl c age from number (messages.Answer to answer) small young =
    answered-young decl c age to (Some answer) small young
heard-young decl c age from number (messages.Decision tx verdict) small young = older decl c age young
heard-young decl c age from number (messages.Inquiry tx) small young = older decl c age young
heard-young decl c age from number (messages.Ask tx) small young = older decl c age young
heard-young decl c age from number (messages.Close epoch) small young = older decl c age young
heard-young decl c age from number (messages.Install start) small young = older decl c age young

-- the same of a call's answer

pub after_command : {E : Type 0} (decl : Declaration) (c d : Client) (age : ℕ) (command : Command) (r : Result Turn E)
    → IsAccepted decl → IsYoung decl c age
    → IfOk r (λ turn. clients.called decl c command ≡ record { client = d; turn = turn })
    → OnOk r (IsYoung decl d (age + 1))
after_command decl c d age command (Ok turn) accepted young is =
    subst (λ (m : ClientMove). IsYoung decl m.client (age + 1)) is (called-young decl c age command accepted young)
after_command decl c d age command (Err e) accepted young is = is

pub after_lost : {E : Type 0} (decl : Declaration) (c d : Client) (age number : ℕ) (r : Result Turn E)
    → IsYoung decl c age → IfOk r (λ turn. clients.answered decl c number None ≡ record { client = d; turn = turn })
    → OnOk r (IsYoung decl d (age + 1))
after_lost decl c d age number (Ok turn) young is =
    subst (λ (m : ClientMove). IsYoung decl m.client (age + 1)) is
    (answered-young decl c age number None (omega arith) young)
after_lost decl c d age number (Err e) young is = is

pub after_message : {E : Type 0} (decl : Declaration) (c d : Client) (age from number : ℕ) (message : Message)
    (r : Result Turn E) → told_in message ≤ most_told → IsYoung decl c age
    → IfOk r (λ turn. clients.heard decl c from number message ≡ record { client = d; turn = turn })
    → OnOk r (IsYoung decl d (age + 1))
after_message decl c d age from number message (Ok turn) small young is =
    subst (λ (m : ClientMove). IsYoung decl m.client (age + 1)) is
    (heard-young decl c age from number message small young)
after_message decl c d age from number message (Err e) small young is = is

numbered-young : (decl : Declaration) (c : Client) (age first : ℕ) → IsYoung decl c age
    → IsYoung decl (clients.sent c first) age
numbered-young decl c age first young = by c.desk.voting refl where
  by : (o : Option Voting) → c.desk.voting ≡ o → IsYoung decl (clients.sent_by c o first) age
  by None is =
      record {
        holds = sent_holds decl c.front first young.holds;
        count = young.count;
        clock = young.clock;
        desk = young.desk;
        few = young.few;
      }
  by (Some v) is =
      record {
        holds = young.holds;
        count = young.count;
        clock = young.clock;
        desk = clock;
        few = few_sites_are_asked c.desk (Numbers first) tt young.few;
      } where
        clock : (desks.sent c.desk first).clock.value ≤ most_told + age
        clock = on c.desk.voting where
          on : (p : Option Voting) → (desks.sent_in c.desk p first).clock.value ≤ most_told + age
          on None = young.desk
          on (Some w) = young.desk

pub after_numbers : (decl : Declaration) (c d : Client) (age first : ℕ) → IsYoung decl c age → d ≡ clients.sent c first
    → IsYoung decl d age
after_numbers decl c d age first young is =
    subst (λ (x : Client). IsYoung decl x age) (sym is) (numbered-young decl c age first young)

pub new_young : (decl : Declaration) (number : ℕ) → IsYoung decl (new_client number) 0
new_young decl number =
    record { holds = new_holds decl number; count = omega arith; clock = omega arith; desk = omega arith; few = tt }

-- what the calls ask

pub young_fits : (decl : Declaration) (c : Client) (age : ℕ) → IsAccepted decl → IsYoung decl c age → age < 1000
    → ClientFits c
young_fits decl c age accepted young few = record {
  front =
      front_ends_fit decl c.front accepted young.holds (let count : c.front.count ≤ age = young.count in omega arith);
  clock = let clock : c.front.clock.value ≤ most_told + age = young.clock in omega arith;
  desk = record {
    clock = (let clock : c.desk.clock.value ≤ most_told + age = young.desk in omega arith);
    few = young.few;
  };
}

pub few_promised : (message : Message) → told_in message ≤ most_told → promise_in message < 2 ^ 63
few_promised (messages.Request tx epoch life want) small = omega arith
few_promised (messages.Answer to (answers.Granted grant)) small = omega arith
few_promised (messages.Answer to (answers.Clash holder inv event)) small = omega arith
few_promised (messages.Answer to (answers.Closed epoch)) small = omega arith
few_promised (messages.Answer to (answers.Behind epoch)) small = omega arith
few_promised (messages.Answer to (answers.Restarted life)) small = omega arith
few_promised (messages.Answer to answers.Stale) small = omega arith
few_promised (messages.Answer to answers.Fault) small = omega arith
few_promised (messages.Answer to (answers.Yes clock)) small = omega arith
few_promised (messages.Answer to (answers.Shut snapshot)) small = omega arith
few_promised (messages.Answer to answers.Installed) small = omega arith
few_promised (messages.Answer to (answers.Answered verdict)) small = omega arith
few_promised (messages.Decision tx verdict) small = omega arith
few_promised (messages.Inquiry tx) small = omega arith
few_promised (messages.Ask tx) small = omega arith
few_promised (messages.Close epoch) small = omega arith
few_promised (messages.Install start) small = omega arith

-- What ties the account of a client's deeds to the client, where it has no open input: the one tells the other.
use Rattle.std.specs.Prelude.{◌≡◌, ◌≤◌, ℕ, max, nat_le, false, [], length, map, is_some, Option, Some, None}
use Rattle.std.specs.List.{AllByRecursion as Every, list_all}
use Rattle.qc_plan.specs.declared.standing.Verdict.TheVariants.{Met}
use Rattle.qc_plan.specs.Vocabulary.{verdict}
use Rattle.qc_decl.specs.declared.declaration.Declaration.{Declaration}
use Rattle.qc_decl.specs.Vocabulary.{append_need_of, most_transaction_operations, read_need_of}
use Rattle.qc_msg.specs.declared.message.Want.TheVariants.{Read, Prepare}
use Rattle.qc_msg.specs.declared.step.Command.{Command}
use Rattle.qc_msg.specs.declared.step.Command.TheVariants as commands
use Rattle.qc_msg.specs.Vocabulary.{life_of}
use Rattle.qc_msg.specs.Vocabulary.{first_read}
use Rattle.qc_commit.specs.declared.desk.Desk.{Desk}
use Rattle.qc_front.specs.declared.doing.Doing.TheVariants.{Idle, Reading, Appending}
use Rattle.qc_front.specs.declared.transaction.Transaction.{Transaction}
use Rattle.qc_client.specs.declared.client.Client.{Client}
use Rattle.qc_promise.specs.Vocabulary.{Account, ClientRequest, Current, answer_of, is_append, is_read, participants}
use Rattle.qc_promise.specs.Vocabulary.{round_of}
use Rattle.laws_due.specs.Calls.{AreApart, ballot_of, calls_in}
use Rattle.laws_due.specs.Told.{AreBegun, IsBegun, IsOpenIn, front_of}

-- the desk, while no commit runs: it has learned no more than the front end
pub record IsIdleDesk (d : Account) (desk : Desk) : Type 0 where
  pub client : desk.client ≡ d.client
  pub clock : desk.clock.value ≤ d.clock
  pub epoch : desk.epoch ≤ d.known
  pub voting : desk.voting ≡ None

-- no command runs, or one that nobody asks a client
abbrev pub NoneRuns : Option Command → Type 0
NoneRuns None = Unit {0}
NoneRuns (Some commands.Begin) = ⊥
NoneRuns (Some (commands.Do object inv)) = ⊥
NoneRuns (Some commands.Commit) = ⊥
NoneRuns (Some commands.Abort) = ⊥
NoneRuns (Some (commands.Epoch number)) = Unit {0}

pub record Rests (d : Account) (c : Client) : Type 0 where
  pub command : NoneRuns d.command
  pub requests : d.requests ≡ []
  pub written : d.written ≡ None
  pub begun : AreBegun d.current c.front.transaction
  pub front : c.front ≡ front_of d c.front.transaction Idle
  pub desk : IsIdleDesk d c.desk

-- a `do` runs that nothing refused at once
pub record IsDo (d : Account) (t : Current) (object inv : ℕ) : Type 0 where
  pub command : d.command ≡ Some (commands.Do object inv)
  pub current : d.current ≡ Some t
  pub written : d.written ≡ None
  pub live : t.doomed ≡ false
  pub room : nat_le most_transaction_operations (length t.ops) ≡ false

-- it reads: its requests are Reads of the invocation, and those that aren't taken are the open calls
pub record Reads (decl : Declaration) (d : Account) (c : Client) : Type 0 where
  pub object : ℕ
  pub inv : ℕ
  pub t : Current
  pub x : Transaction
  pub runs : IsDo d t object inv
  pub begun : IsBegun t x
  pub reads : Every (λ (q : ClientRequest). q.want ≡ Read (first_read object inv)) d.requests
  pub front : c.front ≡ front_of d (Some x) (Reading object inv (calls_in d.requests)
      (round_of decl d t is_read (read_need_of decl t.epoch object inv)))
  pub desk : IsIdleDesk d c.desk

-- it appends: its Reads are met, and the view's answer is this event
pub record Appends (decl : Declaration) (d : Account) (c : Client) : Type 0 where
  pub object : ℕ
  pub inv : ℕ
  pub event : ℕ
  pub t : Current
  pub x : Transaction
  pub runs : IsDo d t object inv
  pub begun : IsBegun t x
  pub met : verdict (round_of decl d t is_read (read_need_of decl t.epoch object inv)) ≡ Met
  pub chosen : answer_of decl t object inv ≡ Some event
  pub appends : Every (IsOpenIn is_append) d.requests
  pub front : c.front ≡ front_of d (Some x) (Appending object inv event (calls_in d.requests)
      (round_of decl d t is_append (append_need_of decl t.epoch object event)))
  pub desk : IsIdleDesk d c.desk

-- a request for a promise, in the life of the site's first grant
pub record IsPrepare (t : Current) (q : ClientRequest) : Type 0 where
  pub want : q.want ≡ Prepare
  pub life : q.life ≡ life_of t.lives q.site

-- a commit waits for votes: the clock stands in the desk; the known epoch is that of both
pub record Votes (decl : Declaration) (d : Account) (c : Client) : Type 0 where
  pub t : Current
  pub x : Transaction
  pub command : d.command ≡ Some commands.Commit
  pub current : d.current ≡ Some t
  pub written : d.written ≡ None
  pub live : t.doomed ≡ false
  pub begun : IsBegun t x
  pub prepares : Every (IsPrepare t) d.requests
  pub sites : map (λ (q : ClientRequest). q.site) d.requests ≡ participants decl d t
  pub numbers : AreApart (map (λ (q : ClientRequest). q.number) d.requests)
  -- and one of them is open
  pub waits : list_all (λ (q : ClientRequest). is_some q.taken) d.requests ≡ false
  pub front : c.front
      ≡ record (front_of d (Some x) Idle) { clock = c.front.clock; epoch = c.front.epoch }
  pub low : c.front.clock.value ≤ d.clock
  pub known : max c.front.epoch c.desk.epoch ≡ d.known
  pub desk : c.desk
      ≡ record {
        client = d.client;
        clock = record { value = d.clock };
        epoch = c.desk.epoch;
        commits = c.desk.commits;
        voting = Some (record {
          begun = x.begun;
          calls = calls_in d.requests;
          ballots = map (ballot_of x.begun) d.requests;
        });
      }

pub data Ties (decl : Declaration) (d : Account) (c : Client) : Type 0 where
  rests : Rests d c → Ties decl d c
  reads : Reads decl d c → Ties decl d c
  appends : Appends decl d c → Ties decl d c
  votes : Votes decl d c → Ties decl d c

-- A client whose transaction is its own and names declared things goes on so, sends such messages, and writes commit
-- records of its own with such operations.
use Rattle.std.proofs.Common.{◌≡◌, ◌⊎◌, ℕ, ◌==◌, Bool, true, false, cond, List, [], ◌∷◌, length, map, Option, Some}
use Rattle.std.proofs.Common.{None, is_some, inl, inr, refl}
use Rattle.qc_client.specs.declared.client.Client.{Client}
use Rattle.qc_client.specs.Vocabulary.{ClientMove, answered, answered_by, by_desk, by_front, called, client_takes}
use Rattle.qc_client.specs.Vocabulary.{commits, heard, moved, requested, sent_one}
use Rattle.qc_commit.specs.declared.ballot.Ballot.{Ballot}
use Rattle.qc_commit.specs.declared.desk.Desk.{Desk}
use Rattle.qc_commit.specs.declared.desk.Voting.{Voting}
use Rattle.qc_commit.specs.Conduct as desks
use Rattle.qc_commit.specs.Vocabulary.{DeskMove, are_cast, blank, cast, first_against, moved as desk_moved}
use Rattle.qc_commit.specs.Vocabulary.{participants, prepares, vote_of}
use Rattle.qc_decl.specs.Vocabulary.{IsAccepted}
use Rattle.qc_decl.specs.declared.declaration.Declaration.{Declaration}
use Rattle.qc_entry.specs.declared.record.Commit.{Commit}
use Rattle.qc_front.specs.declared.doing.Doing.{Doing}
use Rattle.qc_front.specs.declared.doing.Doing.TheVariants.{Idle, Reading, Appending}
use Rattle.qc_front.specs.declared.front.Front.{Front}
use Rattle.qc_front.specs.declared.transaction.Transaction.{Transaction}
use Rattle.qc_front.specs.Conduct as fronts
use Rattle.qc_front.specs.Vocabulary.{FrontMove, ended}
use Rattle.qc_front.proofs.Unwritten.{front_called, front_takes}
use Rattle.laws_turns.proofs.OwnFronts.{IsOwnTransaction, OwnFront}
use Rattle.laws_turns.proofs.OwnFronts as own_fronts
use Rattle.qc_msg.specs.declared.begun.Begun.{Begun}
use Rattle.qc_msg.specs.declared.call.Call.{Call}
use Rattle.qc_msg.specs.declared.message.Answer.{Answer}
use Rattle.qc_msg.specs.declared.message.Message.{Message}
use Rattle.qc_msg.specs.declared.message.Message.TheVariants as messages
use Rattle.qc_msg.specs.declared.message.Outcome.{Outcome}
use Rattle.qc_msg.specs.declared.message.Outcome.TheVariants.{Aborted, Committed}
use Rattle.qc_msg.specs.declared.message.Want.{Want}
use Rattle.qc_msg.specs.declared.message.Want.TheVariants.{Append, Prepare, Read}
use Rattle.qc_msg.specs.declared.record.Record.{Record}
use Rattle.qc_msg.specs.declared.record.Record.TheVariants as records
use Rattle.qc_msg.specs.declared.reply.Reply.{Reply}
use Rattle.qc_msg.specs.declared.reply.AbortCause.{AbortCause}
use Rattle.qc_msg.specs.declared.step.Command.{Command}
use Rattle.qc_msg.specs.declared.step.Command.TheVariants as commands
use Rattle.qc_msg.specs.declared.step.Input.{Input}
use Rattle.qc_msg.specs.declared.step.Input.TheVariants as inputs
use Rattle.qc_msg.specs.Vocabulary.{decisions, quiet, sending, site_called, without_call, Requested, request_in}
use Rattle.laws_bounds.proofs.FrontsNamed.{DoingNamed, FrontMoveNamed, FrontNamed, called_named, takes_named}
use Rattle.laws_bounds.proofs.TransactionsNamed.{BegunNamed}
use Rattle.laws_bounds.proofs.Names.{CameNamed, CommandNamed, GivenNamed, MessageNamed, OpsNamed, SendsNamed}
use Rattle.laws_bounds.proofs.Options.{map_each}
use Rattle.laws_turns.proofs.ClientCases.{called_cases}
use Rattle.qc_client.proofs.HeardCases.{heard_cases}

module _ (decl : Declaration) (k : ℕ) where
  -- a begun transaction of the client
  pub record OwnBegun (b : Begun) : Type 0 where
    pub ops : OpsNamed decl b.ops
    pub client : b.tx.client ≡ k

  abbrev pub VotingNamed : Option Voting → Type 0
  VotingNamed None = Unit {0}
  VotingNamed (Some v) = OwnBegun v.begun

  pub record ClientNamed (c : Client) : Type 0 where
    pub own : OwnFront k c.front
    pub front : FrontNamed decl c.front
    pub voting : VotingNamed c.desk.voting

  -- a record of its own with such operations, or none
  abbrev pub WriteNamed : Option Record → Type 0
  WriteNamed w = (w ≡ None) ⊎ ((c : Commit) × (w ≡ Some (records.Commit c)) × (c.tx.client ≡ k) × OpsNamed decl c.ops)

  pub record ClientMoveNamed (m : ClientMove) : Type 0 where
    pub client : ClientNamed m.client
    pub sends : SendsNamed decl m.turn.sends
    pub write : WriteNamed m.turn.write

  -- a desk

  record DeskMoveNamed (m : DeskMove) : Type 0 where
    voting : VotingNamed m.desk.voting
    sends : SendsNamed decl m.turn.sends
    write : WriteNamed m.turn.write

  decisions_named : (b : Begun) (v : Outcome) → SendsNamed decl (decisions b v)
  decisions_named b v = over b.asked
    where
      over : (asked : List ℕ)
          → SendsNamed decl (map (λ (site : ℕ). record { to = site; message = messages.Decision b.tx v }) asked)
      over [] = tt
      over (site ∷ asked) = (tt, over asked)

  prepares_named : (b : Begun) (sites : List ℕ) → SendsNamed decl (map (prepares b) sites)
  prepares_named b [] = tt
  prepares_named b (site ∷ sites) = (tt, prepares_named b sites)

  decides_named : (desk : Desk) (b : Begun) → OwnBegun b → DeskMoveNamed (desks.decides desk b)
  decides_named desk b its = record {
    voting = tt;
    sends = decisions_named b (Committed (desks.next_stamp desk));
    write = inr (desks.commit_of (desks.next_stamp desk) b, refl, its.client, its.ops);
  }

  out_named : (desk : Desk) (b : Begun) (o : Option AbortCause) → OwnBegun b
      → DeskMoveNamed (desks.counted_out desk b o)
  out_named desk b (Some why) its = record { voting = tt; sends = decisions_named b Aborted; write = inl refl }
  out_named desk b None its = decides_named desk b its

  counts_named : (desk : Desk) (b : Begun) (calls : List Call) (ballots : List Ballot) → OwnBegun b
      → DeskMoveNamed (desks.counts desk b calls ballots)
  counts_named desk b calls ballots its = by (are_cast ballots)
    where
      by : (t : Bool)
          → DeskMoveNamed
          (cond t (desks.counted_out desk b (first_against ballots))
          (desk_moved (desks.with_voting desk (Some (record { begun = b; calls = calls; ballots = ballots }))) quiet))
      by true = out_named desk b (first_against ballots) its
      by false = record { voting = its; sends = tt; write = inl refl }

  vote_named : (desk : Desk) (number : ℕ) (answer : Option Answer) → VotingNamed desk.voting
      → DeskMoveNamed (desks.vote desk number answer)
  vote_named desk number answer its = by desk.voting its
    where
      at : (v : Voting) (o : Option ℕ) → OwnBegun v.begun → DeskMoveNamed (desks.votes_at desk v number answer o)
      at v None here = record { voting = its; sends = tt; write = inl refl }
      at v (Some site) here =
          counts_named (desks.learns desk answer) v.begun (without_call v.calls number)
          (cast v.ballots site (vote_of v.begun site answer)) here

      by : (o : Option Voting) → VotingNamed o → DeskMoveNamed (desks.votes_in desk o number answer)
      by None here = record { voting = its; sends = tt; write = inl refl }
      by (Some v) here = at v (site_called v.calls number) here

  prepare_named : (desk : Desk) (b : Begun) (clock : ℕ) → OwnBegun b → DeskMoveNamed (desks.prepare decl desk b clock)
  prepare_named desk b clock its = by (length (participants decl desk.client b) == 0)
    where
      by : (t : Bool) → DeskMoveNamed (cond t (desks.decides (desks.passed desk clock) b)
          (desk_moved (desks.with_voting (desks.passed desk clock) (Some (record {
            begun = b;
            calls = [];
            ballots = blank (participants decl desk.client b);
          }))) (sending (map (prepares b) (participants decl desk.client b)))))
      by true = decides_named (desks.passed desk clock) b its
      by false = record { voting = its; sends = prepares_named b (participants decl desk.client b); write = inl refl }

  -- a client

  desk_moves : (c : Client) (m : DeskMove) → ClientNamed c → DeskMoveNamed m → ClientMoveNamed (by_desk c m)
  desk_moves c m w goes = by m.turn.told
    where
      by : (told : Option Reply)
          → ClientMoveNamed
          (moved
          (record {
            front = cond (is_some told)
                (ended c.front m.desk.clock.value m.desk.epoch) c.front;
            desk = m.desk;
          }) m.turn)
      by None =
          record {
            client = record { own = w.own; front = w.front; voting = goes.voting };
            sends = goes.sends;
            write = goes.write;
          }
      by (Some reply) = record {
        client =
            record {
              own = record { client = w.own.client; begun = tt };
              front = record { begun = tt; doing = tt };
              voting = goes.voting;
            };
        sends = goes.sends;
        write = goes.write;
      }

  front_moves : (c : Client) (m : FrontMove) → ClientNamed c → OwnFront k m.front → FrontMoveNamed decl m
      → m.turn.write ≡ None → ClientMoveNamed (by_front c m)
  front_moves c m w own goes none =
      record {
        client = record { own = own; front = goes.front; voting = w.voting };
        sends = goes.sends;
        write = inl none;
      }

  module _ (accepted : IsAccepted decl) (c : Client) (w : ClientNamed c) where
    silent : ClientMoveNamed (moved c quiet)
    silent = record { client = w; sends = tt; write = inl refl }

    fronted : (command : Command) → CommandNamed decl command
        → ClientMoveNamed (by_front c (fronts.called decl c.front command))
    fronted command here =
        front_moves c (fronts.called decl c.front command) w (own_fronts.called_own decl k c.front command w.own)
        (called_named decl accepted c.front command w.front here)
        (front_called decl c.front command).write

    commits_named : (o : Option Transaction) → BegunNamed decl o → IsOwnTransaction k o
        → ClientMoveNamed (commits decl c o)
    commits_named None its own = fronted commands.Commit tt
    commits_named (Some t) its own = by t.begun.doomed
      where
        by : (dead : Bool)
            → ClientMoveNamed
            (cond dead (by_front c (fronts.called decl c.front commands.Commit))
            (by_desk c (desks.prepare decl c.desk t.begun c.front.clock.value)))
        by true = fronted commands.Commit tt
        by false =
            desk_moves c (desks.prepare decl c.desk t.begun c.front.clock.value) w
            (prepare_named c.desk t.begun c.front.clock.value (record { ops = its.ops; client = own }))

    calls_named : (command : Command) → CommandNamed decl command → ClientMoveNamed (called decl c command)
    calls_named =
        called_cases decl c (λ command move. CommandNamed decl command → ClientMoveNamed move) fronted
        (λ here. commits_named c.front.transaction w.front.begun w.own.begun)

    answers_named : (number : ℕ) (answer : Option Answer) → CameNamed decl answer
        → ClientMoveNamed (answered decl c number answer)
    answers_named number answer here = by c.desk.voting
      where
        by : (o : Option Voting) → ClientMoveNamed (answered_by decl c o number answer)
        by None =
            front_moves c (fronts.takes decl c.front number answer) w
            (own_fronts.takes_own decl k c.front number answer w.own)
            (takes_named decl accepted c.front number answer w.front here)
            (front_takes decl c.front number answer).write
        by (Some v) = desk_moves c (desks.vote c.desk number answer) w (vote_named c.desk number answer w.voting)

    heard_named : (from number : ℕ) (message : Message) → MessageNamed decl message
        → ClientMoveNamed (heard decl c from number message)
    heard_named from number =
        heard_cases decl c from number (λ message move. MessageNamed decl message → ClientMoveNamed move)
        (λ message here. silent) (λ to answer here. answers_named to (Some answer) here)
        (λ tx here. record { client = w; sends = (tt, tt); write = inl refl })
        (λ tx here. record { client = w; sends = (tt, tt); write = inl refl })

    -- one input
    pub client_takes_named : (g : Input) → GivenNamed decl g → ClientMoveNamed (client_takes decl c g)
    client_takes_named (inputs.Called command) here = calls_named command here
    client_takes_named (inputs.Got e) here = heard_named e.from e.number e.message here
    client_takes_named (inputs.Lost number) here = answers_named number None tt

  -- the numbers of its messages

  requested_doing : (front : Front) (number to : ℕ) → FrontNamed decl front
      → FrontNamed decl (fronts.requested front number to)
  requested_doing front number to w = record { begun = w.begun; doing = by front.doing w.doing }
    where
      by : (d : Doing) → DoingNamed decl d → DoingNamed decl (fronts.requested_in d number to)
      by Idle here = tt
      by (Reading object inv calls round) here = here
      by (Appending object inv event calls round) here = here

  requested_named : (c : Client) (number to : ℕ) (want : Want) → ClientNamed c
      → ClientNamed (requested c number to want)
  requested_named c number to (Read read) w =
      record {
        own = record { client = w.own.client; begun = w.own.begun };
        front = requested_doing c.front number to w.front;
        voting = w.voting;
      }
  requested_named c number to (Append object view own) w =
      record {
        own = record { client = w.own.client; begun = w.own.begun };
        front = requested_doing c.front number to w.front;
        voting = w.voting;
      }
  requested_named c number to Prepare w = record { own = w.own; front = w.front; voting = by c.desk.voting w.voting }
    where
      by : (o : Option Voting) → VotingNamed o → VotingNamed (desks.prepared_in c.desk o number to).voting
      by None here = w.voting
      by (Some v) here = here

  pub sent_named : (c : Client) (number to : ℕ) (message : Message) → ClientNamed c
      → ClientNamed (sent_one c number to message)
  sent_named c number to message w =
      map_each ClientNamed (λ (q : Requested). requested c number to q.want) c (request_in message) w
      (λ q. requested_named c number to q.want w)

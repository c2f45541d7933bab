-- A client whose front end and desk are in form goes on so, sends such messages, and writes commit records of its own
-- in form.
use Rattle.std.proofs.Common.{◌≡◌, ℕ, ◌-◌, ◌^◌, ◌<◌, Bool, true, false, cond, List, [], ◌∷◌, Option, Some, None}
use Rattle.std.proofs.Common.{is_some, inl, refl, subst, arith}
use Rattle.qc_client.specs.declared.client.Client.{Client}
use Rattle.qc_client.specs.Vocabulary.{ClientMove, answered, answered_by, by_desk, by_front, called, client_takes}
use Rattle.qc_client.specs.Vocabulary.{commits, heard, is_begun, moved, outcome_by, requested, sent_one}
use Rattle.qc_commit.specs.declared.desk.Known.{Known}
use Rattle.qc_commit.specs.declared.desk.Known.TheVariants as knowns
use Rattle.qc_commit.specs.declared.desk.Voting.{Voting}
use Rattle.qc_commit.specs.Conduct as desks
use Rattle.qc_commit.specs.Vocabulary.{DeskMove, known, known_by, record_of}
use Rattle.qc_decl.specs.declared.declaration.Declaration.{Declaration}
use Rattle.qc_entry.specs.declared.record.Commit.{Commit}
use Rattle.qc_front.specs.declared.doing.Doing.{Doing}
use Rattle.qc_front.specs.declared.doing.Doing.TheVariants.{Idle, Reading, Appending}
use Rattle.qc_front.specs.declared.front.Front.{Front}
use Rattle.qc_front.specs.declared.transaction.Transaction.{Transaction}
use Rattle.qc_front.specs.Conduct as fronts
use Rattle.qc_front.specs.Vocabulary.{FrontMove, ended}
use Rattle.qc_front.proofs.Unwritten.{front_called, front_takes}
use Rattle.qc_msg.specs.declared.message.Answer.{Answer}
use Rattle.qc_msg.specs.declared.message.Message.{Message}
use Rattle.qc_msg.specs.declared.message.Want.{Want}
use Rattle.qc_msg.specs.declared.message.Want.TheVariants.{Append, Prepare, Read}
use Rattle.qc_msg.specs.declared.reply.Reply.{Reply}
use Rattle.qc_msg.specs.declared.step.Command.{Command}
use Rattle.qc_msg.specs.declared.step.Command.TheVariants as commands
use Rattle.qc_msg.specs.declared.step.Input.{Input}
use Rattle.qc_msg.specs.declared.step.Input.TheVariants as inputs
use Rattle.qc_msg.specs.Vocabulary.{quiet, Requested, request_in}
use Rattle.qc_stamp.specs.declared.stamp.TxId.{TxId}
use Rattle.qc_stamp.specs.Vocabulary.{same_tx}
use Rattle.qc_stamp.proofs.Orders.{same_tx_is}
use Rattle.laws_bounds.proofs.Forms.{CameInForm, CommandInForm, TakenInForm, MessageInForm, SendsInForm, StampInForm}
use Rattle.laws_bounds.proofs.Forms.{VerdictInForm}
use Rattle.laws_bounds.proofs.TransactionsInForm.{BegunInForm, weaker}
use Rattle.laws_bounds.proofs.FrontsInForm.{AnswersInForm, DoingInForm, FrontInForm, OptionInForm}
use Rattle.laws_bounds.proofs.FrontsTake.{FrontMoveInForm, called_form, takes_form}
use Rattle.laws_bounds.proofs.DesksInForm.{CommitsInForm, DeskInForm, DeskMoveInForm, OwnWriteInForm, numbered_form}
use Rattle.laws_bounds.proofs.DesksInForm.{prepare_form, vote_form}
use Rattle.laws_bounds.proofs.Options.{map_each}
use Rattle.laws_turns.proofs.ClientCases.{called_cases}
use Rattle.qc_client.proofs.HeardCases.{heard_cases}

-- how a transaction stands, by the records of commits

abbrev KnownInForm : TxId → Known → Type 0
KnownInForm tx (knowns.Committed stamp) = StampInForm stamp tx
KnownInForm tx knowns.Uncommitted = Unit {0}

pub known_form : (tx : TxId) (commits : List Commit) → CommitsInForm commits
    → KnownInForm tx (known_by (record_of commits tx))
known_form tx [] all = tt
known_form tx (c ∷ cs) all = by (same_tx c.tx tx) refl (known_form tx cs all.1)
  where
    by : (t : Bool) → same_tx c.tx tx ≡ t → KnownInForm tx (known_by (record_of cs tx))
        → KnownInForm tx (known_by (cond t (Some c) (record_of cs tx)))
    by true same rest = subst (StampInForm c.stamp) (same_tx_is c.tx tx same) all.0
    by false other rest = rest

pub verdict_form : (tx : TxId) (k : Known) (begun : Bool) → KnownInForm tx k → VerdictInForm tx (outcome_by k begun)
verdict_form tx (knowns.Committed stamp) begun here = here
verdict_form tx knowns.Uncommitted true here = tt
verdict_form tx knowns.Uncommitted false here = tt

module _ (decl : Declaration) (client : ℕ) where
  pub record ClientInForm (c : Client) : Type 0 where
    pub front : FrontInForm decl client c.front
    pub desk : DeskInForm client c.desk

  pub record ClientMoveInForm (m : ClientMove) : Type 0 where
    pub client_is : ClientInForm m.client
    pub sends : SendsInForm m.turn.sends
    pub write : OwnWriteInForm client m.turn.write

  desk_moves : (c : Client) (m : DeskMove) → ClientInForm c → DeskMoveInForm client m → ClientMoveInForm (by_desk c m)
  desk_moves c m w goes = by m.turn.told
    where
      by : (told : Option Reply)
          → ClientMoveInForm
          (moved
          (record {
            front = cond (is_some told)
                (ended c.front m.desk.clock.value m.desk.epoch) c.front;
            desk = m.desk;
          }) m.turn)
      by None =
          record {
            client_is = record { front = w.front; desk = goes.desk };
            sends = goes.sends;
            write = goes.write;
          }
      by (Some reply) = record {
        client_is =
            record {
              front =
                  record { client_is = w.front.client_is; life = w.front.life; begun = tt; doing = tt };
              desk = goes.desk;
            };
        sends = goes.sends;
        write = goes.write;
      }

  front_moves : (c : Client) (m : FrontMove) → ClientInForm c → FrontMoveInForm decl client m → m.turn.write ≡ None
      → ClientMoveInForm (by_front c m)
  front_moves c m w goes none =
      record {
        client_is = record { front = goes.front; desk = w.desk };
        sends = goes.sends;
        write = inl none;
      }

  module _ (form : AnswersInForm decl) (c : Client) (w : ClientInForm c) (low : c.front.count < 2 ^ 32 - 1) where
    silent : ClientMoveInForm (moved c quiet)
    silent = record { client_is = w; sends = tt; write = inl refl }

    fronted : (command : Command) → CommandInForm command
        → ClientMoveInForm (by_front c (fronts.called decl c.front command))
    fronted command here =
        front_moves c (fronts.called decl c.front command) w
        (called_form decl client form c.front command w.front low here)
        (front_called decl c.front command).write

    begun_form : (doing : Doing) (t : Transaction) → OptionInForm client doing (Some t) → BegunInForm client 16 t.begun
    begun_form Idle t its = its.begun
    begun_form (Reading object inv calls round) t its = (weaker client 15 16 t (omega arith) its).begun
    begun_form (Appending object inv event calls round) t its = (weaker client 15 16 t (omega arith) its).begun

    commits_form : (o : Option Transaction) → OptionInForm client c.front.doing o → ClientMoveInForm (commits decl c o)
    commits_form None its = fronted commands.Commit tt
    commits_form (Some t) its = by t.begun.doomed
      where
        by : (dead : Bool)
            → ClientMoveInForm
            (cond dead (by_front c (fronts.called decl c.front commands.Commit))
            (by_desk c (desks.prepare decl c.desk t.begun c.front.clock.value)))
        by true = fronted commands.Commit tt
        by false =
            desk_moves c (desks.prepare decl c.desk t.begun c.front.clock.value) w
            (prepare_form client decl c.desk t.begun c.front.clock.value w.desk (begun_form c.front.doing t its))

    calls_form : (command : Command) → CommandInForm command → ClientMoveInForm (called decl c command)
    calls_form =
        called_cases decl c (λ command move. CommandInForm command → ClientMoveInForm move) fronted
        (λ here. commits_form c.front.transaction w.front.begun)

    answers_form : (number : ℕ) (answer : Option Answer) → CameInForm answer
        → ClientMoveInForm (answered decl c number answer)
    answers_form number answer here = by c.desk.voting
      where
        by : (o : Option Voting) → ClientMoveInForm (answered_by decl c o number answer)
        by None =
            front_moves c (fronts.takes decl c.front number answer) w
            (takes_form decl client form c.front number answer w.front here)
            (front_takes decl c.front number answer).write
        by (Some v) =
            desk_moves c (desks.vote c.desk number answer) w (vote_form client c.desk number answer w.desk)

    heard_form : (from number : ℕ) (message : Message) → MessageInForm message
        → ClientMoveInForm (heard decl c from number message)
    heard_form from number =
        heard_cases decl c from number (λ message move. MessageInForm message → ClientMoveInForm move)
        (λ message here. silent) (λ to answer here. answers_form to (Some answer) here)
        (λ tx here. record {
          client_is = w;
          sends = (
            verdict_form tx (known c.desk tx) (is_begun tx c.front.transaction)
                (known_form tx c.desk.commits w.desk.commits),
            tt,
          );
          write = inl refl;
        })
        (λ tx here. record { client_is = w; sends = (tt, tt); write = inl refl })

    -- one input

    pub client_takes_form : (g : Input) → TakenInForm g → ClientMoveInForm (client_takes decl c g)
    client_takes_form (inputs.Called command) here = calls_form command here
    client_takes_form (inputs.Got e) here = heard_form e.from e.number e.message here
    client_takes_form (inputs.Lost number) here = answers_form number None tt

  -- the numbers of its messages

  requested_doing : (front : Front) (number to : ℕ) → FrontInForm decl client front
      → FrontInForm decl client (fronts.requested front number to)
  requested_doing front number to w = by front.doing w.begun w.doing
    where
      by : (d : Doing) → OptionInForm client d front.transaction → DoingInForm decl client d
          → FrontInForm decl client (record front { doing = fronts.requested_in d number to })
      by Idle its here = record { client_is = w.client_is; life = w.life; begun = its; doing = here }
      by (Reading object inv calls round) its here =
          record { client_is = w.client_is; life = w.life; begun = at front.transaction its; doing = here }
        where
          at : (o : Option Transaction) → OptionInForm client (Reading object inv calls round) o
              → OptionInForm client (fronts.requested_in (Reading object inv calls round) number to) o
          at None its = tt
          at (Some t) its = its
      by (Appending object inv event calls round) its here =
          record { client_is = w.client_is; life = w.life; begun = at front.transaction its; doing = here }
        where
          at : (o : Option Transaction) → OptionInForm client (Appending object inv event calls round) o
              → OptionInForm client (fronts.requested_in (Appending object inv event calls round) number to) o
          at None its = tt
          at (Some t) its = its

  requested_form : (c : Client) (number to : ℕ) (want : Want) → ClientInForm c
      → ClientInForm (requested c number to want)
  requested_form c number to (Read read) w =
      record { front = requested_doing c.front number to w.front; desk = w.desk }
  requested_form c number to (Append object view own) w =
      record { front = requested_doing c.front number to w.front; desk = w.desk }
  requested_form c number to Prepare w =
      record { front = w.front; desk = numbered_form client c.desk number to w.desk }

  pub sent_form : (c : Client) (number to : ℕ) (message : Message) → ClientInForm c
      → ClientInForm (sent_one c number to message)
  sent_form c number to message w =
      map_each ClientInForm (λ (q : Requested). requested c number to q.want) c (request_in message) w
      (λ q. requested_form c number to q.want w)

-- A desk whose commits and transaction are in form goes on so, sends such verdicts, and writes commit records of its
-- own in form.
use Rattle.std.proofs.Common.{◌≡◌, ◌⊎◌, ℕ, ◌==◌, ◌≤◌, Bool, true, false, cond, List, [], ◌∷◌, length, map, Option, Some}
use Rattle.std.proofs.Common.{None, inl, inr, refl, sym, ◌∙◌, arith}
use Rattle.std.specs.List.{AllByRecursion as Every}
use Rattle.qc_list.proofs.Members.{every-append}
use Rattle.qc_commit.specs.declared.ballot.Ballot.{Ballot}
use Rattle.qc_commit.specs.declared.desk.Desk.{Desk}
use Rattle.qc_commit.specs.declared.desk.Voting.{Voting}
use Rattle.qc_commit.specs.Conduct as desks
use Rattle.qc_commit.specs.Vocabulary.{DeskMove, are_cast, blank, cast, first_against, moved, participants, prepares}
use Rattle.qc_commit.specs.Vocabulary.{vote_of}
use Rattle.qc_decl.specs.declared.declaration.Declaration.{Declaration}
use Rattle.qc_entry.specs.declared.record.Commit.{Commit}
use Rattle.qc_msg.specs.declared.begun.Begun.{Begun}
use Rattle.qc_msg.specs.declared.call.Call.{Call}
use Rattle.qc_msg.specs.declared.message.Answer.{Answer}
use Rattle.qc_msg.specs.declared.message.Message.TheVariants as messages
use Rattle.qc_msg.specs.declared.message.Outcome.{Outcome}
use Rattle.qc_msg.specs.declared.message.Outcome.TheVariants.{Aborted, Committed}
use Rattle.qc_msg.specs.declared.record.Record.{Record}
use Rattle.qc_msg.specs.declared.record.Record.TheVariants as records
use Rattle.qc_msg.specs.declared.reply.AbortCause.{AbortCause}
use Rattle.qc_msg.specs.Vocabulary.{decisions, quiet, sending, site_called, without_call, closed_in, promised_in}
use Rattle.qc_record.specs.Vocabulary.{IsOp}
use Rattle.laws_bounds.proofs.Forms.{OrdinalsInForm, SendsInForm, StampInForm, VerdictInForm}
use Rattle.laws_bounds.proofs.TransactionsInForm.{BegunInForm}
use Rattle.std.specs.Prelude.{option_and_then}
use Rattle.laws_bounds.proofs.Options.{map_each}

abbrev pub CommitsInForm : List Commit → Type 0
CommitsInForm commits = Every (λ (c : Commit). StampInForm c.stamp c.tx) commits

module _ (client : ℕ) where
  abbrev pub VotingInForm : Option Voting → Type 0
  VotingInForm None = Unit {0}
  VotingInForm (Some v) = BegunInForm client 16 v.begun

  pub record DeskInForm (desk : Desk) : Type 0 where
    pub client_is : desk.client ≡ client
    pub voting : VotingInForm desk.voting
    pub commits : CommitsInForm desk.commits

  -- a commit record of the client's
  pub record OwnCommitInForm (c : Commit) : Type 0 where
    pub client_is : c.tx.client ≡ client
    pub stamp : StampInForm c.stamp c.tx
    pub ordinals : OrdinalsInForm c.tx
    pub ops : Every IsOp c.ops
    pub few : length c.ops ≤ 16

  -- what is written is such a record, or none
  abbrev pub OwnWriteInForm : Option Record → Type 0
  OwnWriteInForm w = (w ≡ None) ⊎ ((c : Commit) × (w ≡ Some (records.Commit c)) × OwnCommitInForm c)

  pub record DeskMoveInForm (m : DeskMove) : Type 0 where
    pub desk : DeskInForm m.desk
    pub sends : SendsInForm m.turn.sends
    pub write : OwnWriteInForm m.turn.write

  -- what is sent

  decisions_form : (b : Begun) (v : Outcome) → VerdictInForm b.tx v → SendsInForm (decisions b v)
  decisions_form b v here = over b.asked
    where
      over : (asked : List ℕ)
          → SendsInForm (map (λ (site : ℕ). record { to = site; message = messages.Decision b.tx v }) asked)
      over [] = tt
      over (site ∷ asked) = (here, over asked)

  prepares_form : (b : Begun) (sites : List ℕ) → OrdinalsInForm b.tx → SendsInForm (map (prepares b) sites)
  prepares_form b [] here = tt
  prepares_form b (site ∷ sites) here = ((here, tt), prepares_form b sites here)

  -- what is learned

  passed_form : (desk : Desk) (clock : ℕ) → DeskInForm desk → DeskInForm (desks.passed desk clock)
  passed_form desk clock w = record { client_is = w.client_is; voting = w.voting; commits = w.commits }

  learned_form : (desk : Desk) (answer : Option Answer) → DeskInForm desk → DeskInForm (desks.learns desk answer)
  learned_form desk answer w =
      map_each DeskInForm _ _ (option_and_then closed_in answer)
      (map_each DeskInForm (desks.passed desk) desk (option_and_then promised_in answer) w
      (λ clock. passed_form desk clock w))
      (λ epoch. record { client_is = w.client_is; voting = w.voting; commits = w.commits })

  -- a commit

  next_form : (desk : Desk) (b : Begun) → DeskInForm desk → BegunInForm client 16 b
      → StampInForm (desks.next_stamp desk) b.tx
  next_form desk b w its = record { client = w.client_is ∙ sym its.client_is; clock = omega arith }

  decides_form : (desk : Desk) (b : Begun) → DeskInForm desk → BegunInForm client 16 b
      → DeskMoveInForm (desks.decides desk b)
  decides_form desk b w its =
      let stamp : StampInForm (desks.next_stamp desk) b.tx = next_form desk b w its in
      record {
        desk =
            record {
              client_is = w.client_is;
              voting = tt;
              commits =
                  every-append (λ (c : Commit). StampInForm c.stamp c.tx) desk.commits
                  (desks.commit_of (desks.next_stamp desk) b ∷ []) w.commits (stamp, tt);
            };
        sends = decisions_form b (Committed (desks.next_stamp desk)) stamp;
        write =
            inr (
              desks.commit_of (desks.next_stamp desk) b,
              refl,
              record {
                client_is = its.client_is;
                stamp = stamp;
                ordinals = its.ordinals;
                ops = its.ops;
                few = its.few;
              },
            );
      }

  out_form : (desk : Desk) (b : Begun) (o : Option AbortCause) → DeskInForm desk → BegunInForm client 16 b
      → DeskMoveInForm (desks.counted_out desk b o)
  out_form desk b (Some why) w its =
      record {
        desk = record { client_is = w.client_is; voting = tt; commits = w.commits };
        sends = decisions_form b Aborted tt;
        write = inl refl;
      }
  out_form desk b None w its = decides_form desk b w its

  counts_form : (desk : Desk) (b : Begun) (calls : List Call) (ballots : List Ballot) → DeskInForm desk
      → BegunInForm client 16 b → DeskMoveInForm (desks.counts desk b calls ballots)
  counts_form desk b calls ballots w its = by (are_cast ballots)
    where
      by : (t : Bool)
          → DeskMoveInForm
          (cond t (desks.counted_out desk b (first_against ballots))
          (moved (desks.with_voting desk (Some (record { begun = b; calls = calls; ballots = ballots }))) quiet))
      by true = out_form desk b (first_against ballots) w its
      by false = record {
        desk = record { client_is = w.client_is; voting = its; commits = w.commits };
        sends = tt;
        write = inl refl;
      }

  pub vote_form : (desk : Desk) (number : ℕ) (answer : Option Answer) → DeskInForm desk
      → DeskMoveInForm (desks.vote desk number answer)
  vote_form desk number answer w = by desk.voting w.voting
    where
      at : (v : Voting) (o : Option ℕ) → BegunInForm client 16 v.begun
          → DeskMoveInForm (desks.votes_at desk v number answer o)
      at v None here = record { desk = w; sends = tt; write = inl refl }
      at v (Some site) here =
          counts_form (desks.learns desk answer) v.begun (without_call v.calls number)
          (cast v.ballots site (vote_of v.begun site answer)) (learned_form desk answer w) here

      by : (o : Option Voting) → VotingInForm o → DeskMoveInForm (desks.votes_in desk o number answer)
      by None here = record { desk = w; sends = tt; write = inl refl }
      by (Some v) here = at v (site_called v.calls number) here

  pub prepare_form : (decl : Declaration) (desk : Desk) (b : Begun) (clock : ℕ) → DeskInForm desk
      → BegunInForm client 16 b → DeskMoveInForm (desks.prepare decl desk b clock)
  prepare_form decl desk b clock w its = by (length (participants decl desk.client b) == 0)
    where
      by : (t : Bool) → DeskMoveInForm (cond t (desks.decides (desks.passed desk clock) b)
          (moved (desks.with_voting (desks.passed desk clock) (Some (record {
            begun = b;
            calls = [];
            ballots = blank (participants decl desk.client b);
          }))) (sending (map (prepares b) (participants decl desk.client b)))))
      by true = decides_form (desks.passed desk clock) b (passed_form desk clock w) its
      by false = record {
        desk = record { client_is = w.client_is; voting = its; commits = w.commits };
        sends = prepares_form b (participants decl desk.client b) its.ordinals;
        write = inl refl;
      }

  -- a Prepare gets its number
  pub numbered_form : (desk : Desk) (number to : ℕ) → DeskInForm desk → DeskInForm (desks.prepared desk number to)
  numbered_form desk number to w = by desk.voting w.voting
    where
      by : (o : Option Voting) → VotingInForm o → DeskInForm (desks.prepared_in desk o number to)
      by None here = w
      by (Some v) here = record { client_is = w.client_is; voting = here; commits = w.commits }

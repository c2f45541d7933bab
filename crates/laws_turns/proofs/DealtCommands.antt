-- A client's commands, and what it was told of a transaction then.
use Rattle.std.proofs.Common.{[], ◌≡◌, inl, inr, ℕ, Bool, true, false, cond, List, ◌∷◌, ◌++◌, Option, Some, None}
use Rattle.std.proofs.Common.{is_some, option_to_list, refl, sym, ap, ◌∙◌, subst}
use Rattle.std.proofs.lemmas.List.{append-nil}
use Rattle.qc_stamp.specs.declared.stamp.TxId.{TxId}
use Rattle.qc_entry.specs.declared.record.Commit.{Commit}
use Rattle.qc_decl.specs.declared.declaration.Declaration.{Declaration}
use Rattle.qc_msg.specs.declared.begun.Begun.{Begun}
use Rattle.qc_msg.specs.declared.message.Answer.{Answer}
use Rattle.qc_msg.specs.declared.message.Message.{Message}
use Rattle.qc_msg.specs.declared.message.Message.TheVariants as messages
use Rattle.qc_msg.specs.declared.record.Record.{Record}
use Rattle.qc_msg.specs.declared.reply.Reply.{Reply}
use Rattle.qc_msg.specs.declared.reply.Reply.TheVariants as replies
use Rattle.qc_msg.specs.declared.step.Command.{Command}
use Rattle.qc_msg.specs.declared.step.Command.TheVariants as commands
use Rattle.qc_msg.specs.declared.turn.Turn.{Turn}
use Rattle.qc_msg.specs.Vocabulary.{commit_of as commit_of_record, quiet}
use Rattle.qc_commit.specs.declared.desk.Voting.{Voting}
use Rattle.qc_commit.specs.Conduct as desks
use Rattle.qc_commit.specs.Vocabulary.{DeskMove, commit_of}
use Rattle.qc_front.specs.declared.transaction.Transaction.{Transaction}
use Rattle.qc_front.specs.Conduct as fronts
use Rattle.qc_front.specs.Vocabulary.{FrontMove, ended as front_ended}
use Rattle.qc_client.specs.declared.client.Client.{Client}
use Rattle.qc_client.specs.Vocabulary.{ClientMove, IsFree, answered, answered_by, by_desk, by_front, called, commits}
use Rattle.qc_client.specs.Vocabulary.{heard, moved}
use Rattle.laws_turns.specs.Vocabulary.{begun_in, book_of, book_with}
use Rattle.qc_promise.specs.Vocabulary.{Dealing, ended}
use Rattle.laws_turns.proofs.BooksKept.{committed_book, free_book, later_book}
use Rattle.laws_turns.proofs.DealingParts.{IsBook, IsDealing}
use Rattle.laws_turns.proofs.Dealing.{committed_one, gave_up}
use Rattle.laws_turns.proofs.DealtOperations.{AskedFor, FrontAfter, told_deal, called-after}
use Rattle.laws_turns.proofs.DealtFronts.{takes-after}
use Rattle.laws_turns.proofs.HandMoves.{Holds, IsHandMove, prepare-it, vote-it}
use Rattle.laws_turns.proofs.ClientCases.{called_cases, heard_cases}

-- the commit record that a turn writes
abbrev pub commits_of : Option Record → List Commit
commits_of None = []
commits_of (Some written) = option_to_list (commit_of_record written)

-- what is known of a client and a transaction, once this was told

-- the desk waits for votes on the begun transaction alone
abbrev pub IsInHand : Option Voting → Option Transaction → Type 0
IsInHand None t = Unit {0}
IsInHand (Some v) t = begun_in t ≡ Some v.begun

pub record Keeps (k : ℕ) (tx : TxId) (told asked : Dealing) (c : Client) : Type 0 where
  pub own : c.front.client ≡ k
  pub desk : c.desk.client ≡ k
  pub dealing : IsDealing tx told (book_of c)
  pub book : IsBook c.desk.clock.value (book_of c)
  pub asked_for : AskedFor asked.asked c.front.doing
  pub hand : IsInHand c.desk.voting c.front.transaction

-- a client that took an input
pub record IsAfter (k : ℕ) (tx : TxId) (d : Dealing) (c : Client) (m : ClientMove) : Type 0 where
  pub keeps : Keeps k tx (told_deal tx d m.turn.told) d m.client
  pub written : m.client.desk.commits ≡ c.desk.commits ++ commits_of m.turn.write

module _ (decl : Declaration) (k : ℕ) (tx : TxId) (d : Dealing) (c : Client) (w : Keeps k tx d d c) where
  abbrev pub After : ClientMove → Type 0
  After m = IsAfter k tx d c m

  none_written : (o : Option Record) → o ≡ None → c.desk.commits ≡ c.desk.commits ++ commits_of o
  none_written o none =
      subst (λ (o : Option Record). c.desk.commits ≡ c.desk.commits ++ commits_of o) (sym none)
      (sym (append-nil c.desk.commits))

  front-keeps : (m : FrontMove) → c.desk.voting ≡ None → FrontAfter k tx c.desk.clock.value c.desk.commits d m
      → After (by_front c m)
  front-keeps m free after = record {
    keeps = record {
      own = after.own;
      desk = w.desk;
      dealing = after.dealing;
      book = after.book;
      asked_for = after.asked;
      hand = subst (λ (o : Option Voting). IsInHand o m.front.transaction) (sym free) tt;
    };
    written = none_written m.turn.write after.write;
  }

  -- the desk moves, where its transaction is the begun one
  desk-keeps : (b : Begun) (m : DeskMove) → begun_in c.front.transaction ≡ Some b → IsHandMove c.desk b m
      → After (by_desk c m)
  desk-keeps b m is (inl v) = record {
    written = v.commits ∙ none_written m.turn.write v.write;
    keeps =
        subst (λ (o : Option Reply). Keeps k tx (told_deal tx d o) d
        (record {
          front = cond (is_some o) (front_ended c.front m.desk.clock.value m.desk.epoch) c.front;
          desk = m.desk;
        })) (sym v.told) (record {
          own = w.own;
          desk = v.client ∙ w.desk;
          dealing = subst (λ (cs : List Commit). IsDealing tx d (book_with c.front cs)) (sym v.commits) w.dealing;
          book =
              subst (λ (cs : List Commit). IsBook m.desk.clock.value (book_with c.front cs)) (sym v.commits)
              (later_book c.desk.clock.value m.desk.clock.value (book_of c) v.clock w.book);
          asked_for = w.asked_for;
          hand = in_hand m.desk.voting v.voting;
        });
  } where
    in_hand : (o : Option Voting) → Holds o b → IsInHand o c.front.transaction
    in_hand None h = tt
    in_hand (Some x) h = is ∙ sym h
  desk-keeps b m is (inr (inl r)) = record {
    written = r.commits ∙ ap (λ (t : Turn). c.desk.commits ++ commits_of t.write) (sym r.turn);
    keeps =
        subst (λ (o : Option Reply). Keeps k tx (told_deal tx d o) d
        (record {
          front = cond (is_some o) (front_ended c.front m.desk.clock.value m.desk.epoch) c.front;
          desk = m.desk;
        })) (sym (ap (λ (t : Turn). t.told) r.turn)) (record {
          own = w.own;
          desk = r.client ∙ w.desk;
          dealing =
              subst (λ (cs : List Commit). IsDealing tx (ended tx d (replies.Committed r.stamp))
              (book_with (front_ended c.front m.desk.clock.value m.desk.epoch) cs)) (sym r.commits)
              (committed_one c.desk.clock.value tx d (book_of c) b is w.book w.dealing (commit_of r.stamp b) refl refl);
          book =
              subst (λ (cs : List Commit). IsBook m.desk.clock.value
              (book_with (front_ended c.front m.desk.clock.value m.desk.epoch) cs)) (sym r.commits)
              (subst (λ (n : ℕ). IsBook n
              (book_with (front_ended c.front m.desk.clock.value m.desk.epoch)
              (c.desk.commits ++ commit_of r.stamp b ∷ []))) (sym r.passed)
              (committed_book c.desk.clock.value (book_of c) b (commit_of r.stamp b) is refl r.clock
              (r.stamped ∙ w.desk ∙ sym w.own) w.book));
          asked_for = tt;
          hand = subst (λ (o : Option Voting). IsInHand o None) (sym r.voting) tt;
        });
  }
  desk-keeps b m is (inr (inr a)) = record {
    written = a.commits ∙ none_written m.turn.write (ap (λ (t : Turn). t.write) a.turn);
    keeps =
        subst (λ (o : Option Reply). Keeps k tx (told_deal tx d o) d
        (record {
          front = cond (is_some o) (front_ended c.front m.desk.clock.value m.desk.epoch) c.front;
          desk = m.desk;
        })) (sym (ap (λ (t : Turn). t.told) a.turn)) (record {
          own = w.own;
          desk = a.client ∙ w.desk;
          dealing =
              subst (λ (cs : List Commit). IsDealing tx (ended tx d (replies.Aborted a.why))
              (book_with (front_ended c.front m.desk.clock.value m.desk.epoch) cs)) (sym a.commits)
              (gave_up c.desk.clock.value tx d (book_of c) b is w.book w.dealing (replies.Aborted a.why)
              (λ stamp e. (let never : ⊥ = cc in never)));
          book =
              subst (λ (cs : List Commit). IsBook m.desk.clock.value
              (book_with (front_ended c.front m.desk.clock.value m.desk.epoch) cs)) (sym a.commits)
              (later_book c.desk.clock.value m.desk.clock.value
              (book_with (front_ended c.front m.desk.clock.value m.desk.epoch) c.desk.commits) a.clock
              (free_book c.desk.clock.value (book_of c) w.book));
          asked_for = tt;
          hand = subst (λ (o : Option Voting). IsInHand o None) (sym a.voting) tt;
        });
  }

  -- a command, which is the last one, where nothing runs
  fronted : (command : Command) → IsFree c → d.asked ≡ Some command
      → After (by_front c (fronts.called decl c.front command))
  fronted command free asked =
      front-keeps (fronts.called decl c.front command) free.voting
      (called-after k tx c.desk.clock.value c.desk.commits d decl c.front w.own w.book w.dealing command
      (subst (AskedFor d.asked) (sym free.doing) tt) asked)

  committed : (o : Option Transaction) → c.front.transaction ≡ o → IsFree c → d.asked ≡ Some commands.Commit
      → After (commits decl c o)
  committed None is free asked = fronted commands.Commit free asked
  committed (Some t) is free asked = by t.begun.doomed where
    by : (dead : Bool)
        → After
        (cond dead (by_front c (fronts.called decl c.front commands.Commit))
        (by_desk c (desks.prepare decl c.desk t.begun c.front.clock.value)))
    by true = fronted commands.Commit free asked
    by false =
        desk-keeps t.begun (desks.prepare decl c.desk t.begun c.front.clock.value) (ap begun_in is)
        (prepare-it decl c.desk t.begun c.front.clock.value)

  pub calls-keep : (command : Command) → IsFree c → d.asked ≡ Some command → After (called decl c command)
  calls-keep command free asked =
      called_cases decl c (λ command m. d.asked ≡ Some command → After m) (λ command is. fronted command free is)
      (λ is. committed c.front.transaction refl free is) command asked

  pub comes-keep : (number : ℕ) (answer : Option Answer) → After (answered decl c number answer)
  comes-keep number answer = by c.desk.voting refl w.hand where
    by : (o : Option Voting) → c.desk.voting ≡ o → IsInHand o c.front.transaction
        → After (answered_by decl c o number answer)
    by None is hand =
        front-keeps (fronts.takes decl c.front number answer) is
        (takes-after k tx c.desk.clock.value c.desk.commits d decl c.front number answer w.own w.book w.dealing
        w.asked_for)
    by (Some v) is hand = desk-keeps v.begun (desks.vote c.desk number answer) hand (vote-it c.desk v number answer is)

  silent : (turn : Turn) → turn.told ≡ None → turn.write ≡ None → After (moved c turn)
  silent turn quiet unwritten =
      record {
        keeps = subst (λ (o : Option Reply). Keeps k tx (told_deal tx d o) d c) (sym quiet) w;
        written = none_written turn.write unwritten;
      }

  pub hears-keep : (from number : ℕ) (message : Message) → After (heard decl c from number message)
  hears-keep from number message =
      heard_cases decl c from number (λ m move. After move) (λ m none. silent quiet refl refl)
      (λ to answer. comes-keep to (Some answer))
      (λ other. silent (heard decl c from number (messages.Inquiry other)).turn refl refl)
      (λ other. silent (heard decl c from number (messages.Ask other)).turn refl refl) message

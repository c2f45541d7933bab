-- A front end's moves by which a transaction goes on, or an operation is told.
use Rattle.std.proofs.Common.{[], ◌≡◌, ℕ, nat_le, Bool, true, false, cond, List, ◌∷◌, ◌++◌, length, Option, Some, None}
use Rattle.std.proofs.Common.{option_map, refl, sym, ap, ◌∙◌, subst}
use Rattle.std.specs.Prelude.{slice_get}
use Rattle.qc_stamp.specs.declared.stamp.Stamp.{Stamp}
use Rattle.qc_stamp.specs.declared.stamp.TxId.{TxId}
use Rattle.qc_entry.specs.declared.line.Op.{Op}
use Rattle.qc_entry.specs.declared.record.Commit.{Commit}
use Rattle.qc_decl.specs.declared.declaration.Declaration.{Declaration}
use Rattle.qc_decl.specs.Vocabulary.{append_need_of, most_transaction_operations, read_need_of}
use Rattle.qc_msg.specs.declared.begun.Begun.{Begun}
use Rattle.qc_msg.specs.declared.call.Call.{Call}
use Rattle.qc_msg.specs.declared.reply.Reply.{Reply}
use Rattle.qc_msg.specs.declared.reply.Reply.TheVariants as replies
use Rattle.qc_msg.specs.declared.reply.Half.TheVariants as halves
use Rattle.qc_msg.specs.declared.reply.AbortCause.TheVariants as causes
use Rattle.qc_msg.specs.declared.step.Command.{Command}
use Rattle.qc_msg.specs.declared.step.Command.TheVariants as commands
use Rattle.qc_msg.specs.declared.turn.Turn.{Turn}
use Rattle.qc_msg.specs.Vocabulary.{quiet, telling}
use Rattle.qc_plan.specs.Vocabulary.{RoundState, verdict}
use Rattle.qc_plan.specs.declared.standing.Verdict.{Verdict}
use Rattle.qc_plan.specs.declared.standing.Verdict.TheVariants as verdicts
use Rattle.qc_view.specs.declared.view.View.{View}
use Rattle.qc_view.specs.Vocabulary.{with_own}
use Rattle.qc_front.specs.declared.doing.Doing.{Doing}
use Rattle.qc_front.specs.declared.doing.Doing.TheVariants.{Idle, Reading, Appending}
use Rattle.qc_front.specs.declared.front.Front.{Front}
use Rattle.qc_front.specs.declared.transaction.Transaction.{Transaction}
use Rattle.qc_front.specs.Vocabulary.{FrontMove, aborts, answer_of, answered, append_by, begins, called, commits, fresh}
use Rattle.qc_front.specs.Vocabulary.{gives_up, moved, next_own, next_tx, op_of, performs, read_by, reads, resp_of}
use Rattle.qc_front.specs.Vocabulary.{round_for, turned, with_event}
use Rattle.qc_front.proofs.CommandsKeep.{view_keeps}
use Rattle.laws_turns.specs.Vocabulary.{begun_in, book_with}
use Rattle.qc_promise.specs.Vocabulary.{Dealing, deal_told, dealt, ended}
use Rattle.laws_turns.proofs.BooksKept.{began_book, free_book}
use Rattle.laws_turns.proofs.DealingParts.{IsBook, IsDealing, as_begun, begun_book}
use Rattle.laws_turns.proofs.Dealing.{began_one, gave_up, told_op}
use Rattle.laws_turns.proofs.ClientCases.{front_cases}

-- a running `do` is the command that was called last
abbrev pub AskedFor : Option Command → Doing → Type 0
AskedFor asked Idle = Unit {0}
AskedFor asked (Reading object inv calls round) = asked ≡ Some (commands.Do object inv)
AskedFor asked (Appending object inv event calls round) = asked ≡ Some (commands.Do object inv)

abbrev pub told_deal : TxId → Dealing → Option Reply → Dealing
told_deal tx d None = d
told_deal tx d (Some reply) = deal_told tx d reply

-- after a move's reply
pub record FrontAfter (k : ℕ) (tx : TxId) (clock : ℕ) (commits : List Commit) (d : Dealing) (m : FrontMove)
    : Type 0 where
  pub own : m.front.client ≡ k
  pub write : m.turn.write ≡ None
  pub dealing : IsDealing tx (told_deal tx d m.turn.told) (book_with m.front commits)
  pub book : IsBook clock (book_with m.front commits)
  pub asked : AskedFor d.asked m.front.doing

-- the begun transaction with the name and the operations of another
pub record IsLike (t : Transaction) (b : Begun) : Type 0 where
  pub tx : t.begun.tx ≡ b.tx
  pub ops : t.begun.ops ≡ b.ops

module _ (k : ℕ) (tx : TxId) (clock : ℕ) (records : List Commit) (d : Dealing) where
  -- what a front end has, and its transaction is this one
  pub record Stands (front : Front) (b : Begun) : Type 0 where
    pub own : front.client ≡ k
    pub is : begun_in front.transaction ≡ Some b
    pub book : IsBook clock (book_with front records)
    pub dealing : IsDealing tx d (book_with front records)

  -- it goes on, and no operation is told
  goes : (front : Front) (b : Begun) (t : Transaction) (doing : Doing) (turn : Turn) → Stands front b → IsLike t b
      → told_deal tx d turn.told ≡ d → turn.write ≡ None → AskedFor d.asked doing
      → FrontAfter k tx clock records d (moved (turned front (Some t) doing) turn)
  goes front b t doing turn s like neutral unwritten asked = record {
    own = s.own;
    write = unwritten;
    dealing =
        subst (λ (e : Dealing). IsDealing tx e (book_with (turned front (Some t) doing) records)) (sym neutral)
        (as_begun tx d (book_with front records) b t.begun s.is like.tx like.ops s.dealing);
    book = begun_book clock (book_with front records) b t.begun s.is like.tx s.book;
    asked = asked;
  }

  -- an operation is told
  answers_do : (front : Front) (b : Begun) (t : Transaction) (object inv : ℕ) (resp : Option ℕ) (turn : Turn)
      → Stands front b → d.asked ≡ Some (commands.Do object inv) → t.begun.tx ≡ b.tx
      → t.begun.ops ≡ b.ops ++ op_of object inv resp ∷ [] → told_deal tx d turn.told ≡ dealt tx d resp
      → turn.write ≡ None → FrontAfter k tx clock records d (moved (turned front (Some t) Idle) turn)
  answers_do front b t object inv resp turn s asked same ops told unwritten = record {
    own = s.own;
    write = unwritten;
    dealing = subst (λ (e : Dealing). IsDealing tx e (book_with (turned front (Some t) Idle) records)) (sym told)
        (told_op clock tx d (book_with front records) b s.is s.book s.dealing t.begun object inv resp asked same ops);
    book = begun_book clock (book_with front records) b t.begun s.is same s.book;
    asked = tt;
  }

  module _ (decl : Declaration) (front : Front) (b : Begun) (s : Stands front b) where
    event_begun : (t : Transaction) (object inv event resp : ℕ)
        → (with_event t object inv event resp).begun
        ≡ record t.begun { ops = t.begun.ops ++ op_of object inv (Some resp) ∷ [] }
    event_begun t object inv event resp =
        ap (λ (x : Begun). record x { ops = x.ops ++ op_of object inv (Some resp) ∷ [] })
        (view_keeps (record t { own = t.own ++ next_own t object event ∷ [] }) object
        (option_map (λ (v : View). with_own v event) (slice_get t.views object)))

    pub append_by-after : (t : Transaction) (object inv event : ℕ) (calls : List Call) (r : RoundState) (v : Verdict)
        → IsLike t b → d.asked ≡ Some (commands.Do object inv)
        → FrontAfter k tx clock records d (append_by decl front t object inv event calls r v)
    append_by-after t object inv event calls r verdicts.Waiting like asked =
        goes front b _ _ _ s (record { tx = like.tx; ops = like.ops }) refl refl asked
    append_by-after t object inv event calls r verdicts.Met like asked =
        answers_do front b (with_event t object inv event (resp_of decl object event)) object inv
        (Some (resp_of decl object event)) (telling (replies.Response (resp_of decl object event))) s asked
        (ap (λ (x : Begun). x.tx) (event_begun t object inv event (resp_of decl object event)) ∙ like.tx)
        (ap (λ (x : Begun). x.ops) (event_begun t object inv event (resp_of decl object event))
        ∙ ap (λ (ops : List Op). ops ++ op_of object inv (Some (resp_of decl object event)) ∷ []) like.ops) refl
        refl
    append_by-after t object inv event calls r (verdicts.Closed epoch site) like asked =
        goes front b (record t { begun = record t.begun { doomed = true } }) Idle (telling (replies.Closed epoch site))
        s (record { tx = like.tx; ops = like.ops }) refl refl tt
    append_by-after t object inv event calls r (verdicts.Clash other site) like asked =
        goes front b (record t { begun = record t.begun { doomed = true } }) Idle
        (telling (replies.Conflict other site)) s (record { tx = like.tx; ops = like.ops }) refl refl tt
    append_by-after t object inv event calls r (verdicts.Short got need) like asked =
        goes front b (record t { begun = record t.begun { doomed = true } }) Idle
        (telling (replies.Quorum halves.Append got need)) s (record { tx = like.tx; ops = like.ops }) refl refl tt

    answered-after : (t : Transaction) (object inv : ℕ) (event : Option ℕ) → IsLike t b
        → d.asked ≡ Some (commands.Do object inv)
        → FrontAfter k tx clock records d (answered decl front t object inv event)
    answered-after t object inv None like asked =
        answers_do front b _ object inv None (telling replies.Absent) s asked like.tx
        (ap (λ (ops : List Op). ops ++ op_of object inv None ∷ []) like.ops) refl refl
    answered-after t object inv (Some event) like asked =
        append_by-after t object inv event [] (round_for decl front t (append_need_of decl t.begun.epoch object event))
        (verdict (round_for decl front t (append_need_of decl t.begun.epoch object event))) like asked

    pub read_by-after : (t : Transaction) (object inv : ℕ) (calls : List Call) (r : RoundState) (v : Verdict)
        → IsLike t b
        → d.asked ≡ Some (commands.Do object inv)
        → FrontAfter k tx clock records d (read_by decl front t object inv calls r v)
    read_by-after t object inv calls r verdicts.Waiting like asked =
        goes front b _ _ _ s (record { tx = like.tx; ops = like.ops }) refl refl asked
    read_by-after t object inv calls r verdicts.Met like asked =
        answered-after t object inv (answer_of decl t object inv) like asked
    read_by-after t object inv calls r (verdicts.Closed epoch site) like asked =
        goes front b t Idle (telling (replies.Closed epoch site)) s like refl refl tt
    read_by-after t object inv calls r (verdicts.Clash other site) like asked =
        goes front b t Idle (telling (replies.Conflict other site)) s like refl refl tt
    read_by-after t object inv calls r (verdicts.Short got need) like asked =
        goes front b t Idle (telling (replies.Quorum halves.Read got need)) s like refl refl tt

  module _ (decl : Declaration) (front : Front) (own : front.client ≡ k) (book : IsBook clock (book_with front records))
      (w : IsDealing tx d (book_with front records)) where
    -- nothing is done, or what is told ends nothing
    pub still : (turn : Turn) → told_deal tx d turn.told ≡ d → turn.write ≡ None → AskedFor d.asked front.doing
        → FrontAfter k tx clock records d (moved front turn)
    still turn neutral unwritten asked =
        record {
          own = own;
          write = unwritten;
          dealing = subst (λ (e : Dealing). IsDealing tx e (book_with front records)) (sym neutral) w;
          book = book;
          asked = asked;
        }

    pub stands : (t : Transaction) → front.transaction ≡ Some t → Stands front t.begun
    stands t is = record { own = own; is = ap begun_in is; book = book; dealing = w }

    itself : (t : Transaction) → IsLike t t.begun
    itself t = record { tx = refl; ops = refl }

    gives-after : (t : Transaction) (reply : Reply) → front.transaction ≡ Some t
        → deal_told tx d reply ≡ ended tx d reply → ((stamp : Stamp) → replies.Committed stamp ≡ reply → ⊥)
        → FrontAfter k tx clock records d (gives_up front t reply)
    gives-after t reply is ends no_commit = record {
      own = own;
      write = refl;
      dealing =
          subst (λ (e : Dealing). IsDealing tx e (book_with (turned front None Idle) records)) (sym ends)
          (gave_up clock tx d (book_with front records) t.begun (ap begun_in is) book w reply no_commit);
      book = free_book clock (book_with front records) book;
      asked = tt;
    }

    performs-after : (o : Option Transaction) (object inv : ℕ) → front.transaction ≡ o → AskedFor d.asked front.doing
        → d.asked ≡ Some (commands.Do object inv) → FrontAfter k tx clock records d (performs decl front o object inv)
    performs-after None object inv is rests asked = still (telling replies.NoTransaction) refl refl rests
    performs-after (Some t) object inv is rests asked =
        by t.begun.doomed (nat_le most_transaction_operations (length t.begun.ops)) where
          by : (doomed long : Bool) → FrontAfter k tx clock records d
              (cond doomed (moved front (telling replies.Doomed))
              (cond long (moved front (telling replies.TooLong))
              (reads decl front t object inv [] (round_for decl front t (read_need_of decl t.begun.epoch object inv)))))
          by true long = still (telling replies.Doomed) refl refl rests
          by false true = still (telling replies.TooLong) refl refl rests
          by false false =
              read_by-after decl front t.begun (stands t is) t object inv []
              (round_for decl front t (read_need_of decl t.begun.epoch object inv))
              (verdict (round_for decl front t (read_need_of decl t.begun.epoch object inv))) (itself t) asked

    begins-after : (o : Option Transaction) → front.transaction ≡ o → AskedFor d.asked front.doing
        → FrontAfter k tx clock records d (begins decl front o)
    begins-after (Some t) is rests = still (telling (replies.Already t.begun.tx)) refl refl rests
    begins-after None is rests = record {
      own = own;
      write = refl;
      dealing =
          began_one clock tx d (book_with front records) (fresh decl (next_tx front) front.epoch).begun (ap begun_in is)
          book refl refl w;
      book = began_book clock (book_with front records) (fresh decl (next_tx front) front.epoch).begun book refl;
      asked = rests;
    }

    commits-after : (o : Option Transaction) → front.transaction ≡ o → AskedFor d.asked front.doing
        → FrontAfter k tx clock records d (commits front o)
    commits-after None is rests = still (telling replies.NoTransaction) refl refl rests
    commits-after (Some t) is rests = by t.begun.doomed where
      by : (doomed : Bool)
          → FrontAfter k tx clock records d
          (cond doomed (gives_up front t (replies.Aborted causes.Doomed)) (moved front quiet))
      by true = gives-after t (replies.Aborted causes.Doomed) is refl (λ stamp e. (let never : ⊥ = cc in never))
      by false = still quiet refl refl rests

    aborts-after : (o : Option Transaction) → front.transaction ≡ o → AskedFor d.asked front.doing
        → FrontAfter k tx clock records d (aborts front o)
    aborts-after None is rests = still (telling replies.NoTransaction) refl refl rests
    aborts-after (Some t) is rests = gives-after t replies.Dropped is refl (λ stamp e. (let never : ⊥ = cc in never))

    -- a command, which is now the last one, where nothing is waited for
    pub called-after : (command : Command) → AskedFor d.asked front.doing → d.asked ≡ Some command
        → FrontAfter k tx clock records d (called decl front command)
    called-after command rests asked =
        front_cases decl front (λ command m. d.asked ≡ Some command → FrontAfter k tx clock records d m)
        (λ is. begins-after front.transaction refl rests)
        (λ object inv is. performs-after front.transaction object inv refl rests is)
        (λ is. commits-after front.transaction refl rests) (λ is. aborts-after front.transaction refl rests)
        (λ number is. still quiet refl refl rests) command asked

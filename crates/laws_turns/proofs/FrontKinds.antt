-- What a front end's move does with its transaction: that goes on under its name, one begins, or it is given up.
use Rattle.std.proofs.Common.{[], ◌≡◌, ℕ, nat_le, Bool, true, false, cond, inl, inr, List, length, Option, Some, None}
use Rattle.std.proofs.Common.{refl, sym, ap, ◌∙◌, subst}
use Rattle.std.specs.List.{AllByRecursion as Every}
use Rattle.qc_stamp.specs.declared.stamp.TxId.{TxId}
use Rattle.qc_decl.specs.declared.declaration.Declaration.{Declaration}
use Rattle.qc_decl.specs.Vocabulary.{most_transaction_operations, read_need_of}
use Rattle.qc_msg.specs.declared.begun.Begun.{Begun}
use Rattle.qc_msg.specs.declared.message.Answer.{Answer}
use Rattle.qc_msg.specs.declared.reply.Reply.{Reply}
use Rattle.qc_msg.specs.declared.reply.Reply.TheVariants as replies
use Rattle.qc_msg.specs.declared.reply.AbortCause.TheVariants as causes
use Rattle.qc_msg.specs.declared.step.Command.{Command}
use Rattle.qc_msg.specs.declared.turn.Posting.{Posting}
use Rattle.qc_msg.specs.declared.turn.Turn.{Turn}
use Rattle.qc_msg.specs.Vocabulary.{quiet, site_called, telling, without_call}
use Rattle.qc_plan.specs.Vocabulary.{note, verdict}
use Rattle.qc_front.specs.declared.doing.Doing.{Doing}
use Rattle.qc_front.specs.declared.doing.Doing.TheVariants.{Idle, Reading, Appending}
use Rattle.qc_front.specs.declared.front.Front.{Front}
use Rattle.qc_front.specs.declared.transaction.Transaction.{Transaction}
use Rattle.qc_front.specs.Vocabulary.{aborts, appended_with, appending_takes, begins, called, commits, gives_up}
use Rattle.qc_front.specs.Vocabulary.{learns, moved, performs, read_with, reading_takes, reads, round_for}
use Rattle.qc_front.specs.Vocabulary.{standing_of, takes, takes_in}
use Rattle.qc_front.proofs.Keeping.{appended_is}
use Rattle.laws_turns.specs.Vocabulary.{begun_in}
use Rattle.laws_turns.proofs.DealingParts.{IsAbort, begun_tx}
use Rattle.laws_turns.proofs.FrontGoesOn.{ToldNeutral, IsRequestFor, name_in, HasSameCounts, FrontKind, append_by-kind}
use Rattle.laws_turns.proofs.FrontGoesOn.{read_by-kind}
use Rattle.laws_turns.proofs.ClientCases.{front_cases}
use Rattle.laws_turns.proofs.AnswerCases.{learned_cases, read_cases}

same_counts : (front : Front) → HasSameCounts front front
same_counts front = record { client = refl; life = refl; count = refl }

module _ (decl : Declaration) (front : Front) where
  still : (turn : Turn) → turn.write ≡ None → turn.sends ≡ [] → ToldNeutral (name_in front) turn.told
      → FrontKind front (moved front turn)
  still turn unwritten unsent told = inl (record {
    counts = same_counts front;
    named = refl;
    write = unwritten;
    sends =
        subst (λ (ps : List Posting). Every (λ (p : Posting). IsRequestFor (name_in front) p.message) ps) (sym unsent)
        tt;
    told = told;
  })

  gives : (t : Transaction) (reply : Reply) → front.transaction ≡ Some t → IsAbort reply
      → FrontKind front (gives_up front t reply)
  gives t reply is abort =
      inr (inr (record {
        counts = record { client = refl; life = refl; count = refl };
        begun = t.begun;
        is = ap begun_in is;
        reply = reply;
        aborts = abort;
        write = refl;
        sends = refl;
        told = refl;
        ended = refl;
      }))

  named : (t : Transaction) → front.transaction ≡ Some t → name_in front ≡ Some t.begun.tx
  named t is = ap (λ (o : Option Transaction). begun_tx (begun_in o)) is

  performs-kind : (o : Option Transaction) (object inv : ℕ) → front.transaction ≡ o
      → FrontKind front (performs decl front o object inv)
  performs-kind None object inv is = still (telling replies.NoTransaction) refl refl tt
  performs-kind (Some t) object inv is =
      by t.begun.doomed (nat_le most_transaction_operations (length t.begun.ops)) where
        by : (doomed long : Bool)
            → FrontKind front
            (cond doomed (moved front (telling replies.Doomed))
            (cond long (moved front (telling replies.TooLong))
            (reads decl front t object inv [] (round_for decl front t (read_need_of decl t.begun.epoch object inv)))))
        by true long = still (telling replies.Doomed) refl refl tt
        by false true = still (telling replies.TooLong) refl refl tt
        by false false =
            read_by-kind decl front front (same_counts front) t object inv []
            (round_for decl front t (read_need_of decl t.begun.epoch object inv))
            (verdict (round_for decl front t (read_need_of decl t.begun.epoch object inv))) (named t is)

  begins-kind : (o : Option Transaction) → front.transaction ≡ o → FrontKind front (begins decl front o)
  begins-kind (Some t) is = still (telling (replies.Already t.begun.tx)) refl refl (named t is)
  begins-kind None is =
      inr (inl (record {
        free = ap (λ (o : Option Transaction). begun_tx (begun_in o)) is;
        client = refl;
        life = refl;
        count = refl;
        named = refl;
        turn = refl;
      }))

  commits-kind : (o : Option Transaction) → front.transaction ≡ o → FrontKind front (commits front o)
  commits-kind None is = still (telling replies.NoTransaction) refl refl tt
  commits-kind (Some t) is = by t.begun.doomed where
    by : (doomed : Bool)
        → FrontKind front (cond doomed (gives_up front t (replies.Aborted causes.Doomed)) (moved front quiet))
    by true = gives t (replies.Aborted causes.Doomed) is tt
    by false = still quiet refl refl tt

  aborts-kind : (o : Option Transaction) → front.transaction ≡ o → FrontKind front (aborts front o)
  aborts-kind None is = still (telling replies.NoTransaction) refl refl tt
  aborts-kind (Some t) is = gives t replies.Dropped is tt

  pub called-kind : (command : Command) → FrontKind front (called decl front command)
  called-kind command =
      front_cases decl front (λ command m. FrontKind front m) (begins-kind front.transaction refl)
      (λ object inv. performs-kind front.transaction object inv refl) (commits-kind front.transaction refl)
      (aborts-kind front.transaction refl) (λ number. still quiet refl refl tt) command

  read_named : (t : Transaction) (site object : ℕ) (answer : Option Answer)
      → (read_with t site object answer).begun.tx ≡ t.begun.tx
  read_named t site object answer =
      read_cases t site object (λ (b : Begun). b.tx ≡ t.begun.tx) (λ lives. refl) answer

  learned : (answer : Option Answer) → HasSameCounts front (learns front answer)
  learned answer =
      learned_cases front (HasSameCounts front) (λ clock. record { client = refl; life = refl; count = refl })
      (λ epoch. record { client = refl; life = refl; count = refl }) (same_counts front) answer

  takes_in-kind : (doing : Doing) (o : Option Transaction) (number : ℕ) (answer : Option Answer) → front.transaction ≡ o
      → FrontKind front (takes_in decl front doing o number answer)
  takes_in-kind doing None number answer is = still quiet refl refl tt
  takes_in-kind Idle (Some t) number answer is = still quiet refl refl tt
  takes_in-kind (Reading object inv calls round) (Some t) number answer is = by (site_called calls number) where
    by : (s : Option ℕ) → FrontKind front (reading_takes decl front t object inv calls round number answer s)
    by None = still quiet refl refl tt
    by (Some site) =
        read_by-kind decl front (learns front answer) (learned answer) (read_with t site object answer) object inv
        (without_call calls number) (note round site (standing_of answer))
        (verdict (note round site (standing_of answer)))
        (named t is ∙ ap (λ (x : TxId). Some x) (sym (read_named t site object answer)))
  takes_in-kind (Appending object inv event calls round) (Some t) number answer is = by (site_called calls number) where
    by : (s : Option ℕ) → FrontKind front (appending_takes decl front t object inv event calls round number answer s)
    by None = still quiet refl refl tt
    by (Some site) =
        append_by-kind decl front (learns front answer) (learned answer) (appended_with t site answer) object inv event
        (without_call calls number) (note round site (standing_of answer))
        (verdict (note round site (standing_of answer)))
        (named t is
        ∙ ap (λ (x : TxId). Some x) (sym (ap (λ (u : Transaction). u.begun.tx) (appended_is t site answer))))

  pub takes-kind : (number : ℕ) (answer : Option Answer) → FrontKind front (takes decl front number answer)
  takes-kind number answer = takes_in-kind front.doing front.transaction number answer refl

-- A client that is down has begun nothing; and what it has begun has at most the number that it counts, through falls.
use Rattle.std.proofs.Common.{◌≡◌, ◌+◌, ℕ, Bool, true, false, cond, List, [], ◌∷◌, ◌++◌, fold, Option, Some, None}
use Rattle.std.proofs.Common.{is_some, refl, sym, ap, ◌∙◌, subst}
use Rattle.std.specs.Prelude.{option_and_then}
use Rattle.laws_due.proofs.StaysUp.{stays_up}
use Rattle.qc_core.specs.Vocabulary.{AreSteady}
use Rattle.laws_reach.proofs.CarriedRecords.{said}
use Rattle.qc_decl.specs.declared.declaration.Declaration.{Declaration}
use Rattle.qc_msg.specs.Vocabulary.{Deed, Falls, Rises, Sends, Takes, Tells, Writes}
use Rattle.qc_msg.specs.declared.message.Message.{Message}
use Rattle.qc_msg.specs.declared.message.Message.TheVariants as messages
use Rattle.qc_msg.specs.declared.record.Record.{Record}
use Rattle.qc_msg.specs.declared.record.Record.TheVariants as records
use Rattle.qc_msg.specs.declared.reply.Reply.{Reply}
use Rattle.qc_msg.specs.declared.reply.Reply.TheVariants as replies
use Rattle.qc_msg.specs.declared.step.Command.{Command}
use Rattle.qc_msg.specs.declared.step.Input.{Input}
use Rattle.laws_guarantees.proofs.Begun.{taken_kept}
use Rattle.laws_guarantees.proofs.Moving.{Step, steady_step}
use Rattle.laws_guarantees.proofs.Persists.{AreMoves, IsNumbered, numbered_step}
use Rattle.qc_promise.specs.Vocabulary.{Account, AreDeedsDue, Current, IsDeedDue, account_at, account_sent}
use Rattle.qc_promise.specs.Vocabulary.{account_taken, account_told, account_written, due, is_asked_for}
use Rattle.qc_promise.specs.Vocabulary.{is_declared_for, new_account, pending_next, reply_to, row_of}
use Rattle.qc_stamp.specs.declared.stamp.TxId.{TxId}
use Rattle.qc_list.proofs.Booleans.{not_both}

module _ (decl : Declaration) where
  -- a transaction begins with the next number
  numbered_next : (d : Account) (x : Deed) (after : List Deed) → IsDeedDue decl d x after → (tx : TxId)
      → x ≡ Tells (replies.Began tx) → tx.number ≡ d.count + 1
  numbered_next d x after is tx same =
      let at : IsDeedDue decl d (Tells (replies.Began tx)) after =
      subst (λ (y : Deed). IsDeedDue decl d y after) same is in
      ap (λ (t : TxId). t.number) (said decl d (is_some (pending_next after)) (replies.Began tx) at.0).1.1

  pub steady_moves : (d : Account) (x : Deed) (after : List Deed) → AreSteady (x ∷ []) → IsDeedDue decl d x after
      → Step d (account_at decl d x)
  steady_moves d x after steady is = steady_step decl d x steady (numbered_next d x after is)

  -- deeds without a fall or a rise move what is begun
  pub all_steady : (ds rest : List Deed) (d : Account) → AreSteady ds → AreDeedsDue decl d (ds ++ rest)
      → AreMoves decl d ds
  all_steady [] rest d steady due = tt
  all_steady (x ∷ ds) rest d steady due = (
    steady_moves d x (ds ++ rest) (steady.0, tt) due.0,
    all_steady ds rest (account_at decl d x) steady.1 due.1,
  )

  -- while it is down

  down_reply : (d : Account) (u : Bool) (reply : Reply) → d.up ≡ false → due decl d u ≡ Some reply
      → reply ≡ replies.Down
  down_reply d u reply down is = by d.command is
    where
      by : (c : Option Command) → option_and_then (reply_to decl d u) c ≡ Some reply → reply ≡ replies.Down
      by None e = absurd (let never : ⊥ = cc in never)
      by (Some command) e =
          let at : Some replies.Down ≡ Some reply =
          ap (λ (b : Bool). cond b (cond (is_declared_for decl d.current command)
          (row_of decl d u d.current command) None) (Some replies.Down)) (sym down) ∙ e in
          let same : replies.Down ≡ reply = cc in sym same

  none_taken : (d : Account) (g : Input) → d.current ≡ None → (account_taken d g).current ≡ None
  none_taken d g none = by (account_taken d g).current refl
    where
      by : (o : Option Current) → (account_taken d g).current ≡ o → o ≡ None
      by None at = refl
      by (Some t) at = absurd (let old = taken_kept d g t at in let both : None ≡ Some old.old = sym none
          ∙ old.was in let never : ⊥ = cc in never)

  none_written : (d : Account) (w : Record) → (account_written d w).current ≡ d.current
  none_written d records.Life = refl
  none_written d (records.Prepare prepared) = refl
  none_written d (records.Done tx clock) = refl
  none_written d (records.Close epoch) = refl
  none_written d (records.Install start) = refl
  none_written d (records.Commit commit) = refl
  none_written d (records.Decide start) = refl

  none_sent : (d : Account) (n to : ℕ) (m : Message) → (account_sent decl d n to m).current ≡ d.current
  none_sent d n to (messages.Request tx epoch life want) = by (is_asked_for decl d to tx epoch life want)
    where
      by : (b : Bool)
          → (cond b (record d {
            requests = d.requests
                ++ record { number = n; site = to; life = life; want = want; taken = None } ∷ [];
          }) d).current ≡ d.current
      by true = refl
      by false = refl
  none_sent d n to (messages.Answer request answer) = refl
  none_sent d n to (messages.Decision tx outcome) = refl
  none_sent d n to (messages.Inquiry tx) = refl
  none_sent d n to (messages.Ask tx) = refl
  none_sent d n to (messages.Close epoch) = refl
  none_sent d n to (messages.Install start) = refl

  pub record Counts (d : Account) : Type 0 where
    pub down : d.up ≡ false → d.current ≡ None
    pub numbered : IsNumbered d.count d.current

  still_up : (d : Account) (x : Deed) → AreSteady (x ∷ []) → d.up ≡ true → (account_at decl d x).up ≡ true
  still_up d (Takes g) steady up = stays_up decl (Takes g ∷ []) d (tt, tt) up
  still_up d (Writes w) steady up = stays_up decl (Writes w ∷ []) d (tt, tt) up
  still_up d (Sends n to m) steady up = stays_up decl (Sends n to m ∷ []) d (tt, tt) up
  still_up d (Tells reply) steady up = stays_up decl (Tells reply ∷ []) d (tt, tt) up
  still_up d (Falls cause pending) steady up = absurd steady.0
  still_up d (Rises kept) steady up = absurd steady.0

  none_more : (d : Account) (x : Deed) (after : List Deed) → AreSteady (x ∷ []) → IsDeedDue decl d x after
      → d.up ≡ false → d.current ≡ None → (account_at decl d x).current ≡ None
  none_more d (Takes g) after steady is down none = none_taken d g none
  none_more d (Writes w) after steady is down none = none_written d w ∙ none
  none_more d (Sends n to m) after steady is down none = none_sent d n to m ∙ none
  none_more d (Tells reply) after steady is down none =
      ap (λ (r : Reply). (account_told decl d r).current) (down_reply d (is_some (pending_next after)) reply down is.0)
      ∙ none
  none_more d (Falls cause pending) after steady is down none = absurd steady.0
  none_more d (Rises kept) after steady is down none = absurd steady.0

  steady_counts : (d : Account) (x : Deed) (after : List Deed) → AreSteady (x ∷ []) → IsDeedDue decl d x after
      → Counts d → Counts (account_at decl d x)
  steady_counts d x after steady is k = record {
    down = λ down. by d.up refl down;
    numbered = numbered_step d.count (account_at decl d x).count d.current (account_at decl d x).current
        (steady_moves d x after steady is) k.numbered;
  }
    where
      by : (b : Bool) → d.up ≡ b → (account_at decl d x).up ≡ false → (account_at decl d x).current ≡ None
      by true up down = absurd (not_both (account_at decl d x).up (still_up d x steady up) down)
      by false up down = none_more d x after steady is up (k.down up)

  deed_counts : (d : Account) (x : Deed) (after : List Deed) → IsDeedDue decl d x after → Counts d
      → Counts (account_at decl d x)
  deed_counts d (Takes g) after is k = steady_counts d (Takes g) after (tt, tt) is k
  deed_counts d (Writes w) after is k = steady_counts d (Writes w) after (tt, tt) is k
  deed_counts d (Sends n to m) after is k = steady_counts d (Sends n to m) after (tt, tt) is k
  deed_counts d (Tells reply) after is k = steady_counts d (Tells reply) after (tt, tt) is k
  deed_counts d (Falls cause pending) after is k =
      record { down = λ down. refl; numbered = λ t none. absurd (let never : ⊥ = cc in never) }
  deed_counts d (Rises kept) after is k = record
      { down = λ down. refl; numbered = λ t none. absurd (let never : ⊥ = cc in never) }

  all_counts : (ds rest : List Deed) (d : Account) → AreDeedsDue decl d (ds ++ rest) → Counts d
      → Counts (fold (account_at decl) d ds)
  all_counts [] rest d due k = k
  all_counts (x ∷ ds) rest d due k = all_counts ds rest (account_at decl d x) due.1
      (deed_counts d x (ds ++ rest) due.0 k)

  pub counts_all : (client : ℕ) (ds rest : List Deed) → AreDeedsDue decl (new_account client) (ds ++ rest)
      → Counts (fold (account_at decl) (new_account client) ds)
  counts_all client ds rest due = all_counts ds rest (new_account client) due
      (record { down = λ down. refl; numbered = λ t none. absurd (let never : ⊥ = cc in never) })

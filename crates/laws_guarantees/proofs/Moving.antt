-- What one deed does to the begun transaction of an account: it changes it, ends it, or begins one of the next number.
use Rattle.std.proofs.Common.{◌≡◌, ◌+◌, ℕ, [], ◌∷◌, Option, Some, None, option_map, refl, sym, ap, subst}
use Rattle.std.specs.List.{find}
use Rattle.qc_stamp.specs.declared.stamp.TxId.{TxId}
use Rattle.qc_list.specs.Vocabulary.{In}
use Rattle.qc_list.proofs.Members.{In-first}
use Rattle.qc_entry.specs.declared.line.Op.{Op}
use Rattle.qc_decl.specs.declared.declaration.Declaration.{Declaration}
use Rattle.qc_msg.specs.declared.message.Answer.{Answer}
use Rattle.qc_msg.specs.declared.message.Message.{Message}
use Rattle.qc_msg.specs.declared.message.Want.{Want}
use Rattle.qc_msg.specs.declared.message.Want.TheVariants.{Read, Append, Prepare}
use Rattle.qc_msg.specs.declared.payload.Grant.{Grant}
use Rattle.qc_msg.specs.declared.record.Record.{Record}
use Rattle.qc_msg.specs.declared.reply.Half.{Half}
use Rattle.qc_msg.specs.declared.reply.Half.TheVariants as halves
use Rattle.qc_msg.specs.declared.reply.Reply.{Reply}
use Rattle.qc_msg.specs.declared.reply.Reply.TheVariants as replies
use Rattle.qc_msg.specs.declared.step.Command.{Command}
use Rattle.qc_msg.specs.declared.step.Input.TheVariants as inputs
use Rattle.qc_core.specs.Vocabulary.{AreSteady}
use Rattle.qc_msg.specs.Vocabulary.{Deed, Falls, Rises, Sends, Takes, Tells, Writes}
use Rattle.qc_promise.specs.Vocabulary.{Account, ClientRequest, Current, account_at, account_heard, account_sent}
use Rattle.qc_promise.specs.Vocabulary.{account_told_in, account_written, answer_of, counted, counted_for, found_absent}
use Rattle.qc_promise.specs.Vocabulary.{granted, is_open, lived, new_current, promised, responded, short_of, taken_for}
use Rattle.qc_promise.specs.Vocabulary.{told_by, with_read, with_response, with_absent}
use Rattle.laws_guarantees.proofs.FirstGrants.{KeepsLives, life_added, same_lives}
use Rattle.laws_guarantees.proofs.AccountCases.{absent_cases, heard_cases, reply_cases, responded_cases, sent_cases}
use Rattle.laws_guarantees.proofs.AccountCases.{told_cases}
use Rattle.laws_due.proofs.AccountCases.{written_cases}

-- what one deed does to the begun transaction: it changes that, keeping its name and its operations; it ends it; or it
-- begins one
pub data Moves (count : ℕ) (now : Option Current) (count_then : ℕ) (later : Option Current) : Type 0 where
  Changes : count_then ≡ count → (change : Current → Current) → ((t : Current) → (change t).tx ≡ t.tx)
      → ((t : Current) (op : Op) → In op t.ops → In op (change t).ops)
      → ((t : Current) → KeepsLives t.lives (change t).lives) → later ≡ option_map change now
      → Moves count now count_then later
  Ends : count_then ≡ count → later ≡ None → Moves count now count_then later
  Begins : count_then ≡ count + 1 → (t : Current) → later ≡ Some t → t.tx.number ≡ count + 1
      → Moves count now count_then later

abbrev pub Step : Account → Account → Type 0
Step d e = Moves d.count d.current e.count e.current

unchanged : (o : Option Current) → o ≡ option_map (λ (t : Current). t) o
unchanged None = refl
unchanged (Some t) = refl

stays : (d : Account) → Step d d
stays d = Changes refl (λ (t : Current). t) (λ t. refl) (λ t op among. among) (λ t. same_lives t.lives)
    (unchanged d.current)

-- a change that leaves name and operations alone
alters : (n : ℕ) (o : Option Current) (change : Current → Current) → ((t : Current) → (change t).tx ≡ t.tx)
    → ((t : Current) → (change t).ops ≡ t.ops) → ((t : Current) → KeepsLives t.lives (change t).lives)
    → Moves n o n (option_map change o)
alters n o change names ops lives = Changes refl change names
    (λ t op among. subst (In op) (sym (ops t)) among) lives refl

module _ (decl : Declaration) where
  granted_step : (d : Account) (site : ℕ) (g : Grant) (w : Want) → Step d (granted d site g w)
  granted_step d site g (Read read) =
      alters d.count d.current (λ (t : Current). with_read (lived t site g.life) read.object g.log) (λ t. refl)
      (λ t. refl) (λ t. life_added t.lives site g.life)
  granted_step d site g (Append object view own) =
      alters d.count d.current (λ (t : Current). lived t site g.life) (λ t. refl) (λ t. refl)
      (λ t. life_added t.lives site g.life)
  granted_step d site g Prepare = stays d

  promised_step : (d : Account) (clock : ℕ) (w : Want) → Step d (promised d clock w)
  promised_step d clock (Read read) = stays d
  promised_step d clock (Append object view own) = stays d
  promised_step d clock Prepare = stays d

  told_step : (d : Account) (q : ClientRequest) (answer : Option Answer) → Step d (told_by d q answer)
  told_step d q answer = told_cases d q (λ a e. Step d e) (λ a. stays d)
      (λ g. granted_step d q.site g q.want) (λ epoch. stays d)
      (λ clock. promised_step d clock q.want) answer

  counted_step : (d : Account) (n : ℕ) (answer : Option Answer) → Step d (counted d n answer)
  counted_step d n answer = by (find (is_open n) d.requests)
    where
      by : (o : Option ClientRequest) → Step d (counted_for d n answer o)
      by None = stays d
      by (Some q) = told_step (record d { requests = taken_for n answer d.requests }) q answer

  heard_step : (d : Account) (m : Message) → Step d (account_heard d m)
  heard_step d m = heard_cases d (λ m e. Step d e) (λ m. stays d) (λ to answer. counted_step d to (Some answer)) m

  written_step : (d : Account) (w : Record) → Step d (account_written d w)
  written_step d w = written_cases d (λ e. Step d e) (stays d) (stays d) (λ commit. stays d) w

  sent_step : (d : Account) (n to : ℕ) (m : Message) → Step d (account_sent decl d n to m)
  sent_step d n to m = sent_cases decl d n to (λ m e. Step d e) (λ m. stays d) (λ tx epoch life want is. stays d) m

  response_name : (t : Current) (object inv : ℕ) (o : Option ℕ) → (with_response decl t object inv o).tx ≡ t.tx
  response_name t object inv None = refl
  response_name t object inv (Some event) = refl

  response_ops : (t : Current) (object inv : ℕ) (o : Option ℕ) (op : Op) → In op t.ops
      → In op (with_response decl t object inv o).ops
  response_ops t object inv None op among = among
  response_ops t object inv (Some event) op among = In-first op t.ops _ among

  response_lives : (t : Current) (object inv : ℕ) (o : Option ℕ)
      → KeepsLives t.lives (with_response decl t object inv o).lives
  response_lives t object inv None = same_lives t.lives
  response_lives t object inv (Some event) = same_lives t.lives

  responded_step : (d : Account) (c : Option Command) → Step d (responded decl d c)
  responded_step d c = responded_cases decl d (λ e. Step d e) (stays d)
      (λ object inv. Changes refl (λ (t : Current). with_response decl t object inv (answer_of decl t object inv))
      (λ t. response_name t object inv (answer_of decl t object inv))
      (λ t. response_ops t object inv (answer_of decl t object inv))
      (λ t. response_lives t object inv (answer_of decl t object inv)) refl) c

  absent_step : (d : Account) (c : Option Command) → Step d (found_absent d c)
  absent_step d c = absent_cases d (λ e. Step d e) (stays d)
      (λ object inv. Changes refl (λ (t : Current). with_absent t object inv) (λ t. refl)
      (λ t op among. In-first op t.ops _ among) (λ t. same_lives t.lives) refl) c

  short_step : (d : Account) (half : Half) → Step d (short_of d half)
  short_step d halves.Read = stays d
  short_step d halves.Append = alters d.count d.current _ (λ t. refl) (λ t. refl) (λ t. same_lives t.lives)
  short_step d halves.Close = stays d

  reply_step : (d : Account) (reply : Reply) → ((tx : TxId) → reply ≡ replies.Began tx → tx.number ≡ d.count + 1)
      → Step d (account_told_in decl d reply)
  reply_step d reply is = reply_cases decl d
      (λ r e. ((tx : TxId) → r ≡ replies.Began tx → tx.number ≡ d.count + 1) → Step d e) (λ r none. stays d)
      (λ tx one. Begins refl (new_current tx d.known) refl (one tx refl)) (λ stamp none. Ends refl refl)
      (λ r none. Ends refl refl)
      (λ r none. alters d.count d.current _ (λ t. refl) (λ t. refl) (λ t. same_lives t.lives))
      (λ r half none. short_step d half) (λ r none. absent_step d d.command) (λ r none. responded_step d d.command)
      reply is

  -- a deed that is neither a fall nor a rise, with which a transaction begins by the next number alone
  pub steady_step : (d : Account) (x : Deed) → AreSteady (x ∷ [])
      → ((tx : TxId) → x ≡ Tells (replies.Began tx) → tx.number ≡ d.count + 1) → Step d (account_at decl d x)
  steady_step d (Takes (inputs.Called command)) steady is = stays d
  steady_step d (Takes (inputs.Got e)) steady is = heard_step d e.message
  steady_step d (Takes (inputs.Lost n)) steady is = counted_step d n None
  steady_step d (Writes w) steady is = written_step d w
  steady_step d (Sends n to m) steady is = sent_step d n to m
  steady_step d (Tells reply) steady is = reply_step d reply (λ tx same. is tx (ap Tells same))
  steady_step d (Falls cause pending) steady is = absurd steady.0
  steady_step d (Rises kept) steady is = absurd steady.0

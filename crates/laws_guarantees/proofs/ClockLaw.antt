-- The stamp of a record has passed each clock that its client counted before.
use Rattle.std.proofs.Common.{◌≡◌, ◌<◌, ◌≤◌, ◌+◌, ◌-◌, ℕ, Bool, true, List, [], ◌∷◌, ◌++◌, Option, Some, None, refl}
use Rattle.std.proofs.Common.{sym, ap, ◌∙◌, slice_get, subst, arith}
use Rattle.std.specs.Prelude.{fold}
use Rattle.std.specs.List.{find}
use Rattle.std.proofs.lemmas.List.Sums.{fold-append}
use Rattle.qc_decl.proofs.Clients.{client_within}
use Rattle.qc_stamp.specs.declared.stamp.Stamp.{Stamp}
use Rattle.qc_decl.specs.declared.declaration.Declaration.{Declaration}
use Rattle.qc_entry.specs.declared.record.Commit.{Commit as CommitRecord}
use Rattle.qc_msg.specs.declared.message.Answer.{Answer}
use Rattle.qc_msg.specs.declared.message.Answer.TheVariants as answers
use Rattle.qc_msg.specs.declared.message.Message.{Message}
use Rattle.qc_msg.specs.declared.message.Want.{Want}
use Rattle.qc_msg.specs.declared.message.Want.TheVariants.{Read, Append, Prepare}
use Rattle.qc_msg.specs.declared.payload.Grant.{Grant}
use Rattle.qc_msg.specs.declared.record.Record.{Record}
use Rattle.qc_msg.specs.declared.record.Record.TheVariants as records
use Rattle.qc_msg.specs.declared.reply.Half.{Half}
use Rattle.qc_msg.specs.declared.reply.Half.TheVariants as halves
use Rattle.qc_msg.specs.declared.reply.Reply.{Reply}
use Rattle.qc_msg.specs.declared.reply.Reply.TheVariants as replies
use Rattle.qc_msg.specs.declared.step.Command.{Command}
use Rattle.qc_msg.specs.declared.step.Input.{Input}
use Rattle.qc_msg.specs.declared.step.Input.TheVariants as inputs
use Rattle.qc_msg.specs.Vocabulary.{Deed, Entry, Falls, Rises, Sends, Takes, Tells, Writes, deeds}
use Rattle.qc_promise.specs.Vocabulary.{Account, ClientRequest, account_at, account_heard, account_sent, account_taken}
use Rattle.qc_promise.specs.Vocabulary.{account_told_in, account_written, counted, counted_for, found_absent, granted}
use Rattle.qc_promise.specs.Vocabulary.{is_open, new_account, promised, responded, short_of, taken_for, told_by}
use Rattle.laws_due.specs.Vocabulary.{AreByRows, IsByRow}
use Rattle.qc_core.specs.Vocabulary.{IsLawful}
use Rattle.qc_decl.specs.Vocabulary.{is_client}
use Rattle.qc_script.specs.Vocabulary.{Runs}
use Rattle.qc_script.specs.declared.script.Script.{Script}
use Rattle.laws_turns.proofs.Acted.{has_entry, actors_take_and_post_by_turns}
use Rattle.laws_turns.specs.Vocabulary.{ActsIn}
use Rattle.laws_due.proofs.Courses.{deeds_of_clients_are_by_rows}
use Rattle.laws_guarantees.specs.Vocabulary.{GrantTells, IsCounted, PromiseTells, Tells as TellsClock}
use Rattle.laws_guarantees.proofs.Requests.{due_at}
use Rattle.laws_guarantees.proofs.DueStamps.{due_stamp}
use Rattle.laws_guarantees.proofs.AccountCases.{absent_cases, heard_cases, reply_cases, responded_cases, sent_cases}
use Rattle.laws_guarantees.proofs.AccountCases.{told_cases}
use Rattle.laws_due.proofs.AccountCases.{written_cases}

module _ (decl : Declaration) where
  -- a client's clock never falls

  granted_clock : (d : Account) (site : ℕ) (g : Grant) (w : Want) → d.clock ≤ (granted d site g w).clock
  granted_clock d site g (Read read) = omega arith
  granted_clock d site g (Append object view own) = omega arith
  granted_clock d site g Prepare = omega arith

  promised_clock : (d : Account) (clock : ℕ) (w : Want) → d.clock ≤ (promised d clock w).clock
  promised_clock d clock (Read read) = omega arith
  promised_clock d clock (Append object view own) = omega arith
  promised_clock d clock Prepare = omega arith

  same_clock : (d : Account) → d.clock ≤ d.clock
  same_clock d = omega arith

  told_clock : (d : Account) (q : ClientRequest) (answer : Option Answer) → d.clock ≤ (told_by d q answer).clock
  told_clock d q answer = told_cases d q (λ a e. d.clock ≤ e.clock) (λ a. same_clock d)
      (λ g. granted_clock d q.site g q.want) (λ epoch. same_clock d)
      (λ clock. promised_clock d clock q.want) answer

  counted_clock : (d : Account) (n : ℕ) (answer : Option Answer) → d.clock ≤ (counted d n answer).clock
  counted_clock d n answer = by (find (is_open n) d.requests)
    where
      by : (o : Option ClientRequest) → d.clock ≤ (counted_for d n answer o).clock
      by None = same_clock d
      by (Some q) = told_clock (record d { requests = taken_for n answer d.requests }) q answer

  heard_clock : (d : Account) (m : Message) → d.clock ≤ (account_heard d m).clock
  heard_clock d m = heard_cases d (λ m e. d.clock ≤ e.clock) (λ m. same_clock d)
      (λ to answer. counted_clock d to (Some answer)) m

  pub written_clock : (d : Account) (w : Record) → d.clock ≤ (account_written d w).clock
  written_clock d w = written_cases d (λ e. d.clock ≤ e.clock) (same_clock d) (same_clock d)
      (λ commit. same_clock d) w

  pub sent_clock : (d : Account) (n to : ℕ) (m : Message) → d.clock ≤ (account_sent decl d n to m).clock
  sent_clock d n to m = sent_cases decl d n to (λ m e. d.clock ≤ e.clock) (λ m. same_clock d)
      (λ tx epoch life want is. same_clock d) m

  responded_clock : (d : Account) (c : Option Command) → d.clock ≤ (responded decl d c).clock
  responded_clock d c = responded_cases decl d (λ e. d.clock ≤ e.clock) (same_clock d) (λ object inv. same_clock d) c

  absent_clock : (d : Account) (c : Option Command) → d.clock ≤ (found_absent d c).clock
  absent_clock d c = absent_cases d (λ e. d.clock ≤ e.clock) (same_clock d) (λ object inv. same_clock d) c

  short_clock : (d : Account) (half : Half) → d.clock ≤ (short_of d half).clock
  short_clock d halves.Read = same_clock d
  short_clock d halves.Append = same_clock d
  short_clock d halves.Close = same_clock d

  pub reply_clock : (d : Account) (reply : Reply)
      → ((stamp : Stamp) → reply ≡ replies.Committed stamp → stamp.clock ≡ d.clock + 1)
      → d.clock ≤ (account_told_in decl d reply).clock
  reply_clock d reply is = reply_cases decl d
      (λ r e. ((stamp : Stamp) → r ≡ replies.Committed stamp → stamp.clock ≡ d.clock + 1) → d.clock ≤ e.clock)
      (λ r none. same_clock d) (λ tx none. same_clock d)
      (λ stamp one. let next : stamp.clock ≡ d.clock + 1 = one stamp refl in omega arith) (λ r none. same_clock d)
      (λ r none. same_clock d) (λ r half none. short_clock d half) (λ r none. absent_clock d d.command)
      (λ r none. responded_clock d d.command) reply is

  pub take_clock : (d : Account) (g : Input) → d.clock ≤ (account_taken d g).clock
  take_clock d (inputs.Called command) = same_clock d
  take_clock d (inputs.Got e) = heard_clock d e.message
  take_clock d (inputs.Lost n) = counted_clock d n None

  deed_clock : (d : Account) (x : Deed) → IsByRow decl d x → d.clock ≤ (account_at decl d x).clock
  deed_clock d (Takes g) is = take_clock d g
  deed_clock d (Writes w) is = written_clock d w
  deed_clock d (Sends n to m) is = sent_clock d n to m
  deed_clock d (Tells reply) is = reply_clock d reply
      (λ stamp same. ap (λ (s : Stamp). s.clock) (due_stamp decl d stamp (is.0 ∙ ap Some same)))
  deed_clock d (Falls cause pending) is = absurd is
  deed_clock d (Rises kept) is = absurd is

  pub clock_rises : (ds : List Deed) (d : Account) → AreByRows decl d ds → d.clock ≤ (fold (account_at decl) d ds).clock
  clock_rises [] d is = same_clock d
  clock_rises (x ∷ ds) d is =
      let first : d.clock ≤ (account_at decl d x).clock = deed_clock d x is.0 in
      let rest : (account_at decl d x).clock ≤ (fold (account_at decl) (account_at decl d x) ds).clock =
      clock_rises ds (account_at decl d x) is.1 in
      omega arith

  -- what counts, the clock passes

  grant_passes : (d : Account) (site clock : ℕ) (g : Grant) (w : Want) → GrantTells clock g.clock w
      → clock ≤ (granted d site g w).clock
  grant_passes d site clock g (Read read) is = omega arith
  grant_passes d site clock g (Append object view own) is = omega arith
  grant_passes d site clock g Prepare is = absurd is

  promise_passes : (d : Account) (told clock : ℕ) (w : Want) → PromiseTells clock told w
      → clock ≤ (promised d told w).clock
  promise_passes d told clock (Read read) is = absurd is
  promise_passes d told clock (Append object view own) is = absurd is
  promise_passes d told clock Prepare is = omega arith

  told_passes : (d : Account) (q : ClientRequest) (answer : Answer) (clock : ℕ) → TellsClock clock q.want answer
      → clock ≤ (told_by d q (Some answer)).clock
  told_passes d q (answers.Granted grant) clock is = grant_passes d q.site clock grant q.want is
  told_passes d q (answers.Clash holder inv event) clock is = absurd is
  told_passes d q (answers.Closed epoch) clock is = absurd is
  told_passes d q (answers.Behind epoch) clock is = absurd is
  told_passes d q (answers.Restarted life) clock is = absurd is
  told_passes d q answers.Stale clock is = absurd is
  told_passes d q answers.Fault clock is = absurd is
  told_passes d q (answers.Yes told) clock is = promise_passes d told clock q.want is
  told_passes d q (answers.Shut snapshot) clock is = absurd is
  told_passes d q answers.Installed clock is = absurd is
  told_passes d q (answers.Answered outcome) clock is = absurd is

  pub counted_passes : (d : Account) (n clock : ℕ) (answer : Answer) (q : ClientRequest)
      → find (is_open n) d.requests ≡ Some q → TellsClock clock q.want answer
      → clock ≤ (counted d n (Some answer)).clock
  counted_passes d n clock answer q found tells =
      subst (λ (o : Option ClientRequest). clock ≤ (counted_for d n (Some answer) o).clock) (sym found)
      (told_passes (record d { requests = taken_for n (Some answer) d.requests }) q answer clock tells)

  -- parts of what is due

  due_front : (xs ys : List Deed) (d : Account) → AreByRows decl d (xs ++ ys) → AreByRows decl d xs
  due_front [] ys d due = tt
  due_front (x ∷ xs) ys d due = (due.0, due_front xs ys (account_at decl d x) due.1)

  due_back : (xs ys : List Deed) (d : Account) → AreByRows decl d (xs ++ ys)
      → AreByRows decl (fold (account_at decl) d xs) ys
  due_back [] ys d due = due
  due_back (x ∷ xs) ys d due = due_back xs ys (account_at decl d x) due.1

  counted_reached : (client : ℕ) (ds : List Deed) (clock : ℕ) → AreByRows decl (new_account client) ds
      → IsCounted decl client ds clock → clock ≤ (fold (account_at decl) (new_account client) ds).clock
  counted_reached client ds clock due k =
      let d : Account = fold (account_at decl) (new_account client) k.before in
      let rest_due : AreByRows decl (account_at decl d (Takes (inputs.Got k.envelope))) k.after =
      (due_back k.before (Takes (inputs.Got k.envelope) ∷ k.after) (new_account client)
      (subst (AreByRows decl (new_account client)) k.taken due)).1 in
      let passed : clock ≤ (account_heard d k.envelope.message).clock =
      subst (λ (m : Message). clock ≤ (account_heard d m).clock) (sym k.answers_it)
      (counted_passes d k.number clock k.answer k.request k.counts k.tells) in
      let rises : (account_heard d k.envelope.message).clock ≤
      (fold (account_at decl) (account_at decl d (Takes (inputs.Got k.envelope))) k.after).clock =
      clock_rises k.after (account_at decl d (Takes (inputs.Got k.envelope))) rest_due in
      let all : fold (account_at decl) (new_account client) ds ≡ fold (account_at decl) d
      (Takes (inputs.Got k.envelope) ∷ k.after) =
      ap (fold (account_at decl) (new_account client)) k.taken
      ∙ fold-append (account_at decl) (new_account client) k.before (Takes (inputs.Got k.envelope) ∷ k.after) in
      subst (λ (e : Account). clock ≤ e.clock) (sym all) (omega arith)

  record_passes : (client : ℕ) (ds front back : List Deed) (c : CommitRecord) (clock : ℕ)
      → AreByRows decl (new_account client) ds → ds ≡ front ++ Writes (records.Commit c) ∷ back
      → IsCounted decl client front clock → clock < c.stamp.clock
  record_passes client ds front back c clock due is k =
      let here : AreByRows decl (new_account client) (front ++ Writes (records.Commit c) ∷ back) =
      subst (AreByRows decl (new_account client)) is due in
      let low : clock ≤ (fold (account_at decl) (new_account client) front).clock =
      counted_reached client front clock (due_front front (Writes (records.Commit c) ∷ back)
      (new_account client) here) k in
      let next : c.stamp.clock ≡ (fold (account_at decl) (new_account client) front).clock + 1 =
      ap (λ (s : Stamp). s.clock) (due_stamp decl (fold (account_at decl) (new_account client) front) c.stamp
      (due_at decl front (Writes (records.Commit c)) back (new_account client) here).0) in
      omega arith

  pub stamps_pass_what_was_counted : (script : Script) (h : List Entry) (open_inputs : List Bool)
      → Runs (IsLawful decl) decl script h open_inputs → (a : ℕ) → is_client decl a ≡ true
      → (front back : List Deed) (c : CommitRecord) (clock : ℕ)
      → deeds a [] h ≡ front ++ Writes (records.Commit c) ∷ back → IsCounted decl (a - decl.sites) front clock
      → clock < c.stamp.clock
  stamps_pass_what_was_counted script h open_inputs run a client front back c clock is k =
      by (has_entry (IsLawful decl) decl script h open_inputs run a (client_within decl a client))
    where
      by : (t : Bool) × (slice_get open_inputs a ≡ Some t) → clock < c.stamp.clock
      by slot =
          let acts : ActsIn decl a h slot.0 =
          actors_take_and_post_by_turns decl script h open_inputs run a slot.0 slot.1 in
          record_passes (a - decl.sites) (deeds a [] h) front back c clock
          (deeds_of_clients_are_by_rows decl a client (deeds a [] h) slot.0 acts.above acts.acts) is k

-- The stamp of a record has passed each clock that its client counted before in that life.
use Rattle.std.proofs.Common.{◌≡◌, ◌<◌, ◌≤◌, ◌+◌, ◌-◌, ℕ, Bool, true, false, if◌then◌else◌, List, [], ◌∷◌, ◌++◌, fold}
use Rattle.std.proofs.Common.{Option, Some, None, refl, sym, ap, ◌∙◌, subst, arith, append_assoc}
use Rattle.std.specs.Prelude.{option_and_then}
use Rattle.std.proofs.lemmas.List.Sums.{fold-append}
use Rattle.laws_due.proofs.AccountDeclared.{scripts_ask_what_is_declared}
use Rattle.qc_core.specs.Vocabulary.{AreSteady, IsLawfulWithFalls}
use Rattle.qc_decl.specs.Vocabulary.{IsAccepted, actors, is_client}
use Rattle.qc_decl.specs.declared.declaration.Declaration.{Declaration}
use Rattle.laws_due.proofs.KeptPlanned.{runs_with_falls_are_due_where_records_are_kept}
use Rattle.qc_entry.specs.declared.record.Commit.{Commit as CommitRecord}
use Rattle.laws_guarantees.proofs.ClockLaw.{counted_passes, reply_clock, sent_clock, take_clock, written_clock}
use Rattle.laws_guarantees.proofs.DueStamps.{do_stamp, stamp_of}
use Rattle.laws_guarantees.specs.Vocabulary.{IsCounted}
use Rattle.laws_votes.proofs.Clients.{IsNumbered, numbered}
use Rattle.laws_votes.specs.Vocabulary.{IsCountedInLife, IsRecorded}
use Rattle.qc_link.specs.Vocabulary.{most_actors}
use Rattle.qc_msg.proofs.DeedsGrow.{deeds-append}
use Rattle.qc_msg.specs.Vocabulary.{Deed, Entry, Falls, Rises, Sends, Takes, Tells, Writes, by, deeds, mail}
use Rattle.qc_msg.specs.declared.message.Message.{Message}
use Rattle.qc_msg.specs.declared.record.Record.{Record}
use Rattle.qc_msg.specs.declared.reply.Reply.TheVariants as replies
use Rattle.qc_msg.specs.declared.reply.AbortCause.{AbortCause}
use Rattle.qc_msg.specs.declared.reply.AbortCause.TheVariants as causes
use Rattle.qc_msg.specs.declared.step.Command.{Command}
use Rattle.qc_msg.specs.declared.step.Command.TheVariants as commands
use Rattle.qc_msg.specs.declared.step.Input.TheVariants as inputs
use Rattle.qc_promise.specs.Vocabulary.{Account, AreDeedsDue, AreRepliesDue, Current, Due, IsDeedDue, Kept, account_at}
use Rattle.qc_promise.specs.Vocabulary.{account_heard, are_votes_in, commit_row, do_row, due, first_against}
use Rattle.qc_promise.specs.Vocabulary.{is_declared_for, is_prepare, new_account, next_stamp, reply_to, requests_for}
use Rattle.qc_promise.specs.Vocabulary.{row_of, vote_row}
use Rattle.qc_script.specs.Vocabulary.{IsScriptFor, RunsWithFalls}
use Rattle.qc_script.specs.declared.script.Script.{Script}
use Rattle.qc_stamp.specs.declared.stamp.Stamp.{Stamp}
use Rattle.laws_due.proofs.Unwritten.{none_some}

module _ (decl : Declaration) where
  -- a commit that is due has the stamp that comes next

  commit_next : (d : Account) (u : Bool) (t : Current) (stamp : Stamp) → stamp_of (commit_row decl d u t) ≡ Some stamp
      → stamp ≡ next_stamp d
  commit_next d u t stamp is = by u t.doomed (are_votes_in decl d t) (first_against (requests_for is_prepare d)) is
    where
      by : (u x y : Bool) (o : Option AbortCause)
          → stamp_of (if x then Some (replies.Aborted causes.Doomed) else (if y then vote_row d u o else None))
          ≡ Some stamp → stamp ≡ next_stamp d
      by u true y o e = none_some None stamp refl e
      by u false false o e = none_some None stamp refl e
      by false false true None e = let same : next_stamp d ≡ stamp = cc in sym same
      by true false true None e = none_some None stamp refl e
      by u false true (Some why) e = none_some None stamp refl e

  row_next : (d : Account) (u : Bool) (t : Option Current) (command : Command) (stamp : Stamp)
      → stamp_of (row_of decl d u t command) ≡ Some stamp → stamp ≡ next_stamp d
  row_next d u None commands.Begin stamp e = none_some None stamp refl e
  row_next d u None (commands.Do object inv) stamp e = none_some None stamp refl e
  row_next d u None commands.Commit stamp e = none_some None stamp refl e
  row_next d u None commands.Abort stamp e = none_some None stamp refl e
  row_next d u None (commands.Epoch number) stamp e = none_some None stamp refl e
  row_next d u (Some t) commands.Begin stamp e = none_some None stamp refl e
  row_next d u (Some t) (commands.Do object inv) stamp e =
      none_some (stamp_of (do_row decl d t object inv)) stamp (do_stamp decl d t object inv) e
  row_next d u (Some t) commands.Commit stamp e = commit_next d u t stamp e
  row_next d u (Some t) commands.Abort stamp e = none_some None stamp refl e
  row_next d u (Some t) (commands.Epoch number) stamp e = none_some None stamp refl e

  due_next : (d : Account) (u : Bool) (stamp : Stamp) → due decl d u ≡ Some (replies.Committed stamp)
      → stamp ≡ next_stamp d
  due_next d u stamp is = by d.command (ap stamp_of is)
    where
      at : (command : Command) (up declared : Bool)
          → stamp_of (if up then (if declared then row_of decl d u d.current command else None) else Some replies.Down)
          ≡ Some stamp → stamp ≡ next_stamp d
      at command true true e = row_next d u d.current command stamp e
      at command true false e = none_some None stamp refl e
      at command false declared e = none_some None stamp refl e

      by : (c : Option Command) → stamp_of (option_and_then (reply_to decl d u) c) ≡ Some stamp → stamp ≡ next_stamp d
      by None e = none_some None stamp refl e
      by (Some command) e = at command d.up (is_declared_for decl d.current command) e

  -- in one life a client's clock never falls

  steady_clock : (d : Account) (x : Deed) (after : List Deed) → AreSteady (x ∷ []) → IsDeedDue decl d x after
      → d.clock ≤ (account_at decl d x).clock
  steady_clock d (Takes g) after steady is = take_clock decl d g
  steady_clock d (Writes w) after steady is = written_clock decl d w
  steady_clock d (Sends n to m) after steady is = sent_clock decl d n to m
  steady_clock d (Tells reply) after steady is =
      reply_clock decl d reply (λ stamp same. ap (λ (s : Stamp). s.clock) (due_next d _ stamp (is.0 ∙ ap Some same)))
  steady_clock d (Falls cause pending) after steady is = absurd steady.0
  steady_clock d (Rises kept) after steady is = absurd steady.0

  pub steady_clocks : (ds rest : List Deed) (d : Account) → AreSteady ds → AreDeedsDue decl d (ds ++ rest)
      → d.clock ≤ (fold (account_at decl) d ds).clock
  steady_clocks [] rest d steady is = omega arith
  steady_clocks (x ∷ ds) rest d steady is =
      let first : d.clock ≤ (account_at decl d x).clock = steady_clock d x (ds ++ rest) (steady.0, tt) is.0 in
      let more : (account_at decl d x).clock ≤ (fold (account_at decl) (account_at decl d x) ds).clock =
      steady_clocks ds rest (account_at decl d x) steady.1 is.1 in
      omega arith

  pub due_behind : (xs ys : List Deed) (d : Account) → AreDeedsDue decl d (xs ++ ys)
      → AreDeedsDue decl (fold (account_at decl) d xs) ys
  due_behind [] ys d is = is
  due_behind (x ∷ xs) ys d is = due_behind xs ys (account_at decl d x) is.1

  counted_low : (client : ℕ) (ds rest : List Deed) (clock : ℕ) → AreRepliesDue decl client (ds ++ rest)
      → IsCountedInLife decl client ds clock → clock ≤ (fold (account_at decl) (new_account client) ds).clock
  counted_low client ds rest clock is k =
      let c : IsCounted decl client ds clock = k.counted in
      let d : Account = fold (account_at decl) (new_account client) c.before in
      let whole : ds ++ rest ≡ c.before ++ Takes (inputs.Got c.envelope) ∷ (c.after ++ rest) =
      ap (λ (v : List Deed). v ++ rest) c.taken
      ∙ append_assoc c.before (Takes (inputs.Got c.envelope) ∷ c.after) rest in
      let behind : AreDeedsDue decl d (Takes (inputs.Got c.envelope) ∷ (c.after ++ rest)) =
      due_behind c.before (Takes (inputs.Got c.envelope) ∷ (c.after ++ rest)) (new_account client)
      (subst (AreDeedsDue decl (new_account client)) whole is) in
      let passed : clock ≤ (account_heard d c.envelope.message).clock =
      subst (λ (m : Message). clock ≤ (account_heard d m).clock) (sym c.answers_it)
      (counted_passes decl d c.number clock c.answer c.request c.counts c.tells) in
      let rises : (account_heard d c.envelope.message).clock ≤
      (fold (account_at decl) (account_heard d c.envelope.message) c.after).clock =
      steady_clocks c.after rest (account_heard d c.envelope.message) k.steady behind.1 in
      let all : fold (account_at decl) (new_account client) ds ≡ fold (account_at decl) d
      (Takes (inputs.Got c.envelope) ∷ c.after) =
      ap (fold (account_at decl) (new_account client)) c.taken
      ∙ fold-append (account_at decl) (new_account client) c.before (Takes (inputs.Got c.envelope) ∷ c.after) in
      subst (λ (e : Account). clock ≤ e.clock) (sym all) (omega arith)

module _ (fits : ℕ → List Record → Type 0) (decl : Declaration) (script : Script) (h : List Entry)
    (open_inputs : List Bool) (accepted : IsAccepted decl) (sound : IsScriptFor decl script)
    (run : RunsWithFalls (IsLawfulWithFalls decl) fits decl script h open_inputs) (kept : Kept h) where
  few : actors decl ≤ most_actors
  few = let s = accepted.sites in let c = accepted.clients in omega arith

  all_due : Due decl h
  all_due =
      runs_with_falls_are_due_where_records_are_kept decl script fits accepted
      (scripts_ask_what_is_declared decl script accepted sound) few h open_inputs run
      kept

  pub client_due : (a : ℕ) → is_client decl a ≡ true → AreRepliesDue decl (a - decl.sites) (deeds a [] h)
  client_due a client =
      let n : IsNumbered decl a = numbered decl a client in
      subst (λ (b : ℕ). AreRepliesDue decl (a - decl.sites) (deeds b [] h)) (sym n.is)
      (all_due.replies (a - decl.sites) n.low)

  pub stamps_pass_what_was_counted_in_their_lives : (c : CommitRecord) (r : IsRecorded decl h c) (clock : ℕ)
      → IsCountedInLife decl (r.actor - decl.sites) (deeds r.actor [] r.before) clock → clock < c.stamp.clock
  stamps_pass_what_was_counted_in_their_lives c r clock k =
      let whole : deeds r.actor [] h ≡ deeds r.actor [] r.before ++ deeds r.actor (mail r.before)
      (by r.actor r.steps ++ r.after) = ap (deeds r.actor []) r.stands
      ∙ deeds-append r.actor [] r.before (by r.actor r.steps ++ r.after) in
      let low : clock ≤ (fold (account_at decl) (new_account (r.actor - decl.sites)) (deeds r.actor [] r.before)).clock
      =
      counted_low decl (r.actor - decl.sites) (deeds r.actor [] r.before)
      (deeds r.actor (mail r.before) (by r.actor r.steps ++ r.after)) clock
      (subst (AreRepliesDue decl (r.actor - decl.sites)) whole (client_due r.actor r.client)) k in
      let next : c.stamp.clock ≡ (fold (account_at decl) (new_account (r.actor - decl.sites))
      (deeds r.actor [] r.before)).clock + 1 = r.stamp in
      omega arith

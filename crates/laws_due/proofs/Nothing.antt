-- Between two inputs nothing is due.
use Rattle.std.proofs.Common.{false, ◌≡◌, ℕ, nat_le, Bool, cond, length, Option, Some, None, refl, sym, ap, ◌∙◌, subst}
use Rattle.std.specs.Prelude.{option_and_then}
use Rattle.qc_decl.specs.declared.declaration.Declaration.{Declaration}
use Rattle.qc_decl.specs.Vocabulary.{append_need_of, most_transaction_operations, read_need_of}
use Rattle.qc_front.specs.Vocabulary.{AppendingHolds, FrontHolds, ReadingHolds, RecordsHold}
use Rattle.qc_client.specs.declared.client.Client.{Client}
use Rattle.qc_msg.specs.declared.reply.Reply.TheVariants as replies
use Rattle.qc_msg.specs.declared.step.Command.{Command}
use Rattle.qc_msg.specs.declared.step.Command.TheVariants as commands
use Rattle.qc_plan.specs.Vocabulary.{verdict}
use Rattle.qc_promise.specs.Vocabulary.{Account, Current, answer_row, append_row, is_append, is_read, read_row}
use Rattle.qc_promise.specs.Vocabulary.{round_of, row_of, running_row}
use Rattle.laws_due.specs.Vocabulary.{Appends, Holds, IsDo, NoneRuns, Reads, Ties, Votes, appends, calls_in, reads}
use Rattle.laws_due.specs.Vocabulary.{rests, votes}
use Rattle.laws_due.proofs.VotesCome.{votes_out}
use Rattle.laws_due.proofs.Halves.{waiting_verdict}

-- the row of a `do` that nothing refuses at once
pub do_row_is : (decl : Declaration) (d : Account) (t : Current) (object inv : ℕ) → IsDo d t object inv
    → running_row decl d false ≡ read_row decl d t object inv
    (verdict (round_of decl d t is_read (read_need_of decl t.epoch object inv)))
do_row_is decl d t object inv r =
    ap (λ (o : Option Command). option_and_then (row_of decl d false d.current) o) r.command
    ∙ ap (λ (o : Option Current). row_of decl d false o (commands.Do object inv)) r.current
    ∙ ap (λ (b : Bool). cond b (Some replies.Doomed)
    (cond (nat_le most_transaction_operations (length t.ops)) (Some replies.TooLong)
    (read_row decl d t object inv (verdict (round_of decl d t is_read (read_need_of decl t.epoch object inv))))))
    r.live
    ∙ ap (λ (b : Bool). cond b (Some replies.TooLong)
    (read_row decl d t object inv (verdict (round_of decl d t is_read (read_need_of decl t.epoch object inv)))))
    r.room

module _ (decl : Declaration) (d : Account) (c : Client) (h : Holds decl c) where
  -- nothing is due

  none_due : (o : Option Command) → NoneRuns o → (t : Option Current) → option_and_then (row_of decl d false t) o ≡ None
  none_due None is t = refl
  none_due (Some commands.Begin) is t = absurd is
  none_due (Some (commands.Do object inv)) is t = absurd is
  none_due (Some commands.Commit) is t = absurd is
  none_due (Some commands.Abort) is t = absurd is
  none_due (Some (commands.Epoch number)) is None = refl
  none_due (Some (commands.Epoch number)) is (Some t) = refl

  reads_none : Reads decl d c → running_row decl d false ≡ None
  reads_none r = do_row_is decl d r.t r.object r.inv r.runs
      ∙ ap (read_row decl d r.t r.object r.inv)
      (waiting_verdict (round_of decl d r.t is_read (read_need_of decl r.t.epoch r.object r.inv))
      held.1.awaits.open_still)
    where
      held : RecordsHold decl r.x.views r.x.own r.x.begun.ops
          × ReadingHolds decl d.client r.x r.object r.inv (calls_in d.requests)
          (round_of decl d r.t is_read (read_need_of decl r.t.epoch r.object r.inv))
      held = subst (FrontHolds decl) r.front h.front

  appends_none : Appends decl d c → running_row decl d false ≡ None
  appends_none r =
      do_row_is decl d r.t r.object r.inv r.runs ∙ ap (read_row decl d r.t r.object r.inv) r.met
      ∙ ap (answer_row decl d r.t r.object) r.chosen
      ∙ ap (append_row decl r.object r.event) (waiting_verdict
      (round_of decl d r.t is_append (append_need_of decl r.t.epoch r.object r.event)) held.1.awaits.open_still)
    where
      held : RecordsHold decl r.x.views r.x.own r.x.begun.ops
          × AppendingHolds decl d.client r.x r.object r.inv r.event (calls_in d.requests)
          (round_of decl d r.t is_append (append_need_of decl r.t.epoch r.object r.event))
      held = subst (FrontHolds decl) r.front h.front

  votes_none : Votes decl d c → running_row decl d false ≡ None
  votes_none r =
      subst (λ (e : Account). running_row decl e false ≡ None)
      (λ i. record d { command = sym r.command i; written = sym r.written i; current = sym r.current i })
      (votes_out decl 0 d r.t r.x.begun.asked r.x.views c.front.clock.value c.front.epoch c.desk.epoch c.desk.commits
      r.live r.begun.logs r.low r.known d.requests r.prepares r.waits)

  pub tied_none : Ties decl d c → running_row decl d false ≡ None
  tied_none (rests r) = none_due d.command r.command d.current
  tied_none (reads r) = reads_none r
  tied_none (appends r) = appends_none r
  tied_none (votes r) = votes_none r

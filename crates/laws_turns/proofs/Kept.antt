-- In each run of an accepted declaration whose script names declared objects, an unanswered request is at its site: a
-- copy of it is ready there, or it is the site's open input.
use Rattle.std.proofs.Common.{[], ◌≡◌, ℕ, ◌+◌, ◌==◌, Bool, true, false, if◌then◌else◌, List, ◌∷◌, ◌++◌, Option, Some}
use Rattle.std.proofs.Common.{None, refl, subst, eq-eqb}
use Rattle.std.specs.List.{fold}
use Rattle.std.proofs.lemmas.List.Sums.{fold-append}
use Rattle.qc_list.specs.Vocabulary.{In}
use Rattle.qc_msg.specs.declared.message.Answer.{Answer}
use Rattle.qc_msg.specs.declared.message.Message.TheVariants as messages
use Rattle.qc_msg.specs.declared.record.Record.{Record}
use Rattle.qc_msg.specs.declared.reply.Reply.{Reply}
use Rattle.qc_msg.specs.declared.step.Step.TheVariants as steps
use Rattle.qc_msg.specs.declared.turn.Posting.{Posting}
use Rattle.qc_msg.specs.declared.turn.Turn.{Turn}
use Rattle.qc_msg.specs.Vocabulary.{Entry, by, posted, sents, told, wrote}
use Rattle.qc_script.specs.declared.script.Script.{Script}
use Rattle.qc_script.specs.Vocabulary.{Inbox, empty_inbox, everybody, inbox, inbox_at, reply_told, request_numbers}
use Rattle.qc_script.proofs.AllUp.{wrote_up}
use Rattle.laws_turns.proofs.Answering.{answer_ends, others_fewer}

-- another's turn leaves no more unanswered, and a site's answer ends the wait

module _ (script : Script) (a b : ℕ) (other : (b == a) ≡ false) where
  abbrev step_on : Inbox → Entry → Inbox
  step_on i e = inbox_at script a i e.actor e.step

  told_fewer : (i : Inbox) (reply : Option Reply) (k : ℕ)
      → In k (request_numbers (fold step_on i (by b (told reply))).unanswered) → In k (request_numbers i.unanswered)
  told_fewer i None k member = member
  told_fewer i (Some reply) k member = on (b == a) member
    where
      on : (t : Bool) → In k (request_numbers (if t then reply_told i else i).unanswered)
          → In k (request_numbers i.unanswered)
      on true there = there
      on false there = there

  sents_fewer : (i : Inbox) (n : ℕ) (ps : List Posting) (reply : Option Reply) (k : ℕ)
      → In k (request_numbers (fold step_on i (by b (sents n ps ++ told reply))).unanswered)
      → In k (request_numbers i.unanswered)
  sents_fewer i n [] reply k member = told_fewer i reply k member
  sents_fewer i n (p ∷ ps) reply k member =
      others_fewer script a i (record { number = n; from = b; to = p.to; message = p.message }) other k
      (sents_fewer (inbox_at script a i b (steps.Sent n p.to p.message)) (n + 1) ps reply k member)

  -- a turn whose first message answers the request
  pub turn_ends : (h : List Entry) (n : ℕ) (turn : Turn) (k : ℕ) (x : Answer) (rest : List Posting)
      → turn.sends ≡ record { to = a; message = messages.Answer k x } ∷ rest → (inbox script a h).up ≡ everybody
      → In k (request_numbers (inbox script a (h ++ by b (posted n turn))).unanswered) → ⊥
  turn_ends h n turn k x rest is up member =
      on turn.write turn.sends is
      (subst (λ (i : Inbox). In k (request_numbers i.unanswered))
      (fold-append step_on empty_inbox h (by b (posted n turn))) member)
    where
      first : In k
          (request_numbers (fold step_on (inbox script a h)
          (by b (sents n (record { to = a; message = messages.Answer k x } ∷ rest) ++ told turn.told))).unanswered)
          → ⊥
      first there =
          answer_ends script a (inbox script a h)
          (record { number = n; from = b; to = a; message = messages.Answer k x }) k x refl (eq-eqb a a refl) other
          (sents_fewer (inbox_at script a (inbox script a h) b (steps.Sent n a (messages.Answer k x))) (n + 1) rest
          turn.told k there)

      on : (w : Option Record) (ps : List Posting) → ps ≡ record { to = a; message = messages.Answer k x } ∷ rest
          → In k
          (request_numbers
          (fold step_on (inbox script a h) (by b (wrote w ++ (sents n ps ++ told turn.told)))).unanswered) → ⊥
      on None ps same there =
          first (subst (λ (qs : List Posting). In k
          (request_numbers (fold step_on (inbox script a h) (by b (sents n qs ++ told turn.told))).unanswered)) same
          there)
      on (Some written) ps same there =
          first
          (subst (λ (qs : List Posting). In k
          (request_numbers (fold step_on (inbox script a h) (by b (sents n qs ++ told turn.told))).unanswered)) same
          (subst (λ (i : Inbox). In k
          (request_numbers (fold step_on i (by b (sents n ps ++ told turn.told))).unanswered))
          (wrote_up a (inbox script a h) b up) there))

-- A transaction that isn't begun stays so over deeds that are right for it and don't begin it.
use Rattle.std.proofs.Common.{◌≡◌, ℕ, ◌+◌, Bool, true, false, cond, List, [], ◌∷◌, ◌++◌, fold, Option, Some, None, refl}
use Rattle.std.proofs.Common.{ap, ◌∙◌}
use Rattle.std.specs.Option.{option_map_or}
use Rattle.qc_msg.specs.declared.message.Message.{Message}
use Rattle.qc_msg.specs.declared.message.Outcome.{Outcome}
use Rattle.qc_msg.specs.declared.message.Outcome.TheVariants as outcomes
use Rattle.qc_msg.specs.declared.record.Record.{Record}
use Rattle.qc_msg.specs.declared.reply.Reply.{Reply}
use Rattle.qc_msg.specs.declared.reply.Reply.TheVariants as replies
use Rattle.qc_msg.specs.declared.turn.Posting.{Posting}
use Rattle.qc_msg.specs.declared.turn.Turn.{Turn}
use Rattle.qc_msg.specs.Vocabulary.{Decided, commit_of, decision_in, sends_of, tells_of, turn_deeds, writes_of}
use Rattle.qc_promise.specs.Vocabulary.{AreRightFrom, Begun, Committed, IsRightRecord, Status, Unborn, status_at}
use Rattle.qc_promise.specs.Vocabulary.{status_sent, status_told, status_written}
use Rattle.qc_promise.specs.Status.{status_decided}
use Rattle.qc_entry.specs.declared.record.Commit.{Commit}
use Rattle.laws_turns.proofs.ReadingCases.{mapped, mapped_by}
use Rattle.laws_turns.proofs.ReplyCases.{reply_cases}
use Rattle.qc_stamp.specs.declared.stamp.TxId.{TxId}
use Rattle.qc_stamp.specs.Vocabulary.{same_tx}

module _ (tx : TxId) where
  either : (t : Bool) (s : Status) → (t ≡ true → ⊥) → cond t s Unborn ≡ Unborn
  either true s bars = absurd (bars refl)
  either false s bars = refl

  same_both : (t : Bool) → cond t Unborn Unborn ≡ Unborn
  same_both true = refl
  same_both false = refl

  never : Unborn ≡ Begun → ⊥
  never is = let no : ⊥ = cc in no

  written : (w : Record) → IsRightRecord tx Unborn w → status_written tx Unborn w ≡ Unborn
  written w right =
      mapped_by (λ (s : Status). s ≡ Unborn) (λ (c : Commit). cond (same_tx c.tx tx) (Committed c.stamp) Unborn) Unborn
      (Unit {0}) (λ (c : Commit). same_tx c.tx tx ≡ true → Unborn ≡ Begun) (commit_of w)
      (λ c right. either (same_tx c.tx tx) (Committed c.stamp) (λ same. never (right same))) (λ none. refl) right

  decided : (other : TxId) (verdict : Outcome) → status_decided tx Unborn other verdict ≡ Unborn
  decided other (outcomes.Committed stamp) = refl
  decided other outcomes.Aborted = same_both (same_tx other tx)
  decided other outcomes.Active = refl

  sent : (m : Message) → status_sent tx Unborn m ≡ Unborn
  sent m =
      mapped (λ (s : Status). s ≡ Unborn) (λ (v : Decided). status_decided tx Unborn v.tx v.verdict) Unborn
      (decision_in m) (λ v. decided v.tx v.verdict) refl

  abbrev BeginsNot : Reply → Type 0
  BeginsNot r = (x : TxId) → r ≡ replies.Began x → same_tx x tx ≡ true → ⊥

  told : (r : Reply) → BeginsNot r → status_told tx Unborn r ≡ Unborn
  told r bars =
      reply_cases
      (λ r began already gone. BeginsNot r
      → option_map_or (λ (other : TxId). cond (same_tx other tx) Begun Unborn) began (cond gone Unborn Unborn) ≡ Unborn)
      (λ other bars. either (same_tx other tx) Begun (bars other refl)) (λ other bars. refl) (λ why bars. refl)
      (λ bars. refl) (λ r bars. refl) r bars

  talks : (n : ℕ) (ps : List Posting) (o : Option Reply)
      → ((x : TxId) → o ≡ Some (replies.Began x) → same_tx x tx ≡ true → ⊥)
      → fold (status_at tx) Unborn (sends_of n ps ++ tells_of o) ≡ Unborn
  talks n [] None bars = refl
  talks n [] (Some r) bars = told r (λ x is. bars x (ap (λ (v : Reply). Some v) is))
  talks n (p ∷ ps) o bars = ap (λ (s : Status). fold (status_at tx) s (sends_of (n + 1) ps ++ tells_of o))
      (sent p.message) ∙ talks (n + 1) ps o bars

  pub turn_unborn : (n : ℕ) (turn : Turn) → AreRightFrom tx Unborn (turn_deeds n turn)
      → ((x : TxId) → turn.told ≡ Some (replies.Began x) → same_tx x tx ≡ true → ⊥)
      → fold (status_at tx) Unborn (turn_deeds n turn) ≡ Unborn
  turn_unborn n turn right bars = by turn.write right where
    by : (w : Option Record) → AreRightFrom tx Unborn (writes_of w ++ (sends_of n turn.sends ++ tells_of turn.told))
        → fold (status_at tx) Unborn (writes_of w ++ (sends_of n turn.sends ++ tells_of turn.told)) ≡ Unborn
    by None right = talks n turn.sends turn.told bars
    by (Some w) right = ap (λ (s : Status). fold (status_at tx) s (sends_of n turn.sends ++ tells_of turn.told))
        (written w right.0) ∙ talks n turn.sends turn.told bars

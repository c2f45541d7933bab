-- So the account of a client's deeds has grounds in them, and an open request of it stays one or is sent anew.
use Rattle.std.proofs.Common.{[], ◌≡◌, ◌⊎◌, ◌≤◌, ◌+◌, ℕ, ◌==◌, ◌&&◌, List, ◌∷◌, ◌++◌, inl, inr, Option, Some, None, sym}
use Rattle.std.proofs.Common.{ap, ◌∙◌, subst, arith}
use Rattle.std.specs.Prelude.{fold, is_none}
use Rattle.std.specs.List.{find}
use Rattle.qc_list.specs.Vocabulary.{In}
use Rattle.qc_list.proofs.Members.{In-more}
use Rattle.qc_decl.specs.declared.declaration.Declaration.{Declaration}
use Rattle.qc_msg.specs.declared.message.Answer.{Answer}
use Rattle.qc_msg.specs.declared.message.Message.{Message}
use Rattle.qc_msg.specs.declared.message.Want.{Want}
use Rattle.qc_msg.specs.declared.record.Record.{Record}
use Rattle.qc_msg.specs.declared.reply.Reply.{Reply}
use Rattle.qc_msg.specs.declared.step.Input.{Input}
use Rattle.qc_msg.specs.declared.step.Input.TheVariants as inputs
use Rattle.qc_msg.specs.declared.turn.Posting.{Posting}
use Rattle.qc_msg.specs.declared.turn.Turn.{Turn}
use Rattle.qc_msg.specs.Vocabulary.{sends_of, tells_of, turn_deeds, writes_of}
use Rattle.qc_promise.specs.Vocabulary.{Account, ClientRequest, account_at, account_heard, account_sent, account_taken}
use Rattle.qc_promise.specs.Vocabulary.{account_written, counted, counted_for, taken_for}
use Rattle.laws_guarantees.proofs.Accounts.{after_taken, told_requests}
use Rattle.laws_guarantees.proofs.AccountCases.{heard_cases, sent_cases}
use Rattle.laws_due.proofs.AccountCases.{written_cases}

module _ (decl : Declaration) where
  abbrev more_requests : Account → ℕ → ℕ → ℕ → Want → Account
  more_requests d n to life want =
      record d
      { requests = d.requests ++ record { number = n; site = to; life = life; want = want; taken = None } ∷ [] }

  -- open requests

  counted_open : (d : Account) (n : ℕ) (answer : Option Answer) (q : ClientRequest) → q.taken ≡ None
      → In q (counted d n answer).requests → In q d.requests
  counted_open d n answer q untaken among =
      by (find (λ (p : ClientRequest). (p.number == n) && is_none p.taken) d.requests) among
    where
      by : (o : Option ClientRequest) → In q (counted_for d n answer o).requests → In q d.requests
      by None there = there
      by (Some p) there =
          elim (after_taken n answer q d.requests
          (subst (In q) (told_requests (record d { requests = taken_for n answer d.requests }) p answer).0 there)) [
            | inl old ↦ old
            | inr now ↦
                absurd (let some : None ≡ Some answer = sym untaken ∙ ap (λ (y : ClientRequest). y.taken) now.is in
                let never : ⊥ = cc in never)
          ]

  heard_open : (d : Account) (m : Message) (q : ClientRequest) → q.taken ≡ None → In q (account_heard d m).requests
      → In q d.requests
  heard_open d m q untaken among = heard_cases d (λ m e. In q e.requests → In q d.requests) (λ m among. among)
      (λ to answer among. counted_open d to (Some answer) q untaken among) m among

  -- one that is open after an input was before it
  pub open_before : (d : Account) (g : Input) (q : ClientRequest) → q.taken ≡ None → In q (account_taken d g).requests
      → In q d.requests
  open_before d (inputs.Called command) q untaken among = absurd among
  open_before d (inputs.Got e) q untaken among = heard_open d e.message q untaken among
  open_before d (inputs.Lost n) q untaken among = counted_open d n None q untaken among

  written_same : (d : Account) (w : Record) (q : ClientRequest) → In q (account_written d w).requests → In q d.requests
  written_same d w q among = written_cases d (λ e. In q e.requests → In q d.requests) (λ among. among)
      (λ among. among) (λ commit among. among) w among

  sent_same : (d : Account) (n to : ℕ) (m : Message) (q : ClientRequest) → In q (account_sent decl d n to m).requests
      → In q d.requests ⊎ ((q.number ≡ n) × (q.taken ≡ None))
  sent_same d n to m q among = sent_cases decl d n to
      (λ m e. In q e.requests → In q d.requests ⊎ ((q.number ≡ n) × (q.taken ≡ None))) (λ m among. inl among)
      (λ tx epoch life want is among.
      elim (In-more q (record { number = n; site = to; life = life; want = want; taken = None }) d.requests among) [
        | inl old ↦ inl old
        | inr new ↦ inr (ap (λ (y : ClientRequest). y.number) new, ap (λ (y : ClientRequest). y.taken) new)
      ]) m among

  told_none : (d : Account) (reply : Option Reply) (q : ClientRequest)
      → In q (fold (account_at decl) d (tells_of reply)).requests → In q d.requests
  told_none d None q among = among
  told_none d (Some reply) q among = absurd among

  abbrev IsOldOrNew : Account → ℕ → ClientRequest → Type 0
  IsOldOrNew d n q = In q d.requests ⊎ ((n ≤ q.number) × (q.taken ≡ None))

  sends_old : (d : Account) (n : ℕ) (ps : List Posting) (reply : Option Reply) (q : ClientRequest)
      → In q (fold (account_at decl) d (sends_of n ps ++ tells_of reply)).requests → IsOldOrNew d n q
  sends_old d n [] reply q among = inl (told_none d reply q among)
  sends_old d n (p ∷ ps) reply q among =
      elim (sends_old (account_sent decl d n p.to p.message) (n + 1) ps reply q among) [
        | inl old ↦
            elim (sent_same d n p.to p.message q old)
            [ inl there ↦ inl there | inr new ↦ (let e : q.number ≡ n = new.0 in inr (omega arith, new.1)) ]
        | inr new ↦ (let l : n + 1 ≤ q.number = new.0 in inr (omega arith, new.1))
      ]

  -- one after a turn was before it, or the turn sent it
  pub turn_old : (d : Account) (n : ℕ) (turn : Turn) (q : ClientRequest)
      → In q (fold (account_at decl) d (turn_deeds n turn)).requests → IsOldOrNew d n q
  turn_old d n turn q among = by turn.write among
    where
      by : (w : Option Record)
          → In q (fold (account_at decl) d (writes_of w ++ (sends_of n turn.sends ++ tells_of turn.told))).requests
          → IsOldOrNew d n q
      by None there = sends_old d n turn.sends turn.told q there
      by (Some w) there =
          elim (sends_old (account_written d w) n turn.sends turn.told q there)
          [ inl old ↦ inl (written_same d w q old) | inr new ↦ inr new ]

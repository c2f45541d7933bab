-- The machine has executed at most as many operations of a transaction that a client runs as a transaction may have.
use Rattle.std.proofs.Common.{◌≡◌, ◌⊎◌, ◌≤◌, ◌<◌, ◌+◌, ◌-◌, ℕ, Bool, true, false, List, inl, inr, length, map, Option}
use Rattle.std.proofs.Common.{Some, None, refl, sym, ap, ◌∙◌, subst, arith}
use Rattle.std.proofs.lemmas.List.{length-map}
use Rattle.qc_client.specs.Vocabulary.{is_begun}
use Rattle.qc_client.specs.declared.client.Client.{Client}
use Rattle.qc_commit.specs.Vocabulary.{record_of}
use Rattle.qc_core.specs.Vocabulary.{IsLawfulWithFalls}
use Rattle.qc_decl.specs.Vocabulary.{IsAccepted, is_client}
use Rattle.qc_decl.specs.declared.declaration.Declaration.{Declaration}
use Rattle.qc_entry.specs.declared.record.Commit.{Commit as CommitRecord}
use Rattle.qc_entry.specs.declared.line.Op.{Op}
use Rattle.qc_front.specs.Vocabulary.{BegunHolds, DoingHolds}
use Rattle.qc_front.specs.declared.doing.Doing.{Doing}
use Rattle.qc_front.specs.declared.doing.Doing.TheVariants.{Idle, Reading, Appending}
use Rattle.qc_front.specs.declared.transaction.Transaction.{Transaction}
use Rattle.laws_votes.proofs.Nets.{net, now, reached, refined}
use Rattle.qc_msg.specs.Vocabulary.{Entry}
use Rattle.qc_msg.specs.declared.record.Record.{Record}
use Rattle.laws_refinement.proofs.ClientRecords.{find_some}
use Rattle.laws_refinement.proofs.Standing.{front_ends_stand}
use Rattle.laws_refinement.specs.Vocabulary.{BegunMirrors, ClientMirrors, FrontStands}
use Rattle.laws_guarantees.proofs.Live.{not_aborted}
use Rattle.laws_votes.proofs.Live.{client_named, is_up_now, live}
use Rattle.qc_promise.specs.Vocabulary.{Current, Kept, account}
use Rattle.theory_machine.specs.Vocabulary.{Active, Committed, NotBegun, State, Status, Voting, op_of}
use Rattle.qc_script.specs.Vocabulary.{IsScriptFor, RunsWithFalls}
use Rattle.qc_script.specs.declared.script.Script.{Script}
use Rattle.qc_stamp.proofs.Orders.{same_tx_is}
use Rattle.qc_stamp.specs.declared.stamp.TxId.{TxId}

-- a live transaction is begun, and hasn't committed

begun_then : (s : Status) → (s ≡ Active) ⊎ (s ≡ Voting) → s ≡ NotBegun → ⊥
begun_then s (inl a) e = let same : Active ≡ NotBegun = sym a ∙ e in let never : ⊥ = cc in never
begun_then s (inr v) e = let same : Voting ≡ NotBegun = sym v ∙ e in let never : ⊥ = cc in never

not_committed : (s : Status) (r : CommitRecord) → (s ≡ Active) ⊎ (s ≡ Voting) → s ≡ Committed r → ⊥
not_committed s r (inl a) e = let same : Active ≡ Committed r = sym a ∙ e in let never : ⊥ = cc in never
not_committed s r (inr v) e = let same : Voting ≡ Committed r = sym v ∙ e in let never : ⊥ = cc in never

-- whatever runs of it, it has at most 16 operations
room : (decl : Declaration) (client : ℕ) (t : Transaction) (doing : Doing) → DoingHolds decl client t doing
    → length t.begun.ops ≤ 16
room decl client t Idle few = few
room decl client t (Reading object inv calls round) k = let r : length t.begun.ops < 16 = k.room in omega arith
room decl client t (Appending object inv event calls round) k = let r : length t.begun.ops < 16 = k.room in omega arith

module _ (fits : ℕ → List Record → Type 0) (decl : Declaration) (script : Script) (h : List Entry)
    (open_inputs : List Bool) (accepted : IsAccepted decl) (sound : IsScriptFor decl script)
    (run : RunsWithFalls (IsLawfulWithFalls decl) fits decl script h open_inputs) (kept : Kept h) (a : ℕ)
    (client : is_client decl a ≡ true) (t : Current) (begun : (account decl a h).current ≡ Some t) where
  abbrev c : Client
  c = (net fits decl script h open_inputs accepted sound run kept).clients a

  abbrev then : State
  then = now fits decl script h open_inputs accepted sound run kept

  running : (then.status t.tx ≡ Active) ⊎ (then.status t.tx ≡ Voting)
  running = (live fits decl script h open_inputs accepted sound run kept a client t begun).active

  m : ClientMirrors decl then (net fits decl script h open_inputs accepted sound run kept).mail a c
  m = (refined fits decl script h open_inputs accepted sound run kept).agrees.clients a client
      ((reached fits decl script h open_inputs accepted sound run kept).up_is a (inr (inl client))
      ∙ is_up_now fits decl script h open_inputs accepted sound run kept a client t begun)

  clients_own : t.tx.client ≡ c.front.client
  clients_own =
      let own : t.tx.client ≡ a - decl.sites =
      client_named fits decl script h open_inputs accepted sound run kept a client t begun in
      let actor : a ≡ decl.sites + c.front.client = m.own.actor in
      omega arith

  no_record : record_of c.desk.commits t.tx ≡ None
  no_record = elim (find_some c.desk.commits t.tx (record_of c.desk.commits t.tx) refl) [
    | inl none ↦ none
    | inr found ↦ absurd (not_committed (then.status t.tx) found.0 running
        (ap then.status (sym found.2) ∙ (m.own.committed found.0 found.1).1))
  ]

  -- it is the one that the client's front end has begun
  its : is_begun t.tx c.front.transaction ≡ true
  its = by (is_begun t.tx c.front.transaction) refl
    where
      by : (b : Bool) → is_begun t.tx c.front.transaction ≡ b → b ≡ true
      by true is = refl
      by false is = absurd (not_aborted (then.status t.tx) running
          (m.own.aborted t.tx clients_own (begun_then (then.status t.tx) running) is no_record))

  pub few_executed : length (then.executed t.tx) ≤ 16
  few_executed = by c.front.transaction refl its m.begun
    where
      by : (o : Option Transaction) → c.front.transaction ≡ o → is_begun t.tx o ≡ true
          → BegunMirrors decl then (net fits decl script h open_inputs accepted sound run kept).mail c o
          → length (then.executed t.tx) ≤ 16
      by None is same b = absurd (let never : ⊥ = cc in never)
      by (Some x) is same b =
          let s : FrontStands decl (net fits decl script h open_inputs accepted sound run kept) a =
          front_ends_stand decl (net fits decl script h open_inputs accepted sound run kept)
          (reached fits decl script h open_inputs accepted sound run kept).reached a in
          let k : BegunHolds decl c.front.client (Some x) c.front.doing =
          subst (λ (o : Option Transaction). BegunHolds decl c.front.client o c.front.doing) is s.holds in
          let few : length x.begun.ops ≤ 16 = room decl c.front.client x c.front.doing k.1 in
          let named : x.begun.tx ≡ t.tx = same_tx_is x.begun.tx t.tx same in
          let ops : x.begun.ops ≡ map op_of (then.executed x.begun.tx) = b.0.ops in
          let count : length x.begun.ops ≡ length (then.executed t.tx) = ap (λ (v : List Op). length v) ops
          ∙ length-map (then.executed x.begun.tx) op_of ∙ ap (λ (u : TxId). length (then.executed u)) named in
          omega arith

-- Of a client that has begun a transaction, with an open input or without: the machine's transaction is live, has the
-- same operations, and what its counted grants showed stands in the account's view; the account's clock has passed the
-- machine's.
use Rattle.std.proofs.Common.{◌≡◌, ◌⊎◌, ◌≤◌, ℕ, Bool, true, false, List, [], inl, inr, map, Option, Some, None}
use Rattle.std.proofs.Common.{slice_get, refl, sym, ap, ◌∙◌, subst, arith}
use Rattle.qc_stamp.specs.declared.stamp.Stamp.{Stamp}
use Rattle.qc_stamp.specs.declared.stamp.TxId.{TxId}
use Rattle.qc_list.specs.Vocabulary.{In}
use Rattle.qc_entry.specs.declared.line.Line.{Line}
use Rattle.qc_core.specs.Vocabulary.{IsLawful}
use Rattle.qc_decl.specs.declared.declaration.Declaration.{Declaration}
use Rattle.qc_decl.specs.Vocabulary.{IsAccepted, is_client}
use Rattle.qc_msg.specs.Vocabulary.{Entry, deeds}
use Rattle.qc_commit.specs.declared.desk.Voting.{Voting}
use Rattle.qc_front.specs.declared.transaction.Transaction.{Transaction}
use Rattle.qc_promise.specs.Vocabulary.{Account, Current, account, account_taken, view_of}
use Rattle.laws_due.specs.Vocabulary.{Ties}
use Rattle.laws_due.proofs.Courses.{accounts_are_their_clients}
use Rattle.laws_turns.proofs.Acted.{actors_take_and_post_by_turns}
use Rattle.laws_turns.specs.Vocabulary.{ActsIn}
use Rattle.theory_machine.specs.Vocabulary.{Aborted, Active, IsOutcome, IsShown, State, Status, op_of, state}
use Rattle.theory_machine.specs.State as machine
use Rattle.qc_script.specs.Vocabulary.{IsScriptFor, Runs}
use Rattle.qc_script.specs.declared.script.Script.{Script}
use Rattle.laws_refinement.specs.Vocabulary.{BegunMirrors, ClientMirrors, Refines, RunningMirrors, TransactionMirrors}
use Rattle.laws_refinement.specs.Vocabulary.{status_by}
use Rattle.laws_refinement.proofs.Refining.{nets_refine}
use Rattle.laws_atomic.proofs.Calm.{all_up, is_reached}
use Rattle.laws_guarantees.proofs.ClockLaw.{take_clock}
use Rattle.laws_guarantees.proofs.FirstGrants.{same_lives}
use Rattle.laws_guarantees.proofs.Begun.{IsKept, WasBegun, logged, taken_kept, tied_kept}
use Rattle.laws_atomic.proofs.Stood.{OpenClient, Stood}
use Rattle.laws_atomic.proofs.RunsStand.{runs_stand}

pub record Live (now : State) (t : Current) (clock : ℕ) : Type 0 where
  pub active : (now.status t.tx ≡ Active) ⊎ (now.status t.tx ≡ machine.Voting)
  pub ops : t.ops ≡ map op_of (now.executed t.tx)
  pub view : (l : Line) → IsShown now.counted t.tx l → In l (view_of t l.object)
  pub passed : now.clock t.tx.client ≤ clock

-- a live transaction has neither aborted nor an outcome

pub not_aborted : (s : Status) → (s ≡ Active) ⊎ (s ≡ machine.Voting) → s ≡ Aborted → ⊥
not_aborted s (inl a) e = let same : Active ≡ Aborted = sym a ∙ e in let never : ⊥ = cc in never
not_aborted s (inr v) e = let same : machine.Voting ≡ Aborted = sym v ∙ e in let never : ⊥ = cc in never

pub no_outcome : (s : Status) → (s ≡ Active) ⊎ (s ≡ machine.Voting) → (o : Option Stamp) → IsOutcome s o → ⊥
no_outcome s (inl a) (Some stamp) o = subst (λ (x : Status). IsOutcome x (Some stamp)) a o
no_outcome s (inl a) None o = subst (λ (x : Status). IsOutcome x None) a o
no_outcome s (inr v) (Some stamp) o = subst (λ (x : Status). IsOutcome x (Some stamp)) v o
no_outcome s (inr v) None o = subst (λ (x : Status). IsOutcome x None) v o

pub status_cases : (o : Option Voting) (s : Status) → s ≡ status_by o → (s ≡ Active) ⊎ (s ≡ machine.Voting)
status_cases None s is = inl is
status_cases (Some v) s is = inr is

module _ (decl : Declaration) (script : Script) (accepted : IsAccepted decl) (sound : IsScriptFor decl script)
    (h : List Entry) (open_inputs : List Bool) (run : Runs (IsLawful decl) decl script h open_inputs) where
  pub stood : Stood decl h open_inputs
  stood = runs_stand decl script accepted sound h open_inputs run

  abbrev pub mirror : Refines decl stood.net
  mirror = nets_refine decl accepted stood.net (is_reached decl stood.net stood.calm)

  -- the client is tied to its account, now or before its open input
  record IsTiedTo (a : ℕ) (t : Current) : Type 0 where
    pub was : Account
    pub tied : Ties decl was (stood.net.clients a)
    pub begun : WasBegun was.current t
    pub rises : was.clock ≤ (account decl a h).clock

  tied_to : (a : ℕ) → is_client decl a ≡ true → (b : Bool) → slice_get open_inputs a ≡ Some b → (t : Current)
      → (account decl a h).current ≡ Some t → IsTiedTo a t
  tied_to a client true slot t is =
      let o : OpenClient decl (stood.net.clients a) a h = (stood.clients_are a client).opened slot in
      record {
        was = o.was;
        tied = o.tied;
        begun = taken_kept o.was o.given t (subst (λ (d : Account). d.current ≡ Some t) o.now_is is);
        rises = (
            let rises : o.was.clock ≤ (account_taken o.was o.given).clock = take_clock decl o.was o.given in
            let now : (account decl a h).clock ≡ (account_taken o.was o.given).clock =
            ap (λ (d : Account). d.clock) o.now_is in
            omega arith
            );
      }
  tied_to a client false slot t is =
      let acts : ActsIn decl a h false = actors_take_and_post_by_turns decl script h open_inputs run a false slot in
      record {
        was = account decl a h;
        tied = subst (Ties decl (account decl a h)) (sym ((stood.clients_are a client).closed slot))
            (accounts_are_their_clients decl a client (deeds a [] h) acts.above acts.acts);
        begun = record {
          old = t;
          was = is;
          tx = refl;
          epoch = refl;
          ops = refl;
          view = λ object l among. among;
          lives = same_lives t.lives;
        };
        rises = omega arith;
      }

  module _ (a : ℕ) (client : is_client decl a ≡ true) (slot : (b : Bool) × (slice_get open_inputs a ≡ Some b))
      (t : Current) (begun : (account decl a h).current ≡ Some t) where
    o : IsTiedTo a t
    o = tied_to a client slot.0 slot.1 t begun

    abbrev w : WasBegun o.was.current t
    w = o.begun

    k : IsKept o.was (stood.net.clients a) w.old
    k = tied_kept decl o.was (stood.net.clients a) w.old o.tied w.was

    m : ClientMirrors decl (state mirror.acts) stood.net.mail a (stood.net.clients a)
    m = mirror.agrees.clients a client (all_up decl stood.net stood.calm a)

    b : TransactionMirrors (state mirror.acts) (stood.net.clients a).front k.x
        × RunningMirrors decl (state mirror.acts) stood.net.mail (stood.net.clients a) k.x
    b = subst (BegunMirrors decl (state mirror.acts) stood.net.mail (stood.net.clients a)) k.transaction m.begun

    named : k.x.begun.tx ≡ t.tx
    named = ap (λ (y : Transaction). y.begun.tx) k.begun.is ∙ sym w.tx

    listed : t.ops ≡ k.x.begun.ops
    listed = w.ops ∙ sym (ap (λ (y : Transaction). y.begun.ops) k.begun.is)

    viewed : (l : Line) → IsShown (state mirror.acts).counted t.tx l → In l (view_of t l.object)
    viewed l shown = w.view l.object l (logged w.old k.x k.begun l.object l
        (b.0.whole l (subst (λ (x : TxId). IsShown (state mirror.acts).counted x l) (sym named) shown)))

    client_is : t.tx.client ≡ (stood.net.clients a).front.client
    client_is = ap (λ (x : TxId). x.client) (sym named ∙ b.0.named)

    passed : (state mirror.acts).clock t.tx.client ≤ (account decl a h).clock
    passed =
        let low : (state mirror.acts).clock (stood.net.clients a).front.client ≤
        (stood.net.clients a).front.clock.value = m.own.clock in
        let own : (state mirror.acts).clock t.tx.client ≡ (state mirror.acts).clock (stood.net.clients a).front.client =
        ap (state mirror.acts).clock client_is in
        let mid : (stood.net.clients a).front.clock.value ≤ o.was.clock = k.clock in
        let rises : o.was.clock ≤ (account decl a h).clock = o.rises in
        omega arith

    pub live : Live (state mirror.acts) t (account decl a h).clock
    live = record {
      active = subst (λ (x : TxId). ((state mirror.acts).status x ≡ Active)
          ⊎ ((state mirror.acts).status x ≡ machine.Voting)) named
          (status_cases (stood.net.clients a).desk.voting ((state mirror.acts).status k.x.begun.tx) b.1.status_is);
      ops = listed ∙ subst (λ (x : TxId). k.x.begun.ops ≡ map op_of ((state mirror.acts).executed x)) named b.0.ops;
      view = viewed;
      passed = passed;
    }

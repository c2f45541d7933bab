-- What a front end sends, and the name of its transaction after a move.
use Rattle.std.proofs.Common.{[], ◌≡◌, ℕ, ◌+◌, ◌≤◌, ◌⊎◌, List, ◌∷◌, ◌++◌, map, Option, Some, None, option_map, inl, inr}
use Rattle.std.proofs.Common.{refl, sym, ap, subst, arith}
use Rattle.std.specs.List.{AllByRecursion as Every, slice_get}
use Rattle.qc_plan.specs.Vocabulary.{verdict, wanted}
use Rattle.qc_stamp.specs.declared.stamp.TxId.{TxId}
use Rattle.qc_view.specs.declared.view.View.{View}
use Rattle.qc_view.specs.Vocabulary.{with_log, with_own}
use Rattle.qc_entry.specs.declared.line.Line.{Line}
use Rattle.qc_msg.specs.declared.begun.Begun.{Begun}
use Rattle.qc_msg.specs.declared.message.Answer.{Answer}
use Rattle.qc_msg.specs.declared.message.Answer.TheVariants as answers
use Rattle.qc_msg.specs.declared.message.Message.{Message}
use Rattle.qc_msg.specs.declared.message.Message.TheVariants as messages
use Rattle.qc_msg.specs.declared.message.Outcome.{Outcome}
use Rattle.qc_msg.specs.declared.message.Outcome.TheVariants as outcomes
use Rattle.qc_msg.specs.declared.message.Want.{Want}
use Rattle.qc_msg.specs.declared.message.Want.TheVariants.{Read, Append, Prepare}
use Rattle.qc_msg.specs.declared.reply.Reply.{Reply}
use Rattle.qc_msg.specs.declared.turn.Posting.{Posting}
use Rattle.qc_msg.specs.declared.turn.Turn.{Turn}
use Rattle.qc_front.specs.declared.doing.Doing.{Doing}
use Rattle.qc_front.specs.declared.doing.Doing.TheVariants.{Idle}
use Rattle.qc_front.specs.declared.front.Front.{Front}
use Rattle.qc_front.specs.declared.transaction.Transaction.{Transaction}
use Rattle.qc_front.specs.Vocabulary.{FrontMove, appended_with, gives_up, learns, lived, moved, next_own, next_tx}
use Rattle.qc_front.specs.Vocabulary.{read_with, request_of, turned, with_event, with_granted}
use Rattle.qc_client.specs.Vocabulary.{name_of}
use Rattle.qc_front.proofs.CommandsKeep.{view_keeps}

-- what a front end sends: requests of its rounds, or that the transaction that was begun aborted, which has ended

abbrev pub IsVerdict : Front → Front → TxId → Outcome → Type 0
IsVerdict front next tx (outcomes.Committed stamp) = ⊥
IsVerdict front next tx outcomes.Aborted = (name_of front.transaction ≡ Some tx) × (next.transaction ≡ None)
IsVerdict front next tx outcomes.Active = ⊥

abbrev pub IsWanted : Want → Type 0
IsWanted (Read read) = Unit {0}
IsWanted (Append object view own) = Unit {0}
IsWanted Prepare = ⊥

abbrev pub IsSending : Front → Front → Message → Type 0
IsSending front next (messages.Request tx epoch life want) = IsWanted want
IsSending front next (messages.Answer to answer) = ⊥
IsSending front next (messages.Decision tx verdict) = IsVerdict front next tx verdict
IsSending front next (messages.Inquiry tx) = ⊥
IsSending front next (messages.Ask tx) = ⊥
IsSending front next (messages.Close epoch) = ⊥
IsSending front next (messages.Install start) = ⊥

-- the transaction has ended, or has the name that it had, or the next one
abbrev pub IsNamed : Front → Front → Type 0
IsNamed front next =
    (name_of next.transaction ≡ None)
    ⊎ ((name_of next.transaction ≡ name_of front.transaction)
    ⊎ ((name_of next.transaction ≡ Some (next_tx front)) × (next.count ≡ front.count + 1)))

pub record IsFrontMove (front : Front) (m : FrontMove) : Type 0 where
  pub client : m.front.client ≡ front.client
  pub life : m.front.life ≡ front.life
  pub count : front.count ≤ m.front.count
  pub named : IsNamed front m.front
  pub sends : Every (λ (p : Posting). IsSending front m.front p.message) m.turn.sends

-- a front end with the same numbers and the same transaction
pub record IsSame (front next : Front) : Type 0 where
  pub client : next.client ≡ front.client
  pub life : next.life ≡ front.life
  pub count : next.count ≡ front.count

pub itself : (front : Front) → IsSame front front
itself front = record { client = refl; life = refl; count = refl }

-- nothing is done, or something is told
pub stands : (front : Front) (turn : Turn) → turn.sends ≡ [] → IsFrontMove front (moved front turn)
stands front turn none = record {
  client = refl;
  life = refl;
  count = omega arith;
  named = inr (inl refl);
  sends = subst (λ ps. Every (λ (p : Posting). IsSending front front p.message) ps) (sym none) tt;
}

-- the transaction goes on under its name
pub goes : (front next : Front) (t : Transaction) (doing : Doing) (turn : Turn) → IsSame front next
    → name_of front.transaction ≡ Some t.begun.tx
    → Every (λ (p : Posting). IsSending front (turned next (Some t) doing) p.message) turn.sends
    → IsFrontMove front (moved (turned next (Some t) doing) turn)
goes front next t doing turn same name sends = record {
  client = same.client;
  life = same.life;
  count = let equal : next.count ≡ front.count = same.count in omega arith;
  named = inr (inl (sym name));
  sends = sends;
}

-- it is given up
pub gives : (front next : Front) (t : Transaction) (reply : Reply) → IsSame front next
    → name_of front.transaction ≡ Some t.begun.tx → IsFrontMove front (gives_up next t reply)
gives front next t reply same name = record {
  client = same.client;
  life = same.life;
  count = let equal : next.count ≡ front.count = same.count in omega arith;
  named = inl refl;
  sends = each t.begun.asked;
} where
  each : (sites : List ℕ)
      → Every (λ (p : Posting). IsSending front (turned next None Idle) p.message)
      (map (λ site. record { to = site; message = messages.Decision t.begun.tx outcomes.Aborted }) sites)
  each [] = tt
  each (site ∷ sites) = ((name, refl), each sites)

-- requests of a round
pub asked : (front next : Front) (b : Begun) (want : ℕ → Want) → ((site : ℕ) → IsWanted (want site)) → (sites : List ℕ)
    → Every (λ (p : Posting). IsSending front next p.message) (map (request_of b want) sites)
asked front next b want wanted [] = tt
asked front next b want wanted (site ∷ sites) = (wanted site, asked front next b want wanted sites)

-- the name stays, whatever joins the transaction

granted-name : (t : Transaction) (object : ℕ) (log : List Line) → (with_granted t object log).begun ≡ t.begun
granted-name t object log = view_keeps t object (option_map (λ (v : View). with_log v log) (slice_get t.views object))

pub read-name : (t : Transaction) (site object : ℕ) (answer : Option Answer)
    → (read_with t site object answer).begun.tx ≡ t.begun.tx
read-name t site object None = refl
read-name t site object (Some (answers.Granted grant)) =
    ap (λ (b : Begun). b.tx) (granted-name (lived t site grant.life) object grant.log)
read-name t site object (Some (answers.Clash holder inv event)) = refl
read-name t site object (Some (answers.Closed epoch)) = refl
read-name t site object (Some (answers.Behind epoch)) = refl
read-name t site object (Some (answers.Restarted life)) = refl
read-name t site object (Some answers.Stale) = refl
read-name t site object (Some answers.Fault) = refl
read-name t site object (Some (answers.Yes clock)) = refl
read-name t site object (Some (answers.Shut snapshot)) = refl
read-name t site object (Some answers.Installed) = refl
read-name t site object (Some (answers.Answered verdict)) = refl

pub appended-name : (t : Transaction) (site : ℕ) (answer : Option Answer)
    → (appended_with t site answer).begun.tx ≡ t.begun.tx
appended-name t site None = refl
appended-name t site (Some (answers.Granted grant)) = refl
appended-name t site (Some (answers.Clash holder inv event)) = refl
appended-name t site (Some (answers.Closed epoch)) = refl
appended-name t site (Some (answers.Behind epoch)) = refl
appended-name t site (Some (answers.Restarted life)) = refl
appended-name t site (Some answers.Stale) = refl
appended-name t site (Some answers.Fault) = refl
appended-name t site (Some (answers.Yes clock)) = refl
appended-name t site (Some (answers.Shut snapshot)) = refl
appended-name t site (Some answers.Installed) = refl
appended-name t site (Some (answers.Answered verdict)) = refl

pub event-name : (t : Transaction) (object inv event resp : ℕ)
    → (with_event t object inv event resp).begun.tx ≡ t.begun.tx
event-name t object inv event resp =
    ap (λ (b : Begun). b.tx)
    (view_keeps (record t { own = t.own ++ next_own t object event ∷ [] }) object
    (option_map (λ (v : View). with_own v event) (slice_get t.views object)))

pub learned : (front : Front) (answer : Option Answer) → IsSame front (learns front answer)
learned front None = itself front
learned front (Some (answers.Granted grant)) = record { client = refl; life = refl; count = refl }
learned front (Some (answers.Clash holder inv event)) = itself front
learned front (Some (answers.Closed epoch)) = record { client = refl; life = refl; count = refl }
learned front (Some (answers.Behind epoch)) = itself front
learned front (Some (answers.Restarted life)) = itself front
learned front (Some answers.Stale) = itself front
learned front (Some answers.Fault) = itself front
learned front (Some (answers.Yes clock)) = itself front
learned front (Some (answers.Shut snapshot)) = itself front
learned front (Some answers.Installed) = itself front
learned front (Some (answers.Answered verdict)) = itself front

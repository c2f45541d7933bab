-- A front end's move by which a transaction goes on under its name.
use Rattle.std.proofs.Common.{[], ◌≡◌, ℕ, ◌+◌, ◌⊎◌, inl, List, ◌∷◌, ◌++◌, map, Option, Some, None, option_map, refl}
use Rattle.std.proofs.Common.{sym, ap, ◌∙◌}
use Rattle.std.specs.Prelude.{slice_get, MatchOption}
use Rattle.std.specs.List.{AllByRecursion as Every}
use Rattle.qc_stamp.specs.declared.stamp.TxId.{TxId}
use Rattle.qc_decl.specs.declared.declaration.Declaration.{Declaration}
use Rattle.qc_decl.specs.Vocabulary.{append_need_of}
use Rattle.qc_msg.specs.declared.begun.Begun.{Begun}
use Rattle.qc_msg.specs.declared.call.Call.{Call}
use Rattle.qc_msg.specs.declared.message.Message.{Message}
use Rattle.qc_msg.specs.declared.message.Outcome.TheVariants.{Aborted}
use Rattle.qc_msg.specs.declared.message.Want.{Want}
use Rattle.qc_msg.specs.declared.reply.Half.TheVariants as halves
use Rattle.qc_msg.specs.declared.reply.Reply.{Reply}
use Rattle.qc_msg.specs.declared.reply.Reply.TheVariants as replies
use Rattle.qc_msg.specs.declared.turn.Posting.{Posting}
use Rattle.qc_msg.specs.declared.turn.Turn.{Turn}
use Rattle.qc_msg.specs.Vocabulary.{decisions, sending, telling, Requested, request_in}
use Rattle.qc_plan.specs.Vocabulary.{RoundState, asking_all, verdict, wanted}
use Rattle.qc_plan.specs.declared.standing.Verdict.{Verdict}
use Rattle.qc_plan.specs.declared.standing.Verdict.TheVariants as verdicts
use Rattle.qc_view.specs.declared.view.View.{View}
use Rattle.qc_view.specs.Vocabulary.{with_own}
use Rattle.qc_front.specs.declared.doing.Doing.{Doing}
use Rattle.qc_front.specs.declared.doing.Doing.TheVariants.{Idle, Reading, Appending}
use Rattle.qc_front.specs.declared.front.Front.{Front}
use Rattle.qc_front.specs.declared.transaction.Transaction.{Transaction}
use Rattle.qc_front.specs.Vocabulary.{FrontMove, answer_of, answered, append_by, append_want, doomed, moved}
use Rattle.qc_front.specs.Vocabulary.{next_own, next_tx, op_of, read_by, read_want, request_of, resp_of, round_for}
use Rattle.qc_front.specs.Vocabulary.{turned, with_asked, with_event, with_op}
use Rattle.qc_front.proofs.CommandsKeep.{view_keeps}
use Rattle.laws_turns.specs.Vocabulary.{begun_in}
use Rattle.laws_turns.proofs.DealingParts.{IsAbort, begun_tx}

-- a reply that neither begins nor ends a transaction, where this one is begun

abbrev pub IsNeutral : Option TxId → Reply → Type 0
IsNeutral name replies.Down = ⊥
IsNeutral name (replies.Already other) = name ≡ Some other
IsNeutral name (replies.Began other) = ⊥
IsNeutral name replies.NoTransaction = Unit {0}
IsNeutral name replies.Doomed = Unit {0}
IsNeutral name replies.TooLong = Unit {0}
IsNeutral name (replies.Closed epoch site) = Unit {0}
IsNeutral name (replies.Conflict holder site) = Unit {0}
IsNeutral name (replies.Quorum half got need) = Unit {0}
IsNeutral name replies.Absent = Unit {0}
IsNeutral name (replies.Response resp) = Unit {0}
IsNeutral name (replies.Aborted why) = ⊥
IsNeutral name replies.Unknown = ⊥
IsNeutral name (replies.Committed stamp) = ⊥
IsNeutral name replies.Dropped = ⊥
IsNeutral name (replies.Order current) = ⊥
IsNeutral name (replies.InDoubt holder site) = ⊥
IsNeutral name replies.Fault = ⊥
IsNeutral name (replies.Moved closed installed) = ⊥

abbrev pub ToldNeutral : Option TxId → Option Reply → Type 0
ToldNeutral name None = Unit {0}
ToldNeutral name (Some reply) = IsNeutral name reply

-- a request for a transaction of this name
abbrev pub IsRequestFor : Option TxId → Message → Type 0
IsRequestFor name m = MatchOption (request_in m) ⊥ (λ (q : Requested). name ≡ Some q.tx)

abbrev pub name_in : Front → Option TxId
name_in front = begun_tx (begun_in front.transaction)

pub record HasSameCounts (front next : Front) : Type 0 where
  pub client : next.client ≡ front.client
  pub life : next.life ≡ front.life
  pub count : next.count ≡ front.count

pub record GoesOn (front : Front) (m : FrontMove) : Type 0 where
  pub counts : HasSameCounts front m.front
  pub named : name_in m.front ≡ name_in front
  pub write : m.turn.write ≡ None
  pub sends : Every (λ (p : Posting). IsRequestFor (name_in front) p.message) m.turn.sends
  pub told : ToldNeutral (name_in front) m.turn.told

pub record BeginsOne (front : Front) (m : FrontMove) : Type 0 where
  pub free : name_in front ≡ None
  pub client : m.front.client ≡ front.client
  pub life : m.front.life ≡ front.life
  pub count : m.front.count ≡ front.count + 1
  pub named : name_in m.front ≡ Some (next_tx front)
  pub turn : m.turn ≡ telling (replies.Began (next_tx front))

pub record GivesUp (front : Front) (m : FrontMove) : Type 0 where
  pub counts : HasSameCounts front m.front
  pub begun : Begun
  pub is : begun_in front.transaction ≡ Some begun
  pub reply : Reply
  pub aborts : IsAbort reply
  pub write : m.turn.write ≡ None
  pub sends : m.turn.sends ≡ decisions begun Aborted
  pub told : m.turn.told ≡ Some reply
  pub ended : name_in m.front ≡ None

abbrev pub FrontKind : Front → FrontMove → Type 0
FrontKind front m = GoesOn front m ⊎ (BeginsOne front m ⊎ GivesUp front m)

requests_for : (name : Option TxId) (b : Begun) (want : ℕ → Want) (sites : List ℕ) → name ≡ Some b.tx
    → Every (λ (p : Posting). IsRequestFor name p.message) (map (request_of b want) sites)
requests_for name b want [] is = tt
requests_for name b want (site ∷ sites) is = (is, requests_for name b want sites is)

module _ (decl : Declaration) (front next : Front) (counts : HasSameCounts front next) where
  -- it goes on
  goes : (t : Transaction) (doing : Doing) (turn : Turn) → name_in front ≡ Some t.begun.tx → turn.write ≡ None
      → Every (λ (p : Posting). IsRequestFor (name_in front) p.message) turn.sends
      → ToldNeutral (name_in front) turn.told
      → FrontKind front (moved (turned next (Some t) doing) turn)
  goes t doing turn name unwritten sends told = inl (record {
    counts = record { client = counts.client; life = counts.life; count = counts.count };
    named = sym name;
    write = unwritten;
    sends = sends;
    told = told;
  })

  pub append_by-kind : (t : Transaction) (object inv event : ℕ) (calls : List Call) (r : RoundState) (v : Verdict)
      → name_in front ≡ Some t.begun.tx → FrontKind front (append_by decl next t object inv event calls r v)
  append_by-kind t object inv event calls r verdicts.Waiting name =
      goes (with_asked t (wanted r)) (Appending object inv event calls (asking_all r (wanted r)))
      (sending (map (request_of t.begun (append_want decl t object event)) (wanted r))) name refl
      (requests_for (name_in front) t.begun (append_want decl t object event) (wanted r) name) tt
  append_by-kind t object inv event calls r verdicts.Met name =
      goes (with_event t object inv event (resp_of decl object event)) Idle
      (telling (replies.Response (resp_of decl object event)))
      (name
      ∙ ap (λ (b : Begun). Some b.tx)
      (sym (view_keeps (record t { own = t.own ++ next_own t object event ∷ [] }) object
      (option_map (λ (v : View). with_own v event) (slice_get t.views object))))) refl tt tt
  append_by-kind t object inv event calls r (verdicts.Closed epoch site) name =
      goes (doomed t) Idle (telling (replies.Closed epoch site)) name refl tt tt
  append_by-kind t object inv event calls r (verdicts.Clash other site) name =
      goes (doomed t) Idle (telling (replies.Conflict other site)) name refl tt tt
  append_by-kind t object inv event calls r (verdicts.Short got need) name =
      goes (doomed t) Idle (telling (replies.Quorum halves.Append got need)) name refl tt tt

  answered-kind : (t : Transaction) (object inv : ℕ) (event : Option ℕ) → name_in front ≡ Some t.begun.tx
      → FrontKind front (answered decl next t object inv event)
  answered-kind t object inv None name =
      goes (with_op t (op_of object inv None)) Idle (telling replies.Absent) name refl tt tt
  answered-kind t object inv (Some event) name =
      append_by-kind t object inv event [] (round_for decl next t (append_need_of decl t.begun.epoch object event))
      (verdict (round_for decl next t (append_need_of decl t.begun.epoch object event))) name

  pub read_by-kind : (t : Transaction) (object inv : ℕ) (calls : List Call) (r : RoundState) (v : Verdict)
      → name_in front ≡ Some t.begun.tx → FrontKind front (read_by decl next t object inv calls r v)
  read_by-kind t object inv calls r verdicts.Waiting name =
      goes (with_asked t (wanted r)) (Reading object inv calls (asking_all r (wanted r)))
      (sending (map (request_of t.begun (read_want object inv)) (wanted r))) name refl
      (requests_for (name_in front) t.begun (read_want object inv) (wanted r) name) tt
  read_by-kind t object inv calls r verdicts.Met name = answered-kind t object inv (answer_of decl t object inv) name
  read_by-kind t object inv calls r (verdicts.Closed epoch site) name =
      goes t Idle (telling (replies.Closed epoch site)) name refl tt tt
  read_by-kind t object inv calls r (verdicts.Clash other site) name =
      goes t Idle (telling (replies.Conflict other site)) name refl tt tt
  read_by-kind t object inv calls r (verdicts.Short got need) name =
      goes t Idle (telling (replies.Quorum halves.Read got need)) name refl tt tt

-- A site answers each request at once, to its sender, and asks nothing.
use Rattle.std.proofs.Common.{◌≡◌, ℕ, ◌+◌, ◌≤◌, nat_le, not, Bool, true, if◌then◌else◌, List, [], ◌∷◌, Option, Some}
use Rattle.std.proofs.Common.{None, refl, sym, subst}
use Rattle.std.specs.List.{AllByRecursion as Every, fold}
use Rattle.std.specs.Prelude.{MatchOption}
use Rattle.std.specs.Bool.{MatchBool}
use Rattle.qc_decl.specs.declared.declaration.Declaration.{Declaration}
use Rattle.qc_decl.specs.Vocabulary.{most_record_bytes}
use Rattle.qc_entry.specs.declared.line.Line.{Line}
use Rattle.qc_entry.specs.declared.line.OwnLine.{OwnLine}
use Rattle.qc_entry.specs.declared.record.Prepared.{Prepared}
use Rattle.qc_lock.specs.declared.clash.Clash.{Clash as Conflict}
use Rattle.qc_lock.specs.Vocabulary.{append_clash, is_held, read_clash}
use Rattle.qc_msg.specs.declared.message.Answer.{Answer}
use Rattle.qc_msg.specs.declared.message.Answer.TheVariants as answers
use Rattle.qc_msg.specs.declared.message.Envelope.{Envelope}
use Rattle.qc_msg.specs.declared.message.Message.{Message}
use Rattle.qc_msg.specs.declared.message.Message.TheVariants as messages
use Rattle.qc_msg.specs.declared.message.Outcome.{Outcome}
use Rattle.qc_msg.specs.declared.message.Outcome.TheVariants.{Committed, Aborted, Active}
use Rattle.qc_msg.specs.declared.message.Want.{Want}
use Rattle.qc_msg.specs.declared.message.Want.TheVariants.{Read, Append, Prepare}
use Rattle.qc_msg.specs.declared.step.Input.{Input}
use Rattle.qc_msg.specs.declared.step.Input.TheVariants as inputs
use Rattle.qc_msg.specs.declared.payload.ReadRequest.{ReadRequest}
use Rattle.qc_msg.specs.declared.turn.Posting.{Posting}
use Rattle.qc_msg.specs.Vocabulary.{Deed, Falls, Rises, Sends, Takes, Tells, Writes, envelopes, quiet, Requested}
use Rattle.qc_msg.specs.Vocabulary.{request_in, wants_answer}
use Rattle.qc_stamp.specs.declared.stamp.Stamp.{Stamp}
use Rattle.qc_stamp.specs.declared.stamp.TxId.{TxId}
use Rattle.qc_site.specs.Vocabulary.{SiteMove, SiteState, answering, appends_by, fault_of, finishes, grants}
use Rattle.qc_site.specs.Vocabulary.{is_prepared, joins, moved, names_declared, new_site, passed, prepare_length}
use Rattle.qc_site.specs.Vocabulary.{prepared_of, prepares, promise_of, promises, reads_by, relation_at, requested}
use Rattle.qc_site.specs.Vocabulary.{site_after, site_at, site_does, site_takes}
use Rattle.qc_site.proofs.RequestCases.{close_cases}
use Rattle.qc_site.proofs.Cases.{install_cases}
use Rattle.laws_turns.proofs.Rounds.{IsProper}
use Rattle.laws_turns.proofs.SiteCases.{site_cases}
use Rattle.laws_turns.proofs.ReadingCases.{matched_by}
use Rattle.qc_list.proofs.Booleans.{if_two}

abbrev pub IsProperFrom : Declaration → ℕ → ℕ → Message → Type 0
IsProperFrom decl from to m =
    MatchOption (request_in m) (MatchBool (wants_answer m) ⊥ (Unit {0}))
    (λ (q : Requested). (decl.sites ≤ from) × IsProper decl to (messages.Request q.tx q.epoch q.life q.want))

abbrev pub IsMailProper : Declaration → List Envelope → Type 0
IsMailProper decl ms = Every (λ (e : Envelope). IsProperFrom decl e.from e.to e.message) ms

-- a message that asks nothing
abbrev AsksNothing : Message → Type 0
AsksNothing m =
    MatchOption (request_in m) (MatchBool (wants_answer m) ⊥ (Unit {0})) (λ (q : Requested). ⊥)

abbrev AskNothing : List Posting → Type 0
AskNothing ps = Every (λ (p : Posting). AsksNothing p.message) ps

-- the answer comes first
pub record IsReply (from number : ℕ) (m : SiteMove) : Type 0 where
  pub answer : Answer
  pub rest : List Posting
  pub sends : m.turn.sends ≡ answering from number answer ∷ rest
  pub asks : AskNothing rest

one : (s : SiteState) (from number : ℕ) (answer : Answer) (m : SiteMove)
    → m.turn.sends ≡ answering from number answer ∷ [] → IsReply from number m
one s from number answer m is = record { answer = answer; rest = []; sends = is; asks = tt }

promises_reply : (s : SiteState) (from number : ℕ) (p : Prepared) → IsReply from number (promises s from number p)
promises_reply s from number p = if_two (IsReply from number) (nat_le (prepare_length p) most_record_bytes) _ _
    (one s from number (answers.Yes s.clock) _ refl) (one s from number answers.Stale _ refl)

prepares_reply : (s : SiteState) (from number : ℕ) (tx : TxId) → IsReply from number (prepares s from number tx)
prepares_reply s from number tx =
    if_two (IsReply from number) (not (is_held s.held tx)) _ _ (one s from number answers.Stale _ refl)
    (if_two (IsReply from number) (is_prepared s.prepared tx) _ (promises s from number (promise_of s tx))
    (one s from number (answers.Yes s.clock) _ refl) (promises_reply s from number (promise_of s tx)))

reads_reply : (decl : Declaration) (s : SiteState) (from number : ℕ) (tx : TxId) (r : ReadRequest) (o : Option Conflict)
    → IsReply from number (reads_by decl s from number tx r o)
reads_reply decl s from number tx r None = record { answer = _; rest = []; sends = refl; asks = tt }
reads_reply decl s from number tx r (Some c) = record { answer = _; rest = _; sends = refl; asks = (tt, tt) }

appends_reply : (decl : Declaration) (s : SiteState) (from number : ℕ) (tx : TxId) (view : List Line)
    (own : List OwnLine) (o : Option Conflict) → IsReply from number (appends_by decl s from number tx view own o)
appends_reply decl s from number tx view own None = record { answer = _; rest = []; sends = refl; asks = tt }
appends_reply decl s from number tx view own (Some c) = record { answer = _; rest = _; sends = refl; asks = (tt, tt) }

grants_reply : (decl : Declaration) (s : SiteState) (from number : ℕ) (tx : TxId) (want : Want)
    → IsReply from number (grants decl s from number tx want)
grants_reply decl s from number tx (Read read) =
    reads_reply decl s from number tx read
    (read_clash (relation_at decl read.object) s.held tx read.object read.inv)
grants_reply decl s from number tx (Append object view own) =
    appends_reply decl s from number tx view own (append_clash (relation_at decl object) s.held tx own)
grants_reply decl s from number tx Prepare = prepares_reply s from number tx

requests_reply : (decl : Declaration) (s : SiteState) (from number : ℕ) (tx : TxId) (want : Want) (o : Option Answer)
    → IsReply from number (requested decl s from number tx want o)
requests_reply decl s from number tx want (Some refusal) = one s from number refusal _ refl
requests_reply decl s from number tx want None = grants_reply decl s from number tx want

-- a request that names what is declared is answered
pub request_reply : (decl : Declaration) (s : SiteState) (from number : ℕ) (tx : TxId) (epoch life : ℕ) (want : Want)
    → names_declared decl tx want ≡ true → IsReply from number
    (site_at decl s from number (messages.Request tx epoch life want))
request_reply decl s from number tx epoch life want names =
    subst (λ (t : Bool). IsReply from number
    (if t then requested decl s from number tx want (fault_of s epoch life) else moved s quiet)) (sym names)
    (requests_reply decl s from number tx want (fault_of s epoch life))

-- nothing is asked

reply_asks : (from number : ℕ) (m : SiteMove) → IsReply from number m → AskNothing m.turn.sends
reply_asks from number m r = subst (λ (ps : List Posting). AskNothing ps) (sym r.sends) (tt, r.asks)

joins_asks : (s : SiteState) (tx : TxId) (stamp : Stamp) (o : Option Prepared)
    → AskNothing (joins s tx stamp o).turn.sends
joins_asks s tx stamp None = tt
joins_asks s tx stamp (Some p) = tt

decision_asks : (s : SiteState) (tx : TxId) (v : Outcome) → AskNothing (finishes s tx v).turn.sends
decision_asks s tx (Committed stamp) = joins_asks s tx stamp (prepared_of s.prepared tx)
decision_asks s tx Aborted = tt
decision_asks s tx Active = tt

site_asks : (decl : Declaration) (s : SiteState) (from number : ℕ) (m : Message)
    → AskNothing (site_at decl s from number m).turn.sends
site_asks decl s from number m =
    site_cases decl s from number (λ m move. AskNothing move.turn.sends) (λ m. tt)
    (λ q. if_two (λ (m : SiteMove). AskNothing m.turn.sends) (names_declared decl q.tx q.want)
    (requested decl s from number q.tx q.want (fault_of s q.epoch q.life)) (moved s quiet)
    (reply_asks from number (requested decl s from number q.tx q.want (fault_of s q.epoch q.life))
    (requests_reply decl s from number q.tx q.want (fault_of s q.epoch q.life))) tt)
    (decision_asks s)
    (λ k. close_cases (λ (m : SiteMove). AskNothing m.turn.sends) s from number k (λ answer. (tt, tt))
    (λ near later. (tt, tt)))
    (λ k clock lines. install_cases (λ (m : SiteMove). AskNothing m.turn.sends) s from number k clock lines
    (λ answer. (tt, tt)) (λ later fits. (tt, tt))) m

takes_asks : (decl : Declaration) (s : SiteState) (g : Input) → AskNothing (site_takes decl s g).turn.sends
takes_asks decl s (inputs.Called command) = tt
takes_asks decl s (inputs.Got envelope) =
    site_asks decl (passed s envelope.message) envelope.from envelope.number envelope.message
takes_asks decl s (inputs.Lost number) = tt

does_asks : (decl : Declaration) (m : SiteMove) (d : Deed) → AskNothing m.turn.sends
    → AskNothing (site_does decl m d).turn.sends
does_asks decl m (Takes g) is = takes_asks decl m.site g
does_asks decl m (Writes written) is = is
does_asks decl m (Sends number to message) is = is
does_asks decl m (Tells reply) is = is
does_asks decl m (Falls cause pending) is = is
does_asks decl m (Rises records) is = is

folded_asks : (decl : Declaration) (ds : List Deed) (m : SiteMove) → AskNothing m.turn.sends
    → AskNothing (fold (site_does decl) m ds).turn.sends
folded_asks decl [] m is = is
folded_asks decl (d ∷ ds) m is = folded_asks decl ds (site_does decl m d) (does_asks decl m d is)

nothing_proper : (decl : Declaration) (from to : ℕ) (m : Message) → AsksNothing m → IsProperFrom decl from to m
nothing_proper decl from to m is =
    matched_by (MatchBool (wants_answer m) ⊥ (Unit {0})) (MatchBool (wants_answer m) ⊥ (Unit {0}))
    (λ (q : Requested). ⊥)
    (λ (q : Requested). (decl.sites ≤ from) × IsProper decl to (messages.Request q.tx q.epoch q.life q.want))
    (request_in m) (λ q never. absurd never) (λ none. none) is

mail_asks : (decl : Declaration) (a n : ℕ) (ps : List Posting) → AskNothing ps → IsMailProper decl (envelopes a n ps)
mail_asks decl a n [] are = tt
mail_asks decl a n (p ∷ ps) are = (nothing_proper decl a p.to p.message are.0, mail_asks decl a (n + 1) ps are.1)

pub asks_nothing : (decl : Declaration) (site n : ℕ) (ds : List Deed)
    → IsMailProper decl (envelopes site n (site_after decl site ds).turn.sends)
asks_nothing decl site n ds = mail_asks decl site n (site_after decl site ds).turn.sends
    (folded_asks decl ds (moved (new_site site) quiet) tt)

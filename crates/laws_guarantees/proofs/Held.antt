-- A site holds something only of transactions that are open by the messages that it took.
use Rattle.std.proofs.Common.{◌≡◌, ℕ, ◌&&◌, not, Bool, true, false, cond, List, [], ◌∷◌, ◌++◌, Option, Some, None, refl}
use Rattle.std.proofs.Common.{sym, ap, ◌∙◌, subst}
use Rattle.std.specs.List.{AllByRecursion as Every, cons_option, fold}
use Rattle.std.proofs.lemmas.List.{append-nil, append_assoc}
use Rattle.std.proofs.lemmas.List.Sums.{fold-append}
use Rattle.qc_list.specs.Vocabulary.{In}
use Rattle.qc_list.proofs.Members.{In-passes, In-unfiltered, every-In, every-from_In, every-weaker}
use Rattle.qc_stamp.specs.declared.stamp.TxId.{TxId}
use Rattle.qc_stamp.specs.Vocabulary.{same_tx}
use Rattle.qc_entry.specs.declared.line.OwnLine.{OwnLine}
use Rattle.qc_decl.specs.declared.declaration.Declaration.{Declaration}
use Rattle.qc_lock.specs.declared.clash.Clash.{Clash}
use Rattle.qc_lock.specs.declared.held.Held.{Held}
use Rattle.qc_lock.specs.Vocabulary.{IsAppendConflict, IsReadConflict, IsSmallest, append_clash, read_clash}
use Rattle.qc_lock.specs.Vocabulary.{without_held}
use Rattle.qc_lock.proofs.Conflicts.{appends_are_refused_on_conflict, reads_are_refused_on_conflict}
use Rattle.qc_msg.specs.declared.message.Envelope.{Envelope}
use Rattle.qc_msg.specs.declared.message.Message.{Message}
use Rattle.qc_msg.specs.declared.message.Message.TheVariants as messages
use Rattle.qc_msg.specs.declared.message.Outcome.{Outcome}
use Rattle.qc_msg.specs.declared.message.Outcome.TheVariants.{Aborted, Active, Committed}
use Rattle.qc_msg.specs.declared.message.Want.{Want}
use Rattle.qc_msg.specs.declared.message.Want.TheVariants.{Append, Prepare, Read}
use Rattle.qc_msg.specs.declared.step.Input.{Input}
use Rattle.qc_msg.specs.declared.step.Input.TheVariants as inputs
use Rattle.qc_msg.specs.Vocabulary.{Deed, Falls, Rises, Sends, Takes, Tells, Writes, quiet}
use Rattle.qc_promise.specs.Vocabulary.{is_final}
use Rattle.laws_atomic.proofs.FirstSites.{IsCalmGiven, IsCalmMessage, TakesCalm}
use Rattle.qc_site.specs.Vocabulary.{SiteMove, SiteState, grants, moved, new_site, passed, site_after, site_at}
use Rattle.qc_site.specs.Vocabulary.{site_does, site_takes}
use Rattle.qc_site.proofs.RequestCases.{append_cases, join_cases, prepare_cases, read_cases, request_cases}
use Rattle.laws_turns.proofs.SitesAsk.{held-more}
use Rattle.laws_guarantees.specs.Vocabulary.{asks_to_hold, is_open, message_in, open_said, taken_in}
use Rattle.qc_stamp.proofs.Orders.{same_tx_itself, other_tx_sym}

-- each entry is of an open transaction
abbrev pub AreOpen : List Envelope → List Held → Type 0
AreOpen ms held = Every (λ (h : Held). is_open h.tx ms ≡ true) held

open_more : (tx : TxId) (ms : List Envelope) (e : Envelope)
    → is_open tx (ms ++ e ∷ []) ≡ open_said tx (is_open tx ms) e.message
open_more tx ms e = fold-append (λ (before : Bool) (x : Envelope). open_said tx before x.message) false ms (e ∷ [])

-- one message more: a request leaves open what is

request_leaves : (tx other : TxId) (epoch life : ℕ) (want : Want) (before : Bool) → before ≡ true
    → open_said tx before (messages.Request other epoch life want) ≡ true
request_leaves tx other epoch life want before is = by (same_tx other tx && asks_to_hold want)
  where
    by : (t : Bool) → cond t true before ≡ true
    by true = refl
    by false = is

request_opens : (tx : TxId) (epoch life : ℕ) (want : Want) (before : Bool) → asks_to_hold want ≡ true
    → open_said tx before (messages.Request tx epoch life want) ≡ true
request_opens tx epoch life want before holds =
    ap (λ (t : Bool). cond (t && asks_to_hold want) true before) (same_tx_itself tx)
    ∙ ap (λ (t : Bool). cond t true before) holds

other_decision : (tx other : TxId) (v : Outcome) (before : Bool) → same_tx other tx ≡ false
    → open_said tx before (messages.Decision other v) ≡ before
other_decision tx other v before apart = ap (λ (t : Bool). cond (t && is_final v) false before) apart

active_leaves : (tx other : TxId) (before : Bool) → open_said tx before (messages.Decision other Active) ≡ before
active_leaves tx other before = by (same_tx other tx)
  where
    by : (t : Bool) → cond (t && false) false before ≡ before
    by true = refl
    by false = refl

-- a site takes one message

module _ (decl : Declaration) (ms : List Envelope) (s : SiteState) (from number : ℕ) (e : Envelope)
    (all : AreOpen ms s.held) where
  abbrev Now : Message → List Held → Type 0
  Now m held = Every (λ (h : Held). open_said h.tx (is_open h.tx ms) m ≡ true) held

  requested : (tx : TxId) (epoch life : ℕ) (want : Want) → Now (messages.Request tx epoch life want) s.held
  requested tx epoch life want = every-weaker (λ (h : Held). is_open h.tx ms ≡ true)
      (λ (h : Held). open_said h.tx (is_open h.tx ms) (messages.Request tx epoch life want) ≡ true)
      (λ h is. request_leaves h.tx tx epoch life want (is_open h.tx ms) is) s.held all

  granted : (tx : TxId) (epoch life : ℕ) (want : Want)
      → Now (messages.Request tx epoch life want) (grants decl s from number tx want).site.held
  granted tx epoch life (Read read) =
      read_cases (λ (m : SiteMove). Now (messages.Request tx epoch life (Read read)) m.site.held) decl s from
      number tx read
      (λ free. held-more decl (λ (x : TxId). open_said x (is_open x ms)
      (messages.Request tx epoch life (Read read)) ≡ true) s.held tx
      (record { object = read.object; inv = read.inv } ∷ []) [] (requested tx epoch life (Read read))
      (request_opens tx epoch life (Read read) (is_open tx ms) refl))
      (λ c clash. requested tx epoch life (Read read))
  granted tx epoch life (Append object view own) =
      append_cases (λ (m : SiteMove). Now (messages.Request tx epoch life (Append object view own)) m.site.held) decl s
      from number tx object view own
      (λ free. held-more decl (λ (x : TxId). open_said x (is_open x ms)
      (messages.Request tx epoch life (Append object view own)) ≡ true) s.held tx [] own
      (requested tx epoch life (Append object view own))
      (request_opens tx epoch life (Append object view own) (is_open tx ms) refl))
      (λ c clash. requested tx epoch life (Append object view own))
  granted tx epoch life Prepare =
      prepare_cases (λ (m : SiteMove). Now (messages.Request tx epoch life Prepare) m.site.held) s from number tx
      (requested tx epoch life Prepare) (λ held stands. requested tx epoch life Prepare)
      (λ held made. requested tx epoch life Prepare)

  -- a transaction that ended holds nothing
  ended : (tx : TxId) (v : Outcome) → Now (messages.Decision tx v) (without_held s.held tx)
  ended tx v = every-from_In (λ (h : Held). open_said h.tx (is_open h.tx ms) (messages.Decision tx v) ≡ true)
      (without_held s.held tx) (λ h among.
      let apart : not (same_tx h.tx tx) ≡ true = In-passes (λ (h : Held). not (same_tx h.tx tx)) h s.held among in
      let old : In h s.held = In-unfiltered (λ (h : Held). not (same_tx h.tx tx)) h s.held among in
      other_decision h.tx tx v (is_open h.tx ms) (other_tx_sym h.tx tx (unlike (same_tx h.tx tx) apart))
      ∙ every-In (λ (h : Held). is_open h.tx ms ≡ true) h s.held all old)
    where
      unlike : (t : Bool) → not t ≡ true → t ≡ false
      unlike true is = absurd (let never : ⊥ = cc in never)
      unlike false is = refl

  told : (tx : TxId) → Now (messages.Decision tx Active) s.held
  told tx = every-weaker (λ (h : Held). is_open h.tx ms ≡ true)
      (λ (h : Held). open_said h.tx (is_open h.tx ms) (messages.Decision tx Active) ≡ true)
      (λ h is. active_leaves h.tx tx (is_open h.tx ms) ∙ is) s.held all

  at : (m : Message) → IsCalmMessage m → Now m (site_at decl s from number m).site.held
  at (messages.Request tx epoch life want) calm =
      request_cases (λ (m : SiteMove). Now (messages.Request tx epoch life want) m.site.held) decl s from number tx
      epoch life want (requested tx epoch life want) (λ fault is. requested tx epoch life want)
      (λ is. granted tx epoch life want)
  at (messages.Answer to answer) calm = all
  at (messages.Decision tx (Committed stamp)) calm =
      join_cases (λ (m : SiteMove). Now (messages.Decision tx (Committed stamp)) m.site.held) s tx stamp
      (λ none. ended tx (Committed stamp)) (λ p some. ended tx (Committed stamp))
  at (messages.Decision tx Aborted) calm = ended tx Aborted
  at (messages.Decision tx Active) calm = told tx
  at (messages.Inquiry tx) calm = all
  at (messages.Ask tx) calm = all
  at (messages.Close epoch) calm = absurd calm
  at (messages.Install start) calm = absurd calm

-- over all that a site does

one_input : (decl : Declaration) (ms : List Envelope) (s : SiteState) (g : Input) → IsCalmGiven g → AreOpen ms s.held
    → AreOpen (ms ++ taken_in (Takes g ∷ [])) (site_takes decl s g).site.held
one_input decl ms s (inputs.Called command) calm all =
    subst (λ (v : List Envelope). AreOpen v s.held) (sym (append-nil ms)) all
one_input decl ms s (inputs.Lost number) calm all =
    subst (λ (v : List Envelope). AreOpen v s.held) (sym (append-nil ms)) all
one_input decl ms s (inputs.Got e) calm all =
    every-weaker (λ (h : Held). open_said h.tx (is_open h.tx ms) e.message ≡ true)
    (λ (h : Held). is_open h.tx (ms ++ e ∷ []) ≡ true)
    (λ h is. open_more h.tx ms e ∙ is) (site_at decl (passed s e.message) e.from e.number e.message).site.held
    (at decl ms (passed s e.message) e.from e.number e all e.message calm)

open_from : (decl : Declaration) (ms : List Envelope) (m : SiteMove) (ds : List Deed) → Every TakesCalm ds
    → AreOpen ms m.site.held → AreOpen (ms ++ taken_in ds) (fold (site_does decl) m ds).site.held
open_from decl ms m [] calm all = subst (λ (v : List Envelope). AreOpen v m.site.held) (sym (append-nil ms)) all
open_from decl ms m (Takes g ∷ ds) calm all =
    subst (λ (v : List Envelope). AreOpen v (fold (site_does decl) (site_takes decl m.site g) ds).site.held)
    (whole (message_in g))
    (open_from decl (ms ++ taken_in (Takes g ∷ [])) (site_takes decl m.site g) ds calm.1
    (one_input decl ms m.site g calm.0 all))
  where
    whole : (o : Option Envelope) → (ms ++ cons_option o []) ++ taken_in ds ≡ ms ++ cons_option o (taken_in ds)
    whole None = ap (λ (v : List Envelope). v ++ taken_in ds) (append-nil ms)
    whole (Some e) = append_assoc ms (e ∷ []) (taken_in ds)
open_from decl ms m (Writes written ∷ ds) calm all = open_from decl ms m ds calm.1 all
open_from decl ms m (Sends number to message ∷ ds) calm all = open_from decl ms m ds calm.1 all
open_from decl ms m (Tells reply ∷ ds) calm all = open_from decl ms m ds calm.1 all
open_from decl ms m (Falls cause pending ∷ ds) calm all = open_from decl ms m ds calm.1 all
open_from decl ms m (Rises records ∷ ds) calm all = open_from decl ms m ds calm.1 all

-- each that holds something at a site is open by what the site took
pub held_open : (decl : Declaration) (site : ℕ) (ds : List Deed) → Every TakesCalm ds
    → AreOpen (taken_in ds) (site_after decl site ds).site.held
held_open decl site ds calm = open_from decl [] (moved (new_site site) quiet) ds calm tt

-- so is each that is in the way of a request

pub record IsInTheWay (ms : List Envelope) (tx : TxId) (c : Clash) : Type 0 where
  pub is_open : is_open c.holder ms ≡ true
  pub another : same_tx c.holder tx ≡ false

pub read_way : (relation : List ℕ) (ms : List Envelope) (held : List Held) (tx : TxId) (object inv : ℕ) (c : Clash)
    → AreOpen ms held → read_clash relation held tx object inv ≡ Some c → IsInTheWay ms tx c
read_way relation ms held tx object inv c all is =
    let found : IsSmallest (IsReadConflict relation held tx object inv) (Some c) =
    subst (IsSmallest (IsReadConflict relation held tx object inv)) is
    (reads_are_refused_on_conflict relation held tx object inv) in
    let conflict : IsReadConflict relation held tx object inv c = found.0 in
    record {
      is_open = ap (λ (d : Clash). is_open d.holder ms) conflict.told
          ∙ every-In (λ (h : Held). is_open h.tx ms ≡ true) conflict.holder held all conflict.holds;
      another = ap (λ (d : Clash). same_tx d.holder tx) conflict.told ∙ conflict.another;
    }

pub append_way : (relation : List ℕ) (ms : List Envelope) (held : List Held) (tx : TxId) (own : List OwnLine)
    (c : Clash) → AreOpen ms held → append_clash relation held tx own ≡ Some c → IsInTheWay ms tx c
append_way relation ms held tx own c all is =
    let found : IsSmallest (IsAppendConflict relation held tx own) (Some c) =
    subst (IsSmallest (IsAppendConflict relation held tx own)) is (appends_are_refused_on_conflict relation held tx own)
    in
    let conflict : IsAppendConflict relation held tx own c = found.0 in
    record {
      is_open = ap (λ (d : Clash). is_open d.holder ms) conflict.told
          ∙ every-In (λ (h : Held). is_open h.tx ms ≡ true) conflict.holder held all conflict.holds;
      another = ap (λ (d : Clash). same_tx d.holder tx) conflict.told ∙ conflict.another;
    }

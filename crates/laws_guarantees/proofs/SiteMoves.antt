-- What a site's step says of grants, of what is held, and of the answers to a Prepare.
use Rattle.std.proofs.Common.{[], ◌≡◌, ◌⊎◌, ◌<◌, ℕ, ◌==◌, ◌&&◌, nat_le, nat_lt, not, Bool, true, false, cond, List, ◌∷◌}
use Rattle.std.proofs.Common.{inl, inr, length, Option, Some, None, is_some, refl, sym, ap, ◌∙◌, subst, arith, eqb-true}
use Rattle.std.proofs.Common.{ltb-true}
use Rattle.qc_stamp.specs.declared.stamp.TxId.{TxId}
use Rattle.qc_stamp.specs.Vocabulary.{same_tx}
use Rattle.qc_stamp.proofs.Orders.{same_tx_is}
use Rattle.qc_list.specs.Vocabulary.{In}
use Rattle.qc_entry.specs.declared.line.OwnLine.{OwnLine}
use Rattle.qc_entry.specs.declared.line.ReadLock.{ReadLock}
use Rattle.qc_decl.specs.declared.declaration.Declaration.{Declaration}
use Rattle.qc_decl.specs.Vocabulary.{most_record_bytes}
use Rattle.qc_lock.specs.declared.held.Held.{Held}
use Rattle.qc_lock.specs.Vocabulary.{held_of, is_held, with_entry, with_held, with_locks, with_owns, without_held}
use Rattle.qc_lock.proofs.Entries.{entry-put, entry-without_other, others_stay}
use Rattle.qc_msg.specs.declared.message.Answer.{Answer}
use Rattle.qc_msg.specs.declared.message.Answer.TheVariants as answers
use Rattle.qc_msg.specs.declared.message.Message.{Message}
use Rattle.qc_msg.specs.declared.message.Message.TheVariants as messages
use Rattle.qc_msg.specs.declared.message.Outcome.{Outcome}
use Rattle.qc_msg.specs.declared.message.Outcome.TheVariants.{Committed}
use Rattle.qc_msg.specs.declared.message.Want.{Want}
use Rattle.qc_msg.specs.declared.message.Want.TheVariants.{Read, Append, Prepare}
use Rattle.qc_msg.specs.declared.turn.Posting.{Posting}
use Rattle.qc_site.specs.Vocabulary.{SiteMove, SiteState, answers as answering_turn, clashing, closed_fault, fault_of}
use Rattle.qc_site.specs.Vocabulary.{grants, is_final, is_prepared, moved, prepare_length, prepares, promise_of}
use Rattle.qc_site.specs.Vocabulary.{promised, site_at, votes}
use Rattle.qc_msg.specs.Vocabulary.{quiet, granted_in}
use Rattle.qc_msg.specs.declared.payload.Grant.{Grant}
use Rattle.qc_site.proofs.RequestCases.{append_cases, choose, fault_is, prepare_cases, read_cases, request_cases}
use Rattle.qc_site.proofs.Cases.{state_cases}
use Rattle.laws_atomic.proofs.FirstSites.{IsCalmMessage}
use Rattle.laws_guarantees.proofs.ForgettingAnswers.{Forgets}
use Rattle.laws_guarantees.proofs.AnswersToInputs.{Says, says_one, says_clash, says_nothing}
use Rattle.std.specs.Prelude.{MatchOption}

-- what is given is held

given_now : (held : List Held) (tx : TxId) (locks : List ReadLock) (own : List OwnLine)
    → ((length locks == 0) && (length own == 0)) ≡ false → is_held (with_held held tx locks own) tx ≡ true
given_now held tx locks own some = by ((length locks == 0) && (length own == 0)) some
  where
    by : (t : Bool) → t ≡ false
        → is_held
        (cond t held
        (with_entry held
        (record {
          tx = tx;
          locks = with_locks (held_of held tx).locks locks;
          own = with_owns (held_of held tx).own own;
        }))) tx ≡ true
    by true is = absurd (let never : ⊥ = cc in never)
    by false is =
        ap is_some
        (entry-put held
        (record {
          tx = tx;
          locks = with_locks (held_of held tx).locks locks;
          own = with_owns (held_of held tx).own own;
        }))

held_given : (held : List Held) (tx t : TxId) (locks : List ReadLock) (own : List OwnLine) → is_held held t ≡ true
    → is_held (with_held held tx locks own) t ≡ true
held_given held tx t locks own is = by (same_tx tx t) refl
  where
    here : (b : Bool) → ((length locks == 0) && (length own == 0)) ≡ b → is_held held tx ≡ true
        → is_held (with_held held tx locks own) tx ≡ true
    here false some was = given_now held tx locks own some
    here true none was =
        subst (λ (b : Bool). is_held (cond b held
        (with_entry held
        (record {
          tx = tx;
          locks = with_locks (held_of held tx).locks locks;
          own = with_owns (held_of held tx).own own;
        }))) tx ≡ true) (sym none) was

    by : (b : Bool) → same_tx tx t ≡ b → is_held (with_held held tx locks own) t ≡ true
    by true same =
        subst (λ (u : TxId). is_held held u ≡ true → is_held (with_held held tx locks own) u ≡ true)
        (same_tx_is tx t same) (here ((length locks == 0) && (length own == 0)) refl) is
    by false other = ap is_some (others_stay held tx t locks own other) ∙ is

-- an Append has own lines
abbrev pub IsFull : Want → Type 0
IsFull (Read read) = Unit {0}
IsFull (Append object view own) = 0 < length own
IsFull Prepare = Unit {0}

abbrev IsNoGrant : Answer → Type 0
IsNoGrant answer = MatchOption (granted_in answer) (Unit {0}) (λ (g : Grant). ⊥)

abbrev HoldsGranted : TxId → SiteMove → Type 0
HoldsGranted tx m =
    (p : Posting) (k : ℕ) (x : Grant) → In p m.turn.sends → p.message ≡ messages.Answer k (answers.Granted x)
    → is_held m.site.held tx ≡ true

no_grant : (tx : TxId) (number : ℕ) (m : SiteMove) → Says number IsNoGrant m → HoldsGranted tx m
no_grant tx number m says p k x among is = absurd (says p k (answers.Granted x) among is).1

pub granted_is_held : (decl : Declaration) (s : SiteState) (from number : ℕ) (tx : TxId) (epoch life : ℕ) (want : Want)
    → IsFull want → HoldsGranted tx (site_at decl s from number (messages.Request tx epoch life want))
granted_is_held decl s from number tx epoch life want full =
    request_cases (HoldsGranted tx) decl s from number tx epoch life want
    (no_grant tx number (moved s quiet) (says_nothing IsNoGrant number (moved s quiet) refl))
    (λ fault is. no_grant tx number (moved s (answering_turn from number fault))
    (says_one IsNoGrant (moved s (answering_turn from number fault)) from number fault refl
    (fault_is IsNoGrant s epoch life tt (λ other. tt) tt fault is))) (λ is. by want full)
  where
    some : (own : List OwnLine) → 0 < length own → (length own == 0) ≡ false
    some [] more = absurd (omega arith)
    some (o ∷ os) more = at (length (o ∷ os) == 0) refl
      where
        at : (b : Bool) → (length (o ∷ os) == 0) ≡ b → b ≡ false
        at false is = refl
        at true is = absurd (let none : length (o ∷ os) ≡ 0 = eqb-true (length (o ∷ os)) 0 is in omega arith)

    by : (w : Want) → IsFull w → HoldsGranted tx (grants decl s from number tx w)
    by (Read read) full = read_cases (HoldsGranted tx) decl s from number tx read
        (λ free p k x among is. given_now s.held tx (record { object = read.object; inv = read.inv } ∷ []) [] refl)
        (λ c clash. no_grant tx number (moved s (clashing decl from number c))
        (says_clash IsNoGrant decl (moved s (clashing decl from number c)) from number c refl tt))
    by (Append object view own) full = append_cases (HoldsGranted tx) decl s from number tx object view own
        (λ free p k x among is. given_now s.held tx [] own (some own full))
        (λ c clash. no_grant tx number (moved s (clashing decl from number c))
        (says_clash IsNoGrant decl (moved s (clashing decl from number c)) from number c refl tt))
    by Prepare full =
        prepare_cases (HoldsGranted tx) s from number tx
        (no_grant tx number (moved s (answering_turn from number answers.Stale))
        (says_one IsNoGrant (moved s (answering_turn from number answers.Stale)) from number answers.Stale refl tt))
        (λ held stands. no_grant tx number (moved s (answering_turn from number (answers.Yes s.clock)))
        (says_one IsNoGrant (moved s (answering_turn from number (answers.Yes s.clock))) from number
        (answers.Yes s.clock) refl tt))
        (λ held made. no_grant tx number (moved (promised s (promise_of s tx)) (votes s from number (promise_of s tx)))
        (says_one IsNoGrant (moved (promised s (promise_of s tx)) (votes s from number (promise_of s tx))) from
        number (answers.Yes s.clock) refl tt))

-- what is held stays, or its transaction ends

abbrev pub EndsBy : Message → TxId → Type 0
EndsBy m tx = (verdict : Outcome) × (m ≡ messages.Decision tx verdict) × (is_final verdict ≡ true)

held_drops : (held : List Held) (u tx : TxId) (m : Message) (verdict : Outcome) → m ≡ messages.Decision u verdict
    → is_final verdict ≡ true → is_held held tx ≡ true → (is_held (without_held held u) tx ≡ true) ⊎ EndsBy m tx
held_drops held u tx m verdict is final was = by (same_tx u tx) refl
  where
    by : (b : Bool) → same_tx u tx ≡ b → (is_held (without_held held u) tx ≡ true) ⊎ EndsBy m tx
    by true same = inr (verdict, is ∙ ap (λ (t : TxId). messages.Decision t verdict) (same_tx_is u tx same), final)
    by false other = inl (ap is_some (entry-without_other held u tx other) ∙ was)

pub held_stays : (decl : Declaration) (s : SiteState) (from number : ℕ) (m : Message) (tx : TxId) → IsCalmMessage m
    → is_held s.held tx ≡ true → (is_held (site_at decl s from number m).site.held tx ≡ true) ⊎ EndsBy m tx
held_stays decl s from number m tx calm was =
    state_cases (λ (x : SiteState). (is_held x.held tx ≡ true) ⊎ EndsBy m tx) decl s from number m (inl was)
    (λ t epoch life r same. inl (held_given s.held t tx (record { object = r.object; inv = r.inv } ∷ []) [] was))
    (λ t epoch life object view own same. inl (held_given s.held t tx [] own was))
    (λ t. inl was)
    (λ t verdict same final. held_drops s.held t tx m verdict same final was)
    (λ t stamp p same. held_drops s.held t tx m (Committed stamp) same refl was)
    (λ k same. absurd (subst IsCalmMessage same calm))
    (λ k clock lines same later. absurd (subst IsCalmMessage same calm))

-- what a Prepare is answered where something is held, and a promise fits a record

is_not_behind : (s : SiteState) (epoch life : ℕ) (fault : Answer) → epoch ≡ s.epoch → fault_of s epoch life ≡ Some fault
    → Forgets fault → ⊥
is_not_behind s epoch life fault same =
    choose (λ (o : Option Answer). o ≡ Some fault → Forgets fault → ⊥) (nat_lt s.epoch epoch) _ _
    (λ later is forgets.
    (let low : s.epoch < epoch = ltb-true s.epoch epoch later in let never : ⊥ = omega arith in never))
    (λ later. choose (λ (o : Option Answer). o ≡ Some fault → Forgets fault → ⊥) (nat_lt epoch s.epoch) _ _
    (λ earlier is forgets. subst Forgets (sym (let e : answers.Closed s.epoch ≡ fault = cc in e)) forgets)
    (λ earlier. by s.closed_for))
  where
    by : (shut : Option ℕ) → closed_fault s life shut ≡ Some fault → Forgets fault → ⊥
    by (Some other) is forgets = subst Forgets (sym (let e : answers.Closed other ≡ fault = cc in e)) forgets
    by None is forgets =
        choose (λ (o : Option Answer). o ≡ Some fault → Forgets fault → ⊥) (life == 0) _ _
        (λ none is. absurd (let never : ⊥ = cc in never))
        (λ some. choose (λ (o : Option Answer). o ≡ Some fault → Forgets fault → ⊥) (life == s.life) _ _
        (λ own is. absurd (let never : ⊥ = cc in never))
        (λ other is forgets. subst Forgets (sym (let e : answers.Restarted s.life ≡ fault = cc in e)) forgets)) is
        forgets

abbrev Remembers : Answer → Type 0
Remembers x = Forgets x → ⊥

prepare_says : (s : SiteState) (from number : ℕ) (tx : TxId) → is_held s.held tx ≡ true
    → nat_le (prepare_length (promise_of s tx)) most_record_bytes ≡ true
    → Says number Remembers (prepares s from number tx)
prepare_says s from number tx held fits =
    choose (Says number Remembers) (not (is_held s.held tx)) _ _
    (λ none. absurd
    (let n : not true ≡ true = subst (λ (b : Bool). not b ≡ true) held none in let never : ⊥ = cc in never))
    (λ some. choose (Says number Remembers) (is_prepared s.prepared tx) _ _
    (λ stands. says_one Remembers (moved s (answering_turn from number (answers.Yes s.clock))) from number
    (answers.Yes s.clock) refl (λ never. never))
    (λ made. choose (Says number Remembers) (nat_le (prepare_length (promise_of s tx)) most_record_bytes) _ _
    (λ short. says_one Remembers (moved (promised s (promise_of s tx)) (votes s from number (promise_of s tx))) from
    number (answers.Yes s.clock) refl (λ never. never))
    (λ long. absurd (let never : ⊥ = cc in never))))

pub prepares_remembered : (decl : Declaration) (s : SiteState) (from number : ℕ) (tx : TxId) (epoch life : ℕ)
    → epoch ≡ s.epoch → is_held s.held tx ≡ true → nat_le (prepare_length (promise_of s tx)) most_record_bytes ≡ true
    → (p : Posting) (k : ℕ) (x : Answer)
    → In p (site_at decl s from number (messages.Request tx epoch life Prepare)).turn.sends
    → p.message ≡ messages.Answer k x → Forgets x → ⊥
prepares_remembered decl s from number tx epoch life same held fits p k x among is =
    (request_cases (Says number Remembers) decl s from number tx epoch life Prepare
    (says_nothing Remembers number (moved s quiet) refl)
    (λ fault it. says_one Remembers (moved s (answering_turn from number fault)) from number fault refl
    (is_not_behind s epoch life fault same it))
    (λ none. prepare_says s from number tx held fits) p k x among is).1

-- What is granted is held, stays held until a decision, and is dropped by it.
use Rattle.std.proofs.Common.{◌≡◌, inl, inr, ◌&&◌, ℕ, Bool, true, false, List, [], ◌∷◌, Option, None, unwrap_or, refl}
use Rattle.std.proofs.Common.{sym, ap, ◌∙◌, subst}
use Rattle.std.specs.declared.cmp.Ordering.{Ordering}
use Rattle.std.specs.declared.cmp.Ordering.TheVariants.{Less, Equal, Greater}
use Rattle.std.specs.Ordering.{nat_cmp}
use Rattle.qc_list.specs.Vocabulary.{In, by_order}
use Rattle.qc_stamp.specs.declared.stamp.TxId.{TxId}
use Rattle.qc_stamp.specs.Vocabulary.{same_tx}
use Rattle.qc_stamp.proofs.Orders.{first_Equal, nat_apart, second_Equal, same_tx_is}
use Rattle.qc_entry.specs.declared.line.Line.{Line}
use Rattle.qc_entry.specs.declared.line.OwnLine.{OwnLine}
use Rattle.qc_entry.specs.declared.line.ReadLock.{ReadLock}
use Rattle.qc_entry.specs.declared.record.Prepared.{Prepared}
use Rattle.qc_decl.specs.declared.declaration.Declaration.{Declaration}
use Rattle.qc_lock.specs.declared.held.Held.{Held}
use Rattle.qc_lock.specs.Vocabulary.{entry_of, held_of, lock_cmp, own_cmp, with_held, with_lock, with_locks, with_own}
use Rattle.qc_lock.specs.Vocabulary.{with_owns, without_held}
use Rattle.qc_lock.proofs.Entries.{entry-without, entry-without_other, held-without_other, locks_given, others_stay}
use Rattle.qc_lock.proofs.Entries.{own_given}
use Rattle.qc_msg.specs.declared.message.Message.{Message}
use Rattle.qc_msg.specs.declared.message.Message.TheVariants as messages
use Rattle.qc_msg.specs.declared.message.Outcome.{Outcome}
use Rattle.qc_msg.specs.declared.message.Outcome.TheVariants.{Committed, Aborted, Active}
use Rattle.qc_msg.specs.declared.message.Want.TheVariants.{Read, Append}
use Rattle.qc_msg.specs.declared.payload.ReadRequest.{ReadRequest}
use Rattle.qc_site.specs.Vocabulary.{HasOperation, SiteMove, SiteState, ends, finishes, grants_in, is_final, passed}
use Rattle.qc_site.specs.Vocabulary.{prepared_of, site_at, site_on, without_prepared}
use Rattle.qc_site.proofs.RequestCases.{append_cases, fault_grants_not, never, join_cases, read_cases, request_cases}
use Rattle.qc_site.proofs.Cases.{steady_cases, IsSteady}
use Rattle.qc_site.proofs.Votes.{not_ended, prepared-without, prepared-without_other}

-- insertion keeps locks, and operations of own lines

pub lock_apart : (a b : ReadLock) → lock_cmp a b ≡ Equal → a ≡ b
lock_apart a b h =
    let object : a.object ≡ b.object = nat_apart _ _ (first_Equal _ _ h) in
    let inv : a.inv ≡ b.inv = nat_apart _ _ (second_Equal (nat_cmp a.object b.object) _ h) in
    λ i. record { object = object i; inv = inv i }

pub locked_more : (ls : List ReadLock) (lock x : ReadLock) → In x ls → In x (with_lock ls lock)
locked_more [] lock x member = absurd member
locked_more (l ∷ ls) lock x member = by (lock_cmp lock l) refl (locked_more ls lock x) member
  where
    by : (order : Ordering) → lock_cmp lock l ≡ order → (In x ls → In x (with_lock ls lock)) → In x (l ∷ ls)
        → In x (by_order order (lock ∷ l ∷ ls) (lock ∷ ls) (l ∷ with_lock ls lock))
    by Less is rest member = inr member
    by Equal is rest (inl same) = inl (same ∙ sym (lock_apart lock l is))
    by Equal is rest (inr member) = inr member
    by Greater is rest (inl same) = inl same
    by Greater is rest (inr member) = inr (rest member)

pub locks_more : (ls others : List ReadLock) (x : ReadLock) → In x ls → In x (with_locks ls others)
locks_more ls [] x member = member
locks_more ls (o ∷ os) x member = locks_more (with_lock ls o) os x (locked_more ls o x member)

operation_more : (own : List OwnLine) (line : OwnLine) (op : ℕ) → HasOperation op own
    → HasOperation op (with_own own line)
operation_more [] line op has = absurd has
operation_more (o ∷ os) line op has = by (own_cmp line o) refl (operation_more os line op) has
  where
    by : (order : Ordering) → own_cmp line o ≡ order → (HasOperation op os → HasOperation op (with_own os line))
        → HasOperation op (o ∷ os) → HasOperation op (by_order order (line ∷ o ∷ os) (line ∷ os) (o ∷ with_own os line))
    by Less is rest has = inr has
    by Equal is rest (inl same) = inl (nat_apart line.op o.op is ∙ same)
    by Equal is rest (inr has) = inr has
    by Greater is rest (inl same) = inl same
    by Greater is rest (inr has) = inr (rest has)

operations_more : (own others : List OwnLine) (op : ℕ) → HasOperation op own → HasOperation op (with_owns own others)
operations_more own [] op has = has
operations_more own (o ∷ os) op has = operations_more (with_own own o) os op (operation_more own o op has)

-- what a transaction holds, as something is given to one, or one is dropped

same_held : (held next : List Held) (tx : TxId) → entry_of next tx ≡ entry_of held tx
    → held_of next tx ≡ held_of held tx
same_held held next tx same = ap (λ (o : Option Held). unwrap_or o (record { tx = tx; locks = []; own = [] })) same

given_locks : (held : List Held) (tx other : TxId) (locks : List ReadLock) (own : List OwnLine) (x : ReadLock)
    → In x (held_of held tx).locks → In x (held_of (with_held held other locks own) tx).locks
given_locks held tx other locks own x member = by (same_tx other tx) refl
  where
    by : (t : Bool) → same_tx other tx ≡ t → In x (held_of (with_held held other locks own) tx).locks
    by true is =
        let same : tx ≡ other = sym (same_tx_is other tx is) in
        subst (λ (ls : List ReadLock). In x ls)
        (sym (subst (λ (t : TxId). (held_of (with_held held t locks own) tx).locks ≡ with_locks
        (held_of held tx).locks locks) same (locks_given held tx locks own)))
        (locks_more (held_of held tx).locks locks x member)
    by false is = subst (λ (h : Held). In x h.locks)
        (sym (same_held held (with_held held other locks own) tx (others_stay held other tx locks own is))) member

given_own : (held : List Held) (tx other : TxId) (locks : List ReadLock) (own : List OwnLine) (op : ℕ)
    → HasOperation op (held_of held tx).own → HasOperation op (held_of (with_held held other locks own) tx).own
given_own held tx other locks own op has = by (same_tx other tx) refl
  where
    by : (t : Bool) → same_tx other tx ≡ t → HasOperation op (held_of (with_held held other locks own) tx).own
    by true is =
        let same : tx ≡ other = sym (same_tx_is other tx is) in
        subst (λ (os : List OwnLine). HasOperation op os)
        (sym (subst (λ (t : TxId). (held_of (with_held held t locks own) tx).own ≡ with_owns (held_of held tx).own own)
        same (own_given held tx locks own)))
        (operations_more (held_of held tx).own own op has)
    by false is = subst (λ (h : Held). HasOperation op h.own)
        (sym (same_held held (with_held held other locks own) tx (others_stay held other tx locks own is))) has

-- what is held stays

kept_at : (P : Held → Type 0) (decl : Declaration) (s : SiteState) (from number : ℕ) (message : Message) (tx : TxId)
    → ((other : TxId) (locks : List ReadLock) (own : List OwnLine) → P (held_of (with_held s.held other locks own) tx))
    → P (held_of s.held tx) → ends message tx ≡ false → IsSteady (site_at decl s from number message).turn
    → P (held_of (site_at decl s from number message).site.held tx)
kept_at P decl s from number message tx given here ongoing =
    steady_cases (λ (x : SiteState). P (held_of x.held tx)) decl s from number message here
    (λ t epoch life r same. given t (record { object = r.object; inv = r.inv } ∷ []) [])
    (λ t epoch life object view own same. given t [] own)
    (λ t. here) drops (λ t stamp q same. drops t (Committed stamp) same refl)
  where
    drops : (t : TxId) (verdict : Outcome) → message ≡ messages.Decision t verdict → is_final verdict ≡ true
        → P (held_of (without_held s.held t) tx)
    drops t verdict same final =
        let unended : (is_final verdict && same_tx t tx) ≡ false =
        subst (λ (m : Message). ends m tx ≡ false) same ongoing in
        subst P (sym (held-without_other s.held t tx (not_ended (is_final verdict) (same_tx t tx) unended final))) here

pub lock_stays : (decl : Declaration) (s : SiteState) (from number : ℕ) (message : Message) (tx : TxId)
    (lock : ReadLock)
    → In lock (held_of s.held tx).locks → ends message tx ≡ false → IsSteady (site_on decl s from number message).turn
    → In lock (held_of (site_on decl s from number message).site.held tx).locks
lock_stays decl s from number message tx lock member ongoing =
    kept_at (λ (h : Held). In lock h.locks) decl (passed s message) from number message tx
    (λ other locks own. given_locks s.held tx other locks own lock member) member ongoing

pub operation_stays : (decl : Declaration) (s : SiteState) (from number : ℕ) (message : Message) (tx : TxId) (op : ℕ)
    → HasOperation op (held_of s.held tx).own → ends message tx ≡ false
    → IsSteady (site_on decl s from number message).turn
    → HasOperation op (held_of (site_on decl s from number message).site.held tx).own
operation_stays decl s from number message tx op has ongoing =
    kept_at (λ (h : Held). HasOperation op h.own) decl (passed s message) from number message tx
    (λ other locks own. given_own s.held tx other locks own op has) has ongoing

-- what is granted is held

abbrev Locks : SiteState → TxId → ReadLock → SiteMove → Type 0
Locks s tx lock m = grants_in m.turn ≡ true
    → (held_of m.site.held tx).locks ≡ with_locks (held_of s.held tx).locks (lock ∷ [])

read_holds_at : (decl : Declaration) (s : SiteState) (from number : ℕ) (tx : TxId) (epoch life : ℕ) (r : ReadRequest)
    → Locks s tx (record { object = r.object; inv = r.inv })
    (site_at decl s from number (messages.Request tx epoch life (Read r)))
read_holds_at decl s from number tx epoch life r =
    request_cases (Locks s tx (record { object = r.object; inv = r.inv })) decl s from number tx epoch life
    (Read r) never
    (λ fault is. fault_grants_not _ s epoch life fault is)
    (λ is. read_cases (Locks s tx (record { object = r.object; inv = r.inv })) decl s from number tx r
    (λ free granted. locks_given s.held tx (record { object = r.object; inv = r.inv } ∷ []) []) (λ c clash. never))

pub read_holds : (decl : Declaration) (s : SiteState) (from number : ℕ) (tx : TxId) (epoch life : ℕ) (r : ReadRequest)
    → Locks s tx (record { object = r.object; inv = r.inv })
    (site_on decl s from number (messages.Request tx epoch life (Read r)))
read_holds decl s from number tx epoch life r =
    read_holds_at decl (passed s (messages.Request tx epoch life (Read r))) from number tx epoch life r

abbrev Owns : SiteState → TxId → List OwnLine → SiteMove → Type 0
Owns s tx own m = grants_in m.turn ≡ true → (held_of m.site.held tx).own ≡ with_owns (held_of s.held tx).own own

append_holds_at : (decl : Declaration) (s : SiteState) (from number : ℕ) (tx : TxId) (epoch life object : ℕ)
    (view : List Line) (own : List OwnLine)
    → Owns s tx own (site_at decl s from number (messages.Request tx epoch life (Append object view own)))
append_holds_at decl s from number tx epoch life object view own =
    request_cases (Owns s tx own) decl s from number tx epoch life (Append object view own) never
    (λ fault is. fault_grants_not _ s epoch life fault is)
    (λ is. append_cases (Owns s tx own) decl s from number tx object view own
    (λ free granted. own_given s.held tx [] own) (λ c clash. never))

pub append_holds : (decl : Declaration) (s : SiteState) (from number : ℕ) (tx : TxId) (epoch life object : ℕ)
    (view : List Line) (own : List OwnLine)
    → Owns s tx own (site_on decl s from number (messages.Request tx epoch life (Append object view own)))
append_holds decl s from number tx epoch life object view own =
    append_holds_at decl (passed s (messages.Request tx epoch life (Append object view own))) from number tx epoch life
    object view own

-- a decision drops what its transaction holds and what is promised of it, and nothing else

finished : (s : SiteState) (tx : TxId) (verdict : Outcome) → is_final verdict ≡ true
    → ((finishes s tx verdict).site.held ≡ without_held s.held tx)
    × ((finishes s tx verdict).site.prepared ≡ without_prepared s.prepared tx)
finished s tx (Committed stamp) final =
    join_cases (λ (m : SiteMove). (m.site.held ≡ without_held s.held tx)
    × (m.site.prepared ≡ without_prepared s.prepared tx)) s tx stamp (λ none. (refl, refl)) (λ p some. (refl, refl))
finished s tx Aborted final = (refl, refl)
finished s tx Active final = never final

pub frees_held : (decl : Declaration) (s : SiteState) (from number : ℕ) (tx : TxId) (verdict : Outcome)
    → is_final verdict ≡ true
    → entry_of (site_on decl s from number (messages.Decision tx verdict)).site.held tx ≡ None
frees_held decl s from number tx verdict final =
    ap (λ (held : List Held). entry_of held tx) (finished (passed s (messages.Decision tx verdict)) tx verdict final).0
    ∙ entry-without s.held tx

pub frees_prepared : (decl : Declaration) (s : SiteState) (from number : ℕ) (tx : TxId) (verdict : Outcome)
    → is_final verdict ≡ true
    → prepared_of (site_on decl s from number (messages.Decision tx verdict)).site.prepared tx ≡ None
frees_prepared decl s from number tx verdict final =
    ap (λ (ps : List Prepared). prepared_of ps tx)
    (finished (passed s (messages.Decision tx verdict)) tx verdict final).1 ∙ prepared-without s.prepared tx

pub others_held : (decl : Declaration) (s : SiteState) (from number : ℕ) (tx other : TxId) (verdict : Outcome)
    → is_final verdict ≡ true → same_tx tx other ≡ false
    → entry_of (site_on decl s from number (messages.Decision tx verdict)).site.held other ≡ entry_of s.held other
others_held decl s from number tx other verdict final apart =
    ap (λ (held : List Held). entry_of held other)
    (finished (passed s (messages.Decision tx verdict)) tx verdict final).0
    ∙ entry-without_other s.held tx other apart

pub others_prepared : (decl : Declaration) (s : SiteState) (from number : ℕ) (tx other : TxId) (verdict : Outcome)
    → is_final verdict ≡ true → same_tx tx other ≡ false
    → prepared_of (site_on decl s from number (messages.Decision tx verdict)).site.prepared other
    ≡ prepared_of s.prepared other
others_prepared decl s from number tx other verdict final apart =
    ap (λ (ps : List Prepared). prepared_of ps other)
    (finished (passed s (messages.Decision tx verdict)) tx verdict final).1
    ∙ prepared-without_other s.prepared tx other apart

-- What a site answers: grants that conflict with nothing, refusals that change nothing, clashes that are smallest.
use Rattle.std.proofs.Common.{◌≡◌, ℕ, true, false, List, Option, Some, None, refl, ap, ◌∙◌, subst}
use Rattle.qc_stamp.specs.declared.stamp.TxId.{TxId}
use Rattle.qc_entry.specs.declared.line.Line.{Line}
use Rattle.qc_entry.specs.declared.line.OwnLine.{OwnLine}
use Rattle.qc_entry.specs.declared.line.ReadLock.{ReadLock}
use Rattle.qc_decl.specs.declared.declaration.Declaration.{Declaration}
use Rattle.qc_table.specs.Vocabulary.{depends}
use Rattle.qc_lock.specs.declared.clash.Clash.{Clash as Conflict}
use Rattle.qc_lock.specs.declared.held.Held.{Held}
use Rattle.qc_lock.specs.Vocabulary.{In, IsAppendConflict, IsReadConflict, IsSmallest, append_clash, read_clash}
use Rattle.qc_lock.specs.Vocabulary.{same_tx}
use Rattle.qc_lock.proofs.Conflicts.{granted_appends_conflict_with_nothing, appends_are_refused_on_conflict}
use Rattle.qc_lock.proofs.Conflicts.{granted_reads_conflict_with_nothing, reads_are_refused_on_conflict}
use Rattle.qc_msg.specs.declared.message.Answer.{Answer}
use Rattle.qc_msg.specs.declared.message.Answer.TheVariants as says
use Rattle.qc_msg.specs.declared.message.Message.{Message}
use Rattle.qc_msg.specs.declared.message.Message.TheVariants as messages
use Rattle.qc_msg.specs.declared.message.Outcome.TheVariants.{Committed, Aborted, Active}
use Rattle.qc_msg.specs.declared.message.Want.{Want}
use Rattle.qc_msg.specs.declared.message.Want.TheVariants.{Read, Append, Prepare}
use Rattle.qc_msg.specs.declared.turn.Turn.{Turn}
use Rattle.qc_msg.specs.declared.payload.ReadRequest.{ReadRequest}
use Rattle.qc_site.specs.Vocabulary.{SiteMove, SiteState, answer_of, answers, clashing, fault_of, grants, grants_in}
use Rattle.qc_site.specs.Vocabulary.{passed, refuses_in, relation_at, site_at, site_on}
use Rattle.qc_site.proofs.RequestCases.{append_cases, close_cases, fault_grants_not, fault_is, never, join_cases}
use Rattle.qc_site.proofs.RequestCases.{prepare_cases, read_cases, request_cases}
use Rattle.qc_site.proofs.Cases.{install_cases}

-- what is granted conflicts with nothing

read_free_at : (decl : Declaration) (s : SiteState) (from number : ℕ) (tx : TxId) (epoch life : ℕ) (r : ReadRequest)
    (holder : Held) (line : OwnLine)
    → In holder s.held → same_tx holder.tx tx ≡ false → In line holder.own → line.object ≡ r.object
    → grants_in (site_at decl s from number (messages.Request tx epoch life (Read r))).turn ≡ true
    → depends (relation_at decl r.object) r.inv line.event ≡ false
read_free_at decl s from number tx epoch life r holder line holds another own here =
    request_cases (λ (m : SiteMove). grants_in m.turn ≡ true
    → depends (relation_at decl r.object) r.inv line.event ≡ false)
    decl s from number tx epoch life (Read r)
    never
    (λ fault is. fault_grants_not (depends (relation_at decl r.object) r.inv line.event ≡ false) s epoch life fault is)
    (λ is. read_cases (λ (m : SiteMove). grants_in m.turn ≡ true
    → depends (relation_at decl r.object) r.inv line.event ≡ false) decl s from number tx r
    (λ free yes. granted_reads_conflict_with_nothing (relation_at decl r.object) s.held tx r.object r.inv holder line
    free holds another own here)
    (λ c clash. never))

pub read_conflicts_not : (decl : Declaration) (s : SiteState) (from number : ℕ) (tx : TxId) (epoch life : ℕ)
    (r : ReadRequest) (holder : Held) (line : OwnLine)
    → grants_in (site_on decl s from number (messages.Request tx epoch life (Read r))).turn ≡ true
    → In holder s.held → same_tx holder.tx tx ≡ false → In line holder.own → line.object ≡ r.object
    → depends (relation_at decl r.object) r.inv line.event ≡ false
read_conflicts_not decl s from number tx epoch life r holder line granted holds another own here =
    read_free_at decl (passed s (messages.Request tx epoch life (Read r))) from number tx epoch life r
    holder line holds another own here granted

append_free_at : (decl : Declaration) (s : SiteState) (from number : ℕ) (tx : TxId) (epoch life object : ℕ)
    (view : List Line) (own : List OwnLine)
    (line : OwnLine) (holder : Held) (lock : ReadLock)
    → In line own → In holder s.held → same_tx holder.tx tx ≡ false → In lock holder.locks → lock.object ≡ line.object
    → grants_in (site_at decl s from number (messages.Request tx epoch life (Append object view own))).turn ≡ true
    → depends (relation_at decl object) lock.inv line.event ≡ false
append_free_at decl s from number tx epoch life object view own line holder lock given holds another locked here =
    request_cases (λ (m : SiteMove). grants_in m.turn ≡ true
    → depends (relation_at decl object) lock.inv line.event ≡ false) decl s from number tx epoch life
    (Append object view own)
    never (λ fault is. fault_grants_not (depends (relation_at decl object) lock.inv line.event ≡ false) s epoch life
    fault is)
    (λ is. append_cases (λ (m : SiteMove). grants_in m.turn ≡ true
    → depends (relation_at decl object) lock.inv line.event ≡ false) decl s from number tx object view own
    (λ free yes. granted_appends_conflict_with_nothing (relation_at decl object) s.held tx own line holder lock free
    given holds another locked
    here)
    (λ c clash. never))

pub append_conflicts_not : (decl : Declaration) (s : SiteState) (from number : ℕ) (tx : TxId) (epoch life object : ℕ)
    (view : List Line) (own : List OwnLine)
    (line : OwnLine) (holder : Held) (lock : ReadLock)
    → grants_in (site_on decl s from number (messages.Request tx epoch life (Append object view own))).turn ≡ true
    → In line own → In holder s.held → same_tx holder.tx tx ≡ false → In lock holder.locks → lock.object ≡ line.object
    → depends (relation_at decl object) lock.inv line.event ≡ false
append_conflicts_not decl s from number tx epoch life object view own line holder lock granted given holds another
    locked here =
    append_free_at decl (passed s (messages.Request tx epoch life (Append object view own))) from number tx epoch life
    object view own line holder lock given holds another locked here granted

-- what is refused changes nothing but the clock, and writes nothing

abbrev Unchanged : SiteState → SiteMove → Type 0
Unchanged s m = refuses_in m.turn ≡ true → (m.site ≡ s) × (m.turn.write ≡ None)

refused_want : (decl : Declaration) (s : SiteState) (from number : ℕ) (tx : TxId) (want : Want)
    → Unchanged s (grants decl s from number tx want)
refused_want decl s from number tx (Read read) =
    read_cases (Unchanged s) decl s from number tx read (λ free. never) (λ c clash yes. (refl, refl))
refused_want decl s from number tx (Append object view own) =
    append_cases (Unchanged s) decl s from number tx object view own (λ free. never) (λ c clash yes. (refl, refl))
refused_want decl s from number tx Prepare =
    prepare_cases (Unchanged s) s from number tx (λ yes. (refl, refl)) (λ held stands. never) (λ held made. never)

refused_at : (decl : Declaration) (s : SiteState) (from number : ℕ) (message : Message)
    → Unchanged s (site_at decl s from number message)
refused_at decl s from number (messages.Request tx epoch life want) =
    request_cases (Unchanged s) decl s from number tx epoch life want never (λ fault is yes. (refl, refl))
    (λ is. refused_want decl s from number tx want)
refused_at decl s from number (messages.Answer to answer) = never
refused_at decl s from number (messages.Decision tx (Committed stamp)) =
    join_cases (Unchanged s) s tx stamp (λ none. never) (λ p some. never)
refused_at decl s from number (messages.Decision tx Aborted) = never
refused_at decl s from number (messages.Decision tx Active) = never
refused_at decl s from number (messages.Inquiry tx) = never
refused_at decl s from number (messages.Ask tx) = never
refused_at decl s from number (messages.Close k) =
    close_cases (Unchanged s) s from number k (λ answer yes. (refl, refl)) (λ near later. never)
refused_at decl s from number (messages.Install start) =
    install_cases (Unchanged s) s from number start.epoch start.clock start.lines (λ answer yes. (refl, refl))
    (λ later fits. never)

pub refusals_change_nothing : (decl : Declaration) (s : SiteState) (from number : ℕ) (message : Message)
    → refuses_in (site_on decl s from number message).turn ≡ true
    → ((site_on decl s from number message).site ≡ passed s message)
    × ((site_on decl s from number message).turn.write ≡ None)
refusals_change_nothing decl s from number message = refused_at decl (passed s message) from number message

-- a clash that is told is the smallest conflict, and its holder's client is asked

fault_clashes_not : (G : Type 0) (s : SiteState) (epoch life : ℕ) (d : Conflict) (fault : Answer)
    → fault_of s epoch life ≡ Some fault → Some fault ≡ Some (says.Clash d.holder d.inv d.event) → G
fault_clashes_not G s epoch life d =
    fault_is (λ (a : Answer). Some a ≡ Some (says.Clash d.holder d.inv d.event) → G) s epoch life
    (λ is. absurd (let none : ⊥ = cc in none)) (λ other is. absurd (let none : ⊥ = cc in none))
    (λ is. absurd (let none : ⊥ = cc in none))

told_by : (decl : Declaration) (from number : ℕ) (IsConflict : Conflict → Type 0) (clash : Option Conflict)
    (c d : Conflict)
    → IsSmallest IsConflict clash → clash ≡ Some c
    → Some (says.Clash c.holder c.inv c.event) ≡ Some (says.Clash d.holder d.inv d.event)
    → IsSmallest IsConflict (Some d) × (clashing decl from number c ≡ clashing decl from number d)
told_by decl from number IsConflict clash c d smallest is told =
    let holder : c.holder ≡ d.holder = cc in
    let inv : c.inv ≡ d.inv = cc in
    let event : c.event ≡ d.event = cc in
    let same : c ≡ d = λ i. record { holder = holder i; inv = inv i; event = event i } in (
      subst (λ (o : Option Conflict). IsSmallest IsConflict o) (is ∙ ap (λ (e : Conflict). Some e) same) smallest,
      ap (λ (e : Conflict). clashing decl from number e) same,
    )

abbrev ToldRead : Declaration → SiteState → ℕ → ℕ → TxId → ReadRequest → Conflict → Turn → Type 0
ToldRead decl s from number tx r d turn =
    answer_of turn ≡ Some (says.Clash d.holder d.inv d.event)
    → IsSmallest (IsReadConflict (relation_at decl r.object) s.held tx r.object r.inv) (Some d)
    × (turn ≡ clashing decl from number d)

read_clash_at : (decl : Declaration) (s : SiteState) (from number : ℕ) (tx : TxId) (epoch life : ℕ) (r : ReadRequest)
    (d : Conflict)
    → ToldRead decl s from number tx r d
    (site_at decl s from number (messages.Request tx epoch life (Read r))).turn
read_clash_at decl s from number tx epoch life r d =
    request_cases (λ (m : SiteMove). ToldRead decl s from number tx r d m.turn) decl s from number tx epoch
    life (Read r)
    (λ is. absurd (let none : ⊥ = cc in none))
    (λ fault is. fault_clashes_not
    (IsSmallest (IsReadConflict (relation_at decl r.object) s.held tx r.object r.inv) (Some d)
    × (answers from number fault ≡ clashing decl from number d)) s epoch life d fault is)
    (λ is. read_cases (λ (m : SiteMove). ToldRead decl s from number tx r d m.turn) decl s from number tx r
    (λ free is. absurd (let none : ⊥ = cc in none))
    (λ c clash. told_by decl from number (IsReadConflict (relation_at decl r.object) s.held tx r.object r.inv)
    (read_clash (relation_at decl r.object) s.held tx r.object r.inv) c d
    (reads_are_refused_on_conflict (relation_at decl r.object) s.held tx r.object r.inv) clash))

pub read_clash_is_smallest : (decl : Declaration) (s : SiteState) (from number : ℕ) (tx : TxId)
    (epoch life : ℕ) (r : ReadRequest) (d : Conflict)
    → ToldRead decl s from number tx r d
    (site_on decl s from number (messages.Request tx epoch life (Read r))).turn
read_clash_is_smallest decl s from number tx epoch life r d =
    read_clash_at decl (passed s (messages.Request tx epoch life (Read r))) from number tx epoch life r d

abbrev ToldAppend : Declaration → SiteState → ℕ → ℕ → TxId → ℕ → List OwnLine → Conflict → Turn → Type 0
ToldAppend decl s from number tx object own d turn =
    answer_of turn ≡ Some (says.Clash d.holder d.inv d.event)
    → IsSmallest (IsAppendConflict (relation_at decl object) s.held tx own) (Some d)
    × (turn ≡ clashing decl from number d)

append_clash_at : (decl : Declaration) (s : SiteState) (from number : ℕ) (tx : TxId) (epoch life object : ℕ)
    (view : List Line) (own : List OwnLine) (d : Conflict)
    → ToldAppend decl s from number tx object own d
    (site_at decl s from number (messages.Request tx epoch life (Append object view own))).turn
append_clash_at decl s from number tx epoch life object view own d =
    request_cases (λ (m : SiteMove). ToldAppend decl s from number tx object own d m.turn) decl s from number tx epoch
    life (Append object view own)
    (λ is. absurd (let none : ⊥ = cc in none))
    (λ fault is. fault_clashes_not (IsSmallest (IsAppendConflict (relation_at decl object) s.held tx own) (Some d)
    × (answers from number fault ≡ clashing decl from number d)) s epoch life d fault is)
    (λ is. append_cases (λ (m : SiteMove). ToldAppend decl s from number tx object own d m.turn) decl s from number tx
    object view own
    (λ free is. absurd (let none : ⊥ = cc in none))
    (λ c clash. told_by decl from number (IsAppendConflict (relation_at decl object) s.held tx own)
    (append_clash (relation_at decl object) s.held tx own) c d
    (appends_are_refused_on_conflict (relation_at decl object) s.held tx own) clash))

pub append_clash_is_smallest : (decl : Declaration) (s : SiteState) (from number : ℕ) (tx : TxId)
    (epoch life object : ℕ) (view : List Line) (own : List OwnLine) (d : Conflict)
    → ToldAppend decl s from number tx object own d
    (site_on decl s from number (messages.Request tx epoch life (Append object view own))).turn
append_clash_is_smallest decl s from number tx epoch life object view own d =
    append_clash_at decl (passed s (messages.Request tx epoch life (Append object view own))) from number tx epoch life
    object view own d

-- A request, a Prepare or a Close to a site: one case for each row.
use Rattle.std.proofs.Common.{◌≡◌, ℕ, ◌+◌, ◌==◌, nat_lt, nat_le, not, Bool, true, false, cond, List, Option, Some, None}
use Rattle.std.proofs.Common.{refl, subst}
use Rattle.qc_stamp.specs.declared.stamp.Stamp.{Stamp}
use Rattle.qc_stamp.specs.declared.stamp.TxId.{TxId}
use Rattle.qc_entry.specs.declared.line.Line.{Line}
use Rattle.qc_entry.specs.declared.line.OwnLine.{OwnLine}
use Rattle.qc_entry.specs.declared.record.Prepared.{Prepared}
use Rattle.qc_decl.specs.declared.declaration.Declaration.{Declaration}
use Rattle.qc_decl.specs.Vocabulary.{most_record_bytes}
use Rattle.qc_lock.specs.declared.clash.Clash.{Clash as Conflict}
use Rattle.qc_lock.specs.Vocabulary.{append_clash, is_held, read_clash}
use Rattle.qc_msg.specs.declared.message.Answer.{Answer}
use Rattle.qc_msg.specs.declared.message.Answer.TheVariants as says
use Rattle.qc_msg.specs.declared.message.Message.TheVariants as messages
use Rattle.qc_msg.specs.declared.message.Outcome.TheVariants.{Committed}
use Rattle.qc_msg.specs.declared.message.Want.{Want}
use Rattle.qc_msg.specs.declared.message.Want.TheVariants.{Read, Append}
use Rattle.qc_msg.specs.declared.record.Record.TheVariants as records
use Rattle.qc_msg.specs.Vocabulary.{epoch_length, quiet, start_with}
use Rattle.qc_msg.specs.declared.payload.ReadRequest.{ReadRequest}
use Rattle.qc_site.specs.Vocabulary.{SiteMove, SiteState, answers, appends, appends_by, clashing, closed, closed_fault}
use Rattle.qc_site.specs.Vocabulary.{closes, dropped, fault_of, finishes, grants, installed, installs, is_closed_for}
use Rattle.qc_site.specs.Vocabulary.{is_grant, is_prepared, joins, moved, names_declared, prepare_length, prepared_of}
use Rattle.qc_site.specs.Vocabulary.{prepares, promise_of, promised, reads, reads_by, recording, relation_at, requested}
use Rattle.qc_site.specs.Vocabulary.{shut_answer, site_at, votes}
use Rattle.qc_list.proofs.Booleans.{not_false}

-- what a test that came out otherwise would show
pub never : {A : Type 0} → false ≡ true → A
never is = absurd (let none : ⊥ = cc in none)

-- a choice by a test
pub choose : {A : Type 0} (P : A → Type 0) (t : Bool) (m n : A) → (t ≡ true → P m) → (t ≡ false → P n) → P (cond t m n)
choose P true m n first second = first refl
choose P false m n first second = second refl

-- what refuses a request by its epoch or life
pub fault_cases : (P : Option Answer → Type 0) (s : SiteState) (epoch life : ℕ)
    → P None → P (Some (says.Behind s.epoch)) → ((other : ℕ) → P (Some (says.Closed other)))
    → P (Some (says.Restarted s.life))
    → P (fault_of s epoch life)
fault_cases P s epoch life none behind closed restarted =
    choose P (nat_lt s.epoch epoch) _ _ (λ is. behind)
    (λ is. choose P (nat_lt epoch s.epoch) _ _ (λ is. closed s.epoch) (λ is. by s.closed_for))
  where
    by : (shut : Option ℕ) → P (closed_fault s life shut)
    by (Some other) = closed other
    by None = choose P (life == 0) _ _ (λ is. none) (λ is. choose P (life == s.life) _ _ (λ is. none) (λ is. restarted))

-- an answer that refuses by epoch or life is one of these
pub fault_is : (P : Answer → Type 0) (s : SiteState) (epoch life : ℕ)
    → P (says.Behind s.epoch) → ((other : ℕ) → P (says.Closed other)) → P (says.Restarted s.life)
    → (fault : Answer) → fault_of s epoch life ≡ Some fault → P fault
fault_is P s epoch life behind closed restarted =
    fault_cases (λ (o : Option Answer). (fault : Answer) → o ≡ Some fault → P fault) s epoch life
    (λ fault is. absurd (let never : ⊥ = cc in never))
    (λ fault is. let same : says.Behind s.epoch ≡ fault = cc in subst P same behind)
    (λ other fault is. let same : says.Closed other ≡ fault = cc in subst P same (closed other))
    (λ fault is. let same : says.Restarted s.life ≡ fault = cc in subst P same restarted)

-- none of these grants
pub fault_grants_not : (G : Type 0) (s : SiteState) (epoch life : ℕ) (fault : Answer)
    → fault_of s epoch life ≡ Some fault → is_grant fault ≡ true → G
fault_grants_not G s epoch life =
    fault_is (λ (a : Answer). is_grant a ≡ true → G) s epoch life never (λ other. never) never

-- a request: what it names isn't declared, it is refused by its epoch or life, or it is looked at
pub request_cases : (P : SiteMove → Type 0) (decl : Declaration) (s : SiteState) (from number : ℕ) (tx : TxId)
    (epoch life : ℕ) (want : Want)
    → P (moved s quiet)
    → ((fault : Answer) → fault_of s epoch life ≡ Some fault → P (moved s (answers from number fault)))
    → (fault_of s epoch life ≡ None → P (grants decl s from number tx want))
    → P (site_at decl s from number (messages.Request tx epoch life want))
request_cases P decl s from number tx epoch life want undeclared refused granted =
    choose P (names_declared decl tx want) _ _ (λ is. by (fault_of s epoch life) refl) (λ is. undeclared)
  where
    by : (o : Option Answer) → fault_of s epoch life ≡ o → P (requested decl s from number tx want o)
    by (Some fault) is = refused fault is
    by None is = granted is

pub read_cases : (P : SiteMove → Type 0) (decl : Declaration) (s : SiteState) (from number : ℕ) (tx : TxId)
    (r : ReadRequest)
    → (read_clash (relation_at decl r.object) s.held tx r.object r.inv ≡ None → P (reads s from number tx r))
    → ((c : Conflict) → read_clash (relation_at decl r.object) s.held tx r.object r.inv ≡ Some c
    → P (moved s (clashing decl from number c)))
    → P (grants decl s from number tx (Read r))
read_cases P decl s from number tx r free clash =
    by (read_clash (relation_at decl r.object) s.held tx r.object r.inv) refl
  where
    by : (o : Option Conflict) → read_clash (relation_at decl r.object) s.held tx r.object r.inv ≡ o
        → P (reads_by decl s from number tx r o)
    by None is = free is
    by (Some c) is = clash c is

pub append_cases : (P : SiteMove → Type 0) (decl : Declaration) (s : SiteState) (from number : ℕ) (tx : TxId)
    (object : ℕ) (view : List Line) (own : List OwnLine)
    → (append_clash (relation_at decl object) s.held tx own ≡ None → P (appends s from number tx view own))
    → ((c : Conflict) → append_clash (relation_at decl object) s.held tx own ≡ Some c
    → P (moved s (clashing decl from number c)))
    → P (grants decl s from number tx (Append object view own))
append_cases P decl s from number tx object view own free clash =
    by (append_clash (relation_at decl object) s.held tx own) refl
  where
    by : (o : Option Conflict) → append_clash (relation_at decl object) s.held tx own ≡ o
        → P (appends_by decl s from number tx view own o)
    by None is = free is
    by (Some c) is = clash c is

-- a Prepare: it is refused, a promise stands, or one is made
pub prepare_cases : (P : SiteMove → Type 0) (s : SiteState) (from number : ℕ) (tx : TxId)
    → P (moved s (answers from number says.Stale))
    → (is_held s.held tx ≡ true → is_prepared s.prepared tx ≡ true
    → P (moved s (answers from number (says.Yes s.clock))))
    → (is_held s.held tx ≡ true → is_prepared s.prepared tx ≡ false
    → P (moved (promised s (promise_of s tx)) (votes s from number (promise_of s tx))))
    → P (prepares s from number tx)
prepare_cases P s from number tx stale stands made =
    choose P (not (is_held s.held tx)) _ _ (λ is. stale)
    (λ is. choose P (is_prepared s.prepared tx) _ _ (stands (not_false (is_held s.held tx) is))
    (λ apart. choose P (nat_le (prepare_length (promise_of s tx)) most_record_bytes) _ _
    (λ fits. made (not_false (is_held s.held tx) is) apart) (λ long. stale)))

pub join_cases : (P : SiteMove → Type 0) (s : SiteState) (tx : TxId) (stamp : Stamp)
    → (prepared_of s.prepared tx ≡ None → P (moved (dropped s tx) quiet))
    → ((p : Prepared) → prepared_of s.prepared tx ≡ Some p → P (joins s tx stamp (Some p)))
    → P (finishes s tx (Committed stamp))
join_cases P s tx stamp none some = by (prepared_of s.prepared tx) refl
  where
    by : (o : Option Prepared) → prepared_of s.prepared tx ≡ o → P (joins s tx stamp o)
    by None is = none is
    by (Some p) is = some p is

-- a Close, by its rows, and an Install
pub close_rows : (P : SiteMove → Type 0) (s : SiteState) (from number k : ℕ)
    → P (moved s (answers from number (says.Behind s.epoch)))
    → P (moved s (answers from number (says.Closed s.epoch)))
    → P (moved s (answers from number (shut_answer s)))
    → P (moved (closed s k) (recording from number (records.Close k) (shut_answer (closed s k))))
    → P (closes s from number k)
close_rows P s from number k behind closed again made =
    choose P (nat_lt (s.epoch + 1) k) _ _ (λ is. behind)
    (λ near. choose P (nat_le k s.epoch) _ _ (λ is. closed)
    (λ later. choose P (is_closed_for k s.closed_for) _ _ (λ is. again) (λ first. made)))

pub install_rows : (P : SiteMove → Type 0) (s : SiteState) (from number k clock : ℕ) (lines : List Line)
    → P (moved s (answers from number says.Installed))
    → P (moved s (answers from number (says.Behind s.epoch)))
    → P
    (moved (installed s k clock lines)
    (recording from number (records.Install (start_with k clock lines)) says.Installed))
    → P (installs s from number k clock lines)
install_rows P s from number k clock lines known long made =
    choose P (nat_le k s.epoch) _ _ (λ is. known)
    (λ later. choose P (nat_le (epoch_length lines) most_record_bytes) _ _ (λ fits. made) (λ is. long))

-- a Close: it is answered and no more, or the site closes
pub close_cases : (P : SiteMove → Type 0) (s : SiteState) (from number k : ℕ)
    → ((answer : Answer) → P (moved s (answers from number answer)))
    → (nat_lt (s.epoch + 1) k ≡ false → nat_le k s.epoch ≡ false
    → P (moved (closed s k) (recording from number (records.Close k) (shut_answer (closed s k)))))
    → P (closes s from number k)
close_cases P s from number k told made =
    choose P (nat_lt (s.epoch + 1) k) _ _ (λ is. told (says.Behind s.epoch))
    (λ near. choose P (nat_le k s.epoch) _ _ (λ is. told (says.Closed s.epoch))
    (λ later. choose P (is_closed_for k s.closed_for) _ _ (λ is. told (shut_answer s)) (λ first. made near later)))

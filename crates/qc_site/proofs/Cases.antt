-- What a site may become and do: one case for each row.
use Rattle.std.proofs.Common.{◌≡◌, ℕ, nat_le, true, false, List, Some, refl, ◌∙◌}
use Rattle.qc_stamp.specs.declared.stamp.Stamp.{Stamp}
use Rattle.qc_stamp.specs.declared.stamp.TxId.{TxId}
use Rattle.qc_entry.specs.declared.line.Line.{Line}
use Rattle.qc_entry.specs.declared.line.OwnLine.{OwnLine}
use Rattle.qc_entry.specs.declared.record.Prepared.{Prepared}
use Rattle.qc_decl.specs.declared.declaration.Declaration.{Declaration}
use Rattle.qc_decl.specs.Vocabulary.{most_record_bytes}
use Rattle.qc_msg.specs.declared.message.Answer.{Answer}
use Rattle.qc_msg.specs.declared.message.Answer.TheVariants as says
use Rattle.qc_msg.specs.declared.message.Message.{Message}
use Rattle.qc_msg.specs.declared.message.Message.TheVariants as messages
use Rattle.qc_msg.specs.declared.message.Outcome.{Outcome}
use Rattle.qc_msg.specs.declared.message.Outcome.TheVariants.{Committed, Aborted, Active}
use Rattle.qc_msg.specs.declared.message.Want.TheVariants.{Read, Append, Prepare}
use Rattle.qc_msg.specs.declared.record.Record.TheVariants as records
use Rattle.qc_msg.specs.declared.turn.Turn.{Turn}
use Rattle.qc_msg.specs.Vocabulary.{epoch_length}
use Rattle.qc_msg.specs.declared.payload.ReadRequest.{ReadRequest}
use Rattle.qc_msg.specs.Vocabulary.{start_with}
use Rattle.qc_site.specs.Vocabulary.{SiteMove, SiteState, answers, appends, closed, closes_in, dropped, installed}
use Rattle.qc_site.specs.Vocabulary.{installs, installs_in, is_final, joins, moved, promise_of, promised, reads}
use Rattle.qc_site.specs.Vocabulary.{recording, site_at}
use Rattle.qc_site.proofs.RequestCases.{never, choose, request_cases, read_cases, append_cases, prepare_cases}
use Rattle.qc_site.proofs.RequestCases.{join_cases, close_cases}

-- an Install: it is answered and no more, or the site begins the epoch
pub install_cases : (P : SiteMove → Type 0) (s : SiteState) (from number k clock : ℕ) (lines : List Line)
    → ((answer : Answer) → P (moved s (answers from number answer)))
    → (nat_le k s.epoch ≡ false → nat_le (epoch_length lines) most_record_bytes ≡ true
    → P
    (moved (installed s k clock lines)
    (recording from number (records.Install (start_with k clock lines)) says.Installed)))
    → P (installs s from number k clock lines)
install_cases P s from number k clock lines told made =
    choose P (nat_le k s.epoch) _ _ (λ is. told says.Installed)
    (λ later. choose P (nat_le (epoch_length lines) most_record_bytes) _ _ (made later)
    (λ long. told (says.Behind s.epoch)))

-- the state alone: as it was, or changed by a grant, a promise or a decision, or as an epoch is closed or begun
pub state_cases : (P : SiteState → Type 0) (decl : Declaration) (s : SiteState) (from number : ℕ) (message : Message)
    → P s
    → ((tx : TxId) (epoch life : ℕ) (r : ReadRequest) → message ≡ messages.Request tx epoch life (Read r)
    → P (reads s from number tx r).site)
    →
    ((tx : TxId) (epoch life object : ℕ) (view : List Line) (own : List OwnLine)
    → message ≡ messages.Request tx epoch life (Append object view own)
    → P (appends s from number tx view own).site)
    → ((tx : TxId) → P (promised s (promise_of s tx)))
    → ((tx : TxId) (verdict : Outcome) → message ≡ messages.Decision tx verdict → is_final verdict ≡ true
    → P (dropped s tx))
    → ((tx : TxId) (stamp : Stamp) (p : Prepared) → message ≡ messages.Decision tx (Committed stamp)
    → P (joins s tx stamp (Some p)).site)
    → ((k : ℕ) → message ≡ messages.Close k → P (closed s k))
    → ((k clock : ℕ) (lines : List Line) → message ≡ messages.Install (start_with k clock lines)
    → nat_le k s.epoch ≡ false
    → P (installed s k clock lines))
    → P (site_at decl s from number message).site
state_cases P decl s from number (messages.Request tx epoch life (Read read_here)) same read append promise drop join
    close install =
    request_cases (λ m. P m.site) decl s from number tx epoch life (Read read_here) same (λ fault is. same)
    (λ is. read_cases (λ m. P m.site) decl s from number tx read_here
    (λ free. read tx epoch life read_here refl)
    (λ c clash. same))
state_cases P decl s from number (messages.Request tx epoch life (Append object view own)) same read append promise drop
    join close install =
    request_cases (λ m. P m.site) decl s from number tx epoch life (Append object view own) same (λ fault is. same)
    (λ is. append_cases (λ m. P m.site) decl s from number tx object view own
    (λ free. append tx epoch life object view own refl) (λ c clash. same))
state_cases P decl s from number (messages.Request tx epoch life Prepare) same read append promise drop join close
    install =
    request_cases (λ m. P m.site) decl s from number tx epoch life Prepare same (λ fault is. same)
    (λ is. prepare_cases (λ m. P m.site) s from number tx same (λ held stands. same) (λ held made. promise tx))
state_cases P decl s from number (messages.Answer to answer) same read append promise drop join close install = same
state_cases P decl s from number (messages.Decision tx (Committed stamp)) same read append promise drop join close
    install =
    join_cases (λ m. P m.site) s tx stamp (λ none. drop tx (Committed stamp) refl refl) (λ p some. join tx stamp p refl)
state_cases P decl s from number (messages.Decision tx Aborted) same read append promise drop join close install =
    drop tx Aborted refl refl
state_cases P decl s from number (messages.Decision tx Active) same read append promise drop join close install = same
state_cases P decl s from number (messages.Inquiry tx) same read append promise drop join close install = same
state_cases P decl s from number (messages.Ask tx) same read append promise drop join close install = same
state_cases P decl s from number (messages.Close k) same read append promise drop join close install =
    close_cases (λ m. P m.site) s from number k (λ answer. same) (λ near later. close k refl)
state_cases P decl s from number (messages.Install start) same read append promise drop join close install =
    install_cases (λ m. P m.site) s from number start.epoch start.clock start.lines (λ answer. same)
    (λ later fits. install start.epoch start.clock start.lines refl later)

-- the same where the turn begins no epoch
pub lasting_cases : (P : SiteState → Type 0) (decl : Declaration) (s : SiteState) (from number : ℕ) (message : Message)
    → P s
    → ((tx : TxId) (epoch life : ℕ) (r : ReadRequest) → message ≡ messages.Request tx epoch life (Read r)
    → P (reads s from number tx r).site)
    →
    ((tx : TxId) (epoch life object : ℕ) (view : List Line) (own : List OwnLine)
    → message ≡ messages.Request tx epoch life (Append object view own)
    → P (appends s from number tx view own).site)
    → ((tx : TxId) → P (promised s (promise_of s tx)))
    → ((tx : TxId) (verdict : Outcome) → message ≡ messages.Decision tx verdict → is_final verdict ≡ true
    → P (dropped s tx))
    → ((tx : TxId) (stamp : Stamp) (p : Prepared) → message ≡ messages.Decision tx (Committed stamp)
    → P (joins s tx stamp (Some p)).site)
    → ((k : ℕ) → message ≡ messages.Close k → P (closed s k))
    → installs_in (site_at decl s from number message).turn ≡ false
    → P (site_at decl s from number message).site
lasting_cases P decl s from number message same read append promise drop join close = by message refl
  where
    others : (m : Message) → message ≡ m
        → ((k clock : ℕ) (lines : List Line) → m ≡ messages.Install (start_with k clock lines) → ⊥)
        → P (site_at decl s from number m).site
    others m is never =
        state_cases P decl s from number m same
        (λ tx epoch life r this. read tx epoch life r (is ∙ this))
        (λ tx epoch life object view own this. append tx epoch life object view own (is ∙ this))
        promise (λ tx verdict this. drop tx verdict (is ∙ this)) (λ tx stamp p this. join tx stamp p (is ∙ this))
        (λ k this. close k (is ∙ this)) (λ k clock lines this later. absurd (never k clock lines this))

    by : (m : Message) → message ≡ m → installs_in (site_at decl s from number m).turn ≡ false
        → P (site_at decl s from number m).site
    by (messages.Request tx epoch life want) is lasts =
        others (messages.Request tx epoch life want) is (λ k clock lines this. let none : ⊥ = cc in none)
    by (messages.Answer to answer) is lasts = same
    by (messages.Decision tx verdict) is lasts =
        others (messages.Decision tx verdict) is (λ k clock lines this. let none : ⊥ = cc in none)
    by (messages.Inquiry tx) is lasts = same
    by (messages.Ask tx) is lasts = same
    by (messages.Close k) is lasts = others (messages.Close k) is (λ n clock lines this. let none : ⊥ = cc in none)
    by (messages.Install start) is lasts =
        install_cases (λ m. installs_in m.turn ≡ false → P m.site) s from number start.epoch start.clock start.lines
        (λ answer none. same)
        (λ later fits none. absurd (let clash : ⊥ = cc in clash)) lasts

-- and where it closes none either

abbrev pub IsSteady : Turn → Type 0
IsSteady turn = (closes_in turn ≡ false) × (installs_in turn ≡ false)

pub steady_cases : (P : SiteState → Type 0) (decl : Declaration) (s : SiteState) (from number : ℕ) (message : Message)
    → P s
    → ((tx : TxId) (epoch life : ℕ) (r : ReadRequest) → message ≡ messages.Request tx epoch life (Read r)
    → P (reads s from number tx r).site)
    →
    ((tx : TxId) (epoch life object : ℕ) (view : List Line) (own : List OwnLine)
    → message ≡ messages.Request tx epoch life (Append object view own)
    → P (appends s from number tx view own).site)
    → ((tx : TxId) → P (promised s (promise_of s tx)))
    → ((tx : TxId) (verdict : Outcome) → message ≡ messages.Decision tx verdict → is_final verdict ≡ true
    → P (dropped s tx))
    → ((tx : TxId) (stamp : Stamp) (p : Prepared) → message ≡ messages.Decision tx (Committed stamp)
    → P (joins s tx stamp (Some p)).site)
    → IsSteady (site_at decl s from number message).turn
    → P (site_at decl s from number message).site
steady_cases P decl s from number message same read append promise drop join = by message refl
  where
    others : (m : Message) → message ≡ m → ((k : ℕ) → m ≡ messages.Close k → ⊥)
        → IsSteady (site_at decl s from number m).turn → P (site_at decl s from number m).site
    others m is never steady =
        lasting_cases P decl s from number m same
        (λ tx epoch life r this. read tx epoch life r (is ∙ this))
        (λ tx epoch life object view own this. append tx epoch life object view own (is ∙ this))
        promise (λ tx verdict this. drop tx verdict (is ∙ this)) (λ tx stamp p this. join tx stamp p (is ∙ this))
        (λ k this. absurd (never k this)) steady.1

    by : (m : Message) → message ≡ m → IsSteady (site_at decl s from number m).turn
        → P (site_at decl s from number m).site
    by (messages.Request tx epoch life want) is steady =
        others (messages.Request tx epoch life want) is (λ k this. let none : ⊥ = cc in none) steady
    by (messages.Answer to answer) is steady = same
    by (messages.Decision tx verdict) is steady =
        others (messages.Decision tx verdict) is (λ k this. let none : ⊥ = cc in none) steady
    by (messages.Inquiry tx) is steady = same
    by (messages.Ask tx) is steady = same
    by (messages.Close k) is steady =
        close_cases (λ m. closes_in m.turn ≡ false → P m.site) s from number k (λ answer none. same)
        (λ near later none. absurd (let clash : ⊥ = cc in clash)) steady.0
    by (messages.Install start) is steady =
        others (messages.Install start) is (λ n this. let none : ⊥ = cc in none) steady

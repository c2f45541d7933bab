-- What a site learns while its epoch lasts: an Append's view, or what was promised of a committed transaction.
use Rattle.std.proofs.Common.{◌≡◌, ℕ, false, cond, List, [], Option, Some, refl, sym, subst}
use Rattle.std.proofs.lemmas.List.{append-nil}
use Rattle.qc_stamp.specs.declared.stamp.TxId.{TxId}
use Rattle.qc_entry.specs.declared.line.Line.{Line}
use Rattle.qc_entry.specs.declared.record.Prepared.{Prepared}
use Rattle.qc_entry.proofs.Union.{union-nil}
use Rattle.qc_decl.specs.declared.declaration.Declaration.{Declaration}
use Rattle.qc_msg.specs.declared.message.Answer.{Answer}
use Rattle.qc_msg.specs.declared.message.Message.{Message}
use Rattle.qc_msg.specs.declared.message.Message.TheVariants as messages
use Rattle.qc_msg.specs.declared.message.Outcome.TheVariants.{Committed, Aborted, Active}
use Rattle.qc_msg.specs.declared.message.Want.{Want}
use Rattle.qc_msg.specs.declared.message.Want.TheVariants.{Read, Append, Prepare}
use Rattle.qc_site.specs.Vocabulary.{SiteMove, SiteState, answers, brought, fault_of, grants, grants_in, installs_in}
use Rattle.qc_site.specs.Vocabulary.{arriving, dropped, joins, learned, lines_promised, moved, passed, site_at, site_on}
use Rattle.qc_site.specs.Vocabulary.{view_in}
use Rattle.qc_site.proofs.RequestCases.{append_cases, close_cases, fault_is, join_cases, prepare_cases, read_cases}
use Rattle.qc_site.proofs.RequestCases.{request_cases}
use Rattle.qc_site.proofs.Cases.{install_cases, lasting_cases}

-- a site is like another that learned these lines
abbrev pub HasLearned : SiteState → List Line → SiteState → Type 0
HasLearned s lines t = (t.log ≡ learned s lines) × (t.arrived ≡ arriving s lines)

nothing : (s : SiteState) → HasLearned s [] s
nothing s = (sym (union-nil s.log), sym (append-nil s.arrived))

-- a move's site has learned these lines, where the move grants
abbrev Gains : SiteState → List Line → SiteMove → Type 0
Gains s lines m = HasLearned s (cond (grants_in m.turn) lines []) m.site

fault_gains : (s : SiteState) (from number epoch life : ℕ) (lines : List Line) (fault : Answer)
    → fault_of s epoch life ≡ Some fault → Gains s lines (moved s (answers from number fault))
fault_gains s from number epoch life lines =
    fault_is (λ (a : Answer). Gains s lines (moved s (answers from number a))) s epoch life (nothing s)
    (λ other. nothing s) (nothing s)

want_gains : (decl : Declaration) (s : SiteState) (from number : ℕ) (tx : TxId) (want : Want)
    → Gains s (view_in want) (grants decl s from number tx want)
want_gains decl s from number tx (Read read) =
    read_cases (Gains s []) decl s from number tx read (λ free. nothing s) (λ c clash. nothing s)
want_gains decl s from number tx (Append object view own) =
    append_cases (Gains s view) decl s from number tx object view own (λ free. (refl, refl)) (λ c clash. nothing s)
want_gains decl s from number tx Prepare =
    prepare_cases (Gains s []) s from number tx (nothing s) (λ held stands. nothing s) (λ held made. nothing s)

gains_at : (decl : Declaration) (s : SiteState) (from number : ℕ) (message : Message)
    → installs_in (site_at decl s from number message).turn ≡ false
    → HasLearned s (brought s.prepared (grants_in (site_at decl s from number message).turn) message)
    (site_at decl s from number message).site
gains_at decl s from number (messages.Request tx epoch life want) stays =
    request_cases (Gains s (view_in want)) decl s from number tx epoch life want (nothing s)
    (fault_gains s from number epoch life (view_in want)) (λ is. want_gains decl s from number tx want)
gains_at decl s from number (messages.Answer to answer) stays = nothing s
gains_at decl s from number (messages.Decision tx (Committed stamp)) stays =
    join_cases (λ (m : SiteMove). HasLearned s
    (brought s.prepared (grants_in m.turn) (messages.Decision tx (Committed stamp))) m.site) s tx stamp
    (λ none. subst (λ (o : Option Prepared). HasLearned s (lines_promised stamp tx o) (dropped s tx)) (sym none)
    (nothing s))
    (λ p some. subst
    (λ (o : Option Prepared). HasLearned s (lines_promised stamp tx o) (joins s tx stamp (Some p)).site)
    (sym some) (refl, refl))
gains_at decl s from number (messages.Decision tx Aborted) stays = nothing s
gains_at decl s from number (messages.Decision tx Active) stays = nothing s
gains_at decl s from number (messages.Inquiry tx) stays = nothing s
gains_at decl s from number (messages.Ask tx) stays = nothing s
gains_at decl s from number (messages.Close k) stays =
    close_cases (λ (m : SiteMove). HasLearned s [] m.site) s from number k (λ answer. nothing s)
    (λ near later. nothing s)
gains_at decl s from number (messages.Install start) stays =
    install_cases (λ (m : SiteMove). installs_in m.turn ≡ false → HasLearned s [] m.site) s from number start.epoch
    start.clock start.lines
    (λ answer none. nothing s)
    (λ later fits none. absurd (let clash : ⊥ = cc in clash)) stays

pub learns_brought : (decl : Declaration) (s : SiteState) (from number : ℕ) (message : Message)
    → installs_in (site_on decl s from number message).turn ≡ false
    → HasLearned s (brought s.prepared (grants_in (site_on decl s from number message).turn) message)
    (site_on decl s from number message).site
learns_brought decl s from number message = gains_at decl (passed s message) from number message

pub log_gains : (decl : Declaration) (s : SiteState) (from number : ℕ) (message : Message)
    → installs_in (site_on decl s from number message).turn ≡ false
    → (site_on decl s from number message).site.log ≡ learned s
    (brought s.prepared (grants_in (site_on decl s from number message).turn) message)
log_gains decl s from number message stays = (learns_brought decl s from number message stays).0

-- what the epoch began with stays while it lasts
pub began_lasts : (decl : Declaration) (s : SiteState) (from number : ℕ) (message : Message)
    → installs_in (site_on decl s from number message).turn ≡ false
    → (site_on decl s from number message).site.began ≡ s.began
began_lasts decl s from number message =
    lasting_cases (λ (x : SiteState). x.began ≡ s.began) decl (passed s message) from number message refl
    (λ tx epoch life r is. refl) (λ tx epoch life object view own is. refl) (λ tx. refl)
    (λ tx verdict is final. refl) (λ tx stamp p is. refl) (λ k is. refl)

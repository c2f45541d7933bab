-- A Yes has its record, and a promise stands until a decision.
use Rattle.std.proofs.Common.{◌≡◌, ◌&&◌, ℕ, Bool, true, false, cond, not, List, [], ◌∷◌, ◌++◌, Option, Some, None}
use Rattle.std.proofs.Common.{is_some, refl, sym, ap, ◌∙◌, subst}
use Rattle.std.specs.Option.{option_or}
use Rattle.std.proofs.lemmas.List.Folds.{find-append}
use Rattle.qc_stamp.specs.declared.stamp.TxId.{TxId}
use Rattle.qc_stamp.specs.Vocabulary.{same_tx}
use Rattle.qc_entry.specs.declared.record.Prepared.{Prepared}
use Rattle.qc_decl.specs.declared.declaration.Declaration.{Declaration}
use Rattle.qc_lock.proofs.Entries.{find-none}
use Rattle.qc_msg.specs.declared.message.Answer.{Answer}
use Rattle.qc_msg.specs.declared.message.Message.{Message}
use Rattle.qc_msg.specs.declared.message.Message.TheVariants as messages
use Rattle.qc_msg.specs.declared.message.Outcome.{Outcome}
use Rattle.qc_msg.specs.declared.message.Outcome.TheVariants.{Committed}
use Rattle.qc_msg.specs.declared.message.Want.{Want}
use Rattle.qc_msg.specs.declared.message.Want.TheVariants.{Read, Append, Prepare}
use Rattle.qc_site.specs.Vocabulary.{IsBacked, SiteMove, SiteState, answers, ends, fault_of, grants, installs_in}
use Rattle.qc_site.specs.Vocabulary.{is_final, is_prepared, is_vote, moved, passed, prepared_of, prepares, promise_of}
use Rattle.qc_site.specs.Vocabulary.{site_at, site_on, votes_in, without_prepared}
use Rattle.qc_site.proofs.RequestCases.{append_cases, fault_is, never, prepare_cases, read_cases, request_cases}
use Rattle.qc_site.proofs.Cases.{lasting_cases}
use Rattle.qc_stamp.proofs.Orders.{same_tx_itself, same_tx_is}

-- promises, one more

none_yet : (o : Option Prepared) → is_some o ≡ false → o ≡ None
none_yet None is = refl
none_yet (Some p) is = absurd (let none : ⊥ = cc in none)

prepared_here : (p : Prepared) → prepared_of (p ∷ []) p.tx ≡ Some p
prepared_here p = rw (same_tx_itself p.tx) refl

prepared_last : (ps : List Prepared) (p : Prepared) (tx : TxId) → p.tx ≡ tx → is_prepared ps tx ≡ false
    → prepared_of (ps ++ p ∷ []) tx ≡ Some p
prepared_last ps p tx same apart =
    find-append (λ (q : Prepared). same_tx q.tx tx) ps (p ∷ [])
    ∙ ap (λ (o : Option Prepared). option_or o (prepared_of (p ∷ []) tx)) (none_yet (prepared_of ps tx) apart)
    ∙ subst (λ (t : TxId). prepared_of (p ∷ []) t ≡ Some p) same (prepared_here p)

prepared_first : (ps : List Prepared) (q p : Prepared) (tx : TxId) → prepared_of ps tx ≡ Some p
    → prepared_of (ps ++ q ∷ []) tx ≡ Some p
prepared_first ps q p tx is =
    find-append (λ (r : Prepared). same_tx r.tx tx) ps (q ∷ [])
    ∙ ap (λ (o : Option Prepared). option_or o (prepared_of (q ∷ []) tx)) is

-- promises of others stay as those of one transaction are dropped
pub prepared-without_other : (ps : List Prepared) (tx other : TxId) → same_tx tx other ≡ false
    → prepared_of (without_prepared ps tx) other ≡ prepared_of ps other
prepared-without_other [] tx other apart = refl
prepared-without_other (p ∷ ps) tx other apart = by (same_tx p.tx tx) refl (prepared-without_other ps tx other apart)
  where
    by : (t : Bool) → same_tx p.tx tx ≡ t → prepared_of (without_prepared ps tx) other ≡ prepared_of ps other
        → prepared_of (cond (not t) (p ∷ without_prepared ps tx) (without_prepared ps tx)) other ≡ prepared_of
        (p ∷ ps) other
    by true is rest =
        let same : same_tx p.tx other ≡ false = subst (λ u. same_tx u other ≡ false)
        (sym (same_tx_is p.tx tx is)) apart in
        rw same rest
    by false is rest = ap (λ (o : Option Prepared). cond (same_tx p.tx other) (Some p) o) rest

pub prepared-without : (ps : List Prepared) (tx : TxId) → prepared_of (without_prepared ps tx) tx ≡ None
prepared-without ps tx = find-none (λ (p : Prepared). same_tx p.tx tx) ps

-- what stands behind a Yes

abbrev Backs : SiteState → ℕ → ℕ → TxId → SiteMove → Type 0
Backs s from number tx m = votes_in m.turn ≡ true → IsBacked s from number tx m

fault_votes_not : (G : Type 0) (s : SiteState) (epoch life : ℕ) (fault : Answer) → fault_of s epoch life ≡ Some fault
    → is_vote fault ≡ true → G
fault_votes_not G s epoch life = fault_is (λ (a : Answer). is_vote a ≡ true → G) s epoch life never
    (λ other. never) never

stood : {A : Type 0} → (t : Bool) → t ≡ true → t ≡ false → A
stood t here gone = absurd (let none : ⊥ = cc in none)

prepare_backs : (s : SiteState) (from number : ℕ) (tx : TxId) → Backs s from number tx (prepares s from number tx)
prepare_backs s from number tx =
    prepare_cases (Backs s from number tx) s from number tx never
    (λ held stands voted. record {
      held = held;
      promised = stands;
      kept = stood (is_prepared s.prepared tx) stands;
      written = stood (is_prepared s.prepared tx) stands;
      fault = stood (is_prepared s.prepared tx) stands;
    })
    (λ held apart voted.
    let last : prepared_of (s.prepared ++ promise_of s tx ∷ []) tx ≡ Some (promise_of s tx) =
    prepared_last s.prepared (promise_of s tx) tx refl apart in
    record {
      held = held;
      promised = ap (λ (o : Option Prepared). is_some o) last;
      kept = λ none. last;
      written = λ none. refl;
      fault = λ none. refl;
    })

want_backs : (decl : Declaration) (s : SiteState) (from number : ℕ) (tx : TxId) (want : Want)
    → Backs s from number tx (grants decl s from number tx want)
want_backs decl s from number tx (Read read) =
    read_cases (Backs s from number tx) decl s from number tx read (λ free. never) (λ c clash. never)
want_backs decl s from number tx (Append object view own) =
    append_cases (Backs s from number tx) decl s from number tx object view own (λ free. never) (λ c clash. never)
want_backs decl s from number tx Prepare = prepare_backs s from number tx

backs_at : (decl : Declaration) (s : SiteState) (from number : ℕ) (tx : TxId) (epoch life : ℕ) (want : Want)
    → Backs s from number tx (site_at decl s from number (messages.Request tx epoch life want))
backs_at decl s from number tx epoch life want =
    request_cases (Backs s from number tx) decl s from number tx epoch life want never
    (λ fault is. fault_votes_not (IsBacked s from number tx (moved s (answers from number fault))) s epoch life fault
    is) (λ is. want_backs decl s from number tx want)

pub votes_are_backed : (decl : Declaration) (s : SiteState) (from number : ℕ) (tx : TxId) (epoch life : ℕ) (want : Want)
    → votes_in (site_on decl s from number (messages.Request tx epoch life want)).turn ≡ true
    → IsBacked (passed s (messages.Request tx epoch life want)) from number tx
    (site_on decl s from number (messages.Request tx epoch life want))
votes_are_backed decl s from number tx epoch life want =
    backs_at decl (passed s (messages.Request tx epoch life want)) from number tx epoch life want

-- a promise stands

pub not_ended : (final same : Bool) → (final && same) ≡ false → final ≡ true → same ≡ false
not_ended true same is final = is
not_ended false same is final = never final

stands_at : (decl : Declaration) (s : SiteState) (from number : ℕ) (message : Message) (tx : TxId) (p : Prepared)
    → prepared_of s.prepared tx ≡ Some p → ends message tx ≡ false
    → installs_in (site_at decl s from number message).turn ≡ false
    → prepared_of (site_at decl s from number message).site.prepared tx ≡ Some p
stands_at decl s from number message tx p is ongoing =
    lasting_cases (λ (x : SiteState). prepared_of x.prepared tx ≡ Some p) decl s from number message is
    (λ t epoch life r same. is) (λ t epoch life object view own same. is)
    (λ t. prepared_first s.prepared (promise_of s t) p tx is)
    (λ t verdict same final. drops t verdict same final)
    (λ t stamp q same. drops t (Committed stamp) same refl) (λ k same. is)
  where
    drops : (t : TxId) (verdict : Outcome) → message ≡ messages.Decision t verdict → is_final verdict ≡ true
        → prepared_of (without_prepared s.prepared t) tx ≡ Some p
    drops t verdict same final =
        let unended : (is_final verdict && same_tx t tx) ≡ false =
        subst (λ (m : Message). ends m tx ≡ false) same ongoing in
        prepared-without_other s.prepared t tx (not_ended (is_final verdict) (same_tx t tx) unended final) ∙ is

pub promises_stand : (decl : Declaration) (s : SiteState) (from number : ℕ) (message : Message) (tx : TxId)
    (p : Prepared)
    → prepared_of s.prepared tx ≡ Some p → ends message tx ≡ false
    → installs_in (site_on decl s from number message).turn ≡ false
    → prepared_of (site_on decl s from number message).site.prepared tx ≡ Some p
promises_stand decl s from number message tx p is ongoing =
    stands_at decl (passed s message) from number message tx p is ongoing

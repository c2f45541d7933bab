-- The transactions that the closed sites have promised, by the administrator's account, and his questions about them.
use Rattle.std.proofs.Common.{◌≡◌, ℕ, ◌==◌, ◌&&◌, ◌||◌, Bool, true, false, cond, List, [], ◌∷◌, ◌++◌, length, map, fold}
use Rattle.std.proofs.Common.{Option, Some, None, option_map, refl, sym, ap, ◌∙◌, slice_get}
use Rattle.std.specs.Prelude.{is_none, option_and_then}
use Rattle.std.specs.List.{filter_map, find, flat_map}
use Rattle.std.proofs.lemmas.List.{map-append}
use Rattle.std.proofs.lemmas.List.Sums.{fold-append}
use Rattle.qc_stamp.specs.declared.stamp.TxId.{TxId}
use Rattle.qc_stamp.specs.Vocabulary.{same_tx}
use Rattle.qc_stamp.proofs.Orders.{other_tx_sym}
use Rattle.qc_entry.specs.declared.record.Prepared.{Prepared}
use Rattle.qc_msg.specs.declared.message.Answer.{Answer}
use Rattle.qc_msg.specs.declared.message.Outcome.{Outcome}
use Rattle.qc_msg.specs.declared.message.Outcome.TheVariants.{Committed, Aborted, Active}
use Rattle.qc_msg.specs.Vocabulary.{verdict_in}
use Rattle.qc_promise.specs.Vocabulary.{AdminRequest, AdminWant, Ask, Close, Install, Promised, ToldShut, answer_to}
use Rattle.qc_promise.specs.Vocabulary.{is_among, is_ask, is_ask_of, promised_at, stamp_in as stamp_told, told_shut}
use Rattle.qc_promise.specs.Vocabulary.{unless_among}
use Rattle.qc_promise.specs.AdminAccounting.{taken_for as account_taken}
use Rattle.qc_epoch.specs.Vocabulary.{Question, is_questioned, numbered_first, outcome_in, questions_of, stamp_in}
use Rattle.qc_epoch.specs.Vocabulary.{stamp_of, taken_for, with_question, with_questions}
use Rattle.laws_due.proofs.AdminRequests.{took, takes, wanting}
use Rattle.laws_due.proofs.AdminShuts.{to_shut}
use Rattle.qc_list.proofs.Booleans.{or_parts}

-- those that these Closes told of, each once
abbrev pub promised_of : List AdminRequest → List Promised
promised_of cs = fold unless_among [] (flat_map promised_at (filter_map told_shut cs))

-- the questions about them, with what was asked so far, one after another

abbrev pub unasked : Promised → Question
unasked p = record { tx = p.tx; site = p.site; number = None; taken = None }

abbrev pub asked : Promised → AdminRequest → Question
asked p q = record { tx = p.tx; site = p.site; number = Some q.number; taken = option_map outcome_in q.taken }

abbrev pub asked_of : List Promised → List AdminRequest → List Question
asked_of [] qs = []
asked_of (p ∷ ps) [] = unasked p ∷ asked_of ps []
asked_of (p ∷ ps) (q ∷ qs) = asked p q ∷ asked_of ps qs

-- before anybody is asked they are the administrator's own

pub none_asked : (ps : List Promised) → asked_of ps [] ≡ map unasked ps
none_asked [] = refl
none_asked (p ∷ ps) = ap (λ (v : List Question). unasked p ∷ v) (none_asked ps)

among_is : (ps : List Promised) (tx : TxId) → is_questioned (map unasked ps) tx ≡ is_among ps tx
among_is [] tx = refl
among_is (p ∷ ps) tx = ap (λ (b : Bool). same_tx p.tx tx || b) (among_is ps tx)

one_question : (site : ℕ) (ps : List Promised) (p : Prepared)
    → with_question site (map unasked ps) p ≡ map unasked (unless_among ps (record { tx = p.tx; site = site }))
one_question site ps p =
    ap (λ (b : Bool). cond b (map unasked ps) (map unasked ps ++ unasked (record { tx = p.tx; site = site }) ∷ []))
    (among_is ps p.tx)
    ∙ by (is_among ps p.tx)
  where
    by : (b : Bool) → cond b (map unasked ps) (map unasked ps ++ unasked (record { tx = p.tx; site = site }) ∷ [])
        ≡ map unasked (cond b ps (ps ++ record { tx = p.tx; site = site } ∷ []))
    by true = refl
    by false = sym (map-append unasked ps (record { tx = p.tx; site = site } ∷ []))

abbrev promised_by : ℕ → Prepared → Promised
promised_by site p = record { tx = p.tx; site = site }

site_questions : (site : ℕ) (xs : List Prepared) (ps : List Promised)
    → fold (with_question site) (map unasked ps) xs ≡ map unasked (fold unless_among ps (map (promised_by site) xs))
site_questions site [] ps = refl
site_questions site (p ∷ xs) ps = ap (λ (v : List Question). fold (with_question site) v xs) (one_question site ps p)
    ∙ site_questions site xs (unless_among ps (promised_by site p))

all_questions : (ts : List ToldShut) (ps : List Promised)
    → fold with_questions (map unasked ps) (map to_shut ts) ≡ map unasked
    (fold unless_among ps (flat_map promised_at ts))
all_questions [] ps = refl
all_questions (t ∷ ts) ps =
    ap (λ (v : List Question). fold with_questions v (map to_shut ts)) (site_questions t.site t.told.prepared ps)
    ∙ all_questions ts (fold unless_among ps (promised_at t))
    ∙ ap (map unasked) (sym (fold-append unless_among ps (promised_at t) (flat_map promised_at ts)))

pub questions_are : (cs : List AdminRequest)
    → questions_of (map to_shut (filter_map told_shut cs)) ≡ asked_of (promised_of cs) []
questions_are cs = all_questions (filter_map told_shut cs) [] ∙ sym (none_asked (promised_of cs))

-- each stands there once

abbrev pub AreDistinct : List Promised → Type 0
AreDistinct [] = Unit {0}
AreDistinct (p ∷ ps) = (is_among ps p.tx ≡ false) × AreDistinct ps

among_more : (ps : List Promised) (p : Promised) (tx : TxId) → is_among ps tx ≡ false → same_tx p.tx tx ≡ false
    → is_among (ps ++ p ∷ []) tx ≡ false
among_more [] p tx none other = rw other refl
among_more (x ∷ ps) p tx none other =
    let parts : (same_tx x.tx tx ≡ false) × (is_among ps tx ≡ false) =
    or_parts (same_tx x.tx tx) (is_among ps tx) none in
    ap (λ (b : Bool). b || is_among (ps ++ p ∷ []) tx) parts.0 ∙ among_more ps p tx parts.1 other

distinct_more : (ps : List Promised) (p : Promised) → AreDistinct ps → is_among ps p.tx ≡ false
    → AreDistinct (ps ++ p ∷ [])
distinct_more [] p distinct none = (refl, tt)
distinct_more (x ∷ ps) p distinct none =
    let parts : (same_tx x.tx p.tx ≡ false) × (is_among ps p.tx ≡ false) =
    or_parts (same_tx x.tx p.tx) (is_among ps p.tx) none in
    (among_more ps p x.tx distinct.0 (other_tx_sym x.tx p.tx parts.0), distinct_more ps p distinct.1 parts.1)

distinct_unless : (ps : List Promised) (p : Promised) → AreDistinct ps → AreDistinct (unless_among ps p)
distinct_unless ps p distinct = by (is_among ps p.tx) refl
  where
    by : (b : Bool) → is_among ps p.tx ≡ b → AreDistinct (cond b ps (ps ++ p ∷ []))
    by true is = distinct
    by false is = distinct_more ps p distinct is

distinct_all : (xs ps : List Promised) → AreDistinct ps → AreDistinct (fold unless_among ps xs)
distinct_all [] ps distinct = distinct
distinct_all (p ∷ xs) ps distinct = distinct_all xs (unless_among ps p) (distinct_unless ps p distinct)

pub promised_distinct : (cs : List AdminRequest) → AreDistinct (promised_of cs)
promised_distinct cs = distinct_all (flat_map promised_at (filter_map told_shut cs)) [] tt

-- what the requests ask: about one after another

abbrev pub AreAbout : List Promised → List AdminRequest → Type 0
AreAbout ps [] = Unit {0}
AreAbout [] (q ∷ qs) = ⊥
AreAbout (p ∷ ps) (q ∷ qs) = (q.want ≡ Ask p.tx) × AreAbout ps qs

pub about_more : (ps : List Promised) (qs : List AdminRequest) (p : Promised) (q : AdminRequest)
    → slice_get ps (length qs) ≡ Some p → q.want ≡ Ask p.tx → AreAbout ps qs → AreAbout ps (qs ++ q ∷ [])
about_more [] [] p q is want about = absurd (let never : ⊥ = cc in never)
about_more [] (x ∷ qs) p q is want about = absurd about
about_more (x ∷ ps) [] p q is want about = (want ∙ ap (λ (v : Promised). Ask v.tx) (let same : p ≡ x = cc in same), tt)
about_more (x ∷ ps) (y ∷ qs) p q is want about = (about.0, about_more ps qs p q is want about.1)

pub asked_more : (ps : List Promised) (qs : List AdminRequest) (p : Promised) (q : AdminRequest)
    → slice_get ps (length qs) ≡ Some p → q.taken ≡ None
    → numbered_first (asked_of ps qs) q.number ≡ asked_of ps (qs ++ q ∷ [])
asked_more [] [] p q is open_still = absurd (let never : ⊥ = cc in never)
asked_more [] (x ∷ qs) p q is open_still = refl
asked_more (x ∷ ps) [] p q is open_still =
    ap (λ (t : Option (Option Answer)). record
    { tx = x.tx; site = x.site; number = Some q.number; taken = option_map outcome_in t } ∷ asked_of ps [])
    (sym open_still)
asked_more (x ∷ ps) (y ∷ qs) p q is open_still =
    ap (λ (v : List Question). asked x y ∷ v) (asked_more ps qs p q is open_still)

-- what is taken for one

want_taken : (number : ℕ) (answer : Option Answer) (q : AdminRequest) → (account_taken number answer q).want ≡ q.want
want_taken number answer q = by ((q.number == number) && is_none q.taken)
  where
    by : (b : Bool) → (cond b (took q answer) q).want ≡ q.want
    by true = refl
    by false = refl

pub about_taken : (number : ℕ) (answer : Option Answer) (ps : List Promised) (qs : List AdminRequest) → AreAbout ps qs
    → AreAbout ps (takes number answer qs)
about_taken number answer ps [] about = tt
about_taken number answer [] (q ∷ qs) about = absurd about
about_taken number answer (p ∷ ps) (q ∷ qs) about =
    (want_taken number answer q ∙ about.0, about_taken number answer ps qs about.1)

none_numbered : (number : ℕ) (outcome : Option Outcome) (ps : List Promised)
    → map (taken_for number outcome) (asked_of ps []) ≡ asked_of ps []
none_numbered number outcome [] = refl
none_numbered number outcome (p ∷ ps) = ap (λ (v : List Question). unasked p ∷ v) (none_numbered number outcome ps)

one_taken : (number : ℕ) (answer : Option Answer) (p : Promised) (q : AdminRequest)
    → taken_for number (outcome_in answer) (asked p q) ≡ asked p (account_taken number answer q)
one_taken number answer p q = by (q.number == number) refl q.taken refl
  where
    by : (u : Bool) → (q.number == number) ≡ u → (t : Option (Option Answer)) → q.taken ≡ t
        → taken_for number (outcome_in answer) (asked p q) ≡ asked p (account_taken number answer q)
    by true same None is = rw (same, is) refl
    by true same (Some x) is = rw (same, is) refl
    by false same t is = rw same refl

pub asked_taken : (number : ℕ) (answer : Option Answer) (ps : List Promised) (qs : List AdminRequest)
    → map (taken_for number (outcome_in answer)) (asked_of ps qs) ≡ asked_of ps (takes number answer qs)
asked_taken number answer [] qs = refl
asked_taken number answer (p ∷ ps) [] = none_numbered number (outcome_in answer) (p ∷ ps)
asked_taken number answer (p ∷ ps) (q ∷ qs) = λ i. one_taken number answer p q i ∷ asked_taken number answer ps qs i

-- the request about a transaction

abbrev pub about : List AdminRequest → TxId → Option AdminRequest
about qs tx = find (λ (q : AdminRequest). is_ask_of tx q.want) qs

pub among_asks : (qs : List AdminRequest) (tx : TxId) → about qs tx ≡ about (wanting is_ask qs) tx
among_asks [] tx = refl
among_asks (q ∷ qs) tx = by q.want refl (among_asks qs tx)
  where
    by : (w : AdminWant) → q.want ≡ w → about qs tx ≡ about (wanting is_ask qs) tx
        → cond (is_ask_of tx q.want) (Some q) (about qs tx) ≡ about
        (cond (is_ask q.want) (q ∷ wanting is_ask qs) (wanting is_ask qs)) tx
    by Close is e = rw is e
    by (Ask other) is e =
        ap (λ (o : Option AdminRequest). cond (is_ask_of tx q.want) (Some q) o) e
        ∙ sym (ap (λ (w : AdminWant). about (cond (is_ask w) (q ∷ wanting is_ask qs) (wanting is_ask qs)) tx) is)
    by Install is e = rw is e

-- what its answer tells

abbrev pub outcome_of : Option AdminRequest → Option Outcome
outcome_of o = option_and_then verdict_in (option_and_then answer_to o)

abbrev pub heard : Option (Option Outcome) → Option Outcome
heard None = None
heard (Some o) = o

pub heard_is : (q : AdminRequest) → heard (option_map outcome_in q.taken) ≡ outcome_of (Some q)
heard_is q = by q.taken refl
  where
    by : (t : Option (Option Answer)) → q.taken ≡ t
        → heard (option_map outcome_in q.taken) ≡ option_and_then verdict_in (answer_to q)
    by None is = rw is refl
    by (Some answer) is = rw is refl

pub stamp_heard : (t : Option (Option Outcome)) → stamp_in t ≡ option_and_then stamp_told (heard t)
stamp_heard None = refl
stamp_heard (Some None) = refl
stamp_heard (Some (Some (Committed stamp))) = refl
stamp_heard (Some (Some Aborted)) = refl
stamp_heard (Some (Some Active)) = refl

none_stamped : (ps : List Promised) (tx : TxId) → stamp_of (asked_of ps []) tx ≡ None
none_stamped [] tx = refl
none_stamped (p ∷ ps) tx = by (same_tx p.tx tx) (none_stamped ps tx)
  where
    by : (b : Bool) → stamp_of (asked_of ps []) tx ≡ None → cond b None (stamp_of (asked_of ps []) tx) ≡ None
    by true e = refl
    by false e = e

pub stamp_asked : (ps : List Promised) (qs : List AdminRequest) (tx : TxId) → AreAbout ps qs
    → stamp_of (asked_of ps qs) tx ≡ option_and_then stamp_told (outcome_of (about qs tx))
stamp_asked ps [] tx are = none_stamped ps tx
stamp_asked [] (q ∷ qs) tx are = absurd are
stamp_asked (p ∷ ps) (q ∷ qs) tx are =
    by (same_tx p.tx tx) (stamp_asked ps qs tx are.1)
    ∙ ap (λ (w : AdminWant). option_and_then stamp_told (outcome_of (cond (is_ask_of tx w) (Some q) (about qs tx))))
    (sym are.0)
  where
    by : (b : Bool) → stamp_of (asked_of ps qs) tx ≡ option_and_then stamp_told (outcome_of (about qs tx))
        → cond b (stamp_in (option_map outcome_in q.taken)) (stamp_of (asked_of ps qs) tx) ≡ option_and_then stamp_told
        (outcome_of (cond b (Some q) (about qs tx)))
    by true e = stamp_heard (option_map outcome_in q.taken) ∙ ap (option_and_then stamp_told) (heard_is q)
    by false e = e

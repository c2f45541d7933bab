-- The requests of one invocation are no Appends, and a round that is met has noted all of them.
use Rattle.std.proofs.Common.{[], ◌≡◌, ℕ, ◌&&◌, Bool, true, false, cond, List, ◌∷◌, map, filter, Option, Some, None}
use Rattle.std.proofs.Common.{option_map, is_some, unwrap_or, refl, ap, ◌∙◌}
use Rattle.std.specs.Prelude.{is_none}
use Rattle.std.specs.List.{AllByRecursion as Every}
use Rattle.qc_decl.specs.declared.declaration.Declaration.{Declaration}
use Rattle.qc_plan.specs.declared.standing.Verdict.TheVariants as verdicts
use Rattle.qc_plan.specs.Vocabulary.{RoundState, all_noted, has_granted, refusal, settled, verdict, weight}
use Rattle.qc_view.specs.declared.view.View.{View}
use Rattle.qc_commit.specs.declared.desk.Desk.{Desk}
use Rattle.qc_front.specs.declared.transaction.Transaction.{Transaction}
use Rattle.qc_msg.specs.declared.message.Answer.{Answer}
use Rattle.qc_msg.specs.declared.message.Want.{Want}
use Rattle.qc_msg.specs.declared.message.Want.TheVariants.{Read}
use Rattle.qc_msg.specs.Vocabulary.{first_read}
use Rattle.qc_promise.specs.Vocabulary.{Account, ClientRequest, Current, asked_by, is_append, is_read, standing_of}
use Rattle.laws_due.specs.Vocabulary.{IsOpenIn, call_of, calls_in, transaction_of}
use Rattle.laws_due.proofs.DoRows.{Runs}

-- requests of one invocation are no Appends

abbrev pub IsRead : ℕ → ℕ → ClientRequest → Type 0
IsRead object inv q = q.want ≡ Read (first_read object inv)

pub none_append : (object inv : ℕ) (qs : List ClientRequest) → Every (IsRead object inv) qs
    → filter (λ (q : ClientRequest). is_append q.want) qs ≡ []
none_append object inv [] all = refl
none_append object inv (q ∷ qs) all =
    ap (λ (b : Bool). cond b (q ∷ filter (λ (p : ClientRequest). is_append p.want) qs)
    (filter (λ (p : ClientRequest). is_append p.want) qs)) (ap is_append all.0) ∙ none_append object inv qs all.1

pub open_read : (object inv : ℕ) (q : ClientRequest) → IsRead object inv q → IsOpenIn is_read q
open_read object inv q is open_still = ap is_read is

-- a round that is met has noted all

pub noted_met : (r : RoundState) → verdict r ≡ verdicts.Met → all_noted r.asked ≡ true
noted_met r is = by (all_noted r.asked) refl is
  where
    by : (b : Bool) → all_noted r.asked ≡ b
        → cond b (unwrap_or (refusal r.asked) (settled r (weight (has_granted r.asked) r.weights))) verdicts.Waiting
        ≡ verdicts.Met → b ≡ true
    by true e met = refl
    by false e met = absurd (let never : ⊥ = cc in never)

pub noted_open : (hs : List ClientRequest) → all_noted (map asked_by hs) ≡ true → calls_in hs ≡ []
noted_open [] noted = refl
noted_open (q ∷ hs) noted = by q.taken noted (noted_open hs)
  where
    by : (o : Option (Option Answer)) → (is_some (option_map standing_of o) && all_noted (map asked_by hs)) ≡ true
        → (all_noted (map asked_by hs) ≡ true → calls_in hs ≡ [])
        → map call_of
        (cond (is_none o) (q ∷ filter (λ (p : ClientRequest). is_none p.taken) hs)
        (filter (λ (p : ClientRequest). is_none p.taken) hs)) ≡ []
    by None e more = absurd (let never : ⊥ = cc in never)
    by (Some a) e more = more e

pub no_open : (half : Want → Bool) (qs : List ClientRequest) → calls_in qs ≡ [] → Every (IsOpenIn half) qs
no_open half [] none = tt
no_open half (q ∷ qs) none = by (is_none q.taken) refl none (no_open half qs)
  where
    by : (b : Bool) → is_none q.taken ≡ b
        → map call_of
        (cond b (q ∷ filter (λ (p : ClientRequest). is_none p.taken) qs)
        (filter (λ (p : ClientRequest). is_none p.taken) qs)) ≡ []
        → (calls_in qs ≡ [] → Every (IsOpenIn half) qs) → IsOpenIn half q × Every (IsOpenIn half) qs
    by true is e more = absurd (let never : ⊥ = cc in never)
    by false is e more = ((λ open_still. absurd (let never : ⊥ = cc in never)), more e)

module _ (decl : Declaration) (number : ℕ) (d : Account) (desk : Desk) (t : Current) (asked : List ℕ)
    (views : List View) (object inv : ℕ) (k : Runs decl d desk t views) where
  abbrev x : Transaction
  x = transaction_of t asked views

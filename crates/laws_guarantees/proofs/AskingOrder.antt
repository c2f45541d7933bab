-- The sites of positive weight in a client's order, and the halves of a `do` as requests go to the next of them.
use Rattle.std.proofs.Common.{[], ◌≡◌, ℕ, zero, suc, max, Bool, true, false, cond, List, ◌∷◌, ◌++◌, map, length}
use Rattle.std.proofs.Common.{Option, Some, None, option_map, refl, sym, ap, ◌∙◌, eqb-true}
use Rattle.std.specs.Prelude.{drop, filter, take}
use Rattle.std.specs.List.{find}
use Rattle.qc_decl.specs.Vocabulary.{first_site}
use Rattle.qc_decl.specs.declared.declaration.Declaration.{Declaration}
use Rattle.qc_plan.specs.Vocabulary.{cyclic, first, weighing}
use Rattle.qc_msg.specs.declared.message.Answer.{Answer}
use Rattle.qc_msg.specs.declared.message.Message.{Message}
use Rattle.qc_msg.specs.declared.message.Want.{Want}
use Rattle.qc_msg.specs.declared.message.Want.TheVariants.{Append, Prepare, Read}
use Rattle.qc_msg.specs.declared.payload.Grant.{Grant}
use Rattle.qc_msg.specs.declared.record.Record.{Record}
use Rattle.qc_msg.specs.declared.step.Input.{Input}
use Rattle.qc_msg.specs.declared.step.Input.TheVariants as inputs
use Rattle.qc_promise.specs.Vocabulary.{Account, ClientRequest, Current, account_heard, account_taken, account_written}
use Rattle.qc_promise.specs.Vocabulary.{counted, counted_for, granted, is_append, is_open, is_read, is_this, lived}
use Rattle.qc_promise.specs.Vocabulary.{promised, taken_for, told_by, weights_of, with_current, with_read}
use Rattle.laws_guarantees.proofs.Accounts.{told_requests}
use Rattle.laws_guarantees.proofs.AccountCases.{heard_cases, told_cases}
use Rattle.laws_due.proofs.AccountCases.{written_cases}

-- the sites of positive weight in a client's order
abbrev pub order : Declaration → ℕ → ℕ → List ℕ
order decl client epoch =
    weighing (weights_of decl epoch) (cyclic (length (weights_of decl epoch)) (first_site decl client))

abbrev pub epoch_of : Account → Option ℕ
epoch_of d = option_map (λ (t : Current). t.epoch) d.current

abbrev pub sites_in : (Want → Bool) → List ClientRequest → List ℕ
sites_in half qs = map (λ (q : ClientRequest). q.site) (filter (λ (q : ClientRequest). half q.want) qs)

abbrev pub count_in : (Want → Bool) → List ClientRequest → ℕ
count_in half qs = length (filter (λ (q : ClientRequest). half q.want) qs)

abbrev pub IsInOrder : Declaration → (Want → Bool) → Account → Type 0
IsInOrder decl half d =
    (epoch : ℕ) → epoch_of d ≡ Some epoch
    → sites_in half d.requests ≡ take (count_in half d.requests) (order decl d.client epoch)

-- something is taken: sites and wants stay, and the epoch

sites_taken : (half : Want → Bool) (n : ℕ) (answer : Option Answer) (qs : List ClientRequest)
    → (sites_in half (taken_for n answer qs) ≡ sites_in half qs)
    × (count_in half (taken_for n answer qs) ≡ count_in half qs)
sites_taken half n answer [] = (refl, refl)
sites_taken half n answer (q ∷ qs) = by (is_open n q) (half q.want) refl (sites_taken half n answer qs)
  where
    by : (o t : Bool) → half q.want ≡ t
        → (sites_in half (taken_for n answer qs) ≡ sites_in half qs)
        × (count_in half (taken_for n answer qs) ≡ count_in half qs)
        → (sites_in half (cond o (record q { taken = Some answer }) q ∷ taken_for n answer qs) ≡ sites_in half (q ∷ qs))
        × (count_in half (cond o (record q { taken = Some answer }) q ∷ taken_for n answer qs)
        ≡ count_in half (q ∷ qs))
    by o true is rest = one o
      where
        one : (o : Bool)
            → (sites_in half (cond o (record q { taken = Some answer }) q ∷ taken_for n answer qs)
            ≡ sites_in half (q ∷ qs))
            × (count_in half (cond o (record q { taken = Some answer }) q ∷ taken_for n answer qs)
            ≡ count_in half (q ∷ qs))
        one true = rw is (ap (λ (v : List ℕ). q.site ∷ v) rest.0, ap suc rest.1)
        one false = rw is (ap (λ (v : List ℕ). q.site ∷ v) rest.0, ap suc rest.1)
    by o false is rest = one o
      where
        one : (o : Bool)
            → (sites_in half (cond o (record q { taken = Some answer }) q ∷ taken_for n answer qs)
            ≡ sites_in half (q ∷ qs))
            × (count_in half (cond o (record q { taken = Some answer }) q ∷ taken_for n answer qs)
            ≡ count_in half (q ∷ qs))
        one true = rw is rest
        one false = rw is rest

same_epoch : (d : Account) (change : Current → Current) → ((t : Current) → (change t).epoch ≡ t.epoch)
    → epoch_of (with_current d change) ≡ epoch_of d
same_epoch d change same = by d.current
  where
    by : (o : Option Current)
        → option_map (λ (t : Current). t.epoch) (option_map change o) ≡ option_map (λ (t : Current). t.epoch) o
    by None = refl
    by (Some t) = ap (λ (e : ℕ). Some e) (same t)

-- the same client, in the same epoch
pub record KeepsEpoch (d e : Account) : Type 0 where
  pub client : e.client ≡ d.client
  pub epoch : epoch_of e ≡ epoch_of d

granted_epoch : (d : Account) (site : ℕ) (g : Grant) (want : Want) → KeepsEpoch d (granted d site g want)
granted_epoch d site g (Read read) =
    record {
      client = refl;
      epoch = same_epoch (record d { clock = max d.clock g.clock })
          (λ (t : Current). with_read (lived t site g.life) read.object g.log) (λ t. refl);
    }
granted_epoch d site g (Append object view own) =
    record {
      client = refl;
      epoch = same_epoch (record d { clock = max d.clock g.clock }) (λ (t : Current). lived t site g.life) (λ t. refl);
    }
granted_epoch d site g Prepare = record { client = refl; epoch = refl }

promised_epoch : (d : Account) (clock : ℕ) (want : Want) → KeepsEpoch d (promised d clock want)
promised_epoch d clock (Read read) = record { client = refl; epoch = refl }
promised_epoch d clock (Append object view own) = record { client = refl; epoch = refl }
promised_epoch d clock Prepare = record { client = refl; epoch = refl }

told_epoch : (d : Account) (q : ClientRequest) (answer : Option Answer) → KeepsEpoch d (told_by d q answer)
told_epoch d q answer = told_cases d q (λ a e. KeepsEpoch d e) (λ a. record { client = refl; epoch = refl })
    (λ g. granted_epoch d q.site g q.want) (λ epoch. record { client = refl; epoch = refl })
    (λ clock. promised_epoch d clock q.want) answer

module _ (decl : Declaration) (half : Want → Bool) where
  counted_order : (d : Account) (n : ℕ) (answer : Option Answer) → IsInOrder decl half d
      → IsInOrder decl half (counted d n answer)
  counted_order d n answer old = by (find (is_open n) d.requests)
    where
      by : (o : Option ClientRequest) → IsInOrder decl half (counted_for d n answer o)
      by None epoch is = old epoch is
      by (Some p) epoch is =
          let e : Account = record d { requests = taken_for n answer d.requests } in
          let k : KeepsEpoch (record d { requests = taken_for n answer d.requests })
          (told_by (record d { requests = taken_for n answer d.requests }) p answer) =
          told_epoch (record d { requests = taken_for n answer d.requests }) p answer in
          let s : (sites_in half (taken_for n answer d.requests) ≡ sites_in half d.requests)
          × (count_in half (taken_for n answer d.requests) ≡ count_in half d.requests) =
          sites_taken half n answer d.requests in
          let same : (told_by (record d { requests = taken_for n answer d.requests }) p answer).requests
          ≡ taken_for n answer d.requests =
          (told_requests (record d { requests = taken_for n answer d.requests }) p answer).0 in
          ap (sites_in half) same ∙ s.0 ∙ old epoch (sym k.epoch ∙ is)
          ∙ (λ i. take (sym (ap (count_in half) same ∙ s.1) i) (order decl (sym k.client i) epoch))

  heard_order : (d : Account) (m : Message) → IsInOrder decl half d → IsInOrder decl half (account_heard d m)
  heard_order d m old = heard_cases d (λ m e. IsInOrder decl half e) (λ m. old)
      (λ to answer. counted_order d to (Some answer) old) m

  pub taken_order : (d : Account) (g : Input) → IsInOrder decl half d → IsInOrder decl half (account_taken d g)
  taken_order d (inputs.Called command) old epoch is = refl
  taken_order d (inputs.Got e) old epoch is = heard_order d e.message old epoch is
  taken_order d (inputs.Lost n) old epoch is = counted_order d n None old epoch is

  pub written_order : (d : Account) (w : Record) → IsInOrder decl half d → IsInOrder decl half (account_written d w)
  written_order d w old = written_cases d (IsInOrder decl half) old old (λ commit. old) w

-- a request goes to the next site

pub first_drop : (xs : List ℕ) (n s : ℕ) → is_this s (first (drop n xs)) ≡ true → take (suc n) xs ≡ take n xs ++ s ∷ []
first_drop [] zero s is = absurd (let never : ⊥ = cc in never)
first_drop [] (suc n) s is = absurd (let never : ⊥ = cc in never)
first_drop (x ∷ xs) zero s is = ap (λ (y : ℕ). y ∷ []) (eqb-true x s is)
first_drop (x ∷ xs) (suc n) s is = ap (λ (v : List ℕ). x ∷ v) (first_drop xs n s is)

-- the halves of a `do`
pub data IsHalf : (Want → Bool) → Type 0 where
  of_reads : IsHalf is_read
  of_appends : IsHalf is_append

-- Which transactions a client has begun, by its life and its count: no name is begun twice.
use Rattle.std.proofs.Common.{◌≡◌, ◌≤◌, ◌<◌, ◌⊎◌, ℕ, ◌+◌, Bool, true, false, inl, inr, Option, None, option_and_then}
use Rattle.std.proofs.Common.{refl, sym, ap, subst, arith}
use Rattle.qc_stamp.specs.declared.stamp.TxId.{TxId}
use Rattle.qc_decl.specs.declared.declaration.Declaration.{Declaration}
use Rattle.qc_msg.specs.declared.message.Message.{Message}
use Rattle.qc_msg.specs.declared.step.Command.{Command}
use Rattle.qc_msg.specs.declared.step.Input.{Input}
use Rattle.qc_msg.specs.declared.step.Input.TheVariants as inputs
use Rattle.qc_msg.specs.Vocabulary.{Invocation, do_in, began_in}
use Rattle.qc_msg.specs.declared.reply.Reply.{Reply}
use Rattle.qc_promise.specs.Vocabulary.{Account, Current, account_sent, account_taken, answer_of, found_absent}
use Rattle.qc_promise.specs.Vocabulary.{responded, with_absent, with_current, with_response, account_told}
use Rattle.laws_turns.proofs.ReadingCases.{mapped}
use Rattle.laws_reach.proofs.Gists.{Gist, counted_same, gist, heard_same, sent_same}
use Rattle.laws_reach.proofs.ToldCases.{account_by, stays_same, told_cases}

-- a transaction of this client that it has begun: in an earlier life, or in the present one, among those that began
-- there. Before the record of a rise is written, and while it is down, no more is known than that the life isn't a
-- later one
abbrev pub IsNamed : ℕ → Bool → ℕ → ℕ → TxId → Type 0
IsNamed client true life count tx = (tx.client ≡ client) × ((tx.life < life) ⊎ ((tx.life ≡ life) × (tx.number ≤ count)))
IsNamed client false life count tx = (tx.client ≡ client) × (tx.life ≤ life)

-- the name that is next
abbrev pub next_name : ℕ → ℕ → ℕ → TxId
next_name client life count = record { client = client; life = life; number = count + 1 }

module _ (client : ℕ) (tx : TxId) where
  pub named_as : (b : Bool) (life count next more : ℕ) → next ≡ life → more ≡ count → IsNamed client b life count tx
      → IsNamed client b next more tx
  named_as b life count next more same equal is =
      subst (λ (n : ℕ). IsNamed client b n more tx) (sym same)
      (subst (λ (n : ℕ). IsNamed client b life n tx) (sym equal) is)

  pub named_down : (b : Bool) (life count : ℕ) → IsNamed client b life count tx → IsNamed client false life count tx
  named_down true life count is = (is.0, by is.1)
    where
      by : (tx.life < life) ⊎ ((tx.life ≡ life) × (tx.number ≤ count)) → tx.life ≤ life
      by (inl before) = omega arith
      by (inr at) = let same : tx.life ≡ life = at.0 in omega arith
  named_down false life count is = is

  pub named_risen : (life count next more : ℕ) → life ≤ next → IsNamed client false life count tx
      → IsNamed client false next more tx
  named_risen life count next more up is = (is.0, let low : tx.life ≤ life = is.1 in omega arith)

  pub named_lives : (life count : ℕ) → IsNamed client false life count tx → IsNamed client true (life + 1) count tx
  named_lives life count is = (is.0, inl (let low : tx.life ≤ life = is.1 in omega arith))

  pub named_more : (life count : ℕ) → IsNamed client true life count tx → IsNamed client true life (count + 1) tx
  named_more life count is = (is.0, by is.1)
    where
      by : (tx.life < life) ⊎ ((tx.life ≡ life) × (tx.number ≤ count))
          → (tx.life < life) ⊎ ((tx.life ≡ life) × (tx.number ≤ count + 1))
      by (inl before) = inl before
      by (inr at) = inr (at.0, let low : tx.number ≤ count = at.1 in omega arith)

  pub next_named : (life count : ℕ) → next_name client life count ≡ tx → IsNamed client true life (count + 1) tx
  next_named life count is = (
    sym (ap (λ (t : TxId). t.client) is),
    inr (
      sym (ap (λ (t : TxId). t.life) is),
      let same : count + 1 ≡ tx.number = ap (λ (t : TxId). t.number) is in
          omega arith,
    ),
  )

  pub next_new : (life count : ℕ) → next_name client life count ≡ tx → IsNamed client true life count tx → ⊥
  next_new life count is named = by named.1
    where
      by : (tx.life < life) ⊎ ((tx.life ≡ life) × (tx.number ≤ count)) → ⊥
      by (inl before) = let same : life ≡ tx.life = ap (λ (t : TxId). t.life) is in omega arith
      by (inr at) = let low : tx.number ≤ count = at.1 in
          let same : count + 1 ≡ tx.number = ap (λ (t : TxId). t.number) is in omega arith

-- an account's life and count, deed by deed

abbrev pub SameCounts : Account → Account → Type 0
SameCounts d e = (e.life ≡ d.life) × (e.count ≡ d.count)

by_gist : (d e : Account) → gist e ≡ gist d → SameCounts d e
by_gist d e same = (ap (λ (g : Gist). g.life) same, ap (λ (g : Gist). g.count) same)

pub taken_counts : (d : Account) (g : Input) → SameCounts d (account_taken d g)
taken_counts d (inputs.Called command) = (refl, refl)
taken_counts d (inputs.Got e) = by_gist d (account_taken d (inputs.Got e)) (heard_same d e.message)
taken_counts d (inputs.Lost number) = by_gist d (account_taken d (inputs.Lost number)) (counted_same d number None)

pub sent_counts : (decl : Declaration) (d : Account) (number to : ℕ) (message : Message)
    → SameCounts d (account_sent decl d number to message)
sent_counts decl d number to message = by_gist d (account_sent decl d number to message)
    (sent_same decl d number to message)

absent_as : (d : Account) (o : Option Command) → SameCounts d (found_absent d o)
absent_as d o =
    mapped (SameCounts d) (λ (i : Invocation). with_current d (λ (t : Current). with_absent t i.object i.inv)) d
    (option_and_then do_in o) (λ i. (refl, refl)) (refl, refl)

response_as : (decl : Declaration) (d : Account) (o : Option Command) → SameCounts d (responded decl d o)
response_as decl d o =
    mapped (SameCounts d) (λ (i : Invocation). with_current d
    (λ (t : Current). with_response decl t i.object i.inv (answer_of decl t i.object i.inv))) d
    (option_and_then do_in o) (λ i. (refl, refl)) (refl, refl)

-- a reply that begins none
pub told_counts : (decl : Declaration) (d : Account) (r : Reply) → began_in r ≡ None
    → SameCounts d (account_told decl d r)
told_counts decl d r unbegun =
    told_cases decl d
    (λ r began stamp short resp over refuses doubt. began ≡ None
    → SameCounts d (account_by decl d began stamp short resp over refuses)) (λ none. (refl, refl))
    (λ r short refuses says unbegun uncommitted goes none.
    by_gist d (account_by decl d None None short None false refuses) (stays_same decl d short refuses))
    (λ tx some. absurd (let never : ⊥ = cc in never)) (λ none. absent_as d d.command)
    (λ resp none. response_as decl d d.command) (λ r unbegun uncommitted over none. (refl, refl))
    (λ none. (refl, refl)) (λ stamp none. (refl, refl)) r unbegun

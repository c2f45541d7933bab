-- Requests of an earlier epoch, and those that name another life, are refused for that.
use Rattle.std.proofs.Common.{◌≡◌, ◌≢◌, ◌⊎◌, ◌<◌, ◌≤◌, ◌==◌, nat_lt, if◌then◌else◌, ℕ, Bool, true, false, List, []}
use Rattle.std.proofs.Common.{◌∷◌, ◌++◌, inl, inr, Option, Some, None, refl, sym, ap, ◌∙◌, subst, arith, ltb-true}
use Rattle.std.proofs.Common.{eqb-true}
use Rattle.qc_core.specs.Vocabulary.{Lives}
use Rattle.std.proofs.lemmas.Bool.{lt-ltb}
use Rattle.qc_core.specs.Lives as lives
use Rattle.qc_decl.specs.declared.declaration.Declaration.{Declaration}
use Rattle.laws_guarantees.proofs.ForgettingAnswers.{Forgets}
use Rattle.qc_list.specs.Vocabulary.{In}
use Rattle.qc_msg.specs.Vocabulary.{Deed, Takes, quiet}
use Rattle.qc_msg.specs.declared.message.Answer.{Answer}
use Rattle.qc_msg.specs.declared.message.Answer.TheVariants as answers
use Rattle.qc_msg.specs.declared.message.Message.TheVariants as messages
use Rattle.qc_msg.specs.declared.message.Want.TheVariants.{Prepare}
use Rattle.qc_msg.specs.declared.step.Input.{Input}
use Rattle.qc_msg.specs.declared.turn.Posting.{Posting}
use Rattle.qc_site.specs.Vocabulary.{SiteState, closed_fault, fault_of, life_fault, moved, names_declared, requested}
use Rattle.qc_site.specs.Vocabulary.{site_at}
use Rattle.qc_stamp.specs.declared.stamp.TxId.{TxId}

-- a request of an earlier epoch, or one that names another life, is refused for that

life_refused : (s : SiteState) (life : ℕ) → (life ≢ 0) → (life ≢ s.life)
    → life_fault s life ≡ Some (answers.Restarted s.life)
life_refused s life none other = by (life == 0) (life == s.life) refl refl
  where
    by : (x y : Bool) → (life == 0) ≡ x → (life == s.life) ≡ y
        → (if x then None else (if y then None else Some (answers.Restarted s.life))) ≡ Some (answers.Restarted s.life)
    by true y at is = absurd (none (eqb-true life 0 at))
    by false true at is = absurd (other (eqb-true life s.life is))
    by false false at is = refl

-- it isn't refused as behind, nor as forgotten
record IsRefused (s : SiteState) (epoch life : ℕ) : Type 0 where
  pub fault : Answer
  pub is : fault_of s epoch life ≡ Some fault
  pub remembers : Forgets fault → ⊥

refused : (s : SiteState) (epoch life : ℕ) → epoch ≤ s.epoch → (epoch < s.epoch) ⊎ (life ≢ s.life) → (life ≢ 0)
    → IsRefused s epoch life
refused s epoch life low apart none = by (nat_lt s.epoch epoch) (nat_lt epoch s.epoch) refl refl
  where
    closed : (life ≢ s.life) → (o : Option ℕ)
        → (fault : Answer) × (closed_fault s life o ≡ Some fault) × (Forgets fault → ⊥)
    closed other None = (answers.Restarted s.life, life_refused s life none other, λ never. never)
    closed other (Some k) = (answers.Closed k, refl, λ never. never)

    by : (x y : Bool) → nat_lt s.epoch epoch ≡ x → nat_lt epoch s.epoch ≡ y → IsRefused s epoch life
    by true y at is = absurd (let more : s.epoch < epoch = ltb-true s.epoch epoch at in let never : ⊥ = omega arith in
        never)
    by false true at is = record {
      fault = answers.Closed s.epoch;
      is = (λ i. if at i then Some (answers.Behind s.epoch) else
          (if is i then Some (answers.Closed s.epoch) else closed_fault s life s.closed_for));
      remembers = λ never. never;
    }
    by false false at is =
        let other : life ≢ s.life = elim apart [
          | inl less ↦ absurd
              (let more : nat_lt epoch s.epoch ≡ true = lt-ltb epoch s.epoch less in let never : ⊥ = cc in never)
          | inr
              other ↦ other
        ] in
        let c = closed other s.closed_for in
        record {
          fault = c.0;
          is = (λ i. if at i then Some (answers.Behind s.epoch) else
              (if is i then Some (answers.Closed s.epoch) else closed_fault s life s.closed_for)) ∙ c.1;
          remembers = c.2;
        }

pub other_life : (decl : Declaration) (s : SiteState) (from number : ℕ) (tx : TxId) (epoch life : ℕ) → epoch ≤ s.epoch
    → (epoch < s.epoch) ⊎ (life ≢ s.life) → (life ≢ 0)
    → (p : Posting) (k : ℕ) (x : Answer) → In p
    (site_at decl s from number (messages.Request tx epoch life Prepare)).turn.sends
    → p.message ≡ messages.Answer k x → Forgets x → ⊥
other_life decl s from number tx epoch life low apart none p k x among is forgets =
    by (names_declared decl tx Prepare) among
  where
    r : IsRefused s epoch life
    r = refused s epoch life low apart none

    one : In p (requested decl s from number tx Prepare (Some r.fault)).turn.sends → ⊥
    one (inl here) = r.remembers (subst Forgets
        (let both : messages.Answer k x ≡ messages.Answer number r.fault = sym is
        ∙ ap (λ (y : Posting). y.message) here in cc) forgets)
    one (inr never) = never

    by : (b : Bool) → In p (if b then requested decl s from number tx Prepare
        (fault_of s epoch life) else moved s quiet).turn.sends → ⊥
    by true there = one (subst (λ (o : Option Answer). In p (requested decl s from number tx Prepare o).turn.sends) r.is
        there)
    by false there = there

-- a life with an open input: the life before it
pub life_before : (decl : Declaration) (a : ℕ) (ds : List Deed) (b : Bool) (n : ℕ) → Lives decl a ds b n → b ≡ true
    → (before : List Deed) × (g : Input) × (m : ℕ) × ((ds ≡ before ++ Takes g ∷ []) × Lives decl a before false m)
life_before decl a ds b n lives.starts is = absurd (let never : ⊥ = cc in never)
life_before decl a ds b n (lives.takes before g m life may comes) is = (before, g, m, (refl, life))
life_before decl a ds b n (lives.posts before turn m first life above lawful) is = absurd (let never : ⊥ = cc in never)
life_before decl a ds b n (lives.crashes before m life up) is = absurd (let never : ⊥ = cc in never)
life_before decl a ds b n (lives.rises before records turn m first life up above lawful) is =
    absurd (let never : ⊥ = cc in never)
life_before decl a ds b n (lives.unopened before cause m life up by_disk) is = absurd (let never : ⊥ = cc in never)

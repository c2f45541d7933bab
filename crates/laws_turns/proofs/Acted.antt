-- Each actor of a run takes inputs and posts turns, one after the other; who is no actor does nothing.
use Rattle.std.proofs.Common.{◌≡◌, ℕ, ◌+◌, ◌<◌, ◌≤◌, ◌==◌, Bool, true, false, cond, List, [], ◌∷◌, ◌++◌, length, Some}
use Rattle.std.proofs.Common.{slice_get, refl, sym, ap, ◌∙◌, subst, arith, eq-eqb, eqb-true, length-append, zero-le}
use Rattle.std.specs.Prelude.{slice_set}
use Rattle.std.proofs.lemmas.List.{append-nil}
use Rattle.qc_core.specs.Vocabulary.{Acts, IsLawful}
use Rattle.qc_core.specs.Acts as acts
use Rattle.qc_decl.specs.declared.declaration.Declaration.{Declaration}
use Rattle.qc_decl.specs.Vocabulary.{actors, controller}
use Rattle.qc_msg.specs.declared.step.Input.{Input}
use Rattle.qc_msg.specs.declared.step.Step.{Step}
use Rattle.qc_msg.specs.declared.step.Step.TheVariants as steps
use Rattle.qc_msg.specs.declared.turn.Turn.{Turn}
use Rattle.qc_msg.specs.Vocabulary.{Deed, Entry, WasSentTo, by, deed_at, deeds, mail, marked, posted, step_of}
use Rattle.qc_msg.proofs.GrownMail.{length-envelopes, mail-append, mail-posted, mail-taken}
use Rattle.qc_msg.proofs.DeedsGrow.{deeds-append, deeds-other}
use Rattle.qc_msg.proofs.Growth.{deeds-posted, deeds-taken}
use Rattle.qc_script.specs.Vocabulary.{Runs, phase_of}
use Rattle.qc_script.specs.Runs.{begins, takes, posts, phase, control}
use Rattle.qc_script.specs.declared.script.Script.{Script}
use Rattle.laws_turns.proofs.Arrivals.{what_is_ready_was_sent}
use Rattle.laws_turns.proofs.Numbered.{IsSilent, control_silent, phase_silent}
use Rattle.laws_turns.proofs.Places.{length-replicate, replicate_within}
use Rattle.laws_turns.proofs.Running.{what_is_ready_may_be_taken}
use Rattle.laws_turns.specs.Vocabulary.{ActsIn}
use Rattle.laws_turns.proofs.Up.{run_up}
use Rattle.qc_list.proofs.Places.{some_at, replicate_at, length-slice_set, slice_get-set_other, slice_get-set_same}

-- a step that is nobody's deed
pub deeds-silent : (a b : ℕ) (h : List Entry) (step : Step) → IsSilent step
    → deeds a [] (h ++ marked b step ∷ []) ≡ deeds a [] h
deeds-silent a b h step silent =
    deeds-append a [] h (marked b step ∷ []) ∙ ap (λ (ds : List Deed). deeds a [] h ++ ds) (by (b == a))
    ∙ append-nil (deeds a [] h)
  where
    by : (t : Bool) → cond t (deed_at (mail h) step) [] ++ [] ≡ []
    by true = append-nil (deed_at (mail h) step) ∙ silent.deeds (mail h)
    by false = refl

-- another actor's place

pub differs : (a b : ℕ) → (b == a) ≡ false → b ≡ a → ⊥
differs a b other same = let is : (b == a) ≡ true = eq-eqb b a same in let never : ⊥ = cc in never

pub open_elsewhere : (open_inputs : List Bool) (a b : ℕ) (v t : Bool) → (b == a) ≡ false
    → slice_get (slice_set open_inputs b v) a ≡ Some t → slice_get open_inputs a ≡ Some t
open_elsewhere open_inputs a b v t other is = sym (slice_get-set_other open_inputs b a v (differs a b other)) ∙ is

pub open_here : (open_inputs : List Bool) (a b : ℕ) (v w t : Bool) → (b == a) ≡ true → slice_get open_inputs b ≡ Some w
    → slice_get (slice_set open_inputs b v) a ≡ Some t → v ≡ t
open_here open_inputs a b v w t same there is =
    let now : slice_get (slice_set open_inputs b v) b ≡ Some v = slice_get-set_same open_inputs b v w there in
    let here : slice_get (slice_set open_inputs b v) b ≡ Some t =
    subst (λ (k : ℕ). slice_get (slice_set open_inputs b v) k ≡ Some t) (sym (eqb-true b a same)) is in
    cc

module _ (decl : Declaration) (script : Script) where
  -- one event

  acts_on : (a : ℕ) (t : Bool) (h k : List Entry) → deeds a [] k ≡ deeds a [] h → length (mail h) ≤ length (mail k)
      → ActsIn decl a h t → ActsIn decl a k t
  acts_on a t h k same more r = record {
    above = r.above;
    acts = subst (λ (ds : List Deed). Acts decl a ds t r.above) (sym same) r.acts;
    within = (let old : r.above ≤ length (mail h) = r.within in omega arith);
  }

  mail_grows : (h k : List Entry) → length (mail h) ≤ length (mail (h ++ k))
  mail_grows h k = let whole : length (mail (h ++ k)) ≡ length (mail h) + length (mail k) = ap length (mail-append h k)
      ∙ length-append (mail h) (mail k) in omega arith

  acts_takes : (a : ℕ) (given : Input) (h : List Entry) → WasSentTo a (mail h) given → acts.MayTake (deeds a [] h) given
      → ActsIn decl a h false → ActsIn decl a (h ++ marked a (step_of given) ∷ []) true
  acts_takes a given h sent may r = record {
    above = r.above;
    acts = subst (λ (ds : List Deed). Acts decl a ds true r.above) (sym (deeds-taken a h given sent))
        (acts.takes (deeds a [] h) given r.above r.acts may);
    within = (let old : r.above ≤ length (mail h) = r.within in
        let same : length (mail (h ++ marked a (step_of given) ∷ [])) ≡ length (mail h) =
        ap length (mail-taken h a given) in omega arith);
  }

  mail_posted : (a : ℕ) (turn : Turn) (h : List Entry)
      → length (mail (h ++ by a (posted (length (mail h)) turn))) ≡ length (mail h) + length turn.sends
  mail_posted a turn h =
      ap length (mail-append h (by a (posted (length (mail h)) turn)))
      ∙ length-append (mail h) (mail (by a (posted (length (mail h)) turn)))
      ∙ ap (λ (k : ℕ). length (mail h) + k) (ap length (mail-posted a (length (mail h)) turn)
      ∙ length-envelopes a (length (mail h)) turn.sends)

  acts_posts : (a : ℕ) (turn : Turn) (h : List Entry) → IsLawful decl a (deeds a [] h) turn → ActsIn decl a h true
      → ActsIn decl a (h ++ by a (posted (length (mail h)) turn)) false
  acts_posts a turn h law r = record {
    above = length (mail h) + length turn.sends;
    acts = subst (λ (ds : List Deed). Acts decl a ds false (length (mail h) + length turn.sends))
        (sym (deeds-posted a (length (mail h)) h turn))
        (acts.posts (deeds a [] h) turn r.above (length (mail h)) r.acts r.within law);
    within = (let same : length (mail (h ++ by a (posted (length (mail h)) turn))) ≡ length
        (mail h) + length turn.sends = mail_posted a turn h in omega arith);
  }

  -- each actor

  pub actors_take_and_post_by_turns : (h : List Entry) (open_inputs : List Bool)
      → Runs (IsLawful decl) decl script h open_inputs
      → (a : ℕ) (t : Bool) → slice_get open_inputs a ≡ Some t → ActsIn decl a h t
  actors_take_and_post_by_turns h open_inputs begins a t is =
      subst (λ (v : Bool). ActsIn decl a [] v) (sym (replicate_at (actors decl) a false t is))
      (record { above = 0; acts = acts.starts; within = zero-le })
  actors_take_and_post_by_turns h open_inputs (takes c given before older run free rdy) a t is =
      at (c == a) refl (actors_take_and_post_by_turns older before run)
    where
      at : (same : Bool) → (c == a) ≡ same → ((a : ℕ) (t : Bool) → slice_get before a ≡ Some t → ActsIn decl a older t)
          → ActsIn decl a (older ++ marked c (step_of given) ∷ []) t
      at true same old =
          subst (λ (v : Bool). ActsIn decl a (older ++ marked c (step_of given) ∷ []) v)
          (open_here before a c true false t same free is)
          (subst (λ (k : ℕ). ActsIn decl k (older ++ marked c (step_of given) ∷ []) true) (eqb-true c a same)
          (acts_takes c given older (what_is_ready_was_sent (IsLawful decl) decl script older before run c given rdy)
          (what_is_ready_may_be_taken decl script c older
          (run_up (IsLawful decl) decl script older before run c) given rdy) (old c false free)))
      at false other old =
          acts_on a t older (older ++ marked c (step_of given) ∷ [])
          (deeds-other c a [] older (step_of given ∷ []) other) (mail_grows older (marked c (step_of given) ∷ []))
          (old a t (open_elsewhere before a c true t other is))
  actors_take_and_post_by_turns h open_inputs (posts c turn before older run taken law) a t is =
      at (c == a) refl (actors_take_and_post_by_turns older before run)
    where
      at : (same : Bool) → (c == a) ≡ same → ((a : ℕ) (t : Bool) → slice_get before a ≡ Some t → ActsIn decl a older t)
          → ActsIn decl a (older ++ by c (posted (length (mail older)) turn)) t
      at true same old =
          subst (λ (v : Bool). ActsIn decl a (older ++ by c (posted (length (mail older)) turn)) v)
          (open_here before a c false true t same taken is)
          (subst (λ (k : ℕ). ActsIn decl k (older ++ by c (posted (length (mail older)) turn)) false)
          (eqb-true c a same)
          (acts_posts c turn older law (old c true taken)))
      at false other old =
          acts_on a t older (older ++ by c (posted (length (mail older)) turn))
          (deeds-other c a [] older (posted (length (mail older)) turn) other)
          (mail_grows older (by c (posted (length (mail older)) turn)))
          (old a t (open_elsewhere before a c false t other is))
  actors_take_and_post_by_turns h open_inputs (phase before older run none done quiet more) a t is =
      acts_on a t older (older ++ marked (controller decl) (steps.Phase (phase_of older + 1)) ∷ [])
      (deeds-silent a (controller decl) older (steps.Phase (phase_of older + 1))
      (phase_silent (phase_of older + 1)))
      (mail_grows older (marked (controller decl) (steps.Phase (phase_of older + 1)) ∷ []))
      (actors_take_and_post_by_turns older before run a t is)
  actors_take_and_post_by_turns h open_inputs (control line lines step before older run left is_step) a t is =
      acts_on a t older (older ++ marked (controller decl) step ∷ [])
      (deeds-silent a (controller decl) older step (control_silent line step is_step))
      (mail_grows older (marked (controller decl) step ∷ [])) (actors_take_and_post_by_turns older before run a t is)

-- who has a place is an actor, over any conduct; so nobody else does anything

module _ (lawful : ℕ → List Deed → Turn → Type 0) (decl : Declaration) (script : Script) where
  pub has_place : (h : List Entry) (open_inputs : List Bool) → Runs lawful decl script h open_inputs
      → (a : ℕ) (t : Bool) → slice_get open_inputs a ≡ Some t → a < actors decl
  has_place h open_inputs begins a t is = replicate_within (actors decl) a false t is
  has_place h open_inputs (takes c given before older run free rdy) a t is =
      at (c == a) refl (has_place older before run)
    where
      at : (same : Bool) → (c == a) ≡ same → ((a : ℕ) (t : Bool) → slice_get before a ≡ Some t → a < actors decl)
          → a < actors decl
      at true same old = old a false (subst (λ (k : ℕ). slice_get before k ≡ Some false) (eqb-true c a same) free)
      at false other old = old a t (open_elsewhere before a c true t other is)
  has_place h open_inputs (posts c turn before older run taken law) a t is =
      at (c == a) refl (has_place older before run)
    where
      at : (same : Bool) → (c == a) ≡ same → ((a : ℕ) (t : Bool) → slice_get before a ≡ Some t → a < actors decl)
          → a < actors decl
      at true same old = old a true (subst (λ (k : ℕ). slice_get before k ≡ Some true) (eqb-true c a same) taken)
      at false other old = old a t (open_elsewhere before a c false t other is)
  has_place h open_inputs (phase before older run none done quiet more) a t is = has_place older before run a t is
  has_place h open_inputs (control line lines step before older run left is_step) a t is =
      has_place older before run a t is

  apart : (a c : ℕ) → actors decl ≤ a → c < actors decl → (c == a) ≡ false
  apart a c past within = by (c == a) refl
    where
      by : (t : Bool) → (c == a) ≡ t → t ≡ false
      by true same = let is : c ≡ a = eqb-true c a same in absurd (omega arith)
      by false other = refl

  pub others_do_nothing : (h : List Entry) (open_inputs : List Bool) → Runs lawful decl script h open_inputs → (a : ℕ)
      → actors decl ≤ a → deeds a [] h ≡ []
  others_do_nothing h open_inputs begins a past = refl
  others_do_nothing h open_inputs (takes c given before older run free rdy) a past =
      deeds-other c a [] older (step_of given ∷ []) (apart a c past (has_place older before run c false free))
      ∙ others_do_nothing older before run a past
  others_do_nothing h open_inputs (posts c turn before older run taken law) a past =
      deeds-other c a [] older (posted (length (mail older)) turn)
      (apart a c past (has_place older before run c true taken)) ∙ others_do_nothing older before run a past
  others_do_nothing h open_inputs (phase before older run none done quiet more) a past =
      deeds-silent a (controller decl) older (steps.Phase (phase_of older + 1)) (phase_silent (phase_of older + 1))
      ∙ others_do_nothing older before run a past
  others_do_nothing h open_inputs (control line lines step before older run left is_step) a past =
      deeds-silent a (controller decl) older step (control_silent line step is_step)
      ∙ others_do_nothing older before run a past

-- and each actor has a place

module _ (lawful : ℕ → List Deed → Turn → Type 0) (decl : Declaration) (script : Script) where
  pub as_many : (h : List Entry) (open_inputs : List Bool) → Runs lawful decl script h open_inputs
      → length open_inputs ≡ actors decl
  as_many h open_inputs begins = length-replicate (actors decl) false
  as_many h open_inputs (takes c given before older run free rdy) = length-slice_set before c true
      ∙ as_many older before run
  as_many h open_inputs (posts c turn before older run taken law) = length-slice_set before c false
      ∙ as_many older before run
  as_many h open_inputs (phase before older run none done quiet more) = as_many older before run
  as_many h open_inputs (control line lines step before older run left is_step) = as_many older before run

  pub has_entry : (h : List Entry) (open_inputs : List Bool) → Runs lawful decl script h open_inputs → (a : ℕ)
      → a < actors decl → (t : Bool) × (slice_get open_inputs a ≡ Some t)
  has_entry h open_inputs run a within = some_at open_inputs a
      (let long : length open_inputs ≡ actors decl = as_many h open_inputs run in omega arith)

-- What an accepted declaration has is in form: objects, invocations, responses and events stay below their limits; so
-- do commands of it, and answers of views.
use Rattle.std.proofs.Common.{◌≡◌, ℕ, zero, suc, ◌<◌, ◌≤◌, ◌-◌, ◌==◌, Bool, true, false, cond, length, Option, Some}
use Rattle.std.proofs.Common.{None, refl, slice_get, subst, arith}
use Rattle.std.specs.Prelude.{option_and_then, option_map, MatchOption}
use Rattle.std.proofs.lemmas.Bool.{eqb-false}
use Rattle.std.proofs.lemmas.Option.{slice_get_within}
use Rattle.qc_decl.specs.Vocabulary.{IsAccepted, plan_in, table_at}
use Rattle.qc_plan.specs.declared.plan.Plan.{Plan}
use Rattle.qc_record.specs.Vocabulary.{IsWithin}
use Rattle.qc_decl.specs.declared.declaration.Declaration.{Declaration}
use Rattle.qc_fit.specs.Vocabulary.{HasEvent, HasInvocation, HasResponse, HasPlan}
use Rattle.qc_front.specs.Vocabulary.{resp_of}
use Rattle.qc_msg.specs.declared.step.Command.{Command}
use Rattle.qc_table.specs.Vocabulary.{IsSound, Rules, events_of}
use Rattle.qc_table.specs.declared.kind.Kind.{Kind}
use Rattle.laws_bounds.proofs.EventsNamed.{EventNamed, answer_named}
use Rattle.laws_bounds.proofs.Names.{CommandNamed}
use Rattle.laws_bounds.proofs.Forms.{CommandInForm, EventInForm, InvocationInForm}
use Rattle.laws_bounds.proofs.FrontsInForm.{AnswersInForm}
use Rattle.qc_msg.specs.Vocabulary.{Invocation, do_in, epoch_in}
use Rattle.qc_table.proofs.Few.{few_events}

positive : (n : ℕ) → (n ≡ 0 → ⊥) → 1 ≤ n
positive zero none = absurd (none refl)
positive (suc n) none = omega arith

-- rows without fault have few events

-- an object that has a type is declared, and its type is sound
record IsTyped (object : ℕ) (rules : Rules) : Type 0 where
  low : object ≤ 15
  sound : IsSound rules

module _ (decl : Declaration) (accepted : IsAccepted decl) where
  typed : (object : ℕ) (rules : Rules) → table_at decl object ≡ Some rules → IsTyped object rules
  typed object rules is = by (slice_get decl.objects object) refl is
    where
      at : (number : ℕ) (k : Option Kind) → slice_get decl.objects object ≡ Some number
          → slice_get decl.kinds number ≡ k → option_map (λ (k : Kind). k.table) k ≡ Some rules
          → IsTyped object rules
      at number None numbered kind found = absurd (let never : ⊥ = cc in never)
      at number (Some k) numbered kind found =
          let within : object < length decl.objects = slice_get_within decl.objects object number numbered in
          let few : length decl.objects ≤ 16 = accepted.objects in
          let same : k.table ≡ rules = cc in
          record {
            low = omega (arith, within, few);
            sound = subst IsSound same (accepted.right number k kind).sound;
          }

      by : (o : Option ℕ) → slice_get decl.objects object ≡ o
          → option_and_then (λ (n : ℕ). option_map (λ (k : Kind). k.table) (slice_get decl.kinds n)) o ≡ Some rules
          → IsTyped object rules
      by None numbered found = absurd (let never : ⊥ = cc in never)
      by (Some number) numbered found = at number (slice_get decl.kinds number) numbered refl found

  invocation_form : (object inv : ℕ) → HasInvocation decl object inv → InvocationInForm object inv
  invocation_form object inv has =
      let its : IsTyped object has.table = typed object has.table has.declared in
      let few : has.table.invs ≤ 32 = its.sound.invs in
      let low : inv < has.table.invs = has.below in
      record { object_is = its.low; inv_is = omega (arith, few, low) }

  event_form : (object event resp : ℕ) → HasEvent decl object event → HasResponse decl object (Some resp)
      → EventInForm object event resp
  event_form object event resp has tells =
      let its : IsTyped object has.table = typed object has.table has.declared in
      let few : length (events_of has.table.rows) ≤ 64 = few_events has.table its.sound.faultless in
      let low : event < length (events_of has.table.rows) = has.below in
      let most : tells.table.resps ≤ 32 = (typed object tells.table tells.declared).sound.resps in
      let below : resp < tells.table.resps = tells.below in
      record { object_is = its.low; event_is = omega (arith, few, low); resp_is = omega (arith, most, below) }

  pub answers_in_form : AnswersInForm decl
  answers_in_form t object inv event is =
      let named : EventNamed decl object event = answer_named decl accepted t object inv event is in
      event_form object event (resp_of decl object event) named.event_is named.resp_is

  -- an epoch with a plan
  epoch_form : (number : ℕ) (plan : Plan) → plan_in decl number ≡ Some plan → IsWithin 1 8 number
  epoch_form number plan is = by (number == 0) refl is
    where
      by : (b : Bool) → (number == 0) ≡ b → cond b None (slice_get decl.plans (number - 1)) ≡ Some plan
          → IsWithin 1 8 number
      by true none is = absurd (let never : ⊥ = cc in never)
      by false some is =
          let place : number - 1 < length decl.plans = slice_get_within decl.plans (number - 1) plan is in
          let few : length decl.plans ≤ 8 = accepted.epochs in
          let past : number ≡ 0 → ⊥ = eqb-false number 0 some in
          (let low : 1 ≤ number = positive number past in low, omega (arith, place, few))

  pub command_form : (c : Command) → CommandNamed decl c → CommandInForm c
  command_form c named = by (do_in c) (epoch_in c) named
    where
      by : (o : Option Invocation) (k : Option ℕ)
          → MatchOption o (MatchOption k (Unit {0}) (HasPlan decl))
          (λ (i : Invocation). HasInvocation decl i.object i.inv)
          → MatchOption o (MatchOption k (Unit {0}) (IsWithin 1 8))
          (λ (i : Invocation). InvocationInForm i.object i.inv)
      by None None named = tt
      by None (Some number) named = epoch_form number named.0 named.1
      by (Some i) k named = invocation_form i.object i.inv named

-- What an accepted declaration's scripts ask, and the event that answers it, is declared; the first epoch has a plan.
use Rattle.std.proofs.Common.{◌≡◌, ℕ, ◌<◌, ◌≤◌, ◌-◌, ◌==◌, Bool, true, false, cond, List, length, Option, Some, None}
use Rattle.std.proofs.Common.{slice_get, refl, sym, ap, ◌∙◌, subst, arith, eqb-true}
use Rattle.std.specs.Prelude.{option_and_then, option_map, unwrap_or}
use Rattle.std.specs.Str.{bytes_eq}
use Rattle.std.proofs.lemmas.List.Quantifiers.{position-Some}
use Rattle.qc_decl.specs.Vocabulary.{HasNames, IsAccepted, inv_named, place_of, table_at}
use Rattle.qc_plan.specs.declared.plan.Plan.{Plan}
use Rattle.qc_decl.specs.declared.declaration.Declaration.{Declaration}
use Rattle.qc_decl.specs.declared.declaration.KindNames.{KindNames}
use Rattle.qc_fit.specs.Vocabulary.{HasEvent, HasInvocation, HasPlan, HasResponse}
use Rattle.qc_front.specs.declared.transaction.Transaction.{Transaction}
use Rattle.qc_front.specs.Vocabulary.{answer_of, resp_of}
use Rattle.qc_msg.specs.declared.step.Command.{Command}
use Rattle.qc_msg.specs.declared.step.Command.TheVariants.{Begin, Do, Commit, Abort, Epoch}
use Rattle.qc_msg.specs.Vocabulary.{first_epoch}
use Rattle.qc_script.specs.Vocabulary.{IsAskedFor, IsInv, IsObject}
use Rattle.qc_table.specs.Vocabulary.{IsLowest, IsSound, Rules, events_of, first_of}
use Rattle.qc_table.specs.declared.kind.Kind.{Kind}
use Rattle.qc_table.specs.declared.row.Event.{Event}
use Rattle.qc_table.proofs.Named.{allowed_within}
use Rattle.qc_table.proofs.Numbered.{first_lowest, first_is_an_event}
use Rattle.qc_view.specs.Vocabulary.{answer_in, state_in}
use Rattle.qc_view.specs.declared.view.View.{View}
use Rattle.laws_bounds.proofs.Names.{CommandNamed}
use Rattle.qc_list.proofs.Places.{some_at}

-- an event that is declared, with its response
pub record EventNamed (decl : Declaration) (object event : ℕ) : Type 0 where
  pub event_is : HasEvent decl object event
  pub resp_is : HasResponse decl object (Some (resp_of decl object event))

module _ (decl : Declaration) (accepted : IsAccepted decl) where
  -- an object's type, where it has one

  pub record HasTable (object : ℕ) (rules : Rules) : Type 0 where
    pub number : ℕ
    pub kind : Kind
    pub numbered : slice_get decl.objects object ≡ Some number
    pub typed : slice_get decl.kinds number ≡ Some kind
    pub rules_are : kind.table ≡ rules

  has_table : (object : ℕ) (rules : Rules) → table_at decl object ≡ Some rules → HasTable object rules
  has_table object rules is = by (slice_get decl.objects object) refl is
    where
      at : (number : ℕ) (k : Option Kind) → slice_get decl.objects object ≡ Some number
          → slice_get decl.kinds number ≡ k
          → option_map (λ (k : Kind). k.table) k ≡ Some rules → HasTable object rules
      at number None numbered typed found = absurd (let never : ⊥ = cc in never)
      at number (Some kind) numbered typed found = record {
        number = number;
        kind = kind;
        numbered = numbered;
        typed = typed;
        rules_are = (let same : kind.table ≡ rules = cc in same);
      }

      by : (o : Option ℕ) → slice_get decl.objects object ≡ o
          → option_and_then (λ (n : ℕ). option_map (λ (k : Kind). k.table) (slice_get decl.kinds n)) o ≡ Some rules
          → HasTable object rules
      by None numbered found = absurd (let never : ⊥ = cc in never)
      by (Some number) numbered found = at number (slice_get decl.kinds number) numbered refl found

  sound_table : (object : ℕ) (rules : Rules) → table_at decl object ≡ Some rules → IsSound rules
  sound_table object rules is =
      let its : HasTable object rules = has_table object rules is in
      subst IsSound its.rules_are (accepted.right its.number its.kind its.typed).sound

  -- what a command asks

  pub table_is : (object number : ℕ) (kind : Kind) → slice_get decl.objects object ≡ Some number
      → slice_get decl.kinds number ≡ Some kind → table_at decl object ≡ Some kind.table
  table_is object number kind numbered typed =
      ap (option_and_then (λ (n : ℕ). option_map (λ (k : Kind). k.table) (slice_get decl.kinds n))) numbered
      ∙ ap (option_map (λ (k : Kind). k.table)) typed

  inv_below : (object number inv : ℕ) (kind : Kind) (name : List ℕ) → slice_get decl.objects object ≡ Some number
      → slice_get decl.kinds number ≡ Some kind
      → inv_named decl object name ≡ Some inv → inv < kind.table.invs
  inv_below object number inv kind name numbered typed is =
      by (slice_get decl.kind_names number) refl
      (sym
      (ap
      (λ (o : Option ℕ). option_and_then (λ (names : KindNames). place_of names.invs name)
      (option_and_then (slice_get decl.kind_names) o)) numbered) ∙ is)
    where
      by : (o : Option KindNames) → slice_get decl.kind_names number ≡ o
          → option_and_then (λ (names : KindNames). place_of names.invs name) o ≡ Some inv → inv < kind.table.invs
      by None named found = absurd (let never : ⊥ = cc in never)
      by (Some names) named found =
          let low : inv < length names.invs = (position-Some (bytes_eq name) names.invs inv name found).0 in
          let its : HasNames kind names = accepted.names number kind names typed named in
          let many : length names.invs ≡ kind.table.invs = its.invs.count in
          omega arith

  asked_named : (object inv : ℕ) → IsObject decl object → IsInv decl object inv → HasInvocation decl object inv
  asked_named object inv named asked =
      let low : object < length decl.object_names =
      (position-Some (bytes_eq named.0) decl.object_names object named.0 named.1).0 in
      let many : length decl.object_names ≡ length decl.objects = accepted.object_names.count in
      let number : (number : ℕ) × (slice_get decl.objects object ≡ Some number) =
      some_at decl.objects object (omega arith) in
      let kind : (kind : Kind) × (slice_get decl.kinds number.0 ≡ Some kind) =
      some_at decl.kinds number.0 (accepted.typed object number.0 number.1) in
      record {
        table = kind.0.table;
        declared = table_is object number.0 kind.0 number.1 kind.1;
        below = inv_below object number.0 inv kind.0 asked.0 number.1 kind.1 asked.1;
      }

  -- an epoch that is declared has a plan
  epoch_named : (number : ℕ) → 2 ≤ number → number ≤ length decl.plans → HasPlan decl number
  epoch_named number low most = by (number == 0) refl
    where
      by : (b : Bool) → (number == 0) ≡ b
          → (plan : Plan) × (cond b None (slice_get decl.plans (number - 1)) ≡ Some plan)
      by true none = absurd (let zero : number ≡ 0 = eqb-true number 0 none in let never : ⊥ = omega arith in never)
      by false some = some_at decl.plans (number - 1) (omega arith)

  pub command_named : (a : ℕ) (c : Command) → IsAskedFor decl a c → CommandNamed decl c
  command_named a Begin is = tt
  command_named a (Do object inv) is = asked_named object inv is.1 is.2
  command_named a Commit is = tt
  command_named a Abort is = tt
  command_named a (Epoch number) is = epoch_named number is.1 is.2

  -- the event that answers it

  first_named : (object : ℕ) (rules : Rules) (state inv number : ℕ) → table_at decl object ≡ Some rules
      → first_of rules.rows state inv ≡ Some number → EventNamed decl object number
  first_named object rules state inv number is first =
      let low : IsLowest rules.rows state inv number = first_lowest rules.rows state inv number first in
      let within : (inv < rules.invs) × (low.resp < rules.resps) =
      allowed_within rules state inv low.resp (sound_table object rules is) low.legal in
      let resp : resp_of decl object number ≡ low.resp =
      ap
      (λ (o : Option Rules). unwrap_or
      (option_and_then
      (λ (r : Rules). option_map (λ (e : Event). e.resp) (slice_get (events_of r.rows) number)) o) 0) is
      ∙ ap (λ (o : Option Event). unwrap_or (option_map (λ (e : Event). e.resp) o) 0) low.numbered in
      let below : low.resp < rules.resps = within.1 in
      record {
        event_is = record { table = rules; declared = is; below = first_is_an_event rules.rows state inv number first };
        resp_is = record { table = rules; declared = is; below = omega arith };
      }

  pub answer_named : (t : Transaction) (object inv number : ℕ) → answer_of decl t object inv ≡ Some number
      → EventNamed decl object number
  answer_named t object inv number is = by (table_at decl object) refl is
    where
      states : (rules : Rules) (o : Option ℕ) → table_at decl object ≡ Some rules
          → option_and_then (λ (state : ℕ). first_of rules.rows state inv) o ≡ Some number
          → EventNamed decl object number
      states rules None table found = absurd (let never : ⊥ = cc in never)
      states rules (Some state) table found = first_named object rules state inv number table found

      views : (rules : Rules) (o : Option View) → table_at decl object ≡ Some rules
          → option_and_then (λ (v : View). answer_in rules v inv) o ≡ Some number → EventNamed decl object number
      views rules None table found = absurd (let never : ⊥ = cc in never)
      views rules (Some v) table found = states rules (state_in rules v) table found

      by : (o : Option Rules) → table_at decl object ≡ o
          → option_and_then
          (λ (rules : Rules). option_and_then (λ (v : View). answer_in rules v inv) (slice_get t.views object)) o
          ≡ Some number
          → EventNamed decl object number
      by None table found = absurd (let never : ⊥ = cc in never)
      by (Some rules) table found = views rules (slice_get t.views object) table found

  pub first_planned : HasPlan decl first_epoch
  first_planned = some_at decl.plans 0 accepted.has_epoch

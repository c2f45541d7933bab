-- Own events lead on from the state of the view.
use Rattle.std.proofs.Common.{◌≡◌, ℕ, List, [], ◌∷◌, Option, Some, None, map, option_and_then, IsSome, sym, ◌∙◌, ap}
use Rattle.std.proofs.Common.{subst, append_assoc}
use Rattle.qc_entry.specs.declared.line.Line.{Line}
use Rattle.qc_table.specs.Vocabulary.{Rules, after, first_of, next_state, reached, step_of}
use Rattle.qc_table.proofs.Numbered.{first_leads_on}
use Rattle.qc_table.proofs.Runs.{runs_join}
use Rattle.qc_view.specs.Vocabulary.{answer_in, events_in, state_in, with_own}
use Rattle.qc_view.specs.declared.view.View.{View}

pub own_events_come_last : (rules : Rules) (view : View) (event : ℕ)
    → state_in rules (with_own view event) ≡ next_state (step_of rules.rows) (state_in rules view) event
own_events_come_last rules view event =
    ap (λ (events : List ℕ). after (step_of rules.rows) rules.start events)
    (sym (append_assoc (map (λ (l : Line). l.event) view.log) view.own (event ∷ [])))
    ∙ runs_join (step_of rules.rows) (Some rules.start) (events_in view) (event ∷ [])

led : (rules : Rules) (state : Option ℕ) (inv event : ℕ)
    → option_and_then (λ s. first_of rules.rows s inv) state ≡ Some event
    → IsSome (next_state (step_of rules.rows) state event)
led rules None inv event is = absurd (cc)
led rules (Some s) inv event is = first_leads_on rules.rows s inv event is

pub answers_lead_on : (rules : Rules) (view : View) (inv event : ℕ) → answer_in rules view inv ≡ Some event
    → IsSome (state_in rules (with_own view event))
answers_lead_on rules view inv event is =
    subst (λ (o : Option ℕ). IsSome o) (sym (own_events_come_last rules view event))
    (led rules (state_in rules view) inv event is)

-- the state after lines, and then after own events
pub state_joined : (rules : Rules) (view : View)
    → reached (step_of rules.rows) (after (step_of rules.rows) rules.start (map (λ (l : Line). l.event) view.log))
    view.own ≡ state_in rules view
state_joined rules view = sym (runs_join (step_of rules.rows) (Some rules.start)
    (map (λ (l : Line). l.event) view.log) view.own)

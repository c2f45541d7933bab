-- One event more of a history, and one operation more on one copy.
use Rattle.std.proofs.Common.{◌≡◌, ℕ, List, [], ◌∷◌, ◌++◌, Option, Some, None, refl, ap, ◌∙◌, slice_get}
use Rattle.std.specs.Prelude.{option_and_then, option_map, is_some}
use Rattle.qc_table.specs.declared.kind.Kind.{Kind}
use Rattle.qc_table.specs.declared.row.Event.{Event}
use Rattle.qc_table.specs.Vocabulary.{Rules, event, event_number, events_of, next_in, next_state, step_of}
use Rattle.qc_table.proofs.Runs.{runs_join}
use Rattle.qc_table.proofs.Numbered.{number_is}
use Rattle.qc_cert.specs.Vocabulary.{allows, inv_of, state_after}
use Rattle.qc_decl.specs.declared.declaration.Declaration.{Declaration}
use Rattle.qc_decl.specs.Vocabulary.{table_at}
use Rattle.theory_onecopy.specs.Vocabulary.{kind_at, step_at}

-- the table of a typed object
pub table_is : (decl : Declaration) (object : ℕ) (kind : Kind) → kind_at decl object ≡ Some kind
    → table_at decl object ≡ Some kind.table
table_is decl object kind typed = by (slice_get decl.objects object) typed
  where
    by : (o : Option ℕ) → option_and_then (slice_get decl.kinds) o ≡ Some kind
        → option_and_then (λ k. option_map (λ (x : Kind). x.table) (slice_get decl.kinds k)) o ≡ Some kind.table
    by None h = absurd (let never : ⊥ = cc in never)
    by (Some k) h = ap (option_map (λ (x : Kind). x.table)) h

pub step_is : (decl : Declaration) (object : ℕ) (kind : Kind) (state : ℕ) (e : Event) → kind_at decl object ≡ Some kind
    → step_at decl object state e ≡ next_in kind.table.rows state e
step_is decl object kind state e typed =
    ap (option_and_then (λ (rules : Rules). next_in rules.rows state e)) (table_is decl object kind typed)

-- what a history allows is a step from its state
pub allows_step : (kind : Kind) (history : List ℕ) (state inv resp : ℕ) → state_after kind history ≡ Some state
    → allows kind history inv resp ≡ is_some (next_in kind.table.rows state (event inv resp))
allows_step kind history state inv resp run =
    ap (λ (o : Option ℕ). is_some (option_and_then (λ s. next_in kind.table.rows s (event inv resp)) o)) run

-- the state after one event more
pub state_more : (kind : Kind) (history : List ℕ) (state inv resp number next : ℕ)
    → state_after kind history ≡ Some state
    → event_number (events_of kind.table.rows) (event inv resp) ≡ Some number
    → next_in kind.table.rows state (event inv resp) ≡ Some next
    → state_after kind (history ++ number ∷ []) ≡ Some next
state_more kind history state inv resp number next run numbered goes =
    runs_join (step_of kind.table.rows) (Some kind.table.start) history (number ∷ [])
    ∙ ap (λ (o : Option ℕ). next_state (step_of kind.table.rows) o number) run
    ∙ ap (option_and_then (next_in kind.table.rows state))
    (number_is (events_of kind.table.rows) (event inv resp) number numbered)
    ∙ goes

-- the invocation of a numbered event
pub inv_is : (kind : Kind) (inv resp number : ℕ)
    → event_number (events_of kind.table.rows) (event inv resp) ≡ Some number → inv_of kind number ≡ inv
inv_is kind inv resp number numbered = rw (number_is (events_of kind.table.rows) (event inv resp) number numbered) refl

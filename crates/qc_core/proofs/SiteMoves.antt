-- A site's step for each input.
use Rattle.std.proofs.Common.{◌≡◌, ℕ, ◌==◌, not, nat_le, nat_lt, Bool, true, false, cond, List, [], ◌∷◌, ◌++◌, Option}
use Rattle.std.proofs.Common.{Some, None, is_some, refl, sym, ◌∙◌}
use Rattle.qc_stamp.specs.declared.stamp.TxId.{TxId}
use Rattle.qc_entry.specs.Vocabulary.{union}
use Rattle.qc_decl.specs.declared.declaration.Declaration.{Declaration}
use Rattle.qc_decl.specs.Vocabulary.{most_record_bytes}
use Rattle.qc_lock.specs.declared.clash.Clash.{Clash as Conflict}
use Rattle.qc_lock.specs.Vocabulary.{append_clash, is_held, read_clash}
use Rattle.qc_msg.specs.declared.message.Answer.{Answer}
use Rattle.qc_msg.specs.declared.message.Answer.TheVariants as answers
use Rattle.qc_msg.specs.declared.message.Message.{Message}
use Rattle.qc_msg.specs.declared.message.Message.TheVariants as messages
use Rattle.qc_msg.specs.declared.message.Outcome.TheVariants.{Committed, Aborted, Active}
use Rattle.qc_msg.specs.declared.message.Want.{Want}
use Rattle.qc_msg.specs.declared.message.Want.TheVariants.{Read, Append, Prepare}
use Rattle.qc_msg.specs.declared.step.Input.{Input}
use Rattle.qc_msg.specs.declared.step.Input.TheVariants as inputs
use Rattle.qc_msg.specs.Vocabulary.{Deed, granted_in, quiet}
use Rattle.qc_site.specs.Vocabulary.{SiteState, answers as answered, appends_by, closed_fault, fault_of, grants}
use Rattle.qc_site.specs.Vocabulary.{is_prepared, moved, names_declared, prepare_length, promise_of, promises, reads_by}
use Rattle.qc_site.specs.Vocabulary.{relation_at, requested, site_at, site_on, site_takes}
use Rattle.qc_core.specs.Vocabulary.{IsInput, IsStamped}
use Rattle.qc_core.proofs.SiteDecisions.{aborted, active, committed, promise, promising}
use Rattle.qc_core.proofs.SiteEpochs.{close, install}
use Rattle.qc_core.proofs.SiteShown.{shown, shown-more}
use Rattle.qc_core.proofs.SiteSteps.{IsStep, append, clashes, ignored, letter, passed, read, refused, still}
use Rattle.qc_core.proofs.SiteTalks.{stands_still}

-- a refusal of a request's epoch or life is no grant

abbrev IsNoGrant : Option Answer → Type 0
IsNoGrant None = Unit {0}
IsNoGrant (Some x) = is_some (granted_in x) ≡ false

fault_is_no_grant : (s : SiteState) (epoch life : ℕ) → IsNoGrant (fault_of s epoch life)
fault_is_no_grant s epoch life = by (nat_lt s.epoch epoch) (nat_lt epoch s.epoch)
  where
    by_life : (x y : Bool) → IsNoGrant (cond x None (cond y None (Some (answers.Restarted s.life))))
    by_life true y = tt
    by_life false true = tt
    by_life false false = refl

    by_closed : (o : Option ℕ) → IsNoGrant (closed_fault s life o)
    by_closed (Some k) = refl
    by_closed None = by_life (life == 0) (life == s.life)

    by : (x y : Bool) → IsNoGrant (cond x (Some (answers.Behind s.epoch))
        (cond y (Some (answers.Closed s.epoch)) (closed_fault s life s.closed_for)))
    by true y = refl
    by false true = refl
    by false false = by_closed s.closed_for

module _ (decl : Declaration) (site : ℕ) (ds : List Deed) (n : ℕ) where
  module _ (number from to : ℕ) (tx : TxId) (epoch life : ℕ) where
    abbrev state : Want → SiteState
    state want = passed site ds (messages.Request tx epoch life want)

    abbrev given_want : Want → Input
    given_want want = letter number from to (messages.Request tx epoch life want)

    grant : (want : Want) → IsStep site ds (given_want want) n (grants decl (state want) from number tx want)
    grant (Read read_here) =
        by (read_clash (relation_at decl read_here.object) (shown site ds).held tx read_here.object read_here.inv)
      where
        by : (o : Option Conflict) → IsStep site ds (given_want (Read read_here)) n
            (reads_by decl (state (Read read_here)) from number tx read_here o)
        by None = read site ds n number from to tx epoch life read_here
        by (Some c) = clashes site ds n number from to tx epoch life decl (Read read_here) c
    grant (Append object view own) = by (append_clash (relation_at decl object) (shown site ds).held tx own)
      where
        by : (o : Option Conflict) → IsStep site ds (given_want (Append object view own)) n
            (appends_by decl (state (Append object view own)) from number tx view own o)
        by None = append site ds n number from to tx epoch life object view own
        by (Some c) = clashes site ds n number from to tx epoch life decl (Append object view own) c
    grant Prepare = by (is_held (shown site ds).held tx) (is_prepared (shown site ds).prepared tx) refl
      where
        by_bytes : (b : Bool) → is_prepared (shown site ds).prepared tx ≡ false
            → IsStep site ds (given_want Prepare) n (cond b
            (moved (record (state Prepare) {
              recorded =
                  union (shown site ds).recorded (promise_of (state Prepare) tx).lines;
              prepared = (shown site ds).prepared ++ promise_of (state Prepare) tx ∷ [];
            })
            (promising from number (state Prepare).clock (promise_of (state Prepare) tx)))
            (moved (state Prepare) (answered from number answers.Stale)))
        by_bytes true none = promise site ds n number from to tx epoch life (state Prepare).clock
            (promise_of (state Prepare) tx) refl none
        by_bytes false none = refused site ds n number from to tx epoch life Prepare answers.Stale refl

        by : (h p : Bool) → is_prepared (shown site ds).prepared tx ≡ p
            → IsStep site ds (given_want Prepare) n (cond (not h)
            (moved (state Prepare) (answered from number answers.Stale))
            (cond p (moved (state Prepare) (answered from number (answers.Yes (state Prepare).clock)))
            (promises (state Prepare) from number (promise_of (state Prepare) tx))))
        by false p is = refused site ds n number from to tx epoch life Prepare answers.Stale refl
        by true true is = refused site ds n number from to tx epoch life Prepare
            (answers.Yes (state Prepare).clock) refl
        by true false is = by_bytes (nat_le (prepare_length (promise_of (state Prepare) tx)) most_record_bytes) is

    request : (want : Want) → IsStep site ds (given_want want) n
        (site_at decl (state want) from number (messages.Request tx epoch life want))
    request want = by_name (names_declared decl tx want)
      where
        by : (o : Option Answer) → IsNoGrant o → IsStep site ds (given_want want) n
            (requested decl (state want) from number tx want o)
        by (Some x) never = refused site ds n number from to tx epoch life want x never
        by None never = grant want

        by_name : (b : Bool) → IsStep site ds (given_want want) n
            (cond b (requested decl (state want) from number tx want (fault_of (state want) epoch life))
            (moved (state want) quiet))
        by_name true = by (fault_of (state want) epoch life) (fault_is_no_grant (state want) epoch life)
        by_name false = ignored site ds n number from to tx epoch life want

  module _ (number from to : ℕ) where
    hear : (m : Message) → IsStamped m → IsStep site ds (letter number from to m) n
        (site_on decl (shown site ds) from number m)
    hear (messages.Request tx epoch life want) ok = request number from to tx epoch life want
    hear (messages.Answer k answer) ok = still site ds n number from to (messages.Answer k answer) [] None
        (λ t. refl, λ t. refl) refl refl
    hear (messages.Decision tx (Committed stamp)) ok = committed site ds n number from to tx stamp ok
    hear (messages.Decision tx Aborted) ok = aborted site ds n number from to tx
    hear (messages.Decision tx Active) ok = active site ds n number from to tx
    hear (messages.Inquiry tx) ok = still site ds n number from to (messages.Inquiry tx) [] None
        (λ t. refl, λ t. refl) refl refl
    hear (messages.Ask tx) ok = still site ds n number from to (messages.Ask tx) [] None
        (λ t. refl, λ t. refl) refl refl
    hear (messages.Close epoch) ok = close site ds n number from to epoch
    hear (messages.Install start) ok = install site ds n number from to start.epoch start.clock start.lines

  -- each input
  pub steps : (g : Input) → IsInput g → IsStep site ds g n (site_takes decl (shown site ds) g)
  steps (inputs.Called command) ok = sym (shown-more site ds (inputs.Called command) n quiet
      ∙ stands_still site ds (inputs.Called command) n [] None (λ t. refl, λ t. refl) refl refl)
  steps (inputs.Got e) ok = hear e.number e.from e.to e.message ok
  steps (inputs.Lost number) ok = sym (shown-more site ds (inputs.Lost number) n quiet
      ∙ stands_still site ds (inputs.Lost number) n [] None (λ t. refl, λ t. refl) refl refl)

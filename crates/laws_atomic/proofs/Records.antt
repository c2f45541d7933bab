-- Only clients write commit records.
use Rattle.std.proofs.Common.{◌≡◌, ◌≤◌, ◌<◌, ℕ, ◌==◌, ◌&&◌, Bool, true, false, cond, List, [], ◌∷◌, ◌++◌, ◌⊎◌, inl, inr}
use Rattle.std.proofs.Common.{Option, Some, None, option_to_list, slice_get, refl, sym, ap, ◌∙◌, subst, eq-eqb, arith}
use Rattle.std.proofs.lemmas.Bool.{cases_lt, le-leb, lt-ltb}
use Rattle.qc_list.specs.Vocabulary.{In}
use Rattle.qc_list.proofs.Members.{In-first, In-second, every-In}
use Rattle.qc_core.specs.Vocabulary.{IsLawful}
use Rattle.qc_decl.specs.declared.declaration.Declaration.{Declaration}
use Rattle.qc_decl.specs.Vocabulary.{actors, administrator, is_client}
use Rattle.qc_entry.specs.declared.record.Commit.{Commit}
use Rattle.laws_turns.proofs.Acted.{has_entry, actors_take_and_post_by_turns}
use Rattle.laws_turns.proofs.Idle.{IsInput, idle}
use Rattle.laws_turns.specs.Vocabulary.{ActsIn}
use Rattle.qc_msg.specs.declared.message.Envelope.{Envelope}
use Rattle.qc_msg.specs.declared.record.Record.{Record}
use Rattle.qc_msg.specs.declared.record.Record.TheVariants as records_of
use Rattle.qc_msg.specs.declared.step.Step.{Step}
use Rattle.qc_msg.specs.declared.step.Step.TheVariants as steps
use Rattle.qc_msg.specs.Vocabulary.{Entry, Writes, commit_in, deed_at, deeds, envelope_of, written}
use Rattle.qc_promise.specs.Vocabulary.{commits_in, records}
use Rattle.laws_turns.proofs.Up.{run_up}
use Rattle.laws_turns.proofs.WrittenDeeds.{AllUp, cons_is, entry_commits, rest_all_up}
use Rattle.qc_script.specs.Vocabulary.{Runs}
use Rattle.qc_script.specs.declared.script.Script.{Script}
use Rattle.laws_due.proofs.Mute.{IsMuteDeed, sites_mute}
use Rattle.laws_atomic.proofs.Written.{record_is}

-- a record that was written is a deed

step_wrote : (ms : List Envelope) (step : Step) (c : Commit) → commit_in step ≡ Some c
    → In (Writes (records_of.Commit c)) (deed_at ms step)
step_wrote ms (steps.Phase k) c is = absurd (let never : ⊥ = cc in never)
step_wrote ms (steps.Cut x y) c is = absurd (let never : ⊥ = cc in never)
step_wrote ms (steps.Heal x y) c is = absurd (let never : ⊥ = cc in never)
step_wrote ms (steps.Armed actor kind at) c is = absurd (let never : ⊥ = cc in never)
step_wrote ms (steps.Called command) c is = absurd (let never : ⊥ = cc in never)
step_wrote ms (steps.Got n) c is = absurd (let never : ⊥ = cc in never)
step_wrote ms (steps.Lost n) c is = absurd (let never : ⊥ = cc in never)
step_wrote ms (steps.Wrote w) c is = inl (ap (λ (x : Record). Writes x) (sym (record_is w c is)))
step_wrote ms (steps.Sent n to message) c is = absurd (let never : ⊥ = cc in never)
step_wrote ms (steps.Told reply) c is = absurd (let never : ⊥ = cc in never)
step_wrote ms (steps.Fell cause pending) c is = absurd (let never : ⊥ = cc in never)
step_wrote ms (steps.Rose given) c is = absurd (let never : ⊥ = cc in never)
step_wrote ms (steps.Damaged offset) c is = absurd (let never : ⊥ = cc in never)

-- who isn't a client writes none

abbrev pub NoneWrite : Declaration → List Envelope → List Entry → Type 0
NoneWrite decl ms h = (a : ℕ) → is_client decl a ≡ false → (c : Commit)
    → In (Writes (records_of.Commit c)) (deeds a ms h) → ⊥

clients_only : (decl : Declaration) (ms : List Envelope) (h : List Entry) → AllUp ms h → NoneWrite decl ms h
    → records decl h ≡ written h
clients_only decl ms [] up none = refl
clients_only decl ms (x ∷ h) up none =
    ap (λ (cs : List Commit). cs ++ records decl h) (by (is_client decl x.actor) refl)
    ∙ ap (λ (cs : List Commit). option_to_list (commit_in x.step) ++ cs)
    (clients_only decl (ms ++ option_to_list (envelope_of x)) h (rest_all_up ms x h up)
    (λ a other c among. none a other c (In-second (Writes (records_of.Commit c))
    (cond (x.actor == a) (deed_at ms x.step) []) (deeds a (ms ++ option_to_list (envelope_of x)) h) among)))
    ∙ sym (cons_is (commit_in x.step) (written h))
  where
    nothing : is_client decl x.actor ≡ false → (o : Option Commit) → commit_in x.step ≡ o → [] ≡ option_to_list o
    nothing other None is = refl
    nothing other (Some c) is =
        absurd (none x.actor other c
        (In-first (Writes (records_of.Commit c)) (cond (x.actor == x.actor) (deed_at ms x.step) [])
        (deeds x.actor (ms ++ option_to_list (envelope_of x)) h)
        (subst (λ (b : Bool). In (Writes (records_of.Commit c)) (cond b (deed_at ms x.step) []))
        (sym (eq-eqb x.actor x.actor refl)) (step_wrote ms x.step c is))))

    by : (b : Bool) → is_client decl x.actor ≡ b → cond b (commits_in x.step) [] ≡ option_to_list (commit_in x.step)
    by true is = entry_commits ms x h up
    by false is = nothing is (commit_in x.step) refl

module _ (decl : Declaration) (script : Script) (h : List Entry) (open_inputs : List Bool)
    (run : Runs (IsLawful decl) decl script h open_inputs) where
  site_writes : (a : ℕ) → a < decl.sites → a < actors decl → (c : Commit)
      → In (Writes (records_of.Commit c)) (deeds a [] h) → ⊥
  site_writes a site within c among = on (has_entry (IsLawful decl) decl script h open_inputs run a within)
    where
      on : (t : Bool) × (slice_get open_inputs a ≡ Some t) → ⊥
      on place =
          let r : ActsIn decl a h place.0 =
          actors_take_and_post_by_turns decl script h open_inputs run a place.0 place.1 in
          every-In IsMuteDeed (Writes (records_of.Commit c)) (deeds a [] h)
          (sites_mute decl a (lt-ltb a decl.sites site) (deeds a [] h) place.0 r.above r.acts) among

  pub none_write : NoneWrite decl [] h
  none_write a other c among = by (cases_lt a (administrator decl)) (cases_lt a decl.sites)
    where
      by : (a < administrator decl) ⊎ (administrator decl ≤ a) → (a < decl.sites) ⊎ (decl.sites ≤ a) → ⊥
      by (inr past) where_it = every-In IsInput (Writes (records_of.Commit c)) (deeds a [] h)
          (idle decl a past script h open_inputs run) among
      by (inl within) (inl site) = site_writes a site (omega arith) c among
      by (inl within) (inr client) = let yes : is_client decl a ≡ true =
          λ i. (le-leb decl.sites a client i && lt-ltb a (administrator decl) within i) in let never : ⊥ = cc in never

  pub clients_alone_write_records : records decl h ≡ written h
  clients_alone_write_records =
      clients_only decl [] h (λ a. run_up (IsLawful decl) decl script h open_inputs run a) none_write

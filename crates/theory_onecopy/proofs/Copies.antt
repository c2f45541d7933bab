-- The replay has states exactly where the operations are those of one copy of each object.
use Rattle.std.proofs.Common.{◌≡◌, ℕ, ◌==◌, Bool, true, false, List, [], ◌∷◌, Option, Some, None, refl, sym, ap, subst}
use Rattle.std.proofs.Common.{◌∙◌}
use Rattle.std.specs.Prelude.{◌↔◌, IsSome, if◌then◌else◌, fold, slice_get, slice_set, option_map, option_and_then}
use Rattle.std.specs.Option.{option_map_or}
use Rattle.std.proofs.lemmas.Bool.{eqb-true, eq-eqb}
use Rattle.std.proofs.lemmas.List.Sums.{fold-append}
use Rattle.std.proofs.lemmas.Option.{slice_get-map}
use Rattle.theory_onecopy.specs.Vocabulary.{Goes, OneCopy, Walks, kept, operations, replay, replay_commit, replayed}
use Rattle.theory_onecopy.specs.Vocabulary.{start_at, start_of, starts, state_after, states_after, states_by, step_at}
use Rattle.theory_onecopy.specs.Vocabulary.{unlisted, updated}
use Rattle.qc_decl.specs.declared.declaration.Declaration.{Declaration}
use Rattle.qc_table.specs.declared.kind.Kind.{Kind}
use Rattle.qc_decl.specs.Vocabulary.{table_at}
use Rattle.qc_entry.specs.declared.line.Op.{Op}
use Rattle.qc_entry.specs.declared.record.Commit.{Commit}
use Rattle.qc_table.proofs.Lowest.{none_legal}
use Rattle.qc_table.proofs.Numbered.{first_lowest, first_some, legal_numbered, number_is}
use Rattle.qc_table.specs.Vocabulary.{IsLowest, Rules, event, event_number, events_of, first_of, lowest_in, next_in}
use Rattle.qc_table.specs.Vocabulary.{step_of}
use Rattle.theory_onecopy.proofs.Missing.{no_ops}
use Rattle.qc_list.proofs.Places.{slice_get-set_other, slice_get-set_same}

-- the replay's states of declared objects are the copies'
abbrev pub Alike : Declaration → List ℕ → (ℕ → ℕ) → Type 0
Alike decl states copies = (o : ℕ) → IsSome (table_at decl o) → slice_get states o ≡ Some (copies o)

-- they begin so
pub starts_alike : (decl : Declaration) → Alike decl (starts decl) (start_at decl)
starts_alike decl o declared = slice_get-map (start_of decl) decl.objects o
    ∙ by_object (slice_get decl.objects o) declared
  where
    by_kind : (k : Option Kind) → option_map_or (λ (k : Kind). k.table.start) k 0 ≡ option_map_or
        (λ (rules : Rules). rules.start) (option_map (λ (k : Kind). k.table) k) 0
    by_kind None = refl
    by_kind (Some k) = refl

    by_object : (object : Option ℕ) → IsSome
        (option_and_then (λ kind. option_map (λ (k : Kind). k.table) (slice_get decl.kinds kind)) object)
        → option_map (start_of decl) object ≡ Some
        (option_map_or (λ (rules : Rules). rules.start)
        (option_and_then (λ kind. option_map (λ (k : Kind). k.table) (slice_get decl.kinds kind)) object) 0)
    by_object None declared = absurd (let never : ⊥ = cc in never)
    by_object (Some kind) declared = ap Some (by_kind (slice_get decl.kinds kind))

-- and stay so, where one object's state changes in both
alike_set : (decl : Declaration) (states : List ℕ) (copies after : ℕ → ℕ) (object next : ℕ) → Alike decl states copies
    → IsSome (table_at decl object)
    → after object ≡ next → ((o : ℕ) → (o == object) ≡ false → after o ≡ copies o)
    → Alike decl (slice_set states object next) after
alike_set decl states copies after object next alike there here others o declared = by (o == object) refl
  where
    by : (b : Bool) → (o == object) ≡ b → slice_get (slice_set states object next) o ≡ Some (after o)
    by true is =
        subst (λ (k : ℕ). slice_get (slice_set states object next) k ≡ Some (after k)) (sym (eqb-true o object is))
        (slice_get-set_same states object next (copies object) (alike object there) ∙ ap Some (sym here))
    by false is =
        slice_get-set_other states object o next
        (λ same. let both : true ≡ false = sym (eq-eqb o object (sym same)) ∙ is in let never : ⊥ = cc in never)
        ∙ alike o declared ∙ ap Some (sym (others o is))

-- a step by its event's number is the rows' step
stepped : (rules : Rules) (state inv resp : ℕ)
    → state_after rules state inv (Some resp) ≡ next_in rules.rows state (event inv resp)
stepped rules state inv resp = by_number (event_number (events_of rules.rows) (event inv resp)) refl
  where
    unnumbered : event_number (events_of rules.rows) (event inv resp) ≡ None → (n : Option ℕ)
        → next_in rules.rows state (event inv resp) ≡ n → None ≡ n
    unnumbered none None is = refl
    unnumbered none (Some next) is = absurd (legal_numbered rules.rows state (event inv resp)
        (subst (λ (n : Option ℕ). IsSome n) (sym is) refl) none)

    by_number : (k : Option ℕ) → event_number (events_of rules.rows) (event inv resp) ≡ k
        → option_and_then (step_of rules.rows state) k ≡ next_in rules.rows state (event inv resp)
    by_number None is = unnumbered is (next_in rules.rows state (event inv resp)) refl
    by_number (Some k) is = ap (option_and_then (next_in rules.rows state))
        (number_is (events_of rules.rows) (event inv resp) k is)

-- where there is no first event, no response is legal
none_first : (rules : Rules) (state inv : ℕ) → first_of rules.rows state inv ≡ None → (resp : ℕ)
    → next_in rules.rows state (event inv resp) ≡ None
none_first rules state inv none = by_lowest (lowest_in rules.rows state inv) refl none
  where
    by_lowest : (o : Option ℕ) → lowest_in rules.rows state inv ≡ o
        → option_and_then (λ resp. event_number (events_of rules.rows) (event inv resp)) o ≡ None
        → (resp : ℕ) → next_in rules.rows state (event inv resp) ≡ None
    by_lowest None is none = none_legal rules.rows state inv is
    by_lowest (Some lowest) is none = absurd (first_some rules.rows state inv lowest is none)

-- one operation, before others for which it holds
module _ (decl : Declaration) (ops : List Op) (rules : Rules) (object inv : ℕ) (states : List ℕ) (copies : ℕ → ℕ)
    (table : table_at decl object ≡ Some rules) (alike : Alike decl states copies)
    (more : (states : List ℕ) (copies : ℕ → ℕ) → Alike decl states copies
    → IsSome (fold (replayed decl) (Some states) ops) ↔ Walks decl copies ops) where
  declared : IsSome (table_at decl object)
  declared = subst (λ (t : Option Rules). IsSome t) (sym table) refl

  step_is : (resp : ℕ) → step_at decl object (copies object) (event inv resp) ≡ next_in rules.rows (copies object)
      (event inv resp)
  step_is resp = ap (option_and_then (λ (rules : Rules). next_in rules.rows (copies object) (event inv resp))) table

  abbrev Replays : Option ℕ → Type 0
  Replays next = IsSome (fold (replayed decl) (option_map (λ next. slice_set states object next) next) ops)

  missing : Replays None → ⊥
  missing some = let none : IsSome {T = List ℕ} None =
      subst (λ (s : Option (List ℕ)). IsSome s) (no_ops decl ops) some in let never : ⊥ = cc in never

  responded : (resp : ℕ) (n : Option ℕ) → next_in rules.rows (copies object) (event inv resp) ≡ n
      → Replays n ↔ Goes decl copies object inv (Some resp) (λ after. Walks decl after ops)
  responded resp None is = (
    λ some. absurd (missing some),
    λ goes. absurd (let both : None ≡ Some goes.0 = sym is ∙ sym (step_is resp)
        ∙ goes.1 in let never : ⊥ = cc in never),
  )
  responded resp (Some next) is =
      let after : Alike decl (slice_set states object next) (updated copies object next) =
      alike_set decl states copies (updated copies object next) object next alike declared
      (ap (λ (b : Bool). if b then next else copies object) (eq-eqb object object refl))
      (λ o other. ap (λ (b : Bool). if b then next else copies o) other) in (
        λ some. (next, step_is resp ∙ is, (more _ _ after).0 some),
        λ goes. (more _ _ after).1 (
            let same : goes.0 ≡ next = (let both : Some goes.0 ≡ Some next = sym goes.1 ∙ step_is resp ∙ is in cc) in
            subst (λ (k : ℕ). Walks decl (updated copies object k) ops) same goes.2
            ),
      )

  absent : (n : Option ℕ) → first_of rules.rows (copies object) inv ≡ n
      → Replays (kept (copies object) n) ↔ Goes decl copies object inv None (λ after. Walks decl after ops)
  absent None is =
      let after : Alike decl (slice_set states object (copies object)) copies =
      alike_set decl states copies copies object (copies object) alike declared refl (λ o other. refl) in (
        λ some. (λ resp. step_is resp ∙ none_first rules (copies object) inv is resp, (more _ _ after).0 some),
        λ goes. (more _ _ after).1 goes.1,
      )
  absent (Some number) is = (
    λ some. absurd (missing some),
    λ goes. absurd (
        let l : IsLowest rules.rows (copies object) inv number =
        first_lowest rules.rows (copies object) inv number is in
        let none : IsSome {T = ℕ} None = subst (λ (n : Option ℕ). IsSome n)
        (sym (step_is l.resp) ∙ goes.0 l.resp) l.legal in
        let never : ⊥ = cc in never
        ),
  )

  by_response : (resp : Option ℕ) → Replays
      (state_after rules (copies object) inv resp) ↔ Goes decl copies object inv resp (λ after. Walks decl after ops)
  by_response None = absent (first_of rules.rows (copies object) inv) refl
  by_response (Some resp) =
      subst (λ (n : Option ℕ). Replays n ↔ Goes decl copies object inv (Some resp) (λ after. Walks decl after ops))
      (sym (stepped rules (copies object) inv resp))
      (responded resp (next_in rules.rows (copies object) (event inv resp)) refl)

  pub goes_on : (resp : Option ℕ) → IsSome
      (fold (replayed decl) (states_after decl states (record { object = object; inv = inv; resp = resp })) ops) ↔ Goes
      decl copies object inv resp (λ after. Walks decl after ops)
  goes_on resp =
      subst
      (λ (t : Option Rules). IsSome (fold (replayed decl)
      (states_by t states (record { object = object; inv = inv; resp = resp })) ops) ↔ Goes decl copies object inv
      resp (λ after. Walks decl after ops))
      (sym table)
      (subst
      (λ (s : Option ℕ). IsSome (fold (replayed decl)
      (option_and_then (λ state. option_map (λ next. slice_set states object next)
      (state_after rules state inv resp)) s) ops) ↔ Goes decl copies object inv resp
      (λ after. Walks decl after ops))
      (sym (alike object declared))
      (by_response resp))

-- an operation on an object that isn't declared
undeclared : (decl : Declaration) (ops : List Op) (object inv : ℕ) (states : List ℕ) (copies : ℕ → ℕ)
    → table_at decl object ≡ None → Alike decl states copies
    → ((states : List ℕ) (copies : ℕ → ℕ) → Alike decl states copies
    → IsSome (fold (replayed decl) (Some states) ops) ↔ Walks decl copies ops)
    → (resp : Option ℕ) → IsSome (fold (replayed decl) (unlisted states resp) ops) ↔ Goes decl copies object inv resp
    (λ after. Walks decl after ops)
undeclared decl ops object inv states copies none alike more None = (
  λ some. (λ resp. no_step resp, (more states copies alike).0 some),
  λ goes. (more states copies alike).1 goes.1,
)
  where
    no_step : (resp : ℕ) → step_at decl object (copies object) (event inv resp) ≡ None
    no_step resp = ap (option_and_then (λ (rules : Rules). next_in rules.rows (copies object) (event inv resp))) none
undeclared decl ops object inv states copies none alike more (Some resp) = (
  λ some. absurd (let fault : IsSome {T = List ℕ} None =
      subst (λ (s : Option (List ℕ)). IsSome s) (no_ops decl ops) some in let never : ⊥ = cc in never),
  λ goes. absurd (
      let no_step : step_at decl object (copies object) (event inv resp) ≡ None =
      ap (option_and_then (λ (rules : Rules). next_in rules.rows (copies object) (event inv resp))) none in
      let both : None ≡ Some goes.0 = sym no_step ∙ goes.1 in let never : ⊥ = cc in never
      ),
)

-- operations, one by one
pub walks_replayed : (decl : Declaration) (ops : List Op) (states : List ℕ) (copies : ℕ → ℕ) → Alike decl states copies
    → IsSome (fold (replayed decl) (Some states) ops) ↔ Walks decl copies ops
walks_replayed decl [] states copies alike = (λ some. tt, λ walks. refl)
walks_replayed decl (op ∷ ops) states copies alike = by_table (table_at decl op.object) refl (walks_replayed decl ops)
  where
    by_table : (t : Option Rules) → table_at decl op.object ≡ t
        → ((states : List ℕ) (copies : ℕ → ℕ) → Alike decl states copies
        → IsSome (fold (replayed decl) (Some states) ops) ↔ Walks decl copies ops)
        → IsSome (fold (replayed decl) (states_after decl states op) ops) ↔ Goes decl copies op.object op.inv op.resp
        (λ after. Walks decl after ops)
    by_table None is more =
        subst (λ (t : Option Rules). IsSome (fold (replayed decl) (states_by t states op) ops) ↔ Goes decl copies
        op.object op.inv op.resp (λ after. Walks decl after ops)) (sym is)
        (undeclared decl ops op.object op.inv states copies is alike more op.resp)
    by_table (Some rules) is more = goes_on decl ops rules op.object op.inv states copies is alike more op.resp

-- the replay goes over the operations of all records in order
replay_is : (decl : Declaration) (commits : List Commit) (states : Option (List ℕ))
    → fold (replay_commit decl) states commits ≡ fold (replayed decl) states (operations commits)
replay_is decl [] states = refl
replay_is decl (c ∷ cs) states = replay_is decl cs (replay_commit decl states c)
    ∙ sym (fold-append (replayed decl) states c.ops (operations cs))

pub replays_are_one_copy : (decl : Declaration) (commits : List Commit)
    → IsSome (replay decl commits) ↔ OneCopy decl commits
replays_are_one_copy decl commits =
    subst (λ (s : Option (List ℕ)). IsSome s ↔ OneCopy decl commits) (sym (replay_is decl commits (Some (starts decl))))
    (walks_replayed decl (operations commits) (starts decl) (start_at decl) (starts_alike decl))

-- Which actor comes next is read off what is kept, and is one for which something is ready.
use Rattle.std.proofs.Common.{◌≡◌, ◌⊎◌, inl, inr, ℕ, zero, suc, ◌<◌, ◌≤◌, ◌==◌, Bool, true, false, if◌then◌else◌, List}
use Rattle.std.proofs.Common.{Option, Some, None, refl, ap, sym, subst, ◌∙◌, arith}
use Rattle.std.specs.Prelude.{option_map}
use Rattle.std.specs.Option.{IsSome}
use Rattle.std.proofs.lemmas.Bool.{eqb-false, eqb-true}
use Rattle.qc_decl.specs.Vocabulary.{actors}
use Rattle.qc_decl.specs.declared.declaration.Declaration.{Declaration}
use Rattle.qc_msg.specs.declared.step.Input.{Input}
use Rattle.qc_msg.specs.declared.step.Input.TheVariants as inputs
use Rattle.qc_msg.specs.Vocabulary.{Entry}
use Rattle.qc_script.specs.Vocabulary.{inbox, ready}
use Rattle.qc_script.specs.declared.script.Script.{Script}
use Rattle.qc_mailbox.specs.Vocabulary.{Inboxes, IsKept, Shows, Tray, calls_of, comes_before, first_of, input_in}
use Rattle.qc_mailbox.specs.Vocabulary.{input_of, input_rank, is_held, picked, picked_in, rank_at, rank_in, rank_of}
use Rattle.qc_mailbox.specs.Vocabulary.{sooner, tray_at, unless_held}
use Rattle.qc_mailbox.specs.declared.input.ReadyInput.{ReadyInput}
use Rattle.qc_mailbox.specs.declared.input.Candidate.{Candidate}
use Rattle.qc_mailbox.specs.declared.input.Rank.{Rank}
use Rattle.qc_mailbox.proofs.Seeing.{trays_show_what_is_ready}
use Rattle.qc_link.specs.Vocabulary.{most_actors}

-- the first of some actors, by ranks that are the same

below_suc : (a n : ℕ) → a < n → a < suc n
below_suc a n h = omega arith

below_self : (n : ℕ) → n < suc n
below_self n = omega arith

first_same : (f g : ℕ → Option Rank) (n : ℕ) → ((a : ℕ) → a < n → f a ≡ g a) → first_of f n ≡ first_of g n
first_same f g zero same = refl
first_same f g (suc n) same =
    ap (λ (o : Option Rank). sooner (first_of f n) n o) (same n (below_self n))
    ∙ ap (λ (o : Option Candidate). sooner o n (g n)) (first_same f g n (λ a h. same a (below_suc a n h)))

input_rank_of : (calls : ℕ) (g : Input) → input_rank calls (input_of g) ≡ rank_of calls g
input_rank_of calls (inputs.Called command) = refl
input_rank_of calls (inputs.Got envelope) = refl
input_rank_of calls (inputs.Lost number) = refl

ranks_same : (calls : ℕ) (o : Option Input)
    → option_map (input_rank calls) (option_map input_of o) ≡ option_map (rank_of calls) o
ranks_same calls None = refl
ranks_same calls (Some g) = ap (λ (r : Rank). Some r) (input_rank_of calls g)

rank_kept : (decl : Declaration) (script : Script) (held : List Bool) (h : List Entry) (kept : Inboxes) (a : ℕ)
    → IsKept script h kept → a < most_actors
    → rank_in decl held kept a ≡ rank_at decl script held h a
rank_kept decl script held h kept a is within =
    let shows : Shows kept a (calls_of a h) (inbox script a h) = is.inboxes a within in
    let calls : (tray_at kept.trays a).calls ≡ calls_of a h = ap (λ (t : Tray). t.calls) shows.tray in
    ap (λ (n : ℕ). unless_held (is_held held a) (option_map (input_rank n) (input_in decl a kept))) calls
    ∙ (ap (λ (o : Option ReadyInput). unless_held (is_held held a) (option_map (input_rank (calls_of a h)) o))
    (sym (trays_show_what_is_ready decl script h kept a is within))
    ∙ ap (λ (o : Option Rank). unless_held (is_held held a) o) (ranks_same (calls_of a h) (ready decl script a h)))

below_all : (a n : ℕ) → a < n → n ≤ most_actors → a < most_actors
below_all a n h few = omega arith

pub picks_are_made_by_trays : (decl : Declaration) (script : Script) (held : List Bool) (h : List Entry)
    (kept : Inboxes)
    → IsKept script h kept → actors decl ≤ most_actors
    → picked_in decl held kept ≡ picked decl script held h
picks_are_made_by_trays decl script held h kept is few =
    ap (λ (o : Option Candidate). option_map (λ (c : Candidate). c.actor) o)
    (first_same (rank_in decl held kept) (rank_at decl script held h) (actors decl)
    (λ a below. rank_kept decl script held h kept a is (below_all a (actors decl) below few)))

-- none is first just where none has a rank

some_none : {A : Type 0} (x : A) → Some x ≡ None → ⊥
some_none x e = cc

sooner_none : (best : Option Candidate) (a : ℕ) (rank : Option Rank) → sooner best a rank ≡ None
    → (best ≡ None) × (rank ≡ None)
sooner_none best a None is = (is, refl)
sooner_none None a (Some rank) is = absurd (some_none _ is)
sooner_none (Some best) a (Some rank) is = absurd (by (comes_before rank best.rank) is)
  where
    by : (t : Bool) → (if t then Some (record { actor = a; rank = rank }) else Some best) ≡ None → ⊥
    by true h = some_none _ h
    by false h = some_none _ h

pub none_first : (f : ℕ → Option Rank) (n : ℕ) → first_of f n ≡ None → (a : ℕ) → a < n → f a ≡ None
none_first f zero is a below = absurd (omega arith)
none_first f (suc n) is a below = by (none_first f n) (a == n) refl
  where
    both : (first_of f n ≡ None) × (f n ≡ None)
    both = sooner_none (first_of f n) n (f n) is

    by : (first_of f n ≡ None → (k : ℕ) → k < n → f k ≡ None) → (t : Bool) → (a == n) ≡ t → f a ≡ None
    by lower true here = subst (λ (k : ℕ). f k ≡ None) (sym (eqb-true a n here)) both.1
    by lower false other = let apart : a ≡ n → ⊥ = eqb-false a n other in lower both.0 a (omega arith)

first_none : (f : ℕ → Option Rank) (n : ℕ) → ((a : ℕ) → a < n → f a ≡ None) → first_of f n ≡ None
first_none f zero none = refl
first_none f (suc n) none =
    ap (λ (o : Option Rank). sooner (first_of f n) n o) (none n (below_self n))
    ∙ first_none f n (λ a h. none a (below_suc a n h))

-- the first has a rank

sooner_some : (best : Option Candidate) (a : ℕ) (rank : Option Rank) (c : Candidate) → sooner best a rank ≡ Some c
    → (best ≡ Some c) ⊎ ((c.actor ≡ a) × (rank ≡ Some c.rank))
sooner_some best a None c is = inl is
sooner_some None a (Some rank) c is = let new : Candidate = record { actor = a; rank = rank } in
    let same : new ≡ c = cc in inr (
      ap (λ (x : Candidate). x.actor) (sym same),
      ap (λ (x : Candidate). Some x.rank) same,
    )
sooner_some (Some best) a (Some rank) c is = by (comes_before rank best.rank) is
  where
    by : (t : Bool) → (if t then Some (record { actor = a; rank = rank }) else Some best) ≡ Some c
        → (Some best ≡ Some c) ⊎ ((c.actor ≡ a) × (Some rank ≡ Some c.rank))
    by true h = let new : Candidate = record { actor = a; rank = rank } in let same : new ≡ c = cc in
        inr (ap (λ (x : Candidate). x.actor) (sym same), ap (λ (x : Candidate). Some x.rank) same)
    by false h = inl h

pub some_first : (f : ℕ → Option Rank) (n : ℕ) (c : Candidate) → first_of f n ≡ Some c
    → (c.actor < n) × (f c.actor ≡ Some c.rank)
some_first f zero c is = absurd (let never : ⊥ = cc in never)
some_first f (suc n) c is = by (some_first f n c) (sooner_some (first_of f n) n (f n) c is)
  where
    by : (first_of f n ≡ Some c → (c.actor < n) × (f c.actor ≡ Some c.rank))
        → (first_of f n ≡ Some c) ⊎ ((c.actor ≡ n) × (f n ≡ Some c.rank))
        → (c.actor < suc n) × (f c.actor ≡ Some c.rank)
    by below (inl lower) = let found : (c.actor < n) × (f c.actor ≡ Some c.rank) = below lower in
        (below_suc c.actor n found.0, found.1)
    by below (inr here) = (
      subst (λ (k : ℕ). k < suc n) (sym here.0) (below_self n),
      subst (λ (k : ℕ). f k ≡ Some c.rank) (sym here.0) here.1,
    )

-- in terms of what is ready

no_rank : (calls : ℕ) (o : Option Input) → option_map (rank_of calls) o ≡ None → o ≡ None
no_rank calls None is = refl
no_rank calls (Some g) is = absurd (some_none _ is)

a_rank : (calls : ℕ) (o : Option Input) (r : Rank) → option_map (rank_of calls) o ≡ Some r → IsSome o
a_rank calls None r is = absurd (let never : ⊥ = cc in never)
a_rank calls (Some g) r is = refl

rank_some : (held : Bool) (rank : Option Rank) (r : Rank) → unless_held held rank ≡ Some r
    → (held ≡ false) × (rank ≡ Some r)
rank_some true rank r is = absurd (let never : ⊥ = cc in never)
rank_some false rank r is = (refl, is)

not_picked : (o : Option Candidate) → option_map (λ (c : Candidate). c.actor) o ≡ None → o ≡ None
not_picked None is = refl
not_picked (Some c) is = absurd (some_none _ is)

pub none_ready : (decl : Declaration) (script : Script) (held : List Bool) (h : List Entry)
    → picked decl script held h ≡ None
    → (a : ℕ) → a < actors decl → is_held held a ≡ false → ready decl script a h ≡ None
none_ready decl script held h is a below free =
    no_rank (calls_of a h) (ready decl script a h)
    (subst (λ (t : Bool). unless_held t (option_map (rank_of (calls_of a h)) (ready decl script a h)) ≡ None) free
    (none_first (rank_at decl script held h) (actors decl) (not_picked _ is) a below))

pub none_picked : (decl : Declaration) (script : Script) (held : List Bool) (h : List Entry)
    → ((a : ℕ) → a < actors decl → is_held held a ≡ false → ready decl script a h ≡ None)
    → picked decl script held h ≡ None
none_picked decl script held h none =
    ap (λ (o : Option Candidate). option_map (λ (c : Candidate). c.actor) o)
    (first_none (rank_at decl script held h) (actors decl) (λ a below. by a below (is_held held a) refl))
  where
    by : (a : ℕ) → a < actors decl → (t : Bool) → is_held held a ≡ t
        → unless_held t (option_map (rank_of (calls_of a h)) (ready decl script a h)) ≡ None
    by a below true held_ = refl
    by a below false free = ap (λ (o : Option Input). option_map (rank_of (calls_of a h)) o) (none a below free)

pub some_picked : (decl : Declaration) (script : Script) (held : List Bool) (h : List Entry) (a : ℕ)
    → picked decl script held h ≡ Some a
    → (a < actors decl) × (is_held held a ≡ false) × IsSome (ready decl script a h)
some_picked decl script held h a is = by (first_of (rank_at decl script held h) (actors decl)) refl is
  where
    found : (c : Candidate) → first_of (rank_at decl script held h) (actors decl) ≡ Some c
        → (c.actor < actors decl) × (is_held held c.actor ≡ false) × IsSome (ready decl script c.actor h)
    found c here =
        let at : (c.actor < actors decl) × (rank_at decl script held h c.actor ≡ Some c.rank) =
        some_first (rank_at decl script held h) (actors decl) c here in
        let free : (is_held held c.actor ≡ false)
        × (option_map (rank_of (calls_of c.actor h)) (ready decl script c.actor h) ≡ Some c.rank) =
        rank_some (is_held held c.actor) _ c.rank at.1 in
        (at.0, free.0, a_rank (calls_of c.actor h) (ready decl script c.actor h) c.rank free.1)

    by : (o : Option Candidate) → first_of (rank_at decl script held h) (actors decl) ≡ o
        → option_map (λ (c : Candidate). c.actor) o ≡ Some a
        → (a < actors decl) × (is_held held a ≡ false) × IsSome (ready decl script a h)
    by None here said = absurd (let never : ⊥ = cc in never)
    by (Some c) here said =
        let same : c.actor ≡ a = cc in
        subst (λ (k : ℕ). (k < actors decl) × (is_held held k ≡ false) × IsSome (ready decl script k h)) same
        (found c here)

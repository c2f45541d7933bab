-- What a front end's move asks: those asked before, and those of its round.
use Rattle.std.proofs.Common.{[], ◌≡◌, ℕ, ◌+◌, ◌≤◌, ◌⊎◌, inl, inr, Bool, true, false, cond, List, ◌∷◌, ◌++◌, map}
use Rattle.std.proofs.Common.{filter, fold, length, Option, Some, None, option_map, refl, sym, ap, ◌∙◌, subst, arith}
use Rattle.std.proofs.Common.{length-append}
use Rattle.std.specs.Prelude.{is_none, slice_get}
use Rattle.std.specs.Ordering.{nat_cmp}
use Rattle.std.proofs.lemmas.List.{length-map}
use Rattle.qc_list.specs.Vocabulary.{Ascends, In}
use Rattle.qc_list.proofs.Members.{In-second}
use Rattle.qc_decl.specs.declared.declaration.Declaration.{Declaration}
use Rattle.qc_decl.specs.Vocabulary.{append_need_of}
use Rattle.qc_plan.specs.declared.standing.Asked.{Asked}
use Rattle.qc_plan.specs.declared.standing.Verdict.{Verdict}
use Rattle.qc_plan.specs.declared.standing.Verdict.TheVariants as verdicts
use Rattle.qc_plan.specs.Vocabulary.{RoundState, asking_all, verdict, wanted}
use Rattle.qc_msg.specs.declared.begun.Begun.{Begun}
use Rattle.qc_msg.specs.declared.call.Call.{Call}
use Rattle.qc_msg.specs.declared.message.Want.{Want}
use Rattle.qc_msg.specs.Vocabulary.{with_site}
use Rattle.qc_view.specs.declared.view.View.{View}
use Rattle.qc_view.specs.Vocabulary.{with_own}
use Rattle.qc_front.specs.declared.doing.Doing.{Doing}
use Rattle.qc_front.specs.declared.doing.Doing.TheVariants.{Idle, Reading, Appending}
use Rattle.qc_front.specs.declared.front.Front.{Front}
use Rattle.qc_front.specs.declared.transaction.Transaction.{Transaction}
use Rattle.qc_front.specs.Vocabulary.{FrontMove, answer_of, answered, append_by, append_want, awaited, next_own}
use Rattle.qc_front.specs.Vocabulary.{read_by, read_want, request_of, resp_of, round_for, sites_of, with_event}
use Rattle.qc_front.proofs.Awaited.{asking_awaits}
use Rattle.qc_front.proofs.CommandsKeep.{view_keeps}
use Rattle.laws_turns.proofs.Asked.{InRound, in_joined, joined-ascends}

-- what a move asks: nobody else than those asked before, and those of the round; and it sends no more messages

abbrev pub Grows : List ℕ → Option Transaction → Doing → Type 0
Grows old None doing = Unit {0}
Grows old (Some t) doing =
    (Ascends nat_cmp old → Ascends nat_cmp t.begun.asked) × ((x : ℕ) → In x t.begun.asked → In x old ⊎ InRound x doing)

abbrev pub count_in : Doing → ℕ
count_in Idle = 0
count_in (Reading object inv calls round) = length round.asked
count_in (Appending object inv event calls round) = length round.asked

pub record AsksOn (old : List ℕ) (m : FrontMove) : Type 0 where
  pub grows : Grows old m.front.transaction m.front.doing
  pub short : (length m.turn.sends ≤ count_in m.front.doing) ⊎ (length m.turn.sends ≤ length old)

pub same_asked : (old : List ℕ) (t : Transaction) (doing : Doing) → t.begun.asked ≡ old → Grows old (Some t) doing
same_asked old t doing is = (λ up. subst (Ascends nat_cmp) (sym is) up, λ x among. inl (subst (In x) is among))

-- the sites that are asked now are among those of the round

filter_less : (test : Asked → Bool) (xs : List Asked) → length (filter test xs) ≤ length xs
filter_less test [] = omega arith
filter_less test (x ∷ xs) = by (test x) (filter_less test xs) where
  by : (t : Bool) → length (filter test xs) ≤ length xs
      → length (cond t (x ∷ filter test xs) (filter test xs)) ≤ length (x ∷ xs)
  by true few = omega arith
  by false few = omega arith

unfiltered : (test : Asked → Bool) (x : ℕ) (xs : List Asked) → In x (sites_of (filter test xs)) → In x (sites_of xs)
unfiltered test x [] among = absurd among
unfiltered test x (a ∷ xs) among = by (test a) (unfiltered test x xs) among where
  by : (t : Bool) → (In x (sites_of (filter test xs)) → In x (sites_of xs))
      → In x (sites_of (cond t (a ∷ filter test xs) (filter test xs))) → In x (sites_of (a ∷ xs))
  by true rest (inl same) = inl same
  by true rest (inr later) = inr (rest later)
  by false rest later = inr (rest later)

wanted_in : (r : RoundState) (x : ℕ) → In x (wanted r) → In x (sites_of (asking_all r (wanted r)).asked)
wanted_in r x among =
    unfiltered (λ (a : Asked). is_none a.standing) x (asking_all r (wanted r)).asked
    (subst (In x) (sym (asking_awaits r)) (In-second x (awaited r) (wanted r) among))

wanted_few : (r : RoundState) → length (wanted r) ≤ length (asking_all r (wanted r)).asked
wanted_few r =
    let whole : length (awaited (asking_all r (wanted r))) ≡ length (awaited r) + length (wanted r) =
    ap length (asking_awaits r) ∙ length-append (awaited r) (wanted r) in
    let named : length (awaited (asking_all r (wanted r)))
    ≡ length (filter (λ (a : Asked). is_none a.standing) (asking_all r (wanted r)).asked) =
    length-map (filter (λ (a : Asked). is_none a.standing) (asking_all r (wanted r)).asked) (λ (a : Asked). a.site) in
    let less : length (filter (λ (a : Asked). is_none a.standing) (asking_all r (wanted r)).asked)
    ≤ length (asking_all r (wanted r)).asked =
    filter_less (λ (a : Asked). is_none a.standing) (asking_all r (wanted r)).asked in
    omega arith

asked_grows : (old : List ℕ) (t : Transaction) (r : RoundState) → t.begun.asked ≡ old
    → (Ascends nat_cmp old → Ascends nat_cmp (fold with_site t.begun.asked (wanted r)))
    × ((x : ℕ) → In x (fold with_site t.begun.asked (wanted r))
    → In x old ⊎ In x (sites_of (asking_all r (wanted r)).asked))
asked_grows old t r is = (
  λ up. joined-ascends t.begun.asked (wanted r) (subst (Ascends nat_cmp) (sym is) up),
  λ x among. by x (in_joined x t.begun.asked (wanted r) among),
) where
  by : (x : ℕ) → In x t.begun.asked ⊎ In x (wanted r) → In x old ⊎ In x (sites_of (asking_all r (wanted r)).asked)
  by x (inl before) = inl (subst (In x) is before)
  by x (inr now) = inr (wanted_in r x now)

requests_few : (b : Begun) (want : ℕ → Want) (r : RoundState)
    → length (map (request_of b want) (wanted r)) ≤ length (asking_all r (wanted r)).asked
requests_few b want r =
    let same : length (map (request_of b want) (wanted r)) ≡ length (wanted r) =
    length-map (wanted r) (request_of b want) in
    let few : length (wanted r) ≤ length (asking_all r (wanted r)).asked = wanted_few r in
    omega arith

module _ (decl : Declaration) (old : List ℕ) (front : Front) where
  pub append_by-asks : (t : Transaction) (object inv event : ℕ) (calls : List Call) (r : RoundState) (v : Verdict)
      → t.begun.asked ≡ old → AsksOn old (append_by decl front t object inv event calls r v)
  append_by-asks t object inv event calls r verdicts.Waiting is =
      record { grows = asked_grows old t r is; short = inl (requests_few t.begun (append_want decl t object event) r) }
  append_by-asks t object inv event calls r verdicts.Met is = record {
    grows = same_asked old (with_event t object inv event (resp_of decl object event)) Idle
        (ap (λ (b : Begun). b.asked)
        (view_keeps (record t { own = t.own ++ next_own t object event ∷ [] }) object
        (option_map (λ (v : View). with_own v event) (slice_get t.views object))) ∙ is);
    short = inl (omega arith);
  }
  append_by-asks t object inv event calls r (verdicts.Closed epoch site) is =
      record { grows = same_asked old t Idle is; short = inl (omega arith) }
  append_by-asks t object inv event calls r (verdicts.Clash tx site) is =
      record { grows = same_asked old t Idle is; short = inl (omega arith) }
  append_by-asks t object inv event calls r (verdicts.Short got need) is =
      record { grows = same_asked old t Idle is; short = inl (omega arith) }

  answered-asks : (t : Transaction) (object inv : ℕ) (event : Option ℕ) → t.begun.asked ≡ old
      → AsksOn old (answered decl front t object inv event)
  answered-asks t object inv None is = record { grows = same_asked old t Idle is; short = inl (omega arith) }
  answered-asks t object inv (Some event) is =
      append_by-asks t object inv event [] (round_for decl front t (append_need_of decl t.begun.epoch object event))
      (verdict (round_for decl front t (append_need_of decl t.begun.epoch object event))) is

  pub read_by-asks : (t : Transaction) (object inv : ℕ) (calls : List Call) (r : RoundState) (v : Verdict)
      → t.begun.asked ≡ old → AsksOn old (read_by decl front t object inv calls r v)
  read_by-asks t object inv calls r verdicts.Waiting is =
      record { grows = asked_grows old t r is; short = inl (requests_few t.begun (read_want object inv) r) }
  read_by-asks t object inv calls r verdicts.Met is = answered-asks t object inv (answer_of decl t object inv) is
  read_by-asks t object inv calls r (verdicts.Closed epoch site) is =
      record { grows = same_asked old t Idle is; short = inl (omega arith) }
  read_by-asks t object inv calls r (verdicts.Clash tx site) is =
      record { grows = same_asked old t Idle is; short = inl (omega arith) }
  read_by-asks t object inv calls r (verdicts.Short got need) is =
      record { grows = same_asked old t Idle is; short = inl (omega arith) }

-- the sites asked so far
abbrev pub asked_by : Option Transaction → List ℕ
asked_by None = []
asked_by (Some t) = t.begun.asked

pub still_grows : (o : Option Transaction) (doing : Doing) → Grows (asked_by o) o doing
still_grows None doing = tt
still_grows (Some t) doing = same_asked t.begun.asked t doing refl

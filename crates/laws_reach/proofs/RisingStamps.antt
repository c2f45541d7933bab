-- Commit records whose stamps rise, up to a clock.
use Rattle.std.proofs.Common.{◌≡◌, ◌≤◌, ◌<◌, ◌+◌, ℕ, zero, suc, Bool, true, false, cond, List, [], ◌∷◌, ◌++◌, fold, max}
use Rattle.std.proofs.Common.{Option, Some, None, arith}
use Rattle.std.specs.Option.{option_map_or}
use Rattle.std.specs.List.{All, AllByRecursion as Every, AllPairs, cons_option, filter_map}
use Rattle.std.proofs.lemmas.List.Elements.{filter_map-append}
use Rattle.std.proofs.lemmas.List.Kept.{AllPairs-cons}
use Rattle.qc_entry.specs.declared.record.Commit.{Commit}
use Rattle.qc_list.proofs.Members.{every-append}
use Rattle.qc_msg.specs.declared.record.Record.{Record}
use Rattle.qc_msg.specs.Vocabulary.{commit_of, is_life}
use Rattle.qc_recover.specs.Clients.{Kept, keeps, with_commit}
use Rattle.laws_reach.proofs.RecordCases.{record_cases}
use Rattle.qc_recover.proofs.ClientLaws.{clocks_grow}

abbrev pub commits_of : List Record → List Commit
commits_of rs = filter_map commit_of rs

pub commits_more : (xs ys : List Record) → commits_of (xs ++ ys) ≡ commits_of xs ++ commits_of ys
commits_more xs ys = filter_map-append commit_of xs ys

abbrev pub IsBefore : Commit → Commit → Type 0
IsBefore c d = c.stamp.clock < d.stamp.clock

abbrev pub IsUpTo : ℕ → Commit → Type 0
IsUpTo n c = c.stamp.clock ≤ n

abbrev pub Rise : List Commit → Type 0
Rise [] = Unit {0}
Rise (c ∷ cs) = Every (IsBefore c) cs × Rise cs

-- the first ones, and one more above all

every_first : (P : Commit → Type 0) (xs ys : List Commit) → Every P (xs ++ ys) → Every P xs
every_first P [] ys all = tt
every_first P (x ∷ xs) ys all = (all.0, every_first P xs ys all.1)

pub rise_first : (xs ys : List Commit) → Rise (xs ++ ys) → Rise xs
rise_first [] ys up = tt
rise_first (x ∷ xs) ys up = (every_first (IsBefore x) xs ys up.0, rise_first xs ys up.1)

pub rise_more : (n : ℕ) (cs : List Commit) (d : Commit) → Rise cs → Every (IsUpTo n) cs → n < d.stamp.clock
    → Rise (cs ++ d ∷ [])
rise_more n [] d up low above = (tt, tt)
rise_more n (c ∷ cs) d up low above = (
  every-append (IsBefore c) cs (d ∷ []) up.0
      (let l : c.stamp.clock ≤ n = low.0 in omega arith, tt),
  rise_more n cs d up.1 low.1 above,
)

pub low_later : (n m : ℕ) → n ≤ m → (cs : List Commit) → Every (IsUpTo n) cs → Every (IsUpTo m) cs
low_later n m on [] low = tt
low_later n m on (c ∷ cs) low = (let l : c.stamp.clock ≤ n = low.0 in omega arith, low_later n m on cs low.1)

-- lives and clocks only grow, and the clock of a client that rises has passed all its records

abbrev Grown : Kept → Kept → Type 0
Grown k next = (k.life ≤ next.life) × (k.clock ≤ next.clock)

pub grown_one : (k : Kept) (r : Record) → (k.life ≤ (keeps k r).life) × (k.clock ≤ (keeps k r).clock)
grown_one k r = by (is_life r) (commit_of r)
  where
    by : (life : Bool) (o : Option Commit) → Grown k
        (cond life (record k { life = k.life + 1 }) (option_map_or (λ (c : Commit).
        record k { commits = with_commit k.commits c; clock = max k.clock c.stamp.clock }) o k))
    by true o = (omega arith, omega arith)
    by false None = (omega arith, omega arith)
    by false (Some c) = (omega arith, omega arith)

pub all_passed : (k : Kept) (rs : List Record) → Every (IsUpTo (fold keeps k rs).clock) (commits_of rs)
all_passed k [] = tt
all_passed k (r ∷ rs) =
    record_cases
    (λ r life o. (let next : Kept = cond life (record k { life = k.life + 1 }) (option_map_or (λ (c : Commit).
    record k { commits = with_commit k.commits c; clock = max k.clock c.stamp.clock }) o k) in
    next.clock ≤ (fold keeps next rs).clock → Every (IsUpTo (fold keeps next rs).clock) (commits_of rs)
    → Every (IsUpTo (fold keeps next rs).clock) (cons_option o (commits_of rs))))
    (λ up rest. rest) (λ c up rest. (omega arith, rest)) (λ r none up rest. rest) r (clocks_grow (keeps k r) rs)
    (all_passed (keeps k r) rs)

-- so each is below each later one

each_place : (P : Commit → Type 0) (cs : List Commit) → Every P cs → All P cs
each_place P [] all k d within = absurd (omega arith)
each_place P (c ∷ cs) all zero d within = all.0
each_place P (c ∷ cs) all (suc k) d within = each_place P cs all.1 k d (omega arith)

pub rise_pairs : (cs : List Commit) → Rise cs → AllPairs (λ (c d : Commit). c.stamp.clock < d.stamp.clock) cs
rise_pairs [] up = λ i j d l m. absurd (omega arith)
rise_pairs (c ∷ cs) up = AllPairs-cons (λ (x y : Commit). x.stamp.clock < y.stamp.clock) c cs
    (each_place (IsBefore c) cs up.0) (rise_pairs cs up.1)

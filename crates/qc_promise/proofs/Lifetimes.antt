-- A life begins at a rise, and every other deed joins it.
use Rattle.std.proofs.Common.{◌≡◌, List, [], ◌∷◌, ◌++◌, Option, None, sym, ap, ◌∙◌, append_assoc}
use Rattle.std.specs.Prelude.{fold}
use Rattle.std.specs.List.{filter_map}
use Rattle.std.specs.Option.{option_map_or}
use Rattle.std.proofs.lemmas.List.{append-nil}
use Rattle.std.proofs.lemmas.List.Elements.{filter_map-append}
use Rattle.std.proofs.lemmas.List.Sums.{fold-append}
use Rattle.qc_msg.specs.declared.record.Record.{Record}
use Rattle.qc_msg.specs.Vocabulary.{Deed, Rises, risen_in, written_in}
use Rattle.qc_promise.specs.Vocabulary.{Lifetime, begun_with, lifetime, records_in, with_deed}

-- deeds none of which is a rise
abbrev pub AreNoRises : List Deed → Type 0
AreNoRises [] = Unit {0}
AreNoRises (d ∷ ds) = (risen_in d ≡ None) × AreNoRises ds

pub no_rises : (xs ys : List Deed) → AreNoRises xs → AreNoRises ys → AreNoRises (xs ++ ys)
no_rises [] ys none more = more
no_rises (x ∷ xs) ys none more = (none.0, no_rises xs ys none.1 more)

abbrev pub lived : Lifetime → List Deed → Lifetime
lived l ds = record { kept = l.kept; since = l.since ++ ds }

lives : (l : Lifetime) (ds : List Deed) → AreNoRises ds → fold with_deed l ds ≡ lived l ds
lives l [] none = ap (λ (v : List Deed). record { kept = l.kept; since = v }) (sym (append-nil l.since))
lives l (d ∷ ds) none =
    ap (λ (o : Option (List Record)). fold with_deed (option_map_or begun_with o (lived l (d ∷ []))) ds) none.0
    ∙ lives (lived l (d ∷ [])) ds none.1
    ∙ ap (λ (v : List Deed). record { kept = l.kept; since = v }) (append_assoc l.since (d ∷ []) ds)

pub lives_on : (ds xs : List Deed) → AreNoRises xs → lifetime (ds ++ xs) ≡ lived (lifetime ds) xs
lives_on ds xs none = fold-append with_deed (begun_with []) ds xs ∙ lives (lifetime ds) xs none

-- who never rose is in his first life
pub first_life : (ds : List Deed) → AreNoRises ds → lifetime ds ≡ record { kept = []; since = ds }
first_life ds none = lives (begun_with []) ds none

pub life_begins : (ds : List Deed) (rs : List Record) → lifetime (ds ++ Rises rs ∷ []) ≡ begun_with rs
life_begins ds rs = fold-append with_deed (begun_with []) ds (Rises rs ∷ [])

-- what comes after a rise is the whole of its life
pub life_after : (ds : List Deed) (rs : List Record) (xs : List Deed) → AreNoRises xs
    → lifetime (ds ++ Rises rs ∷ xs) ≡ record { kept = rs; since = xs }
life_after ds rs xs none = fold-append with_deed (begun_with []) ds (Rises rs ∷ xs) ∙ lives (begun_with rs) xs none

-- the records

pub more_records : (ds xs : List Deed) → AreNoRises xs
    → records_in (ds ++ xs) ≡ records_in ds ++ filter_map written_in xs
more_records ds xs none =
    ap (λ (l : Lifetime). l.kept ++ filter_map written_in l.since) (lives_on ds xs none)
    ∙ ap (λ (v : List Record). (lifetime ds).kept ++ v) (filter_map-append written_in (lifetime ds).since xs)
    ∙ sym (append_assoc (lifetime ds).kept (filter_map written_in (lifetime ds).since) (filter_map written_in xs))

pub risen_records : (ds : List Deed) (rs : List Record) → records_in (ds ++ Rises rs ∷ []) ≡ rs
risen_records ds rs = ap (λ (l : Lifetime). l.kept ++ filter_map written_in l.since) (life_begins ds rs) ∙ append-nil rs

-- What is held begins anew at the last cut among deeds.
use Rattle.std.proofs.Common.{◌≡◌, ℕ, ◌+◌, ◌<◌, Bool, true, false, cond, List, [], ◌∷◌, ◌++◌, length, get_or, map, take}
use Rattle.std.proofs.Common.{drop, sym, ap, ◌∙◌, append_assoc, take-append-drop}
use Rattle.std.specs.Prelude.{fold}
use Rattle.std.proofs.lemmas.List.{append-nil, map-append}
use Rattle.std.proofs.lemmas.List.Sums.{fold-append}
use Rattle.qc_msg.specs.Vocabulary.{Deed}
use Rattle.qc_promise.specs.Vocabulary.{Holding, cuts, last_cut, with_cut}
use Rattle.qc_text.specs.Vocabulary.{deed_of}
use Rattle.qc_text.specs.declared.deeds.Deed.{Deed as Found}
use Rattle.qc_text.proofs.Found.{found_more, found_rest}

abbrev pub AreNoCuts : List Deed → Type 0
AreNoCuts [] = Unit {0}
AreNoCuts (d ∷ ds) = (cuts d ≡ false) × AreNoCuts ds

abbrev pub nothing : Holding
nothing = record { before = []; since = [] }

-- with a cut all deeds so far come before, and without one a deed comes to those since

abbrev pub anew : Holding → Deed → Holding
anew h d = record { before = h.before ++ h.since ++ d ∷ []; since = [] }

abbrev pub on : Holding → Deed → Holding
on h d = record h { since = h.since ++ d ∷ [] }

since_more : (h : Holding) (ds : List Deed) → AreNoCuts ds
    → fold with_cut h ds ≡ record { before = h.before; since = h.since ++ ds }
since_more h [] none = ap (λ (v : List Deed). record { before = h.before; since = v }) (sym (append-nil h.since))
since_more h (d ∷ ds) none =
    ap (λ (b : Bool). fold with_cut (cond b (anew h d) (on h d)) ds) none.0
    ∙ since_more (on h d) ds none.1
    ∙ ap (λ (v : List Deed). record { before = h.before; since = v }) (append_assoc h.since (d ∷ []) ds)

-- both parts together are all deeds

abbrev together : Holding → List Deed
together h = h.before ++ h.since

together_more : (h : Holding) (d : Deed) → together (with_cut h d) ≡ together h ++ d ∷ []
together_more h d = by (cuts d)
  where
    by : (b : Bool) → together (cond b (anew h d) (on h d)) ≡ together h ++ d ∷ []
    by true = append-nil (h.before ++ h.since ++ d ∷ [])
    by false = sym (append_assoc h.before h.since (d ∷ []))

together_all : (h : Holding) (ds : List Deed) → together (fold with_cut h ds) ≡ together h ++ ds
together_all h [] = sym (append-nil (together h))
together_all h (d ∷ ds) =
    together_all (with_cut h d) ds ∙ ap (λ (v : List Deed). v ++ ds) (together_more h d)
    ∙ append_assoc (together h) (d ∷ []) ds

-- at the last cut, and where there is none

parted_at : (xs : List Deed) (d : Deed) (ys : List Deed) → cuts d ≡ true → AreNoCuts ys
    → last_cut (xs ++ d ∷ ys) ≡ record { before = xs ++ d ∷ []; since = ys }
parted_at xs d ys cut none =
    fold-append with_cut nothing xs (d ∷ ys)
    ∙ ap (λ (b : Bool). fold with_cut (cond b (anew (last_cut xs) d) (on (last_cut xs) d)) ys) cut
    ∙ since_more (anew (last_cut xs) d) ys none
    ∙ ap (λ (v : List Deed). record { before = v ++ d ∷ []; since = ys }) (together_all nothing xs)

pub not_parted : (ds : List Deed) → AreNoCuts ds → last_cut ds ≡ record { before = []; since = ds }
not_parted ds none = since_more nothing ds none

-- deeds as code has them
pub found_parted : (xs : List Found) (i : ℕ) (x d : Found) → i < length xs → x ≡ get_or xs i d → cuts (deed_of x) ≡ true
    → AreNoCuts (map deed_of (drop (i + 1) xs))
    → last_cut (map deed_of xs) ≡ record {
      before = map deed_of (take (i + 1) xs);
      since = map deed_of (drop (i + 1) xs);
    }
found_parted xs i x d l e cut none =
    ap last_cut (ap (map deed_of) (sym (take-append-drop i xs)) ∙ map-append deed_of (take i xs) (drop i xs)
    ∙ ap (λ (v : List Deed). map deed_of (take i xs) ++ v) (found_rest xs i x d l e))
    ∙ parted_at (map deed_of (take i xs)) (deed_of x) (map deed_of (drop (i + 1) xs)) cut none
    ∙ ap (λ (v : List Deed). record { before = v; since = map deed_of (drop (i + 1) xs) })
    (sym (found_more xs i x d l e))

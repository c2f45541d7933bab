-- Lists of different numbers: what is left of one, and the participants of a commit.
use Rattle.std.proofs.Common.{ℕ, Bool, true, false, cond, inl, inr, List, [], ◌∷◌, map, filter}
use Rattle.qc_list.specs.Vocabulary.{In}
use Rattle.qc_decl.specs.declared.declaration.Declaration.{Declaration}
use Rattle.qc_decl.specs.Vocabulary.{first_site}
use Rattle.qc_msg.specs.declared.begun.Begun.{Begun}
use Rattle.qc_msg.specs.Vocabulary.{has_granted}
use Rattle.qc_plan.specs.Vocabulary.{cyclic}
use Rattle.qc_commit.specs.Vocabulary.{participants}
use Rattle.qc_front.specs.Vocabulary.{AreApart}
use Rattle.qc_front.proofs.Apart.{apart_filter, apart_cyclic}

-- what is left of a list has different numbers too

kept_among : {A : Type 0} (f : A → ℕ) (test : A → Bool) (xs : List A) (k : ℕ) → In k (map f (filter test xs))
    → In k (map f xs)
kept_among f test [] k among = absurd among
kept_among {A = A} f test (x ∷ xs) k among = by (test x) among (kept_among f test xs k)
  where
    by : (b : Bool) → In k (map f (cond b (x ∷ filter test xs) (filter test xs)))
        → (In k (map f (filter test xs)) → In k (map f xs)) → In k (map f (x ∷ xs))
    by true (inl same) more = inl same
    by true (inr rest) more = inr (more rest)
    by false rest more = inr (more rest)

pub kept_different : {A : Type 0} (f : A → ℕ) (test : A → Bool) (xs : List A) → AreApart (map f xs)
    → AreApart (map f (filter test xs))
kept_different f test [] different = tt
kept_different {A = A} f test (x ∷ xs) different = by (test x) (kept_different f test xs different.1)
  where
    by : (b : Bool) → AreApart (map f (filter test xs))
        → AreApart (map f (cond b (x ∷ filter test xs) (filter test xs)))
    by true rest = (λ y among. different.0 y (kept_among f test xs y among), rest)
    by false rest = rest

-- a commit asks each participant once
pub participants_different : (decl : Declaration) (client : ℕ) (b : Begun)
    → AreApart (participants decl client b)
participants_different decl client b =
    apart_filter (has_granted b.lives) (cyclic decl.sites (first_site decl client))
    (apart_cyclic decl.sites (first_site decl client))

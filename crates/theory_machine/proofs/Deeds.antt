-- One more deed after a grant: which deeds leave what a transaction holds, and which keep that it is prepared or done.
use Rattle.std.proofs.Common.{◌≡◌, ◌≢◌, Bool, true, false, IsTrue, ◌||◌, inl, inr, List, [], ◌∷◌, ◌++◌, refl, ap}
use Rattle.qc_list.specs.Vocabulary.{In}
use Rattle.qc_stamp.specs.declared.stamp.TxId.{TxId}
use Rattle.qc_stamp.specs.Vocabulary.{same_tx}
use Rattle.qc_stamp.proofs.Orders.{same_tx_is, same_tx_test}
use Rattle.theory_machine.specs.Vocabulary.{Closes, Deed, Grants, Installs, IsPreparedOrDone, KeepsLife, LearnsAbort}
use Rattle.theory_machine.specs.Vocabulary.{LearnsCommit, Prepares, Rises, SparesUntilDone}
use Rattle.qc_list.proofs.Booleans.{or_second}

-- a deed that harms nobody but whom it names
abbrev pub IsCalm : TxId → Deed → Type 0
IsCalm tx (Grants t items view) = Unit {0}
IsCalm tx (Prepares t) = Unit {0}
IsCalm tx (LearnsCommit t stamp) = t ≢ tx
IsCalm tx (LearnsAbort t) = t ≢ tx
IsCalm tx Closes = ⊥
IsCalm tx (Installs k c log) = Unit {0}
IsCalm tx Rises = ⊥

one_calm : (tx : TxId) (is : Bool) (d : Deed) → IsCalm tx d → SparesUntilDone tx is (d ∷ [])
one_calm tx is (Grants t items view) c = tt
one_calm tx is (Prepares t) c = tt
one_calm tx true (LearnsCommit t stamp) c = λ ne. tt
one_calm tx false (LearnsCommit t stamp) c = (c, tt)
one_calm tx is (LearnsAbort t) c = (c, tt)
one_calm tx is Closes c = absurd c
one_calm tx is (Installs k2 c2 log) c = tt
one_calm tx is Rises c = absurd c

pub more_calm : (tx : TxId) (ds : List Deed) (is : Bool) (d : Deed) → IsCalm tx d → SparesUntilDone tx is ds
    → SparesUntilDone tx is (ds ++ d ∷ [])
more_calm tx [] is d c u = one_calm tx is d c
more_calm tx (Grants t items view ∷ ds) is d c u = more_calm tx ds is d c u
more_calm tx (Prepares t ∷ ds) is d c u = more_calm tx ds (is || same_tx tx t) d c u
more_calm tx (LearnsCommit t stamp ∷ ds) true d c u = λ ne. more_calm tx ds true d c (u ne)
more_calm tx (LearnsCommit t stamp ∷ ds) false d c u = (u.0, more_calm tx ds false d c u.1)
more_calm tx (LearnsAbort t ∷ ds) is d c u = (u.0, more_calm tx ds is d c u.1)
more_calm tx (Closes ∷ ds) true d c u = more_calm tx ds true d c u
more_calm tx (Closes ∷ ds) false d c u = absurd u
more_calm tx (Installs k2 c2 log ∷ ds) is d c u = tt
more_calm tx (Rises ∷ ds) true d c u = more_calm tx ds true d c u
more_calm tx (Rises ∷ ds) false d c u = absurd u

-- what comes once tx is prepared: a Done, or a rise
abbrev pub IsBorne : TxId → Deed → Type 0
IsBorne tx (Grants t items view) = Unit {0}
IsBorne tx (Prepares t) = Unit {0}
IsBorne tx (LearnsCommit t stamp) = Unit {0}
IsBorne tx (LearnsAbort t) = t ≢ tx
IsBorne tx Closes = Unit {0}
IsBorne tx (Installs k c log) = Unit {0}
IsBorne tx Rises = Unit {0}

one_borne : (tx : TxId) (is : Bool) (d : Deed) → IsBorne tx d → IsTrue is → SparesUntilDone tx is (d ∷ [])
one_borne tx is (Grants t items view) c b = tt
one_borne tx is (Prepares t) c b = tt
one_borne tx true (LearnsCommit t stamp) c b = λ ne. tt
one_borne tx false (LearnsCommit t stamp) c b = absurd (cc)
one_borne tx is (LearnsAbort t) c b = (c, tt)
one_borne tx true Closes c b = tt
one_borne tx false Closes c b = absurd (cc)
one_borne tx is (Installs k2 c2 log) c b = tt
one_borne tx true Rises c b = tt
one_borne tx false Rises c b = absurd (cc)

pub more_borne : (tx : TxId) (ds : List Deed) (is : Bool) (d : Deed) → IsBorne tx d → SparesUntilDone tx is ds
    → IsPreparedOrDone tx is ds → SparesUntilDone tx is (ds ++ d ∷ [])
more_borne tx [] is d c u b = one_borne tx is d c b
more_borne tx (Grants t items view ∷ ds) is d c u b = more_borne tx ds is d c u b
more_borne tx (Prepares t ∷ ds) is d c u b = more_borne tx ds (is || same_tx tx t) d c u b
more_borne tx (LearnsCommit t stamp ∷ ds) true d c u b = λ ne. more_borne tx ds true d c (u ne) (b ne)
more_borne tx (LearnsCommit t stamp ∷ ds) false d c u b = (u.0, more_borne tx ds false d c u.1 b)
more_borne tx (LearnsAbort t ∷ ds) is d c u b = (u.0, more_borne tx ds is d c u.1 b)
more_borne tx (Closes ∷ ds) true d c u b = more_borne tx ds true d c u b
more_borne tx (Closes ∷ ds) false d c u b = absurd u
more_borne tx (Installs k2 c2 log ∷ ds) is d c u b = tt
more_borne tx (Rises ∷ ds) true d c u b = more_borne tx ds true d c u b
more_borne tx (Rises ∷ ds) false d c u b = absurd u

one_prepared_or_done : (tx : TxId) (is : Bool) (d : Deed) → IsTrue is → IsPreparedOrDone tx is (d ∷ [])
one_prepared_or_done tx is (Grants t items view) b = b
one_prepared_or_done tx true (Prepares t) b = refl
one_prepared_or_done tx false (Prepares t) b = absurd (cc)
one_prepared_or_done tx true (LearnsCommit t stamp) b = λ ne. refl
one_prepared_or_done tx false (LearnsCommit t stamp) b = b
one_prepared_or_done tx is (LearnsAbort t) b = b
one_prepared_or_done tx is Closes b = b
one_prepared_or_done tx is (Installs k c log) b = tt
one_prepared_or_done tx is Rises b = b

pub more_prepared_or_done : (tx : TxId) (ds : List Deed) (is : Bool) (d : Deed) → IsPreparedOrDone tx is ds
    → IsPreparedOrDone tx is (ds ++ d ∷ [])
more_prepared_or_done tx [] is d b = one_prepared_or_done tx is d b
more_prepared_or_done tx (Grants t items view ∷ ds) is d b = more_prepared_or_done tx ds is d b
more_prepared_or_done tx (Prepares t ∷ ds) is d b = more_prepared_or_done tx ds (is || same_tx tx t) d b
more_prepared_or_done tx (LearnsCommit t stamp ∷ ds) true d b = λ ne. more_prepared_or_done tx ds true d (b ne)
more_prepared_or_done tx (LearnsCommit t stamp ∷ ds) false d b = more_prepared_or_done tx ds false d b
more_prepared_or_done tx (LearnsAbort t ∷ ds) is d b = more_prepared_or_done tx ds is d b
more_prepared_or_done tx (Closes ∷ ds) is d b = more_prepared_or_done tx ds is d b
more_prepared_or_done tx (Installs k c log ∷ ds) is d b = tt
more_prepared_or_done tx (Rises ∷ ds) is d b = more_prepared_or_done tx ds is d b

-- a vote bears
pub vote_prepared_or_done : (tx : TxId) (ds : List Deed) (is : Bool) → IsPreparedOrDone tx is (ds ++ Prepares tx ∷ [])
vote_prepared_or_done tx [] is = or_second is (same_tx tx tx) (same_tx_test tx tx refl)
vote_prepared_or_done tx (Grants t items view ∷ ds) is = vote_prepared_or_done tx ds is
vote_prepared_or_done tx (Prepares t ∷ ds) is = vote_prepared_or_done tx ds (is || same_tx tx t)
vote_prepared_or_done tx (LearnsCommit t stamp ∷ ds) true = λ ne. vote_prepared_or_done tx ds true
vote_prepared_or_done tx (LearnsCommit t stamp ∷ ds) false = vote_prepared_or_done tx ds false
vote_prepared_or_done tx (LearnsAbort t ∷ ds) is = vote_prepared_or_done tx ds is
vote_prepared_or_done tx (Closes ∷ ds) is = vote_prepared_or_done tx ds is
vote_prepared_or_done tx (Installs k c log ∷ ds) is = tt
vote_prepared_or_done tx (Rises ∷ ds) is = vote_prepared_or_done tx ds is

pub no_rise_more : (ds : List Deed) (d : Deed) → KeepsLife ds → KeepsLife (d ∷ []) → KeepsLife (ds ++ d ∷ [])
no_rise_more [] d a b = b
no_rise_more (Grants t items view ∷ ds) d a b = no_rise_more ds d a b
no_rise_more (Prepares t ∷ ds) d a b = no_rise_more ds d a b
no_rise_more (LearnsCommit t stamp ∷ ds) d a b = no_rise_more ds d a b
no_rise_more (LearnsAbort t ∷ ds) d a b = no_rise_more ds d a b
no_rise_more (Closes ∷ ds) d a b = absurd a
no_rise_more (Installs k c log ∷ ds) d a b = no_rise_more ds d a b
no_rise_more (Rises ∷ ds) d a b = absurd a

-- no deed on tx, and no Install
abbrev pub IsMild : TxId → Deed → Type 0
IsMild tx (Grants t items view) = Unit {0}
IsMild tx (Prepares t) = Unit {0}
IsMild tx (LearnsCommit t stamp) = t ≢ tx
IsMild tx (LearnsAbort t) = t ≢ tx
IsMild tx Closes = Unit {0}
IsMild tx (Installs k c log) = Unit {0}
IsMild tx Rises = Unit {0}

-- where no deed touches tx
pub calm_all : (tx : TxId) (ds : List Deed) → KeepsLife ds → ((d : Deed) → In d ds → IsMild tx d)
    → (In (Prepares tx) ds → ⊥) → SparesUntilDone tx false ds
calm_all tx [] n c p = tt
calm_all tx (Grants t items view ∷ ds) n c p = calm_all tx ds n (λ d h. c d (inr h)) (λ h. p (inr h))
calm_all tx (Prepares t ∷ ds) n c p = by (same_tx tx t) refl (calm_all tx ds n (λ d h. c d (inr h)) (λ h. p (inr h)))
  where
    by : (b : Bool) → same_tx tx t ≡ b → SparesUntilDone tx false ds → SparesUntilDone tx (same_tx tx t) ds
    by true e ih = absurd (p (inl (ap (λ (x : TxId). Prepares x) (same_tx_is tx t e))))
    by false e ih = rw e ih
calm_all tx (LearnsCommit t stamp ∷ ds) n c p =
    (c (LearnsCommit t stamp) (inl refl), calm_all tx ds n (λ d h. c d (inr h)) (λ h. p (inr h)))
calm_all tx (LearnsAbort t ∷ ds) n c p =
    (c (LearnsAbort t) (inl refl), calm_all tx ds n (λ d h. c d (inr h)) (λ h. p (inr h)))
calm_all tx (Closes ∷ ds) n c p = absurd n
calm_all tx (Installs k2 c2 log ∷ ds) n c p = tt
calm_all tx (Rises ∷ ds) n c p = absurd n

-- Questions about a transaction come only once that has begun; deeds one after another.
use Rattle.std.proofs.Common.{◌≡◌, ◌≢◌, true, List, [], ◌∷◌, ◌++◌, fold}
use Rattle.std.specs.List.{AllByRecursion as Every}
use Rattle.std.specs.Prelude.{MatchOption}
use Rattle.qc_stamp.specs.declared.stamp.TxId.{TxId}
use Rattle.qc_stamp.specs.Vocabulary.{same_tx}
use Rattle.qc_msg.specs.declared.message.Message.{Message}
use Rattle.qc_msg.specs.declared.step.Input.{Input}
use Rattle.qc_msg.specs.declared.step.Input.TheVariants as inputs
use Rattle.qc_msg.specs.Vocabulary.{Deed, Falls, Rises, Sends, Takes, Tells, Writes, inquiry_in}
use Rattle.qc_promise.specs.Vocabulary.{AreRightFrom, Status, Unborn, status_at}
use Rattle.laws_turns.proofs.ClientsWithin.{IsPost}

-- a question about a transaction comes only once that has begun

abbrev pub IsKnownIn : TxId → Status → Message → Type 0
IsKnownIn tx s m =
    MatchOption (inquiry_in m) (Unit {0}) (λ (other : TxId). same_tx other tx ≡ true → s ≢ Unborn)

abbrev pub IsKnown : TxId → Status → Input → Type 0
IsKnown tx s (inputs.Called command) = Unit {0}
IsKnown tx s (inputs.Got envelope) = IsKnownIn tx s envelope.message
IsKnown tx s (inputs.Lost number) = Unit {0}

abbrev pub KnownFrom : TxId → Status → List Deed → Type 0
KnownFrom tx s [] = Unit {0}
KnownFrom tx s (Takes given ∷ ds) = IsKnown tx s given × KnownFrom tx s ds
KnownFrom tx s (Writes written ∷ ds) = KnownFrom tx (status_at tx s (Writes written)) ds
KnownFrom tx s (Sends number to message ∷ ds) = KnownFrom tx (status_at tx s (Sends number to message)) ds
KnownFrom tx s (Tells reply ∷ ds) = KnownFrom tx (status_at tx s (Tells reply)) ds
KnownFrom tx s (Falls cause pending ∷ ds) = KnownFrom tx (status_at tx s (Falls cause pending)) ds
KnownFrom tx s (Rises records ∷ ds) = KnownFrom tx (status_at tx s (Rises records)) ds

-- lists of deeds one after another

pub right-append : (tx : TxId) (s : Status) (xs ys : List Deed) → AreRightFrom tx s xs
    → AreRightFrom tx (fold (status_at tx) s xs) ys → AreRightFrom tx s (xs ++ ys)
right-append tx s [] ys first second = second
right-append tx s (x ∷ xs) ys first second = (first.0, right-append tx (status_at tx s x) xs ys first.1 second)

pub known-first : (tx : TxId) (s : Status) (xs ys : List Deed) → KnownFrom tx s (xs ++ ys) → KnownFrom tx s xs
known-first tx s [] ys all = tt
known-first tx s (Takes g ∷ xs) ys all = (all.0, known-first tx s xs ys all.1)
known-first tx s (Writes written ∷ xs) ys all = known-first tx (status_at tx s (Writes written)) xs ys all
known-first tx s (Sends number to message ∷ xs) ys all =
    known-first tx (status_at tx s (Sends number to message)) xs ys all
known-first tx s (Tells reply ∷ xs) ys all = known-first tx (status_at tx s (Tells reply)) xs ys all
known-first tx s (Falls cause pending ∷ xs) ys all = known-first tx (status_at tx s (Falls cause pending)) xs ys all
known-first tx s (Rises records ∷ xs) ys all = known-first tx (status_at tx s (Rises records)) xs ys all

pub known-second : (tx : TxId) (s : Status) (xs ys : List Deed) → KnownFrom tx s (xs ++ ys)
    → KnownFrom tx (fold (status_at tx) s xs) ys
known-second tx s [] ys all = all
known-second tx s (Takes g ∷ xs) ys all = known-second tx s xs ys all.1
known-second tx s (Writes written ∷ xs) ys all = known-second tx (status_at tx s (Writes written)) xs ys all
known-second tx s (Sends number to message ∷ xs) ys all =
    known-second tx (status_at tx s (Sends number to message)) xs ys all
known-second tx s (Tells reply ∷ xs) ys all = known-second tx (status_at tx s (Tells reply)) xs ys all
known-second tx s (Falls cause pending ∷ xs) ys all = known-second tx (status_at tx s (Falls cause pending)) xs ys all
known-second tx s (Rises records ∷ xs) ys all = known-second tx (status_at tx s (Rises records)) xs ys all

pub known-append : (tx : TxId) (s : Status) (xs ys : List Deed) → KnownFrom tx s xs
    → KnownFrom tx (fold (status_at tx) s xs) ys → KnownFrom tx s (xs ++ ys)
known-append tx s [] ys first second = second
known-append tx s (Takes g ∷ xs) ys first second = (first.0, known-append tx s xs ys first.1 second)
known-append tx s (Writes written ∷ xs) ys first second =
    known-append tx (status_at tx s (Writes written)) xs ys first second
known-append tx s (Sends number to message ∷ xs) ys first second =
    known-append tx (status_at tx s (Sends number to message)) xs ys first second
known-append tx s (Tells reply ∷ xs) ys first second = known-append tx (status_at tx s (Tells reply)) xs ys first second
known-append tx s (Falls cause pending ∷ xs) ys first second =
    known-append tx (status_at tx s (Falls cause pending)) xs ys first second
known-append tx s (Rises records ∷ xs) ys first second =
    known-append tx (status_at tx s (Rises records)) xs ys first second

pub known-posts : (tx : TxId) (s : Status) (ds : List Deed) → Every IsPost ds → KnownFrom tx s ds
known-posts tx s [] all = tt
known-posts tx s (Takes g ∷ ds) all = absurd all.0
known-posts tx s (Writes written ∷ ds) all = known-posts tx (status_at tx s (Writes written)) ds all.1
known-posts tx s (Sends number to message ∷ ds) all = known-posts tx (status_at tx s (Sends number to message)) ds all.1
known-posts tx s (Tells reply ∷ ds) all = known-posts tx (status_at tx s (Tells reply)) ds all.1
known-posts tx s (Falls cause pending ∷ ds) all = known-posts tx (status_at tx s (Falls cause pending)) ds all.1
known-posts tx s (Rises records ∷ ds) all = known-posts tx (status_at tx s (Rises records)) ds all.1

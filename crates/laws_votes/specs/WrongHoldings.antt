-- Histories of one site that falls and rises, right ones and wrong ones: it was asked for a promise, or granted a Read.
use Rattle.std.specs.Prelude.{◌≡◌, ◌⊎◌, ℕ, true, false, List, [], ◌∷◌, ◌++◌, None}
use Rattle.qc_decl.specs.Vocabulary.{is_site}
use Rattle.qc_decl.specs.declared.declaration.Declaration.{Declaration}
use Rattle.qc_entry.specs.declared.record.Prepared.{Prepared}
use Rattle.laws_guarantees.specs.Vocabulary.{granted, tx}
use Rattle.laws_votes.specs.Votes.{IsCastSince}
use Rattle.qc_list.specs.Vocabulary.{In}
use Rattle.qc_msg.specs.Vocabulary.{Deed, Entry, Falls, Rises, Writes, mail, marked}
use Rattle.qc_msg.specs.declared.message.Answer.TheVariants.{Yes}
use Rattle.qc_msg.specs.declared.message.Envelope.{Envelope}
use Rattle.qc_msg.specs.declared.message.Message.TheVariants.{Answer, Decision, Request}
use Rattle.qc_msg.specs.declared.message.Outcome.TheVariants.{Aborted}
use Rattle.qc_msg.specs.declared.message.Want.TheVariants as wants
use Rattle.qc_msg.specs.declared.record.Record.{Record}
use Rattle.qc_msg.specs.declared.record.Record.TheVariants.{Done, Life, Prepare}
use Rattle.qc_msg.specs.declared.step.Fall.TheVariants.{Script}
use Rattle.qc_msg.specs.declared.step.Step.TheVariants as steps
use Rattle.qc_promise.specs.Vocabulary.{Current}

-- the site is actor 0, the client is 1
abbrev pub decl : Declaration
decl =
    record { sites = 1; clients = 1; kinds = []; objects = []; plans = []; kind_names = []; object_names = [] }

-- a transaction that the site granted a Read in its first life, and what it would promise of it

abbrev pub begun : Current
begun =
    record {
      tx = tx;
      epoch = 1;
      ops = [];
      own = [];
      read_grants = [];
      lives = record { site = 0; life = 1 } ∷ [];
      doomed = false;
    }

abbrev pub prepared : Prepared
prepared = record { tx = tx; epoch = 1; locks = record { object = 0; inv = 0 } ∷ []; own = []; lines = [] }

abbrev pub promise : Record
promise = Prepare prepared

-- entries: the client asks for a promise in this life of the site; the site records it, votes, falls, and rises

abbrev pub asks : ℕ → Entry
asks life = marked 1 (steps.Sent 0 0 (Request tx 1 life wants.Prepare))

abbrev pub records_it : Entry
records_it = marked 0 (steps.Wrote promise)

abbrev pub votes : Entry
votes = marked 0 (steps.Sent 1 1 (Answer 0 (Yes 0)))

abbrev pub falls : Entry
falls = marked 0 (steps.Fell Script None)

abbrev pub rises : List Record → Entry
rises kept = marked 0 (steps.Rose kept)

abbrev pub lives : Entry
lives = marked 0 (steps.Wrote Life)

-- it is asked, falls and rises; and then it votes

abbrev pub risen : ℕ → List Entry
risen life = asks life ∷ falls ∷ rises [] ∷ lives ∷ []

abbrev pub voting : ℕ → List Entry
voting life = asks life ∷ falls ∷ rises [] ∷ lives ∷ votes ∷ []

-- each vote of the history is one of its first entries, or cast since, in the life that its request names
abbrev pub AreCastSince : List Entry → List Entry → Type 0
AreCastSince early h = (e : Envelope) (to clock : ℕ) → In e (mail h) → is_site decl e.from ≡ true
    → e.message ≡ Answer to (Yes clock) → In e (mail early) ⊎ IsCastSince early h e.from to

-- it votes and records no promise; it votes, asked in another life; it loses the record as it rises, or keeps it

abbrev pub unrecorded : List Entry
unrecorded = asks 1 ∷ votes ∷ []

abbrev pub in_another_life : List Entry
in_another_life = asks 2 ∷ records_it ∷ votes ∷ []

abbrev pub promised : List Record → List Entry
promised kept = asks 1 ∷ records_it ∷ votes ∷ falls ∷ rises kept ∷ lives ∷ []

-- its client tells that the transaction aborted; the site takes it before it falls, or once it rose; or its records say
-- that it is done

abbrev pub tells_abort : Entry
tells_abort = marked 1 (steps.Sent 2 0 (Decision tx Aborted))

abbrev pub takes_it : Entry
takes_it = marked 0 (steps.Got 2)

abbrev pub aborted_before : List Entry
aborted_before =
    asks 1 ∷ records_it ∷ votes ∷ tells_abort ∷ takes_it ∷ falls ∷ rises (promise ∷ []) ∷ lives ∷ []

abbrev pub aborted_since : List Entry
aborted_since =
    asks 1 ∷ records_it ∷ votes ∷ tells_abort ∷ falls ∷ rises (promise ∷ []) ∷ lives ∷ takes_it ∷ []

abbrev pub finished : List Entry
finished = promised (promise ∷ Done tx 1 ∷ [])

-- deeds of the site: it granted a Read, falls, and rises with these records
abbrev pub fallen : List Record → List Deed
fallen kept = granted ++ Falls Script None ∷ Rises kept ∷ Writes Life ∷ []

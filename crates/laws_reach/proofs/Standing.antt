-- How a client stands in what it has seen, through its falls and rises: its sight agrees with the account of its deeds,
-- and with what its journal has.
use Rattle.std.proofs.Common.{◌≡◌, ℕ, Bool, true, false, cond, List, [], ◌∷◌, ◌++◌, fold, Some, None, refl, sym, ap}
use Rattle.std.proofs.Common.{◌∙◌, subst}
use Rattle.std.proofs.lemmas.List.Sums.{fold-append}
use Rattle.qc_stamp.specs.Vocabulary.{first_life}
use Rattle.qc_stamp.specs.declared.stamp.TxId.{TxId}
use Rattle.qc_list.specs.Vocabulary.{In}
use Rattle.qc_decl.specs.declared.declaration.Declaration.{Declaration}
use Rattle.qc_entry.specs.declared.record.Commit.{Commit}
use Rattle.qc_msg.specs.declared.message.Message.{Message}
use Rattle.qc_msg.specs.declared.record.Record.{Record}
use Rattle.qc_msg.specs.declared.record.Record.TheVariants as records
use Rattle.qc_msg.specs.declared.step.Input.{Input}
use Rattle.qc_msg.specs.declared.step.Input.TheVariants as inputs
use Rattle.qc_msg.specs.Vocabulary.{Answered, Deed, Requested, Rises, answer_in, request_in}
use Rattle.qc_promise.specs.Vocabulary.{Account, Journal, Sight, Status, account_at, account_of, account_sent}
use Rattle.qc_promise.specs.Vocabulary.{account_taken, answered, is_asked_for, is_begun, life_with, new_account, sees}
use Rattle.qc_promise.specs.Vocabulary.{counted, requested, sight_sent, sight_taken, waits}
use Rattle.qc_promise.specs.Seen.{granted}
use Rattle.qc_promise.specs.Status as statuses
use Rattle.laws_due.proofs.Anew.{accounts_begin_anew}
use Rattle.laws_atomic.proofs.Counted.{counts}
use Rattle.laws_atomic.proofs.Seeing.{HasCommitted, Sees}
use Rattle.laws_turns.proofs.ReadingCases.{mapped}
use Rattle.laws_reach.proofs.Making.{IsHad}
use Rattle.laws_reach.proofs.Naming.{IsNamed, SameCounts, named_as, sent_counts, taken_counts}

-- nothing is begun, asked or written
abbrev pub IsQuiet : Account → Type 0
IsQuiet d = (d.current ≡ None) × ((d.requests ≡ []) × (d.written ≡ None))

-- a record of the transaction is among these
pub record IsRecorded (tx : TxId) (rs : List Record) : Type 0 where
  pub commit : Commit
  pub listed : In (records.Commit commit) rs
  pub named : commit.tx ≡ tx

-- an account of a client's deeds
abbrev pub IsAccount : Declaration → ℕ → Account → Type 0
IsAccount decl client d = (ds : List Deed) × (account_of decl client ds ≡ d)

pub account_more : (decl : Declaration) (client : ℕ) (d : Account) → IsAccount decl client d → (x : Deed)
    → IsAccount decl client (account_at decl d x)
account_more decl client d is x = (
  is.0 ++ x ∷ [],
  fold-append (account_at decl) (new_account client) is.0 (x ∷ [])
      ∙ ap (λ (e : Account). account_at decl e x) is.1,
)

-- it is of that client
pub client_is : (decl : Declaration) (client : ℕ) (d : Account) → IsAccount decl client d → d.client ≡ client
client_is decl client d is =
    ap (λ (e : Account). e.client) (sym is.1)
    ∙ sym (ap (λ (e : Account). e.client) (fold-append (account_at decl) (new_account client) is.0 (Rises [] ∷ [])))
    ∙ ap (λ (e : Account). e.client) (accounts_begin_anew decl client is.0 [])

-- what ties the records that a client made, and its journal, to its account and its sight; while it isn't up, nor has
-- written the record of its rise, nothing goes on
pub record Keeps (decl : Declaration) (tx : TxId) (client : ℕ) (up : Bool) (d : Account) (s : Sight)
    (made : List Commit) (j : Journal) : Type 0 where
  pub account : IsAccount decl client d
  pub named : (r : Commit) → In r made → r.tx ≡ tx → IsNamed client up d.life d.count tx
  pub begun : is_begun tx s.begun ≡ true → IsNamed client up d.life d.count tx
  pub life : d.life ≡ fold life_with first_life j.records
  pub told : (x : TxId) → In x s.committed → IsRecorded x j.records
  pub known : (c : Commit) → IsHad c j → In c made
  pub written : (c : Commit) → d.written ≡ Some c → In (records.Commit c) j.records
  pub quiet : up ≡ false → IsQuiet d

-- the sight agrees with the account whatever the status; this one says least
abbrev pub done : Status
done = statuses.Committed (record { clock = 0; client = 0 })

pub record Stands (decl : Declaration) (commits : List Commit) (tx : TxId) (client : ℕ) (up : Bool) (d : Account)
    (s : Sight) (made : List Commit) (j : Journal) : Type 0 where
  pub sees : Sees commits tx d s made done
  pub keeps : Keeps decl tx client up d s made j

pub with_status : (commits : List Commit) (tx : TxId) (d : Account) (s : Sight) (made : List Commit) (st next : Status)
    → ((r : Commit) → In r made → r.tx ≡ tx → HasCommitted next)
    → Sees commits tx d s made st → Sees commits tx d s made next
with_status commits tx d s made st next ends w = record {
  begun = w.begun;
  waiting = w.waiting;
  shown = w.shown;
  committed = w.committed;
  seen = w.seen;
  before = w.before;
  ended = ends;
  stands = w.stands;
  listed = w.listed;
}

pub as_done : (commits : List Commit) (tx : TxId) (d : Account) (s : Sight) (made : List Commit) (st : Status)
    → Sees commits tx d s made st → Sees commits tx d s made done
as_done commits tx d s made st w = with_status commits tx d s made st done (λ r among its. tt) w

-- most deeds leave what is begun, and what was told

abbrev pub SameSight : Sight → Sight → Type 0
SameSight s t = (t.begun ≡ s.begun) × (t.committed ≡ s.committed)

taken_sight : (tx : TxId) (s : Sight) (g : Input) → SameSight s (sight_taken tx s g)
taken_sight tx s (inputs.Called command) = (refl, refl)
taken_sight tx s (inputs.Got e) =
    mapped (SameSight s)
    (λ (a : Answered). cond (waits s a.to) (sees tx (answered s a.to) (granted a.answer)) s) s (answer_in e.message)
    (λ a. at a (waits s a.to)) (refl, refl)
  where
    at : (a : Answered) (b : Bool) → SameSight s (cond b (sees tx (answered s a.to) (granted a.answer)) s)
    at a true = (refl, refl)
    at a false = (refl, refl)
taken_sight tx s (inputs.Lost number) = (refl, refl)

sent_sight : (s : Sight) (number : ℕ) (message : Message) → SameSight s (sight_sent s number message)
sent_sight s number message =
    mapped (SameSight s) (λ (q : Requested). record s { waiting = s.waiting ++ number ∷ [] }) s (request_in message)
    (λ q. (refl, refl)) (refl, refl)

-- and the record that was written

abbrev pub IsWrittenIn : Account → Account → Type 0
IsWrittenIn d e = (c : Commit) → e.written ≡ Some c → d.written ≡ Some c

taken_written : (d : Account) (g : Input) → IsWrittenIn d (account_taken d g)
taken_written d (inputs.Called command) c is = absurd (let never : ⊥ = cc in never)
taken_written d (inputs.Got e) c is =
    mapped (λ (x : Account). x.written ≡ Some c → d.written ≡ Some c)
    (λ (a : Answered). counted d a.to (Some a.answer)) d (answer_in e.message)
    (λ a same. sym (counts a.to d (Some a.answer)).written ∙ same) (λ same. same) is
taken_written d (inputs.Lost number) c is = sym (counts number d None).written ∙ is

sent_written : (decl : Declaration) (d : Account) (number to : ℕ) (message : Message)
    → IsWrittenIn d (account_sent decl d number to message)
sent_written decl d number to message c is =
    mapped (λ (x : Account). x.written ≡ Some c → d.written ≡ Some c)
    (λ (q : Requested). requested decl d number to q.tx q.epoch q.life q.want) d (request_in message)
    (λ q. by q (is_asked_for decl d to q.tx q.epoch q.life q.want)) (λ same. same) is
  where
    by : (q : Requested) (b : Bool)
        → (cond b (record d {
          requests = d.requests
              ++ record { number = number; site = to; life = q.life; want = q.want; taken = None } ∷ [];
        }) d).written ≡ Some c
        → d.written ≡ Some c
    by q true same = same
    by q false same = same

pub up_not : {X : Type 0} → true ≡ false → X
up_not is = absurd (let never : ⊥ = cc in never)

-- so they keep that

module _ (decl : Declaration) (tx : TxId) (client : ℕ) (d : Account) (s : Sight) (made : List Commit) (j : Journal)
    (k : Keeps decl tx client true d s made j) where
  pub keeps_on : (e : Account) (t : Sight) → IsAccount decl client e → SameCounts d e
      → (is_begun tx t.begun ≡ true → is_begun tx s.begun ≡ true)
      → ((x : TxId) → In x t.committed → IsRecorded x j.records)
      → IsWrittenIn d e → Keeps decl tx client true e t made j
  keeps_on e t account same begun told written = record {
    account = account;
    named = λ r among its. named_as client tx true d.life d.count e.life e.count same.0 same.1 (k.named r among its);
    begun = λ is. named_as client tx true d.life d.count e.life e.count same.0 same.1 (k.begun (begun is));
    life = same.0 ∙ k.life;
    told = told;
    known = k.known;
    written = λ c is. k.written c (written c is);
    quiet = λ is. up_not is;
  }

  pub keeps_so : (e : Account) (t : Sight) → IsAccount decl client e → SameCounts d e → SameSight s t → IsWrittenIn d e
      → Keeps decl tx client true e t made j
  keeps_so e t account same sight written =
      keeps_on e t account same (λ is. ap (is_begun tx) (sym sight.0) ∙ is)
      (λ x among. k.told x (subst (λ (xs : List TxId). In x xs) sight.1 among)) written

  pub taken_keeps : (g : Input) → IsAccount decl client (account_taken d g)
      → Keeps decl tx client true (account_taken d g) (sight_taken tx s g) made j
  taken_keeps g account = keeps_so (account_taken d g) (sight_taken tx s g) account (taken_counts d g)
      (taken_sight tx s g) (taken_written d g)

  pub sent_keeps : (number to : ℕ) (message : Message) → IsAccount decl client (account_sent decl d number to message)
      → Keeps decl tx client true (account_sent decl d number to message) (sight_sent s number message) made j
  sent_keeps number to message account =
      keeps_so (account_sent decl d number to message) (sight_sent s number message) account
      (sent_counts decl d number to message) (sent_sight s number message) (sent_written decl d number to message)

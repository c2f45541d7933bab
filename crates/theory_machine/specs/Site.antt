-- A site, read off what it did: its volatile log, the log that its records give, what transactions hold, and its
-- promises. Logs are sets here: a line may stand twice, and in any order.
use Rattle.std.specs.Prelude.{ℕ, Bool, true, false, if◌then◌else◌, List, [], ◌∷◌, ◌++◌, Option, Some, None}
use Rattle.qc_stamp.specs.declared.stamp.Stamp.{Stamp}
use Rattle.qc_stamp.specs.declared.stamp.TxId.{TxId}
use Rattle.qc_entry.specs.declared.line.Line.{Line}
use Rattle.qc_entry.specs.declared.line.OwnLine.{OwnLine}
use Rattle.qc_entry.specs.declared.line.ReadLock.{ReadLock}
use Rattle.theory_onecopy.specs.Vocabulary.{committed_line}
use Rattle.qc_stamp.specs.Vocabulary.{same_tx}

-- what a transaction holds
pub data Item : Type 0 where
  Lock : (lock : ReadLock) → Item
  Own : (own : OwnLine) → Item

pub record Held : Type 0 where
  pub tx : TxId
  pub item : Item

-- a Prepare record
pub record Promise : Type 0 where
  pub tx : TxId
  pub items : List Item

pub data Deed : Type 0 where
  Grants : (tx : TxId) (items : List Item) (view : List Line) → Deed  -- a Read or an Append
  Prepares : (tx : TxId) → Deed  -- a Prepare record is written
  LearnsCommit : (tx : TxId) (stamp : Stamp) → Deed  -- a verdict: it committed
  LearnsAbort : (tx : TxId) → Deed  -- a verdict: it aborted
  Closes : Deed  -- a Close record
  Installs : (epoch clock : ℕ) (log : List Line) → Deed  -- an Install record
  Rises : Deed

pub record Site : Type 0 where
  pub volatile : List Line
  pub stable : List Line
  pub held : List Held
  -- the promises by which transactions are prepared now
  pub prepared : List Promise
  -- the Prepare records after the last Install, without a Done: the last of each transaction
  pub promises : List Promise

abbrev pub each_held : TxId → List Item → List Held
each_held tx [] = []
each_held tx (x ∷ xs) = record { tx = tx; item = x } ∷ each_held tx xs

-- what tx holds
abbrev pub items_of : TxId → List Held → List Item
items_of tx [] = []
items_of tx (h ∷ hs) = if same_tx tx h.tx then h.item ∷ items_of tx hs else items_of tx hs

abbrev pub without_tx : TxId → List Held → List Held
without_tx tx [] = []
without_tx tx (h ∷ hs) = if same_tx tx h.tx then without_tx tx hs else h ∷ without_tx tx hs

abbrev pub without_promise : TxId → List Promise → List Promise
without_promise tx [] = []
without_promise tx (p ∷ ps) = if same_tx tx p.tx then without_promise tx ps else p ∷ without_promise tx ps

abbrev pub promise_of : TxId → List Promise → Option Promise
promise_of tx [] = None
promise_of tx (p ∷ ps) = if same_tx tx p.tx then Some p else promise_of tx ps

abbrev pub held_by_promises : List Promise → List Held
held_by_promises [] = []
held_by_promises (p ∷ ps) = each_held p.tx p.items ++ held_by_promises ps

-- the own lines with a stamp
abbrev pub stamped_lines : TxId → Stamp → List Item → List Line
stamped_lines tx stamp [] = []
stamped_lines tx stamp (Lock l ∷ xs) = stamped_lines tx stamp xs
stamped_lines tx stamp (Own o ∷ xs) = committed_line stamp tx o ∷ stamped_lines tx stamp xs

abbrev pub after_prepare : TxId → Option Promise → Site → Site
after_prepare tx (Some p) s = s
after_prepare tx None s =
    let p : Promise = record { tx = tx; items = items_of tx s.held } in
    record s { stable = s.volatile; prepared = p ∷ s.prepared; promises = p ∷ without_promise tx s.promises }

abbrev pub after_commit : TxId → Stamp → Option Promise → Site → Site
after_commit tx stamp (Some p) s = record {
  volatile = stamped_lines tx stamp p.items ++ s.volatile;
  stable = stamped_lines tx stamp p.items ++ s.stable;
  held = without_tx tx s.held;
  prepared = without_promise tx s.prepared;
  promises = without_promise tx s.promises;
}
after_commit tx stamp None s = record s { held = without_tx tx s.held }

abbrev pub after_deed : Site → Deed → Site
after_deed s (Grants tx items view) = record s { volatile = view ++ s.volatile; held = each_held tx items ++ s.held }
after_deed s (Prepares tx) = after_prepare tx (promise_of tx s.prepared) s
after_deed s (LearnsCommit tx stamp) = after_commit tx stamp (promise_of tx s.prepared) s
after_deed s (LearnsAbort tx) = record s { held = without_tx tx s.held; prepared = without_promise tx s.prepared }
after_deed s Closes = record s { held = held_by_promises s.prepared }
after_deed s (Installs k c log) = record { volatile = log; stable = log; held = []; prepared = []; promises = [] }
after_deed s Rises = record s { volatile = s.stable; held = held_by_promises s.promises; prepared = s.promises }

-- oldest first
abbrev pub site_from : Site → List Deed → Site
site_from s [] = s
site_from s (d ∷ ds) = site_from (after_deed s d) ds

abbrev pub empty_site : Site
empty_site = record { volatile = []; stable = []; held = []; prepared = []; promises = [] }

abbrev pub site_after : List Deed → Site
site_after ds = site_from empty_site ds

-- the Done records that the deeds wrote
pub record DoneRecord : Type 0 where
  pub tx : TxId
  pub stamp : Stamp

abbrev pub done_record : TxId → Stamp → Option Promise → List DoneRecord
done_record tx stamp None = []
done_record tx stamp (Some p) = record { tx = tx; stamp = stamp } ∷ []

abbrev pub done_records : Site → List Deed → List DoneRecord
done_records s [] = []
done_records s (LearnsCommit tx stamp ∷ ds) =
    done_record tx stamp (promise_of tx s.prepared) ++ done_records (after_deed s (LearnsCommit tx stamp)) ds
done_records s (d ∷ ds) = done_records (after_deed s d) ds

-- the epoch that is installed after deeds, and whether the site has closed and not installed since
abbrev pub epoch_from : ℕ → List Deed → ℕ
epoch_from e [] = e
epoch_from e (Installs k c log ∷ ds) = epoch_from k ds
epoch_from e (_ ∷ ds) = epoch_from e ds

abbrev pub shut_from : Bool → List Deed → Bool
shut_from b [] = b
shut_from b (Closes ∷ ds) = shut_from true ds
shut_from b (Installs k c log ∷ ds) = shut_from false ds
shut_from b (_ ∷ ds) = shut_from b ds

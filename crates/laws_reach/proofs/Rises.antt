-- What had been written of a transaction shows that it committed, and so it rises rightly.
use Rattle.std.proofs.Common.{◌≡◌, ◌⊎◌, Bool, true, cond, List, [], ◌∷◌, ◌++◌, fold, Option, Some, None, option_to_list}
use Rattle.std.proofs.Common.{inl, inr, sym, ap, ◌∙◌, subst}
use Rattle.std.specs.Prelude.{MatchOption}
use Rattle.std.specs.Option.{option_map_or}
use Rattle.qc_entry.specs.declared.record.Commit.{Commit}
use Rattle.std.specs.List.{AllByRecursion as Every}
use Rattle.std.proofs.lemmas.List.Sums.{fold-append}
use Rattle.qc_core.specs.Vocabulary.{AreGivenBack, IsGivenBackAt, journal_at}
use Rattle.qc_list.proofs.Members.{every-append, every-weaker}
use Rattle.qc_msg.specs.declared.record.Record.{Record}
use Rattle.qc_msg.specs.Vocabulary.{Deed, Falls, Rises, Sends, Takes, Tells, Writes, commit_of}
use Rattle.qc_promise.specs.Vocabulary.{AreRight, AreRightFrom, AreRightKept, Begun, Committed, IsRight, IsRightKept}
use Rattle.qc_promise.specs.Vocabulary.{IsRightRecord, Journal, Status, Unborn, given_up, no_journal, status_at}
use Rattle.qc_promise.specs.Vocabulary.{status_written}
use Rattle.laws_turns.proofs.Lasting.{HasEnd, ended_on}
use Rattle.laws_turns.proofs.ReadingCases.{matched_by}
use Rattle.qc_stamp.specs.declared.stamp.Stamp.{Stamp}
use Rattle.qc_stamp.specs.declared.stamp.TxId.{TxId}
use Rattle.qc_stamp.specs.Vocabulary.{same_tx}
use Rattle.laws_reach.specs.Vocabulary.{AreRightButWritten, IsRightButWritten}

module _ (tx : TxId) where
  -- a record shows how its transaction stands

  abbrev pub IsShown : Status → Record → Type 0
  IsShown s w =
      MatchOption (commit_of w) (Unit {0}) (λ (c : Commit). same_tx c.tx tx ≡ true → s ≡ Committed c.stamp)

  stays : (s : Status) (stamp : Stamp) (d : Deed) → IsRight tx s d → s ≡ Committed stamp
      → status_at tx s d ≡ Committed stamp
  stays s stamp d right is = ended_on tx s (d ∷ []) (subst (HasEnd tx) (sym is) tt) (right, tt) ∙ is

  shown_on : (s : Status) (d : Deed) → IsRight tx s d → (w : Record) → IsShown s w → IsShown (status_at tx s d) w
  shown_on s d right w is =
      matched_by (Unit {0}) (Unit {0}) (λ (c : Commit). same_tx c.tx tx ≡ true → s ≡ Committed c.stamp)
      (λ (c : Commit). same_tx c.tx tx ≡ true → status_at tx s d ≡ Committed c.stamp) (commit_of w)
      (λ c is same. stays s c.stamp d right (is same)) (λ none. none) is

  written_shown : (s : Status) (w : Record) → IsShown (status_written tx s w) w
  written_shown s w = by (commit_of w)
    where
      by : (o : Option Commit) → MatchOption o (Unit {0}) (λ (c : Commit). same_tx c.tx tx ≡ true
          → option_map_or (λ (e : Commit). cond (same_tx e.tx tx) (Committed e.stamp) s) o s ≡ Committed c.stamp)
      by None = tt
      by (Some c) = λ same. ap (λ (t : Bool). cond t (Committed c.stamp) s) same

  -- so it rises rightly, and one that is of a begun transaction does

  shown_right : (s : Status) (w : Record) → IsShown s w → IsRightKept tx s w
  shown_right s w is =
      matched_by (Unit {0}) (Unit {0}) (λ (c : Commit). same_tx c.tx tx ≡ true → s ≡ Committed c.stamp)
      (λ (c : Commit). same_tx c.tx tx ≡ true → (s ≡ Begun) ⊎ (s ≡ Committed c.stamp)) (commit_of w)
      (λ c is same. inr (is same)) (λ none. none) is

  begun_right : (s : Status) (w : Record) → IsRightRecord tx s w → IsRightKept tx s w
  begun_right s w is =
      matched_by (Unit {0}) (Unit {0}) (λ (c : Commit). same_tx c.tx tx ≡ true → s ≡ Begun)
      (λ (c : Commit). same_tx c.tx tx ≡ true → (s ≡ Begun) ⊎ (s ≡ Committed c.stamp)) (commit_of w)
      (λ c is same. inl (is same)) (λ none. none) is

  -- after a deed that is right the records that were written still show it

  later : (s : Status) (d : Deed) (rs : List Record) → IsRight tx s d → Every (IsShown s) rs
      → Every (IsShown (status_at tx s d)) rs
  later s d rs right shown = every-weaker (IsShown s) (IsShown (status_at tx s d)) (shown_on s d right) rs shown

  abbrev pub Goes : Status → Journal → Deed → Type 0
  Goes s j d = IsRight tx s d × Every (IsShown (status_at tx s d)) (journal_at j d).records

  -- a rise

  whole_right : (s : Status) (rs : List Record) (o : Option Record) → Every (IsShown s) rs
      → Every (IsRightRecord tx s) (option_to_list o) → AreRightKept tx s (rs ++ option_to_list o)
  whole_right s rs o shown begun =
      every-append (IsRightKept tx s) rs (option_to_list o)
      (every-weaker (IsShown s) (IsRightKept tx s) (shown_right s) rs shown)
      (every-weaker (IsRightRecord tx s) (IsRightKept tx s) (begun_right s) (option_to_list o) begun)

  last_shown : (s : Status) (rs : List Record) (o : Option Record)
      → Every (IsShown (fold (status_written tx) s (rs ++ option_to_list o))) (option_to_list o)
  last_shown s rs None = tt
  last_shown s rs (Some w) = (
    subst (λ (v : Status). IsShown v w) (sym (fold-append (status_written tx) s rs (w ∷ [])))
        (written_shown (fold (status_written tx) s rs) w),
    tt,
  )

  with_pending : (s : Status) (j : Journal) → Every (IsShown s) j.records
      → Every (IsRightRecord tx s) (option_to_list j.pending) → Goes s j (Rises (j.records ++ option_to_list j.pending))
  with_pending s j shown begun =
      let right : AreRightKept tx s (j.records ++ option_to_list j.pending) =
      whole_right s j.records j.pending shown begun in (
        right,
        every-append (IsShown (status_at tx s (Rises (j.records ++ option_to_list j.pending)))) j.records
            (option_to_list j.pending)
            (later s (Rises (j.records ++ option_to_list j.pending)) j.records right shown)
            (last_shown (given_up s) j.records j.pending),
      )

  without_pending : (s : Status) (j : Journal) → Every (IsShown s) j.records → Goes s j (Rises j.records)
  without_pending s j shown =
      let right : AreRightKept tx s j.records =
      every-weaker (IsShown s) (IsRightKept tx s) (shown_right s) j.records shown in
      (right, later s (Rises j.records) j.records right shown)

  -- each deed

  pub goes : (s : Status) (j : Journal) (d : Deed) → Every (IsShown s) j.records → IsGivenBackAt j d
      → IsRightButWritten tx s j d → Goes s j d
  goes s j (Takes given) shown back right = (tt, shown)
  goes s j (Writes written) shown back right = (
    right,
    every-append (IsShown (status_written tx s written)) j.records (written ∷ [])
        (later s (Writes written) j.records right shown) (written_shown s written, tt),
  )
  goes s j (Sends number to message) shown back right = (right, later s (Sends number to message) j.records right shown)
  goes s j (Tells reply) shown back right = (right, later s (Tells reply) j.records right shown)
  goes s j (Falls cause pending) shown back right = (tt, shown)
  goes s j (Rises rs) shown (inl same) right =
      subst (λ (x : List Record). Goes s j (Rises x)) (sym same) (without_pending s j shown)
  goes s j (Rises rs) shown (inr more) right =
      subst (λ (x : List Record). Goes s j (Rises x)) (sym more) (with_pending s j shown right)

  pub all_right : (s : Status) (j : Journal) (ds : List Deed) → Every (IsShown s) j.records → AreGivenBack j ds
      → AreRightButWritten tx s j ds
      → AreRightFrom tx s ds × Every (IsShown (fold (status_at tx) s ds)) (fold journal_at j ds).records
  all_right s j [] shown back right = (tt, shown)
  all_right s j (d ∷ ds) shown back right =
      let one : Goes s j d = goes s j d shown back.0 right.0 in
      let rest : AreRightFrom tx (status_at tx s d) ds
      × Every (IsShown (fold (status_at tx) (status_at tx s d) ds)) (fold journal_at (journal_at j d) ds).records =
      all_right (status_at tx s d) (journal_at j d) ds one.1 back.1 right.1 in
      ((one.0, rest.0), rest.1)

pub what_was_written_rises_rightly : (tx : TxId) (ds : List Deed) → AreGivenBack no_journal ds
    → AreRightButWritten tx Unborn no_journal ds → AreRight tx ds
what_was_written_rises_rightly tx ds back right = (all_right tx Unborn no_journal ds tt back right).0

-- What is in order at a site stays so.
use Rattle.std.proofs.Common.{ℕ, ◌==◌, ◌&&◌, not, Bool, true, false, cond, List, [], ◌∷◌, ◌++◌, fold, filter, length}
use Rattle.std.proofs.Common.{Some, subst}
use Rattle.qc_list.specs.Vocabulary.{Ascends}
use Rattle.qc_list.proofs.Order.{ascends-filter}
use Rattle.qc_stamp.specs.declared.stamp.Stamp.{Stamp}
use Rattle.qc_stamp.specs.declared.stamp.TxId.{TxId}
use Rattle.qc_stamp.specs.Vocabulary.{same_tx}
use Rattle.qc_entry.specs.declared.line.Line.{Line}
use Rattle.qc_entry.specs.declared.line.OwnLine.{OwnLine}
use Rattle.qc_entry.specs.declared.line.ReadLock.{ReadLock}
use Rattle.qc_entry.specs.declared.record.Prepared.{Prepared}
use Rattle.qc_entry.specs.Vocabulary.{IsAscending, has_line, line_cmp, without}
use Rattle.qc_entry.proofs.Union.{ascending-union}
use Rattle.qc_decl.specs.declared.declaration.Declaration.{Declaration}
use Rattle.qc_lock.specs.declared.held.Held.{Held}
use Rattle.qc_lock.specs.Vocabulary.{IsSound, held_of, lock_cmp, own_cmp, with_entry, with_held, with_locks, with_owns}
use Rattle.qc_lock.proofs.Entries.{entry_some}
use Rattle.qc_lock.proofs.Order.{ascends-locks, ascends-owns, sorted-find, sound-put, sound-without}
use Rattle.qc_msg.specs.declared.message.Message.{Message}
use Rattle.qc_msg.specs.declared.step.Input.{Input}
use Rattle.qc_msg.specs.declared.step.Input.TheVariants as inputs
use Rattle.qc_msg.specs.Vocabulary.{Deed, Falls, Rises, Sends, Takes, Tells, Writes, quiet}
use Rattle.qc_site.specs.Vocabulary.{AreDeedsSorted, ArePromisesSorted, IsGivenSorted, IsMessageSorted, IsSiteSorted}
use Rattle.qc_site.specs.Vocabulary.{SiteMove, SiteState, dropped, holds, joins, lines_of, moved, new_site, passed}
use Rattle.qc_site.specs.Vocabulary.{promise_of, promised, site_after, site_at, site_does, site_on, site_takes, stamped}
use Rattle.qc_site.specs.Vocabulary.{with_stamped}
use Rattle.qc_site.proofs.RequestCases.{choose}
use Rattle.qc_site.proofs.Cases.{state_cases}

-- what is held, with something given to a transaction
pub sound-held : (held : List Held) (tx : TxId) (locks : List ReadLock) (own : List OwnLine) → IsSound held
    → IsSound (with_held held tx locks own)
sound-held held tx locks own sound =
    let entry = sorted-find held tx sound.sorted in
    choose IsSound ((length locks == 0) && (length own == 0)) held
    (with_entry held (record {
      tx = tx;
      locks = with_locks (held_of held tx).locks locks;
      own = with_owns (held_of held tx).own own;
    }))
    (λ none. sound)
    (λ some. sound-put held (record {
      tx = tx;
      locks = with_locks (held_of held tx).locks locks;
      own = with_owns (held_of held tx).own own;
    }) sound
    (entry_some (held_of held tx).locks locks (held_of held tx).own own some)
    (ascends-locks (held_of held tx).locks locks entry.0) (ascends-owns (held_of held tx).own own entry.1))

-- promises

pub promises-push : (ps : List Prepared) (p : Prepared) → ArePromisesSorted ps → Ascends lock_cmp p.locks
    → Ascends own_cmp p.own → IsAscending p.lines → ArePromisesSorted (ps ++ p ∷ [])
promises-push [] p sorted locks own lines = (locks, own, lines, tt)
promises-push (q ∷ qs) p sorted locks own lines =
    (sorted.0, sorted.1, sorted.2, promises-push qs p sorted.3 locks own lines)

pub promises-filter : (test : Prepared → Bool) (ps : List Prepared) → ArePromisesSorted ps
    → ArePromisesSorted (filter test ps)
promises-filter test [] sorted = tt
promises-filter test (p ∷ ps) sorted = by (test p) (promises-filter test ps sorted.3)
  where
    by : (t : Bool) → ArePromisesSorted (filter test ps)
        → ArePromisesSorted (cond t (p ∷ filter test ps) (filter test ps))
    by true rest = (sorted.0, sorted.1, sorted.2, rest)
    by false rest = rest

-- the lines of own lines

pub ascending-stamped : (stamp : Stamp) (tx : TxId) (lines : List Line) (own : List OwnLine) → IsAscending lines
    → IsAscending (fold (with_stamped stamp tx) lines own)
ascending-stamped stamp tx lines [] ascending = ascending
ascending-stamped stamp tx lines (o ∷ os) ascending =
    ascending-stamped stamp tx (with_stamped stamp tx lines o) os
    (ascending-union lines (stamped stamp tx o ∷ []) ascending (tt, tt))

pub ascending-without : (lines others : List Line) → IsAscending lines → IsAscending (without lines others)
ascending-without lines others ascending =
    ascends-filter line_cmp (λ (l : Line). not (has_line others l)) lines ascending

-- what promises hold
pub held-sound : (held : List Held) (ps : List Prepared) → IsSound held → IsSound (fold holds held ps)
held-sound held [] sound = sound
held-sound held (p ∷ ps) sound = held-sound (holds held p) ps (sound-held held p.tx p.locks p.own sound)

-- each change

promised-sorted : (s : SiteState) (tx : TxId) → IsSiteSorted s → IsSiteSorted (promised s (promise_of s tx))
promised-sorted s tx w =
    let entry = sorted-find s.held tx w.held.sorted in
    let lines : IsAscending (promise_of s tx).lines =
    ascends-filter line_cmp (λ (l : Line). not (has_line s.recorded l)) s.log w.log in
    record {
      began = w.began;
      log = w.log;
      recorded = ascending-union s.recorded (promise_of s tx).lines w.recorded lines;
      held = w.held;
      prepared = promises-push s.prepared (promise_of s tx) w.prepared entry.0 entry.1 lines;
    }

dropped-sorted : (s : SiteState) (tx : TxId) → IsSiteSorted s → IsSiteSorted (dropped s tx)
dropped-sorted s tx w = record {
  began = w.began;
  log = w.log;
  recorded = w.recorded;
  held = sound-without s.held tx w.held;
  prepared = promises-filter (λ (p : Prepared). not (same_tx p.tx tx)) s.prepared w.prepared;
}

joined-sorted : (s : SiteState) (tx : TxId) (stamp : Stamp) (p : Prepared) → IsSiteSorted s
    → IsSiteSorted (joins s tx stamp (Some p)).site
joined-sorted s tx stamp p w =
    let rest : IsSiteSorted (dropped s tx) = dropped-sorted s tx w in
    let lines : IsAscending (without (lines_of stamp tx p.own) s.began) =
    ascending-without (lines_of stamp tx p.own) s.began (ascending-stamped stamp tx [] p.own tt) in
    record {
      began = w.began;
      log = ascending-union s.log (without (lines_of stamp tx p.own) s.began) w.log lines;
      recorded = ascending-union s.recorded (without (lines_of stamp tx p.own) s.began) w.recorded lines;
      held = rest.held;
      prepared = rest.prepared;
    }

sorted_at : (decl : Declaration) (s : SiteState) (from number : ℕ) (message : Message) → IsSiteSorted s
    → IsMessageSorted message → IsSiteSorted (site_at decl s from number message).site
sorted_at decl s from number message w sorted =
    state_cases IsSiteSorted decl s from number message w
    (λ tx epoch life r is. record {
      began = w.began;
      log = w.log;
      recorded = w.recorded;
      held = sound-held s.held tx (record { object = r.object; inv = r.inv } ∷ []) [] w.held;
      prepared = w.prepared;
    })
    (λ tx epoch life object view own is.
    let ascending : IsAscending view = subst IsMessageSorted is sorted in
    record {
      began = w.began;
      log = ascending-union s.log (without view s.began) w.log (ascending-without view s.began ascending);
      recorded = w.recorded;
      held = sound-held s.held tx [] own w.held;
      prepared = w.prepared;
    })
    (λ tx. promised-sorted s tx w) (λ tx verdict is final. dropped-sorted s tx w)
    (λ tx stamp p is. joined-sorted s tx stamp p w)
    (λ k is. record {
      began = w.began;
      log = w.log;
      recorded = w.recorded;
      held = held-sound [] s.prepared (record { single = tt; full = tt; sorted = tt });
      prepared = w.prepared;
    })
    (λ k clock lines is later. record {
      began = subst IsMessageSorted is sorted;
      log = tt;
      recorded = tt;
      held = record { single = tt; full = tt; sorted = tt };
      prepared = tt;
    })

pub stays_sorted : (decl : Declaration) (s : SiteState) (from number : ℕ) (message : Message) → IsSiteSorted s
    → IsMessageSorted message → IsSiteSorted (site_on decl s from number message).site
stays_sorted decl s from number message w sorted =
    sorted_at decl (passed s message) from number message
    (record { began = w.began; log = w.log; recorded = w.recorded; held = w.held; prepared = w.prepared }) sorted

-- all deeds

takes-sorted : (decl : Declaration) (s : SiteState) (g : Input) → IsSiteSorted s → IsGivenSorted g
    → IsSiteSorted (site_takes decl s g).site
takes-sorted decl s (inputs.Called command) w sorted = w
takes-sorted decl s (inputs.Got e) w sorted = stays_sorted decl s e.from e.number e.message w sorted
takes-sorted decl s (inputs.Lost number) w sorted = w

deeds-sorted : (decl : Declaration) (m : SiteMove) (ds : List Deed) → IsSiteSorted m.site → AreDeedsSorted ds
    → IsSiteSorted (fold (site_does decl) m ds).site
deeds-sorted decl m [] w sorted = w
deeds-sorted decl m (Takes g ∷ ds) w sorted =
    deeds-sorted decl (site_takes decl m.site g) ds (takes-sorted decl m.site g w sorted.0) sorted.1
deeds-sorted decl m (Writes written ∷ ds) w sorted = deeds-sorted decl m ds w sorted
deeds-sorted decl m (Sends number to message ∷ ds) w sorted = deeds-sorted decl m ds w sorted
deeds-sorted decl m (Tells reply ∷ ds) w sorted = deeds-sorted decl m ds w sorted
deeds-sorted decl m (Falls cause pending ∷ ds) w sorted = deeds-sorted decl m ds w sorted
deeds-sorted decl m (Rises records ∷ ds) w sorted = deeds-sorted decl m ds w sorted

pub after_sorted : (decl : Declaration) (number : ℕ) (ds : List Deed) → AreDeedsSorted ds
    → IsSiteSorted (site_after decl number ds).site
after_sorted decl number ds sorted =
    deeds-sorted decl (moved (new_site number) quiet) ds
    (record {
      began = tt;
      log = tt;
      recorded = tt;
      held = record { single = tt; full = tt; sorted = tt };
      prepared = tt;
    }) sorted

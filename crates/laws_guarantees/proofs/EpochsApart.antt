-- Of two operations in different epochs, one of which depends on the other: the earlier transaction had committed
-- before the next epoch was decided, so the later one's sites have its line, or have passed its stamp.
use Rattle.std.proofs.Common.{◌≡◌, ℕ, ◌<◌, ◌≤◌, IsTrue, inl, List, ◌∷◌, Some, refl, sym, ap, ◌∙◌, subst, arith}
use Rattle.qc_stamp.specs.declared.stamp.TxId.{TxId}
use Rattle.qc_list.specs.Vocabulary.{In}
use Rattle.qc_plan.specs.Vocabulary.{weight}
use Rattle.qc_decl.specs.declared.declaration.Declaration.{Declaration}
use Rattle.qc_decl.specs.Vocabulary.{IsAccepted, append_need_of, read_need_of}
use Rattle.theory_onecopy.specs.Vocabulary.{Executed, committed_line, own_line}
use Rattle.theory_machine.specs.Vocabulary.{Act, Granted, Grants, HasGranted, IsDependedOn, IsOutcome, IsReadAt, IsRun}
use Rattle.theory_machine.specs.Vocabulary.{Lock, LogLaws, Own, StateLaws, Status, read_lock, site_after, state}
use Rattle.theory_machine.specs.Vocabulary.{weights_of}
use Rattle.theory_machine.proofs.Decided.{IsOfEpoch, kept_lines, of_epoch, passed_stamps, positive}
use Rattle.theory_machine.proofs.Keeps.{laws}
use Rattle.theory_machine.proofs.LogKeeps.{log_laws}
use Rattle.theory_machine.proofs.Quorums.{closed_last, closed_read, needed, read_needed, some_site}
use Rattle.laws_guarantees.proofs.Paired.{ArePaired, IsPassed, IsSeen}
use Rattle.laws_guarantees.proofs.Settled.{HasCommitted, IsSafe, decided_next, settled}

module _ (decl : Declaration) (accepted : IsAccepted decl) (acts : List Act) (run : IsRun decl acts) where
  wl : StateLaws decl (state acts)
  wl = laws decl acts run

  ll : LogLaws decl (state acts)
  ll = log_laws decl accepted acts run

  -- a grant of a later epoch comes behind an Install of its decision; the epoch of the other transaction was closed,
  -- by sites that meet its quorum: so this had committed
  of_later : (g : Granted) → In g (state acts).counted → (tx : TxId) → g.tx ≡ tx → 1 < (state acts).epoch tx
      → IsOfEpoch decl accepted acts run g.before ((state acts).epoch tx)
  of_later g counts tx its more =
      let law = wl.counted g counts in
      of_epoch decl accepted acts run g.site ((state acts).epoch tx) g.before
      (Grants g.tx g.items g.view ∷ law.post) law.split
      ((wl.facts g (wl.known g counts)).current ∙ wl.counts_epoch g counts ∙ ap (state acts).epoch its) more

  module _ (v u : TxId) (dv du : Executed) (pair : ArePaired decl accepted acts v u dv du) where
    open pair use {av, au, dep, enough_u, heavy_u, heavy_v, hu, hv, object, on, rv, some, su, sv, within, writes}

    -- the writer's epoch came first: the reader's site has its line
    module _ (less : (state acts).epoch u < (state acts).epoch v) where
      read_at : (site : ℕ) × IsTrue (rv.met.sites site)
      read_at =
          let need : 0 < read_need_of decl ((state acts).epoch v) dv.op.object dv.op.inv =
          read_needed decl accepted ((state acts).epoch v) dv.op.object dv.op.inv du.event heavy_v in
          let enough : read_need_of decl ((state acts).epoch v) dv.op.object dv.op.inv ≤ weight rv.met.sites
          (weights_of decl ((state acts).epoch v)) = rv.met.enough in
          some_site decl accepted (weights_of decl ((state acts).epoch v)) rv.met.sites (omega arith)

      reader : IsReadAt (state acts).counted v read_at.0 dv
      reader = rv.met.each read_at.0 read_at.1

      writer_some : 0 < (state acts).epoch u
      writer_some = positive decl accepted acts run u (ll.begun u du (inl hu))

      o_v : IsOfEpoch decl accepted acts run reader.grant.before ((state acts).epoch v)
      o_v = let some_epoch : 0 < (state acts).epoch u = writer_some in
          of_later reader.grant reader.counts v reader.its (omega arith)

      below_v : (state acts).epoch u < o_v.by.epoch
      below_v = let is : o_v.by.epoch ≡ (state acts).epoch v = o_v.epoch in omega arith

      writer_committed : HasCommitted decl accepted acts run u
      writer_committed =
          let x = decided_next decl accepted acts run o_v.by.epoch o_v.by (omega arith) o_v.stands
          ((state acts).epoch u) writer_some below_v dv.op.object du.event on in
          let made = wl.made x.0 x.1 in
          let s = closed_last decl accepted ((state acts).epoch u) dv.op.object dv.op.inv du.event made.plan made.sites
          writes.sites (made.planned ((state acts).epoch u) x.2) heavy_u made.closes enough_u in
          let g = writes.each s.site s.second in
          let sn = made.each s.site s.first in
          let c = settled decl accepted acts run x.0 ((state acts).epoch u) x.1 x.2 g.grant
          (Own (own_line du)) g.counts g.has (wl.counts_epoch g.grant g.counts ∙ ap (state acts).epoch g.its)
          (λ e. au (ap (state acts).status (sym g.its) ∙ e)) (subst (IsSafe acts) (sym g.its) su) sn.0 sn.1
          (sn.2 ∙ sym g.from) in (c.0, ap (state acts).status (sym g.its) ∙ c.1)

      pub reader_sees_it : IsSeen decl accepted acts run v u dv du
      reader_sees_it =
          let c = writer_committed in
          let line : In (committed_line c.0.stamp u (own_line du)) o_v.by.log =
          kept_lines decl accepted acts run o_v.by.epoch o_v.by (omega arith) o_v.stands u c.0 du c.1 hu some
          (subst (λ (x : ℕ). IsDependedOn decl x du.event) (sym object) on) below_v in
          let there : In (committed_line c.0.stamp u (own_line du)) (site_after reader.grant.before).volatile =
          o_v.log_stays (committed_line c.0.stamp u (own_line du)) line in
          record {
            stamp = c.0.stamp;
            outcome = subst (λ (s : Status). IsOutcome s (Some c.0.stamp)) (sym c.1) refl;
            line = reader.seen (committed_line c.0.stamp u (own_line du))
                (record { stands = there; lock = read_lock dv.op; granted = reader.has; on = sym object }) object;
            grant = reader.grant;
            counts = reader.counts;
            its = reader.its;
            low = (wl.facts reader.grant (wl.known reader.grant reader.counts)).passes_lines
                (committed_line c.0.stamp u (own_line du)) there;
          }

    -- the reader's epoch came first: the clock of the writer's site has passed its stamp
    module _ (less : (state acts).epoch v < (state acts).epoch u) where
      written_at : (site : ℕ) × IsTrue (writes.sites site)
      written_at =
          let need : 0 < append_need_of decl ((state acts).epoch u) dv.op.object du.event =
          needed decl accepted ((state acts).epoch u) dv.op.object dv.op.inv du.event heavy_u in
          let enough : append_need_of decl ((state acts).epoch u) dv.op.object du.event ≤ weight writes.sites
          (weights_of decl ((state acts).epoch u)) = enough_u in
          some_site decl accepted (weights_of decl ((state acts).epoch u)) writes.sites (omega arith)

      writer : HasGranted (state acts).counted u written_at.0 (Own (own_line du))
      writer = writes.each written_at.0 written_at.1

      reader_some : 0 < (state acts).epoch v
      reader_some = positive decl accepted acts run v (ll.begun v dv (inl hv))

      o_u : IsOfEpoch decl accepted acts run writer.grant.before ((state acts).epoch u)
      o_u = let some_epoch : 0 < (state acts).epoch v = reader_some in
          of_later writer.grant writer.counts u writer.its (omega arith)

      below_u : (state acts).epoch v < o_u.by.epoch
      below_u = let is : o_u.by.epoch ≡ (state acts).epoch u = o_u.epoch in omega arith

      reader_committed : HasCommitted decl accepted acts run v
      reader_committed =
          let x = decided_next decl accepted acts run o_u.by.epoch o_u.by (omega arith) o_u.stands
          ((state acts).epoch v) reader_some below_u dv.op.object du.event on in
          let made = wl.made x.0 x.1 in
          let s = closed_read decl accepted ((state acts).epoch v) dv.op.object dv.op.inv du.event made.plan made.sites
          rv.met.sites (made.planned ((state acts).epoch v) x.2) heavy_v made.closes rv.met.enough in
          let g = rv.met.each s.site s.second in
          let sn = made.each s.site s.first in
          let c = settled decl accepted acts run x.0 ((state acts).epoch v) x.1 x.2 g.grant
          (Lock (read_lock dv.op)) g.counts g.has (wl.counts_epoch g.grant g.counts ∙ ap (state acts).epoch g.its)
          (λ e. av (ap (state acts).status (sym g.its) ∙ e)) (subst (IsSafe acts) (sym g.its) sv) sn.0 sn.1
          (sn.2 ∙ sym g.from) in (c.0, ap (state acts).status (sym g.its) ∙ c.1)

      pub writer_passes_it : IsPassed decl accepted acts run v u
      writer_passes_it =
          let c = reader_committed in
          let stamped : c.0.stamp.clock ≤ o_u.by.clock =
          passed_stamps decl accepted acts run o_u.by.epoch o_u.by
          (omega arith) o_u.stands v c.0 dv du.event rv.answered.kind c.1 hv rv.answered.typed
          (rv.known rv.answered.kind rv.answered.typed) within dep below_u in
          let is : o_u.by.clock ≡ o_u.clock = o_u.clock_is in
          let granted : o_u.clock ≤ writer.grant.clock =
          (wl.facts writer.grant (wl.known writer.grant writer.counts)).passes_installs
          ((state acts).epoch u) o_u.clock o_u.log o_u.deed in
          record {
            stamp = c.0.stamp;
            outcome = subst (λ (s : Status). IsOutcome s (Some c.0.stamp)) (sym c.1) refl;
            grant = writer.grant;
            counts = writer.counts;
            its = writer.its;
            low = omega arith;
          }

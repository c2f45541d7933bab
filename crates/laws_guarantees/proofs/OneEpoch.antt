-- Of two operations in one epoch, one of which depends on the other: a site that both quorums share tells in which
-- order their transactions are.
use Rattle.std.proofs.Common.{◌≡◌, ℕ, ◌≤◌, IsTrue, ◌⊎◌, inl, inr, List, Some, sym, ap, ◌∙◌, subst}
use Rattle.qc_stamp.specs.declared.stamp.TxId.{TxId}
use Rattle.qc_list.specs.Vocabulary.{In}
use Rattle.qc_plan.specs.Vocabulary.{IsShared, weight}
use Rattle.qc_decl.specs.declared.declaration.Declaration.{Declaration}
use Rattle.qc_decl.specs.Vocabulary.{IsAccepted, append_need_of}
use Rattle.theory_onecopy.specs.Vocabulary.{Executed, committed_line, depends_at, own_line}
use Rattle.theory_machine.specs.Vocabulary.{Act, HasGranted, IsOutcome, IsReadAt, IsRun, LearnsCommit, Own, StateLaws}
use Rattle.theory_machine.specs.Vocabulary.{read_lock, site_after, state, weights_of}
use Rattle.theory_machine.proofs.Keeps.{laws}
use Rattle.theory_machine.proofs.Quorums.{shared}
use Rattle.laws_guarantees.proofs.Paired.{ArePaired, IsPassed, IsSeen}
use Rattle.laws_guarantees.proofs.SharedSite.{site_order}
use Rattle.laws_guarantees.proofs.Settled.{IsSafe}

module _ (decl : Declaration) (accepted : IsAccepted decl) (acts : List Act) (run : IsRun decl acts) (v u : TxId)
    (dv du : Executed) (pair : ArePaired decl accepted acts v u dv du)
    (epochs : (state acts).epoch u ≡ (state acts).epoch v) where
  open pair use {av, au, dep, enough_u, heavy_v, ne, object, rv, su, sv, writes}

  wl : StateLaws decl (state acts)
  wl = laws decl acts run

  site : IsShared (weights_of decl ((state acts).epoch v)) rv.met.sites writes.sites
  site = shared decl accepted ((state acts).epoch v) dv.op.object dv.op.inv du.event rv.met.sites writes.sites
      heavy_v rv.met.enough
      (subst (λ (x : ℕ). append_need_of decl x dv.op.object du.event ≤ weight writes.sites (weights_of decl x))
      epochs enough_u)

  gv : IsReadAt (state acts).counted v site.site dv
  gv = rv.met.each site.site site.first

  gu : HasGranted (state acts).counted u site.site (Own (own_line du))
  gu = writes.each site.site site.second

  one_epoch : gv.grant.epoch ≡ gu.grant.epoch
  one_epoch = wl.counts_epoch gv.grant gv.counts ∙ ap (state acts).epoch gv.its ∙ sym epochs
      ∙ ap (state acts).epoch (sym gu.its) ∙ sym (wl.counts_epoch gu.grant gu.counts)

  pub in_one_epoch : IsSeen decl accepted acts run v u dv du ⊎ IsPassed decl accepted acts run v u
  in_one_epoch =
      elim (site_order decl accepted acts run gv.grant gu.grant (read_lock dv.op) (own_line du) gv.counts gu.counts
      (gv.from ∙ sym gu.from) one_epoch (λ x. ne (sym gu.its ∙ x ∙ gv.its))
      (λ x. av (ap (state acts).status (sym gv.its) ∙ x)) (λ x. au (ap (state acts).status (sym gu.its) ∙ x))
      (subst (IsSafe acts) (sym gv.its) sv) (subst (IsSafe acts) (sym gu.its) su) gv.has gu.has (sym object)
      (subst (λ (o : ℕ). IsTrue (depends_at decl o dv.op.inv du.event)) (sym object) dep)) [
        | inl r ↦ inl (record {
          stamp = r.stamp;
          outcome = subst (λ (x : TxId). IsOutcome ((state acts).status x) (Some r.stamp)) gu.its
              (wl.deeds gv.grant.site (LearnsCommit gu.grant.tx r.stamp) r.learned);
          line = gv.seen (committed_line r.stamp u (own_line du)) (record {
            stands = subst (λ (x : TxId). In (committed_line r.stamp x (own_line du))
                (site_after gv.grant.before).volatile) gu.its r.line;
            lock = read_lock dv.op;
            granted = gv.has;
            on = sym object;
          }) object;
          grant = gv.grant;
          counts = gv.counts;
          its = gv.its;
          low = r.low;
        })
        | inr r ↦ inr (record {
          stamp = r.stamp;
          outcome = subst (λ (x : TxId). IsOutcome ((state acts).status x) (Some r.stamp)) gv.its
              (wl.deeds gu.grant.site (LearnsCommit gv.grant.tx r.stamp) r.learned);
          grant = gu.grant;
          counts = gu.counts;
          its = gu.its;
          low = r.low;
        })
      ]

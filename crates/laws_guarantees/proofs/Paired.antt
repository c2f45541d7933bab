-- Two operations of which one depends on the other, of transactions that are safe and haven't aborted: the quorums that
-- answered them, the weights that make quorums meet; and the two ways in which such transactions are in order.
use Rattle.std.proofs.Common.{◌≡◌, ◌≢◌, ℕ, ◌<◌, ◌≤◌, IsTrue, inl, List, length, Some, IsSome, sym, ap, ◌∙◌, subst}
use Rattle.qc_stamp.specs.declared.stamp.Stamp.{Stamp}
use Rattle.qc_stamp.specs.declared.stamp.TxId.{TxId}
use Rattle.qc_list.specs.Vocabulary.{In}
use Rattle.qc_table.specs.declared.kind.Kind.{Kind}
use Rattle.qc_table.specs.Vocabulary.{events_of}
use Rattle.qc_plan.specs.Vocabulary.{weight}
use Rattle.qc_plan.specs.declared.plan.Plan.{Plan}
use Rattle.qc_decl.specs.declared.declaration.Declaration.{Declaration}
use Rattle.qc_decl.specs.Vocabulary.{IsAccepted, append_need_of, plan_in}
use Rattle.theory_onecopy.specs.Vocabulary.{Executed, committed_line, depends_at, kind_at, own_line}
use Rattle.theory_machine.specs.Vocabulary.{Aborted, Act, Granted, HasQuorum, IsAnsweredFromQuorum, IsDependedOn}
use Rattle.theory_machine.specs.Vocabulary.{IsOutcome, IsRun, LogLaws, Own, StateLaws, state, weights_of}
use Rattle.theory_machine.proofs.Keeps.{laws}
use Rattle.theory_machine.proofs.LogKeeps.{log_laws}
use Rattle.theory_machine.proofs.PlacedOperations.{some_resp}
use Rattle.theory_machine.proofs.Quorums.{IsHeavy, heavy, number_within}
use Rattle.laws_guarantees.proofs.Settled.{IsSafe}

-- two such operations, `dv` of the reader and `du` of the writer, and the quorums that answered them
pub record ArePaired (decl : Declaration) (accepted : IsAccepted decl) (acts : List Act) (v u : TxId)
    (dv du : Executed) : Type 0 where
  pub hv : In dv ((state acts).executed v)
  pub hu : In du ((state acts).executed u)
  pub some : IsSome du.op.resp
  pub object : du.op.object ≡ dv.op.object
  pub ne : u ≢ v
  pub av : (state acts).status v ≢ Aborted
  pub au : (state acts).status u ≢ Aborted
  pub sv : IsSafe acts v
  pub su : IsSafe acts u
  pub dep : IsTrue (depends_at decl dv.op.object dv.op.inv du.event)
  pub rv : IsAnsweredFromQuorum decl ((state acts).epoch v) (state acts).counted v dv
  pub writes : HasQuorum decl ((state acts).epoch u) (state acts).counted u (Own (own_line du))
      (append_need_of decl ((state acts).epoch u) du.op.object du.event)
  pub within : du.event < length (events_of rv.answered.kind.table.rows)
  pub on : IsDependedOn decl dv.op.object du.event
  pub heavy_v : IsHeavy decl accepted ((state acts).epoch v) dv.op.object dv.op.inv du.event
  pub heavy_u : IsHeavy decl accepted ((state acts).epoch u) dv.op.object dv.op.inv du.event
  -- the weight of the sites with the writer's line
  pub enough_u : append_need_of decl ((state acts).epoch u) dv.op.object du.event
      ≤ weight writes.sites (weights_of decl ((state acts).epoch u))

module _ (decl : Declaration) (accepted : IsAccepted decl) (acts : List Act) (run : IsRun decl acts) where
  wl : StateLaws decl (state acts)
  wl = laws decl acts run

  ll : LogLaws decl (state acts)
  ll = log_laws decl accepted acts run

  -- the writer committed with this stamp, its line is in the reader's view, and a grant that the reader counted has
  -- passed the stamp
  pub record IsSeen (v u : TxId) (dv du : Executed) : Type 0 where
    pub stamp : Stamp
    pub outcome : IsOutcome ((state acts).status u) (Some stamp)
    pub line : In (committed_line stamp u (own_line du)) dv.view
    pub grant : Granted
    pub counts : In grant (state acts).counted
    pub its : grant.tx ≡ v
    pub low : stamp.clock ≤ grant.clock

  -- the reader committed with this stamp, and a grant that the writer counted has passed it
  pub record IsPassed (v u : TxId) : Type 0 where
    pub stamp : Stamp
    pub outcome : IsOutcome ((state acts).status v) (Some stamp)
    pub grant : Granted
    pub counts : In grant (state acts).counted
    pub its : grant.tx ≡ u
    pub low : stamp.clock ≤ grant.clock

  -- two operations of which one depends on the other, of transactions that are safe and haven't aborted
  module _ (v u : TxId) (dv du : Executed) (hv : In dv ((state acts).executed v)) (hu : In du ((state acts).executed u))
      (some : IsSome du.op.resp) (object : du.op.object ≡ dv.op.object) (ne : u ≢ v)
      (av : (state acts).status v ≢ Aborted) (au : (state acts).status u ≢ Aborted) (sv : IsSafe acts v)
      (su : IsSafe acts u) (dep : IsTrue (depends_at decl dv.op.object dv.op.inv du.event)) where
    rv : IsAnsweredFromQuorum decl ((state acts).epoch v) (state acts).counted v dv
    rv = ll.right v dv (inl hv)

    ru : IsAnsweredFromQuorum decl ((state acts).epoch u) (state acts).counted u du
    ru = ll.right u du (inl hu)

    writes : HasQuorum decl ((state acts).epoch u) (state acts).counted u (Own (own_line du))
        (append_need_of decl ((state acts).epoch u) du.op.object du.event)
    writes = ll.written u du hu some

    kind : ru.answered.kind ≡ rv.answered.kind
    kind = let kinds : Some ru.answered.kind ≡ Some rv.answered.kind = sym ru.answered.typed ∙ ap (kind_at decl) object
        ∙ rv.answered.typed in cc

    resp : (x : ℕ) × (du.op.resp ≡ Some x)
    resp = some_resp du.op.resp some

    within : du.event < length (events_of rv.answered.kind.table.rows)
    within = subst (λ (k : Kind). du.event < length (events_of k.table.rows)) kind
        (number_within ru.answered.kind du.op.inv du.event du.op.resp resp.0 resp.1 ru.answered.numbered)

    on : IsDependedOn decl dv.op.object du.event
    on = record {
      inv = dv.op.inv;
      kind = rv.answered.kind;
      typed = rv.answered.typed;
      low = rv.known rv.answered.kind rv.answered.typed;
      within = within;
      depends = dep;
    }

    heavy_in : (epoch : ℕ) → ((plan : Plan) × (plan_in decl epoch ≡ Some plan))
        → IsHeavy decl accepted epoch dv.op.object dv.op.inv du.event
    heavy_in epoch plan = heavy decl accepted epoch dv.op.object dv.op.inv du.event rv.answered.kind plan.0 plan.1
        rv.answered.typed (rv.known rv.answered.kind rv.answered.typed) within dep

    heavy_v : IsHeavy decl accepted ((state acts).epoch v) dv.op.object dv.op.inv du.event
    heavy_v = heavy_in ((state acts).epoch v) (wl.planned v (ll.begun v dv (inl hv)))

    heavy_u : IsHeavy decl accepted ((state acts).epoch u) dv.op.object dv.op.inv du.event
    heavy_u = heavy_in ((state acts).epoch u) (wl.planned u (ll.begun u du (inl hu)))

    -- the weight of the sites with the writer's line
    enough_u : append_need_of decl ((state acts).epoch u) dv.op.object du.event ≤ weight writes.sites
        (weights_of decl ((state acts).epoch u))
    enough_u = subst (λ (o : ℕ). append_need_of decl ((state acts).epoch u) o du.event ≤ weight writes.sites
        (weights_of decl ((state acts).epoch u))) object writes.enough

    pub paired : ArePaired decl accepted acts v u dv du
    paired = record {
      hv = hv;
      hu = hu;
      some = some;
      object = object;
      ne = ne;
      av = av;
      au = au;
      sv = sv;
      su = su;
      dep = dep;
      rv = rv;
      writes = writes;
      within = within;
      on = on;
      heavy_v = heavy_v;
      heavy_u = heavy_u;
      enough_u = enough_u;
    }

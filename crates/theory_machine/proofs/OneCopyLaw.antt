-- The committed records of every run, in the order of their stamps, are one copy's (hybrid atomicity: Weihl 1989).
use Rattle.std.proofs.Common.{◌≡◌, ◌↔◌, inl, inr, List, [], ◌∷◌, ◌++◌, map, refl, sym, ap, ◌∙◌, subst}
use Rattle.std.proofs.lemmas.List.{map-append}
use Rattle.qc_entry.specs.declared.line.Op.{Op}
use Rattle.qc_entry.specs.declared.record.Commit.{Commit as CommitRecord}
use Rattle.qc_decl.specs.declared.declaration.Declaration.{Declaration}
use Rattle.qc_decl.specs.Vocabulary.{IsAccepted}
use Rattle.theory_onecopy.specs.Vocabulary.{AreFromViews, Executed, IsOrdered, IsStampedBefore, OneCopy, Placed, Walks}
use Rattle.theory_onecopy.specs.Vocabulary.{operations, start_at}
use Rattle.qc_list.specs.Vocabulary.{In}
use Rattle.theory_onecopy.proofs.Walk.{views_are_one_copy}
use Rattle.theory_machine.specs.Vocabulary.{Act, IsRun, op_of, place, placed, state}
use Rattle.theory_machine.proofs.Outcomes.{committed_record}
use Rattle.theory_machine.proofs.Quorums.{exact}
use Rattle.theory_machine.proofs.PlacedOperations.{placed_ordered}
use Rattle.theory_machine.proofs.CommittedViews.{wl, ll, whose, right, own, own_sorted, own_all, grows, smaller, closed}
use Rattle.theory_machine.proofs.CommittedViews.{closed_own}
use Rattle.theory_machine.proofs.Ordering.{ordered}

module _ (decl : Declaration) (accepted : IsAccepted decl) (acts : List Act) (run : IsRun decl acts)
    (L : List CommitRecord) (rising : IsOrdered IsStampedBefore L)
    (all : (c : CommitRecord) → In c L ↔ In c (state acts).records) where
  pub from_views : AreFromViews decl (placed (state acts).executed L)
  from_views = record {
    ordered = placed_ordered (state acts).executed L (ll decl accepted acts run L rising all).order rising;
    answered = λ b h. (right decl accepted acts run L rising all b
        (whose decl accepted acts run L rising all b h)).answered;
    own = own decl accepted acts run L rising all;
    own_sorted = λ b h. own_sorted decl accepted acts run L rising all b h;
    own_all = own_all decl accepted acts run L rising all;
    smaller = smaller decl accepted acts run L rising all;
    ordering = ordered decl accepted acts run L rising all;
    closed = closed decl accepted acts run L rising all;
    closed_own = closed_own decl accepted acts run L rising all;
    grows = grows decl accepted acts run L rising all;
  }

  -- the operations are those of the records
  ops_are : (M : List CommitRecord) → ((c : CommitRecord) → In c M → c.ops ≡ map op_of ((state acts).executed c.tx))
      → map (λ (p : Placed). p.operation.op) (placed (state acts).executed M) ≡ operations M
  ops_are [] h = refl
  ops_are (c ∷ cs) h =
      map-append (λ (p : Placed). p.operation.op) (map (λ (d : Executed). place c d) ((state acts).executed c.tx))
      (placed (state acts).executed cs)
      ∙ ap (λ (os : List Op). os ++ map (λ (p : Placed). p.operation.op) (placed (state acts).executed cs))
      (each ((state acts).executed c.tx) ∙ sym (h c (inl refl)))
      ∙ ap (λ (os : List Op). c.ops ++ os) (ops_are cs (λ d i. h d (inr i)))
    where
      each : (ds : List Executed) → map (λ (p : Placed). p.operation.op) (map (λ (d : Executed). place c d) ds)
          ≡ map op_of ds
      each [] = refl
      each (d ∷ ds) = ap (λ (os : List Op). d.op ∷ os) (each ds)

  pub records_in_order_are_one_copy : OneCopy decl L
  records_in_order_are_one_copy = subst (λ (os : List Op). Walks decl (start_at decl) os)
      (ops_are L (λ c h. let e = (wl decl accepted acts run L rising all).written c ((all c).0 h) in
      ((wl decl accepted acts run L rising all).record_of c.tx c
      (committed_record ((state acts).status c.tx) c e)).ops))
      (views_are_one_copy decl (exact decl accepted) (placed (state acts).executed L) from_views)

-- A Decide is found to be allowed.
use Rattle.std.proofs.Common.{◌≡◌, ℕ, zero, suc, ◌≤◌, max, Bool, true, false, IsTrue, ◌⊎◌, inl, inr, List, [], Option}
use Rattle.std.proofs.Common.{Some, None, is_some, option_map, refl, subst, arith}
use Rattle.qc_stamp.specs.declared.stamp.Stamp.{Stamp}
use Rattle.qc_entry.specs.declared.line.Line.{Line}
use Rattle.qc_entry.specs.declared.line.OwnLine.{OwnLine}
use Rattle.qc_plan.proofs.Least.{close_weight_is_least}
use Rattle.qc_plan.specs.Vocabulary.{Closes as Closing, closing_needs, total, weight}
use Rattle.qc_plan.specs.declared.plan.Plan.{Plan}
use Rattle.qc_decl.specs.Vocabulary.{plan_in}
use Rattle.qc_decl.specs.declared.declaration.Declaration.{Declaration}
use Rattle.theory_onecopy.specs.Vocabulary.{committed_line}
use Rattle.qc_list.specs.Vocabulary.{In}
use Rattle.theory_machine.specs.Vocabulary.{Asked, ClosedSitesAnswered, ClosesEnough, DecidePassesCommitted}
use Rattle.theory_machine.specs.Vocabulary.{DecidePassesSnapshots, DecidesByPlan, DecidesFromSnapshots}
use Rattle.theory_machine.specs.Vocabulary.{DecidesNextEpoch, Decision, Guard, IsMerged, IsResolvedBy, Item, Lock}
use Rattle.theory_machine.specs.Vocabulary.{MayDecideBy, MergesEveryEntry, MergesLogs, MergesOnlyCommitted, Own}
use Rattle.theory_machine.specs.Vocabulary.{Promise, ResolvesPrepared, Snapshot, State, Verdict, epoch_from, site_after}
use Rattle.theory_witnesses.proofs.Cases.{lock_own, one_own}
use Rattle.theory_witnesses.proofs.Alike.{same_item, same_line, same_snapshot, same_verdict}
use Rattle.theory_witnesses.proofs.Finding.{IsFound, where_asked, at_most, both, every, proof_of, member, same_number}
use Rattle.theory_witnesses.proofs.Finding.{some}

abbrev pub no_plan : Plan
no_plan = record { weights = []; initial = []; last = [] }

-- the plan by which the decision is made; any where it isn't asked
abbrev IsPlanFor : Bool → Declaration → ℕ → Plan → Type 0
IsPlanFor is decl decided plan = Asked is ((epoch : ℕ) → decided ≡ suc epoch → plan_in decl epoch ≡ Some plan)

abbrev plan_for : (is : Bool) (decl : Declaration) (decided : ℕ)
    → Option ((plan : Plan) × IsPlanFor is decl decided plan)
plan_for false decl decided = Some (no_plan, tt)
plan_for true decl zero = None
plan_for true decl (suc epoch) = by (plan_in decl epoch) refl
  where
    by : (o : Option Plan) → plan_in decl epoch ≡ o → Option ((plan : Plan) × IsPlanFor true decl (suc epoch) plan)
    by None e = None
    by (Some plan) e = Some (
      plan,
      λ k f. (let same : epoch ≡ k = omega arith in
          subst (λ (n : ℕ). plan_in decl n ≡ Some plan) same e),
    )

abbrev close_weight_of : Plan → ℕ
close_weight_of plan = max (closing_needs (total plan.weights) plan.initial)
    (closing_needs (total plan.weights) plan.last)

abbrev does_close : (plan : Plan) (sites_weight : ℕ) → Option (Closing plan sites_weight)
does_close plan sites_weight = option_map made (at_most (close_weight_of plan) sites_weight)
  where
    made : close_weight_of plan ≤ sites_weight → Closing plan sites_weight
    made e = record {
      initial = λ object inv some_need. (let enough =
          ((close_weight_is_least plan).closes).initial object inv some_need in omega arith);
      last = λ object event some_need. (let enough =
          ((close_weight_is_least plan).closes).last object event some_need in omega arith);
    }

abbrev IsOfSite : ℕ → Snapshot → Type 0
IsOfSite site s = s.site ≡ site

abbrev of_site : (snapshots : List Snapshot) (site : ℕ) → Option (IsFound (IsOfSite site) snapshots)
of_site snapshots site = some (IsOfSite site) (λ s. same_number s.site site) snapshots

-- the sites that answered; all where answers aren't asked
abbrev closed_sites : Bool → List Snapshot → ℕ → Bool
closed_sites true snapshots site = is_some (of_site snapshots site)
closed_sites false snapshots site = true

pub each_sent : (is : Bool) (snapshots : List Snapshot)
    → Asked is ((site : ℕ) → IsTrue (closed_sites is snapshots site)
    → (s : Snapshot) × In s snapshots × (s.site ≡ site))
each_sent true snapshots = λ site t. (let f = proof_of (of_site snapshots site) t in (f.item, f.stands, f.holds))
each_sent false snapshots = tt

-- the line of an item is in a log
abbrev IsLineIn : Stamp → Promise → List Line → Item → Type 0
IsLineIn stamp p log x = (o : OwnLine) → x ≡ Own o → In (committed_line stamp p.tx o) log

abbrev line_in : (stamp : Stamp) (p : Promise) (log : List Line) (x : Item) → Option (IsLineIn stamp p log x)
line_in stamp p log (Lock l) = Some (λ o e. absurd (lock_own e))
line_in stamp p log (Own q) = option_map made (member same_line (committed_line stamp p.tx q) log)
  where
    made : In (committed_line stamp p.tx q) log → IsLineIn stamp p log (Own q)
    made h o e = subst (λ (x : OwnLine). In (committed_line stamp p.tx x) log) (one_own e) h

abbrev lines_in : (stamp : Stamp) (p : Promise) (log : List Line)
    → Option ((o : OwnLine) → In (Own o) p.items → In (committed_line stamp p.tx o) log)
lines_in stamp p log = option_map made (every (IsLineIn stamp p log) (line_in stamp p log) p.items)
  where
    made : ((x : Item) → In x p.items → IsLineIn stamp p log x) → (o : OwnLine) → In (Own o) p.items
        → In (committed_line stamp p.tx o) log
    made f o h = f (Own o) h o refl

abbrev IsCommitOf : (Guard → Bool) → Decision → Promise → Verdict → Type 0
IsCommitOf ask d p v =
    (stamp : Stamp) × (v ≡ record { tx = p.tx; stamp = Some stamp })
    × Asked (ask MergesEveryEntry) ((o : OwnLine) → In (Own o) p.items → In (committed_line stamp p.tx o) d.log)
    × Asked (ask DecidePassesCommitted) (stamp.clock ≤ d.clock)

abbrev commit_of : (ask : Guard → Bool) (d : Decision) (p : Promise) (v : Verdict) → Option (IsCommitOf ask d p v)
commit_of ask d p v = by v.stamp
  where
    by : Option Stamp → Option (IsCommitOf ask d p v)
    by None = None
    by (Some stamp) = option_map (λ f. (stamp, f.0, (f.1).0, (f.1).1))
        (both (same_verdict v (record { tx = p.tx; stamp = Some stamp }))
        (both (where_asked (ask MergesEveryEntry) (lines_in stamp p d.log))
        (where_asked (ask DecidePassesCommitted) (at_most stamp.clock d.clock))))

abbrev is_resolved : (ask : Guard → Bool) (verdicts : List Verdict) (d : Decision) (p : Promise)
    → Option (IsResolvedBy ask verdicts d p)
is_resolved ask verdicts d p = by (some (IsCommitOf ask d p) (commit_of ask d p) verdicts)
    (member same_verdict (record { tx = p.tx; stamp = None }) verdicts)
  where
    by : Option (IsFound (IsCommitOf ask d p) verdicts) → Option (In (record { tx = p.tx; stamp = None }) verdicts)
        → Option (IsResolvedBy ask verdicts d p)
    by (Some f) o = let c = f.holds in Some (inl (c.0, subst (λ (v : Verdict). In v verdicts) c.1 f.stands, c.2, c.3))
    by None (Some h) = Some (inr h)
    by None None = None

abbrev are_resolved : (ask : Guard → Bool) (verdicts : List Verdict) (d : Decision)
    → Option ((s : Snapshot) (p : Promise) → In s d.snapshots → In p (site_after s.before).prepared
    → IsResolvedBy ask verdicts d p)
are_resolved ask verdicts d = option_map
    (λ (f : (s : Snapshot) → In s d.snapshots → (p : Promise) → In p (site_after s.before).prepared
    → IsResolvedBy ask verdicts d p). λ s p hs hp. f s hs p hp)
    (every (λ (s : Snapshot). (p : Promise) → In p (site_after s.before).prepared → IsResolvedBy ask verdicts d p)
    (λ s. every (IsResolvedBy ask verdicts d) (is_resolved ask verdicts d) (site_after s.before).prepared)
    d.snapshots)

abbrev all_logs : (d : Decision) → Option
    ((s : Snapshot) (l : Line) → In s d.snapshots → In l (site_after s.before).volatile → In l d.log)
all_logs d = option_map (λ (f : (s : Snapshot) → In s d.snapshots → (l : Line) → In l (site_after s.before).volatile
    → In l d.log). λ s l hs hl. f s hs l hl)
    (every (λ (s : Snapshot). (l : Line) → In l (site_after s.before).volatile → In l d.log)
    (λ s. every (λ (l : Line). In l d.log) (λ l. member same_line l d.log) (site_after s.before).volatile)
    d.snapshots)

-- where a line of the new log may come from
abbrev own_of : Line → OwnLine
own_of l = record { op = l.op; object = l.object; event = l.event }

abbrev IsOfPromise : List Verdict → Line → Promise → Type 0
IsOfPromise verdicts l p = In (Own (own_of l)) p.items
    × (In (record { tx = p.tx; stamp = Some l.stamp }) verdicts × (l ≡ committed_line l.stamp p.tx (own_of l)))

abbrev IsFrom : List Verdict → Line → Snapshot → Type 0
IsFrom verdicts l s = In l (site_after s.before).volatile
    ⊎ IsFound (IsOfPromise verdicts l) (site_after s.before).prepared

abbrev from : (verdicts : List Verdict) (l : Line) (s : Snapshot) → Option (IsFrom verdicts l s)
from verdicts l s = by (member same_line l (site_after s.before).volatile)
    (some (IsOfPromise verdicts l) one (site_after s.before).prepared)
  where
    one : (p : Promise) → Option (IsOfPromise verdicts l p)
    one p = both (member same_item (Own (own_of l)) p.items)
        (both (member same_verdict (record { tx = p.tx; stamp = Some l.stamp }) verdicts)
        (same_line l (committed_line l.stamp p.tx (own_of l))))

    by : Option (In l (site_after s.before).volatile)
        → Option (IsFound (IsOfPromise verdicts l) (site_after s.before).prepared) → Option (IsFrom verdicts l s)
    by (Some h) o = Some (inl h)
    by None (Some f) = Some (inr f)
    by None None = None

abbrev is_merged : (verdicts : List Verdict) (d : Decision) (l : Line) → Option (IsMerged verdicts d l)
is_merged verdicts d l = option_map made (some (IsFrom verdicts l) (from verdicts l) d.snapshots)
  where
    made : IsFound (IsFrom verdicts l) d.snapshots → IsMerged verdicts d l
    made f = record {
      snapshot = f.item;
      counts = f.stands;
      from = elim f.holds [
        | inl h ↦ inl h
        | inr p ↦ inr
            (p.item, own_of l, l.stamp, p.stands, p.holds.0, (p.holds.1).0, (p.holds.1).1)
      ];
    }

abbrev pub may_decide : (ask : Guard → Bool) (decl : Declaration) (now : State) (d : Decision)
    → Option (MayDecideBy ask decl now d)
may_decide ask decl now d = by (plan_for (ask DecidesByPlan) decl d.epoch)
  where
    sites : ℕ → Bool
    sites = closed_sites (ask ClosedSitesAnswered) d.snapshots

    by : Option ((plan : Plan) × IsPlanFor (ask DecidesByPlan) decl d.epoch plan) → Option (MayDecideBy ask decl now d)
    by None = None
    by (Some p) =
        option_map (λ f. record {
          plan = p.0;
          planned = p.1;
          epochs = f.0;
          sites = sites;
          closes = (f.1).0;
          each = each_sent (ask ClosedSitesAnswered) d.snapshots;
          resolved = ((f.1).1).0;
          logs = (((f.1).1).1).0;
          merged = ((((f.1).1).1).1).0;
          clocks = ((((f.1).1).1).1).1;
        })
        (both (every (λ (s : Snapshot). Asked (ask DecidesFromSnapshots) (In s now.snapshots)
        × Asked (ask DecidesNextEpoch) (d.epoch ≡ suc (epoch_from 1 s.before)))
        (λ s. both (where_asked (ask DecidesFromSnapshots) (member same_snapshot s now.snapshots))
        (where_asked (ask DecidesNextEpoch) (same_number d.epoch (suc (epoch_from 1 s.before))))) d.snapshots)
        (both (where_asked (ask ClosesEnough) (does_close (p.0) (weight sites (p.0).weights)))
        (both (where_asked (ask ResolvesPrepared) (are_resolved ask now.verdicts d))
        (both (where_asked (ask MergesLogs) (all_logs d))
        (both (where_asked (ask MergesOnlyCommitted) (every (IsMerged now.verdicts d) (is_merged now.verdicts d) d.log))
        (where_asked (ask DecidePassesSnapshots)
        (every (λ (s : Snapshot). s.clock ≤ d.clock) (λ s. at_most s.clock d.clock) d.snapshots)))))))

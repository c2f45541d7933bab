-- The participants of a commit: each site that granted, once, and no other.
use Rattle.std.proofs.Common.{◌≡◌, ℕ, ◌+◌, ◌-◌, ◌%◌, ◌<◌, ◌≤◌, ◌≢◌, ◌⊎◌, ◌↔◌, true, inl, inr, arith, IsTrue}
use Rattle.std.specs.List.{range_with_len, AllPairs}
use Rattle.std.proofs.lemmas.Bool.{cases_lt}
use Rattle.qc_decl.specs.declared.declaration.Declaration.{Declaration}
use Rattle.qc_decl.specs.Vocabulary.{first_site}
use Rattle.qc_plan.specs.Vocabulary.{cyclic}
use Rattle.qc_list.specs.Vocabulary.{In}
use Rattle.qc_list.proofs.Members.{In-filter, In-first, In-passes, In-second, In-unfiltered, In-either}
use Rattle.qc_msg.specs.declared.begun.Begun.{Begun}
use Rattle.qc_msg.specs.Vocabulary.{has_granted}
use Rattle.qc_commit.specs.Vocabulary.{participants}
use Rattle.qc_commit.proofs.Once.{Once, once-append, once-filter, once-pairs, range-high, range-in, range-low}
use Rattle.qc_commit.proofs.Once.{range-once}

-- all sites in an order from one of them

cyclic-once : (sites from : ℕ) → from ≤ sites → Once (cyclic sites from)
cyclic-once sites from low =
    once-append (range_with_len from (sites - from)) (range_with_len 0 from) (range-once from (sites - from))
    (range-once 0 from)
    (λ x later earlier. let above : from ≤ x = range-low x from (sites - from) later in
    let below : x < 0 + from = range-high x 0 from earlier in omega arith)

cyclic-in : (sites from k : ℕ) → from ≤ sites → k < sites → In k (cyclic sites from)
cyclic-in sites from k low high = by (cases_lt k from) where
  by : (k < from) ⊎ (from ≤ k) → In k (cyclic sites from)
  by (inl less) = In-second k (range_with_len from (sites - from)) (range_with_len 0 from)
      (range-in k 0 from (omega arith) (omega arith))
  by (inr past) = In-first k (range_with_len from (sites - from)) (range_with_len 0 from)
      (range-in k from (sites - from) past (omega arith))

cyclic-low : (sites from k : ℕ) → from ≤ sites → In k (cyclic sites from) → k < sites
cyclic-low sites from k low member =
    by (In-either k (range_with_len from (sites - from)) (range_with_len 0 from) member)
  where
    by : In k (range_with_len from (sites - from)) ⊎ In k (range_with_len 0 from) → k < sites
    by (inl later) = let high : k < from + (sites - from) = range-high k from (sites - from) later in omega arith
    by (inr earlier) = let high : k < 0 + from = range-high k 0 from earlier in omega arith

pub participants-once : (decl : Declaration) (client : ℕ) (b : Begun) → 0 < decl.sites
    → Once (participants decl client b)
participants-once decl client b some =
    once-filter (has_granted b.lives) (cyclic decl.sites (first_site decl client))
    (cyclic-once decl.sites (client % decl.sites) (omega arith))

pub participants-pairs : (decl : Declaration) (client : ℕ) (b : Begun) → 0 < decl.sites
    → AllPairs (λ s t. s ≢ t) (participants decl client b)
participants-pairs decl client b some = once-pairs (participants decl client b) (participants-once decl client b some)

pub participants-in : (decl : Declaration) (client : ℕ) (b : Begun) (site : ℕ) → 0 < decl.sites
    → In site (participants decl client b) ↔ ((site < decl.sites) × IsTrue (has_granted b.lives site))
participants-in decl client b site some =
    record {
      0 = λ (member : In site (participants decl client b)). (low member, granted member);
      1 = λ (both : (site < decl.sites) × IsTrue (has_granted b.lives site)). here both;
    } where
      low : In site (participants decl client b) → site < decl.sites
      low member = cyclic-low decl.sites (client % decl.sites) site (omega arith)
          (In-unfiltered (has_granted b.lives) site (cyclic decl.sites (first_site decl client)) member)

      granted : In site (participants decl client b) → has_granted b.lives site ≡ true
      granted member = In-passes (has_granted b.lives) site (cyclic decl.sites (first_site decl client)) member

      here : (site < decl.sites) × IsTrue (has_granted b.lives site) → In site (participants decl client b)
      here both = In-filter (has_granted b.lives) site (cyclic decl.sites (first_site decl client))
          (cyclic-in decl.sites (client % decl.sites) site (omega arith) both.0) both.1

use Rattle.std.proofs.Common.{◌≡◌, ◌++◌, ℕ, drop, map}
use Rattle.qc_front.specs.Vocabulary.{request_of}
use Rattle.qc_front.proofs.asking.requests.Given as goal

-- the requests so far, with those to the sites that are left, are all of them
abbrev pub invariant-loop-site : goal.invariant-loop-site
invariant-loop-site l =
    l.sends ++ map (request_of l.begun (λ (site : ℕ). l.want)) (drop l.site-index l.site-items)
    ≡ map (request_of l.begun (λ (site : ℕ). l.want)) l.sites

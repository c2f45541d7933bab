use Rattle.std.proofs.Common.{◌≡◌, ◌+◌, ◌-◌, ◌<◌, ◌++◌, ◌∷◌, [], ℕ, suc, List, sym, ap, ◌∙◌, append_assoc, arith}
use Rattle.std.specs.List.{range_with_len}
use Rattle.qc_admin.proofs.installing.all_sites.Goals as goal

-- the sites from one on
first_left : (end site : ℕ) → site < end
    → range_with_len site (end - site) ≡ site ∷ range_with_len (site + 1) (end - (site + 1))
first_left end site low =
    let more : end - site ≡ suc (end - (site + 1)) = omega arith in
    ap (range_with_len site) more

pub loop-site-preserved : goal.loop-site-preserved
loop-site-preserved c =
    let site = c.loop-site.site in
    let end = c.args.decl.now.sites in
    let rest : List ℕ = range_with_len (site + 1) (end - (site + 1)) in
    ap (λ (sites : List ℕ). sites ++ rest) c.in_ok-push.ensures.ok
    ∙ append_assoc c.loop-site.sites (site ∷ []) rest
    ∙ ap (λ (more : List ℕ). c.loop-site.sites ++ more) (sym (first_left end site c.loop-site-test.true))
    ∙ c.loop-site.invariant

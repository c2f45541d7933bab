use Rattle.std.proofs.Common.{◌≤◌, ◌<◌, ◌^◌, All, length, subst, rules, ℕ}
use Rattle.qc_cert.proofs.Tables.{left_tells}
use Rattle.qc_cert.proofs.blocks.Block.covers.Goals as goal

pub returns : goal.returns
returns c =
    let row = c.left-left.result in
    let few : length c.args.self.now ≤ 256 = subst (λ sets. length sets ≤ 256) c.self.view_is c.self.invariant.few in
    let small : All (λ (set : ℕ). set < 2 ^ 64) c.args.self.now =
    subst (λ sets. All (λ (set : ℕ). set < 2 ^ 64) sets) c.self.view_is c.self.invariant.small in
    let first : row.first < 2 ^ 64 = search rules in
    let second : row.second < 2 ^ 64 = search rules in
    let third : row.third < 2 ^ 64 = search rules in
    let fourth : row.fourth < 2 ^ 64 = search rules in
    left_tells c.args.self.now c.args.out row few small c.left-left.ensures first second third fourth

-- Lives are at most one more than the records.
use Rattle.std.proofs.Common.{◌+◌, ◌≤◌, length, List, [], ◌∷◌, fold, arith}
use Rattle.qc_msg.specs.declared.record.Record.{Record}
use Rattle.qc_msg.specs.declared.record.Record.TheVariants as records
use Rattle.qc_recover.specs.Sites as by_site
use Rattle.qc_recover.specs.Clients as by_client

pub site_life : (k : by_site.Kept) (r : Record) → (by_site.keeps k r).life ≤ k.life + 1
site_life k records.Life = omega arith
site_life k (records.Prepare p) = omega arith
site_life k (records.Done tx clock) = omega arith
site_life k (records.Close epoch) = omega arith
site_life k (records.Install start) = omega arith
site_life k (records.Commit commit) = omega arith
site_life k (records.Decide start) = omega arith

pub site_lives : (k : by_site.Kept) (rs : List Record) → (fold by_site.keeps k rs).life ≤ k.life + length rs
site_lives k [] = omega arith
site_lives k (r ∷ rs) =
    let here = site_life k r in
    let rest = site_lives (by_site.keeps k r) rs in
    omega arith

pub client_life : (k : by_client.Kept) (r : Record) → (by_client.keeps k r).life ≤ k.life + 1
client_life k records.Life = omega arith
client_life k (records.Prepare p) = omega arith
client_life k (records.Done tx clock) = omega arith
client_life k (records.Close epoch) = omega arith
client_life k (records.Install start) = omega arith
client_life k (records.Commit commit) = omega arith
client_life k (records.Decide start) = omega arith

pub client_lives : (k : by_client.Kept) (rs : List Record) → (fold by_client.keeps k rs).life ≤ k.life + length rs
client_lives k [] = omega arith
client_lives k (r ∷ rs) =
    let here = client_life k r in
    let rest = client_lives (by_client.keeps k r) rs in
    omega arith

use Rattle.std.proofs.Common.{◌<◌, ◌∙◌, sym, ap, subst, arith}
use Rattle.std.specs.List.{AllByRecursion as Every}
use Rattle.qc_decl.specs.Vocabulary.{most_clients}
use Rattle.qc_entry.specs.declared.record.Prepared.{Prepared}
use Rattle.qc_recover.specs.Vocabulary.{Kept, nothing_kept}
use Rattle.qc_recover.proofs.Lives.{site_lives}
use Rattle.qc_recover.proofs.Promised.{each_promise}
use Rattle.qc_recover.proofs.site.site_of.Goals as goal

pub inquiries-requires-clause-clients : goal.inquiries-requires-clause-clients
inquiries-requires-clause-clients c =
    let P = λ (p : Prepared). p.tx.client < most_clients in
    let is = ap (λ (k : Kept). k.promises) (c.kept.view_is ∙ c.in_ok-kept.ensures) in
    subst (Every P) (sym is) (each_promise P c.args.records.now c.requires.clients)

pub keep-requires : goal.keep-requires
keep-requires c =
    let lives = site_lives nothing_kept c.args.records.now in
    let is = ap (λ (k : Kept). k.life) c.in_ok-kept.ensures in
    let few = c.requires.few in
    omega arith

pub site_by-requires : goal.site_by-requires
site_by-requires c =
    let P = λ (p : Prepared). p.tx.client < most_clients in
    let is = ap (λ (k : Kept). k.promises) c.in_ok-keep.ensures ∙ ap (λ (k : Kept). k.promises) c.in_ok-kept.ensures in
    subst (Every P) (sym is) (each_promise P c.args.records.now c.requires.clients)

use Rattle.std.proofs.Common.{◌≡◌, length, map, take, ap, sym, ◌∙◌, subst}
use Rattle.std.proofs.lemmas.List.{length-map, length_push}
use Rattle.std.proofs.lemmas.Iterator.{YieldsList-from_zip}
use Rattle.std.proofs.lemmas.Iterator.Adapters.{YieldsList-from_vec}
use Rattle.std.proofs.lemmas.Iterator.Consumers.{YieldsList-at, YieldsList-end, YieldsList-turn}
use Rattle.std.specs.List.{zip}
use Rattle.qc_accept.specs.Vocabulary.{names_in, type_in}
use Rattle.qc_accept.proofs.Sorted.{kept_all, kept_more, kind_in, kinds_sorted, names_in_pair, names_sorted, triples_in}
use Rattle.qc_accept.proofs.Sorted.{triples_sorted}
use Rattle.qc_accept.proofs.sorting.sort_types.Goals as goal

pub loop-read-preserved : goal.loop-read-preserved
loop-read-preserved c =
    let listed = c.into_vec.ensures ∙ c.in_ok-names.ensures in
    let road = YieldsList-at c.into_iter-read-iterator.ensures.into_iter_gives
    (YieldsList-from_zip
    (YieldsList-at c.zip-read-items.ensures.first
    (YieldsList-from_vec {s = c.into_iter.result} c.args.types.list.items c.into_iter.ensures.rest
    (c.into_iter.ensures.len ∙ c.args.types.list.ok.0)))
    (YieldsList-from_vec (names_in c.args.types.names) (c.zip-read-items.ensures.second.0 ∙ listed)
    (c.zip-read-items.ensures.second.1 ∙ c.into_vec.result.ok.0 ∙ ap length listed))) in
    let pairs = zip c.args.types.list.items (names_in c.args.types.names) in
    let turn = YieldsList-turn road c.loop-read.yielded c.loop-read.read-iterator c.loop-read.yielded_by c.next.result
    c.next.new.self (c.in-Some.read, c.in-Some.name) c.in-Some.is
    c.next.ensures.steps in
    let long = sym (length_push c.loop-read.yielded (c.in-Some.read, c.in-Some.name)) in
    record {
      kinds = subst (λ n. c.add.new.self.kinds ≡ map kind_in (take n pairs)) long
          (kept_more kind_in pairs (length c.loop-read.yielded)
          (c.in-Some.read, c.in-Some.name) c.loop-read.sorted.kinds c.add.new.self.kinds turn
          c.loop-read.invariant.kinds c.in_ok-add.ensures.0);
      names = subst (λ n. c.add.new.self.names ≡ map names_in_pair (take n pairs)) long
          (kept_more names_in_pair pairs (length c.loop-read.yielded)
          (c.in-Some.read, c.in-Some.name) c.loop-read.sorted.names c.add.new.self.names turn
          c.loop-read.invariant.names c.in_ok-add.ensures.1);
      triples = subst (λ n. c.add.new.self.triples ≡ map triples_in (take n pairs)) long
          (kept_more triples_in pairs (length c.loop-read.yielded)
          (c.in-Some.read, c.in-Some.name) c.loop-read.sorted.triples c.add.new.self.triples turn
          c.loop-read.invariant.triples c.in_ok-add.ensures.2);
    }

pub returns : goal.returns
returns c =
    let listed = c.into_vec.ensures ∙ c.in_ok-names.ensures in
    let road = YieldsList-at c.into_iter-read-iterator.ensures.into_iter_gives
    (YieldsList-from_zip
    (YieldsList-at c.zip-read-items.ensures.first
    (YieldsList-from_vec {s = c.into_iter.result} c.args.types.list.items c.into_iter.ensures.rest
    (c.into_iter.ensures.len ∙ c.args.types.list.ok.0)))
    (YieldsList-from_vec (names_in c.args.types.names) (c.zip-read-items.ensures.second.0 ∙ listed)
    (c.zip-read-items.ensures.second.1 ∙ c.into_vec.result.ok.0 ∙ ap length listed))) in
    let pairs = zip c.args.types.list.items (names_in c.args.types.names) in
    let same : length (names_in c.args.types.names) ≡ length c.args.types.list.items = c.requires
    ∙ length-map c.args.types.list.items type_in in
    let end = YieldsList-end road c.loop-read.yielded c.loop-read.read-iterator c.loop-read.yielded_by c.next.result
    c.next.new.self c.in-None.is c.next.ensures.steps in (
      kept_all kind_in pairs (length c.loop-read.yielded) c.loop-read.sorted.kinds end.1 c.loop-read.invariant.kinds
          ∙ kinds_sorted c.args.types.list.items (names_in c.args.types.names) same,
      kept_all names_in_pair pairs (length c.loop-read.yielded) c.loop-read.sorted.names end.1
          c.loop-read.invariant.names
          ∙ names_sorted c.args.types.list.items (names_in c.args.types.names) same,
      kept_all triples_in pairs (length c.loop-read.yielded) c.loop-read.sorted.triples end.1
          c.loop-read.invariant.triples
          ∙ triples_sorted c.args.types.list.items (names_in c.args.types.names) same,
    )

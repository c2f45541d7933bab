-- A rising turn asks about at most as many transactions as it has records, and asks clients; who rises asks few sites.
use Rattle.std.proofs.Common.{◌≡◌, ℕ, zero, suc, Ordering, Less, Equal, Greater, ◌+◌, ◌<◌, ◌≤◌, not, Bool, true}
use Rattle.std.proofs.Common.{false, cond, List, [], ◌∷◌, filter, fold, length, map, take, refl, arith, length-append}
use Rattle.std.proofs.Common.{sym, subst}
use Rattle.std.specs.List.{AllByRecursion as Every}
use Rattle.std.proofs.lemmas.List.{length-map}
use Rattle.qc_list.specs.Vocabulary.{by_order, inserted}
use Rattle.qc_list.proofs.Members.{every-In, every-from_In}
use Rattle.qc_core.specs.Vocabulary.{AsksFew, actor_rises}
use Rattle.qc_decl.specs.Vocabulary.{actors, is_client, is_site}
use Rattle.qc_decl.specs.declared.declaration.Declaration.{Declaration}
use Rattle.qc_entry.specs.declared.record.Prepared.{Prepared}
use Rattle.qc_msg.specs.declared.record.Record.{Record}
use Rattle.qc_msg.specs.declared.record.Record.TheVariants as records
use Rattle.qc_msg.specs.declared.turn.Posting.{Posting}
use Rattle.qc_recover.specs.Vocabulary.{Kept, inquiries, inquiry, keeps, kept_by, most_inquiries, nothing_kept}
use Rattle.qc_recover.specs.Vocabulary.{with_promise}
use Rattle.qc_site.specs.Vocabulary.{in_order, without_prepared}
use Rattle.qc_core.proofs.ByNumber.{rises_by}
use Rattle.qc_recover.proofs.Asked.{first_every}
use Rattle.qc_site.proofs.InOrder.{In_order_is}
use Rattle.qc_recover.proofs.Promised.{each_promise}
use Rattle.qc_stamp.specs.Vocabulary.{same_tx, tx_cmp}
use Rattle.qc_stamp.specs.declared.stamp.TxId.{TxId}
use Rattle.laws_bounds.specs.Vocabulary.{IsRisingShort, PromisesDeclared}

-- how many

filter_fewer : {A : Type 0} (test : A → Bool) (xs : List A) → length (filter test xs) ≤ length xs
filter_fewer test [] = omega arith
filter_fewer test (x ∷ xs) = by (test x) (filter_fewer test xs)
  where
    by : (t : Bool) → length (filter test xs) ≤ length xs
        → length (cond t (x ∷ filter test xs) (filter test xs)) ≤ length (x ∷ xs)
    by true fewer = omega arith
    by false fewer = omega arith

promise_more : (ps : List Prepared) (p : Prepared) → length (with_promise ps p) ≤ length ps + 1
promise_more ps p =
    let fewer : length (without_prepared ps p.tx) ≤ length ps =
    filter_fewer (λ (q : Prepared). not (same_tx q.tx p.tx)) ps in
    let longer : length (with_promise ps p) ≡ length (without_prepared ps p.tx) + 1 =
    length-append (without_prepared ps p.tx) (p ∷ []) in
    omega arith

keeps_more : (k : Kept) (r : Record) → length (keeps k r).promises ≤ length k.promises + 1
keeps_more k records.Life = omega arith
keeps_more k (records.Prepare p) = promise_more k.promises p
keeps_more k (records.Done tx clock) =
    (let fewer : length (without_prepared k.promises tx) ≤ length k.promises = filter_fewer
    (λ (q : Prepared). not (same_tx q.tx tx)) k.promises in omega arith)
keeps_more k (records.Close epoch) = omega arith
keeps_more k (records.Install start) = omega arith
keeps_more k (records.Commit c) = omega arith
keeps_more k (records.Decide start) = omega arith

kept_more : (rs : List Record) (k : Kept) → length (fold keeps k rs).promises ≤ length k.promises + length rs
kept_more [] k = omega arith
kept_more (r ∷ rs) k =
    let one : length (keeps k r).promises ≤ length k.promises + 1 = keeps_more k r in
    let more : length (fold keeps (keeps k r) rs).promises ≤ length (keeps k r).promises + length rs =
    kept_more rs (keeps k r) in
    omega arith

inserted_more : (txs : List TxId) (tx : TxId) → length (inserted tx_cmp txs tx) ≤ length txs + 1
inserted_more [] tx = omega arith
inserted_more (t ∷ ts) tx = by (tx_cmp tx t) (inserted_more ts tx)
  where
    by : (o : Ordering) → length (inserted tx_cmp ts tx) ≤ length ts + 1
        → length (by_order o (tx ∷ t ∷ ts) (tx ∷ ts) (t ∷ inserted tx_cmp ts tx)) ≤ length (t ∷ ts) + 1
    by Less more = omega arith
    by Equal more = omega arith
    by Greater more = omega arith

ordered_more : (more txs : List TxId) → length (fold (inserted tx_cmp) txs more) ≤ length txs + length more
ordered_more [] txs = omega arith
ordered_more (t ∷ ts) txs =
    let one : length (inserted tx_cmp txs t) ≤ length txs + 1 = inserted_more txs t in
    let more : length (fold (inserted tx_cmp) (inserted tx_cmp txs t) ts) ≤ length (inserted tx_cmp txs t) + length ts =
    ordered_more ts (inserted tx_cmp txs t) in
    omega arith

first_fewer : {A : Type 0} (n : ℕ) (xs : List A) → length (take n xs) ≤ length xs
first_fewer zero xs = omega arith
first_fewer (suc n) [] = omega arith
first_fewer (suc n) (x ∷ xs) = let rest : length (take n xs) ≤ length xs = first_fewer n xs in omega arith

first_few : {A : Type 0} (n : ℕ) (xs : List A) → length (take n xs) ≤ n
first_few zero xs = omega arith
first_few (suc n) [] = omega arith
first_few (suc n) (x ∷ xs) = let rest : length (take n xs) ≤ n = first_few n xs in omega arith

module _ (decl : Declaration) where
  bounded_inquiries : (rs : List Record) → length (inquiries decl (kept_by rs).promises) ≤ most_inquiries
  bounded_inquiries rs =
      let txs : List TxId = in_order (map (λ (p : Prepared). p.tx) (kept_by rs).promises) in
      subst (λ (n : ℕ). n ≤ most_inquiries) (sym (length-map (take most_inquiries txs) (inquiry decl)))
      (first_few most_inquiries txs)

  few_inquiries : (rs : List Record) → length (inquiries decl (kept_by rs).promises) ≤ length rs
  few_inquiries rs =
      let txs : List TxId = map (λ (p : Prepared). p.tx) (kept_by rs).promises in
      let sent : length (map (inquiry decl) (take most_inquiries (in_order txs)))
      ≡ length (take most_inquiries (in_order txs)) =
      length-map (take most_inquiries (in_order txs)) (inquiry decl) in
      let first : length (take most_inquiries (in_order txs)) ≤ length (in_order txs) =
      first_fewer most_inquiries (in_order txs) in
      let few : length (in_order txs) ≤ 0 + length txs = ordered_more txs [] in
      let names : length txs ≡ length (kept_by rs).promises =
      length-map (kept_by rs).promises (λ (p : Prepared). p.tx) in
      let kept : length (kept_by rs).promises ≤ 0 + length rs = kept_more rs nothing_kept in
      omega arith

  -- whom

  promised_client : (rs : List Record) → Every (PromisesDeclared decl) rs
      → Every (λ (p : Prepared). p.tx.client < decl.clients) (kept_by rs).promises
  promised_client rs all =
      each_promise (λ (p : Prepared). p.tx.client < decl.clients) rs
      (λ p among. every-In (PromisesDeclared decl) (records.Prepare p) rs all among)

  names_all : (P : TxId → Type 0) (ps : List Prepared) → Every (λ (p : Prepared). P p.tx) ps
      → Every P (map (λ (p : Prepared). p.tx) ps)
  names_all P [] all = tt
  names_all P (p ∷ ps) all = (all.0, names_all P ps all.1)

  inquiries_low : (txs : List TxId) → Every (λ (tx : TxId). tx.client < decl.clients) txs
      → Every (λ (p : Posting). p.to < actors decl) (map (inquiry decl) txs)
  inquiries_low [] all = tt
  inquiries_low (tx ∷ txs) all = ((let low : tx.client < decl.clients = all.0 in omega arith), inquiries_low txs all.1)

  receivers : (rs : List Record) → Every (PromisesDeclared decl) rs
      → Every (λ (p : Posting). p.to < actors decl) (inquiries decl (kept_by rs).promises)
  receivers rs all =
      let txs : List TxId = map (λ (p : Prepared). p.tx) (kept_by rs).promises in
      let low : Every (λ (tx : TxId). tx.client < decl.clients) txs =
      names_all (λ (tx : TxId). tx.client < decl.clients) (kept_by rs).promises (promised_client rs all) in
      inquiries_low (take most_inquiries (in_order txs))
      (first_every (λ (tx : TxId). tx.client < decl.clients) most_inquiries (in_order txs)
      (every-from_In (λ (tx : TxId). tx.client < decl.clients) (in_order txs)
      (λ tx among. every-In (λ (tx : TxId). tx.client < decl.clients) tx txs low ((In_order_is tx txs).0 among))))

  pub rising_short : (a : ℕ) (rs : List Record) → Every (PromisesDeclared decl) rs
      → IsRisingShort decl rs (actor_rises decl a rs).turn
  rising_short a rs all = by (is_site decl a) (is_client decl a)
    where
      by : (site client : Bool) → IsRisingShort decl rs (rises_by decl a rs site client).turn
      by true client =
          record {
            few = few_inquiries rs;
            bounded = bounded_inquiries rs;
            receivers = receivers rs all;
            failed_sends = refl;
          }
      by false true = record { few = omega arith; bounded = omega arith; receivers = tt; failed_sends = refl }
      by false false = record { few = omega arith; bounded = omega arith; receivers = tt; failed_sends = refl }

  -- an actor that has risen numbers what it asked: nothing
  pub rising_asks_few : (a : ℕ) (rs : List Record) → AsksFew (actor_rises decl a rs).actor
  rising_asks_few a rs = by (is_site decl a) (is_client decl a)
    where
      by : (site client : Bool) → AsksFew (rises_by decl a rs site client).actor
      by true client = tt
      by false true = (tt, tt)
      by false false = tt

-- Records that all fit are few and of declared clients; and where one is read that doesn't fit.
use Rattle.std.proofs.Common.{◌≡◌, inl, inr, ℕ, zero, suc, ◌+◌, ◌<◌, ◌≤◌, Bool, true, false, ◌&&◌, nat_lt, List, []}
use Rattle.std.proofs.Common.{◌∷◌, ◌++◌, Vec, length, drop, get_or, refl, sym, ◌∙◌, ap, subst, arith, ltb-true}
use Rattle.std.proofs.Common.{append_assoc, length-append}
use Rattle.std.specs.declared.alloc.Global.{Global}
use Rattle.qc_decl.specs.Vocabulary.{IsAccepted, is_site, most_clients}
use Rattle.qc_decl.specs.declared.declaration.Declaration.{Declaration}
use Rattle.qc_entry.specs.declared.record.Prepared.{Prepared}
use Rattle.qc_fit.specs.Vocabulary.{fits, has_client, is_of, is_prepared_fit, most_records}
use Rattle.qc_journal.specs.Vocabulary.{lists}
use Rattle.qc_list.specs.Vocabulary.{In}
use Rattle.qc_list.proofs.Members.{every-append}
use Rattle.qc_msg.specs.declared.record.Record.{Record}
use Rattle.qc_msg.specs.declared.record.Record.TheVariants as records
use Rattle.qc_record.specs.Vocabulary.{is_legal, spelled}
use Rattle.qc_process.specs.Vocabulary.{AreLegal, AreUnfit, IsFirstUnfit, all_fit, bodies_of, bytes_of}
use Rattle.qc_process.proofs.Going.{bodies_more}
use Rattle.qc_list.proofs.Booleans.{and_parts}

pub fits_few : (decl : Declaration) (a n : ℕ) (r : Record) → fits decl a n r ≡ true → n < most_records
fits_few decl a n r is = ltb-true n most_records (and_parts (nat_lt n most_records) (is_of decl a r) is).0

few_from : (decl : Declaration) (a n : ℕ) (rs : List Record) → all_fit decl a n rs ≡ true → n ≤ most_records
    → n + length rs ≤ most_records
few_from decl a n [] is low = omega arith
few_from decl a n (r ∷ rs) is low =
    let parts = and_parts (fits decl a n r) (all_fit decl a (n + 1) rs) is in
    let here : n < most_records = fits_few decl a n r parts.0 in
    let later : (n + 1) + length rs ≤ most_records = few_from decl a (n + 1) rs parts.1 (omega (arith, here)) in
    omega (arith, later)

pub few : (decl : Declaration) (a : ℕ) (rs : List Record) → all_fit decl a 0 rs ≡ true → length rs ≤ most_records
few decl a rs is =
    let all : 0 + length rs ≤ most_records = few_from decl a 0 rs is (omega arith) in omega (arith, all)

prepare_client : (decl : Declaration) (a n : ℕ) (p : Prepared) → fits decl a n (records.Prepare p) ≡ true
    → p.tx.client < decl.clients
prepare_client decl a n p is =
    let of_it = (and_parts (nat_lt n most_records) (is_of decl a (records.Prepare p)) is).1 in
    let fit = (and_parts (is_site decl a) (is_prepared_fit decl p) of_it).1 in
    ltb-true p.tx.client decl.clients (and_parts (has_client decl p.tx.client) _ fit).0

clients_from : (decl : Declaration) (a n : ℕ) (rs : List Record) (p : Prepared) → all_fit decl a n rs ≡ true
    → In (records.Prepare p) rs → p.tx.client < decl.clients
clients_from decl a n [] p is there = absurd there
clients_from decl a n (r ∷ rs) p is (inl same) =
    let parts = and_parts (fits decl a n r) (all_fit decl a (n + 1) rs) is in
    prepare_client decl a n p (ap (fits decl a n) same ∙ parts.0)
clients_from decl a n (r ∷ rs) p is (inr there) =
    let parts = and_parts (fits decl a n r) (all_fit decl a (n + 1) rs) is in
    clients_from decl a (n + 1) rs p parts.1 there

pub clients : (decl : Declaration) (a : ℕ) (rs : List Record) (p : Prepared) → IsAccepted decl
    → all_fit decl a 0 rs ≡ true → In (records.Prepare p) rs → p.tx.client < most_clients
clients decl a rs p accepted is there =
    let here : p.tx.client < decl.clients = clients_from decl a 0 rs p is there in
    let bound : decl.clients ≤ most_clients = accepted.clients in
    omega (arith, here, bound)

-- one more that fits

and_more : (b : Bool) (rest : Bool) → b ≡ true → rest ≡ true → (b && rest) ≡ true
and_more true rest is more = more
and_more false rest is more = absurd (cc is)

pub fit_more : (decl : Declaration) (a n : ℕ) (rs : List Record) (r : Record) → all_fit decl a n rs ≡ true
    → fits decl a (n + length rs) r ≡ true → all_fit decl a n (rs ++ r ∷ []) ≡ true
fit_more decl a n [] r is fit =
    and_more (fits decl a n r) true (let same : n + 0 ≡ n = omega arith in ap (λ k. fits decl a k r) (sym same) ∙ fit)
    refl
fit_more decl a n (x ∷ rs) r is fit =
    let parts = and_parts (fits decl a n x) (all_fit decl a (n + 1) rs) is in
    let same : n + length (x ∷ rs) ≡ (n + 1) + length rs = omega arith in
    and_more (fits decl a n x) (all_fit decl a (n + 1) (rs ++ r ∷ [])) parts.0
    (fit_more decl a (n + 1) rs r parts.1 (ap (λ k. fits decl a k r) (sym same) ∙ fit))

-- bodies that are left to read

pub dropped : (xs : List (Vec ℕ Global)) (i : ℕ) (x d : Vec ℕ Global) → i < length xs → x ≡ get_or xs i d
    → drop i xs ≡ x ∷ drop (suc i) xs
dropped [] i x d within at = absurd (omega (arith, within))
dropped (y ∷ xs) zero x d within at = ap (λ (v : Vec ℕ Global). v ∷ xs) (sym at)
dropped (y ∷ xs) (suc i) x d within at = dropped xs i x d (omega (arith, within)) at

-- where one doesn't fit, whatever records these are
unfit_at : (decl : Declaration) (a n : ℕ) (front : List (List ℕ)) (body : List ℕ) (rest : List (List ℕ))
    (rs : List Record) → AreLegal rs → front ++ body ∷ rest ≡ bodies_of rs
    → ((r : Record) → is_legal r ≡ true → body ≡ spelled r → fits decl a (n + length front) r ≡ false)
    → all_fit decl a n rs ≡ false
unfit_at decl a n [] body rest [] legal same never = absurd (cc same)
unfit_at decl a n [] body rest (r ∷ rs) legal same never =
    let plain : n + 0 ≡ n = omega arith in
    let unfit : fits decl a n r ≡ false = ap (λ k. fits decl a k r) (sym plain) ∙ never r legal.0 (cc same) in
    ap (λ (b : Bool). b && all_fit decl a (n + 1) rs) unfit
unfit_at decl a n (f ∷ front) body rest [] legal same never = absurd (cc same)
unfit_at decl a n (f ∷ front) body rest (r ∷ rs) legal same never =
    let next : n + length (f ∷ front) ≡ (n + 1) + length front = omega arith in
    either (fits decl a n r)
    (unfit_at decl a (n + 1) front body rest rs legal.1 (cc same)
    (λ q is at. ap (λ k. fits decl a k q) (sym next) ∙ never q is at))
  where
    either : (b : Bool) → all_fit decl a (n + 1) rs ≡ false → (b && all_fit decl a (n + 1) rs) ≡ false
    either true is = is
    either false is = refl

pub length_bodies : (rs : List Record) → length (bodies_of rs) ≡ length rs
length_bodies [] = refl
length_bodies (r ∷ rs) = omega (arith, length_bodies rs)

module _ (decl : Declaration) (a : ℕ) (found : List Record) (bodies : List (Vec ℕ Global)) (i : ℕ)
    (b : Vec ℕ Global) (within : i < length bodies) (at : b ≡ get_or bodies i b)
    (spell : bodies_of found ++ lists (drop i bodies) ≡ lists bodies) where
  pub whole : bodies_of found ++ b.items ∷ lists (drop (suc i) bodies) ≡ lists bodies
  whole =
      ap (λ (l : List (Vec ℕ Global)). bodies_of found ++ lists l) (sym (dropped bodies i b b within at)) ∙ spell

  pub unfit_here : ((r : Record) → is_legal r ≡ true → b.items ≡ spelled r → fits decl a (length found) r ≡ false)
      → AreUnfit decl a (lists bodies)
  unfit_here never rs legal same =
      unfit_at decl a 0 (bodies_of found) b.items (lists (drop (suc i) bodies)) rs legal (whole ∙ same)
      (λ r is spells. (
      let plain : 0 + length (bodies_of found) ≡ length found = omega (arith, length_bodies found) in
      ap (λ k. fits decl a k r) plain ∙ never r is spells
      ))

  pub first_here : (offset : ℕ) → AreLegal found → all_fit decl a 0 found ≡ true
      → offset ≡ bytes_of (bodies_of found)
      → ((r : Record) → is_legal r ≡ true → b.items ≡ spelled r → fits decl a (length found) r ≡ false)
      → IsFirstUnfit decl a (lists bodies) offset
  first_here offset legal fit offset_is never = record {
    records = found;
    body = b.items;
    later = lists (drop (suc i) bodies);
    whole = sym whole;
    legal = legal;
    fit = fit;
    unfit = never;
    offset_is = offset_is;
  }

bytes_more : (rs : List Record) (r : Record) → bytes_of (bodies_of (rs ++ r ∷ []))
    ≡ bytes_of (bodies_of rs) + (5 + length (spelled r))
bytes_more [] r = omega arith
bytes_more (x ∷ rs) r = omega (arith, bytes_more rs r)

-- one more was read that fits
module _ (decl : Declaration) (a : ℕ) (found more : List Record) (r : Record) (body : List ℕ)
    (more_is : more ≡ found ++ r ∷ []) (spells : body ≡ spelled r) where
  pub legal_more : AreLegal found → is_legal r ≡ true → AreLegal more
  legal_more legal is =
      subst AreLegal (sym more_is) (every-append (λ (x : Record). is_legal x ≡ true) found (r ∷ []) legal (is, tt))

  pub spells_more : (rest : List (List ℕ)) (all : List (List ℕ)) → bodies_of found ++ body ∷ rest ≡ all
      → bodies_of more ++ rest ≡ all
  spells_more rest all is =
      ap (λ (l : List Record). bodies_of l ++ rest) more_is
      ∙ ap (λ (l : List (List ℕ)). l ++ rest) (bodies_more found r)
      ∙ append_assoc (bodies_of found) (spelled r ∷ []) rest
      ∙ ap (λ (b : List ℕ). bodies_of found ++ b ∷ rest) (sym spells)
      ∙ is

  pub all_more : all_fit decl a 0 found ≡ true → fits decl a (length found) r ≡ true → all_fit decl a 0 more ≡ true
  all_more fit is =
      let plain : 0 + length found ≡ length found = omega arith in
      ap (all_fit decl a 0) more_is
      ∙ fit_more decl a 0 found r fit (ap (λ k. fits decl a k r) plain ∙ is)

  pub length_more : length more ≡ length found + 1
  length_more =
      let same : length more ≡ length (found ++ r ∷ []) = ap length more_is in
      omega (arith, same, length-append found (r ∷ []))

  pub offset_more : (offset : ℕ) → offset ≡ bytes_of (bodies_of found)
      → offset + (5 + length body) ≡ bytes_of (bodies_of more)
  offset_more offset is =
      let long : length body ≡ length (spelled r) = ap length spells in
      let whole : bytes_of (bodies_of more) ≡ bytes_of (bodies_of found) + (5 + length (spelled r)) =
      ap (λ (l : List Record). bytes_of (bodies_of l)) more_is ∙ bytes_more found r in
      omega (arith, is, long, whole)

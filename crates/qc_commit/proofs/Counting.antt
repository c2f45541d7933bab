-- How the ballots of a commit grow by what is taken: the first thing for each Prepare counts.
use Rattle.std.proofs.Common.{◌≡◌, ℕ, ◌+◌, ◌<◌, ◌==◌, ◌⊎◌, Bool, true, false, cond, not, List, [], ◌∷◌, ◌++◌, max}
use Rattle.std.proofs.Common.{Option, Some, None, option_map, inl, inr, refl, sym, ap, ◌∙◌, subst, arith}
use Rattle.std.specs.List.{find}
use Rattle.std.specs.Option.{is_none, option_map_or, option_or}
use Rattle.std.proofs.lemmas.Bool.{cases_eq, eq-eqb, ne_eqb}
use Rattle.std.proofs.lemmas.List.Folds.{find-append}
use Rattle.qc_list.specs.Vocabulary.{In}
use Rattle.qc_msg.specs.declared.begun.Begun.{Begun}
use Rattle.qc_msg.specs.declared.call.Call.{Call}
use Rattle.qc_msg.specs.declared.message.Answer.{Answer}
use Rattle.qc_msg.specs.Vocabulary.{site_called, without_call}
use Rattle.qc_commit.specs.declared.ballot.Ballot.{Ballot}
use Rattle.qc_commit.specs.Vocabulary.{Taken, ballots_by, cast, first_taken, greatest_promised, open_calls, promised}
use Rattle.qc_commit.specs.Vocabulary.{vote_of}
use Rattle.qc_commit.proofs.Once.{Once}

pub max-assoc : (a b c : ℕ) → max (max a b) c ≡ max a (max b c)
max-assoc a b c = omega arith

-- what is taken first, with more

found-more : (p : Taken → Bool) (takes more : List Taken) (a : Option Answer)
    → option_map (λ (t : Taken). t.answer) (find p takes) ≡ Some a
    → option_map (λ (t : Taken). t.answer) (find p (takes ++ more)) ≡ Some a
found-more p takes more a is = rw (find-append p takes more) (by (find p takes) is) where
  by : (o : Option Taken) → option_map (λ (t : Taken). t.answer) o ≡ Some a
      → option_map (λ (t : Taken). t.answer) (option_or o (find p more)) ≡ Some a
  by None never = absurd (let no : ⊥ = cc in no)
  by (Some t) found = found

-- what was taken stays
pub taken-stays : (takes more : List Taken) (n : ℕ) (a : Option Answer) → first_taken takes n ≡ Some a
    → first_taken (takes ++ more) n ≡ Some a
taken-stays takes more n a is = found-more (λ (t : Taken). t.number == n) takes more a is

found-one : (p : Taken → Bool) (takes : List Taken) (t : Taken) (b : Bool) → p t ≡ b → find p takes ≡ None
    → find p (takes ++ t ∷ []) ≡ cond b (Some t) None
found-one p takes t b is none = find-append p takes (t ∷ []) ∙ rw (none, is) refl

none-found : (p : Taken → Bool) (takes : List Taken) → option_map (λ (t : Taken). t.answer) (find p takes) ≡ None
    → find p takes ≡ None
none-found p takes is = by (find p takes) is where
  by : (o : Option Taken) → option_map (λ (t : Taken). t.answer) o ≡ None → o ≡ None
  by None none = refl
  by (Some t) never = absurd (let no : ⊥ = cc in no)

-- the first that is taken for a number
pub taken-now : (takes : List Taken) (t : Taken) (n : ℕ) → first_taken takes n ≡ None → t.number ≡ n
    → first_taken (takes ++ t ∷ []) n ≡ Some t.answer
taken-now takes t n none same =
    ap (λ (o : Option Taken). option_map (λ (u : Taken). u.answer) o)
    (found-one (λ (u : Taken). u.number == n) takes t true (eq-eqb t.number n same)
    (none-found (λ (u : Taken). u.number == n) takes none))

-- what is taken for another
pub taken-other : (takes : List Taken) (t : Taken) (n : ℕ) → (t.number ≡ n → ⊥)
    → first_taken (takes ++ t ∷ []) n ≡ first_taken takes n
taken-other takes t n other = by (first_taken takes n) refl where
  by : (o : Option (Option Answer)) → first_taken takes n ≡ o → first_taken (takes ++ t ∷ []) n ≡ o
  by None none = ap (λ (o : Option Taken). option_map (λ (u : Taken). u.answer) o)
      (found-one (λ (u : Taken). u.number == n) takes t false (ne_eqb t.number n other)
      (none-found (λ (u : Taken). u.number == n) takes none))
  by (Some a) some = taken-stays takes (t ∷ []) n a some

-- Prepares are numbered from the first on

called-below : (n m : ℕ) (bs : List Ballot) → m < n → find (λ (c : Call). c.number == m) (open_calls n bs) ≡ None
called-below n m [] low = refl
called-below n m (x ∷ bs) low = by (is_none x.vote) (called-below (n + 1) m bs (omega arith)) where
  by : (t : Bool) → find (λ (c : Call). c.number == m) (open_calls (n + 1) bs) ≡ None
      → find (λ (c : Call). c.number == m) (cond t (record { number = n; site = x.site } ∷ open_calls (n + 1) bs)
      (open_calls (n + 1) bs)) ≡ None
  by true none = rw (ne_eqb n m (λ same. omega arith)) none
  by false none = none

kept-below : (n m : ℕ) (bs : List Ballot) → m < n → without_call (open_calls n bs) m ≡ open_calls n bs
kept-below n m [] low = refl
kept-below n m (x ∷ bs) low = by (is_none x.vote) (kept-below (n + 1) m bs (omega arith)) where
  by : (t : Bool) → without_call (open_calls (n + 1) bs) m ≡ open_calls (n + 1) bs
      → without_call (cond t (record { number = n; site = x.site } ∷ open_calls (n + 1) bs) (open_calls (n + 1) bs)) m
      ≡ cond t (record { number = n; site = x.site } ∷ open_calls (n + 1) bs) (open_calls (n + 1) bs)
  by true rest = rw (ne_eqb n m (λ same. omega arith))
      (ap (λ (cs : List Call). record { number = n; site = x.site } ∷ cs) rest)
  by false rest = rest

-- what is taken under a number below the first

ballots-above : (b : Begun) (takes : List Taken) (t : Taken) (n : ℕ) (sites : List ℕ) → t.number < n
    → ballots_by b (takes ++ t ∷ []) n sites ≡ ballots_by b takes n sites
ballots-above b takes t n [] low = refl
ballots-above b takes t n (site ∷ sites) low =
    let same : first_taken (takes ++ t ∷ []) n ≡ first_taken takes n = taken-other takes t n (λ same. omega arith) in
    let rest : ballots_by b (takes ++ t ∷ []) (n + 1) sites ≡ ballots_by b takes (n + 1) sites =
    ballots-above b takes t (n + 1) sites (omega arith) in
    λ i. record { site = site; vote = option_map (vote_of b site) (same i) } ∷ rest i

promised-above : (takes : List Taken) (t : Taken) (n : ℕ) (sites : List ℕ) → t.number < n
    → greatest_promised (takes ++ t ∷ []) n sites ≡ greatest_promised takes n sites
promised-above takes t n [] low = refl
promised-above takes t n (site ∷ sites) low =
    let same : first_taken (takes ++ t ∷ []) n ≡ first_taken takes n = taken-other takes t n (λ same. omega arith) in
    let rest : greatest_promised (takes ++ t ∷ []) (n + 1) sites ≡ greatest_promised takes (n + 1) sites =
    promised-above takes t (n + 1) sites (omega arith) in
    λ i. max (option_map_or promised (same i) 0) (rest i)

-- what is taken under a number that no open Prepare has changes nothing

pub record IsUncounted (b : Begun) (takes : List Taken) (t : Taken) (n : ℕ) (sites : List ℕ) : Type 0 where
  pub ballots : ballots_by b (takes ++ t ∷ []) n sites ≡ ballots_by b takes n sites
  pub promises : greatest_promised (takes ++ t ∷ []) n sites ≡ greatest_promised takes n sites

uncounted-next : (b : Begun) (takes : List Taken) (t : Taken) (n site : ℕ) (sites : List ℕ)
    → first_taken (takes ++ t ∷ []) n ≡ first_taken takes n
    → IsUncounted b takes t (n + 1) sites → IsUncounted b takes t n (site ∷ sites)
uncounted-next b takes t n site sites same rest = record {
  ballots = λ i. record { site = site; vote = option_map (vote_of b site) (same i) } ∷ rest.ballots i;
  promises = λ i. max (option_map_or promised (same i) 0) (rest.promises i);
}

pub uncounted : (b : Begun) (takes : List Taken) (t : Taken) (n : ℕ) (sites : List ℕ)
    → site_called (open_calls n (ballots_by b takes n sites)) t.number ≡ None → IsUncounted b takes t n sites
uncounted b takes t n [] none = record { ballots = refl; promises = refl }
uncounted b takes t n (site ∷ sites) none = by (first_taken takes n) refl none (uncounted b takes t (n + 1) sites) where
  by : (o : Option (Option Answer)) → first_taken takes n ≡ o
      → site_called (open_calls n (record { site = site; vote = option_map (vote_of b site) o } ∷ ballots_by b takes
      (n + 1) sites)) t.number ≡ None
      → (site_called (open_calls (n + 1) (ballots_by b takes (n + 1) sites)) t.number ≡ None
      → IsUncounted b takes t (n + 1) sites)
      → IsUncounted b takes t n (site ∷ sites)
  by (Some a) is none rest = uncounted-next b takes t n site sites (taken-stays takes (t ∷ []) n a is ∙ sym is)
      (rest none)
  by None is none rest = other (cases_eq n t.number) where
    other : (n ≡ t.number) ⊎ (n ≡ t.number → ⊥) → IsUncounted b takes t n (site ∷ sites)
    other (inl same) = absurd (let is_some : (n == t.number) ≡ true = eq-eqb n t.number same in
        let never = rw is_some at none in let no : ⊥ = cc in no)
    other (inr apart) =
        uncounted-next b takes t n site sites (taken-other takes t n (λ e. apart (sym e)))
        (rest (rw (ne_eqb n t.number apart) at none))

-- what is taken for an open Prepare is its vote

pub record IsCounted (b : Begun) (takes : List Taken) (t : Taken) (n : ℕ) (sites : List ℕ) (s : ℕ) : Type 0 where
  pub member : In s sites
  pub ballots : cast (ballots_by b takes n sites) s (vote_of b s t.answer) ≡ ballots_by b (takes ++ t ∷ []) n sites
  pub calls : without_call (open_calls n (ballots_by b takes n sites)) t.number ≡ open_calls n
      (ballots_by b (takes ++ t ∷ []) n sites)
  pub promises : greatest_promised (takes ++ t ∷ []) n sites ≡ max (greatest_promised takes n sites) (promised t.answer)

-- for one of the sites after the first
counted-next : (b : Begun) (takes : List Taken) (t : Taken) (n site : ℕ) (sites : List ℕ) (s : ℕ)
    → first_taken (takes ++ t ∷ []) n ≡ first_taken takes n
    → (n ≡ t.number → ⊥) → (In site sites → ⊥) → IsCounted b takes t (n + 1) sites s
    → IsCounted b takes t n (site ∷ sites) s
counted-next b takes t n site sites s same apart once rest = record {
  member = inr rest.member;
  ballots =
      ap (λ (x : Bool). cond x (record { site = s; vote = Some (vote_of b s t.answer) } ∷ ballots_by b takes
      (n + 1) sites)
      (head ∷ cast (ballots_by b takes (n + 1) sites) s (vote_of b s t.answer))) other
      ∙ (λ i. record { site = site; vote = option_map (vote_of b site) (sym same i) } ∷ rest.ballots i);
  calls = by (is_none head.vote) ∙ (λ i. cond (is_none (option_map (vote_of b site) (sym same i)))
      (record { number = n; site = site } ∷ open_calls (n + 1) (ballots_by b (takes ++ t ∷ []) (n + 1) sites))
      (open_calls (n + 1) (ballots_by b (takes ++ t ∷ []) (n + 1) sites)));
  promises =
      (λ i. max (option_map_or promised (same i) 0) (rest.promises i))
      ∙ sym (max-assoc (option_map_or promised (first_taken takes n) 0) (greatest_promised takes (n + 1) sites)
      (promised t.answer));
} where
  head : Ballot
  head = record { site = site; vote = option_map (vote_of b site) (first_taken takes n) }

  other : (site == s) ≡ false
  other = ne_eqb site s (λ e. once (subst (λ v. In v sites) (sym e) rest.member))

  by : (x : Bool) → without_call (cond x (record { number = n; site = site } ∷ open_calls (n + 1)
      (ballots_by b takes (n + 1) sites)) (open_calls (n + 1) (ballots_by b takes (n + 1) sites))) t.number
      ≡ cond x (record { number = n; site = site } ∷ open_calls (n + 1) (ballots_by b (takes ++ t ∷ []) (n + 1) sites))
      (open_calls (n + 1) (ballots_by b (takes ++ t ∷ []) (n + 1) sites))
  by true = rw (ne_eqb n t.number apart) (ap (λ (cs : List Call). record { number = n; site = site } ∷ cs) rest.calls)
  by false = rest.calls

-- for the first of the sites
counted-here : (b : Begun) (takes : List Taken) (t : Taken) (n site : ℕ) (sites : List ℕ) → first_taken takes n ≡ None
    → n ≡ t.number
    → IsCounted b takes t n (site ∷ sites) site
counted-here b takes t n site sites none same = record {
  member = inl refl;
  ballots =
      (λ i. cond (here i) (record { site = site; vote = Some (vote_of b site t.answer) } ∷ bs)
      (head ∷ cast bs site (vote_of b site t.answer)))
      ∙ (λ i. record { site = site; vote = option_map (vote_of b site) (sym now i) } ∷ sym rest i);
  calls =
      (λ i. without_call (cond (is_none (option_map (vote_of b site) (none i)))
      (record { number = n; site = site } ∷ open_calls (n + 1) bs) (open_calls (n + 1) bs)) t.number)
      ∙ (λ i. cond (not (gone i)) (record { number = n; site = site } ∷ without_call (open_calls (n + 1) bs) t.number)
      (without_call (open_calls (n + 1) bs) t.number))
      ∙ kept-below (n + 1) t.number bs (omega arith)
      ∙ ap (open_calls (n + 1)) (sym rest)
      ∙ (λ i. cond (is_none (option_map (vote_of b site) (sym now i)))
      (record { number = n; site = site } ∷ open_calls (n + 1) (ballots_by b (takes ++ t ∷ []) (n + 1) sites))
      (open_calls (n + 1) (ballots_by b (takes ++ t ∷ []) (n + 1) sites)));
  promises =
      (λ i. max (option_map_or promised (now i) 0) (promised-above takes t (n + 1) sites (omega arith) i))
      ∙ both (promised t.answer) (greatest_promised takes (n + 1) sites)
      ∙ (λ i. max (max (option_map_or promised (sym none i) 0) (greatest_promised takes (n + 1) sites))
      (promised t.answer));
} where
  bs : List Ballot
  bs = ballots_by b takes (n + 1) sites

  head : Ballot
  head = record { site = site; vote = option_map (vote_of b site) (first_taken takes n) }

  here : (site == site) ≡ true
  here = eq-eqb site site refl

  gone : (n == t.number) ≡ true
  gone = eq-eqb n t.number same

  now : first_taken (takes ++ t ∷ []) n ≡ Some t.answer
  now = taken-now takes t n none (sym same)

  rest : ballots_by b (takes ++ t ∷ []) (n + 1) sites ≡ ballots_by b takes (n + 1) sites
  rest = ballots-above b takes t (n + 1) sites (omega arith)

  both : (x y : ℕ) → max x y ≡ max (max 0 y) x
  both x y = omega arith

pub counted : (b : Begun) (takes : List Taken) (t : Taken) (n : ℕ) (sites : List ℕ) (s : ℕ) → Once sites
    → site_called (open_calls n (ballots_by b takes n sites)) t.number ≡ Some s → IsCounted b takes t n sites s
counted b takes t n [] s once called = absurd (let no : ⊥ = cc in no)
counted b takes t n (site ∷ sites) s once called =
    by (first_taken takes n) refl called (counted b takes t (n + 1) sites s once.1) where
      by : (o : Option (Option Answer)) → first_taken takes n ≡ o
          → site_called (open_calls n (record { site = site; vote = option_map (vote_of b site) o } ∷ ballots_by b takes
          (n + 1) sites)) t.number ≡ Some s
          → (site_called (open_calls (n + 1) (ballots_by b takes (n + 1) sites)) t.number ≡ Some s
          → IsCounted b takes t (n + 1) sites s)
          → IsCounted b takes t n (site ∷ sites) s
      by (Some a) is called rest = other (cases_eq n t.number) where
        other : (n ≡ t.number) ⊎ (n ≡ t.number → ⊥) → IsCounted b takes t n (site ∷ sites) s
        other (inl same) = absurd (let none = called-below (n + 1) t.number (ballots_by b takes (n + 1) sites)
            (omega arith) in let never = rw none at called in let no : ⊥ = cc in no)
        other (inr apart) =
            counted-next b takes t n site sites s (taken-stays takes (t ∷ []) n a is ∙ sym is) apart once.0
            (rest called)
      by None is called rest = other (cases_eq n t.number) where
        other : (n ≡ t.number) ⊎ (n ≡ t.number → ⊥) → IsCounted b takes t n (site ∷ sites) s
        other (inl same) =
            let found = rw (eq-eqb n t.number same) at called in
            let it : site ≡ s = cc in
            subst (λ v. IsCounted b takes t n (site ∷ sites) v) it (counted-here b takes t n site sites is same)
        other (inr apart) =
            counted-next b takes t n site sites s (taken-other takes t n (λ e. apart (sym e))) apart once.0
            (rest (rw (ne_eqb n t.number apart) at called))

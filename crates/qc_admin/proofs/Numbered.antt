-- What runs, once requests get their numbers: Closes, Asks and Installs.
use Rattle.std.proofs.Common.{[], ◌≡◌, ℕ, zero, suc, ◌+◌, ◌<◌, ◌==◌, ◌&&◌, Bool, true, false, cond, List, ◌∷◌, ◌++◌}
use Rattle.std.proofs.Common.{fold, length, map, take, Option, Some, None, is_none, refl, sym, ap, ◌∙◌, append_assoc}
use Rattle.std.proofs.Common.{arith}
use Rattle.std.proofs.lemmas.Bool.{ne_eqb}
use Rattle.std.proofs.lemmas.List.{append-nil}
use Rattle.std.proofs.lemmas.List.FromFn.{length-range_with_len}
use Rattle.qc_entry.specs.declared.record.Prepared.{Prepared}
use Rattle.qc_decl.specs.declared.declaration.Declaration.{Declaration}
use Rattle.qc_decl.specs.Vocabulary.{IsAccepted}
use Rattle.qc_msg.specs.declared.call.Call.{Call}
use Rattle.qc_msg.specs.declared.turn.Turn.{Turn}
use Rattle.qc_msg.specs.Vocabulary.{calls_from, sending, with_call}
use Rattle.qc_epoch.specs.Vocabulary.{Admin, Asking, Installing, Question, ShutSite, all_sites, ask_of, doing}
use Rattle.qc_epoch.specs.Vocabulary.{install_of, install_sends, installing, is_number, is_questioned, most_asks, moved}
use Rattle.qc_epoch.specs.Vocabulary.{numbered_first, taken_for, with_question, with_questions}
use Rattle.qc_msg.specs.declared.payload.EpochStart.{EpochStart}
use Rattle.qc_msg.specs.declared.message.Outcome.{Outcome}
use Rattle.qc_admin.specs.Vocabulary.{IsNumberedAtOnce, is_unasked, numbered_all, sent_each}

-- Installs get their numbers

installs_sent : (m : Admin) (d : EpochStart) (closed awaits : List ℕ) (calls : List Call) (first : ℕ) (sites : List ℕ)
    → sent_each (doing m (Installing closed awaits calls [])) first (map (install_of d) sites)
    ≡ doing m (Installing closed awaits (calls ++ calls_from first sites) [])
installs_sent m d closed awaits calls first [] =
    ap (λ (cs : List Call). doing m (Installing closed awaits cs [])) (sym (append-nil calls))
installs_sent m d closed awaits calls first (s ∷ ss) =
    installs_sent m d closed awaits (with_call calls first s) (first + 1) ss
    ∙ ap (λ (cs : List Call). doing m (Installing closed awaits cs []))
    (append_assoc calls (record { number = first; site = s } ∷ []) (calls_from (first + 1) ss))

count_from : (first : ℕ) (sites : List ℕ) → length (calls_from first sites) ≡ length sites
count_from first [] = refl
count_from first (s ∷ ss) = ap suc (count_from (first + 1) ss)

pub installs_new : (decl : Declaration) (m : Admin) (d : EpochStart) (closed : List ℕ) (turn : Turn) → IsAccepted decl
    → turn.sends ≡ install_sends decl d
    → IsNumberedAtOnce decl (moved (doing m (installing decl closed)) turn)
installs_new decl m d closed turn accepted are = record {
  told =
      λ first. ap (sent_each (doing m (installing decl closed)) first) are
      ∙ installs_sent m d closed (all_sites decl) [] first (all_sites decl);
  holds = λ first.
      let counted : length (calls_from first (all_sites decl)) ≡ length (all_sites decl) =
      count_from first (all_sites decl) in
      let row : length (all_sites decl) ≡ decl.sites = length-range_with_len 0 decl.sites in
      let some : 0 < decl.sites = accepted.has_site in
      ne_eqb (length (calls_from first (all_sites decl))) 0 (λ e. let never : ⊥ = omega arith in never);
}

-- Asks get their numbers

asks_sent : (decl : Declaration) (m : Admin) (next : ℕ) (shuts : List ShutSite) (qs : List Question) (first : ℕ)
    (ts : List Question)
    → sent_each (doing m (Asking next shuts qs)) first (map (ask_of decl) ts)
    ≡ doing m (Asking next shuts (numbered_all (length ts) first qs))
asks_sent decl m next shuts qs first [] = refl
asks_sent decl m next shuts qs first (t ∷ ts) = asks_sent decl m next shuts (numbered_first qs first) (first + 1) ts

-- no new question has a number

unasked_more : (qs : List Question) (q : Question) → is_unasked qs ≡ true → is_none q.number ≡ true
    → is_unasked (qs ++ q ∷ []) ≡ true
unasked_more [] q all new = ap (λ b. b && true) new
unasked_more (x ∷ xs) q all new = by (is_none x.number) all (unasked_more xs q)
  where
    by : (b : Bool) → (b && is_unasked xs) ≡ true
        → (is_unasked xs ≡ true → is_none q.number ≡ true → is_unasked (xs ++ q ∷ []) ≡ true)
        → (b && is_unasked (xs ++ q ∷ [])) ≡ true
    by true rest more = more rest new
    by false never more = absurd (let no : ⊥ = cc in no)

one_unasked : (site : ℕ) (qs : List Question) (p : Prepared) → is_unasked qs ≡ true
    → is_unasked (with_question site qs p) ≡ true
one_unasked site qs p all = by (is_questioned qs p.tx)
  where
    by : (b : Bool)
        → is_unasked (cond b qs (qs ++ record { tx = p.tx; site = site; number = None; taken = None } ∷ [])) ≡ true
    by true = all
    by false = unasked_more qs (record { tx = p.tx; site = site; number = None; taken = None }) all refl

some_unasked : (site : ℕ) (qs : List Question) (ps : List Prepared) → is_unasked qs ≡ true
    → is_unasked (fold (with_question site) qs ps) ≡ true
some_unasked site qs [] all = all
some_unasked site qs (p ∷ ps) all = some_unasked site (with_question site qs p) ps (one_unasked site qs p all)

pub all_unasked : (qs : List Question) (shuts : List ShutSite) → is_unasked qs ≡ true
    → is_unasked (fold with_questions qs shuts) ≡ true
all_unasked qs [] all = all
all_unasked qs (s ∷ ss) all = all_unasked (with_questions qs s) ss (some_unasked s.site qs s.prepared all)

-- and one that has a number keeps it

asked_first : (qs : List Question) (number : ℕ) → is_unasked qs ≡ false → is_unasked (numbered_first qs number) ≡ false
asked_first [] number some = some
asked_first (q ∷ qs) number some = by (is_none q.number) refl (asked_first qs number)
  where
    by : (b : Bool) → is_none q.number ≡ b → (is_unasked qs ≡ false → is_unasked (numbered_first qs number) ≡ false)
        → is_unasked (cond b (record q { number = Some number } ∷ qs) (q ∷ numbered_first qs number)) ≡ false
    by true is rest = refl
    by false is rest = ap (λ b. b && is_unasked (numbered_first qs number)) is

asked_all : (count number : ℕ) (qs : List Question) → is_unasked qs ≡ false
    → is_unasked (numbered_all count number qs) ≡ false
asked_all zero number qs some = some
asked_all (suc count) number qs some =
    asked_all count (number + 1) (numbered_first qs number) (asked_first qs number some)

asked_some : (number : ℕ) (qs : List Question) → (length qs == 0) ≡ false
    → is_unasked (numbered_first qs number) ≡ false
asked_some number [] some = let never : ⊥ = cc in absurd never
asked_some number (q ∷ qs) some = by (is_none q.number) refl
  where
    by : (b : Bool) → is_none q.number ≡ b
        → is_unasked (cond b (record q { number = Some number } ∷ qs) (q ∷ numbered_first qs number)) ≡ false
    by true is = refl
    by false is = ap (λ b. b && is_unasked (numbered_first qs number)) is

asked_now : (limit number : ℕ) (qs : List Question) → (length qs == 0) ≡ false
    → is_unasked (numbered_all (length (take (suc limit) qs)) number qs) ≡ false
asked_now limit number [] some = let never : ⊥ = cc in absurd never
asked_now limit number (q ∷ qs) some =
    asked_all (length (take limit qs)) (number + 1) (numbered_first (q ∷ qs) number) (asked_some number (q ∷ qs) some)

pub asking_new : (decl : Declaration) (m : Admin) (next : ℕ) (shuts : List ShutSite) (qs : List Question)
    → is_unasked qs ≡ true → (length qs == 0) ≡ false
    → IsNumberedAtOnce decl (moved (doing m (Asking next shuts qs)) (sending (map (ask_of decl) (take most_asks qs))))
asking_new decl m next shuts qs new some = record {
  told = λ first.
      asks_sent decl m next shuts qs first (take most_asks qs)
      ∙ ap (λ b. doing m (Asking next shuts (cond b (numbered_all (length (take most_asks qs)) first qs) qs)))
      (sym new);
  holds = λ first.
      ap (λ b. is_unasked (cond b (numbered_all (length (take most_asks qs)) first qs) qs)) new
      ∙ asked_now 65535 first qs some;
}

-- what is taken leaves the numbers

taken_number : (number : ℕ) (outcome : Option Outcome) (q : Question) → (taken_for number outcome q).number ≡ q.number
taken_number number outcome q = by (is_number number q.number) (is_none q.taken)
  where
    by : (b t : Bool) → (cond b (cond t (record q { taken = Some outcome }) q) q).number ≡ q.number
    by true true = refl
    by true false = refl
    by false t = refl

pub taken_asked : (number : ℕ) (outcome : Option Outcome) (qs : List Question)
    → is_unasked (map (taken_for number outcome) qs) ≡ is_unasked qs
taken_asked number outcome [] = refl
taken_asked number outcome (q ∷ qs) =
    ap (λ (n : Option ℕ). is_none n && is_unasked (map (taken_for number outcome) qs)) (taken_number number outcome q)
    ∙ ap (λ b. is_none q.number && b) (taken_asked number outcome qs)

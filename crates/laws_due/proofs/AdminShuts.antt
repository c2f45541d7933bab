-- What closed sites told, as the administrator keeps it in the order of the answers, and in asked order.
use Rattle.std.proofs.Common.{◌≡◌, ◌≢◌, ℕ, ◌==◌, Bool, true, false, List, [], ◌∷◌, ◌++◌, map, Option, Some, None}
use Rattle.std.proofs.Common.{option_map, refl, sym, ap, ◌∙◌, subst, eq-eqb, eqb-true, inl, inr}
use Rattle.std.specs.Prelude.{option_and_then}
use Rattle.std.specs.List.{filter_map}
use Rattle.std.specs.Option.{option_or}
use Rattle.std.proofs.lemmas.List.{append-nil, map-append}
use Rattle.std.proofs.lemmas.List.Elements.{filter_map-append}
use Rattle.std.proofs.lemmas.List.Folds.{find-append}
use Rattle.qc_list.specs.Vocabulary.{In}
use Rattle.qc_msg.specs.declared.message.Answer.{Answer}
use Rattle.qc_msg.specs.declared.message.Answer.TheVariants as answers
use Rattle.qc_msg.specs.Vocabulary.{shut_in}
use Rattle.qc_msg.specs.declared.payload.Snapshot.{Snapshot}
use Rattle.qc_promise.specs.Vocabulary.{AdminRequest, ToldShut, answer_to, close_asked, told_shut}
use Rattle.qc_epoch.specs.Vocabulary.{ShutSite, in_asked_order, shut_at, shut_list, with_shut_of}
use Rattle.laws_due.specs.Vocabulary.{AreApart}
use Rattle.laws_due.proofs.AdminRequests.{IsCalled, differ, numbers_of, others_taken, other_taken, sites_of, takes}
use Rattle.laws_due.proofs.AdminRequests.{this_taken, took}
use Rattle.qc_list.proofs.Members.{In-map}

abbrev pub to_shut : ToldShut → ShutSite
to_shut t = record { site = t.site; clock = t.told.clock; log = t.told.log; prepared = t.told.prepared }

-- by the account, in asked order
abbrev pub shuts_of : List AdminRequest → List ShutSite
shuts_of cs = map to_shut (filter_map told_shut cs)

abbrev shut_by : AdminRequest → Option ShutSite
shut_by q = option_map to_shut (told_shut q)

-- what an answer tells of its site

abbrev told_by : ℕ → Option Snapshot → Option ShutSite
told_by site told = option_map (λ (s : Snapshot). record
    { site = site; clock = s.clock; log = s.log; prepared = s.prepared }) told

abbrev shut_from : ℕ → Option Answer → Option ShutSite
shut_from site answer = told_by site (option_and_then shut_in answer)

pub with_shut_is : (shuts : List ShutSite) (site : ℕ) (answer : Option Answer)
    → with_shut_of shuts site answer ≡ shuts ++ shut_list (shut_from site answer)
with_shut_is shuts site None = sym (append-nil shuts)
with_shut_is shuts site (Some (answers.Granted grant)) = sym (append-nil shuts)
with_shut_is shuts site (Some (answers.Clash holder inv event)) = sym (append-nil shuts)
with_shut_is shuts site (Some (answers.Closed epoch)) = sym (append-nil shuts)
with_shut_is shuts site (Some (answers.Behind epoch)) = sym (append-nil shuts)
with_shut_is shuts site (Some (answers.Restarted life)) = sym (append-nil shuts)
with_shut_is shuts site (Some answers.Stale) = sym (append-nil shuts)
with_shut_is shuts site (Some answers.Fault) = sym (append-nil shuts)
with_shut_is shuts site (Some (answers.Yes clock)) = sym (append-nil shuts)
with_shut_is shuts site (Some (answers.Shut snapshot)) = refl
with_shut_is shuts site (Some answers.Installed) = sym (append-nil shuts)
with_shut_is shuts site (Some (answers.Answered verdict)) = sym (append-nil shuts)

shut_took : (q : AdminRequest) (answer : Option Answer) → shut_by (took q answer) ≡ shut_from q.to answer
shut_took q answer = by (option_and_then shut_in answer)
  where
    by : (o : Option Snapshot) → option_map to_shut (option_map (λ (s : Snapshot). record { site = q.to; told = s }) o)
        ≡ told_by q.to o
    by None = refl
    by (Some s) = refl

-- the first of a list is what it tells of itself, if anything
shuts_first : (q : AdminRequest) (cs : List AdminRequest) → shuts_of (q ∷ cs) ≡ shut_list (shut_by q) ++ shuts_of cs
shuts_first q cs = by (told_shut q) refl
  where
    by : (o : Option ToldShut) → told_shut q ≡ o
        → shuts_of (q ∷ cs) ≡ shut_list (option_map to_shut (told_shut q)) ++ shuts_of cs
    by None is = rw is refl
    by (Some t) is = rw is refl

nothing_told : (q : AdminRequest) → q.taken ≡ None → shut_by q ≡ None
nothing_told q is = rw is refl

-- who tells of itself tells its own site

own_site : (site x : ℕ) (o : Option Snapshot) → x ≢ site → shut_at (shut_list (told_by site o)) x ≡ None
own_site site x None apart = refl
own_site site x (Some s) apart = rw (differ site x (λ same. apart (sym same))) refl

by_is : (q : AdminRequest) → shut_by q ≡ told_by q.to (option_and_then shut_in (answer_to q))
by_is q = by (option_and_then shut_in (answer_to q))
  where
    by : (o : Option Snapshot) → option_map to_shut (option_map (λ (s : Snapshot). record { site = q.to; told = s }) o)
        ≡ told_by q.to o
    by None = refl
    by (Some s) = refl

other_site : (q : AdminRequest) (x : ℕ) → x ≢ q.to → shut_at (shut_list (shut_by q)) x ≡ None
other_site q x apart = ap (λ (o : Option ShutSite). shut_at (shut_list o) x) (by_is q)
    ∙ own_site q.to x (option_and_then shut_in (answer_to q)) apart

shut_both : (xs ys : List ShutSite) (x : ℕ) → shut_at (xs ++ ys) x ≡ option_or (shut_at xs x) (shut_at ys x)
shut_both xs ys x = find-append (λ (s : ShutSite). s.site == x) xs ys

pub nobody_told : (cs : List AdminRequest) (x : ℕ) → ((y : ℕ) → In y (sites_of cs) → x ≢ y)
    → shut_at (shuts_of cs) x ≡ None
nobody_told [] x apart = refl
nobody_told (q ∷ cs) x apart =
    ap (λ (v : List ShutSite). shut_at v x) (shuts_first q cs) ∙ shut_both (shut_list (shut_by q)) (shuts_of cs) x
    ∙ ap (λ (o : Option ShutSite). option_or o (shut_at (shuts_of cs) x)) (other_site q x (apart q.to (inl refl)))
    ∙ nobody_told cs x (λ y among. apart y (inr among))

-- in asked order they are those of the account, where each site tells the same in both

abbrev pub AreShut : List ShutSite → List AdminRequest → Type 0
AreShut shuts cs = (site : ℕ) → shut_at shuts site ≡ shut_at (shuts_of cs) site

itself : (q : AdminRequest) → shut_at (shut_list (shut_by q)) q.to ≡ shut_by q
itself q = ap (λ (o : Option ShutSite). shut_at (shut_list o) q.to) (by_is q)
    ∙ by (option_and_then shut_in (answer_to q)) ∙ sym (by_is q)
  where
    by : (o : Option Snapshot) → shut_at (shut_list (told_by q.to o)) q.to ≡ told_by q.to o
    by None = refl
    by (Some s) = rw (eq-eqb q.to q.to refl) refl

or_none : {A : Type 0} (o : Option A) → option_or o None ≡ o
or_none None = refl
or_none (Some x) = refl

ordered : (shuts : List ShutSite) (cs : List AdminRequest) → AreApart (sites_of cs)
    → ((q : AdminRequest) → In q cs → shut_at shuts q.to ≡ shut_by q)
    → in_asked_order (map close_asked cs) shuts ≡ shuts_of cs
ordered shuts [] apart told = refl
ordered shuts (q ∷ cs) apart told =
    (λ i. shut_list (told q (inl refl) i) ++ ordered shuts cs apart.1 (λ x among. told x (inr among)) i)
    ∙ sym (shuts_first q cs)

each_told : (cs : List AdminRequest) → AreApart (sites_of cs) → (q : AdminRequest) → In q cs
    → shut_at (shuts_of cs) q.to ≡ shut_by q
each_told [] apart q among = absurd among
each_told (p ∷ cs) apart q among =
    ap (λ (v : List ShutSite). shut_at v q.to) (shuts_first p cs) ∙ shut_both (shut_list (shut_by p)) (shuts_of cs) q.to
    ∙ elim among [
      | inl same ↦
          ap (λ (o : Option ShutSite). option_or (shut_at (shut_list (shut_by p)) q.to) o)
          (nobody_told cs q.to (subst (λ (k : ℕ). (y : ℕ) → In y (sites_of cs) → k ≢ y)
          (sym (ap (λ (x : AdminRequest). x.to) same)) apart.0))
          ∙ or_none (shut_at (shut_list (shut_by p)) q.to)
          ∙ subst (λ (x : AdminRequest). shut_at (shut_list (shut_by x)) q.to ≡ shut_by q) same (itself q)
      | inr later ↦
          ap (λ (o : Option ShutSite). option_or o (shut_at (shuts_of cs) q.to))
          (other_site p q.to (λ same. apart.0 q.to (In-map (λ (x : AdminRequest). x.to) q cs later) (sym same)))
          ∙ each_told cs apart.1 q later
    ]

pub in_order : (shuts : List ShutSite) (cs : List AdminRequest) → AreApart (sites_of cs) → AreShut shuts cs
    → in_asked_order (map close_asked cs) shuts ≡ shuts_of cs
in_order shuts cs apart are = ordered shuts cs apart (λ q among. are q.to ∙ each_told cs apart q among)

-- one Close more tells nothing

pub shuts_more : (shuts : List ShutSite) (cs : List AdminRequest) (q : AdminRequest) → q.taken ≡ None → AreShut shuts cs
    → AreShut shuts (cs ++ q ∷ [])
shuts_more shuts cs q open_still are site = are site ∙ ap (λ (v : List ShutSite). shut_at v site) (sym same)
  where
    same : shuts_of (cs ++ q ∷ []) ≡ shuts_of cs
    same =
        ap (map to_shut) (filter_map-append told_shut cs (q ∷ []))
        ∙ map-append to_shut (filter_map told_shut cs) (filter_map told_shut (q ∷ []))
        ∙ ap (λ (v : List ShutSite). shuts_of cs ++ v)
        (shuts_first q [] ∙ ap (λ (o : Option ShutSite). shut_list o ++ []) (nothing_told q open_still))
        ∙ append-nil (shuts_of cs)

-- what is taken for one is told of its site

or_or : {A : Type 0} (a b c : Option A) → option_or (option_or a b) c ≡ option_or a (option_or b c)
or_or None b c = refl
or_or (Some x) b c = refl

told_more : (number site : ℕ) (answer : Option Answer) (cs : List AdminRequest) → AreApart (sites_of cs)
    → AreApart (numbers_of cs) → IsCalled number site cs
    → (x : ℕ) → shut_at (shuts_of (takes number answer cs)) x ≡ option_or (shut_at (shuts_of cs) x)
    (shut_at (shut_list (shut_from site answer)) x)
told_more number site answer [] sites numbers c x = absurd c.among
told_more number site answer (q ∷ cs) sites numbers c x = elim c.among [
  | inl same ↦ here same
  | inr among ↦ (let found : IsCalled number site cs =
      record { request = c.request; among = among; number_is = c.number_is; to_is = c.to_is; open_still = c.open_still }
      in
      there found (told_more number site answer cs sites.1 numbers.1 found x))
]
  where
    here : c.request ≡ q → shut_at (shuts_of (takes number answer (q ∷ cs))) x ≡ option_or
        (shut_at (shuts_of (q ∷ cs)) x) (shut_at (shut_list (shut_from site answer)) x)
    here same =
        let number_is : q.number ≡ number = sym (ap (λ (v : AdminRequest). v.number) same) ∙ c.number_is in
        let to_is : q.to ≡ site = sym (ap (λ (v : AdminRequest). v.to) same) ∙ c.to_is in
        let open_still : q.taken ≡ None = sym (ap (λ (v : AdminRequest). v.taken) same) ∙ c.open_still in
        ap (λ (v : List ShutSite). shut_at v x)
        ((λ i. shuts_of (this_taken number answer q number_is open_still i ∷ others_taken number answer cs
        (λ y among. subst (λ (k : ℕ). k ≢ y) number_is (numbers.0 y among)) i))
        ∙ shuts_first (took q answer) cs ∙ ap (λ (o : Option ShutSite). shut_list o ++ shuts_of cs)
        (shut_took q answer ∙ ap (λ (k : ℕ). shut_from k answer) to_is))
        ∙ shut_both (shut_list (shut_from site answer)) (shuts_of cs) x
        ∙ either (x == site) refl to_is
        ∙ ap (λ (v : List ShutSite). option_or (shut_at v x) (shut_at (shut_list (shut_from site answer)) x))
        (sym (shuts_first q cs ∙ ap (λ (o : Option ShutSite). shut_list o ++ shuts_of cs)
        (nothing_told q open_still)))
      where
        -- nobody else is of its site

        either : (b : Bool) → (x == site) ≡ b → q.to ≡ site
            → option_or (shut_at (shut_list (shut_from site answer)) x) (shut_at (shuts_of cs) x) ≡ option_or
            (shut_at (shuts_of cs) x) (shut_at (shut_list (shut_from site answer)) x)
        either true is to_is =
            let none : shut_at (shuts_of cs) x ≡ None =
            nobody_told cs x (subst (λ (k : ℕ). (y : ℕ) → In y (sites_of cs) → k ≢ y)
            (to_is ∙ sym (eqb-true x site is)) sites.0) in
            ap (option_or (shut_at (shut_list (shut_from site answer)) x)) none
            ∙ or_none (shut_at (shut_list (shut_from site answer)) x)
            ∙ sym (ap (λ (o : Option ShutSite). option_or o (shut_at (shut_list (shut_from site answer)) x)) none)
        either false is to_is =
            let apart : x ≢ site = λ same_site. (let no : true ≡ false = sym (eq-eqb x site same_site)
            ∙ is in let never : ⊥ = cc in never) in
            let none : shut_at (shut_list (shut_from site answer)) x ≡ None =
            own_site site x (option_and_then shut_in answer) apart in
            ap (λ (o : Option ShutSite). option_or o (shut_at (shuts_of cs) x)) none
            ∙ sym (ap (option_or (shut_at (shuts_of cs) x)) none ∙ or_none (shut_at (shuts_of cs) x))

    there : IsCalled number site cs → shut_at (shuts_of (takes number answer cs)) x ≡ option_or
        (shut_at (shuts_of cs) x) (shut_at (shut_list (shut_from site answer)) x)
        → shut_at (shuts_of (takes number answer (q ∷ cs))) x ≡ option_or (shut_at (shuts_of (q ∷ cs)) x)
        (shut_at (shut_list (shut_from site answer)) x)
    there f more =
        let other_number : q.number ≢ number = λ same. numbers.0 f.request.number
        (In-map (λ (v : AdminRequest). v.number) f.request cs f.among) (same ∙ sym f.number_is) in
        ap (λ (v : List ShutSite). shut_at v x)
        (ap (λ (v : AdminRequest). shuts_of (v ∷ takes number answer cs)) (other_taken number answer q other_number)
        ∙ shuts_first q (takes number answer cs))
        ∙ shut_both (shut_list (shut_by q)) (shuts_of (takes number answer cs)) x
        ∙ ap (option_or (shut_at (shut_list (shut_by q)) x)) more
        ∙ sym (or_or (shut_at (shut_list (shut_by q)) x) (shut_at (shuts_of cs) x)
        (shut_at (shut_list (shut_from site answer)) x))
        ∙ ap (λ (o : Option ShutSite). option_or o (shut_at (shut_list (shut_from site answer)) x))
        (sym (ap (λ (v : List ShutSite). shut_at v x) (shuts_first q cs)
        ∙ shut_both (shut_list (shut_by q)) (shuts_of cs) x))

pub shuts_taken : (shuts : List ShutSite) (number site : ℕ) (answer : Option Answer) (cs : List AdminRequest)
    → AreApart (sites_of cs) → AreApart (numbers_of cs) → IsCalled number site cs
    → AreShut shuts cs → AreShut (with_shut_of shuts site answer) (takes number answer cs)
shuts_taken shuts number site answer cs sites numbers c are x =
    ap (λ (v : List ShutSite). shut_at v x) (with_shut_is shuts site answer)
    ∙ shut_both shuts (shut_list (shut_from site answer)) x
    ∙ ap (λ (o : Option ShutSite). option_or o (shut_at (shut_list (shut_from site answer)) x)) (are x)
    ∙ sym (told_more number site answer cs sites numbers c x)

-- Where records are kept, the commit records that clients wrote, or rose with, are just those in their journals now:
-- what is in a journal was written or rose, and stays there.
use Rattle.std.proofs.Common.{◌≡◌, ◌⊎◌, ℕ, ◌==◌, Bool, true, false, cond, List, [], ◌∷◌, ◌++◌, option_to_list, filter}
use Rattle.std.proofs.Common.{flat_map, fold, map, inl, inr, refl, sym, ap, ◌∙◌, subst, append_assoc, Option, eq-eqb}
use Rattle.std.proofs.Common.{eqb-true, if◌then◌else◌}
use Rattle.std.specs.Option.{option_map_or}
use Rattle.std.specs.List.{filter_map}
use Rattle.std.proofs.lemmas.List.{append-nil}
use Rattle.std.proofs.lemmas.List.Sums.{fold-append}
use Rattle.qc_decl.specs.Vocabulary.{is_client}
use Rattle.qc_decl.specs.declared.declaration.Declaration.{Declaration}
use Rattle.qc_entry.specs.declared.record.Commit.{Commit as CommitRecord}
use Rattle.qc_list.specs.Vocabulary.{In}
use Rattle.qc_list.proofs.Members.{In-first, In-second, In-either}
use Rattle.qc_msg.specs.Vocabulary.{Entry, commit_of, own}
use Rattle.qc_msg.specs.declared.record.Record.{Record}
use Rattle.qc_msg.specs.declared.record.Record.TheVariants as records
use Rattle.qc_msg.specs.declared.step.Step.{Step}
use Rattle.qc_msg.proofs.DeedsGrow.{own-append}
use Rattle.qc_promise.specs.Vocabulary.{IsGivenBack, IsKeptAt, Journal, Kept, commits_by, commits_in, journal_of}
use Rattle.qc_promise.specs.Vocabulary.{journal_with, no_journal, records as records_in}
use Rattle.laws_reach.specs.Vocabulary.{AreStanding, IsOfClient, records_of}
use Rattle.laws_reach.proofs.Written.{alone, among_is, is_among}
use Rattle.laws_reach.proofs.JournalCases.{journal_by, journal_cases}

-- what is in a journal after a step was there before it, or is of the step

-- the commit records of a step of which this is read
abbrev commits_by_reading : Option Record → Option (List Record) → List CommitRecord
commits_by_reading wrote rose =
    option_map_or (λ (written : Record). option_to_list (commit_of written)) wrote
    (option_map_or (filter_map commit_of) rose [])

came_by : (c : CommitRecord) (j : Journal) (x : Step) → In (records.Commit c) (journal_with j x).records
    → In (records.Commit c) j.records ⊎ In c (commits_in x)
came_by c j x among =
    journal_cases
    (λ x wrote fell rose. In (records.Commit c) (journal_by j wrote fell rose).records
    → In (records.Commit c) j.records ⊎ In c (commits_by_reading wrote rose))
    (λ written among. elim (In-either (records.Commit c) j.records (written ∷ []) among) [
      | inl before ↦ inl before
      | inr now ↦ inr (subst (In c) (sym (alone (commit_of written))) (among_is c (written ∷ []) now))
    ])
    (λ f among. inl among) (λ kept among. inr (among_is c kept among)) (λ x among. inl among) x among

came : (c : CommitRecord) (j : Journal) (xs : List Step) → In (records.Commit c) (fold journal_with j xs).records
    → In (records.Commit c) j.records ⊎ In c (flat_map commits_in xs)
came c j [] among = inl among
came c j (x ∷ xs) among = elim (came c (journal_with j x) xs among) [
  | inl before ↦ elim (came_by c j x before)
      [ inl first ↦ inl first | inr now ↦ inr (In-first c (commits_in x) (flat_map commits_in xs) now) ]
  | inr later ↦ inr (In-second c (commits_in x) (flat_map commits_in xs) later)
]

-- what a step writes, or an actor rises with, is in its journal then

goes_in : (c : CommitRecord) (j : Journal) (x : Step) → In c (commits_in x)
    → In (records.Commit c) (journal_with j x).records
goes_in c j x among =
    journal_cases
    (λ x wrote fell rose. In c (commits_by_reading wrote rose)
    → In (records.Commit c) (journal_by j wrote fell rose).records)
    (λ written among. In-second (records.Commit c) j.records (written ∷ [])
    (is_among c (written ∷ []) (subst (In c) (alone (commit_of written)) among)))
    (λ f never. absurd never) (λ kept among. is_among c kept among) (λ x never. absurd never) x among

-- and a step that keeps the records leaves it there

pub given_back : (r : Record) (j : Journal) (given : List Record) → IsGivenBack j given → In r j.records → In r given
given_back r j given (inl same) among = subst (In r) (sym same) among
given_back r j given (inr more) among = subst (In r) (sym more) (In-first r j.records (option_to_list j.pending) among)

pub stays_by : (r : Record) (before : List Step) (x : Step) → IsKeptAt before x → In r (journal_of before).records
    → In r (journal_with (journal_of before) x).records
stays_by r before x kept among =
    journal_cases
    (λ x wrote fell rose. IsKeptAt before x → In r (journal_by (journal_of before) wrote fell rose).records)
    (λ written kept. In-first r (journal_of before).records (written ∷ []) among) (λ f kept. among)
    (λ given kept. given_back r (journal_of before) given kept among) (λ x kept. among) x kept

-- the actor of an entry, and any other

pub own_one : (a : ℕ) (e : Entry) (t : Bool) → (e.actor == a) ≡ t → own a (e ∷ []) ≡ cond t (e.step ∷ []) []
own_one a e true is = ap (λ (b : Bool). map (λ (k : Entry). k.step) (cond b (e ∷ []) [])) is
own_one a e false is = ap (λ (b : Bool). map (λ (k : Entry). k.step) (cond b (e ∷ []) [])) is

pub journal_next : (a : ℕ) (before : List Entry) (e : Entry) (t : Bool) → (e.actor == a) ≡ t
    → journal_of (own a (before ++ e ∷ [])) ≡ cond t (journal_with (journal_of (own a before)) e.step)
    (journal_of (own a before))
journal_next a before e true is = ap journal_of
    (own-append a before (e ∷ []) ∙ ap (λ (v : List Step). own a before ++ v) (own_one a e true is))
    ∙ fold-append journal_with no_journal (own a before) (e.step ∷ [])
journal_next a before e false is = ap journal_of
    (own-append a before (e ∷ []) ∙ ap (λ (v : List Step). own a before ++ v) (own_one a e false is)
    ∙ append-nil (own a before))

module _ (decl : Declaration) where
  by_client : (e : Entry) → is_client decl e.actor ≡ true → commits_by decl e ≡ commits_in e.step
  by_client e client = ap (λ (b : Bool). if b then commits_in e.step else []) client

  -- what a client's own steps write is among all that clients write
  owned : (c : CommitRecord) (a : ℕ) (h : List Entry) → is_client decl a ≡ true → In c (flat_map commits_in (own a h))
      → In c (records_in decl h)
  owned c a [] client among = absurd among
  owned c a (e ∷ h) client among = at (e.actor == a) refl (owned c a h client) among
    where
      at : (t : Bool) → (e.actor == a) ≡ t → (In c (flat_map commits_in (own a h)) → In c (records_in decl h))
          → In c (flat_map commits_in (map (λ (k : Entry). k.step)
          (cond t (e ∷ filter (λ (k : Entry). k.actor == a) h) (filter (λ (k : Entry). k.actor == a) h))))
          → In c (commits_by decl e ++ records_in decl h)
      at true is rest here = elim (In-either c (commits_in e.step) (flat_map commits_in (own a h)) here) [
        | inl now ↦ In-first c (commits_by decl e) (records_in decl h)
            (subst (In c) (sym (by_client e (ap (is_client decl) (eqb-true e.actor a is) ∙ client))) now)
        | inr later ↦ In-second c (commits_by decl e) (records_in decl h) (rest later)
      ]
      at false is rest here = In-second c (commits_by decl e) (records_in decl h) (rest here)

  of_step : (c : CommitRecord) (e : Entry) → In c (commits_by decl e)
      → (is_client decl e.actor ≡ true) × In c (commits_in e.step)
  of_step c e among = at (is_client decl e.actor) refl among
    where
      at : (t : Bool) → is_client decl e.actor ≡ t → In c (if t then commits_in e.step else [])
          → (is_client decl e.actor ≡ true) × In c (commits_in e.step)
      at true is here = (is, here)
      at false is here = absurd here

  arrives : (c : CommitRecord) (before : List Entry) (e : Entry) → In c (commits_by decl e)
      → IsOfClient decl (records_of (before ++ e ∷ [])) c
  arrives c before e among =
      let here : (is_client decl e.actor ≡ true) × In c (commits_in e.step) = of_step c e among in
      record {
        actor = e.actor;
        client = here.0;
        listed = subst (λ (j : Journal). In (records.Commit c) j.records)
            (sym (journal_next e.actor before e true (eq-eqb e.actor e.actor refl)))
            (goes_in c (journal_of (own e.actor before)) e.step here.1);
      }

  goes_on : (c : CommitRecord) (before : List Entry) (e : Entry) → IsKeptAt (own e.actor before) e.step
      → IsOfClient decl (records_of before) c → IsOfClient decl (records_of (before ++ e ∷ [])) c
  goes_on c before e kept is = record { actor = is.actor; client = is.client; listed = at (e.actor == is.actor) refl }
    where
      at : (t : Bool) → (e.actor == is.actor) ≡ t → In (records.Commit c) (records_of (before ++ e ∷ []) is.actor)
      at true same = subst (λ (j : Journal). In (records.Commit c) j.records)
          (sym (journal_next is.actor before e true same))
          (stays_by (records.Commit c) (own is.actor before) e.step
          (subst (λ (k : ℕ). IsKeptAt (own k before) e.step) (eqb-true e.actor is.actor same) kept) is.listed)
      at false other = subst (λ (j : Journal). In (records.Commit c) j.records)
          (sym (journal_next is.actor before e false other)) is.listed

  module _ (h : List Entry) (kept : Kept h) where
    stands : (c : CommitRecord) (before later : List Entry) → before ++ later ≡ h
        → IsOfClient decl (records_of before) c ⊎ In c (records_in decl later) → IsOfClient decl (records_of h) c
    stands c before [] all (inl is) = subst (λ (k : List Entry). IsOfClient decl (records_of k) c)
        (sym (append-nil before) ∙ all) is
    stands c before [] all (inr never) = absurd never
    stands c before (e ∷ later) all (inl is) =
        stands c (before ++ e ∷ []) later (append_assoc before (e ∷ []) later ∙ all)
        (inl (goes_on c before e (kept before later e all) is))
    stands c before (e ∷ later) all (inr among) = elim (In-either c (commits_by decl e) (records_in decl later) among) [
      | inl now ↦ stands c (before ++ e ∷ []) later (append_assoc before (e ∷ []) later ∙ all)
          (inl (arrives c before e now))
      | inr after ↦ stands c (before ++ e ∷ []) later (append_assoc before (e ∷ []) later ∙ all) (inr after)
    ]

    pub committed_records_stand : AreStanding decl h (records_in decl h)
    committed_records_stand = record {
      each = λ c among. stands c [] h refl (inr among);
      all = λ c is. elim (came c no_journal (own is.actor h) is.listed)
          [ inl never ↦ absurd never | inr written ↦ owned c is.actor h is.client written ];
    }

-- Keys of commit records in their order, and one record more.
use Rattle.std.proofs.Common.{◌≡◌, ℕ, ◌+◌, ◌<◌, ◌++◌, Bool, true, false, cond, List, [], ◌∷◌, Option, Some, None}
use Rattle.std.proofs.Common.{length, get_or, map, take, sym, ap, refl, ◌∙◌, Ordering}
use Rattle.std.specs.Prelude.{fold, option_to_list}
use Rattle.std.specs.List.{cons_option, filter_map, flat_map}
use Rattle.std.proofs.lemmas.Grind.{flat_map-append}
use Rattle.std.proofs.lemmas.List.{append-nil}
use Rattle.std.specs.declared.cmp.Ordering.TheVariants.{Less, Equal, Greater}
use Rattle.std.specs.BTreeSet.{insert_key}
use Rattle.std.proofs.lemmas.List.Sums.{fold-append}
use Rattle.std.proofs.lemmas.List.Elements.{filter_map-append}
use Rattle.qc_entry.specs.declared.record.Commit.{Commit}
use Rattle.qc_list.specs.Vocabulary.{by_order}
use Rattle.qc_decl.specs.declared.declaration.Declaration.{Declaration}
use Rattle.qc_msg.specs.Vocabulary.{Entry}
use Rattle.theory_onecopy.specs.Vocabulary.{commit_cmp, with_commit}
use Rattle.qc_promise.specs.Vocabulary.{commits_by, commits_in, committed}
use Rattle.qc_decl.specs.Vocabulary.{is_client}
use Rattle.qc_msg.specs.declared.record.Record.{Record}
use Rattle.qc_msg.specs.declared.record.Record.TheVariants as records
use Rattle.qc_msg.specs.Counts as counts
use Rattle.qc_text.specs.declared.committed.CommitKey.{CommitKey}
use Rattle.qc_text.specs.Vocabulary.{commit_of}
use Rattle.qc_text.proofs.More.{more}

-- keys are ordered as their records
abbrev pub AreOrderedAlike : (CommitKey → CommitKey → Ordering) → Type 0
AreOrderedAlike cmp = (a b : CommitKey) → cmp a b ≡ commit_cmp (commit_of a) (commit_of b)

placed : (o : Ordering) (cmp : CommitKey → CommitKey → Ordering) (k x : CommitKey) (xs : List CommitKey) → cmp k x ≡ o
    → map commit_of (insert_key cmp xs k) ≡ with_commit (map commit_of xs) (commit_of k)
    → map commit_of (insert_key cmp (x ∷ xs) k) ≡ by_order o (commit_of k ∷ commit_of x ∷ map commit_of xs)
    (commit_of x ∷ map commit_of xs) (commit_of x ∷ with_commit (map commit_of xs) (commit_of k))
placed Less cmp k x xs e h = rw e
placed Equal cmp k x xs e h = rw e
placed Greater cmp k x xs e h = rw e (ap (λ cs. commit_of x ∷ cs) h)

-- a key is added as its record is
pub key_added : (cmp : CommitKey → CommitKey → Ordering) → AreOrderedAlike cmp → (k : CommitKey) (xs : List CommitKey)
    → map commit_of (insert_key cmp xs k) ≡ with_commit (map commit_of xs) (commit_of k)
key_added cmp alike k [] = refl
key_added cmp alike k (x ∷ xs) = placed (commit_cmp (commit_of k) (commit_of x)) cmp k x xs (alike k x)
    (key_added cmp alike k xs)

-- a step more
pub committed_more : (decl : Declaration) (h : List Entry) (i : ℕ) (x d : Entry) → i < length h → x ≡ get_or h i d
    → committed decl (take (i + 1) h) ≡ fold with_commit (committed decl (take i h)) (commits_by decl x)
committed_more decl h i x d l e =
    ap (committed decl) (more h i x d l e)
    ∙ ap (fold with_commit []) (flat_map-append (commits_by decl) (take i h) (x ∷ [])
    ∙ ap (λ (cs : List Commit). flat_map (commits_by decl) (take i h) ++ cs) (append-nil (commits_by decl x)))
    ∙ fold-append with_commit [] (flat_map (commits_by decl) (take i h)) (commits_by decl x)

-- a client's
pub step_added : (decl : Declaration) (h : List Entry) (i : ℕ) (x d : Entry) (keys after : List CommitKey)
    → i < length h → x ≡ get_or h i d → is_client decl x.actor ≡ true
    → map commit_of after ≡ fold with_commit (map commit_of keys) (commits_in x.step)
    → map commit_of keys ≡ committed decl (take i h) → map commit_of after ≡ committed decl (take (i + 1) h)
step_added decl h i x d keys after l e client added known =
    added
    ∙ ap (λ (cs : List Commit). fold with_commit cs (commits_in x.step)) known
    ∙ ap (λ (b : Bool). fold with_commit (committed decl (take i h)) (cond b (commits_in x.step) [])) (sym client)
    ∙ sym (committed_more decl h i x d l e)

-- another's
pub nothing_added : (decl : Declaration) (h : List Entry) (i : ℕ) (x d : Entry) (keys : List CommitKey) → i < length h
    → x ≡ get_or h i d → is_client decl x.actor ≡ false
    → map commit_of keys ≡ committed decl (take i h) → map commit_of keys ≡ committed decl (take (i + 1) h)
nothing_added decl h i x d keys l e other known =
    known
    ∙ ap (λ (b : Bool). fold with_commit (committed decl (take i h)) (cond b (commits_in x.step) [])) (sym other)
    ∙ sym (committed_more decl h i x d l e)

-- a record more of those that a rise gives
pub record_more : (rs : List Record) (i : ℕ) (x d : Record) (cs : List Commit) → i < length rs → x ≡ get_or rs i d
    → fold with_commit cs (filter_map counts.commit_of (take (i + 1) rs)) ≡ fold with_commit
    (fold with_commit cs (filter_map counts.commit_of (take i rs))) (option_to_list (counts.commit_of x))
record_more rs i x d cs l e =
    ap (λ (ys : List Record). fold with_commit cs (filter_map counts.commit_of ys)) (more rs i x d l e)
    ∙ ap (fold with_commit cs) (filter_map-append counts.commit_of (take i rs) (x ∷ []))
    ∙ fold-append with_commit cs (filter_map counts.commit_of (take i rs)) (cons_option (counts.commit_of x) [])
    ∙ ap (fold with_commit (fold with_commit cs (filter_map counts.commit_of (take i rs)))) (one (counts.commit_of x))
  where
    one : (o : Option Commit) → cons_option o [] ≡ option_to_list o
    one None = refl
    one (Some c) = refl

-- a commit record is added, and another one isn't

pub commit_added : (cmp : CommitKey → CommitKey → Ordering) → AreOrderedAlike cmp
    → (keys after : List CommitKey) (k : CommitKey) (r : Record) (c : Commit) → after ≡ insert_key cmp keys k
    → commit_of k ≡ c → r ≡ records.Commit c
    → map commit_of after ≡ fold with_commit (map commit_of keys) (option_to_list (counts.commit_of r))
commit_added cmp alike keys after k r c added key is =
    ap (map commit_of) added ∙ key_added cmp alike k keys ∙ ap (with_commit (map commit_of keys)) key
    ∙ sym (ap (λ (x : Record). fold with_commit (map commit_of keys) (option_to_list (counts.commit_of x))) is)

pub other_left : (keys : List CommitKey) (r : Record) → ((c : Commit) → r ≡ records.Commit c → ⊥)
    → map commit_of keys ≡ fold with_commit (map commit_of keys) (option_to_list (counts.commit_of r))
other_left keys records.Life other = refl
other_left keys (records.Prepare prepared) other = refl
other_left keys (records.Done tx clock) other = refl
other_left keys (records.Close epoch) other = refl
other_left keys (records.Install start) other = refl
other_left keys (records.Commit c) other = absurd (other c refl)
other_left keys (records.Decide start) other = refl

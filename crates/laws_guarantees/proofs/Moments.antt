-- Where a commit record stands in a history: the entries before it are a run in which its client has an open input, and
-- the turn that this calls for writes it.
use Rattle.std.proofs.Common.{◌≡◌, ℕ, ◌+◌, ◌-◌, if◌then◌else◌, Bool, true, false, List, [], ◌∷◌, ◌++◌, inl, inr, length}
use Rattle.std.proofs.Common.{Option, Some, None, slice_get, refl, sym, ap, ◌∙◌, subst}
use Rattle.std.specs.List.{cons_option}
use Rattle.std.proofs.lemmas.List.{append-nil}
use Rattle.qc_list.specs.Vocabulary.{In}
use Rattle.qc_list.proofs.Members.{In-second}
use Rattle.qc_entry.specs.declared.record.Commit.{Commit as CommitRecord}
use Rattle.qc_core.specs.Vocabulary.{IsLawful}
use Rattle.qc_decl.specs.declared.declaration.Declaration.{Declaration}
use Rattle.qc_decl.specs.Vocabulary.{IsAccepted, is_client, is_site}
use Rattle.qc_msg.specs.declared.record.Record.{Record}
use Rattle.qc_msg.specs.declared.record.Record.TheVariants as records
use Rattle.qc_msg.specs.declared.reply.Reply.{Reply}
use Rattle.qc_msg.specs.declared.step.Step.{Step}
use Rattle.qc_msg.specs.declared.step.Step.TheVariants as steps
use Rattle.qc_msg.specs.declared.turn.Posting.{Posting}
use Rattle.qc_msg.specs.declared.turn.Turn.{Turn}
use Rattle.qc_msg.specs.Vocabulary.{Entry, by, commit_in, deeds, mail, marked, posted, sents, step_of, told, written}
use Rattle.qc_msg.specs.Steps as post
use Rattle.qc_script.specs.Vocabulary.{IsScriptFor, Runs, phase_of}
use Rattle.qc_script.specs.Runs.{begins, takes, posts, phase, control}
use Rattle.qc_script.specs.declared.script.Script.{Script}
use Rattle.qc_client.specs.Vocabulary.{client_after}
use Rattle.qc_site.specs.Vocabulary.{SiteMove, site_after}
use Rattle.laws_refinement.specs.Vocabulary.{commits_in}
use Rattle.laws_atomic.proofs.Posted.{control_writes, taken_writes}
use Rattle.laws_atomic.proofs.Silent.{site_silent}
use Rattle.laws_atomic.proofs.Stood.{OpenSite, Stood}
use Rattle.laws_atomic.proofs.RunsStand.{runs_stand}
use Rattle.laws_atomic.proofs.Written.{record_is}

-- an element of two lists that are appended stands in the first or in the second
pub data IsIn {A : Type 0} (xs ys before : List A) (x : A) (after : List A) : Type 0 where
  First : (m : List A) → xs ≡ before ++ x ∷ m → IsIn xs ys before x after
  Second : (m : List A) → before ≡ xs ++ m → ys ≡ m ++ x ∷ after → IsIn xs ys before x after

pub split : {A : Type 0} (xs ys before : List A) (x : A) (after : List A) → xs ++ ys ≡ before ++ x ∷ after
    → IsIn xs ys before x after
split [] ys before x after e = Second before refl e
split (z ∷ xs) ys [] x after e = First xs (let same : z ≡ x = cc in λ i. same i ∷ xs)
split (z ∷ xs) ys (w ∷ before) x after e =
    let same : z ≡ w = cc in
    let rest : xs ++ ys ≡ before ++ x ∷ after = cc in
    elim (split xs ys before x after rest) [
      | First m s ↦ First m (λ i. same i ∷ s i)
      | Second m b s ↦ Second m (λ i. (sym same) i ∷ b i) s
    ]

abbrev pub wrote : ℕ → CommitRecord → Entry
wrote a c = marked a (steps.Wrote (records.Commit c))

-- entries that write no commit record
pub none_in : (k : List Entry) → ((e : Entry) → In e k → commit_in e.step ≡ None)
    → (m : List Entry) (a : ℕ) (c : CommitRecord) (after : List Entry) → k ≡ m ++ wrote a c ∷ after → ⊥
none_in k none m a c after is = let n : Some c ≡ None =
    none (wrote a c) (subst (In (wrote a c)) (sym is) (In-second (wrote a c) m (wrote a c ∷ after) (inl refl))) in
    let never : ⊥ = cc in never

pub one_in : (e : Entry) → commit_in e.step ≡ None → (m : List Entry) (a : ℕ) (c : CommitRecord) (after : List Entry)
    → e ∷ [] ≡ m ++ wrote a c ∷ after → ⊥
one_in e none m a c after is = none_in (e ∷ []) (λ x among. at x among) m a c after is
  where
    at : (x : Entry) → In x (e ∷ []) → commit_in x.step ≡ None
    at x (inl same) = ap (λ (y : Entry). commit_in y.step) same ∙ none
    at x (inr never) = absurd never

pub sends_none : (b n : ℕ) (ps : List Posting) (reply : Option Reply) (e : Entry)
    → In e (by b (sents n ps ++ told reply)) → commit_in e.step ≡ None
sends_none b n [] None e among = absurd among
sends_none b n [] (Some reply) e (inl same) = ap (λ (y : Entry). commit_in y.step) same
sends_none b n [] (Some reply) e (inr never) = absurd never
sends_none b n (p ∷ ps) reply e (inl same) = ap (λ (y : Entry). commit_in y.step) same
sends_none b n (p ∷ ps) reply e (inr there) = sends_none b (n + 1) ps reply e there

-- the record of a turn is the first that it posts
pub record IsFirst (b : ℕ) (turn : Turn) (m : List Entry) (a : ℕ) (c : CommitRecord) : Type 0 where
  pub none : m ≡ []
  pub actor : b ≡ a
  pub writes : turn.write ≡ Some (records.Commit c)

pub first_posted : (b n : ℕ) (turn : Turn) (m : List Entry) (a : ℕ) (c : CommitRecord) (after : List Entry)
    → by b (posted n turn) ≡ m ++ wrote a c ∷ after → IsFirst b turn m a c
first_posted b n turn m a c after is = at turn.write refl m is
  where
    at : (w : Option Record) → turn.write ≡ w → (m : List Entry)
        → by b (post.wrote w ++ (sents n turn.sends ++ told turn.told)) ≡ m ++ wrote a c ∷ after → IsFirst b turn m a c
    at None e m k = absurd (none_in (by b (sents n turn.sends ++ told turn.told))
        (sends_none b n turn.sends turn.told) m a c after k)
    at (Some w) e [] k =
        let same : marked b (steps.Wrote w) ≡ wrote a c = cc in
        let step : steps.Wrote w ≡ steps.Wrote (records.Commit c) = ap (λ (y : Entry). y.step) same in
        record {
          none = refl;
          actor = ap (λ (y : Entry). y.actor) same;
          writes = e
              ∙ (let inner : w ≡ records.Commit c = cc in ap (λ (x : Record). Some x) inner);
        }
    at (Some w) e (z ∷ m) k = absurd (none_in (by b (sents n turn.sends ++ told turn.told))
        (sends_none b n turn.sends turn.told) m a c after (cc))

module _ (decl : Declaration) (script : Script) where
  -- the entries before the record
  pub record Moment (before : List Entry) (a : ℕ) (c : CommitRecord) : Type 0 where
    pub open_inputs : List Bool
    pub run : Runs (IsLawful decl) decl script before open_inputs
    pub taken : slice_get open_inputs a ≡ Some true
    pub turn : Turn
    pub law : IsLawful decl a (deeds a [] before) turn
    pub writes : turn.write ≡ Some (records.Commit c)

  pub moment : (h : List Entry) (open_inputs : List Bool) → Runs (IsLawful decl) decl script h open_inputs
      → (before : List Entry) (a : ℕ) (c : CommitRecord) (after : List Entry)
      → h ≡ before ++ wrote a c ∷ after → Moment before a c
  moment h open_inputs begins before a c after is = absurd (none_in [] (λ e never. absurd never) before a c after is)
  moment h open_inputs (takes b g slots older run free rdy) before a c after is =
      elim (split older (marked b (step_of g) ∷ []) before (wrote a c) after is) [
        | First m s ↦ moment older slots run before a c m s
        | Second m e s ↦ absurd (one_in (marked b (step_of g)) (taken_writes g) m a c after s)
      ]
  moment h open_inputs (posts b turn slots older run taken law) before a c after is =
      elim (split older (by b (posted (length (mail older)) turn)) before (wrote a c) after is) [
        | First m s ↦ moment older slots run before a c m s
        | Second m e s ↦ at m e (first_posted b (length (mail older)) turn m a c after s)
      ]
    where
      at : (m : List Entry) → before ≡ older ++ m → IsFirst b turn m a c → Moment before a c
      at m e f =
          let same : older ≡ before = sym (append-nil older) ∙ ap (λ (k : List Entry). older ++ k) (sym f.none)
          ∙ sym e in
          subst (λ (k : List Entry). Moment k a c) same
          (subst (λ (n : ℕ). Moment older n c) f.actor
          (record { open_inputs = slots; run = run; taken = taken; turn = turn; law = law; writes = f.writes }))
  moment h open_inputs (phase slots older run idle done quiet more) before a c after is =
      elim (split older (marked _ (steps.Phase (phase_of older + 1)) ∷ []) before (wrote a c) after is) [
        | First m s ↦ moment older slots run before a c m s
        | Second m e s ↦ absurd (one_in (marked _ (steps.Phase (phase_of older + 1))) refl m a c after s)
      ]
  moment h open_inputs (control line lines acted slots older run left acts) before a c after is =
      elim (split older (marked _ acted ∷ []) before (wrote a c) after is) [
        | First m s ↦ moment older slots run before a c m s
        | Second m e s ↦ absurd (one_in (marked _ acted) (control_writes line acted acts) m a c after s)
      ]

  -- a client wrote it
  pub writer : IsAccepted decl → IsScriptFor decl script → (before : List Entry) (a : ℕ) (c : CommitRecord)
      → Moment before a c → is_client decl a ≡ true
  writer accepted sound before a c k = at (is_site decl a) (is_client decl a) refl refl k.law
    where
      stood : Stood decl before k.open_inputs
      stood = runs_stand decl script accepted sound before k.open_inputs k.run

      silent : (site : is_site decl a ≡ true) → k.turn ≡ (site_after decl a (deeds a [] before)).turn → ⊥
      silent site same =
          let o : OpenSite decl (stood.net.sites a) a before = (stood.sites_are a site).opened k.taken in
          let none : commits_in k.turn.write ≡ [] =
          ap (λ (t : Turn). commits_in t.write) (same ∙ ap (λ (m : SiteMove). m.turn) o.is)
          ∙ site_silent decl (stood.net.sites a) o.given in
          let some : c ∷ [] ≡ [] = ap commits_in (sym k.writes) ∙ none in
          let never : ⊥ = cc in never

      at : (s t : Bool) → is_site decl a ≡ s → is_client decl a ≡ t
          → (if s then Some (site_after decl a (deeds a [] before)).turn else
          (if t then Some (client_after decl (a - decl.sites) (deeds a [] before)).turn else None)) ≡ Some k.turn
          → is_client decl a ≡ true
      at true t site client is = absurd (silent site
          (let same : k.turn ≡ (site_after decl a (deeds a [] before)).turn = cc in same))
      at false true site client is = client
      at false false site client is = absurd (let never : ⊥ = cc in never)

-- each record that was written stands somewhere
pub record IsWrittenIn (h : List Entry) (c : CommitRecord) : Type 0 where
  pub before : List Entry
  pub actor : ℕ
  pub after : List Entry
  pub stands : h ≡ before ++ wrote actor c ∷ after

wrote_step : (s : Step) (c : CommitRecord) → commit_in s ≡ Some c → s ≡ steps.Wrote (records.Commit c)
wrote_step (steps.Phase k) c is = absurd (let never : ⊥ = cc in never)
wrote_step (steps.Cut a b) c is = absurd (let never : ⊥ = cc in never)
wrote_step (steps.Heal a b) c is = absurd (let never : ⊥ = cc in never)
wrote_step (steps.Armed actor kind at) c is = absurd (let never : ⊥ = cc in never)
wrote_step (steps.Called command) c is = absurd (let never : ⊥ = cc in never)
wrote_step (steps.Got n) c is = absurd (let never : ⊥ = cc in never)
wrote_step (steps.Lost n) c is = absurd (let never : ⊥ = cc in never)
wrote_step (steps.Wrote r) c is = ap (λ (x : Record). steps.Wrote x) (record_is r c is)
wrote_step (steps.Sent n to message) c is = absurd (let never : ⊥ = cc in never)
wrote_step (steps.Told reply) c is = absurd (let never : ⊥ = cc in never)
wrote_step (steps.Fell cause pending) c is = absurd (let never : ⊥ = cc in never)
wrote_step (steps.Rose w) c is = absurd (let never : ⊥ = cc in never)
wrote_step (steps.Damaged offset) c is = absurd (let never : ⊥ = cc in never)

later : (e : Entry) (h : List Entry) (c : CommitRecord) → IsWrittenIn h c → IsWrittenIn (e ∷ h) c
later e h c w = record {
  before = e ∷ w.before;
  actor = w.actor;
  after = w.after;
  stands = ap (λ (k : List Entry). e ∷ k) w.stands;
}

pub written_in : (h : List Entry) (c : CommitRecord) → In c (written h) → IsWrittenIn h c
written_in [] c among = absurd among
written_in (e ∷ h) c among = at (commit_in e.step) refl among (written_in h c)
  where
    at : (o : Option CommitRecord) → commit_in e.step ≡ o → In c (cons_option o (written h))
        → (In c (written h) → IsWrittenIn h c) → IsWrittenIn (e ∷ h) c
    at None is there rest = later e h c (rest there)
    at (Some d) is (inl same) rest =
        record {
          before = [];
          actor = e.actor;
          after = h;
          stands = λ i. marked e.actor (wrote_step e.step c (is ∙ ap (λ (x : CommitRecord). Some x) (sym same)) i)
              ∷ h;
        }
    at (Some d) is (inr there) rest = later e h c (rest there)

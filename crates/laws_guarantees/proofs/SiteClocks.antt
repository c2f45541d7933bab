-- A site's clock has passed all lines that it knows, and each Done that it wrote.
use Rattle.std.proofs.Common.{[], ◌≡◌, ◌⊎◌, ◌≤◌, ℕ, max, Bool, true, false, List, ◌∷◌, ◌++◌, inl, inr, Some}
use Rattle.std.proofs.Common.{slice_get, refl, sym, ap, ◌∙◌, subst, arith, ltb-true}
use Rattle.std.specs.Prelude.{fold}
use Rattle.std.specs.List.{flat_map}
use Rattle.qc_stamp.specs.declared.stamp.TxId.{TxId}
use Rattle.qc_list.specs.Vocabulary.{In}
use Rattle.qc_list.proofs.Members.{In-first, In-second}
use Rattle.qc_entry.specs.Vocabulary.{union}
use Rattle.qc_entry.specs.declared.line.Line.{Line}
use Rattle.qc_core.specs.Vocabulary.{Acts, AreSteady, IsLawful, IsShown, IsSteady, posts, starts, takes}
use Rattle.qc_core.proofs.SiteLines.{began_shows}
use Rattle.qc_decl.specs.declared.declaration.Declaration.{Declaration}
use Rattle.qc_decl.specs.Vocabulary.{IsAccepted, is_site}
use Rattle.qc_msg.specs.declared.message.Message.{Message}
use Rattle.qc_msg.specs.declared.record.Record.{Record}
use Rattle.qc_msg.specs.declared.record.Record.TheVariants as records
use Rattle.qc_msg.specs.declared.step.Input.{Input}
use Rattle.qc_msg.specs.declared.step.Input.TheVariants as inputs
use Rattle.qc_msg.specs.Vocabulary.{Deed, Entry, Falls, Rises, Sends, Takes, Tells, Writes, deeds, turn_deeds}
use Rattle.qc_promise.specs.Vocabulary.{Act, AreDue, IsDueAt, IsDueOrOpen, Lifetime, Wrote, clock_shown, clocks_at}
use Rattle.qc_promise.specs.Vocabulary.{clocks_in, clocks_in_record, fallen_in, log_shown, posted_next, turn_due}
use Rattle.theory_machine.specs.Vocabulary.{state}
use Rattle.qc_script.specs.Vocabulary.{IsScriptFor, Runs}
use Rattle.qc_script.specs.declared.script.Script.{Script}
use Rattle.qc_site.specs.Vocabulary.{SiteState, known, site_after}
use Rattle.laws_turns.proofs.Acted.{actors_take_and_post_by_turns}
use Rattle.laws_turns.proofs.Served.{what_sites_post_is_due, sites_are_what_their_steps_show}
use Rattle.laws_turns.specs.Vocabulary.{ActsIn}
use Rattle.laws_turns.proofs.FirstLives.{only_life}
use Rattle.laws_turns.proofs.Up.{run_up}
use Rattle.laws_refinement.specs.Vocabulary.{SiteMirrors}
use Rattle.laws_atomic.proofs.Calm.{all_up}
use Rattle.laws_guarantees.proofs.Voted.{mirror, stood}
use Rattle.laws_guarantees.proofs.DonesWritten.{IsBrought, write_of, given_brings}

module _ (decl : Declaration) where
  later_brought : (tx : TxId) (clock : ℕ) (d : Deed) (ds : List Deed) → IsBrought tx clock ds
      → IsBrought tx clock (d ∷ ds)
  later_brought tx clock d ds b =
      record { envelope = b.envelope; taken = inr b.taken; stamp = b.stamp; is = b.is; clock_is = b.clock_is }

  take_brings : (before : List Deed) (tx : TxId) (clock : ℕ) (g : Input) (after : List Deed)
      → IsDueOrOpen decl (before ++ Takes g ∷ []) g after → In (Wrote (records.Done tx clock)) (posted_next after)
      → IsBrought tx clock (Takes g ∷ after)
  take_brings before tx clock g [] due among = absurd among
  take_brings before tx clock g (x ∷ after) due among =
      given_brings decl (before ++ Takes g ∷ []) tx clock g (x ∷ after)
      (write_of (records.Done tx clock) (turn_due decl (before ++ Takes g ∷ []) g) (fallen_in (posted_next (x ∷ after)))
      (subst (λ (acts : List Act). In (Wrote (records.Done tx clock)) acts) due among))

  done_brought : (before ds : List Deed) (tx : TxId) (clock : ℕ) → AreSteady ds → AreDue decl before ds
      → In (Writes (records.Done tx clock)) ds
      → In (Wrote (records.Done tx clock)) (posted_next ds) ⊎ IsBrought tx clock ds
  done_brought before [] tx clock up due among = absurd among
  done_brought before (d ∷ ds) tx clock up due among =
      by d up.0 due.0 among (done_brought (before ++ d ∷ []) ds tx clock up.1 due.1)
    where
      by : (d : Deed) → IsSteady d → IsDueAt decl before d ds
          → (Writes (records.Done tx clock) ≡ d) ⊎ In (Writes (records.Done tx clock)) ds
          → (In (Writes (records.Done tx clock)) ds
          → In (Wrote (records.Done tx clock)) (posted_next ds) ⊎ IsBrought tx clock ds)
          → In (Wrote (records.Done tx clock)) (posted_next (d ∷ ds)) ⊎ IsBrought tx clock (d ∷ ds)
      by (Takes g) up due (inl same) rest = absurd (let never : ⊥ = cc in never)
      by (Takes g) up due (inr there) rest =
          elim (rest there) [
            | inl next ↦ inr (take_brings before tx clock g ds due next)
            | inr old ↦ inr
                (later_brought tx clock (Takes g) ds old)
          ]
      by (Writes w) up due (inl same) rest =
          inl (inl (let is : records.Done tx clock ≡ w = cc in ap (λ (r : Record). Wrote r) is))
      by (Writes w) up due (inr there) rest =
          elim (rest there) [ inl next ↦ inl (inr next) | inr old ↦ inr (later_brought tx clock (Writes w) ds old) ]
      by (Sends number to m) up due (inl same) rest = absurd (let never : ⊥ = cc in never)
      by (Sends number to m) up due (inr there) rest =
          elim (rest there)
          [ inl next ↦ inl (inr next) | inr old ↦ inr (later_brought tx clock (Sends number to m) ds old) ]
      by (Tells reply) up due (inl same) rest = absurd (let never : ⊥ = cc in never)
      by (Falls cause pending) up due among rest = absurd up
      by (Rises kept) up due among rest = absurd up
      by (Tells reply) up due (inr there) rest =
          elim (rest there) [ inl next ↦ inl (inr next) | inr old ↦ inr (later_brought tx clock (Tells reply) ds old) ]

  -- deeds begin with a take

  abbrev BeginsByTake : List Deed → Type 0
  BeginsByTake ds = (g : Input) × ((rest : List Deed) × (ds ≡ Takes g ∷ rest))

  abbrev Begins : Bool → List Deed → Type 0
  Begins true ds = BeginsByTake ds
  Begins false ds = (ds ≡ []) ⊎ BeginsByTake ds

  begins_more : (ds more : List Deed) → BeginsByTake ds → BeginsByTake (ds ++ more)
  begins_more ds more b = (b.0, (b.1.0 ++ more, ap (λ (v : List Deed). v ++ more) b.1.1))

  acts_begin : (a : ℕ) (ds : List Deed) (b : Bool) (n : ℕ) → Acts decl a ds b n → Begins b ds
  acts_begin a ds b n starts = inl refl
  acts_begin a ds b n (takes older g m acts may) = by (acts_begin a older false m acts)
    where
      by : (older ≡ []) ⊎ BeginsByTake older → BeginsByTake (older ++ Takes g ∷ [])
      by (inl none) = (g, ([], ap (λ (v : List Deed). v ++ Takes g ∷ []) none))
      by (inr some) = begins_more older (Takes g ∷ []) some
  acts_begin a ds b n (posts older turn m first acts low law) =
      inr (begins_more older (turn_deeds first turn) (acts_begin a older true m acts))

  none_first : (a : ℕ) (ds : List Deed) (b : Bool) (n : ℕ) → Acts decl a ds b n → posted_next ds ≡ []
  none_first a ds b n acts = by b (acts_begin a ds b n acts)
    where
      begun : BeginsByTake ds → posted_next ds ≡ []
      begun k = ap posted_next k.1.1

      by : (t : Bool) → Begins t ds → posted_next ds ≡ []
      by true k = begun k
      by false (inl none) = ap posted_next none
      by false (inr k) = begun k

-- the clock is the greatest

max_grows : (m : ℕ) (xs : List ℕ) → m ≤ fold max m xs
max_grows m [] = omega arith
max_grows m (x ∷ xs) = let rest : max m x ≤ fold max (max m x) xs = max_grows (max m x) xs in omega arith

max_passes : (m : ℕ) (xs : List ℕ) (x : ℕ) → In x xs → x ≤ fold max m xs
max_passes m [] x among = absurd among
max_passes m (y ∷ ys) x (inl same) = let rest : max m y ≤ fold max (max m y) ys = max_grows (max m y) ys in omega arith
max_passes m (y ∷ ys) x (inr there) = max_passes (max m y) ys x there

in_clocks : (ds : List Deed) (d : Deed) (x : ℕ) → In d ds → In x (clocks_at d) → In x (flat_map clocks_at ds)
in_clocks [] d x among has = absurd among
in_clocks (y ∷ ys) d x (inl same) has =
    In-first x (clocks_at y) (flat_map clocks_at ys) (subst (λ (z : Deed). In x (clocks_at z)) same has)
in_clocks (y ∷ ys) d x (inr there) has = In-second x (clocks_at y) (flat_map clocks_at ys) (in_clocks ys d x there has)

brought_passed : (tx : TxId) (clock : ℕ) (ds : List Deed) → AreSteady ds → IsBrought tx clock ds
    → clock ≤ clock_shown ds
brought_passed tx clock ds up b =
    let here : In b.stamp.clock (clocks_at (Takes (inputs.Got b.envelope))) =
    subst (λ (m : Message). In b.stamp.clock (clocks_in m)) (sym b.is) (inl refl) in
    let all : clock_shown ds ≡ fold max 0 (flat_map clocks_at ds) =
    ap (λ (l : Lifetime). fold max 0 (flat_map clocks_in_record l.kept ++ flat_map clocks_at l.since))
    (only_life ds up) in
    let low : b.stamp.clock ≤ fold max 0 (flat_map clocks_at ds) =
    max_passes 0 (flat_map clocks_at ds) b.stamp.clock
    (in_clocks ds (Takes (inputs.Got b.envelope)) b.stamp.clock b.taken here) in
    let same : clock ≡ b.stamp.clock = b.clock_is in
    omega arith

-- in each run

module _ (decl : Declaration) (script : Script) (h : List Entry) (open_inputs : List Bool)
    (run : Runs (IsLawful decl) decl script h open_inputs) (site : ℕ) (is : is_site decl site ≡ true)
    (free : slice_get open_inputs site ≡ Some false) where
  acts : ActsIn decl site h false
  acts = actors_take_and_post_by_turns decl script h open_inputs run site false free

  up : AreSteady (deeds site [] h)
  up = run_up (IsLawful decl) decl script h open_inputs run site

  pub dones_passed : (tx : TxId) (clock : ℕ) → In (Writes (records.Done tx clock)) (deeds site [] h)
      → clock ≤ clock_shown (deeds site [] h)
  dones_passed tx clock among =
      elim (done_brought decl [] (deeds site [] h) tx clock up
      (what_sites_post_is_due decl script h open_inputs run site (ltb-true site decl.sites is)) among) [
        | inl next ↦
            absurd (subst (λ (acts : List Act). In (Wrote (records.Done tx clock)) acts)
            (none_first decl site (deeds site [] h) false acts.above acts.acts) next)
        | inr brought ↦ brought_passed tx clock (deeds site [] h) up brought
      ]

  pub lines_passed : IsAccepted decl → IsScriptFor decl script → (l : Line) → In l (log_shown (deeds site [] h))
      → l.stamp.clock ≤ clock_shown (deeds site [] h)
  lines_passed accepted sound l among =
      let s : IsShown (deeds site [] h) (site_after decl site (deeds site [] h)).site =
      sites_are_what_their_steps_show decl script h open_inputs run site (ltb-true site decl.sites is) free in
      let here : (stood decl script accepted sound h open_inputs run).net.sites site
      ≡ (site_after decl site (deeds site [] h)).site =
      ((stood decl script accepted sound h open_inputs run).sites_are site is).closed free in
      let m : SiteMirrors decl ((stood decl script accepted sound h open_inputs run).net.sites site)
      ((state (mirror decl script accepted sound h open_inputs run).acts).deeds site)
      ((state (mirror decl script accepted sound h open_inputs run).acts).life site) =
      (mirror decl script accepted sound h open_inputs run).agrees.sites site is
      (all_up decl (stood decl script accepted sound h open_inputs run).net
      (stood decl script accepted sound h open_inputs run).calm site) in
      let there : In l (known ((stood decl script accepted sound h open_inputs run).net.sites site)) =
      subst (λ (x : SiteState). In l (known x)) (sym here)
      (subst (λ (ls : List Line). In l ls)
      (λ i. union ((began_shows (deeds site [] h) ∙ sym s.began) i) (sym s.log i)) among) in
      subst (λ (n : ℕ). l.stamp.clock ≤ n) (ap (λ (x : SiteState). x.clock) here ∙ s.clock)
      (m.passed l (m.logged l there))

-- In a run with falls nobody but sites and clients does anything: others only fall.
use Rattle.std.proofs.Common.{◌≡◌, ℕ, ◌<◌, ◌≤◌, ◌==◌, ◌+◌, nat_le, nat_lt, Bool, true, false, if◌then◌else◌, List, []}
use Rattle.std.proofs.Common.{◌∷◌, ◌++◌, length, Some, None, slice_get, refl, sym, subst, arith, eqb-true, ltb-true}
use Rattle.std.specs.List.{AllByRecursion as Every}
use Rattle.std.proofs.lemmas.Bool.{and_parts}
use Rattle.qc_core.specs.Vocabulary.{IsLawfulWithFalls, actor_after, with_record}
use Rattle.qc_decl.specs.Vocabulary.{actors, administrator, controller, is_administrator, is_client, is_site}
use Rattle.qc_decl.specs.declared.declaration.Declaration.{Declaration}
use Rattle.laws_turns.proofs.Acted.{deeds-silent}
use Rattle.laws_turns.proofs.Numbered.{phase_silent}
use Rattle.qc_link.specs.Vocabulary.{most_actors}
use Rattle.qc_list.proofs.Members.{every-append}
use Rattle.qc_msg.specs.declared.record.Record.{Record}
use Rattle.qc_msg.specs.declared.step.Fall.{Fall}
use Rattle.qc_msg.specs.declared.step.Fall.TheVariants as causes
use Rattle.qc_msg.specs.declared.step.Step.{Step}
use Rattle.qc_msg.specs.declared.step.Step.TheVariants as steps
use Rattle.qc_msg.specs.declared.turn.Turn.{Turn}
use Rattle.qc_msg.specs.Vocabulary.{Deed, Entry, Falls, by, deeds, mail, marked, posted_as, step_of}
use Rattle.qc_msg.proofs.DeedsGrow.{deeds-other}
use Rattle.qc_script.specs.Vocabulary.{RunsWithFalls, begins, control, damaged, falls, phase, phase_of, posts, rises}
use Rattle.qc_script.specs.Vocabulary.{takes, unopened}
use Rattle.qc_script.specs.declared.script.Script.{Script}
use Rattle.laws_turns.specs.Vocabulary.{IsFall}
use Rattle.laws_turns.proofs.LivedMoves.{damage_silent, deeds-fall, line_silent}
use Rattle.laws_turns.proofs.Lived.{run_long}
use Rattle.qc_list.proofs.Places.{place_within}

abbrev OnlyFalls : ℕ → List Entry → Type 0
OnlyFalls a h = Every IsFall (deeds a [] h)

-- nobody else has a turn

neither : (site client admin : Bool) (t turn : Turn) → site ≡ false → client ≡ false → admin ≡ false
    → (if site then Some t else (if client then Some t else (if admin then Some t else None))) ≡ Some turn → ⊥
neither true client admin t turn isnt other none called = let no : ⊥ = cc in no
neither false true admin t turn isnt other none called = let no : ⊥ = cc in no
neither false false true t turn isnt other none called = let no : ⊥ = cc in no
neither false false false t turn isnt other none called = let no : ⊥ = cc in no

turnless : (decl : Declaration) (a : ℕ) (ds : List Deed) (turn : Turn) → actors decl ≤ a
    → IsLawfulWithFalls decl a ds turn → ⊥
turnless decl a ds turn past law =
    neither (is_site decl a) (is_client decl a) (is_administrator decl a) (actor_after decl a ds).turn
    (with_record turn)
    (site (is_site decl a) refl) (client (is_client decl a) refl) (admin (is_administrator decl a) refl) law.called_for
  where
    site : (b : Bool) → is_site decl a ≡ b → b ≡ false
    site false is = refl
    site true is = let low : a < decl.sites = ltb-true a decl.sites is in absurd (omega (arith, low, past))

    client : (b : Bool) → is_client decl a ≡ b → b ≡ false
    client false is = refl
    client true is =
        let low : a < administrator decl =
        ltb-true a (administrator decl) (and_parts (nat_le decl.sites a) (nat_lt a (administrator decl)) is).1 in
        absurd (omega (arith, low, past))

    admin : (b : Bool) → is_administrator decl a ≡ b → b ≡ false
    admin false is = refl
    admin true is = let same : a ≡ administrator decl = eqb-true a (administrator decl) is in
        absurd (omega (arith, same, past))

module _ (decl : Declaration) (script : Script) (fits : ℕ → List Record → Type 0)
    (few : actors decl ≤ most_actors) where
  abbrev IsRun : List Entry → List Bool → Type 0
  IsRun h open_inputs = RunsWithFalls (IsLawfulWithFalls decl) fits decl script h open_inputs

  apart : (h : List Entry) (open_inputs : List Bool) → IsRun h open_inputs → (a c : ℕ) (t : Bool) → actors decl ≤ a
      → slice_get open_inputs c ≡ Some t → (c == a) ≡ false
  apart h open_inputs run a c t past is = at (c == a) refl
    where
      at : (same : Bool) → (c == a) ≡ same → same ≡ false
      at false other = refl
      at true same =
          let here : c ≡ a = eqb-true c a same in
          let place : c < length open_inputs = place_within open_inputs c t is in
          let long : length open_inputs ≡ actors decl = run_long decl script fits few h open_inputs run in
          absurd (omega (arith, here, place, long, past))

  elsewhere : (a c : ℕ) (h : List Entry) (xs : List Step) → (c == a) ≡ false → OnlyFalls a h
      → OnlyFalls a (h ++ by c xs)
  elsewhere a c h xs other old = subst (Every IsFall) (sym (deeds-other c a [] h xs other)) old

  fallen : (a c : ℕ) (h : List Entry) (cause : Fall) → OnlyFalls a h
      → OnlyFalls a (h ++ marked c (steps.Fell cause None) ∷ [])
  fallen a c h cause old = at (c == a) refl
    where
      at : (same : Bool) → (c == a) ≡ same → OnlyFalls a (h ++ marked c (steps.Fell cause None) ∷ [])
      at false other = elsewhere a c h (steps.Fell cause None ∷ []) other old
      at true same =
          subst (λ (k : ℕ). OnlyFalls a (h ++ marked k (steps.Fell cause None) ∷ [])) (sym (eqb-true c a same))
          (subst (Every IsFall) (sym (deeds-fall a h cause))
          (every-append IsFall (deeds a [] h) (Falls cause None ∷ []) old (tt, tt)))

  risen : (a c : ℕ) (h : List Entry) (records : List Record) (turn : Turn) → actors decl ≤ a
      → IsLawfulWithFalls decl c (deeds c [] (h ++ marked c (steps.Rose records) ∷ [])) turn → OnlyFalls a h
      → OnlyFalls a (h ++ by c (steps.Rose records ∷ posted_as turn.append (length (mail h)) turn))
  risen a c h records turn past law old = at (c == a) refl
    where
      at : (same : Bool) → (c == a) ≡ same
          → OnlyFalls a (h ++ by c (steps.Rose records ∷ posted_as turn.append (length (mail h)) turn))
      at false other = elsewhere a c h (steps.Rose records ∷ posted_as turn.append (length (mail h)) turn) other old
      at true same =
          absurd (turnless decl c (deeds c [] (h ++ marked c (steps.Rose records) ∷ [])) turn
          (subst (λ (k : ℕ). actors decl ≤ k) (sym (eqb-true c a same)) past) law)

  pub others_do_nothing_with_falls : (h : List Entry) (open_inputs : List Bool) → IsRun h open_inputs → (a : ℕ)
      → actors decl ≤ a
      → OnlyFalls a h
  others_do_nothing_with_falls h open_inputs begins a past = tt
  others_do_nothing_with_falls h open_inputs (takes c given before older run free rdy) a past =
      elsewhere a c older (step_of given ∷ []) (apart older before run a c false past free)
      (others_do_nothing_with_falls older before run a past)
  others_do_nothing_with_falls h open_inputs (posts c turn before older run taken law) a past =
      elsewhere a c older (posted_as turn.append (length (mail older)) turn)
      (apart older before run a c true past taken)
      (others_do_nothing_with_falls older before run a past)
  others_do_nothing_with_falls h open_inputs (phase before older run none done quiet more) a past =
      subst (Every IsFall)
      (sym (deeds-silent a (controller decl) older (steps.Phase (phase_of older + 1))
      (phase_silent (phase_of older + 1))))
      (others_do_nothing_with_falls older before run a past)
  others_do_nothing_with_falls h open_inputs (control line lines step before older run left is_step) a past =
      subst (Every IsFall) (sym (deeds-silent a (controller decl) older step (line_silent line step is_step)))
      (others_do_nothing_with_falls older before run a past)
  others_do_nothing_with_falls h open_inputs (falls c lines before older run left) a past =
      fallen a c older causes.Script (others_do_nothing_with_falls older before run a past)
  others_do_nothing_with_falls h open_inputs (rises c records turn lines before older run left fit has law) a past =
      risen a c older records turn past law (others_do_nothing_with_falls older before run a past)
  others_do_nothing_with_falls h open_inputs (damaged c offset lines before older run left) a past =
      subst (Every IsFall) (sym (deeds-silent a c older (steps.Damaged offset) (damage_silent offset)))
      (others_do_nothing_with_falls older before run a past)
  others_do_nothing_with_falls h open_inputs (unopened c cause lines before older run left disk) a past =
      fallen a c older cause (others_do_nothing_with_falls older before run a past)
